-- `arrivals::load_in` meets its contract.
use mathlib.Core.Path.{refl, subst}
use Rattle.block.specs.Records.{block_means}
use Rattle.block.specs.Answers.{refusal_number}
use Rattle.block.proofs.AnswerLaws.{refusal_is_none}
use Rattle.state.specs.View.{view_at}
use Rattle.arrivals.specs.Seats.{Below, Seats}
use Rattle.arrivals.proofs.PutLaws.{load_closed, load_kind, load_seat}
use Rattle.arrivals.proofs.load_in.Goals as goal

pub returns-then-mem-ne1 : goal.returns-then-mem-ne1
returns-then-mem-ne1 c = load_closed c.args.mem.now c.args.n c.args.store (block_means c.args.b) c.if-mem-ne1.true

pub returns-then-store-gt2 : goal.returns-then-store-gt2
returns-then-store-gt2 c = load_kind c.args.mem.now c.args.n c.args.store (block_means c.args.b) c.if-mem-ne1.false c.if-store-gt2.true

pub returns-in-No : goal.returns-in-No
returns-in-No c = load_seat c.args.mem.now c.args.n c.args.store (block_means c.args.b) c.if-mem-ne1.false c.if-store-gt2.false (refusal_number c.in-No.x) (refusal_is_none c.in-No.x) (λ s. subst (Seats (block_means c.args.b) (view_at c.args.mem.now c.args.n)) c.in-No.is (c.seat.ensures.right s (block_means c.args.b) refl))

pub load_old-requires : goal.load_old-requires
load_old-requires c = (c.requires, subst (Below c.args.n) c.in-Old.is c.seat.ensures.below)

pub returns-in-Old : goal.returns-in-Old
returns-in-Old c = c.load_old.ensures c.if-mem-ne1.false c.if-store-gt2.false (λ s. subst (Seats (block_means c.args.b) (view_at c.args.mem.now c.args.n)) c.in-Old.is (c.seat.ensures.right s (block_means c.args.b) refl))

pub load_new-requires : goal.load_new-requires
load_new-requires c = (c.requires, subst (Below c.args.n) c.in-New.is c.seat.ensures.below)

pub returns-in-New : goal.returns-in-New
returns-in-New c = c.load_new.ensures c.if-mem-ne1.false c.if-store-gt2.false (λ s. subst (Seats (block_means c.args.b) (view_at c.args.mem.now c.args.n)) c.in-New.is (c.seat.ensures.right s (block_means c.args.b) refl))
