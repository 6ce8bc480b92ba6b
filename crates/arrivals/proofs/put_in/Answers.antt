-- `arrivals::put_in` meets its contract.
use mathlib.Core.Path.{refl, subst}
use Rattle.block.specs.Records.{block_means}
use Rattle.block.specs.Answers.{refusal_number}
use Rattle.block.proofs.AnswerLaws.{refusal_is_none}
use Rattle.state.specs.View.{view_at}
use Rattle.arrivals.specs.Seats.{Below, Seats}
use Rattle.arrivals.proofs.PutLaws.{put_kind, put_seat}
use Rattle.arrivals.proofs.put_in.Goals as goal

pub returns-then-store-gt2 : goal.returns-then-store-gt2
returns-then-store-gt2 c = put_kind c.args.mem.now c.args.n c.args.store (block_means c.args.b) c.if-store-gt2.true

pub returns-in-No : goal.returns-in-No
returns-in-No c = put_seat c.args.mem.now c.args.n c.args.store (block_means c.args.b) c.if-store-gt2.false (refusal_number c.in-No.x) (refusal_is_none c.in-No.x) (λ s. subst (Seats (block_means c.args.b) (view_at c.args.mem.now c.args.n)) c.in-No.is (c.seat.ensures.right s (block_means c.args.b) refl))

pub put_old-requires : goal.put_old-requires
put_old-requires c = (c.requires, subst (Below c.args.n) c.in-Old.is c.seat.ensures.below)

pub returns-in-Old : goal.returns-in-Old
returns-in-Old c = c.put_old.ensures c.if-store-gt2.false (λ s. subst (Seats (block_means c.args.b) (view_at c.args.mem.now c.args.n)) c.in-Old.is (c.seat.ensures.right s (block_means c.args.b) refl))

pub put_new-requires : goal.put_new-requires
put_new-requires c = (c.requires, subst (Below c.args.n) c.in-New.is c.seat.ensures.below)

pub returns-in-New : goal.returns-in-New
returns-in-New c = c.put_new.ensures c.if-store-gt2.false (λ s. subst (Seats (block_means c.args.b) (view_at c.args.mem.now c.args.n)) c.in-New.is (c.seat.ensures.right s (block_means c.args.b) refl))
