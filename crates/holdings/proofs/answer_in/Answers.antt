-- `holdings::answer_in` meets its contract.
use Rattle.arrivals.proofs.CallLaws.{answer_value, answer_unknown, answer_final, answer_done}
use Rattle.block.specs.Records.{hash_means}
use mathlib.Core.Path.{◌∙◌, sym}
use Rattle.holdings.proofs.answer_in.Goals as goal

pub returns-then-a-gt2 : goal.returns-then-a-gt2
returns-then-a-gt2 c = answer_value c.args.mem.now c.args.n (hash_means c.args.h) c.args.a c.if-a-gt2.true

pub returns-then-n-p : goal.returns-then-n-p
returns-then-n-p c = answer_unknown c.args.mem.now c.args.n (hash_means c.args.h) c.args.a c.find-p.result c.if-a-gt2.false c.find-p.ensures c.if-n-p.true

pub returns-then-clash : goal.returns-then-clash
returns-then-clash c = answer_final c.args.mem.now c.args.n (hash_means c.args.h) c.args.a c.find-p.result c.if-a-gt2.false c.find-p.ensures c.if-n-p.false (sym c.clash.ensures ∙ c.if-clash.true)

pub returns : goal.returns
returns c = answer_done c.args.mem.now c.args.n (hash_means c.args.h) c.args.a c.find-p.result c.if-a-gt2.false c.find-p.ensures c.if-n-p.false _ (sym c.clash.ensures ∙ c.if-clash.false) c.mark.ensures
