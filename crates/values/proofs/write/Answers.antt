-- `values::write` meets its contract: one store where there is none, three where it is linked.
use mathlib.Core.Path.{refl}
use native.Mathlib.Omega.{arith}
use lib.ListN.{length-set}
use Rattle.values.proofs.ValueLaws.{none_written, linked_written}
use Rattle.values.proofs.write.Goals as goal

pub returns-in-None : goal.returns-in-None
returns-in-None c = rw c.in-None.is (none_written _ _ _ (omega arith) (record { now_is = refl }))

pub bounds-mem-at-in-Linked-2 : goal.bounds-mem-at-in-Linked-2
bounds-mem-at-in-Linked-2 c = simp length-set (omega arith)

pub bounds-mem-at-in-Linked-3 : goal.bounds-mem-at-in-Linked-3
bounds-mem-at-in-Linked-3 c = simp length-set (omega arith)

pub returns-in-Linked : goal.returns-in-Linked
returns-in-Linked c = rw c.in-Linked.is (linked_written _ _ _ _ _ _ _ _ _ _ (omega arith) c.kind_of.ensures c.to_words-words.ensures (record { now_is = refl }) (record { now_is = refl }) (record { now_is = refl }))
