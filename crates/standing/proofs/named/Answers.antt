-- `standing::named` meets its contract: a hash has one place, where the row says or where the index has it.
use mathlib.Core.Path.{sym, ◌∙◌}
use Rattle.standing.proofs.ParentLaws.{by_words, by_room}
use Rattle.standing.proofs.named.Goals as goal

pub returns-then-has_named : goal.returns-then-has_named
returns-then-has_named c = λ s. let a = c.args in by_room a.mem.now a.n a.p s _ _ (sym c.has_named.ensures ∙ c.if-has_named.true)

pub returns : goal.returns
returns c = λ s. let a = c.args in by_words a.mem.now a.n a.p _ (c.find.ensures s)
