-- Document 01, "The two plans": what the code of a place that a plan writes means: the copy that stands there after the plan, by the clock and the comparison's reason of the
-- plan. A block is promoted, demoted or orphaned once, or promoted after it was orphaned as stale; a later change to it is one that an earlier one does not show in.
use Rattle.std.specs.Prelude.{not, List, ◌≡◌, ℕ, ◌-◌, ◌<◌, eqb, ℤ}
use Rattle.std.proofs.Math.Option.{none, some}
use Rattle.amount.specs.Choose.{◌if◌else◌}
use Rattle.model.specs.Record.{Reason, Copy, off_spine, competing_fork, stale_fork}
use Rattle.model.specs.Holding.{Holdings, hash_of}
use Rattle.model.specs.Writes.{promote, demote, orphan, changed, Write, touched, copy_of, copy_after}

-- 1 promoted; 2 demoted, off the spine; 3 demoted, a competing fork; 4 orphaned as stale; 5 promoted after that; 6 orphaned for the plan's reason, 7 + q with the hash at place q as competing hash
unfoldable pub code_copy : ℤ → Reason → (ℕ → ℕ) → ℕ → Copy → Copy
code_copy clock reason hash c k =
    changed promote k if eqb c 1 else
    changed (demote off_spine) k if eqb c 2 else
    changed (demote competing_fork) k if eqb c 3 else
    changed (orphan clock stale_fork none) k if eqb c 4 else
    changed promote (changed (orphan clock stale_fork none) k) if eqb c 5 else
    changed (orphan clock reason none) k if eqb c 6 else
    changed (orphan clock reason (some (hash (c - 7)))) k

-- the codes f stand for the changes ws
pub record Meant (h : Holdings) (clock : ℤ) (reason : Reason) (ws : List Write) (f : ℕ → ℕ) : Type 0 where
  pub written : (q : ℕ) → q < h.room → touched ws q ≡ not (eqb (f q) 0)
  pub copies : (q : ℕ) → q < h.room → (f q ≡ 0 → ⊥) → code_copy clock reason (λ p. hash_of (h.cells p)) (f q) (copy_of (h.cells q)) ≡ copy_after h ws q
