-- The place named and the parent: one place at most has room for a hash, so the parent is the place named if that is live, and there is none if it is not.
-- The place that a sync takes next is worked out alike by both: a place that is not live goes first.
use Prim.Native.Nat.{ℕ, suc}
use mathlib.Core.Path.{◌≡◌, refl, sym, ◌∙◌, ap}
use mathlib.Core.Bool.{Bool, true, false, ◌&&◌}
use mathlib.Core.Option.{none, some}
use native.Mathlib.Omega.{arith}
use lib.Dec.{eqb}
use borrow.Author.Tests.{lt-ltb}
use Rattle.model.specs.Holding.{Cell, free, held, Holdings, has_room, is_live, index_of}
use Rattle.model.specs.Standing.{Spine, Value, unlinked, Values, standing, names, parent, value_at}
use Rattle.model.specs.Relink.{Pending, work_out, goes_before, next}
use Rattle.model.proofs.Tools.{by_bool, by_option, no_both, and_left, and_right, first_none, first_only, first_nowhere}
use Rattle.model.proofs.Order.{next_least}
use Rattle.model.proofs.Turn.{named, work_named, Consistent, names_index, named_some, parent-some, work_dead, named_dead}

-- no two places have room for one hash
abbrev pub Distinct : Holdings → Type 0
Distinct h = (p q x : ℕ) → has_room x (h.cells p) ≡ true → has_room x (h.cells q) ≡ true → p ≡ q

-- what one cell names has room for one hash
pub one_hash : (c d e : Cell) → names c d ≡ true → names c e ≡ true → (x : ℕ) × (has_room x d ≡ true) × (has_room x e ≡ true)
unfolding names has_room
one_hash free d e m n = no_both false m refl
one_hash (held c) free e m n = no_both false m refl
one_hash (held c) (held d) free m n = no_both false n refl
one_hash (held c) (held d) (held e) m n = (c.header.prev, and_left (eqb d.header.hash c.header.prev) (eqb (suc d.header.index) c.header.index) m, and_left (eqb e.header.hash c.header.prev) (eqb (suc e.header.index) c.header.index) n)

module _ (h : Holdings) (distinct : Distinct h) where
  pub named_one : (p q r : ℕ) → names (h.cells p) (h.cells q) ≡ true → names (h.cells p) (h.cells r) ≡ true → q ≡ r
  named_one p q r m n = let o : (x : ℕ) × (has_room x (h.cells q) ≡ true) × (has_room x (h.cells r) ≡ true) = one_hash (h.cells p) (h.cells q) (h.cells r) m n in distinct q r o.0 o.1 o.2

  -- the parent by the place named
  pub by_parent : {P : Type 0} (p : ℕ)
      → (named h p ≡ none → parent h p ≡ none → P)
      → ((r : ℕ) → named h p ≡ some r → is_live (h.cells r) ≡ true → parent h p ≡ some r → P)
      → ((r : ℕ) → named h p ≡ some r → is_live (h.cells r) ≡ false → parent h p ≡ none → P)
      → P
  unfolding named parent
  by_parent p nobody alive gone = by_option (named h p) (λ e. nobody e (by_option (parent h p) (λ i. i) (λ q i. no_both (names (h.cells p) (h.cells q)) (parent-some h p q i).0 (first_none (λ q. names (h.cells p) (h.cells q)) h.room q e (parent-some h p q i).2)))) (λ r e. by_bool (is_live (h.cells r)) (λ l. alive r e l (lone r e l)) (λ l. gone r e l (first_nowhere is h.room (λ q. by_bool (is q) (λ m. no_both (is_live (h.cells q)) (is_live_lem q m) (rw (named_one p q r (is_names q m) (named_some h p r e).0) l)) (λ m. m)))))
    where
      is : ℕ → Bool
      is q = names (h.cells p) (h.cells q) && is_live (h.cells q)

      is_names : (q : ℕ) → is q ≡ true → names (h.cells p) (h.cells q) ≡ true
      is_names q e = and_left (names (h.cells p) (h.cells q)) (is_live (h.cells q)) e

      is_live_lem : (q : ℕ) → is q ≡ true → is_live (h.cells q) ≡ true
      is_live_lem q e = and_right (names (h.cells p) (h.cells q)) (is_live (h.cells q)) e

      lone : (r : ℕ) → named h p ≡ some r → is_live (h.cells r) ≡ true → parent h p ≡ some r
      lone r e l = first_only is h.room r (let n = (named_some h p r e).0 in rw (n, l)) (named_some h p r e).1 (λ q m. named_one p q r (is_names q m) (named_some h p r e).0)

  -- where a named place that is not live has no value, both give the parent's value
  pub parent_value : (v : ℕ → Value) (p : ℕ) → ((r : ℕ) → named h p ≡ some r → is_live (h.cells r) ≡ false → v r ≡ unlinked) → value_at v (parent h p) ≡ value_at v (named h p)
  parent_value v p k = by_parent p (λ n e. rw (n, e)) (λ r n l e. rw (n, e)) (λ r n l e. rw (n, e) (sym (k r n l)))

  -- the next place is worked out alike by both
  pub next_agrees : (w : Spine) (v : Values) (pend : Pending) (p : ℕ) → next h pend ≡ some p → ((q : ℕ) → pend q ≡ false → Consistent h w v q) → work_out h v w p ≡ work_named h v w p
  unfolding work_out work_named goes_before
  next_agrees w v pend p e k = by_bool (is_live (h.cells p)) alive (λ l. work_dead h v w p l ∙ sym (named_dead h v w p l))
    where
      alive : is_live (h.cells p) ≡ true → work_out h v w p ≡ work_named h v w p
      alive l = ap (standing w (h.cells p)) (parent_value (v w) p (λ r n d. by_bool (pend r) (λ b. no_both (goes_before (h.cells r) (h.cells p)) (first_of r n d) (next_least h pend p r e b (named_some h p r n).1)) (λ b. k r b ∙ named_dead h v w r d)))
        where
          first_of : (r : ℕ) → named h p ≡ some r → is_live (h.cells r) ≡ false → goes_before (h.cells r) (h.cells p) ≡ true
          first_of r n d = rw (l, d) (rw (lt-ltb 0 (index_of (h.cells p)) (omega (arith, names_index (h.cells p) (h.cells r) (named_some h p r n).0))))
