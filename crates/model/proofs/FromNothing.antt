-- Consistent values are those worked out from nothing, and freed room leaves them consistent.
use Prim.Native.Nat.{ℕ, zero, suc}
use mathlib.Core.Path.{◌≡◌, refl, sym, ◌∙◌, ap, fun_ext}
use mathlib.Core.Bool.{Bool, true, false}
use mathlib.Core.Option.{Option, none, some}
use native.Mathlib.Omega.{arith}
use Rattle.model.specs.Places.{first, is_some}
use Rattle.model.specs.Record.{Copy}
use Rattle.model.specs.Holding.{Cell, free, held, Holdings, effective, copy_is_live, is_held, is_live, released, release, index_of}
use Rattle.model.specs.Standing.{Spine, Value, unlinked, Values, standing, names, parent, value_at, at_index, from_nothing}
use Rattle.model.proofs.Tools.{by_bool, by_option, no_both, first_some, first_none, first_only, first_nowhere}
use Rattle.model.proofs.Turn.{named, work_named, Consistent, names_index, named_some, parent-some, standing_zero, named_dead}
use Rattle.model.proofs.Parent.{Distinct, named_one, parent_value}

pub names-free : (c : Cell) → names c free ≡ false
unfolding names
names-free free = refl
names-free (held c) = refl

pub dead_unheld : (c : Cell) → is_held c ≡ false → is_live c ≡ false
unfolding is_held is_live
dead_unheld free e = refl
dead_unheld (held c) e = go (effective c) e
  where
    go : (o : Option Copy) → is_some o ≡ false → copy_is_live o ≡ false
    go none e = refl
    go (some k) e = no_both true refl e

pub held_live : (c : Cell) → is_live c ≡ true → is_held c ≡ true
held_live c e = by_bool (is_held c) (λ i. i) (λ i. no_both (is_live c) e (dead_unheld c i))

pub dead_released : (c : Cell) → is_live c ≡ false → is_live (released c) ≡ false
unfolding is_live
dead_released c e = by_bool (is_held c) (λ i. rw i e) (λ i. rw i)

-- ---- the values worked out from nothing are the one solution of 01's rule ----

-- the rule: the parent's value is that of the live block named by the previous hash whose index is one less
abbrev pub Ruled : Holdings → Spine → (ℕ → Value) → Type 0
Ruled h w v = (p : ℕ) → v p ≡ standing w (h.cells p) (value_at v (parent h p))

module _ (h : Holdings) where
  parent_index : (p q : ℕ) → parent h p ≡ some q → index_of (h.cells p) ≡ suc (index_of (h.cells q))
  parent_index p q e = names_index (h.cells p) (h.cells q) (parent-some h p q e).0

  pub rule_holds : (w : Spine) → Ruled h w (from_nothing h w)
  unfolding from_nothing at_index
  rule_holds w p = go (index_of (h.cells p)) refl
    where
      go : (i : ℕ) → index_of (h.cells p) ≡ i → at_index i h w p ≡ standing w (h.cells p) (value_at (from_nothing h w) (parent h p))
      go zero e = standing_zero w (h.cells p) _ _ e
      go (suc i) e = ap (standing w (h.cells p)) (by_option (parent h p) (λ n. rw n) (λ q n. let z : i ≡ index_of (h.cells q) = omega (arith, parent_index p q n) in rw (n, z)))

  pub rule_once : (w : Spine) (v : ℕ → Value) → Ruled h w v → v ≡ from_nothing h w
  unfolding from_nothing at_index
  rule_once w v k = fun_ext (λ p. go (index_of (h.cells p)) p refl)
    where
      go : (i : ℕ) (p : ℕ) → index_of (h.cells p) ≡ i → v p ≡ at_index i h w p
      go zero p e = k p ∙ standing_zero w (h.cells p) _ _ e
      go (suc i) p e = k p ∙ ap (standing w (h.cells p)) (same (λ q j. go i q j))
        where
          same : ((q : ℕ) → index_of (h.cells q) ≡ i → v q ≡ at_index i h w q) → value_at v (parent h p) ≡ value_at (at_index i h w) (parent h p)
          same ih = by_option (parent h p) (λ n. rw n) (λ q n. rw n (ih q (omega (arith, parent_index p q n))))

-- ---- consistent values ----

module _ (h : Holdings) (distinct : Distinct h) where
  module _ (w : Spine) (v : Values) (consistent : (p : ℕ) → Consistent h w v p) where
    dead : (p : ℕ) → is_live (h.cells p) ≡ false → v w p ≡ unlinked
    dead p e = consistent p ∙ named_dead h v w p e

    -- so the values are those of 01's rule, worked out from nothing
    pub from_nothing_lem : v w ≡ from_nothing h w
    unfolding work_named
    from_nothing_lem = rule_once h w (v w) (λ p. consistent p ∙ ap (standing w (h.cells p)) (sym (parent_value h distinct (v w) p (λ r n l. dead r l))))

    -- ---- freed room ----

    pub release_consistent : (p : ℕ) → Consistent (release h) w v p
    unfolding release work_named named
    release_consistent p = by_bool (is_live (h.cells p)) alive gone
      where
        gone : is_live (h.cells p) ≡ false → v w p ≡ work_named (release h) v w p
        gone e = dead p e ∙ sym (named_dead (release h) v w p (dead_released (h.cells p) e))

        alive : is_live (h.cells p) ≡ true → v w p ≡ work_named (release h) v w p
        alive e = rw (held_live (h.cells p) e) (consistent p ∙ ap (standing w (h.cells p)) (by_option (named h p) nobody somebody))
          where
            is : ℕ → Bool
            is q = names (h.cells p) (released (h.cells q))

            is_names : (q : ℕ) → is q ≡ true → (names (h.cells p) (h.cells q) ≡ true) × (is_held (h.cells q) ≡ true)
            is_names q m = by_bool (is_held (h.cells q)) (λ i. (rw i at m, i)) (λ i. no_both (names (h.cells p) free) (rw i at m) (names-free (h.cells p)))

            nobody : named h p ≡ none → value_at (v w) (named h p) ≡ value_at (v w) (first is h.room)
            nobody n = by_option (first is h.room) (λ i. rw (n, i)) (λ q i. let g = first_some is h.room q i in no_both (names (h.cells p) (h.cells q)) (is_names q g.0).0 (first_none (λ q. names (h.cells p) (h.cells q)) h.room q n g.1))

            somebody : (r : ℕ) → named h p ≡ some r → value_at (v w) (named h p) ≡ value_at (v w) (first is h.room)
            somebody r n = by_bool (is_held (h.cells r)) (λ i. let g : first is h.room ≡ some r = first_only is h.room r (rw i m) (named_some h p r n).1 (λ q k. named_one h distinct p q r (is_names q k).0 m) in rw (n, g)) (λ i. let g : first is h.room ≡ none = first_nowhere is h.room (λ q. by_bool (is q) (λ k. no_both (is_held (h.cells q)) (is_names q k).1 (rw (named_one h distinct p q r (is_names q k).0 m) i)) (λ k. k)) in rw (n, g) (dead r (dead_unheld (h.cells r) i)))
              where
                m : names (h.cells p) (h.cells r) ≡ true
                m = (named_some h p r n).0
