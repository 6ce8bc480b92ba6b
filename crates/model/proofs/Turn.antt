-- One turn of a sync: a pending place is worked out, and what is not pending stays consistent.
use Prim.Native.Nat.{ℕ, suc, ◌<◌}
use mathlib.Core.Path.{◌≡◌, refl, sym, ◌∙◌, ap, fun_ext}
use mathlib.Core.Bool.{Bool, true, false, cond, not, ◌&&◌, beq}
use mathlib.Core.Option.{Option, none, some}
use native.Mathlib.Omega.{arith}
use lib.Dec.{eqb}
use borrow.Author.Tests.{eqb-true, eqb-false, eq-eqb, ne_eqb}
use Rattle.amount.specs.Amounts.{Amount, readable, unreadable}
use Rattle.model.specs.Places.{first}
use Rattle.model.specs.Record.{Header, Copy}
use Rattle.model.specs.Holding.{Cell, free, held, Holdings, effective, copy_is_live, copy_is_canonical, is_free, is_live, is_canonical, index_of}
use Rattle.model.specs.Standing.{Spine, winner, canonical, Value, unlinked, linked, Values, may, on_actual, standing, names, parent, value_at}
use Rattle.model.specs.Relink.{Pending, work_out, same, moves, worked, follows, after}
use Rattle.model.proofs.Tools.{by_bool, by_option, no_both, no_none, and_left, and_right, or_left, or_right, not_is, first_some, put_same, put_other}

-- ---- values ----

pub same_true : (a b : Value) → same a b ≡ true → a ≡ b
same_true unlinked unlinked e = refl
same_true unlinked (linked b y) e = no_both false e refl
same_true (linked a x) unlinked e = no_both false e refl
same_true (linked a x) (linked b y) e =
    let p : a ≡ b = eqb-true a b (and_left (eqb a b) (beq x y) e) in
    let q : x ≡ y = beq-true x y (and_right (eqb a b) (beq x y) e) in
    cc
  where
    beq-true : (x y : Bool) → beq x y ≡ true → x ≡ y
    beq-true true true e = refl
    beq-true true false e = sym e
    beq-true false true e = e
    beq-true false false e = refl

pub same_refl : (a : Value) → same a a ≡ true
same_refl unlinked = refl
same_refl (linked a true) = rw (eq-eqb a a refl)
same_refl (linked a false) = rw (eq-eqb a a refl)

-- ---- one place ----

-- a place that is not live has no value, whatever its parent's
live_or_not : (o : Option Copy) → copy_is_live o ≡ false → copy_is_canonical o ≡ false
live_or_not none e = refl
live_or_not (some k) e = rw e

pub standing_dead : (w : Spine) (c : Cell) (b : Value) → is_live c ≡ false → standing w c b ≡ unlinked
unfolding standing is_live is_canonical
standing_dead w free b e = refl
standing_dead winner (held c) b e = rw e
standing_dead canonical (held c) b e = rw (live_or_not (effective c) e)

-- at index 0 the parent's value does not count
actual_zero : (b : Header) (x y : Value) (m : Amount) → b.index ≡ 0 → on_actual b x m ≡ on_actual b y m
actual_zero b x y unreadable e = refl
actual_zero b x y (readable a) e = rw (eq-eqb b.index 0 e)

pub standing_zero : (w : Spine) (c : Cell) (x y : Value) → index_of c ≡ 0 → standing w c x ≡ standing w c y
unfolding standing
standing_zero w free x y e = refl
standing_zero w (held c) x y e = ap (λ (o : Value). cond (may w c) o unlinked) (actual_zero c.header x y c.header.actual e)

-- what it says that d is named by c
pub names_index : (c d : Cell) → names c d ≡ true → index_of c ≡ suc (index_of d)
unfolding names
names_index free d e = no_both false e refl
names_index (held c) free e = no_both false e refl
names_index (held c) (held d) e = sym (eqb-true (suc d.header.index) c.header.index (and_right (eqb d.header.hash c.header.prev) (eqb (suc d.header.index) c.header.index) e))

-- a live block that names d is pending when d's value changes
pub follows_named : (c d : Cell) → names c d ≡ true → follows d c ≡ is_live c
unfolding names follows
follows_named free d e = no_both false e refl
follows_named (held c) free e = no_both false e refl
follows_named (held c) (held d) e =
    let z : d.header.hash ≡ c.header.prev = eqb-true d.header.hash c.header.prev (and_left (eqb d.header.hash c.header.prev) (eqb (suc d.header.index) c.header.index) e) in
    rw (eq-eqb c.header.prev d.header.hash (sym z)) (and_yes (is_live (held c)))
  where
    and_yes : (b : Bool) → (b && true) ≡ b
    and_yes true = refl
    and_yes false = refl

pub follows_free : (c d : Cell) → is_free d ≡ true → follows c d ≡ false
unfolding follows is_free
follows_free free d e = refl
follows_free (held c) free e = refl
follows_free (held c) (held d) e = no_both false e refl

-- the place with room that the previous hash names, whose index is one less, live or not
unfoldable pub named : Holdings → ℕ → Option ℕ
named h p = first (λ q. names (h.cells p) (h.cells q)) h.room

-- a place's value by the value of that place: where every place that is not live has no value, this is the value worked out
unfoldable pub work_named : Holdings → Values → Values
work_named h v w p = standing w (h.cells p) (value_at (v w) (named h p))

module _ (h : Holdings) where
  pub named_some : (p q : ℕ) → named h p ≡ some q → (names (h.cells p) (h.cells q) ≡ true) × (q < h.room)
  unfolding named
  named_some p q e = first_some (λ q. names (h.cells p) (h.cells q)) h.room q e

  pub parent-some : (p q : ℕ) → parent h p ≡ some q → (names (h.cells p) (h.cells q) ≡ true) × (is_live (h.cells q) ≡ true) × (q < h.room)
  unfolding parent
  parent-some p q e =
      let k : ((names (h.cells p) (h.cells q) && is_live (h.cells q)) ≡ true) × (q < h.room) = first_some (λ q. names (h.cells p) (h.cells q) && is_live (h.cells q)) h.room q e in
      (and_left (names (h.cells p) (h.cells q)) (is_live (h.cells q)) k.0, and_right (names (h.cells p) (h.cells q)) (is_live (h.cells q)) k.0, k.1)

  -- no place names itself
  pub names_other : (p q : ℕ) → names (h.cells p) (h.cells q) ≡ true → eqb q p ≡ false
  names_other p q n = ne_eqb q p (λ z. let i : index_of (h.cells p) ≡ suc (index_of (h.cells q)) = names_index (h.cells p) (h.cells q) n in let j : index_of (h.cells q) ≡ index_of (h.cells p) = ap (λ (r : ℕ). index_of (h.cells r)) z in omega arith)

  -- both read the value of one other place alone
  work_same : (u v : Values) (w : Spine) (p : ℕ) → ((q : ℕ) → parent h p ≡ some q → u w q ≡ v w q) → work_out h u w p ≡ work_out h v w p
  unfolding work_out
  work_same u v w p k = by_option (parent h p) (λ e. rw e) (λ q e. rw (e, k q e))

  named_same : (u v : Values) (w : Spine) (p : ℕ) → ((q : ℕ) → named h p ≡ some q → u w q ≡ v w q) → work_named h u w p ≡ work_named h v w p
  unfolding work_named
  named_same u v w p k = by_option (named h p) (λ e. rw e) (λ q e. rw (e, k q e))

  pub work_dead : (v : Values) (w : Spine) (p : ℕ) → is_live (h.cells p) ≡ false → work_out h v w p ≡ unlinked
  unfolding work_out
  work_dead v w p e = standing_dead w (h.cells p) (value_at (v w) (parent h p)) e

  pub named_dead : (v : Values) (w : Spine) (p : ℕ) → is_live (h.cells p) ≡ false → work_named h v w p ≡ unlinked
  unfolding work_named
  named_dead v w p e = standing_dead w (h.cells p) (value_at (v w) (named h p)) e

  -- consistent: the value that stands follows from the value that stands at the place named
  abbrev pub Consistent : Spine → Values → ℕ → Type 0
  Consistent w v p = v w p ≡ work_named h v w p

  -- a place whose value would not change
  still : (v : Values) (p : ℕ) → moves h v p ≡ false → (w : Spine) → v w p ≡ work_out h v w p
  unfolding moves
  still v p e winner = same_true (v winner p) (work_out h v winner p) (not_is (same (v winner p) (work_out h v winner p)) (or_left (not (same (v winner p) (work_out h v winner p))) (not (same (v canonical p) (work_out h v canonical p))) e))
  still v p e canonical = same_true (v canonical p) (work_out h v canonical p) (not_is (same (v canonical p) (work_out h v canonical p)) (or_right (not (same (v winner p) (work_out h v winner p))) (not (same (v canonical p) (work_out h v canonical p))) e))

  pub moves_not : (v : Values) (p : ℕ) → ((w : Spine) → v w p ≡ work_out h v w p) → moves h v p ≡ false
  unfolding moves
  moves_not v p k = rw (← k winner, ← k canonical) (rw (same_refl (v winner p), same_refl (v canonical p)))

  -- ---- one turn ----
  module _ (v : Values) (p : ℕ) where
    pub worked_here : (w : Spine) → worked h v p w p ≡ work_out h v w p
    unfolding worked
    worked_here w = put_same (v w) p (work_out h v w p)

    pub worked_there : (w : Spine) (q : ℕ) → eqb q p ≡ false → worked h v p w q ≡ v w q
    unfolding worked
    worked_there w q e = put_other (v w) p (work_out h v w p) q e

    -- another turn of p would not change its value
    pub worked_once : (w : Spine) → worked h v p w p ≡ work_out h (worked h v p) w p
    worked_once w = worked_here w ∙ work_same v (worked h v p) w p (λ q e. sym (worked_there w q (names_other p q (parent-some p q e).0)))

    -- a turn that changes no value
    pub worked_idle : moves h v p ≡ false → worked h v p ≡ v
    worked_idle e = fun_ext (λ w. fun_ext (λ q. by_bool (eqb q p) (λ i. let z : q ≡ p = eqb-true q p i in rw z (worked_here w ∙ sym (still v p e w))) (worked_there w q)))

    -- a place that does not name p is worked out as before
    pub work_elsewhere : (w : Spine) (q : ℕ) → (parent h q ≡ some p → ⊥) → work_out h (worked h v p) w q ≡ work_out h v w q
    work_elsewhere w q k = work_same (worked h v p) v w q (λ r e. worked_there w r (ne_eqb r p (λ z. k (rw z at e))))

    named_elsewhere : (w : Spine) (q : ℕ) → (named h q ≡ some p → ⊥) → work_named h v w q ≡ work_named h (worked h v p) w q
    named_elsewhere w q k = named_same v (worked h v p) w q (λ r e. sym (worked_there w r (ne_eqb r p (λ z. k (rw z at e)))))

    -- what is not pending after the turn is consistent, if what was not pending before was, and the place that p names has no value unless it is live
    pub turn_consistent : (w : Spine) (pend : Pending) → ((q : ℕ) → pend q ≡ false → Consistent w v q) → work_out h v w p ≡ work_named h v w p → (q : ℕ) → after h v p pend q ≡ false → Consistent w (worked h v p) q
    unfolding after
    turn_consistent w pend k agree q e = by_bool (eqb q p) here there
      where
        e₁ : (pend q && not (eqb q p)) ≡ false
        e₁ = or_left (pend q && not (eqb q p)) (moves h v p && follows (h.cells p) (h.cells q)) e

        e₂ : (moves h v p && follows (h.cells p) (h.cells q)) ≡ false
        e₂ = or_right (pend q && not (eqb q p)) (moves h v p && follows (h.cells p) (h.cells q)) e

        own : Consistent w (worked h v p) p
        own = worked_here w ∙ agree ∙ named_same v (worked h v p) w p (λ q e. sym (worked_there w q (names_other p q (named_some p q e).0)))

        here : eqb q p ≡ true → Consistent w (worked h v p) q
        here i = rw (eqb-true q p i) own

        -- q names p, and p's value moved: q is not live, or it would be pending
        dead : named h q ≡ some p → moves h v p ≡ true → is_live (h.cells q) ≡ false
        dead n m = sym (follows_named (h.cells q) (h.cells p) (named_some q p n).0) ∙ (rw m at e₂)

        again : work_named h v w q ≡ work_named h (worked h v p) w q
        again = by_bool (moves h v p) moved (λ m. rw (worked_idle m))
          where
            moved : moves h v p ≡ true → work_named h v w q ≡ work_named h (worked h v p) w q
            moved m = by_option (named h q) (λ n. named_elsewhere w q (λ n'. no_none (named h q) n n')) (λ r n. by_bool (eqb r p) (λ i. let n' : named h q ≡ some p = n ∙ ap {B = Option ℕ} some (eqb-true r p i) in named_dead v w q (dead n' m) ∙ sym (named_dead (worked h v p) w q (dead n' m))) (λ i. named_elsewhere w q (λ n'. let z : r ≡ p = cc in eqb-false r p i z)))

        there : eqb q p ≡ false → Consistent w (worked h v p) q
        there i = worked_there w q i ∙ k q (and_no (pend q) (rw i at e₁)) ∙ again
          where
            and_no : (b : Bool) → (b && true) ≡ false → b ≡ false
            and_no true e = e
            and_no false e = refl
