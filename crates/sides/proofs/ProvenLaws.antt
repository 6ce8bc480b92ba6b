-- Our walk where local's proofs are ok (document 01, "Standing in the tree": proofs are ok if the parent's are and it meets target): every block of
-- it above another meets its target, so its tip is local.
use mathlib.Core.Path.{◌≡◌, refl, sym, ap, ◌∙◌}
use mathlib.Core.Bool.{Bool, true, false, ◌&&◌}
use mathlib.Core.List.{List, [], ◌∷◌, ◌++◌, reverse}
use mathlib.Core.Option.{some}
use Prim.Native.Nat.{ℕ, ◌+◌, ◌≤◌, ◌<◌}
use native.Mathlib.Omega.{arith}
use lib.Dec.{ltb}
use borrow.Author.Tests.{ne_eqb, ltb-true, ltb-false}
use Rattle.amount.specs.Amounts.{Amount, readable, unreadable, limit}
use Rattle.memory.specs.Words.{word}
use Rattle.memory.specs.Layout.{row}
use Rattle.model.specs.Lists.{front, last}
use Rattle.model.specs.Holding.{Cell, free, held, eligible, answered, set_answer, index_of}
use Rattle.model.specs.Standing.{Spine, canonical, Value, unlinked, linked, is_linked, proofs_ok, meets_target, on_parent, on_actual, may, standing, parent, value_at}
use Rattle.model.specs.Walks.{Asked, cell, cell_meets, index, meets_at, above}
use Rattle.model.proofs.Tools.{by_bool, by_option, no_both, and_left, and_right}
use Rattle.model.proofs.WalkLaws.{Upheld, upward}
use Rattle.state.specs.Sound.{SoundAt, Used}
use Rattle.state.specs.View.{values_of, view_at}
use Rattle.sides.specs.Gathered.{top_of}
use Rattle.sides.specs.Sides.{Above, our_front}
use Rattle.sides.proofs.OurLaws.{above_met, above_end, above_on, index_is}
use Rattle.sides.proofs.OursLaws.{value_is}

-- ---- lists: one more at the end ----

front_nil : (g : ℕ → Bool) → front g [] ≡ []
unfolding front
front_nil g = refl

pub front_add : (g : ℕ → Bool) (q : ℕ) (l : List ℕ) → front g l ≡ l → g q ≡ true → front g (l ++ (q ∷ [])) ≡ l ++ (q ∷ [])
unfolding front
front_add g q [] e t = rw t
front_add g q (x ∷ l) e t = by_bool (g x) (λ i. rw i (ap (λ (r : List ℕ). x ∷ r) (front_add g q l (tails (rw i at e)) t))) (λ i. absurd (never (rw i at e)))
  where
    tails : x ∷ front g l ≡ x ∷ l → front g l ≡ l
    tails e = cc

    never : [] ≡ x ∷ l → ⊥
    never e = let z : ◌≡◌ {A = ℕ} 0 1 = cc in omega arith

last_add : (x q : ℕ) (l : List ℕ) → last x (l ++ (q ∷ [])) ≡ q
unfolding last
last_add x q [] = refl
last_add x q (y ∷ l) = last_add y q l

pub top_add : (n q : ℕ) (l : List ℕ) → top_of n (l ++ (q ∷ [])) ≡ q
unfolding last
top_add n q [] = refl
top_add n q (x ∷ l) = last_add x q l

-- ---- in the model ----

-- above index 0, proofs are ok only if the parent's are and it meets target
rule_proven : (w : Spine) (c : Cell) (below : Value) → proofs_ok (standing w c below) ≡ true → (index_of c ≡ 0 → ⊥) → (proofs_ok below ≡ true) × (cell_meets c ≡ true)
unfolding standing cell_meets
rule_proven w free below e z = no_both false e refl
rule_proven w (held c) below e z = by_bool (may w c) (λ m. go c.header.actual (rw m at e)) (λ m. no_both false (rw m at e) refl)
  where
    up : (a : ℕ) (b : Value) → proofs_ok (on_parent c.header a b) ≡ true → (proofs_ok b ≡ true) × (meets_target c.header ≡ true)
    up a unlinked e = no_both false e refl
    up a (linked y good) e =
        by_bool (ltb (y + a) limit)
        (λ i. let k : (good && meets_target c.header) ≡ true = rw i at e in (and_left good (meets_target c.header) k, and_right good (meets_target c.header) k))
        (λ i. no_both false (rw i at e) refl)

    go : (a : Amount) → proofs_ok (on_actual c.header below a) ≡ true → (proofs_ok below ≡ true) × (meets_target c.header ≡ true)
    go unreadable e = no_both false e refl
    go (readable a) e = up a below (rw (ne_eqb c.header.index 0 z) at e)

-- whatever the answer is by now
answered_index : (c : Cell) → index_of (answered eligible c) ≡ index_of c
unfolding answered set_answer
answered_index free = refl
answered_index (held c) = refl

answered_meets : (c : Cell) → cell_meets (answered eligible c) ≡ cell_meets c
unfolding answered set_answer cell_meets
answered_meets free = refl
answered_meets (held c) = refl

proven_linked : (v : Value) → proofs_ok v ≡ true → is_linked v ≡ true
proven_linked unlinked e = e
proven_linked (linked w ok) e = refl

module _ (a : Asked) (w : Spine) (upheld : Upheld a.holdings w (a.values w)) where
  proven_step : (p : ℕ) → proofs_ok (a.values w p) ≡ true → (index a p ≡ 0 → ⊥) → (proofs_ok (value_at (a.values w) (parent a.holdings p)) ≡ true) × (meets_at a p ≡ true)
  proven_step p e z =
      let k =
      rule_proven w (answered eligible (cell a p)) (value_at (a.values w) (parent a.holdings p))
      (ap proofs_ok (sym (upheld p (proven_linked (a.values w p) e))) ∙ e)
      (λ i. z (sym (answered_index (cell a p)) ∙ i))
      in
      (k.0, sym (answered_meets (cell a p)) ∙ k.1)

  module _ (f : ℕ) where
    -- all of the walk above f meets
    proven_front : (p : ℕ) → proofs_ok (a.values w p) ≡ true → front (meets_at a) (reverse (above a f p)) ≡ reverse (above a f p)
    proven_front = upward a.holdings (λ p. proofs_ok (a.values w p) ≡ true → front (meets_at a) (reverse (above a f p)) ≡ reverse (above a f p)) step
      where
        step : (p : ℕ) → ((q : ℕ) → parent a.holdings p ≡ some q → proofs_ok (a.values w q) ≡ true → front (meets_at a) (reverse (above a f q)) ≡ reverse (above a f q)) → proofs_ok (a.values w p) ≡ true → front (meets_at a) (reverse (above a f p)) ≡ reverse (above a f p)
        step p ih e = by_bool (ltb (index a f) (index a p)) (λ i. higher (ltb-true (index a f) (index a p) i)) (λ i. rw (above_met a f p (ltb-false (index a f) (index a p) i)) (front_nil (meets_at a)))
          where
            higher : index a f < index a p → front (meets_at a) (reverse (above a f p)) ≡ reverse (above a f p)
            higher i =
                let k = proven_step p e (λ z. omega arith) in
                by_option (parent a.holdings p)
                (λ n. rw (above_end a f p i n) (front_add (meets_at a) p [] (front_nil (meets_at a)) k.1))
                (λ q n. rw (above_on a f p i q n) (front_add (meets_at a) p (reverse (above a f q)) (ih q n (rw n at k.0)) k.1))

    -- so that its top is the tip
    pub proven_tip : (n p : ℕ) → proofs_ok (a.values w p) ≡ true → index a f < index a p → p ≡ top_of n (our_front a p f)
    proven_tip n p e i =
        sym
        (ap (top_of n) (proven_front p e)
        ∙ by_option (parent a.holdings p)
        (λ z. ap (top_of n) (above_end a f p i z) ∙ top_add n p [])
        (λ q z. ap (top_of n) (above_on a f p i q z) ∙ top_add n p (reverse (above a f q))))

-- f is no lower: there is none above it
none_above : (a : Asked) (n f p : ℕ) → index a p ≤ index a f → n ≡ top_of n (our_front a p f)
unfolding front
none_above a n f p i = rw (above_met a f p i)

-- ---- in a memory ----

abbrev pub Tips : List ℕ → ℕ → ℕ → ℕ → ℕ → Type 0
Tips m n local f r = SoundAt m n → Used m local → Used m f → (a : Asked) → a.holdings ≡ (view_at m n).holdings → a.values ≡ (view_at m n).values → Above a canonical local f → r ≡ top_of n (our_front a local f)

module _ (m : List ℕ) (n local f : ℕ) (l : local < n) (fl : f < n) where
  pub tip_none : word m (row local + 12) ≤ word m (row f + 12) → Tips m n local f n
  tip_none i s u w a h v st = none_above a n f local (omega (arith, index_is m n local f a h local l u, index_is m n local f a h f fl w))

  pub tip_local : proofs_ok (values_of m n canonical local) ≡ true → word m (row f + 12) < word m (row local + 12) → Tips m n local f local
  tip_local e i s u w a h v st =
      proven_tip a canonical st.upheld f n local (ap proofs_ok (value_is m n a v canonical local) ∙ e)
      (omega (arith, index_is m n local f a h local l u, index_is m n local f a h f fl w))
