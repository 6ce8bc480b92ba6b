-- The parent by the index of hashes (document 01, "Standing in the tree"): the place that the previous hash has, if its index is one less and it is live.
use mathlib.Core.Path.{◌≡◌, refl, sym, ap, ◌∙◌}
use mathlib.Core.Bool.{Bool, true, false, ◌&&◌}
use mathlib.Core.List.{List}
use mathlib.Core.Option.{Option, none, some}
use Prim.Native.Nat.{ℕ, suc, ◌+◌, ◌≤◌, ◌<◌}
use native.Mathlib.Omega.{arith}
use lib.Dec.{eqb}
use Rattle.amount.specs.Choose.{◌if◌else◌}
use borrow.Author.Tests.{le-ltb}
use Rattle.hash.specs.Hashes.{limb, join}
use Rattle.hash.proofs.HashLaws.{Words, same_join}
use Rattle.block.specs.Words.{quad, header_of}
use Rattle.memory.specs.Words.{word, seg, same_four}
use Rattle.memory.specs.Layout.{row}
use Rattle.model.specs.Places.{first}
use Rattle.model.specs.Holding.{Held, Cell, free, held, Holdings, has_room, is_live, place_of}
use Rattle.model.specs.Standing.{names, parent}
use Rattle.model.proofs.Tools.{by_bool, by_option, no_both, and_left, first_some, first_none, first_only, first_nowhere}
use Rattle.model.proofs.Parent.{Distinct}
use Rattle.rows.specs.Rows.{header_at, held_at}
use Rattle.state.specs.View.{cells_of, view_at}
use Rattle.state.specs.Sound.{SoundAt, Used, placed}
use Rattle.state.proofs.FindLaws.{placed_in, placed_out, used_is, free_is, cell_hash, place_at}

-- ---- in the model ----

-- a free place has none
pub free-parent : (h : Holdings) (p : ℕ) → h.cells p ≡ free → parent h p ≡ none
unfolding parent names
free-parent h p e = first_nowhere (λ q. names (h.cells p) (h.cells q) && is_live (h.cells q)) h.room (λ q. rw e)

module _ (h : Holdings) (distinct : Distinct h) (p : ℕ) (c : Held) (is : h.cells p ≡ held c) where
  named_room : (r : ℕ) → names (h.cells p) (h.cells r) ≡ true → has_room c.header.prev (h.cells r) ≡ true
  unfolding names has_room
  named_room r e = go (h.cells r) (rw is at e)
    where
      go : (d : Cell) → names (held c) d ≡ true → has_room c.header.prev d ≡ true
      go free e = e
      go (held d) e = and_left (eqb d.header.hash c.header.prev) (eqb (suc d.header.index) c.header.index) e

  -- no place has room for the previous hash
  pub parent_nowhere : place_of h c.header.prev ≡ none → parent h p ≡ none
  unfolding parent place_of
  parent_nowhere e =
      by_option (first test h.room) (λ z. z)
      (λ q z.
      let k : (test q ≡ true) × (q < h.room) = first_some test h.room q z in
      no_both (has_room c.header.prev (h.cells q)) (named_room q (and_left (names (h.cells p) (h.cells q)) (is_live (h.cells q)) k.0))
      (first_none (λ q. has_room c.header.prev (h.cells q)) h.room q e k.1))
    where
      test : ℕ → Bool
      test r = names (h.cells p) (h.cells r) && is_live (h.cells r)

  -- the place that has it is the parent if it is named and live
  pub parent_there : (q : ℕ) → place_of h c.header.prev ≡ some q → parent h p ≡ (some q if names (h.cells p) (h.cells q) && is_live (h.cells q) else none)
  unfolding parent place_of
  parent_there q e =
      let k : (has_room c.header.prev (h.cells q) ≡ true) × (q < h.room) = first_some (λ q. has_room c.header.prev (h.cells q)) h.room q e in
      by_bool (test q)
      (λ z. rw z (first_only test h.room q z k.1 (λ r y. one r k.0 y)))
      (λ z. rw z (first_nowhere test h.room (λ r. by_bool (test r) (λ y. let w : r ≡ q = one r k.0 y in rw w z) (λ y. y))))
    where
      test : ℕ → Bool
      test r = names (h.cells p) (h.cells r) && is_live (h.cells r)

      one : (r : ℕ) → has_room c.header.prev (h.cells q) ≡ true → test r ≡ true → r ≡ q
      one r k y = distinct r q c.header.prev (named_room r (and_left (names (h.cells p) (h.cells r)) (is_live (h.cells r)) y)) k

-- ---- in a memory ----

pub sound_distinct : (m : List ℕ) (n : ℕ) → SoundAt m n → Distinct (view_at m n).holdings
unfolding view_at
sound_distinct m n s p q x e f = let k = cell_hash m n p x e in let l = cell_hash m n q x f in s.keys p q k.0 l.0 k.1 l.1 (k.2 ∙ sym l.2)

join_eq : {a a' b b' c c' d d' : ℕ} → a ≡ a' → b ≡ b' → c ≡ c' → d ≡ d' → join a b c d ≡ join a' b' c' d'
join_eq e₀ e₁ e₂ e₃ = rw (e₀, e₁, e₂, e₃)

module _ (m : List ℕ) (p : ℕ) where
  prev_is : join (word m (row p + 8)) (word m (row p + 9)) (word m (row p + 10)) (word m (row p + 11)) ≡ (header_at m (row p + 4)).prev
  unfolding header_at header_of
  prev_is = join_eq (ap (word m) (omega arith)) (ap (word m) (omega arith)) (ap (word m) (omega arith)) (ap (word m) (omega arith))

  index_is : word m (row p + 12) ≡ (header_at m (row p + 4)).index
  unfolding header_at header_of
  index_is = ap (word m) (omega arith)

-- ---- the place of the previous hash ----

-- four words are another four exactly if the hashes are the same
four_same : (a b c d a' b' c' d' : ℕ) → Words a b c d → Words a' b' c' d' → (eqb a a' && eqb b b' && eqb c c' && eqb d d') ≡ eqb (join a b c d) (join a' b' c' d')
four_same a b c d a' b' c' d' w w' = ends (eqb a a') (eqb b b') (eqb c c') (eqb d d') ∙ same_join a b c d a' b' c' d' w w'
  where
    ends : (x y z t : Bool) → (x && y && z && t) ≡ (x && (y && (z && (t && true))))
    ends false y z t = refl
    ends true false z t = refl
    ends true true false t = refl
    ends true true true false = refl
    ends true true true true = refl

module _ (m : List ℕ) (n p : ℕ) where
  -- a place from n on, or one that is free, has no room for it
  pub room_out : (u : ℕ) → n ≤ u → false ≡ has_room (header_at m (row p + 4)).prev (cells_of m n u)
  unfolding has_room
  room_out u i = rw (le-ltb u n i)

  pub room_free : (u : ℕ) → u < n → (Used m u → ⊥) → false ≡ has_room (header_at m (row p + 4)).prev (cells_of m n u)
  unfolding has_room
  room_free u i z = rw (free_is m n u i z)

  -- one in use has, if the four words of its hash are those
  pub room_words : ((i : ℕ) → word m i < limb) → (u : ℕ) → u < n → Used m u → (r : Bool)
      → r ≡ same_four (seg m (row u + 4) 4) (quad (word m (row p + 8)) (word m (row p + 9)) (word m (row p + 10)) (word m (row p + 11)))
      → r ≡ has_room (header_at m (row p + 4)).prev (cells_of m n u)
  unfolding has_room header_at header_of
  room_words wide u i z r e =
      let k =
      four_same (word m (row u + 4 + 0)) (word m (row u + 4 + 1)) (word m (row u + 4 + 2)) (word m (row u + 4 + 3)) (word m (row p + 8)) (word m (row p + 9)) (word m (row p + 10)) (word m (row p + 11))
      (record { first = wide (row u + 4 + 0); second = wide (row u + 4 + 1); third = wide (row u + 4 + 2); fourth = wide (row u + 4 + 3) })
      (record { first = wide (row p + 8); second = wide (row p + 9); third = wide (row p + 10); fourth = wide (row p + 11) })
      in
      rw (used_is m n u i z) (e ∙ k ∙ ap (eqb (header_at m (row u + 4)).hash) (prev_is m p))

  pub by_words : (q : ℕ) → place_of (view_at m n).holdings (join (word m (row p + 8)) (word m (row p + 9)) (word m (row p + 10)) (word m (row p + 11))) ≡ placed n q
      → place_of (view_at m n).holdings (header_at m (row p + 4)).prev ≡ placed n q
  by_words q found = ap (place_of (view_at m n).holdings) (sym (prev_is m p)) ∙ found

  -- a hash has one place
  pub by_room : SoundAt m n → (x u : ℕ) → has_room x (cells_of m n u) ≡ true → place_of (view_at m n).holdings x ≡ placed n u
  by_room s x u e = let k = cell_hash m n u x e in place_at m n s u x k.0 k.1 k.2 ∙ sym (placed_in n u k.0)

-- ---- the parent ----

module _ (m : List ℕ) (n p : ℕ) (below : p < n) where
  pub parent_free : (Used m p → ⊥) → parent (view_at m n).holdings p ≡ placed n n
  unfolding view_at
  parent_free u = free-parent (view_at m n).holdings p (free_is m n p below u) ∙ sym (placed_out n n (omega arith))

  module _ (u : Used m p) (s : SoundAt m n) (q : ℕ) (by_prev : place_of (view_at m n).holdings (header_at m (row p + 4)).prev ≡ placed n q) where
    pub parent_out : n ≤ q → parent (view_at m n).holdings p ≡ placed n n
    unfolding view_at
    parent_out i = parent_nowhere (view_at m n).holdings (sound_distinct m n s) p (held_at m (row p)) (used_is m n p below u) (by_prev ∙ placed_out n q i) ∙ sym (placed_out n n (omega arith))

    module _ (i : q < n) where
      -- the place has room for the previous hash, so it is named exactly if its index is one less
      place_used : place_of (view_at m n).holdings (header_at m (row p + 4)).prev ≡ some q → Used m q × (has_room (header_at m (row p + 4)).prev (cells_of m n q) ≡ true)
      unfolding place_of view_at
      place_used e = let k = (first_some (λ r. has_room (header_at m (row p + 4)).prev (cells_of m n r)) n q e).0 in ((cell_hash m n q (header_at m (row p + 4)).prev k).1, k)

      names_is : names (cells_of m n p) (cells_of m n q) ≡ eqb (suc (word m (row q + 12))) (word m (row p + 12))
      unfolding names has_room
      names_is =
          let k : Used m q × (has_room (header_at m (row p + 4)).prev (cells_of m n q) ≡ true) = place_used (by_prev ∙ placed_in n q i) in
          let e : eqb (header_at m (row q + 4)).hash (header_at m (row p + 4)).prev ≡ true = rw (used_is m n q i k.0) at k.1 in
          rw (used_is m n p below u, used_is m n q i k.0, e, index_is m p, index_is m q)

      pub parent_found : parent (view_at m n).holdings p ≡ (some q if eqb (suc (word m (row q + 12))) (word m (row p + 12)) && is_live (cells_of m n q) else none)
      unfolding view_at
      parent_found =
          parent_there (view_at m n).holdings (sound_distinct m n s) p (held_at m (row p)) (used_is m n p below u) q (by_prev ∙ placed_in n q i)
          ∙ ap (λ (t : Bool). some q if t && is_live (cells_of m n q) else none) names_is

      pub parent_odd : eqb (suc (word m (row q + 12))) (word m (row p + 12)) ≡ false → parent (view_at m n).holdings p ≡ placed n n
      parent_odd e = parent_found ∙ (rw e (sym (placed_out n n (omega arith))))

      pub parent_dead : is_live (cells_of m n q) ≡ false → parent (view_at m n).holdings p ≡ placed n n
      parent_dead e = parent_found ∙ (rw e (neither (eqb (suc (word m (row q + 12))) (word m (row p + 12))) ∙ sym (placed_out n n (omega arith))))
        where
          neither : (t : Bool) → ◌≡◌ {A = Option ℕ} (some q if t && false else none) none
          neither true = refl
          neither false = refl

      pub parent_is : eqb (suc (word m (row q + 12))) (word m (row p + 12)) ≡ true → is_live (cells_of m n q) ≡ true → parent (view_at m n).holdings p ≡ placed n q
      parent_is e l = parent_found ∙ (rw (e, l) (sym (placed_in n q i)))
