-- A place that the index or the contest found is the model's.
use mathlib.Core.Path.{◌≡◌, refl, sym, ap, ◌∙◌}
use mathlib.Core.Bool.{true, false}
use mathlib.Core.List.{List}
use mathlib.Core.Option.{none, some}
use Prim.Native.Nat.{ℕ, ◌+◌, ◌*◌, ◌≤◌, ◌<◌, ◌%◌}
use native.Mathlib.Omega.{arith}
use lib.Dec.{eqb, ltb}
use borrow.Author.Tests.{eqb-true, eq-eqb, ne_eqb, ltb-true, ltb-false, lt-ltb, le-ltb}
use Rattle.model.specs.Places.{first}
use Rattle.model.specs.Holding.{free, held, is_free, has_room, place_of, free_place}
use Rattle.model.proofs.Tools.{by_bool, by_option, no_both, no_none, first_some, first_only, first_nowhere, first_lowest}
use Rattle.hash.specs.Hashes.{limb, join}
use Rattle.hash.proofs.HashLaws.{Words}
use Rattle.block.specs.Words.{quad, header_of}
use Rattle.memory.specs.Words.{word, seg}
use Rattle.memory.specs.Layout.{row, by_hash}
use Rattle.memory.proofs.HashWords.{quad_hash, seg_hash}
use Rattle.rows.specs.Rows.{header_at, held_at, cell_of}
use Rattle.index.specs.Keys.{key_at}
use Rattle.index.specs.Seeks.{Seeks}
use Rattle.index.proofs.Walks.{found, not_found}
use Rattle.contest.specs.Tree.{Champion}
use Rattle.contest.specs.Keys.{enters, rank}
use Rattle.contest.specs.Contests as contest
use Rattle.state.specs.View.{cells_of, view_at}
use Rattle.state.specs.Sound.{Used, hash_at, SoundAt, placed}

pub placed_in : (n r : ℕ) → r < n → placed n r ≡ some r
placed_in n r h = rw (lt-ltb r n h)

pub placed_out : (n r : ℕ) → n ≤ r → placed n r ≡ none
placed_out n r h = rw (le-ltb r n h)

module _ (m : List ℕ) (n : ℕ) where
  -- ---- what a cell says of the words ----

  pub used_is : (p : ℕ) → p < n → Used m p → cells_of m n p ≡ held (held_at m (row p))
  unfolding cell_of
  used_is p h u = rw (lt-ltb p n h, eq-eqb (word m (row p)) 1 u)

  pub free_is : (p : ℕ) → p < n → (Used m p → ⊥) → cells_of m n p ≡ free
  unfolding cell_of
  free_is p h u = rw (lt-ltb p n h, ne_eqb (word m (row p)) 1 u)

  pub cell_used : (p : ℕ) → is_free (cells_of m n p) ≡ false → (p < n) × Used m p
  unfolding is_free cell_of
  cell_used p e =
      by_bool (ltb p n)
      (λ i. by_bool (eqb (word m (row p)) 1) (λ j. (ltb-true p n i, eqb-true (word m (row p)) 1 j)) (λ j. no_both true refl (rw (i, j) at e)))
      (λ i. no_both true refl (rw i at e))

  pub used_cell : (p : ℕ) → p < n → Used m p → is_free (cells_of m n p) ≡ false
  unfolding is_free
  used_cell p h u = ap is_free (used_is p h u)

  pub cell_hash : (p x : ℕ) → has_room x (cells_of m n p) ≡ true → (p < n) × Used m p × (hash_at m p ≡ x)
  unfolding has_room cell_of
  cell_hash p x e =
      by_bool (ltb p n)
      (λ i. by_bool (eqb (word m (row p)) 1) (λ j. (ltb-true p n i, eqb-true (word m (row p)) 1 j, eqb-true (hash_at m p) x (rw (i, j) at e))) (λ j. no_both false (rw (i, j) at e) refl))
      (λ i. no_both false (rw i at e) refl)

  pub hash_cell : (p x : ℕ) → p < n → Used m p → hash_at m p ≡ x → has_room x (cells_of m n p) ≡ true
  unfolding has_room
  hash_cell p x h u e = ap (has_room x) (used_is p h u) ∙ eq-eqb (hash_at m p) x e

  -- ---- the lowest free place ----

  pub free_place_lem : (r : ℕ) → Champion n (contest.view m n 3) r → free_place (view_at m n).holdings ≡ placed n r
  unfolding free_place view_at contest.view enters rank is_free
  free_place_lem r c = by_bool (ltb r n) here none_free
    where
      off : (q : ℕ) → row q + 0 ≡ row q
      off q = omega arith

      member : (q : ℕ) → q < n → (Used m q → ⊥) → (contest.view m n 3).member q ≡ true
      member q h u = rw (off q, ne_eqb (word m (row q)) 1 u)

      out : (q : ℕ) → q < n → (contest.view m n 3).member q ≡ true → Used m q → ⊥
      out q h e u = no_both false (rw (off q, eq-eqb (word m (row q)) 1 u) at e) refl

      here : ltb r n ≡ true → free_place (view_at m n).holdings ≡ placed n r
      here e =
          let l = ltb-true r n e in
          rw e (first_lowest (λ q. is_free (cells_of m n q)) n r (ap is_free (free_is r l (out r l (c.is l).0))) l
          (λ q h. by_bool (is_free (cells_of m n q)) (λ f. absurd (lower q h (not_used q h f))) (λ f. f)))
        where
          not_used : (q : ℕ) → q < r → is_free (cells_of m n q) ≡ true → Used m q → ⊥
          not_used q h f u = let l = ltb-true r n e in no_both (is_free (cells_of m n q)) f (used_cell q (omega arith) u)

          lower : (q : ℕ) → q < r → (Used m q → ⊥) → ⊥
          lower q h u =
              let l = ltb-true r n e in
              let lt : r < q = ltb-true r q (c.beats l q (omega arith) (member q (omega arith) u) tt (λ z. let z : q ≡ r = z in omega arith)) in
              omega arith

      none_free : ltb r n ≡ false → free_place (view_at m n).holdings ≡ placed n r
      none_free e =
          rw e (by_option (first (λ q. is_free (cells_of m n q)) n) (λ i. i)
          (λ q i. let k = first_some (λ q. is_free (cells_of m n q)) n q i in absurd (c.none (ltb-false r n e) q k.1 (member q k.1 (λ u. no_both (is_free (cells_of m n q)) k.0 (used_cell q k.1 u))) tt)))

  -- ---- the place of a hash ----

  module _ (s : SoundAt m n) where
    pub place_at : (p x : ℕ) → p < n → Used m p → hash_at m p ≡ x → place_of (view_at m n).holdings x ≡ some p
    unfolding place_of view_at
    place_at p x h u e =
        first_only (λ q. has_room x (cells_of m n q)) n p (hash_cell p x h u e) h
        (λ q f. let k = cell_hash q x f in s.keys q p k.0 h k.1 u (k.2 ∙ sym e))

    pub place_none : (x : ℕ) → ((q : ℕ) → q < n → Used m q → hash_at m q ≡ x → ⊥) → place_of (view_at m n).holdings x ≡ none
    unfolding place_of view_at
    place_none x f =
        first_nowhere (λ q. has_room x (cells_of m n q)) n
        (λ q. by_bool (has_room x (cells_of m n q)) (λ e. let k = cell_hash q x e in absurd (f q k.0 k.1 k.2)) (λ e. e))

    -- and back: a hash without a place is that of no used row
    pub none_place : (x : ℕ) → place_of (view_at m n).holdings x ≡ none → (q : ℕ) → q < n → Used m q → hash_at m q ≡ x → ⊥
    none_place x e q h u z = no_none (place_of (view_at m n).holdings x) e (place_at q x h u z)

    module _ (wide : (i : ℕ) → word m i < limb) (a b c d : ℕ) (w : Words a b c d) where
      key_hash : (q : ℕ) → key_at m 68 false q ≡ quad a b c d → hash_at m q ≡ join a b c d
      unfolding header_at header_of
      key_hash q e = let z : 68 + 68 * q ≡ row q + 4 = omega arith in quad_hash a b c d (seg m (row q + 4) 4) (rw z at e)

      hash_key : (q : ℕ) → hash_at m q ≡ join a b c d → key_at m 68 false q ≡ quad a b c d
      unfolding header_at header_of
      hash_key q e = let z : row q + 4 ≡ 68 + 68 * q = omega arith in rw z at (seg_hash m (row q + 4) a b c d wide w e)

      pub found_place : (r : ℕ) → Seeks m n (by_hash n) (key_at m 68 false) (by_hash n + d % n) (quad a b c d) r → place_of (view_at m n).holdings (join a b c d) ≡ placed n r
      found_place r k =
          by_bool (ltb r n)
          (λ i. let l = ltb-true r n i in let f = found m n (by_hash n) (key_at m 68 false) (quad a b c d) (Used m) s.hashes r k l in rw i (place_at r (join a b c d) l f.0 (key_hash r f.1)))
          (λ i. rw i (place_none (join a b c d) (λ q h u e. not_found m n (by_hash n) (key_at m 68 false) (quad a b c d) (Used m) s.hashes r k (ltb-false r n i) q h u (hash_key q e))))
