-- What soundness needs of a change: each structure by itself.
use mathlib.Core.Path.{◌≡◌, refl, sym, ap, ◌∙◌, subst, fun_ext}
use mathlib.Core.Bool.{true, false}
use mathlib.Core.List.{List}
use Prim.Native.Nat.{ℕ, ◌+◌, ◌*◌, ◌≤◌, ◌<◌}
use native.Mathlib.Omega.{arith}
use lib.ListN.{length}
use lib.Dec.{eqb}
use Rattle.model.specs.Record.{Header}
use Rattle.model.specs.Lists.{elem}
use Rattle.memory.specs.Words.{word}
use Rattle.memory.specs.Layout.{row, by_hash, by_prev, nodes, ring, by_touch, Laid}
use Rattle.memory.proofs.WordLaws.{seg_same}
use Rattle.index.specs.Index.{Keyed}
use Rattle.index.specs.Keys.{key_at}
use Rattle.index.proofs.IndexLaws.{keyed_frame}
use Rattle.contest.specs.Tree.{WF}
use Rattle.contest.specs.Keys.{enters, rank}
use Rattle.contest.specs.Contests as contest
use Rattle.contest.proofs.TreeLaws.{wf_agree}
use Rattle.contest.proofs.ContestLaws.{total}
use Rattle.journal.specs.Journal.{tab, later_at, slot_of, Last, Indexed, Journaled}
use Rattle.state.specs.Sound.{Used, hash_at}
use Rattle.state.proofs.ViewLaws.{header_same, slot_same, touched_same}

pub laid_same : (m m' : List ℕ) (n : ℕ) → Laid m n → word m' 0 ≡ word m 0 → word m' 1 ≡ word m 1 → length m' ≡ length m → Laid m' n
laid_same m m' n l e₀ e₁ long =
    record { room = omega arith; some = omega arith; few = omega arith; some_j = omega arith; few_j = omega arith; fits = omega arith }

-- what the indexes and the contest of free places read is as it was
pub record Kept (m m' : List ℕ) (n : ℕ) : Type 0 where
  pub used : (q : ℕ) → q < n → word m' (row q) ≡ word m (row q)
  pub headers : (q a : ℕ) → q < n → row q + 4 ≤ a → a < row q + 20 → word m' a ≡ word m a
  pub indexes : (a : ℕ) → by_hash n ≤ a → a < nodes n 0 → word m' a ≡ word m a
  pub free : (a : ℕ) → nodes n 3 ≤ a → a < nodes n 4 → word m' a ≡ word m a

module _ (m m' : List ℕ) (n : ℕ) (k : Kept m m' n) where
  pub hash_same : (q : ℕ) → q < n → hash_at m' q ≡ hash_at m q
  hash_same q h = ap (λ (x : Header). x.hash) (header_same m m' (row q + 4) (λ a x y. k.headers q a h (omega arith) (omega arith)))

  key_same : (o q : ℕ) → q < n → 68 ≤ o → o ≤ 72 → key_at m' o false q ≡ key_at m o false q
  key_same o q h x y = seg_same m m' (o + 68 * q) 4 (λ i l. k.headers q (o + 68 * q + i) h (omega arith) (omega arith))

  pub hashes_same : Keyed m n (by_hash n) (key_at m 68 false) (Used m) → Keyed m' n (by_hash n) (key_at m' 68 false) (Used m')
  hashes_same x =
      keyed_frame m m' n (by_hash n) (key_at m 68 false) (key_at m' 68 false) (Used m) (Used m') (λ q h u. key_same 68 q h (omega arith) (omega arith)) x
      (λ a l h. k.indexes a (omega arith) (omega arith)) (λ q h u. k.used q h ∙ u) (λ q h u. sym (k.used q h) ∙ u)

  pub prevs_same : Keyed m n (by_prev n) (key_at m 72 false) (Used m) → Keyed m' n (by_prev n) (key_at m' 72 false) (Used m')
  prevs_same x =
      keyed_frame m m' n (by_prev n) (key_at m 72 false) (key_at m' 72 false) (Used m) (Used m') (λ q h u. key_same 72 q h (omega arith) (omega arith)) x
      (λ a l h. k.indexes a (omega arith) (omega arith)) (λ q h u. k.used q h ∙ u) (λ q h u. sym (k.used q h) ∙ u)

  pub keys_same : ((p q : ℕ) → p < n → q < n → Used m p → Used m q → hash_at m p ≡ hash_at m q → p ≡ q) → (p q : ℕ) → p < n → q < n → Used m' p → Used m' q → hash_at m' p ≡ hash_at m' q → p ≡ q
  keys_same f p q i j u v e = f p q i j (sym (k.used p i) ∙ u) (sym (k.used q j) ∙ v) (sym (hash_same p i) ∙ e ∙ hash_same q j)

  pub free_same : Laid m n → WF n (contest.view m n 3) → WF n (contest.view m' n 3)
  unfolding contest.view enters rank
  free_same laid wf =
      wf_agree n (contest.view m n 3) (contest.view m' n 3) (total m n 3) (omega arith)
      (record { node = λ j h. k.free (nodes n 3 + j) (omega arith) (omega arith); member = λ q h. member q h; beats = λ x y h l a b. refl }) wf
    where
      member : (q : ℕ) → q < n → enters m' 3 q ≡ enters m 3 q
      member q h = let e : word m' (row q + 0) ≡ word m (row q + 0) = let z : row q + 0 ≡ row q = omega arith in rw z (k.used q h) in rw e

-- ---- the journal ----

module _ (m m' : List ℕ) (n : ℕ) (e₁ : word m' 1 ≡ word m 1) (e₄ : word m' 4 ≡ word m 4) (e₅ : word m' 5 ≡ word m 5) (f : (a : ℕ) → ring n ≤ a → word m' a ≡ word m a) where
  later_same : (e : ℕ) → later_at m' n e ≡ later_at m n e
  later_same e = ap (λ (z : ℕ). eqb z 1) (f (ring n + 5 * e + 4) (omega arith))

  last_to : (q : ℕ) → Last m n q → Last m' n q
  last_to q l = record { age = l.age; young = let y = l.young in omega arith; here = slot_same m m' n e₁ e₅ f l.age ∙ l.here; unflagged = later_same q ∙ l.unflagged }

  last_of : (q : ℕ) → Last m' n q → Last m n q
  last_of q l = record { age = l.age; young = let y = l.young in omega arith; here = sym (slot_same m m' n e₁ e₅ f l.age) ∙ l.here; unflagged = sym (later_same q) ∙ l.unflagged }

  pub journaled_same : Journaled m n → Journaled m' n
  journaled_same j =
      let t = j.turn in
      let s = j.short in
      record {
        turn = omega arith;
        short = omega arith;
        flags = λ i h.
            ap (later_at m' n) (slot_same m m' n e₁ e₅ f i) ∙ later_same (slot_of m i) ∙ j.flags i (omega arith)
            ∙ ap (λ (g : ℕ → ℕ). elem (g i) (tab g i)) (fun_ext (λ i. sym (touched_same m m' n e₁ e₅ f i)));
        index =
            subst (Indexed m' n) (sym e₁)
            (keyed_frame m m' (word m 1) (by_touch n (word m 1)) (key_at m (ring n) true) (key_at m' (ring n) true) (Last m n) (Last m' n)
            (λ q h u. seg_same m m' (ring n + 5 * q) 4 (λ i l. f (ring n + 5 * q + i) (omega arith))) j.index
            (λ a l h. f a (omega arith)) (λ q h u. last_to q u) (λ q h u. last_of q u));
      }
