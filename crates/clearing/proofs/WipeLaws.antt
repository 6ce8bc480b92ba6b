-- What is left when the memory is wiped, whatever it held.
use mathlib.Core.Path.{◌≡◌, refl, sym, ap, ◌∙◌, fun_ext}
use mathlib.Core.Bool.{Bool, false}
use mathlib.Core.List.{List}
use Prim.Native.Nat.{ℕ, ◌+◌, ◌*◌, ◌≤◌, ◌<◌}
use native.Mathlib.Omega.{arith}
use lib.ListN.{length}
use lib.Dec.{ltb}
use borrow.Author.Tests.{ne_eqb, ltb-true, ltb-false, le-leb}
use Rattle.model.specs.Holding.{Cell, free, is_free, is_held, is_live, is_canonical}
use Rattle.model.specs.Standing.{Spine, winner, canonical, unlinked}
use Rattle.model.proofs.Tools.{by_bool, no_both}
use Rattle.model.proofs.Sums.{sum_none}
use Rattle.model.specs.Places.{count}
use Rattle.memory.specs.Words.{word, Filled}
use Rattle.memory.specs.Layout.{row, by_hash, by_prev, nodes, ring, Laid}
use Rattle.rows.specs.Rows.{value_of, value_at}
use Rattle.index.specs.Index.{Keyed}
use Rattle.index.specs.Keys.{key_at, bucket_of}
use Rattle.index.specs.Writes as index
use Rattle.index.proofs.IndexLaws.{index_clear}
use Rattle.roster.specs.Roster.{size_at}
use Rattle.contest.specs.Tree.{WF, none}
use Rattle.contest.specs.Keys.{enters, mark}
use Rattle.contest.specs.Contests as contest
use Rattle.contest.proofs.KeyLaws.{mark_below}
use Rattle.contest.proofs.ContestLaws.{column_le, empty}
use Rattle.journal.specs.Touches.{Clears}
use Rattle.state.specs.View.{cells_of, values_of, view_at}
use Rattle.state.specs.Sound.{Used, Roster, SoundAt}
use Rattle.state.proofs.SoundLaws.{laid_same, free_same}
use Rattle.state.proofs.FindLaws.{free_is}
use Rattle.clearing.specs.Blank.{Blank, Swept, Wiped}

-- ---- sweeping ----

module _ (m m₁ m₂ m₃ : List ℕ) (n : ℕ) (f₁ : Filled m m₁ 11 16 0) (f₂ : Filled m₁ m₂ 64 (64 + 68 * n) 0) (f₃ : Filled m₂ m₃ (64 + 74 * n) (64 + 79 * n) none) where
  pub sweep_done : Swept m m₃ n
  sweep_done = record {
    long = f₃.long ∙ f₂.long ∙ f₁.long;
    counts = λ a x y. f₃.only a (omega arith) ∙ f₂.only a (omega arith) ∙ f₁.is a x y;
    rows = λ a x y. f₃.only a (omega arith) ∙ f₂.is a x y;
    entries = λ a x y. f₃.is a (omega arith) y;
    only = λ a x y z. f₃.only a (λ u v. z (omega arith) v) ∙ f₂.only a y ∙ f₁.only a x;
  }

pub cleared_laid : {m m₁ m₂ m₃ : List ℕ} {n : ℕ} → Laid m n → Swept m m₁ n → index.Cleared m₁ m₂ n (by_hash n) → index.Cleared m₂ m₃ n (by_prev n) → Laid m₃ n
cleared_laid {m} {m₁} {m₂} {m₃} {n} laid s c₁ c₂ =
    let same : (a : ℕ) → a < 2 → word m₃ a ≡ word m a = λ a h. c₂.only a (omega arith) ∙ c₁.only a (omega arith) ∙ s.only a (omega arith) (omega arith) (omega arith) in
    laid_same m m₃ n laid (same 0 (omega arith)) (same 1 (omega arith)) (c₂.long ∙ c₁.long ∙ s.long)

pub built_laid : {m m' : List ℕ} {n : ℕ} → Laid m n → contest.Built n 3 m m' → Laid m' n
built_laid {m} {m'} {n} laid b = laid_same m m' n laid (b.only 0 (omega arith)) (b.only 1 (omega arith)) b.long

-- ---- a memory in which all rows are 0 ----

module _ (m : List ℕ) (n : ℕ) (rows : (a : ℕ) → 64 ≤ a → a < by_hash n → word m a ≡ 0) where
  pub unused : (q : ℕ) → q < n → Used m q → ⊥
  unused q h u = omega (arith, rows (row q) (omega arith) (omega arith))

  pub empty_cells : cells_of m n ≡ (λ p. free)
  empty_cells = fun_ext (λ q. by_bool (ltb q n) (λ e. free_is m n q (ltb-true q n e) (unused q (ltb-true q n e))) (λ e. rw e))

  empty_value : (w : Spine) (q : ℕ) → q < n → value_at m w q ≡ unlinked
  unfolding value_of
  empty_value winner q h = let e : word m (row q + 56 + 0) ≡ 0 = rows (row q + 56 + 0) (omega arith) (omega arith) in rw e
  empty_value canonical q h = let e : word m (row q + 60 + 0) ≡ 0 = rows (row q + 60 + 0) (omega arith) (omega arith) in rw e

  pub empty_values : values_of m n ≡ (λ w p. unlinked)
  empty_values = fun_ext (λ w. fun_ext (λ q. by_bool (ltb q n) (λ e. rw e (empty_value w q (ltb-true q n e))) (λ e. rw e)))

  pub empty_count : (test : Cell → Bool) → test free ≡ false → count (λ q. test (cells_of m n q)) n ≡ 0
  empty_count test e = sum_none (λ q. test (cells_of m n q)) n (λ q h. ap (λ (f : ℕ → Cell). test (f q)) empty_cells ∙ e)

  pub no_member : (k q : ℕ) → (k ≡ 3 → ⊥) → q < n → enters m k q ≡ false
  unfolding enters
  no_member k q ne h =
      let e : word m (row q + mark k) ≡ 0 = let b = mark_below k in rows (row q + mark k) (omega arith) (omega arith) in
      rw (e, ne_eqb k 3 ne)

  pub empty_index : (m₁ m₂ : List ℕ) (base keys : ℕ) → index.Cleared m₁ m₂ n base → ((a : ℕ) → base ≤ a → a < base + 3 * n → word m a ≡ word m₂ a) → Keyed m n base (key_at m keys false) (Used m)
  empty_index m₁ m₂ base keys c same = index_clear (λ q. bucket_of n (key_at m keys false q)) (Used m) now_cleared unused
    where
      now_cleared : index.Cleared m m n base
      now_cleared = record { only = λ a h. refl; long = refl; ends = λ b h. omega (arith, c.ends b h, same (base + b) (omega arith) (omega arith)) }

-- the roster of a size that is 0
empty_roster : (m : List ℕ) (n : ℕ) → word m 15 ≡ 0 → Roster m n
unfolding size_at
empty_roster m n e =
    let z : size_at m n 15 ≡ 0 = rw (e, le-leb 0 n (omega arith)) in
    record { few = omega (arith, z); below = λ i h. absurd (omega (arith, z)); stands = λ i h. absurd (omega (arith, z)) }

-- ---- wiping ----

module _ (m m₁ m₂ m₃ m₄ m₅ : List ℕ) (n : ℕ) (laid : Laid m n) (s : Swept m m₁ n) (c₁ : index.Cleared m₁ m₂ n (by_hash n)) (c₂ : index.Cleared m₂ m₃ n (by_prev n))
    (b : contest.Built n 3 m₃ m₄) (j : Clears m₄ m₅ n) where
  long : length m₅ ≡ length m
  long = j.long ∙ b.long ∙ c₂.long ∙ c₁.long ∙ s.long

  -- below the ring, all but the journal's two words of the head
  kept₄ : (a : ℕ) → (4 ≤ a → a < 6 → ⊥) → a < ring n → word m₅ a ≡ word m₄ a
  kept₄ a x y = j.only a x (omega arith)

  kept₃ : (a : ℕ) → (4 ≤ a → a < 6 → ⊥) → a < ring n → (nodes n 3 ≤ a → a < nodes n 4 → ⊥) → word m₅ a ≡ word m₃ a
  kept₃ a x y z = kept₄ a x y ∙ b.only a (λ u v. z u (omega arith))

  kept₁ : (a : ℕ) → (4 ≤ a → a < 6 → ⊥) → a < ring n → (nodes n 3 ≤ a → a < nodes n 4 → ⊥) → (by_hash n ≤ a → a < nodes n 0 → ⊥) → word m₅ a ≡ word m₁ a
  kept₁ a x y z w = kept₃ a x y z ∙ c₂.only a (λ u v. w (omega arith) (omega arith)) ∙ c₁.only a (λ u v. w (omega arith) (omega arith))

  head : (a : ℕ) → a < 11 → (4 ≤ a → a < 6 → ⊥) → word m₅ a ≡ word m a
  head a h x = kept₁ a x (omega arith) (omega arith) (omega arith) ∙ s.only a (omega arith) (omega arith) (omega arith)

  rows : (a : ℕ) → 64 ≤ a → a < by_hash n → word m₅ a ≡ 0
  rows a x y = kept₁ a (omega arith) (omega arith) (omega arith) (omega arith) ∙ s.rows a x y

  counts : (a : ℕ) → 11 ≤ a → a < 16 → word m₅ a ≡ 0
  counts a x y = kept₁ a (omega arith) (omega arith) (omega arith) (omega arith) ∙ s.counts a x y

  laid₅ : Laid m₅ n
  laid₅ = laid_same m m₅ n laid (head 0 (omega arith) (omega arith)) (head 1 (omega arith) (omega arith)) long

  laid₄ : Laid m₄ n
  laid₄ = laid_same m₅ m₄ n laid₅ (sym (kept₄ 0 (omega arith) (omega arith))) (sym (kept₄ 1 (omega arith) (omega arith))) (sym j.long)

  free₅ : WF n (contest.view m₅ n 3)
  free₅ =
      free_same m₄ m₅ n
      (record {
        used = λ q h. kept₄ (row q) (omega arith) (omega arith);
        headers = λ q a h x y. kept₄ a (omega arith) (omega arith);
        indexes = λ a x y. kept₄ a (omega arith) (omega arith);
        free = λ a x y. kept₄ a (omega arith) (omega arith);
      }) laid₄ b.tree

  sound₅ : SoundAt m₅ n
  unfolding view_at is_free is_held is_live is_canonical
  sound₅ = record {
    laid = laid₅;
    hashes = empty_index m₅ n rows m₁ m₂ (by_hash n) 68 c₁ (λ a x y. kept₃ a (omega arith) (omega arith) (omega arith) ∙ c₂.only a (omega arith));
    prevs = empty_index m₅ n rows m₂ m₃ (by_prev n) 72 c₂ (λ a x y. kept₃ a (omega arith) (omega arith) (omega arith));
    keys = λ p q h i u v e. absurd (unused m₅ n rows p h u);
    free = free₅;
    roster = empty_roster m₅ n (counts 15 (omega arith) (omega arith));
    vacant = λ p h e f. no_both (is_free (cells_of m₅ n p)) (ap (λ (g : ℕ → Cell). is_free (g p)) (empty_cells m₅ n rows)) e;
    effective = counts 11 (omega arith) (omega arith) ∙ sym (empty_count m₅ n rows is_held refl);
    live = counts 12 (omega arith) (omega arith) ∙ sym (empty_count m₅ n rows is_live refl);
    canonical = counts 13 (omega arith) (omega arith) ∙ sym (empty_count m₅ n rows is_canonical refl);
    journal = j.journaled;
  }

  entry₅ : (k i : ℕ) → k < 5 → (k ≡ 3 → ⊥) → i < n → word m₅ (nodes n k + i) ≡ none
  entry₅ k i h ne l =
      let top = column_le k 5 n h in
      by_bool (ltb k 3)
      (λ e. let c = column_le k 3 n (ltb-true k 3 e) in kept₁ (nodes n k + i) (omega arith) (omega arith) (omega arith) (omega arith) ∙ s.entries (nodes n k + i) (omega arith) (omega arith))
      (λ e. let f : 3 ≤ k = ltb-false k 3 e in let c = column_le 3 k n (omega arith) in kept₁ (nodes n k + i) (omega arith) (omega arith) (omega arith) (omega arith) ∙ s.entries (nodes n k + i) (omega arith) (omega arith))

  blank₅ : Blank m₅ n
  blank₅ = record {
    rows = λ q k h l. rows (row q + k) (omega arith) (omega arith);
    entries = entry₅;
    members = λ k q h ne l. no_member m₅ n rows k q ne l;
    trees = λ k h ne. empty m₅ n k laid.few (λ q l. no_member m₅ n rows k q ne l) (λ i l. entry₅ k i h ne l);
    leaves = counts 14 (omega arith) (omega arith);
  }

  pub wipe_done : Wiped m m₅ n
  wipe_done = record {
    long = long;
    head = head;
    sound = sound₅;
    cells = empty_cells m₅ n rows;
    values = empty_values m₅ n rows;
    journal = j.journal;
    blank = blank₅;
  }
