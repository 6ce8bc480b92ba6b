-- A place's new linked value, step by step: the child's number of the old parent falls, value and parent are written, that of the new one rises,
-- the three places are judged, and the contest is played again.
use mathlib.Core.Path.{◌≡◌, refl, sym, ap, ◌∙◌}
use mathlib.Core.Bool.{Bool, true, false, ◌&&◌, cond}
use mathlib.Core.List.{List}
use Prim.Native.Nat.{ℕ, zero, suc, ◌+◌, ◌*◌, ◌≤◌, ◌<◌}
use native.Mathlib.Omega.{arith}
use lib.Dec.{eqb, ltb}
use lib.ListN.{length}
use borrow.Author.Tests.{eqb-true, eqb-false, eq-eqb, ne_eqb, ltb-false}
use Rattle.model.specs.Places.{sum, count, put_at}
use Rattle.model.specs.Numbers.{max_word}
use Rattle.model.proofs.Tools.{by_bool}
use Rattle.model.proofs.Sums.{count_put, count_below}
use Rattle.memory.specs.Words.{word, seg, Only, Stored}
use Rattle.memory.specs.Layout.{row, nodes, leaves_at, vacant_at, Laid}
use Rattle.memory.proofs.WordLaws.{stored_same, stored_other, stored_long, seg_same}
use Rattle.contest.specs.Tree.{WF}
use Rattle.contest.specs.Contests as contest
use Rattle.contest.specs.Contests.{Updated}
use Rattle.contest.proofs.KeyLaws.{enters_kept}
use Rattle.contest.proofs.Uses.{SameBut, again}
use Rattle.roster.proofs.RosterLaws.{roster_same, roster_frame}
use Rattle.state.proofs.RowSteps.{count_at}
use Rattle.rows.specs.Rows.{value_of}
use Rattle.values.specs.Values.{value_means}
use Rattle.values.specs.declared.Value.{Value}
use Rattle.kin.specs.Relinked.{KinOnly, Relinked}
use Rattle.kin.specs.Kin.{linked_at, up_at, kids_at, Leaves, is_listed, leaf_at, Kin, kin_of, Lowered, Raised, Judged}

pub count_agree : (f g : ℕ → Bool) (n : ℕ) → ((q : ℕ) → q < n → f q ≡ g q) → count f n ≡ count g n
unfolding sum
count_agree f g zero h = refl
count_agree f g (suc n) h = rw (h n (omega arith), count_agree f g n (λ q l. h q (omega arith)))

-- to be a linked child of y is to have y for kin
kin_is : (m : List ℕ) (n p y : ℕ) → y < n → (linked_at m p && eqb (up_at m p) y) ≡ eqb (kin_of m n p) y
kin_is m n p y l = by_bool (linked_at m p) (λ e. rw e (by_bool (ltb (up_at m p) n) (λ f. rw f) (λ f. rw f (far f)))) (λ e. rw e (sym (ne_eqb n y (λ z. omega arith))))
  where
    far : ltb (up_at m p) n ≡ false → eqb (up_at m p) y ≡ eqb n y
    far f = let g = ltb-false (up_at m p) n f in ne_eqb (up_at m p) y (λ z. omega arith) ∙ sym (ne_eqb n y (λ z. omega arith))

module _ (m m₁ m₂ m₃ m₄ m₅ m₆ m₇ m₈ : List ℕ) (n p q u w : ℕ) (laid : Laid m n) (p<n : p < n)
    (was : u ≡ kin_of m n p) (s₁ : Lowered m m₁ n u)
    (s₂ : Only m₁ m₂ (row p + 56) (row p + 56 + 3)) (l₂ : length m₂ ≡ length m₁) (s₃ : Stored m₂ m₃ (row p + 67) q)
    (is : w ≡ kin_of m₃ n p) (s₄ : Raised m₃ m₄ n w)
    (s₅ : Judged m₄ m₅ n u) (s₆ : Judged m₅ m₆ n w) (s₇ : Judged m₆ m₇ n p) (s₈ : Updated n 0 p m₇ m₈) where
  -- ---- frames ----

  -- from the new parent's number on, the roster and the contest alone are written
  late : (a : ℕ) → (nodes n 0 ≤ a → a < nodes n 0 + n → ⊥) → (a ≡ 14 → ⊥) → (leaves_at n ≤ a → a < vacant_at n → ⊥) → ((y : ℕ) → y < n → a ≡ row y + 66 → ⊥) → word m₈ a ≡ word m₄ a
  late a f g h i = s₈.only a f ∙ s₇.only a g h i ∙ s₆.only a g h i ∙ s₅.only a g h i

  early : (a : ℕ) → ((y : ℕ) → y < n → a ≡ row y + 64 → ⊥) → (row p + 56 ≤ a → a < row p + 59 → ⊥) → (a ≡ row p + 67 → ⊥) → word m₄ a ≡ word m a
  early a f g h = s₄.only a (f w) ∙ stored_other s₃ a h ∙ s₂ a (λ x y. g x (omega arith)) ∙ s₁.only a (f u)

  pub relink_passes : (a : ℕ) → (nodes n 0 ≤ a → a < nodes n 0 + n → ⊥) → (a ≡ 14 → ⊥) → (leaves_at n ≤ a → a < vacant_at n → ⊥) → ((y : ℕ) → y < n → a ≡ row y + 66 → ⊥)
      → ((y : ℕ) → y < n → a ≡ row y + 64 → ⊥) → (row p + 56 ≤ a → a < row p + 59 → ⊥) → (a ≡ row p + 67 → ⊥) → word m₈ a ≡ word m a
  relink_passes a f g h i j k l = late a f g h i ∙ early a j k l

  pub relink_rows : (y k : ℕ) → y < n → k < 68 → (k ≡ 64 → ⊥) → (k ≡ 66 → ⊥) → (y ≡ p → 56 ≤ k → k < 59 → ⊥) → (y ≡ p → k ≡ 67 → ⊥) → word m₈ (row y + k) ≡ word m (row y + k)
  relink_rows y k h l a b c d =
      relink_passes (row y + k) (λ i j. omega arith) (λ i. omega arith) (λ i j. omega arith) (λ x i e. b (omega arith)) (λ x i e. a (omega arith))
      (λ i j. c (omega arith) (omega arith) (omega arith)) (λ e. d (omega arith) (omega arith))

  pub relink_long : length m₈ ≡ length m
  relink_long = s₈.long ∙ s₇.long ∙ s₆.long ∙ s₅.long ∙ s₄.long ∙ stored_long s₃ ∙ l₂ ∙ s₁.long

  -- the value and the parent's place stand as they were written
  pub relink_value : (i : ℕ) → i < 3 → word m₈ (row p + 56 + i) ≡ word m₂ (row p + 56 + i)
  relink_value i h =
      late (row p + 56 + i) (λ i j. omega arith) (λ i. omega arith) (λ i j. omega arith) (λ x i e. omega arith)
      ∙ s₄.only (row p + 56 + i) (λ l e. omega arith) ∙ stored_other s₃ (row p + 56 + i) (λ e. omega arith)

  pub relink_up : up_at m₈ p ≡ q
  relink_up =
      let l = laid.fits in let l₁ = s₁.long in
      late (row p + 67) (λ i j. omega arith) (λ i. omega arith) (λ i j. omega arith) (λ x i e. omega arith)
      ∙ s₄.only (row p + 67) (λ l e. omega arith) ∙ stored_same s₃ (omega arith)

  linked_later : linked_at m₈ p ≡ linked_at m₃ p
  linked_later =
      enters_kept m₃ m₈ 0 p
      (late (row p + 56) (λ i j. omega arith) (λ i. omega arith) (λ i j. omega arith) (λ x i e. omega arith) ∙ s₄.only (row p + 56) (λ l e. omega arith))

  kin_later : kin_of m₈ n p ≡ w
  kin_later =
      let e : up_at m₈ p ≡ up_at m₃ p =
      late (row p + 67) (λ i j. omega arith) (λ i. omega arith) (λ i j. omega arith) (λ x i e. omega arith) ∙ s₄.only (row p + 67) (λ l e. omega arith) in
      rw (linked_later, e) (sym is)

  linked_other : (y : ℕ) → y < n → (y ≡ p → ⊥) → linked_at m₈ y ≡ linked_at m y
  linked_other y h ne = enters_kept m m₈ 0 y (relink_rows y 56 h (omega arith) (λ i. omega arith) (λ i. omega arith) (λ i x z. ne i) (λ i x. ne i))

  -- ---- children ----

  module _ (kin : Kin m n) where
    -- who is a child of y
    abbrev of : List ℕ → ℕ → ℕ → Bool
    of z y x = linked_at z x && eqb (up_at z x) y

    counted : (y : ℕ) → y < n → count (of m₈ y) n + cond (eqb u y) 1 0 ≡ count (of m y) n + cond (eqb w y) 1 0
    counted y h =
        let a : of m y p ≡ eqb u y = kin_is m n p y h ∙ ap (λ (z : ℕ). eqb z y) (sym was) in
        let b : of m₈ y p ≡ eqb w y = kin_is m₈ n p y h ∙ ap (λ (z : ℕ). eqb z y) kin_later in
        let c : put_at (of m y) p (of m₈ y p) p ≡ of m₈ y p = let z : eqb p p ≡ true = eq-eqb p p refl in rw z in
        ap (λ (k : ℕ). k + cond (eqb u y) 1 0) (count_agree (of m₈ y) (put_at (of m y) p (of m₈ y p)) n same)
        ∙ ap (λ (t : Bool). count (put_at (of m y) p (of m₈ y p)) n + cond t 1 0) (sym a)
        ∙ count_put (of m y) (put_at (of m y) p (of m₈ y p)) n p p<n (λ x i. rw i) ∙ ap (λ (t : Bool). count (of m y) n + cond t 1 0) (c ∙ b)
      where
        same : (x : ℕ) → x < n → of m₈ y x ≡ put_at (of m y) p (of m₈ y p) x
        same x l =
            by_bool (eqb x p) (λ e. let z : x ≡ p = eqb-true x p e in rw (e, z))
            (λ e. let ne : x ≡ p → ⊥ = eqb-false x p e in
            let up : up_at m₈ x ≡ up_at m x = relink_rows x 67 l (omega arith) (λ i. omega arith) (λ i. omega arith) (λ i y z. ne i) (λ i y. ne i) in
            rw (e, linked_other x l ne, up))

    kids_late : (y : ℕ) → y < n → kids_at m₈ y ≡ kids_at m₄ y
    kids_late y h = late (row y + 64) (λ i j. omega arith) (λ i. omega arith) (λ i j. omega arith) (λ x i e. omega arith)

    kids_mid : (y : ℕ) → y < n → kids_at m₃ y ≡ kids_at m₁ y
    kids_mid y h = stored_other s₃ (row y + 64) (λ e. omega arith) ∙ s₂ (row y + 64) (λ x z. omega arith)

    -- the old parent had this child
    had : u < n → 1 ≤ kids_at m u
    had h =
        let c = count_at (of m u) n p p<n in
        let e : of m u p ≡ true = kin_is m n p u h ∙ ap (λ (z : ℕ). eqb z u) (sym was) ∙ eq-eqb u u refl in
        let d : 1 ≤ count (of m u) n = rw e at c in
        omega (arith, kin.counts u h)

    kids_early : (y : ℕ) → y < n → kids_at m₁ y + cond (eqb u y) 1 0 ≡ kids_at m y
    kids_early y h =
        by_bool (eqb u y)
        (λ e. let z : u ≡ y = eqb-true u y e in rw e (fallen z))
        (λ e. let ne = eqb-false u y e in rw e (let k = s₁.only (row y + 64) (λ i f. ne (omega arith)) in omega arith))
      where
        fallen : u ≡ y → kids_at m₁ y + 1 ≡ kids_at m y
        fallen z = rw (← z) (s₁.is (omega arith) (had (omega arith)))

    kids_few : (y : ℕ) → y < n → kids_at m₃ y < max_word
    kids_few y h =
        let a = kids_early y h in
        let b = kids_mid y h in
        let c = kin.counts y h in
        let d = count_below (of m y) n in
        let e = laid.few in
        omega arith

    kids_risen : (y : ℕ) → y < n → kids_at m₄ y ≡ kids_at m₃ y + cond (eqb w y) 1 0
    kids_risen y h =
        by_bool (eqb w y)
        (λ e. let z : w ≡ y = eqb-true w y e in rw e (risen z))
        (λ e. let ne = eqb-false w y e in rw e (let k = s₄.only (row y + 64) (λ i f. ne (omega arith)) in omega arith))
      where
        risen : w ≡ y → kids_at m₄ y ≡ kids_at m₃ y + 1
        risen z = rw (← z) (s₄.is (omega arith) (kids_few w (omega arith)))

    kids_now : (y : ℕ) → y < n → kids_at m₈ y + cond (eqb u y) 1 0 ≡ kids_at m y + cond (eqb w y) 1 0
    kids_now y h = omega (arith, kids_late y h, kids_risen y h, kids_mid y h, kids_early y h)

    counts : (y : ℕ) → y < n → kids_at m₈ y ≡ count (of m₈ y) n
    counts y h = omega (arith, kids_now y h, counted y h, kin.counts y h)

    -- ---- leaves ----

    r₄ : Leaves m₄ n
    r₄ =
        roster_frame m m₄ n (leaves_at n) 14 130 (early 14 (λ y i e. omega arith) (λ x y. omega arith) (λ e. omega arith))
        (λ i h. early (leaves_at n + i) (λ y i e. omega arith) (λ x y. omega arith) (λ e. omega arith))
        (λ x h. early (130 + 68 * x) (λ y i e. omega arith) (λ y z. omega arith) (λ e. omega arith)) kin.roster

    listed₄ : (y : ℕ) → y < n → is_listed m₄ n y ≡ is_listed m n y
    listed₄ y h =
        roster_same m m₄ n (leaves_at n) 14 130 (early 14 (λ y i e. omega arith) (λ x y. omega arith) (λ e. omega arith))
        (λ i h. early (leaves_at n + i) (λ y i e. omega arith) (λ x y. omega arith) (λ e. omega arith))
        (λ x h. early (130 + 68 * x) (λ y i e. omega arith) (λ y z. omega arith) (λ e. omega arith)) y h

    r₈ : Leaves m₈ n
    r₈ =
        roster_frame m₇ m₈ n (leaves_at n) 14 130 (s₈.only 14 (λ x y. omega arith)) (λ i h. s₈.only (leaves_at n + i) (λ x y. omega arith))
        (λ x h. s₈.only (130 + 68 * x) (λ x y. omega arith)) (s₇.well (s₆.well (s₅.well r₄)))

    listed₈ : (y : ℕ) → y < n → is_listed m₈ n y ≡ is_listed m₇ n y
    listed₈ y h =
        roster_same m₇ m₈ n (leaves_at n) 14 130 (s₈.only 14 (λ x y. omega arith)) (λ i h. s₈.only (leaves_at n + i) (λ x y. omega arith))
        (λ x h. s₈.only (130 + 68 * x) (λ x y. omega arith)) y h

    -- what the rows say of a leaf is the same from the new parent's number on
    leaf_late : (z : List ℕ) (y : ℕ) → y < n → word z (row y + 56) ≡ word m₈ (row y + 56) → kids_at z y ≡ kids_at m₈ y → leaf_at z y ≡ leaf_at m₈ y
    leaf_late z y h e f = rw (enters_kept m₈ z 0 y e, f)

    off : (y k : ℕ) → y < n → k < 66 → word m₅ (row y + k) ≡ word m₄ (row y + k)
    off y k h l = s₅.only (row y + k) (λ e. omega arith) (λ x z. omega arith) (λ x i e. omega arith)

    off₆ : (y k : ℕ) → y < n → k < 66 → word m₆ (row y + k) ≡ word m₅ (row y + k)
    off₆ y k h l = s₆.only (row y + k) (λ e. omega arith) (λ x z. omega arith) (λ x i e. omega arith)

    on : (y k : ℕ) → y < n → k < 66 → word m₈ (row y + k) ≡ word m₄ (row y + k)
    on y k h l = late (row y + k) (λ i j. omega arith) (λ i. omega arith) (λ i j. omega arith) (λ x i e. omega arith)

    leaf : (y : ℕ) → y < n → is_listed m₈ n y ≡ leaf_at m₈ y
    leaf y h = listed₈ y h ∙ by_bool (eqb y p) (λ e. at_p (eqb-true y p e)) (λ e. s₇.others r₆ y h (eqb-false y p e) ∙ by_bool (eqb y w) (λ f. at_w (eqb-true y w f)) (λ f. s₆.others r₅ y h (eqb-false y w f) ∙ by_bool (eqb y u) (λ g. at_u (eqb-true y u g)) (λ g. s₅.others r₄ y h (eqb-false y u g) ∙ listed₄ y h ∙ kin.leaf y h ∙ far (eqb-false y p e) (eqb-false y w f) (eqb-false y u g))))
      where
        r₅ : Leaves m₅ n
        r₅ = s₅.well r₄

        r₆ : Leaves m₆ n
        r₆ = s₆.well r₅

        at_p : y ≡ p → is_listed m₇ n y ≡ leaf_at m₈ y
        at_p e = rw e (s₇.is r₆ p<n ∙ leaf_late m₆ p p<n (off₆ p 56 p<n (omega arith) ∙ off p 56 p<n (omega arith) ∙ sym (on p 56 p<n (omega arith))) (off₆ p 64 p<n (omega arith) ∙ off p 64 p<n (omega arith) ∙ sym (on p 64 p<n (omega arith))))

        at_w : y ≡ w → is_listed m₆ n y ≡ leaf_at m₈ y
        at_w e = let l : w < n = omega arith in rw e (s₆.is r₅ l ∙ leaf_late m₅ w l (off w 56 l (omega arith) ∙ sym (on w 56 l (omega arith))) (off w 64 l (omega arith) ∙ sym (on w 64 l (omega arith))))

        at_u : y ≡ u → is_listed m₅ n y ≡ leaf_at m₈ y
        at_u e = let l : u < n = omega arith in rw e (s₅.is r₄ l ∙ leaf_late m₄ u l (sym (on u 56 l (omega arith))) (sym (on u 64 l (omega arith))))

        far : (y ≡ p → ⊥) → (y ≡ w → ⊥) → (y ≡ u → ⊥) → leaf_at m y ≡ leaf_at m₈ y
        far a b c =
            leaf_late m y h (sym (relink_rows y 56 h (omega arith) (λ i. omega arith) (λ i. omega arith) (λ i x z. a i) (λ i x. a i)))
            (let e : eqb u y ≡ false = ne_eqb u y (λ i. c (sym i)) in let f : eqb w y ≡ false = ne_eqb w y (λ i. b (sym i)) in let k : kids_at m₈ y + 0 ≡ kids_at m y + 0 = rw (e, f) at (kids_now y h) in omega arith)

    pub relink_kin : Kin m₈ n
    relink_kin = record { counts = counts; roster = r₈; leaf = leaf }

  -- ---- the contest ----

  pub relink_ranks : WF n (contest.view m n 0) → WF n (contest.view m₈ n 0)
  relink_ranks = again m m₇ n 0 m₈ p but s₈
    where
      seven : (y k : ℕ) → y < n → k < 66 → (k ≡ 64 → ⊥) → (y ≡ p → ⊥) → word m₇ (row y + k) ≡ word m (row y + k)
      seven y k h l a b =
          s₇.only (row y + k) (λ i. omega arith) (λ i j. omega arith) (λ x i e. omega arith) ∙ s₆.only (row y + k) (λ i. omega arith) (λ i j. omega arith) (λ x i e. omega arith)
          ∙ s₅.only (row y + k) (λ i. omega arith) (λ i j. omega arith) (λ x i e. omega arith)
          ∙ early (row y + k) (λ x i e. a (omega arith)) (λ i j. b (omega arith)) (λ e. b (omega arith))

      but : SameBut n 0 p m m₇
      but = record {
        node = λ j h. s₇.only (nodes n 0 + j) (λ i. omega arith) (λ i k. omega arith) (λ x i e. omega arith) ∙ s₆.only (nodes n 0 + j) (λ i. omega arith) (λ i k. omega arith) (λ x i e. omega arith) ∙ s₅.only (nodes n 0 + j) (λ i. omega arith) (λ i k. omega arith) (λ x i e. omega arith) ∙ early (nodes n 0 + j) (λ x i e. omega arith) (λ i k. omega arith) (λ e. omega arith);
        marks = λ y h ne. seven y 56 h (omega arith) (λ i. omega arith) ne;
        keys = λ y h ne e. record {
          hash = λ a k x z. seven y k h (omega arith) (λ i. omega arith) ne;
          turn = λ a. absurd (omega (arith, a));
          index = λ a b. seven y 12 h (omega arith) (λ i. omega arith) ne;
          winner = λ a b c k x z. seven y k h (omega arith) (λ i. omega arith) ne;
          canonical = λ a. absurd (omega (arith, a));
        };
      }

  -- ---- all of it ----

  pub relink_only : KinOnly m m₈ n p
  relink_only = record {
    long = relink_long;
    head = λ a h e. relink_passes a (λ i j. omega arith) e (λ i j. omega arith) (λ y i f. omega arith) (λ y i f. omega arith) (λ i j. omega arith) (λ f. omega arith);
    rows = relink_rows;
    indexes = λ a x y. relink_passes a (λ i j. omega arith) (λ e. omega arith) (λ i j. omega arith) (λ y i f. omega arith) (λ y i f. omega arith) (λ i j. omega arith) (λ f. omega arith);
    contests = λ a x y. relink_passes a (λ i j. omega arith) (λ e. omega arith) (λ i j. omega arith) (λ y i f. omega arith) (λ y i f. omega arith) (λ i j. omega arith) (λ f. omega arith);
    rest = λ a x. relink_passes a (λ i j. omega arith) (λ e. omega arith) (λ i j. omega arith) (λ y i f. omega arith) (λ y i f. omega arith) (λ i j. omega arith) (λ f. omega arith);
  }

  pub relink_done : (v : Value) → value_of (seg m₂ (row p + 56) 3) ≡ value_means v → Relinked m m₈ n p q v
  relink_done v e = record {
    only = relink_only;
    value = ap value_of (seg_same m₂ m₈ (row p + 56) 3 relink_value) ∙ e;
    up = relink_up;
    kin = relink_kin;
    ranks = relink_ranks;
  }
