-- Laws of dense sets in a memory: what the words are taken for, frames, an empty set, and what the stores of `add` and `drop` leave.
use mathlib.Core.Path.{◌≡◌, refl, sym, ap, ◌∙◌}
use mathlib.Core.Bool.{true, false}
use mathlib.Core.List.{List}
use Prim.Native.Nat.{ℕ, ◌+◌, ◌*◌, ◌-◌, ◌≤◌, ◌<◌}
use native.Mathlib.Omega.{arith}
use borrow.Author.Tests.{leb-true, le-leb, lt-leb, le-ltb, lt-ltb}
use lib.Dec.{leb}
use lib.ListN.{length}
use Rattle.model.specs.Places.{count}
use Rattle.model.proofs.Tools.{by_bool, no_both}
use Rattle.memory.specs.Words.{word, Stored}
use Rattle.memory.proofs.WordLaws.{stored_same, stored_other, stored_long}
use Rattle.roster.specs.Dense.{Lists}
use Rattle.roster.specs.Roster.{size_at, member_at, position_at, is_in, WellFormed, Size, Member, Lies}
use Rattle.roster.specs.Writes.{Added, Dropped}
use Rattle.roster.proofs.DenseLaws.{in_stands, stands_in, stands_out, out_stands, same_inside, sound_lists, sound_same, add_sound, add_in, add_others, drop_sound, drop_out, drop_others}
use Rattle.roster.proofs.Counting.{size_counts, size_room}

-- ---- words ----

size_is : (m : List ℕ) (n size : ℕ) → word m size ≤ n → size_at m n size ≡ word m size
unfolding size_at
size_is m n size h = rw (le-leb (word m size) n h)

pub size_few : (m : List ℕ) (n size : ℕ) → size_at m n size ≤ n
unfolding size_at
size_few m n size = by_bool (leb (word m size) n) (λ e. rw e (leb-true (word m size) n e)) (λ e. rw e (omega arith))

size_same : (m m' : List ℕ) (n size : ℕ) → word m' size ≡ word m size → size_at m' n size ≡ size_at m n size
unfolding size_at
size_same m m' n size e = rw e

member_is : (m : List ℕ) (n list i : ℕ) → word m (list + i) < n → member_at m n list i ≡ word m (list + i)
unfolding member_at
member_is m n list i h = rw (lt-ltb (word m (list + i)) n h)

pub size_read : (m : List ℕ) (n size : ℕ) → word m size ≤ n → Size m n size (word m size)
size_read m n size h = record { is = sym (size_is m n size h); few = h }

pub size_over : (m : List ℕ) (n size : ℕ) → n < word m size → Size m n size 0
unfolding size_at
size_over m n size h = record { is = rw (lt-leb (word m size) n h); few = omega arith }

pub member_read : (m : List ℕ) (n list i : ℕ) → word m (list + i) < n → Member m n list i (word m (list + i))
member_read m n list i h = record { is = sym (member_is m n list i h); below = h }

pub member_over : (m : List ℕ) (n list i : ℕ) → 1 ≤ n → n ≤ word m (list + i) → Member m n list i 0
unfolding member_at
member_over m n list i k h = record { is = rw (le-ltb (word m (list + i)) n h); below = k }

member_same : (m m' : List ℕ) (n list i : ℕ) → word m' (list + i) ≡ word m (list + i) → member_at m' n list i ≡ member_at m n list i
unfolding member_at
member_same m m' n list i e = rw e

-- ---- what a well-formed set is ----

module _ (m : List ℕ) (n list size posn : ℕ) (w : WellFormed m n list size posn) where
  -- a loop over the positions below the size visits the members, each once
  pub roster_lists : Lists n (size_at m n size) (member_at m n list) (position_at m posn)
  roster_lists = sound_lists w

  pub roster_counts : count (is_in m n list size posn) n ≡ size_at m n size
  roster_counts = size_counts n (size_at m n size) (member_at m n list) (position_at m posn) w

  pub roster_room : (p : ℕ) → p < n → is_in m n list size posn p ≡ false → size_at m n size < n
  roster_room = size_room n (size_at m n size) (member_at m n list) (position_at m posn) w

-- ---- frames, and an empty set ----

module _ (m m' : List ℕ) (n list size posn : ℕ) (size_kept : word m' size ≡ word m size)
    (members : (i : ℕ) → i < n → word m' (list + i) ≡ word m (list + i))
    (positions : (q : ℕ) → q < n → word m' (posn + 68 * q) ≡ word m (posn + 68 * q)) where
  kept : size_at m' n size ≡ size_at m n size
  kept = size_same m m' n size size_kept

  same_at : (i : ℕ) → i < size_at m n size → member_at m' n list i ≡ member_at m n list i
  same_at i h = member_same m m' n list i (members i (omega (arith, size_few m n size)))

  pub roster_frame : WellFormed m n list size posn → WellFormed m' n list size posn
  roster_frame =
      sound_same n (size_at m n size) (size_at m' n size) (member_at m n list) (member_at m' n list) (position_at m posn) (position_at m' posn) kept same_at positions

  pub roster_same : (q : ℕ) → q < n → is_in m' n list size posn q ≡ is_in m n list size posn q
  roster_same q h =
      let e = positions q h in
      let k = kept in
      same_inside (size_at m n size) (size_at m' n size) (member_at m n list) (member_at m' n list) (position_at m posn) (position_at m' posn) q
      (λ v. (omega (arith, v.0), ap (member_at m' n list) e ∙ same_at _ v.0 ∙ v.1))
      (λ v. let j : position_at m posn q < size_at m n size = omega (arith, v.0) in (j, sym (same_at _ j) ∙ ap (member_at m' n list) (sym e) ∙ v.1))

module _ {m m' : List ℕ} {size : ℕ} (n list posn : ℕ) (s : Stored m m' size 0) (h : size < length m) where
  pub clear_size : size_at m' n size ≡ 0
  clear_size = let e = stored_same s h in size_is m' n size (omega arith) ∙ e

  pub clear_well : WellFormed m' n list size posn
  clear_well =
      let e = clear_size in
      record { few = size_few m' n size; below = λ i j. absurd (omega arith); stands = λ i j. absurd (omega arith) }

  pub clear_out : (q : ℕ) → is_in m' n list size posn q ≡ false
  clear_out q =
      let e = clear_size in
      stands_out (size_at m' n size) (member_at m' n list) (position_at m' posn) q (λ v. omega (arith, v.0))

-- ---- add ----

-- there is no room: a well-formed set has room for a place that it does not have
pub added_full : (m : List ℕ) (n list size posn p : ℕ) → p < n → is_in m n list size posn p ≡ false → n ≤ size_at m n size → Added m m n list size posn p
added_full m n list size posn p p<n h f =
    record {
      within = λ a f g k. refl;
      long = refl;
      again = λ e. refl;
      well = λ w. w;
      now_in = λ w. absurd (omega (arith, roster_room m n list size posn w p p<n h));
      others = λ w q i ne. refl;
      more = λ w e. absurd (omega (arith, roster_room m n list size posn w p p<n h));
    }

module _ (m m₁ m₂ m₃ : List ℕ) (n list size posn p z : ℕ) (p<n : p < n) (lies : Lies n list size posn (length m))
    (out : is_in m n list size posn p ≡ false) (is : z ≡ size_at m n size) (room : z < n)
    (s₁ : Stored m m₁ (list + z) p) (s₂ : Stored m₁ m₂ (posn + 68 * p) z) (s₃ : Stored m₂ m₃ size (z + 1)) where
  a_size : size_at m₃ n size ≡ z + 1
  a_size =
      let l₁ = stored_long s₁ in
      let l₂ = stored_long s₂ in
      let e : word m₃ size ≡ z + 1 = stored_same s₃ (omega arith) in
      size_is m₃ n size (omega arith) ∙ e

  a_last : member_at m₃ n list z ≡ p
  a_last =
      let e : word m₃ (list + z) ≡ p = stored_other s₃ (list + z) (omega arith) ∙ stored_other s₂ (list + z) (omega arith) ∙ stored_same s₁ (omega arith) in
      member_is m₃ n list z (omega arith) ∙ e

  a_members : (i : ℕ) → i < size_at m n size → member_at m₃ n list i ≡ member_at m n list i
  a_members i h =
      member_same m m₃ n list i
      (stored_other s₃ (list + i) (omega arith) ∙ stored_other s₂ (list + i) (omega arith) ∙ stored_other s₁ (list + i) (omega arith))

  a_at : word m₃ (posn + 68 * p) ≡ z
  a_at = let l₁ = stored_long s₁ in stored_other s₃ (posn + 68 * p) (omega arith) ∙ stored_same s₂ (omega arith)

  a_positions : (q : ℕ) → q < n → (q ≡ p → ⊥) → word m₃ (posn + 68 * q) ≡ word m (posn + 68 * q)
  a_positions q h ne =
      stored_other s₃ (posn + 68 * q) (omega arith) ∙ stored_other s₂ (posn + 68 * q) (omega arith) ∙ stored_other s₁ (posn + 68 * q) (omega arith)

  pub added_done : Added m m₃ n list size posn p
  added_done =
      let Z = size_at m n size in
      let Z' = size_at m₃ n size in
      let M = member_at m n list in
      let M' = member_at m₃ n list in
      let P = position_at m posn in
      let P' = position_at m₃ posn in
      let o = out_stands (size_at m n size) (member_at m n list) (position_at m posn) p out in
      let larger : size_at m₃ n size ≡ size_at m n size + 1 = a_size ∙ ap (λ (y : ℕ). y + 1) is in
      let last : member_at m₃ n list (size_at m n size) ≡ p = ap (member_at m₃ n list) (sym is) ∙ a_last in
      let at : position_at m₃ posn p ≡ size_at m n size = a_at ∙ is in
      record {
        within = λ a f g k.
            stored_other s₃ a f ∙ stored_other s₂ a k ∙ stored_other s₁ a (λ e. g (omega arith) (omega arith));
        long = stored_long s₃ ∙ stored_long s₂ ∙ stored_long s₁;
        again = λ e. no_both _ e out;
        well = λ w. add_sound n Z Z' M M' P P' w p p<n o (omega arith) larger last a_members at a_positions;
        now_in = λ w. stands_in (size_at m₃ n size) (member_at m₃ n list) (position_at m₃ posn) p
            (add_in n Z Z' M M' P P' w p p<n o (omega arith) larger last a_members at a_positions);
        others = λ w. add_others n Z Z' M M' P P' w p p<n o (omega arith) larger last a_members at a_positions;
        more = λ w e. larger;
      }

-- ---- drop ----

pub dropped_not : (m : List ℕ) (n list size posn p : ℕ) → is_in m n list size posn p ≡ false → Dropped m m n list size posn p
dropped_not m n list size posn p h =
    record {
      within = λ a f g k. refl;
      long = refl;
      again = λ e. refl;
      well = λ w. w;
      now_out = λ w. h;
      others = λ w q i ne. refl;
      less = λ w e. no_both _ e h;
    }

module _ (m m₁ m₂ m₃ : List ℕ) (n list size posn p z i q : ℕ) (p<n : p < n) (lies : Lies n list size posn (length m))
    (held : is_in m n list size posn p ≡ true) (is : z ≡ size_at m n size) (at_p : i ≡ word m (posn + 68 * p))
    (last : q ≡ member_at m n list (z - 1)) (q<n : q < n)
    (s₁ : Stored m m₁ (list + i) q) (s₂ : Stored m₁ m₂ (posn + 68 * q) i) (s₃ : Stored m₂ m₃ size (z - 1)) where
  i<z : i < z
  i<z = let v = (in_stands (size_at m n size) (member_at m n list) (position_at m posn) p held).0 in omega arith

  z≤n : z ≤ n
  z≤n = let f = size_few m n size in omega arith

  d_size : size_at m₃ n size ≡ z - 1
  d_size =
      let l₁ = stored_long s₁ in
      let l₂ = stored_long s₂ in
      let f = z≤n in
      let e : word m₃ size ≡ z - 1 = stored_same s₃ (omega arith) in
      size_is m₃ n size (omega arith) ∙ e

  d_moved : member_at m₃ n list i ≡ q
  d_moved =
      let h = i<z in
      let f = z≤n in
      let e : word m₃ (list + i) ≡ q = stored_other s₃ (list + i) (omega arith) ∙ stored_other s₂ (list + i) (omega arith) ∙ stored_same s₁ (omega arith) in
      member_is m₃ n list i (omega arith) ∙ e

  d_members : (j : ℕ) → (j ≡ i → ⊥) → member_at m₃ n list j ≡ member_at m n list j
  d_members j ne =
      member_same m m₃ n list j
      (stored_other s₃ (list + j) (omega arith) ∙ stored_other s₂ (list + j) (omega arith) ∙ stored_other s₁ (list + j) (omega arith))

  d_at : word m₃ (posn + 68 * q) ≡ i
  d_at = let l₁ = stored_long s₁ in stored_other s₃ (posn + 68 * q) (omega arith) ∙ stored_same s₂ (omega arith)

  d_positions : (r : ℕ) → r < n → (r ≡ q → ⊥) → word m₃ (posn + 68 * r) ≡ word m (posn + 68 * r)
  d_positions r h ne =
      stored_other s₃ (posn + 68 * r) (omega arith) ∙ stored_other s₂ (posn + 68 * r) (omega arith) ∙ stored_other s₁ (posn + 68 * r) (omega arith)

  pub dropped_done : Dropped m m₃ n list size posn p
  dropped_done =
      let Z = size_at m n size in
      let Z' = size_at m₃ n size in
      let M = member_at m n list in
      let M' = member_at m₃ n list in
      let P = position_at m posn in
      let P' = position_at m₃ posn in
      let v = in_stands (size_at m n size) (member_at m n list) (position_at m posn) p held in
      let h = i<z in
      let ds = d_size in
      let smaller : size_at m n size ≡ size_at m₃ n size + 1 = omega arith in
      let q_is : q ≡ member_at m n list (size_at m₃ n size) = last ∙ ap (member_at m n list) (sym ds) in
      let moved : member_at m₃ n list (position_at m posn p) ≡ member_at m n list (size_at m₃ n size) = ap (member_at m₃ n list) (sym at_p) ∙ d_moved ∙ q_is in
      let members : (j : ℕ) → j < size_at m₃ n size → (j ≡ position_at m posn p → ⊥) → member_at m₃ n list j ≡ member_at m n list j = λ j k ne. d_members j (λ e. ne (e ∙ at_p)) in
      let at : position_at m₃ posn (member_at m n list (size_at m₃ n size)) ≡ position_at m posn p = ap (position_at m₃ posn) (sym q_is) ∙ d_at ∙ at_p in
      let positions : (r : ℕ) → r < n → (r ≡ member_at m n list (size_at m₃ n size) → ⊥) → position_at m₃ posn r ≡ position_at m posn r = λ r k ne. d_positions r k (λ e. ne (e ∙ q_is)) in
      record {
        within = λ a f g k.
            stored_other s₃ a f ∙ stored_other s₂ a (λ e. k (e ∙ ap (λ (y : ℕ). posn + 68 * y) (last ∙ ap (λ (y : ℕ). member_at m n list (y - 1)) is)))
            ∙ stored_other s₁ a (λ e. let y = z≤n in g (omega arith) (omega arith));
        long = stored_long s₃ ∙ stored_long s₂ ∙ stored_long s₁;
        again = λ e. no_both _ held e;
        well = λ w. drop_sound n Z Z' M M' P P' w p p<n v smaller moved members at positions;
        now_out = λ w. stands_out (size_at m₃ n size) (member_at m₃ n list) (position_at m₃ posn) p
            (drop_out n Z Z' M M' P P' w p p<n v smaller moved members at positions);
        others = λ w. drop_others n Z Z' M M' P P' w p p<n v smaller moved members at positions;
        less = λ w e. smaller;
      }
