-- The calls, between states of the model: refusals, answers, removals.
use mathlib.Core.Path.{◌≡◌, refl, sym, ap, ◌∙◌, subst}
use mathlib.Core.Bool.{Bool, true, false, not, ◌&&◌}
use mathlib.Core.List.{List}
use mathlib.Core.Option.{Option, none, some}
use Prim.Native.Nat.{ℕ, zero, suc, ◌+◌, ◌*◌, ◌≤◌, ◌<◌}
use native.Mathlib.Omega.{arith}
use lib.Dec.{eqb, ltb}
use borrow.Author.Tests.{eqb-true, eqb-false, eq-eqb, ne_eqb, lt-ltb, le-ltb}
use Rattle.amount.specs.Choose.{◌if◌else◌}
use Rattle.model.specs.Places.{is_some}
use Rattle.model.specs.Holding.{store_of, Cell, free, held, Holdings, is_free, has_room, place_of, has_copy, cell_has, copy_in, test_at, answered, answer_of, dropped, take_answer, drop}
use Rattle.model.specs.Numbers.{State, Call, number, step, effect, answer, remove, is_final, cell_final, clashes, max_word}
use Rattle.model.proofs.Tools.{first_some}
use Rattle.memory.specs.Words.{word}
use Rattle.memory.specs.Layout.{row, Laid}
use Rattle.rows.specs.Rows.{copy_at, held_at}
use Rattle.rows.proofs.RowLaws.{copy_none, copy_some}
use Rattle.state.specs.View.{view_at}
use Rattle.state.specs.Sound.{SoundAt, placed}
use Rattle.state.specs.Moves.{Stands, Apart, Moves, Done, with_cell}
use Rattle.state.proofs.FindLaws.{placed_in, placed_out, cell_used, used_is}
use Rattle.state.proofs.TouchSteps.{touched}
use Rattle.places.specs.Steps.{Marks, TakesOut}
use Rattle.arrivals.specs.Calls.{Within}

-- ---- any call ----

module _ (c : Call) (s : State) where
  pub accept : number c s ≡ 0 → effect c s ≡ step c s
  unfolding step
  accept e = rw e

  pub refuse : (number c s ≡ 0 → ⊥) → s ≡ step c s
  unfolding step
  refuse e = rw (ne_eqb (number c s) 0 e)

-- a memory that is as it was stands apart from nothing
pub apart_same : (m : List ℕ) (n : ℕ) → Apart m m n
apart_same m n = record { long = refl; rows = λ q k h x y. refl; headers = λ q k h u x y. refl; used = λ q h u. u; contests = λ a x y. refl; leaves = λ a x y. refl; leaf_count = refl }

pub apart_then : (m m₁ m₂ : List ℕ) (n : ℕ) → Apart m m₁ n → Apart m₁ m₂ n → Apart m m₂ n
apart_then m m₁ m₂ n a b = record {
  long = b.long ∙ a.long;
  rows = λ q k h x y. b.rows q k h x y ∙ a.rows q k h x y;
  headers = λ q k h u x y. b.headers q k h (a.used q h u) x y ∙ a.headers q k h u x y;
  used = λ q h u. b.used q h (a.used q h u);
  contests = λ i x y. b.contests i x y ∙ a.contests i x y;
  leaves = λ i x y. b.leaves i x y ∙ a.leaves i x y;
  leaf_count = b.leaf_count ∙ a.leaf_count;
}

-- a refusal
pub within_refused : (c : Call) (m : List ℕ) (n r : ℕ) → (r ≡ 0 → ⊥) → (SoundAt m n → number c (view_at m n) ≡ r) → Within c m m n r
within_refused c m n r ne f = record {
  refused = λ _. refl;
  number_is = λ s. sym (f s);
  stands = λ s. record { sound = s; state = refuse c (view_at m n) (λ z. ne (sym (f s) ∙ z)) };
  apart = λ s. apart_same m n;
}

-- nothing to do, with 0
pub within_idle : (c : Call) (m : List ℕ) (n : ℕ) → (SoundAt m n → (number c (view_at m n) ≡ 0) × (view_at m n ≡ effect c (view_at m n))) → Within c m m n 0
within_idle c m n f = record {
  refused = λ _. refl;
  number_is = λ s. sym (f s).0;
  stands = λ s. record { sound = s; state = (f s).1 ∙ accept c (view_at m n) (f s).0 };
  apart = λ s. apart_same m n;
}

-- done: what is left stands for the effect
pub within_done : (c : Call) (m m' : List ℕ) (n : ℕ) → (SoundAt m n → number c (view_at m n) ≡ 0) → (SoundAt m n → Stands m' n (effect c (view_at m n))) → (SoundAt m n → Apart m m' n) → Within c m m' n 0
within_done c m m' n f g a = record {
  refused = λ ne. absurd (ne refl);
  number_is = λ s. sym (f s);
  stands = λ s. record { sound = (g s).sound; state = (g s).state ∙ accept c (view_at m n) (f s) };
  apart = a;
}

-- from the inside to the whole memory: the room is read from the head
pub whole : (c : Call) (m m' : List ℕ) (n r : ℕ) → (Laid m (word m 0) → n ≡ word m 0) → Within c m m' n r → Done c m m' r
whole c m m' n r e w = record {
  refused = w.refused;
  right = λ s.
      let i : n ≡ word m 0 = e s.laid in
      let v : SoundAt m n = subst (SoundAt m) (sym i) s in
      let t = w.stands v in
      let i' : n ≡ word m' 0 = sym t.sound.laid.room in
      record {
        number_is = subst (λ (z : ℕ). r ≡ number c (view_at m z)) i (w.number_is v);
        sound = subst (λ (z : ℕ). SoundAt m' z) i' t.sound;
        state = subst (λ (z : ℕ). view_at m' z ≡ step c (view_at m (word m 0))) i' (subst (λ (z : ℕ). view_at m' n ≡ step c (view_at m z)) i t.state);
      };
  apart = λ s. let i : n ≡ word m 0 = e s.laid in subst (Apart m m') i (w.apart (subst (SoundAt m) (sym i) s));
}

pub no_room : (c : Call) (m : List ℕ) (n r : ℕ) → (Laid m (word m 0) → n ≡ word m 0) → n ≡ 0 → Done c m m r
no_room c m n r e z = record { refused = λ _. refl; right = λ s. let i = e s.laid in let o = s.laid.some in absurd (omega arith); apart = λ s. apart_same m (word m 0) }

-- ---- places ----

room_held : (x : ℕ) (c : Cell) → has_room x c ≡ true → is_free c ≡ false
unfolding has_room is_free
room_held x free e = sym e
room_held x (held c) e = refl

pub place_held : (h : Holdings) (x p : ℕ) → place_of h x ≡ some p → is_free (h.cells p) ≡ false
unfolding place_of
place_held h x p e = room_held x (h.cells p) (first_some (λ q. has_room x (h.cells q)) h.room p e).0

module _ (m : List ℕ) (n p : ℕ) (p<n : p < n) (taken : is_free ((view_at m n).holdings.cells p) ≡ false) where
  pub cell_is : (view_at m n).holdings.cells p ≡ held (held_at m (row p))
  unfolding view_at
  cell_is = used_is m n p p<n (cell_used m n p taken).1

-- ---- answers ----

module _ (s : State) (x a : ℕ) where
  pub answer-number : (t₁ t₂ : Bool) (o : Option ℕ) → ltb 2 a ≡ t₁ → place_of s.holdings x ≡ o → is_final s.holdings x a ≡ t₂
      → number (answer x a) s ≡ (10 if t₁ else 9 if not (is_some o) else 11 if t₂ else 0)
  unfolding number
  answer-number t₁ t₂ o e₁ e₂ e₃ = rw (e₁, e₃, e₂)

  answer-effect : (p : ℕ) → place_of s.holdings x ≡ some p → with_cell s p (answered (answer_of a) (s.holdings.cells p)) ≡ effect (answer x a) s
  unfolding effect take_answer
  answer-effect p e = rw e

pub answer_value : (m : List ℕ) (n x a : ℕ) → 2 < a → Within (answer x a) m m n 10
answer_value m n x a h = within_refused (answer x a) m n 10 (λ z. omega arith) (λ s. answer-number (view_at m n) x a true _ _ (lt-ltb 2 a h) refl refl)

module _ (m : List ℕ) (n x a p : ℕ) (a≤2 : a ≤ 2) (at : SoundAt m n → place_of (view_at m n).holdings x ≡ placed n p) where
  pub answer_unknown : n ≤ p → Within (answer x a) m m n 9
  answer_unknown h = within_refused (answer x a) m n 9 (λ z. omega arith) (λ s. answer-number (view_at m n) x a false _ none (le-ltb 2 a a≤2) (at s ∙ placed_out n p h) refl)

  module _ (p<n : p < n) where
    here : SoundAt m n → place_of (view_at m n).holdings x ≡ some p
    here s = at s ∙ placed_in n p p<n

    final_is : SoundAt m n → is_final (view_at m n).holdings x a ≡ clashes a (answer_of (word m (row p + 1)))
    final_is s =
        ap (λ (o : Option ℕ). test_at o (cell_final a) (view_at m n).holdings.cells) (here s)
        ∙ ap (cell_final a) (cell_is m n p p<n (place_held (view_at m n).holdings x p (here s)))

    pub answer_final : clashes a (answer_of (word m (row p + 1))) ≡ true → Within (answer x a) m m n 11
    answer_final f = within_refused (answer x a) m n 11 (λ z. omega arith) (λ s. answer-number (view_at m n) x a false true (some p) (le-ltb 2 a a≤2) (here s) (final_is s ∙ f))

    pub answer_done : (m' : List ℕ) → clashes a (answer_of (word m (row p + 1))) ≡ false → Marks m m' n p a → Within (answer x a) m m' n 0
    answer_done m' f t =
        within_done (answer x a) m m' n (λ s. answer-number (view_at m n) x a false false (some p) (le-ltb 2 a a≤2) (here s) (final_is s ∙ f))
        (λ s. let r = t.right s (place_held (view_at m n).holdings x p (here s)) in record { sound = r.sound; state = r.state ∙ answer-effect (view_at m n) x a p (here s) })
        (λ s. t.apart s (place_held (view_at m n).holdings x p (here s)))

-- ---- removals ----

copy_is : (m : List ℕ) (at : ℕ) (t : Bool) → eqb (word m at) 0 ≡ t → is_some (copy_at m at) ≡ not t
copy_is m at true e = ap is_some (copy_none m at (eqb-true (word m at) 0 e))
copy_is m at false e = ap is_some (copy_some m at (eqb-false (word m at) 0 e)).1

-- whether a store has a copy, by its state word
has_row : (m : List ℕ) (at k : ℕ) (t : Bool) → k ≤ 2 → eqb (word m (at + 20 + 12 * k)) 0 ≡ t → cell_has (store_of k) (held (held_at m at)) ≡ not t
unfolding cell_has copy_in
has_row m at zero t l e = copy_is m (at + 20) t (ap (λ (i : ℕ). eqb (word m i) 0) {x = at + 20} {y = at + 20 + 12 * 0} (omega arith) ∙ e)
has_row m at (suc zero) t l e = copy_is m (at + 32) t (ap (λ (i : ℕ). eqb (word m i) 0) {x = at + 32} {y = at + 20 + 12 * 1} (omega arith) ∙ e)
has_row m at (suc (suc zero)) t l e = copy_is m (at + 44) t (ap (λ (i : ℕ). eqb (word m i) 0) {x = at + 44} {y = at + 20 + 12 * 2} (omega arith) ∙ e)
has_row m at (suc (suc (suc k))) t l e = absurd (omega arith)

module _ (s : State) (k x : ℕ) where
  pub remove-number : (t₀ t₁ t₂ : Bool) → ltb 2 k ≡ t₀ → has_copy (store_of k) x s.holdings ≡ t₁ → eqb s.holdings.version max_word ≡ t₂
      → number (remove k x) s ≡ (2 if t₀ else 6 if t₁ && t₂ else 0)
  unfolding number
  remove-number t₀ t₁ t₂ e₀ e₁ e₂ = rw (e₀, e₁, e₂)

  remove_absent : has_copy (store_of k) x s.holdings ≡ false → s ≡ effect (remove k x) s
  unfolding effect
  remove_absent e = rw e

  remove-effect : (p : ℕ) → place_of s.holdings x ≡ some p → has_copy (store_of k) x s.holdings ≡ true
      → touched x (with_cell s p (dropped (store_of k) (s.holdings.cells p))) ≡ effect (remove k x) s
  unfolding effect drop
  remove-effect p e f = rw (f, e)

  has_none : place_of s.holdings x ≡ none → has_copy (store_of k) x s.holdings ≡ false
  has_none e = rw e

pub remove_kind : (m : List ℕ) (n k x : ℕ) → 2 < k → Within (remove k x) m m n 2
remove_kind m n k x h = within_refused (remove k x) m n 2 (λ z. omega arith) (λ s. remove-number (view_at m n) k x true _ _ (lt-ltb 2 k h) refl refl)

module _ (m : List ℕ) (n k x p : ℕ) (k≤2 : k ≤ 2) (at : SoundAt m n → place_of (view_at m n).holdings x ≡ placed n p) where
  nothing : (SoundAt m n → has_copy (store_of k) x (view_at m n).holdings ≡ false) → Within (remove k x) m m n 0
  nothing f = within_idle (remove k x) m n (λ s. (remove-number (view_at m n) k x false false _ (le-ltb 2 k k≤2) (f s) refl, remove_absent (view_at m n) k x (f s)))

  pub remove_nowhere : n ≤ p → Within (remove k x) m m n 0
  remove_nowhere h = nothing (λ s. has_none (view_at m n) k x (at s ∙ placed_out n p h))

  module _ (p<n : p < n) where
    there : SoundAt m n → place_of (view_at m n).holdings x ≡ some p
    there s = at s ∙ placed_in n p p<n

    has_at : (t : Bool) → eqb (word m (row p + 20 + 12 * k)) 0 ≡ t → SoundAt m n → has_copy (store_of k) x (view_at m n).holdings ≡ not t
    has_at t f s =
        ap (λ (o : Option ℕ). test_at o (cell_has (store_of k)) (view_at m n).holdings.cells) (there s)
        ∙ ap (cell_has (store_of k)) (cell_is m n p p<n (place_held (view_at m n).holdings x p (there s))) ∙ has_row m (row p) k t k≤2 f

    version_is : (view_at m n).holdings.version ≡ word m 3
    unfolding view_at
    version_is = refl

    pub remove_none : word m (row p + 20 + 12 * k) ≡ 0 → Within (remove k x) m m n 0
    remove_none f = nothing (has_at true (eq-eqb (word m (row p + 20 + 12 * k)) 0 f))

    module _ (some_copy : word m (row p + 20 + 12 * k) ≡ 0 → ⊥) where
      has : SoundAt m n → has_copy (store_of k) x (view_at m n).holdings ≡ true
      has = has_at false (ne_eqb (word m (row p + 20 + 12 * k)) 0 some_copy)

      pub remove_last : word m 3 ≡ max_word → Within (remove k x) m m n 6
      remove_last v =
          within_refused (remove k x) m n 6 (λ z. omega arith)
          (λ s. remove-number (view_at m n) k x false true true (le-ltb 2 k k≤2) (has s) (eq-eqb (view_at m n).holdings.version max_word (version_is ∙ v)))

      pub remove_done : (m₁ m₂ : List ℕ) → (word m 3 ≡ max_word → ⊥) → TakesOut m m₁ n p k → Moves m₁ m₂ n ((view_at m₁ n).holdings.version ≡ max_word → ⊥) (touched x (view_at m₁ n)) → Within (remove k x) m m₂ n 0
      remove_done m₁ m₂ v a t =
          within_done (remove k x) m m₂ n
          (λ s. remove-number (view_at m n) k x false true false (le-ltb 2 k k≤2) (has s) (ne_eqb (view_at m n).holdings.version max_word (λ y. v (sym version_is ∙ y))))
          (λ s. let r₁ = out s in let r₂ = t.right r₁.sound (more s) in
          record { sound = r₂.sound; state = r₂.state ∙ ap (touched x) r₁.state ∙ remove-effect (view_at m n) k x p (there s) (has s) })
          (λ s. apart_then m m₁ m₂ n (a.apart s (k≤2, place_held (view_at m n).holdings x p (there s))) (t.apart (out s).sound (more s)))
        where
          out : SoundAt m n → Stands m₁ n (with_cell (view_at m n) p (dropped (store_of k) ((view_at m n).holdings.cells p)))
          out s = a.right s (k≤2, place_held (view_at m n).holdings x p (there s))

          more : SoundAt m n → (view_at m₁ n).holdings.version ≡ max_word → ⊥
          more s y = v (sym version_is ∙ sym (ap (λ (z : State). z.holdings.version) (out s).state) ∙ y)
