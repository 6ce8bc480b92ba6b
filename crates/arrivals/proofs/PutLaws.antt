-- Loads and puts, between states of the model.
use Prim.{tt}
use mathlib.Core.Path.{◌≡◌, refl, sym, ap, ◌∙◌}
use mathlib.Core.Bool.{Bool, true, false, not}
use mathlib.Core.List.{List}
use mathlib.Core.Option.{Option, none, some}
use Prim.Native.Nat.{ℕ, ◌+◌, ◌≤◌, ◌<◌}
use native.Mathlib.Omega.{arith}
use lib.Dec.{eqb, ltb}
use borrow.Author.Tests.{eq-eqb, ne_eqb, lt-ltb, le-ltb}
use Rattle.amount.specs.Choose.{◌if◌else◌}
use Rattle.model.specs.Places.{is_some}
use Rattle.model.specs.Record.{Header, Block, same_header}
use Rattle.model.specs.Holding.{store_of, is_free, place_of, free_place, kept, keep}
use Rattle.model.specs.Numbers.{State, number, effect, stale, load, put, max_word, other_header, full, cell_differs}
use Rattle.memory.specs.Words.{word}
use Rattle.memory.specs.Layout.{row}
use Rattle.rows.specs.Rows.{header_at}
use Rattle.state.specs.View.{view_at}
use Rattle.state.specs.Sound.{SoundAt, placed}
use Rattle.state.specs.Moves.{Stands, Apart, Moves, with_cell}
use Rattle.state.proofs.FindLaws.{placed_in, placed_out}
use Rattle.state.proofs.TouchSteps.{touched}
use Rattle.arrivals.specs.Calls.{Within}
use Rattle.places.specs.Steps.{Replaces}
use Rattle.places.specs.Admits.{Admits}
use Rattle.arrivals.specs.Seats.{seat_number, Known, Roomy}
use Rattle.arrivals.proofs.CallLaws.{within_refused, within_done, apart_then, place_held, cell_is}

-- ---- where a record goes ----

module _ (m : List ℕ) (n : ℕ) (b : Block) where
  seat_number_lem : (s : State) (t₃ t₄ t₅ : Bool) → eqb b.header.index max_word ≡ t₃ → other_header s.holdings b ≡ t₄ → full s.holdings b ≡ t₅
      → seat_number b s ≡ (3 if t₃ else 4 if t₄ else 5 if t₅ else 0)
  seat_number_lem s t₃ t₄ t₅ e₃ e₄ e₅ = rw (e₃, e₄, e₅)

  pub seat_index : b.header.index ≡ max_word → seat_number b (view_at m n) ≡ 3
  seat_index e = seat_number_lem (view_at m n) true _ _ (eq-eqb b.header.index max_word e) refl refl

  module _ (low : b.header.index ≡ max_word → ⊥) (p : ℕ) (at : place_of (view_at m n).holdings b.header.hash ≡ placed n p) where
    module _ (p<n : p < n) where
      here : place_of (view_at m n).holdings b.header.hash ≡ some p
      here = at ∙ placed_in n p p<n

      differs : (t : Bool) → t ≡ same_header (header_at m (row p + 4)) b.header → other_header (view_at m n).holdings b ≡ not t
      differs t e = rw here (ap (cell_differs b) (cell_is m n p p<n (place_held (view_at m n).holdings b.header.hash p here)) ∙ ap not (sym e))

      not_full : full (view_at m n).holdings b ≡ false
      not_full = rw here

      pub seat_header : false ≡ same_header (header_at m (row p + 4)) b.header → seat_number b (view_at m n) ≡ 4
      seat_header e = seat_number_lem (view_at m n) false true _ (ne_eqb b.header.index max_word low) (differs false e) refl

      pub seat_old : true ≡ same_header (header_at m (row p + 4)) b.header → (seat_number b (view_at m n) ≡ 0) × (place_of (view_at m n).holdings b.header.hash ≡ some p)
      seat_old e = (seat_number_lem (view_at m n) false false false (ne_eqb b.header.index max_word low) (differs true e) not_full, here)

    module _ (n≤p : n ≤ p) (q : ℕ) (lowest : free_place (view_at m n).holdings ≡ placed n q) where
      nowhere : place_of (view_at m n).holdings b.header.hash ≡ none
      nowhere = at ∙ placed_out n p n≤p

      same : other_header (view_at m n).holdings b ≡ false
      same = rw nowhere

      full_is : (o : Option ℕ) → free_place (view_at m n).holdings ≡ o → full (view_at m n).holdings b ≡ not (is_some o)
      full_is o f = rw (nowhere, f)

      pub seat_full : n ≤ q → seat_number b (view_at m n) ≡ 5
      seat_full h = seat_number_lem (view_at m n) false false true (ne_eqb b.header.index max_word low) same (full_is none (lowest ∙ placed_out n q h))

      pub seat_new : q < n → (seat_number b (view_at m n) ≡ 0) × (place_of (view_at m n).holdings b.header.hash ≡ none) × (free_place (view_at m n).holdings ≡ some q)
      seat_new h =
          let f = lowest ∙ placed_in n q h in
          (seat_number_lem (view_at m n) false false false (ne_eqb b.header.index max_word low) same (full_is (some q) f), nowhere, f)

-- ---- the numbers of the two calls ----

module _ (k : ℕ) (b : Block) (s : State) where
  pub put-number : (t₂ t₆ : Bool) (x : ℕ) → ltb 2 k ≡ t₂ → seat_number b s ≡ x → eqb s.holdings.version max_word ≡ t₆ → number (put k b) s ≡ (2 if t₂ else x if not (eqb x 0) else 6 if t₆ else 0)
  unfolding number
  put-number t₂ t₆ x e₂ e e₆ = rw (e₂, e₆) (choose t₂ (eqb b.header.index max_word) (other_header s.holdings b) (full s.holdings b) t₆ x e)
    where
      choose : (t₂ t₃ t₄ t₅ t₆ : Bool) (x : ℕ) → (3 if t₃ else 4 if t₄ else 5 if t₅ else 0) ≡ x
          → (2 if t₂ else 3 if t₃ else 4 if t₄ else 5 if t₅ else 6 if t₆ else 0) ≡ (2 if t₂ else x if not (eqb x 0) else 6 if t₆ else 0)
      choose true t₃ t₄ t₅ t₆ x e = refl
      choose false true t₄ t₅ t₆ x e = rw (← e)
      choose false false true t₅ t₆ x e = rw (← e)
      choose false false false true t₆ x e = rw (← e)
      choose false false false false t₆ x e = rw (← e)

  pub load-number : (t₇ t₂ : Bool) (x : ℕ) → s.holdings.loading ≡ t₇ → ltb 2 k ≡ t₂ → seat_number b s ≡ x → number (load k b) s ≡ (7 if not t₇ else 2 if t₂ else x)
  unfolding number
  load-number t₇ t₂ x e₇ e₂ e =
      ap (λ (t : Bool). 7 if not t else 2 if ltb 2 k else seat_number b s) e₇ ∙ ap (λ (t : Bool). 7 if not t₇ else 2 if t else seat_number b s) e₂ ∙ ap (λ (z : ℕ). 7 if not t₇ else 2 if t₂ else z) e

  pub put_old_effect : (p : ℕ) → place_of s.holdings b.header.hash ≡ some p → touched b.header.hash (with_cell s p (kept (store_of k) b (s.holdings.cells p))) ≡ effect (put k b) s
  unfolding effect keep
  put_old_effect p e = rw e

  pub put_new_effect : (p : ℕ) → place_of s.holdings b.header.hash ≡ none → free_place s.holdings ≡ some p → touched b.header.hash (with_cell s p (kept (store_of k) b (s.holdings.cells p))) ≡ effect (put k b) s
  unfolding effect keep
  put_new_effect p e f = rw (e, f)

-- ---- a put ----

module _ (m : List ℕ) (n k : ℕ) (b : Block) where
  version_is : (view_at m n).holdings.version ≡ word m 3
  unfolding view_at
  version_is = refl

  pub put_kind : 2 < k → Within (put k b) m m n 2
  put_kind h = within_refused (put k b) m n 2 (λ z. omega arith) (λ s. put-number k b (view_at m n) true _ _ (lt-ltb 2 k h) refl refl)

  module _ (k≤2 : k ≤ 2) where
    pub put_seat : (x : ℕ) → (x ≡ 0 → ⊥) → (SoundAt m n → seat_number b (view_at m n) ≡ x) → Within (put k b) m m n x
    put_seat x ne f =
        within_refused (put k b) m n x ne
        (λ s. put-number k b (view_at m n) false _ x (le-ltb 2 k k≤2) (f s) refl ∙ (let z : eqb x 0 ≡ false = ne_eqb x 0 ne in rw z))

    pub put_last : (SoundAt m n → seat_number b (view_at m n) ≡ 0) → word m 3 ≡ max_word → Within (put k b) m m n 6
    put_last f v =
        within_refused (put k b) m n 6 (λ z. omega arith)
        (λ s. put-number k b (view_at m n) false true 0 (le-ltb 2 k k≤2) (f s) (eq-eqb (view_at m n).holdings.version max_word (version_is ∙ v)))

    -- the record is kept at p, and its hash touched
    module _ (p : ℕ) (m₁ m₂ : List ℕ) (more : word m 3 ≡ max_word → ⊥) (f : SoundAt m n → seat_number b (view_at m n) ≡ 0)
        (first : SoundAt m n → Stands m₁ n (with_cell (view_at m n) p (kept (store_of k) b ((view_at m n).holdings.cells p)))) (a₁ : SoundAt m n → Apart m m₁ n)
        (t : Moves m₁ m₂ n ((view_at m₁ n).holdings.version ≡ max_word → ⊥) (touched b.header.hash (view_at m₁ n))) where
      due : SoundAt m n → (view_at m₁ n).holdings.version ≡ max_word → ⊥
      due s y = more (sym version_is ∙ sym (ap (λ (z : State). z.holdings.version) (first s).state) ∙ y)

      pub put_done : (SoundAt m n → touched b.header.hash (with_cell (view_at m n) p (kept (store_of k) b ((view_at m n).holdings.cells p))) ≡ effect (put k b) (view_at m n)) → Within (put k b) m m₂ n 0
      put_done e =
          within_done (put k b) m m₂ n
          (λ s. put-number k b (view_at m n) false false 0 (le-ltb 2 k k≤2) (f s) (ne_eqb (view_at m n).holdings.version max_word (λ y. more (sym version_is ∙ y))))
          (λ s. let r = t.right (first s).sound (due s) in record { sound = r.sound; state = r.state ∙ ap (touched b.header.hash) (first s).state ∙ e s })
          (λ s. apart_then m m₁ m₂ n (a₁ s) (t.apart (first s).sound (due s)))

    module _ (p : ℕ) (m₁ m₂ : List ℕ) (more : word m 3 ≡ max_word → ⊥)
        (t : Moves m₁ m₂ n ((view_at m₁ n).holdings.version ≡ max_word → ⊥) (touched b.header.hash (view_at m₁ n))) where
      pub put_old : (SoundAt m n → Known b (view_at m n) p) → Replaces m m₁ n p k b → Within (put k b) m m₂ n 0
      put_old f r = put_done p m₁ m₂ more (λ s. (f s).0) (λ s. r.right s (due_old s)) (λ s. r.apart s (due_old s)) t (λ s. put_old_effect k b (view_at m n) p (f s).1)
        where
          due_old : SoundAt m n → (k ≤ 2) × (is_free ((view_at m n).holdings.cells p) ≡ false)
          due_old s = (k≤2, place_held (view_at m n).holdings b.header.hash p (f s).1)

      pub put_new : (SoundAt m n → Roomy b (view_at m n) p) → Admits m m₁ n p k b → Within (put k b) m m₂ n 0
      put_new f r = put_done p m₁ m₂ more (λ s. (f s).0) (λ s. r.right s (due_new s)) (λ s. r.apart s (due_new s)) t (λ s. put_new_effect k b (view_at m n) p (f s).1 (f s).2)
        where
          due_new : SoundAt m n → (k ≤ 2) × (free_place (view_at m n).holdings ≡ some p) × (place_of (view_at m n).holdings b.header.hash ≡ none)
          due_new s = (k≤2, (f s).2, (f s).1)

-- ---- a load: the same without a touch ----

module _ (k : ℕ) (b : Block) (s : State) where
  load_old_effect : (p : ℕ) → place_of s.holdings b.header.hash ≡ some p → stale s (with_cell s p (kept (store_of k) b (s.holdings.cells p))).holdings ≡ effect (load k b) s
  unfolding effect keep
  load_old_effect p e = rw e

  load_new_effect : (p : ℕ) → place_of s.holdings b.header.hash ≡ none → free_place s.holdings ≡ some p → stale s (with_cell s p (kept (store_of k) b (s.holdings.cells p))).holdings ≡ effect (load k b) s
  unfolding effect keep
  load_new_effect p e f = rw (e, f)

-- ---- a seat, of any record with that header ----

module _ (m : List ℕ) (n : ℕ) (x : Header) where
  pub no_index : x.index ≡ max_word → SoundAt m n → (b : Block) → b.header ≡ x → seat_number b (view_at m n) ≡ 3
  no_index e s b h = seat_index m n b (ap (λ (z : Header). z.index) h ∙ e)

  module _ (low : x.index ≡ max_word → ⊥) (p : ℕ) (at : SoundAt m n → place_of (view_at m n).holdings x.hash ≡ placed n p) where
    low_of : (b : Block) → b.header ≡ x → b.header.index ≡ max_word → ⊥
    low_of b h e = low (sym (ap (λ (z : Header). z.index) h) ∙ e)

    at_of : SoundAt m n → (b : Block) → b.header ≡ x → place_of (view_at m n).holdings b.header.hash ≡ placed n p
    at_of s b h = ap (λ (z : Header). place_of (view_at m n).holdings z.hash) h ∙ at s

    module _ (y : Header) (there : y ≡ header_at m (row p + 4)) (p<n : p < n) where
      same_of : (t : Bool) → t ≡ same_header y x → (b : Block) → b.header ≡ x → t ≡ same_header (header_at m (row p + 4)) b.header
      same_of t e b h = e ∙ ap (λ (z : Header). same_header z x) there ∙ ap (same_header (header_at m (row p + 4))) (sym h)

      never : (t : Bool) → t ≡ not t → ⊥
      never false f = let z : ◌≡◌ {A = ℕ} 0 1 = ap (λ (u : Bool). 1 if u else 0) f in omega arith
      never true f = let z : ◌≡◌ {A = ℕ} 1 0 = ap (λ (u : Bool). 1 if u else 0) f in omega arith

      pub no_header : (t : Bool) → t ≡ same_header y x → not t ≡ true → SoundAt m n → (b : Block) → b.header ≡ x → seat_number b (view_at m n) ≡ 4
      no_header false e f s b h = seat_header m n b (low_of b h) p (at_of s b h) p<n (same_of false e b h)
      no_header true e f s b h = absurd (never false f)

      pub old_room : (t : Bool) → t ≡ same_header y x → not t ≡ false → SoundAt m n → (b : Block) → b.header ≡ x → (seat_number b (view_at m n) ≡ 0) × (place_of (view_at m n).holdings b.header.hash ≡ some p)
      old_room false e f s b h = absurd (never true f)
      old_room true e f s b h = seat_old m n b (low_of b h) p (at_of s b h) p<n (same_of true e b h)

    module _ (n≤p : n ≤ p) (q : ℕ) (lowest : SoundAt m n → free_place (view_at m n).holdings ≡ placed n q) where
      pub no_room_left : n ≤ q → SoundAt m n → (b : Block) → b.header ≡ x → seat_number b (view_at m n) ≡ 5
      no_room_left n≤q s b h = seat_full m n b (low_of b h) p (at_of s b h) n≤p q (lowest s) n≤q

      pub new_room_lem : q < n → SoundAt m n → (b : Block) → b.header ≡ x → (seat_number b (view_at m n) ≡ 0) × (place_of (view_at m n).holdings b.header.hash ≡ none) × (free_place (view_at m n).holdings ≡ some q)
      new_room_lem q<n s b h = seat_new m n b (low_of b h) p (at_of s b h) n≤p q (lowest s) q<n

module _ (m : List ℕ) (n k : ℕ) (b : Block) where
  loading_is : (t : Bool) → eqb (word m 6) 1 ≡ t → (view_at m n).holdings.loading ≡ t
  unfolding view_at
  loading_is t e = e

  pub load_closed : (word m 6 ≡ 1 → ⊥) → Within (load k b) m m n 7
  load_closed c = within_refused (load k b) m n 7 (λ z. omega arith) (λ s. load-number k b (view_at m n) false _ _ (loading_is false (ne_eqb (word m 6) 1 c)) refl refl)

  module _ (due : word m 6 ≡ 1) where
    still : (view_at m n).holdings.loading ≡ true
    still = loading_is true (eq-eqb (word m 6) 1 due)

    pub load_kind : 2 < k → Within (load k b) m m n 2
    load_kind h = within_refused (load k b) m n 2 (λ z. omega arith) (λ s. load-number k b (view_at m n) true true _ still (lt-ltb 2 k h) refl)

    module _ (k≤2 : k ≤ 2) where
      pub load_seat : (x : ℕ) → (x ≡ 0 → ⊥) → (SoundAt m n → seat_number b (view_at m n) ≡ x) → Within (load k b) m m n x
      load_seat x ne f = within_refused (load k b) m n x ne (λ s. load-number k b (view_at m n) true false x still (le-ltb 2 k k≤2) (f s))

      module _ (p : ℕ) (m₁ m₂ : List ℕ) (t : Moves m₁ m₂ n (Unit {0}) (stale (view_at m₁ n) (view_at m₁ n).holdings)) where
        load_done : (SoundAt m n → seat_number b (view_at m n) ≡ 0)
            → (SoundAt m n → Stands m₁ n (with_cell (view_at m n) p (kept (store_of k) b ((view_at m n).holdings.cells p)))) → (SoundAt m n → Apart m m₁ n)
            → (SoundAt m n → stale (view_at m n) (with_cell (view_at m n) p (kept (store_of k) b ((view_at m n).holdings.cells p))).holdings ≡ effect (load k b) (view_at m n)) → Within (load k b) m m₂ n 0
        load_done f first a₁ e =
            within_done (load k b) m m₂ n (λ s. load-number k b (view_at m n) true false 0 still (le-ltb 2 k k≤2) (f s))
            (λ s. let r = t.right (first s).sound tt in record { sound = r.sound; state = r.state ∙ ap (λ (z : State). stale z z.holdings) (first s).state ∙ e s })
            (λ s. apart_then m m₁ m₂ n (a₁ s) (t.apart (first s).sound tt))

        pub load_old : (SoundAt m n → Known b (view_at m n) p) → Replaces m m₁ n p k b → Within (load k b) m m₂ n 0
        load_old f r = load_done (λ s. (f s).0) (λ s. r.right s (due_old s)) (λ s. r.apart s (due_old s)) (λ s. load_old_effect k b (view_at m n) p (f s).1)
          where
            due_old : SoundAt m n → (k ≤ 2) × (is_free ((view_at m n).holdings.cells p) ≡ false)
            due_old s = (k≤2, place_held (view_at m n).holdings b.header.hash p (f s).1)

        pub load_new : (SoundAt m n → Roomy b (view_at m n) p) → Admits m m₁ n p k b → Within (load k b) m m₂ n 0
        load_new f r = load_done (λ s. (f s).0) (λ s. r.right s (due_new s)) (λ s. r.apart s (due_new s)) (λ s. load_new_effect k b (view_at m n) p (f s).1 (f s).2)
          where
            due_new : SoundAt m n → (k ≤ 2) × (free_place (view_at m n).holdings ≡ some p) × (place_of (view_at m n).holdings b.header.hash ≡ none)
            due_new s = (k≤2, (f s).2, (f s).1)
