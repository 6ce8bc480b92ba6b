-- The questions about the tree: what refuses them, the block at a place, its parent and its values, and the counts.
use mathlib.Core.Path.{◌≡◌, refl, sym, ap, ◌∙◌, subst}
use mathlib.Core.Bool.{Bool, true, false}
use mathlib.Core.List.{List}
use mathlib.Core.Option.{Option, none, some}
use Prim.Native.Nat.{ℕ, ◌≤◌, ◌<◌}
use native.Mathlib.Omega.{arith}
use borrow.Author.Tests.{ne_eqb}
use Rattle.amount.specs.Choose.{◌if◌else◌}
use Rattle.model.specs.Holding.{Holdings, is_live, place_of}
use Rattle.model.specs.Standing.{Spine, winner, canonical, Value, Values, parent, value_at}
use Rattle.model.specs.Questions.{TreeQuestion, node, parent_q, linked_q, canonical_linked_q, best_q, canonical_best_q, canonical_count_q, live_count_q, Reply, shown, worth, counted, block_at, live_at, only_live, parent_of, tree_reply, tree_lent, too_short}
use Rattle.model.specs.Numbers.{ask_tree}
use Rattle.block.specs.Answers.{refusal_number}
use Rattle.block.specs.declared.Refusal.{Refusal}
use Rattle.block.specs.declared.Refusal.TheVariants.{Room, Stale}
use Rattle.memory.specs.Words.{word}
use Rattle.memory.specs.Layout.{Laid}
use Rattle.state.specs.View.{cells_of, values_of, view, view_at}
use Rattle.state.specs.Sound.{SoundAt, placed}
use Rattle.state.proofs.FindLaws.{placed_in, placed_out}
use Rattle.asking.specs.Whole.{WholeAt}
use Rattle.asking.specs.AskedTree.{AskedTree}
use Rattle.asking.specs.Within.{Begins, Answers, Worths, Bests}
use Rattle.asking.specs.declared.Begun.TheVariants.{No, At}

-- ---- what every question begins with ----

module _ (m : List ℕ) where
  -- a memory that is not laid out is not whole
  pub begins_nowhere : (n : ℕ) → (Laid m (word m 0) → n ≡ word m 0) → n ≡ 0 → Begins m (No Room)
  begins_nowhere n e z = λ w. let i = e w.sound.laid in let o = w.sound.laid.some in absurd (omega arith)

  pub begins_stale : (word m 7 ≡ 1 → ⊥) → Begins m (No Stale)
  begins_stale f = λ w. (refl, f)

module _ (q : TreeQuestion) (m : List ℕ) where
  -- no sync covers the present
  pub asks_refused : (r : Refusal) (y : Reply) → Begins m (No r) → AskedTree q m (refusal_number r) y
  unfolding view_at
  asks_refused r y f = record {
    number_is = λ w. (f w).0 ∙ (rw (ne_eqb (word m 7) 1 (f w).1));
    reply_is = λ w e. let z = (f w).0 in absurd (omega (arith, e, z));
  }

  module _ (short : (h : Holdings) (v : Values) → too_short (tree_lent q) (tree_reply h v q) ≡ false) where
    fresh_number : word m 7 ≡ 1 → ask_tree q (view m) ≡ 0
    unfolding view_at
    fresh_number f = rw (f, short (view m).holdings (view m).values)

    -- one does, and what is handed back needs no list
    pub asks_fresh : (n r : ℕ) (y : Reply) → Begins m (At n) → Answers q m n r y → AskedTree q m r y
    asks_fresh n r y b a = record {
      number_is = λ w. a.number_is ∙ sym (fresh_number b.1);
      reply_is = λ w _.
          let i : word m 0 ≡ n = b.0.room in
          subst (λ (k : ℕ). y ≡ tree_reply (view_at m k).holdings (view_at m k).values q) (sym i) (a.reply_is (subst (WholeAt m) i w) b.1);
    }

-- ---- counts ----

module _ (m : List ℕ) (n : ℕ) where
  pub counts_canonical : Answers canonical_count_q m n 0 (counted (word m 13))
  counts_canonical = record { number_is = refl; reply_is = λ w f. ap counted w.sound.canonical }

  pub counts_live : Answers live_count_q m n 0 (counted (word m 12))
  counts_live = record { number_is = refl; reply_is = λ w f. ap counted w.sound.live }

-- ---- a live block ----

module _ (m : List ℕ) (n p : ℕ) where
  pub live_out : n ≤ p → shown none ≡ shown (live_at (view_at m n).holdings (placed n p))
  live_out h = ap (λ (o : Option ℕ). shown (live_at (view_at m n).holdings o)) (sym (placed_out n p h))

  live_in : (b : Bool) → p < n → is_live (cells_of m n p) ≡ b → shown (block_at (cells_of m n p) if b else none) ≡ shown (live_at (view_at m n).holdings (placed n p))
  unfolding view_at
  live_in b h e = ap (λ (t : Bool). shown (block_at (cells_of m n p) if t else none)) (sym e) ∙ ap (λ (o : Option ℕ). shown (live_at (view_at m n).holdings o)) (sym (placed_in n p h))

  pub live_dead : p < n → is_live (cells_of m n p) ≡ false → shown none ≡ shown (live_at (view_at m n).holdings (placed n p))
  live_dead h e = live_in false h e

  pub live_shown : p < n → is_live (cells_of m n p) ≡ true → shown (block_at (cells_of m n p)) ≡ shown (live_at (view_at m n).holdings (placed n p))
  live_shown h e = live_in true h e

-- ---- questions that name a hash ----

module _ (m : List ℕ) (n p x : ℕ) (at : SoundAt m n → place_of (view_at m n).holdings x ≡ placed n p) where
  pub nodes : (r : ℕ) (y : Reply) → r ≡ 0 → y ≡ shown (live_at (view_at m n).holdings (placed n p)) → Answers (node x) m n r y
  nodes r y e f = record { number_is = e; reply_is = λ w _. f ∙ ap (λ (o : Option ℕ). shown (live_at (view_at m n).holdings o)) (sym (at w.sound)) }

  parent_of_lem : (o : Option ℕ) (y : Reply) → (SoundAt m n → only_live (view_at m n).holdings (placed n p) ≡ o) → (SoundAt m n → y ≡ shown (live_at (view_at m n).holdings (parent_of (view_at m n).holdings o)))
      → SoundAt m n → y ≡ tree_reply (view_at m n).holdings (view_at m n).values (parent_q x)
  parent_of_lem o y e f s = f s ∙ ap (λ (o : Option ℕ). shown (live_at (view_at m n).holdings (parent_of (view_at m n).holdings o))) (sym (e s)) ∙ ap (λ (o : Option ℕ). shown (live_at (view_at m n).holdings (parent_of (view_at m n).holdings (only_live (view_at m n).holdings o)))) (sym (at s))

  pub parent_out : n ≤ p → Answers (parent_q x) m n 0 (shown none)
  parent_out h = record { number_is = refl; reply_is = λ w _. parent_of_lem none (shown none) (λ s. ap (only_live (view_at m n).holdings) (placed_out n p h)) (λ s. refl) w.sound }

  only : (b : Bool) → p < n → is_live (cells_of m n p) ≡ b → only_live (view_at m n).holdings (placed n p) ≡ (some p if b else none)
  unfolding view_at
  only b h e = ap (only_live (view_at m n).holdings) (placed_in n p h) ∙ ap (λ (t : Bool). some p if t else none) e

  pub parent_dead : p < n → is_live (cells_of m n p) ≡ false → Answers (parent_q x) m n 0 (shown none)
  parent_dead h e = record { number_is = refl; reply_is = λ w _. parent_of_lem none (shown none) (λ s. only false h e) (λ s. refl) w.sound }

  pub parent_there : p < n → is_live (cells_of m n p) ≡ true → (q : ℕ) → (SoundAt m n → parent (view_at m n).holdings p ≡ placed n q)
      → (r : ℕ) (y : Reply) → r ≡ 0 → y ≡ shown (live_at (view_at m n).holdings (placed n q)) → Answers (parent_q x) m n r y
  parent_there h e q i r y j f = record {
    number_is = j;
    reply_is = λ w _. parent_of_lem (some p) y (λ s. only true h e) (λ s. f ∙ ap (λ (o : Option ℕ). shown (live_at (view_at m n).holdings o)) (sym (i s))) w.sound;
  }

  pub worths : (w : Spine) (v : Value) → v ≡ value_at (values_of m n w) (placed n p) → Worths w m n x 0 (worth v)
  unfolding view_at
  worths w v e = record { number_is = refl; reply_is = λ k. ap worth (e ∙ ap (value_at (values_of m n w)) (sym (at k.sound))) }

module _ (m : List ℕ) (n x r : ℕ) (y : Reply) where
  pub links : Worths winner m n x r y → Answers (linked_q x) m n r y
  links a = record { number_is = a.number_is; reply_is = λ w _. a.reply_is w }

  pub links_canonical : Worths canonical m n x r y → Answers (canonical_linked_q x) m n r y
  links_canonical a = record { number_is = a.number_is; reply_is = λ w _. a.reply_is w }

module _ (m : List ℕ) (n r : ℕ) (y : Reply) where
  pub bests : Bests winner m n r y → Answers best_q m n r y
  bests a = record { number_is = a.number_is; reply_is = a.reply_is }

  pub bests_canonical : Bests canonical m n r y → Answers canonical_best_q m n r y
  bests_canonical a = record { number_is = a.number_is; reply_is = a.reply_is }
