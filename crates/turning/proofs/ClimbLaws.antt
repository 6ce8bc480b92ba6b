-- Up a walk: the blocks above another are promoted or demoted one after another.
use mathlib.Core.Path.{◌≡◌, refl, sym, ap, ◌∙◌}
use mathlib.Core.Bool.{Bool, true, false, not, ◌||◌}
use mathlib.Core.List.{List, [], ◌∷◌}
use Prim.Native.Nat.{ℕ, ◌+◌, ◌≤◌, ◌<◌}
use native.Mathlib.Omega.{arith}
use lib.ListN.{length}
use lib.Dec.{eqb, ltb}
use borrow.Author.Tests.{eqb-true, eq-eqb, ne_eqb, lt-ltb, le-ltb}
use Rattle.amount.specs.Choose.{◌if◌else◌}
use Rattle.memory.specs.Words.{word}
use Rattle.memory.specs.Layout.{row, Laid}
use Rattle.model.specs.Places.{put_at}
use Rattle.model.specs.Lists.{elem}
use Rattle.model.specs.Numbers.{State}
use Rattle.model.specs.Holding.{Holdings, is_live, is_canonical, index_of}
use Rattle.model.specs.Standing.{parent}
use Rattle.model.specs.Walks.{Asked, index, walk, above}
use Rattle.model.proofs.Tools.{by_bool}
use Rattle.model.proofs.Turn.{parent-some}
use Rattle.model.proofs.PlanCode.{step_to, above_step}
use Rattle.state.specs.Sound.{SoundAt, Used, placed}
use Rattle.state.specs.View.{cells_of, view_at}
use Rattle.state.proofs.FindLaws.{placed_in, placed_out}
use Rattle.pending.specs.Pending.{PendOnly}
use Rattle.pending.proofs.PendLaws.{pend_same, pend_then, pend_view}
use Rattle.pending.proofs.TurnLaws.{pend_laid, pend_sound, pend_cell}
use Rattle.pending.proofs.NextLaws.{live_used}
use Rattle.walks.proofs.DownLaws.{walk_some, walk_less, room_most, index_word}
use Rattle.writing.specs.Coded.{Coded}
use Rattle.writing.proofs.CodeLaws.{coded_same}
use Rattle.turning.specs.Turned.{climbed, Climbs}
use Rattle.turning.proofs.PassLaws.{Puts}

-- ---- one block ----

module _ (m : List ℕ) (n q : ℕ) where
  pub climbed_down : (up : Bool) (c : ℕ) → up ≡ false → 3 ≡ climbed up (view_at m n).holdings q c
  unfolding climbed
  climbed_down up c e = rw e

  pub climbed_off : (up : Bool) (c : ℕ) → up ≡ true → c ≡ 2 → 1 ≡ climbed up (view_at m n).holdings q c
  unfolding climbed
  climbed_off up c e z = rw (e, eq-eqb c 2 z)

  pub climbed_stays : (up : Bool) (c : ℕ) → up ≡ true → (c ≡ 2 → ⊥) → is_canonical (cells_of m n q) ≡ true → c ≡ climbed up (view_at m n).holdings q c
  unfolding climbed view_at
  climbed_stays up c e x i = rw (e, ne_eqb c 2 x, i)

  pub climbed_up : (up : Bool) (c : ℕ) → up ≡ true → (c ≡ 2 → ⊥) → is_canonical (cells_of m n q) ≡ false → 1 ≡ climbed up (view_at m n).holdings q c
  unfolding climbed view_at
  climbed_up up c e x i = rw (e, ne_eqb c 2 x, i)

-- .. twice is once
climbed_twice : (up : Bool) (h : Holdings) (q c : ℕ) → climbed up h q (climbed up h q c) ≡ climbed up h q c
unfolding climbed
climbed_twice true h q c = by_bool (eqb c 2 || not (is_canonical (h.cells q))) (λ e. rw e (by_bool (is_canonical (h.cells q)) (λ i. rw i) (λ i. rw i))) (λ e. rw (e, e))
climbed_twice false h q c = refl

-- ---- the blocks of a list ----

abbrev pub after : Bool → Holdings → (ℕ → ℕ) → List ℕ → ℕ → ℕ
after up h c l x = climbed up h x (c x) if elem x l else c x

after_nil : (up : Bool) (h : Holdings) (c : ℕ → ℕ) (x : ℕ) → after up h c [] x ≡ c x
unfolding elem
after_nil up h c x = refl

after_put : (up : Bool) (h : Holdings) (c : ℕ → ℕ) (q : ℕ) (l : List ℕ) (x : ℕ) → after up h (put_at c q (climbed up h q (c q))) l x ≡ after up h c (q ∷ l) x
unfolding elem
after_put up h c q l x =
    by_bool (eqb x q)
    (λ e. let z : x ≡ q = eqb-true x q e in rw e (by_bool (elem x l) (λ i. rw i (rw z (climbed_twice up h q (c q)))) (λ i. rw i (rw z))))
    (λ e. rw e)

-- ---- the loop ----

pub record Part (m₀ m : List ℕ) (n : ℕ) (up : Bool) (a : Asked) (top f q steps : ℕ) (c : ℕ → ℕ) : Type 0 where
  pub live : is_live ((view_at m₀ n).holdings.cells q) ≡ true
  pub most : length (walk (view_at m₀ n).holdings q) + steps ≤ n
  pub codes : ℕ → ℕ
  pub coded : Coded m n codes
  pub same : (x : ℕ) → after up (view_at m₀ n).holdings codes (above a f q) x ≡ after up (view_at m₀ n).holdings c (above a f top) x

pub record Climbing (m₀ m : List ℕ) (n : ℕ) (up : Bool) (top f q steps : ℕ) : Type 0 where
  pub only : PendOnly m₀ m n
  pub low : q < n
  pub laid : Laid m n
  pub right : SoundAt m₀ n → (a : Asked) → a.holdings ≡ (view_at m₀ n).holdings → is_live ((view_at m₀ n).holdings.cells top) ≡ true → Used m₀ f → (c : ℕ → ℕ) → Coded m₀ n c
      → Part m₀ m n up a top f q steps c

pub climbing_start : (m : List ℕ) (n : ℕ) (up : Bool) (top f : ℕ) → Laid m n → top < n → Climbing m m n up top f top 0
climbing_start m n up top f laid l = record {
  only = pend_same m n;
  low = l;
  laid = laid;
  right = λ s a e v u c k. record { live = v; most = omega (arith, room_most m n top l); codes = c; coded = k; same = λ x. refl };
}

module _ (m₀ m : List ℕ) (n : ℕ) (up : Bool) (top f q steps : ℕ) (laid : Laid m₀ n) (f<n : f < n) (p : Climbing m₀ m n up top f q steps) where
  -- what is left of the walk has a place
  pub climbing_out : n ≤ steps → Climbs m₀ m n up top f
  climbing_out z = record { only = p.only; right = λ s a e v u c k. absurd (omega (arith, (p.right s a e v u c k).most, walk_some (view_at m₀ n).holdings q)) }

  module _ (s : SoundAt m₀ n) (a : Asked) (e : a.holdings ≡ (view_at m₀ n).holdings) (v : is_live ((view_at m₀ n).holdings.cells top) ≡ true) (u : Used m₀ f) (c : ℕ → ℕ) (k : Coded m₀ n c) where
    used_q : Used m₀ q
    unfolding view_at
    used_q = live_used m₀ n q (p.right s a e v u c k).live

    index_of_lem : (x : ℕ) → x < n → Used m₀ x → index a x ≡ word m (row x + 12)
    index_of_lem x l w = ap (λ (h : Holdings). index_of (h.cells x)) e ∙ index_word m₀ n x l w ∙ sym (p.only.rows x 12 l (omega arith) (omega arith) (omega arith))

    -- the codes are right where nothing is above f any more
    ended : (m' : List ℕ) (d : ℕ → ℕ) (l : List ℕ) → l ≡ [] → Coded m' n d → ((x : ℕ) → after up (view_at m₀ n).holdings d l x ≡ after up (view_at m₀ n).holdings c (above a f top) x)
        → Coded m' n (after up (view_at m₀ n).holdings c (above a f top))
    ended m' d l z b g = coded_same m' n d (after up (view_at m₀ n).holdings c (above a f top)) (λ x h. sym (after_nil up (view_at m₀ n).holdings d x) ∙ ap (λ (l : List ℕ). after up (view_at m₀ n).holdings d l x) (sym z) ∙ g x) b

    low_end : word m (row q + 12) ≤ word m (row f + 12) → above a f q ≡ []
    low_end i = let t : ltb (index a f) (index a q) ≡ false = le-ltb (index a f) (index a q) (omega (arith, index_of_lem f f<n u, index_of_lem q p.low used_q)) in above_step a f q ∙ rw t

    high : word m (row f + 12) < word m (row q + 12) → above a f q ≡ q ∷ step_to [] (λ r. above a f r) (parent (view_at m₀ n).holdings q)
    high i =
        let t : ltb (index a f) (index a q) ≡ true = lt-ltb (index a f) (index a q) (omega (arith, index_of_lem f f<n u, index_of_lem q p.low used_q)) in
        above_step a f q ∙ rw t (ap (λ (h : Holdings). q ∷ step_to [] (λ r. above a f r) (parent h q)) e)

  pub climbing_low : word m (row q + 12) ≤ word m (row f + 12) → Climbs m₀ m n up top f
  climbing_low i = record {
    only = p.only;
    right = λ s a e v u c k. let w = p.right s a e v u c k in ended s a e v u c k m w.codes (above a f q) (low_end s a e v u c k i) w.coded w.same;
  }

  module _ (m₂ : List ℕ) (y r : ℕ) (i : word m (row f + 12) < word m (row q + 12)) (told : y ≡ climbed up (view_at m n).holdings q (word m (row q + 59))) (put : Puts m n q y m₂)
      (d : SoundAt m₂ n → parent (view_at m₂ n).holdings q ≡ placed n r) where
    pub climbing_only : PendOnly m₀ m₂ n
    climbing_only = pend_then m₀ m m₂ n p.only put.only

    next : SoundAt m₀ n → parent (view_at m₀ n).holdings q ≡ placed n r
    next s = ap (λ (t : State). parent t.holdings q) (sym (pend_view m₀ m₂ n climbing_only)) ∙ d (pend_sound m₀ m₂ n laid climbing_only s)

    module _ (s : SoundAt m₀ n) (a : Asked) (e : a.holdings ≡ (view_at m₀ n).holdings) (v : is_live ((view_at m₀ n).holdings.cells top) ≡ true) (u : Used m₀ f) (c : ℕ → ℕ) (k : Coded m₀ n c) where
      is : y ≡ climbed up (view_at m₀ n).holdings q ((p.right s a e v u c k).codes q)
      is = told ∙ ap (λ (t : State). climbed up t.holdings q (word m (row q + 59))) (pend_view m₀ m n p.only) ∙ ap (climbed up (view_at m₀ n).holdings q) ((p.right s a e v u c k).coded.codes q p.low)

      coded_now : Coded m₂ n (put_at (p.right s a e v u c k).codes q y)
      unfolding view_at
      coded_now = put.right (pend_sound m₀ m n laid p.only s) (λ _. ap is_live (pend_cell m₀ m n laid p.only q) ∙ (p.right s a e v u c k).live) (p.right s a e v u c k).codes (p.right s a e v u c k).coded

      same_now : (l : List ℕ) → above a f q ≡ q ∷ l → (x : ℕ) → after up (view_at m₀ n).holdings (put_at (p.right s a e v u c k).codes q y) l x ≡ after up (view_at m₀ n).holdings c (above a f top) x
      same_now l z x =
          ap (λ (b : ℕ). after up (view_at m₀ n).holdings (put_at (p.right s a e v u c k).codes q b) l x) is
          ∙ after_put up (view_at m₀ n).holdings (p.right s a e v u c k).codes q l x
          ∙ ap (λ (l : List ℕ). after up (view_at m₀ n).holdings (p.right s a e v u c k).codes l x) (sym z)
          ∙ (p.right s a e v u c k).same x

    pub climbing_end : n ≤ r → Climbs m₀ m₂ n up top f
    climbing_end l = record {
      only = climbing_only;
      right = λ s a e v u c k.
          let o = next s ∙ placed_out n r l in
          ended s a e v u c k m₂ (put_at (p.right s a e v u c k).codes q y) [] refl (coded_now s a e v u c k) (same_now s a e v u c k [] (high s a e v u c k i ∙ rw o));
    }

    pub climbing_more : r < n → Climbing m₀ m₂ n up top f r (steps + 1)
    climbing_more l = record {
      only = climbing_only;
      low = l;
      laid = pend_laid m₀ m₂ n laid climbing_only;
      right = λ s a e v u c k.
          let o = next s ∙ placed_in n r l in
          record {
            live = (parent-some (view_at m₀ n).holdings q r o).1;
            most = omega (arith, (p.right s a e v u c k).most, walk_less (view_at m₀ n).holdings q r o);
            codes = put_at (p.right s a e v u c k).codes q y;
            coded = coded_now s a e v u c k;
            same = same_now s a e v u c k (above a f r) (high s a e v u c k i ∙ rw o);
          };
    }
