-- Laws of walks that look for a key: the loop of `seek`, and what its answer says of an index.
use mathlib.Core.Path.{◌≡◌, refl, sym, ap, ◌∙◌}
use mathlib.Core.Logic.{◌⊎◌, inl, inr, ⊎_elim}
use mathlib.Core.List.{List, [], ◌∷◌}
use Prim.Native.Nat.{ℕ, ◌+◌, ◌≤◌, ◌<◌}
use native.Mathlib.Omega.{arith}
use lib.ListN.{length}
use Rattle.memory.specs.Words.{word}
use Rattle.index.specs.Chain.{In, Chain}
use Rattle.index.specs.Index.{Keyed}
use Rattle.index.specs.Keys.{bucket_of}
use Rattle.index.specs.Seeks.{Sought, Seeks}
use Rattle.index.proofs.ListFacts.{below_or}
use Rattle.index.proofs.Chains.{chain_short}
use Rattle.index.proofs.IndexLaws.{bucket_below}

module _ (m : List ℕ) (s base : ℕ) (K : ℕ → ℕ → ℕ) (k : ℕ → ℕ) where
  -- what a walk along the chain l knows where it stands at the word `at` after i steps: what is left of the chain, and that to go on
  -- along it is to go on along the whole
  pub record Seeking (at i : ℕ) (l : List ℕ) : Type 0 where
    pub rest : List ℕ
    pub chain : Chain m s base at rest
    pub short : i + length rest ≤ s
    pub whole : (r : ℕ) → Sought s K k r rest → Sought s K k r l

  pub seek_start : (at : ℕ) (l : List ℕ) → Chain m s base at l → Seeking at 0 l
  seek_start at l c = let h = chain_short m s base l at c in record { rest = l; chain = c; short = omega arith; whole = λ r f. f }

  pub seek_step : {at i x : ℕ} {l : List ℕ} → Seeking at i l → x ≡ word m at → x < s → (K x ≡ k → ⊥) → Seeking (base + s + x) (i + 1) l
  seek_step {at} {i} {x} {l} w e x<s no_key = go w.rest w.chain w.short w.whole
    where
      go : (t : List ℕ) → Chain m s base at t → i + length t ≤ s → ((r : ℕ) → Sought s K k r t → Sought s K k r l) → Seeking (base + s + x) (i + 1) l
      go [] ch sh f = absurd (omega arith)
      go (y ∷ t) ch sh f =
          let xy : x ≡ y = e ∙ ch.0 in
          record { rest = t; chain = rw xy ch.3; short = omega arith; whole = λ r g. f r (inr (λ z. no_key (ap K xy ∙ z), g)) }

  found_here : {at i x : ℕ} {l : List ℕ} → Seeking at i l → x ≡ word m at → x < s → K x ≡ k → Sought s K k x l
  found_here {at} {i} {x} {l} w e x<s h = go w.rest w.chain w.whole
    where
      go : (t : List ℕ) → Chain m s base at t → ((r : ℕ) → Sought s K k r t → Sought s K k r l) → Sought s K k x l
      go [] ch f = absurd (omega arith)
      go (y ∷ t) ch f = let xy : x ≡ y = e ∙ ch.0 in f x (inl (xy, ap K (sym xy) ∙ h))

  ended_here : {at i : ℕ} {l : List ℕ} → Seeking at i l → (s ≤ word m at) ⊎ (s ≤ i) → Sought s K k s l
  ended_here {at} {i} {l} w h = go w.rest w.chain w.short w.whole h
    where
      go : (t : List ℕ) → Chain m s base at t → i + length t ≤ s → ((r : ℕ) → Sought s K k r t → Sought s K k r l)
          → (s ≤ word m at) ⊎ (s ≤ i) → Sought s K k s l
      go [] ch sh f h = f s refl
      go (y ∷ t) ch sh f (inl h) = absurd (omega arith)
      go (y ∷ t) ch sh f (inr h) = absurd (omega arith)

  module _ (from at i : ℕ) (walk : (l : List ℕ) → Chain m s base from l → Seeking at i l) where
    pub seek_found : (x : ℕ) → x ≡ word m at → x < s → K x ≡ k → Seeks m s base K from k x
    seek_found x e x<s h = record { range = omega arith; key = λ i. h; first = λ l c. found_here (walk l c) e x<s h }

    -- at the chain's end, or after s steps
    pub seek_ended : (s ≤ word m at) ⊎ (s ≤ i) → Seeks m s base K from k s
    seek_ended h = record { range = omega arith; key = λ i. absurd (omega arith); first = λ l c. ended_here (walk l c) h }

  -- the slot r that a walk along l found, and the chain that follows it
  pub record Split (r : ℕ) (l : List ℕ) : Type 0 where
    pub rest : List ℕ
    pub chain : Chain m s base (base + s + r) rest
    pub at : In r l
    pub key : K r ≡ k
    pub within : (q : ℕ) → In q rest → In q l
    pub behind : (q : ℕ) → In q l → K q ≡ k → (q ≡ r) ⊎ In q rest

  pub split : (r : ℕ) (l : List ℕ) (at : ℕ) → Chain m s base at l → Sought s K k r l → r < s → Split r l
  split r [] at c f h = absurd (omega arith)
  split r (y ∷ l) at c (inl f) h =
      record {
        rest = l;
        chain = rw f.0 c.3;
        at = inl f.0;
        key = ap K f.0 ∙ f.1;
        within = λ q i. inr i;
        behind = λ q i e. ⊎_elim (λ j. inl (j ∙ sym f.0)) (λ j. inr j) i;
      }
  split r (y ∷ l) at c (inr f) h =
      let t = split r l (base + s + y) c.3 f.1 h in
      record {
        rest = t.rest;
        chain = t.chain;
        at = inr t.at;
        key = t.key;
        within = λ q i. inr (t.within q i);
        behind = λ q i e. ⊎_elim (λ j. absurd (f.0 (ap K (sym j) ∙ e))) (λ j. t.behind q j e) i;
      }

  pub sought_none : (r : ℕ) (l : List ℕ) (at : ℕ) → Chain m s base at l → Sought s K k r l → s ≤ r → (q : ℕ) → In q l → K q ≡ k → ⊥
  sought_none r [] at c f h q i e = i
  sought_none r (y ∷ l) at c (inl f) h q i e = omega (arith, f.0)
  sought_none r (y ∷ l) at c (inr f) h q (inl i) e = f.0 (ap K (sym i) ∙ e)
  sought_none r (y ∷ l) at c (inr f) h q (inr i) e = sought_none r l (base + s + y) c.3 f.1 h q i e

  -- what a search from the head of the key's bucket says of an index of the slots U
  module _ (U : ℕ → Type 0) (x : Keyed m s base K U) (r : ℕ) (a : Seeks m s base K (base + bucket_of s k) k r) where
    pub found : r < s → U r × (K r ≡ k)
    found h =
        let b = x (bucket_of s k) (bucket_below s k (omega arith)) in
        let t = split r b.list (base + bucket_of s k) b.chain (a.first b.list b.chain) h in
        ((b.sound r t.at).0, t.key)

    pub not_found : s ≤ r → (q : ℕ) → q < s → U q → K q ≡ k → ⊥
    not_found h q i u e =
        let b = x (bucket_of s k) (bucket_below s k (omega arith)) in
        sought_none r b.list (base + bucket_of s k) b.chain (a.first b.list b.chain) h q (b.complete q i u (ap (bucket_of s) e)) e

    -- where keys are distinct the slot with the key is found
    pub found_is : ((p q : ℕ) → p < s → q < s → U p → U q → K p ≡ K q → p ≡ q) → (q : ℕ) → q < s → U q → K q ≡ k → r ≡ q
    found_is apart q i u e = go (below_or r s)
      where
        go : (r < s) ⊎ (s ≤ r) → r ≡ q
        go (inl h) = let f = found h in apart r q h i f.0 u (f.1 ∙ sym e)
        go (inr h) = absurd (not_found h q i u e)
