-- Laws of chains: a chain is what its first word leads to, so it passes no slot twice; frames; a slot put before it; a slot cut out.
use mathlib.Core.Path.{◌≡◌, refl, sym, ap, ◌∙◌}
use mathlib.Core.Logic.{◌⊎◌, inl, inr, ⊎_elim}
use mathlib.Core.List.{List, [], ◌∷◌}
use Prim.Native.Nat.{ℕ, ◌+◌, ◌*◌, ◌≤◌, ◌<◌}
use native.Mathlib.Decide.{ℕ_discrete}
use native.Mathlib.Omega.{arith}
use lib.ListN.{length}
use Rattle.memory.specs.Words.{word}
use Rattle.index.specs.Chain.{In, Distinct, Chain}
use Rattle.index.specs.Writes.{Cut}
use Rattle.index.proofs.ListFacts.{in_eq, pigeons, without, without_first, without_other}

module _ (m : List ℕ) (s base : ℕ) where
  pub chain_below : (l : List ℕ) (at : ℕ) → Chain m s base at l → (q : ℕ) → In q l → q < s
  chain_below [] at c q h = absurd h
  chain_below (y ∷ l) at c q (inl h) = omega arith
  chain_below (y ∷ l) at c q (inr h) = chain_below l (base + s + y) c.3 q h

  -- two chains from one word are of one length
  chain_long : (l l' : List ℕ) (at : ℕ) → Chain m s base at l → Chain m s base at l' → length l ≡ length l'
  chain_long [] [] at c c' = refl
  chain_long [] (y ∷ l) at c c' = absurd (omega arith)
  chain_long (y ∷ l) [] at c c' = absurd (omega arith)
  chain_long (y ∷ l) (z ∷ l') at c c' =
      let e : z ≡ y = sym c'.0 ∙ c.0 in
      omega (arith, chain_long l l' (base + s + y) c.3 (rw e at c'.3))

  chain_after : (l : List ℕ) (at : ℕ) → Chain m s base at l → (x : ℕ) → In x l
      → (t : List ℕ) × Chain m s base (base + s + x) t × (length t < length l)
  chain_after [] at c x h = absurd h
  chain_after (y ∷ l) at c x (inl h) = (l, rw h c.3, omega arith)
  chain_after (y ∷ l) at c x (inr h) = let t = chain_after l (base + s + y) c.3 x h in (t.0, t.1, omega (arith, t.2))

  -- a slot is not in the chain that follows it: that chain would be shorter than itself
  pub chain_self : (l : List ℕ) (x : ℕ) → Chain m s base (base + s + x) l → In x l → ⊥
  chain_self l x c h =
      let t = chain_after l (base + s + x) c x h in
      omega (arith, t.2, chain_long l t.0 (base + s + x) c t.1)

  pub chain_distinct : (l : List ℕ) (at : ℕ) → Chain m s base at l → Distinct l
  chain_distinct [] at c = tt
  chain_distinct (y ∷ l) at c = (chain_self l y c.3, chain_distinct l (base + s + y) c.3)

  pub chain_short : (l : List ℕ) (at : ℕ) → Chain m s base at l → length l ≤ s
  chain_short l at c = pigeons s l (chain_distinct l at c) (chain_below l at c)

  -- the back link of a slot of the chain: its first word, or the link of a slot of the chain
  pub chain_back : (p : ℕ) (l : List ℕ) (at : ℕ) → Chain m s base at l → In p l
      → (word m (base + 2 * s + p) ≡ at) ⊎ ((q : ℕ) × In q l × (word m (base + 2 * s + p) ≡ base + s + q))
  chain_back p [] at c h = absurd h
  chain_back p (y ∷ l) at c (inl h) = inl (ap (λ (z : ℕ). word m (base + 2 * s + z)) h ∙ c.2)
  chain_back p (y ∷ l) at c (inr h) =
      ⊎_elim (λ e. inr (y, inl refl, e)) (λ t. inr (t.0, inr t.1, t.2)) (chain_back p l (base + s + y) c.3 h)

  -- what follows p is in the chain
  pub follows : (p : ℕ) (l : List ℕ) (at : ℕ) → Chain m s base at l → In p l → word m (base + s + p) < s → In (word m (base + s + p)) l
  follows p [] at c h k = h
  follows p (y ∷ []) at c (inl h) k = absurd (omega (arith, ap (λ (z : ℕ). word m (base + s + z)) h, c.3))
  follows p (y ∷ z ∷ l) at c (inl h) k = inr (inl (ap (λ (z : ℕ). word m (base + s + z)) h ∙ c.3.0))
  follows p (y ∷ l) at c (inr h) k = inr (follows p l (base + s + y) c.3 h k)

  pub chain_frame : (m' : List ℕ) (l : List ℕ) (at : ℕ) → Chain m s base at l → word m' at ≡ word m at
      → ((q : ℕ) → In q l → word m' (base + s + q) ≡ word m (base + s + q))
      → ((q : ℕ) → In q l → word m' (base + 2 * s + q) ≡ word m (base + 2 * s + q))
      → Chain m' s base at l
  chain_frame m' [] at c e f g = omega arith
  chain_frame m' (y ∷ l) at c e f g = (
    e ∙ c.0,
    c.1,
    g y (inl refl) ∙ c.2,
    chain_frame m' l (base + s + y) c.3 (f y (inl refl)) (λ q h. f q (inr h)) (λ q h. g q (inr h)),
  )

  -- the same chain from another word, to which its first slot's back link leads
  pub chain_moved : (m' : List ℕ) (l : List ℕ) (at at' : ℕ) → Chain m s base at l → word m' at' ≡ word m at
      → (word m at < s → word m' (base + 2 * s + word m at) ≡ at')
      → ((q : ℕ) → In q l → word m' (base + s + q) ≡ word m (base + s + q))
      → ((q : ℕ) → In q l → (q ≡ word m at → ⊥) → word m' (base + 2 * s + q) ≡ word m (base + 2 * s + q))
      → Chain m' s base at' l
  chain_moved m' [] at at' c e b f g = omega arith
  chain_moved m' (y ∷ l) at at' c e b f g = (
    e ∙ c.0,
    c.1,
    ap (λ (z : ℕ). word m' (base + 2 * s + z)) (sym c.0) ∙ b (omega (arith, c.0, c.1)),
    chain_frame m' l (base + s + y) c.3 (f y (inl refl)) (λ q h. f q (inr h))
        (λ q h. g q (inr h) (λ z. chain_self l y c.3 (in_eq l (z ∙ c.0) h))),
  )

module _ (m m' : List ℕ) (s base p : ℕ) (p<s : p < s) (u : Cut m m' s base p) where
  pub chain_cut : (l : List ℕ) (at : ℕ) → Chain m s base at l → at < base + 2 * s → ((q : ℕ) → In q l → at ≡ base + s + q → ⊥) → In p l
      → Chain m' s base at (without p l)
  chain_cut [] at c k f h = absurd h
  chain_cut (y ∷ l) at c k f h =
      go (chain_cut l (base + s + y) c.3 (omega (arith, c.1)) (λ q j z. chain_self m s base l y c.3 (in_eq l (omega arith) j))) (ℕ_discrete p y) h
    where
      bl : (q : ℕ) → In q l → q < s
      bl = chain_below m s base l (base + s + y) c.3

      off : (word m (base + 2 * s + p) ≡ base + s + y) ⊎ ((q : ℕ) × In q l × (word m (base + 2 * s + p) ≡ base + s + q))
          → at ≡ word m (base + 2 * s + p) → ⊥
      off (inl w) z = f y (inl refl) (z ∙ w)
      off (inr w) z = f w.0 (inr w.1) (z ∙ w.2)

      far : (word m (base + 2 * s + p) ≡ base + s + y) ⊎ ((q : ℕ) × In q l × (word m (base + 2 * s + p) ≡ base + s + q))
          → base + 2 * s + y ≡ word m (base + 2 * s + p) → ⊥
      far (inl w) z = omega (arith, c.1)
      far (inr w) z = let j = bl w.0 w.1 in let g = w.2 in omega arith

      go : (In p l → Chain m' s base (base + s + y) (without p l)) → Dec (p ≡ y) → (p ≡ y) ⊎ In p l → Chain m' s base at (without p (y ∷ l))
      go again (yes e) _ =
          let r : word m (base + 2 * s + p) ≡ at = ap (λ (z : ℕ). word m (base + 2 * s + z)) e ∙ c.2 in
          let n : word m (base + s + p) ≡ word m (base + s + y) = ap (λ (z : ℕ). word m (base + s + z)) e in
          rw (without_first p y l e (chain_self m s base l y c.3))
          (chain_moved m s base m' l (base + s + y) at c.3
          (ap (word m') (sym r) ∙ u.on ∙ n)
          (λ x. ap (λ (z : ℕ). word m' (base + 2 * s + z)) (sym n) ∙ u.back_on (omega arith) ∙ r)
          (λ q i. u.others (base + s + q) (λ z. f q (inr i) (sym (z ∙ r))) (λ v z. let j = bl q i in omega arith))
          (λ q i ne. u.others (base + 2 * s + q) (omega arith) (λ v z. ne (omega arith))))
      go again (no e) (inl i) = absurd (e i)
      go again (no e) (inr i) =
          let w = chain_back m s base p l (base + s + y) c.3 i in
          rw (without_other p y l e) (
            u.others at (off w) (λ v z. omega arith) ∙ c.0,
            c.1,
            u.others (base + 2 * s + y) (far w)
                (λ v z. chain_self m s base l y c.3 (in_eq l (omega arith) (follows m s base p l (base + s + y) c.3 i v))) ∙ c.2,
            again i,
          )
