-- Laws of indexes, from one memory to another: an empty one, nothing that it sees changed, a slot more, a slot less. What U and B are is
-- left open; the buckets of slots outside of U may change.
use mathlib.Core.Path.{◌≡◌, refl, sym, ap, ◌∙◌, subst}
use mathlib.Core.Logic.{◌⊎◌, inl, inr, ⊎_elim}
use mathlib.Core.List.{List, [], ◌∷◌}
use Prim.Native.Nat.{ℕ, ◌+◌, ◌*◌, ◌≤◌, ◌<◌}
use native.Mathlib.Decide.{ℕ_discrete}
use native.Mathlib.Nat.{mod-lt}
use native.Mathlib.Omega.{arith}
use Rattle.memory.specs.Words.{word}
use Rattle.index.specs.Chain.{In, Chain}
use Rattle.index.specs.Index.{Bucket, Index, Keyed}
use Rattle.index.specs.Keys.{bucket_of}
use Rattle.index.specs.Writes.{Cleared, Linked, Cut, Unlinked}
use Rattle.index.proofs.ListFacts.{without, in_without, of_without}
use Rattle.index.proofs.Chains.{chain_below, chain_back, follows, chain_frame, chain_moved, chain_cut}

pub index_clear : {m m' : List ℕ} {s base : ℕ} (B : ℕ → ℕ) (U : ℕ → Type 0) → Cleared m m' s base → ((q : ℕ) → q < s → U q → ⊥) → Index m' s base B U
index_clear B U e none b h =
    record { list = []; chain = e.ends b h; sound = λ q i. absurd i; complete = λ q j u f. absurd (none q j u) }

module _ (m m' : List ℕ) (s base : ℕ) (B B' : ℕ → ℕ) (U U' : ℕ → Type 0)
    (same_b : (q : ℕ) → q < s → U q → B' q ≡ B q) (x : Index m s base B U) where
  pub index_frame : ((a : ℕ) → base ≤ a → a < base + 3 * s → word m' a ≡ word m a)
      → ((q : ℕ) → q < s → U q → U' q) → ((q : ℕ) → q < s → U' q → U q) → Index m' s base B' U'
  index_frame links to of b h =
      let k = x b h in
      let bl = chain_below m s base k.list (base + b) k.chain in
      record {
        list = k.list;
        chain =
            chain_frame m s base m' k.list (base + b) k.chain (links (base + b) (omega arith) (omega arith))
            (λ q i. let j = bl q i in links (base + s + q) (omega arith) (omega arith))
            (λ q i. let j = bl q i in links (base + 2 * s + q) (omega arith) (omega arith));
        sound = λ q i. let v = k.sound q i in (to q (bl q i) v.0, same_b q (bl q i) v.0 ∙ v.1);
        complete = λ q j u e. k.complete q j (of q j u) (sym (same_b q j (of q j u)) ∙ e);
      }

  -- slots of two buckets are not the same
  differ : (b c : ℕ) (i : b < s) (j : c < s) → (c ≡ b → ⊥) → (q r : ℕ) → In q (x c j).list → In r (x b i).list → q ≡ r → ⊥
  differ b c i j ne q r h k e = ne (sym ((x c j).sound q h).1 ∙ ap B e ∙ ((x b i).sound r k).1)

  pub index_insert : (p b : ℕ) → p < s → b < s → B' p ≡ b → (U p → ⊥) → Linked m m' s base b p
      → ((q : ℕ) → q < s → U q → U' q) → U' p → ((q : ℕ) → q < s → U' q → U q ⊎ (q ≡ p))
      → Index m' s base B' U'
  index_insert p b p<s b<s Bp new u to to_p of c h = go (ℕ_discrete c b)
    where
      k : Bucket m s base B U c
      k = x c h

      bl : (q : ℕ) → In q k.list → q < s
      bl = chain_below m s base k.list (base + c) k.chain

      other : (q : ℕ) → In q k.list → q ≡ p → ⊥
      other q i e = new (subst U e (k.sound q i).0)

      first : (l : List ℕ) → Chain m s base (base + b) l → word m (base + b) < s → In (word m (base + b)) l
      first [] ch i = omega arith
      first (y ∷ l) ch i = inl ch.0

      in_b : word m (base + b) < s → In (word m (base + b)) (x b b<s).list
      in_b = first (x b b<s).list (x b b<s).chain

      head_new : word m (base + b) ≡ p → ⊥
      head_new e = new (subst U e ((x b b<s).sound (word m (base + b)) (in_b (omega arith))).0)

      go : Dec (c ≡ b) → Bucket m' s base B' U' c
      go (yes e) =
          let w : word m (base + b) ≡ word m (base + c) = ap (λ (z : ℕ). word m (base + z)) (sym e) in
          record {
            list = p ∷ k.list;
            chain = (
              ap (λ (z : ℕ). word m' (base + z)) e ∙ u.head,
              p<s,
              u.back head_new ∙ ap (λ (z : ℕ). base + z) (sym e),
              chain_moved m s base m' k.list (base + c) (base + s + p) k.chain (u.on ∙ w)
                  (λ i. ap (λ (z : ℕ). word m' (base + 2 * s + z)) (sym w) ∙ u.back_on (omega arith))
                  (λ q i. let j = bl q i in let ne = other q i in u.others (base + s + q) (omega arith) (omega arith) (omega arith) (λ v z. omega arith))
                  (λ q i ne. let j = bl q i in let o = other q i in u.others (base + 2 * s + q) (omega arith) (omega arith) (omega arith) (λ v z. ne (omega arith))),
            );
            sound = λ q i. ⊎_elim (λ j. (subst U' (sym j) to_p, ap B' j ∙ Bp ∙ sym e)) (λ j. let v = k.sound q j in (to q (bl q j) v.0, same_b q (bl q j) v.0 ∙ v.1)) i;
            complete = λ q j v f. ⊎_elim (λ z. inr (k.complete q j z (sym (same_b q j z) ∙ f))) (λ z. inl z) (of q j v);
          }
      go (no e) =
          record {
            list = k.list;
            chain =
                chain_frame m s base m' k.list (base + c) k.chain
                (u.others (base + c) (λ z. e (omega arith)) (omega arith) (omega arith) (λ v z. omega arith))
                (λ q i. let j = bl q i in let ne = other q i in u.others (base + s + q) (omega arith) (omega arith) (omega arith) (λ v z. omega arith))
                (λ q i. let j = bl q i in let ne = other q i in u.others (base + 2 * s + q) (omega arith) (omega arith) (omega arith)
                (λ v z. differ b c b<s h e q (word m (base + b)) i (in_b v) (omega arith)));
            sound = λ q i. let v = k.sound q i in (to q (bl q i) v.0, same_b q (bl q i) v.0 ∙ v.1);
            complete = λ q j v f. ⊎_elim (λ z. k.complete q j z (sym (same_b q j z) ∙ f)) (λ z. absurd (e (sym f ∙ ap B' z ∙ Bp))) (of q j v);
          }

  module _ (p b : ℕ) (p<s : p < s) (b<s : b < s) (Bp : B p ≡ b) (old : U p) where
    abbrev kb : Bucket m s base B U b
    kb = x b b<s

    in_kb : In p kb.list
    in_kb = kb.complete p p<s old Bp

    bb : (q : ℕ) → In q kb.list → q < s
    bb = chain_below m s base kb.list (base + b) kb.chain

    back_p : (word m (base + 2 * s + p) ≡ base + b) ⊎ ((q : ℕ) × In q kb.list × (word m (base + 2 * s + p) ≡ base + s + q))
    back_p = chain_back m s base p kb.list (base + b) kb.chain in_kb

    -- the back link of a slot of U is the address of a head or a link
    ready : (base ≤ word m (base + 2 * s + p)) × (word m (base + 2 * s + p) < base + 2 * s)
    ready = ⊎_elim (λ w. (omega arith, omega arith)) (λ w. let i = bb w.0 w.1 in let g = w.2 in (omega arith, omega arith)) back_p

    pub index_remove : Unlinked m m' s base p
        → ((q : ℕ) → q < s → U q → (q ≡ p → ⊥) → U' q) → ((q : ℕ) → q < s → U' q → U q × (q ≡ p → ⊥))
        → Index m' s base B' U'
    index_remove un to of c h = go (ℕ_discrete c b)
      where
        k : Bucket m s base B U c
        k = x c h

        bl : (q : ℕ) → In q k.list → q < s
        bl = chain_below m s base k.list (base + c) k.chain

        u : Cut m m' s base p
        u = un.cut ready.0 ready.1

        cut : Bucket m' s base B' U' b
        cut =
            record {
              list = without p kb.list;
              chain = chain_cut m m' s base p p<s u kb.list (base + b) kb.chain (omega arith) (λ q i e. let j = bb q i in omega arith) in_kb;
              sound = λ q i. let o = of_without p kb.list q i in let v = kb.sound q o.0 in (to q (bb q o.0) v.0 o.1, same_b q (bb q o.0) v.0 ∙ v.1);
              complete = λ q j v f. let w = of q j v in in_without p kb.list q (kb.complete q j w.0 (sym (same_b q j w.0) ∙ f)) w.1;
            }

        off : (q : ℕ) → In q k.list → (c ≡ b → ⊥) → q ≡ p → ⊥
        off q i e z = differ b c b<s h e q p i in_kb z

        head_off : (c ≡ b → ⊥) → base + c ≡ word m (base + 2 * s + p) → ⊥
        head_off e g = ⊎_elim (λ w. e (omega arith)) (λ w. let a = w.2 in omega arith) back_p

        next_off : (c ≡ b → ⊥) → (q : ℕ) → In q k.list → base + s + q ≡ word m (base + 2 * s + p) → ⊥
        next_off e q i g =
            ⊎_elim (λ w. omega arith) (λ w. let z : q ≡ w.0 = omega (arith, w.2) in differ b c b<s h e q w.0 i w.1 z) back_p

        go : Dec (c ≡ b) → Bucket m' s base B' U' c
        go (yes e) = subst (λ (z : ℕ). Bucket m' s base B' U' z) (sym e) cut
        go (no e) =
            record {
              list = k.list;
              chain =
                  chain_frame m s base m' k.list (base + c) k.chain
                  (u.others (base + c) (head_off e) (λ v z. omega arith))
                  (λ q i. let j = bl q i in u.others (base + s + q) (next_off e q i) (λ v z. omega arith))
                  (λ q i. let y = ready in u.others (base + 2 * s + q) (omega arith)
                  (λ v z. differ b c b<s h e q (word m (base + s + p)) i (follows m s base p kb.list (base + b) kb.chain in_kb v) (omega arith)));
              sound = λ q i. let v = k.sound q i in (to q (bl q i) v.0 (off q i e), same_b q (bl q i) v.0 ∙ v.1);
              complete = λ q j v f. k.complete q j (of q j v).0 (sym (same_b q j (of q j v).0) ∙ f);
            }

-- ---- by keys ----

pub bucket_below : (s : ℕ) (k : ℕ → ℕ) → 1 ≤ s → bucket_of s k < s
bucket_below s k h = mod-lt (k 3) h

module _ (m m' : List ℕ) (s base : ℕ) (K K' : ℕ → ℕ → ℕ) (U U' : ℕ → Type 0)
    (same_k : (q : ℕ) → q < s → U q → K' q ≡ K q) (x : Keyed m s base K U) where
  abbrev B : ℕ → ℕ
  B q = bucket_of s (K q)

  abbrev B' : ℕ → ℕ
  B' q = bucket_of s (K' q)

  same : (q : ℕ) → q < s → U q → B' q ≡ B q
  same q h u = ap (bucket_of s) (same_k q h u)

  pub keyed_frame : ((a : ℕ) → base ≤ a → a < base + 3 * s → word m' a ≡ word m a)
      → ((q : ℕ) → q < s → U q → U' q) → ((q : ℕ) → q < s → U' q → U q) → Keyed m' s base K' U'
  keyed_frame = index_frame m m' s base B B' U U' same x

  pub keyed_insert : (p : ℕ) → p < s → K' p ≡ K p → (U p → ⊥) → Linked m m' s base (bucket_of s (K p)) p
      → ((q : ℕ) → q < s → U q → U' q) → U' p → ((q : ℕ) → q < s → U' q → U q ⊎ (q ≡ p)) → Keyed m' s base K' U'
  keyed_insert p h e = index_insert m m' s base B B' U U' same x p (B p) h (bucket_below s (K p) (omega arith)) (ap (bucket_of s) e)

  pub keyed_remove : (p : ℕ) → p < s → U p → Unlinked m m' s base p
      → ((q : ℕ) → q < s → U q → (q ≡ p → ⊥) → U' q) → ((q : ℕ) → q < s → U' q → U q × (q ≡ p → ⊥)) → Keyed m' s base K' U'
  keyed_remove p h u = index_remove m m' s base B B' U U' same x p (B p) h (bucket_below s (K p) (omega arith)) refl u
