-- Laws of a loop over the slots of a set that have a key: how it starts, a step, what may change under it, and where it ends.
use mathlib.Core.Path.{◌≡◌, sym, ap, ◌∙◌, subst}
use mathlib.Core.Logic.{◌⊎◌, inl, inr, ⊎_elim}
use mathlib.Core.List.{List, [], ◌∷◌}
use Prim.Native.Nat.{ℕ, ◌+◌, ◌*◌, ◌≤◌, ◌<◌}
use native.Mathlib.Omega.{arith}
use lib.ListN.{length}
use Rattle.memory.specs.Words.{word}
use Rattle.index.specs.Chain.{In, Distinct, Chain}
use Rattle.index.specs.Index.{Keyed}
use Rattle.index.specs.Keys.{bucket_of}
use Rattle.index.specs.Seeks.{Seeks}
use Rattle.index.specs.Visits.{Members, Visits}
use Rattle.index.proofs.ListFacts.{below_or, in_eq, pigeons}
use Rattle.index.proofs.Chains.{chain_below, chain_self, chain_frame}
use Rattle.index.proofs.IndexLaws.{bucket_below}
use Rattle.index.proofs.Walks.{split, sought_none}

module _ (m : List ℕ) (s base : ℕ) (U : ℕ → Type 0) (K : ℕ → ℕ → ℕ) (k : ℕ → ℕ) where
  -- the walk found r in a chain l of slots that are not seen, and every slot with the key that is not seen is in l
  visits_at : (r : ℕ) (seen l : List ℕ) (at : ℕ) → Chain m s base at l → Seeks m s base K at k r
      → ((q : ℕ) → In q l → U q × (In q seen → ⊥)) → Distinct seen → ((q : ℕ) → In q seen → (q < s) × U q × (K q ≡ k))
      → ((q : ℕ) → q < s → U q → K q ≡ k → In q seen ⊎ In q l)
      → Visits m s base U K k r seen
  visits_at r seen l at c a free d sound complete = go (below_or r s)
    where
      go : (r < s) ⊎ (s ≤ r) → Visits m s base U K k r seen
      go (inl h) =
          let t = split m s base K k r l at c (a.first l c) h in
          record {
            range = a.range;
            here = λ i. ((free r t.at).0, t.key, (free r t.at).1);
            rest = t.rest;
            chain = λ i. t.chain;
            ahead = λ q i. let f = free q (t.within q i) in (chain_below m s base t.rest (base + s + r) t.chain q i, f.0, f.1);
            distinct = d;
            sound = sound;
            complete = λ q i u e. ⊎_elim (λ j. inl j) (λ j. inr (h, t.behind q j e)) (complete q i u e);
          }
      go (inr h) =
          record {
            range = a.range;
            here = λ i. absurd (omega arith);
            rest = [];
            chain = λ i. absurd (omega arith);
            ahead = λ q i. absurd i;
            distinct = d;
            sound = sound;
            complete = λ q i u e. ⊎_elim (λ j. inl j) (λ j. absurd (sought_none m s base K k r l at c (a.first l c) h q j e)) (complete q i u e);
          }

  pub visits_start : (r : ℕ) → 1 ≤ s → Keyed m s base K U → Seeks m s base K (base + bucket_of s k) k r → Visits m s base U K k r []
  visits_start r h x a =
      let b = x (bucket_of s k) (bucket_below s k h) in
      visits_at r [] b.list (base + bucket_of s k) b.chain a (λ q i. ((b.sound q i).0, λ j. j)) tt (λ q i. absurd i)
      (λ q i u e. inr (b.complete q i u (ap (bucket_of s) e)))

  module _ {x : ℕ} {seen : List ℕ} (v : Visits m s base U K k x seen) where
    pub visits_step : (r : ℕ) → x < s → Seeks m s base K (base + s + x) k r → Visits m s base U K k r (x ∷ seen)
    visits_step r h a =
        let c = v.chain h in
        let o = v.here h in
        visits_at r (x ∷ seen) v.rest (base + s + x) c a
        (λ q i. let f = v.ahead q i in (f.1, λ j. ⊎_elim (λ e. chain_self m s base v.rest x c (in_eq v.rest e i)) f.2 j))
        (o.2, v.distinct)
        (λ q i. ⊎_elim (λ e. (omega arith, subst U (sym e) o.0, ap K e ∙ o.1)) (λ j. v.sound q j) i)
        (λ q i u e. ⊎_elim (λ j. inl (inr j)) (λ j. ⊎_elim (λ z. inl (inl z)) (λ z. inr z) j.1) (v.complete q i u e))

    few : length seen ≤ s
    few = pigeons s seen v.distinct (λ q i. (v.sound q i).0)

    -- a loop that has made s steps stands at s
    all_seen : s ≤ length seen → s ≤ x
    all_seen h = go (below_or x s)
      where
        go : (x < s) ⊎ (s ≤ x) → s ≤ x
        go (inr i) = i
        go (inl i) =
            absurd (omega (arith, pigeons s (x ∷ seen) ((v.here i).2, v.distinct) (λ q j. ⊎_elim (λ e. omega arith) (λ j. (v.sound q j).0) j)))

    pub visits_done : (s ≤ x) ⊎ (s ≤ length seen) → Members s U K k seen
    visits_done h =
        let e : s ≤ x = ⊎_elim (λ i. i) all_seen h in
        record {
          distinct = v.distinct;
          few = few;
          sound = v.sound;
          complete = λ q i u f. ⊎_elim (λ j. j) (λ j. absurd (omega (arith, j.0))) (v.complete q i u f);
        }

-- under the loop anything may change but the links, the set, and the keys of its slots
pub visits_frame : (m m' : List ℕ) (s base : ℕ) (U U' : ℕ → Type 0) (K K' : ℕ → ℕ → ℕ) {k : ℕ → ℕ} {x : ℕ} {seen : List ℕ}
    → ((a : ℕ) → base ≤ a → a < base + 3 * s → word m' a ≡ word m a)
    → ((q : ℕ) → q < s → U q → U' q) → ((q : ℕ) → q < s → U' q → U q) → ((q : ℕ) → q < s → U q → K' q ≡ K q)
    → Visits m s base U K k x seen → Visits m' s base U' K' k x seen
visits_frame m m' s base U U' K K' {k} {x} {seen} links to of same v =
    record {
      range = v.range;
      here = λ h. let o = v.here h in (to x h o.0, same x h o.0 ∙ o.1, o.2);
      rest = v.rest;
      chain = λ h.
          chain_frame m s base m' v.rest (base + s + x) (v.chain h) (links (base + s + x) (omega arith) (omega arith))
          (λ q i. let j = (v.ahead q i).0 in links (base + s + q) (omega arith) (omega arith))
          (λ q i. let j = (v.ahead q i).0 in links (base + 2 * s + q) (omega arith) (omega arith));
      ahead = λ q i. let f = v.ahead q i in (f.0, to q f.0 f.1, f.2);
      distinct = v.distinct;
      sound = λ q i. let f = v.sound q i in (f.0, to q f.0 f.1, same q f.0 f.1 ∙ f.2);
      complete = λ q i u e. v.complete q i (of q i u) (sym (same q i (of q i u)) ∙ e);
    }
