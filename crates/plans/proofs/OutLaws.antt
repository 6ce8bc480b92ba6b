-- The entries go into a list of words: at each turn the next one is put at the next place.
use mathlib.Core.Path.{◌≡◌, refl, sym, subst, ◌∙◌}
use mathlib.Core.List.{List}
use Prim.Native.Nat.{ℕ, ◌+◌, ◌*◌, ◌≤◌, ◌<◌}
use native.Mathlib.Omega.{arith}
use lib.IntN.{ℤ}
use lib.ListN.{length}
use Rattle.model.specs.Record.{Reason}
use Rattle.memory.specs.Layout.{Laid}
use Rattle.entries.specs.declared.Entry.{Entry}
use Rattle.entries.specs.Handing.{Takes}
use Rattle.entries.proofs.HandLaws.{Handing, handing_start, handing_more, handing_full, handing_short}
use Rattle.plans.specs.Lent.{entry_from, places_in, entries_in, Put, FirstOnly, WritesOut}
use Rattle.plans.proofs.PutLaws.{put_set, tabled-length}

pub places_are : (l : List ℕ) → length (entries_in l) ≡ places_in l
places_are l = tabled-length (λ i. entry_from l (16 * i)) (places_in l)

pub first_none : (l : List ℕ) (k : ℕ) → FirstOnly l l k
first_none l k = record { long = refl; rest = λ i h. refl }

pub record Writing (m₀ m : List ℕ) (n i : ℕ) (clock : ℤ) (reason : Reason) (list₀ list : List ℕ) : Type 0 where
  pub handing : Handing m₀ m n i clock reason (entries_in list₀) (entries_in list)
  pub only : FirstOnly list₀ list i

pub writing_start : (m : List ℕ) (n : ℕ) (clock : ℤ) (reason : Reason) (list : List ℕ) → Writing m m n 0 clock reason list list
writing_start m n clock reason list = record { handing = handing_start m n clock reason (entries_in list); only = first_none list 0 }

module _ (m₀ m : List ℕ) (n i : ℕ) (clock : ℤ) (reason : Reason) (list₀ list : List ℕ) (laid : Laid m₀ n) (g : Writing m₀ m n i clock reason list₀ list) where
  pub writing_more : (m₂ : List ℕ) (e : Entry) → Takes m m₂ n clock reason e → (e.state ≡ 0 → ⊥) → i < places_in list₀ → (list₂ : List ℕ) → Put list list₂ (16 * i) e → Writing m₀ m₂ n (i + 1) clock reason list₀ list₂
  writing_more m₂ e t there inside list₂ p = record {
    handing =
        let z : i < length (entries_in list₀) = rw (places_are list₀) inside in
        let y : entries_in list₂ ≡ lib.ListN.set (entries_in list) i e = put_set list list₂ i e p (rw g.only.long inside) in
        subst (λ (l : List Entry). Handing m₀ m₂ n (i + 1) clock reason (entries_in list₀) l) (sym y) (handing_more m₀ m n i clock reason (entries_in list₀) (entries_in list) laid g.handing m₂ e t there z);
    only = record { long = p.long ∙ g.only.long; rest = λ j h. p.only j (λ x y. omega arith) ∙ g.only.rest j (omega arith) };
  }

  pub writing_full : places_in list₀ ≤ i → WritesOut m₀ m n clock reason list₀ list i
  writing_full full = record { hands = handing_full m₀ m n i clock reason (entries_in list₀) (entries_in list) laid g.handing (rw (places_are list₀) full); only = g.only }

  pub writing_short : (e : Entry) (m₂ : List ℕ) → Takes m m₂ n clock reason e → e.state ≡ 0 → WritesOut m₀ m₂ n clock reason list₀ list i
  writing_short e m₂ t z = record { hands = handing_short m₀ m n i clock reason (entries_in list₀) (entries_in list) laid g.handing e m₂ t z; only = g.only }
