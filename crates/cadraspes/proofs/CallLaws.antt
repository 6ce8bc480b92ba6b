-- A call over the boundary is the call inside: its number is that of the enum it answers, and what it is about is what the bytes and words mean.
use mathlib.Core.Path.{◌≡◌, sym, subst}
use mathlib.Core.List.{List}
use Prim.Native.Nat.{ℕ}
use Rattle.clearing.specs.Calls.{Starts, Reloads}
use Rattle.model.specs.Numbers.{Call, load, put, remove, answer}
use Rattle.model.specs.Record.{Block}
use Rattle.state.specs.Moves.{Done}

pub starts : {n j g v r r' : ℕ} {m m' : List ℕ} → r' ≡ r → Starts n j g v m m' r → Starts n j g v m m' r'
starts {n} {j} {g} {v} {r} {r'} {m} {m'} e s = subst (Starts n j g v m m') (sym e) s

pub reloads : {g v r r' : ℕ} {m m' : List ℕ} → r' ≡ r → Reloads g v m m' r → Reloads g v m m' r'
reloads {g} {v} {r} {r'} {m} {m'} e s = subst (Reloads g v m m') (sym e) s

abbrev again : {A : Type 0} {a a' : A} {r r' : ℕ} {m m' : List ℕ} (call : A → Call) → a ≡ a' → r' ≡ r → Done (call a) m m' r → Done (call a') m m' r'
again {A} {a} {a'} {r} {r'} {m} {m'} call e n s = subst (Done (call a') m m') (sym n) (subst (λ (x : A). Done (call x) m m' r) e s)

pub loads : {k r r' : ℕ} {m m' : List ℕ} {b b' : Block} → b ≡ b' → r' ≡ r → Done (load k b) m m' r → Done (load k b') m m' r'
loads {k} = again (load k)

pub puts : {k r r' : ℕ} {m m' : List ℕ} {b b' : Block} → b ≡ b' → r' ≡ r → Done (put k b) m m' r → Done (put k b') m m' r'
puts {k} = again (put k)

pub removes : {k r r' : ℕ} {m m' : List ℕ} {h h' : ℕ} → h ≡ h' → r' ≡ r → Done (remove k h) m m' r → Done (remove k h') m m' r'
removes {k} = again (remove k)

pub answers : {a r r' : ℕ} {m m' : List ℕ} {h h' : ℕ} → h ≡ h' → r' ≡ r → Done (answer h a) m m' r → Done (answer h' a) m m' r'
answers {a} = again (λ (h : ℕ). answer h a)
