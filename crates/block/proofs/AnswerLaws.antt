-- Document 01, "Numbers given back": a number tells its refusal, and 0 tells that a call was done, so that a promise of the number is one of the answer.
use Prim.Native.Nat.{ℕ}
use mathlib.Core.Path.{◌≡◌, refl, sym, ◌∙◌, ap}
use native.Mathlib.Omega.{arith}
use lib.Dec.{eqb}
use Rattle.amount.specs.Choose.{◌if◌else◌}
use Rattle.block.specs.Answers.{refusal_number, done_number}
use Rattle.block.specs.declared.Refusal.{Refusal}
use Rattle.block.specs.declared.Refusal.TheVariants.{Room, Kind, Index, Header, Full, Version, Loaded, Generation, Unknown, Value, Final, Stale, List}
use Rattle.block.specs.declared.Done.{Done}
use Rattle.block.specs.declared.Done.TheVariants.{Done as Accepted, Refused}

refusal_at : ℕ → Refusal
refusal_at n =
    Room if eqb n 1 else
    Kind if eqb n 2 else
    Index if eqb n 3 else
    Header if eqb n 4 else
    Full if eqb n 5 else
    Version if eqb n 6 else
    Loaded if eqb n 7 else
    Generation if eqb n 8 else
    Unknown if eqb n 9 else
    Value if eqb n 10 else
    Final if eqb n 11 else
    Stale if eqb n 12 else
    List

again : (r : Refusal) → r ≡ refusal_at (refusal_number r)
unfolding refusal_at
again Room = refl
again Kind = refl
again Index = refl
again Header = refl
again Full = refl
again Version = refl
again Loaded = refl
again Generation = refl
again Unknown = refl
again Value = refl
again Final = refl
again Stale = refl
again List = refl

pub refusal_told : (r s : Refusal) → refusal_number r ≡ refusal_number s → r ≡ s
refusal_told r s e = again r ∙ ap refusal_at e ∙ sym (again s)

pub refusal_is_none : (r : Refusal) → refusal_number r ≡ 0 → ⊥
refusal_is_none Room e = omega arith
refusal_is_none Kind e = omega arith
refusal_is_none Index e = omega arith
refusal_is_none Header e = omega arith
refusal_is_none Full e = omega arith
refusal_is_none Version e = omega arith
refusal_is_none Loaded e = omega arith
refusal_is_none Generation e = omega arith
refusal_is_none Unknown e = omega arith
refusal_is_none Value e = omega arith
refusal_is_none Final e = omega arith
refusal_is_none Stale e = omega arith
refusal_is_none List e = omega arith

pub done_told : (r s : Done) → done_number r ≡ done_number s → r ≡ s
done_told Accepted Accepted e = refl
done_told Accepted (Refused s) e = absurd (refusal_is_none s (sym e))
done_told (Refused r) Accepted e = absurd (refusal_is_none r e)
done_told (Refused r) (Refused s) e = ap Refused (refusal_told r s e)
