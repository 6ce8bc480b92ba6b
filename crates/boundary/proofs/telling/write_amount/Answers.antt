-- `boundary::telling::write_amount` meets its contract.
use mathlib.Core.Path.{refl}
use Rattle.boundary.proofs.ToldLaws.{tells_readable, tells_unreadable}
use Rattle.boundary.proofs.telling.write_amount.Goals as goal

pub returns-in-Readable : goal.returns-in-Readable
returns-in-Readable c = tells_readable c.args.out.now _ _ _ _ _ _ c.requires (record { now_is = refl }) (record { now_is = refl }) (record { now_is = refl }) refl c.in-Readable.is c.to_words-w.ensures

pub returns-in-Unreadable : goal.returns-in-Unreadable
returns-in-Unreadable c = tells_unreadable c.args.out.now _ _ _ _ _ _ c.requires (record { now_is = refl }) (record { now_is = refl }) (record { now_is = refl }) refl refl refl c.in-Unreadable.is
