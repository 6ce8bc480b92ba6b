-- What is kept of twelve words, where there is a copy and where there is none.
use mathlib.Core.Option.{Option}
use mathlib.Core.Path.{◌≡◌, sym, ap, ◌∙◌}
use Rattle.model.specs.Record as model
use Rattle.block.specs.Records.{copy_means, kept_means}
use Rattle.block.specs.declared.Copy.{Copy}
use Rattle.block.specs.declared.Kept.{Kept}
use Rattle.block.specs.declared.Kept.TheVariants.{None as NoCopy, Copy as KeptCopy}
use Rattle.boundary.specs.Lent.{plain, or_plain}

pub with_copy_lem : {k : Kept} {c : Copy} {o : Option model.Copy} → k ≡ KeptCopy c → kept_means k ≡ o → copy_means c ≡ or_plain o
with_copy_lem e m = ap or_plain (ap kept_means (sym e) ∙ m)

pub without_copy : {k : Kept} {o : Option model.Copy} → k ≡ NoCopy → kept_means k ≡ o → plain ≡ or_plain o
without_copy e m = ap or_plain (ap kept_means (sym e) ∙ m)
