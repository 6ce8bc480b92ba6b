-- `boundary::comparing::side_from` meets its contract.
use mathlib.Core.Path.{◌∙◌, ap}
use Rattle.boundary.specs.Compared.{side_in}
use Rattle.boundary.proofs.comparing.side_from.Goals as goal

pub returns : goal.returns
returns c = c.side_of.ensures ∙ ap (side_in c.args.words.now) c.from_bytes-h.ensures
