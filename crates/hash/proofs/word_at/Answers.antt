-- `hash::word_at` meets its contract. The eight elements read are that part of the slice.
use mathlib.Core.Path.{◌∙◌, ap}
use Rattle.hash.specs.Digits.{bytes_number}
use Rattle.hash.proofs.HashLaws.{window}
use Rattle.hash.proofs.word_at.Goals as goal

pub returns : goal.returns
returns c = c.word.ensures ∙ ap bytes_number (window c.args.bytes.now c.args.at c.requires)
