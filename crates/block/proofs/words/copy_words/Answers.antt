-- `block::words::copy_words` meets its contract. Each part is written as its function promises.
use mathlib.Core.Path.{◌∙◌, ap}
use Rattle.block.specs.Writing.{state_word}
use Rattle.block.proofs.words.copy_words.Goals as goal

pub returns : goal.returns
returns c =
    record {
      state = c.state_word-s.ensures ∙ ap (state_word c.args.x.orphaned c.args.x.canonical) c.is_with.ensures;
      time = c.time_words-t.ensures;
      reason = c.why_words-w.ensures;
      competing = c.competing_words.ensures;
    }
