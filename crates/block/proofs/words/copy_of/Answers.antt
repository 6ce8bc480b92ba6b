-- `block::words::copy_of` meets its contract. Each part decodes as its function promises.
use borrow.Author.Tests.{ne_eqb}
use Rattle.block.specs.Words.{copy_of}
use Rattle.block.proofs.words.copy_of.Goals as goal

pub returns-then-s-eq0 : goal.returns-then-s-eq0
unfolding copy_of
returns-then-s-eq0 c = rw c.if-s-eq0.true

pub returns : goal.returns
unfolding copy_of
returns c =
    rw (ne_eqb c.args.state.a 0 c.if-s-eq0.false, c.is_orphaned.ensures, c.is_canonical.ensures, c.time_of.ensures, c.why_of.ensures, c.competing_of.ensures, c.is_competing.ensures)
