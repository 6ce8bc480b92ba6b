-- `clearing::start` meets its contract: each test is one of the model's.
use native.Mathlib.Omega.{arith}
use Rattle.clearing.proofs.StartLaws.{no_hash, many_hashes, no_journal, long_journal, short_memory, start_done}
use Rattle.clearing.proofs.start.Goals as goal

pub returns-then-n-eq0 : goal.returns-then-n-eq0
returns-then-n-eq0 c = no_hash _ _ _ _ _ c.if-n-eq0.true

pub returns-then-n-gt-HASH_LIMIT : goal.returns-then-n-gt-HASH_LIMIT
returns-then-n-gt-HASH_LIMIT c = many_hashes _ _ _ _ _ (omega (arith, c.if-n-eq0.false)) c.if-n-gt-HASH_LIMIT.true

pub returns-then-j-eq0 : goal.returns-then-j-eq0
returns-then-j-eq0 c = no_journal _ _ _ _ _ (omega (arith, c.if-n-eq0.false)) c.if-n-gt-HASH_LIMIT.false c.if-j-eq0.true

pub returns-then-j-gt-JOURNAL_LIMIT : goal.returns-then-j-gt-JOURNAL_LIMIT
returns-then-j-gt-JOURNAL_LIMIT c = long_journal _ _ _ _ _ (omega (arith, c.if-n-eq0.false)) c.if-n-gt-HASH_LIMIT.false (omega (arith, c.if-j-eq0.false)) c.if-j-gt-JOURNAL_LIMIT.true

pub returns-then-mem-n : goal.returns-then-mem-n
returns-then-mem-n c = short_memory _ _ _ _ _ (omega (arith, c.if-n-eq0.false)) c.if-n-gt-HASH_LIMIT.false (omega (arith, c.if-j-eq0.false)) c.if-j-gt-JOURNAL_LIMIT.false c.if-mem-n.true

pub returns : goal.returns
returns c = start_done _ _ _ _ _ (omega (arith, c.if-n-eq0.false)) c.if-n-gt-HASH_LIMIT.false (omega (arith, c.if-j-eq0.false)) c.if-j-gt-JOURNAL_LIMIT.false _ c.if-mem-n.false c.lay.ensures
