-- `block::words::reason_of` meets its contract. Each arm is one case of the definition.
use Rattle.block.specs.Words.{quad, reason_of}
use Rattle.block.proofs.WordLaws.{reason_rest}
use Rattle.block.proofs.words.reason_of.Goals as goal

pub returns-in-1 : goal.returns-in-1
unfolding reason_of
returns-in-1 c = rw c.in-1.is

pub returns-in-2 : goal.returns-in-2
unfolding reason_of
returns-in-2 c = rw c.in-2.is

pub returns-in-3 : goal.returns-in-3
unfolding reason_of
returns-in-3 c = rw (c.in-3.is, c.from_words.ensures.exact)

pub returns-in-4 : goal.returns-in-4
unfolding reason_of
returns-in-4 c = rw (c.in-4.is, c.from_words-in-4.ensures.exact)

pub returns-in-5 : goal.returns-in-5
unfolding reason_of
returns-in-5 c = rw (c.in-5.is, c.from_words-in-5.ensures.exact, c.from_words-in-5-2.ensures.exact)

pub returns-in-6 : goal.returns-in-6
unfolding reason_of
returns-in-6 c = rw (c.in-6.is, c.from_words-in-6.ensures.exact, c.from_words-in-6-2.ensures.exact)

pub returns-in-7 : goal.returns-in-7
unfolding reason_of
returns-in-7 c = rw c.in-7.is

pub returns-in-8 : goal.returns-in-8
unfolding reason_of
returns-in-8 c = rw c.in-8.is

pub returns-in-9 : goal.returns-in-9
unfolding reason_of
returns-in-9 c = rw c.in-9.is

pub returns-in-10 : goal.returns-in-10
unfolding reason_of
returns-in-10 c = rw c.in-10.is

pub returns-in-11 : goal.returns-in-11
unfolding reason_of
returns-in-11 c = rw c.in-11.is

pub returns-in-12 : goal.returns-in-12
unfolding reason_of
returns-in-12 c = rw c.in-12.is

pub returns-in_default : goal.returns-in_default
returns-in_default c =
    let n = c.in_default.in_default-own.rest in
    let a = c.args in
    reason_rest a.kind (quad a.a a.b a.c a.d) n.0.0.0.0.0.0.0.0.0.0.0.1 n.0.0.0.0.0.0.0.0.0.0.1 n.0.0.0.0.0.0.0.0.0.1 n.0.0.0.0.0.0.0.0.1 n.0.0.0.0.0.0.0.1 n.0.0.0.0.0.0.1 n.0.0.0.0.0.1 n.0.0.0.0.1 n.0.0.0.1 n.0.0.1 n.0.1 n.1
