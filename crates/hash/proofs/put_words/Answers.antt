-- `hash::put_words` meets its contract: 32 bytes put over 32.
use mathlib.Core.Path.{sym, ◌∙◌}
use Rattle.hash.specs.Digits.{bytes_of}
use Rattle.hash.specs.Hashes.{join}
use Rattle.hash.proofs.HashLaws.{bytes_long, put_whole}
use Rattle.hash.proofs.put_words.Goals as goal

pub returns : goal.returns
returns c =
    let a = c.args in
    let x = join a.a a.b a.c a.d in
    c.put.ensures ∙ put_whole a.bytes.now (bytes_of x) (c.requires ∙ sym (bytes_long x))
