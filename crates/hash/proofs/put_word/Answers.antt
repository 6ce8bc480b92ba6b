-- `hash::put_word` meets its contract. Eight stores are one row put at the place.
use Prim.Native.Nat.{◌/◌, ◌%◌}
use lib.ListN.{length-set}
use native.Mathlib.Omega.{arith}
use Rattle.hash.specs.Digits.{digits}
use Rattle.hash.proofs.HashLaws.{stores}
use Rattle.hash.proofs.put_word.Goals as goal

pub bounds-bytes-at-2 : goal.bounds-bytes-at-2
bounds-bytes-at-2 c = simp length-set (omega arith)

pub bounds-bytes-at-3 : goal.bounds-bytes-at-3
bounds-bytes-at-3 c = simp length-set (omega arith)

pub bounds-bytes-at-4 : goal.bounds-bytes-at-4
bounds-bytes-at-4 c = simp length-set (omega arith)

pub bounds-bytes-at-5 : goal.bounds-bytes-at-5
bounds-bytes-at-5 c = simp length-set (omega arith)

pub bounds-bytes-at-6 : goal.bounds-bytes-at-6
bounds-bytes-at-6 c = simp length-set (omega arith)

pub bounds-bytes-at-7 : goal.bounds-bytes-at-7
bounds-bytes-at-7 c = simp length-set (omega arith)

pub bounds-bytes-at-8 : goal.bounds-bytes-at-8
bounds-bytes-at-8 c = simp length-set (omega arith)

pub shape_of-bytes : goal.shape_of-bytes
shape_of-bytes c = simp length-set

pub returns : goal.returns
unfolding digits
returns c =
    let x = c.args.w / 256 in
    let y = x / 256 in
    let z = y / 256 in
    let upper = z / 256 in
    let u = upper / 256 in
    let v = u / 256 in
    stores c.args.bytes.now c.args.at (v / 256 % 256) (v % 256) (u % 256) (upper % 256) (z % 256) (y % 256) (x % 256) (c.args.w % 256)
