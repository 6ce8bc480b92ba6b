-- `extending::accept` meets its contract.
use native.Mathlib.Omega.{arith}
use Rattle.pending.proofs.TurnLaws.{pend_laid}
use Rattle.extending.proofs.PieceLaws.{accept_both}
use Rattle.extending.proofs.accept.Goals as goal

pub promote_front-requires : goal.promote_front-requires
promote_front-requires c = (pend_laid c.args.mem.now _ c.args.n c.requires.0 c.orphan_ours.ensures.only, omega arith, omega arith)

pub returns : goal.returns
returns c =
    accept_both c.args.mem.now _ _ c.args.n c.args.local c.args.f c.args.top c.requires.0 (omega arith) c.orphan_ours.ensures c.promote_front.ensures
