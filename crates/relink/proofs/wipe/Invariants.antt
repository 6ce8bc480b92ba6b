-- `relink::wipe` meets its contract: the rows below p have been wiped.
use Rattle.relink.proofs.WipeLaws.{Wiping}
use Rattle.relink.proofs.wipe.Given as goal

abbrev pub invariant-loop-p : goal.invariant-loop-p
invariant-loop-p l = Wiping l.initial.mem l.mem l.n l.p
