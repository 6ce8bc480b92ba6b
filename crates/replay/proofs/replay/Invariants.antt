-- `replay`: what is held of a line stays within the text, which is as long as it was.
use Rattle.std.proofs.Common.{◌≡◌, ◌≤◌, length}
use Rattle.replay.proofs.replay.Given as goal

abbrev pub invariant-loop : goal.invariant-loop
invariant-loop g l = (l.held ≤ length l.text) × (length l.text ≡ length l.fn.text)
