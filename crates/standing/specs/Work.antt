-- Document 01, "Standing in the tree": which blocks may be linked at all, asked of a place.
use Rattle.std.specs.Prelude.{Bool, false}
use Rattle.model.specs.Holding.{Cell, free, held}
use Rattle.model.specs.Standing.{Spine, may}

-- a place without room has no block
abbrev pub may_stand : Spine → Cell → Bool
may_stand w free = false
may_stand w (held c) = may w c
