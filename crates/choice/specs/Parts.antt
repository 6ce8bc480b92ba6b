-- Document 01, "Comparing two chains": the last three tests of the comparison one by one, and covering for a tip of which only the index
-- and the epoch are given. The model has the three in one definition, `by_work`; the laws show that these are its parts.
use Rattle.std.specs.Prelude.{ℕ, Bool, ◌≡◌, ltb}
use Rattle.amount.specs.Choose.{◌if◌else◌}
use Rattle.model.specs.Record.{Header, peer_work, local_work, peer_tip, local_tip, peer_hash, local_hash}
use Rattle.model.specs.Comparing.{Comparison, ◌because◌, keep_local, adopt_peer, covers}

-- lower hash
unfoldable pub by_hash : ℕ → ℕ → Comparison
by_hash us them = (adopt_peer because peer_hash) if ltb them us else (keep_local because local_hash)

-- greater tip index, the winner's first; and what comes after
unfoldable pub by_tip : ℕ → ℕ → Comparison → Comparison
by_tip us them rest = (adopt_peer because peer_tip them us) if ltb us them else (keep_local because local_tip us them) if ltb them us else rest

-- greater work, the winner's first; and what comes after
unfoldable pub by_total : ℕ → ℕ → Comparison → Comparison
by_total us them rest = (adopt_peer because peer_work them us) if ltb us them else (keep_local because local_work us them) if ltb them us else rest

-- the answer is the model's for every tip of this index and epoch
abbrev pub Covering : ℕ → ℕ → ℕ → Bool → Type 0
Covering index epoch n r = (b : Header) → b.index ≡ index → b.epoch ≡ epoch → r ≡ covers n b
