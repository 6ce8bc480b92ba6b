-- `block::words::reason_words` meets its contract. Each arm is one case of the definition.
use Rattle.block.proofs.words.reason_words.Goals as goal

pub returns-in-SameTip : goal.returns-in-SameTip
returns-in-SameTip c = rw c.in-SameTip.is (record { kind_is = c.four_words.ensures.0; words = c.four_words.ensures.1 })

pub returns-in-Neither : goal.returns-in-Neither
returns-in-Neither c = rw c.in-Neither.is (record { kind_is = c.four_words-in-Neither.ensures.0; words = c.four_words-in-Neither.ensures.1 })

pub returns-in-PeerOnly : goal.returns-in-PeerOnly
returns-in-PeerOnly c = rw c.in-PeerOnly.is (record { kind_is = c.one_amount.ensures.0; words = c.one_amount.ensures.1 })

pub returns-in-LocalOnly : goal.returns-in-LocalOnly
returns-in-LocalOnly c = rw c.in-LocalOnly.is (record { kind_is = c.one_amount-in-LocalOnly.ensures.0; words = c.one_amount-in-LocalOnly.ensures.1 })

pub returns-in-PeerWork : goal.returns-in-PeerWork
returns-in-PeerWork c = rw c.in-PeerWork.is (record { kind_is = c.two_amounts.ensures.0; words = c.two_amounts.ensures.1 })

pub returns-in-LocalWork : goal.returns-in-LocalWork
returns-in-LocalWork c = rw c.in-LocalWork.is (record { kind_is = c.two_amounts-in-LocalWork.ensures.0; words = c.two_amounts-in-LocalWork.ensures.1 })

pub returns-in-PeerTip : goal.returns-in-PeerTip
returns-in-PeerTip c = rw c.in-PeerTip.is (record { kind_is = c.four_words-in-PeerTip.ensures.0; words = c.four_words-in-PeerTip.ensures.1 })

pub returns-in-LocalTip : goal.returns-in-LocalTip
returns-in-LocalTip c = rw c.in-LocalTip.is (record { kind_is = c.four_words-in-LocalTip.ensures.0; words = c.four_words-in-LocalTip.ensures.1 })

pub returns-in-PeerHash : goal.returns-in-PeerHash
returns-in-PeerHash c = rw c.in-PeerHash.is (record { kind_is = c.four_words-in-PeerHash.ensures.0; words = c.four_words-in-PeerHash.ensures.1 })

pub returns-in-LocalHash : goal.returns-in-LocalHash
returns-in-LocalHash c = rw c.in-LocalHash.is (record { kind_is = c.four_words-in-LocalHash.ensures.0; words = c.four_words-in-LocalHash.ensures.1 })

pub returns-in-OffSpine : goal.returns-in-OffSpine
returns-in-OffSpine c = rw c.in-OffSpine.is (record { kind_is = c.four_words-in-OffSpine.ensures.0; words = c.four_words-in-OffSpine.ensures.1 })

pub returns-in-CompetingFork : goal.returns-in-CompetingFork
returns-in-CompetingFork c = rw c.in-CompetingFork.is (record { kind_is = c.four_words-in-CompetingFork.ensures.0; words = c.four_words-in-CompetingFork.ensures.1 })

pub returns-in-StaleFork : goal.returns-in-StaleFork
returns-in-StaleFork c = rw c.in-StaleFork.is (record { kind_is = c.four_words-in-StaleFork.ensures.0; words = c.four_words-in-StaleFork.ensures.1 })
