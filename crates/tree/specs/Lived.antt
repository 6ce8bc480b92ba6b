-- Demand 3's histories, of memory: from any memory a start that is accepted, then any calls, accepted or refused, each as its function promises; and
-- lists of leaves and plans, which are written through words that nothing else reads (`leaves_stay`, `plan_stays`). And the premise: an ineligible answer comes before the first sync after
-- its hash was given room.
use Rattle.std.specs.Prelude.{false, List, ℕ}
use Rattle.model.specs.Numbers.{Call, reload, sync}
use Rattle.model.specs.Runs.{New, new_next, Timely}
use Rattle.state.specs.View.{view}
use Rattle.state.specs.Moves.{Done}
use Rattle.clearing.specs.Calls.{Starts, Reloads}
use Rattle.asking.specs.Whole.{Stays}
use Rattle.tree.specs.Calls.{Keeps}

pub data Lived : List ℕ → Type 0 where
  begun : (n j g v : ℕ) {m m' : List ℕ} → Starts n j g v m m' 0 → Lived m'
  done : (c : Call) {m m' : List ℕ} {r : ℕ} → Lived m → Done c m m' r → Lived m'  -- load, put, removal, answer
  reloaded : (g v : ℕ) {m m' : List ℕ} {r : ℕ} → Lived m → Reloads g v m m' r → Lived m'
  synced : {m m' : List ℕ} {r : ℕ} → Lived m → Keeps sync m m' r → Lived m'
  stayed : {m m' : List ℕ} → Lived m → Stays m m' → Lived m'  -- leaves, select, adopt

-- the hashes that were given room since the last sync
unfoldable pub given : {m : List ℕ} → Lived m → New
given (begun n j g v s) = λ x. false
given (done c {m} l k) = new_next c (view m) (given l)
given (reloaded g v {m} l k) = new_next (reload g v) (view m) (given l)
given (synced {m} l k) = new_next sync (view m) (given l)
given (stayed l k) = given l

unfoldable pub InTime : {m : List ℕ} → Lived m → Type 0
InTime (begun n j g v s) = Unit {0}
InTime (done c {m} l k) = Timely c (view m) (given l) × InTime l
InTime (reloaded g v l k) = InTime l
InTime (synced l k) = InTime l
InTime (stayed l k) = InTime l
