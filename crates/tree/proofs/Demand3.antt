-- The third demand, of the code. From a fresh start, after any accepted or refused loads, puts, removals, answers, reloads and syncs, with questions and plans
-- between them, if the last sync covers the present, every question about the tree is answered as 01's rules give it for the records and answers now held, worked out from
-- nothing. A reader sees here: start (`begun`), any calls (`done`, `reloaded`, `synced`), a question (`AskedTree`), its answer.
use mathlib.Core.Path.{◌≡◌, refl, sym, ap, ◌∙◌, subst}
use mathlib.Core.Bool.{true, false}
use mathlib.Core.List.{List}
use mathlib.Core.Option.{some}
use Prim.{tt}
use Prim.Native.Nat.{ℕ}
use Rattle.model.specs.Standing.{winner, Value, Values, from_nothing}
use Rattle.model.specs.Questions.{TreeQuestion, node, parent_q, linked_q, canonical_linked_q, best_q, canonical_best_q, canonical_count_q, live_count_q, leaves_q, Reply, leaves, tree_reply}
use Rattle.model.specs.Numbers.{State, Call, reload, sync, ask_tree}
use Rattle.model.specs.Runs as runs
use Rattle.model.specs.Runs.{Run, start, call, New, new_next, new_of, Timely}
use Rattle.model.proofs.Demand3 as model
use Rattle.block.specs.Answers.{listed_number}
use Rattle.block.specs.declared.Listed.{Listed}
use Rattle.memory.specs.Words.{word}
use Rattle.state.specs.View.{view, view_at}
use Rattle.state.specs.Handing.{Hands}
use Rattle.asking.specs.Whole.{Whole, WholeAt, Stays}
use Rattle.asking.specs.AskedTree.{AskedTree, Leaves}
use Rattle.tree.specs.Calls.{Keeps}
use Rattle.tree.specs.Lived.{Lived, begun, done, reloaded, synced, stayed, given, InTime}
use Rattle.tree.proofs.KeepLaws.{start_whole, reload_keeps, done_keeps}

-- a list of leaves leaves the memory whole, and what it stands for
pub leaves_stay : (m m' list list' : List ℕ) (x : Listed) → Leaves m m' list list' x → Stays m m'
leaves_stay m m' list list' x k = record { whole = k.whole; view = k.view }

module _ (m m' : List ℕ) (k : Stays m m') (w : Whole m) where
  at : WholeAt m' (word m 0)
  at = k.whole w

  room : word m' 0 ≡ word m 0
  room = at.sound.laid.room

  at_room : Whole m'
  at_room = subst (WholeAt m') (sym room) at

  same_view : view m' ≡ view m
  same_view = ap (view_at m') room ∙ k.view w

-- every memory of such a history is whole
pub whole : {m : List ℕ} → Lived m → Whole m
whole (begun n j g v {m} {m'} s) = start_whole n j g v m m' s
whole (done c {m} {m'} {r} l k) = ((done_keeps c m m' r k).right (whole l)).whole
whole (reloaded g v {m} {m'} {r} l k) = ((reload_keeps g v m m' r k).right (whole l)).whole
whole (synced l k) = (k.right (whole l)).whole
whole (stayed {m} {m'} l k) = at_room m m' k (whole l)

-- the state that it stands for, with the calls that led to it
record Past (s : State) (new : New) (T : Type 0) : Type 0 where
  run : Run s
  new_is : new_of run ≡ new
  in_time : T → runs.InTime run

after : (c : Call) (m m' : List ℕ) (r : ℕ) (new : New) (T : Type 0) → Keeps c m m' r → Whole m → Past (view m) new T → Past (view m') (new_next c (view m) new) (Timely c (view m) new × T)
unfolding new_of runs.InTime
after c m m' r new T k w p =
    subst (λ (x : State). Past x (new_next c (view m) new) (Timely c (view m) new × T)) (sym (k.right w).state)
    (record { run = call c p.run; new_is = ap (new_next c (view m)) p.new_is; in_time = λ t. (subst (λ (x : New). Timely c (view m) x) (sym p.new_is) t.0, p.in_time t.1) })

-- of a reload and a sync nothing is asked
freely : (s : State) (new : New) (T : Type 0) → Past s new (Unit {0} × T) → Past s new T
freely s new T p = record { run = p.run; new_is = p.new_is; in_time = λ t. p.in_time (tt, t) }

past : {m : List ℕ} (l : Lived m) → Past (view m) (given l) (InTime l)
unfolding given InTime new_of runs.InTime
past (begun n j g v s) = subst (λ (x : State). Past x (λ y. false) (Unit {0})) (sym (s.state refl)) (record { run = start n j g v; new_is = refl; in_time = λ t. t })
past (done c {m} {m'} {r} l k) = after c m m' r (given l) (InTime l) (done_keeps c m m' r k) (whole l) (past l)
past (reloaded g v {m} {m'} {r} l k) = freely (view m') _ (InTime l) (after (reload g v) m m' r (given l) (InTime l) (reload_keeps g v m m' r k) (whole l) (past l))
past (synced {m} {m'} {r} l k) = freely (view m') _ (InTime l) (after sync m m' r (given l) (InTime l) k (whole l) (past l))
past (stayed {m} {m'} l k) = subst (λ (x : State). Past x (given l) (InTime l)) (sym (same_view m m' k (whole l))) (past l)

-- a question that is answered with no list
abbrev pub NoList : TreeQuestion → Type 0
NoList (node x) = Unit {0}
NoList (parent_q x) = Unit {0}
NoList (linked_q x) = Unit {0}
NoList (canonical_linked_q x) = Unit {0}
NoList best_q = Unit {0}
NoList canonical_best_q = Unit {0}
NoList canonical_count_q = Unit {0}
NoList live_count_q = Unit {0}
NoList (leaves_q lent) = ⊥

not_refused : (q : TreeQuestion) (s : State) → s.fresh ≡ true → NoList q → ask_tree q s ≡ 0
not_refused (node x) s f u = rw f
not_refused (parent_q x) s f u = rw f
not_refused (linked_q x) s f u = rw f
not_refused (canonical_linked_q x) s f u = rw f
not_refused best_q s f u = rw f
not_refused canonical_best_q s f u = rw f
not_refused canonical_count_q s f u = rw f
not_refused live_count_q s f u = rw f
not_refused (leaves_q lent) s f u = absurd u

-- a memory that a sync covers answers
pub answered : {m : List ℕ} → Lived m → (view m).fresh ≡ true → (q : TreeQuestion) (r : ℕ) (y : Reply) → AskedTree q m r y → NoList q → r ≡ 0
answered {m} l covered q r y a u = a.number_is (whole l) ∙ not_refused q (view m) covered u

module _ {m : List ℕ} (l : Lived m) (premise : InTime l) (covered : (view m).fresh ≡ true) where
  from_nothing_lem : (q : TreeQuestion) → tree_reply (view m).holdings (view m).values q ≡ tree_reply (view m).holdings (from_nothing (view m).holdings) q
  from_nothing_lem q = model.demand3 (past l).run ((past l).in_time premise) covered q

  -- node, parent, linked, canonical linked, both bests, the counts
  pub demand3 : (q : TreeQuestion) (r : ℕ) (y : Reply) → AskedTree q m r y → r ≡ 0 → y ≡ tree_reply (view m).holdings (from_nothing (view m).holdings) q
  demand3 q r y a e = a.reply_is (whole l) e ∙ from_nothing_lem q

  -- leaves
  pub demand3_leaves : (m' list list' : List ℕ) (x : Listed) → Leaves m m' list list' x → listed_number x ≡ 0 → Hands list list' x (some (leaves (view m).holdings (from_nothing (view m).holdings winner)))
  demand3_leaves m' list list' x a e =
      subst (λ (v : ℕ → Value). Hands list list' x (some (leaves (view m).holdings v))) (ap (λ (v : Values). v winner) (model.values (past l).run ((past l).in_time premise) covered)) (a.right (whole l) e)
