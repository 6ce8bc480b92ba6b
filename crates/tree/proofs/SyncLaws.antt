-- A sync, from a whole memory to a whole one.
use mathlib.Core.Path.{◌≡◌, refl, sym, ap, ◌∙◌, subst}
use mathlib.Core.Bool.{true, false}
use mathlib.Core.List.{List}
use mathlib.Core.Option.{Option, none, some}
use Prim.Native.Nat.{ℕ, suc, ◌+◌, ◌≤◌, ◌<◌}
use native.Mathlib.Omega.{arith}
use lib.Dec.{eqb}
use lib.ListN.{length}
use borrow.Author.Tests.{lt-ltb}
use Rattle.model.specs.Holding.{Cell, free, held, Holdings, is_held, is_live, released, release, index_of, answered, set_answer}
use Rattle.model.specs.Standing.{Spine, winner, canonical, Values, is_linked, standing, names, parent, value_at}
use Rattle.model.specs.Relink.{settled, relinked}
use Rattle.model.specs.Numbers.{State, sync, number, step, effect, changes}
use Rattle.model.specs.Runs.{Run, call}
use Rattle.model.proofs.Tools.{by_bool, by_option, no_both}
use Rattle.model.proofs.Turn.{names_index, parent-some}
use Rattle.model.proofs.Parent.{named_one}
use Rattle.model.proofs.Upheld.{upheld}
use Rattle.model.proofs.WalkLaws.{linked_live, allowed, allowed_live}
use Rattle.block.specs.Words.{quad}
use Rattle.memory.specs.Words.{word, seg, Four, Stored}
use Rattle.memory.specs.Layout.{row, nodes, Laid}
use Rattle.memory.proofs.WordLaws.{stored_same, stored_other, stored_long}
use Rattle.journal.specs.Journal.{journal_of}
use Rattle.state.specs.View.{cells_of, values_of, synced_of, view, view_at}
use Rattle.state.specs.Sound.{Used, SoundAt}
use Rattle.state.specs.TreeOnly.{TreeOnly}
use Rattle.state.proofs.ViewLaws.{state_eq, values_same, journal_same}
use Rattle.state.proofs.SoundLaws.{laid_same, journaled_same}
use Rattle.state.proofs.HeadSteps.{head_cells, head_sound}
use Rattle.state.proofs.TreeSteps.{tree_then, tree_cells, tree_sound, tree_journal, tree_holdings}
use Rattle.releasing.specs.Releases.{Releases}
use Rattle.contest.specs.Keys.{enters}
use Rattle.contest.proofs.KeyLaws.{enters_kept}
use Rattle.contest.proofs.Uses.{still}
use Rattle.standing.proofs.ParentLaws.{sound_distinct}
use Rattle.pending.specs.Pending.{Pends}
use Rattle.pending.proofs.NextLaws.{live_used}
use Rattle.kin.specs.Kin.{linked_at, up_at}
use Rattle.relink.specs.Treed.{TreedWords}
use Rattle.relink.proofs.TreedLaws.{treed_frame, listless_same}
use Rattle.relink.proofs.WorkLaws.{linked_is, canonical_is, root_linked}
use Rattle.relink.specs.Gathers.{Gathered, Gathers}
use Rattle.relink.specs.Turned.{Settled, Settles}
use Rattle.asking.specs.Whole.{WholeAt}
use Rattle.tree.specs.Calls.{Noted, Syncs, Keeps}

-- a sync is never refused
pub step-sync : (s : State) → effect sync s ≡ step sync s
unfolding step number
step-sync s = refl

number-sync : (s : State) → 0 ≡ number sync s
unfolding number
number-sync s = refl

-- what the view shows
cells_are : (m : List ℕ) (n x : ℕ) → (view_at m n).holdings.cells x ≡ cells_of m n x
unfolding view_at
cells_are m n x = refl

seen : (m : List ℕ) (n : ℕ) (sp : Spine) (q : ℕ) → (is_linked ((view_at m n).values sp q) ≡ true → (view_at m n).values sp q ≡ standing sp (allowed ((view_at m n).holdings.cells q)) (value_at ((view_at m n).values sp) (parent (view_at m n).holdings q)))
    → is_linked (values_of m n sp q) ≡ true → values_of m n sp q ≡ standing sp (allowed (cells_of m n q)) (value_at (values_of m n sp) (parent (view_at m n).holdings q))
unfolding view_at
seen m n sp q f = f

dead : is_live free ≡ false
unfolding is_live
dead = refl

allowed_index : (c : Cell) → index_of (allowed c) ≡ index_of c
unfolding answered set_answer
allowed_index free = refl
allowed_index (held c) = refl

-- a contest of turns with no member is as it was
pub idle_kept : (m m' : List ℕ) (n : ℕ) → Laid m n → ((j : ℕ) → j < n → word m' (nodes n 2 + j) ≡ word m (nodes n 2 + j)) → ((q : ℕ) → q < n → word m' (row q + 59) ≡ word m (row q + 59))
    → Pends m n (λ q. false) → Pends m' n (λ q. false)
idle_kept m m' n laid node marks p = record {
  tree = still m m' n 2 laid.few (record { node = node; marks = marks; keys = λ q h e. no_both true refl (sym e ∙ p.members q h) }) p.tree;
  members = λ q h. enters_kept m m' 2 q (marks q h) ∙ p.members q h;
  turns = λ q h e. no_both false e refl;
  used = λ q h e. no_both false e refl;
}

module _ (m m₁ m₂ m₃ m₄ : List ℕ) (n : ℕ) (g : Gathers m m₁ n) (t : Settles m₁ m₂ n) (r : Releases m₂ m₃ n) (o : Noted m₃ m₄) where
  tree : TreeOnly m m₂ n
  tree = tree_then m m₁ m₂ n g.only t.only

  -- ---- the head ----

  head : (a : ℕ) → a < 64 → (a ≡ 14 → ⊥) → (a ≡ 15 → ⊥) → (6 ≤ a → a < 11 → ⊥) → word m₄ a ≡ word m a
  head a h x y z = o.only a z ∙ r.only.head a h y ∙ tree.head a h x

  -- rows from word 1 on, but for 2, are as the turns left them
  row_late : (q k : ℕ) → q < n → 1 ≤ k → k < 68 → (k ≡ 2 → ⊥) → word m₄ (row q + k) ≡ word m₂ (row q + k)
  row_late q k h x y z = o.only (row q + k) (λ a b. omega arith) ∙ r.only.rows q k h x y z

  laid₃ : Laid m n → Laid m₃ n
  laid₃ l = laid_same m m₃ n l (r.only.head 0 (omega arith) (λ e. omega arith) ∙ tree.head 0 (omega arith) (λ e. omega arith)) (r.only.head 1 (omega arith) (λ e. omega arith) ∙ tree.head 1 (omega arith) (λ e. omega arith)) (r.only.long ∙ tree.long)

  module _ (w : WholeAt m n) where
    s₂ : SoundAt m₂ n
    s₂ = tree_sound m m₂ n tree w.sound

    gathered : Gathered m m₁ n
    gathered = g.right w.sound w.treed w.idle

    settled₂ : Settled m₁ m₂ n gathered.pend
    settled₂ = t.right (tree_sound m m₁ n g.only w.sound) gathered.treed gathered.pend gathered.pends

    -- ---- what it stands for ----

    values₂ : values_of m₂ n ≡ relinked (view_at m n).holdings (values_of m n) (changes (view_at m n))
    values₂ = settled₂.values ∙ ap (λ (h : Holdings). settled h (values_of m₁ n) gathered.pend) (tree_holdings m m₁ n g.only) ∙ gathered.same

    values₄ : values_of m₄ n ≡ values_of m₂ n
    values₄ = values_same m₂ m₄ n (λ q h k x y z. row_late q k h (omega arith) (omega arith) (λ e. omega arith))

    cells₄ : cells_of m₄ n ≡ (λ p. released (cells_of m n p))
    cells₄ = head_cells m₃ m₄ n (laid₃ w.sound.laid) (λ a f h. o.only a (λ x y. f (omega arith) (omega arith))) o.long ∙ r.cells s₂ ∙ ap (λ (f : ℕ → Cell). λ p. released (f p)) (tree_cells m m₂ n tree)

    journal₄ : journal_of m₄ n ≡ journal_of m n
    journal₄ =
        journal_same m₂ m₄ n (late 1 (omega arith) (omega arith)) (late 5 (omega arith) (omega arith)) (λ a x. o.only a (λ y z. omega arith) ∙ r.only.journal a x) (late 4 (omega arith) (omega arith))
        ∙ tree_journal m m₂ n tree
      where
        late : (a : ℕ) → a < 6 → a < 64 → word m₄ a ≡ word m₂ a
        late a h l = o.only a (λ y z. omega arith) ∙ r.only.head a l (λ e. omega arith)

    view₄ : view_at m₄ n ≡ step sync (view_at m n)
    unfolding view_at effect release synced_of
    view₄ =
        state_eq (head 1 (omega arith) (λ e. omega arith) (λ e. omega arith) (λ x y. omega arith)) cells₄
        (head 2 (omega arith) (λ e. omega arith) (λ e. omega arith) (λ x y. omega arith)) (head 3 (omega arith) (λ e. omega arith) (λ e. omega arith) (λ x y. omega arith))
        journal₄ (ap (λ (z : ℕ). eqb z 1) o.loading) (values₄ ∙ values₂) noted (ap (λ (z : ℕ). eqb z 1) o.fresh)
        ∙ step-sync (view_at m n)
      where
        late : (a : ℕ) → a < 4 → word m₃ a ≡ word m a
        late a h = r.only.head a (omega arith) (λ e. omega arith) ∙ tree.head a (omega arith) (λ e. omega arith)

        noted : synced_of (seg m₄ 8 3) ≡ some (record { generation = word m 2; version = word m 3 })
        noted = rw (o.synced, o.generation ∙ late 2 (omega arith), o.version ∙ late 3 (omega arith))

    run₄ : Run (view_at m₄ n)
    run₄ = subst Run (sym view₄) (call sync w.run)

    -- ---- the structures of the holdings ----

    sound₄ : SoundAt m₄ n
    sound₄ =
        head_sound m₃ m₄ n (laid₃ w.sound.laid) (λ a f h. o.only a (λ x y. f (omega arith) (omega arith))) o.long (r.sound s₂)
        (journaled_same m₃ m₄ n (o.only 1 (λ x y. omega arith)) (o.only 4 (λ x y. omega arith)) (o.only 5 (λ x y. omega arith)) (λ a x. o.only a (λ y z. omega arith)) (r.sound s₂).journal)

    -- ---- what is linked has room, and so has its parent ----

    fresh₄ : (view_at m₄ n).fresh ≡ true
    unfolding view_at
    fresh₄ = ap (λ (z : ℕ). eqb z 1) o.fresh

    rule : (sp : Spine) (q : ℕ) → is_linked (values_of m₄ n sp q) ≡ true → values_of m₄ n sp q ≡ standing sp (allowed (cells_of m₄ n q)) (value_at (values_of m₄ n sp) (parent (view_at m₄ n).holdings q))
    rule sp q e = seen m₄ n sp q (upheld run₄ fresh₄ sp q) e

    live₄ : (sp : Spine) (q : ℕ) → is_linked (values_of m₄ n sp q) ≡ true → is_live (cells_of m₄ n q) ≡ true
    live₄ sp q e = sym (allowed_live (cells_of m₄ n q)) ∙ linked_live sp (allowed (cells_of m₄ n q)) (value_at (values_of m₄ n sp) (parent (view_at m₄ n).holdings q)) (ap is_linked (sym (rule sp q e)) ∙ e)

    -- linked, by the word that the turns left
    winner_is : (q : ℕ) → q < n → linked_at m₂ q ≡ true → is_linked (values_of m₄ n winner q) ≡ true
    winner_is q h e = ap (λ (v : Values). is_linked (v winner q)) values₄ ∙ (let z = lt-ltb q n h in let f = sym (linked_is m₂ q) ∙ e in rw z f)

    canonical_is₄ : (q : ℕ) → q < n → enters m₂ 1 q ≡ true → is_linked (values_of m₄ n canonical q) ≡ true
    canonical_is₄ q h e = ap (λ (v : Values). is_linked (v canonical q)) values₄ ∙ (let z = lt-ltb q n h in let f = sym (canonical_is m₂ q) ∙ e in rw z f)

    parent₄ : (q : ℕ) → q < n → linked_at m₂ q ≡ true → up_at m₂ q < n → Used m₄ (up_at m₂ q)
    parent₄ q h e l = by_option (parent (view_at m₄ n).holdings q) nobody somebody
      where
        named : names (cells_of m₂ n q) (cells_of m₂ n (up_at m₂ q)) ≡ true
        named = (settled₂.treed.above q h e).named l

        -- its cell is as before, since it is live
        same_cell : (x : ℕ) → is_live (cells_of m₄ n x) ≡ true → cells_of m₄ n x ≡ cells_of m₂ n x
        same_cell x f =
            let a : cells_of m₄ n x ≡ released (cells_of m n x) = ap (λ (c : ℕ → Cell). c x) cells₄ in
            let b : cells_of m₂ n x ≡ cells_of m n x = ap (λ (c : ℕ → Cell). c x) (tree_cells m m₂ n tree) in
            by_bool (is_held (cells_of m n x)) (λ i. let k : released (cells_of m n x) ≡ cells_of m n x = rw i in a ∙ k ∙ sym b) (λ i. let k : released (cells_of m n x) ≡ free = rw i in no_both true refl (sym f ∙ ap is_live (a ∙ k) ∙ dead))

        live_q : is_live (cells_of m₄ n q) ≡ true
        live_q = live₄ winner q (winner_is q h e)

        nobody : parent (view_at m₄ n).holdings q ≡ none → Used m₄ (up_at m₂ q)
        nobody f =
            let z : index_of (allowed (cells_of m₄ n q)) ≡ 0 = root_linked (allowed (cells_of m₄ n q)) (ap is_linked (sym (rule winner q (winner_is q h e) ∙ ap (λ (x : Option ℕ). standing winner (allowed (cells_of m₄ n q)) (value_at (values_of m₄ n winner) x)) f)) ∙ winner_is q h e) in
            let i : index_of (cells_of m₂ n q) ≡ suc (index_of (cells_of m₂ n (up_at m₂ q))) = names_index (cells_of m₂ n q) (cells_of m₂ n (up_at m₂ q)) named in
            let j : index_of (allowed (cells_of m₄ n q)) ≡ index_of (cells_of m₂ n q) = allowed_index (cells_of m₄ n q) ∙ ap index_of (same_cell q live_q) in
            absurd (omega arith)

        somebody : (p : ℕ) → parent (view_at m₄ n).holdings q ≡ some p → Used m₄ (up_at m₂ q)
        somebody p f =
            let k = parent-some (view_at m₄ n).holdings q p f in
            let lp : is_live (cells_of m₄ n p) ≡ true = rw (← cells_are m₄ n p) k.1 in
            let np : names (cells_of m₄ n q) (cells_of m₄ n p) ≡ true = rw (← cells_are m₄ n p, ← cells_are m₄ n q) k.0 in
            let np₂ : names ((view_at m₂ n).holdings.cells q) ((view_at m₂ n).holdings.cells p) ≡ true = rw (cells_are m₂ n p, cells_are m₂ n q, ← same_cell q live_q, ← same_cell p lp) np in
            let nu₂ : names ((view_at m₂ n).holdings.cells q) ((view_at m₂ n).holdings.cells (up_at m₂ q)) ≡ true = rw (cells_are m₂ n q, cells_are m₂ n (up_at m₂ q)) named in
            let z : p ≡ up_at m₂ q = named_one (view_at m₂ n).holdings (sound_distinct m₂ n s₂) q p (up_at m₂ q) np₂ nu₂ in
            subst (Used m₄) z (live_used m₄ n p lp)

    -- ---- what a sync keeps ----

    words₄ : TreedWords m₂ m₄ n
    words₄ = record {
      long = o.long ∙ r.only.long;
      size = o.only 14 (λ x y. omega arith) ∙ r.only.head 14 (omega arith) (λ e. omega arith);
      rows = λ q k h x y z u v. row_late q k h (omega arith) y (λ e. omega arith);
      headers = λ q k h u x y. row_late q k h (omega arith) (omega arith) (λ e. omega arith);
      ranks = λ a x y. o.only a (λ b c. omega arith) ∙ r.only.contests a x (omega arith);
      leaves = λ a x y. o.only a (λ b c. omega arith) ∙ r.only.leaves a (omega arith) y;
      linked = λ q h e. live_used m₄ n q (live₄ winner q (winner_is q h e));
      canonical = λ q h e. live_used m₄ n q (live₄ canonical q (canonical_is₄ q h e));
      parents = parent₄;
      listless = listless_same m₂ m₄ n s₂.laid (λ q h. row_late q 63 h (omega arith) (omega arith) (λ e. omega arith)) (λ j h. o.only (nodes n 4 + j) (λ b c. omega arith) ∙ r.only.leaves (nodes n 4 + j) (omega arith) (omega arith));
    }

    whole₄ : WholeAt m₄ n
    whole₄ = record {
      sound = sound₄;
      treed = treed_frame m₂ m₄ n s₂.laid settled₂.treed words₄;
      idle = idle_kept m₂ m₄ n s₂.laid (λ j h. o.only (nodes n 2 + j) (λ x y. omega arith) ∙ r.only.contests (nodes n 2 + j) (omega arith) (omega arith)) (λ q h. row_late q 59 h (omega arith) (omega arith) (λ e. omega arith)) settled₂.pends;
      run = run₄;
    }

  pub sync_done : Syncs m m₄ n
  sync_done = record { right = λ w. record { whole = whole₄ w; state = view₄ w } }

-- ---- the head, and the whole memory ----

pub noted : (m m₁ m₂ : List ℕ) → 64 ≤ length m → Four m m₁ 6 0 1 1 (word m 2) → Stored m₁ m₂ 10 (word m 3) → Noted m m₂
noted m m₁ m₂ h f s =
    let l = f.long in
    record {
      loading = stored_other s 6 (λ e. omega arith) ∙ at 0 (omega arith);
      fresh = stored_other s 7 (λ e. omega arith) ∙ at 1 (omega arith);
      synced = stored_other s 8 (λ e. omega arith) ∙ at 2 (omega arith);
      generation = stored_other s 9 (λ e. omega arith) ∙ at 3 (omega arith);
      version = stored_same s (omega arith);
      only = λ i x. stored_other s i (λ e. x (omega arith) (omega arith)) ∙ f.only i (λ y z. x y (omega arith));
      long = stored_long s ∙ l;
    }
  where
    at : (i : ℕ) → i < 4 → word m₁ (6 + i) ≡ quad 0 1 1 (word m 2) i
    at i h = (let z = lt-ltb i 4 h in let e : seg m₁ 6 4 i ≡ quad 0 1 1 (word m 2) i = ap (λ (g : ℕ → ℕ). g i) f.is in rw z at e)

pub sync_whole : (m m' : List ℕ) (n : ℕ) → (Laid m (word m 0) → n ≡ word m 0) → Syncs m m' n → Keeps sync m m' 0
sync_whole m m' n e s = record {
  refused = λ ne. absurd (ne refl);
  right = λ w.
      let i : n ≡ word m 0 = e w.sound.laid in
      let t = s.right (subst (WholeAt m) (sym i) w) in
      let i' : n ≡ word m' 0 = sym t.whole.sound.laid.room in
      record {
        number_is = never m;
        whole = subst (WholeAt m') i' t.whole;
        state = subst (λ (z : ℕ). view_at m' z ≡ step sync (view_at m (word m 0))) i' (subst (λ (z : ℕ). view_at m' n ≡ step sync (view_at m z)) i t.state);
      };
}
  where
    never : (m : List ℕ) → 0 ≡ number sync (view m)
    never m = number-sync (view m)

pub sync_nowhere : (m : List ℕ) (n r : ℕ) → (Laid m (word m 0) → n ≡ word m 0) → n ≡ 0 → Keeps sync m m r
sync_nowhere m n r e z = record { refused = λ _. refl; right = λ w. let i = e w.sound.laid in let o = w.sound.laid.some in absurd (omega arith) }
