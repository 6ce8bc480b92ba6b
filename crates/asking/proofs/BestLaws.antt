-- Best and canonical best: the champion of a contest of ranks is the model's best, and in a fresh tree it is live and shows its block.
use mathlib.Core.Path.{◌≡◌, refl, sym, ap, ◌∙◌}
use mathlib.Core.Bool.{Bool, true, false, ◌&&◌}
use mathlib.Core.List.{List}
use mathlib.Core.Option.{Option, none, some}
use Prim.Native.Nat.{ℕ, ◌+◌, ◌≤◌, ◌<◌}
use native.Mathlib.Omega.{arith}
use lib.Dec.{eqb, ltb}
use borrow.Author.Tests.{eq-eqb, ltb-true, ltb-false, lt-ltb}
use Rattle.amount.specs.Choose.{◌if◌else◌}
use Rattle.amount.specs.Value.{from_words}
use Rattle.model.specs.Places.{then_by}
use Rattle.model.specs.Record.{Block, Copy}
use Rattle.model.specs.Holding.{Cell, free, held, Holdings, effective, copy_is_live, is_live, hash_of, index_of}
use Rattle.model.specs.Standing.{Spine, winner, canonical, Value, unlinked, is_linked, work_of, value_at, outranks, best}
use Rattle.model.specs.Questions.{Reply, shown, worth, tip, counted, listed, as_block, block_at, live_at}
use Rattle.model.proofs.Tools.{by_bool, by_option, no_both, no_none, or_left, or_right, pick_some, pick-none}
use Rattle.model.proofs.Order.{best-outranks}
use Rattle.model.proofs.WalkLaws.{linked_alive}
use Rattle.model.proofs.Upheld.{upheld}
use Rattle.block.specs.Words.{header_of}
use Rattle.memory.specs.Words.{word, seg}
use Rattle.memory.specs.Layout.{row}
use Rattle.rows.specs.Rows.{header_at, value_of}
use Rattle.rows.specs.Rows as rows
use Rattle.contest.specs.Tree.{WF, Champion}
use Rattle.contest.specs.Keys as keys
use Rattle.contest.specs.Keys.{enters, work_word, work_at}
use Rattle.contest.specs.Contests as contest
use Rattle.contest.proofs.Uses.{is_in_lem, nobody, none_outranks}
use Rattle.state.specs.View.{cells_of, values_of, view_at}
use Rattle.state.specs.Sound.{Used, SoundAt, placed}
use Rattle.state.proofs.FindLaws.{used_is, placed_in, placed_out}
use Rattle.pending.proofs.NextLaws.{hash_is}
use Rattle.relink.proofs.WorkLaws.{linked_is, canonical_is}
use Rattle.asking.specs.Whole.{WholeAt}
use Rattle.asking.specs.Within.{Tips, Bests, Top, best_of}

-- ---- an order in which two places tie ----

tied : (a b : ℕ) (r s : Bool) → then_by a b r ≡ false → then_by b a s ≡ false → (r ≡ false) × (s ≡ false)
tied a b r s e f =
    let i : b ≤ a = ltb-false a b (or_left (ltb a b) (eqb a b && r) e) in
    let j : a ≤ b = ltb-false b a (or_left (ltb b a) (eqb b a && s) f) in
    let z : a ≡ b = omega arith in
    (rw (eq-eqb a b z) at (or_right (ltb a b) (eqb a b && r) e), rw (eq-eqb b a (sym z)) at (or_right (ltb b a) (eqb b a && s) f))

-- two that neither outranks the other have one hash
tied_hash : (h : Holdings) (v : ℕ → Value) (p q : ℕ) → outranks h v p q ≡ false → outranks h v q p ≡ false → hash_of (h.cells p) ≡ hash_of (h.cells q)
unfolding outranks
tied_hash h v p q e f =
    let k = tied (work_of (v q)) (work_of (v p)) (then_by (index_of (h.cells q)) (index_of (h.cells p)) (ltb (hash_of (h.cells p)) (hash_of (h.cells q)))) (then_by (index_of (h.cells p)) (index_of (h.cells q)) (ltb (hash_of (h.cells q)) (hash_of (h.cells p)))) e f in
    let l = tied (index_of (h.cells q)) (index_of (h.cells p)) (ltb (hash_of (h.cells p)) (hash_of (h.cells q))) (ltb (hash_of (h.cells q)) (hash_of (h.cells p))) k.0 k.1 in
    omega (arith, ltb-false (hash_of (h.cells p)) (hash_of (h.cells q)) l.0, ltb-false (hash_of (h.cells q)) (hash_of (h.cells p)) l.1)

-- ---- the words of a value ----

value_work : (s : ℕ → ℕ) → is_linked (value_of s) ≡ true → work_of (value_of s) ≡ from_words (s 1) (s 2)
unfolding value_of
value_work s e = by_bool (eqb (s 0) 0) (λ i. no_both false (rw i at e) refl) (λ i. rw i)

index_is : (m : List ℕ) (n p : ℕ) → p < n → Used m p → index_of (cells_of m n p) ≡ word m (row p + 12)
unfolding header_at header_of
index_is m n p l u = ap index_of (used_is m n p l u) ∙ ap (word m) (omega arith)

pub value_in : (m : List ℕ) (n p : ℕ) (w : Spine) → p < n → values_of m n w p ≡ rows.value_at m w p
value_in m n p w l = rw (lt-ltb p n l)

-- ---- the champion is the best ----

module _ (m : List ℕ) (n k : ℕ) (w : Spine) (other : (k ≡ 3 → ⊥) × (k ≡ 2 → ⊥))
    (member : (p : ℕ) → p < n → enters m k p ≡ is_linked (values_of m n w p))
    (work : (p : ℕ) → p < n → enters m k p ≡ true → work_at m (work_word k) p ≡ work_of (values_of m n w p))
    (used : (p : ℕ) → p < n → enters m k p ≡ true → Used m p)
    (s : SoundAt m n) (r : ℕ) (c : Champion n (contest.view m n k) r) where
  pub order_is : (p q : ℕ) → p < n → q < n → enters m k p ≡ true → enters m k q ≡ true → keys.outranking m (work_word k) p q ≡ outranks (view_at m n).holdings (values_of m n w) p q
  unfolding keys.outranking keys.hash_at outranks header_at header_of view_at
  order_is p q lp lq ep eq = rw (work p lp ep, work q lq eq, index_is m n p lp (used p lp ep), index_is m n q lq (used q lq eq), hash_is m n p lp (used p lp ep), hash_is m n q lq (used q lq eq))

  one_place : (p q : ℕ) → p < n → q < n → enters m k p ≡ true → enters m k q ≡ true → hash_of (cells_of m n p) ≡ hash_of (cells_of m n q) → p ≡ q
  one_place p q lp lq ep eq e = s.keys p q lp lq (used p lp ep) (used q lq eq) (sym (hash_is m n p lp (used p lp ep)) ∙ e ∙ hash_is m n q lq (used q lq eq))

  there : r < n → best (view_at m n).holdings (values_of m n w) ≡ some r
  unfolding view_at
  there l =
      let er : enters m k r ≡ true = is_in_lem m n k r c l in
      let lr : is_linked (values_of m n w r) ≡ true = sym (member r l) ∙ er in
      by_option (best (view_at m n).holdings (values_of m n w))
      (λ e. no_both (is_linked (values_of m n w r)) lr (pick-none (λ p. is_linked (values_of m n w p)) (outranks (view_at m n).holdings (values_of m n w)) n r e l))
      (λ p e. let g = pick_some (λ p. is_linked (values_of m n w p)) (outranks (view_at m n).holdings (values_of m n w)) n p e in
      let ep : enters m k p ≡ true = member p g.1 ∙ g.0 in
      e ∙ ap {B = Option ℕ} some
      (one_place p r g.1 l ep er
      (tied_hash (view_at m n).holdings (values_of m n w) p r
      (sym (order_is p r g.1 l ep er) ∙ none_outranks m n k r c other.0 other.1 l p g.1 ep)
      (best-outranks (view_at m n).holdings (values_of m n w) p r e lr l))))

  nowhere : n ≤ r → best (view_at m n).holdings (values_of m n w) ≡ none
  unfolding view_at
  nowhere l =
      by_option (best (view_at m n).holdings (values_of m n w)) (λ e. e)
      (λ p e. let g = pick_some (λ p. is_linked (values_of m n w p)) (outranks (view_at m n).holdings (values_of m n w)) n p e in
      no_both (is_linked (values_of m n w p)) g.0 (sym (member p g.1) ∙ nobody m n k r c l p g.1))

  pub best_is : best (view_at m n).holdings (values_of m n w) ≡ placed n r
  best_is = by_bool (ltb r n) (λ e. let l = ltb-true r n e in there l ∙ sym (placed_in n r l)) (λ e. let l = ltb-false r n e in nowhere l ∙ sym (placed_out n r l))

  best_linked : r < n → is_linked (values_of m n w r) ≡ true
  best_linked l = sym (member r l) ∙ is_in_lem m n k r c l

-- ---- the two contests ----

module _ (m : List ℕ) (n : ℕ) (a : WholeAt m n) where
  pub member_winner : (p : ℕ) → p < n → enters m 0 p ≡ is_linked (values_of m n winner p)
  member_winner p l = linked_is m p ∙ ap is_linked (sym (value_in m n p winner l))

  member_canonical : (p : ℕ) → p < n → enters m 1 p ≡ is_linked (values_of m n canonical p)
  member_canonical p l = canonical_is m p ∙ ap is_linked (sym (value_in m n p canonical l))

  words : (p i : ℕ) → from_words (word m (row p + (i + 1))) (word m (row p + (i + 1 + 1))) ≡ from_words (seg m (row p + i) 3 1) (seg m (row p + i) 3 2)
  words p i = ap (λ (x : ℕ). from_words (word m x) (word m (row p + (i + 1 + 1)))) (omega arith) ∙ ap (λ (x : ℕ). from_words (word m (row p + i + 1)) (word m x)) (omega arith)

  pub work_winner : (p : ℕ) → p < n → enters m 0 p ≡ true → work_at m 57 p ≡ work_of (values_of m n winner p)
  work_winner p l e = words p 56 ∙ sym (value_work (seg m (row p + 56) 3) (sym (linked_is m p) ∙ e)) ∙ ap work_of (sym (value_in m n p winner l))

  work_canonical : (p : ℕ) → p < n → enters m 1 p ≡ true → work_at m 61 p ≡ work_of (values_of m n canonical p)
  work_canonical p l e = words p 60 ∙ sym (value_work (seg m (row p + 60) 3) (sym (canonical_is m p) ∙ e)) ∙ ap work_of (sym (value_in m n p canonical l))

  -- in a fresh tree a linked place is live
  pub alive : (w : Spine) (p : ℕ) → word m 7 ≡ 1 → is_linked (values_of m n w p) ≡ true → is_live (cells_of m n p) ≡ true
  unfolding view_at
  alive w p f e = linked_alive (view_at m n).holdings w (values_of m n w) (upheld a.run (eq-eqb (word m 7) 1 f) w) p e

-- ---- a block with its value ----

abbrev plain_block : Reply → Option Block
plain_block (shown b) = b
plain_block (worth v) = none
plain_block (tip b v) = none
plain_block (counted n) = none
plain_block (listed l) = none

-- a live block is shown
live_block : {P : Type 0} (c : Cell) → is_live c ≡ true → block_at c ≡ none → P
unfolding is_live
live_block free e f = no_both false e refl
live_block (held c) e f = go (effective c) e f
  where
    go : {P : Type 0} (o : Option Copy) → copy_is_live o ≡ true → as_block c o ≡ none → P
    go none e f = no_both false e refl
    go (some k) e f = no_none (as_block c (some k)) f refl

module _ (m : List ℕ) (n p : ℕ) (w : Spine) where
  abbrev Told : Reply → Type 0
  Told y = y ≡ tip (live_at (view_at m n).holdings (placed n p)) (value_at (values_of m n w) (placed n p))

  outside : n ≤ p → Told (tip none unlinked)
  outside l = ap (λ (o : Option ℕ). tip (live_at (view_at m n).holdings o) (value_at (values_of m n w) o)) (sym (placed_out n p l))

  -- no value
  pub tip-unlinked : unlinked ≡ value_at (values_of m n w) (placed n p) → Tips w m n p 0 (tip none unlinked)
  tip-unlinked e = record {
    number_is = refl;
    reply_is = λ i j. by_bool (ltb p n)
        (λ t. let l = ltb-true p n t in no_both (is_linked (values_of m n w p)) (i l) (ap is_linked (ap (value_at (values_of m n w)) (sym (placed_in n p l)) ∙ sym e)))
        (λ t. outside (ltb-false p n t));
  }

  -- no block to show
  pub tip_unshown : shown none ≡ shown (live_at (view_at m n).holdings (placed n p)) → Tips w m n p 0 (tip none unlinked)
  unfolding view_at
  tip_unshown e = record {
    number_is = refl;
    reply_is = λ i j. by_bool (ltb p n)
        (λ t. let l = ltb-true p n t in let x : is_live (cells_of m n p) ≡ true = j l in
        live_block (cells_of m n p) x (ap (λ (b : Bool). block_at (cells_of m n p) if b else none) (sym x) ∙ ap (live_at (view_at m n).holdings) (sym (placed_in n p l)) ∙ sym (ap plain_block e)))
        (λ t. outside (ltb-false p n t));
  }

  pub tip-shown : (b : Block) (v : Value) → shown (some b) ≡ shown (live_at (view_at m n).holdings (placed n p)) → v ≡ value_at (values_of m n w) (placed n p) → Tips w m n p 0 (tip (some b) v)
  tip-shown b v e f = record { number_is = refl; reply_is = λ i j. ap (λ (o : Option Block). tip o v) (ap plain_block e) ∙ ap (tip (live_at (view_at m n).holdings (placed n p))) f }

-- ---- best and canonical best ----

module _ (m : List ℕ) (n p r : ℕ) (y : Reply) where
  told : (w : Spine) → WholeAt m n → word m 7 ≡ 1 → Tips w m n p r y → best (view_at m n).holdings (values_of m n w) ≡ placed n p → (p < n → is_linked (values_of m n w p) ≡ true)
      → y ≡ best_of (view_at m n).holdings (view_at m n).values w
  unfolding view_at
  told w a f t e l = t.reply_is l (λ i. alive m n a w p f (l i)) ∙ ap (λ (o : Option ℕ). tip (live_at (view_at m n).holdings o) (value_at (values_of m n w) o)) (sym e)

  pub best_winner : (WF n (contest.view m n 0) → Champion n (contest.view m n 0) p) → Tips winner m n p r y → Bests winner m n r y
  best_winner c t = record {
    number_is = t.number_is;
    reply_is = λ a f.
        told winner a f t
        (best_is m n 0 winner ((λ e. omega arith), (λ e. omega arith)) (member_winner m n a) (work_winner m n a) a.treed.linked a.sound p (c a.treed.winners))
        (best_linked m n 0 winner ((λ e. omega arith), (λ e. omega arith)) (member_winner m n a) (work_winner m n a) a.treed.linked a.sound p (c a.treed.winners));
  }

  pub best_canonical : (WF n (contest.view m n 1) → Champion n (contest.view m n 1) p) → Tips canonical m n p r y → Bests canonical m n r y
  best_canonical c t = record {
    number_is = t.number_is;
    reply_is = λ a f.
        told canonical a f t
        (best_is m n 1 canonical ((λ e. omega arith), (λ e. omega arith)) (member_canonical m n a) (work_canonical m n a) a.treed.canonical a.sound p (c a.treed.canonicals))
        (best_linked m n 1 canonical ((λ e. omega arith), (λ e. omega arith)) (member_canonical m n a) (work_canonical m n a) a.treed.canonical a.sound p (c a.treed.canonicals));
  }

-- ---- what a plan begins with ----

-- the champion of the contest of a spine is the best; it is linked, and in a fresh tree live
module _ (m : List ℕ) (n p : ℕ) (a : WholeAt m n) (f : word m 7 ≡ 1) where
  pub top_winner : (WF n (contest.view m n 0) → Champion n (contest.view m n 0) p) → Top winner m n p
  top_winner c = record {
    best_is = best_is m n 0 winner ((λ e. omega arith), (λ e. omega arith)) (member_winner m n a) (work_winner m n a) a.treed.linked a.sound p (c a.treed.winners);
    linked = best_linked m n 0 winner ((λ e. omega arith), (λ e. omega arith)) (member_winner m n a) (work_winner m n a) a.treed.linked a.sound p (c a.treed.winners);
    live = λ l. alive m n a winner p f (best_linked m n 0 winner ((λ e. omega arith), (λ e. omega arith)) (member_winner m n a) (work_winner m n a) a.treed.linked a.sound p (c a.treed.winners) l);
  }

  pub top_canonical : (WF n (contest.view m n 1) → Champion n (contest.view m n 1) p) → Top canonical m n p
  top_canonical c = record {
    best_is = best_is m n 1 canonical ((λ e. omega arith), (λ e. omega arith)) (member_canonical m n a) (work_canonical m n a) a.treed.canonical a.sound p (c a.treed.canonicals);
    linked = best_linked m n 1 canonical ((λ e. omega arith), (λ e. omega arith)) (member_canonical m n a) (work_canonical m n a) a.treed.canonical a.sound p (c a.treed.canonicals);
    live = λ l. alive m n a canonical p f (best_linked m n 1 canonical ((λ e. omega arith), (λ e. omega arith)) (member_canonical m n a) (work_canonical m n a) a.treed.canonical a.sound p (c a.treed.canonicals) l);
  }
