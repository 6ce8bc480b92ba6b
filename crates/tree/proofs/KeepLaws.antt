-- Every call leaves a whole memory: start and reload an empty one; load, put, removal and answer leave what a sync keeps as it was.
use mathlib.Core.Path.{◌≡◌, refl, sym, ap, ◌∙◌, subst}
use mathlib.Core.Bool.{true, false, ◌&&◌}
use mathlib.Core.List.{List}
use Prim.Native.Nat.{ℕ, ◌+◌, ◌<◌}
use native.Mathlib.Omega.{arith}
use lib.Dec.{eqb, leb}
use borrow.Author.Tests.{eqb-true, eqb-false, le-ltb}
use Rattle.model.specs.Holding.{store_of, has_copy, keep, drop, touch, take_answer, release, empty}
use Rattle.model.specs.Numbers.{State, Call, load, put, remove, answer, reload, sync, number, step, effect}
use Rattle.model.specs.Runs.{Run, start, call}
use Rattle.model.proofs.Tools.{by_bool, no_both}
use Rattle.model.proofs.Sums.{sum_none}
use Rattle.memory.specs.Words.{word}
use Rattle.memory.specs.Layout.{nodes, leaves_at, Laid}
use Rattle.roster.specs.Dense.{inside}
use Rattle.roster.specs.Roster.{size_at, position_at, is_in, WellFormed}
use Rattle.state.specs.View.{view, view_at}
use Rattle.state.specs.Moves.{Apart, Done}
use Rattle.clearing.specs.Blank.{Blank}
use Rattle.clearing.specs.Calls.{Starts, Reloads}
use Rattle.pending.specs.Pending.{Pends}
use Rattle.kin.specs.Kin.{linked_at, up_at}
use Rattle.relink.specs.Treed.{Treed, TreedWords}
use Rattle.relink.proofs.TreedLaws.{treed_frame, parent_used, listless_same}
use Rattle.asking.specs.Whole.{Whole}
use Rattle.tree.specs.Calls.{Keeps}
use Rattle.tree.proofs.SyncLaws.{idle_kept}

-- ---- an empty memory ----

module _ (m : List ℕ) (n : ℕ) (b : Blank m n) where
  unlinked_all : (q : ℕ) → q < n → linked_at m q ≡ false
  unlinked_all q h = b.members 0 q (omega arith) (λ e. omega arith) h

  no_leaf : size_at m n 14 ≡ 0
  unfolding size_at
  no_leaf = let e = b.leaves in by_bool (leb (word m 14) n) (λ i. rw (i, e)) (λ i. rw i)

  leaves : WellFormed m n (leaves_at n) 14 130
  leaves = let e = no_leaf in record { few = omega arith; below = λ i h. absurd (omega arith); stands = λ i h. absurd (omega arith) }

  unlisted_all : (q : ℕ) → is_in m n (leaves_at n) 14 130 q ≡ false
  unfolding inside
  unlisted_all q = let e = no_leaf in rw (e, le-ltb (position_at m 130 q) 0 (omega arith))

  blank_treed : Treed m n
  blank_treed = record {
    winners = b.trees 0 (omega arith) (λ e. omega arith);
    canonicals = b.trees 1 (omega arith) (λ e. omega arith);
    kin = record {
      counts = λ q h. b.rows q 64 h (omega arith) ∙ sym (sum_none (λ p. linked_at m p && eqb (up_at m p) q) n (λ p l. let e = unlinked_all p l in rw e));
      roster = leaves;
      leaf = λ q h. unlisted_all q ∙ (let e = unlinked_all q h in rw e);
    };
    linked = λ p h e. no_both true refl (sym e ∙ unlinked_all p h);
    canonical = λ p h e. no_both true refl (sym e ∙ b.members 1 p (omega arith) (λ e. omega arith) h);
    above = λ p h e. no_both true refl (sym e ∙ unlinked_all p h);
    listless = record { tree = b.trees 4 (omega arith) (λ e. omega arith); none = λ q h. b.members 4 q (omega arith) (λ e. omega arith) h };
  }

  blank_idle : Pends m n (λ q. false)
  blank_idle = record {
    tree = b.trees 2 (omega arith) (λ e. omega arith);
    members = λ q h. b.members 2 q (omega arith) (λ e. omega arith) h;
    turns = λ q h e. no_both false e refl;
    used = λ q h e. no_both false e refl;
  }

pub start_whole : (n j g v : ℕ) (m m' : List ℕ) → Starts n j g v m m' 0 → Whole m'
start_whole n j g v m m' s = record {
  sound = s.sound refl;
  treed = blank_treed m' (word m' 0) (s.blank refl);
  idle = blank_idle m' (word m' 0) (s.blank refl);
  run = subst Run (sym (s.state refl)) (start n j g v);
}

pub reload_keeps : (g v : ℕ) (m m' : List ℕ) (r : ℕ) → Reloads g v m m' r → Keeps (reload g v) m m' r
reload_keeps g v m m' r k = record {
  refused = k.refused;
  right = λ w. record { number_is = (k.right w.sound).number_is; whole = whole w; state = (k.right w.sound).state };
}
  where
    emptied : Whole m → r ≡ 0 → Whole m'
    emptied w e = record {
      sound = (k.right w.sound).sound;
      treed = blank_treed m' (word m' 0) (k.blank e);
      idle = blank_idle m' (word m' 0) (k.blank e);
      run = subst Run (sym (k.right w.sound).state) (call (reload g v) w.run);
    }

    whole : Whole m → Whole m'
    whole w = by_bool (eqb r 0) (λ e. emptied w (eqb-true r 0 e)) (λ e. subst Whole (sym (k.refused (eqb-false r 0 e))) w)

-- ---- what a sync keeps is as it was ----

room_effect : (c : Call) (s : State) → (effect c s).holdings.room ≡ s.holdings.room
unfolding effect keep touch drop take_answer empty release
room_effect (load k b) s = refl
room_effect (put k b) s = refl
room_effect (remove k x) s = by_bool (has_copy (store_of k) x s.holdings) (λ e. rw e) (λ e. rw e)
room_effect (answer x a) s = refl
room_effect (reload g v) s = refl
room_effect sync s = refl

room_step : (c : Call) (s : State) → (step c s).holdings.room ≡ s.holdings.room
unfolding step
room_step c s = by_bool (eqb (number c s) 0) (λ e. rw e (room_effect c s)) (λ e. rw e)

room_is : (m : List ℕ) (n : ℕ) → (view_at m n).holdings.room ≡ n
unfolding view_at
room_is m n = refl

module _ (m m' : List ℕ) (n : ℕ) (a : Apart m m' n) (t : Treed m n) where
  apart_words : Laid m n → TreedWords m m' n
  apart_words laid = record {
    long = a.long;
    size = a.leaf_count;
    rows = λ q k h x y z u v. a.rows q k h x y;
    headers = a.headers;
    ranks = λ i x y. a.contests i x (omega arith);
    leaves = λ i x y. a.leaves i (omega arith) y;
    linked = λ q h e. a.used q h (t.linked q h e);
    canonical = λ q h e. a.used q h (t.canonical q h e);
    parents = λ q h e l. a.used (up_at m q) l (parent_used m n t q h e l);
    listless = listless_same m m' n laid (λ q h. a.rows q 63 h (omega arith) (omega arith)) (λ j h. a.leaves (nodes n 4 + j) (omega arith) (omega arith));
  }

  apart_idle : Laid m n → Pends m n (λ q. false) → Pends m' n (λ q. false)
  apart_idle laid p = idle_kept m m' n laid (λ j h. a.contests (nodes n 2 + j) (omega arith) (omega arith)) (λ q h. a.rows q 59 h (omega arith) (omega arith)) p

pub done_keeps : (c : Call) (m m' : List ℕ) (r : ℕ) → Done c m m' r → Keeps c m m' r
done_keeps c m m' r d = record {
  refused = d.refused;
  right = λ w. record { number_is = (d.right w.sound).number_is; whole = whole w; state = (d.right w.sound).state };
}
  where
    whole : Whole m → Whole m'
    whole w =
        let k = d.right w.sound in
        let e : word m' 0 ≡ word m 0 = sym (room_is m' (word m' 0)) ∙ ap (λ (s : State). s.holdings.room) k.state ∙ room_step c (view m) ∙ room_is m (word m 0) in
        let a = d.apart w.sound in
        record {
          sound = k.sound;
          treed = subst (Treed m') (sym e) (treed_frame m m' (word m 0) w.sound.laid w.treed (apart_words m m' (word m 0) a w.treed w.sound.laid));
          idle = subst (λ (n : ℕ). Pends m' n (λ q. false)) (sym e) (apart_idle m m' (word m 0) a w.treed w.sound.laid w.idle);
          run = subst Run (sym k.state) (call c w.run);
        }
