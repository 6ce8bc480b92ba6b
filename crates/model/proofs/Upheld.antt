-- In a fresh tree what is linked is linked by the rule, with no premise on answers: a later ineligible answer alone is what a value may not have seen.
use Prim.Native.Nat.{ℕ, ◌≤◌}
use mathlib.Core.Path.{◌≡◌, refl, sym, ◌∙◌, ap}
use mathlib.Core.Bool.{Bool, true, false, cond, not, ◌&&◌}
use mathlib.Core.Option.{Option, none, some}
use mathlib.Core.List.{List, []}
use native.Mathlib.Omega.{arith}
use lib.Dec.{eqb, ltb}
use borrow.Author.Tests.{eqb-true, eqb-false, ne_eqb, ltb-true, ltb-false, lt-ltb}
use Rattle.model.specs.Places.{first, put_at}
use Rattle.model.specs.Lists.{elem}
use Rattle.model.specs.Holding.{Answer, Cell, free, held, Holdings, set_answer, answered, is_free, is_held, is_live, released, release, with_cells, place_of, take_answer, touch, store_of, keep, drop, has_copy, empty, index_of, answer_of}
use Rattle.model.specs.Standing.{Spine, winner, canonical, Value, unlinked, linked, Values, is_linked, standing, names, parent, value_at}
use Rattle.model.specs.Relink.{goes_before, Pending, work_out, worked, moves, follows, after, next, settled, changed_in, relinked}
use Rattle.model.specs.Numbers.{State, Call, load, put, remove, answer, reload, sync, number, stale, changes, effect, step}
use Rattle.model.specs.Runs.{New, Run, start, call, new_of}
use Rattle.model.proofs.Tools.{by_bool, by_option, no_both, no_none, or_left, or_right, first_some, first_none, first_only, first_nowhere, pick-none}
use Rattle.model.proofs.Order.{next_least}
use Rattle.model.proofs.Turn.{named, named_some, names_index, names_other, follows_named, follows_free, worked_here, worked_there, worked_idle}
use Rattle.model.proofs.Parent.{Distinct, named_one, parent_value}
use Rattle.model.proofs.FromNothing.{names-free, dead_unheld, rule_holds}
use Rattle.model.proofs.Demand3.{canonical_values}
use Rattle.model.proofs.Cells.{changed_head, answered-head, written-named}
use Rattle.model.proofs.Invariant.{Inv, After, Blank, CanonicalOnly, any_time, after_keep, after_drop, before, changed_less, changed_free, live_free, changes_cells}
use Rattle.model.proofs.Settled.{settled_induction}
use Rattle.model.proofs.WalkLaws.{allowed, allowed_live, standing-allowed, linked_live, Upheld, ruled_upheld}

-- by the place named, live or not
abbrev pub Loose : Holdings → (ℕ → Value) → ℕ → Type 0
Loose h v p = is_linked (v p) ≡ true → v p ≡ standing winner (allowed (h.cells p)) (value_at v (named h p))

-- what is not live is not linked
pub loose_dead : (h : Holdings) (v : ℕ → Value) (p : ℕ) → Loose h v p → is_live (h.cells p) ≡ false → v p ≡ unlinked
loose_dead h v p k d = go (v p) refl
  where
    go : (x : Value) → v p ≡ x → v p ≡ unlinked
    go unlinked e = e
    go (linked w ok) e = let l : is_linked (v p) ≡ true = rw e in no_both (is_live (h.cells p)) (sym (allowed_live (h.cells p)) ∙ linked_live winner (allowed (h.cells p)) (value_at v (named h p)) (rw (← k l) l)) d

-- ---- one turn ----

module _ (h : Holdings) (distinct : Distinct h) where
  module _ (v : Values) (pend : Pending) (p : ℕ) (turn : next h pend ≡ some p) (k : (q : ℕ) → pend q ≡ false → Loose h (v winner) q) where
    -- the place that p names has no value unless it is live: a dead one that is pending would go first
    named-unlinked : is_live (h.cells p) ≡ true → (r : ℕ) → named h p ≡ some r → is_live (h.cells r) ≡ false → v winner r ≡ unlinked
    unfolding goes_before
    named-unlinked l r n d = by_bool (pend r) (λ b. no_both (goes_before (h.cells r) (h.cells p)) (rw (l, d) (rw (lt-ltb 0 (index_of (h.cells p)) (omega (arith, names_index (h.cells p) (h.cells r) (named_some h p r n).0))))) (next_least h pend p r turn b (named_some h p r n).1)) (λ b. loose_dead h (v winner) r (k r b) d)

    loose_turn : (q : ℕ) → after h v p pend q ≡ false → Loose h (worked h v p winner) q
    unfolding after work_out
    loose_turn q e = by_bool (eqb q p) (λ i. rw (eqb-true q p i) own) there
      where
        -- the values at the place that a place names stay, but where that is p
        stays : (q : ℕ) → (named h q ≡ some p → ⊥) → value_at (v winner) (named h q) ≡ value_at (worked h v p winner) (named h q)
        stays q n = by_option (named h q) (λ m. rw m) (λ r m. rw m (sym (worked_there h v p winner r (ne_eqb r p (λ z. n (rw z at m))))))

        own : Loose h (worked h v p winner) p
        own l =
            let l' : is_linked (standing winner (h.cells p) (value_at (v winner) (parent h p))) ≡ true = rw (worked_here h v p winner) at l in
            let lv : is_live (h.cells p) ≡ true = linked_live winner (h.cells p) (value_at (v winner) (parent h p)) l' in
            worked_here h v p winner ∙ standing-allowed winner (h.cells p) (value_at (v winner) (parent h p)) l' ∙ ap (standing winner (allowed (h.cells p))) (parent_value h distinct (v winner) p (named-unlinked lv) ∙ stays p (λ n. eqb-false p p (names_other h p p (named_some h p p n).0) refl))

        there : eqb q p ≡ false → Loose h (worked h v p winner) q
        there i l =
            let l' : is_linked (v winner q) ≡ true = rw (worked_there h v p winner q i) at l in
            let kq : Loose h (v winner) q = k q (and_no (pend q) (rw i at (or_left (pend q && not (eqb q p)) (moves h v p && follows (h.cells p) (h.cells q)) e))) in
            worked_there h v p winner q i ∙ kq l' ∙ ap (standing winner (allowed (h.cells q))) (by_option (named h q) (λ n. stays q (λ m. no_none (named h q) n m)) (λ r n. by_bool (eqb r p) (λ j. at_p (n ∙ ap {B = Option ℕ} some (eqb-true r p j)) l' kq) (λ j. stays q (λ m. let z : r ≡ p = cc in eqb-false r p j z))))
          where
            and_no : (b : Bool) → (b && true) ≡ false → b ≡ false
            and_no true e = e
            and_no false e = refl

            -- q names p: if p's value moved, q is not live, or it would be pending
            at_p : named h q ≡ some p → is_linked (v winner q) ≡ true → Loose h (v winner) q → value_at (v winner) (named h q) ≡ value_at (worked h v p winner) (named h q)
            at_p n l kq = by_bool (moves h v p) (λ m. let d : is_live (h.cells q) ≡ false = sym (follows_named (h.cells q) (h.cells p) (named_some h q p n).0) ∙ (rw m at (or_right (pend q && not (eqb q p)) (moves h v p && follows (h.cells p) (h.cells q)) e)) in no_both (is_linked (v winner q)) l (rw (loose_dead h (v winner) q kq d))) (λ m. rw (worked_idle h v p m))

  -- ---- all turns ----

  record Going (v : Values) (pend : Pending) : Type 0 where
    loose : (q : ℕ) → pend q ≡ false → Loose h (v winner) q
    roomy : (q : ℕ) → is_free (h.cells q) ≡ true → pend q ≡ false

  roomy_turn : (v : Values) (pend : Pending) (p : ℕ) → ((q : ℕ) → is_free (h.cells q) ≡ true → pend q ≡ false) → (q : ℕ) → is_free (h.cells q) ≡ true → after h v p pend q ≡ false
  unfolding after
  roomy_turn v pend p k q e = rw (k q e, follows_free (h.cells p) (h.cells q) e) (and_no (moves h v p))
    where
      and_no : (b : Bool) → (b && false) ≡ false
      and_no true = refl
      and_no false = refl

  settled_loose : ((q : ℕ) → h.room ≤ q → is_free (h.cells q) ≡ true) → (v : Values) (pend : Pending) → Going v pend → (q : ℕ) → Loose h (settled h v pend winner) q
  settled_loose wide = settled_induction h Going (λ u. (q : ℕ) → Loose h (u winner) q)
      (λ v pend g e q. by_bool (ltb q h.room) (λ i. g.loose q (pick-none pend (λ p q. goes_before (h.cells p) (h.cells q)) h.room q e (ltb-true q h.room i))) (λ i. g.loose q (g.roomy q (wide q (ltb-false q h.room i)))))
      (λ v pend p g e. record { loose = loose_turn v pend p e g.loose; roomy = roomy_turn v pend p g.roomy })

  -- ---- freed room ----

  module _ (v : ℕ → Value) (loose : (p : ℕ) → Loose h v p) where
    dead : (p : ℕ) → is_live (h.cells p) ≡ false → v p ≡ unlinked
    dead p d = loose_dead h v p (loose p) d

    release_below : (p : ℕ) → is_held (h.cells p) ≡ true → value_at v (named h p) ≡ value_at v (named (release h) p)
    unfolding release named
    release_below p here = rw here (by_option (named h p) nobody somebody)
      where
        is : ℕ → Bool
        is q = names (h.cells p) (released (h.cells q))

        is_names : (q : ℕ) → is q ≡ true → (names (h.cells p) (h.cells q) ≡ true) × (is_held (h.cells q) ≡ true)
        is_names q m = by_bool (is_held (h.cells q)) (λ i. (rw i at m, i)) (λ i. no_both (names (h.cells p) free) (rw i at m) (names-free (h.cells p)))

        nobody : named h p ≡ none → value_at v (named h p) ≡ value_at v (first is h.room)
        nobody n = by_option (first is h.room) (λ i. rw (n, i)) (λ q i. let g = first_some is h.room q i in no_both (names (h.cells p) (h.cells q)) (is_names q g.0).0 (first_none (λ q. names (h.cells p) (h.cells q)) h.room q n g.1))

        somebody : (r : ℕ) → named h p ≡ some r → value_at v (named h p) ≡ value_at v (first is h.room)
        somebody r n = by_bool (is_held (h.cells r)) (λ i. let g : first is h.room ≡ some r = first_only is h.room r (rw i m) (named_some h p r n).1 (λ q k. named_one h distinct p q r (is_names q k).0 m) in rw (n, g)) (λ i. let g : first is h.room ≡ none = first_nowhere is h.room (λ q. by_bool (is q) (λ k. no_both (is_held (h.cells q)) (is_names q k).1 (rw (named_one h distinct p q r (is_names q k).0 m) i)) (λ k. k)) in rw (n, g) (dead r (dead_unheld (h.cells r) i)))
          where
            m : names (h.cells p) (h.cells r) ≡ true
            m = (named_some h p r n).0

    release_loose : (p : ℕ) → Loose (release h) v p
    unfolding release
    release_loose p l = by_bool (is_held (h.cells p)) (λ i. rw i (loose p l ∙ ap (standing winner (allowed (h.cells p))) (release_below p i))) (λ i. no_both (is_linked (v p)) l (rw (dead p (dead_unheld (h.cells p) i))))

    -- with the parent in place of the place named
    loose_upheld : Upheld h winner v
    loose_upheld p l = loose p l ∙ ap (standing winner (allowed (h.cells p))) (sym (parent_value h distinct v p (λ r n d. dead r d)))

-- ---- every call ----

abbrev HeldUp : State → Type 0
HeldUp s = (l : List ℕ) → changes s ≡ some l → (p : ℕ) → changed_in l (s.holdings.cells p) ≡ false → Loose s.holdings (s.values winner) p

allowed_again : (a : Answer) (c : Cell) → allowed (answered a c) ≡ allowed c
unfolding answered set_answer
allowed_again a free = refl
allowed_again a (held c) = refl

module _ (s : State) (new : New) (inv : Inv CanonicalOnly s new) (k : HeldUp s) where
  blank_loose : (l : List ℕ) → changes s ≡ some l → Blank s.holdings (s.values winner)
  blank_loose l e p f = loose_dead s.holdings (s.values winner) p (k l e p (changed_free l (s.holdings.cells p) f)) (live_free (s.holdings.cells p) f)

  -- a put and an effective removal
  touched_loose : (x : ℕ) (cells : ℕ → Cell) → After x s.holdings (with_cells s.holdings cells) → HeldUp (stale s (touch x (with_cells s.holdings cells)))
  unfolding touch named
  touched_loose x cells written l e p c n =
      let b = before CanonicalOnly s new inv x cells written l e in
      let d = changed_less x l b.0 b.2 (cells p) c in
      let same : cells p ≡ s.holdings.cells p = written.other p d.1 in
      k b.0 b.1 p (rw same at d.0) n ∙ ap (standing winner (allowed (s.holdings.cells p))) (written.below (s.values winner) (blank_loose b.0 b.1) p d.1) ∙ ap (λ (c : Cell). standing winner (allowed c) (value_at (s.values winner) (named (with_cells s.holdings cells) p))) (sym same)

  answer_loose : (x a : ℕ) → HeldUp (effect (answer x a) s)
  unfolding effect take_answer
  answer_loose x a = by_option (place_of s.holdings x) (λ n. rw n k) (λ p n. rw n (at p))
    where
      at : (p : ℕ) → HeldUp (record { holdings = with_cells s.holdings (put_at s.holdings.cells p (answered (answer_of a) (s.holdings.cells p))); values = s.values; synced = s.synced; fresh = s.fresh })
      at p l e q d n = rw (same_allowed, written-named s.holdings p (answered (answer_of a) (s.holdings.cells p)) (answered-head (answer_of a) (s.holdings.cells p)) q) (k l (sym (changes_cells s.holdings (put_at s.holdings.cells p (answered (answer_of a) (s.holdings.cells p))) s.synced) ∙ e) q (sym same_changed ∙ d) n)
        where
          same_allowed : allowed (put_at s.holdings.cells p (answered (answer_of a) (s.holdings.cells p)) q) ≡ allowed (s.holdings.cells q)
          same_allowed = by_bool (eqb q p) (λ i. let z : q ≡ p = eqb-true q p i in rw (i, z) (allowed_again (answer_of a) (s.holdings.cells p))) (λ i. rw i)

          same_changed : changed_in l (put_at s.holdings.cells p (answered (answer_of a) (s.holdings.cells p)) q) ≡ changed_in l (s.holdings.cells q)
          same_changed = by_bool (eqb q p) (λ i. let z : q ≡ p = eqb-true q p i in rw (i, z) (changed_head l (answered (answer_of a) (s.holdings.cells p)) (s.holdings.cells p) (answered-head (answer_of a) (s.holdings.cells p)))) (λ i. rw i)

  sync_loose : HeldUp (effect sync s)
  unfolding effect relinked
  sync_loose l e p c = release_loose s.holdings inv.distinct (relinked s.holdings s.values (changes s) winner) (by_option (changes s) (λ n. rw n (settled_loose s.holdings inv.distinct inv.wide (λ w p. unlinked) (λ p. is_live (s.holdings.cells p)) (record { loose = λ q d l. no_both false l refl; roomy = λ q f. live_free (s.holdings.cells q) f }))) (λ m n. rw n (settled_loose s.holdings inv.distinct inv.wide s.values (λ p. changed_in m (s.holdings.cells p)) (record { loose = k m n; roomy = λ q f. changed_free m (s.holdings.cells q) f })))) p

  -- an accepted call; where the next sync rebuilds nothing is claimed
  accepted_loose : (c : Call) → ((effect c s).holdings.loading ≡ true → changes (effect c s) ≡ none) → number c s ≡ 0 → HeldUp (effect c s)
  unfolding effect keep drop number empty
  accepted_loose (load n b) opening e = λ l i. no_none (changes (effect (load n b) s)) (opening (open_now s.holdings.loading _ e)) i
    where
      open_now : (t : Bool) (n : ℕ) → cond (not t) 7 n ≡ 0 → t ≡ true
      open_now true n e = refl
      open_now false n e = absurd (omega arith)
  accepted_loose (put n b) opening e = touched_loose b.header.hash _ (after_keep (store_of n) b s.holdings inv.wide)
  accepted_loose (remove n x) opening e = by_bool (has_copy (store_of n) x s.holdings) (λ i. rw i (touched_loose x _ (after_drop (store_of n) x s.holdings))) (λ i. rw i k)
  accepted_loose (answer x a) opening e = answer_loose x a
  accepted_loose (reload g v) opening e = λ l i. no_none (changes (effect (reload g v) s)) (opening refl) i
  accepted_loose sync opening e = sync_loose

run_loose : {s : State} → Run s → HeldUp s
unfolding step
run_loose (start room journal_room generation version) = λ l e. no_none none refl e
run_loose (call c {s} r) = one (any_time r) (run_loose r) (any_time (call c r)).opening
  where
    one : Inv CanonicalOnly s (new_of r) → HeldUp s → ((step c s).holdings.loading ≡ true → changes (step c s) ≡ none) → HeldUp (step c s)
    one inv k opening = by_bool (eqb (number c s) 0) (λ e. rw e (accepted_loose s (new_of r) inv k c (rw e at opening) (eqb-true (number c s) 0 e))) (λ e. rw e k)

not_changed : (c : Cell) → changed_in [] c ≡ false
unfolding changed_in elem
not_changed free = refl
not_changed (held c) = refl

-- in a fresh tree, of any run, what is linked is linked by the rule
pub upheld : {s : State} (r : Run s) → s.fresh ≡ true → (w : Spine) → Upheld s.holdings w (s.values w)
upheld {s} r f winner = loose_upheld s.holdings (any_time r).distinct (s.values winner) (λ p. run_loose r [] ((any_time r).current f) p (not_changed (s.holdings.cells p)))
upheld {s} r f canonical = ruled_upheld s.holdings canonical (s.values canonical) (rw (canonical_values r f) (rule_holds s.holdings canonical))
