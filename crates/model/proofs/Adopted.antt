-- After an adopt that accepts an extension, the canonical blocks are the walk of its safe tip and no others; after one that accepts none they are as before.
use Prim.Native.Nat.{ℕ, suc, ◌<◌}
use mathlib.Core.Path.{◌≡◌, refl, sym, ◌∙◌, ap}
use mathlib.Core.Bool.{Bool, true, false, cond, not, ◌&&◌, ◌||◌}
use mathlib.Core.Option.{Option, none, some}
use mathlib.Core.List.{List, [], ◌∷◌, ◌++◌, reverse}
use native.Mathlib.Omega.{arith}
use lib.ListN.{length}
use lib.Dec.{eqb, ltb}
use borrow.Author.Tests.{eqb-true, eqb-false, eq-eqb, ne_eqb, ltb-true, ltb-false, le-ltb}
use Rattle.model.specs.Lists.{elem, those, front, last, each}
use Rattle.model.specs.Record.{Reason, stale_fork, Copy}
use Rattle.model.specs.Holding.{Cell, free, held, copy_is_canonical, is_live, is_canonical}
use Rattle.model.specs.Standing.{winner, canonical, outranks, best, is_leaf, canonical_count}
use Rattle.model.specs.Comparing.{Comparison, choose_verified, is_adopted}
use Rattle.model.specs.Walks.{Asked, index, is_canon, covers_at, walk_of, above}
use Rattle.model.specs.Writes.{Change, promote, orphan, changed, Write, after_all, copy_of, copy_after, entries, Plan, scan, apply}
use Rattle.model.specs.Select.{on}
use Rattle.model.specs.Adopt.{leaves_of, ancestor, extension, safe_front, ours, peers, Verdict, pass_on, refused, accepted, floor_refuses, is_stale, refusal, rival, acceptance, decided, judge_safe, judge_above, judge, then, search_leaves, adopt_from, adopt}
use Rattle.model.specs.Numbers.{State}
use Rattle.model.specs.Plans.{records_after, adopt_c, asked, plan_reply, cell_with}
use Rattle.model.specs.Runs.{Run}
use lib.IntN.{ℤ}
use Rattle.model.proofs.Tools.{by_bool, by_option, no_both, not_is_true, elem-reverse}
use Rattle.model.proofs.ListLaws.{elem_head, elem-front, elem_rev, elem-those, front-find}
use Rattle.model.proofs.WalkLaws.{Upheld, walk_index, walk_part, front-walk}
use Rattle.model.proofs.LocalWalk.{above_is, spine_canonical, canonical_spine, ancestor-on, front_all}
use Rattle.model.proofs.PlanLaws.{Says, elem-sorted}
use Rattle.model.proofs.PlanCode.{after_append}
use Rattle.model.proofs.Switched.{only_is, append_is}
use Rattle.model.proofs.Demand3.{distinct, wide}
use Rattle.model.proofs.Invariant.{live_free}
use Rattle.model.proofs.Upheld.{upheld}
use Rattle.model.proofs.Entries.{adopt_live}
use Rattle.model.proofs.RecordsAfter.{copy_here, live_copy, live_after}

-- canonical, as a copy
abbrev flag : Copy → Bool
flag k = copy_is_canonical (some k)

flag_each : (b : Bool) (c : ℕ → Change) → ((q : ℕ) (k : Copy) → flag (changed (c q) k) ≡ b) → (l : List ℕ) (p : ℕ) (k : Copy) → flag (after_all (each (λ q. record { place = q; change = c q }) l) p k) ≡ cond (elem p l) b (flag k)
unfolding after_all each elem
flag_each b c h [] p k = refl
flag_each b c h (x ∷ l) p k = flag_each b c h l p (cond (eqb x p) (changed (c x) k) k) ∙ by_bool (eqb x p) (λ i. rw (i, eq-eqb p x (sym (eqb-true x p i)), h x k) (by_bool (elem p l) (λ m. rw m) (λ m. rw m))) (λ i. rw (i, ne_eqb p x (λ z. eqb-false x p i (sym z))))

orphan-flag : (t : _) (r : Reason) (x : Option ℕ) (k : Copy) → flag (changed (orphan t r x) k) ≡ false
unfolding changed
orphan-flag t r x k = refl

promote_flag : (k : Copy) → flag (changed promote k) ≡ true
unfolding changed
promote_flag k = refl

-- in the safe front S, on the local walk L, on the ancestor's walk F, above the ancestor
table : (S L F up : Bool) → L ≡ ((up && L) || F) → (F ≡ true → up ≡ false) → cond S true (cond (up && L) false L) ≡ (S || F)
table true true F true one two = refl
table true true F false one two = refl
table true false F true one two = refl
table true false F false one two = refl
table false true true true one two = no_both true refl (two refl)
table false true true false one two = refl
table false true false true one two = refl
table false true false false one two = no_both true refl one
table false false true true one two = no_both false one refl
table false false true false one two = no_both false one refl
table false false false true one two = refl
table false false false false one two = refl

-- what changes do to the canonical blocks: nothing, or the walk of a tip is what they are
pub data Ends (a : Asked) : ℕ → List Write → Type 0 where
  kept : (ws : List Write) → ((p : ℕ) (k : Copy) → flag k ≡ is_canon a p → flag (after_all ws p k) ≡ is_canon a p) → Ends a 0 ws
  taken : (n : ℕ) (ws : List Write) (tip : ℕ) → ((p : ℕ) (k : Copy) → p < a.holdings.room → flag k ≡ is_canon a p → flag (after_all ws p k) ≡ on a tip p) → Ends a (suc n) ws

unfoldable pub Ended : Asked → Plan → Type 0
Ended a scan = Unit {0}
Ended a (apply n ws) = Ends a n ws

unfoldable Judged : Asked → Verdict → Type 0
Judged a pass_on = Unit {0}
Judged a (refused ws) = (p : ℕ) (k : Copy) → flag k ≡ is_canon a p → flag (after_all ws p k) ≡ is_canon a p
Judged a (accepted n ws) = Ends a n ws

module _ (a : Asked) (upheld : Upheld a.holdings canonical (a.values canonical)) (local : ℕ) (is_best : best a.holdings (a.values canonical) ≡ some local) (full : canonical_count a.holdings ≡ suc (index a local)) where
  stale_kept : (leaf bottom : ℕ) → Judged a (refusal a local (extension a leaf) bottom)
  unfolding Judged refusal after_all
  stale_kept leaf bottom p k e = by_bool (is_stale a.per_epoch (index a bottom) (index a local)) (λ s. rw s (flag_each false (λ q. orphan a.clock stale_fork none) (λ q. orphan-flag a.clock stale_fork none) (extension a leaf) p k ∙ by_bool (elem p (extension a leaf)) (λ m. rw m (sym (plain m))) (λ m. rw m e))) (λ s. rw s e)
    where
      plain : elem p (extension a leaf) ≡ true → is_canon a p ≡ false
      plain m = not_is_true (is_canon a p) (elem-front (λ p. not (is_canon a p)) p (walk_of a leaf) (elem_rev p (front (λ p. not (is_canon a p)) (walk_of a leaf)) m)).0

  -- ---- an accepted extension ----

  module _ (leaf f p : ℕ) (l : List ℕ) (room : leaf < a.holdings.room) (anc : ancestor a leaf ≡ some f) (safe : safe_front a local (extension a leaf) ≡ p ∷ l) where
    abbrev passed : List ℕ
    passed = front (λ p. not (is_canon a p)) (walk_of a leaf)

    tip_walk : walk_of a (last p l) ≡ reverse (p ∷ l) ++ walk_of a f
    tip_walk = by_bool (covers_at a local) (λ i. by (covers_at a) (rw i at safe)) (λ i. by (λ p. true) (front_all (extension a leaf) ∙ rw i at safe))
      where
        by : (g : ℕ → Bool) → front g (reverse passed) ≡ p ∷ l → walk_of a (last p l) ≡ reverse (p ∷ l) ++ walk_of a f
        by g c =
            let k : (r : List ℕ) × (walk_of a leaf ≡ passed ++ (f ∷ r)) = front-find (is_canon a) f (walk_of a leaf) anc in
            (front-walk a.holdings leaf f passed k.0 g p l k.1 c).0 ∙ ap (λ (y : List ℕ). reverse (p ∷ l) ++ y) (walk_part a.holdings leaf passed f k.0 k.1)

    abbrev orphans : Comparison → List Write
    orphans c = each (λ q. record { place = q; change = orphan a.clock c.reason (rival a (p ∷ l) q) }) (above a f local)

    abbrev promotes : List Write
    promotes = each (λ q. record { place = q; change = promote }) (p ∷ l)

    took : (c : Comparison) (q : ℕ) (k : Copy) → q < a.holdings.room → flag k ≡ is_canon a q → flag (after_all (orphans c ++ promotes) q k) ≡ on a (last p l) q
    unfolding above
    took c q k i e =
        ap flag (after_append (orphans c) promotes q k)
        ∙ flag_each true (λ q. promote) (λ q. promote_flag) (p ∷ l) q (after_all (orphans c) q k)
        ∙ ap (λ (b : Bool). cond (elem q (p ∷ l)) true b) (flag_each false (λ q. orphan a.clock c.reason (rival a (p ∷ l) q)) (λ q. orphan-flag a.clock c.reason (rival a (p ∷ l) q)) (above a f local) q k ∙ ap (λ (b : Bool). cond (elem q (above a f local)) false b) (e ∙ on_spine) ∙ ap (λ (b : Bool). cond b false (on a local q)) above-elem)
        ∙ table (elem q (p ∷ l)) (on a local q) (elem q (walk_of a f)) up parts (λ m. le-ltb (index a f) (index a q) (walk_index a.holdings f q m))
        ∙ sym (ap (elem q) tip_walk ∙ append_is q (reverse (p ∷ l)) (walk_of a f) ∙ ap (λ (b : Bool). b || elem q (walk_of a f)) (elem-reverse q (p ∷ l)))
      where
        up : Bool
        up = ltb (index a f) (index a q)

        above-elem : elem q (above a f local) ≡ (up && on a local q)
        above-elem = only_is (λ r. ltb (index a f) (index a r)) q (walk_of a local)

        on_spine : is_canon a q ≡ on a local q
        on_spine = by_bool (is_canon a q) (λ c. c ∙ sym (canonical_spine a upheld local is_best full q i c)) (λ c. by_bool (on a local q) (λ o. no_both (is_canon a q) (spine_canonical a upheld local is_best q o) c) (λ o. c ∙ sym o))

        parts : on a local q ≡ ((up && on a local q) || elem q (walk_of a f))
        parts = ap (elem q) (above_is a f local (ancestor-on a upheld local is_best full leaf f room anc).0) ∙ append_is q (above a f local) (walk_of a f) ∙ ap (λ (b : Bool). b || elem q (walk_of a f)) above-elem

  -- ---- one leaf, and all ----

  judged : (leaf : ℕ) → leaf < a.holdings.room → Judged a (judge a local leaf)
  unfolding judge judge_above judge_safe decided acceptance Judged
  judged leaf room = by_bool (is_canon a leaf) (λ c. rw c tt) (λ c. rw c (by_option (ancestor a leaf) (λ n. rw n tt) (λ f n. rw n (safely f n (safe_front a local (extension a leaf)) refl))))
    where
      safely : (f : ℕ) → ancestor a leaf ≡ some f → (safe : List ℕ) → safe_front a local (extension a leaf) ≡ safe → Judged a (judge_safe a local f (extension a leaf) safe)
      safely f n [] e = tt
      safely f n (p ∷ l) e = by_bool (floor_refuses a local f) (λ r. rw r (stale_kept leaf p)) (λ r. rw r (by_bool (is_adopted (choose_verified (ours a local f) (peers a p l)).outcome) (λ d. rw d (taken (length l) _ (last p l) (took leaf f p l room n e (choose_verified (ours a local f) (peers a p l))))) (λ d. rw d (stale_kept leaf p))))

  prepend : {n : ℕ} {l : List Write} (ws : List Write) → ((p : ℕ) (k : Copy) → flag k ≡ is_canon a p → flag (after_all ws p k) ≡ is_canon a p) → Ends a n l → Ends a n (ws ++ l)
  prepend ws j (kept l h) = kept (ws ++ l) (λ p k e. ap flag (after_append ws l p k) ∙ h p (after_all ws p k) (j p k e))
  prepend ws j (taken n l tip h) = taken n (ws ++ l) tip (λ p k i e. ap flag (after_append ws l p k) ∙ h p (after_all ws p k) i (j p k e))

  searched : (l : List ℕ) → ((x : ℕ) → elem x l ≡ true → x < a.holdings.room) → Ended a (search_leaves a local l)
  unfolding search_leaves Ended Judged elem after_all
  searched [] k = kept [] (λ p k e. e)
  searched (leaf ∷ l) k = go (judge a local leaf) (judged leaf (k leaf (elem_head leaf l))) (search_leaves a local l) (searched l (λ x e. k x (by_bool (eqb x leaf) (λ m. rw m) (λ m. rw m e))))
    where
      go : (v : Verdict) → Judged a v → (rest : Plan) → Ended a rest → Ended a (then v rest)
      go pass_on j rest e = e
      go (refused ws) j scan e = tt
      go (refused ws) j (apply n l) e = prepend ws j e
      go (accepted n ws) j rest e = j

-- every adopt leaves the canonical blocks as they are, or makes them the walk of one tip
pub adopt_ends : (a : Asked) → Upheld a.holdings canonical (a.values canonical) → Ended a (adopt a)
unfolding adopt adopt_from Ended leaves_of
adopt_ends a upheld = by_option (best a.holdings (a.values canonical)) (λ b. rw b tt) (λ local b. rw b (by_bool (eqb (canonical_count a.holdings) (suc (index a local))) (λ i. rw i (searched a upheld local b (eqb-true (canonical_count a.holdings) (suc (index a local)) i) (leaves_of a) (λ x e. (elem-those (is_leaf a.holdings (a.values winner)) x a.holdings.room (elem-sorted (outranks a.holdings (a.values winner)) x (those (is_leaf a.holdings (a.values winner)) a.holdings.room) e)).1))) (λ i. rw i tt)))

-- ---- of every run with a fresh tree, once the entries are put on the records: of the live blocks ----

canonical_here : (c : Cell) (k : Copy) → copy_here c ≡ some k → is_canonical c ≡ flag k
unfolding is_canonical
canonical_here free k e = let z : ◌≡◌ {A = ℕ} 0 1 = cc in absurd (omega arith)
canonical_here (held c) k e = ap copy_is_canonical e

live_flag : (c : Cell) → is_live c ≡ true → flag (copy_of c) ≡ is_canonical c
live_flag c l = sym (canonical_here c (copy_of c) (live_copy c l))

module _ {s : State} (r : Run s) (fresh : s.fresh ≡ true) (floor : Option ℕ) (n : ℕ) (clock : ℤ) (lent : ℕ) where
  abbrev asks : Asked
  asks = asked s floor n clock

  module _ (m : ℕ) (ws : List Write) (plan : adopt asks ≡ apply m ws) (p : ℕ) (live : is_live (s.holdings.cells p) ≡ true) where
    room_of_lem : p < s.holdings.room
    room_of_lem = by_bool (ltb p s.holdings.room) (ltb-true p s.holdings.room) (λ j. no_both (is_live (s.holdings.cells p)) live (live_free (s.holdings.cells p) (wide r p (ltb-false p s.holdings.room j))))

    after_flag : is_canonical ((records_after s.holdings (plan_reply (adopt_c floor n clock lent) s)).cells p) ≡ flag (copy_after s.holdings ws p)
    unfolding records_after Says
    after_flag = rw plan (canonical_here (cell_with (entries s.holdings ws) (s.holdings.cells p)) (copy_after s.holdings ws p) (live_after s.holdings (distinct r) ws (rw plan at (adopt_live asks (upheld r fresh))) p room_of_lem live))

  -- changed 0: every live block is canonical exactly if it was
  pub none_adopted : (ws : List Write) → adopt asks ≡ apply 0 ws → (p : ℕ) → is_live (s.holdings.cells p) ≡ true → is_canonical ((records_after s.holdings (plan_reply (adopt_c floor n clock lent) s)).cells p) ≡ is_canonical (s.holdings.cells p)
  unfolding Ended
  none_adopted ws plan p live = after_flag 0 ws plan p live ∙ go (rw plan at (adopt_ends asks (upheld r fresh canonical)))
    where
      go : Ends asks 0 ws → flag (copy_after s.holdings ws p) ≡ is_canonical (s.holdings.cells p)
      go (kept ws k) = k p (copy_of (s.holdings.cells p)) (live_flag (s.holdings.cells p) live)

  -- changed above 0: the live blocks that are canonical are the walk of one tip
  pub some_adopted : (m : ℕ) (ws : List Write) → adopt asks ≡ apply (suc m) ws → (tip : ℕ) × ((p : ℕ) → is_live (s.holdings.cells p) ≡ true → is_canonical ((records_after s.holdings (plan_reply (adopt_c floor n clock lent) s)).cells p) ≡ on asks tip p)
  unfolding Ended
  some_adopted m ws plan = go (rw plan at (adopt_ends asks (upheld r fresh canonical)))
    where
      go : Ends asks (suc m) ws → (tip : ℕ) × ((p : ℕ) → is_live (s.holdings.cells p) ≡ true → is_canonical ((records_after s.holdings (plan_reply (adopt_c floor n clock lent) s)).cells p) ≡ on asks tip p)
      go (taken m ws tip k) = (tip, λ p live. after_flag (suc m) ws plan p live ∙ k p (copy_of (s.holdings.cells p)) (room_of_lem (suc m) ws plan p live) (live_flag (s.holdings.cells p) live))
