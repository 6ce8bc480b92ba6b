-- What the codes mean after a decision: an extension orphaned as stale over whatever was written, or our walk orphaned and then the safe front promoted.
use mathlib.Core.Path.{◌≡◌, refl, sym, ap, ◌∙◌}
use mathlib.Core.Bool.{Bool, true, false, cond, not, ◌||◌}
use mathlib.Core.List.{List, [], ◌∷◌, ◌++◌, reverse, append-nil}
use mathlib.Core.Option.{Option, none, some}
use Prim.Native.Nat.{ℕ, suc, ◌+◌, ◌<◌}
use native.Mathlib.Omega.{arith}
use lib.Dec.{eqb, ltb}
use lib.IntN.{ℤ}
use borrow.Author.Tests.{eqb-true, ne_eqb, ltb-true}
use Rattle.amount.specs.Choose.{◌if◌else◌}
use Rattle.model.specs.Adopt.{ancestor, extension, safe_front, hash_of_some, rival}
use Rattle.model.specs.Holding.{Holdings, is_canonical, hash_of}
use Rattle.model.specs.Lists.{elem, only, find, last, each}
use Rattle.model.specs.Record.{Reason, Copy, stale_fork}
use Rattle.model.specs.Standing.{canonical, best, canonical_count}
use Rattle.model.specs.Walks.{Asked, index, walk, walk_of, above}
use Rattle.model.specs.Writes.{promote, orphan, changed, Write, ◌at◌, after_all, touched, copy_of, copy_after}
use Rattle.model.proofs.ListLaws.{elem-front, elem-only}
use Rattle.model.proofs.PlanCode.{after_append, touched_append}
use Rattle.model.proofs.Tools.{by_bool, not_is_true, elem-reverse}
use Rattle.model.proofs.WalkLaws.{Upheld}
use Rattle.pending.proofs.PendLaws.{or_true}
use Rattle.writing.specs.Meant.{code_copy, Meant}
use Rattle.extending.specs.Accepting.{accepted_to, refused_to}
use Rattle.extending.specs.Judged.{Stales}
use Rattle.extending.specs.Orphans.{passed_by, staled}
use Rattle.extending.proofs.ChangeLaws.{touched-each, after_each, untouched, promote_twice, orphan_over, code_promoted, code_stale, code_again, code_alone, code_rival}
use Rattle.extending.proofs.ExtensionLaws.{code_of, safe_is, safe_apart, rival_is}

or_false : (b : Bool) → (b || false) ≡ b
or_false true = refl
or_false false = refl

-- ---- refused ----

module _ (h : Holdings) (clock : ℤ) (leaf : ℕ) (ws : List Write) (g : ℕ → ℕ) (st : Stales h clock ws g) where
  abbrev whole : List Write
  whole = each (λ p. orphan clock stale_fork none at p) (reverse (passed_by h leaf))

  whole-touched : (q : ℕ) → touched (ws ++ whole) q ≡ (touched ws q || elem q (passed_by h leaf))
  whole-touched q = touched_append ws whole q ∙ ap (λ (b : Bool). touched ws q || b) (touched-each (λ p. orphan clock stale_fork none) q (reverse (passed_by h leaf)) ∙ elem-reverse q (passed_by h leaf))

  whole_after : (q : ℕ) (k : Copy) → after_all (ws ++ whole) q k ≡ cond (elem q (passed_by h leaf)) (changed (orphan clock stale_fork none) (after_all ws q k)) (after_all ws q k)
  whole_after q k = after_append ws whole q k ∙ after_each (λ p. orphan clock stale_fork none) q (λ j. orphan_over clock stale_fork none (changed (orphan clock stale_fork none) j) j) (reverse (passed_by h leaf)) (after_all ws q k) ∙ ap (λ (b : Bool). cond b (changed (orphan clock stale_fork none) (after_all ws q k)) (after_all ws q k)) (elem-reverse q (passed_by h leaf))

  stale_meant : (reason : Reason) → Meant h clock reason (ws ++ whole) (staled h leaf g)
  stale_meant reason = record {
    written = λ q i. whole-touched q ∙ by_bool (elem q (passed_by h leaf)) (λ e. rw e (or_true (touched ws q))) (λ e. rw e (or_false (touched ws q) ∙ (st.meant reason).written q i));
    copies = λ q i z. by_bool (elem q (passed_by h leaf)) (λ e. here q e) (λ e. there q e i (λ y. z (rw e y)));
  }
    where
      here : (q : ℕ) → elem q (passed_by h leaf) ≡ true → code_copy clock reason (λ p. hash_of (h.cells p)) (staled h leaf g q) (copy_of (h.cells q)) ≡ copy_after h (ws ++ whole) q
      here q e = rw (whole_after q (copy_of (h.cells q)), e) (code_stale clock reason (λ p. hash_of (h.cells p)) (copy_of (h.cells q)) ∙ orphan_over clock stale_fork none (copy_of (h.cells q)) (after_all ws q (copy_of (h.cells q))))

      there : (q : ℕ) → elem q (passed_by h leaf) ≡ false → q < h.room → (g q ≡ 0 → ⊥) → code_copy clock reason (λ p. hash_of (h.cells p)) (staled h leaf g q) (copy_of (h.cells q)) ≡ copy_after h (ws ++ whole) q
      there q e i z = rw (whole_after q (copy_of (h.cells q)), e) ((st.meant reason).copies q i z)

  stale_all : Stales h clock (ws ++ whole) (staled h leaf g)
  stale_all = record {
    codes = λ q i. by_bool (elem q (passed_by h leaf)) (λ e. rw e) (λ e. rw e (st.codes q i));
    off = λ q i z. by_bool (elem q (passed_by h leaf)) (λ e. not_is_true (is_canonical (h.cells q)) (elem-front (λ p. not (is_canonical (h.cells p))) q (walk h leaf) e).0) (λ e. st.off q i (λ y. z (rw e y)));
    meant = stale_meant;
  }

  pub refused_stales : (b : Bool) → Stales h clock (ws ++ (whole if b else [])) (refused_to h leaf b g)
  refused_stales true = stale_all
  refused_stales false = rw (append-nil ws) st

-- ---- accepted ----

module _ (a : Asked) (local leaf p : ℕ) (l : List ℕ) (safe : safe_front a local (extension a leaf) ≡ p ∷ l) (f : ℕ) (anc : ancestor a leaf ≡ some f)
    (upheld : Upheld a.holdings canonical (a.values canonical)) (is_best : best a.holdings (a.values canonical) ≡ some local) (full : canonical_count a.holdings ≡ suc (index a local)) (room : leaf < a.holdings.room)
    (reason : Reason) (ws : List Write) (g : ℕ → ℕ) (st : Stales a.holdings a.clock ws g) where
  abbrev orphans : List Write
  orphans = each (λ q. orphan a.clock reason (rival a (p ∷ l) q) at q) (above a f local)

  abbrev promotes : List Write
  promotes = each (λ q. promote at q) (p ∷ l)

  abbrev codes : ℕ → ℕ
  codes = accepted_to a.holdings local f (last p l) g

  all_touched : (q : ℕ) → touched (ws ++ (orphans ++ promotes)) q ≡ (touched ws q || (elem q (above a f local) || elem q (p ∷ l)))
  all_touched q = touched_append ws (orphans ++ promotes) q ∙ rw (touched_append orphans promotes q, touched-each (λ q. orphan a.clock reason (rival a (p ∷ l) q)) q (above a f local), touched-each (λ q. promote) q (p ∷ l))

  all_after : (q : ℕ) (k : Copy) → after_all (ws ++ (orphans ++ promotes)) q k ≡ cond (elem q (p ∷ l)) (changed promote (after_all orphans q (after_all ws q k))) (after_all orphans q (after_all ws q k))
  all_after q k = after_append ws (orphans ++ promotes) q k ∙ after_append orphans promotes q (after_all ws q k) ∙ after_each (λ q. promote) q promote_twice (p ∷ l) (after_all orphans q (after_all ws q k))

  ours_after : (q : ℕ) (k : Copy) → after_all orphans q k ≡ cond (elem q (above a f local)) (changed (orphan a.clock reason (rival a (p ∷ l) q)) k) k
  ours_after q k = after_each (λ q. orphan a.clock reason (rival a (p ∷ l) q)) q (λ j. orphan_over a.clock reason (rival a (p ∷ l) q) (changed (orphan a.clock reason (rival a (p ∷ l) q)) j) j) (above a f local) k

  -- the code at a block, by where it is
  module _ (q : ℕ) where
    in_top : elem q (only (λ x. ltb (index a f) (index a x)) (walk_of a (last p l))) ≡ elem q (p ∷ l)
    unfolding above
    in_top = sym (safe_is a local leaf p l safe f anc upheld is_best full room q)

    in_ours : elem q (only (λ x. ltb (index a f) (index a x)) (walk_of a local)) ≡ elem q (above a f local)
    unfolding above
    in_ours = refl

    safe_code : elem q (p ∷ l) ≡ true → codes q ≡ (5 if eqb (g q) 4 else 1)
    safe_code e = rw (in_top, in_ours, e, safe_apart a local leaf p l safe f anc upheld is_best full room q e)

    other_code : elem q (p ∷ l) ≡ false → elem q (above a f local) ≡ false → codes q ≡ g q
    other_code e o = rw (in_top, in_ours, e, o)

    ours_code : elem q (p ∷ l) ≡ false → elem q (above a f local) ≡ true → codes q ≡ code_of (find (λ x. eqb (index a x) (index a q)) (p ∷ l))
    unfolding above
    ours_code e o = rw (in_top, e, o) (rival_is a local leaf p l safe f anc upheld is_best full room q (ltb-true (index a f) (index a q) (elem-only (λ x. ltb (index a f) (index a x)) q (walk_of a local) o).0))

  code_some : (o : Option ℕ) → not (eqb (code_of o) 0) ≡ true
  code_some none = refl
  code_some (some x) = rw (ne_eqb (7 + x) 0 (omega arith))

  code_copy_lem : (o : Option ℕ) (k : Copy) → code_copy a.clock reason (λ p. hash_of (a.holdings.cells p)) (code_of o) k ≡ changed (orphan a.clock reason (hash_of_some a o)) k
  code_copy_lem none k = code_alone a.clock reason (λ p. hash_of (a.holdings.cells p)) k
  code_copy_lem (some x) k = code_rival a.clock reason (λ p. hash_of (a.holdings.cells p)) k x

  module _ (q : ℕ) (i : q < a.holdings.room) where
    is_written : touched (ws ++ (orphans ++ promotes)) q ≡ not (eqb (codes q) 0)
    is_written = all_touched q ∙ by_bool (elem q (p ∷ l)) of_safe (λ e. by_bool (elem q (above a f local)) (of_ours e) (of_other e))
      where
        of_safe : elem q (p ∷ l) ≡ true → (touched ws q || (elem q (above a f local) || elem q (p ∷ l))) ≡ not (eqb (codes q) 0)
        of_safe e = let o : elem q (above a f local) ≡ false = safe_apart a local leaf p l safe f anc upheld is_best full room q e in rw (safe_code q e, e, o) (or_true (touched ws q) ∙ by_bool (eqb (g q) 4) (λ b. rw b) (λ b. rw b))

        of_ours : elem q (p ∷ l) ≡ false → elem q (above a f local) ≡ true → (touched ws q || (elem q (above a f local) || elem q (p ∷ l))) ≡ not (eqb (codes q) 0)
        of_ours e o = rw (ours_code q e o, e, o) (or_true (touched ws q) ∙ sym (code_some (find (λ x. eqb (index a x) (index a q)) (p ∷ l))))

        of_other : elem q (p ∷ l) ≡ false → elem q (above a f local) ≡ false → (touched ws q || (elem q (above a f local) || elem q (p ∷ l))) ≡ not (eqb (codes q) 0)
        of_other e o = rw (other_code q e o, e, o) (or_false (touched ws q) ∙ (st.meant reason).written q i)

    abbrev first : Copy
    first = copy_of (a.holdings.cells q)

    -- promoted: after it was orphaned as stale, or from what stands in the records
    safe_copy : code_copy a.clock reason (λ p. hash_of (a.holdings.cells p)) (5 if eqb (g q) 4 else 1) first ≡ changed promote (after_all ws q first)
    safe_copy = by_bool (eqb (g q) 4) again once
      where
        again : eqb (g q) 4 ≡ true → code_copy a.clock reason (λ p. hash_of (a.holdings.cells p)) (5 if eqb (g q) 4 else 1) first ≡ changed promote (after_all ws q first)
        again b =
            let z : g q ≡ 4 = eqb-true (g q) 4 b in
            let t : code_copy a.clock reason (λ p. hash_of (a.holdings.cells p)) 4 first ≡ after_all ws q first = rw z at ((st.meant reason).copies q i (λ y. let y : g q ≡ 0 = y in omega arith)) in
            rw b (code_again a.clock reason (λ p. hash_of (a.holdings.cells p)) first ∙ ap (changed promote) (sym (code_stale a.clock reason (λ p. hash_of (a.holdings.cells p)) first) ∙ t))

        once : eqb (g q) 4 ≡ false → code_copy a.clock reason (λ p. hash_of (a.holdings.cells p)) (5 if eqb (g q) 4 else 1) first ≡ changed promote (after_all ws q first)
        once b =
            let z : eqb (g q) 0 ≡ true = sym (or_false (eqb (g q) 0)) ∙ rw b at (st.codes q i) in
            let t : touched ws q ≡ false = (st.meant reason).written q i ∙ rw z in
            rw (b, untouched ws q first t) (code_promoted a.clock reason (λ p. hash_of (a.holdings.cells p)) first)

    is_copy : (codes q ≡ 0 → ⊥) → code_copy a.clock reason (λ p. hash_of (a.holdings.cells p)) (codes q) first ≡ copy_after a.holdings (ws ++ (orphans ++ promotes)) q
    is_copy nz = by_bool (elem q (p ∷ l)) of_safe (λ e. by_bool (elem q (above a f local)) (of_ours e) (of_other e))
      where
        of_safe : elem q (p ∷ l) ≡ true → code_copy a.clock reason (λ p. hash_of (a.holdings.cells p)) (codes q) first ≡ copy_after a.holdings (ws ++ (orphans ++ promotes)) q
        of_safe e = rw (all_after q first, ours_after q (after_all ws q first), safe_code q e, e, safe_apart a local leaf p l safe f anc upheld is_best full room q e) safe_copy

        of_ours : elem q (p ∷ l) ≡ false → elem q (above a f local) ≡ true → code_copy a.clock reason (λ p. hash_of (a.holdings.cells p)) (codes q) first ≡ copy_after a.holdings (ws ++ (orphans ++ promotes)) q
        of_ours e o = rw (all_after q first, ours_after q (after_all ws q first), ours_code q e o, e, o) (code_copy_lem (find (λ x. eqb (index a x) (index a q)) (p ∷ l)) first ∙ orphan_over a.clock reason (rival a (p ∷ l) q) first (after_all ws q first))

        of_other : elem q (p ∷ l) ≡ false → elem q (above a f local) ≡ false → code_copy a.clock reason (λ p. hash_of (a.holdings.cells p)) (codes q) first ≡ copy_after a.holdings (ws ++ (orphans ++ promotes)) q
        of_other e o = rw (all_after q first, ours_after q (after_all ws q first), other_code q e o, e, o) ((st.meant reason).copies q i (λ z. nz (other_code q e o ∙ z)))

  pub accepted_meant : Meant a.holdings a.clock reason (ws ++ (orphans ++ promotes)) codes
  accepted_meant = record { written = is_written; copies = is_copy }
