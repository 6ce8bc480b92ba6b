-- Laws of walks: what a walk is with no count of steps, what its members have, its length, and its work as a sum of actuals.
use Prim.Native.Nat.{ℕ, zero, suc, ◌+◌, ◌-◌, ◌≤◌, ◌<◌}
use mathlib.Core.Path.{◌≡◌, refl, sym, ◌∙◌, ap}
use mathlib.Core.Bool.{Bool, true, false, not, ◌&&◌}
use mathlib.Core.Option.{Option, none, some}
use mathlib.Core.List.{List, [], ◌∷◌, ◌++◌, reverse, append_assoc, reverse-append, reverse-reverse}
use native.Mathlib.Omega.{arith}
use lib.ListN.{length}
use lib.Dec.{eqb, ltb}
use borrow.Author.Tests.{eqb-true}
use Rattle.amount.specs.Amounts.{Amount, readable, unreadable, limit}
use Rattle.model.specs.Lists.{elem, front, last, total}
use Rattle.model.specs.Record.{Copy}
use Rattle.model.specs.Holding.{eligible, set_answer, answered, Cell, free, held, Holdings, effective, copy_is_live, copy_is_canonical, is_live, is_canonical, index_of}
use Rattle.model.specs.Standing.{on_parent, Spine, winner, canonical, Value, unlinked, linked, is_linked, not_ineligible, meets_target, on_actual, may, standing, parent, value_at, work_of}
use Rattle.model.specs.Walks.{cell_actual, onward, down, walk}
use Rattle.model.proofs.Tools.{by_bool, by_option, no_both, no_none, and_left, and_right}
use Rattle.model.proofs.Turn.{names_index, parent-some}
use Rattle.model.proofs.FromNothing.{Ruled}
use Rattle.model.proofs.ListLaws.{Once, never_nil, elem_middle, elem_nil, elem_none, elem_head, elem_cases, front_part, total_append, total-reverse, reverse-last}

module _ (h : Holdings) where
  pub parent_index : (p q : ℕ) → parent h p ≡ some q → index_of (h.cells p) ≡ suc (index_of (h.cells q))
  parent_index p q e = names_index (h.cells p) (h.cells q) (parent-some h p q e).0

  -- a walk is its place, and then the parent's walk
  pub walk_is : (p : ℕ) → walk h p ≡ p ∷ onward (walk h) (parent h p)
  unfolding walk down
  walk_is p = go (index_of (h.cells p)) refl
    where
      go : (i : ℕ) → index_of (h.cells p) ≡ i → down i h p ≡ p ∷ onward (λ q. down (index_of (h.cells q)) h q) (parent h p)
      go zero e = by_option (parent h p) (λ n. rw n) (λ q n. absurd (omega (arith, parent_index p q n)))
      go (suc i) e = by_option (parent h p) (λ n. rw n) (λ q n. let z : i ≡ index_of (h.cells q) = omega (arith, parent_index p q n) in rw (n, z))

  -- what follows from the parent's having it, every place has
  pub upward : (P : ℕ → Type 0) → ((p : ℕ) → ((q : ℕ) → parent h p ≡ some q → P q) → P p) → (p : ℕ) → P p
  upward P k p = go (suc (index_of (h.cells p))) p (omega arith)
    where
      go : (i : ℕ) (p : ℕ) → index_of (h.cells p) < i → P p
      go zero p e = absurd (omega arith)
      go (suc i) p e = k p (λ q n. go i q (omega (arith, parent_index p q n)))

  -- what a place hands on to its parent, the whole walk has
  pub along : (P : ℕ → Type 0) → ((p q : ℕ) → P p → parent h p ≡ some q → P q) → (p x : ℕ) → P p → elem x (walk h p) ≡ true → P x
  along P k = upward (λ p. (x : ℕ) → P p → elem x (walk h p) ≡ true → P x) (λ p ih x a e. elem_cases x p (onward (walk h) (parent h p)) (rw (walk_is p) at e) (λ z. rw z a) (λ m. by_option (parent h p) (λ n. elem_nil x (rw n at m)) (λ q n. ih q n x (k p q a n) (rw n at m))))

  pub walk_top : (p : ℕ) → elem p (walk h p) ≡ true
  walk_top p = rw (walk_is p) (elem_head p (onward (walk h) (parent h p)))

  -- no member is above the top
  pub walk_index : (p x : ℕ) → elem x (walk h p) ≡ true → index_of (h.cells x) ≤ index_of (h.cells p)
  walk_index p x e = along (λ q. index_of (h.cells q) ≤ index_of (h.cells p)) (λ q r a n. omega (arith, parent_index q r n)) p x (omega arith) e

  -- all are live and in the room, if the top is
  pub walk_live : (p x : ℕ) → is_live (h.cells p) ≡ true → elem x (walk h p) ≡ true → is_live (h.cells x) ≡ true
  walk_live p x l e = along (λ q. is_live (h.cells q) ≡ true) (λ q r a n. (parent-some h q r n).1) p x l e

  pub walk_room : (p x : ℕ) → p < h.room → elem x (walk h p) ≡ true → x < h.room
  walk_room p x l e = along (λ q. q < h.room) (λ q r a n. (parent-some h q r n).2) p x l e

  -- each member stands once
  pub walk_once : (p : ℕ) → Once (walk h p)
  unfolding Once
  walk_once = upward (λ p. Once (walk h p)) (λ p ih. rw (walk_is p) (by_option (parent h p) (λ n. rw n (elem_none p, tt)) (λ q n. rw n (not_again p q n, ih q n))))
    where
      not_again : (p q : ℕ) → parent h p ≡ some q → elem p (walk h q) ≡ false
      not_again p q n = by_bool (elem p (walk h q)) (λ e. absurd (omega (arith, walk_index q p e, parent_index p q n))) (λ e. e)

  -- from a member on, a walk is that member's walk
  pub walk_part : (p : ℕ) (k : List ℕ) (x : ℕ) (l : List ℕ) → walk h p ≡ k ++ (x ∷ l) → x ∷ l ≡ walk h x
  walk_part p [] x l e = let z : p ≡ x = heads (onward (walk h) (parent h p)) (sym (walk_is p) ∙ e) in sym e ∙ ap (walk h) z
    where
      heads : (m : List ℕ) → p ∷ m ≡ x ∷ l → p ≡ x
      heads m e = cc
  walk_part p (y ∷ k) x l e = by_option (parent h p) (λ n. absurd (never_nil k x l (tails (rw n at (sym (walk_is p) ∙ e))))) (λ q n. walk_part q k x l (tails (rw n at (sym (walk_is p) ∙ e))))
    where
      tails : {m : List ℕ} → p ∷ m ≡ y ∷ (k ++ (x ∷ l)) → m ≡ k ++ (x ∷ l)
      tails e = cc

  -- a front of what lies above f on a walk, turned round, and then f's walk: the walk of the front's last
  pub front-walk : (top f : ℕ) (k r : List ℕ) (g : ℕ → Bool) (p : ℕ) (l : List ℕ) → walk h top ≡ k ++ (f ∷ r) → front g (reverse k) ≡ p ∷ l
      → (walk h (last p l) ≡ reverse (p ∷ l) ++ (f ∷ r)) × (elem (last p l) (walk h top) ≡ true)
  front-walk top f k r g p l e c =
      let m : (s : List ℕ) × (reverse k ≡ front g (reverse k) ++ s) = front_part g (reverse k) in
      let z : (t : List ℕ) × (reverse (p ∷ l) ≡ last p l ∷ t) = reverse-last p l in
      let cut : k ≡ reverse m.0 ++ reverse (p ∷ l) = sym (reverse-reverse k) ∙ ap reverse m.1 ∙ reverse-append (front g (reverse k)) m.0 ∙ ap (λ y. reverse m.0 ++ reverse y) c in
      let whole : walk h top ≡ reverse m.0 ++ (last p l ∷ (z.0 ++ (f ∷ r))) = e ∙ ap (λ y. y ++ (f ∷ r)) cut ∙ append_assoc (reverse m.0) (reverse (p ∷ l)) (f ∷ r) ∙ ap (λ y. reverse m.0 ++ (y ++ (f ∷ r))) z.1 in
      (sym (walk_part top (reverse m.0) (last p l) (z.0 ++ (f ∷ r)) whole) ∙ ap (λ (y : List ℕ). y ++ (f ∷ r)) (sym z.1), rw whole (elem_middle (last p l) (reverse m.0) (z.0 ++ (f ∷ r))))

-- ---- a linked value, by 01's rule ----

-- at index 0 work is the actual; above, the parent is linked, and work is the parent's plus the actual
pub rule_cases : {P : Type 0} (w : Spine) (c : Cell) (below : Value) (x : ℕ) (ok : Bool) → standing w c below ≡ linked x ok
    → (index_of c ≡ 0 → x ≡ cell_actual c → P)
    → ((y : ℕ) (good : Bool) → below ≡ linked y good → x ≡ y + cell_actual c → P) → P
unfolding standing cell_actual
rule_cases w free below x ok e zeroth higher = let z : ◌≡◌ {A = ℕ} 0 1 = cc in absurd (omega arith)
rule_cases {P} w (held c) below x ok e zeroth higher = by_bool (may w c) (λ m. go c.header.actual refl (rw m at e)) (λ m. no_way (rw m at e))
  where
    no_way : unlinked ≡ linked x ok → P
    no_way e = let z : ◌≡◌ {A = ℕ} 0 1 = cc in absurd (omega arith)

    up : (a : ℕ) → c.header.actual ≡ readable a → (b : Value) → below ≡ b → on_parent c.header a b ≡ linked x ok → P
    up a q unlinked r e = no_way e
    up a q (linked y good) r e = by_bool (ltb (y + a) limit) (λ i. let e' : linked (y + a) (good && meets_target c.header) ≡ linked x ok = rw i at e in let z : y + a ≡ x = cc in higher y good r (rw q (sym z))) (λ i. no_way (rw i at e))

    go : (a : Amount) → c.header.actual ≡ a → on_actual c.header below a ≡ linked x ok → P
    go unreadable q e = no_way e
    go (readable a) q e = by_bool (eqb c.header.index 0) (λ i. let e' : linked a true ≡ linked x ok = rw i at e in let z : a ≡ x = cc in zeroth (eqb-true c.header.index 0 i) (rw q (sym z))) (λ i. up a q below refl (rw i at e))

canon_live : (o : Option Copy) → copy_is_canonical o ≡ true → copy_is_live o ≡ true
canon_live none e = e
canon_live (some k) e = and_left (not k.orphaned) k.canonical e

pub canonical_live : (c : Cell) → is_canonical c ≡ true → is_live c ≡ true
unfolding is_canonical is_live
canonical_live free e = e
canonical_live (held c) e = canon_live (effective c) e

pub is_linked_lem : {P : Type 0} (v : Value) → is_linked v ≡ true → ((x : ℕ) (ok : Bool) → v ≡ linked x ok → P) → P
is_linked_lem unlinked e k = no_both false e refl
is_linked_lem (linked x ok) e k = k x ok refl

-- only a live block is linked, and only a canonical one canonically
pub linked_live : (w : Spine) (c : Cell) (below : Value) → is_linked (standing w c below) ≡ true → is_live c ≡ true
unfolding standing
linked_live w free below e = no_both false e refl
linked_live winner (held c) below e = by_bool (may winner c) (λ m. and_left (is_live (held c)) (not_ineligible c.answer) m) (λ m. no_both false (rw m at e) refl)
linked_live canonical (held c) below e = by_bool (may canonical c) (λ m. canonical_live (held c) m) (λ m. no_both false (rw m at e) refl)

standing-canonical : (c : Cell) (below : Value) → is_linked (standing canonical c below) ≡ true → is_canonical c ≡ true
unfolding standing
standing-canonical free below e = no_both false e refl
standing-canonical (held c) below e = by_bool (may canonical c) (λ m. m) (λ m. no_both false (rw m at e) refl)

-- ---- values that hold but for a later answer ----

-- a cell with an answer that lets it be linked; nothing else of it changes
abbrev pub allowed : Cell → Cell
allowed c = answered eligible c

allowed_index : (c : Cell) → index_of (allowed c) ≡ index_of c
unfolding answered set_answer
allowed_index free = refl
allowed_index (held c) = refl

allowed_actual : (c : Cell) → cell_actual (allowed c) ≡ cell_actual c
unfolding answered set_answer cell_actual
allowed_actual free = refl
allowed_actual (held c) = refl

pub allowed_live : (c : Cell) → is_live (allowed c) ≡ is_live c
unfolding answered set_answer is_live effective
allowed_live free = refl
allowed_live (held c) = refl

allowed_canonical : (c : Cell) → is_canonical (allowed c) ≡ is_canonical c
unfolding answered set_answer is_canonical effective
allowed_canonical free = refl
allowed_canonical (held c) = refl

-- what is linked is linked by the rule, whatever the answer is by now
abbrev pub Upheld : Holdings → Spine → (ℕ → Value) → Type 0
Upheld h w v = (p : ℕ) → is_linked (v p) ≡ true → v p ≡ standing w (allowed (h.cells p)) (value_at v (parent h p))

pub standing-allowed : (w : Spine) (c : Cell) (b : Value) → is_linked (standing w c b) ≡ true → standing w c b ≡ standing w (allowed c) b
unfolding standing answered set_answer is_live is_canonical effective
standing-allowed w free b e = refl
standing-allowed winner (held c) b e = by_bool (may winner c) (λ m. let l = and_left (is_live (held c)) (not_ineligible c.answer) m in let n = and_right (is_live (held c)) (not_ineligible c.answer) m in rw (l, n)) (λ m. no_both false (rw m at e) refl)
standing-allowed canonical (held c) b e = refl

pub ruled_upheld : (h : Holdings) (w : Spine) (v : ℕ → Value) → Ruled h w v → Upheld h w v
ruled_upheld h w v k p e = k p ∙ standing-allowed w (h.cells p) (value_at v (parent h p)) (rw (← k p) e)

module _ (h : Holdings) (w : Spine) (v : ℕ → Value) (upheld : Upheld h w v) where
  pub linked_alive : (p : ℕ) → is_linked (v p) ≡ true → is_live (h.cells p) ≡ true
  linked_alive p e = sym (allowed_live (h.cells p)) ∙ linked_live w (allowed (h.cells p)) (value_at v (parent h p)) (rw (← upheld p e) e)

  -- a linked block at index 0 has no parent; above it has one, which is linked
  pub linked_cases : {P : Type 0} (p : ℕ) → is_linked (v p) ≡ true
      → (parent h p ≡ none → index_of (h.cells p) ≡ 0 → work_of (v p) ≡ cell_actual (h.cells p) → P)
      → ((q : ℕ) → parent h p ≡ some q → is_linked (v q) ≡ true → work_of (v p) ≡ work_of (v q) + cell_actual (h.cells p) → P) → P
  linked_cases {P} p e bottom higher = is_linked_lem (v p) e (λ x ok k. rule_cases w (allowed (h.cells p)) (value_at v (parent h p)) x ok (sym (upheld p e) ∙ k) (λ z s. let i : index_of (h.cells p) ≡ 0 = sym (allowed_index (h.cells p)) ∙ z in by_option (parent h p) (λ n. bottom n i (ap work_of k ∙ s ∙ allowed_actual (h.cells p))) (λ q n. absurd (omega (arith, parent_index h p q n)))) (λ y good b s. by_option (parent h p) (λ n. none_linked (rw n at b)) (λ q n. let b' : v q ≡ linked y good = rw n at b in higher q n (rw b') (ap work_of k ∙ s ∙ rw (b', allowed_actual (h.cells p))))))
    where
      none_linked : {y : ℕ} {good : Bool} → unlinked ≡ linked y good → P
      none_linked e = let z : ◌≡◌ {A = ℕ} 0 1 = cc in absurd (omega arith)

  pub linked_along : (p x : ℕ) → is_linked (v p) ≡ true → elem x (walk h p) ≡ true → is_linked (v x) ≡ true
  linked_along p x l e = along h (λ q. is_linked (v q) ≡ true) (λ q r a n. linked_cases q a (λ m z s. no_none (parent h q) m n) (λ r' m b s. let z : r' ≡ r = same (parent h q) m n in rw z at b)) p x l e
    where
      same : {a b : ℕ} (o : Option ℕ) → o ≡ some a → o ≡ some b → a ≡ b
      same o m n = cc

  -- a linked walk reaches index 0: it has index + 1 members
  pub walk-length : (p : ℕ) → is_linked (v p) ≡ true → length (walk h p) ≡ suc (index_of (h.cells p))
  walk-length = upward h (λ p. is_linked (v p) ≡ true → length (walk h p) ≡ suc (index_of (h.cells p))) (λ p ih l. rw (walk_is h p) (linked_cases p l (λ n z s. rw n (ap suc (sym z))) (λ q n b s. rw n (ap suc (ih q n b ∙ sym (parent_index h p q n))))))

  -- its work is the sum of its actuals
  pub walk_work : (p : ℕ) → is_linked (v p) ≡ true → work_of (v p) ≡ total (λ q. cell_actual (h.cells q)) (walk h p)
  unfolding total
  walk_work = upward h (λ p. is_linked (v p) ≡ true → work_of (v p) ≡ total (λ q. cell_actual (h.cells q)) (walk h p)) (λ p ih l. rw (walk_is h p) (linked_cases p l (λ n z s. rw n (omega arith)) (λ q n b s. rw n (omega (arith, ih q n b)))))

  -- the work of a front of what lies above f on a walk is the difference of two linked works: what the Rust computes
  pub front_work : (top f : ℕ) (k r : List ℕ) (g : ℕ → Bool) (p : ℕ) (l : List ℕ) → is_linked (v top) ≡ true → walk h top ≡ k ++ (f ∷ r) → front g (reverse k) ≡ p ∷ l
      → total (λ q. cell_actual (h.cells q)) (p ∷ l) ≡ work_of (v (last p l)) - work_of (v f)
  front_work top f k r g p l lk e c =
      let w = front-walk h top f k r g p l e c in
      let lower : f ∷ r ≡ walk h f = walk_part h top k f r e in
      let on_top : is_linked (v (last p l)) ≡ true = linked_along top (last p l) lk w.1 in
      let on_f : is_linked (v f) ≡ true = linked_along top f lk (rw e (elem_middle f k r)) in
      let high : work_of (v (last p l)) ≡ total (λ q. cell_actual (h.cells q)) (reverse (p ∷ l) ++ (f ∷ r)) = walk_work (last p l) on_top ∙ ap (total (λ q. cell_actual (h.cells q))) w.0 in
      let low : work_of (v f) ≡ total (λ q. cell_actual (h.cells q)) (f ∷ r) = walk_work f on_f ∙ ap (total (λ q. cell_actual (h.cells q))) (sym lower) in
      let both : total (λ q. cell_actual (h.cells q)) (reverse (p ∷ l) ++ (f ∷ r)) ≡ total (λ q. cell_actual (h.cells q)) (reverse (p ∷ l)) + total (λ q. cell_actual (h.cells q)) (f ∷ r) = total_append (λ q. cell_actual (h.cells q)) (reverse (p ∷ l)) (f ∷ r) in
      let turned : total (λ q. cell_actual (h.cells q)) (reverse (p ∷ l)) ≡ total (λ q. cell_actual (h.cells q)) (p ∷ l) = total-reverse (λ q. cell_actual (h.cells q)) (p ∷ l) in
      omega arith

-- only a canonical block is canonically linked
pub linked_canonical : (h : Holdings) (v : ℕ → Value) → Upheld h canonical v → (p : ℕ) → is_linked (v p) ≡ true → is_canonical (h.cells p) ≡ true
linked_canonical h v k p e = sym (allowed_canonical (h.cells p)) ∙ standing-canonical (allowed (h.cells p)) (value_at v (parent h p)) (rw (← k p e) e)
