-- The decision about one extension: what was scanned tells its ancestor and its safe front, the floor and the comparison are the model's, and the codes mean its changes.
use mathlib.Core.Path.{◌≡◌, refl, sym, ap, ◌∙◌}
use mathlib.Core.Bool.{Bool, true, false, cond, ◌&&◌}
use mathlib.Core.List.{List, [], ◌∷◌, ◌++◌}
use mathlib.Core.Option.{Option, none, some}
use Prim.Native.Nat.{ℕ, ◌≤◌, ◌<◌}
use native.Mathlib.Omega.{arith}
use lib.ListN.{length}
use borrow.Author.Tests.{eq-eqb}
use Rattle.amount.specs.Choose.{◌if◌else◌}
use Rattle.block.specs.Records.{reason_means}
use Rattle.block.specs.declared.Reason.{Reason}
use Rattle.memory.specs.Words.{word}
use Rattle.model.specs.Adopt.{ancestor, extension, safe_front, floor_refuses, is_stale, refusal, rival, acceptance, decided, ours, peers, judge_safe, judge_above, judge, accepted}
use Rattle.model.specs.Comparing.{Comparison, choose_verified, is_adopted}
use Rattle.model.specs.Holding.{Holdings, index_of, is_live}
use Rattle.model.specs.Lists.{elem, front, last, all, each}
use Rattle.model.specs.Record.{stale_fork}
use Rattle.model.specs.Standing.{Spine, winner, canonical, is_linked, proofs_ok}
use Rattle.model.specs.Walks.{Asked, index, is_canon, covers_at, meets_at, walk_of, above, below}
use Rattle.model.specs.Writes.{promote, orphan, Write, ◌at◌}
use Rattle.model.proofs.ListLaws.{elem_nil, elem_head, elem-find}
use Rattle.model.proofs.LocalWalk.{spine_linked, ancestor-on, front_all}
use Rattle.model.proofs.Tools.{by_bool}
use Rattle.model.proofs.Upheld.{upheld}
use Rattle.model.proofs.WalkLaws.{Upheld, walk_top, walk_live}
use Rattle.pending.proofs.NextLaws.{live_used}
use Rattle.pending.proofs.PendLaws.{pend_same}
use Rattle.state.specs.Sound.{Used}
use Rattle.state.specs.View.{cells_of, values_of, view_at}
use Rattle.state.proofs.FindLaws.{placed_in}
use Rattle.walks.specs.Asking.{Asks}
use Rattle.writing.specs.Coded.{Coded}
use Rattle.writing.specs.Decides.{Ready}
use Rattle.writing.specs.Steps.{Codes}
use Rattle.extending.specs.Accepting.{Ends, Compares, accepted_to, refused_to}
use Rattle.sides.specs.Gathered.{head_or, top_of}
use Rattle.extending.specs.Judged.{Stales, Refuses, Accepts, Judging, Judges}
use Rattle.sides.specs.Sides.{Above, Peer}
use Rattle.sides.specs.declared.Extension.{Extension}
use Rattle.extending.specs.declared.Judged.TheVariants.{Refused, Accepted}
use Rattle.extending.proofs.ExtensionLaws.{ext_walk, safe_part, tip_walk}
use Rattle.sides.proofs.OursLaws.{value_is, walk_in, walk_used}
use Rattle.sides.proofs.ScanLaws.{cell_is, ext_met}
use Rattle.extending.proofs.VerdictLaws.{refused_stales, accepted_meant}

-- ---- in the model ----

-- a front that is not empty begins where the list does
front_head : (n : ℕ) (g : ℕ → Bool) (ext : List ℕ) (p : ℕ) (l : List ℕ) → front g ext ≡ p ∷ l → head_or n ext ≡ p
unfolding front
front_head n g [] p l e = let z : ◌≡◌ {A = ℕ} 0 1 = cc in absurd (omega arith)
front_head n g (x ∷ k) p l e = by_bool (g x) (λ i. same (front g k) (rw i at e)) (λ i. never (rw i at e))
  where
    same : (r : List ℕ) → x ∷ r ≡ p ∷ l → x ≡ p
    same r e = cc

    never : [] ≡ p ∷ l → x ≡ p
    never e = let z : ◌≡◌ {A = ℕ} 0 1 = cc in absurd (omega arith)

safe_head : (n : ℕ) (a : Asked) (local : ℕ) (ext : List ℕ) (p : ℕ) (l : List ℕ) → safe_front a local ext ≡ p ∷ l → head_or n ext ≡ p
safe_head n a local ext p l e = by_bool (covers_at a local) (λ i. front_head n (covers_at a) ext p l (rw i at e)) (λ i. front_head n (λ x. true) ext p l (front_all ext ∙ rw i at e))

module _ (a : Asked) (local leaf f p : ℕ) (l : List ℕ) (anc : ancestor a leaf ≡ some f) (safe : safe_front a local (extension a leaf) ≡ p ∷ l) where
  leaf_off : is_canon a leaf ≡ false
  leaf_off = by_bool (is_canon a leaf) (λ c. elem_nil p (rw (ext_met a leaf c) at (safe_part a local leaf p l safe p (elem_head p l)))) (λ c. c)

  judge_is : judge a local leaf ≡ cond (floor_refuses a local f) (refusal a local (extension a leaf) p) (decided a local f (extension a leaf) p l (choose_verified (ours a local f) (peers a p l)))
  unfolding judge judge_above judge_safe
  judge_is = rw (leaf_off, anc, safe)

  pub judge_floor : floor_refuses a local f ≡ true → judge a local leaf ≡ refusal a local (extension a leaf) p
  judge_floor e = judge_is ∙ rw e

  module _ (c : Comparison) (is : c ≡ choose_verified (ours a local f) (peers a p l)) (e : floor_refuses a local f ≡ false) where
    judge_by : judge a local leaf ≡ decided a local f (extension a leaf) p l c
    judge_by = judge_is ∙ rw (e, is)

    pub judge_kept : is_adopted c.outcome ≡ false → judge a local leaf ≡ refusal a local (extension a leaf) p
    unfolding decided
    judge_kept z = judge_by ∙ rw z

    pub judge_taken : is_adopted c.outcome ≡ true → judge a local leaf ≡ acceptance a local f (p ∷ l) c
    unfolding decided
    judge_taken z = judge_by ∙ rw z

stale_by : (n n' b b' l l' : ℕ) → n ≡ n' → b ≡ b' → l ≡ l' → is_stale n b l ≡ is_stale n' b' l'
stale_by n n' b b' l l' x y z = rw (x, y, z) refl

-- ---- what was scanned ----

pub record Shape (a : Asked) (local leaf : ℕ) (e : Extension) : Type 0 where
  pub bottom : ℕ
  pub rest : List ℕ
  pub safe : safe_front a local (extension a leaf) ≡ bottom ∷ rest
  pub bottom_is : e.front.bottom ≡ bottom
  pub top_is : e.front.top ≡ last bottom rest
  pub long : e.front.length ≡ length (bottom ∷ rest)
  pub meets_is : e.front.meets ≡ all (meets_at a) (bottom ∷ rest)

module _ (m : List ℕ) (n local leaf : ℕ) (e : Extension) (floor : Option ℕ) (per : ℕ) (local<n : local < n) (leaf<n : leaf < n) where
  module _ (r : Ready m n) (a : Asked) (k : Asks a m n floor per) (j : Judging a m n local leaf e) where
    in_room : leaf < a.holdings.room
    unfolding view_at
    in_room = rw k.holdings leaf<n

    up : (w : Spine) → Upheld a.holdings w (a.values w)
    unfolding view_at
    up w = rw (k.holdings, k.values) (upheld r.run (eq-eqb (word m 7) 1 r.fresh) w)

    anc : ancestor a leaf ≡ some e.ancestor
    anc = j.scanned.ancestor ∙ placed_in n e.ancestor j.found

    shape : Shape a local leaf e
    shape = go (safe_front a local (extension a leaf)) refl
      where
        go : (s : List ℕ) → safe_front a local (extension a leaf) ≡ s → Shape a local leaf e
        go [] z = let y : e.front.length ≡ 0 = j.scanned.gathered.long ∙ ap length z in absurd (omega (arith, j.filled))
        go (p ∷ l) z = record {
          bottom = p;
          rest = l;
          safe = z;
          bottom_is = j.scanned.gathered.bottom ∙ safe_head n a local (extension a leaf) p l z;
          top_is = j.scanned.gathered.top ∙ ap (top_of n) z;
          long = j.scanned.gathered.long ∙ ap length z;
          meets_is = j.scanned.gathered.all_meet ∙ ap (all (meets_at a)) z;
        }

    leaf_used : Used m leaf
    leaf_used = live_used m n leaf j.leaf_live

    local_used : Used m local
    local_used = live_used m n local j.local_live

    f_walk : elem e.ancestor (walk_of a leaf) ≡ true
    f_walk = (elem-find (is_canon a) e.ancestor (walk_of a leaf) anc).1

    f_used : Used m e.ancestor
    f_used = walk_used m n a k.holdings leaf e.ancestor leaf_used f_walk

    bottom_walk : elem e.front.bottom (walk_of a leaf) ≡ true
    bottom_walk = rw shape.bottom_is (ext_walk a leaf shape.bottom (safe_part a local leaf shape.bottom shape.rest shape.safe shape.bottom (elem_head shape.bottom shape.rest)))

    top_walk : elem e.front.top (walk_of a leaf) ≡ true
    top_walk = rw shape.top_is (tip_walk a local leaf shape.bottom shape.rest shape.safe e.ancestor anc).1

    pub bottom_in : e.front.bottom < n
    bottom_in = walk_in m n a k.holdings leaf e.front.bottom leaf<n bottom_walk

    pub top_in : e.front.top < n
    top_in = walk_in m n a k.holdings leaf e.front.top leaf<n top_walk

    top_live : is_live (cells_of m n e.front.top) ≡ true
    top_live = sym (ap is_live (cell_is m n a k.holdings e.front.top)) ∙ walk_live a.holdings leaf e.front.top (ap is_live (cell_is m n a k.holdings leaf) ∙ j.leaf_live) top_walk

    refuse_ends : Ends m n leaf e.front.bottom local
    refuse_ends = record { first_live = j.leaf_live; used = walk_used m n a k.holdings leaf e.front.bottom leaf_used bottom_walk; last_live = j.local_live }

    accept_ends : Ends m n local e.ancestor e.front.top
    accept_ends = record { first_live = j.local_live; used = f_used; last_live = top_live }

    -- ---- the floor and the comparison ----

    floor_is : (x : Bool) → (Used m local → Used m e.ancestor → x ≡ (proofs_ok (values_of m n canonical local) && below floor (index_of (cells_of m n e.ancestor)) (index_of (cells_of m n local)))) → x ≡ floor_refuses a local e.ancestor
    floor_is x h = h local_used f_used ∙ rw (value_is m n a k.values canonical local, k.floor_is, cell_is m n a k.holdings e.ancestor, cell_is m n a k.holdings local) refl

    our_above : Above a canonical local e.ancestor
    our_above = record {
      upheld = up canonical;
      top_linked = spine_linked a (up canonical) local j.local_best local (walk_top a.holdings local);
      on_walk = (ancestor-on a (up canonical) local j.local_best j.full leaf e.ancestor in_room anc).0;
    }

    peer : Peer a leaf local e.ancestor e.front.top e.front.meets shape.bottom shape.rest
    peer = record {
      above = record { upheld = up winner; top_linked = ap is_linked (value_is m n a k.values winner leaf) ∙ j.leaf_linked; on_walk = f_walk };
      ancestor = anc;
      safe = shape.safe;
      top_is = shape.top_is;
      meets_is = shape.meets_is;
    }

    compared : (c : Comparison) → Compares m n local e.ancestor e.front.top e.front.meets c → c ≡ choose_verified (ours a local e.ancestor) (peers a shape.bottom shape.rest)
    compared c h = h r.sound local_used f_used a k.holdings k.values our_above leaf shape.bottom shape.rest leaf_used peer

    -- ---- the verdict ----

    module _ (ws : List Write) (g : ℕ → ℕ) (cg : Coded m n g) (st : Stales a.holdings a.clock ws g) (m' : List ℕ) where
      abbrev is_stale_lem : Bool
      is_stale_lem = is_stale a.per_epoch (index a shape.bottom) (index a local)

      stale_same : is_stale_lem ≡ is_stale per (index_of (cells_of m n e.front.bottom)) (index_of (cells_of m n local))
      stale_same = stale_by a.per_epoch per (index a shape.bottom) (index_of (cells_of m n e.front.bottom)) (index a local) (index_of (cells_of m n local)) k.per_is (ap (index a) (sym shape.bottom_is) ∙ ap index_of (cell_is m n a k.holdings e.front.bottom)) (ap index_of (cell_is m n a k.holdings local))

      coded_refused : (h h' : Holdings) (b b' : Bool) → h ≡ h' → b ≡ b' → Coded m' n (refused_to h' leaf b' g) → Coded m' n (refused_to h leaf b g)
      coded_refused h h' b b' x y c = rw (x, y) c

      refuses : Codes m m' n (Ends m n leaf e.front.bottom local) (refused_to (view_at m n).holdings leaf (is_stale per (index_of (cells_of m n e.front.bottom)) (index_of (cells_of m n local))))
          → judge a local leaf ≡ refusal a local (extension a leaf) shape.bottom → Refuses a m' n local leaf ws
      unfolding refusal
      refuses c z = record {
        more = each (λ q. orphan a.clock stale_fork none at q) (extension a leaf) if is_stale_lem else [];
        judged = z;
        codes = refused_to a.holdings leaf is_stale_lem g;
        coded = coded_refused a.holdings (view_at m n).holdings is_stale_lem (is_stale per (index_of (cells_of m n e.front.bottom)) (index_of (cells_of m n local))) k.holdings stale_same (c.right r.sound refuse_ends g cg);
        stales = refused_stales a.holdings a.clock leaf ws g st is_stale_lem;
      }

      coded_accepted : (h h' : Holdings) (t t' : ℕ) → h ≡ h' → t' ≡ t → Coded m' n (accepted_to h' local e.ancestor t' g) → Coded m' n (accepted_to h local e.ancestor t g)
      coded_accepted h h' t t' x y c = rw (x, ← y) c

      accepts : (c : Comparison) → Codes m m' n (Ends m n local e.ancestor e.front.top) (accepted_to (view_at m n).holdings local e.ancestor e.front.top)
          → judge a local leaf ≡ acceptance a local e.ancestor (shape.bottom ∷ shape.rest) c → Accepts a m' n local leaf e.front.length c.reason ws
      unfolding acceptance
      accepts c s z = record {
        more = each (λ q. orphan a.clock c.reason (rival a (shape.bottom ∷ shape.rest) q) at q) (above a e.ancestor local) ++ each (λ p. promote at p) (shape.bottom ∷ shape.rest);
        judged = z ∙ ap (λ (i : ℕ). accepted i (each (λ q. orphan a.clock c.reason (rival a (shape.bottom ∷ shape.rest) q) at q) (above a e.ancestor local) ++ each (λ p. promote at p) (shape.bottom ∷ shape.rest))) (sym shape.long);
        codes = accepted_to a.holdings local e.ancestor (last shape.bottom shape.rest) g;
        coded = coded_accepted a.holdings (view_at m n).holdings (last shape.bottom shape.rest) e.front.top k.holdings shape.top_is (s.right r.sound accept_ends g cg);
        meant = accepted_meant a local leaf shape.bottom shape.rest shape.safe e.ancestor anc (up canonical) j.local_best j.full in_room c.reason ws g st;
      }

  -- ---- the memory after it ----

  pub judges_none : n ≤ e.ancestor → Judges m m n local leaf e floor per Refused
  judges_none l = record { only = pend_same m n; right = λ r a k j ws g cg st. absurd (omega (arith, j.found)) }

  pub judges_topless : n ≤ e.front.top → Judges m m n local leaf e floor per Refused
  judges_topless l = record { only = pend_same m n; right = λ r a k j ws g cg st. absurd (omega (arith, top_in r a k j)) }

  pub judges_bottomless : n ≤ e.front.bottom → Judges m m n local leaf e floor per Refused
  judges_bottomless l = record { only = pend_same m n; right = λ r a k j ws g cg st. absurd (omega (arith, bottom_in r a k j)) }

  module _ (m' : List ℕ) (x : Bool) (h : Used m local → Used m e.ancestor → x ≡ (proofs_ok (values_of m n canonical local) && below floor (index_of (cells_of m n e.ancestor)) (index_of (cells_of m n local)))) where
    pub judges_floor : x ≡ true → Codes m m' n (Ends m n leaf e.front.bottom local) (refused_to (view_at m n).holdings leaf (is_stale per (index_of (cells_of m n e.front.bottom)) (index_of (cells_of m n local)))) → Judges m m' n local leaf e floor per Refused
    judges_floor t s = record {
      only = s.only;
      right = λ r a k j ws g cg st. refuses r a k j ws g cg st m' s (judge_floor a local leaf e.ancestor (shape r a k j).bottom (shape r a k j).rest (anc r a k j) (shape r a k j).safe (sym (floor_is r a k j x h) ∙ t));
    }

    module _ (c : Comparison) (cs : Compares m n local e.ancestor e.front.top e.front.meets c) (y : Bool) (ad : y ≡ is_adopted c.outcome) (f : x ≡ false) where
      pub judges_kept : y ≡ false → Codes m m' n (Ends m n leaf e.front.bottom local) (refused_to (view_at m n).holdings leaf (is_stale per (index_of (cells_of m n e.front.bottom)) (index_of (cells_of m n local)))) → Judges m m' n local leaf e floor per Refused
      judges_kept t s = record {
        only = s.only;
        right = λ r a k j ws g cg st. refuses r a k j ws g cg st m' s (judge_kept a local leaf e.ancestor (shape r a k j).bottom (shape r a k j).rest (anc r a k j) (shape r a k j).safe c (compared r a k j c cs) (sym (floor_is r a k j x h) ∙ f) (sym ad ∙ t));
      }

      pub judges_taken : (reason : Reason) → reason_means reason ≡ c.reason → y ≡ true → Codes m m' n (Ends m n local e.ancestor e.front.top) (accepted_to (view_at m n).holdings local e.ancestor e.front.top) → Judges m m' n local leaf e floor per (Accepted reason)
      judges_taken reason i t s = record {
        only = s.only;
        right = λ r a k j ws g cg st. rw i (accepts r a k j ws g cg st m' c s (judge_taken a local leaf e.ancestor (shape r a k j).bottom (shape r a k j).rest (anc r a k j) (shape r a k j).safe c (compared r a k j c cs) (sym (floor_is r a k j x h) ∙ f) (sym ad ∙ t)));
      }
