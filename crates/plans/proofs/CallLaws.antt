-- A plan as a call: the memory is whole again and stands for the same state, and what is answered is the model's.
use mathlib.Core.Path.{◌≡◌, refl, sym, ap, subst, ◌∙◌}
use mathlib.Core.Bool.{true, not}
use mathlib.Core.List.{List, [], ◌∷◌}
use mathlib.Core.Option.{Option, none, some}
use Prim.Native.Nat.{ℕ, zero, suc, ◌+◌, ◌≤◌, ◌<◌}
use native.Mathlib.Omega.{arith}
use lib.Dec.{eqb, ltb}
use lib.IntN.{ℤ}
use lib.ListN.{length, take}
use borrow.Author.Tests.{eq-eqb, ne_eqb, eqb-true, eqb-false, lt-ltb, le-ltb, le-leb}
use Rattle.amount.specs.Choose.{◌if◌else◌}
use Rattle.model.specs.Holding.{Holdings, is_live, live_count}
use Rattle.model.specs.Numbers.{State}
use Rattle.model.specs.Plans.{PlanCall, applied, asked, plan_of, hand_back, plan_reply, plan_lent, ask_plan}
use Rattle.model.specs.Record.{Reason}
use Rattle.model.specs.Runs.{Run}
use Rattle.model.specs.Walks.{Asked}
use Rattle.model.specs.Lists.{those}
use Rattle.model.specs.Writes as model
use Rattle.model.proofs.Tools.{by_bool, no_none, not_is, not_is_true}
use Rattle.model.proofs.ListLaws.{count_mono}
use Rattle.model.proofs.Entries.{those-length, sorted-length, each-length}
use Rattle.block.specs.Answers.{done_number, planned_reply}
use Rattle.block.specs.Records.{reason_means}
use Rattle.block.specs.declared.Done.{Done}
use Rattle.block.specs.declared.Done.TheVariants.{Done as Accepted, Refused as DoneRefused}
use Rattle.block.specs.declared.Reason.{Reason as Why}
use Rattle.block.specs.declared.Refusal.{Refusal}
use Rattle.block.proofs.AnswerLaws.{refusal_is_none}
use Rattle.block.specs.declared.Refusal.TheVariants.{Room, Stale, List as Short}
use Rattle.block.specs.declared.Planned.{Planned}
use Rattle.block.specs.declared.Planned.TheVariants.{Scan, Apply, Refused}
use Rattle.memory.specs.Words.{word}
use Rattle.memory.specs.Layout.{nodes, Laid}
use Rattle.state.specs.View.{view_at}
use Rattle.state.specs.Sound.{Used, SoundAt}
use Rattle.state.proofs.TreeSteps.{tree_sound, tree_used}
use Rattle.kin.specs.Kin.{up_at}
use Rattle.relink.specs.Treed.{Listless, Treed, TreedWords}
use Rattle.relink.proofs.TreedLaws.{treed_frame, parent_used, listless_same}
use Rattle.asking.specs.Whole.{WholeAt}
use Rattle.writing.specs.Coded.{Coded}
use Rattle.writing.specs.Meant.{Meant}
use Rattle.writing.specs.Planned.{writes_of}
use Rattle.writing.specs.Decides.{changed_by, decided_changed, decided_reason, Decides, ScratchOnly}
use Rattle.writing.specs.declared.Decided.{Decided}
use Rattle.writing.specs.declared.Decided.TheVariants.{Scan as NoPlan, Apply as ThePlan}
use Rattle.writing.proofs.CodeLaws.{coded_same}
use Rattle.writing.proofs.UserLaws.{coded_idle}
use Rattle.writing.proofs.ScratchLaws.{scratch_laid, scratch_tree, scratch_then, scratch_view, pend_scratch}
use Rattle.entries.specs.declared.Entry.{Entry}
use Rattle.entries.specs.Handing.{meanings, AllPlain, HandedOut, HandsOut}
use Rattle.deciding.specs.Plots.{Plots}
use Rattle.plans.specs.Lent.{places_in, entries_in, WritesOut}
use Rattle.plans.specs.Opened.{begun_of, room_in, reason_in, planned_of, Opens, Finishes}
use Rattle.plans.specs.Plan.{handed, Replies, Plans, Begins}
use Rattle.plans.specs.declared.Begun.{Begun}
use Rattle.plans.specs.declared.Begun.TheVariants.{Answered, Writes}
use Rattle.plans.proofs.OutLaws.{places_are, first_none}

-- ---- the memory is whole again ----

module _ (m m' : List ℕ) (n : ℕ) (o : ScratchOnly m m' n) where
  scratch_words : Treed m n → Listless m' n → TreedWords m m' n
  scratch_words t l = record {
    long = o.long;
    size = o.head 14 (omega arith);
    rows = λ q k h x y z u v. o.rows q k h y (λ e. omega arith) z u v;
    headers = λ q k h u x y. o.rows q k h (omega arith) (λ e. omega arith) (λ e. omega arith) (λ e. omega arith) (λ e. omega arith);
    ranks = λ a x y. o.before a (omega arith) y;
    leaves = λ a x y. o.after a (omega arith);
    linked = λ q h e. still_used q h (t.linked q h e);
    canonical = λ q h e. still_used q h (t.canonical q h e);
    parents = λ q h e l. still_used (up_at m q) l (parent_used m n t q h e l);
    listless = λ _. l;
  }
    where
      still_used : (q : ℕ) → q < n → Used m q → Used m' q
      still_used q h u = tree_used m m' n (scratch_tree m m' n o) q h ∙ u

  pub whole_again : WholeAt m n → Listless m' n → Coded m' n (λ q. 0) → WholeAt m' n
  whole_again w l c = record {
    sound = tree_sound m m' n (scratch_tree m m' n o) w.sound;
    treed = treed_frame m m' n w.sound.laid w.treed (scratch_words w.treed l);
    idle = coded_idle m' n c;
    run = subst (λ (s : State). Run s) (sym (scratch_view m m' n o)) w.run;
  }

-- ---- 12, 13 ----

module _ (m : List ℕ) (n places : ℕ) where
  pub begins_nowhere : n ≡ 0 → Begins m n places (DoneRefused Room)
  begins_nowhere e = record { number_is = λ w. let o = w.sound.laid.some in absurd (omega arith); some = λ z. absurd (omega (arith, z)); fresh = λ z. absurd (omega (arith, z)); enough = λ z. absurd (omega (arith, z)) }

  pub begins_stale : (word m 7 ≡ 1 → ⊥) → Begins m n places (DoneRefused Stale)
  unfolding view_at
  begins_stale ne = record { number_is = λ w. rw (ne_eqb (word m 7) 1 ne); some = λ z. absurd (omega (arith, z)); fresh = λ z. absurd (omega (arith, z)); enough = λ z. absurd (omega (arith, z)) }

  fresh_is : word m 7 ≡ 1 → (view_at m n).fresh ≡ true
  unfolding view_at
  fresh_is f = eq-eqb (word m 7) 1 f

  number_fresh : WholeAt m n → word m 7 ≡ 1 → ◌≡◌ {A = ℕ} (12 if not (view_at m n).fresh else 13 if ltb places (live_count (view_at m n).holdings) else 0) (13 if ltb places (word m 12) else 0)
  number_fresh w f =
      let e : (view_at m n).fresh ≡ true = fresh_is f in
      let z : word m 12 ≡ live_count (view_at m n).holdings = w.sound.live in
      rw (e, z)

  pub begins_short : word m 7 ≡ 1 → places < word m 12 → Begins m n places (DoneRefused Short)
  begins_short f l = record { number_is = λ w. sym (number_fresh w f ∙ rw (lt-ltb places (word m 12) l)); some = λ z. absurd (omega (arith, z)); fresh = λ z. f; enough = λ z. absurd (omega (arith, z)) }

  pub begins_done : (n ≡ 0 → ⊥) → word m 7 ≡ 1 → word m 12 ≤ places → Begins m n places Accepted
  begins_done ne f l = record { number_is = λ w. sym (number_fresh w f ∙ rw (le-ltb places (word m 12) l)); some = λ z. ne; fresh = λ z. f; enough = λ z. l }

-- ---- done ----

pub take-meanings : (k : ℕ) (l : List Entry) → take k (meanings l) ≡ meanings (take k l)
take-meanings zero l = refl
take-meanings (suc k) [] = refl
take-meanings (suc k) (e ∷ l) = ap {B = List model.Entry} (λ r. Rattle.entries.specs.Entries.entry_means e ∷ r) (take-meanings k l)

meanings-length : (l : List Entry) → length (meanings l) ≡ length l
meanings-length [] = refl
meanings-length (e ∷ l) = ap suc (meanings-length l)

-- a plan without `changed` scans; one with it has changes
scan_is : (p : model.Plan) → none ≡ changed_by p → p ≡ model.scan
scan_is model.scan e = refl
scan_is (model.apply k ws) e = no_none (some k) (sym e) refl

record Applies (p : model.Plan) (k : ℕ) : Type 0 where
  writes : List model.Write
  plan_is : p ≡ model.apply k writes

apply_is : (p : model.Plan) (k : ℕ) → some k ≡ changed_by p → Applies p k
apply_is model.scan k e = no_none (some k) e refl
apply_is (model.apply j ws) k e = record { writes = ws; plan_is = ap (λ (o : Option ℕ). model.apply (or_zero o) ws) (sym e) }
  where
    or_zero : Option ℕ → ℕ
    or_zero none = 0
    or_zero (some x) = x

-- what is written is live, so there are no more entries than live blocks
entries_few : (h : Holdings) (ws : List model.Write) → ((q : ℕ) → q < h.room → model.touched ws q ≡ true → is_live (h.cells q) ≡ true) → length (model.entries h ws) ≤ live_count h
unfolding model.entries
entries_few h ws live = omega (arith, each-length (model.entry_at h ws) (model.places_of h ws), sorted-length (model.earlier h) (those (model.touched ws) h.room), those-length (model.touched ws) h.room, count_mono (λ p. is_live (h.cells p)) (model.touched ws) h.room live)

-- what is written is live
touched_live : (m m₁ : List ℕ) (n : ℕ) → ScratchOnly m m₁ n → (clock : ℤ) (reason : Reason) (ws : List model.Write) (f : ℕ → ℕ) → Coded m₁ n f → Meant (view_at m n).holdings clock reason ws f
    → (q : ℕ) → q < (view_at m n).holdings.room → model.touched ws q ≡ true → is_live ((view_at m n).holdings.cells q) ≡ true
unfolding view_at
touched_live m m₁ n o clock reason ws f c e q h t =
    let z : not (eqb (f q) 0) ≡ true = sym (e.written q h) ∙ t in
    let ne : f q ≡ 0 → ⊥ = λ y. eqb-false (f q) 0 (not_is_true (eqb (f q) 0) z) y in
    ap (λ (s : State). is_live (s.holdings.cells q)) (sym (scratch_view m m₁ n o)) ∙ c.live q h ne

-- the memory m, m₁ after the core, m₂ after the entries went out
module _ (c : PlanCall) (plan : Asked → model.Plan) (floor : Option ℕ) (per : ℕ) (clock : ℤ) (same : (s : State) → plan_of c s ≡ plan (asked s floor per clock))
    (m m₁ m₂ : List ℕ) (n places : ℕ) (lent : plan_lent c ≡ places) (d : Decided) (b : Begins m n places Accepted) (k : Plots plan m m₁ n floor per d) where
  abbrev the : Asked
  the = asked (view_at m n) floor per clock

  fresh : word m 7 ≡ 1
  fresh = b.fresh refl

  decides : WholeAt m n → Decides (plan the) m m₁ n clock d
  decides w = k.right w fresh the (record { holdings = refl; values = refl; floor_is = refl; per_is = refl })

  number : WholeAt m n → ◌≡◌ {A = ℕ} 0 (ask_plan c (view_at m n))
  number w = b.number_is w ∙ rw lent

  -- nothing is written
  module _ (is_scan : d ≡ NoPlan) where
    plan_scans : WholeAt m n → plan the ≡ model.scan
    plan_scans w = scan_is (plan the) (ap decided_changed (sym is_scan) ∙ (decides w).changed)

    empty : WholeAt m n → Coded m₁ n (λ q. 0)
    unfolding view_at model.touched
    empty w =
        let e = (decides w).planned in
        let z : (q : ℕ) → q < n → e.codes q ≡ 0 = λ q h. eqb-true (e.codes q) 0 (not_is (eqb (e.codes q) 0) (sym (e.meant.written q h) ∙ ap (λ (p : model.Plan). model.touched (writes_of p) q) (plan_scans w))) in
        coded_same m₁ n e.codes (λ q. 0) z e.coded

    -- (whatever stands in the list)
    pub replies_scan : (after : List model.Entry) → m₂ ≡ m₁ → Replies c m m₂ n after Scan
    replies_scan after e = rw e (record {
      refused = λ ne. absurd (ne refl);
      whole = λ w. whole_again m m₁ n k.only w (k.listless w fresh) (empty w);
      view = λ w. scratch_view m m₁ n k.only;
      number_is = number;
      reply_is = λ w z. sym (ap (hand_back (view_at m n).holdings) (same (view_at m n) ∙ plan_scans w));
      fits = λ w. omega arith;
    })

  -- the entries went out
  module _ (changed : ℕ) (reason : Reason) (is_plan : (decided_changed d ≡ some changed) × (decided_reason d ≡ reason)) (es es' : List Entry) (room : length es ≡ places) (count : ℕ)
      (hands : HandsOut m₁ m₂ n clock reason es es' count) where
    applies : WholeAt m n → Applies (plan the) changed
    applies w = apply_is (plan the) changed (sym is_plan.0 ∙ (decides w).changed)

    meant_here : (w : WholeAt m n) → Meant (view_at m n).holdings clock reason (applies w).writes (decides w).planned.codes
    meant_here w =
        subst (λ (r : Reason). Meant (view_at m n).holdings clock r (applies w).writes (decides w).planned.codes) is_plan.1
        (subst (λ (p : model.Plan). Meant (view_at m n).holdings clock (decided_reason d) (writes_of p) (decides w).planned.codes) (applies w).plan_is (decides w).planned.meant)

    few : (w : WholeAt m n) → length (model.entries (view_at m₁ n).holdings (applies w).writes) ≤ length es
    few w =
        let l = entries_few (view_at m n).holdings (applies w).writes (touched_live m m₁ n k.only clock reason (applies w).writes (decides w).planned.codes (decides w).planned.coded (meant_here w)) in
        rw (scratch_view m m₁ n k.only) (omega (arith, room, b.enough refl, w.sound.live))

    -- what is handed out, of a whole memory
    out : (w : WholeAt m n) → HandedOut m₁ m₂ n (applies w).writes es' count
    out w =
        let s : SoundAt m₁ n = tree_sound m m₁ n (scratch_tree m m₁ n k.only) w.sound in
        hands.right s (decides w).planned.codes (applies w).writes (decides w).planned.coded (rw (scratch_view m m₁ n k.only) (meant_here w)) (few w)

    only : ScratchOnly m m₂ n
    only = scratch_then m m₁ m₂ n k.only (pend_scratch m₁ m₂ n hands.only)

    listless : WholeAt m n → Listless m₂ n
    listless w =
        let o = hands.only in
        listless_same m₁ m₂ n (tree_sound m m₁ n (scratch_tree m m₁ n k.only) w.sound).laid (λ q h. o.rows q 63 h (omega arith) (λ e. omega arith) (λ e. omega arith)) (λ j h. o.after (nodes n 4 + j) (omega arith)) (k.listless w fresh)

    long : (w : WholeAt m n) → count ≤ length (meanings es')
    long w = omega (arith, meanings-length es', (out w).number_is, few w, hands.long)

    reply : (w : WholeAt m n) → planned_reply (meanings es') (Apply changed count) ≡ plan_reply c (view_at m n)
    reply w =
        let o = out w in
        let v = scratch_view m m₁ n k.only in
        (rw (le-leb count (length (meanings es')) (long w)))
        ∙ ap (applied changed) (take-meanings count es' ∙ o.list_is ∙ rw v)
        ∙ sym (ap (hand_back (view_at m n).holdings) (same (view_at m n) ∙ (applies w).plan_is))

    pub replies_apply : Replies c m m₂ n (meanings es') (Apply changed count)
    replies_apply = record {
      refused = λ ne. absurd (ne refl);
      whole = λ w. whole_again m m₂ n only w (listless w) (out w).empty;
      view = λ w. scratch_view m m₂ n only;
      number_is = number;
      reply_is = λ w z. reply w;
      fits = long;
    }

-- ---- up to the entries ----

-- a call reads the room, which is the memory's where it is whole
replies_whole : (c : PlanCall) (m m' : List ℕ) (n : ℕ) (after : List model.Entry) (x : Planned) → (Laid m (word m 0) → n ≡ word m 0) → Replies c m m' n after x → Replies c m m' (word m 0) after x
replies_whole c m m' n after x e l = record {
  refused = l.refused;
  whole = λ w. (moved w).whole w;
  view = λ w. (moved w).view w;
  number_is = λ w. (moved w).number_is w;
  reply_is = λ w. (moved w).reply_is w;
  fits = λ w. (moved w).fits w;
}
  where
    moved : WholeAt m (word m 0) → Replies c m m' (word m 0) after x
    moved w = subst (λ (i : ℕ). Replies c m m' i after x) (e w.sound.laid) l

module _ (c : ℤ → PlanCall) (places : ℕ) (lent : (clock : ℤ) → plan_lent (c clock) ≡ places) (m : List ℕ) (n : ℕ) (e : Laid m (word m 0) → n ≡ word m 0) (begun : Done) (b : Begins m n places begun) where
  pub opens_refused : (r : Refusal) → begun ≡ DoneRefused r → Opens c places m m (Answered (Refused r))
  opens_refused r z = record {
    laid = λ ne. absurd (ne refl);
    answered = λ _ clock after k. replies_whole (c clock) m m n after (Refused r) e (record {
      refused = λ _. refl;
      whole = λ w. w;
      view = λ w. refl;
      number_is = λ w. ap done_number (sym z) ∙ b.number_is w ∙ rw (lent clock);
      reply_is = λ w y. absurd (refusal_is_none r y);
      fits = λ w. omega arith;
    });
    none = λ _ k. refl;
    writes = λ ne. absurd (ne refl);
  }

  -- what the core decided
  module _ (plan : Asked → model.Plan) (floor : Option ℕ) (per : ℕ) (same : (clock : ℤ) (s : State) → plan_of (c clock) s ≡ plan (asked s floor per clock)) (laid : Laid m n) (z : begun ≡ Accepted) (m₁ : List ℕ) where
    done : Begins m n places Accepted
    done = subst (Begins m n places) z b

    opens : (d : Decided) → Plots plan m m₁ n floor per d → Opens c places m m₁ (begun_of n d)
    opens NoPlan k = record {
      laid = λ ne. absurd (ne refl);
      answered = λ _ clock after j. replies_whole (c clock) m m₁ n after Scan e (replies_scan (c clock) plan floor per clock (same clock) m m₁ m₁ n places (lent clock) NoPlan done k refl after refl);
      none = λ _ j. refl;
      writes = λ ne. absurd (ne refl);
    }
    opens (ThePlan changed reason) k = record {
      laid = λ ne. scratch_laid m m₁ n k.only laid;
      answered = λ y. absurd (done.some refl y);
      none = λ y. absurd (done.some refl y);
      writes = λ ne clock m₂ es es' j room hands. replies_whole (c clock) m m₂ n (meanings es') (Apply changed j) e
          (replies_apply (c clock) plan floor per clock (same clock) m m₁ m₂ n places (lent clock) (ThePlan changed reason) done k changed (reason_means reason) (refl, refl) es es' room j hands);
    }

    pub opens_done : (d : Decided) (r : Begun) → r ≡ begun_of n d → Plots plan m m₁ n floor per d → Opens c places m m₁ r
    opens_done d r is k = subst (Opens c places m m₁) (sym is) (opens d k)

-- ---- the entries in a list of words ----

module _ (c : ℤ → PlanCall) (clock : ℤ) (m m₁ m₂ list list' : List ℕ) (x : Planned) where
  -- nothing goes out
  none_out : (b : Begun) → room_in b ≡ 0 → Opens c (places_in list) m m₁ b → Finishes m₁ m₂ b clock list list' x → Plans (c clock) m m₂ list list' x
  none_out b z o f = subst (λ (y : Planned). Plans (c clock) m m₂ list list' y) (sym f.is) (rw ((f.none z).0, (f.none z).1) (record {
    replies = o.answered z clock (meanings (entries_in list)) f.count;
    list_only = first_none list (handed (planned_of b f.count));
    plain = subst (λ (j : ℕ). AllPlain (take j (entries_in list))) (sym (o.none z f.count)) tt;
  }))

  pub plan_finished : (b : Begun) → Opens c (places_in list) m m₁ b → Finishes m₁ m₂ b clock list list' x → Plans (c clock) m m₂ list list' x
  plan_finished (Answered y) o f = none_out (Answered y) refl o f
  plan_finished (Writes n changed reason) o f = by_bool (eqb n 0) (λ z. none_out (Writes n changed reason) (eqb-true n 0 z) o f) (λ z.
      let out = f.some (eqb-false n 0 z) in
      subst (λ (y : Planned). Plans (c clock) m m₂ list list' y) (sym f.is) (record {
        replies = o.writes (eqb-false n 0 z) clock m₂ (entries_in list) (entries_in list') f.count (places_are list) out.hands;
        list_only = out.only;
        plain = out.hands.plain;
      }))

-- ---- either way, of what the steps read from what was begun ----

module _ (m : List ℕ) (b : Begun) (clock : ℤ) (list : List ℕ) (x : Planned) (n : ℕ) (e : n ≡ room_in b) where
  pub finish_none : n ≡ 0 → x ≡ planned_of b 0 → Finishes m m b clock list list x
  finish_none z is = record { count = 0; is = is; none = λ _. (refl, refl); some = λ ne. absurd (ne (sym e ∙ z)) }

  pub finish_some : (n ≡ 0 → ⊥) → (m' list' : List ℕ) (k : ℕ) (reason : Why) → reason ≡ reason_in b → WritesOut m m' n clock (reason_means reason) list list' k → x ≡ planned_of b k → Finishes m m' b clock list list' x
  finish_some ne m' list' k reason r out is = record { count = k; is = is; none = λ z. absurd (ne (e ∙ z)); some = λ _. rw (sym e, sym r) out }
