-- Document 01, "Either side of a line", as one small table: each row is computed from the definitions.
use Prim.Native.Nat.{ℕ}
use mathlib.Core.Path.{◌≡◌, refl}
use mathlib.Core.Bool.{true, false}
use mathlib.Core.Option.{none, some}
use mathlib.Core.List.{[], ◌∷◌}
use Rattle.amount.specs.Amounts.{readable, unreadable, reading}
use Rattle.amount.proofs.EitherSide as amounts
use Rattle.amount.proofs.EitherSide.{bytes}
use Rattle.model.specs.Record.{Header, Block}
use Rattle.model.specs.Standing.{linked}
use Rattle.model.specs.Comparing.{covers}
use Rattle.model.specs.Adopt.{is_stale}
use Rattle.model.specs.Questions.{TreeQuestion, linked_q, best_q, leaves_q, Reply, worth, tip, listed, tree_reply}
use Rattle.model.specs.Numbers.{State, put, sync, begin, step}
use Rattle.model.proofs.Cases.{everything}

-- a header of which only index and epoch matter
abbrev at : ℕ → ℕ → Header
at index epoch = record { hash = 1; index = index; epoch = epoch; prev = 0; target = readable 1; actual = readable 1 }

-- Genesis G, actual 5, target 5; children A (actual 3, target 3) and B (3, 4).
abbrev block : ℕ → ℕ → ℕ → ℕ → ℕ → Block
block hash index prev actual target =
    record { header = record { hash = hash; index = index; epoch = 0; prev = prev; target = readable target; actual = readable actual }; copy = record { orphaned = false; canonical = false; time = none; reason = none; competing = none } }

abbrev g : Block
g = block 10 0 0 5 5

abbrev a : Block
a = block 20 1 10 3 3

abbrev b : Block
b = block 30 1 10 3 4

abbrev family : State
family = step sync (step (put 0 b) (step (put 0 a) (step (put 0 g) (begin 3 3 1 0))))

abbrev answer : TreeQuestion → Reply
answer q = tree_reply family.holdings family.values q

pub record Table : Type 0 where
  -- "" unreadable; "+7" and "007" are 7; "-0" and "+" unreadable; the largest value readable, one more not
  pub nothing : reading (bytes "") ≡ unreadable
  pub plus_seven : reading (bytes "+7") ≡ readable 7
  pub zero_zero_seven : reading (bytes "007") ≡ readable 7
  pub minus_zero : reading (bytes "-0") ≡ unreadable
  pub plus_alone : reading (bytes "+") ≡ unreadable
  pub largest : reading (bytes "340282366920938463463374607431768211455") ≡ readable 340282366920938463463374607431768211455
  pub one_more : reading (bytes "340282366920938463463374607431768211456") ≡ unreadable
  -- n = 10, epoch 2: index 9 covers, 8 doesn't
  pub nine_covers : covers 10 (at 9 2) ≡ true
  pub eight_does_not : covers 10 (at 8 2) ≡ false
  -- n = 10, local index 25: bottom 5 stale, 6 not
  pub five_stale : is_stale 10 5 25 ≡ true
  pub six_not : is_stale 10 6 25 ≡ false
  -- both work 8, proofs ok for A only, both leaves, best is the lower hash
  pub a_linked : answer (linked_q 20) ≡ worth (linked 8 true)
  pub b_linked : answer (linked_q 30) ≡ worth (linked 8 false)
  pub both_leaves : answer (leaves_q 2) ≡ listed (some (20 ∷ 30 ∷ []))
  pub lower_hash_lem : answer best_q ≡ tip (some a) (linked 8 true)

pub table : Table
unfolding everything covers
table = record {
  nothing = amounts.nothing;
  plus_seven = amounts.plus_seven;
  zero_zero_seven = amounts.zero_zero_seven;
  minus_zero = amounts.minus_zero;
  plus_alone = amounts.plus_alone;
  largest = amounts.largest;
  one_more = amounts.one_more;
  nine_covers = refl;
  eight_does_not = refl;
  five_stale = refl;
  six_not = refl;
  a_linked = refl;
  b_linked = refl;
  both_leaves = refl;
  lower_hash_lem = refl;
}
