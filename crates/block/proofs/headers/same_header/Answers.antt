-- `block::headers::same_header` meets its contract. Each return hands what its tests said to one law on headers.
use borrow.Author.Tests.{eq-eqb, ne_eqb}
use mathlib.Core.Path.{refl, sym, ◌∙◌}
use Rattle.block.specs.Records.{header_means}
use Rattle.block.proofs.HeaderLaws.{header_tests}
use Rattle.block.proofs.headers.same_header.Goals as goal

pub returns-then-not-same : goal.returns-then-not-same
returns-then-not-same c = header_tests (header_means c.args.a) (header_means c.args.b) (sym c.same.ensures ∙ c.if-not-same.true) refl refl refl refl refl

pub returns-then-a-b : goal.returns-then-a-b
returns-then-a-b c = header_tests (header_means c.args.a) (header_means c.args.b) (sym c.same.ensures ∙ c.if-not-same.false) (ne_eqb _ _ c.if-a-b.true) refl refl refl refl

pub returns-then-a-b-2 : goal.returns-then-a-b-2
returns-then-a-b-2 c = header_tests (header_means c.args.a) (header_means c.args.b) (sym c.same.ensures ∙ c.if-not-same.false) (eq-eqb _ _ c.if-a-b.false) (ne_eqb _ _ c.if-a-b-2.true) refl refl refl

pub returns-then-not-same-2 : goal.returns-then-not-same-2
returns-then-not-same-2 c = header_tests (header_means c.args.a) (header_means c.args.b) (sym c.same.ensures ∙ c.if-not-same.false) (eq-eqb _ _ c.if-a-b.false) (eq-eqb _ _ c.if-a-b-2.false) (sym c.same-2.ensures ∙ c.if-not-same-2.true) refl refl

pub returns-then-not-same_reading : goal.returns-then-not-same_reading
returns-then-not-same_reading c = header_tests (header_means c.args.a) (header_means c.args.b) (sym c.same.ensures ∙ c.if-not-same.false) (eq-eqb _ _ c.if-a-b.false) (eq-eqb _ _ c.if-a-b-2.false) (sym c.same-2.ensures ∙ c.if-not-same-2.false) (sym c.same_reading.ensures ∙ c.if-not-same_reading.true) refl

pub returns : goal.returns
returns c = header_tests (header_means c.args.a) (header_means c.args.b) (sym c.same.ensures ∙ c.if-not-same.false) (eq-eqb _ _ c.if-a-b.false) (eq-eqb _ _ c.if-a-b-2.false) (sym c.same-2.ensures ∙ c.if-not-same-2.false) (sym c.same_reading.ensures ∙ c.if-not-same_reading.false) (sym c.same_reading-2.ensures)
