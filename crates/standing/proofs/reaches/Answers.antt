-- `standing::reaches` meets its contract. What `amount::compare` promises is two tests.
use Rattle.amount.specs.Value.{value}
use Rattle.amount.proofs.Promises.{on_less, on_equal, on_greater}
use Rattle.values.proofs.ValueLaws.{reached, unreached}
use Rattle.standing.proofs.reaches.Goals as goal

pub returns-in-Less-compare : goal.returns-in-Less-compare
returns-in-Less-compare c = let t = c.args.t in let a = c.args.a in reached _ (value t) (value a) _ c.zero.ensures.exact (on_less (value c.zero.result) (value t) c.compare.ensures c.in-Less.is).less_is (on_less (value t) (value a) c.compare-in-Less.ensures c.in-Less-compare.is).at_most_is

pub returns-in-Equal-compare : goal.returns-in-Equal-compare
returns-in-Equal-compare c = let t = c.args.t in let a = c.args.a in reached _ (value t) (value a) _ c.zero.ensures.exact (on_less (value c.zero.result) (value t) c.compare.ensures c.in-Less.is).less_is (on_equal (value t) (value a) c.compare-in-Less.ensures c.in-Equal-compare.is).at_most_is

pub returns-in-Greater-compare : goal.returns-in-Greater-compare
returns-in-Greater-compare c = let t = c.args.t in let a = c.args.a in reached _ (value t) (value a) _ c.zero.ensures.exact (on_less (value c.zero.result) (value t) c.compare.ensures c.in-Less.is).less_is (on_greater (value t) (value a) c.compare-in-Less.ensures c.in-Greater-compare.is).at_most_is

pub returns-in-Equal : goal.returns-in-Equal
returns-in-Equal c = let t = c.args.t in unreached _ (value t) (value c.args.a) c.zero.ensures.exact (on_equal (value c.zero.result) (value t) c.compare.ensures c.in-Equal.is).less_is

pub returns-in-Greater : goal.returns-in-Greater
returns-in-Greater c = let t = c.args.t in unreached _ (value t) (value c.args.a) c.zero.ensures.exact (on_greater (value c.zero.result) (value t) c.compare.ensures c.in-Greater.is).less_is
