-- `asking::show_live` meets its contract.
use mathlib.Core.Path.{refl, sym, ◌∙◌}
use Rattle.asking.proofs.TreeAskLaws.{live_out, live_dead, live_shown}
use Rattle.asking.proofs.show_live.Goals as goal

pub returns-then-n-p : goal.returns-then-n-p
returns-then-n-p c = let a = c.args in record { number = refl; reply = live_out a.mem.now a.n a.p c.if-n-p.true }

pub returns-then-live : goal.returns-then-live
returns-then-live c = let a = c.args in
    record { number = c.show.ensures.number; reply = c.show.ensures.reply ∙ live_shown a.mem.now a.n a.p c.if-n-p.false (sym c.live.ensures ∙ c.if-live.true) }

pub returns : goal.returns
returns c = let a = c.args in record { number = refl; reply = live_dead a.mem.now a.n a.p c.if-n-p.false (sym c.live.ensures ∙ c.if-live.false) }
