-- `poly_small::checked::all_roots` meets its contract. The loop's invariant: the numbers passed are roots, ascending.
-- Assumes nothing.
use mathlib.Core.Path.{sym, ◌∙◌}
use mathlib.Core.Bool.{true≢false}
use native.Mathlib.Omega.{arith}
use Rattle.poly_small.proofs.Trials.{try-from, try-on, try-asks, try-size, try-all}
use Rattle.poly_small.proofs.checked.all_roots.Goals as goal

pub loop-i-init : goal.loop-i-init
loop-i-init c = try-from (try-size c.args.tables.now.lent c.requires)

pub returns-then-x-bound : goal.returns-then-x-bound
returns-then-x-bound c = λ e. absurd (true≢false (sym e))

pub evaluate-requires : goal.evaluate-requires
evaluate-requires c = try-asks c.args.tables.now.lent c.requires c.loop-i.invariant (omega arith)

pub returns-then-evaluate-ne0 : goal.returns-then-evaluate-ne0
returns-then-evaluate-ne0 c = λ e. absurd (true≢false (sym e))

pub loop-i-preserved : goal.loop-i-preserved
loop-i-preserved c = try-on c.loop-i.invariant (omega arith) (omega arith) (sym c.evaluate.ensures ∙ c.if-evaluate-ne0.false)

pub returns : goal.returns
returns c = λ e. try-all c.args.tables.now.lent c.requires c.loop-i.invariant (omega arith)
