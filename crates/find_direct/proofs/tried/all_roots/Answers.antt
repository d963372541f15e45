-- `find_direct::tried::all_roots` meets its contract. The loop's invariant: the numbers passed are roots, ascending.
-- Assumes nothing.
use mathlib.Core.Path.{refl, sym, ◌∙◌}
use mathlib.Core.Bool.{true≢false}
use native.Mathlib.Omega.{arith}
use Rattle.poly_small.proofs.Trials.{try-from, try-on, try-end}
use Rattle.find_direct.proofs.Trials.{numbers11}
use Rattle.find_direct.proofs.tried.all_roots.Goals as goal

pub loop-i-init : goal.loop-i-init
loop-i-init c = try-from (omega arith)

pub returns-then-x-bound : goal.returns-then-x-bound
returns-then-x-bound c = λ e. absurd (true≢false (sym e))

pub value-requires : goal.value-requires
value-requires c =
    let pre = c.requires in
    (pre.0, omega (arith, pre.1, c.loop-i.invariant.within), omega (arith, c.loop-i.invariant.limit))

pub returns-then-value-ne0 : goal.returns-then-value-ne0
returns-then-value-ne0 c = λ e. absurd (true≢false (sym e))

pub loop-i-preserved : goal.loop-i-preserved
loop-i-preserved c = try-on c.loop-i.invariant (omega arith) (omega arith) (sym c.value.ensures ∙ c.if-value-ne0.false)

pub returns : goal.returns
returns c = λ e.
    let start = c in
    try-end c.loop-i.invariant numbers11 start.args.p.now start.requires.0 refl start.requires.1 (omega arith)
