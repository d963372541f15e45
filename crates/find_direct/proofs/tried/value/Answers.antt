-- `find_direct::tried::value` meets its contract. The loop's invariant: v is the value of the coefficients from i on
-- and the leading 1.
-- Assumes nothing.
use native.Mathlib.Omega.{arith}
use Rattle.find_direct.proofs.Trials.{valued-from, valued-on, valued-end}
use Rattle.find_direct.proofs.tried.value.Goals as goal

pub loop-i-init : goal.loop-i-init
loop-i-init c = let p = c.requires in valued-from p.0 p.2 p.1

pub product11-requires : goal.product11-requires
product11-requires c = (c.requires.2, c.loop-i.invariant.small)

pub bounds-p-i : goal.bounds-p-i
bounds-p-i c = omega (arith, c.loop-i.invariant.within)

pub loop-i-preserved : goal.loop-i-preserved
loop-i-preserved c =
    let p = c.requires in
    valued-on p.0 p.2 c.loop-i.invariant (omega arith) c.product11.ensures

pub returns : goal.returns
returns c = valued-end c.loop-i.invariant (omega arith)
