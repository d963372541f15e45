-- `input::largest` meets its contract: at each turn all coefficients are below a bound if `top` and those ahead
-- are.
-- Assumes nothing.
use mathlib.Core.Path.{refl}
use native.Mathlib.Omega.{arith}
use Rattle.input.proofs.Seeking.{seek-top-raise, seek-top-keep, seek-top-end}
use Rattle.input.proofs.largest.Goals as goal
use Rattle.input.proofs.largest.Goals.{then-top-c, else-top-c}

pub loop-c-preserved : goal.loop-c-preserved
loop-c-preserved c =
    let s = c.loop-c.invariant in
    elim c.if-top-c.branch [
      | then-top-c w ↦ rw w.top-is (seek-top-raise s (omega arith) refl w.if-top-c.true)
      | else-top-c w ↦ rw w.top-is (seek-top-keep s (omega arith) refl w.if-top-c.false)
    ]

pub returns : goal.returns
returns c = record { count = refl; largest = λ h. seek-top-end c.loop-c.invariant (omega arith) }
