-- `job_records::largest` meets its contract: at each turn all words are below a bound if `top` and those ahead are.
-- Assumes nothing.
use native.Mathlib.Omega.{arith}
use mathlib.Core.Path.{refl}
use Rattle.job_records.proofs.Words.{length-words}
use Rattle.job_records.proofs.Spelling.{top_from, top-raise, top-keep, top-end}
use Rattle.job_records.proofs.largest.Goals as goal
use Rattle.job_records.proofs.largest.Goals.{then-top-w, else-top-w}

pub returns-then-n-gt-COEFFICIENTS : goal.returns-then-n-gt-COEFFICIENTS
returns-then-n-gt-COEFFICIENTS c = record { count = refl; largest = λ h. absurd (omega (arith, length-words c.args.bytes.now)) }

pub loop-k-init : goal.loop-k-init
loop-k-init c = top_from _

pub loop-k-preserved : goal.loop-k-preserved
loop-k-preserved c =
    let s = c.loop-k.invariant in
    elim c.if-top-w.branch [
      | then-top-w w ↦ rw w.top-is (top-raise s (omega arith) c.word-w.ensures w.if-top-w.true)
      | else-top-w w ↦ rw w.top-is (top-keep s (omega arith) c.word-w.ensures w.if-top-w.false)
    ]

pub returns : goal.returns
returns c = record { count = refl; largest = λ h. top-end c.loop-k.invariant (omega arith) }
