-- `job_records::coefficients` meets its contract: at each turn the first k words stand in the room.
-- Assumes nothing.
use native.Mathlib.Omega.{arith}
use Rattle.job_records.proofs.Spelling.{spell-from, spell-on, spell-end}
use borrow.Author.Rules.{rules}
use Rattle.job_records.proofs.coefficients.Goals as goal

pub loop-k-init : goal.loop-k-init
loop-k-init c = spell-from _ _ (search rules)

pub loop-k-preserved : goal.loop-k-preserved
loop-k-preserved c = spell-on c.loop-k.invariant (omega arith) c.word.ensures

pub returns : goal.returns
returns c = spell-end c.loop-k.invariant (omega arith)
