-- `take_lines` goes on behind a line, which ends within the text.
use Rattle.std.proofs.Common.{rules, ◌≤◌, length}
use native.Mathlib.Omega.{arith}
use Rattle.job_lists.proofs.Ends.{end-within}
use Rattle.jobs.proofs.take_lines.Goals as goal

pub overflow_add-at : goal.overflow_add-at
overflow_add-at c = let w = end-within c.args.text.now c.loop-at.at (omega arith) in omega (arith, c.in_ok-at.ensures, w)

pub loop-at-preserved : goal.loop-at-preserved
loop-at-preserved c =
    let w = end-within c.args.text.now c.loop-at.at (omega arith) in
    (omega (arith, c.in_ok-at.ensures, w), omega (arith, c.in_ok-at.ensures, w))
