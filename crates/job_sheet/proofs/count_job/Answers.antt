-- `job_sheet::count_job` meets its contract: the record is solved, and its roots, steps and limit are counted.
-- Assumes nothing.
use Rattle.std.proofs.Common.{arith, lit≤}
use Rattle.job_sheet.proofs.Solved.{job-passes, job-few, job-limit-fits, job-counts}
use Rattle.job_sheet.proofs.count_job.Goals as goal

pub solve_job-done-requires : goal.solve_job-done-requires
solve_job-done-requires c = (job-passes c.requires c.body-bytes.ensures, lit≤ tt)

pub step_limit-limit-requires : goal.step_limit-limit-requires
step_limit-limit-requires c =
    let v = c in
    let b = v in
    job-few b.requires b.body-bytes.ensures v.solve_job-done.ensures

pub overflow_cast-result : goal.overflow_cast-result
overflow_cast-result c =
    let f = c in
    let v = f in
    let b = v in
    omega (
      arith,
      job-limit-fits b.requires b.body-bytes.ensures v.solve_job-done.ensures f.cutoff_in_force.ensures
          c.step_limit-limit.ensures,
    )

pub returns : goal.returns
returns c =
    let f = c in
    let v = f in
    let b = v in
    job-counts b.requires b.body-bytes.ensures v.solve_job-done.ensures f.cutoff_in_force.ensures
    c.step_limit-limit.ensures
