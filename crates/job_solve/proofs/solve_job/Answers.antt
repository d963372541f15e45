-- `job_solve::solve_job` meets its contract: the coefficients are spelled, and the engine takes them at the cutoff in
-- force.
-- Assumes nothing.
use mathlib.Core.Path.{sym}
use native.Mathlib.Omega.{arith}
use lib.Seq.{length-take-le}
use Rattle.job_solve.proofs.Solving.{accepted-in, solve-asks, solved-spelled}
use Rattle.job_solve.proofs.solve_job.Goals as goal

pub coefficients-n-requires : goal.coefficients-n-requires
coefficients-n-requires c =
    omega (arith, (accepted-in c.requires.0).few)

pub slice_bounds-room-end : goal.slice_bounds-room-end
slice_bounds-room-end c =
    let h = c in
    omega (arith, (accepted-in h.requires.0).few, h.coefficients-n.ensures.count, h.coefficients-n.auto.room)

pub slice_bounds-solve_in-end : goal.slice_bounds-solve_in-end
slice_bounds-solve_in-end c =
    let h = c in
    sym (length-take-le _ _ (omega (arith, (accepted-in h.requires.0).few, h.coefficients-n.ensures.count)))

pub solve_in-requires : goal.solve_in-requires
solve_in-requires c =
    let f = c in
    let h = f in
    let s = h in
    solve-asks h.coefficients-n.ensures s.requires.0 f.cutoff_in_force.ensures s.args.roots.now s.requires.1

pub returns : goal.returns
returns c =
    let v = c in
    let f = v in
    let h = f in
    solved-spelled h.coefficients-n.ensures h.requires.0 f.cutoff_in_force.ensures v.solve_in.ensures
