-- `job_lines::put_solved` meets its contract: the record is solved, and its roots and steps make the line.
-- Assumes nothing.
use mathlib.Core.Path.{◌≡◌, sym}
use mathlib.Core.List.{List}
use Prim.Native.Nat.{ℕ, ◌≤◌}
use lib.ListN.{length, take}
use Rattle.input.specs.Limit.{limit}
use native.Mathlib.Omega.{arith}
use lib.Seq.{length-take-le}
use Rattle.job_lines.proofs.Solved.{solved-few, line-solved}
use Rattle.job_lines.proofs.put_solved.Goals as goal

-- as many roots as were found stand in the list
found : {n : ℕ} (roots : List ℕ) → n ≤ limit → length roots ≡ limit → n ≡ length (take n roots)
found roots h e = sym (length-take-le _ roots (omega arith))

pub slice_bounds-roots-end : goal.slice_bounds-roots-end
slice_bounds-roots-end c = omega (arith, solved-few c.args.job c.solve_job-solved.ensures c.requires.1, c.solve_job-solved.auto.roots)

pub slice_bounds-put_line-end : goal.slice_bounds-put_line-end
slice_bounds-put_line-end c = found _ (solved-few c.args.job c.solve_job-solved.ensures c.requires.1) c.solve_job-solved.auto.roots

pub put_line-requires : goal.put_line-requires
put_line-requires c =
    let few = solved-few c.args.job c.solve_job-solved.ensures c.requires.1 in
    let all = found c.solve_job-solved.new.roots few c.solve_job-solved.auto.roots in
    (omega arith, (c.requires.0, omega (arith, few, all), omega (arith, few, all)))

pub returns : goal.returns
returns c = line-solved c.args.job c.solve_job-solved.ensures c.args.k c.put_line.ensures
