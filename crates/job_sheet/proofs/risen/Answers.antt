-- `job_sheet::risen` meets its contract: a record without a limit does not compete.
-- Assumes nothing.
use Rattle.std.proofs.Common.{arith, eq-eqb, ne_eqb, ap}
use Rattle.std.specs.Prelude.{Some}
use Rattle.job_sheet.specs.Figures.{better}
use Rattle.job_sheet.specs.Adding.{risen}
use Rattle.job_sheet.proofs.risen.Goals as goal

pub returns-in-None : goal.returns-in-None
unfolding risen better
returns-in-None c =
    let h = c.if-b-gt0.true in rw (c.in-None.is, ne_eqb c.args.b.limit 0 (λ z. omega arith))

pub returns-in-Some : goal.returns-in-Some
unfolding risen better
returns-in-Some c =
    let h = c.if-b-gt0.true in
    rw (c.in-Some.is, ne_eqb c.args.b.limit 0 (λ z. omega arith)) (ap Some c.higher.ensures)

pub returns : goal.returns
unfolding risen
returns c = rw (eq-eqb c.args.b.limit 0 (omega arith))
