-- `input::admit_call` meets its contract: the five tests of a polynomial, then that of the cutoff.
-- Assumes nothing.
use mathlib.Core.List.{[]}
use lib.Dec.{ltb}
use Rattle.input.specs.Cutoff.{highest_cutoff}
use Rattle.refusals.proofs.Admitting.{admits-also}
use Rattle.refusals.specs.declared.Refusal.TheVariants.{Cutoff}
use Rattle.input.specs.Values.{value_tests}
use Rattle.input.proofs.admit_call.Goals as goal

pub returns : goal.returns
returns c =
    let s = c.args in
    admits-also (value_tests s.m s.n s.top []) c.admit_values.result (ltb highest_cutoff s.cutoff) Cutoff c.also.ensures
    c.admit_values.ensures
