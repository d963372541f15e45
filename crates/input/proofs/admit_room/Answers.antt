-- `input::admit_room` meets its contract: the tests of a polynomial by two numbers, then that of the room.
-- Assumes nothing.
use mathlib.Core.List.{[], ◌∷◌}
use lib.ListN.{length}
use Rattle.refusals.proofs.Admitting.{admits-also}
use Rattle.refusals.specs.declared.Refusal.TheVariants.{Room}
use Rattle.input.specs.Values.{value_tests}
use Rattle.input.proofs.PolynomialTests.{values-admit}
use Rattle.input.proofs.admit_room.Goals as goal

pub returns : goal.returns
returns c =
    let l = c in
    let s = l.args in
    values-admit s.m s.coeffs.now ((7, s.short) ∷ []) c.also.result l.largest.ensures
    (admits-also (value_tests s.m (length s.coeffs.now) l.largest.result []) c.admit_values.result s.short Room c.also.ensures
    c.admit_values.ensures)
