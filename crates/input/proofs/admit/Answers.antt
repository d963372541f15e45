-- `input::admit` meets its contract: the tests of a polynomial and a cutoff by two numbers, then that of the
-- room.
-- Assumes nothing.
use mathlib.Core.Bool.{Bool}
use mathlib.Core.List.{[], ◌∷◌}
use Prim.Native.Nat.{ℕ}
use lib.Dec.{ltb}
use Rattle.input.specs.Cutoff.{highest_cutoff}
use lib.ListN.{length}
use Rattle.refusals.proofs.Admitting.{admits-also}
use Rattle.refusals.specs.declared.Refusal.TheVariants.{Room}
use Rattle.input.specs.Values.{value_tests}
use Rattle.input.proofs.PolynomialTests.{values-admit}
use Rattle.input.proofs.admit.Goals as goal

pub returns : goal.returns
returns c =
    let l = c in
    let s = l.args in
    let six : ℕ × Bool = (6, ltb highest_cutoff s.cutoff) in
    values-admit s.m s.coeffs.now (six ∷ (7, s.short) ∷ []) c.also.result l.largest.ensures
    (admits-also (value_tests s.m (length s.coeffs.now) l.largest.result (six ∷ [])) c.admit_call-found.result s.short Room c.also.ensures
    c.admit_call-found.ensures)
