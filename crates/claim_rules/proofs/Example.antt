-- The definitions compute: in the field of 16 elements, a claim about z (z^2 + z + 8), whose second factor has no root.
--   product_is    (z + 0) (z^2 + z + 8) is z^3 + z^2 + 8 z
--   residue-is    z^16 + z is 1 modulo z^2 + z + 8
--   combined-is   0 (z^2 + z + 8) + 1 1 is 1
--   acceptable    so the claim is acceptable
-- Assumes nothing.
use mathlib.Core.Path.{◌∙◌, ◌≡◌, ap, refl}
use mathlib.Core.Option.{Option-elim}
use mathlib.Core.List.{[], ◌∷◌}
use native.Mathlib.Omega.{arith}
use Rattle.algebra.specs.Trial.{first_from}
use Rattle.algebra.specs.Polynomial.{add, coef, frobenius, from_roots, mul}
use Rattle.algebra.specs.Routines.{norm, quotient_digit, rem, shift_in}
use Rattle.algebra.proofs.NumberEvaluation.{top-coef}
use Rattle.field.specs.Rows.{known_in, poly_in}
use Rattle.field.specs.Field.{G, carry_free, cut, horner, horner_in, inverse, mul as product, reduce}
use Rattle.input.proofs.Fields.{known-field}
use Rattle.claim_rules.specs.Claims.{Acceptable, Claim, claim_of, claimed, combined, field_remainder, spread_out}

-- the root 0 once, and the cofactor z^2 + z + 8
abbrev example : Claim
example = claim_of (0 ∷ []) (1 ∷ []) (8 ∷ 1 ∷ 1 ∷ []) (0 ∷ []) (1 ∷ [])

product_is : claimed 4 example ≡ 0 ∷ 8 ∷ 1 ∷ 1 ∷ []
unfolding spread_out from_roots mul add product reduce cut carry_free horner horner_in poly_in
product_is = refl

residue-is : field_remainder 4 (8 ∷ 1 ∷ 1 ∷ []) ≡ 1 ∷ 0 ∷ []
unfolding field_remainder Option-elim norm rem shift_in quotient_digit frobenius mul add inverse first_from product reduce cut carry_free horner horner_in poly_in
residue-is = refl

combined-is : combined 4 example ≡ 1 ∷ 0 ∷ 0 ∷ []
unfolding mul add product reduce cut carry_free horner horner_in poly_in
combined-is = ap (λ w. add (G 4) (mul (G 4) (0 ∷ []) (8 ∷ 1 ∷ 1 ∷ [])) (mul (G 4) (1 ∷ []) w)) residue-is

acceptable : Acceptable 4 (0 ∷ 8 ∷ 1 ∷ 1 ∷ []) example
unfolding known_in
acceptable = record {
  paired = refl;
  ascending = (tt, tt);
  least = (omega arith, tt);
  product = ap (coef (G 4)) product_is;
  coprime = ap (coef (G 4)) combined-is ∙ top-coef (known-field 4 refl).numbers (1 ∷ []) 2;
}
