-- The basis of the transform.
--   Step        a step of the space, the value of the vanishing map of the steps behind it there, and the inverse of
--               that value
--   vanishing   the product of z + u over the sums u of the steps: an additive map
--   RightSteps  what a list of steps says of itself is so
--   levels      the levels of a list of steps
--   raised_in    z times what stands in the basis: what stays in it, and the multiple of the vanishing map that falls
--               out
-- Nobody has to believe this file: it serves the inner contracts of this crate. What others cite is `Values` in
-- Tables.
-- Assumes nothing.
use Rattle.std.specs.Prelude.{◌≡◌, ◌^◌, take, drop}
use mathlib.Core.List.{List, [], ◌∷◌, ◌++◌}
use Rattle.std.proofs.Math.ListN.{get_or, length}
use Rattle.algebra.specs.Field.{Ops}
use Rattle.algebra.specs.Polynomial.{add}
use Rattle.poly_values.specs.Transform.{Level}

pub record Step (K : Type 0) : Type 0 where
  pub step : K
  pub unit : K
  pub back : K

module _ {K : Type 0} (F : Ops K) where
  unfoldable pub vanishing : List (Step K) → K → K
  vanishing [] z = z
  vanishing (s ∷ S) z = F.mul (vanishing S z) (F.add (vanishing S z) s.unit)

  abbrev pub RightSteps : List (Step K) → Type 0
  RightSteps [] = Unit {0}
  RightSteps (s ∷ S) = (vanishing S s.step ≡ s.unit) × (F.mul s.unit s.back ≡ F.one) × RightSteps S

  abbrev pub level_on : Step K → List (Step K) → Level K
  level_on s S = record { step = s.step; part = λ z. F.mul s.back (vanishing S z) }

  unfoldable pub levels : List (Step K) → List (Level K)
  levels [] = []
  levels (s ∷ S) = level_on s S ∷ levels S

  -- with V the vanishing map of the steps behind s: V part = V^2 back, and V^2 = (the vanishing map with s) + V unit
  abbrev pub join_raised : Step K → (List K × K) → (List K × K) → List K × K
  join_raised s lo hi =
      (lo.0 ++ add F hi.0 (F.mul (F.add lo.1 hi.1) s.unit ∷ []), F.mul hi.1 s.back)

  unfoldable pub raised_in : List (Step K) → List K → List K × K
  unfolding add
  raised_in [] a = (F.zero ∷ [], get_or a 0 F.zero)
  raised_in (s ∷ S) a = join_raised s (raised_in S (take (2 ^ length S) a)) (raised_in S (drop (2 ^ length S) a))
