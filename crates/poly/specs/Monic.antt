-- Making a polynomial monic.
--   TopIs      k is the place behind the highest coefficient of r that is not 0, and 0 where there is none
--   monic_low   what the first j coefficients hold once they are monic: the j - 1 below the leading one; nothing where
--              j is 0
--   MadeMonic  r became r' : j coefficients were left, and they are monic
-- Assumes nothing.
use Rattle.std.specs.Prelude.{◌≡◌, ◌≢◌, List, ℕ, zero, suc, ◌-◌, ◌≤◌, ◌<◌, length, get_or, take}
use Rattle.std.proofs.Math.Option.{Option, none, some}
use Rattle.algebra.specs.Routines.{norm}
use Rattle.field.specs.Field.{G}

-- nothing stands above
pub record TopIs (r : List ℕ) (k : ℕ) : Type 0 where
  pub within : k ≤ length r
  pub above : (j : ℕ) → k ≤ j → get_or r j 0 ≡ 0
  pub nonzero : 0 < k → get_or r (k - 1) 0 ≢ 0

-- without the leading 1
unfoldable pub monic_low : ℕ → List ℕ → Option (List ℕ)
monic_low zero r = none
monic_low (suc k) r = some (take k r)

-- as the theory makes it
pub record MadeMonic (m : ℕ) (r : List ℕ) (j : ℕ) (r' : List ℕ) : Type 0 where
  pub within : j ≤ length r
  pub long : length r' ≡ length r
  pub made : norm (G m) (length r) r ≡ monic_low j r'
