-- What the key equation's code takes and gives, in field 11.
-- Laws and inner contracts alone cite it: what the corrector promises does not rest on it.
--   Under           each number of a list is an element
--   register_of      the register that a state holds;  Sound  a state of elements, early enough for two more
--   PowerSums       1, the odd power sums in their places, and even ones as squares
-- Assumes nothing.
use Rattle.std.specs.Prelude.{◌≡◌, List, ℕ, suc, ◌*◌, ◌<◌, get_or, length}
use Rattle.field.specs.Field.{field_at, mul}
use Rattle.corrector_code.specs.Key.{Register}
use Rattle.corrector_locator.specs.declared.State.{State}

-- elements of field 11
abbrev pub Under : List ℕ → Type 0
Under p = (k : ℕ) → get_or p k 0 < 2048

-- the register that a state holds
abbrev pub register_of : State → Register ℕ
register_of r = record { locator = r.locator; spare = r.spare; low = r.low; high = r.high }

-- a state of elements, early enough for two more
abbrev pub Sound : State → Type 0
Sound r = Under r.locator × Under r.spare × (r.low < 1000) × (r.high < 1000) × (length r.locator ≡ 9)

-- the power sums 0 to 16 from the odd ones
pub record PowerSums (odd s : List ℕ) : Type 0 where
  pub long : length s ≡ 17
  pub first : get_or s 0 0 ≡ 1
  pub odd_is : (i : ℕ) → i < 8 → get_or s (suc (2 * i)) 0 ≡ get_or odd i 0
  pub even_is : (i : ℕ) → i < 8
      → get_or s (suc (suc (2 * i))) 0 ≡ mul (field_at 11) (get_or s (suc i) 0) (get_or s (suc i) 0)
  pub below : Under s
