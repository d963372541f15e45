-- What comes back from the top of a register of a generator G is additive.
--   multiples              the sum of two multiples of 2^k
--   back_from_top-additive   the remainder of a sum is the sum
-- Assumes nothing.
use mathlib.Core.Path.{◌≡◌, sym, ap, ap₂, ◌∙◌}
use Prim.Native.Nat.{ℕ, ◌*◌, ◌^◌}
use native.Mathlib.Nat.{add-zero}
use lib.Bits.{bit_xor, xor_block}
use lib.Pow.{pow_pos}
use Rattle.field.specs.Field.{Field, reduce, size}
use Rattle.field.proofs.Additive.{Additive}
use Rattle.field.proofs.Reduce.{reduce-xor}
use Rattle.corrector_generator.specs.Generators.{back_from_top}

-- the sum of two multiples
pub multiples : (k x y : ℕ) → bit_xor (x * 2 ^ k) (y * 2 ^ k) ≡ bit_xor x y * 2 ^ k
multiples k x y =
    sym (ap₂ bit_xor (add-zero (x * 2 ^ k)) (add-zero (y * 2 ^ k)))
    ∙ xor_block k x y 0 0 (pow_pos k) (pow_pos k) ∙ add-zero (bit_xor x y * 2 ^ k)

module _ (G : Field) where
  -- the remainder of a sum is the sum
  pub back_from_top-additive : Additive (back_from_top G)
  unfolding back_from_top
  back_from_top-additive x y =
      ap (reduce G) (sym (multiples G.degree x y)) ∙ reduce-xor G (x * size G) (y * size G)
