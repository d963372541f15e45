-- `find_affine::elimination::where_bit` meets its contract: a digit times t is at most t.
-- Assumes nothing.
use native.Mathlib.Omega.{arith}
use Rattle.field.proofs.Digits.{digit-mul-le}
use Rattle.find_affine.proofs.elimination.where_bit.Goals as goal

pub overflow_mul-result : goal.overflow_mul-result
overflow_mul-result c = omega (arith, digit-mul-le c.args.b c.args.t)
