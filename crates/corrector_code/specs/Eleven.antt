-- The field of the recorder's codes.
--   F11   the operations of field 11
-- Assumes nothing.
use Rattle.std.specs.Prelude.{ℕ}
use Rattle.algebra.specs.Field.{Ops}
use Rattle.field.specs.Field.{G}

-- numbers below 2^11, with the sum and the product of field 11
abbrev pub F11 : Ops ℕ
F11 = G 11
