-- `field_tables::field_types::Field::mul` meets its contract: the field is known.
-- Assumes nothing.
use Rattle.std.proofs.Common.{ℕ, ◌<◌, subst}
use Rattle.field.proofs.Generator.{product-asks}
use Rattle.field_tables.proofs.field_types.Field.mul.Goals as goal

pub product-requires : goal.product-requires
product-requires g c = let i = g.Self.Field.is_row in rw c.ROW.ensures (product-asks i.list (subst (λ (n : ℕ). c.args.b < n) i.size c.requires))
