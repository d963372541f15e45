-- `find_direct::quadratic_roots` meets its contract: the roots of the monic quadratic are written.
-- Assumes nothing.
use mathlib.Core.Path.{refl}
use native.Mathlib.Omega.{arith}
use Rattle.field_constants.proofs.Field11.{element-product, element-inverse}
use Rattle.find_direct.proofs.Writing.{listed-as}
use Rattle.find_direct.proofs.Leads.{coefficient, leading-positive, quadratic-is}
use Rattle.find_direct.proofs.quadratic_roots.Goals as goal

pub inverse11-v-requires : goal.inverse11-v-requires
inverse11-v-requires c = let g = c.requires.0 in (leading-positive g 2 refl, coefficient g 2 (omega arith))

pub product11-a-requires : goal.product11-a-requires
product11-a-requires c = (element-inverse _ c.inverse11-v.ensures, coefficient c.requires.0 1 (omega arith))

pub product11-b-requires : goal.product11-b-requires
product11-b-requires c =
    (element-inverse _ c.inverse11-v.ensures, coefficient c.requires.0 0 (omega arith))

pub write_roots-requires : goal.write_roots-requires
write_roots-requires c =
    (element-product _ _ c.product11-a.ensures, element-product _ _ c.product11-b.ensures, c.requires.1)

pub returns : goal.returns
returns c =
    listed-as (quadratic-is c.requires.0 refl c.inverse11-v.ensures
    c.product11-a.ensures c.product11-b.ensures) c.write_roots.ensures
