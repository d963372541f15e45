-- `find_solve::solve_low` meets its contract: no root, or the quotient.
-- Assumes nothing.
use mathlib.Core.Path.{◌≡◌, refl, sym}
use native.Mathlib.Omega.{arith}
use Rattle.find_solve.proofs.Lowest.{low-some, low-inverts, low-multiplies, low-none, low-one, low-empty, low-over, low-single}
use Rattle.find_solve.proofs.Direct.{direct-at}
use Rattle.find_solve.proofs.solve_low.Goals as goal

pub returns-then-n-lt2 : goal.returns-then-n-lt2
returns-then-n-lt2 c =
    let s = c in
    let g = s.requires.0 in
    let one : s.args.n ≡ 1 = omega (arith, low-some g) in
    λ k l. low-empty _ refl k l (low-none g one) refl

pub tables_of-tables-requires : goal.tables_of-tables-requires
tables_of-tables-requires c = c.requires.0.polynomial.field

pub inverse-requires : goal.inverse-requires
inverse-requires c =
    let two : c.args.n ≡ 2 = omega (arith, c.requires.0.low) in
    low-inverts (low-over c.tables_of-tables.ensures c.requires.0) two

pub product-requires : goal.product-requires
product-requires c =
    let two : c.args.n ≡ 2 = omega (arith, c.requires.0.low) in
    low-multiplies (low-over c.tables_of-tables.ensures c.requires.0) two c.tables_of-tables.result.lent c.inverse.ensures

pub returns : goal.returns
returns c =
    let two : c.args.n ≡ 2 = omega (arith, c.requires.0.low) in
    let g = low-over c.tables_of-tables.ensures c.requires.0 in
    λ k l. direct-at (sym c.tables_of-tables.ensures) (low-single _ refl k l (low-one g two c.inverse.ensures c.product.ensures) refl c.requires.1)
