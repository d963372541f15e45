-- `claim_maker::unite` meets its contract, the proof of its cycle of calls: a division, the call of the divisor and the remainder, and the quotient times x.
-- The measure is the divisor's length.
-- Assumes nothing.
use native.Mathlib.Omega.{arith}
use Rattle.claim_maker.proofs.Uniting.{unite-constant, unite-less, unite-on, unite-adds, unite-is}
use Rattle.claim_maker.proofs.+unite.Goals as goal

pub returns-then-n-eq0 : goal.returns-then-n-eq0
returns-then-n-eq0 t c = unite-constant c.args.tables.now.lent c.requires c.if-n-eq0.true c.inverse.ensures c.clear.ensures c.clear-then-n-eq0.ensures

pub unite-requires : goal.unite-requires
unite-requires t c = (
  omega (arith, unite-less c.args.tables.now.lent c.requires c.if-n-eq0.false c.reduce.ensures c.reduce.auto.a c.top-j.ensures, c.decreases),
  unite-on c.args.tables.now.lent c.requires c.if-n-eq0.false c.reduce.ensures c.reduce.auto.a c.top-j.ensures,
)

pub add_product-requires : goal.add_product-requires
add_product-requires t c =
    unite-adds c.args.tables.now.lent c.requires c.if-n-eq0.false c.reduce.ensures c.reduce.auto.a c.top-j.ensures c.unite.ensures c.unite.auto.y c.unite.auto.x c.unite.new.b
    c.unite.auto.b

pub returns : goal.returns
returns t c =
    unite-is c.args.tables.now.lent c.requires c.if-n-eq0.false c.reduce.ensures c.reduce.auto.a c.top-j.ensures c.unite.ensures c.unite.auto.y c.unite.auto.x c.unite.new.b
    c.unite.auto.b c.add_product.ensures
