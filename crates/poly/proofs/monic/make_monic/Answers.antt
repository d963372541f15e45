-- `poly::monic::make_monic` meets its contract: the leading coefficient is found, and what is below it divided.
-- Assumes nothing.
use Rattle.poly.proofs.Monics.{made_none, made_some, made_asks, lead-pos, lead-small}
use Rattle.poly.proofs.monic.make_monic.Goals as goal

pub returns-then-j-eq0 : goal.returns-then-j-eq0
returns-then-j-eq0 c = made_none c.top-j.ensures c.if-j-eq0.true

pub inverse-v-requires : goal.inverse-v-requires
inverse-v-requires c = (
  lead-pos c.args.tables.now.lent c.requires c.top-j.ensures c.if-j-eq0.false,
  lead-small c.args.tables.now.lent c.requires c.top-j.ensures c.if-j-eq0.false,
)

pub scale-requires : goal.scale-requires
scale-requires c = made_asks c.args.tables.now.lent c.requires c.top-j.ensures c.if-j-eq0.false c.inverse-v.ensures

pub returns : goal.returns
returns c = made_some c.top-j.ensures c.if-j-eq0.false c.inverse-v.ensures c.scale.ensures
