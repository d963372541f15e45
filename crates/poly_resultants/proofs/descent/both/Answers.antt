-- `poly_resultants::descent::both` meets its contract.
-- Assumes nothing.
use Rattle.poly_resultants.proofs.Steps.{both-inverse, both-square, both-place, both-none, both-half, both-two}
use lib.ListN.{length-set}
use native.Mathlib.Omega.{arith}
use Rattle.poly_resultants.proofs.descent.both.Goals as goal

pub product-c-requires : goal.product-c-requires
product-c-requires c = ((both-inverse c.args.tables.now.lent c.requires c.inverse-v.ensures).0, (both-inverse c.args.tables.now.lent c.requires c.inverse-v.ensures).1, (both-inverse c.args.tables.now.lent c.requires c.inverse-v.ensures).1)

pub product-i-requires : goal.product-i-requires
product-i-requires c = ((both-square c.args.tables.now.lent c.requires c.inverse-v.ensures c.product-c.ensures).0, (both-square c.args.tables.now.lent c.requires c.inverse-v.ensures c.product-c.ensures).1, c.requires.element)

pub bounds-halves_of-i : goal.bounds-halves_of-i
bounds-halves_of-i c = both-place c.args.tables.now.lent c.requires c.halves_of.ensures _ c.product-i.ensures

pub returns-then-h : goal.returns-then-h
returns-then-h c = both-none c.args.tables.now.lent c.requires c.halves_of.ensures c.inverse-v.ensures c.product-c.ensures c.product-i.ensures c.if-h.true

pub product-x-requires : goal.product-x-requires
product-x-requires c = (c.requires.positive, c.requires.small, both-half c.args.tables.now.lent c.requires c.halves_of.ensures c.inverse-v.ensures c.product-c.ensures c.product-i.ensures c.if-h.false)

pub bounds-out-n-2 : goal.bounds-out-n-2
bounds-out-n-2 c = omega (arith, c.requires.space, length-set c.args.out.now c.args.n c.product-x.result)

pub returns : goal.returns
returns c = both-two c.args.tables.now.lent c.requires c.halves_of.ensures c.inverse-v.ensures c.product-c.ensures c.product-i.ensures c.if-h.false c.product-x.ensures
