-- `field_constants::arithmetic::roots11` meets its contract: the half-root gives both roots, or there is none.
-- Assumes nothing.
use Rattle.field_constants.proofs.Field11.{element-product, element-inverse, only-root, solution-lt, none_found, two_up, two_down}
use Rattle.field_constants.proofs.arithmetic.roots11.Goals as goal

pub returns-then-a-eq0 : goal.returns-then-a-eq0
returns-then-a-eq0 c = only-root c.if-a-eq0.true c.requires.1 c.root11-s.ensures

pub product11-q-requires : goal.product11-q-requires
product11-q-requires c = (c.root11-s.ensures.0, element-inverse _ c.inverse11.ensures)

pub half11-j-requires : goal.half11-j-requires
half11-j-requires c = element-product _ _ c.product11-q.ensures

pub returns-then-j : goal.returns-then-j
returns-then-j c =
    none_found c.if-a-eq0.false c.requires.0 c.requires.1 c.root11-s.ensures
    c.inverse11.ensures c.product11-q.ensures c.half11-j.ensures c.if-j.true

pub product11-x-requires : goal.product11-x-requires
product11-x-requires c = (
  c.requires.0,
  solution-lt c.if-a-eq0.false c.requires.0 c.requires.1 c.root11-s.ensures
      c.inverse11.ensures c.product11-q.ensures c.half11-j.ensures c.if-j.false,
)

pub returns-then-x-y : goal.returns-then-x-y
returns-then-x-y c =
    two_up c.if-a-eq0.false c.requires.0 c.requires.1 c.root11-s.ensures
    c.inverse11.ensures c.product11-q.ensures c.half11-j.ensures c.if-j.false c.product11-x.ensures c.if-x-y.true

pub returns : goal.returns
returns c =
    two_down c.if-a-eq0.false c.requires.0 c.requires.1 c.root11-s.ensures
    c.inverse11.ensures c.product11-q.ensures c.half11-j.ensures c.if-j.false c.product11-x.ensures c.if-x-y.false
