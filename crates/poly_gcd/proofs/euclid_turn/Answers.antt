-- `poly_gcd::euclid_turn` meets its contract: the remainder is taken, the divisor gets its 1, and the remainder is
-- made monic.
-- Assumes nothing.
use Rattle.poly_gcd.proofs.EuclidLoops.{turn-asks, turn_below, turn_is}
use Rattle.poly_gcd.proofs.euclid_turn.Goals as goal

pub leave_remainder-requires : goal.leave_remainder-requires
leave_remainder-requires c = let s = c.requires in turn-asks c.args.tables.now.lent s.0 s.1

pub make_monic-requires : goal.make_monic-requires
make_monic-requires c = turn_below c.args.tables.now.lent c.requires.0 c.leave_remainder.ensures

pub returns : goal.returns
returns c = turn_is c.args.tables.now.lent c.requires.0 c.leave_remainder.ensures c.make_monic.ensures
