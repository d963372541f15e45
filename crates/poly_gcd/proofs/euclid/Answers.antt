-- `poly_gcd::euclid` meets its contract. The loop's invariant: the greatest common divisor is what it was.
-- Assumes nothing.
use native.Mathlib.Omega.{arith}
use Rattle.poly_gcd.proofs.EuclidLoops.{loop-from, loop-asks, loop_ended, loop-copied, loop-on}
use borrow.Author.Rules.{rules}
use Rattle.poly_gcd.proofs.euclid.Goals as goal

pub loop-row-init : goal.loop-row-init
loop-row-init c = loop-from _ c.args.tables.now.lent c.requires

pub euclid_turn-j-requires : goal.euclid_turn-j-requires
euclid_turn-j-requires c = (c.loop-row.invariant.given, omega (arith, c.loop-row.invariant.long-row))

pub returns-then-j-eq0 : goal.returns-then-j-eq0
returns-then-j-eq0 c = loop_ended c.loop-row.invariant c.euclid_turn-j.ensures c.if-j-eq0.true

pub euclid_turn-i-requires : goal.euclid_turn-i-requires
euclid_turn-i-requires c = (loop-asks c.loop-row.invariant c.euclid_turn-j.ensures c.if-j-eq0.false, search rules)

pub returns-then-i-eq0 : goal.returns-then-i-eq0
returns-then-i-eq0 c = loop-copied c.loop-row.invariant c.euclid_turn-j.ensures c.if-j-eq0.false c.euclid_turn-i.ensures _ c.if-i-eq0.true c.store.ensures

pub loop-row-smaller : goal.loop-row-smaller
loop-row-smaller c = omega (arith, c.euclid_turn-i.ensures.fewer, c.euclid_turn-j.ensures.fewer)

pub loop-row-preserved : goal.loop-row-preserved
loop-row-preserved c = loop-on c.loop-row.invariant c.euclid_turn-j.ensures c.if-j-eq0.false c.euclid_turn-i.ensures c.if-i-eq0.false (search rules)
