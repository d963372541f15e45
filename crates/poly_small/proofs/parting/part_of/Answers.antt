-- `poly_small::parting::part_of` meets its contract. The loop's invariant: no earlier level parts the cubic.
-- Assumes nothing.
use mathlib.Core.Path.{refl}
use native.Mathlib.Omega.{arith}
use Rattle.poly.proofs.Logs.{small_of}
use Rattle.poly_small.proofs.Levels.{seek-level-from, seek-level-asks, seek-level-found, seek-level-on, seek-level-never}
use borrow.Author.Rules.{rules}
use Rattle.poly_small.proofs.parting.part_of.Goals as goal

pub loop-init : goal.loop-init
loop-init c = seek-level-from _ _ _

pub part_at-n-requires : goal.part_at-n-requires
part_at-n-requires c = seek-level-asks c.requires c.loop.invariant c.loop-test.true

pub returns-then-n-eq1 : goal.returns-then-n-eq1
returns-then-n-eq1 c =
    seek-level-found c.requires c.loop.invariant c.loop-test.true (let e = c.then-n-eq1.either in omega arith) (let e = c.then-n-eq1.either in omega arith) refl
    c.part_at-n.ensures

pub overflow_mul-b : goal.overflow_mul-b
overflow_mul-b c = omega (arith, (seek-level-asks c.requires c.loop.invariant c.loop-test.true).1, (small_of c.args.tables.now.lent).size-le)

pub loop-preserved : goal.loop-preserved
loop-preserved c = seek-level-on c.requires c.loop.invariant c.loop-test.true (search rules) c.part_at-n.ensures c.if-n-eq1.false c.if-n-eq2.false

pub unreachable-requires : goal.unreachable-requires
unreachable-requires c = seek-level-never c.requires c.loop.invariant c.loop-test.false
