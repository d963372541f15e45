-- `find_solve::Sums::reach` meets its contract. The loop's invariant: the sums of the levels below k are written.
-- Assumes nothing.
use mathlib.Core.Path.{refl}
use native.Mathlib.Omega.{arith}
use Rattle.input.proofs.Fields.{degree-within}
use Rattle.find_solve.proofs.Tracing.{levelling-from, levelling-fits, levelling-asks, levelling-on, levelling-end}
use Rattle.find_solve.proofs.Sums.reach.Goals as goal

pub overflow_add-count : goal.overflow_add-count
overflow_add-count c = omega (arith, c.requires.level, degree-within _ c.args.tables.now.lent.degree)

pub loop-k-init : goal.loop-k-init
loop-k-init c = record { places = refl; rows_are = refl; from = refl; levels = levelling-from c.requires }

pub bounds-tables-k : goal.bounds-tables-k
bounds-tables-k c = levelling-fits c.args.tables.now.lent c.loop-k.invariant.levels (omega arith)

pub add_trace-requires : goal.add_trace-requires
add_trace-requires c = levelling-asks c.args.tables.now.lent c.loop-k.invariant.levels (omega arith)

pub loop-k-preserved : goal.loop-k-preserved
loop-k-preserved c =
    let w = c.loop-k.invariant in
    record {
      places = w.places;
      rows_are = w.rows_are;
      from = w.from;
      levels = levelling-on c.args.tables.now.lent w.levels (omega arith) c.add_trace.ensures;
    }

pub returns : goal.returns
returns c =
    let w = c.loop-k.invariant in
    record {
      places = w.places;
      rows_are = w.rows_are;
      long = w.levels.long;
      traced = rw (w.places, w.rows_are) at (levelling-end c.args.tables.now.lent w.levels (omega (arith, w.from)) (omega arith) c.max-self.ensures);
    }
