-- `find_solve::solve_traced` meets its contract: a table is begun and stepped to its end, and what finish lists of it is
-- the roots.
-- Assumes nothing.
use mathlib.Core.Path.{refl, sym, ap, ◌∙◌}
use mathlib.Core.List.{List}
use Prim.Native.Nat.{ℕ}
use native.Mathlib.Omega.{arith}
use lib.ListN.{length}
use lib.Seq.{length-take-le}
use Rattle.slices.specs.Lists.{copied}
use Rattle.find_solve.proofs.Admitting.{solvable, solve-begins, begun-stepping}
use Rattle.find_solve.proofs.Direct.{direct-at}
use Rattle.find_solve.proofs.Running.{out-taken, out-asks, out-roots}
use Rattle.find_solve.proofs.Tracing.{powered-fit}
use borrow.Author.Rules.{rules}
use Rattle.find_solve.proofs.solve_traced.Goals as goal

pub tables_of-tables-requires : goal.tables_of-tables-requires
tables_of-tables-requires c = c.requires.0.field

pub halves_of-halves-requires : goal.halves_of-halves-requires
halves_of-halves-requires c = c.requires.0.field

pub begin_lent-n-requires : goal.begin_lent-n-requires
begin_lent-n-requires c = solve-begins (solvable c.tables_of-tables.ensures c.requires c.halves_of-halves.ensures) refl (omega arith)

pub overflow_mul-e : goal.overflow_mul-e
overflow_mul-e c = let h = powered-fit (solvable c.tables_of-tables.ensures c.requires c.halves_of-halves.ensures) c.begin_lent-n.ensures.1 in omega arith

pub slice_bounds-rows-end : goal.slice_bounds-rows-end
slice_bounds-rows-end c = let h = powered-fit (solvable c.tables_of-tables.ensures c.requires c.halves_of-halves.ensures) c.begin_lent-n.ensures.1 in search rules

pub slice_bounds-run_table-end : goal.slice_bounds-run_table-end
slice_bounds-run_table-end c = let h = powered-fit (solvable c.tables_of-tables.ensures c.requires c.halves_of-halves.ensures) c.begin_lent-n.ensures.1 in sym (length-take-le _ _ (search rules))

pub run_table-requires : goal.run_table-requires
run_table-requires c = let g = solvable c.tables_of-tables.ensures c.requires c.halves_of-halves.ensures in record { polynomial = g.polynomial; powers = c.begin_lent-n.ensures.1; stepping = begun-stepping g c.begin_lent-n.ensures.0 }

pub finish_lent-s-requires : goal.finish_lent-s-requires
finish_lent-s-requires c = let g = solvable c.tables_of-tables.ensures c.requires c.halves_of-halves.ensures in out-asks g (begun-stepping g c.begin_lent-n.ensures.0) c.run_table.ensures

pub returns : goal.returns
returns c =
    let s = begun-stepping (solvable c.tables_of-tables.ensures c.requires c.halves_of-halves.ensures) c.begin_lent-n.ensures.0 in
    let r = c.run_table.ensures in
    let f = c.finish_lent-s.ensures in
    direct-at (sym c.tables_of-tables.ensures) (record {
      count = f.count ∙ ap length (out-roots s r);
      steps = c.head_of-h.ensures.taken ∙ out-taken r;
      slots-are = f.slots ∙ ap (λ (l : List ℕ). copied l c.args.roots.now) (out-roots s r);
    })
