-- `job_text::put_roots` meets its contract: at each turn the first i roots stand in the list.
-- Assumes nothing.
use mathlib.Core.List.{List}
use Prim.Native.Nat.{ℕ, ◌<◌}
use native.Mathlib.Omega.{arith}
use lib.ListN.{length, get_or}
use Rattle.job_text.specs.Lines.{decimal}
use Rattle.job_text.proofs.Lending.{five-digits, row_from, row_room, row_on, row-end}
use borrow.Author.Rules.{rules}
use Rattle.job_text.proofs.put_roots.Goals as goal

-- a number of 16 bits and its space have at most 6 bytes
short : (xs : List ℕ) (i : ℕ) → get_or xs i 0 < 65536 → length (decimal (get_or xs i 0)) < 6
short xs i h = omega (arith, five-digits (get_or xs i 0) h)

pub loop-i-init : goal.loop-i-init
loop-i-init c = row_from _ _ _ _ _ (search rules) (search rules)

pub overflow_cast-roots : goal.overflow_cast-roots
overflow_cast-roots c = omega (arith, c.type_inv.roots c.loop-i.i)

pub put_spaced-end-requires : goal.put_spaced-end-requires
put_spaced-end-requires c = omega (arith, row_room c.loop-i.invariant (omega arith), short c.args.roots.now c.loop-i.i (omega (arith, c.type_inv.roots c.loop-i.i)))

pub loop-i-preserved : goal.loop-i-preserved
loop-i-preserved c = row_on c.loop-i.invariant (omega arith) (short c.args.roots.now c.loop-i.i (omega (arith, c.type_inv.roots c.loop-i.i))) c.put_spaced-end.auto.out c.put_spaced-end.ensures

pub returns : goal.returns
returns c = row-end c.loop-i.invariant (omega arith)
