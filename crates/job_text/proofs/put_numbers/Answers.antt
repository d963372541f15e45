-- `job_text::put_numbers` meets its contract: at each turn the first i numbers stand in the list.
-- Assumes nothing.
use mathlib.Core.List.{List}
use Prim.Native.Nat.{ℕ, ◌<◌, ◌^◌}
use native.Mathlib.Omega.{arith}
use lib.ListN.{length, get_or}
use Rattle.job_text.specs.Lines.{decimal}
use Rattle.job_text.proofs.Lending.{twenty-digits, row_from, row_room, row_on, row-all}
use borrow.Author.Rules.{rules}
use Rattle.job_text.proofs.put_numbers.Goals as goal

-- a number of 64 bits and its space have at most 21 bytes
short : (xs : List ℕ) (i : ℕ) → get_or xs i 0 < 2 ^ 64 → length (decimal (get_or xs i 0)) < 21
short xs i h = omega (arith, twenty-digits (get_or xs i 0) h)

pub loop-i-init : goal.loop-i-init
loop-i-init c = row_from _ _ _ _ _ (omega arith) (search rules)

pub put_spaced-end-requires : goal.put_spaced-end-requires
put_spaced-end-requires c = omega (arith, row_room c.loop-i.invariant (omega arith), short c.args.xs.now c.loop-i.i (omega (arith, c.type_inv.xs c.loop-i.i)))

pub loop-i-preserved : goal.loop-i-preserved
loop-i-preserved c = row_on c.loop-i.invariant (omega arith) (short c.args.xs.now c.loop-i.i (omega (arith, c.type_inv.xs c.loop-i.i))) c.put_spaced-end.auto.out c.put_spaced-end.ensures

pub returns : goal.returns
returns c = row-all c.loop-i.invariant (omega arith)
