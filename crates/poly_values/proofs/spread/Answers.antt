-- `poly_values::spread` meets its contract.
-- Assumes nothing.
use borrow.Author.Rules.{rules}
use borrow.Author.Tests.{tests}
use Prim.Native.Nat.{◌*◌, ◌/◌, ◌%◌, ◌^◌}
use Rattle.poly_values.proofs.Made.{made-table}
use Rattle.poly_values.proofs.spread.Goals as goal

pub returns : goal.returns
returns c = made-table _ (λ i. c.args.c / 2 ^ i % 2 * 18446744073709551615) _ _ 11 c.from_fn.ensures.items (λ i y q k. search (rules, tests))
