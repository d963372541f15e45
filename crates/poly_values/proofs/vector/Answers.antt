-- `poly_values::vector` meets its contract.
-- Assumes nothing.
use borrow.Author.Rules.{rules}
use borrow.Author.Tests.{tests}
use Prim.Native.Nat.{◌+◌}
use lib.ListN.{get_or}
use Rattle.poly_values.proofs.Made.{made-table}
use Rattle.poly_values.proofs.vector.Goals as goal

pub returns : goal.returns
returns c = made-table _ (λ i. get_or c.args.p.now (c.args.at + i) 0) _ _ 11 c.from_fn.ensures.items (λ i y q k. search (rules, tests))
