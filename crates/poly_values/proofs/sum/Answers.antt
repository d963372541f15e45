-- `poly_values::sum` meets its contract.
-- Assumes nothing.
use borrow.Author.Rules.{rules}
use borrow.Author.Tests.{tests}
use lib.Bits.{bit_xor}
use lib.ListN.{get_or}
use Rattle.poly_values.proofs.Made.{made-table}
use Rattle.poly_values.proofs.sum.Goals as goal

pub returns : goal.returns
returns c = made-table _ (λ i. bit_xor (get_or c.args.a i 0) (get_or c.args.b i 0)) _ _ 11 c.from_fn.ensures.items (λ i y q k. search (rules, tests))
