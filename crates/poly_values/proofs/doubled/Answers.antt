-- `poly_values::doubled` meets its contract.
-- Assumes nothing.
use mathlib.Core.Path.{◌≡◌, ap}
use mathlib.Core.List.{List}
use Prim.Native.Nat.{ℕ, ◌+◌, ◌%◌}
use borrow.Author.Rules.{rules}
use borrow.Author.Tests.{tests}
use lib.Bits.{bit_xor}
use lib.ListN.{get_or, set}
use Rattle.poly_values.specs.Planes.{tabulate}
use Rattle.poly_values.proofs.Made.{made-table}
use Rattle.poly_values.proofs.doubled.Goals as goal

pub returns : goal.returns
returns c =
    let h : ℕ → ℕ = λ i. get_or c.args.r ((i + 10) % 11) 0 in
    let e : c.from_fn-d.result ≡ tabulate 11 h = made-table _ h _ _ 11 c.from_fn-d.ensures.items (λ i y q k. search (rules, tests)) in
    ap (λ (d : List ℕ). set d 2 (bit_xor (get_or d 2 0) (get_or d 0 0))) e
