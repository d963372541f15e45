-- `poly_values::two_blocks` meets its contract: the row of two blocks, with the one more in its first vector, and the
-- transform.
-- Assumes nothing.
use mathlib.Core.Path.{refl, sym, ◌∙◌}
use native.Mathlib.Omega.{arith}
use Rattle.algebra.proofs.StaysBelow.{below_at}
use Rattle.poly_values.proofs.Finishing.{values-two}
use Rattle.poly_values.proofs.two_blocks.Goals as goal

pub in_blocks-a-requires : goal.in_blocks-a-requires
in_blocks-a-requires c = let s = c in (s.requires.0, s.requires.1, s.requires.2)

pub top11-top-requires : goal.top11-top-requires
top11-top-requires c = tt

pub two_rows-requires : goal.two_rows-requires
two_rows-requires c =
    let s = c in
    let a = c.in_blocks-a.ensures in
    (a.small, omega (arith, a.long), sym s.requires.3)

pub squares11-squares-requires : goal.squares11-squares-requires
squares11-squares-requires c = tt

pub multiple-m-requires : goal.multiple-m-requires
multiple-m-requires c = let a = c.in_blocks-a in below_at _ a.result a.ensures.small 64 (omega (arith, a.ensures.long))

pub vector-y-requires : goal.vector-y-requires
vector-y-requires c = let s = c in let n = c.two_rows.ensures.long in let m = s.requires.3 in omega arith

pub sum-x-requires : goal.sum-x-requires
sum-x-requires c = tt

pub put_vector-requires : goal.put_vector-requires
put_vector-requires c = let s = c in let n = c.two_rows.ensures.long in let m = s.requires.3 in omega arith

pub multipliers11-g-requires : goal.multipliers11-g-requires
multipliers11-g-requires c = tt

pub fourier-requires : goal.fourier-requires
fourier-requires c =
    let s = c in
    (refl, sym (c.put_vector.auto.p ∙ c.two_rows.auto.p ∙ s.requires.3), omega arith)

pub returns : goal.returns
returns c =
    let s = c in
    values-two c.in_blocks-a.ensures c.top11-top.ensures c.squares11-squares.ensures c.multipliers11-g.ensures s.requires.3
    c.two_rows.ensures c.multiple-m.ensures c.vector-y.ensures c.sum-x.ensures c.put_vector.ensures
    c.fourier.ensures
