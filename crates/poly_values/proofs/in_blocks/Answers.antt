-- `poly_values::in_blocks` meets its contract: the columns of both tables mixed, and the one more behind the blocks.
-- Assumes nothing.
use mathlib.Core.Path.{sym, ap}
use Prim.Native.Nat.{◌-◌}
use native.Mathlib.Omega.{arith}
use lib.ListN.{length, drop, length-drop}
use lib.Seq.{length-take-le}
use Rattle.algebra.proofs.StaysBelow.{take_below, drop-below}
use Rattle.poly_values.proofs.Tail.{lent-tail}
use Rattle.poly_values.proofs.Finishing.{blocks-read}
use borrow.Author.Rules.{rules}
use Rattle.poly_values.proofs.in_blocks.Goals as goal

pub columns11-lower-requires : goal.columns11-lower-requires
columns11-lower-requires c = tt

pub slice_bounds-mixed-end-2 : goal.slice_bounds-mixed-end-2
slice_bounds-mixed-end-2 c = let s = c in sym (length-take-le 33 s.args.f.now s.requires.1)

pub mixed-s-requires : goal.mixed-s-requires
mixed-s-requires c =
    let s = c in
    (take_below 2048 33 s.args.f.now s.requires.0, omega (arith, length-take-le 33 s.args.f.now s.requires.1))

pub upper_columns11-upper-requires : goal.upper_columns11-upper-requires
upper_columns11-upper-requires c = tt

pub slice_bounds-mixed-count : goal.slice_bounds-mixed-count
slice_bounds-mixed-count c = let s = c in s.requires.1

pub slice_bounds-mixed-start : goal.slice_bounds-mixed-start
slice_bounds-mixed-start c = let s = c in let h = s.requires.1 in search rules

pub slice_bounds-mixed-end-4 : goal.slice_bounds-mixed-end-4
slice_bounds-mixed-end-4 c = let s = c in let h = s.requires.1 in search rules

pub mixed-t-requires : goal.mixed-t-requires
mixed-t-requires c =
    let s = c in
    let l = s.args.f.now in (
      take_below 2048 (length l - 33) (drop 33 l) (drop-below 2048 33 l s.requires.0),
      omega (arith, ap length (lent-tail l 33), length-drop 33 l),
    )

pub sum-v-requires : goal.sum-v-requires
sum-v-requires c = tt

pub coefficient-requires : goal.coefficient-requires
coefficient-requires c = tt

pub returns : goal.returns
returns c =
    let s = c in
    blocks-read s.requires.0 s.requires.1 s.requires.2 c.columns11-lower.ensures c.upper_columns11-upper.ensures
    c.mixed-s.ensures c.mixed-t.ensures c.sum-v.ensures c.read_lanes.ensures c.coefficient.ensures
