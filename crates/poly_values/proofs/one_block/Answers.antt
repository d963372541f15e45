-- `poly_values::one_block` meets its contract: the coefficients in the basis, and the transform.
-- Assumes nothing.
use mathlib.Core.Path.{refl, sym}
use mathlib.Core.List.{◌++◌}
use Prim.Native.Nat.{ℕ}
use native.Mathlib.Omega.{arith}
use lib.ListN.{length, drop, replicate}
use lib.Seq.{length-take-le}
use Rattle.algebra.proofs.StaysBelow.{below_at}
use Rattle.poly_values.proofs.Levels.{below-take}
use Rattle.poly_values.proofs.Finishing.{lanes-read, lanes_small, lanes-long, lanes-front, first-vector, values_one}
use Rattle.poly_values.proofs.one_block.Goals as goal

pub slice_bounds-read_lanes-end : goal.slice_bounds-read_lanes-end
slice_bounds-read_lanes-end c = sym (length-take-le (length c.args.f.now) (replicate {A = ℕ} 33 0) c.requires.2)

pub read_lanes-requires : goal.read_lanes-requires
read_lanes-requires c = omega (arith, length-take-le (length c.args.f.now) (replicate {A = ℕ} 33 0) c.requires.2)

pub multiple-c-requires : goal.multiple-c-requires
multiple-c-requires c = let e = (lanes-read c.requires.2 c.columns11-columns.ensures c.mixed-v.ensures c.read_lanes.ensures) in
    let a = (c.read_lanes.new.a ++ drop (length c.args.f.now) (replicate 33 0)) in
    below_at _ a (lanes_small a c.mixed-v.result e c.mixed-v.ensures.long) 32 (omega (arith, lanes-long a c.mixed-v.result e))

pub slice_bounds-a-end-2 : goal.slice_bounds-a-end-2
slice_bounds-a-end-2 c = omega (arith, lanes-long (c.read_lanes.new.a ++ drop (length c.args.f.now) (replicate 33 0)) c.mixed-v.result (lanes-read c.requires.2 c.columns11-columns.ensures c.mixed-v.ensures c.read_lanes.ensures))

pub slice_bounds-start-end-2 : goal.slice_bounds-start-end-2
slice_bounds-start-end-2 c = sym (lanes-front (c.read_lanes.new.a ++ drop (length c.args.f.now) (replicate 33 0)) c.mixed-v.result (lanes-read c.requires.2 c.columns11-columns.ensures c.mixed-v.ensures c.read_lanes.ensures))

pub start-requires : goal.start-requires
start-requires c = let e = (lanes-read c.requires.2 c.columns11-columns.ensures c.mixed-v.ensures c.read_lanes.ensures) in
    let a = (c.read_lanes.new.a ++ drop (length c.args.f.now) (replicate 33 0)) in
    record {
      size = refl;
      many = lanes-front a c.mixed-v.result e;
      small = below-take 2048 32 a (lanes_small a c.mixed-v.result e c.mixed-v.ensures.long);
      room = sym c.requires.3;
      table = omega arith;
    }

pub returns : goal.returns
returns c = let s = c in
    let e = (lanes-read c.requires.2 c.columns11-columns.ensures c.mixed-v.ensures c.read_lanes.ensures) in
    let a = (c.read_lanes.new.a ++ drop (length c.args.f.now) (replicate 33 0)) in
    values_one s.requires.0 s.requires.1 s.requires.2 c.columns11-columns.ensures c.top11-top.ensures c.multipliers11-g.ensures c.mixed-v.ensures e
    (first-vector (below_at _ a (lanes_small a c.mixed-v.result e c.mixed-v.ensures.long) 0 (omega (arith, lanes-long a c.mixed-v.result e))) c.spread-b.ensures c.multiple-c.ensures c.sum-x.ensures)
    c.start.ensures
