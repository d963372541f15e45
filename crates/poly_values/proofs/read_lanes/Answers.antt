-- `poly_values::read_lanes` meets its contract: the first i lanes are read.
-- Assumes nothing.
use mathlib.Core.Path.{◌≡◌, refl, ap, ap₂, ◌∙◌}
use mathlib.Core.List.{List, ◌++◌, append-nil}
use native.Mathlib.Numerals.{add-one}
use native.Mathlib.Omega.{arith}
use Prim.Native.Nat.{ℕ}
use lib.ListN.{length, drop, set, drop_of_length-le}
use Rattle.poly_values.specs.Planes.{lanes}
use Rattle.poly_values.proofs.Finishing.{lanes-turn}
use Rattle.poly_values.proofs.read_lanes.Goals as goal

pub loop-i-init : goal.loop-i-init
unfolding lanes
loop-i-init c = refl

pub lane_of-requires : goal.lane_of-requires
lane_of-requires c = omega arith

pub loop-i-preserved : goal.loop-i-preserved
loop-i-preserved c =
    let l = c.loop-i in
    let s = c in
    ap₂ (λ (x : List ℕ) (r : ℕ). set x l.i r) l.invariant c.lane_of.ensures ∙ lanes-turn s.args.v s.args.a.now (omega arith) (add-one l.i)

pub returns : goal.returns
returns c =
    let l = c.loop-i in
    let s = c in
    let done : l.i ≡ length s.args.a.now = omega arith in
    l.invariant ∙ ap (λ (n : ℕ). lanes 0 n s.args.v ++ drop n s.args.a.now) done
    ∙ ap (λ (r : List ℕ). lanes 0 (length s.args.a.now) s.args.v ++ r) (drop_of_length-le s.args.a.now {i = length s.args.a.now} (omega arith)) ∙ append-nil _
