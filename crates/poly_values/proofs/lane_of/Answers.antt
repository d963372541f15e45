-- `poly_values::lane_of` meets its contract: the digits from word i up are read.
-- Assumes nothing.
use mathlib.Core.Path.{◌≡◌, sym, ap, ◌∙◌}
use Prim.Native.Nat.{suc, ◌-◌, ◌^◌, ◌≤◌, ◌<◌, ℕ}
use mathlib.Core.List.{List}
use lib.Pow.{pow_mono}
use native.Mathlib.Omega.{arith}
use lib.ListN.{length, drop, length-drop, drop_of_length-le}
use Rattle.poly_values.specs.Planes.{lane}
use Rattle.poly_values.proofs.Planes.{lane-lt}
use Rattle.poly_values.proofs.Scalars.{lane-turn}
use borrow.Author.Rules.{rules}
use Rattle.poly_values.proofs.lane_of.Goals as goal

-- ten digits at most are read before the last
small : (v : List ℕ) (l : ℕ) {i r : ℕ} → length v ≡ 11 → 0 < i → r ≡ lane l (drop i v) → r < 1024
unfolding lane
small v l {i} {r} n h e =
    let t : length (drop i v) ≤ 10 = omega (arith, length-drop i v) in
    let m : 2 ^ length (drop i v) ≤ 1024 = pow_mono t in
    omega (arith, lane-lt l (drop i v))

pub loop-i-init : goal.loop-i-init
unfolding lane
loop-i-init c = sym (ap (lane c.args.l) (drop_of_length-le c.args.v {i = 11} (omega arith)))

pub overflow_mul-r : goal.overflow_mul-r
overflow_mul-r c = let h = small c.args.v c.args.l {i = c.loop-i.i} (omega arith) (omega arith) c.loop-i.invariant in search rules

pub overflow_add-r : goal.overflow_add-r
overflow_add-r c = let h = small c.args.v c.args.l {i = c.loop-i.i} (omega arith) (omega arith) c.loop-i.invariant in search rules

pub loop-i-preserved : goal.loop-i-preserved
loop-i-preserved c = let e : c.loop-i.i ≡ suc (c.loop-i.i - 1) = omega arith in lane-turn c.args.v c.args.l e (omega arith) c.loop-i.invariant

pub returns : goal.returns
returns c = let done : c.loop-i.i ≡ 0 = omega arith in c.loop-i.invariant ∙ ap (λ (n : ℕ). lane c.args.l (drop n c.args.v)) done
