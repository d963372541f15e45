-- `poly_values::two_rows` meets its contract: w vectors are stored.
-- Assumes nothing.
use mathlib.Core.Path.{◌≡◌, subst}
use native.Mathlib.Numerals.{add-one}
use native.Mathlib.Omega.{arith}
use Prim.Native.Nat.{ℕ, ◌+◌}
use Rattle.algebra.proofs.StaysBelow.{below_at}
use Rattle.poly_values.specs.Planes.{taps11, TwoBlocks}
use Rattle.poly_values.proofs.Starting.{two_from, two-turn}
use Rattle.poly_values.proofs.two_rows.Goals as goal

pub loop-w-init : goal.loop-w-init
loop-w-init c = two_from taps11 _ _ _ _

pub multiple-m-requires : goal.multiple-m-requires
multiple-m-requires c =
    let s = c in
    let l = c.loop-w in
    below_at _ s.args.a.now s.requires.0 (s.args.h + l.w) (omega arith)

pub loop-w-preserved : goal.loop-w-preserved
loop-w-preserved c =
    let s = c in
    let l = c.loop-w in
    let n = l.invariant.long in
    two-turn taps11 s.args.b s.args.a.now s.args.h l.invariant (below_at _ s.args.a.now s.requires.0 l.w (omega arith)) c.spread-s.ensures
    c.multiple-m.ensures c.sum-t.ensures (omega arith) c.put_vector.ensures (add-one l.w)

pub returns : goal.returns
returns c =
    let s = c in
    let l = c.loop-w in
    let done : l.w ≡ s.args.h = omega arith in
    subst (λ (n : ℕ). TwoBlocks taps11 s.args.b s.args.a.now s.args.h n s.args.p.now l.p) done l.invariant
