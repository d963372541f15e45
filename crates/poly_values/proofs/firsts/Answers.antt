-- `poly_values::firsts` meets its contract: w butterflies are done.
-- Assumes nothing.
use mathlib.Core.Path.{◌≡◌, subst}
use native.Mathlib.Numerals.{add-one}
use native.Mathlib.Omega.{arith}
use Prim.Native.Nat.{ℕ, ◌+◌}
use Rattle.algebra.proofs.StaysBelow.{below_at}
use Rattle.poly_values.specs.Planes.{taps11, Firsts}
use Rattle.poly_values.proofs.Starting.{firsts-from, firsts-turn}
use Rattle.poly_values.proofs.firsts.Goals as goal

pub loop-w-init : goal.loop-w-init
loop-w-init c = firsts-from taps11 _ _ _ _

pub first-requires : goal.first-requires
first-requires c =
    let s = c in
    let l = c.loop-w in
    let n = l.invariant.long in
    (below_at _ s.args.a.now s.requires.0 l.w (omega arith), below_at _ s.args.a.now s.requires.0 (s.args.h + l.w) (omega arith), omega arith, omega arith)

pub loop-w-preserved : goal.loop-w-preserved
loop-w-preserved c =
    let s = c in
    let l = c.loop-w in
    firsts-turn taps11 s.args.e s.args.a.now s.args.h (omega arith) l.invariant c.first.ensures (add-one l.w)

pub returns : goal.returns
returns c =
    let s = c in
    let l = c.loop-w in
    let done : l.w ≡ s.args.h = omega arith in
    subst (λ (n : ℕ). Firsts taps11 s.args.e s.args.a.now s.args.h n s.args.p.now l.p) done l.invariant
