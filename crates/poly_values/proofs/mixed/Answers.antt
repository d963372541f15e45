-- `poly_values::mixed` meets its contract: from coefficient j up the sum is done.
-- Assumes nothing.
use mathlib.Core.Path.{◌≡◌, refl, subst}
use Prim.Native.Nat.{ℕ, suc, ◌*◌, ◌-◌}
use native.Mathlib.Omega.{arith}
use lib.ListN.{drop}
use Rattle.algebra.proofs.StaysBelow.{below_at}
use Rattle.poly_values.specs.Planes.{taps11, Mixed}
use Rattle.poly_values.proofs.Scalars.{digits11, mixed-from, mixed-turn}
use Rattle.poly_values.proofs.mixed.Goals as goal

pub loop-j-init : goal.loop-j-init
loop-j-init c = mixed-from taps11 digits11 c.args.f.now c.args.g.now refl

pub multiple_by_table-m-requires : goal.multiple_by_table-m-requires
multiple_by_table-m-requires c = below_at _ c.args.f.now c.requires.0 (c.loop-j.j - 1) (omega arith)

pub loop-j-preserved : goal.loop-j-preserved
loop-j-preserved c = let l = c.loop-j in let e : l.j ≡ suc (l.j - 1) = omega arith in mixed-turn taps11 digits11 c.args.f.now c.args.g.now e (omega arith) l.invariant c.vector-t.ensures c.multiple_by_table-m.ensures c.sum-next.ensures

pub returns : goal.returns
returns c =
    let l = c.loop-j in
    let a = c.args in
    let done : l.j ≡ 0 = omega arith in
    subst (λ (n : ℕ). Mixed taps11 (drop n a.f.now) (drop (n * 11) a.g.now) l.r) done l.invariant
