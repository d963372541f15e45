-- `poly_values::multiple` meets its contract: from digit i up the multiple is done.
-- Assumes nothing.
use mathlib.Core.Path.{◌≡◌, refl, ap, ◌∙◌, subst}
use Prim.Native.Nat.{ℕ, suc, ◌-◌, ◌/◌, ◌^◌}
use native.Mathlib.Nat.{div-eq_of_lt, div-one}
use native.Mathlib.Omega.{arith}
use Rattle.poly_values.specs.Planes.{taps11, Multiple}
use Rattle.poly_values.proofs.Scalars.{digits11, binary_digit-next, multiple-from, multiple-double, multiple-more}
use Rattle.poly_values.proofs.multiple.Goals as goal

pub returns-then-c-eq0 : goal.returns-then-c-eq0
returns-then-c-eq0 c = multiple-from taps11 digits11 c.args.b (omega arith) (omega arith) refl

pub loop-i-init : goal.loop-i-init
loop-i-init c = multiple-from taps11 digits11 c.args.b (omega arith) (div-eq_of_lt c.requires) refl

pub loop-i-preserved-then-c-i-eq1 : goal.loop-i-preserved-then-c-i-eq1
loop-i-preserved-then-c-i-eq1 c = let l = c.loop-i in let s = c in let e : l.i ≡ suc (l.i - 1) = omega arith in
    multiple-more taps11 digits11 s.args.b (omega arith) l.invariant c.doubled-next.ensures c.sum-more.ensures (let d = binary_digit-next s.args.c e in omega arith)

pub loop-i-preserved : goal.loop-i-preserved
loop-i-preserved c = let l = c.loop-i in let s = c in let e : l.i ≡ suc (l.i - 1) = omega arith in
    multiple-double taps11 digits11 s.args.b (omega arith) l.invariant c.doubled-next.ensures (let d = binary_digit-next s.args.c e in omega arith)

pub returns : goal.returns
returns c = let l = c.loop-i in
    let s = c in
    let done : l.i ≡ 0 = omega arith in
    subst (λ (n : ℕ). Multiple taps11 n s.args.b l.r) (ap (λ (i : ℕ). s.args.c / 2 ^ i) done ∙ div-one s.args.c) l.invariant
