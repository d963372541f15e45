-- `poly_values::multiple_by_table` meets its contract: from pair `pair` up the multiple is done. (b is the table's second
-- vector.)
-- Assumes nothing.
use mathlib.Core.Path.{◌≡◌, refl, sym, ap, ◌∙◌, subst}
use mathlib.Core.List.{List}
use Prim.Native.Nat.{ℕ, suc, ◌*◌, ◌-◌, ◌/◌, ◌%◌, ◌^◌, ◌<◌}
use native.Mathlib.Nat.{div-one}
use native.Mathlib.Omega.{arith}
use Rattle.poly_values.specs.Planes.{taps11, words_at, Multiple, FourMultiples}
use Rattle.poly_values.proofs.Scalars.{digits11}
use Rattle.poly_values.proofs.Multipliers.{monic11}
use Rattle.poly_values.proofs.Windows.{windows-turn, window-next}
use Rattle.poly_values.proofs.multiple_by_table.Goals as goal

four-own : {b t : List ℕ} → FourMultiples taps11 b t → FourMultiples taps11 (words_at 11 t 11) t
four-own {b} {t} F = subst (λ (x : List ℕ). FourMultiples taps11 x t) (sym F.itself) F

pub loop-pair-init : goal.loop-pair-init
loop-pair-init c = let h : c.args.c / 2 ^ 10 < 4 = omega (arith, c.requires) in
    (subst (Multiple taps11 (c.args.c / 2 ^ 10) (words_at 11 c.four_multiples-t.result 11)) (sym c.vector-r.ensures) ((four-own c.four_multiples-t.ensures).multiples (c.args.c / 2 ^ 10) h))

pub loop-pair-preserved : goal.loop-pair-preserved
loop-pair-preserved c = let l = c.loop-pair in
    let at = 2 * (l.pair - 1) in
    let two : 2 * l.pair ≡ suc (suc at) = omega arith in
    let few : c.args.c / 2 ^ at % 4 < 4 = omega arith in
    windows-turn taps11 digits11 monic11 (words_at 11 c.four_multiples-t.result 11) refl (four-own c.four_multiples-t.ensures) l.invariant few (window-next c.args.c two)
    c.doubled-once.ensures c.doubled-twice.ensures c.vector-v.ensures c.sum-next.ensures

pub returns : goal.returns
returns c = let l = c.loop-pair in
    let s = c in
    let done : 2 * l.pair ≡ 0 = omega arith in
    subst (λ (b : List ℕ). Multiple taps11 s.args.c b l.r) c.four_multiples-t.ensures.itself
    (subst (λ (n : ℕ). Multiple taps11 n (words_at 11 c.four_multiples-t.result 11) l.r) (ap (λ (i : ℕ). s.args.c / 2 ^ i) done ∙ div-one s.args.c) l.invariant)
