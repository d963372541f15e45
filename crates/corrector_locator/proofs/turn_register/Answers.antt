-- `corrector_locator::turn_register` meets its contract: each way through it is a way through `turn`.
-- Assumes nothing.
use mathlib.Core.Path.{sym, subst}
use Prim.Native.Nat.{◌<◌}
use native.Mathlib.Omega.{arith}
use Rattle.field.specs.Field.{field_at}
use Rattle.field.proofs.Generator.{inverse-lt}
use Rattle.corrector_code.proofs.Eleven.{gen11}
use Rattle.corrector_locator.proofs.Loops.{conv-lt}
use Rattle.corrector_locator.proofs.Turns.{turn-quiet, turn-short, turn-long}
use Rattle.corrector_locator.proofs.turn_register.Goals as goal

pub product_at-d-requires : goal.product_at-d-requires
product_at-d-requires c = (c.requires.2.0, c.requires.0, omega (arith, c.requires.1))

pub returns-then-d-eq0 : goal.returns-then-d-eq0
returns-then-d-eq0 c = turn-quiet _ _ _ _ _ _ c.product_at-d.ensures c.if-d-eq0.true c.shifted.ensures

pub plus_times-mended-requires : goal.plus_times-mended-requires
plus_times-mended-requires c =
    (subst (λ d. d < 2048) (sym c.product_at-d.ensures) (conv-lt _ _ _), c.requires.2.1)

pub inverse11-v-requires : goal.inverse11-v-requires
inverse11-v-requires c = (omega (arith, c.if-d-eq0.false), subst (λ d. d < 2048) (sym c.product_at-d.ensures) (conv-lt _ _ _))

pub plus_times-old-requires : goal.plus_times-old-requires
plus_times-old-requires c =
    (subst (λ d. d < 2048) (sym c.inverse11-v.ensures) (inverse-lt (field_at 11) gen11 _), c.requires.2.0)

pub returns-then-low-high : goal.returns-then-low-high
returns-then-low-high c =
    let a = c.product_at-d.ensures in
    turn-long _ _ _ _ _ _ a c.if-d-eq0.false c.plus_times-mended.ensures c.if-low-high.true
    c.inverse11-v.ensures c.requires.2.4 c.plus_times-old.ensures c.shifted-then-low-high.ensures

pub returns : goal.returns
returns c =
    turn-short _ _ _ _ _ _ c.product_at-d.ensures c.if-d-eq0.false c.plus_times-mended.ensures c.if-low-high.false c.shifted-2.ensures
