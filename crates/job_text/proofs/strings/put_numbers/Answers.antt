-- `job_text::strings::put_numbers` meets its contract: there is room for the next number, and it comes behind the others.
-- Assumes nothing.
use mathlib.Core.Path.{refl}
use native.Mathlib.Omega.{arith}
use Rattle.job_text.specs.Lines.{spaced}
use Rattle.job_text.proofs.Writing.{row_from, row_room, row_on, row-all, spaced-wide, longer}
use Rattle.job_text.proofs.strings.put_numbers.Goals as goal

pub loop-x-init : goal.loop-x-init
loop-x-init g c = row_from _

pub put_spaced-requires : goal.put_spaced-requires
put_spaced-requires g c =
    let w = spaced-wide c.args.xs.now (λ i l. omega (arith, c.type_inv.xs i)) in
    omega (arith, c.requires, row_room _ _ c.args.xs.now c.loop-x.x-index c.loop-x.invariant (omega arith) refl)

pub loop-x-preserved : goal.loop-x-preserved
loop-x-preserved g c = row_on _ c.args.xs.now c.loop-x.x-index c.loop-x.invariant (omega arith) refl c.put_spaced.ensures

pub returns : goal.returns
returns g c =
    let xs = c.args.xs.now in
    let all = row-all _ xs c.loop-x.x-index c.loop-x.invariant (omega arith) (omega arith) in
    let w = spaced-wide xs (λ i l. omega (arith, c.type_inv.xs i)) in
    (all, omega (arith, longer c.args.text.now.bytes c.loop-x.text.bytes (spaced xs) all))
