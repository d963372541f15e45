-- `corrector_stream::pack` meets its contract.
-- Assumes nothing.
use native.Mathlib.Omega.{arith}
use lib.ListN.{length}
use mathlib.Core.Path.{◌≡◌, refl}
use mathlib.Core.Bool.{Bool}
use mathlib.Core.List.{List}
use Prim.Native.Nat.{ℕ}
use Rattle.corrector_stream.specs.Words.{capacity, Fills, Fits}
use Rattle.corrector_stream.specs.Calls.Packs.{no_block, no-strength, unfit}
use Rattle.corrector_stream.proofs.Contents.{AreBytes}
use Rattle.corrector_stream.proofs.Filling.{passed-as, sized, unsized, pack-done, pack-never}
use Rattle.corrector_stream.proofs.pack.Goals as goal

-- the data fill the word
fit : {t n : ℕ} (d : List ℕ) {last : Bool} → AreBytes d → n ≡ capacity t → Fills n (length d) last → Fits t d last
fit d u e h = record { bytes = u; fill = rw (← e) h }

pub returns-then-word-ne-WORD : goal.returns-then-word-ne-WORD
returns-then-word-ne-WORD c = no_block c.if-word-ne-WORD.true

pub returns-in_err-size : goal.returns-in_err-size
returns-in_err-size c =
    let o = unsized c.capacity.ensures c.ok_or.ensures.value c.in_err-size.was in
    rw (passed-as _ c.from_residual.ensures.1, o.1) (no-strength c.if-word-ne-WORD.false o.0)

pub returns-then-not-fits : goal.returns-then-not-fits
returns-then-not-fits c =
    let r = sized c.capacity.ensures c.ok_or.ensures.value c.in_ok-size.was in
    unfit c.if-word-ne-WORD.false r.0 (λ h. let z = c.if-not-fits.ensures.1 (rw r.1 h.fill) in absurd (cc))

pub returns-in_err-encode : goal.returns-in_err-encode
returns-in_err-encode c =
    let r = sized c.capacity.ensures c.ok_or.ensures.value c.in_ok-size.was in
    let f = fit c.args.piece.now (λ k. omega (arith, c.type_inv.piece k)) r.1 (c.if-not-fits.ensures.0 refl) in
    pack-never r.0 f c.fill.ensures c.in_err-encode.ensures

pub returns : goal.returns
returns c =
    let r = sized c.capacity.ensures c.ok_or.ensures.value c.in_ok-size.was in
    let f = fit c.args.piece.now (λ k. omega (arith, c.type_inv.piece k)) r.1 (c.if-not-fits.ensures.0 refl) in
    pack-done c.if-word-ne-WORD.false r.0 f c.fill.ensures c.encode.ensures
