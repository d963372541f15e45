-- `poly_values::fourier` meets its contract: the butterflies of a level, then the two halves.
-- Assumes nothing.
use mathlib.Core.Path.{◌≡◌, refl, sym, ap, ◌∙◌}
use native.Mathlib.Omega.{arith}
use lib.ListN.{length-take}
use Rattle.poly_values.specs.Planes.{taps11, transform_at}
use Rattle.poly_values.proofs.Halves.{half_count, halves-back}
use Prim.Native.Nat.{◌/◌}
use Rattle.poly_values.proofs.+fourier.Goals as goal

pub butterflies-requires : goal.butterflies-requires
butterflies-requires t c = let h = half_count c.args.k c.args.n c.if-k-gt0.true c.requires.0 in (omega arith, omega arith, omega arith)

pub slice_bounds-fourier-count : goal.slice_bounds-fourier-count
slice_bounds-fourier-count t c = let h = half_count c.args.k c.args.n c.if-k-gt0.true c.requires.0 in omega arith

pub slice_bounds-fourier-start : goal.slice_bounds-fourier-start
slice_bounds-fourier-start t c = let h = half_count c.args.k c.args.n c.if-k-gt0.true c.requires.0 in omega arith

pub returns-then-k-gt0 : goal.returns-then-k-gt0
returns-then-k-gt0 t c =
    let h = half_count c.args.k c.args.n c.if-k-gt0.true c.requires.0 in
    halves-back taps11 c.args.g.now c.args.p.now c.args.k (c.args.n / 2) c.if-k-gt0.true h.half (c.fourier.auto.p ∙ simp length-take (omega (arith, c.butterflies.auto.p))) refl c.butterflies.ensures c.fourier.ensures c.fourier-then-k-gt0.ensures

pub returns-else-k-gt0 : goal.returns-else-k-gt0
unfolding transform_at
returns-else-k-gt0 t c =
    let none : c.args.k ≡ 0 = omega arith in
    sym (ap (λ k. transform_at taps11 k c.args.g.now c.args.p.now) none)
