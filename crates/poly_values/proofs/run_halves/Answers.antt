-- `poly_values::run_halves` meets its contract: each half is transformed by its own multipliers.
-- Assumes nothing.
use mathlib.Core.Path.{◌∙◌}
use native.Mathlib.Omega.{arith}
use lib.Pow.{pow_pos}
use lib.ListN.{length-take, length-drop}
use Rattle.poly_values.specs.Planes.{taps11}
use Rattle.poly_values.proofs.Halves.{halves-back-plain}
use borrow.Author.Rules.{rules}
use Rattle.poly_values.proofs.run_halves.Goals as goal

pub overflow_mul-mid : goal.overflow_mul-mid
overflow_mul-mid c = omega arith

pub slice_bounds-fourier-count : goal.slice_bounds-fourier-count
slice_bounds-fourier-count c = let b = pow_pos c.args.k in omega arith

pub slice_bounds-fourier-start : goal.slice_bounds-fourier-start
slice_bounds-fourier-start c = let b = pow_pos c.args.k in omega arith

pub slice_bounds-fourier-end : goal.slice_bounds-fourier-end
slice_bounds-fourier-end c = let b = pow_pos c.args.k in search rules

pub fourier-requires : goal.fourier-requires
fourier-requires c = let s = c in (s.requires.0, simp length-take (omega arith), simp (length-take, length-drop) (omega arith))

pub fourier-requires-2 : goal.fourier-requires-2
fourier-requires-2 c = let s = c in (s.requires.0, simp (length-take, length-drop) (omega (arith, c.fourier.auto.p)), simp (length-take, length-drop) (omega arith))

pub returns : goal.returns
returns c =
    let s = c in
    halves-back-plain taps11 s.args.g.now s.args.p.now s.args.k s.args.h (c.fourier.auto.p ∙ simp length-take (omega arith)) c.fourier.ensures c.fourier-2.ensures
