-- `find_affine::images::images` meets its contract: the terms at the first j powers of two stand.
-- Assumes nothing.
use mathlib.Core.Path.{ap₂, ◌∙◌}
use native.Mathlib.Omega.{arith}
use lib.Pow.{pow-lt, pow_pos}
use Rattle.field.proofs.Known.{listed}
use Rattle.find_affine.specs.Affine.{terms_at}
use Rattle.find_affine.proofs.RowLoops.{filling-on, one-shifted, images-end, degree-widest}
use Rattle.find_affine.proofs.images.images.Goals as goal

pub overflow_shl-j : goal.overflow_shl-j
overflow_shl-j c = let h = degree-widest (listed _ c.requires.0) in omega arith

pub terms-requires : goal.terms-requires
terms-requires c =
    let h = degree-widest (listed _ c.requires.0) in
    let s = one-shifted c.loop-j.j (omega arith) in
    rw (c.tables_of-tables.ensures, s) (c.requires.1, pow_pos c.loop-j.j, pow-lt (omega arith))

pub bounds-out-j : goal.bounds-out-j
bounds-out-j c = let h = degree-widest (listed _ c.requires.0) in omega arith

pub loop-j-preserved : goal.loop-j-preserved
loop-j-preserved c =
    let h = degree-widest (listed _ c.requires.0) in
    filling-on c.loop-j.invariant (omega arith)
    (c.terms.ensures ∙ ap₂ (λ m x. terms_at m c.args.coeffs.now x) c.tables_of-tables.ensures (one-shifted c.loop-j.j (omega arith)))

pub bounds-out-n : goal.bounds-out-n
bounds-out-n c = let h = degree-widest (listed _ c.requires.0) in omega arith

pub returns : goal.returns
returns c = images-end c.loop-j.invariant (omega arith) (degree-widest (listed _ c.requires.0))
