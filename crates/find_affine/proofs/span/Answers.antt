-- `find_affine::span` meets its contract: the vectors that the elimination leaves list the roots.
-- Assumes nothing.
use mathlib.Core.Path.{sym, ap, ◌∙◌}
use Prim.Native.Nat.{ℕ}
use native.Mathlib.Omega.{arith}
use lib.Bits.{bit_xor}
use lib.ListN.{get_or}
use Rattle.field.proofs.Known.{listed}
use Rattle.find_affine.specs.Spaces.{spanned}
use Rattle.find_affine.proofs.RowLoops.{degree-widest}
use Rattle.find_affine.proofs.RootSpace.{left_by, roots-none, roots-some}
use Rattle.find_affine.proofs.Answering.{told_none, told-space}
use Rattle.find_affine.proofs.span.Goals as goal

pub images-columns-requires : goal.images-columns-requires
images-columns-requires c = let s = c.requires in (s.field, s.small)

pub units-requires : goal.units-requires
units-requires c = degree-widest (listed _ c.requires.field)

pub kernel-vectors-requires : goal.kernel-vectors-requires
kernel-vectors-requires c = degree-widest (listed _ c.requires.field)

pub bounds-vectors-n : goal.bounds-vectors-n
bounds-vectors-n c = let h = degree-widest (listed _ c.requires.field) in omega arith

pub returns-then-last-eq0 : goal.returns-then-last-eq0
returns-then-last-eq0 c =
    let k = c in
    let s = c.requires in
    let left =
    left_by s.field (degree-widest (listed _ s.field)) k.images-columns.ensures k.system.ensures
    k.units.ensures k.kernel-vectors.ensures
    in
    told_none (roots-none s.field s.element left c.if-last-eq0.true)

pub list-count-requires : goal.list-count-requires
list-count-requires c = let s = c.requires in (degree-widest (listed _ s.field), s.room)

pub dimension-requires : goal.dimension-requires
dimension-requires c = degree-widest (listed _ c.requires.field)

pub returns : goal.returns
returns c =
    let k = c in
    let s = c in
    let f = s.requires.field in
    let left =
    left_by f (degree-widest (listed _ f)) k.images-columns.ensures k.system.ensures
    k.units.ensures k.kernel-vectors.ensures
    in
    let v = k.kernel-vectors.result in
    let m = s.args.m in
    told-space
    (roots-some f s.requires.element left c.if-last-eq0.false
    ∙ ap (λ (q : ℕ). spanned m v (bit_xor (get_or v m 0) q)) (sym c.size_of.ensures))
    c.list-count.ensures c.dimension.ensures
