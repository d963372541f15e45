-- `find_direct::tried::tried_roots` meets its contract: numbers that were tried at the monic polynomial are written.
-- Assumes nothing.
use mathlib.Core.Path.{◌≡◌, sym, ap, ◌∙◌}
use mathlib.Core.List.{◌++◌}
use Prim.Native.Nat.{suc, ◌-◌}
use native.Mathlib.Omega.{arith}
use lib.ListN.{length, take, drop, length-take}
use lib.Seq.{length-take-le}
use Rattle.algebra.proofs.StaysBelow.{take_below}
use Rattle.field_constants.proofs.Field11.{element-inverse}
use Rattle.poly.proofs.Parts.{part-copied}
use Rattle.find_direct.proofs.Writing.{found-direct}
use Rattle.find_direct.proofs.Leads.{coefficient, leading-positive}
use Rattle.find_direct.proofs.Trials.{low_below, tried-written}
use borrow.Author.Rules.{rules}
use Rattle.find_direct.proofs.tried.tried_roots.Goals as goal

pub inverse11-requires : goal.inverse11-requires
inverse11-requires c =
    let start = c in (
      leading-positive start.requires.0 (start.args.n - 1) (let e : start.args.n ≡ suc (start.args.n - 1) = omega arith in e),
      coefficient start.requires.0 (start.args.n - 1) (omega arith),
    )

pub slice_bounds-scale-end : goal.slice_bounds-scale-end
slice_bounds-scale-end c = sym (length-take-le _ _ (let h = c.requires.0.top.within in omega arith))

pub scale-requires : goal.scale-requires
scale-requires c =
    let start = c in
    (element-inverse _ c.inverse11.ensures, take_below 2048 (start.args.n - 1) _ start.requires.0.polynomial.small, simp length-take (omega arith))

pub slice_bounds-guess-end : goal.slice_bounds-guess-end
slice_bounds-guess-end c = sym (length-take-le _ _ (search rules))

pub slice_bounds-all_roots-end : goal.slice_bounds-all_roots-end
slice_bounds-all_roots-end c = sym (length-take-le _ _ (search rules))

pub slice_bounds-all_roots-end-2 : goal.slice_bounds-all_roots-end-2
slice_bounds-all_roots-end-2 c = sym (length-take-le _ _ (search rules))

pub all_roots-requires : goal.all_roots-requires
all_roots-requires c =
    let start = c in
    (low_below start.requires.0 start.requires.1 _ _ c.scale.ensures, simp length-take (omega arith))

pub returns-clause-listed : goal.returns-clause-listed
returns-clause-listed c =
    let k = c.args.n - 1 in
    let xs = take k c.guess-xs.result in
    let whole : length xs ≡ k = simp length-take (omega arith) in
    found-direct (tried-written c.requires.0 c.requires.1 _ _ c.scale.ensures c.inverse11.ensures whole (c.all_roots.ensures c.if-not-all_roots.false)
    (ap (λ j. c.copy_from_slice.new.self ++ drop j c.args.roots.now) (sym whole) ∙ part-copied xs c.args.roots.now c.copy_from_slice.ensures.after))
