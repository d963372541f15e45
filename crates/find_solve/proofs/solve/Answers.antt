-- `find_solve::solve` meets its contract: the tests decide, the roots are those of the engine, and their multiplicities
-- are counted.
-- Assumes nothing.
use mathlib.Core.Path.{sym}
use lib.Seq.{length-take-le}
use Rattle.refusals.proofs.Admitting.{let-in, turned-away, passed-on}
use Rattle.input.proofs.RootMemory.{lists-refused}
use Rattle.find_solve.proofs.Admitting.{admitted, both-rooms, solved-within, solved-counts, solved-both}
use Rattle.find_solve.proofs.solve.Goals as goal

pub returns-in_err-also : goal.returns-in_err-also
returns-in_err-also c =
    let a = both-rooms c.args.m c.args.cutoff c.args.coeffs.now c.args.roots.now c.args.mults.now c.admit-found.result c.admit-found.ensures c.also.ensures in
    rw (passed-on _ c.from_residual.ensures.1) (lists-refused (turned-away a c.in_err-also.was))

pub solve_in-solved-requires : goal.solve_in-solved-requires
solve_in-solved-requires c =
    let p = let-in (both-rooms c.args.m c.args.cutoff c.args.coeffs.now c.args.roots.now c.args.mults.now c.admit-found.result c.admit-found.ensures c.also.ensures) c.in_ok-also.was in
    admitted c.args.m c.args.cutoff c.args.coeffs.now c.args.roots.now p c.in_force.ensures

pub slice_bounds-multiplicities_in-end : goal.slice_bounds-multiplicities_in-end
slice_bounds-multiplicities_in-end c =
    let p = let-in (both-rooms c.args.m c.args.cutoff c.args.coeffs.now c.args.roots.now c.args.mults.now c.admit-found.result c.admit-found.ensures c.also.ensures) c.in_ok-also.was in
    solved-within c.args.m c.args.cutoff c.args.coeffs.now c.args.roots.now c.args.mults.now p c.solve_in-solved.ensures

pub slice_bounds-multiplicities_in-end-2 : goal.slice_bounds-multiplicities_in-end-2
slice_bounds-multiplicities_in-end-2 c =
    let p = let-in (both-rooms c.args.m c.args.cutoff c.args.coeffs.now c.args.roots.now c.args.mults.now c.admit-found.result c.admit-found.ensures c.also.ensures) c.in_ok-also.was in
    sym (length-take-le _ _ (solved-within c.args.m c.args.cutoff c.args.coeffs.now c.args.roots.now c.args.mults.now p c.solve_in-solved.ensures))

pub multiplicities_in-requires : goal.multiplicities_in-requires
multiplicities_in-requires c =
    let p = let-in (both-rooms c.args.m c.args.cutoff c.args.coeffs.now c.args.roots.now c.args.mults.now c.admit-found.result c.admit-found.ensures c.also.ensures) c.in_ok-also.was in
    solved-counts c.args.m c.args.cutoff c.args.coeffs.now c.args.roots.now c.args.mults.now p c.solve_in-solved.ensures

pub returns : goal.returns
returns c =
    let p = let-in (both-rooms c.args.m c.args.cutoff c.args.coeffs.now c.args.roots.now c.args.mults.now c.admit-found.result c.admit-found.ensures c.also.ensures) c.in_ok-also.was in
    solved-both c.args.m c.args.cutoff c.args.coeffs.now c.args.roots.now c.args.mults.now p c.solve_in-solved.ensures c.in_force.ensures c.multiplicities_in.ensures
