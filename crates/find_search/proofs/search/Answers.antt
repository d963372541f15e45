-- `find_search::search` meets its contract: the tests decide, the roots are those of the trial of every element, and
-- their multiplicities are counted.
-- Assumes nothing.
use mathlib.Core.Path.{sym}
use lib.Seq.{length-take-le}
use Rattle.refusals.proofs.Admitting.{let-in, turned-away, passed-on}
use Rattle.input.proofs.Polynomials.{polynomial-told}
use Rattle.input.proofs.RootMemory.{lists-refused}
use Rattle.find_search.proofs.Admitting.{search-room, both-rooms, searched-within, searched-counts, searched-both}
use Rattle.find_search.proofs.search.Goals as goal

pub search_in-k-requires : goal.search_in-k-requires
search_in-k-requires c =
    let s = c in
    let p = let-in (both-rooms s.args.m s.args.coeffs.now s.args.roots.now s.args.mults.now c.admit_room-found.result c.admit_room-found.ensures c.also.ensures) c.in_ok-also.was in
    (polynomial-told _ _ p, search-room s.args.m s.args.coeffs.now s.args.roots.now p)

pub slice_bounds-multiplicities_in-end : goal.slice_bounds-multiplicities_in-end
slice_bounds-multiplicities_in-end c =
    let s = c in
    let p = let-in (both-rooms s.args.m s.args.coeffs.now s.args.roots.now s.args.mults.now c.admit_room-found.result c.admit_room-found.ensures c.also.ensures) c.in_ok-also.was in
    searched-within s.args.m s.args.coeffs.now s.args.roots.now s.args.mults.now p c.search_in-k.ensures

pub slice_bounds-multiplicities_in-end-2 : goal.slice_bounds-multiplicities_in-end-2
slice_bounds-multiplicities_in-end-2 c =
    let s = c in
    let p = let-in (both-rooms s.args.m s.args.coeffs.now s.args.roots.now s.args.mults.now c.admit_room-found.result c.admit_room-found.ensures c.also.ensures) c.in_ok-also.was in
    sym (length-take-le _ _ (searched-within s.args.m s.args.coeffs.now s.args.roots.now s.args.mults.now p c.search_in-k.ensures))

pub multiplicities_in-requires : goal.multiplicities_in-requires
multiplicities_in-requires c =
    let s = c in
    let p = let-in (both-rooms s.args.m s.args.coeffs.now s.args.roots.now s.args.mults.now c.admit_room-found.result c.admit_room-found.ensures c.also.ensures) c.in_ok-also.was in
    searched-counts s.args.m s.args.coeffs.now s.args.roots.now s.args.mults.now p c.search_in-k.ensures

pub returns-in_err-also : goal.returns-in_err-also
returns-in_err-also c =
    let s = c in
    let a = both-rooms s.args.m s.args.coeffs.now s.args.roots.now s.args.mults.now c.admit_room-found.result c.admit_room-found.ensures c.also.ensures in
    rw (passed-on _ c.from_residual.ensures.1) (lists-refused (turned-away a c.in_err-also.was))

pub returns : goal.returns
returns c =
    let s = c in
    let p = let-in (both-rooms s.args.m s.args.coeffs.now s.args.roots.now s.args.mults.now c.admit_room-found.result c.admit_room-found.ensures c.also.ensures) c.in_ok-also.was in
    searched-both s.args.m s.args.coeffs.now s.args.roots.now s.args.mults.now p c.search_in-k.ensures c.multiplicities_in.ensures
