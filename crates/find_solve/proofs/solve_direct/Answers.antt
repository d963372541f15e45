-- `find_solve::solve_direct` meets its contract: the roots that were written tell the steps, and where none was a
-- table is stepped.
-- Assumes nothing.
use mathlib.Core.Path.{refl, sym}
use lib.Seq.{length-take-le}
use Rattle.find_solve.proofs.Direct.{direct-within, direct-below, direct-out, traced-after}
use Rattle.find_solve.proofs.solve_direct.Goals as goal

pub slice_bounds-steps_of-end : goal.slice_bounds-steps_of-end
slice_bounds-steps_of-end c =
    direct-within _ (c.direct_roots.ensures.found _ c.in-Some.is) c.requires.0 c.requires.5

pub slice_bounds-steps_of-end-in-Some : goal.slice_bounds-steps_of-end-in-Some
slice_bounds-steps_of-end-in-Some c =
    let start = c in
    sym (length-take-le _ _ (direct-within _ (c.direct_roots.ensures.found _ c.in-Some.is) start.requires.0 start.requires.5))

pub steps_of-steps-requires : goal.steps_of-steps-requires
steps_of-steps-requires c = direct-below _ (c.direct_roots.ensures.found _ c.in-Some.is)

pub returns-in-Some : goal.returns-in-Some
returns-in-Some c = direct-out _ (c.direct_roots.ensures.found _ c.in-Some.is) refl c.steps_of-steps.ensures

pub returns-in-None : goal.returns-in-None
returns-in-None c = traced-after (c.direct_roots.ensures.missed c.in-None.is) c.solve_traced.ensures
