-- `table_slots::lay` meets its contract: cleared slots, the numbers in front, and a factor appended behind them.
-- Assumes nothing.
use mathlib.Core.Path.{ap, ◌∙◌}
use native.Mathlib.Omega.{arith}
use lib.ListN.{replicate, length-set}
use Rattle.table_slots.proofs.Laying.{laid_none, laid-some}
use Rattle.table_slots.proofs.lay.Goals as goal

pub returns-then-n-eq0 : goal.returns-then-n-eq0
returns-then-n-eq0 c =
    let s = c in
    laid_none s.args.m s.args.c s.args.low.now (c.clear.ensures ∙ ap (λ k. replicate k 0) s.requires.0) c.if-n-eq0.true

pub append-requires : goal.append-requires
append-requires c = (simp length-set (omega arith), omega arith)

pub returns : goal.returns
returns c =
    let s = c in
    laid-some s.args.m s.args.c s.args.low.now (c.clear.ensures ∙ ap (λ k. replicate k 0) s.requires.0) c.if-n-eq0.false c.append.ensures
