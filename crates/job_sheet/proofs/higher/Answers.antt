-- `job_sheet::higher` meets its contract: a case for each.
-- Assumes nothing.
use Rattle.std.proofs.Common.{◌*◌, ◌<◌, ◌≤◌, sym, arith, le-ltb, lt-ltb}
use Rattle.job_sheet.specs.Calls.{told_peak}
use Rattle.job_sheet.proofs.Better.{product-fits, higher-first, higher-second}
use Rattle.job_sheet.proofs.higher.Goals as goal

pub crossed-requires : goal.crossed-requires
crossed-requires c = product-fits (omega arith) (omega arith)

pub crossed-requires-2 : goal.crossed-requires-2
crossed-requires-2 c = product-fits (omega arith) (omega arith)

pub returns-then-crossed : goal.returns-then-crossed
returns-then-crossed c =
    let a = c.args in
    let l : a.a.steps * a.b.limit < a.b.steps * a.a.limit =
    omega (arith, c.crossed-2.ensures, c.crossed.ensures) in
    sym (higher-second (told_peak a.a) (told_peak a.b) (lt-ltb _ _ l))

pub returns : goal.returns
returns c =
    let a = c.args in
    let l : a.b.steps * a.a.limit ≤ a.a.steps * a.b.limit =
    omega (arith, c.crossed-2.ensures, c.crossed.ensures) in
    sym (higher-first (told_peak a.a) (told_peak a.b) (le-ltb _ _ l))
