-- `corrector_stream::held_in` meets its contract: each test as Holding says.
-- Assumes nothing.
use native.Mathlib.Omega.{arith}
use Rattle.corrector_stream.proofs.Holding.{holds-spare, holds-full, holds-mark, holds-last, holds-nowhere}
use Rattle.corrector_stream.proofs.held_in.Goals as goal

pub returns-then-word-start : goal.returns-then-word-start
returns-then-word-start c =
    let p = c.requires in
    let e = c.data_start-start.ensures in
    let f = c.check_limit.ensures in
    holds-spare p.0 p.1 (rw (← f, ← e) c.if-word-start.true)

pub returns-in-0 : goal.returns-in-0
returns-in-0 c =
    let p = c.requires in
    let e = c.data_start-start.ensures in
    let f = c.check_limit.ensures in
    rw e (holds-full p.0 p.1 (rw (← f, ← e) c.if-word-start.false) c.in-0.is)

pub returns-in_err-bytes-in-1 : goal.returns-in_err-bytes-in-1
returns-in_err-bytes-in-1 c =
    let p = c.requires in
    let e = c.data_start-start.ensures in
    rw c.from_residual.ensures
    (holds-nowhere p.0 p.1 c.in-1.is (rw (← e) c.end_of.ensures) c.in_err-bytes-in-1.was)

pub returns-in_ok-bytes-in-1 : goal.returns-in_ok-bytes-in-1
returns-in_ok-bytes-in-1 c =
    let p = c.requires in
    let e = c.data_start-start.ensures in
    let f = c.check_limit.ensures in
    holds-last p.0 p.1 (rw (← f, ← e) c.if-word-start.false) c.in-1.is (rw (← e) c.end_of.ensures) c.in_ok-bytes-in-1.was

pub returns-in_default : goal.returns-in_default
returns-in_default c =
    let p = c.requires in
    holds-mark p.0 p.1 (omega arith)
