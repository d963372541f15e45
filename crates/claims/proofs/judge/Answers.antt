-- `claims::judge` meets its contract: degrees, the pass over the roots, the list, and both equations.
-- Assumes nothing.
use Rattle.claims.proofs.Judging.{judge-zero, judge-high, judge-tally, judge-spread, judge-weigh, judge-says}
use Rattle.claims.proofs.judge.Goals as goal
use Rattle.claims.proofs.judge.Goals.{then-d-eq0-via-then-d-eq0, then-d-eq0-via-else-d-eq0+then-n-d}

pub returns-then-d-eq0 : goal.returns-then-d-eq0
returns-then-d-eq0 c =
    elim c.then-d-eq0.branch [
      | then-d-eq0-via-then-d-eq0 w ↦ judge-zero c.requires c.top-n.ensures c.top-d.ensures w.if-d-eq0.true
      | then-d-eq0-via-else-d-eq0+then-n-d w ↦ judge-high c.requires c.top-n.ensures c.top-d.ensures w.if-n-d.true
    ]

pub returns-then-not-tally : goal.returns-then-not-tally
returns-then-not-tally c =
    judge-tally c.requires c.top-n.ensures c.top-d.ensures c.tally.ensures c.if-not-tally.true

pub spread_into-requires : goal.spread_into-requires
spread_into-requires c =
    judge-spread c.requires c.top-n.ensures c.top-d.ensures c.if-d-eq0.false c.tally.ensures c.if-not-tally.false

pub weigh-requires : goal.weigh-requires
weigh-requires c =
    judge-weigh c.requires c.top-n.ensures c.top-d.ensures c.if-d-eq0.false c.tally.ensures c.if-not-tally.false c.spread_into.ensures _

pub returns : goal.returns
returns c =
    judge-says c.requires c.top-n.ensures c.top-d.ensures c.if-d-eq0.false c.tally.ensures c.if-not-tally.false c.spread_into.ensures _ c.weigh.ensures
