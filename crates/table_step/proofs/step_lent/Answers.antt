-- `table_step::step_lent` meets its contract: what it reads is the factor to split, and what takes its place are the
-- parts.
-- Assumes nothing.
use native.Mathlib.Omega.{arith}
use Rattle.table_step.proofs.Replacing.{level-there, stands, part-asks, replace-asks, replaced}
use Rattle.table_step.proofs.step_lent.Goals as goal

pub level_at-level-requires : goal.level_at-level-requires
level_at-level-requires c = level-there c.args.table.now c.requires.chosen

pub low_at-requires : goal.low_at-requires
low_at-requires c = stands c.args.table.now c.requires.chosen

pub parts_of-q-requires : goal.parts_of-q-requires
parts_of-q-requires c =
    (part-asks c.args.table.now c.requires.chosen c.requires.width c.level_at-level.ensures c.low_at.ensures c.requires, omega arith)

pub replace-requires : goal.replace-requires
replace-requires c =
    replace-asks c.args.table.now c.requires.chosen c.requires.width c.level_at-level.ensures c.low_at.ensures c.parts_of-q.ensures

pub returns : goal.returns
returns c =
    replaced c.args.table.now c.requires.chosen c.requires.width c.level_at-level.ensures c.low_at.ensures c.parts_of-q.ensures c.replace.ensures
