-- `poly_resultants::trial::try_first` meets its contract. The loop's invariant: the roots below x are written.
-- Assumes nothing.
use native.Mathlib.Omega.{arith}
use Rattle.poly_resultants.proofs.Trying.{tried-from, tried-note, tried-at, tried-room, four_below}
use Rattle.poly_resultants.proofs.trial.try_first.Goals as goal

pub loop-x-init : goal.loop-x-init
loop-x-init c = tried-from

pub evaluate-v-requires : goal.evaluate-v-requires
evaluate-v-requires c = let z = four_below c.args.tables.now.lent in (c.requires.poly.small, omega arith)

pub note-n-requires : goal.note-n-requires
note-n-requires c = let z = four_below c.args.tables.now.lent in tried-room c.args.tables.now.lent c.requires c.loop-x.invariant (omega arith)

pub loop-x-preserved : goal.loop-x-preserved
loop-x-preserved c = let z = four_below c.args.tables.now.lent in tried-note c.loop-x.invariant (tried-room c.args.tables.now.lent c.requires c.loop-x.invariant (omega arith)) c.evaluate-v.ensures c.note-n.ensures

pub returns : goal.returns
returns c = tried-at (omega arith) c.loop-x.invariant
