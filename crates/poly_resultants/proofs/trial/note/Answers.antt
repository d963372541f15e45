-- `poly_resultants::trial::note` meets its contract.
-- Assumes nothing.
use Rattle.poly_resultants.proofs.Trying.{note-hit, note-miss}
use Rattle.poly_resultants.proofs.trial.note.Goals as goal

pub returns-then-v-eq0 : goal.returns-then-v-eq0
returns-then-v-eq0 c = note-hit c.args.x c.if-v-eq0.true c.requires

pub returns : goal.returns
returns c = note-miss c.args.x c.if-v-eq0.false
