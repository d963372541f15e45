-- `table_slots::append` meets its contract.
-- Assumes nothing.
use Rattle.table_slots.proofs.Appending.{append-none, append-some}
use Rattle.table_slots.proofs.append.Goals as goal

pub returns-then-n-eq0 : goal.returns-then-n-eq0
returns-then-n-eq0 c = append-none _ _ _ _ c.if-n-eq0.true

pub returns : goal.returns
returns c = let e = c in let s = e in append-some s.args.at s.args.level _ _ e.if-n-eq0.false s.requires.0 c.paste.ensures
