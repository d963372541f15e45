-- `poly_resultants::trial::try_four` meets its contract: one number after the other is noted.
-- Assumes nothing.
use native.Mathlib.Omega.{arith}
use Rattle.poly.proofs.Logs.{small_of}
use Rattle.poly_resultants.proofs.Trying.{four-room, four-room-1, four-room-2, four-room-3, four-all}
use Rattle.poly_resultants.proofs.trial.try_four.Goals as goal

pub note-i-requires : goal.note-i-requires
note-i-requires c = four-room c.args.tables.now.lent c.requires

pub overflow_add-x : goal.overflow_add-x
overflow_add-x c = let w = c.requires.within in omega (arith, (small_of c.args.tables.now.lent).size-le)

pub note-j-requires : goal.note-j-requires
note-j-requires c = four-room-1 c.args.tables.now.lent c.requires c.evaluate_four-v.ensures c.note-i.ensures

pub overflow_add-x-2 : goal.overflow_add-x-2
overflow_add-x-2 c = let w = c.requires.within in omega (arith, (small_of c.args.tables.now.lent).size-le)

pub note-k-requires : goal.note-k-requires
note-k-requires c = four-room-2 c.args.tables.now.lent c.requires c.evaluate_four-v.ensures c.note-i.ensures c.note-j.ensures

pub overflow_add-x-3 : goal.overflow_add-x-3
overflow_add-x-3 c = let w = c.requires.within in omega (arith, (small_of c.args.tables.now.lent).size-le)

pub note-requires : goal.note-requires
note-requires c = four-room-3 c.args.tables.now.lent c.requires c.evaluate_four-v.ensures c.note-i.ensures c.note-j.ensures c.note-k.ensures

pub returns : goal.returns
returns c = four-all c.args.tables.now.lent c.requires c.evaluate_four-v.ensures c.note-i.ensures c.note-j.ensures c.note-k.ensures c.note.ensures
