-- `find_search::note_word` meets its contract: the digits read so far are noted.
-- Assumes nothing.
use native.Mathlib.Omega.{arith}
use Rattle.find_search.proofs.Words.{reading-from, reading-on, reading-less, reading-end, shift_small, found, room-here}
use borrow.Author.Rules.{rules}
use Rattle.find_search.proofs.note_word.Goals as goal

pub loop-rest-init : goal.loop-rest-init
loop-rest-init c = reading-from c.requires

pub overflow_cast-at : goal.overflow_cast-at
overflow_cast-at c = let h = shift_small c.requires c.loop-rest.invariant (omega arith) in search rules

pub overflow_add-at : goal.overflow_add-at
overflow_add-at c = let h = found c.requires c.loop-rest.invariant (omega arith) in let w = c.requires.within in let p = c.loop-rest.invariant.place in search rules

pub bounds-roots-n : goal.bounds-roots-n
bounds-roots-n c = let r = room-here c.requires c.loop-rest.invariant (omega arith) in omega arith

pub overflow_add-n : goal.overflow_add-n
overflow_add-n c = let g = c.loop-rest.invariant.tried.fewer in let h = found c.requires c.loop-rest.invariant (omega arith) in let w = c.requires.within in let p = c.loop-rest.invariant.place in search rules

pub overflow_add-at-in-loop-rest : goal.overflow_add-at-in-loop-rest
overflow_add-at-in-loop-rest c = let h = found c.requires c.loop-rest.invariant (omega arith) in let w = c.requires.within in let p = c.loop-rest.invariant.place in search rules

pub overflow_cast-rest : goal.overflow_cast-rest
overflow_cast-rest c = let h = shift_small c.requires c.loop-rest.invariant (omega arith) in search rules

pub overflow_shr-rest : goal.overflow_shr-rest
overflow_shr-rest c = let h = shift_small c.requires c.loop-rest.invariant (omega arith) in search rules

pub loop-rest-smaller : goal.loop-rest-smaller
loop-rest-smaller c = reading-less c.requires c.loop-rest.invariant (omega arith)

pub loop-rest-preserved : goal.loop-rest-preserved
loop-rest-preserved c = reading-on c.requires c.loop-rest.invariant (omega arith)

pub shape_of-roots : goal.shape_of-roots
shape_of-roots c = c.loop-rest.invariant.tried.long

pub returns : goal.returns
returns c = reading-end c.requires c.loop-rest.invariant (omega arith)
