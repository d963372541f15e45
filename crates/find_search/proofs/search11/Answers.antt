-- `find_search::search11` meets its contract: the elements of the first w words are tried.
-- Assumes nothing.
use mathlib.Core.Path.{refl}
use native.Mathlib.Omega.{arith}
use Rattle.find_search.proofs.Trying.{tried-from, tried-again, tried-over, tried-next, tried-end}
use Rattle.find_search.proofs.Admitting.{roots-room}
use Rattle.find_search.proofs.Words.{free-from}
use borrow.Author.Rules.{rules}
use Rattle.find_search.proofs.search11.Goals as goal

pub values11-requires : goal.values11-requires
values11-requires c = let s = c in let h = s.requires.0.few in (s.requires.0.small, s.requires.0.some, omega arith, refl)

pub loop-w-init : goal.loop-w-init
loop-w-init c = tried-from 11 _ _

pub occupied11-z-requires : goal.occupied11-z-requires
occupied11-z-requires c = omega (arith, c.values11.auto.p)

pub note_word-k-requires : goal.note_word-k-requires
note_word-k-requires c = let s = c in let l = c.loop-w in record { tried = tried-again l.invariant; digits = free-from c.values11.ensures l.w (omega arith) c.occupied11-z.ensures (search rules); room = (let e = l.invariant.long in let r = roots-room s.requires.0 s.requires.1 in omega arith); within = omega arith }

pub loop-w-preserved : goal.loop-w-preserved
loop-w-preserved c = let l = c.loop-w in tried-next (tried-over l.invariant c.note_word-k.ensures (omega arith)) (omega arith)

pub returns : goal.returns
returns c = tried-end c.loop-w.invariant (omega arith)
