-- `find_search::try_first` meets its contract: the elements below x were tried.
-- Assumes nothing.
use native.Mathlib.Omega.{arith}
use Rattle.find_search.proofs.Trying.{tried-from, tried-note, note-room, tried-next, sizes}
use Rattle.find_search.proofs.Admitting.{roots-room}
use Rattle.find_search.proofs.try_first.Goals as goal

pub loop-x-init : goal.loop-x-init
loop-x-init c = tried-from _ _ _

pub evaluate-v-requires : goal.evaluate-v-requires
evaluate-v-requires c = let z = sizes c.args.tables.now.lent in (c.requires.0.small, omega arith)

pub note-k-requires : goal.note-k-requires
note-k-requires c =
    let z = sizes c.args.tables.now.lent in
    let i = c.loop-x.invariant in let h = i.fewer in
    (note-room i (omega arith) c.evaluate-v.ensures (roots-room c.requires.0 c.requires.1), omega arith)

pub loop-x-preserved : goal.loop-x-preserved
loop-x-preserved c =
    let z = sizes c.args.tables.now.lent in
    tried-next (tried-note c.loop-x.invariant (omega arith) c.evaluate-v.ensures (roots-room c.requires.0 c.requires.1) c.note-k.ensures) (omega arith)

pub returns : goal.returns
returns c = tried-next c.loop-x.invariant (omega arith)
