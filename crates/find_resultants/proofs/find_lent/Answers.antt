-- `find_resultants::find_lent` meets its contract.
-- Assumes nothing.
use Rattle.find_resultants.proofs.Listing.{found_none, found-copies, found-fits, found-cut, found-asks, found-room, found_all, found-small}
use lib.Seq.{length-take-le}
use native.Mathlib.Omega.{arith}
use mathlib.Core.Path.{sym, refl}
use Rattle.find_resultants.proofs.find_lent.Goals as goal

pub returns-then-j-lt2 : goal.returns-then-j-lt2
returns-then-j-lt2 c = found_none c.requires.0 c.top-j.ensures c.if-j-lt2.true

pub slice_bounds-copy-end : goal.slice_bounds-copy-end
slice_bounds-copy-end c = sym (length-take-le _ _ c.top-j.ensures.within)

pub copy-requires : goal.copy-requires
copy-requires c = found-copies c.requires.0 c.top-j.ensures c.if-j-lt2.false

pub slice_bounds-level-end : goal.slice_bounds-level-end
slice_bounds-level-end c = sym (length-take-le _ _ (found-fits c.requires.0 c.top-j.ensures c.if-j-lt2.false _ refl c.copy.ensures))

pub level-k-requires : goal.level-k-requires
level-k-requires c = found-asks c.requires.0 c.top-j.ensures c.if-j-lt2.false c.chain_of-end.ensures (found-cut c.requires.0 c.top-j.ensures c.if-j-lt2.false _ c.copy.ensures) (omega arith)

pub slice_bounds-merge-end : goal.slice_bounds-merge-end
slice_bounds-merge-end c = sym (length-take-le _ _ c.level-k.ensures.within)

pub merge-requires : goal.merge-requires
merge-requires c = found-room c.requires.0 c.top-j.ensures c.if-j-lt2.false c.chain_of-end.ensures (found-cut c.requires.0 c.top-j.ensures c.if-j-lt2.false _ c.copy.ensures) c.level-k.ensures _ c.requires.1

pub overflow_cast-result : goal.overflow_cast-result
overflow_cast-result c = omega (arith, found-small c.requires.0 c.top-j.ensures c.if-j-lt2.false c.chain_of-end.ensures (found-cut c.requires.0 c.top-j.ensures c.if-j-lt2.false _ c.copy.ensures) c.level-k.ensures c.merge.ensures)

pub returns : goal.returns
returns c = found_all c.requires.0 c.top-j.ensures c.if-j-lt2.false c.chain_of-end.ensures (found-cut c.requires.0 c.top-j.ensures c.if-j-lt2.false _ c.copy.ensures) c.level-k.ensures c.merge.ensures
