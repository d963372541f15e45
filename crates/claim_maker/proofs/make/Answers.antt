-- `claim_maker::make` meets its contract: the roots, their multiplicities, the cofactor, and u and v.
-- Assumes nothing.
use mathlib.Core.Path.{sym}
use lib.Seq.{length-take-le}
use Rattle.claim_maker.proofs.Making.{make-long, make-solves, make-within, make-counts, make-powers, make-beside, make-splits, make-pairs, make-is}
use borrow.Author.Rules.{rules}
use Rattle.claim_maker.proofs.make.Goals as goal

pub halves_of-halves-requires : goal.halves_of-halves-requires
halves_of-halves-requires c = c.args.tables.now.lent.degree

pub find_roots-n-requires : goal.find_roots-n-requires
find_roots-n-requires c =
    make-solves c.args.tables.now.lent c.halves_of-halves.ensures c.requires

pub multiplicities_lent-requires : goal.multiplicities_lent-requires
multiplicities_lent-requires c =
    make-counts c.args.tables.now.lent c.halves_of-halves.ensures c.requires c.find_roots-n.ensures

pub split_off-requires : goal.split_off-requires
split_off-requires c =
    make-splits c.args.tables.now.lent c.halves_of-halves.ensures c.requires c.find_roots-n.ensures c.multiplicities_lent.ensures

pub field_power-requires : goal.field_power-requires
field_power-requires c =
    make-powers c.args.tables.now.lent c.halves_of-halves.ensures c.requires c.find_roots-n.ensures

pub pair-requires : goal.pair-requires
pair-requires c =
    make-pairs c.args.tables.now.lent c.halves_of-halves.ensures c.requires c.find_roots-n.ensures c.multiplicities_lent.ensures c.split_off.ensures (search rules) c.field_power.ensures

pub returns : goal.returns
returns c =
    make-is c.args.tables.now.lent c.halves_of-halves.ensures c.requires c.find_roots-n.ensures c.multiplicities_lent.ensures c.split_off.ensures (search rules) c.pair.ensures (search rules) (search rules)

pub slice_bounds-multiplicities_lent-end : goal.slice_bounds-multiplicities_lent-end
slice_bounds-multiplicities_lent-end c =
    make-within c.args.tables.now.lent c.halves_of-halves.ensures c.requires c.find_roots-n.ensures

pub slice_bounds-multiplicities_lent-end-2 : goal.slice_bounds-multiplicities_lent-end-2
slice_bounds-multiplicities_lent-end-2 c =
    sym (length-take-le _ _ (make-within c.args.tables.now.lent c.halves_of-halves.ensures c.requires c.find_roots-n.ensures))

pub slice_bounds-split_off-end : goal.slice_bounds-split_off-end
slice_bounds-split_off-end c =
    make-within c.args.tables.now.lent c.halves_of-halves.ensures c.requires c.find_roots-n.ensures

pub slice_bounds-split_off-end-2 : goal.slice_bounds-split_off-end-2
slice_bounds-split_off-end-2 c =
    sym (length-take-le _ _ (make-within c.args.tables.now.lent c.halves_of-halves.ensures c.requires c.find_roots-n.ensures))

pub slice_bounds-split_off-end-3 : goal.slice_bounds-split_off-end-3
slice_bounds-split_off-end-3 c =
    make-beside c.args.tables.now.lent c.halves_of-halves.ensures c.requires c.find_roots-n.ensures c.multiplicities_lent.ensures

pub slice_bounds-split_off-end-4 : goal.slice_bounds-split_off-end-4
slice_bounds-split_off-end-4 c =
    sym (length-take-le _ _ (make-beside c.args.tables.now.lent c.halves_of-halves.ensures c.requires c.find_roots-n.ensures c.multiplicities_lent.ensures))

pub slice_bounds-pair-end-2 : goal.slice_bounds-pair-end-2
slice_bounds-pair-end-2 c =
    sym (make-long c.args.tables.now.lent c.halves_of-halves.ensures c.requires c.find_roots-n.ensures c.multiplicities_lent.ensures c.split_off.ensures (search rules))
