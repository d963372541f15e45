-- `claim_maker::residue_by` meets its contract: h is copied and made monic, and b divided by it.
-- Assumes nothing.
use mathlib.Core.Path.{sym}
use lib.Seq.{length-take-le}
use Rattle.claim_maker.proofs.Powering.{residue-monic, residue-some, residue-few, residue-logs, residue-reduces, residue-is}
use borrow.Author.Rules.{rules}
use Rattle.claim_maker.proofs.residue_by.Goals as goal

pub make_monic-d-requires : goal.make_monic-d-requires
make_monic-d-requires c = residue-monic c.args.tables.now.lent c.requires c.copy.ensures

pub log_row-requires : goal.log_row-requires
log_row-requires c = let f = residue-few c.args.tables.now.lent c.requires c.copy.ensures c.make_monic-d.ensures in residue-logs c.args.tables.now.lent c.requires c.copy.ensures c.make_monic-d.ensures (sym (length-take-le _ _ (search rules)))

pub remainder-requires : goal.remainder-requires
remainder-requires c = residue-reduces c.args.tables.now.lent c.requires c.copy.ensures c.make_monic-d.ensures c.log_row.ensures _

pub returns : goal.returns
returns c = residue-is c.args.tables.now.lent c.requires c.copy.ensures c.make_monic-d.ensures c.log_row.ensures _ c.remainder.ensures _

pub overflow_sub-d : goal.overflow_sub-d
overflow_sub-d c = residue-some c.args.tables.now.lent c.requires c.copy.ensures c.make_monic-d.ensures
