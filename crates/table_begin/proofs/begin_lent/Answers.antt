-- `table_begin::begin_lent` meets its contract: the polynomial is copied and made monic, z^(2^m) + z reduced by it, the
-- greatest common divisor taken, and the table laid.
-- Assumes nothing.
use Rattle.table_begin.proofs.SplitPart.{split-asks, split-some, split-residual, split-powered, split-turnable, split-is}
use Rattle.table_begin.proofs.Writing.{split-few, written_is}
use borrow.Author.Rules.{rules}
use Rattle.table_begin.proofs.begin_lent.Goals as goal

pub make_monic-d-requires : goal.make_monic-d-requires
make_monic-d-requires c = split-asks c.args.tables.now.lent c.requires c.copy.ensures

pub overflow_sub-d : goal.overflow_sub-d
overflow_sub-d c = split-some c.args.tables.now.lent c.requires c.copy.ensures c.make_monic-d.ensures

pub residue-requires : goal.residue-requires
residue-requires c = split-residual c.args.tables.now.lent c.requires c.copy.ensures c.make_monic-d.ensures c.max-e.ensures

pub euclid-k-requires : goal.euclid-k-requires
euclid-k-requires c = split-turnable c.args.tables.now.lent c.requires c.copy.ensures c.make_monic-d.ensures c.max-e.ensures c.residue.ensures.residue _ (search rules)

pub lay-requires : goal.lay-requires
lay-requires c = (c.requires.room, split-few c.requires (split-is c.args.tables.now.lent c.requires c.copy.ensures c.make_monic-d.ensures c.max-e.ensures c.residue.ensures.residue _ (search rules) (search rules) c.euclid-k.ensures))

pub returns : goal.returns
returns c = (written_is _ _ (split-is c.args.tables.now.lent c.requires c.copy.ensures c.make_monic-d.ensures c.max-e.ensures c.residue.ensures.residue _ (search rules) (search rules) c.euclid-k.ensures) c.lay.ensures, split-powered c.args.tables.now.lent c.requires c.copy.ensures c.make_monic-d.ensures _ c.residue.ensures.rows_are)
