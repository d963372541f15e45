-- `poly_small::parting::cubic_roots` meets its contract: the part that splits has all the roots, and where it is the
-- whole cubic, some level parts it.
-- Assumes nothing.
use Rattle.poly_small.proofs.Pieces.{split-asks, split-piece, split-low, split-out, split-given, whole_out}
use borrow.Author.Rules.{rules}
use Rattle.poly_small.proofs.parting.cubic_roots.Goals as goal

pub low_roots-requires : goal.low_roots-requires
low_roots-requires c = split-low c.args.tables.now.lent c.requires.0 c.requires.1 (search rules) c.cubic_split_part-n.ensures c.if-n-lt3.true

pub returns-then-n-lt3 : goal.returns-then-n-lt3
returns-then-n-lt3 c = split-out c.args.tables.now.lent c.requires.0 c.requires.1 (search rules) c.cubic_split_part-n.ensures c.low_roots.ensures

pub part_of-k-requires : goal.part_of-k-requires
part_of-k-requires c = split-asks c.args.tables.now.lent (split-given c.args.tables.now.lent c.requires.0 c.requires.1 (search rules) c.cubic_split_part-n.ensures c.if-n-lt3.false) (search rules)

pub roots_of_parts-requires : goal.roots_of_parts-requires
roots_of_parts-requires c = split-piece c.args.tables.now.lent (split-given c.args.tables.now.lent c.requires.0 c.requires.1 (search rules) c.cubic_split_part-n.ensures c.if-n-lt3.false) (search rules) c.part_of-k.ensures

pub returns : goal.returns
returns c = whole_out c.args.tables.now.lent c.requires.0 c.requires.1 (search rules) c.cubic_split_part-n.ensures c.if-n-lt3.false c.roots_of_parts.ensures
