-- `claim_maker::pair` meets its contract: the remainder, and Euclid's algorithm with h and it.
-- Assumes nothing.
use Rattle.claim_maker.proofs.Pairing.{pair-remains, pair-copies, pair-unites, pair_is}
use borrow.Author.Rules.{rules}
use Rattle.claim_maker.proofs.pair.Goals as goal

pub residue_by-d-requires : goal.residue_by-d-requires
residue_by-d-requires c = pair-remains c.args.tables.now.lent c.requires

pub copy-requires : goal.copy-requires
copy-requires c = pair-copies c.args.tables.now.lent c.requires c.residue_by-d.ensures c.residue_by-d.new.low c.residue_by-d.auto.low

pub unite-requires : goal.unite-requires
unite-requires c = pair-unites c.args.tables.now.lent c.requires c.residue_by-d.ensures c.copy.ensures (search rules)

pub returns : goal.returns
returns c = pair_is c.args.tables.now.lent c.requires c.residue_by-d.ensures c.copy.ensures (search rules) c.unite.ensures
