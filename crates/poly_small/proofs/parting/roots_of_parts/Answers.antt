-- `poly_small::parting::roots_of_parts` meets its contract: the roots of the part, and behind them those of the
-- cofactor.
-- Assumes nothing.
use native.Mathlib.Omega.{arith}
use lib.Seq.{length-take-le}
use Rattle.poly_small.proofs.Pieces.{cofactor-asks, piece-low, rest-front, rest-room, rest-low, pieces-out}
use borrow.Author.Rules.{rules}
use Rattle.poly_small.proofs.parting.roots_of_parts.Goals as goal

pub cofactor-requires : goal.cofactor-requires
cofactor-requires c = cofactor-asks c.args.tables.now.lent c.requires (length-take-le _ _ (omega (arith, c.requires.less)))

pub low_roots-k-requires : goal.low_roots-k-requires
low_roots-k-requires c = piece-low c.args.tables.now.lent c.requires

pub low_roots-j-requires : goal.low_roots-j-requires
low_roots-j-requires c = rest-low c.args.tables.now.lent c.requires (rest-front c.args.tables.now.lent c.requires _ c.cofactor.ensures) (rest-room c.args.tables.now.lent c.requires c.low_roots-k.ensures (search rules))

pub returns : goal.returns
returns c = pieces-out c.args.tables.now.lent c.requires _ (rest-front c.args.tables.now.lent c.requires _ c.cofactor.ensures) c.low_roots-k.ensures c.low_roots-j.ensures
