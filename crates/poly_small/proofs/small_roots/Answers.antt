-- `poly_small::small_roots` meets its contract, by the degree: a cubic's roots are guessed, or found by parting it.
-- Assumes nothing.
use mathlib.Core.Path.{refl}
use Rattle.poly_small.proofs.LowDegrees.{front_out}
use Rattle.poly_small.proofs.Trials.{guess-out, guess-not}
use borrow.Author.Rules.{rules}
use Rattle.poly_small.proofs.small_roots.Goals as goal

pub returns-then-p-lt3 : goal.returns-then-p-lt3
returns-then-p-lt3 c = front_out c.args.p.now c.args.tables.now.lent.degree c.requires.small refl c.low_roots.ensures

pub returns-in-Some : goal.returns-in-Some
returns-in-Some c = guess-out c.args.tables.now.lent c.requires c.if-p-lt3.false c.in-Some.ensures

pub cubic_roots-requires : goal.cubic_roots-requires
cubic_roots-requires c = guess-not c.args.tables.now.lent c.requires c.if-p-lt3.false (search rules)
