-- `corrector::mend_block` meets its contract.
-- Assumes nothing.
use native.Mathlib.Omega.{arith}
use Rattle.corrector.proofs.Outcomes.{odd-under, rest-88, clean, flips-mended, mended-or-far}
use Rattle.corrector.proofs.mend_block.Goals as goal

pub returns-then-r-eq0 : goal.returns-then-r-eq0
returns-then-r-eq0 c = clean c.args.word.now c.args.strength c.requires.0 c.requires.1 c.remainder_of-r.ensures c.if-r-eq0.true

pub odd_values-odd-requires : goal.odd_values-odd-requires
odd_values-odd-requires c = rest-88 c.requires.1.most c.remainder_of-r.ensures

pub returns-in-Some : goal.returns-in-Some
returns-in-Some c =
    flips-mended c.args.word.now c.args.strength c.requires.0 c.requires.1 c.remainder_of-r.ensures c.odd_values-odd.ensures
    c.in-Some.ensures

pub mend_named-requires : goal.mend_named-requires
mend_named-requires c = (odd-under c.odd_values-odd.ensures, c.requires.1.most, omega (arith, c.requires.0.long))

pub returns : goal.returns
returns c =
    rw c.ok_or.ensures.value
    (mended-or-far c.args.word.now c.args.strength c.requires.0 c.requires.1 c.remainder_of-r.ensures c.odd_values-odd.ensures
    c.in_default.ensures c.mend_named.result c.mend_named.ensures)
