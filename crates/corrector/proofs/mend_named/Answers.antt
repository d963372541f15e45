-- `corrector::mend_named` meets its contract: the places that the register names decide.
-- Assumes nothing.
use mathlib.Core.Path.{refl}
use native.Mathlib.Omega.{arith}
use lib.ListN.{length-take}
use Rattle.corrector.proofs.Finding.{findable}
use Rattle.corrector.proofs.Calling.{keyed, placeable-named, mended-named, unnamed-many}
use Rattle.corrector.proofs.mend_named.Goals as goal

pub places_of-requires : goal.places_of-requires
places_of-requires c =
    let k = keyed c.all_sums-sums.result c.args.t c.key-register.result c.key-register.ensures in
    (findable _ _ k.below k.first (omega arith) refl, k.first, c.requires.1)

pub returns-in_err-n : goal.returns-in_err-n
returns-in_err-n c =
    let k = keyed c.all_sums-sums.result c.args.t c.key-register.result c.key-register.ensures in
    rw c.from_residual.ensures (refl, unnamed-many c.all_sums-sums.ensures k c.in_err-n.ensures)

pub flip_if_agreed-requires : goal.flip_if_agreed-requires
flip_if_agreed-requires c =
    let k = keyed c.all_sums-sums.result c.args.t c.key-register.result c.key-register.ensures in
    (placeable-named k c.requires.1 c.in_ok-n.ensures, omega (arith, length-take c.args.t c.args.odd), c.requires.2)

pub returns : goal.returns
returns c =
    let k = keyed c.all_sums-sums.result c.args.t c.key-register.result c.key-register.ensures in
    mended-named c.args.odd c.args.word.now c.flip_if_agreed.new.word c.all_sums-sums.ensures k (omega arith) c.in_ok-n.ensures c.flip_if_agreed.result c.flip_if_agreed.ensures
