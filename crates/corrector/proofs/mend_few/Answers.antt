-- `corrector::mend_few` meets its contract: the places of the guess are tried.
-- Assumes nothing.
use native.Mathlib.Omega.{arith}
use lib.ListN.{length-take}
use Rattle.corrector.proofs.Finding.{guess-leading, front-listed}
use Rattle.corrector.proofs.Calling.{front-long, roots-front, placeable, mended-few}
use Rattle.corrector.proofs.mend_few.Goals as goal

pub direct_roots-requires : goal.direct_roots-requires
direct_roots-requires c =
    let l = c.locator-locator.ensures in
    let n = c.top-n.ensures in
    (guess-leading l n, omega arith, (let a = l.long in let b = n.within in omega arith), omega arith)

pub slice_bounds-roots-end : goal.slice_bounds-roots-end
slice_bounds-roots-end c = (front-long (front-listed (c.direct_roots.ensures.found _ c.in_ok-s.was))).0

pub slice_bounds-places-end : goal.slice_bounds-places-end
slice_bounds-places-end c = (front-long (front-listed (c.direct_roots.ensures.found _ c.in_ok-s.was))).1

pub put_places-requires : goal.put_places-requires
put_places-requires c =
    let p = c.locator-locator.result in
    let l = c.locator-locator.ensures in
    roots-front p l.first (front-listed (c.direct_roots.ensures.found _ c.in_ok-s.was))

pub flip_if_agreed-requires : goal.flip_if_agreed-requires
flip_if_agreed-requires c =
    let p = c.locator-locator.result in
    let l = c.locator-locator.ensures in
    let f = front-listed (c.direct_roots.ensures.found _ c.in_ok-s.was) in
    (placeable p l.first f (omega arith) c.put_places.ensures, omega (arith, length-take c.args.t c.args.odd), omega arith)

pub returns : goal.returns
returns c =
    let p = c.locator-locator.result in
    let l = c.locator-locator.ensures in
    let f = front-listed (c.direct_roots.ensures.found _ c.in_ok-s.was) in
    mended-few p c.args.odd c.args.word.now c.flip_if_agreed.new.word l.first f (omega arith) (omega arith) c.put_places.ensures
    c.flip_if_agreed.result c.flip_if_agreed.ensures
