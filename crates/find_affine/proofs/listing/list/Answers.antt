-- `find_affine::listing::list` meets its contract: the sums with the vectors before this one stand at the front.
-- Assumes nothing.
use mathlib.Core.Path.{subst}
use Prim.Native.Nat.{◌<◌}
use native.Mathlib.Omega.{arith}
use lib.Pow.{pow_pos}
use lib.ListN.{length}
use lib.Seq.{length-take-le, get_or-take}
use Rattle.find_affine.specs.Spaces.{Grown}
use Rattle.find_affine.proofs.ListLoops.{listing-from, listing-room, listing-on, listing-end, listing-few}
use Rattle.find_affine.proofs.listing.list.Goals as goal

pub loop-v-init : goal.loop-v-init
loop-v-init c =
    let p = c.requires.1 in
    let h : 0 < length c.args.roots.now = omega (arith, pow_pos c.args.n) in
    listing-from _ _ c.args.roots.now h

pub grow-k-requires : goal.grow-k-requires
grow-k-requires c =
    let t = length-take-le c.args.n c.args.vectors.now (omega (arith, c.requires.0)) in
    listing-room c.args.roots.now c.loop-v.invariant (omega arith) c.requires.1

pub loop-v-preserved : goal.loop-v-preserved
loop-v-preserved c =
    let t = length-take-le c.args.n c.args.vectors.now (omega (arith, c.requires.0)) in
    let l = c.loop-v in
    let g = c.grow-k in
    listing-on l.invariant
    (subst (λ v. Grown l.k v l.roots g.result g.new.list) (get_or-take c.args.n c.args.vectors.now l.v-index 0 (omega arith)) g.ensures) g.auto.list

pub overflow_cast-result : goal.overflow_cast-result
overflow_cast-result c =
    let t = length-take-le c.args.n c.args.vectors.now (omega (arith, c.requires.0)) in
    let f = listing-few c.loop-v.invariant (omega arith) c.requires.0 in
    omega arith

pub returns : goal.returns
returns c =
    let t = length-take-le c.args.n c.args.vectors.now (omega (arith, c.requires.0)) in
    listing-end c.loop-v.invariant (omega arith)
