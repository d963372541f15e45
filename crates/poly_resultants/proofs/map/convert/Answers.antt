-- `poly_resultants::map::convert` meets its contract. The loop's invariant: from k on stand the digits.
-- Assumes nothing.
use Rattle.poly_resultants.proofs.MapLoops.{converting-from, converting-asks, converting-on, converting-end}
use mathlib.Core.Path.{◌≡◌, subst}
use Prim.Native.Nat.{◌+◌, ◌-◌}
use native.Mathlib.Omega.{arith}
use lib.ListN.{length, take, drop}
use Rattle.field.specs.Field.{G}
use Rattle.poly_resultants.specs.Maps.{combine}
use Rattle.poly_resultants.proofs.map.convert.Goals as goal

pub loop-k-init : goal.loop-k-init
loop-k-init c = converting-from c.args.tables.now.lent c.requires

pub combine-requires : goal.combine-requires
combine-requires c =
    let same : c.loop-k.k - 1 + 1 ≡ c.loop-k.k = omega arith in
    rw same (converting-asks c.loop-k.invariant)

pub loop-k-preserved : goal.loop-k-preserved
loop-k-preserved c =
    let same : c.loop-k.k - 1 + 1 ≡ c.loop-k.k = omega arith in
    let f = c.loop-k.f in
    rw same
    (converting-on c.loop-k.invariant (omega arith)
    (subst (λ j. c.combine.new.s ≡ combine (G c.args.tables.now.degree) c.args.b (take (length f - j) (drop j f))) same c.combine.ensures))

pub returns : goal.returns
returns c = converting-end c.loop-k.invariant (omega arith)
