-- `table_step::parts_of` meets its contract: the greatest common divisor, what is left, and both packed.
-- Assumes nothing.
use Prim.Native.Nat.{ℕ, ◌-◌}
use native.Mathlib.Omega.{arith}
use lib.ListN.{length, drop, replicate}
use lib.Seq.{length-take-le}
use Rattle.table_step.proofs.Commons.{common-is}
use Rattle.table_step.proofs.Packing.{degree-within, first-long, first-room, rest-asks, rest-front, rest-long, parted}
use Rattle.input.specs.Limit.{limit}
use Rattle.input.proofs.Fields as fields
use borrow.Author.Rules.{rules}
use Rattle.table_step.proofs.parts_of.Goals as goal

pub cofactor-requires : goal.cofactor-requires
cofactor-requires c =
    let s = c.requires in
    let f = s.0.splittable.few in
    let k = common-is s.0 c.gcd-k.ensures (search rules) in
    rest-asks c.args.tables.now.lent.degree s.0.splittable k (length-take-le _ _ (omega (arith, f)))

pub overflow_add-level : goal.overflow_add-level
overflow_add-level c = omega (arith, c.requires.0.splittable.level, fields.degree-within _ c.args.tables.now.lent.degree)

pub overflow_add-level-2 : goal.overflow_add-level-2
overflow_add-level-2 c = omega (arith, c.requires.0.splittable.level, fields.degree-within _ c.args.tables.now.lent.degree)

pub append-at-requires : goal.append-at-requires
append-at-requires c =
    let s = c.requires in
    let f = s.0.splittable.few in
    let k = common-is s.0 c.gcd-k.ensures (search rules) in
    let l = first-long c.args.tables.now.lent.degree s.0.splittable k in
    let h = degree-within c.args.tables.now.lent.degree s.0.splittable k in
    let w = s.1 in
    (omega arith, omega arith)

pub append-requires : goal.append-requires
append-requires c =
    let s = c.requires in
    let f = s.0.splittable.few in
    let k = common-is s.0 c.gcd-k.ensures (search rules) in
    let z = drop {A = ℕ} (length c.args.p.now - c.gcd-k.result) (replicate limit 0) in
    let l = rest-long c.args.tables.now.lent.degree s.0.splittable k z c.cofactor.ensures in
    let h = degree-within c.args.tables.now.lent.degree s.0.splittable k in
    let r = first-room c.args.tables.now.lent.degree s.0.splittable k c.append-at.ensures in
    let w = s.1 in
    (omega arith, omega arith)

pub returns : goal.returns
returns c =
    let s = c.requires in
    let f = s.0.splittable.few in
    let k = common-is s.0 c.gcd-k.ensures (search rules) in
    let z = drop {A = ℕ} (length c.args.p.now - c.gcd-k.result) (replicate limit 0) in
    let h = degree-within c.args.tables.now.lent.degree s.0.splittable k in
    let r = first-room c.args.tables.now.lent.degree s.0.splittable k c.append-at.ensures in
    let w = s.1 in
    parted c.args.tables.now.lent.degree s.0.splittable k (rest-front c.args.tables.now.lent.degree s.0.splittable k z c.cofactor.ensures) (omega arith) c.append-at.ensures c.append.ensures
