-- `poly_values::full` meets its contract: the first butterflies, then the transforms of the halves.
-- Assumes nothing.
use mathlib.Core.Path.{refl, sym, subst}
use native.Mathlib.Numerals.{add-one}
use native.Mathlib.Omega.{arith}
use Prim.Native.Nat.{ℕ}
use lib.Pow.{pow_pos}
use Rattle.algebra.proofs.StaysBelow.{below_at}
use Rattle.poly_values.specs.Planes.{taps11, RowStarted}
use Rattle.poly_values.proofs.Scalars.{digits11}
use Rattle.poly_values.proofs.Multipliers.{monic11}
use Rattle.poly_values.proofs.Levels.{pair-from, start-full}
use Rattle.poly_values.proofs.full.Goals as goal

pub vector-e-requires : goal.vector-e-requires
vector-e-requires c = let s = c in let b = pow_pos s.args.k in let t = s.requires.1.table in let e = s.requires.0 in omega arith

pub firsts-requires : goal.firsts-requires
firsts-requires c = let s = c in let b = pow_pos s.args.k in let e = s.requires.0 in let d = s.requires.1 in (d.small, sym d.many, d.room, omega arith)

pub bounds-a-h : goal.bounds-a-h
bounds-a-h c = let s = c in let b = pow_pos s.args.k in let t = s.requires.1.many in let e = s.requires.0 in omega arith

pub multiple-c-requires : goal.multiple-c-requires
multiple-c-requires c = let s = c in let b = pow_pos s.args.k in let t = s.requires.1.many in let e = s.requires.0 in below_at _ s.args.a.now s.requires.1.small s.args.h (omega arith)

pub put_vector-requires : goal.put_vector-requires
put_vector-requires c = let s = c in let b = pow_pos s.args.k in let t = s.requires.1.room in let e = s.requires.0 in let l = c.firsts.ensures.long in omega arith

pub put_vector-requires-2 : goal.put_vector-requires-2
put_vector-requires-2 c = let s = c in let b = pow_pos s.args.k in let t = s.requires.1.room in let e = s.requires.0 in let l = c.firsts.ensures.long in let r = c.put_vector.auto.p in omega arith

pub returns : goal.returns
returns c = let s = c in
    let b = pow_pos s.args.k in let t = s.requires.1.many in let e = s.requires.0 in
    subst (λ (n : ℕ). RowStarted taps11 n s.args.g.now s.args.x s.args.a.now s.args.p.now c.run_halves.new.p) (sym (add-one s.args.k))
    (start-full taps11 digits11 monic11
    (pair-from taps11 digits11 monic11 (omega arith) (below_at _ s.args.a.now s.requires.1.small s.args.h (omega arith)) c.multiple-c.ensures c.sum-s.ensures c.spread-b.ensures c.sum-t.ensures)
    s.args.k s.args.h s.requires.0 s.requires.1.many refl c.vector-e.ensures (sym s.requires.1.room) c.firsts.ensures c.put_vector.ensures c.put_vector-2.ensures c.run_halves.ensures)
