-- `poly_values::start` meets its contract, by the number of levels.
-- Assumes nothing.
use mathlib.Core.Path.{◌≡◌, refl, sym, ap, ◌∙◌, subst}
use native.Mathlib.Omega.{arith}
use lib.ListN.{length-take, length-drop, length-append}
use lib.Seq.{length-take-le}
use Rattle.algebra.proofs.StaysBelow.{below_at}
use Rattle.poly_values.specs.Planes.{taps11, RowStarted}
use Rattle.poly_values.proofs.Halves.{half_count}
use Rattle.poly_values.proofs.Scalars.{digits11}
use Rattle.poly_values.proofs.Multipliers.{monic11}
use Rattle.poly_values.proofs.Levels.{pair-from, start-leaf, low-joined, above_zero, below-take}
use Prim.Native.Nat.{ℕ, ◌+◌, ◌-◌, ◌*◌, ◌/◌, ◌^◌}
use Rattle.poly_values.proofs.+start.Goals as goal

pub vector-e-requires : goal.vector-e-requires
vector-e-requires t c = let h = half_count c.args.k c.args.n c.if-k-gt0.true c.requires.size in let r = c.requires.table in omega arith

pub slice_bounds-start-count : goal.slice_bounds-start-count
slice_bounds-start-count t c = let h = half_count c.args.k c.args.n c.if-k-gt0.true c.requires.size in let r = c.requires.table in omega arith

pub slice_bounds-start-start : goal.slice_bounds-start-start
slice_bounds-start-start t c = let h = half_count c.args.k c.args.n c.if-k-gt0.true c.requires.size in let r = c.requires.table in omega arith

pub start-requires : goal.start-requires
start-requires t c =
    let h = half_count c.args.k c.args.n c.if-k-gt0.true c.requires.size in
    let r = c.requires.room in
    let u = c.requires.table in
    let m = c.requires.many in (
      omega (arith, c.decreases),
      record {
        size = h.half;
        many = length-take-le _ _ (omega arith);
        small = below-take 2048 (c.args.n / 2) c.args.a.now c.requires.small;
        room = simp length-take (omega arith);
        table = simp (length-take, length-drop) (omega arith);
      },
    )

pub start-requires-then-all_zero : goal.start-requires-then-all_zero
start-requires-then-all_zero t c =
    let h = half_count c.args.k c.args.n c.if-k-gt0.true c.requires.size in
    let r = c.requires.room in
    let u = c.requires.table in
    let m = c.requires.many in (
      omega (arith, c.decreases),
      record {
        size = h.half;
        many = length-take-le _ _ (omega arith);
        small = below-take 2048 (c.args.n / 2) c.args.a.now c.requires.small;
        room = simp (length-take, length-drop, length-append) (omega (arith, c.start.auto.p));
        table = simp (length-take, length-drop) (omega arith);
      },
    )

pub full-requires : goal.full-requires
full-requires t c =
    let h = half_count c.args.k c.args.n c.if-k-gt0.true c.requires.size in
    let r = c.requires.room in
    let u = c.requires.table in
    let m = c.requires.many in (
      h.half,
      record {
        size = let e : c.args.k - 1 + 1 ≡ c.args.k = omega arith in sym h.whole ∙ c.requires.size ∙ ap (λ (i : ℕ). 2 ^ i) (sym e);
        many = m ∙ h.whole;
        small = c.requires.small;
        room = omega arith;
        table = omega arith;
      },
    )

pub returns-then-all_zero : goal.returns-then-all_zero
returns-then-all_zero t c =
    let h = half_count c.args.k c.args.n c.if-k-gt0.true c.requires.size in
    let r = c.requires.room in
    let m = c.requires.many in
    low-joined taps11 digits11 monic11 c.args.k (c.args.n / 2)
    (pair-from taps11 digits11 monic11 (omega arith) (below_at _ c.args.a.now c.requires.small (c.args.n / 2) (omega arith)) c.multiple-c.ensures c.sum-s.ensures c.spread-b.ensures c.sum-t.ensures)
    c.if-k-gt0.true h.half (m ∙ h.whole) refl (above_zero c.args.a.now (c.args.n / 2) (sym c.all_zero.ensures ∙ c.if-all_zero.true)) c.vector-e.ensures
    (sym r ∙ ap (λ (i : ℕ). i * 11) h.whole) c.start.ensures c.start-then-all_zero.ensures

pub returns-else-k-gt0 : goal.returns-else-k-gt0
returns-else-k-gt0 t c =
    let z : c.args.k ≡ 0 = omega arith in
    let w : c.args.n ≡ 1 = c.requires.size ∙ ap (λ (i : ℕ). 2 ^ i) z in
    let r = c.requires.room in
    let m = c.requires.many in
    subst (λ (i : ℕ). RowStarted taps11 i c.args.g.now c.args.x c.args.a.now c.args.p.now c.put_vector.new.p) (sym z) (start-leaf taps11 digits11 monic11 (omega arith) (omega arith) (omega arith) c.put_vector.ensures)
