-- `poly_values::butterflies` meets its contract: w butterflies are done.
-- Assumes nothing.
use mathlib.Core.Path.{◌≡◌, refl, sym, ap, ◌∙◌}
use native.Mathlib.Numerals.{add-one}
use native.Mathlib.Omega.{arith}
use Prim.Native.Nat.{◌*◌}
use mathlib.Core.List.{◌++◌}
use lib.ListN.{take, length-drop}
use Rattle.poly_values.specs.Planes.{taps11, words_at, butterfly_at, butterflies_at}
use Rattle.poly_values.proofs.Tail.{lent-tail, back}
use Rattle.poly_values.proofs.Planes.{butterflies-turn}
use Rattle.poly_values.proofs.butterflies.Goals as goal

pub loop-w-init : goal.loop-w-init
unfolding butterflies_at
loop-w-init c = refl

pub slice_bounds-butterfly-count : goal.slice_bounds-butterfly-count
slice_bounds-butterfly-count c = omega arith

pub slice_bounds-butterfly-start : goal.slice_bounds-butterfly-start
slice_bounds-butterfly-start c = omega arith

pub slice_bounds-butterfly-end : goal.slice_bounds-butterfly-end
slice_bounds-butterfly-end c = omega arith

pub butterfly-requires : goal.butterfly-requires
butterfly-requires c =
    let l = c.loop-w in
    rw (lent-tail l.p (l.w * 11), length-drop (l.w * 11) l.p) (omega arith)

pub loop-w-preserved : goal.loop-w-preserved
loop-w-preserved c =
    let l = c.loop-w in
    let a = c.args in
    back l.p c.butterfly.new.p (l.w * 11)
    ∙ ap (λ y. take (l.w * 11) l.p ++ y)
    (c.butterfly.ensures ∙ ap (λ y. butterfly_at taps11 (words_at 11 a.g.now 0) a.up y) (lent-tail l.p (l.w * 11)))
    ∙ butterflies-turn taps11 (words_at 11 a.g.now 0) a.up l.w a.p.now l.invariant
    ∙ ap (λ n. butterflies_at taps11 (words_at 11 a.g.now 0) a.up n a.p.now) (sym (add-one l.w))

pub returns : goal.returns
returns c =
    let l = c.loop-w in
    let a = c.args in
    let done : l.w ≡ a.n = omega arith in
    l.invariant ∙ ap (λ w. butterflies_at taps11 (words_at 11 a.g.now 0) a.up w a.p.now) done
