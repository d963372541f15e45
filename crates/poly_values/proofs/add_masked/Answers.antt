-- `poly_values::add_masked` meets its contract: j words are added.
-- Assumes nothing.
use mathlib.Core.Path.{◌≡◌, refl, sym, ap, ◌∙◌}
use mathlib.Core.List.{List, map}
use native.Mathlib.Numerals.{add-one}
use native.Mathlib.Omega.{arith}
use Prim.Native.Nat.{ℕ}
use lib.Bits.{bit_and, bit_xor}
use lib.ListN.{get_or, take, set, length-map}
use lib.Seq.{take_all}
use Rattle.poly_values.specs.Planes.{sum}
use Rattle.poly_values.proofs.Products.{map-word, row-turn}
use Rattle.poly_values.proofs.add_masked.Goals as goal

pub loop-j-init : goal.loop-j-init
unfolding sum
loop-j-init c = refl

pub loop-j-preserved : goal.loop-j-preserved
loop-j-preserved c = let l = c.loop-j in let s = c in let u = map (bit_and s.args.w) s.args.b in
    ap (λ (x : List ℕ). set x l.j (bit_xor (bit_and s.args.w (get_or s.args.b l.j 0)) (get_or x l.j 0))) l.invariant
    ∙ ap (λ (e : ℕ). set (sum (take l.j u) s.args.t.now) l.j (bit_xor e (get_or (sum (take l.j u) s.args.t.now) l.j 0))) (sym (map-word s.args.w s.args.b l.j (omega arith)))
    ∙ row-turn u s.args.t.now l.j (omega (arith, length-map s.args.b (bit_and s.args.w))) (omega arith)
    ∙ ap (λ (n : ℕ). sum (take n u) s.args.t.now) (sym (add-one l.j))

pub returns : goal.returns
returns c = let l = c.loop-j in let s = c in let u = map (bit_and s.args.w) s.args.b in let done : l.j ≡ 11 = omega arith in
    l.invariant ∙ ap (λ (n : ℕ). sum (take n u) s.args.t.now) done ∙ ap (λ (x : List ℕ). sum x s.args.t.now) (take_all 11 u (omega (arith, length-map s.args.b (bit_and s.args.w))))
