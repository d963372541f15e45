-- `poly_values::add_pair` meets its contract: j words are added.
-- Assumes nothing.
use mathlib.Core.Path.{◌≡◌, refl, sym, ap, ◌∙◌}
use mathlib.Core.List.{List}
use native.Mathlib.Numerals.{add-one}
use native.Mathlib.Omega.{arith}
use Prim.Native.Nat.{ℕ, ◌+◌}
use lib.Bits.{bit_and, bit_xor}
use lib.ListN.{get_or, take, set}
use Rattle.poly_values.specs.Planes.{sum, pair_words}
use Rattle.poly_values.proofs.Lists.{length-tabulate, get_d_tabulate}
use Rattle.poly_values.proofs.Products.{row-turn}
use Rattle.poly_values.proofs.add_pair.Goals as goal

pub loop-j-init : goal.loop-j-init
unfolding sum
loop-j-init c = refl

pub loop-j-preserved : goal.loop-j-preserved
loop-j-preserved c = let l = c.loop-j in
    let s = c in
    let at : ℕ → ℕ = λ k. bit_xor (bit_and s.args.v (get_or s.args.b (k + 1) 0)) (bit_and s.args.w (get_or s.args.b k 0)) in
    let u = pair_words 12 s.args.v s.args.w s.args.b in
    ap (λ (x : List ℕ). set x l.j (bit_xor (at l.j) (get_or x l.j 0))) l.invariant
    ∙ ap (λ (e : ℕ). set (sum (take l.j u) s.args.t.now) l.j (bit_xor e (get_or (sum (take l.j u) s.args.t.now) l.j 0))) (sym (get_d_tabulate 12 at l.j (omega arith)))
    ∙ row-turn u s.args.t.now l.j (omega (arith, length-tabulate 12 at)) (omega arith)
    ∙ ap (λ (n : ℕ). sum (take n u) s.args.t.now) (sym (add-one l.j))

pub returns : goal.returns
returns c = let l = c.loop-j in
    let s = c in
    let done : l.j ≡ 12 = omega arith in
    l.invariant ∙ ap (λ (n : ℕ). sum (take n (pair_words 12 s.args.v s.args.w s.args.b)) s.args.t.now) done
