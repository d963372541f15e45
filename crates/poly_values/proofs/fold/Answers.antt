-- `poly_values::fold` meets its contract: the words from 11 + k up are taken back.
-- Assumes nothing.
use mathlib.Core.Path.{◌≡◌, refl, sym, ap, ◌∙◌}
use mathlib.Core.List.{List}
use native.Mathlib.Omega.{arith}
use Prim.Native.Nat.{ℕ, suc, ◌+◌, ◌-◌}
use lib.ListN.{take}
use lib.Seq.{take_all}
use Rattle.poly_values.specs.Planes.{taps11, folded}
use Rattle.poly_values.proofs.Products.{fold-turn}
use Rattle.poly_values.proofs.fold.Goals as goal

pub loop-k-init : goal.loop-k-init
loop-k-init c = ap (λ (x : List ℕ). folded taps11 11 x) (take_all 22 c.args.t.now (omega arith))

pub loop-k-preserved : goal.loop-k-preserved
unfolding folded
loop-k-preserved c = let l = c.loop-k in let e : l.k ≡ suc (l.k - 1) = omega arith in
    ap (folded taps11 (l.k - 1)) (fold-turn l.t (l.k - 1) _ (omega arith) (omega arith) refl) ∙ sym (ap (λ (n : ℕ). folded taps11 n (take (11 + n) l.t)) e) ∙ l.invariant

pub returns : goal.returns
unfolding folded
returns c = let l = c.loop-k in let done : l.k ≡ 0 = omega arith in sym (ap (λ (n : ℕ). folded taps11 n (take (11 + n) l.t)) done) ∙ l.invariant
