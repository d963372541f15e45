-- `poly_values::put_vector` meets its contract: k words are copied.
-- Assumes nothing.
use mathlib.Core.Path.{◌≡◌, ap, ◌∙◌}
use native.Mathlib.Numerals.{add-one}
use native.Mathlib.Omega.{arith}
use lib.Seq.{paste, paste-zero, paste-suc}
use Rattle.poly_values.proofs.put_vector.Goals as goal

pub loop-k-init : goal.loop-k-init
loop-k-init c = paste-zero _ c.args.at c.args.v

pub loop-k-preserved : goal.loop-k-preserved
loop-k-preserved c =
    let l = c.loop-k in
    let a = c.args in
    rw (add-one, l.invariant) (paste-suc a.p.now a.at a.v l.k 0 (omega arith) (omega arith))

pub returns : goal.returns
returns c =
    let l = c.loop-k in
    let a = c.args in
    let done : l.k ≡ 11 = omega arith in
    l.invariant ∙ ap (λ k. paste a.p.now a.at a.v k) done
