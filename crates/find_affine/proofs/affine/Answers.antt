-- `find_affine::affine` meets its contract: the tests decide, and what was let in is solved.
-- Assumes nothing.
use mathlib.Core.Path.{sym, ap, ◌∙◌}
use mathlib.Core.List.{List}
use Prim.Native.Nat.{ℕ}
use Rattle.refusals.proofs.Admitting.{passed-on, turned-away}
use Rattle.refusals.proofs.Order.{refused, accepted, unwritten, written}
use Rattle.find_affine.proofs.Answering.{spannable}
use Rattle.find_affine.proofs.affine.Goals as goal

pub span-requires : goal.span-requires
span-requires c = spannable c.in_ok-admit.ensures

pub returns-in_err-admit : goal.returns-in_err-admit
returns-in_err-admit c =
    let g = turned-away c.admit.ensures c.in_err-admit.was in
    rw (passed-on _ c.from_residual.ensures.1) (sym (refused _ g), sym (unwritten _ _ g))

pub returns : goal.returns
returns c =
    let p = c.in_ok-admit.ensures in
    let o = c.span.ensures in
    (ap (λ (l : List ℕ). (0, l)) o.values ∙ sym (accepted _ p), o.slots ∙ sym (written _ _ p))
