-- `job_writer::write` meets its contract: the tests decide, and of what was let in the record is written.
-- Assumes nothing.
use mathlib.Core.Path.{sym, ap, ◌∙◌}
use mathlib.Core.List.{[], ◌∷◌}
use Rattle.refusals.proofs.Admitting.{let-in, turned-away, passed-on}
use Rattle.refusals.proofs.Order.{refused, accepted, unwritten, written}
use Rattle.job_writer.proofs.Admitting.{writable}
use Rattle.job_writer.proofs.write.Goals as goal

pub record-requires : goal.record-requires
record-requires c = writable (let-in c.admit.ensures c.in_ok-admit.was)

pub returns-in_err-admit : goal.returns-in_err-admit
returns-in_err-admit c =
    let g = turned-away c.admit.ensures c.in_err-admit.was in
    rw (passed-on _ c.from_residual.ensures.1) (sym (refused _ g), sym (unwritten _ _ g))

pub returns : goal.returns
returns c =
    let p = let-in c.admit.ensures c.in_ok-admit.was in
    let o = c.record.ensures in
    (ap (λ n. (0, n ∷ [])) o.count ∙ sym (accepted _ p), o.bytes ∙ sym (written _ _ p))
