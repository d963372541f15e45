-- `claims::check` meets its contract: the tests decide, and what was let in is judged.
-- Assumes nothing.
use Rattle.claims.proofs.Asking.{claim-told}
use Rattle.claims.proofs.check.Goals as goal

pub judge-requires : goal.judge-requires
judge-requires c = claim-told _ _ _ c.in_ok-admit.ensures
