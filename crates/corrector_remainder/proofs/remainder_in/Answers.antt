-- `corrector_remainder::remainder_in` meets its contract.
-- Assumes nothing.
use mathlib.Core.Path.{ap}
use Prim.Native.Nat.{◌-◌, ◌*◌}
use Rattle.corrector_remainder.proofs.Strengths.{rest-lessened}
use Rattle.corrector_remainder.proofs.remainder_in.Goals as goal

pub returns : goal.returns
returns g c =
    let s = g.met.R.Register.known in
    let n = ap (λ x. 11 * (x - c.args.strength)) c.STRENGTH.ensures in
    rest-lessened g.R.Register.STRENGTH c.args.strength _ c.requires.1 c.requires.2 s.1 c.rest.ensures n
    c.raised.ensures c.lower.ensures
