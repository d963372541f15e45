-- `corrector_remainder::rest` meets its contract.
-- Assumes nothing.
use native.Mathlib.Omega.{arith}
use Rattle.corrector_generator.specs.Generators.{generator_at}
use Rattle.corrector_generator.proofs.Zeros.{generator-top, rest_below}
use Rattle.corrector_remainder.proofs.Dividing.{rest-start, rest-turn, rest_end}
use Rattle.corrector_remainder.proofs.rest.Goals as goal

pub loop-k-init : goal.loop-k-init
loop-k-init g c = rest-start (generator_at g.R.Register.STRENGTH) _ c.requires c.zero-r.ensures

pub next-r-requires : goal.next-r-requires
next-r-requires g c =
    let s = g.met.R.Register.known in rest_below _ s.0 s.1 _ c.loop-k.invariant.done

pub loop-k-preserved : goal.loop-k-preserved
loop-k-preserved g c =
    let s = g.met.R.Register.known in
    rest-turn (generator_at g.R.Register.STRENGTH) (generator-top g.R.Register.STRENGTH s.0 s.1) c.requires c.loop-k.invariant
    (omega arith) (omega (arith, c.from_le_bytes-four.ensures), c.from_le_bytes-four.type_inv) c.next-r.ensures

pub returns : goal.returns
returns g c = rest_end (generator_at g.R.Register.STRENGTH) c.loop-k.invariant (omega arith)
