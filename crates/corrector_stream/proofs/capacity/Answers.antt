-- `corrector_stream::capacity` meets its contract.
-- Assumes nothing.
use native.Mathlib.Omega.{arith}
use Rattle.corrector_stream.specs.Calls.CapacityIs.{of-strength, of_none}
use Rattle.corrector_stream.proofs.capacity.Goals as goal

pub returns-in-1-to-8 : goal.returns-in-1-to-8
returns-in-1-to-8 c = rw c.data_start.ensures (of-strength (record { least = omega arith; most = omega arith }))

pub returns-in_default : goal.returns-in_default
returns-in_default c = of_none (λ s. let l = s.least in let m = s.most in let z : ⊥ = omega arith in z)

pub returns-in_default-2 : goal.returns-in_default-2
returns-in_default-2 c = of_none (λ s. let l = s.least in let m = s.most in let z : ⊥ = omega arith in z)
