-- `corrector::power_sum`: the sum over the places below the index.
use Rattle.std.proofs.Common.{◌≡◌, take}
use Rattle.corrector.specs.Places.{sum_at}
use Rattle.corrector.proofs.power_sum.Given as goal

abbrev pub invariant-loop-place : goal.invariant-loop-place
invariant-loop-place l = l.sum ≡ sum_at (take l.place-index l.places) l.k
