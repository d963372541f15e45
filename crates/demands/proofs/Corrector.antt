-- `Corrector` of specs/Corrector.antt holds, by the laws of the contract alone.
--   corrector   it holds
-- Assumes nothing.
use Rattle.corrector.proofs.Coincide as one
use Rattle.corrector.proofs.Contract.{far-exactly, codeword-kept}
use Rattle.corrector.proofs.Contract as contract
use Rattle.demands.specs.Corrector.{Corrector}

pub corrector : Corrector
corrector = record {
  unique = λ t word u v x y. one.within-unique x y;
  one = λ t word o p a b x y. one.outcomes-coincide x y;
  far = λ t word o after b s h. far-exactly b s h;
  kept = λ t word o after b s c h. codeword-kept b s c h;
  twice = λ t n word after o again h g. contract.twice h g;
}
