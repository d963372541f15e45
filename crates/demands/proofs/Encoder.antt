-- `Encoder` of specs/Encoder.antt holds, by the laws of the contracts alone.
--   encoder   it holds
-- Assumes nothing.
use mathlib.Core.Path.{refl}
use Rattle.corrector_encoder.proofs.Unique.{codewords-agree}
use Rattle.corrector_encoder.proofs.Adding.{encoding-exactly}
use Rattle.corrector_encoder.proofs.Coincide.{outcomes-coincide}
use Rattle.corrector_encoder.proofs.Contract as contract
use Rattle.demands.specs.Encoder.{Encoder}

pub encoder : Encoder
encoder = record {
  unique = λ t u v h a b c d same. codewords-agree h a b c d same;
  exactly = λ t word b s. encoding-exactly b s;
  one = λ t word o p a b x y. outcomes-coincide x y;
  refused = λ t word o after h n. contract.refused-kept h n;
  made = λ t n word after h. (contract.encoded-codeword h refl).1;
  accepted = λ t word o after b s h. contract.encoded-exactly b s h;
  same-data = λ t n m w x u v g h same. contract.same-data g h same;
  again = λ t word o after b s c h. contract.codeword-again b s c h;
  twice = λ t n word after o again h g. contract.twice h g;
  clean = λ t n word after o again h g. contract.encoded-correct h g;
  damaged = λ t n word after bad o again h b d g. contract.damaged-correct h b d g;
}
