-- The signs of the law files: a file opens them for its field, `open signs F use {◌⊞◌, ..}`.
--   0#, 1#, _⊕_, _⊗_   zero, one, sum and product of elements
--   _⊞_, _⊠_           sum and product of sequences
--   _∣_                a polynomial divides one
-- Assumes nothing.
use mathlib.Core.List.{List}
use Rattle.algebra.specs.Field.{Ops}
use Rattle.algebra.specs.Polynomial.{Divides}
use Rattle.algebra.proofs.Series.{Series, plus, times}

pub record Signs {K : Type 0} (F : Ops K) : Type 1 where
  infixl 60 ◌⊕◌
  infixl 70 ◌⊗◌
  infixl 60 ◌⊞◌
  infixl 70 ◌⊠◌
  infix 50 ◌∣◌
  pub 0# : K
  pub 1# : K
  pub ◌⊕◌ : K → K → K
  pub ◌⊗◌ : K → K → K
  pub ◌⊞◌ : Series K → Series K → Series K
  pub ◌⊠◌ : Series K → Series K → Series K
  pub ◌∣◌ : List K → Series K → Type 0

-- each stands for the operation of the field
abbrev pub signs : {K : Type 0} (F : Ops K) → Signs F
signs F = record {
  0# = F.zero;
  1# = F.one;
  ◌⊕◌ = F.add;
  ◌⊗◌ = F.mul;
  ◌⊞◌ = plus F;
  ◌⊠◌ = times F;
  ◌∣◌ = Divides F;
}
