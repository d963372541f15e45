-- `map_once`: what its calls ask, and what they leave.
--   mapping-NAME              the calls
-- Assumes nothing.
use mathlib.Core.Path.{◌≡◌, ◌∙◌, sym, ap, subst}
use mathlib.Core.List.{List}
use Prim.Native.Nat.{ℕ, ◌-◌, ◌/◌, ◌^◌}
use native.Mathlib.Omega.{arith}
use lib.ListN.{length, take, drop}
use Rattle.algebra.specs.Polynomial.{Below}
use Rattle.field.specs.Field.{G}
use Rattle.poly.specs.Lent.{Lent}
use Rattle.poly.proofs.Parts.{part-rest}
use Rattle.poly_resultants.specs.Maps.{evens, odds, digits, resultant}
use Rattle.poly_resultants.specs.Lending.{Factors, Digits}
use Rattle.poly_resultants.specs.Levels.{Maps, Mapped}
use Rattle.poly_resultants.proofs.Shapes.{length_digits, length-halves, length-odds}
use Rattle.poly_resultants.proofs.Numbers.{digits-below}

module _ {m : ℕ} {ls ts : List ℕ} {b : ℕ} {f p q : List ℕ} (lent : Lent m ls ts) (a : Maps m b f p q) where
  pub mapping-converts : Factors m b f
  mapping-converts = record { positive = a.positive; small = a.small; elements = a.poly.small }

  -- the digits
  module _ {g₂ : List ℕ} (digits_are : g₂ ≡ digits (G m) b f) where
    digits_long : length g₂ ≡ length f
    digits_long = ap length digits_are ∙ length_digits (G m) b f

    pub mapping-low : length p ≡ length (evens g₂)
    mapping-low = omega (arith, a.low, digits_long, length-halves g₂, length-odds g₂)

    pub mapping-high : length q ≡ length (evens (take (length g₂ - 1) (drop 1 g₂)))
    mapping-high = a.high ∙ ap (λ n. n / 2) (sym digits_long) ∙ sym (length-odds g₂) ∙ ap (λ l. length (evens l)) (sym (part-rest 1 g₂))

    pub mapping-resultant : {p₁ q₁ : List ℕ} → p₁ ≡ evens g₂ → q₁ ≡ evens (take (length g₂ - 1) (drop 1 g₂)) → Digits m b p₁ q₁ g₂
    mapping-resultant i j = record {
      factors = record {
        positive = a.positive;
        small = a.small;
        elements = subst (Below (2 ^ m)) (sym digits_are) (digits-below m lent.degree b f a.poly.small);
      };
      low = i;
      high = j ∙ ap evens (part-rest 1 g₂);
      least = let l = a.poly.least in omega (arith, digits_long);
      limited = let l = a.poly.limited in omega (arith, digits_long);
    }

    pub mapping-end : {p₁ q₁ g₃ : List ℕ} → p₁ ≡ evens g₂ → q₁ ≡ evens (take (length g₂ - 1) (drop 1 g₂)) → g₃ ≡ resultant (G m) b g₂
        → Mapped m b f g₃ p₁ q₁
    mapping-end i j r = record {
      image = r ∙ ap (resultant (G m) b) digits_are;
      low = i ∙ ap evens digits_are;
      high = j ∙ ap evens (part-rest 1 g₂) ∙ ap odds digits_are;
    }
