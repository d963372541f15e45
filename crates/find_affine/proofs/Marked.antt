-- The additive map of an affine polynomial: its terms, and the constant where a number has the mark 2^m.
--   terms-xor, terms-lt   the terms are additive in x, and an element
--   marked                the map;  marked-xor  it is additive;  marked-lt  its values are elements
--   marked-low, marked-top   below 2^m it is the terms, at 2^m the constant
-- Assumes nothing.
use mathlib.Core.Path.{◌≡◌, refl, ap, ap₂, ◌∙◌}
use mathlib.Core.Bool.{true}
use mathlib.Core.List.{List, [], ◌∷◌}
use Prim.Native.Nat.{ℕ, ◌*◌, ◌/◌, ◌%◌, ◌^◌, ◌<◌}
use native.Mathlib.Nat.{zero-mul, one-mul, mod-eq_of_lt, mod_self, div_self, div-eq_of_lt}
use native.Mathlib.Omega.{arith}
use lib.Bits.{bit_xor, xor_zero_l, xor_zero_r, xor_mod, xor_lt}
use lib.Pow.{pow_pos}
use Rattle.field.specs.Rows.{known}
use Rattle.field.specs.Field.{field_at, mul}
use Rattle.field.proofs.Known.{listed}
use Rattle.field.proofs.Digits.{digit-mul-le}
use Rattle.field.proofs.Xor.{xor-swap}
use Rattle.field.proofs.Additive.{Additive, additive-zero}
use Rattle.field.proofs.Ring.{mul-xor-r, mul-lt, square-xor}
use Rattle.field.proofs.Generator.{generated}
use Rattle.find_affine.specs.Affine.{terms_at}
use Rattle.find_affine.proofs.Maps.{digit_of, digit-xor, digits-times}

unfoldable pub marked : ℕ → List ℕ → ℕ → ℕ → ℕ
marked m cs constant x = bit_xor (terms_at m cs (x % 2 ^ m)) (digit_of m x * constant)

module _ (m : ℕ) (k : known m ≡ true) where
  pub terms-xor : (cs : List ℕ) → Additive (terms_at m cs)
  unfolding terms_at
  terms-xor [] x y = refl
  terms-xor (c ∷ cs) x y =
      let g = generated (listed m k) in
      ap₂ bit_xor (mul-xor-r (field_at m) g.monic c x y)
      (ap (terms_at m cs) (square-xor (field_at m) g.monic x y) ∙ terms-xor cs (mul (field_at m) x x) (mul (field_at m) y y))
      ∙ xor-swap (mul (field_at m) c x) (mul (field_at m) c y) (terms_at m cs (mul (field_at m) x x)) (terms_at m cs (mul (field_at m) y y))

  terms-lt : (cs : List ℕ) (x : ℕ) → terms_at m cs x < 2 ^ m
  unfolding terms_at
  terms-lt [] x = pow_pos m
  terms-lt (c ∷ cs) x =
      xor_lt m (mul (field_at m) c x) (terms_at m cs (mul (field_at m) x x)) (mul-lt (field_at m) (generated (listed m k)).monic c x) (terms-lt cs (mul (field_at m) x x))

  module _ (cs : List ℕ) (constant : ℕ) where
    pub marked-xor : Additive (marked m cs constant)
    unfolding marked
    marked-xor x y =
        ap₂ (λ a d. bit_xor (terms_at m cs a) (d * constant)) (xor_mod x y m) (digit-xor m x y)
        ∙ ap₂ bit_xor (terms-xor cs (x % 2 ^ m) (y % 2 ^ m)) (digits-times (x / 2 ^ m) (y / 2 ^ m) constant)
        ∙ xor-swap (terms_at m cs (x % 2 ^ m)) (terms_at m cs (y % 2 ^ m)) (digit_of m x * constant) (digit_of m y * constant)

    pub marked-low : (x : ℕ) → x < 2 ^ m → marked m cs constant x ≡ terms_at m cs x
    unfolding marked
    marked-low x h =
        ap₂ (λ a d. bit_xor (terms_at m cs a) (d % 2 * constant)) (mod-eq_of_lt h) (div-eq_of_lt h)
        ∙ ap (bit_xor (terms_at m cs x)) (zero-mul constant) ∙ xor_zero_r (terms_at m cs x)

    pub marked-top : marked m cs constant (2 ^ m) ≡ constant
    unfolding marked
    marked-top =
        ap₂ (λ a d. bit_xor (terms_at m cs a) (d % 2 * constant)) (mod_self (2 ^ m)) (div_self (pow_pos m))
        ∙ ap₂ bit_xor (additive-zero (terms_at m cs) (terms-xor cs)) (one-mul constant) ∙ xor_zero_l constant

    pub marked-lt : constant < 2 ^ m → (x : ℕ) → marked m cs constant x < 2 ^ m
    unfolding marked
    marked-lt h x =
        let b : digit_of m x * constant < 2 ^ m = omega (arith, digit-mul-le (x / 2 ^ m) constant) in
        xor_lt m (terms_at m cs (x % 2 ^ m)) (digit_of m x * constant) (terms-lt cs (x % 2 ^ m)) b
