-- An affine polynomial is a polynomial: as a list of coefficients it has the same roots.
--   spread-value   the terms by the dense list
--   affine-one     the roots of the dense list are those of the affine polynomial
--   terms-zeros    zeros behind the coefficients add nothing;  affine-within  so for a polynomial of a low degree
-- Assumes nothing.
use mathlib.Core.Path.{◌≡◌, refl, sym, ap, ap₂, ◌∙◌, subst}
use mathlib.Core.Bool.{true}
use mathlib.Core.List.{List, [], ◌∷◌, ◌++◌}
use Prim.Native.Nat.{ℕ, zero, suc, ◌+◌, ◌^◌, ◌<◌}
use native.Mathlib.Nat.{suc-add}
use native.Mathlib.Omega.{arith}
use lib.Bits.{bit_xor, xor_zero_l}
use lib.Dec.{eqb}
use lib.ListN.{replicate}
use Rattle.algebra.specs.Field.{power}
use Rattle.algebra.specs.Trial.{up_from}
use Rattle.algebra.specs.Polynomial.{eval, roots_of}
use Rattle.algebra.proofs.Trial.{keep_same, up_from-all}
use Rattle.field.specs.Rows.{known}
use Rattle.field.specs.Field.{field_at, mul, G, numbers, roots_at}
use Rattle.field.proofs.Known.{listed}
use Rattle.field.proofs.Ring.{ring, power-add}
use Rattle.field.proofs.Generator.{generated, one_below}
use Rattle.find_affine.specs.Affine.{terms_at, value_at, affine_roots, spread, dense}

module _ (m : ℕ) (k : known m ≡ true) where
  open ring (field_at m) (generated (listed m k)).monic use {mul_comm, mul_assoc, mul-xor-r, mul-zero-l, mul-one-r, mul-lt}

  abbrev pow : ℕ → ℕ → ℕ
  pow x n = power (numbers (field_at m)) x n

  -- n zeros at the front are a factor x^n
  zeros-value : (n : ℕ) (p : List ℕ) (x y : ℕ) → y < 2 ^ m
      → mul (field_at m) y (eval (G m) (replicate n 0 ++ p) x) ≡ mul (field_at m) (mul (field_at m) y (pow x n)) (eval (G m) p x)
  unfolding eval power
  zeros-value zero p x y h = ap (λ a. mul (field_at m) a (eval (G m) p x)) (sym (mul-one-r y h))
  zeros-value (suc n) p x y h =
      ap (mul (field_at m) y) (xor_zero_l (mul (field_at m) x (eval (G m) (replicate n 0 ++ p) x))) ∙ sym (mul_assoc y x (eval (G m) (replicate n 0 ++ p) x))
      ∙ zeros-value n p x (mul (field_at m) y x) (mul-lt y x) ∙ ap (λ a. mul (field_at m) a (eval (G m) p x)) (mul_assoc y x (pow x n))

  spread-value : (cs : List ℕ) (n x : ℕ) → mul (field_at m) (pow x (suc n)) (eval (G m) (spread n cs) x) ≡ terms_at m cs (pow x (suc n))
  unfolding eval power spread terms_at
  spread-value [] n x = mul_comm (pow x (suc n)) 0 ∙ mul-zero-l (pow x (suc n))
  spread-value (c ∷ cs) n x =
      let y = pow x (suc n) in
      let r = eval (G m) (replicate n 0 ++ spread (n + suc n) cs) x in
      mul-xor-r y c (mul (field_at m) x r)
      ∙ ap₂ bit_xor (mul_comm y c)
      (sym (mul_assoc y x r) ∙ zeros-value n (spread (n + suc n) cs) x (mul (field_at m) y x) (mul-lt y x)
      ∙ ap (λ a. mul (field_at m) a (eval (G m) (spread (n + suc n) cs) x)) (mul_assoc y x (pow x n) ∙ square)
      ∙ spread-value cs (n + suc n) x ∙ ap (terms_at m cs) (sym square))
    where
      square : mul (field_at m) (pow x (suc n)) (pow x (suc n)) ≡ pow x (suc (n + suc n))
      square =
          sym (power-add (field_at m) (generated (listed m k)).monic (one_below (field_at m) (generated (listed m k))) x (suc n) (suc n))
          ∙ ap (pow x) (suc-add n (suc n))

  dense-value : (cs : List ℕ) (constant x : ℕ) → x < 2 ^ m → eval (G m) (dense cs constant) x ≡ value_at m cs constant x
  unfolding eval power
  dense-value cs constant x h =
      let e : pow x 1 ≡ x = mul-one-r x h in
      ap (bit_xor constant) (subst (λ y. mul (field_at m) y (eval (G m) (spread 0 cs) x) ≡ terms_at m cs y) e (spread-value cs 0 x))

  -- the dense list has the same roots
  pub affine-one : (cs : List ℕ) (constant : ℕ) → roots_at m (dense cs constant) ≡ affine_roots m cs constant
  unfolding roots_of affine_roots
  affine-one cs constant =
      keep_same (λ x. eqb (eval (G m) (dense cs constant) x) 0) (λ x. eqb (value_at m cs constant x) 0) (up_from 0 (2 ^ m))
      (up_from-all (λ x. eqb (eval (G m) (dense cs constant) x) 0 ≡ eqb (value_at m cs constant x) 0) 0 (2 ^ m)
      (λ x a b. ap (λ y. eqb y 0) (dense-value cs constant x (let l : x < 2 ^ m = omega arith in l))))

  -- zeros behind the coefficients
  terms-zeros : (cs : List ℕ) (n x : ℕ) → terms_at m (cs ++ replicate n 0) x ≡ terms_at m cs x
  unfolding terms_at
  terms-zeros [] zero x = refl
  terms-zeros [] (suc n) x = ap₂ bit_xor (mul-zero-l x) (terms-zeros [] n (mul (field_at m) x x))
  terms-zeros (c ∷ cs) n x = ap (bit_xor (mul (field_at m) c x)) (terms-zeros cs n (mul (field_at m) x x))

  pub affine-within : (cs : List ℕ) (n constant : ℕ) → roots_at m (dense cs constant) ≡ affine_roots m (cs ++ replicate n 0) constant
  unfolding affine_roots
  affine-within cs n constant =
      affine-one cs constant
      ∙ keep_same (λ x. eqb (value_at m cs constant x) 0) (λ x. eqb (value_at m (cs ++ replicate n 0) constant x) 0) (up_from 0 (2 ^ m))
      (up_from-all (λ x. eqb (value_at m cs constant x) 0 ≡ eqb (value_at m (cs ++ replicate n 0) constant x) 0) 0 (2 ^ m)
      (λ x a b. ap (λ y. eqb (bit_xor constant y) 0) (sym (terms-zeros cs n x))))
