-- Digits cut one by one: what is left fits the degree of the polynomial that cuts, and has the same values where that
-- is zero.
--   cut_at top g x                  x, with g added where x has a digit from top on
--   lowered n d g x                 n digits of x, from the highest down to digit d, cut by g, g/2, g/4, ..
--   lowered-below, lowered-values   what is left
--   lessened-lowered                the lesser each time is the number with the digit cut
-- Assumes nothing.
use mathlib.Core.Path.{◌≡◌, refl, sym, ap, ap₂, ◌∙◌, subst}
use mathlib.Core.Bool.{Bool, cond}
use Prim.Native.Nat.{ℕ, zero, suc, ◌+◌, ◌*◌, ◌/◌, ◌^◌, ◌≤◌, ◌<◌, min}
use native.Mathlib.Nat.{add-zero, add-suc, add_comm, one-mul, pow-suc, mul_comm, div-lt_iff_lt-mul}
use native.Mathlib.Decide.{dec_le, dec_lt}
use native.Mathlib.Omega.{arith}
use borrow.Author.Tests.{le-leb, lt-leb}
use lib.Dec.{leb}
use lib.Bits.{bit_xor, xor_zero_r, xor_shr, shifted_half}
use lib.Pow.{pow_pos, shr-shr, shl-shr}
use Rattle.field.specs.Field.{field_at, mul}
use Rattle.field.proofs.Ring.{ring}
use Rattle.field.proofs.Generator.{one_below}
use Rattle.corrector_code.specs.Digits.{value_of_digits}
use Rattle.corrector_code.proofs.Eleven.{gen11}
use Rattle.corrector_code.proofs.Values.{value_of_digits-zero, value_of_digits-xor, value_of_digits-join}
use Rattle.corrector_remainder.specs.Remainder.{lessened}

-- one digit cut
unfoldable pub cut_at : ℕ → ℕ → ℕ → ℕ
cut_at top g x = cond (leb top x) (bit_xor x g) x

-- n digits cut, the last at d
unfoldable pub lowered : ℕ → ℕ → ℕ → ℕ → ℕ
lowered zero d g x = x
lowered (suc n) d g x = lowered n d (g / 2) (cut_at (2 ^ (d + n)) g x)

-- the value at z of the polynomial with the binary digits of n
abbrev value_at : ℕ → ℕ → ℕ
value_at z n = value_of_digits (field_at 11) z n

-- ---- one digit

cut-yes : (top g x : ℕ) → top ≤ x → cut_at top g x ≡ bit_xor x g
unfolding cut_at
cut-yes top g x h = ap (λ (b : Bool). cond b (bit_xor x g) x) (le-leb top x h)

cut-no : (top g x : ℕ) → x < top → cut_at top g x ≡ x
unfolding cut_at
cut-no top g x h = ap (λ (b : Bool). cond b (bit_xor x g) x) (lt-leb top x h)

-- a number with top digit m
top_digit : (m x : ℕ) → 2 ^ m ≤ x → x < 2 ^ suc m → x / 2 ^ m ≡ 1
top_digit m x h l =
    let b = subst (λ (y : ℕ). x < y) (pow-suc 2 m ∙ mul_comm (2 ^ m) 2) l in
    let a : x / 2 ^ m < 2 = (div-lt_iff_lt-mul (pow_pos m)).1 b in
    go a (dec_lt (x / 2 ^ m) 1)
  where
    go : x / 2 ^ m < 2 → Dec (x / 2 ^ m < 1) → x / 2 ^ m ≡ 1
    go a (yes q) = absurd (let z = (div-lt_iff_lt-mul (pow_pos m)).0 q in let y : ⊥ = omega arith in y)
    go a (no q) = omega arith

none_above : (m x : ℕ) → x / 2 ^ m ≡ 0 → x < 2 ^ m
none_above m x e =
    let l : x / 2 ^ m < 1 = omega arith in
    subst (λ (y : ℕ). x < y) (one-mul (2 ^ m)) ((div-lt_iff_lt-mul (pow_pos m)).0 l)

module _ (p d : ℕ) (monic : p / 2 ^ d ≡ 1) where
  moved-top : (n : ℕ) → p * 2 ^ n / 2 ^ (d + n) ≡ 1
  moved-top n =
      ap (λ (m : ℕ). p * 2 ^ n / 2 ^ m) (add_comm d n) ∙ sym (shr-shr (p * 2 ^ n) n d)
      ∙ ap (λ (y : ℕ). y / 2 ^ d) (shl-shr p n) ∙ monic

  -- the digit is gone
  cut_below : (n x : ℕ) → x < 2 ^ (d + suc n) → cut_at (2 ^ (d + n)) (p * 2 ^ n) x < 2 ^ (d + n)
  cut_below n x h = go (dec_le (2 ^ (d + n)) x)
    where
      go : Dec (2 ^ (d + n) ≤ x) → cut_at (2 ^ (d + n)) (p * 2 ^ n) x < 2 ^ (d + n)
      go (yes l) =
          subst (λ (y : ℕ). y < 2 ^ (d + n)) (sym (cut-yes (2 ^ (d + n)) (p * 2 ^ n) x l))
          (none_above (d + n) (bit_xor x (p * 2 ^ n))
          (xor_shr x (p * 2 ^ n) (d + n)
          ∙ ap₂ bit_xor (top_digit (d + n) x l (subst (λ (m : ℕ). x < 2 ^ m) (add-suc d n) h)) (moved-top n)))
      go (no l) =
          subst (λ (y : ℕ). y < 2 ^ (d + n)) (sym (cut-no (2 ^ (d + n)) (p * 2 ^ n) x (omega arith))) (omega arith)

  pub lowered-below : (n g x : ℕ) → g ≡ p * 2 ^ n / 2 → x < 2 ^ (d + n) → lowered n d g x < 2 ^ d
  unfolding lowered
  lowered-below zero g x e h = subst (λ (m : ℕ). x < 2 ^ m) (add-zero d) h
  lowered-below (suc n) g x e h =
      let f : g ≡ p * 2 ^ n = e ∙ shifted_half p n in
      lowered-below n (g / 2) (cut_at (2 ^ (d + n)) g x) (ap (λ (y : ℕ). y / 2) f)
      (subst (λ (y : ℕ). cut_at (2 ^ (d + n)) y x < 2 ^ (d + n)) (sym f) (cut_below n x h))

  -- with the digit cut a number is less; with the digit added it is not
  least-cut : (n x : ℕ) → x < 2 ^ (d + suc n) → min x (bit_xor x (p * 2 ^ n)) ≡ cut_at (2 ^ (d + n)) (p * 2 ^ n) x
  least-cut n x h = go (dec_le (2 ^ (d + n)) x)
    where
      go : Dec (2 ^ (d + n) ≤ x) → min x (bit_xor x (p * 2 ^ n)) ≡ cut_at (2 ^ (d + n)) (p * 2 ^ n) x
      go (yes l) =
          let e = cut-yes (2 ^ (d + n)) (p * 2 ^ n) x l in
          let s : bit_xor x (p * 2 ^ n) < 2 ^ (d + n) = subst (λ (z : ℕ). z < 2 ^ (d + n)) e (cut_below n x h) in
          let m : min x (bit_xor x (p * 2 ^ n)) ≡ bit_xor x (p * 2 ^ n) = omega arith in
          m ∙ sym e
      go (no l) =
          let q : x / 2 ^ (d + n) < 1 = (div-lt_iff_lt-mul (pow_pos (d + n))).1 (subst (λ (z : ℕ). x < z) (sym (one-mul (2 ^ (d + n)))) (omega arith)) in
          let one : bit_xor x (p * 2 ^ n) / 2 ^ (d + n) ≡ 1 = xor_shr x (p * 2 ^ n) (d + n) ∙ ap₂ bit_xor (let z : x / 2 ^ (d + n) ≡ 0 = omega arith in z) (moved-top n) in
          let r = reached one in
          let m : min x (bit_xor x (p * 2 ^ n)) ≡ x = omega arith in
          m ∙ sym (cut-no (2 ^ (d + n)) (p * 2 ^ n) x (omega arith))
        where
          reached : bit_xor x (p * 2 ^ n) / 2 ^ (d + n) ≡ 1 → x ≤ bit_xor x (p * 2 ^ n)
          reached one = far (dec_le (2 ^ (d + n)) (bit_xor x (p * 2 ^ n)))
            where
              far : Dec (2 ^ (d + n) ≤ bit_xor x (p * 2 ^ n)) → x ≤ bit_xor x (p * 2 ^ n)
              far (yes a) = omega arith
              far (no a) =
                  let z : bit_xor x (p * 2 ^ n) / 2 ^ (d + n) < 1 = (div-lt_iff_lt-mul (pow_pos (d + n))).1 (subst (λ (w : ℕ). bit_xor x (p * 2 ^ n) < w) (sym (one-mul (2 ^ (d + n)))) (omega arith)) in
                  absurd (let b : ⊥ = omega arith in b)

  pub lessened-lowered : (n g x : ℕ) → g ≡ p * 2 ^ n / 2 → x < 2 ^ (d + n) → lessened n g x ≡ lowered n d g x
  unfolding lowered lessened
  lessened-lowered zero g x e h = refl
  lessened-lowered (suc n) g x e h =
      let f : g ≡ p * 2 ^ n = e ∙ shifted_half p n in
      ap (λ (y : ℕ). lessened n (g / 2) (min x (bit_xor x y))) f ∙ ap (lessened n (g / 2)) (least-cut n x h)
      ∙ lessened-lowered n (g / 2) (cut_at (2 ^ (d + n)) (p * 2 ^ n) x) (ap (λ (y : ℕ). y / 2) f) (cut_below n x h)
      ∙ ap (λ (y : ℕ). lowered n d (g / 2) (cut_at (2 ^ (d + n)) y x)) (sym f)

  -- where the polynomial is zero, nothing changes
  module _ (z : ℕ) (root : value_at z p ≡ 0) where
    open ring (field_at 11) gen11.monic use {mul-zero-r}

    moved-zero : (n : ℕ) → value_at z (p * 2 ^ n) ≡ 0
    moved-zero n =
        ap (value_at z) (sym (add-zero (p * 2 ^ n)))
        ∙ value_of_digits-join (field_at 11) gen11.monic (one_below (field_at 11) gen11) z n p 0 (pow_pos n)
        ∙ ap₂ bit_xor (value_of_digits-zero (field_at 11) gen11.monic (one_below (field_at 11) gen11) z)
        (ap (mul (field_at 11) _) root ∙ mul-zero-r _)

    cut-value : (n x : ℕ) → value_at z (cut_at (2 ^ (d + n)) (p * 2 ^ n) x) ≡ value_at z x
    cut-value n x = go (dec_le (2 ^ (d + n)) x)
      where
        go : Dec (2 ^ (d + n) ≤ x) → value_at z (cut_at (2 ^ (d + n)) (p * 2 ^ n) x) ≡ value_at z x
        go (yes l) =
            ap (value_at z) (cut-yes (2 ^ (d + n)) (p * 2 ^ n) x l)
            ∙ value_of_digits-xor (field_at 11) gen11.monic (one_below (field_at 11) gen11) z x (p * 2 ^ n)
            ∙ ap (bit_xor (value_at z x)) (moved-zero n) ∙ xor_zero_r (value_at z x)
        go (no l) = ap (value_at z) (cut-no (2 ^ (d + n)) (p * 2 ^ n) x (omega arith))

    pub lowered-values : (n g x : ℕ) → g ≡ p * 2 ^ n / 2 → value_at z (lowered n d g x) ≡ value_at z x
    unfolding lowered
    lowered-values zero g x e = refl
    lowered-values (suc n) g x e =
        let f : g ≡ p * 2 ^ n = e ∙ shifted_half p n in
        lowered-values n (g / 2) (cut_at (2 ^ (d + n)) g x) (ap (λ (y : ℕ). y / 2) f)
        ∙ ap (λ (y : ℕ). value_at z (cut_at (2 ^ (d + n)) y x)) f ∙ cut-value n x
