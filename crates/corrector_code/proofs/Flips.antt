-- Flips in bytes: a byte changed by an exclusive or changes the word's number by one, and the word by `difference`.
--   digits-xor    the word of a sum of numbers: the places where the two words differ
--   flip-number   byte q changed by x changes the number by x 256^q
-- Assumes nothing.
use mathlib.Core.Path.{◌≡◌, refl, sym, ap, ap₂, ◌∙◌}
use mathlib.Core.Bool.{true}
use mathlib.Core.List.{List, [], ◌∷◌}
use Prim.Native.Nat.{ℕ, zero, suc, ◌+◌, ◌*◌, ◌/◌, ◌%◌, ◌^◌, ◌<◌}
use native.Mathlib.Nat.{mul-one, pow-suc, mul_assoc, add-zero, not-suc-le-zero, le_of_suc-le-suc}
use native.Mathlib.Omega.{arith}
use lib.Bits.{bit_xor, xor_block, xor_zero_r, xor_mod}
use lib.Dec.{eqb}
use lib.ListN.{length, get_or, set}
use Rattle.field.proofs.Digits.{bit-cases}
use Rattle.field.proofs.Xor.{xor-half}
use Rattle.corrector_code.specs.Word.{differs, difference}
use Rattle.corrector_code.specs.Digits.{bytes_number, digits}

-- the word of a sum of numbers: the places where the two words differ
pub digits-xor : (n x y : ℕ) → digits n (bit_xor x y) ≡ difference (digits n x) (digits n y)
unfolding digits difference
digits-xor zero x y = refl
digits-xor (suc n) x y = ap₂ (λ b l. b ∷ l) (ap (λ d. eqb d 1) (xor_mod x y 1) ∙ low) (ap (digits n) (xor-half x y) ∙ digits-xor n (x / 2) (y / 2))
  where
    low : eqb (bit_xor (x % 2) (y % 2)) 1 ≡ differs (eqb (x % 2) 1) (eqb (y % 2) 1)
    low =
        bit-cases (λ d. eqb (bit_xor d (y % 2)) 1 ≡ differs (eqb d 1) (eqb (y % 2) 1)) refl
        (bit-cases (λ d. eqb (bit_xor 1 d) 1 ≡ differs true (eqb d 1)) refl refl y) x

-- byte q changed by x
pub flip-number : (bytes : List ℕ) (q x : ℕ) → q < length bytes → ((k : ℕ) → get_or bytes k 0 < 256) → x < 256
    → bytes_number (set bytes q (bit_xor (get_or bytes q 0) x)) ≡ bit_xor (bytes_number bytes) (x * 256 ^ q)
unfolding bytes_number
flip-number [] q x h u l = absurd (not-suc-le-zero h)
flip-number (b ∷ bs) zero x h u l =
    let z : 0 * 2 ^ 8 + x ≡ x = omega arith in
    ap (λ m. m * 256 + bit_xor b x) (sym (xor_zero_r (bytes_number bs))) ∙ sym (xor_block 8 (bytes_number bs) 0 b x (u 0) l) ∙ ap (bit_xor (bytes_number bs * 256 + b)) (z ∙ sym (mul-one x))
flip-number (b ∷ bs) (suc q) x h u l =
    ap (λ m. m * 256 + b) (flip-number bs q x (le_of_suc-le-suc h) (λ k. u (suc k)) l)
    ∙ ap (λ m. bit_xor (bytes_number bs) (x * 256 ^ q) * 256 + m) (sym (xor_zero_r b))
    ∙ sym (xor_block 8 (bytes_number bs) (x * 256 ^ q) b 0 (u 0) (omega arith))
    ∙ ap (bit_xor (bytes_number bs * 256 + b)) (add-zero (x * 256 ^ q * 256) ∙ mul_assoc x (256 ^ q) 256 ∙ ap (λ p. x * p) (sym (pow-suc 256 q)))
