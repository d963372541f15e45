-- What the loop of the product keeps: a record, one turn of the loop, and what follows at its end.
--   Halfway        the sum so far, and x times y, make v
-- Assumes nothing.
use mathlib.Core.Path.{◌≡◌, sym, ap, ◌∙◌, subst}
use Prim.Native.Nat.{ℕ, ◌*◌, ◌/◌, ◌%◌, ◌<◌}
use native.Mathlib.Omega.{arith}
use lib.Bits.{bit_xor, xor_comm, xor_lt, xor_zero_r}
use Rattle.field.specs.Field.{cut, Field, size, mul}
use Rattle.field.proofs.Digits.{digit-mul-le}
use Rattle.field.proofs.Xor.{xor_assoc}
use Rattle.field.proofs.Ring.{FullDegree, ring}

pub record Halfway (F : Field) (v x y sum : ℕ) : Type 0 where
  pub y-lt : y < size F
  pub sum_lt : sum < size F
  pub total : bit_xor sum (mul F x y) ≡ v

module _ (F : Field) (monic : FullDegree F) where
  open ring F monic use {mul-zero-l, mul-lt, mul-two, mul-peel}

  -- one digit more
  pub product-turn : {v x y sum : ℕ} → Halfway F v x y sum → Halfway F v (x / 2) (cut F (y * 2)) (bit_xor (x % 2 * y) sum)
  product-turn {v} {x} {y} {sum} h =
      record {
        y-lt = subst (λ (t : ℕ). t < size F) (mul-two y h.y-lt) (mul-lt 2 y);
        sum_lt = xor_lt F.degree (x % 2 * y) sum (let l = digit-mul-le x y in let k = h.y-lt in omega arith) h.sum_lt;
        total =
            ap (λ (t : ℕ). bit_xor t (mul F (x / 2) (cut F (y * 2)))) (xor_comm (x % 2 * y) sum)
            ∙ xor_assoc sum (x % 2 * y) (mul F (x / 2) (cut F (y * 2)))
            ∙ ap (bit_xor sum) (sym (mul-peel x y h.y-lt)) ∙ h.total;
      }

  -- no digit left
  pub product_whole : {v x y sum : ℕ} → x ≡ 0 → Halfway F v x y sum → sum ≡ v
  product_whole {v} {x} {y} {sum} e h =
      sym (xor_zero_r sum) ∙ ap (bit_xor sum) (sym (mul-zero-l y) ∙ ap (λ (t : ℕ). mul F t y) (sym e)) ∙ h.total
