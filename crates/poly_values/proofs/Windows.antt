-- A multiple of every lane by two digits of the multiplier at a time, from a table of the multiples by 0, 1, 2 and 3.
--   four-from      the table
--   windows-turn   two digits more
--   window-next    two digits of a number
-- Assumes nothing.
use mathlib.Core.Path.{◌≡◌, refl, sym, ap, ap₂, ◌∙◌, subst}
use mathlib.Core.List.{List, ◌∷◌}
use Prim.Native.Nat.{ℕ, zero, suc, ◌+◌, ◌*◌, ◌/◌, ◌%◌, ◌^◌, ◌<◌}
use native.Mathlib.Nat.{pow-suc, div-div-eq-div-mul}
use native.Mathlib.Omega.{arith}
use lib.Bits.{bit_xor, xor_shifted}
use lib.ListN.{get_or, length, replicate, length-replicate}
use lib.Seq.{paste, length-paste}
use Rattle.field.specs.Field.{mul}
use Rattle.field.proofs.Ring.{ring, FullDegree}
use Rattle.poly_values.specs.Planes.{lane, tabulate, words_at, sum_words, doubled_words, field_by, Multiple, FourMultiples}
use Rattle.poly_values.proofs.Lists.{length-tabulate, tabulate-same, get_or-zeros}
use Rattle.poly_values.proofs.Planes.{BinaryDigits, lane-lt, lane-sum, sum-words}
use Rattle.poly_values.proofs.Scalars.{multiple-from, multiple-double, multiple-more}
use Rattle.poly_values.proofs.Starting.{words_same, words-other}

words-zeros : (m n at : ℕ) → words_at m (replicate n 0) at ≡ replicate m 0
words-zeros m n at = tabulate-same m (λ k. get_or (replicate n 0) (at + k) 0) (λ k. 0) (λ k. get_or-zeros n (at + k)) ∙ zeros m
  where
    zeros : (m : ℕ) → tabulate m (λ k. 0) ≡ replicate m 0
    zeros zero = refl
    zeros (suc m) = ap (λ l. 0 ∷ l) (zeros m)

module _ (q : List ℕ) (ok : BinaryDigits q) (monic : FullDegree (field_by q)) (b : List ℕ) (long : length b ≡ length q) where
  open ring (field_by q) monic use {mul-one-l, mul-xor-l}

  -- the multiples, stored one after the other over zeros
  pub four-from : {d s t₁ t₂ t₃ : List ℕ} → d ≡ doubled_words q b → s ≡ sum_words (length q) d b
      → t₁ ≡ paste (replicate (4 * length q) 0) (1 * length q) b (length q) → t₂ ≡ paste t₁ (2 * length q) d (length q)
      → t₃ ≡ paste t₂ (3 * length q) s (length q) → FourMultiples q b t₃
  four-from {d} {s} {t₁} {t₂} {t₃} ed es e₁ e₂ e₃ = record { itself = own; multiples = at }
    where
      m : ℕ
      m = length q

      t₀ : List ℕ
      t₀ = replicate (4 * m) 0

      n₀ : length t₀ ≡ 4 * m
      n₀ = length-replicate (4 * m) 0

      n₁ : length t₁ ≡ 4 * m
      n₁ = ap length e₁ ∙ length-paste t₀ (1 * m) b m (omega (arith, n₀)) (omega arith) ∙ n₀

      nd : length d ≡ m
      nd = ap length ed ∙ length-tabulate m _

      n₂ : length t₂ ≡ 4 * m
      n₂ = ap length e₂ ∙ length-paste t₁ (2 * m) d m (omega (arith, n₁)) (omega (arith, nd)) ∙ n₁

      ns : length s ≡ m
      ns = ap length es ∙ length-tabulate m _

      one : Multiple q 1 b b
      one = record { long = long; lanes = λ l. sym (mul-one-l (lane l b) (subst (λ (n : ℕ). lane l b < 2 ^ n) long (lane-lt l b))) }

      -- before the last store, and before the last two
      third : (k : ℕ) → (k ≡ 3 → ⊥) → words_at m t₃ (k * m) ≡ words_at m t₂ (k * m)
      third k n = ap (λ t. words_at m t (k * m)) e₃ ∙ words-other m t₂ s 3 k (omega (arith, n₂)) ns n

      second : (k : ℕ) → (k ≡ 2 → ⊥) → words_at m t₂ (k * m) ≡ words_at m t₁ (k * m)
      second k n = ap (λ t. words_at m t (k * m)) e₂ ∙ words-other m t₁ d 2 k (omega (arith, n₁)) nd n

      own : words_at m t₃ (1 * m) ≡ b
      own =
          third 1 (λ z. omega arith) ∙ second 1 (λ z. omega arith) ∙ ap (λ t. words_at m t (1 * m)) e₁
          ∙ words_same t₀ b (1 * m) m (omega (arith, n₀)) long

      at : (c : ℕ) → c < 4 → Multiple q c b (words_at m t₃ (c * m))
      at zero h =
          multiple-from q ok b long refl
          (third 0 (λ z. omega arith) ∙ second 0 (λ z. omega arith) ∙ ap (λ t. words_at m t (0 * m)) e₁ ∙ words-other m t₀ b 1 0 (omega (arith, n₀)) long (λ z. omega arith) ∙ words-zeros m (4 * m) (0 * m))
      at (suc zero) h =
          subst (Multiple q 1 b) (sym own) one
      at (suc (suc zero)) h =
          multiple-double q ok b long one (third 2 (λ z. omega arith) ∙ ap (λ t. words_at m t (2 * m)) e₂ ∙ words_same t₁ d (2 * m) m (omega (arith, n₁)) nd ∙ ed) refl
      at (suc (suc (suc zero))) h =
          multiple-more q ok b long one ed (ap (λ t. words_at m t (3 * m)) e₃ ∙ words_same t₂ s (3 * m) m (omega (arith, n₂)) ns ∙ es) refl
      at (suc (suc (suc (suc c)))) h = absurd (omega arith)

  -- two digits more
  pub windows-turn : {n d k : ℕ} {t r once twice v next : List ℕ} → FourMultiples q b t → Multiple q n b r → d < 4 → k ≡ n * 4 + d
      → once ≡ doubled_words q r → twice ≡ doubled_words q once → v ≡ words_at (length q) t (d * length q) → next ≡ sum_words (length q) twice v
      → Multiple q k b next
  windows-turn {n} {d} {k} {t} {r} {once} {twice} {v} {next} F M h ek e₁ e₂ ev en = record {
    long = ap length en ∙ length-tabulate (length q) _;
    lanes = λ l. ap (lane l) (en ∙ sum-words (length q) twice v T.long D.long) ∙ lane-sum l twice v ∙ ap₂ bit_xor (T.lanes l) (D.lanes l)
        ∙ sym (mul-xor-l (n * 4) d (lane l b)) ∙ ap (λ (i : ℕ). mul (field_by q) i (lane l b)) (xor_shifted n 2 d h ∙ sym ek);
  }
    where
      T : Multiple q (n * 4) b twice
      T = multiple-double q ok b long (multiple-double q ok b long M e₁ refl) e₂ (omega arith)

      D : Multiple q d b v
      D = subst (Multiple q d b) (sym ev) (F.multiples d h)

-- two digits of a number
pub window-next : (c : ℕ) {i j : ℕ} → i ≡ suc (suc j) → c / 2 ^ j ≡ c / 2 ^ i * 4 + c / 2 ^ j % 4
window-next c {i} {j} e =
    let p : 2 ^ i ≡ 2 ^ j * 4 = ap (λ (n : ℕ). 2 ^ n) e ∙ omega (arith, pow-suc 2 (suc j), pow-suc 2 j) in
    let h : c / 2 ^ i ≡ c / 2 ^ j / 4 = ap (λ (t : ℕ). c / t) p ∙ sym (div-div-eq-div-mul c (2 ^ j) 4) in
    omega arith
