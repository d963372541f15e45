-- The register depends on the power sums that it takes, and on no others.
--   register-same   two sequences that agree so far give one register
-- Assumes nothing.
use mathlib.Core.Path.{◌≡◌, refl, ap, ap₂, ◌∙◌}
use mathlib.Core.Bool.{cond}
use mathlib.Core.List.{List, [], ◌∷◌}
use Prim.Native.Nat.{ℕ, zero, suc, ◌*◌, ◌≤◌}
use native.Mathlib.Omega.{arith}
use Rattle.algebra.specs.Field.{Ops}
use Rattle.corrector_code.specs.Key.{conv, shift, mend, turn, register}

module _ {K : Type 0} (F : Ops K) where
  conv-same : (p : List K) (s u : ℕ → K) (k : ℕ) → ((j : ℕ) → j ≤ k → s j ≡ u j) → conv F p s k ≡ conv F p u k
  unfolding conv
  conv-same [] s u k h = refl
  conv-same (c ∷ p) s u zero h = ap (F.mul c) (h 0 (omega arith))
  conv-same (c ∷ p) s u (suc k) h = ap₂ F.add (ap (F.mul c) (h (suc k) (omega arith))) (conv-same p s u k (λ j l. h j (omega arith)))

  pub register-same : (m : ℕ) (s u : ℕ → K) (n : ℕ) → ((j : ℕ) → j ≤ 2 * n → s j ≡ u j) → register F m s n ≡ register F m u n
  unfolding register turn
  register-same m s u zero h = refl
  register-same m s u (suc n) h =
      ap (λ r. turn F s n r) (register-same m s u n (λ j l. h j (omega arith)))
      ∙ ap (λ d. cond (F.is_zero d) (record { locator = (register F m u n).locator; spare = shift F (register F m u n).spare; low = (register F m u n).low; high = suc (suc (register F m u n).high) })
      (mend F d (register F m u n))) (conv-same (register F m u n).locator s u (suc (2 * n)) (λ j l. h j (omega arith)))
