-- The loop that cuts digits: what each turn leaves is what lies ahead.
--   Lessening, lessening-start, lessening-turn, lessening-end
-- Assumes nothing.
use mathlib.Core.Path.{◌≡◌, sym, ap, ap₂, ◌∙◌}
use Prim.Native.Nat.{ℕ, suc, ◌+◌, ◌-◌, ◌/◌, ◌≤◌, ◌<◌, min}
use native.Mathlib.Omega.{arith}
use lib.Bits.{bit_xor}
use Rattle.corrector_remainder.specs.Remainder.{lessened}

-- k of n digits are cut
pub record Lessening (n g₀ x₀ x g k : ℕ) : Type 0 where
  pub ahead : lessened (n - k) g x ≡ lessened n g₀ x₀

pub lessening-start : (n g x : ℕ) → Lessening n g x x g 0
lessening-start n g x = let all : n - 0 ≡ n = omega arith in record { ahead = ap (λ m. lessened m g x) all }

pub lessening-turn : {n g₀ x₀ x g k v h : ℕ} → Lessening n g₀ x₀ x g k → k < n → v ≡ min x (bit_xor x g) → h ≡ g / 2
    → Lessening n g₀ x₀ v h (k + 1)
unfolding lessened
lessening-turn {n} {g₀} {x₀} {x} {g} {k} l d e f =
    let one : n - k ≡ suc (n - (k + 1)) = omega arith in
    record { ahead = ap₂ (lessened (n - (k + 1))) f e ∙ ap (λ (m : ℕ). lessened m g x) (sym one) ∙ l.ahead }

pub lessening-end : {n g₀ x₀ x g k : ℕ} → Lessening n g₀ x₀ x g k → n ≤ k → x ≡ lessened n g₀ x₀
unfolding lessened
lessening-end {n} {x = x} {g = g} {k = k} l h =
    let none : n - k ≡ 0 = omega arith in sym (ap (λ (m : ℕ). lessened m g x) none) ∙ l.ahead
