-- Horner's rule at four elements side by side.
--   FourValuing   each chain is at the coefficient k
--   four-from, four-on, four-end   the start, a turn, the end
-- Assumes nothing.
use mathlib.Core.Path.{◌≡◌, sym, subst}
use mathlib.Core.List.{List, [], ◌∷◌}
use Prim.Native.Nat.{ℕ, ◌+◌, ◌-◌, ◌^◌, ◌≤◌, ◌<◌}
use native.Mathlib.Omega.{arith}
use lib.Bits.{bit_xor}
use lib.ListN.{length, get_or}
use Rattle.algebra.specs.Polynomial.{Below}
use Rattle.poly.specs.Lent.{Lent}
use Rattle.poly.specs.Values.{FourValues}
use Rattle.poly.proofs.Horner.{Valuing, value-from, value_on, value-end}

pub record FourValuing (m : ℕ) (ls ts f : List ℕ) (x k a b c d : ℕ) : Type 0 where
  pub first : Valuing m ls ts f x k a
  pub second : Valuing m ls ts f (x + 1) k b
  pub third : Valuing m ls ts f (x + 2) k c
  pub fourth : Valuing m ls ts f (x + 3) k d

pub four-from : {m : ℕ} {ls ts : List ℕ} (f : List ℕ) {x : ℕ} → Lent m ls ts → Below (2 ^ m) f → 0 < x → x + 3 < 2 ^ m
    → FourValuing m ls ts f x (length f) 0 0 0 0
four-from f l b p h =
    record {
      first = value-from f l b p (omega arith);
      second = value-from f l b (omega arith) (omega arith);
      third = value-from f l b (omega arith) (omega arith);
      fourth = value-from f l b (omega arith) (omega arith);
    }

-- what one turn makes of a value
abbrev pub horner_turned : List ℕ → List ℕ → List ℕ → ℕ → ℕ → ℕ → ℕ
horner_turned ls ts f x k v = bit_xor (get_or f (k - 1) 0) (get_or ts (get_or ls x 0 + get_or ls v 0) 0)

one_on : {m : ℕ} {ls ts f : List ℕ} {x k v w : ℕ} → Valuing m ls ts f x k v → 0 < k → w ≡ horner_turned ls ts f x k v → Valuing m ls ts f x (k - 1) w
one_on {m} {ls} {ts} {f} {x} {k} s h e = subst (Valuing m ls ts f x (k - 1)) (sym e) (value_on s h)

pub four-on : {m : ℕ} {ls ts f : List ℕ} {x k a b c d a' b' c' d' : ℕ} → FourValuing m ls ts f x k a b c d → 0 < k
    → a' ≡ horner_turned ls ts f x k a → b' ≡ horner_turned ls ts f (x + 1) k b → c' ≡ horner_turned ls ts f (x + 2) k c → d' ≡ horner_turned ls ts f (x + 3) k d
    → FourValuing m ls ts f x (k - 1) a' b' c' d'
four-on s h p q r t = record { first = one_on s.first h p; second = one_on s.second h q; third = one_on s.third h r; fourth = one_on s.fourth h t }

pub four-end : {m : ℕ} {ls ts f : List ℕ} {x k a b c d : ℕ} → FourValuing m ls ts f x k a b c d → k ≤ 0 → FourValues m f x (a ∷ b ∷ c ∷ d ∷ [])
four-end s h = record { first = value-end s.first h; second = value-end s.second h; third = value-end s.third h; fourth = value-end s.fourth h }
