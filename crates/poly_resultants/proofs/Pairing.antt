-- `values_at`: two chains of Horner's rule side by side.
--   top-value    the value of the last coefficient alone
--   Pairing      from k on both values are made
-- Assumes nothing.
use mathlib.Core.Path.{◌≡◌, ◌∙◌, refl, sym, ap, subst}
use mathlib.Core.List.{List, [], ◌∷◌}
use Prim.Native.Nat.{ℕ, zero, suc, ◌-◌, ◌^◌, ◌≤◌, ◌<◌}
use native.Mathlib.Omega.{arith}
use lib.Bits.{bit_xor}
use lib.ListN.{length, drop, get_or}
use Rattle.algebra.specs.Polynomial.{eval}
use Rattle.field.specs.Field.{field_at, G, mul}
use Rattle.poly.specs.Lent.{Lent}
use Rattle.field.proofs.ByLogs.{product-stands}
use Rattle.poly.proofs.Horner.{Valuing, value-logs, value_on, value-end}
use Rattle.poly_resultants.specs.Pairs.{Evaluates, ValuesAt}
use Rattle.poly_resultants.proofs.Ring.{Ring, known-ring, mul-zero}

past_end : (l : List ℕ) (k : ℕ) → length l ≤ k → get_or l k 0 ≡ 0
past_end [] k h = refl
past_end (x ∷ l) zero h = absurd (omega (arith, h))
past_end (x ∷ l) (suc k) h = past_end l k (omega (arith, h))

-- behind the end
pub last_none : (l : List ℕ) (k : ℕ) → length l ≤ k → 0 ≡ get_or l k 0
last_none l k h = sym (past_end l k h)

-- at most one coefficient is left
top-value : {m : ℕ} {ls ts : List ℕ} → Lent m ls ts → (p : List ℕ) (k x : ℕ) → length p ≤ suc k → get_or p k 0 ≡ eval (G m) (drop k p) x
unfolding eval
top-value t [] zero x h = refl
top-value t [] (suc k) x h = refl
top-value {m} t (c ∷ []) zero x h =
    let R : Ring (G m) = known-ring m t.degree in
    sym (ap (bit_xor c) (mul-zero R x) ∙ R.add_comm c 0)
top-value t (c ∷ d ∷ p) zero x h = absurd (omega (arith, h))
top-value t (c ∷ p) (suc k) x h = top-value t p k x (omega (arith, h))

-- one turn, by a product
turned : {m : ℕ} {ls ts f : List ℕ} {x k v t : ℕ} → Valuing m ls ts f x k v → 0 < k → t ≡ mul (field_at m) x v
    → Valuing m ls ts f x (k - 1) (bit_xor (get_or f (k - 1) 0) t)
turned {m} {ls} {ts} {f} {x} {k} {v} {t} a h e =
    subst (λ w. Valuing m ls ts f x (k - 1) (bit_xor (get_or f (k - 1) 0) w))
    (product-stands a.tables a.nonzero a.element (subst (λ w. v < w) a.tables.logs.entries (value-logs a)) ∙ sym e) (value_on a h)

-- from k on both values are made
pub record Pairing (m : ℕ) (ls ts p q : List ℕ) (y k v w : ℕ) : Type 0 where
  pub low : Valuing m ls ts p y k v
  pub high : Valuing m ls ts q y k w

pub pairing-from : {m : ℕ} {ls ts p q : List ℕ} {y v : ℕ} → Lent m ls ts → Evaluates m p q y → v ≡ get_or p (length q) 0 → Pairing m ls ts p q y (length q) v 0
unfolding eval
pairing-from {m} {ls} {ts} {p} {q} {y} {v} lent a e = record {
  low = record {
    tables = lent;
    small = a.pair.low;
    nonzero = a.positive;
    element = a.pair.element;
    within = a.pair.least;
    done = e ∙ top-value lent p (length q) y a.pair.most;
  };
  high = record {
    tables = lent;
    small = a.pair.high;
    nonzero = a.positive;
    element = a.pair.element;
    within = omega arith;
    done = sym (ap (λ l. eval (G m) l y) (none q));
  };
}
  where
    none : (l : List ℕ) → drop (length l) l ≡ []
    none [] = refl
    none (x ∷ l) = none l

module _ {m : ℕ} {ls ts p q : List ℕ} {y k v w : ℕ} (a : Pairing m ls ts p q y k v w) where
  value-small : {f : List ℕ} {u : ℕ} → Valuing m ls ts f y k u → u < 2 ^ m
  value-small {f} {u} b = subst (λ s. u < s) b.tables.logs.entries (value-logs b)

  pub pairing-low : v < 2 ^ m
  pairing-low = value-small a.low

  pub pairing-high : w < 2 ^ m
  pairing-high = value-small a.high

  pub pairing-on : {s t : ℕ} → 0 < k → s ≡ mul (field_at m) y v → t ≡ mul (field_at m) y w
      → Pairing m ls ts p q y (k - 1) (bit_xor (get_or p (k - 1) 0) s) (bit_xor (get_or q (k - 1) 0) t)
  pairing-on h d e = record { low = turned a.low h d; high = turned a.high h e }

  pub pairing-end : {r : ℕ × ℕ} → k ≤ 0 → r.0 ≡ v → r.1 ≡ w → ValuesAt m p q y r
  pairing-end h d e = record { low = d ∙ value-end a.low h; high = e ∙ value-end a.high h }
