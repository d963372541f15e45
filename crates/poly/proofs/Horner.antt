-- Evaluation by Horner's rule: what holds at each turn.
--   value_none, value-zero                            of no coefficients, and at 0
--   Valuing                                           v is the value of the coefficients from k on
--   value-from, value-logs, value-fits, value_on, value-end   the start, what a turn reads, a turn, the end
-- Assumes nothing.
use mathlib.Core.Path.{◌≡◌, refl, sym, ap, ◌∙◌}
use native.Mathlib.Nat.{not-suc-le-zero}
use mathlib.Core.List.{List, [], ◌∷◌}
use Prim.Native.Nat.{ℕ, suc, ◌+◌, ◌-◌, ◌^◌, ◌≤◌, ◌<◌}
use native.Mathlib.Omega.{arith}
use lib.Bits.{bit_xor, xor_zero_r}
use lib.ListN.{length, get_or, drop}
use lib.Seq.{drop-length, drop-cons}
use Rattle.algebra.specs.Polynomial.{eval, Below}
use Rattle.algebra.proofs.StaysBelow.{eval-below, drop-below}
use Rattle.field.specs.Field.{field_at, G}
use Rattle.field.proofs.Ring.{ring}
use Rattle.poly.specs.Lent.{Lent}
use Rattle.field.proofs.ByLogs.{product-fits, product-stands}
use Rattle.poly.proofs.Logs.{field_of, numbers_of, logs-fit}

pub value_none : (m : ℕ) (f : List ℕ) (x : ℕ) → length f < 1 → 0 ≡ eval (G m) f x
unfolding eval
value_none m [] x h = refl
value_none m (c ∷ f) x h = absurd (let b : ⊥ = omega arith in b)

-- at 0 the constant is left
pub value-zero : {m : ℕ} {ls ts : List ℕ} (f : List ℕ) {x : ℕ} → Lent m ls ts → 1 ≤ length f → x ≡ 0 → get_or f 0 0 ≡ eval (G m) f x
unfolding eval
value-zero {m} [] l h z = absurd (not-suc-le-zero h)
value-zero {m} (c ∷ f) {x} l h z =
    sym (ap (λ y. bit_xor c ((G m).mul y (eval (G m) f x))) z
    ∙ ap (bit_xor c) ((ring (field_at m) (field_of l).monic).mul-zero-l (eval (G m) f x)) ∙ xor_zero_r c)

-- v is the value of the coefficients from k on
pub record Valuing (m : ℕ) (ls ts f : List ℕ) (x k v : ℕ) : Type 0 where
  pub tables : Lent m ls ts
  pub small : Below (2 ^ m) f
  pub nonzero : 0 < x
  pub element : x < 2 ^ m
  pub within : k ≤ length f
  pub done : v ≡ eval (G m) (drop k f) x

pub value-from : {m : ℕ} {ls ts : List ℕ} (f : List ℕ) {x : ℕ} → Lent m ls ts → Below (2 ^ m) f → 0 < x → x < 2 ^ m → Valuing m ls ts f x (length f) 0
unfolding eval
value-from {m} f {x} l b p h =
    record { tables = l; small = b; nonzero = p; element = h; within = omega arith; done = sym (ap (λ u. eval (G m) u x) (drop-length f)) }

module _ {m : ℕ} {ls ts f : List ℕ} {x k v : ℕ} (s : Valuing m ls ts f x k v) where
  -- it is an element
  value-small : v < 2 ^ m
  value-small = omega (arith, s.done, eval-below (numbers_of s.tables) (drop k f) x (drop-below (2 ^ m) k f s.small) s.element)

  pub value-logs : v < length ls
  value-logs = logs-fit s.tables value-small

  pub value-fits : get_or ls x 0 + get_or ls v 0 < length ts
  value-fits = product-fits s.tables s.element value-small

  -- one coefficient more
  pub value_on : 0 < k → Valuing m ls ts f x (k - 1) (bit_xor (get_or f (k - 1) 0) (get_or ts (get_or ls x 0 + get_or ls v 0) 0))
  unfolding eval
  value_on h =
      let j : ℕ = k - 1 in
      let w = s.within in
      let back : suc j ≡ k = omega arith in
      let here : drop j f ≡ get_or f j 0 ∷ drop k f = drop-cons f j 0 (omega arith) ∙ ap (λ i. get_or f j 0 ∷ drop i f) back in
      record {
        tables = s.tables;
        small = s.small;
        nonzero = s.nonzero;
        element = s.element;
        within = omega arith;
        done = ap (bit_xor (get_or f j 0)) (product-stands s.tables s.nonzero s.element value-small ∙ ap ((G m).mul x) s.done)
            ∙ sym (ap (λ u. eval (G m) u x) here);
      }

  pub value-end : k ≤ 0 → v ≡ eval (G m) f x
  value-end h = let z : k ≡ 0 = omega arith in s.done ∙ ap (λ i. eval (G m) (drop i f) x) z
