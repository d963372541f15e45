-- The odd syndromes of a number, digit by digit: each digit's row of powers is added.
--   RowOn, row_from, row_on, row-end                                the loop over a row
--   AddingDigits, add-digits-from, add-digits-on, add-digits-end    the loop over the digits;  place-fits  a digit
--   left has a row
--   both-parts                                                      both parts of a remainder
--   zeros-at                                                        eight zeros
-- Assumes nothing.
use mathlib.Core.Path.{◌≡◌, refl, sym, ap, ap₂, ◌∙◌, subst}
use mathlib.Core.Logic.{◌⊎◌, inl, inr, ⊎_elim}
use mathlib.Core.List.{List}
use Prim.Native.Nat.{ℕ, zero, suc, ◌+◌, ◌-◌, ◌*◌, ◌/◌, ◌%◌, ◌^◌, ◌≤◌, ◌<◌}
use native.Mathlib.Nat.{eq-or-lt_of_le, pow-suc, mul_assoc as times-assoc}
use native.Mathlib.Numerals.{add-one}
use native.Mathlib.Decide.{dec_lt}
use native.Mathlib.Omega.{arith}
use lib.Bits.{bit_xor, xor_zero_r}
use lib.ListN.{length, get_or, set, length-set, replicate}
use lib.Seq.{get_or-set_same, get_or-set_other}
use Rattle.algebra.specs.Field.{power}
use Rattle.field.specs.Field.{field_at, mul}
use Rattle.field.proofs.Ring.{ring, power-lt}
use Rattle.field.proofs.Generator.{one_below}
use Rattle.corrector_code.specs.Digits.{value_of_digits}
use Rattle.corrector_code.specs.Eleven.{F11}
use Rattle.corrector_code.proofs.Eleven.{gen11}
use Rattle.corrector_code.proofs.Values.{digit-turn, value_of_digits-join, value_of_digits-lt, value_of_digits-zero}
use Rattle.corrector_generator.specs.Generators.{odd_power}
use Rattle.corrector_syndromes.specs.Syndromes.{RowAdded, ValuesAdded, OddValues}
use Rattle.corrector_syndromes.proofs.Entries.{power-next, power-none}
open ring (field_at 11) gen11.monic use {mul_comm, mul-zero-r, mul-one-r, mul-lt}

value-nought : (x : ℕ) → value_of_digits (field_at 11) x 0 ≡ 0
value-nought x = value_of_digits-zero (field_at 11) gen11.monic (one_below (field_at 11) gen11) x

-- ---- one row

pub record RowOn (s : List ℕ) (j k : ℕ) (r : List ℕ) : Type 0 where
  pub within : k ≤ 8
  pub long : length r ≡ 8
  pub done : (i : ℕ) → i < k → get_or r i 0 ≡ bit_xor (get_or s i 0) (power F11 (odd_power i) j)
  pub rest : (i : ℕ) → k ≤ i → get_or r i 0 ≡ get_or s i 0

pub row_from : (s : List ℕ) (j : ℕ) → length s ≡ 8 → RowOn s j 0 s
row_from s j l = record { within = omega arith; long = l; done = λ i h. absurd (omega arith); rest = λ i h. refl }

pub row_on : {s r : List ℕ} {j k v : ℕ} → v ≡ power F11 (odd_power k) j → RowOn s j k r → k < 8
    → RowOn s j (k + 1) (set r k (bit_xor (get_or r k 0) v))
row_on {s} {r} {j} {k} {v} is w h = record {
  within = omega arith;
  long = length-set r k _ ∙ w.long;
  done = λ i l. ⊎_elim
      (λ e. let z : i ≡ k = omega (arith, e) in ap (λ (n : ℕ). get_or (set r k x) n 0) z ∙ get_or-set_same r k x 0 (let m = w.long in omega arith)
      ∙ ap₂ bit_xor (w.rest k (omega arith)) is ∙ ap (λ (n : ℕ). bit_xor (get_or s n 0) (power F11 (odd_power n) j)) (sym z))
      (λ e. get_or-set_other r k i x 0 (omega (arith, e)) ∙ w.done i (omega (arith, e))) (eq-or-lt_of_le (let q : i ≤ k = omega arith in q));
  rest = λ i l. get_or-set_other r k i x 0 (omega arith) ∙ w.rest i (omega arith);
}
  where
    x : ℕ
    x = bit_xor (get_or r k 0) v

pub row-end : {s r : List ℕ} {j k : ℕ} → RowOn s j k r → 8 ≤ k → RowAdded s j r
row-end w h = record { long = w.long; value = λ i l. w.done i (let m = w.within in omega arith) }

-- ---- the digits of n, from j on

pub record AddingDigits (s : List ℕ) (n j : ℕ) (r : List ℕ) (x i : ℕ) : Type 0 where
  pub long : length r ≡ 8
  pub fits : x * 2 ^ i < 2 ^ 88
  pub value : (k : ℕ) → k < 8
      → bit_xor (get_or r k 0) (mul (field_at 11) (power F11 (odd_power k) i) (value_of_digits (field_at 11) (odd_power k) x))
      ≡ bit_xor (get_or s k 0) (mul (field_at 11) (power F11 (odd_power k) j) (value_of_digits (field_at 11) (odd_power k) n))

pub add-digits-from : (s : List ℕ) (n j : ℕ) → length s ≡ 8 → n * 2 ^ j < 2 ^ 88 → AddingDigits s n j s n j
add-digits-from s n j l f = record { long = l; fits = f; value = λ k h. refl }

-- where a digit is left, there is a row for it
pub place-fits : (x i : ℕ) → 0 < x → x * 2 ^ i < 2 ^ 88 → i < 88
place-fits x i h f = go (dec_lt i 88)
  where
    split : (d : ℕ) → 2 ^ 88 ≤ 2 ^ (88 + d)
    split zero = omega arith
    split (suc d) = let e : 2 ^ (88 + suc d) ≡ 2 ^ (88 + d) * 2 = ap (λ (n : ℕ). 2 ^ n) (let g : 88 + suc d ≡ suc (88 + d) = omega arith in g) ∙ pow-suc 2 (88 + d) in let i = split d in omega arith

    above : (p : ℕ) → p ≤ x * p
    above p = let o : (y : ℕ) → y * p + p ≡ (y + 1) * p = λ y. omega arith in let e : x * p ≡ (x - 1) * p + p = (let z : x ≡ x - 1 + 1 = omega arith in ap (λ (y : ℕ). y * p) z ∙ sym (o (x - 1))) in omega arith

    go : Dec (i < 88) → i < 88
    go (yes l) = l
    go (no l) =
        let e : 88 + (i - 88) ≡ i = omega arith in
        let a : 2 ^ 88 ≤ 2 ^ i = subst (λ (n : ℕ). 2 ^ 88 ≤ 2 ^ n) e (split (i - 88)) in
        let b : 2 ^ i ≤ x * 2 ^ i = above (2 ^ i) in
        absurd (let z : ⊥ = omega arith in z)

half-fits : (x i : ℕ) → x * 2 ^ i < 2 ^ 88 → x / 2 * 2 ^ (i + 1) < 2 ^ 88
half-fits x i f =
    let e : 2 ^ (i + 1) ≡ 2 * 2 ^ i = ap (λ (n : ℕ). 2 ^ n) (add-one i) ∙ pow-suc 2 i ∙ (let z : 2 ^ i * 2 ≡ 2 * 2 ^ i = omega arith in z) in
    let g : x / 2 * (2 * 2 ^ i) ≡ x / 2 * 2 * 2 ^ i = sym (times-assoc (x / 2) 2 (2 ^ i)) in
    let d : x / 2 * 2 + x % 2 ≡ x = omega arith in
    let m : x / 2 * 2 * 2 ^ i + x % 2 * 2 ^ i ≡ x * 2 ^ i = sym (let o : (a b p : ℕ) → (a + b) * p ≡ a * p + b * p = λ a b p. omega arith in o (x / 2 * 2) (x % 2) (2 ^ i)) ∙ ap (λ (n : ℕ). n * 2 ^ i) d in
    let h : x / 2 * 2 ^ (i + 1) ≡ x / 2 * 2 * 2 ^ i = ap (λ (p : ℕ). x / 2 * p) e ∙ g in
    omega arith

-- a turn: the row of a digit 1 was added, or nothing for a digit 0
pub add-digits-on : {s r r' : List ℕ} {n j x i : ℕ} → AddingDigits s n j r x i → (RowAdded r i r' × (x % 2 ≡ 1)) ⊎ ((r' ≡ r) × (x % 2 ≡ 0)) → AddingDigits s n j r' (x / 2) (i + 1)
add-digits-on {s} {r} {r'} {n} {j} {x} {i} w c = record {
  long = ⊎_elim (λ a. a.0.long) (λ a. ap length a.0 ∙ w.long) c;
  fits = half-fits x i w.fits;
  value = λ k h. ap₂ bit_xor (added k h c) (ap (λ (p : ℕ). mul (field_at 11) p (value_of_digits (field_at 11) (odd_power k) (x / 2))) (next k))
      ∙ digit-turn (field_at 11) gen11.monic (one_below (field_at 11) gen11) (odd_power k) (get_or r k 0) (power F11 (odd_power k) i) x (power-lt (field_at 11) gen11.monic (one_below (field_at 11) gen11) (odd_power k) i)
      ∙ w.value k h;
}
  where
    next : (k : ℕ) → power F11 (odd_power k) (i + 1) ≡ mul (field_at 11) (odd_power k) (power F11 (odd_power k) i)
    next k = ap (power F11 (odd_power k)) (add-one i) ∙ power-next (odd_power k) i

    added : (k : ℕ) → k < 8 → (RowAdded r i r' × (x % 2 ≡ 1)) ⊎ ((r' ≡ r) × (x % 2 ≡ 0)) → get_or r' k 0 ≡ bit_xor (get_or r k 0) (x % 2 * power F11 (odd_power k) i)
    added k h (inl a) = a.0.value k h ∙ ap (bit_xor (get_or r k 0)) (let p : ℕ = power F11 (odd_power k) i in let e : 1 * p ≡ p = omega arith in sym (ap (λ (d : ℕ). d * p) a.1 ∙ e))
    added k h (inr a) = ap (λ (l : List ℕ). get_or l k 0) a.0 ∙ sym (ap (bit_xor (get_or r k 0)) (let p : ℕ = power F11 (odd_power k) i in let e : 0 * p ≡ 0 = omega arith in ap (λ (d : ℕ). d * p) a.1 ∙ e) ∙ xor_zero_r (get_or r k 0))

pub add-digits-end : {s r : List ℕ} {n j x i : ℕ} → AddingDigits s n j r x i → x ≡ 0 → ValuesAdded s n j r
add-digits-end {s} {r} {n} {j} {x} {i} w e = record {
  long = w.long;
  value = λ k h. sym (ap (bit_xor (get_or r k 0)) (ap (mul (field_at 11) (power F11 (odd_power k) i)) (ap (value_of_digits (field_at 11) (odd_power k)) e ∙ value-nought (odd_power k)) ∙ mul-zero-r (power F11 (odd_power k) i)) ∙ xor_zero_r (get_or r k 0)) ∙ w.value k h;
}

-- both parts of a remainder
pub both-parts : {none s r : List ℕ} (n : ℕ) → ((k : ℕ) → get_or none k 0 ≡ 0)
    → ValuesAdded none (n % 2 ^ 64) 0 s → ValuesAdded s (n / 2 ^ 64) 64 r → OddValues n r
both-parts {none} {s} {r} n z p q = record {
  long = q.long;
  value = λ k h. q.value k h
      ∙ ap (λ (v : ℕ). bit_xor v (mul (field_at 11) (power F11 (odd_power k) 64) (value_of_digits (field_at 11) (odd_power k) hi))) (p.value k h ∙ ap₂ bit_xor (z k) (first k))
      ∙ sym (value_of_digits-join (field_at 11) gen11.monic (one_below (field_at 11) gen11) (odd_power k) 64 hi lo (omega arith))
      ∙ ap (value_of_digits (field_at 11) (odd_power k)) whole;
}
  where
    lo : ℕ
    lo = n % 2 ^ 64

    hi : ℕ
    hi = n / 2 ^ 64

    whole : hi * 2 ^ 64 + lo ≡ n
    whole = omega arith

    first : (k : ℕ) → mul (field_at 11) (power F11 (odd_power k) 0) (value_of_digits (field_at 11) (odd_power k) lo) ≡ value_of_digits (field_at 11) (odd_power k) lo
    first k = ap (λ (p : ℕ). mul (field_at 11) p (value_of_digits (field_at 11) (odd_power k) lo)) (power-none (odd_power k)) ∙ mul_comm 1 _ ∙ mul-one-r _ (value_of_digits-lt (field_at 11) gen11.monic (one_below (field_at 11) gen11) (odd_power k) lo)

-- eight zeros
pub zeros-at : (k : ℕ) → ◌≡◌ {A = ℕ} (get_or (replicate 8 0) k 0) 0
zeros-at zero = refl
zeros-at (suc zero) = refl
zeros-at (suc (suc zero)) = refl
zeros-at (suc (suc (suc zero))) = refl
zeros-at (suc (suc (suc (suc zero)))) = refl
zeros-at (suc (suc (suc (suc (suc zero))))) = refl
zeros-at (suc (suc (suc (suc (suc (suc zero)))))) = refl
zeros-at (suc (suc (suc (suc (suc (suc (suc zero))))))) = refl
zeros-at (suc (suc (suc (suc (suc (suc (suc (suc k)))))))) = refl
