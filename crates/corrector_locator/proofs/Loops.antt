-- The loops of the register's functions.
--   plus_times-at, plus_times-long          p + d q, coefficient by coefficient
--   Convolving, convolve-start, convolve-turn, convolve-end   the loop of a coefficient of a product
--   shift_from, shift-start               z^2 p
--   conv-lt                               a coefficient of a product is an element
--   times-only                            0 + v p
-- Assumes nothing.
use mathlib.Core.Path.{◌≡◌, refl, sym, ap, ap₂, ◌∙◌}
use mathlib.Core.List.{List, [], ◌∷◌, ◌++◌, map}
use Prim.Native.Nat.{ℕ, zero, suc, ◌+◌, ◌-◌, ◌≤◌, ◌<◌, min}
use native.Mathlib.Nat.{not-suc-le-zero, le_of_suc-le-suc}
use native.Mathlib.Numerals.{add-one}
use native.Mathlib.Decide.{dec_le}
use native.Mathlib.Omega.{arith}
use lib.Bits.{bit_xor, xor_zero_r, xor_lt}
use lib.ListN.{length, get_or, take, drop, replicate, length-map, length-take, drop_of_length-le}
use Rattle.slices.proofs.Filling.{Filling}
use lib.Seq.{drop-cons}
use Rattle.field.specs.Field.{field_at, mul}
use Rattle.field.proofs.Ring.{mul-lt}
use Rattle.corrector_code.proofs.Eleven.{gen11}
use Rattle.field.proofs.Xor.{xor_assoc}
use Rattle.algebra.specs.Polynomial.{add}
use Rattle.algebra.proofs.Lengths.{length-add}
use Rattle.corrector_code.specs.Key.{plus_times, conv, shift}
use Rattle.corrector_code.specs.Eleven.{F11}

-- ---- plus_times: each coefficient of p + d q

pub plus_times-at : (p : List ℕ) (d : ℕ) (q : List ℕ) (i : ℕ) → length p ≡ length q → i < length p
    → get_or (plus_times F11 p d q) i 0 ≡ bit_xor (get_or p i 0) (mul (field_at 11) d (get_or q i 0))
unfolding plus_times add
plus_times-at [] d q i e h = absurd (not-suc-le-zero h)
plus_times-at (x ∷ p) d [] i e h = absurd (omega arith)
plus_times-at (x ∷ p) d (y ∷ q) zero e h = refl
plus_times-at (x ∷ p) d (y ∷ q) (suc i) e h = plus_times-at p d q i (omega arith) (le_of_suc-le-suc h)

pub plus_times-long : (p : List ℕ) (d : ℕ) (q : List ℕ) → length p ≡ length q → length (plus_times F11 p d q) ≡ length p
unfolding plus_times
plus_times-long p d q e = length-add F11 p (map (mul (field_at 11) d) q) (omega (arith, length-map q (mul (field_at 11) d))) ∙ length-map q (mul (field_at 11) d) ∙ sym e

-- ---- product_at: d has the terms before i

pub record Convolving (p : List ℕ) (s : ℕ → ℕ) (k d i : ℕ) : Type 0 where
  pub within : i ≤ suc k
  pub some : i ≤ k → bit_xor d (conv F11 (drop i p) s (k - i)) ≡ conv F11 p s k
  pub all : k < i → d ≡ conv F11 p s k

pub convolve-start : (p : List ℕ) (s : ℕ → ℕ) (k : ℕ) → Convolving p s k 0 0
convolve-start p s k = record { within = omega arith; some = λ l. let e : k - 0 ≡ k = omega arith in ap (conv F11 p s) e; all = λ l. absurd (not-suc-le-zero l) }

pub convolve-turn : {p : List ℕ} {s : ℕ → ℕ} {k d i : ℕ} (v : ℕ) → Convolving p s k d i → i < length p → i ≤ k → v ≡ mul (field_at 11) (get_or p i 0) (s (k - i))
    → Convolving p s k (bit_xor d v) (i + 1)
convolve-turn {p} {s} {k} {d} {i} v w h l e = record {
  within = omega arith;
  some = λ m.
      let next : k - i ≡ suc (k - (i + 1)) = omega arith in
      ap₂ (λ x n. bit_xor (bit_xor d x) (conv F11 (drop n p) s (k - (i + 1)))) (e ∙ ap (λ j. mul (field_at 11) (get_or p i 0) (s j)) next) (add-one i)
      ∙ xor_assoc d _ _ ∙ ap (bit_xor d) (sym (more (k - (i + 1))) ∙ ap (conv F11 (get_or p i 0 ∷ drop (suc i) p) s) (sym next)) ∙ here;
  all = λ m.
      let last : k - i ≡ 0 = omega arith in
      ap (bit_xor d) (e ∙ ap (λ j. mul (field_at 11) (get_or p i 0) (s j)) last ∙ sym one ∙ ap (conv F11 (get_or p i 0 ∷ drop (suc i) p) s) (sym last)) ∙ here;
}
  where
    here : bit_xor d (conv F11 (get_or p i 0 ∷ drop (suc i) p) s (k - i)) ≡ conv F11 p s k
    here = ap (λ q. bit_xor d (conv F11 q s (k - i))) (sym (drop-cons p i 0 h)) ∙ w.some l

    more : (n : ℕ) → conv F11 (get_or p i 0 ∷ drop (suc i) p) s (suc n) ≡ bit_xor (mul (field_at 11) (get_or p i 0) (s (suc n))) (conv F11 (drop (suc i) p) s n)
    more n = unfold conv in refl

    one : conv F11 (get_or p i 0 ∷ drop (suc i) p) s 0 ≡ mul (field_at 11) (get_or p i 0) (s 0)
    one = unfold conv in refl

-- the loop stops at the end of p, or behind k
convolve-short : {p : List ℕ} {s : ℕ → ℕ} {k d i : ℕ} → Convolving p s k d i → length p ≤ i → i ≤ k → d ≡ conv F11 p s k
unfolding conv
convolve-short {p} {s} {k} {d} {i} w h l =
    sym (xor_zero_r d) ∙ ap (bit_xor d) (sym (ap (λ q. conv F11 q s (k - i)) (drop_of_length-le p {i = i} h))) ∙ w.some l

pub convolve-end : {p : List ℕ} {s : ℕ → ℕ} {k d i : ℕ} → Convolving p s k d i → min (length p) (k + 1) ≤ i → d ≡ conv F11 p s k
convolve-end {p} {s} {k} {d} {i} w h = elim (dec_le i k) [ yes l ↦ convolve-short w (omega arith) l | no l ↦ w.all (omega arith) ]

-- ---- shifted

shift-at : (p : List ℕ) (i : ℕ) → i + 2 < length p → get_or (shift F11 p) (suc (suc i)) 0 ≡ get_or p i 0
unfolding shift
shift-at p i h = go (length p) p i h
  where
    go : (n : ℕ) (l : List ℕ) (i : ℕ) → i + 2 < n → get_or (take n (0 ∷ 0 ∷ l)) (suc (suc i)) 0 ≡ get_or l i 0
    go zero l i h = absurd (not-suc-le-zero h)
    go (suc zero) l i h = absurd (omega arith)
    go (suc (suc n)) l i h = at n l i (omega arith)
      where
        at : (n : ℕ) (l : List ℕ) (i : ℕ) → i < n → get_or (take n l) i 0 ≡ get_or l i 0
        at zero l i h = absurd (not-suc-le-zero h)
        at (suc n) [] i h = refl
        at (suc n) (x ∷ l) zero h = refl
        at (suc n) (x ∷ l) (suc i) h = at n l i (le_of_suc-le-suc h)

pub shift_from : (p : List ℕ) (i : ℕ) → 2 ≤ i → i < length p → get_or p (i - 2) 0 ≡ get_or (shift F11 p) i 0
shift_from p i l h = let e : suc (suc (i - 2)) ≡ i = omega arith in sym (shift-at p (i - 2) (omega arith)) ∙ ap (λ k. get_or (shift F11 p) k 0) e

pub shift-start : (p : List ℕ) → length p ≡ 9 → Filling (shift F11 p) (replicate 9 0) (replicate 9 0) 2
unfolding shift
shift-start p e = record {
  within = omega arith;
  same = length-take (length p) (0 ∷ 0 ∷ p) ∙ omega arith;
  long = refl;
  done = ap (λ n. take 2 (take n (0 ∷ 0 ∷ p)) ++ drop 2 (replicate 9 0)) (sym e);
}

-- ---- what stays below 2048, and the rest of a turn

pub conv-lt : (p : List ℕ) (s : ℕ → ℕ) (k : ℕ) → conv F11 p s k < 2048
unfolding conv
conv-lt [] s k = omega arith
conv-lt (c ∷ p) s zero = mul-lt (field_at 11) gen11.monic c (s 0)
conv-lt (c ∷ p) s (suc k) = xor_lt 11 _ _ (mul-lt (field_at 11) gen11.monic c (s (suc k))) (conv-lt p s k)

-- 0 + v p
zeros-add : (n : ℕ) (l : List ℕ) → length l ≡ n → add F11 (replicate n 0) l ≡ l
unfolding add
zeros-add zero l e = refl
zeros-add (suc n) [] e = absurd (omega arith)
zeros-add (suc n) (x ∷ l) e = ap (λ r. x ∷ r) (zeros-add n l (omega arith))

pub times-only : (v : ℕ) (p : List ℕ) → length p ≡ 9 → plus_times F11 (replicate 9 0) v p ≡ map (mul (field_at 11) v) p
unfolding plus_times
times-only v p e = zeros-add 9 (map (mul (field_at 11) v) p) (length-map p (mul (field_at 11) v) ∙ e)
