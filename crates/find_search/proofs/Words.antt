-- The roots among 64 elements, noted by the set digits of a word.
--   tz-below, tz_odd, tz-lt   the digits at the low end of a number
--   tried-skip                elements that are no roots are tried
--   Reading                   what the loop over the digits keeps: its start, its turn and its end
--   free-from                 the complement of the occupied lanes says which elements are roots
-- Assumes nothing.
use mathlib.Core.Path.{◌≡◌, refl, sym, ap, ◌∙◌}
use mathlib.Core.List.{List}
use Prim.Native.Nat.{ℕ, zero, suc, ◌+◌, ◌-◌, ◌*◌, ◌/◌, ◌%◌, ◌^◌, ◌≤◌, ◌<◌}
use native.Mathlib.Nat.{pow-suc, div-div-eq-div-mul, div-one, mul_comm, div-eq_of_lt, div-le_self, add-zero}
use native.Mathlib.Decide.{dec_lt}
use native.Mathlib.Omega.{arith}
use lib.Pow.{pow_pos, pow_mono, pow-add}
use lib.Bits.{bit_xor, xor_lt}
use lib.Count.{count_trailing_zeros, under}
use lib.ListN.{length, set}
use Rattle.algebra.specs.Polynomial.{eval}
use Rattle.field.specs.Field.{G}
use Rattle.poly_values.specs.Planes.{occupied, words_at, taps11}
use Rattle.poly_values.specs.Tables.{Values}
use Rattle.poly_values.proofs.Finishing.{free-hit, free-miss}
use Rattle.find_search.specs.Searching.{Tried, RootDigits, Wordable}
use Rattle.find_search.proofs.Trying.{tried-hit, tried-miss, tried-room, tried-next}

-- ---- the digits at the low end

-- a digit of the half
digit-half : (q s : ℕ) → q / 2 / 2 ^ s ≡ q / 2 ^ suc s
digit-half q s = div-div-eq-div-mul q 2 (2 ^ s) ∙ ap (λ (t : ℕ). q / t) (mul_comm 2 (2 ^ s) ∙ sym (pow-suc 2 s))

tz-below : (d q s : ℕ) → s < count_trailing_zeros d q → q / 2 ^ s % 2 ≡ 0
unfolding count_trailing_zeros
tz-below zero q s h = absurd (omega arith)
tz-below (suc d) q s h = go (q % 2) refl s h (λ i k. tz-below d (q / 2) i k)
  where
    go : (b : ℕ) → q % 2 ≡ b → (s : ℕ) → s < under b (count_trailing_zeros d (q / 2)) → ((i : ℕ) → i < count_trailing_zeros d (q / 2) → q / 2 / 2 ^ i % 2 ≡ 0) → q / 2 ^ s % 2 ≡ 0
    go zero e zero k rec = ap (λ (t : ℕ). t % 2) (div-one q) ∙ e
    go zero e (suc s) k rec = ap (λ (t : ℕ). t % 2) (sym (digit-half q s)) ∙ rec s (omega arith)
    go (suc b) e s k rec = absurd (omega arith)

tz_odd : (d q : ℕ) → 0 < q → q < 2 ^ d → (q / 2 ^ count_trailing_zeros d q % 2 ≡ 1) × (count_trailing_zeros d q < d)
unfolding count_trailing_zeros
tz_odd zero q h k = absurd (omega arith)
tz_odd (suc d) q h k = go (q % 2) refl (λ p. tz_odd d (q / 2) p (omega (arith, pow-suc 2 d)))
  where
    go : (b : ℕ) → q % 2 ≡ b → (0 < q / 2 → (q / 2 / 2 ^ count_trailing_zeros d (q / 2) % 2 ≡ 1) × (count_trailing_zeros d (q / 2) < d))
        → (q / 2 ^ under b (count_trailing_zeros d (q / 2)) % 2 ≡ 1) × (under b (count_trailing_zeros d (q / 2)) < suc d)
    go zero e rec = let r = rec (omega arith) in (ap (λ (t : ℕ). t % 2) (sym (digit-half q (count_trailing_zeros d (q / 2)))) ∙ r.0, omega arith)
    go (suc b) e rec = (ap (λ (t : ℕ). t % 2) (div-one q) ∙ omega arith, omega arith)

-- ---- elements that are no roots

tried-skip : {m : ℕ} {f roots r : List ℕ} {x k : ℕ} (d : ℕ) → Tried m f roots x k r → x + d ≤ 2 ^ m
    → ((j : ℕ) → j < d → eval (G m) f (x + j) ≡ 0 → ⊥) → Tried m f roots (x + d) k r
tried-skip {x = x} zero h l z = tried-next h (add-zero x)
tried-skip {m = m} {f = f} {roots = roots} {r = r} {x = x} {k = k} (suc d) h l z =
    tried-next (tried-skip {m = m} {f = f} {roots = roots} {r = r} {x = x + 1} d (tried-miss h (omega arith) (λ e. z 0 (omega arith) (ap (λ (i : ℕ). eval (G m) f i) (add-zero x) ∙ e))) (omega arith)
    (λ j k e. z (suc j) (omega arith) (ap (λ (i : ℕ). eval (G m) f i) (omega arith) ∙ e))) (omega arith)

-- ---- the loop

-- the digits below at - x were read, and the rest stands in `rest`
pub record Reading (f roots : List ℕ) (free x rest at n : ℕ) (roots' : List ℕ) : Type 0 where
  pub tried : Tried 11 f roots at n roots'
  pub read : ℕ
  pub place : at ≡ x + read
  pub within : read ≤ 64
  pub left : rest ≡ free / 2 ^ read

module _ {f roots : List ℕ} {free x k : ℕ} (w : Wordable f free x k roots) where
  pub reading-from : Reading f roots free x free x k roots
  reading-from = record { tried = w.tried; read = 0; place = sym (add-zero x); within = omega arith; left = sym (div-one free) }

  -- a digit of the rest
  digit-left : (r s : ℕ) → free / 2 ^ r / 2 ^ s ≡ free / 2 ^ (r + s)
  digit-left r s = div-div-eq-div-mul free (2 ^ r) (2 ^ s) ∙ ap (λ (t : ℕ). free / t) (sym (pow-add 2 r s))

  module _ {rest at n : ℕ} {roots' : List ℕ} (i : Reading f roots free x rest at n roots') (some : 0 < rest) where
    t : ℕ
    t = count_trailing_zeros 64 rest

    small : rest < 2 ^ 64
    small = omega (arith, i.left, w.digits.small, div-le_self free (2 ^ i.read))

    odd : rest / 2 ^ t % 2 ≡ 1
    unfolding t
    odd = (tz_odd 64 rest some small).0

    pub shift_small : count_trailing_zeros 64 rest < 64
    shift_small = (tz_odd 64 rest some small).1

    -- the digit that was found is one of the word's
    pub found : i.read + count_trailing_zeros 64 rest < 64
    unfolding t
    found = go (dec_lt (i.read + t) 64)
      where
        go : Dec (i.read + t < 64) → i.read + t < 64
        go (yes h) = h
        go (no h) =
            let g : 64 ≤ i.read + t = omega (arith, h) in
            let e : 2 ^ 64 ≤ 2 ^ (i.read + t) = pow_mono g in
            let z : rest / 2 ^ t ≡ 0 = ap (λ (r : ℕ). r / 2 ^ t) i.left ∙ digit-left i.read t ∙ div-eq_of_lt (omega (arith, w.digits.small)) in
            let o = odd in absurd (omega arith)

    pub zeros-skipped : Tried 11 f roots (at + count_trailing_zeros 64 rest) n roots'
    zeros-skipped =
        tried-skip (count_trailing_zeros 64 rest) i.tried (omega (arith, found, i.place, w.within))
        (λ j h e. w.digits.miss (i.read + j) (omega (arith, found))
        (ap (λ (r : ℕ). r % 2) (sym (digit-left i.read j)) ∙ ap (λ (r : ℕ). r / 2 ^ j % 2) (sym i.left) ∙ tz-below 64 rest j h)
        (ap (λ (y : ℕ). eval (G 11) f y) (omega (arith, i.place)) ∙ e))

    root : eval (G 11) f (at + count_trailing_zeros 64 rest) ≡ 0
    unfolding t
    root =
        ap (λ (y : ℕ). eval (G 11) f y) (omega (arith, i.place))
        ∙ w.digits.hit (i.read + t) found (ap (λ (r : ℕ). r % 2) (sym (digit-left i.read t)) ∙ ap (λ (r : ℕ). r / 2 ^ t % 2) (sym i.left) ∙ odd)

    pub room-here : n < length roots'
    room-here = let r = tried-room zeros-skipped (omega (arith, found, i.place, w.within)) root w.room in omega (arith, i.tried.long)

    pub reading-on : Reading f roots free x (rest / 2 ^ count_trailing_zeros 64 rest / 2) (at + count_trailing_zeros 64 rest + 1) (n + 1) (set roots' n (at + count_trailing_zeros 64 rest))
    unfolding t
    reading-on = record {
      tried = tried-hit zeros-skipped (omega (arith, found, i.place, w.within)) root (tried-room zeros-skipped (omega (arith, found, i.place, w.within)) root w.room);
      read = i.read + t + 1;
      place = omega (arith, i.place);
      within = omega (arith, found);
      left = ap (λ (r : ℕ). r / 2 ^ t / 2) i.left ∙ ap (λ (r : ℕ). r / 2) (digit-left i.read t) ∙ digit-left (i.read + t) 1;
    }

    pub reading-less : rest / 2 ^ count_trailing_zeros 64 rest / 2 < rest
    reading-less = omega (arith, div-le_self rest (2 ^ count_trailing_zeros 64 rest))

  -- nothing is left
  pub reading-end : {rest at n : ℕ} {roots' : List ℕ} → Reading f roots free x rest at n roots' → rest ≡ 0 → Tried 11 f roots (x + 64) n roots'
  reading-end {rest} {at} i e =
      let d : at + (64 - i.read) ≡ x + 64 = omega (arith, i.place, i.within) in
      tried-next (tried-skip (64 - i.read) i.tried (omega (arith, i.place, i.within, w.within))
      (λ j h z. w.digits.miss (i.read + j) (omega (arith, i.within))
      (ap (λ (r : ℕ). r % 2) (sym (digit-left i.read j)) ∙ ap (λ (r : ℕ). r / 2 ^ j % 2) (sym i.left ∙ e) ∙ ap (λ (r : ℕ). r % 2) (div-eq_of_lt (pow_pos j)))
      (ap (λ (y : ℕ). eval (G 11) f y) (omega (arith, i.place)) ∙ z))) (sym d)

-- ---- the word of the lanes that are 0

pub free-from : {f p : List ℕ} → Values taps11 f p 32 → (w : ℕ) → w < 32 → {z : ℕ} → z ≡ occupied (words_at 11 p (w * 11)) → z < 2 ^ 64 → RootDigits f (w * 64) (bit_xor z 18446744073709551615)
free-from v w h {z} e b = record {
  small = xor_lt 64 z 18446744073709551615 b (omega arith);
  hit = λ l k d. free-hit v w h e l k d;
  miss = λ l k d. free-miss v w h e l k d;
}
