-- What each register of the run is, whatever the power sums: nine coefficients each, elements of the field, and
-- degrees that add up. So the code's numbers fit.
--   Fine, register-fine    each register is so
--   Turning, turning-sound, turning-on, turning-end   the loop over the turns
-- Assumes nothing.
use mathlib.Core.Path.{◌≡◌, refl, sym, ap, ap₂, ◌∙◌, subst}
use mathlib.Core.Bool.{Bool, true, false, cond}
use mathlib.Core.List.{List, [], ◌∷◌, map}
use Prim.Native.Nat.{ℕ, zero, suc, ◌+◌, ◌*◌, ◌≤◌, ◌<◌}
use native.Mathlib.Numerals.{add-one}
use native.Mathlib.Omega.{arith}
use lib.Bits.{bit_xor, xor_lt}
use lib.Dec.{eqb, ltb}
use lib.ListN.{length, get_or, take, replicate, length-map, length-take}
use Rattle.field.specs.Field.{field_at, mul, inverse}
use Rattle.field.proofs.Ring.{mul-lt, ring}
use Rattle.corrector_code.proofs.Eleven.{gen11}
use Rattle.algebra.specs.Polynomial.{add}
use Rattle.corrector_code.specs.Key.{Register, conv, shift, plus_times, mend, turn, register}
use Rattle.corrector_code.specs.Eleven.{F11}
use Rattle.corrector_locator.specs.Under.{Under, register_of, Sound}
use Rattle.corrector_locator.specs.declared.State.{State}
use Rattle.corrector_locator.proofs.Loops.{plus_times-long, plus_times-at}
open ring (field_at 11) gen11.monic use {mul-zero-r}

under-cons : (x : ℕ) (p : List ℕ) → x < 2048 → Under p → Under (x ∷ p)
under-cons x p h u zero = h
under-cons x p h u (suc k) = u k

under-take : (n : ℕ) (p : List ℕ) → Under p → Under (take n p)
under-take zero p u k = omega arith
under-take (suc n) [] u k = u k
under-take (suc n) (x ∷ p) u zero = u zero
under-take (suc n) (x ∷ p) u (suc k) = under-take n p (λ j. u (suc j)) k

under-map : (d : ℕ) (p : List ℕ) → Under (map (mul (field_at 11) d) p)
under-map d [] k = omega arith
under-map d (x ∷ p) zero = mul-lt (field_at 11) gen11.monic d x
under-map d (x ∷ p) (suc k) = under-map d p k

under-add : (p q : List ℕ) → Under p → Under q → Under (add F11 p q)
unfolding add
under-add [] q u v k = v k
under-add (x ∷ p) [] u v k = u k
under-add (x ∷ p) (y ∷ q) u v zero = xor_lt 11 x y (u zero) (v zero)
under-add (x ∷ p) (y ∷ q) u v (suc k) = under-add p q (λ j. u (suc j)) (λ j. v (suc j)) k

under-shift : (p : List ℕ) → Under p → Under (shift F11 p)
unfolding shift
under-shift p u = under-take (length p) (0 ∷ 0 ∷ p) (under-cons 0 (0 ∷ p) (omega arith) (under-cons 0 p (omega arith) u))

length_shift : (p : List ℕ) → length (shift F11 p) ≡ length p
unfolding shift
length_shift p = length-take (length p) (0 ∷ 0 ∷ p) ∙ omega arith

pub record Fine (m : ℕ) (r : Register ℕ) : Type 0 where
  pub below : Under r.locator
  pub below-spare : Under r.spare
  pub balance : r.low + r.high ≡ suc (2 * m)
  pub long : length r.locator ≡ 9
  pub long-spare : length r.spare ≡ 9
  pub first : get_or r.locator 0 0 ≡ 1
  pub clear : get_or r.spare 0 0 ≡ 0

shift-first : (p : List ℕ) → length p ≡ 9 → get_or (shift F11 p) 0 0 ≡ 0
unfolding shift
shift-first p e = ap (λ (n : ℕ). get_or (take n (0 ∷ 0 ∷ p)) 0 0) e

module _ {m : ℕ} {r : Register ℕ} (w : Fine m r) where
  quiet-fine : Fine (suc m) (record { locator = r.locator; spare = shift F11 r.spare; low = r.low; high = suc (suc r.high) })
  quiet-fine = record {
    below = w.below;
    below-spare = under-shift r.spare w.below-spare;
    balance = omega (arith, w.balance);
    long = w.long;
    long-spare = length_shift r.spare ∙ w.long-spare;
    first = w.first;
    clear = shift-first r.spare w.long-spare;
  }

  mend-fine : (d : ℕ) → Fine (suc m) (mend F11 d r)
  unfolding mend plus_times
  mend-fine d = go (ltb r.low r.high)
    where
      under-new : Under (plus_times F11 r.locator d r.spare)
      under-new = under-add r.locator (map (mul (field_at 11) d) r.spare) w.below (under-map d r.spare)

      long-new : length (plus_times F11 r.locator d r.spare) ≡ 9
      long-new = plus_times-long r.locator d r.spare (w.long ∙ sym w.long-spare) ∙ w.long

      first-new : get_or (plus_times F11 r.locator d r.spare) 0 0 ≡ 1
      first-new =
          plus_times-at r.locator d r.spare 0 (w.long ∙ sym w.long-spare) (let l = w.long in omega arith)
          ∙ ap₂ bit_xor w.first (ap (mul (field_at 11) d) w.clear ∙ mul-zero-r d)

      go : (b : Bool) → Fine (suc m) (cond b
          (record { locator = plus_times F11 r.locator d r.spare; spare = shift F11 (map (mul (field_at 11) (inverse (field_at 11) d)) r.locator); low = r.high; high = suc (suc r.low) })
          (record { locator = plus_times F11 r.locator d r.spare; spare = shift F11 r.spare; low = r.low; high = suc (suc r.high) }))
      go true = record {
        below = under-new;
        below-spare = under-shift (map (mul (field_at 11) (inverse (field_at 11) d)) r.locator) (under-map (inverse (field_at 11) d) r.locator);
        balance = omega (arith, w.balance);
        long = long-new;
        long-spare = length_shift (map (mul (field_at 11) (inverse (field_at 11) d)) r.locator) ∙ length-map r.locator (mul (field_at 11) (inverse (field_at 11) d)) ∙ w.long;
        first = first-new;
        clear = shift-first (map (mul (field_at 11) (inverse (field_at 11) d)) r.locator) (length-map r.locator (mul (field_at 11) (inverse (field_at 11) d)) ∙ w.long);
      }
      go false = record {
        below = under-new;
        below-spare = under-shift r.spare w.below-spare;
        balance = omega (arith, w.balance);
        long = long-new;
        long-spare = length_shift r.spare ∙ w.long-spare;
        first = first-new;
        clear = shift-first r.spare w.long-spare;
      }

  turn-fine : (s : ℕ → ℕ) → Fine (suc m) (turn F11 s m r)
  unfolding turn
  turn-fine s = go (eqb (conv F11 r.locator s (suc (2 * m))) 0)
    where
      go : (b : Bool) → Fine (suc m) (cond b (record { locator = r.locator; spare = shift F11 r.spare; low = r.low; high = suc (suc r.high) })
          (mend F11 (conv F11 r.locator s (suc (2 * m))) r))
      go true = quiet-fine
      go false = mend-fine (conv F11 r.locator s (suc (2 * m)))

zeros : (n : ℕ) → Under (replicate n 0)
zeros zero k = omega arith
zeros (suc n) zero = omega arith
zeros (suc n) (suc k) = zeros n k

pub register-fine : (s : ℕ → ℕ) (m : ℕ) → Fine m (register F11 8 s m)
unfolding register
register-fine s zero = record {
  below = under-cons 1 (replicate 8 0) (omega arith) (zeros 8);
  below-spare = under-take 9 (0 ∷ 1 ∷ replicate 8 0) (under-cons 0 (1 ∷ replicate 8 0) (omega arith) (under-cons 1 (replicate 8 0) (omega arith) (zeros 8)));
  balance = omega arith;
  long = refl;
  long-spare = refl;
  first = refl;
  clear = refl;
}
register-fine s (suc m) = turn-fine (register-fine s m) s

-- ---- the loop of `key`

pub record Turning (s : ℕ → ℕ) (t : ℕ) (r : State) (m : ℕ) : Type 0 where
  pub within : m ≤ t
  pub few : t < 9
  pub done : register_of r ≡ register F11 8 s m

pub turning-sound : {s : ℕ → ℕ} {t : ℕ} {r : State} {m : ℕ} → Turning s t r m → Sound r
turning-sound {s} {t} {r} {m} w =
    let f : Fine m (register_of r) = subst (Fine m) (sym w.done) (register-fine s m) in
    (f.below, f.below-spare, omega (arith, f.balance, w.within, w.few), omega (arith, f.balance, w.within, w.few), f.long)

pub turning-on : {s : ℕ → ℕ} {t : ℕ} {r : State} {m : ℕ} (n : State) → Turning s t r m → m < t → register_of n ≡ turn F11 s m (register_of r) → Turning s t n (m + 1)
unfolding register
turning-on {s} {t} {r} {m} n w h e = record {
  within = omega arith;
  few = w.few;
  done = e ∙ ap (turn F11 s m) w.done ∙ ap (register F11 8 s) (sym (add-one m));
}

pub turning-end : {s : ℕ → ℕ} {t : ℕ} {r : State} {m : ℕ} → Turning s t r m → t ≤ m → register_of r ≡ register F11 8 s t
turning-end {s} {t} {r} {m} w h = let e : m ≡ t = omega (arith, w.within) in w.done ∙ ap (register F11 8 s) e
