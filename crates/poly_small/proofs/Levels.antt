-- The search for a level that parts a cubic.
--   SeekingLevel                 what holds at each turn: no earlier level parts it
--   seek-level-from, seek-level-asks, seek-level-found, seek-level-on   the start, what a turn asks, its end and its
--   going on
--   seek-level-never              past the last level there is nothing to find
-- Assumes nothing.
use mathlib.Core.Path.{◌≡◌, refl, sym, ap, ◌∙◌, subst}
use mathlib.Core.Logic.{◌≢◌, ⊎_elim}
use mathlib.Core.List.{List}
use Prim.Native.Nat.{ℕ, ◌+◌, ◌*◌, ◌^◌, ◌≤◌, ◌<◌}
use native.Mathlib.Nat.{not-suc-le-zero, eq-or-lt_of_le, pow-suc}
use native.Mathlib.Numerals.{add-one}
use native.Mathlib.Omega.{arith}
use lib.Pow.{pow-lt}
use lib.ListN.{length, take}
use lib.Seq.{length-take-le}
use Rattle.algebra.specs.Polynomial.{trace_of}
use Rattle.algebra.specs.Routines.{gcd}
use Rattle.field.specs.Field.{G}
use Rattle.poly_small.specs.Parting.{Cubic, GcdOf, Parts, CubicPartable, CubicParted}

-- b is 2^i, and no level below i parts the cubic
pub record SeekingLevel (m : ℕ) (p g₀ g : List ℕ) (b i : ℕ) : Type 0 where
  pub long : length g ≡ length g₀
  pub within : i ≤ m
  pub power : b ≡ 2 ^ i
  pub none : (j : ℕ) → j < i → Parts m p j → ⊥

-- at level 0 there is none earlier
pub seek-level-from : (m : ℕ) (p g : List ℕ) → SeekingLevel m p g g 1 0
seek-level-from m p g = record { long = refl; within = omega arith; power = refl; none = λ j l. absurd (not-suc-le-zero l) }

module _ {m : ℕ} {p g₀ g : List ℕ} {b i : ℕ} (a : CubicPartable m p g₀) (s : SeekingLevel m p g₀ g b i) where
  -- what a turn asks
  pub seek-level-asks : i < m → Cubic m p g × (b < 2 ^ m)
  seek-level-asks h = (
    record { small = a.cubic.small; three = a.cubic.three; room = omega (arith, a.cubic.room, s.long) },
    subst (λ n. n < 2 ^ m) (sym s.power) (pow-lt h),
  )

  -- a level that parts the cubic is found
  pub seek-level-found : {n k : ℕ} {g' : List ℕ} → i < m → 0 < k → k < 3 → n ≡ k → GcdOf m p (trace_of (G m) m b) n g' → CubicParted m p k g'
  seek-level-found {g' = g'} h u v e d =
      record { level = i; below = pow-lt h; least = u; less = v; low = ap (λ k. take k g') (sym e) ∙ d.low ∙ ap (λ k. gcd (G m) p (trace_of (G m) m k)) s.power }

  -- the gcd is as long as it was said to be
  gcd-long : {n : ℕ} {g' : List ℕ} → length g' ≡ length g → GcdOf m p (trace_of (G m) m b) n g' → length (gcd (G m) p (trace_of (G m) m (2 ^ i))) ≡ n
  gcd-long {n} {g'} l d =
      ap (λ k. length (gcd (G m) p (trace_of (G m) m k))) (sym s.power) ∙ sym (ap length d.low)
      ∙ length-take-le n g' (omega (arith, d.count, s.long, a.cubic.room))

  -- a level that does not part it is passed
  pub seek-level-on : {n : ℕ} {g' : List ℕ} → i < m → length g' ≡ length g → GcdOf m p (trace_of (G m) m b) n g' → n ≢ 1 → n ≢ 2 → SeekingLevel m p g₀ g' (b * 2) (i + 1)
  seek-level-on {n} {g'} h l d x y =
      let e = gcd-long l d in
      let not-here : Parts m p i → ⊥ = λ k. omega (arith, k.least, k.less, a.cubic.three, d.count) in
      record {
        long = l ∙ s.long;
        within = omega arith;
        power = ap (λ k. k * 2) s.power ∙ sym (ap (λ k. 2 ^ k) (add-one i) ∙ pow-suc 2 i);
        none = λ j k t.
            let u : j ≤ i = omega arith in
            ⊎_elim (λ z. not-here (subst (Parts m p) z t)) (λ z. s.none j z t) (eq-or-lt_of_le u);
      }

  -- some level parts it, so that the levels do not end
  pub seek-level-never : m ≤ i → ⊥
  seek-level-never h = s.none a.level (omega (arith, a.parts.level)) a.parts
