-- A turn of the elimination, on the vectors as a sequence v. A is the additive map whose digits the rows hold.
--   Projects    THE INVARIANT: behind i turns the vectors' images have no digit below i; each is 0 or has its leading
--               digit at its own place, where no other vector that is not 0 has a digit; and the sum of the vectors over
--               the digits of x is x, for every x whose image has no digit below i
--   units-project   it holds of the powers of two
--   turn-pivot, turn-none   a turn with a pivot, and one without
-- Assumes nothing.
use mathlib.Core.Path.{◌≡◌, sym, ap, ap₂, ◌∙◌, subst}
use mathlib.Core.Logic.{◌⊎◌, inl, inr, ⊎_elim}
use Prim.Native.Nat.{ℕ, suc, ◌*◌, ◌/◌, ◌%◌, ◌^◌, ◌≤◌, ◌<◌}
use native.Mathlib.Nat.{zero-mul, one-mul, mul-zero, mul-one, pow-succ', mod-eq_of_lt, div_self, div-eq_of_lt, div-lt_iff_lt-mul, eq-or-lt_of_le, zero-div, le_of_suc-le-suc}
use native.Mathlib.Decide.{dec_lt, dec_le, ℕ_discrete}
use native.Mathlib.Omega.{arith}
use lib.Bits.{bit_xor, xor_self, xor_zero_r, xor_shr}
use lib.Pow.{pow_pos, pow_mono}
use Rattle.field.proofs.Digits.{digit-mul-le}
use Rattle.field.proofs.Additive.{Additive, additive-zero}
use Rattle.find_affine.proofs.Maps.{digit_of, digit-xor, digit-power, composed, sum_over, sum_over-map, sum_over-same, sum_over-powers, sweep, sweep-additive, map-sweep}

pub record Projects (A : ℕ → ℕ) (m i : ℕ) (v : ℕ → ℕ) : Type 0 where
  pub dead : (k j : ℕ) → k < i → digit_of k (A (v j)) ≡ 0
  pub lead : (j : ℕ) → (v j ≡ 0) ⊎ (v j / 2 ^ j ≡ 1)
  pub apart : (j l : ℕ) → j < l → (v j ≡ 0 → ⊥) → digit_of j (v l) ≡ 0
  pub fixes : (x : ℕ) → x < 2 ^ suc m → ((k : ℕ) → k < i → digit_of k (A x) ≡ 0) → sum_over (suc m) v x ≡ x

-- a vector is below the powers of two above its place
pub lead-lt : {a : ℕ} (j l : ℕ) → (a ≡ 0) ⊎ (a / 2 ^ j ≡ 1) → j < l → a < 2 ^ l
lead-lt {a} j l (inl e) h = let p = pow_pos l in omega arith
lead-lt {a} j l (inr e) h =
    let b : a < 2 * 2 ^ j = (div-lt_iff_lt-mul (pow_pos j)).0 (let c : a / 2 ^ j < 2 = omega arith in c) in
    let p : 2 ^ suc j ≤ 2 ^ l = pow_mono h in
    omega (arith, pow-succ' 2 j)

-- ---- the start

-- the powers of two up to 2^m, then zeros
pub units-project : (A : ℕ → ℕ) (m : ℕ) (v : ℕ → ℕ) → ((j : ℕ) → j ≤ m → v j ≡ 2 ^ j) → ((j : ℕ) → m < j → v j ≡ 0) → Projects A m 0 v
units-project A m v u z = record {
  dead = λ k j h. absurd (let b : ⊥ = omega arith in b);
  lead = λ j. lead j (dec_le j m);
  apart = λ j l h n. apart j l h (dec_le l m);
  fixes = λ x h d. sum_over-same (suc m) v (λ j. 2 ^ j) x (λ j l. u j (le_of_suc-le-suc l)) ∙ sum_over-powers (suc m) x ∙ mod-eq_of_lt h;
}
  where
    lead : (j : ℕ) → Dec (j ≤ m) → (v j ≡ 0) ⊎ (v j / 2 ^ j ≡ 1)
    lead j (yes h) = inr (ap (λ a. a / 2 ^ j) (u j h) ∙ div_self (pow_pos j))
    lead j (no h) = inl (z j (omega arith))

    apart : (j l : ℕ) → j < l → Dec (l ≤ m) → digit_of j (v l) ≡ 0
    apart j l h (yes b) = ap (digit_of j) (u l b) ∙ digit-power j l h
    apart j l h (no b) = ap (digit_of j) (z l (omega arith)) ∙ ap (λ a. a % 2) (zero-div (2 ^ j))

-- ---- a turn

-- digit k of A
pub digit-of : (A : ℕ → ℕ) → Additive A → (k : ℕ) → Additive (λ x. digit_of k (A x))
digit-of A add k = composed A (digit_of k) add (digit-xor k)

module _ (A : ℕ → ℕ) (add : Additive A) {m i : ℕ} {v w : ℕ → ℕ} (s : Projects A m i v) where
  -- a row without a bit
  pub turn-none : ((j : ℕ) → digit_of i (A (v j)) ≡ 0) → ((j : ℕ) → w j ≡ v j) → Projects A m (suc i) w
  turn-none z e = record {
    dead = λ k j h. ap (λ a. digit_of k (A a)) (e j) ∙ dead k j (eq-or-lt_of_le (le_of_suc-le-suc h));
    lead = λ j. subst (λ a. (a ≡ 0) ⊎ (a / 2 ^ j ≡ 1)) (sym (e j)) (s.lead j);
    apart = λ j l h n. ap (digit_of j) (e l) ∙ s.apart j l h (λ q. n (e j ∙ q));
    fixes = λ x h d. sum_over-same (suc m) w v x (λ j l. e j) ∙ s.fixes x h (λ k l. d k (omega arith));
  }
    where
      dead : (k j : ℕ) → (k ≡ i) ⊎ (k < i) → digit_of k (A (v j)) ≡ 0
      dead k j (inl q) = ap (λ n. digit_of n (A (v j))) q ∙ z j
      dead k j (inr h) = s.dead k j h

  -- a row whose lowest bit is at p
  module _ (p : ℕ) (one : digit_of i (A (v p)) ≡ 1) (below : (j : ℕ) → j < p → digit_of i (A (v j)) ≡ 0) (e : (j : ℕ) → w j ≡ sweep A i (v p) (v j)) where
    swept-zero : (j : ℕ) → v j ≡ 0 → w j ≡ 0
    swept-zero j z = e j ∙ ap (sweep A i (v p)) z ∙ additive-zero (sweep A i (v p)) (sweep-additive A add i (v p))

    swept-out : w p ≡ 0
    swept-out = e p ∙ ap (λ d. bit_xor (v p) (d * v p)) one ∙ ap (bit_xor (v p)) (one-mul (v p)) ∙ xor_self (v p)

    swept-below : (j : ℕ) → j < p → w j ≡ v j
    swept-below j h = e j ∙ ap (λ d. bit_xor (v j) (d * v p)) (below j h) ∙ ap (bit_xor (v j)) (zero-mul (v p)) ∙ xor_zero_r (v j)

    dead : (k j : ℕ) → (k ≡ i) ⊎ (k < i) → digit_of k (A (w j)) ≡ 0
    dead k j (inl q) =
        ap (λ n. digit_of n (A (w j))) q ∙ ap (λ a. digit_of i (A a)) (e j) ∙ map-sweep A (λ x. digit_of i (A x)) (digit-of A add i) i (v p) (v j)
        ∙ ap (λ d. bit_xor (digit_of i (A (v j))) (digit_of i (A (v j)) * d)) one ∙ ap (bit_xor (digit_of i (A (v j)))) (mul-one (digit_of i (A (v j))))
        ∙ xor_self (digit_of i (A (v j)))
    dead k j (inr h) =
        ap (λ a. digit_of k (A a)) (e j) ∙ map-sweep A (λ x. digit_of k (A x)) (digit-of A add k) i (v p) (v j)
        ∙ ap₂ (λ a b. bit_xor a (digit_of i (A (v j)) * b)) (s.dead k j h) (s.dead k p h) ∙ ap (bit_xor 0) (mul-zero (digit_of i (A (v j))))

    -- above p the leading digit stays
    keeps : (j : ℕ) → p < j → w j / 2 ^ j ≡ v j / 2 ^ j
    keeps j h =
        let d = digit_of i (A (v j)) * v p in
        let b : v p < 2 ^ j = lead-lt p j (s.lead p) h in
        let c : d < 2 ^ j = omega (arith, digit-mul-le (A (v j) / 2 ^ i) (v p)) in
        ap (λ a. a / 2 ^ j) (e j) ∙ xor_shr (v j) d j ∙ ap (bit_xor (v j / 2 ^ j)) (div-eq_of_lt c) ∙ xor_zero_r (v j / 2 ^ j)

    lead : (j : ℕ) → Dec (j < p) → Dec (j ≡ p) → (w j ≡ 0) ⊎ (w j / 2 ^ j ≡ 1)
    lead j (yes h) q = subst (λ a. (a ≡ 0) ⊎ (a / 2 ^ j ≡ 1)) (sym (swept-below j h)) (s.lead j)
    lead j (no h) (yes q) = inl (ap w q ∙ swept-out)
    lead j (no h) (no q) = ⊎_elim (λ z. inl (swept-zero j z)) (λ o. inr (keeps j (omega arith) ∙ o)) (s.lead j)

    -- the pivot's vector has no digit at the place of another
    pivot-apart : (j : ℕ) → (v j ≡ 0 → ⊥) → Dec (j < p) → (j ≡ p → ⊥) → digit_of j (v p) ≡ 0
    pivot-apart j n (yes h) q = s.apart j p h n
    pivot-apart j n (no h) q = ap (λ a. a % 2) (div-eq_of_lt (lead-lt p j (s.lead p) (let l : p < j = omega arith in l)))

    apart : (j l : ℕ) → j < l → (w j ≡ 0 → ⊥) → digit_of j (w l) ≡ 0
    apart j l h n =
        let o : v j ≡ 0 → ⊥ = λ z. n (swept-zero j z) in
        ap (digit_of j) (e l) ∙ map-sweep A (digit_of j) (digit-xor j) i (v p) (v l)
        ∙ ap₂ (λ a b. bit_xor a (digit_of i (A (v l)) * b)) (s.apart j l h o) (pivot-apart j o (dec_lt j p) (λ q. n (ap w q ∙ swept-out)))
        ∙ ap (bit_xor 0) (mul-zero (digit_of i (A (v l))))

    fixes : (x : ℕ) → x < 2 ^ suc m → ((k : ℕ) → k < suc i → digit_of k (A x) ≡ 0) → sum_over (suc m) w x ≡ x
    fixes x h d =
        sum_over-same (suc m) w (λ j. sweep A i (v p) (v j)) x (λ j l. e j) ∙ sym (sum_over-map (sweep A i (v p)) (sweep-additive A add i (v p)) (suc m) v x)
        ∙ ap (sweep A i (v p)) (s.fixes x h (λ k l. d k (omega arith))) ∙ ap (λ b. bit_xor x (b * v p)) (d i (omega arith))
        ∙ ap (bit_xor x) (zero-mul (v p)) ∙ xor_zero_r x

    pub turn-pivot : Projects A m (suc i) w
    turn-pivot = record {
      dead = λ k j h. dead k j (eq-or-lt_of_le (le_of_suc-le-suc h));
      lead = λ j. lead j (dec_lt j p) (ℕ_discrete j p);
      apart = apart;
      fixes = fixes;
    }
