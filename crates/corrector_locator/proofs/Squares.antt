-- The power sums from the odd ones, two places a turn.
--   Squaring, squaring-from, squaring-on, squaring-end   the loop;  odd-below  the odd place is written
-- Assumes nothing.
use mathlib.Core.Path.{◌≡◌, refl, sym, ap, ap₂, ◌∙◌, subst}
use mathlib.Core.Logic.{◌≢◌, ⊎_elim}
use mathlib.Core.List.{List}
use Prim.Native.Nat.{ℕ, zero, suc, ◌+◌, ◌*◌, ◌≤◌, ◌<◌}
use native.Mathlib.Nat.{eq-or-lt_of_le}
use native.Mathlib.Decide.{dec_lt}
use native.Mathlib.Omega.{arith}
use lib.ListN.{get_or, length, set, length-set, replicate}
use lib.Seq.{get_or-set_same, get_or-set_other}
use Rattle.field.specs.Field.{field_at, mul}
use Rattle.field.proofs.Ring.{mul-lt}
use Rattle.corrector_code.proofs.Eleven.{gen11}
use Rattle.corrector_locator.specs.Under.{Under, PowerSums}

pub record Squaring (odd s : List ℕ) (i : ℕ) : Type 0 where
  pub within : i ≤ 8
  pub long : length s ≡ 17
  pub first : get_or s 0 0 ≡ 1
  pub odd_is : (j : ℕ) → j < i → get_or s (suc (2 * j)) 0 ≡ get_or odd j 0
  pub even_is : (j : ℕ) → j < i → get_or s (suc (suc (2 * j))) 0 ≡ mul (field_at 11) (get_or s (suc j) 0) (get_or s (suc j) 0)
  pub below : Under s

ones_below : (n : ℕ) → Under (replicate n 1)
ones_below zero k = omega arith
ones_below (suc n) zero = omega arith
ones_below (suc n) (suc k) = ones_below n k

pub squaring-from : (odd : List ℕ) → Squaring odd (replicate 17 1) 0
squaring-from odd = record { within = omega arith; long = refl; first = refl; odd_is = λ j h. absurd (omega arith); even_is = λ j h. absurd (omega arith); below = ones_below 17 }

under-set : (s : List ℕ) (i v : ℕ) → i < length s → v < 2048 → Under s → Under (set s i v)
under-set s i v l h u k = go (dec_lt k i) (dec_lt i k)
  where
    go : Dec (k < i) → Dec (i < k) → get_or (set s i v) k 0 < 2048
    go (yes a) d = subst (λ (x : ℕ). x < 2048) (sym (get_or-set_other s i k v 0 (omega arith))) (u k)
    go (no a) (yes b) = subst (λ (x : ℕ). x < 2048) (sym (get_or-set_other s i k v 0 (omega arith))) (u k)
    go (no a) (no b) = let e : k ≡ i = omega arith in subst (λ (x : ℕ). x < 2048) (sym (ap (λ (n : ℕ). get_or (set s i v) n 0) e ∙ get_or-set_same s i v 0 l)) h

-- the odd place is written
pub odd-below : {odd s : List ℕ} {i : ℕ} → Squaring odd s i → i < 8 → Under odd → Under (set s (2 * i + 1) (get_or odd i 0))
odd-below {odd} {s} {i} w h o = under-set s (2 * i + 1) (get_or odd i 0) (let l = w.long in omega arith) (o i) w.below

pub squaring-on : {odd s : List ℕ} {i : ℕ} (v : ℕ) → Squaring odd s i → i < 8 → Under odd
    → v ≡ mul (field_at 11) (get_or (set s (2 * i + 1) (get_or odd i 0)) (i + 1) 0) (get_or (set s (2 * i + 1) (get_or odd i 0)) (i + 1) 0)
    → Squaring odd (set (set s (2 * i + 1) (get_or odd i 0)) (2 * i + 2) v) (i + 1)
squaring-on {odd} {s} {i} v w h o e = record {
  within = omega arith;
  long = length-set u (2 * i + 2) v ∙ long-u;
  first = far 0 (omega arith) (omega arith) ∙ w.first;
  odd_is = λ j l. ⊎_elim
      (λ q. let z : j ≡ i = omega (arith, q) in
      let n : suc (2 * j) ≡ 2 * i + 1 = omega arith in
      ap (λ (k : ℕ). get_or (set u (2 * i + 2) v) k 0) n ∙ get_or-set_other u (2 * i + 2) (2 * i + 1) v 0 (omega arith) ∙ get_or-set_same s (2 * i + 1) (get_or odd i 0) 0 (let g = w.long in omega arith)
      ∙ ap (λ (k : ℕ). get_or odd k 0) (sym z))
      (λ q. far (suc (2 * j)) (omega (arith, q)) (omega (arith, q)) ∙ w.odd_is j (omega (arith, q))) (eq-or-lt_of_le (let q : j ≤ i = omega arith in q));
  even_is = λ j l. ⊎_elim
      (λ q. let z : j ≡ i = omega (arith, q) in
      let n : suc (suc (2 * j)) ≡ 2 * i + 2 = omega arith in
      let m : i + 1 ≡ suc j = omega arith in
      let same : get_or u (i + 1) 0 ≡ get_or (set u (2 * i + 2) v) (suc j) 0 = sym (get_or-set_other u (2 * i + 2) (i + 1) v 0 (omega arith)) ∙ ap (λ (k : ℕ). get_or (set u (2 * i + 2) v) k 0) m in
      ap (λ (k : ℕ). get_or (set u (2 * i + 2) v) k 0) n ∙ get_or-set_same u (2 * i + 2) v 0 (let g = long-u in omega arith) ∙ e ∙ ap₂ (mul (field_at 11)) same same)
      (λ q. far (suc (suc (2 * j))) (omega (arith, q)) (omega (arith, q)) ∙ w.even_is j (omega (arith, q))
      ∙ ap₂ (mul (field_at 11)) (sym (far (suc j) (omega (arith, q)) (omega (arith, q)))) (sym (far (suc j) (omega (arith, q)) (omega (arith, q))))) (eq-or-lt_of_le (let q : j ≤ i = omega arith in q));
  below = under-set u (2 * i + 2) v (let g = long-u in omega arith) (subst (λ (x : ℕ). x < 2048) (sym e) (mul-lt (field_at 11) gen11.monic _ _)) (odd-below w h o);
}
  where
    u : List ℕ
    u = set s (2 * i + 1) (get_or odd i 0)

    long-u : length u ≡ 17
    long-u = length-set s (2 * i + 1) (get_or odd i 0) ∙ w.long

    far : (k : ℕ) → k ≢ 2 * i + 1 → k ≢ 2 * i + 2 → get_or (set u (2 * i + 2) v) k 0 ≡ get_or s k 0
    far k a b = get_or-set_other u (2 * i + 2) k v 0 b ∙ get_or-set_other s (2 * i + 1) k (get_or odd i 0) 0 a

pub squaring-end : {odd s : List ℕ} {i : ℕ} → Squaring odd s i → 8 ≤ i → PowerSums odd s
squaring-end {odd} {s} {i} w h =
    let m = w.within in
    record { long = w.long; first = w.first; odd_is = λ j l. w.odd_is j (omega arith); even_is = λ j l. w.even_is j (omega arith); below = w.below }
