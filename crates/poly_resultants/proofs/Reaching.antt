-- Where a chain of maps ends: a tower of maps is additive, so that its values at 1, 2, 4, .. tell all.
--   tower-add        the tower of a sum is the sum of the towers
--   steady, under    tests that are computed
--   reaches          an additive map whose values at 1, 2, 4, .. are below 2^k has all its values there
--   chained          what passes the tests is a chain
--   chained-of       the chains of the known fields are;  chained-at  for every name of the field
-- Assumes nothing.
use mathlib.Core.Path.{◌≡◌, ◌∙◌, refl, sym, ap, ap₂, subst}
use mathlib.Core.Bool.{Bool, true, false, cond}
use mathlib.Core.List.{List, [], ◌∷◌}
use Prim.Native.Nat.{ℕ, zero, suc, ◌*◌, ◌/◌, ◌%◌, ◌^◌, ◌<◌}
use native.Mathlib.Nat.{zero-lt-suc, div-lt_iff_lt-mul, pow-suc}
use native.Mathlib.Omega.{arith}
use lib.Bits.{bit_xor, xor_lt}
use lib.Dec.{T, ltb, ltb→lt}
use lib.Pow.{pow_pos}
use Rattle.algebra.specs.Trial.{All}
use Rattle.field.specs.Rows.{known, poly_in}
use Rattle.field.specs.Field.{G, mul}
use Rattle.field.proofs.Known.{by_row, row4, row8, row11, listed}
use Rattle.field.proofs.Digits.{bit-cases}
use Rattle.field.proofs.Xor.{xor-digits}
use Rattle.field.proofs.Additive.{Additive, basis, additive-double, additive-zero}
use Rattle.poly_resultants.specs.Maps.{quad, tower}
use Rattle.poly_resultants.specs.Levels.{Fours}
use Rattle.poly_resultants.specs.Chains.{Chained, chain_of, end_of, chain4, chain8, chain11}
use Rattle.poly_resultants.proofs.Ring.{known-ring, square-add, add_left_comm}

-- ---- a tower is additive

module _ (m : ℕ) (k : known m ≡ true) where
  open known-ring m k use {add_assoc, mul-add}

  quad-add : (b : ℕ) → Additive (quad (G m) b)
  quad-add b x y =
      ap₂ bit_xor (square-add (known-ring m k) x y) (mul-add b x y) ∙ simp (add_assoc, add_left_comm (known-ring m k))

  pub tower-add : (bs : List ℕ) → Additive (tower (G m) bs)
  unfolding tower
  tower-add [] x y = refl
  tower-add (b ∷ bs) x y = ap (tower (G m) bs) (quad-add b x y) ∙ tower-add bs (quad (G m) b x) (quad (G m) b y)

-- ---- tests

-- both tests
both : (a b : Bool) → T (cond a b false) → T a × T b
both true b h = (tt, h)
both false b h = absurd h

-- from 1 on, and below q
unfoldable pub steady : ℕ → List ℕ → Bool
steady q [] = true
steady q (b ∷ s) = cond (ltb 0 b) (cond (ltb b q) (steady q s) false) false

from-steady : (q : ℕ) (s : List ℕ) → T (steady q s) → All (λ b. (0 < b) × (b < q)) s
unfolding steady
from-steady q [] h = tt
from-steady q (b ∷ s) h =
    let u = both (ltb 0 b) (cond (ltb b q) (steady q s) false) h in
    let v = both (ltb b q) (steady q s) u.1 in
    ((ltb→lt 0 b u.0, ltb→lt b q v.0), from-steady q s v.1)

-- all below q
unfoldable pub under : ℕ → List ℕ → Bool
under q [] = true
under q (v ∷ s) = cond (ltb v q) (under q s) false

-- ---- what an additive map takes the numbers below 2^n to

half_lt : {x : ℕ} (n : ℕ) → x < 2 ^ suc n → x / 2 < 2 ^ n
half_lt {x} n h = (div-lt_iff_lt-mul (zero-lt-suc 1)).1 (subst (λ (t : ℕ). x < t) (pow-suc 2 n) h)

pub reaches : (k n : ℕ) (f : ℕ → ℕ) → Additive f → T (under (2 ^ k) (basis f n)) → (x : ℕ) → x < 2 ^ n → f x < 2 ^ k
unfolding under basis
reaches k zero f a h x b =
    let e : x ≡ 0 = omega arith in
    subst (λ w. w < 2 ^ k) (sym (ap f e ∙ additive-zero f a)) (pow_pos k)
reaches k (suc n) f a h x b =
    let t = both (ltb (f 1) (2 ^ k)) (under (2 ^ k) (basis (λ y. f (y * 2)) n)) h in
    let i = reaches k n (λ y. f (y * 2)) (additive-double f a) t.1 (x / 2) (half_lt n b) in
    subst (λ w. w < 2 ^ k) (sym (ap f (sym (xor-digits x)) ∙ a (x % 2) (x / 2 * 2)))
    (xor_lt k (f (x % 2)) (f (x / 2 * 2))
    (bit-cases (λ d. f d < 2 ^ k) (subst (λ w. w < 2 ^ k) (sym (additive-zero f a)) (pow_pos k)) (ltb→lt (f 1) (2 ^ k) t.0) x) i)

-- what passes the tests is a chain
pub chained : (m k : ℕ) → known m ≡ true → (bs : List ℕ) → Fours m (2 ^ k) → T (steady (2 ^ m) bs) → T (under (2 ^ k) (basis (tower (G m) bs) m))
    → Chained m bs (2 ^ k)
chained m k d bs f s u = record {
  steps = from-steady (2 ^ m) bs s;
  fours = f;
  reach = λ x h. reaches k m (tower (G m) bs) (tower-add m d bs) u x h;
}

-- ---- the known fields

-- each, by its tests
pub chained-of : (m : ℕ) → known m ≡ true → Chained m (chain_of m) (end_of m)
unfolding under steady basis tower mul poly_in
chained-of m d =
    by_row (λ m p. Chained m (chain_of m) (end_of m))
    (chained 4 3 row4.degree chain4 (record { least = omega arith; fours = refl; within = omega arith }) tt tt)
    (chained 8 4 row8.degree chain8 (record { least = omega arith; fours = refl; within = omega arith }) tt tt)
    (chained 11 5 row11.degree chain11 (record { least = omega arith; fours = refl; within = omega arith }) tt tt) (listed m d)

-- whatever the field is called
pub chained-at : {m n e : ℕ} {bs : List ℕ} → m ≡ n → Chained n bs e → Chained m bs e
chained-at {e = e} {bs} q = subst (λ (i : ℕ). Chained i bs e) (sym q)
