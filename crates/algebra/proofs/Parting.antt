-- A product over two distinct roots or more parts at some level below m. So a factor of degree 3 comes down to degrees
-- 1 and 2 with no element tried: take its part that splits (`roots_of-begin`), then the first level whose gcd is
-- neither 1 nor all of it; the roots are those of the two parts (`roots_of-parts`).
--   keep_some      a test that some element passes keeps something
--   keep-fewer     a test that some element fails does not keep all
--   parting-level  THE LEVEL: some i below m at which gcd with Tr(2^i z) is neither 1 nor all
--   parting-roots  so of a polynomial with two roots or more, for its part that splits
-- Assumes nothing.
use mathlib.Core.Path.{◌∙◌, ◌≡◌, ap, refl, subst, sym}
use mathlib.Core.Logic.{◌≢◌, ◌⊎◌, inl, inr, ⊎_elim}
use mathlib.Core.Bool.{Bool, cond, false, not, true}
use mathlib.Core.List.Memᴰ
use mathlib.Core.List.{List, Memᴰ, [], ◌∷◌}
use Prim.Native.Nat.{◌<◌, ◌^◌, ◌≤◌, suc, zero, ℕ}
use native.Mathlib.Nat.{eq-or-lt_of_le, le_of_suc-le-suc, not-suc-le-zero}
use native.Mathlib.Omega.{arith}
use lib.Pow.{pow-lt}
use lib.Bits.{bit_xor}
use lib.Dec.{T}
use lib.ListN.{length}
use Rattle.algebra.specs.Field.{OnNumbers, Ops, squared, trace}
use Rattle.algebra.specs.Trial.{Distinct, keep}
use Rattle.algebra.specs.Polynomial.{Below, field_poly, roots_of, trace_of}
use Rattle.algebra.specs.Routines.{gcd, monic, monic_roots}
use Rattle.algebra.proofs.Trial.{kept-member, length-keep}
use Rattle.algebra.proofs.Lengths.{length-monic_roots}
use Rattle.algebra.proofs.StaysBelow.{roots_of-below}
use Rattle.algebra.proofs.RootList.{roots_of-distinct}
use Rattle.algebra.proofs.NumberSteps as S
use Rattle.algebra.proofs.NumberTrace as R

-- a test that some element passes keeps something
pub keep_some : {A : Type 0} (t : A → Bool) (s : List A) {x : A} → Memᴰ x s → T (t x) → 0 < length (keep t s)
keep_some {A} t s {x} m h = go (keep t s) ((kept-member t s).1 (m, h))
  where
    go : (l : List A) → Memᴰ x l → 0 < length l
    go [] k = absurd (Memᴰ.not-nil k)
    go (y ∷ l) k = omega arith

-- a test that some element fails does not keep all
pub keep-fewer : {A : Type 0} (t : A → Bool) (s : List A) {x : A} → Memᴰ x s → (T (t x) → ⊥) → length (keep t s) < length s
keep-fewer t [] m h = absurd (Memᴰ.not-nil m)
keep-fewer {A} t (y ∷ s) {x} m h = ⊎_elim (λ e. first (t y) (λ k. h (subst (λ z. T (t z)) (sym e) k))) (λ i. later (t y) (keep-fewer t s i h)) (Memᴰ.cases_cons m)
  where
    first : (b : Bool) → (T b → ⊥) → length (cond b (y ∷ keep t s) (keep t s)) < suc (length s)
    first true k = absurd (k tt)
    first false k = omega (arith, length-keep t s)

    later : (b : Bool) → length (keep t s) < length s → length (cond b (y ∷ keep t s) (keep t s)) < suc (length s)
    later true l = omega arith
    later false l = omega arith

true-is : (b : Bool) → T b → b ≡ true
true-is true t = refl
true-is false t = absurd t

flip : (b : Bool) → false ≡ not b → b ≡ true
flip true e = refl
flip false e = e

-- two runs of tests agree or differ somewhere
differ? : (a b : ℕ → Bool) (n : ℕ) → ((i : ℕ) → i < n → a i ≡ b i) ⊎ ((i : ℕ) × (i < n) × (a i ≡ not (b i)))
differ? a b zero = inl (λ i l. absurd (not-suc-le-zero l))
differ? a b (suc n) = go (differ? a b n) (bool (a n) (b n))
  where
    bool : (c d : Bool) → (c ≡ d) ⊎ (c ≡ not d)
    bool true true = inl refl
    bool true false = inr refl
    bool false true = inr refl
    bool false false = inl refl

    go : ((i : ℕ) → i < n → a i ≡ b i) ⊎ ((i : ℕ) × (i < n) × (a i ≡ not (b i))) → (a n ≡ b n) ⊎ (a n ≡ not (b n))
        → ((i : ℕ) → i < suc n → a i ≡ b i) ⊎ ((i : ℕ) × (i < suc n) × (a i ≡ not (b i)))
    go (inr w) e = inr (w.0, omega (arith, w.1), w.2)
    go (inl h) (inr e) = inr (n, omega arith, e)
    go (inl h) (inl e) = inl (λ i l. ⊎_elim (λ z. subst (λ k. a k ≡ b k) (sym z) e) (λ g. h i g) (eq-or-lt_of_le (le_of_suc-le-suc l)))

module _ {G : Ops ℕ} {q : ℕ} (N : OnNumbers G q) (m : ℕ) (size : q ≡ 2 ^ m) (zero_is : G.zero ≡ 0) (add_is : (x y : ℕ) → G.add x y ≡ bit_xor x y) (positive : 0 < m)
    (fermat : (x : ℕ) → x < q → squared G m x ≡ x) where
  -- does r pass the test at level i?
  abbrev test : ℕ → ℕ → Bool
  test i r = G.is_zero (trace G m (G.mul (2 ^ i) r))

  abbrev pub Parts : List ℕ → ℕ → Type 0
  Parts p i = (0 < length (gcd G p (trace_of G m (2 ^ i)))) × (length (gcd G p (trace_of G m (2 ^ i))) < length p)

  level-of : (x y : ℕ) → x < q → y < q → x ≢ y → (i : ℕ) × (i < m) × (test i x ≡ not (test i y))
  level-of x y hx hy n = ⊎_elim (λ h. absurd (n (R.tests-apart N m size zero_is add_is positive fermat x y hx hy h))) (λ w. w) (differ? (λ i. test i x) (λ i. test i y) m)

  -- THE LEVEL: some i below m at which gcd with Tr(2^i z) is neither 1 nor all
  pub parting-level : (s : List ℕ) → Below q s → Distinct s → 2 ≤ length s → (i : ℕ) × (i < m) × Parts (monic_roots G s) i
  parting-level [] h d l = absurd (omega arith)
  parting-level (x ∷ []) h d l = absurd (omega arith)
  parting-level (x ∷ y ∷ r) h d l = go (level-of x y h.0 h.1.0 d.0.0)
    where
      s : List ℕ
      s = x ∷ y ∷ r

      go : (i : ℕ) × (i < m) × (test i x ≡ not (test i y)) → (i : ℕ) × (i < m) × Parts (monic_roots G s) i
      go w =
          let i : ℕ = w.0 in
          let e : length (gcd G (monic_roots G s) (trace_of G m (2 ^ i))) ≡ length (keep (test i) s) =
          ap length (S.step-gcd N m (2 ^ i) (rw size (pow-lt w.1)) s h d) ∙ length-monic_roots G (keep (test i) s) in
          let k = both (test i x) (test i y) refl refl w.2 in
          (i, w.1, (omega (arith, e, k.0), omega (arith, e, k.1, length-monic_roots G s)))
        where
          both : (a b : Bool) → test w.0 x ≡ a → test w.0 y ≡ b → a ≡ not b → (0 < length (keep (test w.0) s)) × (length (keep (test w.0) s) < length s)
          both true b ex ey n = (
            keep_some (test w.0) s (Memᴰ.head refl) (subst T (sym ex) tt),
            keep-fewer (test w.0) s (Memᴰ.tail (Memᴰ.head refl)) (λ t. let z : true ≡ false = n ∙ ap not (sym ey ∙ true-is (test w.0 y) t) in subst T z tt),
          )
          both false b ex ey n = (
            keep_some (test w.0) s (Memᴰ.tail (Memᴰ.head refl)) (subst T (sym (ey ∙ flip b n)) tt),
            keep-fewer (test w.0) s (Memᴰ.head refl) (λ t. subst T ex t),
          )

  -- the part of monic p that splits, as long as there are roots
  pub parting-roots : (p : List ℕ) → Below q p → 1 < q → 2 ≤ length (gcd G p (field_poly G m)) → (i : ℕ) × (i < m) × Parts (gcd G p (field_poly G m)) i
  parting-roots p h wide l =
      let s : List ℕ = roots_of G q (monic G p) in
      let e : gcd G p (field_poly G m) ≡ monic_roots G s = S.begin-gcd N m size wide fermat p h in
      let n : 2 ≤ length s = omega (arith, ap length e, length-monic_roots G s) in
      subst (λ g. (i : ℕ) × (i < m) × Parts g i) (sym e) (parting-level s (roots_of-below G q (monic G p)) (roots_of-distinct G q (monic G p)) n)
