-- Trace bits tell elements apart, since Tr(z) has lower degree than the field has elements.
--   SpansField     what holds of 0, of sums and of each element of the basis holds of every element
--   trace-monic    f + f^2 + f^4 + .. is monic where f is
--   fermat         x^(2^m) = x for every x where it holds for the elements of a basis
--   trace-nonzero  an element whose trace bits are all 0 is 0
--   trace-apart    no two elements have the same trace bits
-- Assumes nothing.
use mathlib.Core.Path.{◌∙◌, ◌≡◌, ap, ap₂, sym}
use mathlib.Core.Logic.{◌≢◌, ◌⊎◌, inl, inr}
use mathlib.Core.List.{List, [], ◌∷◌}
use Prim.Native.Nat.{◌*◌, ◌+◌, ◌<◌, ◌^◌, ◌≤◌, suc, zero, ℕ}
use native.Mathlib.Nat.{mul-le-mul_left, mul-one as mul-one-nat, pow-suc}
use native.Mathlib.Omega.{arith}
use lib.Pow.{pow_pos}
use lib.ListN.{length}
use Rattle.algebra.specs.Field.{Laws, Ops, squared, trace}
use Rattle.algebra.specs.Trial.{All, Distinct}
use Rattle.algebra.specs.Polynomial.{coef, eval, linear, mul, trace_poly}
use Rattle.algebra.proofs.Elements.{add-mul, equal-of-sum, squared-add, squared-zero, zero-mul, zero?}
use Rattle.algebra.proofs.Series.{nought, nought-plus, plus_comm}
use Rattle.algebra.proofs.Coefficients.{coef-add, coef-mul}
use Rattle.algebra.proofs.Evaluation.{eval-linear, eval-trace_poly}
use Rattle.algebra.proofs.Degree.{Monic, monic-list, monic-times, plus-top}
use Rattle.algebra.proofs.Factors.{roots-at-most}
use Rattle.algebra.proofs.Trace.{trace-add, trace-zero}

-- what holds of 0, of sums and of each element of the basis holds of every element
abbrev pub SpansField : {K : Type 0} (F : Ops K) (n : ℕ) → ((i : ℕ) → i < n → K) → Type 1
SpansField {K} F n basis =
    (Q : K → Type 0) → Q F.zero → ((x y : K) → Q x → Q y → Q (F.add x y)) → ((i : ℕ) (h : i < n) → Q (basis i h)) → (y : K) → Q y

module _ {K : Type 0} {F : Ops K} (L : Laws F) where
  infixl 60 ◌⊕◌
  infixl 70 ◌⊗◌
  open F use {zero as 0#, one as 1#, add as ◌⊕◌, mul as ◌⊗◌}
  open L use {zero-add, add-self, mul_comm, mul_assoc, one-mul, mul-add, mul-inv, one≢zero}

  higher : (n j : ℕ) → 0 < n → n < n * 2 ^ suc j
  higher n j h = rw pow-suc (omega (arith, mul-le-mul_left n (pow_pos j)))

  trace-monic : (j : ℕ) (f : List K) {n : ℕ} → 0 < n → Monic F (coef F f) n → Monic F (coef F (trace_poly F (suc j) f)) (n * 2 ^ j)
  unfolding trace_poly
  trace-monic zero f {n} h t = rw (coef-add L f [], plus_comm L (coef F f) (nought F), nought-plus L, mul-one-nat) t
  trace-monic (suc j) f {n} h t =
      let e : (n + n) * 2 ^ j ≡ n * 2 ^ suc j = rw pow-suc (omega arith) in
      let rest : Monic F (coef F (trace_poly F (suc j) (mul F f f))) (n * 2 ^ suc j) =
      rw e at (trace-monic j (mul F f f) {n = n + n} (omega arith) (rw (coef-mul L f f) (monic-times L t t))) in
      rw (coef-add L f (trace_poly F (suc j) (mul F f f)), plus_comm L (coef F f) (coef F (trace_poly F (suc j) (mul F f f))))
      (plus-top L rest t (higher n j h))

  module _ (n : ℕ) (basis : (i : ℕ) → i < n → K) (spans : SpansField F n basis) where
    -- x^(2^m) = x for every x where it holds for the elements of a basis: a test of n elements shows it for the field
    pub fermat : (m : ℕ) → ((i : ℕ) (h : i < n) → squared F m (basis i h) ≡ basis i h) → (x : K) → squared F m x ≡ x
    fermat m = spans (λ x. squared F m x ≡ x) (squared-zero L m) (λ x y a b. squared-add L m x y ∙ ap₂ ◌⊕◌ a b)

    -- an element whose trace bits are all 0 is 0: otherwise Tr would be 0 everywhere
    pub trace-nonzero : (m : ℕ) (all : List K) → Distinct all → length all ≡ 2 ^ suc m → (x : K)
        → ((i : ℕ) (h : i < n) → trace F (suc m) (basis i h ⊗ x) ≡ 0#) → x ≡ 0#
    trace-nonzero m all d q x h = go (zero? L x)
      where
        every : (y : K) → trace F (suc m) (y ⊗ x) ≡ 0#
        every = spans (λ y. trace F (suc m) (y ⊗ x) ≡ 0#) (ap (trace F (suc m)) (zero-mul L x) ∙ trace-zero L (suc m))
            (λ y z a b. ap (trace F (suc m)) (add-mul L y z x) ∙ trace-add L (suc m) (y ⊗ x) (z ⊗ x) ∙ ap₂ ◌⊕◌ a b ∙ zero-add 0#) h

        roots : x ≢ 0# → (l : List K) → All (λ r. eval F (trace_poly F (suc m) (linear F 0#)) r ≡ 0#) l
        roots e [] = tt
        roots e (r ∷ l) = (
          eval-trace_poly L (suc m) (linear F 0#) r ∙ ap (trace F (suc m)) (eval-linear L 0# r ∙ zero-add r
              ∙ sym (mul_assoc r (F.inv x) x ∙ ap (λ w. r ⊗ w) (mul_comm (F.inv x) x ∙ mul-inv x e) ∙ mul_comm r 1# ∙ one-mul r)) ∙ every (r ⊗ F.inv x),
          roots e l,
        )

        go : (x ≡ 0#) ⊎ (x ≢ 0#) → x ≡ 0#
        go (inl z) = z
        go (inr e) =
            let t : Monic F (coef F (trace_poly F (suc m) (linear F 0#))) (1 * 2 ^ m) = trace-monic m (linear F 0#) (omega arith) (monic-list L (0# ∷ [])) in
            let few : length all ≤ 1 * 2 ^ m = roots-at-most L all (trace_poly F (suc m) (linear F 0#)) d (roots e all) t one≢zero in
            absurd (omega (arith, few, q, pow_pos m))

    -- so no two elements have the same trace bits
    pub trace-apart : (m : ℕ) (all : List K) → Distinct all → length all ≡ 2 ^ suc m → (x y : K)
        → ((i : ℕ) (h : i < n) → trace F (suc m) (basis i h ⊗ x) ≡ trace F (suc m) (basis i h ⊗ y)) → x ≡ y
    trace-apart m all d q x y h =
        equal-of-sum L x y (trace-nonzero m all d q (x ⊕ y) λ i l.
        ap (trace F (suc m)) (mul-add (basis i l) x y) ∙ trace-add L (suc m) (basis i l ⊗ x) (basis i l ⊗ y)
        ∙ ap (λ w. w ⊕ trace F (suc m) (basis i l ⊗ y)) (h i l) ∙ add-self (trace F (suc m) (basis i l ⊗ y)))
