-- The factor theorem, and what follows for products over distinct roots.
--   factor           where f(r) = 0, z + r divides f
--   factor-root      and only there
--   roots-divide     distinct roots of f together divide f
--   roots-at-most    a nonzero polynomial of degree n has at most n roots
--   from_roots-monic  a product over n roots is monic of degree n
--   monic-roots      the product over roots, held by the list `monic_roots`
--   root-member      the elements of s are roots of the product over s
--   member-root      and it has no others
-- Assumes nothing.
use mathlib.Core.Path.{◌∙◌, ◌≡◌, ap, fun_ext, refl, subst, sym}
use mathlib.Core.Logic.{◌≢◌, ◌⊎◌, inl, inr}
use mathlib.Core.List.Memᴰ
use mathlib.Core.List.{List, Memᴰ, [], ◌++◌, ◌∷◌}
use Prim.Native.Nat.{◌+◌, ◌≤◌, suc, zero, ℕ}
use native.Mathlib.Omega.{arith}
use lib.ListN.{length, take}
use lib.Seq.{take_all, take-suc}
use Rattle.algebra.specs.Field.{Laws, Ops}
use Rattle.algebra.specs.Trial.{All, Distinct}
use Rattle.algebra.specs.Polynomial.{coef, eval, from_roots, linear}
use Rattle.algebra.specs.Routines.{monic, monic_roots}
use Rattle.algebra.proofs.Elements.{add_back, add-zero, equal-of-sum, mul-zero, zero-mul, zero-of-product, zero?}
use Rattle.algebra.proofs.Series.{Series, starting_with, starting_with-times, nought, plus, scale, times-comm, times-unit, unit}
use Rattle.algebra.proofs.Coefficients.{coef-cons, coef-mul}
use Rattle.algebra.proofs.Evaluation.{eval-linear, eval_mul, eval-multiple}
use Rattle.algebra.proofs.Degree.{Monic, Top, monic-list, monic-times, quotient-top}
use Rattle.algebra.proofs.Lengths.{length-from_roots}
use Rattle.algebra.proofs.Divisibility.{divides-product, divides-multiple, one-divides, quotient-exact}
use Rattle.algebra.proofs.Signs.{signs}

one-add : (n : ℕ) → 1 + n ≡ suc n
one-add n = omega arith

module _ {K : Type 0} {F : Ops K} (L : Laws F) where
  open signs F use {0#, 1#, ◌⊕◌, ◌⊗◌, ◌⊞◌, ◌⊠◌, ◌∣◌}
  open L use {add_comm, zero-add, add-self, one≢zero}

  pub linear-times : (r : K) (f : Series K) → coef F (linear F r) ⊠ f ≡ scale F r f ⊞ starting_with 0# f
  linear-times r f =
      ap (λ w. w ⊠ f) (coef-cons L r (1# ∷ []) ∙ ap (starting_with r) (coef-cons L 1# [])) ∙ starting_with-times L r (unit F) f
      ∙ ap (λ w. scale F r f ⊞ starting_with 0# w) (times-comm L (unit F) f ∙ times-unit L f)

  -- the quotient by z + r (Ruffini): f = (z + r) f' + f(r)
  deflate : K → List K → List K
  deflate r [] = []
  deflate r (c ∷ p) = eval F p r ∷ deflate r p

  deflate-at : (r : K) (p : List K) (k : ℕ)
      → (r ⊗ coef F (deflate r p) k ⊕ starting_with 0# (coef F (deflate r p)) k) ⊕ starting_with (eval F p r) (nought F) k ≡ coef F p k
  unfolding deflate eval starting_with
  deflate-at r [] zero = simp (mul-zero L, zero-add)
  deflate-at r [] (suc k) = simp (mul-zero L, zero-add)
  deflate-at r (c ∷ p) zero = simp (add-zero L, add_comm c (r ⊗ eval F p r), add_back L)
  deflate-at r (c ∷ p) (suc zero) = ap (λ w. w ⊕ eval F p r ⊕ 0#) (sym (add-zero L _)) ∙ add-zero L _ ∙ deflate-at r p zero
  deflate-at r (c ∷ p) (suc (suc k)) = deflate-at r p (suc k)

  -- where f(r) = 0, z + r divides f
  pub factor : (r : K) (f : List K) → eval F f r ≡ 0# → linear F r ∣ coef F f
  unfolding plus scale starting_with
  factor r f h = subst (λ w. linear F r ∣ w) (linear-times r (coef F (deflate r f)) ∙ fun_ext at) (divides-multiple L (linear F r) (deflate r f))
    where
      none : (k : ℕ) → starting_with (eval F f r) (nought F) k ≡ 0#
      none zero = h
      none (suc k) = refl

      at : (k : ℕ) → (scale F r (coef F (deflate r f)) ⊞ starting_with 0# (coef F (deflate r f))) k ≡ coef F f k
      at k = sym (ap (λ w. (scale F r (coef F (deflate r f)) ⊞ starting_with 0# (coef F (deflate r f))) k ⊕ w) (none k) ∙ add-zero L _) ∙ deflate-at r f k

  -- the other roots of f are roots of f / (z + r)
  other-root : (r x : K) (f : List K) (h : linear F r ∣ coef F f) → r ≢ x → eval F f x ≡ 0# → eval F h.quotient x ≡ 0#
  other-root r x f h d e =
      zero-of-product L (r ⊕ x) (eval F h.quotient x) (λ z. d (equal-of-sum L r x z))
      (ap (λ w. w ⊗ eval F h.quotient x) (sym (eval-linear L r x)) ∙ eval-multiple L (linear F r) f h.quotient x (quotient-exact L h) ∙ e)

  other-roots : (r : K) (f s : List K) (h : linear F r ∣ coef F f) → All (λ x. r ≢ x) s → All (λ x. eval F f x ≡ 0#) s
      → All (λ x. eval F h.quotient x ≡ 0#) s
  other-roots r f [] h d e = tt
  other-roots r f (x ∷ s) h d e = (other-root r x f h d.0 e.0, other-roots r f s h d.1 e.1)

  -- distinct roots of f together divide f
  pub roots-divide : (s f : List K) → Distinct s → All (λ r. eval F f r ≡ 0#) s → from_roots F s ∣ coef F f
  unfolding from_roots
  roots-divide [] f d h = one-divides L f
  roots-divide (r ∷ s) f d h =
      let k : linear F r ∣ coef F f = factor r f h.0 in
      divides-product L (linear F r) (from_roots F s) k (roots-divide s k.quotient d.1 (other-roots r f s k d.0 h.1))

  -- a product over n roots is monic of degree n
  pub from_roots-monic : (s : List K) → Monic F (coef F (from_roots F s)) (length s)
  unfolding from_roots
  from_roots-monic [] = monic-list L []
  from_roots-monic (r ∷ s) =
      rw (coef-mul L (linear F r) (from_roots F s), ← one-add (length s)) (monic-times L (monic-list L (r ∷ [])) (from_roots-monic s))

  -- a nonzero polynomial of degree n has at most n roots
  pub roots-at-most : (s f : List K) {n : ℕ} {c : K} → Distinct s → All (λ r. eval F f r ≡ 0#) s → Top F (coef F f) n c → c ≢ 0# → length s ≤ n
  roots-at-most s f d h t z =
      let k = roots-divide s f d h in
      let q = quotient-top L k.quotient (from_roots-monic s) (quotient-exact L k) t z in
      omega (arith, q.1)

  -- the product over roots, held by the list `monic_roots`
  pub monic-roots : (s : List K) → monic F (monic_roots F s) ≡ from_roots F s
  unfolding monic_roots
  monic-roots s =
      ap (λ c. take (length s) (from_roots F s) ++ c ∷ []) (sym (from_roots-monic s).at)
      ∙ sym (take-suc (from_roots F s) (length s) 0# (omega (arith, length-from_roots F s)))
      ∙ take_all (suc (length s)) (from_roots F s) (omega (arith, length-from_roots F s))

  -- the elements of s are roots of the product over s
  pub root-member : (s : List K) (x : K) → Memᴰ x s → eval F (from_roots F s) x ≡ 0#
  unfolding from_roots
  root-member (r ∷ s) x h =
      eval_mul L (linear F r) (from_roots F s) x ∙ go (Memᴰ.cases_cons h) (root-member s x)
    where
      go : (x ≡ r) ⊎ Memᴰ x s → (Memᴰ x s → eval F (from_roots F s) x ≡ 0#) → F.mul (eval F (linear F r) x) (eval F (from_roots F s) x) ≡ 0#
      go (inl e) rec = ap (λ w. F.mul w (eval F (from_roots F s) x)) (eval-linear L r x ∙ ap (F.add r) e ∙ add-self r) ∙ zero-mul L (eval F (from_roots F s) x)
      go (inr h) rec = ap (F.mul (eval F (linear F r) x)) (rec h) ∙ mul-zero L (eval F (linear F r) x)
  root-member [] x h = absurd (Memᴰ.not-nil h)

  -- and it has no others
  pub member-root : (s : List K) (x : K) → eval F (from_roots F s) x ≡ 0# → Memᴰ x s
  unfolding from_roots eval
  member-root [] x e = absurd (one≢zero (sym (ap (F.add 1#) (mul-zero L x) ∙ add-zero L 1#) ∙ e))
  member-root (r ∷ s) x e = go (zero? L (F.add r x)) (member-root s x)
    where
      go : (F.add r x ≡ 0#) ⊎ (F.add r x ≢ 0#) → (eval F (from_roots F s) x ≡ 0# → Memᴰ x s) → Memᴰ x (r ∷ s)
      go (inl z) rec = Memᴰ.head (sym (equal-of-sum L r x z))
      go (inr h) rec =
          Memᴰ.tail (rec (zero-of-product L (F.add r x) (eval F (from_roots F s) x) h
          (ap (λ w. F.mul w (eval F (from_roots F s) x)) (sym (eval-linear L r x)) ∙ sym (eval_mul L (linear F r) (from_roots F s) x) ∙ e)))

  -- and the converse of the factor theorem
  pub factor-root : (r : K) (f : List K) → linear F r ∣ coef F f → eval F f r ≡ 0#
  factor-root r f h =
      sym (eval-multiple L (linear F r) f h.quotient r (quotient-exact L h))
      ∙ ap (λ w. w ⊗ eval F h.quotient r) (eval-linear L r r ∙ add-self r) ∙ zero-mul L (eval F h.quotient r)
