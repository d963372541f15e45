-- Evaluation on numbers below q: a homomorphism, and the same for all lists that hold one polynomial.
--   eval_add, eval-scale, eval_mul, eval-square   sums, multiples, products, squares
--   eval-monic  p(x) + x^n, with n the degree
--   eval-same   a value depends on the coefficients alone
--   top-coef    zeros at the top change no coefficient
--   eval-top    so they change no value
-- Assumes nothing.
use mathlib.Core.Path.{◌∙◌, ◌≡◌, ap, ap₂, fun_ext, refl, sym}
use mathlib.Core.List.{List, [], ◌++◌, ◌∷◌, map}
use Prim.Native.Nat.{◌<◌, suc, zero, ℕ}
use lib.ListN.{length, length-map, replicate}
use Rattle.algebra.specs.Field.{Laws, OnNumbers, Ops, power}
use Rattle.algebra.specs.Polynomial.{Below, add, coef, eval, mul}
use Rattle.algebra.specs.Routines.{monic, square}
use Rattle.algebra.proofs.Crossing.{by-elements, by_two, coef-up, elems, laws, low-add, low-eval, low-monic, low-mul, low-power, low-scale, low-square}
use Rattle.algebra.proofs.StaysBelow.{append-below, replicate-below}
use Rattle.algebra.proofs.Evaluation as H

module _ {G : Ops ℕ} {q : ℕ} (N : OnNumbers G q) where
  abbrev L : Laws (elems N)
  L = laws N

  pub eval_add : (p r : List ℕ) → Below q p → Below q r → (x : ℕ) → x < q → eval G (add G p r) x ≡ G.add (eval G p x) (eval G r x)
  eval_add p r hp hr x l = by_two N (λ p r. eval G (add G p r) x ≡ G.add (eval G p x) (eval G r x)) (λ u v.
      ap (λ f. eval G f x) (sym (low-add N u v)) ∙ sym (low-eval N (add (elems N) u v) (x, l)) ∙ ap (λ y. y.0) (H.eval_add L u v (x, l))
      ∙ ap₂ G.add (low-eval N u (x, l)) (low-eval N v (x, l))) p r hp hr

  pub eval-scale : (c : ℕ) (p : List ℕ) → c < q → Below q p → (x : ℕ) → x < q → eval G (map (G.mul c) p) x ≡ G.mul c (eval G p x)
  eval-scale c p hc hp x l = by-elements N (λ p. eval G (map (G.mul c) p) x ≡ G.mul c (eval G p x)) (λ u.
      ap (λ f. eval G f x) (sym (low-scale N (c, hc) u)) ∙ sym (low-eval N (map ((elems N).mul (c, hc)) u) (x, l)) ∙ ap (λ y. y.0) (H.eval-scale L (c, hc) u (x, l))
      ∙ ap (G.mul c) (low-eval N u (x, l))) p hp

  pub eval_mul : (p r : List ℕ) → Below q p → Below q r → (x : ℕ) → x < q → eval G (mul G p r) x ≡ G.mul (eval G p x) (eval G r x)
  eval_mul p r hp hr x l = by_two N (λ p r. eval G (mul G p r) x ≡ G.mul (eval G p x) (eval G r x)) (λ u v.
      ap (λ f. eval G f x) (sym (low-mul N u v)) ∙ sym (low-eval N (mul (elems N) u v) (x, l)) ∙ ap (λ y. y.0) (H.eval_mul L u v (x, l))
      ∙ ap₂ G.mul (low-eval N u (x, l)) (low-eval N v (x, l))) p r hp hr

  pub eval-square : (f : List ℕ) → Below q f → (x : ℕ) → x < q → eval G (square G f) x ≡ G.mul (eval G f x) (eval G f x)
  eval-square f hf x l = by-elements N (λ f. eval G (square G f) x ≡ G.mul (eval G f x) (eval G f x)) (λ u.
      ap (λ f. eval G f x) (sym (low-square N u)) ∙ sym (low-eval N (square (elems N) u) (x, l)) ∙ ap (λ y. y.0) (H.eval-square L u (x, l))
      ∙ ap (λ v. G.mul v v) (low-eval N u (x, l))) f hf

  pub eval-monic : (p : List ℕ) → Below q p → (x : ℕ) → x < q → eval G (monic G p) x ≡ G.add (eval G p x) (power G x (length p))
  eval-monic p hp x l = by-elements N (λ p. eval G (monic G p) x ≡ G.add (eval G p x) (power G x (length p))) (λ u.
      ap (λ f. eval G f x) (sym (low-monic N u)) ∙ sym (low-eval N (monic (elems N) u) (x, l)) ∙ ap (λ y. y.0) (H.eval-monic L u (x, l))
      ∙ ap₂ G.add (low-eval N u (x, l)) (low-power N (x, l) (length u) ∙ ap (power G x) (sym (length-map u (λ y. y.0))))) p hp

  pub eval-same : (f g : List ℕ) → Below q f → Below q g → coef G f ≡ coef G g → (x : ℕ) → x < q → eval G f x ≡ eval G g x
  eval-same f g hf hg e x hx =
      by_two N (λ f g. coef G f ≡ coef G g → eval G f x ≡ eval G g x)
      (λ u v e. sym (low-eval N u (x, hx)) ∙ ap (λ y. y.0) (H.eval-same L u v (x, hx) (coef-up N u v e)) ∙ low-eval N v (x, hx)) f g hf hg e

  pub top-coef : (f : List ℕ) (n : ℕ) → coef G (f ++ replicate n G.zero) ≡ coef G f
  top-coef f n = fun_ext (at f)
    where
      none : (n k : ℕ) → coef G (replicate n G.zero) k ≡ G.zero
      none zero k = refl
      none (suc n) zero = refl
      none (suc n) (suc k) = none n k

      at : (f : List ℕ) (k : ℕ) → coef G (f ++ replicate n G.zero) k ≡ coef G f k
      at [] k = none n k
      at (c ∷ f) zero = refl
      at (c ∷ f) (suc k) = at f k

  pub eval-top : (f : List ℕ) (n : ℕ) → Below q f → (x : ℕ) → x < q → eval G (f ++ replicate n G.zero) x ≡ eval G f x
  eval-top f n h =
      eval-same (f ++ replicate n G.zero) f (append-below q f (replicate n G.zero) h (replicate-below q n G.zero N.zero-below)) h (top-coef f n)
