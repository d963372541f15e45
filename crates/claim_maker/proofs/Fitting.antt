-- Lists that fill a buffer, zeros, and multiples.
--   copied_all    a list that is as long as what it is copied over
--   plus-zeros    zeros added
--   scale_same    multiples of the same polynomial
--   padded        a polynomial with zeros above it
-- Assumes nothing.
use mathlib.Core.Path.{◌≡◌, sym, ap, fun_ext, ◌∙◌}
use mathlib.Core.List.{List, ◌++◌, append-nil, map}
use Prim.Native.Nat.{ℕ, suc, ◌-◌, ◌^◌, ◌<◌}
use native.Mathlib.Decide.{dec_le}
use native.Mathlib.Omega.{arith}
use lib.Bits.{bit_xor, xor_zero_r}
use lib.ListN.{get_or-eq_default, drop_of_length-le, get_or, length, length-map, replicate}
use Rattle.algebra.specs.Field.{OnNumbers}
use Rattle.algebra.specs.Polynomial.{add, coef}
use Rattle.algebra.proofs.NumberElements.{mul-zero}
use Rattle.algebra.proofs.NumberEvaluation.{top-coef}
use Rattle.field.specs.Field.{G}
use Rattle.slices.specs.Lists.{copied}
use Rattle.slices.proofs.Lists.{drop-zeros}
use Rattle.slices.proofs.Filling.{map_at}
use Rattle.claims.proofs.Adding.{sum-at, zeros-at}

-- a list that is as long as what it is copied over
pub copied_all : (s d : List ℕ) → length s ≡ length d → copied s d ≡ s
unfolding copied
copied_all s d e = ap (λ u. s ++ u) (drop_of_length-le d {i = length s} (omega arith)) ∙ append-nil s

-- zeros added
pub plus-zeros : (m : ℕ) (p : List ℕ) (n : ℕ) → coef (G m) (add (G m) p (replicate n 0)) ≡ coef (G m) p
plus-zeros m p n = fun_ext λ k. sum-at m p (replicate n 0) k ∙ ap (bit_xor (get_or p k 0)) (zeros-at n k) ∙ xor_zero_r (get_or p k 0)

module _ (m : ℕ) (N : OnNumbers (G m) (2 ^ m)) where
  -- a coefficient of a multiple
  scaled_at : (c : ℕ) (l : List ℕ) (k : ℕ) → c < 2 ^ m → coef (G m) (map ((G m).mul c) l) k ≡ (G m).mul c (coef (G m) l k)
  scaled_at c l k hc = elim (dec_le (suc k) (length l)) [
    | yes i ↦ map_at ((G m).mul c) l k i
    | no i ↦ get_or-eq_default (map ((G m).mul c) l) 0 (omega (arith, length-map l ((G m).mul c)))
        ∙ sym (ap ((G m).mul c) (get_or-eq_default l 0 (omega arith)) ∙ mul-zero N c hc)
  ]

  -- multiples of the same polynomial
  pub scale_same : (c : ℕ) (l r : List ℕ) → c < 2 ^ m → coef (G m) l ≡ coef (G m) r → coef (G m) (map ((G m).mul c) l) ≡ coef (G m) (map ((G m).mul c) r)
  scale_same c l r hc e = fun_ext λ k. scaled_at c l k hc ∙ ap (λ f. (G m).mul c (f k)) e ∙ sym (scaled_at c r k hc)

  -- a polynomial with zeros above it
  pub padded : (n : ℕ) (f : List ℕ) {l : List ℕ} → l ≡ copied f (replicate n 0) → coef (G m) l ≡ coef (G m) f
  unfolding copied
  padded n f e = ap (coef (G m)) (e ∙ ap (λ u. f ++ u) (drop-zeros (length f) n)) ∙ top-coef N f (n - length f)
