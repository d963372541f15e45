-- Degrees of a product of z + r over a list, and a cofactor.
--   degrees-add   the list's length and the cofactor's degree add up to the degree of the product
-- Assumes nothing.
use mathlib.Core.Path.{◌∙◌, ◌≡◌, ap, refl, sym}
use mathlib.Core.Logic.{◌≢◌}
use mathlib.Core.List.{List}
use Prim.Native.Nat.{◌+◌, ◌<◌, ℕ}
use lib.ListN.{length, length-map}
use Rattle.algebra.specs.Field.{Laws, OnNumbers, Ops}
use Rattle.algebra.specs.Polynomial.{Below, coef, from_roots, mul}
use Rattle.algebra.proofs.Coefficients.{coef-mul}
use Rattle.algebra.proofs.Crossing.{Elem, by-elements, by_two, coef-up, elem-equal, elems, laws, low, low-coef, low-from_roots, low-mul}
use Rattle.algebra.proofs.Degree.{Top, quotient-top}
use Rattle.algebra.proofs.Factors.{from_roots-monic}
use Rattle.algebra.proofs.Series.{times}

-- h has its leading coefficient at j, and n is j more than there are elements
pub record Degrees (H : Ops ℕ) (s h : List ℕ) (n : ℕ) : Type 0 where
  pub degree : ℕ
  pub sum : length s + degree ≡ n
  pub leading : coef H h degree ≢ H.zero
  pub above : (k : ℕ) → degree < k → coef H h k ≡ H.zero

module _ {H : Ops ℕ} {q : ℕ} (N : OnNumbers H q) where
  -- the field of elements, and its laws
  abbrev K : Ops (Elem q)
  K = elems N

  abbrev L : Laws K
  L = laws N

  -- of elements: h has the leading coefficient x
  degrees-of : (a c : List (Elem q)) (n : ℕ) (x : Elem q) → x ≢ K.zero → (j : ℕ) → length a + j ≡ n → Top K (coef K c) j x → Degrees H (low N a) (low N c) n
  degrees-of a c n x z j e t = record {
    degree = j;
    sum = ap (λ k. k + j) (length-map a (λ x. x.0)) ∙ e;
    leading = λ y. z (sym t.at ∙ elem-equal (low-coef N c j ∙ y));
    above = λ k l. sym (low-coef N c k) ∙ ap (λ x. x.0) (t.above k l);
  }

  degrees-low : (a b c : List (Elem q)) (n : ℕ) → coef H (mul H (from_roots H (low N a)) (low N c)) ≡ coef H (low N b) → coef H (low N b) n ≢ H.zero
      → ((k : ℕ) → n < k → coef H (low N b) k ≡ H.zero) → Degrees H (low N a) (low N c) n
  degrees-low a b c n e z above =
      let p : List (Elem q) = from_roots K a in
      let whole : times K (coef K p) (coef K c) ≡ coef K b =
      sym (coef-mul L p c) ∙ coef-up N (mul K p c) b (ap (coef H) (low-mul N p c ∙ ap (λ l. mul H l (low N c)) (low-from_roots N a)) ∙ e) in
      let t : Top K (coef K b) n (coef K b n) = record { at = refl; above = λ k l. elem-equal (low-coef N b k ∙ above k l) } in
      let nz : coef K b n ≢ K.zero = λ y. z (sym (low-coef N b n) ∙ ap (λ x. x.0) y) in
      let j = quotient-top L c (from_roots-monic L a) whole t nz in
      degrees-of a c n (coef K b n) nz j.0 j.1 j.2

  -- of numbers below q
  pub degrees-add : (s f h : List ℕ) (n : ℕ) → Below q s → Below q f → Below q h → coef H (mul H (from_roots H s) h) ≡ coef H f → coef H f n ≢ H.zero
      → ((k : ℕ) → n < k → coef H f k ≡ H.zero) → Degrees H s h n
  degrees-add s f h n hs hf hh =
      by_two N (λ s f. coef H (mul H (from_roots H s) h) ≡ coef H f → coef H f n ≢ H.zero → ((k : ℕ) → n < k → coef H f k ≡ H.zero) → Degrees H s h n)
      (λ a b. by-elements N (λ h. coef H (mul H (from_roots H (low N a)) h) ≡ coef H (low N b) → coef H (low N b) n ≢ H.zero
      → ((k : ℕ) → n < k → coef H (low N b) k ≡ H.zero) → Degrees H (low N a) h n) (λ c. degrees-low a b c n) h hh) s f hs hf
