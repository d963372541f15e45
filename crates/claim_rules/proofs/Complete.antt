-- An acceptable claim has all roots of the polynomial, and their multiplicities.
--   low-spread          spreading commutes with `low`
--   same-multiplicity   a multiplicity of elements is that of numbers
--   settled             what a product of powers and a cofactor without roots has for roots and multiplicities
--   mul-nought          a multiple of 0
--   cofactor-some       the cofactor of an acceptable claim is not 0
--   CLAIM-COMPLETE      an acceptable claim has the roots and multiplicities of the polynomial
-- Assumes nothing.
use mathlib.Core.Path.{◌∙◌, ◌≡◌, ap, ap₂, refl, subst, sym}
use mathlib.Core.Logic.{◌↔◌, ◌≢◌}
use mathlib.Core.List.{List, Memᴰ, [], ◌++◌, ◌∷◌, map, map-append}
use Prim.Native.Nat.{◌<◌, ◌≤◌, ◌^◌, ℕ}
use lib.ListN.{length, length-map, replicate}
use Rattle.algebra.specs.Field.{Laws, OnNumbers, Ops}
use Rattle.algebra.specs.Trial.{All, Ascending}
use Rattle.algebra.specs.Polynomial.{Below, DividesBelow, coef, eval, from_roots, mul, roots_of}
use Rattle.algebra.specs.Multiplicity.{IsMultiplicity, IsMultiplicityBelow, linear_power, multiplicities_of, multiplicity}
use Rattle.algebra.proofs.Series.{nought, times}
use Rattle.algebra.proofs.Coefficients.{coef-mul}
use Rattle.algebra.proofs.Crossing.{Elem, below-low, by-elements, by_two, coef-up, distinct-low, elems, laws, low, low-coef, low-from_roots, low-mul, map-replicate, mem-lift, mem-low, root-down, root-up}
use Rattle.algebra.proofs.Multiplicity as M
use Rattle.algebra.proofs.NumberDivision.{divides-down, divides-up}
use Rattle.algebra.proofs.NumberMultiplicity.{multiplicity-only, multiplicity-right}
use Rattle.algebra.proofs.RootList.{roots_of-only}
use Rattle.algebra.proofs.Trial.{all-at, ascending-distinct}
use Rattle.field.specs.Field.{G, multiplicities_at, roots_at}
use Rattle.input.specs.Polynomials.{PolynomialIn}
use Rattle.input.proofs.Fields.{known-field}
use Rattle.input.proofs.Polynomials.{nonzero-place}
use Rattle.claim_rules.specs.Claims.{Acceptable, Claim, field_remainder, spread_out}
use Rattle.claim_rules.specs.Admitting.{ClaimIn}
use Rattle.claim_rules.proofs.Products.{product-root, product-times}
use Rattle.claim_rules.proofs.Remainders.{remainder-below, remainder-root, rootless}

module _ {H : Ops ℕ} {q : ℕ} (N : OnNumbers H q) where
  -- the field of elements, and its laws
  abbrev K : Ops (Elem q)
  K = elems N

  abbrev L : Laws K
  L = laws N

  -- spreading commutes with `low`
  low-spread : (s : List (Elem q)) (es : List ℕ) → low N (spread_out s es) ≡ spread_out (low N s) es
  unfolding spread_out
  low-spread [] es = refl
  low-spread (r ∷ s) [] = refl
  low-spread (r ∷ s) (e ∷ es) =
      map-append (λ x. x.0) (replicate e r) (spread_out s es) ∙ ap₂ (λ (a b : List ℕ). a ++ b) (map-replicate (λ x. x.0) e r) (low-spread s es)

  low-powers : (r : Elem q) (k : ℕ) → low N (linear_power K r k) ≡ linear_power H r.0 k
  low-powers r k = low-from_roots N (replicate k r) ∙ ap (from_roots H) (map-replicate (λ x. x.0) k r)

  -- the largest power that divides, among elements and among numbers
  is-low : (u : List (Elem q)) (r : Elem q) {e : ℕ} → IsMultiplicity K u r e → IsMultiplicityBelow H q (low N u) r.0 e
  is-low u r a k = (
    λ h. (a k).0 (divides-up N (linear_power K r k) u (subst (λ p. DividesBelow H q p (low N u)) (sym (low-powers r k)) h)),
    λ h. subst (λ p. DividesBelow H q p (low N u)) (low-powers r k) (divides-down N (linear_power K r k) u ((a k).1 h)),
  )

  -- a polynomial of numbers that is not 0 is none of elements
  nonzero-up : (u : List (Elem q)) (j : ℕ) → coef H (low N u) j ≢ H.zero → coef K u ≢ nought K
  nonzero-up u j n y = n (sym (low-coef N u j) ∙ ap (λ w. (w j).0) y)

  module _ (u : List (Elem q)) (j : ℕ) (n : coef H (low N u) j ≢ H.zero) where
    -- a multiplicity of elements is that of numbers
    same-multiplicity : (r : Elem q) → multiplicity K u r ≡ multiplicity H (low N u) r.0
    same-multiplicity r =
        multiplicity-only H q (low N u) r.0 (is-low u r (M.multiplicity-right L u r (nonzero-up u j n)))
        (multiplicity-right N (low N u) (below-low N u) j n r.0 r.1)

    same-each : (s : List (Elem q)) → map (multiplicity K u) s ≡ multiplicities_of H (low N u) (low N s)
    same-each [] = refl
    same-each (r ∷ s) = ap₂ (λ (a : ℕ) (b : List ℕ). a ∷ b) (same-multiplicity r) (same-each s)

  -- what is known of roots, numbers beside them, a cofactor and a polynomial
  record Factored (s : List ℕ) (es : List ℕ) (h f : List ℕ) : Type 0 where
    pub paired : length s ≡ length es
    pub ascending : Ascending s
    pub least : All (λ e. 1 ≤ e) es
    pub product : coef H (mul H (from_roots H (spread_out s es)) h) ≡ coef H f
    pub without : (x : ℕ) → x < q → eval H h x ≢ H.zero
    pub place : ℕ
    pub nonzero : coef H f place ≢ H.zero

  -- of elements
  settled-low : (a b c : List (Elem q)) (es : List ℕ) → Factored (low N a) es (low N c) (low N b)
      → (low N a ≡ roots_of H q (low N b)) × (es ≡ multiplicities_of H (low N b) (low N a))
  settled-low a b c es t =
      let count : length a ≡ length es = sym (length-map a (λ x. x.0)) ∙ t.paired in
      let bare : (x : Elem q) → eval K c x ≢ K.zero = λ x z. t.without x.0 x.1 (root-down N c x (low N c) refl z) in
      let p : List (Elem q) = from_roots K (spread_out a es) in
      let low_product : low N (mul K p c) ≡ mul H (from_roots H (spread_out (low N a) es)) (low N c) =
      low-mul N p c ∙ ap (λ l. mul H l (low N c)) (low-from_roots N (spread_out a es) ∙ ap (from_roots H) (low-spread a es)) in
      let whole : times K (coef K p) (coef K c) ≡ coef K b =
      sym (coef-mul L p c) ∙ coef-up N (mul K p c) b (ap (coef H) low_product ∙ t.product) in
      let roots : (x : Elem q) → Memᴰ x a ↔ (eval K b x ≡ K.zero) = product-root L c bare a b es count t.least whole in (
        sym (roots_of-only N (low N b) (below-low N b) (low N a) t.ascending λ x. (
          λ m. let l : x < q = all-at (λ y. y < q) (low N a) (below-low N a) m in (l, root-down N b (x, l) (low N b) refl ((roots (x, l)).0 (mem-lift N a (x, l) m))),
          λ z. mem-low N a (x, z.0) ((roots (x, z.0)).1 (root-up N b (x, z.0) (low N b) refl z.1)),
        )),
        product-times L c bare a b es (distinct-low N a (ascending-distinct (low N a) t.ascending)) count (nonzero-up b t.place t.nonzero) whole
            ∙ same-each b t.place t.nonzero a,
      )

  -- of numbers below q
  settled : (s f h es : List ℕ) → Below q s → Below q f → Below q h → Factored s es h f → (s ≡ roots_of H q f) × (es ≡ multiplicities_of H f s)
  settled s f h es hs hf hh =
      by_two N (λ s f. Factored s es h f → (s ≡ roots_of H q f) × (es ≡ multiplicities_of H f s))
      (λ a b. by-elements N (λ h. Factored (low N a) es h (low N b) → (low N a ≡ roots_of H q (low N b)) × (es ≡ multiplicities_of H (low N b) (low N a)))
      (λ c. settled-low a b c es) h hh) s f hs hf

-- ---- of a claim

-- the polynomial of a claim that was let in
pub given-in : {m : ℕ} {f : List ℕ} {c : Claim} → ClaimIn m f c → PolynomialIn m f
given-in i = record { field = i.field; some = i.given.some; few = i.given.few; small = i.given.small; nonzero = i.nonzero }

-- an acceptable claim has a cofactor without roots
pub cofactor-rootless : {m : ℕ} {f : List ℕ} {c : Claim} → ClaimIn m f c → Acceptable m f c → (x : ℕ) → x < 2 ^ m → eval (G m) c.cofactor x ≢ 0
cofactor-rootless {m} {f} {c} i a x l =
    let h : List ℕ = c.cofactor in
    rootless (known-field m i.field).numbers m (known-field m i.field).fermat h c.first c.second (field_remainder m h)
    i.cofactor.small i.first.small i.second.small (remainder-below m i.field h i.cofactor.small) a.coprime x l
    (remainder-root m i.field h i.cofactor.small x l)

-- CLAIM-COMPLETE: an acceptable claim has the roots and multiplicities of the polynomial
pub claim-complete : {m : ℕ} {f : List ℕ} {c : Claim} → ClaimIn m f c → Acceptable m f c → (c.roots ≡ roots_at m f) × (c.times ≡ multiplicities_at m f)
claim-complete {m} {f} {c} i a =
    let j = nonzero-place (given-in i) in
    let k = settled (known-field m i.field).numbers c.roots f c.cofactor c.times i.elements i.given.small i.cofactor.small
    (record {
      paired = a.paired;
      ascending = a.ascending;
      least = a.least;
      product = a.product;
      without = cofactor-rootless i a;
      place = j.0;
      nonzero = j.1;
    }) in
    (k.0, k.1 ∙ ap (multiplicities_of (G m) f) k.0)
