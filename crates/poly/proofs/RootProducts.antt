-- The product of z + r over roots in a known field: what it is.
--   product-long       it has one coefficient more than there are roots
--   product-below      its coefficients are elements
--   product-monic      it is the monic polynomial that `monic_roots` holds
--   product-top        its top coefficient is 1;  product-nonzero  so not all are 0
--   product-roots      over an ascending list it has these roots
--   product-simple     and each is simple
-- Assumes nothing.
use mathlib.Core.Path.{◌≡◌, refl, sym, ap, ◌∙◌}
use mathlib.Core.Bool.{Bool, true, false}
use mathlib.Core.List.{List, [], ◌∷◌}
use Prim.Native.Nat.{ℕ, suc, ◌^◌}
use native.Mathlib.Omega.{arith}
use lib.ListN.{length, get_or, replicate, get_or-eq_default}
use lib.Seq.{get_or_at}
use Rattle.algebra.specs.Field.{OnNumbers}
use Rattle.algebra.specs.Trial.{Ascending}
use Rattle.algebra.specs.Polynomial.{Below, from_roots, linear}
use Rattle.algebra.specs.Routines.{monic, monic_roots}
use Rattle.algebra.proofs.Lengths.{length-from_roots, length-monic_roots}
use Rattle.algebra.proofs.Factors.{monic-roots}
use Rattle.algebra.proofs.Crossing.{by-elements, elems, laws, low, low-from_roots, low-monic, low-monic_roots}
use Rattle.algebra.proofs.StaysBelow.{below_at, linear-below, mul-below}
use Rattle.algebra.proofs.RootList.{roots_of-monic_roots}
use Rattle.algebra.proofs.NumberMultiplicity.{roots-simple}
use Rattle.field.specs.Rows.{known}
use Rattle.field.specs.Field.{G, roots_at, multiplicities_at}
use Rattle.field.proofs.Known.{listed}
use Rattle.field.proofs.Instance.{known-numbers}
use Rattle.slices.specs.Bounded.{all_zero}
use Rattle.slices.proofs.Bounded.{all_below-exactly}

-- one coefficient more than there are roots
pub product-long : (m : ℕ) (roots : List ℕ) → length (from_roots (G m) roots) ≡ suc (length roots)
product-long m roots = length-from_roots (G m) roots

module _ (m : ℕ) (k : known m ≡ true) where
  -- the field's laws
  abbrev numbers : OnNumbers (G m) (2 ^ m)
  numbers = known-numbers (listed m k)

  -- its coefficients are elements
  pub product-below : (roots : List ℕ) → Below (2 ^ m) roots → Below (2 ^ m) (from_roots (G m) roots)
  unfolding from_roots
  product-below [] h = (numbers.one_below, tt)
  product-below (r ∷ roots) h =
      mul-below numbers (linear (G m) r) (from_roots (G m) roots) (linear-below numbers r h.0)
      (product-below roots h.1)

  module _ (roots : List ℕ) (h : Below (2 ^ m) roots) where
    -- the leading 1 behind what is held
    pub product-monic : from_roots (G m) roots ≡ monic (G m) (monic_roots (G m) roots)
    product-monic =
        by-elements numbers (λ s. from_roots (G m) s ≡ monic (G m) (monic_roots (G m) s))
        (λ u. sym (low-from_roots numbers u) ∙ ap (low numbers) (sym (monic-roots (laws numbers) u))
        ∙ low-monic numbers (monic_roots (elems numbers) u) ∙ ap (monic (G m)) (low-monic_roots numbers u)) roots h

    -- the last coefficient
    product-top : get_or (from_roots (G m) roots) (length roots) 0 ≡ 1
    product-top =
        ap (λ f. get_or f (length roots) 0) product-monic
        ∙ get_or_at (monic_roots (G m) roots) 1 [] 0 (length roots) (length-monic_roots (G m) roots)

    -- not all coefficients are 0
    pub product-nonzero : all_zero (from_roots (G m) roots) ≡ false
    product-nonzero = go (all_zero (from_roots (G m) roots)) refl
      where
        go : (b : Bool) → all_zero (from_roots (G m) roots) ≡ b → b ≡ false
        go true e =
            let z = below_at 1 (from_roots (G m) roots) ((all_below-exactly 1 (from_roots (G m) roots)).0 e) (length roots)
            (omega (arith, product-long m roots)) in
            absurd (omega (arith, product-top))
        go false e = refl

    -- the roots are the list that it was made from
    pub product-roots : Ascending roots → roots_at m (from_roots (G m) roots) ≡ roots
    product-roots a = ap (roots_at m) product-monic ∙ roots_of-monic_roots numbers roots h a

    -- each root once
    pub product-simple : Ascending roots → multiplicities_at m (from_roots (G m) roots) ≡ replicate (length roots) 1
    product-simple a =
        let f : List ℕ = from_roots (G m) roots in
        roots-simple numbers f (product-below roots h) (length roots)
        (λ z. let t : 1 ≡ 0 = sym product-top ∙ z in omega arith)
        (λ j l. get_or-eq_default f 0 (omega (arith, product-long m roots))) (ap length (product-roots a))
