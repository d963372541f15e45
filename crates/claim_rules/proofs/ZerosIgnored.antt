-- Zeros at the top of a polynomial are ignored: whether a claim is acceptable depends on the coefficients alone.
--   same_back         two claims are the same in either order
--   cofactor-place    the cofactor of an acceptable claim is not 0
--   ACCEPTABLE-SAME   where one is acceptable, so is the other
-- Assumes nothing.
use mathlib.Core.Path.{◌∙◌, ◌≡◌, ap, ap₂, fun_ext, refl, subst, sym}
use mathlib.Core.Logic.{◌≢◌}
use mathlib.Core.Option.{Option, none, some}
use mathlib.Core.List.{List, []}
use Prim.Native.Nat.{◌≤◌, ◌^◌, ℕ}
use lib.ListN.{length}
use Rattle.algebra.specs.Field.{OnNumbers}
use Rattle.algebra.specs.Trial.{All, Ascending}
use Rattle.algebra.specs.Polynomial.{Below, coef, eval, from_roots, mul}
use Rattle.algebra.specs.Routines.{norm}
use Rattle.algebra.proofs.Crossing.{below-low, by-elements, elems, low-from_roots}
use Rattle.algebra.proofs.NumberEvaluation.{eval-same}
use Rattle.algebra.proofs.NumberMonic.{Made, made-degree, norm-made, norm-none}
use Rattle.algebra.proofs.StaysBelow.{mul-below}
use Rattle.field.specs.Field.{G}
use Rattle.input.proofs.Fields.{known-field}
use Rattle.claim_rules.specs.Claims.{Acceptable, Claim, SameClaim, field_remainder, spread_out}
use Rattle.claim_rules.specs.Admitting.{ClaimIn}
use Rattle.claim_rules.proofs.Products.{spread-below}
use Rattle.claim_rules.proofs.Remainders.{remainder-below}
use Rattle.claim_rules.proofs.TheRemainder.{add_same, mul-same, remainder-same}
use Rattle.claim_rules.proofs.Complete.{cofactor-rootless}

-- in either order
pub same_back : {m : ℕ} {f g : List ℕ} {c d : Claim} → SameClaim m f g c d → SameClaim m g f d c
same_back s = record {
  roots = sym s.roots;
  times = sym s.times;
  given = sym s.given;
  cofactor = sym s.cofactor;
  first = sym s.first;
  second = sym s.second;
}

module _ {m : ℕ} {f : List ℕ} {c : Claim} (i : ClaimIn m f c) (a : Acceptable m f c) where
  -- the numbers of the field
  abbrev N : OnNumbers (G m) (2 ^ m)
  N = (known-field m i.field).numbers

  -- the cofactor is not 0
  cofactor-place : (j : ℕ) × (coef (G m) c.cofactor j ≢ 0)
  unfolding eval
  cofactor-place = go (norm (G m) (length c.cofactor) c.cofactor) refl
    where
      go : (o : Option (List ℕ)) → norm (G m) (length c.cofactor) c.cofactor ≡ o → (j : ℕ) × (coef (G m) c.cofactor j ≢ 0)
      go none e =
          let zeros : coef (G m) c.cofactor ≡ coef (G m) [] = fun_ext λ k. norm-none N c.cofactor i.cofactor.small e k in
          absurd (cofactor-rootless i a 0 N.zero-below (eval-same N c.cofactor [] i.cofactor.small tt zeros 0 N.zero-below))
      go (some p) e =
          let d : Made (G m) (2 ^ m) c.cofactor p = norm-made N c.cofactor i.cofactor.small e in
          (length p, λ z. d.nonzero (sym (made-degree N d).0 ∙ z))

  -- ACCEPTABLE-SAME: where one is acceptable, so is the other
  pub acceptable-same : {g : List ℕ} {d : Claim} → ClaimIn m g d → SameClaim m f g c d → Acceptable m g d
  acceptable-same {g} {d} k s =
      let h : List ℕ = c.cofactor in
      let h' : List ℕ = d.cofactor in
      let w : List ℕ = field_remainder m h in
      let w' : List ℕ = field_remainder m h' in
      let p : List ℕ = from_roots (G m) (spread_out c.roots c.times) in
      let hp : Below (2 ^ m) p = products-below (spread_out c.roots c.times) (spread-below (2 ^ m) c.roots c.times i.elements) in
      let hw : Below (2 ^ m) w = remainder-below m i.field h i.cofactor.small in
      let hw' : Below (2 ^ m) w' = remainder-below m i.field h' k.cofactor.small in
      let j = cofactor-place in
      record {
        paired = sym (ap length s.roots) ∙ a.paired ∙ ap length s.times;
        ascending = subst Ascending s.roots a.ascending;
        least = subst (All (λ e. 1 ≤ e)) s.times a.least;
        product = ap₂ (λ x y. coef (G m) (mul (G m) (from_roots (G m) (spread_out x y)) h')) (sym s.roots) (sym s.times)
            ∙ mul-same N p h' p h hp k.cofactor.small hp i.cofactor.small refl (sym s.cofactor) ∙ a.product ∙ s.given;
        coprime = sym (add_same N (mul (G m) c.first h) (mul (G m) c.second w) (mul (G m) d.first h') (mul (G m) d.second w')
            (mul-below N c.first h i.first.small i.cofactor.small) (mul-below N c.second w i.second.small hw)
            (mul-below N d.first h' k.first.small k.cofactor.small) (mul-below N d.second w' k.second.small hw')
            (mul-same N c.first h d.first h' i.first.small i.cofactor.small k.first.small k.cofactor.small s.first s.cofactor)
            (mul-same N c.second w d.second w' i.second.small hw k.second.small hw' s.second
            (remainder-same m i.field h h' i.cofactor.small k.cofactor.small s.cofactor j.0 j.1))) ∙ a.coprime;
      }
    where
      products-below : (s : List ℕ) → Below (2 ^ m) s → Below (2 ^ m) (from_roots (G m) s)
      products-below = by-elements N (λ s. Below (2 ^ m) (from_roots (G m) s)) (λ u. subst (Below (2 ^ m)) (low-from_roots N u) (below-low N (from_roots (elems N) u)))
