-- Making a list of numbers below q monic.
--   Made         f is c times the monic polynomial that s holds, with c not 0, and s is shorter
--   norm-made    so it is with what `norm` gives for all of f
--   norm-none    where it gives nothing, f is 0
--   norm-some    where f is not 0, it gives something
--   made-degree  the length of s is the degree of f, and c its leading coefficient
-- Assumes nothing.
use mathlib.Core.Path.{◌∙◌, ◌≡◌, ap, refl, subst, sym}
use mathlib.Core.Logic.{◌≢◌}
use mathlib.Core.Option.{Option, none, some}
use mathlib.Core.List.{List, [], ◌∷◌, map}
use Prim.Native.Nat.{◌<◌, suc, zero, ℕ}
use native.Mathlib.Nat.{le_of_suc-le-suc, not-suc-le-zero}
use native.Mathlib.Omega.{arith}
use lib.ListN.{get_or-eq_default, length, length-map}
use lib.Seq.{get_or-append_seam}
use Rattle.algebra.specs.Field.{Laws, OnNumbers, Ops}
use Rattle.algebra.specs.Polynomial.{Below, coef}
use Rattle.algebra.specs.Routines.{monic, norm}
use Rattle.algebra.proofs.Coefficients.{coef-scale}
use Rattle.algebra.proofs.Lengths.{length-monic}
use Rattle.algebra.proofs.MakingMonic.{Normed, led, normed, vanished}
use Rattle.algebra.proofs.Crossing.{Elem, below-low, by-elements, coef-down, elem-equal, elems, laws, low, low-coef, low-monic, low-norm, low-scale, low?}

-- f is c times the monic polynomial that s holds, with c not 0, and s is shorter
pub record Made (G : Ops ℕ) (q : ℕ) (f s : List ℕ) : Type 0 where
  pub lead : ℕ
  pub lead-below : lead < q
  pub nonzero : lead ≢ G.zero
  pub shorter : length s < length f
  pub small : Below q s
  pub exact : coef G f ≡ coef G (map (G.mul lead) (monic G s))

module _ {G : Ops ℕ} {q : ℕ} (N : OnNumbers G q) where
  -- the field of elements, and its laws
  abbrev K : Ops (Elem q)
  K = elems N

  abbrev L : Laws K
  L = laws N

  normed-low : (u : List (Elem q)) → Normed K (coef K u) (length u) (norm K (length u) u)
  normed-low u = normed L (length u) u (λ j h. get_or-eq_default u K.zero h)

  norm-low : (u : List (Elem q)) → low? N (norm K (length u) u) ≡ norm G (length (low N u)) (low N u)
  norm-low u = low-norm N (length u) u ∙ ap (λ k. norm G k (low N u)) (sym (length-map u (λ x. x.0)))

  made : (u : List (Elem q)) {s : List ℕ} (o : Option (List (Elem q))) → Normed K (coef K u) (length u) o → low? N o ≡ some s → Made G q (low N u) s
  made u {s} o (vanished z) e = let x : ◌≡◌ {A = ℕ} 0 1 = cc in absurd (omega arith)
  made u {s} o (led w c l n e) i =
      let same : low N w ≡ s = cc in
      subst (Made G q (low N u)) same (record {
        lead = c.0;
        lead-below = c.1;
        nonzero = λ z. n (elem-equal z);
        shorter = omega (arith, l, length-map w (λ x. x.0), length-map u (λ x. x.0));
        small = below-low N w;
        exact = coef-down N u (map (K.mul c) (monic K w)) (e ∙ sym (coef-scale L c (monic K w)))
            ∙ ap (coef G) (low-scale N c (monic K w) ∙ ap (map (G.mul c.0)) (low-monic N w));
      })

  -- so it is with what `norm` gives for all of f
  pub norm-made : (f : List ℕ) {s : List ℕ} → Below q f → norm G (length f) f ≡ some s → Made G q f s
  norm-made f {s} = by-elements N (λ f. norm G (length f) f ≡ some s → Made G q f s) (λ u e. made u (norm K (length u) u) (normed-low u) (norm-low u ∙ e)) f

  nothing : (u : List (Elem q)) (o : Option (List (Elem q))) → Normed K (coef K u) (length u) o → low? N o ≡ none → (j : ℕ) → coef G (low N u) j ≡ G.zero
  nothing u o (vanished z) e j = sym (low-coef N u j) ∙ ap (λ f. (f j).0) z
  nothing u o (led w c l n h) e j = let x : ◌≡◌ {A = ℕ} 0 1 = cc in absurd (omega arith)

  -- where it gives nothing, f is 0
  pub norm-none : (f : List ℕ) → Below q f → norm G (length f) f ≡ none → (j : ℕ) → coef G f j ≡ G.zero
  norm-none = by-elements N (λ f. norm G (length f) f ≡ none → (j : ℕ) → coef G f j ≡ G.zero) (λ u e. nothing u (norm K (length u) u) (normed-low u) (norm-low u ∙ e))

  -- where f is not 0, it gives something
  pub norm-some : (f : List ℕ) → Below q f → (j : ℕ) → coef G f j ≢ G.zero → (s : List ℕ) × (norm G (length f) f ≡ some s)
  norm-some f h j n = go (norm G (length f) f) refl
    where
      go : (o : Option (List ℕ)) → norm G (length f) f ≡ o → (s : List ℕ) × (norm G (length f) f ≡ some s)
      go none e = absurd (n (norm-none f h e j))
      go (some s) e = (s, e)

  -- the coefficients of a multiple of a monic polynomial
  scaled_at : (c : ℕ) (p : List ℕ) (k : ℕ) → k < length p → coef G (map (G.mul c) p) k ≡ G.mul c (coef G p k)
  scaled_at c [] k l = absurd (not-suc-le-zero l)
  scaled_at c (d ∷ p) zero l = refl
  scaled_at c (d ∷ p) (suc k) l = scaled_at c p k (le_of_suc-le-suc l)

  -- the length of s is the degree of f, and c its leading coefficient
  pub made-degree : {f s : List ℕ} (m : Made G q f s) → (coef G f (length s) ≡ m.lead) × ((j : ℕ) → length s < j → coef G f j ≡ G.zero)
  made-degree {f} {s} m = (
    ap (λ g. g (length s)) m.exact ∙ scaled_at m.lead (monic G s) (length s) (omega (arith, length-monic G s))
        ∙ ap (G.mul m.lead) (get_or-append_seam s G.one [] G.zero) ∙ N.mul_comm m.lead G.one m.lead-below N.one_below ∙ N.one-mul m.lead m.lead-below,
    λ j l. ap (λ g. g j) m.exact
        ∙ get_or-eq_default (map (G.mul m.lead) (monic G s)) G.zero (omega (arith, length-monic G s, length-map (monic G s) (G.mul m.lead))),
  )
