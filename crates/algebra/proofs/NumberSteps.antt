-- What begin and a step of the root finder do, for lists of numbers below q: in the work table's form, as `gcd` and
-- `cofactor` compute.
--   field-product   z^(2^m) + z is the product of z + r over all elements r
--   begin-gcd       BEGIN: the common part of monic p with z^(2^m) + z is the product over all distinct roots
--   split-gcd       a polynomial t parts a product over distinct roots: the gcd keeps the roots at which t is 0
--   split-cofactor  and the cofactor the others
--   split-same      two polynomials that are 0 at the same of these roots part them alike
--   step-gcd        A STEP at level i, with b the i-th power of a: the gcd with Tr(b z) keeps the roots r with Tr(b r)
--                   = 0
--   step-cofactor   and the cofactor the others
--   trace-run       THE CODE, which works modulo P, finds the same gcd with Tr(b z), for every P
--   field-run       and the same gcd with z^(2^m) + z
--   eval-trace_of    the value of Tr(b z) at r is Tr(b r)
-- Assumes nothing.
use mathlib.Core.Path.{◌∙◌, ◌≡◌, ap, ap₂, refl, sym}
use mathlib.Core.Bool.{Bool, cond, not}
use mathlib.Core.List.{List, [], ◌∷◌}
use Prim.Native.Nat.{◌<◌, ◌^◌, ℕ}
use Rattle.algebra.specs.Field.{Laws, OnNumbers, Ops, squared, trace}
use Rattle.algebra.specs.Trial.{All, Distinct, keep, up_from}
use Rattle.algebra.specs.Polynomial.{Below, add, coef, eval, field_poly, from_roots, is_root, linear, roots_of, trace_of, trace_poly}
use Rattle.algebra.specs.Routines.{cofactor, frobenius_mod, gcd, monic, monic_roots, rem, trace_mod}
use Rattle.algebra.proofs.Crossing.{Elem, all, by-elements, by_two, coef-down, count-all, distinct-all, distinct-low, elem-equal, elems, laws, low, low-add, low-all, low-cofactor, low-eval, low-field_poly, low-frobenius_mod, low-from_roots, low-gcd, low-keep, low-monic, low-monic_roots, low-rem, low-squared, low-trace, low-trace_mod, low-trace_poly}
use Rattle.algebra.proofs.StaysBelow.{trace_of-below}
use Rattle.algebra.proofs.Trial.{all_map, keep_same}
use Rattle.algebra.proofs.Splitting as S
use Rattle.algebra.proofs.Modular as M
use Rattle.algebra.proofs.WholeField as W
use Rattle.algebra.proofs.Evaluation as H

module _ {G : Ops ℕ} {q : ℕ} (N : OnNumbers G q) where
  -- the field of elements, and its laws
  abbrev K : Ops (Elem q)
  K = elems N

  abbrev L : Laws K
  L = laws N

  -- the elements at which t is 0, as numbers
  low-roots : (t : List (Elem q)) (x : Elem q) → is_root K t x ≡ is_root G (low N t) x.0
  low-roots t x = ap G.is_zero (low-eval N t x)

  -- ---- begin

  module _ (m : ℕ) (size : q ≡ 2 ^ m) (wide : 1 < q) (fermat : (x : ℕ) → x < q → squared G m x ≡ x) where
    fixed : (x : Elem q) → squared K m x ≡ x
    fixed x = elem-equal (low-squared N m x ∙ fermat x.0 x.1)

    -- z^(2^m) + z is the product of z + r over all elements r
    pub field-product : coef G (from_roots G (up_from 0 q)) ≡ coef G (field_poly G m)
    field-product =
        ap (coef G) (sym (low-from_roots N (all N) ∙ ap (from_roots G) (low-all N)))
        ∙ coef-down N (from_roots K (all N)) (field_poly K m)
        (W.field-product L m (all N) (distinct-all N) (count-all N ∙ size) (rw (← size) wide) fixed)
        ∙ ap (coef G) (low-field_poly N m)

    -- BEGIN: the common part of monic p with z^(2^m) + z is the product over all distinct roots
    pub begin-gcd : (p : List ℕ) → Below q p → gcd G p (field_poly G m) ≡ monic_roots G (roots_of G q (monic G p))
    unfolding roots_of
    begin-gcd = by-elements N (λ p. gcd G p (field_poly G m) ≡ monic_roots G (keep (is_root G (monic G p)) (up_from 0 q))) λ u.
        ap (gcd G (low N u)) (sym (low-field_poly N m))
        ∙ sym (low-gcd N u (field_poly K m))
        ∙ ap (low N) (W.begin-gcd L m (all N) (distinct-all N) (count-all N ∙ size) (rw (← size) wide) fixed u)
        ∙ low-monic_roots N (keep (is_root K (monic K u)) (all N))
        ∙ ap (monic_roots G)
        (low-keep N (is_root K (monic K u)) (is_root G (monic G (low N u))) (all N)
        (λ x. low-roots (monic K u) x ∙ ap (λ l. is_root G l x.0) (low-monic N u))
        ∙ ap (keep (is_root G (monic G (low N u)))) (low-all N))

  -- ---- a step

  -- a polynomial t parts a product over distinct roots: the gcd keeps the roots at which t is 0
  pub split-gcd : (s t : List ℕ) → Below q s → Below q t → Distinct s → gcd G (monic_roots G s) t ≡ monic_roots G (keep (is_root G t) s)
  split-gcd = by_two N (λ s t. Distinct s → gcd G (monic_roots G s) t ≡ monic_roots G (keep (is_root G t) s)) λ u v d.
      ap (λ p. gcd G p (low N v)) (sym (low-monic_roots N u))
      ∙ sym (low-gcd N (monic_roots K u) v)
      ∙ ap (low N) (S.split-gcd L u v (distinct-low N u d))
      ∙ low-monic_roots N (keep (is_root K v) u)
      ∙ ap (monic_roots G) (low-keep N (is_root K v) (is_root G (low N v)) u (low-roots v))

  -- and the cofactor the others
  pub split-cofactor : (s t : List ℕ) → Below q s → Below q t → Distinct s
      → cofactor G (monic_roots G s) (gcd G (monic_roots G s) t) ≡ monic_roots G (keep (λ r. not (is_root G t r)) s)
  split-cofactor = by_two N (λ s t. Distinct s → cofactor G (monic_roots G s) (gcd G (monic_roots G s) t) ≡ monic_roots G (keep (λ r. not (is_root G t r)) s)) λ u v d.
      ap (λ p. cofactor G p (gcd G p (low N v))) (sym (low-monic_roots N u))
      ∙ ap (cofactor G (low N (monic_roots K u))) (sym (low-gcd N (monic_roots K u) v))
      ∙ sym (low-cofactor N (monic_roots K u) (gcd K (monic_roots K u) v))
      ∙ ap (low N) (S.split-cofactor L u v (distinct-low N u d))
      ∙ low-monic_roots N (keep (λ r. not (is_root K v r)) u)
      ∙ ap (monic_roots G) (low-keep N (λ r. not (is_root K v r)) (λ r. not (is_root G (low N v) r)) u (λ r. ap not (low-roots v r)))

  -- two polynomials that are 0 at the same of these roots part them alike
  pub split-same : (s t u : List ℕ) → Below q s → Below q t → Below q u → Distinct s → All (λ r. eval G t r ≡ eval G u r) s
      → gcd G (monic_roots G s) t ≡ gcd G (monic_roots G s) u
  split-same s t u hs ht hu d e =
      split-gcd s t hs ht d ∙ ap (monic_roots G) (keep_same (is_root G t) (is_root G u) s (all_map (λ r. ap G.is_zero) s e))
      ∙ sym (split-gcd s u hs hu d)

  -- the value of Tr(b z) at r is Tr(b r)
  pub eval-trace_of : (m b r : ℕ) → b < q → r < q → eval G (trace_of G m b) r ≡ trace G m (G.mul b r)
  eval-trace_of m b r hb hr =
      ap (λ l. eval G l r) (sym (low-trace_poly N m (K.zero ∷ (b, hb) ∷ []))) ∙ sym (low-eval N (trace_of K m (b, hb)) (r, hr))
      ∙ ap (λ x. x.0) (H.eval-trace_of L m (b, hb) (r, hr)) ∙ low-trace N m (K.mul (b, hb) (r, hr))

  -- what Tr(b z) keeps of numbers below q, and what it leaves
  keep-trace : (c : Bool → Bool) (m b : ℕ) → b < q → (s : List ℕ) → Below q s
      → keep (λ r. c (is_root G (trace_of G m b) r)) s ≡ keep (λ r. c (G.is_zero (trace G m (G.mul b r)))) s
  keep-trace c m b hb [] h = refl
  keep-trace c m b hb (r ∷ s) h =
      ap₂ (λ (x : ℕ) (l : List ℕ). cond (c (G.is_zero x)) (r ∷ l) l) (eval-trace_of m b r hb h.0) (keep-trace c m b hb s h.1)

  -- A STEP at level i, with b the i-th power of a: the gcd with Tr(b z) keeps the roots r with Tr(b r) = 0
  pub step-gcd : (m b : ℕ) → b < q → (s : List ℕ) → Below q s → Distinct s
      → gcd G (monic_roots G s) (trace_of G m b) ≡ monic_roots G (keep (λ r. G.is_zero (trace G m (G.mul b r))) s)
  step-gcd m b hb s h d = split-gcd s (trace_of G m b) h (trace_of-below N m b hb) d ∙ ap (monic_roots G) (keep-trace (λ x. x) m b hb s h)

  -- and the cofactor the others
  pub step-cofactor : (m b : ℕ) → b < q → (s : List ℕ) → Below q s → Distinct s
      → cofactor G (monic_roots G s) (gcd G (monic_roots G s) (trace_of G m b)) ≡ monic_roots G (keep (λ r. not (G.is_zero (trace G m (G.mul b r)))) s)
  step-cofactor m b hb s h d = split-cofactor s (trace_of G m b) h (trace_of-below N m b hb) d ∙ ap (monic_roots G) (keep-trace not m b hb s h)

  -- ---- modulo p

  -- THE CODE, which works modulo P, finds the same gcd with Tr(b z), for every P
  pub trace-run : (m b : ℕ) → b < q → (p : List ℕ) → Below q p → gcd G p (trace_of G m b) ≡ gcd G p (trace_mod G p m (rem G p (G.zero ∷ b ∷ [])))
  trace-run m b hb =
      by-elements N (λ p. gcd G p (trace_of G m b) ≡ gcd G p (trace_mod G p m (rem G p (G.zero ∷ b ∷ [])))) λ u.
      let f : List (Elem q) = K.zero ∷ (b, hb) ∷ [] in
      ap (gcd G (low N u)) (sym (low-trace_poly N m f))
      ∙ sym (low-gcd N u (trace_poly K m f)) ∙ ap (low N) (M.trace-run L m (b, hb) u) ∙ low-gcd N u (trace_mod K u m (rem K u f))
      ∙ ap (gcd G (low N u)) (low-trace_mod N u m (rem K u f) ∙ ap (trace_mod G (low N u) m) (low-rem N u f))

  -- and the same gcd with z^(2^m) + z
  pub field-run : (m : ℕ) (p : List ℕ) → Below q p
      → gcd G p (field_poly G m) ≡ gcd G p (add G (frobenius_mod G p m (rem G p (linear G G.zero))) (rem G p (linear G G.zero)))
  field-run m =
      by-elements N (λ p. gcd G p (field_poly G m) ≡ gcd G p (add G (frobenius_mod G p m (rem G p (linear G G.zero))) (rem G p (linear G G.zero)))) λ u.
      let z : List (Elem q) = rem K u (linear K K.zero) in
      ap (gcd G (low N u)) (sym (low-field_poly N m))
      ∙ sym (low-gcd N u (field_poly K m)) ∙ ap (low N) (M.field-run L m u) ∙ low-gcd N u (add K (frobenius_mod K u m z) z)
      ∙ ap (gcd G (low N u)) (low-add N (frobenius_mod K u m z) z ∙ ap (λ l. add G l (low N z)) (low-frobenius_mod N u m z)
      ∙ ap (λ l. add G (frobenius_mod G (low N u) m l) l) (low-rem N u (linear K K.zero)))
