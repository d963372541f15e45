-- The remainder w of z^(2^m) + z by h.
--   remainder_of      w by the monic multiple of h
--   remainder-short   w has no coefficient at the degree of h or above
--   remainder-exact   h divides z^(2^m) + z + w
--   remainder-only    no other polynomial is so
--   field-zero        z^(2^m) + z is 0 at every element
--   rootless          so where u h + v w = 1, h has no root
-- Assumes nothing.
use mathlib.Core.Path.{◌∙◌, ◌≡◌, ap, ap₂, refl, sym}
use mathlib.Core.Logic.{◌≢◌}
use mathlib.Core.Option.{Option, Option-elim, none, some}
use mathlib.Core.List.{List, [], ◌∷◌, map}
use mathlib.Core.Bool.{true}
use Prim.Native.Nat.{◌<◌, ◌^◌, ℕ}
use lib.ListN.{length}
use Rattle.algebra.specs.Field.{OnNumbers, Ops, squared}
use Rattle.algebra.specs.Polynomial.{Below, add, coef, eval, field_poly, mul}
use Rattle.algebra.specs.Routines.{monic, norm, rem}
use Rattle.algebra.proofs.Crossing.{Elem, elems, laws, low-eval, low-field_poly, low-squared}
use Rattle.algebra.proofs.Evaluation.{eval-field_poly}
use Rattle.algebra.proofs.NumberDivision.{eval-rem}
use Rattle.algebra.proofs.NumberElements.{mul-zero, zero-of-product}
use Rattle.algebra.proofs.NumberEvaluation.{eval_add, eval_mul, eval-same, eval-scale}
use Rattle.algebra.proofs.NumberMonic.{Made, norm-made}
use Rattle.algebra.proofs.StaysBelow.{add-below, eval-below, field_poly-below, monic-below, mul-below, rem_below, scale-below}
use Rattle.field.specs.Rows.{known}
use Rattle.field.specs.Field.{G}
use Rattle.input.proofs.Fields.{known-field}
use Rattle.claim_rules.specs.Claims.{field_remainder}

-- w by the monic multiple of h
pub remainder_of : (m : ℕ) (h : List ℕ) {p : List ℕ} → norm (G m) (length h) h ≡ some p → field_remainder m h ≡ rem (G m) p (field_poly (G m) m)
unfolding field_remainder Option-elim
remainder_of m h e = ap (λ (o : Option (List ℕ)). Option-elim o [] (λ p. rem (G m) p (field_poly (G m) m))) e

module _ {H : Ops ℕ} {q : ℕ} (N : OnNumbers H q) (m : ℕ) (fermat : (x : ℕ) → x < q → squared H m x ≡ x) where
  -- z^(2^m) + z is 0 at every element
  pub field-zero : (x : ℕ) → x < q → eval H (field_poly H m) x ≡ H.zero
  field-zero x l =
      let y : Elem q = (x, l) in
      ap (λ f. eval H f x) (sym (low-field_poly N m)) ∙ sym (low-eval N (field_poly (elems N) m) y)
      ∙ ap (λ z. z.0) (eval-field_poly (laws N) m y) ∙ ap (λ z. H.add z x) (low-squared N m y ∙ fermat x l) ∙ N.add-self x l

  -- where h is 0 at x, so is w
  remainder-zero : (h p : List ℕ) → Below q h → norm H (length h) h ≡ some p → (x : ℕ) → x < q → eval H h x ≡ H.zero → eval H (rem H p (field_poly H m)) x ≡ H.zero
  remainder-zero h p hh e x l z =
      let d : Made H q h p = norm-made N h hh e in
      let hm : Below q (monic H p) = monic-below N p d.small in
      let value : H.mul d.lead (eval H (monic H p) x) ≡ H.zero =
      sym (eval-scale N d.lead (monic H p) d.lead-below hm x l)
      ∙ sym (eval-same N h (map (H.mul d.lead) (monic H p)) hh (scale-below N d.lead (monic H p) d.lead-below hm) d.exact x l) ∙ z in
      eval-rem N p (field_poly H m) d.small (field_poly-below N m) x l
      (zero-of-product N d.lead (eval H (monic H p) x) d.lead-below (eval-below N (monic H p) x hm l) d.nonzero value) ∙ field-zero x l

  -- where u h + v w = 1, and w is 0 wherever h is, h has no root
  pub rootless : (h u v w : List ℕ) → Below q h → Below q u → Below q v → Below q w
      → coef H (add H (mul H u h) (mul H v w)) ≡ coef H (H.one ∷ []) → (x : ℕ) → x < q → (eval H h x ≡ H.zero → eval H w x ≡ H.zero) → eval H h x ≢ H.zero
  unfolding eval
  rootless h u v w hh hu hv hw s x l both z =
      let a : List ℕ = mul H u h in
      let b : List ℕ = mul H v w in
      let ha : Below q a = mul-below N u h hu hh in
      let hb : Below q b = mul-below N v w hv hw in
      let left : eval H a x ≡ H.zero = eval_mul N u h hu hh x l ∙ ap (H.mul (eval H u x)) z ∙ mul-zero N (eval H u x) (eval-below N u x hu l) in
      let right : eval H b x ≡ H.zero = eval_mul N v w hv hw x l ∙ ap (H.mul (eval H v x)) (both z) ∙ mul-zero N (eval H v x) (eval-below N v x hv l) in
      let one : eval H (H.one ∷ []) x ≡ H.one =
      ap (H.add H.one) (mul-zero N x l) ∙ N.add_comm H.one H.zero N.one_below N.zero-below ∙ N.zero-add H.one N.one_below in
      N.one≢zero (sym one ∙ sym (eval-same N (add H a b) (H.one ∷ []) (add-below N a b ha hb) (N.one_below, tt) s x l)
      ∙ eval_add N a b ha hb x l ∙ ap₂ H.add left right ∙ N.zero-add H.zero N.zero-below)

-- ---- of a known field

module _ (m : ℕ) (k : known m ≡ true) (h : List ℕ) (hh : Below (2 ^ m) h) where
  -- the numbers of the field
  abbrev N : OnNumbers (G m) (2 ^ m)
  N = (known-field m k).numbers

  -- w is 0 wherever h is
  pub remainder-root : (x : ℕ) → x < 2 ^ m → eval (G m) h x ≡ 0 → eval (G m) (field_remainder m h) x ≡ 0
  unfolding field_remainder Option-elim eval
  remainder-root x l z = go (norm (G m) (length h) h) refl
    where
      go : (o : Option (List ℕ)) → norm (G m) (length h) h ≡ o → eval (G m) (Option-elim o [] (λ p. rem (G m) p (field_poly (G m) m))) x ≡ 0
      go none e = refl
      go (some p) e = remainder-zero N m (known-field m k).fermat h p hh e x l z

  -- and has elements of the field
  pub remainder-below : Below (2 ^ m) (field_remainder m h)
  unfolding field_remainder Option-elim
  remainder-below = go (norm (G m) (length h) h) refl
    where
      go : (o : Option (List ℕ)) → norm (G m) (length h) h ≡ o → Below (2 ^ m) (Option-elim o [] (λ p. rem (G m) p (field_poly (G m) m)))
      go none e = tt
      go (some p) e = rem_below N p (field_poly (G m) m) (norm-made N h hh e).small (field_poly-below N m)
