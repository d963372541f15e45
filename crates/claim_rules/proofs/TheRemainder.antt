-- `field_remainder` is the remainder of z^(2^m) + z by h, and so it does not depend on zeros at the top of h.
--   small-multiple     a multiple of h that ends below a coefficient of h is 0
--   remainder-right    w has a lower degree than h, and h divides z^(2^m) + z + w
--   remainder-only     no other polynomial is so
--   mul-same, add_same products and sums depend on the coefficients alone
--   remainder-same     so does w
-- Assumes nothing.
use mathlib.Core.Path.{◌∙◌, ◌≡◌, ap, ap₂, refl, subst, sym}
use mathlib.Core.Logic.{◌≢◌, ◌⊎◌, inl, inr}
use mathlib.Core.Bool.{true}
use mathlib.Core.List.{List, map}
use Prim.Native.Nat.{◌+◌, ◌<◌, ◌≤◌, ◌^◌, ℕ}
use native.Mathlib.Decide.{dec_le}
use native.Mathlib.Omega.{arith}
use lib.ListN.{get_or-eq_default, length}
use Rattle.algebra.specs.Field.{Laws, OnNumbers, Ops}
use Rattle.algebra.specs.Polynomial.{Below, Divides, DividesBelow, add, coef, field_poly, mul}
use Rattle.algebra.specs.Routines.{monic, rem}
use Rattle.algebra.proofs.Coefficients.{coef-add, coef-mul, coef-scale}
use Rattle.algebra.proofs.Crossing.{Elem, by-elements, by_two, coef-down, coef-up, elem-equal, elems, laws, low, low-add, low-coef, low-monic, low-mul, low-rem, low-scale}
use Rattle.algebra.proofs.Degree.{Top, degree-le, top-times, top?}
use Rattle.algebra.proofs.Divisibility.{divides-plus, divides-scale, divides-self, divides-trans, quotient-exact}
use Rattle.algebra.proofs.Division.{rem-cong}
use Rattle.algebra.proofs.Elements.{zero-of-product}
use Rattle.algebra.proofs.Lengths.{length-rem}
use Rattle.algebra.proofs.NumberDivision.{divides-down, divides-up}
use Rattle.algebra.proofs.NumberMonic.{Made, made-degree, norm-made, norm-some}
use Rattle.algebra.proofs.Series.{Series, equal-of-plus, nought, plus, plus_assoc, plus-back, plus-left-comm, scale, scale_back, times, times-nought}
use Rattle.algebra.proofs.Signs.{signs}
use Rattle.algebra.proofs.StaysBelow.{field_poly-below}
use Rattle.field.specs.Rows.{known}
use Rattle.field.specs.Field.{G}
use Rattle.input.proofs.Fields.{known-field}
use Rattle.claim_rules.specs.Claims.{IsFieldRemainder, field_remainder}
use Rattle.claim_rules.proofs.Remainders.{remainder-below, remainder_of}

module _ {K : Type 0} {F : Ops K} (L : Laws F) where
  open signs F use {0#, ◌⊞◌, ◌⊠◌, ◌∣◌}

  -- a nonzero multiple of monic p divides it, and so what the remainder by p leaves
  rem-divides : (h p f : List K) (c : K) → c ≢ 0# → coef F h ≡ scale F c (coef F (monic F p)) → h ∣ coef F f ⊞ coef F (rem F p f)
  rem-divides h p f c z e =
      divides-trans L (monic F p)
      (subst (λ w. h ∣ w) (ap (scale F (F.inv c)) e ∙ scale_back L c (coef F (monic F p)) z) (divides-scale L (F.inv c) (divides-self L h)))
      (rem-cong L p f)

  -- a multiple of h that ends below a coefficient of h is 0
  pub small-multiple : (h d : List K) (n : ℕ) → coef F h n ≢ 0# → ((k : ℕ) → n ≤ k → coef F d k ≡ 0#) → h ∣ coef F d → coef F d ≡ nought F
  small-multiple h d n z a i = go (top? L h) (top? L i.quotient)
    where
      go : (coef F h ≡ nought F) ⊎ ((j : ℕ) × (c : K) × (c ≢ 0#) × Top F (coef F h) j c)
          → (coef F i.quotient ≡ nought F) ⊎ ((j : ℕ) × (c : K) × (c ≢ 0#) × Top F (coef F i.quotient) j c) → coef F d ≡ nought F
      go (inl y) t = absurd (z (ap (λ f. f n) y))
      go (inr s) (inl y) = sym (quotient-exact L i) ∙ ap (λ w. coef F h ⊠ w) y ∙ times-nought L (coef F h)
      go (inr s) (inr t) =
          let l : n ≤ s.0 = degree-le L z s.3 in
          absurd (t.2 (zero-of-product L s.1 t.1 s.2
          (sym (top-times L s.3 t.3).at ∙ ap (λ f. f (s.0 + t.0)) (quotient-exact L i) ∙ a (s.0 + t.0) (omega arith))))

  -- two remainders of f by h are one
  one-remainder : (h f b c : List K) (n : ℕ) → coef F h n ≢ 0# → ((k : ℕ) → n ≤ k → coef F b k ≡ 0#) → ((k : ℕ) → n ≤ k → coef F c k ≡ 0#)
      → h ∣ coef F (add F f b) → h ∣ coef F (add F f c) → coef F b ≡ coef F c
  unfolding plus
  one-remainder h f b c n z x y p q =
      let B : Series K = coef F b in
      let C : Series K = coef F c in
      let S : Series K = coef F f in
      let both : coef F (add F f b) ⊞ coef F (add F f c) ≡ coef F (add F b c) =
      ap₂ ◌⊞◌ (coef-add L f b) (coef-add L f c) ∙ plus_assoc L S B (S ⊞ C) ∙ ap (λ w. S ⊞ w) (plus-left-comm L B S C) ∙ plus-back L S (B ⊞ C) ∙ sym (coef-add L b c) in
      equal-of-plus L B C (sym (coef-add L b c)
      ∙ small-multiple h (add F b c) n z (λ k l. ap (λ w. w k) (coef-add L b c) ∙ ap₂ F.add (x k l) (y k l) ∙ L.zero-add 0#) (subst (λ w. h ∣ w) both (divides-plus L p q)))

module _ {H : Ops ℕ} {q : ℕ} (N : OnNumbers H q) where
  -- the field of elements, and its laws
  abbrev K : Ops (Elem q)
  K = elems N

  abbrev L : Laws K
  L = laws N

  -- four lists of elements, as numbers
  by-four : (P : List ℕ → List ℕ → List ℕ → List ℕ → Type 0) → ((a b c d : List (Elem q)) → P (low N a) (low N b) (low N c) (low N d))
      → (a b c d : List ℕ) → Below q a → Below q b → Below q c → Below q d → P a b c d
  by-four P f a b c d ha hb hc hd = by_two N (λ a b. P a b c d) (λ a b. by_two N (P (low N a) (low N b)) (f a b) c d hc hd) a b ha hb

  -- a product depends on the coefficients alone
  pub mul-same : (a b c d : List ℕ) → Below q a → Below q b → Below q c → Below q d → coef H a ≡ coef H c → coef H b ≡ coef H d
      → coef H (mul H a b) ≡ coef H (mul H c d)
  mul-same = by-four (λ a b c d. coef H a ≡ coef H c → coef H b ≡ coef H d → coef H (mul H a b) ≡ coef H (mul H c d)) λ a b c d x y.
      ap (coef H) (sym (low-mul N a b)) ∙ coef-down N (mul K a b) (mul K c d) (coef-mul L a b ∙ ap₂ (times K) (coef-up N a c x) (coef-up N b d y) ∙ sym (coef-mul L c d))
      ∙ ap (coef H) (low-mul N c d)

  -- and so does a sum
  pub add_same : (a b c d : List ℕ) → Below q a → Below q b → Below q c → Below q d → coef H a ≡ coef H c → coef H b ≡ coef H d
      → coef H (add H a b) ≡ coef H (add H c d)
  add_same = by-four (λ a b c d. coef H a ≡ coef H c → coef H b ≡ coef H d → coef H (add H a b) ≡ coef H (add H c d)) λ a b c d x y.
      ap (coef H) (sym (low-add N a b)) ∙ coef-down N (add K a b) (add K c d) (coef-add L a b ∙ ap₂ (plus K) (coef-up N a c x) (coef-up N b d y) ∙ sym (coef-add L c d))
      ∙ ap (coef H) (low-add N c d)

  -- what the remainder leaves is divided
  rem-exact : (h p f : List ℕ) (c : ℕ) → Below q h → Below q p → Below q f → c < q → c ≢ H.zero → coef H h ≡ coef H (map (H.mul c) (monic H p))
      → DividesBelow H q h (add H f (rem H p f))
  rem-exact h p f c hh hp hf hc z =
      by_two N (λ h p. coef H h ≡ coef H (map (H.mul c) (monic H p)) → DividesBelow H q h (add H f (rem H p f)))
      (λ a b. by-elements N (λ f. coef H (low N a) ≡ coef H (map (H.mul c) (monic H (low N b))) → DividesBelow H q (low N a) (add H f (rem H (low N b) f)))
      (λ g e.
      let y : Elem q = (c, hc) in
      let same : coef K a ≡ scale K y (coef K (monic K b)) =
      coef-up N a (map (K.mul y) (monic K b)) (e ∙ ap (coef H) (sym (low-scale N y (monic K b) ∙ ap (map (H.mul c)) (low-monic N b)))) ∙ coef-scale L y (monic K b) in
      subst (DividesBelow H q (low N a)) (low-add N g (rem K b g) ∙ ap (add H (low N g)) (low-rem N b g))
      (divides-down N a (add K g (rem K b g)) (subst (λ w. Divides K a w) (sym (coef-add L g (rem K b g))) (rem-divides L a b g y (λ x. z (ap (λ x. x.0) x)) same))))
      f hf) h p hh hp

  -- no other polynomial is so
  rem-one : (h f b c : List ℕ) (n : ℕ) → Below q h → Below q f → Below q b → Below q c → coef H h n ≢ H.zero → ((k : ℕ) → n ≤ k → coef H b k ≡ H.zero)
      → ((k : ℕ) → n ≤ k → coef H c k ≡ H.zero) → DividesBelow H q h (add H f b) → DividesBelow H q h (add H f c) → coef H b ≡ coef H c
  rem-one h f b c n hh hf hb hc =
      by_two N (λ h f. coef H h n ≢ H.zero → ((k : ℕ) → n ≤ k → coef H b k ≡ H.zero) → ((k : ℕ) → n ≤ k → coef H c k ≡ H.zero)
      → DividesBelow H q h (add H f b) → DividesBelow H q h (add H f c) → coef H b ≡ coef H c)
      (λ a g. by_two N (λ b c. coef H (low N a) n ≢ H.zero → ((k : ℕ) → n ≤ k → coef H b k ≡ H.zero) → ((k : ℕ) → n ≤ k → coef H c k ≡ H.zero)
      → DividesBelow H q (low N a) (add H (low N g) b) → DividesBelow H q (low N a) (add H (low N g) c) → coef H b ≡ coef H c)
      (λ b c z x y s t. coef-down N b c (one-remainder L a g b c n (λ i. z (sym (low-coef N a n) ∙ ap (λ w. w.0) i))
      (λ k l. elem-equal (low-coef N b k ∙ x k l)) (λ k l. elem-equal (low-coef N c k ∙ y k l))
      (divides-up N a (add K g b) (subst (DividesBelow H q (low N a)) (sym (low-add N g b)) s))
      (divides-up N a (add K g c) (subst (DividesBelow H q (low N a)) (sym (low-add N g c)) t)))) b c hb hc) h f hh hf

-- ---- of a known field

module _ (m : ℕ) (k : known m ≡ true) where
  -- the numbers of the field
  abbrev N : OnNumbers (G m) (2 ^ m)
  N = (known-field m k).numbers

  -- w has a lower degree than h, and h divides z^(2^m) + z + w
  pub remainder-right : (h : List ℕ) → Below (2 ^ m) h → (j : ℕ) → coef (G m) h j ≢ 0 → IsFieldRemainder m h (field_remainder m h)
  remainder-right h hh j z =
      let s = norm-some N h hh j z in
      let p : List ℕ = s.0 in
      let d : Made (G m) (2 ^ m) h p = norm-made N h hh s.1 in
      subst (IsFieldRemainder m h) (sym (remainder_of m h s.1)) (record {
        place = length p;
        present = λ e. d.nonzero (sym (made-degree N d).0 ∙ e);
        lower = λ i l. get_or-eq_default (rem (G m) p (field_poly (G m) m)) 0 (omega (arith, length-rem (G m) p (field_poly (G m) m)));
        exact = rem-exact N h p (field_poly (G m) m) d.lead hh d.small (field_poly-below N m) d.lead-below d.nonzero d.exact;
      })

  -- no other polynomial is so
  pub remainder-only : (h w x : List ℕ) → Below (2 ^ m) h → Below (2 ^ m) w → Below (2 ^ m) x → IsFieldRemainder m h w → IsFieldRemainder m h x
      → coef (G m) w ≡ coef (G m) x
  remainder-only h w x hh hw hx a b = elim (dec_le a.place b.place) [
    | yes l ↦ rem-one N h (field_poly (G m) m) w x b.place hh (field_poly-below N m) hw hx b.present (λ i j. a.lower i (omega arith)) b.lower a.exact b.exact
    | no l ↦ rem-one N h (field_poly (G m) m) w x a.place hh (field_poly-below N m) hw hx a.present a.lower (λ i j. b.lower i (omega arith)) a.exact b.exact
  ]

  -- it does not depend on zeros at the top of h
  pub remainder-same : (h g : List ℕ) → Below (2 ^ m) h → Below (2 ^ m) g → coef (G m) h ≡ coef (G m) g → (j : ℕ) → coef (G m) h j ≢ 0
      → coef (G m) (field_remainder m h) ≡ coef (G m) (field_remainder m g)
  remainder-same h g hh hg e j z =
      let a = remainder-right h hh j z in
      let b = remainder-right g hg j (λ y. z (ap (λ w. w j) e ∙ y)) in
      remainder-only g (field_remainder m h) (field_remainder m g) hg (remainder-below m k h hh) (remainder-below m k g hg)
      (record {
        place = a.place;
        present = λ y. a.present (ap (λ w. w a.place) e ∙ y);
        lower = a.lower;
        exact = record {
          quotient = a.exact.quotient;
          small = a.exact.small;
          exact = sym (mul-same N h a.exact.quotient g a.exact.quotient hh a.exact.small hg a.exact.small e refl) ∙ a.exact.exact;
        };
      }) b
