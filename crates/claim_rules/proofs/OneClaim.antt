-- A polynomial has one acceptable claim in which v has a lower degree than h.
--   no-divisors   where a product is 0 and one factor is not, the other is
--   one-cofactor  the cofactor: the product of z + r over the roots, each as often as its multiplicity, cancels
--   one-second    v: h divides the difference of two, which has a lower degree
--   one-first     u: what is left of 1 is a multiple of h in one way
--   spread-below  the roots spread by the numbers beside them stay elements
--   same-list     lists of one length with the same coefficients are one
--   ONE-CLAIM     so two such claims, with as many coefficients in each, are one
-- Assumes nothing.
use mathlib.Core.Path.{◌∙◌, ◌≡◌, ap, ap₂, sym}
use mathlib.Core.Logic.{◌≢◌, ◌⊎◌, inl, inr}
use mathlib.Core.List.{List, [], ◌∷◌}
use Prim.Native.Nat.{◌+◌, ◌≤◌, ◌^◌, ℕ}
use native.Mathlib.Decide.{dec_le}
use native.Mathlib.Omega.{arith}
use lib.ListN.{length, replicate}
use lib.Seq.{ext_get_or}
use Rattle.algebra.specs.Field.{Laws, OnNumbers, Ops}
use Rattle.algebra.specs.Polynomial.{Below, add, coef, from_roots, mul}
use Rattle.algebra.proofs.Coefficients.{coef-add, coef-mul, coef-one}
use Rattle.algebra.proofs.Crossing.{Elem, by-elements, by_two, coef-down, coef-up, elem-equal, elems, laws, low, low-add, low-coef, low-from_roots, low-mul}
use Rattle.algebra.proofs.Degree.{Top, monic-cancel, top-times, top?}
use Rattle.algebra.proofs.Elements.{zero-of-product}
use Rattle.algebra.proofs.Factors.{from_roots-monic}
use Rattle.algebra.proofs.Series.{Series, equal-of-plus, nought, plus, plus_assoc, plus-back, plus_comm, plus-self, plus-times, times, times-comm, times-left-comm, times-plus, times-unit, unit}
use Rattle.algebra.proofs.Signs.{signs}
use Rattle.algebra.proofs.StaysBelow.{append-below, replicate-below}
use Rattle.field.specs.Field.{G}
use Rattle.input.proofs.Fields.{known-field}
use Rattle.claim_rules.specs.Claims.{Acceptable, Claim, claim_of, field_remainder, spread_out}
use Rattle.claim_rules.specs.Admitting.{ClaimIn, Full}
use Rattle.claim_rules.proofs.Complete.{claim-complete}
use Rattle.claim_rules.proofs.Combinations.{by-six}
use Rattle.claim_rules.proofs.Remainders.{remainder-below}
use Rattle.claim_rules.proofs.TheRemainder.{small-multiple}

module _ {K : Type 0} {F : Ops K} (L : Laws F) where
  open signs F use {0#, 1#, ◌⊕◌, ◌⊞◌, ◌⊠◌, ◌∣◌}

  -- where a product is 0 and one factor is not, the other is
  no-divisors : (h e : List K) (n : ℕ) → coef F h n ≢ 0# → coef F h ⊠ coef F e ≡ nought F → coef F e ≡ nought F
  no-divisors h e n z x = go (top? L h) (top? L e)
    where
      go : (coef F h ≡ nought F) ⊎ ((j : ℕ) × (c : K) × (c ≢ 0#) × Top F (coef F h) j c)
          → (coef F e ≡ nought F) ⊎ ((j : ℕ) × (c : K) × (c ≢ 0#) × Top F (coef F e) j c) → coef F e ≡ nought F
      go (inl y) t = absurd (z (ap (λ f. f n) y))
      go (inr s) (inl y) = y
      go (inr s) (inr t) = absurd (t.2 (zero-of-product L s.1 t.1 s.2 (sym (top-times L s.3 t.3).at ∙ ap (λ f. f (s.0 + t.0)) x)))

  -- of two sums that are equal, what is in both changes sides
  across : (A B C E : Series K) → A ⊞ B ≡ C ⊞ E → B ⊞ E ≡ A ⊞ C
  across A B C E x =
      ap (λ g. g ⊞ E) (sym (plus-back L A B) ∙ ap (λ g. A ⊞ g) x) ∙ plus_assoc L A (C ⊞ E) E
      ∙ ap (λ g. A ⊞ g) (plus_comm L (C ⊞ E) E ∙ ap (λ g. E ⊞ g) (plus_comm L C E) ∙ plus-back L E C)

  -- h divides the difference of two v
  second-divides : (h w u v x y : List K) → coef F u ⊠ coef F h ⊞ coef F v ⊠ coef F w ≡ unit F → coef F x ⊠ coef F h ⊞ coef F y ⊠ coef F w ≡ unit F
      → h ∣ coef F (add F v y)
  second-divides h w u v x y a b =
      let H : Series K = coef F h in
      let W : Series K = coef F w in
      let U : Series K = coef F u in
      let B : Series K = coef F v in
      let D : Series K = coef F (add F v y) in
      let E : Series K = coef F (add F u x) in
      let both : D ⊠ W ≡ H ⊠ E =
      ap (λ g. g ⊠ W) (coef-add L v y) ∙ plus-times L B (coef F y) W ∙ across (U ⊠ H) (B ⊠ W) (coef F x ⊠ H) (coef F y ⊠ W) (a ∙ sym b)
      ∙ sym (plus-times L U (coef F x) H) ∙ ap (λ g. g ⊠ H) (sym (coef-add L u x)) ∙ times-comm L E H in
      let q : List K = add F (mul F (add F v y) u) (mul F v (add F u x)) in
      let part : coef F q ≡ D ⊠ U ⊞ B ⊠ E =
      coef-add L (mul F (add F v y) u) (mul F v (add F u x)) ∙ ap₂ ◌⊞◌ (coef-mul L (add F v y) u) (coef-mul L v (add F u x)) in
      record {
        quotient = q;
        exact = coef-mul L h q ∙ ap (λ g. H ⊠ g) part ∙ times-plus L H (D ⊠ U) (B ⊠ E)
            ∙ ap₂ ◌⊞◌ (times-left-comm L H D U ∙ ap (λ g. D ⊠ g) (times-comm L H U)) (times-left-comm L H B E ∙ ap (λ g. B ⊠ g) (sym both) ∙ times-left-comm L B D W)
            ∙ sym (times-plus L D (U ⊠ H) (B ⊠ W)) ∙ ap (λ g. D ⊠ g) a ∙ times-unit L D;
      }

  -- what both polynomials lack, their sum lacks
  none-there : (f g : List K) (k : ℕ) → coef F f k ≡ 0# → coef F g k ≡ 0# → coef F (add F f g) k ≡ 0#
  unfolding plus
  none-there f g k x y = ap (λ s. s k) (coef-add L f g) ∙ ap₂ ◌⊕◌ x y ∙ L.zero-add 0#

  -- so two v of a lower degree are one
  second-up : (h w u v x y : List K) (n : ℕ) → coef F h n ≢ 0# → ((k : ℕ) → n ≤ k → coef F v k ≡ 0#) → ((k : ℕ) → n ≤ k → coef F y k ≡ 0#)
      → coef F u ⊠ coef F h ⊞ coef F v ⊠ coef F w ≡ unit F → coef F x ⊠ coef F h ⊞ coef F y ⊠ coef F w ≡ unit F → coef F v ≡ coef F y
  second-up h w u v x y n z p q a b =
      equal-of-plus L (coef F v) (coef F y)
      (sym (coef-add L v y) ∙ small-multiple L h (add F v y) n z (λ k l. none-there v y k (p k l) (q k l)) (second-divides h w u v x y a b))

  -- and two u
  first-up : (h u x : List K) (n : ℕ) (R : Series K) → coef F h n ≢ 0# → coef F u ⊠ coef F h ⊞ R ≡ unit F → coef F x ⊠ coef F h ⊞ R ≡ unit F → coef F u ≡ coef F x
  first-up h u x n R z a b =
      let U : Series K = coef F u ⊠ coef F h in
      let X : Series K = coef F x ⊠ coef F h in
      let same : U ≡ X = sym (plus-back L R U) ∙ ap (λ g. R ⊞ g) (plus_comm L R U ∙ a ∙ sym b ∙ plus_comm L X R) ∙ plus-back L R X in
      equal-of-plus L (coef F u) (coef F x) (sym (coef-add L u x)
      ∙ no-divisors h (add F u x) n z (times-comm L (coef F h) (coef F (add F u x)) ∙ ap (λ g. g ⊠ coef F h) (coef-add L u x)
      ∙ plus-times L (coef F u) (coef F x) (coef F h) ∙ ap (λ g. g ⊞ X) same ∙ plus-self L X))

module _ {H : Ops ℕ} {q : ℕ} (N : OnNumbers H q) where
  -- the field of elements, and its laws
  abbrev K : Ops (Elem q)
  K = elems N

  abbrev L : Laws K
  L = laws N

  -- the cofactor
  one-cofactor : (s h g : List ℕ) → Below q s → Below q h → Below q g → coef H (mul H (from_roots H s) h) ≡ coef H (mul H (from_roots H s) g) → coef H h ≡ coef H g
  one-cofactor s h g hs hh hg =
      by-elements N (λ s. coef H (mul H (from_roots H s) h) ≡ coef H (mul H (from_roots H s) g) → coef H h ≡ coef H g)
      (λ a. by_two N (λ h g. coef H (mul H (from_roots H (low N a)) h) ≡ coef H (mul H (from_roots H (low N a)) g) → coef H h ≡ coef H g)
      (λ b c e.
      let p : List (Elem q) = from_roots K a in
      let lows : (d : List (Elem q)) → low N (mul K p d) ≡ mul H (from_roots H (low N a)) (low N d) = λ d. low-mul N p d ∙ ap (λ u. mul H u (low N d)) (low-from_roots N a) in
      coef-down N b c (monic-cancel L b c (from_roots-monic L a)
      (sym (coef-mul L p b) ∙ coef-up N (mul K p b) (mul K p c) (ap (coef H) (lows b) ∙ e ∙ ap (coef H) (sym (lows c))) ∙ coef-mul L p c))) h g hh hg) s hs

  -- a combination that is 1, of elements
  combined-up : (h w u v : List (Elem q)) → coef H (add H (mul H (low N u) (low N h)) (mul H (low N v) (low N w))) ≡ coef H (H.one ∷ [])
      → plus K (times K (coef K u) (coef K h)) (times K (coef K v) (coef K w)) ≡ unit K
  combined-up h w u v e =
      sym (coef-add L (mul K u h) (mul K v w) ∙ ap₂ (plus K) (coef-mul L u h) (coef-mul L v w))
      ∙ coef-up N (add K (mul K u h) (mul K v w)) (K.one ∷ []) (ap (coef H) (low-add N (mul K u h) (mul K v w) ∙ ap₂ (add H) (low-mul N u h) (low-mul N v w)) ∙ e)
      ∙ coef-one L

  -- both factors
  one-pair : (h w u v x y : List ℕ) → Below q h → Below q w → Below q u → Below q v → Below q x → Below q y → (n : ℕ) → coef H h n ≢ H.zero
      → ((k : ℕ) → n ≤ k → coef H v k ≡ H.zero) → ((k : ℕ) → n ≤ k → coef H y k ≡ H.zero)
      → coef H (add H (mul H u h) (mul H v w)) ≡ coef H (H.one ∷ []) → coef H (add H (mul H x h) (mul H y w)) ≡ coef H (H.one ∷ [])
      → (coef H u ≡ coef H x) × (coef H v ≡ coef H y)
  one-pair = by-six N (λ h w u v x y. (n : ℕ) → coef H h n ≢ H.zero → ((k : ℕ) → n ≤ k → coef H v k ≡ H.zero) → ((k : ℕ) → n ≤ k → coef H y k ≡ H.zero)
      → coef H (add H (mul H u h) (mul H v w)) ≡ coef H (H.one ∷ []) → coef H (add H (mul H x h) (mul H y w)) ≡ coef H (H.one ∷ [])
      → (coef H u ≡ coef H x) × (coef H v ≡ coef H y)) λ h w u v x y n z p r a b.
      let Z : coef K h n ≢ K.zero = λ i. z (sym (low-coef N h n) ∙ ap (λ w. w.0) i) in
      let A = combined-up h w u v a in
      let B = combined-up h w x y b in
      let same : coef K v ≡ coef K y = second-up L h w u v x y n Z (λ k l. elem-equal (low-coef N v k ∙ p k l)) (λ k l. elem-equal (low-coef N y k ∙ r k l)) A B in
      (coef-down N u x (first-up L h u x n (times K (coef K v) (coef K w)) Z A (ap (λ g. plus K (times K (coef K x) (coef K h)) (times K g (coef K w))) same ∙ B)), coef-down N v y same)

-- the roots spread by the numbers beside them stay elements
pub spread-below : (q : ℕ) (s es : List ℕ) → Below q s → Below q (spread_out s es)
unfolding spread_out
spread-below q [] es h = tt
spread-below q (r ∷ s) [] h = tt
spread-below q (r ∷ s) (e ∷ es) h = append-below q (replicate e r) (spread_out s es) (replicate-below q e r h.0) (spread-below q s es h.1)

-- lists of one length with the same coefficients are one
pub same-list : (m : ℕ) (p r : List ℕ) → length p ≡ length r → coef (G m) p ≡ coef (G m) r → p ≡ r
same-list m p r n e = ext_get_or 0 p r n (λ i l. ap (λ f. f i) e)

module _ {m : ℕ} {f : List ℕ} {c d : Claim} (i : ClaimIn m f c) (a : Acceptable m f c) (s : Full m c) (j : ClaimIn m f d) (b : Acceptable m f d) (t : Full m d) where
  -- the numbers of the field
  abbrev N : OnNumbers (G m) (2 ^ m)
  N = (known-field m i.field).numbers

  same-roots : (c.roots ≡ d.roots) × (c.times ≡ d.times)
  same-roots =
      let x = claim-complete i a in
      let y = claim-complete j b in
      (x.0 ∙ sym y.0, x.1 ∙ sym y.1)

  same-cofactor : c.cofactor ≡ d.cofactor
  same-cofactor =
      let r = same-roots in
      same-list m c.cofactor d.cofactor (s.cofactor ∙ sym t.cofactor)
      (one-cofactor N (spread_out c.roots c.times) c.cofactor d.cofactor (spread-below (2 ^ m) c.roots c.times i.elements) i.cofactor.small j.cofactor.small
      (a.product ∙ sym b.product ∙ ap₂ (λ x y. coef (G m) (mul (G m) (from_roots (G m) (spread_out x y)) d.cofactor)) (sym r.0) (sym r.1)))

  -- with the place of the higher bound
  same-pair : (n : ℕ) → coef (G m) c.cofactor n ≢ 0 → ((k : ℕ) → n ≤ k → coef (G m) c.second k ≡ 0) → ((k : ℕ) → n ≤ k → coef (G m) d.second k ≡ 0)
      → (coef (G m) c.first ≡ coef (G m) d.first) × (coef (G m) c.second ≡ coef (G m) d.second)
  same-pair n z x y =
      let h : List ℕ = c.cofactor in
      let w : List ℕ = field_remainder m h in
      one-pair N h w c.first c.second d.first d.second i.cofactor.small (remainder-below m i.field h i.cofactor.small) i.first.small i.second.small
      j.first.small j.second.small n z x y a.coprime
      (ap (λ g. coef (G m) (add (G m) (mul (G m) d.first g) (mul (G m) d.second (field_remainder m g)))) same-cofactor ∙ b.coprime)

  same-factors : (c.first ≡ d.first) × (c.second ≡ d.second)
  same-factors =
      let x = s.lower in
      let y = t.lower in
      let k : (coef (G m) c.first ≡ coef (G m) d.first) × (coef (G m) c.second ≡ coef (G m) d.second) = elim (dec_le x.place y.place) [
        | yes l ↦ same-pair y.place (λ e. y.present (ap (λ g. coef (G m) g y.place) (sym same-cofactor) ∙ e)) (λ k i. x.above k (omega arith)) y.above
        | no l ↦ same-pair x.place x.present x.above (λ k i. y.above k (omega arith))
      ] in
      (same-list m c.first d.first (s.first ∙ sym t.first) k.0, same-list m c.second d.second (s.second ∙ sym t.second) k.1)

  -- ONE-CLAIM
  pub one-claim : c ≡ d
  one-claim =
      let r = same-roots in
      let p = same-factors in
      ap₂ (λ x y. claim_of x y c.cofactor c.first c.second) r.0 r.1 ∙ ap₂ (λ x y. claim_of d.roots d.times x y c.second) same-cofactor p.0
      ∙ ap (claim_of d.roots d.times d.cofactor d.first) p.1
