-- Every nonzero polynomial within the limit has an acceptable claim.
--   quotient-ends    a quotient has no coefficient where the polynomial has none
--   fitted           a cofactor brought to n places
--   spread_same      the roots spread by their multiplicities
--   rootless-coprime a polynomial without roots and z^(2^m) + z have no common factor
--   total-within     the multiplicities add up to at most the limit;  least-times  each is at least 1
--   CLAIM-EXISTS     the claim: the roots, their multiplicities, what is left, and Bezout's factors
-- Assumes nothing.
use mathlib.Core.Path.{◌∙◌, ◌≡◌, ap, ap₂, fun_ext, refl, subst, sym}
use mathlib.Core.Logic.{◌≢◌, ◌⊎◌, inl, inr}
use mathlib.Core.Option.{Option, none, some}
use mathlib.Core.List.{List, Memᴰ, [], ◌++◌, ◌∷◌, map}
use Prim.Native.Nat.{◌+◌, ◌<◌, ◌≤◌, ◌^◌, suc, ℕ}
use native.Mathlib.Decide.{dec_le}
use native.Mathlib.Omega.{arith}
use lib.ListN.{get_or-eq_default, get_or, length, length-map, replicate}
use Rattle.algebra.specs.Field.{Laws, OnNumbers, Ops, squared}
use Rattle.algebra.specs.Trial.{All}
use Rattle.algebra.specs.Polynomial.{Below, DividesBelow, coef, eval, field_poly, from_roots, mul}
use Rattle.algebra.specs.Routines.{gcd, monic_roots, norm, rem}
use Rattle.algebra.specs.Multiplicity.{multiplicities_of, multiplicity, spread, total}
use Rattle.algebra.proofs.Series.{nought, times}
use Rattle.algebra.proofs.Coefficients.{coef-mul}
use Rattle.algebra.proofs.Crossing.{Elem, below-low, coef-down, coef-up, elems, laws, lift, low, low-from_roots, low-lift, low-mul}
use Rattle.algebra.proofs.Degree.{Monic, Top, top-times, top?}
use Rattle.algebra.proofs.Factors.{from_roots-monic}
use Rattle.algebra.proofs.Lengths.{length-rem}
use Rattle.algebra.proofs.NumberDivision.{gcd-rem}
use Rattle.algebra.proofs.NumberEvaluation.{eval-same}
use Rattle.algebra.proofs.NumberMonic.{Made, made-degree, norm-made, norm-none, norm-some}
use Rattle.algebra.proofs.NumberMultiplicity.{factored, multiplicity-root, total_at_most}
use Rattle.algebra.proofs.NumberSteps.{begin-gcd}
use Rattle.algebra.proofs.RootList.{roots_of-ascending, roots_of-distinct, roots_of-empty, roots_of-exactly, roots_of-norm}
use Rattle.algebra.proofs.StaysBelow.{append-below, field_poly-below, rem_below, replicate-below, roots_of-below}
use Rattle.field.specs.Field.{G, multiplicities_at, roots_at}
use Rattle.input.specs.Limit.{limit}
use Rattle.input.specs.Polynomials.{PolynomialIn}
use Rattle.input.proofs.Fields.{known-field}
use Rattle.input.proofs.Polynomials.{nonzero-place}
use Rattle.claim_rules.specs.Claims.{Acceptable, Claim, claim_of, field_remainder, spread_out}
use Rattle.claim_rules.specs.Admitting.{ClaimIn, Sent}
use Rattle.claim_rules.proofs.ShortBezout.{Pair, fit, fit_length, fit_same, pair_of}
use Rattle.claim_rules.proofs.Remainders.{remainder_of}

module _ {K : Type 0} {F : Ops K} (L : Laws F) where
  -- a quotient has no coefficient where the polynomial has none
  quotient-ends : (p h f : List K) {n : ℕ} → Monic F (coef F p) n → times F (coef F p) (coef F h) ≡ coef F f
      → (k : ℕ) → length f ≤ k → coef F h k ≡ F.zero
  quotient-ends p h f {n} s e k l = go (top? L h)
    where
      go : (coef F h ≡ nought F) ⊎ ((j : ℕ) × (c : K) × (c ≢ F.zero) × Top F (coef F h) j c) → coef F h k ≡ F.zero
      go (inl z) = ap (λ w. w k) z
      go (inr t) = elim (dec_le k t.0) [
        | yes i ↦ absurd (t.2 (sym (L.one-mul t.1) ∙ sym (top-times L s t.3).at ∙ ap (λ w. w (n + t.0)) e ∙ get_or-eq_default f F.zero (omega arith)))
        | no i ↦ t.3.above k (omega arith)
      ]

-- the roots spread by their multiplicities
pub spread_same : (e : ℕ → ℕ) (s : List ℕ) → spread_out s (map e s) ≡ spread e s
unfolding spread_out spread
spread_same e [] = refl
spread_same e (r ∷ s) = ap (λ (l : List ℕ). replicate (e r) r ++ l) (spread_same e s)

-- and they stay elements
spread-below : (q : ℕ) (e : ℕ → ℕ) (s : List ℕ) → Below q s → Below q (spread e s)
unfolding spread
spread-below q e [] h = tt
spread-below q e (r ∷ s) h = append-below q (replicate (e r) r) (spread e s) (replicate-below q (e r) r h.0) (spread-below q e s h.1)

-- no coefficient, no value
nothing : (H : Ops ℕ) (x : ℕ) → eval H [] x ≡ H.zero
unfolding eval
nothing H x = refl

-- each of several numbers is at most their sum
each-total : (l : List ℕ) {n : ℕ} → total l ≤ n → All (λ e. e ≤ n) l
unfolding total
each-total [] h = tt
each-total (e ∷ l) h = (omega arith, each-total l (omega arith))

-- a cofactor of n places
record Fitted (H : Ops ℕ) (q n : ℕ) (p f h : List ℕ) : Type 0 where
  pub list : List ℕ
  pub small : Below q list
  pub long : length list ≡ n
  pub same : coef H list ≡ coef H h
  pub product : coef H (mul H p list) ≡ coef H f

module _ {H : Ops ℕ} {q : ℕ} (N : OnNumbers H q) where
  -- the field of elements, and its laws
  abbrev K : Ops (Elem q)
  K = elems N

  abbrev L : Laws K
  L = laws N

  -- of elements
  fitted-low : (a b c : List (Elem q)) (n : ℕ) → length b ≤ n → coef H (mul H (from_roots H (low N a)) (low N c)) ≡ coef H (low N b)
      → Fitted H q n (from_roots H (low N a)) (low N b) (low N c)
  fitted-low a b c n l e =
      let p : List (Elem q) = from_roots K a in
      let lows : (g : List (Elem q)) → low N (mul K p g) ≡ mul H (from_roots H (low N a)) (low N g) = λ g. low-mul N p g ∙ ap (λ u. mul H u (low N g)) (low-from_roots N a) in
      let whole : times K (coef K p) (coef K c) ≡ coef K b = sym (coef-mul L p c) ∙ coef-up N (mul K p c) b (ap (coef H) (lows c) ∙ e) in
      let g : List (Elem q) = fit K n c in
      let same : coef K g ≡ coef K c = fit_same L n c (λ k i. quotient-ends L p c b (from_roots-monic L a) whole k (omega arith)) in
      record {
        list = low N g;
        small = below-low N g;
        long = length-map g (λ x. x.0) ∙ fit_length L n c;
        same = coef-down N g c same;
        product = ap (coef H) (sym (lows g)) ∙ coef-down N (mul K p g) b (coef-mul L p g ∙ ap (times K (coef K p)) same ∙ whole);
      }

  -- of numbers below q
  fitted : (s f : List ℕ) (n : ℕ) → Below q s → Below q f → length f ≤ n → (d : DividesBelow H q (from_roots H s) f) → Fitted H q n (from_roots H s) f d.quotient
  fitted s f n hs hf l d = go (lift N s hs) (lift N f hf) (lift N d.quotient d.small) s f d.quotient (low-lift N s hs) (low-lift N f hf) (low-lift N d.quotient d.small) l d.exact
    where
      go : (a b c : List (Elem q)) (s f h : List ℕ) → low N a ≡ s → low N b ≡ f → low N c ≡ h → length f ≤ n → coef H (mul H (from_roots H s) h) ≡ coef H f
          → Fitted H q n (from_roots H s) f h
      go a b c s f h x y z l e =
          subst (λ s. Fitted H q n (from_roots H s) f h) x (subst (λ f. Fitted H q n (from_roots H (low N a)) f h) y (subst (λ h. Fitted H q n (from_roots H (low N a)) (low N b) h) z
          (fitted-low a b c n (omega (arith, length-map b (λ x. x.0), ap length y))
          (ap₂ (λ s h. coef H (mul H (from_roots H s) h)) x z ∙ e ∙ ap (coef H) (sym y)))))

  -- a polynomial without roots and z^(2^m) + z have no common factor
  pub rootless-coprime : (m : ℕ) → q ≡ 2 ^ m → 1 < q → ((x : ℕ) → x < q → squared H m x ≡ x) → (g p : List ℕ) → Below q g → norm H (length g) g ≡ some p
      → ((x : ℕ) → x < q → eval H g x ≢ H.zero) → gcd H p (rem H p (field_poly H m)) ≡ []
  unfolding monic_roots
  rootless-coprime m size wide fermat g p hg e bare =
      let d : Made H q g p = norm-made N g hg e in
      sym (gcd-rem N p (field_poly H m) d.small (field_poly-below N m)) ∙ begin-gcd N m size wide fermat p d.small
      ∙ ap (monic_roots H) (roots_of-norm N g hg e ∙ roots_of-empty N g hg bare)

-- ---- of a polynomial within the limit

-- a claim that is let in and acceptable, with numbers beside the roots that fit 16 bits
pub record Claimable (m : ℕ) (f : List ℕ) (c : Claim) : Type 0 where
  pub let-in : ClaimIn m f c
  pub acceptable : Acceptable m f c
  pub few : All (λ e. e ≤ limit) c.times

module _ (m : ℕ) (f : List ℕ) (t : PolynomialIn m f) where
  -- the numbers of the field
  abbrev N : OnNumbers (G m) (2 ^ m)
  N = (known-field m t.field).numbers

  -- a coefficient that is not 0
  place : (j : ℕ) × (get_or f j 0 ≢ 0)
  place = nonzero-place t

  -- each multiplicity of a root is at least 1
  pub least-times : All (λ e. 1 ≤ e) (multiplicities_at m f)
  least-times = go (roots_at m f) (λ x i. (roots_of-exactly N f t.small x).0 i)
    where
      go : (s : List ℕ) → ((x : ℕ) → Memᴰ x s → (x < 2 ^ m) × (eval (G m) f x ≡ 0)) → All (λ e. 1 ≤ e) (multiplicities_of (G m) f s)
      go [] h = tt
      go (r ∷ s) h =
          let a = h r (Memᴰ.head refl) in
          ((multiplicity-root N f t.small place.0 place.1 r a.0).1 a.1, go s (λ x i. h x (Memᴰ.tail i)))

  -- they add up to at most the limit
  pub total-within : total (multiplicities_at m f) ≤ limit
  total-within =
      let s = norm-some N f t.small place.0 place.1 in
      let d : Made (G m) (2 ^ m) f s.0 = norm-made N f t.small s.1 in
      let k = made-degree N d in
      let b : total (multiplicities_at m f) ≤ length s.0 =
      total_at_most N (roots_at m f) f (roots_of-below (G m) (2 ^ m) f) t.small (length s.0) (λ z. d.nonzero (sym k.0 ∙ z)) k.1 (roots_of-distinct (G m) (2 ^ m) f) in
      omega (arith, d.shorter, t.few)

  -- and so each is
  most-times : All (λ e. e ≤ limit) (multiplicities_at m f)
  most-times = each-total (multiplicities_at m f) total-within

  -- a list of limit + 1 elements
  sent : (p : List ℕ) → Below (2 ^ m) p → length p ≡ suc limit → Sent m p
  sent p h l = record { some = omega (arith, l); few = omega (arith, l); small = h }

  -- the claim with a given cofactor
  module _ (g : List ℕ) (hg : Below (2 ^ m) g) (long : length g ≡ suc limit)
      (product : coef (G m) (mul (G m) (from_roots (G m) (spread_out (roots_at m f) (multiplicities_at m f))) g) ≡ coef (G m) f)
      (bare : (x : ℕ) → x < 2 ^ m → eval (G m) g x ≢ 0) where
    -- it is not 0
    made_of : (p : List ℕ) × (norm (G m) (length g) g ≡ some p)
    made_of = go (norm (G m) (length g) g) refl
      where
        go : (o : Option (List ℕ)) → norm (G m) (length g) g ≡ o → (p : List ℕ) × (norm (G m) (length g) g ≡ some p)
        go none e =
            let zeros : coef (G m) g ≡ coef (G m) [] = fun_ext λ k. norm-none N g hg e k in
            absurd (bare 0 N.zero-below (eval-same N g [] hg tt zeros 0 N.zero-below ∙ nothing (G m) 0))
        go (some p) e = (p, e)

    -- Bezout's factors
    pair : Pair (G m) (2 ^ m) (suc limit) g (field_remainder m g)
    pair =
        let p : List ℕ = made_of.0 in
        let d : Made (G m) (2 ^ m) g p = norm-made N g hg made_of.1 in
        let w : List ℕ = rem (G m) p (field_poly (G m) m) in
        subst (Pair (G m) (2 ^ m) (suc limit) g) (sym (remainder_of m g made_of.1))
        (pair_of N g p w d.lead (suc limit) hg d.small (rem_below N p (field_poly (G m) m) d.small (field_poly-below N m)) d.lead-below d.nonzero d.exact
        (omega (arith, length-rem (G m) p (field_poly (G m) m))) (rootless-coprime N m refl N.one_below (known-field m t.field).fermat g p hg made_of.1 bare)
        (omega (arith, d.shorter, long)))

    claim-with : (c : Claim) × Claimable m f c
    claim-with =
        let b : Pair (G m) (2 ^ m) (suc limit) g (field_remainder m g) = pair in (
          claim_of (roots_at m f) (multiplicities_at m f) g b.first b.second,
          record {
            let-in = record {
              field = t.field;
              given = record { some = t.some; few = t.few; small = t.small };
              cofactor = sent g hg long;
              first = sent b.first b.first_small b.first-long;
              second = sent b.second b.second-small b.second-long;
              elements = roots_of-below (G m) (2 ^ m) f;
              nonzero = t.nonzero;
            };
            acceptable = record {
              paired = sym (length-map (roots_at m f) (multiplicity (G m) f));
              ascending = roots_of-ascending (G m) (2 ^ m) f;
              least = least-times;
              product = product;
              coprime = b.one;
            };
            few = most-times;
          },
        )

  -- CLAIM-EXISTS: the roots, their multiplicities, what is left of f, and Bezout's factors
  pub claim-exists : (c : Claim) × Claimable m f c
  claim-exists =
      let s : List ℕ = roots_at m f in
      let e : ℕ → ℕ = multiplicity (G m) f in
      let k = factored N f t.small place.0 place.1 in
      let hs : Below (2 ^ m) (spread e s) = spread-below (2 ^ m) e s (roots_of-below (G m) (2 ^ m) f) in
      let g = fitted N (spread e s) f (suc limit) hs t.small t.few k.0 in
      claim-with g.list g.small g.long (ap (λ l. coef (G m) (mul (G m) (from_roots (G m) l) g.list)) (spread_same e s) ∙ g.product)
      (λ x l z. k.1 x l (sym (eval-same N g.list k.0.quotient g.small k.0.small g.same x l) ∙ z))
