-- The multiplicity of a root of a list of numbers below q, as the code holds it.
--   multiplicity-right   `multiplicity` is the largest e for which (z + r)^e divides f
--   multiplicity-only    there is one such e
--   multiplicity-root    it is at least 1 exactly at the roots
--   multiplicity-same    it depends on the coefficients alone
--   multiplicity-top     so zeros at the top do not change it
--   multiplicity-scale   nor does a nonzero factor
--   multiplicity-other   nor, at another element, taking out (z + r)^j
--   taken_out            the multiplicities may be counted one after the other, each taken out
--   quotient_by-below, left_in-below   nothing leaves the numbers below q
--   left-nonzero         what is left of f is not 0 where f is not
--   factored             the product of (z + r)^e over the roots divides f, and the cofactor has no root
--   total_at_most        the multiplicities add up to at most the degree
--   all-simple           where there are as many distinct roots as the degree, all are 1;  roots-simple  so of all its roots
--   square-double        the root of z^2 + s^2 is double
-- Assumes nothing.
use mathlib.Core.Path.{◌∙◌, ◌≡◌, ap, ap₂, refl, subst, sym}
use mathlib.Core.Logic.{◌↔◌, ◌≢◌}
use mathlib.Core.Bool.{Bool, cond, false, true}
use mathlib.Core.List.{List, Memᴰ, [], ◌++◌, ◌∷◌, map, map-append}
use Prim.Native.Nat.{◌-◌, ◌<◌, ◌≤◌, suc, zero, ℕ}
use native.Mathlib.Omega.{arith}
use lib.ListN.{length, length-map, replicate, take}
use Rattle.algebra.specs.Field.{Laws, OnNumbers, Ops}
use Rattle.algebra.specs.Trial.{All, Distinct}
use Rattle.algebra.specs.Polynomial.{Below, DividesBelow, coef, eval, from_roots, mul, roots_of}
use Rattle.algebra.specs.Routines.{quo}
use Rattle.algebra.specs.Multiplicity.{IsMultiplicity, IsMultiplicityBelow, left, left_in, linear_power, multiplicities_in, multiplicities_of, multiplicity, quotient_by, spread, times_out, total}
use Rattle.algebra.proofs.Series.{nought, times, times-nought}
use Rattle.algebra.proofs.Coefficients.{coef-mul}
use Rattle.algebra.proofs.Degree.{Top}
use Rattle.algebra.proofs.Trial.{all-at}
use Rattle.algebra.proofs.Crossing.{Elem, below-low, by-elements, by_two, coef-down, coef-up, distinct-low, elem-equal, elems, laws, low, low-coef, low-eval, low-from_roots, low-mul, low-quo, low-scale, map-replicate, map-take, root-up}
use Rattle.algebra.proofs.StaysBelow.{append-below, eval-below, mul-below, replicate-below, roots_of-below}
use Rattle.algebra.proofs.NumberElements.{mul-zero}
use Rattle.algebra.proofs.NumberEvaluation.{eval_mul, eval-same, top-coef}
use Rattle.algebra.proofs.NumberDivision.{divides-down, divides-up}
use Rattle.algebra.proofs.RootList.{roots_of-distinct, roots_of-exactly}
use Rattle.algebra.proofs.Multiplicity as M

-- there is one such e
pub multiplicity-only : (G : Ops ℕ) (q : ℕ) (f : List ℕ) (r : ℕ) {e d : ℕ} → IsMultiplicityBelow G q f r e → IsMultiplicityBelow G q f r d → e ≡ d
multiplicity-only G q f r {e} {d} a b =
    let up : e ≤ d = (b e).0 ((a e).1 (omega arith)) in
    let down : d ≤ e = (a d).0 ((b d).1 (omega arith)) in
    omega arith

module _ {G : Ops ℕ} {q : ℕ} (N : OnNumbers G q) where
  -- the field of elements, and its laws
  abbrev K : Ops (Elem q)
  K = elems N

  abbrev L : Laws K
  L = laws N

  -- ---- `low` commutes with what is defined

  low-power : (r : Elem q) (k : ℕ) → low N (linear_power K r k) ≡ linear_power G r.0 k
  low-power r k = low-from_roots N (replicate k r) ∙ ap (from_roots G) (map-replicate (λ x. x.0) k r)

  low-quotient_by : (r : Elem q) (u : List (Elem q)) → low N (quotient_by K r u) ≡ quotient_by G r.0 (low N u)
  unfolding quotient_by
  low-quotient_by r u =
      map-take (λ x. x.0) (length u - 1) (quo K (r ∷ []) u)
      ∙ ap₂ (λ n l. take n l) (sym (ap (λ n. n - 1) (length-map u (λ x. x.0)))) (low-quo N (r ∷ []) u)

  low-times_out : (n : ℕ) (u : List (Elem q)) (r : Elem q) → times_out K n u r ≡ times_out G n (low N u) r.0
  unfolding times_out
  low-times_out zero u r = refl
  low-times_out (suc n) u r =
      ap₂ (λ (b : Bool) (k : ℕ). cond b (suc k) 0) (ap G.is_zero (low-eval N u r))
      (low-times_out n (quotient_by K r u) r ∙ ap (λ l. times_out G n l r.0) (low-quotient_by r u))

  low-left_in : (n : ℕ) (u : List (Elem q)) (r : Elem q) → low N (left_in K n u r) ≡ left_in G n (low N u) r.0
  unfolding left_in
  low-left_in zero u r = refl
  low-left_in (suc n) u r =
      choose (G.is_zero (eval K u r).0) (left_in K n (quotient_by K r u) r)
      ∙ ap₂ (λ (b : Bool) (l : List ℕ). cond b l (low N u)) (ap G.is_zero (low-eval N u r))
      (low-left_in n (quotient_by K r u) r ∙ ap (λ l. left_in G n l r.0) (low-quotient_by r u))
    where
      choose : (b : Bool) (l : List (Elem q)) → low N (cond b l u) ≡ cond b (low N l) (low N u)
      choose true l = refl
      choose false l = refl

  low-multiplicity : (u : List (Elem q)) (r : Elem q) → multiplicity K u r ≡ multiplicity G (low N u) r.0
  low-multiplicity u r = low-times_out (length u) u r ∙ ap (λ n. times_out G n (low N u) r.0) (sym (length-map u (λ x. x.0)))

  low-left : (u : List (Elem q)) (r : Elem q) → low N (left K u r) ≡ left G (low N u) r.0
  low-left u r = low-left_in (length u) u r ∙ ap (λ n. left_in G n (low N u) r.0) (sym (length-map u (λ x. x.0)))

  low-each : (u v : List (Elem q)) → map (multiplicity K u) v ≡ multiplicities_of G (low N u) (low N v)
  low-each u [] = refl
  low-each u (r ∷ v) = ap₂ (λ (n : ℕ) (l : List ℕ). n ∷ l) (low-multiplicity u r) (low-each u v)

  low-taken : (u v : List (Elem q)) → multiplicities_in K u v ≡ multiplicities_in G (low N u) (low N v)
  unfolding multiplicities_in
  low-taken u [] = refl
  low-taken u (r ∷ v) =
      ap₂ (λ (n : ℕ) (l : List ℕ). n ∷ l) (low-multiplicity u r)
      (low-taken (left K u r) v ∙ ap (λ l. multiplicities_in G l (low N v)) (low-left u r))

  low-spread : (u v : List (Elem q)) → low N (spread (multiplicity K u) v) ≡ spread (multiplicity G (low N u)) (low N v)
  unfolding spread
  low-spread u [] = refl
  low-spread u (r ∷ v) =
      map-append (λ x. x.0) (replicate (multiplicity K u r) r) (spread (multiplicity K u) v)
      ∙ ap₂ (λ (s t : List ℕ). s ++ t) (map-replicate (λ x. x.0) (multiplicity K u r) r ∙ ap (λ n. replicate n r.0) (low-multiplicity u r)) (low-spread u v)

  -- ---- from elements and back

  is_down : (u : List (Elem q)) (r : Elem q) {e : ℕ} → IsMultiplicity K u r e → IsMultiplicityBelow G q (low N u) r.0 e
  is_down u r a k = (
    λ h. (a k).0 (divides-up N (linear_power K r k) u (subst (λ p. DividesBelow G q p (low N u)) (sym (low-power r k)) h)),
    λ h. subst (λ p. DividesBelow G q p (low N u)) (low-power r k) (divides-down N (linear_power K r k) u ((a k).1 h)),
  )

  -- not 0 among the numbers is not 0 among the elements
  nonzero-up : (u : List (Elem q)) (j : ℕ) → coef G (low N u) j ≢ G.zero → coef K u ≢ nought K
  nonzero-up u j n y = n (sym (low-coef N u j) ∙ ap (λ w. (w j).0) y)

  top_up : (u : List (Elem q)) (n : ℕ) → ((k : ℕ) → n < k → coef G (low N u) k ≡ G.zero) → Top K (coef K u) n (coef K u n)
  top_up u n a = record { at = refl; above = λ k l. elem-equal (low-coef N u k ∙ a k l) }

  roots-up : (u v : List (Elem q)) → All (λ r. eval G (low N u) r ≡ G.zero) (low N v) → All (λ r. eval K u r ≡ K.zero) v
  roots-up u [] h = tt
  roots-up u (r ∷ v) h = (root-up N u r (low N u) refl h.0, roots-up u v h.1)

  -- ---- nothing leaves the numbers below q

  pub quotient_by-below : (r : ℕ) (f : List ℕ) → r < q → Below q f → Below q (quotient_by G r f)
  quotient_by-below r f l = by-elements N (λ f. Below q (quotient_by G r f)) (λ u. subst (Below q) (low-quotient_by (r, l) u) (below-low N (quotient_by K (r, l) u))) f

  pub left_in-below : (n : ℕ) (f : List ℕ) (r : ℕ) → r < q → Below q f → Below q (left_in G n f r)
  left_in-below n f r l = by-elements N (λ f. Below q (left_in G n f r)) (λ u. subst (Below q) (low-left_in n u (r, l)) (below-low N (left_in K n u (r, l)))) f

  -- ---- one root

  module _ (f : List ℕ) (small : Below q f) (j : ℕ) (nonzero : coef G f j ≢ G.zero) (r : ℕ) (element : r < q) where
    -- `multiplicity` is the largest e for which (z + r)^e divides f
    pub multiplicity-right : IsMultiplicityBelow G q f r (multiplicity G f r)
    multiplicity-right =
        by-elements N (λ f. coef G f j ≢ G.zero → IsMultiplicityBelow G q f r (multiplicity G f r))
        (λ u n. subst (IsMultiplicityBelow G q (low N u) r) (low-multiplicity u (r, element)) (is_down u (r, element) (M.multiplicity-right L u (r, element) (nonzero-up u j n))))
        f small nonzero

    -- it is at least 1 exactly at the roots
    pub multiplicity-root : (1 ≤ multiplicity G f r) ↔ (eval G f r ≡ G.zero)
    multiplicity-root =
        by-elements N (λ f. coef G f j ≢ G.zero → (1 ≤ multiplicity G f r) ↔ (eval G f r ≡ G.zero))
        (λ u n.
        let x : Elem q = (r, element) in
        let k = M.multiplicity-root L u x (M.multiplicity-right L u x (nonzero-up u j n)) in (
          λ h. sym (low-eval N u x) ∙ ap (λ y. y.0) (k.0 (subst (λ e. 1 ≤ e) (sym (low-multiplicity u x)) h)),
          λ z. subst (λ e. 1 ≤ e) (low-multiplicity u x) (k.1 (root-up N u x (low N u) refl z)),
        ))
        f small nonzero

    -- what is left of f is not 0
    pub left-nonzero : (coef G (left G f r) ≡ nought G) → ⊥
    left-nonzero =
        by-elements N (λ f. coef G f j ≢ G.zero → (coef G (left G f r) ≡ nought G) → ⊥)
        (λ u n y. M.left-nonzero L u (r, element) (nonzero-up u j n)
        (coef-up N (left K u (r, element)) [] (ap (coef G) (low-left u (r, element)) ∙ y)))
        f small nonzero

    -- it depends on the coefficients alone
    pub multiplicity-same : (g : List ℕ) → Below q g → coef G f ≡ coef G g → multiplicity G f r ≡ multiplicity G g r
    multiplicity-same g hg e =
        by_two N (λ f g. coef G f j ≢ G.zero → coef G f ≡ coef G g → multiplicity G f r ≡ multiplicity G g r)
        (λ u v n e.
        let x : Elem q = (r, element) in
        let s : coef K u ≡ coef K v = coef-up N u v e in
        let z : coef K u ≢ nought K = nonzero-up u j n in
        sym (low-multiplicity u x)
        ∙ M.multiplicity-only L v x (M.multiplicity-same L u v x s (M.multiplicity-right L u x z)) (M.multiplicity-right L v x (λ y. z (s ∙ y)))
        ∙ low-multiplicity v x)
        f g small hg nonzero e

    -- so zeros at the top do not change it
    pub multiplicity-top : (n : ℕ) → multiplicity G (f ++ replicate n G.zero) r ≡ multiplicity G f r
    multiplicity-top n =
        sym (multiplicity-same (f ++ replicate n G.zero) (append-below q f (replicate n G.zero) small (replicate-below q n G.zero N.zero-below))
        (sym (top-coef N f n)))

    -- nor does a nonzero factor
    pub multiplicity-scale : (c : ℕ) → c < q → c ≢ G.zero → multiplicity G (map (G.mul c) f) r ≡ multiplicity G f r
    multiplicity-scale c hc z =
        by-elements N (λ f. coef G f j ≢ G.zero → multiplicity G (map (G.mul c) f) r ≡ multiplicity G f r)
        (λ u n.
        let x : Elem q = (r, element) in
        let d : Elem q = (c, hc) in
        let a = M.multiplicity-scale L d u x (λ e. z (ap (λ y. y.0) e)) (M.multiplicity-right L u x (nonzero-up u j n)) in
        let w : List (Elem q) = map (K.mul d) u in
        ap (λ l. multiplicity G l r) (sym (low-scale N d u)) ∙ sym (low-multiplicity w x)
        ∙ M.multiplicity-only L w x (M.multiplicity-right L w x (M.scaled-nonzero L d u (λ e. z (ap (λ y. y.0) e)) (nonzero-up u j n))) a
        ∙ low-multiplicity u x)
        f small nonzero

  -- taking out (z + r)^k does not change the multiplicity of another element
  pub multiplicity-other : (f g : List ℕ) → Below q f → Below q g → (j : ℕ) → coef G f j ≢ G.zero → (r s k : ℕ) → r < q → s < q → r ≢ s
      → coef G (mul G (linear_power G r k) g) ≡ coef G f → multiplicity G f s ≡ multiplicity G g s
  multiplicity-other f g hf hg j nonzero r s k hr hs d e =
      by_two N (λ f g. coef G f j ≢ G.zero → coef G (mul G (linear_power G r k) g) ≡ coef G f → multiplicity G f s ≡ multiplicity G g s) go f g hf hg nonzero e
    where
      go : (u v : List (Elem q)) → coef G (low N u) j ≢ G.zero → coef G (mul G (linear_power G r k) (low N v)) ≡ coef G (low N u)
          → multiplicity G (low N u) s ≡ multiplicity G (low N v) s
      go u v n e =
          let x : Elem q = (r, hr) in
          let y : Elem q = (s, hs) in
          let p : List (Elem q) = linear_power K x k in
          let z : coef K u ≢ nought K = nonzero-up u j n in
          let h : times K (coef K p) (coef K v) ≡ coef K u =
          sym (coef-mul L p v) ∙ coef-up N (mul K p v) u (ap (coef G) (low-mul N p v ∙ ap (λ l. mul G l (low N v)) (low-power x k)) ∙ e) in
          let w : coef K v ≢ nought K = λ i. z (sym h ∙ ap (times K (coef K p)) i ∙ times-nought L (coef K p)) in
          sym (low-multiplicity u y)
          ∙ M.multiplicity-only L u y (M.multiplicity-right L u y z)
          (M.multiplicity-other L x y k u v (λ i. d (ap (λ t. t.0) i)) h (M.multiplicity-right L v y w))
          ∙ low-multiplicity v y

  -- ---- over distinct elements

  -- the multiplicities may be counted one after the other, each taken out
  pub taken_out : (s f : List ℕ) → Below q s → Below q f → (j : ℕ) → coef G f j ≢ G.zero → Distinct s → multiplicities_in G f s ≡ multiplicities_of G f s
  taken_out s f hs hf j n d =
      by_two N (λ s f. coef G f j ≢ G.zero → Distinct s → multiplicities_in G f s ≡ multiplicities_of G f s)
      (λ v u n d. sym (low-taken u v) ∙ M.taken_out L v u (distinct-low N v d) (nonzero-up u j n) ∙ low-each u v) s f hs hf n d

  -- the multiplicities add up to at most the degree
  pub total_at_most : (s f : List ℕ) → Below q s → Below q f → (n : ℕ) → coef G f n ≢ G.zero → ((k : ℕ) → n < k → coef G f k ≡ G.zero) → Distinct s
      → total (multiplicities_of G f s) ≤ n
  total_at_most s f hs hf n z a d =
      by_two N (λ s f. coef G f n ≢ G.zero → ((k : ℕ) → n < k → coef G f k ≡ G.zero) → Distinct s → total (multiplicities_of G f s) ≤ n)
      (λ v u z a d. subst (λ l. total l ≤ n) (low-each u v)
      (M.total_at_most L v u (distinct-low N v d) (top_up u n a) (λ e. z (sym (low-coef N u n) ∙ ap (λ y. y.0) e)))) s f hs hf z a d

  -- where there are as many distinct roots as the degree, all are 1
  pub all-simple : (s f : List ℕ) → Below q s → Below q f → (n : ℕ) → coef G f n ≢ G.zero → ((k : ℕ) → n < k → coef G f k ≡ G.zero) → Distinct s
      → All (λ r. eval G f r ≡ G.zero) s → length s ≡ n → multiplicities_of G f s ≡ replicate (length s) 1
  all-simple s f hs hf n z a d h e =
      by_two N (λ s f. coef G f n ≢ G.zero → ((k : ℕ) → n < k → coef G f k ≡ G.zero) → Distinct s → All (λ r. eval G f r ≡ G.zero) s → length s ≡ n
      → multiplicities_of G f s ≡ replicate (length s) 1)
      (λ v u z a d h e.
      let c : length (low N v) ≡ length v = length-map v (λ y. y.0) in
      sym (low-each u v) ∙ M.all-simple L v u (distinct-low N v d) (roots-up u v h) (top_up u n a) (λ i. z (sym (low-coef N u n) ∙ ap (λ y. y.0) i)) (sym c ∙ e)
      ∙ ap (λ k. replicate k 1) (sym c)) s f hs hf z a d h e

  -- the product of (z + r)^e over distinct elements divides f, and none of them is a root of the cofactor
  factored-at : (s f : List ℕ) → Below q s → Below q f → (j : ℕ) → coef G f j ≢ G.zero → Distinct s
      → (h : DividesBelow G q (from_roots G (spread (multiplicity G f) s)) f) × All (λ r. eval G h.quotient r ≢ G.zero) s
  factored-at s f hs hf j n d =
      by_two N (λ s f. coef G f j ≢ G.zero → Distinct s
      → (h : DividesBelow G q (from_roots G (spread (multiplicity G f) s)) f) × All (λ r. eval G h.quotient r ≢ G.zero) s) go s f hs hf n d
    where
      down : (g v : List (Elem q)) → All (λ r. eval K g r ≢ K.zero) v → All (λ r. eval G (low N g) r ≢ G.zero) (low N v)
      down g [] h = tt
      down g (r ∷ v) h = ((λ z. h.0 (root-up N g r (low N g) refl z)), down g v h.1)

      go : (v u : List (Elem q)) → coef G (low N u) j ≢ G.zero → Distinct (low N v)
          → (h : DividesBelow G q (from_roots G (spread (multiplicity G (low N u)) (low N v))) (low N u)) × All (λ r. eval G h.quotient r ≢ G.zero) (low N v)
      go v u n d =
          let k = M.factored L v u (distinct-low N v d) (nonzero-up u j n) in
          let p : List (Elem q) = from_roots K (spread (multiplicity K u) v) in
          let e : low N (mul K p k.0) ≡ mul G (from_roots G (spread (multiplicity G (low N u)) (low N v))) (low N k.0) =
          low-mul N p k.0 ∙ ap (λ l. mul G l (low N k.0)) (low-from_roots N (spread (multiplicity K u) v) ∙ ap (from_roots G) (low-spread u v)) in (
            record { quotient = low N k.0; small = below-low N k.0; exact = ap (coef G) (sym e) ∙ coef-down N (mul K p k.0) u (coef-mul L p k.0 ∙ k.1) },
            down k.0 v k.2,
          )

  -- the product of (z + r)^e over the roots divides f, and the cofactor has no root
  pub factored : (f : List ℕ) → Below q f → (j : ℕ) → coef G f j ≢ G.zero
      → (h : DividesBelow G q (from_roots G (spread (multiplicity G f) (roots_of G q f))) f) × ((x : ℕ) → x < q → eval G h.quotient x ≢ G.zero)
  unfolding spread
  factored f hf j n =
      let s : List ℕ = roots_of G q f in
      let hs : Below q s = roots_of-below G q f in
      let k = factored-at s f hs hf j n (roots_of-distinct G q f) in
      let p : List ℕ = from_roots G (spread (multiplicity G f) s) in
      let hp : Below q p = from_roots-below (spread (multiplicity G f) s) (spread-below (multiplicity G f) s hs) in
      let g : List ℕ = k.0.quotient in (
        k.0,
        λ x l z.
            let root : eval G f x ≡ G.zero =
            sym (eval-same N (mul G p g) f (mul-below N p g hp k.0.small) hf k.0.exact x l) ∙ eval_mul N p g hp k.0.small x l
            ∙ ap (G.mul (eval G p x)) z ∙ mul-zero N (eval G p x) (eval-below N p x hp l) in
            all-at (λ r. eval G g r ≢ G.zero) s k.1 ((roots_of-exactly N f hf x).1 (l, root)) z,
      )
    where
      from_roots-below : (s : List ℕ) → Below q s → Below q (from_roots G s)
      from_roots-below = by-elements N (λ s. Below q (from_roots G s)) (λ u. subst (Below q) (low-from_roots N u) (below-low N (from_roots K u)))

      spread-below : (e : ℕ → ℕ) (s : List ℕ) → Below q s → Below q (spread e s)
      spread-below e [] h = tt
      spread-below e (r ∷ s) h = append-below q (replicate (e r) r) (spread e s) (replicate-below q (e r) r h.0) (spread-below e s h.1)

  -- where there are as many roots as the degree, all are 1
  pub roots-simple : (f : List ℕ) → Below q f → (n : ℕ) → coef G f n ≢ G.zero → ((k : ℕ) → n < k → coef G f k ≡ G.zero) → length (roots_of G q f) ≡ n
      → multiplicities_of G f (roots_of G q f) ≡ replicate n 1
  roots-simple f hf n z a e =
      all-simple (roots_of G q f) f (roots_of-below G q f) hf n z a (roots_of-distinct G q f)
      (every (roots_of G q f) (λ x m. ((roots_of-exactly N f hf x).0 m).1)) e ∙ ap (λ k. replicate k 1) e
    where
      every : (s : List ℕ) → ((x : ℕ) → Memᴰ x s → eval G f x ≡ G.zero) → All (λ r. eval G f r ≡ G.zero) s
      every [] h = tt
      every (x ∷ s) h = (h x (Memᴰ.head refl), every s (λ y m. h y (Memᴰ.tail m)))

  -- the root of z^2 + s^2 is double
  pub square-double : (s b : ℕ) → s < q → b < q → G.mul s s ≡ b → multiplicity G (b ∷ G.zero ∷ G.one ∷ []) s ≡ 2
  square-double s b hs hb e =
      sym (low-multiplicity ((b, hb) ∷ K.zero ∷ K.one ∷ []) (s, hs)) ∙ M.square-double L (s, hs) (b, hb) (elem-equal e)
