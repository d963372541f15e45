-- Division and greatest common divisors of lists of numbers below q, as the code holds them.
--   divides-up, divides-down   divisibility of elements and of numbers below q
--   factor           z + r divides f exactly where f(r) = 0
--   roots-divide     distinct roots of f together divide f
--   division         f = (monic p) quo + rem
--   eval-rem         at a root of monic p a remainder by it has the value of what was divided
--   division-unique  no other quotient and remainder of this length
--   gcd-right        `gcd` is a greatest common divisor: what divides it is what divides both
--   gcd-only         and the only monic one
--   gcd-first, gcd-second  it divides both
--   bezout           it is a combination of the two
--   gcd-root         its roots are the common roots
--   gcd-rem          gcd(P, t) = gcd(P, t mod P)
--   cofactor-gcd     it times its cofactor is the first polynomial
--   cofactor-only    there is no other cofactor
--   cofactor-root    a root of p is one of the greatest common divisor or of its cofactor
-- Assumes nothing.
use mathlib.Core.Path.{◌∙◌, ◌≡◌, ap, ap₂, refl, subst, sym}
use mathlib.Core.Logic.{◌↔◌, ◌⊎◌, inl, inr, ⊎_elim}
use mathlib.Core.List.{List, [], ◌∷◌}
use Prim.Native.Nat.{◌<◌, ℕ}
use lib.ListN.{length, length-map}
use Rattle.algebra.specs.Field.{Laws, OnNumbers, Ops}
use Rattle.algebra.specs.Trial.{All, Distinct}
use Rattle.algebra.specs.Polynomial.{Below, CombinesBelow, Divides, DividesBelow, IsGcd, IsGcdBelow, add, coef, eval, from_roots, linear, mul}
use Rattle.algebra.specs.Routines.{cofactor, gcd, monic, quo, rem}
use Rattle.algebra.proofs.Series.{plus, times}
use Rattle.algebra.proofs.Coefficients.{coef-add, coef-mul}
use Rattle.algebra.proofs.Crossing.{Elem, below-low, by-elements, by_two, coef-down, coef-up, distinct-low, elems, laws, lift, low, low-add, low-cofactor, low-from_roots, low-gcd, low-lift, low-monic, low-mul, low-quo, low-rem, root-down, root-up}
use Rattle.algebra.proofs.NumberElements.{zero-mul}
use Rattle.algebra.proofs.NumberEvaluation.{eval_add, eval_mul, eval-same}
use Rattle.algebra.proofs.StaysBelow.{add-below, eval-below, monic-below, mul-below, quo-below, rem_below}
use Rattle.algebra.proofs.Factors as I
use Rattle.algebra.proofs.Division as A
use Rattle.algebra.proofs.Euclid as E
use Rattle.algebra.proofs.Quotients as Q
use Rattle.algebra.proofs.Bezout as B

module _ {G : Ops ℕ} {q : ℕ} (N : OnNumbers G q) where
  -- the field of elements, and its laws
  abbrev K : Ops (Elem q)
  K = elems N

  abbrev L : Laws K
  L = laws N

  -- ---- from elements and back

  pub divides-up : (u v : List (Elem q)) → DividesBelow G q (low N u) (low N v) → Divides K u (coef K v)
  divides-up u v h =
      let w : List (Elem q) = lift N h.quotient h.small in
      record { quotient = w; exact = coef-up N (mul K u w) v (ap (coef G) (low-mul N u w ∙ ap (mul G (low N u)) (low-lift N h.quotient h.small)) ∙ h.exact) }

  pub divides-down : (u v : List (Elem q)) → Divides K u (coef K v) → DividesBelow G q (low N u) (low N v)
  divides-down u v h = record {
    quotient = low N h.quotient;
    small = below-low N h.quotient;
    exact = ap (coef G) (sym (low-mul N u h.quotient)) ∙ coef-down N (mul K u h.quotient) v h.exact;
  }

  gcd-up : (u v w : List (Elem q)) → IsGcdBelow G q (low N u) (low N v) (low N w) → IsGcd K (coef K u) (coef K v) (coef K w)
  gcd-up u v w h d = (
    λ a. let k = (h (low N d) (below-low N d)).0 (divides-down d w a) in (divides-up d u k.0, divides-up d v k.1),
    λ k. divides-up d w ((h (low N d) (below-low N d)).1 (divides-down d u k.0, divides-down d v k.1)),
  )

  gcd-down : (u v w : List (Elem q)) → IsGcd K (coef K u) (coef K v) (coef K w) → IsGcdBelow G q (low N u) (low N v) (low N w)
  gcd-down u v w h =
      by-elements N (λ d. DividesBelow G q d (low N w) ↔ (DividesBelow G q d (low N u) × DividesBelow G q d (low N v))) λ d. (
        λ a. let k = (h d).0 (divides-up d w a) in (divides-down d u k.0, divides-down d v k.1),
        λ k. divides-down d w ((h d).1 (divides-up d u k.0, divides-up d v k.1)),
      )

  low-monic-gcd : (u v : List (Elem q)) → low N (monic K (gcd K u v)) ≡ monic G (gcd G (low N u) (low N v))
  low-monic-gcd u v = low-monic N (gcd K u v) ∙ ap (monic G) (low-gcd N u v)

  -- ---- roots

  -- z + r divides f exactly where f(r) = 0
  pub factor : (f : List ℕ) → Below q f → (r : ℕ) → r < q → DividesBelow G q (linear G r) f ↔ (eval G f r ≡ G.zero)
  factor f h r l = by-elements N (λ f. DividesBelow G q (linear G r) f ↔ (eval G f r ≡ G.zero)) (λ u. (
    λ d. root-down N u (r, l) (low N u) refl (I.factor-root L (r, l) u (divides-up (linear K (r, l)) u d)),
    λ z. divides-down (linear K (r, l)) u (I.factor L (r, l) u (root-up N u (r, l) (low N u) refl z)),
  )) f h

  -- distinct roots of f together divide f
  pub roots-divide : (s f : List ℕ) → Below q s → Below q f → Distinct s → All (λ r. eval G f r ≡ G.zero) s → DividesBelow G q (from_roots G s) f
  roots-divide = by_two N (λ s f. Distinct s → All (λ r. eval G f r ≡ G.zero) s → DividesBelow G q (from_roots G s) f) λ u v d h.
      subst (λ p. DividesBelow G q p (low N v)) (low-from_roots N u) (divides-down (from_roots K u) v (I.roots-divide L u v (distinct-low N u d) (up v u h)))
    where
      up : (v u : List (Elem q)) → All (λ r. eval G (low N v) r ≡ G.zero) (low N u) → All (λ r. eval K v r ≡ K.zero) u
      up v [] h = tt
      up v (x ∷ u) h = (root-up N v x (low N v) refl h.0, up v u h.1)

  -- ---- division

  low-whole : (u d r : List (Elem q)) → low N (add K (mul K (monic K u) d) r) ≡ add G (mul G (monic G (low N u)) (low N d)) (low N r)
  low-whole u d r =
      low-add N (mul K (monic K u) d) r
      ∙ ap (λ l. add G l (low N r)) (low-mul N (monic K u) d ∙ ap (λ l. mul G l (low N d)) (low-monic N u))

  coef-whole : (u d r : List (Elem q)) → coef K (add K (mul K (monic K u) d) r)
      ≡ plus K (times K (coef K (monic K u)) (coef K d)) (coef K r)
  coef-whole u d r = coef-add L (mul K (monic K u) d) r ∙ ap (λ w. plus K w (coef K r)) (coef-mul L (monic K u) d)

  -- f = (monic p) quo + rem
  pub division : (p f : List ℕ) → Below q p → Below q f → coef G f ≡ coef G (add G (mul G (monic G p) (quo G p f)) (rem G p f))
  division = by_two N (λ p f. coef G f ≡ coef G (add G (mul G (monic G p) (quo G p f)) (rem G p f))) λ u v.
      coef-down N v (add K (mul K (monic K u) (quo K u v)) (rem K u v))
      (A.division L u v ∙ sym (coef-whole u (quo K u v) (rem K u v)))
      ∙ ap (coef G) (low-whole u (quo K u v) (rem K u v) ∙ ap₂ (λ d r. add G (mul G (monic G (low N u)) d) r) (low-quo N u v) (low-rem N u v))

  -- at a root of monic p a remainder by it has the value of what was divided
  pub eval-rem : (p f : List ℕ) → Below q p → Below q f → (x : ℕ) → x < q → eval G (monic G p) x ≡ G.zero → eval G (rem G p f) x ≡ eval G f x
  eval-rem p f hp hf x hx z =
      let m : List ℕ = mul G (monic G p) (quo G p f) in
      let hq = quo-below N p f hp hf in
      let hm = mul-below N (monic G p) (quo G p f) (monic-below N p hp) hq in
      let hr = rem_below N p f hp hf in
      let none : eval G m x ≡ G.zero = eval_mul N (monic G p) (quo G p f) (monic-below N p hp) hq x hx ∙ ap (λ y. G.mul y (eval G (quo G p f) x)) z
      ∙ zero-mul N (eval G (quo G p f) x) (eval-below N (quo G p f) x hq hx) in
      sym (eval-same N f (add G m (rem G p f)) hf (add-below N m (rem G p f) hm hr) (division p f hp hf) x hx
      ∙ eval_add N m (rem G p f) hm hr x hx ∙ ap (λ y. G.add y (eval G (rem G p f) x)) none ∙ N.zero-add (eval G (rem G p f) x) (eval-below N (rem G p f) x hr hx))

  -- no other quotient and remainder of this length
  pub division-unique : (p f d r : List ℕ) → Below q p → Below q f → Below q d → Below q r → length r ≡ length p
      → coef G f ≡ coef G (add G (mul G (monic G p) d) r) → (coef G d ≡ coef G (quo G p f)) × (r ≡ rem G p f)
  division-unique p f d r hp hf hd hr =
      by_two N (λ p f. length r ≡ length p → coef G f ≡ coef G (add G (mul G (monic G p) d) r) → (coef G d ≡ coef G (quo G p f)) × (r ≡ rem G p f)) (λ u v.
      by_two N (λ d r. length r ≡ length (low N u) → coef G (low N v) ≡ coef G (add G (mul G (monic G (low N u)) d) r)
      → (coef G d ≡ coef G (quo G (low N u) (low N v))) × (r ≡ rem G (low N u) (low N v)))
      (go u v) d r hd hr) p f hp hf
    where
      go : (u v s t : List (Elem q)) → length (low N t) ≡ length (low N u) → coef G (low N v) ≡ coef G (add G (mul G (monic G (low N u)) (low N s)) (low N t))
          → (coef G (low N s) ≡ coef G (quo G (low N u) (low N v))) × (low N t ≡ rem G (low N u) (low N v))
      go u v s t n e =
          let k = A.division-unique L u v s t (sym (length-map t (λ x. x.0)) ∙ n ∙ length-map u (λ x. x.0))
          (coef-up N v (add K (mul K (monic K u) s) t) (e ∙ ap (coef G) (sym (low-whole u s t))) ∙ coef-whole u s t) in
          (coef-down N s (quo K u v) k.0 ∙ ap (coef G) (low-quo N u v), ap (low N) k.1 ∙ low-rem N u v)

  -- ---- the greatest common divisor

  -- `gcd` is a greatest common divisor: what divides it is what divides both
  pub gcd-right : (p f : List ℕ) → Below q p → Below q f → IsGcdBelow G q (monic G p) f (monic G (gcd G p f))
  gcd-right = by_two N (λ p f. IsGcdBelow G q (monic G p) f (monic G (gcd G p f))) λ u v.
      subst (λ p. IsGcdBelow G q p (low N v) (monic G (gcd G (low N u) (low N v)))) (low-monic N u)
      (subst (λ g. IsGcdBelow G q (low N (monic K u)) (low N v) g) (low-monic-gcd u v)
      (gcd-down (monic K u) v (monic K (gcd K u v)) (E.gcd-right L u v)))

  -- and the only monic one
  pub gcd-only : (p f g : List ℕ) → Below q p → Below q f → Below q g → IsGcdBelow G q (monic G p) f (monic G g) → g ≡ gcd G p f
  gcd-only p f g hp hf hg =
      by_two N (λ p f. IsGcdBelow G q (monic G p) f (monic G g) → g ≡ gcd G p f) (λ u v.
      by-elements N (λ g. IsGcdBelow G q (monic G (low N u)) (low N v) (monic G g) → g ≡ gcd G (low N u) (low N v)) (go u v) g hg) p f hp hf
    where
      go : (u v w : List (Elem q)) → IsGcdBelow G q (monic G (low N u)) (low N v) (monic G (low N w)) → low N w ≡ gcd G (low N u) (low N v)
      go u v w h =
          ap (low N) (E.gcd-only L u v w (gcd-up (monic K u) v (monic K w)
          (subst (λ p. IsGcdBelow G q p (low N v) (low N (monic K w))) (sym (low-monic N u))
          (subst (λ g. IsGcdBelow G q (monic G (low N u)) (low N v) g) (sym (low-monic N w)) h))))
          ∙ low-gcd N u v

  pub gcd-first : (p f : List ℕ) → Below q p → Below q f → DividesBelow G q (monic G (gcd G p f)) (monic G p)
  gcd-first = by_two N (λ p f. DividesBelow G q (monic G (gcd G p f)) (monic G p)) λ u v.
      subst (λ p. DividesBelow G q (monic G (gcd G (low N u) (low N v))) p) (low-monic N u)
      (subst (λ g. DividesBelow G q g (low N (monic K u))) (low-monic-gcd u v)
      (divides-down (monic K (gcd K u v)) (monic K u) (E.gcd-first L u v)))

  pub gcd-second : (p f : List ℕ) → Below q p → Below q f → DividesBelow G q (monic G (gcd G p f)) f
  gcd-second = by_two N (λ p f. DividesBelow G q (monic G (gcd G p f)) f) λ u v.
      subst (λ g. DividesBelow G q g (low N v)) (low-monic-gcd u v)
      (divides-down (monic K (gcd K u v)) v (E.gcd-second L u v))

  -- it is a combination of the two
  pub bezout : (p f : List ℕ) → Below q p → Below q f → CombinesBelow G q (monic G p) f (monic G (gcd G p f))
  bezout = by_two N (λ p f. CombinesBelow G q (monic G p) f (monic G (gcd G p f))) go
    where
      go : (u v : List (Elem q)) → CombinesBelow G q (monic G (low N u)) (low N v) (monic G (gcd G (low N u) (low N v)))
      go u v =
          let b = B.bezout L u v in
          let s : List (Elem q) = add K (mul K (monic K u) b.left) (mul K v b.right) in
          let e : coef K s ≡ coef K (monic K (gcd K u v)) =
          coef-whole u b.left (mul K v b.right) ∙ ap (plus K (times K (coef K (monic K u)) (coef K b.left))) (coef-mul L v b.right) ∙ b.sum in
          record {
            left = low N b.left;
            right = low N b.right;
            left-small = below-low N b.left;
            right-small = below-low N b.right;
            sum = ap (coef G) (sym (low-whole u b.left (mul K v b.right) ∙ ap (add G (mul G (monic G (low N u)) (low N b.left))) (low-mul N v b.right)))
                ∙ coef-down N s (monic K (gcd K u v)) e ∙ ap (coef G) (low-monic-gcd u v);
          }

  -- its roots are the common roots
  pub gcd-root : (p f : List ℕ) → Below q p → Below q f → (x : ℕ) → x < q
      → (eval G (monic G (gcd G p f)) x ≡ G.zero) ↔ ((eval G (monic G p) x ≡ G.zero) × (eval G f x ≡ G.zero))
  gcd-root p f hp hf x hx =
      by_two N (λ p f. (eval G (monic G (gcd G p f)) x ≡ G.zero) ↔ ((eval G (monic G p) x ≡ G.zero) × (eval G f x ≡ G.zero))) (λ u v. (
        λ e. let k = (E.gcd-root L u v (x, hx)).0 (root-up N (monic K (gcd K u v)) (x, hx) _ (low-monic-gcd u v) e) in
            (root-down N (monic K u) (x, hx) _ (low-monic N u) k.0, root-down N v (x, hx) _ refl k.1),
        λ h. root-down N (monic K (gcd K u v)) (x, hx) _ (low-monic-gcd u v)
            ((E.gcd-root L u v (x, hx)).1 (root-up N (monic K u) (x, hx) _ (low-monic N u) h.0, root-up N v (x, hx) _ refl h.1)),
      )) p f hp hf

  -- gcd(P, t) = gcd(P, t mod P)
  pub gcd-rem : (p f : List ℕ) → Below q p → Below q f → gcd G p f ≡ gcd G p (rem G p f)
  gcd-rem = by_two N (λ p f. gcd G p f ≡ gcd G p (rem G p f)) λ u v.
      sym (low-gcd N u v) ∙ ap (low N) (E.gcd-rem L u v) ∙ low-gcd N u (rem K u v)
      ∙ ap (gcd G (low N u)) (low-rem N u v)

  -- ---- cofactors

  low-rest : (u v : List (Elem q)) → low N (monic K (cofactor K u (gcd K u v))) ≡ monic G (cofactor G (low N u) (gcd G (low N u) (low N v)))
  low-rest u v = low-monic N (cofactor K u (gcd K u v)) ∙ ap (monic G) (low-cofactor N u (gcd K u v) ∙ ap (cofactor G (low N u)) (low-gcd N u v))

  -- it times its cofactor is the first polynomial
  pub cofactor-gcd : (p t : List ℕ) → Below q p → Below q t → coef G (monic G p) ≡ coef G (mul G (monic G (gcd G p t)) (monic G (cofactor G p (gcd G p t))))
  cofactor-gcd = by_two N (λ p t. coef G (monic G p) ≡ coef G (mul G (monic G (gcd G p t)) (monic G (cofactor G p (gcd G p t))))) λ u v.
      let g : List (Elem q) = monic K (gcd K u v) in
      let h : List (Elem q) = monic K (cofactor K u (gcd K u v)) in
      ap (coef G) (sym (low-monic N u)) ∙ coef-down N (monic K u) (mul K g h) (Q.cofactor-gcd L u v ∙ sym (coef-mul L g h))
      ∙ ap (coef G) (low-mul N g h ∙ ap₂ (mul G) (low-monic-gcd u v) (low-rest u v))

  -- there is no other cofactor
  pub cofactor-only : (p g h : List ℕ) → Below q p → Below q g → Below q h → coef G (monic G p) ≡ coef G (mul G (monic G g) (monic G h)) → h ≡ cofactor G p g
  cofactor-only p g h hp hg hh =
      by_two N (λ p g. coef G (monic G p) ≡ coef G (mul G (monic G g) (monic G h)) → h ≡ cofactor G p g) (λ u v.
      by-elements N (λ h. coef G (monic G (low N u)) ≡ coef G (mul G (monic G (low N v)) (monic G h)) → h ≡ cofactor G (low N u) (low N v)) (go u v) h hh) p g hp hg
    where
      go : (u v w : List (Elem q)) → coef G (monic G (low N u)) ≡ coef G (mul G (monic G (low N v)) (monic G (low N w))) → low N w ≡ cofactor G (low N u) (low N v)
      go u v w e =
          ap (low N) (Q.cofactor-only L u v w
          (coef-up N (monic K u) (mul K (monic K v) (monic K w))
          (ap (coef G) (low-monic N u) ∙ e ∙ ap (coef G) (sym (low-mul N (monic K v) (monic K w) ∙ ap₂ (mul G) (low-monic N v) (low-monic N w))))
          ∙ coef-mul L (monic K v) (monic K w)))
          ∙ low-cofactor N u v

  -- a root of p is one of the greatest common divisor or of its cofactor
  pub cofactor-root : (p t : List ℕ) → Below q p → Below q t → (x : ℕ) → x < q
      → (eval G (monic G p) x ≡ G.zero) ↔ ((eval G (monic G (gcd G p t)) x ≡ G.zero) ⊎ (eval G (monic G (cofactor G p (gcd G p t))) x ≡ G.zero))
  cofactor-root p t hp ht x hx =
      by_two N (λ p t. (eval G (monic G p) x ≡ G.zero) ↔ ((eval G (monic G (gcd G p t)) x ≡ G.zero) ⊎ (eval G (monic G (cofactor G p (gcd G p t))) x ≡ G.zero))) go p t hp ht
    where
      go : (u v : List (Elem q)) → (eval G (monic G (low N u)) x ≡ G.zero)
          ↔ ((eval G (monic G (gcd G (low N u) (low N v))) x ≡ G.zero) ⊎ (eval G (monic G (cofactor G (low N u) (gcd G (low N u) (low N v)))) x ≡ G.zero))
      go u v =
          let g : List (Elem q) = gcd K u v in
          let k = Q.cofactor-root L u g (E.gcd-first L u v) (x, hx) in (
            λ e. ⊎_elim (λ z. inl (root-down N (monic K g) (x, hx) _ (low-monic-gcd u v) z))
                (λ z. inr (root-down N (monic K (cofactor K u g)) (x, hx) _ (low-rest u v) z)) (k.0 (root-up N (monic K u) (x, hx) _ (low-monic N u) e)),
            λ o. root-down N (monic K u) (x, hx) _ (low-monic N u) (k.1 (⊎_elim (λ z. inl (root-up N (monic K g) (x, hx) _ (low-monic-gcd u v) z))
                (λ z. inr (root-up N (monic K (cofactor K u g)) (x, hx) _ (low-rest u v) z)) o)),
          )
