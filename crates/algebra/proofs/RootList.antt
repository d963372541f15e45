-- The list of roots of a polynomial with coefficients below q: `roots_of` holds exactly the numbers below q at which it
-- is 0, ascending, each once.
--   roots_of-ascending, roots_of-distinct   ascending, each once
--   roots_of-member      exactly the numbers below q that pass the test
--   roots_of-exactly     exactly the numbers below q at which f is 0
--   roots_of-only        no other ascending list has these members
--   roots_of-agree       polynomials that are 0 at the same places have the same roots
--   roots_of-same        roots depend on the coefficients alone
--   roots_of-top         zeros at the top change nothing
--   roots_of-scale       nor does a nonzero factor
--   roots_of-norm        so a polynomial has the roots of what it is made monic
--   roots_of-count       a monic polynomial of degree n has at most n roots
--   roots_of-degree      and so any other but 0
--   roots_of-whole       n ascending numbers at which it is 0 are all
--   monic_roots-root     the roots of a product over roots are those
--   roots_of-monic_roots  so `roots_of` takes the product over an ascending list back to the list
--   roots_of-gcd         a greatest common divisor with t keeps the roots at which t is 0
--   roots_of-parts       and the cofactor has the others
--   roots_of-begin       the part that splits has all the roots
--   split-part          the part of any f but 0 that splits is its gcd with z^(2^m) + z
--   roots_of-empty, roots_of-single, roots_of-pair   the list where the roots are known
--   roots_of-none, roots_of-one   of degree 0 and 1
--   other-root          where r is a root of z^2 + a z + b, the other is r + a
-- Assumes nothing.
use mathlib.Core.Path.{◌∙◌, ◌≡◌, ap, refl, subst, sym}
use mathlib.Core.Logic.{◌↔◌, ◌≢◌, ◌⊎◌, inl, inr, ⊎_elim}
use mathlib.Core.Option.{some}
use mathlib.Core.List.Memᴰ
use mathlib.Core.List.{List, Memᴰ, [], ◌++◌, ◌∷◌, map}
use Prim.Native.Nat.{◌<◌, ◌^◌, ◌≤◌, ℕ}
use native.Mathlib.Nat.{lt_trans}
use native.Mathlib.Omega.{arith}
use lib.Dec.{T}
use lib.ListN.{length, length-map, replicate}
use Rattle.algebra.specs.Field.{Laws, OnNumbers, Ops, squared}
use Rattle.algebra.specs.Trial.{All, Ascending, Distinct, keep}
use Rattle.algebra.specs.Polynomial.{Below, coef, eval, field_poly, from_roots, is_root, linear, roots_of}
use Rattle.algebra.specs.Routines.{cofactor, gcd, monic, monic_roots, norm}
use Rattle.algebra.proofs.Trial.{all-at, all_map, ascending-distinct, ascending-keep, ascending-same, ascending-whole, distinct-keep, keep-passed, kept-ascending, kept-exactly, kept-member}
use Rattle.algebra.proofs.Degree.{monic-list}
use Rattle.algebra.proofs.Factors.{member-root, monic-roots, root-member, roots-at-most}
use Rattle.algebra.proofs.Quadratics.{quadratic-root}
use Rattle.algebra.proofs.Crossing.{Elem, all, by-elements, distinct-all, elem-equal, elems, laws, low, low-all, low-eval, low-keep, low-monic, low-monic_roots, mem-lift, mem-low, root-down, root-up}
use Rattle.algebra.proofs.StaysBelow.{append-below, cofactor-below, eval-below, gcd-below, monic-below, monic_roots-below, replicate-below, roots_of-below, scale-below}
use Rattle.algebra.proofs.NumberEvaluation.{top-coef}
use Rattle.algebra.proofs.NumberMonic.{Made, norm-made}
use Rattle.algebra.proofs.NumberDivision as Q
use Rattle.algebra.proofs.NumberSteps as S
use Rattle.algebra.proofs.NumberElements as Y
use Rattle.algebra.proofs.NumberEvaluation as X
use Rattle.algebra.proofs.Evaluation as H

-- ---- by construction

module _ (G : Ops ℕ) (q : ℕ) (f : List ℕ) where
  pub roots_of-ascending : Ascending (roots_of G q f)
  unfolding roots_of
  roots_of-ascending = kept-ascending (is_root G f) q

  pub roots_of-distinct : Distinct (roots_of G q f)
  roots_of-distinct = ascending-distinct (roots_of G q f) roots_of-ascending

  -- exactly the numbers below q that pass the test
  pub roots_of-member : (x : ℕ) → Memᴰ x (roots_of G q f) ↔ ((x < q) × T (is_root G f x))
  unfolding roots_of
  roots_of-member x = kept-exactly (is_root G f) q x

module _ {G : Ops ℕ} {q : ℕ} (N : OnNumbers G q) where
  -- the field of elements, and its laws
  abbrev K : Ops (Elem q)
  K = elems N

  abbrev L : Laws K
  L = laws N

  -- the test, as an equation
  pub is_root-is : (f : List ℕ) → Below q f → (x : ℕ) → x < q → T (is_root G f x) ↔ (eval G f x ≡ G.zero)
  is_root-is f h x l = N.zero_test (eval G f x) (eval-below N f x h l)

  -- exactly the numbers below q at which f is 0
  pub roots_of-exactly : (f : List ℕ) → Below q f → (x : ℕ) → Memᴰ x (roots_of G q f) ↔ ((x < q) × (eval G f x ≡ G.zero))
  roots_of-exactly f h x = (
    λ m. let k = (roots_of-member G q f x).0 m in (k.0, (is_root-is f h x k.0).0 k.1),
    λ k. (roots_of-member G q f x).1 (k.0, (is_root-is f h x k.0).1 k.1),
  )

  -- no other ascending list has these members
  pub roots_of-only : (f : List ℕ) → Below q f → (l : List ℕ) → Ascending l → ((x : ℕ) → Memᴰ x l ↔ ((x < q) × (eval G f x ≡ G.zero))) → roots_of G q f ≡ l
  roots_of-only f h l a e =
      ascending-same (roots_of G q f) l (roots_of-ascending G q f) a (λ x. (λ m. (e x).1 ((roots_of-exactly f h x).0 m), λ m. (roots_of-exactly f h x).1 ((e x).0 m)))

  -- polynomials that are 0 at the same places have the same roots
  pub roots_of-agree : (f g : List ℕ) → Below q f → Below q g → ((x : ℕ) → x < q → (eval G f x ≡ G.zero) ↔ (eval G g x ≡ G.zero)) → roots_of G q f ≡ roots_of G q g
  roots_of-agree f g hf hg e =
      roots_of-only f hf (roots_of G q g) (roots_of-ascending G q g)
      (λ x. (λ m. let k = (roots_of-exactly g hg x).0 m in (k.0, (e x k.0).1 k.1), λ k. (roots_of-exactly g hg x).1 (k.0, (e x k.0).0 k.1)))

  -- ---- what does not change the roots

  pub roots_of-same : (f g : List ℕ) → Below q f → Below q g → coef G f ≡ coef G g → roots_of G q f ≡ roots_of G q g
  roots_of-same f g hf hg e = roots_of-agree f g hf hg (λ x l. let s : eval G f x ≡ eval G g x = X.eval-same N f g hf hg e x l in (λ z. sym s ∙ z, λ z. s ∙ z))

  pub roots_of-top : (f : List ℕ) (n : ℕ) → Below q f → roots_of G q (f ++ replicate n G.zero) ≡ roots_of G q f
  roots_of-top f n h =
      roots_of-same (f ++ replicate n G.zero) f (append-below q f (replicate n G.zero) h (replicate-below q n G.zero N.zero-below)) h (top-coef N f n)

  -- nor does a nonzero factor
  pub roots_of-scale : (c : ℕ) (f : List ℕ) → c < q → c ≢ G.zero → Below q f → roots_of G q (map (G.mul c) f) ≡ roots_of G q f
  roots_of-scale c f hc n h =
      roots_of-agree (map (G.mul c) f) f (scale-below N c f hc h) h λ x l.
      let e : eval G (map (G.mul c) f) x ≡ G.mul c (eval G f x) = X.eval-scale N c f hc h x l in
      (λ z. Y.zero-of-product N c (eval G f x) hc (eval-below N f x h l) n (sym e ∙ z), λ z. e ∙ ap (G.mul c) z ∙ Y.mul-zero N c hc)

  -- so a polynomial has the roots of what it is made monic
  pub roots_of-norm : (f : List ℕ) {s : List ℕ} → Below q f → norm G (length f) f ≡ some s → roots_of G q (monic G s) ≡ roots_of G q f
  roots_of-norm f {s} h e =
      let m : Made G q f s = norm-made N f h e in
      let b : Below q (monic G s) = monic-below N s m.small in
      sym (roots_of-same f (map (G.mul m.lead) (monic G s)) h (scale-below N m.lead (monic G s) m.lead-below b) m.exact
      ∙ roots_of-scale m.lead (monic G s) m.lead-below m.nonzero b)

  -- ---- how many

  -- the roots among the elements, as numbers
  roots-low : (u : List (Elem q)) → low N (keep (is_root K u) (all N)) ≡ roots_of G q (low N u)
  unfolding roots_of
  roots-low u = low-keep N (is_root K u) (is_root G (low N u)) (all N) (λ x. ap G.is_zero (low-eval N u x)) ∙ ap (keep (is_root G (low N u))) (low-all N)

  -- a monic polynomial of degree n has at most n roots
  pub roots_of-count : (p : List ℕ) → Below q p → length (roots_of G q (monic G p)) ≤ length p
  roots_of-count = by-elements N (λ p. length (roots_of G q (monic G p)) ≤ length p) λ u.
      let f : List (Elem q) = monic K u in
      let s : List (Elem q) = keep (is_root K f) (all N) in
      let few : length s ≤ length u =
      roots-at-most L s f (distinct-keep (is_root K f) (all N) (distinct-all N))
      (all_map (λ x. (L.zero_test (eval K f x)).0) s (keep-passed (is_root K f) (all N)))
      (monic-list L u) L.one≢zero in
      let e : low N s ≡ roots_of G q (monic G (low N u)) = roots-low f ∙ ap (roots_of G q) (low-monic N u) in
      let n : length (low N s) ≤ length (low N u) = omega (arith, length-map s (λ x. x.0), length-map u (λ x. x.0)) in
      subst (λ l. length l ≤ length (low N u)) e n

  -- and so any other but 0
  pub roots_of-degree : (f : List ℕ) {s : List ℕ} → Below q f → norm G (length f) f ≡ some s → length (roots_of G q f) ≤ length s
  roots_of-degree f {s} h e = subst (λ l. length l ≤ length s) (roots_of-norm f h e) (roots_of-count s (norm-made N f h e).small)

  -- n ascending numbers at which a monic polynomial of degree n is 0 are all its roots
  pub roots_of-whole : (p s : List ℕ) → Below q p → Ascending s → All (λ x. (x < q) × (eval G (monic G p) x ≡ G.zero)) s → length p ≤ length s
      → roots_of G q (monic G p) ≡ s
  roots_of-whole p s h a z n =
      ascending-whole s (roots_of G q (monic G p)) a (roots_of-ascending G q (monic G p))
      (λ x m. (roots_of-exactly (monic G p) (monic-below N p h) x).1 (all-at (λ y. (y < q) × (eval G (monic G p) y ≡ G.zero)) s z m)) (omega (arith, roots_of-count p h))

  -- ---- products over roots

  -- the roots of a product over roots are those
  pub monic_roots-root : (s : List ℕ) → Below q s → (x : ℕ) → x < q → (eval G (monic G (monic_roots G s)) x ≡ G.zero) ↔ Memᴰ x s
  monic_roots-root s h x l = by-elements N (λ s. (eval G (monic G (monic_roots G s)) x ≡ G.zero) ↔ Memᴰ x s) go s h
    where
      go : (u : List (Elem q)) → (eval G (monic G (monic_roots G (low N u))) x ≡ G.zero) ↔ Memᴰ x (low N u)
      go u =
          let e : low N (from_roots K u) ≡ monic G (monic_roots G (low N u)) =
          ap (low N) (sym (monic-roots L u)) ∙ low-monic N (monic_roots K u) ∙ ap (monic G) (low-monic_roots N u) in (
            λ z. mem-low N u (x, l) (member-root L u (x, l) (root-up N (from_roots K u) (x, l) _ e z)),
            λ m. root-down N (from_roots K u) (x, l) _ e (root-member L u (x, l) (mem-lift N u (x, l) m)),
          )

  -- so `roots_of` takes the product over an ascending list back to the list
  pub roots_of-monic_roots : (s : List ℕ) → Below q s → Ascending s → roots_of G q (monic G (monic_roots G s)) ≡ s
  roots_of-monic_roots s h a =
      roots_of-only (monic G (monic_roots G s)) (monic-below N (monic_roots G s) (monic_roots-below N s h)) s a (λ x. (
        λ m. let l : x < q = all-at (λ c. c < q) s h m in (l, (monic_roots-root s h x l).1 m),
        λ k. (monic_roots-root s h x k.0).0 k.1,
      ))

  -- ---- greatest common divisors and cofactors

  -- a greatest common divisor with t keeps the roots at which t is 0
  pub roots_of-gcd : (p t : List ℕ) → Below q p → Below q t → roots_of G q (monic G (gcd G p t)) ≡ keep (is_root G t) (roots_of G q (monic G p))
  roots_of-gcd p t hp ht =
      let b : Below q (monic G p) = monic-below N p hp in
      roots_of-only (monic G (gcd G p t)) (monic-below N (gcd G p t) (gcd-below N p t hp ht)) (keep (is_root G t) (roots_of G q (monic G p)))
      (ascending-keep (is_root G t) (roots_of G q (monic G p)) (roots_of-ascending G q (monic G p)))
      (λ x. (
        λ m.
            let k = (kept-member (is_root G t) (roots_of G q (monic G p))).0 m in
            let r = (roots_of-exactly (monic G p) b x).0 k.0 in
            (r.0, (Q.gcd-root N p t hp ht x r.0).1 (r.1, (is_root-is t ht x r.0).0 k.1)),
        λ k.
            let r = (Q.gcd-root N p t hp ht x k.0).0 k.1 in
            (kept-member (is_root G t) (roots_of G q (monic G p))).1 ((roots_of-exactly (monic G p) b x).1 (k.0, r.0), (is_root-is t ht x k.0).1 r.1),
      ))

  -- and the cofactor has the others
  pub roots_of-parts : (p t : List ℕ) → Below q p → Below q t → (x : ℕ)
      → Memᴰ x (roots_of G q (monic G p)) ↔ (Memᴰ x (roots_of G q (monic G (gcd G p t))) ⊎ Memᴰ x (roots_of G q (monic G (cofactor G p (gcd G p t)))))
  roots_of-parts p t hp ht x =
      let g : List ℕ = gcd G p t in
      let hg : Below q g = gcd-below N p t hp ht in
      let b : Below q (monic G p) = monic-below N p hp in
      let c : Below q (monic G g) = monic-below N g hg in
      let d : Below q (monic G (cofactor G p g)) = monic-below N (cofactor G p g) (cofactor-below N p g hp hg) in (
        λ m.
            let k = (roots_of-exactly (monic G p) b x).0 m in
            ⊎_elim (λ z. inl ((roots_of-exactly (monic G g) c x).1 (k.0, z))) (λ z. inr ((roots_of-exactly (monic G (cofactor G p g)) d x).1 (k.0, z)))
            ((Q.cofactor-root N p t hp ht x k.0).0 k.1),
        λ o. ⊎_elim
            (λ m. let k = (roots_of-exactly (monic G g) c x).0 m in (roots_of-exactly (monic G p) b x).1 (k.0, (Q.cofactor-root N p t hp ht x k.0).1 (inl k.1)))
            (λ m. let k = (roots_of-exactly (monic G (cofactor G p g)) d x).0 m in (roots_of-exactly (monic G p) b x).1 (k.0, (Q.cofactor-root N p t hp ht x k.0).1 (inr k.1))) o,
      )

  -- the part that splits has all the roots
  pub roots_of-begin : (m : ℕ) → q ≡ 2 ^ m → 1 < q → ((x : ℕ) → x < q → squared G m x ≡ x) → (p : List ℕ) → Below q p
      → roots_of G q (monic G (gcd G p (field_poly G m))) ≡ roots_of G q (monic G p)
  roots_of-begin m size wide fermat p h =
      ap (λ g. roots_of G q (monic G g)) (S.begin-gcd N m size wide fermat p h)
      ∙ roots_of-monic_roots (roots_of G q (monic G p)) (roots_of-below G q (monic G p)) (roots_of-ascending G q (monic G p))

  -- the part of any f but 0 that splits is its gcd with z^(2^m) + z
  pub split-part : (m : ℕ) → q ≡ 2 ^ m → 1 < q → ((x : ℕ) → x < q → squared G m x ≡ x) → (f : List ℕ) {s : List ℕ} → Below q f → norm G (length f) f ≡ some s
      → gcd G s (field_poly G m) ≡ monic_roots G (roots_of G q f)
  split-part m size wide fermat f {s} h e = S.begin-gcd N m size wide fermat s (norm-made N f h e).small ∙ ap (monic_roots G) (roots_of-norm f h e)

  -- ---- where the roots are known

  module _ (f : List ℕ) (small : Below q f) where
    pub roots_of-empty : ((z : ℕ) → z < q → eval G f z ≡ G.zero → ⊥) → roots_of G q f ≡ []
    roots_of-empty h = roots_of-only f small [] tt (λ z. (λ m. absurd (Memᴰ.not-nil m), λ k. absurd (h z k.0 k.1)))

    pub roots_of-single : (x : ℕ) → x < q → eval G f x ≡ G.zero → ((z : ℕ) → z < q → eval G f z ≡ G.zero → z ≡ x) → roots_of G q f ≡ x ∷ []
    roots_of-single x l e h =
        roots_of-only f small (x ∷ []) (tt, tt) (λ z. (
          λ m. let i : z ≡ x = Memᴰ.eq_of_singleton m in (subst (λ y. y < q) (sym i) l, ap (eval G f) i ∙ e),
          λ k. Memᴰ.head (h z k.0 k.1),
        ))

    pub roots_of-pair : (x y : ℕ) → x < y → y < q → eval G f x ≡ G.zero → eval G f y ≡ G.zero
        → ((z : ℕ) → z < q → eval G f z ≡ G.zero → (z ≡ x) ⊎ (z ≡ y)) → roots_of G q f ≡ x ∷ y ∷ []
    roots_of-pair x y b l ex ey h =
        roots_of-only f small (x ∷ y ∷ []) ((b, tt), (tt, tt)) (λ z. (
          λ m. ⊎_elim (λ i. (subst (λ w. w < q) (sym i) (lt_trans b l), ap (eval G f) i ∙ ex))
              (λ k. let i : z ≡ y = Memᴰ.eq_of_singleton k in (subst (λ w. w < q) (sym i) l, ap (eval G f) i ∙ ey)) (Memᴰ.cases_cons m),
          λ k. ⊎_elim (λ i. Memᴰ.head i) (λ i. Memᴰ.tail (Memᴰ.head i)) (h z k.0 k.1),
        ))

  -- ---- small degrees

  pub roots_of-none : roots_of G q (monic G []) ≡ []
  unfolding monic_roots from_roots
  roots_of-none = roots_of-monic_roots [] tt tt

  pub eval-one : (c x : ℕ) → c < q → x < q → eval G (monic G (c ∷ [])) x ≡ G.add c x
  eval-one c x hc hx = sym (low-eval N (linear K (c, hc)) (x, hx)) ∙ ap (λ y. y.0) (H.eval-linear L (c, hc) (x, hx))

  pub roots_of-one : (c : ℕ) → c < q → roots_of G q (monic G (c ∷ [])) ≡ c ∷ []
  roots_of-one c h =
      roots_of-single (monic G (c ∷ [])) (h, (N.one_below, tt)) c h (eval-one c c h h ∙ N.add-self c h)
      (λ z l e. sym (Y.equal-of-sum N c z h l (sym (eval-one c z h l) ∙ e)))

  -- where r is a root of z^2 + a z + b, the other is r + a
  pub other-root : (a b r x : ℕ) → a < q → b < q → r < q → x < q → eval G (monic G (b ∷ a ∷ [])) r ≡ G.zero
      → (eval G (monic G (b ∷ a ∷ [])) x ≡ G.zero) ↔ ((x ≡ r) ⊎ (x ≡ G.add r a))
  other-root a b r x ha hb hr hx e =
      let f : List (Elem q) = (b, hb) ∷ (a, ha) ∷ K.one ∷ [] in
      let k = quadratic-root L (a, ha) (b, hb) (r, hr) (x, hx) (root-up N f (r, hr) (low N f) refl e) in (
        λ z. ⊎_elim (λ i. inl (ap (λ y. y.0) i)) (λ i. inr (ap (λ y. y.0) i)) (k.0 (root-up N f (x, hx) (low N f) refl z)),
        λ o. root-down N f (x, hx) (low N f) refl (k.1 (⊎_elim (λ i. inl (elem-equal i)) (λ i. inr (elem-equal i)) o)),
      )
