-- Nothing leaves the numbers below q: each operation on polynomials gives a list of numbers below q where it is given
-- such lists.
--   NAME-below     so it is with NAME, from `add` to `gcd`
--   eval-below     values
--   below_at, below-from   by the places, as code reads a slice
--   power_below   of elements
-- Assumes nothing.
use mathlib.Core.Path.{◌≡◌, ◌∙◌, subst}
use mathlib.Core.Bool.{Bool}
use mathlib.Core.Option.{Option, none, some}
use mathlib.Core.List.{List, [], ◌∷◌, ◌++◌, map}
use Prim.Native.Nat.{ℕ, zero, suc, ◌<◌}
use native.Mathlib.Nat.{not-suc-le-zero, le_of_suc-le-suc}
use native.Mathlib.Omega.{arith}
use lib.ListN.{length, get_or, take, drop, replicate}
use Rattle.algebra.specs.Field.{Ops, OnNumbers, power}
use Rattle.algebra.specs.Trial.{up_from, keep}
use Rattle.algebra.specs.Polynomial.{eval, is_root, add, mul, linear, frobenius, trace_poly, field_poly, trace_of, Below, roots_of}
use Rattle.algebra.specs.Routines.{monic, rem, quo, square, frobenius_mod, trace_mod, norm, cofactor, monic_roots, gcd}
use Rattle.algebra.proofs.Trial.{all_keep, up_from-all}
use Rattle.algebra.proofs.Crossing.{Elem, elems, low, low?, below-low, by-elements, by_two, low-add, low-mul, low-scale, low-eval, low-monic_roots, low-rem, low-quo, low-norm, low-gcd, low-cofactor, low-frobenius, low-trace_poly, low-power, low-square, low-frobenius_mod, low-trace_mod}

-- parts and joins of lists below q
module _ (q : ℕ) where
  pub append-below : (p r : List ℕ) → Below q p → Below q r → Below q (p ++ r)
  append-below [] r h k = k
  append-below (c ∷ p) r h k = (h.0, append-below p r h.1 k)

  pub take_below : (n : ℕ) (p : List ℕ) → Below q p → Below q (take n p)
  take_below zero p h = tt
  take_below (suc n) [] h = tt
  take_below (suc n) (c ∷ p) h = (h.0, take_below n p h.1)

  pub drop-below : (n : ℕ) (p : List ℕ) → Below q p → Below q (drop n p)
  drop-below zero p h = h
  drop-below (suc n) [] h = tt
  drop-below (suc n) (c ∷ p) h = drop-below n p h.1

  pub replicate-below : (n c : ℕ) → c < q → Below q (replicate n c)
  replicate-below zero c h = tt
  replicate-below (suc n) c h = (h, replicate-below n c h)

  pub keep-below : (t : ℕ → Bool) (s : List ℕ) → Below q s → Below q (keep t s)
  keep-below t s h = all_keep (λ c. c < q) t s h

  -- by the places, as code reads a slice
  pub below_at : (p : List ℕ) → Below q p → (i : ℕ) → i < length p → get_or p i 0 < q
  below_at [] h i l = absurd (not-suc-le-zero l)
  below_at (c ∷ p) h zero l = h.0
  below_at (c ∷ p) h (suc i) l = below_at p h.1 i (le_of_suc-le-suc l)

  pub below-from : (p : List ℕ) → ((i : ℕ) → i < length p → get_or p i 0 < q) → Below q p
  below-from [] h = tt
  below-from (c ∷ p) h = (h 0 (omega arith), below-from p (λ i l. h (suc i) (omega arith)))

pub up_from-below : (q : ℕ) → Below q (up_from 0 q)
up_from-below q = up_from-all (λ x. x < q) 0 q (λ x a b. omega arith)

pub roots_of-below : (G : Ops ℕ) (q : ℕ) (f : List ℕ) → Below q (roots_of G q f)
unfolding roots_of
roots_of-below G q f = keep-below q (is_root G f) (up_from 0 q) (up_from-below q)

module _ {G : Ops ℕ} {q : ℕ} (N : OnNumbers G q) where
  -- what crosses from elements is below q: of one list, and of two
  crossed : (g : List ℕ → List ℕ) (h : List (Elem q) → List (Elem q)) → ((u : List (Elem q)) → low N (h u) ≡ g (low N u)) → (f : List ℕ) → Below q f → Below q (g f)
  crossed g h e = by-elements N (λ f. Below q (g f)) (λ u. subst (Below q) (e u) (below-low N (h u)))

  crossed-two : (g : List ℕ → List ℕ → List ℕ) (h : List (Elem q) → List (Elem q) → List (Elem q)) → ((u v : List (Elem q)) → low N (h u v) ≡ g (low N u) (low N v))
      → (p f : List ℕ) → Below q p → Below q f → Below q (g p f)
  crossed-two g h e = by_two N (λ p f. Below q (g p f)) (λ u v. subst (Below q) (e u v) (below-low N (h u v)))

  -- ---- elements

  pub eval-below : (p : List ℕ) (x : ℕ) → Below q p → x < q → eval G p x < q
  eval-below p x h k = by-elements N (λ p. eval G p x < q) (λ u. subst (λ w. w < q) (low-eval N u (x, k)) (eval (elems N) u (x, k)).1) p h

  pub power_below : (x n : ℕ) → x < q → power G x n < q
  power_below x n h = subst (λ w. w < q) (low-power N (x, h) n) (power (elems N) (x, h) n).1

  -- ---- polynomials

  pub add-below : (p r : List ℕ) → Below q p → Below q r → Below q (add G p r)
  add-below = crossed-two (add G) (add (elems N)) (low-add N)

  pub mul-below : (p r : List ℕ) → Below q p → Below q r → Below q (mul G p r)
  mul-below = crossed-two (mul G) (mul (elems N)) (low-mul N)

  pub scale-below : (c : ℕ) (p : List ℕ) → c < q → Below q p → Below q (map (G.mul c) p)
  scale-below c p h = crossed (map (G.mul c)) (map ((elems N).mul (c, h))) (low-scale N (c, h)) p

  pub linear-below : (r : ℕ) → r < q → Below q (linear G r)
  linear-below r h = (h, (N.one_below, tt))

  pub frobenius-below : (j : ℕ) (f : List ℕ) → Below q f → Below q (frobenius G j f)
  frobenius-below j = crossed (frobenius G j) (frobenius (elems N) j) (low-frobenius N j)

  pub trace_poly-below : (j : ℕ) (f : List ℕ) → Below q f → Below q (trace_poly G j f)
  trace_poly-below j = crossed (trace_poly G j) (trace_poly (elems N) j) (low-trace_poly N j)

  pub monic_roots-below : (s : List ℕ) → Below q s → Below q (monic_roots G s)
  monic_roots-below = crossed (monic_roots G) (monic_roots (elems N)) (low-monic_roots N)

  pub field_poly-below : (m : ℕ) → Below q (field_poly G m)
  field_poly-below m =
      let z : Below q (linear G G.zero) = linear-below G.zero N.zero-below in
      add-below (frobenius G m (linear G G.zero)) (linear G G.zero) (frobenius-below m (linear G G.zero) z) z

  pub trace_of-below : (m b : ℕ) → b < q → Below q (trace_of G m b)
  trace_of-below m b h = trace_poly-below m (G.zero ∷ b ∷ []) (N.zero-below, (h, tt))

  -- ---- routines

  pub monic-below : (p : List ℕ) → Below q p → Below q (monic G p)
  monic-below p h = append-below q p (G.one ∷ []) h (N.one_below, tt)

  pub square-below : (f : List ℕ) → Below q f → Below q (square G f)
  square-below = crossed (square G) (square (elems N)) (low-square N)

  pub rem_below : (p f : List ℕ) → Below q p → Below q f → Below q (rem G p f)
  rem_below = crossed-two (rem G) (rem (elems N)) (low-rem N)

  pub quo-below : (p f : List ℕ) → Below q p → Below q f → Below q (quo G p f)
  quo-below = crossed-two (quo G) (quo (elems N)) (low-quo N)

  pub gcd-below : (p f : List ℕ) → Below q p → Below q f → Below q (gcd G p f)
  gcd-below = crossed-two (gcd G) (gcd (elems N)) (low-gcd N)

  pub cofactor-below : (p g : List ℕ) → Below q p → Below q g → Below q (cofactor G p g)
  cofactor-below = crossed-two (cofactor G) (cofactor (elems N)) (low-cofactor N)

  pub frobenius_mod-below : (p : List ℕ) (j : ℕ) (w : List ℕ) → Below q p → Below q w → Below q (frobenius_mod G p j w)
  frobenius_mod-below p j = crossed-two (λ f w. frobenius_mod G f j w) (λ u v. frobenius_mod (elems N) u j v) (λ u v. low-frobenius_mod N u j v) p

  pub trace_mod-below : (p : List ℕ) (j : ℕ) (w : List ℕ) → Below q p → Below q w → Below q (trace_mod G p j w)
  trace_mod-below p j = crossed-two (λ f w. trace_mod G f j w) (λ u v. trace_mod (elems N) u j v) (λ u v. low-trace_mod N u j v) p

  pub norm-below : (k : ℕ) (r : List ℕ) {s : List ℕ} → Below q r → norm G k r ≡ some s → Below q s
  norm-below k r {s} = by-elements N (λ r. norm G k r ≡ some s → Below q s) (λ u e. go (norm (elems N) k u) (low-norm N k u ∙ e)) r
    where
      go : (o : Option (List (Elem q))) → low? N o ≡ some s → Below q s
      go none e = let z : ◌≡◌ {A = ℕ} 0 1 = cc in absurd (omega arith)
      go (some u) e = let same : low N u ≡ s = cc in subst (Below q) same (below-low N u)
