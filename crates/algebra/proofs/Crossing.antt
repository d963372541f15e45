-- From elements to numbers: the theory is proved over a type of elements, whose laws have no side conditions; here is
-- what carries it to lists of numbers below q, as the code holds them. `low` forgets that a number is below q, and
-- commutes with every operation.
--   Elem         the field elements: the numbers below q
--   elems, laws  their operations, and that they obey the laws
--   low          a list of elements as numbers
--   map-NAME     NAME commutes with `map`
--   low-NAME     NAME commutes with `low`
--   lift         a list of numbers below q as elements
--   all          the field's elements in order
--   by-elements  what holds of all lists of elements holds of all lists of numbers below q
--   by_two       the same of two lists
-- Assumes nothing.
use mathlib.Core.Path.{◌∙◌, ◌≡◌, ap, ap₂, fun_ext, refl, subst, sym}
use mathlib.Core.HLevel.{Σ_prop_path}
use mathlib.Core.Logic.{◌≢◌, ⊎_elim}
use mathlib.Core.Bool.{Bool, cond, false, true}
use mathlib.Core.Option.{Option, Option-elim, none, some}
use mathlib.Core.List.Memᴰ
use mathlib.Core.List.{List, Memᴰ, [], ◌∷◌, map, map-append}
use Prim.Native.Nat.{◌-◌, ◌<◌, suc, zero, ℕ}
use native.Mathlib.Bridge.{le_prop}
use native.Mathlib.Omega.{arith}
use lib.ListN.{get_or-map, get_or, length, length-map, replicate, take}
use Rattle.algebra.specs.Field.{Laws, OnNumbers, Ops, power, squared, trace}
use Rattle.algebra.specs.Trial.{All, Distinct, keep, up_from}
use Rattle.algebra.specs.Polynomial.{Below, add, coef, eval, field_poly, frobenius, from_roots, linear, mul, trace_poly}
use Rattle.algebra.specs.Routines.{cofactor, quotient_digit, euclid, frobenius_mod, gcd, monic, monic_roots, norm, quo, rem, shift_in, square, trace_mod}
use Rattle.algebra.proofs.Trial.{ascending-distinct, length-up_from, up_from-all, up_from-ascending}

module _ {A B : Type 0} (φ : A → B) where
  pub map-take : (n : ℕ) (l : List A) → map φ (take n l) ≡ take n (map φ l)
  map-take zero l = refl
  map-take (suc n) [] = refl
  map-take (suc n) (x ∷ l) = ap (λ r. φ x ∷ r) (map-take n l)

  pub map-replicate : (n : ℕ) (a : A) → map φ (replicate n a) ≡ replicate n (φ a)
  map-replicate zero a = refl
  map-replicate (suc n) a = ap (λ r. φ a ∷ r) (map-replicate n a)

-- the field elements: the numbers below q
abbrev pub Elem : ℕ → Type 0
Elem q = (x : ℕ) × (x < q)

pub elem-equal : {q : ℕ} {u v : Elem q} → u.0 ≡ v.0 → u ≡ v
elem-equal {q} {u} {v} e = Σ_prop_path (λ (x : ℕ). le_prop {n = suc x} {m = q}) {u = u} {v = v} e

module _ {G : Ops ℕ} {q : ℕ} (N : OnNumbers G q) where
  abbrev pub elems : Ops (Elem q)
  elems = record {
    zero = (G.zero, N.zero-below);
    one = (G.one, N.one_below);
    add = λ u v. (G.add u.0 v.0, N.add-below u.0 v.0 u.1 v.1);
    mul = λ u v. (G.mul u.0 v.0, N.mul-below u.0 v.0 u.1 v.1);
    inv = λ u. (G.inv u.0, N.inv-below u.0 u.1);
    is_zero = λ u. G.is_zero u.0;
  }

  pub laws : Laws elems
  laws = record {
    add_comm = λ x y. elem-equal (N.add_comm x.0 y.0 x.1 y.1);
    add_assoc = λ x y z. elem-equal (N.add_assoc x.0 y.0 z.0 x.1 y.1 z.1);
    zero-add = λ x. elem-equal (N.zero-add x.0 x.1);
    add-self = λ x. elem-equal (N.add-self x.0 x.1);
    mul_comm = λ x y. elem-equal (N.mul_comm x.0 y.0 x.1 y.1);
    mul_assoc = λ x y z. elem-equal (N.mul_assoc x.0 y.0 z.0 x.1 y.1 z.1);
    one-mul = λ x. elem-equal (N.one-mul x.0 x.1);
    mul-add = λ x y z. elem-equal (N.mul-add x.0 y.0 z.0 x.1 y.1 z.1);
    mul-inv = λ x h. elem-equal (N.mul-inv x.0 x.1 (λ e. h (elem-equal e)));
    one≢zero = λ e. N.one≢zero (ap (λ u. u.0) e);
    zero_test = λ x. (λ t. elem-equal ((N.zero_test x.0 x.1).0 t), λ e. (N.zero_test x.0 x.1).1 (ap (λ u. u.0) e));
  }

  -- a list of elements as numbers
  abbrev pub low : List (Elem q) → List ℕ
  low = map (λ u. u.0)

  -- ---- `low` commutes with all that is defined over the operations

  pub low-add : (p r : List (Elem q)) → low (add elems p r) ≡ add G (low p) (low r)
  unfolding add
  low-add [] r = refl
  low-add (c ∷ p) [] = refl
  low-add (c ∷ p) (d ∷ r) = ap (λ l. G.add c.0 d.0 ∷ l) (low-add p r)

  pub low-scale : (c : Elem q) (p : List (Elem q)) → low (map (elems.mul c) p) ≡ map (G.mul c.0) (low p)
  low-scale c [] = refl
  low-scale c (d ∷ p) = ap (λ l. G.mul c.0 d.0 ∷ l) (low-scale c p)

  pub low-mul : (p r : List (Elem q)) → low (mul elems p r) ≡ mul G (low p) (low r)
  unfolding mul
  low-mul [] r = refl
  low-mul (c ∷ p) r = low-add (map (elems.mul c) r) (elems.zero ∷ mul elems p r) ∙ ap₂ (λ a b. add G a (G.zero ∷ b)) (low-scale c r) (low-mul p r)

  pub low-eval : (p : List (Elem q)) (x : Elem q) → (eval elems p x).0 ≡ eval G (low p) x.0
  unfolding eval
  low-eval [] x = refl
  low-eval (c ∷ p) x = ap (λ v. G.add c.0 (G.mul x.0 v)) (low-eval p x)

  pub low-from_roots : (s : List (Elem q)) → low (from_roots elems s) ≡ from_roots G (low s)
  unfolding from_roots
  low-from_roots [] = refl
  low-from_roots (r ∷ s) = low-mul (linear elems r) (from_roots elems s) ∙ ap (mul G (linear G r.0)) (low-from_roots s)

  pub low-monic_roots : (s : List (Elem q)) → low (monic_roots elems s) ≡ monic_roots G (low s)
  unfolding monic_roots
  low-monic_roots s =
      map-take (λ u. u.0) (length s) (from_roots elems s) ∙ ap₂ (λ n l. take n l) (sym (length-map s (λ u. u.0))) (low-from_roots s)

  pub low_digit : (p : List (Elem q)) (c : Elem q) (r : List (Elem q)) → (quotient_digit elems p c r).0 ≡ quotient_digit G (low p) c.0 (low r)
  unfolding quotient_digit
  low_digit p c r = sym (ap (λ n. get_or (low (c ∷ r)) n G.zero) (length-map p (λ u. u.0)) ∙ get_or-map (λ u. u.0) (c ∷ r) (length p) elems.zero)

  pub low-shift_in : (p : List (Elem q)) (c : Elem q) (r : List (Elem q)) → low (shift_in elems p c r) ≡ shift_in G (low p) c.0 (low r)
  unfolding shift_in
  low-shift_in p c r =
      low-add (take (length p) (c ∷ r)) (map (elems.mul (quotient_digit elems p c r)) p)
      ∙ ap₂ (add G)
      (map-take (λ u. u.0) (length p) (c ∷ r) ∙ ap (λ n. take n (low (c ∷ r))) (sym (length-map p (λ u. u.0))))
      (low-scale (quotient_digit elems p c r) p ∙ ap (λ t. map (G.mul t) (low p)) (low_digit p c r))

  pub low-rem : (p f : List (Elem q)) → low (rem elems p f) ≡ rem G (low p) (low f)
  unfolding rem
  low-rem p [] = map-replicate (λ u. u.0) (length p) elems.zero ∙ ap (λ n. replicate n G.zero) (sym (length-map p (λ u. u.0)))
  low-rem p (c ∷ f) = low-shift_in p c (rem elems p f) ∙ ap (shift_in G (low p) c.0) (low-rem p f)

  pub low-quo : (p f : List (Elem q)) → low (quo elems p f) ≡ quo G (low p) (low f)
  unfolding quo
  low-quo p [] = refl
  low-quo p (c ∷ f) = ap₂ (λ (t : ℕ) (l : List ℕ). t ∷ l) (low_digit p c (rem elems p f) ∙ ap (quotient_digit G (low p) c.0) (low-rem p f)) (low-quo p f)

  pub low-monic : (p : List (Elem q)) → low (monic elems p) ≡ monic G (low p)
  low-monic p = map-append (λ u. u.0) p (elems.one ∷ [])

  abbrev pub low? : Option (List (Elem q)) → Option (List ℕ)
  low? none = none
  low? (some p) = some (low p)

  pub low-norm : (k : ℕ) (r : List (Elem q)) → low? (norm elems k r) ≡ norm G k (low r)
  unfolding norm
  low-norm zero r = refl
  low-norm (suc k) r =
      let x : Elem q = get_or r k elems.zero in
      let e : x.0 ≡ get_or (low r) k G.zero = sym (get_or-map (λ u. u.0) r k elems.zero) in
      let m : low (map (elems.mul (elems.inv x)) (take k r)) ≡ map (G.mul (G.inv x.0)) (take k (low r)) =
      low-scale (elems.inv x) (take k r) ∙ ap (map (G.mul (G.inv x.0))) (map-take (λ u. u.0) k r) in
      choose (G.is_zero x.0) (norm elems k r) (map (elems.mul (elems.inv x)) (take k r))
      ∙ ap₂ (λ (o : Option (List ℕ)) (l : List ℕ). cond (G.is_zero x.0) o (some l)) (low-norm k r) m
      ∙ ap (λ (y : ℕ). cond (G.is_zero y) (norm G k (low r)) (some (map (G.mul (G.inv y)) (take k (low r))))) e
    where
      choose : (b : Bool) (o : Option (List (Elem q))) (l : List (Elem q)) → low? (cond b o (some l)) ≡ cond b (low? o) (some (low l))
      choose true o l = refl
      choose false o l = refl

  pub low-euclid : (n : ℕ) (p f : List (Elem q)) → low (euclid elems n p f) ≡ euclid G n (low p) (low f)
  unfolding euclid
  low-euclid zero p f = refl
  low-euclid (suc n) p f =
      go (norm elems (length p) (rem elems p f)) (low-euclid n)
      ∙ ap (λ (o : Option (List ℕ)). Option-elim o (low p) (λ r. euclid G n r (monic G (low p))))
      (low-norm (length p) (rem elems p f) ∙ ap₂ (norm G) (sym (length-map p (λ u. u.0))) (low-rem p f))
    where
      go : (o : Option (List (Elem q))) → ((r g : List (Elem q)) → low (euclid elems n r g) ≡ euclid G n (low r) (low g))
          → low (Option-elim o p (λ r. euclid elems n r (monic elems p))) ≡ Option-elim (low? o) (low p) (λ r. euclid G n r (monic G (low p)))
      go none rec = refl
      go (some r) rec = rec r (monic elems p) ∙ ap (euclid G n (low r)) (low-monic p)

  pub low-gcd : (p f : List (Elem q)) → low (gcd elems p f) ≡ gcd G (low p) (low f)
  unfolding gcd
  low-gcd p f = low-euclid (length p) p f ∙ ap (λ n. euclid G n (low p) (low f)) (sym (length-map p (λ u. u.0)))

  pub low-cofactor : (p g : List (Elem q)) → low (cofactor elems p g) ≡ cofactor G (low p) (low g)
  unfolding cofactor
  low-cofactor p g =
      map-take (λ u. u.0) (length p - length g) (quo elems g (monic elems p))
      ∙ ap₂ (λ n l. take n l) (sym (ap₂ ◌-◌ (length-map p (λ u. u.0)) (length-map g (λ u. u.0)))) (low-quo g (monic elems p) ∙ ap (quo G (low g)) (low-monic p))

  pub low-keep : (t : Elem q → Bool) (t' : ℕ → Bool) (s : List (Elem q)) → ((u : Elem q) → t u ≡ t' u.0) → low (keep t s) ≡ keep t' (low s)
  low-keep t t' [] e = refl
  low-keep t t' (r ∷ s) e =
      choose (t r) ∙ ap₂ (λ (b : Bool) (l : List ℕ). cond b (r.0 ∷ l) l) (e r) (low-keep t t' s e)
    where
      choose : (b : Bool) → low (cond b (r ∷ keep t s) (keep t s)) ≡ cond b (r.0 ∷ low (keep t s)) (low (keep t s))
      choose true = refl
      choose false = refl

  pub low-frobenius : (j : ℕ) (f : List (Elem q)) → low (frobenius elems j f) ≡ frobenius G j (low f)
  unfolding frobenius
  low-frobenius zero f = refl
  low-frobenius (suc j) f = low-frobenius j (mul elems f f) ∙ ap (frobenius G j) (low-mul f f)

  pub low-trace_poly : (j : ℕ) (f : List (Elem q)) → low (trace_poly elems j f) ≡ trace_poly G j (low f)
  unfolding trace_poly
  low-trace_poly zero f = refl
  low-trace_poly (suc j) f = low-add f (trace_poly elems j (mul elems f f)) ∙ ap (add G (low f)) (low-trace_poly j (mul elems f f) ∙ ap (trace_poly G j) (low-mul f f))

  pub low-squared : (j : ℕ) (x : Elem q) → (squared elems j x).0 ≡ squared G j x.0
  unfolding squared
  low-squared zero x = refl
  low-squared (suc j) x = low-squared j (elems.mul x x)

  pub low-trace : (j : ℕ) (x : Elem q) → (trace elems j x).0 ≡ trace G j x.0
  unfolding trace
  low-trace zero x = refl
  low-trace (suc j) x = ap (G.add x.0) (low-trace j (elems.mul x x))

  pub low-square : (f : List (Elem q)) → low (square elems f) ≡ square G (low f)
  unfolding square
  low-square [] = refl
  low-square (c ∷ f) = ap (λ l. G.mul c.0 c.0 ∷ G.zero ∷ l) (low-square f)

  pub low-reduced : (p w : List (Elem q)) → low (rem elems p (square elems w)) ≡ rem G (low p) (square G (low w))
  low-reduced p w = low-rem p (square elems w) ∙ ap (rem G (low p)) (low-square w)

  pub low-frobenius_mod : (p : List (Elem q)) (j : ℕ) (w : List (Elem q)) → low (frobenius_mod elems p j w) ≡ frobenius_mod G (low p) j (low w)
  unfolding frobenius_mod
  low-frobenius_mod p zero w = refl
  low-frobenius_mod p (suc j) w = low-frobenius_mod p j (rem elems p (square elems w)) ∙ ap (frobenius_mod G (low p) j) (low-reduced p w)

  pub low-trace_mod : (p : List (Elem q)) (j : ℕ) (w : List (Elem q)) → low (trace_mod elems p j w) ≡ trace_mod G (low p) j (low w)
  unfolding trace_mod
  low-trace_mod p zero w = refl
  low-trace_mod p (suc j) w =
      low-add w (trace_mod elems p j (rem elems p (square elems w)))
      ∙ ap (add G (low w)) (low-trace_mod p j (rem elems p (square elems w)) ∙ ap (trace_mod G (low p) j) (low-reduced p w))

  pub low-field_poly : (m : ℕ) → low (field_poly elems m) ≡ field_poly G m
  low-field_poly m =
      low-add (frobenius elems m (linear elems elems.zero)) (linear elems elems.zero)
      ∙ ap (λ l. add G l (linear G G.zero)) (low-frobenius m (linear elems elems.zero))

  -- ---- a list of numbers below q is a list of elements

  pub lift : (p : List ℕ) → Below q p → List (Elem q)
  lift [] h = []
  lift (c ∷ p) h = (c, h.0) ∷ lift p h.1

  pub low-lift : (p : List ℕ) (h : Below q p) → low (lift p h) ≡ p
  unfolding lift
  low-lift [] h = refl
  low-lift (c ∷ p) h = ap (λ l. c ∷ l) (low-lift p h.1)

  pub distinct-low : (s : List (Elem q)) → Distinct (low s) → Distinct s
  distinct-low [] d = tt
  distinct-low (x ∷ s) d = (apart s d.0, distinct-low s d.1)
    where
      apart : (s : List (Elem q)) → All (λ y. x.0 ≢ y) (low s) → All (λ y. x ≢ y) s
      apart [] h = tt
      apart (y ∷ s) h = ((λ e. h.0 (ap (λ u. u.0) e)), apart s h.1)

  -- ---- the field's elements in order

  pub all : List (Elem q)
  all = lift (up_from 0 q) (up_from-all (λ x. x < q) 0 q (λ x a b. omega arith))

  pub low-all : low all ≡ up_from 0 q
  unfolding all
  low-all = low-lift (up_from 0 q) (up_from-all (λ x. x < q) 0 q (λ x a b. omega arith))

  pub count-all : length all ≡ q
  count-all = sym (length-map all (λ u. u.0)) ∙ ap length low-all ∙ length-up_from 0 q

  pub distinct-all : Distinct all
  distinct-all = distinct-low all (rw low-all (ascending-distinct (up_from 0 q) (up_from-ascending 0 q)))

  -- ---- coefficients

  pub low-coef : (u : List (Elem q)) (k : ℕ) → (coef elems u k).0 ≡ coef G (low u) k
  low-coef u k = sym (get_or-map (λ u. u.0) u k elems.zero)

  pub coef-up : (u v : List (Elem q)) → coef G (low u) ≡ coef G (low v) → coef elems u ≡ coef elems v
  coef-up u v e = fun_ext λ k. elem-equal (low-coef u k ∙ ap (λ f. f k) e ∙ sym (low-coef v k))

  pub coef-down : (u v : List (Elem q)) → coef elems u ≡ coef elems v → coef G (low u) ≡ coef G (low v)
  coef-down u v e = fun_ext λ k. sym (low-coef u k) ∙ ap (λ f. (f k).0) e ∙ low-coef v k

  pub low-power : (x : Elem q) (n : ℕ) → (power elems x n).0 ≡ power G x.0 n
  unfolding power
  low-power x zero = refl
  low-power x (suc n) = ap (G.mul x.0) (low-power x n)

  -- ---- membership and roots

  pub mem-low : (u : List (Elem q)) (x : Elem q) → Memᴰ x u → Memᴰ x.0 (low u)
  mem-low [] x m = absurd (Memᴰ.not-nil m)
  mem-low (y ∷ u) x m = ⊎_elim (λ e. Memᴰ.head (ap (λ z. z.0) e)) (λ i. Memᴰ.tail (mem-low u x i)) (Memᴰ.cases_cons m)

  pub mem-lift : (u : List (Elem q)) (x : Elem q) → Memᴰ x.0 (low u) → Memᴰ x u
  mem-lift [] x m = absurd (Memᴰ.not-nil m)
  mem-lift (y ∷ u) x m = ⊎_elim (λ e. Memᴰ.head (elem-equal e)) (λ i. Memᴰ.tail (mem-lift u x i)) (Memᴰ.cases_cons m)

  -- a value is 0 of elements where it is of numbers
  pub root-up : (u : List (Elem q)) (x : Elem q) (l : List ℕ) → low u ≡ l → eval G l x.0 ≡ G.zero → eval elems u x ≡ elems.zero
  root-up u x l e z = elem-equal (low-eval u x ∙ ap (λ l. eval G l x.0) e ∙ z)

  pub root-down : (u : List (Elem q)) (x : Elem q) (l : List ℕ) → low u ≡ l → eval elems u x ≡ elems.zero → eval G l x.0 ≡ G.zero
  root-down u x l e z = ap (λ l. eval G l x.0) (sym e) ∙ sym (low-eval u x) ∙ ap (λ y. y.0) z

  -- ---- what is shown of elements holds of numbers below q

  pub below-low : (u : List (Elem q)) → Below q (low u)
  below-low [] = tt
  below-low (x ∷ u) = (x.1, below-low u)

  pub by-elements : (P : List ℕ → Type 0) → ((u : List (Elem q)) → P (low u)) → (p : List ℕ) → Below q p → P p
  by-elements P f p h = subst P (low-lift p h) (f (lift p h))

  pub by_two : (P : List ℕ → List ℕ → Type 0) → ((u v : List (Elem q)) → P (low u) (low v)) → (p r : List ℕ) → Below q p → Below q r → P p r
  by_two P f p r h k = by-elements (λ p. P p r) (λ u. by-elements (P (low u)) (f u) r k) p h
