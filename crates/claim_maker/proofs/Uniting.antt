-- Euclid's algorithm from behind: x and y with x a + y b = 1.
--   Multiplying, multiply-from .. multiply-end   `scaled_row`: the first i logs of the multiple are written
--   reduce-inverts .. reduce-is                  `reduce`: what each routine asks, and what is left
--   unite-constant                               `unite`, where b is a constant
--   unite-on, unite-adds, unite-is               `unite`, where it is not: what the call asks, the product, and what is left
-- Assumes nothing.
use mathlib.Core.Path.{◌≡◌, refl, sym, ap, ap₂, fun_ext, subst, ◌∙◌}
use mathlib.Core.Logic.{◌≢◌}
use mathlib.Core.List.{List, [], ◌∷◌, ◌++◌, map, map-append}
use Prim.Native.Nat.{ℕ, zero, suc, ◌+◌, ◌-◌, ◌^◌, ◌≤◌, ◌<◌}
use native.Mathlib.Decide.{dec_le, dec_lt}
use native.Mathlib.Nat.{not-suc-le-zero}
use native.Mathlib.Omega.{arith}
use lib.ListN.{get_or-eq_default, drop, get_or, length, length-append, length-drop, length-map, length-replicate, length-take, replicate, set, take}
use lib.Seq.{drop-append-add, drop_at, drop-drop, get_or-take, length-take-le, take_all, take_at, take-suc, take-take}
use Rattle.algebra.specs.Field.{OnNumbers}
use Rattle.algebra.specs.Polynomial.{Below, add, coef, mul}
use Rattle.algebra.specs.Routines.{monic, quo, rem}
use Rattle.algebra.proofs.NumberDivision.{division}
use Rattle.algebra.proofs.NumberElements.{add-zero, mul-zero}
use Rattle.algebra.proofs.NumberEvaluation.{top-coef}
use Rattle.algebra.proofs.StaysBelow.{add-below, append-below, below_at, drop-below, monic-below, mul-below, quo-below, rem_below, replicate-below, scale-below, take_below}
use Rattle.field.specs.Field.{G, field_at, inverse}
use Rattle.field.specs.Tables.{log_of}
use Rattle.slices.proofs.Filling.{Filling, fill_end, fill-from, fill_on, map_at}
use Rattle.poly.specs.Lent.{Lent, LogRow, held, log_row}
use Rattle.poly.specs.Asking.{Divisible, Scalable}
use Rattle.poly.specs.Division.{divided}
use Rattle.poly.specs.Monic.{TopIs}
use Rattle.poly.proofs.Divisions.{divided-behind, divided-front, length-divided}
use Rattle.poly.proofs.Parts.{part_none, part-rest}
use Rattle.field.proofs.ByLogs.{product-fits, product-stands}
use Rattle.poly.proofs.Logs.{held-row, log-at, logs-fit, numbers_of, row-is-row}
use Rattle.input.specs.Limit.{limit}
use Rattle.claim_rules.proofs.Combinations.{across, combine-back, combine-on, no-unit, product-ends, quo-cut}
use Rattle.claim_rules.proofs.TheRemainder.{add_same, mul-same}
use Rattle.claims.specs.Checking.{Productive}
use Rattle.claims.proofs.Adding.{cut-same, sum-at, zeros-at}
use Rattle.claim_maker.specs.Making.{Reduced, Reducible, Unitable, United}
use Rattle.claim_maker.proofs.Fitting.{plus-zeros, scale_same}

-- what is not 0 is above it
positive : (x : ℕ) → x ≢ 0 → 0 < x
positive x z = elim (dec_lt 0 x) [ yes p ↦ p | no p ↦ absurd (z (omega arith)) ]

-- ---- the row of a multiple

-- the first i logs are written
pub record Multiplying (m : ℕ) (ls ts : List ℕ) (c : ℕ) (p r₀ r : List ℕ) (i : ℕ) : Type 0 where
  pub tables : Lent m ls ts
  pub given : Scalable m c p
  pub room : length p ≡ length r₀
  pub filling : Filling (log_row m (map ((G m).mul c) p)) r₀ r i

pub multiply-from : {m : ℕ} {ls ts : List ℕ} {c : ℕ} {p r : List ℕ} → Lent m ls ts → Scalable m c p → length p ≡ length r → Multiplying m ls ts c p r r 0
multiply-from {m} {ls} {ts} {c} {p} {r} l g e = record {
  tables = l;
  given = g;
  room = e;
  filling = fill-from (log_row m (map ((G m).mul c) p)) r (length-map (map ((G m).mul c) p) (log_of (field_at m)) ∙ length-map p ((G m).mul c) ∙ e);
}

module _ {m : ℕ} {ls ts : List ℕ} {c : ℕ} {p r₀ r : List ℕ} {i : ℕ} (w : Multiplying m ls ts c p r₀ r i) where
  pub multiply-end : length p ≤ i → r ≡ log_row m (map ((G m).mul c) p)
  multiply-end h = fill_end w.filling (omega (arith, w.room))

  module _ (h : i < length p) where
    small : get_or p i 0 < 2 ^ m
    small = below_at (2 ^ m) p w.given.small i h

    -- a coefficient has its log, and the product stands in the table
    pub multiply-logs : get_or p i 0 < length ls
    multiply-logs = logs-fit w.tables small

    pub multiply-fits : get_or ls c 0 + get_or ls (get_or p i 0) 0 < length ts
    multiply-fits = product-fits w.tables w.given.element small

    product : get_or ts (get_or ls c 0 + get_or ls (get_or p i 0) 0) 0 ≡ (G m).mul c (get_or p i 0)
    product = product-stands w.tables w.given.nonzero w.given.element small

    small_product : get_or ts (get_or ls c 0 + get_or ls (get_or p i 0) 0) 0 < 2 ^ m
    small_product = subst (λ x. x < 2 ^ m) (sym product) ((numbers_of w.tables).mul-below c (get_or p i 0) w.given.element small)

    pub multiply-inside : get_or ts (get_or ls c 0 + get_or ls (get_or p i 0) 0) 0 < length ls
    multiply-inside = logs-fit w.tables small_product

    -- one more
    pub multiply-on : Multiplying m ls ts c p r₀ (set r i (get_or ls (get_or ts (get_or ls c 0 + get_or ls (get_or p i 0) 0) 0) 0)) (i + 1)
    multiply-on = record {
      tables = w.tables;
      given = w.given;
      room = w.room;
      filling = fill_on w.filling (omega (arith, w.room))
          (log-at w.tables small_product ∙ ap (log_of (field_at m)) (product ∙ sym (map_at ((G m).mul c) p i h))
          ∙ sym (map_at (log_of (field_at m)) (map ((G m).mul c) p) i (omega (arith, length-map p ((G m).mul c)))));
    }

-- ---- a division

module _ {m : ℕ} {ls ts b a : List ℕ} (lent : Lent m ls ts) (g : Reducible m b a) where
  N : OnNumbers (G m) (2 ^ m)
  N = numbers_of lent

  pub reduce-low : length b - 1 ≤ length b
  reduce-low = omega arith

  pub reduce-inside : length b - 1 < length b
  reduce-inside = let s = g.some in omega arith

  lead-small : get_or b (length b - 1) 0 < 2 ^ m
  lead-small = below_at (2 ^ m) b g.small_b (length b - 1) reduce-inside

  -- what its inverse asks
  pub reduce-inverts : (0 < get_or b (length b - 1) 0) × (get_or b (length b - 1) 0 < 2 ^ m)
  reduce-inverts = (positive (get_or b (length b - 1) 0) g.lead, lead-small)

  module _ {c : ℕ} (e : c ≡ inverse (field_at m) (get_or b (length b - 1) 0)) where
    element : c < 2 ^ m
    unfolding N
    element = subst (λ x. x < 2 ^ m) (sym e) (N.inv-below (get_or b (length b - 1) 0) lead-small)

    -- times the leading coefficient it is 1
    pub unit-of : (G m).mul c (get_or b (length b - 1) 0) ≡ 1
    unfolding N
    unit-of =
        let x : ℕ = get_or b (length b - 1) 0 in
        N.mul_comm c x element lead-small ∙ ap ((G m).mul x) e ∙ N.mul-inv x lead-small g.lead

    some-c : 0 < c
    unfolding N
    some-c = positive c λ z. N.one≢zero (sym unit-of ∙ N.mul_comm c (get_or b (length b - 1) 0) element lead-small ∙ ap ((G m).mul (get_or b (length b - 1) 0)) z
        ∙ mul-zero N (get_or b (length b - 1) 0) lead-small)

    -- what the row asks
    pub reduce-rows : Scalable m c (take (length b - 1) b)
    reduce-rows = record { nonzero = some-c; element = element; small = take_below (2 ^ m) (length b - 1) b g.small_b }

    -- the low coefficients of the monic multiple
    p : List ℕ
    p = map ((G m).mul c) (take (length b - 1) b)

    small-p : Below (2 ^ m) p
    unfolding N p
    small-p = scale-below N c (take (length b - 1) b) element (take_below (2 ^ m) (length b - 1) b g.small_b)

    long-p : length p ≡ length b - 1
    unfolding p
    long-p = length-map (take (length b - 1) b) ((G m).mul c) ∙ length-take-le (length b - 1) b (omega arith)

    monic-is : monic (G m) p ≡ map ((G m).mul c) b
    unfolding p
    monic-is =
        ap (λ x. map ((G m).mul c) (take (length b - 1) b) ++ x ∷ []) (sym unit-of) ∙ sym (map-append ((G m).mul c) (take (length b - 1) b) (get_or b (length b - 1) 0 ∷ []))
        ∙ ap (map ((G m).mul c)) (sym (take-suc b (length b - 1) 0 reduce-inside) ∙ take_all (suc (length b - 1)) b (let i = reduce-inside in omega arith))

    module _ {y : List ℕ} (r : y ≡ log_row m (map ((G m).mul c) (take (length b - 1) b))) (rest : List ℕ) where
      long-y : length y ≡ length b - 1
      unfolding p
      long-y = ap length r ∙ length-map (map ((G m).mul c) (take (length b - 1) b)) (log_of (field_at m)) ∙ long-p

      pub reduce-row : length b - 1 ≤ length (y ++ rest)
      reduce-row = omega (arith, length-append y rest, long-y)

      front : take (length b - 1) (y ++ rest) ≡ log_row m p
      unfolding p
      front = take_at y rest (length b - 1) long-y ∙ r

      -- what the division asks
      pub reduce-divides : Divisible m (take (length b - 1) (y ++ rest)) a
      reduce-divides = record {
        logs = subst (LogRow m) (sym front) (row-is-row lent p small-p);
        small = g.small-a;
        room = let k = g.below in omega (arith, length-take-le (length b - 1) (y ++ rest) reduce-row);
      }

      module _ {z : List ℕ} (d : z ≡ divided m (held m (take (length b - 1) (y ++ rest))) a) where
        z-is : z ≡ divided m p a
        z-is = d ∙ ap (λ l. divided m l a) (ap (held m) front ∙ held-row lent p small-p)

        fits : length p ≤ length a
        fits = let k = g.below in omega (arith, long-p)

        long-z : length z ≡ length a
        long-z = ap length z-is ∙ length-divided lent p a fits

        pub reduce-behind : length b - 1 ≤ length z
        reduce-behind = omega (arith, long-z, long-p, fits)

        low : take (length b - 1) z ≡ rem (G m) p a
        low = ap (take (length b - 1)) z-is ∙ divided-front m p a long-p

        high : drop (length b - 1) z ≡ take (length a - length p) (quo (G m) p a)
        high = ap (drop (length b - 1)) z-is ∙ divided-behind m p a long-p

        small-quo : Below (2 ^ m) (quo (G m) p a)
        unfolding N
        small-quo = quo-below N p a small-p g.small-a

        small-high : Below (2 ^ m) (drop (length b - 1) z)
        small-high = subst (Below (2 ^ m)) (sym high) (take_below (2 ^ m) (length a - length p) (quo (G m) p a) small-quo)

        -- what scaling the quotient asks
        pub reduce-scales : Scalable m c (take (length z - (length b - 1)) (drop (length b - 1) z))
        reduce-scales = record {
          nonzero = some-c;
          element = element;
          small = subst (Below (2 ^ m)) (sym (part-rest (length b - 1) z)) small-high;
        }

        module _ {q : List ℕ} (scaled : q ≡ map ((G m).mul c) (take (length z - (length b - 1)) (drop (length b - 1) z))) where
          h : q ≡ map ((G m).mul c) (drop (length b - 1) z)
          h = scaled ∙ ap (map ((G m).mul c)) (part-rest (length b - 1) z)

          long-low : length (take (length b - 1) z) ≡ length b - 1
          long-low = length-take-le (length b - 1) z reduce-behind

          small-q : Below (2 ^ m) q
          unfolding N
          small-q = subst (Below (2 ^ m)) (sym h) (scale-below N c (drop (length b - 1) z) element small-high)

          small_low : Below (2 ^ m) (take (length b - 1) z)
          unfolding N
          small_low = subst (Below (2 ^ m)) (sym low) (rem_below N p a small-p g.small-a)

          -- the multiple of the whole quotient
          whole : coef (G m) q ≡ coef (G m) (map ((G m).mul c) (quo (G m) p a))
          unfolding N
          whole =
              ap (coef (G m)) (h ∙ ap (map ((G m).mul c)) high)
              ∙ scale_same m N c (take (length a - length p) (quo (G m) p a)) (quo (G m) p a) element
              (quo-cut N p a (length a - length p) small-p g.small-a (λ j l. get_or-eq_default a 0 (omega (arith, fits))))

          product_is : coef (G m) (mul (G m) (monic (G m) p) (quo (G m) p a)) ≡ coef (G m) (mul (G m) q b)
          unfolding N
          product_is =
              ap (λ l. coef (G m) (mul (G m) l (quo (G m) p a))) monic-is ∙ across N c element b (quo (G m) p a) g.small_b small-quo
              ∙ mul-same N (map ((G m).mul c) (quo (G m) p a)) b q b (scale-below N c (quo (G m) p a) element small-quo) g.small_b small-q g.small_b (sym whole) refl

          reduced : Reduced m b a (take (length b - 1) z ++ q)
          unfolding N
          reduced = record {
            small = append-below (2 ^ m) (take (length b - 1) z) q small_low small-q;
            exact = division N p a small-p g.small-a
                ∙ add_same N (mul (G m) (monic (G m) p) (quo (G m) p a)) (rem (G m) p a) (mul (G m) q b) (take (length b - 1) z)
                (mul-below N (monic (G m) p) (quo (G m) p a) (monic-below N p small-p) small-quo) (rem_below N p a small-p g.small-a) (mul-below N q b small-q g.small_b) small_low
                product_is (ap (coef (G m)) (sym low))
                ∙ ap₂ (λ u v. coef (G m) (add (G m) (mul (G m) u b) v)) (sym (drop_at (take (length b - 1) z) q (length b - 1) long-low)) (sym (take_at (take (length b - 1) z) q (length b - 1) long-low));
          }

          pub reduce-is : Reduced m b a (take (length b - 1) z ++ (q ++ drop (length z - (length b - 1)) (drop (length b - 1) z)))
          reduce-is = subst (λ l. Reduced m b a (take (length b - 1) z ++ l)) (sym (part_none (length b - 1) z q)) reduced

-- ---- x and y

-- c, with zeros above it
one_at : (n c i : ℕ) → 1 ≤ i → get_or {A = ℕ} (set (replicate (suc n) 0) 0 c) i 0 ≡ 0
one_at n c zero h = absurd (not-suc-le-zero h)
one_at n c (suc i) h = zeros-at n i

-- nothing times a polynomial
none_of : (m : ℕ) (p : List ℕ) (k : ℕ) → coef (G m) (mul (G m) p []) k ≡ 0
unfolding mul add
none_of m [] k = refl
none_of m (c ∷ p) zero = refl
none_of m (c ∷ p) (suc k) = none_of m p k

-- a list of one element
single : (b : List ℕ) → 1 ≤ length b → length b - 1 ≡ 0 → b ≡ get_or b 0 0 ∷ []
single [] h z = absurd (not-suc-le-zero h)
single (x ∷ []) h z = refl
single (x ∷ y ∷ b) h z = absurd (let f : ⊥ = omega arith in f)

module _ {m : ℕ} {ls ts a b x y : List ℕ} (lent : Lent m ls ts) (g : Unitable m a b x y) where
  numbers : OnNumbers (G m) (2 ^ m)
  numbers = numbers_of lent

  pub unite-live : (x₁ : List ℕ) → length x₁ ≡ length x → length b - 1 ≤ length x₁
  unite-live x₁ lx = let few = g.reducible.few in omega (arith, g.room-x)

  -- where b is a constant, what its inverse asks
  pub unite-inverts : length b - 1 ≡ 0 → (0 < get_or b 0 0) × (get_or b 0 0 < 2 ^ m)
  unite-inverts z = subst (λ i. (0 < get_or b i 0) × (get_or b i 0 < 2 ^ m)) z (reduce-inverts lent g.reducible)

  module _ (z : length b - 1 ≡ 0) {c : ℕ} (e : c ≡ inverse (field_at m) (get_or b 0 0)) where
    c-is : c ≡ inverse (field_at m) (get_or b (length b - 1) 0)
    c-is = e ∙ ap (λ i. inverse (field_at m) (get_or b i 0)) (sym z)

    small-c : c < 2 ^ m
    unfolding numbers
    small-c = subst (λ i. i < 2 ^ m) (sym e) (numbers.inv-below (get_or b 0 0) (unite-inverts z).1)

    product-one : coef (G m) (mul (G m) (c ∷ []) (get_or b 0 0 ∷ [])) ≡ coef (G m) (1 ∷ [])
    unfolding numbers mul add
    product-one = ap (λ i. coef (G m) (i ∷ [])) (add-zero numbers ((G m).mul c (get_or b 0 0)) (numbers.mul-below c (get_or b 0 0) small-c (unite-inverts z).1)
        ∙ ap (λ i. (G m).mul c (get_or b i 0)) (sym z) ∙ unit-of lent g.reducible c-is)

    pub unite-slot : {y₁ : List ℕ} → y₁ ≡ replicate (length y) 0 → 0 < length y₁
    unite-slot e = omega (arith, ap length e, length-replicate {A = ℕ} (length y) 0, g.room-y)

    -- x is 0, and y the inverse of b
    pub unite-constant : {x₁ y₁ : List ℕ} → x₁ ≡ replicate (length x) 0 → y₁ ≡ replicate (length y) 0 → United m a b x₁ (set y₁ 0 c)
    unfolding numbers mul add
    unite-constant {x₁} {y₁} ex ey =
        let last : List ℕ = set (replicate (suc limit) 0) 0 c in
        let y-is : set y₁ 0 c ≡ last = ap (λ l. set l 0 c) (ey ∙ ap (λ i. replicate i 0) g.room-y) in
        let small-last : Below (2 ^ m) last = (small-c, replicate-below (2 ^ m) limit 0 numbers.zero-below) in
        let small-x : Below (2 ^ m) x₁ = subst (Below (2 ^ m)) (sym ex) (replicate-below (2 ^ m) (length x) 0 numbers.zero-below) in
        let zeros : coef (G m) x₁ ≡ coef (G m) [] = fun_ext λ k. ap (λ l. get_or l k 0) ex ∙ zeros-at (length x) k in
        let small_b = g.reducible.small_b in
        let small-a = g.reducible.small-a in
        let single-b : b ≡ get_or b 0 0 ∷ [] = single b g.reducible.some z in
        let lone : Below (2 ^ m) (c ∷ []) = (small-c, tt) in
        record {
          small-x = small-x;
          small-y = subst (Below (2 ^ m)) (sym y-is) small-last;
          one = ap (λ l. coef (G m) (add (G m) (mul (G m) x₁ a) (mul (G m) l b))) y-is
              ∙ add_same numbers (mul (G m) x₁ a) (mul (G m) last b) [] (mul (G m) (c ∷ []) b) (mul-below numbers x₁ a small-x small-a) (mul-below numbers last b small-last small_b)
              tt (mul-below numbers (c ∷ []) b lone small_b) (mul-same numbers x₁ a [] a small-x small-a tt small-a zeros refl)
              (mul-same numbers last b (c ∷ []) b small-last small_b lone small_b (top-coef numbers (c ∷ []) limit) refl)
              ∙ ap (λ l. coef (G m) (mul (G m) (c ∷ []) l)) single-b ∙ product-one;
          short-x = λ i l. ap (λ f. f i) zeros;
          short-y = λ i l k. ap (λ u. coef (G m) u i) y-is ∙ one_at limit c i l;
        }

  -- where it is not: a division
  module _ (nz : length b - 1 ≢ 0) {a₁ : List ℕ} (d : Reduced m b a a₁) (la : length a₁ ≡ length a) where
    above : 1 ≤ length b - 1
    above = positive (length b - 1) nz

    pub unite-inside : length b - 1 ≤ length a₁
    unite-inside = omega (arith, la, g.reducible.below)

    -- the remainder and the quotient
    r : List ℕ
    r = take (length b - 1) a₁

    q : List ℕ
    q = drop (length b - 1) a₁

    small_r : Below (2 ^ m) r
    unfolding r
    small_r = take_below (2 ^ m) (length b - 1) a₁ d.small

    small-quotient : Below (2 ^ m) q
    unfolding q
    small-quotient = drop-below (2 ^ m) (length b - 1) a₁ d.small

    exact : coef (G m) a ≡ coef (G m) (add (G m) (mul (G m) q b) r)
    unfolding q r
    exact = d.exact

    s : List ℕ
    s = add (G m) g.coprime.second (mul (G m) q g.coprime.first)

    small-s : Below (2 ^ m) s
    unfolding s numbers
    small-s = add-below numbers g.coprime.second (mul (G m) q g.coprime.first) g.coprime.small-second (mul-below numbers q g.coprime.first small-quotient g.coprime.small-first)

    -- some combination of b and the remainder is 1
    combined : coef (G m) (add (G m) (mul (G m) s b) (mul (G m) g.coprime.first r)) ≡ coef (G m) (1 ∷ [])
    unfolding s numbers
    combined =
        sym (combine-on numbers g.coprime.first g.coprime.second a b q r g.coprime.small-first g.coprime.small-second g.reducible.small-a g.reducible.small_b small-quotient small_r exact)
        ∙ g.coprime.one

    module _ {j : ℕ} (t : TopIs (take (length b - 1) a₁) j) where
      pub unite-within : j ≤ length b - 1
      unite-within = omega (arith, t.within, length-take (length b - 1) a₁)

      pub unite-fits : j ≤ length a₁
      unite-fits = let w = unite-within in let i = unite-inside in omega arith

      part : List ℕ
      part = take j a₁

      small-part : Below (2 ^ m) part
      unfolding part
      small-part = take_below (2 ^ m) j a₁ d.small

      long-part : length part ≡ j
      unfolding part
      long-part = length-take-le j a₁ unite-fits

      part_same : coef (G m) part ≡ coef (G m) r
      unfolding part r
      part_same = ap (coef (G m)) (sym (take-take j (length b - 1) a₁ unite-within)) ∙ cut-same m j (take (length b - 1) a₁) t.above

      -- the remainder is not 0: a multiple of b would be 1
      some_left : 0 < j
      unfolding numbers
      some_left = positive j λ z.
          let f : List ℕ = g.coprime.first in
          let hf = g.coprime.small-first in
          let hb = g.reducible.small_b in
          let none : coef (G m) r ≡ coef (G m) [] = sym part_same ∙ fun_ext λ k. get_or-eq_default part 0 (omega (arith, long-part)) in
          let product : coef (G m) (mul (G m) f r) ≡ coef (G m) [] = mul-same numbers f r f [] hf small_r hf tt refl none ∙ fun_ext λ k. none_of m f k in
          no-unit numbers s b small-s hb (length b - 1) above g.reducible.lead
          (sym (add_same numbers (mul (G m) s b) (mul (G m) f r) (mul (G m) s b) [] (mul-below numbers s b small-s hb) (mul-below numbers f r hf small_r) (mul-below numbers s b small-s hb) tt refl product
          ∙ plus-zeros m (mul (G m) s b) 0) ∙ combined)

      -- what the call asks, and that it ends
      pub unite-on : Unitable m b (take j a₁) y x
      unfolding part numbers
      unite-on =
          let p = some_left in
          let w = unite-within in
          let few = g.reducible.few in
          let f : List ℕ = g.coprime.first in
          record {
            reducible = record {
              small-a = g.reducible.small_b;
              small_b = small-part;
              some = omega (arith, long-part);
              few = omega (arith, long-part);
              below = omega (arith, long-part);
              lead = λ z. t.nonzero p (get_or-take (length b - 1) a₁ (j - 1) 0 (omega arith) ∙ sym (get_or-take j a₁ (j - 1) 0 (omega arith)) ∙ ap (λ i. get_or (take j a₁) (i - 1) 0) (sym long-part) ∙ z);
            };
            short = few;
            coprime = record {
              first = s;
              second = f;
              small-first = small-s;
              small-second = g.coprime.small-first;
              one = add_same numbers (mul (G m) s b) (mul (G m) f (take j a₁)) (mul (G m) s b) (mul (G m) f r) (mul-below numbers s b small-s g.reducible.small_b)
                  (mul-below numbers f (take j a₁) g.coprime.small-first small-part) (mul-below numbers s b small-s g.reducible.small_b) (mul-below numbers f r g.coprime.small-first small_r)
                  refl (mul-same numbers f (take j a₁) f r g.coprime.small-first small-part g.coprime.small-first small_r refl part_same) ∙ combined;
            };
            room-x = g.room-y;
            room-y = g.room-x;
          }

      pub unite-less : length (take j a₁) < length b
      unfolding part
      unite-less = let w = unite-within in let i = above in omega (arith, long-part)

      -- the quotient is kept
      module _ {x₁ y₁ : List ℕ} (e : United m b (take j a₁) y₁ x₁) (lx : length x₁ ≡ length x) (ly : length y₁ ≡ length y) (used : List ℕ) (lu : length used ≡ length (take j a₁)) where
        long-used : length used ≡ j
        unfolding part
        long-used = lu ∙ long-part

        pub unite-long : length (used ++ drop j a₁) ≡ length a₁
        unite-long = let f = unite-fits in let l = long-used in omega (arith, length-append used (drop j a₁), length-drop j a₁)

        kept : take (length (used ++ drop j a₁) - (length b - 1)) (drop (length b - 1) (used ++ drop j a₁)) ≡ q
        unfolding q
        kept =
            let w = unite-within in
            let l = long-used in
            let before : length b - 1 ≡ length used + (length b - 1 - j) = omega arith in
            let after : j + (length b - 1 - j) ≡ length b - 1 = omega arith in
            part-rest (length b - 1) (used ++ drop j a₁) ∙ ap (λ i. drop i (used ++ drop j a₁)) before ∙ drop-append-add used (drop j a₁) (length b - 1 - j)
            ∙ drop-drop (length b - 1 - j) j a₁ ∙ ap (λ i. drop i a₁) after

        long-q : length q ≡ length a - (length b - 1)
        unfolding q
        long-q = omega (arith, length-drop (length b - 1) a₁, la)

        -- x is short
        short : (i : ℕ) → length b - 1 ≤ i → coef (G m) x₁ i ≡ 0
        short i l = let p = above in e.short-y i (omega arith) (omega arith)

        live : List ℕ
        live = take (length b - 1) x₁

        long-live : length live ≡ length b - 1
        unfolding live
        long-live = length-take-le (length b - 1) x₁ (unite-live x₁ lx)

        small-live : Below (2 ^ m) live
        unfolding live
        small-live = take_below (2 ^ m) (length b - 1) x₁ e.small-y

        live_same : coef (G m) live ≡ coef (G m) x₁
        unfolding live
        live_same = cut-same m (length b - 1) x₁ short

        -- what the product asks
        pub unite-adds : Productive m (take (length (used ++ drop j a₁) - (length b - 1)) (drop (length b - 1) (used ++ drop j a₁))) (take (length b - 1) x₁) y₁
        unfolding live
        unite-adds =
            let few = g.reducible.few in
            record {
              first = subst (Below (2 ^ m)) (sym kept) small-quotient;
              second = small-live;
              few = omega (arith, long-live);
              room = subst (λ l. length l + length (take (length b - 1) x₁) ≤ length y₁) (sym kept) (omega (arith, long-q, long-live, ly, g.room-y, g.short, g.reducible.below));
            }

        module _ {y₂ : List ℕ}
            (sum : y₂ ≡ add (G m) y₁ (mul (G m) (take (length (used ++ drop j a₁) - (length b - 1)) (drop (length b - 1) (used ++ drop j a₁))) (take (length b - 1) x₁))) where
          sum_is : y₂ ≡ add (G m) y₁ (mul (G m) q live)
          unfolding live
          sum_is = sum ∙ ap (λ l. add (G m) y₁ (mul (G m) l (take (length b - 1) x₁))) kept

          small-sum : Below (2 ^ m) y₂
          unfolding numbers
          small-sum = subst (Below (2 ^ m)) (sym sum_is) (add-below numbers y₁ (mul (G m) q live) e.small-x (mul-below numbers q live small-quotient small-live))

          z : List ℕ
          z = add (G m) y₁ (mul (G m) q x₁)

          small-z : Below (2 ^ m) z
          unfolding z numbers
          small-z = add-below numbers y₁ (mul (G m) q x₁) e.small-x (mul-below numbers q x₁ small-quotient e.small-y)

          sum_same : coef (G m) y₂ ≡ coef (G m) z
          unfolding z numbers
          sum_same =
              ap (coef (G m)) sum_is
              ∙ add_same numbers y₁ (mul (G m) q live) y₁ (mul (G m) q x₁) e.small-x (mul-below numbers q live small-quotient small-live) e.small-x (mul-below numbers q x₁ small-quotient e.small-y)
              refl (mul-same numbers q live q x₁ small-quotient small-live small-quotient e.small-y refl live_same)

          -- the degrees of the product
          ends : (i : ℕ) → length a ≤ suc i → coef (G m) (mul (G m) q live) i ≡ 0
          unfolding numbers mul
          ends i l =
              let p = above in
              let w = g.reducible.below in
              elim (dec_le 1 (length q)) [
                | yes k ↦ product-ends numbers q live small-quotient small-live (length q - 1) (length b - 1 - 1) (λ j u. get_or-eq_default q 0 (omega arith))
                    (λ j u. get_or-eq_default live 0 (omega (arith, long-live))) i (omega (arith, long-q))
                | no k ↦ nothing q i (omega arith)
              ]
            where
              nothing : (u : List ℕ) (i : ℕ) → length u ≡ 0 → coef (G m) (mul (G m) u live) i ≡ 0
              nothing [] i h = refl
              nothing (c ∷ u) i h = absurd (let f : ⊥ = omega arith in f)

          pub unite-is : United m a b x₁ y₂
          unfolding numbers z part
          unite-is =
              let ha = g.reducible.small-a in
              let hb = g.reducible.small_b in
              let hx = e.small-y in
              record {
                small-x = hx;
                small-y = small-sum;
                one = add_same numbers (mul (G m) x₁ a) (mul (G m) y₂ b) (mul (G m) x₁ a) (mul (G m) z b) (mul-below numbers x₁ a hx ha) (mul-below numbers y₂ b small-sum hb)
                    (mul-below numbers x₁ a hx ha) (mul-below numbers z b small-z hb) refl (mul-same numbers y₂ b z b small-sum hb small-z hb sum_same refl)
                    ∙ combine-back numbers x₁ y₁ a b q r hx e.small-x ha hb small-quotient small_r exact
                    ∙ add_same numbers (mul (G m) y₁ b) (mul (G m) x₁ r) (mul (G m) y₁ b) (mul (G m) x₁ (take j a₁)) (mul-below numbers y₁ b e.small-x hb) (mul-below numbers x₁ r hx small_r)
                    (mul-below numbers y₁ b e.small-x hb) (mul-below numbers x₁ (take j a₁) hx small-part) refl (mul-same numbers x₁ r x₁ (take j a₁) hx small_r hx small-part refl (sym part_same))
                    ∙ e.one;
                short-x = λ i l. short i (omega arith);
                short-y = λ i l k.
                    let w = unite-within in
                    let v = g.reducible.below in
                    ap (λ u. coef (G m) u i) sum_is ∙ sum-at m y₁ (mul (G m) q live) i
                    ∙ ap₂ (λ u v. (G m).add u v) (e.short-x i (omega (arith, long-part))) (ends i k) ∙ numbers.zero-add 0 numbers.zero-below;
              }
