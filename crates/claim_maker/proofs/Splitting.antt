-- The cofactor: f divided by the product of (z + r)^e over its roots.
--   Summing, sum-from, sum_fits, sum-on, sum-end   the sum of the multiplicities: the loop, its start, a turn, the end
--   row-spread .. row_is        `roots_row`: what each routine asks, and what is left
--   quotient-divides, quotient_is   `quotient_into`
--   split-row .. split-is       `split_off`
-- Assumes nothing.
use mathlib.Core.Path.{◌≡◌, refl, sym, ap, ap₂, subst, ◌∙◌}
use mathlib.Core.Logic.{◌≢◌}
use mathlib.Core.List.{List, ◌++◌}
use Prim.Native.Nat.{ℕ, suc, ◌+◌, ◌-◌, ◌^◌, ◌≤◌, ◌<◌}
use native.Mathlib.Numerals.{add-one}
use native.Mathlib.Omega.{arith}
use lib.ListN.{get_or-eq_default, drop, drop_of_length-le, get_or, length, length-append, length-map, length-replicate, length-take, replicate, take}
use lib.Seq.{drop-cons, length-take-le, take_at, take-take}
use Rattle.algebra.specs.Field.{OnNumbers}
use Rattle.algebra.specs.Polynomial.{Below, DividesBelow, add, coef, eval, from_roots, mul}
use Rattle.algebra.specs.Routines.{monic, monic_roots, quo}
use Rattle.algebra.specs.Multiplicity.{multiplicity, spread, total}
use Rattle.algebra.proofs.Crossing.{by-elements, elems, laws, low, low-from_roots, low-monic, low-monic_roots}
use Rattle.algebra.proofs.Factors.{monic-roots}
use Rattle.algebra.proofs.Lengths.{length-from_roots, length-quo}
use Rattle.algebra.proofs.NumberDivision.{division-unique}
use Rattle.algebra.proofs.NumberEvaluation.{eval-same}
use Rattle.algebra.proofs.NumberMultiplicity.{factored}
use Rattle.algebra.proofs.StaysBelow.{append-below, drop-below, monic_roots-below, quo-below, replicate-below, roots_of-below, take_below}
use Rattle.field.specs.Field.{G, field_at, multiplicities_at, roots_at}
use Rattle.field.specs.Tables.{log_of}
use Rattle.slices.specs.Lists.{copied}
use Rattle.slices.proofs.Lists.{copied-front, length-copied}
use Rattle.poly.specs.Asking.{Divisible, Loggable, Multipliable}
use Rattle.poly.specs.Lent.{Lent, LogRow, held, log_row}
use Rattle.poly.specs.Division.{divided}
use Rattle.poly.proofs.Divisions.{divided-behind}
use Rattle.poly.proofs.Logs.{held-long, held-row, numbers_of, row-is-row}
use Rattle.poly.proofs.RootProducts.{product-below}
use Rattle.input.specs.Limit.{limit}
use Rattle.input.proofs.Polynomials.{nonzero-place}
use Rattle.claim_rules.specs.Claims.{spread_out}
use Rattle.claim_rules.proofs.Claimable.{spread_same, total-within}
use Rattle.claim_rules.proofs.Combinations.{quo-cut}
use Rattle.claim_rules.proofs.OneClaim.{spread-below}
use Rattle.claim_rules.proofs.Products.{spread-length}
use Rattle.claim_rules.proofs.TheRemainder.{mul-same}
use Rattle.claims.specs.Checking.{Spreadable, product_room}
use Rattle.claim_maker.specs.Making.{Quotable, RootsRow, Rowable, SplitOff, Splittable}
use Rattle.claim_maker.proofs.Fitting.{copied_all, padded, plus-zeros}

-- ---- the sum of the multiplicities

-- what lies ahead is added to what was
pub record Summing (es : List ℕ) (n i : ℕ) : Type 0 where
  pub few : total es ≤ limit
  pub within : i ≤ length es
  pub ahead : n + total (drop i es) ≡ total es

pub sum-from : {es : List ℕ} → total es ≤ limit → Summing es 0 0
sum-from h = record { few = h; within = omega arith; ahead = omega arith }

module _ {es : List ℕ} {n i : ℕ} (s : Summing es n i) where
  next : i < length es → total (drop i es) ≡ get_or es i 0 + total (drop (i + 1) es)
  unfolding total
  next l = ap total (drop-cons es i 0 l) ∙ ap (λ k. get_or es i 0 + total (drop k es)) (sym (add-one i))

  pub sum_fits : i < length es → n + get_or es i 0 ≤ limit
  sum_fits l = let f = s.few in omega (arith, s.ahead, next l)

  pub sum-on : i < length es → Summing es (n + get_or es i 0) (i + 1)
  sum-on l = record { few = s.few; within = omega arith; ahead = omega (arith, s.ahead, next l) }

  pub sum-end : length es ≤ i → n ≡ total es
  unfolding total
  sum-end l = let z : total (drop i es) ≡ 0 = ap total (drop_of_length-le es {i = i} l) in omega (arith, s.ahead)

-- ---- the product as a row

module _ {m : ℕ} {ls ts roots es row : List ℕ} (lent : Lent m ls ts) (g : Rowable m roots es row) {n : ℕ} (c : n ≡ total es) where
  pub row_fits : n ≤ limit
  row_fits = let f = g.few in omega arith

  -- what the list asks
  pub row-spread : Spreadable roots es (take n (replicate limit 0))
  row-spread = record {
    paired = g.paired;
    room = sym (length-take-le n (replicate limit 0) (let f = row_fits in omega (arith, length-replicate {A = ℕ} limit 0)) ∙ c);
  }

  module _ {y : List ℕ} (e : y ≡ spread_out roots es) (rest : List ℕ) where
    long-y : length y ≡ n
    long-y = ap length e ∙ spread-length roots es g.paired ∙ sym c

    pub row_list : n ≤ length (y ++ rest)
    row_list = omega (arith, length-append y rest, long-y)

    front-y : take n (y ++ rest) ≡ spread_out roots es
    front-y = take_at y rest n long-y ∙ e

    pub row-multiplies : Multipliable m (take n (y ++ rest)) (replicate (suc limit) 0)
    row-multiplies = record {
      small = subst (Below (2 ^ m)) (sym front-y) (spread-below (2 ^ m) roots es g.elements);
      room = let f = row_fits in omega (arith, length-take-le n (y ++ rest) row_list, length-replicate {A = ℕ} (suc limit) 0);
    }

    module _ {p : List ℕ} (d : p ≡ copied (from_roots (G m) (take n (y ++ rest))) (replicate (suc limit) 0)) where
      -- the product has one coefficient more than the list
      long-p : length (from_roots (G m) (spread_out roots es)) ≡ suc n
      long-p = length-from_roots (G m) (spread_out roots es) ∙ ap suc (spread-length roots es g.paired ∙ sym c)

      whole : take (suc n) p ≡ from_roots (G m) (spread_out roots es)
      whole =
          ap (take (suc n)) (d ∙ ap (λ l. copied (from_roots (G m) l) (replicate (suc limit) 0)) front-y)
          ∙ copied-front (from_roots (G m) (spread_out roots es)) (replicate (suc limit) 0) long-p

      pub row_room : n ≤ length p
      row_room = let f = row_fits in omega (arith, ap length whole, long-p, length-take (suc n) p)

      low-p : take n p ≡ monic_roots (G m) (spread_out roots es)
      unfolding monic_roots
      low-p =
          sym (take-take n (suc n) p (omega arith)) ∙ ap (take n) whole
          ∙ ap (λ k. take k (from_roots (G m) (spread_out roots es))) (c ∙ sym (spread-length roots es g.paired))

      -- what the logs ask
      pub row-logs : Loggable m (take n p) (take n row)
      row-logs = record {
        small = subst (Below (2 ^ m)) (sym low-p) (monic_roots-below (numbers_of lent) (spread_out roots es) (spread-below (2 ^ m) roots es g.elements));
        room = length-take-le n p row_room ∙ sym (length-take-le n row (let f = row_fits in let r = g.room in omega arith));
      }

      pub row_is : {z : List ℕ} → z ≡ log_row m (take n p) → (more : List ℕ) → RootsRow m roots es n (z ++ more)
      row_is {z} h more =
          let k : length z ≡ n = ap length h ∙ length-map (take n p) (log_of (field_at m)) ∙ length-take-le n p row_room in
          record { count = c; within = omega (arith, k, length-append z more); front = take_at z more n k ∙ h ∙ ap (log_row m) low-p }

-- ---- a quotient

module _ {m : ℕ} {ls ts row work q : List ℕ} (lent : Lent m ls ts) (g : Quotable m row work q) where
  -- what the division asks
  pub quotient-divides : Divisible m row work
  quotient-divides = record { logs = g.logs; small = g.small; room = let r = g.room in omega arith }

  pub quotient_is : {work' q' : List ℕ} {e : ℕ} → e ≡ length row + length q → work' ≡ divided m (held m row) work
      → q' ≡ copied (take (e - length row) (drop (length row) work')) q → q' ≡ take (length q) (quo (G m) (held m row) work)
  quotient_is {work'} {q'} {e} x d c =
      let r = g.room in
      let n : length (held m row) ≡ length row = held-long m row in
      let k : e - length row ≡ length q = omega arith in
      let part : take (e - length row) (drop (length row) work') ≡ take (length q) (quo (G m) (held m row) work) =
      ap₂ (λ i l. take i (drop (length row) l)) k d ∙ ap (take (length q)) (divided-behind m (held m row) work n)
      ∙ take-take (length q) (length work - length (held m row)) (quo (G m) (held m row) work) (omega arith) in
      let long : length (take (length q) (quo (G m) (held m row) work)) ≡ length q = length-take-le (length q) (quo (G m) (held m row) work) (omega (arith, length-quo (G m) (held m row) work)) in
      c ∙ ap (λ l. copied l q) part ∙ copied_all (take (length q) (quo (G m) (held m row) work)) q long

-- ---- the cofactor

-- the product over a list, with its leading 1
roots-led : (m : ℕ) (N : OnNumbers (G m) (2 ^ m)) (s : List ℕ) → Below (2 ^ m) s → monic (G m) (monic_roots (G m) s) ≡ from_roots (G m) s
roots-led m N = by-elements N (λ s. monic (G m) (monic_roots (G m) s) ≡ from_roots (G m) s) λ u.
    ap (monic (G m)) (sym (low-monic_roots N u)) ∙ sym (low-monic N (monic_roots (elems N) u)) ∙ ap (low N) (monic-roots (laws N) u) ∙ low-from_roots N u

module _ {m : ℕ} {ls ts f roots es h : List ℕ} (lent : Lent m ls ts) (g : Splittable m f roots es h) where
  N : OnNumbers (G m) (2 ^ m)
  N = numbers_of lent

  -- the roots, each as often as its multiplicity
  s : List ℕ
  s = spread_out (roots_at m f) (multiplicities_at m f)

  small-s : Below (2 ^ m) s
  unfolding s
  small-s = spread-below (2 ^ m) (roots_at m f) (multiplicities_at m f) (roots_of-below (G m) (2 ^ m) f)

  -- what the row asks
  pub split-row : Rowable m roots es (replicate limit 0)
  split-row = record {
    elements = subst (Below (2 ^ m)) (sym g.all) (roots_of-below (G m) (2 ^ m) f);
    paired = ap length g.all ∙ sym (ap length g.beside ∙ length-map (roots_at m f) (multiplicity (G m) f));
    few = subst (λ l. total l ≤ limit) (sym g.beside) (total-within m f g.polynomial);
    room = omega (arith, length-replicate {A = ℕ} limit 0);
  }

  module _ {n : ℕ} {row : List ℕ} (r : RootsRow m roots es n row) {work : List ℕ} (c : work ≡ copied f (replicate product_room 0)) where
    held-is : held m (take n row) ≡ monic_roots (G m) s
    unfolding s N
    held-is =
        ap (held m) (r.front ∙ ap₂ (λ x y. log_row m (monic_roots (G m) (spread_out x y))) g.all g.beside)
        ∙ held-row lent (monic_roots (G m) s) (monic_roots-below N s small-s)

    long-n : length (take n row) ≡ n
    long-n = length-take-le n row r.within

    few-n : n ≤ limit
    few-n = omega (arith, r.count, split-row.few)

    pub split-size : length (take n row) ≡ n
    split-size = long-n

    long-work : length work ≡ product_room
    long-work = ap length c ∙ length-copied f (replicate product_room 0) (omega (arith, g.polynomial.few, length-replicate {A = ℕ} product_room 0)) ∙ length-replicate {A = ℕ} product_room 0

    small-work : Below (2 ^ m) work
    unfolding copied
    small-work = subst (Below (2 ^ m)) (sym c) (append-below (2 ^ m) f (drop (length f) (replicate product_room 0)) g.polynomial.small
        (drop-below (2 ^ m) (length f) (replicate product_room 0) (replicate-below (2 ^ m) product_room 0 N.zero-below)))

    -- what the quotient asks
    pub split-quotes : Quotable m (take n row) work h
    unfolding N s
    split-quotes = record {
      logs = subst (LogRow m) (sym r.front) (row-is-row lent (monic_roots (G m) (spread_out roots es))
          (monic_roots-below N (spread_out roots es) (spread-below (2 ^ m) roots es split-row.elements)));
      small = small-work;
      room = omega (arith, long-n, few-n, g.room, long-work);
    }

    module _ {h' : List ℕ} (e : h' ≡ take (length h) (quo (G m) (held m (take n row)) work)) where
      -- the low coefficients of the product, and the quotient by it
      x : List ℕ
      x = monic_roots (G m) s

      small-x : Below (2 ^ m) x
      unfolding x N
      small-x = monic_roots-below N s small-s

      h-is : h' ≡ take (suc limit) (quo (G m) x work)
      unfolding x
      h-is = e ∙ ap₂ (λ i l. take i (quo (G m) l work)) g.room held-is

      small-h : Below (2 ^ m) h'
      unfolding N x
      small-h = subst (Below (2 ^ m)) (sym h-is) (take_below (2 ^ m) (suc limit) (quo (G m) x work) (quo-below N x work small-x small-work))

      -- the factor that is there
      place : (j : ℕ) × (get_or f j 0 ≢ 0)
      place = nonzero-place g.polynomial

      spread-is : spread (multiplicity (G m) f) (roots_at m f) ≡ s
      unfolding s
      spread-is = sym (spread_same (multiplicity (G m) f) (roots_at m f))

      there : (d : DividesBelow (G m) (2 ^ m) (from_roots (G m) s) f) × ((y : ℕ) → y < 2 ^ m → eval (G m) d.quotient y ≢ 0)
      unfolding N
      there =
          subst (λ l. (d : DividesBelow (G m) (2 ^ m) (from_roots (G m) l) f) × ((y : ℕ) → y < 2 ^ m → eval (G m) d.quotient y ≢ 0)) spread-is
          (factored N f g.polynomial.small place.0 place.1)

      -- it is the quotient
      same : coef (G m) h' ≡ coef (G m) there.0.quotient
      unfolding N x
      same =
          let d = there.0 in
          let zeros : List ℕ = replicate (length x) 0 in
          let product : coef (G m) work ≡ coef (G m) (add (G m) (mul (G m) (monic (G m) x) d.quotient) zeros) =
          padded m N product_room f c ∙ sym d.exact ∙ ap (λ l. coef (G m) (mul (G m) l d.quotient)) (sym (roots-led m N s small-s))
          ∙ sym (plus-zeros m (mul (G m) (monic (G m) x) d.quotient) (length x)) in
          let u = division-unique N x work d.quotient zeros small-x small-work d.small (replicate-below (2 ^ m) (length x) 0 N.zero-below) (length-replicate {A = ℕ} (length x) 0) product in
          let ends : (j : ℕ) → length x + suc limit ≤ j → coef (G m) work j ≡ 0 = λ j l.
          ap (λ p. p j) (padded m N product_room f c) ∙ get_or-eq_default f 0 (omega (arith, g.polynomial.few)) in
          ap (coef (G m)) h-is ∙ quo-cut N x work (suc limit) small-x small-work ends ∙ sym u.0

      pub split-is : SplitOff m f h'
      unfolding N s
      split-is =
          let d = there.0 in
          record {
            small = small-h;
            product = mul-same N (from_roots (G m) s) h' (from_roots (G m) s) d.quotient (product-below m lent.degree s small-s) small-h (product-below m lent.degree s small-s) d.small refl same ∙ d.exact;
            bare = λ y l z. there.1 y l (sym (eval-same N h' d.quotient small-h d.small same y l) ∙ z);
          }
