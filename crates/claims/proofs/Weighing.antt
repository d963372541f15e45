-- The remainder of z^(2^m) + z by h, and the two comparisons.
--   remain-fits .. remain-is    `remainder_by`: what each routine asks, and what is left
--   expand-asks .. expand-says  `expands`: the same
--   combine-asks .. combine-says   `combines`: the same
-- Assumes nothing.
use mathlib.Core.Path.{◌≡◌, refl, sym, ap, ap₂, subst, ◌∙◌}
use mathlib.Core.Bool.{Bool, true, false}
use mathlib.Core.Option.{none, some}
use mathlib.Core.List.{List, [], ◌∷◌, ◌++◌}
use Prim.Native.Nat.{ℕ, suc, ◌+◌, ◌-◌, ◌^◌, ◌≤◌, ◌<◌}
use native.Mathlib.Decide.{dec_lt}
use native.Mathlib.Omega.{arith}
use lib.ListN.{drop, length, length-append, length-replicate, length-set, replicate, set, take}
use lib.Seq.{length-take-le, take-append-le, take_at}
use Rattle.algebra.specs.Polynomial.{Below, add, coef, field_poly, from_roots, mul}
use Rattle.algebra.specs.Routines.{norm, rem}
use Rattle.algebra.proofs.Lengths.{length-rem}
use Rattle.algebra.proofs.NumberEvaluation.{top-coef}
use Rattle.algebra.proofs.NumberMonic.{norm-none}
use Rattle.algebra.proofs.StaysBelow.{norm-below}
use Rattle.field.specs.Field.{G}
use Rattle.slices.specs.Bounded.{all_zero}
use Rattle.slices.specs.Lists.{copied}
use Rattle.slices.proofs.Lists.{copied-front, drop-zeros, length-copied}
use Rattle.poly.specs.Lent.{Lent}
use Rattle.poly.specs.Monic.{MadeMonic, monic_low}
use Rattle.poly.proofs.Logs.{numbers_of}
use Rattle.poly.proofs.Sums.{add_assoc}
use Rattle.poly_powers.specs.Asking.{Startable}
use Rattle.poly.specs.Asking.{Multipliable}
use Rattle.poly.proofs.RootProducts.{product-below, product-long}
use Rattle.input.specs.Limit.{limit}
use Rattle.claim_rules.specs.Claims.{claim_of, combined, field_remainder}
use Rattle.claim_rules.proofs.Remainders.{remainder-below, remainder_of}
use Rattle.claims.specs.Checking.{Combinable, Decides, Expandable, Productive, Residual, Residue, product_room}
use Rattle.claims.proofs.Adding.{sum-zero, zero-sum}

-- true is not false
pub differ : true ≡ false → ⊥
differ e = let z : ◌≡◌ {A = ℕ} 0 1 = cc in omega arith

-- ---- the remainder

module _ {m : ℕ} {ls ts h low w out : List ℕ} (lent : Lent m ls ts) (g : Residual m h low w) (c : out ≡ copied h low) where
  -- the copy
  copy-front : take (length h) out ≡ h
  copy-front = ap (take (length h)) c ∙ copied-front h low refl

  copy-long : length out ≡ length low
  copy-long = ap length c ∙ length-copied h low (omega (arith, g.cofactor.few, g.room-low))

  pub remain-fits : length h ≤ length out
  remain-fits = omega (arith, copy-long, g.cofactor.few, g.room-low)

  -- what making it monic asks
  pub remain-asks : Below (2 ^ m) (take (length h) out)
  remain-asks = subst (Below (2 ^ m)) (sym copy-front) g.cofactor.small

  module _ {j : ℕ} {y : List ℕ} (d : MadeMonic m (take (length h) out) j y) where
    normed : norm (G m) (length h) h ≡ monic_low j y
    normed = subst (λ l. norm (G m) (length l) l ≡ monic_low j y) copy-front d.made

    within : j ≤ length h
    within = subst (λ l. j ≤ length l) copy-front d.within

    long-y : length y ≡ length h
    long-y = d.long ∙ ap length copy-front

    -- it is not 0
    pub remain-some : 0 < j
    unfolding monic_low
    remain-some = go (dec_lt 0 j)
      where
        go : Dec (0 < j) → 0 < j
        go (yes p) = p
        go (no n) =
            let z : j ≡ 0 = omega arith in
            let left : norm (G m) (length h) h ≡ none = normed ∙ ap (λ i. monic_low i y) z in
            absurd (g.nonzero (norm-none (numbers_of lent) h g.cofactor.small left g.place))

    -- the low coefficients of its monic multiple
    p : List ℕ
    p = take (j - 1) (y ++ drop (length h) out)

    pub remain-made : norm (G m) (length h) h ≡ some (take (j - 1) (y ++ drop (length h) out))
    unfolding monic_low
    remain-made =
        let back : suc (j - 1) ≡ j = omega (arith, remain-some) in
        normed ∙ ap (λ i. monic_low i y) (sym back) ∙ ap some (sym (take-append-le (j - 1) y (drop (length h) out) (omega (arith, within, long-y))))

    pub remain-room : j - 1 ≤ length (y ++ drop (length h) out)
    remain-room = omega (arith, length-append y (drop (length h) out), long-y, within)

    pub remain-degree : j - 1 ≤ limit
    remain-degree = omega (arith, within, remain-some, g.cofactor.few)

    long-p : length p ≡ j - 1
    unfolding p
    long-p = length-take-le (j - 1) (y ++ drop (length h) out) remain-room

    -- what the squarings ask
    pub remain-start : Startable m (take (j - 1) (y ++ drop (length h) out)) (take (j - 1) w)
    unfolding p
    remain-start = record {
      small = norm-below (numbers_of lent) (length h) h g.cofactor.small remain-made;
      few = omega (arith, long-p, remain-degree);
      room = length-take-le (j - 1) w (omega (arith, remain-degree, g.room)) ∙ sym long-p;
    }

    -- what is left
    pub remain-is : {b : List ℕ} → b ≡ rem (G m) (take (j - 1) (y ++ drop (length h) out)) (field_poly (G m) m) → (rest : List ℕ)
        → Residue m h (j - 1) (y ++ drop (length h) out) (b ++ rest)
    unfolding p
    remain-is {b} e rest =
        let n : length b ≡ j - 1 = ap length e ∙ length-rem (G m) p (field_poly (G m) m) ∙ long-p in
        record {
          count = remain-degree;
          inside = remain-room;
          within = omega (arith, n, length-append b rest);
          made = remain-made;
          front = take_at b rest (j - 1) n ∙ e ∙ sym (remainder_of m h remain-made);
        }

-- ---- the product

module _ {m : ℕ} {ls ts list h f : List ℕ} (lent : Lent m ls ts) (g : Expandable m list h f) where
  -- what the product over the list asks
  pub expand-asks : Multipliable m list (replicate (suc limit) 0)
  expand-asks = record { small = g.elements; room = let n = g.few in omega (arith, length-replicate {A = ℕ} (suc limit) 0) }

  module _ {p : List ℕ} (e : p ≡ copied (from_roots (G m) list) (replicate (suc limit) 0)) where
    -- it stands at the front
    roots-long : length (from_roots (G m) list) ≡ length list + 1
    roots-long = product-long m list ∙ omega arith

    pub expand-fits : length list + 1 ≤ length p
    expand-fits =
        omega (
          arith,
          ap length e,
          length-copied (from_roots (G m) list) (replicate (suc limit) 0) (let n = g.few in omega (arith, roots-long, length-replicate {A = ℕ} (suc limit) 0)),
          length-replicate {A = ℕ} (suc limit) 0,
          g.few,
        )

    pub expand-size : length (take (length list + 1) p) ≡ length list + 1
    expand-size = length-take-le (length list + 1) p expand-fits

    expand-front : take (length list + 1) p ≡ from_roots (G m) list
    expand-front = ap (take (length list + 1)) e ∙ copied-front (from_roots (G m) list) (replicate (suc limit) 0) roots-long

    module _ {sum : List ℕ} (c : sum ≡ copied f (replicate product_room 0)) where
      -- what is copied, and as much of what was there
      sum-long : length sum ≡ product_room
      sum-long = ap length c ∙ length-copied f (replicate product_room 0) (omega (arith, g.given.few, length-replicate {A = ℕ} product_room 0)) ∙ length-replicate {A = ℕ} product_room 0

      sum_is : coef (G m) sum ≡ coef (G m) f
      unfolding copied
      sum_is = ap (coef (G m)) (c ∙ ap (λ u. f ++ u) (drop-zeros (length f) product_room)) ∙ top-coef (numbers_of lent) f (product_room - length f)

      -- what the sum asks
      pub expand-product : Productive m (take (length list + 1) p) h sum
      expand-product = record {
        first = subst (Below (2 ^ m)) (sym expand-front) (product-below m lent.degree list g.elements);
        second = g.cofactor.small;
        few = g.cofactor.few;
        room = omega (arith, expand-size, g.few, g.cofactor.few, sum-long);
      }

      -- what it says
      pub expand-says : {s : List ℕ} {b : Bool} → s ≡ add (G m) sum (mul (G m) (take (length list + 1) p) h) → b ≡ all_zero s
          → Decides b (coef (G m) (mul (G m) (from_roots (G m) list) h) ≡ coef (G m) f)
      expand-says {s} {b} d t =
          let whole : b ≡ all_zero (add (G m) sum (mul (G m) (from_roots (G m) list) h)) = t ∙ ap all_zero (d ∙ ap (λ u. add (G m) sum (mul (G m) u h)) expand-front) in
          record {
            yes = λ y. sum-zero m sum (mul (G m) (from_roots (G m) list) h) (sym whole ∙ y) ∙ sum_is;
            no = λ y e. differ (sym (whole ∙ zero-sum m sum (mul (G m) (from_roots (G m) list) h) (e ∙ sym sum_is)) ∙ y);
          }

-- ---- u h + v w

module _ {m : ℕ} {ls ts h u v : List ℕ} (lent : Lent m ls ts) (g : Combinable m h u v) where
  -- what the remainder asks
  pub combine-asks : Residual m h (replicate (suc limit) 0) (replicate limit 0)
  combine-asks = record {
    cofactor = g.cofactor;
    place = g.place;
    nonzero = g.nonzero;
    room-low = omega (arith, length-replicate {A = ℕ} (suc limit) 0);
    room = omega (arith, length-replicate {A = ℕ} limit 0);
  }

  module _ {d : ℕ} {low w : List ℕ} (r : Residue m h d low w) where
    -- 1, and zeros above it
    one : List ℕ
    one = set (replicate product_room 0) 0 1

    one-long : length one ≡ product_room
    unfolding one
    one-long = length-set {A = ℕ} (replicate product_room 0) 0 1 ∙ length-replicate {A = ℕ} product_room 0

    one-is : coef (G m) (set (replicate product_room 0) 0 1) ≡ coef (G m) (1 ∷ [])
    one-is = top-coef (numbers_of lent) (1 ∷ []) (product_room - 1)

    -- what the first product asks
    pub combine-first : Productive m u h (set (replicate product_room 0) 0 1)
    unfolding one
    combine-first = record {
      first = g.first.small;
      second = g.cofactor.small;
      few = g.cofactor.few;
      room = omega (arith, one-long, g.first.few, g.cofactor.few);
    }

    pub combine-size : length (take d w) ≡ d
    combine-size = length-take-le d w r.within

    module _ {s : List ℕ} (e : s ≡ add (G m) (set (replicate product_room 0) 0 1) (mul (G m) u h)) where
      -- and the second
      pub combine-second : length s ≡ product_room → Productive m v (take d w) s
      combine-second l = record {
        first = g.second.small;
        second = subst (Below (2 ^ m)) (sym r.front) (remainder-below m lent.degree h g.cofactor.small);
        few = omega (arith, combine-size, r.count);
        room = omega (arith, combine-size, r.count, g.second.few);
      }

      -- what the sum says
      pub combine-says : {t : List ℕ} {b : Bool} → t ≡ add (G m) s (mul (G m) v (take d w)) → b ≡ all_zero t
          → Decides b (coef (G m) (combined m (claim_of [] [] h u v)) ≡ coef (G m) (1 ∷ []))
      combine-says {t} {b} k z =
          let a : List ℕ = set (replicate product_room 0) 0 1 in
          let c : List ℕ = combined m (claim_of [] [] h u v) in
          let sum : t ≡ add (G m) a c =
          k ∙ ap₂ (λ x y. add (G m) x (mul (G m) v y)) e r.front ∙ add_assoc m a (mul (G m) u h) (mul (G m) v (field_remainder m h)) in
          let whole : b ≡ all_zero (add (G m) a c) = z ∙ ap all_zero sum in
          record {
            yes = λ y. sum-zero m a c (sym whole ∙ y) ∙ one-is;
            no = λ y i. differ (sym (whole ∙ zero-sum m a c (i ∙ sym one-is)) ∙ y);
          }
