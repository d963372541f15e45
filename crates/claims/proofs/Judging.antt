-- From the parts of the check to its answer.
--   weigh-no, weigh-says           `weigh`: the first equation fails, or the second decides
--   DegreesFit, degrees-fit        an acceptable claim has a cofactor that is not 0, and degrees that add up
--   judge-zero, judge-high, judge-tally   `judge`: where they do not, it is not acceptable
--   judge-spread .. judge-says     what each routine asks, and what the equations say
-- Assumes nothing.
use mathlib.Core.Path.{◌≡◌, refl, sym, ap, subst, ◌∙◌}
use mathlib.Core.Bool.{Bool, true, false}
use mathlib.Core.Logic.{◌≢◌}
use mathlib.Core.List.{List, [], ◌∷◌, ◌++◌}
use Prim.Native.Nat.{ℕ, ◌+◌, ◌-◌, ◌^◌, ◌≤◌, ◌<◌}
use native.Mathlib.Decide.{dec_le}
use native.Mathlib.Omega.{arith}
use lib.ListN.{length, length-append, length-replicate, replicate, take}
use lib.Seq.{get_or-take, length-take-le, take_at}
use Rattle.algebra.specs.Multiplicity.{total}
use Rattle.algebra.specs.Trial.{All}
use Rattle.algebra.specs.Polynomial.{Below, coef, from_roots, mul}
use Rattle.algebra.proofs.StaysBelow.{take_below}
use Rattle.field.specs.Field.{G}
use Rattle.poly.specs.Monic.{TopIs}
use Rattle.input.specs.Limit.{limit}
use Rattle.input.proofs.Fields.{known-field}
use Rattle.input.proofs.Polynomials.{nonzero-place}
use Rattle.claim_rules.specs.Claims.{Acceptable, Claim, SameClaim, claim_of, combined, spread_out}
use Rattle.claim_rules.specs.Admitting.{ClaimIn, Sent}
use Rattle.claim_rules.proofs.Complete.{given-in}
use Rattle.claim_rules.proofs.Degrees.{Degrees, degrees-add}
use Rattle.claim_rules.proofs.Products.{spread-below, spread-length}
use Rattle.claim_rules.proofs.ZerosIgnored.{acceptable-same, same_back}
use Rattle.claims.specs.Checking.{Decides, Spreadable, Weighable, Weighs, tallies}
use Rattle.claims.proofs.Adding.{cut-same}
use Rattle.claims.proofs.Tallying.{Tallied, tallies-all, tallies-yes}
use Rattle.claims.proofs.Weighing.{differ}

-- ---- `weigh`

-- the first equation fails
pub weigh-no : {m : ℕ} {f list : List ℕ} {c : Claim} {a : Bool} → Decides a (coef (G m) (mul (G m) (from_roots (G m) list) c.cofactor) ≡ coef (G m) f) → a ≡ false
    → Decides false (Weighs m f list c)
weigh-no {m} {f} {list} {c} {a} d t = record { yes = λ y. absurd (differ (sym y)); no = λ y w. d.no t w.product }

-- the second decides
pub weigh-says : {m : ℕ} {f list : List ℕ} {c : Claim} {a b : Bool} → Decides a (coef (G m) (mul (G m) (from_roots (G m) list) c.cofactor) ≡ coef (G m) f) → a ≡ true
    → Decides b (coef (G m) (combined m c) ≡ coef (G m) (1 ∷ [])) → Decides b (Weighs m f list c)
weigh-says {m} {f} {list} {c} {a} d t e = record {
  yes = λ y. record { product = d.yes t; coprime = e.yes y };
  no = λ y w. e.no y w.coprime;
}

-- ---- `judge`

-- the parts' degrees
record DegreesFit (m n d : ℕ) (es : List ℕ) : Type 0 where
  pub some : 0 < d
  pub sum : total es + d ≡ n

module _ {m : ℕ} {f roots es h u v : List ℕ} (g : ClaimIn m f (claim_of roots es h u v)) {n d : ℕ} (a : TopIs f n) (b : TopIs h d) where
  abbrev claim : Claim
  claim = claim_of roots es h u v

  -- f has a leading coefficient
  positive : 0 < n
  positive =
      let j = nonzero-place (given-in g) in
      elim (dec_le n j.0) [ yes l ↦ absurd (j.1 (a.above j.0 l)) | no l ↦ omega arith ]

  degrees-fit : Acceptable m f claim → DegreesFit m n d es
  degrees-fit k =
      let t : Degrees (G m) (spread_out roots es) h (n - 1) = degrees-add (known-field m g.field).numbers (spread_out roots es) f h (n - 1)
      (spread-below (2 ^ m) roots es g.elements) g.given.small g.cofactor.small k.product (a.nonzero positive) (λ i l. a.above i (omega arith)) in
      let low : t.degree < d = elim (dec_le d t.degree) [ yes l ↦ absurd (t.leading (b.above t.degree l)) | no l ↦ omega arith ] in
      let high : d - 1 ≤ t.degree = elim (dec_le (d - 1) t.degree) [ yes l ↦ l | no l ↦ absurd (b.nonzero (omega arith) (t.above (d - 1) (omega arith))) ] in
      record { some = omega arith; sum = omega (arith, t.sum, spread-length roots es k.paired, positive) }

  -- h is 0
  pub judge-zero : d ≡ 0 → Decides false (Acceptable m f claim)
  judge-zero z = record { yes = λ y. absurd (differ (sym y)); no = λ y k. let s = (degrees-fit k).some in omega arith }

  -- h has a higher degree than f
  pub judge-high : n < d → Decides false (Acceptable m f claim)
  judge-high l = record { yes = λ y. absurd (differ (sym y)); no = λ y k. let s = (degrees-fit k).sum in omega arith }

  -- the roots and the numbers beside them are not as they must be
  pub judge-tally : {t : Bool} → t ≡ tallies 0 (n - d) roots es → t ≡ false → Decides false (Acceptable m f claim)
  judge-tally {t} e z = record {
    yes = λ y. absurd (differ (sym y));
    no = λ y k.
        let s = (degrees-fit k).sum in
        let all : tallies 0 (n - d) roots es ≡ true = tallies-all 0 (n - d) roots es (record {
          paired = k.paired;
          from = any roots;
          ascending = k.ascending;
          least = k.least;
          sum = omega arith;
        }) in
        differ (sym all ∙ sym e ∙ z);
  }
    where
      any : (l : List ℕ) → All (λ r. 0 ≤ r) l
      any [] = tt
      any (x ∷ l) = (omega arith, any l)

  module _ (some : d ≢ 0) {t : Bool} (e : t ≡ tallies 0 (n - d) roots es) (z : t ≡ true) where
    told : Tallied 0 (n - d) roots es
    told = tallies-yes 0 (n - d) roots es (sym e ∙ z)

    -- there is room
    pub judge-few : n - d ≤ limit
    judge-few = omega (arith, a.within, g.given.few)

    pub judge-spread : Spreadable roots es (take (n - d) (replicate limit 0))
    judge-spread = record {
      paired = told.paired;
      room = told.sum ∙ sym (length-take-le (n - d) (replicate limit 0) (omega (arith, judge-few, length-replicate {A = ℕ} limit 0)));
    }

    module _ {y : List ℕ} (i : y ≡ spread_out roots es) (rest : List ℕ) where
      -- the list stands at the front
      front_long : length y ≡ n - d
      front_long = ap length i ∙ spread-length roots es told.paired ∙ told.sum

      front : take (n - d) (y ++ rest) ≡ spread_out roots es
      front = take_at y rest (n - d) front_long ∙ i

      pub judge-fits : n - d ≤ length (y ++ rest)
      judge-fits = omega (arith, length-append y rest, front_long)

      -- h without the zeros at its top
      short-sent : Sent m (take d h)
      short-sent = record {
        some = omega (arith, length-take-le d h b.within);
        few = omega (arith, length-take-le d h b.within, b.within, g.cofactor.few);
        small = take_below (2 ^ m) d h g.cofactor.small;
      }

      short-in : ClaimIn m f (claim_of roots es (take d h) u v)
      short-in = record {
        field = g.field;
        given = g.given;
        cofactor = short-sent;
        first = g.first;
        second = g.second;
        elements = g.elements;
        nonzero = g.nonzero;
      }

      short-same : SameClaim m f f (claim_of roots es (take d h) u v) claim
      short-same = record { roots = refl; times = refl; given = refl; cofactor = cut-same m d h b.above; first = refl; second = refl }

      -- what the equations ask
      pub judge-weigh : Weighable m f (take (n - d) (y ++ rest)) (claim_of roots es (take d h) u v)
      judge-weigh = record {
        field = g.field;
        elements = subst (Below (2 ^ m)) (sym front) (spread-below (2 ^ m) roots es g.elements);
        few = omega (arith, length-take-le (n - d) (y ++ rest) judge-fits, judge-few);
        given = g.given;
        cofactor = short-sent;
        first = g.first;
        second = g.second;
        place = d - 1;
        nonzero = λ x. b.nonzero (omega arith) (sym (get_or-take d h (d - 1) 0 (omega arith)) ∙ x);
      }

      -- and say
      pub judge-says : {c : Bool} → Decides c (Weighs m f (take (n - d) (y ++ rest)) (claim_of roots es (take d h) u v)) → Decides c (Acceptable m f claim)
      judge-says {c} w =
          let same : (l : List ℕ) → l ≡ spread_out roots es → coef (G m) (mul (G m) (from_roots (G m) l) (take d h)) ≡ coef (G m) (mul (G m) (from_roots (G m) (spread_out roots es)) (take d h)) =
          λ l j. ap (λ x. coef (G m) (mul (G m) (from_roots (G m) x) (take d h))) j in
          record {
            yes = λ y.
                let k = w.yes y in
                acceptable-same short-in
                (record { paired = told.paired; ascending = told.ascending; least = told.least; product = sym (same _ front) ∙ k.product; coprime = k.coprime }) g short-same;
            no = λ y k. let s = acceptable-same g k short-in (same_back short-same) in w.no y (record { product = same _ front ∙ s.product; coprime = s.coprime });
          }
