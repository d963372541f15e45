-- From a polynomial to the part of it that splits.
--   field-run-top    z^(2^m) + z may be reduced by p as the power alone, with zeros on top, and z added
--   residue-asks, residue-is
--                    `residue`: what the power asks, and what is left
--   SplitOff         k coefficients are those of the part that splits
--   split-asks, split-some, long-out, split-degree, room-long, split-residual, split-powered, front_fits, front_long,
--   split-turnable, split-is
--                    what each routine asks, and what is left
-- Assumes nothing.
use mathlib.Core.Path.{◌≡◌, refl, sym, ap, ap₂, ◌∙◌, subst}
use mathlib.Core.Bool.{Bool, true, false}
use mathlib.Core.Option.{none, some}
use mathlib.Core.List.{List, [], ◌∷◌, ◌++◌, map-append}
use Prim.Native.Nat.{ℕ, zero, suc, ◌-◌, ◌*◌, ◌^◌, ◌≤◌, ◌<◌, max}
use native.Mathlib.Nat.{le_trans, mul-le-mul_left}
use native.Mathlib.Decide.{dec_lt}
use native.Mathlib.Omega.{arith}
use lib.Bits.{bit_xor, xor_zero_r}
use lib.ListN.{length, get_or, take, drop, set, replicate, length-append, length-replicate}
use lib.Seq.{length-take-le, length_front, take-append-le, take_all, take_at}
use Rattle.algebra.specs.Field.{Ops, Laws, OnNumbers}
use Rattle.algebra.specs.Polynomial.{Below, coef, add, linear, frobenius, field_poly}
use Rattle.algebra.specs.Routines.{monic, rem, gcd, norm, frobenius_mod, monic_roots}
use Rattle.algebra.proofs.Series.{plus}
use Rattle.algebra.proofs.Coefficients.{coef-top}
use Rattle.algebra.proofs.Congruence.{Cong, cong-refl, cong-add}
use Rattle.algebra.proofs.Division.{rem-cong}
use Rattle.algebra.proofs.Euclid.{gcd-reduced}
use Rattle.algebra.proofs.Modular.{frobenius-mod}
use Rattle.algebra.proofs.Lengths.{length-rem, length-frobenius_mod, length-monic_roots}
use Rattle.algebra.proofs.Crossing.{Elem, elems, laws, low, by-elements, low-add, low-gcd, low-rem, low-field_poly, low-frobenius_mod}
use Rattle.algebra.proofs.StaysBelow.{append-below, replicate-below, take_below, below-from, add-below, rem_below, frobenius_mod-below, norm-below}
use Rattle.algebra.proofs.NumberMonic.{norm-none}
use Rattle.algebra.proofs.RootList.{split-part}
use Rattle.algebra.specs.Polynomial.{Divides}
use Rattle.slices.specs.Lists.{copied}
use Rattle.slices.specs.Bounded.{all_zero}
use Rattle.slices.proofs.Lists.{copied-front, length-copied, take-zeros, drop-zeros}
use Rattle.slices.proofs.Bounded.{all_below-exactly}
use Rattle.field.specs.Field.{field_at, G, roots_at}
use Rattle.field.proofs.Instance.{squared-size}
use Rattle.poly.specs.Lent.{Lent}
use Rattle.poly.specs.Monic.{monic_low, MadeMonic}
use Rattle.poly_powers.specs.Powers.{power_rows}
use Rattle.poly_powers.specs.Asking.{Startable}
use Rattle.poly_gcd.specs.Euclid.{GcdIs}
use Rattle.poly_gcd.specs.Asking.{Turnable}
use Rattle.poly.proofs.Logs.{field_of, numbers_of}
use Rattle.input.specs.Limit.{limit}
use Rattle.table_begin.specs.SplitPart.{Residual, Residue, Powered, Beginnable}

-- ---- z^(2^m) + z modulo p

module _ {K : Type 0} {F : Ops K} (L : Laws F) where
  -- over an abstract field
  run-top : (m n : ℕ) (p : List K)
      → gcd F p (field_poly F m) ≡ gcd F p (add F (frobenius_mod F p m (rem F p (linear F F.zero)) ++ replicate n F.zero) (linear F F.zero))
  run-top m n p =
      let z : List K = linear F F.zero in
      let w : List K = frobenius_mod F p m (rem F p z) in
      let power : Cong F (monic F p) (frobenius F m z) w = frobenius-mod L p m z (rem F p z) (rem-cong L p z) in
      let top : Cong F (monic F p) (frobenius F m z) (w ++ replicate n F.zero) =
      subst (λ f. Divides F (monic F p) (plus F (coef F (frobenius F m z)) f)) (sym (coef-top L w n)) power in
      gcd-reduced L p (field_poly F m) (add F (w ++ replicate n F.zero) z)
      (cong-add L (frobenius F m z) (w ++ replicate n F.zero) z z top (cong-refl L (monic F p) z))

module _ {H : Ops ℕ} {q : ℕ} (N : OnNumbers H q) where
  -- zeros are zeros
  low_zeros : (n : ℕ) → low N (replicate n (elems N).zero) ≡ replicate n H.zero
  low_zeros zero = refl
  low_zeros (suc n) = ap (λ l. H.zero ∷ l) (low_zeros n)

  -- and of numbers
  field-run-top : (m n : ℕ) (p : List ℕ) → Below q p
      → gcd H p (field_poly H m) ≡ gcd H p (add H (frobenius_mod H p m (rem H p (linear H H.zero)) ++ replicate n H.zero) (linear H H.zero))
  field-run-top m n =
      by-elements N (λ p. gcd H p (field_poly H m) ≡ gcd H p (add H (frobenius_mod H p m (rem H p (linear H H.zero)) ++ replicate n H.zero) (linear H H.zero))) λ u.
      let z : List (Elem q) = linear (elems N) (elems N).zero in
      let w : List (Elem q) = frobenius_mod (elems N) u m (rem (elems N) u z) in
      ap (gcd H (low N u)) (sym (low-field_poly N m))
      ∙ sym (low-gcd N u (field_poly (elems N) m)) ∙ ap (low N) (run-top (laws N) m n u) ∙ low-gcd N u (add (elems N) (w ++ replicate n (elems N).zero) z)
      ∙ ap (gcd H (low N u)) (low-add N (w ++ replicate n (elems N).zero) z
      ∙ ap (λ l. add H l (linear H H.zero)) (map-append (λ x. x.0) w (replicate n (elems N).zero)
      ∙ ap₂ (λ a b. a ++ b) (low-frobenius_mod N u m (rem (elems N) u z) ∙ ap (frobenius_mod H (low N u) m) (low-rem N u z)) (low_zeros n)))

-- ---- `residue`

-- nothing added
add_none : (m : ℕ) (f : List ℕ) → add (G m) f [] ≡ f
unfolding add
add_none m [] = refl
add_none m (x ∷ f) = refl

-- z is added at place 1
add-z : (m : ℕ) (f : List ℕ) → 2 ≤ length f → set f 1 (bit_xor (get_or f 1 0) 1) ≡ add (G m) f (linear (G m) 0)
unfolding add
add-z m [] h = absurd (omega arith)
add-z m (x ∷ []) h = absurd (omega arith)
add-z m (x ∷ y ∷ f) h = ap₂ (λ a b. a ∷ bit_xor y 1 ∷ b) (sym (xor_zero_r x)) (sym (add_none m f))

module _ {m : ℕ} {ls ts p b rows : List ℕ} (lent : Lent m ls ts) (g : Residual m p b rows) where
  -- what the power asks
  pub residue-asks : Startable m p (take (length p) b)
  residue-asks = record { small = g.small; few = g.few; room = length-take-le (length p) b g.room }

  -- what is left
  pub residue-is : {w : List ℕ} → w ≡ frobenius_mod (G m) p m (rem (G m) p (0 ∷ 1 ∷ []))
      → Residue m p (set (w ++ drop (length p) b) 1 (bit_xor (get_or (w ++ drop (length p) b) 1 0) 1))
  residue-is {w} d =
      let N : OnNumbers (G m) (2 ^ m) = numbers_of lent in
      let z : List ℕ = 0 ∷ 1 ∷ [] in
      let n : ℕ = length b - length p in
      let zs : Below (2 ^ m) z = (N.zero-below, (N.one_below, tt)) in
      let rest : drop (length p) b ≡ replicate n 0 = ap (drop (length p)) g.zeros ∙ drop-zeros (length p) (length b) in
      let long : length w ≡ length p = ap length d ∙ length-frobenius_mod (G m) p m (rem (G m) p z) (length-rem (G m) p z) in
      let f : List ℕ = w ++ replicate n 0 in
      let two : 2 ≤ length f = omega (arith, length-append w (replicate n 0), length-replicate {A = ℕ} n 0, g.two, g.room) in
      let is : set (w ++ drop (length p) b) 1 (bit_xor (get_or (w ++ drop (length p) b) 1 0) 1) ≡ add (G m) f z =
      ap (λ u. set (w ++ u) 1 (bit_xor (get_or (w ++ u) 1 0) 1)) rest ∙ add-z m f two in
      let below : Below (2 ^ m) w = subst (Below (2 ^ m)) (sym d) (frobenius_mod-below N p m (rem (G m) p z) g.small (rem_below N p z g.small zs)) in
      record {
        small = subst (Below (2 ^ m)) (sym is) (add-below N f z (append-below (2 ^ m) w (replicate n 0) below (replicate-below (2 ^ m) n 0 N.zero-below)) zs);
        same = ap (gcd (G m) p) (is ∙ ap (λ u. add (G m) (u ++ replicate n 0) z) d) ∙ sym (field-run-top N m n p g.small);
      }

-- ---- the part that splits

-- k coefficients at the front of out are the product of (z + r) over all distinct roots, fewer than those given
pub record SplitOff (m : ℕ) (cs : List ℕ) (k : ℕ) (out : List ℕ) : Type 0 where
  pub count : k ≡ length (roots_at m cs)
  pub fewer : k < length cs
  pub low : take k out ≡ monic_roots (G m) (roots_at m cs)

module _ {m : ℕ} {cs ls ts table rows : List ℕ} (lent : Lent m ls ts) (g : Beginnable m cs table rows) {out : List ℕ} (e : out ≡ copied cs (replicate (suc limit) 0)) where
  -- there is room for all coefficients
  room : length cs ≤ suc limit
  room = omega (arith, g.polynomial.few)

  -- the coefficients stand in front
  copy-front : take (length cs) out ≡ cs
  copy-front = ap (take (length cs)) e ∙ copied-front cs (replicate (suc limit) 0) refl

  -- and the slice is as long as it was
  copy-long : length out ≡ suc limit
  copy-long = ap length e ∙ length-copied cs (replicate (suc limit) 0) room

  -- what making monic asks
  pub split-asks : Below (2 ^ m) (take (length cs) out)
  split-asks = subst (Below (2 ^ m)) (sym copy-front) g.polynomial.small

  module _ {j : ℕ} {y : List ℕ} (d : MadeMonic m (take (length cs) out) j y) where
    -- they were made monic
    normed : norm (G m) (length cs) cs ≡ monic_low j y
    normed = subst (λ l. norm (G m) (length l) l ≡ monic_low j y) copy-front d.made

    -- with no more coefficients than there were
    within : j ≤ length cs
    within = subst (λ l. j ≤ length l) copy-front d.within

    -- in as many places
    long-y : length y ≡ length cs
    long-y = d.long ∙ ap length copy-front

    -- a polynomial that is not 0 has a leading coefficient
    pub split-some : 0 < j
    unfolding monic_low
    split-some = go (dec_lt 0 j)
      where
        go : Dec (0 < j) → 0 < j
        go (yes p) = p
        go (no n) =
            let none_left : norm (G m) (length cs) cs ≡ none = normed ∙ ap (λ i. monic_low i y) (let z : j ≡ 0 = omega arith in z) in
            let zeros : all_zero cs ≡ true =
            (all_below-exactly 1 cs).1 (below-from 1 cs (λ i l. let z : get_or cs i 0 ≡ 0 = norm-none (numbers_of lent) cs g.polynomial.small none_left i in omega arith)) in
            absurd (let b : ◌≡◌ {A = Bool} true false = sym zeros ∙ g.polynomial.nonzero in let o : ◌≡◌ {A = ℕ} 0 1 = cc in let x : ⊥ = omega arith in x)

    -- the low coefficients of the monic polynomial, where they stand
    p : List ℕ
    p = take (j - 1) (y ++ drop (length cs) out)

    -- which the theory makes of all coefficients
    lead : norm (G m) (length cs) cs ≡ some p
    unfolding monic_low p
    lead =
        let back : suc (j - 1) ≡ j = omega (arith, split-some) in
        normed ∙ ap (λ i. monic_low i y) (sym back) ∙ ap some (sym (take-append-le (j - 1) y (drop (length cs) out) (omega (arith, within, long-y))))

    -- the slice is as long as it was
    pub long-out : length (y ++ drop (length cs) out) ≡ suc limit
    long-out = length_front out y (length cs) (long-y ∙ sym (ap length copy-front)) ∙ copy-long

    -- its degree is one less than its coefficients
    long-p : length p ≡ j - 1
    unfolding p
    long-p = length-take-le (j - 1) (y ++ drop (length cs) out) (omega (arith, long-out, within, room))

    -- and they are elements
    small-p : Below (2 ^ m) p
    small-p = norm-below (numbers_of lent) (length cs) cs g.polynomial.small lead

    -- its degree is at most the limit
    pub split-degree : j - 1 ≤ limit
    split-degree = omega (arith, within, split-some, g.polynomial.few)

    -- what the power asks, in room for n coefficients
    module _ {n : ℕ} (is : n ≡ max (j - 1) 2) where
      -- for those of z too
      two : 2 ≤ n
      two = omega (arith, is)

      -- within the limit
      most : n ≤ limit
      most = omega (arith, is, split-degree)

      -- it is there
      pub room-long : length (take n (replicate {A = ℕ} limit 0)) ≡ n
      room-long = length-take-le n (replicate limit 0) most

      pub split-residual : Residual m (take (j - 1) (y ++ drop (length cs) out)) (take n (replicate limit 0)) rows
      unfolding p
      split-residual =
          let few : length p ≤ limit = omega (arith, long-p, split-degree) in
          record {
            small = small-p;
            few = few;
            room = omega (arith, is, long-p, room-long);
            two = omega (arith, two, room-long);
            zeros = take-zeros n limit most ∙ ap (λ k. replicate k 0) (sym room-long);
            room-rows = le_trans (mul-le-mul_left m few) g.room-rows;
          }

      module _ {b : List ℕ} (r : Residue m (take (j - 1) (y ++ drop (length cs) out)) b) (z : List ℕ) (h : length b ≡ length (take n (replicate {A = ℕ} limit 0))) where
        -- what is left stands in front
        front : take n (b ++ z) ≡ b
        front = take_at b z n (h ∙ room-long)

        pub front_fits : n ≤ length (b ++ z)
        front_fits = omega (arith, h, room-long, length-append b z)

        pub front_long : length (take n (b ++ z)) ≡ n
        front_long = ap length front ∙ h ∙ room-long

        -- what the greatest common divisor asks
        pub split-turnable : Turnable m (y ++ drop (length cs) out) (j - 1) (take n (b ++ z)) n
        unfolding p
        split-turnable = record {
          few = split-degree;
          room-a = omega (arith, long-out, within, split-some, room);
          room-b = omega (arith, front_long);
          within = omega (arith, is, front_long);
          small-a = small-p;
          small_b = take_below (2 ^ m) n (take n (b ++ z)) (subst (Below (2 ^ m)) (sym front) r.small);
        }

        -- and leaves
        pub split-is : {k : ℕ} {a : List ℕ} → length a ≡ length (y ++ drop (length cs) out) → GcdIs m (take (j - 1) (y ++ drop (length cs) out)) (take n (take n (b ++ z))) k a → SplitOff m cs k a
        unfolding p
        split-is {k} {a} l i =
            let N : OnNumbers (G m) (2 ^ m) = numbers_of lent in
            let roots : List ℕ = roots_at m cs in
            let fewer : k < length cs = omega (arith, i.count, long-p, within, split-some) in
            let low : take k a ≡ monic_roots (G m) roots =
            i.low ∙ ap (gcd (G m) p) (take_all n (take n (b ++ z)) (omega (arith, front_long)) ∙ front) ∙ r.same
            ∙ split-part N m refl N.one_below (squared-size (field_at m) (field_of lent)) cs g.polynomial.small lead in
            record {
              count = sym (length-take-le k a (omega (arith, room, long-out))) ∙ ap length low ∙ length-monic_roots (G m) roots;
              fewer = fewer;
              low = low;
            }

    -- the powers are those modulo the polynomial made monic
    pub split-powered : (rows₁ : List ℕ) → take (m * length (take (j - 1) (y ++ drop (length cs) out))) rows₁
        ≡ power_rows m (take (j - 1) (y ++ drop (length cs) out)) m (rem (G m) (take (j - 1) (y ++ drop (length cs) out)) (0 ∷ 1 ∷ [])) → Powered m cs (j - 1) (take (m * (j - 1)) rows₁)
    unfolding p
    split-powered rows₁ e = record { low = p; made = lead; long = long-p; rows_are = ap (λ k. take (m * k) rows₁) (sym long-p) ∙ e }
