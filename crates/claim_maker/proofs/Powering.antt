-- The remainder of z^(2^m) + z by h, by way of the powers of z that begin left modulo f: h divides f.
--   last_row        the last of the rows that begin left
--   last-square     its square is the next power
--   reduced         what is z^(2^m) + z modulo f is so modulo h
--   find-begins .. find-is       `find_roots`: what each routine asks, and what is left
--   power-fits .. power-is       `field_power`
--   residue-fits .. residue-is   `residue_by`
-- Assumes nothing.
use mathlib.Core.Path.{◌≡◌, refl, sym, ap, ap₂, fun_ext, subst, ◌∙◌}
use mathlib.Core.Logic.{◌≢◌}
use mathlib.Core.Option.{some}
use mathlib.Core.List.{List, [], ◌∷◌, ◌++◌, append-nil, map}
use Prim.Native.Nat.{ℕ, zero, suc, ◌+◌, ◌-◌, ◌*◌, ◌^◌, ◌≤◌, ◌<◌}
use native.Mathlib.Nat.{add_comm, suc-mul as suc-times}
use native.Mathlib.Omega.{arith}
use lib.Bits.{bit_xor, xor_zero_r}
use lib.ListN.{drop, get_or, length, length-append, length-map, length-replicate, length-set, replicate, set, take}
use lib.Seq.{drop-append-add, drop_at, length-take-le, take-add, take_at}
use Rattle.algebra.specs.Field.{Laws, OnNumbers, Ops}
use Rattle.algebra.specs.Polynomial.{Below, Divides, add, coef, field_poly, frobenius, linear, mul}
use Rattle.algebra.specs.Routines.{frobenius_mod, monic, norm, rem, square}
use Rattle.algebra.proofs.Coefficients.{coef-mul, coef-scale}
use Rattle.algebra.proofs.Congruence.{Cong, cong-add, cong-refl, cong-trans}
use Rattle.algebra.proofs.Crossing.{Elem, coef-up, elems, laws, low, low-add, low-field_poly, low-frobenius_mod, low-monic, low-mul, low-rem, low-scale}
use Rattle.algebra.proofs.Divisibility.{divides-multiple, divides-scale, divides-trans, quotient-exact}
use Rattle.algebra.proofs.Division.{division-unique, rem-cong}
use Rattle.algebra.proofs.Lengths.{length-add, length-frobenius_mod, length-rem}
use Rattle.algebra.proofs.Modular.{frobenius-mod}
use Rattle.algebra.proofs.NumberEvaluation.{top-coef}
use Rattle.algebra.proofs.Series.{Series, plus, plus-back, plus_comm, scale, scale_back, times, times-comm, times-scale}
use Rattle.algebra.proofs.Signs.{signs}
use Rattle.algebra.proofs.StaysBelow.{add-below, append-below, frobenius_mod-below, norm-below, rem_below, replicate-below}
use Rattle.field.specs.Field.{G, field_at}
use Rattle.field.specs.Tables.{log_of}
use Rattle.slices.specs.Lists.{copied}
use Rattle.slices.proofs.Lists.{drop-zeros, take-zeros}
use Rattle.poly.specs.Asking.{Addable, Loggable, Reducible}
use Rattle.poly.specs.Lent.{Lent, LogRow, held, log_row}
use Rattle.poly.specs.Monic.{MadeMonic}
use Rattle.poly.proofs.Logs.{held-row, numbers_of, row-is-row}
use Rattle.poly.proofs.Sums.{add-nil}
use Rattle.poly_powers.specs.Asking.{Squarable}
use Rattle.poly_powers.specs.Powers.{power_rows}
use Rattle.input.specs.Cutoff.{house_default}
use Rattle.input.specs.Limit.{limit, widest}
use Rattle.input.proofs.Polynomials.{nonzero-place}
use Rattle.table_rules.specs.Layout.{by_factor}
use Rattle.table_rules.specs.Sizes.{slots}
use Rattle.table_rules.specs.Splitting.{slots_begun, slots_roots}
use Rattle.table_begin.specs.SplitPart.{Powered}
use Rattle.find_solve.specs.Solving.{RunOut, Running, Solvable}
use Rattle.table_finish.specs.Finishing.{Listable}
use Rattle.find_solve.proofs.Admitting.{begun-stepping}
use Rattle.find_solve.proofs.Running.{out-asks, out-roots}
use Rattle.find_solve.proofs.Tracing.{powered-fit}
use Rattle.claim_rules.proofs.Combinations.{by-six}
use Rattle.claim_rules.proofs.OneClaim.{same-list}
use Rattle.claim_rules.proofs.Remainders.{remainder_of}
use Rattle.claims.specs.Checking.{Residual, Residue}
use Rattle.claims.proofs.Adding.{add_comm as sum_comm, sum-at}
use Rattle.claims.proofs.Weighing.{remain-asks, remain-degree, remain-fits, remain-made, remain-room, remain-some}
use Rattle.claim_maker.specs.Making.{IsPower, Powerable, Residable, Rooted}
use Rattle.claim_maker.proofs.Fitting.{plus-zeros}

-- ---- the last row

suc-mul : (k n : ℕ) → suc k * n ≡ n + k * n
suc-mul k n = suc-times k n ∙ add_comm (k * n) n

-- of suc k rows
last_row : (m : ℕ) (p : List ℕ) (k : ℕ) (w : List ℕ) → length w ≡ length p → drop (k * length p) (power_rows m p (suc k) w) ≡ log_row m (frobenius_mod (G m) p k w)
unfolding power_rows frobenius_mod
last_row m p zero w e = let z : 0 * length p ≡ 0 = omega arith in ap (λ i. drop i (log_row m w ++ [])) z ∙ append-nil (log_row m w)
last_row m p (suc k) w e =
    let n : ℕ = length p in
    let next : List ℕ = rem (G m) p (square (G m) w) in
    let long : length (log_row m w) ≡ n = length-map w (log_of (field_at m)) ∙ e in
    let split : suc k * n ≡ length (log_row m w) + k * n = suc-mul k n ∙ ap (λ i. i + k * n) (sym long) in
    ap (λ i. drop i (log_row m w ++ power_rows m p (suc k) next)) split ∙ drop-append-add (log_row m w) (power_rows m p (suc k) next) (k * n)
    ∙ last_row m p k next (length-rem (G m) p (square (G m) w))

-- its square is the next power
last-square : (m : ℕ) (p : List ℕ) (k : ℕ) (w : List ℕ) → rem (G m) p (square (G m) (frobenius_mod (G m) p k w)) ≡ frobenius_mod (G m) p (suc k) w
unfolding frobenius_mod
last-square m p zero w = refl
last-square m p (suc k) w = last-square m p k (rem (G m) p (square (G m) w))

-- ---- modulo f, and so modulo h

module _ {K : Type 0} {F : Ops K} (L : Laws F) where
  open signs F use {0#, ◌⊞◌, ◌⊠◌, ◌∣◌}

  -- h is a multiple of monic x, f is one of h, and monic p one of f
  divides-through : (x p h f s : List K) (c d : K) → d ≢ 0# → coef F h ≡ scale F c (coef F (monic F x)) → coef F s ⊠ coef F h ≡ coef F f
      → coef F f ≡ scale F d (coef F (monic F p)) → monic F x ∣ coef F (monic F p)
  divides-through x p h f s c d z e g i =
      let X : Series K = coef F (monic F x) in
      subst (λ w. monic F x ∣ w)
      (ap (scale F (F.inv d)) (ap (scale F c) (times-comm L X (coef F s)) ∙ sym (times-scale L c (coef F s) X) ∙ ap (λ w. coef F s ⊠ w) (sym e) ∙ g ∙ i)
      ∙ scale_back L d (coef F (monic F p)) z)
      (divides-scale L (F.inv d) (divides-scale L c (divides-multiple L (monic F x) s)))

  -- what is as long as x and congruent to f modulo x is the remainder
  rem-only : (x f r : List K) → length r ≡ length x → Cong F (monic F x) f r → r ≡ rem F x f
  rem-only x f r n c =
      let R : Series K = coef F r in
      let Q : Series K = coef F f in
      (division-unique L x f c.quotient r n
      (sym (plus-back L R Q) ∙ plus_comm L R (plus F R Q) ∙ ap (λ w. plus F w R) (plus_comm L R Q ∙ sym (quotient-exact L c)))).1

  reduced-up : (m : ℕ) (x p b : List K) → monic F x ∣ coef F (monic F p) → coef F b ≡ coef F (add F (frobenius_mod F p m (rem F p (linear F 0#))) (linear F 0#))
      → rem F x b ≡ rem F x (field_poly F m)
  reduced-up m x p b d e =
      let z : List K = linear F 0# in
      let a : List K = frobenius_mod F p m (rem F p z) in
      let one : Cong F (monic F p) (field_poly F m) (add F a z) =
      cong-add L (frobenius F m z) a z z (frobenius-mod L p m z (rem F p z) (rem-cong L p z)) (cong-refl L (monic F p) z) in
      let two : Cong F (monic F x) (field_poly F m) b = divides-trans L (monic F p) d (subst (λ w. Divides F (monic F p) (coef F (field_poly F m) ⊞ w)) (sym e) one) in
      rem-only x (field_poly F m) (rem F x b) (length-rem F x b) (cong-trans L (field_poly F m) b (rem F x b) two (rem-cong L x b))

module _ {H : Ops ℕ} {q : ℕ} (N : OnNumbers H q) where
  abbrev K : Ops (Elem q)
  K = elems N

  abbrev L : Laws K
  L = laws N

  -- what is z^(2^m) + z modulo f is so modulo h
  pub reduced : (m : ℕ) (x p h f s b : List ℕ) (c d : ℕ) → Below q x → Below q p → Below q h → Below q f → Below q s → Below q b → c < q → d < q → d ≢ H.zero
      → coef H h ≡ coef H (map (H.mul c) (monic H x)) → coef H (mul H s h) ≡ coef H f → coef H f ≡ coef H (map (H.mul d) (monic H p))
      → coef H b ≡ coef H (add H (frobenius_mod H p m (rem H p (linear H H.zero))) (linear H H.zero)) → rem H x b ≡ rem H x (field_poly H m)
  reduced m x p h f s b c d hx hp hh hf hs hb hc hd z =
      by-six N (λ x p h f s b. coef H h ≡ coef H (map (H.mul c) (monic H x)) → coef H (mul H s h) ≡ coef H f → coef H f ≡ coef H (map (H.mul d) (monic H p))
      → coef H b ≡ coef H (add H (frobenius_mod H p m (rem H p (linear H H.zero))) (linear H H.zero)) → rem H x b ≡ rem H x (field_poly H m))
      (λ x p h f s b e g i j.
      let y : Elem q = (c, hc) in
      let t : Elem q = (d, hd) in
      let l : List (Elem q) = linear K K.zero in
      let first : coef K h ≡ scale K y (coef K (monic K x)) =
      coef-up N h (map (K.mul y) (monic K x)) (e ∙ ap (coef H) (sym (low-scale N y (monic K x) ∙ ap (map (H.mul c)) (low-monic N x)))) ∙ coef-scale L y (monic K x) in
      let second : times K (coef K s) (coef K h) ≡ coef K f = sym (coef-mul L s h) ∙ coef-up N (mul K s h) f (ap (coef H) (low-mul N s h) ∙ g) in
      let third : coef K f ≡ scale K t (coef K (monic K p)) =
      coef-up N f (map (K.mul t) (monic K p)) (i ∙ ap (coef H) (sym (low-scale N t (monic K p) ∙ ap (map (H.mul d)) (low-monic N p)))) ∙ coef-scale L t (monic K p) in
      let fourth : coef K b ≡ coef K (add K (frobenius_mod K p m (rem K p l)) l) =
      coef-up N b (add K (frobenius_mod K p m (rem K p l)) l)
      (j ∙ ap (coef H) (sym (low-add N (frobenius_mod K p m (rem K p l)) l ∙ ap (λ u. add H u (linear H H.zero)) (low-frobenius_mod N p m (rem K p l) ∙ ap (frobenius_mod H (low N p) m) (low-rem N p l))))) in
      sym (low-rem N x b) ∙ ap (low N) (reduced-up L m x p b (divides-through L x p h f s y t (λ w. z (ap (λ w. w.0) w)) first second third) fourth) ∙ low-rem N x (field_poly K m)
      ∙ ap (rem H (low N x)) (low-field_poly N m))
      x p h f s b hx hp hh hf hs hb

-- ---- finding the roots

module _ {m : ℕ} {f hs roots : List ℕ} (g : Solvable m house_default f hs roots) {n : ℕ} {table rows : List ℕ}
    (b : table ≡ slots_begun by_factor slots m house_default f) (q : Powered m f n rows) where
  -- the rows fit
  pub find-fits : m * n ≤ widest * limit
  find-fits = powered-fit g q

  pub find_runs : Running m house_default f n rows table
  find_runs = record { polynomial = g.polynomial; powers = q; stepping = begun-stepping g b }

  module _ {table' : List ℕ} (r : RunOut m house_default f table') where
    pub find-lists : Listable m hs table' roots
    find-lists = out-asks g (begun-stepping g b) r

    pub find-is : (all : List ℕ) {k : ℕ} {roots' : List ℕ} → rows ≡ take (m * n) all → m * n ≤ length all → k ≡ length (slots_roots by_factor table')
        → roots' ≡ copied (slots_roots by_factor table') roots → Rooted m f roots k all roots'
    find-is all i l x y =
        let e = out-roots (begun-stepping g b) r in
        record { count = x ∙ ap length e; slots-are = y ∙ ap (λ u. copied u roots) e; degree = n; powers = subst (Powered m f n) i q; room = l }

-- ---- the power

-- z is added at place 1
set-one : (m : ℕ) (l : List ℕ) → 1 < length l → set l 1 (bit_xor (get_or l 1 0) 1) ≡ add (G m) l (0 ∷ 1 ∷ [])
unfolding add
set-one m [] h = absurd (let z : ⊥ = omega arith in z)
set-one m (x ∷ []) h = absurd (let z : ⊥ = omega arith in z)
set-one m (x ∷ y ∷ l) h = ap₂ (λ i j. i ∷ bit_xor y 1 ∷ j) (sym (xor_zero_r x)) (sym (add-nil m l))

-- a field has a degree
some-degree : (m : ℕ) → OnNumbers (G m) (2 ^ m) → 1 ≤ m
some-degree zero N = absurd (let h : 1 < 2 ^ 0 = N.one_below in let z : ⊥ = omega arith in z)
some-degree (suc m) N = omega arith

same_some : {x y : List ℕ} → some x ≡ some y → x ≡ y
same_some e = cc

-- the room is that of a polynomial
pub power-long : {m : ℕ} {f rows b : List ℕ} → Powerable m f rows b → length b ≡ suc limit
power-long g = ap length g.zeros ∙ length-replicate {A = ℕ} (suc limit) 0

module _ {m : ℕ} {ls ts f rows b : List ℕ} (lent : Lent m ls ts) (g : Powerable m f rows b) {out : List ℕ} (c : out ≡ copied f (replicate (suc limit) 0)) where
  numbers : OnNumbers (G m) (2 ^ m)
  numbers = numbers_of lent

  -- f as the check's cofactor is
  pub power-residual : Residual m f (replicate (suc limit) 0) (replicate limit 0)
  power-residual =
      let j = nonzero-place g.polynomial in
      record {
        cofactor = record { some = g.polynomial.some; few = g.polynomial.few; small = g.polynomial.small };
        place = j.0;
        nonzero = j.1;
        room-low = omega (arith, length-replicate {A = ℕ} (suc limit) 0);
        room = omega (arith, length-replicate {A = ℕ} limit 0);
      }

  module _ {j : ℕ} {y : List ℕ} (d : MadeMonic m (take (length f) out) j y) where
    -- the low coefficients of its monic multiple
    x : List ℕ
    x = take (j - 1) (y ++ drop (length f) out)

    made : norm (G m) (length f) f ≡ some x
    unfolding x
    made = remain-made lent power-residual c d

    small-x : Below (2 ^ m) x
    unfolding x numbers
    small-x = norm-below numbers (length f) f g.polynomial.small made

    pub power-room : j - 1 ≤ length (y ++ drop (length f) out)
    power-room = remain-room lent power-residual c d

    pub power-some : 0 < j
    power-some = remain-some lent power-residual c d

    pub power-few : j - 1 ≤ limit
    power-few = remain-degree lent power-residual c d

    long-x : length x ≡ j - 1
    unfolding x
    long-x = length-take-le (j - 1) (y ++ drop (length f) out) power-room

    low-is : g.powers.low ≡ x
    low-is = same_some (sym g.powers.made ∙ made)

    degree-is : g.degree ≡ j - 1
    degree-is = sym g.powers.long ∙ ap length low-is ∙ long-x

    -- what the row asks
    pub power-logs : Loggable m (take (j - 1) (y ++ drop (length f) out)) (take (j - 1) (replicate limit 0))
    unfolding x
    power-logs = record {
      small = small-x;
      room = long-x ∙ sym (length-take-le (j - 1) (replicate limit 0) (omega (arith, power-few, length-replicate {A = ℕ} limit 0)));
    }

    pub power-degree : 1 ≤ m
    power-degree = some-degree m numbers

    -- where the last row stands
    at-is : (m - 1) * (j - 1) + (j - 1) ≡ m * g.degree
    at-is =
        let p = power-degree in
        let e : suc (m - 1) ≡ m = omega arith in
        sym (suc-mul (m - 1) (j - 1) ∙ add_comm (j - 1) ((m - 1) * (j - 1))) ∙ ap₂ ◌*◌ e (sym degree-is)

    pub power-within : (m - 1) * (j - 1) + (j - 1) ≤ length rows
    power-within = omega (arith, at-is, g.room)

    module _ {e : ℕ} (q : e ≡ (m - 1) * (j - 1) + (j - 1)) where
      z : List ℕ
      z = rem (G m) x (0 ∷ 1 ∷ [])

      small-z : Below (2 ^ m) z
      unfolding z numbers
      small-z = rem_below numbers x (0 ∷ 1 ∷ []) small-x (numbers.zero-below, (numbers.one_below, tt))

      last : take (e - (m - 1) * (j - 1)) (drop ((m - 1) * (j - 1)) rows) ≡ log_row m (frobenius_mod (G m) x (m - 1) z)
      unfolding z
      last =
          let n : ℕ = j - 1 in
          let at : ℕ = (m - 1) * n in
          let p = power-degree in
          let one : suc (m - 1) ≡ m = omega arith in
          let k : e - at ≡ n = omega arith in
          let whole : take (at + n) rows ≡ power_rows m x (suc (m - 1)) (rem (G m) x (0 ∷ 1 ∷ [])) =
          ap (λ i. take i rows) at-is ∙ g.powers.rows_are ∙ ap (λ l. power_rows m l m (rem (G m) l (0 ∷ 1 ∷ []))) low-is
          ∙ ap (λ i. power_rows m x i (rem (G m) x (0 ∷ 1 ∷ []))) (sym one) in
          ap (λ i. take i (drop at rows)) k
          ∙ sym (ap (drop at) (take-add at n rows) ∙ drop_at (take at rows) (take n (drop at rows)) at (length-take-le at rows (let w = power-within in omega arith)))
          ∙ ap (drop at) whole ∙ ap (λ i. drop ((m - 1) * i) (power_rows m x (suc (m - 1)) (rem (G m) x (0 ∷ 1 ∷ [])))) (sym long-x)
          ∙ last_row m x (m - 1) (rem (G m) x (0 ∷ 1 ∷ [])) (length-rem (G m) x (0 ∷ 1 ∷ []))

      small-last : Below (2 ^ m) (frobenius_mod (G m) x (m - 1) z)
      unfolding numbers
      small-last = frobenius_mod-below numbers x (m - 1) z small-x small-z

      long-last : length (frobenius_mod (G m) x (m - 1) z) ≡ j - 1
      unfolding z
      long-last = length-frobenius_mod (G m) x (m - 1) z (length-rem (G m) x (0 ∷ 1 ∷ [])) ∙ long-x

      -- what adding it asks
      pub power-adds : Addable m 1 (take (e - (m - 1) * (j - 1)) (drop ((m - 1) * (j - 1)) rows)) (take (j - 1) b)
      unfolding numbers
      power-adds = record {
        element = numbers.one_below;
        logs = subst (LogRow m) (sym last) (row-is-row lent (frobenius_mod (G m) x (m - 1) z) small-last);
        room = omega (arith, ap length last, length-map (frobenius_mod (G m) x (m - 1) z) (log_of (field_at m)), long-last, front_long);
      }
        where
          front_long : length (take (j - 1) b) ≡ j - 1
          front_long = length-take-le (j - 1) b (omega (arith, ap length g.zeros, length-replicate {A = ℕ} (suc limit) 0, power-few))

      module _ {a : List ℕ} (h : a ≡ add (G m) (take (j - 1) b) (map ((G m).mul 1) (held m (take (e - (m - 1) * (j - 1)) (drop ((m - 1) * (j - 1)) rows))))) where
        a-is : a ≡ frobenius_mod (G m) x (m - 1) z
        unfolding numbers
        a-is =
            let t : List ℕ = frobenius_mod (G m) x (m - 1) z in
            h ∙ ap₂ (λ u v. add (G m) u (map ((G m).mul 1) v)) (ap (take (j - 1)) g.zeros ∙ take-zeros (j - 1) (suc limit) (omega (arith, power-few)))
            (ap (held m) last ∙ held-row lent t small-last) ∙ ap (add (G m) (replicate (j - 1) 0)) (ones t small-last) ∙ add-comm-zeros t (j - 1) long-last
          where
            ones : (t : List ℕ) → Below (2 ^ m) t → map ((G m).mul 1) t ≡ t
            ones [] b = refl
            ones (i ∷ t) b = ap₂ (λ u v. u ∷ v) (numbers.one-mul i b.0) (ones t b.1)

            add-comm-zeros : (t : List ℕ) (n : ℕ) → length t ≡ n → add (G m) (replicate n 0) t ≡ t
            add-comm-zeros t n l = same-list m (add (G m) (replicate n 0) t) t (length-add (G m) (replicate n 0) t (omega (arith, l, length-replicate {A = ℕ} n 0)))
                (ap (coef (G m)) (sum_comm m (replicate n 0) t) ∙ plus-zeros m t n)

        long-a : length a ≡ j - 1
        long-a = ap length a-is ∙ long-last

        front-a : take (j - 1) (a ++ drop (j - 1) b) ≡ a
        front-a = take_at a (drop (j - 1) b) (j - 1) long-a

        pub power-front : j - 1 ≤ length (a ++ drop (j - 1) b)
        power-front = omega (arith, length-append a (drop (j - 1) b), long-a)

        module _ {r : List ℕ} (k : r ≡ log_row m (take (j - 1) (y ++ drop (length f) out))) (rest : List ℕ) where
          long-r : length r ≡ j - 1
          unfolding x
          long-r = ap length k ∙ length-map x (log_of (field_at m)) ∙ long-x

          pub power-row : j - 1 ≤ length (r ++ rest)
          power-row = omega (arith, length-append r rest, long-r)

          row_is : take (j - 1) (r ++ rest) ≡ log_row m x
          unfolding x
          row_is = take_at r rest (j - 1) long-r ∙ k

          held-is : held m (take (j - 1) (r ++ rest)) ≡ x
          held-is = ap (held m) row_is ∙ held-row lent x small-x

          -- what the squaring asks
          pub power-squares : Squarable m (take (j - 1) (r ++ rest)) (take (j - 1) (a ++ drop (j - 1) b))
          power-squares = record {
            logs = subst (LogRow m) (sym row_is) (row-is-row lent x small-x);
            small = subst (Below (2 ^ m)) (sym (front-a ∙ a-is)) small-last;
            few = omega (arith, length-take-le (j - 1) (r ++ rest) power-row, power-few);
            long = length-take-le (j - 1) (a ++ drop (j - 1) b) power-front ∙ sym (length-take-le (j - 1) (r ++ rest) power-row);
          }

          module _ {a₂ : List ℕ} (i : a₂ ≡ frobenius_mod (G m) (held m (take (j - 1) (r ++ rest))) 1 (take (j - 1) (a ++ drop (j - 1) b))) where
            -- the power, and zeros above it
            power : List ℕ
            power = frobenius_mod (G m) x m z

            a₂-is : a₂ ≡ power
            unfolding power frobenius_mod
            a₂-is =
                let p = power-degree in
                let one : suc (m - 1) ≡ m = omega arith in
                i ∙ ap₂ (λ u v. rem (G m) u (square (G m) v)) held-is (front-a ∙ a-is) ∙ last-square m x (m - 1) z ∙ ap (λ n. frobenius_mod (G m) x n z) one

            long-power : length power ≡ j - 1
            unfolding power z
            long-power = length-frobenius_mod (G m) x m z (length-rem (G m) x (0 ∷ 1 ∷ [])) ∙ long-x

            zeros-behind : drop (j - 1) (a ++ drop (j - 1) b) ≡ replicate (suc limit - (j - 1)) 0
            zeros-behind = drop_at a (drop (j - 1) b) (j - 1) long-a ∙ ap (drop (j - 1)) g.zeros ∙ drop-zeros (j - 1) (suc limit)

            all : List ℕ
            all = a₂ ++ drop (j - 1) (a ++ drop (j - 1) b)

            all-is : all ≡ power ++ replicate (suc limit - (j - 1)) 0
            unfolding all
            all-is = ap₂ (λ u v. u ++ v) a₂-is zeros-behind

            long-all : length all ≡ suc limit
            long-all =
                ap length all-is ∙ length-append power (replicate (suc limit - (j - 1)) 0)
                ∙ omega (arith, long-power, length-replicate {A = ℕ} (suc limit - (j - 1)) 0, power-few)

            pub power-two : 1 < length (a₂ ++ drop (j - 1) (a ++ drop (j - 1) b))
            unfolding all
            power-two = omega (arith, long-all)

            pub power-is : IsPower m f (set (a₂ ++ drop (j - 1) (a ++ drop (j - 1) b)) 1 (bit_xor (get_or (a₂ ++ drop (j - 1) (a ++ drop (j - 1) b)) 1 0) 1))
            unfolding all numbers power z
            power-is =
                let whole : set all 1 (bit_xor (get_or all 1 0) 1) ≡ add (G m) all (0 ∷ 1 ∷ []) = set-one m all power-two in
                let small_all : Below (2 ^ m) all =
                subst (Below (2 ^ m)) (sym all-is) (append-below (2 ^ m) power (replicate (suc limit - (j - 1)) 0) (frobenius_mod-below numbers x m z small-x small-z)
                (replicate-below (2 ^ m) (suc limit - (j - 1)) 0 numbers.zero-below)) in
                record {
                  small = subst (Below (2 ^ m)) (sym whole) (add-below numbers all (0 ∷ 1 ∷ []) small_all (numbers.zero-below, (numbers.one_below, tt)));
                  long = length-set all 1 (bit_xor (get_or all 1 0) 1) ∙ long-all;
                  low = x;
                  made = made;
                  power = ap (coef (G m)) whole ∙ fun_ext λ k.
                      sum-at m all (0 ∷ 1 ∷ []) k
                      ∙ ap (λ w. bit_xor (w k) (get_or (0 ∷ 1 ∷ []) k 0)) (ap (coef (G m)) all-is ∙ top-coef numbers power (suc limit - (j - 1)))
                      ∙ sym (sum-at m power (0 ∷ 1 ∷ []) k);
                }

-- ---- the remainder

module _ {m : ℕ} {ls ts h b low w : List ℕ} (lent : Lent m ls ts) (g : Residable m h b low w) where
  -- h as the check's cofactor is
  residual : Residual m h low w
  residual = record { cofactor = g.cofactor; place = g.place; nonzero = g.nonzero; room-low = g.room-low; room = g.room }

  module _ {out : List ℕ} (c : out ≡ copied h low) where
    pub residue-fits : length h ≤ length out
    residue-fits = remain-fits lent residual c

    pub residue-monic : Below (2 ^ m) (take (length h) out)
    residue-monic = remain-asks lent residual c

    module _ {j : ℕ} {y : List ℕ} (d : MadeMonic m (take (length h) out) j y) where
      pub residue-some : 0 < j
      residue-some = remain-some lent residual c d

      pub residue-room : j - 1 ≤ length (y ++ drop (length h) out)
      residue-room = remain-room lent residual c d

      pub residue-few : j - 1 ≤ limit
      residue-few = remain-degree lent residual c d

      p : List ℕ
      p = take (j - 1) (y ++ drop (length h) out)

      made-p : norm (G m) (length h) h ≡ some p
      unfolding p
      made-p = remain-made lent residual c d

      small-p : Below (2 ^ m) p
      small-p = norm-below (numbers_of lent) (length h) h g.cofactor.small made-p

      long-p : length p ≡ j - 1
      unfolding p
      long-p = length-take-le (j - 1) (y ++ drop (length h) out) residue-room

      pub residue-logs : {l : List ℕ} → j - 1 ≡ length l → Loggable m (take (j - 1) (y ++ drop (length h) out)) l
      unfolding p
      residue-logs e = record { small = small-p; room = long-p ∙ e }

      module _ {r : List ℕ} (k : r ≡ log_row m (take (j - 1) (y ++ drop (length h) out))) (rest : List ℕ) where
        long-row : length r ≡ j - 1
        unfolding p
        long-row = ap length k ∙ length-map p (log_of (field_at m)) ∙ long-p

        pub residue-row : j - 1 ≤ length (r ++ rest)
        residue-row = omega (arith, length-append r rest, long-row)

        row-front : take (j - 1) (r ++ rest) ≡ log_row m p
        unfolding p
        row-front = take_at r rest (j - 1) long-row ∙ k

        -- what the division asks
        pub residue-reduces : Reducible m (take (j - 1) (r ++ rest)) b (take (j - 1) w)
        residue-reduces = record {
          logs = subst (LogRow m) (sym row-front) (row-is-row lent p small-p);
          small = g.small;
          room = length-take-le (j - 1) w (omega (arith, residue-few, g.room)) ∙ sym (length-take-le (j - 1) (r ++ rest) residue-row);
        }

        pub residue-is : {v : List ℕ} → v ≡ rem (G m) (held m (take (j - 1) (r ++ rest))) b → (more : List ℕ) → Residue m h (j - 1) (y ++ drop (length h) out) (v ++ more)
        unfolding p
        residue-is {v} e more =
            let whole : v ≡ rem (G m) p (field_poly (G m) m) = e ∙ ap (λ u. rem (G m) u b) (ap (held m) row-front ∙ held-row lent p small-p) ∙ g.same p made-p in
            let n : length v ≡ j - 1 = ap length whole ∙ length-rem (G m) p (field_poly (G m) m) ∙ long-p in
            record {
              count = residue-few;
              inside = residue-room;
              within = omega (arith, n, length-append v more);
              made = made-p;
              front = take_at v more (j - 1) n ∙ whole ∙ sym (remainder_of m h made-p);
            }
