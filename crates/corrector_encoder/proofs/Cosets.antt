-- A CODEWORD OF STRENGTH t WITH NO BIT FROM 11 t ON IS ZERO. With a^e it is zero at a^(2e), so at a^e for each e of the
-- cyclotomic cosets of 1, 3, .., 2t-1 modulo 2047. They have 11 members each and are distinct, so that it would have
-- 11 t roots, and its degree is lower.
--   coset m e      e, 2e, 4e, .., m of them, modulo 2047;  cosets t  those of 1, 3, .., 2t-1, 11 of each
--   length-cosets  there are 11 t;  cosets-distinct  they differ, up to strength 8
--   short-zero     THE LAW
-- Assumes nothing.
use mathlib.Core.Path.{◌≡◌, refl, sym, ap, ap₂, ◌∙◌, subst}
use mathlib.Core.Logic.{◌≢◌, ◌⊎◌, inl, inr, ⊎_elim}
use mathlib.Core.Bool.{Bool, true, false, not}
use mathlib.Core.List.{List, [], ◌∷◌, ◌++◌, map}
use Prim.Native.Nat.{ℕ, zero, suc, ◌+◌, ◌*◌, ◌/◌, ◌%◌, ◌≤◌, ◌<◌}
use native.Mathlib.Nat.{eq-or-lt_of_le}
use native.Mathlib.Omega.{arith}
use lib.Dec.{T, T_not, eqb, ltb, eqb_refl, ltb→lt}
use lib.ListN.{length, get_or, length-append, length-map, get_or-map}
use Rattle.algebra.specs.Field.{Ops, Laws, power}
use Rattle.algebra.specs.Polynomial.{coef, eval}
use Rattle.algebra.specs.Trial.{All, Distinct}
use Rattle.algebra.proofs.Degree.{Top}
use Rattle.algebra.proofs.Degree as D
use Rattle.algebra.proofs.Factors as R
use Rattle.algebra.proofs.Elements as E
use Rattle.algebra.proofs.Series.{nought}
use Rattle.field.proofs.Table.{both_true, both_true-left, both_true-right}
use Rattle.corrector_code.specs.Word.{bit, word_value, Codeword, DistinctPowers}
use Rattle.corrector_code.proofs.Check as Q

-- e, 2e, 4e, .. modulo 2047
unfoldable pub coset : ℕ → ℕ → List ℕ
coset zero e = []
coset (suc m) e = e ∷ coset m (2 * e % 2047)

-- 11 of each of 1, 3, .., 2t-1
unfoldable pub cosets : ℕ → List ℕ
cosets zero = []
cosets (suc t) = coset 11 (suc (2 * t)) ++ cosets t

length-coset : (m e : ℕ) → length (coset m e) ≡ m
unfolding coset
length-coset zero e = refl
length-coset (suc m) e = ap suc (length-coset m (2 * e % 2047))

pub length-cosets : (t : ℕ) → length (cosets t) ≡ 11 * t
unfolding cosets
length-cosets zero = refl
length-cosets (suc t) =
    length-append (coset 11 (suc (2 * t))) (cosets t)
    ∙ (let a = length-coset 11 (suc (2 * t)) in let b = length-cosets t in omega arith)

-- ---- one test over the 88 exponents: each is below 2047, and differs from those behind it

fresh : ℕ → List ℕ → Bool
fresh x [] = true
fresh x (y ∷ l) = both_true (not (eqb x y)) (fresh x l)

spread : List ℕ → Bool
spread [] = true
spread (x ∷ l) = both_true (ltb x 2047) (both_true (fresh x l) (spread l))

spread-8 : T (spread (cosets 8))
unfolding spread fresh cosets coset
spread-8 = tt

fresh-all : (x : ℕ) (l : List ℕ) → T (fresh x l) → All (λ y. x ≢ y) l
unfolding fresh
fresh-all x [] t = tt
fresh-all x (y ∷ l) t = (
  λ e. T_not (eqb x y) (both_true-left (not (eqb x y)) (fresh x l) t) (subst (λ (z : ℕ). T (eqb x z)) e (eqb_refl x)),
  fresh-all x l (both_true-right (not (eqb x y)) (fresh x l) t),
)

spread-below : (l : List ℕ) → T (spread l) → All (λ x. x < 2047) l
unfolding spread
spread-below [] t = tt
spread-below (x ∷ l) t = (
  ltb→lt x 2047 (both_true-left (ltb x 2047) (both_true (fresh x l) (spread l)) t),
  spread-below l (both_true-right (fresh x l) (spread l) (both_true-right (ltb x 2047) (both_true (fresh x l) (spread l)) t)),
)

spread-distinct : (l : List ℕ) → T (spread l) → Distinct l
unfolding spread
spread-distinct [] t = tt
spread-distinct (x ∷ l) t =
    let u : T (both_true (fresh x l) (spread l)) = both_true-right (ltb x 2047) (both_true (fresh x l) (spread l)) t in
    (fresh-all x l (both_true-left (fresh x l) (spread l) u), spread-distinct l (both_true-right (fresh x l) (spread l) u))

-- what holds of the exponents of strength 8 holds of those of a lower strength, which stand behind
all-behind : (P : ℕ → Type 0) (k l : List ℕ) → All P (k ++ l) → All P l
all-behind P [] l h = h
all-behind P (x ∷ k) l h = all-behind P k l h.1

distinct-behind : (k l : List ℕ) → Distinct (k ++ l) → Distinct l
distinct-behind [] l h = h
distinct-behind (x ∷ k) l h = distinct-behind k l h.1

lower : (P : List ℕ → Type 0) → ((k l : List ℕ) → P (k ++ l) → P l) → (n t : ℕ) → P (cosets n) → t ≤ n → P (cosets t)
unfolding cosets
lower P back zero t s h = let e : 0 ≡ t = omega arith in subst (λ (m : ℕ). P (cosets m)) e s
lower P back (suc n) t s h =
    ⊎_elim (λ e. let f : suc n ≡ t = omega (arith, e) in subst (λ (m : ℕ). P (cosets m)) f s)
    (λ l. lower P back n t (back (coset 11 (suc (2 * n))) (cosets n) s) (omega arith)) (eq-or-lt_of_le h)

cosets-below : (t : ℕ) → t ≤ 8 → All (λ x. x < 2047) (cosets t)
cosets-below t h = lower (All (λ x. x < 2047)) (all-behind (λ x. x < 2047)) 8 t (spread-below (cosets 8) spread-8) h

-- THE COSETS ARE DISTINCT
pub cosets-distinct : (t : ℕ) → t ≤ 8 → Distinct (cosets t)
cosets-distinct t h = lower Distinct distinct-behind 8 t (spread-distinct (cosets 8) spread-8) h

module _ {K : Type 0} {F : Ops K} (L : Laws F) (a : K) (o : DistinctPowers F a 2047) (full : power F a 2047 ≡ F.one) where
  infixl 70 ◌⊗◌
  open F use {zero as 0#, one as 1#, mul as ◌⊗◌}
  open L use {one-mul, one≢zero}

  others : (x : ℕ) → x < 2047 → (l : List ℕ) → All (λ y. y < 2047) l → All (λ y. x ≢ y) l
      → All (λ y. power F a x ≢ y) (map (power F a) l)
  others x h [] b d = tt
  others x h (y ∷ l) b d = (λ e. d.0 (o.apart x y h b.0 e), others x h l b.1 d.1)

  -- distinct exponents, distinct powers
  powers-distinct : (l : List ℕ) → All (λ x. x < 2047) l → Distinct l → Distinct (map (power F a) l)
  powers-distinct [] b d = tt
  powers-distinct (x ∷ l) b d = (others x b.0 l b.1 d.0, powers-distinct l b.1 d.1)

  turns : (q r : ℕ) → power F a (q * 2047 + r) ≡ power F a r
  turns zero r = ap (power F a) (let e : 0 * 2047 + r ≡ r = omega arith in e)
  turns (suc q) r =
      ap (power F a) (let e : suc q * 2047 + r ≡ 2047 + (q * 2047 + r) = omega arith in e)
      ∙ E.power-add L a 2047 (q * 2047 + r) ∙ ap₂ ◌⊗◌ full (turns q r) ∙ one-mul (power F a r)

  -- exponents may be taken modulo 2047
  power-mod : (i : ℕ) → power F a (i % 2047) ≡ power F a i
  power-mod i =
      sym (turns (i / 2047) (i % 2047)) ∙ ap (power F a) (let e : i / 2047 * 2047 + i % 2047 ≡ i = omega arith in e)

  module _ (w : List Bool) where
    -- where the word is zero
    Zero : K → Type 0
    Zero x = word_value F w x ≡ 0#

    doubled : (e : ℕ) → word_value F w (power F a e) ≡ 0# → word_value F w (power F a (2 * e % 2047)) ≡ 0#
    doubled e h =
        ap (word_value F w) (power-mod (2 * e)) ∙ Q.syndrome-square L w a e ∙ ap (λ v. v ⊗ v) h ∙ E.mul-zero L 0#

    coset-zero : (m e : ℕ) → word_value F w (power F a e) ≡ 0#
        → All (λ x. eval F (map (bit F) w) x ≡ 0#) (map (power F a) (coset m e))
    unfolding coset
    coset-zero zero e h = tt
    coset-zero (suc m) e h = (h, coset-zero m (2 * e % 2047) (doubled e h))

    both : (k l : List ℕ) → All (λ x. eval F (map (bit F) w) x ≡ 0#) (map (power F a) k)
        → All (λ x. eval F (map (bit F) w) x ≡ 0#) (map (power F a) l)
        → All (λ x. eval F (map (bit F) w) x ≡ 0#) (map (power F a) (k ++ l))
    both [] l h g = g
    both (x ∷ k) l h g = (h.0, both k l h.1 g)

    cosets-zero : (t : ℕ) → ((k : ℕ) → k < t → word_value F w (power F a (suc (2 * k))) ≡ 0#)
        → All (λ x. eval F (map (bit F) w) x ≡ 0#) (map (power F a) (cosets t))
    unfolding cosets
    cosets-zero zero h = tt
    cosets-zero (suc t) h =
        both (coset 11 (suc (2 * t))) (cosets t) (coset-zero 11 (suc (2 * t)) (h t (omega arith))) (cosets-zero t (λ k l. h k (omega arith)))

    coef-bit : (j : ℕ) → coef F (map (bit F) w) j ≡ bit F (get_or w j false)
    coef-bit j = get_or-map (bit F) w j false

    no-bit : (b : Bool) → bit F b ≡ 0# → b ≡ false
    no-bit true e = absurd (one≢zero e)
    no-bit false e = refl

    -- A CODEWORD WITH NO BIT FROM 11 t ON IS ZERO
    pub short-zero : (t : ℕ) → t ≤ 8 → Codeword F a t w → ((j : ℕ) → 11 * t ≤ j → get_or w j false ≡ false) → (j : ℕ)
        → get_or w j false ≡ false
    short-zero t h c high j = go (D.top? L (map (bit F) w))
      where
        go : (coef F (map (bit F) w) ≡ nought F) ⊎ ((n : ℕ) × (c : K) × (c ≢ 0#) × Top F (coef F (map (bit F) w)) n c)
            → get_or w j false ≡ false
        go (inl e) = no-bit (get_or w j false) (sym (coef-bit j) ∙ ap (λ f. f j) e)
        go (inr v) =
            let many = R.roots-at-most L (map (power F a) (cosets t)) (map (bit F) w)
            (powers-distinct (cosets t) (cosets-below t h) (cosets-distinct t h))
            (cosets-zero t (λ k l. c (suc (2 * k)) (omega arith) (omega arith))) v.3 v.2 in
            let long : 11 * t ≤ v.0 = omega (arith, length-map (cosets t) (power F a), length-cosets t, many) in
            absurd (v.2 (sym v.3.at ∙ coef-bit v.0 ∙ ap (bit F) (high v.0 long)))
