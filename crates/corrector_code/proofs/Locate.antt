-- THE KEY EQUATION: from the power sums s_1 to s_2t of at most t distinct nonzero locators, the register finds the
-- product of 1 + x z over them.
--   sums              1, and the power sums of a list
--   pow-plus          x^(i+j) = x^i x^j;  inverse-nonzero  an inverse is not 0
--   key_right         after t turns on 2t power sums of at most t locators, a register with room holds the product
--   from-root         the product of 1 + x z is 0 at the inverse of each locator;  from-no-root  and at no other
-- Assumes nothing.
use mathlib.Core.Path.{◌≡◌, refl, sym, ap, ap₂, ◌∙◌, fun_ext}
use mathlib.Core.Logic.{◌≢◌, ◌⊎◌, inl, inr, ⊎_elim}
use mathlib.Core.List.{List, [], ◌∷◌, map}
use Prim.Native.Nat.{ℕ, zero, suc, ◌+◌, ◌*◌, ◌≤◌, ◌<◌}
use native.Mathlib.Nat.{suc-add, zero-add as nat-zero-add}
use native.Mathlib.Decide.{dec_le}
use native.Mathlib.Omega.{arith}
use lib.ListN.{length, length-map, get_or-eq_default}
use Rattle.algebra.specs.Field.{Ops, Laws, power}
use Rattle.algebra.specs.Polynomial.{coef, eval, add}
use Rattle.algebra.proofs.Series.{Series, starting_with, plus, times, nought}
use Rattle.algebra.proofs.Series as S
use Rattle.algebra.proofs.Elements as E
use Rattle.algebra.proofs.Coefficients as P
use Rattle.algebra.proofs.Evaluation as I
use Rattle.algebra.proofs.Degree.{Top}
use Rattle.algebra.proofs.Degree as D
use Rattle.algebra.specs.Trial.{All, Distinct}
use Rattle.algebra.proofs.Factors as W
use Rattle.corrector_code.specs.Word.{total}
use Rattle.corrector_code.specs.Key.{conv, register, from_locators}
use Rattle.algebra.proofs.Trial.{all_map}
use Rattle.corrector_code.proofs.Sums as Y
use Rattle.corrector_code.proofs.Words as X
use Rattle.corrector_code.proofs.Odd.{odd}
use Rattle.corrector_code.proofs.Odd as H
use Rattle.corrector_code.proofs.Massey.{ShortFor}
use Rattle.corrector_code.proofs.Massey as M
use Rattle.corrector_code.proofs.Run as R
use Rattle.corrector_code.proofs.Same.{register-same}
use Rattle.algebra.proofs.Signs.{signs}

-- 1, and the power sums of a list
unfoldable pub sums : {K : Type 0} (F : Ops K) → List K → Series K
sums F s = starting_with F.one (λ k. total F (λ x. power F x (suc k)) s)

module _ {K : Type 0} {F : Ops K} (L : Laws F) where
  open signs F use {0#, 1#, ◌⊕◌, ◌⊗◌, ◌⊞◌, ◌⊠◌}
  open L use {add_comm, add_assoc, zero-add, add-self, one-mul, mul_comm, mul_assoc, mul-add, mul-inv, one≢zero}

  total-same : (f g : K → K) (s : List K) → All (λ x. f x ≡ g x) s → total F f s ≡ total F g s
  unfolding total
  total-same f g [] h = refl
  total-same f g (x ∷ s) h = ap₂ ◌⊕◌ h.0 (total-same f g s h.1)

  -- x^(k+1) (c + y / x) = c x^(k+1) + x^k y
  divide-once : (x c p y : K) → x ≢ 0# → x ⊗ p ⊗ (c ⊕ F.inv x ⊗ y) ≡ c ⊗ (x ⊗ p) ⊕ p ⊗ y
  divide-once x c p y h =
      mul-add (x ⊗ p) c (F.inv x ⊗ y)
      ∙ ap₂ ◌⊕◌ (mul_comm (x ⊗ p) c) (ap (λ w. w ⊗ (F.inv x ⊗ y)) (mul_comm x p) ∙ mul_assoc p x (F.inv x ⊗ y)
      ∙ ap (λ w. p ⊗ w) (sym (mul_assoc x (F.inv x) y) ∙ ap (λ w. w ⊗ y) (mul-inv x h) ∙ one-mul y))

  -- behind the degree of p, a coefficient of p times the power sums is the sum of x^k p(1/x)
  product-sum : (s : List K) → All (λ x. x ≢ 0#) s → (p : List K) (k : ℕ) → ((j : ℕ) → k ≤ j → coef F p j ≡ 0#)
      → (coef F p ⊠ sums F s) k ≡ total F (λ x. power F x k ⊗ eval F p (F.inv x)) s
  unfolding times eval power sums starting_with
  product-sum s z [] k h = S.nought-at L (sums F s) k ∙ sym (Y.total-zero L _ s (all_map (λ x e. E.mul-zero L (power F x k)) s z))
  product-sum s z (c ∷ p) zero h =
      M.product-none L 0 (coef F (c ∷ p)) (sums F s) (λ i j e. inl (h i (omega arith)))
      ∙ sym (Y.total-zero L _ s (all_map (λ x e. ap (λ w. 1# ⊗ w) (I.eval-same L (c ∷ p) [] (F.inv x) (fun_ext λ j. h j (omega arith))) ∙ E.mul-zero L 1#) s z))
  product-sum s z (c ∷ p) (suc k) h =
      ap₂ ◌⊕◌ (sym (Y.total-mul L c (λ x. power F x (suc k)) s)) (product-sum s z p k (λ j l. h (suc j) (omega arith)))
      ∙ sym (Y.total-add L (λ x. c ⊗ power F x (suc k)) (λ x. power F x k ⊗ eval F p (F.inv x)) s)
      ∙ total-same _ _ s (all_map (λ x e. sym (divide-once x c (power F x k) (eval F p (F.inv x)) e)) s z)

  -- ---- the product of 1 + x z

  eval-locator : (x y : K) → eval F (1# ∷ x ∷ []) y ≡ 1# ⊕ y ⊗ x
  unfolding eval
  eval-locator x y = ap (λ w. 1# ⊕ y ⊗ w) (ap (λ w. x ⊕ w) (E.mul-zero L y) ∙ E.add-zero L x)

  from_first : (s : List K) → coef F (from_locators F s) 0 ≡ 1#
  unfolding from_locators times
  from_first [] = refl
  from_first (x ∷ s) = ap (λ f. f 0) (P.coef-mul L (1# ∷ x ∷ []) (from_locators F s)) ∙ one-mul _ ∙ from_first s

  from-ends : (s : List K) (k : ℕ) → length s < k → coef F (from_locators F s) k ≡ 0#
  unfolding from_locators
  from-ends [] k h = get_or-eq_default (1# ∷ []) 0# h
  from-ends (x ∷ s) k h =
      ap (λ f. f k) (P.coef-mul L (1# ∷ x ∷ []) (from_locators F s))
      ∙ M.product-none L k (coef F (1# ∷ x ∷ [])) (coef F (from_locators F s)) (each (from-ends s))
    where
      each : ((j : ℕ) → length s < j → coef F (from_locators F s) j ≡ 0#) → (i j : ℕ) → i + j ≡ k → (coef F (1# ∷ x ∷ []) i ≡ 0#) ⊎ (coef F (from_locators F s) j ≡ 0#)
      each rec i j e = elim (dec_le 2 i) [ yes l ↦ inl (get_or-eq_default (1# ∷ x ∷ []) 0# l) | no l ↦ inr (rec j (omega arith)) ]

  from-zeros : (s : List K) → All (λ x. x ≢ 0#) s → All (λ x. eval F (from_locators F s) (F.inv x) ≡ 0#) s
  unfolding from_locators
  from-zeros [] z = tt
  from-zeros (x ∷ s) z = (
    I.eval_mul L (1# ∷ x ∷ []) (from_locators F s) (F.inv x)
        ∙ ap (λ w. w ⊗ eval F (from_locators F s) (F.inv x)) (eval-locator x (F.inv x) ∙ ap (λ w. 1# ⊕ w) (mul_comm (F.inv x) x ∙ mul-inv x z.0) ∙ add-self 1#)
        ∙ E.zero-mul L _,
    all_map (λ y e. I.eval_mul L (1# ∷ x ∷ []) (from_locators F s) (F.inv y) ∙ ap (λ w. eval F (1# ∷ x ∷ []) (F.inv y) ⊗ w) e ∙ E.mul-zero L _) s (from-zeros s z.1),
  )

  -- ---- it makes the power sums: with s the power sums, (1 + x z) .. s = (1 + x z) .. + its odd part (Newton's
  -- identities)

  -- x z + x^2 z^2 + ..
  powers : K → Series K
  powers x = starting_with 0# (λ k. power F x (suc k))

  abbrev factor : K → Series K
  factor x = coef F (1# ∷ x ∷ [])

  abbrev middle : K → Series K
  middle x = coef F (0# ∷ x ∷ [])

  sums-cons : (x : K) (s : List K) → sums F (x ∷ s) ≡ sums F s ⊞ powers x
  unfolding sums powers starting_with plus total
  sums-cons x s = fun_ext (elim [ zero ↦ sym (E.add-zero L 1#) | suc k ↦ add_comm _ _ ])

  factor-powers : (x : K) → factor x ⊠ powers x ≡ middle x
  unfolding powers starting_with conv power
  factor-powers x = fun_ext (λ k. sym (R.conv-is L (1# ∷ x ∷ []) (powers x) k) ∙ at k)
    where
      at : (k : ℕ) → conv F (1# ∷ x ∷ []) (powers x) k ≡ middle x k
      at zero = one-mul 0#
      at (suc zero) = ap₂ ◌⊕◌ (one-mul _ ∙ Y.times-one L x) (E.mul-zero L x) ∙ E.add-zero L x
      at (suc (suc k)) = ap₂ ◌⊕◌ (one-mul _) (E.add-zero L _) ∙ add-self _

  odd_factor : (x : K) → odd F (factor x) ≡ middle x
  unfolding odd
  odd_factor x = fun_ext (elim [ zero ↦ refl | suc zero ↦ E.add-zero L x | suc (suc k) ↦ zero-add _ ∙ zero-add _ ∙ H.odd-none L (nought F) k refl ])

  newton : (s : List K) → coef F (from_locators F s) ⊠ sums F s ≡ coef F (from_locators F s) ⊞ odd F (coef F (from_locators F s))
  unfolding from_locators sums total
  newton [] =
      S.times-unit L (coef F (1# ∷ []))
      ∙ sym (ap (λ w. coef F (1# ∷ []) ⊞ w) (fun_ext λ k. H.odd-below L (coef F (1# ∷ [])) k (λ i l. refl) k (omega arith)) ∙ S.plus_comm L _ _ ∙ S.nought-plus L _)
  newton (x ∷ s) =
      let p : Series K = coef F (from_locators F s) in
      let c : Series K = factor x in
      ap₂ (λ f g. f ⊠ g) (P.coef-mul L (1# ∷ x ∷ []) (from_locators F s)) (sums-cons x s)
      ∙ S.times-plus L (c ⊠ p) (sums F s) (powers x)
      ∙ ap₂ ◌⊞◌ (S.times-assoc L c p (sums F s) ∙ ap (λ w. c ⊠ w) (newton s) ∙ S.times-plus L c p (odd F p))
      (ap (λ w. w ⊠ powers x) (S.times-comm L c p) ∙ S.times-assoc L p c (powers x) ∙ ap (λ w. p ⊠ w) (factor-powers x) ∙ S.times-comm L p (middle x))
      ∙ S.plus_assoc L (c ⊠ p) (c ⊠ odd F p) (middle x ⊠ p)
      ∙ ap (λ w. c ⊠ p ⊞ w) (S.plus_comm L (c ⊠ odd F p) (middle x ⊠ p) ∙ ap (λ w. w ⊠ p ⊞ c ⊠ odd F p) (sym (odd_factor x)) ∙ sym (H.leibniz L c p))
      ∙ sym (ap (λ f. f ⊞ odd F f) (P.coef-mul L (1# ∷ x ∷ []) (from_locators F s)))

  from-makes : (s : List K) (n : ℕ) → ShortFor F (sums F s) n (coef F (from_locators F s)) (length s)
  unfolding plus
  from-makes s n = record {
    ends = from-ends s;
    gap = λ i l. ap (λ f. f (suc (2 * i))) (newton s) ∙ ap (λ x. coef F (from_locators F s) (suc (2 * i)) ⊕ x) (H.odd-odd L i _) ∙ add-self _;
  }

  -- ---- what makes the power sums is zero at the inverses of the locators

  pub pow-plus : (x : K) (i j : ℕ) → power F x (i + j) ≡ power F x i ⊗ power F x j
  unfolding power
  pow-plus x zero j = ap (power F x) (nat-zero-add j) ∙ sym (one-mul (power F x j))
  pow-plus x (suc i) j = ap (power F x) (suc-add i j) ∙ ap (λ w. x ⊗ w) (pow-plus x i j) ∙ sym (mul_assoc x (power F x i) (power F x j))

  square-apart : (x y : K) → x ⊗ x ≡ y ⊗ y → x ≡ y
  square-apart x y e = ⊎_elim (λ z. E.equal-of-sum L x y z) (λ h. E.equal-of-sum L x y (E.zero-of-product L (x ⊕ y) (x ⊕ y) h square)) (E.zero? L (x ⊕ y))
    where
      square : (x ⊕ y) ⊗ (x ⊕ y) ≡ 0#
      square =
          E.add-mul L x y (x ⊕ y) ∙ ap₂ ◌⊕◌ (mul-add x x y) (mul-add y x y ∙ ap₂ ◌⊕◌ (mul_comm y x) (sym e) ∙ add_comm (x ⊗ y) (x ⊗ x)) ∙ add-self _

  -- x^(2v+1) (x^2)^j = x^(2(v+j)+1)
  odd_power : (x : K) (v j : ℕ) → power F x (suc (2 * v)) ⊗ power F (x ⊗ x) j ≡ power F x (suc (2 * (v + j)))
  odd_power x v j =
      let e : suc (2 * v) + (j + j) ≡ suc (2 * (v + j)) = omega arith in
      ap (λ w. power F x (suc (2 * v)) ⊗ w) (X.pow-mul L x x j ∙ sym (pow-plus x j j)) ∙ sym (pow-plus x (suc (2 * v)) (j + j)) ∙ ap (power F x) e

  zero-inverses : (s p : List K) → Distinct s → All (λ x. x ≢ 0#) s → ((k : ℕ) → length s < k → coef F p k ≡ 0#) → odd F (coef F p ⊠ sums F s) ≡ nought F
      → All (λ x. eval F p (F.inv x) ≡ 0#) s
  zero-inverses s p d z ends none = both s z (Y.vandermonde L (λ x. x ⊗ x) square-apart s (λ x. power F x (suc (2 * length s)) ⊗ eval F p (F.inv x)) d each)
    where
      v : ℕ
      v = length s

      each : (j : ℕ) → j < length s → total F (λ x. power F x (suc (2 * v)) ⊗ eval F p (F.inv x) ⊗ power F (x ⊗ x) j) s ≡ 0#
      each j l =
          ap (λ f. total F f s) (fun_ext λ x. mul_assoc _ _ _ ∙ ap (λ w. power F x (suc (2 * v)) ⊗ w) (mul_comm _ _) ∙ sym (mul_assoc _ _ _) ∙ ap (λ w. w ⊗ eval F p (F.inv x)) (odd_power x v j))
          ∙ sym (product-sum s z p (suc (2 * (v + j))) (λ k e. ends k (omega arith)))
          ∙ sym (H.odd-odd L (v + j) _) ∙ ap (λ f. f (suc (2 * (v + j)))) none

      both : (r : List K) → All (λ x. x ≢ 0#) r → All (λ x. power F x (suc (2 * length s)) ⊗ eval F p (F.inv x) ≡ 0#) r → All (λ x. eval F p (F.inv x) ≡ 0#) r
      both [] z h = tt
      both (x ∷ r) z h = (E.zero-of-product L _ _ (X.pow-nonzero L x (suc (2 * length s)) z.0) h.0, both r z.1 h.1)

  -- ---- there is one such polynomial

  inverse-apart : (x y : K) → x ≢ 0# → y ≢ 0# → F.inv x ≡ F.inv y → x ≡ y
  inverse-apart x y h k e =
      sym (Y.times-one L x) ∙ ap (λ w. x ⊗ w) (sym (mul-inv y k) ∙ mul_comm y (F.inv y)) ∙ sym (mul_assoc x (F.inv y) y)
      ∙ ap (λ w. x ⊗ w ⊗ y) (sym e) ∙ ap (λ w. w ⊗ y) (mul-inv x h) ∙ one-mul y

  pub inverse-nonzero : (x : K) → x ≢ 0# → F.inv x ≢ 0#
  inverse-nonzero x h e = one≢zero (sym (mul-inv x h) ∙ ap (λ w. x ⊗ w) e ∙ E.mul-zero L x)

  inverses-apart : (x : K) (s : List K) → x ≢ 0# → All (λ y. y ≢ 0#) s → All (λ y. x ≢ y) s → All (λ y. F.inv x ≢ y) (map F.inv s)
  inverses-apart x [] h z d = tt
  inverses-apart x (y ∷ s) h z d = (λ e. d.0 (inverse-apart x y h z.0 e), inverses-apart x s h z.1 d.1)

  inverses-distinct : (s : List K) → All (λ x. x ≢ 0#) s → Distinct s → Distinct (map F.inv s)
  inverses-distinct [] z d = tt
  inverses-distinct (x ∷ s) z d = (inverses-apart x s z.0 z.1 d.0, inverses-distinct s z.1 d.1)

  inverses-nonzero : (s : List K) → All (λ x. x ≢ 0#) s → All (λ y. 0# ≢ y) (map F.inv s)
  inverses-nonzero [] z = tt
  inverses-nonzero (x ∷ s) z = (λ e. inverse-nonzero x z.0 (sym e), inverses-nonzero s z.1)

  -- a polynomial of degree at most n with more than n roots is 0
  few-roots : (f s : List K) {n : ℕ} → Distinct s → All (λ r. eval F f r ≡ 0#) s → ((k : ℕ) → n < k → coef F f k ≡ 0#) → n < length s → coef F f ≡ nought F
  few-roots f s {n} d h ends l = go (D.top? L f)
    where
      go : (coef F f ≡ nought F) ⊎ ((m : ℕ) × (c : K) × (c ≢ 0#) × Top F (coef F f) m c) → coef F f ≡ nought F
      go (inl e) = e
      go (inr (m, c, z, t)) = absurd (z (sym t.at ∙ ends m (omega (arith, W.roots-at-most L s f d h t z))))

  eval-zero : (r : List K) → eval F r 0# ≡ coef F r 0
  unfolding eval
  eval-zero [] = refl
  eval-zero (c ∷ r) = ap (λ w. c ⊕ w) (E.zero-mul L (eval F r 0#)) ∙ E.add-zero L c

  -- p and q agree at 0 and at the inverses of s, and have degree at most the length of s
  same-locator : (s p q : List K) → Distinct s → All (λ x. x ≢ 0#) s → coef F p 0 ≡ 1# → coef F q 0 ≡ 1#
      → ((k : ℕ) → length s < k → coef F p k ≡ 0#) → ((k : ℕ) → length s < k → coef F q k ≡ 0#)
      → All (λ x. eval F p (F.inv x) ≡ 0#) s → All (λ x. eval F q (F.inv x) ≡ 0#) s → coef F p ≡ coef F q
  unfolding plus
  same-locator s p q d z fp fq ep eq hp hq =
      S.equal-of-plus L (coef F p) (coef F q)
      (sym (P.coef-add L p q)
      ∙ few-roots (add F p q) (0# ∷ map F.inv s) (inverses-nonzero s z, inverses-distinct s z d) (at_zero, at-inverses s hp hq)
      (λ k l. ap (λ f. f k) (P.coef-add L p q) ∙ ap₂ ◌⊕◌ (ep k l) (eq k l) ∙ zero-add 0#) (omega (arith, length-map s F.inv)))
    where
      at_zero : eval F (add F p q) 0# ≡ 0#
      at_zero = I.eval_add L p q 0# ∙ ap₂ ◌⊕◌ (eval-zero p ∙ fp) (eval-zero q ∙ fq) ∙ add-self 1#

      at-inverses : (r : List K) → All (λ x. eval F p (F.inv x) ≡ 0#) r → All (λ x. eval F q (F.inv x) ≡ 0#) r → All (λ y. eval F (add F p q) y ≡ 0#) (map F.inv r)
      at-inverses [] a b = tt
      at-inverses (x ∷ r) a b = (I.eval_add L p q (F.inv x) ∙ ap₂ ◌⊕◌ a.0 b.0 ∙ zero-add 0#, at-inverses r a.1 b.1)

  -- THE KEY EQUATION: after t turns, on 2t power sums of at most t locators, a register with room holds the product of
  -- 1 + x z
  pub key_right : (m t : ℕ) (s : List K) (u : Series K) → t ≤ m → Distinct s → All (λ x. x ≢ 0#) s → length s ≤ t → ((k : ℕ) → k ≤ 2 * t → u k ≡ sums F s k)
      → coef F (register F m u t).locator ≡ coef F (from_locators F s)
  unfolding sums starting_with
  key_right m t s u l d z h e =
      ap (λ r. coef F r.locator) (register-same F m u (sums F s) t e)
      ∙ (let w = R.register-runs L (sums F s) (coef F (from_locators F s)) (length s) m (omega arith) refl (from_first s) (from-makes s) t in
      let a = M.short-wider L w.small w.good in
      same-locator s (register F m (sums F s) t).locator (from_locators F s) d z w.first (from_first s) a.ends (from-ends s)
      (zero-inverses s (register F m (sums F s) t).locator d z a.ends (M.register-goes-on L a refl (from_first s) (from-makes s) (omega arith))) (from-zeros s z))

  -- the roots of the product of 1 + x z are the inverses of the locators
  pub from-root : (s : List K) → All (λ x. x ≢ 0#) s → All (λ x. eval F (from_locators F s) (F.inv x) ≡ 0#) s
  from-root = from-zeros

  pub from-no-root : (s : List K) (x : K) → x ≢ 0# → All (λ y. y ≢ x) s → eval F (from_locators F s) (F.inv x) ≢ 0#
  unfolding from_locators eval
  from-no-root [] x h d e = one≢zero (sym (ap (λ w. 1# ⊕ w) (E.mul-zero L (F.inv x)) ∙ E.add-zero L 1#) ∙ e)
  from-no-root (y ∷ s) x h d e =
      from-no-root s x h d.1 (E.zero-of-product L _ _ (λ z. d.0 (same (E.equal-of-sum L 1# (F.inv x ⊗ y) (sym (eval-locator y (F.inv x)) ∙ z))))
      (sym (I.eval_mul L (1# ∷ y ∷ []) (from_locators F s) (F.inv x)) ∙ e))
    where
      same : 1# ≡ F.inv x ⊗ y → y ≡ x
      same e = sym (one-mul y) ∙ ap (λ w. w ⊗ y) (sym (mul-inv x h)) ∙ mul_assoc x (F.inv x) y ∙ ap (λ w. x ⊗ w) (sym e) ∙ Y.times-one L x
