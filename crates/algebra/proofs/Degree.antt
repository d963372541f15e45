-- The highest coefficient of a sequence that ends, and of a product: what makes monic factors cancel and degrees add.
--   Top           c stands at place n, and nothing above it
--   Monic         of degree n, with leading coefficient 1
--   top-times     degrees add, and leading coefficients multiply
--   monic-times   a product of monic polynomials is monic
--   plus-top      a polynomial of lower degree does not change the top
--   degree-le     nothing but 0 stands above the top, so a sequence has one degree
--   top?          a list is 0 or has a leading coefficient
--   quotient-top  the quotient by a monic polynomial has the rest of the degree, and the same leading coefficient
--   monic-cancel  a monic factor cancels
--   monic-list    the list that holds a monic polynomial
--   monic-equal   lists that hold monic polynomials are equal where the polynomials are
--   cut-monic     a list whose polynomial is monic of degree n begins with the n coefficients below the 1
-- Assumes nothing.
use mathlib.Core.Path.{◌∙◌, ◌≡◌, ap, ap₂, fun_ext, refl, subst, sym}
use mathlib.Core.Logic.{◌≢◌, ◌⊎◌, inl, inr}
use mathlib.Core.List.{List, [], ◌++◌, ◌∷◌}
use Prim.Native.Nat.{◌+◌, ◌<◌, ◌≤◌, suc, zero, ℕ}
use native.Mathlib.Nat.{le_of_suc-le-suc, not-suc-le-zero, suc-add, zero-add as zero-plus, zero-lt-suc}
use native.Mathlib.Decide.{dec_le}
use native.Mathlib.Omega.{arith}
use lib.ListN.{get_or-append, get_or-eq_default, length, length-append, take}
use lib.Seq.{ext_get_or, get_or-append_seam}
use Rattle.algebra.specs.Field.{Laws, Ops}
use Rattle.algebra.specs.Polynomial.{add, coef}
use Rattle.algebra.specs.Routines.{monic}
use Rattle.algebra.proofs.Elements.{add-zero, mul-zero, zero?}
use Rattle.algebra.proofs.Series.{Series, after_first, equal-of-plus, starting_with, nought, nought-at, plus, plus-self, times, times-nought, times-plus}
use Rattle.algebra.proofs.Coefficients.{coef-add, coef-cons}
use Rattle.algebra.proofs.Signs.{signs}

-- c stands at place n, and nothing above it
pub record Top {K : Type 0} (F : Ops K) (f : Series K) (n : ℕ) (c : K) : Type 0 where
  pub at : f n ≡ c
  pub above : (k : ℕ) → n < k → f k ≡ F.zero

-- of degree n, with leading coefficient 1
abbrev pub Monic : {K : Type 0} (F : Ops K) → Series K → ℕ → Type 0
Monic F f n = Top F f n F.one

module _ {K : Type 0} {F : Ops K} (L : Laws F) where
  open signs F use {0#, 1#, ◌⊕◌, ◌⊗◌, ◌⊞◌, ◌⊠◌}
  open L use {zero-add, one-mul, one≢zero}

  Ends : Series K → ℕ → Type 0
  Ends f n = (k : ℕ) → n < k → f k ≡ 0#

  const-at : (f g : Series K) → Ends f 0 → (k : ℕ) → (f ⊠ g) k ≡ f 0 ⊗ g k
  unfolding times Ends
  const-at f g h zero = refl
  const-at f g h (suc k) =
      ap (λ w. f 0 ⊗ g (suc k) ⊕ w) (ap (λ u. times F u g k) (fun_ext λ j. h (suc j) (zero-lt-suc j)) ∙ nought-at L g k) ∙ add-zero L (f 0 ⊗ g (suc k))

  top-at : (n m : ℕ) (f g : Series K) → Ends f n → Ends g m → (f ⊠ g) (n + m) ≡ f n ⊗ g m
  unfolding times Ends
  top-at zero m f g hf hg = ap (f ⊠ g) (zero-plus m) ∙ const-at f g hf m
  top-at (suc n) m f g hf hg =
      ap (f ⊠ g) (suc-add n m)
      ∙ ap₂ ◌⊕◌ (ap (λ w. f 0 ⊗ w) (hg (suc (n + m)) (omega arith)) ∙ mul-zero L (f 0)) (top-at n m (after_first f) g (λ k h. hf (suc k) (omega arith)) hg)
      ∙ zero-add (f (suc n) ⊗ g m)

  top_above : (n m : ℕ) (f g : Series K) → Ends f n → Ends g m → Ends (f ⊠ g) (n + m)
  unfolding times Ends
  top_above zero m f g hf hg k h = const-at f g hf k ∙ ap (λ w. f 0 ⊗ w) (hg k (omega arith)) ∙ mul-zero L (f 0)
  top_above (suc n) m f g hf hg zero h = absurd (not-suc-le-zero h)
  top_above (suc n) m f g hf hg (suc k) h =
      ap₂ ◌⊕◌ (ap (λ w. f 0 ⊗ w) (hg (suc k) (omega arith)) ∙ mul-zero L (f 0)) (top_above n m (after_first f) g (λ j l. hf (suc j) (omega arith)) hg k (omega arith))
      ∙ zero-add 0#

  -- degrees add, and leading coefficients multiply
  pub top-times : {f g : Series K} {n m : ℕ} {a b : K} → Top F f n a → Top F g m b → Top F (f ⊠ g) (n + m) (a ⊗ b)
  unfolding Ends
  top-times {f} {g} {n} {m} s t = record {
    at = top-at n m f g s.above t.above ∙ ap₂ ◌⊗◌ s.at t.at;
    above = top_above n m f g s.above t.above;
  }

  -- a product of monic polynomials is monic
  pub monic-times : {f g : Series K} {n m : ℕ} → Monic F f n → Monic F g m → Monic F (f ⊠ g) (n + m)
  monic-times {f} {g} {n} {m} s t = rw one-mul at (top-times s t)

  -- nothing but 0 stands above the top, so a sequence has one degree
  pub degree-le : {f : Series K} {n m : ℕ} {b : K} → f n ≢ 0# → Top F f m b → n ≤ m
  degree-le {f} {n} {m} h t = elim (dec_le n m) [ yes l ↦ l | no g ↦ absurd (h (t.above n (omega arith))) ]

  -- a polynomial of lower degree does not change the top
  pub plus-top : {f g : Series K} {n m : ℕ} {a b : K} → Top F f n a → Top F g m b → m < n → Top F (f ⊞ g) n a
  unfolding plus
  plus-top {f} {g} {n} {m} s t h = record {
    at = ap₂ ◌⊕◌ s.at (t.above n h) ∙ add-zero L _;
    above = λ k l. ap₂ ◌⊕◌ (s.above k l) (t.above k (omega arith)) ∙ zero-add 0#;
  }

  -- a list is 0 or has a leading coefficient
  Led : List K → Type 0
  Led p = (n : ℕ) × (c : K) × (c ≢ 0#) × Top F (coef F p) n c

  -- a list is 0 or has a leading coefficient
  pub top? : (p : List K) → (coef F p ≡ nought F) ⊎ ((n : ℕ) × (c : K) × (c ≢ 0#) × Top F (coef F p) n c)
  unfolding Led starting_with
  top? [] = inl refl
  top? (c ∷ p) = go (top? p) (zero? L c)
    where
      go : (coef F p ≡ nought F) ⊎ Led p → (c ≡ 0#) ⊎ (c ≢ 0#) → (coef F (c ∷ p) ≡ nought F) ⊎ Led (c ∷ p)
      go (inr t) d = inr (suc t.0, t.1, t.2, record { at = t.3.at; above = elim [ zero ↦ λ h. absurd (not-suc-le-zero h) | suc k ↦ λ h. t.3.above k (le_of_suc-le-suc h) ] })
      go (inl e) (inl z) = inl (coef-cons L c p ∙ fun_ext (elim [ zero ↦ z | suc k ↦ ap (λ f. f k) e ]))
      go (inl e) (inr h) = inr (zero, c, h, record { at = refl; above = elim [ zero ↦ λ l. absurd (not-suc-le-zero l) | suc k ↦ λ l. ap (λ f. f k) e ] })

  -- the quotient by a monic polynomial has the rest of the degree, and the same leading coefficient
  pub quotient-top : {d f : Series K} {n m : ℕ} {b : K} (e : List K) → Monic F d n → d ⊠ coef F e ≡ f → Top F f m b → b ≢ 0#
      → (j : ℕ) × (n + j ≡ m) × Top F (coef F e) j b
  unfolding Led
  quotient-top {d} {f} {n} {m} {b} e s q t h = go (top? e)
    where
      go : (coef F e ≡ nought F) ⊎ Led e → (j : ℕ) × (n + j ≡ m) × Top F (coef F e) j b
      go (inl z) = absurd (h (sym t.at ∙ ap (λ w. w m) (sym q ∙ ap (λ w. d ⊠ w) z ∙ times-nought L d)))
      go (inr v) =
          let u : Top F f (n + v.0) v.1 = subst (λ w. Top F w (n + v.0) v.1) q (rw one-mul at (top-times s v.3)) in
          let down : n + v.0 ≤ m = degree-le (λ z. v.2 (sym u.at ∙ z)) t in
          let up : m ≤ n + v.0 = degree-le (λ z. h (sym t.at ∙ z)) u in
          let fits : n + v.0 ≡ m = omega arith in
          (v.0, fits, subst (λ w. Top F (coef F e) v.0 w) (sym u.at ∙ ap f fits ∙ t.at) v.3)

  -- a monic factor cancels
  pub monic-cancel : {d : Series K} {n : ℕ} (p q : List K) → Monic F d n → d ⊠ coef F p ≡ d ⊠ coef F q → coef F p ≡ coef F q
  unfolding Led
  monic-cancel {d} {n} p q s e =
      let sum : coef F (add F p q) ≡ coef F p ⊞ coef F q = coef-add L p q in
      let none : d ⊠ coef F (add F p q) ≡ nought F =
      ap (λ w. d ⊠ w) sum ∙ times-plus L d (coef F p) (coef F q) ∙ ap (λ w. w ⊞ d ⊠ coef F q) e ∙ plus-self L (d ⊠ coef F q) in
      equal-of-plus L (coef F p) (coef F q) (sym sum ∙ go (add F p q) none (top? (add F p q)))
    where
      go : (r : List K) → d ⊠ coef F r ≡ nought F → (coef F r ≡ nought F) ⊎ Led r → coef F r ≡ nought F
      go r z (inl h) = h
      go r z (inr v) = absurd (v.2 (sym (one-mul v.1) ∙ sym (top-times s v.3).at ∙ ap (λ w. w (n + v.0)) z))

  -- the list that holds a monic polynomial
  pub monic-list : (p : List K) → Monic F (coef F (p ++ 1# ∷ [])) (length p)
  monic-list p = record { at = get_or-append_seam p 1# [] 0#; above = λ k h. get_or-eq_default (p ++ 1# ∷ []) 0# (omega (arith, length-append p (1# ∷ []))) }

  -- lists that hold monic polynomials are equal where the polynomials are
  pub monic-equal : (p q : List K) → coef F (monic F p) ≡ coef F (monic F q) → p ≡ q
  monic-equal p q e =
      let a : length p ≤ length q = degree-le (λ z. one≢zero (sym (monic-list p).at ∙ ap (λ f. f (length p)) e ∙ z)) (monic-list q) in
      let b : length q ≤ length p = degree-le (λ z. one≢zero (sym (monic-list q).at ∙ ap (λ f. f (length q)) (sym e) ∙ z)) (monic-list p) in
      ext_get_or 0# p q (omega arith)
      (λ i h. sym (get_or-append p (1# ∷ []) 0# i h) ∙ ap (λ f. f i) e ∙ get_or-append q (1# ∷ []) 0# i (omega arith))

  -- a list whose polynomial is monic of degree n begins with the n coefficients below the 1
  cut_at : (n : ℕ) (l : List K) → coef F l n ≡ 1# → ((k : ℕ) → n < k → coef F l k ≡ 0#) → (k : ℕ) → coef F (monic F (take n l)) k ≡ coef F l k
  cut_at zero [] e v k = absurd (one≢zero (sym e))
  cut_at (suc n) [] e v k = absurd (one≢zero (sym e))
  cut_at zero (c ∷ l) e v zero = sym e
  cut_at zero (c ∷ l) e v (suc k) = sym (v (suc k) (omega arith))
  cut_at (suc n) (c ∷ l) e v zero = refl
  cut_at (suc n) (c ∷ l) e v (suc k) = cut_at n l e (λ j h. v (suc j) (omega arith)) k

  -- a list whose polynomial is monic of degree n begins with the n coefficients below the 1
  pub cut-monic : (l : List K) (n : ℕ) → Monic F (coef F l) n → coef F (monic F (take n l)) ≡ coef F l
  cut-monic l n t = fun_ext (cut_at n l t.at t.above)
