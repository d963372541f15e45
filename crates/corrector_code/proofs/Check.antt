-- What is checked before a bit is flipped: the power sums of what was found are the odd syndromes. The even ones
-- follow by squares.
--   value-square      the value of a word at x^2 is the square of its value at x;  syndrome-square  so of a syndrome
--   codeword-odd      a word that is zero at a, a^3, .., a^(2t-1) is a codeword
--   check-right       w with the places of f flipped is a codeword where the odd power sums of f are the syndromes of
--                     w
--   mirrored          where a^n = 1, the inverse of a^j is a^(n-j)
-- Assumes nothing.
use mathlib.Core.Path.{◌≡◌, sym, ap, ap₂, ◌∙◌}
use mathlib.Core.Logic.{◌≢◌, ⊎_elim}
use mathlib.Core.Bool.{Bool, true, false}
use mathlib.Core.List.{List, [], ◌∷◌}
use Prim.Native.Nat.{ℕ, zero, suc, ◌+◌, ◌-◌, ◌*◌, ◌≤◌, ◌<◌}
use native.Mathlib.Omega.{arith}
use Rattle.algebra.specs.Field.{Ops, Laws, power}
use Rattle.algebra.specs.Polynomial.{eval}
use Rattle.algebra.proofs.Elements as E
use Rattle.corrector_code.specs.Word.{difference, bit, total, word_value, Codeword, locators}
use Rattle.corrector_code.proofs.Odd.{half}
use Rattle.corrector_code.proofs.Sums as Y
use Rattle.corrector_code.proofs.Words as X
use Rattle.corrector_code.proofs.Locate as O

module _ {K : Type 0} {F : Ops K} (L : Laws F) where
  infixl 60 ◌⊕◌
  infixl 70 ◌⊗◌
  open F use {zero as 0#, one as 1#, add as ◌⊕◌, mul as ◌⊗◌}
  open L use {add_comm, add_assoc, zero-add, add-self, mul_comm, mul_assoc, one-mul, mul-add, mul-inv}

  bit-square : (b : Bool) → bit F b ⊗ bit F b ≡ bit F b
  bit-square true = one-mul 1#
  bit-square false = E.mul-zero L 0#

  -- (x + y)^2 = x^2 + y^2
  sum-square : (x y : K) → (x ⊕ y) ⊗ (x ⊕ y) ≡ x ⊗ x ⊕ y ⊗ y
  sum-square x y =
      E.add-mul L x y (x ⊕ y) ∙ ap₂ ◌⊕◌ (mul-add x x y) (mul-add y x y ∙ ap (λ w. w ⊕ y ⊗ y) (mul_comm y x))
      ∙ add_assoc (x ⊗ x) (x ⊗ y) (x ⊗ y ⊕ y ⊗ y) ∙ ap (λ w. x ⊗ x ⊕ w) (E.add_back L (x ⊗ y) (y ⊗ y))

  -- the value of a word at x^2 is the square of its value at x
  pub value-square : (w : List Bool) (x : K) → word_value F w (x ⊗ x) ≡ word_value F w x ⊗ word_value F w x
  unfolding eval
  value-square [] x = sym (E.mul-zero L 0#)
  value-square (b ∷ w) x =
      ap₂ ◌⊕◌ (sym (bit-square b)) (ap (λ v. x ⊗ x ⊗ v) (value-square w x) ∙ simp (mul_assoc, E.mul_left_comm L))
      ∙ sym (sum-square (bit F b) (x ⊗ word_value F w x))

  pow-double : (a : K) (i : ℕ) → power F a (2 * i) ≡ power F a i ⊗ power F a i
  pow-double a i = let e : 2 * i ≡ i + i = omega arith in ap (power F a) e ∙ O.pow-plus L a i i

  -- an even syndrome is a square
  pub syndrome-square : (w : List Bool) (a : K) (i : ℕ) → word_value F w (power F a (2 * i)) ≡ word_value F w (power F a i) ⊗ word_value F w (power F a i)
  syndrome-square w a i = ap (word_value F w) (pow-double a i) ∙ value-square w (power F a i)

  -- a word that is zero at a, a^3, .., a^(2t-1) is a codeword
  pub codeword-odd : (a : K) (t : ℕ) (w : List Bool) → ((i : ℕ) → i < t → word_value F w (power F a (suc (2 * i))) ≡ 0#) → Codeword F a t w
  codeword-odd a t w h n p q = go n n (omega arith) p q
    where
      go : (f n : ℕ) → n ≤ f → 0 < n → n ≤ 2 * t → word_value F w (power F a n) ≡ 0#
      go zero n l p q = absurd (omega arith)
      go (suc f) n l p q =
          ⊎_elim (λ e. ap (λ k. word_value F w (power F a k)) e.1 ∙ syndrome-square w a e.0
          ∙ ap (λ v. v ⊗ v) (go f e.0 (omega (arith, e.1)) (omega (arith, e.1)) (omega (arith, e.1))) ∙ E.mul-zero L 0#)
          (λ e. ap (λ k. word_value F w (power F a k)) e.1 ∙ h e.0 (omega (arith, e.1))) (half n)

  -- THE CHECK: w with the places of f flipped is a codeword where the odd power sums of f's locators are the odd
  -- syndromes of w
  pub check-right : (a : K) (t : ℕ) (w f : List Bool) → ((i : ℕ) → i < t → total F (λ x. power F x (suc (2 * i))) (locators F a f) ≡ word_value F w (power F a (suc (2 * i))))
      → Codeword F a t (difference w f)
  check-right a t w f h =
      codeword-odd a t (difference w f)
      (λ i l. X.value-difference L w f (power F a (suc (2 * i))) ∙ ap₂ ◌⊕◌ (sym (h i l)) (X.value-sum L a (suc (2 * i)) f) ∙ add-self _)

  -- MIRRORED POSITIONS: where a^n = 1, the inverse of a^j is a^(n-j)
  pub mirrored : (a : K) (n j : ℕ) → a ≢ 0# → power F a n ≡ 1# → j ≤ n → F.inv (power F a j) ≡ power F a (n - j)
  mirrored a n j h e l =
      let x : K = power F a j in
      let y : K = power F a (n - j) in
      let s : j + (n - j) ≡ n = omega arith in
      let one : x ⊗ y ≡ 1# = sym (O.pow-plus L a j (n - j)) ∙ ap (power F a) s ∙ e in
      sym (Y.times-one L (F.inv x)) ∙ ap (λ v. F.inv x ⊗ v) (sym one) ∙ sym (mul_assoc (F.inv x) x y)
      ∙ ap (λ v. v ⊗ y) (mul_comm (F.inv x) x ∙ mul-inv x (X.pow-nonzero L a j h)) ∙ one-mul y
