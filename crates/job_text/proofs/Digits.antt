-- Laws of the decimal digits.
--   decimal-small, decimal-large   one digit below ten; else those of a tenth and one more
--   by-tenths        what holds of one digit, and with a digit more, holds of the digits of every number
--   decimal-short    a number below a power of ten has no more digits than the power says
--   decimal-digits   each is a digit
--   decimal-lead     a number above 0 does not begin with a 0;  0 has the one digit 0 by `decimal-small`
--   spell            the number that digits spell;  decimal-value: a number's digits spell it;  decimal-once: so two
--                    numbers have not the same
-- Assumes nothing.
use mathlib.Core.Path.{◌≡◌, refl, sym, ap, ◌∙◌}
use mathlib.Core.List.{List, [], ◌∷◌, ◌++◌}
use Prim.Native.Nat.{ℕ, zero, suc, ◌+◌, ◌*◌, ◌/◌, ◌%◌, ◌^◌, ◌≤◌, ◌<◌, ◌-◌}
use native.Mathlib.Nat.{div-add-mod', pow-suc}
use native.Mathlib.Omega.{arith}
use borrow.Author.Tests.{lt-ltb, le-ltb, ltb-true, ltb-false}
use lib.ListN.{length, get_or, length-append, get_or-append}
use mathlib.Core.Bool.{Bool, true, false, cond}
use mathlib.Core.Logic.{◌⊎◌, inl, inr, ⊎_elim}
use lib.Dec.{ltb}
use Rattle.job_text.specs.Lines.{digit_byte, decimal_in, decimal}

-- ---- the tenth

-- a number is below a bound, or at least it
less-or : (x n : ℕ) → (x < n) ⊎ (n ≤ x)
less-or x n = go (ltb x n) refl
  where
    go : (b : Bool) → ltb x n ≡ b → (x < n) ⊎ (n ≤ x)
    go true e = inl (ltb-true x n e)
    go false e = inr (ltb-false x n e)

-- a tenth is below a tenth of the bound
tenth : (n x : ℕ) → x < 10 ^ suc (suc n) → x / 10 < 10 ^ suc n
tenth n x h = let p : x < 10 ^ suc n * 10 = rw pow-suc at h in omega arith

-- more divisions than are needed change nothing
enough : (n m x : ℕ) → x ≤ n → x ≤ m → decimal_in n x ≡ decimal_in m x
unfolding decimal_in
enough zero zero x h k = refl
enough zero (suc m) x h k = rw (lt-ltb x 10 (omega arith))
enough (suc n) zero x h k = rw (lt-ltb x 10 (omega arith))
enough (suc n) (suc m) x h k = ap (λ l. cond (ltb x 10) (digit_byte x ∷ []) (l ++ (digit_byte (x % 10) ∷ []))) (enough n m (x / 10) (omega arith) (omega arith))

pub decimal-small : (x : ℕ) → x < 10 → decimal x ≡ digit_byte x ∷ []
unfolding decimal decimal_in
decimal-small zero h = refl
decimal-small (suc x) h = rw (lt-ltb (suc x) 10 h)

pub decimal-large : (x : ℕ) → 10 ≤ x → decimal x ≡ decimal (x / 10) ++ (digit_byte (x % 10) ∷ [])
unfolding decimal decimal_in
decimal-large zero h = absurd (omega arith)
decimal-large (suc x) h =
    rw (le-ltb (suc x) 10 h) (ap (λ l. l ++ (digit_byte (suc x % 10) ∷ [])) (enough x (suc x / 10) (suc x / 10) (omega arith) (omega arith)))

-- what holds of one digit, and of a tenth's digits with one more, holds of all
module _ (P : ℕ → List ℕ → Type 0) (small : (x : ℕ) → x < 10 → P x (digit_byte x ∷ []))
    (large : (x : ℕ) → 10 ≤ x → P (x / 10) (decimal (x / 10)) → P x (decimal (x / 10) ++ (digit_byte (x % 10) ∷ []))) where
  by-bound : (n x : ℕ) → x ≤ n → P x (decimal x)
  by-bound zero x h = rw (decimal-small x (omega arith)) (small x (omega arith))
  by-bound (suc n) x h =
      ⊎_elim
      (λ l. rw (decimal-small x l) (small x l))
      (λ l. rw (decimal-large x l) (large x l (by-bound n (x / 10) (omega arith))))
      (less-or x 10)

  pub by-tenths : (x : ℕ) → P x (decimal x)
  by-tenths x = by-bound x x (omega arith)

-- ---- how many

pub decimal-short : (n x : ℕ) → x < 10 ^ suc n → length (decimal x) ≤ suc n
decimal-short zero x h = rw (decimal-small x h) (omega arith)
decimal-short (suc n) x h =
    ⊎_elim
    (λ l. rw (decimal-small x l) (omega arith))
    (λ l. rw (decimal-large x l, length-append) (omega (arith, decimal-short n (x / 10) (tenth n x h))))
    (less-or x 10)

pub decimal-long : (x : ℕ) → 1 ≤ length (decimal x)
decimal-long = by-tenths (λ x l. 1 ≤ length l) (λ x h. omega arith) (λ x h p. rw length-append (omega arith))

-- ---- which

pub data DigitBytes : List ℕ → Type 0 where
  none : DigitBytes []
  one : {d : ℕ} {l : List ℕ} → d < 10 → DigitBytes l → DigitBytes (digit_byte d ∷ l)

digits_append : {s t : List ℕ} → DigitBytes s → DigitBytes t → DigitBytes (s ++ t)
digits_append none q = q
digits_append (one h p) q = one h (digits_append p q)

pub decimal-digits : (x : ℕ) → DigitBytes (decimal x)
decimal-digits = by-tenths (λ x l. DigitBytes l) (λ x h. one h none) (λ x h p. digits_append p (one (omega arith) none))

pub decimal-lead : (x : ℕ) → 0 < x → digit_byte 0 < get_or (decimal x) 0 0
decimal-lead = by-tenths (λ x l. 0 < x → digit_byte 0 < get_or l 0 0) (λ x h p. omega arith)
    (λ x h p q. rw (get_or-append (decimal (x / 10)) (digit_byte (x % 10) ∷ []) 0 0 (decimal-long (x / 10))) (p (omega arith)))

-- ---- what they spell

-- digit after digit, the highest first, behind what was read before
pub spell : ℕ → List ℕ → ℕ
spell n [] = n
spell n (b ∷ l) = spell (n * 10 + (b - digit_byte 0)) l

spell-append : (n : ℕ) (s t : List ℕ) → spell n (s ++ t) ≡ spell (spell n s) t
unfolding spell
spell-append n [] t = refl
spell-append n (b ∷ s) t = spell-append (n * 10 + (b - digit_byte 0)) s t

pub decimal-value : (x : ℕ) → spell 0 (decimal x) ≡ x
unfolding spell
decimal-value = by-tenths (λ x l. spell 0 l ≡ x) (λ x h. omega arith)
    (λ x h p. spell-append 0 (decimal (x / 10)) _ ∙ rw p (omega (arith, div-add-mod' x 10)))

pub decimal-once : (x y : ℕ) → decimal x ≡ decimal y → x ≡ y
decimal-once x y e = sym (decimal-value x) ∙ ap (spell 0) e ∙ decimal-value y
