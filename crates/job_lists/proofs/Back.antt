-- A line that is written in decimal is read back.
--   word_back      the digits of a number spell it
--   words_back     the numbers of a line of numbers with a space between are these, each as it counts
--   legible-back   such a line is legible
--   capped-back    numbers of 16 bits count as they are
--   numbers-back   A LINE OF 16-BIT NUMBERS, no more than count, HAS THESE NUMBERS
--   job-back       THE LINE OF A JOB ASKS FOR ITS RECORD: what the writer answers to its field, cutoff and roots
--   line-alone     a legible line before a line feed ends there
-- Assumes nothing.
use mathlib.Core.Path.{◌≡◌, refl, sym, ap, ap₂, ◌∙◌}
use mathlib.Core.Bool.{Bool, true, false, cond, ◌&&◌, true≢false}
use mathlib.Core.List.{List, [], ◌∷◌, ◌++◌, map, append_assoc}
use Rattle.std.specs.Prelude.{Option, Some, None}
use Prim.Native.Nat.{ℕ, suc, ◌+◌, ◌-◌, ◌*◌, ◌/◌, ◌%◌, ◌≤◌, ◌<◌}
use native.Mathlib.Nat.{div-add-mod'}
use native.Mathlib.Omega.{arith}
use borrow.Author.Tests.{le-leb, ltb-false, eqb-true}
use lib.Dec.{eqb, ltb}
use lib.ListN.{length, take}
use lib.Seq.{take_all}
use Rattle.algebra.specs.Polynomial.{Below}
use Rattle.job_text.specs.Lines.{digit_byte, line_feed, decimal, spaced}
use Rattle.job_text.proofs.Digits.{DigitBytes, by-tenths, decimal-digits}
use Rattle.job_text.proofs.Digits.DigitBytes.{one}
use Rattle.input.specs.Limit.{limit}
use Rattle.job_writer.specs.Calls.{Writes}
use Rattle.std.specs.Prelude.{Result}
use Rattle.refusals.specs.declared.Refusal.{Refusal}
use Rattle.job_lists.specs.Calls.{Lists}
use Rattle.job_lists.specs.Calls.Lists.{asks}
use Rattle.job_lists.specs.declared.Listed.TheVariants.{Answer}
use Rattle.job_lists.specs.Lines.{is_digit, is_blank, is_legible, line_length, legible, highest_number}
use Rattle.job_lists.specs.Lines.{capped, so_far, numbers_from, most_numbers, numbers_of}

digit-is : (d : ℕ) → d < 10 → is_digit (digit_byte d) ≡ true
unfolding is_digit
digit-is d h =
    ap₂ (λ x y. x && y) (le-leb (digit_byte 0) (digit_byte d) (omega arith)) (le-leb (digit_byte d) (digit_byte 9) (omega arith))

-- a digit makes the word longer
digit-on : (w : Option ℕ) (d n : ℕ) (rest : List ℕ) → d < 10 → so_far w * 10 + d ≡ n
    → numbers_from w (digit_byte d ∷ rest) ≡ numbers_from (Some n) rest
unfolding numbers_from
digit-on w d n rest h e =
    let z : so_far w * 10 + (digit_byte d - digit_byte 0) ≡ n = omega arith in
    rw (digit-is d h) (ap (λ k. numbers_from (Some k) rest) z)

word_back : (x : ℕ) (rest : List ℕ) → numbers_from None (decimal x ++ rest) ≡ numbers_from (Some x) rest
word_back = by-tenths (λ x l. (rest : List ℕ) → numbers_from None (l ++ rest) ≡ numbers_from (Some x) rest)
    (λ x h rest. digit-on None x x rest h (omega arith))
    (λ x h p rest. ap (numbers_from None) (append_assoc (decimal (x / 10)) (digit_byte (x % 10) ∷ []) rest)
    ∙ p (digit_byte (x % 10) ∷ rest) ∙ digit-on (Some (x / 10)) (x % 10) x rest (omega arith) (div-add-mod' x 10))

-- behind a number that stands open
spaced-back : (x : ℕ) (xs : List ℕ) → numbers_from (Some x) (spaced xs) ≡ map capped (x ∷ xs)
unfolding is_digit numbers_from spaced
spaced-back x [] = refl
spaced-back x (y ∷ ys) = ap (λ l. capped x ∷ l) (word_back y (spaced ys) ∙ spaced-back y ys)

pub words_back : (x : ℕ) (xs : List ℕ) → numbers_from None (decimal x ++ spaced xs) ≡ map capped (x ∷ xs)
words_back x xs = word_back x (spaced xs) ∙ spaced-back x xs

-- ---- legible

digits-legible : {l : List ℕ} (rest : List ℕ) → DigitBytes l → legible (l ++ rest) ≡ legible rest
unfolding legible
digits-legible rest DigitBytes.none = refl
digits-legible rest (one {d = d} h p) = rw (digit-is d h) (digits-legible rest p)

spaced-legible : (xs : List ℕ) → legible (spaced xs) ≡ true
unfolding is_digit is_blank legible spaced
spaced-legible [] = refl
spaced-legible (x ∷ xs) = digits-legible (spaced xs) (decimal-digits x) ∙ spaced-legible xs

legible-back : (x : ℕ) (xs : List ℕ) → legible (decimal x ++ spaced xs) ≡ true
legible-back x xs = digits-legible (spaced xs) (decimal-digits x) ∙ spaced-legible xs

-- ---- numbers of 16 bits

capped-id : (n : ℕ) → n < suc highest_number → capped n ≡ n
unfolding capped
capped-id n h = go (ltb n highest_number) refl
  where
    go : (b : Bool) → ltb n highest_number ≡ b → cond b n highest_number ≡ n
    go true e = refl
    go false e = let l = ltb-false n highest_number e in omega arith

capped-back : (l : List ℕ) → Below (suc highest_number) l → map capped l ≡ l
capped-back [] b = refl
capped-back (x ∷ l) b = ap₂ (λ y s. y ∷ s) (capped-id x b.0) (capped-back l b.1)

numbers-back : (x : ℕ) (xs : List ℕ) → Below (suc highest_number) (x ∷ xs) → length (x ∷ xs) ≤ most_numbers
    → numbers_of (decimal x ++ spaced xs) ≡ x ∷ xs
numbers-back x xs b h =
    ap (take most_numbers) (words_back x xs ∙ capped-back (x ∷ xs) b) ∙ take_all most_numbers (x ∷ xs) h

pub job-back : (m c : ℕ) (roots : List ℕ) {room : List ℕ} {r : Result ℕ Refusal} {after : List ℕ} → Below (suc highest_number) (m ∷ c ∷ roots)
    → length roots ≤ suc limit → Writes m c roots room r after → Lists (decimal m ++ spaced (c ∷ roots)) room (Answer r) after
job-back m c roots b h w = asks (legible-back m (c ∷ roots)) (numbers-back m (c ∷ roots) b (omega arith)) w

-- ---- its end

-- what holds of two holds of the second
second : (x y : Bool) → (x && y) ≡ true → y ≡ true
second true y h = h
second false y h = absurd (true≢false (sym h))

line-alone : (line rest : List ℕ) → legible line ≡ true → line_length (line ++ (line_feed ∷ rest)) ≡ length line
unfolding is_digit is_blank legible line_length
line-alone [] rest h = refl
line-alone (b ∷ l) rest h = go (eqb b line_feed) refl (line-alone l rest (second (is_legible b) (legible l) h))
  where
    go : (t : Bool) → eqb b line_feed ≡ t → line_length (l ++ (line_feed ∷ rest)) ≡ length l
        → cond t 0 (suc (line_length (l ++ (line_feed ∷ rest)))) ≡ suc (length l)
    go true e k = absurd (true≢false (sym h ∙ ap (λ x. is_legible x && legible l) (eqb-true b line_feed e)))
    go false e k = ap suc k
