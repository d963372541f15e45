-- The numbers of a line, byte by byte.
--   digit-least    a digit is at least the first
--   capped-again   what is cut off at the highest number may be cut off before another digit comes
--   grow_word      a word grows by a digit;  grown-held  as its number does
--   close-none, close_more, close-full   no word stands open; its number is put; there is no place for it
--   Taking         the numbers of the words before a place are in the list;  take-from, take-digit, take-blank,
--                  take-end
-- Assumes nothing.
use mathlib.Core.Path.{◌≡◌, refl, sym, ap, ap₂, ◌∙◌}
use mathlib.Core.Bool.{Bool, true, false, cond, ◌&&◌, true≢false}
use mathlib.Core.List.{List, [], ◌∷◌, ◌++◌, append-nil, append_assoc}
use Rattle.std.specs.Prelude.{Option, Some, None}
use Rattle.std.specs.Option.{unwrap_or}
use Prim.Native.Nat.{ℕ, zero, suc, ◌+◌, ◌-◌, ◌*◌, ◌≤◌, ◌<◌, min}
use native.Mathlib.Nat.{sub-zero, suc-sub-suc}
use native.Mathlib.Numerals.{add-one}
use native.Mathlib.Omega.{arith}
use borrow.Author.Tests.{ltb-true, ltb-false, leb-true}
use lib.Dec.{ltb, leb}
use lib.ListN.{length, get_or, take, drop, drop_of_length-le}
use lib.Seq.{drop-cons, take_all, take-nil}
use Rattle.job_text.specs.Lines.{digit_byte}
use Rattle.job_lists.specs.Lines.{is_digit, highest_number, capped, longer, word_numbers, numbers_from}
use Rattle.job_lists.specs.Lines.{most_numbers, numbers_of}
use Rattle.job_lists.specs.Words.{held_word, held_number, grown_word, held_list}

-- ---- a word

pub digit-least : (b : ℕ) → is_digit b ≡ true → digit_byte 0 ≤ b
unfolding is_digit
digit-least b = go (leb (digit_byte 0) b) refl
  where
    go : (x : Bool) → leb (digit_byte 0) b ≡ x → (x && leb b (digit_byte 9)) ≡ true → digit_byte 0 ≤ b
    go true p q = leb-true (digit_byte 0) b p
    go false p q = absurd (true≢false (sym q))

capped-min : (n : ℕ) → capped n ≡ min n highest_number
unfolding capped
capped-min n = go (ltb n highest_number) refl
  where
    go : (b : Bool) → ltb n highest_number ≡ b → cond b n highest_number ≡ min n highest_number
    go true e = let h = ltb-true n highest_number e in omega arith
    go false e = let h = ltb-false n highest_number e in omega arith

capped-again : (n d : ℕ) → capped (capped n * 10 + d) ≡ capped (n * 10 + d)
capped-again n d =
    let a = capped-min n in
    let b = capped-min (capped n * 10 + d) in
    let c = capped-min (n * 10 + d) in
    omega arith

-- the number that is held, or 0
pub held-is : (w : Option ℕ) → unwrap_or w 0 ≡ held_number w
held-is None = refl
held-is (Some n) = refl

-- a word grows by a digit
pub grow_word : (w : Option ℕ) (b d : ℕ) {n t s : ℕ} → n ≡ held_number w → d ≡ b - digit_byte 0 → t ≡ min (n * 10) highest_number → s ≡ min (t + d) highest_number
    → Some s ≡ grown_word w b
grow_word w b d {n} {t} {s} h e f g =
    let c = capped-min (held_number w * 10 + (b - digit_byte 0)) in
    let same : s ≡ capped (held_number w * 10 + (b - digit_byte 0)) = omega arith in
    ap Some same

grown-held : (w : Option ℕ) (b : ℕ) → grown_word (held_word w) b ≡ held_word (longer w b)
grown-held None b = refl
grown-held (Some n) b = ap Some (capped-again n _)

held-list : (w : Option ℕ) → held_list (held_word w) ≡ word_numbers w
held-list None = refl
held-list (Some n) = refl

-- ---- `close`

module _ (list : List ℕ) where
  pub close-none : {word : Option ℕ} → word ≡ None → list ≡ list ++ take (most_numbers - length list) (held_list word)
  close-none e =
      sym (ap (λ w. list ++ take (most_numbers - length list) (held_list w)) e ∙ ap (λ l. list ++ l) (take-nil {A = ℕ} (most_numbers - length list)) ∙ append-nil list)

  pub close_more : {word : Option ℕ} {x : ℕ} → word ≡ Some x → length list < most_numbers
      → list ++ (x ∷ []) ≡ list ++ take (most_numbers - length list) (held_list word)
  close_more {x = x} e h =
      sym (ap (λ w. list ++ take (most_numbers - length list) (held_list w)) e ∙ ap (λ l. list ++ l) (take_all (most_numbers - length list) (x ∷ []) (omega arith)))

  pub close-full : (word : Option ℕ) → most_numbers ≤ length list → list ≡ list ++ take (most_numbers - length list) (held_list word)
  close-full word h =
      let z : most_numbers - length list ≡ 0 = omega arith in
      rw z (sym (append-nil list))

-- ---- `numbers`

-- the numbers of the words before a place, as many as count, are in the list
pub record Taking (line list : List ℕ) (word : Option ℕ) (i : ℕ) : Type 0 where
  pub done : List ℕ
  pub spelt : Option ℕ
  pub within : i ≤ length line
  pub put : list ≡ take most_numbers done
  pub held : word ≡ held_word spelt
  pub ahead : done ++ numbers_from spelt (drop i line) ≡ numbers_from None line

pub take-from : (line : List ℕ) → Taking line [] None 0
take-from line = record { done = []; spelt = None; within = omega arith; put = refl; held = refl; ahead = refl }

-- by other names for the same
pub take_same : {line list list' : List ℕ} {word word' : Option ℕ} {i : ℕ} → Taking line list word i → list' ≡ list → word' ≡ word → Taking line list' word' i
take_same t a b = rw (a, b) t

-- the first k of two lists are those of the first and as many of the second as are left
take-over : (k : ℕ) (a b : List ℕ) → take k a ++ take (k - length (take k a)) b ≡ take k (a ++ b)
take-over zero a b = refl
take-over (suc k) [] b = rw sub-zero
take-over (suc k) (x ∷ a) b = ap (λ l. x ∷ l) (rw suc-sub-suc (take-over k a b))

-- the numbers of a byte and others behind it, by whether it is a digit
abbrev behind : Option ℕ → ℕ → List ℕ → Bool → List ℕ
behind w b bs digit = cond digit (numbers_from (longer w b) bs) (word_numbers w ++ numbers_from None bs)

module _ {line list : List ℕ} {word : Option ℕ} {i : ℕ} (t : Taking line list word i) where
  -- the word that stands open is closed
  closed : {list' : List ℕ} → list' ≡ list ++ take (most_numbers - length list) (held_list word)
      → list' ≡ take most_numbers (t.done ++ word_numbers t.spelt)
  closed w =
      let l : held_list word ≡ word_numbers t.spelt = ap held_list t.held ∙ held-list t.spelt in
      w ∙ ap₂ (λ x y. x ++ take (most_numbers - length x) y) t.put l ∙ take-over most_numbers t.done (word_numbers t.spelt)

  -- by what stands at the place
  next : i < length line → {b : Bool} → is_digit (get_or line i 0) ≡ b
      → t.done ++ behind t.spelt (get_or line i 0) (drop (i + 1) line) b ≡ numbers_from None line
  unfolding numbers_from
  next h {b} e =
      let d : drop i line ≡ get_or line i 0 ∷ drop (i + 1) line = rw add-one (drop-cons line i 0 h) in
      ap (λ x. t.done ++ x)
      (sym (ap (numbers_from t.spelt) d ∙ ap (behind t.spelt (get_or line i 0) (drop (i + 1) line)) e))
      ∙ t.ahead

  pub take-digit : i < length line → is_digit (get_or line i 0) ≡ true → Taking line list (grown_word word (get_or line i 0)) (i + 1)
  take-digit h e = record {
    done = t.done;
    spelt = longer t.spelt (get_or line i 0);
    within = omega arith;
    put = t.put;
    held = ap (λ w. grown_word w (get_or line i 0)) t.held ∙ grown-held t.spelt (get_or line i 0);
    ahead = next h e;
  }

  pub take-blank : {list' : List ℕ} → i < length line → is_digit (get_or line i 0) ≡ false
      → list' ≡ list ++ take (most_numbers - length list) (held_list word) → Taking line list' None (i + 1)
  take-blank h e w = record {
    done = t.done ++ word_numbers t.spelt;
    spelt = None;
    within = omega arith;
    put = closed w;
    held = refl;
    ahead = append_assoc t.done (word_numbers t.spelt) (numbers_from None (drop (i + 1) line)) ∙ next h e;
  }

  pub take-end : {list' : List ℕ} → length line ≤ i → list' ≡ list ++ take (most_numbers - length list) (held_list word) → list' ≡ numbers_of line
  unfolding numbers_from
  take-end h w =
      let all : t.done ++ word_numbers t.spelt ≡ numbers_from None line =
      ap (λ l. t.done ++ numbers_from t.spelt l) (sym (drop_of_length-le line h)) ∙ t.ahead in
      closed w ∙ ap (take most_numbers) all
