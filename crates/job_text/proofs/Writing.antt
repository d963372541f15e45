-- Texts put one behind the other.
--   wrote-byte     a byte that is stored in lent memory is a text of one;  wrote-part  bytes that are copied into it
--   wrote_then     a text, and then another behind it, are both
--   wrote_nothing  no text changes nothing;  wrote-long  nothing gets longer
--   decimal-same   the digits that std's numbers have are those of `decimal`
--   five-digits, ten-digits, twenty-digits   how many digits numbers of 16, 32 and 64 bits have at most
--   spaced-append, spaced-one       numbers one behind the other, and a number behind a space;  spaced-six, spaced-long,
--                                   spaced-short, spaced-wide: how long they are
--   begun          a text with nothing before it;  longer  how long a text is with another behind it
--   row_from, row_room, row_on, row-all   the first i of numbers stand behind a text
--   line_refused, line-accepted     the line from its parts
-- Assumes nothing.
use mathlib.Core.Path.{◌≡◌, refl, sym, ap, ap₂, ◌∙◌}
use mathlib.Core.List.{List, [], ◌∷◌, ◌++◌, append-nil, append_assoc}
use Prim.Native.Nat.{ℕ, suc, ◌+◌, ◌*◌, ◌-◌, ◌%◌, ◌^◌, ◌≤◌, ◌<◌}
use native.Mathlib.Nat.{add_assoc, add-zero}
use native.Mathlib.Numerals.{add-one}
use native.Mathlib.Omega.{arith}
use Rattle.std.specs.Fmt.{decimal as shown}
use Rattle.std.proofs.lemmas.Fmt.{decimal_by_steps}
use Rattle.std.proofs.lemmas.Slice.{put_mid-paste}
use borrow.Author.Tests.{eq-eqb, ne_eqb}
use borrow.Rule.Slice.PartMut.{put_mid}
use lib.ListN.{length, get_or, take, drop, set, length-append, take-append-drop}
use lib.Seq.{set_split, take-suc, take-length, drop-append-add, drop-drop, length-take-le}
use Rattle.slices.specs.Lists.{pasted}
use Rattle.slices.proofs.Lists.{length-pasted, pasted-front}
use Rattle.job_text.specs.Lines.{digit_byte, space, line_feed, decimal, spaced, line_of, Wrote}
use Rattle.job_text.proofs.Digits.{decimal-short, decimal-small, decimal-large}

-- what is behind a text is as it was
pasted-behind : (at j : ℕ) (w s : List ℕ) → at ≤ length s → drop (at + length w + j) (pasted at w s) ≡ drop (at + length w + j) s
unfolding pasted
pasted-behind at j w s h =
    let n : length (take at s) ≡ at = length-take-le at s h in
    let e : at + length w + j ≡ length (take at s) + (length w + j) = omega arith in
    ap (λ i. drop i (take at s ++ (w ++ drop (at + length w) s))) e
    ∙ drop-append-add (take at s) (w ++ drop (at + length w) s) (length w + j)
    ∙ drop-append-add w (drop (at + length w) s) j
    ∙ drop-drop j (at + length w) s

-- what stands before a text, the text, and what stands behind it
joined-up : (at : ℕ) (v w s : List ℕ) → (take at s ++ v) ++ (w ++ drop (at + length v + length w) s) ≡ pasted at (v ++ w) s
unfolding pasted
joined-up at v w s = rw (length-append, ← add_assoc) (simp append_assoc)

opened : (at : ℕ) (w s : List ℕ) → pasted at w s ≡ take at s ++ (w ++ drop (at + length w) s)
unfolding pasted
opened at w s = refl

-- one text behind the other is both
pasted-then : (at : ℕ) (v w s : List ℕ) → at ≤ length s → pasted (at + length v) w (pasted at v s) ≡ pasted at (v ++ w) s
pasted-then at v w s h =
    opened (at + length v) w (pasted at v s)
    ∙ ap₂ (λ x y. x ++ (w ++ y)) (pasted-front at v s h) (pasted-behind at (length w) v s h)
    ∙ joined-up at v w s

pub wrote-byte : {at b : ℕ} {s : List ℕ} → at + 1 ≤ length s → Wrote (b ∷ []) at s (at + 1) (set s at b)
unfolding pasted
wrote-byte {at} {b} {s} h = record { ended = refl; bytes = set_split s at b (omega arith) ∙ rw add-one }

-- a part that holds w is w written there
pub wrote-part : (at : ℕ) (w s t : List ℕ) → t ≡ w → Wrote w at s (at + length w) (put_mid at (at + length w - at) s t)
unfolding pasted
wrote-part at w s t e = record {
  ended = refl;
  bytes =
      put_mid-paste at (at + length w - at) s t w (length w) e (omega arith) refl
      ∙ ap (λ u. take at s ++ u ++ drop (at + length w) s) (take-length w) ∙ append_assoc (take at s) w (drop (at + length w) s);
}

pub wrote_then : {v w : List ℕ} {at end end' : ℕ} {s s' s'' : List ℕ} → at ≤ length s → Wrote v at s end s' → Wrote w end s' end' s''
    → Wrote (v ++ w) at s end' s''
wrote_then {v} {w} {at} {end} {end'} {s} {s'} {s''} h p q = record {
  ended = q.ended ∙ omega (arith, p.ended, length-append v w);
  bytes = q.bytes ∙ ap₂ (λ i l. pasted i w l) p.ended p.bytes ∙ pasted-then at v w s h;
}

pub wrote-long : {v : List ℕ} {at end : ℕ} {s s' : List ℕ} → at + length v ≤ length s → Wrote v at s end s' → length s' ≡ length s
wrote-long {v} {at} {end} {s} h p = ap length p.bytes ∙ length-pasted at v s h

pub wrote_nothing : {at : ℕ} {s : List ℕ} → Wrote [] at s at s
unfolding pasted
wrote_nothing {at} {s} = record { ended = omega arith; bytes = rw add-zero (sym (take-append-drop at s)) }

-- ---- `decimal`

pub decimal-same : (x : ℕ) → x < 2 ^ 64 → shown x ≡ decimal x
decimal-same =
    decimal_by_steps (λ n ds. ds ≡ decimal n) (λ n h. sym (decimal-small n h))
    (λ n ds h e. ap (λ l. l ++ (digit_byte (n % 10) ∷ [])) e ∙ sym (decimal-large n h))

-- ---- numbers behind a space

pub spaced-append : (xs ys : List ℕ) → spaced (xs ++ ys) ≡ spaced xs ++ spaced ys
unfolding spaced
spaced-append [] ys = refl
spaced-append (x ∷ xs) ys = ap (λ l. space ∷ l) (ap (λ l. decimal x ++ l) (spaced-append xs ys) ∙ sym (append_assoc (decimal x) (spaced xs) (spaced ys)))

pub spaced-one : (x : ℕ) → spaced (x ∷ []) ≡ space ∷ decimal x
unfolding spaced
spaced-one x = ap (λ l. space ∷ l) (append-nil (decimal x))

-- a number of 16 bits has at most 5 digits, one of 32 bits at most 10, and one of 64 bits at most 20
pub five-digits : (x : ℕ) → x < 65536 → length (decimal x) ≤ 5
five-digits x h = decimal-short 4 x (omega arith)

pub ten-digits : (x : ℕ) → x < 4294967296 → length (decimal x) ≤ 10
ten-digits x h = decimal-short 9 x (omega arith)

pub twenty-digits : (x : ℕ) → x < 18446744073709551616 → length (decimal x) ≤ 20
twenty-digits x h = decimal-short 19 x (omega arith)

-- a number of 16 bits takes at most six
pub spaced-six : (x : ℕ) → x < 65536 → length (spaced (x ∷ [])) ≤ 6
spaced-six x h = omega (arith, ap length (spaced-one x), five-digits x h)

-- and one of 64 bits at most 21
pub spaced-long : (x : ℕ) → x < 18446744073709551616 → length (spaced (x ∷ [])) ≤ 21
spaced-long x h = omega (arith, ap length (spaced-one x), twenty-digits x h)

pub spaced-short : (xs : List ℕ) → ((i : ℕ) → i < length xs → get_or xs i 0 < 65536) → length (spaced xs) ≤ 6 * length xs
unfolding spaced
spaced-short [] h = omega arith
spaced-short (x ∷ xs) h =
    let e = length-append (decimal x) (spaced xs) in
    let a = five-digits x (h 0 (omega arith)) in
    let b = spaced-short xs (λ i l. h (suc i) (omega arith)) in
    omega arith

-- numbers of 64 bits have at most 21 each
pub spaced-wide : (xs : List ℕ) → ((i : ℕ) → i < length xs → get_or xs i 0 < 18446744073709551616) → length (spaced xs) ≤ 21 * length xs
unfolding spaced
spaced-wide [] h = omega arith
spaced-wide (x ∷ xs) h =
    let e = length-append (decimal x) (spaced xs) in
    let a = twenty-digits x (h 0 (omega arith)) in
    let b = spaced-wide xs (λ i l. h (suc i) (omega arith)) in
    omega arith

-- ---- one behind the other

-- nothing stands before a text that is begun
pub begun : {text s t : List ℕ} → s ≡ [] → t ≡ s ++ text → t ≡ text
begun {text} n e = e ∙ ap (λ s. s ++ text) n

pub longer : (s t v : List ℕ) → t ≡ s ++ v → length t ≡ length s + length v
longer s t v e = ap length e ∙ length-append s v

-- ---- numbers, one after the other

pub row_from : (s : List ℕ) → s ≡ s ++ spaced []
unfolding spaced
row_from s = sym (append-nil s)

-- those before the i-th, and the i-th
row-next : (xs : List ℕ) (i : ℕ) → i < length xs → spaced (take (i + 1) xs) ≡ spaced (take i xs) ++ spaced (get_or xs i 0 ∷ [])
row-next xs i l = rw (add-one, take-suc xs i 0) (spaced-append (take i xs) (get_or xs i 0 ∷ []))

-- there is room for the next
pub row_room : (s t : List ℕ) {x : ℕ} (xs : List ℕ) (i : ℕ) → t ≡ s ++ spaced (take i xs) → i < length xs → x ≡ get_or xs i 0
    → length t + length (spaced (x ∷ [])) ≤ length s + length (spaced xs)
row_room s t {x} xs i e l same =
    let z = ap (λ x. length (spaced (x ∷ []))) same in
    let a = longer s t _ e in
    let b = longer (spaced (take i xs)) _ _ (row-next xs i l) in
    let d : length (spaced xs) ≡ length (spaced (take (i + 1) xs)) + length (spaced (drop (i + 1) xs)) =
    longer _ _ _ (sym (ap spaced (take-append-drop (i + 1) xs)) ∙ spaced-append (take (i + 1) xs) (drop (i + 1) xs)) in
    omega arith

pub row_on : (s : List ℕ) {t v : List ℕ} {x : ℕ} (xs : List ℕ) (i : ℕ) → t ≡ s ++ spaced (take i xs) → i < length xs → x ≡ get_or xs i 0
    → v ≡ t ++ spaced (x ∷ []) → v ≡ s ++ spaced (take (i + 1) xs)
row_on s xs i e l same f =
    f ∙ ap₂ (λ t x. t ++ spaced (x ∷ [])) e same ∙ append_assoc s (spaced (take i xs)) (spaced (get_or xs i 0 ∷ []))
    ∙ ap (λ t. s ++ t) (sym (row-next xs i l))

-- so all of them do
pub row-all : (s : List ℕ) {t : List ℕ} (xs : List ℕ) (i : ℕ) → t ≡ s ++ spaced (take i xs) → i ≤ length xs → length xs ≤ i → t ≡ s ++ spaced xs
row-all s xs i e h k =
    let same : i ≡ length xs = omega arith in
    e ∙ ap (λ n. s ++ spaced (take n xs)) same ∙ ap (λ l. s ++ spaced l) (take-length xs)

-- ---- `line`

module _ (k outcome steps : ℕ) (roots : List ℕ) {a b e : List ℕ} (p : a ≡ decimal k) (q : b ≡ a ++ spaced (outcome ∷ [])) where
  pub line_refused : (outcome ≡ 0 → ⊥) → e ≡ b ++ (line_feed ∷ []) → e ≡ line_of k outcome steps roots
  line_refused n f =
      f ∙ ap (λ t. t ++ (line_feed ∷ [])) (q ∙ ap (λ t. t ++ spaced (outcome ∷ [])) p)
      ∙ rw (ne_eqb outcome 0 n) (append_assoc (decimal k) (spaced (outcome ∷ [])) (line_feed ∷ []))

  pub line-accepted : {c d f : List ℕ} → outcome ≡ 0 → c ≡ b ++ spaced (length roots ∷ []) → d ≡ c ++ spaced (steps ∷ [])
      → f ≡ d ++ spaced roots → e ≡ f ++ (line_feed ∷ []) → e ≡ line_of k outcome steps roots
  line-accepted z h i j l = let all = parts in all ∙ sym apart
    where
      parts : e ≡ ((((decimal k ++ spaced (outcome ∷ [])) ++ spaced (length roots ∷ [])) ++ spaced (steps ∷ [])) ++ spaced roots) ++ (line_feed ∷ [])
      parts = rw (l, j, i, h, q, p) refl

      apart : line_of k outcome steps roots
          ≡ ((((decimal k ++ spaced (outcome ∷ [])) ++ spaced (length roots ∷ [])) ++ spaced (steps ∷ [])) ++ spaced roots) ++ (line_feed ∷ [])
      apart = rw (eq-eqb outcome 0 z, spaced-append (outcome ∷ []) (length roots ∷ steps ∷ roots), spaced-append (length roots ∷ []) (steps ∷ roots), spaced-append (steps ∷ []) roots) (simp append_assoc)
