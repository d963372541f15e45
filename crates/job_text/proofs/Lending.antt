-- Texts written to lent memory one behind the other.
--   small-long, large-long          how many digits a number has
--   wrote-small, wrote-large        the digits of a number, as they are written
--   wrote-spaced   a number behind a space;  spaced-end, spaced-six, spaced-long: where it ends
--   Rowing         the first i of n numbers stand in the list, at most w bytes for each;  row_from, row_room,
--                  row_on, row-end, row-all
--   line_refused, line-accepted     the line from its parts
-- What it has of Writing is passed on. Assumes nothing.
use mathlib.Core.Path.{◌≡◌, refl, sym, ap, ◌∙◌, subst}
use mathlib.Core.List.{List, [], ◌∷◌, ◌++◌, append_assoc}
use Prim.Native.Nat.{ℕ, suc, ◌+◌, ◌*◌, ◌/◌, ◌%◌, ◌≤◌, ◌<◌}
use native.Mathlib.Nat.{mul-suc, mul-le-mul_left}
use native.Mathlib.Numerals.{add-one}
use native.Mathlib.Omega.{arith}
use borrow.Author.Tests.{eq-eqb, ne_eqb}
use lib.ListN.{length, get_or, take, length-append}
use lib.Seq.{take-suc, take-length}
use Rattle.job_text.specs.Lines.{digit_byte, space, line_feed, decimal, spaced, line_of, Wrote}
use Rattle.job_text.proofs.Digits.{decimal-small, decimal-large}
pub use Rattle.job_text.proofs.Writing.{wrote-byte, wrote_then, wrote-long, wrote_nothing, spaced-append, spaced-one, five-digits, ten-digits, twenty-digits}

-- ---- `decimal`

pub small-long : (x : ℕ) → x < 10 → length (decimal x) ≡ 1
small-long x h = ap length (decimal-small x h)

pub large-long : (x : ℕ) → 10 ≤ x → length (decimal x) ≡ length (decimal (x / 10)) + 1
large-long x h = ap length (decimal-large x h) ∙ length-append (decimal (x / 10)) (digit_byte (x % 10) ∷ [])

pub wrote-small : {x at end : ℕ} {s s' : List ℕ} → x < 10 → Wrote (digit_byte x ∷ []) at s end s' → Wrote (decimal x) at s end s'
wrote-small {x} h p = rw (decimal-small x h) p

pub wrote-large : {x at end end' : ℕ} {s s' s'' : List ℕ} → 10 ≤ x → at ≤ length s → Wrote (decimal (x / 10)) at s end s'
    → Wrote (digit_byte (x % 10) ∷ []) end s' end' s'' → Wrote (decimal x) at s end' s''
wrote-large {x} h l p q = rw (decimal-large x h) (wrote_then l p q)

-- ---- numbers behind a space

pub wrote-spaced : (x : ℕ) {at end end' : ℕ} {s s' s'' : List ℕ} → at ≤ length s → Wrote (space ∷ []) at s end s' → Wrote (decimal x) end s' end' s''
    → Wrote (spaced (x ∷ [])) at s end' s''
wrote-spaced x h p q = rw (spaced-one x) (wrote_then h p q)

spaced-end : (x : ℕ) {w at end : ℕ} {s s' : List ℕ} → length (decimal x) < w → Wrote (spaced (x ∷ [])) at s end s' → end ≤ at + w
spaced-end x h p =
    let n : length (spaced (x ∷ [])) ≡ suc (length (decimal x)) = ap length (spaced-one x) in
    omega (arith, p.ended)

-- a number of 16 bits takes at most six
pub spaced-six : {x at end : ℕ} {s s' : List ℕ} → x < 65536 → Wrote (spaced (x ∷ [])) at s end s' → end ≤ at + 6
spaced-six {x} h p = let d : length (decimal x) < 6 = omega (arith, five-digits x h) in spaced-end x d p

-- and one of 64 bits at most 21
pub spaced-long : {x at end : ℕ} {s s' : List ℕ} → x < 18446744073709551616 → Wrote (spaced (x ∷ [])) at s end s' → end ≤ at + 21
spaced-long {x} h p = let d : length (decimal x) < 21 = omega (arith, twenty-digits x h) in spaced-end x d p

-- ---- `put_roots` and `put_numbers`

-- the first i of n numbers stand in the list, with at most w bytes for each
pub record Rowing (w n : ℕ) (xs : List ℕ) (at : ℕ) (old new : List ℕ) (end i : ℕ) : Type 0 where
  pub within : i ≤ n
  pub listed : n ≤ length xs
  pub fits : at + w * n ≤ length old
  pub long : length new ≡ length old
  pub room : end ≤ at + w * i
  pub done : Wrote (spaced (take i xs)) at old end new

pub row_from : (w n : ℕ) (xs : List ℕ) (at : ℕ) (old : List ℕ) → n ≤ length xs → at + w * n ≤ length old → Rowing w n xs at old old at 0
unfolding spaced
row_from w n xs at old h k =
    record { within = omega arith; listed = h; fits = k; long = refl; room = omega arith; done = wrote_nothing }

-- there is room for the next
pub row_room : {w n at end i : ℕ} {xs old new : List ℕ} → Rowing w n xs at old new end i → i < n → end + w ≤ length new
row_room {w} {n} {at} {end} {i} r h =
    let e : w * suc i ≤ w * n = mul-le-mul_left w h in
    omega (arith, r.room, r.fits, r.long, mul-suc w i)

pub row_on : {w n at end end' i : ℕ} {xs old new new' : List ℕ} → Rowing w n xs at old new end i → i < n
    → length (decimal (get_or xs i 0)) < w
    → length new' ≡ length new → Wrote (spaced (get_or xs i 0 ∷ [])) end new end' new' → Rowing w n xs at old new' end' (i + 1)
row_on {w} {n} {at} {end} {end'} {i} {xs} {old} {new} {new'} r h b k p =
    let l : i < length xs = omega (arith, r.listed) in
    let e : spaced (take (i + 1) xs) ≡ spaced (take i xs) ++ spaced (get_or xs i 0 ∷ []) =
    rw (add-one, take-suc xs i 0) (spaced-append (take i xs) (get_or xs i 0 ∷ [])) in
    record {
      within = omega arith;
      listed = r.listed;
      fits = r.fits;
      long = k ∙ r.long;
      room = rw (add-one i, mul-suc w i) (omega (arith, r.room, spaced-end (get_or xs i 0) b p));
      done = rw e (wrote_then (omega (arith, r.fits)) r.done p);
    }

pub row-end : {w n at end i : ℕ} {xs old new : List ℕ} → Rowing w n xs at old new end i → n ≤ i → Wrote (spaced (take n xs)) at old end new × (end ≤ at + w * n)
row-end {w} {n} {at} {end} {i} {xs} {old} {new} r h =
    let e : i ≡ n = omega (arith, r.within) in
    (subst (λ k. Wrote (spaced (take k xs)) at old end new) e r.done, subst (λ k. end ≤ at + w * k) e r.room)

-- so all of them do
pub row-all : {w at end i : ℕ} {xs old new : List ℕ} → Rowing w (length xs) xs at old new end i → length xs ≤ i
    → Wrote (spaced xs) at old end new × (end ≤ at + w * length xs)
row-all {w} {at} {end} {i} {xs} {old} {new} r h =
    let e = row-end r h in
    (subst (λ l. Wrote (spaced l) at old end new) (take-length xs) e.0, e.1)

-- ---- `line`

module _ (k outcome steps : ℕ) (roots : List ℕ) {a b : ℕ} {s s₁ s₂ : List ℕ}
    (p : Wrote (decimal k) 0 s a s₁) (q : Wrote (spaced (outcome ∷ [])) a s₁ b s₂) where
  pub line_refused : {e : ℕ} {s₃ : List ℕ} → (outcome ≡ 0 → ⊥) → Wrote (line_feed ∷ []) b s₂ e s₃ → Wrote (line_of k outcome steps roots) 0 s e s₃
  line_refused n f =
      rw (ne_eqb outcome 0 n, ← append_assoc) (wrote_then (omega arith) (wrote_then (omega arith) p q) f)

  pub line-accepted : {c d e end : ℕ} {s₃ s₄ s₅ s₆ : List ℕ} → outcome ≡ 0 → Wrote (spaced (length roots ∷ [])) b s₂ c s₃
      → Wrote (spaced (steps ∷ [])) c s₃ d s₄ → Wrote (spaced roots) d s₄ e s₅ → Wrote (line_feed ∷ []) e s₅ end s₆
      → Wrote (line_of k outcome steps roots) 0 s end s₆
  line-accepted {end = end} {s₆ = s₆} z f g h l =
      subst (λ t. Wrote t 0 s end s₆) (sym apart)
      (wrote_then (omega arith) (wrote_then (omega arith) (wrote_then (omega arith) (wrote_then (omega arith) (wrote_then (omega arith) p q) f) g) h) l)
    where
      apart : line_of k outcome steps roots
          ≡ ((((decimal k ++ spaced (outcome ∷ [])) ++ spaced (length roots ∷ [])) ++ spaced (steps ∷ [])) ++ spaced roots) ++ (line_feed ∷ [])
      apart = rw (eq-eqb outcome 0 z, spaced-append (outcome ∷ []) (length roots ∷ steps ∷ roots), spaced-append (length roots ∷ []) (steps ∷ roots), spaced-append (steps ∷ []) roots) (simp append_assoc)
