-- Where the data of the last word end.
--   padded-end, padded-past   the end byte stands behind the data, and zeros behind it
--   padded-front              the data are the front of the bytes
--   padded-unique             data that the end byte and zeros follow are told by all the bytes
--   ending-found, ending-other, ending-none   what the last byte that is not 0 tells, or that there is none
-- Assumes nothing.
use mathlib.Core.Path.{◌≡◌, refl, sym, ap, ◌∙◌, subst}
use mathlib.Core.List.{List, ◌∷◌, ◌++◌}
use Prim.Native.Nat.{ℕ, zero, suc, ◌+◌, ◌-◌, ◌≤◌, ◌<◌}
use native.Mathlib.Decide.{dec_lt}
use native.Mathlib.Omega.{arith}
use lib.ListN.{length, get_or, take, drop, replicate, length-drop, length-replicate}
use lib.Seq.{length-take-le, split_at, take_at, get_or_at, get_or-drop, get_or-append-add, ext_get_or}
use Rattle.corrector_stream.specs.Words.{end_byte}
use Rattle.std.specs.Prelude.{Some, None}
use Rattle.corrector_stream.specs.Parts.{ZerosFrom, Padded, EndsAt}
use Rattle.corrector_stream.specs.Parts.EndsAt.{at, nowhere}

-- zeros are 0 at every place
zeros-at : (n i : ℕ) → get_or (replicate {A = ℕ} n 0) i 0 ≡ 0
zeros-at zero i = refl
zeros-at (suc n) zero = refl
zeros-at (suc n) (suc i) = zeros-at n i

-- the end byte stands behind the data
pub padded-end : {b d : List ℕ} → Padded b d → get_or b (length d) 0 ≡ end_byte
padded-end {b} {d} p = ap (λ (l : List ℕ). get_or l (length d) 0) p.is ∙ get_or_at d end_byte _ 0 (length d) refl

-- and zeros behind it
pub padded-past : {b d : List ℕ} → Padded b d → (i : ℕ) → length d < i → get_or b i 0 ≡ 0
padded-past {b} {d} p i h =
    let k : ℕ = i - length d - 1 in
    let e : i ≡ length d + suc k = omega arith in
    let n : ℕ = length b - 1 - length d in
    ap (λ (l : List ℕ). get_or l i 0) p.is ∙ ap (λ (j : ℕ). get_or (d ++ end_byte ∷ replicate n 0) j 0) e
    ∙ get_or-append-add d (end_byte ∷ replicate n 0) (suc k) 0 ∙ zeros-at n k

-- the data are the front
pub padded-front : {b d : List ℕ} → Padded b d → take (length d) b ≡ d
padded-front {b} {d} p = ap (take (length d)) p.is ∙ take_at d _ (length d) refl

-- not behind the end byte
not-before : {b d e : List ℕ} → Padded b d → Padded b e → length d < length e → ⊥
not-before {b} {d} {e} p q h =
    let x = padded-past p (length e) h in
    let y = padded-end q in
    omega arith

-- told by all the bytes
pub padded-unique : {b d e : List ℕ} → Padded b d → Padded b e → d ≡ e
padded-unique {b} {d} {e} p q = go (dec_lt (length d) (length e)) (dec_lt (length e) (length d))
  where
    go : Dec (length d < length e) → Dec (length e < length d) → d ≡ e
    go (yes h) x = absurd (not-before p q h)
    go (no h) (yes k) = absurd (not-before q p k)
    go (no h) (no k) =
        let n : length d ≡ length e = omega arith in
        sym (padded-front p) ∙ ap (λ (j : ℕ). take j b) n ∙ padded-front q

-- ---- the last byte that is not 0

-- what is 0 from a place on
zeros-from : (b : List ℕ) (n : ℕ) → ((i : ℕ) → n ≤ i → get_or b i 0 ≡ 0) → drop n b ≡ replicate (length b - n) 0
zeros-from b n h =
    ext_get_or 0 (drop n b) (replicate (length b - n) 0) (length-drop n b ∙ sym (length-replicate (length b - n) 0))
    (λ i l. get_or-drop n b i 0 ∙ h (n + i) (omega arith) ∙ sym (zeros-at (length b - n) i))

-- the end byte is found
pub ending-found : {b : List ℕ} {k : ℕ} → ZerosFrom b (k + 1) → get_or b k 0 ≡ end_byte → EndsAt b (Some k)
ending-found {b} {k} e h =
    let w = e.within in
    let n : length (take k b) ≡ k = length-take-le k b (omega arith) in
    let r : suc k ≡ k + 1 = omega arith in
    let s : length b - (k + 1) ≡ length b - 1 - length (take k b) = omega arith in
    let z : drop (suc k) b ≡ replicate (length b - 1 - length (take k b)) 0 =
    ap (λ (i : ℕ). drop i b) r ∙ zeros-from b (k + 1) e.zeros ∙ ap (λ (i : ℕ). replicate i 0) s in
    let q : b ≡ take k b ++ end_byte ∷ replicate (length b - 1 - length (take k b)) 0 =
    split_at b k 0 (omega arith) ∙ ap (λ (x : ℕ). take k b ++ x ∷ drop (suc k) b) h
    ∙ ap (λ (l : List ℕ). take k b ++ end_byte ∷ l) z in
    let a : Padded b (take k b) = record { shorter = omega arith; is = q } in
    subst (λ (i : ℕ). EndsAt b (Some i)) n (at a)

-- a byte that is neither 0 nor the end byte
pub ending-other : {b : List ℕ} (k : ℕ) → ZerosFrom b (k + 1) → (get_or b k 0 ≡ end_byte → ⊥)
    → (get_or b k 0 ≡ 0 → ⊥) → EndsAt b None
ending-other {b} k e x z = nowhere (λ d q. go d q (dec_lt (length d) k) (dec_lt k (length d)))
  where
    go : (d : List ℕ) → Padded b d → Dec (length d < k) → Dec (k < length d) → ⊥
    go d q (yes l) m = z (padded-past q k l)
    go d q (no l) (yes m) =
        let u = padded-end q in
        let v = e.zeros (length d) (omega arith) in
        omega arith
    go d q (no l) (no m) = let n : k ≡ length d = omega arith in x (ap (λ (i : ℕ). get_or b i 0) n ∙ padded-end q)

-- zeros alone
pub ending-none : {b : List ℕ} → ZerosFrom b 0 → EndsAt b None
ending-none {b} e =
    nowhere (λ d q. let u = padded-end q in let v = e.zeros (length d) (omega arith) in let f : ⊥ = omega arith in f)
