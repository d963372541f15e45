-- The product in every lane, in place: rows of the carry-free product, then the upper words taken back.
--   row-turn, rows-turn   one word of a row more, one row more
--   rows-pair             two rows more
--   fold-turn             one word at the top taken back, in field 11
-- Assumes nothing.
use mathlib.Core.Path.{◌≡◌, refl, sym, ap, ap₂, ◌∙◌}
use mathlib.Core.List.{List, [], ◌∷◌, ◌++◌, map}
use Prim.Native.Nat.{ℕ, zero, suc, ◌+◌, ◌<◌}
use native.Mathlib.Nat.{zero-add}
use native.Mathlib.Decide.{ℕ_discrete}
use native.Mathlib.Omega.{arith}
use native.Mathlib.Numerals.{add-one}
use lib.Bits.{bit_and, bit_xor, xor_zero_r, and_zero_r}
use lib.ListN.{get_or, length, take, drop, set, replicate, length-set, length-map, drop_of_length-le}
use lib.Seq.{take_all, ext_get_or, get_or-take, get_or-set_same, get_or-set_other, drop-cons, length-take-le}
use Rattle.field.proofs.Xor.{xor_assoc}
use Rattle.poly_values.specs.Planes.{sum, pair_words, words_at, carry_free_words, tap_word, fold_top, folded, lane_product, taps11}
use Rattle.poly_values.proofs.Lists.{length-tabulate, get_d_tabulate, get_or-zeros, get_or-ended}
use Rattle.poly_values.proofs.Planes.{length-longer, length-top}
use Rattle.poly_values.proofs.Lanes.{take_words}

-- ---- rows

pub map-word : (w : ℕ) (b : List ℕ) (j : ℕ) → j < length b → get_or (map (bit_and w) b) j 0 ≡ bit_and w (get_or b j 0)
map-word w [] j h = absurd (omega arith)
map-word w (y ∷ b) zero h = refl
map-word w (y ∷ b) (suc j) h = map-word w b j (omega arith)

-- a word more of u is added to t
pub row-turn : (u t : List ℕ) (j : ℕ) → j < length u → j < length t → set (sum (take j u) t) j (bit_xor (get_or u j 0) (get_or (sum (take j u) t) j 0)) ≡ sum (take (suc j) u) t
unfolding sum
row-turn [] t j h k = absurd (omega arith)
row-turn (x ∷ u) [] j h k = absurd (omega arith)
row-turn (x ∷ u) (y ∷ t) zero h k = refl
row-turn (x ∷ u) (y ∷ t) (suc j) h k = ap (λ l. bit_xor x y ∷ l) (row-turn u t j (omega arith) (omega arith))

take-zeros : (j : ℕ) (r : List ℕ) → take j (replicate (suc j) 0 ++ r) ≡ replicate j 0
take-zeros zero r = refl
take-zeros (suc j) r = ap (λ l. 0 ∷ l) (take-zeros j r)

drop-zeros : (j : ℕ) (r : List ℕ) → drop j (replicate (suc j) 0 ++ r) ≡ 0 ∷ r
drop-zeros zero r = refl
drop-zeros (suc j) r = drop-zeros j r

-- a row more
pub rows-turn : (a b : List ℕ) {t y : List ℕ} {i j : ℕ} → i ≡ suc j → j < length a → t ≡ replicate i 0 ++ carry_free_words (drop i a) b
    → y ≡ sum (map (bit_and (get_or a j 0)) b) (drop j t) → take j t ++ y ≡ replicate j 0 ++ carry_free_words (drop j a) b
unfolding carry_free_words
rows-turn a b {t} {y} {i} {j} e h et ey =
    ap₂ ◌++◌ (ap (take j) shape ∙ take-zeros j (carry_free_words (drop (suc j) a) b))
    (ey ∙ ap (λ s. sum (map (bit_and (get_or a j 0)) b) s) (ap (drop j) shape ∙ drop-zeros j (carry_free_words (drop (suc j) a) b)) ∙ ap (λ s. carry_free_words s b) (sym (drop-cons a j 0 h)))
  where
    shape : t ≡ replicate (suc j) 0 ++ carry_free_words (drop (suc j) a) b
    shape = et ∙ ap (λ k. replicate k 0 ++ carry_free_words (drop k a) b) e

-- ---- two rows at once

sum-assoc : (a b c : List ℕ) → sum (sum a b) c ≡ sum a (sum b c)
unfolding sum
sum-assoc [] b c = refl
sum-assoc (x ∷ a) [] c = refl
sum-assoc (x ∷ a) (y ∷ b) [] = refl
sum-assoc (x ∷ a) (y ∷ b) (z ∷ c) = ap₂ ◌∷◌ (xor_assoc x y z) (sum-assoc a b c)

get_or-sum : (a b : List ℕ) (k : ℕ) → get_or (sum a b) k 0 ≡ bit_xor (get_or a k 0) (get_or b k 0)
unfolding sum
get_or-sum [] b k = refl
get_or-sum (x ∷ a) [] k = sym (xor_zero_r (get_or (x ∷ a) k 0))
get_or-sum (x ∷ a) (y ∷ b) zero = refl
get_or-sum (x ∷ a) (y ∷ b) (suc k) = get_or-sum a b k

get_or-row : (w : ℕ) (b : List ℕ) (k : ℕ) → get_or (map (bit_and w) b) k 0 ≡ bit_and w (get_or b k 0)
get_or-row w [] k = sym (and_zero_r w)
get_or-row w (y ∷ b) zero = refl
get_or-row w (y ∷ b) (suc k) = get_or-row w b k

-- the words of two rows are their sum, the second one word further up
pair_is : (n v w : ℕ) (b : List ℕ) → length b ≡ n → pair_words (suc n) v w (0 ∷ b ++ 0 ∷ []) ≡ sum (map (bit_and v) b) (0 ∷ map (bit_and w) b)
pair_is n v w b h =
    ext_get_or 0 (pair_words (suc n) v w c) (sum (map (bit_and v) b) (0 ∷ map (bit_and w) b)) (length-tabulate (suc n) at ∙ sym long)
    (λ i k. get_d_tabulate (suc n) at i (omega (arith, length-tabulate (suc n) at))
    ∙ ap₂ bit_xor (ap (λ j. bit_and v (get_or c j 0)) (add-one i) ∙ ap (bit_and v) (get_or-ended b i) ∙ sym (get_or-row v b i)) (second i)
    ∙ sym (get_or-sum (map (bit_and v) b) (0 ∷ map (bit_and w) b) i))
  where
    c : List ℕ
    c = 0 ∷ b ++ 0 ∷ []

    at : ℕ → ℕ
    at k = bit_xor (bit_and v (get_or c (k + 1) 0)) (bit_and w (get_or c k 0))

    long : length (sum (map (bit_and v) b) (0 ∷ map (bit_and w) b)) ≡ suc n
    long = length-longer (map (bit_and v) b) (0 ∷ map (bit_and w) b) (omega (arith, length-map b (bit_and v), length-map b (bit_and w))) ∙ ap suc (length-map b (bit_and w) ∙ h)

    second : (i : ℕ) → bit_and w (get_or c i 0) ≡ get_or (0 ∷ map (bit_and w) b) i 0
    second zero = and_zero_r w
    second (suc i) = ap (bit_and w) (get_or-ended b i) ∙ sym (get_or-row w b i)

-- two rows more
pub rows-pair : (a b : List ℕ) {t y c : List ℕ} {i j : ℕ} → i ≡ suc (suc j) → suc j < length a → length b ≡ 11 → c ≡ 0 ∷ b ++ 0 ∷ []
    → t ≡ replicate i 0 ++ carry_free_words (drop i a) b → y ≡ sum (pair_words 12 (get_or a j 0) (get_or a (suc j) 0) c) (drop j t)
    → take j t ++ y ≡ replicate j 0 ++ carry_free_words (drop j a) b
unfolding carry_free_words sum
rows-pair a b {t} {y} {c} {i} {j} e h hb ec et ey =
    ap₂ ◌++◌ (ap (take j) shape ∙ take-zeros j (0 ∷ R))
    (ey ∙ ap₂ sum (ap (pair_words 12 (get_or a j 0) (get_or a (suc j) 0)) ec ∙ pair_is 11 (get_or a j 0) (get_or a (suc j) 0) b hb)
    (ap (drop j) shape ∙ drop-zeros j (0 ∷ R))
    ∙ sum-assoc (map (bit_and (get_or a j 0)) b) (0 ∷ map (bit_and (get_or a (suc j) 0)) b) (0 ∷ 0 ∷ R)
    ∙ ap (λ s. sum (map (bit_and (get_or a j 0)) b) (0 ∷ carry_free_words s b)) (sym (drop-cons a (suc j) 0 h))
    ∙ ap (λ s. carry_free_words s b) (sym (drop-cons a j 0 (omega arith))))
  where
    R : List ℕ
    R = carry_free_words (drop (suc (suc j)) a) b

    shape : t ≡ replicate (suc j) 0 ++ 0 ∷ R
    shape = et ∙ ap (λ k. replicate k 0 ++ carry_free_words (drop k a) b) e ∙ zeros-behind (suc j)
      where
        zeros-behind : (k : ℕ) → replicate (suc k) 0 ++ R ≡ replicate k 0 ++ 0 ∷ R
        zeros-behind zero = refl
        zeros-behind (suc k) = ap (λ l. 0 ∷ l) (zeros-behind k)

-- a word of the vector at the front
pub vector-word-at : (n : ℕ) (e : List ℕ) (j : ℕ) → j < n → get_or (words_at n e 0) j 0 ≡ get_or e j 0
vector-word-at n e j h = get_d_tabulate n (λ k. get_or e (0 + k) 0) j h ∙ ap (λ k. get_or e k 0) (zero-add j)

-- b between two zeros, and back
pub padded-middle : (b c : List ℕ) → length b ≡ 11 → c ≡ 0 ∷ words_at 11 b 0 ++ 0 ∷ [] → (c ≡ 0 ∷ take 11 (drop 1 c) ++ 0 ∷ []) × (take 11 (drop 1 c) ≡ b)
padded-middle b c h e = (e ∙ sym (ap (λ l. 0 ∷ take 11 (drop 1 l) ++ 0 ∷ []) e), ap (λ l. take 11 (drop 1 l)) e ∙ take_words 11 b (omega arith) ∙ take_all 11 b (omega arith))

-- the word x at the digits of field 11's polynomial
abbrev words : ℕ → List ℕ
words x = map (tap_word x) taps11

tap-first : (x j : ℕ) → get_or (replicate j 0 ++ words x) j 0 ≡ x
tap-first x zero = refl
tap-first x (suc j) = tap-first x j

tap-second : (x j : ℕ) → get_or (replicate j 0 ++ words x) (suc (suc j)) 0 ≡ x
tap-second x zero = refl
tap-second x (suc j) = tap-second x j

tap-other : (x j i : ℕ) → (i ≡ j → ⊥) → (i ≡ suc (suc j) → ⊥) → get_or (replicate j 0 ++ words x) i 0 ≡ 0
tap-other x zero zero h k = absurd (h refl)
tap-other x zero (suc zero) h k = refl
tap-other x zero (suc (suc zero)) h k = absurd (k refl)
tap-other x zero (suc (suc (suc i))) h k = get_or-zeros 8 i
tap-other x (suc j) zero h k = refl
tap-other x (suc j) (suc i) h k = tap-other x j i (λ e. h (ap suc e)) (λ e. k (ap suc e))

-- one word at the top taken back
pub fold-turn : (t : List ℕ) (j x : ℕ) → length t ≡ 22 → j < 11 → x ≡ get_or t (j + 11) 0
    → take (11 + j) (set (set t j (bit_xor (get_or t j 0) x)) (j + 2) (bit_xor (get_or (set t j (bit_xor (get_or t j 0) x)) (j + 2) 0) x)) ≡ fold_top taps11 j (take (11 + suc j) t)
unfolding fold_top
fold-turn t j x n h ex =
    ext_get_or 0 (take (11 + j) t₂) (fold_top taps11 j T) (length-take-le (11 + j) t₂ (omega (arith, n₂)) ∙ sym (length-top taps11 j T (n_t ∙ omega arith)))
    (λ i k. get_or-take (11 + j) t₂ i 0 (omega (arith, length-take-le (11 + j) t₂ (omega (arith, n₂))))
    ∙ at i (omega (arith, length-take-le (11 + j) t₂ (omega (arith, n₂)))) (ℕ_discrete i j) (ℕ_discrete i (suc (suc j)))
    ∙ sym (get_or-sum (take (11 + j) T) (replicate j 0 ++ words X) i
    ∙ ap₂ (λ u v. bit_xor u (get_or (replicate j 0 ++ words v) i 0))
    (get_or-take (11 + j) T i 0 (omega (arith, length-take-le (11 + j) t₂ (omega (arith, n₂)))) ∙ get_or-take (11 + suc j) t i 0 (omega (arith, length-take-le (11 + j) t₂ (omega (arith, n₂))))) X-is))
  where
    t₁ : List ℕ
    t₁ = set t j (bit_xor (get_or t j 0) x)

    t₂ : List ℕ
    t₂ = set t₁ (j + 2) (bit_xor (get_or t₁ (j + 2) 0) x)

    n₁ : length t₁ ≡ 22
    n₁ = length-set t j (bit_xor (get_or t j 0) x) ∙ n

    n₂ : length t₂ ≡ 22
    n₂ = length-set t₁ (j + 2) (bit_xor (get_or t₁ (j + 2) 0) x) ∙ n₁

    T : List ℕ
    T = take (11 + suc j) t

    n_t : length T ≡ 11 + suc j
    n_t = length-take-le (11 + suc j) t (omega (arith, n, h))

    X : ℕ
    X = get_or T (11 + j) 0

    X-is : X ≡ x
    X-is = get_or-take (11 + suc j) t (11 + j) 0 (omega arith) ∙ ap (λ k. get_or t k 0) (omega arith) ∙ sym ex

    at : (i : ℕ) → i < 11 + j → Dec (i ≡ j) → Dec (i ≡ suc (suc j)) → get_or t₂ i 0 ≡ bit_xor (get_or t i 0) (get_or (replicate j 0 ++ words x) i 0)
    at i k (yes e) d =
        get_or-set_other t₁ (j + 2) i (bit_xor (get_or t₁ (j + 2) 0) x) 0 (λ z. omega arith)
        ∙ ap (λ i. get_or t₁ i 0) e ∙ get_or-set_same t j (bit_xor (get_or t j 0) x) 0 (omega (arith, n, h))
        ∙ sym (ap (λ i. bit_xor (get_or t i 0) (get_or (replicate j 0 ++ words x) i 0)) e ∙ ap (bit_xor (get_or t j 0)) (tap-first x j))
    at i k (no e) (yes d) =
        ap (λ i. get_or t₂ i 0) (d ∙ two) ∙ get_or-set_same t₁ (j + 2) (bit_xor (get_or t₁ (j + 2) 0) x) 0 (omega (arith, n₁, h))
        ∙ ap (λ u. bit_xor u x) (get_or-set_other t j (j + 2) (bit_xor (get_or t j 0) x) 0 (λ z. omega arith))
        ∙ sym (ap₂ (λ i u. bit_xor (get_or t i 0) u) (d ∙ two) (ap (λ i. get_or (replicate j 0 ++ words x) i 0) d ∙ tap-second x j))
      where
        two : suc (suc j) ≡ j + 2
        two = omega arith
    at i k (no e) (no d) =
        get_or-set_other t₁ (j + 2) i (bit_xor (get_or t₁ (j + 2) 0) x) 0 (λ z. d (omega arith)) ∙ get_or-set_other t j i (bit_xor (get_or t j 0) x) 0 e
        ∙ sym (ap (bit_xor (get_or t i 0)) (tap-other x j i e d) ∙ xor_zero_r (get_or t i 0))

-- before the first row
pub rows-from : (a b : List ℕ) → length a ≡ 11 → length b ≡ 11 → replicate 22 0 ≡ replicate 11 0 ++ carry_free_words (drop 11 a) b
unfolding carry_free_words
rows-from a b ha hb = sym (ap (λ s. replicate 11 0 ++ carry_free_words s b) (drop_of_length-le a {i = 11} (omega arith)) ∙ ap (λ n. replicate 11 0 ++ replicate n 0) hb)

-- the whole
pub product-from : (a b u : List ℕ) {t s : List ℕ} → length a ≡ 11 → t ≡ carry_free_words a b → take 11 u ≡ folded taps11 11 t → s ≡ take 11 u → s ≡ lane_product taps11 a b
unfolding lane_product
product-from a b u ha et eu es = es ∙ eu ∙ ap₂ (λ n x. folded taps11 n x) (sym ha) et
