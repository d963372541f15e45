-- Elements of a field as bit planes: word i of a vector holds digit i of 64 elements at once, one in each lane. A row
-- is vectors one behind the other.
--   binary_digit            the binary digit l of a word;  lane  the element in lane l;  lanes  several lanes as a list
--   sum              the sum in every lane;  doubled  twice the element in every lane
--   carry_free_words, folded     the words of the carry-free product, and the words at the top taken back by the field's
--                              polynomial
--   lane_product          the product in every lane
--   occupied         the word of the lanes that are not 0
--   sum_words, pair_words, doubled_words, spread_words, words_at   the same word by word, as the code writes them
--   butterfly_at, butterflies_at, transform_at, halves_at   what the code leaves in a row
--   plane_ops         planes as values that are added and multiplied;  field_by  the field whose polynomial has the
--                    digits q below its top
--   flat, tree_of     vectors in a row; the multipliers that a row holds
--   lane_row            one lane of a row;  columns_of  vectors in a row as lists of lanes, and one more behind each
--   mix_at            one lane of the sum of vectors, each times its coefficient
--   Multiple, FourMultiples, Spread, Mixed, First, Firsts, RowStartable, RowStarted, TwoBlocks   what the routines
--                    take and leave
--   taps11           the polynomial of field 11 below its top
-- Nobody has to believe this file: it serves the inner contracts of this crate. What others cite is `Values` in
-- Tables.
-- Assumes nothing.
use Rattle.std.specs.Prelude.{true, List, [], ◌∷◌, ◌++◌, map, ◌≡◌, ℕ, zero, suc, ◌+◌, ◌*◌, ◌/◌, ◌%◌, ◌^◌, ◌≤◌, ◌<◌, get_or, length, take, drop, replicate}
use Rattle.std.specs.Int.Bits.{bit_and, bit_or, bit_xor}
use Rattle.std.proofs.Math.Seq.{paste}
use Rattle.algebra.specs.Field.{Ops}
use Rattle.field.specs.Field.{Field, field_of, mul, numbers}
use Rattle.algebra.specs.Polynomial.{Below}
use Rattle.poly_values.specs.Transform.{Mults, leaf, node, transform, map_mults}

abbrev pub binary_digit : ℕ → ℕ → ℕ
binary_digit l w = w / 2 ^ l % 2

-- the number whose binary digits are the digits l of the words, the first word's lowest
unfoldable pub lane : ℕ → List ℕ → ℕ
lane l [] = 0
lane l (w ∷ p) = lane l p * 2 + binary_digit l w

-- the number of these digits, the lowest first
unfoldable pub digits_number : List ℕ → ℕ
digits_number [] = 0
digits_number (d ∷ q) = digits_number q * 2 + d

unfoldable pub sum : List ℕ → List ℕ → List ℕ
sum [] b = b
sum (x ∷ a) [] = x ∷ a
sum (x ∷ a) (y ∷ b) = bit_xor x y ∷ sum a b

-- t is added to w where the digit d is not 0
abbrev pub tapped : ℕ → ℕ → ℕ → ℕ
tapped zero t w = w
tapped (suc d) t w = bit_xor w t

-- t is added to the words of s where the digits q say
unfoldable pub taps : ℕ → List ℕ → List ℕ → List ℕ
taps t [] s = []
taps t (d ∷ q) [] = []
taps t (d ∷ q) (w ∷ s) = tapped d t w ∷ taps t q s

-- each word moves one up; what falls out at the top comes back where the field's polynomial has its digits q below the
-- top
unfoldable pub doubled : List ℕ → List ℕ → List ℕ
unfolding taps
doubled q r = taps (get_or (0 ∷ r) (length q) 0) q (0 ∷ r)

-- the words of the carry-free product in every lane, digit by digit of the first factor
unfoldable pub carry_free_words : List ℕ → List ℕ → List ℕ
unfolding sum
carry_free_words [] b = replicate (length b) 0
carry_free_words (w ∷ a) b = sum (map (bit_and w) b) (0 ∷ carry_free_words a b)

abbrev pub tap_word : ℕ → ℕ → ℕ
tap_word t zero = 0
tap_word t (suc d) = t

-- the word at place m + k, taken back k places up by the field's polynomial, whose digits below the top are q
unfoldable pub fold_top : List ℕ → ℕ → List ℕ → List ℕ
unfolding sum
fold_top q k t = sum (take (length q + k) t) (replicate k 0 ++ map (tap_word (get_or t (length q + k) 0)) q)

-- k words at the top, one after the other
unfoldable pub folded : List ℕ → ℕ → List ℕ → List ℕ
unfolding fold_top
folded q zero t = t
folded q (suc k) t = folded q k (fold_top q k t)

-- the product in every lane
unfoldable pub lane_product : List ℕ → List ℕ → List ℕ → List ℕ
unfolding carry_free_words folded
lane_product q a b = folded q (length a) (carry_free_words a b)

-- the word whose digit l says whether the element in lane l is not 0
unfoldable pub occupied : List ℕ → ℕ
occupied [] = 0
occupied (w ∷ p) = bit_or w (occupied p)

-- f 0, f 1, .. , n words
abbrev pub tabulate : ℕ → (ℕ → ℕ) → List ℕ
tabulate zero f = []
tabulate (suc n) f = f 0 ∷ tabulate n (λ k. f (suc k))

-- the sum, word by word
abbrev pub sum_words : ℕ → List ℕ → List ℕ → List ℕ
sum_words n a b = tabulate n (λ k. bit_xor (get_or a k 0) (get_or b k 0))

-- n words of l from place at on
abbrev pub words_at : ℕ → List ℕ → ℕ → List ℕ
words_at n l at = tabulate n (λ k. get_or l (at + k) 0)

-- two rows at once, n words: v times the words of b from the second on, and w times those from the first on
abbrev pub pair_words : ℕ → ℕ → ℕ → List ℕ → List ℕ
pair_words n v w b = tabulate n (λ k. bit_xor (bit_and v (get_or b (k + 1) 0)) (bit_and w (get_or b k 0)))

-- the butterfly of the vectors at 0 and at up, each of as many words as q has digits: (a, b) becomes (a + e b, a + e b
-- + b)
abbrev pub butterfly_sum : List ℕ → List ℕ → ℕ → List ℕ → List ℕ
butterfly_sum q e up p = sum_words (length q) (words_at (length q) p 0) (lane_product q e (words_at (length q) p up))

unfoldable pub butterfly_at : List ℕ → List ℕ → ℕ → List ℕ → List ℕ
butterfly_at q e up p =
    paste (paste p 0 (butterfly_sum q e up p) (length q)) up
    (sum_words (length q) (butterfly_sum q e up p) (words_at (length q) p up)) (length q)

-- the first n such butterflies of a row of vectors
unfoldable pub butterflies_at : List ℕ → List ℕ → ℕ → ℕ → List ℕ → List ℕ
unfolding butterfly_at
butterflies_at q e up zero p = p
butterflies_at q e up (suc n) p =
    take (n * length q) (butterflies_at q e up n p)
    ++ butterfly_at q e up (drop (n * length q) (butterflies_at q e up n p))

-- the transform of 2^k vectors in a row: the multiplier stands first in g, then those of the lower half, then those of
-- the upper half
unfoldable pub transform_at : List ℕ → ℕ → List ℕ → List ℕ → List ℕ
unfolding butterflies_at
transform_at q zero g p = p
transform_at q (suc k) g p =
    transform_at q k (drop (length q) g)
    (take (2 ^ k * length q) (butterflies_at q (words_at (length q) g 0) (2 ^ k * length q) (2 ^ k) p))
    ++ transform_at q k (drop (2 ^ k * length q) g)
    (drop (2 ^ k * length q) (butterflies_at q (words_at (length q) g 0) (2 ^ k * length q) (2 ^ k) p))

-- planes as values that are added and multiplied (what else `Ops` names is not used)
abbrev pub plane_ops : List ℕ → Ops (List ℕ)
plane_ops q =
    record { zero = []; one = []; add = sum; mul = lane_product q; inv = λ v. v; is_zero = λ v. true }

-- the field whose polynomial has the digits q below its top
abbrev pub field_by : List ℕ → Field
field_by q = field_of (length q) (2 ^ length q + digits_number q)

-- vectors in a row
unfoldable pub flat : List (List ℕ) → List ℕ
flat [] = []
flat (v ∷ vs) = v ++ flat vs

-- the multipliers that a row of vectors holds
unfoldable pub tree_of : List ℕ → ℕ → List ℕ → Mults (List ℕ)
tree_of q zero g = leaf
tree_of q (suc k) g =
    node (words_at (length q) g 0) (tree_of q k (drop (length q) g)) (tree_of q k (drop (2 ^ k * length q) g))

-- n lanes of a vector, from l on
unfoldable pub lanes : ℕ → ℕ → List ℕ → List ℕ
unfolding lane
lanes l zero v = []
lanes l (suc n) v = lane l v ∷ lanes (suc l) n v

-- t where no more columns come, else 0
abbrev pub behind : ℕ → ℕ → ℕ
behind zero t = t
behind (suc c) t = 0

-- c vectors of m words in a row, each as a list of n lanes and one more: t behind the last vector, 0 behind the others
unfoldable pub columns_of : ℕ → ℕ → ℕ → ℕ → List ℕ → List (List ℕ)
unfolding lanes
columns_of m n t zero g = []
columns_of m n t (suc c) g = (lanes 0 n (words_at m g 0) ++ behind c t ∷ []) ∷ columns_of m n t c (drop m g)

-- lane l of n vectors of m words in a row
unfoldable pub lane_row : ℕ → ℕ → ℕ → List ℕ → List ℕ
unfolding lane
lane_row m l zero p = []
lane_row m l (suc n) p = lane l (words_at m p 0) ∷ lane_row m l n (drop m p)

-- lane l of the sum of the vectors of g, each times its coefficient of f
unfoldable pub mix_at : Field → ℕ → List ℕ → List ℕ → ℕ
unfolding lane mul
mix_at F l [] g = 0
mix_at F l (c ∷ f) g = bit_xor (mul F c (lane l (words_at F.degree g 0))) (mix_at F l f (drop F.degree g))

-- every lane of r is c times that of b
pub record Multiple (q : List ℕ) (c : ℕ) (b r : List ℕ) : Type 0 where
  pub long : length r ≡ length q
  pub lanes : (l : ℕ) → lane l r ≡ mul (field_by q) c (lane l b)

-- a row of vectors: the multiples of b by 0, 1, 2 and 3
pub record FourMultiples (q b t : List ℕ) : Type 0 where
  pub itself : words_at (length q) t (1 * length q) ≡ b
  pub multiples : (c : ℕ) → c < 4 → Multiple q c b (words_at (length q) t (c * length q))

-- every lane of v is c
pub record Spread (q : List ℕ) (c : ℕ) (v : List ℕ) : Type 0 where
  pub long : length v ≡ length q
  pub lanes : (l : ℕ) → l < 64 → lane l v ≡ c

-- every lane of v is that of the mix
pub record Mixed (q f g v : List ℕ) : Type 0 where
  pub long : length v ≡ length q
  pub lanes : (l : ℕ) → lane l v ≡ mix_at (field_by q) l f g

-- twice the element in every lane, word by word
abbrev pub doubled_words : List ℕ → List ℕ → List ℕ
doubled_words q r = tabulate (length q) (λ k. tapped (get_or q k 0) (get_or (0 ∷ r) (length q) 0) (get_or (0 ∷ r) k 0))

-- the element c in every lane, word by word
abbrev pub spread_words : ℕ → ℕ → List ℕ
spread_words n c = tabulate n (λ k. c / 2 ^ k % 2 * 18446744073709551615)

-- a row can be started: n = 2^k coefficients below 2^m, room for as many vectors, and the multipliers
pub record RowStartable (q : List ℕ) (k n : ℕ) (g a p : List ℕ) : Type 0 where
  pub size : n ≡ 2 ^ k
  pub many : length a ≡ n
  pub small : Below (2 ^ length q) a
  pub room : n * length q ≡ length p
  pub table : n * length q ≤ length g + length q

-- the row was transformed, with x for the first coefficient
pub record RowStarted (q : List ℕ) (k : ℕ) (g x a p p' : List ℕ) : Type 0 where
  pub long : length p' ≡ length p
  pub rows : (l : ℕ) → l < 64
      → lane_row (length q) l (2 ^ k) p'
      ≡ transform (numbers (field_by q)) (map_mults (lane l) (tree_of q k g)) (lane l x ∷ drop 1 a)

-- one butterfly of two coefficients
pub record First (q e : List ℕ) (x y i j : ℕ) (p p' : List ℕ) : Type 0 where
  pub long : length p' ≡ length p
  pub low : (l : ℕ) → l < 64 → lane l (words_at (length q) p' (i * length q)) ≡ bit_xor x (mul (field_by q) (lane l e) y)
  pub up : (l : ℕ) → l < 64 → lane l (words_at (length q) p' (j * length q))
      ≡ bit_xor (lane l (words_at (length q) p' (i * length q))) y
  pub others : (k : ℕ) → (k ≡ i → ⊥) → (k ≡ j → ⊥) → words_at (length q) p' (k * length q)
      ≡ words_at (length q) p (k * length q)

-- the transforms of two halves of h vectors
abbrev pub halves_at : List ℕ → ℕ → ℕ → List ℕ → List ℕ → List ℕ
halves_at q k h g p =
    transform_at q k (drop (length q) g) (take (h * length q) p)
    ++ transform_at q k (drop (h * length q) g) (drop (h * length q) p)

-- the first w butterflies of coefficients but for the very first, those that stand h apart, with the multiplier e
pub record Firsts (q e a : List ℕ) (h w : ℕ) (p p' : List ℕ) : Type 0 where
  pub long : length p' ≡ length p
  pub lows : (i : ℕ) → 0 < i → i < w → (l : ℕ) → l < 64
      → lane l (words_at (length q) p' (i * length q))
      ≡ bit_xor (get_or a i 0) (mul (field_by q) (lane l e) (get_or a (h + i) 0))
  pub ups : (i : ℕ) → 0 < i → i < w → (l : ℕ) → l < 64
      → lane l (words_at (length q) p' ((h + i) * length q))
      ≡ bit_xor (lane l (words_at (length q) p' (i * length q))) (get_or a (h + i) 0)

-- the first w vectors are those of two blocks of h coefficients, the upper one times b
pub record TwoBlocks (q b a : List ℕ) (h w : ℕ) (p p' : List ℕ) : Type 0 where
  pub long : length p' ≡ length p
  pub rows : (i : ℕ) → i < w → (l : ℕ) → l < 64
      → lane l (words_at (length q) p' (i * length q))
      ≡ bit_xor (get_or a i 0) (mul (field_by q) (get_or a (h + i) 0) (lane l b))

-- the polynomial of field 11 below its top: x^2 + 1
abbrev pub taps11 : List ℕ
taps11 = 1 ∷ 0 ∷ 1 ∷ 0 ∷ 0 ∷ 0 ∷ 0 ∷ 0 ∷ 0 ∷ 0 ∷ 0 ∷ []
