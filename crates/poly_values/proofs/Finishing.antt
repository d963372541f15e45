-- From the mixed columns and the started row to the values of the polynomial at every element.
--   lanes-turn    one lane more
--   mix-at, mix-behind, mix-join   the places of a mix of columns
--   coset-place   the places of two blocks that are brought together for a coset
--   in-lower, in_both        a polynomial in blocks, by the columns of one table, and of two
--   values_one, values-two   the values at every element, from one block and from two
--   lanes-filled  the lanes behind the coefficients are 0
-- Assumes nothing.
use mathlib.Core.Path.{◌≡◌, refl, sym, ap, ap₂, ◌∙◌, subst}
use mathlib.Core.List.{List, [], ◌∷◌, ◌++◌, map, map-append}
use Prim.Native.Nat.{ℕ, zero, suc, ◌+◌, ◌*◌, ◌-◌, ◌/◌, ◌%◌, ◌^◌, ◌<◌, ◌≤◌}
use native.Mathlib.Nat.{zero-add, add-zero, add-suc, suc-add}
use native.Mathlib.Omega.{arith}
use native.Mathlib.Decide.{ℕ_discrete, dec_lt}
use lib.Pow.{pow_pos}
use lib.Bits.{bit_xor, xor_zero_r, xor_comm, xor_shifted, xor_shr, xor_mod}
use lib.ListN.{get_or, length, take, drop, replicate, set, length-map, length-drop, length-append, length-replicate, get_or-append}
use lib.Seq.{paste, length-paste, ext_get_or, get_or_at, get_or-take, get_or-drop, get_or-append-add, length-take-le}
use Rattle.algebra.specs.Field.{Ops, OnNumbers}
use Rattle.algebra.specs.Trial.{All}
use Rattle.algebra.specs.Polynomial.{eval, Below}
use Rattle.field.proofs.Known.{row11}
use Rattle.field.specs.Rows.{poly_in}
use Rattle.field.specs.Field.{Field, mul, numbers, field_at, G}
use Rattle.field.proofs.Digits.{bit-cases}
use Rattle.field.proofs.Xor.{xor_assoc}
use Rattle.field.proofs.Ring.{FullDegree, mul_comm, mul_assoc, mul-zero-l, mul-zero-r, mul-one-r, mul-xor-r}
use Rattle.field.proofs.Instance.{known-numbers}
use Rattle.poly_values.specs.Transform.{scaled, points, transform, mults}
use Rattle.poly_values.specs.Basis.{Step, vanishing, levels}
use Rattle.poly_values.specs.Blocks.{power_in, ColumnsOf, mix, coset_of}
use Rattle.poly_values.specs.Planes.{binary_digit, occupied, lane, lanes, digits_number, words_at, sum_words, spread_words, behind, columns_of, mix_at, lane_row, transform_at, field_by, taps11, Multiple, Spread, Mixed, RowStarted, TwoBlocks}
use Rattle.poly_values.specs.Tables.{steps11, TreeTable, TopTable, SquareTable, ColumnTable, FirstColumns, InBlocks, Values}
use Rattle.poly_values.proofs.Planes.{lane-lt, lane-sum, lane-is-zero, sum-words}
use Rattle.poly_values.proofs.Image.{all_append}
use Rattle.poly_values.proofs.Tail.{lent-tail}
use Rattle.poly_values.proofs.Blocks.{columns-join}
use Rattle.poly_values.proofs.BlockNumbers.{values-blocks}
use Rattle.poly_values.proofs.Multipliers.{small11, right11, monic11}
use Rattle.poly_values.proofs.Lists.{length-tabulate, get_or-zeros, get_or-add, get_or-scaled, length-add-le}
use Rattle.poly_values.proofs.Scalars.{spread-is, all_ones, mix-zero, digits11}
use Rattle.poly_values.proofs.Lanes.{lane_row-at, length-row, length-add, row-run}
use Rattle.poly_values.proofs.Starting.{words_same, words-other}

-- ---- lists of lanes

pub length-lanes : (l n : ℕ) (v : List ℕ) → length (lanes l n v) ≡ n
unfolding lanes
length-lanes l zero v = refl
length-lanes l (suc n) v = ap suc (length-lanes (suc l) n v)

lanes_at : (l n : ℕ) (v : List ℕ) (i : ℕ) → i < n → get_or (lanes l n v) i 0 ≡ lane (l + i) v
unfolding lanes
lanes_at l zero v i h = absurd (omega arith)
lanes_at l (suc n) v zero h = ap (λ k. lane k v) (sym (add-zero l))
lanes_at l (suc n) v (suc i) h = lanes_at (suc l) n v i (omega arith) ∙ ap (λ k. lane k v) (suc-add l i ∙ sym (add-suc l i))

pub lanes-below : (m l n : ℕ) (v : List ℕ) → length v ≡ m → Below (2 ^ m) (lanes l n v)
unfolding lanes
lanes-below m l zero v h = tt
lanes-below m l (suc n) v h = (subst (λ (k : ℕ). lane l v < 2 ^ k) h (lane-lt l v), lanes-below m (suc l) n v h)

-- a store behind the lanes that stand there
lanes-more : (v : List ℕ) (l i : ℕ) (a : List ℕ) → i < length a → set (lanes l i v ++ drop i a) i (lane (l + i) v) ≡ lanes l (suc i) v ++ drop (suc i) a
unfolding lanes
lanes-more v l zero [] h = absurd (omega arith)
lanes-more v l zero (x ∷ a) h = ap (λ k. lane k v ∷ a) (add-zero l)
lanes-more v l (suc i) [] h = absurd (omega arith)
lanes-more v l (suc i) (x ∷ a) h = ap (λ r. lane l v ∷ r) (ap (λ k. set (lanes (suc l) i v ++ drop i a) i (lane k v)) (add-suc l i ∙ sym (suc-add l i)) ∙ lanes-more v (suc l) i a (omega arith))

pub lanes-turn : (v a : List ℕ) {i j : ℕ} → i < length a → j ≡ suc i → set (lanes 0 i v ++ drop i a) i (lane i v) ≡ lanes 0 j v ++ drop j a
lanes-turn v a {i} {j} h e = ap (λ k. set (lanes 0 i v ++ drop i a) i (lane k v)) (sym (zero-add i)) ∙ lanes-more v 0 i a h ∙ ap (λ k. lanes 0 k v ++ drop k a) (sym e)

-- ---- the mix, as a list

module _ (F : Field) (monic : FullDegree F) (n t : ℕ) where
  -- a vector's lanes and one more
  column : ℕ → List ℕ → List ℕ
  column c g = lanes 0 n (words_at F.degree g 0) ++ behind c t ∷ []

  column-at : (c : ℕ) (g : List ℕ) (i : ℕ) → i < n → get_or (column c g) i 0 ≡ lane i (words_at F.degree g 0)
  unfolding column
  column-at c g i h =
      get_or-append (lanes 0 n (words_at F.degree g 0)) (behind c t ∷ []) 0 i (omega (arith, length-lanes 0 n (words_at F.degree g 0)))
      ∙ lanes_at 0 n (words_at F.degree g 0) i h ∙ ap (λ j. lane j (words_at F.degree g 0)) (zero-add i)

  column-behind : (c : ℕ) (g : List ℕ) → get_or (column c g) n 0 ≡ behind c t
  unfolding column
  column-behind c g = get_or_at (lanes 0 n (words_at F.degree g 0)) (behind c t) [] 0 n (length-lanes 0 n (words_at F.degree g 0))

  length-column : (c : ℕ) (g : List ℕ) → length (column c g) ≡ suc n
  unfolding column
  length-column c g = length-append (lanes 0 n (words_at F.degree g 0)) (behind c t ∷ []) ∙ omega (arith, length-lanes 0 n (words_at F.degree g 0))

  mix-place : (x : ℕ) (f : List ℕ) (c : ℕ) (g : List ℕ) (i : ℕ) → get_or (mix (numbers F) (x ∷ f) (columns_of F.degree n t (suc c) g)) i 0
      ≡ bit_xor (mul F x (get_or (column c g) i 0)) (get_or (mix (numbers F) f (columns_of F.degree n t c (drop F.degree g))) i 0)
  unfolding mix columns_of column
  mix-place x f c g i =
      get_or-add (numbers F) (λ x. refl) xor_zero_r (scaled (numbers F) x (column c g)) (mix (numbers F) f (columns_of F.degree n t c (drop F.degree g))) i
      ∙ ap (λ y. bit_xor y (get_or (mix (numbers F) f (columns_of F.degree n t c (drop F.degree g))) i 0)) (get_or-scaled (numbers F) x (mul-zero-r F monic x) (column c g) i)

  -- a place of the mix is a lane of the mixed vectors
  mix-at : (f : List ℕ) (c : ℕ) (g : List ℕ) → length f ≤ c → (i : ℕ) → i < n → get_or (mix (numbers F) f (columns_of F.degree n t c g)) i 0 ≡ mix_at F i f g
  unfolding mix mix_at
  mix-at [] c g h i k = refl
  mix-at (x ∷ f) zero g h i k = absurd (omega arith)
  mix-at (x ∷ f) (suc c) g h i k =
      mix-place x f c g i ∙ ap₂ bit_xor (ap (mul F x) (column-at c g i k)) (mix-at f c (drop F.degree g) (omega arith) i k)

  -- behind the lanes only the last column counts
  mix-behind : (f : List ℕ) (c : ℕ) (g : List ℕ) → length f ≤ suc c → get_or (mix (numbers F) f (columns_of F.degree n t (suc c) g)) n 0 ≡ mul F (get_or f c 0) t
  unfolding mix columns_of
  mix-behind [] c g h = sym (mul-zero-l F monic t)
  mix-behind (x ∷ []) zero g h = mix-place x [] 0 g n ∙ ap₂ bit_xor (ap (mul F x) (column-behind 0 g)) refl ∙ xor_zero_r (mul F x t)
  mix-behind (x ∷ y ∷ f) zero g h = absurd (omega arith)
  mix-behind (x ∷ f) (suc c) g h =
      mix-place x f (suc c) g n ∙ ap₂ bit_xor (ap (mul F x) (column-behind (suc c) g) ∙ mul-zero-r F monic x) (mix-behind f c (drop F.degree g) (omega arith))

  columns-long : (c : ℕ) (g : List ℕ) → All (λ b. length b ≡ suc n) (columns_of F.degree n t c g)
  unfolding columns_of column
  columns-long zero g = tt
  columns-long (suc c) g = (length-column c g, columns-long c (drop F.degree g))

length-mix : (F : Field) (monic : FullDegree F) (k : ℕ) (f : List ℕ) (columns : List (List ℕ)) → All (λ b. length b ≡ k) columns → 1 ≤ length f → length f ≤ length columns
    → length (mix (numbers F) f columns) ≡ k
unfolding mix
length-mix F monic k [] columns all h l = absurd (omega arith)
length-mix F monic k (x ∷ f) [] all h l = absurd (omega arith)
length-mix F monic k (x ∷ []) (b ∷ columns) all h l = length-add-le (numbers F) (scaled (numbers F) x b) [] (omega arith) ∙ length-map b (mul F x) ∙ all.0
length-mix F monic k (x ∷ y ∷ f) (b ∷ columns) all h l =
    length-add F (mul-zero-r F monic) (scaled (numbers F) x b) (mix (numbers F) (y ∷ f) columns) k (length-map b (mul F x) ∙ all.0) (length-mix F monic k (y ∷ f) columns all.1 (omega arith) (omega arith))

-- the mix of columns and of those that go on behind them
mix-join : (F : Field) (xs ys : List (List ℕ)) (f : List ℕ) → (i : ℕ) → get_or (mix (numbers F) f (xs ++ ys)) i 0
    ≡ bit_xor (get_or (mix (numbers F) (take (length xs) f) xs) i 0) (get_or (mix (numbers F) (drop (length xs) f) ys) i 0)
unfolding mix
mix-join F [] ys f i = refl
mix-join F (x ∷ xs) ys [] i = refl
mix-join F (x ∷ xs) ys (c ∷ f) i =
    get_or-add (numbers F) (λ x. refl) xor_zero_r (scaled (numbers F) c x) (mix (numbers F) f (xs ++ ys)) i
    ∙ ap (bit_xor (get_or (scaled (numbers F) c x) i 0)) (mix-join F xs ys f i)
    ∙ sym (xor_assoc (get_or (scaled (numbers F) c x) i 0) _ _)
    ∙ ap (λ y. bit_xor y (get_or (mix (numbers F) (drop (length xs) f) ys) i 0))
    (sym (get_or-add (numbers F) (λ x. refl) xor_zero_r (scaled (numbers F) c x) (mix (numbers F) (take (length xs) f) xs) i))

-- a place of two blocks and one more, brought together for the coset of c
coset-place : (F : Field) (monic : FullDegree F) (B : List (Step ℕ)) (a : List ℕ) (c i : ℕ) → i < 2 ^ length B
    → get_or (coset_of (numbers F) B 2 a c) i 0
    ≡ bit_xor (get_or a i 0) (mul F (vanishing (numbers F) B c) (bit_xor (get_or a (2 ^ length B + i) 0)
    (mul F (vanishing (numbers F) B c) (get_or (get_or a (2 ^ length B + 2 ^ length B) 0 ∷ []) i 0))))
unfolding coset_of
coset-place F monic B a c i h =
    get_or-add (numbers F) (λ x. refl) xor_zero_r (take n a) (scaled (numbers F) w (coset_of (numbers F) B 1 (drop n a) c)) i
    ∙ ap₂ bit_xor (get_or-take n a i 0 h)
    (get_or-scaled (numbers F) w (mul-zero-r F monic w) (coset_of (numbers F) B 1 (drop n a) c) i
    ∙ ap (mul F w)
    (get_or-add (numbers F) (λ x. refl) xor_zero_r (take n (drop n a)) (scaled (numbers F) w (get_or (drop n (drop n a)) 0 0 ∷ [])) i
    ∙ ap₂ bit_xor (get_or-take n (drop n a) i 0 h ∙ get_or-drop n a i 0)
    (get_or-scaled (numbers F) w (mul-zero-r F monic w) (get_or (drop n (drop n a)) 0 0 ∷ []) i
    ∙ ap (λ y. mul F w (get_or (y ∷ []) i 0)) (get_or-drop n (drop n a) 0 0 ∙ get_or-drop n a (n + 0) 0 ∙ ap (λ k. get_or a (n + k) 0) (add-zero n)))))
  where
    n : ℕ
    n = 2 ^ length B

    w : ℕ
    w = vanishing (numbers F) B c

length-coset : (F : Field) (B : List (Step ℕ)) (a : List ℕ) (c : ℕ) → 2 ^ length B + 2 ^ length B ≤ length a → length (coset_of (numbers F) B 2 a c) ≡ 2 ^ length B
unfolding coset_of
length-coset F B a c h =
    length-add-le (numbers F) (take n a) (scaled (numbers F) w (coset_of (numbers F) B 1 (drop n a) c))
    (omega (arith, length-take-le n a (omega arith), length-map (coset_of (numbers F) B 1 (drop n a) c) (mul F w), inner)) ∙ length-take-le n a (omega arith)
  where
    n : ℕ
    n = 2 ^ length B

    w : ℕ
    w = vanishing (numbers F) B c

    long : length (take n (drop n a)) ≡ n
    long = length-take-le n (drop n a) (omega (arith, length-drop n a))

    inner : length (coset_of (numbers F) B 1 (drop n a) c) ≡ n
    inner = length-add-le (numbers F) (take n (drop n a)) (scaled (numbers F) w (get_or (drop n (drop n a)) 0 0 ∷ [])) (omega (arith, long, pow_pos (length B))) ∙ long

-- ---- the points

module _ (F : Field) where
  points-from : (B : List (Step ℕ)) (c d : ℕ) → points (numbers F) (levels (numbers F) B) (bit_xor c d) ≡ map (bit_xor c) (points (numbers F) (levels (numbers F) B) d)
  unfolding points levels
  points-from [] c d = refl
  points-from (s ∷ B) c d =
      ap₂ ◌++◌ (points-from B c d) (ap (points (numbers F) (levels (numbers F) B)) (xor_assoc c d s.step) ∙ points-from B c (bit_xor d s.step))
      ∙ sym (map-append (bit_xor c) (points (numbers F) (levels (numbers F) B) d) _)

map_at : (f : ℕ → ℕ) (l : List ℕ) (i : ℕ) → i < length l → get_or (map f l) i 0 ≡ f (get_or l i 0)
map_at f [] i h = absurd (omega arith)
map_at f (x ∷ l) zero h = refl
map_at f (x ∷ l) (suc i) h = map_at f l i (omega arith)

-- n numbers, 64 apart
apart : ℕ → ℕ → List ℕ
apart zero x = []
apart (suc n) x = x * 64 ∷ apart n (suc x)

length-apart : (n x : ℕ) → length (apart n x) ≡ n
unfolding apart
length-apart zero x = refl
length-apart (suc n) x = ap suc (length-apart n (suc x))

apart-at : (n x i : ℕ) → i < n → get_or (apart n x) i 0 ≡ (x + i) * 64
unfolding apart
apart-at zero x i h = absurd (omega arith)
apart-at (suc n) x zero h = ap (λ j. j * 64) (sym (add-zero x))
apart-at (suc n) x (suc i) h = apart-at n (suc x) i (omega arith) ∙ ap (λ j. j * 64) (suc-add x i ∙ sym (add-suc x i))

points11 : points (numbers (field_by taps11)) (levels (numbers (field_by taps11)) steps11) 0 ≡ apart 32 0
unfolding points levels apart
points11 = refl

-- the point of word w in lane l
pub point_at : (l w : ℕ) → l < 64 → w < 32 → get_or (points (numbers (field_by taps11)) (levels (numbers (field_by taps11)) steps11) l) w 0 ≡ w * 64 + l
point_at l w h k =
    ap (λ p. get_or p w 0) (ap (points (numbers (field_by taps11)) (levels (numbers (field_by taps11)) steps11)) (sym (xor_zero_r l)) ∙ points-from (field_by taps11) steps11 l 0 ∙ ap (map (bit_xor l)) points11)
    ∙ map_at (bit_xor l) (apart 32 0) w (omega (arith, length-apart 32 0))
    ∙ ap (bit_xor l) (apart-at 32 0 w k ∙ ap (λ j. j * 64) (zero-add w)) ∙ xor_comm l (w * 64) ∙ xor_shifted w 6 l h

length-points : (l : ℕ) → length (points (numbers (field_by taps11)) (levels (numbers (field_by taps11)) steps11) l) ≡ 32
length-points l =
    ap length (ap (points (numbers (field_by taps11)) (levels (numbers (field_by taps11)) steps11)) (sym (xor_zero_r l)) ∙ points-from (field_by taps11) steps11 l 0 ∙ ap (map (bit_xor l)) points11)
    ∙ length-map (apart 32 0) (bit_xor l) ∙ length-apart 32 0

-- ---- the values

pub numbers11 : OnNumbers (numbers (field_by taps11)) 2048
unfolding digits_number
numbers11 = known-numbers row11

-- a coefficient, or the 0 behind them
below-everywhere : (f : List ℕ) (i : ℕ) → Below 2048 f → get_or f i 0 < 2048
below-everywhere [] i h = omega arith
below-everywhere (x ∷ f) zero h = h.0
below-everywhere (x ∷ f) (suc i) h = below-everywhere f i h.1

all-columns : (m n t c : ℕ) (g : List ℕ) → t < 2 ^ m → All (Below (2 ^ m)) (columns_of m n t c g)
unfolding columns_of
all-columns m n t zero g h = tt
all-columns m n t (suc c) g h = (all_append (λ c. c < 2 ^ m) (lanes 0 n (words_at m g 0)) (behind c t ∷ []) (lanes-below m 0 n (words_at m g 0) (length-tabulate m _)) (behind-below c, tt), all-columns m n t c (drop m g) h)
  where
    behind-below : (c : ℕ) → behind c t < 2 ^ m
    behind-below zero = h
    behind-below (suc c) = pow_pos m

length-columns : (m n t c : ℕ) (g : List ℕ) → length (columns_of m n t c g) ≡ c
unfolding columns_of
length-columns m n t zero g = refl
length-columns m n t (suc c) g = ap suc (length-columns m n t c (drop m g))

zeros : (n : ℕ) → All (λ c. ◌≡◌ {A = ℕ} c 0) (replicate n 0)
zeros zero = tt
zeros (suc n) = (refl, zeros n)

abbrev N : Ops ℕ
N = numbers (field_by taps11)

-- ---- a polynomial in blocks

-- the columns of the first table, and those of both
lower_columns : List ℕ → List (List ℕ)
lower_columns g = columns_of 11 64 0 32 (drop 11 g)

both_columns : List ℕ → List ℕ → List (List ℕ)
both_columns g h = lower_columns g ++ columns_of 11 64 1 32 h

-- the one of z^0 ahead
lower-first : {g : List ℕ} → FirstColumns taps11 steps11 2 32 g → power_in N steps11 2 0 ∷ lower_columns g ≡ columns_of 11 64 0 33 g
unfolding columns_of lower_columns
lower-first {g} C = ap (λ a. a ∷ columns_of 11 64 0 32 (drop 11 g)) (sym C.first)

-- what stands for f by these columns
in_blocks : {f a : List ℕ} (columns : List (List ℕ)) → Below 2048 f → 1 ≤ length f → length f ≤ suc (length columns) → ColumnsOf N steps11 2 (power_in N steps11 2 0) columns
    → All (Below 2048) columns → length a ≡ 65 → Below 2048 a → a ≡ mix N f (power_in N steps11 2 0 ∷ columns) → InBlocks taps11 steps11 2 f a
unfolding power_in
in_blocks {f} {a} columns small some few cs below long ba e = record {
  long = long;
  small = ba;
  values = λ c h. ap (λ l. transform N (mults N (levels N steps11) c) (coset_of N steps11 2 l c)) e
      ∙ values-blocks numbers11 1 steps11 small11 right11 f small (replicate 64 0) (zeros 64) columns below (omega (arith, length-replicate {A = ℕ} 64 0)) cs some few c h;
}

-- one table is enough for as many coefficients as it has columns
pub in-lower : {f g v : List ℕ} → Below 2048 f → 1 ≤ length f → length f ≤ 33 → FirstColumns taps11 steps11 2 32 g → Mixed taps11 f g v
    → InBlocks taps11 steps11 2 f (lanes 0 64 v ++ 0 ∷ [])
unfolding lower_columns
in-lower {f} {g} {v} small some few C M =
    in_blocks (lower_columns g) small some (omega (arith, length-columns 11 64 0 32 (drop 11 g))) C.others.columns (all-columns 11 64 0 32 (drop 11 g) (omega arith))
    long (all_append (λ c. c < 2048) (lanes 0 64 v) (0 ∷ []) (lanes-below 11 0 64 v M.long) (omega arith, tt))
    (ext_get_or 0 a (mix N f (columns_of 11 64 0 33 g)) (long ∙ sym (length-mix (field_by taps11) monic11 65 f (columns_of 11 64 0 33 g) (columns-long (field_by taps11) monic11 64 0 33 g) some (omega (arith, length-columns 11 64 0 33 g)))) (λ i h. at i (ℕ_discrete i 64) (omega (arith, long)))
    ∙ ap (mix N f) (sym (lower-first C)))
  where
    a : List ℕ
    a = lanes 0 64 v ++ 0 ∷ []

    long : length a ≡ 65
    long = length-append (lanes 0 64 v) (0 ∷ []) ∙ omega (arith, length-lanes 0 64 v)

    at : (i : ℕ) → Dec (i ≡ 64) → i < 65 → get_or a i 0 ≡ get_or (mix N f (columns_of 11 64 0 33 g)) i 0
    at i (yes e) h =
        ap (λ (k : ℕ). get_or a k 0) e ∙ get_or_at (lanes 0 64 v) 0 [] 0 64 (length-lanes 0 64 v)
        ∙ sym (mul-zero-r (field_by taps11) monic11 (get_or f 32 0)) ∙ sym (mix-behind (field_by taps11) monic11 64 0 f 32 g few) ∙ ap (λ (k : ℕ). get_or (mix N f (columns_of 11 64 0 33 g)) k 0) (sym e)
    at i (no e) h =
        let k : i < 64 = omega (arith, e) in
        get_or-append (lanes 0 64 v) (0 ∷ []) 0 i (omega (arith, length-lanes 0 64 v)) ∙ lanes_at 0 64 v i k ∙ ap (λ (j : ℕ). lane j v) (zero-add i) ∙ M.lanes i
        ∙ sym (mix-at (field_by taps11) monic11 64 0 f 33 g few i k)

-- both tables
pub in_both : {f g h u v w : List ℕ} {t : ℕ} → Below 2048 f → 33 ≤ length f → length f ≤ 65 → FirstColumns taps11 steps11 2 32 g → ColumnTable taps11 steps11 2 32 32 1 h
    → Mixed taps11 (take 33 f) g u → Mixed taps11 (drop 33 f) h v → w ≡ sum_words 11 u v → t ≡ get_or f 64 0
    → InBlocks taps11 steps11 2 f (lanes 0 64 w ++ t ∷ [])
unfolding lower_columns both_columns
in_both {f} {g} {h} {u} {v} {w} {t} small some few C D M R ew et =
    in_blocks (both_columns g h) small (omega arith) (omega (arith, many)) joined below
    long (all_append (λ c. c < 2048) (lanes 0 64 w) (t ∷ []) (lanes-below 11 0 64 w nw) (bt, tt))
    (ext_get_or 0 a whole (long ∙ sym length_whole) (λ i k. at i (ℕ_discrete i 64) (omega (arith, long))) ∙ ap (λ l. mix N f (l ++ columns_of 11 64 1 32 h)) (sym (lower-first C)))
  where
    lower : List (List ℕ)
    lower = columns_of 11 64 0 33 g

    upper : List (List ℕ)
    upper = columns_of 11 64 1 32 h

    whole : List ℕ
    whole = mix N f (lower ++ upper)

    a : List ℕ
    a = lanes 0 64 w ++ t ∷ []

    nw : length w ≡ 11
    nw = ap length ew ∙ length-tabulate 11 (λ k. bit_xor (get_or u k 0) (get_or v k 0))

    bt : t < 2048
    bt = subst (λ (x : ℕ). x < 2048) (sym et) (below-everywhere f 64 small)

    long : length a ≡ 65
    long = length-append (lanes 0 64 w) (t ∷ []) ∙ omega (arith, length-lanes 0 64 w)

    many : length (both_columns g h) ≡ 64
    many = length-append (columns_of 11 64 0 32 (drop 11 g)) upper ∙ omega (arith, length-columns 11 64 0 32 (drop 11 g), length-columns 11 64 1 32 h)

    joined : ColumnsOf N steps11 2 (power_in N steps11 2 0) (both_columns g h)
    joined = columns-join N steps11 2 0 (columns_of 11 64 0 32 (drop 11 g)) upper C.others.columns
        (subst (λ (k : ℕ). ColumnsOf N steps11 2 (power_in N steps11 2 k) upper) (sym (zero-add (length (columns_of 11 64 0 32 (drop 11 g))) ∙ length-columns 11 64 0 32 (drop 11 g))) D.columns)

    below : All (Below 2048) (both_columns g h)
    below = all_append (Below 2048) (columns_of 11 64 0 32 (drop 11 g)) upper (all-columns 11 64 0 32 (drop 11 g) (omega arith)) (all-columns 11 64 1 32 h (omega arith))

    -- the parts of the mix
    place : (i : ℕ) → get_or whole i 0 ≡ bit_xor (get_or (mix N (take 33 f) lower) i 0) (get_or (mix N (drop 33 f) upper) i 0)
    place i = mix-join (field_by taps11) lower upper f i
        ∙ ap (λ (k : ℕ). bit_xor (get_or (mix N (take k f) lower) i 0) (get_or (mix N (drop k f) upper) i 0)) (length-columns 11 64 0 33 g)

    front : length (take 33 f) ≡ 33
    front = length-take-le 33 f some

    rest : length (drop 33 f) ≤ 32
    rest = omega (arith, length-drop 33 f)

    length_whole : length whole ≡ 65
    length_whole =
        length-mix (field_by taps11) monic11 65 f (lower ++ upper)
        (all_append (λ b. length b ≡ 65) lower upper (columns-long (field_by taps11) monic11 64 0 33 g) (columns-long (field_by taps11) monic11 64 1 32 h)) (omega arith)
        (omega (arith, length-append lower upper, length-columns 11 64 0 33 g, length-columns 11 64 1 32 h))

    at : (i : ℕ) → Dec (i ≡ 64) → i < 65 → get_or a i 0 ≡ get_or whole i 0
    at i (yes e) k =
        ap (λ (k : ℕ). get_or a k 0) e ∙ get_or_at (lanes 0 64 w) t [] 0 64 (length-lanes 0 64 w) ∙ et
        ∙ sym (ap (λ (k : ℕ). get_or whole k 0) e ∙ place 64
        ∙ ap₂ bit_xor (mix-behind (field_by taps11) monic11 64 0 (take 33 f) 32 g (omega (arith, front)) ∙ mul-zero-r (field_by taps11) monic11 (get_or (take 33 f) 32 0))
        (mix-behind (field_by taps11) monic11 64 1 (drop 33 f) 31 h rest ∙ ap (λ x. mul (field_by taps11) x 1) (get_or-drop 33 f 31 0) ∙ mul-one-r (field_by taps11) monic11 (get_or f 64 0) (below-everywhere f 64 small)))
    at i (no e) k =
        let b : i < 64 = omega (arith, e) in
        get_or-append (lanes 0 64 w) (t ∷ []) 0 i (omega (arith, length-lanes 0 64 w)) ∙ lanes_at 0 64 w i b ∙ ap (λ (j : ℕ). lane j w) (zero-add i)
        ∙ ap (lane i) (ew ∙ sum-words 11 u v M.long R.long) ∙ lane-sum i u v ∙ ap₂ bit_xor (M.lanes i) (R.lanes i)
        ∙ sym (place i ∙ ap₂ bit_xor (mix-at (field_by taps11) monic11 64 0 (take 33 f) 33 g (omega (arith, front)) i b) (mix-at (field_by taps11) monic11 64 1 (drop 33 f) 32 h rest i b))

-- the code stores the one more behind the lanes
set-behind : (l : List ℕ) (x y : ℕ) → set (l ++ y ∷ []) (length l) x ≡ l ++ x ∷ []
set-behind [] x y = refl
set-behind (z ∷ l) x y = ap (λ r. z ∷ r) (set-behind l x y)

pub blocks-read : {f g h u v w y : List ℕ} {t : ℕ} → Below 2048 f → 33 ≤ length f → length f ≤ 65 → FirstColumns taps11 steps11 2 32 g → ColumnTable taps11 steps11 2 32 32 1 h
    → Mixed taps11 (take 33 f) g u → Mixed taps11 (take (length f - 33) (drop 33 f)) h v → w ≡ sum_words 11 u v → y ≡ lanes 0 64 w → t ≡ get_or f 64 0
    → InBlocks taps11 steps11 2 f (set (y ++ 0 ∷ []) 64 t)
blocks-read {f} {h = h} {v = v} {w = w} {y = y} {t = t} small some few C D M R ew ey et =
    subst (InBlocks taps11 steps11 2 f)
    (sym (ap (λ (k : ℕ). set (y ++ 0 ∷ []) k t) (sym (ap length ey ∙ length-lanes 0 64 w)) ∙ set-behind y t 0 ∙ ap (λ l. l ++ t ∷ []) ey))
    (in_both small some few C D M (subst (λ (l : List ℕ). Mixed taps11 l h v) (lent-tail f 33) R) ew et)

-- ---- the row

-- a row whose lanes are the values at the points holds the values
values-end : {f p : List ℕ} → ((l : ℕ) → l < 64 → lane_row 11 l 32 p ≡ map (eval N f) (points N (levels N steps11) l)) → Values taps11 f p 32
values-end {f} {p} rows = record {
  lanes = λ w hw l hl. sym (lane_row-at 11 l 32 p w hw) ∙ ap (λ r. get_or r w 0) (rows l hl)
      ∙ map_at (eval N f) (points N (levels N steps11) l) w (omega (arith, length-points l)) ∙ ap (eval N f) (point_at l w hl hw);
}

-- one block: nothing stands above its own 32 coefficients but one more, which changes the first
values-lanes : {f g cols top v x p p' : List ℕ} → Below 2048 f → 1 ≤ length f → length f ≤ 33
    → FirstColumns taps11 steps11 2 32 cols → TopTable taps11 steps11 top → TreeTable taps11 steps11 g → Mixed taps11 f cols v
    → ((l : ℕ) → l < 64 → lane l x ≡ bit_xor (get_or (lanes 0 33 v) 0 0) (mul (field_by taps11) (get_or (lanes 0 33 v) 32 0) (lane l top)))
    → RowStarted taps11 5 g x (take 32 (lanes 0 33 v)) p p' → Values taps11 f p' 32
values-lanes {f} {g} {cols} {top} {v} {x} {p} {p'} small some few C T G M first R =
    values-end (λ l hl. R.rows l hl ∙ ap₂ (transform N) (G.multipliers l hl) (begun l hl) ∙ (in-lower small some few C M).values l (omega arith))
  where
    a : List ℕ
    a = lanes 0 64 v ++ 0 ∷ []

    long : length a ≡ 65
    long = (in-lower small some few C M).long

    lane-is : (i : ℕ) → i < 64 → get_or a i 0 ≡ lane i v
    lane-is i h = get_or-append (lanes 0 64 v) (0 ∷ []) 0 i (omega (arith, length-lanes 0 64 v)) ∙ lanes_at 0 64 v i h ∙ ap (λ (j : ℕ). lane j v) (zero-add i)

    above : (i : ℕ) → 33 ≤ i → i < 64 → get_or a i 0 ≡ 0
    above i h k = lane-is i k ∙ M.lanes i ∙ mix-zero (field_by taps11) (mul-zero-r (field_by taps11) monic11) i f cols (λ j l. C.above j i (omega arith) (omega arith) k)

    last : get_or a 64 0 ≡ 0
    last = get_or_at (lanes 0 64 v) 0 [] 0 64 (length-lanes 0 64 v)

    -- with nothing behind the upper block
    place : (l i : ℕ) → i < 32 → get_or (coset_of N steps11 2 a l) i 0 ≡ bit_xor (get_or a i 0) (mul (field_by taps11) (vanishing N steps11 l) (get_or a (32 + i) 0))
    place l i h =
        coset-place (field_by taps11) monic11 steps11 a l i h
        ∙ ap (λ y. bit_xor (get_or a i 0) (mul (field_by taps11) (vanishing N steps11 l) (bit_xor (get_or a (32 + i) 0) y)))
        (ap (mul (field_by taps11) (vanishing N steps11 l)) (ap (λ y. get_or (y ∷ []) i 0) last ∙ get_or-zeros 1 i) ∙ mul-zero-r (field_by taps11) monic11 (vanishing N steps11 l))
        ∙ ap (λ y. bit_xor (get_or a i 0) (mul (field_by taps11) (vanishing N steps11 l) y)) (xor_zero_r (get_or a (32 + i) 0))

    begun : (l : ℕ) → l < 64 → lane l x ∷ drop 1 (take 32 (lanes 0 33 v)) ≡ coset_of N steps11 2 a l
    begun l h = ext_get_or 0 (lane l x ∷ drop 1 (take 32 (lanes 0 33 v))) (coset_of N steps11 2 a l) (n ∙ sym (length-coset (field_by taps11) steps11 a l (omega (arith, long)))) (λ i k. at i (omega (arith, n)))
      where
        n : length (lane l x ∷ drop 1 (take 32 (lanes 0 33 v))) ≡ 32
        n = ap suc (length-drop 1 (take 32 (lanes 0 33 v)) ∙ omega (arith, length-take-le 32 (lanes 0 33 v) (omega (arith, length-lanes 0 33 v))))

        at : (i : ℕ) → i < 32 → get_or (lane l x ∷ drop 1 (take 32 (lanes 0 33 v))) i 0 ≡ get_or (coset_of N steps11 2 a l) i 0
        at zero k =
            first l h ∙ ap₂ (λ s t. bit_xor s (mul (field_by taps11) t (lane l top))) (lanes_at 0 33 v 0 (omega arith) ∙ sym (lane-is 0 (omega arith))) (lanes_at 0 33 v 32 (omega arith) ∙ sym (lane-is 32 (omega arith)))
            ∙ ap (λ y. bit_xor (get_or a 0 0) y) (mul_comm (field_by taps11) monic11 (get_or a 32 0) (lane l top) ∙ ap (λ y. mul (field_by taps11) y (get_or a 32 0)) (T.lanes l h)) ∙ sym (place l 0 k)
        at (suc i) k =
            get_or-drop 1 (take 32 (lanes 0 33 v)) i 0 ∙ ap (λ (j : ℕ). get_or (take 32 (lanes 0 33 v)) j 0) (omega arith) ∙ get_or-take 32 (lanes 0 33 v) (suc i) 0 k
            ∙ lanes_at 0 33 v (suc i) (omega arith) ∙ ap (λ (j : ℕ). lane j v) (zero-add (suc i)) ∙ sym (lane-is (suc i) (omega arith))
            ∙ sym (place l (suc i) k ∙ ap (bit_xor (get_or a (suc i) 0)) (ap (mul (field_by taps11) (vanishing N steps11 l)) (above (32 + suc i) (omega arith) (omega arith)) ∙ mul-zero-r (field_by taps11) monic11 (vanishing N steps11 l)) ∙ xor_zero_r (get_or a (suc i) 0))

pub values_one : {f g cols top v a x p p' : List ℕ} → Below 2048 f → 1 ≤ length f → length f ≤ 33
    → FirstColumns taps11 steps11 2 32 cols → TopTable taps11 steps11 top → TreeTable taps11 steps11 g → Mixed taps11 f cols v → a ≡ lanes 0 33 v
    → ((l : ℕ) → l < 64 → lane l x ≡ bit_xor (get_or a 0 0) (mul (field_by taps11) (get_or a 32 0) (lane l top)))
    → RowStarted taps11 5 g x (take 32 a) p p' → Values taps11 f p' 32
values_one {g = g} {top = top} {x = x} {p = p} {p' = p'} small some few C T G M e first R =
    values-lanes small some few C T G M (λ l h. first l h ∙ ap (λ s. bit_xor (get_or s 0 0) (mul (field_by taps11) (get_or s 32 0) (lane l top))) e)
    (subst (λ (s : List ℕ). RowStarted taps11 5 g x (take 32 s) p p') e R)

-- two blocks: the row of both, with what stands behind them in the first vector, transformed
pub values-two : {f a top squares m y x g p₀ p₁ p₂ p' : List ℕ} → InBlocks taps11 steps11 2 f a → TopTable taps11 steps11 top → SquareTable taps11 steps11 squares → TreeTable taps11 steps11 g
    → length p₀ ≡ 352 → TwoBlocks taps11 top a 32 32 p₀ p₁ → Multiple taps11 (get_or a 64 0) squares m → y ≡ words_at 11 p₁ 0 → x ≡ sum_words 11 y m → p₂ ≡ paste p₁ 0 x 11
    → p' ≡ transform_at taps11 5 g p₂ → Values taps11 f p' 32
values-two {f} {a} {top} {squares} {m} {y} {x} {g} {p₀} {p₁} {p₂} {p'} I T Q G n R M ey ex e₂ e' =
    values-end (λ l hl. ap (lane_row 11 l 32) e' ∙ row-run taps11 digits11 l 5 g p₂ n₂ ∙ ap₂ (transform N) (G.multipliers l hl) (row l hl) ∙ I.values l (omega arith))
  where
    F : Field
    F = field_by taps11

    n₁ : length p₁ ≡ 352
    n₁ = R.long ∙ n

    nx : length x ≡ 11
    nx = ap length ex ∙ length-tabulate 11 (λ k. bit_xor (get_or y k 0) (get_or m k 0))

    n₂ : length p₂ ≡ 352
    n₂ = ap length e₂ ∙ length-paste p₁ 0 x 11 (omega (arith, n₁)) (omega (arith, nx)) ∙ n₁

    w-first : words_at 11 p₂ 0 ≡ x
    w-first = ap (λ w. words_at 11 w 0) e₂ ∙ words_same p₁ x 0 11 (omega (arith, n₁)) nx

    w-other : (i : ℕ) → 0 < i → words_at 11 p₂ (i * 11) ≡ words_at 11 p₁ (i * 11)
    w-other i h = ap (λ w. words_at 11 w (i * 11)) e₂ ∙ words-other 11 p₁ x 0 i (omega (arith, n₁)) nx (λ z. omega arith)

    row : (l : ℕ) → l < 64 → lane_row 11 l 32 p₂ ≡ coset_of N steps11 2 a l
    row l h = ext_get_or 0 (lane_row 11 l 32 p₂) (coset_of N steps11 2 a l) (length-row 11 l 32 p₂ ∙ sym (length-coset F steps11 a l (omega (arith, I.long)))) (λ i k. at i (omega (arith, length-row 11 l 32 p₂)))
      where
        w : ℕ
        w = vanishing N steps11 l

        two : (i : ℕ) → i < 32 → lane l (words_at 11 p₁ (i * 11)) ≡ bit_xor (get_or a i 0) (mul F w (get_or a (32 + i) 0))
        two i k = R.rows i k l h ∙ ap (bit_xor (get_or a i 0)) (mul_comm F monic11 (get_or a (32 + i) 0) (lane l top) ∙ ap (λ y. mul F y (get_or a (32 + i) 0)) (T.lanes l h))

        -- t times the square of w
        square : lane l m ≡ mul F w (mul F w (get_or a 64 0))
        square = M.lanes l ∙ mul_comm F monic11 (get_or a 64 0) (lane l squares) ∙ ap (λ y. mul F y (get_or a 64 0)) (Q.lanes l h) ∙ mul_assoc F monic11 w w (get_or a 64 0)

        at : (i : ℕ) → i < 32 → get_or (lane_row 11 l 32 p₂) i 0 ≡ get_or (coset_of N steps11 2 a l) i 0
        at zero k =
            lane_row-at 11 l 32 p₂ 0 k ∙ ap (lane l) (w-first ∙ ex ∙ sum-words 11 y m (ap length ey ∙ length-tabulate 11 (λ k. get_or p₁ (0 + k) 0)) M.long) ∙ lane-sum l y m
            ∙ ap₂ bit_xor (ap (lane l) ey ∙ two 0 k) square ∙ xor_assoc (get_or a 0 0) (mul F w (get_or a 32 0)) (mul F w (mul F w (get_or a 64 0)))
            ∙ ap (bit_xor (get_or a 0 0)) (sym (mul-xor-r F monic11 w (get_or a 32 0) (mul F w (get_or a 64 0)))) ∙ sym (coset-place F monic11 steps11 a l 0 k)
        at (suc i) k =
            lane_row-at 11 l 32 p₂ (suc i) k ∙ ap (lane l) (w-other (suc i) (omega arith)) ∙ two (suc i) k
            ∙ sym (coset-place F monic11 steps11 a l (suc i) k ∙ ap (λ y. bit_xor (get_or a (suc i) 0) (mul F w y)) (ap (bit_xor (get_or a (32 + suc i) 0)) (mul-zero-r F monic11 w) ∙ xor_zero_r (get_or a (32 + suc i) 0)))

-- ---- what the code hands over

-- the lanes behind the coefficients are 0
pub lanes-filled : {f cols v a : List ℕ} → length f ≤ 33 → FirstColumns taps11 steps11 2 32 cols → Mixed taps11 f cols v
    → a ≡ lanes 0 (length f) v ++ replicate (33 - length f) 0 → a ≡ lanes 0 33 v
lanes-filled {f} {cols} {v} {a} few C M e =
    e ∙ ext_get_or 0 (lanes 0 n v ++ replicate (33 - n) 0) (lanes 0 33 v) (long ∙ sym (length-lanes 0 33 v))
    (λ i h. at i (omega (arith, long)) (dec_lt i n) ∙ sym (lanes_at 0 33 v i (omega (arith, long)) ∙ ap (λ k. lane k v) (zero-add i)))
  where
    n : ℕ
    n = length f

    long : length (lanes 0 n v ++ replicate (33 - n) 0) ≡ 33
    long = length-append (lanes 0 n v) (replicate (33 - n) 0) ∙ omega (arith, length-lanes 0 n v, length-replicate {A = ℕ} (33 - n) 0)

    at : (i : ℕ) → i < 33 → Dec (i < n) → get_or (lanes 0 n v ++ replicate (33 - n) 0) i 0 ≡ lane i v
    at i h (yes k) =
        get_or-append (lanes 0 n v) (replicate (33 - n) 0) 0 i (omega (arith, length-lanes 0 n v)) ∙ lanes_at 0 n v i k ∙ ap (λ j. lane j v) (zero-add i)
    at i h (no k) =
        let d : i ≡ length (lanes 0 n v) + (i - n) = omega (arith, k, length-lanes 0 n v) in
        ap (λ j. get_or (lanes 0 n v ++ replicate (33 - n) 0) j 0) d ∙ get_or-append-add (lanes 0 n v) (replicate (33 - n) 0) (i - n) 0 ∙ get_or-zeros (33 - n) (i - n)
        ∙ sym (M.lanes i ∙ mix-zero (field_by taps11) (mul-zero-r (field_by taps11) monic11) i f cols (λ j l. C.above j i (omega (arith, k)) (omega arith) (omega arith)))

drop-zeros : (n m : ℕ) → drop n (replicate {A = ℕ} m 0) ≡ replicate (m - n) 0
drop-zeros zero m = let e : m ≡ m - 0 = omega arith in ap (λ (k : ℕ). replicate k 0) e
drop-zeros (suc n) zero = let e : 0 ≡ 0 - suc n = omega arith in ap (λ (k : ℕ). replicate k 0) e
drop-zeros (suc n) (suc m) = let e : m - n ≡ suc m - suc n = omega arith in drop-zeros n m ∙ ap (λ (k : ℕ). replicate k 0) e

-- as many lanes as coefficients are read, over zeros
pub lanes-read : {f cols v y : List ℕ} → length f ≤ 33 → FirstColumns taps11 steps11 2 32 cols → Mixed taps11 f cols v
    → y ≡ lanes 0 (length (take (length f) (replicate {A = ℕ} 33 0))) v → y ++ drop (length f) (replicate 33 0) ≡ lanes 0 33 v
lanes-read {f} {cols} {v} {y} few C M e =
    lanes-filled few C M (ap₂ ◌++◌ (e ∙ ap (λ (k : ℕ). lanes 0 k v) (length-take-le (length f) (replicate {A = ℕ} 33 0) few)) (drop-zeros (length f) 33))

pub lanes_small : (a v : List ℕ) → a ≡ lanes 0 33 v → length v ≡ 11 → Below 2048 a
lanes_small a v e h = subst (Below 2048) (sym e) (lanes-below 11 0 33 v h)

pub lanes-long : (a v : List ℕ) → a ≡ lanes 0 33 v → length a ≡ 33
lanes-long a v e = ap length e ∙ length-lanes 0 33 v

pub lanes-front : (a v : List ℕ) → a ≡ lanes 0 33 v → length (take 32 a) ≡ 32
lanes-front a v e = length-take-le 32 a (omega (arith, lanes-long a v e))

pub first-vector : {s t : ℕ} {b c x top : List ℕ} → s < 2048 → b ≡ spread_words 11 s → Multiple taps11 t top c → x ≡ sum_words 11 b c
    → (l : ℕ) → l < 64 → lane l x ≡ bit_xor s (mul (field_by taps11) t (lane l top))
first-vector {s} {t} {b} {c} {x} {top} hs eb ec ex l h =
    let B : Spread taps11 s b = spread-is taps11 s hs eb in
    ap (lane l) (ex ∙ sum-words 11 b c B.long ec.long) ∙ lane-sum l b c ∙ ap₂ bit_xor (B.lanes l h) (ec.lanes l)

-- ---- the lanes that are 0

-- a digit of the complement
not_digit : (z l : ℕ) → l < 64 → bit_xor z 18446744073709551615 / 2 ^ l % 2 ≡ bit_xor (binary_digit l z) 1
not_digit z l h = ap (λ (n : ℕ). n % 2) (xor_shr z 18446744073709551615 l) ∙ xor_mod (z / 2 ^ l) (18446744073709551615 / 2 ^ l) 1 ∙ ap (bit_xor (binary_digit l z)) (all_ones l h)

pub field11 : field_by taps11 ≡ field_at 11
unfolding digits_number poly_in
field11 = refl

module _ {f p : List ℕ} (v : Values taps11 f p 32) (w : ℕ) (hw : w < 32) {z : ℕ} (e : z ≡ occupied (words_at 11 p (w * 11))) (l : ℕ) (hl : l < 64) where
  pub free-hit : bit_xor z 18446744073709551615 / 2 ^ l % 2 ≡ 1 → eval (G 11) f (w * 64 + l) ≡ 0
  free-hit h =
      ap (λ F. eval (numbers F) f (w * 64 + l)) (sym field11) ∙ sym (v.lanes w hw l hl)
      ∙ (lane-is-zero l (words_at 11 p (w * 11))).0 (ap (binary_digit l) (sym e) ∙ bit-cases (λ (d : ℕ). bit_xor d 1 ≡ 1 → d ≡ 0) (λ k. refl) (λ k. absurd (omega arith)) (z / 2 ^ l) (sym (not_digit z l hl) ∙ h))

  pub free-miss : bit_xor z 18446744073709551615 / 2 ^ l % 2 ≡ 0 → eval (G 11) f (w * 64 + l) ≡ 0 → ⊥
  free-miss h k =
      let o : binary_digit l z ≡ 0 = ap (binary_digit l) e ∙ (lane-is-zero l (words_at 11 p (w * 11))).1 (v.lanes w hw l hl ∙ ap (λ F. eval (numbers F) f (w * 64 + l)) field11 ∙ k) in
      let b : ◌≡◌ {A = ℕ} 1 0 = sym (ap (λ (d : ℕ). bit_xor d 1) o) ∙ sym (not_digit z l hl) ∙ h in
      omega arith
