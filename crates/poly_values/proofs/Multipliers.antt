-- The constant tables, for any field: a test over each table, and the law that turns it into the rule.
--   tree_test, tree-right        the multipliers of the transform
--   lane_test, lanes-right       the values of an additive map in the lanes of a vector
--   top_test, top_right, square_test, squares-right   the vanishing map and its square
--   column_test, columns-right   the columns, each z times the one before
--   above_test, above-right      the columns, each with nothing above its own lane
-- Assumes nothing.
use mathlib.Core.Path.{◌≡◌, refl, sym, ap, ap₂, ◌∙◌}
use mathlib.Core.Bool.{Bool, true, false}
use mathlib.Core.List.{List, [], ◌∷◌, ◌++◌}
use Prim.Native.Nat.{ℕ, zero, suc, ◌+◌, ◌*◌, ◌-◌, ◌^◌, ◌<◌, ◌≤◌}
use native.Mathlib.Nat.{add-zero, suc-add, add-suc, zero-add, zero-mul}
use native.Mathlib.Omega.{arith}
use lib.Bits.{bit_xor, xor_zero_r, xor_self, xor_comm, xor_lt}
use lib.Pow.{pow_pos, pow_mono}
use lib.Dec.{T, eqb, eqb→eq}
use lib.ListN.{get_or, length, drop}
use Rattle.algebra.specs.Trial.{All}
use Rattle.field.specs.Field.{Field, mul, numbers}
use Rattle.field.proofs.Table.{both_true, both_true-left, both_true-right}
use Rattle.field.proofs.Additive.{Additive, linear_map, basis, by-basis}
use Rattle.field.proofs.Xor.{xor_assoc, xor-swap}
use Rattle.field.proofs.Ring.{ring, FullDegree}
use Rattle.poly_values.specs.Transform.{node, mults, map_mults}
use Rattle.poly_values.specs.Basis.{Step, vanishing, RightSteps, levels}
use Rattle.poly_values.specs.Blocks.{next_of, power_in, ColumnsOf}
use Rattle.poly_values.specs.Planes.{lane, digits_number, words_at, tree_of, lanes, columns_of, field_by, taps11}
use Rattle.poly_values.specs.Tables.{steps11, TreeTable, TopTable, SquareTable, ColumnTable, FirstColumns}
use Rattle.poly_values.proofs.Numbers.{StepBelow}
use Rattle.poly_values.proofs.Scalars.{words-next}

-- ---- tests

-- the lanes l, l + 1, .. of v, n of them, hold the values at off + l of the additive map with the values vs at 1, 2,
-- 4, ..
unfoldable pub lane_test : List ℕ → ℕ → ℕ → ℕ → List ℕ → Bool
unfolding linear_map lane
lane_test vs off l zero v = true
lane_test vs off l (suc n) v = both_true (eqb (lane l v) (linear_map vs (bit_xor off l))) (lane_test vs off (suc l) n v)

-- the map of a level
unfoldable pub part_of : Field → Step ℕ → List (Step ℕ) → ℕ → ℕ
unfolding vanishing mul
part_of F s B z = mul F s.back (vanishing (numbers F) B z)

unfoldable pub tree_test : Field → List (Step ℕ) → ℕ → List ℕ → Bool
unfolding lane_test part_of basis
tree_test F [] off g = true
tree_test F (s ∷ B) off g =
    both_true (lane_test (basis (part_of F s B) F.degree) off 0 64 (words_at F.degree g 0))
    (both_true (tree_test F B off (drop F.degree g)) (tree_test F B (bit_xor off s.step) (drop (2 ^ length B * F.degree) g)))

unfoldable pub top_test : Field → List (Step ℕ) → List ℕ → Bool
unfolding lane_test vanishing mul basis
top_test F B v = lane_test (basis (vanishing (numbers F) B) F.degree) 0 0 64 v

-- the square of the vanishing map
unfoldable pub square_of : Field → List (Step ℕ) → ℕ → ℕ
unfolding vanishing mul
square_of F B z = mul F (vanishing (numbers F) B z) (vanishing (numbers F) B z)

unfoldable pub square_test : Field → List (Step ℕ) → List ℕ → Bool
unfolding lane_test square_of basis
square_test F B v = lane_test (basis (square_of F B) F.degree) 0 0 64 v

unfoldable pub same : List ℕ → List ℕ → Bool
same [] [] = true
same [] (y ∷ b) = false
same (x ∷ a) [] = false
same (x ∷ a) (y ∷ b) = both_true (eqb x y) (same a b)

pub same-is : (a b : List ℕ) → T (same a b) → a ≡ b
unfolding same
same-is [] [] t = refl
same-is [] (y ∷ b) t = absurd t
same-is (x ∷ a) [] t = absurd t
same-is (x ∷ a) (y ∷ b) t = ap₂ ◌∷◌ (eqb→eq x y (both_true-left (eqb x y) (same a b) t)) (same-is a b (both_true-right (eqb x y) (same a b) t))

-- b is z times a; nothing stands behind the n blocks of a
unfoldable pub raised_test : Field → List (Step ℕ) → ℕ → List ℕ → List ℕ → Bool
unfolding next_of mul same
raised_test F B n a b = both_true (eqb (get_or a (n * 2 ^ length B) 0) 0) (same (next_of (numbers F) B n 0 a) b)

unfoldable pub column_test : Field → List (Step ℕ) → ℕ → List ℕ → List (List ℕ) → Bool
unfolding raised_test
column_test F B n a [] = true
column_test F B n a (b ∷ bs) = both_true (raised_test F B n a b) (column_test F B n b bs)

pub columns-right : (F : Field) (B : List (Step ℕ)) (n : ℕ) (a : List ℕ) (bs : List (List ℕ)) → T (column_test F B n a bs) → ColumnsOf (numbers F) B n a bs
unfolding column_test raised_test
columns-right F B n a [] t = tt
columns-right F B n a (b ∷ bs) t = (
  eqb→eq (get_or a (n * 2 ^ length B) 0) 0 (both_true-left none raised here),
  same-is (next_of (numbers F) B n 0 a) b (both_true-right none raised here),
  columns-right F B n b bs (both_true-right (raised_test F B n a b) (column_test F B n b bs) t),
)
  where
    none : Bool
    none = eqb (get_or a (n * 2 ^ length B) 0) 0

    raised : Bool
    raised = same (next_of (numbers F) B n 0 a) b

    here : T (both_true none raised)
    here = both_true-left (both_true none raised) (column_test F B n b bs) t

-- n lanes from l on are 0
unfoldable pub zero_test : ℕ → ℕ → List ℕ → Bool
unfolding lane
zero_test l zero v = true
zero_test l (suc n) v = both_true (eqb (lane l v) 0) (zero_test (suc l) n v)

zeros-right : (l n : ℕ) (v : List ℕ) → T (zero_test l n v) → (k : ℕ) → k < n → lane (l + k) v ≡ 0
unfolding zero_test
zeros-right l zero v t k h = absurd (omega arith)
zeros-right l (suc n) v t zero h = ap (λ i. lane i v) (add-zero l) ∙ eqb→eq (lane l v) 0 (both_true-left (eqb (lane l v) 0) (zero_test (suc l) n v) t)
zeros-right l (suc n) v t (suc k) h =
    ap (λ i. lane i v) (add-suc l k ∙ sym (suc-add l k)) ∙ zeros-right (suc l) n v (both_true-right (eqb (lane l v) 0) (zero_test (suc l) n v) t) k (omega arith)

-- of the vectors from the j-th on, c of them, each has nothing in its d lanes above its own, one lane less in the next
unfoldable pub above_test : ℕ → ℕ → ℕ → ℕ → List ℕ → Bool
unfolding zero_test
above_test m j d zero g = true
above_test m j d (suc c) g = both_true (zero_test (suc j) d (words_at m g 0)) (above_test m (suc j) (d - 1) c (drop m g))

above-right : (m j d c : ℕ) (g : List ℕ) → T (above_test m j d c g) → (i l : ℕ) → i < c → j + i < l → l ≤ j + d → lane l (words_at m g (i * m)) ≡ 0
unfolding above_test
above-right m j d zero g t i l b h k = absurd (omega arith)
above-right m j d (suc c) g t zero l b h k =
    let e : suc j + (l - suc j) ≡ l = omega arith in
    ap₂ (λ i n. lane i (words_at m g n)) (sym e) (zero-mul m)
    ∙ zeros-right (suc j) d (words_at m g 0) (both_true-left (zero_test (suc j) d (words_at m g 0)) (above_test m (suc j) (d - 1) c (drop m g)) t) (l - suc j) (omega arith)
above-right m j d (suc c) g t (suc i) l b h k =
    ap (lane l) (sym (words-next m i g))
    ∙ above-right m (suc j) (d - 1) c (drop m g) (both_true-right (zero_test (suc j) d (words_at m g 0)) (above_test m (suc j) (d - 1) c (drop m g)) t) i l (omega arith) (omega arith) (omega arith)

-- ---- the laws

pub lanes-right : (m : ℕ) (e : ℕ → ℕ) → Additive e → (off l n : ℕ) (v : List ℕ) → T (lane_test (basis e m) off l n v)
    → ((k : ℕ) → k < l + n → bit_xor off k < 2 ^ m) → (k : ℕ) → k < n → lane (l + k) v ≡ e (bit_xor off (l + k))
unfolding lane_test
lanes-right m e ad off l zero v t small k h = absurd (omega arith)
lanes-right m e ad off l (suc n) v t small zero h =
    ap (λ i. lane i v) (add-zero l) ∙ eqb→eq (lane l v) (linear_map (basis e m) (bit_xor off l)) (both_true-left (eqb (lane l v) (linear_map (basis e m) (bit_xor off l))) (lane_test (basis e m) off (suc l) n v) t)
    ∙ sym (by-basis m e ad (bit_xor off l) (small l (omega arith))) ∙ ap (λ i. e (bit_xor off i)) (sym (add-zero l))
lanes-right m e ad off l (suc n) v t small (suc k) h =
    let i : l + suc k ≡ suc l + k = omega arith in
    ap (λ j. lane j v) i ∙ lanes-right m e ad off (suc l) n v (both_true-right (eqb (lane l v) (linear_map (basis e m) (bit_xor off l))) (lane_test (basis e m) off (suc l) n v) t)
    (λ j d. small j (omega arith)) k (omega arith) ∙ ap (λ j. e (bit_xor off j)) (sym i)

module _ (F : Field) (monic : FullDegree F) where
  open ring F monic use {mul_comm, mul-xor-l, mul-xor-r, square-xor}

  twice : (a b w : ℕ) → bit_xor (bit_xor a w) (bit_xor b w) ≡ bit_xor a b
  twice a b w = xor-swap a w b w ∙ ap (bit_xor (bit_xor a b)) (xor_self w) ∙ xor_zero_r (bit_xor a b)

  twisted : (t y z : ℕ) → mul F (bit_xor y z) (bit_xor (bit_xor y z) t) ≡ bit_xor (mul F y (bit_xor y t)) (mul F z (bit_xor z t))
  twisted t y z =
      mul-xor-l y z (bit_xor (bit_xor y z) t)
      ∙ ap₂ bit_xor
      (ap (mul F y) (xor_assoc y z t ∙ ap (bit_xor y) (xor_comm z t) ∙ sym (xor_assoc y t z)) ∙ mul-xor-r y (bit_xor y t) z)
      (ap (mul F z) (xor_assoc y z t ∙ xor_comm y (bit_xor z t)) ∙ mul-xor-r z (bit_xor z t) y ∙ ap (bit_xor (mul F z (bit_xor z t))) (mul_comm z y))
      ∙ twice (mul F y (bit_xor y t)) (mul F z (bit_xor z t)) (mul F y z)

  pub vanishing-xor : (B : List (Step ℕ)) → Additive (vanishing (numbers F) B)
  unfolding vanishing
  vanishing-xor [] x y = refl
  vanishing-xor (s ∷ B) x y = ap (λ w. mul F w (bit_xor w s.unit)) (vanishing-xor B x y) ∙ twisted s.unit (vanishing (numbers F) B x) (vanishing (numbers F) B y)

  pub part-xor : (s : Step ℕ) (B : List (Step ℕ)) → Additive (part_of F s B)
  unfolding part_of
  part-xor s B x y = ap (mul F s.back) (vanishing-xor B x y) ∙ mul-xor-r s.back (vanishing (numbers F) B x) (vanishing (numbers F) B y)

  square-of-xor : (B : List (Step ℕ)) → Additive (square_of F B)
  unfolding square_of
  square-of-xor B x y = ap (λ w. mul F w w) (vanishing-xor B x y) ∙ square-xor (vanishing (numbers F) B x) (vanishing (numbers F) B y)

  module _ (q : List ℕ) (degree : F.degree ≡ length q) (wide : 6 ≤ F.degree) where
    lane_below : (off l : ℕ) → off < 2 ^ F.degree → l < 64 → bit_xor off l < 2 ^ F.degree
    lane_below off l h k = let w : 64 ≤ 2 ^ F.degree = pow_mono wide in xor_lt F.degree off l h (omega arith)

    pub tree-right : (B : List (Step ℕ)) → All (StepBelow (2 ^ F.degree)) B → (off : ℕ) → off < 2 ^ F.degree → (g : List ℕ) → T (tree_test F B off g) → (l : ℕ) → l < 64
        → map_mults (lane l) (tree_of q (length B) g) ≡ mults (numbers F) (levels (numbers F) B) (bit_xor off l)
    unfolding tree_test tree_of map_mults mults levels part_of
    tree-right [] small off hoff g t l h = refl
    tree-right (s ∷ B) small off hoff g t l h =
        λ i. node (first i) (left (tree-right B small.1 off hoff (drop F.degree g) (both_true-left lo hi (both_true-right here (both_true lo hi) t)) l h) i)
        (right (tree-right B small.1 (bit_xor off s.step) (xor_lt F.degree off s.step hoff small.0.step) (drop (2 ^ length B * F.degree) g) (both_true-right lo hi (both_true-right here (both_true lo hi) t)) l h) i)
      where
        here : Bool
        here = lane_test (basis (part_of F s B) F.degree) off 0 64 (words_at F.degree g 0)

        lo : Bool
        lo = tree_test F B off (drop F.degree g)

        hi : Bool
        hi = tree_test F B (bit_xor off s.step) (drop (2 ^ length B * F.degree) g)

        first : lane l (words_at (length q) g 0) ≡ mul F s.back (vanishing (numbers F) B (bit_xor off l))
        first =
            ap (λ n. lane l (words_at n g 0)) (sym degree)
            ∙ ap (λ i. lane i (words_at F.degree g 0)) (sym (zero-add l))
            ∙ lanes-right F.degree (part_of F s B) (part-xor s B) off 0 64 (words_at F.degree g 0) (both_true-left here (both_true lo hi) t) (λ k d. lane_below off k hoff (omega arith)) l h
            ∙ ap (λ i. part_of F s B (bit_xor off i)) (zero-add l)

        left : map_mults (lane l) (tree_of q (length B) (drop F.degree g)) ≡ mults (numbers F) (levels (numbers F) B) (bit_xor off l)
            → map_mults (lane l) (tree_of q (length B) (drop (length q) g)) ≡ mults (numbers F) (levels (numbers F) B) (bit_xor off l)
        left e = ap (λ n. map_mults (lane l) (tree_of q (length B) (drop n g))) (sym degree) ∙ e

        right : map_mults (lane l) (tree_of q (length B) (drop (2 ^ length B * F.degree) g)) ≡ mults (numbers F) (levels (numbers F) B) (bit_xor (bit_xor off s.step) l)
            → map_mults (lane l) (tree_of q (length B) (drop (2 ^ length B * length q) g)) ≡ mults (numbers F) (levels (numbers F) B) (bit_xor (bit_xor off l) s.step)
        right e =
            ap (λ n. map_mults (lane l) (tree_of q (length B) (drop (2 ^ length B * n) g))) (sym degree) ∙ e
            ∙ ap (mults (numbers F) (levels (numbers F) B)) (xor_assoc off s.step l ∙ ap (bit_xor off) (xor_comm s.step l) ∙ sym (xor_assoc off l s.step))

    pub top_right : (B : List (Step ℕ)) (v : List ℕ) → T (top_test F B v) → (l : ℕ) → l < 64 → lane l v ≡ vanishing (numbers F) B l
    unfolding top_test
    top_right B v t l h =
        ap (λ i. lane i v) (sym (zero-add l))
        ∙ lanes-right F.degree (vanishing (numbers F) B) (vanishing-xor B) 0 0 64 v t (λ k d. lane_below 0 k (pow_pos F.degree) (omega arith)) l h
        ∙ ap (vanishing (numbers F) B) (ap (bit_xor 0) (zero-add l))

    pub squares-right : (B : List (Step ℕ)) (v : List ℕ) → T (square_test F B v) → (l : ℕ) → l < 64
        → lane l v ≡ mul F (vanishing (numbers F) B l) (vanishing (numbers F) B l)
    unfolding square_test square_of
    squares-right B v t l h =
        ap (λ i. lane i v) (sym (zero-add l))
        ∙ lanes-right F.degree (square_of F B) (square-of-xor B) 0 0 64 v t (λ k d. lane_below 0 k (pow_pos F.degree) (omega arith)) l h
        ∙ ap (square_of F B) (ap (bit_xor 0) (zero-add l))

-- ---- the tables of field 11

unfoldable pub table_test : List ℕ → List (Step ℕ) → ℕ → ℕ → ℕ → ℕ → List ℕ → Bool
unfolding column_test columns_of lanes digits_number power_in
table_test q B n j c t g =
    both_true (eqb (length g) (c * length q))
    (column_test (field_by q) B n (power_in (numbers (field_by q)) B n j) (columns_of (length q) (n * 2 ^ length B) t c g))

pub columns-table : (q : List ℕ) (B : List (Step ℕ)) (n j c t : ℕ) (g : List ℕ) → T (table_test q B n j c t g) → ColumnTable q B n j c t g
unfolding table_test
columns-table q B n j c t g ok = record {
  long = eqb→eq (length g) (c * length q) (both_true-left long columns ok);
  columns = columns-right (field_by q) B n (power_in (numbers (field_by q)) B n j) (columns_of (length q) (n * 2 ^ length B) t c g) (both_true-right long columns ok);
}
  where
    long : Bool
    long = eqb (length g) (c * length q)

    columns : Bool
    columns = column_test (field_by q) B n (power_in (numbers (field_by q)) B n j) (columns_of (length q) (n * 2 ^ length B) t c g)

unfoldable pub first_test : List ℕ → List (Step ℕ) → ℕ → ℕ → List ℕ → Bool
unfolding same table_test above_test lanes digits_number power_in
first_test q B n c g =
    both_true (same (lanes 0 (n * 2 ^ length B) (words_at (length q) g 0) ++ 0 ∷ []) (power_in (numbers (field_by q)) B n 0))
    (both_true (above_test (length q) 0 (n * 2 ^ length B - 1) (suc c) g) (table_test q B n 0 c 0 (drop (length q) g)))

pub first-columns : (q : List ℕ) (B : List (Step ℕ)) (n c : ℕ) (g : List ℕ) → T (first_test q B n c g) → FirstColumns q B n c g
unfolding first_test
first-columns q B n c g t = record {
  first = same-is (lanes 0 w (words_at (length q) g 0) ++ 0 ∷ []) (power_in (numbers (field_by q)) B n 0) (both_true-left one (both_true above others) t);
  others = columns-table q B n 0 c 0 (drop (length q) g) (both_true-right above others (both_true-right one (both_true above others) t));
  above = λ j l h k b. above-right (length q) 0 (w - 1) (suc c) g (both_true-left above others (both_true-right one (both_true above others) t)) j l (omega arith) (omega arith) (omega arith);
}
  where
    w : ℕ
    w = n * 2 ^ length B

    one : Bool
    one = same (lanes 0 w (words_at (length q) g 0) ++ 0 ∷ []) (power_in (numbers (field_by q)) B n 0)

    above : Bool
    above = above_test (length q) 0 (w - 1) (suc c) g

    others : Bool
    others = table_test q B n 0 c 0 (drop (length q) g)

pub small11 : All (StepBelow 2048) steps11
small11 = (
  record { step = omega arith; unit = omega arith; back = omega arith },
  (
    record { step = omega arith; unit = omega arith; back = omega arith },
    (
      record { step = omega arith; unit = omega arith; back = omega arith },
      (
        record { step = omega arith; unit = omega arith; back = omega arith },
        (record { step = omega arith; unit = omega arith; back = omega arith }, tt),
      ),
    ),
  ),
)

pub monic11 : FullDegree (field_by taps11)
unfolding digits_number
monic11 = refl

pub right11 : RightSteps (numbers (field_by taps11)) steps11
unfolding digits_number vanishing mul
right11 = (refl, refl, (refl, refl, (refl, refl, (refl, refl, (refl, refl, tt)))))

pub tree11 : (g : List ℕ) → T (tree_test (field_by taps11) steps11 0 g) → TreeTable taps11 steps11 g
tree11 g t = record { multipliers = λ l h. tree-right (field_by taps11) monic11 taps11 refl (omega arith) steps11 small11 0 (omega arith) g t l h }

pub tops11 : (v : List ℕ) → T (top_test (field_by taps11) steps11 v) → TopTable taps11 steps11 v
tops11 v t = record { lanes = λ l h. top_right (field_by taps11) monic11 taps11 refl (omega arith) steps11 v t l h }

pub squares11 : (v : List ℕ) → T (square_test (field_by taps11) steps11 v) → SquareTable taps11 steps11 v
squares11 v t = record { lanes = λ l h. squares-right (field_by taps11) monic11 taps11 refl (omega arith) steps11 v t l h }
