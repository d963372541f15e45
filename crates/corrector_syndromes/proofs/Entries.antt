-- The constant table of powers, by one test that antt computes: each row by multiplication from the one before.
--   rows_test   the test
--   rows_at    what it says of the table
--   power-next, power-none   a power by the one below it; the power 0
-- Assumes nothing.
use mathlib.Core.Path.{◌≡◌, refl, sym, ap, ap₂, ◌∙◌}
use mathlib.Core.Bool.{Bool, true, false}
use mathlib.Core.List.{List, [], ◌∷◌}
use Prim.Native.Nat.{ℕ, zero, suc, ◌+◌, ◌<◌}
use native.Mathlib.Nat.{not-suc-le-zero, suc-add, add-suc, zero-add}
use native.Mathlib.Omega.{arith}
use lib.Dec.{T, eqb, eqb→eq}
use lib.ListN.{length, get_or}
use Rattle.algebra.specs.Field.{power}
use Rattle.field.specs.Field.{field_at, reduce, cut, horner, mul, carry_free}
use Rattle.field.proofs.Table.{both_true, both_true-left, both_true-right}
use Rattle.corrector_code.specs.Eleven.{F11}
use Rattle.corrector_generator.specs.Generators.{odd_power}

-- a power, by the one below it
pub power-next : (x i : ℕ) → power F11 x (suc i) ≡ mul (field_at 11) x (power F11 x i)
unfolding power
power-next x i = refl

pub power-none : (x : ℕ) → power F11 x 0 ≡ 1
unfolding power
power-none x = refl

-- products, place by place
times_each : List ℕ → List ℕ → List ℕ
times_each [] ps = []
times_each (x ∷ xs) [] = []
times_each (x ∷ xs) (p ∷ ps) = mul (field_at 11) x p ∷ times_each xs ps

rows_from : List ℕ → ℕ → List ℕ → List (List ℕ)
rows_from xs zero ps = []
rows_from xs (suc n) ps = ps ∷ rows_from xs n (times_each xs ps)

same_list : List ℕ → List ℕ → Bool
same_list [] [] = true
same_list [] (y ∷ m) = false
same_list (x ∷ l) [] = false
same_list (x ∷ l) (y ∷ m) = both_true (eqb x y) (same_list l m)

same-is : (l m : List ℕ) → T (same_list l m) → l ≡ m
unfolding same_list
same-is [] [] t = refl
same-is [] (y ∷ m) t = absurd t
same-is (x ∷ l) [] t = absurd t
same-is (x ∷ l) (y ∷ m) t = ap₂ (λ a r. a ∷ r) (eqb→eq x y (both_true-left (eqb x y) (same_list l m) t)) (same-is l m (both_true-right (eqb x y) (same_list l m) t))

same_rows : List (List ℕ) → List (List ℕ) → Bool
same_rows [] [] = true
same_rows [] (y ∷ m) = false
same_rows (x ∷ l) [] = false
same_rows (x ∷ l) (y ∷ m) = both_true (same_list x y) (same_rows l m)

same-rows-are : (l m : List (List ℕ)) → T (same_rows l m) → l ≡ m
unfolding same_rows
same-rows-are [] [] t = refl
same-rows-are [] (y ∷ m) t = absurd t
same-rows-are (x ∷ l) [] t = absurd t
same-rows-are (x ∷ l) (y ∷ m) t =
    ap₂ (λ a r. a ∷ r) (same-is x y (both_true-left (same_list x y) (same_rows l m) t))
    (same-rows-are l m (both_true-right (same_list x y) (same_rows l m) t))

odds : List ℕ
odds = odd_power 0 ∷ odd_power 1 ∷ odd_power 2 ∷ odd_power 3 ∷ odd_power 4 ∷ odd_power 5 ∷ odd_power 6 ∷ odd_power 7 ∷ []

ones : List ℕ
ones = 1 ∷ 1 ∷ 1 ∷ 1 ∷ 1 ∷ 1 ∷ 1 ∷ 1 ∷ []

unfoldable pub rows_test : List (List ℕ) → Bool
unfolding same_rows same_list rows_from times_each odds ones odd_power power mul carry_free reduce cut horner
rows_test rows = same_rows rows (rows_from odds 88 ones)

length-each : (xs ps : List ℕ) → length ps ≡ length xs → length (times_each xs ps) ≡ length xs
unfolding times_each
length-each [] ps e = refl
length-each (x ∷ xs) [] e = absurd (omega arith)
length-each (x ∷ xs) (p ∷ ps) e = ap suc (length-each xs ps (omega arith))

each_at : (xs ps : List ℕ) (k : ℕ) → length ps ≡ length xs → k < length xs → get_or (times_each xs ps) k 0 ≡ mul (field_at 11) (get_or xs k 0) (get_or ps k 0)
unfolding times_each
each_at [] ps k e h = absurd (not-suc-le-zero h)
each_at (x ∷ xs) [] k e h = absurd (omega arith)
each_at (x ∷ xs) (p ∷ ps) zero e h = refl
each_at (x ∷ xs) (p ∷ ps) (suc k) e h = each_at xs ps k (omega arith) (omega arith)

-- row j of what is made from ps, where ps holds the i-th powers
row_at : (d xs : List ℕ) (k : ℕ) → length xs ≡ 8 → k < 8 → (n j i : ℕ) (ps : List ℕ) → length ps ≡ 8 → j < n → get_or ps k 0 ≡ power F11 (get_or xs k 0) i
    → get_or (get_or (rows_from xs n ps) j d) k 0 ≡ power F11 (get_or xs k 0) (j + i)
unfolding rows_from
row_at d xs k lx hk zero j i ps lp h e = absurd (not-suc-le-zero h)
row_at d xs k lx hk (suc n) zero i ps lp h e = e ∙ ap (power F11 (get_or xs k 0)) (sym (zero-add i))
row_at d xs k lx hk (suc n) (suc j) i ps lp h e =
    row_at d xs k lx hk n j (suc i) (times_each xs ps) (length-each xs ps (lp ∙ sym lx) ∙ lx) (omega arith) (each_at xs ps k (lp ∙ sym lx) (omega arith) ∙ next)
    ∙ ap (power F11 (get_or xs k 0)) (add-suc j i ∙ sym (suc-add j i))
  where
    next : mul (field_at 11) (get_or xs k 0) (get_or ps k 0) ≡ power F11 (get_or xs k 0) (suc i)
    next = ap (mul (field_at 11) (get_or xs k 0)) e ∙ sym (power-next (get_or xs k 0) i)

odd-at : (k : ℕ) → k < 8 → (get_or odds k 0 ≡ odd_power k) × (get_or ones k 0 ≡ 1)
unfolding odds ones
odd-at zero h = (refl, refl)
odd-at (suc zero) h = (refl, refl)
odd-at (suc (suc zero)) h = (refl, refl)
odd-at (suc (suc (suc zero))) h = (refl, refl)
odd-at (suc (suc (suc (suc zero)))) h = (refl, refl)
odd-at (suc (suc (suc (suc (suc zero))))) h = (refl, refl)
odd-at (suc (suc (suc (suc (suc (suc zero)))))) h = (refl, refl)
odd-at (suc (suc (suc (suc (suc (suc (suc zero))))))) h = (refl, refl)
odd-at (suc (suc (suc (suc (suc (suc (suc (suc k)))))))) h = absurd (omega arith)

-- entry k of row j is the j-th power of a^(2k+1)
pub rows_at : (rows : List (List ℕ)) → T (rows_test rows) → (d : List ℕ) (j k : ℕ) → j < 88 → k < 8
    → get_or (get_or rows j d) k 0 ≡ power F11 (odd_power k) j
unfolding rows_test odds ones
rows_at rows t d j k hj hk =
    ap (λ (l : List (List ℕ)). get_or (get_or l j d) k 0) (same-rows-are rows (rows_from odds 88 ones) t)
    ∙ row_at d odds k refl hk 88 j 0 ones refl hj ((odd-at k hk).1 ∙ sym (power-none (get_or odds k 0)))
    ∙ ap₂ (power F11) (odd-at k hk).0 (omega arith)
