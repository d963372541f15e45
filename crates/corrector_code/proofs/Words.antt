-- Words and their locators: the value of a word at a^i is the i-th power sum of its locators, and NO TWO CODEWORDS LIE
-- WITHIN t OF ONE WORD.
--   differ-nowhere              words that differ nowhere are equal;  length-difference  as long as the two
--   pow-mul, pow-swap, pow-nonzero   powers of a product, of a power, of what is not 0
--   value-sum            the value of a word is a power sum of its locators;  value-difference  of a sum is the sum
--   locators-distinct, locators-nonzero   the locators of a word differ, and none is 0
--   light                a codeword with bit 1 in at most 2t places is zero
--   correction-unique    NO TWO CODEWORDS LIE WITHIN t OF ONE WORD
-- Assumes nothing.
use mathlib.Core.Path.{◌≡◌, refl, sym, ap, ap₂, ◌∙◌}
use mathlib.Core.Logic.{◌≢◌}
use mathlib.Core.Bool.{Bool, true, false}
use mathlib.Core.List.{List, [], ◌∷◌, map}
use Prim.Native.Nat.{ℕ, zero, suc, ◌+◌, ◌*◌, ◌≤◌, ◌<◌}
use native.Mathlib.Omega.{arith}
use lib.ListN.{length, length-map}
use Rattle.algebra.specs.Field.{Ops, Laws, power}
use Rattle.algebra.specs.Polynomial.{eval, add}
use Rattle.algebra.proofs.Elements as E
use Rattle.algebra.proofs.Evaluation as I
use Rattle.algebra.specs.Trial.{All, Distinct}
use Rattle.corrector_code.specs.Word.{differs, difference, places, total, bit, word_value, Codeword, CodewordWithin, locators, DistinctPowers}
use Rattle.corrector_code.proofs.Sums as Y

-- ---- distance

abbrev one : Bool → ℕ
one true = 1
one false = 0

count : (k : ℕ) (b : Bool) (w : List Bool) → length (places k (b ∷ w)) ≡ one b + length (places (suc k) w)
unfolding places
count k true w = omega arith
count k false w = omega arith

triangle-bit : (b c d : Bool) → one (differs c d) ≤ one (differs b c) + one (differs b d)
triangle-bit false false d = omega arith
triangle-bit false true false = omega arith
triangle-bit false true true = omega arith
triangle-bit true false false = omega arith
triangle-bit true false true = omega arith
triangle-bit true true false = omega arith
triangle-bit true true true = omega arith

triangle : (k : ℕ) (w u v : List Bool) → length u ≡ length w → length v ≡ length w
    → length (places k (difference u v)) ≤ length (places k (difference w u)) + length (places k (difference w v))
unfolding difference places
triangle k [] [] [] e f = omega arith
triangle k [] [] (d ∷ v) e f = absurd (omega arith)
triangle k [] (c ∷ u) v e f = absurd (omega arith)
triangle k (b ∷ w) [] v e f = absurd (omega arith)
triangle k (b ∷ w) (c ∷ u) [] e f = absurd (omega arith)
triangle k (b ∷ w) (c ∷ u) (d ∷ v) e f =
    omega (
      arith,
      count k (differs c d) (difference u v),
      count k (differs b c) (difference w u),
      count k (differs b d) (difference w v),
      triangle-bit b c d,
      triangle (suc k) w u v (omega arith) (omega arith),
    )

-- words that differ nowhere are equal
pub differ-nowhere : (k : ℕ) (u v : List Bool) → length u ≡ length v → places k (difference u v) ≡ [] → u ≡ v
unfolding difference places
differ-nowhere k [] [] e h = refl
differ-nowhere k [] (d ∷ v) e h = absurd (omega arith)
differ-nowhere k (c ∷ u) [] e h = absurd (omega arith)
differ-nowhere k (true ∷ u) (true ∷ v) e h = ap (λ l. true ∷ l) (differ-nowhere (suc k) u v (omega arith) h)
differ-nowhere k (false ∷ u) (false ∷ v) e h = ap (λ l. false ∷ l) (differ-nowhere (suc k) u v (omega arith) h)
differ-nowhere k (true ∷ u) (false ∷ v) e h = absurd (omega (arith, ap length h))
differ-nowhere k (false ∷ u) (true ∷ v) e h = absurd (omega (arith, ap length h))

pub length-difference : (w v : List Bool) → length v ≡ length w → length (difference w v) ≡ length w
unfolding difference
length-difference [] v e = e
length-difference (b ∷ w) [] e = absurd (omega arith)
length-difference (b ∷ w) (c ∷ v) e = ap suc (length-difference w v (omega arith))

map-none : {A B : Type 0} (f : A → B) (l : List A) → map f l ≡ [] → l ≡ []
map-none f [] e = refl
map-none f (x ∷ l) e = absurd (omega (arith, ap length e))

module _ {K : Type 0} {F : Ops K} (L : Laws F) where
  infixl 60 ◌⊕◌
  infixl 70 ◌⊗◌
  open F use {zero as 0#, one as 1#, add as ◌⊕◌, mul as ◌⊗◌}
  open L use {add_comm, add_assoc, zero-add, add-self, mul_comm, mul_assoc, one-mul, mul-add, one≢zero}

  -- ---- powers

  pow-one : (i : ℕ) → power F 1# i ≡ 1#
  unfolding power
  pow-one zero = refl
  pow-one (suc i) = one-mul (power F 1# i) ∙ pow-one i

  pub pow-mul : (x y : K) (i : ℕ) → power F (x ⊗ y) i ≡ power F x i ⊗ power F y i
  unfolding power
  pow-mul x y zero = sym (one-mul 1#)
  pow-mul x y (suc i) = ap (λ w. x ⊗ y ⊗ w) (pow-mul x y i) ∙ simp (mul_assoc, E.mul_left_comm L)

  -- (a^k)^i = (a^i)^k
  pub pow-swap : (a : K) (k i : ℕ) → power F (power F a k) i ≡ power F (power F a i) k
  unfolding power
  pow-swap a zero i = pow-one i
  pow-swap a (suc k) i = pow-mul a (power F a k) i ∙ ap (λ w. power F a i ⊗ w) (pow-swap a k i)

  pub pow-nonzero : (a : K) (k : ℕ) → a ≢ 0# → power F a k ≢ 0#
  unfolding power
  pow-nonzero a zero h e = one≢zero e
  pow-nonzero a (suc k) h e = pow-nonzero a k h (E.zero-of-product L a (power F a k) h e)

  -- ---- the value of a word at a^i is a power sum of its locators

  sum-from : (a : K) (i k : ℕ) (w : List Bool) → total F (λ x. power F x i) (map (power F a) (places k w)) ≡ power F (power F a i) k ⊗ word_value F w (power F a i)
  unfolding places total eval power
  sum-from a i k [] = sym (E.mul-zero L _)
  sum-from a i k (true ∷ w) =
      let r : K = power F a i in
      let p : K = power F r k in
      ap₂ ◌⊕◌ (pow-swap a k i ∙ sym (Y.times-one L p)) (sum-from a i (suc k) w ∙ mul_assoc r p (word_value F w r) ∙ E.mul_left_comm L r p (word_value F w r))
      ∙ sym (mul-add p 1# (r ⊗ word_value F w r))
  sum-from a i k (false ∷ w) =
      let r : K = power F a i in
      let p : K = power F r k in
      sum-from a i (suc k) w ∙ mul_assoc r p (word_value F w r) ∙ E.mul_left_comm L r p (word_value F w r) ∙ ap (λ v. p ⊗ v) (sym (zero-add (r ⊗ word_value F w r)))

  pub value-sum : (a : K) (i : ℕ) (w : List Bool) → word_value F w (power F a i) ≡ total F (λ x. power F x i) (locators F a w)
  unfolding power
  value-sum a i w = sym (sum-from a i 0 w ∙ one-mul _)

  bit-differs : (b c : Bool) → bit F (differs b c) ≡ bit F b ⊕ bit F c
  bit-differs false c = sym (zero-add (bit F c))
  bit-differs true false = sym (E.add-zero L 1#)
  bit-differs true true = sym (add-self 1#)

  bits-both : (w v : List Bool) → map (bit F) (difference w v) ≡ add F (map (bit F) w) (map (bit F) v)
  unfolding difference add
  bits-both [] v = refl
  bits-both (b ∷ w) [] = refl
  bits-both (b ∷ w) (c ∷ v) = ap₂ (λ x l. x ∷ l) (bit-differs b c) (bits-both w v)

  pub value-difference : (w v : List Bool) (x : K) → word_value F (difference w v) x ≡ word_value F w x ⊕ word_value F v x
  value-difference w v x = ap (λ l. eval F l x) (bits-both w v) ∙ I.eval_add L (map (bit F) w) (map (bit F) v) x

  -- ---- locators are distinct and not 0

  module _ (a : K) (n : ℕ) (o : DistinctPowers F a n) where
    later : (k j : ℕ) (w : List Bool) → k < j → j + length w ≤ n → All (λ y. power F a k ≢ y) (map (power F a) (places j w))
    unfolding places
    later k j [] h l = tt
    later k j (true ∷ w) h l = (λ e. omega (arith, o.apart k j (omega arith) (omega arith) e), later k (suc j) w (omega arith) (omega arith))
    later k j (false ∷ w) h l = later k (suc j) w (omega arith) (omega arith)

    distinct_from : (k : ℕ) (w : List Bool) → k + length w ≤ n → Distinct (map (power F a) (places k w))
    unfolding places
    distinct_from k [] l = tt
    distinct_from k (true ∷ w) l = (later k (suc k) w (omega arith) (omega arith), distinct_from (suc k) w (omega arith))
    distinct_from k (false ∷ w) l = distinct_from (suc k) w (omega arith)

    pub locators-distinct : (w : List Bool) → length w ≤ n → Distinct (locators F a w)
    locators-distinct w l = distinct_from 0 w (omega arith)

    powers-nonzero : (p : List ℕ) → All (λ x. x ≢ 0#) (map (power F a) p)
    powers-nonzero [] = tt
    powers-nonzero (j ∷ p) = (pow-nonzero a j o.nonzero, powers-nonzero p)

    pub locators-nonzero : (w : List Bool) → All (λ x. x ≢ 0#) (locators F a w)
    locators-nonzero w = powers-nonzero (places 0 w)

    -- a codeword with bit 1 in at most 2t places is zero
    pub light : (t : ℕ) (w : List Bool) → length w ≤ n → Codeword F a t w → length (places 0 w) ≤ 2 * t → places 0 w ≡ []
    light t w l c h =
        map-none (power F a) (places 0 w)
        (Y.sums_apart L (locators F a w) (2 * t) (locators-distinct w l) (locators-nonzero w) (omega (arith, length-map (places 0 w) (power F a)))
        (λ i p q. sym (value-sum a i w) ∙ c i p q))

    -- NO TWO CODEWORDS LIE WITHIN t OF ONE WORD
    pub correction-unique : (t : ℕ) (w u v : List Bool) → length w ≤ n → CodewordWithin F a t w u → CodewordWithin F a t w v → u ≡ v
    correction-unique t w u v l x y =
        let e : length v ≡ length u = y.0 ∙ sym x.0 in
        differ-nowhere 0 u v (sym e)
        (light t (difference u v) (omega (arith, length-difference u v e))
        (λ i p q. value-difference u v (power F a i) ∙ ap₂ ◌⊕◌ (x.1 i p q) (y.1 i p q) ∙ zero-add 0#)
        (omega (arith, triangle 0 w u v x.0 y.0)))
