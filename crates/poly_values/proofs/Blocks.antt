-- The law of the transform for any number of coefficients.
--   next-whole     z times blocks
--   mix-whole      the mix of the columns has the polynomial's values
--   blocks-values  the transform of the blocks, brought together for a coset, gives the values at its points
--   blocks-mixed   the same of the mix: the values of f
--   columns-join   columns that go on where others end
-- Assumes nothing.
use mathlib.Core.Path.{◌≡◌, refl, sym, ap, ap₂, ◌∙◌, subst}
use mathlib.Core.List.{List, [], ◌∷◌, ◌++◌, map}
use Prim.Native.Nat.{ℕ, zero, suc, ◌+◌, ◌*◌, ◌^◌, ◌≤◌}
use native.Mathlib.Omega.{arith}
use native.Mathlib.Nat.{suc-mul, zero-mul, add-zero, add-suc, suc-add}
use lib.Pow.{pow_pos}
use lib.ListN.{get_or, length, take, drop, length-take, length-map, drop_of_length-le}
use lib.Seq.{take_all, take_at, drop_at, get_or-drop, length-take-le}
use Rattle.algebra.specs.Field.{Ops, Laws}
use Rattle.algebra.specs.Trial.{All}
use Rattle.algebra.specs.Polynomial.{add, eval}
use Rattle.algebra.proofs.Elements as S
use Rattle.poly_values.specs.Transform.{Level, value, scaled, transform, mults, points}
use Rattle.poly_values.specs.Basis.{Step, vanishing, RightSteps, levels, raised_in}
use Rattle.poly_values.specs.Blocks.{whole_of, next_of, power_in, ColumnsOf, mix, coset_of}
use Rattle.poly_values.proofs.Image.{all_take, all_drop}
use Rattle.poly_values.proofs.Lists.{get_or-add, get_or-scaled, length-add-le}
use Rattle.poly_values.proofs.Transform as T
use Rattle.poly_values.proofs.Basis.{vanishing-additive, vanishing-vanishes, levels-hold, length-raised_in, raised_in-value, value-single, value-zeros, size-levels}

module _ {K : Type 0} {F : Ops K} (laws : Laws F) where
  infixl 60 ◌⊕◌
  infixl 70 ◌⊗◌
  open F use {zero as 0#, one as 1#, add as ◌⊕◌, mul as ◌⊗◌}
  open laws use {add_comm, add_assoc, zero-add, mul_comm, mul_assoc, one-mul, mul-add}

  -- ---- z times blocks

  -- a block is as long as there are sums of steps
  length-block : (B : List (Step K)) (a : List K) (c : K) → length (add F (raised_in F B a).0 (c ∷ [])) ≡ 2 ^ length B
  length-block B a c =
      length-add-le F (raised_in F B a).0 (c ∷ []) (omega (arith, length-raised_in laws B a, pow_pos (length B))) ∙ length-raised_in laws B a

  -- what stands behind the blocks stands behind the others
  behind : (n m : ℕ) (a : List K) → get_or (drop m a) (n * m) 0# ≡ get_or a (suc n * m) 0#
  behind n m a = get_or-drop m a (n * m) 0# ∙ ap (λ (k : ℕ). get_or a k 0#) (omega (arith, suc-mul n m))

  pub next-whole : (B : List (Step K)) → RightSteps F B → (n : ℕ) (c : K) (a : List K) (z : K) → get_or a (n * 2 ^ length B) 0# ≡ 0#
      → whole_of F B n (next_of F B n c a) z ≡ c ⊕ z ⊗ whole_of F B n a z
  unfolding whole_of next_of
  next-whole B ok zero c a z e =
      sym (ap (λ y. c ⊕ z ⊗ y) (ap (λ (k : ℕ). get_or a k 0#) (sym (zero-mul (2 ^ length B))) ∙ e) ∙ ap (λ y. c ⊕ y) (S.mul-zero laws z) ∙ S.add-zero laws c)
  next-whole B ok (suc n) c a z e =
      ap₂ (λ s t. value F L s z ⊕ w ⊗ whole_of F B n t z) (take_at block others N (length-block B (take N a) c)) (drop_at block others N (length-block B (take N a) c))
      ∙ ap₂ ◌⊕◌ (T.value-add laws L up.0 (c ∷ []) z ∙ ap (λ y. value F L up.0 z ⊕ y) (value-single laws L c z) ∙ add_comm _ c)
      (ap (λ y. w ⊗ y) (next-whole B ok n up.1 (drop N a) z (behind n N a ∙ e)) ∙ mul-add w up.1 (z ⊗ r) ∙ ap₂ ◌⊕◌ (mul_comm w up.1) (S.mul_left_comm laws w z r))
      ∙ add_assoc c _ _ ∙ ap (λ y. c ⊕ y) (sym (add_assoc _ _ _) ∙ ap (λ y. y ⊕ z ⊗ (w ⊗ r)) (sym (raised_in-value laws B ok (take N a) z)) ∙ sym (mul-add z _ _))
    where
      N : ℕ
      N = 2 ^ length B

      L : List (Level K)
      L = levels F B

      w : K
      w = vanishing F B z

      r : K
      r = whole_of F B n (drop N a) z

      up : List K × K
      up = raised_in F B (take N a)

      block : List K
      block = add F up.0 (c ∷ [])

      others : List K
      others = next_of F B n up.1 (drop N a)

  -- ---- sums and multiples

  whole_sum : (B : List (Step K)) (n : ℕ) (a b : List K) (z : K) → whole_of F B n (add F a b) z ≡ whole_of F B n a z ⊕ whole_of F B n b z
  unfolding whole_of
  whole_sum B zero a b z = get_or-add F zero-add (S.add-zero laws) a b 0
  whole_sum B (suc n) a b z =
      ap₂ (λ s t. value F (levels F B) s z ⊕ vanishing F B z ⊗ whole_of F B n t z) (T.take-add laws (2 ^ length B) a b) (T.drop-add laws (2 ^ length B) a b)
      ∙ ap₂ (λ s t. s ⊕ vanishing F B z ⊗ t) (T.value-add laws (levels F B) (take (2 ^ length B) a) (take (2 ^ length B) b) z)
      (whole_sum B n (drop (2 ^ length B) a) (drop (2 ^ length B) b) z)
      ∙ simp (mul-add, add_assoc, S.add_left_comm laws)

  whole_multiple : (B : List (Step K)) (n : ℕ) (e : K) (a : List K) (z : K) → whole_of F B n (scaled F e a) z ≡ e ⊗ whole_of F B n a z
  unfolding whole_of
  whole_multiple B zero e a z = get_or-scaled F e (S.mul-zero laws e) a 0
  whole_multiple B (suc n) e a z =
      ap₂ (λ s t. value F (levels F B) s z ⊕ vanishing F B z ⊗ whole_of F B n t z) (T.take-map laws (F.mul e) (2 ^ length B) a) (T.drop-map laws (F.mul e) (2 ^ length B) a)
      ∙ ap₂ (λ s t. s ⊕ vanishing F B z ⊗ t) (T.value-scaled laws (levels F B) e (take (2 ^ length B) a) z) (whole_multiple B n e (drop (2 ^ length B) a) z)
      ∙ simp (mul-add, S.mul_left_comm laws)

  whole-zeros : (B : List (Step K)) (n : ℕ) (a : List K) (z : K) → All (λ c. c ≡ 0#) a → whole_of F B n a z ≡ 0#
  unfolding whole_of
  whole-zeros B zero [] z h = refl
  whole-zeros B zero (c ∷ a) z h = h.0
  whole-zeros B (suc n) a z h =
      ap₂ (λ s t. s ⊕ vanishing F B z ⊗ t) (value-zeros laws (levels F B) (take (2 ^ length B) a) z (all_take (λ c. c ≡ 0#) (2 ^ length B) a h))
      (whole-zeros B n (drop (2 ^ length B) a) z (all_drop (λ c. c ≡ 0#) (2 ^ length B) a h))
      ∙ zero-add _ ∙ S.mul-zero laws (vanishing F B z)

  -- the constant 1
  whole-single : (B : List (Step K)) (n : ℕ) (z : K) → whole_of F B n (1# ∷ []) z ≡ 1#
  unfolding whole_of
  whole-single B zero z = refl
  whole-single B (suc n) z =
      let p : 1 ≤ 2 ^ length B = pow_pos (length B) in
      ap₂ (λ s t. value F (levels F B) s z ⊕ vanishing F B z ⊗ whole_of F B n t z) (take_all (2 ^ length B) (1# ∷ []) p) (drop_of_length-le (1# ∷ []) p)
      ∙ ap₂ (λ s t. s ⊕ vanishing F B z ⊗ t) (value-single laws (levels F B) 1# z) (whole-zeros B n [] z tt) ∙ ap (λ y. 1# ⊕ y) (S.mul-zero laws (vanishing F B z)) ∙ S.add-zero laws 1#

  pub whole-one : (B : List (Step K)) (n : ℕ) (z : List K) (x : K) → All (λ c. c ≡ 0#) z → whole_of F B n (1# ∷ z) x ≡ 1#
  unfolding add
  whole-one B n z x h =
      ap (λ c. whole_of F B n (c ∷ z) x) (sym (S.add-zero laws 1#)) ∙ whole_sum B n (1# ∷ []) (0# ∷ z) x
      ∙ ap₂ ◌⊕◌ (whole-single B n x) (whole-zeros B n (0# ∷ z) x (refl, h)) ∙ S.add-zero laws 1#

  -- ---- the mix of the columns has the polynomial's values, however many coefficients it has

  pub mix-whole : (B : List (Step K)) → RightSteps F B → (n : ℕ) (f a : List K) (columns : List (List K)) (x y : K) → ColumnsOf F B n a columns
      → whole_of F B n a x ≡ y → length f ≤ suc (length columns) → whole_of F B n (mix F f (a ∷ columns)) x ≡ y ⊗ eval F f x
  unfolding mix eval
  mix-whole B ok n [] a columns x y cs e h = whole-zeros B n [] x tt ∙ sym (S.mul-zero laws y)
  mix-whole B ok n (c ∷ []) a columns x y cs e h =
      whole_sum B n (scaled F c a) [] x ∙ ap₂ ◌⊕◌ (whole_multiple B n c a x ∙ ap (λ t. c ⊗ t) e) (whole-zeros B n [] x tt) ∙ S.add-zero laws _ ∙ mul_comm c y
      ∙ ap (λ t. y ⊗ t) (sym (ap (λ t. c ⊕ t) (S.mul-zero laws x) ∙ S.add-zero laws c))
  mix-whole B ok n (c ∷ d ∷ f) a [] x y cs e h = absurd (omega arith)
  mix-whole B ok n (c ∷ d ∷ f) a (b ∷ columns) x y cs e h =
      whole_sum B n (scaled F c a) (mix F (d ∷ f) (b ∷ columns)) x
      ∙ ap₂ ◌⊕◌ (whole_multiple B n c a x ∙ ap (λ t. c ⊗ t) e ∙ mul_comm c y)
      (mix-whole B ok n (d ∷ f) b columns x (x ⊗ y) cs.2
      (sym (ap (λ l. whole_of F B n l x) cs.1) ∙ next-whole B ok n 0# a x cs.0 ∙ zero-add _ ∙ ap (λ t. x ⊗ t) e) (omega arith)
      ∙ ap (λ t. t ⊗ eval F (d ∷ f) x) (mul_comm x y) ∙ mul_assoc y x _)
      ∙ sym (mul-add y c _)

  -- ---- the coset

  bound : (u v : List K) (n : ℕ) → length u ≤ n → length v ≤ n → length (add F u v) ≤ n
  unfolding add
  bound [] v n p r = r
  bound (x ∷ u) [] n p r = p
  bound (x ∷ u) (y ∷ v) zero p r = absurd (omega arith)
  bound (x ∷ u) (y ∷ v) (suc n) p r = let b = bound u v n (omega arith) (omega arith) in omega arith

  length-coset : (B : List (Step K)) (n : ℕ) (a : List K) (c : K) → length (coset_of F B n a c) ≤ 2 ^ length B
  unfolding coset_of
  length-coset B zero a c = pow_pos (length B)
  length-coset B (suc n) a c =
      bound (take (2 ^ length B) a) (scaled F (vanishing F B c) (coset_of F B n (drop (2 ^ length B) a) c)) (2 ^ length B) (omega (arith, length-take (2 ^ length B) a))
      (omega (arith, length-coset B n (drop (2 ^ length B) a) c, length-map (coset_of F B n (drop (2 ^ length B) a) c) (F.mul (vanishing F B c))))

  coset-at : (B : List (Step K)) (n : ℕ) (a : List K) (c x : K) → vanishing F B x ≡ vanishing F B c → value F (levels F B) (coset_of F B n a c) x ≡ whole_of F B n a x
  unfolding coset_of whole_of
  coset-at B zero a c x e = value-single laws (levels F B) (get_or a 0 0#) x
  coset-at B (suc n) a c x e =
      T.value-add laws (levels F B) (take (2 ^ length B) a) (scaled F (vanishing F B c) (coset_of F B n (drop (2 ^ length B) a) c)) x
      ∙ ap (λ y. value F (levels F B) (take (2 ^ length B) a) x ⊕ y)
      (T.value-scaled laws (levels F B) (vanishing F B c) (coset_of F B n (drop (2 ^ length B) a) c) x ∙ ap₂ ◌⊗◌ (sym e) (coset-at B n (drop (2 ^ length B) a) c x e))

  -- the length of a coset's list, whose first block is full
  pub coset-full : (B : List (Step K)) (n : ℕ) (a : List K) (c : K) → 2 ^ length B ≤ length a → length (coset_of F B (suc n) a c) ≡ 2 ^ length B
  unfolding coset_of
  coset-full B n a c h =
      length-add-le F (take (2 ^ length B) a) (scaled F (vanishing F B c) (coset_of F B n (drop (2 ^ length B) a) c))
      (omega (arith, length-take-le (2 ^ length B) a h, length-coset B n (drop (2 ^ length B) a) c, length-map (coset_of F B n (drop (2 ^ length B) a) c) (F.mul (vanishing F B c))))
      ∙ length-take-le (2 ^ length B) a h

  -- THE LAW for any number of blocks
  pub blocks-values : (B : List (Step K)) → RightSteps F B → (n : ℕ) (a : List K) → 2 ^ length B ≤ length a → (c : K)
      → transform F (mults F (levels F B) c) (coset_of F B (suc n) a c) ≡ map (whole_of F B (suc n) a) (points F (levels F B) c)
  blocks-values B ok n a h c =
      T.transform-values laws (levels F B) (levels-hold laws B ok) c (coset_of F B (suc n) a c) (coset-full B n a c h ∙ sym (size-levels laws B))
      ∙ T.transform-agree laws (levels F B) (vanishing-additive laws B) (vanishing-vanishes laws B ok) (value F (levels F B) (coset_of F B (suc n) a c)) (whole_of F B (suc n) a) c
      (λ x e. coset-at B (suc n) a c x e)

  longer : (u v : List K) → length u ≤ length (add F u v)
  unfolding add
  longer [] v = omega arith
  longer (x ∷ u) [] = omega arith
  longer (x ∷ u) (y ∷ v) = omega (arith, longer u v)

  length-mix : (f a : List K) (columns : List (List K)) → 1 ≤ length f → length a ≤ length (mix F f (a ∷ columns))
  unfolding mix
  length-mix [] a columns h = absurd (omega arith)
  length-mix (c ∷ f) a columns h = omega (arith, length-map a (F.mul c), longer (scaled F c a) (mix F f columns))

  -- the values of f
  pub blocks-mixed : (B : List (Step K)) → RightSteps F B → (n : ℕ) (f z : List K) (columns : List (List K)) → All (λ c. c ≡ 0#) z → 2 ^ length B ≤ length z
      → ColumnsOf F B (suc n) (1# ∷ z) columns → 1 ≤ length f → length f ≤ suc (length columns) → (c : K)
      → transform F (mults F (levels F B) c) (coset_of F B (suc n) (mix F f ((1# ∷ z) ∷ columns)) c) ≡ map (eval F f) (points F (levels F B) c)
  blocks-mixed B ok n f z columns zeros long cs some h c =
      blocks-values B ok n (mix F f ((1# ∷ z) ∷ columns)) (omega (arith, length-mix f (1# ∷ z) columns some)) c ∙ map_same (points F (levels F B) c)
    where
      map_same : (l : List K) → map (whole_of F B (suc n) (mix F f ((1# ∷ z) ∷ columns))) l ≡ map (eval F f) l
      map_same [] = refl
      map_same (x ∷ l) = ap₂ ◌∷◌ (mix-whole B ok (suc n) f (1# ∷ z) columns x 1# cs (whole-one B (suc n) z x zeros) h ∙ one-mul (eval F f x)) (map_same l)

-- ---- columns that go on where others end

module _ {K : Type 0} (F : Ops K) (B : List (Step K)) (n : ℕ) where
  pub columns-join : (j : ℕ) (xs ys : List (List K)) → ColumnsOf F B n (power_in F B n j) xs → ColumnsOf F B n (power_in F B n (j + length xs)) ys
      → ColumnsOf F B n (power_in F B n j) (xs ++ ys)
  unfolding power_in
  columns-join j [] ys c d = subst (λ (k : ℕ). ColumnsOf F B n (power_in F B n k) ys) (add-zero j) d
  columns-join j (x ∷ xs) ys c d = (
    c.0,
    c.1,
    subst (λ a. ColumnsOf F B n a (xs ++ ys)) c.1
        (columns-join (suc j) xs ys (subst (λ a. ColumnsOf F B n a xs) (sym c.1) c.2) (subst (λ (k : ℕ). ColumnsOf F B n (power_in F B n k) ys) (add-suc j (length xs) ∙ sym (suc-add j (length xs))) d)),
  )
