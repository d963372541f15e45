-- The levels of a list of steps obey the laws of levels; z times what stands in their basis.
--   vanishing-additive, vanishing-vanishes   the vanishing map respects sums, and is 0 at every step
--   levels-hold     the levels obey the laws of levels
--   raised_in-value    z times what stands in the basis
--   value_none, value-single, value-zeros   the value of no coefficient, of one, and of zeros
-- Assumes nothing.
use mathlib.Core.Path.{◌≡◌, refl, sym, ap, ap₂, ◌∙◌}
use mathlib.Core.List.{List, [], ◌∷◌}
use Prim.Native.Nat.{ℕ, suc, ◌+◌, ◌^◌, ◌≤◌}
use native.Mathlib.Omega.{arith}
use native.Mathlib.Nat.{pow-suc}
use lib.Pow.{pow_pos}
use lib.ListN.{length, take, drop, length-append, drop_of_length-le}
use lib.Seq.{take_all, take_at, drop_at, take-nil, drop-nil}
use Rattle.algebra.specs.Field.{Ops, Laws}
use Rattle.algebra.specs.Polynomial.{add}
use Rattle.algebra.proofs.Elements as S
use Rattle.poly_values.specs.Transform.{Level, Additive, Vanishes, Levels, value}
use Rattle.poly_values.specs.Basis.{Step, vanishing, RightSteps, levels, raised_in}
use Rattle.algebra.specs.Trial.{All}
use Rattle.poly_values.proofs.Transform as T
use Rattle.poly_values.proofs.Image.{all_take, all_drop}
use Rattle.poly_values.proofs.Lists.{length-add-le}

module _ {K : Type 0} {F : Ops K} (laws : Laws F) where
  infixl 60 ◌⊕◌
  infixl 70 ◌⊗◌
  open F use {zero as 0#, one as 1#, add as ◌⊕◌, mul as ◌⊗◌}
  open laws use {add_comm, add_assoc, zero-add, add-self, mul_comm, mul_assoc, one-mul, mul-add}

  -- ---- the vanishing map

  -- a term that meets itself
  twice : (a b w : K) → (a ⊕ w) ⊕ (b ⊕ w) ≡ a ⊕ b
  twice a b w = add_assoc a w (b ⊕ w) ∙ ap (λ y. a ⊕ y) (ap (λ y. w ⊕ y) (add_comm b w) ∙ S.add_back laws w b)

  -- y (y + t) is additive in y
  twisted : (t y z : K) → (y ⊕ z) ⊗ ((y ⊕ z) ⊕ t) ≡ y ⊗ (y ⊕ t) ⊕ z ⊗ (z ⊕ t)
  twisted t y z =
      S.add-mul laws y z ((y ⊕ z) ⊕ t)
      ∙ ap₂ ◌⊕◌ (ap (λ w. y ⊗ w) (add_assoc y z t ∙ S.add_left_comm laws y z t ∙ add_comm z (y ⊕ t)) ∙ mul-add y (y ⊕ t) z)
      (ap (λ w. z ⊗ w) (add_assoc y z t ∙ add_comm y (z ⊕ t)) ∙ mul-add z (z ⊕ t) y ∙ ap (λ w. z ⊗ (z ⊕ t) ⊕ w) (mul_comm z y))
      ∙ twice (y ⊗ (y ⊕ t)) (z ⊗ (z ⊕ t)) (y ⊗ z)

  pub vanishing-additive : (B : List (Step K)) → Additive F (vanishing F B)
  unfolding vanishing
  vanishing-additive [] x y = refl
  vanishing-additive (b ∷ B) x y =
      ap (λ w. w ⊗ (w ⊕ b.unit)) (vanishing-additive B x y) ∙ twisted b.unit (vanishing F B x) (vanishing F B y)

  -- a map that is 0 where another is
  vanishes-on : {e g : K → K} (L : List (Level K)) → ((x : K) → e x ≡ 0# → g x ≡ 0#) → Vanishes F e L → Vanishes F g L
  vanishes-on [] h va = tt
  vanishes-on (v ∷ L) h va = (h v.step va.0, vanishes-on L h va.1)

  pub vanishing-vanishes : (B : List (Step K)) → RightSteps F B → Vanishes F (vanishing F B) (levels F B)
  unfolding levels vanishing
  vanishing-vanishes [] ok = tt
  vanishing-vanishes (b ∷ B) ok = (
    ap (λ w. w ⊗ (w ⊕ b.unit)) ok.0 ∙ ap (λ w. b.unit ⊗ w) (add-self b.unit) ∙ S.mul-zero laws b.unit,
    vanishes-on (levels F B) (λ x p. ap (λ w. w ⊗ (w ⊕ b.unit)) p ∙ S.zero-mul laws (0# ⊕ b.unit)) (vanishing-vanishes B ok.2),
  )

  -- the levels obey the laws of levels
  pub levels-hold : (B : List (Step K)) → RightSteps F B → Levels F (levels F B)
  unfolding levels
  levels-hold [] ok = tt
  levels-hold (b ∷ B) ok = (
    λ x y. ap (λ w. b.back ⊗ w) (vanishing-additive B x y) ∙ mul-add b.back (vanishing F B x) (vanishing F B y),
    ap (λ w. b.back ⊗ w) ok.0 ∙ mul_comm b.back b.unit ∙ ok.1,
    vanishes-on (levels F B) (λ x p. ap (λ w. b.back ⊗ w) p ∙ S.mul-zero laws b.back) (vanishing-vanishes B ok.2),
    levels-hold B ok.2,
  )

  -- ---- lengths

  pub length-levels : (B : List (Step K)) → length (levels F B) ≡ length B
  unfolding levels
  length-levels [] = refl
  length-levels (b ∷ B) = ap suc (length-levels B)

  pub size-levels : (B : List (Step K)) → 2 ^ length (levels F B) ≡ 2 ^ length B
  size-levels B = ap (λ n. 2 ^ n) (length-levels B)

  pub length-raised_in : (B : List (Step K)) (a : List K) → length (raised_in F B a).0 ≡ 2 ^ length B
  unfolding raised_in
  length-raised_in [] a = refl
  length-raised_in (b ∷ B) a =
      let l = length-raised_in B (take (2 ^ length B) a) in
      let h = length-raised_in B (drop (2 ^ length B) a) in
      length-append (raised_in F B (take (2 ^ length B) a)).0 (add F (raised_in F B (drop (2 ^ length B) a)).0 (_ ∷ []))
      ∙ ap₂ ◌+◌ l (length-add-le F (raised_in F B (drop (2 ^ length B) a)).0 (_ ∷ []) (omega (arith, h, pow_pos (length B))) ∙ h)
      ∙ omega (arith, pow-suc 2 (length B))

  -- ---- values of few coefficients

  pub value_none : (L : List (Level K)) (x : K) → value F L [] x ≡ 0#
  unfolding value
  value_none [] x = refl
  value_none (v ∷ L) x =
      ap₂ (λ s t. value F L s x ⊕ v.part x ⊗ value F L t x) (take-nil (2 ^ length L)) (drop-nil (2 ^ length L))
      ∙ ap (λ y. y ⊕ v.part x ⊗ y) (value_none L x) ∙ zero-add _ ∙ S.mul-zero laws (v.part x)

  pub value-single : (L : List (Level K)) (w x : K) → value F L (w ∷ []) x ≡ w
  unfolding value
  value-single [] w x = refl
  value-single (v ∷ L) w x =
      let h : 1 ≤ 2 ^ length L = pow_pos (length L) in
      ap₂ (λ s t. value F L s x ⊕ v.part x ⊗ value F L t x) (take_all (2 ^ length L) (w ∷ []) h) (drop_of_length-le (w ∷ []) h)
      ∙ ap₂ (λ s t. s ⊕ v.part x ⊗ t) (value-single L w x) (value_none L x) ∙ ap (λ y. w ⊕ y) (S.mul-zero laws (v.part x)) ∙ S.add-zero laws w

  -- ---- z times what stands in the basis

  module _ (s : Step K) (B : List (Step K)) (ok : RightSteps F (s ∷ B)) (x : K) where
    van : K
    van = vanishing F B x

    part : K
    part = s.back ⊗ van

    -- van is unit times part, and van part = back (the vanishing map with s) + unit part
    van-part : van ≡ s.unit ⊗ part
    unfolding van part
    van-part = sym (sym (mul_assoc s.unit s.back van) ∙ ap (λ y. y ⊗ van) ok.1 ∙ one-mul van)

    square-part : part ⊗ van ≡ s.back ⊗ vanishing F (s ∷ B) x ⊕ van
    unfolding van part vanishing
    square-part =
        mul_assoc s.back van van
        ∙ sym (ap (λ y. s.back ⊗ y ⊕ van) (mul-add van van s.unit) ∙ ap (λ y. y ⊕ van) (mul-add s.back (van ⊗ van) (van ⊗ s.unit))
        ∙ ap (λ y. s.back ⊗ (van ⊗ van) ⊕ y ⊕ van) (ap (λ y. s.back ⊗ y) (mul_comm van s.unit) ∙ sym (mul_assoc s.back s.unit van) ∙ ap (λ y. y ⊗ van) (mul_comm s.back s.unit ∙ ok.1) ∙ one-mul van)
        ∙ add_assoc _ van van ∙ ap (λ y. s.back ⊗ (van ⊗ van) ⊕ y) (add-self van) ∙ S.add-zero laws _)

    -- the two halves, each with what falls out of it
    halves-raised : (l h cl ch : K)
        → (l ⊕ cl ⊗ van) ⊕ part ⊗ (h ⊕ ch ⊗ van) ≡ (l ⊕ part ⊗ (h ⊕ (cl ⊕ ch) ⊗ s.unit)) ⊕ (ch ⊗ s.back) ⊗ vanishing F (s ∷ B) x
    halves-raised l h cl ch =
        ap₂ (λ a b. (l ⊕ a) ⊕ b) (ap (λ y. cl ⊗ y) van-part)
        (mul-add part h (ch ⊗ van) ∙ ap (λ y. part ⊗ h ⊕ y)
        (S.mul_left_comm laws part ch van ∙ ap (λ y. ch ⊗ y) square-part ∙ mul-add ch (s.back ⊗ W) van ∙ ap₂ ◌⊕◌ (sym (mul_assoc ch s.back W)) (ap (λ y. ch ⊗ y) van-part)))
        ∙ order l (cl ⊗ (s.unit ⊗ part)) (part ⊗ h) ((ch ⊗ s.back) ⊗ W) (ch ⊗ (s.unit ⊗ part))
        ∙ sym (ap (λ y. (l ⊕ y) ⊕ (ch ⊗ s.back) ⊗ W) (mul-add part h ((cl ⊕ ch) ⊗ s.unit)
        ∙ ap (λ y. part ⊗ h ⊕ y) (S.mul_left_comm laws part (cl ⊕ ch) s.unit ∙ S.add-mul laws cl ch (part ⊗ s.unit) ∙ ap (λ y. cl ⊗ y ⊕ ch ⊗ y) (mul_comm part s.unit))))
      where
        W : K
        W = vanishing F (s ∷ B) x

        order : (l a h w b : K) → (l ⊕ a) ⊕ (h ⊕ (w ⊕ b)) ≡ (l ⊕ (h ⊕ (a ⊕ b))) ⊕ w
        order l a h w b =
            add_assoc l a (h ⊕ (w ⊕ b))
            ∙ ap (λ y. l ⊕ y) (S.add_left_comm laws a h (w ⊕ b) ∙ ap (λ y. h ⊕ y) (S.add_left_comm laws a w b ∙ add_comm w (a ⊕ b)) ∙ sym (add_assoc h (a ⊕ b) w))
            ∙ sym (add_assoc l (h ⊕ (a ⊕ b)) w)

  pub raised_in-value : (B : List (Step K)) → RightSteps F B → (a : List K) (x : K)
      → x ⊗ value F (levels F B) a x ≡ value F (levels F B) (raised_in F B a).0 x ⊕ (raised_in F B a).1 ⊗ vanishing F B x
  unfolding raised_in value levels vanishing part van
  raised_in-value [] ok a x = mul_comm x _ ∙ sym (zero-add _)
  raised_in-value (s ∷ B) ok a x =
      mul-add x _ _ ∙ ap (λ y. x ⊗ value F L (take n a) x ⊕ y) (S.mul_left_comm laws x (p) _)
      ∙ ap₂ (λ i j. x ⊗ value F L (take i a) x ⊕ p ⊗ (x ⊗ value F L (drop j a) x)) (size-levels B) (size-levels B)
      ∙ ap₂ (λ y z. y ⊕ p ⊗ z) (raised_in-value B ok.2 (take h a) x) (raised_in-value B ok.2 (drop h a) x)
      ∙ halves-raised s B ok x (value F L lo.0 x) (value F L hi.0 x) lo.1 hi.1
      ∙ ap (λ y. (value F L lo.0 x ⊕ p ⊗ y) ⊕ (hi.1 ⊗ s.back) ⊗ vanishing F (s ∷ B) x)
      (sym (T.value-add laws L hi.0 (more ∷ []) x ∙ ap (λ y. value F L hi.0 x ⊕ y) (value-single L more x)))
      ∙ ap₂ (λ y z. (value F L y x ⊕ p ⊗ value F L z x) ⊕ (hi.1 ⊗ s.back) ⊗ vanishing F (s ∷ B) x)
      (sym (take_at lo.0 up n long)) (sym (drop_at lo.0 up n long))
    where
      L : List (Level K)
      L = levels F B

      h : ℕ
      h = 2 ^ length B

      n : ℕ
      n = 2 ^ length L

      p : K
      p = s.back ⊗ vanishing F B x

      lo : List K × K
      lo = raised_in F B (take h a)

      hi : List K × K
      hi = raised_in F B (drop h a)

      more : K
      more = (lo.1 ⊕ hi.1) ⊗ s.unit

      up : List K
      up = add F hi.0 (more ∷ [])

      long : length lo.0 ≡ n
      long = length-raised_in B (take h a) ∙ sym (size-levels B)

  -- ---- zeros

  pub value-zeros : (L : List (Level K)) (a : List K) (x : K) → All (λ c. c ≡ 0#) a → value F L a x ≡ 0#
  unfolding value
  value-zeros [] [] x h = refl
  value-zeros [] (c ∷ a) x h = h.0
  value-zeros (v ∷ L) a x h =
      ap₂ (λ s t. s ⊕ v.part x ⊗ t) (value-zeros L (take n a) x (all_take (λ c. c ≡ 0#) n a h)) (value-zeros L (drop n a) x (all_drop (λ c. c ≡ 0#) n a h))
      ∙ zero-add _ ∙ S.mul-zero laws (v.part x)
    where
      n : ℕ
      n = 2 ^ length L
