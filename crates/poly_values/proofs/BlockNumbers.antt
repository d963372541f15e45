-- The law of the transform for any number of coefficients, carried to numbers below the field's size.
--   values-blocks  the mix of the columns, brought together for a coset and transformed
-- Assumes nothing.
use mathlib.Core.Path.{◌≡◌, refl, sym, ap, ap₂, ◌∙◌, subst}
use mathlib.Core.List.{List, [], ◌∷◌, ◌++◌, map, map-append}
use Prim.Native.Nat.{ℕ, zero, suc, ◌*◌, ◌^◌, ◌<◌, ◌≤◌}
use native.Mathlib.Omega.{arith}
use lib.ListN.{get_or, length, take, drop, length-map}
use Rattle.algebra.specs.Field.{Ops, OnNumbers}
use Rattle.algebra.specs.Trial.{All}
use Rattle.algebra.specs.Polynomial.{add, eval, Below}
use Rattle.algebra.proofs.Crossing.{Elem, elem-equal, elems, laws, low, low-add, low-scale, lift, low-lift}
use Rattle.poly_values.specs.Transform.{points, scaled, transform, mults}
use Rattle.poly_values.specs.Basis.{Step, vanishing, RightSteps, levels, raised_in}
use Rattle.poly_values.specs.Blocks.{next_of, ColumnsOf, mix, coset_of}
use Rattle.poly_values.proofs.Image.{transform-image, map-take, map-drop}
use Rattle.poly_values.proofs.Numbers.{StepBelow, low_step, low_steps, lift_steps, low-lift_steps, zero-list, zeros-are, low_zeros, lift_all, low-lift_all, low-get_or, low-vanishing, right-up, low-points, low-mults, low-raised_in, low_same, low_values, respects, anything, lows}
use Rattle.poly_values.proofs.Blocks.{blocks-mixed}

module _ {G : Ops ℕ} {q : ℕ} (N : OnNumbers G q) where
  abbrev E : Ops (Elem q)
  E = elems N

  abbrev φ : Elem q → ℕ
  φ u = u.0

  -- ---- what is done to lists of elements is done to their numbers

  module _ (B : List (Step (Elem q))) where
    abbrev S : List (Step ℕ)
    S = low_steps N B

    size : 2 ^ length B ≡ 2 ^ length S
    size = ap (λ (k : ℕ). 2 ^ k) (sym (length-map B (low_step N)))

    low-front : (a : List (Elem q)) → low N (take (2 ^ length B) a) ≡ take (2 ^ length S) (low N a)
    low-front a = map-take φ (2 ^ length B) a ∙ ap (λ (k : ℕ). take k (low N a)) size

    low-rest : (a : List (Elem q)) → low N (drop (2 ^ length B) a) ≡ drop (2 ^ length S) (low N a)
    low-rest a = map-drop φ (2 ^ length B) a ∙ ap (λ (k : ℕ). drop k (low N a)) size

    low-next_of : (n : ℕ) (c : Elem q) (a : List (Elem q)) → low N (next_of E B n c a) ≡ next_of G S n c.0 (low N a)
    unfolding next_of
    low-next_of zero c a = refl
    low-next_of (suc n) c a =
        map-append φ (add E up.0 (c ∷ [])) (next_of E B n up.1 (drop (2 ^ length B) a))
        ∙ ap₂ ◌++◌ (low-add N up.0 (c ∷ []) ∙ ap (λ p. add G p.0 (c.0 ∷ [])) raised)
        (low-next_of n up.1 (drop (2 ^ length B) a) ∙ ap₂ (λ p l. next_of G S n p.1 l) raised (low-rest a))
      where
        up : List (Elem q) × Elem q
        up = raised_in E B (take (2 ^ length B) a)

        raised : ◌≡◌ {A = List ℕ × ℕ} (low N up.0, up.1.0) (raised_in G S (take (2 ^ length S) (low N a)))
        raised = low-raised_in N B (take (2 ^ length B) a) ∙ ap (raised_in G S) (low-front a)

    low-coset_of : (n : ℕ) (a : List (Elem q)) (c : Elem q) → low N (coset_of E B n a c) ≡ coset_of G S n (low N a) c.0
    unfolding coset_of
    low-coset_of zero a c = ap (λ x. x ∷ []) (low-get_or N a 0)
    low-coset_of (suc n) a c =
        low-add N (take (2 ^ length B) a) (scaled E (vanishing E B c) (coset_of E B n (drop (2 ^ length B) a) c))
        ∙ ap₂ (add G) (low-front a)
        (low-scale N (vanishing E B c) (coset_of E B n (drop (2 ^ length B) a) c)
        ∙ ap₂ (λ x l. map (G.mul x) l) (low-vanishing N B c) (low-coset_of n (drop (2 ^ length B) a) c ∙ ap (λ l. coset_of G S n l c.0) (low-rest a)))

    columns-up : (n : ℕ) (a : List (Elem q)) (bs : List (List (Elem q))) → ColumnsOf G S n (low N a) (lows N bs) → ColumnsOf E B n a bs
    unfolding lows
    columns-up n a [] h = tt
    columns-up n a (b ∷ bs) h = (
      elem-equal (low-get_or N a (n * 2 ^ length B) ∙ ap (λ (k : ℕ). get_or (low N a) (n * k) G.zero) size ∙ h.0),
      low_same N (next_of E B n E.zero a) b (low-next_of n E.zero a ∙ h.1),
      columns-up n b bs h.2,
    )

  low-mix : (f : List (Elem q)) (columns : List (List (Elem q))) → low N (mix E f columns) ≡ mix G (low N f) (lows N columns)
  unfolding mix lows
  low-mix [] columns = refl
  low-mix (c ∷ f) [] = refl
  low-mix (c ∷ f) (a ∷ columns) = low-add N (scaled E c a) (mix E f columns) ∙ ap₂ (add G) (low-scale N c a) (low-mix f columns)

  -- ---- the law

  -- what is to be shown of steps, a polynomial, zeros and columns
  abbrev Goal : ℕ → ℕ → List (Step ℕ) → List ℕ → List ℕ → List (List ℕ) → Type 0
  Goal n c B f z columns =
      transform G (mults G (levels G B) c) (coset_of G B (suc n) (mix G f ((G.one ∷ z) ∷ columns)) c) ≡ map (eval G f) (points G (levels G B) c)

  -- over lists of elements
  values_low : (n : ℕ) (B : List (Step (Elem q))) → RightSteps G (low_steps N B) → (f z : List (Elem q)) (columns : List (List (Elem q))) → All (λ c. c ≡ E.zero) z
      → 2 ^ length B ≤ length z → ColumnsOf G (low_steps N B) (suc n) (low N (E.one ∷ z)) (lows N columns) → 1 ≤ length f → length f ≤ suc (length columns) → (c : Elem q)
      → Goal n c.0 (low_steps N B) (low N f) (low N z) (lows N columns)
  unfolding lows
  values_low n B ok f z columns zeros long cs some h c =
      sym (transform-image (respects N) (mults E (levels E B) c) start (anything N start)
      ∙ ap₂ (transform G) (low-mults N B c) (low-coset_of B (suc n) (mix E f ((E.one ∷ z) ∷ columns)) c ∙ ap (λ a. coset_of G (low_steps N B) (suc n) a c.0) (low-mix f ((E.one ∷ z) ∷ columns))))
      ∙ ap (low N) (blocks-mixed (laws N) B (right-up N B ok) n f z columns zeros long (columns-up B (suc n) (E.one ∷ z) columns cs) some h c)
      ∙ low_values N f (points E (levels E B) c) ∙ ap (map (eval G (low N f))) (low-points N B c)
    where
      start : List (Elem q)
      start = coset_of E B (suc n) (mix E f ((E.one ∷ z) ∷ columns)) c

  -- THE LAW over numbers, for any number of coefficients: B the steps, zeros and columns the columns (the first is 1
  -- and the zeros), n and one more the blocks, c the coset
  pub values-blocks : (n : ℕ) (B : List (Step ℕ)) → All (StepBelow q) B → RightSteps G B → (f : List ℕ) → Below q f → (z : List ℕ) → All (λ c. c ≡ G.zero) z
      → (columns : List (List ℕ)) → All (Below q) columns → 2 ^ length B ≤ length z → ColumnsOf G B (suc n) (G.one ∷ z) columns
      → 1 ≤ length f → length f ≤ suc (length columns) → (c : ℕ) → c < q
      → transform G (mults G (levels G B) c) (coset_of G B (suc n) (mix G f ((G.one ∷ z) ∷ columns)) c) ≡ map (eval G f) (points G (levels G B) c)
  unfolding lows
  values-blocks n B small ok f fs z zeros columns cols long cs some h c below =
      subst (λ (B : List (Step ℕ)). RightSteps G B → 2 ^ length B ≤ length z → ColumnsOf G B (suc n) (G.one ∷ z) columns → Goal n c B f z columns)
      (low-lift_steps N B small)
      (λ ok long cs.
      subst (λ (f : List ℕ). Goal n c B' f z columns) (low-lift N f fs)
      (subst (λ (l : List (List ℕ)). Goal n c B' (low N f') z l) (low-lift_all N columns cols)
      (subst (λ (l : List ℕ). Goal n c B' (low N f') l (lows N columns')) low-z
      (values_low n (lift_steps N B small) ok f' z' columns' (zeros-are N (length z))
      (omega (arith, long, ap length low-z, length-map z' φ, ap (λ (k : ℕ). 2 ^ k) (length-map (lift_steps N B small) (low_step N))))
      (subst (λ (l : List ℕ). ColumnsOf G B' (suc n) (G.one ∷ l) (lows N columns')) (sym low-z)
      (subst (λ (l : List (List ℕ)). ColumnsOf G B' (suc n) (G.one ∷ z) l) (sym (low-lift_all N columns cols)) cs))
      (omega (arith, length-map f' φ, ap length (low-lift N f fs)))
      (omega (arith, length-map f' φ, ap length (low-lift N f fs), length-map columns' (low N), ap length (low-lift_all N columns cols)))
      (c, below)))))
      ok long cs
    where
      B' : List (Step ℕ)
      B' = low_steps N (lift_steps N B small)

      f' : List (Elem q)
      f' = lift N f fs

      columns' : List (List (Elem q))
      columns' = lift_all N columns cols

      z' : List (Elem q)
      z' = zero-list N (length z)

      low-z : low N z' ≡ z
      low-z = low_zeros N z zeros
