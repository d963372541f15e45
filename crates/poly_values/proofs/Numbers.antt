-- What the law of the transform is made of, carried from field elements to numbers below the field's size.
--   low_step, low_steps, lift_steps        steps as numbers, and as elements
--   low-vanishing, low-points, low-mults, low-raised_in, low_values   the same on numbers as on elements
--   low_same, lift_all, zero-list        lists of elements
-- Assumes nothing.
use mathlib.Core.Path.{◌≡◌, refl, sym, ap, ap₂, ◌∙◌}
use mathlib.Core.List.{List, [], ◌∷◌, ◌++◌, map, map-append}
use Prim.Native.Nat.{ℕ, zero, suc, ◌^◌, ◌<◌}
use native.Mathlib.Omega.{arith}
use lib.ListN.{get_or, length, take, drop, length-map, get_or-map}
use Rattle.algebra.specs.Field.{Ops, OnNumbers}
use Rattle.algebra.specs.Trial.{All}
use Rattle.algebra.specs.Polynomial.{add, eval, Below}
use Rattle.algebra.proofs.Crossing.{Elem, elem-equal, elems, low, low-add, low-eval, lift, low-lift}
use Rattle.poly_values.specs.Transform.{node, points, mults, map_mults}
use Rattle.poly_values.specs.Basis.{Step, vanishing, RightSteps, levels, join_raised, raised_in}
use Rattle.poly_values.proofs.Image.{Respects, map-take, map-drop}

-- the numbers of a step are below q
pub record StepBelow (q : ℕ) (s : Step ℕ) : Type 0 where
  pub step : s.step < q
  pub unit : s.unit < q
  pub back : s.back < q

module _ {G : Ops ℕ} {q : ℕ} (N : OnNumbers G q) where
  abbrev pub E : Ops (Elem q)
  E = elems N

  -- forgetting that a number is an element
  abbrev pub φ : Elem q → ℕ
  φ u = u.0

  abbrev pub low_step : Step (Elem q) → Step ℕ
  low_step s = record { step = s.step.0; unit = s.unit.0; back = s.back.0 }

  abbrev pub low_steps : List (Step (Elem q)) → List (Step ℕ)
  low_steps = map low_step

  pub lift_steps : (B : List (Step ℕ)) → All (StepBelow q) B → List (Step (Elem q))
  lift_steps [] h = []
  lift_steps (s ∷ B) h = record { step = (s.step, h.0.step); unit = (s.unit, h.0.unit); back = (s.back, h.0.back) } ∷ lift_steps B h.1

  pub low-lift_steps : (B : List (Step ℕ)) (h : All (StepBelow q) B) → low_steps (lift_steps B h) ≡ B
  unfolding lift_steps
  low-lift_steps [] h = refl
  low-lift_steps (s ∷ B) h = ap (λ l. s ∷ l) (low-lift_steps B h.1)

  pub low-vanishing : (B : List (Step (Elem q))) (z : Elem q) → φ (vanishing E B z) ≡ vanishing G (low_steps B) (φ z)
  unfolding vanishing
  low-vanishing [] z = refl
  low-vanishing (b ∷ B) z = ap (λ x. G.mul x (G.add x b.unit.0)) (low-vanishing B z)

  pub right-up : (B : List (Step (Elem q))) → RightSteps G (low_steps B) → RightSteps E B
  right-up [] ok = tt
  right-up (b ∷ B) ok = (elem-equal (low-vanishing B b.step ∙ ok.0), elem-equal ok.1, right-up B ok.2)

  pub low-points : (B : List (Step (Elem q))) (c : Elem q) → low N (points E (levels E B) c) ≡ points G (levels G (low_steps B)) (φ c)
  unfolding points levels
  low-points [] c = refl
  low-points (b ∷ B) c =
      map-append φ (points E (levels E B) c) (points E (levels E B) (E.add c b.step)) ∙ ap₂ ◌++◌ (low-points B c) (low-points B (E.add c b.step))

  pub low-mults : (B : List (Step (Elem q))) (c : Elem q) → map_mults φ (mults E (levels E B) c) ≡ mults G (levels G (low_steps B)) (φ c)
  unfolding mults levels map_mults
  low-mults [] c = refl
  low-mults (b ∷ B) c = λ i. node (G.mul b.back.0 (low-vanishing B c i)) (low-mults B c i) (low-mults B (E.add c b.step) i)

  pub low-get_or : (l : List (Elem q)) (n : ℕ) → φ (get_or l n E.zero) ≡ get_or (low N l) n G.zero
  low-get_or l n = sym (get_or-map φ l n E.zero)

  abbrev pub low_pair : List (Elem q) × Elem q → List ℕ × ℕ
  low_pair p = (low N p.0, p.1.0)

  pub low-raised_in : (B : List (Step (Elem q))) (a : List (Elem q)) → low_pair (raised_in E B a) ≡ raised_in G (low_steps B) (low N a)
  unfolding raised_in
  low-raised_in [] a = ap (λ x. (G.zero ∷ [], x)) (low-get_or a 0)
  low-raised_in (s ∷ B) a =
      join (raised_in E B (take (2 ^ length B) a)) (raised_in E B (drop (2 ^ length B) a))
      ∙ ap₂ (join_raised G (low_step s)) (low-raised_in B (take (2 ^ length B) a)) (low-raised_in B (drop (2 ^ length B) a))
      ∙ ap₂ (λ x y. join_raised G (low_step s) (raised_in G (low_steps B) x) (raised_in G (low_steps B) y))
      (map-take φ (2 ^ length B) a ∙ ap (λ n. take (2 ^ n) (low N a)) (sym (length-map B low_step)))
      (map-drop φ (2 ^ length B) a ∙ ap (λ n. drop (2 ^ n) (low N a)) (sym (length-map B low_step)))
    where
      join : (lo hi : List (Elem q) × Elem q) → low_pair (join_raised E s lo hi) ≡ join_raised G (low_step s) (low_pair lo) (low_pair hi)
      join lo hi = ap (λ l. (l, G.mul hi.1.0 s.back.0))
          (map-append φ lo.0 (add E hi.0 (_ ∷ [])) ∙ ap (λ l. low N lo.0 ++ l) (low-add N hi.0 (_ ∷ [])))

  -- two lists of elements with the same numbers are the same
  pub low_same : (a b : List (Elem q)) → low N a ≡ low N b → a ≡ b
  low_same [] [] e = refl
  low_same [] (y ∷ b) e = let z : ◌≡◌ {A = ℕ} 0 (suc (length (low N b))) = ap length e in absurd (omega arith)
  low_same (x ∷ a) [] e = let z : ◌≡◌ {A = ℕ} (suc (length (low N a))) 0 = ap length e in absurd (omega arith)
  low_same (x ∷ a) (y ∷ b) e = ap₂ ◌∷◌ (elem-equal (ap (λ l. get_or l 0 0) e)) (low_same a b (ap (λ l. drop 1 l) e))

  unfoldable pub lows : List (List (Elem q)) → List (List ℕ)
  lows = map (low N)

  pub low_values : (f s : List (Elem q)) → low N (map (eval E f) s) ≡ map (eval G (low N f)) (low N s)
  low_values f [] = refl
  low_values f (x ∷ s) = ap₂ ◌∷◌ (low-eval N f x) (low_values f s)

  pub respects : Respects E G (λ u. Unit {0}) φ
  respects = record { sums = λ x y h k. refl; products = λ e x h. refl; kept-sum = λ x y h k. tt; kept-product = λ e x h. tt }

  pub anything : (a : List (Elem q)) → All (λ u. Unit {0}) a
  anything [] = tt
  anything (x ∷ a) = (tt, anything a)

  pub lift_all : (ls : List (List ℕ)) → All (Below q) ls → List (List (Elem q))
  lift_all [] h = []
  lift_all (l ∷ ls) h = lift N l h.0 ∷ lift_all ls h.1

  pub low-lift_all : (ls : List (List ℕ)) (h : All (Below q) ls) → lows (lift_all ls h) ≡ ls
  unfolding lift_all lows
  low-lift_all [] h = refl
  low-lift_all (l ∷ ls) h = ap₂ ◌∷◌ (low-lift N l h.0) (low-lift_all ls h.1)

  pub zero-list : ℕ → List (Elem q)
  zero-list zero = []
  zero-list (suc n) = E.zero ∷ zero-list n

  pub zeros-are : (n : ℕ) → All (λ c. c ≡ E.zero) (zero-list n)
  unfolding zero-list
  zeros-are zero = tt
  zeros-are (suc n) = (refl, zeros-are n)

  pub low_zeros : (l : List ℕ) → All (λ c. c ≡ G.zero) l → low N (zero-list (length l)) ≡ l
  unfolding zero-list
  low_zeros [] h = refl
  low_zeros (x ∷ l) h = ap₂ ◌∷◌ (sym h.0) (low_zeros l h.1)
