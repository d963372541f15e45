-- The multiplicities of a quadratic's roots: where a = 0 the one root is double, and two roots are simple.
--   solved-none, solved-double, solved-two   so the solver's answers hold the roots with their multiplicities
-- Assumes nothing.
use mathlib.Core.Path.{◌≡◌, sym, ap, ◌∙◌}
use mathlib.Core.List.{[], ◌∷◌, map}
use Prim.Native.Nat.{ℕ, ◌<◌}
use native.Mathlib.Omega.{arith}
use lib.ListN.{length, get_or-eq_default}
use Rattle.algebra.specs.Multiplicity.{multiplicity}
use Rattle.algebra.proofs.NumberMultiplicity.{roots-simple, square-double}
use Rattle.field.specs.Field.{Field, size, mul, numbers}
use Rattle.field.specs.Quadratics.{roots_of_quadratic, SolvesQuadratic}
use Rattle.field.specs.declared.solver.Quadratic.TheVariants.{NoRoot, Double, Two}
use Rattle.field.proofs.Generator.{Generated, one_below}
use Rattle.field.proofs.Solutions.{one-root}
use Rattle.field.proofs.Instance.{on-numbers}

module _ (F : Field) (gen : Generated F) where
  -- the multiplicity of x in z^2 + az + b
  times : ℕ → ℕ → ℕ → ℕ
  times a b x = multiplicity (numbers F) (b ∷ a ∷ 1 ∷ []) x

  pub solved-none : {a b : ℕ} → roots_of_quadratic F a b ≡ [] → SolvesQuadratic F a b NoRoot
  solved-none {a} {b} e = record { roots = sym e; times = sym (ap (map (multiplicity (numbers F) (b ∷ a ∷ 1 ∷ []))) e) }

  -- the square root
  pub solved-double : {a b s : ℕ} → a ≡ 0 → b < size F → s < size F → mul F s s ≡ b → SolvesQuadratic F a b (Double s)
  unfolding times
  solved-double {a} {b} {s} z hb hs e =
      let one : roots_of_quadratic F a b ≡ s ∷ [] = one-root F gen z hb hs e in
      let two : times a b s ≡ 2 = ap (λ c. times c b s) z ∙ square-double (on-numbers F gen) s b hs hb e in
      record { roots = sym one; times = sym (ap (map (times a b)) one ∙ ap (λ n. n ∷ []) two) }

  -- as many as the degree
  pub solved-two : {a b x y : ℕ} → a < size F → b < size F → roots_of_quadratic F a b ≡ x ∷ y ∷ [] → SolvesQuadratic F a b (Two x y)
  solved-two {a} {b} {x} {y} ha hb e = record {
    roots = sym e;
    times = sym (roots-simple (on-numbers F gen) (b ∷ a ∷ 1 ∷ []) (hb, (ha, (one_below F gen, tt))) 2 (omega arith)
        (λ k l. get_or-eq_default (b ∷ a ∷ 1 ∷ []) 0 l) (ap length e));
  }
