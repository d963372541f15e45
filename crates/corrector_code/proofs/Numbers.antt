-- The corrector's laws over the numbers that the code holds, for each field that 2 generates: carried from its
-- elements.
--   code-unique      no two codewords qualify
--   passes-exactly   what the register names passes the check exactly where some codeword lies within t
-- Assumes nothing.
use mathlib.Core.Path.{◌≡◌, refl, sym, ap, ap₂, ◌∙◌, subst}
use mathlib.Core.Logic.{◌↔◌}
use mathlib.Core.Bool.{Bool}
use mathlib.Core.List.{List}
use Prim.Native.Nat.{ℕ, suc, ◌*◌, ◌≤◌}
use native.Mathlib.Omega.{arith}
use lib.ListN.{length}
use Rattle.algebra.specs.Field.{Ops, OnNumbers, power}
use Rattle.algebra.proofs.Crossing.{Elem, elem-equal, elems, low-power}
use Rattle.algebra.proofs.Crossing as G
use Rattle.field.specs.Field.{Field, size, order, mul, numbers}
use Rattle.field.proofs.Generator.{Generated, position-unique}
use Rattle.field.proofs.Instance.{on-numbers}
use Rattle.corrector_code.specs.Word.{difference, word_value, Codeword, CodewordWithin, DistinctPowers}
use Rattle.corrector_code.specs.Correct.{flips, Passes}
use Rattle.corrector_code.proofs.Carry.{Carries}
use Rattle.corrector_code.proofs.Carry as C
use Rattle.corrector_code.proofs.Words as X
use Rattle.corrector_code.proofs.Accept as Y
use Rattle.corrector_code.proofs.Check as Q

module _ (F : Field) (gen : Generated F) where
  N : OnNumbers (numbers F) (size F)
  N = on-numbers F gen

  abbrev E : Ops (Elem (size F))
  E = elems N

  abbrev two : Elem (size F)
  two = (2, gen.two)

  low-carries : Carries E (numbers F) (λ x. x.0)
  low-carries = record { zero = refl; one = refl; add = λ x y. refl; mul = λ x y. refl; inv = λ x. refl; is_zero = λ x. refl }

  spread : DistinctPowers E two (order F)
  spread = record {
    nonzero = λ e. let z : ◌≡◌ {A = ℕ} 2 0 = ap (λ (x : Elem (size F)). x.0) e in omega arith;
    apart = λ i j a b e. position-unique F gen i j a b (sym (low-power N two i) ∙ ap (λ (x : Elem (size F)). x.0) e ∙ low-power N two j);
  }

  -- a codeword is the same thing over elements and over numbers
  codeword-low : (t : ℕ) (w : List Bool) → Codeword E two t w ↔ Codeword (numbers F) 2 t w
  codeword-low t w = (
    λ c i p q. sym (C.value-pow low-carries w two i) ∙ ap (λ (x : Elem (size F)). x.0) (c i p q),
    λ c i p q. elem-equal (C.value-pow low-carries w two i ∙ c i p q),
  )

  corrects-low : (t : ℕ) (w v : List Bool) → CodewordWithin E two t w v ↔ CodewordWithin (numbers F) 2 t w v
  corrects-low t w v = (λ c. (c.0, (codeword-low t v).0 c.1, c.2), λ c. (c.0, (codeword-low t v).1 c.1, c.2))

  passes-low : (t : ℕ) (w f : List Bool) → Passes E two t w f ↔ Passes (numbers F) 2 t w f
  passes-low t w f = (
    λ p. (p.0, λ i l. sym (C.sum_carries low-carries two f (suc (2 * i))) ∙ ap (λ (x : Elem (size F)). x.0) (p.1 i l) ∙ C.value-pow low-carries w two (suc (2 * i))),
    λ p. (p.0, λ i l. elem-equal (C.sum_carries low-carries two f (suc (2 * i)) ∙ p.1 i l ∙ sym (C.value-pow low-carries w two (suc (2 * i))))),
  )

  -- NO TWO CODEWORDS QUALIFY
  pub code-unique : (t : ℕ) (w u v : List Bool) → length w ≤ order F → CodewordWithin (numbers F) 2 t w u → CodewordWithin (numbers F) 2 t w v → u ≡ v
  code-unique t w u v l x y = X.correction-unique (G.laws N) two (order F) spread t w u v l ((corrects-low t w u).1 x) ((corrects-low t w v).1 y)

  -- what passes is a correction
  pub passes-within : (t : ℕ) (w f : List Bool) → length f ≡ length w → Passes (numbers F) 2 t w f → CodewordWithin (numbers F) 2 t w (difference w f)
  passes-within t w f e p = (corrects-low t w (difference w f)).0 (Y.passes-within (G.laws N) two (order F) spread t w f e ((passes-low t w f).1 p))

  -- TURNED AWAY EXACTLY IF NONE EXISTS
  pub passes-exactly : (t : ℕ) (w : List Bool) → t ≤ 8 → length w ≤ order F → Passes (numbers F) 2 t w (flips (numbers F) 2 t w) ↔ ((v : List Bool) × CodewordWithin (numbers F) 2 t w v)
  passes-exactly t w r l = (
    λ p. let h = (Y.exactly-when (G.laws N) two (order F) spread t w r l).0 ((passes-low t w (flips E two t w)).1 (subst (Passes (numbers F) 2 t w) (sym same) p)) in (h.0, (corrects-low t w h.0).0 h.1),
    λ h. subst (Passes (numbers F) 2 t w) same ((passes-low t w (flips E two t w)).0 ((Y.exactly-when (G.laws N) two (order F) spread t w r l).1 (h.0, (corrects-low t w h.0).1 h.1))),
  )
    where
      same : flips E two t w ≡ flips (numbers F) 2 t w
      same = C.flips-carry low-carries two t w

  -- an even syndrome is a square
  pub syndrome-square : (w : List Bool) (i : ℕ) → word_value (numbers F) w (power (numbers F) 2 (2 * i)) ≡ mul F (word_value (numbers F) w (power (numbers F) 2 i)) (word_value (numbers F) w (power (numbers F) 2 i))
  syndrome-square w i =
      sym (C.value-pow low-carries w two (2 * i)) ∙ ap (λ (x : Elem (size F)). x.0) (Q.syndrome-square (G.laws N) w two i)
      ∙ ap₂ (mul F) (C.value-pow low-carries w two i) (C.value-pow low-carries w two i)
