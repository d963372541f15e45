-- EXACTLY WHEN: what was found passes the check exactly where some codeword lies within t of the word.
--   passes-within   what passes is a correction
--   exactly-when    what the register marks passes exactly where some codeword lies within t
-- Assumes nothing.
use mathlib.Core.Path.{◌≡◌, refl, sym, ap, ◌∙◌, subst}
use mathlib.Core.Logic.{◌↔◌}
use mathlib.Core.Bool.{Bool}
use mathlib.Core.List.{List}
use Prim.Native.Nat.{ℕ, zero, suc, ◌*◌, ◌≤◌}
use native.Mathlib.Omega.{arith}
use lib.ListN.{length, length-map}
use Rattle.algebra.specs.Field.{Ops, Laws, power}
use Rattle.algebra.specs.Trial.{up_from}
use Rattle.algebra.proofs.Elements as E
use Rattle.corrector_code.specs.Word.{difference, places, word_value, CodewordWithin, DistinctPowers}
use Rattle.corrector_code.specs.Correct.{marked_at, flips, candidate, Passes}
use Rattle.corrector_code.proofs.Words.{length-difference}
use Rattle.corrector_code.proofs.Words as X
use Rattle.corrector_code.proofs.Complete.{difference-difference}
use Rattle.corrector_code.proofs.Complete as Z
use Rattle.corrector_code.proofs.Check as Q

length-row : (k n : ℕ) → length (up_from k n) ≡ n
unfolding up_from
length-row k zero = refl
length-row k (suc n) = ap suc (length-row (suc k) n)

module _ {K : Type 0} {F : Ops K} (L : Laws F) (a : K) (n : ℕ) (o : DistinctPowers F a n) where
  infixl 60 ◌⊕◌
  open F use {add as ◌⊕◌}

  length-flips : (t : ℕ) (w : List Bool) → length (flips F a t w) ≡ length w
  unfolding flips marked_at
  length-flips t w = length-map (up_from 0 (length w)) _ ∙ length-row 0 (length w)

  -- what passes is a correction
  pub passes-within : (t : ℕ) (w f : List Bool) → length f ≡ length w → Passes F a t w f → CodewordWithin F a t w (difference w f)
  passes-within t w f e p = (length-difference w f e, Q.check-right L a t w f p.1, subst (λ g. length (places 0 g) ≤ t) (sym (difference-difference w f e)) p.0)

  -- a correction passes
  passes : (t : ℕ) (w v : List Bool) → CodewordWithin F a t w v → Passes F a t w (difference w v)
  passes t w v c = (
    c.2,
    λ i l. sym (X.value-sum L a (suc (2 * i)) (difference w v)) ∙ X.value-difference L w v (power F a (suc (2 * i)))
        ∙ ap (λ x. word_value F w (power F a (suc (2 * i))) ⊕ x) (c.1 (suc (2 * i)) (omega arith) (omega arith)) ∙ E.add-zero L _,
  )

  -- TURNED AWAY EXACTLY IF NONE EXISTS
  pub exactly-when : (t : ℕ) (w : List Bool) → t ≤ 8 → length w ≤ n → Passes F a t w (flips F a t w) ↔ ((v : List Bool) × CodewordWithin F a t w v)
  unfolding candidate
  exactly-when t w r l = (
    λ p. (difference w (flips F a t w), passes-within t w (flips F a t w) (length-flips t w) p),
    λ h. subst (Passes F a t w) (ap (difference w) (sym (Z.complete L a n o t w h.0 r l h.1)) ∙ difference-difference w (flips F a t w) (length-flips t w)) (passes t w h.0 h.1),
  )
