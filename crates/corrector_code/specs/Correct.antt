-- The way to the correction of a word w at strength t up to 8: the only word that can be it.
-- Laws and inner contracts alone cite it: what the corrector promises does not rest on it.
--   syndromes a t w   1, and the values of w at a^1 to a^(2t)
--   locator_of a t w   the polynomial that the register finds for them; where w can be corrected, the product of
--                     1 + a^j z over the places j to flip
--   marked_at a p n    the word of n bits with bit 1 at each place j where p is zero at a^(-j)
--   flips a t w       the places that the polynomial of w marks
--   candidate a t w   w with those places flipped
--   Passes a t w f    f has at most t places, and the odd power sums of its locators are the odd syndromes of w: what
--                     is checked before a bit is flipped
-- Assumes nothing.
use Rattle.std.specs.Prelude.{◌≡◌, Bool, List, ◌∷◌, map, ℕ, suc, ◌*◌, ◌≤◌, ◌<◌, length}
use Rattle.algebra.specs.Field.{Ops, power}
use Rattle.algebra.specs.Polynomial.{coef, is_root}
use Rattle.algebra.specs.Trial.{up_from}
use Rattle.corrector_code.specs.Word.{difference, places, total, word_value, locators}
use Rattle.corrector_code.specs.Key.{register}

module _ {K : Type 0} (F : Ops K) where
  -- 1, and the values at a^1 to a^(2t)
  unfoldable pub syndromes : K → ℕ → List Bool → List K
  syndromes a t w = F.one ∷ map (λ i. word_value F w (power F a i)) (up_from 1 (2 * t))

  -- what the register finds for them
  unfoldable pub locator_of : K → ℕ → List Bool → List K
  locator_of a t w = (register F 8 (coef F (syndromes a t w)) t).locator

  -- the recorders' convention: a locator polynomial is zero at the inverse of a^j for each place j
  unfoldable pub marked_at : K → List K → ℕ → List Bool
  marked_at a p n = map (λ j. is_root F p (F.inv (power F a j))) (up_from 0 n)

  -- the places that it marks
  unfoldable pub flips : K → ℕ → List Bool → List Bool
  flips a t w = marked_at a (locator_of a t w) (length w)

  -- the word with those places flipped
  unfoldable pub candidate : K → ℕ → List Bool → List Bool
  candidate a t w = difference w (flips a t w)

  -- few places, and their odd power sums are the odd syndromes
  abbrev pub Passes : K → ℕ → List Bool → List Bool → Type 0
  Passes a t w f =
      (length (places 0 f) ≤ t) × ((i : ℕ) → i < t
      → total F (λ x. power F x (suc (2 * i))) (locators F a f) ≡ word_value F w (power F a (suc (2 * i))))
