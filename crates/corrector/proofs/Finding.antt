-- The roots of a locator polynomial, whichever engine finds them.
--   leading       it can be given to the direct engine, and so one that was guessed (guess-leading);  findable  to any
--   front-copied  a list that the roots were copied to has them in front;  front-listed  so what was found directly
-- Assumes nothing.
use mathlib.Core.Path.{◌≡◌, sym, ap, ◌∙◌}
use mathlib.Core.Bool.{Bool, false, ◌&&◌}
use mathlib.Core.List.{List, [], ◌∷◌}
use Prim.Native.Nat.{ℕ}
use native.Mathlib.Omega.{arith}
use borrow.Author.Tests.{le-ltb}
use lib.ListN.{length, get_or, take}
use Rattle.algebra.proofs.StaysBelow.{below-from}
use Rattle.field.proofs.Known.{row11}
use Rattle.slices.specs.Bounded.{all_below}
use Rattle.slices.specs.Lists.{copied}
use Rattle.slices.proofs.Lists.{copied-front}
use Rattle.poly.specs.Monic.{TopIs}
use Rattle.poly_small.specs.Roots.{Front}
use Rattle.input.specs.Limit.{limit}
use Rattle.find_direct.specs.Listing.{Listed, Leading}
use Rattle.corrector_few.specs.Locators.{LowLocator}
use Rattle.corrector_locator.specs.Under.{Under}
use Rattle.corrector.specs.Places.{Findable}

-- ---- the engines

-- the direct engine
pub leading : {f out : List ℕ} {n : ℕ} → Findable f out → TopIs f n → Leading n f
leading g t = record { polynomial = g.polynomial; top = t }

-- what they leave
pub front-copied : {rs list' : List ℕ} {k : ℕ} (list : List ℕ) → k ≡ length rs → list' ≡ copied rs list → Front rs k list'
front-copied {rs} {k = k} list e w = record { count = e; front = ap (take k) w ∙ copied-front rs list (sym e) }

pub front-listed : {rs list list' : List ℕ} {k : ℕ} → Listed rs list k list' → Front rs k list'
front-listed {list = list} l = front-copied list l.count l.slots-are

-- ---- a locator polynomial

-- its constant is 1
not_zeros : (l : List ℕ) → get_or l 0 0 ≡ 1 → all_below 1 l ≡ false
unfolding all_below
not_zeros [] e = absurd (omega arith)
not_zeros (x ∷ l) e = ap (λ (a : Bool). a && all_below 1 l) (le-ltb x 1 (omega arith))

pub findable : (p list : List ℕ) → Under p → get_or p 0 0 ≡ 1 → length p ≡ 9 → length list ≡ limit → Findable p list
findable p list u first long room = record {
  polynomial = record { field = row11.degree; some = omega arith; few = omega arith; small = below-from 2048 p (λ i l. u i); nonzero = not_zeros p first };
  room = omega arith;
}

-- one that was guessed
pub guess-leading : {p : List ℕ} {n : ℕ} → LowLocator p → TopIs p n → Leading n p
guess-leading {p} l t =
    let long = l.long in
    record {
      polynomial = record { field = row11.degree; some = omega arith; few = omega arith; small = l.small; nonzero = not_zeros p l.first };
      top = t;
    }
