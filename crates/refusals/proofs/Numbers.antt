-- Each refusal has a number of its own.
--   refusals                      all of them
--   numbered                      the first of a list that has a number
--   refusal_of                     the refusal of a number
--   by_number                     what stands for an outcome's number: 0 is accepted, any other a refusal
--   refused-back, accepted-back   it takes the number back, so that two outcomes with one number are one
-- Assumes nothing.
use mathlib.Core.Path.{◌≡◌, refl}
use Prim.Native.Nat.{ℕ, zero, suc}
use mathlib.Core.Bool.{cond}
use mathlib.Core.List.{List, [], ◌∷◌}
use lib.Dec.{eqb}
use Rattle.refusals.specs.Numbers.{number_of}
use Rattle.refusals.specs.declared.Refusal.{Refusal}
use Rattle.refusals.specs.declared.Refusal.TheVariants.{Field, Empty, Long, Element, AllZero, Cutoff, Room}
use Rattle.refusals.specs.declared.Refusal.TheVariants.{Unsound, Stuck, NotDone, Mark, Short, OfZero}
use Rattle.refusals.specs.declared.Refusal.TheVariants.{Count, Convention, Block, Strength, Far, Order}

-- all refusals, each once
abbrev refusals : List Refusal
refusals =
    Field ∷ Empty ∷ Long ∷ Element ∷ AllZero ∷ Cutoff ∷ Room ∷ Unsound ∷ Stuck ∷ NotDone ∷ Mark ∷ Short ∷ OfZero
    ∷ Count ∷ Convention ∷ Block ∷ Strength ∷ Far ∷ Order ∷ []

-- the first of these whose number is k
unfoldable numbered : List Refusal → ℕ → Refusal
numbered [] k = Field
numbered (r ∷ rs) k = cond (eqb (number_of r) k) r (numbered rs k)

-- the refusal of a number; where there is none, any
unfoldable pub refusal_of : ℕ → Refusal
unfolding numbered
refusal_of k = numbered refusals k

-- an outcome that is accepted or refused, taken back from its number: 0 is accepted
unfoldable pub by_number : {A : Type 0} → (Refusal → A) → A → ℕ → A
by_number refuse accept zero = accept
by_number refuse accept (suc k) = refuse (refusal_of (suc k))

pub refused-back : {A : Type 0} (refuse : Refusal → A) (accept : A) (r : Refusal) → by_number refuse accept (number_of r) ≡ refuse r
unfolding by_number refusal_of numbered
refused-back refuse accept Field = refl
refused-back refuse accept Empty = refl
refused-back refuse accept Long = refl
refused-back refuse accept Element = refl
refused-back refuse accept AllZero = refl
refused-back refuse accept Cutoff = refl
refused-back refuse accept Room = refl
refused-back refuse accept Unsound = refl
refused-back refuse accept Stuck = refl
refused-back refuse accept NotDone = refl
refused-back refuse accept Mark = refl
refused-back refuse accept Short = refl
refused-back refuse accept OfZero = refl
refused-back refuse accept Count = refl
refused-back refuse accept Convention = refl
refused-back refuse accept Block = refl
refused-back refuse accept Strength = refl
refused-back refuse accept Far = refl
refused-back refuse accept Order = refl

pub accepted-back : {A : Type 0} (refuse : Refusal → A) (accept : A) → by_number refuse accept 0 ≡ accept
unfolding by_number
accepted-back refuse accept = refl
