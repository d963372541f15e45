-- The numbers for what is turned away (docs/RULES.md section 8.3).
--   number_of  the number of each refusal
-- Assumes nothing.
use Rattle.std.specs.Prelude.{ℕ}
use Rattle.refusals.specs.declared.Refusal.{Refusal}
use Rattle.refusals.specs.declared.Refusal.TheVariants.{Field, Empty, Long, Element, AllZero, Cutoff, Room}
use Rattle.refusals.specs.declared.Refusal.TheVariants.{Unsound, Stuck, NotDone, Mark, Short, OfZero}
use Rattle.refusals.specs.declared.Refusal.TheVariants.{Count, Convention, Block, Strength, Far, Order}

-- those of the root finder from 1 to 13, then 20 of affine polynomials, 21 of a convention, 22 to 24 of the block
-- corrector and 25 of the writer of records
abbrev pub number_of : Refusal → ℕ
number_of Field = 1
number_of Empty = 2
number_of Long = 3
number_of Element = 4
number_of AllZero = 5
number_of Cutoff = 6
number_of Room = 7
number_of Unsound = 8
number_of Stuck = 9
number_of NotDone = 10
number_of Mark = 11
number_of Short = 12
number_of OfZero = 13
number_of Count = 20
number_of Convention = 21
number_of Block = 22
number_of Strength = 23
number_of Far = 24
number_of Order = 25
