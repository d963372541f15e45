-- What the call that writes a record answers, for every input (docs/RULES.md section 12.2).
--   ascends       does each number stand below the next?
--   write_tests    its tests in their order, each behind its number
--   told_written   the value of an answer: how many bytes the record has
--   Writes        THE CONTRACT: the answer, and what the room holds afterwards
--   Writable      what is known of what was let in
-- Assumes nothing.
use Rattle.std.specs.Prelude.{◌≡◌, Bool, true, not, ◌&&◌, List, [], ◌∷◌, ℕ, ◌^◌, ◌≤◌, ltb, length, Result}
use Rattle.refusals.specs.Order.{Answers}
use Rattle.refusals.specs.Admitting.{told}
use Rattle.refusals.specs.declared.Refusal.{Refusal}
use Rattle.slices.specs.Bounded.{any_from}
use Rattle.slices.specs.Lists.{copied}
use Rattle.algebra.specs.Trial.{Ascending}
use Rattle.algebra.specs.Polynomial.{Below}
use Rattle.field.specs.Rows.{known}
use Rattle.input.specs.Cutoff.{highest_cutoff}
use Rattle.input.specs.Limit.{limit}
use Rattle.job_writer.specs.Records.{record_of, length_for}

-- strictly
unfoldable pub ascends : List ℕ → Bool
ascends [] = true
ascends (x ∷ []) = true
ascends (x ∷ y ∷ s) = ltb x y && ascends (y ∷ s)

abbrev pub write_tests : ℕ → ℕ → List ℕ → ℕ → List (ℕ × Bool)
write_tests m c roots room =
    (1, not (known m)) ∷ (3, ltb limit (length roots)) ∷ (4, any_from (2 ^ m) roots) ∷ (25, not (ascends roots))
    ∷ (6, ltb highest_cutoff c) ∷ (7, ltb room (length_for (length roots))) ∷ []

abbrev pub told_written : ℕ → List ℕ
told_written n = n ∷ []

-- the record at the front of the room; nothing behind it is written
abbrev pub Writes : ℕ → ℕ → List ℕ → List ℕ → Result ℕ Refusal → List ℕ → Type 0
Writes m c roots room r after =
    Answers (write_tests m c roots (length room)) (length_for (length roots) ∷ []) (copied (record_of m c roots) room)
    room (told told_written r) after

pub record Writable (m c : ℕ) (roots room : List ℕ) : Type 0 where
  pub field : known m ≡ true
  pub few : length roots ≤ limit
  pub small : Below (2 ^ m) roots
  pub order : Ascending roots
  pub cutoff : c ≤ highest_cutoff
  pub fits : length_for (length roots) ≤ length room
