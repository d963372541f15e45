-- Two outcomes that the contract of the writer admits coincide: the answer is told by its number and values, and the
-- room by a function.
--   write-coincide   the answer, and every byte of the room
-- Assumes nothing.
use mathlib.Core.Path.{◌≡◌, refl}
use mathlib.Core.List.{List, [], ◌∷◌}
use Prim.Native.Nat.{ℕ}
use lib.ListN.{length}
use Rattle.refusals.specs.Order.{outcome, memory}
use Rattle.std.specs.Prelude.{Result}
use Rattle.refusals.specs.declared.Refusal.{Refusal}
use Rattle.refusals.proofs.Told.{told-coincide}
use Rattle.slices.specs.Lists.{copied}
use Rattle.job_writer.specs.Records.{record_of, length_for}
use Rattle.job_writer.specs.Calls.{write_tests, told_written, Writes}

-- what the values stand for
written_of : List ℕ → ℕ
written_of [] = 0
written_of (n ∷ more) = n

written_back : (n : ℕ) → written_of (told_written n) ≡ n
unfolding written_of
written_back n = refl

pub write-coincide : (m c : ℕ) (roots room : List ℕ) (r s : Result ℕ Refusal) (x y : List ℕ)
    → Writes m c roots room r x → Writes m c roots room s y → (r ≡ s) × (x ≡ y)
write-coincide m c roots room =
    told-coincide told_written written_of written_back (outcome (write_tests m c roots (length room)) (length_for (length roots) ∷ []))
    (memory (write_tests m c roots (length room)) (copied (record_of m c roots) room) room)
