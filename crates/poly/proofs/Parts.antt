-- Parts of a slice, as code lends them.
--   part-rest, part_none   the part from k to the end, and what is behind it: nothing
--   part-copied            what was copied to the part at the front stands there
-- Assumes nothing.
use mathlib.Core.Path.{◌≡◌, ap, ◌∙◌}
use mathlib.Core.List.{List, ◌++◌, append-nil}
use Prim.Native.Nat.{ℕ, ◌-◌}
use native.Mathlib.Omega.{arith}
use lib.ListN.{length, take, drop, length-drop, drop_of_length-le}
use lib.Seq.{take_all}
use Rattle.slices.specs.Lists.{copied}

-- all that is left
pub part-rest : (k : ℕ) (f : List ℕ) → take (length f - k) (drop k f) ≡ drop k f
part-rest k f = take_all (length f - k) (drop k f) (omega (arith, length-drop k f))

-- nothing behind it
pub part_none : (k : ℕ) (f y : List ℕ) → y ++ drop (length f - k) (drop k f) ≡ y
part_none k f y = ap (λ u. y ++ u) (drop_of_length-le (drop k f) {i = length f - k} (omega (arith, length-drop k f))) ∙ append-nil y

-- at the front
pub part-copied : (s d : List ℕ) {y : List ℕ} → y ≡ s → y ++ drop (length s) d ≡ copied s d
unfolding copied
part-copied s d e = ap (λ u. u ++ drop (length s) d) e
