-- `poly_small::checked::checked_roots` meets its contract.
-- Assumes nothing.
use mathlib.Core.Path.{refl}
use Rattle.poly.proofs.Parts.{part-copied}
use Rattle.poly_small.proofs.Trials.{check-asks, check-out}
use Rattle.poly_small.proofs.checked.checked_roots.Goals as goal

pub all_roots-requires : goal.all_roots-requires
all_roots-requires c = check-asks c.requires.0 c.requires.1 c.requires.2 (part-copied _ _ c.copy_from_slice.ensures.after)

pub returns : goal.returns
returns c = check-out c.requires.0 c.requires.1 c.requires.2 (part-copied _ _ c.copy_from_slice.ensures.after) _ (c.if-not-all_roots.ensures refl) c.copy_from_slice-2.ensures.after
