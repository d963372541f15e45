-- The cutoff that a record states.
--   never-zero            the reader never makes a stated 0
--   asked-stated          the cutoff that is asked for is the byte
-- Assumes nothing.
use mathlib.Core.Path.{◌≡◌, refl, sym, ◌∙◌}
use mathlib.Core.Bool.{Bool, true, false, cond}
use mathlib.Core.List.{List, [], ◌∷◌}
use Prim.Native.Nat.{ℕ}
use borrow.Author.Tests.{eqb-true, eqb-false}
use lib.Dec.{eqb}
use Rattle.job_records.specs.Cutoffs.{stated_cutoff, stated_by, asked}
use Rattle.std.specs.Prelude.{Option, Some, None}
use Rattle.job_records.proofs.Forward.{never}

-- by whether the byte is 0
told : (c : ℕ) (cutoff : Option ℕ) (b : Bool) → eqb c 0 ≡ b → stated_by cutoff ≡ cond b [] (c ∷ [])
    → cutoff ≡ Some 0 → ⊥
told c None true e f s = never (cc)
told c None false e f s = never (cc)
told c (Some n) true e f s = never (cc)
told c (Some n) false e f s =
    let same : n ≡ c = cc in
    eqb-false c 0 e (sym same ∙ zero s)
  where
    zero : Some n ≡ Some 0 → n ≡ 0
    zero s = cc

pub never-zero : (c : ℕ) (cutoff : Option ℕ) → stated_by cutoff ≡ stated_cutoff c → cutoff ≡ Some 0 → ⊥
never-zero c cutoff e = told c cutoff (eqb c 0) refl e

pub asked-stated : (c : ℕ) → asked (stated_cutoff c) ≡ c
asked-stated c = go (eqb c 0) refl
  where
    go : (b : Bool) → eqb c 0 ≡ b → asked (cond b [] (c ∷ [])) ≡ c
    go true e = sym (eqb-true c 0 e)
    go false e = refl

-- the cutoff that is stated by nothing, or by a number
unfoldable pub cutoff_from : List ℕ → Option ℕ
cutoff_from [] = None
cutoff_from (c ∷ l) = Some c

pub cutoff-back : (c : Option ℕ) → cutoff_from (stated_by c) ≡ c
unfolding cutoff_from
cutoff-back None = refl
cutoff-back (Some c) = refl
