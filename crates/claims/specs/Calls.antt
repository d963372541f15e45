-- What the check of a claim answers, for every input (docs/RULES.md section 14.2).
--   said           what a claim says that is lent
--   checked_values the value of each answer: 1 for an accepted claim, 0 for a plain "no"
--   Checks        THE CONTRACT: the answers that the check admits
-- Assumes nothing.
use Rattle.std.specs.Prelude.{Bool, true, false, Result, Ok, Err, List, [], ◌∷◌, ℕ}
use Rattle.refusals.specs.Order.{Given, Passed}
use Rattle.refusals.specs.Numbers.{number_of}
use Rattle.refusals.specs.declared.Refusal.{Refusal}
use Rattle.claim_rules.specs.Claims.{Acceptable, Claim, claim_of}
use Rattle.claim_rules.specs.Admitting.{claim_tests}
use Rattle.claims.specs.declared.Claim.{Claim as Lent}

-- the five lists, as they are
abbrev pub said : Lent → Claim
said c = claim_of c.roots.now c.mults.now c.h.now c.u.now c.v.now

abbrev pub checked_values : Bool → List ℕ
checked_values true = 1 ∷ []
checked_values false = 0 ∷ []

-- no test refuses, and the claim is acceptable or not; or the first test that holds has the number of the refusal
abbrev pub Checks : ℕ → List ℕ → Claim → Result Bool Refusal → Type 0
Checks m f c (Ok true) = Passed (claim_tests m f c) × Acceptable m f c
Checks m f c (Ok false) = Passed (claim_tests m f c) × (Acceptable m f c → ⊥)
Checks m f c (Err k) = Given (number_of k) (claim_tests m f c)
