-- What the C face returns (docs/RULES.md section 9): the struct of an outcome in its numbers. A value that the outcome
-- does not have is 0, so a refusal has zeros behind its number.
--   value_in       the value at place i of an outcome, or 0
--   told_number    the number and the value of an answer that has one
--   outcome_number the number of an answer that has no value
--   as_value       outcome and value: product, inverse, position
--   as_pair        outcome, how many roots, the lower and the upper, and 1 where the one root is double: the quadratic.
--                 One root is the lower
--   as_found       outcome, how many roots, how many steps: whole call, search, finish. Search and finish take no steps
--   as_space       outcome, how many roots, the dimension: the affine call. No root has 0 and 0
--   as_stepped     outcome, and 1 where the table is done
--   as_corrected   outcome, and how many bits were flipped
--   as_encoded     outcome, and how many check bits the word has
--   as_salvaged    outcome, and how many bytes are kept; how many records is not told
--   as_written     outcome, and how many bytes the record has
--   as_claim       outcome, and 1 where the claim is accepted
--   as_proved      outcome, and how many roots the claim that was made has
--   As            r is the struct of an answer that a contract admits
--   ProductAs ..  THE CONTRACT of each export, by that of the call
-- Assumes nothing.
use Rattle.std.specs.Prelude.{◌≡◌, ⊤, List, [], ◌∷◌, ℕ, Result, length, get_or, drop}
use Rattle.refusals.specs.Admitting.{told}
use Rattle.refusals.specs.declared.Refusal.{Refusal}
use Rattle.locator.specs.declared.LocatorValue.{LocatorValue}
use Rattle.locator.specs.declared.LocatorPair.{LocatorPair}
use Rattle.locator.specs.declared.LocatorFound.{LocatorFound}
use Rattle.locator.specs.declared.LocatorSpace.{LocatorSpace}
use Rattle.locator.specs.declared.LocatorStepped.{LocatorStepped}
use Rattle.locator.specs.declared.LocatorCorrected.{LocatorCorrected}
use Rattle.locator.specs.declared.LocatorEncoded.{LocatorEncoded}
use Rattle.locator.specs.declared.LocatorSalvaged.{LocatorSalvaged}
use Rattle.locator.specs.declared.LocatorWritten.{LocatorWritten}
use Rattle.locator.specs.declared.LocatorClaim.{LocatorClaim}
use Rattle.locator.specs.declared.LocatorProved.{LocatorProved}
use Rattle.field_elements.specs.Calls.{told_quadratic, TellsProduct}
use Rattle.field_elements.specs.Calls.{TellsInverse, TellsPosition, TellsQuadratic}
use Rattle.find_solve.specs.Calls.{solved_values, Solves}
use Rattle.find_search.specs.Calls.{Searches}
use Rattle.find_affine.specs.Calls.{spanned_values, Spans}
use Rattle.table_begin.specs.Calls.{Begins}
use Rattle.table_step.specs.Calls.{stepped_values, Steps}
use Rattle.table_finish.specs.Calls.{Finishes}
use Rattle.corrector.specs.Correcting.{Corrects}
use Rattle.corrector_encoder.specs.Encoding.{Encodes}
use Rattle.job_salvage.specs.Calls.{told_kept, Salvages}
use Rattle.job_writer.specs.Calls.{Writes}
use Rattle.claim_rules.specs.Claims.{Claim}
use Rattle.claims.specs.Calls.{checked_values, Checks}
use Rattle.claim_maker.specs.Calls.{Proves}

-- the value at place i of an outcome, or 0
abbrev pub value_in : ℕ × List ℕ → ℕ → ℕ
value_in o i = get_or o.1 i 0

-- an answer with one value, and one with none
abbrev pub told_number : Result ℕ Refusal → ℕ × List ℕ
told_number = told (λ n. n ∷ [])

abbrev pub outcome_number : Result ⊤ Refusal → ℕ
outcome_number r = (told (λ _. []) r).0

abbrev pub as_value : ℕ × List ℕ → LocatorValue
as_value o = record { outcome = o.0; value = value_in o 0 }

abbrev pub as_pair : ℕ × List ℕ → LocatorPair
as_pair o = record {
  outcome = o.0;
  count = length (drop 1 o.1);
  lower = value_in o 1;
  upper = value_in o 2;
  doubled = value_in o 0;
}

abbrev pub as_found : ℕ × List ℕ → LocatorFound
as_found o = record { outcome = o.0; count = value_in o 0; steps = value_in o 1 }

abbrev pub as_space : ℕ × List ℕ → LocatorSpace
as_space o = record { outcome = o.0; count = value_in o 0; dimension = value_in o 1 }

abbrev pub as_stepped : ℕ × List ℕ → LocatorStepped
as_stepped o = record { outcome = o.0; done = value_in o 0 }

-- outcome and flips
abbrev pub as_corrected : ℕ × List ℕ → LocatorCorrected
as_corrected o = record { outcome = o.0; flips = value_in o 0 }

-- outcome and check bits
abbrev pub as_encoded : ℕ × List ℕ → LocatorEncoded
as_encoded o = record { outcome = o.0; checks = value_in o 0 }

-- outcome and bytes
abbrev pub as_salvaged : ℕ × List ℕ → LocatorSalvaged
as_salvaged o = record { outcome = o.0; length = value_in o 0 }

-- outcome and length
abbrev pub as_written : ℕ × List ℕ → LocatorWritten
as_written o = record { outcome = o.0; length = value_in o 0 }

-- outcome, and 1 or 0
abbrev pub as_claim : ℕ × List ℕ → LocatorClaim
as_claim o = record { outcome = o.0; accepted = value_in o 0 }

-- outcome, and how many roots
abbrev pub as_proved : ℕ × List ℕ → LocatorProved
as_proved o = record { outcome = o.0; count = value_in o 0 }

-- THE CONTRACTS of the exports: r is the struct of an answer that the contract of the call admits
pub record As {A R : Type 0} (tell : A → R) (admits : A → Type 0) (r : R) : Type 0 where
  pub answer : A
  pub admitted : admits answer
  pub told : r ≡ tell answer

abbrev pub ProductAs : ℕ → ℕ → ℕ → LocatorValue → Type 0
ProductAs m a b = As (λ x. as_value (told_number x)) (TellsProduct m a b)

abbrev pub InverseAs : ℕ → ℕ → LocatorValue → Type 0
InverseAs m a = As (λ x. as_value (told_number x)) (TellsInverse m a)

abbrev pub PositionAs : ℕ → ℕ → ℕ → LocatorValue → Type 0
PositionAs m r convention = As (λ x. as_value (told_number x)) (TellsPosition m r convention)

abbrev pub QuadraticAs : ℕ → ℕ → ℕ → LocatorPair → Type 0
QuadraticAs m a b = As (λ x. as_pair (told_quadratic x)) (TellsQuadratic m a b)

-- with lent memory afterwards
abbrev pub SolvesAs : ℕ → ℕ → List ℕ → List ℕ → List ℕ → LocatorFound → List ℕ → List ℕ → Type 0
SolvesAs m c cs roots mults r after beside =
    As (λ x. as_found (told solved_values x)) (λ x. Solves m c cs roots mults x after beside) r

abbrev pub SearchesAs : ℕ → List ℕ → List ℕ → List ℕ → LocatorFound → List ℕ → List ℕ → Type 0
SearchesAs m cs roots mults r after beside =
    As (λ x. as_found (told_number x)) (λ x. Searches m cs roots mults x after beside) r

abbrev pub SpansAs : ℕ → List ℕ → ℕ → List ℕ → LocatorSpace → List ℕ → Type 0
SpansAs m cs constant list r after = As (λ x. as_space (told spanned_values x)) (λ x. Spans m cs constant list x after) r

abbrev pub BeginsAs : ℕ → ℕ → List ℕ → List ℕ → ℕ → List ℕ → Type 0
BeginsAs m c cs table r after = As (λ x. outcome_number x) (λ x. Begins m c cs table x after) r

abbrev pub StepsAs : List ℕ → LocatorStepped → List ℕ → Type 0
StepsAs table r after = As (λ x. as_stepped (told stepped_values x)) (λ x. Steps table x after) r

abbrev pub FinishesAs : List ℕ → List ℕ → LocatorFound → List ℕ → Type 0
FinishesAs table list r after = As (λ x. as_found (told_number x)) (λ x. Finishes table list x after) r

abbrev pub CorrectsAs : ℕ → List ℕ → LocatorCorrected → List ℕ → Type 0
CorrectsAs t word r after = As (λ x. as_corrected (told_number x)) (λ x. Corrects t word (told_number x) after) r

abbrev pub EncodesAs : ℕ → List ℕ → LocatorEncoded → List ℕ → Type 0
EncodesAs t word r after = As (λ x. as_encoded (told_number x)) (λ x. Encodes t word (told_number x) after) r

abbrev pub SalvagesAs : List ℕ → List ℕ → LocatorSalvaged → List ℕ → Type 0
SalvagesAs file room r after = As (λ x. as_salvaged (told told_kept x)) (λ x. Salvages file room x after) r

abbrev pub WritesAs : ℕ → ℕ → List ℕ → List ℕ → LocatorWritten → List ℕ → Type 0
WritesAs m c roots room r after = As (λ x. as_written (told_number x)) (λ x. Writes m c roots room x after) r

-- nothing is lent to write to
abbrev pub ChecksAs : ℕ → List ℕ → Claim → LocatorClaim → Type 0
ChecksAs m f c = As (λ x. as_claim (told checked_values x)) (Checks m f c)

-- what the five buffers hold before and afterwards is told as a claim
abbrev pub ProvesAs : ℕ → List ℕ → Claim → LocatorProved → Claim → Type 0
ProvesAs m f before r after = As (λ x. as_proved (told_number x)) (λ x. Proves m f before x after) r
