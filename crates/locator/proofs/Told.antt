-- The C face loses nothing: a struct tells the answer that it was made from. That of salvage leaves out how many records
-- were kept, which the bytes tell.
--   number-by-struct         so where the answer is one number
--   value-by-struct ..       so for the struct of each answer
-- Assumes nothing.
use mathlib.Core.Path.{◌≡◌, refl, sym, ap, ◌∙◌}
use mathlib.Core.Bool.{cond}
use mathlib.Core.List.{List, [], ◌∷◌}
use Prim.Native.Nat.{ℕ, zero, suc, ◌<◌}
use native.Mathlib.Nat.{not-suc-le-zero}
use lib.Dec.{eqb}
use Rattle.refusals.specs.Numbers.{number_of}
use Rattle.refusals.proofs.Numbers.{by_number, refused-back, accepted-back}
use Rattle.refusals.proofs.Told.{told-by}
use Rattle.field.specs.Quadratics.{roots_in, times_in, doubles}
use Rattle.field.specs.declared.solver.Quadratic.{Quadratic}
use Rattle.field.specs.declared.solver.Quadratic.TheVariants.{NoRoot, Double, Two}
use Rattle.std.specs.Prelude.{⊤, Result, Ok, Err, Option, Some, None}
use Rattle.std.specs.Prelude.{true, false}
use mathlib.Core.Bool.{Bool}
use Rattle.refusals.specs.Admitting.{told}
use Rattle.refusals.specs.declared.Refusal.{Refusal}
use Rattle.field_elements.specs.Calls.{told_quadratic}
use Rattle.find_solve.specs.Calls.{solved_values}
use Rattle.find_solve.specs.declared.Solved.{Solved}
use Rattle.find_affine.specs.Calls.{spanned_values, Spans}
use Rattle.find_affine.proofs.Coincide.{space-counted}
use Rattle.find_affine.specs.declared.Space.{Space}
use Rattle.table_step.specs.Calls.{stepped_values}
use Rattle.table_step.specs.declared.Stepped.{Stepped}
use Rattle.table_step.specs.declared.Stepped.TheVariants.{Taken, Done}
use Rattle.claims.specs.Calls.{checked_values}
use Rattle.locator.specs.Calls.{told_number, outcome_number, as_value, as_pair, as_found, as_space, as_stepped, as_corrected, as_encoded, as_written, as_claim, as_proved}
use Rattle.locator.specs.declared.LocatorClaim.{LocatorClaim}
use Rattle.locator.specs.declared.LocatorStepped.{LocatorStepped}
use Rattle.locator.specs.declared.LocatorPair.{LocatorPair}
use Rattle.locator.specs.declared.LocatorSpace.{LocatorSpace}

-- ---- calls that answer one number

module _ {S : Type 0} (tell : ℕ × List ℕ → S) (outcome value : S → ℕ) where
  -- where the struct has the outcome's number and, behind 0, the value
  number-by-struct : ((n : ℕ) → outcome (tell (0, n ∷ [])) ≡ 0) → ((n : ℕ) → value (tell (0, n ∷ [])) ≡ n)
      → ((k : ℕ) → outcome (tell (k, [])) ≡ k) → (a b : Result ℕ Refusal) → tell (told_number a) ≡ tell (told_number b) → a ≡ b
  number-by-struct zero-is value-is number-is = told-by (λ (a : Result ℕ Refusal). tell (told_number a)) outcome Err (λ s. Ok (value s))
      (elim [ Ok n ↦ rw (zero-is n, value-is n) (accepted-back Err (Ok n)) | Err k ↦ rw (number-is (number_of k)) (refused-back Err _ k) ])

pub value-by-struct : (a b : Result ℕ Refusal) → as_value (told_number a) ≡ as_value (told_number b) → a ≡ b
value-by-struct = number-by-struct as_value (λ v. v.outcome) (λ v. v.value) (λ n. refl) (λ n. refl) (λ k. refl)

pub searched-by-struct : (a b : Result ℕ Refusal) → as_found (told_number a) ≡ as_found (told_number b) → a ≡ b
searched-by-struct = number-by-struct as_found (λ f. f.outcome) (λ f. f.count) (λ n. refl) (λ n. refl) (λ k. refl)

pub finished-by-struct : (a b : Result ℕ Refusal) → as_found (told_number a) ≡ as_found (told_number b) → a ≡ b
finished-by-struct = searched-by-struct

pub written-by-struct : (a b : Result ℕ Refusal) → as_written (told_number a) ≡ as_written (told_number b) → a ≡ b
written-by-struct = number-by-struct as_written (λ w. w.outcome) (λ w. w.length) (λ n. refl) (λ n. refl) (λ k. refl)

pub corrected-by-struct : (a b : Result ℕ Refusal) → as_corrected (told_number a) ≡ as_corrected (told_number b) → a ≡ b
corrected-by-struct = number-by-struct as_corrected (λ c. c.outcome) (λ c. c.flips) (λ n. refl) (λ n. refl) (λ k. refl)

pub encoded-by-struct : (a b : Result ℕ Refusal) → as_encoded (told_number a) ≡ as_encoded (told_number b) → a ≡ b
encoded-by-struct = number-by-struct as_encoded (λ c. c.outcome) (λ c. c.checks) (λ n. refl) (λ n. refl) (λ k. refl)

pub proved-by-struct : (a b : Result ℕ Refusal) → as_proved (told_number a) ≡ as_proved (told_number b) → a ≡ b
proved-by-struct = number-by-struct as_proved (λ c. c.outcome) (λ c. c.count) (λ n. refl) (λ n. refl) (λ k. refl)

-- ---- the quadratic: the count tells "no root" from the root 0

roots_back : ℕ → ℕ → ℕ → Quadratic
roots_back zero x y = NoRoot
roots_back (suc zero) x y = Double x
roots_back (suc (suc n)) x y = Two x y

pair_back : LocatorPair → Result Quadratic Refusal
pair_back p = Ok (roots_back p.count p.lower p.upper)

pair-back : (q : Quadratic) → pair_back (as_pair (0, doubles (times_in q) ∷ roots_in q)) ≡ Ok q
unfolding pair_back roots_back
pair-back = elim [ NoRoot ↦ refl | Double x ↦ refl | Two x y ↦ refl ]

pub pair-by-struct : (p q : Result Quadratic Refusal) → as_pair (told_quadratic p) ≡ as_pair (told_quadratic q) → p ≡ q
pair-by-struct = told-by (λ (q : Result Quadratic Refusal). as_pair (told_quadratic q)) (λ p. p.outcome) Err pair_back
    (elim [ Ok q ↦ accepted-back Err (pair_back (as_pair (0, doubles (times_in q) ∷ roots_in q))) ∙ pair-back q | Err k ↦ refused-back Err _ k ])

-- ---- the whole call

pub solved-by-struct : (a b : Result Solved Refusal) → as_found (told solved_values a) ≡ as_found (told solved_values b) → a ≡ b
solved-by-struct = told-by (λ (a : Result Solved Refusal). as_found (told solved_values a)) (λ f. f.outcome) Err
    (λ f. Ok (record { s = f.count; steps = f.steps }))
    (elim [ Ok r ↦ accepted-back Err (Ok r) | Err k ↦ refused-back Err _ k ])

-- ---- the affine call: the count tells "none" from a space, which has at least one root

-- a space has at least one root
abbrev Counted : Result (Option Space) Refusal → Type 0
Counted (Ok None) = Unit {0}
Counted (Ok (Some s)) = 0 < s.count
Counted (Err k) = Unit {0}

-- an answer that the contract admits of some input
pub record Spanning (a : Result (Option Space) Refusal) : Type 0 where
  pub degree : ℕ
  pub coefficients : List ℕ
  pub constant : ℕ
  pub list : List ℕ
  pub after : List ℕ
  pub admitted : Spans degree coefficients constant list a after

-- it has
counted : (a : Result (Option Space) Refusal) → Spanning a → Counted a
counted (Ok None) h = tt
counted (Ok (Some s)) h = space-counted h.degree h.coefficients h.constant h.list s.dimension s.count h.after h.admitted
counted (Err k) h = tt

space_of : ℕ → ℕ → Result (Option Space) Refusal
space_of zero k = Ok None
space_of (suc n) k = Ok (Some (record { dimension = k; count = suc n }))

space_back : LocatorSpace → Result (Option Space) Refusal
space_back s = by_number Err (space_of s.count s.dimension) s.outcome

some-back : (k n : ℕ) → 0 < n → space_of n k ≡ Ok (Some (record { dimension = k; count = n }))
unfolding space_of
some-back k zero h = absurd (not-suc-le-zero h)
some-back k (suc n) h = refl

space-back : (a : Result (Option Space) Refusal) → Counted a → space_back (as_space (told spanned_values a)) ≡ a
unfolding space_back space_of
space-back (Ok None) h = accepted-back Err (Ok None)
space-back (Ok (Some s)) h = accepted-back Err _ ∙ some-back s.dimension s.count h
space-back (Err k) h = refused-back Err _ k

pub space-by-struct : (a b : Result (Option Space) Refusal) → Spanning a → Spanning b
    → as_space (told spanned_values a) ≡ as_space (told spanned_values b) → a ≡ b
space-by-struct a b h k e = sym (space-back a (counted a h)) ∙ ap space_back e ∙ space-back b (counted b k)

-- ---- begin and step

pub begun-by-struct : (a b : Result ⊤ Refusal) → outcome_number a ≡ outcome_number b → a ≡ b
begun-by-struct = told-by (λ (a : Result ⊤ Refusal). outcome_number a) (λ n. n) Err (λ n. Ok tt)
    (elim [ Ok u ↦ accepted-back Err (Ok tt) | Err k ↦ refused-back Err (Ok tt) k ])

stepped_back : LocatorStepped → Result Stepped Refusal
stepped_back s = Ok (cond (eqb s.done 1) Done Taken)

stepped-back : (s : Stepped) → stepped_back (as_stepped (told stepped_values (Ok s))) ≡ Ok s
unfolding stepped_back
stepped-back Taken = refl
stepped-back Done = refl

pub stepped-by-struct : (a b : Result Stepped Refusal) → as_stepped (told stepped_values a) ≡ as_stepped (told stepped_values b) → a ≡ b
stepped-by-struct = told-by (λ (a : Result Stepped Refusal). as_stepped (told stepped_values a)) (λ s. s.outcome) Err stepped_back back
  where
    back : (a : Result Stepped Refusal) → by_number Err (stepped_back (as_stepped (told stepped_values a))) (as_stepped (told stepped_values a)).outcome ≡ a
    back (Ok Taken) = accepted-back Err (stepped_back (as_stepped (told stepped_values (Ok Taken)))) ∙ stepped-back Taken
    back (Ok Done) = accepted-back Err (stepped_back (as_stepped (told stepped_values (Ok Done)))) ∙ stepped-back Done
    back (Err k) = refused-back Err _ k

-- ---- the check: 1 tells an accepted claim from a plain "no"

verdict_back : LocatorClaim → Result Bool Refusal
verdict_back c = Ok (eqb c.accepted 1)

verdict-back : (b : Bool) → verdict_back (as_claim (told checked_values (Ok b))) ≡ Ok b
unfolding verdict_back
verdict-back true = refl
verdict-back false = refl

pub checked-by-struct : (a b : Result Bool Refusal) → as_claim (told checked_values a) ≡ as_claim (told checked_values b) → a ≡ b
checked-by-struct = told-by (λ (a : Result Bool Refusal). as_claim (told checked_values a)) (λ c. c.outcome) Err verdict_back back
  where
    back : (a : Result Bool Refusal) → by_number Err (verdict_back (as_claim (told checked_values a))) (as_claim (told checked_values a)).outcome ≡ a
    back (Ok true) = accepted-back Err (verdict_back (as_claim (told checked_values (Ok true)))) ∙ verdict-back true
    back (Ok false) = accepted-back Err (verdict_back (as_claim (told checked_values (Ok false)))) ∙ verdict-back false
    back (Err k) = refused-back Err _ k
