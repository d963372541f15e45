-- Two outcomes that one contract admits coincide.
--   way_back      what a map with a way back gives for two is one only where the two are one
--   told-by       so where what is told has a refusal's number, or 0 and what makes the answer
--   told-one      two results that tell the same are one, where the values of an answer have a way back
--   one_answer    two answers that one equation admits are one
--   one-outcome   so with lent memory;  coincide  so where the equation is for what the answer tells
--   told-coincide   so for what a result tells
--   told-refused    what the exit of a `?` tells: the outcome that the refusal's test decides
-- Assumes nothing.
use mathlib.Core.Path.{◌≡◌, sym, ap, ◌∙◌}
use mathlib.Core.Bool.{Bool}
use mathlib.Core.List.{List, []}
use Prim.Native.Nat.{ℕ}
use Rattle.std.specs.Prelude.{Result, Ok, Err, IsErrAnd}
use Rattle.refusals.specs.Numbers.{number_of}
use Rattle.refusals.specs.Order.{Given, outcome}
use Rattle.refusals.specs.Admitting.{told}
use Rattle.refusals.specs.declared.Refusal.{Refusal}
use Rattle.refusals.proofs.Order.{refused}
use Rattle.refusals.proofs.Admitting.{passed-on}
use Rattle.refusals.proofs.Numbers.{by_number, refused-back, accepted-back}

pub way_back : {A B : Type 0} (there : A → B) (back : B → A) → ((a : A) → back (there a) ≡ a) → (a b : A) → there a ≡ there b → a ≡ b
way_back there back returns a b e = sym (returns a) ∙ ap back e ∙ returns b

pub told-by : {A B : Type 0} (tell : A → B) (number : B → ℕ) (refuse : Refusal → A) (accept : B → A)
    → ((r : A) → by_number refuse (accept (tell r)) (number (tell r)) ≡ r) → (r s : A) → tell r ≡ tell s → r ≡ s
told-by tell number refuse accept = way_back tell (λ t. by_number refuse (accept t) (number t))

module _ {A : Type 0} (values : A → List ℕ) (back : List ℕ → A) (returns : (a : A) → back (values a) ≡ a) where
  -- the result that a number and its values stand for
  result_of : ℕ × List ℕ → Result A Refusal
  result_of o = by_number Err (Ok (back o.1)) o.0

  -- it takes them back
  result-back : (r : Result A Refusal) → result_of (told values r) ≡ r
  unfolding result_of
  result-back (Ok a) = accepted-back Err (Ok (back (values a))) ∙ ap Ok (returns a)
  result-back (Err k) = refused-back Err (Ok (back [])) k

  pub told-one : (r s : Result A Refusal) → told values r ≡ told values s → r ≡ s
  told-one = way_back (told values) result_of result-back

pub one_answer : {A : Type 0} {o r s : A} → r ≡ o → s ≡ o → r ≡ s
one_answer h k = h ∙ sym k

pub one-outcome : {A : Type 0} {o r s : A} {n x y : List ℕ} → (r ≡ o) × (x ≡ n) → (s ≡ o) × (y ≡ n) → (r ≡ s) × (x ≡ y)
one-outcome h k = (one_answer h.0 k.0, one_answer h.1 k.1)

pub coincide : {A B : Type 0} (there : A → B) → ((a b : A) → there a ≡ there b → a ≡ b) → (o : B) (n : List ℕ) (r s : A) (x y : List ℕ)
    → (there r ≡ o) × (x ≡ n) → (there s ≡ o) × (y ≡ n) → (r ≡ s) × (x ≡ y)
coincide there tells o n r s x y h k = (tells r s (one_answer h.0 k.0), one_answer h.1 k.1)

pub told-coincide : {A : Type 0} (values : A → List ℕ) (back : List ℕ → A) → ((a : A) → back (values a) ≡ a)
    → (o : ℕ × List ℕ) (n : List ℕ) (r s : Result A Refusal) (x y : List ℕ)
    → (told values r ≡ o) × (x ≡ n) → (told values s ≡ o) × (y ≡ n) → (r ≡ s) × (x ≡ y)
told-coincide values back returns = coincide (told values) (told-one values back returns)

-- a refusal is passed on
pub told-refused : {A : Type 0} (values : A → List ℕ) {tests : List (ℕ × Bool)} (answer : List ℕ) (r : Result A Refusal) (k : Refusal)
    → IsErrAnd r (λ j. j ≡ k) → Given (number_of k) tests → told values r ≡ outcome tests answer
told-refused values answer r k e g = ap (told values) (passed-on r e) ∙ sym (refused answer g)
