-- Refusals in a fixed order: a refusal is given exactly when its test is the first to hold.
--   holds, fails, passes   how an entry shows which case it met, test by test;  failed, others: what a pass says of
--                          each test
--   given-before, given-behind, passed-both   tests behind others: what comes first decides first
--   refused, accepted   the outcome of each;  unwritten, written: the lent memory of each
--   exactly             the outcome's number is k exactly when k is given
-- Assumes nothing.
use mathlib.Core.Path.{◌≡◌, refl, sym, ap, subst, ◌∙◌}
use mathlib.Core.Bool.{Bool, true, false}
use mathlib.Core.List.{List, [], ◌∷◌, ◌++◌}
use mathlib.Core.Logic.{◌↔◌, ◌⊎◌, inl, inr}
use Prim.Native.Nat.{ℕ, suc}
use native.Mathlib.Omega.{arith}
use Rattle.refusals.specs.Order.{decide, outcome, memory, Given, Passed}
use Rattle.refusals.specs.Order.Given.{here, later}
use Rattle.refusals.specs.Order.Passed.{none, more}

-- how an entry shows which case it met, test by test
pub holds : {k : ℕ} {t : Bool} {ts : List (ℕ × Bool)} → t ≡ true → Given k ((k, t) ∷ ts)
holds e = rw e here

pub fails : {k j : ℕ} {t : Bool} {ts : List (ℕ × Bool)} → t ≡ false → Given k ts → Given k ((j, t) ∷ ts)
fails e g = rw e (later g)

pub passes : {j : ℕ} {t : Bool} {ts : List (ℕ × Bool)} → t ≡ false → Passed ts → Passed ((j, t) ∷ ts)
passes e p = rw e (more p)

-- what a pass says: each test fails
pub failed : {j : ℕ} {t : Bool} {ts : List (ℕ × Bool)} → Passed ((j, t) ∷ ts) → t ≡ false
failed (more p) = refl

pub others : {j : ℕ} {t : Bool} {ts : List (ℕ × Bool)} → Passed ((j, t) ∷ ts) → Passed ts
others (more p) = p

-- tests behind others: a refusal is given whatever follows
pub given-before : {k : ℕ} {ts : List (ℕ × Bool)} (us : List (ℕ × Bool)) → Given k ts → Given k (ts ++ us)
given-before us here = here
given-before us (later g) = later (given-before us g)

-- where those before pass, what follows decides: by a refusal
pub given-behind : {k : ℕ} {ts us : List (ℕ × Bool)} → Passed ts → Given k us → Given k (ts ++ us)
given-behind none g = g
given-behind (more p) g = later (given-behind p g)

-- or by a pass
pub passed-both : {ts us : List (ℕ × Bool)} → Passed ts → Passed us → Passed (ts ++ us)
passed-both none q = q
passed-both (more p) q = more (passed-both p q)

-- what a given refusal, and a pass, decide
module _ {A : Type 0} (refuse : ℕ → A) (accept : A) where
  pub given-decides : {k : ℕ} {ts : List (ℕ × Bool)} → Given k ts → decide ts refuse accept ≡ refuse k
  unfolding decide
  given-decides here = refl
  given-decides (later g) = given-decides g

  pub passed-decides : {ts : List (ℕ × Bool)} → Passed ts → decide ts refuse accept ≡ accept
  unfolding decide
  passed-decides none = refl
  passed-decides (more p) = passed-decides p

-- some test is the first to hold, or none holds
pub cases : (ts : List (ℕ × Bool)) → ((k : ℕ) × Given k ts) ⊎ Passed ts
cases [] = inr none
cases (t ∷ ts) = by-test t.0 t.1 (cases ts)
  where
    by-test : (j : ℕ) (b : Bool) → ((k : ℕ) × Given k ts) ⊎ Passed ts → ((k : ℕ) × Given k ((j, b) ∷ ts)) ⊎ Passed ((j, b) ∷ ts)
    by-test j true r = inl (j, here)
    by-test j false (inl g) = inl (g.0, later g.1)
    by-test j false (inr p) = inr (more p)

-- a refusal has its number alone; where no test holds, the outcome is 0 with the values
pub refused : {k : ℕ} {ts : List (ℕ × Bool)} (values : List ℕ) → Given k ts → outcome ts values ≡ (k, [])
refused values = given-decides (λ k. (k, [])) (0, values)

pub accepted : {ts : List (ℕ × Bool)} (values : List ℕ) → Passed ts → outcome ts values ≡ (0, values)
accepted values = passed-decides (λ k. (k, [])) (0, values)

-- a refusal writes nothing
pub unwritten : {k : ℕ} {ts : List (ℕ × Bool)} (new old : List ℕ) → Given k ts → memory ts new old ≡ old
unwritten new old = given-decides (λ k. old) new

pub written : {ts : List (ℕ × Bool)} (new old : List ℕ) → Passed ts → memory ts new old ≡ new
written new old = passed-decides (λ k. old) new

-- a refusal is given exactly when its test is the first to hold
pub exactly : (k : ℕ) (ts : List (ℕ × Bool)) (values : List ℕ) → ((outcome ts values).0 ≡ suc k) ↔ Given (suc k) ts
exactly k ts values = (λ e. by-case e (cases ts), λ g. ap (λ o. o.0) (refused values g))
  where
    by-case : (outcome ts values).0 ≡ suc k → ((j : ℕ) × Given j ts) ⊎ Passed ts → Given (suc k) ts
    by-case e (inl g) = subst (λ j. Given j ts) (sym (ap (λ o. o.0) (refused values g.1)) ∙ e) g.1
    by-case e (inr p) =
        let z : ◌≡◌ {A = ℕ} 0 (suc k) = sym (ap (λ o. o.0) (accepted values p)) ∙ e in
        absurd (let b : ⊥ = omega arith in b)
