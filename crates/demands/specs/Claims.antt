-- What is promised of the check of a partner's list of roots, and of the making of one, of whatever their contracts
-- admit.
--   Claims   each refusal exactly when its test is the first to hold; accepted exactly where the claim is acceptable;
--            an accepted list is the complete list with its multiplicities, which the whole call lists too; every
--            nonzero polynomial within the limit has a claim that is accepted; zeros at the top are ignored
--   Proofs   each refusal exactly when its test is the first to hold, and nothing is written then; else the claim that
--            fills the buffers is accepted by the check, and has the roots and multiplicities that the whole call lists
-- Assumes nothing.
use Rattle.std.specs.Prelude.{Result, Ok}
use Rattle.refusals.specs.declared.Refusal.{Refusal}
use Rattle.refusals.specs.Admitting.{told}
use mathlib.Core.Bool.{Bool, true}
use Rattle.std.specs.Prelude.{◌≡◌, ◌↔◌, List, ℕ, suc, ◌≤◌, length}
use Rattle.refusals.specs.Order.{Given, Passed}
use Rattle.algebra.specs.Trial.{All}
use Rattle.field.specs.Field.{roots_at, multiplicities_at}
use Rattle.input.specs.Limit.{limit}
use Rattle.input.specs.Polynomials.{PolynomialIn}
use Rattle.find_solve.specs.Calls.{Solves, solve_tests}
use Rattle.find_solve.specs.declared.Solved.{Solved}
use Rattle.claim_rules.specs.Claims.{Acceptable, Claim, SameClaim}
use Rattle.claim_rules.specs.Admitting.{ClaimIn, claim_tests}
use Rattle.claims.specs.Calls.{Checks, checked_values}
use Rattle.claim_maker.specs.Calls.{Proves, prove_tests, sent_claim, proved_values}
use Rattle.demands.specs.Demand2.{Holds}

pub record Claims : Type 0 where
  -- one answer
  pub check-one : (m : ℕ) (f : List ℕ) (c : Claim) (r s : Result Bool Refusal) → Checks m f c r → Checks m f c s → r ≡ s
  -- refused under k exactly if test k is the first that holds
  pub refused : (m : ℕ) (f : List ℕ) (c : Claim) (r : Result Bool Refusal) (k : ℕ) → Checks m f c r
      → ((told checked_values r).0 ≡ suc k) ↔ Given (suc k) (claim_tests m f c)
  -- accepted exactly if no test holds and the claim is acceptable
  pub accepted : (m : ℕ) (f : List ℕ) (c : Claim) (r : Result Bool Refusal) → Checks m f c r
      → (r ≡ Ok true) ↔ (Passed (claim_tests m f c) × Acceptable m f c)
  -- an accepted list is the complete list, with its multiplicities
  pub complete : (m : ℕ) (f : List ℕ) (c : Claim) → Checks m f c (Ok true)
      → (c.roots ≡ roots_at m f) × (c.times ≡ multiplicities_at m f)
  -- so it is what the whole call lists
  pub solved : (m cutoff : ℕ) (f : List ℕ) (c : Claim) (list mults : List ℕ) (r : Result Solved Refusal) (x u : List ℕ)
      → Checks m f c (Ok true) → Passed (solve_tests m cutoff f list mults) → Solves m cutoff f list mults r x u
      → Holds c.roots list x × Holds c.times mults u
  -- every nonzero polynomial within the limit has a claim that is accepted; the numbers beside its roots are small
  pub exists : (m : ℕ) (f : List ℕ) → PolynomialIn m f
      → (c : Claim) × ((r : Result Bool Refusal) → Checks m f c r → r ≡ Ok true) × Checks m f c (Ok true)
      × All (λ e. e ≤ limit) c.times
  -- two claims that are let in, and are the same but for zeros at the top, get the same answer
  pub zeros : (m : ℕ) (f g : List ℕ) (c d : Claim) → ClaimIn m f c → ClaimIn m g d → SameClaim m f g c d
      → (r s : Result Bool Refusal) → Checks m f c r → Checks m g d s → r ≡ s

pub record Proofs : Type 0 where
  -- one answer, and one content of every buffer
  pub prove-one : (m : ℕ) (f : List ℕ) (b : Claim) (r s : Result ℕ Refusal) (x y : Claim) → Proves m f b r x → Proves m f b s y
      → (r ≡ s) × (x ≡ y)
  -- refused under k exactly if test k is the first that holds
  pub refused : (m : ℕ) (f : List ℕ) (b : Claim) (r : Result ℕ Refusal) (x : Claim) (k : ℕ) → Proves m f b r x
      → ((told proved_values r).0 ≡ suc k) ↔ Given (suc k) (prove_tests m f b)
  -- made exactly if no test holds
  pub made : (m : ℕ) (f : List ℕ) (b : Claim) (r : Result ℕ Refusal) (x : Claim) → Proves m f b r x
      → ((told proved_values r).0 ≡ 0) ↔ Passed (prove_tests m f b)
  -- a refusal writes nothing
  pub unwritten : (m : ℕ) (f : List ℕ) (b : Claim) (r : Result ℕ Refusal) (x : Claim) (k : ℕ) → Proves m f b r x
      → Given k (prove_tests m f b) → x ≡ b
  -- what was made is accepted by the check, which gives no other answer
  pub accepted : (m : ℕ) (f : List ℕ) (n : ℕ) (b x : Claim) → Proves m f b (Ok n) x
      → Checks m f (sent_claim n x) (Ok true) × ((r : Result Bool Refusal) → Checks m f (sent_claim n x) r → r ≡ Ok true)
  -- its roots and multiplicities are those of the polynomial, and its lists stay as they were behind them
  pub roots : (m : ℕ) (f : List ℕ) (n : ℕ) (b x : Claim) → Proves m f b (Ok n) x
      → (n ≡ length (roots_at m f)) × Holds (roots_at m f) b.roots x.roots
      × Holds (multiplicities_at m f) b.times x.times
  -- so they are what the whole call lists in the same lists
  pub solved : (m cutoff : ℕ) (f : List ℕ) (n : ℕ) (b x : Claim) (r : Result Solved Refusal) (y u : List ℕ)
      → Proves m f b (Ok n) x → Passed (solve_tests m cutoff f b.roots b.times)
      → Solves m cutoff f b.roots b.times r y u → (x.roots ≡ y) × (x.times ≡ u)
