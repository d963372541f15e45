-- `Claims` and `Proofs` of specs/Claims.antt hold, by the laws of the contracts alone.
--   claims   of the check
--   proofs   of the making
-- Assumes nothing.
use mathlib.Core.Path.{◌≡◌, refl, sym, ap, subst, ◌∙◌}
use mathlib.Core.Logic.{◌↔◌}
use mathlib.Core.List.{List}
use Prim.Native.Nat.{ℕ, suc}
use native.Mathlib.Omega.{arith}
use Rattle.std.specs.Prelude.{Result, Ok, Err}
use Rattle.refusals.specs.Admitting.{told}
use mathlib.Core.Bool.{Bool, true}
use Rattle.refusals.specs.Order.{Given, Passed}
use Rattle.refusals.specs.Numbers.{number_of}
use Rattle.refusals.specs.declared.Refusal.{Refusal}
use Rattle.refusals.proofs.Numbers.{accepted-back, by_number, refused-back}
use Rattle.refusals.proofs.Order.{exactly, written}
use Rattle.claim_rules.specs.Claims.{Claim}
use Rattle.claim_rules.specs.Admitting.{claim_tests}
use Rattle.claims.specs.Calls.{Checks, checked_values}
use Rattle.claims.proofs.Coincide.{check-coincide, check-outcome, exclusive}
use Rattle.claims.proofs.Contract.{check-complete, check-exists, check-same}
use Rattle.demands.specs.Demand2.{Holds}
use Rattle.claim_maker.specs.Calls.{Proves, prove_tests, proved_values}
use Rattle.claim_maker.proofs.Coincide.{prove-coincide, prove-outcome}
use Rattle.claim_maker.proofs.Contract.{prove-accepted, prove-roots}
use Rattle.demands.specs.Claims.{Claims, Proofs}
use Rattle.demands.proofs.Demand2.{demand-2, holds}

-- refused under k exactly if test k is the first that holds
by-test : (m : ℕ) (f : List ℕ) (c : Claim) (r : Result Bool Refusal) (k : ℕ) → Checks m f c r → ((told checked_values r).0 ≡ suc k) ↔ Given (suc k) (claim_tests m f c)
by-test m f c r k h =
    let e = check-outcome m f c r h in
    let i = exactly k (claim_tests m f c) (told checked_values r).1 in
    (λ t. i.0 (sym (ap (λ o. o.0) e) ∙ t), λ g. ap (λ o. o.0) e ∙ i.1 g)

pub claims : Claims
claims = record {
  check-one = check-coincide;
  refused = by-test;
  accepted = λ m f c r h. (λ e. subst (Checks m f c) e h, λ k. check-coincide m f c r (Ok true) h k);
  complete = check-complete;
  solved = λ m cutoff f c list mults r x u h p s.
      let k = check-complete m f c h in
      let d = (demand-2 m cutoff f list mults p).solve-gives r x u s in
      (subst (λ l. Holds l list x) (sym k.0) d.1, subst (λ l. Holds l mults u) (sym k.1) d.2);
  exists = check-exists;
  zeros = check-same;
}

-- ---- the making

-- refused under k exactly if test k is the first that holds
made-by-test : (m : ℕ) (f : List ℕ) (b : Claim) (r : Result ℕ Refusal) (x : Claim) (k : ℕ) → Proves m f b r x → ((told proved_values r).0 ≡ suc k) ↔ Given (suc k) (prove_tests m f b)
made-by-test m f b r x k h =
    let e = prove-outcome m f b r x h in
    let i = exactly k (prove_tests m f b) (told proved_values r).1 in
    (λ t. i.0 (sym (ap (λ o. o.0) e) ∙ t), λ g. ap (λ o. o.0) e ∙ i.1 g)

-- no refusal has the number 0
number-some : (k : Refusal) → number_of k ≡ 0 → ⊥
number-some k e =
    let z : ◌≡◌ {A = ℕ} 1 0 = sym (refused-back (λ r. 1) 0 k) ∙ ap (by_number (λ r. 1) 0) e ∙ accepted-back (λ r. 1) 0 in
    omega arith

-- made exactly if no test holds
made-passed : (m : ℕ) (f : List ℕ) (b : Claim) (r : Result ℕ Refusal) (x : Claim) → Proves m f b r x → ((told proved_values r).0 ≡ 0) ↔ Passed (prove_tests m f b)
made-passed m f b (Ok n) x h = (λ e. h.0, λ p. refl)
made-passed m f b (Err k) x h = (λ e. absurd (number-some k e), λ p. absurd (exclusive p h.0))

-- a refusal writes nothing
made-unwritten : (m : ℕ) (f : List ℕ) (b : Claim) (r : Result ℕ Refusal) (x : Claim) (k : ℕ) → Proves m f b r x → Given k (prove_tests m f b) → x ≡ b
made-unwritten m f b (Ok n) x k h g = absurd (exclusive h.0 g)
made-unwritten m f b (Err j) x k h g = h.1

pub proofs : Proofs
proofs = record {
  prove-one = prove-coincide;
  refused = made-by-test;
  made = made-passed;
  unwritten = made-unwritten;
  accepted = prove-accepted;
  roots = λ m f n b x h. let k = prove-roots m f n b x h in (k.0, holds _ b.roots x.roots k.1, holds _ b.times x.times k.2);
  solved = λ m cutoff f n b x r y u h p s.
      let k = prove-roots m f n b x h in
      (k.1 ∙ sym (s.list ∙ written _ _ p), k.2 ∙ sym (s.beside ∙ written _ _ p));
}
