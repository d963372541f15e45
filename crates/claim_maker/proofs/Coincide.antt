-- Two outcomes that the contract of the making admits are one: the answer, and every slot of the five buffers.
--   proved-told     two answers with one number and value are one
--   prove-outcome   an answer tells the outcome that the tests decide
--   PROVE-COINCIDE  two outcomes that the contract admits are one
-- Assumes nothing.
use mathlib.Core.Path.{◌≡◌, refl, sym, ap, ◌∙◌}
use mathlib.Core.List.{List, [], ◌∷◌}
use Prim.Native.Nat.{ℕ}
use lib.ListN.{length, get_or}
use Rattle.std.specs.Prelude.{Result, Ok, Err}
use Rattle.refusals.specs.Admitting.{told}
use Rattle.refusals.specs.declared.Refusal.{Refusal}
use Rattle.refusals.specs.Order.{outcome}
use Rattle.refusals.proofs.Order.{accepted, refused}
use Rattle.refusals.proofs.Told.{told-one}
use Rattle.claim_rules.specs.Claims.{Claim}
use Rattle.claim_rules.proofs.OneClaim.{one-claim}
use Rattle.claims.proofs.Coincide.{exclusive}
use Rattle.claim_maker.specs.Calls.{Makes, Proves, over, prove_tests, proved_values}

-- the answer that a value stands for
proved_of : List ℕ → ℕ
proved_of l = get_or l 0 0

pub proved-told : (r s : Result ℕ Refusal) → told proved_values r ≡ told proved_values s → r ≡ s
unfolding proved_of
proved-told = told-one proved_values proved_of (λ n. refl)

module _ (m : ℕ) (f : List ℕ) (b : Claim) where
  -- an answer tells the outcome that the tests decide, with its own value
  pub prove-outcome : (r : Result ℕ Refusal) (x : Claim) → Proves m f b r x → told proved_values r ≡ outcome (prove_tests m f b) (told proved_values r).1
  prove-outcome (Ok n) x h = sym (accepted (n ∷ []) h.0)
  prove-outcome (Err k) x h = sym (refused [] h.0)

  -- the claim that is made is one
  same-made : {n k : ℕ} {x y : Claim} → Makes m f n b x → Makes m f k b y → (n ≡ k) × (x ≡ y)
  same-made {n} {k} {x} {y} p q =
      let e : p.claim ≡ q.claim = one-claim p.let-in p.acceptable p.full q.let-in q.acceptable q.full in
      (p.count ∙ ap (λ c. length c.roots) e ∙ sym q.count, p.filled ∙ ap (λ c. over c b) e ∙ sym q.filled)

  -- PROVE-COINCIDE: two outcomes that the contract admits are one
  pub prove-coincide : (r s : Result ℕ Refusal) (x y : Claim) → Proves m f b r x → Proves m f b s y → (r ≡ s) × (x ≡ y)
  prove-coincide (Ok n) (Ok k) x y p q = let e = same-made p.1 q.1 in (ap Ok e.0, e.1)
  prove-coincide (Ok n) (Err k) x y p q = absurd (exclusive p.0 q.0)
  prove-coincide (Err k) (Ok n) x y p q = absurd (exclusive q.0 p.0)
  prove-coincide (Err j) (Err k) x y p q =
      (proved-told (Err j) (Err k) (sym (refused [] p.0) ∙ refused [] q.0), p.1 ∙ sym q.1)
