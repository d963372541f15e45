-- What the contract of the making says, by itself: the claim is accepted, and has the roots of the whole call.
--   PROVE-ACCEPTED   the check accepts it
--   PROVE-ROOTS      the roots and their multiplicities stand at the fronts of their lists, which stay as they were
--                    behind them
-- Assumes nothing.
use mathlib.Core.Path.{◌≡◌, sym, ap, ap₂, subst, ◌∙◌}
use mathlib.Core.Bool.{Bool, true}
use mathlib.Core.List.{List}
use Prim.Native.Nat.{ℕ, suc}
use lib.ListN.{length, take}
use Rattle.std.specs.Prelude.{Result, Ok}
use Rattle.refusals.specs.declared.Refusal.{Refusal}
use Rattle.field.specs.Field.{multiplicities_at, roots_at}
use Rattle.slices.specs.Lists.{copied}
use Rattle.slices.proofs.Lists.{copied-front}
use Rattle.input.specs.Limit.{limit}
use Rattle.claim_rules.specs.Claims.{Claim, claim_of}
use Rattle.claim_rules.proofs.Complete.{claim-complete}
use Rattle.claims.specs.Calls.{Checks}
use Rattle.claims.proofs.Coincide.{check-coincide}
use Rattle.claims.proofs.Contract.{claim-passes}
use Rattle.claim_maker.specs.Calls.{Makes, Proves, sent_claim}

module _ {m : ℕ} {f : List ℕ} {n : ℕ} {b x : Claim} (k : Makes m f n b x) where
  -- what is sent is the claim that was made
  sent_is : sent_claim n x ≡ k.claim
  sent_is =
      let c : Claim = k.claim in
      ap (sent_claim n) k.filled
      ∙ ap₂ (λ i j. claim_of i j (take (suc limit) (copied c.cofactor b.cofactor)) (take (suc limit) (copied c.first b.first)) (take (suc limit) (copied c.second b.second)))
      (copied-front c.roots b.roots (sym k.count)) (copied-front c.times b.times (sym k.acceptable.paired ∙ sym k.count))
      ∙ ap₂ (λ i j. claim_of c.roots c.times i j (take (suc limit) (copied c.second b.second)))
      (copied-front c.cofactor b.cofactor k.full.cofactor) (copied-front c.first b.first k.full.first)
      ∙ ap (claim_of c.roots c.times c.cofactor c.first) (copied-front c.second b.second k.full.second)

  accepted : Checks m f (sent_claim n x) (Ok true)
  accepted = subst (λ c. Checks m f c (Ok true)) (sym sent_is) (claim-passes m f k.claim k.let-in, k.acceptable)

-- PROVE-ACCEPTED: the check accepts what was made, and gives no other answer
pub prove-accepted : (m : ℕ) (f : List ℕ) (n : ℕ) (b x : Claim) → Proves m f b (Ok n) x
    → Checks m f (sent_claim n x) (Ok true) × ((r : Result Bool Refusal) → Checks m f (sent_claim n x) r → r ≡ (Ok true))
prove-accepted m f n b x h =
    let a : Checks m f (sent_claim n x) (Ok true) = accepted h.1 in
    (a, λ r k. check-coincide m f (sent_claim n x) r (Ok true) k a)

-- PROVE-ROOTS: the roots and multiplicities of the polynomial
pub prove-roots : (m : ℕ) (f : List ℕ) (n : ℕ) (b x : Claim) → Proves m f b (Ok n) x
    → (n ≡ length (roots_at m f)) × (x.roots ≡ copied (roots_at m f) b.roots) × (x.times ≡ copied (multiplicities_at m f) b.times)
prove-roots m f n b x h =
    let k : Makes m f n b x = h.1 in
    let e = claim-complete k.let-in k.acceptable in
    (k.count ∙ ap length e.0, ap (λ c. c.roots) k.filled ∙ ap (λ l. copied l b.roots) e.0, ap (λ c. c.times) k.filled ∙ ap (λ l. copied l b.times) e.1)
