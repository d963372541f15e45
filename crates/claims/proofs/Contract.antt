-- What the contract of the check says, by itself: an accepted list is complete, and every nonzero polynomial within the
-- limit has a claim that is accepted.
--   CHECK-COMPLETE   an accepted claim has the roots and multiplicities of the polynomial
--   claim-passes     what is let in
--   CHECK-EXISTS     every nonzero polynomial within the limit has a claim that is accepted, whose numbers beside the
--                    roots are at most the limit
--   CHECK-SAME       zeros at the top of a polynomial are ignored
-- Assumes nothing.
use mathlib.Core.Path.{◌≡◌, refl, ap, ap₂}
use mathlib.Core.Bool.{Bool, true, false, not, cond}
use mathlib.Core.List.{List, [], ◌∷◌}
use Prim.Native.Nat.{ℕ, suc, ◌^◌, ◌≤◌}
use native.Mathlib.Omega.{arith}
use borrow.Author.Tests.{le-ltb, ne_eqb}
use lib.Dec.{eqb, ltb}
use lib.ListN.{length}
use Rattle.std.specs.Prelude.{Result, Ok, Err}
use Rattle.refusals.specs.declared.Refusal.{Refusal}
use Rattle.refusals.specs.Order.{Passed}
use Rattle.refusals.specs.Order.Passed.{none}
use Rattle.refusals.proofs.Order.{passes}
use Rattle.algebra.specs.Trial.{All}
use Rattle.slices.specs.Bounded.{any_from}
use Rattle.slices.proofs.Bounded.{all_below-exactly}
use Rattle.field.specs.Field.{multiplicities_at, roots_at}
use Rattle.input.specs.Limit.{limit}
use Rattle.input.specs.Polynomials.{PolynomialIn}
use Rattle.claim_rules.specs.Claims.{Claim, SameClaim}
use Rattle.claim_rules.specs.Admitting.{ClaimIn, Sent, claim_tests, polynomials_of, some_of}
use Rattle.claim_rules.proofs.Complete.{claim-complete}
use Rattle.claim_rules.proofs.Claimable.{claim-exists}
use Rattle.claim_rules.proofs.ZerosIgnored.{acceptable-same, same_back}
use Rattle.claims.specs.Calls.{Checks}
use Rattle.claims.proofs.Asking.{claim-told}
use Rattle.claims.proofs.Coincide.{check-coincide, exclusive}

-- ---- an accepted claim

-- CHECK-COMPLETE: the list is the complete list of the roots, with their multiplicities
pub check-complete : (m : ℕ) (f : List ℕ) (c : Claim) → Checks m f c (Ok true) → (c.roots ≡ roots_at m f) × (c.times ≡ multiplicities_at m f)
check-complete m f c h = claim-complete (claim-told m f c h.0) h.1

-- ---- every polynomial has one

-- a polynomial that may be sent
sent-passes : {m : ℕ} {p : List ℕ} → Sent m p → (eqb (length p) 0 ≡ false) × (ltb (suc limit) (length p) ≡ false) × (any_from (2 ^ m) p ≡ false)
sent-passes {m} {p} s =
    (ne_eqb (length p) 0 (λ e. omega (arith, s.some)), le-ltb (suc limit) (length p) s.few, ap not ((all_below-exactly (2 ^ m) p).1 s.small))

-- none of several lists passes a test
none_of : (t : List ℕ → Bool) (p : List ℕ) (ps : List (List ℕ)) → t p ≡ false → some_of t ps ≡ false → some_of t (p ∷ ps) ≡ false
unfolding some_of
none_of t p ps e s = ap₂ (λ x y. cond x true y) e s

nobody : (t : List ℕ → Bool) → some_of t [] ≡ false
unfolding some_of
nobody t = refl

four : (t : List ℕ → Bool) (f : List ℕ) (c : Claim) → t f ≡ false → t c.cofactor ≡ false → t c.first ≡ false → t c.second ≡ false
    → some_of t (polynomials_of f c) ≡ false
four t f c a b d e = none_of t f _ a (none_of t c.cofactor _ b (none_of t c.first _ d (none_of t c.second [] e (nobody t))))

-- what is let in
pub claim-passes : (m : ℕ) (f : List ℕ) (c : Claim) → ClaimIn m f c → Passed (claim_tests m f c)
claim-passes m f c i =
    let a = sent-passes i.given in
    let b = sent-passes i.cofactor in
    let d = sent-passes i.first in
    let e = sent-passes i.second in
    passes (ap not i.field)
    (passes (four (λ p. eqb (length p) 0) f c a.0 b.0 d.0 e.0)
    (passes (four (λ p. ltb (suc limit) (length p)) f c a.1 b.1 d.1 e.1)
    (passes (none_of (any_from (2 ^ m)) c.roots _ (ap not ((all_below-exactly (2 ^ m) c.roots).1 i.elements)) (four (any_from (2 ^ m)) f c a.2 b.2 d.2 e.2))
    (passes i.nonzero none))))

-- CHECK-EXISTS: every nonzero polynomial within the limit has a claim that is accepted
pub check-exists : (m : ℕ) (f : List ℕ) → PolynomialIn m f
    → (c : Claim) × ((r : Result Bool Refusal) → Checks m f c r → r ≡ (Ok true)) × Checks m f c (Ok true) × All (λ e. e ≤ limit) c.times
check-exists m f t =
    let k = claim-exists m f t in
    let yes : Checks m f k.0 (Ok true) = (claim-passes m f k.0 k.1.let-in, k.1.acceptable) in
    (k.0, (λ r h. check-coincide m f k.0 r (Ok true) h yes), yes, k.1.few)

-- ---- zeros at the top

-- CHECK-SAME: of two claims that are let in, with the same roots and numbers and the same polynomials, one is accepted where the other is
pub check-same : (m : ℕ) (f g : List ℕ) (c d : Claim) → ClaimIn m f c → ClaimIn m g d → SameClaim m f g c d → (r s : Result Bool Refusal) → Checks m f c r → Checks m g d s → r ≡ s
check-same m f g c d i j e (Ok true) (Ok true) h k = refl
check-same m f g c d i j e (Ok true) (Ok false) h k = absurd (k.1 (acceptable-same i h.1 j e))
check-same m f g c d i j e (Ok false) (Ok true) h k = absurd (h.1 (acceptable-same j k.1 i (same_back e)))
check-same m f g c d i j e (Ok false) (Ok false) h k = refl
check-same m f g c d i j e (Err x) s h k = absurd (exclusive (claim-passes m f c i) h)
check-same m f g c d i j e (Ok true) (Err y) h k = absurd (exclusive (claim-passes m g d j) k)
check-same m f g c d i j e (Ok false) (Err y) h k = absurd (exclusive (claim-passes m g d j) k)
