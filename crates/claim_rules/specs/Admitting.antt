-- When a claim is refused, under which number and in which order (docs/RULES.md section 14.2).
--   some_of         some of several lists passes a test
--   polynomials_of  the given polynomial, the cofactor, u and v
--   claim_tests     refusals 1 to 5: the field, no coefficients, too many, an element that is none, and the given
--                  polynomial 0. The numbers beside the roots are not looked at
--   ClaimIn        what is known of a claim that was let in
--   Full           a claim of as many coefficients as there may be, with v of a lower degree than h: there is one (proofs/
--                  OneClaim.antt)
-- Assumes nothing.
use Rattle.std.specs.Prelude.{◌≡◌, Bool, true, false, not, cond, List, [], ◌∷◌, ℕ, suc, ◌^◌, ◌≤◌, ◌<◌, eqb, ltb, length}
use Rattle.field.specs.Rows.{known}
use Rattle.slices.specs.Bounded.{any_from, all_zero}
use Rattle.algebra.specs.Polynomial.{Below}
use Rattle.input.specs.Limit.{limit}
use Rattle.claim_rules.specs.Claims.{Claim, Lower}

-- one after the other
unfoldable pub some_of : (List ℕ → Bool) → List (List ℕ) → Bool
some_of t [] = false
some_of t (p ∷ ps) = cond (t p) true (some_of t ps)

-- the given one first
abbrev pub polynomials_of : List ℕ → Claim → List (List ℕ)
polynomials_of f c = f ∷ c.cofactor ∷ c.first ∷ c.second ∷ []

-- 4 looks at the roots too
abbrev pub claim_tests : ℕ → List ℕ → Claim → List (ℕ × Bool)
claim_tests m f c =
    (1, not (known m)) ∷ (2, some_of (λ p. eqb (length p) 0) (polynomials_of f c))
    ∷ (3, some_of (λ p. ltb (suc limit) (length p)) (polynomials_of f c))
    ∷ (4, some_of (any_from (2 ^ m)) (c.roots ∷ polynomials_of f c)) ∷ (5, all_zero f) ∷ []

-- a polynomial with 1 to limit + 1 coefficients, all elements
pub record Sent (m : ℕ) (p : List ℕ) : Type 0 where
  pub some : 0 < length p
  pub few : length p ≤ suc limit
  pub small : Below (2 ^ m) p

pub record ClaimIn (m : ℕ) (f : List ℕ) (c : Claim) : Type 0 where
  pub field : known m ≡ true
  pub given : Sent m f
  pub cofactor : Sent m c.cofactor
  pub first : Sent m c.first
  pub second : Sent m c.second
  pub elements : Below (2 ^ m) c.roots
  pub nonzero : all_zero f ≡ false

-- a claim of as many coefficients as there may be, with v of a lower degree than h
pub record Full (m : ℕ) (c : Claim) : Type 0 where
  pub cofactor : length c.cofactor ≡ suc limit
  pub first : length c.first ≡ suc limit
  pub second : length c.second ≡ suc limit
  pub lower : Lower m c.cofactor c.second
