-- What the making of a claim answers, for every input (docs/RULES.md section 14.4). The five lent buffers, of roots,
-- multiplicities, h, u and v, are told as a claim: what they hold.
--   buffer_sizes  the tests of the room in the buffers, in their order;  buffer_tests  the same of the buffers
--   prove_tests   all tests in their order, each behind its number
--   proved_values the value of an answer
--   over         a claim written over the fronts of five buffers
--   Makes        n roots of f, and all that a claim has, stand in the buffers
--   Proves       THE CONTRACT: the answers, and what the buffers hold afterwards
--   sent_claim    the claim that is sent of what they hold
-- Assumes nothing.
use Rattle.std.specs.Prelude.{◌≡◌, Result, Ok, Err, Bool, List, [], ◌∷◌, ℕ, suc, ltb, length, take}
use Rattle.refusals.specs.Order.{Given, Passed}
use Rattle.refusals.specs.Numbers.{number_of}
use Rattle.refusals.specs.declared.Refusal.{Refusal}
use Rattle.slices.specs.Lists.{copied}
use Rattle.input.specs.Limit.{limit}
use Rattle.input.specs.Polynomials.{polynomial_tests}
use Rattle.claim_rules.specs.Claims.{Acceptable, Claim, claim_of}
use Rattle.claim_rules.specs.Admitting.{ClaimIn, Full}

-- the limit of roots, and as many slots as a polynomial may have coefficients
abbrev pub buffer_sizes : ℕ → ℕ → ℕ → ℕ → ℕ → List (ℕ × Bool)
buffer_sizes roots mults h u v =
    (7, ltb roots limit) ∷ (7, ltb mults limit) ∷ (7, ltb h (suc limit)) ∷ (7, ltb u (suc limit)) ∷ (7, ltb v (suc limit))
    ∷ []

abbrev pub buffer_tests : Claim → List (ℕ × Bool)
buffer_tests b =
    buffer_sizes (length b.roots) (length b.times) (length b.cofactor) (length b.first) (length b.second)

abbrev pub prove_tests : ℕ → List ℕ → Claim → List (ℕ × Bool)
prove_tests m f b = polynomial_tests m f (buffer_tests b)

abbrev pub proved_values : ℕ → List ℕ
proved_values n = n ∷ []

-- what lies behind stays
abbrev pub over : Claim → Claim → Claim
over c b =
    claim_of (copied c.roots b.roots) (copied c.times b.times) (copied c.cofactor b.cofactor)
    (copied c.first b.first) (copied c.second b.second)

-- the claim is acceptable, and v has a lower degree than h
pub record Makes (m : ℕ) (f : List ℕ) (n : ℕ) (before after : Claim) : Type 0 where
  pub claim : Claim
  pub let-in : ClaimIn m f claim
  pub acceptable : Acceptable m f claim
  pub full : Full m claim
  pub count : n ≡ length claim.roots
  pub filled : after ≡ over claim before

-- a refusal writes nothing
abbrev pub Proves : ℕ → List ℕ → Claim → Result ℕ Refusal → Claim → Type 0
Proves m f before (Ok n) after = Passed (prove_tests m f before) × Makes m f n before after
Proves m f before (Err k) after = Given (number_of k) (prove_tests m f before) × (after ≡ before)

-- what is sent of buffers with n roots: the two lists cut to n, and the polynomials
abbrev pub sent_claim : ℕ → Claim → Claim
sent_claim n b =
    claim_of (take n b.roots) (take n b.times) (take (suc limit) b.cofactor) (take (suc limit) b.first)
    (take (suc limit) b.second)
