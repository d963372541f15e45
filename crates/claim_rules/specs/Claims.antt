-- A claim of roots (docs/RULES.md sections 14.1 and 14.2): what a partner's decoder sends about a polynomial f, and when
-- it is acceptable.
--   Claim            roots, beside each its multiplicity e, a cofactor h, and two polynomials u and v
--   claim_of          the claim of these five lists
--   spread_out        each root as many times as the number beside it says
--   claimed          the product of (z + r)^e over the roots, and h
--   field_remainder   w: the remainder of z^(2^m) + z by h, or 0 if h is constant. It is taken by the monic multiple of
--                    h, which has the same remainders (proofs/TheRemainder.antt: it is the remainder by h)
--   IsFieldRemainder what that means: a lower degree than that of h, and h divides the sum
--   Acceptable       the roots are strictly ascending, each e is at least 1, the product of (z + r)^e and h is f, and
--                    u h + v w = 1
--   Lower            v has a lower degree than h
--   SameClaim        two claims are the same but for zeros at the top
-- Polynomials are equal where all coefficients are: zeros at the top are ignored.
-- Assumes nothing.
use Rattle.std.specs.Prelude.{◌≡◌, ◌≢◌, List, [], ◌∷◌, ◌++◌, ℕ, ◌^◌, ◌≤◌, length, replicate}
use Rattle.std.proofs.Math.Option.{Option-elim}
use Rattle.algebra.specs.Trial.{All, Ascending}
use Rattle.algebra.specs.Polynomial.{DividesBelow, coef, add, mul, from_roots, field_poly}
use Rattle.algebra.specs.Routines.{norm, rem}
use Rattle.field.specs.Field.{G}

pub record Claim : Type 0 where
  pub roots : List ℕ
  pub times : List ℕ
  pub cofactor : List ℕ
  pub first : List ℕ
  pub second : List ℕ

-- in the order in which they are sent
abbrev pub claim_of : List ℕ → List ℕ → List ℕ → List ℕ → List ℕ → Claim
claim_of roots es h u v = record { roots = roots; times = es; cofactor = h; first = u; second = v }

-- what has no partner is left out
unfoldable pub spread_out : {K : Type 0} → List K → List ℕ → List K
spread_out [] es = []
spread_out (r ∷ s) [] = []
spread_out (r ∷ s) (e ∷ es) = replicate e r ++ spread_out s es

-- the product that must be f
abbrev pub claimed : ℕ → Claim → List ℕ
claimed m c = mul (G m) (from_roots (G m) (spread_out c.roots c.times)) c.cofactor

-- `norm` is the monic multiple without its leading 1: empty where h is a nonzero constant, and nothing where h is 0
unfoldable pub field_remainder : ℕ → List ℕ → List ℕ
unfolding Option-elim
field_remainder m h = Option-elim (norm (G m) (length h) h) [] (λ p. rem (G m) p (field_poly (G m) m))

-- what that means: w has no coefficient from some place of h on, and h divides z^(2^m) + z + w
pub record IsFieldRemainder (m : ℕ) (h w : List ℕ) : Type 0 where
  pub place : ℕ
  pub present : coef (G m) h place ≢ 0
  pub lower : (k : ℕ) → place ≤ k → coef (G m) w k ≡ 0
  pub exact : DividesBelow (G m) (2 ^ m) h (add (G m) (field_poly (G m) m) w)

-- what u h + v w must be: 1
abbrev pub combined : ℕ → Claim → List ℕ
combined m c =
    add (G m) (mul (G m) c.first c.cofactor) (mul (G m) c.second (field_remainder m c.cofactor))

-- the conditions, in the words in which they are asked for
pub record Acceptable (m : ℕ) (f : List ℕ) (c : Claim) : Type 0 where
  pub paired : length c.roots ≡ length c.times
  pub ascending : Ascending c.roots
  pub least : All (λ e. 1 ≤ e) c.times
  pub product : coef (G m) (claimed m c) ≡ coef (G m) f
  pub coprime : coef (G m) (combined m c) ≡ coef (G m) (1 ∷ [])

-- from some place of h on v has no coefficient
pub record Lower (m : ℕ) (h v : List ℕ) : Type 0 where
  pub place : ℕ
  pub present : coef (G m) h place ≢ 0
  pub above : (k : ℕ) → place ≤ k → coef (G m) v k ≡ 0

-- the claim c about f is the claim d about g: roots and numbers, and polynomials up to zeros at the top
pub record SameClaim (m : ℕ) (f g : List ℕ) (c d : Claim) : Type 0 where
  pub roots : c.roots ≡ d.roots
  pub times : c.times ≡ d.times
  pub given : coef (G m) f ≡ coef (G m) g
  pub cofactor : coef (G m) c.cofactor ≡ coef (G m) d.cofactor
  pub first : coef (G m) c.first ≡ coef (G m) d.first
  pub second : coef (G m) c.second ≡ coef (G m) d.second
