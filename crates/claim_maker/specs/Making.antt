-- What the parts of the making may take for granted, and what they leave. A polynomial p stands for the monic one with
-- the low coefficients p.
--   Rooted                 the roots are listed, and the rows of z, z^2, z^4, .. modulo f are kept
--   Powerable, IsPower     z^(2^m) + z modulo f;  AsField  what has the remainder by h that z^(2^m) + z has
--   Residable              that remainder can be written
--   Rowable, RootsRow      the product of (z + r)^e over the roots as a row of logs
--   Quotable               a quotient can be written to q
--   Splittable, SplitOff   what is left of f where z + r is taken out as often as it divides, for every root r
--   Coprime                some combination of a and b is 1
--   Reducible, Reduced     a divided by b, whose last coefficient is not 0: the remainder, and behind it the quotient
--   Unitable, United       x a + y b = 1. The degree of x is below that of b, the degree of y below that of a, or 0
--   Pairable, Paired       u h + v w = 1, of a polynomial h without roots
--   Makeable     a polynomial that was let in, and buffers with room
-- Assumes nothing.
use Rattle.std.specs.Prelude.{◌≡◌, ◌≢◌, List, [], ◌∷◌, ℕ, suc, ◌+◌, ◌-◌, ◌*◌, ◌^◌, ◌≤◌, ◌<◌, drop, get_or, length, replicate, take}
use Rattle.std.proofs.Math.Option.{some}
use Rattle.algebra.specs.Multiplicity.{total}
use Rattle.algebra.specs.Polynomial.{Below, add, coef, eval, field_poly, from_roots, mul}
use Rattle.algebra.specs.Routines.{frobenius_mod, monic_roots, norm, rem}
use Rattle.field.specs.Field.{G, multiplicities_at, roots_at}
use Rattle.poly.specs.Lent.{LogRow, log_row}
use Rattle.slices.specs.Lists.{copied}
use Rattle.table_begin.specs.SplitPart.{Powered}
use Rattle.input.specs.Limit.{limit}
use Rattle.input.specs.Polynomials.{PolynomialIn}
use Rattle.claim_rules.specs.Claims.{Claim, Lower, claim_of, combined, spread_out}
use Rattle.claim_rules.specs.Admitting.{Sent}

-- ---- the roots, and the powers of z on the way

pub record Rooted (m : ℕ) (f roots : List ℕ) (n : ℕ) (rows roots' : List ℕ) : Type 0 where
  pub count : n ≡ length (roots_at m f)
  pub slots-are : roots' ≡ copied (roots_at m f) roots
  pub degree : ℕ
  pub powers : Powered m f degree (take (m * degree) rows)
  pub room : m * degree ≤ length rows

-- where zeros stand
pub record Powerable (m : ℕ) (f rows b : List ℕ) : Type 0 where
  pub polynomial : PolynomialIn m f
  pub degree : ℕ
  pub powers : Powered m f degree (take (m * degree) rows)
  pub room : m * degree ≤ length rows
  pub zeros : b ≡ replicate (suc limit) 0

-- z itself is not reduced
pub record IsPower (m : ℕ) (f b : List ℕ) : Type 0 where
  pub small : Below (2 ^ m) b
  pub long : length b ≡ suc limit
  pub low : List ℕ
  pub made : norm (G m) (length f) f ≡ some low
  pub power : coef (G m) b
      ≡ coef (G m) (add (G m) (frobenius_mod (G m) low m (rem (G m) low (0 ∷ 1 ∷ []))) (0 ∷ 1 ∷ []))

-- b has the same remainder
abbrev pub AsField : ℕ → List ℕ → List ℕ → Type 0
AsField m h b = (x : List ℕ) → norm (G m) (length h) h ≡ some x → rem (G m) x b ≡ rem (G m) x (field_poly (G m) m)

pub record Residable (m : ℕ) (h b low w : List ℕ) : Type 0 where
  pub cofactor : Sent m h
  pub place : ℕ
  pub nonzero : get_or h place 0 ≢ 0
  pub small : Below (2 ^ m) b
  pub same : AsField m h b
  pub room-low : suc limit ≤ length low
  pub room : limit ≤ length w

-- ---- the roots taken out

pub record Rowable (m : ℕ) (roots es row : List ℕ) : Type 0 where
  pub elements : Below (2 ^ m) roots
  pub paired : length roots ≡ length es
  pub few : total es ≤ limit
  pub room : limit ≤ length row

pub record RootsRow (m : ℕ) (roots es : List ℕ) (n : ℕ) (row : List ℕ) : Type 0 where
  pub count : n ≡ total es
  pub within : n ≤ length row
  pub front : take n row ≡ log_row m (monic_roots (G m) (spread_out roots es))

-- the quotient's first coefficients, as many as q has
pub record Quotable (m : ℕ) (row work q : List ℕ) : Type 0 where
  pub logs : LogRow m row
  pub small : Below (2 ^ m) work
  pub room : length row + length q ≤ length work

pub record Splittable (m : ℕ) (f roots es h : List ℕ) : Type 0 where
  pub polynomial : PolynomialIn m f
  pub all : roots ≡ roots_at m f
  pub beside : es ≡ multiplicities_at m f
  pub room : length h ≡ suc limit

pub record SplitOff (m : ℕ) (f h : List ℕ) : Type 0 where
  pub small : Below (2 ^ m) h
  pub product : coef (G m) (mul (G m) (from_roots (G m) (spread_out (roots_at m f) (multiplicities_at m f))) h)
      ≡ coef (G m) f
  pub bare : (x : ℕ) → x < 2 ^ m → eval (G m) h x ≢ 0

-- ---- Euclid's algorithm

pub record Coprime (m : ℕ) (a b : List ℕ) : Type 0 where
  pub first : List ℕ
  pub second : List ℕ
  pub small-first : Below (2 ^ m) first
  pub small-second : Below (2 ^ m) second
  pub one : coef (G m) (add (G m) (mul (G m) first a) (mul (G m) second b)) ≡ coef (G m) (1 ∷ [])

pub record Reducible (m : ℕ) (b a : List ℕ) : Type 0 where
  pub small-a : Below (2 ^ m) a
  pub small_b : Below (2 ^ m) b
  pub some : 1 ≤ length b
  pub few : length b ≤ suc limit
  pub below : length b ≤ suc (length a)
  pub lead : get_or b (length b - 1) 0 ≢ 0

pub record Reduced (m : ℕ) (b a a' : List ℕ) : Type 0 where
  pub small : Below (2 ^ m) a'
  pub exact : coef (G m) a
      ≡ coef (G m) (add (G m) (mul (G m) (drop (length b - 1) a') b) (take (length b - 1) a'))

pub record Unitable (m : ℕ) (a b x y : List ℕ) : Type 0 where
  pub reducible : Reducible m b a
  pub short : length a ≤ suc limit
  pub coprime : Coprime m a b
  pub room-x : length x ≡ suc limit
  pub room-y : length y ≡ suc limit

pub record United (m : ℕ) (a b x y : List ℕ) : Type 0 where
  pub small-x : Below (2 ^ m) x
  pub small-y : Below (2 ^ m) y
  pub one : coef (G m) (add (G m) (mul (G m) x a) (mul (G m) y b)) ≡ coef (G m) (1 ∷ [])
  pub short-x : (i : ℕ) → length b ≤ suc i → coef (G m) x i ≡ 0
  pub short-y : (i : ℕ) → 1 ≤ i → length a ≤ suc i → coef (G m) y i ≡ 0

-- ---- u and v

pub record Pairable (m : ℕ) (h b u v : List ℕ) : Type 0 where
  pub small : Below (2 ^ m) h
  pub small_b : Below (2 ^ m) b
  pub same : AsField m h b
  pub bare : (x : ℕ) → x < 2 ^ m → eval (G m) h x ≢ 0
  pub room-h : length h ≡ suc limit
  pub room-u : length u ≡ suc limit
  pub room-v : length v ≡ suc limit

pub record Paired (m : ℕ) (h u v : List ℕ) : Type 0 where
  pub small-u : Below (2 ^ m) u
  pub small-v : Below (2 ^ m) v
  pub coprime : coef (G m) (combined m (claim_of [] [] h u v)) ≡ coef (G m) (1 ∷ [])
  pub lower : Lower m h v

-- ---- the call

pub record Makeable (m : ℕ) (f : List ℕ) (b : Claim) : Type 0 where
  pub polynomial : PolynomialIn m f
  pub roots : limit ≤ length b.roots
  pub times : limit ≤ length b.times
  pub cofactor : suc limit ≤ length b.cofactor
  pub first : suc limit ≤ length b.first
  pub second : suc limit ≤ length b.second
