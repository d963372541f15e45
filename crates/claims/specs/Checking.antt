-- What the parts of the check may take for granted, and what they leave.
--   Decides      a test tells whether a statement holds
--   tallies      roots from k on, strictly ascending, with numbers of at least 1 beside them that add up to n
--   Spreadable   the roots spread by the numbers beside them fill a list
--   product_room  the words of a product
--   Rowable, Productive   a product can be added to the front of sum
--   Expandable   the product of z + r over a list, and h, can be compared with f
--   Residual, Residue   the remainder of z^(2^m) + z by h can be written to w, and the monic multiple of h to low, and
--                both were
--   Combinable   u h + v w can be compared with 1
--   Weighable, Weighs   both can be, and both hold
-- Assumes nothing.
use Rattle.std.specs.Prelude.{◌≡◌, ◌≢◌, Bool, true, false, ◌&&◌, List, [], ◌∷◌, ℕ, suc, ◌+◌, ◌-◌, ◌*◌, ◌^◌, ◌≤◌, eqb, leb, ltb, get_or, length, take}
use Rattle.std.proofs.Math.Option.{some}
use Rattle.algebra.specs.Multiplicity.{total}
use Rattle.algebra.specs.Polynomial.{Below, coef, from_roots, mul}
use Rattle.algebra.specs.Routines.{norm}
use Rattle.field.specs.Rows.{known}
use Rattle.field.specs.Field.{G}
use Rattle.poly.specs.Lent.{LogRow}
use Rattle.input.specs.Limit.{limit}
use Rattle.claim_rules.specs.Claims.{Claim, combined, field_remainder}
use Rattle.claim_rules.specs.Admitting.{Sent}

pub record Decides (b : Bool) (P : Type 0) : Type 0 where
  pub yes : b ≡ true → P
  pub no : b ≡ false → P → ⊥

-- one root after the other
unfoldable pub tallies : ℕ → ℕ → List ℕ → List ℕ → Bool
tallies k n [] [] = eqb n 0
tallies k n [] (e ∷ es) = false
tallies k n (r ∷ s) [] = false
tallies k n (r ∷ s) (e ∷ es) = leb k r && (ltb 0 e && (leb e n && tallies (suc r) (n - e) s es))

pub record Spreadable (roots es list : List ℕ) : Type 0 where
  pub paired : length roots ≡ length es
  pub room : total es ≡ length list

-- the words of a product of two polynomials within the limit
abbrev pub product_room : ℕ
product_room = 2 * suc limit

-- one factor as a row of logs
pub record Rowable (m : ℕ) (p row sum : List ℕ) : Type 0 where
  pub small : Below (2 ^ m) p
  pub logs : LogRow m row
  pub room : length p + length row ≤ length sum

-- both as coefficients
pub record Productive (m : ℕ) (p r sum : List ℕ) : Type 0 where
  pub first : Below (2 ^ m) p
  pub second : Below (2 ^ m) r
  pub few : length r ≤ suc limit
  pub room : length p + length r ≤ length sum

pub record Expandable (m : ℕ) (list h f : List ℕ) : Type 0 where
  pub elements : Below (2 ^ m) list
  pub few : length list ≤ limit
  pub cofactor : Sent m h
  pub given : Sent m f

-- h is not 0
pub record Residual (m : ℕ) (h low w : List ℕ) : Type 0 where
  pub cofactor : Sent m h
  pub place : ℕ
  pub nonzero : get_or h place 0 ≢ 0
  pub room-low : suc limit ≤ length low
  pub room : limit ≤ length w

pub record Residue (m : ℕ) (h : List ℕ) (d : ℕ) (low w : List ℕ) : Type 0 where
  pub count : d ≤ limit
  pub inside : d ≤ length low
  pub within : d ≤ length w
  pub made : norm (G m) (length h) h ≡ some (take d low)
  pub front : take d w ≡ field_remainder m h

-- with room of its own
pub record Combinable (m : ℕ) (h u v : List ℕ) : Type 0 where
  pub cofactor : Sent m h
  pub first : Sent m u
  pub second : Sent m v
  pub place : ℕ
  pub nonzero : get_or h place 0 ≢ 0

-- the roots, each as often as the claim says, and the polynomials
pub record Weighable (m : ℕ) (f list : List ℕ) (c : Claim) : Type 0 where
  pub field : known m ≡ true
  pub elements : Below (2 ^ m) list
  pub few : length list ≤ limit
  pub given : Sent m f
  pub cofactor : Sent m c.cofactor
  pub first : Sent m c.first
  pub second : Sent m c.second
  pub place : ℕ
  pub nonzero : get_or c.cofactor place 0 ≢ 0

-- the two equations of a claim
pub record Weighs (m : ℕ) (f list : List ℕ) (c : Claim) : Type 0 where
  pub product : coef (G m) (mul (G m) (from_roots (G m) list) c.cofactor) ≡ coef (G m) f
  pub coprime : coef (G m) (combined m c) ≡ coef (G m) (1 ∷ [])
