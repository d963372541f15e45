-- The plain search over lent tables.
--   Searchable   what it may take for granted: a polynomial that was let in, the tables, and room for every root
--   SearchedOut  what it leaves: the roots at the front of the list, ascending, and their number
--   below        the roots below x
--   Tried        the elements below x were tried: their roots stand at the front of the list, and k is their number
--   Noted        an element x with the value v was noted: a root goes behind the k that stand there
--   RootDigits   the set digits of a word are the roots among the 64 elements from x on
--   Wordable     what noting a word may take for granted
-- Assumes nothing.
use Rattle.std.specs.Prelude.{◌≡◌, Bool, List, ℕ, ◌+◌, ◌/◌, ◌%◌, ◌^◌, ◌≤◌, ◌<◌, length, set}
use Rattle.algebra.specs.Trial.{keep, up_from}
use Rattle.algebra.specs.Polynomial.{eval, is_root}
use Rattle.field.specs.Field.{roots_at, G}
use Rattle.slices.specs.Lists.{copied}
use Rattle.poly.specs.Lent.{Lent}
use Rattle.input.specs.Limit.{limit}
use Rattle.input.specs.Polynomials.{PolynomialIn}

pub record Searchable (m : ℕ) (f ls ts roots : List ℕ) : Type 0 where
  pub polynomial : PolynomialIn m f
  pub tables : Lent m ls ts
  pub room : limit ≤ length roots

pub record SearchedOut (m : ℕ) (f roots : List ℕ) (k : ℕ) (roots' : List ℕ) : Type 0 where
  pub count : k ≡ length (roots_at m f)
  pub slots : roots' ≡ copied (roots_at m f) roots

-- is f 0 at x?
abbrev pub is_root_at : ℕ → List ℕ → ℕ → Bool
is_root_at m f = is_root (G m) f

abbrev pub below : ℕ → List ℕ → ℕ → List ℕ
below m f x = keep (is_root_at m f) (up_from 0 x)

pub record Tried (m : ℕ) (f roots : List ℕ) (x k : ℕ) (roots' : List ℕ) : Type 0 where
  pub within : x ≤ 2 ^ m
  pub count : k ≡ length (below m f x)
  pub slots : roots' ≡ copied (below m f x) roots
  pub long : length roots' ≡ length roots
  pub fewer : k ≤ x

pub record Noted (v x k : ℕ) (roots : List ℕ) (k' : ℕ) (roots' : List ℕ) : Type 0 where
  pub hit : v ≡ 0 → (k' ≡ k + 1) × (roots' ≡ set roots k x)
  pub miss : (v ≡ 0 → ⊥) → (k' ≡ k) × (roots' ≡ roots)

pub record RootDigits (f : List ℕ) (x free : ℕ) : Type 0 where
  pub small : free < 2 ^ 64
  pub hit : (l : ℕ) → l < 64 → free / 2 ^ l % 2 ≡ 1 → eval (G 11) f (x + l) ≡ 0
  pub miss : (l : ℕ) → l < 64 → free / 2 ^ l % 2 ≡ 0 → eval (G 11) f (x + l) ≡ 0 → ⊥

pub record Wordable (f : List ℕ) (free x k : ℕ) (roots : List ℕ) : Type 0 where
  pub tried : Tried 11 f roots x k roots
  pub digits : RootDigits f x free
  pub room : length (roots_at 11 f) ≤ length roots
  pub within : x + 64 ≤ 2048
