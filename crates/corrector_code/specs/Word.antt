-- Words as lists of bits, over any field: bit j stands at place j, and as a polynomial a word has bit j at x^j.
-- Laws and inner contracts alone cite it: what the corrector promises does not rest on it.
--   differs b c               one of two bits is set, and not the other
--   difference w v            the places where w and v differ, as a word
--   places k w                the places with bit 1, ascending, the first place counted as k
--   bit_distance w v           in how many places w and v differ
--   total f s                 the sum of f(x) over the list s
--   bit b                     the bit as a field element
--   word_value w x             the value of w at x
--   Codeword a t w            w is zero at a^1 to a^(2t)
--   CodewordWithin a t w v    v is a codeword as long as w, and differs from it in at most t places
--   locators a w              a^j for each place j with bit 1
--   DistinctPowers a n        a^0 to a^(n-1) are distinct and not 0
-- Assumes nothing.
use Rattle.std.specs.Prelude.{◌≡◌, ◌≢◌, Bool, true, false, List, [], ◌∷◌, map, ℕ, suc, ◌*◌, ◌≤◌, ◌<◌, length}
use Rattle.algebra.specs.Field.{Ops, power}
use Rattle.algebra.specs.Polynomial.{eval}

-- is one bit set, and not the other?
abbrev pub differs : Bool → Bool → Bool
differs false b = b
differs true false = true
differs true true = false

-- where w and v differ; past its end a word has zeros
unfoldable pub difference : List Bool → List Bool → List Bool
difference [] v = v
difference (b ∷ w) [] = b ∷ w
difference (b ∷ w) (c ∷ v) = differs b c ∷ difference w v

-- the places with bit 1, ascending, counted from k
unfoldable pub places : ℕ → List Bool → List ℕ
places k [] = []
places k (true ∷ w) = k ∷ places (suc k) w
places k (false ∷ w) = places (suc k) w

-- in how many places two words differ
abbrev pub bit_distance : List Bool → List Bool → ℕ
bit_distance w v = length (places 0 (difference w v))

module _ {K : Type 0} (F : Ops K) where
  -- the sum of f over a list
  unfoldable pub total : (K → K) → List K → K
  total f [] = F.zero
  total f (x ∷ s) = F.add (f x) (total f s)

  -- a bit as a field element
  abbrev pub bit : Bool → K
  bit true = F.one
  bit false = F.zero

  -- the value of a word at x
  abbrev pub word_value : List Bool → K → K
  word_value w x = eval F (map bit w) x

  -- zero at a^1 to a^(2t)
  abbrev pub Codeword : K → ℕ → List Bool → Type 0
  Codeword a t w = (i : ℕ) → 0 < i → i ≤ 2 * t → word_value w (power F a i) ≡ F.zero

  -- v is a codeword that differs from w in at most t places
  abbrev pub CodewordWithin : K → ℕ → List Bool → List Bool → Type 0
  CodewordWithin a t w v = (length v ≡ length w) × Codeword a t v × (bit_distance w v ≤ t)

  -- the locators of a word: a^j for each place j with bit 1
  abbrev pub locators : K → List Bool → List K
  locators a w = map (power F a) (places 0 w)

-- the powers of a are nonzero, and a^0 to a^(n-1) differ
pub record DistinctPowers {K : Type 0} (F : Ops K) (a : K) (n : ℕ) : Type 0 where
  pub nonzero : a ≢ F.zero
  pub apart : (i j : ℕ) → i < n → j < n → power F a i ≡ power F a j → i ≡ j
