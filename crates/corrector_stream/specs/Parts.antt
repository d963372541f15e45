-- What the parts of the code do. Inner contracts alone cite it: what is promised of a word does not rest on it.
--   laid c d     zeros, d from byte c on, and zeros: 256 bytes
--   Holds        what a codeword carries, if `pack` can have made it;  TakesOut  and the room afterwards
--   LastSet b    the last place with a byte that is not 0, if there is one
--   Padded b d   the bytes b are d, the end byte and zeros;  EndsAt  how long d is, if there is one
-- Assumes nothing.
use Rattle.std.specs.Prelude.{◌≡◌, Bool, List, ◌∷◌, ◌++◌, ℕ, ◌+◌, ◌-◌, ◌≤◌, ◌<◌, length, replicate, get_or, Option, Some, None, MatchOption}
use Rattle.slices.specs.Lists.{copied}
use Rattle.corrector_stream.specs.Words.{end_byte, Carries}
use Rattle.corrector_stream.specs.Calls.{held}
use Rattle.corrector_stream.specs.declared.Held.{Held}

-- zeros, the data, and zeros
abbrev pub laid : ℕ → List ℕ → List ℕ
laid c d = replicate c 0 ++ (d ++ replicate (256 - c - length d) 0)

-- what a codeword carries, if it carries something
pub data Holds (t : ℕ) (v : List ℕ) : Option Held → Type 0 where
  bytes : {d : List ℕ} {last : Bool} → Carries t v d last → Holds t v (held (length d) last)
  nothing : ((d : List ℕ) (last : Bool) → Carries t v d last → ⊥) → Holds t v None

-- the same, taken out into the room
pub data TakesOut (t : ℕ) (v room : List ℕ) : Option Held → List ℕ → Type 0 where
  strange : ((d : List ℕ) (last : Bool) → Carries t v d last → ⊥) → TakesOut t v room None room
  given : {d : List ℕ} {last : Bool} → Carries t v d last → TakesOut t v room (held (length d) last) (copied d room)

-- zeros alone from a place on
pub record ZerosFrom (b : List ℕ) (k : ℕ) : Type 0 where
  pub within : k ≤ length b
  pub zeros : (i : ℕ) → k ≤ i → get_or b i 0 ≡ 0

-- the last byte that is not 0
abbrev pub LastSet : List ℕ → Option ℕ → Type 0
LastSet b o = MatchOption o (ZerosFrom b 0) (λ k. ZerosFrom b (k + 1) × (get_or b k 0 ≡ 0 → ⊥))

-- d, the end byte and zeros
pub record Padded (b d : List ℕ) : Type 0 where
  pub shorter : length d < length b
  pub is : b ≡ d ++ end_byte ∷ replicate (length b - 1 - length d) 0

-- how long d is, if there is one
pub data EndsAt (b : List ℕ) : Option ℕ → Type 0 where
  at : {d : List ℕ} → Padded b d → EndsAt b (Some (length d))
  nowhere : ((d : List ℕ) → Padded b d → ⊥) → EndsAt b None
