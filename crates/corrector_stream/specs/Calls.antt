-- What the calls answer, for every input.
--   CapacityIs   THE CONTRACT of `capacity`: how many bytes of data a word of a strength carries; none for no strength
--   Packs        THE CONTRACT of `pack`: the answer for a strength, data and whether the word is the last, and what the
--                lent word holds afterwards
--   Roomy        the room holds the data of a word;  held, answer  what a word carries, and what `unpack` says of it
--   Unpacks      THE CONTRACT of `unpack`: the answer for a strength, a word and a room, and what the word and the room
--                hold afterwards
-- Assumes nothing.
use Rattle.std.specs.Prelude.{◌≡◌, Bool, List, [], ◌∷◌, ℕ, ◌*◌, ◌≤◌, ◌<◌, length, ⊤, Option, Some, None, Result, Ok, Err}
use Rattle.slices.specs.Lists.{copied}
use Rattle.refusals.specs.Numbers.{number_of}
use Rattle.refusals.specs.declared.Refusal.{Refusal}
use Rattle.refusals.specs.declared.Refusal.TheVariants.{Room, Block, Strength}
use Rattle.corrector.specs.Correcting.{IsStrength, Corrects}
use Rattle.corrector_encoder.specs.Encoding.{Encodes}
use Rattle.corrector_stream.specs.Words.{capacity, Fits, content, Carries}
use Rattle.corrector_stream.specs.declared.Held.{Held}
use Rattle.corrector_stream.specs.declared.PackError.{PackError}
use Rattle.corrector_stream.specs.declared.PackError.TheVariants.{Unfit, Refused}
use Rattle.corrector_stream.specs.declared.Unpacked.{Unpacked}

-- none for no strength
pub data CapacityIs (t : ℕ) : Option ℕ → Type 0 where
  of-strength : IsStrength t → CapacityIs t (Some (capacity t))
  of_none : (IsStrength t → ⊥) → CapacityIs t None

-- the first that applies: no 256 bytes, no strength, data that do not fill a word, and the word as it was; else the
-- word becomes what the encoder makes of the content
pub data Packs (t : ℕ) (d : List ℕ) (last : Bool) (word : List ℕ) : Result ⊤ PackError → List ℕ → Type 0 where
  no_block : (length word ≡ 256 → ⊥) → Packs t d last word (Err (Refused Block)) word
  no-strength : length word ≡ 256 → (IsStrength t → ⊥) → Packs t d last word (Err (Refused Strength)) word
  unfit : length word ≡ 256 → IsStrength t → (Fits t d last → ⊥) → Packs t d last word (Err Unfit) word
  packed : {v : List ℕ} → length word ≡ 256 → IsStrength t → Fits t d last
      → Encodes t (content t d last) (0, 11 * t ∷ []) v → Packs t d last word (Ok tt) v

-- the room holds the data of a word of strength t
abbrev pub Roomy : ℕ → List ℕ → Type 0
Roomy t room = IsStrength t → capacity t ≤ length room

-- so many bytes of data, the last of a stream or not
abbrev pub held : ℕ → Bool → Option Held
held n last = Some (record { bytes = n; last = last })

-- so many flips, and what a codeword carries
abbrev pub answer : ℕ → Option Held → Result Unpacked Refusal
answer n h = Ok (record { flips = n; held = h })

-- the first that applies: too little room, what the corrector turns away, a codeword that carries nothing; else the
-- data stand at the front of the room. The word becomes what the corrector makes of it
pub data Unpacks (t : ℕ) (word room : List ℕ) : Result Unpacked Refusal → List ℕ → List ℕ → Type 0 where
  no_room : IsStrength t → length room < capacity t → Unpacks t word room (Err Room) word room
  refused : {k : Refusal} {v : List ℕ} → Roomy t room → Corrects t word (number_of k, []) v
      → Unpacks t word room (Err k) v room
  strange : {n : ℕ} {v : List ℕ} → Roomy t room → Corrects t word (0, n ∷ []) v
      → ((d : List ℕ) (last : Bool) → Carries t v d last → ⊥) → Unpacks t word room (answer n None) v room
  given : {n : ℕ} {v d : List ℕ} {last : Bool} → Roomy t room → Corrects t word (0, n ∷ []) v → Carries t v d last
      → Unpacks t word room (answer n (held (length d) last)) v (copied d room)
