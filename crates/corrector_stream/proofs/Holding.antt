-- What the tests of a block's bytes say of what it carries.
--   holds-spare      a bit between the check bits and the data is set
--   holds-full       the mark is 0: a full word
--   holds-mark       the mark is neither 0 nor 1
--   holds-last       the mark is 1, and the data end there;  holds-nowhere  or nowhere
--   Taken, held-carries   so many bytes behind the check bits are what the block carries, and no more than fit
--   held-nothing     it carries nothing
--   taken_out        these bytes, copied to the room
--   corrected-as     the corrector's outcome, said otherwise
--   unpacked         so what `unpack` answers of a codeword
--   cramped, roomy   the room is too short, or not, by what `capacity` answers
-- Assumes nothing.
use mathlib.Core.Path.{◌≡◌, refl, sym, ap, ap₂, ◌∙◌, subst}
use mathlib.Core.Bool.{Bool, true, false}
use mathlib.Core.List.{List, [], ◌∷◌, ◌++◌}
use Prim.Native.Nat.{ℕ, zero, suc, ◌+◌, ◌-◌, ◌^◌, ◌≤◌, ◌<◌}
use native.Mathlib.Omega.{arith}
use lib.ListN.{length, get_or, take, drop, length-drop}
use lib.Seq.{length-take-le, get_or-drop}
use Rattle.slices.specs.Lists.{copied}
use Rattle.corrector.specs.Correcting.{IsBlock, IsStrength, Corrects}
use Rattle.corrector_stream.specs.Words.{data_start, capacity, Fits, carried, Carries}
use Rattle.corrector_stream.specs.Calls.{CapacityIs, Roomy, Unpacks, held, answer}
use Rattle.corrector_stream.specs.Parts.{EndsAt, Holds, TakesOut}
use Rattle.corrector_stream.specs.Calls.CapacityIs.{of-strength, of_none}
use Rattle.corrector_stream.specs.Parts.TakesOut.{strange as out-strange, given as out-given}
use Rattle.corrector_stream.specs.Calls.Unpacks.{strange, given}
use Rattle.corrector_stream.specs.Parts.EndsAt.{at, nowhere}
use Rattle.corrector_stream.specs.Parts.Holds.{bytes, nothing}
use Rattle.std.specs.Prelude.{Option, Some, None}
use Rattle.std.specs.Option.{unwrap_or}
use Rattle.corrector_stream.specs.declared.Held.{Held}
use Rattle.corrector_stream.proofs.Contents.{AreBytes, start-most, mark-small, fits-short}
use Rattle.corrector_stream.proofs.Ends.{padded-front}
use Rattle.corrector_stream.proofs.Shapes.{check_bits, carries-shape, shape-carries, shape-mark}
use Rattle.corrector_stream.proofs.Shapes.{shape-carried, shape-data, whole-shape, carried-padded}
use Rattle.corrector_stream.proofs.Shapes.{padded-carried}

-- a part of bytes is bytes
bytes_take : (n : ℕ) (l : List ℕ) → AreBytes l → AreBytes (take n l)
bytes_take zero l u k = omega arith
bytes_take (suc n) [] u k = omega arith
bytes_take (suc n) (x ∷ l) u zero = u 0
bytes_take (suc n) (x ∷ l) u (suc k) = bytes_take n l (λ j. u (suc j)) k

bytes_drop : (n : ℕ) (l : List ℕ) → AreBytes l → AreBytes (drop n l)
bytes_drop n l u k = let e = get_or-drop n l k 0 in let h = u (n + k) in omega arith

module _ {t : ℕ} {v : List ℕ} (s : IsStrength t) (b : IsBlock v) where
  -- the bytes between the check bits and the mark
  middle : List ℕ
  middle = take (capacity t) (drop (data_start t) v)

  length-middle : length middle ≡ capacity t
  unfolding middle
  length-middle =
      length-take-le (capacity t) (drop (data_start t) v)
      (let m = start-most s in let a = length-drop (data_start t) v in let c = b.long in omega arith)

  bytes-middle : AreBytes middle
  unfolding middle
  bytes-middle = bytes_take (capacity t) (drop (data_start t) v) (bytes_drop (data_start t) v b.bytes)

  -- a bit between the check bits and the data
  pub holds-spare : 2 ^ check_bits t ≤ get_or v (data_start t - 1) 0 → Holds t v None
  holds-spare h = nothing (λ d last c. let l = (carries-shape s b c).low in let z : ⊥ = omega arith in z)

  -- a full word
  pub holds-full : get_or v (data_start t - 1) 0 < 2 ^ check_bits t → get_or v 255 0 ≡ 0
      → Holds t v (held (capacity t) false)
  unfolding carried middle
  holds-full l m =
      let f : Fits t middle false = record { bytes = bytes-middle; fill = length-middle } in
      let c : Carries t v middle false = shape-carries s b f (whole-shape s b l refl m) in
      subst (λ (n : ℕ). Holds t v (held n false)) length-middle (bytes c)

  -- no mark
  pub holds-mark : 1 < get_or v 255 0 → Holds t v None
  holds-mark h =
      nothing (λ d last c. let m = shape-mark s b c.fits (carries-shape s b c) in let l =
      mark-small last in let z : ⊥ = omega arith in z)

  -- the last word
  pub holds-last : {r : Option ℕ} {n : ℕ} → get_or v (data_start t - 1) 0 < 2 ^ check_bits t → get_or v 255 0 ≡ 1
      → EndsAt (take (capacity t) (drop (data_start t) v)) r → r ≡ Some n → Holds t v (held n true)
  unfolding middle
  holds-last {n = n} l m (at {d} p) e =
      let k : length d ≡ n = cc in
      let q = p.shorter in
      let x = length-middle in
      let f : Fits t d true = record {
        bytes = subst AreBytes (padded-front p) (bytes_take (length d) middle bytes-middle);
        fill = omega arith;
      } in
      subst (λ (i : ℕ). Holds t v (held i true)) k
      (bytes (shape-carries s b f (whole-shape s b l (padded-carried t length-middle p) m)))
  holds-last l m (nowhere x) e = absurd (cc)

  -- its data end nowhere
  pub holds-nowhere : {r : Option ℕ} → get_or v 255 0 ≡ 1 → EndsAt (take (capacity t) (drop (data_start t) v)) r → r ≡ None
      → Holds t v None
  unfolding middle
  holds-nowhere m (at p) e = absurd (cc)
  holds-nowhere m (nowhere x) e = nothing none
    where
      none : (d : List ℕ) (last : Bool) → Carries t v d last → ⊥
      none d true c = x d (carried-padded length-middle c.fits (shape-carried s b c.fits (carries-shape s b c)))
      none d false c = let k = shape-mark s b c.fits (carries-shape s b c) in omega arith

-- what a block holds, as data
pub record Taken (t : ℕ) (v : List ℕ) (n : ℕ) (last : Bool) : Type 0 where
  pub short : n ≤ capacity t
  pub carries : Carries t v (take n (drop (data_start t) v)) last
  pub long : length (take n (drop (data_start t) v)) ≡ n

-- so many bytes behind the check bits
pub held-carries : {t : ℕ} {v : List ℕ} {h : Held} {r : Option Held} → IsStrength t → IsBlock v → Holds t v r → r ≡ Some h
    → Taken t v h.bytes h.last
held-carries {t} {v} {h} s b (bytes {d = d} {last = more} c) e =
    let q : ◌≡◌ {A = Held} (record { bytes = length d; last = more }) h = cc in
    let k : length d ≡ h.bytes = ap (λ (x : Held). x.bytes) q in
    let m : more ≡ h.last = ap (λ (x : Held). x.last) q in
    let x : take h.bytes (drop (data_start t) v) ≡ d =
    ap (λ (i : ℕ). take i (drop (data_start t) v)) (sym k) ∙ shape-data more (carries-shape s b c) in
    record {
      short = (let f = fits-short more c.fits in omega arith);
      carries = rw (x, ← m) c;
      long = ap length x ∙ k;
    }
held-carries s b (nothing x) e = absurd (cc)

-- nothing
pub held-nothing : {t : ℕ} {v : List ℕ} {r : Option Held} → Holds t v r → r ≡ None → (d : List ℕ) (last : Bool)
    → Carries t v d last → ⊥
held-nothing (bytes c) e = absurd (cc)
held-nothing (nothing x) e = x

-- copied to the room
pub taken_out : {t start n : ℕ} {v room y : List ℕ} {h : Held} → Taken t v h.bytes h.last → start ≡ data_start t
    → start + h.bytes - start ≡ n → y ≡ take n (drop start v) → TakesOut t v room (Some h) (y ++ drop h.bytes room)
unfolding copied
taken_out {t} {start} {n} {v} {room} {y} {h} w e m a =
    let d : List ℕ = take h.bytes (drop (data_start t) v) in
    let k : n ≡ h.bytes = omega arith in
    let p : y ≡ d = a ∙ ap₂ (λ (j i : ℕ). take j (drop i v)) k e in
    let q : y ++ drop h.bytes room ≡ copied d room =
    ap (λ (l : List ℕ). l ++ drop h.bytes room) p ∙ ap (λ (i : ℕ). d ++ drop i room) (sym w.long) in
    rw q (subst (λ (i : ℕ). TakesOut t v room (held i h.last) (copied d room)) w.long (out-given w.carries))

-- the corrector's outcome, said otherwise
pub corrected-as : {t : ℕ} {word v : List ℕ} {o p : ℕ × List ℕ} → Corrects t word o v → o ≡ p → Corrects t word p v
corrected-as {t} {word} {v} c e = subst (λ (q : ℕ × List ℕ). Corrects t word q v) e c

-- what `unpack` answers of a codeword
pub unpacked : {t n : ℕ} {word v room after : List ℕ} {r : Option Held} → Roomy t room → Corrects t word (0, n ∷ []) v
    → TakesOut t v room r after → Unpacks t word room (answer n r) v after
unpacked o c (out-strange x) = strange o c x
unpacked o c (out-given x) = given o c x

-- the room is too short
pub cramped : {t n : ℕ} {r : Option ℕ} → CapacityIs t r → n < unwrap_or r 0 → IsStrength t × (n < capacity t)
cramped (of-strength s) h = (s, h)
cramped (of_none x) h = absurd (omega arith)

-- or not
pub roomy : {t : ℕ} {r : Option ℕ} (room : List ℕ) → CapacityIs t r → unwrap_or r 0 ≤ length room → Roomy t room
roomy room (of-strength s) h = λ q. h
roomy room (of_none x) h = λ q. absurd (x q)
