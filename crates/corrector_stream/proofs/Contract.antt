-- What the contracts say, from the contracts alone.
--   packed-carries   what was packed carries the data and the mark
--   fit-exactly      data that fill a word are packed
--   damaged-back     THE ROUND TRIP: packed, damaged in at most t bits and unpacked, data and mark come back, and as
--                    many flips are told as bits differ
--   packed-back      so undamaged, with 0 flips
--   capacity-most    no word carries more than 253 bytes
--   given-short      no more bytes of data are told than the room has
-- Assumes nothing.
use mathlib.Core.Path.{◌≡◌, refl, sym, ap, ◌∙◌}
use mathlib.Core.Bool.{Bool}
use mathlib.Core.List.{List, [], ◌∷◌}
use Prim.Native.Nat.{ℕ, ◌*◌, ◌≤◌}
use native.Mathlib.Omega.{arith}
use lib.ListN.{length, get_or, take}
use Rattle.std.specs.Prelude.{⊤, Option, Some, None, Result, Ok}
use Rattle.refusals.specs.declared.Refusal.{Refusal}
use Rattle.slices.proofs.Lists.{copied-front}
use Rattle.corrector.specs.Correcting.{distance, IsBlock, IsStrength}
use Rattle.corrector.proofs.Blocks.{distance_self}
use Rattle.corrector.proofs.Contract.{found-codeword}
use Rattle.corrector_encoder.specs.Encoding.{Encodes}
use Rattle.corrector_encoder.proofs.Contract as encoder
use Rattle.corrector_stream.specs.Words.{capacity, Fits, content, Carries}
use Rattle.corrector_stream.specs.Calls.{CapacityIs, Packs, Unpacks, held, answer}
use Rattle.corrector_stream.specs.Calls.CapacityIs.{of-strength, of_none}
use Rattle.corrector_stream.specs.Calls.Packs.{no_block, no-strength, unfit, packed}
use Rattle.corrector_stream.specs.Calls.Unpacks.{no_room, refused, strange, given}
use Rattle.corrector_stream.specs.declared.PackError.{PackError}
use Rattle.corrector_stream.specs.declared.Held.{Held}
use Rattle.corrector_stream.specs.declared.Unpacked.{Unpacked}
use Rattle.corrector_stream.proofs.Contents.{start-least, fits-short}
use Rattle.corrector_stream.proofs.Shapes.{carried-unique}

-- the encoder keeps what the content holds
encoded-carries : {t : ℕ} {d v : List ℕ} {last : Bool} → Fits t d last → Encodes t (content t d last) (0, 11 * t ∷ []) v
    → IsStrength t × IsBlock v × Carries t v d last
encoded-carries f e =
    let h = encoder.encoded-codeword e refl in (h.0, h.1.block, record { fits = f; same = h.1.kept })

-- what was packed carries the data and the mark
pub packed-carries : {t : ℕ} {d word v : List ℕ} {last : Bool} → Packs t d last word (Ok tt) v
    → IsStrength t × IsBlock v × Carries t v d last
packed-carries (packed l s f e) = encoded-carries f e

-- data that fill a word are packed
pub fit-exactly : {t : ℕ} {d word v : List ℕ} {last : Bool} {r : Result ⊤ PackError} → length word ≡ 256 → IsStrength t
    → Fits t d last
    → Packs t d last word r v → r ≡ Ok tt
fit-exactly l s f (no_block x) = absurd (x l)
fit-exactly l s f (no-strength k x) = absurd (x s)
fit-exactly l s f (unfit k r x) = absurd (x f)
fit-exactly l s f (packed k r g x) = refl

-- what comes back of a word that was packed and damaged
pub record Back (t : ℕ) (d : List ℕ) (last : Bool) (v damaged : List ℕ) (r : Result Unpacked Refusal)
    (again after : List ℕ) : Type 0 where
  pub answer : r ≡ answer (distance damaged v) (held (length d) last)
  pub word : again ≡ v
  pub front : take (length d) after ≡ d

-- THE ROUND TRIP
pub damaged-back : {t : ℕ} {d word v damaged room again after : List ℕ} {last : Bool} {r : Result Unpacked Refusal}
    → Packs t d last word (Ok tt) v → IsBlock damaged → distance damaged v ≤ t → capacity t ≤ length room
    → Unpacks t damaged room r again after → Back t d last v damaged r again after
damaged-back p b n o (no_room s x) = absurd (omega arith)
damaged-back {v = v} {damaged = damaged} (packed l s f e) b n o (refused {k = k} i x) =
    let g = (encoder.damaged-correct e b n x).0 in
    let z : length {A = ℕ} [] ≡ length (distance damaged v ∷ []) = ap (λ (u : ℕ × List ℕ). length u.1) g in
    absurd (omega arith)
damaged-back {d = d} {last = last} (packed l s f e) b n o (strange i x z) =
    let g = encoder.damaged-correct e b n x in
    let c = (encoded-carries f e).2 in
    absurd (z d last (rw g.1 c))
damaged-back {t} {d} {v = v} {damaged = damaged} {room = room} {last = last} (packed l s f e) b n o
    (given {n = m} {v = again} {d = found} {last = more} i x g) =
    let h = encoder.damaged-correct e b n x in
    let c = encoded-carries f e in
    let w = h.1 in
    let u = carried-unique {e = found} {more = more} c.0 c.1 c.2 (rw (sym w) g) in
    let p = u.0 in
    let q = u.1 in
    let k : m ≡ distance damaged v = ap (λ (o : ℕ × List ℕ). get_or o.1 0 0) h.0 in
    record {
      answer = cc (ap length p);
      word = w;
      front = rw p (copied-front found room refl);
    }

-- and undamaged
pub packed-back : {t : ℕ} {d word v room again after : List ℕ} {last : Bool} {r : Result Unpacked Refusal} → Packs t d last word (Ok tt) v
    → capacity t ≤ length room → Unpacks t v room r again after
    → (r ≡ answer 0 (held (length d) last)) × (again ≡ v) × (take (length d) after ≡ d)
packed-back {t} {d} {v = v} {last = last} p o x =
    let c = packed-carries p in
    let z = distance_self v in
    let h = damaged-back p c.1 (omega arith) o x in
    (h.answer ∙ ap (λ (n : ℕ). answer n (held (length d) last)) z, h.word, h.front)

-- no word carries more than 253 bytes
pub capacity-most : {t n : ℕ} {r : Option ℕ} → CapacityIs t r → r ≡ Some n → n ≤ 253
capacity-most {t} {n} (of-strength s) e = let h = start-least s in let k : capacity t ≡ n = cc in omega arith
capacity-most (of_none x) e = absurd (cc)

-- what is told of data says how many bytes they are
told : {j k m n : ℕ} {last more : Bool} → answer j (held m last) ≡ answer k (held n more) → m ≡ n
told {j} {k} {m} {n} {last} {more} e =
    let u : ◌≡◌ {A = Unpacked} (record { flips = j; held = held m last }) (record { flips = k; held = held n more }) = cc in
    let h : held m last ≡ held n more = ap (λ (x : Unpacked). x.held) u in
    let g : ◌≡◌ {A = Held} (record { bytes = m; last = last }) (record { bytes = n; last = more }) = cc in
    ap (λ (x : Held). x.bytes) g

-- no more bytes of data are told than the room has
pub given-short : {t n m : ℕ} {word room v after : List ℕ} {last : Bool} {r : Result Unpacked Refusal} → Unpacks t word room r v after
    → r ≡ answer m (held n last) → n ≤ length room
given-short (no_room s x) e = absurd (cc)
given-short (refused o x) e = absurd (cc)
given-short {n = n} {m = m} {last = last} (strange {n = k} o x y) e =
    let z : ◌≡◌ {A = Unpacked} (record { flips = k; held = None }) (record { flips = m; held = held n last }) = cc in
    absurd (let y : None ≡ held n last = ap (λ (u : Unpacked). u.held) z in cc)
given-short {n = n} (given {d = d} {last = last} o x c) e =
    let k : length d ≡ n = told e in
    let h = o (found-codeword x refl).1 in
    let f = fits-short last c.fits in
    omega arith
