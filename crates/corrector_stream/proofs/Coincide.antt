-- Two answers that a contract admits for one input are one, and so is every byte that they leave.
--   capacity-coincide, pack-coincide, unpack-coincide
-- Assumes nothing.
use mathlib.Core.Path.{◌≡◌, refl, sym, ap, ◌∙◌}
use mathlib.Core.Bool.{Bool}
use mathlib.Core.List.{List, [], ◌∷◌}
use Prim.Native.Nat.{ℕ}
use native.Mathlib.Omega.{arith}
use lib.ListN.{length, get_or}
use Rattle.std.specs.Prelude.{⊤, Option, None, Result, Err}
use Rattle.slices.specs.Lists.{copied}
use Rattle.refusals.specs.Numbers.{number_of}
use Rattle.refusals.specs.declared.Refusal.{Refusal}
use Rattle.refusals.proofs.Numbers.{by_number, refused-back}
use Rattle.corrector.specs.Correcting.{Corrects}
use Rattle.corrector.proofs.Coincide as correcting
use Rattle.corrector.proofs.Contract.{found-codeword}
use Rattle.corrector_encoder.proofs.Coincide as encoding
use Rattle.corrector_stream.specs.Words.{Carries}
use Rattle.corrector_stream.specs.Calls.{CapacityIs, Packs, Unpacks, answer}
use Rattle.corrector_stream.specs.Calls.CapacityIs.{of-strength, of_none}
use Rattle.corrector_stream.specs.Calls.Packs.{no_block, no-strength, unfit, packed}
use Rattle.corrector_stream.specs.Calls.Unpacks.{no_room, refused, strange, given}
use Rattle.corrector_stream.specs.declared.PackError.{PackError}
use Rattle.corrector_stream.specs.declared.Unpacked.{Unpacked}
use Rattle.corrector_stream.proofs.Shapes.{carried-unique}

pub capacity-coincide : {t : ℕ} {m n : Option ℕ} → CapacityIs t m → CapacityIs t n → m ≡ n
capacity-coincide (of-strength s) (of-strength r) = refl
capacity-coincide (of-strength s) (of_none x) = absurd (x s)
capacity-coincide (of_none x) (of-strength s) = absurd (x s)
capacity-coincide (of_none x) (of_none y) = refl

pub pack-coincide : {t : ℕ} {d : List ℕ} {last : Bool} {word : List ℕ} {r s : Result ⊤ PackError} {a b : List ℕ}
    → Packs t d last word r a → Packs t d last word s b → (r ≡ s) × (a ≡ b)
pack-coincide (no_block x) (no_block y) = (refl, refl)
pack-coincide (no_block x) (no-strength l y) = absurd (x l)
pack-coincide (no_block x) (unfit l s y) = absurd (x l)
pack-coincide (no_block x) (packed l s f y) = absurd (x l)
pack-coincide (no-strength l x) (no_block y) = absurd (y l)
pack-coincide (no-strength l x) (no-strength k y) = (refl, refl)
pack-coincide (no-strength l x) (unfit k s y) = absurd (x s)
pack-coincide (no-strength l x) (packed k s f y) = absurd (x s)
pack-coincide (unfit l s x) (no_block y) = absurd (y l)
pack-coincide (unfit l s x) (no-strength k y) = absurd (y s)
pack-coincide (unfit l s x) (unfit k r y) = (refl, refl)
pack-coincide (unfit l s x) (packed k r f y) = absurd (x f)
pack-coincide (packed l s f x) (no_block y) = absurd (y l)
pack-coincide (packed l s f x) (no-strength k y) = absurd (y s)
pack-coincide (packed l s f x) (unfit k r y) = absurd (y f)
pack-coincide (packed l s f x) (packed k r g y) = (refl, (encoding.outcomes-coincide x y).1)

-- a refusal is told by its number
refusal-told : (j k : Refusal) → number_of j ≡ number_of k → ◌≡◌ {A = Result Unpacked Refusal} (Err j) (Err k)
refusal-told j k e =
    let none : Result Unpacked Refusal = answer 0 None in
    sym (refused-back Err none j) ∙ ap (by_number Err none) e ∙ refused-back Err none k

-- what is turned away is not corrected
pub two_ways : {A : Type 0} {t k n : ℕ} {word u v : List ℕ} → Corrects t word (k, []) u
    → Corrects t word (0, n ∷ []) v → A
two_ways {A} {t} {k} {n} x y =
    let e = (correcting.outcomes-coincide x y).0 in
    let l : length {A = ℕ} [] ≡ length (n ∷ []) = ap (λ (o : ℕ × List ℕ). length o.1) e in
    absurd (omega arith)

-- the same flips and the same word
pub one_word : {t m n : ℕ} {word u v : List ℕ} → Corrects t word (0, m ∷ []) u → Corrects t word (0, n ∷ []) v
    → (m ≡ n) × (u ≡ v)
one_word x y = let e = correcting.outcomes-coincide x y in (ap (λ (o : ℕ × List ℕ). get_or o.1 0 0) e.0, e.1)

-- the same data
pub one-content : {t m n : ℕ} {word u v d e : List ℕ} {last more : Bool} → Corrects t word (0, m ∷ []) u
    → Corrects t word (0, n ∷ []) v → Carries t u d last → Carries t v e more → (d ≡ e) × (last ≡ more)
one-content {t} {m} {n} {word} {u} {v} {d} {e} {last} {more} x y c g =
    let b = found-codeword x refl in
    let w = (one_word x y).1 in
    carried-unique {e = e} {more = more} b.1 b.0 c (rw w g)

pub unpack-coincide : {t : ℕ} {word room : List ℕ} {r s : Result Unpacked Refusal} {a b p q : List ℕ} → Unpacks t word room r a p
    → Unpacks t word room s b q → (r ≡ s) × (a ≡ b) × (p ≡ q)
unpack-coincide (no_room s x) (no_room r y) = (refl, refl, refl)
unpack-coincide (no_room s x) (refused o y) = absurd (let h = o s in omega arith)
unpack-coincide (no_room s x) (strange o y z) = absurd (let h = o s in omega arith)
unpack-coincide (no_room s x) (given o y z) = absurd (let h = o s in omega arith)
unpack-coincide (refused o x) (no_room s y) = absurd (let h = o s in omega arith)
unpack-coincide (refused {k = j} o x) (refused {k = k} i y) =
    let e = correcting.outcomes-coincide x y in
    (refusal-told j k (ap (λ (u : ℕ × List ℕ). u.0) e.0), e.1, refl)
unpack-coincide (refused o x) (strange i y z) = two_ways x y
unpack-coincide (refused o x) (given i y z) = two_ways x y
unpack-coincide (strange o x z) (no_room s y) = absurd (let h = o s in omega arith)
unpack-coincide (strange o x z) (refused i y) = two_ways y x
unpack-coincide (strange o x z) (strange i y w) = let e = one_word x y in (ap (λ (n : ℕ). answer n None) e.0, e.1, refl)
unpack-coincide (strange o x z) (given {d = d} {last = last} i y c) =
    absurd (let e = one_word x y in z d last (rw e.1 c))
unpack-coincide (given o x c) (no_room s y) = absurd (let h = o s in omega arith)
unpack-coincide (given o x c) (refused i y) = two_ways y x
unpack-coincide (given {d = d} {last = last} o x c) (strange i y z) =
    absurd (let e = one_word y x in z d last (rw e.1 c))
unpack-coincide {room = room} (given {n = m} {d = d} {last = last} o x c) (given {n = n} {d = e} {last = more} i y g) =
    let w = one_word x y in
    let u = one-content x y c g in
    let p = u.0 in
    let q = u.1 in
    let f = w.0 in
    (cc (ap length p), w.1, ap (λ (l : List ℕ). copied l room) p)
