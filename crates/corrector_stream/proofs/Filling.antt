-- How a word is filled: zeros, the data over them, and in the last word the end byte and the mark.
--   laid_out    data copied over zeros
--   laid-full   where the data fill the word, that is the content
--   laid-last   in the last word with the end byte and the mark
--   filled-full, filled-last   so, as the code has them
--   sized, unsized   what has a capacity is a strength, and what has none is not
--   passed-as   the error that a `?` passes on
--   pack-done   what the encoder makes of the content;  pack-never  it turns none away
-- Assumes nothing.
use mathlib.Core.Path.{◌≡◌, refl, sym, ap, ap₂, ◌∙◌, subst}
use mathlib.Core.Bool.{Bool, true, false}
use mathlib.Core.List.{List, [], ◌∷◌, ◌++◌, append_assoc}
use Prim.Native.Nat.{ℕ, suc, ◌+◌, ◌-◌, ◌*◌, ◌≤◌}
use native.Mathlib.Omega.{arith}
use borrow.Rule.Slice.PartMut.{put_mid}
use lib.ListN.{length, take, drop, set, replicate, length-append, length-replicate, replicate-append-replicate}
use lib.Seq.{set_at}
use Rattle.std.specs.Prelude.{Option, Result, Ok, Err, IsErrAnd}
use Rattle.std.specs.Option.{ok_or}
use Rattle.refusals.specs.declared.Refusal.{Refusal}
use Rattle.refusals.specs.declared.Refusal.TheVariants.{Strength}
use Rattle.slices.proofs.Lists.{take-zeros, drop-zeros}
use Rattle.corrector.specs.Correcting.{IsStrength}
use Rattle.corrector_encoder.specs.Encoding.{Encodes}
use Rattle.corrector_encoder.proofs.Contract.{encoded-exactly}
use Rattle.corrector_stream.specs.Words.{data_start, capacity, end_byte, Fits, carried, content}
use Rattle.corrector_stream.specs.Parts.{laid}
use Rattle.corrector_stream.specs.Calls.{CapacityIs, Packs}
use Rattle.corrector_stream.specs.Calls.CapacityIs.{of-strength, of_none}
use Rattle.corrector_stream.specs.Calls.Packs.{packed}
use Rattle.corrector_stream.specs.declared.PackError.{PackError}
use Rattle.corrector_stream.proofs.Contents.{start-most, content-block}

-- data copied over the zeros of a word
pub laid_out : (c : ℕ) (d w : List ℕ) {z y : List ℕ} {k : ℕ} → length w ≡ 256 → z ≡ replicate (length w) 0 → y ≡ d → k ≡ length d
    → c + length d ≤ 256 → put_mid c k z y ≡ laid c d
laid_out c d w {z} {y} {k} l f g n h =
    let e : z ≡ replicate 256 0 = f ∙ ap (λ (n : ℕ). replicate n 0) l in
    let p : take c z ≡ replicate c 0 = ap (take c) e ∙ take-zeros c 256 (omega arith) in
    let q : drop k (drop c z) ≡ replicate (256 - c - length d) 0 =
    ap₂ (λ (m : ℕ) (r : List ℕ). drop m (drop c r)) n e ∙ ap (drop (length d)) (drop-zeros c 256) ∙ drop-zeros (length d) (256 - c) in
    ap₂ (λ (a b : List ℕ). a ++ b) p (ap₂ (λ (a b : List ℕ). a ++ b) g q)

-- where the data fill the word
pub laid-full : {t : ℕ} {d : List ℕ} → IsStrength t → Fits t d false → laid (data_start t) d ≡ content t d false
unfolding content carried
laid-full {t} {d} s f =
    let m = start-most s in
    let h = f.fill in
    let e : 256 - data_start t - length d ≡ 1 = omega arith in
    ap (λ (k : ℕ). replicate (data_start t) 0 ++ (d ++ replicate k 0)) e

-- the end byte and the mark over zeros
marked : (p : List ℕ) (m x : ℕ) → length p + m ≡ 254
    → set (set (p ++ 0 ∷ replicate (m + 1) 0) (length p) x) 255 1 ≡ p ++ (x ∷ replicate m 0 ++ 1 ∷ [])
marked p m x h =
    let l : length (p ++ x ∷ replicate m 0) ≡ 255 =
    length-append p (x ∷ replicate m 0) ∙ (let e = length-replicate {A = ℕ} m 0 in omega arith) in
    ap (λ (w : List ℕ). set w 255 1)
    (set_at p 0 (replicate (m + 1) 0) x (length p) refl
    ∙ ap (λ (w : List ℕ). p ++ x ∷ w) (sym (replicate-append-replicate m 1 0))
    ∙ sym (append_assoc p (x ∷ replicate m 0) (0 ∷ [])))
    ∙ set_at (p ++ x ∷ replicate m 0) 0 [] 1 255 l ∙ append_assoc p (x ∷ replicate m 0) (1 ∷ [])

-- zeros and data in front, n zeros behind
fronted : (z d : List ℕ) {n : ℕ} (m : ℕ) → n ≡ suc (m + 1)
    → z ++ (d ++ replicate n 0) ≡ (z ++ d) ++ 0 ∷ replicate (m + 1) 0
fronted z d {n} m e = sym (append_assoc z d (replicate n 0)) ∙ ap (λ (k : ℕ). (z ++ d) ++ replicate k 0) e

-- the last word
pub laid-last : {t : ℕ} {d : List ℕ} → IsStrength t → Fits t d true
    → set (set (laid (data_start t) d) (data_start t + length d) end_byte) 255 1 ≡ content t d true
unfolding content carried
laid-last {t} {d} s f =
    let m = start-most s in
    let h = f.fill in
    let z = length-replicate {A = ℕ} (data_start t) 0 in
    let k : data_start t + length d ≡ length (replicate {A = ℕ} (data_start t) 0 ++ d) =
    (let e = length-append (replicate (data_start t) 0) d in omega arith) in
    let e : 256 - data_start t - length d ≡ suc (capacity t - 1 - length d + 1) = omega arith in
    ap₂ (λ (w : List ℕ) (i : ℕ). set (set w i end_byte) 255 1)
    (fronted (replicate (data_start t) 0) d (capacity t - 1 - length d) e) k
    ∙ marked (replicate (data_start t) 0 ++ d) (capacity t - 1 - length d) end_byte (omega arith)
    ∙ append_assoc (replicate (data_start t) 0) d (end_byte ∷ replicate (capacity t - 1 - length d) 0 ++ 1 ∷ [])
    ∙ ap (λ (w : List ℕ). replicate (data_start t) 0 ++ w)
    (sym (append_assoc d (end_byte ∷ replicate (capacity t - 1 - length d) 0) (1 ∷ [])))

-- a full word
pub filled-full : {t c : ℕ} {d w : List ℕ} {last : Bool} → IsStrength t → Fits t d last → last ≡ false → c ≡ data_start t
    → w ≡ laid c d → w ≡ content t d last
filled-full {t} {c} {d} {w} s f l e h =
    h ∙ ap (λ (k : ℕ). laid k d) e ∙ laid-full s (subst (Fits t d) l f) ∙ ap (content t d) (sym l)

-- the last one
pub filled-last : {t c : ℕ} {d w : List ℕ} {last : Bool} → IsStrength t → Fits t d last → last ≡ true → c ≡ data_start t
    → w ≡ laid c d → set (set w (c + length d) end_byte) 255 1 ≡ content t d last
filled-last {t} {c} {d} {w} s f l e h =
    ap₂ (λ (v : List ℕ) (k : ℕ). set (set v (k + length d) end_byte) 255 1) (h ∙ ap (λ (k : ℕ). laid k d) e) e
    ∙ laid-last s (subst (Fits t d) l f) ∙ ap (content t d) (sym l)

-- what has a capacity is a strength
pub sized : {t n : ℕ} {r : Option ℕ} {q : Result ℕ Refusal} → CapacityIs t r → q ≡ ok_or r Strength → q ≡ Ok n
    → IsStrength t × (n ≡ capacity t)
sized (of-strength s) e h = (s, cc)
sized (of_none x) e h = absurd (cc)

-- and what has none is no strength
pub unsized : {t : ℕ} {r : Option ℕ} {q : Result ℕ Refusal} {k : Refusal} → CapacityIs t r → q ≡ ok_or r Strength → q ≡ Err k
    → (IsStrength t → ⊥) × (k ≡ Strength)
unsized (of-strength s) e h = absurd (cc)
unsized (of_none x) e h = (x, cc)

-- the error that a `?` passes on
pub passed-as : {A : Type 0} (r : Result A PackError) {k : PackError} → IsErrAnd r (λ j. j ≡ k) → r ≡ Err k
passed-as (Ok a) h = absurd h
passed-as (Err j) h = ap Err h

-- what the encoder makes of the content
pub pack-done : {t : ℕ} {d word w v : List ℕ} {last : Bool} {o : ℕ × List ℕ} → length word ≡ 256 → IsStrength t
    → Fits t d last → w ≡ content t d last → Encodes t w o v → Packs t d last word (Ok tt) v
pack-done {t} {d} {word} {w} {v} {last} {o} l s f e h =
    let g : Encodes t (content t d last) o v = subst (λ (c : List ℕ). Encodes t c o v) e h in
    packed l s f
    (subst (λ (p : ℕ × List ℕ). Encodes t (content t d last) p v) (encoded-exactly (content-block s f) s g) g)

-- the encoder turns no content away
pub pack-never : {A : Type 0} {t k : ℕ} {d w v : List ℕ} {last : Bool} → IsStrength t → Fits t d last → w ≡ content t d last
    → Encodes t w (k, []) v → A
pack-never {A} {t} {k} {d} {w} {v} {last} s f e h =
    let g : Encodes t (content t d last) (k, []) v = subst (λ (c : List ℕ). Encodes t c (k, []) v) e h in
    let z : length {A = ℕ} [] ≡ length (11 * t ∷ []) = ap (λ (o : ℕ × List ℕ). length o.1) (encoded-exactly (content-block s f) s g) in
    absurd (omega arith)
