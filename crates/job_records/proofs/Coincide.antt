-- Two answers that the reader's contract admits coincide: an answer is told by its number and values.
--   read-back       the answer that an outcome stands for, taken back
--   read_told       two answers with one outcome are one
--   read-coincide   so for `read_record`
--   halts-once      so for `read_through`
--   spelled-once    two outcomes of `coefficients` are one
-- Assumes nothing.
use mathlib.Core.Path.{◌≡◌, refl, sym, ap, subst, ◌∙◌}
use mathlib.Core.List.{List, [], ◌∷◌}
use Prim.Native.Nat.{ℕ, ◌+◌}
use Rattle.refusals.proofs.Numbers.{by_number, refused-back}
use Rattle.refusals.proofs.Told.{way_back}
use Rattle.job_records.specs.Reading.{Outcome, told_read, ReadsAt, Spelled}
use Rattle.job_records.specs.Files.{Halts}
use Rattle.job_records.specs.Files.Halts.{over, stop, on}
use Rattle.job_records.specs.declared.Stop.{Stop}
use Rattle.std.specs.Prelude.{⊤, Result, Err}
use Rattle.refusals.specs.declared.Refusal.{Refusal}
use Rattle.job_records.proofs.Forward.{never}
use Rattle.job_records.proofs.Cutoffs.{cutoff_from, cutoff-back}
use Rattle.job_records.specs.declared.Read.{Read}
use Rattle.job_records.specs.declared.Read.TheVariants.{End, Record, Refused, Stopped}

-- the answer that a number and its values stand for
answer_from : ℕ → List ℕ → Read
answer_from k [] = by_number Stopped End k
answer_from k (next ∷ []) = by_number (λ r. Refused r next) End k
answer_from k (next ∷ m ∷ []) = End
answer_from k (next ∷ m ∷ start ∷ []) = End
answer_from k (next ∷ m ∷ start ∷ len ∷ cs) = Record (record { m = m; cutoff = cutoff_from cs; start = start; len = len; next = next })

answer_of : Outcome → Read
answer_of Outcome.ends = End
answer_of (Outcome.gives k values) = answer_from k values

read_back : (r : Read) → answer_of (told_read r) ≡ r
unfolding answer_of answer_from
read_back End = refl
read_back (Record j) =
    ap (λ c. Record (record { m = j.m; cutoff = c; start = j.start; len = j.len; next = j.next })) (cutoff-back j.cutoff)
read_back (Refused k next) = refused-back (λ r. Refused r next) End k
read_back (Stopped k) = refused-back Stopped End k

read_told : (r s : Read) → told_read r ≡ told_read s → r ≡ s
read_told = way_back told_read answer_of read_back

pub read-coincide : (file : List ℕ) (at : ℕ) (r s : Read) → ReadsAt file at r → ReadsAt file at s → r ≡ s
read-coincide file at r s h k = read_told r s (h ∙ sym k)

-- a struct is told by its fields
stop_of : ℕ → ℕ → Refusal → Stop
stop_of k at r = record { record_number = k; at = at; refusal = r }

same_stop : (s t : Stop) → s.record_number ≡ t.record_number → s.at ≡ t.at → s.refusal ≡ t.refusal → s ≡ t
unfolding stop_of
same_stop s t a b c =
    let e : stop_of s.record_number s.at s.refusal ≡ stop_of t.record_number t.at t.refusal = cc in e

pub halts-once : {file : List ℕ} {at k : ℕ} {r s : Result ⊤ Stop} → Halts file at k r → Halts file at k s → r ≡ s
halts-once (over e) (over f) = refl
halts-once (over e) (stop f a n) = never (cc)
halts-once (over e) (on f h) = never (cc)
halts-once (stop e a n) (over f) = never (cc)
halts-once (stop e a n) (on f h) = never (cc)
halts-once (on e h) (over f) = never (cc)
halts-once (on e h) (stop f a n) = never (cc)
halts-once (stop {s = s} e a n) (stop {s = t} f b m) =
    let r : Stopped s.refusal ≡ Stopped t.refusal = read_told _ _ (sym e ∙ f) in
    ap Err (same_stop s t (n ∙ sym m) (a ∙ sym b) (cc))
halts-once {file} {k = k} {s = s} (on {next = i} e h) (on {next = j} f g) =
    let same : j ≡ i = cc in
    halts-once h (subst (λ (p : ℕ). Halts file p (k + 1) s) same g)

pub spelled-once : {bytes room : List ℕ} {n m : ℕ} {s t : List ℕ} → Spelled bytes room n s → Spelled bytes room m t → (n ≡ m) × (s ≡ t)
spelled-once p q = (p.count ∙ sym q.count, p.slots ∙ sym q.slots)
