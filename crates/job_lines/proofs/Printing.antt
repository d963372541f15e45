-- The lines of a file.
--   lines_are, lines-once   every file has its lines, and in one way
--   prints-lines            who starts at 0 with the number 1, prints each turn's line and goes on where the turn
--                           says, prints the lines of the file
-- Assumes nothing.
use mathlib.Core.Path.{◌≡◌, refl, sym, ap, ap₂, ◌∙◌, subst}
use mathlib.Core.List.{List, [], ◌∷◌, ◌++◌, append-nil}
use Prim.Native.Nat.{ℕ, ◌+◌}
use Rattle.std.specs.Prelude.{Some, None}
use Rattle.job_records.specs.Reading.{Outcome, read_at}
use Rattle.job_records.specs.Files.{Reads}
use Rattle.job_records.specs.Files.Reads.{over, stop, on}
use Rattle.job_records.proofs.Forward.{never}
use Rattle.job_records.proofs.Whole.{reads, reads-once}
use Rattle.job_lines.specs.Printing.{line_for, lines_from, LinesOf, on_from, Prints}
use Rattle.job_lines.specs.Printing.Prints.{last, more}

pub lines_are : (file : List ℕ) → (text : List ℕ) × LinesOf file text
lines_are file = let r = reads file 0 in (_, record { outcomes = r.0; read = r.1; lines = refl })

pub lines-once : {file s t : List ℕ} → LinesOf file s → LinesOf file t → s ≡ t
lines-once {file} p q = p.lines ∙ ap (lines_from file 1) (reads-once p.read q.read) ∙ sym q.lines

-- reading gives outcomes whose lines are this text
Lined : List ℕ → ℕ → ℕ → List ℕ → Type 0
Lined file at k text = (os : List Outcome) × Reads file at os × (text ≡ lines_from file k os)

lined : {file : List ℕ} {at k : ℕ} {text : List ℕ} → Prints file at k text → Lined file at k text
unfolding lines_from Lined
lined {file} (last {at = at} {k = k} e) = go (read_at file at) refl e
  where
    go : (o : Outcome) → read_at file at ≡ o → on_from o ≡ None → Lined file at k (line_for file k (read_at file at))
    go Outcome.ends f g = ([], over f, ap (line_for file k) f)
    go (Outcome.gives n []) f g = (Outcome.gives n [] ∷ [], stop f, ap (line_for file k) f ∙ sym (append-nil _))
    go (Outcome.gives n (next ∷ vs)) f g = never (cc)
lined {file} (more {at = at} {k = k} {next = next} {text = text} e p) = go (read_at file at) refl e (lined p)
  where
    go : (o : Outcome) → read_at file at ≡ o → on_from o ≡ Some next → Lined file next (k + 1) text
        → Lined file at k (line_for file k (read_at file at) ++ text)
    go Outcome.ends f g r = never (cc)
    go (Outcome.gives n []) f g r = never (cc)
    go (Outcome.gives n (behind ∷ vs)) f g r =
        let same : next ≡ behind = cc in
        (Outcome.gives n (behind ∷ vs) ∷ r.0, on f (subst (λ i. Reads file i r.0) same r.1), ap₂ (λ o t. line_for file k o ++ t) f r.2)

pub prints-lines : {file text : List ℕ} → Prints file 0 1 text → LinesOf file text
unfolding Lined
prints-lines p = let r = lined p in record { outcomes = r.0; read = r.1; lines = r.2 }
