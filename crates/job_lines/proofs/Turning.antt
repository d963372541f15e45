-- What a turn gives, by what reading gave.
--   turn-over, turn-stop, turn-refuse, turn-record   where reading ends, stops, goes on behind a refused record, or
--                                                    behind an accepted one
--   turn_on      where a turn goes on, the next place is behind the record and within the file
-- Assumes nothing.
use mathlib.Core.Path.{◌≡◌, refl, sym, ap, ◌∙◌}
use mathlib.Core.List.{List, [], ◌∷◌}
use Prim.Native.Nat.{ℕ, ◌+◌, ◌≤◌}
use native.Mathlib.Omega.{arith}
use lib.ListN.{length}
use Rattle.refusals.specs.Numbers.{number_of}
use Rattle.refusals.specs.declared.Refusal.{Refusal}
use Rattle.job_records.specs.Layout.{head_length, words, part}
use Rattle.job_records.specs.Reading.{Outcome, told_read, read_at}
use Rattle.job_records.specs.declared.Job.{Job}
use Rattle.job_records.specs.declared.Read.{Read}
use Rattle.job_records.specs.declared.Read.TheVariants.{End, Record, Refused, Stopped}
use Rattle.job_records.proofs.Forward.{never, onward}
use Rattle.job_solve.specs.Solving.{cutoff_of}
use Rattle.job_lines.specs.Printing.{turned_line, solved_line, line_for, on_from, Turned}
use Rattle.std.specs.Prelude.{Some, None}
use Rattle.job_lines.specs.declared.Turn.{Turn}

module _ {file : List ℕ} {at k : ℕ} (r : Read) (e : told_read r ≡ read_at file at) {turn : Turn} where
  -- by what reading gave
  made : {o : Outcome} → told_read r ≡ o → turn.text ≡ line_for file k o → turn.next ≡ on_from o → Turned file at k turn
  made f b g =
      let same = sym f ∙ e in
      record { bytes = b ∙ ap (line_for file k) same; goes = g ∙ ap on_from same }

  pub turn-over : r ≡ End → turn.text ≡ [] → turn.next ≡ None → Turned file at k turn
  turn-over f = made (ap told_read f)

  pub turn-stop : {x : Refusal} → r ≡ Stopped x → turn.text ≡ turned_line k (number_of x) → turn.next ≡ None → Turned file at k turn
  turn-stop f = made (ap told_read f)

  pub turn-refuse : {x : Refusal} {next : ℕ} → r ≡ Refused x next → turn.text ≡ turned_line k (number_of x) → turn.next ≡ Some next
      → Turned file at k turn
  turn-refuse f = made (ap told_read f)

  pub turn-record : {j : Job} {bytes : List ℕ} → r ≡ Record j → bytes ≡ part file j.start j.len
      → turn.text ≡ solved_line k j.m (cutoff_of j) (words bytes) → turn.next ≡ Some j.next → Turned file at k turn
  turn-record {j} f b w = made (ap told_read f) (w ∙ ap (λ bs. solved_line k j.m (cutoff_of j) (words bs)) b)

-- ---- where it goes on

-- what is known of the next place
pub record TurnedOn (file : List ℕ) (at next : ℕ) : Type 0 where
  pub ahead : at + head_length ≤ next
  pub within : next ≤ length file

pub turn_on : {file : List ℕ} {at k next : ℕ} {r : Turn} → Turned file at k r → r.next ≡ Some next → TurnedOn file at next
turn_on {file} {at = at} {next = p} t f = go (read_at file at) refl (sym f ∙ t.goes)
  where
    go : (o : Outcome) → read_at file at ≡ o → Some p ≡ on_from o → TurnedOn file at p
    go Outcome.ends e g = never (cc)
    go (Outcome.gives n []) e g = never (cc)
    go (Outcome.gives n (next ∷ vs)) e g =
        let w = onward file at e in
        let a : p ≡ next = cc in
        record { ahead = omega (arith, w.ahead); within = omega (arith, w.within) }
