-- What an answer of `record_at` says, by its contract alone.
--   record-whole  A RECORD COMES FROM A WHOLE LINE: one that a line feed or the end of the input ends
--   record-fits   a record that is written is no longer than its room
-- Assumes nothing.
use mathlib.Core.Path.{◌≡◌, subst}
use mathlib.Core.Bool.{Bool, true}
use mathlib.Core.List.{List}
use Prim.Native.Nat.{ℕ, ◌≤◌}
use native.Mathlib.Omega.{arith}
use lib.ListN.{length}
use Rattle.job_records.proofs.Forward.{never}
use Rattle.job_writer.specs.Calls.{Writes}
use Rattle.std.specs.Prelude.{Result}
use Rattle.refusals.specs.declared.Refusal.{Refusal}
use Rattle.std.specs.Prelude.{Ok}
use Rattle.job_writer.proofs.Contract.{bytes-say}
use Rattle.job_lists.specs.Lines.{line_end, ends_whole}
use Rattle.job_lists.specs.Calls.{Lists, ListsAt}
use Rattle.job_lists.specs.Calls.ListsAt.{cut, whole}
use Rattle.job_lists.specs.Calls.Lists.{illegible, blank, alone, asks}
use Rattle.job_lists.specs.declared.Listed.{Listed}
use Rattle.job_lists.specs.declared.Listed.TheVariants.{Answer}

pub record-whole : {text room : List ℕ} {at : ℕ} {ended : Bool} {l : Listed} {r : Result ℕ Refusal} {after : List ℕ}
    → ListsAt text at ended room l after → l ≡ Answer r → ends_whole text (line_end text at) ended ≡ true
record-whole (cut f) e = never (cc)
record-whole (whole t p) e = t

line-fits : {line room : List ℕ} {l : Listed} {r : Result ℕ Refusal} {n : ℕ} {after : List ℕ} → Lists line room l after
    → l ≡ Answer r → r ≡ Ok n → n ≤ length room
line-fits (illegible f) e b = never (cc)
line-fits (blank t d) e b = never (cc)
line-fits (alone t d) e b = never (cc)
line-fits {room = room} {n = n} {after = after} (asks {m = m} {c = c} {roots = roots} {r = s} t d w) e b =
    let k : s ≡ Ok n = cc in
    let a = bytes-say m c roots room (subst (λ r. Writes m c roots room r after) k w) in
    omega (arith, a.count, a.known.fits)

pub record-fits : {text room : List ℕ} {at : ℕ} {ended : Bool} {l : Listed} {r : Result ℕ Refusal} {n : ℕ} {after : List ℕ}
    → ListsAt text at ended room l after → l ≡ Answer r → r ≡ Ok n → n ≤ length room
record-fits (cut f) e b = never (cc)
record-fits (whole t p) e b = line-fits p e b
