-- `Writer` of specs/Writer.antt holds, by the laws of the contract alone.
--   writer   it holds
-- Assumes nothing.
use mathlib.Core.Path.{◌≡◌, sym, ap, subst, ◌∙◌}
use mathlib.Core.List.{List, [], ◌∷◌, ◌++◌}
use Prim.Native.Nat.{ℕ, suc, ◌*◌, ◌≤◌}
use borrow.Author.Tests.{le-ltb}
use lib.ListN.{length, replicate}
use Rattle.std.specs.Prelude.{Result, Ok}
use Rattle.refusals.specs.declared.Refusal.{Refusal}
use Rattle.refusals.specs.Order.{Passed}
use Rattle.refusals.specs.Order.Passed.{none}
use Rattle.refusals.proofs.Order.{passes}
use Rattle.input.specs.Limit.{limit}
use Rattle.table_rules.specs.Demand.{steps_at}
use Rattle.find_solve.specs.Calls.{solve_tests, Solves}
use Rattle.find_solve.specs.declared.Solved.{Solved}
use Rattle.job_records.specs.Layout.{head_length, words, part}
use Rattle.job_records.specs.Reading.{read_at}
use Rattle.job_records.specs.Files.{Reads}
use Rattle.job_writer.specs.Records.{root_polynomial}
use Rattle.job_writer.specs.Calls.{Writable}
use Rattle.job_writer.proofs.Contract.{bytes-say, record-front, nothing-behind}
use Rattle.job_writer.proofs.Reading.{words-read, call_passes, read_back-is, reads-alone, roots-back, simple-back}
use Rattle.demands.specs.Demand2.{Holds}
use Rattle.demands.specs.Writer.{read_back, Writer}
use Rattle.demands.proofs.Demand2.{demand-2}

-- the whole call takes what is in the record
taken : {m c : ℕ} {roots room : List ℕ} (list mults : List ℕ) → Writable m c roots room → limit ≤ length list
    → limit ≤ length mults → Passed (solve_tests m c (root_polynomial m roots) list mults)
taken list mults w l k =
    call_passes w (passes (le-ltb (length list) limit l) (passes (le-ltb (length mults) limit k) none))

-- and lists the roots again
listed-again : {m c : ℕ} {roots room : List ℕ} (list mults : List ℕ) (r : Result Solved Refusal) (x u : List ℕ)
    → Writable m c roots room → limit ≤ length list → limit ≤ length mults
    → Solves m c (root_polynomial m roots) list mults r x u
    → (r ≡ Ok (record { s = length roots; steps = steps_at m c (root_polynomial m roots) })) × Holds roots list x
    × Holds (replicate (length roots) 1) mults u
listed-again {m} {c} {roots} list mults r x u w l k s =
    let d = (demand-2 m c (root_polynomial m roots) list mults (taken list mults w l k)).solve-gives r x u s in (
      d.0 ∙ ap (λ rs. Ok (record { s = length rs; steps = steps_at m c (root_polynomial m roots) })) (roots-back w),
      subst (λ rs. Holds rs list x) (roots-back w) d.1,
      subst (λ es. Holds es mults u) (simple-back w) d.2,
    )

pub writer : Writer
writer = record {
  front = λ m c roots room n after h.
      let s = bytes-say m c roots room h in
      (s.count, record-front s, nothing-behind s);
  same = λ m c roots room room' n n' after after' h k.
      record-front (bytes-say m c roots room h) ∙ sym (record-front (bytes-say m c roots room' k));
  read = λ m c roots room n after rest h.
      let s = bytes-say m c roots room h in
      let e = record-front s in (
        ap (λ r. read_at (r ++ rest) 0) e ∙ read_back-is s.known rest,
        ap (λ r. words (part (r ++ rest) head_length (2 * suc (length roots)))) e ∙ words-read m c roots rest,
      );
  alone = λ m c roots room n after h.
      let s = bytes-say m c roots room h in
      subst (λ r. Reads r 0 (read_back m c (length roots) ∷ [])) (sym (record-front s)) (reads-alone s.known);
  roots = λ m c roots room n after h.
      let s = bytes-say m c roots room h in
      (roots-back s.known, simple-back s.known);
  solved = λ m c roots room n after list mults r x u h l k s.
      listed-again list mults r x u (bytes-say m c roots room h).known l k s;
}
