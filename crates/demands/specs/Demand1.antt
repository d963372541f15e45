-- DEMAND 1: every input gets a fixed outcome. What is wrong is refused by the entry that receives it, under its own
-- number, in a fixed order, and a refusal writes nothing in lent memory.
--   Decides   an outcome by tests in their order: a refusal's number alone exactly when its test is the first to hold,
--             0 with the values exactly when none holds
--   Spares    lent memory afterwards: as it was where a test holds, and else what the entry writes
--   Settles   the corrector's outcome and word, by its tests in their order; the last of them asks for a codeword
--   Fixes     the encoder's outcome and word likewise
--   Demand1   of whatever the contract of each entry admits, for every input: its tests in their order, its values,
--             its memory; the record reader
--             likewise; and that it admits one answer and one memory
-- The exports' contracts (locator/specs/Calls) are the structs of these answers.
-- Assumes nothing.
use Rattle.std.specs.Prelude.{⊤, Option, Result}
use Rattle.refusals.specs.declared.Refusal.{Refusal}
use Rattle.refusals.specs.Admitting.{told}
use Rattle.field.specs.declared.solver.Quadratic.{Quadratic}
use Rattle.find_affine.specs.declared.Space.{Space}
use Rattle.job_salvage.specs.declared.Kept.{Kept}
use Rattle.std.specs.Prelude.{◌≡◌, Bool, cond, List, [], ◌∷◌, ◌↔◌, ℕ, suc, ◌+◌, ◌*◌, ◌≤◌, ◌<◌, length, drop}
use Rattle.refusals.specs.Order.{Given, Passed}
use Rattle.slices.specs.Lists.{copied}
use Rattle.field.specs.Field.{field_at, mul, inverse, roots_at, multiplicities_at}
use Rattle.field_elements.specs.Calls.{told_answer, told_quadratic, pair_tests, quadratic_values}
use Rattle.field_elements.specs.Calls.{nonzero_tests, position_tests, position_under}
use Rattle.field_elements.specs.Calls.{TellsProduct, TellsInverse, TellsPosition, TellsQuadratic}
use Rattle.input.specs.Cutoff.{in_force}
use Rattle.table_rules.specs.Demand.{steps_at}
use Rattle.table_rules.specs.Layout.{by_factor}
use Rattle.table_rules.specs.Sizes.{slots}
use Rattle.table_rules.specs.Splitting.{slots_done, slots_stepped, slots_begun, slots_roots}
use Rattle.table_begin.specs.Calls.{begin_tests, Begins}
use Rattle.table_step.specs.Calls.{step_tests, stepped_values, Steps}
use Rattle.table_step.specs.declared.Stepped.{Stepped}
use Rattle.table_finish.specs.Calls.{finish_tests, Finishes}
use Rattle.find_solve.specs.Calls.{solve_tests, solved_values, Solves}
use Rattle.find_solve.specs.declared.Solved.{Solved}
use Rattle.find_search.specs.Calls.{search_tests, Searches}
use Rattle.find_affine.specs.Affine.{affine_roots, space_values}
use Rattle.find_affine.specs.Calls.{affine_tests, spanned_values, Spans}
use Rattle.job_records.specs.Layout.{record_length}
use Rattle.job_records.specs.Reading.{Outcome, start_tests, record_tests, ReadsAt, HandsBack, Stands}
use Rattle.job_records.specs.Reading.{told_read}
use Rattle.job_records.specs.declared.Read.{Read}
use Rattle.job_lines.specs.Printing.{TurnedBy}
use Rattle.job_lines.specs.declared.Turn.{Turn}
use Rattle.corrector.specs.Correcting.{IsBlock, IsStrength, Within, distance, Corrects}
use Rattle.corrector_encoder.specs.Encoding.{Encoding, Encodes}
use Rattle.job_salvage.specs.Pieces.{kept_records, kept_file}
use Rattle.job_salvage.specs.Calls.{NextIs, salvage_tests, told_kept, Salvages}
use Rattle.job_writer.specs.Records.{record_of, length_for}
use Rattle.job_writer.specs.Calls.{write_tests, told_written, Writes}

pub record Decides (tests : List (ℕ × Bool)) (values : List ℕ) (outcome : ℕ × List ℕ) : Type 0 where
  pub refused : (k : ℕ) → (outcome ≡ (suc k, [])) ↔ Given (suc k) tests
  pub accepted : (outcome ≡ (0, values)) ↔ Passed tests

pub record Spares (tests : List (ℕ × Bool)) (new old after : List ℕ) : Type 0 where
  pub refused : (k : ℕ) → Given k tests → after ≡ old
  pub accepted : Passed tests → after ≡ new

-- what refuses the corrector's word, in the order 22, 23, 24, and that a refusal writes nothing; 0 with the flips
-- exactly when the word that is left is a codeword near
pub record Settles (t : ℕ) (word : List ℕ) (outcome : ℕ × List ℕ) (after : List ℕ) : Type 0 where
  pub block : (outcome ≡ (22, [])) ↔ (IsBlock word → ⊥)
  pub strength : (outcome ≡ (23, [])) ↔ (IsBlock word × (IsStrength t → ⊥))
  pub far : (outcome ≡ (24, [])) ↔ (IsBlock word × IsStrength t × ((v : List ℕ) → Within t word v → ⊥))
  pub accepted : (outcome ≡ (0, distance word after ∷ [])) ↔ (IsBlock word × IsStrength t × Within t word after)
  pub unwritten : (k : ℕ) → outcome ≡ (suc k, []) → after ≡ word

-- what refuses the encoder's word, in the order 22, 23, and that a refusal writes nothing; 0 with the number of check
-- bits exactly when the word that is left is the codeword with its data
pub record Fixes (t : ℕ) (word : List ℕ) (outcome : ℕ × List ℕ) (after : List ℕ) : Type 0 where
  pub block : (outcome ≡ (22, [])) ↔ (IsBlock word → ⊥)
  pub strength : (outcome ≡ (23, [])) ↔ (IsBlock word × (IsStrength t → ⊥))
  pub accepted : (outcome ≡ (0, 11 * t ∷ [])) ↔ (IsBlock word × IsStrength t × Encoding t word after)
  pub unwritten : (k : ℕ) → outcome ≡ (suc k, []) → after ≡ word

pub record Demand1 : Type 0 where
  -- element calls: 1, 4, 13;  position: 1, 21, 4, 13
  pub product : (m a b : ℕ) (r : Result ℕ Refusal) → TellsProduct m a b r
      → Decides (pair_tests m a b) (mul (field_at m) a b ∷ []) (told_answer r)
  pub quadratic : (m a b : ℕ) (r : Result Quadratic Refusal) → TellsQuadratic m a b r
      → Decides (pair_tests m a b) (quadratic_values (field_at m) a b) (told_quadratic r)
  pub inverse : (m a : ℕ) (r : Result ℕ Refusal) → TellsInverse m a r
      → Decides (nonzero_tests m a) (inverse (field_at m) a ∷ []) (told_answer r)
  pub position : (m x convention : ℕ) (r : Result ℕ Refusal) → TellsPosition m x convention r
      → Decides (position_tests m x convention) (position_under convention (field_at m) x ∷ []) (told_answer r)
  -- begin: 1 to 7;  step: 7, 8, 9;  finish: 7, 8, 10
  pub begin : (m c : ℕ) (cs table : List ℕ) (r : Result ⊤ Refusal) (after : List ℕ) → Begins m c cs table r after
      → Decides (begin_tests m c cs table) [] (told (λ _. []) r)
      × Spares (begin_tests m c cs table) (slots_begun by_factor slots m (in_force c) cs) table after
  pub step : (table : List ℕ) (r : Result Stepped Refusal) (after : List ℕ) → Steps table r after
      → Decides (step_tests table) (cond (slots_done by_factor table) 1 0 ∷ []) (told stepped_values r)
      × Spares (step_tests table) (cond (slots_done by_factor table) table (slots_stepped by_factor table)) table after
  pub finish : (table list : List ℕ) (r : Result ℕ Refusal) (after : List ℕ) → Finishes table list r after
      → Decides (finish_tests table list) (length (slots_roots by_factor table) ∷ []) (told (λ n. n ∷ []) r)
      × Spares (finish_tests table list) (copied (slots_roots by_factor table) list) list after
  -- whole call: 1 to 7, the last of the root list and then of the second list;  plain search: likewise without 6
  pub solve : (m c : ℕ) (cs roots mults : List ℕ) (r : Result Solved Refusal) (after beside : List ℕ)
      → Solves m c cs roots mults r after beside
      → Decides (solve_tests m c cs roots mults) (length (roots_at m cs) ∷ steps_at m c cs ∷ []) (told solved_values r)
      × Spares (solve_tests m c cs roots mults) (copied (roots_at m cs) roots) roots after
      × Spares (solve_tests m c cs roots mults) (copied (multiplicities_at m cs) mults) mults beside
  pub search : (m : ℕ) (cs roots mults : List ℕ) (r : Result ℕ Refusal) (after beside : List ℕ)
      → Searches m cs roots mults r after beside
      → Decides (search_tests m cs roots mults) (length (roots_at m cs) ∷ []) (told (λ n. n ∷ []) r)
      × Spares (search_tests m cs roots mults) (copied (roots_at m cs) roots) roots after
      × Spares (search_tests m cs roots mults) (copied (multiplicities_at m cs) mults) mults beside
  -- affine call: 1, 20, 4, 7
  pub affine : (m : ℕ) (cs : List ℕ) (constant : ℕ) (list : List ℕ) (r : Result (Option Space) Refusal) (after : List ℕ)
      → Spans m cs constant list r after
      → Decides (affine_tests m cs constant (length list)) (space_values m (affine_roots m cs constant)) (told spanned_values r)
      × Spares (affine_tests m cs constant (length list)) (copied (affine_roots m cs constant) list) list after
  -- correct: 22, 23, 24
  pub correct : (t : ℕ) (word : List ℕ) (outcome : ℕ × List ℕ) (after : List ℕ)
      → Corrects t word outcome after → Settles t word outcome after
  -- encode: 22, 23
  pub encode : (t : ℕ) (word : List ℕ) (outcome : ℕ × List ℕ) (after : List ℕ)
      → Encodes t word outcome after → Fixes t word outcome after
  -- salvage: 7
  pub salvage : (file room : List ℕ) (r : Result Kept Refusal) (after : List ℕ) → Salvages file room r after
      → Decides (salvage_tests file room) (length (kept_file file) ∷ length (kept_records file) ∷ []) (told told_kept r)
      × Spares (salvage_tests file room) (copied (kept_file file) room) room after
  -- write: 1, 3, 4, 25, 6, 7
  pub write : (m c : ℕ) (roots room : List ℕ) (r : Result ℕ Refusal) (after : List ℕ) → Writes m c roots room r after
      → Decides (write_tests m c roots (length room)) (length_for (length roots) ∷ []) (told told_written r)
      × Spares (write_tests m c roots (length room)) (copied (record_of m c roots) room) room after
  -- the reader at a place of a file: it ends where no byte remains, stops under 12 or 11, and refuses a complete
  -- record under 1 to 6 with the place behind it
  pub ends : (file : List ℕ) (at : ℕ) (r : Read) → ReadsAt file at r
      → (told_read r ≡ Outcome.ends) ↔ (length file ≤ at)
  pub stops : (file : List ℕ) (at k : ℕ) (r : Read) → ReadsAt file at r
      → (told_read r ≡ Outcome.gives k []) ↔ ((at < length file) × Given k (start_tests (drop at file)))
  pub refuses : (file : List ℕ) (at k : ℕ) (r : Read) → ReadsAt file at r
      → (told_read r ≡ Outcome.gives (suc k) ((at + record_length (drop at file)) ∷ []))
      ↔ (Passed (start_tests (drop at file)) × Given (suc k) (record_tests (drop at file)))
  -- and exactly where no test holds it hands back m, the cutoff as stated, the coefficient bytes as that part of the
  -- file, and the place behind
  pub accepts : (file : List ℕ) (at : ℕ) (r : Read) → ReadsAt file at r
      → HandsBack file at (told_read r) ↔ (Passed (start_tests (drop at file)) × Passed (record_tests (drop at file)))
  -- each contract admits one answer, and one content of lent memory
  pub product-one : (m a b : ℕ) (r s : Result ℕ Refusal) → TellsProduct m a b r → TellsProduct m a b s → r ≡ s
  pub quadratic-one : (m a b : ℕ) (r s : Result Quadratic Refusal) → TellsQuadratic m a b r → TellsQuadratic m a b s → r ≡ s
  pub inverse-one : (m a : ℕ) (r s : Result ℕ Refusal) → TellsInverse m a r → TellsInverse m a s → r ≡ s
  pub position-one : (m x convention : ℕ) (r s : Result ℕ Refusal) → TellsPosition m x convention r
      → TellsPosition m x convention s → r ≡ s
  pub begin-one : (m c : ℕ) (cs table : List ℕ) (r s : Result ⊤ Refusal) (x y : List ℕ)
      → Begins m c cs table r x → Begins m c cs table s y → (r ≡ s) × (x ≡ y)
  pub step-one : (table : List ℕ) (r s : Result Stepped Refusal) (x y : List ℕ) → Steps table r x → Steps table s y
      → (r ≡ s) × (x ≡ y)
  pub finish-one : (table list : List ℕ) (r s : Result ℕ Refusal) (x y : List ℕ)
      → Finishes table list r x → Finishes table list s y → (r ≡ s) × (x ≡ y)
  pub solve-one : (m c : ℕ) (cs roots mults : List ℕ) (r s : Result Solved Refusal) (x y u v : List ℕ)
      → Solves m c cs roots mults r x u → Solves m c cs roots mults s y v → (r ≡ s) × (x ≡ y) × (u ≡ v)
  pub search-one : (m : ℕ) (cs roots mults : List ℕ) (r s : Result ℕ Refusal) (x y u v : List ℕ)
      → Searches m cs roots mults r x u → Searches m cs roots mults s y v → (r ≡ s) × (x ≡ y) × (u ≡ v)
  pub affine-one : (m : ℕ) (cs : List ℕ) (constant : ℕ) (list : List ℕ) (r s : Result (Option Space) Refusal) (x y : List ℕ)
      → Spans m cs constant list r x → Spans m cs constant list s y → (r ≡ s) × (x ≡ y)
  pub correct-one : (t : ℕ) (word : List ℕ) (r s : Result ℕ Refusal) (x y : List ℕ)
      → Corrects t word (told (λ n. n ∷ []) r) x → Corrects t word (told (λ n. n ∷ []) s) y → (r ≡ s) × (x ≡ y)
  pub encode_one : (t : ℕ) (word : List ℕ) (r s : Result ℕ Refusal) (x y : List ℕ)
      → Encodes t word (told (λ n. n ∷ []) r) x → Encodes t word (told (λ n. n ∷ []) s) y → (r ≡ s) × (x ≡ y)
  pub salvage-one : (file room : List ℕ) (r s : Result Kept Refusal) (x y : List ℕ)
      → Salvages file room r x → Salvages file room s y → (r ≡ s) × (x ≡ y)
  pub write-one : (m c : ℕ) (roots room : List ℕ) (r s : Result ℕ Refusal) (x y : List ℕ)
      → Writes m c roots room r x → Writes m c roots room s y → (r ≡ s) × (x ≡ y)
  pub next_one : (file : List ℕ) (at start end start' end' : ℕ)
      → NextIs file at start end → NextIs file at start' end' → (start ≡ start') × (end ≡ end')
  pub read_one : (file : List ℕ) (at : ℕ) (r s : Read) → ReadsAt file at r → ReadsAt file at s → r ≡ s
  -- a record's line and where reading goes on (take_turn), of what some file gives: one text, one place
  pub turn_one : (read : Read) (bytes : List ℕ) (k : ℕ) (r s : Turn) → Stands read bytes
      → TurnedBy read bytes k r → TurnedBy read bytes k s → r ≡ s
