-- The reader reads the record back, and the whole call takes its polynomial.
--   words-read    the coefficient bytes spell the polynomial, whatever stands behind the record
--   call_passes   the polynomial passes the whole call's tests 1 to 6, and those behind them where these pass
--   read-back     the reader gives that field, that cutoff as it is stated, and where the coefficient bytes are
--   reads-alone   the record alone is one record
--   roots-back    its roots are those that were given;  simple-back  each is simple
-- Assumes nothing.
use mathlib.Core.Path.{◌≡◌, refl, sym, ap, subst, ◌∙◌}
use mathlib.Core.Bool.{Bool, not}
use mathlib.Core.List.{List, [], ◌∷◌, ◌++◌, append-nil}
use Prim.Native.Nat.{ℕ, suc, ◌*◌, ◌^◌, ◌≤◌}
use native.Mathlib.Nat.{zero-add}
use native.Mathlib.Omega.{arith}
use borrow.Author.Tests.{le-ltb, ne_eqb}
use lib.Dec.{ltb}
use lib.ListN.{length, replicate}
use lib.Seq.{take_at}
use Rattle.refusals.specs.Order.{Passed}
use Rattle.refusals.specs.Order.Passed.{none}
use Rattle.refusals.proofs.Order.{passes, passed-decides}
use Rattle.slices.proofs.Bounded.{all_below-exactly}
use Rattle.field.specs.Field.{roots_at, multiplicities_at}
use Rattle.input.specs.Cutoff.{highest_cutoff}
use Rattle.input.specs.Limit.{limit}
use Rattle.input.specs.Polynomials.{polynomial_tests}
use Rattle.job_records.specs.Layout.{head_length, words, part, coefficients}
use Rattle.job_records.specs.Cutoffs.{stated_cutoff}
use Rattle.job_records.specs.Reading.{Outcome, call_tests, record_tests, judged, read_at}
use Rattle.job_records.specs.Files.{Reads, Complete}
use Rattle.job_records.specs.Files.Reads.{over, on}
use Rattle.job_records.proofs.Exactly.{ends-exactly}
use Rattle.job_records.proofs.Whole.{record-read}
use Rattle.poly.proofs.RootProducts.{product-long, product-below, product-nonzero}
use Rattle.poly.proofs.RootProducts.{product-roots, product-simple}
use Rattle.job_writer.specs.Records.{root_polynomial, word_bytes, record_of, length_for}
use Rattle.job_writer.specs.Calls.{Writable}
use Rattle.job_writer.proofs.Bytes.{length-word_bytes, words_back}
use Rattle.job_writer.proofs.Contract.{length-record}

-- the bytes of the coefficients stand behind the head
body_bytes : (m c : ℕ) (roots rest : List ℕ)
    → part (record_of m c roots ++ rest) head_length (2 * suc (length roots)) ≡ word_bytes (root_polynomial m roots)
body_bytes m c roots rest =
    take_at (word_bytes (root_polynomial m roots)) rest (2 * suc (length roots))
    (length-word_bytes (root_polynomial m roots) ∙ ap (λ n. 2 * n) (product-long m roots))

pub words-read : (m c : ℕ) (roots rest : List ℕ)
    → words (part (record_of m c roots ++ rest) head_length (2 * suc (length roots))) ≡ root_polynomial m roots
words-read m c roots rest = ap words (body_bytes m c roots rest) ∙ words_back (root_polynomial m roots)

-- those of the record alone too
coefficients-are : (m c : ℕ) (roots : List ℕ) → coefficients (record_of m c roots) ≡ root_polynomial m roots
coefficients-are m c roots =
    ap (λ r. words (part r head_length (2 * suc (length roots)))) (sym (append-nil (record_of m c roots)))
    ∙ words-read m c roots []

-- the record is complete
complete : (m c : ℕ) (roots : List ℕ) → Complete (record_of m c roots)
complete m c roots = record { mark = refl; whole = length-record m c roots }

module _ {m c : ℕ} {roots room : List ℕ} (w : Writable m c roots room) where
  pub call_passes : {us : List (ℕ × Bool)} → Passed us
      → Passed (polynomial_tests m (root_polynomial m roots) ((6, ltb highest_cutoff c) ∷ us))
  call_passes p =
      let n : length (root_polynomial m roots) ≡ suc (length roots) = product-long m roots in
      let some : length (root_polynomial m roots) ≡ 0 → ⊥ = λ z. omega arith in
      let few : length (root_polynomial m roots) ≤ suc limit = omega (arith, w.few) in
      let small = (all_below-exactly (2 ^ m) (root_polynomial m roots)).1 (product-below m w.field roots w.small) in
      passes (ap not w.field) (passes (ne_eqb _ _ some) (passes (le-ltb _ _ few) (passes (ap not small)
      (passes (product-nonzero m w.field roots w.small) (passes (le-ltb highest_cutoff c w.cutoff) p)))))

  -- what the reader's tests find
  record-passes : Passed (record_tests (record_of m c roots))
  record-passes = subst (λ cs. Passed (call_tests m c cs)) (sym (coefficients-are m c roots)) (call_passes none)

  pub read_back-is : (rest : List ℕ)
      → read_at (record_of m c roots ++ rest) 0
      ≡ Outcome.gives 0 (length_for (length roots) ∷ m ∷ head_length ∷ 2 * suc (length roots) ∷ stated_cutoff c)
  unfolding judged
  read_back-is rest =
      record-read (complete m c roots) rest [] ∙ passed-decides _ _ record-passes
      ∙ ap (λ n. Outcome.gives 0 (n ∷ m ∷ head_length ∷ 2 * suc (length roots) ∷ stated_cutoff c))
      (zero-add (length_for (length roots)))

  pub reads-alone : Reads (record_of m c roots) 0
      (Outcome.gives 0 (length_for (length roots) ∷ m ∷ head_length ∷ 2 * suc (length roots) ∷ stated_cutoff c) ∷ [])
  reads-alone =
      on (ap (λ file. read_at file 0) (sym (append-nil (record_of m c roots))) ∙ read_back-is [])
      (over ((ends-exactly (record_of m c roots) (length_for (length roots))).1 (omega (arith, length-record m c roots))))

  pub roots-back : roots_at m (root_polynomial m roots) ≡ roots
  roots-back = product-roots m w.field roots w.small w.order

  pub simple-back : multiplicities_at m (root_polynomial m roots) ≡ replicate (length roots) 1
  simple-back = product-simple m w.field roots w.small w.order
