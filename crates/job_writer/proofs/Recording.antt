-- The record from its parts.
--   degree-byte   the degree of a known field fits a byte
--   front_long    the words of the polynomial are one more than there are roots;  words-fit  they fit behind the head
--   recorded      the head in front and the words behind it are the record;  record-short  its length fits
-- Assumes nothing.
use mathlib.Core.Path.{◌≡◌, refl, sym, ap, subst, ◌∙◌}
use mathlib.Core.Bool.{true}
use mathlib.Core.List.{List, ◌++◌}
use Prim.Native.Nat.{ℕ, suc, ◌+◌, ◌*◌, ◌≤◌, ◌<◌}
use native.Mathlib.Numerals.{add-one}
use native.Mathlib.Omega.{arith}
use lib.ListN.{length, take}
use Rattle.algebra.proofs.Lengths.{length-from_roots}
use Rattle.field.specs.Field.{G}
use Rattle.field.specs.Rows.{known}
use Rattle.field.proofs.Known.{by_row, listed}
use Rattle.slices.specs.Lists.{copied}
use Rattle.slices.proofs.Lists.{copied-front, length-copied, pasted-copied}
use Rattle.job_records.specs.Layout.{head_length}
use Rattle.job_text.specs.Lines.{Wrote}
use Rattle.job_text.proofs.Writing.{wrote_then}
use Rattle.job_writer.specs.Records.{root_polynomial, word_bytes, record_of}
use Rattle.job_writer.specs.Calls.{Writable}
use Rattle.job_writer.specs.Writing.{head_of, Recorded}
use Rattle.job_writer.proofs.Bytes.{length-word_bytes}

-- each of them does
pub degree-byte : (m : ℕ) → known m ≡ true → m < 256
degree-byte m k = by_row (λ m p. m < 256) (omega arith) (omega arith) (omega arith) (listed m k)

module _ {m c : ℕ} {roots room : List ℕ} (w : Writable m c roots room) where
  -- as many words as there are roots, and one more
  long : length (root_polynomial m roots) ≡ suc (length roots)
  long = length-from_roots (G m) roots

  -- the head in front
  headed : {mid : List ℕ} → mid ≡ copied (head_of m c (length roots + 1)) room
      → Wrote (head_of m c (length roots + 1)) 0 room head_length mid
  headed e = record { ended = refl; bytes = e ∙ sym (pasted-copied (head_of m c (length roots + 1)) room) }

  -- the polynomial in front of its room
  front : (f₀ : List ℕ) {f : List ℕ} → f ≡ copied (root_polynomial m roots) f₀
      → take (length roots + 1) f ≡ root_polynomial m roots
  front f₀ e =
      ap (take (length roots + 1)) e ∙ copied-front (root_polynomial m roots) f₀ (long ∙ sym (add-one (length roots)))

  pub front_long : (f₀ : List ℕ) {f : List ℕ} → f ≡ copied (root_polynomial m roots) f₀
      → length roots + 1 ≡ length (take (length roots + 1) f)
  front_long f₀ e = omega (arith, ap length (front f₀ e), long)

  pub words-fit : (f₀ : List ℕ) {f mid : List ℕ} → f ≡ copied (root_polynomial m roots) f₀
      → mid ≡ copied (head_of m c (length roots + 1)) room
      → head_length + 2 * length (take (length roots + 1) f) ≤ length mid
  words-fit f₀ e h =
      let same = length-copied (head_of m c (length roots + 1)) room (omega (arith, w.fits)) in
      omega (arith, w.fits, front_long f₀ e, ap length h)

  pub recorded : (f₀ : List ℕ) {f mid after : List ℕ} {end : ℕ} → f ≡ copied (root_polynomial m roots) f₀
      → mid ≡ copied (head_of m c (length roots + 1)) room
      → Wrote (word_bytes (take (length roots + 1) f)) head_length mid end after
      → Recorded m c roots room end after
  recorded f₀ {f} {mid} {after} {end} e h t =
      let all : Wrote (head_of m c (length roots + 1) ++ word_bytes (root_polynomial m roots)) 0 room end after =
      wrote_then (omega arith) (headed h) (subst (λ l. Wrote (word_bytes l) head_length mid end after) (front f₀ e) t)
      in
      let b : Wrote (record_of m c roots) 0 room end after =
      subst (λ n. Wrote (head_of m c n ++ word_bytes (root_polynomial m roots)) 0 room end after)
      (add-one (length roots)) all
      in
      record {
        count = b.ended ∙ omega (arith, length-word_bytes (root_polynomial m roots), long);
        bytes = b.bytes ∙ pasted-copied (record_of m c roots) room;
      }

  -- and its length is a number of two bytes
  pub record-short : (f₀ : List ℕ) {f mid after : List ℕ} {end : ℕ} → f ≡ copied (root_polynomial m roots) f₀
      → Wrote (word_bytes (take (length roots + 1) f)) head_length mid end after → end < 65536
  record-short f₀ {f} e t =
      omega (arith, t.ended, length-word_bytes (take (length roots + 1) f), front_long f₀ e, w.few)
