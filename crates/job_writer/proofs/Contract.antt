-- What an answer of `write` says, by its contract alone.
--   length-record     how many bytes the record has
--   Says, bytes-say   an answer that has written: what is known of what was let in, the length, and what the room holds
--   record-front, nothing-behind   the front of the room is the record; what is behind it is as it was
-- Assumes nothing.
use mathlib.Core.Path.{◌≡◌, sym, ap, ◌∙◌}
use mathlib.Core.List.{List, [], ◌∷◌}
use mathlib.Core.Logic.{◌⊎◌, inl, inr}
use Prim.Native.Nat.{ℕ}
use native.Mathlib.Omega.{arith}
use lib.ListN.{length, take, drop}
use Rattle.refusals.specs.Order.{Given, Passed}
use Rattle.refusals.proofs.Order.{cases, refused, accepted, written}
use Rattle.slices.specs.Lists.{copied}
use Rattle.slices.proofs.Lists.{copied-front, copied_behind}
use Rattle.job_records.proofs.Forward.{never}
use Rattle.poly.proofs.RootProducts.{product-long}
use Rattle.job_writer.specs.Records.{root_polynomial, record_of, length_for}
use Rattle.job_writer.specs.Calls.{write_tests, Writes, Writable}
use Rattle.std.specs.Prelude.{Ok}
use Rattle.job_writer.proofs.Admitting.{writable}
use Rattle.job_writer.proofs.Bytes.{length-word_bytes}

-- the head, and two bytes for each coefficient
pub length-record : (m c : ℕ) (roots : List ℕ) → length (record_of m c roots) ≡ length_for (length roots)
length-record m c roots = omega (arith, length-word_bytes (root_polynomial m roots), product-long m roots)

-- an answer that has written
pub record Says (m c : ℕ) (roots room : List ℕ) (n : ℕ) (after : List ℕ) : Type 0 where
  pub known : Writable m c roots room
  pub count : n ≡ length_for (length roots)
  pub holds : after ≡ copied (record_of m c roots) room

pub bytes-say : (m c : ℕ) (roots room : List ℕ) {n : ℕ} {after : List ℕ} → Writes m c roots room (Ok n) after
    → Says m c roots room n after
bytes-say m c roots room {n} {after} h = go (cases (write_tests m c roots (length room)))
  where
    go : ((k : ℕ) × Given k (write_tests m c roots (length room))) ⊎ Passed (write_tests m c roots (length room))
        → Says m c roots room n after
    go (inl g) = let f : n ∷ [] ≡ [] = ap (λ o. o.1) (h.0 ∙ refused _ g.1) in never (cc)
    go (inr p) =
        let f : n ∷ [] ≡ length_for (length roots) ∷ [] = ap (λ o. o.1) (h.0 ∙ accepted _ p) in
        let e : n ≡ length_for (length roots) = cc in
        record { known = writable p; count = e; holds = h.1 ∙ written _ _ p }

module _ {m c : ℕ} {roots room : List ℕ} {n : ℕ} {after : List ℕ} (s : Says m c roots room n after) where
  pub record-front : take n after ≡ record_of m c roots
  record-front =
      ap (take n) s.holds ∙ copied-front (record_of m c roots) room (length-record m c roots ∙ sym s.count)

  pub nothing-behind : drop n after ≡ drop n room
  nothing-behind =
      ap (drop n) s.holds
      ∙ copied_behind n (record_of m c roots) room (omega (arith, length-record m c roots, s.count))
