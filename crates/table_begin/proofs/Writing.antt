-- A table is begun: what the parts ask, and what is left.
--   rows-room                           the room for the rows of the powers
--   split-long, split-few, written_is   the part that splits, and what is left in the table
--   begin-room                          the table of what was let in
-- Assumes nothing.
use mathlib.Core.Path.{◌≡◌, sym, ap, ◌∙◌}
use mathlib.Core.Bool.{true}
use mathlib.Core.List.{List}
use Prim.Native.Nat.{ℕ, ◌*◌, ◌≤◌}
use native.Mathlib.Omega.{arith}
use borrow.Author.Tests.{eqb-true, not-false}
use lib.Dec.{eqb}
use lib.ListN.{length, take}
use Rattle.refusals.specs.Order.{Passed}
use Rattle.field.specs.Rows.{known}
use Rattle.refusals.proofs.Order.{failed, others}
use Rattle.field.specs.Field.{G, roots_at}
use Rattle.algebra.proofs.Lengths.{length-monic_roots}
use Rattle.input.specs.Limit.{limit, widest}
use Rattle.input.proofs.Fields.{degree-within}
use Rattle.input.proofs.Polynomials.{passed-rest}
use Rattle.table_rules.specs.Layout.{by_factor}
use Rattle.table_rules.specs.Table.{encode}
use Rattle.table_rules.specs.Splitting.{begun_table, slots_begun}
use Rattle.table_rules.specs.Sizes.{slots}
use Rattle.table_begin.specs.SplitPart.{Beginnable}
use Rattle.table_begin.specs.Calls.{begin_tests}
use Rattle.table_begin.proofs.SplitPart.{SplitOff}

-- the rows of m powers fit where those of the widest field do
pub rows-room : (m : ℕ) → known m ≡ true → {l : ℕ} → widest * limit ≤ l → m * limit ≤ l
rows-room m k h = omega (arith, degree-within m k)

-- the part that splits is as long as it says
pub split-long : {m k : ℕ} {cs out : List ℕ} → SplitOff m cs k out → length (take k out) ≡ k
split-long {m} {k} {cs} s = ap length s.low ∙ length-monic_roots (G m) (roots_at m cs) ∙ sym s.count

-- and fits in
pub split-few : {m k : ℕ} {cs table out rows : List ℕ} → Beginnable m cs table rows → SplitOff m cs k out → length (take k out) ≤ limit
split-few g s = omega (arith, split-long s, s.fewer, g.polynomial.few)

-- what is left in the table
pub written_is : (m c : ℕ) {cs out t : List ℕ} {k : ℕ} → SplitOff m cs k out → t ≡ encode by_factor slots (begun_table m c (take k out))
    → t ≡ slots_begun by_factor slots m c cs
unfolding slots_begun
written_is m c s e = e ∙ ap (λ p. encode by_factor slots (begun_table m c p)) s.low

-- the table of what was let in has all slots
pub begin-room : (m c : ℕ) (cs table : List ℕ) → Passed (begin_tests m c cs table) → length table ≡ slots
begin-room m c cs table h = eqb-true (length table) slots (not-false (eqb (length table) slots) (failed (others (passed-rest m cs h))))
