-- DEMAND 3 holds in each known field, at each cutoff from 1, for the roots of each polynomial: `Demand3` of
-- specs/Demand.antt is the one record to read.
--   DEMAND-3        it holds
--   begin-slots     what begin writes is the encoding of the groups after no step
--   stepped-encode  a step on the slots of a valid table
--   steps-to-done   a loop that stops where the table is done has taken as many steps as there are groups above c
-- Assumes nothing.
use mathlib.Core.Path.{◌≡◌, refl, ap, ap₂, ◌∙◌}
use mathlib.Core.Bool.{Bool, true}
use mathlib.Core.List.{List}
use Prim.Native.Nat.{ℕ, zero, suc, ◌^◌, ◌≤◌}
use native.Mathlib.Omega.{arith}
use lib.ListN.{length}
use Rattle.algebra.specs.Trial.{Distinct}
use Rattle.algebra.specs.Polynomial.{Below}
use Rattle.algebra.proofs.StaysBelow.{roots_of-below}
use Rattle.algebra.proofs.RootList.{roots_of-ascending, roots_of-distinct}
use Rattle.field.specs.Rows.{known}
use Rattle.field.specs.Field.{roots_at, G}
use Rattle.input.specs.Cutoff.{highest_cutoff}
use Rattle.input.proofs.Fields.{BinaryField, known-field}
use Rattle.table_rules.specs.Layout.{Layout, Lawful}
use Rattle.table_rules.specs.Table.{Table, slots_for, encode}
use Rattle.table_rules.specs.Splitting.{is_done, step_table, trace_bit_at, halving_at, slots_stepped, slots_after, slots_begun}
use Rattle.table_rules.specs.Demand.{groups_after, step_count, Demand3}
use Rattle.table_rules.proofs.Counting.{count-bound}
use Rattle.table_rules.proofs.Soundness.{Valid, encode-sound, decode-encode, length-encode}
use Rattle.table_rules.proofs.Begun as T
use Rattle.table_rules.proofs.Finish.{finish-is}

module _ {Y : Layout} (L : Lawful Y) where
  -- one step more on slots
  pub slots-more : (n : ℕ) (l : List ℕ) → slots_after Y (suc n) l ≡ slots_stepped Y (slots_after Y n l)
  unfolding slots_after
  slots-more zero l = refl
  slots-more (suc n) l = slots-more n (slots_stepped Y l)

  -- a step on the slots of a valid table
  stepped-encode : {fields : ℕ → Bool} {limit : ℕ} {t : Table} → Valid fields limit t
      → slots_stepped Y (encode Y (slots_for limit) t) ≡ encode Y (slots_for limit) (step_table (halving_at t.width) t)
  unfolding slots_stepped
  stepped-encode {limit = limit} {t = t} v =
      ap₂ (λ (n : ℕ) (u : Table). encode Y n (step_table (halving_at u.width) u)) (length-encode L v) (decode-encode L (slots_for limit) t)

module _ (m : ℕ) (field : known m ≡ true) (c : ℕ) (positive : 1 ≤ c) (f : List ℕ) where
  abbrev B : BinaryField (G m) m 2
  B = known-field m field

  abbrev roots : List ℕ
  roots = roots_at m f

  below : Below (2 ^ m) roots
  below = roots_of-below (G m) (2 ^ m) f

  distinct : Distinct roots
  distinct = roots_of-distinct (G m) (2 ^ m) f

  valid : (limit : ℕ) → c ≤ highest_cutoff → length roots ≤ limit → (n : ℕ) → n ≤ step_count m c roots → Valid known limit (groups_after m c roots n)
  valid limit = T.begun-valid B c positive roots below distinct known limit field

  slots-after : {Y : Layout} → Lawful Y → (limit : ℕ) → c ≤ highest_cutoff → length roots ≤ limit → (n : ℕ) → n ≤ step_count m c roots
      → slots_after Y n (encode Y (slots_for limit) (groups_after m c roots 0)) ≡ encode Y (slots_for limit) (groups_after m c roots n)
  unfolding slots_after
  slots-after L limit most few zero h = refl
  slots-after {Y} L limit most few (suc n) h =
      slots-more L n (encode Y (slots_for limit) (groups_after m c roots 0)) ∙ ap (slots_stepped Y) (slots-after L limit most few n (omega arith))
      ∙ stepped-encode L (valid limit most few n (omega arith)) ∙ ap (encode Y (slots_for limit)) (T.step-next B c positive roots below distinct n)

  -- DEMAND 3, in each known field, at each cutoff from 1, for the distinct roots of any polynomial f: demand 2's root
  -- set
  pub demand-3 : Demand3 m c roots
  demand-3 = record {
    each = T.table-after B c roots below distinct;
    order = T.factors-are B c positive roots below distinct;
    level = T.factor-levels B c positive roots below distinct;
    before = λ n l. (T.not-done-before B c positive roots below distinct n l, T.never_stuck B c positive roots below distinct n l);
    end = T.done_at B c positive roots below distinct;
    bound = count-bound (trace_bit_at m) c m roots;
    finish = λ n. finish-is m 2 B.numbers c n roots below (roots_of-ascending (G m) (2 ^ m) f);
    sounds = λ L limit most few n h. encode-sound L known limit (groups_after m c roots n) (valid limit most few n h);
    slots = slots-after;
  }

  -- begin writes the groups after no step
  pub begin-slots : (Y : Layout) (slots : ℕ) → slots_begun Y slots m c f ≡ encode Y slots (groups_after m c roots 0)
  unfolding slots_begun
  begin-slots Y slots = ap (encode Y slots) (T.begin-is B c positive roots below distinct)

  -- a loop that stops where the table is done has taken that many steps
  pub steps-to-done : (n : ℕ) → n ≤ step_count m c roots → is_done (groups_after m c roots n) ≡ true → n ≡ step_count m c roots
  steps-to-done = T.done-only B c positive roots below distinct
