-- What the tests of `degrees` tell of the table: a sum is answered exactly where it is sound, and it is that of its
-- factors.
--   deny-field, deny-low, deny-high, deny-walk, deny-steps   a test that fails: the table is not sound
--   few      the sum is at most the limit
--   accept   no test fails: the table is sound, and the sum is that of its degrees
-- Assumes nothing.
use mathlib.Core.Path.{◌≡◌, refl, sym, ap, ◌∙◌}
use mathlib.Core.Bool.{Bool, true, false, cond, true≢false}
use mathlib.Core.List.{List}
use Prim.Native.Nat.{ℕ, suc, ◌-◌, ◌*◌, ◌/◌, ◌^◌, ◌≤◌, ◌<◌}
use native.Mathlib.Omega.{arith}
use lib.ListN.{length, take, drop, replicate, length-drop}
use Rattle.field.specs.Rows.{known, IsRow, row_at}
use Rattle.field.specs.declared.rows.Row.{Row}
use Rattle.field.proofs.Known.{row-known, row-unknown}
use Rattle.input.specs.Cutoff.{highest_cutoff}
use Rattle.input.specs.Limit.{limit}
use Rattle.table_rules.specs.Layout.{factor_slots, degree_sum, stated_sum, read_blocks, by_factor, fair_blocks}
use Rattle.table_rules.specs.Table.{Table, head_slots, slots_for, step_limit, encode, decode}
use Rattle.table_rules.proofs.Sizes.{limit-most}
use Rattle.table_rules.proofs.Layouts.{by_factor-lawful}
use Rattle.table_rules.proofs.Soundness.{stated-sum, sound-encoded}
use Rattle.table_rules.proofs.Scanning.{ScanPassed, scan-exactly, sound-by-pass}
use Rattle.table_rules.specs.Places.{spare}
use Rattle.table_rules.specs.Sizes.{limit_by, is_sound}
use Rattle.table_slots.specs.Slots.{width_of, cutoff_of, count_of, taken_of}
use Rattle.table_slots.specs.Walk.{tally, summed}
use Rattle.std.specs.Prelude.{Option, Some, None}
use Rattle.table_slots.proofs.Passes.{rest}

module _ (l : List ℕ) where
  -- the table that the slots hold
  abbrev t : Table
  t = decode by_factor l

  -- what its slots state of its degrees
  abbrev stated-degrees : ℕ
  stated-degrees = stated_sum (read_blocks (count_of l) (drop head_slots l))

  -- a table that is not sound
  deny : (ScanPassed known (limit_by l) l → ⊥) → None ≡ summed l
  unfolding summed
  deny n = go (is_sound l) refl
    where
      go : (b : Bool) → is_sound l ≡ b → None ≡ cond b (Some (degree_sum t.factors)) None
      go true e = absurd (n ((sound-by-pass known (limit_by l) l).0 e))
      go false e = refl

  -- of a sound table they are its degrees
  degrees-stated : is_sound l ≡ true → stated-degrees ≡ degree_sum t.factors
  unfolding encode
  degrees-stated s =
      ap (λ u. stated_sum (read_blocks (count_of u) (drop head_slots u))) (sym (sound-encoded by_factor-lawful known (limit_by l) l s))
      ∙ ap stated_sum (by_factor-lawful.read-write t.factors (replicate (spare (slots_for (limit_by l)) t) 0)) ∙ stated-sum t.factors

  -- the field is not known
  pub deny-field : {r : Option Row} → r ≡ row_at (width_of l) → r ≡ None → None ≡ summed l
  deny-field e u = deny (λ s. true≢false (sym s.field ∙ row-unknown (width_of l) (sym e ∙ u)))

  -- the cutoff is 0
  pub deny-low : cutoff_of l < 1 → None ≡ summed l
  deny-low h = deny (λ s. omega (arith, s.cutoff-least))

  -- the cutoff is above the highest
  pub deny-high : highest_cutoff < cutoff_of l → None ≡ summed l
  deny-high h = deny (λ s. omega (arith, s.cutoff-most))

  module _ {f : Option Row} (e : f ≡ row_at (width_of l)) {row : Row} (at : f ≡ Some row) where
    -- the row is that of slot 0
    is_row : IsRow (width_of l) row
    is_row = row-known (width_of l) (sym e ∙ at)

    -- what `walk` may take for granted
    pub walk-asks : {lim : ℕ} → lim ≡ limit_by l → length l ≡ slots_for (limit_by l)
        → (row.size ≡ 2 ^ width_of l) × (suc factor_slots * lim ≤ length (take (length l - head_slots) (drop head_slots l)))
    walk-asks k h = (is_row.size, omega (arith, ap length (rest l head_slots), length-drop head_slots l))

    module _ {lim : ℕ} (under : lim ≡ limit_by l) {r : Option ℕ}
        (w : r ≡ tally (width_of l) lim (count_of l) (take (length l - head_slots) (drop head_slots l))) where
      -- what `walk` answers: the sum where the pass finds nothing against the rules
      walked : r ≡ cond (fair_blocks (width_of l) (limit_by l) (count_of l) (drop head_slots l)) (Some stated-degrees) None
      unfolding tally
      walked = w ∙ ap (λ n. tally (width_of l) n (count_of l) (take (length l - head_slots) (drop head_slots l))) under
          ∙ ap (tally (width_of l) (limit_by l) (count_of l)) (rest l head_slots)

      -- the pass found a rule broken
      pub deny-walk : r ≡ None → None ≡ summed l
      deny-walk u = deny (λ s.
          let q : r ≡ Some stated-degrees = walked ∙ ap (λ b. cond b (Some stated-degrees) None) s.pass in
          cc)

      module _ {sum : ℕ} (o : r ≡ Some sum) where
        -- the pass found none broken, and gave the sum of what is stated
        found : (fair_blocks (width_of l) (limit_by l) (count_of l) (drop head_slots l) ≡ true) × (sum ≡ stated-degrees)
        found = go (fair_blocks (width_of l) (limit_by l) (count_of l) (drop head_slots l)) (sym o ∙ walked)
          where
            go : (b : Bool) → Some sum ≡ cond b (Some stated-degrees) None → (b ≡ true) × (sum ≡ stated-degrees)
            go true q = (refl, cc)
            go false q = absurd cc

        -- the sum is at most the limit
        pub few : sum ≤ limit
        few = omega (arith, limit-most (length l), found.1, ((scan-exactly (width_of l) (limit_by l) (count_of l) (drop head_slots l)).0 found.0).sum)

        -- the limit of slot 3, by the sum
        limit_is : width_of l * (sum / suc (cutoff_of l)) ≡ step_limit (width_of l) (cutoff_of l) stated-degrees
        limit_is = ap (λ z. width_of l * (z / suc (cutoff_of l))) found.1

        -- slot 3 is above its limit
        pub deny-steps : width_of l * (sum / suc (cutoff_of l)) < taken_of l → None ≡ summed l
        deny-steps h = deny (λ s. omega (arith, s.steps, limit_is))

        -- no test fails
        pub accept : length l ≡ slots_for (limit_by l) → 1 ≤ cutoff_of l → cutoff_of l ≤ highest_cutoff → taken_of l ≤ width_of l * (sum / suc (cutoff_of l)) → Some sum ≡ summed l
        unfolding summed
        accept h low high lim =
            let s : is_sound l ≡ true =
            (sound-by-pass known (limit_by l) l).1 (record {
              size = h;
              field = is_row.list.degree;
              cutoff-least = low;
              cutoff-most = high;
              pass = found.0;
              steps = omega (arith, limit_is);
            }) in
            rw s (ap Some (found.1 ∙ degrees-stated s))
