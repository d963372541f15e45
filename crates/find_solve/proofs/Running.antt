-- A begun table is stepped until it is done: what the engine's loop keeps.
--   found_none, found_at   what is found of the next step
--   begun-after     the table after n steps is one that steps alone wrote
--   run_on, run_end   a step, and the end
-- Assumes nothing.
use mathlib.Core.Path.{◌≡◌, refl, sym, ap, ◌∙◌, subst}
use mathlib.Core.Bool.{Bool, true, false}
use mathlib.Core.List.{List}
use Prim.Native.Nat.{ℕ, zero, suc, ◌≤◌, ◌<◌}
use native.Mathlib.Decide.{dec_lt}
use native.Mathlib.Omega.{arith}
use lib.ListN.{length}
use Rattle.input.specs.Cutoff.{highest_cutoff}
use Rattle.input.specs.Polynomials.{PolynomialIn}
use Rattle.input.proofs.Polynomials.{roots_few}
use Rattle.input.specs.Limit.{limit}
use Rattle.table_rules.specs.Layout.{by_factor}
use Rattle.table_rules.specs.Table.{encode}
use Rattle.table_rules.specs.Splitting.{is_done, stuck, slots_roots, slots_done, slots_stuck, slots_stepped, slots_after}
use Rattle.table_rules.specs.Demand.{Demand3, step_count, groups_after, groups_slots}
use Rattle.table_rules.proofs.Sizes.{limit-new, sound-under}
use Rattle.table_rules.proofs.Layouts.{by_factor-lawful}
use Rattle.table_rules.proofs.Soundness.{done-encode, stuck-encode, roots-encode}
use Rattle.table_rules.proofs.Keeping.{sound-length}
use Rattle.table_rules.proofs.Demand.{demand-3, steps-to-done}
use Rattle.table_rules.specs.Sizes.{slots, is_sound}
use Rattle.find_solve.specs.Solving.{Stepping, RunOut, Solvable}
use Rattle.field.specs.Field.{roots_at}
use Rattle.table_finish.specs.Finishing.{Listable}
use Rattle.table_slots.specs.Verdicts.{Chosen}
use Rattle.table_slots.specs.Slots.{width_of, cutoff_of, taken_of}
use Rattle.table_slots.specs.Walk.{sought_in}
use Rattle.std.specs.Prelude.{Option, Some, None}
use Rattle.table_slots.proofs.Finding.{seek-done, seek-at}

-- one step more on slots
after_more : (n : ℕ) (l : List ℕ) → slots_after by_factor (suc n) l ≡ slots_stepped by_factor (slots_after by_factor n l)
unfolding slots_after
after_more zero l = refl
after_more (suc n) l = after_more n (slots_stepped by_factor l)

-- the head counts the steps
pub taken_at : (m c : ℕ) (f : List ℕ) (n : ℕ) → taken_of (groups_slots m c f n) ≡ n
unfolding encode
taken_at m c f n = refl

-- the table after n steps is one that steps alone wrote
pub begun-after : {m c : ℕ} {f : List ℕ} → PolynomialIn m f → 1 ≤ c → c ≤ highest_cutoff → (n : ℕ) → n ≤ step_count m c (roots_at m f) → Stepping m c f (groups_slots m c f n)
begun-after {m} {c} {f} t least most n h = record {
  field = t.field;
  least = least;
  most = most;
  few = roots_few t;
  taken = subst (λ (i : ℕ). i ≤ step_count m c (roots_at m f)) (sym (taken_at m c f n)) h;
  slots-are = ap (groups_slots m c f) (sym (taken_at m c f n));
}

module _ {m c : ℕ} {f table : List ℕ} (s : Stepping m c f table) where
  n : ℕ
  n = taken_of table

  count : ℕ
  count = step_count m c (roots_at m f)

  D : Demand3 m c (roots_at m f)
  D = demand-3 m s.field c s.least f

  sound-now : is_sound table ≡ true
  unfolding n count
  sound-now =
      ap is_sound s.slots-are
      ∙ sound-under limit (limit-new refl) (groups_slots m c f n) (D.sounds by_factor-lawful limit s.most s.few n s.taken)

  pub long-now : length table ≡ slots
  unfolding n count
  long-now =
      ap length s.slots-are ∙ sound-length by_factor-lawful limit (groups_slots m c f n) (D.sounds by_factor-lawful limit s.most s.few n s.taken)

  -- the head names the field
  pub width-now : width_of table ≡ m
  unfolding n encode
  width-now = ap width_of s.slots-are

  -- and the cutoff
  cutoff-now : cutoff_of table ≡ c
  unfolding n encode
  cutoff-now = ap cutoff_of s.slots-are

  done-now : slots_done by_factor table ≡ is_done (groups_after m c (roots_at m f) n)
  unfolding n
  done-now = ap (slots_done by_factor) s.slots-are ∙ done-encode by_factor-lawful slots (groups_after m c (roots_at m f) n)

  -- after fewer steps 9 is not met, and where the table is done it is not given
  stuck-now : slots_stuck by_factor table ≡ false
  unfolding n count
  stuck-now = ap (slots_stuck by_factor) s.slots-are ∙ stuck-encode by_factor-lawful slots (groups_after m c (roots_at m f) n) ∙ go (dec_lt n count)
    where
      go : Dec (n < count) → stuck (groups_after m c (roots_at m f) n) ≡ false
      go (yes h) = (D.before n h).1
      go (no h) =
          let t = s.taken in
          let e : n ≡ count = omega arith in
          let d : is_done (groups_after m c (roots_at m f) n) ≡ true = ap (λ (k : ℕ). is_done (groups_after m c (roots_at m f) k)) e ∙ D.end in
          rw d refl

  -- where nothing is found the table is done
  pub found_none : {r : Option ℕ} → r ≡ sought_in c table → r ≡ None → slots_done by_factor table ≡ true
  found_none e f = seek-done table sound-now (e ∙ ap (λ (k : ℕ). sought_in k table) (sym cutoff-now)) f

  -- and what is found is the place of the next step
  pub found_at : {r : Option ℕ} {o : ℕ} → r ≡ sought_in c table → r ≡ Some o → Chosen table o
  found_at e f =
      let w = seek-at table sound-now (e ∙ ap (λ (k : ℕ). sought_in k table) (sym cutoff-now)) f in
      record { sound = sound-now; free = stuck-now; more = w.more; at = w.here }

  -- a table that is not done has a step to take
  step_left : slots_done by_factor table ≡ false → n < count
  unfolding n count
  step_left h = go (dec_lt n count)
    where
      go : Dec (n < count) → n < count
      go (yes l) = l
      go (no l) =
          let t = s.taken in
          let e : n ≡ count = omega arith in
          let z : ◌≡◌ {A = Bool} true false = sym (ap (λ (k : ℕ). is_done (groups_after m c (roots_at m f) k)) e ∙ D.end) ∙ sym done-now ∙ h in
          let b : ◌≡◌ {A = ℕ} 0 1 = cc in absurd (let x : ⊥ = omega arith in x)

  -- a step goes to the next table
  next-is : slots_done by_factor table ≡ false → slots_stepped by_factor table ≡ groups_slots m c f (suc n)
  unfolding n count
  next-is h =
      let l = step_left h in
      ap (slots_stepped by_factor) (s.slots-are ∙ sym (D.slots by_factor-lawful limit s.most s.few n s.taken))
      ∙ sym (after_more n (groups_slots m c f 0)) ∙ D.slots by_factor-lawful limit s.most s.few (suc n) l

  pub run_on : {table' : List ℕ} → slots_done by_factor table ≡ false → table' ≡ slots_stepped by_factor table → Stepping m c f table'
  unfolding n count
  run_on {table'} h e =
      let to : table' ≡ groups_slots m c f (suc n) = e ∙ next-is h in
      let k : taken_of table' ≡ suc n = ap taken_of to ∙ taken_at m c f (suc n) in
      let l = step_left h in
      record {
        field = s.field;
        least = s.least;
        most = s.most;
        few = s.few;
        taken = subst (λ (i : ℕ). i ≤ step_count m c (roots_at m f)) (sym k) l;
        slots-are = to ∙ ap (groups_slots m c f) (sym k);
      }

  pub run-count : {table' : List ℕ} → slots_done by_factor table ≡ false → table' ≡ slots_stepped by_factor table → taken_of table' ≡ suc (taken_of table)
  unfolding n
  run-count {table'} h e = ap taken_of (e ∙ next-is h) ∙ taken_at m c f (suc n)

  pub run-left : slots_done by_factor table ≡ false → taken_of table < step_count m c (roots_at m f)
  unfolding n count
  run-left = step_left

  pub run_end : slots_done by_factor table ≡ true → RunOut m c f table
  unfolding n count
  run_end h =
      let e : n ≡ count = steps-to-done m s.field c s.least f n s.taken (sym done-now ∙ h) in
      record { slots-are = s.slots-are ∙ ap (groups_slots m c f) e }

-- ---- at the end

-- the table that is done is a begun one too
out-stepping : {m c : ℕ} {f table table' : List ℕ} → Stepping m c f table → RunOut m c f table' → Stepping m c f table'
out-stepping {m} {c} {f} {table' = table'} s r =
    let n : ℕ = step_count m c (roots_at m f) in
    let k : taken_of table' ≡ n = ap taken_of r.slots-are ∙ taken_at m c f n in
    record {
      field = s.field;
      least = s.least;
      most = s.most;
      few = s.few;
      taken = subst (λ (i : ℕ). i ≤ n) (sym k) (omega arith);
      slots-are = r.slots-are ∙ ap (groups_slots m c f) (sym k);
    }

pub out-taken : {m c : ℕ} {f table : List ℕ} → RunOut m c f table → taken_of table ≡ step_count m c (roots_at m f)
out-taken {m} {c} {f} r = ap taken_of r.slots-are ∙ taken_at m c f (step_count m c (roots_at m f))

-- what finish asks of it
pub out-asks : {m c : ℕ} {f hs table table' roots : List ℕ} → Solvable m c f hs roots → Stepping m c f table → RunOut m c f table'
    → Listable m hs table' roots
unfolding n
out-asks {m} {c} {f} {hs = hs} {table' = table'} g s r =
    let t = out-stepping s r in
    record {
      given = record {
        sound = sound-now t;
        done = ap (slots_done by_factor) r.slots-are ∙ done-encode by_factor-lawful slots (groups_after m c (roots_at m f) (step_count m c (roots_at m f)))
            ∙ (demand-3 m s.field c s.least f).end;
        room = g.room;
      };
      width = sym (width-now t);
      halves = g.halves;
    }

-- what finish lists is the roots
pub out-roots : {m c : ℕ} {f table table' : List ℕ} → Stepping m c f table → RunOut m c f table' → slots_roots by_factor table' ≡ roots_at m f
out-roots {m} {c} {f} s r =
    let k : ℕ = step_count m c (roots_at m f) in
    ap (slots_roots by_factor) r.slots-are ∙ roots-encode by_factor-lawful slots (groups_after m c (roots_at m f) k) ∙ (demand-3 m s.field c s.least f).finish k
