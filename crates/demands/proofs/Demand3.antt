-- DEMAND 3 holds of every polynomial that begin accepts: `Followed` of specs/Demand3.antt is the one record to read,
-- and table_rules' `Demand3` that it cites.
--   never-refused  no step on the table of a begun polynomial is refused
--   demand-3-calls it holds, of whatever table begin leaves
--   demand-3-stored  and of the tables of 100 slots that begin left before the limit rose
-- Assumes nothing.
use mathlib.Core.Path.{◌≡◌, refl, sym, ap, subst, ◌∙◌}
use mathlib.Core.Bool.{Bool, true, false, not, cond}
use mathlib.Core.List.{List, [], ◌∷◌}
use Prim.Native.Nat.{ℕ, zero, suc, ◌<◌, ◌≤◌}
use native.Mathlib.Decide.{dec_le, dec_lt}
use native.Mathlib.Omega.{arith}
use borrow.Author.Tests.{le-ltb, ltb-false}
use lib.Dec.{ltb}
use lib.ListN.{length}
use Rattle.refusals.specs.Admitting.{told}
use Rattle.std.specs.Prelude.{⊤, Result, Ok}
use Rattle.refusals.specs.declared.Refusal.{Refusal}
use Rattle.refusals.specs.Order.{Passed}
use Rattle.refusals.specs.Order.Passed.{none as none_left}
use Rattle.refusals.proofs.Order.{accepted, written, passes, failed}
use Rattle.slices.specs.Lists.{copied}
use Rattle.input.specs.Cutoff.{highest_cutoff, house_default, in_force}
use Rattle.input.proofs.Cutoff.{in_force-least, in_force-most}
use Rattle.input.specs.Limit.{limit}
use Rattle.input.specs.Polynomials.{polynomial_tests, PolynomialIn}
use Rattle.input.proofs.Polynomials.{polynomial-told, roots_few, roots-shorter, passed-more, passed_first, passed-rest}
use Rattle.table_rules.specs.Layout.{by_factor}
use Rattle.field.specs.Field.{roots_at}
use Rattle.table_rules.specs.Splitting.{is_done, stuck, slots_done, slots_stuck, slots_stepped, slots_roots}
use Rattle.table_rules.specs.Table.{slots_for}
use Rattle.table_rules.specs.Demand.{Demand3, groups_after, groups_under, groups_slots}
use Rattle.table_rules.proofs.Layouts.{by_factor-lawful}
use Rattle.table_rules.proofs.Soundness.{done-encode, stuck-encode, roots-encode}
use Rattle.table_rules.proofs.Sizes.{limit-new, limit-stored, size-exactly, sound-size, sound-under}
use Rattle.table_rules.proofs.Demand.{demand-3, begin-slots, slots-more}
use Rattle.table_rules.specs.Sizes.{slots, stored_limit, is_table_size, limit_for, is_sound}
use Rattle.table_begin.specs.Calls.{begin_tests, Begins}
use Rattle.table_begin.proofs.Coincide.{begun-told}
use Rattle.table_step.specs.Calls.{step_tests, step_outcome, step_memory, stepped_values, Steps}
use Rattle.table_step.specs.declared.Stepped.{Stepped}
use Rattle.table_step.specs.declared.Stepped.TheVariants.{Taken, Done}
use Rattle.table_step.proofs.Coincide.{stepped-told}
use Rattle.table_finish.specs.Calls.{finish_tests, finish_outcome, finish_memory}
use Rattle.table_finish.proofs.Coincide.{finished-told}
use Rattle.find_solve.proofs.Coincide.{solved-told}
use Rattle.table_rules.specs.Demand.{steps_at}
use Rattle.find_solve.specs.Calls.{solve_tests}
use Rattle.demands.specs.Demand3.{After, stored_begun, Followed}
use Rattle.demands.specs.Demand3.After.{start, call}

-- what so many steps leave of a table
unfoldable after_steps : ℕ → List ℕ → List ℕ
after_steps zero table = table
after_steps (suc n) table = step_memory (after_steps n table)

-- and so do so many calls that the contract of step admits
after_is : {table t : List ℕ} {n : ℕ} → After table n t → t ≡ after_steps n table
unfolding after_steps
after_is start = refl
after_is (call u r a h) = h.1 ∙ ap step_memory (after_is a)

-- under a limit that is told by the size that it makes
module _ (lim : ℕ) (own : limit_for (slots_for lim) ≡ lim) (m c : ℕ) (f : List ℕ) (p : Passed (polynomial_tests m f ((6, ltb highest_cutoff c) ∷ [])))
    (few : length (roots_at m f) ≤ lim) where
  -- the cutoff in force, the number of steps, and the table after n of them
  abbrev k : ℕ
  k = in_force c

  abbrev count : ℕ
  count = steps_at m c f

  abbrev at : ℕ → List ℕ
  at n = groups_under lim m k f n

  known_as : PolynomialIn m f
  known_as = polynomial-told m f p

  cutoff-most : c ≤ highest_cutoff
  cutoff-most = ltb-false highest_cutoff c (failed (passed-rest m f p))

  most : k ≤ highest_cutoff
  most = in_force-most house_default c (omega arith) cutoff-most

  D : Demand3 m k (roots_at m f)
  D = demand-3 m known_as.field k (in_force-least house_default c (omega arith)) f

  -- each is sound, and so has the size of a table
  sound-at : (n : ℕ) → n ≤ count → is_sound (at n) ≡ true
  sound-at n h = sound-under lim own (at n) (D.sounds by_factor-lawful lim most few n h)

  size-at : (n : ℕ) → n ≤ count → is_table_size (length (at n)) ≡ true
  size-at n h = (size-exactly (length (at n))).1 (sound-size (at n) (sound-at n h))

  -- whether it is done
  done_at : (n : ℕ) {b : Bool} → is_done (groups_after m k (roots_at m f) n) ≡ b → slots_done by_factor (at n) ≡ b
  done_at n e = done-encode by_factor-lawful (slots_for lim) (groups_after m k (roots_at m f) n) ∙ e

  -- 9 is not given: after fewer steps it is not met, and where the table is done it is not given
  stuck_at : (n : ℕ) → n ≤ count → slots_stuck by_factor (at n) ≡ false
  stuck_at n h = stuck-encode by_factor-lawful (slots_for lim) (groups_after m k (roots_at m f) n) ∙ go (dec_lt n count)
    where
      go : Dec (n < count) → stuck (groups_after m k (roots_at m f) n) ≡ false
      go (yes l) = (D.before n l).1
      go (no l) =
          let e : n ≡ count = omega arith in
          let d : is_done (groups_after m k (roots_at m f) n) ≡ true = ap (λ (i : ℕ). is_done (groups_after m k (roots_at m f) i)) e ∙ D.end in
          rw d refl

  -- a step is not refused
  never-refused : (n : ℕ) → n ≤ count → Passed (step_tests (at n))
  never-refused n h = passes (ap not (size-at n h)) (passes (ap not (sound-at n h)) (passes (stuck_at n h) none_left))

  -- what a step answers and leaves
  step-answers : (n : ℕ) (b : Bool) → n ≤ count → slots_done by_factor (at n) ≡ b → step_outcome (at n) ≡ (0, cond b 1 0 ∷ [])
  step-answers n b h e = accepted _ (never-refused n h) ∙ ap (λ (d : Bool). (0, cond d 1 0 ∷ [])) e

  step-leaves : (n : ℕ) (b : Bool) → n ≤ count → slots_done by_factor (at n) ≡ b → step_memory (at n) ≡ cond b (at n) (slots_stepped by_factor (at n))
  step-leaves n b h e = written _ _ (never-refused n h) ∙ ap (λ (d : Bool). cond d (at n) (slots_stepped by_factor (at n))) e

  -- a step that is taken goes to the next table
  next : (n : ℕ) → n < count → step_memory (at n) ≡ at (suc n)
  next n h =
      step-leaves n false (omega arith) (done_at n (D.before n h).0)
      ∙ ap (slots_stepped by_factor) (sym (D.slots by_factor-lawful lim most few n (omega arith)))
      ∙ sym (slots-more by_factor-lawful n (at 0)) ∙ D.slots by_factor-lawful lim most few (suc n) h

  each : (n : ℕ) → n ≤ count → after_steps n (at 0) ≡ at n
  unfolding after_steps
  each zero h = refl
  each (suc n) h = ap step_memory (each n (omega arith)) ∙ next n (omega arith)

  done_end : slots_done by_factor (at count) ≡ true
  done_end = done_at count D.end

  -- nothing is written any more
  still : (n : ℕ) → count ≤ n → after_steps n (at 0) ≡ at count
  unfolding after_steps
  still zero h = let e : 0 ≡ count = omega arith in ap at e
  still (suc n) h = go (dec_le count n) (λ l. ap step_memory (still n l) ∙ step-leaves count true (omega arith) done_end)
    where
      go : Dec (count ≤ n) → (count ≤ n → step_memory (after_steps n (at 0)) ≡ at count) → step_memory (after_steps n (at 0)) ≡ at count
      go (yes l) on = on l
      go (no l) on = let e : suc n ≡ count = omega arith in each (suc n) (omega arith) ∙ ap at e

  -- the table at the end, for finish
  end-roots : slots_roots by_factor (at count) ≡ roots_at m f
  end-roots = roots-encode by_factor-lawful (slots_for lim) (groups_after m k (roots_at m f) count) ∙ D.finish count

  finish-passes : (list : List ℕ) → limit ≤ length list → Passed (finish_tests (at count) list)
  finish-passes list h =
      let a : not (is_table_size (length (at count))) ≡ false = ap not (size-at count (omega arith)) in
      let b : ltb (length list) limit ≡ false = le-ltb (length list) limit h in
      passes (rw a (rw b refl)) (passes (ap not (sound-at count (omega arith))) (passes (ap not done_end) none_left))

  solve-passes : (list mults : List ℕ) → limit ≤ length list → limit ≤ length mults → Passed (solve_tests m c f list mults)
  solve-passes list mults h k =
      passed-more m f (passed_first m f p)
      (passes (failed (passed-rest m f p)) (passes (le-ltb (length list) limit h) (passes (le-ltb (length mults) limit k) none_left)))

  at-end : after_steps count (at 0) ≡ at count
  at-end = each count (omega arith)

  lists : (list : List ℕ) → limit ≤ length list → finish_memory (after_steps count (at 0)) list ≡ copied (roots_at m f) list
  lists list h =
      ap (λ (t : List ℕ). finish_memory t list) at-end ∙ written _ list (finish-passes list h) ∙ ap (λ (r : List ℕ). copied r list) end-roots

  -- what a call of step answers where n steps were taken
  answers_at : {n : ℕ} {t : List ℕ} (u : List ℕ) (r : Result Stepped Refusal) → After (at 0) n t → Steps t r u → told stepped_values r ≡ step_outcome (after_steps n (at 0))
  answers_at u r a h = h.0 ∙ ap step_outcome (after_is a)

  -- from the table of all roots, under that limit
  followed : Followed lim m c f (at 0)
  followed = record {
    groups = D;
    each = λ n t l a. after_is a ∙ each n l;
    taken = λ n t u r l a s. stepped-told r (Ok Taken)
        (answers_at u r a s ∙ ap step_outcome (each n (omega arith)) ∙ step-answers n false (omega arith) (done_at n (D.before n l).0));
    done = λ n t u r l a s. (
      stepped-told r (Ok Done) (answers_at u r a s ∙ ap step_outcome (still n l) ∙ step-answers count true (omega arith) done_end),
      after_is (call u r a s) ∙ still (suc n) (omega arith) ∙ sym (after_is a ∙ still n l),
    );
    still = λ n t l a. after_is a ∙ still n l;
    bound = D.bound;
    finish-gives = λ t list r after a l h. (
      finished-told r (Ok (length (roots_at m f))) (h.0 ∙ ap (λ (t : List ℕ). finish_outcome t list) (after_is a ∙ at-end)
          ∙ accepted _ (finish-passes list l) ∙ ap (λ (r : List ℕ). (0, length r ∷ [])) end-roots),
      h.1 ∙ ap (λ (t : List ℕ). finish_memory t list) (after_is a) ∙ lists list l,
    );
    whole-gives = λ t list mults r s x y u a l n h k. (
      solved-told s (Ok (record { s = length (roots_at m f); steps = count })) (k.answer ∙ accepted _ (solve-passes list mults l n)),
      k.list ∙ written _ list (solve-passes list mults l n) ∙ sym (h.1 ∙ ap (λ (t : List ℕ). finish_memory t list) (after_is a) ∙ lists list l),
    );
  }

-- of whatever table begin leaves
pub demand-3-calls : (m c : ℕ) (f table : List ℕ) → Passed (begin_tests m c f table) → (r : Result ⊤ Refusal) (b : List ℕ) → Begins m c f table r b
    → (r ≡ Ok tt) × Followed limit m c f b
demand-3-calls m c f table p r b h =
    let q : Passed (polynomial_tests m f ((6, ltb highest_cutoff c) ∷ [])) =
    passed-more m f (passed_first m f p) (passes (failed (passed-rest m f p)) none_left) in
    let known_as : PolynomialIn m f = polynomial-told m f p in
    let e : b ≡ groups_slots m (in_force c) f 0 =
    h.1 ∙ written _ table p ∙ begin-slots m known_as.field (in_force c) (in_force-least house_default c (omega arith)) f by_factor slots in
    (begun-told r (Ok tt) (h.0 ∙ accepted [] p), subst (Followed limit m c f) (sym e) (followed limit (limit-new refl) m c f q (roots_few known_as)))

-- of the table that begin left of a polynomial within the limit of its time
pub demand-3-stored : (m c : ℕ) (f : List ℕ) → Passed (polynomial_tests m f ((6, ltb highest_cutoff c) ∷ [])) → length f ≤ suc stored_limit
    → Followed stored_limit m c f (stored_begun m c f)
demand-3-stored m c f p h = followed stored_limit limit-stored m c f p (omega (arith, roots-shorter (polynomial-told m f p)))
