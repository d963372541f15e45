-- What finish finds before it writes.
--   admit-room, admit-unfit, admit-more, admit-done   each return of `admit`
--   refused-is, done-asks, listed-is    what a refusal and a pass decide
-- Assumes nothing.
use mathlib.Core.Path.{◌≡◌, refl, sym, ap, ap₂, ◌∙◌}
use mathlib.Core.Bool.{Bool, true, false, not, ◌||◌, true≢false}
use mathlib.Core.List.{List, [], ◌∷◌}
use Prim.Native.Nat.{ℕ, ◌≤◌, ◌<◌}
use borrow.Author.Tests.{lt-ltb, le-ltb, ltb-false}
use lib.Dec.{ltb}
use lib.ListN.{length}
use Rattle.refusals.specs.Order.{Given, Passed}
use Rattle.refusals.specs.Order.Passed.{none}
use Rattle.refusals.specs.Admitting.{Admits}
use Rattle.refusals.specs.declared.Refusal.{Refusal}
use Rattle.refusals.specs.declared.Refusal.TheVariants.{Room, NotDone}
use Rattle.refusals.proofs.Order.{holds, fails, passes, failed, others}
use Rattle.refusals.proofs.Order as order
use Rattle.input.specs.Limit.{limit}
use Rattle.table_rules.specs.Layout.{by_factor}
use Rattle.table_rules.specs.Splitting.{slots_done}
use Rattle.table_rules.specs.Sizes.{is_table_size, is_sound}
use Rattle.table_rules.proofs.Sizes.{size-exactly, sound-size}
use Rattle.table_slots.specs.Slots.{cutoff_of, Heads}
use Rattle.table_slots.specs.Walk.{sought_in}
use Rattle.table_slots.specs.declared.Head.{Head}
use Rattle.std.specs.Prelude.{Option, Some, None, Ok, Err}
use Rattle.table_slots.proofs.Finding.{seek-done, seek-at}
use Rattle.table_slots.specs.Verdicts.{Fit, Checks}
use Rattle.table_slots.specs.Verdicts.Checks.{short, unsound}
use Rattle.table_finish.specs.Calls.{finish_tests, finish_outcome, finish_memory}
use Rattle.table_finish.specs.Finishing.{Lendable, ListedIn}

-- ---- the returns of `admit`

module _ (l list : List ℕ) where
  -- refusal 7, for the list
  pub admit-room : length list < limit → Admits (finish_tests l list) (Err Room)
  admit-room h = holds (go (not (is_table_size (length l))) (lt-ltb (length list) limit h))
    where
      go : (a : Bool) {b : Bool} → b ≡ true → (a || b) ≡ true
      go true e = refl
      go false e = e

  module _ (enough : limit ≤ length list) where
    -- the list has room
    roomy : ltb (length list) limit ≡ false
    roomy = le-ltb (length list) limit enough

    -- test 7 is then that of the table
    first : {a : Bool} → not (is_table_size (length l)) ≡ a → (not (is_table_size (length l)) || ltb (length list) limit) ≡ a
    first {a} e = ap₂ (λ x y. x || y) e roomy ∙ go a
      where
        go : (a : Bool) → (a || false) ≡ a
        go true = refl
        go false = refl

    -- the refusal that the check found
    pub admit-unfit : {k : Refusal} → Checks l (Err k) → Admits (finish_tests l list) (Err k)
    admit-unfit (short n) = holds (first (ap not n))
    admit-unfit (unsound e u) = fails (first (ap not e)) (holds (ap not u))

    module _ {s : ℕ} (g : Fit l s) where
      -- test 7 fails
      long-enough : not (is_table_size (length l)) ≡ false
      long-enough = ap not ((size-exactly (length l)).1 (sound-size l g.sound))

      module _ {h : Head} (k : Heads l h) {f : Option ℕ} (e : f ≡ sought_in h.cutoff l) where
        -- at the cutoff of the slots
        sought : f ≡ sought_in (cutoff_of l) l
        sought = e ∙ ap (λ c. sought_in c l) k.cutoff

        -- refusal 10: there is a factor above the cutoff
        pub admit-more : {o : ℕ} → f ≡ Some o → Admits (finish_tests l list) (Err NotDone)
        admit-more a =
            fails (first long-enough) (fails (ap not g.sound) (holds (ap not (seek-at l g.sound sought a).more)))

        -- no refusal
        pub admit-done : f ≡ None → Admits (finish_tests l list) (Ok tt)
        admit-done n = passes (first long-enough) (passes (ap not g.sound) (passes (ap not (seek-done l g.sound sought n)) none))

-- ---- from there to what finish promises

module _ (l list : List ℕ) where
  -- a refusal writes nothing
  pub refused-is : {k : ℕ} → Given k (finish_tests l list) → ((k, []) ≡ finish_outcome l list) × (list ≡ finish_memory l list)
  refused-is g = (sym (order.refused _ g), sym (order.unwritten _ _ g))

  -- what the tests tell of the table and the list
  pub done-asks : Passed (finish_tests l list) → Lendable l list
  done-asks p = record {
    sound = unflip (is_sound l) (failed (others p));
    done = unflip (slots_done by_factor l) (failed (others (others p)));
    room = ltb-false (length list) limit (right (not (is_table_size (length l))) (failed p));
  }
    where
      unflip : (b : Bool) → not b ≡ false → b ≡ true
      unflip true e = refl
      unflip false e = sym e

      right : (a : Bool) {b : Bool} → (a || b) ≡ false → b ≡ false
      right true e = absurd (true≢false e)
      right false e = e

  -- the list is made
  pub listed-is : {k : ℕ} {list' : List ℕ} → Passed (finish_tests l list) → ListedIn l list k list'
      → ((0, k ∷ []) ≡ finish_outcome l list) × (list' ≡ finish_memory l list)
  listed-is p h = (ap (λ n. (0, n ∷ [])) h.count ∙ sym (order.accepted _ p), h.slots ∙ sym (order.written _ _ p))
