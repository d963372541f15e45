-- What the tests of the writer find.
--   long-given, element-given, order-given, cutoff-given, room-given   the first test that holds;  all_in  none holds
--   writable   what is known of what was let in
-- Assumes nothing.
use mathlib.Core.Path.{◌≡◌, sym, ap, ◌∙◌}
use mathlib.Core.Bool.{Bool, true, false, not}
use mathlib.Core.List.{List, ◌∷◌}
use Prim.Native.Nat.{ℕ, ◌^◌, ◌≤◌, ◌<◌}
use borrow.Author.Tests.{lt-ltb, le-ltb, ltb-false, not-false}
use lib.Dec.{ltb}
use lib.ListN.{length}
use Rattle.refusals.specs.Order.{Given, Passed}
use Rattle.refusals.specs.Order.Passed.{none}
use Rattle.refusals.proofs.Order.{holds, fails, passes, failed, others}
use Rattle.field.specs.Rows.{IsRow, known}
use Rattle.field.specs.declared.rows.Row.{Row}
use Rattle.field.proofs.Known.{listed-on}
use Rattle.slices.specs.Bounded.{all_below}
use Rattle.slices.proofs.Bounded.{all_below-exactly}
use Rattle.input.specs.Cutoff.{highest_cutoff}
use Rattle.input.specs.Limit.{limit}
use Rattle.job_writer.specs.Records.{length_for}
use Rattle.job_writer.specs.Calls.{ascends, write_tests, Writable}
use Rattle.job_writer.proofs.RootOrder.{ascends-exactly}

module _ {m : ℕ} {row : Row} (c : ℕ) (roots : List ℕ) (room : ℕ) (i : IsRow m row) where
  pub long-given : limit < length roots → Given 3 (write_tests m c roots room)
  long-given h = fails (listed-on i) (holds (lt-ltb limit (length roots) h))

  module _ (f : length roots ≤ limit) where
    at_size : {b : Bool} → b ≡ all_below row.size roots → all_below (2 ^ m) roots ≡ b
    at_size h = ap (λ q. all_below q roots) (sym i.size) ∙ sym h

    -- the tests before the one on the elements
    few : {k : ℕ} {ts : List (ℕ × Bool)} → Given k ts
        → Given k ((1, not (known m)) ∷ (3, ltb limit (length roots)) ∷ ts)
    few g = fails (listed-on i) (fails (le-ltb limit (length roots) f) g)

    pub element-given : {b : Bool} → b ≡ all_below row.size roots → not b ≡ true → Given 4 (write_tests m c roots room)
    element-given h t = few (holds (ap not (at_size h) ∙ t))

    module _ {b : Bool} (h : b ≡ all_below row.size roots) (t : not b ≡ false) where
      inside : not (all_below (2 ^ m) roots) ≡ false
      inside = ap not (at_size h) ∙ t

      pub order-given : {a : Bool} → a ≡ ascends roots → not a ≡ true → Given 25 (write_tests m c roots room)
      order-given e n = few (fails inside (holds (ap not (sym e) ∙ n)))

      module _ {a : Bool} (e : a ≡ ascends roots) (o : not a ≡ false) where
        pub cutoff-given : highest_cutoff < c → Given 6 (write_tests m c roots room)
        cutoff-given l = few (fails inside (fails (ap not (sym e) ∙ o) (holds (lt-ltb highest_cutoff c l))))

        module _ (l : c ≤ highest_cutoff) where
          pub room-given : room < length_for (length roots) → Given 7 (write_tests m c roots room)
          room-given r =
              few (fails inside (fails (ap not (sym e) ∙ o) (fails (le-ltb highest_cutoff c l)
              (holds (lt-ltb room (length_for (length roots)) r)))))

          pub all_in : length_for (length roots) ≤ room → Passed (write_tests m c roots room)
          all_in r =
              passes (listed-on i) (passes (le-ltb limit (length roots) f) (passes inside (passes (ap not (sym e) ∙ o)
              (passes (le-ltb highest_cutoff c l) (passes (le-ltb room (length_for (length roots)) r) none)))))

-- what was let in passed every test
pub writable : {m c : ℕ} {roots room : List ℕ} → Passed (write_tests m c roots (length room)) → Writable m c roots room
writable {m} {c} {roots} {room} p =
    let q = others p in
    let r = others q in
    let s = others r in
    let t = others s in
    record {
      field = not-false _ (failed p);
      few = ltb-false limit (length roots) (failed q);
      small = (all_below-exactly (2 ^ m) roots).0 (not-false _ (failed r));
      order = (ascends-exactly roots).0 (not-false _ (failed s));
      cutoff = ltb-false highest_cutoff c (failed t);
      fits = ltb-false (length room) (length_for (length roots)) (failed (others t));
    }
