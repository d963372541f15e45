-- What the tests of the call find.
--   count-given, element-given, constant-given, room-given   the first test that holds;  all_in  none holds
--   told-in   what is known of what was let in
-- Assumes nothing.
use mathlib.Core.Path.{◌≡◌, sym, ap, ◌∙◌}
use mathlib.Core.Bool.{Bool, true, false, not, ◌||◌}
use mathlib.Core.List.{List}
use Prim.Native.Nat.{ℕ, ◌^◌, ◌≤◌, ◌<◌}
use native.Mathlib.Omega.{arith}
use borrow.Author.Tests.{eq-eqb, ne_eqb, lt-ltb, le-ltb}
use lib.Dec.{eqb, ltb}
use lib.ListN.{length}
use Rattle.refusals.specs.Order.{Given, Passed}
use Rattle.refusals.specs.Order.Passed.{none}
use Rattle.refusals.proofs.Order.{holds, fails, passes}
use Rattle.field.specs.Rows.{IsRow}
use Rattle.field.specs.declared.rows.Row.{Row}
use Rattle.field.proofs.Known.{listed-on}
use Rattle.slices.specs.Bounded.{all_below}
use Rattle.find_affine.specs.Calls.{affine_tests}

module _ {m : ℕ} {row : Row} (cs : List ℕ) (constant room : ℕ) (i : IsRow m row) where
  pub count-given : (length cs ≡ m → ⊥) → Given 20 (affine_tests m cs constant room)
  count-given n = fails (listed-on i) (holds (ap not (ne_eqb (length cs) m n)))

  module _ (e : length cs ≡ m) where
    counted : not (eqb (length cs) m) ≡ false
    counted = ap not (eq-eqb (length cs) m e)

    at_size : {b : Bool} → b ≡ all_below row.size cs → all_below (2 ^ m) cs ≡ b
    at_size h = ap (λ q. all_below q cs) (sym i.size) ∙ sym h

    pub element-given : {b : Bool} → b ≡ all_below row.size cs → b ≡ false → Given 4 (affine_tests m cs constant room)
    element-given h f = fails (listed-on i) (fails counted (holds (ap (λ b. not b || not (ltb constant (2 ^ m))) (at_size h ∙ f))))

    module _ {b : Bool} (h : b ≡ all_below row.size cs) (t : b ≡ true) where
      elements : (c : Bool) → not (ltb constant (2 ^ m)) ≡ c → (not (all_below (2 ^ m) cs) || not (ltb constant (2 ^ m))) ≡ c
      elements c e = ap (λ b. not b || not (ltb constant (2 ^ m))) (at_size h ∙ t) ∙ e

      pub constant-given : row.size ≤ constant → Given 4 (affine_tests m cs constant room)
      constant-given l =
          let s = i.size in
          fails (listed-on i) (fails counted (holds (elements true (ap not (le-ltb constant (2 ^ m) (omega arith))))))

      module _ (l : constant < row.size) where
        below : (not (all_below (2 ^ m) cs) || not (ltb constant (2 ^ m))) ≡ false
        below = let s = i.size in elements false (ap not (lt-ltb constant (2 ^ m) (omega arith)))

        pub room-given : room < row.size → Given 7 (affine_tests m cs constant room)
        room-given r =
            let s = i.size in
            fails (listed-on i) (fails counted (fails below (holds (lt-ltb room (2 ^ m) (omega arith)))))

        pub all_in : row.size ≤ room → Passed (affine_tests m cs constant room)
        all_in r =
            let s = i.size in
            passes (listed-on i) (passes counted (passes below (passes (le-ltb room (2 ^ m) (omega arith)) none)))
