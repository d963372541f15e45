-- The trace engine and the plain trial agree: at each cutoff that is not refused the whole call and the search answer
-- under the same number, and leave the same lists.
--   skipped   a test that does not hold decides nothing;  number_is  the number of an outcome does not depend on the
--             values
--   agree-number, agree-list, agree-beside   the two calls
-- Assumes nothing.
use mathlib.Core.Path.{◌≡◌, refl, sym, ap, ◌∙◌}
use mathlib.Core.Bool.{Bool, true, false, cond}
use mathlib.Core.List.{List, [], ◌∷◌, ◌++◌}
use Prim.Native.Nat.{ℕ, ◌≤◌}
use borrow.Author.Tests.{le-ltb}
use lib.ListN.{length}
use Rattle.refusals.specs.Order.{decide, outcome}
use Rattle.input.specs.Cutoff.{highest_cutoff}
use Rattle.input.specs.Polynomials.{polynomial_tests}
use Rattle.input.specs.RootMemory.{root_memory, multiplicity_memory, room_tests}
use Rattle.field.specs.Field.{roots_at}
use Rattle.table_rules.specs.Demand.{steps_at}
use Rattle.find_solve.specs.Calls.{solve_tests, solve_outcome}
use Rattle.find_search.specs.Calls.{search_tests, search_outcome}

skipped : {A : Type 0} (ts : List (ℕ × Bool)) (k : ℕ) (us : List (ℕ × Bool)) (refuse : ℕ → A) (accept : A)
    → decide (ts ++ (k, false) ∷ us) refuse accept ≡ decide (ts ++ us) refuse accept
unfolding decide
skipped [] k us refuse accept = refl
skipped (t ∷ ts) k us refuse accept = ap (cond t.1 (refuse t.0)) (skipped ts k us refuse accept)

number_is : (ts : List (ℕ × Bool)) (values : List ℕ) → (outcome ts values).0 ≡ decide ts (λ k. k) 0
unfolding decide
number_is [] values = refl
number_is (t ∷ ts) values = go t.1 (number_is ts values)
  where
    go : (b : Bool) → (outcome ts values).0 ≡ decide ts (λ k. k) 0
        → (cond {A = ℕ × List ℕ} b (t.0, []) (decide ts (λ k. (k, [])) (0, values))).0 ≡ cond b t.0 (decide ts (λ k. k) 0)
    go true e = refl
    go false e = e

module _ (m c : ℕ) (cs list mults : List ℕ) (h : c ≤ highest_cutoff) where
  -- the cutoff's test does not hold
  without : {A : Type 0} (refuse : ℕ → A) (accept : A) → decide (solve_tests m c cs list mults) refuse accept ≡ decide (search_tests m cs list mults) refuse accept
  without refuse accept =
      ap (λ (b : Bool). decide (polynomial_tests m cs ((6, b) ∷ room_tests list mults)) refuse accept) (le-ltb highest_cutoff c h)
      ∙ skipped (polynomial_tests m cs []) 6 (room_tests list mults) refuse accept

  -- the same number
  pub agree-number : (solve_outcome m c cs list mults).0 ≡ (search_outcome m cs list mults).0
  agree-number =
      number_is (solve_tests m c cs list mults) (length (roots_at m cs) ∷ steps_at m c cs ∷ []) ∙ without (λ k. k) 0
      ∙ sym (number_is (search_tests m cs list mults) (length (roots_at m cs) ∷ []))

  -- the same list
  pub agree-list : root_memory (solve_tests m c cs list mults) m cs list ≡ root_memory (search_tests m cs list mults) m cs list
  agree-list = without (λ k. list) _

  -- and the same second list
  pub agree-beside : multiplicity_memory (solve_tests m c cs list mults) m cs mults ≡ multiplicity_memory (search_tests m cs list mults) m cs mults
  agree-beside = without (λ k. mults) _
