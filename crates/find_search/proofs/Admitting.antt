-- What is known of what the plain search lets in.
--   search-room   the list of what was let in has room for the limit;  roots-room  and so for every root
--   both-rooms    the second list's room is tested behind the first's;  beside-room  so it has room for the limit
--   searched-within, searched-counts, searched-both   the roots stand in their list, can be counted, and both lists
--                 are filled
-- Assumes nothing.
use mathlib.Core.Path.{◌≡◌, ap}
use mathlib.Core.Bool.{Bool}
use mathlib.Core.List.{List, [], ◌∷◌}
use Prim.Native.Nat.{ℕ, ◌≤◌}
use native.Mathlib.Omega.{arith}
use borrow.Author.Tests.{ltb-false}
use lib.Dec.{ltb}
use lib.ListN.{length, take}
use Rattle.refusals.specs.Order.{Passed}
use Rattle.refusals.specs.Admitting.{Admits, with_test}
use Rattle.refusals.specs.declared.Refusal.TheVariants.{Room}
use Rattle.refusals.specs.declared.Refusal.{Refusal}
use Rattle.std.specs.Prelude.{⊤, Result, Ok}
use Rattle.refusals.proofs.Admitting.{admits-also}
use Rattle.refusals.proofs.Order.{failed, others}
use Rattle.slices.specs.Lists.{copied}
use Rattle.slices.proofs.Lists.{length-copied}
use Rattle.field.specs.Field.{roots_at, multiplicities_at}
use Rattle.input.specs.Limit.{limit}
use Rattle.input.specs.Polynomials.{polynomial_tests, PolynomialIn}
use Rattle.input.proofs.Polynomials.{polynomial-told, roots_few, passed-rest}
use Rattle.input.proofs.RootMemory.{lists-accepted}
use Rattle.find_multiplicities.specs.Counting.{Countable}
use Rattle.find_multiplicities.proofs.Asking.{countable}
use Rattle.find_search.specs.Calls.{search_tests, Searches}
use Rattle.find_search.specs.Searching.{SearchedOut}

pub search-room : (m : ℕ) (f roots : List ℕ) {us : List (ℕ × Bool)} → Passed (polynomial_tests m f ((7, ltb (length roots) limit) ∷ us)) → limit ≤ length roots
search-room m f roots h = ltb-false (length roots) limit (failed (passed-rest m f h))

pub roots-room : {m n : ℕ} {f : List ℕ} → PolynomialIn m f → limit ≤ n → length (roots_at m f) ≤ n
roots-room p h = omega (arith, roots_few p)

-- ---- both lists

-- the second list's room is tested behind the first's
pub both-rooms : (m : ℕ) (f roots mults : List ℕ) (found : Result ⊤ Refusal) {r : Result ⊤ Refusal} → Admits (polynomial_tests m f ((7, ltb (length roots) limit) ∷ [])) found
    → r ≡ with_test found (ltb (length mults) limit) Room → Admits (search_tests m f roots mults) r
both-rooms m f roots mults found h e =
    admits-also (polynomial_tests m f ((7, ltb (length roots) limit) ∷ [])) found (ltb (length mults) limit) Room e h

module _ (m : ℕ) (f roots mults : List ℕ) (p : Passed (search_tests m f roots mults)) where
  -- so it has room for the limit
  beside-room : limit ≤ length mults
  beside-room = ltb-false (length mults) limit (failed (others (passed-rest m f p)))

  told : PolynomialIn m f
  told = polynomial-told m f p

  module _ {k : ℕ} {roots' : List ℕ} (o : SearchedOut m f roots k roots') where
    -- the roots stand in their list
    pub searched-within : k ≤ length roots'
    unfolding told
    searched-within =
        let few : length (roots_at m f) ≤ length roots = roots-room told (search-room m f roots p) in
        omega (arith, o.count, ap length o.slots, length-copied (roots_at m f) roots few)

    -- they can be counted
    pub searched-counts : Countable m f (take k roots') mults
    unfolding told
    searched-counts = countable roots told o.count o.slots beside-room

    -- and both lists are filled
    pub searched-both : {mults' : List ℕ} → mults' ≡ copied (multiplicities_at m f) mults → Searches m f roots mults (Ok k) roots' mults'
    searched-both e = lists-accepted p (ap (λ (a : ℕ). (0, a ∷ [])) o.count) o.slots e
