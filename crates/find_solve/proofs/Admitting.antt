-- What is known of what the whole call lets in.
--   admitted                          the cutoff in force is from 1 to 3, and the list has its room
--   solvable                          it can be solved with the quadratic table of its field
--   solve-begins, begun-stepping      it can begin a table, and step what begin leaves
--   solved-at                         what it gives at the cutoff in force
--   both-rooms                        the second list's room is tested behind the first's
--   solved-within, solved-counts, solved-both   the roots stand in their list, can be counted, and both lists are filled
-- Assumes nothing.
use mathlib.Core.Path.{◌≡◌, sym, ap, ap₂, ◌∙◌, subst}
use mathlib.Core.Bool.{Bool}
use mathlib.Core.List.{List, [], ◌∷◌}
use Prim.Native.Nat.{ℕ, ◌≤◌, ◌*◌}
use native.Mathlib.Omega.{arith}
use borrow.Author.Tests.{ltb-false}
use lib.Dec.{ltb}
use lib.ListN.{length, take}
use Rattle.refusals.specs.Order.{Passed}
use Rattle.refusals.specs.Admitting.{Admits, with_test}
use Rattle.refusals.specs.declared.Refusal.TheVariants.{Room}
use Rattle.refusals.specs.declared.Refusal.{Refusal}
use Rattle.std.specs.Prelude.{Result, Ok, ⊤}
use Rattle.refusals.proofs.Admitting.{admits-also}
use Rattle.refusals.proofs.Order.{failed, others}
use Rattle.slices.specs.Lists.{copied}
use Rattle.slices.proofs.Lists.{length-copied}
use Rattle.field.specs.Field.{field_at, roots_at, multiplicities_at}
use Rattle.field.specs.Tables.{Halves}
use Rattle.input.specs.Cutoff.{highest_cutoff, house_default, in_force}
use Rattle.input.proofs.Cutoff.{in_force-least, in_force-most}
use Rattle.input.specs.Limit.{limit, widest}
use Rattle.input.specs.Polynomials.{polynomial_tests, PolynomialIn}
use Rattle.input.proofs.Polynomials.{polynomial-told, roots_few, passed-rest}
use Rattle.input.proofs.RootMemory.{lists-accepted}
use Rattle.table_rules.specs.Layout.{by_factor}
use Rattle.table_rules.specs.Splitting.{slots_begun}
use Rattle.table_rules.proofs.Demand.{begin-slots}
use Rattle.table_rules.specs.Sizes.{slots}
use Rattle.table_begin.specs.SplitPart.{Beginnable}
use Rattle.table_rules.specs.Demand.{step_count}
use Rattle.table_begin.proofs.Writing.{rows-room}
use Rattle.find_multiplicities.specs.Counting.{Countable}
use Rattle.find_multiplicities.proofs.Asking.{countable}
use Rattle.find_solve.specs.Calls.{solve_tests, Solves}
use Rattle.find_solve.specs.Solving.{Stepping, Solvable, SolvedOut}
use Rattle.find_solve.specs.declared.Solved.{Solved}
use Rattle.find_solve.proofs.Running.{begun-after}

-- ---- what was let in

pub admitted : (m c : ℕ) (f roots : List ℕ) {us : List (ℕ × Bool)} {k : ℕ} → Passed (polynomial_tests m f ((6, ltb highest_cutoff c) ∷ (7, ltb (length roots) limit) ∷ us)) → k ≡ in_force c
    → PolynomialIn m f × (1 ≤ k) × (k ≤ highest_cutoff) × (limit ≤ length roots)
admitted m c f roots h e =
    let six = passed-rest m f h in
    let most : c ≤ highest_cutoff = ltb-false highest_cutoff c (failed six) in (
      polynomial-told m f h,
      subst (λ (w : ℕ). 1 ≤ w) (sym e) (in_force-least house_default c (omega arith)),
      subst (λ (w : ℕ). w ≤ highest_cutoff) (sym e) (in_force-most house_default c (omega arith) most),
      ltb-false (length roots) limit (failed (others six)),
    )

-- ---- the engine

-- with the quadratic table of its field
pub solvable : {d m c : ℕ} {f hs roots : List ℕ} → d ≡ m → PolynomialIn m f × (1 ≤ c) × (c ≤ highest_cutoff) × (limit ≤ length roots)
    → Halves (field_at m) hs → Solvable d c f hs roots
solvable {c = c} {f} {hs} {roots} e p h =
    subst (λ w. Solvable w c f hs roots) (sym e) (record { polynomial = p.0; least = p.1; most = p.2; halves = h; room = p.3 })

module _ {m c : ℕ} {f hs roots : List ℕ} (g : Solvable m c f hs roots) where
  -- its table can be begun
  pub solve-begins : {table rows : List ℕ} → length table ≡ slots → widest * limit ≤ length rows → Beginnable m f table rows
  solve-begins e r = record { polynomial = g.polynomial; room = e; room-rows = rows-room m g.polynomial.field r }

  -- and stepped
  pub begun-stepping : {table : List ℕ} → table ≡ slots_begun by_factor slots m c f → Stepping m c f table
  begun-stepping {table} e =
      subst (Stepping m c f) (sym (e ∙ begin-slots m g.polynomial.field c g.least f by_factor slots))
      (begun-after g.polynomial g.least g.most 0 (omega arith))

-- what the engine gives at the cutoff in force
pub solved-at : {m c k : ℕ} {f roots roots' : List ℕ} {r : Solved} → k ≡ c → SolvedOut m k f roots r roots' → SolvedOut m c f roots r roots'
solved-at {m} {f = f} {roots} {roots'} {r} e s = subst (λ (w : ℕ). SolvedOut m w f roots r roots') e s

-- ---- both lists

-- the second list's room is tested behind the first's
pub both-rooms : (m c : ℕ) (f roots mults : List ℕ) (found : Result ⊤ Refusal) {r : Result ⊤ Refusal}
    → Admits (polynomial_tests m f ((6, ltb highest_cutoff c) ∷ (7, ltb (length roots) limit) ∷ [])) found
    → r ≡ with_test found (ltb (length mults) limit) Room → Admits (solve_tests m c f roots mults) r
both-rooms m c f roots mults found h e =
    admits-also (polynomial_tests m f ((6, ltb highest_cutoff c) ∷ (7, ltb (length roots) limit) ∷ [])) found (ltb (length mults) limit) Room e h

module _ (m c : ℕ) (f roots mults : List ℕ) (p : Passed (solve_tests m c f roots mults)) where
  -- it has room for the limit
  beside-room : limit ≤ length mults
  beside-room = ltb-false (length mults) limit (failed (others (others (passed-rest m f p))))

  told : PolynomialIn m f
  told = polynomial-told m f p

  module _ {k : ℕ} {r : Solved} {roots' : List ℕ} (o : SolvedOut m k f roots r roots') where
    -- the roots stand in their list
    pub solved-within : r.s ≤ length roots'
    unfolding told
    solved-within =
        let room : limit ≤ length roots = ltb-false (length roots) limit (failed (others (passed-rest m f p))) in
        let few : length (roots_at m f) ≤ length roots = omega (arith, roots_few told) in
        omega (arith, o.count, ap length o.slots-are, length-copied (roots_at m f) roots few)

    -- they can be counted
    pub solved-counts : Countable m f (take r.s roots') mults
    unfolding told
    solved-counts = countable roots told o.count o.slots-are beside-room

    -- and both lists are filled
    pub solved-both : {mults' : List ℕ} → k ≡ in_force c → mults' ≡ copied (multiplicities_at m f) mults → Solves m c f roots mults (Ok r) roots' mults'
    solved-both e h =
        lists-accepted p (ap₂ (λ (a b : ℕ). (0, a ∷ b ∷ [])) o.count (o.steps ∙ ap (λ w. step_count m w (roots_at m f)) e)) o.slots-are h
