-- Every figure of docs/RULES.md section 10 is right: one claim over the table, computed by antt from the definitions
-- that the contracts cite.
--   figures-right   the claim
--   roots-11, count-11   the roots and the steps of the figure in field 11, whose 2048 elements antt does not try
-- Assumes nothing.
use mathlib.Core.Path.{◌≡◌, refl, sym, ap, ap₂, ◌∙◌}
use mathlib.Core.Bool.{Bool, true, false}
use mathlib.Core.List.{List, [], ◌∷◌}
use Prim.Native.Nat.{ℕ, suc, ◌≤◌, ◌<◌, ◌^◌}
use native.Mathlib.Decide.{dec_lt}
use native.Mathlib.Omega.{arith}
use lib.Dec.{lit<, lit≤}
use lib.ListN.{length, drop}
use Rattle.algebra.specs.Trial.{All, up_from, first_from}
use Rattle.algebra.specs.Field.{OnNumbers, power, trace}
use Rattle.algebra.specs.Polynomial.{eval, roots_of, add, from_roots, frobenius, trace_poly}
use Rattle.algebra.specs.Polynomial.{mul as poly_mul}
use Rattle.algebra.specs.Routines.{quotient_digit, shift_in, rem, quo, norm, cofactor, monic_roots, euclid, gcd}
use Rattle.algebra.proofs.RootList.{roots_of-top, roots_of-pair, other-root}
use Rattle.refusals.specs.Order.{decide}
use Rattle.field.specs.Rows.{known_in, poly_in}
use Rattle.field.proofs.Known.{listed}
use Rattle.slices.specs.Bounded.{all_below}
use Rattle.field.specs.Field.{mul, inverse, roots_at, G}
use Rattle.field.proofs.Instance.{known-numbers}
use Rattle.input.specs.Cutoff.{in_force_by}
use Rattle.table_rules.specs.Entries.{unless_empty, parts, split_entries, first_above, done, step, steps}
use Rattle.table_rules.specs.Groups.{bit_words, groups_at, group_count, sum_below, agrees}
use Rattle.table_rules.specs.Layout.{blocks, read_blocks, rest_blocks}
use Rattle.table_rules.specs.Table.{encode, decode}
use Rattle.table_rules.specs.Splitting.{is_done, slots_begun, slots_stepped, slots_after}
use Rattle.table_rules.specs.Demand.{step_count, groups_after}
use Rattle.table_rules.proofs.Demand.{demand-3, steps-to-done}
use Rattle.find_solve.specs.Calls.{solve_outcome}
use Rattle.figures.specs.Figures.{Figure, Right, StartsWith, figures, accepted_figure, refused_figure, figure_values, figure_after, room}

-- ---- field 11: z^2 + z, with a zero at the top. Its roots are 0 and 1, as it is 0 at 0 and the other root is 0 + 1
known-11 : OnNumbers (G 11) (2 ^ 11)
unfolding known_in
known-11 = known-numbers (listed 11 refl)

low : List ℕ
low = 0 ∷ 1 ∷ 1 ∷ []

roots-11 : roots_at 11 (0 ∷ 1 ∷ 1 ∷ 0 ∷ []) ≡ 0 ∷ 1 ∷ []
unfolding low poly_in mul eval
roots-11 =
    roots_of-top known-11 low 1 (lit< tt, (lit< tt, (lit< tt, tt)))
    ∙ roots_of-pair known-11 low (lit< tt, (lit< tt, (lit< tt, tt))) 0 1 (lit< tt) (lit< tt) refl refl
    (λ z l e. (other-root known-11 1 0 0 z (lit< tt) (lit< tt) (lit< tt) l refl).0 e)

-- one step: the table is not done before it, and done after it
done-after : is_done (groups_after 11 1 (0 ∷ 1 ∷ []) 1) ≡ true
unfolding poly_in mul trace power done steps step split_entries parts unless_empty first_above monic_roots from_roots poly_mul add
done-after = refl

not-done-before : is_done (groups_after 11 1 (0 ∷ 1 ∷ []) 0) ≡ false
unfolding poly_in mul done steps unless_empty monic_roots from_roots poly_mul add
not-done-before = refl

count-11 : step_count 11 1 (roots_at 11 (0 ∷ 1 ∷ 1 ∷ 0 ∷ [])) ≡ 1
unfolding known_in
count-11 = sym (steps-to-done 11 refl 1 (lit≤ tt) f 1 (some (dec_lt 0 n)) (ap (λ (r : List ℕ). is_done (groups_after 11 1 r 1)) roots-11 ∙ done-after))
  where
    f : List ℕ
    f = 0 ∷ 1 ∷ 1 ∷ 0 ∷ []

    n : ℕ
    n = step_count 11 1 (roots_at 11 f)

    some : Dec (0 < n) → 1 ≤ n
    some (yes h) = h
    some (no h) =
        let none : n ≡ 0 = omega arith in
        let z : ◌≡◌ {A = Bool} true false =
        sym (demand-3 11 refl 1 (lit≤ tt) f).end ∙ ap₂ (λ (r : List ℕ) (k : ℕ). is_done (groups_after 11 1 r k)) roots-11 none ∙ not-done-before in
        let e : ◌≡◌ {A = ℕ} 0 1 = cc in
        absurd (let b : ⊥ = omega arith in b)

-- so the figure is right
in-11 : Right (accepted_figure 11 1 (0 ∷ 1 ∷ 1 ∷ 0 ∷ []) (0 ∷ 1 ∷ []) 1)
unfolding decide known_in all_below in_force_by
in-11 = record {
  outcome = ap₂ (λ (r : List ℕ) (k : ℕ). (0, length r ∷ k ∷ [])) roots-11 count-11;
  roots = λ _. roots-11;
  tables = tt;
}

-- ---- field 4: antt computes them. Each law puts its figures before those that follow in the table

-- a figure by its outcome, its roots and its work tables
accept : {f : Figure} → solve_outcome f.m f.cutoff f.coefficients room room ≡ (f.number, figure_values f)
    → roots_at f.m f.coefficients ≡ f.roots
    → All (λ t. StartsWith (figure_after f t.0) t.1) f.tables → Right f
accept e r t = record { outcome = e; roots = λ _. r; tables = t }

-- a refusal by its outcome: its number is not 0
refuse : {m c k : ℕ} {cs : List ℕ} → solve_outcome m c cs room room ≡ (suc k, figure_values (refused_figure m c cs (suc k)))
    → Right (refused_figure m c cs (suc k))
refuse e = record { outcome = e; roots = λ z. absurd (let b : ⊥ = omega arith in b); tables = tt }

-- 6, 7, 0, 1 at each cutoff, with its work tables at the first, and 1, 0, 0, 1
cubics : All Right (drop 4 figures) → All Right figures
unfolding decide known_in poly_in all_below in_force_by roots_of up_from eval mul inverse first_from trace power
    bit_words groups_at group_count sum_below agrees slots_after slots_stepped slots_begun encode decode blocks read_blocks
    rest_blocks unless_empty parts split_entries first_above done step add poly_mul from_roots frobenius trace_poly quotient_digit shift_in rem quo norm
    cofactor monic_roots euclid gcd
cubics rest =
    (accept refl refl (refl, (refl, tt)), (accept refl refl tt, (accept refl refl tt, (accept refl refl tt, rest))))

-- 2, 0, 1 and 8, 1, 1 and 6, 1, 1
quadratics : All Right (drop 7 figures) → All Right (drop 4 figures)
unfolding decide known_in poly_in all_below in_force_by roots_of up_from eval mul trace power
    bit_words groups_at group_count sum_below agrees
quadratics rest = (accept refl refl tt, (accept refl refl tt, (accept refl refl tt, rest)))

-- 3, 2 and 7
lower : All Right (drop 9 figures) → All Right (drop 7 figures)
unfolding decide known_in poly_in all_below in_force_by roots_of up_from eval mul trace power
    bit_words groups_at group_count sum_below agrees
lower rest = (accept refl refl tt, (accept refl refl tt, rest))

-- z^16 + z at each cutoff
every_element : All Right (drop 12 figures) → All Right (drop 9 figures)
unfolding decide known_in poly_in all_below in_force_by roots_of up_from eval mul trace power
    bit_words groups_at group_count sum_below agrees
every_element rest = (accept refl refl tt, (accept refl refl tt, (accept refl refl tt, rest)))

-- refusals 5, 4 and 6, and cutoff 3
refusals : All Right (drop 13 figures)
unfolding decide known_in poly_in all_below in_force_by roots_of up_from eval mul trace power
    bit_words groups_at group_count sum_below agrees
refusals = (refuse refl, (refuse refl, (refuse refl, (accept refl refl tt, tt))))

-- THE CLAIM: each figure is right
pub figures-right : All Right figures
figures-right = cubics (quadratics (lower (every_element (in-11, refusals))))
