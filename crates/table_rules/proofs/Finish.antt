-- What finish lists: on any table the elements at which some factor is 0, ascending and once; on a begun table the
-- roots, after any number of steps and whatever the cutoff, as splitting moves no root.
--   finished-exactly    the elements listed;  finished-ascending  their order
--   some-zero           some factor of a begun table is 0 at x exactly where x is a member of a group
--   FINISH-IS           on a begun table the list is the root list
-- Assumes nothing.
use mathlib.Core.Path.{◌≡◌, refl, subst}
use mathlib.Core.Logic.{◌↔◌, ◌⊎◌, inl, inr, ⊎_elim}
use mathlib.Core.Bool.{Bool, true, false, ◌||◌}
use mathlib.Core.List.Memᴰ
use mathlib.Core.List.{List, [], ◌∷◌, map, Memᴰ}
use Prim.Native.Nat.{ℕ, ◌+◌, ◌^◌, ◌<◌}
use lib.Dec.{T}
use lib.ListN.{length}
use Rattle.algebra.specs.Field.{Ops, OnNumbers}
use Rattle.algebra.specs.Trial.{All, Ascending}
use Rattle.algebra.specs.Polynomial.{Below, is_root}
use Rattle.algebra.specs.Routines.{monic, monic_roots}
use Rattle.algebra.proofs.Trial.{all-at, all_keep, kept-exactly, kept-ascending, kept-only}
use Rattle.algebra.proofs.StaysBelow.{monic-below, monic_roots-below}
use Rattle.algebra.proofs.RootList.{is_root-is, monic_roots-root}
use Rattle.table_rules.specs.Entries.{Entry, carry}
use Rattle.table_rules.specs.Groups.{agrees, group, by_bit, reached}
use Rattle.table_rules.specs.Layout.{Factor}
use Rattle.table_rules.specs.Table.{Table}
use Rattle.table_rules.specs.Splitting.{trace_bit, grouped_table, some_zero, finished}
use Rattle.table_rules.proofs.Lists.{all-mapped}
use Rattle.table_rules.proofs.Cut.{Cut, whole}
use Rattle.table_rules.proofs.Grouped.{all_members, cut-grouped, cut-member}
use Rattle.table_rules.proofs.Steps.{steps-cut}

either : (a b : Bool) → T (a || b) ↔ (T a ⊎ T b)
either true b = (λ t. inl tt, λ o. tt)
either false b = (λ t. inr t, λ o. ⊎_elim (λ t. absurd t) (λ t. t) o)

-- some factor is 0 at x
pub zero-exactly : (G : Ops ℕ) (l : List Factor) (x : ℕ) → T (some_zero G l x) ↔ ((e : Factor) × Memᴰ e l × T (is_root G (monic G e.1) x))
unfolding some_zero
zero-exactly G [] x = (λ t. absurd t, λ w. Memᴰ.not-nil w.1)
zero-exactly G (e ∷ l) x =
    let two = either (is_root G (monic G e.1) x) (some_zero G l x) in
    let more = zero-exactly G l x in (
      λ t. ⊎_elim (λ u. (e, Memᴰ.head refl, u)) (λ u. let w = more.0 u in (w.0, Memᴰ.tail w.1, w.2)) (two.0 t),
      λ w. two.1 (⊎_elim (λ i. inl (subst (λ f. T (is_root G (monic G f.1) x)) i w.2)) (λ m. inr (more.1 (w.0, m, w.2))) (Memᴰ.cases_cons w.1)),
    )

-- every element at which some factor is 0, and no other
pub finished-exactly : (G : Ops ℕ) (t : Table) (x : ℕ)
    → Memᴰ x (finished G t) ↔ ((x < 2 ^ t.width) × ((e : Factor) × Memᴰ e t.factors × T (is_root G (monic G e.1) x)))
finished-exactly G t x =
    let k = kept-exactly (some_zero G t.factors) (2 ^ t.width) x in
    let z = zero-exactly G t.factors x in
    (λ m. ((k.0 m).0, z.0 (k.0 m).1), λ w. k.1 (w.0, z.1 w.1))

-- in order, and so once each
pub finished-ascending : (G : Ops ℕ) (t : Table) → Ascending (finished G t)
finished-ascending G t = kept-ascending (some_zero G t.factors) (2 ^ t.width)

-- ---- on a begun table

module _ {G : Ops ℕ} {q : ℕ} (N : OnNumbers G q) where
  -- the product over s is 0 at x exactly where x is a member of s
  product-zero : (x : ℕ) → x < q → (s : List ℕ) → Below q s → T (is_root G (monic G (monic_roots G s)) x) ↔ Memᴰ x s
  product-zero x h s b =
      let z = is_root-is N (monic G (monic_roots G s)) (monic-below N (monic_roots G s) (monic_roots-below N s b)) x h in
      let r = monic_roots-root N s b x h in
      (λ t. r.0 (z.0 t), λ k. z.1 (r.1 k))

  -- of products over groups
  pub some-zero : (x : ℕ) → x < q → (l : List (Entry ℕ)) → All (λ e. Below q e.1) l → T (some_zero G (map (carry (monic_roots G)) l) x) ↔ Memᴰ x (all_members l)
  unfolding some_zero all_members
  some-zero x h [] b = (λ t. absurd t, λ k. absurd (Memᴰ.not-nil k))
  some-zero x h (e ∷ l) b =
      let one = product-zero x h e.1 b.0 in
      let more = some-zero x h l b.1 in
      let two = either (is_root G (monic G (monic_roots G e.1)) x) (some_zero G (map (carry (monic_roots G)) l) x) in (
        λ t. ⊎_elim (λ u. Memᴰ.append_left (all_members l) (one.0 u)) (λ u. Memᴰ.append_right e.1 (more.0 u)) (two.0 t),
        λ k. two.1 (⊎_elim (λ u. inl (one.1 u)) (λ u. inr (more.1 u)) (Memᴰ.append_cases e.1 k)),
      )

-- ON A BEGUN TABLE finish lists the roots
pub finish-is : {G : Ops ℕ} (m a : ℕ) → OnNumbers G (2 ^ m) → (c n : ℕ) (roots : List ℕ) → Below (2 ^ m) roots → Ascending roots
    → finished G (grouped_table G m a c roots n) ≡ roots
finish-is {G} m a N c n roots b asc =
    let bit : ℕ → ℕ → Bool = trace_bit G m a in
    let l : List (Entry ℕ) = reached bit c roots n in
    let cut : Cut (by_bit bit) c 0 roots l = steps-cut (by_bit bit) c n whole in
    let g = cut-grouped bit cut in
    let below : All (λ e. Below (2 ^ m) e.1) l =
    rw g.are (all-mapped (λ e. Below (2 ^ m) e.1) (λ w. (0 + length w, group bit w roots)) g.at (λ w. all_keep (λ x. x < 2 ^ m) (agrees bit 0 w) roots b)) in
    kept-only (some_zero G (map (carry (monic_roots G)) l)) (2 ^ m) roots asc (λ x. (
      λ k. let h : x < 2 ^ m = all-at (λ y. y < 2 ^ m) roots b k in (h, (some-zero N x h l below).1 ((cut-member bit cut x).1 k)),
      λ k. (cut-member bit cut x).0 ((some-zero N x k.0 l below).0 k.1),
    ))
