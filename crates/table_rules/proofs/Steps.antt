-- Demand 3 on groups: the number of steps from a begun list to "done" is the count of groups, what each state on the
-- way is, and that no step is refused.
--   done_none, done-stays   a list that is done has no entry above c, and a step leaves it as it is
--   step_cut, steps-cut     steps leave a cut
--   work c m l              the groups above c that are still to be parted, in the entries of l, below level m
--   WORK-FALLS              it falls by exactly 1 where an entry above c, below level m, is parted
--   below_last              an entry above c is below level m
--   NOT-DONE-BEFORE, DONE-THEN   the list is done after as many steps as there are groups above c, and after no fewer
--   NEVER-REFUSED           until then its first entry above c is below level m, and the steps taken are below the
--                           limit
-- Assumes nothing.
use mathlib.Core.Path.{◌≡◌, refl, sym, ap, ap₂, ◌∙◌}
use mathlib.Core.Logic.{◌⊎◌, inl, inr}
use mathlib.Core.Bool.{Bool, true, false, not, cond, ◌&&◌, false≢true}
use mathlib.Core.List.{List, [], ◌∷◌, ◌++◌}
use Prim.Native.Nat.{ℕ, zero, suc, ◌+◌, ◌-◌, ◌*◌, ◌/◌, ◌≤◌, ◌<◌}
use native.Mathlib.Nat.{not-suc-le-zero, sub-zero}
use native.Mathlib.Decide.{dec_lt}
use native.Mathlib.Omega.{arith}
use borrow.Author.Tests.{ltb-true}
use lib.ListN.{length}
use Rattle.algebra.specs.Trial.{keep}
use Rattle.algebra.specs.Trial.{All}
use Rattle.table_rules.specs.Entries.{Entry, Halving, unless_empty, parts, split_entries, above, entry_at, first_above, done, step, steps}
use Rattle.table_rules.specs.Groups.{group, group_count, by_bit, begun, reached}
use Rattle.table_rules.proofs.Lists.{Test, least, test, true-or-false, all-mapped}
use Rattle.table_rules.proofs.Counting.{left, left-none, left-large, count_left, count-bound}
use Rattle.table_rules.proofs.Cut.{Cut, whole, cut-split, first_above-is}
use Rattle.table_rules.proofs.Grouped.{Told, cut-grouped}

module _ {A : Type 0} where
  -- a list that is done has no entry above c, and a step does not change it
  pub done_none : (c : ℕ) (l : List (Entry A)) → done c l ≡ true → All (λ e. length e.1 ≤ c) l
  unfolding done
  done_none c [] h = tt
  done_none c (e ∷ l) h = go (above c e) (test c (length e.1)) h (done_none c l)
    where
      go : (b : Bool) → Test c (length e.1) b → (not b && done c l) ≡ true → (done c l ≡ true → All (λ f. length f.1 ≤ c) l) → All (λ f. length f.1 ≤ c) (e ∷ l)
      go true t h rec = absurd (false≢true h)
      go false (least t) h rec = (t, rec h)

  pub done-stays : (H : Halving A) (c : ℕ) (l : List (Entry A)) → done c l ≡ true → step H c l ≡ l
  unfolding done step split_entries first_above
  done-stays H c [] h = refl
  done-stays H c (e ∷ l) h = go (above c e) h (done-stays H c l)
    where
      go : (b : Bool) → (not b && done c l) ≡ true → (done c l ≡ true → split_entries H (first_above c l) l ≡ l) → split_entries H (cond b 0 (suc (first_above c l))) (e ∷ l) ≡ e ∷ l
      go true h rec = absurd (false≢true h)
      go false h rec = ap (λ u. e ∷ u) (rec h)

  -- what holds of each entry holds at a place above c
  pub at_above : (c : ℕ) (P : Entry A → Type 0) (l : List (Entry A)) (k : ℕ) → All P l → above c (entry_at l k) ≡ true → P (entry_at l k)
  at_above c P [] k h t = absurd (not-suc-le-zero (ltb-true c 0 t))
  at_above c P (e ∷ l) zero h t = h.0
  at_above c P (e ∷ l) (suc k) h t = at_above c P l k h.1 t

  pub step_cut : (H : Halving A) (c : ℕ) {i : ℕ} {s : List A} {l : List (Entry A)} → Cut H c i s l → Cut H c i s (step H c l)
  unfolding step
  step_cut H c {i} {s} {l} p = go (true-or-false (done c l))
    where
      go : (done c l ≡ true) ⊎ (done c l ≡ false) → Cut H c i s (split_entries H (first_above c l) l)
      go (inl d) = rw (done-stays H c l d) p
      go (inr n) = cut-split H c (first_above c l) p (first_above-is c l n)

  pub steps-cut : (H : Halving A) (c n : ℕ) {i : ℕ} {s : List A} {l : List (Entry A)} → Cut H c i s l → Cut H c i s (steps H c n l)
  unfolding steps
  steps-cut H c zero p = p
  steps-cut H c (suc n) p = steps-cut H c n (step_cut H c p)

module _ {A : Type 0} (bit : ℕ → A → Bool) (c m : ℕ) where
  -- entry by entry
  unfoldable pub work : List (Entry A) → ℕ
  work [] = 0
  work (e ∷ l) = left bit c (m - e.0) e.0 e.1 + work l

  work-append : (l r : List (Entry A)) → work (l ++ r) ≡ work l + work r
  unfolding work
  work-append [] r = omega arith
  work-append (e ∷ l) r = omega (arith, work-append l r)

  work-entry : (i : ℕ) (s : List A) → work (unless_empty i s) ≡ left bit c (m - i) i s
  unfolding work unless_empty
  work-entry i [] = sym (left-none bit c (m - i) i [] (omega arith))
  work-entry i (x ∷ s) = omega arith

  -- THE MEASURE falls by exactly 1 where an entry above c, below level m, is parted
  pub work-falls : (l : List (Entry A)) (k : ℕ) → above c (entry_at l k) ≡ true → (entry_at l k).0 < m → work l ≡ suc (work (split_entries (by_bit bit) k l))
  unfolding work split_entries parts
  work-falls [] k h g = absurd (not-suc-le-zero (ltb-true c 0 h))
  work-falls (e ∷ l) zero h g =
      let i : ℕ = e.0 in
      let lo : List A = keep (λ r. not (bit i r)) e.1 in
      let hi : List A = keep (bit i) e.1 in
      let n : m - i ≡ suc (m - suc i) = omega arith in
      ap (λ j. left bit c j i e.1 + work l) n
      ∙ omega (
        arith,
        left-large bit c (m - suc i) i e.1 (ltb-true c _ h),
        work-append (unless_empty (suc i) lo ++ unless_empty (suc i) hi) l,
        work-append (unless_empty (suc i) lo) (unless_empty (suc i) hi),
        work-entry (suc i) lo,
        work-entry (suc i) hi,
      )
  work-falls (e ∷ l) (suc k) h g = omega (arith, work-falls l k h g)

  pub work-done : (l : List (Entry A)) → All (λ e. length e.1 ≤ c) l → work l ≡ 0
  unfolding work
  work-done [] h = refl
  work-done (e ∷ l) h = ap₂ ◌+◌ (left-none bit c (m - e.0) e.0 e.1 h.0) (work-done l h.1)

  -- at first the work is the count of groups
  pub begun-work : (roots : List A) → work (begun bit roots) ≡ group_count bit c m roots
  begun-work roots = work-entry 0 roots ∙ ap (λ n. left bit c n 0 roots) (sub-zero m) ∙ sym (count_left bit c m roots)

  -- where m bits tell the roots apart, and the cutoff is not 0
  module _ (positive : 1 ≤ c) (roots : List A) (told : Told bit m roots) where
    -- an entry above c is below level m
    pub below_last : {l : List (Entry A)} → Cut (by_bit bit) c 0 roots l → All (λ e. above c e ≡ true → e.0 < m) l
    below_last p =
        let g = cut-grouped bit p in
        rw g.are (all-mapped (λ e. above c e ≡ true → e.0 < m) (λ w. (0 + length w, group bit w roots)) g.at
        (λ w h. go w (dec_lt (length w) m) (ltb-true c _ h)))
      where
        go : (w : List Bool) → Dec (length w < m) → c < length (group bit w roots) → 0 + length w < m
        go w (yes h) g = omega arith
        go w (no n) g = absurd (omega (arith, told w (omega arith)))

    -- one step, from any cut that is not done
    step_falls : {l : List (Entry A)} → Cut (by_bit bit) c 0 roots l → done c l ≡ false → work l ≡ suc (work (step (by_bit bit) c l))
    unfolding step
    step_falls {l} p n =
        let h : above c (entry_at l (first_above c l)) ≡ true = first_above-is c l n in
        work-falls l (first_above c l) h (at_above c _ l (first_above c l) (below_last p) h h)

    work-done-iff : {l : List (Entry A)} → Cut (by_bit bit) c 0 roots l → work l ≡ 0 → done c l ≡ true
    work-done-iff {l} p e = go (true-or-false (done c l))
      where
        go : (done c l ≡ true) ⊎ (done c l ≡ false) → done c l ≡ true
        go (inl d) = d
        go (inr n) = absurd (omega (arith, step_falls p n))

    after : (n : ℕ) {l : List (Entry A)} → Cut (by_bit bit) c 0 roots l → n ≤ work l → work l ≡ n + work (steps (by_bit bit) c n l)
    unfolding steps
    after zero p h = omega arith
    after (suc n) {l} p h = go (true-or-false (done c l)) (after n (step_cut (by_bit bit) c p))
      where
        go : (done c l ≡ true) ⊎ (done c l ≡ false) → (n ≤ work (step (by_bit bit) c l) → work (step (by_bit bit) c l) ≡ n + work (steps (by_bit bit) c n (step (by_bit bit) c l)))
            → work l ≡ suc n + work (steps (by_bit bit) c n (step (by_bit bit) c l))
        go (inl d) rec = absurd (omega (arith, work-done l (done_none c l d)))
        go (inr k) rec = omega (arith, step_falls p k, rec (omega (arith, step_falls p k)))

    begun-cut : Cut (by_bit bit) c 0 roots (begun bit roots)
    begun-cut = whole

    -- THE STEPS TO "DONE" are the groups above c: after fewer the list is not done
    pub not-done-before : (n : ℕ) → n < group_count bit c m roots → done c (reached bit c roots n) ≡ false
    not-done-before n h = go (true-or-false (done c (reached bit c roots n)))
      where
        go : (done c (reached bit c roots n) ≡ true) ⊎ (done c (reached bit c roots n) ≡ false) → done c (reached bit c roots n) ≡ false
        go (inl d) =
            absurd (omega (arith, begun-work roots, after n begun-cut (omega (arith, begun-work roots)), work-done (reached bit c roots n) (done_none c (reached bit c roots n) d)))
        go (inr k) = k

    -- and after as many it is
    pub done-then : done c (reached bit c roots (group_count bit c m roots)) ≡ true
    done-then =
        work-done-iff (steps-cut (by_bit bit) c (group_count bit c m roots) begun-cut)
        (omega (arith, begun-work roots, after (group_count bit c m roots) begun-cut (omega (arith, begun-work roots))))

    -- NO REFUSAL 9: while a begun list is not done, its first entry above c is below level m, and the steps taken are
    -- below the limit
    pub never-refused : (n : ℕ) → n < group_count bit c m roots
        → let l = reached bit c roots n in ((entry_at l (first_above c l)).0 < m) × (n < m * (length roots / suc c))
    never-refused n h =
        let l : List (Entry A) = reached bit c roots n in
        let t : above c (entry_at l (first_above c l)) ≡ true = first_above-is c l (not-done-before n h) in
        (at_above c (λ e. above c e ≡ true → e.0 < m) l (first_above c l) (below_last (steps-cut (by_bit bit) c n begun-cut)) t t, omega (arith, count-bound bit c m roots))
