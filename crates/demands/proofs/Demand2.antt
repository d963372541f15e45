-- DEMAND 2 holds of every polynomial that the calls accept: `Demand2` of specs/Demand2.antt is the one record to read.
--   root-list       the roots of an accepted polynomial are a root list
--   multiplicity-list   their multiplicities are the list of multiplicities
--   search-passes   what the whole call accepts the search accepts;  solve-passes  and so back, at each cutoff up to
--                   the highest
--   holds           a list copied over the front of another is held
--   demand-2        it holds where the whole call accepts
--   demand-2-search and where the search does, at each cutoff up to the highest
-- Assumes nothing.
use mathlib.Core.Path.{◌≡◌, refl, sym, ap, subst, ◌∙◌}
use mathlib.Core.List.Memᴰ
use mathlib.Core.List.{List, Memᴰ, [], ◌∷◌, map}
use mathlib.Core.Logic.{◌≢◌}
use Prim.Native.Nat.{ℕ, zero, suc, ◌^◌, ◌<◌, ◌≤◌}
use native.Mathlib.Nat.{not-suc-le-zero, le_of_suc-le-suc}
use borrow.Author.Tests.{le-ltb, ltb-false}
use lib.ListN.{length, get_or, take, drop, length-map}
use lib.Seq.{take-append_seam, drop-append_seam, ext_get_or}
use Rattle.std.specs.Prelude.{Ok}
use Rattle.refusals.specs.Order.{Passed}
use Rattle.refusals.proofs.Order.{accepted, written, passes, failed, others}
use Rattle.algebra.specs.Field.{OnNumbers}
use Rattle.algebra.specs.Trial.{All}
use Rattle.algebra.specs.Multiplicity.{multiplicity}
use Rattle.algebra.proofs.StaysBelow.{below_at, roots_of-below}
use Rattle.algebra.proofs.NumberMultiplicity.{multiplicity-right, multiplicity-only, multiplicity-root, total_at_most, factored}
use Rattle.algebra.proofs.RootList.{roots_of-ascending, roots_of-distinct, roots_of-exactly, roots_of-only}
use Rattle.slices.specs.Lists.{copied}
use Rattle.field.specs.Field.{roots_at, multiplicities_at, G}
use Rattle.input.specs.Cutoff.{highest_cutoff}
use Rattle.input.proofs.Fields.{known-field}
use Rattle.input.specs.Polynomials.{PolynomialIn}
use Rattle.input.proofs.Polynomials.{polynomial-told, passed-more, passed_first, passed-rest}
use Rattle.input.proofs.Polynomials.{roots_few, nonzero-place}
use Rattle.table_rules.specs.Demand.{steps_at}
use Rattle.find_solve.specs.Calls.{solve_tests}
use Rattle.find_solve.proofs.Coincide.{solved-told}
use Rattle.find_search.specs.Calls.{search_tests}
use Rattle.find_search.proofs.Coincide.{searched-told}
use Rattle.demands.proofs.Agreement.{agree-list, agree-beside}
use Rattle.demands.specs.Demand2.{value_at, RootList, HasMultiplicity, MultiplicityList, Holds, Demand2}

-- the roots of an accepted polynomial
root-list : (m : ℕ) (f : List ℕ) → PolynomialIn m f → RootList m f (roots_at m f)
root-list m f t = record {
  ascending = roots_of-ascending (G m) (2 ^ m) f;
  once = roots_of-distinct (G m) (2 ^ m) f;
  exactly = roots_of-exactly N f t.small;
  empty = (none-at, empty_of (roots_at m f) (λ x h. (roots_of-exactly N f t.small x).0 h));
  only = λ l a e. sym (roots_of-only N f t.small l a e);
}
  where
    N : OnNumbers (G m) (2 ^ m)
    N = (known-field m t.field).numbers

    none-at : roots_at m f ≡ [] → (x : ℕ) → x < 2 ^ m → value_at m f x ≢ 0
    none-at e x l z = Memᴰ.not-nil (subst (Memᴰ x) e ((roots_of-exactly N f t.small x).1 (l, z)))

    empty_of : (l : List ℕ) → ((x : ℕ) → Memᴰ x l → (x < 2 ^ m) × (value_at m f x ≡ 0)) → ((x : ℕ) → x < 2 ^ m → value_at m f x ≢ 0) → l ≡ []
    empty_of [] k h = refl
    empty_of (x ∷ l) k h = let z = k x (Memᴰ.head refl) in absurd (h x z.0 z.1)

-- a list copied over the front of another
pub holds : (roots list after : List ℕ) → after ≡ copied roots list → Holds roots list after
unfolding copied
holds roots list after e = record {
  front = ap (take (length roots)) e ∙ take-append_seam roots (drop (length roots) list);
  behind = ap (drop (length roots)) e ∙ drop-append_seam roots (drop (length roots) list);
}

-- ---- multiplicities

-- functions of the elements of a list, place by place
map_at : (f : ℕ → ℕ) (l : List ℕ) (i : ℕ) → i < length l → get_or (map f l) i 0 ≡ f (get_or l i 0)
map_at f [] i h = absurd (not-suc-le-zero h)
map_at f (x ∷ l) zero h = refl
map_at f (x ∷ l) (suc i) h = map_at f l i (le_of_suc-le-suc h)

-- the multiplicities of the roots of an accepted polynomial
pub multiplicity-list : (m : ℕ) (f : List ℕ) → PolynomialIn m f → MultiplicityList m f (roots_at m f) (multiplicities_at m f)
multiplicity-list m f t = record {
  beside = length-map roots (multiplicity (G m) f);
  largest = λ i l. subst (HasMultiplicity m f (get_or roots i 0)) (sym (map_at (multiplicity (G m) f) roots i l)) (right (get_or roots i 0) (root-at i l));
  least = ones roots (λ x h. (multiplicity-root N f t.small place.0 place.1 x ((roots_of-exactly N f t.small x).0 h).0).1 ((roots_of-exactly N f t.small x).0 h).1);
  only = λ l e h. ext_get_or 0 l (multiplicities_at m f) (e ∙ sym (length-map roots (multiplicity (G m) f)))
      (λ i b. multiplicity-only (G m) (2 ^ m) f (get_or roots i 0) (h i (subst (λ n. i < n) e b)) (right (get_or roots i 0) (root-at i (subst (λ n. i < n) e b)))
      ∙ sym (map_at (multiplicity (G m) f) roots i (subst (λ n. i < n) e b)));
  sum = λ n z a. total_at_most N roots f (roots_of-below (G m) (2 ^ m) f) t.small n z a (roots_of-distinct (G m) (2 ^ m) f);
  whole = (factored N f t.small place.0 place.1).0;
  rest = (factored N f t.small place.0 place.1).1;
}
  where
    N : OnNumbers (G m) (2 ^ m)
    N = (known-field m t.field).numbers

    roots : List ℕ
    roots = roots_at m f

    place : (j : ℕ) × (get_or f j 0 ≢ 0)
    place = nonzero-place t

    right : (r : ℕ) → r < 2 ^ m → HasMultiplicity m f r (multiplicity (G m) f r)
    right r l = multiplicity-right N f t.small place.0 place.1 r l

    root-at : (i : ℕ) → i < length roots → get_or roots i 0 < 2 ^ m
    root-at i l = below_at (2 ^ m) roots (roots_of-below (G m) (2 ^ m) f) i l

    ones : (s : List ℕ) → ((x : ℕ) → Memᴰ x s → 1 ≤ multiplicity (G m) f x) → All (λ e. 1 ≤ e) (map (multiplicity (G m) f) s)
    ones [] h = tt
    ones (x ∷ s) h = (h x (Memᴰ.head refl), ones s (λ y k. h y (Memᴰ.tail k)))

-- what the whole call accepts the search accepts
pub search-passes : (m c : ℕ) (f list mults : List ℕ) → Passed (solve_tests m c f list mults) → Passed (search_tests m f list mults)
search-passes m c f list mults p = passed-more m f (passed_first m f p) (others (passed-rest m f p))

-- and so back, at each cutoff up to the highest
solve-passes : (m c : ℕ) (f list mults : List ℕ) → c ≤ highest_cutoff → Passed (search_tests m f list mults) → Passed (solve_tests m c f list mults)
solve-passes m c f list mults h p = passed-more m f (passed_first m f p) (passes (le-ltb highest_cutoff c h) (passed-rest m f p))

pub demand-2 : (m c : ℕ) (f list mults : List ℕ) → Passed (solve_tests m c f list mults) → Demand2 m c f list mults
demand-2 m c f list mults p =
    let t : PolynomialIn m f = polynomial-told m f p in
    let q : Passed (search_tests m f list mults) = search-passes m c f list mults p in
    let h : c ≤ highest_cutoff = ltb-false highest_cutoff c (failed (passed-rest m f p)) in
    record {
      roots = root-list m f t;
      multiplicities = multiplicity-list m f t;
      few = roots_few t;
      solve-gives = λ r after beside s. (
        solved-told r (Ok (record { s = length (roots_at m f); steps = steps_at m c f })) (s.answer ∙ accepted _ p),
        holds (roots_at m f) list after (s.list ∙ written _ list p),
        holds (multiplicities_at m f) mults beside (s.beside ∙ written _ mults p),
      );
      search-gives = λ r after beside s. (
        searched-told r (Ok (length (roots_at m f))) (s.answer ∙ accepted _ q),
        holds (roots_at m f) list after (s.list ∙ written _ list q),
        holds (multiplicities_at m f) mults beside (s.beside ∙ written _ mults q),
      );
      agree = λ r s x y u v a b. (
        a.list ∙ agree-list m c f list mults h ∙ sym b.list,
        a.beside ∙ agree-beside m c f list mults h ∙ sym b.beside,
      );
    }

pub demand-2-search : (m c : ℕ) (f list mults : List ℕ) → c ≤ highest_cutoff → Passed (search_tests m f list mults) → Demand2 m c f list mults
demand-2-search m c f list mults h p = demand-2 m c f list mults (solve-passes m c f list mults h p)
