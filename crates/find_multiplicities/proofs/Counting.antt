-- Counting root after root: what holds at each turn, and what it means.
--   Counting        the first i roots are counted, and what they left stands from `at` on
--   counting-from, counting-asks, counting-fits, counting-room, counting-sum, counting-on, counting-end   the start, what
--                   taking out asks, that a count fits, that there is room, a turn, the end
--   simple-written  as many roots as the degree: each is simple, and ones are written
--   none            no root: nothing is written
--   lent-asks, lent-counts   what the count on a copy asks, and that it gives the multiplicities
-- Assumes nothing.
use mathlib.Core.Path.{◌≡◌, refl, sym, ap, ap₂, ◌∙◌, subst}
use mathlib.Core.Logic.{◌≢◌}
use mathlib.Core.List.{List, [], ◌∷◌, ◌++◌, map}
use Prim.Native.Nat.{ℕ, suc, ◌+◌, ◌-◌, ◌^◌, ◌≤◌, ◌<◌}
use native.Mathlib.Numerals.{add-one}
use native.Mathlib.Omega.{arith}
use lib.ListN.{length, get_or, take, drop, replicate, set, get_or-append, length-append, length-drop}
use lib.Seq.{drop-append-add, drop-cons, drop-drop, get_or-drop, length-take-le}
use Rattle.algebra.specs.Field.{OnNumbers}
use Rattle.algebra.specs.Polynomial.{Below}
use Rattle.algebra.specs.Multiplicity.{left, multiplicities_in, multiplicity}
use Rattle.algebra.proofs.StaysBelow.{below_at, roots_of-below}
use Rattle.algebra.proofs.RootList.{roots_of-distinct}
use Rattle.algebra.proofs.NumberMultiplicity as M
use Rattle.field.specs.Field.{G, multiplicities_at, roots_at}
use Rattle.slices.specs.Lists.{copied}
use Rattle.slices.proofs.Lists.{copied_behind, copied-front, length-copied}
use Rattle.slices.proofs.Filling.{Filling, fill-from, fill_on, fill_stop}
use Rattle.poly.specs.Lent.{Lent}
use Rattle.poly.specs.Monic.{TopIs}
use Rattle.poly.proofs.Logs.{numbers_of}
use Rattle.poly.proofs.Parts.{part_none, part-rest}
use Rattle.input.proofs.Fields.{known-field}
use Rattle.input.proofs.Polynomials.{nonzero-place}
use Rattle.find_multiplicities.specs.Counting.{Countable, Removable, Removed, Usable}

-- ---- lists

length-counts : (m : ℕ) (f s : List ℕ) → length (multiplicities_in (G m) f s) ≡ length s
unfolding multiplicities_in
length-counts m f [] = refl
length-counts m f (r ∷ s) = ap suc (length-counts m (left (G m) f r) s)

-- ---- the loop

-- the first i roots are counted, and what they left stands from `at` on
pub record Counting (m : ℕ) (roots ls ts f₀ mults₀ f mults : List ℕ) (at i : ℕ) : Type 0 where
  pub tables : Lent m ls ts
  pub given : Usable m roots f₀ mults₀
  pub within : i ≤ length roots
  pub at_most : at ≤ length f
  pub long : length f ≡ length f₀
  pub small : Below (2 ^ m) (drop at f)
  pub filled : Filling (copied (multiplicities_in (G m) f₀ roots) mults₀) mults₀ mults i
  pub ahead : drop i (multiplicities_in (G m) f₀ roots) ≡ multiplicities_in (G m) (drop at f) (drop i roots)

pub counting-from : {m : ℕ} {roots ls ts f mults : List ℕ} → Lent m ls ts → Usable m roots f mults → Counting m roots ls ts f mults f mults 0 0
counting-from {m} {roots} {ls} {ts} {f} {mults} l g =
    let room = g.room in
    record {
      tables = l;
      given = g;
      within = omega arith;
      at_most = omega arith;
      long = refl;
      small = g.small;
      filled = fill-from (copied (multiplicities_in (G m) f roots) mults) mults
          (length-copied (multiplicities_in (G m) f roots) mults (omega (arith, length-counts m f roots)));
      ahead = refl;
    }

module _ {m : ℕ} {roots ls ts f₀ mults₀ f mults : List ℕ} {at i : ℕ} (s : Counting m roots ls ts f₀ mults₀ f mults at i) where
  -- what taking out asks
  pub counting-asks : i < length roots → Removable m (get_or roots i 0) (take (length f - at) (drop at f))
  counting-asks l = record {
    element = below_at (2 ^ m) roots s.given.elements i l;
    small = subst (Below (2 ^ m)) (sym (part-rest at f)) s.small;
  }

  -- a count fits a slot, and there is one for it
  pub counting-fits : {e : ℕ} {y : List ℕ} → Removed m (get_or roots i 0) (take (length f - at) (drop at f)) e y → e < 65536
  counting-fits {e} r =
      let n : length (take (length f - at) (drop at f)) ≡ length f - at = ap length (part-rest at f) ∙ length-drop at f in
      let few = s.given.few in
      let long = s.long in
      omega (arith, r.within)

  -- and the places stay within f
  pub counting-sum : {e : ℕ} {y : List ℕ} → Removed m (get_or roots i 0) (take (length f - at) (drop at f)) e y → at + e ≤ length f
  counting-sum {e} r =
      let n : length (take (length f - at) (drop at f)) ≡ length f - at = ap length (part-rest at f) ∙ length-drop at f in
      let b = s.at_most in
      omega (arith, r.within)

  pub counting-room : i < length roots → i < length mults
  counting-room l = let room = s.given.room in let long = s.filled.long in omega arith

  -- a turn counts one root more
  pub counting-on : {e : ℕ} {y : List ℕ} → i < length roots → Removed m (get_or roots i 0) (take (length f - at) (drop at f)) e y
      → length y ≡ length (take (length f - at) (drop at f))
      → Counting m roots ls ts f₀ mults₀ (take at f ++ (y ++ drop (length f - at) (drop at f))) (set mults i e) (at + e) (i + 1)
  unfolding multiplicities_in copied
  counting-on {e} {y} l r n =
      let g : List ℕ = drop at f in
      let x : ℕ = get_or roots i 0 in
      let all : List ℕ = multiplicities_in (G m) f₀ roots in
      let b = s.at_most in
      let room = s.given.room in
      let part : take (length f - at) g ≡ g = part-rest at f in
      let size : length y ≡ length f - at = n ∙ ap length part ∙ length-drop at f in
      let front : length (take at f) ≡ at = length-take-le at f b in
      let here : e ≡ multiplicity (G m) g x = r.count ∙ ap (λ u. multiplicity (G m) u x) part in
      let whole : take at f ++ (y ++ drop (length f - at) g) ≡ take at f ++ y = ap (λ u. take at f ++ u) (part_none at f y) in
      let rest : drop (at + e) (take at f ++ (y ++ drop (length f - at) g)) ≡ left (G m) g x =
      ap (drop (at + e)) whole ∙ ap (λ k. drop (k + e) (take at f ++ y)) (sym front) ∙ drop-append-add (take at f) y e
      ∙ r.rest ∙ ap (λ u. left (G m) u x) part in
      let next : drop i all ≡ multiplicity (G m) g x ∷ multiplicities_in (G m) (left (G m) g x) (drop (i + 1) roots) =
      s.ahead ∙ ap (multiplicities_in (G m) g) (drop-cons roots i 0 l ∙ ap (λ k. x ∷ drop k roots) (sym (add-one i))) in
      let long : length (take at f ++ (y ++ drop (length f - at) g)) ≡ length f = ap length whole ∙ length-append (take at f) y ∙ omega arith in
      let plain : i + 0 ≡ i = omega arith in
      let first : get_or all i 0 ≡ multiplicity (G m) g x = ap (λ k. get_or all k 0) (sym plain) ∙ sym (get_or-drop i all 0 0) ∙ ap (λ u. get_or u 0 0) next in
      let value : e ≡ get_or (copied all mults₀) i 0 =
      here ∙ sym (get_or-append all (drop (length all) mults₀) 0 i (omega (arith, length-counts m f₀ roots)) ∙ first) in
      record {
        tables = s.tables;
        given = s.given;
        within = omega arith;
        at_most = subst (λ k. at + e ≤ k) (sym long) (counting-sum r);
        long = long ∙ s.long;
        small = subst (Below (2 ^ m)) (sym rest)
            (M.left_in-below (numbers_of s.tables) (length g) g x (below_at (2 ^ m) roots s.given.elements i l) s.small);
        filled = fill_on s.filled (omega arith) value;
        ahead = sym (drop-drop 1 i all) ∙ ap (drop 1) next ∙ ap (λ u. multiplicities_in (G m) u (drop (i + 1) roots)) (sym rest);
      }

  pub counting-end : length roots ≤ i → mults ≡ copied (multiplicities_in (G m) f₀ roots) mults₀
  counting-end l = fill_stop s.filled (copied_behind i (multiplicities_in (G m) f₀ roots) mults₀ (omega (arith, length-counts m f₀ roots)))

-- ---- what it means

module _ {m : ℕ} {f roots mults : List ℕ} (g : Countable m f roots mults) where
  N : OnNumbers (G m) (2 ^ m)
  N = (known-field m g.polynomial.field).numbers

  -- as many roots as the degree: each is simple
  all-simple : {k : ℕ} → TopIs f k → length roots + 1 ≡ k → replicate (length roots) 1 ≡ multiplicities_at m f
  unfolding N
  all-simple {k} t e =
      let n : k - 1 ≡ length roots = omega arith in
      let lead : get_or f (length roots) 0 ≢ 0 = subst (λ j. get_or f j 0 ≢ 0) n (t.nonzero (omega arith)) in
      sym (M.roots-simple N f g.polynomial.small (length roots) lead (λ j l. t.above j (omega arith)) (ap length (sym g.all)))

  -- and so ones are written
  pub simple-written : {k : ℕ} {mults' : List ℕ} → TopIs f k → length roots + 1 ≡ k → mults' ≡ copied (replicate (length roots) 1) mults
      → mults' ≡ copied (multiplicities_at m f) mults
  simple-written t e h = h ∙ ap (λ l. copied l mults) (all-simple t e)

  -- no root: nothing is written
  pub none : length roots ≡ 0 → mults ≡ copied (multiplicities_at m f) mults
  unfolding copied
  none e = go (roots_at m f) (sym (ap length g.all) ∙ e)
    where
      go : (s : List ℕ) → length s ≡ 0 → mults ≡ copied (map (multiplicity (G m) f) s) mults
      go [] h = refl
      go (x ∷ s) h = absurd (let b : ⊥ = omega arith in b)

module _ {m : ℕ} {f roots ls ts mults : List ℕ} (l : Lent m ls ts) (c : Countable m f roots mults) where
  -- what the count on a copy asks
  pub lent-asks : (d : List ℕ) {w : List ℕ} → w ≡ copied f d → Usable m roots (take (length f) w) mults
  lent-asks d {w} e =
      let front : take (length f) w ≡ f = ap (take (length f)) e ∙ copied-front f d refl in
      record {
        elements = subst (Below (2 ^ m)) (sym c.all) (roots_of-below (G m) (2 ^ m) f);
        small = subst (Below (2 ^ m)) (sym front) c.polynomial.small;
        few = omega (arith, ap length front, c.polynomial.few);
        room = c.room;
      }

  -- and that it gives the multiplicities
  pub lent-counts : (d : List ℕ) {w mults' : List ℕ} → w ≡ copied f d → mults' ≡ copied (multiplicities_in (G m) (take (length f) w) roots) mults
      → mults' ≡ copied (multiplicities_at m f) mults
  lent-counts d {w} e h =
      let s : List ℕ = roots_at m f in
      let j = nonzero-place c.polynomial in
      h ∙ ap (λ u. copied u mults)
      (ap₂ (λ (a b : List ℕ). multiplicities_in (G m) a b) (ap (take (length f)) e ∙ copied-front f d refl) c.all
      ∙ M.taken_out (numbers_of l) s f (roots_of-below (G m) (2 ^ m) f) c.polynomial.small j.0 j.1 (roots_of-distinct (G m) (2 ^ m) f))
