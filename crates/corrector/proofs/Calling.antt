-- What the called functions answer here: the roots of a locator polynomial, their places, and what is flipped.
--   count-places, roots-front      the roots in front of a list: as many as places, and each has a place
--   front-long                     what stands in front is as long as its number says
--   placeable, named-front         their places
--   mended-few                     a guess, flipped where it is right
--   Keyed, keyed                   the register that was found
--   placeable-named                the places that it names
--   unnamed-many                   they are more than t
--   mended-named                   they are flipped where they are right
-- Assumes nothing.
use mathlib.Core.Path.{◌≡◌, sym, ap, ◌∙◌, subst}
use mathlib.Core.List.{List, ◌++◌, map}
use Prim.Native.Nat.{ℕ, ◌≤◌, ◌<◌}
use native.Mathlib.Omega.{arith}
use lib.ListN.{length, get_or, take, drop, length-map, length-take}
use lib.Seq.{get_or-take, length-take-le, take_at}
use Rattle.std.specs.Prelude.{Option, Some, None, MatchOption}
use Rattle.field.specs.Field.{field_at, roots_at}
use Rattle.field_elements.specs.Calls.{position_under}
use Rattle.algebra.specs.Trial.{All}
use Rattle.poly_small.specs.Roots.{Front}
use Rattle.corrector_locator.specs.Under.{Under, PowerSums, register_of}
use Rattle.corrector_locator.specs.declared.State.{State}
use Rattle.corrector_locator.proofs.Fine.{Fine, register-fine}
use Rattle.corrector_code.specs.Eleven.{F11}
use Rattle.corrector_code.specs.Key.{register}
use Rattle.corrector.specs.Places.{places_of, named, IsRoot, Named, Placeable, Agrees, Apart, Mended, flip_all}
use Rattle.corrector.specs.Places.{Agreed, Unacceptable}
use Rattle.corrector.proofs.Marking.{roots-nonzero, places-distinct, places-below}

-- ---- the roots of a locator polynomial and their places

pub count-places : (p : List ℕ) {s : ℕ} {list : List ℕ} → Front (roots_at 11 p) s list → s ≡ length (places_of p)
unfolding places_of
count-places p f = f.count ∙ sym (length-map (roots_at 11 p) (position_under 1 (field_at 11)))

pub roots-front : (p : List ℕ) {s : ℕ} {list : List ℕ} → get_or p 0 0 ≡ 1 → Front (roots_at 11 p) s list → All IsRoot (take s list)
roots-front p first f = subst (All IsRoot) (sym f.front) (roots-nonzero p first)

-- as long as they say
pub front-long : {rs : List ℕ} {s : ℕ} {list : List ℕ} → Front rs s list → (s ≤ length list) × (s ≡ length (take s list))
front-long {rs} {s} {list} f =
    let n = f.count in
    let e : length (take s list) ≡ length rs = ap length f.front in
    let m = length-take s list in
    (omega arith, omega arith)

placed-places : (p : List ℕ) {s : ℕ} {list new : List ℕ} → Front (roots_at 11 p) s list
    → new ≡ map (position_under 1 (field_at 11)) (take s list) → new ≡ places_of p
unfolding places_of
placed-places p f e = e ∙ ap (map (position_under 1 (field_at 11))) f.front

apart-places : (p : List ℕ) → get_or p 0 0 ≡ 1 → Apart (places_of p)
apart-places p first = record { distinct = places-distinct p first; below = places-below p first }

pub placeable : (p : List ℕ) {s : ℕ} {list new : List ℕ} → get_or p 0 0 ≡ 1 → Front (roots_at 11 p) s list → s ≤ 8
    → new ≡ map (position_under 1 (field_at 11)) (take s list) → Placeable new
placeable p {s} {list} {new} first f l e =
    let h = placed-places p f e in
    let n = count-places p f in
    record { apart = subst Apart (sym h) (apart-places p first); few = (let m : length new ≡ length (places_of p) = ap length h in omega arith) }

-- the places in front of what the list has behind the roots
pub named-front : (p : List ℕ) {s t : ℕ} {list new : List ℕ} → Front (roots_at 11 p) s list
    → new ≡ map (position_under 1 (field_at 11)) (take s list) → s ≤ t → Named (places_of p) t s (new ++ drop s list)
named-front p {s} {t} {list} {new} f e l =
    let h = placed-places p f e in
    let n = count-places p f in
    let m : length new ≡ s = ap length h ∙ sym n in
    record { front = record { count = n; front = take_at new (drop s list) s m ∙ h }; few = l }

-- ---- sums

-- the first t odd power sums, of a list that has more
agreed-front : (odd js : List ℕ) {t : ℕ} → t ≤ length odd → Agrees (take t odd) (length (take t odd)) js → Agrees odd t js
agreed-front odd js {t} h a i l =
    let n : length (take t odd) ≡ t = length-take-le t odd h in
    a i (omega arith) ∙ get_or-take t odd i 0 l

agreed-all : (odd js : List ℕ) {t : ℕ} → t ≤ length odd → Agrees odd t js → Agrees (take t odd) (length (take t odd)) js
agreed-all odd js {t} h a i l =
    let n : length (take t odd) ≡ t = length-take-le t odd h in
    a i (omega arith) ∙ sym (get_or-take t odd i 0 (omega arith))

-- places that agreed
mended : (odd js word : List ℕ) {t n : ℕ} {after : List ℕ} → Apart js → length js ≤ t → t ≤ length odd
    → (n ≡ length js) × Agrees (take t odd) (length (take t odd)) js × (after ≡ flip_all js word) → Mended odd t word n after
mended odd js word a l h g = record {
  places = js;
  apart = a;
  right = record { few = l; sums = agreed-front odd js h g.1 };
  count = g.0;
  flips = g.2;
}

-- a guess, flipped where it is right
pub mended-few : (p odd word after : List ℕ) {t s : ℕ} {list new : List ℕ} → get_or p 0 0 ≡ 1 → Front (roots_at 11 p) s list
    → s ≤ t → t ≤ length odd → new ≡ map (position_under 1 (field_at 11)) (take s list)
    → (r : Option ℕ) → Agreed (take t odd) new word r after
    → MatchOption r (after ≡ word) (λ n. Mended odd t word n after)
mended-few p odd word after first f l h e None g = g.0
mended-few p odd word after {new = new} first f l h e (Some n) g =
    let q = placed-places p f e in
    let c = count-places p f in
    let m : length new ≡ length (places_of p) = ap length q in
    mended odd new word (subst Apart (sym q) (apart-places p first)) (omega arith) h g

-- ---- the register that the code found

pub record Keyed (s : List ℕ) (t : ℕ) (l : List ℕ) : Type 0 where
  pub below : Under l
  pub first : get_or l 0 0 ≡ 1
  pub places : places_of l ≡ named s t

pub keyed : (s : List ℕ) (t : ℕ) (r : State) → register_of r ≡ register F11 8 (λ j. get_or s j 0) t → Keyed s t r.locator
unfolding named
keyed s t r e =
    let f : Fine t (register_of r) = subst (Fine t) (sym e) (register-fine (λ j. get_or s j 0) t) in
    record { below = f.below; first = f.first; places = ap (λ g. places_of g.locator) e }

pub placeable-named : {s l list : List ℕ} {t n : ℕ} → Keyed s t l → t ≤ 8 → Named (places_of l) t n list → Placeable (take n list)
placeable-named {l = l} {list = list} {n = n} k m h =
    let q = h.front.front in
    record {
      apart = subst Apart (sym q) (apart-places l k.first);
      few = (let e : length (take n list) ≡ length (places_of l) = ap length q in let c = h.front.count in let f = h.few in omega arith);
    }

-- more than t
pub unnamed-many : {odd s l : List ℕ} {t : ℕ} → PowerSums odd s → Keyed s t l → t < length (places_of l) → Unacceptable odd t
unnamed-many {odd} {s} {l} {t} ps k h =
    (s, ps, λ a. let e : length (places_of l) ≡ length (named s t) = ap length k.places in let f = a.few in let z : ⊥ = omega arith in z)

-- flipped where they are right
pub mended-named : (odd word after : List ℕ) {s l list : List ℕ} {t n : ℕ} → PowerSums odd s → Keyed s t l → t ≤ length odd
    → Named (places_of l) t n list → (r : Option ℕ) → Agreed (take t odd) (take n list) word r after
    → MatchOption r ((after ≡ word) × Unacceptable odd t) (λ m. Mended odd t word m after)
mended-named odd word after {s} {l} {list} {t} {n} ps k h f None g =
    let q : take n list ≡ named s t = f.front.front ∙ k.places in
    (g.0, (s, ps, λ a. g.1 (agreed-all odd (take n list) h (subst (Agrees odd t) (sym q) a.sums))))
mended-named odd word after {s} {l} {list} {t} {n} ps k h f (Some m) g =
    let q = f.front.front in
    let c = f.front.count in
    let e : length (take n list) ≡ length (places_of l) = ap length q in
    let w = f.few in
    mended odd (take n list) word (subst Apart (sym q) (apart-places l k.first)) (omega arith) h g
