-- From the coefficients up to the highest one to the list of all roots.
--   cut-coef      zeros above the highest coefficient change nothing
--   led-from      a list whose last element is not 0
--   found-NAME    what the calls of `find_lent` ask and leave
-- Assumes nothing.
use mathlib.Core.Path.{◌≡◌, ◌∙◌, refl, sym, ap, ap₂, subst, fun_ext}
use mathlib.Core.Logic.{◌≢◌, ◌↔◌}
use mathlib.Core.Bool.{true, false, true≢false}
use mathlib.Core.List.{List, Memᴰ, [], ◌∷◌}
use Prim.Native.Nat.{ℕ, zero, suc, ◌+◌, ◌-◌, ◌^◌, ◌≤◌, ◌<◌}
use native.Mathlib.Decide.{dec_lt}
use native.Mathlib.Omega.{arith}
use lib.Dec.{T}
use lib.ListN.{length, take, get_or, replicate}
use lib.Seq.{length-take-le, get_or-take}
use Rattle.algebra.specs.Field.{OnNumbers}
use Rattle.algebra.specs.Trial.{All, Distinct}
use Rattle.algebra.specs.Polynomial.{eval, coef, is_root, roots_of, Below}
use Rattle.algebra.proofs.Trial.{all-at}
use Rattle.algebra.proofs.StaysBelow.{take_below}
use Rattle.algebra.proofs.NumberEvaluation.{eval-same}
use Rattle.algebra.proofs.RootList.{is_root-is, roots_of-empty}
use Rattle.slices.specs.Lists.{copied}
use Rattle.slices.specs.Ordered.{Merged}
use Rattle.slices.specs.Bounded.{all_zero}
use Rattle.slices.proofs.Bounded.{all_zero-exactly}
use Rattle.slices.proofs.Lists.{length-copied, copied-front}
use Rattle.slices.proofs.Ordered.{merged-kept, merged-count}
use Rattle.field.specs.Field.{G, roots_at}
use Rattle.field.proofs.Known.{listed}
use Rattle.field.proofs.Instance.{known-numbers}
use Rattle.poly.specs.Monic.{TopIs}
use Rattle.input.specs.Limit.{limit}
use Rattle.input.specs.Polynomials.{PolynomialIn}
use Rattle.find_search.specs.Searching.{SearchedOut}
use Rattle.poly_resultants.specs.Maps.{Led}
use Rattle.poly_resultants.specs.Levels.{room, Climbs, Levelled}
use Rattle.poly_resultants.proofs.Numbers.{few-roots}
use Rattle.poly_resultants.specs.Chains.{Chained}

-- ---- zeros above the highest coefficient

past_end : (l : List ℕ) (i : ℕ) → length l ≤ i → get_or l i 0 ≡ 0
past_end [] i h = refl
past_end (x ∷ l) zero h = absurd (omega (arith, h))
past_end (x ∷ l) (suc i) h = past_end l i (omega (arith, h))

led-from : (m : ℕ) (l : List ℕ) → 0 < length l → get_or l (length l - 1) 0 ≢ 0 → Led (G m) l
led-from m [] h n = absurd (omega (arith, h))
led-from m (x ∷ []) h n = n
led-from m (x ∷ y ∷ l) h n = led-from m (y ∷ l) (omega arith) (λ e. n (same ∙ e))
  where
    same : get_or (x ∷ y ∷ l) (length (x ∷ y ∷ l) - 1) 0 ≡ get_or (y ∷ l) (length (y ∷ l) - 1) 0
    same = ap (λ i. get_or (x ∷ y ∷ l) i 0) one
      where
        one : length (x ∷ y ∷ l) - 1 ≡ suc (length (y ∷ l) - 1)
        one = omega arith

module _ {m : ℕ} {f : List ℕ} (a : PolynomialIn m f) {j : ℕ} (t : TopIs f j) where
  -- the numbers of the field, and f
  N : OnNumbers (G m) (2 ^ m)
  N = known-numbers (listed m a.field)

  small : Below (2 ^ m) f
  small = a.small

  long : length (take j f) ≡ j
  long = length-take-le j f t.within

  coef-cut : coef (G m) (take j f) ≡ coef (G m) f
  coef-cut = fun_ext (λ i. go i (dec_lt i j))
    where
      go : (i : ℕ) → Dec (i < j) → get_or (take j f) i 0 ≡ get_or f i 0
      go i (yes h) = get_or-take j f i 0 h
      go i (no h) = past_end (take j f) i (omega (arith, long)) ∙ sym (t.above i (omega arith))

  eval-cut : (x : ℕ) → x < 2 ^ m → eval (G m) (take j f) x ≡ eval (G m) f x
  eval-cut = eval-same N (take j f) f (take_below (2 ^ m) j f small) small coef-cut

  -- ---- a constant has no roots

  -- not all coefficients are 0, so there is a highest
  some : 0 < j
  some = go (dec_lt 0 j)
    where
      go : Dec (0 < j) → 0 < j
      go (yes h) = h
      go (no h) = absurd (impossible a.nonzero ((all_zero-exactly f).1 (zeros f (λ i. t.above i (omega arith)))))
        where
          zeros : (l : List ℕ) → ((i : ℕ) → get_or l i 0 ≡ 0) → l ≡ replicate (length l) 0
          zeros [] z = refl
          zeros (x ∷ l) z = ap₂ ◌∷◌ (z 0) (zeros l (λ i. z (suc i)))

          impossible : all_zero f ≡ false → all_zero f ≡ true → ⊥
          impossible u v = true≢false (sym v ∙ u)

  lead : get_or (take j f) (length (take j f) - 1) 0 ≢ 0
  lead e = t.nonzero some (sym (get_or-take j f (j - 1) 0 (let s = some in omega arith)) ∙ ap (λ i. get_or (take j f) (i - 1) 0) (sym long) ∙ e)

  led : Led (G m) (take j f)
  led = led-from m (take j f) (let s = some in omega (arith, long)) lead

  -- no number is a root of a polynomial of one coefficient
  pub found_none : {roots : List ℕ} → j < 2 → SearchedOut m f roots 0 roots
  unfolding copied
  found_none {roots} h = record { count = ap length (sym none); slots = sym (ap (λ s. copied s roots) none ∙ nothing roots) }
    where
      nothing : (l : List ℕ) → copied [] l ≡ l
      nothing l = refl

      fewer : (xs : List ℕ) → Distinct xs → All (λ x. (x < 2 ^ m) × (eval (G m) (take j f) x ≡ 0)) xs → length xs < 1
      fewer xs d e = let n = few-roots m a.field (take j f) xs (take_below (2 ^ m) j f small) led d e in omega (arith, long)

      none : roots_at m f ≡ []
      none = roots_of-empty N f small (λ z hz e. let n : 1 < 1 = fewer (z ∷ []) (tt, tt) ((hz, eval-cut z hz ∙ e), tt) in omega arith)

  -- ---- the roots, listed

  module _ (two : 2 ≤ j) where
    -- f, copied to a room of its own
    pub found-copies : length (take j f) ≤ suc limit
    found-copies = let w = t.within in let l = a.few in omega (arith, long)

    pub found-fits : {g : List ℕ} (z : List ℕ) → length z ≡ suc limit → g ≡ copied (take j f) z → j ≤ length g
    found-fits z n e = omega (arith, ap length e, length-copied (take j f) z (omega (arith, found-copies)), found-copies, long)

    pub found-cut : {g : List ℕ} (z : List ℕ) → g ≡ copied (take j f) z → take j g ≡ take j f
    found-cut z e = ap (take j) e ∙ copied-front (take j f) z long

    pub found-asks : {chain g xs : List ℕ} {end : ℕ} → Chained m chain end → g ≡ take j f → room ≤ length xs → Climbs m chain end g xs
    found-asks {chain} {g} {xs} {end} c e h = subst (λ u. Climbs m chain end u xs) (sym e) (record {
      steps = c.steps;
      fours = c.fours;
      poly = record {
        small = take_below (2 ^ m) j f small;
        least = omega (arith, long);
        limited = let w = t.within in let l = a.few in omega (arith, long);
        led = led;
      };
      space = h;
    })

    module _ {chain : List ℕ} {end : ℕ} (c : Chained m chain end) {g : List ℕ} {k : ℕ} {xs : List ℕ} (e : g ≡ take j f) (l' : Levelled m chain end g k xs) where
      l : Levelled m chain end (take j f) k xs
      l = subst (λ u. Levelled m chain end u k xs) e l'

      -- each root stands there, and nothing else
      members : (x : ℕ) → Memᴰ x (take k xs) ↔ ((x < 2 ^ m) × T (is_root (G m) f x))
      members x = (
        λ i. let e = all-at (λ x. (x < 2 ^ m) × (eval (G m) (take j f) x ≡ 0)) (take k xs) l.roots i in
            (e.0, (is_root-is N f small x e.0).1 (sym (eval-cut x e.0) ∙ e.1)),
        λ h. l.whole x h.0 (eval-cut x h.0 ∙ (is_root-is N f small x h.0).0 h.1) (c.reach x h.0),
      )

      found-few : length (take k xs) ≤ limit
      found-few =
          let n = few-roots m a.field (take j f) (take k xs) (take_below (2 ^ m) j f small) led l.distinct l.roots in
          let w = t.within in
          let p = a.few in
          omega (arith, long)

      pub found-room : (roots : List ℕ) → limit ≤ length roots → 0 + length (take k xs) ≤ length roots
      found-room roots r = omega (arith, found-few)

      pub found_all : {roots : List ℕ} {n : ℕ} {roots' : List ℕ} → Merged 0 (take k xs) roots n roots' → SearchedOut m f roots n roots'
      unfolding roots_of
      found_all g = let e = merged-kept (is_root (G m) f) (2 ^ m) g members in record { count = e.0; slots = e.1 }

      pub found-small : {roots : List ℕ} {n : ℕ} {roots' : List ℕ} → Merged 0 (take k xs) roots n roots' → n ≤ limit
      found-small g = omega (arith, merged-count g (omega arith), found-few)
