-- All factors: what the loop over the roots holds at each turn.
--   Multiplying        the product over the roots from i on stands from place i on
--   multiply-from, multiply-on, multiply-end   the start, a turn, the end
--   multiply-long, multiply-whole              how long the slice is, and the end, from what was lent
--   multiply-part, multiply-lent               what a turn lends: a slot, then the product over the roots behind
-- Assumes nothing.
use mathlib.Core.Path.{◌≡◌, refl, sym, ap, ap₂, subst, ◌∙◌}
use mathlib.Core.List.{List, [], ◌∷◌, ◌++◌, append_assoc}
use Prim.Native.Nat.{ℕ, suc, ◌+◌, ◌-◌, ◌^◌, ◌≤◌, ◌<◌}
use native.Mathlib.Omega.{arith}
use borrow.Rule.Slice.PartMut.{put_mid}
use lib.ListN.{length, get_or, take, drop, set, length-append, length-drop, length-set}
use lib.Seq.{drop_at, drop-cons, drop-length, drop-set-lt, length-take-le, set_split, take_at, take-set-le, take-suc}
use Rattle.algebra.specs.Polynomial.{from_roots, linear, mul}
use Rattle.algebra.proofs.StaysBelow.{below_at, drop-below}
use Rattle.field.specs.Field.{G}
use Rattle.slices.specs.Lists.{copied}
use Rattle.poly.specs.Lent.{Lent}
use Rattle.poly.specs.Asking.{Multipliable, Stretchable}
use Rattle.poly.proofs.RootProducts.{product-below, product-long}

-- the product over the roots from i on
abbrev behind : ℕ → List ℕ → ℕ → List ℕ
behind m roots i = from_roots (G m) (drop i roots)

-- it stands from place i on; before it and behind the last place the list is as it was
pub record Multiplying (m : ℕ) (ls ts roots f₀ f : List ℕ) (i : ℕ) : Type 0 where
  pub tables : Lent m ls ts
  pub given : Multipliable m roots f₀
  pub within : i ≤ length roots
  pub long : length f ≡ length f₀
  pub done : f ≡ take i f₀ ++ (behind m roots i ++ drop (suc (length roots)) f₀)

-- behind the last root the product is 1
pub multiply-from : {m : ℕ} {ls ts roots f : List ℕ} → Lent m ls ts → Multipliable m roots f
    → Multiplying m ls ts roots (set f (length roots) 1) (set f (length roots) 1) (length roots)
unfolding from_roots
multiply-from {m} {ls} {ts} {roots} {f} l g =
    let n : ℕ = length roots in
    let same : length (set f n 1) ≡ length f = length-set f n 1 in
    record {
      tables = l;
      given = record { small = g.small; room = omega (arith, g.room) };
      within = omega arith;
      long = refl;
      done = set_split f n 1 g.room
          ∙ ap₂ (λ u w. u ++ w) (sym (take-set-le n f n 1 (omega arith)))
          (ap₂ (λ u w. from_roots (G m) u ++ w) (sym (drop-length roots))
          (sym (drop-set-lt (suc n) f n 1 (omega arith))));
    }

module _ {m : ℕ} {ls ts roots f₀ f : List ℕ} {i : ℕ} (s : Multiplying m ls ts roots f₀ f i) where
  -- what lies behind the last place
  rest : List ℕ
  rest = drop (suc (length roots)) f₀

  -- a turn's slot and the product behind it
  slot : List ℕ
  slot = get_or f₀ (i - 1) 0 ∷ behind m roots i

  -- what lies before the slot, the slot with the product, what lies behind
  parts : 0 < i → f ≡ take (i - 1) f₀ ++ (slot ++ rest)
  unfolding slot rest
  parts h =
      let e : i ≡ suc (i - 1) = omega arith in
      let w = behind m roots i ++ rest in
      s.done ∙ ap (λ k. take k f₀ ++ w) e
      ∙ ap (λ u. u ++ w) (take-suc f₀ (i - 1) 0 (omega (arith, s.within, s.given.room)))
      ∙ append_assoc (take (i - 1) f₀) (get_or f₀ (i - 1) 0 ∷ []) w

  -- their lengths
  before-long : 0 < i → length (take (i - 1) f₀) ≡ i - 1
  before-long h = length-take-le (i - 1) f₀ (omega (arith, s.within, s.given.room))

  slot-long : 0 < i → length slot ≡ length roots + 1 - (i - 1)
  unfolding slot
  slot-long h = omega (arith, product-long m (drop i roots), length-drop i roots, s.within)

  -- what a turn lends
  multiply-part : 0 < i → take (length roots + 1 - (i - 1)) (drop (i - 1) f) ≡ get_or f₀ (i - 1) 0 ∷ behind m roots i
  unfolding slot
  multiply-part h =
      ap (take (length roots + 1 - (i - 1)))
      (ap (drop (i - 1)) (parts h) ∙ drop_at (take (i - 1) f₀) (slot ++ rest) (i - 1) (before-long h))
      ∙ take_at slot rest (length roots + 1 - (i - 1)) (slot-long h)

  -- it can be multiplied by the root before it
  pub multiply-lent : 0 < i
      → Stretchable m (get_or roots (i - 1) 0) (take (length roots + 1 - (i - 1)) (drop (i - 1) f))
  multiply-lent h =
      subst (Stretchable m (get_or roots (i - 1) 0)) (sym (multiply-part h)) (record {
        element = below_at (2 ^ m) roots s.given.small (i - 1) (omega (arith, s.within));
        small = product-below m s.tables.degree (drop i roots)
            (drop-below (2 ^ m) i roots s.given.small);
        room = omega (arith, product-long m (drop i roots));
      })

  -- one more factor
  pub multiply-on : {g : List ℕ} → 0 < i
      → g ≡ mul (G m) (linear (G m) (get_or roots (i - 1) 0))
      (drop 1 (take (length roots + 1 - (i - 1)) (drop (i - 1) f)))
      → Multiplying m ls ts roots f₀ (put_mid (i - 1) (length roots + 1 - (i - 1)) f g) (i - 1)
  unfolding slot rest from_roots
  multiply-on {g} h e =
      let j : ℕ = i - 1 in
      let n : ℕ = length roots in
      let up : suc j ≡ i = omega arith in
      let at : j < n = omega (arith, s.within) in
      let turn : drop j roots ≡ get_or roots j 0 ∷ drop i roots =
      drop-cons roots j 0 at ∙ ap (λ k. get_or roots j 0 ∷ drop k roots) up in
      let made : g ≡ behind m roots j =
      e ∙ ap (λ u. mul (G m) (linear (G m) (get_or roots j 0)) (drop 1 u)) (multiply-part h)
      ∙ ap (from_roots (G m)) (sym turn) in
      let back : take j f ++ (g ++ drop (n + 1 - j) (drop j f)) ≡ take j f₀ ++ (behind m roots j ++ rest) =
      ap₂ (λ u w. u ++ w) (ap (take j) (parts h) ∙ take_at (take j f₀) (slot ++ rest) j (before-long h))
      (ap₂ (λ u w. u ++ w) made
      (ap (drop (n + 1 - j)) (ap (drop j) (parts h) ∙ drop_at (take j f₀) (slot ++ rest) j (before-long h))
      ∙ drop_at slot rest (n + 1 - j) (slot-long h))) in
      record {
        tables = s.tables;
        given = s.given;
        within = omega arith;
        long = ap length back ∙ length-append (take j f₀) (behind m roots j ++ rest)
            ∙ omega (
              arith,
              before-long h,
              length-append (behind m roots j) rest,
              product-long m (drop j roots),
              length-drop j roots,
              length-drop (suc n) f₀,
              s.given.room,
            );
        done = back;
      }

  -- the product over all
  multiply-end : i ≤ 0 → f ≡ copied (from_roots (G m) roots) f₀
  unfolding copied
  multiply-end h =
      let z : i ≡ 0 = omega arith in
      s.done ∙ ap (λ j. take j f₀ ++ (behind m roots j ++ drop (suc (length roots)) f₀)) z
      ∙ ap (λ n. from_roots (G m) roots ++ drop n f₀) (sym (product-long m roots))

-- ---- from what is lent: its last slot is set to 1 before the loop

module _ {m i : ℕ} {ls ts roots f : List ℕ} (f₁ : List ℕ)
    (s : Multiplying m ls ts roots (set f₁ (length roots) 1) f i) where
  -- as long as it was
  pub multiply-long : length f ≡ length f₁
  multiply-long = s.long ∙ length-set f₁ (length roots) 1

  -- the last slot is of the product
  pub multiply-whole : i ≤ 0 → f ≡ copied (from_roots (G m) roots) f₁
  unfolding copied
  multiply-whole h =
      multiply-end s h
      ∙ ap (λ u. from_roots (G m) roots ++ u)
      (drop-set-lt (length (from_roots (G m) roots)) f₁ (length roots) 1 (omega (arith, product-long m roots)))
