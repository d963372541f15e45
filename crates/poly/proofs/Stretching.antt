-- One factor: what the loop that multiplies by z + r holds at each turn.
--   stretched            the sum that the loop makes: f with r times what stands from place 1 on
--   linear-stretched     it is the product by z + r where f starts with 0
--   Stretching           the first i coefficients are the product's
--   stretch-from, stretch-on, stretch-end   the start, a turn, the end
--   stretch-room, stretch-whole             how long the slice is, and the end, from what was lent
--   stretch-logs, stretch-fits              a coefficient has its log, and the product stands in the table
--   stretch-skipped      by z + 0 the loop has nothing to do
-- Assumes nothing.
use mathlib.Core.Path.{◌≡◌, refl, sym, ap, ap₂, ◌∙◌}
use mathlib.Core.List.{List, [], ◌∷◌, map}
use Prim.Native.Nat.{ℕ, zero, suc, ◌+◌, ◌-◌, ◌^◌, ◌≤◌, ◌<◌}
use native.Mathlib.Nat.{not-suc-le-zero, le_of_suc-le-suc}
use native.Mathlib.Omega.{arith}
use lib.Bits.{bit_xor, xor_comm, xor_zero_r}
use lib.ListN.{length, get_or, drop, set, length-map, length-drop, length-set}
use lib.Seq.{get_or-drop, drop-set-lt}
use Rattle.algebra.specs.Field.{OnNumbers}
use Rattle.algebra.specs.Polynomial.{Below, add, linear, mul}
use Rattle.algebra.proofs.StaysBelow.{below_at}
use Rattle.field.specs.Field.{field_at, G}
use Rattle.field.proofs.Ring.{ring}
use Rattle.field.proofs.ByLogs.{product-fits, product-stands}
use Rattle.poly.proofs.Logs.{field_of, numbers_of, logs-fit}
use Rattle.poly.proofs.Sums.{add_at, add-nil, add_none, add-rest, long-row}
use Rattle.slices.proofs.Filling.{Filling, fill, fill-from, fill_on, fill-next, fill_stop, map_at}
use Rattle.poly.specs.Lent.{Lent}
use Rattle.poly.specs.Asking.{Stretchable}

-- the sum that the loop makes
abbrev pub stretched : ℕ → ℕ → List ℕ → List ℕ
stretched m r f = add (G m) f (map ((G m).mul r) (drop 1 f))

-- ---- the product

module _ (m : ℕ) where
  -- in either order
  sum_comm : (p q : List ℕ) → add (G m) p q ≡ add (G m) q p
  unfolding add
  sum_comm [] [] = refl
  sum_comm [] (d ∷ q) = refl
  sum_comm (c ∷ p) [] = refl
  sum_comm (c ∷ p) (d ∷ q) = ap₂ (λ x u. x ∷ u) (xor_comm c d) (sum_comm p q)

  -- once each coefficient
  once : OnNumbers (G m) (2 ^ m) → (p : List ℕ) → Below (2 ^ m) p → map ((G m).mul 1) p ≡ p
  once N [] h = refl
  once N (c ∷ p) h = ap₂ (λ x u. x ∷ u) (N.one-mul c h.0) (once N p h.1)

  -- times z, and r times
  linear-stretched : OnNumbers (G m) (2 ^ m) → (r : ℕ) (p : List ℕ) → Below (2 ^ m) p → 0 < length p
      → stretched m r (0 ∷ p) ≡ mul (G m) (linear (G m) r) p
  unfolding mul add
  linear-stretched N r [] h l = absurd (not-suc-le-zero l)
  linear-stretched N r (c ∷ p) h l =
      sum_comm (0 ∷ c ∷ p) (map ((G m).mul r) (c ∷ p))
      ∙ ap (λ u. add (G m) (map ((G m).mul r) (c ∷ p)) (0 ∷ u))
      (sym (ap₂ (λ x u. x ∷ u) (xor_zero_r ((G m).mul 1 c) ∙ N.one-mul c h.0)
      (add-nil m (map ((G m).mul 1) p) ∙ once N p h.1)))

-- ---- the loop

-- the first i coefficients are the product's
pub record Stretching (m : ℕ) (ls ts : List ℕ) (r : ℕ) (f₀ : List ℕ) (top : ℕ) (f : List ℕ) (i : ℕ) : Type 0 where
  pub tables : Lent m ls ts
  pub given : Stretchable m r f₀
  pub cleared : f₀ ≡ 0 ∷ drop 1 f₀
  pub ends : suc top ≡ length f₀
  pub within : i ≤ top
  pub filling : Filling (stretched m r f₀) f₀ f i

module _ {m : ℕ} {ls ts : List ℕ} {r : ℕ} (l : Lent m ls ts) where
  -- with 0 at its front it can be multiplied as well
  clear-front : (f : List ℕ) → Stretchable m r f
      → Stretchable m r (set f 0 0) × (set f 0 0 ≡ 0 ∷ drop 1 (set f 0 0))
  clear-front [] g = absurd (not-suc-le-zero g.room)
  clear-front (c ∷ f) g = (record { element = g.element; small = g.small; room = g.room }, refl)

  -- where f starts with 0 the sum is the product
  product-of : (f : List ℕ) → Stretchable m r f → f ≡ 0 ∷ drop 1 f
      → stretched m r f ≡ mul (G m) (linear (G m) r) (drop 1 f)
  product-of f g e =
      ap (λ u. add (G m) u (map ((G m).mul r) (drop 1 f))) e
      ∙ linear-stretched m (numbers_of l) r (drop 1 f) g.small (omega (arith, length-drop 1 f, g.room))

  -- the first slot is set to 0
  pub stretch-from : {f : List ℕ} → Stretchable m r f
      → Stretching m ls ts r (set f 0 0) (length (set f 0 0) - 1) (set f 0 0) 0
  stretch-from {f} g = record {
    tables = l;
    given = (clear-front f g).0;
    cleared = (clear-front f g).1;
    ends = omega (arith, length-set f 0 0, g.room);
    within = omega arith;
    filling = fill-from (stretched m r (set f 0 0)) (set f 0 0)
        (long-row m (set f 0 0) (drop 1 (set f 0 0)) r (omega (arith, length-drop 1 (set f 0 0))));
  }

  -- nothing is added
  pub stretch-skipped : {f : List ℕ} → Stretchable m r f → r ≡ 0
      → set f 0 0 ≡ mul (G m) (linear (G m) r) (drop 1 f)
  stretch-skipped {f} g z =
      let w = clear-front f g in
      let h : List ℕ = set f 0 0 in
      sym (ap (λ u. add (G m) h (map ((G m).mul u) (drop 1 h))) z
      ∙ add_none m (ring (field_at m) (field_of l).monic).mul-zero-l h (drop 1 h)
      (omega (arith, length-drop 1 h)))
      ∙ product-of h w.0 w.1 ∙ ap (mul (G m) (linear (G m) r)) (drop-set-lt 1 f 0 0 (omega arith))

-- what stands from i on is still r₀'s
later : {s r₀ r : List ℕ} {i : ℕ} → Filling s r₀ r i → (j : ℕ) → i ≤ j → get_or r j 0 ≡ get_or r₀ j 0
later {s} {r₀} {r} {i} f j l =
    ap (λ u. get_or u j 0) f.done ∙ go s r₀ i j (omega (arith, f.same, f.within)) f.within l
  where
    go : (s r : List ℕ) (i j : ℕ) → i ≤ length s → i ≤ length r → i ≤ j → get_or (fill s r i) j 0 ≡ get_or r j 0
    go s r zero j a b l = refl
    go [] r (suc i) j a b l = absurd (not-suc-le-zero a)
    go (x ∷ s) [] (suc i) j a b l = absurd (not-suc-le-zero b)
    go (x ∷ s) (y ∷ r) (suc i) zero a b l = absurd (not-suc-le-zero l)
    go (x ∷ s) (y ∷ r) (suc i) (suc j) a b l = go s r i j (le_of_suc-le-suc a) (le_of_suc-le-suc b) (le_of_suc-le-suc l)

module _ {m r top i : ℕ} {ls ts f₀ f : List ℕ} (s : Stretching m ls ts r f₀ top f i) where
  -- what is read above i is the polynomial's
  above : get_or f (i + 1) 0 ≡ get_or (drop 1 f₀) i 0
  above =
      let e : i + 1 ≡ 1 + i = omega arith in
      later s.filling (i + 1) (omega arith) ∙ ap (λ j. get_or f₀ j 0) e ∙ sym (get_or-drop 1 f₀ i 0)

  -- it has a coefficient there
  inside : i < top → i < length (drop 1 f₀)
  inside h = omega (arith, length-drop 1 f₀, s.ends)

  -- an element
  small : i < top → get_or f (i + 1) 0 < 2 ^ m
  small h = omega (arith, above, below_at (2 ^ m) (drop 1 f₀) s.given.small i (inside h))

  -- a coefficient has its log
  pub stretch-logs : i < top → get_or f (i + 1) 0 < length ls
  stretch-logs h = logs-fit s.tables (small h)

  -- the product stands in the table
  pub stretch-fits : 0 < r → i < top → get_or ls r 0 + get_or ls (get_or f (i + 1) 0) 0 < length ts
  stretch-fits p h = product-fits s.tables s.given.element (small h)

  -- one more coefficient
  pub stretch-on : 0 < r → i < top
      → Stretching m ls ts r f₀ top
      (set f i (bit_xor (get_or f i 0) (get_or ts (get_or ls r 0 + get_or ls (get_or f (i + 1) 0) 0) 0))) (i + 1)
  stretch-on p h =
      let q : List ℕ = map ((G m).mul r) (drop 1 f₀) in
      let long : length q ≡ length (drop 1 f₀) = length-map (drop 1 f₀) ((G m).mul r) in
      let one : length (drop 1 f₀) ≡ length f₀ - 1 = length-drop 1 f₀ in
      let ends = s.ends in
      let here : i < length f₀ = omega arith in
      let short : length q ≤ length f₀ = omega arith in
      let at : i < length q = omega arith in
      record {
        tables = s.tables;
        given = s.given;
        cleared = s.cleared;
        ends = ends;
        within = omega arith;
        filling = fill_on s.filling here
            (ap₂ bit_xor (fill-next s.filling here)
            (product-stands s.tables p s.given.element (small h) ∙ ap ((G m).mul r) above
            ∙ sym (map_at ((G m).mul r) (drop 1 f₀) i (inside h)))
            ∙ sym (add_at m f₀ q i short at));
      }

  -- the last coefficient is as it was
  stretch-end : top ≤ i → f ≡ mul (G m) (linear (G m) r) (drop 1 f₀)
  stretch-end h =
      let q : List ℕ = map ((G m).mul r) (drop 1 f₀) in
      let e : i ≡ length q = omega (arith, length-map (drop 1 f₀) ((G m).mul r), length-drop 1 f₀, s.ends, s.within) in
      fill_stop s.filling
      (ap (λ n. drop n (stretched m r f₀)) e ∙ add-rest m f₀ q (omega (arith, s.ends, s.within))
      ∙ ap (λ n. drop n f₀) (sym e))
      ∙ product-of s.tables f₀ s.given s.cleared

-- ---- from what is lent: its first slot is set to 0 before the loop

module _ {m r top i : ℕ} {ls ts f : List ℕ} (f₁ : List ℕ) (s : Stretching m ls ts r (set f₁ 0 0) top f i) where
  -- the last place, and as long as it was
  pub stretch-room : (suc top ≡ length f₁) × (length f ≡ length f₁)
  stretch-room = (s.ends ∙ length-set f₁ 0 0, s.filling.long ∙ length-set f₁ 0 0)

  -- what stood in the first slot is not in the product
  pub stretch-whole : top ≤ i → f ≡ mul (G m) (linear (G m) r) (drop 1 f₁)
  stretch-whole h = stretch-end s h ∙ ap (mul (G m) (linear (G m) r)) (drop-set-lt 1 f₁ 0 0 (omega arith))
