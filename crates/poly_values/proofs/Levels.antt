-- The levels that start a transform from coefficients: those with nothing but one coefficient above the half cost two
-- vectors.
--   start-leaf   one coefficient
--   start-low    nothing but one coefficient above the half
--   start-full   the first butterflies, then the transforms of the halves
-- Assumes nothing.
use mathlib.Core.Path.{◌≡◌, refl, sym, ap, ap₂, ◌∙◌, subst}
use mathlib.Core.List.{List, [], ◌∷◌, ◌++◌}
use Prim.Native.Nat.{ℕ, zero, suc, ◌+◌, ◌*◌, ◌-◌, ◌^◌, ◌<◌, ◌≤◌}
use native.Mathlib.Nat.{suc-mul, zero-mul, add-mul, pow-suc}
use native.Mathlib.Omega.{arith}
use lib.Pow.{pow_pos}
use lib.Bits.{bit_xor, xor_zero_r}
use lib.ListN.{get_or, length, take, drop, length-take, length-append}
use lib.Seq.{paste, length-paste, get_or-take, get_or-drop, take_at, drop_at}
use borrow.Rule.Slice.PartMut.{put_mid}
use mathlib.Core.Bool.{true}
use Rattle.algebra.specs.Polynomial.{Below}
use Rattle.slices.specs.Bounded.{all_zero}
use Rattle.slices.proofs.Bounded.{all_zero-exactly}
use Rattle.poly_values.proofs.Tail.{lent-tail, back}
use Rattle.poly_values.proofs.Image.{all_take}
use Rattle.field.specs.Field.{Field, mul, numbers}
use Rattle.field.proofs.Ring.{FullDegree, mul_comm, mul-zero-r}
use Rattle.poly_values.specs.Transform.{node, transform, map_mults}
use Rattle.poly_values.specs.Planes.{lane, words_at, sum_words, spread_words, field_by, tree_of, transform_at, halves_at, lane_row, Multiple, Spread, Firsts, RowStarted}
use Rattle.poly_values.proofs.Planes.{BinaryDigits, lane-sum, sum-words}
use Rattle.poly_values.proofs.Lists.{length-tabulate, get_or-zeros}
use Rattle.poly_values.proofs.Scalars.{spread-is}
use Rattle.poly_values.proofs.Lanes.{length-row, row-append, row-run, width-tree, node_by, length_at, lower-row, upper-row, length-lower, length-upper}
use Rattle.poly_values.proofs.Starting.{words_same, words-other}

-- x in the first place of a
abbrev with_first : ℕ → List ℕ → List ℕ
with_first x a = x ∷ drop 1 a

first-at : (x : ℕ) (a : List ℕ) (i : ℕ) → 0 < i → get_or (with_first x a) i 0 ≡ get_or a i 0
first-at x a zero h = absurd (omega arith)
first-at x a (suc i) h = get_or-drop 1 a i 0 ∙ ap (λ j. get_or a j 0) (omega arith)

length-first : (x : ℕ) (a : List ℕ) → 0 < length a → length (with_first x a) ≡ length a
length-first x [] h = absurd (omega arith)
length-first x (y ∷ a) h = refl

-- the first coefficient x, and y that stands above it, after their butterfly with the multiplier e
pub record Pair (q x e : List ℕ) (y : ℕ) (s t : List ℕ) : Type 0 where
  pub ns : length s ≡ length q
  pub nt : length t ≡ length q
  pub lane-s : (l : ℕ) → lane l s ≡ bit_xor (lane l x) (mul (field_by q) (lane l e) y)
  pub lane-t : (l : ℕ) → l < 64 → lane l t ≡ bit_xor (lane l s) y

module _ (q : List ℕ) (ok : BinaryDigits q) (monic : FullDegree (field_by q)) where
  abbrev F : Field
  F = field_by q

  abbrev m : ℕ
  m = length q

  pub start-leaf : {g x a p p' : List ℕ} → length x ≡ m → length a ≡ 1 → length p ≡ m → p' ≡ paste p 0 x m → RowStarted q 0 g x a p p'
  unfolding lane_row tree_of map_mults transform
  start-leaf {g} {x} {a} {p} {p'} nx na np e = record {
    long = ap length e ∙ length-paste p 0 x m (omega (arith, np)) (omega (arith, nx));
    rows = λ l h. ap (λ y. y ∷ []) (ap (λ w. lane l (words_at m w 0)) e ∙ ap (lane l) (words_same p x 0 m (omega (arith, np)) nx)) ∙ ap (λ s. lane l x ∷ s) (sym (none a na));
  }
    where
      none : (a : List ℕ) → length a ≡ 1 → drop 1 a ≡ []
      none [] n = absurd (omega arith)
      none (y ∷ []) n = refl
      none (y ∷ z ∷ a) n = absurd (omega arith)

  pub pair-from : {x e b c s t : List ℕ} {y : ℕ} → length x ≡ m → y < 2 ^ m → Multiple q y e c → s ≡ sum_words m x c → b ≡ spread_words m y → t ≡ sum_words m s b
      → Pair q x e y s t
  pair-from {x} {e} {b} {c} {s} {t} {y} nx hy ec es eb et =
      let B : Spread q y b = spread-is q y hy eb in
      let ls : length s ≡ m = ap length es ∙ length-tabulate m _ in
      record {
        ns = ls;
        nt = ap length et ∙ length-tabulate m _;
        lane-s = λ l. ap (lane l) (es ∙ sum-words m x c nx ec.long) ∙ lane-sum l x c ∙ ap (bit_xor (lane l x)) (ec.lanes l ∙ mul_comm F monic y (lane l e));
        lane-t = λ l h. ap (lane l) (et ∙ sum-words m s b ls B.long) ∙ lane-sum l s b ∙ ap (bit_xor (lane l s)) (B.lanes l h);
      }

  module _ {x e s t : List ℕ} {y : ℕ} (both : Pair q x e y s t) where
    -- nothing but y above the half
    pub start-low : (k h : ℕ) {g a p r z p' : List ℕ} → h ≡ 2 ^ k → length a ≡ h + h → y ≡ get_or a h 0 → ((i : ℕ) → h < i → get_or a i 0 ≡ 0) → e ≡ words_at m g 0
        → length p ≡ (h + h) * m → RowStarted q k (drop m g) s (take h a) (take (h * m) p) r → RowStarted q k (drop (h * m) g) t (take h a) (drop (h * m) p) z → p' ≡ r ++ z
        → RowStarted q (suc k) g x a p p'
    unfolding tree_of map_mults
    start-low k h {g} {a} {p} {r} {z} {p'} hk na ey above ee np R Z e' = record {
      long = ap length e' ∙ length-append r z ∙ omega (arith, nr, nz, np, add-mul h h m);
      rows = λ l d.
          ap₂ (λ i w. lane_row m l i w) (omega (arith, pow-suc 2 k, hk)) e'
          ∙ row-append m l h h r z nr nz
          ∙ ap₂ ◌++◌ (ap (λ i. lane_row m l i r) hk ∙ R.rows l d) (ap (λ i. lane_row m l i z) hk ∙ Z.rows l d)
          ∙ sym (node_by F (mul-zero-r F monic) (lane l e) h (map_mults (lane l) (tree_of q k (drop m g))) (map_mults (lane l) (tree_of q k (drop (h * m) g)))
          (with_first (lane l x) a) (with_first (lane l s) (take h a)) (with_first (lane l t) (take h a))
          (width-tree q l k (drop m g) ∙ sym hk) (length-first (lane l x) a (omega (arith, some)) ∙ na) (length-first (lane l s) (take h a) (omega (arith, nh, some)) ∙ nh) (length-first (lane l t) (take h a) (omega (arith, nh, some)) ∙ nh)
          (λ i j. at l d i j))
          ∙ ap₂ (λ v i. transform (numbers F) (node (lane l v) (map_mults (lane l) (tree_of q k (drop m g))) (map_mults (lane l) (tree_of q k (drop (i * m) g)))) (with_first (lane l x) a)) ee hk;
    }
      where
        some : 1 ≤ h
        some = omega (arith, pow_pos k, hk)

        nr : length r ≡ h * m
        nr = R.long ∙ length-lower m 0 h p np

        nz : length z ≡ h * m
        nz = Z.long ∙ length-upper m 0 h p np

        nh : length (take h a) ≡ h
        nh = length-take h a ∙ omega (arith, na)

        at : (l : ℕ) → l < 64 → (i : ℕ) → i < h
            → (get_or (with_first (lane l s) (take h a)) i 0 ≡ bit_xor (get_or (with_first (lane l x) a) i 0) (mul F (lane l e) (get_or (with_first (lane l x) a) (h + i) 0)))
            × (get_or (with_first (lane l t) (take h a)) i 0 ≡ bit_xor (get_or (with_first (lane l s) (take h a)) i 0) (get_or (with_first (lane l x) a) (h + i) 0))
        at l d zero j = (
          both.lane-s l ∙ ap (λ u. bit_xor (lane l x) (mul F (lane l e) u)) y-is,
          both.lane-t l d ∙ ap (bit_xor (lane l s)) y-is,
        )
          where
            y-is : y ≡ get_or (with_first (lane l x) a) (h + 0) 0
            y-is = ey ∙ ap (λ i. get_or a i 0) (omega arith) ∙ sym (first-at (lane l x) a (h + 0) (omega (arith, some)))
        at l d (suc i) j = (
          low (lane l s) ∙ sym (ap₂ (λ u v. bit_xor u (mul F (lane l e) v)) (first-at (lane l x) a (suc i) (omega arith)) gone ∙ ap (bit_xor (get_or a (suc i) 0)) (mul-zero-r F monic (lane l e)) ∙ xor_zero_r (get_or a (suc i) 0)),
          low (lane l t) ∙ sym (ap₂ bit_xor (low (lane l s)) gone ∙ xor_zero_r (get_or a (suc i) 0)),
        )
          where
            low : (u : ℕ) → get_or (with_first u (take h a)) (suc i) 0 ≡ get_or a (suc i) 0
            low u = first-at u (take h a) (suc i) (omega arith) ∙ get_or-take h a (suc i) 0 j

            gone : get_or (with_first (lane l x) a) (h + suc i) 0 ≡ 0
            gone = first-at (lane l x) a (h + suc i) (omega arith) ∙ above (h + suc i) (omega arith)

    -- the first butterflies of all coefficients
    pub start-full : (k h : ℕ) {g a p p₁ p₂ p₃ p' : List ℕ} → h ≡ 2 ^ k → length a ≡ h + h → y ≡ get_or a h 0 → e ≡ words_at m g 0
        → length p ≡ (h + h) * m → Firsts q e a h h p p₁ → p₂ ≡ paste p₁ 0 s m → p₃ ≡ paste p₂ (h * m) t m → p' ≡ halves_at q k h g p₃
        → RowStarted q (suc k) g x a p p'
    unfolding tree_of map_mults
    start-full k h {g} {a} {p} {p₁} {p₂} {p₃} {p'} hk na ey ee np fs e₂ e₃ e' = record {
      long = ap length e' ∙ length-append lo hi ∙ omega (arith, nlo, nhi, np, add-mul h h m);
      rows = λ l d.
          ap₂ (λ i w. lane_row m l i w) (omega (arith, pow-suc 2 k, hk)) e'
          ∙ row-append m l h h lo hi nlo nhi
          ∙ ap₂ ◌++◌ (ap (λ i. lane_row m l i lo) hk ∙ row-run q ok l k (drop m g) (take (h * m) p₃) (length-lower m 0 h p₃ n₃ ∙ ap (λ i. i * m) hk) ∙ ap (λ i. transform (numbers F) (map_mults (lane l) (tree_of q k (drop m g))) (lane_row m l i (take (h * m) p₃))) (sym hk))
          (ap (λ i. lane_row m l i hi) hk ∙ row-run q ok l k (drop (h * m) g) (drop (h * m) p₃) (length-upper m 0 h p₃ n₃ ∙ ap (λ i. i * m) hk) ∙ ap (λ i. transform (numbers F) (map_mults (lane l) (tree_of q k (drop (h * m) g))) (lane_row m l i (drop (h * m) p₃))) (sym hk))
          ∙ sym (node_by F (mul-zero-r F monic) (lane l e) h (map_mults (lane l) (tree_of q k (drop m g))) (map_mults (lane l) (tree_of q k (drop (h * m) g)))
          (with_first (lane l x) a) (lane_row m l h (take (h * m) p₃)) (lane_row m l h (drop (h * m) p₃))
          (width-tree q l k (drop m g) ∙ sym hk) (length-first (lane l x) a (omega (arith, some)) ∙ na) (length-row m l h (take (h * m) p₃)) (length-row m l h (drop (h * m) p₃))
          (λ i j. (lower-row m l h p₃ n₃ i j ∙ low l d i j, upper-row m l h p₃ n₃ i j ∙ up l d i j ∙ ap (λ u. bit_xor u (get_or (with_first (lane l x) a) (h + i) 0)) (sym (lower-row m l h p₃ n₃ i j)))))
          ∙ ap₂ (λ v i. transform (numbers F) (node (lane l v) (map_mults (lane l) (tree_of q k (drop m g))) (map_mults (lane l) (tree_of q k (drop (i * m) g)))) (with_first (lane l x) a)) ee hk;
    }
      where
        some : 1 ≤ h
        some = omega (arith, pow_pos k, hk)

        wide : h * m + m ≤ length p
        wide = let w : (h + h) * m ≡ h * m + h * m = add-mul h h m in let v : m ≤ h * m = times h some in omega (arith, np)
          where
            times : (h : ℕ) → 1 ≤ h → m ≤ h * m
            times zero s = absurd (omega arith)
            times (suc h) s = omega (arith, suc-mul h m)

        n₂ : length p₂ ≡ length p
        n₂ = ap length e₂ ∙ length-paste p₁ 0 s m (omega (arith, fs.long, wide)) (omega (arith, both.ns)) ∙ fs.long

        n₃ : length p₃ ≡ (h + h) * m
        n₃ = ap length e₃ ∙ length-paste p₂ (h * m) t m (omega (arith, n₂, wide)) (omega (arith, both.nt)) ∙ n₂ ∙ np

        lo : List ℕ
        lo = transform_at q k (drop m g) (take (h * m) p₃)

        hi : List ℕ
        hi = transform_at q k (drop (h * m) g) (drop (h * m) p₃)

        nlo : length lo ≡ h * m
        nlo = length_at q ok k (drop m g) (take (h * m) p₃) (length-lower m 0 h p₃ n₃ ∙ ap (λ i. i * m) hk) ∙ ap (λ i. i * m) (sym hk)

        nhi : length hi ≡ h * m
        nhi = length_at q ok k (drop (h * m) g) (drop (h * m) p₃) (length-upper m 0 h p₃ n₃ ∙ ap (λ i. i * m) hk) ∙ ap (λ i. i * m) (sym hk)

        -- the words at each place in the end
        w-first : words_at m p₃ (0 * m) ≡ s
        w-first =
            ap (λ w. words_at m w (0 * m)) e₃ ∙ words-other m p₂ t h 0 (omega (arith, n₂, wide)) both.nt (λ z. omega (arith, some))
            ∙ ap₂ (λ w i. words_at m w i) e₂ (zero-mul m) ∙ words_same p₁ s 0 m (omega (arith, fs.long, wide)) both.ns

        w-half : words_at m p₃ (h * m) ≡ t
        w-half = ap (λ w. words_at m w (h * m)) e₃ ∙ words_same p₂ t (h * m) m (omega (arith, n₂, wide)) both.nt

        w-other : (i : ℕ) → 0 < i → (i ≡ h → ⊥) → words_at m p₃ (i * m) ≡ words_at m p₁ (i * m)
        w-other i a b =
            ap (λ w. words_at m w (i * m)) e₃ ∙ words-other m p₂ t h i (omega (arith, n₂, wide)) both.nt b
            ∙ ap (λ w. words_at m w (i * m)) (e₂ ∙ ap (λ j. paste p₁ j s m) (sym (zero-mul m))) ∙ words-other m p₁ s 0 i (omega (arith, fs.long, wide, zero-mul m)) both.ns (λ z. omega arith)

        low : (l : ℕ) → l < 64 → (i : ℕ) → i < h → lane l (words_at m p₃ (i * m)) ≡ bit_xor (get_or (with_first (lane l x) a) i 0) (mul F (lane l e) (get_or (with_first (lane l x) a) (h + i) 0))
        low l d zero j = ap (lane l) w-first ∙ both.lane-s l ∙ ap (λ u. bit_xor (lane l x) (mul F (lane l e) u)) (ey ∙ ap (λ i. get_or a i 0) (omega arith) ∙ sym (first-at (lane l x) a (h + 0) (omega (arith, some))))
        low l d (suc i) j =
            ap (lane l) (w-other (suc i) (omega arith) (λ z. omega arith)) ∙ fs.lows (suc i) (omega arith) j l d
            ∙ sym (ap₂ (λ u v. bit_xor u (mul F (lane l e) v)) (first-at (lane l x) a (suc i) (omega arith)) (first-at (lane l x) a (h + suc i) (omega arith)))

        up : (l : ℕ) → l < 64 → (i : ℕ) → i < h → lane l (words_at m p₃ ((h + i) * m)) ≡ bit_xor (lane l (words_at m p₃ (i * m))) (get_or (with_first (lane l x) a) (h + i) 0)
        up l d zero j =
            ap (λ i. lane l (words_at m p₃ (i * m))) (omega arith) ∙ ap (lane l) w-half ∙ both.lane-t l d
            ∙ ap₂ bit_xor (ap (lane l) (sym w-first)) (ey ∙ ap (λ i. get_or a i 0) (omega arith) ∙ sym (first-at (lane l x) a (h + 0) (omega (arith, some))))
        up l d (suc i) j =
            ap (lane l) (w-other (h + suc i) (omega arith) (λ z. omega arith)) ∙ fs.ups (suc i) (omega arith) j l d
            ∙ sym (ap₂ bit_xor (ap (lane l) (w-other (suc i) (omega arith) (λ z. omega arith))) (first-at (lane l x) a (h + suc i) (omega arith)))

  -- what `start` does with its two halves
  pub low-joined : (k h : ℕ) {x e s t : List ℕ} {y : ℕ} → Pair q x e y s t → {g a p r z : List ℕ} → 0 < k → h ≡ 2 ^ (k - 1) → length a ≡ h + h → y ≡ get_or a h 0
      → ((i : ℕ) → h < i → get_or a i 0 ≡ 0) → e ≡ words_at m g 0 → length p ≡ (h + h) * m
      → RowStarted q (k - 1) (take (length g - m) (drop m g)) s (take h a) (take (h * m - 0) p) r
      → RowStarted q (k - 1) (take (length g - h * m) (drop (h * m) g)) t (take h a) (take (length (r ++ drop (h * m - 0) p) - h * m) (drop (h * m) (r ++ drop (h * m - 0) p))) z
      → RowStarted q k g x a p (put_mid (h * m) (length (r ++ drop (h * m - 0) p) - h * m) (r ++ drop (h * m - 0) p) z)
  low-joined k h {x} {e} {s} {t} {y} both {g} {a} {p} {r} {z} some hk na ey above ee np R Z =
      subst (λ (n : ℕ). RowStarted q n g x a p (put_mid u (length (r ++ drop (u - 0) p) - u) (r ++ drop (u - 0) p) z)) (sym down)
      (start-low both (k - 1) h hk na ey above ee np R' Z' (back (r ++ drop (u - 0) p) z u ∙ ap (λ l. l ++ z) (take_at r (drop (u - 0) p) u nr)))
    where
      u : ℕ
      u = h * m

      down : k ≡ suc (k - 1)
      down = omega arith

      nought : u - 0 ≡ u
      nought = omega arith

      R' : RowStarted q (k - 1) (drop m g) s (take h a) (take u p) r
      R' = subst (λ (l : List ℕ). RowStarted q (k - 1) l s (take h a) (take u p) r) (lent-tail g m) (subst (λ (n : ℕ). RowStarted q (k - 1) (take (length g - m) (drop m g)) s (take h a) (take n p) r) nought R)

      nr : length r ≡ u
      nr = R'.long ∙ length-lower m 0 h p np

      Z' : RowStarted q (k - 1) (drop u g) t (take h a) (drop u p) z
      Z' = subst (λ (l : List ℕ). RowStarted q (k - 1) l t (take h a) (drop u p) z) (lent-tail g u)
          (subst (λ (l : List ℕ). RowStarted q (k - 1) (take (length g - u) (drop u g)) t (take h a) l z) (lent-tail (r ++ drop (u - 0) p) u ∙ drop_at r (drop (u - 0) p) u nr ∙ ap (λ i. drop i p) nought) Z)

-- ---- nothing above the half

pub above_zero : (a : List ℕ) (h : ℕ) → all_zero (take (length a - (h + 1)) (drop (h + 1) a)) ≡ true → (i : ℕ) → h < i → get_or a i 0 ≡ 0
above_zero a h e i k =
    let d : i ≡ h + 1 + (i - (h + 1)) = omega arith in
    ap (λ j. get_or a j 0) d ∙ sym (get_or-drop (h + 1) a (i - (h + 1)) 0)
    ∙ ap (λ l. get_or l (i - (h + 1)) 0) (sym (lent-tail a (h + 1)) ∙ (all_zero-exactly (take (length a - (h + 1)) (drop (h + 1) a))).0 e)
    ∙ get_or-zeros (length (take (length a - (h + 1)) (drop (h + 1) a))) (i - (h + 1))

pub below-take : (b n : ℕ) (a : List ℕ) → Below b a → Below b (take n a)
below-take b n a h = all_take (λ c. c < b) n a h
