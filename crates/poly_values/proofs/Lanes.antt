-- In every lane the transform of a row of vectors is the transform in the field.
--   lane_row-at    an entry of a row of lanes
--   row-append    the row of two parts
--   row-run       the lanes of a row that was transformed
--   node_by       one level: the two halves of the row after its butterflies, transformed
-- Assumes nothing.
use mathlib.Core.Path.{◌≡◌, refl, sym, ap, ap₂, ◌∙◌}
use mathlib.Core.List.{List, [], ◌∷◌, ◌++◌, map, map-append}
use Prim.Native.Nat.{ℕ, zero, suc, ◌+◌, ◌*◌, ◌^◌, ◌<◌, ◌≤◌}
use native.Mathlib.Nat.{suc-mul, zero-mul, add-mul, pow-suc}
use native.Mathlib.Omega.{arith}
use lib.Bits.{bit_xor, xor_zero_r}
use lib.ListN.{get_or, length, take, drop, length-take, length-drop, length-append, length-map, take-append-drop, get_or-append}
use lib.Seq.{get_or-append-add, get_or-drop, get_or-take, ext_get_or, drop_at}
use Rattle.algebra.specs.Trial.{All}
use Rattle.algebra.specs.Polynomial.{add}
use Rattle.field.specs.Field.{Field, mul, numbers}
use Rattle.poly_values.specs.Transform.{Mults, node, width, scaled, lower, transform, map_mults}
use Rattle.poly_values.specs.Planes.{lane, words_at, plane_ops, field_by, flat, tree_of, transform_at, lane_row}
use Rattle.poly_values.proofs.Image.{Respects, transform-image, all-transform}
use Rattle.poly_values.proofs.Planes.{BinaryDigits, lane-sum, lane-product, length-sum, length-lane_product}
use Rattle.poly_values.proofs.Rows.{transform-rows, length-transform, length-flat, words-at, flat_append}
use Rattle.poly_values.proofs.Lists.{length-tabulate, get_d_tabulate, get_or-add, get_or-scaled}
use Rattle.poly_values.proofs.Scalars.{words-next}

-- ---- rows

pub length-row : (m l n : ℕ) (p : List ℕ) → length (lane_row m l n p) ≡ n
unfolding lane_row
length-row m l zero p = refl
length-row m l (suc n) p = ap suc (length-row m l n (drop m p))

pub lane_row-at : (m l n : ℕ) (p : List ℕ) (i : ℕ) → i < n → get_or (lane_row m l n p) i 0 ≡ lane l (words_at m p (i * m))
unfolding lane_row
lane_row-at m l zero p i h = absurd (omega arith)
lane_row-at m l (suc n) p zero h = ap (λ (k : ℕ). lane l (words_at m p k)) (sym (zero-mul m))
lane_row-at m l (suc n) p (suc i) h =
    lane_row-at m l n (drop m p) i (omega arith) ∙ ap (lane l) (words-next m i p)

-- the vectors of a row
vectors : ℕ → ℕ → List ℕ → List (List ℕ)
vectors m zero p = []
vectors m (suc n) p = words_at m p 0 ∷ vectors m n (drop m p)

length-vectors : (m n : ℕ) (p : List ℕ) → length (vectors m n p) ≡ n
unfolding vectors
length-vectors m zero p = refl
length-vectors m (suc n) p = ap suc (length-vectors m n (drop m p))

all-vectors : (m n : ℕ) (p : List ℕ) → All (λ v. length v ≡ m) (vectors m n p)
unfolding vectors
all-vectors m zero p = tt
all-vectors m (suc n) p = (length-tabulate m _, all-vectors m n (drop m p))

pub take_words : (m : ℕ) (p : List ℕ) → m ≤ length p → words_at m p 0 ≡ take m p
take_words m p h =
    ext_get_or 0 (words_at m p 0) (take m p) (length-tabulate m _ ∙ sym (length-take m p ∙ omega arith))
    (λ i k. get_d_tabulate m (λ j. get_or p (0 + j) 0) i (omega (arith, length-tabulate m (λ j. get_or p (0 + j) 0))) ∙ sym (get_or-take m p i 0 (omega (arith, length-tabulate m (λ j. get_or p (0 + j) 0))) ∙ ap (λ (j : ℕ). get_or p j 0) (omega arith)))

flat-vectors : (m n : ℕ) (p : List ℕ) → length p ≡ n * m → flat (vectors m n p) ≡ p
unfolding vectors flat
flat-vectors m zero [] h = refl
flat-vectors m zero (x ∷ p) h = absurd (omega (arith, zero-mul m))
flat-vectors m (suc n) p h =
    ap₂ ◌++◌ (take_words m p (omega (arith, suc-mul n m))) (flat-vectors m n (drop m p) (length-drop m p ∙ omega (arith, suc-mul n m))) ∙ take-append-drop m p

row-vectors : (m l n : ℕ) (p : List ℕ) → lane_row m l n p ≡ map (lane l) (vectors m n p)
unfolding lane_row vectors
row-vectors m l zero p = refl
row-vectors m l (suc n) p = ap (λ s. lane l (words_at m p 0) ∷ s) (row-vectors m l n (drop m p))

-- the row of vectors that stand one after the other
row-flat : (m l : ℕ) (vs : List (List ℕ)) → All (λ v. length v ≡ m) vs → lane_row m l (length vs) (flat vs) ≡ map (lane l) vs
unfolding lane_row flat
row-flat m l [] h = refl
row-flat m l (v ∷ vs) h =
    ap₂ (λ s t. lane l s ∷ t) (words-at m [] v (flat vs) 0 refl h.0) (ap (lane_row m l (length vs)) (drop_at v (flat vs) m h.0) ∙ row-flat m l vs h.1)

pub row-append : (m l n k : ℕ) (p r : List ℕ) → length p ≡ n * m → length r ≡ k * m → lane_row m l (n + k) (p ++ r) ≡ lane_row m l n p ++ lane_row m l k r
row-append m l n k p r h j =
    ap₂ (λ s t. lane_row m l (n + k) (s ++ t)) (sym (flat-vectors m n p h)) (sym (flat-vectors m k r j))
    ∙ ap (lane_row m l (n + k)) (sym (flat_append (vectors m n p) (vectors m k r)))
    ∙ ap (λ i. lane_row m l i (flat (vectors m n p ++ vectors m k r))) (sym (length-append (vectors m n p) (vectors m k r) ∙ ap₂ ◌+◌ (length-vectors m n p) (length-vectors m k r)))
    ∙ row-flat m l (vectors m n p ++ vectors m k r) (all_append (vectors m n p) (all-vectors m n p))
    ∙ map-append (lane l) (vectors m n p) (vectors m k r) ∙ sym (ap₂ ◌++◌ (row-vectors m l n p) (row-vectors m l k r))
  where
    all_append : (vs : List (List ℕ)) → All (λ v. length v ≡ m) vs → All (λ v. length v ≡ m) (vs ++ vectors m k r)
    all_append [] h = all-vectors m k r
    all_append (v ∷ vs) h = (h.0, all_append vs h.1)

-- ---- the transform of a row

module _ (q : List ℕ) (ok : BinaryDigits q) (l : ℕ) where
  lane-respects : Respects (plane_ops q) (numbers (field_by q)) (λ v. length v ≡ length q) (lane l)
  lane-respects =
      record {
        sums = λ x y h k. lane-sum l x y;
        products = λ e x h. lane-product q ok l e x h;
        kept-sum = λ x y h k. length-sum x y (length q) h k;
        kept-product = λ e x h. length-lane_product q e x h;
      }

  lane-transform : (T : Mults (List ℕ)) (a : List (List ℕ)) → All (λ v. length v ≡ length q) a
      → map (lane l) (transform (plane_ops q) T a) ≡ transform (numbers (field_by q)) (map_mults (lane l) T) (map (lane l) a)
  lane-transform T a h = transform-image lane-respects T a h

  pub row-run : (k : ℕ) (g p : List ℕ) → length p ≡ 2 ^ k * length q
      → lane_row (length q) l (2 ^ k) (transform_at q k g p) ≡ transform (numbers (field_by q)) (map_mults (lane l) (tree_of q k g)) (lane_row (length q) l (2 ^ k) p)
  row-run k g p h =
      ap (λ s. lane_row (length q) l (2 ^ k) (transform_at q k g s)) (sym (flat-vectors (length q) (2 ^ k) p h))
      ∙ ap (lane_row (length q) l (2 ^ k)) (transform-rows q k g vs (length-vectors (length q) (2 ^ k) p) (all-vectors (length q) (2 ^ k) p))
      ∙ ap (λ n. lane_row (length q) l n (flat (transform (plane_ops q) (tree_of q k g) vs))) (sym (length-transform q k g vs (length-vectors (length q) (2 ^ k) p)))
      ∙ row-flat (length q) l (transform (plane_ops q) (tree_of q k g) vs) (all-transform lane-respects (tree_of q k g) vs (all-vectors (length q) (2 ^ k) p))
      ∙ lane-transform (tree_of q k g) vs (all-vectors (length q) (2 ^ k) p)
      ∙ ap (transform (numbers (field_by q)) (map_mults (lane l) (tree_of q k g))) (sym (row-vectors (length q) l (2 ^ k) p))
    where
      vs : List (List ℕ)
      vs = vectors (length q) (2 ^ k) p

-- ---- one level

pub width-tree : (q : List ℕ) (l k : ℕ) (g : List ℕ) → width (map_mults (lane l) (tree_of q k g)) ≡ 2 ^ k
unfolding width tree_of map_mults
width-tree q l zero g = refl
width-tree q l (suc k) g = ap₂ ◌+◌ (width-tree q l k (drop (length q) g)) (width-tree q l k (drop (length q) g)) ∙ omega (arith, pow-suc 2 k)

module _ (F : Field) (zero_right : (x : ℕ) → mul F x 0 ≡ 0) where
  pub length-add : (a b : List ℕ) (n : ℕ) → length a ≡ n → length b ≡ n → length (add (numbers F) a b) ≡ n
  unfolding add
  length-add [] b n p r = r
  length-add (x ∷ a) [] n p r = p
  length-add (x ∷ a) (y ∷ b) n p r = ap suc (length-add a b (length a) refl (omega arith)) ∙ p

  -- s and t are the two halves after the butterflies of a
  pub node_by : (e h : ℕ) (L R : Mults ℕ) (a s t : List ℕ) → width L ≡ h → length a ≡ h + h → length s ≡ h → length t ≡ h
      → ((i : ℕ) → i < h → (get_or s i 0 ≡ bit_xor (get_or a i 0) (mul F e (get_or a (h + i) 0))) × (get_or t i 0 ≡ bit_xor (get_or s i 0) (get_or a (h + i) 0)))
      → transform (numbers F) (node e L R) a ≡ transform (numbers F) L s ++ transform (numbers F) R t
  unfolding transform lower
  node_by e h L R a s t w n ns nt at =
      ap (λ k. transform (numbers F) L (lower (numbers F) e k a) ++ transform (numbers F) R (add (numbers F) (lower (numbers F) e k a) (drop k a))) w
      ∙ ap₂ (λ u v. transform (numbers F) L u ++ transform (numbers F) R (add (numbers F) v (drop h a))) low low
      ∙ ap (λ v. transform (numbers F) L s ++ transform (numbers F) R v) high
    where
      ln : length (take h a) ≡ h
      ln = length-take h a ∙ omega arith

      hn : length (scaled (numbers F) e (drop h a)) ≡ h
      hn = length-map (drop h a) (mul F e) ∙ length-drop h a ∙ omega arith

      long : length (lower (numbers F) e h a) ≡ h
      long = length-add (take h a) (scaled (numbers F) e (drop h a)) h ln hn

      low : lower (numbers F) e h a ≡ s
      low = ext_get_or 0 (lower (numbers F) e h a) s (long ∙ sym ns)
          (λ i k. get_or-add (numbers F) (λ x. refl) xor_zero_r (take h a) (scaled (numbers F) e (drop h a)) i
          ∙ ap₂ bit_xor (get_or-take h a i 0 (omega (arith, long))) (get_or-scaled (numbers F) e (zero_right e) (drop h a) i ∙ ap (mul F e) (get_or-drop h a i 0)) ∙ sym (at i (omega (arith, long))).0)

      high : add (numbers F) s (drop h a) ≡ t
      high = ext_get_or 0 (add (numbers F) s (drop h a)) t (length-add s (drop h a) h ns (length-drop h a ∙ omega arith) ∙ sym nt)
          (λ i k. get_or-add (numbers F) (λ x. refl) xor_zero_r s (drop h a) i ∙ ap (bit_xor (get_or s i 0)) (get_or-drop h a i 0) ∙ sym (at i (omega (arith, length-add s (drop h a) h ns (length-drop h a ∙ omega arith)))).1)

-- the transform keeps the number of words
pub length_at : (q : List ℕ) (ok : BinaryDigits q) (k : ℕ) (g p : List ℕ) → length p ≡ 2 ^ k * length q → length (transform_at q k g p) ≡ 2 ^ k * length q
length_at q ok k g p h =
    ap (λ s. length (transform_at q k g s)) (sym (flat-vectors (length q) (2 ^ k) p h))
    ∙ ap length (transform-rows q k g vs (length-vectors (length q) (2 ^ k) p) (all-vectors (length q) (2 ^ k) p))
    ∙ length-flat (length q) (transform (plane_ops q) (tree_of q k g) vs) (all-transform (lane-respects q ok 0) (tree_of q k g) vs (all-vectors (length q) (2 ^ k) p))
    ∙ ap (λ n. n * length q) (length-transform q k g vs (length-vectors (length q) (2 ^ k) p))
  where
    vs : List (List ℕ)
    vs = vectors (length q) (2 ^ k) p

-- the two halves of a row
module _ (m l h : ℕ) (p : List ℕ) (n : length p ≡ (h + h) * m) where
  pub length-lower : length (take (h * m) p) ≡ h * m
  length-lower = length-take (h * m) p ∙ omega (arith, add-mul h h m)

  pub length-upper : length (drop (h * m) p) ≡ h * m
  length-upper = length-drop (h * m) p ∙ omega (arith, add-mul h h m)

  both_halves : lane_row m l (h + h) p ≡ lane_row m l h (take (h * m) p) ++ lane_row m l h (drop (h * m) p)
  both_halves = ap (lane_row m l (h + h)) (sym (take-append-drop (h * m) p)) ∙ row-append m l h h (take (h * m) p) (drop (h * m) p) length-lower length-upper

  pub lower-row : (i : ℕ) → i < h → get_or (lane_row m l h (take (h * m) p)) i 0 ≡ lane l (words_at m p (i * m))
  lower-row i k =
      sym (get_or-append (lane_row m l h (take (h * m) p)) (lane_row m l h (drop (h * m) p)) 0 i (omega (arith, length-row m l h (take (h * m) p))))
      ∙ ap (λ s. get_or s i 0) (sym both_halves) ∙ lane_row-at m l (h + h) p i (omega arith)

  pub upper-row : (i : ℕ) → i < h → get_or (lane_row m l h (drop (h * m) p)) i 0 ≡ lane l (words_at m p ((h + i) * m))
  upper-row i k =
      sym (ap (λ j. get_or (lane_row m l h (take (h * m) p) ++ lane_row m l h (drop (h * m) p)) (j + i) 0) (sym (length-row m l h (take (h * m) p)))
      ∙ get_or-append-add (lane_row m l h (take (h * m) p)) (lane_row m l h (drop (h * m) p)) i 0)
      ∙ ap (λ s. get_or s (h + i) 0) (sym both_halves) ∙ lane_row-at m l (h + h) p (h + i) (omega arith)
