-- The transform of vectors that stand in a row of words is the transform of planes.
--   words-at           the vector that stands between two parts of a row
--   butterfly-row      the butterfly of two vectors of a row
--   transform-rows     the transform of a row is the transform of its vectors
--   length-transform, length-flat, flat_append   lengths and parts of rows
-- Assumes nothing.
use mathlib.Core.Path.{◌≡◌, refl, sym, ap, ap₂, ◌∙◌, subst}
use mathlib.Core.List.{List, [], ◌∷◌, ◌++◌, append_assoc, append-nil}
use Prim.Native.Nat.{ℕ, zero, suc, ◌+◌, ◌*◌, ◌^◌, ◌≤◌}
use native.Mathlib.Nat.{pow-suc, suc-mul, zero-mul, add-mul}
use native.Mathlib.Omega.{arith}
use lib.ListN.{take-append-drop, get_or, length, take, drop, length-append, length-take, length-drop, length-map, drop_of_length-le}
use lib.Seq.{length-take-le, take_at, drop_at, take_all, take-suc, drop-cons, paste, get_or-append-add}
use Rattle.algebra.specs.Field.{Ops}
use Rattle.algebra.specs.Polynomial.{add}
use Rattle.poly_values.specs.Transform.{width, scaled, lower, transform}
use Rattle.poly_values.specs.Planes.{sum, lane_product, tabulate, sum_words, words_at, butterfly_sum, butterfly_at, butterflies_at, transform_at, plane_ops, flat, tree_of}
use Rattle.algebra.specs.Trial.{All}
use Rattle.poly_values.proofs.Image.{all_take, all_drop}
use Rattle.poly_values.proofs.Lists.{tabulate-same}
use Rattle.poly_values.proofs.Planes.{length-sum, length-lane_product, sum-words}

-- ---- one butterfly of a row

tabulate-front : (v r : List ℕ) → tabulate (length v) (λ k. get_or (v ++ r) k 0) ≡ v
tabulate-front [] r = refl
tabulate-front (x ∷ v) r = ap (λ l. x ∷ l) (tabulate-front v r)

pub words-at : (n : ℕ) (l v r : List ℕ) (at : ℕ) → length l ≡ at → length v ≡ n → words_at n (l ++ v ++ r) at ≡ v
words-at n l v r at h k =
    ap₂ (λ i j. words_at i (l ++ v ++ r) j) (sym k) (sym h)
    ∙ tabulate-same (length v) (λ i. get_or (l ++ v ++ r) (length l + i) 0) (λ i. get_or (v ++ r) i 0)
    (λ i. ap (λ s. get_or s (length l + i) 0) (append_assoc l v r) ∙ get_or-append-add l (v ++ r) i 0)
    ∙ tabulate-front v r

paste-mid : (l v r t : List ℕ) (at n : ℕ) → length l ≡ at → length v ≡ n → length t ≡ n → paste (l ++ v ++ r) at t n ≡ l ++ t ++ r
paste-mid l v r t at n h k m =
    ap₂ ◌++◌ (ap₂ ◌++◌ (ap (take at) (append_assoc l v r) ∙ take_at l (v ++ r) at h) (take_all n t (omega arith)))
    (drop_at (l ++ v) r (at + n) (length-append l v ∙ omega arith))

regroup : (a b c d : List ℕ) → a ++ (b ++ c ++ d) ≡ a ++ b ++ c ++ d
regroup a b c d = sym (append_assoc a (b ++ c) d) ∙ ap (λ l. l ++ d) (sym (append_assoc a b c))

module _ (q e : List ℕ) where
  -- the vectors a and b, with c between them and d behind
  butterfly-row : (a c b d : List ℕ) (up : ℕ) → length a ≡ length q → length b ≡ length q → length (a ++ c) ≡ up
      → butterfly_at q e up (a ++ c ++ b ++ d) ≡ sum a (lane_product q e b) ++ c ++ sum (sum a (lane_product q e b)) b ++ d
  unfolding butterfly_at
  butterfly-row a c b d up ha hb hu =
      ap₂ (λ x y. paste (paste p 0 x m) up y m) sum_is (ap₂ (λ x y. sum_words m x y) sum_is upper ∙ sum-words m s b long hb)
      ∙ ap (λ x. paste x up (sum s b) m) (ap (λ l. paste l 0 s m) (sym (regroup a c b d)) ∙ paste-mid [] a (c ++ b ++ d) s 0 m refl ha long ∙ regroup s c b d)
      ∙ paste-mid (s ++ c) b d (sum s b) up m (length-append s c ∙ omega (arith, long, hu, length-append a c)) hb (length-sum s b m long hb)
    where
      m : ℕ
      m = length q

      p : List ℕ
      p = a ++ c ++ b ++ d

      s : List ℕ
      s = sum a (lane_product q e b)

      long : length s ≡ m
      long = length-sum a (lane_product q e b) m ha (length-lane_product q e b hb)

      upper : words_at m p up ≡ b
      upper = words-at m (a ++ c) b d up hu hb

      sum_is : butterfly_sum q e up p ≡ s
      sum_is =
          ap₂ (λ x y. sum_words m x (lane_product q e y)) (ap (λ l. words_at m l 0) (sym (regroup a c b d)) ∙ words-at m [] a (c ++ b ++ d) 0 refl ha) upper
          ∙ sum-words m a (lane_product q e b) ha (length-lane_product q e b hb)

-- ---- all butterflies of a row

pub flat_append : (a b : List (List ℕ)) → flat (a ++ b) ≡ flat a ++ flat b
unfolding flat
flat_append [] b = refl
flat_append (v ∷ a) b = ap (λ l. v ++ l) (flat_append a b) ∙ sym (append_assoc v (flat a) (flat b))

pub length-flat : (m : ℕ) (a : List (List ℕ)) → All (λ v. length v ≡ m) a → length (flat a) ≡ length a * m
unfolding flat
length-flat m [] h = sym (zero-mul m)
length-flat m (v ∷ a) h = length-append v (flat a) ∙ omega (arith, length-flat m a h.1, h.0, suc-mul (length a) m)

module _ (q e : List ℕ) where
  -- the lower and the upper results of the butterflies
  lows : List (List ℕ) → List (List ℕ) → List (List ℕ)
  lows [] hi = []
  lows (x ∷ lo) [] = []
  lows (x ∷ lo) (y ∷ hi) = sum x (lane_product q e y) ∷ lows lo hi

  ups : List (List ℕ) → List (List ℕ) → List (List ℕ)
  ups [] hi = []
  ups (x ∷ lo) [] = []
  ups (x ∷ lo) (y ∷ hi) = sum (sum x (lane_product q e y)) y ∷ ups lo hi

  abbrev Vectors : List (List ℕ) → Type 0
  Vectors = All (λ v. length v ≡ length q)

  length-lows : (lo hi : List (List ℕ)) → length lo ≡ length hi → length (lows lo hi) ≡ length lo
  unfolding lows
  length-lows [] hi h = refl
  length-lows (x ∷ lo) [] h = absurd (omega arith)
  length-lows (x ∷ lo) (y ∷ hi) h = ap suc (length-lows lo hi (omega arith))

  length-ups : (lo hi : List (List ℕ)) → length lo ≡ length hi → length (ups lo hi) ≡ length lo
  unfolding ups
  length-ups [] hi h = refl
  length-ups (x ∷ lo) [] h = absurd (omega arith)
  length-ups (x ∷ lo) (y ∷ hi) h = ap suc (length-ups lo hi (omega arith))

  all-lows : (lo hi : List (List ℕ)) → Vectors lo → Vectors hi → Vectors (lows lo hi)
  unfolding lows
  all-lows [] hi h k = tt
  all-lows (x ∷ lo) [] h k = tt
  all-lows (x ∷ lo) (y ∷ hi) h k = (length-sum x (lane_product q e y) (length q) h.0 (length-lane_product q e y k.0), all-lows lo hi h.1 k.1)

  all-ups : (lo hi : List (List ℕ)) → Vectors lo → Vectors hi → Vectors (ups lo hi)
  unfolding ups
  all-ups [] hi h k = tt
  all-ups (x ∷ lo) [] h k = tt
  all-ups (x ∷ lo) (y ∷ hi) h k =
      (length-sum (sum x (lane_product q e y)) y (length q) (length-sum x (lane_product q e y) (length q) h.0 (length-lane_product q e y k.0)) k.0, all-ups lo hi h.1 k.1)

  lows-more : (lo hi : List (List ℕ)) (x y : List ℕ) → length lo ≡ length hi → lows (lo ++ x ∷ []) (hi ++ y ∷ []) ≡ lows lo hi ++ sum x (lane_product q e y) ∷ []
  unfolding lows
  lows-more [] [] x y h = refl
  lows-more [] (w ∷ hi) x y h = absurd (omega arith)
  lows-more (w ∷ lo) [] x y h = absurd (omega arith)
  lows-more (w ∷ lo) (u ∷ hi) x y h = ap (λ l. sum w (lane_product q e u) ∷ l) (lows-more lo hi x y (omega arith))

  ups-more : (lo hi : List (List ℕ)) (x y : List ℕ) → length lo ≡ length hi → ups (lo ++ x ∷ []) (hi ++ y ∷ []) ≡ ups lo hi ++ sum (sum x (lane_product q e y)) y ∷ []
  unfolding ups
  ups-more [] [] x y h = refl
  ups-more [] (w ∷ hi) x y h = absurd (omega arith)
  ups-more (w ∷ lo) [] x y h = absurd (omega arith)
  ups-more (w ∷ lo) (u ∷ hi) x y h = ap (λ l. sum (sum w (lane_product q e u)) u ∷ l) (ups-more lo hi x y (omega arith))

  -- one butterfly more: lo and hi are those done, x and y the next, lo' and hi' the rest
  next_row : (lo hi lo' hi' : List (List ℕ)) (x y : List ℕ) (up : ℕ) → length lo ≡ length hi
      → Vectors lo → Vectors hi → Vectors (x ∷ lo') → Vectors (y ∷ hi') → (length lo + suc (length lo')) * length q ≡ up
      → let row = flat (lows lo hi ++ (x ∷ lo') ++ ups lo hi ++ (y ∷ hi')) in
      take (length lo * length q) row ++ butterfly_at q e up (drop (length lo * length q) row)
      ≡ flat (lows (lo ++ x ∷ []) (hi ++ y ∷ []) ++ lo' ++ ups (lo ++ x ∷ []) (hi ++ y ∷ []) ++ hi')
  unfolding flat
  next_row lo hi lo' hi' x y up h vl vh vx vy n =
      ap₂ (λ s t. s ++ butterfly_at q e up t)
      (ap (take (length lo * length q)) shape ∙ take_at A (x ++ c ++ y ++ d) (length lo * length q) long)
      (ap (drop (length lo * length q)) shape ∙ drop_at A (x ++ c ++ y ++ d) (length lo * length q) long)
      ∙ ap (λ l. A ++ l) (butterfly-row q e x c y d up vx.0 vy.0 apart)
      ∙ sym (ap₂ (λ s t. flat (s ++ lo' ++ t ++ hi')) (lows-more lo hi x y h) (ups-more lo hi x y h) ∙ simp (flat_append, append_assoc, append-nil))
    where
      A : List ℕ
      A = flat (lows lo hi)

      c : List ℕ
      c = flat lo' ++ flat (ups lo hi)

      d : List ℕ
      d = flat hi'

      shape : flat (lows lo hi ++ (x ∷ lo') ++ ups lo hi ++ (y ∷ hi')) ≡ A ++ (x ++ c ++ y ++ d)
      shape = simp (flat_append, append_assoc)

      long : length A ≡ length lo * length q
      long = length-flat (length q) (lows lo hi) (all-lows lo hi vl vh) ∙ ap (λ k. k * length q) (length-lows lo hi h)

      apart : length (x ++ c) ≡ up
      apart =
          simp length-append
          (omega (
            arith,
            vx.0,
            n,
            add-mul (length lo) (suc (length lo')) (length q),
            suc-mul (length lo') (length q),
            length-flat (length q) lo' vx.1,
            length-flat (length q) (ups lo hi) (all-ups lo hi vl vh),
            ap (λ k. k * length q) (length-ups lo hi h),
          ))

  -- the first n of the butterflies of two halves
  rows-done : (lo hi : List (List ℕ)) (n : ℕ) → length lo ≡ length hi → Vectors lo → Vectors hi → n ≤ length lo
      → butterflies_at q e (length lo * length q) n (flat (lo ++ hi))
      ≡ flat (lows (take n lo) (take n hi) ++ drop n lo ++ ups (take n lo) (take n hi) ++ drop n hi)
  unfolding butterflies_at lows ups
  rows-done lo hi zero h vl vh k = ap (λ l. flat (l ++ hi)) (sym (append-nil lo))
  rows-done lo hi (suc n) h vl vh k =
      ap (λ l. take (n * length q) l ++ butterfly_at q e (length lo * length q) (drop (n * length q) l)) (rows-done lo hi n h vl vh (omega arith))
      ∙ ap₂ (shape n) el eh ∙ ap (λ i. shape i (x ∷ drop (suc n) lo) (y ∷ drop (suc n) hi)) (sym long)
      ∙ next_row (take n lo) (take n hi) (drop (suc n) lo) (drop (suc n) hi) x y (length lo * length q)
      (long ∙ sym (length-take-le n hi (omega arith))) (all_take (λ v. length v ≡ length q) n lo vl) (all_take (λ v. length v ≡ length q) n hi vh)
      (subst Vectors el (all_drop (λ v. length v ≡ length q) n lo vl)) (subst Vectors eh (all_drop (λ v. length v ≡ length q) n hi vh))
      (ap (λ i. i * length q) (omega (arith, long, length-drop (suc n) lo)))
      ∙ sym (ap₂ (λ s t. flat (lows s t ++ drop (suc n) lo ++ ups s t ++ drop (suc n) hi)) (take-suc lo n [] k) (take-suc hi n [] (omega arith)))
    where
      x : List ℕ
      x = get_or lo n []

      y : List ℕ
      y = get_or hi n []

      el : drop n lo ≡ x ∷ drop (suc n) lo
      el = drop-cons lo n [] k

      eh : drop n hi ≡ y ∷ drop (suc n) hi
      eh = drop-cons hi n [] (omega arith)

      long : length (take n lo) ≡ n
      long = length-take-le n lo (omega arith)

      shape : ℕ → List (List ℕ) → List (List ℕ) → List ℕ
      shape i s t =
          let row = flat (lows (take n lo) (take n hi) ++ s ++ ups (take n lo) (take n hi) ++ t) in
          take (i * length q) row ++ butterfly_at q e (length lo * length q) (drop (i * length q) row)

  -- all butterflies of a row, in the words of the transform
  lows-lower : (lo hi : List (List ℕ)) → length lo ≡ length hi → lows lo hi ≡ add (plane_ops q) lo (scaled (plane_ops q) e hi)
  unfolding lows add
  lows-lower [] [] h = refl
  lows-lower [] (y ∷ hi) h = absurd (omega arith)
  lows-lower (x ∷ lo) [] h = absurd (omega arith)
  lows-lower (x ∷ lo) (y ∷ hi) h = ap (λ l. sum x (lane_product q e y) ∷ l) (lows-lower lo hi (omega arith))

  ups-upper : (lo hi : List (List ℕ)) → length lo ≡ length hi → ups lo hi ≡ add (plane_ops q) (lows lo hi) hi
  unfolding lows ups add
  ups-upper [] [] h = refl
  ups-upper [] (y ∷ hi) h = absurd (omega arith)
  ups-upper (x ∷ lo) [] h = absurd (omega arith)
  ups-upper (x ∷ lo) (y ∷ hi) h = ap (λ l. sum (sum x (lane_product q e y)) y ∷ l) (ups-upper lo hi (omega arith))

  butterflies-rows : (a : List (List ℕ)) (n : ℕ) → length a ≡ n + n → Vectors a
      → butterflies_at q e (n * length q) n (flat a) ≡ flat (lows (take n a) (drop n a)) ++ flat (ups (take n a) (drop n a))
  butterflies-rows a n h v =
      ap₂ (λ s i. butterflies_at q e (i * length q) n (flat s)) (sym (take-append-drop n a)) (sym long)
      ∙ rows-done lo hi n (long ∙ sym rest) (all_take (λ w. length w ≡ length q) n a v) (all_drop (λ w. length w ≡ length q) n a v) (omega (arith, long))
      ∙ ap₂ (λ s t. flat (lows s t ++ drop n lo ++ ups s t ++ drop n hi)) (take_all n lo (omega (arith, long))) (take_all n hi (omega (arith, rest)))
      ∙ ap₂ (λ s t. flat (lows lo hi ++ s ++ ups lo hi ++ t)) (drop_of_length-le lo {i = n} (omega (arith, long))) (drop_of_length-le hi {i = n} (omega (arith, rest)))
      ∙ simp (append-nil, flat_append)
    where
      lo : List (List ℕ)
      lo = take n a

      hi : List (List ℕ)
      hi = drop n a

      long : length lo ≡ n
      long = length-take-le n a (omega arith)

      rest : length hi ≡ n
      rest = length-drop n a ∙ omega arith

-- ---- the transform of a row

width-tree : (q : List ℕ) (k : ℕ) (g : List ℕ) → width (tree_of q k g) ≡ 2 ^ k
unfolding width tree_of
width-tree q zero g = refl
width-tree q (suc k) g = ap₂ ◌+◌ (width-tree q k (drop (length q) g)) (width-tree q k (drop (length q) g)) ∙ omega (arith, pow-suc 2 k)

pub transform-rows : (q : List ℕ) (k : ℕ) (g : List ℕ) (a : List (List ℕ)) → length a ≡ 2 ^ k → All (λ v. length v ≡ length q) a
    → transform_at q k g (flat a) ≡ flat (transform (plane_ops q) (tree_of q k g) a)
unfolding transform_at tree_of transform lower
transform-rows q zero g a n v = refl
transform-rows q (suc k) g a n v =
    ap (λ l. transform_at q k (drop (length q) g) (take u l) ++ transform_at q k (drop u g) (drop u l)) (butterflies-rows q e a h double v)
    ∙ ap₂ (λ s t. transform_at q k (drop (length q) g) s ++ transform_at q k (drop u g) t) (take_at (flat low) (flat high) u long) (drop_at (flat low) (flat high) u long)
    ∙ ap₂ ◌++◌
    (transform-rows q k (drop (length q) g) low (length-lows q e lo hi same ∙ size) (all-lows q e lo hi vl vh))
    (transform-rows q k (drop u g) high (length-ups q e lo hi same ∙ size) (all-ups q e lo hi vl vh))
    ∙ sym (flat_append (transform (plane_ops q) (tree_of q k (drop (length q) g)) low) (transform (plane_ops q) (tree_of q k (drop u g)) high))
    ∙ ap₂ (λ s t. flat (transform (plane_ops q) (tree_of q k (drop (length q) g)) s ++ transform (plane_ops q) (tree_of q k (drop u g)) t))
    (lows-lower q e lo hi same) (ups-upper q e lo hi same ∙ ap (λ l. add (plane_ops q) l hi) (lows-lower q e lo hi same))
    ∙ ap (λ i. flat (transform (plane_ops q) (tree_of q k (drop (length q) g)) (lower (plane_ops q) e i a)
    ++ transform (plane_ops q) (tree_of q k (drop u g)) (add (plane_ops q) (lower (plane_ops q) e i a) (drop i a)))) (sym (width-tree q k (drop (length q) g)))
  where
    e : List ℕ
    e = words_at (length q) g 0

    h : ℕ
    h = 2 ^ k

    u : ℕ
    u = h * length q

    double : length a ≡ h + h
    double = n ∙ omega (arith, pow-suc 2 k)

    lo : List (List ℕ)
    lo = take h a

    hi : List (List ℕ)
    hi = drop h a

    size : length lo ≡ h
    size = length-take-le h a (omega (arith, double))

    same : length lo ≡ length hi
    same = size ∙ sym (length-drop h a ∙ omega (arith, double))

    vl : All (λ w. length w ≡ length q) lo
    vl = all_take (λ w. length w ≡ length q) h a v

    vh : All (λ w. length w ≡ length q) hi
    vh = all_drop (λ w. length w ≡ length q) h a v

    low : List (List ℕ)
    low = lows q e lo hi

    high : List (List ℕ)
    high = ups q e lo hi

    long : length (flat low) ≡ u
    long = length-flat (length q) low (all-lows q e lo hi vl vh) ∙ ap (λ i. i * length q) (length-lows q e lo hi same ∙ size)

-- the transform keeps the number of the vectors
length-adds : {K : Type 0} (F : Ops K) (a b : List K) (n : ℕ) → length a ≡ n → length b ≡ n → length (add F a b) ≡ n
unfolding add
length-adds F [] b n p r = r
length-adds F (x ∷ a) [] n p r = p
length-adds F (x ∷ a) (y ∷ b) n p r = ap suc (length-adds F a b (length a) refl (omega arith)) ∙ p

pub length-transform : (q : List ℕ) (k : ℕ) (g : List ℕ) (a : List (List ℕ)) → length a ≡ 2 ^ k → length (transform (plane_ops q) (tree_of q k g) a) ≡ 2 ^ k
unfolding tree_of transform lower
length-transform q zero g a n = n
length-transform q (suc k) g a n =
    length-append (transform (plane_ops q) (tree_of q k (drop (length q) g)) u) (transform (plane_ops q) (tree_of q k (drop (2 ^ k * length q) g)) (add (plane_ops q) u (drop w a)))
    ∙ ap₂ ◌+◌ (length-transform q k (drop (length q) g) u long)
    (length-transform q k (drop (2 ^ k * length q) g) (add (plane_ops q) u (drop w a)) (length-adds (plane_ops q) u (drop w a) (2 ^ k) long rest))
    ∙ omega (arith, pow-suc 2 k)
  where
    w : ℕ
    w = width (tree_of q k (drop (length q) g))

    wide : w ≡ 2 ^ k
    wide = width-tree q k (drop (length q) g)

    u : List (List ℕ)
    u = lower (plane_ops q) (words_at (length q) g 0) w a

    rest : length (drop w a) ≡ 2 ^ k
    rest = length-drop w a ∙ omega (arith, wide, n, pow-suc 2 k)

    long : length u ≡ 2 ^ k
    long = length-adds (plane_ops q) (take w a) (scaled (plane_ops q) (words_at (length q) g 0) (drop w a)) (2 ^ k) (length-take w a ∙ omega (arith, wide, n, pow-suc 2 k)) (length-map (drop w a) _ ∙ rest)
