-- Sums of products, as the loop makes them, and what a sum that is 0 says.
--   add_comm      sums in either order
--   AddingRows    from k on the product is added
--   rows-from, rows-asks, rows_on, rows_end   the start, what the kernel asks, a turn and the end
--   sum-at        a coefficient of a sum
--   zeros-at      every coefficient of zeros is 0
--   cut-same      a list cut where nothing but 0 is behind
--   sum-zero, zero-sum   a sum is 0 exactly where the two are the same polynomial
--   product-logs, row_fits, row-size, product-asks, product_is   `add_product`: what each routine asks, and what is left
-- Assumes nothing.
use mathlib.Core.Path.{◌≡◌, refl, sym, ap, ap₂, fun_ext, subst, ◌∙◌}
use mathlib.Core.Bool.{true}
use mathlib.Core.List.{List, [], ◌∷◌, ◌++◌, append_assoc, map}
use Prim.Native.Nat.{ℕ, zero, suc, ◌-◌, ◌^◌, ◌≤◌, ◌<◌}
use native.Mathlib.Decide.{dec_le}
use native.Mathlib.Omega.{arith}
use lib.Bits.{bit_xor, xor_comm, xor_self, xor_zero_r}
use lib.ListN.{get_or-eq_default, drop, get_or, length, length-append, length-drop, length-map, length-take, replicate, take, take-append-drop}
use lib.Seq.{drop_at, drop-cons, drop-length, get_or-take, length-take-le, take-append-le, take_at, take-suc, take-take}
use Rattle.algebra.specs.Polynomial.{add, coef, mul}
use Rattle.algebra.proofs.StaysBelow.{below_at, below-from}
use Rattle.field.specs.Field.{G, field_at}
use Rattle.field.specs.Tables.{log_of}
use Rattle.field.proofs.Xor.{xor_assoc}
use Rattle.slices.specs.Bounded.{all_zero}
use Rattle.slices.proofs.Bounded.{all_below-exactly, all_zero-exactly}
use Rattle.poly.specs.Asking.{Addable, Loggable}
use Rattle.poly.specs.Lent.{Lent, LogRow, held, log_row}
use Rattle.poly.proofs.Logs.{held-long, held-row, row-is-row}
use Rattle.poly.proofs.Parts.{part_none, part-rest}
use Rattle.poly.proofs.Sums.{add_assoc, add-nil, long-row}
use Rattle.claims.specs.Checking.{Productive, Rowable}

-- sums in either order
pub add_comm : (m : ℕ) (p r : List ℕ) → add (G m) p r ≡ add (G m) r p
unfolding add
add_comm m [] [] = refl
add_comm m [] (d ∷ r) = refl
add_comm m (c ∷ p) [] = refl
add_comm m (c ∷ p) (d ∷ r) = ap₂ (λ x u. x ∷ u) (xor_comm c d) (add_comm m p r)

-- one coefficient more of the first factor
one_more : (m : ℕ) (s : ℕ) (S : List ℕ) (c : ℕ) (p q : List ℕ) → add (G m) (s ∷ add (G m) S (mul (G m) p q)) (map ((G m).mul c) q) ≡ add (G m) (s ∷ S) (mul (G m) (c ∷ p) q)
unfolding mul add
one_more m s S c p q =
    ap (λ x. add (G m) (x ∷ add (G m) S (mul (G m) p q)) (map ((G m).mul c) q)) (sym (xor_zero_r s))
    ∙ add_assoc m (s ∷ S) (0 ∷ mul (G m) p q) (map ((G m).mul c) q) ∙ ap (add (G m) (s ∷ S)) (add_comm m (0 ∷ mul (G m) p q) (map ((G m).mul c) q))

pub record AddingRows (m : ℕ) (p row sum₀ sum : List ℕ) (k : ℕ) : Type 0 where
  pub given : Rowable m p row sum₀
  pub within : k ≤ length p
  pub long : length sum ≡ length sum₀
  pub done : sum ≡ take k sum₀ ++ add (G m) (drop k sum₀) (mul (G m) (drop k p) (held m row))

pub rows-from : {m : ℕ} {p row sum : List ℕ} → Rowable m p row sum → AddingRows m p row sum sum (length p)
unfolding mul
rows-from {m} {p} {row} {sum} g = record {
  given = g;
  within = omega arith;
  long = refl;
  done = sym (ap (λ u. take (length p) sum ++ u) (ap (λ u. add (G m) (drop (length p) sum) (mul (G m) u (held m row))) (drop-length p) ∙ add-nil m (drop (length p) sum))
      ∙ take-append-drop (length p) sum);
}

module _ {m : ℕ} {p row sum₀ sum : List ℕ} {k : ℕ} (s : AddingRows m p row sum₀ sum k) (pos : 0 < k) where
  -- what stands before k - 1, and from there on
  before : take (k - 1) sum ≡ take (k - 1) sum₀
  before =
      let w = s.within in
      let r = s.given.room in
      ap (take (k - 1)) s.done ∙ take-append-le (k - 1) (take k sum₀) _ (omega (arith, length-take-le k sum₀ (omega arith))) ∙ take-take (k - 1) k sum₀ (omega arith)

  behind : drop (k - 1) sum ≡ get_or sum₀ (k - 1) 0 ∷ add (G m) (drop k sum₀) (mul (G m) (drop k p) (held m row))
  behind =
      let w = s.within in
      let r = s.given.room in
      let j : ℕ = k - 1 in
      let e : k ≡ suc j = omega arith in
      let tail : List ℕ = add (G m) (drop k sum₀) (mul (G m) (drop k p) (held m row)) in
      let cut : take k sum₀ ≡ take j sum₀ ++ get_or sum₀ j 0 ∷ [] = ap (λ i. take i sum₀) e ∙ take-suc sum₀ j 0 (omega arith) in
      ap (drop j) (s.done ∙ ap (λ u. u ++ tail) cut ∙ append_assoc (take j sum₀) (get_or sum₀ j 0 ∷ []) tail)
      ∙ drop_at (take j sum₀) (get_or sum₀ j 0 ∷ tail) j (length-take-le j sum₀ (omega arith))

  -- what the kernel asks
  pub rows-asks : Addable m (get_or p (k - 1) 0) row (take (length sum - (k - 1)) (drop (k - 1) sum))
  rows-asks =
      let w = s.within in
      let r = s.given.room in
      record {
        element = below_at (2 ^ m) p s.given.small (k - 1) (omega arith);
        logs = s.given.logs;
        room = rw part-rest (omega (arith, length-drop (k - 1) sum, s.long));
      }

  -- a turn adds one row more
  pub rows_on : {y : List ℕ} → y ≡ add (G m) (take (length sum - (k - 1)) (drop (k - 1) sum)) (map ((G m).mul (get_or p (k - 1) 0)) (held m row))
      → AddingRows m p row sum₀ (take (k - 1) sum ++ (y ++ drop (length sum - (k - 1)) (drop (k - 1) sum))) (k - 1)
  rows_on {y} e =
      let w = s.within in
      let r = s.given.room in
      let j : ℕ = k - 1 in
      let back : suc j ≡ k = omega arith in
      let q : List ℕ = held m row in
      let whole : y ≡ add (G m) (drop j sum) (map ((G m).mul (get_or p j 0)) q) = e ∙ ap (λ u. add (G m) u (map ((G m).mul (get_or p j 0)) q)) (part-rest j sum) in
      let yl : length y ≡ length (drop j sum) = ap length whole ∙ long-row m (drop j sum) q (get_or p j 0) (omega (arith, held-long m row, length-drop j sum, s.long)) in
      let ps : get_or p j 0 ∷ drop k p ≡ drop j p = ap (λ i. get_or p j 0 ∷ drop i p) (sym back) ∙ sym (drop-cons p j 0 (omega arith)) in
      let ss : get_or sum₀ j 0 ∷ drop k sum₀ ≡ drop j sum₀ = ap (λ i. get_or sum₀ j 0 ∷ drop i sum₀) (sym back) ∙ sym (drop-cons sum₀ j 0 (omega arith)) in
      let d : y ≡ add (G m) (drop j sum₀) (mul (G m) (drop j p) q) =
      whole ∙ ap (λ u. add (G m) u (map ((G m).mul (get_or p j 0)) q)) behind ∙ one_more m (get_or sum₀ j 0) (drop k sum₀) (get_or p j 0) (drop k p) q
      ∙ ap₂ (λ u v. add (G m) u (mul (G m) v q)) ss ps in
      record {
        given = s.given;
        within = omega arith;
        long = ap (λ u. length (take j sum ++ u)) (part_none j sum y)
            ∙ omega (arith, length-append (take j sum) y, length-take-le j sum (omega (arith, s.long)), length-drop j sum, s.long);
        done = ap₂ (λ u v. u ++ v) before (part_none j sum y ∙ d);
      }

pub rows_end : {m : ℕ} {p row sum₀ sum : List ℕ} {k : ℕ} → AddingRows m p row sum₀ sum k → k ≤ 0 → sum ≡ add (G m) sum₀ (mul (G m) p (held m row))
rows_end {m} {p} {row} {sum₀} {sum} {k} s h =
    let z : k ≡ 0 = omega arith in
    s.done ∙ ap (λ i. take i sum₀ ++ add (G m) (drop i sum₀) (mul (G m) (drop i p) (held m row))) z

-- ---- a sum that is 0

-- of numbers of any size
xor-equal : (x y : ℕ) → bit_xor x y ≡ 0 → x ≡ y
xor-equal x y e = sym (xor_zero_r x) ∙ ap (bit_xor x) (sym e) ∙ sym (xor_assoc x x y) ∙ ap (λ z. bit_xor z y) (xor_self x) ∙ xor_comm 0 y ∙ xor_zero_r y

-- a coefficient of a sum
pub sum-at : (m : ℕ) (p r : List ℕ) (k : ℕ) → get_or (add (G m) p r) k 0 ≡ bit_xor (get_or p k 0) (get_or r k 0)
unfolding add
sum-at m [] r k = sym (xor_comm 0 (get_or r k 0) ∙ xor_zero_r (get_or r k 0))
sum-at m (c ∷ p) [] k = sym (xor_zero_r (get_or (c ∷ p) k 0))
sum-at m (c ∷ p) (d ∷ r) zero = refl
sum-at m (c ∷ p) (d ∷ r) (suc k) = sum-at m p r k

-- every coefficient of zeros is 0
pub zeros-at : (n k : ℕ) → get_or {A = ℕ} (replicate n 0) k 0 ≡ 0
zeros-at zero k = refl
zeros-at (suc n) zero = refl
zeros-at (suc n) (suc k) = zeros-at n k

-- a list cut where nothing but 0 is behind
pub cut-same : (m n : ℕ) (l : List ℕ) → ((i : ℕ) → n ≤ i → coef (G m) l i ≡ 0) → coef (G m) (take n l) ≡ coef (G m) l
cut-same m n l h = fun_ext λ k. elim (dec_le (suc k) n) [
  | yes i ↦ get_or-take n l k 0 i
  | no i ↦ get_or-eq_default (take n l) 0 (omega (arith, length-take n l)) ∙ sym (h k (omega arith))
]

-- the same polynomial
pub sum-zero : (m : ℕ) (f g : List ℕ) → all_zero (add (G m) f g) ≡ true → coef (G m) g ≡ coef (G m) f
sum-zero m f g e =
    let z : add (G m) f g ≡ replicate (length (add (G m) f g)) 0 = (all_zero-exactly (add (G m) f g)).0 e in
    fun_ext λ k. sym (xor-equal (get_or f k 0) (get_or g k 0) (sym (sum-at m f g k) ∙ ap (λ l. get_or l k 0) z ∙ zeros-at (length (add (G m) f g)) k))

-- and there alone
pub zero-sum : (m : ℕ) (f g : List ℕ) → coef (G m) g ≡ coef (G m) f → all_zero (add (G m) f g) ≡ true
zero-sum m f g e =
    (all_below-exactly 1 (add (G m) f g)).1 (below-from 1 (add (G m) f g) λ i l.
    let z : get_or (add (G m) f g) i 0 ≡ 0 = sum-at m f g i ∙ ap (λ w. bit_xor (get_or f i 0) (w i)) e ∙ xor_self (get_or f i 0) in omega arith)

-- ---- a product of two polynomials, one of them as a row

module _ {m : ℕ} {ls ts p q sum : List ℕ} (lent : Lent m ls ts) (g : Productive m p q sum) where
  -- what the row of logs asks
  pub product-logs : {l : List ℕ} → length q ≡ length l → Loggable m q l
  product-logs e = record { small = g.second; room = e }

  module _ {y : List ℕ} (e : y ≡ log_row m q) (rest : List ℕ) where
    -- it stands at the front
    row-long : length y ≡ length q
    row-long = ap length e ∙ length-map q (log_of (field_at m))

    pub row_fits : length q ≤ length (y ++ rest)
    row_fits = omega (arith, length-append y rest, row-long)

    row-front : take (length q) (y ++ rest) ≡ log_row m q
    row-front = take_at y rest (length q) row-long ∙ e

    pub row-size : length (take (length q) (y ++ rest)) ≡ length q
    row-size = length-take-le (length q) (y ++ rest) row_fits

    -- what the rows ask
    pub product-asks : Rowable m p (take (length q) (y ++ rest)) sum
    product-asks = record {
      small = g.first;
      logs = subst (LogRow m) (sym row-front) (row-is-row lent q g.second);
      room = let r = g.room in omega (arith, row-size);
    }

    -- what they leave
    pub product_is : {s : List ℕ} → s ≡ add (G m) sum (mul (G m) p (held m (take (length q) (y ++ rest)))) → s ≡ add (G m) sum (mul (G m) p q)
    product_is d = d ∙ ap (λ u. add (G m) sum (mul (G m) p u)) (ap (held m) row-front ∙ held-row lent q g.second)
