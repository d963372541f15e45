-- What the loops of one map hold at each turn. A list is what is done and what lies ahead of the loop, so that a turn
-- takes one or two elements from the one to the other.
--   Combining    `combine`: what lies ahead is still to be combined
--   Converting   `convert`: from k on stand the digits
--   Choosing     `every_other`: the first i elements are written
--   Squaring     `square_all`: the first i elements are squared
--   Multiplying  `add_product`: what lies ahead still wants the rest of the product
-- Assumes nothing.
use mathlib.Core.Path.{◌≡◌, ◌∙◌, refl, sym, ap, ap₂, subst}
use mathlib.Core.List.{List, [], ◌∷◌, ◌++◌, append_assoc, append-nil, map}
use Prim.Native.Nat.{ℕ, zero, suc, ◌+◌, ◌-◌, ◌*◌, ◌/◌, ◌^◌, ◌≤◌, ◌<◌}
use native.Mathlib.Omega.{arith}
use lib.Bits.{bit_xor}
use lib.ListN.{length, take, drop, get_or, set, length-append, length-drop, length-set, length-map}
use lib.Seq.{length-take-le, drop-cons, take-suc, take_all, take_at, drop_at, get_or_at, get_or-append-add, set_at}
use Rattle.algebra.specs.Polynomial.{add, mul, Below}
use Rattle.algebra.proofs.StaysBelow.{drop-below, below_at}
use Rattle.slices.proofs.Filling.{Filling, fill-from, fill_on, fill-next, fill_end, map-from, map_on}
use Rattle.field.specs.Field.{field_at, G, mul as times}
use Rattle.input.specs.Limit.{limit}
use Rattle.field.specs.Tables.{log_of}
use Rattle.poly.specs.Lent.{Lent, LogRow, log_row, held}
use Rattle.poly.specs.Asking.{Addable, Loggable}
use Rattle.poly.proofs.Parts.{part-rest, part_none}
use Rattle.poly.proofs.Logs.{held-long, held-row, row-is-row}
use Rattle.poly.proofs.RowLoops.{added}
use Rattle.poly.proofs.Sums.{add_assoc, long-row}
use Rattle.poly_resultants.specs.Maps.{evens, combine, digits, resultant}
use Rattle.poly_resultants.specs.Lending.{Factors, Products, Digits}
use Rattle.poly_resultants.proofs.Ring.{Ring, known-ring}
use Rattle.poly_resultants.proofs.Shapes.{length_digits, length-halves, length-odds}
use Rattle.poly_resultants.proofs.Numbers.{digits-below, evens-below, odds-below}

-- ---- `combine`

-- what lies ahead is still to be combined
pub record Combining (m : ℕ) (ls ts : List ℕ) (b : ℕ) (s₀ : List ℕ) (n : ℕ) (s : List ℕ) (i : ℕ) : Type 0 where
  pub tables : Lent m ls ts
  pub given : Factors m b s₀
  pub size : n ≡ length s₀
  pub done : List ℕ
  pub ahead : List ℕ
  pub parts : s ≡ done ++ ahead
  pub place : length done ≡ i
  pub long : length s ≡ length s₀
  pub small : Below (2 ^ m) ahead
  pub whole : combine (G m) b s₀ ≡ done ++ combine (G m) b ahead

pub combining-from : {m : ℕ} {ls ts : List ℕ} {b : ℕ} {s : List ℕ} → Lent m ls ts → Factors m b s → Combining m ls ts b s (length s) s 0
combining-from {m} {ls} {ts} {b} {s} lent g = record {
  tables = lent;
  given = g;
  size = refl;
  done = [];
  ahead = s;
  parts = refl;
  place = refl;
  long = refl;
  small = g.elements;
  whole = refl;
}

module _ {m : ℕ} {ls ts : List ℕ} {b : ℕ} {s₀ : List ℕ} {n : ℕ} {s : List ℕ} {i : ℕ} (c : Combining m ls ts b s₀ n s i) where
  ahead-long : length c.ahead ≡ n - i
  ahead-long = omega (arith, ap length c.parts, length-append c.done c.ahead, c.place, c.long, c.size)

  pub combining-within : i ≤ n
  combining-within = omega (arith, ap length c.parts, length-append c.done c.ahead, c.place, c.long, c.size)

  pub combining-next : i + 1 < n → get_or s (i + 1) 0 < 2 ^ m
  combining-next h = go c.ahead c.parts c.small ahead-long
    where
      go : (l : List ℕ) → s ≡ c.done ++ l → Below (2 ^ m) l → length l ≡ n - i → get_or s (i + 1) 0 < 2 ^ m
      go l e k o =
          let p = c.place in
          let z : get_or s (i + 1) 0 ≡ get_or l 1 0 = ap₂ (λ u j. get_or u j 0) e (ap (λ u. u + 1) (sym p)) ∙ get_or-append-add c.done l 1 0 in
          let u = below_at (2 ^ m) l k 1 (omega arith) in
          omega arith

  pub combining-on : {t : ℕ} → i + 1 < n → t ≡ times (field_at m) b (get_or s (i + 1) 0) → Combining m ls ts b s₀ n (set s i (bit_xor (get_or s i 0) t)) (i + 2)
  unfolding combine
  combining-on {t} h e = go c.ahead c.parts c.small c.whole ahead-long
    where
      go : (l : List ℕ) → s ≡ c.done ++ l → Below (2 ^ m) l → combine (G m) b s₀ ≡ c.done ++ combine (G m) b l → length l ≡ n - i
          → Combining m ls ts b s₀ n (set s i (bit_xor (get_or s i 0) t)) (i + 2)
      go [] q k w o = absurd (omega (arith, o))
      go (x ∷ []) q k w o = absurd (omega (arith, o))
      go (x ∷ y ∷ l) q k w o =
          let p = c.place in
          let at_x : get_or s i 0 ≡ x = ap (λ u. get_or u i 0) q ∙ get_or_at c.done x (y ∷ l) 0 i p in
          let at_y : get_or s (i + 1) 0 ≡ y = ap₂ (λ u j. get_or u j 0) q (ap (λ u. u + 1) (sym p)) ∙ get_or-append-add c.done (x ∷ y ∷ l) 1 0 in
          let v : ℕ = bit_xor (get_or s i 0) t in
          let val : v ≡ bit_xor x (times (field_at m) b y) = ap₂ bit_xor at_x (e ∙ ap (times (field_at m) b) at_y) in
          let now : set s i v ≡ c.done ++ v ∷ y ∷ l = ap (λ u. set u i v) q ∙ set_at c.done x (y ∷ l) v i p in
          record {
            tables = c.tables;
            given = c.given;
            size = c.size;
            done = c.done ++ v ∷ y ∷ [];
            ahead = l;
            parts = now ∙ sym (append_assoc c.done (v ∷ y ∷ []) l);
            place = length-append c.done (v ∷ y ∷ []) ∙ ap (λ u. u + 2) p;
            long = length-set s i v ∙ c.long;
            small = k.1.1;
            whole = w ∙ ap (λ u. c.done ++ u ∷ y ∷ combine (G m) b l) (sym val) ∙ sym (append_assoc c.done (v ∷ y ∷ []) (combine (G m) b l));
          }

  pub combining-end : n ≤ i + 1 → s ≡ combine (G m) b s₀
  unfolding combine
  combining-end h = go c.ahead c.parts c.whole ahead-long
    where
      go : (l : List ℕ) → s ≡ c.done ++ l → combine (G m) b s₀ ≡ c.done ++ combine (G m) b l → length l ≡ n - i → s ≡ combine (G m) b s₀
      go [] q w o = q ∙ sym w
      go (x ∷ []) q w o = q ∙ sym w
      go (x ∷ y ∷ l) q w o = absurd (omega (arith, o))

-- ---- `convert`

-- from k on stand the digits
pub record Converting (m : ℕ) (ls ts : List ℕ) (b : ℕ) (f₀ f : List ℕ) (k : ℕ) : Type 0 where
  pub tables : Lent m ls ts
  pub given : Factors m b f₀
  pub within : k ≤ length f₀
  pub done : f ≡ take k f₀ ++ digits (G m) b (drop k f₀)

pub converting-from : {m : ℕ} {ls ts : List ℕ} {b : ℕ} {f : List ℕ} → Lent m ls ts → Factors m b f → Converting m ls ts b f f (length f)
unfolding digits
converting-from {m} {ls} {ts} {b} {f} lent g = record {
  tables = lent;
  given = g;
  within = omega arith;
  done = sym (ap₂ (λ u v. u ++ digits (G m) b v) (take_all (length f) f (omega arith)) (drop_all f) ∙ append-nil f);
}
  where
    drop_all : (l : List ℕ) → drop (length l) l ≡ []
    drop_all [] = refl
    drop_all (x ∷ l) = drop_all l

module _ {m : ℕ} {ls ts : List ℕ} {b : ℕ} {f₀ f : List ℕ} {k : ℕ} (c : Converting m ls ts b f₀ f k) where
  pub converting-long : length f ≡ length f₀
  converting-long =
      let w = c.within in
      omega (
        arith,
        ap length c.done,
        length-append (take k f₀) (digits (G m) b (drop k f₀)),
        length-take-le k f₀ w,
        length_digits (G m) b (drop k f₀),
        length-drop k f₀,
      )

  converted : drop k f ≡ digits (G m) b (drop k f₀)
  converted = ap (drop k) c.done ∙ drop_at (take k f₀) (digits (G m) b (drop k f₀)) k (length-take-le k f₀ c.within)

  untouched : take k f ≡ take k f₀
  untouched = ap (take k) c.done ∙ take_at (take k f₀) (digits (G m) b (drop k f₀)) k (length-take-le k f₀ c.within)

  pub converting-asks : Factors m b (take (length f - k) (drop k f))
  converting-asks = record {
    positive = c.given.positive;
    small = c.given.small;
    elements = subst (Below (2 ^ m)) (sym (part-rest k f ∙ converted))
        (digits-below m c.tables.degree b (drop k f₀) (drop-below (2 ^ m) k f₀ c.given.elements));
  }

  pub converting-on : {y : List ℕ} → 0 < k → y ≡ combine (G m) b (take (length f - k) (drop k f))
      → Converting m ls ts b f₀ (take k f ++ (y ++ drop (length f - k) (drop k f))) (k - 1)
  unfolding digits
  converting-on {y} h e =
      let j : ℕ = k - 1 in
      let w = c.within in
      let back : suc j ≡ k = omega arith in
      let here : drop j f₀ ≡ get_or f₀ j 0 ∷ drop k f₀ = drop-cons f₀ j 0 (omega arith) ∙ ap (λ i. get_or f₀ j 0 ∷ drop i f₀) back in
      let cut : take k f₀ ≡ take j f₀ ++ get_or f₀ j 0 ∷ [] = ap (λ i. take i f₀) (sym back) ∙ take-suc f₀ j 0 (omega arith) in
      let new : y ≡ combine (G m) b (digits (G m) b (drop k f₀)) = e ∙ ap (combine (G m) b) (part-rest k f ∙ converted) in
      record {
        tables = c.tables;
        given = c.given;
        within = omega arith;
        done = ap₂ (λ u v. u ++ v) (untouched ∙ cut) (part_none k f y ∙ new)
            ∙ append_assoc (take j f₀) (get_or f₀ j 0 ∷ []) (combine (G m) b (digits (G m) b (drop k f₀)))
            ∙ ap (λ l. take j f₀ ++ digits (G m) b l) (sym here);
      }

  pub converting-end : k ≤ 0 → f ≡ digits (G m) b f₀
  converting-end h = let z : k ≡ 0 = omega arith in c.done ∙ ap (λ i. take i f₀ ++ digits (G m) b (drop i f₀)) z

-- ---- `every_other`

twice-suc : (i : ℕ) → suc (suc (i + i)) ≡ suc i + suc i
twice-suc i = omega arith

evens_at : (l : List ℕ) (i : ℕ) → get_or (evens l) i 0 ≡ get_or l (i + i) 0
unfolding evens
evens_at [] i = refl
evens_at (c ∷ []) zero = refl
evens_at (c ∷ []) (suc i) = ap (λ j. get_or (c ∷ []) j 0) (twice-suc i)
evens_at (c ∷ d ∷ l) zero = refl
evens_at (c ∷ d ∷ l) (suc i) = evens_at l i ∙ ap (λ j. get_or (c ∷ d ∷ l) j 0) (twice-suc i)

-- the first i elements are written
pub record Choosing (g out₀ out : List ℕ) (i : ℕ) : Type 0 where
  pub filling : Filling (evens g) out₀ out i

pub choosing-from : (g out : List ℕ) → length out ≡ length (evens g) → Choosing g out out 0
choosing-from g out e = record { filling = fill-from (evens g) out (sym e) }

module _ {g out₀ out : List ℕ} {i : ℕ} (c : Choosing g out₀ out i) where
  pub choosing-fits : i < length out₀ → 2 * i < length g
  choosing-fits h = omega (arith, length-halves g, length-odds g, c.filling.same)

  pub choosing-on : i < length out₀ → Choosing g out₀ (set out i (get_or g (2 * i) 0)) (i + 1)
  choosing-on h = record { filling = fill_on c.filling h (ap (λ j. get_or g j 0) (twice i) ∙ sym (evens_at g i)) }
    where
      twice : (i : ℕ) → 2 * i ≡ i + i
      twice i = omega arith

  pub choosing-end : length out₀ ≤ i → out ≡ evens g
  choosing-end h = fill_end c.filling h

-- ---- `square_all`

-- the first i elements are squared
pub record Squaring (m : ℕ) (ls ts g₀ g : List ℕ) (i : ℕ) : Type 0 where
  pub tables : Lent m ls ts
  pub small : Below (2 ^ m) g₀
  pub filling : Filling (map (λ c. times (field_at m) c c) g₀) g₀ g i

pub squaring-from : {m : ℕ} {ls ts g : List ℕ} → Lent m ls ts → Below (2 ^ m) g → Squaring m ls ts g g 0
squaring-from {m} {ls} {ts} {g} t h = record { tables = t; small = h; filling = map-from (λ c. times (field_at m) c c) g }

module _ {m : ℕ} {ls ts g₀ g : List ℕ} {i : ℕ} (c : Squaring m ls ts g₀ g i) where
  pub squaring-small : i < length g₀ → get_or g i 0 < 2 ^ m
  squaring-small h = let b = below_at (2 ^ m) g₀ c.small i h in omega (arith, fill-next c.filling h)

  pub squaring-on : {v : ℕ} → i < length g₀ → v ≡ times (field_at m) (get_or g i 0) (get_or g i 0) → Squaring m ls ts g₀ (set g i v) (i + 1)
  squaring-on h e = record { tables = c.tables; small = c.small; filling = map_on (λ c. times (field_at m) c c) c.filling h e }

  pub squaring-end : length g₀ ≤ i → g ≡ map (λ c. times (field_at m) c c) g₀
  squaring-end h = fill_end c.filling h

-- ---- `add_product`

-- what lies ahead still wants the rest of the product
pub record Multiplying (m : ℕ) (ls ts : List ℕ) (b : ℕ) (p row r₀ r : List ℕ) (i : ℕ) : Type 0 where
  pub tables : Lent m ls ts
  pub given : Products m b p row r₀
  pub within : i ≤ length p
  pub done : List ℕ
  pub ahead : List ℕ
  pub parts : r ≡ done ++ ahead
  pub place : length done ≡ i
  pub long : length r ≡ length r₀
  pub whole : add (G m) r₀ (mul (G m) (map ((G m).mul b) p) (held m row))
      ≡ done ++ add (G m) ahead (mul (G m) (map ((G m).mul b) (drop i p)) (held m row))

pub multiplying-from : {m : ℕ} {ls ts : List ℕ} {b : ℕ} {p row r : List ℕ} → Lent m ls ts → Products m b p row r → Multiplying m ls ts b p row r r 0
multiplying-from {m} {ls} {ts} {b} {p} {row} {r} lent g = record {
  tables = lent;
  given = g;
  within = omega arith;
  done = [];
  ahead = r;
  parts = refl;
  place = refl;
  long = refl;
  whole = refl;
}

module _ {m : ℕ} {ls ts : List ℕ} {b : ℕ} {p row r₀ r : List ℕ} {i : ℕ} (c : Multiplying m ls ts b p row r₀ r i) where
  here : drop i r ≡ c.ahead
  here = ap (drop i) c.parts ∙ drop_at c.done c.ahead i c.place

  left : take i r ≡ c.done
  left = ap (take i) c.parts ∙ take_at c.done c.ahead i c.place

  ahead-size : length c.ahead ≡ length r₀ - i
  ahead-size = omega (arith, ap length c.parts, length-append c.done c.ahead, c.place, c.long)

  pub multiplying-small : i < length p → get_or p i 0 < 2 ^ m
  multiplying-small h = below_at (2 ^ m) p c.given.factors.elements i h

  pub multiplying-asks : {t : ℕ} → i < length p → t < 2 ^ m → Addable m t row (take (length r - i) (drop i r))
  multiplying-asks h k = record {
    element = k;
    logs = c.given.logs;
    room = rw (part-rest i r, here) (let s = c.given.space in let o = c.given.some in omega (arith, ahead-size));
  }

  pub multiplying-on : {t : ℕ} {y : List ℕ} → i < length p → t ≡ times (field_at m) b (get_or p i 0)
      → y ≡ added m t row (take (length r - i) (drop i r))
      → Multiplying m ls ts b p row r₀ (take i r ++ (y ++ drop (length r - i) (drop i r))) (i + 1)
  unfolding mul add
  multiplying-on {t} {y} h e d = go y refl
    where
      rest : List ℕ
      rest = drop (suc i) p

      next : drop i p ≡ get_or p i 0 ∷ rest
      next = drop-cons p i 0 h

      y-is : y ≡ add (G m) c.ahead (map ((G m).mul t) (held m row))
      y-is = d ∙ ap (λ l. add (G m) l (map ((G m).mul t) (held m row))) (part-rest i r ∙ here)

      y-long : length y ≡ length r₀ - i
      y-long =
          let s = c.given.space in
          let o = c.given.some in
          ap length y-is ∙ long-row m c.ahead (held m row) t (omega (arith, ahead-size, held-long m row)) ∙ ahead-size

      -- what is to come: the row, and the rest one place on
      sum : add (G m) c.ahead (mul (G m) (map ((G m).mul b) (drop i p)) (held m row))
          ≡ add (G m) y (0 ∷ mul (G m) (map ((G m).mul b) rest) (held m row))
      sum =
          ap (λ l. add (G m) c.ahead (mul (G m) (map ((G m).mul b) l) (held m row))) next
          ∙ ap (λ v. add (G m) c.ahead (add (G m) (map ((G m).mul v) (held m row)) (0 ∷ mul (G m) (map ((G m).mul b) rest) (held m row)))) (sym e)
          ∙ sym (add_assoc m c.ahead (map ((G m).mul t) (held m row)) (0 ∷ mul (G m) (map ((G m).mul b) rest) (held m row)))
          ∙ ap (λ l. add (G m) l (0 ∷ mul (G m) (map ((G m).mul b) rest) (held m row))) (sym y-is)

      R : Ring (G m)
      R = known-ring m c.tables.degree

      go : (z : List ℕ) → y ≡ z → Multiplying m ls ts b p row r₀ (take i r ++ (y ++ drop (length r - i) (drop i r))) (i + 1)
      go [] q = absurd (let s = c.given.space in let o = c.given.some in let g : length y ≡ 0 = ap length q in omega (arith, y-long))
      go (x ∷ z) q =
          let now : take i r ++ (y ++ drop (length r - i) (drop i r)) ≡ c.done ++ x ∷ z =
          ap₂ (λ u v. u ++ v) left (part_none i r y ∙ q) in
          let one : i + 1 ≡ suc i = omega arith in
          record {
            tables = c.tables;
            given = c.given;
            within = omega arith;
            done = c.done ++ x ∷ [];
            ahead = z;
            parts = now ∙ sym (append_assoc c.done (x ∷ []) z);
            place = length-append c.done (x ∷ []) ∙ ap (λ u. u + 1) c.place;
            long = ap length now ∙ length-append c.done (x ∷ z) ∙ omega (arith, c.place, ap length q, y-long);
            whole = c.whole
                ∙ ap (λ l. c.done ++ l) (sum ∙ ap (λ l. add (G m) l (0 ∷ mul (G m) (map ((G m).mul b) rest) (held m row))) q
                ∙ ap (λ v. v ∷ add (G m) z (mul (G m) (map ((G m).mul b) rest) (held m row))) (R.add_comm x 0))
                ∙ sym (append_assoc c.done (x ∷ []) (add (G m) z (mul (G m) (map ((G m).mul b) rest) (held m row))))
                ∙ ap (λ j. (c.done ++ x ∷ []) ++ add (G m) z (mul (G m) (map ((G m).mul b) (drop j p)) (held m row))) (sym one);
          }

  pub multiplying-end : length p ≤ i → r ≡ add (G m) r₀ (mul (G m) (map ((G m).mul b) p) (held m row))
  unfolding mul add
  multiplying-end h =
      c.parts
      ∙ sym (c.whole ∙ ap (λ l. c.done ++ add (G m) c.ahead (mul (G m) (map ((G m).mul b) l) (held m row))) (none p i h)
      ∙ ap (λ l. c.done ++ l) (nil c.ahead))
    where
      none : (l : List ℕ) (j : ℕ) → length l ≤ j → drop j l ≡ []
      none [] zero k = refl
      none [] (suc j) k = refl
      none (x ∷ l) zero k = absurd (omega (arith, k))
      none (x ∷ l) (suc j) k = none l j (omega (arith, k))

      nil : (l : List ℕ) → add (G m) l [] ≡ l
      nil [] = refl
      nil (x ∷ l) = refl

-- ---- `resultant`

module _ {m : ℕ} {ls ts : List ℕ} {b : ℕ} {p q g : List ℕ} (lent : Lent m ls ts) (d : Digits m b p q g) where
  pub high-long : length q ≡ length g / 2
  high-long = ap length d.high ∙ length-odds g

  low-long : length p + length q ≡ length g
  low-long = ap₂ (λ u v. length u + length v) d.low d.high ∙ length-halves g

  pub high-room : length q ≤ limit / 2
  high-room = let l = d.limited in omega (arith, high-long)

  high_small : Below (2 ^ m) q
  high_small = subst (Below (2 ^ m)) (sym d.high) (odds-below m lent.degree g d.factors.elements)

  pub row-asks : {r : List ℕ} → length r ≡ length q → Loggable m q r
  row-asks e = record { small = high_small; room = sym e }

  -- the row that was written, as it is lent again
  pub row_back : (y rest : List ℕ) → y ≡ log_row m q → take (length q) (y ++ rest) ≡ log_row m q
  row_back y rest e = take_at y rest (length q) (ap length e ∙ length-map q (log_of (field_at m))) ∙ e

  pub row_fits : (y rest : List ℕ) → y ≡ log_row m q → length q ≤ length (y ++ rest)
  row_fits y rest e = omega (arith, length-append y rest, ap length e, length-map q (log_of (field_at m)))

  pub product-asks : {row s : List ℕ} → row ≡ log_row m q → s ≡ map (λ c. times (field_at m) c c) g → Products m b p row s
  product-asks {row} {s} e f = record {
    factors = record {
      positive = d.factors.positive;
      small = d.factors.small;
      elements = subst (Below (2 ^ m)) (sym d.low) (evens-below m lent.degree g d.factors.elements);
    };
    logs = subst (LogRow m) (sym e) (row-is-row lent q high_small);
    some = let l = d.least in omega (arith, ap length e, length-map q (log_of (field_at m)), high-long);
    space = omega (arith, ap length e, length-map q (log_of (field_at m)), low-long, ap length f, length-map g (λ c. times (field_at m) c c));
  }

  pub product-end : {row s r : List ℕ} → row ≡ log_row m q → s ≡ map (λ c. times (field_at m) c c) g
      → r ≡ add (G m) s (mul (G m) (map ((G m).mul b) p) (held m row)) → r ≡ resultant (G m) b g
  unfolding resultant
  product-end {row} {s} {r} e f h =
      h ∙ ap₂ (λ u v. add (G m) u (mul (G m) (map ((G m).mul b) p) v)) f
      (ap (held m) e ∙ held-row lent q high_small)
      ∙ ap₂ (λ u v. add (G m) (map (λ c. times (field_at m) c c) g) (mul (G m) (map ((G m).mul b) u) v)) d.low d.high
