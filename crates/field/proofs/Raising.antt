-- Raising by turns x to (c x)^2: what the row of a turn holds, and what the turns come to. With k = 1/c^2 a turn takes
-- k y to k y^2, so m turns bring every element back, and m - 1 leave the square root, divided by c.
--   turned-additive   a turn is additive;  turned-row  so it is the sum over a row of squares
--   SquaresTo         the row up to i;  squares-from, squares-on, squares-end  its loop;  twice-lt  twice an
--                     element, reduced, is one
--   Mapping           the sum up to i;  mapping-from, mapping-on, mapping-end  its loop
--   Raising           the turns from 1 on;  raising-from, raising-on, raising-end  their loop
--   raised-back       m turns bring an element back;  raised_by-lt  turns leave elements
--   raised-squared    what m - 1 turns leave, times c, is the square root
--   raised-root       where c is 1, the square root;  raised-inverse  from 1 on, the inverse
-- Assumes nothing.
use mathlib.Core.Path.{◌≡◌, refl, sym, ap, ap₂, ◌∙◌, subst}
use mathlib.Core.Logic.{◌≢◌, ◌⊎◌, inl, inr, ⊎_elim}
use mathlib.Core.List.{List}
use Prim.Native.Nat.{ℕ, zero, suc, ◌+◌, ◌-◌, ◌*◌, ◌/◌, ◌%◌, ◌^◌, ◌≤◌, ◌<◌}
use native.Mathlib.Nat.{eq-or-lt_of_le, zero-mul, one-mul}
use native.Mathlib.Numerals.{add-one}
use native.Mathlib.Omega.{arith}
use lib.Bits.{bit_xor, xor_zero_r, xor_lt}
use lib.ListN.{length, get_or, set, drop, length-set, drop_of_length-le}
use lib.Seq.{get_or-set_same, get_or-set_other, drop-cons}
use Rattle.algebra.specs.Field.{power, squared}
use Rattle.field.specs.Field.{cut, Field, size, mul, numbers, inverse}
use Rattle.field.specs.Powers.{turned, raised_by, linear_map, Squares}
use Rattle.field.proofs.Xor.{xor_assoc, xor-equal}
use Rattle.field.proofs.Ring.{ring}
use Rattle.field.proofs.Additive.{Additive, by_row}
use Rattle.field.proofs.Generator.{Generated, one_below, inverse-lt, inverse-only, mul-inverse, zero-product}
use Rattle.field.proofs.Trace.{power-low}
use Rattle.field.proofs.Instance.{squared-size}

-- the row up to i, and the next entry
pub record SquaresTo (F : Field) (c : ℕ) (row : List ℕ) (y i : ℕ) : Type 0 where
  pub long : F.degree ≤ length row
  pub within : i ≤ F.degree
  pub y-lt : y < size F
  pub next : y ≡ turned F c (power (numbers F) 2 i)
  pub done : (j : ℕ) → j < i → get_or row j 0 ≡ turned F c (2 ^ j)

-- the turns from `turn` on, the first of which is 1
pub record Raising (F : Field) (c x y turn : ℕ) : Type 0 where
  pub within : turn ≤ F.degree
  pub y-lt : y < size F
  pub ahead : raised_by F c (F.degree - turn) y ≡ raised_by F c (F.degree - 1) x

module _ (F : Field) (gen : Generated F) where
  open ring F gen.monic use {mul_comm, mul_assoc, mul-xor-r, mul-one-l, mul-one-r, mul-lt, mul-two, mul-swap, square-xor}

  -- ---- a turn
  pub turned_lt : (c x : ℕ) → turned F c x < size F
  unfolding turned
  turned_lt c x = mul-lt (mul F c x) (mul F c x)

  pub turned-additive : (c : ℕ) → Additive (turned F c)
  unfolding turned
  turned-additive c x y = ap (λ (t : ℕ). mul F t t) (mul-xor-r c x y) ∙ square-xor (mul F c x) (mul F c y)

  pub turned-row : {c : ℕ} {row : List ℕ} → Squares F c row → (x : ℕ) → x < size F → linear_map row x ≡ turned F c x
  turned-row {c} {row} s = by_row F.degree (turned F c) (turned-additive c) row s.entry

  -- the entry behind is four times an entry
  turned_two : (c x : ℕ) → turned F c (mul F 2 x) ≡ mul F 2 (mul F 2 (turned F c x))
  unfolding turned
  turned_two c x =
      ap (λ (t : ℕ). mul F t t) (sym (mul_assoc c 2 x) ∙ ap (λ (t : ℕ). mul F t x) (mul_comm c 2) ∙ mul_assoc 2 c x)
      ∙ mul-swap 2 (mul F c x) 2 (mul F c x) ∙ mul_assoc 2 2 (mul F (mul F c x) (mul F c x))

  -- ---- the row
  pub squares-from : {c y : ℕ} {row : List ℕ} → c < size F → F.degree ≤ length row → y ≡ mul F c c → SquaresTo F c row y 0
  unfolding power turned
  squares-from {c} {y} h l e =
      record {
        long = l;
        within = omega arith;
        y-lt = subst (λ (t : ℕ). t < size F) (sym e) (mul-lt c c);
        next = e ∙ ap (λ (t : ℕ). mul F t t) (sym (mul-one-r c h));
        done = λ j k. absurd (omega arith);
      }

  pub twice-lt : {y z : ℕ} → y < size F → z ≡ cut F (y * 2) → z < size F
  twice-lt {y} h e = subst (λ (t : ℕ). t < size F) (mul-two y h ∙ sym e) (mul-lt 2 y)

  pub squares-on : {c y z w i : ℕ} {row : List ℕ} → SquaresTo F c row y i → i < F.degree
      → z ≡ cut F (y * 2) → w ≡ cut F (z * 2) → SquaresTo F c (set row i y) w (i + 1)
  unfolding power
  squares-on {c} {y} {z} {w} {i} {row} s h ez ew =
      record {
        long = rw (length-set row i y) s.long;
        within = omega arith;
        y-lt = twice-lt (twice-lt s.y-lt ez) ew;
        next = four ∙ ap (λ (t : ℕ). mul F 2 (mul F 2 t)) s.next ∙ sym (turned_two c (power (numbers F) 2 i)) ∙ ap (λ (n : ℕ). turned F c (power (numbers F) 2 n)) (sym (add-one i));
        done = λ j l. ⊎_elim
            (λ e. let k : j ≡ i = omega (arith, e) in
            ap (λ (n : ℕ). get_or (set row i y) n 0) k ∙ get_or-set_same row i y 0 (let m = s.long in omega arith)
            ∙ s.next ∙ ap (turned F c) (power-low F gen i h) ∙ ap (λ (n : ℕ). turned F c (2 ^ n)) (sym k))
            (λ e. get_or-set_other row i j y 0 (omega (arith, e)) ∙ s.done j (omega (arith, e)))
            (eq-or-lt_of_le (let q : j ≤ i = omega arith in q));
      }
    where
      four : w ≡ mul F 2 (mul F 2 y)
      four = ew ∙ sym (mul-two z (twice-lt s.y-lt ez)) ∙ ap (mul F 2) (ez ∙ sym (mul-two y s.y-lt))

  pub squares-end : {c y i : ℕ} {row : List ℕ} → SquaresTo F c row y i → F.degree ≤ i → Squares F c row
  squares-end s h = record { entry = λ j l. s.done j (omega arith) }

  -- ---- the turns, from 1 on
  pub raising-from : {c x : ℕ} → 0 < F.degree → x < size F → Raising F c x x 1
  raising-from p h = record { within = omega arith; y-lt = h; ahead = refl }

  pub raising-on : {c x y v turn : ℕ} {row : List ℕ} → Squares F c row → Raising F c x y turn → turn < F.degree → v ≡ linear_map row y
      → Raising F c x v (turn + 1)
  unfolding raised_by
  raising-on {c} {x} {y} {v} {turn} s r h e =
      record {
        within = omega arith;
        y-lt = subst (λ (t : ℕ). t < size F) (sym turned-y) (turned_lt c y);
        ahead = ap (raised_by F c (F.degree - (turn + 1))) turned-y ∙ ap (λ (n : ℕ). raised_by F c n y) (let q : suc (F.degree - (turn + 1)) ≡ F.degree - turn = omega arith in q) ∙ r.ahead;
      }
    where
      turned-y : v ≡ turned F c y
      turned-y = e ∙ turned-row s y r.y-lt

  pub raising-end : {c x y turn : ℕ} → Raising F c x y turn → F.degree ≤ turn → y ≡ raised_by F c (F.degree - 1) x
  unfolding raised_by
  raising-end {c} {x} {y} {turn} r h = ap (λ (n : ℕ). raised_by F c n y) (let q : 0 ≡ F.degree - turn = omega arith in q) ∙ r.ahead

  -- ---- what the turns come to
  pub raised_by-lt : (c n x : ℕ) → x < size F → raised_by F c n x < size F
  unfolding raised_by
  raised_by-lt c zero x h = h
  raised_by-lt c (suc n) x h = raised_by-lt c n (turned F c x) (turned_lt c x)

  -- one turn more, at either end
  raised-last : (c n x : ℕ) → raised_by F c (suc n) x ≡ turned F c (raised_by F c n x)
  unfolding raised_by
  raised-last c zero x = refl
  raised-last c (suc n) x = raised-last c n (turned F c x)

  module _ (c : ℕ) (pos : 0 < c) (lt : c < size F) where
    -- 1/c, and its square
    v : ℕ
    v = inverse F c

    k : ℕ
    k = mul F v v

    unit : mul F c v ≡ 1
    unfolding v
    unit = mul-inverse F gen c pos lt

    -- a turn takes k y to k y^2
    turned-scaled : (y : ℕ) → turned F c (mul F k y) ≡ mul F k (mul F y y)
    unfolding turned k v
    turned-scaled y = ap (λ (t : ℕ). mul F t t) one ∙ mul-swap v y v y
      where
        one : mul F c (mul F k y) ≡ mul F v y
        one =
            sym (mul_assoc c k y)
            ∙ ap (λ (t : ℕ). mul F t y) (sym (mul_assoc c v v) ∙ ap (λ (t : ℕ). mul F t v) unit ∙ mul-one-l v (inverse-lt F gen c))

    raised-scaled : (n y : ℕ) → raised_by F c n (mul F k y) ≡ mul F k (squared (numbers F) n y)
    unfolding raised_by squared
    raised-scaled zero y = refl
    raised-scaled (suc n) y = ap (raised_by F c n) (turned-scaled y) ∙ raised-scaled n (mul F y y)

    -- m turns bring an element back
    pub raised-back : (x : ℕ) → x < size F → raised_by F c F.degree x ≡ x
    unfolding k
    raised-back x h =
        ap (raised_by F c F.degree) (sym back) ∙ raised-scaled F.degree y
        ∙ ap (mul F k) (squared-size F gen y (mul-lt (mul F c c) x)) ∙ back
      where
        y : ℕ
        y = mul F (mul F c c) x

        back : mul F k y ≡ x
        back =
            sym (mul_assoc k (mul F c c) x)
            ∙ ap (λ (t : ℕ). mul F t x) (mul_comm k (mul F c c) ∙ mul-swap c c v v ∙ ap₂ (mul F) unit unit ∙ mul-one-l 1 (one_below F gen))
            ∙ mul-one-l x h

    -- what m - 1 turns leave, times c, is the square root
    pub raised-squared : 0 < F.degree → (x : ℕ) → x < size F → turned F c (raised_by F c (F.degree - 1) x) ≡ x
    raised-squared p x h =
        sym (raised-last c (F.degree - 1) x) ∙ ap (λ (n : ℕ). raised_by F c n x) (let q : suc (F.degree - 1) ≡ F.degree = omega arith in q) ∙ raised-back x h

    -- from 1 on, the inverse
    pub raised-inverse : 0 < F.degree → raised_by F c (F.degree - 1) 1 ≡ inverse F c
    unfolding turned
    raised-inverse p = sym (inverse-only F gen c r pos lt (raised_by-lt c (F.degree - 1) 1 (one_below F gen)) (xor-equal root))
      where
        r : ℕ
        r = raised_by F c (F.degree - 1) 1

        -- (cr + 1)^2 = 0
        root : bit_xor (mul F c r) 1 ≡ 0
        root =
            let s : ℕ = bit_xor (mul F c r) 1 in
            let l = xor_lt F.degree (mul F c r) 1 (mul-lt c r) (one_below F gen) in
            ⊎_elim (λ e. e) (λ e. e) (zero-product F gen s s l l
            (square-xor (mul F c r) 1 ∙ ap₂ bit_xor (raised-squared p 1 (one_below F gen)) (mul-one-l 1 (one_below F gen))))

  -- where c is 1, the square root
  pub raised-root : 0 < F.degree → (b : ℕ) → b < size F
      → (raised_by F 1 (F.degree - 1) b < size F) × (mul F (raised_by F 1 (F.degree - 1) b) (raised_by F 1 (F.degree - 1) b) ≡ b)
  unfolding turned
  raised-root p b h =
      let l = raised_by-lt 1 (F.degree - 1) b h in (
        l,
        ap (λ (t : ℕ). mul F t t) (sym (mul-one-l (raised_by F 1 (F.degree - 1) b) l)) ∙ raised-squared 1 (omega arith) (one_below F gen) p b h,
      )

-- ---- the sum over a row, digit by digit
pub record Mapping (row : List ℕ) (x sum rest i : ℕ) : Type 0 where
  pub within : i ≤ length row
  pub total : bit_xor sum (linear_map (drop i row) rest) ≡ linear_map row x

pub mapping-from : (row : List ℕ) (x : ℕ) → Mapping row x 0 x 0
mapping-from row x = record { within = omega arith; total = refl }

pub mapping-on : {row : List ℕ} {x sum s rest i : ℕ} → Mapping row x sum rest i → i < length row
    → ((rest % 2 ≡ 1) × (s ≡ bit_xor sum (get_or row i 0))) ⊎ ((rest % 2 ≢ 1) × (s ≡ sum)) → Mapping row x s (rest / 2) (i + 1)
unfolding linear_map
mapping-on {row} {x} {sum} {s} {rest} {i} m h d =
    record {
      within = omega arith;
      total = ap₂ bit_xor (digit d) (ap (λ (n : ℕ). linear_map (drop n row) (rest / 2)) (add-one i)) ∙ xor_assoc sum (rest % 2 * get_or row i 0) (linear_map (drop (suc i) row) (rest / 2))
          ∙ ap (λ (t : List ℕ). bit_xor sum (linear_map t rest)) (sym (drop-cons row i 0 h)) ∙ m.total;
    }
  where
    digit : ((rest % 2 ≡ 1) × (s ≡ bit_xor sum (get_or row i 0))) ⊎ ((rest % 2 ≢ 1) × (s ≡ sum)) → s ≡ bit_xor sum (rest % 2 * get_or row i 0)
    digit (inl t) = t.1 ∙ ap (bit_xor sum) (sym (ap (λ (n : ℕ). n * get_or row i 0) t.0 ∙ one-mul (get_or row i 0)))
    digit (inr t) =
        t.1 ∙ sym (xor_zero_r sum)
        ∙ ap (bit_xor sum) (sym (ap (λ (n : ℕ). n * get_or row i 0) (let n = t.0 in let z : rest % 2 ≡ 0 = omega arith in z) ∙ zero-mul (get_or row i 0)))

pub mapping-end : {row : List ℕ} {x sum rest i : ℕ} → Mapping row x sum rest i → length row ≤ i → sum ≡ linear_map row x
unfolding linear_map
mapping-end {row} {x} {sum} {rest} {i} m h =
    sym (xor_zero_r sum) ∙ ap (λ (t : List ℕ). bit_xor sum (linear_map t rest)) (sym (drop_of_length-le row h)) ∙ m.total
