-- The powers once, and a trace sum for each b: what holds at each turn.
--   rows_fit, next_place, part-front, part-long                    a row more fits, and where it stands
--   Saving, saving-from, saving-asks, saving-on, saving-end        the rows of the first i powers are written
--   part-of-row                                                    a part of a list of logs is one
--   Combining, combine-from, combine-asks, combine-on, combine-end  i terms are added
-- Assumes nothing.
use mathlib.Core.Path.{◌≡◌, refl, sym, ap, ap₂, ◌∙◌, subst}
use mathlib.Core.List.{List, ◌++◌, map, append_assoc, append-nil}
use Prim.Native.Nat.{ℕ, suc, ◌+◌, ◌-◌, ◌*◌, ◌^◌, ◌≤◌, ◌<◌}
use native.Mathlib.Nat.{mul-le-mul_right, suc-mul}
use native.Mathlib.Omega.{arith}
use lib.ListN.{length, take, drop, length-append, length-map, length-drop}
use lib.Seq.{take_at, drop-drop, get_or-take, get_or-drop, length-take-le}
use Rattle.algebra.specs.Polynomial.{add}
use Rattle.algebra.specs.Routines.{rem, square}
use Rattle.field.specs.Field.{mul, field_at, G}
use Rattle.field.specs.Tables.{log_of}
use Rattle.poly.specs.Lent.{Lent, LogRow, IsLog, log_row, held}
use Rattle.poly.specs.Asking.{Addable, Loggable}
use Rattle.poly_powers.specs.Asking.{Savable, Summable}
use Rattle.poly_powers.specs.Powers.{Saved, power_rows, trace_sum}
use Rattle.poly.proofs.Logs.{numbers_of, held-long}
use Rattle.poly.proofs.Sums.{add-nil, add_assoc, long-row}
use Rattle.poly_powers.proofs.PowerLoops.{Powering, power-from, power-on, power-end}

-- a row more fits
pub rows_fit : {l at : ℕ} (i k n : ℕ) → i < k → k * n ≤ l → at ≡ i * n → at + n ≤ l
rows_fit i k n h r e =
    let a : suc i * n ≤ k * n = mul-le-mul_right n h in
    let b : suc i * n ≡ i * n + n = suc-mul i n in
    omega arith

-- and stands behind the others
pub next_place : {at : ℕ} (i n : ℕ) → at ≡ i * n → at + n ≡ (i + 1) * n
next_place i n e =
    let b : suc i * n ≡ i * n + n = suc-mul i n in
    let c : i + 1 ≡ suc i = omega arith in
    ap (λ a. a + n) e ∙ sym b ∙ ap (λ j. j * n) (sym c)

-- what a part of n places at `at` becomes stands there
pub part-front : (at n d : ℕ) (y l : List ℕ) → at + n ≤ length l → length y ≡ n → take (at + n) (take at l ++ (y ++ drop d (drop at l))) ≡ take at l ++ y
part-front at n d y l h e =
    ap (take (at + n)) (sym (append_assoc (take at l) y (drop d (drop at l))))
    ∙ take_at (take at l ++ y) (drop d (drop at l)) (at + n) (length-append (take at l) y ∙ ap₂ (λ a b. a + b) (length-take-le at l (omega arith)) e)

-- and the list is as long as it was
pub part-long : (at n : ℕ) (y l : List ℕ) → at + n ≤ length l → length y ≡ n → length (take at l ++ (y ++ drop n (drop at l))) ≡ length l
part-long at n y l h e =
    omega (arith, length-append (take at l) (y ++ drop n (drop at l)), length-append y (drop n (drop at l)), length-take-le at l (omega arith), length-drop n (drop at l), length-drop at l)

-- ---- `power_rows`

-- the rows of the first i powers are written
pub record Saving (m : ℕ) (ls ts row : List ℕ) (k : ℕ) (w₀ s₀ rows₀ w s rows : List ℕ) (at i : ℕ) : Type 0 where
  pub powering : Powering m ls ts row k w₀ s₀ w s i
  pub place : at ≡ i * length row
  pub room : k * length row ≤ length rows
  pub long-rows : length rows ≡ length rows₀
  pub saved : take at rows ++ power_rows m (held m row) (k - i) w ≡ power_rows m (held m row) k w₀

pub saving-from : {m : ℕ} {ls ts row w rows : List ℕ} {k : ℕ} (s : List ℕ) → Lent m ls ts → Savable m row k w rows → Saving m ls ts row k w s rows w s rows (0 * length row) 0
saving-from {m} {row = row} {w} {rows} {k} s l g =
    let e : k - 0 ≡ k = omega arith in
    let none : 0 * length row ≡ 0 = omega arith in
    record {
      powering = power-from k s l g.squarable;
      place = refl;
      room = g.room-rows;
      long-rows = refl;
      saved = ap₂ (λ a j. take a rows ++ power_rows m (held m row) j w) none e;
    }

module _ {m : ℕ} {ls ts row : List ℕ} {k : ℕ} {w₀ s₀ rows₀ w s rows : List ℕ} {at i : ℕ} (p : Saving m ls ts row k w₀ s₀ rows₀ w s rows at i) where
  -- the next row has its room
  pub saving-room : i < k → at + length row ≤ length rows
  saving-room h = rows_fit i k (length row) h p.room p.place

  -- and can be written there
  pub saving-asks : i < k → Loggable m w (take (at + length row - at) (drop at rows))
  saving-asks h =
      let r = saving-room h in
      let d : at + length row - at ≡ length row = omega arith in
      record {
        small = p.powering.given.small;
        room = p.powering.given.long ∙ sym (length-take-le (at + length row - at) (drop at rows) (omega (arith, length-drop at rows)) ∙ d);
      }

  -- one row more
  pub saving-on : {w₁ s₁ y : List ℕ} → i < k → y ≡ log_row m w → w₁ ≡ rem (G m) (held m row) (square (G m) w) → length s₁ ≡ length s
      → Saving m ls ts row k w₀ s₀ rows₀ w₁ s₁ (take at rows ++ (y ++ drop (at + length row - at) (drop at rows))) ((i + 1) * length row) (i + 1)
  unfolding power_rows
  saving-on {w₁} {s₁} {y} h f e n =
      let d : ℕ = at + length row - at in
      let o : d ≡ length row = omega arith in
      let left : k - i ≡ suc (k - (i + 1)) = omega arith in
      let q : List ℕ = held m row in
      let r = saving-room h in
      let rows₁ : List ℕ = take at rows ++ (y ++ drop d (drop at rows)) in
      let long : length y ≡ length row = ap length f ∙ length-map w (log_of (field_at m)) ∙ p.powering.given.long in
      let l : length rows₁ ≡ length rows = ap (λ j. length (take at rows ++ (y ++ drop j (drop at rows)))) o ∙ part-long at (length row) y rows r long in
      subst (λ a. Saving m ls ts row k w₀ s₀ rows₀ w₁ s₁ rows₁ a (i + 1)) (next_place i (length row) p.place) (record {
        powering = power-on p.powering h e n;
        place = next_place i (length row) p.place;
        room = subst (λ j. k * length row ≤ j) (sym l) p.room;
        long-rows = l ∙ p.long-rows;
        saved = ap₂ (λ u v. u ++ power_rows m q (k - (i + 1)) v) (part-front at (length row) d y rows r long ∙ ap (λ u. take at rows ++ u) f) e
            ∙ append_assoc (take at rows) (log_row m w) (power_rows m q (k - (i + 1)) (rem (G m) q (square (G m) w)))
            ∙ ap (λ j. take at rows ++ power_rows m q j w) (sym left) ∙ p.saved;
      })

  pub saving-end : k ≤ i → Saved m (held m row) k w₀ w rows
  unfolding power_rows
  saving-end h =
      let z : k - i ≡ 0 = omega (arith, p.powering.within) in
      let all : i ≡ k = omega (arith, p.powering.within) in
      let here : at ≡ k * length (held m row) = p.place ∙ ap₂ (λ a b. a * b) all (sym (held-long m row)) in
      record {
        power = power-end p.powering h;
        rows_are = ap (λ j. take j rows) (sym here) ∙ sym (append-nil (take at rows)) ∙ ap (λ j. take at rows ++ power_rows m (held m row) j w) (sym z) ∙ p.saved;
      }

-- ---- `add_trace`

-- a part of a list of logs is one
part-of-row : {m : ℕ} {rows : List ℕ} (n at : ℕ) → at + n ≤ length rows → LogRow m rows → LogRow m (take n (drop at rows))
part-of-row {m} {rows} n at h r =
    let long : length (take n (drop at rows)) ≡ n = length-take-le n (drop at rows) (omega (arith, length-drop at rows)) in
    record {
      entry = λ i l.
          let j : i < n = omega arith in
          subst (IsLog m) (sym (get_or-take n (drop at rows) i 0 j ∙ get_or-drop at rows i 0)) (r.entry (at + i) (omega arith));
    }

-- i terms are added
pub record Combining (m : ℕ) (ls ts rows : List ℕ) (k b : ℕ) (t₀ t : List ℕ) (c at i : ℕ) : Type 0 where
  pub tables : Lent m ls ts
  pub given : Summable m rows k b t₀
  pub within : i ≤ k
  pub element : c < 2 ^ m
  pub place : at ≡ i * length t₀
  pub long : length t ≡ length t₀
  pub sum : add (G m) t (trace_sum m (length t₀) (k - i) c (drop at rows)) ≡ add (G m) t₀ (trace_sum m (length t₀) k b rows)

pub combine-from : {m : ℕ} {ls ts rows t : List ℕ} {k b : ℕ} → Lent m ls ts → Summable m rows k b t → Combining m ls ts rows k b t t b (0 * length t) 0
combine-from {m} {rows = rows} {t} {k} {b} l g =
    let e : k - 0 ≡ k = omega arith in
    let none : 0 * length t ≡ 0 = omega arith in
    record {
      tables = l;
      given = g;
      within = omega arith;
      element = g.element;
      place = refl;
      long = refl;
      sum = ap₂ (λ a j. add (G m) t (trace_sum m (length t) j b (drop a rows))) none e;
    }

module _ {m : ℕ} {ls ts rows : List ℕ} {k b : ℕ} {t₀ t : List ℕ} {c at i : ℕ} (p : Combining m ls ts rows k b t₀ t c at i) where
  -- the next row stands there
  pub combine-room : i < k → at + length t₀ ≤ length rows
  combine-room h = rows_fit i k (length t₀) h p.given.room-rows p.place

  -- and can be added
  pub combine-asks : i < k → Addable m c (take (at + length t₀ - at) (drop at rows)) t
  combine-asks h =
      let r = combine-room h in
      let n : ℕ = at + length t₀ - at in
      let q : at + n ≤ length rows = omega arith in
      record {
        element = p.element;
        logs = part-of-row n at q p.given.logs;
        room = omega (arith, length-take-le n (drop at rows) (omega (arith, length-drop at rows)), p.long);
      }

  -- one term more
  pub combine-on : {c₁ : ℕ} {t₁ : List ℕ} → i < k → t₁ ≡ add (G m) t (map ((G m).mul c) (held m (take (at + length t₀ - at) (drop at rows)))) → c₁ ≡ mul (field_at m) c c
      → Combining m ls ts rows k b t₀ t₁ c₁ ((i + 1) * length t₀) (i + 1)
  unfolding trace_sum
  combine-on {c₁} {t₁} h e f =
      let o : at + length t₀ - at ≡ length t₀ = omega arith in
      let left : k - i ≡ suc (k - (i + 1)) = omega arith in
      let a : List ℕ = map ((G m).mul c) (held m (take (length t₀) (drop at rows))) in
      let to : t₁ ≡ add (G m) t a = e ∙ ap (λ j. add (G m) t (map ((G m).mul c) (held m (take j (drop at rows))))) o in
      let r : Addable m c (take (length t₀) (drop at rows)) t = subst (λ j. Addable m c (take j (drop at rows)) t) o (combine-asks h) in
      let rest : List ℕ = trace_sum m (length t₀) (k - (i + 1)) ((G m).mul c c) (drop (length t₀) (drop at rows)) in
      subst (λ a. Combining m ls ts rows k b t₀ t₁ c₁ a (i + 1)) (next_place i (length t₀) p.place) (record {
        tables = p.tables;
        given = p.given;
        within = omega arith;
        element = subst (λ x. x < 2 ^ m) (sym f) ((numbers_of p.tables).mul-below c c p.element p.element);
        place = next_place i (length t₀) p.place;
        long = ap length to ∙ long-row m t (held m (take (length t₀) (drop at rows))) c (omega (arith, held-long m (take (length t₀) (drop at rows)), r.room)) ∙ p.long;
        sum = ap₂ (λ u v. add (G m) u (trace_sum m (length t₀) (k - (i + 1)) v (drop (at + length t₀) rows))) to f
            ∙ ap (λ l. add (G m) (add (G m) t a) (trace_sum m (length t₀) (k - (i + 1)) ((G m).mul c c) l)) (sym (drop-drop (length t₀) at rows))
            ∙ add_assoc m t a rest ∙ ap (λ j. add (G m) t (trace_sum m (length t₀) j c (drop at rows))) (sym left) ∙ p.sum;
      })

  pub combine-end : k ≤ i → t ≡ add (G m) t₀ (trace_sum m (length t₀) k b rows)
  unfolding trace_sum
  combine-end h =
      let z : k - i ≡ 0 = omega (arith, p.within) in
      sym (add-nil m t) ∙ ap (λ j. add (G m) t (trace_sum m (length t₀) j c (drop at rows))) (sym z) ∙ p.sum
