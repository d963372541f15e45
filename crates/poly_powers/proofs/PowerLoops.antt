-- Squares and their sums: what holds at each turn.
--   square-even, square-odd                                        the places of a square
--   Spreading, spread-from, spread-on, spread_end                  the squares of the first i coefficients are written
--   stands-long, front_fits                                        where the square and its remainder stand
--   square-room, square-asks, square-is, square-again              what the routines ask, and what the front of the
--                                                                  division is
--   Powering, power-from, power-on, power-end                      i squarings are done
--   Summing, sum-from, sum-on, sum-end                             the first i elements are added
--   Tracing, trace-from, trace-asks, trace-on, trace-end           i terms of the trace sum are added
-- Assumes nothing.
use mathlib.Core.Path.{◌≡◌, refl, sym, ap, ◌∙◌, subst}
use mathlib.Core.List.{List, [], ◌∷◌, ◌++◌}
use Prim.Native.Nat.{ℕ, zero, suc, ◌+◌, ◌-◌, ◌*◌, ◌^◌, ◌≤◌, ◌<◌}
use native.Mathlib.Nat.{not-suc-le-zero, le_of_suc-le-suc}
use native.Mathlib.Omega.{arith}
use lib.Bits.{bit_xor}
use lib.ListN.{length, get_or, take, set, length-append}
use lib.Seq.{length-take-le, take_at, take-append-le}
use Rattle.algebra.specs.Polynomial.{add, Below}
use Rattle.algebra.specs.Routines.{rem, square, frobenius_mod, trace_mod}
use Rattle.algebra.proofs.Lengths.{length-rem, length-square, length-add-left}
use Rattle.algebra.proofs.StaysBelow.{below_at, rem_below, square-below}
use Rattle.field.specs.Field.{mul, field_at, G}
use Rattle.poly.specs.Lent.{Lent, held}
use Rattle.poly.specs.Asking.{Divisible}
use Rattle.poly.specs.Division.{divided}
use Rattle.input.specs.Limit.{limit}
use Rattle.poly_powers.specs.Asking.{Spreadable, Squarable}
use Rattle.slices.proofs.Filling.{Filling, fill-from, fill_on, fill-next, fill_end}
use Rattle.poly.proofs.Logs.{small_of, numbers_of, held_below, held-long}
use Rattle.poly.proofs.Divisions.{length-divided}
use Rattle.poly.proofs.Sums.{add_at, add-nil, add_assoc}
use Rattle.poly.proofs.Remainders.{remainder-long}

-- ---- `spread`

module _ (m : ℕ) where
  -- twice as far
  double : (i : ℕ) → suc i + suc i ≡ suc (suc (i + i))
  double i = omega arith

  square-even : (w : List ℕ) (i : ℕ) → i < length w → get_or (square (G m) w) (i + i) 0 ≡ mul (field_at m) (get_or w i 0) (get_or w i 0)
  unfolding square
  square-even [] i h = absurd (not-suc-le-zero h)
  square-even (c ∷ w) zero h = refl
  square-even (c ∷ w) (suc i) h = ap (λ n. get_or (square (G m) (c ∷ w)) n 0) (double i) ∙ square-even w i (le_of_suc-le-suc h)

  square-odd : (w : List ℕ) (i : ℕ) → i < length w → get_or (square (G m) w) (i + i + 1) 0 ≡ 0
  unfolding square
  square-odd [] i h = absurd (not-suc-le-zero h)
  square-odd (c ∷ w) zero h = refl
  square-odd (c ∷ w) (suc i) h = let e : suc i + suc i + 1 ≡ suc (suc (i + i + 1)) = omega arith in ap (λ n. get_or (square (G m) (c ∷ w)) n 0) e ∙ square-odd w i (le_of_suc-le-suc h)

-- the squares of the first i coefficients are written
pub record Spreading (m : ℕ) (w s₀ s : List ℕ) (i : ℕ) : Type 0 where
  pub given : Spreadable m w s₀
  pub within : i ≤ length w
  pub filling : Filling (square (G m) w) s₀ s (i + i)

pub spread-from : {m : ℕ} {w s : List ℕ} → Spreadable m w s → Spreading m w s s 0
spread-from {m} {w} {s} g =
    record { given = g; within = omega arith; filling = fill-from (square (G m) w) s (length-square (G m) w ∙ sym g.room) }

module _ {m : ℕ} {w s₀ s : List ℕ} {i : ℕ} (p : Spreading m w s₀ s i) where
  pub spread-asks : i < length w → get_or w i 0 < 2 ^ m
  spread-asks h = below_at (2 ^ m) w p.given.small i h

  -- two places more
  pub spread-on : {x : ℕ} → i < length w → x ≡ mul (field_at m) (get_or w i 0) (get_or w i 0) → Spreading m w s₀ (set (set s (2 * i) x) (2 * i + 1) 0) (i + 1)
  spread-on {x} h e =
      let room = p.given.room in
      let next : i + i + 1 + 1 ≡ i + 1 + (i + 1) = omega arith in
      let twice : i + i ≡ 2 * i = omega arith in
      subst (λ k. Spreading m w s₀ (set (set s k x) (k + 1) 0) (i + 1)) twice (record {
        given = p.given;
        within = omega arith;
        filling = subst (Filling (square (G m) w) s₀ (set (set s (i + i) x) (i + i + 1) 0)) next
            (fill_on (fill_on p.filling (omega arith) (e ∙ sym (square-even m w i h))) (omega arith) (sym (square-odd m w i h)));
      })

  pub spread_end : length w ≤ i → s ≡ square (G m) w
  spread_end h = fill_end p.filling (omega (arith, p.given.room))

-- ---- `square_mod`

-- as many places as the square has
abbrev places : List ℕ → ℕ
places row = length row + length row

module _ {m : ℕ} {ls ts row w : List ℕ} (l : Lent m ls ts) (g : Squarable m row w) where
  square-small : Below (2 ^ m) (square (G m) w)
  square-small = square-below (numbers_of l) w g.small

  pub square-room : (s : List ℕ) → limit + limit ≤ length s → Spreadable m w (take (places row) s)
  square-room s r = record { small = g.small; room = omega (arith, length-take-le (places row) s (omega (arith, g.few)), g.long) }

  module _ (z : List ℕ) {y : List ℕ} (e : y ≡ square (G m) w) where
    y-long : length y ≡ places row
    y-long = ap length e ∙ length-square (G m) w ∙ ap (λ n. n + n) g.long

    -- the square, where it stands
    stands : take (places row) (y ++ z) ≡ y
    stands = take_at y z (places row) y-long

    pub stands-long : length (take (places row) (y ++ z)) ≡ places row
    stands-long = ap length stands ∙ y-long

    pub square-asks : Divisible m row (take (places row) (y ++ z))
    square-asks = record {
      logs = g.logs;
      small = subst (Below (2 ^ m)) (sym (stands ∙ e)) square-small;
      room = omega (arith, stands-long);
    }

    module _ {y₁ : List ℕ} (f : y₁ ≡ divided m (held m row) (take (places row) (y ++ z))) where
      y₁-long : length y₁ ≡ places row
      y₁-long =
          ap length f ∙ length-divided l (held m row) (take (places row) (y ++ z)) (omega (arith, held-long m row, square-asks.room))
          ∙ stands-long

      -- the remainder stands in front
      pub front_fits : (z₁ : List ℕ) → length row ≤ length (y₁ ++ z₁)
      front_fits z₁ = omega (arith, y₁-long, length-append y₁ z₁)

      pub square-is : {w₁ : List ℕ} (z₁ : List ℕ) → w₁ ≡ take (length row) (y₁ ++ z₁) → w₁ ≡ rem (G m) (held m row) (square (G m) w)
      square-is z₁ h =
          remainder-long m row (square (G m) w) (f ∙ ap (divided m (held m row)) (stands ∙ e)) (h ∙ take-append-le (length row) y₁ z₁ (omega (arith, y₁-long)))

  -- the square can be squared again
  square-again : {w₁ : List ℕ} → w₁ ≡ rem (G m) (held m row) (square (G m) w) → Squarable m row w₁
  square-again e = record {
    logs = g.logs;
    small = subst (Below (2 ^ m)) (sym e) (rem_below (numbers_of l) (held m row) (square (G m) w) (held_below l row) square-small);
    few = g.few;
    long = ap length e ∙ length-rem (G m) (held m row) (square (G m) w) ∙ held-long m row;
  }

-- ---- `power_mod`

-- i squarings are done
pub record Powering (m : ℕ) (ls ts row : List ℕ) (k : ℕ) (w₀ s₀ w s : List ℕ) (i : ℕ) : Type 0 where
  pub tables : Lent m ls ts
  pub given : Squarable m row w
  pub within : i ≤ k
  pub long-w : length w ≡ length w₀
  pub long-s : length s ≡ length s₀
  pub same : frobenius_mod (G m) (held m row) (k - i) w ≡ frobenius_mod (G m) (held m row) k w₀

pub power-from : {m : ℕ} {ls ts row w : List ℕ} (k : ℕ) (s : List ℕ) → Lent m ls ts → Squarable m row w → Powering m ls ts row k w s w s 0
power-from {m} {ls} {ts} {row} {w} k s l g =
    let e : k - 0 ≡ k = omega arith in
    record { tables = l; given = g; within = omega arith; long-w = refl; long-s = refl; same = ap (λ n. frobenius_mod (G m) (held m row) n w) e }

module _ {m : ℕ} {ls ts row : List ℕ} {k : ℕ} {w₀ s₀ w s : List ℕ} {i : ℕ} (p : Powering m ls ts row k w₀ s₀ w s i) where
  -- one squaring more
  pub power-on : {w₁ s₁ : List ℕ} → i < k → w₁ ≡ rem (G m) (held m row) (square (G m) w) → length s₁ ≡ length s → Powering m ls ts row k w₀ s₀ w₁ s₁ (i + 1)
  unfolding frobenius_mod
  power-on {w₁} {s₁} h e n =
      let left : k - i ≡ suc (k - (i + 1)) = omega arith in
      let again : Squarable m row w₁ = square-again p.tables p.given e in
      record {
        tables = p.tables;
        given = again;
        within = omega arith;
        long-w = again.long ∙ sym p.given.long ∙ p.long-w;
        long-s = n ∙ p.long-s;
        same = ap (frobenius_mod (G m) (held m row) (k - (i + 1))) e ∙ ap (λ n. frobenius_mod (G m) (held m row) n w) (sym left) ∙ p.same;
      }

  pub power-end : k ≤ i → w ≡ frobenius_mod (G m) (held m row) k w₀
  unfolding frobenius_mod
  power-end h = let z : k - i ≡ 0 = omega arith in ap (λ n. frobenius_mod (G m) (held m row) n w) (sym z) ∙ p.same

-- ---- `add_to`

-- the first i elements are added
pub record Summing (m : ℕ) (w r₀ r : List ℕ) (i : ℕ) : Type 0 where
  pub room : length w ≡ length r₀
  pub filling : Filling (add (G m) r₀ w) r₀ r i

pub sum-from : (m : ℕ) (w r : List ℕ) → length w ≡ length r → Summing m w r r 0
sum-from m w r h = record { room = h; filling = fill-from (add (G m) r w) r (length-add-left (G m) r w (omega arith)) }

module _ {m : ℕ} {w r₀ r : List ℕ} {i : ℕ} (s : Summing m w r₀ r i) where
  pub sum-on : i < length w → Summing m w r₀ (set r i (bit_xor (get_or r i 0) (get_or w i 0))) (i + 1)
  sum-on h =
      let room = s.room in
      let inside : i < length r₀ = omega arith in
      record {
        room = s.room;
        filling = fill_on s.filling inside (ap (λ x. bit_xor x (get_or w i 0)) (fill-next s.filling inside) ∙ sym (add_at m r₀ w i (omega arith) h));
      }

  pub sum-end : length w ≤ i → r ≡ add (G m) r₀ w
  sum-end h = fill_end s.filling (omega (arith, s.room))

-- ---- `trace_mod`

-- i terms are added
pub record Tracing (m : ℕ) (ls ts row w₀ s₀ sum₀ w s sum : List ℕ) (i : ℕ) : Type 0 where
  pub tables : Lent m ls ts
  pub given : Squarable m row w
  pub first : 0 < i
  pub within : i ≤ m
  pub long-w : length w ≡ length w₀
  pub long-s : length s ≡ length s₀
  pub long-sum : length sum ≡ length sum₀
  pub room : length sum₀ ≡ length row
  pub same : add (G m) sum (trace_mod (G m) (held m row) (m - i) (rem (G m) (held m row) (square (G m) w))) ≡ trace_mod (G m) (held m row) m w₀

pub trace-from : {m : ℕ} {ls ts row w sum₁ : List ℕ} (s : List ℕ) → Lent m ls ts → Squarable m row w → sum₁ ≡ w
    → Tracing m ls ts row w s sum₁ w s sum₁ 1
unfolding trace_mod
trace-from {m} {ls} {ts} {row} {w} {sum₁} s l g whole =
    let positive = (small_of l).degree-pos in
    let up : suc (m - 1) ≡ m = omega arith in
    record {
      tables = l;
      given = g;
      first = omega arith;
      within = omega arith;
      long-w = refl;
      long-s = refl;
      long-sum = refl;
      room = ap length whole ∙ g.long;
      same = ap (λ u. add (G m) u (trace_mod (G m) (held m row) (m - 1) (rem (G m) (held m row) (square (G m) w)))) whole
          ∙ ap (λ n. trace_mod (G m) (held m row) n w) up;
    }

module _ {m : ℕ} {ls ts row w₀ s₀ sum₀ w s sum : List ℕ} {i : ℕ} (t : Tracing m ls ts row w₀ s₀ sum₀ w s sum i) where
  -- what the sum asks
  pub trace-asks : {w₁ : List ℕ} → w₁ ≡ rem (G m) (held m row) (square (G m) w) → length w₁ ≡ length sum
  trace-asks {w₁} e = ap length e ∙ length-rem (G m) (held m row) (square (G m) w) ∙ held-long m row ∙ sym (t.long-sum ∙ t.room)

  -- one term more
  pub trace-on : {w₁ s₁ sum₁ : List ℕ} → i < m → w₁ ≡ rem (G m) (held m row) (square (G m) w) → length s₁ ≡ length s → sum₁ ≡ add (G m) sum w₁
      → Tracing m ls ts row w₀ s₀ sum₀ w₁ s₁ sum₁ (i + 1)
  unfolding trace_mod
  trace-on {w₁} {s₁} {sum₁} h e n a =
      let left : m - i ≡ suc (m - (i + 1)) = omega arith in
      let again : Squarable m row w₁ = square-again t.tables t.given e in
      let tail : List ℕ = trace_mod (G m) (held m row) (m - (i + 1)) (rem (G m) (held m row) (square (G m) w₁)) in
      record {
        tables = t.tables;
        given = again;
        first = omega arith;
        within = omega arith;
        long-w = again.long ∙ sym t.given.long ∙ t.long-w;
        long-s = n ∙ t.long-s;
        long-sum = ap length a ∙ length-add-left (G m) sum w₁ (omega (arith, trace-asks e)) ∙ t.long-sum;
        room = t.room;
        same = ap (λ u. add (G m) u tail) a ∙ add_assoc m sum w₁ tail ∙ ap (λ n. add (G m) sum (trace_mod (G m) (held m row) n w₁)) (sym left)
            ∙ ap (λ u. add (G m) sum (trace_mod (G m) (held m row) (m - i) u)) e ∙ t.same;
      }

  pub trace-end : m ≤ i → sum ≡ trace_mod (G m) (held m row) m w₀
  unfolding trace_mod
  trace-end h =
      let z : m - i ≡ 0 = omega arith in
      sym (add-nil m sum) ∙ ap (λ n. add (G m) sum (trace_mod (G m) (held m row) n (rem (G m) (held m row) (square (G m) w)))) (sym z) ∙ t.same
