-- The loops over a row: what holds at each turn.
--   Adding                             the multiple is added to the first i elements
--   adding-from, adding-on, adding-end the start, a turn, the end
--   row-skipped                            the multiple by 0 is nothing to add
--   adding-fits                        the product stands in the table
--   Writing, write-from, write-on, write-fits, write-end   the same of the loop that writes a row
-- Assumes nothing.
use mathlib.Core.Path.{◌≡◌, sym, ap, ap₂, ◌∙◌}
use mathlib.Core.List.{List, map}
use Prim.Native.Nat.{ℕ, ◌+◌, ◌^◌, ◌≤◌, ◌<◌}
use native.Mathlib.Omega.{arith}
use lib.Bits.{bit_xor}
use lib.ListN.{length, get_or, drop, set, length-map}
use Rattle.algebra.specs.Polynomial.{add}
use Rattle.algebra.proofs.StaysBelow.{below_at}
use Rattle.field.specs.Field.{field_at, G}
use Rattle.field.specs.Tables.{log_of, antilog_of}
use Rattle.field.proofs.Ring.{ring}
use Rattle.poly.specs.Lent.{Lent, log_row, held}
use Rattle.poly.specs.Asking.{Addable, Loggable}
use Rattle.slices.proofs.Filling.{Filling, fill-from, fill_on, fill-next, fill_end, fill_stop, map_at}
use Rattle.poly.proofs.Logs.{field_of, logs-fit, log-at, row_fits, row_at, held-long}
use Rattle.poly.proofs.Sums.{add_at, add-rest, add_none, long-row}

-- the sum that is made
abbrev pub added : ℕ → ℕ → List ℕ → List ℕ → List ℕ
added m t row r = add (G m) r (map ((G m).mul t) (held m row))

-- the multiple is added to the first i elements
pub record Adding (m : ℕ) (ls ts : List ℕ) (t : ℕ) (row r₀ r : List ℕ) (i : ℕ) : Type 0 where
  pub tables : Lent m ls ts
  pub given : Addable m t row r₀
  pub within : i ≤ length row
  pub filling : Filling (added m t row r₀) r₀ r i

pub adding-from : {m : ℕ} {ls ts : List ℕ} {t : ℕ} {row r : List ℕ} → Lent m ls ts → Addable m t row r → Adding m ls ts t row r r 0
adding-from {m} {ls} {ts} {t} {row} {r} l a = record {
  tables = l;
  given = a;
  within = omega arith;
  filling = fill-from (added m t row r) r (long-row m r (held m row) t (omega (arith, a.room, held-long m row)));
}

module _ {m : ℕ} {ls ts : List ℕ} {t : ℕ} {row r₀ r : List ℕ} {i : ℕ} (s : Adding m ls ts t row r₀ r i) where
  -- one more element
  pub adding-on : 0 < t → i < length row → Adding m ls ts t row r₀ (set r i (bit_xor (get_or r i 0) (get_or ts (get_or ls t 0 + get_or row i 0) 0))) (i + 1)
  adding-on p k =
      let q : List ℕ = map ((G m).mul t) (held m row) in
      let long : length q ≡ length row = length-map (held m row) ((G m).mul t) ∙ held-long m row in
      let room = s.given.room in
      let inside : i < length r₀ = omega arith in
      let short : length q ≤ length r₀ = omega arith in
      let at : i < length q = omega arith in
      record {
        tables = s.tables;
        given = s.given;
        within = omega arith;
        filling = fill_on s.filling inside
            (ap₂ bit_xor (fill-next s.filling inside)
            (row_at s.tables p s.given.element (s.given.logs.entry i k) ∙ ap ((G m).mul t) (sym (map_at (antilog_of (field_at m)) row i k))
            ∙ sym (map_at ((G m).mul t) (held m row) i (omega (arith, held-long m row))))
            ∙ sym (add_at m r₀ q i short at));
      }

  -- the product stands in the table
  pub adding-fits : 0 < t → i < length row → get_or ls t 0 + get_or row i 0 < length ts
  adding-fits p k = row_fits s.tables p s.given.element (s.given.logs.entry i k)

  -- what lies behind is as it was
  pub adding-end : length row ≤ i → r ≡ added m t row r₀
  adding-end h =
      let q : List ℕ = map ((G m).mul t) (held m row) in
      let long : length q ≡ length row = length-map (held m row) ((G m).mul t) ∙ held-long m row in
      let e : i ≡ length q = omega (arith, s.within) in
      let room = s.given.room in
      fill_stop s.filling (ap (λ n. drop n (added m t row r₀)) e ∙ add-rest m r₀ q (omega arith) ∙ ap (λ n. drop n r₀) (sym e))

-- nothing is added
pub row-skipped : {m : ℕ} {ls ts : List ℕ} {t : ℕ} {row r : List ℕ} → Lent m ls ts → Addable m t row r → t ≡ 0 → r ≡ added m t row r
row-skipped {m} {ls} {ts} {t} {row} {r} l a z =
    sym (ap (λ u. added m u row r) z
    ∙ add_none m (ring (field_at m) (field_of l).monic).mul-zero-l r (held m row) (omega (arith, a.room, held-long m row)))

-- ---- writing a row

-- the first i logs are written
pub record Writing (m : ℕ) (ls ts p r₀ r : List ℕ) (i : ℕ) : Type 0 where
  pub tables : Lent m ls ts
  pub given : Loggable m p r₀
  pub filling : Filling (log_row m p) r₀ r i

pub write-from : {m : ℕ} {ls ts p r : List ℕ} → Lent m ls ts → Loggable m p r → Writing m ls ts p r r 0
write-from {m} {ls} {ts} {p} {r} l g = record { tables = l; given = g; filling = fill-from (log_row m p) r (length-map p (log_of (field_at m)) ∙ g.room) }

module _ {m : ℕ} {ls ts p r₀ r : List ℕ} {i : ℕ} (w : Writing m ls ts p r₀ r i) where
  -- one more
  pub write-on : i < length p → Writing m ls ts p r₀ (set r i (get_or ls (get_or p i 0) 0)) (i + 1)
  write-on h = record {
    tables = w.tables;
    given = w.given;
    filling = fill_on w.filling (omega (arith, w.given.room))
        (log-at w.tables (below_at (2 ^ m) p w.given.small i h) ∙ sym (map_at (log_of (field_at m)) p i h));
  }

  -- a coefficient has its log
  pub write-fits : i < length p → get_or p i 0 < length ls
  write-fits h = logs-fit w.tables (below_at (2 ^ m) p w.given.small i h)

  pub write-end : length p ≤ i → r ≡ log_row m p
  write-end h = fill_end w.filling (omega (arith, w.given.room))
