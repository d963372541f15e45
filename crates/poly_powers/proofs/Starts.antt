-- Powers and trace sums that start from bz.
--   start-row, start-one, start-room, start-asks   what the row and bz ask
--   start_is                           what is started
--   row_in, begun-fits, begun-long      where the row stands
--   low_fits, low_stands, low-started  and bz
--   begun-asks, begun-savable          what the squarings ask
--   begun-is, begun-saved              what is computed over the row is so over p
-- Assumes nothing.
use mathlib.Core.Path.{◌≡◌, sym, ap, ap₂, ◌∙◌, subst}
use mathlib.Core.List.{List, [], ◌∷◌, ◌++◌}
use Prim.Native.Nat.{ℕ, ◌^◌, ◌<◌, ◌*◌, ◌≤◌}
use native.Mathlib.Omega.{arith}
use lib.ListN.{length, take, drop, replicate, length-map, length-append}
use lib.Seq.{take_at, length-take-le}
use Rattle.algebra.specs.Polynomial.{Below}
use Rattle.algebra.specs.Routines.{rem}
use Rattle.algebra.proofs.Lengths.{length-rem}
use Rattle.algebra.proofs.StaysBelow.{rem_below}
use Rattle.field.specs.Field.{field_at, G}
use Rattle.field.specs.Tables.{log_of}
use Rattle.poly.specs.Lent.{Lent, LogRow, log_row, held}
use Rattle.poly.specs.Asking.{Loggable, Reducible}
use Rattle.input.specs.Limit.{limit}
use Rattle.poly_powers.specs.Asking.{Squarable, Startable, Savable}
use Rattle.poly_powers.specs.Powers.{Started, Saved}
use Rattle.poly.proofs.Logs.{numbers_of, held-row, row-is-row}

module _ {m : ℕ} {ls ts p w : List ℕ} (l : Lent m ls ts) (g : Startable m p w) where
  pub start-row : {row : List ℕ} → length p ≡ length row → Loggable m p row
  start-row h = record { small = g.small; room = h }

  -- 1 is an element
  pub start-one : 1 < 2 ^ m
  start-one = (numbers_of l).one_below

  -- the row is one
  row_of : {row : List ℕ} → row ≡ log_row m p → LogRow m row
  row_of e = subst (LogRow m) (sym e) (row-is-row l p g.small)

  row-long : {row : List ℕ} → row ≡ log_row m p → length row ≡ length p
  row-long e = ap length e ∙ length-map p (log_of (field_at m))

  -- and holds p
  whole : {row : List ℕ} → row ≡ log_row m p → held m row ≡ p
  whole e = ap (held m) e ∙ held-row l p g.small

  -- bz is a polynomial
  linear-small : {b : ℕ} → b < 2 ^ m → Below (2 ^ m) (0 ∷ b ∷ [])
  linear-small h = ((numbers_of l).zero-below, (h, tt))

  pub start-asks : {b : ℕ} {row : List ℕ} → b < 2 ^ m → row ≡ log_row m p → Reducible m row (0 ∷ b ∷ []) w
  start-asks h e = record { logs = row_of e; small = linear-small h; room = g.room ∙ sym (row-long e) }

  -- bz has its room
  pub start-room : Startable m p (take (length p) (replicate limit 0))
  start-room = record { small = g.small; few = g.few; room = length-take-le (length p) (replicate limit 0) (omega (arith, g.few)) }

  pub start_is : {b : ℕ} {row w₁ : List ℕ} → row ≡ log_row m p → w₁ ≡ rem (G m) (held m row) (0 ∷ b ∷ []) → Started m p b row w₁
  start_is {b} e d = record { row_is = e; low = d ∙ ap (λ u. rem (G m) u (0 ∷ b ∷ [])) (whole e) }

-- ---- over a row at the front of its room

-- where n numbers stand in room for as many as there can be
abbrev pub row_in : ℕ → List ℕ → List ℕ
row_in n y = take n (y ++ drop n (replicate limit 0))

module _ {m : ℕ} {ls ts p w : List ℕ} (l : Lent m ls ts) (g : Startable m p w) {b : ℕ} {y w₁ : List ℕ} (s : Started m p b y w₁) where
  -- it is there
  pub begun-fits : length p ≤ length (y ++ drop (length p) (replicate limit 0))
  begun-fits = omega (arith, row-long l g s.row_is, length-append y (drop (length p) (replicate limit 0)))

  begun-row : row_in (length p) y ≡ log_row m p
  begun-row = take_at y (drop (length p) (replicate limit 0)) (length p) (row-long l g s.row_is) ∙ s.row_is

  pub begun-long : length (row_in (length p) y) ≡ length p
  begun-long = row-long l g begun-row

  -- and so is bz, where it is written to such room
  pub low_fits : length p ≤ length (w₁ ++ drop (length p) (replicate limit 0))
  low_fits = omega (arith, ap length s.low, length-rem (G m) p (0 ∷ b ∷ []), length-append w₁ (drop (length p) (replicate limit 0)))

  low_stands : row_in (length p) w₁ ≡ w₁
  low_stands = take_at w₁ (drop (length p) (replicate limit 0)) (length p) (ap length s.low ∙ length-rem (G m) p (0 ∷ b ∷ []))

  pub low-started : Started m p b y (row_in (length p) w₁)
  low-started = record { row_is = s.row_is; low = low_stands ∙ s.low }

  -- what the squarings ask
  pub begun-asks : b < 2 ^ m → Squarable m (row_in (length p) y) w₁
  begun-asks h = record {
    logs = row_of l g begun-row;
    small = subst (Below (2 ^ m)) (sym s.low) (rem_below (numbers_of l) p (0 ∷ b ∷ []) g.small (linear-small l g h));
    few = omega (arith, begun-long, g.few);
    long = ap length s.low ∙ length-rem (G m) p (0 ∷ b ∷ []) ∙ sym begun-long;
  }

  -- what is computed over the row is so over p
  pub begun-is : {r : List ℕ} (φ : List ℕ → List ℕ → List ℕ) → r ≡ φ (held m (row_in (length p) y)) w₁ → r ≡ φ p (rem (G m) p (0 ∷ b ∷ []))
  begun-is φ f = f ∙ ap₂ φ (whole l g begun-row) s.low

  -- the powers of z can be written
  pub begun-savable : {k : ℕ} {rows : List ℕ} → b < 2 ^ m → k * length p ≤ length rows → Savable m (row_in (length p) y) k w₁ rows
  begun-savable {k} {rows} h r = record { squarable = begun-asks h; room-rows = subst (λ n. k * n ≤ length rows) (sym begun-long) r }

  -- and are those modulo p
  pub begun-saved : {k : ℕ} {w' rows : List ℕ} → Saved m (held m (row_in (length p) y)) k w₁ w' rows → Saved m p k (rem (G m) p (0 ∷ b ∷ [])) w' rows
  begun-saved {k} {w'} {rows} v = subst (λ u. Saved m u k (rem (G m) p (0 ∷ b ∷ [])) w' rows) (whole l g begun-row) (subst (λ u. Saved m (held m (row_in (length p) y)) k u w' rows) s.low v)
