-- Taking z + r out of a polynomial in place: what holds at each turn.
--   Removing                        e times it was taken out, and what is left stands from e on
--   removing-from, removing-asks, removing-stop, removing-divides, removing-on, removing-end
--                                   the start, what the value asks, the end at a value that is not 0, what the
--                                   division asks, a turn, the end where nothing is left
-- Assumes nothing.
use mathlib.Core.Path.{◌≡◌, refl, sym, ap, ap₂, ◌∙◌, subst}
use mathlib.Core.Logic.{◌≢◌}
use mathlib.Core.List.{List, [], ◌∷◌, ◌++◌}
use Prim.Native.Nat.{ℕ, ◌+◌, ◌-◌, ◌^◌, ◌≤◌, ◌<◌}
use native.Mathlib.Omega.{arith}
use borrow.Author.Tests.{eq-eqb, ne_eqb}
use lib.ListN.{length, get_or, take, drop, length-append, length-drop, drop_of_length-le}
use lib.Seq.{length-take-le, drop-append-add}
use Rattle.algebra.specs.Polynomial.{Below, eval}
use Rattle.algebra.specs.Multiplicity.{left, left_in, multiplicity, quotient_by, times_out}
use Rattle.algebra.proofs.Multiplicity.{turn-root, turn-none}
use Rattle.algebra.proofs.NumberMultiplicity.{quotient_by-below}
use Rattle.field.specs.Field.{G}
use Rattle.poly.specs.Lent.{Lent, LogRow, held, log_row}
use Rattle.poly.specs.Asking.{Divisible}
use Rattle.poly.specs.Division.{divided}
use Rattle.poly.proofs.Logs.{held-row, log-at, numbers_of, row-is-row}
use Rattle.poly.proofs.Parts.{part-rest, part_none}
use Rattle.poly.proofs.Divisions.{divided-behind, length-divided}
use Rattle.find_multiplicities.specs.Counting.{Removable, Removed}

-- e times it was taken out, and what is left stands from e on
pub record Removing (m r : ℕ) (ls ts row f₀ f : List ℕ) (e : ℕ) : Type 0 where
  pub tables : Lent m ls ts
  pub given : Removable m r f₀
  pub row_is : row ≡ log_row m (r ∷ [])
  pub within : e ≤ length f
  pub long : length f ≡ length f₀
  pub small : Below (2 ^ m) (drop e f)
  pub count : e + multiplicity (G m) (drop e f) r ≡ multiplicity (G m) f₀ r
  pub rest : left (G m) (drop e f) r ≡ left (G m) f₀ r

-- the row holds the log of r
pub removing-from : {m r : ℕ} {ls ts f : List ℕ} → Lent m ls ts → Removable m r f → Removing m r ls ts (get_or ls r 0 ∷ []) f f 0
removing-from {m} {r} {ls} {ts} {f} l g = record {
  tables = l;
  given = g;
  row_is = ap (λ x. x ∷ []) (log-at l g.element);
  within = omega arith;
  long = refl;
  small = g.small;
  count = omega arith;
  rest = refl;
}

module _ {m r : ℕ} {ls ts row f₀ f : List ℕ} {e : ℕ} (s : Removing m r ls ts row f₀ f e) where
  -- what stands from e on, as code lends it
  part : take (length f - e) (drop e f) ≡ drop e f
  part = part-rest e f

  -- what the value asks
  pub removing-asks : Below (2 ^ m) (take (length f - e) (drop e f)) × (r < 2 ^ m)
  removing-asks = (subst (Below (2 ^ m)) (sym part) s.small, s.given.element)

  -- the end at a value that is not 0
  pub removing-stop : {v : ℕ} → v ≡ eval (G m) (take (length f - e) (drop e f)) r → v ≢ 0 → Removed m r f₀ e f
  removing-stop {v} h n =
      let t = turn-none (G m) (drop e f) r (ne_eqb (eval (G m) (drop e f) r) 0 (λ z. n (h ∙ ap (λ l. eval (G m) l r) part ∙ z))) in
      let w = s.within in
      let l = s.long in
      record { count = omega (arith, s.count, t.0); within = omega arith; rest = sym t.1 ∙ s.rest }

  row-long : length row ≡ 1
  row-long = ap length s.row_is

  -- what the division asks
  pub removing-divides : e < length f → Divisible m row (take (length f - e) (drop e f))
  removing-divides l = record {
    logs = subst (LogRow m) (sym s.row_is) (row-is-row s.tables (r ∷ []) (s.given.element, tt));
    small = subst (Below (2 ^ m)) (sym part) s.small;
    room = rw part-rest (omega (arith, row-long, length-drop e f));
  }

  -- a turn takes z + r out once more
  pub removing-on : {v : ℕ} {y : List ℕ} → e < length f → v ≡ eval (G m) (take (length f - e) (drop e f)) r → v ≡ 0
      → y ≡ divided m (held m row) (take (length f - e) (drop e f))
      → Removing m r ls ts row f₀ (take e f ++ (y ++ drop (length f - e) (drop e f))) (e + 1)
  unfolding quotient_by
  removing-on {v} {y} l h z d =
      let g : List ℕ = drop e f in
      let p : held m row ≡ r ∷ [] = ap (held m) s.row_is ∙ held-row s.tables (r ∷ []) (s.given.element, tt) in
      let w : y ≡ divided m (r ∷ []) g = d ∙ ap₂ (λ (a b : List ℕ). divided m a b) p part in
      let whole : take e f ++ (y ++ drop (length f - e) (drop e f)) ≡ take e f ++ divided m (r ∷ []) g = ap (λ u. take e f ++ u) (part_none e f y ∙ w) in
      let front : length (take e f) ≡ e = length-take-le e f (omega arith) in
      let n : length g ≡ length f - e = length-drop e f in
      let behind : drop (e + 1) (take e f ++ divided m (r ∷ []) g) ≡ quotient_by (G m) r g =
      ap (λ i. drop (i + 1) (take e f ++ divided m (r ∷ []) g)) (sym front) ∙ drop-append-add (take e f) (divided m (r ∷ []) g) 1 ∙ divided-behind m (r ∷ []) g refl in
      let rest : drop (e + 1) (take e f ++ (y ++ drop (length f - e) (drop e f))) ≡ quotient_by (G m) r g = ap (drop (e + 1)) whole ∙ behind in
      let t = turn-root (G m) g r (omega arith) (eq-eqb (eval (G m) g r) 0 (sym (ap (λ u. eval (G m) u r) part) ∙ sym h ∙ z)) in
      let long : length (take e f ++ (y ++ drop (length f - e) (drop e f))) ≡ length f =
      ap length whole ∙ omega (arith, length-append (take e f) (divided m (r ∷ []) g), front, n, length-divided s.tables (r ∷ []) g (omega arith)) in
      record {
        tables = s.tables;
        given = s.given;
        row_is = s.row_is;
        within = omega arith;
        long = long ∙ s.long;
        small = subst (Below (2 ^ m)) (sym rest) (quotient_by-below (numbers_of s.tables) r g s.given.element s.small);
        count = ap (λ u. e + 1 + multiplicity (G m) u r) rest ∙ omega (arith, s.count, t.0);
        rest = ap (λ u. left (G m) u r) rest ∙ sym t.1 ∙ s.rest;
      }

  -- the end where nothing is left
  pub removing-end : length f ≤ e → Removed m r f₀ e f
  unfolding times_out left_in
  removing-end l =
      let none : drop e f ≡ [] = drop_of_length-le f {i = e} l in
      let w = s.within in
      let n = s.long in
      let zero : multiplicity (G m) (drop e f) r ≡ 0 = ap (λ u. multiplicity (G m) u r) none in
      record {
        count = omega (arith, s.count, zero);
        within = omega arith;
        rest = none ∙ sym (ap (λ u. left (G m) u r) none) ∙ s.rest;
      }
