-- The roots and the numbers beside them in one pass.
--   Tallying       at each turn the answer for all is the answer for what lies ahead
--   tally-from, tally-low, tally-none, tally-over, tally-on, tally-end
--                  the start, each way out, a turn and the end
--   Tallied, tallies-yes, tallies-all   what the answer says;  tally-unpaired   no lists of two lengths
-- Assumes nothing.
use mathlib.Core.Path.{◌≡◌, refl, sym, ap, ap₂, ◌∙◌}
use mathlib.Core.Bool.{Bool, true, false, ◌&&◌}
use mathlib.Core.List.{List, [], ◌∷◌}
use Prim.Native.Nat.{ℕ, suc, ◌+◌, ◌-◌, ◌≤◌, ◌<◌}
use native.Mathlib.Numerals.{add-one}
use native.Mathlib.Omega.{arith}
use borrow.Author.Tests.{eqb-true, eq-eqb, le-leb, le-ltb, leb-true, lt-leb, lt-ltb, ltb-true}
use lib.Dec.{eqb, leb, ltb}
use lib.ListN.{drop, drop_of_length-le, get_or, length}
use lib.Seq.{drop-cons}
use Rattle.algebra.specs.Multiplicity.{total}
use Rattle.algebra.specs.Trial.{All, Ascending}
use Rattle.claims.specs.Checking.{tallies}

pub record Tallying (roots es : List ℕ) (n least left i : ℕ) : Type 0 where
  pub within : i ≤ length roots
  pub inside : i ≤ length es
  pub ahead : tallies 0 n roots es ≡ tallies least left (drop i roots) (drop i es)

pub tally-from : (roots es : List ℕ) (n : ℕ) → Tallying roots es n 0 n 0
tally-from roots es n = record { within = omega arith; inside = omega arith; ahead = refl }

module _ {roots es : List ℕ} {n least left i : ℕ} (t : Tallying roots es n least left i) where
  -- what is to be asked of the next root
  next : i < length roots → i < length es
      → tallies 0 n roots es
      ≡ (leb least (get_or roots i 0) && (ltb 0 (get_or es i 0) && (leb (get_or es i 0) left
      && tallies (suc (get_or roots i 0)) (left - get_or es i 0) (drop (suc i) roots) (drop (suc i) es))))
  unfolding tallies
  next a b = t.ahead ∙ ap₂ (tallies least left) (drop-cons roots i 0 a) (drop-cons es i 0 b)

  -- four tests in a row
  rest : Bool
  rest = tallies (suc (get_or roots i 0)) (left - get_or es i 0) (drop (suc i) roots) (drop (suc i) es)

  asked : {x y z : Bool} → i < length roots → i < length es → leb least (get_or roots i 0) ≡ x → ltb 0 (get_or es i 0) ≡ y → leb (get_or es i 0) left ≡ z
      → tallies 0 n roots es ≡ (x && (y && (z && rest)))
  unfolding rest
  asked {x} {y} {z} a b p q r =
      next a b ∙ ap (λ w. w && (ltb 0 (get_or es i 0) && (leb (get_or es i 0) left && rest))) p ∙ ap (λ w. x && (w && (leb (get_or es i 0) left && rest))) q
      ∙ ap (λ w. x && (y && (w && rest))) r

  -- it is too low
  pub tally-low : i < length roots → i < length es → get_or roots i 0 < least → false ≡ tallies 0 n roots es
  tally-low a b l = sym (asked a b (lt-leb least (get_or roots i 0) l) refl refl)

  module _ (a : i < length roots) (b : i < length es) (l : least ≤ get_or roots i 0) where
    -- the number beside it is 0
    pub tally-none : get_or es i 0 ≡ 0 → false ≡ tallies 0 n roots es
    tally-none z = sym (asked a b (le-leb least (get_or roots i 0) l) (le-ltb 0 (get_or es i 0) (omega arith)) refl)

    module _ (k : (get_or es i 0 ≡ 0) → ⊥) where
      -- it is more than is left
      pub tally-over : left < get_or es i 0 → false ≡ tallies 0 n roots es
      tally-over o = sym (asked a b (le-leb least (get_or roots i 0) l) (lt-ltb 0 (get_or es i 0) (omega arith)) (lt-leb (get_or es i 0) left o))

      -- the next turn
      pub tally-on : get_or es i 0 ≤ left → Tallying roots es n (get_or roots i 0 + 1) (left - get_or es i 0) (i + 1)
      unfolding rest
      tally-on o = record {
        within = omega arith;
        inside = omega arith;
        ahead = asked a b (le-leb least (get_or roots i 0) l) (lt-ltb 0 (get_or es i 0) (omega arith)) (le-leb (get_or es i 0) left o)
            ∙ ap₂ (λ r j. tallies r (left - get_or es i 0) (drop j roots) (drop j es)) (sym (add-one (get_or roots i 0))) (sym (add-one i));
      }

  -- all were asked
  pub tally-end : length roots ≤ i → length es ≤ i → eqb left 0 ≡ tallies 0 n roots es
  unfolding tallies
  tally-end a b = sym (t.ahead ∙ ap₂ (tallies least left) (drop_of_length-le roots a) (drop_of_length-le es b))

-- what the answer says
pub record Tallied (k n : ℕ) (roots es : List ℕ) : Type 0 where
  pub paired : length roots ≡ length es
  pub from : All (λ r. k ≤ r) roots
  pub ascending : Ascending roots
  pub least : All (λ e. 1 ≤ e) es
  pub sum : total es ≡ n

-- two tests at once
both : (a b : Bool) → (a && b) ≡ true → (a ≡ true) × (b ≡ true)
both true b e = (refl, e)
both false b e = let z : ◌≡◌ {A = ℕ} 0 1 = cc in absurd (omega arith)

-- a higher bound
higher : {j k : ℕ} (l : List ℕ) → j ≤ k → All (λ r. k ≤ r) l → All (λ r. j ≤ r) l
higher [] h a = tt
higher (x ∷ l) h a = (omega (arith, a.0), higher l h a.1)

-- what a yes says
pub tallies-yes : (k n : ℕ) (roots es : List ℕ) → tallies k n roots es ≡ true → Tallied k n roots es
unfolding tallies total
tallies-yes k n [] [] e = record { paired = refl; from = tt; ascending = tt; least = tt; sum = sym (eqb-true n 0 e) }
tallies-yes k n [] (x ∷ es) e = let z : ◌≡◌ {A = ℕ} 0 1 = cc in absurd (omega arith)
tallies-yes k n (r ∷ s) [] e = let z : ◌≡◌ {A = ℕ} 0 1 = cc in absurd (omega arith)
tallies-yes k n (r ∷ s) (x ∷ es) e =
    let a = both (leb k r) _ e in
    let b = both (ltb 0 x) _ a.1 in
    let c = both (leb x n) _ b.1 in
    let low : k ≤ r = leb-true k r a.0 in
    let t = tallies-yes (suc r) (n - x) s es c.1 in
    record {
      paired = ap suc t.paired;
      from = (low, higher s (omega arith) t.from);
      ascending = (t.from, t.ascending);
      least = (ltb-true 0 x b.0, t.least);
      sum = omega (arith, t.sum, leb-true x n c.0);
    }

-- and it is said wherever that holds
pub tallies-all : (k n : ℕ) (roots es : List ℕ) → Tallied k n roots es → tallies k n roots es ≡ true
unfolding tallies total
tallies-all k n [] [] t = eq-eqb n 0 (sym t.sum)
tallies-all k n [] (x ∷ es) t = absurd (omega (arith, t.paired))
tallies-all k n (r ∷ s) [] t = absurd (omega (arith, t.paired))
tallies-all k n (r ∷ s) (x ∷ es) t =
    let rec : tallies (suc r) (n - x) s es ≡ true = tallies-all (suc r) (n - x) s es (record {
      paired = omega (arith, t.paired);
      from = t.ascending.0;
      ascending = t.ascending.1;
      least = t.least.1;
      sum = omega (arith, t.sum);
    }) in
    let low : leb k r ≡ true = le-leb k r t.from.0 in
    let some : ltb 0 x ≡ true = lt-ltb 0 x t.least.0 in
    let fits : leb x n ≡ true = le-leb x n (omega (arith, t.sum)) in
    ap₂ (λ a b. a && (b && (leb x n && tallies (suc r) (n - x) s es))) low some ∙ ap₂ (λ a b. a && b) fits rec

-- lists that are not equally long have none
pub tally-unpaired : (k n : ℕ) (roots es : List ℕ) → (length roots ≡ length es → ⊥) → false ≡ tallies k n roots es
tally-unpaired k n roots es h = go (tallies k n roots es) refl
  where
    go : (b : Bool) → tallies k n roots es ≡ b → false ≡ b
    go true e = absurd (h (tallies-yes k n roots es e).paired)
    go false e = refl
