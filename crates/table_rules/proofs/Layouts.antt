-- The layout of docs/RULES.md section 4.1 is lawful.
--   blocks-append, length-blocks   the slots of factors in turn
--   read-blocks, rest-blocks       what was written is read, and what is behind it remains
--   write-blocks                   what is read is what was written
--   BYFACTOR-LAWFUL                so it is lawful
-- Assumes nothing.
use mathlib.Core.Path.{◌≡◌, refl, sym, ap, ap₂, ◌∙◌}
use mathlib.Core.List.{List, [], ◌∷◌, ◌++◌, map, append_assoc}
use Prim.Native.Nat.{ℕ, zero, suc, ◌+◌, ◌*◌, ◌≤◌}
use native.Mathlib.Omega.{arith}
use lib.ListN.{length, take, drop, length-append, length-drop, take-append-drop}
use lib.Seq.{length-take-le, take-append_seam, drop-append_seam}
use Rattle.table_rules.specs.Layout.{Factor, degree_sum, StatedFactor, stated, factor_of, stated_sum, ReadsBack, Lawful, blocks, read_blocks, rest_blocks, by_factor}

-- ---- each factor in turn

-- one behind the other
pub blocks-append : (k l : List Factor) → blocks (k ++ l) ≡ blocks k ++ blocks l
unfolding blocks
blocks-append [] l = refl
blocks-append (e ∷ k) l = ap (λ u. e.0 ∷ length e.1 ∷ u) (ap (λ u. e.1 ++ u) (blocks-append k l) ∙ sym (append_assoc e.1 (blocks k) (blocks l)))

-- two slots and its coefficients for each
pub length-blocks : (l : List Factor) → length (blocks l) ≡ 2 * length l + degree_sum l
unfolding blocks degree_sum
length-blocks [] = refl
length-blocks (e ∷ l) = omega (arith, length-append e.1 (blocks l), length-blocks l)

-- a factor's coefficients, and what is behind them
take-first : (p k l : List ℕ) → take (length p) ((p ++ k) ++ l) ≡ p
take-first p k l = ap (take (length p)) (append_assoc p k l) ∙ take-append_seam p (k ++ l)

drop-first : (p k l : List ℕ) → drop (length p) ((p ++ k) ++ l) ≡ k ++ l
drop-first p k l = ap (drop (length p)) (append_assoc p k l) ∙ drop-append_seam p (k ++ l)

read-blocks : (fs : List Factor) (l : List ℕ) → read_blocks (length fs) (blocks fs ++ l) ≡ map stated fs
unfolding read_blocks blocks
read-blocks [] l = refl
read-blocks (e ∷ fs) l =
    ap₂ (λ (p : List ℕ) (k : List StatedFactor). record { level = e.0; degree = length e.1; coefficients = p } ∷ k) (take-first e.1 (blocks fs) l)
    (ap (read_blocks (length fs)) (drop-first e.1 (blocks fs) l) ∙ read-blocks fs l)

rest-blocks : (fs : List Factor) (l : List ℕ) → rest_blocks (length fs) (blocks fs ++ l) ≡ l
unfolding rest_blocks blocks
rest-blocks [] l = refl
rest-blocks (e ∷ fs) l = ap (rest_blocks (length fs)) (drop-first e.1 (blocks fs) l) ∙ rest-blocks fs l

write-blocks : (n : ℕ) (l : List ℕ) → 2 * n + stated_sum (read_blocks n l) ≤ length l → ReadsBack by_factor n l
unfolding read_blocks rest_blocks blocks stated_sum
write-blocks zero l h = record { whole = refl; exact = refl; count = refl }
write-blocks (suc n) [] h = absurd (omega arith)
write-blocks (suc n) (i ∷ []) h = absurd (omega arith)
write-blocks (suc n) (i ∷ d ∷ l) h =
    let long : length (take d l) ≡ d = length-take-le d l (omega arith) in
    let r : ReadsBack by_factor n (drop d l) = write-blocks n (drop d l) (omega (arith, length-drop d l)) in
    record {
      whole = ap₂ (λ (j : ℕ) (u : List ℕ). i ∷ j ∷ u) long
          (append_assoc (take d l) (blocks (map factor_of (read_blocks n (drop d l)))) (rest_blocks n (drop d l)) ∙ ap (λ u. take d l ++ u) r.whole ∙ take-append-drop d l);
      exact = ap₂ (λ (j : ℕ) (u : List StatedFactor). record { level = i; degree = j; coefficients = take d l } ∷ u) long r.exact;
      count = ap suc r.count;
    }

-- THE LAYOUT of RULES 4.1 is lawful
pub by_factor-lawful : Lawful by_factor
by_factor-lawful = record {
  unmark-mark = λ c. refl;
  mark-unmark = λ x h. refl;
  read-write = read-blocks;
  rest-write = rest-blocks;
  write_read = write-blocks;
  length-write = length-blocks;
}
