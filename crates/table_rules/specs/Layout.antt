-- How the factors of a work table stand in its slots. A layout says how cutoff and factors are written, and how slots
-- are read.
--   Factor     an entry of the table: its level, and its coefficients below the leading 1, constant first
--   factor_slots  the slots in front of a factor's coefficients: its level and its degree
--   degree_sum  s, the sum of the factors' degrees
--   StatedFactor     what slots state of a factor: level, degree, and the slots of that many coefficients
--   stated     what is to be stated of a factor;  factor_of  the factor so stated
--   stated_sum  the sum of the stated degrees
--   Layout     how it is written and read
--   Lawful     writing and reading undo each other, and factors take two slots and their coefficients
--              each;  ReadsBack  what reading finds where n factors fit in
--   by_factor   the layout of RULES 4.1: each factor's level, degree and coefficients in turn
--   fair_blocks the rules for n factors and the slots behind them in one pass, as code goes: `left` is what the degrees
--   may still sum up to
-- Assumes nothing.
use Rattle.std.specs.Prelude.{◌≡◌, Bool, ◌&&◌, List, [], ◌∷◌, ◌++◌, map, ℕ, zero, suc, ◌+◌, ◌-◌, ◌*◌, ◌^◌, ◌≤◌, leb, length, get_or, take, drop}
use Rattle.slices.specs.Bounded.{all_below, all_zero}
use Rattle.table_rules.specs.Entries.{Entry}

abbrev pub Factor : Type 0
Factor = Entry ℕ

abbrev pub factor_slots : ℕ
factor_slots = 2

unfoldable pub degree_sum : List Factor → ℕ
degree_sum [] = 0
degree_sum (e ∷ l) = length e.1 + degree_sum l

pub record StatedFactor : Type 0 where
  pub level : ℕ
  pub degree : ℕ
  pub coefficients : List ℕ

abbrev pub stated : Factor → StatedFactor
stated e = record { level = e.0; degree = length e.1; coefficients = e.1 }

abbrev pub factor_of : StatedFactor → Factor
factor_of f = (f.level, f.coefficients)

unfoldable pub stated_sum : List StatedFactor → ℕ
stated_sum [] = 0
stated_sum (f ∷ fs) = f.degree + stated_sum fs

pub record Layout : Type 0 where
  -- slot 1 of a cutoff, and the cutoff of slot 1
  pub mark : ℕ → ℕ
  pub unmark : ℕ → ℕ
  -- the slots of factors
  pub write : List Factor → List ℕ
  -- what slots state of n factors, and the slots that remain behind them
  pub read : ℕ → List ℕ → List StatedFactor
  pub rest : ℕ → List ℕ → List ℕ

-- what is read is what is stated of the factors read, and written again they are the front of l
pub record ReadsBack (Y : Layout) (n : ℕ) (l : List ℕ) : Type 0 where
  pub whole : Y.write (map factor_of (Y.read n l)) ++ Y.rest n l ≡ l
  pub exact : map stated (map factor_of (Y.read n l)) ≡ Y.read n l
  pub count : length (Y.read n l) ≡ n

pub record Lawful (Y : Layout) : Type 0 where
  pub unmark-mark : (c : ℕ) → Y.unmark (Y.mark c) ≡ c
  pub mark-unmark : (x : ℕ) → 1 ≤ Y.unmark x → Y.mark (Y.unmark x) ≡ x
  pub read-write : (fs : List Factor) (l : List ℕ) → Y.read (length fs) (Y.write fs ++ l) ≡ map stated fs
  pub rest-write : (fs : List Factor) (l : List ℕ) → Y.rest (length fs) (Y.write fs ++ l) ≡ l
  pub write_read : (n : ℕ) (l : List ℕ) → factor_slots * n + stated_sum (Y.read n l) ≤ length l → ReadsBack Y n l
  pub length-write : (fs : List Factor) → length (Y.write fs) ≡ factor_slots * length fs + degree_sum fs

-- ---- each factor in turn

unfoldable pub blocks : List Factor → List ℕ
blocks [] = []
blocks (e ∷ l) = e.0 ∷ length e.1 ∷ e.1 ++ blocks l

-- what is behind the factor at the front
abbrev pub behind_factor : List ℕ → List ℕ
behind_factor l = drop (get_or l 1 0) (drop factor_slots l)

unfoldable pub read_blocks : ℕ → List ℕ → List StatedFactor
read_blocks zero l = []
read_blocks (suc n) l =
    record { level = get_or l 0 0; degree = get_or l 1 0; coefficients = take (get_or l 1 0) (drop factor_slots l) }
    ∷ read_blocks n (behind_factor l)

unfoldable pub rest_blocks : ℕ → List ℕ → List ℕ
rest_blocks zero l = l
rest_blocks (suc n) l = rest_blocks n (behind_factor l)

abbrev pub by_factor : Layout
by_factor = record { mark = λ c. c; unmark = λ x. x; write = blocks; read = read_blocks; rest = rest_blocks }

-- ---- in one pass

-- the factor at the front: level at most m, degree from 1 to `left`, coefficients below 2^m
abbrev pub fair_front : ℕ → ℕ → List ℕ → Bool
fair_front m left l = leb (get_or l 0 0) m && leb 1 (get_or l 1 0) && leb (get_or l 1 0) left
    && all_below (2 ^ m) (take (get_or l 1 0) (drop factor_slots l))

unfoldable pub fair_blocks : ℕ → ℕ → ℕ → List ℕ → Bool
fair_blocks m left zero l = all_zero l
fair_blocks m left (suc n) l = fair_front m left l && fair_blocks m (left - get_or l 1 0) n (behind_factor l)
