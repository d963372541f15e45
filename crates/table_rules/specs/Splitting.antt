-- Begin, a step and finish on the work table (docs/RULES.md sections 4.2 to 4.4). On tables as they are meant, over
-- the field's operations G, its degree m and its element a; then on slots, in the known field of degree slot 0, where
-- a is 2.
--   trace_bit      the trace bit of x at level i, Tr(a^i x)
--   trace_halving  the halving of a factor P at level i: the monic greatest common divisor g of P and Tr(a^i z), and h
--                 = P/g
--   is_done        is no factor above the cutoff?
--   stuck         refusal 9: some factor is above the cutoff, and the first such has level m or slot 3 is already at
--                 its limit
--   step_table     a step that is taken;  table_after  the table after n of them
--   begun_table    the table that begin writes: the one factor p at level 0, or none where p is constant
--   grouped_table  the table told by groups: after n steps on groups, the factors are the products over them
--   some_zero      is some factor 0 at x?
--   finished      the list that finish makes: every element at which some factor is 0, ascending and once each
-- and on slots, over the layout:
--   trace_bit_at, halving_at   the trace bits and the halving in the field of degree m
--   slots_done, slots_stuck       the tests of a step;  slots_stepped  the slots after one;  slots_after  after n
--   slots_begun                  the slots that begin writes for a polynomial;  slots_roots  the list that finish makes
-- Assumes nothing.
use Rattle.std.specs.Prelude.{Bool, false, not, ◌&&◌, ◌||◌, List, [], ◌∷◌, map, ℕ, zero, suc, ◌^◌, eqb, length}
use Rattle.algebra.specs.Field.{Ops, power, trace}
use Rattle.algebra.specs.Trial.{keep, up_from}
use Rattle.algebra.specs.Polynomial.{is_root, trace_of}
use Rattle.algebra.specs.Routines.{monic, gcd, cofactor, monic_roots}
use Rattle.field.specs.Field.{G, roots_at}
use Rattle.table_rules.specs.Entries.{Halving, unless_empty, entry_at, first_above, done, step, carry}
use Rattle.table_rules.specs.Groups.{reached}
use Rattle.table_rules.specs.Layout.{Factor, Layout}
use Rattle.table_rules.specs.Table.{Table, limit_of, encode, decode}

module _ {K : Type 0} (F : Ops K) (m : ℕ) (a : K) where
  abbrev pub trace_bit : ℕ → K → Bool
  trace_bit i x = not (F.is_zero (trace F m (F.mul (power F a i) x)))

  abbrev pub trace_halving : Halving K
  trace_halving = record {
    low = λ i p. gcd F p (trace_of F m (power F a i));
    high = λ i p. cofactor F p (gcd F p (trace_of F m (power F a i)));
  }

-- ---- steps

abbrev pub is_done : Table → Bool
is_done t = done t.cutoff t.factors

-- the first factor above the cutoff
abbrev pub first_factor : Table → Factor
first_factor t = entry_at t.factors (first_above t.cutoff t.factors)

abbrev pub stuck : Table → Bool
stuck t = not (is_done t) && (eqb (first_factor t).0 t.width || eqb t.taken (limit_of t))

-- the first factor above the cutoff is replaced by its parts, and slot 3 grows by 1
abbrev pub step_table : Halving ℕ → Table → Table
step_table H t = record {
  width = t.width;
  cutoff = t.cutoff;
  taken = suc t.taken;
  factors = step H t.cutoff t.factors;
}

unfoldable pub table_after : Halving ℕ → ℕ → Table → Table
table_after H zero t = t
table_after H (suc n) t = table_after H n (step_table H t)

-- ---- begun tables

abbrev pub begun_table : ℕ → ℕ → List ℕ → Table
begun_table m c p = record { width = m; cutoff = c; taken = 0; factors = unless_empty 0 p }

abbrev pub grouped_table : Ops ℕ → ℕ → ℕ → ℕ → List ℕ → ℕ → Table
grouped_table G m a c roots n = record {
  width = m;
  cutoff = c;
  taken = n;
  factors = map (carry (monic_roots G)) (reached (trace_bit G m a) c roots n);
}

-- ---- finish

unfoldable pub some_zero : Ops ℕ → List Factor → ℕ → Bool
some_zero G [] x = false
some_zero G (e ∷ l) x = is_root G (monic G e.1) x || some_zero G l x

abbrev pub finished : Ops ℕ → Table → List ℕ
finished G t = keep (some_zero G t.factors) (up_from 0 (2 ^ t.width))

-- ---- in the known fields, on slots

abbrev pub trace_bit_at : ℕ → ℕ → ℕ → Bool
trace_bit_at m = trace_bit (G m) m 2

abbrev pub halving_at : ℕ → Halving ℕ
halving_at m = trace_halving (G m) m 2

module _ (Y : Layout) where
  unfoldable pub slots_done : List ℕ → Bool
  slots_done l = is_done (decode Y l)

  unfoldable pub slots_stuck : List ℕ → Bool
  slots_stuck l = stuck (decode Y l)

  -- a table keeps its size
  unfoldable pub slots_stepped : List ℕ → List ℕ
  slots_stepped l = encode Y (length l) (step_table (halving_at (decode Y l).width) (decode Y l))

  unfoldable pub slots_after : ℕ → List ℕ → List ℕ
  slots_after zero l = l
  slots_after (suc n) l = slots_after n (slots_stepped l)

  -- one factor, level 0, the product of z + r over all distinct roots, or no factor if there is no root
  unfoldable pub slots_begun : ℕ → ℕ → ℕ → List ℕ → List ℕ
  slots_begun slots m c f = encode Y slots (begun_table m c (monic_roots (G m) (roots_at m f)))

  unfoldable pub slots_roots : List ℕ → List ℕ
  slots_roots l = finished (G (decode Y l).width) (decode Y l)
