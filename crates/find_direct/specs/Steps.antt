-- The steps of a list of roots of field 11, counted without a table (docs/RULES.md section 4.6).
--   trace_word x    the trace bits of x as a number: digit 10 - i is Tr(a^i x)
--   under k p rs   the group of the roots whose trace words have the digits p from place k on
--   steps_under     how many groups of more than c there are: this one, and those that it falls into at the places
--                  below k
--   Counted        what a count of them is lent: a group, and how many are in it
-- Assumes nothing.
use Rattle.std.specs.Prelude.{◌≡◌, cond, List, ℕ, zero, suc, ◌+◌, ◌-◌, ◌*◌, ◌/◌, ◌%◌, ◌^◌, ◌≤◌, ◌<◌, eqb, ltb, length}
use Rattle.std.specs.Int.Bits.{bit_xor}
use Rattle.algebra.specs.Trial.{keep}

-- Tr(a^k) is 1 for k = 0, 9, 11 and 18, of those up to 20: so digit j of x counts where i + j is one of these
unfoldable pub trace_word : ℕ → ℕ
trace_word x = bit_xor (bit_xor (bit_xor (x / 2) (x % 1024 * 2)) (x / 256)) (x % 2 * 1024) % 2048

abbrev pub under : ℕ → ℕ → List ℕ → List ℕ
under k p = keep (λ x. eqb (trace_word x / 2 ^ k) p)

unfoldable pub steps_under : ℕ → List ℕ → ℕ → ℕ → ℕ
steps_under c rs zero p = 0
steps_under c rs (suc k) p =
    cond (ltb c (length (under (suc k) p rs))) (suc (steps_under c rs k (p * 2) + steps_under c rs k (p * 2 + 1))) 0

pub record Counted (rs : List ℕ) (k p n : ℕ) : Type 0 where
  pub place : k ≤ 11
  pub digits : p < 2 ^ (11 - k)
  pub count : n ≡ length (under k p rs)
