-- Finish, as its routines come to it.
--   Mergeable   a factor of degree at most the highest cutoff can be solved, and its roots have room behind n others
--   RootsIn     the roots of monic p were merged into the first n elements of a list
--   Lendable    a sound table that is done, and a list with room for its roots
--   Listable    the same with the quadratic table of its field
--   ListedIn    the list that finish makes stands in front, and k elements are in it
-- Assumes nothing.
use Rattle.std.specs.Prelude.{◌≡◌, ◌↔◌, true, ℕ, ◌+◌, ◌^◌, ◌≤◌, length}
use mathlib.Core.List.{List, Memᴰ}
use Rattle.algebra.specs.Polynomial.{Below}
use Rattle.algebra.specs.Routines.{monic}
use Rattle.slices.specs.Lists.{copied}
use Rattle.slices.specs.Ordered.{Merged}
use Rattle.field.specs.Field.{field_at, G, roots_at}
use Rattle.field.specs.Tables.{Halves}
use Rattle.input.specs.Cutoff.{highest_cutoff}
use Rattle.input.specs.Limit.{limit}
use Rattle.table_rules.specs.Layout.{by_factor}
use Rattle.table_rules.specs.Splitting.{slots_done, slots_roots}
use Rattle.table_rules.specs.Sizes.{is_sound}
use Rattle.table_slots.specs.Slots.{width_of}

-- room for as many roots as its degree
pub record Mergeable (m : ℕ) (hs p roots : List ℕ) (n : ℕ) : Type 0 where
  pub halves : Halves (field_at m) hs
  pub small : Below (2 ^ m) p
  pub low : length p ≤ highest_cutoff
  pub room : n + length p ≤ length roots

-- in whatever order they came
pub record RootsIn (m : ℕ) (p : List ℕ) (n : ℕ) (s : List ℕ) (k : ℕ) (s' : List ℕ) : Type 0 where
  pub roots : List ℕ
  pub few : length roots ≤ length p
  pub members : (x : ℕ) → Memᴰ x roots ↔ Memᴰ x (roots_at m (monic (G m) p))
  pub merged : Merged n roots s k s'

-- as the tests found it
pub record Lendable (table roots : List ℕ) : Type 0 where
  pub sound : is_sound table ≡ true
  pub done : slots_done by_factor table ≡ true
  pub room : limit ≤ length roots

-- of degree m
pub record Listable (m : ℕ) (hs table roots : List ℕ) : Type 0 where
  pub given : Lendable table roots
  pub width : m ≡ width_of table
  pub halves : Halves (field_at m) hs

-- the count, and every slot of the list
pub record ListedIn (table roots : List ℕ) (k : ℕ) (roots' : List ℕ) : Type 0 where
  pub few : k ≤ limit
  pub count : k ≡ length (slots_roots by_factor table)
  pub slots : roots' ≡ copied (slots_roots by_factor table) roots
