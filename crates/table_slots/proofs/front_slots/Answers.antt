-- `table_slots::front_slots` meets its contract: each return says which test of `fair_front` failed.
-- Assumes nothing.
use mathlib.Core.Path.{◌≡◌, sym, ap, ◌∙◌}
use mathlib.Core.Bool.{Bool}
use mathlib.Core.List.{List}
use Prim.Native.Nat.{ℕ, ◌-◌, ◌^◌}
use borrow.Author.Tests.{le-leb, lt-leb}
use lib.ListN.{length, get_or, take, drop}
use Rattle.slices.specs.Bounded.{all_below}
use Rattle.table_slots.specs.Walk.{front_slots}
use Rattle.table_slots.proofs.Passes.{rest, front-constant, front-short}
use Rattle.table_slots.proofs.front_slots.Goals as goal
use Rattle.table_slots.proofs.front_slots.Goals.{then-m-level-via-then-m-level, then-m-level-via-else-m-level+then-d-lt1, then-m-level-via-else-m-level+else-d-lt1+then-room-d, then-m-level-via-else-m-level+else-d-lt1+else-room-d+then-not-all_elements}

-- the last test is what `all_elements` answers
last : (s : List ℕ) (m d : ℕ) {size : ℕ} {b : Bool} → size ≡ 2 ^ m → b ≡ all_below size (take d (take (length s - 2) (drop 2 s)))
    → all_below (2 ^ m) (take d (drop 2 s)) ≡ b
last s m d {size} e a = sym (a ∙ ap (λ u. all_below size (take d u)) (rest s 2) ∙ ap (λ q. all_below q (take d (drop 2 s))) e)

pub returns-in_default : goal.returns-in_default
returns-in_default c = front-short _ _ _ c.in_default.len_below

pub returns-then-m-level : goal.returns-then-m-level
unfolding front_slots
returns-then-m-level c =
    elim c.then-m-level.branch [
      | then-m-level-via-then-m-level w ↦ simp (lt-leb _ _ w.if-m-level.true)
      | then-m-level-via-else-m-level+then-d-lt1 w ↦ front-constant c.args.m c.args.room c.args.s.now w.if-d-lt1.true
      | then-m-level-via-else-m-level+else-d-lt1+then-room-d w ↦ simp (le-leb _ _ w.if-m-level.false, le-leb _ _ w.if-d-lt1.false, lt-leb _ _ w.if-room-d.true)
      | then-m-level-via-else-m-level+else-d-lt1+else-room-d+then-not-all_elements w ↦
          simp (le-leb _ _ w.if-m-level.false, le-leb _ _ w.if-d-lt1.false, le-leb _ _ w.if-room-d.false, last c.args.s.now c.args.m (get_or c.args.s.now 1 0) c.requires.0 w.all_elements.ensures, w.if-not-all_elements.true)
    ]

pub returns : goal.returns
unfolding front_slots
returns c =
    simp (le-leb _ _ c.if-m-level.false, le-leb _ _ c.if-d-lt1.false, le-leb _ _ c.if-room-d.false, last c.args.s.now c.args.m (get_or c.args.s.now 1 0) c.requires.0 c.all_elements.ensures, c.if-not-all_elements.false)
