-- The loops that pass over slots: the answer for all of them is the answer for what lies ahead.
--   rest               `&s[at..]` is what lies ahead
--   front-none, front-constant, front-short, FairFactor, front-tells, front-fails   the factor at the front
--   Walking, WalkTaken, walk_from, walk-room, walk-taken, walk-on, walk-stop, walk_end   the loop that adds up the
--   degrees
--   Seeking, seek-from, seek-cut, seek_hit, seek-on, seek-end             the loop that looks for a degree above c
-- Assumes nothing.
use mathlib.Core.Path.{◌≡◌, refl, sym, ap, ap₂, ◌∙◌}
use mathlib.Core.Bool.{Bool, true, false, cond, ◌&&◌, and-eq-true_iff}
use mathlib.Core.List.{List, [], ◌∷◌}
use Prim.Native.Nat.{ℕ, suc, ◌+◌, ◌-◌, ◌*◌, ◌^◌, ◌≤◌, ◌<◌}
use native.Mathlib.Nat.{sub-zero}
use native.Mathlib.Omega.{arith}
use borrow.Author.Tests.{leb-true, le-leb, lt-leb, lt-ltb, le-ltb}
use lib.Dec.{leb}
use Rattle.std.proofs.lemmas.Option.{same_Some}
use lib.ListN.{length, get_or, take, drop, length-drop}
use lib.Seq.{drop-drop, take_all}
use Rattle.slices.specs.Bounded.{all_below, all_zero}
use Rattle.table_rules.specs.Layout.{stated_sum, behind_factor, read_blocks, fair_front, fair_blocks}
use Rattle.table_slots.specs.Walk.{front_slots, tally, seek}
use Rattle.std.specs.Prelude.{Some, None}

-- a part up to the end
pub rest : (s : List ℕ) (at : ℕ) → take (length s - at) (drop at s) ≡ drop at s
rest s at = take_all (length s - at) (drop at s) (omega (arith, length-drop at s))

-- ---- the factor at the front

-- a test of two parts
both : (a b : Bool) → (a && b) ≡ true → (a ≡ true) × (b ≡ true)
both a b = (and-eq-true_iff a b).0

-- where a rule is broken, none stands there
pub front-none : (m room : ℕ) (s : List ℕ) → fair_front m room s ≡ false → None ≡ front_slots m room s
unfolding front_slots
front-none m room s e = sym (rw e)

-- no factor has a degree of 0, and so none stands in fewer than two slots
pub front-constant : (m room : ℕ) (s : List ℕ) → get_or s 1 0 < 1 → None ≡ front_slots m room s
front-constant m room s h = front-none m room s (go (leb (get_or s 0 0) m) (lt-leb 1 (get_or s 1 0) h))
  where
    go : (a : Bool) → leb 1 (get_or s 1 0) ≡ false → (a && leb 1 (get_or s 1 0) && leb (get_or s 1 0) room && all_below (2 ^ m) (take (get_or s 1 0) (drop 2 s))) ≡ false
    go true e = rw e
    go false e = refl

-- nor in a list of one slot
pub front-short : (m room : ℕ) (s : List ℕ) → length s < 2 → None ≡ front_slots m room s
front-short m room [] h = front-constant m room [] (omega arith)
front-short m room (x ∷ []) h = front-constant m room (x ∷ []) (omega arith)
front-short m room (x ∷ y ∷ s) h = absurd (omega arith)

-- what is known of a factor within the rules, in n slots
pub record FairFactor (m room : ℕ) (s : List ℕ) (n : ℕ) : Type 0 where
  pub fair : fair_front m room s ≡ true
  pub least : 1 ≤ get_or s 1 0
  pub most : get_or s 1 0 ≤ room
  pub slots : n ≡ get_or s 1 0 + 2

-- an answer tells that
front-tells : {m room n : ℕ} {s : List ℕ} → Some n ≡ front_slots m room s → FairFactor m room s n
unfolding front_slots
front-tells {m} {room} {n} {s} q = go (fair_front m room s) refl q
  where
    go : (b : Bool) → fair_front m room s ≡ b → Some n ≡ cond b (Some (get_or s 1 0 + 2)) None → FairFactor m room s n
    go false e q = absurd cc
    go true e z =
        let d : ℕ = get_or s 1 0 in
        let p = both (leb (get_or s 0 0) m && leb 1 d && leb d room) (all_below (2 ^ m) (take d (drop 2 s))) e in
        let q = both (leb (get_or s 0 0) m && leb 1 d) (leb d room) p.0 in
        record { fair = e; least = leb-true 1 d (both (leb (get_or s 0 0) m) (leb 1 d) q.0).1; most = leb-true d room q.1; slots = same_Some _ _ z }

-- no answer tells that some rule is broken
front-fails : (m room : ℕ) (s : List ℕ) → None ≡ front_slots m room s → fair_front m room s ≡ false
unfolding front_slots
front-fails m room s n = go (fair_front m room s) n
  where
    go : (b : Bool) → None ≡ cond b (Some (get_or s 1 0 + 2)) None → b ≡ false
    go true e = absurd cc
    go false e = refl

-- ---- the sum of the degrees

-- what a pass has to find from `at` on, behind i factors, and what it has summed up
pub record Walking (s : List ℕ) (m count limit i sum at : ℕ) : Type 0 where
  pub enough : 3 * limit ≤ length s
  pub within : at ≤ 3 * sum
  pub small : sum ≤ limit
  pub same : fair_blocks m limit count s ≡ fair_blocks m (limit - sum) (count - i) (drop at s)
  pub sums : stated_sum (read_blocks count s) ≡ sum + stated_sum (read_blocks (count - i) (drop at s))

-- at the start all lies ahead
pub walk_from : (s : List ℕ) (m count limit : ℕ) → 3 * limit ≤ length s → Walking s m count limit 0 0 0
walk_from s m count limit h = record {
  enough = h;
  within = omega arith;
  small = omega arith;
  same = ap₂ (λ k n. fair_blocks m k n s) (sym (sub-zero limit)) (sym (sub-zero count));
  sums = ap (λ n. stated_sum (read_blocks n s)) (sym (sub-zero count)) ∙ omega arith;
}

-- the front's slots, as the loop sees them
pub record WalkTaken (s : List ℕ) (limit sum at n : ℕ) : Type 0 where
  pub two : 2 ≤ n
  pub within : at + n ≤ 3 * (sum + (n - 2))
  pub small : sum + (n - 2) ≤ limit

module _ {s : List ℕ} {m count limit i sum at : ℕ} (w : Walking s m count limit i sum at) where
  -- there is room for the degree that is still allowed
  pub walk-room : limit - sum ≤ length (take (length s - at) (drop at s)) - 2
  walk-room = omega (arith, ap length (rest s at), length-drop at s, w.enough, w.within, w.small)

  -- some factor stands there
  module _ {n : ℕ} (answer : Some n ≡ front_slots m (limit - sum) (take (length s - at) (drop at s))) where
    -- a fair one
    tells : FairFactor m (limit - sum) (drop at s) n
    tells = front-tells (answer ∙ ap (front_slots m (limit - sum)) (rest s at))

    -- its slots are within the list, and its degree within the limit
    pub walk-taken : WalkTaken s limit sum at n
    walk-taken =
        let f = tells in
        record {
          two = omega (arith, f.slots);
          within = omega (arith, f.slots, f.least, w.within);
          small = omega (arith, f.slots, f.most, w.small);
        }

    -- a turn passes it
    pub walk-on : i < count → Walking s m count limit (i + 1) (sum + (n - 2)) (at + n)
    unfolding fair_blocks read_blocks stated_sum
    walk-on l =
        let t = walk-taken in
        let f = tells in
        let d = get_or (drop at s) 1 0 in
        let left : ℕ = count - (i + 1) in
        let p : count - i ≡ suc left = omega arith in
        let k : n ≡ 2 + d = omega (arith, f.slots) in
        let j : limit - sum - d ≡ limit - (sum + (n - 2)) = omega (arith, k) in
        let b : behind_factor (drop at s) ≡ drop (at + n) s = drop-drop d 2 (drop at s) ∙ drop-drop (2 + d) at s ∙ ap (λ i. drop (at + i) s) (sym k) in
        let q : sum + (d + stated_sum (read_blocks left (drop (at + n) s))) ≡ sum + (n - 2) + stated_sum (read_blocks left (drop (at + n) s)) = omega (arith, k) in
        record {
          enough = w.enough;
          within = t.within;
          small = t.small;
          same = w.same ∙ ap (λ i. fair_blocks m (limit - sum) i (drop at s)) p ∙ rw (f.fair, j, b);
          sums = w.sums ∙ ap (λ i. sum + stated_sum (read_blocks i (drop at s))) p ∙ ap (λ u. sum + (d + stated_sum (read_blocks left u))) b ∙ q;
        }

  -- where none stands there, a rule is broken
  pub walk-stop : None ≡ front_slots m (limit - sum) (take (length s - at) (drop at s)) → i < count → None ≡ tally m limit count s
  unfolding tally fair_blocks
  walk-stop h l =
      let p : count - i ≡ suc (count - (i + 1)) = omega arith in
      let no : fair_blocks m limit count s ≡ false =
      w.same ∙ ap (λ i. fair_blocks m (limit - sum) i (drop at s)) p ∙ rw (front-fails m (limit - sum) (drop at s) (h ∙ ap (front_slots m (limit - sum)) (rest s at))) in
      sym (rw no)

-- at the end zeros decide
pub walk_end : {s : List ℕ} {m count limit i sum at : ℕ} {b : Bool} (v : Bool) → Walking s m count limit i sum at → count ≤ i
    → b ≡ all_zero (take (length s - at) (drop at s)) → b ≡ v → cond v (Some sum) None ≡ tally m limit count s
unfolding tally fair_blocks read_blocks stated_sum
walk_end {s} {m} {count} {limit} {i} {sum} {at} v w l e f =
    let p : count - i ≡ 0 = omega arith in
    let zeros : fair_blocks m limit count s ≡ v =
    w.same ∙ ap (λ i. fair_blocks m (limit - sum) i (drop at s)) p ∙ sym (ap all_zero (rest s at)) ∙ sym e ∙ f in
    let all : stated_sum (read_blocks count s) ≡ sum = w.sums ∙ ap (λ i. sum + stated_sum (read_blocks i (drop at s))) p ∙ omega arith in
    sym (ap₂ (λ (x : Bool) (y : ℕ). cond x (Some y) None) zeros all)

-- ---- the first degree above c

-- the answer for all is the answer from `at` on, behind i factors
pub record Seeking (s : List ℕ) (c count i at : ℕ) : Type 0 where
  pub within : at ≤ length s + 65537
  pub same : seek c s count 4 ≡ seek c s (count - i) at

-- at the start all lies ahead
pub seek-from : (s : List ℕ) (c count : ℕ) → Seeking s c count 0 4
seek-from s c count = record { within = omega arith; same = ap (λ n. seek c s n 4) (sym (sub-zero count)) }

module _ {s : List ℕ} {c count i at : ℕ} (k : Seeking s c count i at) where
  -- one factor at least is left
  one_left : i < count → seek c s count 4 ≡ seek c s (suc (count - (i + 1))) at
  one_left h = let p : count - i ≡ suc (count - (i + 1)) = omega arith in k.same ∙ ap (λ n. seek c s n at) p

  -- the slots end before
  pub seek-cut : i < count → length s ≤ at + 1 → None ≡ seek c s count 4
  unfolding seek
  seek-cut h l = sym (one_left h ∙ rw (le-leb (length s) (at + 1) l))

  -- a degree above c
  pub seek_hit : {d : ℕ} → i < count → at + 1 < length s → d ≡ get_or s (at + 1) 0 → c < d → Some at ≡ seek c s count 4
  unfolding seek
  seek_hit h l e x = let g : c < get_or s (at + 1) 0 = omega arith in sym (one_left h ∙ rw (lt-leb (length s) (at + 1) l, lt-ltb c (get_or s (at + 1) 0) g))

  -- a degree that is not
  pub seek-on : {d : ℕ} → i < count → at + 1 < length s → d ≡ get_or s (at + 1) 0 → d ≤ c → d < 65536 → Seeking s c count (i + 1) (at + (d + 2))
  unfolding seek
  seek-on {d} h l e x b =
      let g : get_or s (at + 1) 0 ≤ c = omega arith in
      record { within = omega arith; same = one_left h ∙ rw (lt-leb (length s) (at + 1) l, le-ltb c (get_or s (at + 1) 0) g) (ap (λ d. seek c s (count - (i + 1)) (at + (d + 2))) (sym e)) }

  -- no factor is left
  pub seek-end : count ≤ i → None ≡ seek c s count 4
  unfolding seek
  seek-end h = let p : count - i ≡ 0 = omega arith in sym (k.same ∙ ap (λ n. seek c s n at) p)
