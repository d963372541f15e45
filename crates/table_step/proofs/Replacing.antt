-- What a step reads around the factor to split, and what it leaves.
--   SlotsRead, slots_read                      where the factor stands;  head-there, level-there, stands  so that it
--                                              can be read
--   factor-is, level-is, level-below-width   it is the first above the cutoff
--   named                             the head names the field
--   split-asks, part-asks             it can be split, and by what is lent;  trace-within, trace-ready  as by the
--                                     trace sum modulo it
--   SlotSizes, slot-sizes                      how many slots the parts take
--   replace-asks, replaced            it can give way to its parts, and the slots are then those of a step
-- Assumes nothing.
use mathlib.Core.Path.{◌≡◌, refl, sym, ap, ap₂, subst, ◌∙◌}
use mathlib.Core.Bool.{true, false, true≢false}
use mathlib.Core.List.{List, [], ◌∷◌, ◌++◌}
use Prim.Native.Nat.{ℕ, zero, suc, ◌+◌, ◌-◌, ◌*◌, ◌/◌, ◌^◌, ◌≤◌, ◌<◌}
use native.Mathlib.Nat.{le_trans, mul-le-mul, div-le_self}
use native.Mathlib.Omega.{arith}
use lib.ListN.{length, take, drop, set, replicate, length-append, length-replicate}
use lib.Seq.{take_at}
use Rattle.algebra.specs.Polynomial.{Below}
use Rattle.field.specs.Rows.{known}
use Rattle.algebra.specs.Field.{power}
use Rattle.algebra.specs.Routines.{rem, trace_mod, gcd}
use Rattle.field.specs.Field.{G}
use Rattle.poly.specs.Lent.{Lent}
use Rattle.slices.specs.Lists.{spliced}
use Rattle.input.proofs.Fields.{known-field, degree-within}
use Rattle.input.specs.Limit.{limit, widest}
use Rattle.table_rules.specs.Entries.{Halving, parts, entry_at, first_above, done}
use Rattle.table_rules.specs.Layout.{factor_slots, Factor, degree_sum, blocks, by_factor}
use Rattle.table_rules.specs.Table.{Table, head_slots, slots_for, encode, decode}
use Rattle.table_rules.specs.Splitting.{is_done, first_factor, halving_at, slots_done, slots_stuck, slots_stepped}
use Rattle.table_rules.proofs.Sizes.{limit-most, sound-size}
use Rattle.table_rules.proofs.Layouts.{by_factor-lawful}
use Rattle.table_rules.proofs.Soundness.{Valid, sound-valid, sound-encoded, count-within}
use Rattle.table_rules.proofs.Keeping.{Free, free, LosslessHalving, trace-halves, step-slots}
use Rattle.table_rules.specs.Places.{beyond, leading, place, slots_of, spare}
use Rattle.table_rules.proofs.Places.{encode-around, level-at, degree-at, coefficients-at, first-fair, room, parts-few, parts-some, length-new, step-spliced}
use Rattle.table_rules.specs.Sizes.{limit_by}
use Rattle.table_slots.specs.Slots.{width_of, count_of, taken_of, Heads, level_at, degree_at, factor_at, next_at, StandsWhole, Replaceable, replaced_at}
use Rattle.table_slots.specs.declared.Head.{Head}
use Rattle.table_slots.specs.Verdicts.{Chosen}
use Rattle.table_step.specs.Parting.{Splittable, Partable, Parted, StepReady}
use Rattle.table_step.proofs.Commons.{traced-long, trace-small, traced-same}

-- no degree is above their sum, and a list that is not done has an entry
entry-most : (l : List Factor) (k : ℕ) → length (entry_at l k).1 ≤ degree_sum l
unfolding degree_sum
entry-most [] k = omega arith
entry-most (e ∷ l) zero = omega arith
entry-most (e ∷ l) (suc k) = omega (arith, entry-most l k)

-- and so it has one factor at least
some-factor : (c : ℕ) (l : List Factor) → done c l ≡ false → 1 ≤ length l
unfolding done
some-factor c [] d = absurd (true≢false d)
some-factor c (e ∷ l) d = omega arith

-- where the factor to split stands
pub record SlotsRead (l : List ℕ) (o : ℕ) : Type 0 where
  pub long : head_slots ≤ length l
  pub room : next_at l o + factor_slots ≤ length l
  pub few : degree_at l o ≤ limit

module _ (l : List ℕ) {o : ℕ} (c : Chosen l o) where
  -- the table that the slots hold, and its factor to split
  abbrev t : Table
  t = decode by_factor l

  -- the first above the cutoff
  abbrev P : Factor
  P = first_factor t

  -- its field is known
  is_known : known (width_of l) ≡ true
  unfolding decode
  is_known = (sound-valid by_factor-lawful known (limit_by l) l c.sound).field

  -- what it holds is valid
  valid : Valid known (limit_by l) t
  valid = sound-valid by_factor-lawful known (limit_by l) l c.sound

  -- and the slots are its encoding
  encoded : encode by_factor (slots_for (limit_by l)) t ≡ l
  encoded = sound-encoded by_factor-lawful known (limit_by l) l c.sound

  -- it is not done
  open-still : is_done t ≡ false
  unfolding slots_done
  open-still = c.more

  -- the factor is below level m, and the steps below their limit
  is_free : Free t
  unfolding slots_stuck
  is_free = free t valid open-still c.free

  -- the level that the code reads
  level-is : level_at l o ≡ P.0
  level-is = ap₂ level_at (sym encoded) c.at ∙ level-at t valid open-still (slots_for (limit_by l))

  -- it is below the degree of the field
  pub level-below-width : level_at l o < width_of l
  unfolding decode
  level-below-width = omega (arith, level-is, is_free.level)

  -- the degree that it reads
  degree-is : degree_at l o ≡ length P.1
  degree-is = ap₂ degree_at (sym encoded) c.at ∙ degree-at t valid open-still (slots_for (limit_by l))

  -- the coefficients that it reads
  pub factor-is : factor_at l o ≡ P.1
  factor-is = ap₂ take degree-is (ap₂ (λ k u. drop (k + factor_slots) u) c.at (sym encoded)) ∙ coefficients-at t valid open-still (slots_for (limit_by l))

  -- the degree of the factor is one of those that are summed up
  around-long : place t + (length P.1 + 2 * factor_slots) ≤ length l
  around-long =
      omega (
        arith,
        ap length (sym encoded ∙ encode-around t valid open-still (slots_for (limit_by l))),
        length-append (leading t) (slots_of P ++ (blocks (beyond t) ++ replicate (spare (slots_for (limit_by l)) t) 0)),
        length-append P.1 (blocks (beyond t) ++ replicate (spare (slots_for (limit_by l)) t) 0),
        length-append (blocks (beyond t)) (replicate (spare (slots_for (limit_by l)) t) 0),
        length-replicate {A = ℕ} (spare (slots_for (limit_by l)) t) 0,
        room t valid open-still,
      )

  -- the number of factors
  count-is : count_of l ≡ length t.factors
  unfolding encode
  count-is = ap count_of (sym encoded)

  -- the steps taken
  taken_is : taken_of l ≡ t.taken
  unfolding decode
  taken_is = refl

  -- where it stands
  slots_read : SlotsRead l o
  slots_read = record {
    long = omega (arith, sound-size l c.sound);
    room = omega (arith, degree-is, c.at, around-long);
    few = omega (arith, limit-most (length l), degree-is, entry-most t.factors (first_above t.cutoff t.factors), valid.sum);
  }

  -- there is a head
  pub head-there : head_slots ≤ length l
  head-there = omega (arith, slots_read.long)

  -- the factor's level is one of the slots, and the factor stands in them
  pub level-there : o < length l
  level-there = let r = slots_read in omega (arith, r.long, r.room)

  pub stands : StandsWhole l o
  stands = let r = slots_read in omega (arith, r.long, r.room)

  -- it has as many coefficients as its degree
  factor-long : length (factor_at l o) ≡ degree_at l o
  factor-long = ap length factor-is ∙ sym degree-is

  -- the field that the head names is known
  pub named : {h : Head} → Heads l h → known h.m ≡ true
  named k = ap known k.width ∙ is_known

  -- what is read by the names of its parts
  module _ {m : ℕ} (width : m ≡ width_of l) {i : ℕ} (e : i ≡ level_at l o) {p : List ℕ} (q : p ≡ factor_at l o) where
    -- it is at most as long as the limit
    pub read-few : length p ≤ limit
    read-few = let r = slots_read in omega (arith, ap length q, factor-long, r.few)

    -- it can be split
    pub split-asks : Splittable m p i
    unfolding decode
    split-asks = record {
      small = rw (width, q ∙ factor-is) (first-fair t valid open-still).coefficients;
      few = read-few;
      level = omega (arith, e, width, level-is, is_free.level);
    }

    -- and can be parted by what is lent
    pub part-asks : {u : List ℕ} → StepReady m l o u → Partable m p i u
    part-asks r = record { splittable = split-asks; small = r.small; few = r.few; same = rw (e, q) r.same }

    module _ {ls ts u : List ℕ} (a : Lent m ls ts) (z : List ℕ) (g : u ≡ trace_mod (G m) p m (rem (G m) p (0 ∷ power (G m) 2 i ∷ []))) where
      -- the trace sum modulo the factor is as long
      traced-fits : length u ≡ length p
      traced-fits = traced-long a split-asks g

      -- it is within its room
      pub trace-within : length p ≤ length (u ++ z)
      trace-within = omega (arith, length-append u z, traced-fits)

      -- and parts the factor, at the front of its room
      pub trace-ready : StepReady m l o (take (length p) (u ++ z))
      trace-ready =
          let f : take (length p) (u ++ z) ≡ u = take_at u z (length p) traced-fits in
          record {
            chosen = c;
            width = width;
            small = subst (Below (2 ^ m)) (sym (f ∙ g)) (trace-small a split-asks);
            few = omega (arith, ap length f, traced-fits, read-few);
            same = ap (gcd (G m) (factor_at l o)) (f ∙ g) ∙ at_slots (traced-same a split-asks);
          }
        where
          -- the same by the names of the slots
          at_slots : gcd (G m) p (trace_mod (G m) p m (rem (G m) p (0 ∷ power (G m) 2 i ∷ []))) ≡ (halving_at m).low i p
              → gcd (G m) (factor_at l o) (trace_mod (G m) p m (rem (G m) p (0 ∷ power (G m) 2 i ∷ [])))
              ≡ (halving_at m).low (level_at l o) (factor_at l o)
          at_slots x = rw (sym e, sym q) x

  -- the parts of the factor that the code reads are those of the factor
  abbrev H : Halving ℕ
  H = halving_at t.width

  -- each factor is parted in two that have its degree together
  halves : (i : ℕ) (p : List ℕ) → Below (2 ^ t.width) p → LosslessHalving H t.width i p
  halves = trace-halves (known-field t.width valid.field)

  module _ {m : ℕ} (width : m ≡ width_of l) {i : ℕ} (e : i ≡ level_at l o) {p : List ℕ} (g : p ≡ factor_at l o) {q : ℕ} {w : List ℕ} (r : Parted m i p q w) where
    -- the parts that were written
    parts_are : blocks (parts (halving_at m) (i, p)) ≡ blocks (parts H P)
    unfolding decode
    parts_are = rw (width, e ∙ level-is, g ∙ factor-is) refl

    -- the new slots are those of the parts
    new_is : take q w ≡ blocks (parts H P)
    new_is = r.slots ∙ parts_are

    -- as many as were counted
    pub new-count : length (take q w) ≡ q
    new-count = ap length r.slots ∙ sym r.count

    -- two for each part, and the coefficients
    new-long : q ≡ factor_slots * length (parts H P) + degree_at l o
    new-long = r.count ∙ ap length parts_are ∙ length-new t valid open-still H halves ∙ ap (λ n. factor_slots * length (parts H P) + n) (sym degree-is)

    -- one part or two: two or four slots more than coefficients
    pub record SlotSizes : Type 0 where
      pub least : degree_at l o + factor_slots ≤ q
      pub most : q ≤ degree_at l o + 2 * factor_slots

    -- as they are
    slot-sizes : SlotSizes
    slot-sizes = record {
      least = omega (arith, new-long, parts-some H t.width halves P (first-fair t valid open-still));
      most = omega (arith, new-long, parts-few H P);
    }

    -- the factor can give way to them
    pub replace-asks : Replaceable l o (take q w)
    replace-asks =
        let z = slot-sizes in
        let s = slots_read in
        record {
          some = omega (arith, count-is, some-factor t.cutoff t.factors open-still);
          count = omega (arith, limit-most (length l), count-is, count-within valid);
          taken = omega (
            arith,
            taken_is,
            is_free.steps,
            mul-le-mul {n₂ = widest} {m₂ = limit} (degree-within t.width valid.field) (le_trans (div-le_self (degree_sum t.factors) (suc t.cutoff)) (le_trans valid.sum (limit-most (length l)))),
          );
          room = omega (arith, s.room, s.long);
          least = omega (arith, new-count, z.least);
          most = omega (arith, new-count, z.most);
        }

    -- the slots are then those of the table after the step
    pub replaced : {s : List ℕ} → s ≡ replaced_at o (take q w) l → s ≡ slots_stepped by_factor l
    replaced {s} x =
        let old : degree_at l o + factor_slots ≡ length (slots_of P) = omega (arith, degree-is) in
        let n : count_of l - 1 + (length (take q w) - degree_at l o) / factor_slots ≡ length t.factors - 1 + length (parts H P) = omega (arith, new-count, new-long, count-is) in
        let j : taken_of l + 1 ≡ suc t.taken = omega (arith, taken_is) in
        let same : spliced o (degree_at l o + factor_slots) (take q w) l ≡ spliced (place t) (length (slots_of P)) (blocks (parts H P)) (encode by_factor (slots_for (limit_by l)) t) =
        ap₂ (λ (a b : ℕ). spliced a b (take q w) l) c.at old ∙ ap₂ (λ (u v : List ℕ). spliced (place t) (length (slots_of P)) u v) new_is (sym encoded) in
        x ∙ ap₂ (λ (u : List ℕ) (a : ℕ). set (set u 2 a) 3 (taken_of l + 1)) same n
        ∙ ap (λ a. set (set (spliced (place t) (length (slots_of P)) (blocks (parts H P)) (encode by_factor (slots_for (limit_by l)) t)) 2 (length t.factors - 1 + length (parts H P))) 3 a) j
        ∙ sym (step-slots by_factor-lawful (limit_by l) l c.sound ∙ step-spliced t valid open-still H halves)
