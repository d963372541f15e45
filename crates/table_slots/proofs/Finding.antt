-- What `first_above` tells of a sound table.
--   seek-of              the place is behind the slots of the factors before the first above c
--   seek-done            nothing is found: the table is done
--   Standing, seek-at    what is found is the place of the first factor above the cutoff
-- Assumes nothing.
use mathlib.Core.Path.{◌≡◌, refl, sym, ap, ap₂, ◌∙◌}
use mathlib.Core.Bool.{Bool, true, false, not, cond, ◌&&◌}
use mathlib.Core.List.{List, [], ◌∷◌, ◌++◌, append_assoc}
use Prim.Native.Nat.{ℕ, suc, ◌+◌, ◌<◌}
use native.Mathlib.Omega.{arith}
use borrow.Author.Tests.{lt-leb}
use lib.Dec.{ltb}
use lib.ListN.{length, get_or, take, replicate, length-append}
use lib.Seq.{get_or-append-add}
use Rattle.field.specs.Rows.{known}
use Rattle.table_rules.specs.Entries.{above, first_above, done}
use Rattle.table_rules.specs.Layout.{factor_slots, Factor, blocks, by_factor}
use Rattle.table_rules.specs.Table.{Table, slots_for, encode, decode}
use Rattle.table_rules.specs.Splitting.{is_done, first_factor, slots_done}
use Rattle.table_rules.specs.Places.{beyond, leading, place, slots_of, spare}
use Rattle.table_rules.specs.Sizes.{limit_by, is_sound}
use Rattle.table_rules.proofs.Layouts.{by_factor-lawful}
use Rattle.table_rules.proofs.Soundness.{Valid, sound-valid, sound-encoded}
use Rattle.table_rules.proofs.Places.{level-at, encode-around}
use Rattle.table_slots.specs.Slots.{cutoff_of, level_at}
use Rattle.table_slots.specs.Walk.{seek, sought_in}
use Rattle.std.specs.Prelude.{Option, Some, None}

-- ---- the place

-- a factor above c is the place, and another is passed
module _ (c : ℕ) (s : List ℕ) (n at : ℕ) (h : at + 1 < length s) {d : ℕ} (e : get_or s (at + 1) 0 ≡ d) where
  -- the place is here
  seek-here : ltb c d ≡ true → seek c s (suc n) at ≡ Some at
  unfolding seek
  seek-here t = rw (lt-leb (length s) (at + 1) h, e, t)

  -- the place is further on
  seek-past : ltb c d ≡ false → seek c s (suc n) at ≡ seek c s n (at + (d + factor_slots))
  unfolding seek
  seek-past t = rw (lt-leb (length s) (at + 1) h, e, t)

-- slots behind `pre`: those of a factor, then the rest
module _ (e : Factor) (fs : List Factor) (pre z : List ℕ) where
  -- its slots join those before
  again : pre ++ (blocks (e ∷ fs) ++ z) ≡ (pre ++ slots_of e) ++ (blocks fs ++ z)
  unfolding blocks
  again = simp append_assoc

  -- its degree is a slot of the list
  long : length pre + 1 < length (pre ++ (blocks (e ∷ fs) ++ z))
  unfolding blocks
  long = simp length-append (omega arith)

  -- and stands there
  degree : get_or (pre ++ (blocks (e ∷ fs) ++ z)) (length pre + 1) 0 ≡ length e.1
  unfolding blocks
  degree = get_or-append-add pre (blocks (e ∷ fs) ++ z) 1 0

-- the place is behind the slots of the factors before
seek-of : (c : ℕ) (fs : List Factor) (pre z : List ℕ)
    → seek c (pre ++ (blocks fs ++ z)) (length fs) (length pre) ≡ cond (done c fs) None (Some (length pre + length (blocks (take (first_above c fs) fs))))
unfolding seek done first_above blocks
seek-of c [] pre z = refl
seek-of c (e ∷ fs) pre z = go (above c e) refl (seek-of c fs (pre ++ slots_of e) z)
  where
    s : List ℕ
    s = pre ++ (blocks (e ∷ fs) ++ z)

    at : ℕ
    at = length pre + (length e.1 + 2)

    before : List Factor
    before = take (first_above c fs) fs

    go : (b : Bool) → above c e ≡ b
        → seek c ((pre ++ slots_of e) ++ (blocks fs ++ z)) (length fs) (length (pre ++ slots_of e))
        ≡ cond (done c fs) None (Some (length (pre ++ slots_of e) + length (blocks before)))
        → seek c s (suc (length fs)) (length pre) ≡ cond (not b && done c fs) None (Some (length pre + length (blocks (take (cond b 0 (suc (first_above c fs))) (e ∷ fs)))))
    go true t ih = seek-here c s (length fs) (length pre) (long e fs pre z) (degree e fs pre z) t ∙ ap Some (omega arith)
    go false t ih =
        let l : length (pre ++ slots_of e) ≡ at = length-append pre (slots_of e) ∙ omega arith in
        let k : length (pre ++ slots_of e) + length (blocks before) ≡ length pre + length (blocks (e ∷ before)) = omega (arith, length-append e.1 (blocks before)) in
        seek-past c s (length fs) (length pre) (long e fs pre z) (degree e fs pre z) t
        ∙ ap₂ (λ u j. seek c u (length fs) j) (again e fs pre z) (sym l) ∙ ih ∙ ap (λ j. cond (done c fs) None (Some j)) k

-- ---- a sound table

module _ (l : List ℕ) (s : is_sound l ≡ true) where
  -- the table that the slots hold
  abbrev t : Table
  t = decode by_factor l

  -- it is valid
  valid : Valid known (limit_by l) t
  valid = sound-valid by_factor-lawful known (limit_by l) l s

  -- and the slots are its encoding
  encoded : encode by_factor (slots_for (limit_by l)) t ≡ l
  encoded = sound-encoded by_factor-lawful known (limit_by l) l s

  module _ {f : Option ℕ} (e : f ≡ sought_in (cutoff_of l) l) where
    -- what is answered
    sought : f ≡ cond (is_done t) None (Some (place t))
    unfolding encode
    sought =
        let j : length (t.width ∷ t.cutoff ∷ length t.factors ∷ t.taken ∷ []) + length (blocks (take (first_above t.cutoff t.factors) t.factors)) ≡ place t = omega arith in
        e ∙ ap (λ u. sought_in (cutoff_of u) u) (sym encoded)
        ∙ seek-of t.cutoff t.factors (t.width ∷ t.cutoff ∷ length t.factors ∷ t.taken ∷ []) (replicate (spare (slots_for (limit_by l)) t) 0)
        ∙ ap (λ k. cond (is_done t) None (Some k)) j

    -- nothing is found where it is done
    pub seek-done : f ≡ None → slots_done by_factor l ≡ true
    unfolding slots_done
    seek-done n = go (is_done t) (sym n ∙ sought)
      where
        go : (b : Bool) → None ≡ cond b None (Some (place t)) → b ≡ true
        go true q = refl
        go false q = absurd cc

    -- the first factor above the cutoff stands there
    pub record Standing (at : ℕ) : Type 0 where
      pub more : slots_done by_factor l ≡ false
      pub here : at ≡ place t
      pub level : level_at l at ≡ (first_factor t).0
      pub within : at < length l

    -- what is found is its place
    pub seek-at : {at : ℕ} → f ≡ Some at → Standing at
    unfolding slots_done
    seek-at {at} a = go (is_done t) refl (sym a ∙ sought)
      where
        go : (b : Bool) → is_done t ≡ b → Some at ≡ cond b None (Some (place t)) → Standing at
        go true d q = absurd cc
        go false d q =
            let same : at ≡ place t = cc in
            let around = encode-around t valid d (slots_for (limit_by l)) in
            record {
              more = d;
              here = same;
              level = ap₂ (λ u k. level_at u k) (sym encoded) same ∙ level-at t valid d (slots_for (limit_by l));
              within = omega (arith, ap length (sym encoded ∙ around), length-append (leading t) (slots_of (first_factor t) ++ (blocks (beyond t) ++ replicate (spare (slots_for (limit_by l)) t) 0)));
            }
