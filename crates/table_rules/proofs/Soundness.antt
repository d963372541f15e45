-- Sound slots are exactly the encodings of valid tables, in any lawful layout, over the known fields and the limit.
--   Fair m          the rules for one factor: level, degree, coefficients
--   Valid           the rules for a table: field, cutoff, factors, sum of degrees, steps
--   Rules           the same of slots, rule by rule;  sound-rules  `sound` tests them
--   decode-encode   the slots of a table tell the table
--   sound-valid     sound slots hold a valid table;  sound-encoded  and are its encoding
--   encode-sound    the encoding of a valid table is sound
--   SOUND-EXACTLY   so sound slots are exactly the encodings of valid tables
--   count-within    slot 2 is at most the limit: it follows from the rules for degrees
--   length-encode   a valid table fits its slots
--   done-encode, stuck-encode, roots-encode   what the tests of a step, and finish, find in the slots of a table
-- Assumes nothing.
use mathlib.Core.Path.{◌≡◌, refl, sym, ap, ap₂, ◌∙◌, subst}
use mathlib.Core.Logic.{◌↔◌}
use mathlib.Core.Bool.{Bool, true, and-eq-true_iff}
use mathlib.Core.List.{List, [], ◌∷◌, ◌++◌, map, map-map}
use Prim.Native.Nat.{ℕ, suc, ◌+◌, ◌-◌, ◌*◌, ◌/◌, ◌^◌, ◌≤◌}
use native.Mathlib.Omega.{arith}
use borrow.Author.Tests.{leb-true, le-leb, eqb-true, eq-eqb}
use lib.Dec.{leb, eqb}
use lib.ListN.{length, get_or, drop, replicate, length-append, length-replicate, length-map}
use Rattle.algebra.specs.Trial.{All}
use Rattle.algebra.specs.Polynomial.{Below}
use Rattle.slices.specs.Bounded.{all_below, all_zero}
use Rattle.slices.proofs.Bounded.{all_below-exactly, all_zero-exactly}
use Rattle.field.specs.Field.{G}
use Rattle.input.specs.Cutoff.{highest_cutoff}
use Rattle.table_rules.specs.Layout.{Factor, StatedFactor, stated, factor_of, stated_sum, Layout, degree_sum, Lawful, ReadsBack}
use Rattle.table_rules.specs.Table.{Table, step_limit, limit_of, slots_for, every, encode, decode, sound}
use Rattle.table_rules.specs.Splitting.{is_done, stuck, finished, slots_done, slots_stuck, slots_roots}

-- ---- tests as facts: `simp tests` takes a test by parts

pub le_is : (a b : ℕ) → (leb a b ≡ true) ↔ (a ≤ b)
le_is a b = (leb-true a b, le-leb a b)

pub eq_is : (a b : ℕ) → (eqb a b ≡ true) ↔ (a ≡ b)
eq_is a b = (eqb-true a b, eq-eqb a b)

pub ruleset tests = (and-eq-true_iff, le_is, eq_is)

-- ---- the rules one by one

-- of one factor
pub record Fair (m : ℕ) (e : Factor) : Type 0 where
  pub level : e.0 ≤ m
  pub degree : 1 ≤ length e.1
  pub coefficients : Below (2 ^ m) e.1

-- of a table
pub record Valid (known : ℕ → Bool) (limit : ℕ) (t : Table) : Type 0 where
  pub field : known t.width ≡ true
  pub cutoff-least : 1 ≤ t.cutoff
  pub cutoff-most : t.cutoff ≤ highest_cutoff
  pub factors : All (Fair t.width) t.factors
  pub sum : degree_sum t.factors ≤ limit
  pub steps : t.taken ≤ limit_of t

-- stated degrees are degrees
pub stated-sum : (fs : List Factor) → stated_sum (map stated fs) ≡ degree_sum fs
unfolding stated_sum degree_sum
stated-sum [] = refl
stated-sum (e ∷ fs) = ap (λ n. length e.1 + n) (stated-sum fs)

-- the tests of what is stated of factors
pub record Tests (m : ℕ) (fs : List StatedFactor) : Type 0 where
  pub levels : every (λ f. leb f.level m) fs ≡ true
  pub degrees : every (λ f. leb 1 f.degree) fs ≡ true
  pub coefficients : every (λ f. all_below (2 ^ m) f.coefficients) fs ≡ true

tests-fair : (m : ℕ) (fs : List Factor) → Tests m (map stated fs) → All (Fair m) fs
unfolding every
tests-fair m [] h = tt
tests-fair m (e ∷ fs) h =
    let a = (and-eq-true_iff (leb e.0 m) (every (λ f. leb f.level m) (map stated fs))).0 h.levels in
    let b = (and-eq-true_iff (leb 1 (length e.1)) (every (λ f. leb 1 f.degree) (map stated fs))).0 h.degrees in
    let c = (and-eq-true_iff (all_below (2 ^ m) e.1) (every (λ f. all_below (2 ^ m) f.coefficients) (map stated fs))).0 h.coefficients in (
      record { level = leb-true e.0 m a.0; degree = leb-true 1 (length e.1) b.0; coefficients = (all_below-exactly (2 ^ m) e.1).0 c.0 },
      tests-fair m fs (record { levels = a.1; degrees = b.1; coefficients = c.1 }),
    )

fair-tests : (m : ℕ) (fs : List Factor) → All (Fair m) fs → Tests m (map stated fs)
unfolding every
fair-tests m [] h = record { levels = refl; degrees = refl; coefficients = refl }
fair-tests m (e ∷ fs) h =
    let r = fair-tests m fs h.1 in
    let f = h.0 in
    record {
      levels = (and-eq-true_iff _ _).1 (le-leb e.0 m f.level, r.levels);
      degrees = (and-eq-true_iff _ _).1 (le-leb 1 (length e.1) f.degree, r.degrees);
      coefficients = (and-eq-true_iff _ _).1 ((all_below-exactly (2 ^ m) e.1).1 f.coefficients, r.coefficients);
    }

-- the rules of docs/RULES.md section 4.5, one by one, of slots
pub record Rules (Y : Layout) (known : ℕ → Bool) (limit : ℕ) (l : List ℕ) : Type 0 where
  pub size : length l ≡ slots_for limit
  pub field : known (get_or l 0 0) ≡ true
  pub cutoff-least : 1 ≤ Y.unmark (get_or l 1 0)
  pub cutoff-most : Y.unmark (get_or l 1 0) ≤ highest_cutoff
  pub count : get_or l 2 0 ≤ limit
  pub factors : Tests (get_or l 0 0) (Y.read (get_or l 2 0) (drop 4 l))
  pub sum : stated_sum (Y.read (get_or l 2 0) (drop 4 l)) ≤ limit
  pub steps : get_or l 3 0 ≤ step_limit (get_or l 0 0) (Y.unmark (get_or l 1 0)) (stated_sum (Y.read (get_or l 2 0) (drop 4 l)))
  pub rest : all_zero (Y.rest (get_or l 2 0) (drop 4 l)) ≡ true

-- `sound` tests these rules
pub sound-rules : (Y : Layout) (known : ℕ → Bool) (limit : ℕ) (l : List ℕ) → (sound Y known limit l ≡ true) ↔ Rules Y known limit l
unfolding sound
sound-rules Y known limit l = (
  λ h. told (simp tests at h),
  λ r. simp tests
      ((((((((r.size, r.field), (r.cutoff-least, r.cutoff-most)), r.count), r.factors.levels), (r.factors.degrees, r.sum)), r.factors.coefficients), r.steps), r.rest),
)
  where
    told : ((((((((length l ≡ slots_for limit) × (known (get_or l 0 0) ≡ true)) × ((1 ≤ Y.unmark (get_or l 1 0)) × (Y.unmark (get_or l 1 0) ≤ highest_cutoff))) × (get_or l 2 0 ≤ limit))
        × (every (λ f. leb f.level (get_or l 0 0)) (Y.read (get_or l 2 0) (drop 4 l)) ≡ true))
        × ((every (λ f. leb 1 f.degree) (Y.read (get_or l 2 0) (drop 4 l)) ≡ true) × (stated_sum (Y.read (get_or l 2 0) (drop 4 l)) ≤ limit)))
        × (every (λ f. all_below (2 ^ get_or l 0 0) f.coefficients) (Y.read (get_or l 2 0) (drop 4 l)) ≡ true))
        × (get_or l 3 0 ≤ step_limit (get_or l 0 0) (Y.unmark (get_or l 1 0)) (stated_sum (Y.read (get_or l 2 0) (drop 4 l))))) × (all_zero (Y.rest (get_or l 2 0) (drop 4 l)) ≡ true)
        → Rules Y known limit l
    told v = record {
      size = v.0.0.0.0.0.0.0.0;
      field = v.0.0.0.0.0.0.0.1;
      cutoff-least = v.0.0.0.0.0.0.1.0;
      cutoff-most = v.0.0.0.0.0.0.1.1;
      count = v.0.0.0.0.0.1;
      factors = record { levels = v.0.0.0.0.1; degrees = v.0.0.0.1.0; coefficients = v.0.0.1 };
      sum = v.0.0.0.1.1;
      steps = v.0.1;
      rest = v.1;
    }

-- ---- how much room there is

-- degrees of at least 1
pub fair-count : (m : ℕ) (l : List Factor) → All (Fair m) l → length l ≤ degree_sum l
unfolding degree_sum
fair-count m [] h = omega arith
fair-count m (e ∷ l) h = omega (arith, h.0.degree, fair-count m l h.1)

-- "slot 2 is at most the limit" follows
pub count-within : {known : ℕ → Bool} {limit : ℕ} {t : Table} → Valid known limit t → length t.factors ≤ limit
count-within {t = t} v = omega (arith, fair-count t.width t.factors v.factors, v.sum)

module _ {Y : Layout} (L : Lawful Y) where
  -- the slots of a table before the zeros
  abbrev pub filled_slots : Table → List ℕ
  filled_slots t = t.width ∷ Y.mark t.cutoff ∷ length t.factors ∷ t.taken ∷ Y.write t.factors

  -- a valid table fits
  filled_slots-within : {known : ℕ → Bool} {limit : ℕ} {t : Table} → Valid known limit t → length (filled_slots t) ≤ slots_for limit
  filled_slots-within {t = t} v = omega (arith, L.length-write t.factors, fair-count t.width t.factors v.factors, v.sum)

  -- so its slots are as many as there should be
  pub length-encode : {known : ℕ → Bool} {limit : ℕ} {t : Table} → Valid known limit t → length (encode Y (slots_for limit) t) ≡ slots_for limit
  unfolding encode
  length-encode {limit = limit} {t = t} v =
      length-append (filled_slots t) (replicate (slots_for limit - length (filled_slots t)) 0)
      ∙ omega (arith, filled_slots-within v, length-replicate {A = ℕ} (slots_for limit - length (filled_slots t)) 0)

  -- ---- the slots tell the table

  pub decode-encode : (slots : ℕ) (t : Table) → decode Y (encode Y slots t) ≡ t
  unfolding decode encode
  decode-encode slots t = λ i. record {
    width = t.width;
    cutoff = L.unmark-mark t.cutoff i;
    taken = t.taken;
    factors = (ap (map factor_of) (L.read-write t.factors (replicate (slots - length (filled_slots t)) 0)) ∙ map-map factor_of stated t.factors ∙ same t.factors) i;
  }
    where
      same : (fs : List Factor) → map (λ e. factor_of (stated e)) fs ≡ fs
      same [] = refl
      same (e ∷ fs) = ap (λ u. e ∷ u) (same fs)

  -- so the tests of a step, and finish, find it in its slots
  pub done-encode : (slots : ℕ) (t : Table) → slots_done Y (encode Y slots t) ≡ is_done t
  unfolding slots_done
  done-encode slots t = ap is_done (decode-encode slots t)

  pub stuck-encode : (slots : ℕ) (t : Table) → slots_stuck Y (encode Y slots t) ≡ stuck t
  unfolding slots_stuck
  stuck-encode slots t = ap stuck (decode-encode slots t)

  pub roots-encode : (slots : ℕ) (t : Table) → slots_roots Y (encode Y slots t) ≡ finished (G t.width) t
  unfolding slots_roots
  roots-encode slots t = ap (λ u. finished (G u.width) u) (decode-encode slots t)

  -- ---- sound slots hold a valid table, and are its encoding

  sound-holds : (known : ℕ → Bool) (limit : ℕ) (l : List ℕ) → Rules Y known limit l → Valid known limit (decode Y l) × (encode Y (slots_for limit) (decode Y l) ≡ l)
  unfolding encode decode
  sound-holds known limit [] v = absurd (omega (arith, v.size))
  sound-holds known limit (m ∷ []) v = absurd (omega (arith, v.size))
  sound-holds known limit (m ∷ c ∷ []) v = absurd (omega (arith, v.size))
  sound-holds known limit (m ∷ c ∷ k ∷ []) v = absurd (omega (arith, v.size))
  sound-holds known limit (m ∷ c ∷ k ∷ n ∷ l) v =
      let ks : List StatedFactor = Y.read k l in
      let fs : List Factor = map factor_of ks in
      let r : ReadsBack Y k l = L.write_read k l (omega (arith, v.size, v.count, v.sum)) in
      let sum : stated_sum ks ≡ degree_sum fs = ap stated_sum (sym r.exact) ∙ stated-sum fs in
      let zeros : Y.rest k l ≡ replicate (length (Y.rest k l)) 0 = (all_zero-exactly (Y.rest k l)).0 v.rest in
      let written : length l ≡ length (Y.write fs) + length (Y.rest k l) = ap length (sym r.whole) ∙ length-append (Y.write fs) (Y.rest k l) in
      let free : slots_for limit - length (m ∷ c ∷ length fs ∷ n ∷ Y.write fs) ≡ length (Y.rest k l) = omega (arith, v.size) in
      let count : length fs ≡ k = length-map ks factor_of ∙ r.count in (
        record {
          field = v.field;
          cutoff-least = v.cutoff-least;
          cutoff-most = v.cutoff-most;
          factors = tests-fair m fs (subst (Tests m) (sym r.exact) v.factors);
          sum = subst (λ s. s ≤ limit) sum v.sum;
          steps = subst (λ s. n ≤ m * (s / suc (Y.unmark c))) sum v.steps;
        },
        ap₂ (λ (x : ℕ) (u : List ℕ). m ∷ x ∷ u) (L.mark-unmark c v.cutoff-least)
            (ap₂ (λ (j z : ℕ). j ∷ n ∷ Y.write fs ++ replicate z 0) count free ∙ ap (λ u. k ∷ n ∷ Y.write fs ++ u) (sym zeros) ∙ ap (λ u. k ∷ n ∷ u) r.whole),
      )

  -- the table held
  pub sound-valid : (known : ℕ → Bool) (limit : ℕ) (l : List ℕ) → sound Y known limit l ≡ true → Valid known limit (decode Y l)
  sound-valid known limit l h = (sound-holds known limit l ((sound-rules Y known limit l).0 h)).0

  -- and nothing besides
  pub sound-encoded : (known : ℕ → Bool) (limit : ℕ) (l : List ℕ) → sound Y known limit l ≡ true → encode Y (slots_for limit) (decode Y l) ≡ l
  sound-encoded known limit l h = (sound-holds known limit l ((sound-rules Y known limit l).0 h)).1

  -- ---- the encoding of a valid table is sound

  pub encode-sound : (known : ℕ → Bool) (limit : ℕ) (t : Table) → Valid known limit t → sound Y known limit (encode Y (slots_for limit) t) ≡ true
  unfolding encode
  encode-sound known limit t v =
      let fs : List Factor = t.factors in
      let z : ℕ = slots_for limit - length (filled_slots t) in
      let e : Y.unmark (Y.mark t.cutoff) ≡ t.cutoff = L.unmark-mark t.cutoff in
      let read : Y.read (length fs) (Y.write fs ++ replicate z 0) ≡ map stated fs = L.read-write fs (replicate z 0) in
      let rest : Y.rest (length fs) (Y.write fs ++ replicate z 0) ≡ replicate z 0 = L.rest-write fs (replicate z 0) in
      (sound-rules Y known limit (filled_slots t ++ replicate z 0)).1 (record {
        size = length-append (filled_slots t) (replicate z 0) ∙ omega (arith, length-replicate {A = ℕ} z 0, filled_slots-within v);
        field = v.field;
        cutoff-least = rw e v.cutoff-least;
        cutoff-most = rw e v.cutoff-most;
        count = count-within v;
        factors = rw read (fair-tests t.width fs v.factors);
        sum = rw (read, stated-sum fs) v.sum;
        steps = rw (read, stated-sum fs, e) v.steps;
        rest = rw rest ((all_zero-exactly (replicate z 0)).1 (ap (λ n. replicate n 0) (sym (length-replicate {A = ℕ} z 0))));
      })

  -- SOUND SLOTS are exactly the encodings of valid tables
  pub sound-exactly : (known : ℕ → Bool) (limit : ℕ) (l : List ℕ) → (sound Y known limit l ≡ true) ↔ ((t : Table) × Valid known limit t × (encode Y (slots_for limit) t ≡ l))
  sound-exactly known limit l = (
    λ h. (decode Y l, sound-valid known limit l h, sound-encoded known limit l h),
    λ k. subst (λ u. sound Y known limit u ≡ true) k.2 (encode-sound known limit k.0 k.1),
  )
