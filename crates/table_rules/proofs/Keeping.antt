-- A step that is taken keeps every sound table sound, begun or not: degrees add up, coefficients stay in the field,
-- levels and slot 3 stay within their limits.
--   LosslessHalving  a halving whose two parts have, together, the degree of the whole, and coefficients below
--                    2^m;  trace-halves  the one by trace polynomials
--   stuck-exactly    refusal 9 is given exactly where some factor is above the cutoff, and the first such has level m
--                    or slot 3 is at its limit
--   stuck-order      on a valid table that is "or more" in both
--   Free, free       a table that is neither done nor refused by 9: the first factor above the cutoff is below level
--                    m, and slot 3 below its limit
--   step-valid       a step keeps a table valid
--   STEP-SOUND       a step keeps slots sound
--   step-slots       the slots after a step hold the table after it
-- Assumes nothing.
use mathlib.Core.Path.{◌≡◌, refl, sym, ap, ap₂, ◌∙◌, subst}
use mathlib.Core.Logic.{◌↔◌, ◌⊎◌, inl, inr}
use mathlib.Core.Bool.{Bool, true, false, not, ◌&&◌, ◌||◌, true≢false, false≢true}
use mathlib.Core.List.{List, [], ◌∷◌, ◌++◌}
use Prim.Native.Nat.{ℕ, zero, suc, ◌+◌, ◌*◌, ◌/◌, ◌^◌, ◌≤◌, ◌<◌}
use native.Mathlib.Omega.{arith}
use borrow.Author.Tests.{eqb-true, eq-eqb, ne_eqb, leb-true, leb-false}
use lib.Arith.{lt_of_le-ne}
use lib.Dec.{eqb, leb}
use lib.ListN.{length}
use Rattle.algebra.specs.Field.{Ops, power}
use Rattle.algebra.specs.Trial.{All}
use Rattle.algebra.specs.Polynomial.{Below, trace_of}
use Rattle.algebra.specs.Routines.{gcd}
use Rattle.algebra.proofs.StaysBelow.{gcd-below, cofactor-below, trace_of-below}
use Rattle.algebra.proofs.Lengths.{length-parts}
use Rattle.field.specs.Rows.{known}
use Rattle.input.proofs.Fields.{BinaryField, known-field, level-below}
use Rattle.table_rules.specs.Entries.{Halving, unless_empty, parts, split_entries, entry_at, first_above, step}
use Rattle.table_rules.specs.Layout.{Factor, Layout, degree_sum, Lawful}
use Rattle.table_rules.specs.Table.{Table, limit_of, slots_for, encode, decode, sound}
use Rattle.table_rules.specs.Splitting.{trace_halving, is_done, first_factor, stuck, step_table, halving_at, slots_done, slots_stuck, slots_stepped}
use Rattle.table_rules.proofs.Lists.{all_append}
use Rattle.table_rules.proofs.Soundness.{Fair, Valid, sound-valid, sound-encoded, encode-sound, length-encode}

-- ---- refusal 9

-- given exactly when
pub stuck-exactly : (t : Table) → (stuck t ≡ true) ↔ ((is_done t ≡ false) × (((first_factor t).0 ≡ t.width) ⊎ (t.taken ≡ limit_of t)))
stuck-exactly t = (
  λ h. told (is_done t) (eqb (first_factor t).0 t.width) (eqb t.taken (limit_of t)) refl refl refl h,
  λ k. holds k.0 k.1,
)
  where
    told : (d a b : Bool) → is_done t ≡ d → eqb (first_factor t).0 t.width ≡ a → eqb t.taken (limit_of t) ≡ b → (not d && (a || b)) ≡ true
        → (is_done t ≡ false) × (((first_factor t).0 ≡ t.width) ⊎ (t.taken ≡ limit_of t))
    told true a b p q r h = absurd (false≢true h)
    told false true b p q r h = (p, inl (eqb-true (first_factor t).0 t.width q))
    told false false true p q r h = (p, inr (eqb-true t.taken (limit_of t) r))
    told false false false p q r h = absurd (false≢true h)

    right : (a : Bool) → (a || true) ≡ true
    right true = refl
    right false = refl

    holds : is_done t ≡ false → ((first_factor t).0 ≡ t.width) ⊎ (t.taken ≡ limit_of t) → stuck t ≡ true
    holds d (inl e) = rw (d, eq-eqb (first_factor t).0 t.width e)
    holds d (inr e) = rw (d, eq-eqb t.taken (limit_of t) e) (right (eqb (first_factor t).0 t.width))

-- every entry, and none past the end, has a level of at most m
level-most : (m : ℕ) (l : List Factor) → All (Fair m) l → (k : ℕ) → (entry_at l k).0 ≤ m
level-most m [] h k = omega arith
level-most m (e ∷ l) h zero = h.0.level
level-most m (e ∷ l) h (suc k) = level-most m l h.1 k

-- as code compares
pub stuck-order : {fields : ℕ → Bool} {limit : ℕ} {t : Table} → Valid fields limit t
    → stuck t ≡ (not (is_done t) && (leb t.width (first_factor t).0 || leb (limit_of t) t.taken))
stuck-order {t = t} v =
    ap₂ (λ (a b : Bool). not (is_done t) && (a || b))
    (turn (first_factor t).0 t.width (level-most t.width t.factors v.factors (first_above t.cutoff t.factors)))
    (turn t.taken (limit_of t) v.steps)
  where
    turn : (x y : ℕ) → x ≤ y → eqb x y ≡ leb y x
    turn x y h = go (leb y x) refl
      where
        go : (b : Bool) → leb y x ≡ b → eqb x y ≡ b
        go true e = eq-eqb x y (omega (arith, leb-true y x e))
        go false e = ne_eqb x y (λ z. omega (arith, leb-false y x e))

-- a step may be taken
pub record Free (t : Table) : Type 0 where
  pub level : (first_factor t).0 < t.width
  pub steps : t.taken < limit_of t

-- it may where neither "done" nor 9 is answered
pub free : {fields : ℕ → Bool} {limit : ℕ} (t : Table) → Valid fields limit t → is_done t ≡ false → stuck t ≡ false → Free t
free t v d s =
    let no : ((first_factor t).0 ≡ t.width) ⊎ (t.taken ≡ limit_of t) → ⊥ = λ o. true≢false (sym ((stuck-exactly t).1 (d, o)) ∙ s) in
    record {
      level = lt_of_le-ne (level-most t.width t.factors v.factors (first_above t.cutoff t.factors)) (λ e. no (inl e));
      steps = lt_of_le-ne v.steps (λ e. no (inr e));
    }

-- ---- one split

-- nothing is lost
pub record LosslessHalving (H : Halving ℕ) (m i : ℕ) (p : List ℕ) : Type 0 where
  pub sum : length (H.low i p) + length (H.high i p) ≡ length p
  pub low : Below (2 ^ m) (H.low i p)
  pub high : Below (2 ^ m) (H.high i p)

-- gcd and cofactor share out the degree
pub trace-halves : {G : Ops ℕ} {m a : ℕ} → BinaryField G m a → (i : ℕ) (p : List ℕ) → Below (2 ^ m) p → LosslessHalving (trace_halving G m a) m i p
trace-halves {G} {m} {a} B i p h =
    let t : List ℕ = trace_of G m (power G a i) in
    let small : Below (2 ^ m) t = trace_of-below B.numbers m (power G a i) (level-below B i) in
    let g : Below (2 ^ m) (gcd G p t) = gcd-below B.numbers p t h small in
    record { sum = length-parts G p t; low = g; high = cofactor-below B.numbers p (gcd G p t) h g }

-- of two lists, one behind the other
degree_sum-append : (l r : List Factor) → degree_sum (l ++ r) ≡ degree_sum l + degree_sum r
unfolding degree_sum
degree_sum-append [] r = omega arith
degree_sum-append (e ∷ l) r = omega (arith, degree_sum-append l r)

-- of one entry, or none
degree_sum-entry : (i : ℕ) (s : List ℕ) → degree_sum (unless_empty i s) ≡ length s
unfolding degree_sum unless_empty
degree_sum-entry i [] = refl
degree_sum-entry i (x ∷ s) = omega arith

-- an entry within the rules
pub entry-fair : (m i : ℕ) (s : List ℕ) → i ≤ m → Below (2 ^ m) s → All (Fair m) (unless_empty i s)
unfolding unless_empty
entry-fair m i [] h k = tt
entry-fair m i (x ∷ s) h k = (record { level = h; degree = omega arith; coefficients = k }, tt)

module _ (H : Halving ℕ) (m : ℕ) (halves : (i : ℕ) (p : List ℕ) → Below (2 ^ m) p → LosslessHalving H m i p) where
  -- the parts of a factor have its degree
  pub parts-sum : (e : Factor) → Fair m e → degree_sum (parts H e) ≡ length e.1
  unfolding parts
  parts-sum e h =
      degree_sum-append (unless_empty (suc e.0) (H.low e.0 e.1)) (unless_empty (suc e.0) (H.high e.0 e.1))
      ∙ ap₂ ◌+◌ (degree_sum-entry (suc e.0) (H.low e.0 e.1)) (degree_sum-entry (suc e.0) (H.high e.0 e.1))
      ∙ (halves e.0 e.1 h.coefficients).sum

  -- and are within the rules, one level further
  parts-fair : (e : Factor) → Fair m e → e.0 < m → All (Fair m) (parts H e)
  unfolding parts
  parts-fair e h g =
      let t = halves e.0 e.1 h.coefficients in
      all_append (Fair m) (unless_empty (suc e.0) (H.low e.0 e.1)) (unless_empty (suc e.0) (H.high e.0 e.1))
      (entry-fair m (suc e.0) (H.low e.0 e.1) g t.low) (entry-fair m (suc e.0) (H.high e.0 e.1) g t.high)

  split-sum : (k : ℕ) (l : List Factor) → All (Fair m) l → degree_sum (split_entries H k l) ≡ degree_sum l
  unfolding split_entries degree_sum
  split-sum k [] h = refl
  split-sum zero (e ∷ l) h = degree_sum-append (parts H e) l ∙ ap (λ n. n + degree_sum l) (parts-sum e h.0)
  split-sum (suc k) (e ∷ l) h = ap (λ n. length e.1 + n) (split-sum k l h.1)

  split-fair : (k : ℕ) (l : List Factor) → All (Fair m) l → (entry_at l k).0 < m → All (Fair m) (split_entries H k l)
  unfolding split_entries
  split-fair k [] h g = tt
  split-fair zero (e ∷ l) h g = all_append (Fair m) (parts H e) l (parts-fair e h.0 g) h.1
  split-fair (suc k) (e ∷ l) h g = (h.0, split-fair k l h.1 g)

-- ---- a step

module _ (H : Halving ℕ) {fields : ℕ → Bool} {limit : ℕ} (t : Table) (halves : (i : ℕ) (p : List ℕ) → Below (2 ^ t.width) p → LosslessHalving H t.width i p) where
  -- A STEP keeps a table valid
  pub step-valid : Valid fields limit t → is_done t ≡ false → stuck t ≡ false → Valid fields limit (step_table H t)
  unfolding step
  step-valid v n s =
      let k : ℕ = first_above t.cutoff t.factors in
      let f : Free t = free t v n s in
      let same : degree_sum (split_entries H k t.factors) ≡ degree_sum t.factors = split-sum H t.width halves k t.factors v.factors in
      record {
        field = v.field;
        cutoff-least = v.cutoff-least;
        cutoff-most = v.cutoff-most;
        factors = split-fair H t.width halves k t.factors v.factors f.level;
        sum = subst (λ d. d ≤ limit) (sym same) v.sum;
        steps = subst (λ d. suc t.taken ≤ t.width * (d / suc t.cutoff)) (sym same) f.steps;
      }

module _ {Y : Layout} (L : Lawful Y) (limit : ℕ) (l : List ℕ) (h : sound Y known limit l ≡ true) where
  -- sound slots are as many as they should be
  pub sound-length : length l ≡ slots_for limit
  sound-length = ap length (sym (sound-encoded L known limit l h)) ∙ length-encode L (sound-valid L known limit l h)

  -- and is written in as many slots
  pub step-slots : slots_stepped Y l ≡ encode Y (slots_for limit) (step_table (halving_at (decode Y l).width) (decode Y l))
  unfolding slots_stepped
  step-slots = ap (λ n. encode Y n (step_table (halving_at (decode Y l).width) (decode Y l))) sound-length

  -- A STEP KEEPS SOUNDNESS, in any layout and each known field: of slots that are not done and not refused
  pub step-sound : slots_done Y l ≡ false → slots_stuck Y l ≡ false → sound Y known limit (slots_stepped Y l) ≡ true
  unfolding slots_done slots_stuck
  step-sound d s =
      let t : Table = decode Y l in
      let v : Valid known limit t = sound-valid L known limit l h in
      rw step-slots (encode-sound L known limit (step_table (halving_at t.width) t)
      (step-valid (halving_at t.width) t (trace-halves (known-field t.width v.field)) v d s))
