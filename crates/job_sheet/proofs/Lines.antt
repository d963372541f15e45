-- A field's line with one entry more, and the lines of all fields.
--   under-number, under-field   an entry of another number, or of another field, is not counted there
--   line-accepted     an accepted record of the field
--   line_refused      one that is refused
--   line_other        an entry of another field changes nothing;  line-apart  nor one under another number
--   Told              lines tell the figures of entries
--   told-set          with one entry more its field's line is set;  told_same  where no line changes
--   no_line            what is read behind the end of an array of lines
--   told_none         the lines of no entries
--   told_line         the line of a known field
--   room-for-record, room-for-refusal   one more can be counted, where there are few entries
-- Assumes nothing.
use Rattle.std.proofs.Common.{◌≡◌, ℕ, zero, suc, ◌+◌, ◌-◌, ◌^◌, ◌<◌, ◌≤◌, Bool, true, false, ◌&&◌, eqb, List, [], ◌∷◌, ◌++◌, map, length, get_or, set, replicate, sym, refl, ap, ◌∙◌, ap₂, arith, eq-eqb, ne_eqb}
use Rattle.std.specs.Prelude.{Option, None}
use lib.ListN.{get_or-map}
use Rattle.field.specs.Rows.{known}
use Rattle.job_sheet.specs.Entries.{Entry}
use Rattle.job_sheet.specs.Figures.{count_of, sum_of, under, accepted_in, Peak, highest_from, refused_numbers}
use Rattle.job_sheet.specs.Figures.{FieldFigures, figures_at}
use Rattle.job_sheet.specs.Calls.{told_field}
use Rattle.job_sheet.specs.Adding.{place_in, degrees, place_of, no_figures, with_accepted, with_refused}
use Rattle.job_sheet.specs.Adding.{RoomForRecord, RoomForRefusal}
use Rattle.job_sheet.specs.declared.FieldLine.{FieldLine}
use Rattle.job_sheet.specs.declared.Counted.{Counted}
use Rattle.job_sheet.proofs.Counts.{count_yes, count_no, count-few, sum-yes, sum-no, highest-same, highest-more}
use Rattle.job_sheet.proofs.Places.{is_in, apart, known-in, unchanged, changed, at_place}

-- 2 stands first
refused-place : (n : ℕ) → 2 ≤ n → n ≤ 6 → (place_in refused_numbers n ≡ n - 2) × (is_in refused_numbers n ≡ true)
unfolding place_in is_in
refused-place zero l h = absurd (let b : ⊥ = omega arith in b)
refused-place (suc zero) l h = absurd (let b : ⊥ = omega arith in b)
refused-place (suc (suc zero)) l h = (refl, refl)
refused-place (suc (suc (suc zero))) l h = (refl, refl)
refused-place (suc (suc (suc (suc zero)))) l h = (refl, refl)
refused-place (suc (suc (suc (suc (suc zero))))) l h = (refl, refl)
refused-place (suc (suc (suc (suc (suc (suc zero)))))) l h = (refl, refl)
refused-place (suc (suc (suc (suc (suc (suc (suc n))))))) l h = absurd (let b : ⊥ = omega arith in b)

-- ---- one entry more

and_no : (a b : Bool) → b ≡ false → (a && b) ≡ false
and_no true b e = e
and_no false b e = refl

-- figures that agree in each part
same-figures : {a b s t u v : ℕ} {r q : List ℕ} {p h : Option Peak} → a ≡ b → r ≡ q → s ≡ t → u ≡ v → p ≡ h
    → ◌≡◌ {A = FieldFigures} (record { accepted = a; refused = r; roots = s; steps = u; highest = p })
    (record { accepted = b; refused = q; roots = t; steps = v; highest = h })
same-figures e f g h i = cc

module _ (m : ℕ) (es : List Entry) (e : Entry) where
  under-number : (k : ℕ) → (e.number ≡ k → ⊥) → under m k e ≡ false
  under-number k n = and_no (eqb e.field m) (eqb e.number k) (ne_eqb e.number k n)

  under-field : (k : ℕ) → (e.field ≡ m → ⊥) → under m k e ≡ false
  under-field k n = ap (λ b. b && eqb e.number k) (ne_eqb e.field m n)

  under-both : (k : ℕ) → e.field ≡ m → e.number ≡ k → under m k e ≡ true
  under-both k f n = ap₂ (λ a b. a && b) (eq-eqb e.field m f) (eq-eqb e.number k n)

  -- the refusals, where the entry is under a number that none of them has
  refused-kept : (n : ℕ) → is_in refused_numbers n ≡ false → ((k : ℕ) → (k ≡ n → ⊥) → under m k e ≡ false)
      → (figures_at (es ++ e ∷ []) m).refused ≡ (figures_at es m).refused
  refused-kept n i d =
      unchanged (λ k. count_of (under m k) es) (λ k. count_of (under m k) (es ++ e ∷ [])) n
      (λ k x. count_no (under m k) es e (d k x)) refused_numbers i

  -- nothing is counted
  line_kept : (n : ℕ) → is_in refused_numbers n ≡ false → ((k : ℕ) → (k ≡ n → ⊥) → under m k e ≡ false)
      → accepted_in m e ≡ false
      → figures_at (es ++ e ∷ []) m ≡ figures_at es m
  line_kept n i d z =
      same-figures (count_no (accepted_in m) es e z) (refused-kept n i d) (sum-no (λ x. x.roots) (accepted_in m) es e z)
      (sum-no (λ x. x.steps) (accepted_in m) es e z) (highest-same m es e z)

  line_other : (e.field ≡ m → ⊥) → figures_at (es ++ e ∷ []) m ≡ figures_at es m
  unfolding is_in
  line_other n = line_kept 0 refl (λ k d. under-field k n) (under-field 0 n)

  -- the number is that of no refusal, and not 0
  pub line-apart : (n : ℕ) → is_in refused_numbers n ≡ false → 0 < n → e.number ≡ n
      → figures_at (es ++ e ∷ []) m ≡ figures_at es m
  line-apart n i h f = line_kept n i (λ k d. under-number k (λ x. d (sym x ∙ f))) (under-number 0 (λ x. omega arith))

  pub line-accepted : e.field ≡ m → e.number ≡ 0
      → figures_at (es ++ e ∷ []) m ≡ with_accepted (figures_at es m) (suc (length es)) e.roots e.steps e.limit
  unfolding is_in
  line-accepted f z =
      let y : accepted_in m e ≡ true = under-both 0 f z in
      same-figures (count_yes (accepted_in m) es e y) (refused-kept 0 refl (λ k d. under-number k (λ x. d (sym x ∙ z))))
      (sum-yes (λ d. d.roots) (accepted_in m) es e y) (sum-yes (λ d. d.steps) (accepted_in m) es e y)
      (highest-more m es e y)

  pub line_refused : (n : ℕ) → e.field ≡ m → e.number ≡ n → 2 ≤ n → n ≤ 6
      → figures_at (es ++ e ∷ []) m ≡ with_refused (figures_at es m) n
  unfolding is_in apart
  line_refused n f z l h =
      let out : accepted_in m e ≡ false = under-number 0 (λ x. omega arith) in
      let p = refused-place n l h in
      let was : get_or (figures_at es m).refused (n - 2) 0 ≡ count_of (under m n) es =
      ap (λ i. get_or (figures_at es m).refused i 0) (sym p.0)
      ∙ at_place (λ k. count_of (under m k) es) 0 n refused_numbers p.1 in
      let set_there = changed (λ k. count_of (under m k) es) (λ k. count_of (under m k) (es ++ e ∷ [])) n
      (λ k d. count_no (under m k) es e (under-number k (λ x. d (sym x ∙ z)))) refused_numbers refl p.1 in
      same-figures (count_no (accepted_in m) es e out)
      (set_there
      ∙ ap₂ (λ i v. set (figures_at es m).refused i v) p.0
      (count_yes (under m n) es e (under-both n f z) ∙ ap (λ v. v + 1) (sym was)))
      (sum-no (λ d. d.roots) (accepted_in m) es e out) (sum-no (λ d. d.steps) (accepted_in m) es e out)
      (highest-same m es e out)

-- ---- the lines of all fields

pub record Told (es : List Entry) (lines : List FieldLine) : Type 0 where
  pub are : map told_field lines ≡ map (figures_at es) degrees

pub record LineOf (m : ℕ) (es : List Entry) (l : FieldLine) : Type 0 where
  pub is : told_field l ≡ figures_at es m

-- what is read behind the end of an array of lines
abbrev pub no_line : FieldLine
no_line = record {
  accepted = 0;
  refused = [];
  roots = 0;
  steps = 0;
  highest = None;
}

map-set : {A B : Type 0} (f : A → B) (l : List A) (i : ℕ) (y : A) → map f (set l i y) ≡ set (map f l) i (f y)
map-set f [] i y = refl
map-set f (x ∷ l) zero y = refl
map-set f (x ∷ l) (suc i) y = ap (λ r. f x ∷ r) (map-set f l i y)

-- the same line for each key
none_each : (l : FieldLine) → told_field l ≡ no_figures → (ks : List ℕ)
    → map told_field (replicate (length ks) l) ≡ map (figures_at []) ks
unfolding count_of sum_of highest_from
none_each l e [] = refl
none_each l e (k ∷ ks) = ap₂ (λ x xs. x ∷ xs) e (none_each l e ks)

pub told_none : (l : FieldLine) → told_field l ≡ no_figures → Told [] (replicate (length degrees) l)
told_none l e = record {
  are = none_each l e degrees;
}

pub told_same : {es : List Entry} {lines : List FieldLine} (ds : List Entry) → Told es lines
    → ((m : ℕ) → figures_at ds m ≡ figures_at es m) → Told ds lines
unfolding is_in
told_same {es} ds t h = record {
  are = t.are ∙ sym (unchanged (figures_at es) (figures_at ds) 0 (λ k d. h k) degrees refl);
}

module _ {es : List Entry} {lines : List FieldLine} (t : Told es lines) {m i : ℕ} (k : known m ≡ true)
    (p : i ≡ place_of m) where
  pub told-set : (e : Entry) {l : FieldLine} → e.field ≡ m → LineOf m (es ++ e ∷ []) l
      → Told (es ++ e ∷ []) (set lines i l)
  unfolding is_in apart
  told-set e {l} f h = record {
    are = map-set told_field lines i l ∙ ap₂ (λ a b. set a i b) t.are h.is
        ∙ ap (λ j. set (map (figures_at es) degrees) j (figures_at (es ++ e ∷ []) m)) p
        ∙ sym (changed (figures_at es) (figures_at (es ++ e ∷ [])) m (λ j d. line_other j es e (λ x. d (sym x ∙ f)))
        degrees refl (known-in m k));
  }

  pub told_line : (d : FieldLine) → LineOf m es (get_or lines i d)
  told_line d = record {
    is = sym (get_or-map told_field lines i d) ∙ ap₂ (λ l j. get_or l j (told_field d)) t.are p
        ∙ at_place (figures_at es) (told_field d) m degrees (known-in m k);
  }

-- ---- room

module _ {es : List Entry} {m : ℕ} {l : FieldLine} (t : LineOf m es l) where
  pub room-for-record : {c : Counted} → length es + 1 < 2 ^ 64
      → sum_of (λ e. e.roots) (accepted_in m) es + c.roots < 2 ^ 64
      → sum_of (λ e. e.steps) (accepted_in m) es + c.steps < 2 ^ 128 → RoomForRecord l c
  room-for-record a r s = record {
    accepted = omega (arith, ap (λ f. f.accepted) t.is, count-few (accepted_in m) es);
    roots = omega (arith, ap (λ f. f.roots) t.is);
    steps = omega (arith, ap (λ f. f.steps) t.is);
  }

  pub room-for-refusal : (n : ℕ) → 2 ≤ n → n ≤ 6 → length es + 1 < 2 ^ 64 → RoomForRefusal l n
  room-for-refusal n low high few =
      let p = refused-place n low high in
      let was : get_or l.refused (n - 2) 0 ≡ count_of (under m n) es =
      ap₂ (λ r i. get_or r i 0) (ap (λ f. f.refused) t.is) (sym p.0)
      ∙ at_place (λ k. count_of (under m k) es) 0 n refused_numbers p.1 in
      record { least = low; most = high; count = omega (arith, count-few (under m n) es) }
