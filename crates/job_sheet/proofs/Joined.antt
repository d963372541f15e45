-- The figures of two files one behind the other (docs/RULES.md section 13.3): sums, and the better of the highest.
--   counted-better             counting on changes no comparison
--   highest-counted            the highest, where n outcomes stand before
--   highest-joined             the highest of both: the better of the one, and of the other counted on
--   figures-joined             THE FIGURES of entries one behind the other, where the first add up
--   file-joined                so of files, where the first ends cleanly
-- Assumes nothing.
use Rattle.std.proofs.Common.{◌≡◌, ℕ, suc, ◌+◌, Bool, true, false, cond, List, [], ◌∷◌, ◌++◌, map, length, sym, refl, ap, ◌∙◌, ap₂, add_comm, arith}
use Rattle.std.specs.Prelude.{Option, Some, None}
use Rattle.field.specs.Rows.{rows}
use Rattle.job_sheet.specs.Entries.{Entry, entries}
use Rattle.job_sheet.specs.Figures.{count_of, numbered, under, accepted_in, competes, Peak, peak_of, stands_lower, better}
use Rattle.job_sheet.specs.Figures.{highest_from, refused_numbers, FieldFigures, figures_at, figures_of}
use Rattle.job_sheet.specs.Joined.{outcomes_in, peak_on, counted_on, plus_each, joined_field, joined_fields, joined_figures}
use Rattle.job_sheet.proofs.Better.{highest-append}
use Rattle.job_sheet.proofs.Counts.{count-append, sum-append}
use Rattle.job_sheet.proofs.AddUp.{file-adds-up}
use Rattle.job_sheet.proofs.Front.{Clean, entries-joined}

-- counts by place
each-joined : (t : ℕ → Entry → Bool) (a b : List Entry) (ks : List ℕ)
    → map (λ k. count_of (t k) (a ++ b)) ks ≡ plus_each (map (λ k. count_of (t k) a) ks) (map (λ k. count_of (t k) b) ks)
unfolding plus_each
each-joined t a b [] = refl
each-joined t a b (k ∷ ks) = ap₂ (λ n l. n ∷ l) (count-append (t k) a b) (each-joined t a b ks)

-- ---- a peak counted on

counted-better : (n : ℕ) (p q : Option Peak) → counted_on n (better p q) ≡ better (counted_on n p) (counted_on n q)
unfolding better
counted-better n None q = refl
counted-better n (Some p) None = refl
counted-better n (Some p) (Some q) = go (stands_lower p q)
  where
    go : (b : Bool)
        → counted_on n (Some (cond b q p)) ≡ Some (cond b (peak_on n q) (peak_on n p))
    go true = refl
    go false = refl

highest-counted : (n m k : ℕ) (es : List Entry) → highest_from m (n + k) es ≡ counted_on n (highest_from m k es)
unfolding highest_from
highest-counted n m k [] = refl
highest-counted n m k (e ∷ es) =
    let next : suc (n + k) ≡ n + suc k = omega arith in
    go (competes m e) (ap (λ i. highest_from m i es) next ∙ highest-counted n m (suc k) es)
  where
    go : (b : Bool) → highest_from m (suc (n + k)) es ≡ counted_on n (highest_from m (suc k) es)
        → cond b (better (Some (peak_of (n + k) e)) (highest_from m (suc (n + k)) es)) (highest_from m (suc (n + k)) es)
        ≡ counted_on n (cond b (better (Some (peak_of k e)) (highest_from m (suc k) es)) (highest_from m (suc k) es))
    go false h = h
    go true h =
        ap (better (Some (peak_of (n + k) e))) h
        ∙ sym (counted-better n (Some (peak_of k e)) (highest_from m (suc k) es))

highest-joined : (m : ℕ) (a b : List Entry)
    → highest_from m 1 (a ++ b) ≡ better (highest_from m 1 a) (counted_on (length a) (highest_from m 1 b))
highest-joined m a b =
    highest-append m 1 a b
    ∙ ap (better (highest_from m 1 a))
    (ap (λ i. highest_from m i b) (add_comm 1 (length a)) ∙ highest-counted (length a) m 1 b)

-- ---- figures

field-joined : (a b : List Entry) (m : ℕ)
    → figures_at (a ++ b) m ≡ joined_field (length a) (figures_at a m) (figures_at b m)
field-joined a b m = λ i. record {
  accepted = count-append (accepted_in m) a b i;
  refused = each-joined (under m) a b refused_numbers i;
  roots = sum-append (λ e. e.roots) (accepted_in m) a b i;
  steps = sum-append (λ e. e.steps) (accepted_in m) a b i;
  highest = highest-joined m a b i;
}

fields-joined : {A : Type 0} (n : ℕ) (f g h : A → FieldFigures) → ((x : A) → h x ≡ joined_field n (f x) (g x))
    → (l : List A)
    → map h l ≡ joined_fields n (map f l) (map g l)
unfolding joined_fields
fields-joined n f g h e [] = refl
fields-joined n f g h e (x ∷ l) = ap₂ (λ y k. y ∷ k) (e x) (fields-joined n f g h e l)

pub figures-joined : (a b : List Entry) → outcomes_in (figures_of a) ≡ length a
    → figures_of (a ++ b) ≡ joined_figures (figures_of a) (figures_of b)
figures-joined a b e = λ i. record {
  fields = (fields-joined (length a) (λ r. figures_at a r.0) (λ r. figures_at b r.0)
      (λ r. figures_at (a ++ b) r.0) (λ r. field-joined a b r.0) rows
      ∙ ap (λ n. joined_fields n (figures_of a).fields (figures_of b).fields) (sym e)) i;
  unknown = count-append (numbered 1) a b i;
  mark = count-append (numbered 11) a b i;
  short = count-append (numbered 12) a b i;
}

pub file-joined : (f g : List ℕ) → Clean (entries f)
    → figures_of (entries (f ++ g)) ≡ joined_figures (figures_of (entries f)) (figures_of (entries g))
file-joined f g c = ap figures_of (entries-joined f g c) ∙ figures-joined (entries f) (entries g) (file-adds-up f)
