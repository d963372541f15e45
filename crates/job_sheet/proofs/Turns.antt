-- The loop of the sheet: what is told before a place, and one record more.
--   Sheeting          the lines tell the figures of the entries before a place of the file
--   sheet-from        at the start
--   turn              one entry more
--   sheet-unknown     a record of an unknown field
--   sheet-refused     one that is refused under 2 to 6;  refusal-room  it can be counted
--   sheet-accepted    an accepted one;  record-room  it can be counted
--   sheet-over, sheet-stop   where reading ends, or stops
-- Assumes nothing.
use Rattle.std.proofs.Common.{◌≡◌, ℕ, zero, suc, ◌+◌, ◌-◌, ◌*◌, ◌^◌, ◌<◌, ◌≤◌, true, cond, eqb, ◌⊎◌, List, [], ◌∷◌, ◌++◌, length, get_or, drop, set, replicate, sym, refl, ap, ◌∙◌, subst, ap₂, inl, inr, append_assoc, append-nil, zero-add, arith, length-append, eq-eqb, ne_eqb}
use Rattle.field.specs.Rows.{known}
use Rattle.job_records.specs.Layout.{degree_byte}
use Rattle.job_records.specs.Reading.{Outcome, told_read, read_at}
use Rattle.job_records.specs.declared.Job.{Job}
use Rattle.job_records.specs.declared.Read.TheVariants.{Record}
use Rattle.job_records.proofs.Forward.{stops-only, goes-only}
use Rattle.job_sheet.specs.Entries.{Entry, entry_here, entries}
use Rattle.job_sheet.specs.Figures.{count_of, sum_of, numbered, accepted_in, FieldFigures, figures_at, figures_of}
use Rattle.job_sheet.specs.Calls.{told_field, told_sheet, Sheets}
use Rattle.job_sheet.specs.Adding.{degrees, place_of, no_figures, with_accepted, with_refused, ended_sheet, CountedIs}
use Rattle.job_sheet.specs.Adding.{RoomForRecord, RoomForRefusal}
use Rattle.job_sheet.specs.declared.FieldLine.{FieldLine}
use Rattle.job_sheet.specs.declared.Counted.{Counted}
use Rattle.job_sheet.specs.declared.Sheet.{Sheet}
use Rattle.job_sheet.proofs.Counts.{accepted-zero, count-more, count_yes, count_no, sum-append, sum_bound}
use Rattle.job_sheet.proofs.Places.{is_in}
use Rattle.job_sheet.proofs.Lines.{line-apart, line-accepted, line_refused, Told, told_none, told_same}
use Rattle.job_sheet.proofs.Lines.{told-set, told_line, room-for-record, room-for-refusal}
use Rattle.job_sheet.proofs.Bounds.{most_steps, total-few}
use Rattle.job_sheet.proofs.Outcomes.{entry-number, Next, read-on, read-stops, read-over}
use Rattle.job_sheet.proofs.Readings.{read-least, read_known, AcceptedEntry, accepted-known, read-accepted}
use Rattle.job_sheet.proofs.Readings.{accepted-roots}

-- k of them were read, and none of these stopped the reader
pub record Sheeting (file : List ℕ) (lines : List FieldLine) (unknown at k : ℕ) : Type 0 where
  pub front : List Entry
  pub number : k ≡ length front
  pub within : at ≤ length file
  pub few : 5 * length front ≤ at
  pub all : entries file ≡ front ++ entries (drop at file)
  pub told : Told front lines
  pub strange : unknown ≡ count_of (numbered 1) front
  pub mark : count_of (numbered 11) front ≡ 0
  pub short : count_of (numbered 12) front ≡ 0
  pub roots : (m : ℕ) → sum_of (λ e. e.roots) (accepted_in m) front ≤ at

pub sheet-from : (file : List ℕ) (l : FieldLine) → told_field l ≡ no_figures
    → Sheeting file (replicate (length degrees) l) 0 0 0
unfolding count_of sum_of
sheet-from file l e = record {
  front = [];
  number = refl;
  within = omega arith;
  few = omega arith;
  all = refl;
  told = told_none l e;
  strange = refl;
  mark = refl;
  short = refl;
  roots = λ m. omega arith;
}

-- what is counted on the same is the same
alike : {f g : FieldFigures} {a b x y t u l k : ℕ} → f ≡ g → a ≡ b → x ≡ y → t ≡ u → l ≡ k
    → with_accepted f a x t l ≡ with_accepted g b y u k
alike {f} {g} {a} {b} {x} {y} {t} {u} {l} {k} d e h i j =
    ap (λ z. with_accepted z a x t l) d ∙ ap (λ z. with_accepted g z x t l) e ∙ ap (λ z. with_accepted g b z t l) h
    ∙ ap (λ z. with_accepted g b y z l) i ∙ ap (with_accepted g b y u) j

-- the field of an entry is its record's
entry-field : (r : List ℕ) → (entry_here r).field ≡ degree_byte r
unfolding entry_here
entry-field r = refl

module _ {file : List ℕ} {lines : List FieldLine} {unknown at k : ℕ} (s : Sheeting file lines unknown at k) where
  -- the entry here, and the entries with it
  abbrev entry : Entry
  entry = entry_here (drop at file)

  abbrev more : List Entry
  more = s.front ++ entry ∷ []

  -- the steps before the place are few
  steps-before : (m : ℕ) → sum_of (λ e. e.steps) (accepted_in m) s.front ≤ most_steps * length file
  steps-before m =
      omega (
        arith,
        ap (sum_of (λ e. e.steps) (accepted_in m)) s.all,
        sum-append (λ e. e.steps) (accepted_in m) s.front (entries (drop at file)),
        total-few m 0 file,
      )

  -- where the entry is under another number, as many are unknown as before
  strange-kept : (entry.number ≡ 1 → ⊥) → unknown ≡ count_of (numbered 1) more
  strange-kept n = s.strange ∙ sym (count_no (numbered 1) s.front entry (ne_eqb entry.number 1 n))

  pub turn : {lines' : List FieldLine} {unknown' next : ℕ} → Next file at next → entry.number ≤ 6
      → (entry.number ≡ 0 → at + entry.roots ≤ next) → Told more lines' → unknown' ≡ count_of (numbered 1) more
      → Sheeting file lines' unknown' next (k + 1)
  turn {next = next} n six small t u =
      let ahead = n.ahead in
      let long : length more ≡ length s.front + 1 = length-append s.front (entry ∷ []) in
      record {
        front = more;
        number = omega (arith, s.number);
        within = n.within;
        few = omega (arith, s.few);
        all =
            s.all ∙ ap (λ es. s.front ++ es) n.are
            ∙ sym (append_assoc s.front (entry ∷ []) (entries (drop next file)));
        told = t;
        strange = u;
        mark = count_no (numbered 11) s.front entry (ne_eqb entry.number 11 (λ x. omega arith)) ∙ s.mark;
        short = count_no (numbered 12) s.front entry (ne_eqb entry.number 12 (λ x. omega arith)) ∙ s.short;
        roots = λ m.
            let b =
            sum_bound (λ e. e.roots) (accepted_in m) s.front entry (next - at)
            (λ y. let h = small (accepted-zero m entry y) in omega arith) in
            omega (arith, s.roots m);
      }

  -- ---- a refused record

  module _ {x next : ℕ} (g : read_at file at ≡ Outcome.gives x (next ∷ [])) where
    its-number : entry.number ≡ x
    its-number = entry-number file at g

    -- it is not accepted
    not-small : entry.number ≡ 0 → at + entry.roots ≤ next
    not-small z = absurd (let b : ⊥ = omega (arith, its-number, read-least file at g) in b)

    its-turn : {lines' : List FieldLine} {unknown' : ℕ} → Told more lines' → unknown' ≡ count_of (numbered 1) more
        → Sheeting file lines' unknown' next (k + 1)
    its-turn t u = turn (read-on file at g) (omega (arith, its-number, goes-only file at g)) not-small t u

    pub sheet-unknown : x ≡ 1 → Sheeting file lines (unknown + 1) next (k + 1)
    unfolding is_in
    sheet-unknown e =
        its-turn (told_same more s.told (λ m. line-apart m s.front entry 1 refl (omega arith) (its-number ∙ e)))
        (ap (λ n. n + 1) s.strange
        ∙ sym (count_yes (numbered 1) s.front entry (eq-eqb entry.number 1 (its-number ∙ e))))

    module _ (n : x ≡ 1 → ⊥) {m i : ℕ} (f : m ≡ degree_byte (drop at file)) (p : i ≡ place_of m) where
      refused-known : known m ≡ true
      refused-known = ap known f ∙ read_known file at g n

      low : 2 ≤ x
      low = let l = read-least file at g in let d : x ≡ 1 → ⊥ = n in go x refl l
        where
          go : (y : ℕ) → x ≡ y → 1 ≤ x → 2 ≤ x
          go zero e l = omega arith
          go (suc zero) e l = absurd (n e)
          go (suc (suc y)) e l = omega arith

      pub refusal-room : (d : FieldLine) {z : ℕ} → z ≡ x → length file < 2 ^ 64 → RoomForRefusal (get_or lines i d) z
      refusal-room d {z} e l =
          let o = read-on file at g in
          subst (RoomForRefusal (get_or lines i d)) (sym e)
          (room-for-refusal (told_line s.told refused-known p d) x low (goes-only file at g)
          (omega (arith, s.few, o.ahead, o.within)))

      pub sheet-refused : (d : FieldLine) {z : ℕ} (l : FieldLine) → z ≡ x
          → told_field l ≡ with_refused (told_field (get_or lines i d)) z
          → Sheeting file (set lines i l) unknown next (k + 1)
      sheet-refused d {z} l e h =
          let field : entry.field ≡ m = entry-field (drop at file) ∙ sym f in
          its-turn
          (told-set s.told refused-known p entry field (record {
            is = h ∙ ap₂ with_refused (told_line s.told refused-known p d).is e
                ∙ sym (line_refused m s.front entry x field its-number low (goes-only file at g));
          }))
          (strange-kept (λ y. n (sym its-number ∙ y)))

  -- ---- an accepted record

  module _ (j : Job) (g : told_read (Record j) ≡ read_at file at) {c : Counted} (i : CountedIs file j c) {p : ℕ}
      (q : p ≡ place_of j.m) (d : FieldLine) where
    -- what it counts
    counts : AcceptedEntry entry j.m c
    counts = read-accepted file at j g i

    pub record-room : length file < 2 ^ 64 → c.steps < 2 ^ 16 → RoomForRecord (get_or lines p d) c
    record-room l w =
        let o = read-on file at (sym g) in
        let few = steps-before j.m in
        room-for-record (told_line s.told (accepted-known file at j g) q d)
        (omega (arith, s.few, o.ahead, o.within))
        (omega (arith, s.roots j.m, accepted-roots file at j g i, o.within)) (omega arith)

    pub sheet-accepted : (l : FieldLine)
        → told_field l ≡ with_accepted (told_field (get_or lines p d)) (k + 1) c.roots c.steps c.limit
        → Sheeting file (set lines p l) unknown j.next (k + 1)
    sheet-accepted l h =
        let e = counts in
        let number : k + 1 ≡ suc (length s.front) = omega (arith, s.number) in
        turn (read-on file at (sym g)) (omega (arith, e.number))
        (λ z. omega (arith, e.roots, accepted-roots file at j g i))
        (told-set s.told (accepted-known file at j g) q entry e.field (record {
          is =
              h
              ∙ alike (told_line s.told (accepted-known file at j g) q d).is number (sym e.roots)
              (sym e.steps) (sym e.limit)
              ∙ sym (line-accepted j.m s.front entry e.field e.number);
        }))
        (strange-kept (λ y. omega (arith, e.number)))

  -- ---- the end

  -- all entries are told
  told-all : {es : List Entry} {a b : ℕ} → entries file ≡ es → Told es lines → unknown ≡ count_of (numbered 1) es
      → a ≡ count_of (numbered 11) es → b ≡ count_of (numbered 12) es
      → Sheets file (record { lines = lines; unknown = unknown; mark = a; short = b })
  told-all {es} {a} {b} e t u m h = whole ∙ ap figures_of (sym e)
    where
      whole : told_sheet (record { lines = lines; unknown = unknown; mark = a; short = b }) ≡ figures_of es
      whole = let fields = t.are in cc

  pub sheet-over : {z : Sheet} → z ≡ ended_sheet lines unknown 0 → read_at file at ≡ Outcome.ends → Sheets file z
  sheet-over {z} e g =
      subst (Sheets file) (sym e)
      (told-all (s.all ∙ ap (λ es. s.front ++ es) (read-over file at g) ∙ append-nil s.front)
      s.told s.strange (sym s.mark) (sym s.short))

  pub sheet-stop : {z : Sheet} {n x : ℕ} → z ≡ ended_sheet lines unknown n → n ≡ x → read_at file at ≡ Outcome.gives x []
      → Sheets file z
  unfolding is_in
  sheet-stop {z} {n} {x} e f g =
      subst (Sheets file) (sym e)
      (told-all (s.all ∙ ap (λ es. s.front ++ es) (read-stops file at g))
      (told_same more s.told (apart (stops-only file at g))) (strange-kept (other (stops-only file at g)))
      (sym (counted 11 s.mark)) (sym (counted 12 s.short)))
    where
      is : entry.number ≡ n
      is = entry-number file at g ∙ sym f

      apart : (x ≡ 11) ⊎ (x ≡ 12) → (m : ℕ) → figures_at more m ≡ figures_at s.front m
      apart (inl a) m = line-apart m s.front entry 11 refl (omega arith) (entry-number file at g ∙ a)
      apart (inr a) m = line-apart m s.front entry 12 refl (omega arith) (entry-number file at g ∙ a)

      other : (x ≡ 11) ⊎ (x ≡ 12) → entry.number ≡ 1 → ⊥
      other (inl a) y = omega (arith, entry-number file at g)
      other (inr a) y = omega (arith, entry-number file at g)

      counted : (i : ℕ) → count_of (numbered i) s.front ≡ 0 → count_of (numbered i) more ≡ cond (eqb n i) 1 0
      counted i z = count-more (numbered i) s.front entry ∙ rw (z, is) (zero-add (cond (eqb n i) 1 0))
