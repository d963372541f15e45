-- The record of a field whose steps stand highest against their limit is what docs/RULES.md section 13.2 says.
--   entry_place      places are counted from 1
--   Top              a peak among entries, the first of which has the number j + 1
--   Tops             it is so, or it is none where no entry competes
--   tops             the highest of entries is that
--   is-highest       THE HIGHEST: at least every other as a fraction, and the first such
-- Assumes nothing.
use Rattle.std.proofs.Common.{◌≡◌, ℕ, suc, ◌+◌, ◌<◌, Bool, true, false, List, [], ◌∷◌, sym, refl, ap, ◌∙◌, true≢false, zero-add, arith}
use Rattle.std.specs.Prelude.{Option, Some, None}
use Rattle.job_sheet.specs.Entries.{Entry}
use Rattle.job_sheet.specs.Figures.{Peak, peak_of, competes, higher, better, highest_from}
use Rattle.job_sheet.specs.Highest.{EntryAt, IsHighest}
use Rattle.job_sheet.specs.Highest.EntryAt.{here, later}
use Rattle.job_sheet.specs.Highest.IsHighest.{some, nothing}
use Rattle.job_sheet.proofs.Better.{competes-limit}
use Rattle.job_sheet.proofs.Compared.{AtMost, LowerThan, most-trans, Compared, compared}
use Rattle.job_sheet.proofs.Compared.Compared.{second, first}

entry_place : {es : List Entry} {k : ℕ} {e : Entry} → EntryAt es k e → 0 < k
entry_place here = omega arith
entry_place (later a) = omega arith

-- ---- among entries

-- the i-th of them, which has the number j + i
pub record Top (j m : ℕ) (es : List Entry) (p : Peak) : Type 0 where
  pub i : ℕ
  pub entry : Entry
  pub stands : EntryAt es i entry
  pub is : p ≡ peak_of (j + i) entry
  pub one : competes m entry ≡ true
  pub most : (k : ℕ) (e : Entry) → EntryAt es k e → competes m e ≡ true → AtMost (peak_of k e) p
  pub earlier : (k : ℕ) (e : Entry) → EntryAt es k e → competes m e ≡ true → k < i → LowerThan (peak_of k e) p

pub data Tops (j m : ℕ) (es : List Entry) (p : Option Peak) : Type 0 where
  top : (q : Peak) → p ≡ Some q → Top j m es q → Tops j m es p
  no_one : p ≡ None → ((k : ℕ) (e : Entry) → EntryAt es k e → competes m e ≡ true → ⊥) → Tops j m es p

module _ (j m : ℕ) (d : Entry) (es : List Entry) where
  -- one behind the first is the top, where the first stands below it or does not compete
  onward : {p : Peak} → (competes m d ≡ true → LowerThan (peak_of (suc j) d) p) → Top (suc j) m es p → Top j m (d ∷ es) p
  onward {p} below t = record {
    i = suc t.i;
    entry = t.entry;
    stands = later t.stands;
    is = t.is ∙ ap (λ n. peak_of n t.entry) (let e : suc j + t.i ≡ j + suc t.i = omega arith in e);
    one = t.one;
    most = λ k e a h. most k e a h;
    earlier = λ k e a h l. earlier k e a h l;
  }
    where
      most : (k : ℕ) (e : Entry) → EntryAt (d ∷ es) k e → competes m e ≡ true → AtMost (peak_of k e) p
      most k e here h = omega (arith, below h)
      most k e (later a) h = t.most _ e a h

      earlier : (k : ℕ) (e : Entry) → EntryAt (d ∷ es) k e → competes m e ≡ true → k < suc t.i → LowerThan (peak_of k e) p
      earlier k e here h l = below h
      earlier k e (later a) h l = t.earlier _ e a h (omega arith)

  -- the first does not compete
  pass : {p : Option Peak} → competes m d ≡ false → Tops (suc j) m es p → Tops j m (d ∷ es) p
  pass c (no_one n out) = no_one n (λ k e a. go k e a)
    where
      go : (k : ℕ) (e : Entry) → EntryAt (d ∷ es) k e → competes m e ≡ true → ⊥
      go k e here h = true≢false (sym h ∙ c)
      go k e (later a) h = out _ e a h
  pass c (top q e t) = top q e (onward (λ h. absurd (true≢false (sym h ∙ c))) t)

  module _ (c : competes m d ≡ true) where
    abbrev mine : Peak
    mine = peak_of (suc j) d

    -- the first stands at least as high as those behind it
    stays : {p : Peak} → p ≡ mine
        → ((k : ℕ) (e : Entry) → EntryAt es k e → competes m e ≡ true → AtMost (peak_of k e) mine)
        → Top j m (d ∷ es) p
    stays {p} is others = record {
      i = 1;
      entry = d;
      stands = here;
      is = is ∙ ap (λ n. peak_of n d) (let e : suc j ≡ j + 1 = omega arith in e);
      one = c;
      most = λ k e a h. rw is (most k e a h);
      earlier = λ k e a h l. absurd (let z = entry_place a in let f : ⊥ = omega arith in f);
    }
      where
        most : (k : ℕ) (e : Entry) → EntryAt (d ∷ es) k e → competes m e ≡ true → AtMost (peak_of k e) mine
        most k e here h = omega arith
        most k e (later a) h = others _ e a h

    top-limit : {p : Peak} → Top (suc j) m es p → 0 < p.limit
    top-limit t = rw t.is (competes-limit m t.entry t.one)

    joins : {p : Option Peak} → Tops (suc j) m es p → Tops j m (d ∷ es) (better (Some mine) p)
    unfolding better
    joins {p} (no_one n out) =
        top mine (ap (better (Some mine)) n) (stays refl (λ k e a h. absurd (out k e a h)))
    joins {p} (top q n t) = top (higher mine q) (ap (better (Some mine)) n) (go (compared mine q))
      where
        go : Compared mine q → Top j m (d ∷ es) (higher mine q)
        go (second b e) = rw e (onward (λ h. b) t)
        go (first b e) = stays e (λ k f a h. most-trans (peak_of k f) q mine (top-limit t) (t.most k f a h) b)

empty-has : {k : ℕ} {e : Entry} → EntryAt [] k e → ⊥
empty-has = elim [ ]

tops : (j m : ℕ) (es : List Entry) → Tops j m es (highest_from m (suc j) es)
unfolding highest_from
tops j m [] = no_one refl (λ k e a c. empty-has a)
tops j m (d ∷ es) = go (competes m d) refl (tops (suc j) m es)
  where
    go : (b : Bool) → competes m d ≡ b → Tops (suc j) m es (highest_from m (suc (suc j)) es)
        → Tops j m (d ∷ es) (highest_from m (suc j) (d ∷ es))
    go true c t = rw c (joins j m d es c t)
    go false c t = rw c (pass j m d es c t)

pub is-highest : (m : ℕ) (es : List Entry) → IsHighest m es (highest_from m 1 es)
is-highest m es = go (tops 0 m es)
  where
    go : {p : Option Peak} → Tops 0 m es p → IsHighest m es p
    go (no_one n out) = nothing n out
    go (top p f t) =
        let e : p.place ≡ t.i = ap (λ q. q.place) t.is ∙ zero-add t.i in
        some p f (record {
          entry = t.entry;
          stands = rw e t.stands;
          is = t.is ∙ ap (λ n. peak_of n t.entry) (zero-add t.i ∙ sym e);
          one = t.one;
          most = t.most;
          first = λ k d a h l. t.earlier k d a h (rw e at l);
        })
