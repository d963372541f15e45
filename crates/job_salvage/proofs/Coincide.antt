-- Two outcomes that the contracts of salvage admit coincide.
--   salvaged-told      two answers with one number and values are one
--   salvage-coincide   so for the call: the answer, and every byte of the room
--   next-coincide      so for `next_kept`: the start and the end
-- Assumes nothing.
use mathlib.Core.Path.{◌≡◌, refl, sym, ap, ◌∙◌}
use mathlib.Core.Bool.{Bool, true, false, true≢false}
use mathlib.Core.List.{List, [], ◌∷◌}
use mathlib.Core.Logic.{◌⊎◌, inl, inr}
use Prim.Native.Nat.{ℕ, ◌+◌, ◌≤◌, ◌<◌}
use native.Mathlib.Nat.{eq-or-lt_of_le}
use borrow.Author.Tests.{ltb-true, ltb-false}
use lib.Dec.{ltb}
use lib.ListN.{length, drop}
use Rattle.refusals.specs.Order.{outcome, memory}
use Rattle.std.specs.Prelude.{Result}
use Rattle.refusals.specs.Admitting.{told}
use Rattle.refusals.specs.declared.Refusal.{Refusal}
use Rattle.refusals.proofs.Told.{told-one, coincide}
use Rattle.slices.specs.Lists.{copied}
use Rattle.job_records.specs.Layout.{record_length}
use Rattle.job_salvage.specs.Pieces.{kept_records, kept_file}
use Rattle.job_salvage.specs.Calls.{keeps_at, NoneKept, NextIs, salvage_tests, told_kept, Salvages}
use Rattle.job_salvage.specs.Calls.NextIs.{found, nothing}
use Rattle.job_salvage.specs.declared.Kept.{Kept}

-- what the values stand for
kept_of : List ℕ → Kept
kept_of [] = record { records = 0; bytes = 0 }
kept_of (bytes ∷ []) = record { records = 0; bytes = 0 }
kept_of (bytes ∷ records ∷ more) = record { records = records; bytes = bytes }

kept_back : (k : Kept) → kept_of (told_kept k) ≡ k
unfolding kept_of
kept_back k = refl

pub salvaged-told : (r s : Result Kept Refusal) → told told_kept r ≡ told told_kept s → r ≡ s
salvaged-told = told-one told_kept kept_of kept_back

pub salvage-coincide : (file room : List ℕ) (r s : Result Kept Refusal) (x y : List ℕ) → Salvages file room r x → Salvages file room s y → (r ≡ s) × (x ≡ y)
salvage-coincide file room =
    coincide (told told_kept) salvaged-told (outcome (salvage_tests file room) (length (kept_file file) ∷ length (kept_records file) ∷ []))
    (memory (salvage_tests file room) (copied (kept_file file) room) room)

-- one is kept at a place where none is
clash : {A : Type 0} (file : List ℕ) (i : ℕ) → keeps_at file i ≡ true → keeps_at file i ≡ false → A
clash file i t f = absurd (true≢false (sym t ∙ f))

-- two places with none kept before them, and one at each
same_start : (file : List ℕ) {at i j : ℕ} → at ≤ i → at ≤ j → NoneKept file at i → NoneKept file at j → keeps_at file i ≡ true → keeps_at file j ≡ true → i ≡ j
same_start file {at} {i} {j} a b m n p q = go (ltb j i) refl
  where
    behind : (i ≡ j) ⊎ (i < j) → i ≡ j
    behind (inl e) = e
    behind (inr l) = clash file i p (n i a l)

    go : (t : Bool) → ltb j i ≡ t → i ≡ j
    go true e = clash file j q (m j b (ltb-true j i e))
    go false e = behind (eq-or-lt_of_le (ltb-false j i e))

pub next-coincide : {file : List ℕ} {at start end start' end' : ℕ} → NextIs file at start end → NextIs file at start' end' → (start ≡ start') × (end ≡ end')
next-coincide {file} (found a l m p) (found b l' n q) =
    let e = same_start file a b m n p q in
    (e, ap (λ i. i + record_length (drop i file)) e)
next-coincide {file} (found {start = i} a l m p) (nothing n) = clash file i p (n i a l)
next-coincide {file} (nothing m) (found {start = j} b l n q) = clash file j q (m j b l)
next-coincide (nothing m) (nothing n) = (refl, refl)
