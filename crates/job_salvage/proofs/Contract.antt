-- What an answer of `salvage` says, by its contract alone.
--   keeps             the answer that so many records and bytes are kept
--   Says, kept-says   an answer that keeps: its bytes and records, and what the room holds
--   says-kept         so is an answer where the room is long enough
--   few-kept          no more records than the file has bytes
--   copied-kept, nothing-behind   the front of the room is the records kept, one after the other; what is behind them
--                     is as it was
--   answer-adds       the bytes kept and the bytes dropped add up to those of the file
--   answer_back       of a file of acceptable records all is kept
--   answer-again      salvaging what was kept changes nothing: as many bytes, as many records, the same front
-- Assumes nothing.
use mathlib.Core.Path.{◌≡◌, sym, ap, ap₂, subst, ◌∙◌}
use mathlib.Core.List.{List, [], ◌∷◌}
use mathlib.Core.Logic.{◌⊎◌, inl, inr}
use Prim.Native.Nat.{ℕ, ◌+◌, ◌≤◌}
use native.Mathlib.Omega.{arith}
use borrow.Author.Tests.{ltb-false, le-ltb}
use lib.ListN.{length, take, drop}
use Rattle.refusals.specs.Order.{outcome, Given, Passed}
use Rattle.refusals.specs.Order.Passed.{none}
use Rattle.refusals.proofs.Order.{cases, refused, accepted, written, failed, passes}
use Rattle.slices.specs.Lists.{copied}
use Rattle.slices.proofs.Lists.{copied-front, copied_behind}
use Rattle.job_records.specs.Files.{joined_file}
use Rattle.job_records.proofs.Forward.{never}
use Rattle.job_salvage.specs.Pieces.{kept_records, kept_file, stretches, total, AllAcceptable}
use Rattle.std.specs.Prelude.{Result, Ok}
use Rattle.refusals.specs.Admitting.{told}
use Rattle.refusals.specs.declared.Refusal.{Refusal}
use Rattle.job_salvage.specs.Calls.{salvage_tests, told_kept, Salvages}
use Rattle.job_salvage.specs.declared.Kept.{Kept}
use Rattle.job_salvage.proofs.Whole.{lengths-add, few-records, all-kept, kept_back}
use Rattle.job_salvage.proofs.Coincide.{salvaged-told}

-- the answer that so many records and bytes are kept
abbrev pub keeps : ℕ → ℕ → Result Kept Refusal
keeps records bytes = Ok (record { records = records; bytes = bytes })

-- an answer that keeps
pub record Says (file room : List ℕ) (records bytes : ℕ) (after : List ℕ) : Type 0 where
  pub fits : length file ≤ length room
  pub count : records ≡ length (kept_records file)
  pub long : bytes ≡ length (kept_file file)
  pub holds : after ≡ copied (kept_file file) room

module _ (file room : List ℕ) where
  -- the bytes, then the records
  abbrev values : List ℕ
  values = length (kept_file file) ∷ length (kept_records file) ∷ []

  pub kept-says : {r : Result Kept Refusal} {k : Kept} (after : List ℕ) → Salvages file room r after → r ≡ Ok k
      → Says file room k.records k.bytes after
  kept-says {r} {k = kept} after h e = go (cases (salvage_tests file room))
    where
      values-are : kept.bytes ∷ kept.records ∷ [] ≡ (outcome (salvage_tests file room) values).1
      values-are = ap (λ x. (told told_kept x).1) (sym e) ∙ ap (λ o. o.1) h.0

      go : ((k : ℕ) × Given k (salvage_tests file room)) ⊎ Passed (salvage_tests file room) → Says file room kept.records kept.bytes after
      go (inl g) = let f : kept.bytes ∷ kept.records ∷ [] ≡ [] = values-are ∙ ap (λ o. o.1) (refused _ g.1) in never (cc)
      go (inr p) =
          let f : kept.bytes ∷ kept.records ∷ [] ≡ values = values-are ∙ ap (λ o. o.1) (accepted _ p) in
          let n : kept.records ≡ length (kept_records file) = cc in
          let b : kept.bytes ≡ length (kept_file file) = cc in
          record { fits = ltb-false (length room) (length file) (failed p); count = n; long = b; holds = h.1 ∙ written _ _ p }

  pub says-kept : {r : Result Kept Refusal} (after : List ℕ) → length file ≤ length room → Salvages file room r after
      → (r ≡ keeps (length (kept_records file)) (length (kept_file file))) × (after ≡ copied (kept_file file) room)
  says-kept {r} after l h =
      let p = passes (le-ltb (length room) (length file) l) none in
      (salvaged-told r (keeps (length (kept_records file)) (length (kept_file file))) (h.0 ∙ accepted _ p), h.1 ∙ written _ _ p)

module _ {file room after : List ℕ} {records bytes : ℕ} (s : Says file room records bytes after) where
  pub few-kept : records ≤ length file
  few-kept = omega (arith, s.count, few-records (all-kept file), lengths-add file)

  pub answer-adds : bytes + total (stretches file) ≡ length file
  answer-adds = omega (arith, s.long, lengths-add file)

  pub copied-kept : take bytes after ≡ kept_file file
  copied-kept = ap (take bytes) s.holds ∙ copied-front (kept_file file) room (sym s.long)

  pub nothing-behind : drop bytes after ≡ drop bytes room
  nothing-behind = ap (drop bytes) s.holds ∙ copied_behind bytes (kept_file file) room (omega (arith, s.long))

-- of acceptable records all is kept
pub answer_back : {rs : List (List ℕ)} (room after : List ℕ) {r : Result Kept Refusal} → AllAcceptable rs → length (joined_file rs) ≤ length room
    → Salvages (joined_file rs) room r after → (r ≡ keeps (length rs) (length (joined_file rs))) × (after ≡ copied (joined_file rs) room)
answer_back {rs} room after {r} a l h =
    let k = kept_back a in
    let e = says-kept (joined_file rs) room after l h in
    (e.0 ∙ ap (λ ks. keeps (length ks) (length (joined_file ks))) k, e.1 ∙ ap (λ ks. copied (joined_file ks) room) k)

-- what was kept is a file of acceptable records
pub answer-again : {file room after : List ℕ} {records bytes : ℕ} (room' after' : List ℕ) {r : Result Kept Refusal} → Says file room records bytes after
    → bytes ≤ length room' → Salvages (take bytes after) room' r after' → (r ≡ keeps records bytes) × (take bytes after' ≡ take bytes after)
answer-again {file} {room} {after} {records} {bytes} room' after' {r} s l h =
    let f : take bytes after ≡ kept_file file = copied-kept s in
    let b : length (kept_file file) ≡ bytes = sym s.long in
    let e = answer_back room' after' (all-kept file) (omega arith) (subst (λ x. Salvages x room' r after') f h) in
    (e.0 ∙ ap₂ keeps (sym s.count) b, ap (take bytes) e.1 ∙ copied-front (kept_file file) room' b ∙ sym f)
