-- Two outcomes that the contract of `record_at` admits coincide.
--   lists-once      of a whole line: the answer, and every byte of the room
--   lists-at-once   of the line at a place
-- Assumes nothing.
use mathlib.Core.Path.{◌≡◌, refl, sym, ap, subst, ◌∙◌}
use mathlib.Core.Bool.{Bool, true, false, true≢false}
use mathlib.Core.List.{List, ◌∷◌}
use Prim.Native.Nat.{ℕ}
use Rattle.job_records.proofs.Forward.{never}
use Rattle.job_writer.specs.Calls.{Writes}
use Rattle.std.specs.Prelude.{Result}
use Rattle.refusals.specs.declared.Refusal.{Refusal}
use Rattle.job_writer.proofs.Coincide.{write-coincide}
use Rattle.job_lists.specs.Lines.{legible}
use Rattle.job_lists.specs.Calls.{Lists, ListsAt}
use Rattle.job_lists.specs.Calls.ListsAt.{cut, whole}
use Rattle.job_lists.specs.Calls.Lists.{illegible, blank, alone, asks}
use Rattle.job_lists.specs.declared.Listed.{Listed}
use Rattle.job_lists.specs.declared.Listed.TheVariants.{Answer}

-- a line is not both
torn : {A : Type 0} (line : List ℕ) → legible line ≡ true → legible line ≡ false → A
torn line t f = absurd (true≢false (sym t ∙ f))

-- two answers of the writer to the same numbers
same_numbers : {m c m' c' : ℕ} {roots roots' : List ℕ} (room : List ℕ) {x y : List ℕ} {r s : Result ℕ Refusal}
    → m ∷ c ∷ roots ≡ m' ∷ c' ∷ roots'
    → Writes m c roots room r x → Writes m' c' roots' room s y → (Answer r ≡ Answer s) × (x ≡ y)
same_numbers {m} {c} {m'} {c'} {roots} {roots'} room {x} {y} {r} {s} e p q =
    let a : m' ≡ m = cc in
    let b : c' ≡ c = cc in
    let d : roots' ≡ roots = cc in
    let u = subst (λ k. Writes m k roots' room s y) b (subst (λ k. Writes k c' roots' room s y) a q) in
    let t = write-coincide m c roots room r s x y p (subst (λ l. Writes m c l room s y) d u) in
    (ap Answer t.0, t.1)

lists-once : {line room : List ℕ} {r s : Listed} {x y : List ℕ} → Lists line room r x → Lists line room s y
    → (r ≡ s) × (x ≡ y)
lists-once (illegible f) (illegible g) = (refl, refl)
lists-once (illegible f) (alone t e) = (refl, refl)
lists-once (alone t e) (illegible f) = (refl, refl)
lists-once (alone t e) (alone u d) = (refl, refl)
lists-once (blank t e) (blank u d) = (refl, refl)
lists-once {room = room} (asks t e p) (asks u d q) = same_numbers room (sym e ∙ d) p q
lists-once {line} (illegible f) (blank t e) = torn line t f
lists-once {line} (illegible f) (asks t e p) = torn line t f
lists-once {line} (blank t e) (illegible f) = torn line t f
lists-once {line} (asks t e p) (illegible f) = torn line t f
lists-once (blank t e) (alone u d) = never (cc)
lists-once (blank t e) (asks u d q) = never (cc)
lists-once (alone t e) (blank u d) = never (cc)
lists-once (alone t e) (asks u d q) = never (cc)
lists-once (asks t e p) (blank u d) = never (cc)
lists-once (asks t e p) (alone u d) = never (cc)

pub lists-at-once : {text room : List ℕ} {at : ℕ} {ended : Bool} {r s : Listed} {x y : List ℕ}
    → ListsAt text at ended room r x → ListsAt text at ended room s y → (r ≡ s) × (x ≡ y)
lists-at-once (cut f) (cut g) = (refl, refl)
lists-at-once (whole t p) (whole u q) = lists-once p q
lists-at-once (cut f) (whole t p) = absurd (true≢false (sym t ∙ f))
lists-at-once (whole t p) (cut f) = absurd (true≢false (sym t ∙ f))
