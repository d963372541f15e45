-- Two structs that the contract of an export admits are one, and so is what lent memory holds: by what the contract of
-- the call admits.
--   one-struct, one-memory, one-lists   from the call to the export
--   product-one ..           so for each export
-- Assumes nothing.
use mathlib.Core.Path.{◌≡◌, sym, ap, ◌∙◌}
use mathlib.Core.List.{List}
use Prim.Native.Nat.{ℕ}
use Rattle.field_elements.proofs.Coincide.{product-coincide, inverse-coincide, position-coincide, quadratic-coincide}
use Rattle.find_solve.proofs.Coincide.{solve-coincide}
use Rattle.find_search.proofs.Coincide.{search-coincide}
use Rattle.find_affine.proofs.Coincide.{affine-coincide}
use Rattle.table_begin.proofs.Coincide.{begin-coincide}
use Rattle.table_step.proofs.Coincide.{step-coincide}
use Rattle.table_finish.proofs.Coincide.{finish-coincide}
use Rattle.corrector.proofs.Coincide.{correct-coincide}
use Rattle.corrector_encoder.proofs.Coincide.{encode-coincide}
use Rattle.job_salvage.proofs.Coincide.{salvage-coincide}
use Rattle.job_writer.proofs.Coincide.{write-coincide}
use Rattle.claim_rules.specs.Claims.{Claim}
use Rattle.claims.proofs.Coincide.{check-coincide}
use Rattle.claim_maker.proofs.Coincide.{prove-coincide}
use Rattle.locator.specs.Calls.{As, ProductAs, InverseAs, PositionAs, QuadraticAs, SolvesAs, SearchesAs, SpansAs, BeginsAs, StepsAs, FinishesAs, CorrectsAs, EncodesAs, SalvagesAs, WritesAs, ChecksAs, ProvesAs}
use Rattle.locator.specs.declared.LocatorValue.{LocatorValue}
use Rattle.locator.specs.declared.LocatorPair.{LocatorPair}
use Rattle.locator.specs.declared.LocatorFound.{LocatorFound}
use Rattle.locator.specs.declared.LocatorSpace.{LocatorSpace}
use Rattle.locator.specs.declared.LocatorStepped.{LocatorStepped}
use Rattle.locator.specs.declared.LocatorCorrected.{LocatorCorrected}
use Rattle.locator.specs.declared.LocatorEncoded.{LocatorEncoded}
use Rattle.locator.specs.declared.LocatorSalvaged.{LocatorSalvaged}
use Rattle.locator.specs.declared.LocatorWritten.{LocatorWritten}
use Rattle.locator.specs.declared.LocatorClaim.{LocatorClaim}
use Rattle.locator.specs.declared.LocatorProved.{LocatorProved}

-- one answer, one struct
one-struct : {A R : Type 0} {tell : A → R} {admits : A → Type 0} → ((a b : A) → admits a → admits b → a ≡ b)
    → {r s : R} → As tell admits r → As tell admits s → r ≡ s
one-struct {tell = tell} one h k = h.told ∙ ap tell (one h.answer k.answer h.admitted k.admitted) ∙ sym k.told

-- the same with lent memory
one-memory : {A R S : Type 0} {tell : A → R} {admits : A → S → Type 0}
    → ((a b : A) (x y : S) → admits a x → admits b y → (a ≡ b) × (x ≡ y))
    → {r s : R} {x y : S} → As tell (λ a. admits a x) r → As tell (λ a. admits a y) s → (r ≡ s) × (x ≡ y)
one-memory {tell = tell} one {x = x} {y = y} h k =
    let e = one h.answer k.answer x y h.admitted k.admitted in
    (h.told ∙ ap tell e.0 ∙ sym k.told, e.1)

-- the same with two lent lists
one-lists : {A R : Type 0} {tell : A → R} {admits : A → List ℕ → List ℕ → Type 0}
    → ((a b : A) (x y u v : List ℕ) → admits a x u → admits b y v → (a ≡ b) × (x ≡ y) × (u ≡ v))
    → {r s : R} {x y u v : List ℕ} → As tell (λ a. admits a x u) r → As tell (λ a. admits a y v) s → (r ≡ s) × (x ≡ y) × (u ≡ v)
one-lists {tell = tell} one {x = x} {y = y} {u = u} {v = v} h k =
    let e = one h.answer k.answer x y u v h.admitted k.admitted in
    (h.told ∙ ap tell e.0 ∙ sym k.told, e.1, e.2)

pub product-one : (m a b : ℕ) (r s : LocatorValue) → ProductAs m a b r → ProductAs m a b s → r ≡ s
product-one m a b r s h k = one-struct (product-coincide m a b) h k

pub inverse-one : (m a : ℕ) (r s : LocatorValue) → InverseAs m a r → InverseAs m a s → r ≡ s
inverse-one m a r s h k = one-struct (inverse-coincide m a) h k

pub position-one : (m x convention : ℕ) (r s : LocatorValue) → PositionAs m x convention r → PositionAs m x convention s → r ≡ s
position-one m x convention r s h k = one-struct (position-coincide m x convention) h k

pub quadratic-one : (m a b : ℕ) (r s : LocatorPair) → QuadraticAs m a b r → QuadraticAs m a b s → r ≡ s
quadratic-one m a b r s h k = one-struct (quadratic-coincide m a b) h k

pub solve-one : (m c : ℕ) (cs roots mults : List ℕ) (r s : LocatorFound) (x y u v : List ℕ)
    → SolvesAs m c cs roots mults r x u → SolvesAs m c cs roots mults s y v → (r ≡ s) × (x ≡ y) × (u ≡ v)
solve-one m c cs roots mults r s x y u v h k = one-lists (solve-coincide m c cs roots mults) h k

pub search-one : (m : ℕ) (cs roots mults : List ℕ) (r s : LocatorFound) (x y u v : List ℕ)
    → SearchesAs m cs roots mults r x u → SearchesAs m cs roots mults s y v → (r ≡ s) × (x ≡ y) × (u ≡ v)
search-one m cs roots mults r s x y u v h k = one-lists (search-coincide m cs roots mults) h k

pub affine-one : (m : ℕ) (cs : List ℕ) (constant : ℕ) (list : List ℕ) (r s : LocatorSpace) (x y : List ℕ)
    → SpansAs m cs constant list r x → SpansAs m cs constant list s y → (r ≡ s) × (x ≡ y)
affine-one m cs constant list r s x y h k = one-memory (affine-coincide m cs constant list) h k

pub begin-one : (m c : ℕ) (cs table : List ℕ) (r s : ℕ) (x y : List ℕ)
    → BeginsAs m c cs table r x → BeginsAs m c cs table s y → (r ≡ s) × (x ≡ y)
begin-one m c cs table r s x y h k = one-memory (begin-coincide m c cs table) h k

pub step-one : (table : List ℕ) (r s : LocatorStepped) (x y : List ℕ) → StepsAs table r x → StepsAs table s y → (r ≡ s) × (x ≡ y)
step-one table r s x y h k = one-memory (step-coincide table) h k

pub finish-one : (table list : List ℕ) (r s : LocatorFound) (x y : List ℕ)
    → FinishesAs table list r x → FinishesAs table list s y → (r ≡ s) × (x ≡ y)
finish-one table list r s x y h k = one-memory (finish-coincide table list) h k

pub correct-one : (t : ℕ) (word : List ℕ) (r s : LocatorCorrected) (x y : List ℕ)
    → CorrectsAs t word r x → CorrectsAs t word s y → (r ≡ s) × (x ≡ y)
correct-one t word r s x y h k = one-memory (λ a b x y. correct-coincide a b x y) h k

pub encode_one : (t : ℕ) (word : List ℕ) (r s : LocatorEncoded) (x y : List ℕ)
    → EncodesAs t word r x → EncodesAs t word s y → (r ≡ s) × (x ≡ y)
encode_one t word r s x y h k = one-memory (λ a b x y. encode-coincide a b x y) h k

pub salvage-one : (file room : List ℕ) (r s : LocatorSalvaged) (x y : List ℕ)
    → SalvagesAs file room r x → SalvagesAs file room s y → (r ≡ s) × (x ≡ y)
salvage-one file room r s x y h k = one-memory (salvage-coincide file room) h k

pub write-one : (m c : ℕ) (roots room : List ℕ) (r s : LocatorWritten) (x y : List ℕ)
    → WritesAs m c roots room r x → WritesAs m c roots room s y → (r ≡ s) × (x ≡ y)
write-one m c roots room r s x y h k = one-memory (write-coincide m c roots room) h k

pub check-one : (m : ℕ) (f : List ℕ) (c : Claim) (r s : LocatorClaim) → ChecksAs m f c r → ChecksAs m f c s → r ≡ s
check-one m f c r s h k = one-struct (check-coincide m f c) h k

pub prove-one : (m : ℕ) (f : List ℕ) (b : Claim) (r s : LocatorProved) (x y : Claim) → ProvesAs m f b r x → ProvesAs m f b s y → (r ≡ s) × (x ≡ y)
prove-one m f b r s x y h k = one-memory (prove-coincide m f b) h k
