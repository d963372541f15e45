-- DEMAND 1 holds: `Demand1` of specs/Demand1.antt is the one record to read.
--   Numbered   each test stands behind a number from 1 on
--   decides, spares   an outcome and a memory that tests decide
--   settles    the corrector's;  fixes  the encoder's
--   demand-1   it holds of every entry
-- Assumes nothing.
use mathlib.Core.Path.{◌≡◌, refl, sym, ap, subst, ◌∙◌}
use mathlib.Core.Bool.{Bool, true}
use mathlib.Core.List.{List, [], ◌∷◌}
use mathlib.Core.Logic.{◌↔◌, ◌⊎◌, inl, inr}
use Prim.Native.Nat.{ℕ, suc, ◌<◌}
use native.Mathlib.Omega.{arith}
use lib.ListN.{length, drop}
use Rattle.refusals.specs.Order.{outcome, memory, Answers, Given, Passed}
use Rattle.refusals.specs.Order.Given.{here, later}
use Rattle.refusals.proofs.Order as order
use Rattle.algebra.specs.Trial.{All}
use Rattle.field_elements.specs.Calls.{pair_tests, nonzero_tests, position_tests}
use Rattle.field_elements.proofs.Coincide.{product-coincide, inverse-coincide, position-coincide, quadratic-coincide}
use Rattle.table_begin.specs.Calls.{begin_tests}
use Rattle.table_step.specs.Calls.{step_tests}
use Rattle.table_begin.proofs.Coincide.{begin-coincide}
use Rattle.table_step.proofs.Coincide.{step-coincide}
use Rattle.table_finish.specs.Calls.{finish_tests}
use Rattle.table_finish.proofs.Coincide.{finish-coincide}
use Rattle.slices.specs.Lists.{copied}
use Rattle.field.specs.Field.{roots_at, multiplicities_at}
use Rattle.input.specs.RootMemory.{ListsRoots}
use Rattle.find_solve.proofs.Coincide.{solve-coincide}
use Rattle.find_search.proofs.Coincide.{search-coincide}
use Rattle.find_affine.specs.Calls.{affine_tests}
use Rattle.find_affine.proofs.Coincide.{affine-coincide}
use Rattle.job_lines.proofs.Coincide.{turned-once}
use Rattle.corrector.specs.Correcting.{Corrects}
use Rattle.corrector.specs.Correcting.Corrects.{no_block, no-strength, none-near, mended}
use Rattle.corrector.proofs.Coincide.{correct-coincide}
use Rattle.corrector_encoder.specs.Encoding.{Encodes}
use Rattle.corrector_encoder.specs.Encoding.Encodes.{no_block as no_word, no-strength as unknown, encoded}
use Rattle.corrector_encoder.proofs.Coincide.{encode-coincide}
use Rattle.job_salvage.specs.Calls.{salvage_tests}
use Rattle.job_salvage.proofs.Coincide.{salvage-coincide, next-coincide}
use Rattle.job_writer.specs.Calls.{write_tests}
use Rattle.job_writer.proofs.Coincide.{write-coincide}
use Rattle.job_records.specs.Reading.{Outcome, start_tests, record_tests, HandsBack}
use Rattle.job_records.proofs.Coincide.{read-coincide}
use Rattle.job_records.proofs.Exactly.{ends-exactly, stops-exactly, refuses-exactly, accepts-exactly}
use Rattle.demands.specs.Demand1.{Decides, Spares, Settles, Fixes, Demand1}

-- each test stands behind a number from 1 on
abbrev Numbered : List (ℕ × Bool) → Type 0
Numbered ts = All (λ t. 0 < t.0) ts

-- so the number that is given is one
given-from : {k : ℕ} {ts : List (ℕ × Bool)} → Numbered ts → Given k ts → 0 < k
given-from n here = n.0
given-from n (later g) = given-from n.1 g

-- an outcome of 0 was refused by no test
passed-of : (ts : List (ℕ × Bool)) (values : List ℕ) → Numbered ts → outcome ts values ≡ (0, values) → Passed ts
passed-of ts values n e = go (order.cases ts)
  where
    go : ((k : ℕ) × Given k ts) ⊎ Passed ts → Passed ts
    go (inr p) = p
    go (inl g) =
        let z : g.0 ≡ 0 = ap (λ (o : ℕ × List ℕ). o.0) (sym (order.refused values g.1) ∙ e) in
        let l : 0 < g.0 = given-from n g.1 in
        absurd (let b : ⊥ = omega arith in b)

-- an outcome that tests decide
decides : (ts : List (ℕ × Bool)) (values : List ℕ) → Numbered ts → Decides ts values (outcome ts values)
decides ts values n = record {
  refused = λ k. (λ e. (order.exactly k ts values).0 (ap (λ (o : ℕ × List ℕ). o.0) e), λ g. order.refused values g);
  accepted = (passed-of ts values n, λ p. order.accepted values p);
}

-- the same of what equals it
decided : (ts : List (ℕ × Bool)) (values : List ℕ) {o : ℕ × List ℕ} → Numbered ts → o ≡ outcome ts values → Decides ts values o
decided ts values n e = subst (Decides ts values) (sym e) (decides ts values n)

-- a memory that tests decide
spares : (ts : List (ℕ × Bool)) (new old : List ℕ) → Spares ts new old (memory ts new old)
spares ts new old = record { refused = λ k g. order.unwritten new old g; accepted = λ p. order.written new old p }

-- an outcome and a memory that one contract admits
answered : (ts : List (ℕ × Bool)) (values new old : List ℕ) {o : ℕ × List ℕ} {after : List ℕ} → Numbered ts → Answers ts values new old o after
    → Decides ts values o × Spares ts new old after
answered ts values new old n h = (decided ts values n h.0, subst (Spares ts new old) (sym h.1) (spares ts new old))

-- an outcome and two lists that one contract admits
listed : {ts : List (ℕ × Bool)} {values : List ℕ} {m : ℕ} {cs roots mults : List ℕ} {o : ℕ × List ℕ} {after beside : List ℕ} → Numbered ts
    → ListsRoots ts values m cs roots mults o after beside
    → Decides ts values o × Spares ts (copied (roots_at m cs) roots) roots after × Spares ts (copied (multiplicities_at m cs) mults) mults beside
listed {ts} {values} {m} {cs} {roots} {mults} n h = (
  decided ts values n h.answer,
  subst (Spares ts (copied (roots_at m cs) roots) roots) (sym h.list) (spares ts (copied (roots_at m cs) roots) roots),
  subst (Spares ts (copied (multiplicities_at m cs) mults) mults) (sym h.beside) (spares ts (copied (multiplicities_at m cs) mults) mults),
)

-- what holds exactly of an outcome holds exactly of what an answer tells
of-told : {B : Type 0} {o p q : Outcome} → o ≡ p → ((p ≡ q) ↔ B) → (o ≡ q) ↔ B
of-told e h = (λ k. h.0 (sym e ∙ k), λ b. e ∙ h.1 b)

-- two outcomes with different numbers are not one
clash : {A : Type 0} {o p : ℕ × List ℕ} → o ≡ p → (o.0 ≡ p.0 → ⊥) → A
clash e n = absurd (n (ap (λ (q : ℕ × List ℕ). q.0) e))

-- whatever the corrector's contract admits is settled by 22, 23 and 24 in this order
settles : {t : ℕ} {word after : List ℕ} {o : ℕ × List ℕ} → Corrects t word o after → Settles t word o after
settles (no_block x) = record {
  block = (λ e. x, λ h. refl);
  strength = (λ e. clash e (λ (z : 22 ≡ 23). omega arith), λ h. absurd (x h.0));
  far = (λ e. clash e (λ (z : 22 ≡ 24). omega arith), λ h. absurd (x h.0));
  accepted = (λ e. clash e (λ (z : 22 ≡ 0). omega arith), λ h. absurd (x h.0));
  unwritten = λ k e. refl;
}
settles (no-strength b x) = record {
  block = (λ e. clash e (λ (z : 23 ≡ 22). omega arith), λ h. absurd (h b));
  strength = (λ e. (b, x), λ h. refl);
  far = (λ e. clash e (λ (z : 23 ≡ 24). omega arith), λ h. absurd (x h.1));
  accepted = (λ e. clash e (λ (z : 23 ≡ 0). omega arith), λ h. absurd (x h.1));
  unwritten = λ k e. refl;
}
settles (none-near b s x) = record {
  block = (λ e. clash e (λ (z : 24 ≡ 22). omega arith), λ h. absurd (h b));
  strength = (λ e. clash e (λ (z : 24 ≡ 23). omega arith), λ h. absurd (h.1 s));
  far = (λ e. (b, s, x), λ h. refl);
  accepted = (λ e. clash e (λ (z : 24 ≡ 0). omega arith), λ h. absurd (x _ h.2));
  unwritten = λ k e. refl;
}
settles (mended b s x) = record {
  block = (λ e. clash e (λ (z : 0 ≡ 22). omega arith), λ h. absurd (h b));
  strength = (λ e. clash e (λ (z : 0 ≡ 23). omega arith), λ h. absurd (h.1 s));
  far = (λ e. clash e (λ (z : 0 ≡ 24). omega arith), λ h. absurd (h.2 _ x));
  accepted = (λ e. (b, s, x), λ h. refl);
  unwritten = λ k e. clash e (λ (z : 0 ≡ suc k). omega arith);
}

-- whatever the encoder's contract admits is fixed by 22 and 23 in this order
fixes : {t : ℕ} {word after : List ℕ} {o : ℕ × List ℕ} → Encodes t word o after → Fixes t word o after
fixes (no_word x) = record {
  block = (λ e. x, λ h. refl);
  strength = (λ e. clash e (λ (z : 22 ≡ 23). omega arith), λ h. absurd (x h.0));
  accepted = (λ e. clash e (λ (z : 22 ≡ 0). omega arith), λ h. absurd (x h.0));
  unwritten = λ k e. refl;
}
fixes (unknown b x) = record {
  block = (λ e. clash e (λ (z : 23 ≡ 22). omega arith), λ h. absurd (h b));
  strength = (λ e. (b, x), λ h. refl);
  accepted = (λ e. clash e (λ (z : 23 ≡ 0). omega arith), λ h. absurd (x h.1));
  unwritten = λ k e. refl;
}
fixes (encoded b s x) = record {
  block = (λ e. clash e (λ (z : 0 ≡ 22). omega arith), λ h. absurd (h b));
  strength = (λ e. clash e (λ (z : 0 ≡ 23). omega arith), λ h. absurd (h.1 s));
  accepted = (λ e. (b, s, x), λ h. refl);
  unwritten = λ k e. clash e (λ (z : 0 ≡ suc k). omega arith);
}

-- eight tests, and fewer
eight : Numbered ((1, true) ∷ (2, true) ∷ (3, true) ∷ (4, true) ∷ (5, true) ∷ (6, true) ∷ (7, true) ∷ (7, true) ∷ [])
eight = (omega arith, (omega arith, (omega arith, (omega arith, (omega arith, (omega arith, (omega arith, (omega arith, tt))))))))

seven : Numbered ((1, true) ∷ (2, true) ∷ (3, true) ∷ (4, true) ∷ (5, true) ∷ (6, true) ∷ (7, true) ∷ [])
seven = (omega arith, (omega arith, (omega arith, (omega arith, (omega arith, (omega arith, (omega arith, tt)))))))

six : Numbered ((1, true) ∷ (3, true) ∷ (4, true) ∷ (25, true) ∷ (6, true) ∷ (7, true) ∷ [])
six = (omega arith, (omega arith, (omega arith, (omega arith, (omega arith, (omega arith, tt))))))

pub demand-1 : Demand1
demand-1 = record {
  product = λ m a b r h. decided (pair_tests m a b) _ (omega arith, (omega arith, tt)) h;
  quadratic = λ m a b r h. decided (pair_tests m a b) _ (omega arith, (omega arith, tt)) h;
  inverse = λ m a r h. decided (nonzero_tests m a) _ (omega arith, (omega arith, (omega arith, tt))) h;
  position = λ m x v r h. decided (position_tests m x v) _ (omega arith, (omega arith, (omega arith, (omega arith, tt)))) h;
  begin = λ m c cs table r after h. answered (begin_tests m c cs table) _ _ table seven h;
  step = λ table r after h. answered (step_tests table) _ _ table (omega arith, (omega arith, (omega arith, tt))) h;
  finish = λ table list r after h. answered (finish_tests table list) _ _ list (omega arith, (omega arith, (omega arith, tt))) h;
  solve = λ m c cs roots mults r after beside h. listed eight h;
  search = λ m cs roots mults r after beside h. listed (omega arith, (omega arith, (omega arith, (omega arith, (omega arith, (omega arith, (omega arith, tt))))))) h;
  affine = λ m cs constant list r after h. answered (affine_tests m cs constant (length list)) _ _ list (omega arith, (omega arith, (omega arith, (omega arith, tt)))) h;
  correct = λ t word o after h. settles h;
  encode = λ t word o after h. fixes h;
  salvage = λ file room r after h. answered (salvage_tests file room) _ _ room (omega arith, tt) h;
  write = λ m c roots room r after h. answered (write_tests m c roots (length room)) _ _ room six h;
  ends = λ file at r h. of-told h (ends-exactly file at);
  stops = λ file at k r h. of-told h (stops-exactly file at k);
  refuses = λ file at k r h. of-told h (refuses-exactly file at k);
  accepts = λ file at r h. subst (λ (o : Outcome). HandsBack file at o ↔ (Passed (start_tests (drop at file)) × Passed (record_tests (drop at file)))) (sym h) (accepts-exactly file at);
  product-one = product-coincide;
  quadratic-one = quadratic-coincide;
  inverse-one = inverse-coincide;
  position-one = position-coincide;
  begin-one = begin-coincide;
  step-one = step-coincide;
  finish-one = finish-coincide;
  solve-one = solve-coincide;
  search-one = search-coincide;
  affine-one = affine-coincide;
  correct-one = λ t word r s x y h k. correct-coincide r s x y h k;
  encode_one = λ t word r s x y h k. encode-coincide r s x y h k;
  salvage-one = salvage-coincide;
  write-one = write-coincide;
  next_one = λ file at start end start' end' h k. next-coincide h k;
  read_one = read-coincide;
  turn_one = λ read bytes k r s w h g. turned-once (h w.file w.at w.read w.lent) (g w.file w.at w.read w.lent);
}
