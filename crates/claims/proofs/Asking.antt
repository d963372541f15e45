-- What the tests of the check find.
--   some-any              some of several lists passes a test
--   ask-empty, ask-long, ask-large, ask-zero   the first test that holds;  ask_in  none holds
--   claim-told            what is known of what was let in
-- Assumes nothing.
use mathlib.Core.Path.{◌≡◌, refl, sym, ap, ◌∙◌}
use mathlib.Core.Bool.{Bool, true, false, cond, ◌||◌}
use mathlib.Core.List.{List, [], ◌∷◌, map}
use Prim.Native.Nat.{ℕ, suc, ◌^◌}
use native.Mathlib.Omega.{arith}
use borrow.Author.Tests.{eqb-false, ltb-false, not-false}
use lib.Dec.{eqb, ltb}
use lib.ListN.{length}
use denote.Ref.{Bor}
use Rattle.std.specs.List.{list_any}
use Rattle.refusals.specs.Order.{Given, Passed}
use Rattle.refusals.specs.Order.Passed.{none}
use Rattle.refusals.proofs.Order.{holds, fails, passes, failed, others}
use Rattle.field.specs.Rows.{IsRow, known}
use Rattle.field.specs.declared.rows.Row.{Row}
use Rattle.field.proofs.Known.{listed-on}
use Rattle.slices.specs.Bounded.{all_below, all_zero, any_from}
use Rattle.slices.proofs.Bounded.{all_below-exactly}
use Rattle.input.specs.Limit.{limit}
use Rattle.claim_rules.specs.Claims.{Claim}
use Rattle.claim_rules.specs.Admitting.{ClaimIn, Sent, claim_tests, polynomials_of, some_of}

-- ---- some of several lists

-- by the word of std
pub some-any : (t : List ℕ → Bool) (ps : List (Bor (List ℕ))) → list_any (λ p. t p.now) ps ≡ some_of t (map (λ p. p.now) ps)
unfolding some_of
some-any t [] = refl
some-any t (p ∷ ps) = go (t p.now) (some-any t ps)
  where
    go : (b : Bool) → list_any (λ p. t p.now) ps ≡ some_of t (map (λ p. p.now) ps) → (b || list_any (λ p. t p.now) ps) ≡ cond b true (some_of t (map (λ p. p.now) ps))
    go true e = refl
    go false e = e

-- ---- the tests in their order

module _ {m : ℕ} {row : Row} (f : List ℕ) (c : Claim) (i : IsRow m row) {a : Bool} (x : a ≡ some_of (λ p. eqb (length p) 0) (polynomials_of f c)) where
  pub ask-empty : a ≡ true → Given 2 (claim_tests m f c)
  ask-empty t = fails (listed-on i) (holds (sym x ∙ t))

  module _ (t : a ≡ false) {b : Bool} (y : b ≡ some_of (λ p. ltb (suc limit) (length p)) (polynomials_of f c)) where
    pub ask-long : b ≡ true → Given 3 (claim_tests m f c)
    ask-long u = fails (listed-on i) (fails (sym x ∙ t) (holds (sym y ∙ u)))

    module _ (u : b ≡ false) {d : Bool} (z : d ≡ some_of (any_from row.size) (c.roots ∷ polynomials_of f c)) where
      -- the row has the field's size
      at_size : some_of (any_from (2 ^ m)) (c.roots ∷ polynomials_of f c) ≡ d
      at_size = ap (λ q. some_of (any_from q) (c.roots ∷ polynomials_of f c)) (sym i.size) ∙ sym z

      pub ask-large : d ≡ true → Given 4 (claim_tests m f c)
      ask-large v = fails (listed-on i) (fails (sym x ∙ t) (fails (sym y ∙ u) (holds (at_size ∙ v))))

      module _ (v : d ≡ false) {e : Bool} (w : e ≡ all_zero f) where
        pub ask-zero : e ≡ true → Given 5 (claim_tests m f c)
        ask-zero k = fails (listed-on i) (fails (sym x ∙ t) (fails (sym y ∙ u) (fails (at_size ∙ v) (holds (sym w ∙ k)))))

        pub ask_in : e ≡ false → Passed (claim_tests m f c)
        ask_in k = passes (listed-on i) (passes (sym x ∙ t) (passes (sym y ∙ u) (passes (at_size ∙ v) (passes (sym w ∙ k) none))))

-- ---- what was let in

-- none of several lists passes: not the first, and none behind it
none_first : (t : List ℕ → Bool) (p : List ℕ) (ps : List (List ℕ)) → some_of t (p ∷ ps) ≡ false → (t p ≡ false) × (some_of t ps ≡ false)
unfolding some_of
none_first t p ps e = go (t p) (some_of t ps) e
  where
    go : (a b : Bool) → cond a true b ≡ false → (a ≡ false) × (b ≡ false)
    go true b e = let z : ◌≡◌ {A = ℕ} 0 1 = cc in absurd (omega arith)
    go false b e = (refl, e)

-- of the four polynomials
record Each (t : List ℕ → Bool) (f : List ℕ) (c : Claim) : Type 0 where
  pub given : t f ≡ false
  pub cofactor : t c.cofactor ≡ false
  pub first : t c.first ≡ false
  pub second : t c.second ≡ false

each_of : (t : List ℕ → Bool) (f : List ℕ) (c : Claim) → some_of t (polynomials_of f c) ≡ false → Each t f c
each_of t f c e =
    let a = none_first t f _ e in
    let b = none_first t c.cofactor _ a.1 in
    let d = none_first t c.first _ b.1 in
    record { given = a.0; cofactor = b.0; first = d.0; second = (none_first t c.second [] d.1).0 }

-- one polynomial
sent-of : (m : ℕ) (p : List ℕ) → eqb (length p) 0 ≡ false → ltb (suc limit) (length p) ≡ false → any_from (2 ^ m) p ≡ false → Sent m p
sent-of m p a b d =
    let n = eqb-false (length p) 0 a in
    record { some = omega arith; few = ltb-false (suc limit) (length p) b; small = (all_below-exactly (2 ^ m) p).0 (not-false (all_below (2 ^ m) p) d) }

pub claim-told : (m : ℕ) (f : List ℕ) (c : Claim) → Passed (claim_tests m f c) → ClaimIn m f c
claim-told m f c p =
    let q = others p in
    let r = others q in
    let s = others r in
    let large = none_first (any_from (2 ^ m)) c.roots (polynomials_of f c) (failed s) in
    let e = each_of (λ p. eqb (length p) 0) f c (failed q) in
    let l = each_of (λ p. ltb (suc limit) (length p)) f c (failed r) in
    let k = each_of (any_from (2 ^ m)) f c large.1 in
    record {
      field = not-false (known m) (failed p);
      given = sent-of m f e.given l.given k.given;
      cofactor = sent-of m c.cofactor e.cofactor l.cofactor k.cofactor;
      first = sent-of m c.first e.first l.first k.first;
      second = sent-of m c.second e.second l.second k.second;
      elements = (all_below-exactly (2 ^ m) c.roots).0 (not-false (all_below (2 ^ m) c.roots) large.0);
      nonzero = failed (others s);
    }
