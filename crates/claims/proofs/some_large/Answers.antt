-- `claims::some_large` meets its contract: the roots are asked first.
-- Assumes nothing.
use mathlib.Core.Path.{◌≡◌, sym, ◌∙◌}
use mathlib.Core.Bool.{Bool, true, false}
use mathlib.Core.List.{List, ◌∷◌}
use Prim.Native.Nat.{ℕ}
use Rattle.claim_rules.specs.Admitting.{some_of}
use Rattle.claims.proofs.some_large.Goals as goal

-- the first list passes
by_first : (t : List ℕ → Bool) (p : List ℕ) (ps : List (List ℕ)) {a : Bool} → a ≡ t p → a ≡ true → a ≡ some_of t (p ∷ ps)
unfolding some_of
by_first t p ps e f = rw (sym e ∙ f) f

-- it does not
by-others : (t : List ℕ → Bool) (p : List ℕ) (ps : List (List ℕ)) {a b : Bool} → a ≡ t p → a ≡ false → b ≡ some_of t ps → b ≡ some_of t (p ∷ ps)
unfolding some_of
by-others t p ps e f g = rw (sym e ∙ f) g

pub returns-then-some_root_large : goal.returns-then-some_root_large
returns-then-some_root_large c = by_first _ _ _ c.some_root_large.ensures c.if-some_root_large.true

pub returns-else-some_root_large : goal.returns-else-some_root_large
returns-else-some_root_large c = by-others _ _ _ c.some_root_large.ensures c.if-some_root_large.false c.some_polynomial_large.ensures
