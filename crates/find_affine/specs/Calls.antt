-- What the call on affine polynomials answers, for every input (docs/RULES.md section 3.6).
--   affine_tests   its tests in their order, each behind its number
--   affine_outcome its outcome: that there is no root, or how many there are and the dimension
--   spanned_values what it tells of the roots: that there is none, or how many there are and the dimension
--   Spans         THE CONTRACT: the answers and lists that the call admits
--   Spannable     what is known of what was let in;  SpannedOut  what is then answered and left
-- Assumes nothing.
use Rattle.std.specs.Prelude.{◌≡◌, Bool, true, not, ◌||◌, List, [], ◌∷◌, ℕ, ◌^◌, ◌≤◌, ◌<◌, Option, Some, None, Result, eqb, ltb, length}
use Rattle.algebra.specs.Polynomial.{Below}
use Rattle.refusals.specs.Order.{outcome, Answers}
use Rattle.refusals.specs.Admitting.{told}
use Rattle.refusals.specs.declared.Refusal.{Refusal}
use Rattle.slices.specs.Lists.{copied}
use Rattle.slices.specs.Bounded.{any_from}
use Rattle.field.specs.Rows.{known}
use Rattle.find_affine.specs.Affine.{affine_roots, space_values}
use Rattle.find_affine.specs.declared.Space.{Space}

abbrev pub affine_tests : ℕ → List ℕ → ℕ → ℕ → List (ℕ × Bool)
affine_tests m cs constant room =
    (1, not (known m)) ∷ (20, not (eqb (length cs) m)) ∷ (4, any_from (2 ^ m) cs || not (ltb constant (2 ^ m)))
    ∷ (7, ltb room (2 ^ m)) ∷ []

abbrev pub affine_outcome : ℕ → List ℕ → ℕ → List ℕ → ℕ × List ℕ
affine_outcome m cs constant list =
    outcome (affine_tests m cs constant (length list)) (space_values m (affine_roots m cs constant))

-- "none" has one value, a space two
abbrev pub spanned_values : Option Space → List ℕ
spanned_values None = 0 ∷ []
spanned_values (Some s) = s.count ∷ s.dimension ∷ []

-- the contract: an answer, and the lent list afterwards
abbrev pub Spans : ℕ → List ℕ → ℕ → List ℕ → Result (Option Space) Refusal → List ℕ → Type 0
Spans m cs constant list r after =
    Answers (affine_tests m cs constant (length list)) (space_values m (affine_roots m cs constant))
    (copied (affine_roots m cs constant) list) list (told spanned_values r) after

pub record Spannable (m : ℕ) (cs : List ℕ) (constant : ℕ) (list : List ℕ) : Type 0 where
  pub field : known m ≡ true
  pub count : length cs ≡ m
  pub small : Below (2 ^ m) cs
  pub element : constant < 2 ^ m
  pub room : 2 ^ m ≤ length list

pub record SpannedOut (m : ℕ) (cs : List ℕ) (c : ℕ) (list : List ℕ) (r : Option Space) (after : List ℕ) : Type 0 where
  pub values : spanned_values r ≡ space_values m (affine_roots m cs c)
  pub slots : after ≡ copied (affine_roots m cs c) list
