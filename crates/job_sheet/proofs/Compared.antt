-- Two peaks compared by their steps against their limits (docs/RULES.md section 13.2).
--   AtMost, LowerThan        a peak stands at most as high as another; lower: s/l against t/k by the products s k and t l
--   most-trans           the order, over a limit that is not 0
--   Compared, compared   which of two the higher is: the second where the first stands lower, else the first
-- Assumes nothing.
use Rattle.std.proofs.Common.{◌≡◌, ◌*◌, ◌<◌, ◌≤◌, Bool, true, false, refl, ltb-false, ltb-true}
use Rattle.job_sheet.specs.Figures.{Peak, stands_lower, higher}
use Rattle.job_sheet.proofs.Better.{least-trans, higher-first, higher-second}

abbrev pub AtMost : Peak → Peak → Type 0
AtMost p q = p.steps * q.limit ≤ q.steps * p.limit

abbrev pub LowerThan : Peak → Peak → Type 0
LowerThan p q = p.steps * q.limit < q.steps * p.limit

pub most-trans : (p q r : Peak) → 0 < q.limit → AtMost p q → AtMost q r → AtMost p r
most-trans p q r l a b = least-trans r.steps r.limit q.steps q.limit p.steps p.limit l b a

-- ---- the higher of two

pub data Compared (p q : Peak) : Type 0 where
  second : LowerThan p q → higher p q ≡ q → Compared p q
  first : AtMost q p → higher p q ≡ p → Compared p q

pub compared : (p q : Peak) → Compared p q
compared p q = by_order (stands_lower p q) refl
  where
    by_order : (b : Bool) → stands_lower p q ≡ b → Compared p q
    by_order true e = second (ltb-true (p.steps * q.limit) (q.steps * p.limit) e) (higher-second p q e)
    by_order false e = first (ltb-false (p.steps * q.limit) (q.steps * p.limit) e) (higher-first p q e)
