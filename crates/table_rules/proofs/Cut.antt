-- What every list of entries on the way from a begun one has: it is a cut through the tree of halvings. Laws of
-- `split_entries` at any place above c, so they hold for steps (docs/RULES.md section 4.3), which take the first such place,
-- and for picks (proofs/Picks).
--   within                   a place above c is a place of the list;  first_above-is  the first entry above c is above c
--   split-left, split-right  a split of two lists, one behind the other, is a split of the one that has the place
--   Cut H c i s l            l comes from the list s at level i by parting, again and again, any part above c
--   CUT-SPLIT                a split at any place above c leaves a cut
-- Assumes nothing.
use mathlib.Core.Path.{◌≡◌, refl, sym, ap, ◌∙◌}
use mathlib.Core.Bool.{Bool, true, false, not, cond, ◌&&◌, true≢false}
use mathlib.Core.List.{List, [], ◌∷◌, ◌++◌, append-nil, append_assoc}
use Prim.Native.Nat.{ℕ, zero, suc, ◌+◌, ◌-◌, ◌≤◌, ◌<◌}
use native.Mathlib.Nat.{not-suc-le-zero}
use native.Mathlib.Decide.{dec_lt}
use native.Mathlib.Omega.{arith}
use borrow.Author.Tests.{ltb-true}
use lib.ListN.{length, get_or-append}
use lib.Seq.{get_or-append-add}
use Rattle.table_rules.specs.Entries.{Entry, Halving, unless_empty, parts, split_entries, above, entry_at, first_above, done}

module _ {A : Type 0} where
  -- ---- places

  -- nothing stands past the end, so a place above c is a place of the list
  pub within : (c : ℕ) (l : List (Entry A)) (k : ℕ) → above c (entry_at l k) ≡ true → k < length l
  within c [] k h = absurd (not-suc-le-zero (ltb-true c 0 h))
  within c (e ∷ l) zero h = omega arith
  within c (e ∷ l) (suc k) h = omega (arith, within c l k h)

  -- the first entry above c is above c
  pub first_above-is : (c : ℕ) (l : List (Entry A)) → done c l ≡ false → above c (entry_at l (first_above c l)) ≡ true
  unfolding done first_above
  first_above-is c [] h = absurd (true≢false h)
  first_above-is c (e ∷ l) h = go (above c e) refl h (first_above-is c l)
    where
      go : (b : Bool) → above c e ≡ b → (not b && done c l) ≡ false → (done c l ≡ false → above c (entry_at l (first_above c l)) ≡ true)
          → above c (entry_at (e ∷ l) (cond b 0 (suc (first_above c l)))) ≡ true
      go true t h rec = t
      go false t h rec = rec h

  module _ (H : Halving A) where
    -- the place is in the first list
    split-left : (k : ℕ) (l r : List (Entry A)) → k < length l → split_entries H k (l ++ r) ≡ split_entries H k l ++ r
    unfolding split_entries
    split-left k [] r h = absurd (not-suc-le-zero h)
    split-left zero (e ∷ l) r h = sym (append_assoc (parts H e) l r)
    split-left (suc k) (e ∷ l) r h = ap (λ u. e ∷ u) (split-left k l r (omega arith))

    -- or in the second
    pub split-right : (k : ℕ) (l r : List (Entry A)) → length l ≤ k → split_entries H k (l ++ r) ≡ l ++ split_entries H (k - length l) r
    unfolding split_entries
    split-right k [] r h = ap (λ j. split_entries H j r) (omega arith)
    split-right zero (e ∷ l) r h = absurd (not-suc-le-zero h)
    split-right (suc k) (e ∷ l) r h = ap (λ u. e ∷ u) (split-right k l r (omega arith) ∙ ap (λ j. l ++ split_entries H j r) (omega arith))

    -- ---- cuts

    -- whole, or parted where it is above c, and each part cut in turn
    pub data Cut (c : ℕ) : ℕ → List A → List (Entry A) → Type 0 where
      whole : {i : ℕ} {s : List A} → Cut c i s (unless_empty i s)
      parted : {i : ℕ} {s : List A} {l r : List (Entry A)} → c < length s → Cut c (suc i) (H.low i s) l → Cut c (suc i) (H.high i s) r → Cut c i s (l ++ r)

    -- a place above c is parted, and a cut is left
    pub cut-split : (c : ℕ) {i : ℕ} {s : List A} {l : List (Entry A)} (k : ℕ) → Cut c i s l → above c (entry_at l k) ≡ true → Cut c i s (split_entries H k l)
    unfolding unless_empty split_entries parts
    cut-split c k (whole {i} {s}) h = go s k h
      where
        go : (s : List A) (k : ℕ) → above c (entry_at (unless_empty i s) k) ≡ true → Cut c i s (split_entries H k (unless_empty i s))
        go [] k h = absurd (not-suc-le-zero (ltb-true c 0 h))
        go (x ∷ s) zero h = rw append-nil (parted (ltb-true c _ h) whole whole)
        go (x ∷ s) (suc k) h = absurd (not-suc-le-zero (ltb-true c 0 h))
    cut-split c k (parted {i} {s} {l} {r} a p q) h = go (dec_lt k (length l)) (λ t. cut-split c k p t) (λ t. cut-split c (k - length l) q t)
      where
        go : Dec (k < length l) → (above c (entry_at l k) ≡ true → Cut c (suc i) (H.low i s) (split_entries H k l))
            → (above c (entry_at r (k - length l)) ≡ true → Cut c (suc i) (H.high i s) (split_entries H (k - length l) r))
            → Cut c i s (split_entries H k (l ++ r))
        go (yes b) left right = rw (split-left k l r b) (parted a (left (rw (get_or-append l r (0, []) k b) at h)) q)
        go (no n) left right =
            let e : length l + (k - length l) ≡ k = omega arith in
            rw (split-right k l r (omega arith)) (parted a p (right (rw (← e, get_or-append-add l r (k - length l) (0, [])) at h)))
