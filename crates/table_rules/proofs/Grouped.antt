-- A cut by trace bits is a list of groups: which groups, in which order, and that no root is lost or doubled.
--   bit_words-ascend, bit_words-complete   the words of n bits ascend, and they are all of them
--   nonempty       no entry of a cut is empty
--   Grouped i s l  l holds, for ascending words, the members of s whose bits from level i on are the word
--   CUT-GROUPED    every cut by trace bits is such a list
--   all_members     all members, entry by entry
--   cut-length     it has as many members as there are roots;  cut-member  and they are the roots
--   Told m         m bits tell the roots apart: a group of level m or more has at most one member
--   groups-told           where m bits tell elements apart, a group of level m or more has at most one member
-- Assumes nothing.
use mathlib.Core.Path.{◌≡◌, refl, sym, ap, ap₂, ◌∙◌, fun_ext, subst}
use mathlib.Core.Logic.{◌↔◌, ⊎_elim}
use mathlib.Core.Bool.{Bool, true, false, not, cond, ◌&&◌}
use mathlib.Core.List.Memᴰ
use mathlib.Core.List.{List, [], ◌∷◌, ◌++◌, map, map-append, map-map, append-nil, append_assoc, Memᴰ}
use Prim.Native.Nat.{ℕ, zero, suc, ◌+◌, ◌≤◌, ◌<◌}
use native.Mathlib.Nat.{not-suc-le-zero, zero-add}
use native.Mathlib.Omega.{arith}
use lib.Dec.{T}
use lib.ListN.{length, length-append}
use Rattle.algebra.specs.Trial.{keep}
use Rattle.algebra.specs.Trial.{All, Distinct}
use Rattle.algebra.proofs.Trial.{all_keep, distinct-keep, keep-passed, kept-member}
use Rattle.table_rules.specs.Entries.{Entry, Halving, unless_empty}
use Rattle.table_rules.specs.Groups.{bit_words, precedes, InOrder, agrees, group, by_bit}
use Rattle.table_rules.proofs.Lists.{keep-both, all_append, all-mapped, all-to-map}
use Rattle.table_rules.proofs.Counting.{agrees_first, agrees-none}
use Rattle.table_rules.proofs.Cut.{Cut, whole, parted}

-- ---- order

abbrev under : Bool → List (List Bool) → List (List Bool)
under b = map (λ w. b ∷ w)

precedes-under : (b : Bool) (v w : List Bool) → precedes v w ≡ true → precedes (b ∷ v) (b ∷ w) ≡ true
unfolding precedes
precedes-under true v w h = h
precedes-under false v w h = h

ascending-under : (b : Bool) (ws : List (List Bool)) → InOrder ws → InOrder (under b ws)
ascending-under b [] h = tt
ascending-under b (w ∷ ws) h =
    (all-to-map (λ v. precedes (b ∷ w) v ≡ true) (λ v. precedes w v ≡ true) (λ v. b ∷ v) ws (precedes-under b w) h.0, ascending-under b ws h.1)

-- the words with a 0 in front come before those with a 1
ascending-join : (vs ws : List (List Bool)) → InOrder vs → InOrder ws → InOrder (under false vs ++ under true ws)
unfolding precedes
ascending-join [] ws h k = ascending-under true ws k
ascending-join (v ∷ vs) ws h k = (
  all_append (λ w. precedes (false ∷ v) w ≡ true) (under false vs) (under true ws)
      (all-to-map (λ w. precedes (false ∷ v) w ≡ true) (λ w. precedes v w ≡ true) (λ w. false ∷ w) vs (precedes-under false v) h.0)
      (all-mapped (λ w. precedes (false ∷ v) w ≡ true) (λ w. true ∷ w) ws (λ w. refl)),
  ascending-join vs ws h.1 k,
)

-- all words of n bits, as `groups_at` takes them, ascend
bit_words-ascend : (n : ℕ) → InOrder (bit_words n)
unfolding bit_words
bit_words-ascend zero = (tt, tt)
bit_words-ascend (suc n) = ascending-join (bit_words n) (bit_words n) (bit_words-ascend n) (bit_words-ascend n)

-- and they are all of them
bit_words-complete : (w : List Bool) → Memᴰ w (bit_words (length w))
unfolding bit_words
bit_words-complete [] = Memᴰ.head refl
bit_words-complete (false ∷ w) = Memᴰ.append_left (under true (bit_words (length w))) (Memᴰ.map (λ v. false ∷ v) (bit_words-complete w))
bit_words-complete (true ∷ w) = Memᴰ.append_right (under false (bit_words (length w))) (Memᴰ.map (λ v. true ∷ v) (bit_words-complete w))

-- ---- no entry of a cut is empty

-- parts that are empty were omitted
pub nonempty : {A : Type 0} {H : Halving A} {c i : ℕ} {s : List A} {l : List (Entry A)} → Cut H c i s l → All (λ e. 0 < length e.1) l
unfolding unless_empty
nonempty {A} (whole {i} {s}) = go s
  where
    go : (s : List A) → All (λ e. 0 < length e.1) (unless_empty i s)
    go [] = tt
    go (x ∷ s) = (omega arith, tt)
nonempty (parted {l = l} {r} a p q) = all_append (λ e. 0 < length e.1) l r (nonempty p) (nonempty q)

-- one entry behind the other
unfoldable pub all_members : {A : Type 0} → List (Entry A) → List A
all_members [] = []
all_members (e ∷ l) = e.1 ++ all_members l

module _ {A : Type 0} (bit : ℕ → A → Bool) where
  -- no two roots share their first m bits
  abbrev pub Told : ℕ → List A → Type 0
  Told m roots = (w : List Bool) → m ≤ length w → length (group bit w roots) ≤ 1

  -- ---- each entry is a group, and the groups ascend

  abbrev at_word : ℕ → List A → List Bool → Entry A
  at_word i s w = (i + length w, keep (agrees bit i w) s)

  -- words, ascending, and at each its group
  pub record Grouped (i : ℕ) (s : List A) (l : List (Entry A)) : Type 0 where
    pub at : List (List Bool)
    pub ascending : InOrder at
    pub are : l ≡ map (at_word i s) at

  at_word-under : (i : ℕ) (s : List A) (b : Bool) (ws : List (List Bool))
      → map (at_word (suc i) (keep (λ r. cond b (bit i r) (not (bit i r))) s)) ws ≡ map (at_word i s) (under b ws)
  at_word-under i s b ws =
      sym (map-map (at_word i s) (λ w. b ∷ w) ws
      ∙ ap (λ f. map f ws) (fun_ext λ w. ap₂ (λ (n : ℕ) (k : List A). (n, k)) (omega arith) (agrees_first bit i b w s)))

  -- EACH STATE: every cut is a list of groups in ascending order of trace bits
  pub cut-grouped : {c i : ℕ} {s : List A} {l : List (Entry A)} → Cut (by_bit bit) c i s l → Grouped i s l
  unfolding unless_empty
  cut-grouped (whole {i} {s}) = go s (agrees-none bit i s)
    where
      go : (s : List A) → keep (agrees bit i []) s ≡ s → Grouped i s (unless_empty i s)
      go [] e = record { at = []; ascending = tt; are = refl }
      go (x ∷ s) e = record { at = [] ∷ []; ascending = (tt, tt); are = ap₂ (λ (n : ℕ) (k : List A). (n, k) ∷ []) (omega arith) (sym e) }
  cut-grouped (parted {i} {s} {l} {r} a p q) = go (cut-grouped p) (cut-grouped q)
    where
      go : Grouped (suc i) ((by_bit bit).low i s) l → Grouped (suc i) ((by_bit bit).high i s) r → Grouped i s (l ++ r)
      go g h = record {
        at = under false g.at ++ under true h.at;
        ascending = ascending-join g.at h.at g.ascending h.ascending;
        are = ap₂ ◌++◌ (g.are ∙ at_word-under i s false g.at) (h.are ∙ at_word-under i s true h.at) ∙ sym (map-append (at_word i s) (under false g.at) (under true h.at));
      }

  -- ---- no root is lost, and none is doubled

  members-append : (l r : List (Entry A)) → all_members (l ++ r) ≡ all_members l ++ all_members r
  unfolding all_members
  members-append [] r = refl
  members-append (e ∷ l) r = ap (λ u. e.1 ++ u) (members-append l r) ∙ sym (append_assoc e.1 (all_members l) (all_members r))

  members-entry : (i : ℕ) (s : List A) → all_members (unless_empty i s) ≡ s
  unfolding unless_empty all_members
  members-entry i [] = refl
  members-entry i (x ∷ s) = append-nil (x ∷ s)

  -- a cut has as many members as there are roots
  pub cut-length : {c i : ℕ} {s : List A} {l : List (Entry A)} → Cut (by_bit bit) c i s l → length (all_members l) ≡ length s
  cut-length (whole {i} {s}) = ap length (members-entry i s)
  cut-length (parted {i} {s} {l} {r} a p q) =
      ap length (members-append l r) ∙ length-append (all_members l) (all_members r) ∙ ap₂ ◌+◌ (cut-length p) (cut-length q) ∙ keep-both (bit i) s

  -- and they are the roots
  pub cut-member : {c i : ℕ} {s : List A} {l : List (Entry A)} → Cut (by_bit bit) c i s l → (x : A) → Memᴰ x (all_members l) ↔ Memᴰ x s
  cut-member (whole {i} {s}) x = (subst (Memᴰ x) (members-entry i s), subst (Memᴰ x) (sym (members-entry i s)))
  cut-member (parted {i} {s} {l} {r} a p q) x = (
    λ m. ⊎_elim (λ k. ((kept-member _ s).0 ((cut-member p x).0 k)).0) (λ k. ((kept-member _ s).0 ((cut-member q x).0 k)).0)
        (Memᴰ.append_cases (all_members l) (subst (Memᴰ x) (members-append l r) m)),
    λ m. subst (Memᴰ x) (sym (members-append l r)) (place (bit i x)
        (λ e. (cut-member p x).1 ((kept-member _ s).1 (m, subst (λ b. T (not b)) (sym e) tt))) (λ e. (cut-member q x).1 ((kept-member _ s).1 (m, subst T (sym e) tt))) refl),
  )
    where
      place : (b : Bool) → (bit i x ≡ false → Memᴰ x (all_members l)) → (bit i x ≡ true → Memᴰ x (all_members r)) → bit i x ≡ b
          → Memᴰ x (all_members l ++ all_members r)
      place true f g e = Memᴰ.append_right (all_members l) (g e)
      place false f g e = Memᴰ.append_left (all_members r) (f e)

  -- ---- where m bits tell elements apart, a group of level m or more has at most one member

  same_bits : (i : ℕ) (w : List Bool) (x y : A) → T (agrees bit i w x) → T (agrees bit i w y) → (k : ℕ) → k < length w → bit (i + k) x ≡ bit (i + k) y
  unfolding agrees
  same_bits i [] x y h g k l = absurd (not-suc-le-zero l)
  same_bits i (b ∷ w) x y h g k l = go b (bit i x) (bit i y) refl refl h g k l (same_bits (suc i) w x y)
    where
      go : (b u v : Bool) → bit i x ≡ u → bit i y ≡ v → T (cond b u (not u) && agrees bit (suc i) w x) → T (cond b v (not v) && agrees bit (suc i) w y)
          → (k : ℕ) → k < suc (length w)
          → (T (agrees bit (suc i) w x) → T (agrees bit (suc i) w y) → (k : ℕ) → k < length w → bit (suc i + k) x ≡ bit (suc i + k) y)
          → bit (i + k) x ≡ bit (i + k) y
      go true true true eu ev h g zero l rec = ap (λ j. bit j x) (omega arith) ∙ eu ∙ sym ev ∙ ap (λ j. bit j y) (omega arith)
      go false false false eu ev h g zero l rec = ap (λ j. bit j x) (omega arith) ∙ eu ∙ sym ev ∙ ap (λ j. bit j y) (omega arith)
      go true true true eu ev h g (suc k) l rec = ap (λ j. bit j x) (omega arith) ∙ rec h g k (omega arith) ∙ ap (λ j. bit j y) (omega arith)
      go false false false eu ev h g (suc k) l rec = ap (λ j. bit j x) (omega arith) ∙ rec h g k (omega arith) ∙ ap (λ j. bit j y) (omega arith)
      go true false true eu ev h g k l rec = absurd h
      go true true false eu ev h g k l rec = absurd g
      go true false false eu ev h g k l rec = absurd h
      go false true false eu ev h g k l rec = absurd h
      go false false true eu ev h g k l rec = absurd g
      go false true true eu ev h g k l rec = absurd h

  module _ (m : ℕ) (Is : A → Type 0) (apart : (x y : A) → Is x → Is y → ((i : ℕ) → i < m → bit i x ≡ bit i y) → x ≡ y) where
    pub groups-told : (roots : List A) → All Is roots → Distinct roots → Told m roots
    groups-told roots h d w l =
        go (group bit w roots) (all_keep Is (agrees bit 0 w) roots h) (distinct-keep (agrees bit 0 w) roots d) (keep-passed (agrees bit 0 w) roots)
      where
        go : (s : List A) → All Is s → Distinct s → All (λ x. T (agrees bit 0 w x)) s → length s ≤ 1
        go [] h d p = omega arith
        go (x ∷ []) h d p = omega arith
        go (x ∷ y ∷ s) h d p =
            absurd (d.0.0 (apart x y h.0 h.1.0 λ i g.
            ap (λ j. bit j x) (sym (zero-add i)) ∙ same_bits 0 w x y p.0 p.1.0 i (omega arith) ∙ ap (λ j. bit j y) (zero-add i)))
