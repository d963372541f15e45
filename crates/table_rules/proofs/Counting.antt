-- The count of groups: it is found by walking down the tree of halvings, it is within m times the whole part of
-- s/(c+1), and a higher cutoff counts fewer.
--   sharing c n i s   how many parts of s, n levels below its level i, have more than c members
--   left c n i s      the same for the n levels from i on, together
--   agrees_first      a word's members are found bit by bit
--   groups-counted    the groups above c at one level;  count_left  at all levels
--   COUNT-BOUND       they are at most m times the whole part of s/(c+1)
--   COUNT-FALLS       a higher cutoff counts as many or fewer
--   left-none, left-large   where there are at most c no part has more; a part above c counts for itself and for its
--                           halves
-- Assumes nothing.
use mathlib.Core.Path.{◌≡◌, refl, sym, ap, ap₂, ◌∙◌, fun_ext}
use mathlib.Core.Bool.{Bool, true, false, not, cond, ◌&&◌}
use mathlib.Core.List.{List, [], ◌∷◌, ◌++◌, map, map-append, map-map}
use Prim.Native.Nat.{ℕ, zero, suc, ◌+◌, ◌*◌, ◌/◌, ◌≤◌, ◌<◌}
use native.Mathlib.Nat.{add-mul, suc-mul, zero-mul, le-div_iff_mul-le}
use native.Mathlib.Omega.{arith}
use lib.Dec.{ltb}
use lib.ListN.{length, length-append}
use Rattle.algebra.specs.Trial.{keep}
use Rattle.table_rules.specs.Groups.{bit_words, sum_below, larger_than, agrees, groups_at, group_count}
use Rattle.algebra.proofs.Trial.{length-keep}
use Rattle.table_rules.proofs.Lists.{Test, less, least, test, keep_all, keep_append, keep-keep, keep-both}

-- ---- sums

sum_below-add : (n : ℕ) (f g : ℕ → ℕ) → sum_below n (λ i. f i + g i) ≡ sum_below n f + sum_below n g
unfolding sum_below
sum_below-add zero f g = refl
sum_below-add (suc n) f g = omega (arith, sum_below-add n (λ i. f (suc i)) (λ i. g (suc i)))

sum_below-le : (n : ℕ) (f g : ℕ → ℕ) → ((i : ℕ) → f i ≤ g i) → sum_below n f ≤ sum_below n g
unfolding sum_below
sum_below-le zero f g h = omega arith
sum_below-le (suc n) f g h = omega (arith, h 0, sum_below-le n (λ i. f (suc i)) (λ i. g (suc i)) (λ i. h (suc i)))

sum_below-bound : (n : ℕ) (f : ℕ → ℕ) (b : ℕ) → ((i : ℕ) → f i ≤ b) → sum_below n f ≤ n * b
unfolding sum_below
sum_below-bound zero f b h = omega (arith, zero-mul b)
sum_below-bound (suc n) f b h = rw suc-mul (omega (arith, h 0, sum_below-bound n (λ i. f (suc i)) b (λ i. h (suc i))))

-- 1 where there are more than c, else 0
abbrev pub large : {A : Type 0} → ℕ → List A → ℕ
large c s = cond (ltb c (length s)) 1 0

module _ {A : Type 0} (bit : ℕ → A → Bool) where
  abbrev zeros : ℕ → List A → List A
  zeros i = keep (λ r. not (bit i r))

  abbrev ones : ℕ → List A → List A
  ones i = keep (bit i)

  sharing : ℕ → ℕ → ℕ → List A → ℕ
  sharing c zero i s = large c s
  sharing c (suc n) i s = sharing c n (suc i) (zeros i s) + sharing c n (suc i) (ones i s)

  -- on all n levels
  unfoldable pub left : ℕ → ℕ → ℕ → List A → ℕ
  left c zero i s = 0
  left c (suc n) i s = large c s + (left c n (suc i) (zeros i s) + left c n (suc i) (ones i s))

  -- ---- the groups at one level

  -- a word's members are found bit by bit
  pub agrees_first : (i : ℕ) (b : Bool) (w : List Bool) (s : List A) → keep (agrees bit i (b ∷ w)) s ≡ keep (agrees bit (suc i) w) (keep (λ r. cond b (bit i r) (not (bit i r))) s)
  unfolding agrees
  agrees_first i b w s = sym (keep-keep (agrees bit (suc i) w) (λ r. cond b (bit i r) (not (bit i r))) s)

  pub agrees-none : (i : ℕ) (s : List A) → keep (agrees bit i []) s ≡ s
  unfolding agrees
  agrees-none i s = keep_all s

  abbrev members : ℕ → List A → List (List Bool) → List (List A)
  members i s = map (λ w. keep (agrees bit i w) s)

  members-first : (i : ℕ) (b : Bool) (s : List A) (ws : List (List Bool))
      → members i s (map (λ w. b ∷ w) ws) ≡ members (suc i) (keep (λ r. cond b (bit i r) (not (bit i r))) s) ws
  members-first i b s ws = map-map (λ w. keep (agrees bit i w) s) (λ w. b ∷ w) ws ∙ ap (λ f. map f ws) (fun_ext λ w. agrees_first i b w s)

  sharing-words : (c n i : ℕ) (s : List A) → length (larger_than c (members i s (bit_words n))) ≡ sharing c n i s
  unfolding bit_words sharing
  sharing-words c zero i s = ap (λ l. length (larger_than c (l ∷ []))) (agrees-none i s) ∙ go (ltb c (length s))
    where
      go : (b : Bool) → length (cond b (s ∷ []) []) ≡ cond b 1 0
      go true = refl
      go false = refl
  sharing-words c (suc n) i s =
      ap (λ l. length (larger_than c l)) (map-append _ (map (λ w. false ∷ w) (bit_words n)) (map (λ w. true ∷ w) (bit_words n))
      ∙ ap₂ ◌++◌ (members-first i false s (bit_words n)) (members-first i true s (bit_words n)))
      ∙ ap length (keep_append _ (members (suc i) (zeros i s) (bit_words n)) (members (suc i) (ones i s) (bit_words n)))
      ∙ length-append (larger_than c (members (suc i) (zeros i s) (bit_words n))) (larger_than c (members (suc i) (ones i s) (bit_words n)))
      ∙ ap₂ ◌+◌ (sharing-words c n (suc i) (zeros i s)) (sharing-words c n (suc i) (ones i s))

  -- more than c is more than 0
  nonempty-larger : (c : ℕ) (l : List (List A)) → larger_than c (larger_than 0 l) ≡ larger_than c l
  nonempty-larger c l = keep-keep _ _ l ∙ ap (λ t. keep t l) (fun_ext λ s. go (length s) (ltb c (length s)) (ltb 0 (length s)) (test c (length s)) (test 0 (length s)))
    where
      go : (n : ℕ) (b z : Bool) → Test c n b → Test 0 n z → (z && b) ≡ b
      go n true true h k = refl
      go n true false (less h) (least k) = absurd (omega arith)
      go n false true h k = refl
      go n false false h k = refl

  groups-counted : (c i : ℕ) (roots : List A) → length (larger_than c (groups_at bit i roots)) ≡ sharing c i 0 roots
  unfolding groups_at
  groups-counted c i roots = ap length (nonempty-larger c (members 0 roots (bit_words i))) ∙ sharing-words c i 0 roots

  -- ---- all levels

  left-sum : (c n i : ℕ) (s : List A) → sum_below n (λ k. sharing c k i s) ≡ left c n i s
  unfolding sum_below sharing left
  left-sum c zero i s = refl
  left-sum c (suc n) i s =
      ap (λ k. large c s + k) (sum_below-add n (λ k. sharing c k (suc i) (zeros i s)) (λ k. sharing c k (suc i) (ones i s))
      ∙ ap₂ ◌+◌ (left-sum c n (suc i) (zeros i s)) (left-sum c n (suc i) (ones i s)))

  -- THE COUNT: the groups above c below level m are what the walk down the tree finds
  pub count_left : (c m : ℕ) (roots : List A) → group_count bit c m roots ≡ left c m 0 roots
  unfolding group_count
  count_left c m roots = ap (sum_below m) (fun_ext λ i. groups-counted c i roots) ∙ left-sum c m 0 roots

  -- ---- the bound: the groups of one level are disjoint, and each has at least c + 1 members

  sharing-bound : (c n i : ℕ) (s : List A) → sharing c n i s * suc c ≤ length s
  unfolding sharing
  sharing-bound c zero i s = go (length s) (ltb c (length s)) (test c (length s))
    where
      go : (n : ℕ) (b : Bool) → Test c n b → cond b 1 0 * suc c ≤ n
      go n true (less h) = omega arith
      go n false h = omega arith
  sharing-bound c (suc n) i s =
      rw add-mul (omega (arith, sharing-bound c n (suc i) (zeros i s), sharing-bound c n (suc i) (ones i s), keep-both (bit i) s))

  -- THE BOUND: at most m times the whole part of s/(c+1)
  pub count-bound : (c m : ℕ) (roots : List A) → group_count bit c m roots ≤ m * (length roots / suc c)
  unfolding group_count
  count-bound c m roots =
      sum_below-bound m _ _ λ i. rw (groups-counted c i roots) ((le-div_iff_mul-le {k = suc c} (omega arith)).1 (sharing-bound c i 0 roots))

  -- ---- a higher cutoff counts fewer

  sharing-falls : (c d n i : ℕ) (s : List A) → c ≤ d → sharing d n i s ≤ sharing c n i s
  unfolding sharing
  sharing-falls c d zero i s h = go (length s) (ltb c (length s)) (ltb d (length s)) (test c (length s)) (test d (length s))
    where
      go : (n : ℕ) (x y : Bool) → Test c n x → Test d n y → cond y 1 0 ≤ cond x 1 0
      go n true true a b = omega arith
      go n true false a b = omega arith
      go n false true (least a) (less b) = absurd (omega arith)
      go n false false a b = omega arith
  sharing-falls c d (suc n) i s h = omega (arith, sharing-falls c d n (suc i) (zeros i s) h, sharing-falls c d n (suc i) (ones i s) h)

  -- step numbers fall or stay equal where the cutoff rises
  pub count-falls : (c d m : ℕ) (roots : List A) → c ≤ d → group_count bit d m roots ≤ group_count bit c m roots
  unfolding group_count
  count-falls c d m roots h = sum_below-le m _ _ λ i. rw (groups-counted c i roots, groups-counted d i roots) (sharing-falls c d i 0 roots h)

  -- ---- where there are at most c, no part has more

  pub left-none : (c n i : ℕ) (s : List A) → length s ≤ c → left c n i s ≡ 0
  unfolding left
  left-none c zero i s h = refl
  left-none c (suc n) i s h =
      ap₂ ◌+◌ (go (ltb c (length s)) (test c (length s)))
      (ap₂ ◌+◌ (left-none c n (suc i) (zeros i s) (omega (arith, length-keep (λ r. not (bit i r)) s))) (left-none c n (suc i) (ones i s) (omega (arith, length-keep (bit i) s))))
    where
      go : (b : Bool) → Test c (length s) b → cond {A = ℕ} b 1 0 ≡ 0
      go true (less k) = absurd (omega arith)
      go false k = refl

  -- a part above c counts for itself and for its halves
  pub left-large : (c n i : ℕ) (s : List A) → c < length s → left c (suc n) i s ≡ suc (left c n (suc i) (zeros i s) + left c n (suc i) (ones i s))
  unfolding left
  left-large c n i s h = go (ltb c (length s)) (test c (length s)) (left c n (suc i) (zeros i s) + left c n (suc i) (ones i s))
    where
      go : (b : Bool) → Test c (length s) b → (k : ℕ) → cond b 1 0 + k ≡ suc k
      go true t k = omega arith
      go false (least t) k = absurd (omega arith)
