-- The roots of an affine polynomial are the sums that the elimination leaves.
--   Left         the vectors that it leaves
--   left_by      those that the code leaves
--   roots-none   there is no root where the marked vector was swept out
--   roots-some   else they are the sums of it, without its mark, and any of the others
-- Assumes nothing.
use mathlib.Core.Path.{◌≡◌, sym, ap, ap₂, ◌∙◌, subst}
use mathlib.Core.Bool.{true}
use mathlib.Core.Logic.{⊎_elim}
use mathlib.Core.List.Memᴰ
use mathlib.Core.List.{List, [], Memᴰ}
use Prim.Native.Nat.{ℕ, zero, suc, ◌*◌, ◌/◌, ◌%◌, ◌^◌, ◌≤◌, ◌<◌}
use native.Mathlib.Nat.{one-mul, div_self, div-eq_of_lt, div-lt_iff_lt-mul, zero-div}
use native.Mathlib.Decide.{dec_lt, ℕ_discrete}
use native.Mathlib.Omega.{arith}
use lib.Bits.{bit_xor, xor_comm, xor_self, xor_zero_l, xor_zero_r, xor_shr, xor_lt}
use lib.Dec.{T, eqb, eqb→eq, eqb_refl}
use lib.ListN.{length, get_or, length-map, get_or-map}
use lib.Pow.{pow_pos, pow-lt}
use Rattle.algebra.specs.Trial.{All, Ascending}
use Rattle.algebra.proofs.Trial.{kept-only, all-at}
use Rattle.field.specs.Rows.{known}
use Rattle.field.proofs.Digits.{digit-mul-le}
use Rattle.field.proofs.Xor.{xor_assoc, xor-cancel}
use Rattle.field.proofs.Additive.{additive-zero}
use Rattle.input.specs.Limit.{widest}
use Rattle.find_affine.specs.Affine.{terms_at, value_at, affine_roots}
use Rattle.find_affine.specs.Systems.{Imaged, Rowed, Units, digit_row, row_at, vectors_after}
use Rattle.find_affine.specs.Spaces.{spanned}
use Rattle.find_affine.proofs.Maps.{digit_of, digit-xor, digit-power, digit-zero, sum_over}
use Rattle.find_affine.proofs.Turns.{Projects, lead-lt, units-project}
use Rattle.find_affine.proofs.Vectors.{Reached, reached-after}
use Rattle.find_affine.proofs.Sums.{spanned-all, spanned-member, spanned-ascending}
use Rattle.find_affine.proofs.Marked.{terms-xor, marked, marked-xor, marked-low, marked-top, marked-lt}

-- the vectors behind all turns
pub record Left (m : ℕ) (cs : List ℕ) (constant : ℕ) (vectors : List ℕ) : Type 0 where
  pub projects : Projects (marked m cs constant) m m (λ j. get_or vectors j 0)

-- ---- what the code leaves

module _ {m : ℕ} (k : known m ≡ true) (fits : m ≤ widest) {cs images units : List ℕ} {constant : ℕ} {rows : List (List ℕ)}
    (i : Imaged m cs constant images) (r : Rowed images rows) (u : Units m units) where
  abbrev A : ℕ → ℕ
  A = marked m cs constant

  -- each image is that of its unit
  image : (j : ℕ) → get_or images j 0 ≡ A (get_or units j 0)
  image j = go (dec_lt j m) (ℕ_discrete j m)
    where
      go : Dec (j < m) → Dec (j ≡ m) → get_or images j 0 ≡ A (get_or units j 0)
      go (yes h) e = i.digit j h ∙ sym (marked-low m k cs constant (2 ^ j) (pow-lt h)) ∙ ap A (sym (u.unit j (omega arith)))
      go (no h) (yes e) = ap (λ n. get_or images n 0) e ∙ i.last ∙ sym (marked-top m k cs constant) ∙ ap A (sym (u.unit m (omega arith)) ∙ ap (λ n. get_or units n 0) (sym e))
      go (no h) (no e) =
          let l : m < j = omega arith in
          i.zeros j l ∙ sym (additive-zero A (marked-xor m k cs constant)) ∙ ap A (sym (u.zeros j l))

  row_is : (n : ℕ) → n < m → row_at n rows ≡ digit_row n images
  row_is n h = r.row n (omega arith)

  entry : (n j : ℕ) → n < m → get_or (row_at n rows) j 0 ≡ digit_of n (A (get_or units j 0))
  entry n j h =
      ap (λ l. get_or l j 0) (row_is n h) ∙ ap (get_or (digit_row n images) j) (sym (ap (λ a. a % 2) (zero-div (2 ^ n)))) ∙ get_or-map (digit_of n) images j 0
      ∙ ap (digit_of n) (image j)

  wide : (n : ℕ) → n < m → length (row_at n rows) ≡ length units
  wide n h = ap length (row_is n h) ∙ length-map images (digit_of n) ∙ i.long ∙ sym u.long

  start : Reached A m 0 rows units
  start = record { holds = record { wide = wide; entry = entry }; projects = units-project A m (λ j. get_or units j 0) u.unit u.zeros }

  pub left_by : {vectors : List ℕ} → vectors ≡ vectors_after m rows units → Left m cs constant vectors
  left_by e =
      let r = reached-after A (marked-xor m k cs constant) m start m (let h : m ≤ m = omega arith in h) in
      record { projects = subst (λ l. Projects A m m (λ j. get_or l j 0)) (sym e) r.projects }

-- ---- the roots

module _ {m : ℕ} (k : known m ≡ true) {cs vectors : List ℕ} {constant : ℕ} (small : constant < 2 ^ m) (left : Left m cs constant vectors) where
  abbrev B : ℕ → ℕ
  B = marked m cs constant

  abbrev v : ℕ → ℕ
  v j = get_or vectors j 0

  -- the vectors' images are 0
  no-image : (j : ℕ) → B (v j) ≡ 0
  no-image j = digit-zero m (B (v j)) (marked-lt m k cs constant small (v j)) (λ n h. left.projects.dead n j h)

  below : (j : ℕ) → j < m → v j < 2 ^ m
  below j h = lead-lt j m (left.projects.lead j) h

  no-terms : (j : ℕ) → j < m → terms_at m cs (v j) ≡ 0
  no-terms j h = sym (marked-low m k cs constant (v j) (below j h)) ∙ no-image j

  -- a sum of unmarked vectors has no mark
  sum_lt : (n e : ℕ) → n ≤ m → sum_over n v e < 2 ^ m
  unfolding sum_over
  sum_lt zero e h = pow_pos m
  sum_lt (suc n) e h =
      let a = below n h in
      let b : digit_of n e * v n < 2 ^ m = omega (arith, digit-mul-le (e / 2 ^ n) (v n)) in
      xor_lt m (sum_over n v e) (digit_of n e * v n) (sum_lt n e (omega arith)) b

  -- a root with the mark is the sum of the vectors over its digits
  module _ (x : ℕ) (h : x < 2 ^ m) (z : value_at m cs constant x ≡ 0) where
    abbrev e : ℕ
    e = bit_xor (2 ^ m) x

    mark : digit_of m e ≡ 1
    mark = digit-xor m (2 ^ m) x ∙ ap₂ (λ a b. bit_xor (a % 2) (b % 2)) (div_self (pow_pos m)) (div-eq_of_lt h)

    image-zero : B e ≡ 0
    image-zero = marked-xor m k cs constant (2 ^ m) x ∙ ap₂ bit_xor (marked-top m k cs constant) (marked-low m k cs constant x h) ∙ z

    is_sum : bit_xor (sum_over m v e) (v m) ≡ e
    unfolding sum_over
    is_sum =
        ap (bit_xor (sum_over m v e)) (sym (one-mul (v m)) ∙ ap (λ d. d * v m) (sym mark))
        ∙ left.projects.fixes e (xor_lt (suc m) (2 ^ m) x (pow-lt (let l : m < suc m = omega arith in l)) (let l : 2 ^ m < 2 ^ suc m = pow-lt (let l : m < suc m = omega arith in l) in omega arith))
        (λ n l. ap (digit_of n) image-zero ∙ ap (λ a. a % 2) (zero-div (2 ^ n)))

    -- with no marked vector there is none
    no-root : v m ≡ 0 → ⊥
    no-root n =
        let a : sum_over m v e ≡ e = sym (xor_zero_r (sum_over m v e)) ∙ ap (bit_xor (sum_over m v e)) (sym n) ∙ is_sum in
        let b : ◌≡◌ {A = ℕ} 0 1 = sym (ap (λ q. q % 2) (div-eq_of_lt (sum_lt m e (let l : m ≤ m = omega arith in l)))) ∙ ap (digit_of m) a ∙ mark in
        let c : ⊥ = omega arith in c

    -- without the mark
    root_is : bit_xor (bit_xor (v m) (2 ^ m)) (sum_over m v e) ≡ x
    root_is =
        ap (λ a. bit_xor a (sum_over m v e)) (xor_comm (v m) (2 ^ m)) ∙ xor_assoc (2 ^ m) (v m) (sum_over m v e)
        ∙ ap (bit_xor (2 ^ m)) (xor_comm (v m) (sum_over m v e) ∙ is_sum) ∙ xor-cancel (2 ^ m) x

  root-test : (x : ℕ) → T (eqb (value_at m cs constant x) 0) → value_at m cs constant x ≡ 0
  root-test x t = eqb→eq (value_at m cs constant x) 0 t

  test-root : {a : ℕ} → a ≡ 0 → T (eqb a 0)
  test-root {a} z = subst (λ b. T (eqb b 0)) (sym z) (eqb_refl 0)

  pub roots-none : v m ≡ 0 → affine_roots m cs constant ≡ []
  unfolding affine_roots
  roots-none n =
      kept-only (λ x. eqb (value_at m cs constant x) 0) (2 ^ m) [] tt
      (λ x. (λ i. absurd (Memᴰ.not-nil i), λ h. absurd (no-root x h.0 (root-test x h.1) n)))

  -- the marked vector is left
  module _ (live : v m ≡ 0 → ⊥) where
    abbrev first : ℕ
    first = bit_xor (v m) (2 ^ m)

    leads : v m / 2 ^ m ≡ 1
    leads = ⊎_elim (λ z. absurd (live z)) (λ o. o) (left.projects.lead m)

    first-lt : first < 2 ^ m
    first-lt =
        let q : first / 2 ^ m ≡ 0 = xor_shr (v m) (2 ^ m) m ∙ ap₂ bit_xor leads (div_self (pow_pos m)) in
        let l : first < 1 * 2 ^ m = (div-lt_iff_lt-mul (pow_pos m)).0 (let c : first / 2 ^ m < 1 = omega arith in c) in
        subst (λ b. first < b) (one-mul (2 ^ m)) l

    -- without its mark it is a root
    first-root : value_at m cs constant first ≡ 0
    first-root =
        ap (bit_xor constant)
        (sym (marked-low m k cs constant first first-lt) ∙ marked-xor m k cs constant (v m) (2 ^ m) ∙ ap₂ bit_xor (no-image m) (marked-top m k cs constant) ∙ xor_zero_l constant)
        ∙ xor_self constant

    abbrev Root : ℕ → Type 0
    Root x = (x < 2 ^ m) × (value_at m cs constant x ≡ 0)

    -- a vector added to a root gives a root
    more-root : (j : ℕ) → j < m → (x : ℕ) → Root x → Root (bit_xor (v j) x)
    more-root j h x r = (
      xor_lt m (v j) x (below j h) r.0,
      ap (bit_xor constant) (terms-xor m k cs (v j) x ∙ ap (λ a. bit_xor a (terms_at m cs x)) (no-terms j h) ∙ xor_zero_l (terms_at m cs x)) ∙ r.1,
    )

    all-roots : All Root (spanned m vectors first)
    all-roots = spanned-all vectors Root m first (first-lt, first-root) more-root

    ascending : Ascending (spanned m vectors first)
    ascending =
        spanned-ascending vectors left.projects.lead left.projects.apart m first
        (λ j h n. digit-xor j (v m) (2 ^ m) ∙ ap₂ bit_xor (left.projects.apart j m h n) (digit-power j m h))

    pub roots-some : affine_roots m cs constant ≡ spanned m vectors first
    unfolding affine_roots
    roots-some =
        kept-only (λ x. eqb (value_at m cs constant x) 0) (2 ^ m) (spanned m vectors first) ascending
        (λ x. (
          λ i. let r = all-at Root (spanned m vectors first) all-roots i in (r.0, test-root r.1),
          λ h. subst (λ y. Memᴰ y (spanned m vectors first)) (root_is x h.0 (root-test x h.1)) (spanned-member vectors m first (bit_xor (2 ^ m) x)),
        ))
