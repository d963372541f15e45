-- The quadratic table's rule, for any field: one test over the table, and the law that turns it into the rule at each
-- entry. The test goes by the values of j^2 + j and of the trace at 1, 2, 4, .. alone.
--   quad            j^2 + j;  quad-xor  it is additive
--   entry_if, entry  whether j may stand at i, by the values of j^2 + j and of the trace at 1, 2, 4, ..
--   half_roots       the test of a whole table: as many entries as elements, and each is right
--   half-root-at    where the test passes, the rule holds at each entry;  halves-hold  the list is the quadratic table
-- Assumes nothing.
use mathlib.Core.Path.{◌≡◌, refl, sym, ap, ◌∙◌, subst}
use mathlib.Core.Logic.{inl, inr}
use mathlib.Core.Bool.{Bool, true, false}
use mathlib.Core.List.{List}
use Prim.Native.Nat.{ℕ, ◌%◌, ◌<◌}
use lib.Bits.{bit_xor}
use lib.Dec.{T, eqb, ltb, eqb→eq, ltb→lt}
use lib.ListN.{length, get_or}
use Rattle.algebra.specs.Field.{trace}
use Rattle.field.specs.Field.{Field, size, mul, Tr}
use Rattle.field.specs.Tables.{HalfRoot, Halves}
use Rattle.field.proofs.Table.{both_true, both_true-left, both_true-right, every_from, every_from-at}
use Rattle.field.proofs.Xor.{xor-swap}
use Rattle.field.proofs.Additive.{Additive, linear_map, basis, by-basis}
use Rattle.field.proofs.Ring.{square-xor}
use Rattle.field.proofs.Generator.{Generated}
use Rattle.field.proofs.Trace.{trace-xor}

-- j^2 + j
unfoldable pub quad : Field → ℕ → ℕ
unfolding mul
quad F j = bit_xor (mul F j j) j

-- whether j may stand at i, by the values `qs` of j^2 + j and `ts` of the trace at 1, 2, 4, .. ; the first argument
-- says whether j is 65535
unfoldable pub entry_if : Bool → ℕ → List ℕ → List ℕ → ℕ → ℕ → Bool
unfolding linear_map
entry_if true n qs ts i j = eqb (linear_map ts i) 1
entry_if false n qs ts i j = both_true (ltb j n) (both_true (eqb (j % 2) 0) (eqb (linear_map qs j) i))

unfoldable pub entry : ℕ → List ℕ → List ℕ → ℕ → ℕ → Bool
unfolding entry_if
entry n qs ts i j = entry_if (eqb j 65535) n qs ts i j

-- the test of a whole table: as many entries as elements, and each is right
unfoldable pub half_roots : Field → List ℕ → Bool
unfolding entry basis quad trace
half_roots F xs = both_true (eqb (length xs) (size F)) (every_from (entry (size F) (basis (quad F) F.degree) (basis (Tr F) F.degree)) 0 xs)

module _ (F : Field) (gen : Generated F) where
  pub quad-xor : Additive (quad F)
  unfolding quad
  quad-xor x y = ap (λ (t : ℕ). bit_xor t (bit_xor x y)) (square-xor F gen.monic x y) ∙ xor-swap (mul F x x) (mul F y y) x y

  qs : List ℕ
  qs = basis (quad F) F.degree

  ts : List ℕ
  ts = basis (Tr F) F.degree

  entry-right : (i j : ℕ) → i < size F → T (entry (size F) qs ts i j) → HalfRoot F i j
  unfolding entry quad qs ts
  entry-right i j hi = go (eqb j 65535) refl
    where
      go : (b : Bool) → eqb j 65535 ≡ b → T (entry_if b (size F) qs ts i j) → HalfRoot F i j
      go true e t =
          inl (by-basis F.degree (Tr F) (trace-xor F gen) i hi ∙ eqb→eq (linear_map ts i) 1 t, eqb→eq j 65535 (subst T (sym e) tt))
      go false e t = inr (below, even, root)
        where
          below : j < size F
          below = ltb→lt j (size F) (both_true-left (ltb j (size F)) (both_true (eqb (j % 2) 0) (eqb (linear_map qs j) i)) t)

          rest : T (both_true (eqb (j % 2) 0) (eqb (linear_map qs j) i))
          rest = both_true-right (ltb j (size F)) (both_true (eqb (j % 2) 0) (eqb (linear_map qs j) i)) t

          even : j % 2 ≡ 0
          even = eqb→eq (j % 2) 0 (both_true-left (eqb (j % 2) 0) (eqb (linear_map qs j) i) rest)

          root : bit_xor (mul F j j) j ≡ i
          root =
              by-basis F.degree (quad F) quad-xor j below
              ∙ eqb→eq (linear_map qs j) i (both_true-right (eqb (j % 2) 0) (eqb (linear_map qs j) i) rest)

  -- the rule at each entry
  pub half-root-at : (xs : List ℕ) → T (half_roots F xs) → (i : ℕ) → i < size F → HalfRoot F i (get_or xs i 0)
  unfolding half_roots qs ts
  half-root-at xs t i hi =
      entry-right i (get_or xs i 0) hi (every_from-at (entry (size F) qs ts) xs (both_true-right (eqb (length xs) (size F)) (every_from (entry (size F) qs ts) 0 xs) t) i
      (subst (λ (n : ℕ). i < n) (sym (eqb→eq (length xs) (size F) (both_true-left (eqb (length xs) (size F)) (every_from (entry (size F) qs ts) 0 xs) t))) hi))

  pub halves-hold : (xs : List ℕ) → T (half_roots F xs) → Halves F xs
  unfolding half_roots qs ts
  halves-hold xs t =
      record {
        entries = eqb→eq (length xs) (size F) (both_true-left (eqb (length xs) (size F)) (every_from (entry (size F) qs ts) 0 xs) t);
        entry = λ i l. half-root-at xs t i l;
      }
