-- The quadratic table of field 4 reads as docs/RULES.md section 2.3 prints it.
--   printed-rule    the printed list keeps the table's rule: one computed test
--   halves4-reads   whatever keeps the rule in field 4, as what `constants::halves_of` gives does, is the printed list
-- Assumes nothing.
use mathlib.Core.Path.{◌≡◌, sym, subst, ◌∙◌}
use mathlib.Core.List.{List, [], ◌∷◌, ◌++◌}
use Prim.Native.Nat.{ℕ, ◌<◌}
use lib.ListN.{replicate}
use lib.Seq.{ext_get_or}
use Rattle.field.specs.Rows.{poly_in}
use Rattle.field.proofs.Known.{row4}
use Rattle.field.specs.Field.{field_at}
use Rattle.field.specs.Tables.{Halves}
use Rattle.field.proofs.Generator.{generated}
use Rattle.field.proofs.HalfRoots.{half_roots, halves-hold}
use Rattle.field.proofs.Solutions.{half-root-unique}

printed-rule : Halves (field_at 4) ((0 ∷ 6 ∷ 10 ∷ 12 ∷ 8 ∷ 14 ∷ 2 ∷ 4 ∷ []) ++ replicate 8 65535)
unfolding poly_in half_roots
printed-rule = halves-hold _ (generated row4) _ tt

pub halves4-reads : {xs : List ℕ} → Halves (field_at 4) xs
    → xs ≡ (0 ∷ 6 ∷ 10 ∷ 12 ∷ 8 ∷ 14 ∷ 2 ∷ 4 ∷ []) ++ replicate 8 65535
unfolding poly_in
halves4-reads {xs} h =
    ext_get_or 0 xs _ (h.entries ∙ sym printed-rule.entries)
    (λ i l. let b : i < 16 = subst (λ (n : ℕ). i < n) h.entries l in
    half-root-unique _ (generated row4) i _ _ (h.entry i b) (printed-rule.entry i b))
