-- The lines of the sheet, from their parts.
--   field-made    the line of a field;  apart-made  the last line
--   none-put      what is put where there is no highest record
-- Assumes nothing.
use Rattle.std.proofs.Common.{◌≡◌, ℕ, ◌+◌, ◌*◌, ◌≤◌, length, List, [], ◌∷◌, ◌++◌, refl, ◌∙◌, append_assoc, arith}
use Rattle.job_text.specs.Lines.{line_feed, decimal, spaced}
use Rattle.job_text.proofs.Writing.{spaced-append, begun, longer}
use Rattle.job_sheet.specs.Figures.{FieldFigures}
use Rattle.job_sheet.specs.Text.{none_text, highest_text, field_text, unknown_word, mark_word, short_word, apart_text}

-- three dashes have six bytes
pub none-put : (s : List ℕ) {t : List ℕ} → t ≡ s ++ none_text → (t ≡ s ++ none_text) × (length t ≤ length s + 21 * 3)
none-put s w = (w, omega (arith, longer s _ none_text w))

field-parts : (m : ℕ) (f : FieldFigures)
    → (((((decimal m ++ spaced (f.accepted ∷ [])) ++ spaced f.refused) ++ spaced (f.roots ∷ [])) ++ spaced (f.steps ∷ [])) ++ highest_text f.highest) ++ (line_feed ∷ [])
    ≡ field_text m f
field-parts m f =
    rw (
      spaced-append (f.accepted ∷ []) (f.refused ++ (f.roots ∷ f.steps ∷ [])),
      spaced-append f.refused (f.roots ∷ f.steps ∷ []),
      spaced-append (f.roots ∷ []) (f.steps ∷ []),
    )
    (simp append_assoc)

pub field-made : (m : ℕ) (f : FieldFigures) {s a b c d e g t : List ℕ} → s ≡ [] → a ≡ s ++ decimal m
    → b ≡ a ++ spaced (f.accepted ∷ []) → c ≡ b ++ spaced f.refused → d ≡ c ++ spaced (f.roots ∷ []) → e ≡ d ++ spaced (f.steps ∷ [])
    → g ≡ e ++ highest_text f.highest → t ≡ g ++ (line_feed ∷ []) → t ≡ field_text m f
field-made m f {t = t} n p q r u v w x = parts ∙ field-parts m f
  where
    parts : t ≡ (((((decimal m ++ spaced (f.accepted ∷ [])) ++ spaced f.refused) ++ spaced (f.roots ∷ [])) ++ spaced (f.steps ∷ [])) ++ highest_text f.highest) ++ (line_feed ∷ [])
    parts = rw (x, w, v, u, r, q, begun n p) refl

-- three words with their numbers, and what ends the line
three : (a b c d e f g : List ℕ) → (((a ++ b) ++ (c ++ d)) ++ (e ++ f)) ++ g ≡ a ++ (b ++ (c ++ (d ++ (e ++ (f ++ g)))))
three a b c d e f g = simp append_assoc

pub apart-made : (unknown mark short : ℕ) {s a b c t : List ℕ} → s ≡ [] → a ≡ s ++ (unknown_word ++ spaced (unknown ∷ []))
    → b ≡ a ++ (mark_word ++ spaced (mark ∷ [])) → c ≡ b ++ (short_word ++ spaced (short ∷ [])) → t ≡ c ++ (line_feed ∷ [])
    → t ≡ apart_text unknown mark short
apart-made unknown mark short {t = t} n p q r w =
    parts ∙ three unknown_word (spaced (unknown ∷ [])) mark_word (spaced (mark ∷ [])) short_word (spaced (short ∷ [])) (line_feed ∷ [])
  where
    parts : t ≡ (((unknown_word ++ spaced (unknown ∷ [])) ++ (mark_word ++ spaced (mark ∷ []))) ++ (short_word ++ spaced (short ∷ []))) ++ (line_feed ∷ [])
    parts = rw (w, r, q, begun n p) refl
