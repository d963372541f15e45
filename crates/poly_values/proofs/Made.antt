-- What `from_fn` makes.
--   made-table     the answers of a closure that changes nothing are a table
-- Assumes nothing.
use mathlib.Core.Path.{◌≡◌, refl, sym, ap, ◌∙◌, subst}
use mathlib.Core.List.{List}
use Prim.Native.Nat.{ℕ, zero, suc, ◌+◌, ◌<◌}
use native.Mathlib.Omega.{arith}
use lib.ListN.{get_or}
use denote.Param.Members.{Mut}
use Rattle.std.specs.Fn.{Called}
use Rattle.std.specs.Array.{IsFromFnResult, IsFromFnResultFrom}
use Rattle.std.proofs.lemmas.Grind.{same_number_lists}
use Rattle.poly_values.specs.Planes.{tabulate}
use Rattle.poly_values.proofs.Lists.{length-tabulate, get_d_tabulate}

shift : (i k : ℕ) → i + suc k ≡ i + 1 + k
shift i k = omega arith

made-at : {F : Type 0} (g : Mut F (ℕ × Unit {0}) ℕ) (h : ℕ → ℕ) (f : F) → ((i y : ℕ) (q : F) → Called g f (i, tt) y q → (q ≡ f) × (y ≡ h i))
    → (ys : List ℕ) (p : F) → p ≡ f → (n i : ℕ) → IsFromFnResultFrom g p ys i n → (k : ℕ) → k < n → get_or ys (i + k) 0 ≡ h (i + k)
made-at g h f answers ys p e zero i y k l = absurd (omega arith)
made-at {F = F} g h f answers ys p e (suc n) i (q, y, at, called, rest) zero l =
    let a = answers i y q (subst (λ (r : F). Called g r (i, tt) y q) e called) in
    let here : i ≡ i + 0 = omega arith in
    subst (λ j. get_or ys j 0 ≡ h j) here (at.1 0 ∙ a.1)
made-at {F = F} g h f answers ys p e (suc n) i (q, y, at, called, rest) (suc k) l =
    let a = answers i y q (subst (λ (r : F). Called g r (i, tt) y q) e called) in
    ap (λ j. get_or ys j 0) (shift i k) ∙ made-at g h f answers ys q a.0 n (i + 1) rest k (omega arith) ∙ ap h (sym (shift i k))

-- the answers of a closure that changes nothing are a table
pub made-table : {F : Type 0} (g : Mut F (ℕ × Unit {0}) ℕ) (h : ℕ → ℕ) (f : F) (ys : List ℕ) (n : ℕ) → IsFromFnResult g f ys n
    → ((i y : ℕ) (q : F) → Called g f (i, tt) y q → (q ≡ f) × (y ≡ h i)) → ys ≡ tabulate n h
made-table g h f ys n made answers =
    same_number_lists ys (tabulate n h) (made.long ∙ sym (length-tabulate n h))
    (λ k l.
    let from : 0 + k ≡ k = omega arith in
    subst (λ j. get_or ys j 0 ≡ h j) from (made-at g h f answers ys f refl n 0 made.each k (omega (arith, made.long)))
    ∙ sym (get_d_tabulate n h k (omega (arith, made.long))))
