-- Laws of lists, and of the case after a list. Assumes nothing.
use mathlib.Core.Path.{◌≡◌, refl, ap, ◌∙◌}
use mathlib.Core.List.{List, [], ◌∷◌, ◌++◌}
use Prim.Native.Nat.{ℕ, suc}
use native.Mathlib.Numerals.{add-one}
use native.Mathlib.Omega.{arith}
use lib.ListN.{length, replicate, length-append, replicate-append-replicate}
use Rattle.signals.specs.declared.Case.{Case}
use Rattle.overs.specs.Overs.{case_at, case_after}

-- two splittings of one list at the same place
pub same_split : (a c b d : List ℕ) → length b ≡ length d → a ++ b ≡ c ++ d → (a ≡ c) × (b ≡ d)
same_split [] [] b d n e = (refl, e)
same_split [] (y ∷ ys) b d n e = absurd (omega (arith, simp length-append at (ap length e)))
same_split (x ∷ xs) [] b d n e = absurd (omega (arith, simp length-append at (ap length e)))
same_split (x ∷ xs) (y ∷ ys) b d n e =
    let t : xs ++ b ≡ ys ++ d = cc in
    let p = same_split xs ys b d n t in
    let h : xs ≡ ys = p.0 in
    (cc, p.1)

pub replicate_last : (k w : ℕ) → replicate k w ++ w ∷ [] ≡ replicate (suc k) w
replicate_last k w = replicate-append-replicate k 1 w ∙ rw add-one

-- the case after one list and then another
pub case_append : (c : Case) (l m : List ℕ) → case_after c (l ++ m) ≡ case_after (case_after c l) m
unfolding case_after
case_append c [] m = refl
case_append c (w ∷ ws) m = case_append (case_at c w) ws m
