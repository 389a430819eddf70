-- What is written, line by line (docs/FORMATS.md, "Numbers in, numbers out").
--     one_line       sixteen words or fewer are one line
--     line_by_line   sixteen words are a line, and what follows is written as if by itself
-- Assumes nothing.
use mathlib.Core.Path.{◌≡◌, refl, ap, sym, ◌∙◌}
use mathlib.Core.Bool.{Bool, true, false, ◌||◌}
use mathlib.Core.List.{List, [], ◌∷◌, ◌++◌, append_assoc}
use Prim.Native.Nat.{ℕ, suc, ◌+◌, ◌%◌, ◌≤◌}
use native.Mathlib.Omega.{arith}
use lib.Dec.{eqb}
use lib.ListN.{length}
use borrow.Author.Tests.{eq-eqb, ne_eqb}
use Rattle.std.specs.Prelude.{if◌then◌else◌}
use Rattle.numbers.specs.Writing.{decimal, behind, written_from, written, spaced, line_of}

behind_last : (t : Bool) → ◌≡◌ {A = ℕ} (if t || true then 10 else 32) 10
behind_last true = refl
behind_last false = refl

-- the words of a line, of which i % 16 stand before them
words_on_line : (ws : List ℕ) (i w : ℕ) → i % 16 + length ws ≤ 15 → written_from i (w ∷ ws) ≡ line_of (w ∷ ws)
unfolding written_from line_of spaced
words_on_line [] i w h = ap (λ (b : ℕ). decimal w ++ b ∷ []) (behind_last (eqb (i % 16) 15))
words_on_line (v ∷ vs) i w h =
    rw (ne_eqb (i % 16) 15 (λ q. omega arith), words_on_line vs (i + 1) v (omega arith))
    (ap (λ (l : List ℕ). decimal w ++ 32 ∷ l) (sym (append_assoc (decimal v) (spaced vs) (10 ∷ []))))

pub one_line : (ws : List ℕ) → length ws ≤ 16 → written ws ≡ line_of ws
unfolding written_from line_of
one_line [] h = refl
one_line (w ∷ ws) h = words_on_line ws 0 w (omega arith)

-- only the column counts
same_column : (ws : List ℕ) (i j : ℕ) → i % 16 ≡ j % 16 → written_from i ws ≡ written_from j ws
unfolding written_from
same_column [] i j e = refl
same_column (w ∷ ws) i j e = rw (e, same_column ws (i + 1) (j + 1) (omega arith))

-- words up to the end of a line, and those behind it
behind_same : (ws rest : List ℕ) (i : ℕ) → (i + suc (length ws)) % 16 ≡ 0 → behind i (ws ++ rest) ≡ behind i ws
behind_same [] rest i e = rw (eq-eqb (i % 16) 15 (omega arith))
behind_same (w ∷ ws) rest i e = refl

line_ends : (ws rest : List ℕ) (i : ℕ) → (i + length ws) % 16 ≡ 0 → written_from i (ws ++ rest) ≡ written_from i ws ++ written_from (i + length ws) rest
unfolding written_from
line_ends [] rest i e = same_column rest i (i + 0) (omega arith)
line_ends (w ∷ ws) rest i e =
    let t : i + 1 + length ws ≡ i + suc (length ws) = omega arith in
    rw (behind_same ws rest i e, line_ends ws rest (i + 1) (omega arith), t)
    (sym (append_assoc (decimal w) (behind i ws ∷ written_from (i + 1) ws) (written_from (i + suc (length ws)) rest)))

pub line_by_line : (line rest : List ℕ) → length line ≡ 16 → written (line ++ rest) ≡ line_of line ++ written rest
line_by_line line rest e =
    line_ends line rest 0 (omega arith)
    ∙ rw (one_line line (omega arith), same_column rest (0 + length line) 0 (omega arith))
