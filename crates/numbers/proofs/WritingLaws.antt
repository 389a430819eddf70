-- Words put one by one make what is written (docs/FORMATS.md, "Numbers in, numbers out").
--     words_are_written      the bytes, one word behind the other and a line feed where a line has been begun
--     words_put_are_written  the same of lent room
--     put_where_it_fits      where there is room, the room's other bytes are as they were
--     word_fits              where any word fits, this one does, whole
-- Assumes nothing.
use mathlib.Core.Path.{◌≡◌, refl, ap, sym, ◌∙◌}
use mathlib.Core.Bool.{Bool, true, false}
use mathlib.Core.List.{List, [], ◌∷◌, ◌++◌, append_assoc, append-nil}
use Prim.Native.Nat.{ℕ, ◌+◌, ◌%◌, ◌≤◌}
use native.Mathlib.Omega.{arith}
use lib.Dec.{leb, ltb, eqb}
use lib.ListN.{length, take, drop, length-append}
use lib.Seq.{sets-eq}
use Rattle.std.specs.Prelude.{if◌then◌else◌}
use borrow.Author.Tests.{leb-true, leb-false, eq-eqb, ne_eqb}
use Rattle.numbers.specs.Writing.{Puts, fits_word, decimal, behind, written_from, written, space_before, feed_after, word_at, column_after, feed_at_end, word_by_word, PutsWords, none, next}
use Rattle.numbers.proofs.PutLaws.{puts_then}

-- what stands between a line of `column` words and what comes next
abbrev joint : ℕ → List ℕ → List ℕ
joint column [] = feed_at_end column
joint column (w ∷ ws) = space_before column

-- the sixteenth word of a line, and any other
joint_full : (ws : List ℕ) (rest : List ℕ) → 10 ∷ (joint 0 ws ++ rest) ≡ 10 ∷ rest
joint_full [] rest = refl
joint_full (w ∷ ws) rest = refl

joint_more : (i column : ℕ) (ws rest : List ℕ) → eqb (i % 16) 15 ≡ false → joint (column + 1) ws ++ rest ≡ behind i ws ∷ rest
joint_more i column [] rest e = rw (e, ne_eqb (column + 1) 0 (λ q. omega arith))
joint_more i column (w ∷ ws) rest e = rw (e, ne_eqb (column + 1) 0 (λ q. omega arith))

joint_behind : (i column : ℕ) (ws rest : List ℕ) → column ≡ i % 16 → (full : Bool) → leb 15 column ≡ full → feed_after column ++ (joint (column_after column) ws ++ rest) ≡ behind i ws ∷ rest
joint_behind i column ws rest c true f =
    rw (f, eq-eqb (i % 16) 15 (omega (arith, leb-true 15 column f))) (joint_full ws rest)
joint_behind i column ws rest c false f =
    rw f (joint_more i column ws rest (ne_eqb (i % 16) 15 (λ q. omega (arith, leb-false 15 column f))))

column_next : (i column : ℕ) → column ≡ i % 16 → (full : Bool) → leb 15 column ≡ full → column_after column ≡ (i + 1) % 16
column_next i column c true f = rw f (omega (arith, leb-true 15 column f))
column_next i column c false f = rw f (omega (arith, leb-false 15 column f))

by_word : (ws : List ℕ) (i column : ℕ) → column ≡ i % 16 → word_by_word column ws ≡ joint column ws ++ written_from i ws
unfolding word_by_word written_from word_at
by_word [] i column c = sym (append-nil (feed_at_end column))
by_word (w ∷ ws) i column c =
    let rest = written_from (i + 1) ws in
    rw (by_word ws (i + 1) (column_after column) (column_next i column c (leb 15 column) refl))
    (append_assoc (space_before column) (decimal w ++ feed_after column) (joint (column_after column) ws ++ rest)
    ∙ ap (λ (l : List ℕ). space_before column ++ l)
    (append_assoc (decimal w) (feed_after column) (joint (column_after column) ws ++ rest)
    ∙ ap (λ (l : List ℕ). decimal w ++ l) (joint_behind i column ws rest c (leb 15 column) refl)))

zero_joint : (ws rest : List ℕ) → joint 0 ws ++ rest ≡ rest
zero_joint [] rest = refl
zero_joint (w ∷ ws) rest = refl

pub words_are_written : (ws : List ℕ) → word_by_word 0 ws ≡ written ws
words_are_written ws = by_word ws 0 0 refl ∙ zero_joint ws (written ws)

puts_by_word : {room : List ℕ} {at column : ℕ} {ws : List ℕ} {mid : List ℕ} {at' column' : ℕ} → PutsWords room at column ws mid at' column' → (r : ℕ) (after : List ℕ) → Puts mid at' (feed_at_end column') r after → Puts room at (word_by_word column ws) r after
unfolding word_by_word
puts_by_word none r after q = q
puts_by_word (next {column = column} {w = w} {ws = ws} p rest) r after q =
    puts_then {l = word_at column w} {m = word_by_word (column_after column) ws} p.0 (rw p.1 at (puts_by_word rest r after q))

pub words_put_are_written : (room : List ℕ) (at : ℕ) (ws mid : List ℕ) (at' column' r : ℕ) (after : List ℕ) → PutsWords room at 0 ws mid at' column' → Puts mid at' (feed_at_end column') r after → Puts room at (written ws) r after
words_put_are_written room at ws mid at' column' r after p q = rw (words_are_written ws) at (puts_by_word p r after q)

pub put_where_it_fits : (room : List ℕ) (at : ℕ) (bytes : List ℕ) (r : ℕ) (after : List ℕ) → Puts room at bytes r after → at + length bytes ≤ length room → (r ≡ at + length bytes) × (after ≡ take at room ++ bytes ++ drop (at + length bytes) room)
put_where_it_fits room at bytes r after p h = (omega (arith, p.ended), p.holds ∙ sets-eq bytes room at h)

-- the parts of a word
space_le : (t : Bool) → length {A = ℕ} (if t then [] else 32 ∷ []) ≤ 1
space_le true = omega arith
space_le false = omega arith

feed_le : (t : Bool) → length {A = ℕ} (if t then 10 ∷ [] else []) ≤ 1
feed_le true = omega arith
feed_le false = omega arith

digits_le : (n : ℕ) (t u : Bool) → ltb n 10 ≡ t → ltb n 100 ≡ u → length (decimal n) ≤ 3
unfolding decimal
digits_le n true u e f = rw e (omega arith)
digits_le n false true e f = rw (e, f) (omega arith)
digits_le n false false e f = rw (e, f) (omega arith)

word_le : (column word : ℕ) → length (word_at column word) ≤ 5
unfolding word_at
word_le column word =
    omega (arith, length-append (space_before column) (decimal word ++ feed_after column), length-append (decimal word) (feed_after column), space_le (eqb column 0), feed_le (leb 15 column), digits_le word (ltb word 10) (ltb word 100) refl refl)

pub word_fits : (size at column word : ℕ) → fits_word size at ≡ true → at + length (word_at column word) ≤ size
unfolding fits_word
word_fits size at column word e = omega (arith, leb-true (at + 5) size e, word_le column word)
