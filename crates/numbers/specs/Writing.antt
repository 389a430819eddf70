-- How words are written, and bytes put into lent room (docs/FORMATS.md, "Numbers in, numbers out"). Assumes nothing.
use Rattle.std.specs.Prelude.{◌≡◌, Bool, true, false, ◌||◌, List, [], ◌∷◌, ◌++◌, ℕ, ◌+◌, ◌-◌, ◌/◌, ◌%◌, min, eqb, leb, ltb, length, if◌then◌else◌}
use Rattle.std.proofs.lemmas.List.Edits.{sets}
use Rattle.numbers.specs.declared.Line.{Line}
use Rattle.numbers.specs.declared.Room.{Room}

-- Bytes stored into `room` from `at` on, and nothing else: `after` is what it then holds, and r the place past the last. Those for
-- which there is no room are dropped: `sets` stores nothing past the end, and r counts only what was stored.
pub record Puts (room : List ℕ) (at : ℕ) (bytes : List ℕ) (r : ℕ) (after : List ℕ) : Type 0 where
  pub ended : r ≡ at + min (length bytes) (length room - at)
  pub holds : after ≡ sets room at bytes

-- The same of a `Room`, before and after: it still lends the same bytes.
pub record PutsOn (before : Room) (bytes : List ℕ) (after : Room) : Type 0 where
  pub puts : Puts before.room.now before.at bytes after.at after.room.now
  pub same_reference : after.room.ghost_name ≡ before.room.ghost_name

-- the decimal digits of a number below 1,000, without leading zeros
unfoldable pub decimal : ℕ → List ℕ
decimal n =
    if ltb n 10 then (48 + n) ∷ []
    else if ltb n 100 then (48 + n / 10) ∷ (48 + n % 10) ∷ []
    else (48 + n / 100) ∷ (48 + n / 10 % 10) ∷ (48 + n % 10) ∷ []

-- two hexadecimal digits, with capitals: 55 + 10 is 65, the letter A
abbrev pub hex_digit : ℕ → ℕ
hex_digit n = if ltb n 10 then 48 + n else 55 + n

unfoldable pub hexadecimal : ℕ → List ℕ
hexadecimal b = hex_digit (b / 16) ∷ hex_digit (b % 16) ∷ []

-- "sixteen to a line, one space between, each line ended by a line feed, nothing at all where there are none": behind each word,
-- numbered from 0, stands a line feed where it is the sixteenth of its line or the last of all, and a space elsewhere
abbrev pub is_last : List ℕ → Bool
is_last [] = true
is_last (w ∷ ws) = false

abbrev pub behind : ℕ → List ℕ → ℕ
behind i rest = if eqb (i % 16) 15 || is_last rest then 10 else 32

unfoldable pub written_from : ℕ → List ℕ → List ℕ
written_from i [] = []
written_from i (w ∷ ws) = decimal w ++ behind i ws ∷ written_from (i + 1) ws

abbrev pub written : List ℕ → List ℕ
written ws = written_from 0 ws

-- The same line by line: the words of one line, which are sixteen at most. That what is written is such lines, each full but perhaps the last, is
-- `one_line` and `line_by_line` (proofs/LineLaws.antt).
unfoldable pub spaced : List ℕ → List ℕ
spaced [] = []
spaced (w ∷ ws) = 32 ∷ (decimal w ++ spaced ws)

unfoldable pub line_of : List ℕ → List ℕ
line_of [] = []
line_of (w ∷ ws) = decimal w ++ (spaced ws ++ 10 ∷ [])

-- One word at a time, where `column` words stand on the line: the space goes before a word, since what comes next is not known, and a
-- line that has been begun is ended at the end. That this makes what `written` says is `words_are_written` (proofs/WritingLaws.antt).
abbrev pub space_before : ℕ → List ℕ
space_before column = if eqb column 0 then [] else 32 ∷ []

abbrev pub feed_after : ℕ → List ℕ
feed_after column = if leb 15 column then 10 ∷ [] else []

unfoldable pub word_at : ℕ → ℕ → List ℕ
word_at column word = space_before column ++ (decimal word ++ feed_after column)

-- whether any word fits from a place on: five bytes are a space, three digits and a line feed. That then none is dropped is `word_fits`
-- (proofs/WritingLaws.antt).
unfoldable pub fits_word : (size at : ℕ) → Bool
fits_word size at = leb (at + 5) size

abbrev pub column_after : ℕ → ℕ
column_after column = if leb 15 column then 0 else column + 1

abbrev pub feed_at_end : ℕ → List ℕ
feed_at_end column = if eqb column 0 then [] else 10 ∷ []

unfoldable pub word_by_word : ℕ → List ℕ → List ℕ
word_by_word column [] = feed_at_end column
word_by_word column (w ∷ ws) = word_at column w ++ word_by_word (column_after column) ws

-- The promise of `put_word`.
abbrev pub PutsWord : List ℕ → ℕ → ℕ → ℕ → Line → List ℕ → Type 0
PutsWord room at column word r after = Puts room at (word_at column word) r.at after × (r.column ≡ column_after column)

-- words put one by one, each where the one before it ended: the room, the place and the column before and after
pub data PutsWords : (room : List ℕ) (at column : ℕ) → List ℕ → (after : List ℕ) (at' column' : ℕ) → Type 0 where
  none : {room : List ℕ} {at column : ℕ} → PutsWords room at column [] room at column
  next : {room : List ℕ} {at column : ℕ} {w : ℕ} {ws : List ℕ} {r : Line} {mid after : List ℕ} {at' column' : ℕ} → PutsWord room at column w r mid → PutsWords mid r.at r.column ws after at' column' → PutsWords room at column (w ∷ ws) after at' column'
