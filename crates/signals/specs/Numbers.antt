-- 01, Numbers returned, and 02: a call answers, or it refuses by one of these numbers with a value beside it.
--     1   encoding: a byte without a signal                              index of the first
--     2   encoding, printing, a passage: lent room too short             room needed
--     3   a word that may not stand there: text offer (traffic, β),
--         text for mode B (traffic), printing (traffic, 255)             index of the first;
--                                                                        of a passage the entry's place
--     4   station with count over 31, an Ending total not 1 to 4, or a
--         held word neither traffic nor β, or an owed block that the
--         answer does not have (02, T-06); receiver with a search run
--         over 3, or with a remaining wait over 3 (02, T-03)             0
--     5   encoding: over 4,096 characters                                4,096
--     6   mode B: slot past the last                                     number of slots
--     7   over 8,192 signals for mode B or printing                      8,192
--     8   call offered, own identity: a signal outside table 3a
--         (02, T-02)                                                     index of the first
--     9   answer-back code over 20 signals, with a word that is not
--         traffic, or holding D in figures or an over (02, T-06)         0
--    10   a passage: unknown kind (02, T-07, and so the next three)      the entry's place
--    11   a passage: body cut short                                      the entry's place
--    12   a passage: burst out of turn, or bits 3 to 7 set               the entry's place
--    13   a passage: offer before that station's last was taken          the entry's place
-- Which of them a call can give, and in which order it looks for them, stands with the call's own definition.
-- Assumes nothing.
use Rattle.std.specs.Prelude.{Bool, List, [], ◌∷◌, ℕ, suc, if◌then◌else◌}

-- what a call says: the answer, or the refusal's number and the value beside it
pub data Answer (A : Type 0) : Type 0 where
  answered : A → Answer A
  refused : (number value : ℕ) → Answer A

-- the index of the first entry that fails the test; the length where none does
unfoldable pub first_not : (ℕ → Bool) → List ℕ → ℕ
first_not may [] = 0
first_not may (x ∷ xs) = if may x then suc (first_not may xs) else 0
