-- 01, Text: signals to characters.  R-032, R-033, R-034, R-035, R-036, R-038
-- Assumes nothing.
use Rattle.std.specs.Prelude.{◌≡◌, Bool, ◌||◌, List, [], ◌∷◌, ◌++◌, ℕ, eqb, ltb, length, if◌then◌else◌, Result, Ok, Err}
use Rattle.signals.specs.declared.Case.{Case}
use Rattle.signals.specs.declared.Case.TheVariants.{Letters, Figures}
use Rattle.signals.specs.Signals.{Signal, pair, lone, free, mute, signals, word_of}
use Rattle.signals.specs.Meaning.{traffic_of, letters, figures, error_mark}
use Rattle.signals.specs.Numbers.{Answer, answered, refused, first_not}
use Rattle.text.specs.declared.Written as told
use Rattle.text.specs.declared.PrintError.{PrintError}
use Rattle.text.specs.Written.{Written, Counted, counted, leaves}

-- "one rule for letters case, one for figures case"  R-033
-- "Shifts and blank print no byte. F, G, H in figures print 35."  R-034, R-035. (The service signals are mute too, but none
-- may stand in a list that is printed: refusal 3.)
abbrev pub prints : Case → Signal → List ℕ
prints Letters (pair w l f) = l ∷ []
prints Letters (lone w l) = l ∷ []
prints Letters (free w c) = c ∷ []
prints Letters (mute w) = []
prints Figures (pair w l f) = f ∷ []
prints Figures (lone w l) = 35 ∷ []
prints Figures (free w c) = c ∷ []
prints Figures (mute w) = []

abbrev pub prints_in : List Signal → Case → ℕ → List ℕ
prints_in [] c w = []
prints_in (s ∷ ss) c w = if eqb w (word_of s) then prints c s else prints_in ss c w

-- what one word of the list prints in the case in force. "The error mark is byte 255 in a list of signals and prints 42."  R-036
unfoldable pub bytes_of : Case → ℕ → List ℕ
bytes_of c w = if eqb w error_mark then 42 ∷ [] else prints_in signals c w

-- "each shift signal hands on to the other"  R-033. A shift to the case in force leaves it.
abbrev pub case_at : Case → ℕ → Case
case_at c w = if eqb w letters then Letters else if eqb w figures then Figures else c

-- "Printing starts in a given case"  R-032
unfoldable pub printed : Case → List ℕ → List ℕ
printed c [] = []
printed c (w ∷ ws) = bytes_of c w ++ printed (case_at c w) ws

-- "the case they end in"  R-038
unfoldable pub ends_printed : Case → List ℕ → Case
ends_printed c [] = c
ends_printed c (w ∷ ws) = ends_printed (case_at c w) ws

-- "printing (traffic, 255)"
unfoldable pub may_print : ℕ → Bool
may_print w = traffic_of w || eqb w error_mark

-- 01, Numbers returned, for printing. "printing 7, 3, 2"  R-134, R-135
--     7   "over 8,192 signals for mode B or printing"           "8,192"                 R-133
--     3   "a word that may not stand there"                     "index of the first"    R-128
--     2   "encoding, printing: lent room too short"             "room needed"           R-127
unfoldable pub printing : List ℕ → Case → ℕ → Answer Written
printing ws c room =
    if ltb 8192 (length ws) then refused 7 8192
    else if ltb (first_not may_print ws) (length ws) then refused 3 (first_not may_print ws)
    else if ltb room (length (printed c ws)) then refused 2 (length (printed c ws))
    else answered (record { bytes = printed c ws; ends = ends_printed c ws })

-- each case of the answer, by 01's number and the value beside it  R-167
abbrev pub said_printed : Result told.Written PrintError → Answer Counted
said_printed (Ok w) = answered (record { count = w.count; ends = w.ends })
said_printed (Err PrintError.TooLong) = refused 7 8192
said_printed (Err (PrintError.BadWord i)) = refused 3 i
said_printed (Err (PrintError.NoRoom n)) = refused 2 n

-- The promise of `print`: r is the answer, and `after` the lent room afterwards.  R-168
abbrev pub Prints : List ℕ → Case → List ℕ → Result told.Written PrintError → List ℕ → Type 0
Prints ws c room r after =
    (said_printed r ≡ counted (printing ws c (length room))) × (after ≡ leaves (printing ws c (length room)) room)
