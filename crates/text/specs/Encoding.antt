-- 01, Text: characters to signals, and 02, T-01: small letters.  R-026, R-027, R-028, R-029, R-030, R-031, R-038
-- Assumes nothing.
use Rattle.std.specs.Prelude.{◌≡◌, Bool, true, false, ◌&&◌, List, [], ◌∷◌, ◌++◌, ℕ, ◌-◌, eqb, ltb, leb, length, if◌then◌else◌, Result, Ok, Err}
use Rattle.signals.specs.declared.Case.{Case}
use Rattle.signals.specs.declared.Case.TheVariants.{Letters, Figures}
use Rattle.signals.specs.Signals.{Signal, pair, lone, free, mute, signals}
use Rattle.signals.specs.Meaning.{letters, figures}
use Rattle.signals.specs.Numbers.{Answer, answered, refused, first_not}
use Rattle.text.specs.declared.Written as told
use Rattle.text.specs.declared.EncodeError.{EncodeError}
use Rattle.text.specs.Written.{Written, Counted, counted, leaves}

-- What a byte is to the encoder: no character, one that needs no case, or one that needs the case named; and its signal's word. A
-- small letter is what its capital is.
pub data Character : Type 0 where
  Without : Character
  Either : (word : ℕ) → Character
  Needing : (case : Case) (word : ℕ) → Character

-- "Capitals, the figures above, 13, 10, 32, 5 (who are you) and 7 (bell) have signals; no other byte does."  R-027, R-028
-- "return, line feed and space need none"  R-031. Of the kinds of signal only `free` is the same in either case.
abbrev pub character_in : List Signal → ℕ → Character
character_in [] x = Without
character_in (pair w l f ∷ ss) x =
    if eqb x l then Needing Letters w else if eqb x f then Needing Figures w else character_in ss x
character_in (lone w l ∷ ss) x = if eqb x l then Needing Letters w else character_in ss x
character_in (free w c ∷ ss) x = if eqb x c then Either w else character_in ss x
character_in (mute w ∷ ss) x = character_in ss x

-- 02, T-01: "Encoding is to take a to z as the capitals": 97 to 122 become 65 to 90, every other byte stays  R-027
abbrev pub small : ℕ → Bool
small x = leb 97 x && leb x 122

unfoldable pub raised : ℕ → ℕ
raised x = if small x then x - 32 else x

-- what has a signal is told of the raised byte
unfoldable pub character_of : ℕ → Character
character_of x = character_in signals (raised x)

-- "A shift is put in only where the next letter or figure needs the other case"  R-030
abbrev pub shift : Case → Case → List ℕ
shift Letters Letters = []
shift Letters Figures = figures ∷ []
shift Figures Letters = letters ∷ []
shift Figures Figures = []

-- the signals of one character, in the case in force
abbrev pub signals_for : Case → Character → List ℕ
signals_for c Without = []
signals_for c (Either w) = w ∷ []
signals_for c (Needing d w) = shift c d ++ w ∷ []

-- the case in force after it
abbrev pub case_after : Case → Character → Case
case_after c Without = c
case_after c (Either w) = c
case_after c (Needing d w) = d

-- "Encoding starts in a given case."  R-029
unfoldable pub encoded : Case → List ℕ → List ℕ
encoded c [] = []
encoded c (x ∷ xs) = signals_for c (character_of x) ++ encoded (case_after c (character_of x)) xs

-- "the case they end in"  R-038
unfoldable pub ends_encoded : Case → List ℕ → Case
ends_encoded c [] = c
ends_encoded c (x ∷ xs) = ends_encoded (case_after c (character_of x)) xs

abbrev pub is_character : Character → Bool
is_character Without = false
is_character (Either w) = true
is_character (Needing d w) = true

abbrev pub has_signal : ℕ → Bool
has_signal x = is_character (character_of x)

-- 01, Numbers returned, for encoding. "Order: encoding 5, 1, 2"  R-134, R-135
--     5   "encoding: over 4,096 characters"            "4,096"                  R-131
--     1   "encoding: a byte without a signal"          "index of the first"     R-126
--     2   "encoding, printing: lent room too short"    "room needed"            R-127
unfoldable pub encoding : List ℕ → Case → ℕ → Answer Written
encoding text c room =
    if ltb 4096 (length text) then refused 5 4096
    else if ltb (first_not has_signal text) (length text) then refused 1 (first_not has_signal text)
    else if ltb room (length (encoded c text)) then refused 2 (length (encoded c text))
    else answered (record { bytes = encoded c text; ends = ends_encoded c text })

-- each case of the answer, by 01's number and the value beside it  R-167
abbrev pub said_encoded : Result told.Written EncodeError → Answer Counted
said_encoded (Ok w) = answered (record { count = w.count; ends = w.ends })
said_encoded (Err EncodeError.TooLong) = refused 5 4096
said_encoded (Err (EncodeError.NoSignal i)) = refused 1 i
said_encoded (Err (EncodeError.NoRoom n)) = refused 2 n

-- The promise of `encode`: r is the answer, and `after` the lent room afterwards.  R-168
abbrev pub Encodes : List ℕ → Case → List ℕ → Result told.Written EncodeError → List ℕ → Type 0
Encodes text c room r after =
    (said_encoded r ≡ counted (encoding text c (length room))) × (after ≡ leaves (encoding text c (length room)) room)
