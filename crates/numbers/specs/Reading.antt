-- What an input lists (docs/FORMATS.md, "Numbers in, numbers out"). Assumes nothing.
use Rattle.std.specs.Prelude.{Bool, true, false, ◌&&◌, ◌||◌, List, [], ◌∷◌, ℕ, ◌+◌, ◌-◌, ◌*◌, ◌^◌, eqb, leb, ltb, length, if◌then◌else◌}
use Rattle.std.proofs.Math.Option.{Option, some, none}

-- "white space (any of the bytes 32, 9, 13, 10, and no other) between them"
unfoldable pub is_white : ℕ → Bool
is_white b = eqb b 32 || (eqb b 9 || (eqb b 13 || eqb b 10))

unfoldable pub is_digit : ℕ → Bool
is_digit b = leb 48 b && leb b 57

-- "A number is a run of bytes without white space": the bytes before the first white space
unfoldable pub up_to_white : List ℕ → List ℕ
up_to_white [] = []
up_to_white (b ∷ bs) = if is_white b then [] else b ∷ up_to_white bs

-- a run, and the place of its first byte in the input
pub record Run : Type 0 where
  pub place : ℕ
  pub bytes : List ℕ

-- The runs of an input that goes on at a place. A run begins at a byte that is no white space, where the byte before it is, or
-- where there is none: `may` says so of the next byte.
unfoldable pub runs_from : ℕ → Bool → List ℕ → List Run
runs_from place may [] = []
runs_from place may (b ∷ bs) =
    if is_white b then runs_from (place + 1) true bs
    else if may then record { place = place; bytes = up_to_white (b ∷ bs) } ∷ runs_from (place + 1) false bs
    else runs_from (place + 1) false bs

-- "the place of its first byte in the input (from 0)"
abbrev pub runs_of : List ℕ → List Run
runs_of input = runs_from 0 true input

-- the digits before the first byte that is none, and what digits come to
unfoldable pub leading_digits : List ℕ → List ℕ
leading_digits [] = []
leading_digits (b ∷ bs) = if is_digit b then b ∷ leading_digits bs else []

unfoldable pub value_of : List ℕ → ℕ
value_of [] = 0
value_of (d ∷ ds) = (d - 48) * 10 ^ length ds + value_of ds

-- A run is a number, or it is none for one of two reasons.
--     over      "its digits, up to the first byte that is none, come to more than 255"
--     no_digit   "it has one, and its digits before the first such come to 255 or less"
-- Leading zeros come to nothing, so that there may be any number of them.
pub data Judged : Type 0 where
  number : (value : ℕ) → Judged
  over : Judged
  no_digit : Judged

unfoldable pub judged : List ℕ → Judged
judged run =
    if ltb 255 (value_of (leading_digits run)) then over
    else if ltb (length (leading_digits run)) (length run) then no_digit
    else number (value_of run)

-- what an input lists: the words up to the first run that is no number, and that one, "where B is the place of its first byte"
pub data Fault : Type 0 where
  over_at : (place : ℕ) → Fault
  no_digit_at : (place : ℕ) → Fault

pub record Listed : Type 0 where
  pub values : List ℕ
  pub fault : Option Fault

abbrev pub listed_by : ℕ → Judged → Listed → Listed
listed_by place (number n) rest = record { values = n ∷ rest.values; fault = rest.fault }
listed_by place over rest = record { values = []; fault = some (over_at place) }
listed_by place no_digit rest = record { values = []; fault = some (no_digit_at place) }

unfoldable pub listed : List Run → Listed
listed [] = record { values = []; fault = none }
listed (run ∷ runs) = listed_by run.place (judged run.bytes) (listed runs)

abbrev pub listing : List ℕ → Listed
listing input = listed (runs_of input)
