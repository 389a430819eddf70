-- What the reader does at a byte and at the end, and a whole run of it. That a run gives what the input lists is `reads_what_is_listed`
-- (proofs/ReadingLaws.antt). Assumes nothing.
use Rattle.std.specs.Prelude.{Option, Some, None, option_map, unwrap_or, Result, Ok, Err, List, [], ◌∷◌, ℕ, ◌+◌, ◌-◌, ◌*◌, eqb, ltb, if◌then◌else◌}
use Rattle.std.proofs.Math.Option.{some, none}
use Rattle.numbers.specs.declared.Begun.{Begun}
use Rattle.numbers.specs.declared.Reader.{Reader}
use Rattle.numbers.specs.declared.NumberError.{NumberError}
use Rattle.numbers.specs.declared.NumberError.TheVariants.{Over, NoDigit}
use Rattle.numbers.specs.Reading.{is_white, is_digit, Listed, over_at, no_digit_at}

-- what a byte brings: nothing yet, a number that it ends, or that something stands at a place that is no such number
abbrev pub Event : Type 0
Event = Result (Option ℕ) NumberError

-- the reader behind a byte, and what the byte brings
pub record Took : Type 0 where
  pub reader : Reader
  pub event : Event

-- before the first byte, and between numbers
abbrev pub between : ℕ → Reader
between place = record { place = place; begun = None }

abbrev pub fresh_reader : Reader
fresh_reader = between 0

-- one further; a place is a word of 64 bits, and at the last of them it stays
abbrev pub further : ℕ → ℕ
further place = if eqb place 18446744073709551615 then place else place + 1

-- the first byte of the number to which the next byte belongs
abbrev pub first_byte : Reader → ℕ
first_byte r = unwrap_or (option_map (λ (n : Begun). n.start) r.begun) r.place

-- the value so far, 0 before the first byte
abbrev pub value_so_far : Reader → ℕ
value_so_far r = unwrap_or (option_map (λ (n : Begun). n.value) r.begun) 0

-- what the end of the input brings, and white space too: the number that it ends, if one has begun
abbrev pub end_brings : Reader → Option ℕ
end_brings r = option_map (λ (n : Begun). n.value) r.begun

-- a digit: the number's value, grown by it, must still be 255 or less
unfoldable pub taking_digit : Reader → ℕ → Took
taking_digit r digit =
    if ltb 255 (value_so_far r * 10 + digit) then record { reader = r; event = Err (Over (first_byte r)) }
    else record { reader = record { place = further r.place; begun = Some (record { start = first_byte r; value = value_so_far r * 10 + digit }) }; event = Ok None }

-- a byte: white space, a digit, or no digit. Where there is no number any more the reader stays as it was.
unfoldable pub taking : Reader → ℕ → Took
taking r byte =
    if is_digit byte then taking_digit r (byte - 48)
    else if is_white byte then record { reader = between (further r.place); event = Ok (end_brings r) }
    else record { reader = r; event = Err (NoDigit (first_byte r)) }

-- the words and the fault that events tell, the rest of the run behind the event
abbrev pub telling : Event → Listed → Listed
telling (Ok None) rest = rest
telling (Ok (Some w)) rest = record { values = w ∷ rest.values; fault = rest.fault }
telling (Err (Over place)) rest = record { values = []; fault = some (over_at place) }
telling (Err (NoDigit place)) rest = record { values = []; fault = some (no_digit_at place) }

-- a whole run: byte after byte up to the first fault, and then the end
unfoldable pub reading : Reader → List ℕ → Listed
reading r [] = telling (Ok (end_brings r)) (record { values = []; fault = none })
reading r (b ∷ bs) = telling (taking r b).event (reading (taking r b).reader bs)
