-- No second answer: the promises of `encode` and `print`, as their contracts cite them, leave one answer and one content of
-- the lent room.
-- Assumes nothing.
use mathlib.Core.Path.{◌≡◌, refl}
use mathlib.Core.List.{List}
use Prim.Native.Nat.{ℕ}
use lib.Dec.{eqb}
use Rattle.std.specs.Prelude.{if◌then◌else◌, Result, Ok, Err}
use Rattle.laws.proofs.Unique.{unique, unique_by}
use Rattle.signals.specs.declared.Case.{Case}
use Rattle.signals.specs.Numbers.{Answer, answered, refused}
use Rattle.text.specs.declared.Written as told
use Rattle.text.specs.declared.EncodeError.{EncodeError}
use Rattle.text.specs.declared.PrintError.{PrintError}
use Rattle.text.specs.Written.{Counted}
use Rattle.text.specs.Encoding.{said_encoded, Encodes}
use Rattle.text.specs.Printing.{said_printed, Prints}

-- the answer, read back from 01's number and value
abbrev encoded_from : Answer Counted → Result told.Written EncodeError
encoded_from (answered k) = Ok (record { count = k.count; ends = k.ends })
encoded_from (refused n v) = if eqb n 5 then Err EncodeError.TooLong else if eqb n 1 then Err (EncodeError.NoSignal v) else Err (EncodeError.NoRoom v)

encoded_back : (r : Result told.Written EncodeError) → encoded_from (said_encoded r) ≡ r
encoded_back (Ok w) = refl
encoded_back (Err EncodeError.TooLong) = refl
encoded_back (Err (EncodeError.NoSignal i)) = refl
encoded_back (Err (EncodeError.NoRoom n)) = refl

abbrev printed_from : Answer Counted → Result told.Written PrintError
printed_from (answered k) = Ok (record { count = k.count; ends = k.ends })
printed_from (refused n v) = if eqb n 7 then Err PrintError.TooLong else if eqb n 3 then Err (PrintError.BadWord v) else Err (PrintError.NoRoom v)

printed_back : (r : Result told.Written PrintError) → printed_from (said_printed r) ≡ r
printed_back (Ok w) = refl
printed_back (Err PrintError.TooLong) = refl
printed_back (Err (PrintError.BadWord i)) = refl
printed_back (Err (PrintError.NoRoom n)) = refl

pub encode_unique : (text : List ℕ) (c : Case) (room : List ℕ) (r r' : Result told.Written EncodeError) (after after' : List ℕ) → Encodes text c room r after → Encodes text c room r' after' → (r ≡ r') × (after ≡ after')
encode_unique text c room r r' after after' p q =
    (unique_by said_encoded encoded_from encoded_back p.0 q.0, unique p.1 q.1)

pub print_unique : (ws : List ℕ) (c : Case) (room : List ℕ) (r r' : Result told.Written PrintError) (after after' : List ℕ) → Prints ws c room r after → Prints ws c room r' after' → (r ≡ r') × (after ≡ after')
print_unique ws c room r r' after after' p q =
    (unique_by said_printed printed_from printed_back p.0 q.0, unique p.1 q.1)
