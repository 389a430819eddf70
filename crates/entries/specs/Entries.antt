-- 02, T-07: "An entry is one byte of kind and a body whose length the kind fixes."  R-248, R-249
-- Assumes nothing.
use Rattle.std.specs.Prelude.{◌≡◌, Bool, true, false, List, [], ◌∷◌, ◌++◌, ℕ, zero, suc, ◌+◌, eqb, length, drop, if◌then◌else◌, Option, Some, None, Result, Ok, Err}
use Rattle.mode_a.specs.declared.Role.{Role}
use Rattle.mode_a.specs.declared.Role.TheVariants.{Master, Slave}
use Rattle.mode_a.specs.Station.{words, list_of}
use Rattle.entries.specs.declared.Entry.{Entry}
use Rattle.entries.specs.declared.Entry.TheVariants.{Burst, Text, Over, End}
use Rattle.entries.specs.declared.ReadError.{ReadError}
use Rattle.entries.specs.declared.PassError.{PassError}

-- the two stations
abbrev pub other_role : Role → Role
other_role Master = Slave
other_role Slave = Master

abbrev pub same_role : Role → Role → Bool
same_role Master Master = true
same_role Master Slave = false
same_role Slave Master = false
same_role Slave Slave = true

-- An entry as it is written: its kind, and its body.
--     1   "master's burst, one byte, bits 0 to 2 set where a word was damaged"
--     2   "the slave's, alike"
--     3   "a text offer of three words to master"
--     4   "or slave"
--     5   "over, no body": to master
--     6   to slave
--     7   "end, no body": to master
--     8   to slave
abbrev pub by_role : Role → ℕ → ℕ → ℕ
by_role Master m s = m
by_role Slave m s = s

abbrev pub kind_of : Entry → ℕ
kind_of (Burst r d) = by_role r 1 2
kind_of (Text r w) = by_role r 3 4
kind_of (Over r) = by_role r 5 6
kind_of (End r) = by_role r 7 8

abbrev pub body_of : Entry → List ℕ
body_of (Burst r d) = d ∷ []
body_of (Text r w) = list_of w
body_of (Over r) = []
body_of (End r) = []

abbrev pub written : Entry → List ℕ
written e = kind_of e ∷ body_of e

unfoldable pub written_all : List Entry → List ℕ
written_all [] = []
written_all (e ∷ es) = written e ++ written_all es

-- The entry that a kind and the bytes behind it begin with; or none, where the kind is unknown, or its body is cut short.
pub data Begun : Type 0 where
  entry : Entry → Begun
  unknown : Begun
  short : Begun

abbrev pub burst_of : Role → List ℕ → Begun
burst_of r [] = short
burst_of r (d ∷ bs) = entry (Burst r d)

abbrev pub text_to : Role → List ℕ → Begun
text_to r [] = short
text_to r (a ∷ []) = short
text_to r (a ∷ b ∷ []) = short
text_to r (a ∷ b ∷ c ∷ bs) = entry (Text r (words a b c))

unfoldable pub entry_of : ℕ → List ℕ → Begun
entry_of k bs =
    if eqb k 1 then burst_of Master bs
    else if eqb k 2 then burst_of Slave bs
    else if eqb k 3 then text_to Master bs
    else if eqb k 4 then text_to Slave bs
    else if eqb k 5 then entry (Over Master)
    else if eqb k 6 then entry (Over Slave)
    else if eqb k 7 then entry (End Master)
    else if eqb k 8 then entry (End Slave)
    else unknown

-- A record: its entries in order, and what is behind the last of them: nothing, an unknown kind, or a body cut short.
pub data Rest : Type 0 where
  nothing : Rest
  unknown_kind : Rest
  cut_short : Rest

pub record Record : Type 0 where
  pub entries : List Entry
  pub rest : Rest

abbrev pub followed_by : Entry → Record → Record
followed_by e r = record { entries = e ∷ r.entries; rest = r.rest }

abbrev pub begun_by : Begun → (Entry → Record) → Record
begun_by (entry e) behind = followed_by e (behind e)
begun_by unknown behind = record { entries = []; rest = unknown_kind }
begun_by short behind = record { entries = []; rest = cut_short }

-- The bytes as a record; the number is how many are passed over first, which are the body of the entry before.
unfoldable pub read_past : ℕ → List ℕ → Record
read_past n [] = record { entries = []; rest = nothing }
read_past (suc n) (b ∷ bs) = read_past n bs
read_past zero (b ∷ bs) = begun_by (entry_of b bs) (λ e. read_past (length (body_of e)) bs)

abbrev pub record_of : List ℕ → Record
record_of bs = read_past 0 bs

-- The reader's part: the entry that a kind and the bytes behind it begin with, or why there is none; what stands at a place, and the place
-- past it.
abbrev pub read_of : Begun → ℕ → Result Entry ReadError
read_of (entry e) at = Ok e
read_of unknown at = Err (ReadError.UnknownKind at)
read_of short at = Err (ReadError.CutShort at)

abbrev pub Read : Type 0
Read = Result (Option (Entry × ℕ)) ReadError

abbrev pub found_at : Begun → ℕ → Read
found_at (entry e) at = Ok (Some (e, at + length (written e)))
found_at unknown at = Err (ReadError.UnknownKind at)
found_at short at = Err (ReadError.CutShort at)

abbrev pub found_in : List ℕ → ℕ → Read
found_in [] at = Ok None
found_in (b ∷ bs) at = found_at (entry_of b bs) at

abbrev pub Reads : List ℕ → ℕ → Read → Type 0
Reads bytes at r = r ≡ found_in (drop at bytes) at

-- of a reader, which then stands behind the entry, or where it stood
abbrev pub read_to : Result (Option Entry) ReadError → ℕ → Read
read_to (Ok (Some e)) past = Ok (Some (e, past))
read_to (Ok None) past = Ok None
read_to (Err x) past = Err x

abbrev pub Stays : Result (Option Entry) ReadError → ℕ → ℕ → Type 0
Stays (Ok (Some e)) at past = Unit {0}
Stays (Ok None) at past = past ≡ at
Stays (Err x) at past = past ≡ at

abbrev pub ReadsOn : List ℕ → ℕ → Result (Option Entry) ReadError → List ℕ → ℕ → Type 0
ReadsOn bytes at r bytes' past = Reads bytes at (read_to r past) × Stays r at past × (bytes' ≡ bytes)

-- an error of the reader, as the call tells it
abbrev pub told_as : ReadError → PassError
told_as (ReadError.UnknownKind at) = PassError.UnknownKind at
told_as (ReadError.CutShort at) = PassError.CutShort at
