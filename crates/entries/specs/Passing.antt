-- 02, T-07: what `passing::passage` answers.  R-254, R-258
-- Assumes nothing.
use Rattle.std.specs.Prelude.{◌≡◌, List, ℕ, ltb, length, drop, if◌then◌else◌, Result, Ok, Err}
use Rattle.laws.specs.Room.{over}
use Rattle.signals.specs.Numbers.{Answer, answered, refused}
use Rattle.mode_a.specs.declared.Role.TheVariants.{Master, Slave}
use Rattle.entries.specs.declared.Printed.{Printed}
use Rattle.entries.specs.declared.PassError.{PassError}
use Rattle.entries.specs.Entries.{record_of}
use Rattle.entries.specs.Passage.{Passage, begins, Outcome, told, fault, tells_all, text_of}

-- what each station printed, and how much
pub record Texts : Type 0 where
  pub master : List ℕ
  pub slave : List ℕ

pub record Counts : Type 0 where
  pub master : ℕ
  pub slave : ℕ

-- A record, or what is left of it from a place on, told to its end: two fresh stations are run over the entries from there.
unfoldable pub outcome_from : List ℕ → ℕ → Outcome
outcome_from bytes at = tells_all (record_of (drop at bytes)).entries (record_of (drop at bytes)).rest at begins

-- 02, T-07, Refusals: "the first in the record counts, and within one entry in the order 10, 11, 12, 13, 3; after them 2, master's room
-- first, with the room needed"
--     10   "unknown kind"                                            the place of the entry's kind byte, for these five    R-254
--     11   "body cut short"
--     12   "burst out of turn or bits 3 to 7 set"
--     13   "offer before that station's last was taken"
--     3    a word that may not stand in a text offer
--     2    a lent room too short                                     "the room needed"                                     R-258
abbrev pub in_rooms : ℕ → ℕ → Passage → Answer Texts
in_rooms m s p =
    if ltb m (length (text_of p Master)) then refused 2 (length (text_of p Master))
    else if ltb s (length (text_of p Slave)) then refused 2 (length (text_of p Slave))
    else answered (record { master = text_of p Master; slave = text_of p Slave })

abbrev pub told_in : ℕ → ℕ → Outcome → Answer Texts
told_in m s (told p) = in_rooms m s p
told_in m s (fault n at) = refused n at

-- from a place on; the call begins at 0
unfoldable pub passing_from : List ℕ → ℕ → ℕ → ℕ → Answer Texts
passing_from bytes at m s = told_in m s (outcome_from bytes at)

abbrev pub passing : List ℕ → ℕ → ℕ → Answer Texts
passing bytes m s = passing_from bytes 0 m s

-- each case of the answer, by its number and the value beside it  R-167
abbrev pub Passed : Type 0
Passed = Result Printed PassError

abbrev pub said_passed : Passed → Answer Counts
said_passed (Ok p) = answered (record { master = p.master; slave = p.slave })
said_passed (Err (PassError.UnknownKind at)) = refused 10 at
said_passed (Err (PassError.CutShort at)) = refused 11 at
said_passed (Err (PassError.BadBurst at)) = refused 12 at
said_passed (Err (PassError.StillOffered at)) = refused 13 at
said_passed (Err (PassError.BadWord at)) = refused 3 at
said_passed (Err (PassError.NoRoom n)) = refused 2 n

abbrev pub counted : Answer Texts → Answer Counts
counted (answered t) = answered (record { master = length t.master; slave = length t.slave })
counted (refused n v) = refused n v

-- the lent rooms after the call: a refusal leaves both as they were (01: "writes nothing into lent memory")
abbrev pub master_left : Answer Texts → List ℕ → List ℕ
master_left (answered t) room = over t.master room
master_left (refused n v) room = room

abbrev pub slave_left : Answer Texts → List ℕ → List ℕ
slave_left (answered t) room = over t.slave room
slave_left (refused n v) room = room

-- The promise of `passage`, from a place of the record on: r is the answer, and m' and s' the lent rooms m and s afterwards.  R-168
abbrev pub PassesFrom : List ℕ → ℕ → List ℕ → List ℕ → Passed → List ℕ → List ℕ → Type 0
PassesFrom bytes at m s r m' s' =
    (said_passed r ≡ counted (passing_from bytes at (length m) (length s)))
    × (m' ≡ master_left (passing_from bytes at (length m) (length s)) m)
    × (s' ≡ slave_left (passing_from bytes at (length m) (length s)) s)

abbrev pub Passes : List ℕ → List ℕ → List ℕ → Passed → List ℕ → List ℕ → Type 0
Passes bytes m s r m' s' = PassesFrom bytes 0 m s r m' s'
