-- Where a walk over a record stands, beside the definition of a passage, and what it answers. Assumes nothing.
use Rattle.std.specs.Prelude.{◌≡◌, Bool, List, [], ◌∷◌, ℕ, ◌+◌, ◌<◌, ◌^◌, eqb, length, drop, if◌then◌else◌, Option, Some, None, Result, Ok, Err}
use Rattle.std.proofs.lemmas.List.Edits.{sets}
use Rattle.signals.specs.declared.Case.TheVariants.{Letters}
use Rattle.signals.specs.Numbers.{Answer, answered, refused}
use Rattle.text.specs.Printing.{ends_printed}
use Rattle.mode_a.specs.declared.Role.{Role}
use Rattle.mode_a.specs.declared.Role.TheVariants.{Master, Slave}
use Rattle.entries.specs.declared.Entry.{Entry}
use Rattle.entries.specs.declared.PassError.{PassError}
use Rattle.entries.specs.declared.Standing.{Standing}
use Rattle.entries.specs.Entries.{record_of, Reads}
use Rattle.entries.specs.Passage.{Passage, begins, tells, fault_of, Outcome, told, fault, tells_all, signals_of, text_of}
use Rattle.entries.specs.Passing.{Counts, Passed, said_passed, outcome_from}
use Rattle.typing.specs.declared.Typed.{Typed}
use Rattle.replay.specs.Replay.{state_of}
use Rattle.walking.specs.declared.Walk.{Walk}

-- what a station has printed in a passage, and the walk where that is told
abbrev pub typed_of : Passage → Role → Typed
typed_of p r = record { to = length (text_of p r); case = ends_printed Letters (signals_of p r) }

abbrev pub walk_of : Passage → Walk
walk_of p = record { state = state_of p; master = typed_of p Master; slave = typed_of p Slave }

-- a room as it was lent, or with the text in it, as far as it reaches
abbrev pub wrote_in : Bool → List ℕ → List ℕ → List ℕ
wrote_in write text room = if write then sets room 0 text else room

-- An entry may be told from the walk: no count is then too large.
pub record MayTell (w : Walk) : Type 0 where
  pub from : Passage
  pub stands : w ≡ walk_of from
  pub countable : (r : Role) → length (text_of from r) + 3 < 2 ^ 64

-- An entry is told.
pub record Told (p : Passage) (write : Bool) (m₀ s₀ : List ℕ) (w : Walk) (m s : List ℕ) : Type 0 where
  pub stands : w ≡ walk_of p
  pub master_room : m ≡ wrote_in write (text_of p Master) m₀
  pub slave_room : s ≡ wrote_in write (text_of p Slave) s₀

abbrev pub Tells : Walk → Entry → Bool → List ℕ → List ℕ → Walk → List ℕ → List ℕ → Type 0
Tells w e write m s r m' s' = (p : Passage) (m₀ s₀ : List ℕ) → Told p write m₀ s₀ w m s → Told (tells p e) write m₀ s₀ r m' s'

abbrev pub said_of : Outcome → Answer Counts
said_of (told p) = answered (record { master = length (text_of p Master); slave = length (text_of p Slave) })
said_of (fault n at) = refused n at

-- what is left of a record from a place on leads to; and the passage as far as it is told, that is up to the first entry with a fault
abbrev pub outcome_at : List ℕ → ℕ → Passage → Outcome
outcome_at bytes at p = tells_all (record_of (drop at bytes)).entries (record_of (drop at bytes)).rest at p

unfoldable pub tells_some : List Entry → Passage → Passage
tells_some [] p = p
tells_some (e ∷ es) p = if eqb (fault_of p.standing e) 0 then tells_some es (tells p e) else p

abbrev pub passage_at : List ℕ → ℕ → Passage → Passage
passage_at bytes at p = tells_some (record_of (drop at bytes)).entries p

-- how an entry at a place is judged
abbrev pub Judges : Standing → Entry → ℕ → Result (Unit {0}) PassError → Type 0
Judges s e at (Ok u) = fault_of s e ≡ 0
Judges s e at (Err x) = said_passed (Err x) ≡ refused (fault_of s e) at

-- What a place calls for: an entry that stands there without a fault; or the answer, where the record leads no further.
pub record Leads (bytes : List ℕ) (at : ℕ) (p : Passage) (e : Entry) (next : ℕ) : Type 0 where
  pub faultless : fault_of p.standing e ≡ 0
  pub found : Reads bytes at (Ok (Some (e, next)))

pub record Stops (bytes : List ℕ) (at : ℕ) (p : Passage) (a : Answer Counts) : Type 0 where
  pub stays : passage_at bytes at p ≡ p
  pub says : said_of (outcome_at bytes at p) ≡ a

abbrev pub LooksAt : List ℕ → ℕ → Passage → Result (Option Entry) PassError → ℕ → Type 0
LooksAt bytes at p (Ok (Some e)) next = Leads bytes at p e next
LooksAt bytes at p (Ok None) next = Stops bytes at p (said_of (told p))
LooksAt bytes at p (Err x) next = Stops bytes at p (said_passed (Err x))

abbrev pub Looks : List ℕ → ℕ → Standing → Result (Option Entry) PassError → List ℕ → ℕ → Type 0
Looks bytes at s r bytes' next = (bytes' ≡ bytes) × ((p : Passage) → s ≡ p.standing → LooksAt bytes at p r next)

-- The whole walk: what the record leads to, by its number; and the rooms, as they were lent where nothing is to be written, and else with the
-- texts up to the first entry that has a fault.
unfoldable pub passage_from : List ℕ → ℕ → Passage
passage_from bytes at = passage_at bytes at begins

abbrev pub Walks : Bool → List ℕ → ℕ → List ℕ → List ℕ → Passed → List ℕ → List ℕ → Type 0
Walks write bytes from m s r m' s' =
    (said_passed r ≡ said_of (outcome_from bytes from))
    × (m' ≡ wrote_in write (text_of (passage_from bytes from) Master) m)
    × (s' ≡ wrote_in write (text_of (passage_from bytes from) Slave) s)
