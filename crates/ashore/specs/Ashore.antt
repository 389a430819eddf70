-- 02, T-07: "run two stations over that record ashore". A record is told as events of the circuit (`Passage` of `entries`); here it is said
-- that these are steps of a run that demand 3 speaks of, and so what `passing::passage` prints is told by demand 3.
-- R-259, R-260, R-261, R-262, R-264
--
-- What is easily got wrong: the damage of a record is a word heard as 0, on silence too, which is none of the 35; no entry offers a call;
-- and a burst that a station hears when it is Lost or at Stand-by is a step all the same.
-- Assumes nothing.
use Rattle.std.specs.Prelude.{◌≡◌, true, List, [], ◌∷◌, ◌++◌, ℕ, ◌*◌, ◌≤◌, length, take, drop, if◌then◌else◌, Ok}
use Rattle.signals.specs.declared.Case.TheVariants.{Letters}
use Rattle.text.specs.Printing.{printed}
use Rattle.mode_a.specs.declared.Role.{Role}
use Rattle.mode_a.specs.declared.Role.TheVariants.{Master, Slave}
use Rattle.runs.specs.Runs.{start, ◌▷◌, is_answered}
use Rattle.runs.specs.Circuit.{Run, signals_in, Direction, Circuit, fresh, said, after, AllHarmless, NoCallPlaced}
use Rattle.circuit.specs.Demand.{Beginning, Demand3}
use Rattle.entries.specs.declared.Entry.{Entry}
use Rattle.entries.specs.declared.Entry.TheVariants.{Burst, Text, Over, End}
use Rattle.entries.specs.Entries.{other_role, same_role, by_role, written_all, record_of}
use Rattle.entries.specs.Passage.{Passage, begins, circuit_of, hearing, event_of, tells, fault_of, told, text_of}
use Rattle.entries.specs.Passing.{outcome_from, Passes}

-- What entries come to, from two fresh stations on, where none of them is refused: so every record without a fault, and each of its
-- beginnings.
pub data Reached : List Entry → Passage → Type 0 where
  at_first : Reached [] begins
  one_more : {es : List Entry} {p : Passage} → Reached es p → (e : Entry) → fault_of p.standing e ≡ 0 →
      Reached (es ++ e ∷ []) (tells p e)

abbrev pub RecordsReach : Type 0
RecordsReach = (bytes : List ℕ) (p : Passage) → outcome_from bytes 0 ≡ told p → Reached (record_of bytes).entries p

-- the entries read of an accepted record, written, are the record byte for byte  R-249
abbrev pub AcceptedReadBack : Type 0
AcceptedReadBack = (bytes : List ℕ) (p : Passage) → outcome_from bytes 0 ≡ told p → written_all (record_of bytes).entries ≡ bytes

abbrev pub ReachedAreRecords : Type 0
ReachedAreRecords = (es : List Entry) (p : Passage) → Reached es p → outcome_from (written_all es) 0 ≡ told p

-- The events told are a run that demand 3 speaks of, and each of them is a step; so is the next burst, whatever its damage. The station that
-- has sent is the one whose burst is on the way, and the one that hears is the other.  R-259
unfoldable pub AllSteps : Circuit → Run → Type 0
AllSteps c start = Unit {0}
AllSteps c (run ▷ e) = AllSteps c run × (is_answered (said (after c run) e) ≡ true)

pub record RunOfTwo (p : Passage) : Type 0 where
  pub steps : AllSteps fresh p.events
  pub harmless : AllHarmless p.events
  pub no_call : NoCallPlaced fresh p.events
  pub next_is_a_step : (d : ℕ) → is_answered (said (circuit_of p) (event_of p.standing d)) ≡ true
  pub sender_is : (circuit_of p).sender.role ≡ p.standing.turn
  pub hearer_is : (circuit_of p).hearer.role ≡ hearing p.standing

abbrev pub EveryBurstIsAStep : Type 0
EveryBurstIsAStep = (es : List Entry) (p : Passage) → Reached es p → RunOfTwo p

-- demand 3, after every entry  R-260
abbrev pub Demand3Ashore : Type 0
Demand3Ashore = (es : List Entry) (p : Passage) → Reached es p → Demand3 (circuit_of p)

-- "Bursts must alternate, the slave's first one leading": of the entries alone, whatever stands between two bursts  R-262
unfoldable pub bursts_in : List Entry → List Role
bursts_in [] = []
bursts_in (Burst r d ∷ es) = r ∷ bursts_in es
bursts_in (Text r w ∷ es) = bursts_in es
bursts_in (Over r ∷ es) = bursts_in es
bursts_in (End r ∷ es) = bursts_in es

unfoldable pub Alternate : Role → List Role → Type 0
Alternate r [] = Unit {0}
Alternate r (q ∷ qs) = (q ≡ r) × Alternate (other_role r) qs

abbrev pub BurstsAlternate : Type 0
BurstsAlternate = (bytes : List ℕ) (p : Passage) → outcome_from bytes 0 ≡ told p → Alternate Slave (bursts_in (record_of bytes).entries)

-- a record of n bytes prints at most three quarters of n on either side  R-264
abbrev pub RoomOfThreeQuarters : Type 0
RoomOfThreeQuarters =
    (bytes : List ℕ) (p : Passage) → outcome_from bytes 0 ≡ told p → (r : Role) → length (text_of p r) * 4 ≤ 3 * length bytes

-- The direction to a station's printer, from the other's offers: its `taken` are the blocks that the other took in demand 3's sense, T-06's
-- answers among them.
abbrev pub direction_to : Passage → Role → Direction
direction_to p r = if same_role r p.standing.turn then (circuit_of p).from_hearer else (circuit_of p).from_sender

-- What stands in a station's lent room after the call, n bytes of it being text: the text is that of the signals that the circuit's run
-- prints, which are a beginning of the traffic in the blocks that the other took, and so a beginning of the text of all of it; the rest of
-- the room is as it was.
pub record Printed (d : Direction) (n : ℕ) (room after : List ℕ) : Type 0 where
  pub text : take n after ≡ printed Letters d.printed
  pub signals_begin : Beginning ℕ d.printed (signals_in d.taken)
  pub text_begins : Beginning ℕ (take n after) (printed Letters (signals_in d.taken))
  pub rest_stays : drop n after ≡ drop n room
  pub within : n ≤ length room
  pub same_length : length after ≡ length room

-- of the two stations, by role
abbrev pub of_role : Role → List ℕ → List ℕ → List ℕ
of_role Master m s = m
of_role Slave m s = s

-- "what each station prints is a beginning of the traffic signals in the blocks taken from the other's offers" (demand 3), of the bytes that
-- a call left in the two rooms. The passage is what the record is told as, and demand 3 holds of it.  R-261
pub record PrintedAshore (bytes m s : List ℕ) (nm ns : ℕ) (m' s' : List ℕ) : Type 0 where
  pub passage : Passage
  pub is_the_record : outcome_from bytes 0 ≡ told passage
  pub demand_3 : Demand3 (circuit_of passage)
  pub at : (r : Role) → Printed (direction_to passage r) (by_role r nm ns) (of_role r m s) (of_role r m' s')

abbrev pub OfTheCall : Type 0
OfTheCall =
    (bytes m s : List ℕ) (nm ns : ℕ) (m' s' : List ℕ) → Passes bytes m s (Ok (record { master = nm; slave = ns })) m' s' →
    PrintedAshore bytes m s nm ns m' s'
