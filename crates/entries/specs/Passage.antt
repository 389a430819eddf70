-- 02, T-07: "run two stations over that record". A record is read as events of the circuit of a fresh master and a fresh slave, which have
-- no identity and the empty answer-back code; the slave's CS1 is on the way.  R-250
-- Assumes nothing.
use Rattle.std.specs.Prelude.{Bool, true, false, not, ◌||◌, List, [], ◌∷◌, ℕ, ◌+◌, eqb, ltb, length, if◌then◌else◌}
use Rattle.signals.specs.declared.Case.TheVariants.{Letters}
use Rattle.signals.specs.Damage.{Damage, kept, hurt}
use Rattle.signals.specs.Units.{unit}
use Rattle.signals.specs.Numbers.{Answer, answered, refused, first_not}
use Rattle.text.specs.Printing.{printed}
use Rattle.mode_a.specs.declared.Role.{Role}
use Rattle.mode_a.specs.declared.Role.TheVariants.{Master, Slave}
use Rattle.mode_a.specs.declared.Offer.{Offer}
use Rattle.mode_a.specs.declared.Reply.{Reply}
use Rattle.mode_a.specs.Station.{list_of}
use Rattle.mode_a.specs.Heard.{may_hold}
use Rattle.runs.specs.Runs.{start, ◌▷◌}
use Rattle.runs.specs.Circuit.{Event, Run, printed_by, Circuit, fresh, said, after}
use Rattle.entries.specs.declared.Entry.{Entry}
use Rattle.entries.specs.declared.Standing.{Standing}
use Rattle.entries.specs.declared.Entry.TheVariants.{Burst, Text, Over, End}
use Rattle.entries.specs.Entries.{other_role, same_role, written, Rest, nothing, unknown_kind, cut_short}

-- How far a record has been told: the bursts so far, as events of the circuit; whose burst is on the way, and the offer that stands for each
-- station, Nothing where none does.
pub record Passage : Type 0 where
  pub events : Run
  pub standing : Standing

abbrev pub standing_of : Role → Offer → Offer → Standing
standing_of r m s = record { turn = r; master = m; slave = s }

-- "Bursts must alternate, the slave's first one leading."
abbrev pub begins : Passage
begins = record { events = start; standing = standing_of Slave Offer.Nothing Offer.Nothing }

abbrev pub circuit_of : Passage → Circuit
circuit_of p = after fresh p.events

abbrev pub offer_to : Standing → Role → Offer
offer_to s Master = s.master
offer_to s Slave = s.slave

abbrev pub offering : Standing → Role → Offer → Standing
offering s Master o = standing_of s.turn o s.slave
offering s Slave o = standing_of s.turn s.master o

-- "bits 0 to 2 set where a word was damaged": bit i is word i, from 0, and a damaged word is heard as 0, which is none of the 35  R-251
abbrev pub damage_to : ℕ → ℕ → Damage
damage_to d i = if eqb (unit d i) 1 then hurt 0 else kept

-- The burst on the way is heard by the other station, to which its standing offer is pressed.
abbrev pub hearing : Standing → Role
hearing s = other_role s.turn

abbrev pub event_with : ℕ → Offer → Event
event_with d o = record { first = damage_to d 0; second = damage_to d 1; third = damage_to d 2; offer = o }

abbrev pub event_of : Standing → ℕ → Event
event_of s d = event_with d (offer_to s (hearing s))

-- Its answer is the next burst on the way. "An offer stands until taken."  R-252. A refused event is no step of the circuit; no event of a
-- record is refused (`ashore`).
abbrev pub turned : Standing → Standing
turned s = standing_of (hearing s) s.master s.slave

abbrev pub answered_to : Standing → Answer Reply → Standing
answered_to s (answered r) = turned (if r.taken then offering s (hearing s) Offer.Nothing else s)
answered_to s (refused n v) = s

abbrev pub after_burst : Passage → Event → Passage
after_burst p e = record { events = p.events ▷ e; standing = answered_to p.standing (said (circuit_of p) e) }

abbrev pub after_offer : Passage → Role → Offer → Passage
after_offer p r o = record { events = p.events; standing = offering p.standing r o }

abbrev pub tells : Passage → Entry → Passage
tells p (Burst r d) = after_burst p (event_of p.standing d)
tells p (Text r w) = after_offer p r (Offer.Text w)
tells p (Over r) = after_offer p r Offer.Over
tells p (End r) = after_offer p r Offer.End

-- What is wrong with an entry: its number, 0 where nothing is.  R-255, R-256, R-257
--     12   "burst out of turn or bits 3 to 7 set"
--     13   "offer before that station's last was taken"
--     3    a word that may not stand in a text offer
abbrev pub stands : Offer → Bool
stands (Offer.Text w) = true
stands Offer.Over = true
stands Offer.End = true
stands Offer.Nothing = false
stands (Offer.Call i) = true
stands (Offer.Call3 i) = true

abbrev pub fault_of : Standing → Entry → ℕ
fault_of s (Burst r d) = if not (same_role r s.turn) || ltb 7 d then 12 else 0
fault_of s (Text r w) = if stands (offer_to s r) then 13 else if ltb (first_not may_hold (list_of w)) 3 then 3 else 0
fault_of s (Over r) = if stands (offer_to s r) then 13 else 0
fault_of s (End r) = if stands (offer_to s r) then 13 else 0

-- The whole record, from an entry's place on: "the first in the record counts".  R-254
--     10   "unknown kind"
--     11   "body cut short"
pub data Outcome : Type 0 where
  told : Passage → Outcome
  fault : (number place : ℕ) → Outcome

abbrev pub of_rest : Rest → ℕ → Passage → Outcome
of_rest nothing at p = told p
of_rest unknown_kind at p = fault 10 at
of_rest cut_short at p = fault 11 at

unfoldable pub tells_all : List Entry → Rest → ℕ → Passage → Outcome
tells_all [] rest at p = of_rest rest at p
tells_all (e ∷ es) rest at p =
    if eqb (fault_of p.standing e) 0 then tells_all es rest (at + length (written e)) (tells p e)
    else fault (fault_of p.standing e) at

-- "The run's printed text is that of 01's rows": what a step prints; the signals that a station has printed so far; and their bytes by 01's
-- printing, from letters case. A station prints what comes from the other: the one that has sent, what comes from the one that hears next.
-- R-253
abbrev pub printed_in : Answer Reply → List ℕ
printed_in (answered r) = printed_by r
printed_in (refused n v) = []

abbrev pub signals_of : Passage → Role → List ℕ
signals_of p r =
    if same_role r p.standing.turn then (circuit_of p).from_hearer.printed else (circuit_of p).from_sender.printed

abbrev pub text_of : Passage → Role → List ℕ
text_of p r = printed Letters (signals_of p r)
