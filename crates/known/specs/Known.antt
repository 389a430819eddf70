-- 02, T-05: "Coast stations want three-block calls and identification .. The other station's identity is kept while the connection lasts and
-- never goes to the printer." Of two stations, the one called at Stand-by, whatever damage there is that never looks like one of the 35.  R-223, R-227
--
-- What is easily got wrong: the other station has to be at Stand-by, and the last burst that it heard no call block of its own
-- (`Call3Placed`). Whoever is called need not be that station: then it does not answer, and nothing is claimed of who is known.
-- Assumes nothing.
use Rattle.std.specs.Prelude.{◌≡◌, Bool, true, ◌||◌, ◌⊎◌}
use Rattle.signals.specs.Numbers.{answered}
use Rattle.identity.specs.declared.Seven.{Seven}
use Rattle.mode_a.specs.declared.Mark.{Mark}
use Rattle.mode_a.specs.declared.Succession.{Succession}
use Rattle.mode_a.specs.declared.Waiting.{Waiting}
use Rattle.mode_a.specs.declared.Peer.TheVariants.{Known}
use Rattle.mode_a.specs.declared.Place.{Place}
use Rattle.mode_a.specs.declared.Place.TheVariants.{StandBy}
use Rattle.mode_a.specs.declared.Offer.{Offer}
use Rattle.mode_a.specs.declared.Reply.{Reply}
use Rattle.mode_a.specs.Step.{sound}
use Rattle.runs.specs.Places.{is_sending, is_turning, is_ending, is_stand_by, is_calling3, is_identifying, is_answering}
use Rattle.runs.specs.Circuit.{Event, Harmless, Run, nothing_yet, Circuit, said, next, after, AllHarmless, NoCallPlaced}
use Rattle.circuit.specs.Starts.{Call3Placed, CallCompleted, CallTurned}

-- a station at Stand-by that takes a call of three blocks, facing another at Stand-by that has heard none of its own call blocks: that is
-- what it leaves
abbrev pub PlacingLeaves3 : Type 0
PlacingLeaves3 =
    (i : Seven) (c : Circuit) (e : Event) (r : Reply) (w : Waiting) → is_stand_by c.hearer.place ≡ true →
    c.sender.place ≡ StandBy w → w.heard ≡ Mark.None → w.heard3 ≡ Succession.None → sound c.sender ≡ true →
    c.from_hearer ≡ nothing_yet → c.from_sender ≡ nothing_yet → e.offer ≡ Offer.Call3 i → said c e ≡ answered r →
    r.taken ≡ true → Call3Placed i (next c e)

-- each side's kept identity is the other's own
pub record KnownToBoth (c : Circuit) : Type 0 where
  pub sender_knows : c.sender.other ≡ Known c.hearer.own.seven
  pub hearer_knows : c.hearer.other ≡ Known c.sender.own.seven

-- traffic begins: a block or the end is on the way, or βαβ where the slave is to send first
abbrev pub to_traffic : Place → Bool
to_traffic p = is_sending p || (is_ending p || is_turning p)

-- "ends the identification cycle and starts the traffic flow": where the master leaves Identifying for traffic the circuit is what a completed
-- call leaves, the station that answered is the one that was called, and both know whom they have  3.6.9 to 3.6.11, 3.6.19
abbrev pub LeavesCompleted3 : Type 0
LeavesCompleted3 =
    (i : Seven) (c : Circuit) → Call3Placed i c → (run : Run) → AllHarmless run → NoCallPlaced c run → (e : Event) → Harmless e →
    is_identifying (after c run).hearer.place ≡ true → let d = next (after c run) e in
    to_traffic d.sender.place ≡ true → (CallCompleted d ⊎ CallTurned d) × KnownToBoth d × (i ≡ d.hearer.own.seven)

-- from the call to the end of identification: while one of the two is calling, identifying or answering
abbrev pub identifies : Place → Bool
identifies p = is_calling3 p || (is_identifying p || is_answering p)

-- "never goes to the printer": neither has printed anything, nor accepted, nor taken
abbrev pub NothingPrinted : Type 0
NothingPrinted =
    (i : Seven) (c : Circuit) → Call3Placed i c → (run : Run) → AllHarmless run → NoCallPlaced c run → let d = after c run in
    (identifies d.hearer.place || identifies d.sender.place) ≡ true →
    (d.from_hearer ≡ nothing_yet) × (d.from_sender ≡ nothing_yet)
