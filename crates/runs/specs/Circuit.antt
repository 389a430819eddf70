-- 01, How the promises are judged: a fresh master and a fresh slave of mode A, no third sender: every run of the two.  R-094, R-172
-- And 02, T-02 and T-05: two stations of which one has called the other; T-06: each with an answer-back code.
--
-- "its first burst is CS1": of fresh stations the slave's CS1 is on the way when the run starts; after a call the master's burst
-- is. Bursts alternate, and each is heard once: the station that hears answers, and the other hears that next. An event is what
-- happens to the burst on the way, word by word, and the offer of the station that hears it.
--
-- Of each direction four lists are read off the steps: the blocks taken from the offers of the one, and the blocks accepted by
-- the other, the signals it printed, and the blocks that the one counts as confirmed. No station keeps any of them.
-- Assumes nothing.
use Rattle.std.specs.Prelude.{◌≡◌, Bool, false, ◌&&◌, List, [], ◌∷◌, ◌++◌, ℕ, eqb, if◌then◌else◌}
use Rattle.signals.specs.Meaning.{traffic_of}
use Rattle.signals.specs.Damage.{Damage, kept, arrives, NoSignal}
use Rattle.signals.specs.Numbers.{Answer, answered, refused}
use Rattle.mode_a.specs.declared.Words.{Words}
use Rattle.mode_a.specs.declared.Held.{Held}
use Rattle.mode_a.specs.declared.Code.{Code}
use Rattle.mode_a.specs.declared.Place.{Place}
use Rattle.mode_a.specs.declared.Offer.{Offer}
use Rattle.mode_a.specs.declared.Station.{Station}
use Rattle.mode_a.specs.declared.Reply.{Reply}
use Rattle.mode_a.specs.Station.{words, list_of, no_code, fresh_master, fresh_slave, first_burst}
use Rattle.mode_a.specs.Heard.{First, first_of, heard_of}
use Rattle.mode_a.specs.Step.{stepping, coded}
use Rattle.runs.specs.Places.{is_stand_by, at_sending}
use Rattle.runs.specs.Runs.{RunOf, start, ◌▷◌, is_taken, confirming, accepting}
use Rattle.runs.specs.Taken.{taken_by}

pub record Event : Type 0 where
  pub first : Damage
  pub second : Damage
  pub third : Damage
  pub offer : Offer

abbrev pub heard : Event → Words → Words
heard e w = words (arrives e.first w.0) (arrives e.second w.1) (arrives e.third w.2)

-- "provided damage, on silence too, never looks like one of the 35"
abbrev pub Harmless : Event → Type 0
Harmless e = NoSignal e.first × NoSignal e.second × NoSignal e.third

-- nothing is damaged
abbrev pub Whole : Event → Type 0
Whole e = (e.first ≡ kept) × (e.second ≡ kept) × (e.third ≡ kept)

-- a run of the two
abbrev pub Run : Type 0
Run = RunOf Event

-- the traffic signals of some words, and of some blocks
unfoldable pub traffic : List ℕ → List ℕ
traffic [] = []
traffic (w ∷ ws) = if traffic_of w then w ∷ traffic ws else traffic ws

unfoldable pub signals_in : List Words → List ℕ
signals_in [] = []
signals_in (b ∷ bs) = traffic (list_of b) ++ signals_in bs

-- One direction: from the offers of one station to the print of the other.
pub record Direction : Type 0 where
  pub taken : List Words
  pub accepted : List Words
  pub printed : List ℕ
  pub confirmed : List Words

abbrev pub nothing_yet : Direction
nothing_yet = record { taken = []; accepted = []; printed = []; confirmed = [] }

-- "Receiving .. Three intact words, each traffic or β: accepted"
abbrev pub accepted_by : Station → Words → List Words
accepted_by s b = if accepting s.place (heard_of s.own b) then b ∷ [] else []

-- "up to three printed signals": the words of the reply, without its zeros
abbrev pub without_zeros : List ℕ → List ℕ
without_zeros [] = []
without_zeros (w ∷ ws) = if eqb w 0 then without_zeros ws else w ∷ without_zeros ws

abbrev pub printed_by : Reply → List ℕ
printed_by r = without_zeros (list_of r.printed)

-- "Of the other number: the block is confirmed", "CS3: confirmed"
abbrev pub confirmed_at : Held → First → List Words
confirmed_at h f = if confirming h f then h.block ∷ [] else []

abbrev pub confirmed_of : Place → First → List Words
confirmed_of p f = at_sending (λ h. confirmed_at h f) [] p

abbrev pub confirmed_by : Station → Words → List Words
confirmed_by s b = confirmed_of s.place (first_of b.0)

-- The circuit between two steps: the station that hears next, the station that has sent, and what it sent. Beside them the
-- directions, from the offers of the one and of the other.
pub record Circuit : Type 0 where
  pub hearer : Station
  pub sender : Station
  pub burst : Words
  pub from_hearer : Direction
  pub from_sender : Direction

-- "Take a fresh master and a fresh slave"; the slave's first burst is on the way. Each has its answer-back code (02, T-06), the empty one
-- where none was given.
abbrev pub fresh_with : Code → Code → Circuit
fresh_with k j =
    record {
      hearer = coded fresh_master k;
      sender = coded fresh_slave j;
      burst = first_burst;
      from_hearer = nothing_yet;
      from_sender = nothing_yet;
    }

abbrev pub fresh : Circuit
fresh = fresh_with no_code no_code

-- the answer to an event, and the circuit after it: the station that heard is now the one that has sent. A refused event is no
-- step.
abbrev pub said : Circuit → Event → Answer Reply
said c e = stepping c.hearer (heard e c.burst) e.offer

abbrev pub answered_by : Circuit → Offer → Words → Reply → Circuit
answered_by c o b r =
    record {
      hearer = c.sender;
      sender = r.station;
      burst = r.sent;
      from_hearer = record {
        taken = c.from_sender.taken;
        accepted = c.from_sender.accepted ++ accepted_by c.hearer b;
        printed = c.from_sender.printed ++ printed_by r;
        confirmed = c.from_sender.confirmed;
      };
      from_sender = record {
        taken = c.from_hearer.taken ++ taken_by c.hearer b o r;
        accepted = c.from_hearer.accepted;
        printed = c.from_hearer.printed;
        confirmed = c.from_hearer.confirmed ++ confirmed_by c.hearer b;
      };
    }

abbrev pub goes_on : Circuit → Event → Answer Reply → Circuit
goes_on c e (answered r) = answered_by c e.offer (heard e c.burst) r
goes_on c e (refused n v) = c

abbrev pub next : Circuit → Event → Circuit
next c e = goes_on c e (said c e)

unfoldable pub after : Circuit → Run → Circuit
after c start = c
after c (run ▷ e) = next (after c run) e

-- the runs that demand 3 speaks of: no damage looks like one of the 35. An offer that is refused is no step; demand 3 leaves runs with
-- refused offers out, and here they are covered too.
unfoldable pub AllHarmless : Run → Type 0
AllHarmless start = Unit {0}
AllHarmless (run ▷ e) = AllHarmless run × Harmless e

-- "A run of demand 3 ends where a station at Stand-by places a call, of this kind or a later one" (02, T-02): such an event is no step of
-- a run. What a station at Stand-by takes is a call.  R-194
abbrev pub places_call : Circuit → Event → Bool
places_call c e = is_stand_by c.hearer.place && is_taken (said c e)

unfoldable pub NoCallPlaced : Circuit → Run → Type 0
NoCallPlaced c start = Unit {0}
NoCallPlaced c (run ▷ e) = NoCallPlaced c run × (places_call (after c run) e ≡ false)
