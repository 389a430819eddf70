-- 02, T-05: "three-block calls". 001: "sends the 'call signal' until it receives an appropriate control signal; however, if the circuit has not
-- been established within 128 cycles .., the station changes into the 'stand-by' condition and waits for a time of at least 128 cycles
-- before sending the same 'call signal' again" (3.5.4); "following the reception of the three call blocks in succession after which it
-- sends 'control signal 4'" (3.5.5); "On receipt of 'control signal 3' .. immediately changes to the 'stand-by' condition" (3.5.7); "On receipt
-- of 'control signal 5' .. starts the 'end-of-communication' procedure" (3.5.8); "On receipt of 'control signal 4' the calling station ..
-- starts the identification procedure" (3.6.1).
--
-- What is easily got wrong: CS4 once is enough, where CS1 or CS2 has to come twice in a two-block call; of the wait the same identity
-- is meant, and another of seven signals may be called at once, while a call of four waits (`Waits` of `placing`); and blocks 3-1-2 are no
-- call.
-- Assumes nothing.
use Rattle.std.specs.Prelude.{◌≡◌, Bool, true, false, not, ◌&&◌, ◌||◌, ◌↔◌, ◌⊎◌, ◌<◌, ◌≤◌, leb}
use Rattle.std.proofs.Math.Option.{some}
use Rattle.signals.specs.declared.Case.TheVariants.{Letters}
use Rattle.signals.specs.Meaning.{cs3, cs4, cs5}
use Rattle.signals.specs.Numbers.{answered}
use Rattle.identity.specs.declared.Seven.{Seven}
use Rattle.identity.specs.Sums.{is_callable7}
use Rattle.mode_a.specs.declared.Role.TheVariants.{Master, Slave}
use Rattle.mode_a.specs.declared.Words.{Words}
use Rattle.mode_a.specs.declared.Mark.{Mark}
use Rattle.mode_a.specs.declared.Succession.{Succession}
use Rattle.mode_a.specs.declared.Stage.{Stage}
use Rattle.mode_a.specs.declared.Waiting.{Waiting}
use Rattle.mode_a.specs.declared.Called3.{Called3}
use Rattle.mode_a.specs.declared.Peer.TheVariants.{Nobody, Barred}
use Rattle.mode_a.specs.declared.Place.{Place}
use Rattle.mode_a.specs.declared.Place.TheVariants.{StandBy, Calling3, Identifying}
use Rattle.mode_a.specs.declared.Offer.{Offer}
use Rattle.mode_a.specs.declared.Station.{Station}
use Rattle.mode_a.specs.declared.Reply.{Reply}
use Rattle.mode_a.specs.Calls.{call3_block1, call3_block2, call3_block3}
use Rattle.mode_a.specs.Identification.{identity_block}
use Rattle.mode_a.specs.Station.{single, silence}
use Rattle.mode_a.specs.Step.{moved_to, sends, rested, bars, knowing, ends, unidentified}
use Rattle.runs.specs.Places.{is_ending, is_receiving, is_stand_by, is_calling3, is_identifying, is_answering, none_answered}
use Rattle.runs.specs.Runs.{Event, Run, ◌▷◌, said, next, after, steps_in, last_step, last_but_one, WasHeard}
use Rattle.identification.specs.Runs.{calls3_in_a_row, block_no3, last_called3}

-- "sends the call signal", its three blocks in turn, at most 128 of them: of every run of a station that is not calling so at its start
pub record InTurn3 (from : Station) (run : Run) : Type 0 where
  -- at Calling with three blocks the station's own number is that of the call bursts sent in a row
  pub sents : (c : Called3) → (after from run).place ≡ Calling3 c → c.sent ≡ calls3_in_a_row from run
  -- the identity called is that of the last such call taken, and all its signals are of table 3a
  pub to : (c : Called3) → (after from run).place ≡ Calling3 c → (last_called3 from run ≡ some c.to) × (is_callable7 c.to ≡ true)
  -- "within 128 cycles"
  pub at_most : calls3_in_a_row from run ≤ 128
  -- each call burst is the block of the identity offered that is due
  pub in_turn : (e : Event) (r : Reply) → said (after from run) e ≡ answered r → is_calling3 r.station.place ≡ true →
      (i : Seven) × (last_called3 from (run ▷ e) ≡ some i) × (r.sent ≡ block_no3 i (calls3_in_a_row from (run ▷ e)))
  -- and a call that is taken begins a row, so that a row is of one identity
  pub begins : (e : Event) (r : Reply) (i : Seven) → said (after from run) e ≡ answered r → e.offer ≡ Offer.Call3 i → r.taken ≡ true →
      (calls3_in_a_row from run ≡ 0) × (r.sent ≡ call3_block1 i)

-- what ends a three-block call that was placed, of a run that starts outside it: the first word heard tells, and once is enough
pub record CallEnds3 (from : Station) (run : Run) (c : Called3) (e : Event) (r : Reply) : Type 0 where
  -- CS4: identification  3.6.1
  pub identifies_exactly : is_identifying r.station.place ≡ true ↔ e.burst.0 ≡ cs4
  pub identifies : e.burst.0 ≡ cs4 → r ≡ sends (moved_to (after from run) (Identifying (record { to = c.to; stage = Stage.One; wrong = 0; last = 0 }))) (identity_block (after from run).own.seven Stage.One)
  -- CS5: the end procedure, and the identity called is barred  3.5.8
  pub ends_exactly : is_ending r.station.place ≡ true ↔ e.burst.0 ≡ cs5
  pub ends_so : e.burst.0 ≡ cs5 → r ≡ ends (knowing (after from run) (Barred c.to))
  -- CS3  3.5.7, or 128 call bursts  3.5.4: Stand-by, silent, and the identity called is barred
  pub fails_exactly : is_stand_by r.station.place ≡ true ↔ (e.burst.0 ≡ cs4 → ⊥) × (e.burst.0 ≡ cs5 → ⊥) × ((e.burst.0 ≡ cs3) ⊎ (calls3_in_a_row from run ≡ 128))
  pub fails : is_stand_by r.station.place ≡ true → r ≡ sends (rested (knowing (after from run) (Barred c.to)) 0) silence
  -- and there is nowhere else to go: CS1 and CS2 answer calls of four signals alone
  pub else_calls : is_identifying r.station.place || is_ending r.station.place || is_stand_by r.station.place ≡ false → is_calling3 r.station.place ≡ true

-- a three-block call is answered: "it sends 'control signal 4'"
pub record AnswersCall3 (r : Reply) : Type 0 where
  pub slave : r.station.role ≡ Slave
  pub awaits_block_1 : r.station.place ≡ unidentified
  pub sends_cs4 : r.sent ≡ single cs4
  pub prints_nothing_lem : r.printed ≡ silence
  pub takes_nothing : r.taken ≡ false
  pub nobody : r.station.other ≡ Nobody
  pub letters : (r.station.case ≡ Letters) × (r.station.plus ≡ false) × (r.station.count ≡ 0)

-- the last step but one heard x, the last step y, both at Stand-by, and now z is heard
abbrev pub Successive3 : Station → Run → Event → Words → Words → Words → Type 0
Successive3 from run e x y z =
    WasHeard is_stand_by (λ b. b ≡ x) (last_but_one from run) × WasHeard is_stand_by (λ b. b ≡ y) (last_step from run) × (e.burst ≡ z)

-- "the three call blocks in succession": 1-2-3 or 2-3-1, of an identity of seven signals of table 3a
pub record AllBlocks (from : Station) (run : Run) (e : Event) : Type 0 where
  pub is_callable_lem : is_callable7 from.own.seven ≡ true
  pub in_succession_lem : (Successive3 from run e (call3_block1 from.own.seven) (call3_block2 from.own.seven) (call3_block3 from.own.seven)) ⊎ (Successive3 from run e (call3_block2 from.own.seven) (call3_block3 from.own.seven) (call3_block1 from.own.seven))

-- of a run that starts with none of the own call blocks heard
abbrev pub NoneHeard3 : Station → Type 0
NoneHeard3 s = (w : Waiting) → s.place ≡ StandBy w → (w.heard ≡ Mark.None) × (w.heard3 ≡ Succession.None)

-- a step from Stand-by: answered exactly after the three blocks, whatever call is offered in the same step
pub record HearsCall3 (from : Station) (run : Run) (e : Event) (r : Reply) : Type 0 where
  pub answers_exactly : is_answering r.station.place ≡ true ↔ AllBlocks from run e
  pub answers_so : AllBlocks from run e → AnswersCall3 r

-- a three-block call is placed: block 1 goes out in this very step
pub record PlacesCall3 (i : Seven) (r : Reply) : Type 0 where
  pub master : r.station.role ≡ Master
  pub calls : r.station.place ≡ Calling3 (record { to = i; sent = 1 })
  pub sends_block_1 : r.sent ≡ call3_block1 i
  pub prints_nothing_lem : r.printed ≡ silence
  pub takes_it : r.taken ≡ true
  pub nobody : r.station.other ≡ Nobody
  pub letters : (r.station.case ≡ Letters) × (r.station.plus ≡ false) × (r.station.count ≡ 0)

-- a step from Stand-by: placed exactly where it is offered, none is answered, and it is not the very identity that is barred with steps
-- left to wait
pub record Places3 (s : Station) (w : Waiting) (o : Offer) (r : Reply) : Type 0 where
  pub places_exactly : is_calling3 r.station.place ≡ true ↔ (i : Seven) × (o ≡ Offer.Call3 i) × (none_answered r.station.place ≡ true) × (leb 1 w.wait && bars s.other i ≡ false)
  pub places_so : (i : Seven) → o ≡ Offer.Call3 i → is_calling3 r.station.place ≡ true → PlacesCall3 i r

-- "waits .. 128 cycles before sending the same 'call signal' again": at the event e the station enters Stand-by with i barred, as a call to it
-- that failed, by CS3, by 128 call bursts or by CS5 and the end, leaves it; and after each event of the run it is at Stand-by
pub record Waits3 (i : Seven) (s : Station) (e : Event) (run : Run) : Type 0 where
  -- in the 128 steps after that one this identity is not called
  pub waits : steps_in (next s e) run < 128 → (a : Event) → a.offer ≡ Offer.Call3 i → is_calling3 (next (after (next s e) run) a).place ≡ false
  -- in the 129th, and ever after, it is, unless a call is answered
  pub calls_again : 128 ≤ steps_in (next s e) run → (a : Event) (r : Reply) → a.offer ≡ Offer.Call3 i → said (after (next s e) run) a ≡ answered r → none_answered r.station.place ≡ true → PlacesCall3 i r
  -- and another identity of seven signals is called at once
  pub calls_another : (a : Event) (j : Seven) (r : Reply) → a.offer ≡ Offer.Call3 j → (i ≡ j → ⊥) → said (after (next s e) run) a ≡ answered r → none_answered r.station.place ≡ true → PlacesCall3 j r
