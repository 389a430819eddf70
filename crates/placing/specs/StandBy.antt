-- 02, T-02: "01's Stand-by row is amended: it hears and places calls." "on CS3 waits 128 cycles in stand-by"; "The slave answers CS1
-- after both blocks in succession." 001: "waits for a time of at least 128 cycles before sending the same 'call signal' again" (3.5.4),
-- "waits 128 cycles" (3.5.7); "The called station becomes the slave station .. following the consecutive reception of 'call block 1' and
-- 'call block 2', after which it sends 'control signal 1'" (3.5.5).
-- Assumes nothing.
use Rattle.std.specs.Prelude.{◌≡◌, Bool, true, false, not, ◌||◌, ◌↔◌, ◌⊎◌, ◌-◌, ◌<◌, ◌≤◌, if◌then◌else◌}
use Rattle.std.proofs.Math.Option.{Option}
use Rattle.signals.specs.Numbers.{answered}
use Rattle.mode_a.specs.declared.Role.TheVariants.{Master, Slave}
use Rattle.mode_a.specs.declared.Number.TheVariants.{One}
use Rattle.mode_a.specs.declared.Words.{Words}
use Rattle.signals.specs.declared.Case.TheVariants.{Letters}
use Rattle.mode_a.specs.declared.Peer.TheVariants.{Nobody, Barred}
use Rattle.mode_a.specs.declared.Mark.{Mark}
use Rattle.mode_a.specs.declared.Identity.{Identity}
use Rattle.mode_a.specs.declared.Waiting.{Waiting}
use Rattle.mode_a.specs.declared.Place.{Place}
use Rattle.mode_a.specs.declared.Place.TheVariants.{Receiving, StandBy, Calling}
use Rattle.mode_a.specs.declared.Offer.{Offer}
use Rattle.mode_a.specs.declared.Station.{Station}
use Rattle.mode_a.specs.declared.Reply.{Reply}
use Rattle.mode_a.specs.Calls.{is_callable, call_block1, call_block2}
use Rattle.mode_a.specs.Station.{silence, asks_for, resting}
use Rattle.runs.specs.Places.{is_receiving, is_stand_by, is_lost, is_calling, is_calling3, is_answering, at_calling3, none_answered}
use Rattle.mode_a.specs.Step.{left_at, wait_at}
use Rattle.runs.specs.Runs.{Event, Run, said, next, after, is_taken, Step, last_step, WasHeard, steps_in}

-- a call is answered: "The slave answers CS1"
pub record AnswersCall (r : Reply) : Type 0 where
  pub slave : r.station.role ≡ Slave
  pub awaits_1 : r.station.place ≡ Receiving One
  pub sends_cs1 : r.sent ≡ asks_for One
  pub prints_nothing_lem : r.printed ≡ silence
  pub takes_nothing : r.taken ≡ false
  pub nobody : r.station.other ≡ Nobody
  pub letters : (r.station.case ≡ Letters) × (r.station.plus ≡ false) × (r.station.count ≡ 0)

-- a call is placed: "the master sends call blocks 1 and 2 in turn", block 1 in this very step
pub record PlacesCall (i : Identity) (r : Reply) : Type 0 where
  pub master : r.station.role ≡ Master
  pub calls : r.station.place ≡ Calling (record { to = i; sent = 1; last = Mark.None })
  pub sends_block_1 : r.sent ≡ call_block1 i
  pub prints_nothing_lem : r.printed ≡ silence
  pub takes_it : r.taken ≡ true
  pub nobody : r.station.other ≡ Nobody
  pub letters : (r.station.case ≡ Letters) × (r.station.plus ≡ false) × (r.station.count ≡ 0)

-- neither: it stays, and one step less is left to wait
pub record WaitsOn (w : Waiting) (r : Reply) : Type 0 where
  pub stays : (v : Waiting) × (r.station.place ≡ StandBy v) × (v.wait ≡ w.wait - 1)
  pub is_silent : r.sent ≡ silence
  pub prints_nothing_lem : r.printed ≡ silence
  pub takes_nothing : r.taken ≡ false

-- or it answers or places a three-block call (T-05), of which identification/specs/ThreeBlocks.antt tells
pub data OneOfFour (w : Waiting) (o : Offer) (r : Reply) : Type 0 where
  answers : AnswersCall r → OneOfFour w o r
  places : (i : Identity) → o ≡ Offer.Call i → w.wait ≡ 0 → PlacesCall i r → OneOfFour w o r
  of_three_blocks : is_answering r.station.place || is_calling3 r.station.place ≡ true → r.taken ≡ is_calling3 r.station.place → OneOfFour w o r
  waits : WaitsOn w r → OneOfFour w o r

-- "it hears and places calls": a step from Stand-by
pub record Stands (w : Waiting) (o : Offer) (r : Reply) : Type 0 where
  pub one_of_four : OneOfFour w o r
  -- a two-block call is placed exactly where one is offered, none is answered, and no step is left to wait
  pub places_exactly : is_calling r.station.place ≡ true ↔ ((i : Identity) × (o ≡ Offer.Call i)) × (none_answered r.station.place ≡ true) × (w.wait ≡ 0)
  pub never_lost : is_lost r.station.place ≡ false

-- a step that comes to Stand-by from another place: 128 steps to wait from Calling, with two blocks or three, and none from elsewhere, but
-- 128 where an identity is barred (T-05: CS5 was answered by the end procedure); none of its own call blocks heard, and nobody at the
-- other end: the identity of a three-block call that failed is barred
pub record Enters (s : Station) (r : Reply) : Type 0 where
  pub rests_so : r.station.place ≡ resting (if is_calling s.place || is_calling3 s.place then 128 else wait_at s.other 0)
  pub alone : r.station.other ≡ at_calling3 (λ c. Barred c.to) (left_at s.other) s.place

-- "waits 128 cycles in stand-by": a call fails at the event e, and after each event of the run the station is at Stand-by
pub record Waits (s : Station) (e : Event) (run : Run) : Type 0 where
  -- in the 128 steps after that one no event places a two-block call, or takes any other offer but a three-block call, which it places
  pub waits : steps_in (next s e) run < 128 → (a : Event) → (is_calling (next (after (next s e) run) a).place ≡ false) × (is_taken (said (after (next s e) run) a) ≡ is_calling3 (next (after (next s e) run) a).place)
  -- in the 129th, and ever after, a two-block call that is offered is placed, unless one is answered
  pub calls_again : 128 ≤ steps_in (next s e) run → (a : Event) (i : Identity) (r : Reply) → a.offer ≡ Offer.Call i → said (after (next s e) run) a ≡ answered r → none_answered r.station.place ≡ true → PlacesCall i r

-- the last step heard the one burst, at Stand-by, and now the other is heard
abbrev pub Successive : Option Step → Words → Words → Words → Type 0
Successive last now x y = WasHeard is_stand_by (λ b. b ≡ x) last × (now ≡ y)

-- "both blocks in succession", in either order: the own call blocks, of an identity of four signals of table 3a
pub record BothBlocks (from : Station) (run : Run) (e : Event) : Type 0 where
  pub is_callable_lem : is_callable from.own.four ≡ true
  pub in_succession_lem : (Successive (last_step from run) e.burst (call_block1 from.own.four) (call_block2 from.own.four)) ⊎ (Successive (last_step from run) e.burst (call_block2 from.own.four) (call_block1 from.own.four))

-- of a run that starts with none of the own call blocks heard
abbrev pub NoneHeard : Station → Type 0
NoneHeard s = (w : Waiting) → s.place ≡ StandBy w → w.heard ≡ Mark.None

-- "The slave answers CS1 after both blocks in succession", and then only
pub record HearsCall (from : Station) (run : Run) (e : Event) (r : Reply) : Type 0 where
  pub answers_exactly : is_receiving r.station.place ≡ true ↔ BothBlocks from run e
  pub answers_so : BothBlocks from run e → AnswersCall r
