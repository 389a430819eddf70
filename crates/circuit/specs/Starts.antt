-- 01, How the promises are judged: "Take a fresh master and a fresh slave"; 02, T-02: "Demand 3 then also starts from what a completed call
-- leaves, where the slave was at Stand-by before it and its repetition count may have begun."  R-194. And T-05: from what a completed
-- call of three blocks leaves, where the last burst that the slave heard before it was no call block of its own.  R-227. T-06: "Demand 3
-- takes stations whose code passes this", and nothing of an answer is owed at the start; of a station at Stand-by that is called this is not
-- asked, since a call leaves nothing owed.  R-245
-- Assumes nothing.
use Rattle.std.specs.Prelude.{◌≡◌, true, false, ◌||◌, [], ◌∷◌, leb}
use Rattle.signals.specs.declared.Case.TheVariants.{Letters}
use Rattle.signals.specs.Numbers.{answered}
use Rattle.mode_a.specs.declared.Role.TheVariants.{Master, Slave}
use Rattle.mode_a.specs.declared.Number.TheVariants.{One, Two}
use Rattle.mode_a.specs.declared.Words.{Words}
use Rattle.mode_a.specs.declared.Identity.{Identity}
use Rattle.mode_a.specs.declared.Peer.TheVariants.{Four}
use Rattle.mode_a.specs.declared.Place.TheVariants.{Sending, Turning, Ending, Receiving, Asking, StandBy}
use Rattle.mode_a.specs.declared.Mark.{Mark}
use Rattle.mode_a.specs.declared.Succession.{Succession}
use Rattle.mode_a.specs.declared.Waiting.{Waiting}
use Rattle.mode_a.specs.declared.Code.{Code}
use Rattle.mode_a.specs.declared.Owed.{Owed}
use Rattle.identity.specs.declared.Seven.{Seven}
use Rattle.identity.specs.Sums.{is_callable7}
use Rattle.mode_a.specs.declared.Offer.{Offer}
use Rattle.mode_a.specs.declared.Station.{Station}
use Rattle.mode_a.specs.declared.Reply.{Reply}
use Rattle.mode_a.specs.Station.{ααα, βαβ}
use Rattle.mode_a.specs.Heard.{is_block}
use Rattle.mode_a.specs.Answerback.{passes}
use Rattle.mode_a.specs.Step.{sound, called, called3}
use Rattle.runs.specs.Places.{is_sending, is_ending, is_stand_by, is_calling}
use Rattle.runs.specs.Circuit.{Event, Harmless, Run, nothing_yet, Circuit, fresh_with, said, next, after, AllHarmless, NoCallPlaced}

-- What the step that places a call leaves (`called`), whatever the station was and whatever the identity: the first call burst is on the
-- way to a station at Stand-by, whatever that one's identity and whatever it has heard before. Nothing has been carried yet.
pub record CallPlaced (i : Identity) (c : Circuit) : Type 0 where
  pub caller : Station
  pub sender_is : c.sender ≡ (called caller i).station
  pub burst_is : c.burst ≡ (called caller i).sent
  pub hearer_at : is_stand_by c.hearer.place ≡ true
  pub hearer_sound : sound c.hearer ≡ true
  pub none_from_hearer : c.from_hearer ≡ nothing_yet
  pub none_from_sender : c.from_sender ≡ nothing_yet

-- a station at Stand-by that takes a call, facing another at Stand-by: that is what it leaves
abbrev pub PlacingLeaves : Type 0
PlacingLeaves =
    (i : Identity) (c : Circuit) (e : Event) (r : Reply) → is_stand_by c.hearer.place ≡ true → is_stand_by c.sender.place ≡ true →
    sound c.sender ≡ true → c.from_hearer ≡ nothing_yet → c.from_sender ≡ nothing_yet → e.offer ≡ Offer.Call i →
    said c e ≡ answered r → r.taken ≡ true → CallPlaced i (next c e)

-- What the master has sent as the call is completed: the block that it took, under number 1, or ααα for the first time.
pub data Begins : Circuit → Type 0 where
  with_block_lem : {c : Circuit} {b : Words} → is_block b ≡ true → c.sender.place ≡ Sending (record { number = One; block = b }) →
      c.burst ≡ b → c.from_sender ≡ record { taken = b ∷ []; accepted = []; printed = []; confirmed = [] } → Begins c
  with_end : {c : Circuit} → c.sender.place ≡ Ending (record { number = One; total = 1 }) → c.burst ≡ ααα →
      c.from_sender ≡ nothing_yet → Begins c

-- The master has just sent, with count 0, and the slave awaits block 1, with any count up to 31. Both are in letters case, with no +
-- heard and nothing owed.
pub record CallCompleted (c : Circuit) : Type 0 where
  pub sender_role : c.sender.role ≡ Master
  pub sender_count : c.sender.count ≡ 0
  pub sender_case : c.sender.case ≡ Letters
  pub sender_plus : c.sender.plus ≡ false
  pub begins : Begins c
  pub sender_owed : c.sender.owed ≡ Owed.Nothing
  pub hearer_role : c.hearer.role ≡ Slave
  pub hearer_place : c.hearer.place ≡ Receiving One
  pub hearer_count : leb c.hearer.count 31 ≡ true
  pub hearer_case : c.hearer.case ≡ Letters
  pub hearer_plus : c.hearer.plus ≡ false
  pub hearer_owed : c.hearer.owed ≡ Owed.Nothing
  pub none_from_hearer : c.from_hearer ≡ nothing_yet

-- The same of a call of three blocks (`called3`): both identities are of table 3a, else the step refuses the call. The last burst that the
-- other station heard was no call block of its own, of four signals or of seven: where it was block 2 of the four, call block 1 may
-- complete a call of two blocks, and call block 3 is then printed.
pub record Call3Placed (i : Seven) (c : Circuit) : Type 0 where
  pub caller : Station
  pub sender_is : c.sender ≡ (called3 caller i).station
  pub burst_is : c.burst ≡ (called3 caller i).sent
  pub called_letters : is_callable7 i ≡ true
  pub caller_letters : is_callable7 caller.own.seven ≡ true
  pub waits : Waiting
  pub hearer_at : c.hearer.place ≡ StandBy waits
  pub none_heard : waits.heard ≡ Mark.None
  pub none_heard3 : waits.heard3 ≡ Succession.None
  pub hearer_sound : sound c.hearer ≡ true
  pub none_from_hearer : c.from_hearer ≡ nothing_yet
  pub none_from_sender : c.from_sender ≡ nothing_yet

-- What a completed call of three blocks leaves is `CallCompleted` too; or this, where the slave is to send first (3.6.9, 3.6.11): the master
-- has just sent βαβ, with count 0, its last block being 2, and the slave is at Asking, with any count up to 31. Nothing has been carried.
pub record CallTurned (c : Circuit) : Type 0 where
  pub sender_role : c.sender.role ≡ Master
  pub sender_place : c.sender.place ≡ Turning Two
  pub sender_count : c.sender.count ≡ 0
  pub sender_case : c.sender.case ≡ Letters
  pub sender_plus : c.sender.plus ≡ false
  pub sender_owed : c.sender.owed ≡ Owed.Nothing
  pub burst_is : c.burst ≡ βαβ
  pub hearer_role : c.hearer.role ≡ Slave
  pub hearer_place : c.hearer.place ≡ Asking
  pub hearer_count : leb c.hearer.count 31 ≡ true
  pub hearer_case : c.hearer.case ≡ Letters
  pub hearer_plus : c.hearer.plus ≡ false
  pub hearer_owed : c.hearer.owed ≡ Owed.Nothing
  pub none_from_hearer : c.from_hearer ≡ nothing_yet
  pub none_from_sender : c.from_sender ≡ nothing_yet

-- what demand 3 starts from
pub data Starts : Circuit → Type 0 where
  both_fresh : (k j : Code) → Starts (fresh_with k j)
  placed : {c : Circuit} {i : Identity} → CallPlaced i c → Starts c
  completed : {c : Circuit} → CallCompleted c → Starts c
  placed3 : {c : Circuit} {i : Seven} → Call3Placed i c → Starts c
  turned : {c : Circuit} → CallTurned c → Starts c

-- "Demand 3 takes stations whose code passes this" (02, T-06): no step of theirs is refused for the code, and none changes it  R-245
pub record CodesPass (c : Circuit) : Type 0 where
  pub hearer_passes : passes c.hearer.own.code ≡ true
  pub sender_passes : passes c.sender.own.code ≡ true

-- where, after any harmless damage, the caller leaves Calling for Sending or Ending the circuit is what a completed call leaves, and the
-- master knows whom it called
abbrev pub LeavesCompleted : Type 0
LeavesCompleted =
    (i : Identity) (c : Circuit) → CallPlaced i c → (run : Run) → AllHarmless run → NoCallPlaced c run → (e : Event) → Harmless e →
    is_calling (after c run).hearer.place ≡ true → let d = next (after c run) e in
    (is_sending d.sender.place || is_ending d.sender.place) ≡ true → CallCompleted d × (d.sender.other ≡ Four i)
