-- 02, T-02: "the master sends call blocks 1 and 2 in turn for at most 128 cycles, goes on to traffic on two successive identical CS1 or
-- CS2, and on CS3 waits 128 cycles in stand-by." 001: "if the circuit has not been established within 128 cycles .., the station
-- changes into the 'stand-by' condition" (3.5.4); "On receipt of two consecutive identical signals" (3.5.6); "On receipt of 'control
-- signal 3' during the phasing procedure, the calling station immediately changes to the 'stand-by' condition" (3.5.7).
-- Assumes nothing.
use Rattle.std.specs.Prelude.{◌≡◌, Bool, true, false, not, ◌||◌, ◌↔◌, ◌⊎◌, ◌≤◌}
use Rattle.std.proofs.Math.Option.{some}
use Rattle.signals.specs.Meaning.{cs3}
use Rattle.signals.specs.Numbers.{answered}
use Rattle.mode_a.specs.declared.Number.{Number}
use Rattle.mode_a.specs.declared.Identity.{Identity}
use Rattle.mode_a.specs.declared.Called.{Called}
use Rattle.mode_a.specs.declared.Peer.TheVariants.{Four}
use Rattle.mode_a.specs.declared.Place.{Place}
use Rattle.mode_a.specs.declared.Place.TheVariants.{Calling}
use Rattle.mode_a.specs.declared.Offer.{Offer}
use Rattle.mode_a.specs.declared.Station.{Station}
use Rattle.mode_a.specs.declared.Reply.{Reply}
use Rattle.mode_a.specs.Calls.{is_callable, call_block1}
use Rattle.mode_a.specs.Station.{silence, asks_for}
use Rattle.mode_a.specs.Step.{sends, rested, knowing, takes}
use Rattle.runs.specs.Places.{is_ending, is_sending, is_stand_by, is_lost, is_calling, is_calling3, is_identifying}
use Rattle.runs.specs.Runs.{Event, Run, ◌▷◌, said, after, last_step, WasHeard}
use Rattle.placing.specs.Runs.{is_call_burst, sends_call, calls_in_a_row, block_no, last_called}

-- not in the middle of a call: neither calling, with two blocks or three, nor in identification as the master
abbrev pub not_in_a_call : Place → Bool
not_in_a_call p = not (is_calling p || is_calling3 p || is_identifying p)

-- "sends call blocks 1 and 2 in turn for at most 128 cycles", of every run of a station that is not in the middle of a call at its start
pub record InTurn (from : Station) (run : Run) : Type 0 where
  -- at Calling the station's own number is that of the call bursts sent in a row; elsewhere the row has ended
  pub sents : (c : Called) → (after from run).place ≡ Calling c → c.sent ≡ calls_in_a_row from run
  pub no_others : is_calling (after from run).place ≡ false → calls_in_a_row from run ≡ 0
  -- the identity called is that of the last call taken, and all four of its signals are of table 3a
  pub to : (c : Called) → (after from run).place ≡ Calling c → (last_called from run ≡ some c.to) × (is_callable c.to ≡ true)
  -- its repetition count is 0
  pub count_0 : is_calling (after from run).place ≡ true → (after from run).count ≡ 0
  -- "for at most 128 cycles"
  pub at_most : calls_in_a_row from run ≤ 128
  -- after 128 the next step sends none, whatever it hears and is offered
  pub no_129th : (e : Event) (r : Reply) → said (after from run) e ≡ answered r → calls_in_a_row from run ≡ 128 → is_call_burst r.sent ≡ false
  -- "in turn": each call burst is the block of the identity offered that is due
  pub in_turn : (e : Event) (r : Reply) → said (after from run) e ≡ answered r → sends_call r ≡ true →
      (i : Identity) × (last_called from (run ▷ e) ≡ some i) × (r.sent ≡ block_no i (calls_in_a_row from (run ▷ e)))
  -- and a call that is taken begins a row, so that a row is of one identity
  pub begins : (e : Event) (r : Reply) (i : Identity) → said (after from run) e ≡ answered r → e.offer ≡ Offer.Call i → r.taken ≡ true →
      (calls_in_a_row from run ≡ 0) × (r.sent ≡ call_block1 i)

-- A step from Calling, whatever is heard there: it has its 128 in place of the repetition count, and accepts no block.
pub record Uncounted (s : Station) (r : Reply) : Type 0 where
  pub never_lost : is_lost r.station.place ≡ false
  pub count_0 : r.station.count ≡ 0
  pub prints_nothing_lem : r.printed ≡ silence
  -- what an accepted block would move: the case, and whether a + was heard
  pub accepts_nothing : (r.station.case ≡ s.case) × (r.station.plus ≡ s.plus)

-- "two successive identical CS1 or CS2": the control signal of a number is heard, and the step before heard the same, at Calling
pub record Twice (from : Station) (run : Run) (e : Event) : Type 0 where
  pub number : Number
  pub before : WasHeard is_calling (λ b. b.0 ≡ (asks_for number).0) (last_step from run)
  pub now : e.burst.0 ≡ (asks_for number).0

-- at Sending or Ending: in traffic
abbrev pub in_traffic : Place → Bool
in_traffic p = is_sending p || is_ending p

-- what ends a call that was placed, of a run that starts outside Calling
pub record CallEnds (from : Station) (run : Run) (c : Called) (e : Event) (r : Reply) : Type 0 where
  -- "goes on to traffic on two successive identical CS1 or CS2"  3.5.6
  pub goes_on_exactly : in_traffic r.station.place ≡ true ↔ Twice from run e
  -- under the number heard, with the offer of that step; the identity called is at the other end
  pub goes_on : (t : Twice from run e) → r ≡ takes (knowing (after from run) (Four c.to)) t.number e.offer
  -- "on CS3 waits 128 cycles in stand-by"  3.5.7, and so after 128 call bursts  3.5.4
  pub fails_exactly : is_stand_by r.station.place ≡ true ↔ (Twice from run e → ⊥) × ((e.burst.0 ≡ cs3) ⊎ (calls_in_a_row from run ≡ 128))
  -- silent
  pub fails : is_stand_by r.station.place ≡ true → r ≡ sends (rested (after from run) 128) silence
  -- and there is nowhere else to go
  pub else_calls : in_traffic r.station.place ≡ false → is_stand_by r.station.place ≡ false → is_calling r.station.place ≡ true
