-- 01, How the promises are judged: demand 3, of every run of a fresh master and a fresh slave, and of every run after a call.  R-172
-- Assumes nothing.
use Rattle.std.specs.Prelude.{◌≡◌, true, ◌⊎◌, List, [], ◌∷◌, ◌++◌, ℕ, ◌+◌, ◌≤◌, length}
use Rattle.mode_a.specs.declared.Words.{Words}
use Rattle.mode_a.specs.declared.Held.{Held}
use Rattle.mode_a.specs.declared.Place.{Place}
use Rattle.mode_a.specs.declared.Place.TheVariants.{Sending, Opening, Receiving, Lost}
use Rattle.mode_a.specs.Station.{RQ×3}
use Rattle.mode_a.specs.Heard.{Cs3, first_of}
use Rattle.runs.specs.Places.{at_sending}
use Rattle.runs.specs.Runs.{is_answered, InOrder}
use Rattle.runs.specs.Circuit.{Event, heard, Harmless, Whole, Run, signals_in, Direction, Circuit, said, next, after, AllHarmless, NoCallPlaced}
use Rattle.circuit.specs.Starts.{Starts, CodesPass}

-- one list is a beginning of another
pub record Beginning (A : Type 0) (begun whole : List A) : Type 0 where
  pub rest : List A
  pub splits : whole ≡ begun ++ rest

-- Of one direction.
--     "what each station prints is a beginning of the traffic signals in the blocks taken from the other's offers, in order, none
--     missing and none twice": block for block, then signal for signal
--     "What a sender counts as confirmed is printed, and printing is ahead of that by at most one block."
pub record Carried (d : Direction) : Type 0 where
  pub accepts_a_beginning : Beginning Words d.accepted d.taken
  pub prints_what_it_accepts : d.printed ≡ signals_in d.accepted
  pub prints_a_beginning : Beginning ℕ d.printed (signals_in d.taken)
  pub confirmed_is_printed : Beginning Words d.confirmed d.accepted
  pub ahead_by_at_most_one : length d.accepted ≤ length d.confirmed + 1

-- What a station has taken and does not count as confirmed is the block that it holds, and nothing where it is not at Sending: none
-- is dropped. One that is Lost is behind by one block at most.
abbrev pub in_hand : Place → List Words
in_hand p = at_sending (λ h. h.block ∷ []) [] p

pub record Kept (p : Place) (d : Direction) : Type 0 where
  pub none_dropped : ¬ (p ≡ Lost) → d.taken ≡ d.confirmed ++ in_hand p
  pub one_at_most : length d.taken ≤ length d.confirmed + 1

-- "undamaged exchanges in succession, each begun by its sender": the burst on the way is heard, and then the answer to it
pub record Exchanged (c d : Circuit) : Type 0 where
  pub out : Event
  pub back : Event
  pub whole : Whole out
  pub whole_back : Whole back
  pub answered : is_answered (said c out) ≡ true
  pub answered_back : is_answered (said (next c out) back) ≡ true
  pub leads : d ≡ next (next c out) back

-- the block that the sender holds is the next that it counts as confirmed
abbrev pub Confirms : Held → Circuit → Circuit → Type 0
Confirms h c d = Beginning Words (c.from_sender.confirmed ++ h.block ∷ []) d.from_sender.confirmed

-- "unless a station reaches its time-out first": one of the two is Lost, and the sender counts no more as confirmed than before
pub record TimedOutFirst (c d : Circuit) : Type 0 where
  pub lost : (d.hearer.place ≡ Lost) ⊎ (d.sender.place ≡ Lost)
  pub unconfirmed : d.from_sender.confirmed ≡ c.from_sender.confirmed

-- neither station is Lost
abbrev pub InTime : Circuit → Type 0
InTime c = ¬ (c.hearer.place ≡ Lost) × ¬ (c.sender.place ≡ Lost)

-- the other still awaits the block, and RQ RQ RQ is on the way in its place
abbrev pub AwaitsAtRq : Held → Circuit → Type 0
AwaitsAtRq h c = (c.hearer.place ≡ Receiving h.number) × (c.burst ≡ RQ×3)

-- Of a circuit, whose stations are the one that hears next and the one that has sent.
--     hearer_keeps, sender_keeps    no block that is taken is dropped
--     never_both_sending       "The two never both have text on the way."
--     two_exchanges            "A block waiting for its confirmation, the end block apart, gets it within two undamaged exchanges in
--                              succession, each begun by its sender, unless a station reaches its time-out first."
--     confirmed_in_time        and where it gets it, neither station is Lost at their end: no third case is left
--     one_exchange             one is enough, but for one case;
--     two_are_needed           in that case one is not
--     opening_hears_no_cs3     whatever the damage that is none of the 35
--     refuses_only_offers      no step is refused for its station
pub record Demand3 (c : Circuit) : Type 0 where
  pub from_hearer : Carried c.from_hearer
  pub from_sender : Carried c.from_sender
  pub hearer_keeps : Kept c.hearer.place c.from_hearer
  pub sender_keeps : Kept c.sender.place c.from_sender
  pub never_both_sending : (h g : Held) → c.hearer.place ≡ Sending h → ¬ (c.sender.place ≡ Sending g)
  pub two_exchanges : (h : Held) (d g : Circuit) → c.sender.place ≡ Sending h → Exchanged c d → Exchanged d g →
      Confirms h c g ⊎ TimedOutFirst c g
  pub confirmed_in_time : (h : Held) (d g : Circuit) → c.sender.place ≡ Sending h → Exchanged c d → Exchanged d g →
      Confirms h c g → InTime g
  pub one_exchange : (h : Held) (d : Circuit) → c.sender.place ≡ Sending h → Exchanged c d → ¬ AwaitsAtRq h c →
      Confirms h c d ⊎ TimedOutFirst c d
  pub two_are_needed : (h : Held) (d : Circuit) → c.sender.place ≡ Sending h → Exchanged c d → AwaitsAtRq h c →
      d.from_sender.confirmed ≡ c.from_sender.confirmed
  pub opening_hears_no_cs3 : (e : Event) → Harmless e → c.hearer.place ≡ Opening → ¬ (first_of (heard e c.burst).0 ≡ Cs3)
  pub refuses_only_offers : (e : Event) → InOrder c.hearer.own e.offer → is_answered (said c e) ≡ true

-- of every run, of two stations whose codes pass (02, T-06)  R-245
abbrev pub OfEveryRun : Type 0
OfEveryRun = (c : Circuit) → Starts c → CodesPass c → (run : Run) → AllHarmless run → NoCallPlaced c run → Demand3 (after c run)
