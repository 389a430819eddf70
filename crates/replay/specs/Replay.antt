-- 02, T-07: the state between two entries, and what an entry leads to, beside the definition of a passage.
-- Assumes nothing.
use Rattle.std.specs.Prelude.{◌≡◌, List, [], ◌++◌, ℕ, ◌≤◌, length, if◌then◌else◌}
use Rattle.signals.specs.Numbers.{answered, first_not}
use Rattle.text.specs.Printing.{may_print}
use Rattle.mode_a.specs.declared.Role.{Role}
use Rattle.mode_a.specs.declared.Words.{Words}
use Rattle.mode_a.specs.declared.Reply.{Reply}
use Rattle.mode_a.specs.declared.Offer.{Offer}
use Rattle.mode_a.specs.Station.{silence, list_of}
use Rattle.runs.specs.Circuit.{without_zeros}
use Rattle.entries.specs.Entries.{same_role}
use Rattle.entries.specs.Passage.{Passage, circuit_of, offering, answered_to, signals_of}
use Rattle.replay.specs.declared.State.{State}
use Rattle.replay.specs.declared.Gone.{Gone}

-- the stations of a passage
abbrev pub state_of : Passage → State
state_of p =
    record { hearer = (circuit_of p).hearer; sender = (circuit_of p).sender; burst = (circuit_of p).burst; standing = p.standing }

-- some words that may be printed, with 0 behind them
abbrev pub signals_in : Words → List ℕ
signals_in w = without_zeros (list_of w)

abbrev pub Printable : Words → Type 0
Printable w = length (signals_in w) ≤ first_not may_print (signals_in w)

-- a station has answered so; one is offered this
abbrev pub gone_by : State → Role → Reply → Gone
gone_by s r x =
    record {
      state = record { hearer = s.sender; sender = x.station; burst = x.sent; standing = answered_to s.standing (answered x) };
      by = r;
      printed = x.printed;
    }

abbrev pub offered_to : State → Role → Offer → Gone
offered_to s r o =
    record {
      state = record { hearer = s.hearer; sender = s.sender; burst = s.burst; standing = offering s.standing r o };
      by = r;
      printed = silence;
    }

-- an entry is told, and leads from p to p': the state after it, and what is printed more by the one station, and by the other nothing
pub record GoesTo (p p' : Passage) (r : Gone) : Type 0 where
  pub state_is : r.state ≡ state_of p'
  pub prints : (by : Role) → signals_of p' by ≡ signals_of p by ++ (if same_role by r.by then signals_in r.printed else [])
  pub printable : Printable r.printed

-- from any passage that has this state
abbrev pub Goes : State → (Passage → Passage) → Gone → Type 0
Goes s to r = (p : Passage) → s ≡ state_of p → GoesTo p (to p) r
