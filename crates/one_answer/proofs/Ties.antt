-- A row, and the reason that is given where it is followed: the answer is the one that the reason has. What is the same at every place.
-- Assumes nothing.
use mathlib.Core.Path.{◌≡◌}
use mathlib.Core.Bool.{Bool, true, false, ◌&&◌}
use mathlib.Core.List.{List}
use Prim.Native.Nat.{ℕ, ◌+◌}
use lib.Dec.{leb, ltb}
use lib.ListN.{length, get_or}
use Rattle.std.specs.Prelude.{if◌then◌else◌}
use Rattle.signals.specs.Units.{intact_of}
use Rattle.signals.specs.Numbers.{first_not}
use Rattle.mode_a.specs.declared.Words.{Words}
use Rattle.mode_a.specs.declared.Place.{Place}
use Rattle.mode_a.specs.declared.Offer.{Offer}
use Rattle.mode_a.specs.declared.Station.{Station}
use Rattle.mode_a.specs.declared.Doing.{Doing}
use Rattle.mode_a.specs.declared.Doing.TheVariants.{Repeats, Again}
use Rattle.mode_a.specs.declared.Reply.{Reply}
use Rattle.mode_a.specs.declared.Place.TheVariants.{Lost}
use Rattle.mode_a.specs.Station.{silence}
use Rattle.mode_a.specs.Step.{stands_at, moved_to, sends, rested, repeats, again, done}
use Rattle.reasons.specs.declared.Reason.{Reason}
use Rattle.reasons.specs.Reasons.{heard_by, row_at, is_repetition, Named, not_named, by_name, not_rq, reads, judged, is_accepted, otherwise, reason_of}
use Rattle.one_answer.specs.Answers.{staying, Asks, Unnamed, asks_again, Loses, Leaves, Does, time_out, time_out_identifying, bad, repeat, unexpected}

-- the tie, of the row itself
abbrev pub Tie : Station → Words → Offer → Type 0
Tie s b o = Does s b o (reason_of s b o) (done s b o (row_at s b))

-- what is neither a time-out nor named by the row
abbrev pub unnamed_at : Station → Words → Offer → Reason
unnamed_at s b o = judged (reads s.role s.place b) (otherwise s b o)

-- the row does d, and the reason is the first of 02's list: the place is silent, 32 repetitions, a call has run out, what the row names
abbrev pub TiedBy : Station → Words → Offer → Bool → Doing → Bool → Named → Type 0
TiedBy s b o silent d out m =
    Does s b o (if silent then Reason.Silent else if is_repetition d && leb 31 s.count then Reason.TimeOut else if out then Reason.RunOut else by_name m (unnamed_at s b o)) (done s b o d)

abbrev pub Tied : Station → Words → Offer → Doing → Named → Type 0
Tied s b o d m = TiedBy s b o false d false m

pub by_judged : (P : Reason → Type 0) (ws : List ℕ) (r : Reason) → ((i w : ℕ) → P (Reason.Bad i w)) → ((i : ℕ) → P (Reason.Repeat i)) → P r → P (judged ws r)
by_judged P ws r of_bad of_rq rest = go (ltb (first_not intact_of ws) (length ws)) (ltb (first_not not_rq ws) (length ws))
  where
    go : (t u : Bool) → P (if t then Reason.Bad (first_not intact_of ws) (get_or ws (first_not intact_of ws) 0) else if u then Reason.Repeat (first_not not_rq ws) else r)
    go true u = of_bad _ _
    go false true = of_rq _
    go false false = rest

module _ (s : Station) (b : Words) (o : Offer) where
  -- a row's "all else": whichever of the three reasons is given, the answer is the same
  pub judged_else : (ws : List ℕ) (a : Reply) → Unnamed s a → Does s b o (judged ws Reason.Unexpected) a
  judged_else ws a u = by_judged (λ r. Does s b o r a) ws Reason.Unexpected (λ i w. bad i w a u) (λ i. repeat i a u) (unexpected a u)

  pub all_else : (a : Reply) → is_accepted s.place (heard_by s b) ≡ false → Unnamed s a → Does s b o (unnamed_at s b o) a
  all_else a e u = rw e (judged_else (reads s.role s.place b) a u)

  -- a row that repeats: the 32nd in a row, or for the reason
  pub repeated : (w : Words) (r : Reason) → Loses s.place → Does s b o r (sends (staying s) w) → Does s b o (if leb 31 s.count then Reason.TimeOut else r) (repeats s w)
  repeated w r l d = go (leb 31 s.count)
    where
      go : (t : Bool) → Does s b o (if t then Reason.TimeOut else r) (if t then sends (moved_to s Lost) silence else sends (staying s) w)
      go true = time_out l
      go false = d

  pub asked_again_lem : (w : Words) → is_accepted s.place (heard_by s b) ≡ false → Loses s.place → Asks s w → Tied s b o (Repeats w) not_named
  unfolding done
  asked_again_lem w e l a = repeated w (unnamed_at s b o) l (all_else _ e (asks_again w a))

  -- and in identification, standing so
  pub repeated_so : (p : Place) (w : Words) (r : Reason) → Leaves s.place → Does s b o r (sends (stands_at s p (s.count + 1) s.case s.plus) w) → Does s b o (if leb 31 s.count then Reason.TimeOut else r) (again s p w)
  repeated_so p w r l d = go (leb 31 s.count)
    where
      go : (t : Bool) → Does s b o (if t then Reason.TimeOut else r) (if t then sends (rested s 0) silence else sends (stands_at s p (s.count + 1) s.case s.plus) w)
      go true = time_out_identifying l
      go false = d

  pub asked_so : (w : Words) → is_accepted s.place (heard_by s b) ≡ false → Leaves s.place → Asks s w → Tied s b o (Again s.place w) not_named
  unfolding done
  asked_so w e l a = repeated_so s.place w (unnamed_at s b o) l (all_else _ e (asks_again w a))
