-- 02, T-06: "a receiver that prints D in figures turns the direction, sends its code, then two blocks of βββ, and turns back by an over of its
-- own; if the over stood in the same block, it keeps the direction."  R-231 to R-236, R-238, R-239, R-247
--
-- The answer is a list of blocks, and what a run takes is the list of the blocks that the station comes to hold: the whole answer is told of
-- these, and asks neither which index is owed nor what was offered. What is easily got wrong: the block that is held while CS3 comes is taken,
-- and confirmed by it; those behind it are not taken then, since nothing is owed after it (`cs3_drops`), nor later, unless the station is
-- asked once more (`only_asked`).
-- Assumes nothing.
use Rattle.std.specs.Prelude.{◌≡◌, Bool, true, false, ◌&&◌, ◌||◌, List, [], ◌∷◌, ◌++◌, if◌then◌else◌}
use Rattle.signals.specs.Meaning.{cs3}
use Rattle.signals.specs.Numbers.{Answer, answered, refused}
use Rattle.mode_a.specs.declared.Words.{Words}
use Rattle.mode_a.specs.declared.Held.{Held}
use Rattle.mode_a.specs.declared.Owed.{Owed}
use Rattle.mode_a.specs.declared.Place.{Place}
use Rattle.mode_a.specs.declared.Place.TheVariants.{Sending, Turning, Asking}
use Rattle.mode_a.specs.declared.Station.{Station}
use Rattle.mode_a.specs.declared.Reply.{Reply}
use Rattle.mode_a.specs.Station.{single, βαβ}
use Rattle.mode_a.specs.Heard.{First, Cs, Cs3, Rq, Else, first_of, heard_of}
use Rattle.mode_a.specs.Over.{listened_all}
use Rattle.mode_a.specs.Answerback.{answer_of}
use Rattle.mode_a.specs.Step.{traffic_in, owed_for}
use Rattle.runs.specs.Places.{is_sending, is_opening, is_asking, is_lost, at_sending}
use Rattle.runs.specs.Runs.{Event, Run, start, ◌▷◌, said, after, is_taken, confirming, accepting, taking}
use Rattle.runs.specs.Taken.{taken_by}

-- a block is accepted, and D stands in it in figures case
abbrev pub asks : Station → Event → Bool
asks s e = accepting s.place (heard_of s.own e.burst) && (listened_all s.case s.plus e.burst).asked

-- the block is printed, CS3 turns the direction, no offer is taken, and the answer is owed from its first block on
pub record QuestionTurned (s : Station) (e : Event) (r : Reply) : Type 0 where
  pub goes_to_asking : r.station.place ≡ Asking
  pub sends_cs3 : r.sent ≡ single cs3
  pub prints_the_block : r.printed ≡ traffic_in e.burst
  pub takes_no_offer : r.taken ≡ false
  pub owes : r.station.owed ≡ owed_for (listened_all s.case s.plus e.burst)

abbrev pub QuestionTurns : Type 0
QuestionTurns = (s : Station) (e : Event) (r : Reply) → said s e ≡ answered r → asks s e ≡ true → QuestionTurned s e r

-- nothing but such a block makes an answer owed
abbrev pub OnlyAsked : Type 0
OnlyAsked =
    (s : Station) (e : Event) (r : Reply) → said s e ≡ answered r → s.owed ≡ Owed.Nothing → asks s e ≡ false →
    r.station.owed ≡ Owed.Nothing

-- the blocks that a run takes, in order: where a row takes, the block that the station holds at Sending after the step. Where it takes end
-- it holds none.
abbrev pub held_at : Place → List Words
held_at p = at_sending (λ h. h.block ∷ []) [] p

abbrev pub taken_at : Station → Event → Answer Reply → List Words
taken_at s e (answered r) = if taking s.place (first_of e.burst.0) then held_at r.station.place else []
taken_at s e (refused n v) = []

unfoldable pub taken_in : Station → Run → List Words
taken_in s start = []
taken_in s (run ▷ e) = taken_in s run ++ taken_at (after s run) e (said (after s run) e)

-- These are the blocks that demand 3 counts as taken from the station's offers ("The code's blocks, the two of βββ and the station's own over
-- count among blocks taken from that station's offers").  R-245
abbrev pub HeldIsTaken : Type 0
HeldIsTaken =
    (s : Station) (e : Event) (r : Reply) → said s e ≡ answered r → taken_at s e (answered r) ≡ taken_by s e.burst e.offer r

-- What cuts an answer: CS3 as the first word, at Sending or at Opening. 02's "CS3 heard meanwhile" is that of Sending. At Opening CS3 is 01's
-- own row, to Stand-by, where nothing is owed; a pair of our stations never comes to it (`opening_hears_no_cs3` of demand 3), but a run here
-- hears any burst.
abbrev pub is_cs3 : First → Bool
is_cs3 (Cs n) = false
is_cs3 Cs3 = true
is_cs3 Rq = false
is_cs3 (Else x) = false

abbrev pub cuts : Station → Event → Bool
cuts s e = (is_sending s.place || is_opening s.place) && is_cs3 (first_of e.burst.0)

unfoldable pub Uncut : Station → Run → Type 0
Uncut s start = Unit {0}
Uncut s (run ▷ e) = Uncut s run × (cuts (after s run) e ≡ false)

-- How far an answer has come after a run: what was taken and what is left make the answer, something is left, and the station is where it
-- can go on or is Lost; or the run has taken all of it first, in order.
pub data Progress (answer taken : List Words) (s : Station) : Type 0 where
  under_way : (left : List Words) → answer ≡ taken ++ left → ¬ (left ≡ []) →
      is_asking s.place || is_opening s.place || is_sending s.place || is_lost s.place ≡ true → Progress answer taken s
  whole : (behind : List Words) → taken ≡ answer ++ behind → Progress answer taken s

-- The whole answer: from the block with D on, the blocks taken are the answer's, in order, to the last of them, or to the CS3 that cuts it,
-- Lost or the run's end.  R-247
abbrev pub WholeAnswer : Type 0
WholeAnswer =
    (s : Station) (e : Event) (r : Reply) → said s e ≡ answered r → asks s e ≡ true → (run : Run) → Uncut r.station run →
    Progress (answer_of s.own.code (owed_for (listened_all s.case s.plus e.burst))) (taken_in r.station run) (after r.station run)

-- Until then every offer waits: while something is owed, no step of a run, cut or not, reports an offer as taken.  R-238
abbrev pub OffersWait : Type 0
OffersWait =
    (s : Station) (e : Event) (r : Reply) → said s e ≡ answered r → asks s e ≡ true → (run : Run) → (f : Event) →
    ¬ ((after r.station run).owed ≡ Owed.Nothing) → is_taken (said (after r.station run) f) ≡ false

-- "CS3 heard meanwhile confirms and turns as ever": at Sending, of the block h that is held and the first word f. It takes nothing, and drops
-- what is owed.  R-239
pub record Cut (h : Held) (f : First) (r : Reply) : Type 0 where
  pub confirms_the_block : confirming h f ≡ true
  pub goes_to_turning : r.station.place ≡ Turning h.number
  pub sends_βαβ : r.sent ≡ βαβ
  pub takes_no_offer : r.taken ≡ false
  pub owes_nothing : r.station.owed ≡ Owed.Nothing

abbrev pub Cs3Drops : Type 0
Cs3Drops =
    (s : Station) (h : Held) (e : Event) (r : Reply) → said s e ≡ answered r → s.place ≡ Sending h → is_cs3 (first_of e.burst.0) ≡ true →
    Cut h (first_of e.burst.0) r
