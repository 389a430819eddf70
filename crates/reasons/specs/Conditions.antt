-- 02, T-08: "Each is given exactly when its condition in 01's rows holds and none before it does."  R-265
--
-- The condition of each reason by itself, a line a condition, in the words of 01's rows (`row_at`) and of what is heard (`heard_by`). No line
-- looks at another, nor at the order: a burst may meet several, and `rank` is the place of each in 02's list. Two lines of one rank are of
-- what the rows name, and no burst meets two of these. That the reason given holds is `given_holds`, and that every other which holds
-- stands behind it `given_first` (proofs/ReasonLaws.antt).
-- Assumes nothing.
use Rattle.std.specs.Prelude.{◌≡◌, Bool, true, false, not, ◌||◌, ◌⊎◌, List, [], ◌∷◌, ℕ, ◌≤◌, ◌<◌, length, get_or, eqb}
use Rattle.signals.specs.Units.{intact_of}
use Rattle.signals.specs.Meaning.{rq}
use Rattle.identity.specs.declared.Seven.{Seven}
use Rattle.identity.specs.Sums.{check_sum1, check_sum2, check_sum3}
use Rattle.mode_a.specs.declared.Role.TheVariants.{Master, Slave}
use Rattle.mode_a.specs.declared.Number.{Number}
use Rattle.mode_a.specs.declared.Number.TheVariants.{One}
use Rattle.mode_a.specs.declared.Stage.{Stage}
use Rattle.mode_a.specs.declared.Words.{Words}
use Rattle.mode_a.specs.declared.Held.{Held}
use Rattle.mode_a.specs.declared.Ended.{Ended}
use Rattle.mode_a.specs.declared.Waiting.{Waiting}
use Rattle.mode_a.specs.declared.Called.{Called}
use Rattle.mode_a.specs.declared.Called3.{Called3}
use Rattle.mode_a.specs.declared.Identified.{Identified}
use Rattle.mode_a.specs.declared.Gathered.{Gathered}
use Rattle.mode_a.specs.declared.Place.{Place}
use Rattle.mode_a.specs.declared.Place.TheVariants.{Sending, Turning, Opening, Ending, Receiving, Asking, StandBy, Lost, Calling, Calling3, Identifying, Answering}
use Rattle.mode_a.specs.declared.Offer.{Offer}
use Rattle.mode_a.specs.declared.Station.{Station}
use Rattle.mode_a.specs.declared.Doing.{Doing}
use Rattle.mode_a.specs.declared.Doing.TheVariants.{Repeats, Accepts, Rests, Answers, Listens, Answers3, Bars, Again}
use Rattle.mode_a.specs.Identification.{Told, nothing_told, block_1, block_2, block_3}
use Rattle.mode_a.specs.Station.{βαβ, ααα, RQ×3, silence, other}
use Rattle.mode_a.specs.Heard.{First, Cs, Cs3, Rq, Else, Further, Cs4, Cs5, Letter, Other, Heard}
use Rattle.mode_a.specs.Over.{listened_all}
use Rattle.mode_a.specs.Step.{is_over}
use Rattle.reasons.specs.declared.Reason.{Reason}
use Rattle.reasons.specs.Reasons.{heard_by, row_at, is_placed, not_rq, reads, reason_of}

-- the first word heard
abbrev pub first_heard : Station → Words → First
first_heard s b = (heard_by s b).first

-- "earliest": at index i the list has the word w, which fails the test, and every word before it passes
pub record Earliest (passes : ℕ → Bool) (ws : List ℕ) (i w : ℕ) : Type 0 where
  pub within : i < length ws
  pub word : get_or ws i 0 ≡ w
  pub fails : passes w ≡ false
  pub before : (j : ℕ) → j < i → passes (get_or ws j 0) ≡ true

-- the check-sum that a stage of Identifying expects  3.6.3 to 3.6.7
pub data Expects (to : Seven) : Stage → ℕ → Type 0 where
  first_sum : Expects to Stage.One (check_sum1 to)
  second_sum : Expects to Stage.Two (check_sum2 to)
  third_sum : Expects to Stage.Three (check_sum3 to)

-- the identification block that a stage of Answering awaits, and the one before it
pub data Awaits : Stage → Told → Type 0 where
  first_block : (a b : ℕ) → Awaits Stage.One (block_1 a b)
  second_block : (a b : ℕ) → Awaits Stage.Two (block_2 a b)
  third_block : (a b c : ℕ) → Awaits Stage.Three (block_3 a b c)

pub data Before : Stage → Told → Type 0 where
  first_again : (a b : ℕ) → Before Stage.Two (block_1 a b)
  second_again : (a b : ℕ) → Before Stage.Three (block_2 a b)
  third_again : (a b c : ℕ) → Before Stage.Four (block_3 a b c)

pub data Holds (s : Station) (b : Words) (o : Offer) : Reason → Type 0 where
  -- "silent place": Lost; * Stand-by that answers no call and places none  R-266, R-276
  silent_lost : s.place ≡ Lost → Holds s b o Reason.Silent
  silent_standing_by : (w v : Waiting) → s.place ≡ StandBy w → row_at s b ≡ Listens v → is_placed w s.other o ≡ false → Holds s b o Reason.Silent
  -- "time-out": the row repeats, in traffic or in identification, and 31 repetitions in a row were before it  R-267
  time_out : (w : Words) → row_at s b ≡ Repeats w → 31 ≤ s.count → Holds s b o Reason.TimeOut
  time_out_identifying : (p : Place) (w : Words) → row_at s b ≡ Again p w → 31 ≤ s.count → Holds s b o Reason.TimeOut
  -- * 128 call bursts are sent: the row gives the call up, and it is not for CS3  R-268
  run_out : (c : Called) → s.place ≡ Calling c → 128 ≤ c.sent → row_at s b ≡ Rests 128 silence → ¬ (first_heard s b ≡ Cs3) → Holds s b o Reason.RunOut
  run_out_3 : (c : Called3) → s.place ≡ Calling3 c → 128 ≤ c.sent → row_at s b ≡ Bars c.to → ¬ (first_heard s b ≡ Cs3) → Holds s b o Reason.RunOut
  -- * Stand-by that answers a call, of two blocks or of three; that places the call offered  R-276
  called : row_at s b ≡ Answers → Holds s b o Reason.Called
  called_3 : row_at s b ≡ Answers3 → Holds s b o Reason.Called
  call_offered : (w v : Waiting) → s.place ≡ StandBy w → row_at s b ≡ Listens v → is_placed w s.other o ≡ true → Holds s b o Reason.CallOffered
  -- "own number" at Sending; "other number" at Sending and Ending; "at Opening either", * at Calling too  R-269, R-270, R-271
  own_number : (h : Held) → s.place ≡ Sending h → first_heard s b ≡ Cs h.number → Holds s b o Reason.Own
  other_number : (h : Held) → s.place ≡ Sending h → first_heard s b ≡ Cs (other h.number) → Holds s b o Reason.Other
  other_number_ending : (e : Ended) → s.place ≡ Ending e → first_heard s b ≡ Cs (other e.number) → Holds s b o Reason.Other
  either : (n : Number) → s.place ≡ Opening → first_heard s b ≡ Cs n → Holds s b o Reason.Either
  either_calling : (n : Number) (c : Called) → s.place ≡ Calling c → first_heard s b ≡ Cs n → Holds s b o Reason.Either
  -- * CS1 at the fourth stage of Identifying  R-278
  cs1 : (i : Identified) → s.place ≡ Identifying i → i.stage ≡ Stage.Four → first_heard s b ≡ Cs One → Holds s b o Reason.Cs1
  -- "CS3" at Sending, Turning, Opening; * at Calling of either kind and at the fourth stage of Identifying  R-272
  cs3_sending : (h : Held) → s.place ≡ Sending h → first_heard s b ≡ Cs3 → Holds s b o Reason.Cs3
  cs3_turning : (n : Number) → s.place ≡ Turning n → first_heard s b ≡ Cs3 → Holds s b o Reason.Cs3
  cs3_opening : s.place ≡ Opening → first_heard s b ≡ Cs3 → Holds s b o Reason.Cs3
  cs3_calling : (c : Called) → s.place ≡ Calling c → first_heard s b ≡ Cs3 → Holds s b o Reason.Cs3
  cs3_calling_3 : (c : Called3) → s.place ≡ Calling3 c → first_heard s b ≡ Cs3 → Holds s b o Reason.Cs3
  cs3_identifying : (i : Identified) → s.place ≡ Identifying i → i.stage ≡ Stage.Four → first_heard s b ≡ Cs3 → Holds s b o Reason.Cs3
  -- * CS4, CS5 at Calling with three blocks  R-277
  cs4 : (c : Called3) → s.place ≡ Calling3 c → first_heard s b ≡ Else Cs4 → Holds s b o Reason.Cs4
  cs5 : (c : Called3) → s.place ≡ Calling3 c → first_heard s b ≡ Else Cs5 → Holds s b o Reason.Cs5
  -- "RQ" at Turning: three for a master, one for a slave; * RQ RQ RQ at the fourth stage of Answering  R-273
  rq_master : (n : Number) → s.place ≡ Turning n → s.role ≡ Master → b ≡ RQ×3 → Holds s b o Reason.Rq
  rq_slave : (n : Number) → s.place ≡ Turning n → s.role ≡ Slave → first_heard s b ≡ Rq → Holds s b o Reason.Rq
  rq_answering : (g : Gathered) → s.place ≡ Answering g → g.stage ≡ Stage.Four → b ≡ RQ×3 → Holds s b o Reason.Rq
  -- "βαβ" at Asking; "ααα" at Receiving, * at Answering too  R-274, R-275
  turn : s.place ≡ Asking → b ≡ βαβ → Holds s b o Reason.Turn
  alphas : (n : Number) → s.place ≡ Receiving n → b ≡ ααα → Holds s b o Reason.Alphas
  alphas_answering : (g : Gathered) → s.place ≡ Answering g → b ≡ ααα → Holds s b o Reason.Alphas
  -- * the check-sum that the stage expects, or another letter of table 3b  R-278
  right_sum_lem : (i : Identified) (e : ℕ) → s.place ≡ Identifying i → Expects i.to i.stage e → first_heard s b ≡ Else (Letter e) → Holds s b o Reason.RightSum
  wrong_sum_lem : (i : Identified) (e w : ℕ) → s.place ≡ Identifying i → Expects i.to i.stage e → first_heard s b ≡ Else (Letter w) → ¬ (w ≡ e) → Holds s b o Reason.WrongSum
  -- * the identification block that the stage awaits, or the one before it, again  R-279
  block_awaited : (g : Gathered) → s.place ≡ Answering g → Awaits g.stage (heard_by s b).told → Holds s b o Reason.Told
  block_before : (g : Gathered) → s.place ≡ Answering g → Before g.stage (heard_by s b).told → Holds s b o Reason.ToldAgain
  -- "earliest bad place and its word", "earliest RQ": of the words that the place reads  R-280, R-281, R-287
  bad : (i w : ℕ) → Earliest intact_of (reads s.role s.place b) i w → Holds s b o (Reason.Bad i w)
  repeat : (i w : ℕ) → Earliest not_rq (reads s.role s.place b) i w → Holds s b o (Reason.Repeat i)
  -- "other word not expected": the row accepts no block  R-282
  unexpected : ((n : Number) → ¬ (row_at s b ≡ Accepts n)) → Holds s b o Reason.Unexpected
  -- the row accepts the block: "over heard" in it, * D in figures in it, "over offered", "accepted"  R-283, R-284, R-285, R-286
  over_heard : (n : Number) → row_at s b ≡ Accepts n → (listened_all s.case s.plus b).over ≡ true → Holds s b o Reason.OverHeard
  who_are_you_lem : (n : Number) → row_at s b ≡ Accepts n → (listened_all s.case s.plus b).asked ≡ true → Holds s b o Reason.WhoAreYou
  over_offered : (n : Number) → row_at s b ≡ Accepts n → is_over o ≡ true → Holds s b o Reason.OverOffered
  accepted : (n : Number) → row_at s b ≡ Accepts n → Holds s b o Reason.Accepted

-- the place of each in 02's list
abbrev pub rank : Reason → ℕ
rank Reason.Silent = 0
rank Reason.TimeOut = 1
rank Reason.RunOut = 2
rank Reason.Called = 3
rank Reason.CallOffered = 3
rank Reason.Own = 3
rank Reason.Other = 3
rank Reason.Either = 3
rank Reason.Cs1 = 3
rank Reason.Cs3 = 3
rank Reason.Cs4 = 3
rank Reason.Cs5 = 3
rank Reason.Rq = 3
rank Reason.Turn = 3
rank Reason.Alphas = 3
rank Reason.RightSum = 3
rank Reason.WrongSum = 3
rank Reason.Told = 3
rank Reason.ToldAgain = 3
rank (Reason.Bad i w) = 4
rank (Reason.Repeat i) = 5
rank Reason.Unexpected = 6
rank Reason.OverHeard = 7
rank Reason.WhoAreYou = 8
rank Reason.OverOffered = 9
rank Reason.Accepted = 10

-- "the first of these that holds", of a reason r: it holds, and of the others that hold none stands before it or beside it
pub record FirstThatHolds (s : Station) (b : Words) (o : Offer) (r : Reason) : Type 0 where
  pub holds : Holds s b o r
  pub none_before : (q : Reason) → Holds s b o q → (q ≡ r) ⊎ (rank r < rank q)

-- "exactly when": the reason given is the first that holds, and no other reason is
pub record GivenExactly (s : Station) (b : Words) (o : Offer) : Type 0 where
  pub given : FirstThatHolds s b o (reason_of s b o)
  pub no_other : (r : Reason) → FirstThatHolds s b o r → reason_of s b o ≡ r

abbrev pub EachGivenExactly : Type 0
EachGivenExactly = (s : Station) (b : Words) (o : Offer) → GivenExactly s b o
