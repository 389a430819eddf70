-- 01, Mode B: the receiver.  R-111 to R-124
-- Assumes nothing.
use Rattle.std.specs.Prelude.{◌≡◌, Bool, true, false, not, ◌&&◌, ◌||◌, ℕ, ◌+◌, eqb, ltb, if◌then◌else◌, Option, Some, None, Result, Ok, Err}
use Rattle.signals.specs.Units.{intact_of}
use Rattle.signals.specs.Meaning.{traffic_of, alpha, rq, error_mark}
use Rattle.signals.specs.Numbers.{Answer, answered, refused}
use Rattle.mode_b.specs.declared.Phasing.{Phasing}
use Rattle.mode_b.specs.declared.Phase.{Phase}
use Rattle.mode_b.specs.declared.Wait.{Wait}
use Rattle.mode_b.specs.declared.Hearing.{Hearing}
use Rattle.mode_b.specs.declared.Hearing.TheVariants.{Searching, InPhase, Waiting}
use Rattle.mode_b.specs.declared.Receiver.{Receiver}
use Rattle.mode_b.specs.declared.Heard.{Heard}
use Rattle.mode_b.specs.declared.Settled.{Settled}
use Rattle.mode_b.specs.declared.BadReceiver.{BadReceiver}
use Rattle.mode_b.specs.Sender.{carriage_return, line_feed}

abbrev pub fresh_receiver : Receiver
fresh_receiver = record { hearing = Searching 0 Phasing.One }

-- "A receiver step hears one word and answers the receiver and at most one printed signal, 255 for an error."  R-111
abbrev pub hears : Hearing → Heard
hears h = record { receiver = record { hearing = h }; printed = None }

abbrev pub prints_at : Hearing → Option ℕ → Heard
prints_at h w = record { receiver = record { hearing = h }; printed = w }

-- "It searches until four intact signals in a row alternate α and RQ; RQ marks DX."  R-112, R-113. A run of k signals that ends in
-- a phasing signal; the same signal again begins a new run, any other word ends it.
abbrev pub same_signal : Phasing → Phasing → Bool
same_signal Phasing.One Phasing.One = true
same_signal Phasing.One Phasing.Two = false
same_signal Phasing.Two Phasing.One = false
same_signal Phasing.Two Phasing.Two = true

abbrev pub run_of : ℕ → Phasing → Phasing → ℕ
run_of k last now = if eqb k 0 || same_signal last now then 1 else k + 1

-- "Positions whose DX came before those four signals count as phasing."  R-114: at the fourth signal the three DX kept are RQ (after α the first of them is settled already).
-- With another RX than α such a position settles as the signal RQ or as an error: nothing is printed either way, since printing has
-- not begun. That is `counts_as_phasing`, of every word (proofs/PhaseLaws.antt).
-- After RQ an RX slot comes next, after α a DX slot. That step settles and prints nothing.
abbrev pub is_one : Phasing → Bool
is_one Phasing.One = true
is_one Phasing.Two = false

abbrev pub locked : Phasing → Hearing
locked s = InPhase (record { first = rq; second = rq; third = rq; dx = is_one s; printing = false })

abbrev pub searched_on : ℕ → Phasing → Heard
searched_on run s = if ltb 3 run then hears (locked s) else hears (Searching run s)

abbrev pub searched : ℕ → Phasing → ℕ → Heard
searched k last w =
    if eqb w alpha then searched_on (run_of k last Phasing.One) Phasing.One
    else if eqb w rq then searched_on (run_of k last Phasing.Two) Phasing.Two
    else hears (Searching 0 Phasing.One)

-- "At an RX slot the position is settled": to a signal, to phasing, or to an error (`Settled`)  R-115
--     alike     "both copies intact and alike, that signal"  R-116
--     phasing   "RQ then α, phasing"                         R-117
--     one       "only one intact, that one"                  R-118
--     else      "otherwise an error"                         R-119
unfoldable pub settled : ℕ → ℕ → Settled
settled dx rx =
    if intact_of dx && (intact_of rx && eqb dx rx) then Settled.Signal dx
    else if eqb dx rq && eqb rx alpha then Settled.Phasing
    else if intact_of dx && not (intact_of rx) then Settled.Signal dx
    else if intact_of rx && not (intact_of dx) then Settled.Signal rx
    else Settled.Error

-- "Printing begins with the first settled return or line feed, which is printed; from then on traffic signals and error marks are
-- printed."  R-120, R-121: what is printed, if anything, and whether printing has begun
abbrev pub begins : ℕ → Bool
begins w = eqb w carriage_return || eqb w line_feed

abbrev pub printed_of : Bool → Settled → Option ℕ
printed_of printing (Settled.Signal w) = if printing || begins w then (if traffic_of w then Some w else None) else None
printed_of printing Settled.Phasing = None
printed_of printing Settled.Error = if printing then Some error_mark else None

abbrev pub printing_after : Bool → Settled → Bool
printing_after printing (Settled.Signal w) = printing || begins w
printing_after printing Settled.Phasing = printing
printing_after printing Settled.Error = printing

-- In an RX slot the oldest waiting position is settled.
unfoldable pub heard_rx : Phase → ℕ → Heard
heard_rx p w =
    prints_at
    (InPhase (record { first = p.first; second = p.second; third = p.third; dx = true; printing = printing_after p.printing (settled p.first w) }))
    (printed_of p.printing (settled p.first w))

-- Behind the second α: the DX word of the position that waits, 0 where none does any more, and how many words are still to be heard.
abbrev pub waits_for : ℕ → Bool → ℕ → Hearing
waits_for word printing left = Waiting (record { word = word; printing = printing; left = left })

-- In a DX slot the word waits. "Two successive intact α in DX", and 02, T-03: "hear three more signals after the second α"  R-122:
-- `third` is the DX before this one, and `second` that of the position before it, which has still to be settled.
unfoldable pub heard_dx : Phase → ℕ → Heard
heard_dx p w =
    if eqb w alpha && eqb p.third alpha then hears (waits_for p.second p.printing 3)
    else hears (InPhase (record { first = p.second; second = p.third; third = w; dx = false; printing = p.printing }))

-- The three words, by how many are still to be heard, this one with them. The RX of the position that waits is the very next word.
--     3   "settle the waiting position in the ordinary way"               R-123
--     2   a word that prints nothing, whatever it is                      R-122
--     1   likewise; behind it "the receiver searches anew"                R-124
-- A receiver that waits for 0 words, to which no receiver comes, is taken as one whose wait ends with this word.
unfoldable pub waited : Wait → ℕ → Heard
waited v w =
    if eqb v.left 3 then prints_at (waits_for 0 false 2) (printed_of v.printing (settled v.word w))
    else if eqb v.left 2 then hears (waits_for 0 false 1)
    else hears (Searching 0 Phasing.One)

-- 01, Numbers returned, for the receiver: 4, "receiver with a search run over 3", "0"; 02, T-03: "4 also for a remaining wait over
-- three"  R-130, R-134. A receiver has the one or the other, or neither.
abbrev pub receiving_by : Hearing → ℕ → Answer Heard
receiving_by (Searching k last) w = if ltb 3 k then refused 4 0 else answered (searched k last w)
receiving_by (InPhase p) w = answered (if p.dx then heard_dx p w else heard_rx p w)
receiving_by (Waiting v) w = if ltb 3 v.left then refused 4 0 else answered (waited v w)

abbrev pub receiving : Receiver → ℕ → Answer Heard
receiving r w = receiving_by r.hearing w

-- each case of the answer, by 01's number and the value beside it; and the receiver handed back: "A refusal prints and
-- sends nothing .. and hands back the same station."  R-136, R-138, R-167
abbrev pub said_received : Result Heard BadReceiver → Answer Heard
said_received (Ok h) = answered h
said_received (Err e) = refused 4 0

abbrev pub handed_back : Result Heard BadReceiver → Receiver
handed_back (Ok h) = h.receiver
handed_back (Err e) = e.0

abbrev pub receiver_after : Receiver → Answer Heard → Receiver
receiver_after r (answered h) = h.receiver
receiver_after r (refused n v) = r

-- The promise of `receive`.  R-168
abbrev pub Receives : Receiver → ℕ → Result Heard BadReceiver → Type 0
Receives r w a = (said_received a ≡ receiving r w) × (handed_back a ≡ receiver_after r (receiving r w))

-- The end of reception once more, sentence by sentence, of a receiver in phase that has heard α in the last DX slot and hears α in
-- this one: whatever the three words behind it are. That it holds is `reception_ends` (proofs/EndLaws.antt).
--     at_the_end   nothing is printed at the second α
--     waiting      "hear three more signals after the second α and settle the waiting position in the ordinary way": by the word
--                  that was kept as its DX (`second`) and the first of the three as its RX                          R-122, R-123
--     second       the second of the three prints nothing,                                                          R-122
--     third        nor does the third
--     anew         "the receiver searches anew": as a fresh one, so none of these words counts for the search        R-124
abbrev pub printed_in : Answer Heard → Option ℕ
printed_in (answered h) = h.printed
printed_in (refused n v) = None

abbrev pub printed_by : Receiver → ℕ → Option ℕ
printed_by r w = printed_in (receiving r w)

abbrev pub after_word : Receiver → ℕ → Receiver
after_word r w = receiver_after r (receiving r w)

pub record Ends (p : Phase) (u v w : ℕ) : Type 0 where
  pub at_the_end : printed_by (record { hearing = InPhase p }) alpha ≡ None
  pub waiting : printed_by (after_word (record { hearing = InPhase p }) alpha) u ≡ printed_of p.printing (settled p.second u)
  pub second : printed_by (after_word (after_word (record { hearing = InPhase p }) alpha) u) v ≡ None
  pub third : printed_by (after_word (after_word (after_word (record { hearing = InPhase p }) alpha) u) v) w ≡ None
  pub anew : after_word (after_word (after_word (after_word (record { hearing = InPhase p }) alpha) u) v) w ≡ fresh_receiver
