-- The reason for the answer of a station that stands at a place is that of the place: one law a place, over the row. Assumes nothing.
use mathlib.Core.Path.{◌≡◌, refl}
use mathlib.Core.Bool.{Bool, true, false, not, ◌&&◌, ◌||◌}
use Prim.Native.Nat.{ℕ}
use lib.Dec.{eqb, leb}
use Rattle.std.specs.Prelude.{if◌then◌else◌}
use Rattle.signals.specs.Meaning.{cs1, cs3}
use Rattle.identity.specs.declared.Seven.{Seven}
use Rattle.identity.specs.Sums.{check_sum1, check_sum2, check_sum3}
use Rattle.mode_a.specs.declared.Role.{Role}
use Rattle.mode_a.specs.declared.Role.TheVariants.{Master, Slave}
use Rattle.mode_a.specs.declared.Number.{Number}
use Rattle.mode_a.specs.declared.Number.TheVariants.{One, Two}
use Rattle.mode_a.specs.declared.Stage.{Stage}
use Rattle.mode_a.specs.declared.Words.{Words}
use Rattle.mode_a.specs.declared.Held.{Held}
use Rattle.mode_a.specs.declared.Ended.{Ended}
use Rattle.mode_a.specs.declared.Waiting.{Waiting}
use Rattle.mode_a.specs.declared.Called.{Called}
use Rattle.mode_a.specs.declared.Called3.{Called3}
use Rattle.mode_a.specs.declared.Identified.{Identified}
use Rattle.mode_a.specs.declared.Gathered.{Gathered}
use Rattle.mode_a.specs.declared.Place.{Place}
use Rattle.mode_a.specs.declared.Place.TheVariants.{Sending, Turning, Opening, Ending, Receiving, Asking, StandBy, Lost, Calling, Calling3, Identifying, Answering}
use Rattle.mode_a.specs.declared.Offer.{Offer}
use Rattle.mode_a.specs.declared.Station.{Station}
use Rattle.mode_a.specs.declared.Doing.{Doing}
use Rattle.mode_a.specs.declared.Doing.TheVariants.{Repeats, Goes, Takes, Receives, Opens, Accepts, Rests, Answers, Listens, Answers3, Meets, Again}
use Rattle.mode_a.specs.Identification.{Told, nothing_told, block_1, block_2, block_3, told_in}
use Rattle.mode_a.specs.Station.{single, silence, βαβ, ααα, RQ×3, no_seven, other, same, asks_for, marks, list_of}
use Rattle.mode_a.specs.Heard.{First, Cs, Cs3, Rq, Else, Cs4, Cs5, Letter, Other, heard_of, first_of, is_block, is_words, call_of, call3_of}
use Rattle.mode_a.specs.Over.{listened_all}
use Rattle.mode_a.specs.Rows.{sending, is_rq, turning_else, turning, opening, ending, both_heard, all_heard, heard_then, calling, calling3, comparing, finishing, at_stage, hearing, is_last}
use Rattle.mode_a.specs.Step.{is_over}
use Rattle.reasons.specs.declared.Reason.{Reason}
use Rattle.reasons.specs.Reasons.{Named, named, not_named, is_placed, is_repetition, times_out, calls_on_at, calls3_on_at, sending_names, if_cs3, turning_names, opening_names, ending_names, calling_names, calling3_names, comparing_names, finishing_names, identifying_names, telling_names, turning_reads, judged, accepted_for, by_name, reason_of}
use Rattle.naming.proofs.JudgeLaws.{block_judged}
use Rattle.naming.specs.Places.{signal_of, timed, judged_one, judged_all, sending_by, of_sending, turning_by, of_turning, opening_by, of_opening, ending_by, of_ending, of_receiving, of_asking, of_stand_by, sent_out, calling_by, of_calling, calling3_by, of_calling3, comparing_by, finishing_by, identifying_by, of_identifying, telling_by, of_answering}

-- the reason where the row repeats or not, and names or does not
abbrev given : Bool → Bool → Named → Reason → Reason
given again late n rest = if again && late then Reason.TimeOut else by_name n rest

-- rows that never repeat
either_way : (t : Bool) (d e : Doing) → is_repetition d ≡ false → is_repetition e ≡ false → is_repetition (if t then d else e) ≡ false
either_way true d e p q = p
either_way false d e p q = q

ending_never : (h : Ended) (f : First) → is_repetition (ending h f) ≡ false
ending_never h (Cs m) = either_way (same m h.number) _ _ (either_way (leb 4 h.total) _ _ refl refl) refl
ending_never h Cs3 = either_way (leb 4 h.total) _ _ refl refl
ending_never h Rq = either_way (leb 4 h.total) _ _ refl refl
ending_never h (Else x) = either_way (leb 4 h.total) _ _ refl refl

calling_never : (c : Called) (f : First) → is_repetition (calling c f) ≡ false
calling_never c (Cs n) = either_way (marks c.last n) _ _ refl (either_way (leb 128 c.sent) _ _ refl refl)
calling_never c Cs3 = refl
calling_never c Rq = either_way (leb 128 c.sent) _ _ refl refl
calling_never c (Else x) = either_way (leb 128 c.sent) _ _ refl refl

calling_3_never : (y : Seven) (c : Called3) (f : First) → is_repetition (calling3 y c f) ≡ false
calling_3_never y c (Cs n) = either_way (leb 128 c.sent) _ _ refl refl
calling_3_never y c Cs3 = refl
calling_3_never y c Rq = either_way (leb 128 c.sent) _ _ refl refl
calling_3_never y c (Else Cs4) = refl
calling_3_never y c (Else Cs5) = refl
calling_3_never y c (Else (Letter w)) = either_way (leb 128 c.sent) _ _ refl refl
calling_3_never y c (Else Other) = either_way (leb 128 c.sent) _ _ refl refl

-- u is whether 128 call bursts were sent, t whether the call goes on
runs_out_lem : (u t : Bool) (r : Reason) → (if u && t then Reason.RunOut else r) ≡ (if t then if u then Reason.RunOut else r else r)
runs_out_lem true t r = refl
runs_out_lem false true r = refl
runs_out_lem false false r = refl

-- a block repeats at a stage or does not, whichever the identities are
repeats_alike : (y g : Seven) (s : Stage) (t : Told) → is_repetition (hearing y g s t) ≡ is_repetition (hearing no_seven no_seven s t)
repeats_alike y g Stage.One nothing_told = refl
repeats_alike y g Stage.One (block_1 a b) = refl
repeats_alike y g Stage.One (block_2 a b) = refl
repeats_alike y g Stage.One (block_3 a b c) = refl
repeats_alike y g Stage.Two nothing_told = refl
repeats_alike y g Stage.Two (block_1 a b) = refl
repeats_alike y g Stage.Two (block_2 a b) = refl
repeats_alike y g Stage.Two (block_3 a b c) = refl
repeats_alike y g Stage.Three nothing_told = refl
repeats_alike y g Stage.Three (block_1 a b) = refl
repeats_alike y g Stage.Three (block_2 a b) = refl
repeats_alike y g Stage.Three (block_3 a b c) = refl
repeats_alike y g Stage.Four nothing_told = refl
repeats_alike y g Stage.Four (block_1 a b) = refl
repeats_alike y g Stage.Four (block_2 a b) = refl
repeats_alike y g Stage.Four (block_3 a b c) = refl

module _ (s : Station) (b : Words) (o : Offer) where
  pub at_sending_lem : (h : Held) → s.place ≡ Sending h → reason_of s b o ≡ of_sending h.number (leb 31 s.count) b.0
  unfolding reason_of times_out heard_of of_sending judged_one
  at_sending_lem h e = rw e (go (leb 31 s.count) (first_of b.0))
    where
      by_number : (l t : Bool) → given (is_repetition (if t then Repeats h.block else Takes (other h.number))) l (named (if t then Reason.Own else Reason.Other)) (judged_one b.0) ≡ (if t then timed l Reason.Own else Reason.Other)
      by_number l true = refl
      by_number l false = refl

      go : (l : Bool) (f : First) → given (is_repetition (sending h f)) l (sending_names h.number f) (judged_one b.0) ≡ sending_by h.number l b.0 (signal_of f)
      go l (Cs m) = by_number l (same m h.number)
      go l Cs3 = refl
      go l Rq = refl
      go l (Else x) = refl

  pub at_turning : (n : Number) → s.place ≡ Turning n → reason_of s b o ≡ of_turning s.role (leb 31 s.count) b
  unfolding reason_of times_out heard_of of_turning judged_one judged_all
  at_turning n e = rw e (go s.role)
    where
      -- t is whether the turn is completed
      by_turn : (l t : Bool) (f : First) (r : Reason) → given (is_repetition (if t then Receives (other n) else turning_else f)) l (if t then named Reason.Rq else if_cs3 f) r ≡ (if t then Reason.Rq else turning_by l r (signal_of f))
      by_turn l true f r = refl
      by_turn l false (Cs m) r = refl
      by_turn l false Cs3 r = refl
      by_turn l false Rq r = refl
      by_turn l false (Else x) r = refl

      go : (r : Role) → given (is_repetition (turning r n (heard_of s.own b))) (leb 31 s.count) (turning_names r (heard_of s.own b)) (judged (turning_reads r b) Reason.Unexpected) ≡ of_turning r (leb 31 s.count) b
      go Master = by_turn (leb 31 s.count) (is_words b RQ×3) (first_of b.0) (judged_all b)
      go Slave = by_turn (leb 31 s.count) (is_rq (first_of b.0)) (first_of b.0) (judged_one b.0)

  pub at_opening : s.place ≡ Opening → reason_of s b o ≡ of_opening (leb 31 s.count) b.0
  unfolding reason_of times_out heard_of of_opening judged_one
  at_opening e = rw e (go (leb 31 s.count) (first_of b.0))
    where
      go : (l : Bool) (f : First) → given (is_repetition (opening s.role f)) l (opening_names f) (judged_one b.0) ≡ opening_by l b.0 (signal_of f)
      go l (Cs m) = refl
      go l Cs3 = refl
      go l Rq = refl
      go l (Else x) = refl

  pub at_ending_lem : (h : Ended) → s.place ≡ Ending h → reason_of s b o ≡ of_ending h.number b.0
  unfolding reason_of times_out heard_of of_ending judged_one
  at_ending_lem h e = rw (e, ending_never h (first_of b.0)) (go (first_of b.0))
    where
      by_number : (t : Bool) → by_name (if t then not_named else named Reason.Other) (judged_one b.0) ≡ (if t then judged_one b.0 else Reason.Other)
      by_number true = refl
      by_number false = refl

      go : (f : First) → by_name (ending_names h.number f) (judged_one b.0) ≡ ending_by h.number b.0 (signal_of f)
      go (Cs m) = by_number (same m h.number)
      go Cs3 = refl
      go Rq = refl
      go (Else x) = refl

  pub at_receiving : (n : Number) → s.place ≡ Receiving n → reason_of s b o ≡ of_receiving (leb 31 s.count) s.case s.plus b (is_over o)
  unfolding reason_of times_out heard_of of_receiving judged_all
  at_receiving n e = rw e (go (leb 31 s.count) (is_block b) (is_words b ααα) (accepted_for (listened_all s.case s.plus b) (is_over o)) (block_judged b _))
    where
      -- k is whether the burst is a block, α whether it is ααα
      go : (l k α : Bool) (r : Reason) → (k ≡ true → judged (list_of b) r ≡ r) → given (is_repetition (if k then Accepts n else if α then Rests 0 (asks_for (other n)) else Repeats (asks_for n))) l (if α then named Reason.Alphas else not_named) (judged (list_of b) (if not k then Reason.Unexpected else r)) ≡ (if α then Reason.Alphas else if k then r else timed l (judged_all b))
      go l true true r j = refl
      go l true false r j = j refl
      go l false true r j = refl
      go l false false r j = refl

  pub at_asking : s.place ≡ Asking → reason_of s b o ≡ of_asking (leb 31 s.count) b
  unfolding reason_of times_out heard_of of_asking judged_all
  at_asking e = rw e (go (leb 31 s.count) (is_words b βαβ))
    where
      go : (l t : Bool) → given (is_repetition (if t then Opens else Repeats (single cs3))) l (if t then named Reason.Turn else not_named) (judged_all b) ≡ (if t then Reason.Turn else timed l (judged_all b))
      go l true = refl
      go l false = refl

  pub at_stand_by_lem : (w : Waiting) → s.place ≡ StandBy w → reason_of s b o ≡ of_stand_by w s.own.four s.own.seven s.other b o
  unfolding reason_of times_out heard_of of_stand_by
  at_stand_by_lem w e = rw e (go (leb 31 s.count) (both_heard w.heard (call_of s.own.four b)) (all_heard w.heard3 (call3_of s.own.seven b)) (is_placed w s.other o) (record { wait = w.wait; heard = call_of s.own.four b; heard3 = heard_then w.heard3 (call3_of s.own.seven b) }) _)
    where
      -- t and u are whether the blocks of a call were heard, of four signals and of seven; p is whether a call is placed
      go : (l t u p : Bool) (v : Waiting) (r : Reason) → (if not ((t || u) || p) then Reason.Silent else given (is_repetition (if t then Answers else if u then Answers3 else Listens v)) l (if t || u then named Reason.Called else if p then named Reason.CallOffered else not_named) r) ≡ (if t || u then Reason.Called else if p then Reason.CallOffered else Reason.Silent)
      go l true u p v r = refl
      go l false true p v r = refl
      go l false false true v r = refl
      go l false false false v r = refl

  pub at_lost : s.place ≡ Lost → reason_of s b o ≡ Reason.Silent
  unfolding reason_of
  at_lost e = rw e

  pub at_calling_lem : (c : Called) → s.place ≡ Calling c → reason_of s b o ≡ of_calling c.last c.sent b.0
  unfolding reason_of times_out heard_of of_calling judged_one
  at_calling_lem c e = rw (e, calling_never c (first_of b.0), runs_out_lem (leb 128 c.sent) (calls_on_at c (first_of b.0))) (go (first_of b.0))
    where
      by_mark_lem : (t : Bool) → (if not t then sent_out c.sent Reason.Either else Reason.Either) ≡ (if t then Reason.Either else sent_out c.sent Reason.Either)
      by_mark_lem true = refl
      by_mark_lem false = refl

      go : (f : First) → (if calls_on_at c f then sent_out c.sent (by_name (calling_names f) (judged_one b.0)) else by_name (calling_names f) (judged_one b.0)) ≡ calling_by c.last c.sent b.0 (signal_of f)
      go (Cs n) = by_mark_lem (marks c.last n)
      go Cs3 = refl
      go Rq = refl
      go (Else x) = refl

  pub at_calling_3 : (c : Called3) → s.place ≡ Calling3 c → reason_of s b o ≡ of_calling3 c.sent b.0
  unfolding reason_of times_out heard_of of_calling3 judged_one
  at_calling_3 c e = rw (e, calling_3_never s.own.seven c (first_of b.0), runs_out_lem (leb 128 c.sent) (calls3_on_at (first_of b.0))) (go (first_of b.0))
    where
      go : (f : First) → (if calls3_on_at f then sent_out c.sent (by_name (calling3_names f) (judged_one b.0)) else by_name (calling3_names f) (judged_one b.0)) ≡ calling3_by c.sent b.0 f
      go (Cs n) = refl
      go Cs3 = refl
      go Rq = refl
      go (Else Cs4) = refl
      go (Else Cs5) = refl
      go (Else (Letter w)) = refl
      go (Else Other) = refl

  pub at_identifying : (i : Identified) → s.place ≡ Identifying i → reason_of s b o ≡ of_identifying (leb 31 s.count) i b.0
  unfolding reason_of times_out heard_of of_identifying judged_one
  at_identifying i e = rw e (go (leb 31 s.count) (first_of b.0) i.stage)
    where
      -- t is whether the check-sum is the one expected, u whether it is the last wrong one again, v whether four wrong ones were counted;
      -- d, x, y and z are what is then done
      by_sum : (l t u v : Bool) (p q : Place) (x y : Words) → given (is_repetition (if t then Goes p x else if u then Goes (Ending (record { number = Two; total = 1 })) ααα else if v then Rests 0 silence else Again q y)) l (named (if t then Reason.RightSum else Reason.WrongSum)) (judged_one b.0) ≡ (if t then Reason.RightSum else if u || v then Reason.WrongSum else timed l Reason.WrongSum)
      by_sum l true u v p q x y = refl
      by_sum l false true v p q x y = refl
      by_sum l false false true p q x y = refl
      by_sum l false false false p q x y = refl

      compares : (l : Bool) (sum : ℕ) (n : Stage) (f : First) → given (is_repetition (comparing s.own.seven i sum n f)) l (comparing_names sum f) (judged_one b.0) ≡ comparing_by l i sum b.0 f
      compares l sum n (Cs m) = refl
      compares l sum n Cs3 = refl
      compares l sum n Rq = refl
      compares l sum n (Else Cs4) = refl
      compares l sum n (Else Cs5) = refl
      compares l sum n (Else (Letter w)) = by_sum l (eqb w sum) (leb 1 i.wrong && eqb w i.last) (leb 4 i.wrong) _ _ _ _
      compares l sum n (Else Other) = refl

      finishes : (l : Bool) (f : First) → given (is_repetition (finishing s.own.seven i f)) l (finishing_names f) (judged_one b.0) ≡ finishing_by l b.0 f
      finishes l (Cs One) = refl
      finishes l (Cs Two) = refl
      finishes l Cs3 = refl
      finishes l Rq = refl
      finishes l (Else x) = refl

      go : (l : Bool) (f : First) (n : Stage) → given (is_repetition (at_stage s.own.seven i f n)) l (identifying_names i n f) (judged_one b.0) ≡ identifying_by l i b.0 f n
      go l f Stage.One = compares l (check_sum1 i.to) Stage.Two f
      go l f Stage.Two = compares l (check_sum2 i.to) Stage.Three f
      go l f Stage.Three = compares l (check_sum3 i.to) Stage.Four f
      go l f Stage.Four = finishes l f

  pub at_answering : (g : Gathered) → s.place ≡ Answering g → reason_of s b o ≡ of_answering (leb 31 s.count) g.stage b
  unfolding reason_of times_out heard_of of_answering judged_all
  at_answering g e = rw e (go (leb 31 s.count) (is_words b ααα) (is_words b RQ×3 && is_last g.stage) (hearing s.own.seven g.got g.stage (told_in b)) (repeats_alike s.own.seven g.got g.stage (told_in b)))
    where
      -- α is whether the burst is ααα, t whether it is RQ RQ RQ at the fourth stage; d is what is else done
      go : (l α t : Bool) (d : Doing) → is_repetition d ≡ is_repetition (hearing no_seven no_seven g.stage (told_in b)) → given (is_repetition (if α then Rests 0 (single cs1) else if t then Meets g.got else d)) l (if α then named Reason.Alphas else if t then named Reason.Rq else telling_names g.stage (told_in b)) (judged_all b) ≡ (if α then Reason.Alphas else if t then Reason.Rq else telling_by l g.stage (told_in b) (judged_all b))
      go l true t d p = refl
      go l false true d p = refl
      go l false false d p = rw p
