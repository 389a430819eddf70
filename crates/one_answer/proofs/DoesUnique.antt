-- A reason leaves one answer: with the station, the burst and the offer, `Does` tells the reply in full.
--     one_answer_each   by two matches: a line meets the lines of its own reason alone. Those of another place, or with the test the other way,
--                       are excluded; where the place is the same, it carries the same, and the reply is the same
-- CS3, and what the row does not name, have lines at many places: their reply is told by the place first, so that no two lines need meet.
-- Assumes nothing.
use mathlib.Core.Path.{◌≡◌, refl, ap, sym, ◌∙◌}
use mathlib.Core.Bool.{true, false}
use Prim.Native.Nat.{ℕ, ◌+◌}
use native.Mathlib.Omega.{arith}
use lib.Dec.{ltb}
use borrow.Author.Tests.{lt-ltb, le-ltb}
use Rattle.std.specs.Prelude.{if◌then◌else◌}
use Rattle.laws.proofs.Unique.{unique}
use Rattle.signals.specs.Meaning.{rq, cs3, cs4}
use Rattle.mode_a.specs.declared.Stage.{Stage}
use Rattle.mode_a.specs.declared.Mark.{Mark}
use Rattle.mode_a.specs.declared.Words.{Words}
use Rattle.mode_a.specs.declared.Owed.{Owed}
use Rattle.mode_a.specs.declared.Peer.TheVariants.{Known, Barred}
use Rattle.mode_a.specs.declared.Place.{Place}
use Rattle.mode_a.specs.declared.Place.TheVariants.{Sending, Turning, Opening, Ending, Receiving, Asking, StandBy, Lost, Calling, Calling3, Identifying, Answering}
use Rattle.mode_a.specs.declared.Offer.{Offer}
use Rattle.mode_a.specs.declared.Station.{Station}
use Rattle.mode_a.specs.declared.Reply.{Reply}
use Rattle.mode_a.specs.Calls.{next_block, next_block3}
use Rattle.mode_a.specs.Identification.{identity_block}
use Rattle.mode_a.specs.Station.{single, silence, βαβ, ααα, RQ×3, asks_for}
use Rattle.mode_a.specs.Rows.{requests}
use Rattle.mode_a.specs.Step.{moved_to, sends, owing, rested, knowing, turns}
use Rattle.runs.specs.Places.{losing}
use Rattle.reasons.specs.declared.Reason.{Reason}
use Rattle.one_answer.specs.Answers.{staying, Asks, at_sending_lem, at_turning, at_opening, at_receiving, at_asking, at_identifying, at_answering, at_answering_on, Unnamed, asks_again, ends_again_lem, ends_at_last, calls_on_lem, calls_on_3, Loses, from_sending, from_turning, from_opening, from_receiving, from_asking, Leaves, from_identifying, from_answering, Does, silent_lost, silent_standing_by, time_out, time_out_identifying, run_out, run_out_3, is_called_lem, is_called_3, call_offered, call_offered_3, own_number, other_number, other_number_ending, either, either_calling, either_calls_on, cs1_identifying, cs3_sending, cs3_turning, cs3_opening, cs3_calling, cs3_calling_3, cs3_identifying, cs4_calling_3, cs5_calling_3, rq_turning, rq_answering, turn, alphas, alphas_answering, right_sum_lem, wrong_sum_again, wrong_sum_ends, wrong_sum_rests, told, told_again, bad, repeat, unexpected, over_heard, over_heard_asked, who_are_you_lem, over_offered, accepted, OneAnswerEach}

-- the reply to CS3 by the place; where `Does` has no line, any would do
abbrev cs3_at : Station → Place → Reply
cs3_at s (Sending h) = sends (moved_to (owing s Owed.Nothing) (Turning h.number)) βαβ
cs3_at s (Turning n) = sends (staying s) βαβ
cs3_at s Opening = sends (rested s 0) silence
cs3_at s (Ending e) = sends s silence
cs3_at s (Receiving n) = sends s silence
cs3_at s Asking = sends s silence
cs3_at s (StandBy w) = sends s silence
cs3_at s Lost = sends s silence
cs3_at s (Calling c) = sends (rested s 128) silence
cs3_at s (Calling3 c) = sends (rested (knowing s (Barred c.to)) 0) silence
cs3_at s (Identifying i) = turns (knowing s (Known i.to))
cs3_at s (Answering g) = sends s silence

-- the reply to what the row does not name, by the place, and at Answering by the stage; at Stand-by and Lost any would do
abbrev asked_at : Stage → ℕ
asked_at Stage.One = cs4
asked_at Stage.Two = rq
asked_at Stage.Three = rq
asked_at Stage.Four = rq

abbrev else_at : Station → Place → Reply
else_at s (Sending h) = sends (staying s) RQ×3
else_at s (Turning n) = sends (staying s) RQ×3
else_at s Opening = sends (staying s) (requests s.role)
else_at s (Ending e) =
    if ltb e.total 4 then sends (moved_to s (Ending (record { number = e.number; total = e.total + 1 }))) ααα
    else sends (rested s 0) silence
else_at s (Receiving n) = sends (staying s) (asks_for n)
else_at s Asking = sends (staying s) (single cs3)
else_at s (StandBy w) = sends s silence
else_at s Lost = sends s silence
else_at s (Calling c) =
    sends (moved_to s (Calling (record { to = c.to; sent = c.sent + 1; last = Mark.None }))) (next_block c.to c.sent)
else_at s (Calling3 c) = sends (moved_to s (Calling3 (record { to = c.to; sent = c.sent + 1 }))) (next_block3 c.to c.sent)
else_at s (Identifying i) = sends (staying s) (identity_block s.own.seven i.stage)
else_at s (Answering g) = sends (staying s) (single (asked_at g.stage))

asked_on : (t : Stage) → ¬ (t ≡ Stage.One) → rq ≡ asked_at t
asked_on Stage.One n = absurd (n refl)
asked_on Stage.Two n = refl
asked_on Stage.Three n = refl
asked_on Stage.Four n = refl

-- no place is among both kinds of a time-out
loses_is : {p : Place} → Loses p → losing p ≡ true
loses_is (from_sending h) = refl
loses_is (from_turning n) = refl
loses_is from_opening = refl
loses_is (from_receiving n) = refl
loses_is from_asking = refl

leaves_is : {p : Place} → Leaves p → losing p ≡ false
leaves_is (from_identifying i) = refl
leaves_is (from_answering g) = refl

module _ (s : Station) where
  asks_is : {w : Words} → Asks s w → sends (staying s) w ≡ else_at s s.place
  asks_is (at_sending_lem h e) = ap (else_at s) (sym e)
  asks_is (at_turning n e) = ap (else_at s) (sym e)
  asks_is (at_opening e) = ap (else_at s) (sym e)
  asks_is (at_receiving n e) = ap (else_at s) (sym e)
  asks_is (at_asking e) = ap (else_at s) (sym e)
  asks_is (at_identifying i e) = ap (else_at s) (sym e)
  asks_is (at_answering g e f) = ap (λ t. sends (staying s) (single (asked_at t))) (sym f) ∙ ap (else_at s) (sym e)
  asks_is (at_answering_on g e n) = ap (λ (v : ℕ). sends (staying s) (single v)) (asked_on g.stage n) ∙ ap (else_at s) (sym e)

  unnamed_is : {a : Reply} → Unnamed s a → a ≡ else_at s s.place
  unnamed_is (asks_again w x) = asks_is x
  unnamed_is (ends_again_lem x e l) = rw (e, lt-ltb x.total 4 l)
  unnamed_is (ends_at_last x e n) = rw (e, le-ltb x.total 4 (omega arith))
  unnamed_is (calls_on_lem c e) = ap (else_at s) (sym e)
  unnamed_is (calls_on_3 c e) = ap (else_at s) (sym e)

  one_unnamed : {a a' : Reply} → Unnamed s a → Unnamed s a' → a ≡ a'
  one_unnamed u v = unique (unnamed_is u) (unnamed_is v)

module _ (s : Station) (b : Words) (o : Offer) where
  cs3_is : {a : Reply} → Does s b o Reason.Cs3 a → a ≡ cs3_at s s.place
  cs3_is (cs3_sending h e) = ap (cs3_at s) (sym e)
  cs3_is (cs3_turning n e) = ap (cs3_at s) (sym e)
  cs3_is (cs3_opening e) = ap (cs3_at s) (sym e)
  cs3_is (cs3_calling c e) = ap (cs3_at s) (sym e)
  cs3_is (cs3_calling_3 c e) = ap (cs3_at s) (sym e)
  cs3_is (cs3_identifying i e) = ap (cs3_at s) (sym e)

  one : (r : Reason) {a a' : Reply} → Does s b o r a → Does s b o r a' → a ≡ a'
  one Reason.Silent (silent_lost e) (silent_lost e') = cc
  one Reason.Silent (silent_lost e) (silent_standing_by w' v' e' q') = cc
  one Reason.Silent (silent_standing_by w v e q) (silent_lost e') = cc
  one Reason.Silent (silent_standing_by w v e q) (silent_standing_by w' v' e' q') = cc
  one Reason.TimeOut (time_out l) (time_out l') = cc
  one Reason.TimeOut (time_out l) (time_out_identifying l') = cc (loses_is l, leaves_is l')
  one Reason.TimeOut (time_out_identifying l) (time_out l') = cc (loses_is l', leaves_is l)
  one Reason.TimeOut (time_out_identifying l) (time_out_identifying l') = cc
  one Reason.RunOut (run_out c e) (run_out c' e') = cc
  one Reason.RunOut (run_out c e) (run_out_3 c' e') = cc
  one Reason.RunOut (run_out_3 c e) (run_out c' e') = cc
  one Reason.RunOut (run_out_3 c e) (run_out_3 c' e') = cc
  one Reason.Called (is_called_lem e) (is_called_lem e') = cc
  one Reason.Called (is_called_lem e) (is_called_3 e') = cc
  one Reason.Called (is_called_3 e) (is_called_lem e') = cc
  one Reason.Called (is_called_3 e) (is_called_3 e') = cc
  one Reason.CallOffered (call_offered i e) (call_offered i' e') = cc
  one Reason.CallOffered (call_offered i e) (call_offered_3 i' e') = cc
  one Reason.CallOffered (call_offered_3 i e) (call_offered i' e') = cc
  one Reason.CallOffered (call_offered_3 i e) (call_offered_3 i' e') = cc
  one Reason.Own (own_number h e) (own_number h' e') = cc
  one Reason.Other (other_number h e) (other_number h' e') = cc
  one Reason.Other (other_number h e) (other_number_ending x' e') = cc
  one Reason.Other (other_number_ending x e) (other_number h' e') = cc
  one Reason.Other (other_number_ending x e) (other_number_ending x' e') = cc
  one Reason.Either (either n e q) (either n' e' q') = cc
  one Reason.Either (either n e q) (either_calling n' c' e' q' m') = cc
  one Reason.Either (either n e q) (either_calls_on n' c' e' q' m') = cc
  one Reason.Either (either_calling n c e q m) (either n' e' q') = cc
  one Reason.Either (either_calling n c e q m) (either_calling n' c' e' q' m') = cc
  one Reason.Either (either_calling n c e q m) (either_calls_on n' c' e' q' m') = cc
  one Reason.Either (either_calls_on n c e q m) (either n' e' q') = cc
  one Reason.Either (either_calls_on n c e q m) (either_calling n' c' e' q' m') = cc
  one Reason.Either (either_calls_on n c e q m) (either_calls_on n' c' e' q' m') = cc
  one Reason.Cs1 (cs1_identifying i e) (cs1_identifying i' e') = cc
  one Reason.Cs3 d d' = unique (cs3_is d) (cs3_is d')
  one Reason.Cs4 (cs4_calling_3 c e) (cs4_calling_3 c' e') = cc
  one Reason.Cs5 (cs5_calling_3 c e) (cs5_calling_3 c' e') = cc
  one Reason.Rq (rq_turning n e) (rq_turning n' e') = cc
  one Reason.Rq (rq_turning n e) (rq_answering g' e') = cc
  one Reason.Rq (rq_answering g e) (rq_turning n' e') = cc
  one Reason.Rq (rq_answering g e) (rq_answering g' e') = cc
  one Reason.Turn (turn e) (turn e') = cc
  one Reason.Alphas (alphas n e) (alphas n' e') = cc
  one Reason.Alphas (alphas n e) (alphas_answering g' e') = cc
  one Reason.Alphas (alphas_answering g e) (alphas n' e') = cc
  one Reason.Alphas (alphas_answering g e) (alphas_answering g' e') = cc
  one Reason.RightSum (right_sum_lem i e) (right_sum_lem i' e') = cc
  one Reason.WrongSum (wrong_sum_again i e n l) (wrong_sum_again i' e' n' l') = cc
  one Reason.WrongSum (wrong_sum_again i e n l) (wrong_sum_ends i' e' l' q') = let same : i ≡ i' = cc in absurd (n (rw same l') (rw same q'))
  one Reason.WrongSum (wrong_sum_again i e n l) (wrong_sum_rests i' e' n' m') = let same : i' ≡ i = cc in absurd (m' (rw same l))
  one Reason.WrongSum (wrong_sum_ends i e l q) (wrong_sum_again i' e' n' l') = let same : i' ≡ i = cc in absurd (n' (rw same l) (rw same q))
  one Reason.WrongSum (wrong_sum_ends i e l q) (wrong_sum_ends i' e' l' q') = cc
  one Reason.WrongSum (wrong_sum_ends i e l q) (wrong_sum_rests i' e' n' m') = absurd (n' (cc))
  one Reason.WrongSum (wrong_sum_rests i e n m) (wrong_sum_again i' e' n' l') = let same : i ≡ i' = cc in absurd (m (rw same l'))
  one Reason.WrongSum (wrong_sum_rests i e n m) (wrong_sum_ends i' e' l' q') = absurd (n (cc))
  one Reason.WrongSum (wrong_sum_rests i e n m) (wrong_sum_rests i' e' n' m') = cc
  one Reason.Told (told g e) (told g' e') = cc
  one Reason.ToldAgain (told_again g e) (told_again g' e') = cc
  one (Reason.Bad i w) (bad _ _ _ u) (bad _ _ _ u') = one_unnamed s u u'
  one (Reason.Repeat i) (repeat _ _ u) (repeat _ _ u') = one_unnamed s u u'
  one Reason.Unexpected (unexpected _ u) (unexpected _ u') = one_unnamed s u u'
  one Reason.OverHeard (over_heard n e q) (over_heard n' e' q') = cc
  one Reason.OverHeard (over_heard n e q) (over_heard_asked n' e' q') = cc
  one Reason.OverHeard (over_heard_asked n e q) (over_heard n' e' q') = cc
  one Reason.OverHeard (over_heard_asked n e q) (over_heard_asked n' e' q') = cc
  one Reason.WhoAreYou (who_are_you_lem n e) (who_are_you_lem n' e') = cc
  one Reason.OverOffered (over_offered n e) (over_offered n' e') = cc
  one Reason.Accepted (accepted n e) (accepted n' e') = cc

pub one_answer_each : OneAnswerEach
one_answer_each s b o r a a' d d' = one s b o r d d'
