-- "Each is given exactly when its condition in 01's rows holds and none before it does" (02, T-08).  R-265
--     given_holds          the reason given holds: 02's list from the front, and what each test tells
--     given_first          every other that holds stands behind it: the conditions, a line each; a later one is past all that stand before it
--     each_given_exactly   so the reason given is the first that holds, and no other reason is
-- Assumes nothing.
use mathlib.Core.Path.{◌≡◌, refl, ap, sym}
use mathlib.Core.Bool.{true, not}
use mathlib.Core.Logic.{◌⊎◌, inl, inr}
use mathlib.Core.List.{List}
use Prim.Native.Nat.{ℕ, ◌<◌}
use native.Mathlib.Omega.{arith}
use lib.Dec.{ltb}
use lib.ListN.{length}
use borrow.Author.Tests.{not-false, lt-ltb, le-leb, eq-eqb, ne_eqb}
use Rattle.std.specs.Prelude.{if◌then◌else◌}
use Rattle.signals.specs.Units.{intact_of}
use Rattle.signals.specs.Numbers.{first_not}
use Rattle.mode_a.specs.declared.Words.{Words}
use Rattle.mode_a.specs.declared.Place.TheVariants.{StandBy}
use Rattle.mode_a.specs.declared.Offer.{Offer}
use Rattle.mode_a.specs.declared.Station.{Station}
use Rattle.mode_a.specs.declared.Doing.TheVariants.{Answers, Answers3}
use Rattle.mode_a.specs.declared.Listening.{Listening}
use Rattle.mode_a.specs.Over.{listened_all}
use Rattle.mode_a.specs.Step.{is_over}
use Rattle.reasons.specs.declared.Reason.{Reason}
use Rattle.reasons.specs.Reasons.{heard_by, silent_at, times_out, runs_out, Named, named, not_named, named_at, reads, not_rq, judged, is_accepted, accepted_for, otherwise, by_name, reason_of}
use Rattle.reasons.specs.Conditions.{first_heard, Holds, rank, EachGivenExactly, silent_lost, silent_standing_by, time_out, time_out_identifying, run_out, run_out_3, called, called_3, call_offered, own_number, other_number, other_number_ending, either, either_calling, cs1, cs3_sending, cs3_turning, cs3_opening, cs3_calling, cs3_calling_3, cs3_identifying, cs4, cs5, rq_master, rq_slave, rq_answering, turn, alphas, alphas_answering, right_sum_lem, wrong_sum_lem, block_awaited, block_before, bad, repeat, unexpected, over_heard, who_are_you_lem, over_offered, accepted}
use Rattle.reasons.proofs.TestLaws.{by_test, own_same, other_same}
use Rattle.reasons.proofs.JudgedLaws.{earliest_found}
use Rattle.reasons.proofs.RowLaws.{accepts_at, answers_at, uncalled}
use Rattle.reasons.proofs.HeldLaws.{NameHolds, heads, times_out_lem, judged_holds, otherwise_holds}
use Rattle.reasons.proofs.FirstLaws.{expects_names, awaits_names, before_names, goes_on, goes_on_3, whole_RQs, whole_alphas, whole_turned, RQs_no_alphas, not_completed, telling}

-- a reason q that holds beside the one that is given, r
abbrev Behind : Reason → Reason → Type 0
Behind q r = (q ≡ r) ⊎ (rank r < rank q)

-- neither stands behind the other
one_first : (q r : Reason) → Behind q r → Behind r q → q ≡ r
one_first q r (inl e) h = e
one_first q r (inr l) (inl e) = sym e
one_first q r (inr l) (inr k) = absurd (omega arith)

module _ (s : Station) (b : Words) (o : Offer) where
  -- 02's list from each part on, where none before it is given
  abbrev read : List ℕ
  read = reads s.role s.place b

  abbrev kept : Listening
  kept = listened_all s.case s.plus b

  abbrev from_offered : Reason
  from_offered = if is_over o then Reason.OverOffered else Reason.Accepted

  abbrev from_asked : Reason
  from_asked = if kept.asked then Reason.WhoAreYou else from_offered

  abbrev from_repeat : Reason
  from_repeat = if ltb (first_not not_rq read) (length read) then Reason.Repeat (first_not not_rq read) else otherwise s b o

  abbrev from_named : Reason
  from_named = by_name (named_at s.role s.place (heard_by s b) s.other o) (judged read (otherwise s b o))

  abbrev from_run_out : Reason
  from_run_out = if runs_out s.place (first_heard s b) then Reason.RunOut else from_named

  abbrev from_time_out : Reason
  from_time_out = if times_out s b then Reason.TimeOut else from_run_out

  pub given_holds : Holds s b o (reason_of s b o)
  unfolding reason_of
  given_holds =
      by_test (Holds s b o) (silent_at s.place (heard_by s b) s.other o) (heads s b o s.place refl).0
      (λ _. by_test (Holds s b o) (times_out s b) (times_out_lem s b o)
      (λ _. by_test (Holds s b o) (runs_out s.place (first_heard s b)) (heads s b o s.place refl).1
      (λ _. go (named_at s.role s.place (heard_by s b) s.other o) (heads s b o s.place refl).2)))
    where
      go : (n : Named) → NameHolds s b o n → Holds s b o (by_name n (judged read (otherwise s b o)))
      go (named q) h = h.1
      go not_named h = judged_holds s b o (otherwise s b o) (otherwise_holds s b o)

  module _ (q : Reason) where
    past_silent : 0 < rank q → Behind q from_time_out → Behind q (reason_of s b o)
    unfolding reason_of
    past_silent l h = by_test (Behind q) (silent_at s.place (heard_by s b) s.other o) (λ _. inr l) (λ _. h)

    past_time_out : 1 < rank q → Behind q from_run_out → Behind q (reason_of s b o)
    past_time_out l h = past_silent (omega arith) (by_test (Behind q) (times_out s b) (λ _. inr l) (λ _. h))

    past_run_out : 2 < rank q → Behind q from_named → Behind q (reason_of s b o)
    past_run_out l h = past_time_out (omega arith) (by_test (Behind q) (runs_out s.place (first_heard s b)) (λ _. inr l) (λ _. h))

    past_named : 3 < rank q → Behind q (judged read (otherwise s b o)) → Behind q (reason_of s b o)
    past_named l h = past_run_out (omega arith) (go (named_at s.role s.place (heard_by s b) s.other o) (heads s b o s.place refl).2)
      where
        go : (n : Named) → NameHolds s b o n → Behind q (by_name n (judged read (otherwise s b o)))
        go (named r) x = inr (omega (arith, x.0))
        go not_named x = h

    past_bad : 4 < rank q → Behind q from_repeat → Behind q (reason_of s b o)
    past_bad l h = past_named (omega arith) (by_test (Behind q) (ltb (first_not intact_of read) (length read)) (λ _. inr l) (λ _. h))

    past_repeat : 5 < rank q → Behind q (otherwise s b o) → Behind q (reason_of s b o)
    past_repeat l h = past_bad (omega arith) (by_test (Behind q) (ltb (first_not not_rq read) (length read)) (λ _. inr l) (λ _. h))

    past_unexpected : 6 < rank q → Behind q (accepted_for kept (is_over o)) → Behind q (reason_of s b o)
    past_unexpected l h = past_repeat (omega arith) (by_test (Behind q) (not (is_accepted s.place (heard_by s b))) (λ _. inr l) (λ _. h))

    past_over_heard : 7 < rank q → Behind q from_asked → Behind q (reason_of s b o)
    past_over_heard l h = past_unexpected (omega arith) (by_test (Behind q) kept.over (λ _. inr l) (λ _. h))

    past_who_are_you : 8 < rank q → Behind q from_offered → Behind q (reason_of s b o)
    past_who_are_you l h = past_over_heard (omega arith) (by_test (Behind q) kept.asked (λ _. inr l) (λ _. h))

  when_silent : silent_at s.place (heard_by s b) s.other o ≡ true → Behind Reason.Silent (reason_of s b o)
  unfolding reason_of
  when_silent e = rw e (inl refl)

  by_name_lem : {q : Reason} → rank q ≡ 3 → named_at s.role s.place (heard_by s b) s.other o ≡ named q → Behind q (reason_of s b o)
  by_name_lem {q} r e = past_run_out q (omega arith) (rw e (inl refl))

  pub given_first : (q : Reason) → Holds s b o q → (q ≡ reason_of s b o) ⊎ (rank (reason_of s b o) < rank q)
  unfolding times_out
  given_first q (silent_lost at) = when_silent (rw at)
  given_first q (silent_standing_by w v at e p) =
      when_silent (rw (at, uncalled s.own s.role (StandBy w) (heard_by s b) v (rw at at e), p))
  given_first q (time_out w e l) = past_silent q (omega arith) (rw (e, le-leb 31 s.count l) (inl refl))
  given_first q (time_out_identifying p w e l) = past_silent q (omega arith) (rw (e, le-leb 31 s.count l) (inl refl))
  given_first q (run_out c at l e n) =
      past_time_out q (omega arith) (rw (at, le-leb 128 c.sent l, goes_on c (first_heard s b) (rw at at e) n) (inl refl))
  given_first q (run_out_3 c at l e n) =
      past_time_out q (omega arith) (rw (at, le-leb 128 c.sent l, goes_on_3 s.own.seven c (first_heard s b) (rw at at e) n) (inl refl))
  given_first q (called e) = by_name_lem refl (answers_at s.own s.role s.place (heard_by s b) s.other o Answers refl e)
  given_first q (called_3 e) = by_name_lem refl (answers_at s.own s.role s.place (heard_by s b) s.other o Answers3 refl e)
  given_first q (call_offered w v at e p) =
      by_name_lem refl (rw (at, uncalled s.own s.role (StandBy w) (heard_by s b) v (rw at at e), p))
  given_first q (own_number h at f) = by_name_lem refl (rw (at, f, own_same h.number))
  given_first q (other_number h at f) = by_name_lem refl (rw (at, f, other_same h.number))
  given_first q (other_number_ending x at f) = by_name_lem refl (rw (at, f, other_same x.number))
  given_first q (either n at f) = by_name_lem refl (rw (at, f))
  given_first q (either_calling n c at f) = by_name_lem refl (rw (at, f))
  given_first q (cs1 i at k f) = by_name_lem refl (rw (at, k, f))
  given_first q (cs3_sending h at f) = by_name_lem refl (rw (at, f))
  given_first q (cs3_turning n at f) = by_name_lem refl (rw (at, not_completed s b f s.role, f))
  given_first q (cs3_opening at f) = by_name_lem refl (rw (at, f))
  given_first q (cs3_calling c at f) = by_name_lem refl (rw (at, f))
  given_first q (cs3_calling_3 c at f) = by_name_lem refl (rw (at, f))
  given_first q (cs3_identifying i at k f) = by_name_lem refl (rw (at, k, f))
  given_first q (cs4 c at f) = by_name_lem refl (rw (at, f))
  given_first q (cs5 c at f) = by_name_lem refl (rw (at, f))
  given_first q (rq_master n at r e) = by_name_lem refl (rw (at, r, whole_RQs s b e))
  given_first q (rq_slave n at r f) = by_name_lem refl (rw (at, r, f))
  given_first q (rq_answering g at k e) = by_name_lem refl (rw (at, RQs_no_alphas s b e, whole_RQs s b e, k))
  given_first q (turn at e) = by_name_lem refl (rw (at, whole_turned s b e))
  given_first q (alphas n at e) = by_name_lem refl (rw (at, whole_alphas s b e))
  given_first q (alphas_answering g at e) = by_name_lem refl (rw (at, whole_alphas s b e))
  given_first q (right_sum_lem i e at x f) = by_name_lem refl (rw (at, expects_names i x (first_heard s b), f, eq-eqb e e refl))
  given_first q (wrong_sum_lem i e w at x f n) = by_name_lem refl (rw (at, expects_names i x (first_heard s b), f, ne_eqb w e n))
  given_first q (block_awaited g at x) = by_name_lem refl (rw at (telling s b g q (awaits_names x)))
  given_first q (block_before g at x) = by_name_lem refl (rw at (telling s b g q (before_names x)))
  given_first q (bad i w e) =
      past_named q (omega arith)
      (rw (earliest_found intact_of read i w e, lt-ltb i (length read) e.within) (inl (ap (Reason.Bad i) (sym e.word))))
  given_first q (repeat i w e) =
      past_bad q (omega arith) (rw (earliest_found not_rq read i w e, lt-ltb i (length read) e.within) (inl refl))
  given_first q (unexpected n) =
      past_repeat q (omega arith)
      (by_test (Behind q) (not (is_accepted s.place (heard_by s b))) (λ _. inl refl)
      (λ t. let a = accepts_at s.own s.role s.place (heard_by s b) (not-false _ t) in absurd (n a.0 a.1)))
  given_first q (over_heard n e l) = past_unexpected q (omega arith) (rw l (inl refl))
  given_first q (who_are_you_lem n e l) = past_over_heard q (omega arith) (rw l (inl refl))
  given_first q (over_offered n e l) = past_who_are_you q (omega arith) (rw l (inl refl))
  given_first q (accepted n e) = past_who_are_you q (omega arith) (by_test (Behind q) (is_over o) (λ _. inr (omega arith)) (λ _. inl refl))

pub each_given_exactly : EachGivenExactly
each_given_exactly s b o =
    record {
      given = record { holds = given_holds s b o; none_before = given_first s b o };
      no_other = λ r h. one_first (reason_of s b o) r (h.none_before (reason_of s b o) (given_holds s b o)) (given_first s b o r h.holds);
    }
