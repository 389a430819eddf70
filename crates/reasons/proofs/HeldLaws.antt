-- What the definition tests is so as 01's rows have it: where a test passes, its reason holds.
--     heads             what the place alone tells: it is silent; it has called long enough; its row names what is heard
--     times_out_lem     the 32nd repetition
--     judged_holds      the words that the place reads
--     otherwise_holds   what is neither bad nor RQ
-- Assumes nothing.
use mathlib.Core.Path.{◌≡◌, refl, ap, ◌∙◌}
use mathlib.Core.Bool.{Bool, true, false, not, ◌&&◌, ◌||◌, and-eq-true_iff}
use Prim.Native.Nat.{ℕ}
use lib.Dec.{eqb, leb, ltb}
use lib.ListN.{length}
use borrow.Author.Tests.{ltb-true, leb-true, eqb-true, eqb-false, not-true, not-false}
use Rattle.std.specs.Prelude.{if◌then◌else◌}
use Rattle.signals.specs.Units.{intact_of}
use Rattle.signals.specs.Numbers.{first_not}
use Rattle.identity.specs.Sums.{check_sum1, check_sum2, check_sum3}
use Rattle.mode_a.specs.declared.Role.{Role}
use Rattle.mode_a.specs.declared.Role.TheVariants.{Master, Slave}
use Rattle.mode_a.specs.declared.Number.TheVariants.{One, Two}
use Rattle.mode_a.specs.declared.Stage.{Stage}
use Rattle.mode_a.specs.declared.Words.{Words}
use Rattle.mode_a.specs.declared.Waiting.{Waiting}
use Rattle.mode_a.specs.declared.Place.{Place}
use Rattle.mode_a.specs.declared.Place.TheVariants.{Sending, Turning, Opening, Ending, Receiving, Asking, StandBy, Lost, Calling, Calling3, Identifying, Answering}
use Rattle.mode_a.specs.declared.Offer.{Offer}
use Rattle.mode_a.specs.declared.Station.{Station}
use Rattle.mode_a.specs.declared.Doing.{Doing}
use Rattle.mode_a.specs.declared.Doing.TheVariants.{Repeats, Goes, Takes, Receives, Opens, Accepts, Rests, Answers, Listens, Reaches, Answers3, Bars, Ends, Turns, Meets, Again, Yields}
use Rattle.mode_a.specs.Identification.{Told, nothing_told, block_1, block_2, block_3}
use Rattle.mode_a.specs.Station.{silence, βαβ, ααα, RQ×3, other, same, marks}
use Rattle.mode_a.specs.Heard.{First, Cs, Cs3, Rq, Else, Cs4, Cs5, Letter, Other, heard_of}
use Rattle.mode_a.specs.Over.{listened_all}
use Rattle.mode_a.specs.Rows.{turn_completed, both_heard, all_heard, calling, calling3, is_last, row_of}
use Rattle.mode_a.specs.Step.{is_over}
use Rattle.reasons.specs.declared.Reason.{Reason}
use Rattle.reasons.specs.Reasons.{heard_by, row_at, is_placed, silent_at, is_repetition, times_out, calls_on_at, calls3_on_at, runs_out, Named, named, not_named, sending_names, if_cs3, opening_names, ending_names, calling_names, calling3_names, comparing_names, finishing_names, identifying_names, telling_names, named_at, reads, not_rq, judged, is_accepted, otherwise}
use Rattle.reasons.specs.Conditions.{first_heard, Expects, first_sum, second_sum, third_sum, Awaits, first_block, second_block, third_block, Before, first_again, second_again, third_again, Holds, rank, silent_lost, silent_standing_by, time_out, time_out_identifying, run_out, run_out_3, called, called_3, call_offered, own_number, other_number, other_number_ending, either, either_calling, cs1, cs3_sending, cs3_turning, cs3_opening, cs3_calling, cs3_calling_3, cs3_identifying, cs4, cs5, rq_master, rq_slave, rq_answering, turn, alphas, alphas_answering, right_sum_lem, wrong_sum_lem, block_awaited, block_before, bad, repeat, unexpected, over_heard, who_are_you_lem, over_offered, accepted}
use Rattle.reasons.proofs.JudgedLaws.{found_earliest}
use Rattle.reasons.proofs.TestLaws.{by_test, never, same_words, same_is, other_is, is_rq_lem, is_four}
use Rattle.reasons.proofs.RowLaws.{accepts_at, accepts_not}

module _ (s : Station) (b : Words) (o : Offer) where
  -- a reason that the row names holds, and stands where 02's list has what the row names
  abbrev pub NameHolds : Named → Type 0
  NameHolds (named q) = (rank q ≡ 3) × Holds s b o q
  NameHolds not_named = Unit {0}

  pub times_out_lem : times_out s b ≡ true → Holds s b o Reason.TimeOut
  unfolding times_out
  times_out_lem = go (row_at s b) (leb 31 s.count) refl refl
    where
      go : (d : Doing) (t : Bool) → row_at s b ≡ d → leb 31 s.count ≡ t → is_repetition d && t ≡ true → Holds s b o Reason.TimeOut
      go (Repeats w) t e l h = time_out w e (leb-true 31 s.count (l ∙ h))
      go (Goes p w) t e l h = never h
      go (Takes n) t e l h = never h
      go (Receives n) t e l h = never h
      go Opens t e l h = never h
      go (Accepts n) t e l h = never h
      go (Rests n w) t e l h = never h
      go Answers t e l h = never h
      go (Listens w) t e l h = never h
      go (Reaches p n) t e l h = never h
      go Answers3 t e l h = never h
      go (Bars i) t e l h = never h
      go (Ends i) t e l h = never h
      go (Turns i) t e l h = never h
      go (Meets i) t e l h = never h
      go (Again p w) t e l h = time_out_identifying p w e (leb-true 31 s.count (l ∙ h))
      go (Yields n) t e l h = never h

  pub judged_holds : (r : Reason) → Holds s b o r → Holds s b o (judged (reads s.role s.place b) r)
  judged_holds r h =
      let ws = reads s.role s.place b in
      by_test (Holds s b o) (ltb (first_not intact_of ws) (length ws)) (λ t. bad _ _ (found_earliest intact_of ws (ltb-true _ _ t)))
      (λ t. by_test (Holds s b o) (ltb (first_not not_rq ws) (length ws)) (λ t. repeat _ _ (found_earliest not_rq ws (ltb-true _ _ t))) (λ t. h))

  pub otherwise_holds : Holds s b o (otherwise s b o)
  otherwise_holds =
      by_test (Holds s b o) (not (is_accepted s.place (heard_by s b)))
      (λ t. unexpected (accepts_not s.own s.role s.place (heard_by s b) (not-true _ t)))
      (λ t.
      let a = accepts_at s.own s.role s.place (heard_by s b) (not-false _ t) in
      let l = listened_all s.case s.plus b in
      by_test (Holds s b o) l.over (over_heard a.0 a.1)
      (λ _. by_test (Holds s b o) l.asked (who_are_you_lem a.0 a.1)
      (λ _. by_test (Holds s b o) (is_over o) (over_offered a.0 a.1) (λ _. accepted a.0 a.1))))

  -- a whole burst
  heard_RQs : (heard_by s b).RQs ≡ true → b ≡ RQ×3
  unfolding heard_of
  heard_RQs = same_words b RQ×3

  heard_alphas : (heard_by s b).alphas ≡ true → b ≡ ααα
  unfolding heard_of
  heard_alphas = same_words b ααα

  heard_turned : (heard_by s b).turned ≡ true → b ≡ βαβ
  unfolding heard_of
  heard_turned = same_words b βαβ

  abbrev pub Heads : Place → Type 0
  Heads p =
      (silent_at p (heard_by s b) s.other o ≡ true → Holds s b o Reason.Silent)
      × (runs_out p (first_heard s b) ≡ true → Holds s b o Reason.RunOut)
      × NameHolds (named_at s.role p (heard_by s b) s.other o)

  pub heads : (p : Place) → s.place ≡ p → Heads p
  heads (Sending x) at = (never, never, go (first_heard s b) refl)
    where
      go : (f : First) → first_heard s b ≡ f → NameHolds (sending_names x.number f)
      go (Cs m) e =
          by_test (λ q. NameHolds (named q)) (same m x.number) (λ t. (refl, own_number x at (e ∙ ap Cs (same_is m x.number t))))
          (λ t. (refl, other_number x at (e ∙ ap Cs (other_is m x.number t))))
      go Cs3 e = (refl, cs3_sending x at e)
      go Rq e = tt
      go (Else y) e = tt
  heads (Turning n) at =
      (never, never, by_test NameHolds (turn_completed s.role (heard_by s b)) (λ t. (refl, completed s.role refl t)) (λ t. go (first_heard s b) refl))
    where
      completed : (r : Role) → s.role ≡ r → turn_completed r (heard_by s b) ≡ true → Holds s b o Reason.Rq
      completed Master e t = rq_master n at e (heard_RQs t)
      completed Slave e t = rq_slave n at e (is_rq_lem (first_heard s b) t)

      go : (f : First) → first_heard s b ≡ f → NameHolds (if_cs3 f)
      go (Cs m) e = tt
      go Cs3 e = (refl, cs3_turning n at e)
      go Rq e = tt
      go (Else y) e = tt
  heads Opening at = (never, never, go (first_heard s b) refl)
    where
      go : (f : First) → first_heard s b ≡ f → NameHolds (opening_names f)
      go (Cs m) e = (refl, either m at e)
      go Cs3 e = (refl, cs3_opening at e)
      go Rq e = tt
      go (Else y) e = tt
  heads (Ending x) at = (never, never, go (first_heard s b) refl)
    where
      go : (f : First) → first_heard s b ≡ f → NameHolds (ending_names x.number f)
      go (Cs m) e = by_test NameHolds (same m x.number) (λ t. tt) (λ t. (refl, other_number_ending x at (e ∙ ap Cs (other_is m x.number t))))
      go Cs3 e = tt
      go Rq e = tt
      go (Else y) e = tt
  heads (Receiving n) at = (never, never, by_test NameHolds (heard_by s b).alphas (λ t. (refl, alphas n at (heard_alphas t))) (λ t. tt))
  heads Asking at = (never, never, by_test NameHolds (heard_by s b).turned (λ t. (refl, turn at (heard_turned t))) (λ t. tt))
  heads (StandBy w) at =
      go (both_heard w.heard (heard_by s b).call) (all_heard w.heard3 (heard_by s b).call3) (is_placed w s.other o) refl _ (ap (λ p. row_of s.own s.role p (heard_by s b)) at)
    where
      go : (t u p : Bool) → is_placed w s.other o ≡ p → (v : Waiting) → row_at s b ≡ (if t then Answers else if u then Answers3 else Listens v) → (not ((t || u) || p) ≡ true → Holds s b o Reason.Silent) × (false ≡ true → Holds s b o Reason.RunOut) × NameHolds (if t || u then named Reason.Called else if p then named Reason.CallOffered else not_named)
      go true u p f v e = (never, never, (refl, called e))
      go false true p f v e = (never, never, (refl, called_3 e))
      go false false true f v e = (never, never, (refl, call_offered w v at e f))
      go false false false f v e = (λ t. silent_standing_by w v at e f, never, tt)
  heads Lost at = (λ t. silent_lost at, never, tt)
  heads (Calling c) at = (never, λ t. given_up ((and-eq-true_iff _ _).0 t), go (first_heard s b) refl)
    where
      rests : (f : First) → leb 128 c.sent ≡ true → calls_on_at c f ≡ true → calling c f ≡ Rests 128 silence
      rests (Cs n) l t = rw (not-true (marks c.last n) t, l)
      rests Cs3 l t = refl
      rests Rq l t = rw l
      rests (Else x) l t = rw l

      given_up : (leb 128 c.sent ≡ true) × (calls_on_at c (first_heard s b) ≡ true) → Holds s b o Reason.RunOut
      given_up t = run_out c at (leb-true 128 c.sent t.0) (rw at (rests (first_heard s b) t.0 t.1)) (λ z. never (rw z at t.1))

      go : (f : First) → first_heard s b ≡ f → NameHolds (calling_names f)
      go (Cs m) e = (refl, either_calling m c at e)
      go Cs3 e = (refl, cs3_calling c at e)
      go Rq e = tt
      go (Else y) e = tt
  heads (Calling3 c) at = (never, λ t. given_up ((and-eq-true_iff _ _).0 t), go (first_heard s b) refl)
    where
      barred : (f : First) → leb 128 c.sent ≡ true → calls3_on_at f ≡ true → calling3 s.own.seven c f ≡ Bars c.to
      barred (Cs n) l t = rw l
      barred Cs3 l t = refl
      barred Rq l t = rw l
      barred (Else Cs4) l t = never t
      barred (Else Cs5) l t = never t
      barred (Else (Letter w)) l t = rw l
      barred (Else Other) l t = rw l

      given_up : (leb 128 c.sent ≡ true) × (calls3_on_at (first_heard s b) ≡ true) → Holds s b o Reason.RunOut
      given_up t = run_out_3 c at (leb-true 128 c.sent t.0) (rw at (barred (first_heard s b) t.0 t.1)) (λ z. never (rw z at t.1))

      go : (f : First) → first_heard s b ≡ f → NameHolds (calling3_names f)
      go (Cs m) e = tt
      go Cs3 e = (refl, cs3_calling_3 c at e)
      go Rq e = tt
      go (Else Cs4) e = (refl, cs4 c at e)
      go (Else Cs5) e = (refl, cs5 c at e)
      go (Else (Letter w)) e = tt
      go (Else Other) e = tt
  heads (Identifying i) at = (never, never, go i.stage refl)
    where
      compares : (e : ℕ) → Expects i.to i.stage e → (f : First) → first_heard s b ≡ f → NameHolds (comparing_names e f)
      compares e x (Cs m) h = tt
      compares e x Cs3 h = tt
      compares e x Rq h = tt
      compares e x (Else Cs4) h = tt
      compares e x (Else Cs5) h = tt
      compares e x (Else (Letter w)) h =
          by_test (λ q. NameHolds (named q)) (eqb w e) (λ t. (refl, right_sum_lem i e at x (h ∙ ap (λ n. Else (Letter n)) (eqb-true w e t))))
          (λ t. (refl, wrong_sum_lem i e w at x h (eqb-false w e t)))
      compares e x (Else Other) h = tt

      finishes : i.stage ≡ Stage.Four → (f : First) → first_heard s b ≡ f → NameHolds (finishing_names f)
      finishes x (Cs One) h = (refl, cs1 i at x h)
      finishes x (Cs Two) h = tt
      finishes x Cs3 h = (refl, cs3_identifying i at x h)
      finishes x Rq h = tt
      finishes x (Else y) h = tt

      go : (g : Stage) → i.stage ≡ g → NameHolds (identifying_names i g (first_heard s b))
      go Stage.One x = compares (check_sum1 i.to) (rw x first_sum) (first_heard s b) refl
      go Stage.Two x = compares (check_sum2 i.to) (rw x second_sum) (first_heard s b) refl
      go Stage.Three x = compares (check_sum3 i.to) (rw x third_sum) (first_heard s b) refl
      go Stage.Four x = finishes x (first_heard s b) refl
  heads (Answering g) at = (
    never,
    never,
    by_test NameHolds (heard_by s b).alphas (λ t. (refl, alphas_answering g at (heard_alphas t)))
        (λ _. by_test NameHolds ((heard_by s b).RQs && is_last g.stage) (λ t. (refl, met ((and-eq-true_iff _ _).0 t))) (λ _. go g.stage (heard_by s b).told refl refl)),
  )
    where
      met : ((heard_by s b).RQs ≡ true) × (is_last g.stage ≡ true) → Holds s b o Reason.Rq
      met t = rq_answering g at (is_four g.stage t.1) (heard_RQs t.0)

      awaited : {k : Stage} {t : Told} → g.stage ≡ k → (heard_by s b).told ≡ t → Awaits k t → NameHolds (named Reason.Told)
      awaited x y a = (refl, block_awaited g at (rw (x, y) a))

      before : {k : Stage} {t : Told} → g.stage ≡ k → (heard_by s b).told ≡ t → Before k t → NameHolds (named Reason.ToldAgain)
      before x y a = (refl, block_before g at (rw (x, y) a))

      go : (k : Stage) (t : Told) → g.stage ≡ k → (heard_by s b).told ≡ t → NameHolds (telling_names k t)
      go Stage.One nothing_told x y = tt
      go Stage.One (block_1 a b) x y = awaited x y (first_block a b)
      go Stage.One (block_2 a b) x y = tt
      go Stage.One (block_3 a b c) x y = tt
      go Stage.Two nothing_told x y = tt
      go Stage.Two (block_1 a b) x y = before x y (first_again a b)
      go Stage.Two (block_2 a b) x y = awaited x y (second_block a b)
      go Stage.Two (block_3 a b c) x y = tt
      go Stage.Three nothing_told x y = tt
      go Stage.Three (block_1 a b) x y = tt
      go Stage.Three (block_2 a b) x y = before x y (second_again a b)
      go Stage.Three (block_3 a b c) x y = awaited x y (third_block a b c)
      go Stage.Four nothing_told x y = tt
      go Stage.Four (block_1 a b) x y = tt
      go Stage.Four (block_2 a b) x y = tt
      go Stage.Four (block_3 a b c) x y = before x y (third_again a b c)
