-- Identifying and Answering (02, T-05): the answer is the one that the reason has.
-- Assumes nothing.
use mathlib.Core.Path.{◌≡◌, refl, ap, sym, subst, ◌∙◌}
use mathlib.Core.Bool.{Bool, true, false, ◌&&◌, true≢false}
use Prim.Native.Nat.{ℕ, ◌+◌, ◌<◌}
use native.Mathlib.Omega.{arith}
use lib.Dec.{eqb, leb}
use borrow.Author.Tests.{leb-true, leb-false, eqb-true, eqb-false}
use Rattle.std.specs.Prelude.{if◌then◌else◌}
use Rattle.signals.specs.Meaning.{rq, cs1, cs4}
use Rattle.identity.specs.declared.Seven.{Seven}
use Rattle.identity.specs.Sums.{same_seven}
use Rattle.mode_a.specs.declared.Number.TheVariants.{One, Two}
use Rattle.mode_a.specs.declared.Stage.{Stage}
use Rattle.mode_a.specs.declared.Words.{Words}
use Rattle.mode_a.specs.declared.Identified.{Identified}
use Rattle.mode_a.specs.declared.Gathered.{Gathered}
use Rattle.mode_a.specs.declared.Place.TheVariants.{Ending, Identifying, Answering}
use Rattle.mode_a.specs.declared.Offer.{Offer}
use Rattle.mode_a.specs.declared.Station.{Station}
use Rattle.mode_a.specs.declared.Doing.{Doing}
use Rattle.mode_a.specs.declared.Doing.TheVariants.{Goes, Rests, Meets, Again}
use Rattle.mode_a.specs.Identification.{Told, nothing_told, block_1, block_2, block_3, identity_block}
use Rattle.mode_a.specs.Station.{single, silence, ααα}
use Rattle.mode_a.specs.Heard.{First, Cs, Cs3, Rq, Else, Cs4, Cs5, Letter, Other, further_of, first_of, heard_of}
use Rattle.mode_a.specs.Rows.{same_block, right_sum, wrong_sum, comparing, finishing, hearing, is_last}
use Rattle.mode_a.specs.Step.{done}
use Rattle.mode_a.proofs.HeardLaws.{Says, first_says, first_else, SaysFurther, further_says}
use Rattle.runs.proofs.StepLaws.{placed}
use Rattle.runs.specs.Runs.{next_stage}
use Rattle.reasons.specs.declared.Reason.{Reason}
use Rattle.reasons.specs.Reasons.{heard_by, times_out, named, not_named, comparing_names, finishing_names, telling_names, reason_of}
use Rattle.reasons.specs.Conditions.{first_heard}
use Rattle.one_answer.specs.Answers.{sum_at, sum_before, gathered, cs1_identifying, cs3_identifying, right_sum_lem, wrong_sum_again, wrong_sum_ends, wrong_sum_rests, told, told_again, rq_answering, alphas_answering, from_identifying, from_answering, at_identifying, at_answering, at_answering_on}
use Rattle.one_answer.proofs.Ties.{Tie, Tied, repeated_so, asked_so}

-- the letter that is read from a first word is that word
letter_is : (v w : ℕ) → first_of v ≡ Else (Letter w) → v ≡ w
letter_is v w e =
    let says = subst (Says v) e (first_says v) in
    let same : Else (further_of v) ≡ Else (Letter w) = sym (first_else v says.0 says.1 says.2 says.3) ∙ e in
    let further : further_of v ≡ Letter w = cc in
    (subst (SaysFurther v) further (further_says v)).0

abbrev is_first : Stage → Bool
is_first Stage.One = true
is_first Stage.Two = false
is_first Stage.Three = false
is_first Stage.Four = false

module _ (s : Station) (b : Words) (o : Offer) where
  module _ (i : Identified) where
    abbrev told_by_lem : Station
    told_by_lem = placed s (Identifying i)

    -- the stage's block again, the check-sum that is heard being counted as wrong
    abbrev wrong_again : Doing
    wrong_again =
        Again (Identifying (record { to = i.to; stage = i.stage; wrong = i.wrong + 1; last = b.0 })) (identity_block s.own.seven i.stage)

    wrong_tied : Tied told_by_lem b o (wrong_sum s.own.seven i b.0) (named Reason.WrongSum)
    unfolding done
    wrong_tied = go (leb 1 i.wrong) (eqb b.0 i.last) (leb 4 i.wrong) refl refl refl
      where
        once_more : (0 < i.wrong → i.last ≡ b.0 → ⊥) → leb 4 i.wrong ≡ false → Tied told_by_lem b o wrong_again (named Reason.WrongSum)
        once_more n r = repeated_so _ b o _ _ Reason.WrongSum (from_identifying i) (wrong_sum_again i refl n (leb-false 4 i.wrong r))

        go : (t u v : Bool) → leb 1 i.wrong ≡ t → eqb b.0 i.last ≡ u → leb 4 i.wrong ≡ v → Tied told_by_lem b o (if t && u then Goes (Ending (record { number = Two; total = 1 })) ααα else if v then Rests 0 silence else wrong_again) (named Reason.WrongSum)
        go true true v p q r = wrong_sum_ends i refl (leb-true 1 i.wrong p) (sym (eqb-true b.0 i.last q))
        go true false true p q r =
            wrong_sum_rests i refl (λ e. eqb-false b.0 i.last q (sym e)) (λ l. omega (arith, leb-true 4 i.wrong r))
        go true false false p q r = once_more (λ l e. eqb-false b.0 i.last q (sym e)) r
        go false u true p q r = absurd (omega (arith, leb-true 4 i.wrong r, leb-false 1 i.wrong p))
        go false u false p q r = once_more (λ l e. absurd (omega (arith, leb-false 1 i.wrong p))) r

    same_tied : Tied told_by_lem b o (same_block s.own.seven i) not_named
    same_tied = asked_so told_by_lem b o (identity_block s.own.seven i.stage) refl (from_identifying i) (at_identifying i refl)

    -- a check-sum is compared with the one expected
    compare_tied : (e : ℕ) → Tied told_by_lem b o (comparing s.own.seven i e (next_stage i.stage) (first_heard s b)) (comparing_names e (first_heard s b))
    unfolding done heard_of
    compare_tied e = go (first_heard s b) refl
      where
        by_sum : (t : Bool) → Tied told_by_lem b o (if t then right_sum s.own.seven i (next_stage i.stage) else wrong_sum s.own.seven i b.0) (named (if t then Reason.RightSum else Reason.WrongSum))
        by_sum true = right_sum_lem i refl
        by_sum false = wrong_tied

        go : (f : First) → first_heard s b ≡ f → Tied told_by_lem b o (comparing s.own.seven i e (next_stage i.stage) f) (comparing_names e f)
        go (Cs n) h = same_tied
        go Cs3 h = same_tied
        go Rq h = same_tied
        go (Else Cs4) h = same_tied
        go (Else Cs5) h = same_tied
        go (Else (Letter w)) h = rw (← (letter_is b.0 w h)) (by_sum (eqb b.0 e))
        go (Else Other) h = same_tied

    finish_tied : (f : First) → Tied told_by_lem b o (finishing s.own.seven i f) (finishing_names f)
    unfolding done
    finish_tied (Cs One) = cs1_identifying i refl
    finish_tied (Cs Two) = same_tied
    finish_tied Cs3 = cs3_identifying i refl
    finish_tied Rq = same_tied
    finish_tied (Else x) = same_tied

  pub identifying_tied : (i : Identified) → Tie (placed s (Identifying i)) b o
  unfolding reason_of times_out
  identifying_tied i = go i.stage
    where
      go : (t : Stage) → Tie (placed s (Identifying (record { to = i.to; stage = t; wrong = i.wrong; last = i.last }))) b o
      go Stage.One = compare_tied _ _
      go Stage.Two = compare_tied _ _
      go Stage.Three = compare_tied _ _
      go Stage.Four = finish_tied _ (first_heard s b)

  module _ (got : Seven) where
    abbrev gathering : Stage → Station
    gathering t = placed s (Answering (record { stage = t; got = got }))

    -- the block that is awaited, and the one before it, with what is then gathered
    on_tied : (t : Stage) (x : Told) → (heard_by s b).told ≡ x → Tied (gathering t) b o (Goes (Answering (record { stage = next_stage t; got = gathered got x })) (single (sum_at s.own.seven t))) (named Reason.Told)
    unfolding done
    on_tied t x e = rw (← e) (told _ refl)

    again_tied : (t : Stage) (x : Told) → (heard_by s b).told ≡ x → Tied (gathering t) b o (Again (Answering (record { stage = t; got = gathered got x })) (single (if same_seven got (gathered got x) then sum_before s.own.seven t else rq))) (named Reason.ToldAgain)
    unfolding done
    again_tied t x e = rw (← e) (repeated_so (gathering t) b o _ _ Reason.ToldAgain (from_answering _) (told_again _ refl))

    rq_tied : (t : Stage) → is_first t ≡ false → Tied (gathering t) b o (Again (Answering (record { stage = t; got = got })) (single rq)) not_named
    rq_tied t n = asked_so (gathering t) b o (single rq) refl (from_answering _) (at_answering_on _ refl (λ e. true≢false (sym (ap is_first e) ∙ n)))

    cs4_tied : Tied (gathering Stage.One) b o (Again (Answering (record { stage = Stage.One; got = got })) (single cs4)) not_named
    cs4_tied = asked_so (gathering Stage.One) b o (single cs4) refl (from_answering _) (at_answering _ refl refl)

    hearing_tied : (t : Stage) (x : Told) → (heard_by s b).told ≡ x → Tied (gathering t) b o (hearing s.own.seven got t x) (telling_names t x)
    hearing_tied Stage.One nothing_told e = cs4_tied
    hearing_tied Stage.One (block_1 x y) e = on_tied Stage.One _ e
    hearing_tied Stage.One (block_2 x y) e = cs4_tied
    hearing_tied Stage.One (block_3 x y z) e = cs4_tied
    hearing_tied Stage.Two nothing_told e = rq_tied Stage.Two refl
    hearing_tied Stage.Two (block_1 x y) e = again_tied Stage.Two _ e
    hearing_tied Stage.Two (block_2 x y) e = on_tied Stage.Two _ e
    hearing_tied Stage.Two (block_3 x y z) e = rq_tied Stage.Two refl
    hearing_tied Stage.Three nothing_told e = rq_tied Stage.Three refl
    hearing_tied Stage.Three (block_1 x y) e = rq_tied Stage.Three refl
    hearing_tied Stage.Three (block_2 x y) e = again_tied Stage.Three _ e
    hearing_tied Stage.Three (block_3 x y z) e = on_tied Stage.Three _ e
    hearing_tied Stage.Four nothing_told e = rq_tied Stage.Four refl
    hearing_tied Stage.Four (block_1 x y) e = rq_tied Stage.Four refl
    hearing_tied Stage.Four (block_2 x y) e = rq_tied Stage.Four refl
    hearing_tied Stage.Four (block_3 x y z) e = again_tied Stage.Four _ e

  pub answering_tied : (g : Gathered) → Tie (placed s (Answering g)) b o
  unfolding reason_of times_out done
  answering_tied g = go (heard_by s b).alphas ((heard_by s b).RQs && is_last g.stage)
    where
      go : (t u : Bool) → Tied (placed s (Answering g)) b o (if t then Rests 0 (single cs1) else if u then Meets g.got else hearing s.own.seven g.got g.stage (heard_by s b).told) (if t then named Reason.Alphas else if u then named Reason.Rq else telling_names g.stage (heard_by s b).told)
      go true u = alphas_answering g refl
      go false true = rq_answering g refl
      go false false = hearing_tied g.got g.stage (heard_by s b).told refl
