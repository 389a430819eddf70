-- What is done is what the row says, by the table and its actions; the promise of the step at each answer. Assumes nothing.
use mathlib.Core.Path.{◌≡◌, refl, ap, sym, ◌∙◌}
use Rattle.std.specs.Prelude.{Ok, Err}
use Rattle.signals.specs.Numbers.{Answer, answered}
use Rattle.mode_a.specs.declared.Words.{Words}
use Rattle.mode_a.specs.declared.Offer.{Offer}
use Rattle.mode_a.specs.declared.Station.{Station}
use Rattle.mode_a.specs.declared.Reply.{Reply}
use Rattle.mode_a.specs.declared.Doing.{Doing}
use Rattle.mode_a.specs.declared.Refusal.{Refusal}
use Rattle.mode_a.specs.Heard.{heard_of}
use Rattle.mode_a.specs.Rows.{row_of}
use Rattle.mode_a.specs.Step.{done, said_refusal, stepping, station_after, Steps}
use Rattle.table.specs.declared.Kind.{Kind}
use Rattle.table.specs.declared.Action.{Action}
use Rattle.table.specs.Kinds.{kind_of}
use Rattle.table.specs.Actions.{action_of}
use Rattle.doings.specs.Doings.{doing_of}
use Rattle.doings.proofs.RowLaws.{rows_agree}
use Rattle.refusals.specs.Judging.{judging, Judges}
use Rattle.refusals.proofs.JudgedLaws.{unless_refused, refused_so, judged_first}

-- the burst's kind, the action at the place, what it does there, and the answer to that
pub done_by_row : (s : Station) (b : Words) (o : Offer) (k : Kind) → k ≡ kind_of b → (a : Action) → a ≡ action_of s.place k → (d : Doing) → d ≡ doing_of a s.role s.place s.own b → (r : Reply) → r ≡ done s b o d → r ≡ done s b o (row_of s.own s.role s.place (heard_of s.own b))
done_by_row s b o k ek a ea d ed r er =
    er
    ∙ ap (done s b o)
    (ed ∙ ap (λ (x : Action). doing_of x s.role s.place s.own b) (ea ∙ ap (action_of s.place) ek) ∙ rows_agree s.role s.place s.own b)

-- what is refused, and with it the same station; and the step done
module _ (s : Station) (b : Words) (o : Offer) where
  stepping_so : stepping s b o ≡ unless_refused (judging s o) (answered (done s b o (row_of s.own s.role s.place (heard_of s.own b))))
  unfolding stepping
  stepping_so = sym (judged_first s o (answered (done s b o (row_of s.own s.role s.place (heard_of s.own b)))))

  pub refused_lem : (e : Refusal) → Judges s o (Err e) → Steps s b o (Err (record { station = s; why = e }))
  refused_lem e j =
      let k : said_refusal e ≡ stepping s b o =
      sym (refused_so e (answered (done s b o (row_of s.own s.role s.place (heard_of s.own b)))))
      ∙ ap (λ (a : Answer (Unit {0})). unless_refused a (answered (done s b o (row_of s.own s.role s.place (heard_of s.own b))))) j
      ∙ sym stepping_so in
      (k, same_after e ∙ ap (station_after s) k)
    where
      same_after : (e : Refusal) → s ≡ station_after s (said_refusal e)
      same_after Refusal.BadStation = refl
      same_after Refusal.BadCode = refl
      same_after (Refusal.BadWord i) = refl
      same_after (Refusal.BadCall i) = refl

  pub step_done : (u : Unit {0}) → Judges s o (Ok u) → (r : Reply) → r ≡ done s b o (row_of s.own s.role s.place (heard_of s.own b)) → Steps s b o (Ok r)
  step_done u j r e =
      let k : answered r ≡ stepping s b o =
      ap answered e
      ∙ ap (λ (a : Answer (Unit {0})). unless_refused a (answered (done s b o (row_of s.own s.role s.place (heard_of s.own b))))) j
      ∙ sym stepping_so in
      (k, ap (station_after s) k)
