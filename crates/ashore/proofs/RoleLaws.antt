-- A station without an identity hears no call; where none is offered to it, it keeps its role. Assumes nothing.
use mathlib.Core.Path.{◌≡◌, refl, ap, sym, subst, ◌∙◌}
use mathlib.Core.Bool.{false, true≢false, false≢true}
use Rattle.signals.specs.Numbers.{answered}
use Rattle.identity.specs.Table3.{is_identity}
use Rattle.identity.specs.Sums.{is_callable7}
use Rattle.mode_a.specs.declared.Role.{Role}
use Rattle.mode_a.specs.declared.Mark.{Mark}
use Rattle.mode_a.specs.declared.Words.{Words}
use Rattle.mode_a.specs.declared.Own.{Own}
use Rattle.mode_a.specs.declared.Peer.TheVariants.{Known}
use Rattle.mode_a.specs.declared.Place.{Place}
use Rattle.mode_a.specs.declared.Place.TheVariants.{Sending, Turning, Opening, Ending, Receiving, Asking, StandBy, Lost, Calling, Calling3, Identifying, Answering}
use Rattle.mode_a.specs.declared.Offer.{Offer}
use Rattle.mode_a.specs.declared.Station.{Station}
use Rattle.mode_a.specs.declared.Doing.{Doing}
use Rattle.mode_a.specs.declared.Doing.TheVariants.{Repeats, Goes, Takes, Receives, Opens, Accepts, Rests, Answers, Listens, Reaches, Answers3, Bars, Ends, Turns, Meets, Again, Yields}
use Rattle.mode_a.specs.declared.Reply.{Reply}
use Rattle.mode_a.specs.Calls.{is_callable}
use Rattle.mode_a.specs.Station.{no_identity}
use Rattle.mode_a.specs.Heard.{first_of, call_of, call3_of, heard_of}
use Rattle.mode_a.specs.Over.{listened_all}
use Rattle.mode_a.specs.Rows.{row_of, both_heard}
use Rattle.mode_a.specs.Step.{knowing, is_over, done, stepping}
use Rattle.runs.specs.Runs.{is_call}
use Rattle.runs.proofs.RowLaws.{by_sending, by_turning, by_opening, by_ending, by_receiving, by_asking, by_standing, by_calling, by_calling3, by_identifying, by_answering}
use Rattle.runs.proofs.StepLaws.{answers, by_repeat, by_take, by_accept, by_listen, by_again, by_meet}

-- a row that answers no call
abbrev Plain : Doing → Type 0
Plain (Repeats w) = Unit {0}
Plain (Goes p w) = Unit {0}
Plain (Takes n) = Unit {0}
Plain (Receives n) = Unit {0}
Plain Opens = Unit {0}
Plain (Accepts n) = Unit {0}
Plain (Rests n w) = Unit {0}
Plain Answers = ⊥
Plain (Listens w) = Unit {0}
Plain (Reaches p n) = Unit {0}
Plain Answers3 = ⊥
Plain (Bars i) = Unit {0}
Plain (Ends i) = Unit {0}
Plain (Turns i) = Unit {0}
Plain (Meets i) = Unit {0}
Plain (Again p w) = Unit {0}
Plain (Yields n) = Unit {0}

never_both : (m : Mark) → both_heard m Mark.None ≡ false
never_both Mark.None = refl
never_both Mark.One = refl
never_both Mark.Two = refl

row_plain : (r : Role) (x : Place) (b : Words) → Plain (row_of no_identity r x (heard_of no_identity b))
unfolding heard_of call_of call3_of is_callable is_callable7 is_identity
row_plain r (Sending h) b = by_sending Plain h (first_of b.0) (λ c. tt) (λ c. tt) (λ c. tt) (λ c. tt)
row_plain r (Turning n) b = by_turning Plain r n (heard_of no_identity b) tt tt tt
row_plain r Opening b = by_opening Plain r (first_of b.0) (λ n. tt) tt tt
row_plain r (Ending e) b = by_ending Plain e (first_of b.0) tt (λ i. tt)
row_plain r (Receiving n) b = by_receiving Plain n (heard_of no_identity b) (λ c. tt) (λ c. tt) (λ c. tt)
row_plain r Asking b = by_asking Plain (heard_of no_identity b) tt tt
row_plain r (StandBy w) b =
    by_standing Plain w (call_of no_identity.four b) (call3_of no_identity.seven b) (λ c. true≢false (sym c ∙ never_both w.heard)) (λ c d. false≢true d) (λ c d. tt)
row_plain r Lost b = tt
row_plain r (Calling c) b = by_calling Plain c (first_of b.0) (λ n e i. tt) tt (λ i. tt)
row_plain r (Calling3 c) b = by_calling3 Plain no_identity.seven c (first_of b.0) (λ e. tt) (λ e. tt) tt (λ e. tt)
row_plain r (Identifying i) b =
    by_identifying Plain no_identity.seven i (first_of b.0) (λ w. tt) (λ w l. tt) (λ v e w l k. tt) (λ v e w l. tt) (λ w l. tt) (λ e l. tt) (λ e l. tt)
row_plain r (Answering g) b = by_answering Plain no_identity.seven g (heard_of no_identity b) tt (λ l. tt) (λ l g' w. tt) (λ g' w. tt)

abbrev SameRole : Station → Reply → Type 0
SameRole s r = r.station.role ≡ s.role

role_kept : (s : Station) (b : Words) (o : Offer) (d : Doing) → Plain d → is_call o ≡ false → SameRole s (done s b o d)
unfolding done
role_kept s b o (Repeats w) y n = by_repeat (SameRole s) s w (λ t. refl) (λ t. refl)
role_kept s b o (Goes p w) y n = refl
role_kept s b o (Takes m) y n = by_take (SameRole s) s m o (λ u w t. refl) refl
role_kept s b o (Receives m) y n = refl
role_kept s b o Opens y n = refl
role_kept s b o (Accepts m) y n = by_accept (SameRole s) s m b o (listened_all s.case s.plus b) (λ w u. refl) refl
role_kept s b o (Rests m w) y n = refl
role_kept s b o Answers y n = absurd y
role_kept s b o (Listens w) y n =
    by_listen (SameRole s) s w o (λ i e z. absurd (true≢false (sym (ap is_call e) ∙ n))) (λ i e z. absurd (true≢false (sym (ap is_call e) ∙ n))) refl
role_kept s b o (Reaches p m) y n = by_take (SameRole s) (knowing s p) m o (λ u w t. refl) refl
role_kept s b o Answers3 y n = absurd y
role_kept s b o (Bars i) y n = refl
role_kept s b o (Ends i) y n = refl
role_kept s b o (Turns i) y n = refl
role_kept s b o (Meets i) y n = by_meet (SameRole s) (knowing s (Known i)) (is_over o) refl refl
role_kept s b o (Again p w) y n = by_again (SameRole s) s p w (λ t. refl) (λ t. refl)
role_kept s b o (Yields m) y n = refl

pub role_stays : (s : Station) (b : Words) (o : Offer) (r : Reply) → stepping s b o ≡ answered r → s.own ≡ no_identity → is_call o ≡ false → r.station.role ≡ s.role
role_stays s b o r e i n =
    ap (λ (r : Reply). r.station.role) (answers s b o r e).is_done
    ∙ role_kept s b o _ (subst (λ (own : Own). Plain (row_of own s.role s.place (heard_of own b))) (sym i) (row_plain s.role s.place b)) n
