-- What is printed: the text of an accepted block, and nothing else (01, Receiving; 02, T-05: "never goes to the printer").
--     prints_exactly   of every step of every station
-- Assumes nothing.
use mathlib.Core.Path.{◌≡◌, refl, ap, sym, ◌∙◌}
use mathlib.Core.Bool.{Bool, true, false, true≢false}
use borrow.Author.Tests.{eqb-true}
use Rattle.std.specs.Prelude.{if◌then◌else◌}
use Rattle.signals.specs.Numbers.{answered}
use Rattle.mode_a.specs.declared.Role.{Role}
use Rattle.mode_a.specs.declared.Own.{Own}
use Rattle.mode_a.specs.declared.Words.{Words}
use Rattle.mode_a.specs.declared.Peer.TheVariants.{Known}
use Rattle.mode_a.specs.declared.Place.{Place}
use Rattle.mode_a.specs.declared.Place.TheVariants.{Sending, Turning, Opening, Ending, Receiving, Asking, StandBy, Lost, Calling, Calling3, Identifying, Answering}
use Rattle.mode_a.specs.declared.Offer.{Offer}
use Rattle.mode_a.specs.declared.Station.{Station}
use Rattle.mode_a.specs.declared.Doing.{Doing}
use Rattle.mode_a.specs.declared.Doing.TheVariants.{Repeats, Goes, Takes, Receives, Opens, Accepts, Rests, Answers, Listens, Reaches, Answers3, Bars, Ends, Turns, Meets, Again, Yields}
use Rattle.mode_a.specs.declared.Reply.{Reply}
use Rattle.mode_a.specs.Station.{silence}
use Rattle.mode_a.specs.Heard.{Heard, heard_of}
use Rattle.mode_a.specs.Over.{listened_all}
use Rattle.mode_a.specs.Rows.{row_of}
use Rattle.mode_a.specs.Step.{knowing, traffic_in, is_over, done}
use Rattle.runs.specs.Places.{place_no, is_receiving}
use Rattle.runs.specs.Runs.{Event, said, accepting}
use Rattle.runs.proofs.RowLaws.{by_sending, by_turning, by_opening, by_ending, by_receiving, by_asking, by_standing, by_calling, by_calling3, by_identifying, by_answering}
use Rattle.runs.proofs.StepLaws.{answers, by_repeat, by_again, by_meet, by_take, by_accept, by_listen}
use Rattle.identification.specs.Telling.{prints_nothing, PrintsAlone}

abbrev is_accepts : Doing → Bool
is_accepts (Repeats w) = false
is_accepts (Goes p w) = false
is_accepts (Takes n) = false
is_accepts (Receives n) = false
is_accepts Opens = false
is_accepts (Accepts n) = true
is_accepts (Rests n w) = false
is_accepts Answers = false
is_accepts (Listens w) = false
is_accepts (Reaches p n) = false
is_accepts Answers3 = false
is_accepts (Bars i) = false
is_accepts (Ends i) = false
is_accepts (Turns i) = false
is_accepts (Meets i) = false
is_accepts (Again p w) = false
is_accepts (Yields n) = false

-- a row accepts exactly where Receiving hears a block
Is : Bool → Doing → Type 0
Is t d = is_accepts d ≡ t

accepts_by_row : (own : Own) (r : Role) (p : Place) (h : Heard) → is_accepts (row_of own r p h) ≡ accepting p h
unfolding Is
accepts_by_row own r (Sending x) h = by_sending (Is false) x h.first (λ c. refl) (λ c. refl) (λ c. refl) (λ c. refl)
accepts_by_row own r (Turning n) h = by_turning (Is false) r n h refl refl refl
accepts_by_row own r Opening h = by_opening (Is false) r h.first (λ n. refl) refl refl
accepts_by_row own r (Ending x) h = by_ending (Is false) x h.first refl (λ l. refl)
accepts_by_row own r (Receiving n) h = by_receiving (Is h.block) n h (λ y. sym y) (λ y. sym y) (λ y. sym y)
accepts_by_row own r Asking h = by_asking (Is false) h refl refl
accepts_by_row own r (StandBy w) h = by_standing (Is false) w h.call h.call3 (λ y. refl) (λ y z. refl) (λ y z. refl)
accepts_by_row own r Lost h = refl
accepts_by_row own r (Calling c) h = by_calling (Is false) c h.first (λ n f m. refl) refl (λ l. refl)
accepts_by_row own r (Calling3 c) h = by_calling3 (Is false) own.seven c h.first (λ e. refl) (λ e. refl) refl (λ l. refl)
accepts_by_row own r (Identifying i) h =
    by_identifying (Is false) own.seven i h.first (λ e. refl) (λ e l. refl) (λ w e l m n. refl) (λ w e l m. refl) (λ e l. refl) (λ e l. refl) (λ e l. refl)
accepts_by_row own r (Answering g) h = by_answering (Is false) own.seven g h refl (λ l. refl) (λ l x w. refl) (λ x w. refl)

printed_by_lem : (s : Station) (b : Words) (o : Offer) (d : Doing) → (done s b o d).printed ≡ (if is_accepts d then traffic_in b else silence)
unfolding done
printed_by_lem s b o (Repeats w) = by_repeat (λ (r : Reply). r.printed ≡ silence) s w (λ u. refl) (λ u. refl)
printed_by_lem s b o (Goes p w) = refl
printed_by_lem s b o (Takes n) = by_take (λ (r : Reply). r.printed ≡ silence) s n o (λ v w t. refl) refl
printed_by_lem s b o (Receives n) = refl
printed_by_lem s b o Opens = refl
printed_by_lem s b o (Accepts n) = by_accept (λ (r : Reply). r.printed ≡ traffic_in b) s n b o (listened_all s.case s.plus b) (λ v u. refl) refl
printed_by_lem s b o (Rests n w) = refl
printed_by_lem s b o Answers = refl
printed_by_lem s b o (Listens w) = by_listen (λ (r : Reply). r.printed ≡ silence) s w o (λ i e z. refl) (λ i e z. refl) refl
printed_by_lem s b o (Reaches p n) = by_take (λ (r : Reply). r.printed ≡ silence) (knowing s p) n o (λ v w t. refl) refl
printed_by_lem s b o Answers3 = refl
printed_by_lem s b o (Bars i) = refl
printed_by_lem s b o (Ends i) = refl
printed_by_lem s b o (Turns i) = refl
printed_by_lem s b o (Meets i) = by_meet (λ (r : Reply). r.printed ≡ silence) (knowing s (Known i)) (is_over o) refl refl
printed_by_lem s b o (Again p w) = by_again (λ (r : Reply). r.printed ≡ silence) s p w (λ u. refl) (λ u. refl)
printed_by_lem s b o (Yields n) = refl

module _ (s : Station) (e : Event) (r : Reply) (answer : said s e ≡ answered r) where
  text_alone : r.printed ≡ (if accepting s.place (heard_of s.own e.burst) then traffic_in e.burst else silence)
  text_alone =
      ap (λ (r : Reply). r.printed) (answers s e.burst e.offer r answer).is_done ∙ printed_by_lem s e.burst e.offer _ ∙ ap (λ (t : Bool). if t then traffic_in e.burst else silence) (accepts_by_row s.own s.role s.place (heard_of s.own e.burst))

  -- none of these places is Receiving
  not_receiving : (p : Place) → prints_nothing p ≡ true → is_receiving p ≡ false
  not_receiving p t = go (is_receiving p) refl
    where
      go : (u : Bool) → is_receiving p ≡ u → u ≡ false
      go true u = absurd (true≢false (sym t ∙ rw (eqb-true (place_no p) 4 u)))
      go false u = refl

  pub prints_exactly : PrintsAlone s e r
  prints_exactly = record { accepted_alone = text_alone; nothing_there = λ t. text_alone ∙ rw (not_receiving s.place t) }
