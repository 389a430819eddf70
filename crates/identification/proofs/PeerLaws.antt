-- Who is at the other end, of every run from a station with nobody there (001, 3.6.19 and 3.7.1).
--     remembers   kept while the connection lasts, and forgotten at Stand-by
-- Assumes nothing.
use mathlib.Core.Path.{◌≡◌, refl, ap, sym, ◌∙◌}
use mathlib.Core.Bool.{true, false, ◌||◌, true≢false, false≢true}
use Prim.Native.Nat.{◌+◌}
use Rattle.signals.specs.Numbers.{answered}
use Rattle.mode_a.specs.declared.Number.{Number}
use Rattle.mode_a.specs.declared.Number.TheVariants.{One}
use Rattle.mode_a.specs.declared.Words.{Words}
use Rattle.mode_a.specs.declared.Peer.{Peer}
use Rattle.mode_a.specs.declared.Peer.TheVariants.{Nobody, Four, Known, Barred}
use Rattle.mode_a.specs.declared.Place.{Place}
use Rattle.mode_a.specs.declared.Place.TheVariants.{Sending, Turning, Opening, Ending, Receiving, Asking, StandBy, Lost, Calling, Calling3, Identifying, Answering}
use Rattle.mode_a.specs.declared.Offer.{Offer}
use Rattle.mode_a.specs.declared.Station.{Station}
use Rattle.mode_a.specs.declared.Doing.{Doing}
use Rattle.mode_a.specs.declared.Reply.{Reply}
use Rattle.mode_a.specs.Station.{single}
use Rattle.mode_a.specs.Heard.{Heard, heard_of}
use Rattle.mode_a.specs.Over.{listened_all}
use Rattle.mode_a.specs.Rows.{row_of}
use Rattle.mode_a.specs.Step.{left_at, takes, repeats, knowing, again, is_over, done, stepping}
use Rattle.runs.specs.Places.{is_ending, is_stand_by}
use Rattle.runs.specs.Runs.{Run, start, ◌▷◌, after}
use Rattle.runs.proofs.RowLaws.{by_sending, by_turning, by_opening, by_ending, by_receiving, by_asking, by_standing, by_calling, by_calling3, by_identifying, by_answering}
use Rattle.runs.proofs.StepLaws.{answers, placed, by_repeat, by_again, by_meet, by_take, by_accept, by_listen, keeps}
use Rattle.identification.specs.Peers.{is_known, is_barred, before_traffic, Remembers}

-- who may be at the other end of a station at a place: nobody before traffic, nobody that is known at Stand-by, nobody that is barred in
-- traffic, and anybody at Ending
abbrev Apt : Place → Peer → Type 0
Apt (Sending h) q = is_barred q ≡ false
Apt (Turning n) q = is_barred q ≡ false
Apt Opening q = is_barred q ≡ false
Apt (Ending e) q = Unit {0}
Apt (Receiving n) q = is_barred q ≡ false
Apt Asking q = is_barred q ≡ false
Apt (StandBy w) q = is_known q ≡ false
Apt Lost q = is_barred q ≡ false
Apt (Calling c) q = q ≡ Nobody
Apt (Calling3 c) q = q ≡ Nobody
Apt (Identifying i) q = q ≡ Nobody
Apt (Answering g) q = q ≡ Nobody

-- nobody may be anywhere
nobody_apt : (p : Place) → Apt p Nobody
nobody_apt (Sending h) = refl
nobody_apt (Turning n) = refl
nobody_apt Opening = refl
nobody_apt (Ending e) = tt
nobody_apt (Receiving n) = refl
nobody_apt Asking = refl
nobody_apt (StandBy w) = refl
nobody_apt Lost = refl
nobody_apt (Calling c) = refl
nobody_apt (Calling3 c) = refl
nobody_apt (Identifying i) = refl
nobody_apt (Answering g) = refl

-- Stand-by forgets whoever is known
left_unknown : (q : Peer) → is_known (left_at q) ≡ false
left_unknown Nobody = refl
left_unknown (Four i) = refl
left_unknown (Known i) = refl
left_unknown (Barred i) = refl

-- a step: the station after it is so again, and whoever was known stays, unless at Stand-by
record After (s : Station) (r : Reply) : Type 0 where
  apt : Apt r.station.place r.station.other
  stays : is_known s.other ≡ true → is_stand_by r.station.place ≡ false → r.station.other ≡ s.other

-- with the same at the other end; at Stand-by; with nobody before
same_end : (s : Station) (r : Reply) → r.station.other ≡ s.other → Apt r.station.place s.other → After s r
same_end s r e a = record { apt = rw e a; stays = λ k l. e }

rests_end : (s : Station) (r : Reply) → is_stand_by r.station.place ≡ true → Apt r.station.place r.station.other → After s r
rests_end s r e a = record { apt = a; stays = λ k l. absurd (true≢false (sym e ∙ l)) }

nobody_before : (s : Station) (r : Reply) → s.other ≡ Nobody → Apt r.station.place r.station.other → After s r
nobody_before s r e a = record { apt = a; stays = λ k l. absurd (true≢false (sym k ∙ ap is_known e)) }

unknown_before : (s : Station) (r : Reply) → is_known s.other ≡ false → Apt r.station.place r.station.other → After s r
unknown_before s r e a = record { apt = a; stays = λ k l. absurd (true≢false (sym k ∙ e)) }

module _ (s : Station) (b : Words) (o : Offer) (h : Heard) where
  abbrev Row : Place → Doing → Type 0
  Row p d = After (placed s p) (done (placed s p) b o d)

  -- in traffic
  repeats_so : (p : Place) (w : Words) → Apt p s.other → is_barred s.other ≡ false → After (placed s p) (repeats (placed s p) w)
  repeats_so p w a n = by_repeat (After (placed s p)) (placed s p) w (λ u. same_end _ _ refl n) (λ u. same_end _ _ refl a)

  takes_so : (p : Place) (n : Number) → is_barred s.other ≡ false → After (placed s p) (takes (placed s p) n o)
  takes_so p n a = by_take (After (placed s p)) (placed s p) n o (λ v w t. same_end _ _ refl a) (same_end _ _ refl tt)

  -- the end of a call: this one is at the other end from here on
  reaches_so : (p : Place) (q : Peer) (n : Number) → s.other ≡ Nobody → is_barred q ≡ false → After (placed s p) (takes (knowing (placed s p) q) n o)
  reaches_so p q n e a = by_take (After (placed s p)) (knowing (placed s p) q) n o (λ v w t. nobody_before _ _ e a) (nobody_before _ _ e tt)

  tells_so : (p q : Place) (w : Words) → s.other ≡ Nobody → Apt q Nobody → After (placed s p) (again (placed s p) q w)
  tells_so p q w e a =
      by_again (After (placed s p)) (placed s p) q w (λ u. rests_end _ _ refl (left_unknown s.other)) (λ u. nobody_before _ _ e (rw e a))

  by_place : (p : Place) → Apt p s.other → Row p (row_of s.own s.role p h)
  unfolding done
  by_place (Sending x) a =
      by_sending (Row (Sending x)) x h.first (λ c. repeats_so (Sending x) _ a a) (λ c. takes_so (Sending x) _ a) (λ c. same_end _ _ refl a) (λ c. repeats_so (Sending x) _ a a)
  by_place (Turning n) a =
      by_turning (Row (Turning n)) s.role n h (same_end _ _ refl a) (repeats_so (Turning n) _ a a) (repeats_so (Turning n) _ a a)
  by_place Opening a =
      by_opening (Row Opening) s.role h.first (λ n. takes_so Opening n a) (rests_end _ _ refl (left_unknown s.other)) (repeats_so Opening _ a a)
  by_place (Ending x) a =
      by_ending (Row (Ending x)) x h.first (rests_end _ _ refl (left_unknown s.other)) (λ l. same_end _ _ refl tt)
  by_place (Receiving n) a =
      by_receiving (Row (Receiving n)) n h (λ y. by_accept (After (placed s (Receiving n))) (placed s (Receiving n)) n b o (listened_all s.case s.plus b) (λ v u. same_end _ _ refl a) (same_end _ _ refl a)) (λ y. rests_end _ _ refl (left_unknown s.other)) (λ y. repeats_so (Receiving n) _ a a)
  by_place Asking a = by_asking (Row Asking) h (same_end _ _ refl a) (repeats_so Asking _ a a)
  by_place (StandBy w) a =
      by_standing (Row (StandBy w)) w h.call h.call3 (λ y. unknown_before _ _ a refl) (λ y z. unknown_before _ _ a refl) (λ y z. by_listen (After (placed s (StandBy w))) (placed s (StandBy w)) _ o (λ i c z. unknown_before _ _ a refl) (λ i c z. unknown_before _ _ a refl) (same_end _ _ refl a))
  by_place Lost a = same_end _ _ refl a
  by_place (Calling c) a =
      by_calling (Row (Calling c)) c h.first (λ n f m. reaches_so (Calling c) (Four c.to) n a refl) (rests_end _ _ refl (left_unknown s.other)) (λ l. same_end _ _ refl a)
  by_place (Calling3 c) a =
      by_calling3 (Row (Calling3 c)) s.own.seven c h.first (λ e. same_end _ _ refl a) (λ e. nobody_before _ _ a tt) (rests_end _ _ refl refl) (λ l. same_end _ _ refl a)
  by_place (Identifying i) a =
      by_identifying (Row (Identifying i)) s.own.seven i h.first (λ e. tells_so (Identifying i) (Identifying i) _ a refl) (λ e l. same_end _ _ refl a) (λ w e l m n. tells_so (Identifying i) (Identifying (record { to = i.to; stage = i.stage; wrong = i.wrong + 1; last = w })) _ a refl) (λ w e l m. same_end _ _ refl tt) (λ e l. rests_end _ _ refl (left_unknown s.other)) (λ e l. reaches_so (Identifying i) (Known i.to) One a refl) (λ e l. nobody_before _ _ a refl)
  by_place (Answering g) a =
      by_answering (Row (Answering g)) s.own.seven g h (rests_end _ _ refl (left_unknown s.other)) (λ l. by_meet (After (placed s (Answering g))) (knowing (placed s (Answering g)) (Known g.got)) (is_over o) (nobody_before _ _ a refl) (nobody_before _ _ a refl)) (λ l x w. same_end _ _ refl a) (λ x w. tells_so (Answering g) (Answering (record { stage = g.stage; got = x })) (single w) a refl)

after_step : (s : Station) (b : Words) (o : Offer) (r : Reply) → stepping s b o ≡ answered r → Apt s.place s.other → After s r
after_step s b o r e a = rw (answers s b o r e).is_done (by_place s b o (heard_of s.own b) s.place a)

-- what the places of Apt say
apt_forgotten : (p : Place) (q : Peer) → Apt p q → is_stand_by p ≡ true → is_known q ≡ false
apt_forgotten (Sending h) q a e = absurd (false≢true e)
apt_forgotten (Turning n) q a e = absurd (false≢true e)
apt_forgotten Opening q a e = absurd (false≢true e)
apt_forgotten (Ending x) q a e = absurd (false≢true e)
apt_forgotten (Receiving n) q a e = absurd (false≢true e)
apt_forgotten Asking q a e = absurd (false≢true e)
apt_forgotten (StandBy w) q a e = a
apt_forgotten Lost q a e = absurd (false≢true e)
apt_forgotten (Calling c) q a e = absurd (false≢true e)
apt_forgotten (Calling3 c) q a e = absurd (false≢true e)
apt_forgotten (Identifying i) q a e = absurd (false≢true e)
apt_forgotten (Answering g) q a e = absurd (false≢true e)

apt_nobody : (p : Place) (q : Peer) → Apt p q → before_traffic p ≡ true → q ≡ Nobody
apt_nobody (Sending h) q a e = absurd (false≢true e)
apt_nobody (Turning n) q a e = absurd (false≢true e)
apt_nobody Opening q a e = absurd (false≢true e)
apt_nobody (Ending x) q a e = absurd (false≢true e)
apt_nobody (Receiving n) q a e = absurd (false≢true e)
apt_nobody Asking q a e = absurd (false≢true e)
apt_nobody (StandBy w) q a e = absurd (false≢true e)
apt_nobody Lost q a e = absurd (false≢true e)
apt_nobody (Calling c) q a e = a
apt_nobody (Calling3 c) q a e = a
apt_nobody (Identifying i) q a e = a
apt_nobody (Answering g) q a e = a

apt_barred : (p : Place) (q : Peer) → Apt p q → is_barred q ≡ true → is_stand_by p || is_ending p ≡ true
apt_barred (Sending h) q a e = absurd (true≢false (sym e ∙ a))
apt_barred (Turning n) q a e = absurd (true≢false (sym e ∙ a))
apt_barred Opening q a e = absurd (true≢false (sym e ∙ a))
apt_barred (Ending x) q a e = refl
apt_barred (Receiving n) q a e = absurd (true≢false (sym e ∙ a))
apt_barred Asking q a e = absurd (true≢false (sym e ∙ a))
apt_barred (StandBy w) q a e = refl
apt_barred Lost q a e = absurd (true≢false (sym e ∙ a))
apt_barred (Calling c) q a e = absurd (true≢false (sym e ∙ ap is_barred a))
apt_barred (Calling3 c) q a e = absurd (true≢false (sym e ∙ ap is_barred a))
apt_barred (Identifying i) q a e = absurd (true≢false (sym e ∙ ap is_barred a))
apt_barred (Answering g) q a e = absurd (true≢false (sym e ∙ ap is_barred a))

module _ (from : Station) (nobody : from.other ≡ Nobody) where
  apt_run : (run : Run) → Apt (after from run).place (after from run).other
  apt_run start = rw nobody (nobody_apt from.place)
  apt_run (run ▷ e) =
      keeps (λ (s : Station). Apt s.place s.other) (after from run) e (λ r p a. (after_step (after from run) e.burst e.offer r p a).apt) (apt_run run)

  pub remembers : (run : Run) → Remembers from run
  remembers run =
      record {
        kept = λ e r p. (after_step (after from run) e.burst e.offer r p (apt_run run)).stays;
        forgotten = apt_forgotten (after from run).place (after from run).other (apt_run run);
        nobody_yet = apt_nobody (after from run).place (after from run).other (apt_run run);
        barred_where = apt_barred (after from run).place (after from run).other (apt_run run);
      }
