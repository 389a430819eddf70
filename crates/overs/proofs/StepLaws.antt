-- What a step does to the case and the + that a station keeps: it begins a call, or it cancels, or it accepts a block, or it leaves
-- both. Told with the place after it, what is then owed and what is taken, where a block is accepted. Assumes nothing.
use mathlib.Core.Path.{◌≡◌, refl, ap, sym, ◌∙◌}
use mathlib.Core.Bool.{Bool, true, false, not, ◌&&◌, ◌||◌, and-false, or-true, false≢true}
use Prim.Native.Nat.{ℕ, ◌+◌}
use native.Mathlib.Omega.{arith}
use borrow.Author.Tests.{eqb-true}
use Rattle.std.specs.Prelude.{if◌then◌else◌}
use Rattle.signals.specs.declared.Case.{Case}
use Rattle.signals.specs.declared.Case.TheVariants.{Letters}
use Rattle.signals.specs.Numbers.{Answer, answered, refused}
use Rattle.mode_a.specs.declared.Number.{Number}
use Rattle.mode_a.specs.declared.Number.TheVariants.{One}
use Rattle.mode_a.specs.declared.Identified.{Identified}
use Rattle.mode_a.specs.declared.Peer.TheVariants.{Four, Known}
use Rattle.mode_a.specs.declared.Words.{Words}
use Rattle.mode_a.specs.declared.Owed.{Owed}
use Rattle.mode_a.specs.declared.Offer.{Offer}
use Rattle.mode_a.specs.declared.Place.{Place}
use Rattle.mode_a.specs.declared.Place.TheVariants.{Sending, Turning, Opening, Ending, Receiving, Asking, StandBy, Lost, Calling, Calling3, Identifying, Answering}
use Rattle.mode_a.specs.declared.Station.{Station}
use Rattle.mode_a.specs.declared.Listening.{Listening}
use Rattle.mode_a.specs.declared.Doing.{Doing}
use Rattle.mode_a.specs.declared.Reply.{Reply}
use Rattle.mode_a.specs.Station.{single}
use Rattle.mode_a.specs.Identification.{identity_block}
use Rattle.mode_a.specs.Heard.{first_of, heard_of}
use Rattle.mode_a.specs.Over.{listened_all}
use Rattle.mode_a.specs.Rows.{row_of}
use Rattle.mode_a.specs.Step.{moved_to, takes, repeats, is_over, accepts_by, owed_for, is_asked, accepts_heard, owing, knowing, again, done, station_after}
use Rattle.runs.specs.Places.{place_no, is_turning, is_opening, is_receiving, is_asking, is_stand_by}
use Rattle.runs.specs.Runs.{Event, said, next, is_answered, is_taken, accepting}
use Rattle.runs.proofs.PlaceLaws.{one_number}
use Rattle.runs.proofs.RowLaws.{by_sending, by_turning, by_opening, by_ending, by_receiving, by_asking, by_standing, by_calling, by_calling3, by_identifying, by_answering}
use Rattle.runs.proofs.StepLaws.{answers, placed, by_repeat, by_again, by_meet, by_take, by_listen}
use Rattle.overs.specs.Overs.{is_accepted, cancelling, cancels, is_begun, begins_at, begins}

-- after a block was accepted: what was heard is kept, and the place is Asking exactly if the over was heard, or offered, or who are you was
-- heard; then the answer is owed, and an over that is offered is not taken (02, T-06)
pub record Took (before : Station) (l : Listening) (offered : Bool) (after : Station) (taken : Bool) : Type 0 where
  pub case_heard : after.case ≡ l.case
  pub plus_heard_lem : after.plus ≡ l.plus
  pub to_asking : (offered || (l.over || l.asked)) ≡ true → after.place ≡ Asking
  pub from_asking : after.place ≡ Asking → (offered || (l.over || l.asked)) ≡ true
  pub owes : after.owed ≡ (if l.asked then owed_for l else before.owed)
  pub takes_over : taken ≡ (offered && not l.asked)

-- by whether the answer reports the offer as taken; and by whether the step begins a call, whether it cancels, and whether it accepts
pub data Effect (s after : Station) (taken : Bool) (e : Event) : Bool → Bool → Bool → Type 0 where
  began : after.case ≡ Letters → after.plus ≡ false → Effect s after taken e true false false
  cancelled : after.case ≡ s.case → after.plus ≡ false → Effect s after taken e false true false
  took : Took s (listened_all s.case s.plus e.burst) (is_over e.offer) after taken → Effect s after taken e false false true
  left : after.case ≡ s.case → after.plus ≡ s.plus → Effect s after taken e false false false

EffectOf : Station → Event → Answer Reply → Type 0
EffectOf s e a =
    Effect s (station_after s a) (is_taken a) e (begins_at s.place (station_after s a).place) (cancelling s.place (station_after s a).place) (is_answered a && accepting s.place (heard_of s.own e.burst))

-- an accepted block
took_by : (s : Station) (n : Number) (b : Words) (o : Offer) (l : Listening) → Took s l (is_over o) (accepts_heard s n b o l).station (accepts_heard s n b o l).taken
took_by s n b o l = go (is_over o) l.case l.plus l.over l.asked
  where
    heard : (t : Bool) (l : Listening) → Reply
    heard t l = if l.asked then is_asked s b l else accepts_by s n b t l

    go : (t : Bool) (c : Case) (p o a : Bool) → let l : Listening = record { case = c; plus = p; over = o; asked = a } in Took s l t (heard t l).station (heard t l).taken
    go t c p o true = record {
      case_heard = refl;
      plus_heard_lem = refl;
      to_asking = λ h. refl;
      from_asking = λ h. rw (or-true o) (or-true t);
      owes = refl;
      takes_over = sym (and-false t);
    }
    go true c p o false = record { case_heard = refl; plus_heard_lem = refl; to_asking = λ h. refl; from_asking = λ h. refl; owes = refl; takes_over = refl }
    go false c p true false = record { case_heard = refl; plus_heard_lem = refl; to_asking = λ h. refl; from_asking = λ h. refl; owes = refl; takes_over = refl }
    go false c p false false = record {
      case_heard = refl;
      plus_heard_lem = refl;
      to_asking = λ h. absurd (false≢true h);
      from_asking = λ h. let z : ◌≡◌ {A = ℕ} 0 1 = cc in absurd (omega arith);
      owes = refl;
      takes_over = refl;
    }

-- to stay at a place cancels nothing and begins nothing, nor does to go to one that is none of Opening, Receiving and those of calls
staying : (p : Place) → cancelling p p ≡ false
staying p = rw (one_number p 5 2 refl, one_number p 1 4 refl)

going : (p q : Place) → is_opening q ≡ false → is_receiving q ≡ false → cancelling p q ≡ false
going p q i j = rw (i, j, and-false (is_asking p), and-false (is_turning p))

begins_staying : (p : Place) → begins_at p p ≡ false
begins_staying p = go (is_stand_by p) refl
  where
    go : (t : Bool) → is_stand_by p ≡ t → t && is_begun p ≡ false
    go true e = rw (eqb-true (place_no p) 6 e)
    go false e = refl

begins_going : (p q : Place) → is_begun q ≡ false → begins_at p q ≡ false
begins_going p q i = ap (λ (t : Bool). is_stand_by p && t) i ∙ and-false (is_stand_by p)

-- the row of each place, at a station
module _ (s : Station) (e : Event) where
  -- what neither begins nor cancels nor accepts
  abbrev Left : Place → Reply → Type 0
  Left q x = Effect (placed s q) x.station x.taken e (begins_at q x.station.place) (cancelling q x.station.place) false

  repeated : (q : Place) (w : Words) → Left q (repeats (placed s q) w)
  repeated q w =
      by_repeat (Left q) (placed s q) w (λ t. rw (begins_going q Lost refl, going q Lost refl refl) (left refl refl)) (λ t. rw (begins_staying q, staying q) (left refl refl))

  -- an offer taken, by the station itself or by it with another at the other end
  taken : (q : Place) (s' : Station) (n : Number) → s'.case ≡ s.case → s'.plus ≡ s.plus → Left q (takes s' n e.offer)
  taken q s' n c p =
      by_take (Left q) s' n e.offer (λ v w t. to v t (Sending (record { number = n; block = w })) refl refl refl) (to s'.owed true (Ending (record { number = n; total = 1 })) refl refl refl)
    where
      to : (v : Owed) (t : Bool) (x : Place) → is_opening x ≡ false → is_receiving x ≡ false → is_begun x ≡ false → Effect (placed s q) (moved_to (owing s' v) x) t e (begins_at q x) (cancelling q x) false
      to v t x i j k = rw (begins_going q x k, going q x i j) (left c p)

  abbrev Row : Place → Doing → Type 0
  Row q d = EffectOf (placed s q) e (answered (done (placed s q) e.burst e.offer d))

  row : (q : Place) → Row q (row_of s.own s.role q (heard_of s.own e.burst))
  unfolding EffectOf done heard_of
  row (Sending h) =
      by_sending (Row (Sending h)) h (first_of e.burst.0) (λ y. repeated (Sending h) _) (λ y. taken (Sending h) (placed s (Sending h)) _ refl refl) (λ y. left refl refl) (λ y. repeated (Sending h) _)
  row (Turning n) =
      by_turning (Row (Turning n)) s.role n (heard_of s.own e.burst) (cancelled refl refl) (repeated (Turning n) _) (repeated (Turning n) _)
  row Opening = by_opening (Row Opening) s.role (first_of e.burst.0) (λ n. taken Opening (placed s Opening) n refl refl) (left refl refl) (repeated Opening _)
  row (Ending d) = by_ending (Row (Ending d)) d (first_of e.burst.0) (left refl refl) (λ l. left refl refl)
  row (Receiving n) =
      by_receiving (Row (Receiving n)) n (heard_of s.own e.burst) (λ y. rw y (took (took_by (placed s (Receiving n)) n e.burst e.offer (listened_all s.case s.plus e.burst)))) (λ y. rw y (left refl refl)) (λ y. rw y (repeated (Receiving n) _))
  row Asking = by_asking (Row Asking) (heard_of s.own e.burst) (cancelled refl refl) (repeated Asking _)
  row (StandBy w) =
      by_standing (Row (StandBy w)) w (heard_of s.own e.burst).call (heard_of s.own e.burst).call3 (λ y. began refl refl) (λ y z. began refl refl) (λ y z. by_listen (Left (StandBy w)) (placed s (StandBy w)) _ e.offer (λ i c z. began refl refl) (λ i c z. began refl refl) (left refl refl))
  row Lost = left refl refl
  row (Calling c) =
      by_calling (Row (Calling c)) c (first_of e.burst.0) (λ n f m. taken (Calling c) (knowing (placed s (Calling c)) (Four c.to)) n refl refl) (left refl refl) (λ l. left refl refl)
  row (Calling3 c) =
      by_calling3 (Row (Calling3 c)) s.own.seven c (first_of e.burst.0) (λ f. left refl refl) (λ f. left refl refl) (left refl refl) (λ l. left refl refl)
  row (Identifying i) =
      by_identifying (Row (Identifying i)) s.own.seven i (first_of e.burst.0) (λ f. told i) (λ f m. left refl refl) (λ w f m n k. told (record { to = i.to; stage = i.stage; wrong = i.wrong + 1; last = w })) (λ w f m n. left refl refl) (λ f m. left refl refl) (λ f m. taken (Identifying i) (knowing (placed s (Identifying i)) (Known i.to)) One refl refl) (λ f m. left refl refl)
    where
      told : (j : Identified) → Left (Identifying i) (again (placed s (Identifying i)) (Identifying j) (identity_block s.own.seven i.stage))
      told j =
          by_again (Left (Identifying i)) (placed s (Identifying i)) (Identifying j) (identity_block s.own.seven i.stage) (λ t. left refl refl) (λ t. left refl refl)
  row (Answering g) =
      by_answering (Row (Answering g)) s.own.seven g (heard_of s.own e.burst) (left refl refl) (λ m. by_meet (Left (Answering g)) (knowing (placed s (Answering g)) (Known g.got)) (is_over e.offer) (left refl refl) (left refl refl)) (λ m x w. left refl refl) (λ x w. by_again (Left (Answering g)) (placed s (Answering g)) (Answering (record { stage = g.stage; got = x })) (single w) (λ t. left refl refl) (λ t. left refl refl))

-- a refused step leaves all
refused_left : (s : Station) (e : Event) (n v : ℕ) → EffectOf s e (refused n v)
unfolding EffectOf
refused_left s e n v = rw (begins_staying s.place, staying s.place) (left refl refl)

pub effect : (s : Station) (e : Event) → Effect s (next s e) (is_taken (said s e)) e (begins s e) (cancels s e) (is_accepted s e)
unfolding EffectOf
effect s e = go (said s e) refl
  where
    go : (a : Answer Reply) → said s e ≡ a → EffectOf s e a
    go (answered r) p = rw (answers s e.burst e.offer r p).is_done (row s e s.place)
    go (refused n v) p = refused_left s e n v
