-- One step, as far as calls are concerned: it calls on, it places a call, it waits, it comes to Stand-by, or it is elsewhere then.
--     does          of every step
-- Assumes nothing.
use mathlib.Core.Path.{◌≡◌, refl, ap, sym, subst, ◌∙◌}
use mathlib.Core.Bool.{Bool, true, false, ◌&&◌, ◌||◌, and-false, true≢false}
use Prim.Native.Nat.{◌+◌}
use lib.Dec.{leb}
use Rattle.std.specs.Prelude.{if◌then◌else◌}
use Rattle.signals.specs.Meaning.{cs3}
use Rattle.signals.specs.Numbers.{answered}
use Rattle.mode_a.specs.declared.Number.{Number}
use Rattle.mode_a.specs.declared.Words.{Words}
use Rattle.mode_a.specs.declared.Identity.{Identity}
use Rattle.mode_a.specs.declared.Waiting.{Waiting}
use Rattle.mode_a.specs.declared.Called.{Called}
use Rattle.mode_a.specs.declared.Own.{Own}
use Rattle.mode_a.specs.declared.Listening.{Listening}
use Rattle.mode_a.specs.declared.Stage.{Stage}
use Rattle.mode_a.specs.declared.Number.TheVariants.{One}
use Rattle.mode_a.specs.declared.Peer.{Peer}
use Rattle.mode_a.specs.declared.Peer.TheVariants.{Nobody, Four, Known, Barred}
use Rattle.mode_a.specs.declared.Place.{Place}
use Rattle.mode_a.specs.declared.Place.TheVariants.{Sending, Turning, Opening, Ending, Receiving, Asking, StandBy, Lost, Calling, Calling3, Identifying, Answering}
use Rattle.mode_a.specs.declared.Offer.{Offer}
use Rattle.mode_a.specs.declared.Station.{Station}
use Rattle.mode_a.specs.declared.Doing.{Doing}
use Rattle.mode_a.specs.declared.Doing.TheVariants.{Rests}
use Rattle.mode_a.specs.declared.Reply.{Reply}
use Rattle.identity.specs.Table3.{is_identity}
use Rattle.mode_a.specs.Calls.{is_callable, next_block}
use Rattle.mode_a.specs.Identification.{identity_block}
use Rattle.mode_a.specs.Station.{single, other, asks_for, resting}
use Rattle.mode_a.specs.Heard.{first_of, call_of, call3_of, heard_of}
use Rattle.mode_a.specs.Over.{listened_all}
use Rattle.mode_a.specs.Answerback.{passes}
use Rattle.mode_a.specs.Rows.{row_of, heard_then}
use Rattle.mode_a.specs.Step.{moved_to, heard_at, traffic_in, called, waits_on, sends, takes_offer, takes, repeats, rested, left_at, wait_at, knowing, again, meets, is_over, accepts, accepts_by, done, sound_place, stepping}
use Rattle.runs.specs.Places.{is_stand_by, is_calling, is_calling3, at_calling3}
use Rattle.runs.specs.Runs.{InOrder, next_stage}
use Rattle.runs.proofs.RowLaws.{mark_in, by_sending, by_turning, by_opening, by_ending, by_receiving, by_asking, by_standing, by_calling, by_calling3, by_identifying, by_answering}
use Rattle.runs.proofs.CodeLaws.{owed_block}
use Rattle.runs.proofs.StepLaws.{Answers, answers, held_block, by_repeat, by_again, by_owed, by_heard, by_listen}
use Rattle.runs.proofs.LetterLaws.{lettered_at, Lettered}
use Rattle.placing.specs.Runs.{is_call_burst}
use Rattle.placing.proofs.BurstLaws.{block_no_call, asked_no_call, requests_no_call, single_no_call, told_no_call}

-- the offer is a two-block call
abbrev pub is_call2 : Offer → Bool
is_call2 (Offer.Text w) = false
is_call2 Offer.Over = false
is_call2 Offer.End = false
is_call2 Offer.Nothing = false
is_call2 (Offer.Call i) = true
is_call2 (Offer.Call3 i) = false

-- no call burst is sent, but where the step leads to the three-block call: and that is not from Calling
pub record Silent (s : Station) (r : Reply) : Type 0 where
  pub burst : Lettered s → is_calling3 r.station.place ≡ false → is_call_burst r.sent ≡ false
  pub not_from : is_calling3 r.station.place ≡ true → is_calling s.place ≡ false

pub data Does (s : Station) (b : Words) (o : Offer) (r : Reply) : Type 0 where
  elsewhere : is_stand_by r.station.place ≡ false → is_calling r.station.place ≡ false → Silent s r → is_call2 o && r.taken ≡ false → Does s b o r
  rests : is_stand_by s.place ≡ false → (r.station.place ≡ resting (if is_calling s.place || is_calling3 s.place then 128 else wait_at s.other 0)) × (r.station.other ≡ at_calling3 (λ c. Barred c.to) (left_at s.other) s.place) → is_call_burst r.sent ≡ false → is_call2 o && r.taken ≡ false → Does s b o r
  waits : (w : Waiting) → s.place ≡ StandBy w → r ≡ waits_on s (record { wait = w.wait; heard = call_of s.own.four b; heard3 = heard_then w.heard3 (call3_of s.own.seven b) }) → Does s b o r
  places : (w : Waiting) (i : Identity) → s.place ≡ StandBy w → o ≡ Offer.Call i → is_callable i ≡ true → r ≡ called s i → Does s b o r
  calls_on_lem : (c : Called) → s.place ≡ Calling c → leb 128 c.sent ≡ false → r ≡ sends (moved_to s (Calling (record { to = c.to; sent = c.sent + 1; last = mark_in (first_of b.0) }))) (next_block c.to c.sent) → Does s b o r

-- no call burst, and no way to the three-block call
none_sent : {s : Station} {r : Reply} → is_calling3 r.station.place ≡ false → is_call_burst r.sent ≡ false → Silent s r
none_sent x c = record { burst = λ l y. c; not_from = λ y. absurd (true≢false (sym y ∙ x)) }

-- an offer taken: a block, or ααα; or a block of an answer-back
taken : (s t : Station) (b : Words) (n : Number) (own : Own) (o : Offer) → passes t.own.code ≡ true → InOrder own o → Does s b o (takes t n o)
unfolding is_call_burst is_identity
taken s t b n own o k i =
    by_owed (Does s b o) t n o (λ e. offer o i) (λ e. elsewhere refl refl (none_sent refl (block_no_call _ (owed_block t.own.code t.owed k))) (and-false (is_call2 o)))
  where
    offer : (o : Offer) → InOrder own o → Does s b o (takes_offer t n o)
    offer (Offer.Text w) i = elsewhere refl refl (none_sent refl (block_no_call w i)) refl
    offer Offer.Over i = elsewhere refl refl (none_sent refl refl) refl
    offer Offer.End i = elsewhere refl refl (none_sent refl refl) refl
    offer Offer.Nothing i = elsewhere refl refl (none_sent refl refl) refl
    offer (Offer.Call x) i = elsewhere refl refl (none_sent refl refl) refl
    offer (Offer.Call3 x) i = elsewhere refl refl (none_sent refl refl) refl

-- a block accepted
accepted : (s : Station) (n : Number) (b : Words) (o : Offer) → Does s b o (accepts s n b o)
unfolding is_call_burst is_identity
accepted s n b o =
    by_heard (Does s b o) s n b o (listened_all s.case s.plus b) (λ a. elsewhere refl refl (none_sent refl (single_no_call cs3)) (and-false (is_call2 o))) (λ a. go o (listened_all s.case s.plus b))
  where
    not_taken : (o : Offer) (l : Listening) → is_over o ≡ false → Does s b o (accepts_by s n b false l)
    not_taken o l x = tests l.over
      where
        tests : (t : Bool) → Does s b o (if t then record { station = heard_at s Asking l; sent = single cs3; printed = traffic_in b; taken = false } else record { station = heard_at s (Receiving (other n)) l; sent = asks_for (other n); printed = traffic_in b; taken = false })
        tests true = elsewhere refl refl (none_sent refl (single_no_call cs3)) (and-false (is_call2 o))
        tests false = elsewhere refl refl (none_sent refl (asked_no_call (other n))) (and-false (is_call2 o))

    go : (o : Offer) (l : Listening) → Does s b o (accepts_by s n b (is_over o) l)
    go (Offer.Text w) l = not_taken _ l refl
    go Offer.Over l = elsewhere refl refl (none_sent refl (single_no_call cs3)) refl
    go Offer.End l = not_taken _ l refl
    go Offer.Nothing l = not_taken _ l refl
    go (Offer.Call i) l = not_taken _ l refl
    go (Offer.Call3 i) l = not_taken _ l refl

module _ (s : Station) (b : Words) (o : Offer) (passed : passes s.own.code ≡ true) (fine : InOrder s.own o) where
  abbrev Row : Doing → Type 0
  Row d = Does s b o (done s b o d)

  -- an answer that takes nothing
  sent : (t : Station) (w : Words) → is_stand_by t.place ≡ false → is_calling t.place ≡ false → is_calling3 t.place ≡ false → is_call_burst w ≡ false → Does s b o (sends t w)
  sent t w p q x c = elsewhere p q (none_sent x c) (and-false (is_call2 o))

  repeated : (p : Place) → s.place ≡ p → is_stand_by p ≡ false → is_calling p ≡ false → is_calling3 p ≡ false → (w : Words) → is_call_burst w ≡ false → Does s b o (repeats s w)
  unfolding is_call_burst is_identity
  repeated p e x y z w c = by_repeat (Does s b o) s w (λ u. sent _ _ refl refl refl refl) (λ u. sent _ _ (ap is_stand_by e ∙ x) (ap is_calling e ∙ y) (ap is_calling3 e ∙ z) c)

  -- to Stand-by from a place that calls nobody
  at_rest : (p : Place) → s.place ≡ p → is_stand_by p ≡ false → is_calling p || is_calling3 p ≡ false → at_calling3 (λ c. Barred c.to) (left_at s.other) p ≡ left_at s.other → (w : Words) → is_call_burst w ≡ false → Does s b o (sends (rested s 0) w)
  at_rest p e x y z w c =
      rests (ap is_stand_by e ∙ x) (rw (ap (λ (p : Place). is_calling p || is_calling3 p) e ∙ y), sym (ap (at_calling3 (λ c. Barred c.to) (left_at s.other)) e ∙ z)) c (and-false (is_call2 o))

  rested_does : (p : Place) → s.place ≡ p → is_stand_by p ≡ false → is_calling p || is_calling3 p ≡ false → at_calling3 (λ c. Barred c.to) (left_at s.other) p ≡ left_at s.other → (w : Words) → is_call_burst w ≡ false → Row (Rests 0 w)
  unfolding done
  rested_does p e x y z w c = at_rest p e x y z w c

  -- a repetition in identification
  told : (p q : Place) → s.place ≡ p → is_stand_by p ≡ false → is_calling p || is_calling3 p ≡ false → at_calling3 (λ c. Barred c.to) (left_at s.other) p ≡ left_at s.other → is_stand_by q ≡ false → is_calling q ≡ false → is_calling3 q ≡ false → (w : Words) → (Lettered s → is_call_burst w ≡ false) → Does s b o (again s q w)
  unfolding is_call_burst is_identity
  told p q e x y z i j k w c =
      by_again (Does s b o) s q w (λ u. at_rest p e x y z _ refl) (λ u. elsewhere i j (record { burst = λ l m. c l; not_from = λ m. absurd (true≢false (sym m ∙ k)) }) (and-false (is_call2 o)))

  by_place : (p : Place) → s.place ≡ p → sound_place p ≡ true → Row (row_of s.own s.role p (heard_of s.own b))
  unfolding done heard_of is_call_burst is_identity
  by_place (Sending x) e i =
      by_sending Row x (first_of b.0) (λ c. repeated _ e refl refl refl _ (block_no_call x.block (sym (held_block x.block) ∙ i))) (λ c. taken s s b _ s.own o passed fine) (λ c. sent _ _ refl refl refl refl) (λ c. repeated _ e refl refl refl _ refl)
  by_place (Turning n) e i =
      by_turning Row s.role n (heard_of s.own b) (sent _ _ refl refl refl (asked_no_call (other n))) (repeated _ e refl refl refl _ refl) (repeated _ e refl refl refl _ refl)
  by_place Opening e i =
      by_opening Row s.role (first_of b.0) (λ n. taken s s b n s.own o passed fine) (rested_does _ e refl refl refl _ refl) (repeated _ e refl refl refl _ (requests_no_call s.role))
  by_place (Ending x) e i = by_ending Row x (first_of b.0) (rested_does _ e refl refl refl _ refl) (λ l. sent _ _ refl refl refl refl)
  by_place (Receiving n) e i =
      by_receiving Row n (heard_of s.own b) (λ y. accepted s n b o) (λ y. rested_does _ e refl refl refl _ (asked_no_call (other n))) (λ y. repeated _ e refl refl refl _ (asked_no_call n))
  by_place Asking e i = by_asking Row (heard_of s.own b) (sent _ _ refl refl refl (requests_no_call s.role)) (repeated _ e refl refl refl _ refl)
  by_place (StandBy w) e i =
      by_standing Row w (heard_of s.own b).call (heard_of s.own b).call3 (λ y. sent _ _ refl refl refl refl) (λ y z. sent _ _ refl refl refl refl) (λ y z. by_listen (Does s b o) s _ o (λ x z u. places w x e z (subst (InOrder s.own) z fine) refl) (λ x z u. elsewhere refl refl (record { burst = λ l m. absurd (true≢false m); not_from = λ m. ap is_calling e }) (ap (λ (o : Offer). is_call2 o && true) z)) (waits w e refl))
  by_place Lost e i = sent _ _ refl refl refl refl
  by_place (Calling c) e i =
      by_calling Row c (first_of b.0) (λ n x y. taken s (knowing s (Four c.to)) b n s.own o passed fine) (rests (ap is_stand_by e) (rw (e, waits_so_lem s.other), sym (ap (at_calling3 (λ c. Barred c.to) (left_at s.other)) e)) refl (and-false (is_call2 o))) (λ l. calls_on_lem c e l refl)
    where
      waits_so_lem : (q : Peer) → wait_at q 128 ≡ 128
      waits_so_lem Nobody = refl
      waits_so_lem (Four x) = refl
      waits_so_lem (Known x) = refl
      waits_so_lem (Barred x) = refl
  by_place (Calling3 c) e i =
      by_calling3 Row s.own.seven c (first_of b.0) (λ f. elsewhere refl refl (record { burst = λ l m. told_no_call s.own.seven Stage.One (subst (lettered_at s.own) e l).1; not_from = λ m. absurd (true≢false (sym m)) }) (and-false (is_call2 o))) (λ f. sent _ _ refl refl refl refl) (rests (ap is_stand_by e) (rw e, sym (ap (at_calling3 (λ c. Barred c.to) (left_at s.other)) e)) refl (and-false (is_call2 o))) (λ l. elsewhere refl refl (record { burst = λ l m. absurd (true≢false m); not_from = λ m. ap is_calling e }) (and-false (is_call2 o)))
  by_place (Identifying x) e i =
      by_identifying Row s.own.seven x (first_of b.0) (λ f. told _ (Identifying x) e refl refl refl refl refl refl _ (blocks x.stage)) (λ f m. elsewhere refl refl (record { burst = λ l m. blocks (next_stage x.stage) l; not_from = λ m. absurd (true≢false (sym m)) }) (and-false (is_call2 o))) (λ w f m n k. told _ (Identifying (record { to = x.to; stage = x.stage; wrong = x.wrong + 1; last = w })) e refl refl refl refl refl refl _ (blocks x.stage)) (λ w f m n. sent _ _ refl refl refl refl) (λ f m. rested_does _ e refl refl refl _ refl) (λ f m. taken s (knowing s (Known x.to)) b One s.own o passed fine) (λ f m. sent _ _ refl refl refl refl)
    where
      blocks : (g : Stage) → Lettered s → is_call_burst (identity_block s.own.seven g) ≡ false
      blocks g l = told_no_call s.own.seven g (subst (lettered_at s.own) e l)
  by_place (Answering g) e i =
      by_answering Row s.own.seven g (heard_of s.own b) (rested_does _ e refl refl refl _ refl) (λ m. meets_so o) (λ m x w. sent _ _ refl refl refl (single_no_call w)) (λ x w. told _ (Answering (record { stage = g.stage; got = x })) e refl refl refl refl refl refl _ (λ l. single_no_call w))
    where
      meets_so : (o : Offer) → Does s b o (meets (knowing s (Known g.got)) (is_over o))
      meets_so (Offer.Text w) = elsewhere refl refl (none_sent refl refl) refl
      meets_so Offer.Over = elsewhere refl refl (none_sent refl refl) refl
      meets_so Offer.End = elsewhere refl refl (none_sent refl refl) refl
      meets_so Offer.Nothing = elsewhere refl refl (none_sent refl refl) refl
      meets_so (Offer.Call x) = elsewhere refl refl (none_sent refl refl) refl
      meets_so (Offer.Call3 x) = elsewhere refl refl (none_sent refl refl) refl

pub does : (s : Station) (b : Words) (o : Offer) (r : Reply) → stepping s b o ≡ answered r → Does s b o r
does s b o r e = go (answers s b o r e)
  where
    go : Answers s b o r → Does s b o r
    go a = rw a.is_done (by_place s b o a.is_passed a.is_fine s.place refl a.is_sound)
