-- One step, as far as three-block calls are concerned: it places one, calls on, waits at Stand-by, comes there, or is elsewhere then.
--     does   of every step
-- Assumes nothing.
use mathlib.Core.Path.{◌≡◌, refl, ap, subst, ◌∙◌}
use mathlib.Core.Bool.{Bool, true, false, ◌&&◌, and-false}
use Prim.Native.Nat.{ℕ, ◌+◌}
use lib.Dec.{leb}
use Rattle.std.specs.Prelude.{if◌then◌else◌}
use Rattle.signals.specs.Meaning.{cs3}
use Rattle.signals.specs.Numbers.{answered}
use Rattle.identity.specs.declared.Seven.{Seven}
use Rattle.identity.specs.Sums.{is_callable7}
use Rattle.mode_a.specs.declared.Number.{Number}
use Rattle.mode_a.specs.declared.Number.TheVariants.{One}
use Rattle.mode_a.specs.declared.Words.{Words}
use Rattle.mode_a.specs.declared.Waiting.{Waiting}
use Rattle.mode_a.specs.declared.Called3.{Called3}
use Rattle.mode_a.specs.declared.Listening.{Listening}
use Rattle.mode_a.specs.declared.Peer.TheVariants.{Four, Known, Barred}
use Rattle.mode_a.specs.declared.Place.{Place}
use Rattle.mode_a.specs.declared.Place.TheVariants.{Sending, Turning, Opening, Ending, Receiving, Asking, StandBy, Lost, Calling, Calling3, Identifying, Answering}
use Rattle.mode_a.specs.declared.Offer.{Offer}
use Rattle.mode_a.specs.declared.Station.{Station}
use Rattle.mode_a.specs.declared.Doing.{Doing}
use Rattle.mode_a.specs.declared.Reply.{Reply}
use Rattle.mode_a.specs.Calls.{next_block3}
use Rattle.mode_a.specs.Station.{single, other, asks_for}
use Rattle.mode_a.specs.Heard.{call_of, call3_of, first_of, heard_of}
use Rattle.mode_a.specs.Over.{listened_all}
use Rattle.mode_a.specs.Rows.{row_of, all_heard, heard_then}
use Rattle.mode_a.specs.Step.{moved_to, heard_at, sends, takes_offer, takes, repeats, accepts, accepts_by, traffic_in, called3, waits_on, knowing, again, meets, is_over, done, stepping, rested}
use Rattle.runs.specs.Places.{is_stand_by, is_calling3}
use Rattle.runs.specs.Runs.{InOrder}
use Rattle.runs.proofs.RowLaws.{by_sending, by_turning, by_opening, by_ending, by_receiving, by_asking, by_standing, by_calling, by_calling3, by_identifying, by_answering}
use Rattle.runs.proofs.StepLaws.{Answers, answers, by_repeat, by_again, by_owed, by_heard, by_listen}

-- the offer is a three-block call
abbrev pub is_call3 : Offer → Bool
is_call3 (Offer.Text w) = false
is_call3 Offer.Over = false
is_call3 Offer.End = false
is_call3 Offer.Nothing = false
is_call3 (Offer.Call i) = false
is_call3 (Offer.Call3 i) = true

pub data Does (s : Station) (b : Words) (o : Offer) (r : Reply) : Type 0 where
  elsewhere : is_stand_by r.station.place ≡ false → is_calling3 r.station.place ≡ false → is_call3 o && r.taken ≡ false → Does s b o r
  rests : is_stand_by s.place ≡ false → (t : Station) (n : ℕ) → r.station ≡ rested t n → is_call3 o && r.taken ≡ false → Does s b o r
  waits : (w : Waiting) → s.place ≡ StandBy w → all_heard w.heard3 (call3_of s.own.seven b) ≡ false → r ≡ waits_on s (record { wait = w.wait; heard = call_of s.own.four b; heard3 = heard_then w.heard3 (call3_of s.own.seven b) }) → Does s b o r
  places : (w : Waiting) (i : Seven) → s.place ≡ StandBy w → o ≡ Offer.Call3 i → is_callable7 i ≡ true → r ≡ called3 s i → Does s b o r
  calls_on_lem : (c : Called3) → s.place ≡ Calling3 c → leb 128 c.sent ≡ false → r ≡ sends (moved_to s (Calling3 (record { to = c.to; sent = c.sent + 1 }))) (next_block3 c.to c.sent) → Does s b o r

-- an offer taken: a block, or ααα; or a block of an answer-back
taken : (s t : Station) (b : Words) (n : Number) (o : Offer) → Does s b o (takes t n o)
taken s t b n o = by_owed (Does s b o) t n o (λ e. offer o) (λ e. elsewhere refl refl (and-false (is_call3 o)))
  where
    offer : (o : Offer) → Does s b o (takes_offer t n o)
    offer (Offer.Text w) = elsewhere refl refl refl
    offer Offer.Over = elsewhere refl refl refl
    offer Offer.End = elsewhere refl refl refl
    offer Offer.Nothing = elsewhere refl refl refl
    offer (Offer.Call x) = elsewhere refl refl refl
    offer (Offer.Call3 x) = elsewhere refl refl refl

-- a block accepted
accepted : (s : Station) (n : Number) (b : Words) (o : Offer) → Does s b o (accepts s n b o)
accepted s n b o =
    by_heard (Does s b o) s n b o (listened_all s.case s.plus b) (λ a. elsewhere refl refl (and-false (is_call3 o))) (λ a. go o (listened_all s.case s.plus b))
  where
    not_taken : (o : Offer) (l : Listening) → Does s b o (accepts_by s n b false l)
    not_taken o l = tests l.over
      where
        tests : (t : Bool) → Does s b o (if t then record { station = heard_at s Asking l; sent = single cs3; printed = traffic_in b; taken = false } else record { station = heard_at s (Receiving (other n)) l; sent = asks_for (other n); printed = traffic_in b; taken = false })
        tests true = elsewhere refl refl (and-false (is_call3 o))
        tests false = elsewhere refl refl (and-false (is_call3 o))

    go : (o : Offer) (l : Listening) → Does s b o (accepts_by s n b (is_over o) l)
    go (Offer.Text w) l = not_taken _ l
    go Offer.Over l = elsewhere refl refl refl
    go Offer.End l = not_taken _ l
    go Offer.Nothing l = not_taken _ l
    go (Offer.Call i) l = not_taken _ l
    go (Offer.Call3 i) l = not_taken _ l

-- the end of identification at the slave
met : (s t : Station) (b : Words) (o : Offer) → Does s b o (meets t (is_over o))
met s t b (Offer.Text w) = elsewhere refl refl refl
met s t b Offer.Over = elsewhere refl refl refl
met s t b Offer.End = elsewhere refl refl refl
met s t b Offer.Nothing = elsewhere refl refl refl
met s t b (Offer.Call x) = elsewhere refl refl refl
met s t b (Offer.Call3 x) = elsewhere refl refl refl

module _ (s : Station) (b : Words) (o : Offer) (fine : InOrder s.own o) where
  abbrev Row : Doing → Type 0
  Row d = Does s b o (done s b o d)

  none_taken : is_call3 o && false ≡ false
  none_taken = and-false (is_call3 o)

  repeated : (p : Place) → s.place ≡ p → is_stand_by p ≡ false → is_calling3 p ≡ false → (w : Words) → Does s b o (repeats s w)
  repeated p e x y w = by_repeat (Does s b o) s w (λ u. elsewhere refl refl none_taken) (λ u. elsewhere (ap is_stand_by e ∙ x) (ap is_calling3 e ∙ y) none_taken)

  told : (p q : Place) → s.place ≡ p → is_stand_by p ≡ false → is_stand_by q ≡ false → is_calling3 q ≡ false → (w : Words) → Does s b o (again s q w)
  told p q e x y z w = by_again (Does s b o) s q w (λ u. rests (ap is_stand_by e ∙ x) s 0 refl none_taken) (λ u. elsewhere y z none_taken)

  by_place : (p : Place) → s.place ≡ p → Row (row_of s.own s.role p (heard_of s.own b))
  unfolding done heard_of
  by_place (Sending x) e =
      by_sending Row x (first_of b.0) (λ c. repeated _ e refl refl _) (λ c. taken s s b _ o) (λ c. elsewhere refl refl none_taken) (λ c. repeated _ e refl refl _)
  by_place (Turning n) e =
      by_turning Row s.role n (heard_of s.own b) (elsewhere refl refl none_taken) (repeated _ e refl refl _) (repeated _ e refl refl _)
  by_place Opening e =
      by_opening Row s.role (first_of b.0) (λ n. taken s s b n o) (rests (ap is_stand_by e) s 0 refl none_taken) (repeated _ e refl refl _)
  by_place (Ending x) e = by_ending Row x (first_of b.0) (rests (ap is_stand_by e) s 0 refl none_taken) (λ l. elsewhere refl refl none_taken)
  by_place (Receiving n) e =
      by_receiving Row n (heard_of s.own b) (λ y. accepted s n b o) (λ y. rests (ap is_stand_by e) s 0 refl none_taken) (λ y. repeated _ e refl refl _)
  by_place Asking e = by_asking Row (heard_of s.own b) (elsewhere refl refl none_taken) (repeated _ e refl refl _)
  by_place (StandBy w) e =
      by_standing Row w (heard_of s.own b).call (heard_of s.own b).call3 (λ y. elsewhere refl refl none_taken) (λ y z. elsewhere refl refl none_taken) (λ y z. by_listen (Does s b o) s _ o (λ x c u. elsewhere refl refl (ap (λ (o : Offer). is_call3 o && true) c)) (λ x c u. places w x e c (subst (InOrder s.own) c fine).0 refl) (waits w e z refl))
  by_place Lost e = elsewhere refl refl none_taken
  by_place (Calling c) e =
      by_calling Row c (first_of b.0) (λ n x y. taken s (knowing s (Four c.to)) b n o) (rests (ap is_stand_by e) s 128 refl none_taken) (λ l. elsewhere refl refl none_taken)
  by_place (Calling3 c) e =
      by_calling3 Row s.own.seven c (first_of b.0) (λ f. elsewhere refl refl none_taken) (λ f. elsewhere refl refl none_taken) (rests (ap is_stand_by e) (knowing s (Barred c.to)) 0 refl none_taken) (λ l. calls_on_lem c e l refl)
  by_place (Identifying x) e =
      by_identifying Row s.own.seven x (first_of b.0) (λ f. told _ (Identifying x) e refl refl refl _) (λ f m. elsewhere refl refl none_taken) (λ w f m n k. told _ (Identifying (record { to = x.to; stage = x.stage; wrong = x.wrong + 1; last = w })) e refl refl refl _) (λ w f m n. elsewhere refl refl none_taken) (λ f m. rests (ap is_stand_by e) s 0 refl none_taken) (λ f m. taken s (knowing s (Known x.to)) b One o) (λ f m. elsewhere refl refl none_taken)
  by_place (Answering g) e =
      by_answering Row s.own.seven g (heard_of s.own b) (rests (ap is_stand_by e) s 0 refl none_taken) (λ m. met s (knowing s (Known g.got)) b o) (λ m x w. elsewhere refl refl none_taken) (λ x w. told _ (Answering (record { stage = g.stage; got = x })) e refl refl refl _)

pub does : (s : Station) (b : Words) (o : Offer) (r : Reply) → stepping s b o ≡ answered r → Does s b o r
does s b o r e = go (answers s b o r e)
  where
    go : Answers s b o r → Does s b o r
    go a = rw a.is_done (by_place s b o a.is_fine s.place refl)
