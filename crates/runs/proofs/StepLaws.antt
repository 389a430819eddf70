-- One step of a station.
--     answers, is_answered_lem        an answer is what the row did, where the place is sound and the offer in order; and where they are
--                                     so, there is one
--     held_block                      what is held at a sound place is a block
--     placed, one_more                 the same station at a place; with one more repetition
--     by_repeat, by_take, by_accept   what is so of each answer that the row leaves open is so of the answer
--     by_owed, by_heard               the same, by whether a part of an answer-back is owed, and by whether who are you was heard
--     by_again, by_meet               the same in identification
--     by_listen                       the same of a station at Stand-by that answers no call
--     own_kept, own_stays, own_lasts  no step changes the own identities and the code, and so no run
--     lost_stays                      silent for good
--     standby_answers, standby_answers3, standby_listens   what Stand-by does, by whether both call blocks came, or all three
--     keeps                           a refusal leaves the station as it was
-- Assumes nothing.
use mathlib.Core.Path.{◌≡◌, refl, ap, sym, ◌∙◌}
use mathlib.Core.Bool.{Bool, true, false, not, ◌&&◌, true≢false, and-true, and-eq-true_iff}
use mathlib.Core.List.{List, ◌∷◌, ◌++◌}
use Prim.Native.Nat.{ℕ, suc, ◌+◌}
use native.Mathlib.Omega.{arith}
use lib.Dec.{eqb, leb, ltb, leb-suc-suc}
use lib.ListN.{length}
use borrow.Author.Tests.{eqb-true, le-leb, not-false}
use Rattle.std.specs.Prelude.{if◌then◌else◌}
use Rattle.signals.specs.Meaning.{meaning_of, traffic_of, alpha, cs3, cs4}
use Rattle.signals.specs.Numbers.{Answer, answered, refused, first_not}
use Rattle.mode_a.specs.declared.Role.{Role}
use Rattle.mode_a.specs.declared.Role.TheVariants.{Master, Slave}
use Rattle.mode_a.specs.declared.Number.{Number}
use Rattle.mode_a.specs.declared.Words.{Words}
use Rattle.mode_a.specs.declared.Place.{Place}
use Rattle.mode_a.specs.declared.Identity.{Identity}
use Rattle.mode_a.specs.declared.Waiting.{Waiting}
use Rattle.mode_a.specs.declared.Own.{Own}
use Rattle.mode_a.specs.declared.Owed.{Owed}
use Rattle.mode_a.specs.declared.Peer.TheVariants.{Known}
use Rattle.mode_a.specs.declared.Number.TheVariants.{One}
use Rattle.mode_a.specs.declared.Place.TheVariants.{Receiving, Asking, StandBy, Lost}
use Rattle.mode_a.specs.declared.Offer.{Offer}
use Rattle.mode_a.specs.declared.Station.{Station}
use Rattle.mode_a.specs.declared.Listening.{Listening}
use Rattle.mode_a.specs.declared.Doing.{Doing}
use Rattle.mode_a.specs.declared.Doing.TheVariants.{Repeats, Goes, Takes, Receives, Opens, Accepts, Rests, Listens, Reaches, Answers3, Bars, Ends, Turns, Meets, Again, Yields}
use Rattle.mode_a.specs.declared.Reply.{Reply}
use Rattle.mode_a.specs.Station.{list_of, single, silence, ααα, other, asks_for}
use Rattle.identity.specs.declared.Seven.{Seven}
use Rattle.identity.specs.Table3.{is_identity}
use Rattle.identity.specs.Sums.{signals_of7, is_callable7}
use Rattle.mode_a.specs.Calls.{signals_of, is_callable}
use Rattle.mode_a.specs.Heard.{may_hold, is_block, is_words, call_of, call3_of, heard_of}
use Rattle.mode_a.specs.Over.{listened_all}
use Rattle.mode_a.specs.Answerback.{passes, owed_exists}
use Rattle.mode_a.specs.Rows.{row_of, requests, both_heard, all_heard, heard_then}
use Rattle.mode_a.specs.Step.{stands_at, moved_to, rested, begun, called, called3, waits_on, bars, listens, knowing, again, meets, unidentified, called_to, sends, holds, takes_offer, owing, takes_owed, takes_by, takes, repeats, heard_at, is_over, accepts_by, owed_for, is_asked, accepts_heard, traffic_in, done, sound_place, sound, offered, stepping, station_after}
use Rattle.runs.specs.Runs.{Event, Run, start, ◌▷◌, said, next, after, InOrder}
use Rattle.runs.proofs.CodeLaws.{is_owed, owed_block}

-- what may stand in an offered text, and be held, is a block
text_test : (w : Words) → (ltb (first_not may_hold (list_of w)) 3 ≡ not (is_block w)) × (leb 3 (first_not may_hold (list_of w)) ≡ is_block w)
unfolding first_not is_block
text_test w = go (may_hold w.0) (may_hold w.1) (may_hold w.2)
  where
    go : (a b c : Bool) → let n = if a then suc (if b then suc (if c then suc 0 else 0) else 0) else 0 in (ltb n 3 ≡ not (a && (b && c))) × (leb 3 n ≡ (a && (b && c)))
    go true true true = (refl, refl)
    go true true false = (refl, refl)
    go true false c = (refl, refl)
    go false b c = (refl, refl)

pub held_block : (w : Words) → leb 3 (first_not may_hold (list_of w)) ≡ is_block w
held_block w = (text_test w).1

-- and what may stand in an offered call is an identity that can be called, for one of three blocks and the own one too
call_test : (i : Identity) → ltb (first_not is_identity (signals_of i)) 4 ≡ not (is_callable i)
unfolding first_not is_callable
call_test i = go (is_identity i.0) (is_identity i.1) (is_identity i.2) (is_identity i.3)
  where
    go : (a b c d : Bool) → ltb (if a then suc (if b then suc (if c then suc (if d then suc 0 else 0) else 0) else 0) else 0) 4 ≡ not (a && (b && (c && d)))
    go true true true true = refl
    go true true true false = refl
    go true true false d = refl
    go true false c d = refl
    go false b c d = refl

-- some signal of the list is outside table 3a
abbrev outside : List ℕ → Bool
outside l = ltb (first_not is_identity l) (length l)

outside_more : (x : ℕ) (l : List ℕ) → outside (x ∷ l) ≡ (if is_identity x then outside l else true)
unfolding first_not
outside_more x l = go (is_identity x)
  where
    go : (t : Bool) → ltb (if t then suc (first_not is_identity l) else 0) (suc (length l)) ≡ (if t then outside l else true)
    go true = leb-suc-suc (suc (first_not is_identity l)) (length l)
    go false = le-leb 1 (suc (length l)) (omega arith)

call3_test : (i j : Seven) → outside (signals_of7 i ++ signals_of7 j) ≡ not (is_callable7 i && is_callable7 j)
unfolding is_callable7 first_not
call3_test i j =
    rw (outside_more i.0, outside_more i.1, outside_more i.2, outside_more i.3, outside_more i.4, outside_more i.5, outside_more i.6, seven j) (both (is_identity i.0) (is_identity i.1) (is_identity i.2) (is_identity i.3) (is_identity i.4) (is_identity i.5) (is_identity i.6) (is_callable7 j))
  where
    both : (a b c d e f g k : Bool) → (if a then (if b then (if c then (if d then (if e then (if f then (if g then not k else true) else true) else true) else true) else true) else true) else true) ≡ not ((a && (b && (c && (d && (e && (f && g)))))) && k)
    both true true true true true true true k = refl
    both true true true true true true false k = refl
    both true true true true true false g k = refl
    both true true true true false f g k = refl
    both true true true false e f g k = refl
    both true true false d e f g k = refl
    both true false c d e f g k = refl
    both false b c d e f g k = refl

    seven : (i : Seven) → outside (signals_of7 i) ≡ not (is_callable7 i)
    seven i =
        rw (outside_more i.0, outside_more i.1, outside_more i.2, outside_more i.3, outside_more i.4, outside_more i.5, outside_more i.6) (both (is_identity i.0) (is_identity i.1) (is_identity i.2) (is_identity i.3) (is_identity i.4) (is_identity i.5) (is_identity i.6) true ∙ ap not (and-true (is_callable7 i)))

abbrev bad_call : Own → Offer → Bool
bad_call own o = outside (called_to own o)

abbrev bad_text : Offer → Bool
bad_text o = ltb (first_not may_hold (offered o)) (length (offered o))

fine : (own : Own) (o : Offer) → bad_call own o ≡ false → bad_text o ≡ false → InOrder own o
fine own (Offer.Text w) d e = not-false (is_block w) (sym (text_test w).0 ∙ e)
fine own Offer.Over d e = tt
fine own Offer.End d e = tt
fine own Offer.Nothing d e = tt
fine own (Offer.Call i) d e = not-false (is_callable i) (sym (call_test i) ∙ d)
fine own (Offer.Call3 i) d e =
    (and-eq-true_iff _ _).0 (not-false (is_callable7 i && is_callable7 own.seven) (sym (call3_test i own.seven) ∙ d))

not_refused : (own : Own) (o : Offer) → InOrder own o → (bad_call own o ≡ false) × (bad_text o ≡ false)
unfolding first_not
not_refused own (Offer.Text w) i = (refl, (text_test w).0 ∙ ap not i)
not_refused own Offer.Over i = (refl, refl)
not_refused own Offer.End i = (refl, refl)
not_refused own Offer.Nothing i = (refl, refl)
not_refused own (Offer.Call x) i = (call_test x ∙ ap not i, refl)
not_refused own (Offer.Call3 x) i = (call3_test x own.seven ∙ rw (i.0, i.1), refl)

pub record Answers (s : Station) (b : Words) (o : Offer) (r : Reply) : Type 0 where
  pub is_done : r ≡ done s b o (row_of s.own s.role s.place (heard_of s.own b))
  pub is_sound : sound_place s.place ≡ true
  pub is_owed_lem : owed_exists s.own.code s.owed ≡ true
  pub is_passed : passes s.own.code ≡ true
  pub is_fine : InOrder s.own o

pub answers : (s : Station) (b : Words) (o : Offer) (r : Reply) → stepping s b o ≡ answered r → Answers s b o r
unfolding stepping sound
answers s b o r e =
    go (bad_call s.own o) (leb s.count 31) (sound_place s.place) (owed_exists s.own.code s.owed) (passes s.own.code) (bad_text o) refl refl refl refl refl e
  where
    go : (d c p w k q : Bool) → bad_call s.own o ≡ d → sound_place s.place ≡ p → owed_exists s.own.code s.owed ≡ w → passes s.own.code ≡ k → bad_text o ≡ q → ◌≡◌ {A = Answer Reply} (if d then refused 8 (first_not is_identity (called_to s.own o)) else if not (c && (p && w)) then refused 4 0 else if not k then refused 9 0 else if q then refused 3 (first_not may_hold (offered o)) else answered (done s b o (row_of s.own s.role s.place (heard_of s.own b)))) (answered r) → Answers s b o r
    go true c p w k q h i u v j e = let z : ◌≡◌ {A = ℕ} 0 1 = cc in absurd (omega arith)
    go false false p w k q h i u v j e = let z : ◌≡◌ {A = ℕ} 0 1 = cc in absurd (omega arith)
    go false true false w k q h i u v j e = let z : ◌≡◌ {A = ℕ} 0 1 = cc in absurd (omega arith)
    go false true true false k q h i u v j e = let z : ◌≡◌ {A = ℕ} 0 1 = cc in absurd (omega arith)
    go false true true true false q h i u v j e = let z : ◌≡◌ {A = ℕ} 0 1 = cc in absurd (omega arith)
    go false true true true true true h i u v j e = let z : ◌≡◌ {A = ℕ} 0 1 = cc in absurd (omega arith)
    go false true true true true false h i u v j e = record { is_done = cc; is_sound = i; is_owed_lem = u; is_passed = v; is_fine = fine s.own o h j }

pub is_answered_lem : (s : Station) (b : Words) (o : Offer) → sound s ≡ true → passes s.own.code ≡ true → InOrder s.own o → stepping s b o ≡ answered (done s b o (row_of s.own s.role s.place (heard_of s.own b)))
unfolding stepping
is_answered_lem s b o t k i = rw ((not_refused s.own o i).0, t, k, (not_refused s.own o i).1)

-- the same station at a place; every station is so at its own
abbrev pub placed : Station → Place → Station
placed s p = stands_at s p s.count s.case s.plus

-- a row that repeats: this is the 32nd in a row, or it is one more
abbrev pub one_more : Station → Station
one_more s = stands_at s s.place (s.count + 1) s.case s.plus

pub by_repeat : (P : Reply → Type 0) (s : Station) (w : Words) → (leb 31 s.count ≡ true → P (sends (moved_to s Lost) silence)) → (leb 31 s.count ≡ false → P (sends (one_more s) w)) → P (repeats s w)
by_repeat P s w = go (leb 31 s.count)
  where
    go : (t : Bool) → (t ≡ true → P (sends (moved_to s Lost) silence)) → (t ≡ false → P (sends (one_more s) w)) → P (if t then sends (moved_to s Lost) silence else sends (one_more s) w)
    go true lost more = lost refl
    go false lost more = more refl

-- a row that repeats in identification: the 32nd in a row, or one more, standing so
pub by_again : (P : Reply → Type 0) (s : Station) (p : Place) (w : Words) → (leb 31 s.count ≡ true → P (sends (rested s 0) silence)) → (leb 31 s.count ≡ false → P (sends (stands_at s p (s.count + 1) s.case s.plus) w)) → P (again s p w)
by_again P s p w = go (leb 31 s.count)
  where
    go : (t : Bool) → (t ≡ true → P (sends (rested s 0) silence)) → (t ≡ false → P (sends (stands_at s p (s.count + 1) s.case s.plus) w)) → P (if t then sends (rested s 0) silence else sends (stands_at s p (s.count + 1) s.case s.plus) w)
    go true rest more = rest refl
    go false rest more = more refl

-- the end of identification at the slave: Asking where over is offered, or Receiving
pub by_meet : (P : Reply → Type 0) (s : Station) (t : Bool) → P (meets s true) → P (meets s false) → P (meets s t)
by_meet P s true asks awaits = asks
by_meet P s false asks awaits = awaits

-- a row that takes: the offer where nothing is owed, else the next block of the answer (02, T-06)
pub by_owed : (P : Reply → Type 0) (s : Station) (n : Number) (o : Offer) → (s.owed ≡ Owed.Nothing → P (takes_offer s n o)) → (is_owed s.owed ≡ true → P (takes_owed s n s.owed)) → P (takes s n o)
by_owed P s n o offer answer = go s.owed offer answer
  where
    go : (w : Owed) → (w ≡ Owed.Nothing → P (takes_offer s n o)) → (is_owed w ≡ true → P (takes_owed s n w)) → P (takes_by s n o w)
    go Owed.Nothing offer answer = offer refl
    go (Owed.Back i) offer answer = answer refl
    go (Owed.Keep i) offer answer = answer refl

-- and so a block is held, whatever is owed then, or ααα is sent for the first time
pub by_take : (P : Reply → Type 0) (s : Station) (n : Number) (o : Offer) → ((u : Owed) (w : Words) (t : Bool) → P (holds (owing s u) n w t)) → P (takes_offer s n Offer.End) → P (takes s n o)
by_take P s n o block end = by_owed P s n o (λ e. go o) (λ e. block _ _ false)
  where
    go : (o : Offer) → P (takes_offer s n o)
    go (Offer.Text w) = block s.owed w true
    go Offer.Over = block s.owed _ true
    go Offer.End = end
    go Offer.Nothing = block s.owed _ true
    go (Offer.Call i) = block s.owed _ false
    go (Offer.Call3 i) = block s.owed _ false

-- and where the offer is in order and the code passes, it is a block
pub by_take_block : (P : Reply → Type 0) (s : Station) (n : Number) (own : Own) (o : Offer) → passes s.own.code ≡ true → InOrder own o → ((u : Owed) (w : Words) (t : Bool) → is_block w ≡ true → P (holds (owing s u) n w t)) → P (takes_offer s n Offer.End) → P (takes s n o)
unfolding is_block may_hold traffic_of meaning_of
by_take_block P s n own o k i block end =
    by_owed P s n o (λ e. go o i) (λ e. block _ _ false (owed_block s.own.code s.owed k))
  where
    go : (o : Offer) → InOrder own o → P (takes_offer s n o)
    go (Offer.Text w) i = block s.owed w true i
    go Offer.Over i = block s.owed _ true refl
    go Offer.End i = end
    go Offer.Nothing i = block s.owed _ true refl
    go (Offer.Call x) i = block s.owed _ false refl
    go (Offer.Call3 x) i = block s.owed _ false refl

-- a row that accepts: D in figures was heard, or not
pub by_heard : (P : Reply → Type 0) (s : Station) (n : Number) (b : Words) (o : Offer) (l : Listening) → (l.asked ≡ true → P (is_asked s b l)) → (l.asked ≡ false → P (accepts_by s n b (is_over o) l)) → P (accepts_heard s n b o l)
by_heard P s n b o l = go l.asked
  where
    go : (t : Bool) → (t ≡ true → P (is_asked s b l)) → (t ≡ false → P (accepts_by s n b (is_over o) l)) → P (if t then is_asked s b l else accepts_by s n b (is_over o) l)
    go true asked unasked = asked refl
    go false asked unasked = unasked refl

-- and so CS3 and Asking, whatever is owed then, or the other number
pub by_accept : (P : Reply → Type 0) (s : Station) (n : Number) (b : Words) (o : Offer) (l : Listening) → ((w : Owed) (u : Bool) → P (record { station = owing (heard_at s Asking l) w; sent = single cs3; printed = traffic_in b; taken = u })) → P (record { station = heard_at s (Receiving (other n)) l; sent = asks_for (other n); printed = traffic_in b; taken = false }) → P (accepts_heard s n b o l)
by_accept P s n b o l asks awaits = by_heard P s n b o l (λ e. asks (owed_for l) false) (λ e. go (is_over o) l.over)
  where
    go : (t u : Bool) → P (accepts_by s n b t (record { case = l.case; plus = l.plus; over = u; asked = l.asked }))
    go true u = asks s.owed true
    go false true = asks s.owed false
    go false false = awaits

-- a row of Stand-by that answers no call: the call that is offered is placed, or it waits on
pub by_listen : (P : Reply → Type 0) (s : Station) (w : Waiting) (o : Offer) → ((i : Identity) → o ≡ Offer.Call i → w.wait ≡ 0 → P (called s i)) → ((i : Seven) → o ≡ Offer.Call3 i → leb 1 w.wait && bars s.other i ≡ false → P (called3 s i)) → P (waits_on s w) → P (listens s w o)
by_listen P s w (Offer.Text b) place place3 wait = wait
by_listen P s w Offer.Over place place3 wait = wait
by_listen P s w Offer.End place place3 wait = wait
by_listen P s w Offer.Nothing place place3 wait = wait
by_listen P s w (Offer.Call i) place place3 wait = go (eqb w.wait 0) refl
  where
    go : (t : Bool) → eqb w.wait 0 ≡ t → P (if t then called s i else waits_on s w)
    go true e = place i refl (eqb-true w.wait 0 e)
    go false e = wait
by_listen P s w (Offer.Call3 i) place place3 wait = go (leb 1 w.wait && bars s.other i) refl
  where
    go : (t : Bool) → leb 1 w.wait && bars s.other i ≡ t → P (if t then waits_on s w else called3 s i)
    go true e = wait
    go false e = place3 i refl e

-- the own identities and the code: no step changes them
pub own_kept : (s : Station) (b : Words) (o : Offer) (d : Doing) → (done s b o d).station.own ≡ s.own
unfolding done
own_kept s b o (Repeats w) = by_repeat (λ (r : Reply). r.station.own ≡ s.own) s w (λ t. refl) (λ t. refl)
own_kept s b o (Goes p w) = refl
own_kept s b o (Takes n) = by_take (λ (r : Reply). r.station.own ≡ s.own) s n o (λ u w t. refl) refl
own_kept s b o (Receives n) = refl
own_kept s b o Opens = refl
own_kept s b o (Accepts n) = by_accept (λ (r : Reply). r.station.own ≡ s.own) s n b o (listened_all s.case s.plus b) (λ w u. refl) refl
own_kept s b o (Rests n w) = refl
own_kept s b o Doing.Answers = refl
own_kept s b o (Listens w) = by_listen (λ (r : Reply). r.station.own ≡ s.own) s w o (λ i e z. refl) (λ i e z. refl) refl
own_kept s b o (Reaches p n) = by_take (λ (r : Reply). r.station.own ≡ s.own) (knowing s p) n o (λ u w t. refl) refl
own_kept s b o Answers3 = refl
own_kept s b o (Bars i) = refl
own_kept s b o (Ends i) = refl
own_kept s b o (Turns i) = refl
own_kept s b o (Meets i) = by_meet (λ (r : Reply). r.station.own ≡ s.own) (knowing s (Known i)) (is_over o) refl refl
own_kept s b o (Again p w) = by_again (λ (r : Reply). r.station.own ≡ s.own) s p w (λ t. refl) (λ t. refl)
own_kept s b o (Yields n) = refl

pub own_stays : (s : Station) (b : Words) (o : Offer) (r : Reply) → stepping s b o ≡ answered r → r.station.own ≡ s.own
own_stays s b o r e = ap (λ (r : Reply). r.station.own) (answers s b o r e).is_done ∙ own_kept s b o _

-- "Lost: silent for good, no offer taken"
module _ (s : Station) (b : Words) (o : Offer) (r : Reply) (a : Answers s b o r) where
  pub lost_stays : s.place ≡ Lost → r ≡ sends (moved_to s Lost) silence
  unfolding done
  lost_stays e = a.is_done ∙ rw e

  -- and Stand-by that hears the last of its own call blocks, or does not
  module _ (w : Waiting) (e : s.place ≡ StandBy w) where
    pub standby_answers : both_heard w.heard (call_of s.own.four b) ≡ true → r ≡ sends (begun s Slave (Receiving One)) (asks_for One)
    unfolding done heard_of
    standby_answers t = a.is_done ∙ rw (e, t)

    pub standby_answers3 : both_heard w.heard (call_of s.own.four b) ≡ false → all_heard w.heard3 (call3_of s.own.seven b) ≡ true → r ≡ sends (begun s Slave unidentified) (single cs4)
    unfolding done heard_of
    standby_answers3 t u = a.is_done ∙ rw (e, t, u)

    pub standby_listens : both_heard w.heard (call_of s.own.four b) ≡ false → all_heard w.heard3 (call3_of s.own.seven b) ≡ false → r ≡ listens s (record { wait = w.wait; heard = call_of s.own.four b; heard3 = heard_then w.heard3 (call3_of s.own.seven b) }) o
    unfolding done heard_of
    standby_listens t u = a.is_done ∙ rw (e, t, u)

-- what every answer keeps is kept
pub keeps : (P : Station → Type 0) (s : Station) (e : Event) → ((r : Reply) → said s e ≡ answered r → P s → P r.station) → P s → P (next s e)
keeps P s e step p = go (said s e) refl
  where
    go : (a : Answer Reply) → said s e ≡ a → P (station_after s a)
    go (answered r) i = step r i p
    go (refused n v) i = p

-- they are those of the start, in every run
pub own_lasts : (s : Station) (run : Run) → (after s run).own ≡ s.own
own_lasts s start = refl
own_lasts s (run ▷ e) =
    keeps (λ (t : Station). t.own ≡ s.own) (after s run) e (λ r p i. own_stays (after s run) e.burst e.offer r p ∙ i) (own_lasts s run)

-- neither a request nor a block is ααα
pub requests_no_ααα : (r : Role) → is_words (requests r) ααα ≡ false
unfolding is_words
requests_no_ααα Master = refl
requests_no_ααα Slave = refl

pub block_no_ααα : (w : Words) → is_block w ≡ true → is_words w ααα ≡ false
unfolding is_block is_words may_hold traffic_of meaning_of
block_no_ααα w i = go (eqb w.0 alpha) refl
  where
    go : (t : Bool) → eqb w.0 alpha ≡ t → t && (eqb w.1 alpha && eqb w.2 alpha) ≡ false
    go true e = absurd (true≢false (sym ((and-eq-true_iff _ _).0 i).0 ∙ ap may_hold (eqb-true w.0 alpha e)))
    go false e = refl
