-- Every circuit of a run is linked; and what follows of that at once.
--     linked         every run
--     carried        what is owed tells what a direction has carried
--     hearer_keeps, sender_keeps   what is owed is the block that is held
--     never_both     no phase has both at Sending
--     sender_sends   nor one at Sending and one at Stand-by, that might place a call
--     no_call_offered   a call is placed only where one is offered
--     no_cs3_heard   no phase lets Opening hear CS3
-- Assumes nothing.
use mathlib.Core.Path.{◌≡◌, refl, ap, sym, subst, ◌∙◌}
use mathlib.Core.Bool.{Bool, true, false, ◌&&◌, ◌||◌, true≢false}
use mathlib.Core.List.{List, [], ◌∷◌, ◌++◌, append-nil, append_assoc}
use Prim.Native.Nat.{ℕ, ◌≤◌}
use native.Mathlib.Omega.{arith}
use lib.ListN.{length, length-append}
use Rattle.signals.specs.Numbers.{Answer, answered, refused}
use Rattle.identity.specs.declared.Seven.{Seven}
use Rattle.mode_a.specs.declared.Words.{Words}
use Rattle.mode_a.specs.declared.Held.{Held}
use Rattle.mode_a.specs.declared.Code.{Code}
use Rattle.mode_a.specs.declared.Place.{Place}
use Rattle.mode_a.specs.declared.Identity.{Identity}
use Rattle.mode_a.specs.declared.Number.TheVariants.{Two}
use Rattle.mode_a.specs.declared.Mark.{Mark}
use Rattle.mode_a.specs.declared.Place.TheVariants.{Sending, Turning, Opening, Ending, Receiving, Asking, StandBy, Lost, Calling, Calling3, Identifying, Answering}
use Rattle.mode_a.specs.declared.Offer.{Offer}
use Rattle.mode_a.specs.declared.Station.{Station}
use Rattle.mode_a.specs.declared.Reply.{Reply}
use Rattle.mode_a.specs.Station.{list_of, marks}
use Rattle.mode_a.specs.declared.Waiting.{Waiting}
use Rattle.mode_a.specs.Calls.{next_block3}
use Rattle.mode_a.specs.Heard.{First, Cs, Cs3, Rq, Else, first_of, call_of, call3_of}
use Rattle.mode_a.specs.Rows.{both_heard, all_heard}
use Rattle.runs.specs.Places.{is_sending, is_opening, is_stand_by, at_sending}
use Rattle.runs.specs.Runs.{start, ◌▷◌, is_call, taking, is_taken}
use Rattle.runs.proofs.PlaceLaws.{places_apart, is_standby}
use Rattle.runs.proofs.LetterLaws.{lettered_at, Lettered, lettered_step}
use Rattle.runs.proofs.StepLaws.{Answers, answers, by_listen, standby_answers, standby_answers3, standby_listens}
use Rattle.runs.specs.Circuit.{Event, heard, Harmless, Run, traffic, signals_in, Direction, nothing_yet, Circuit, fresh_with, said, places_call, NoCallPlaced, confirmed_by, accepted_by, answered_by, goes_on, next, after, AllHarmless}
use Rattle.circuit.specs.Starts.{CallPlaced, CallCompleted, Begins, with_block_lem, with_end, Call3Placed, CallTurned, Starts, both_fresh, placed, completed, placed3, turned}
use Rattle.circuit.specs.Demand.{Carried, in_hand, Kept}
use Rattle.circuit.proofs.DamageLaws.{Mangled, mangled, mangled_silence, FirstIs, first_heard_lem}
use Rattle.circuit.proofs.Link.{Owed, none, unheard, heard as accepted, Link, s1_block, s1_rqs, s1_own, s1_rqs', s1_other, s2_rqs, s2_cs3, s3_any, s3_cs3, s4_rq, s4_rqs, s5_asks, s5_rq, e1_alphas, e1_any, e2_any, e2_any', e3_silence, e3_any, e4_any, c1_any, i1_call, calls, Told, waiting, ahead, At, here, gone, Says, aloud, no_more, Linked, Moved, stays, takes_block, confirms, confirms_and_takes, Came, nothing_new, came, After}
use Rattle.circuit.proofs.ReplyLaws.{asks_first, to_take}
use Rattle.circuit.proofs.CallStepLaws.{call_places}
use Rattle.circuit.proofs.StepLaws.{idle, acts_at}

-- the lists of a direction
signals_append : (l m : List Words) → signals_in (l ++ m) ≡ signals_in l ++ signals_in m
unfolding signals_in
signals_append [] m = refl
signals_append (b ∷ bs) m = rw (signals_append bs m) (sym (append_assoc (traffic (list_of b)) (signals_in bs) (signals_in m)))

abbrev sent : Direction → List Words → List Words → Direction
sent d t c = record { taken = d.taken ++ t; accepted = d.accepted; printed = d.printed; confirmed = d.confirmed ++ c }

abbrev received : Direction → List Words → List ℕ → Direction
received d a q = record { taken = d.taken; accepted = d.accepted ++ a; printed = d.printed ++ q; confirmed = d.confirmed }

told_sent : {o o' : Owed} {t c : List Words} (d : Direction) → Told o d → Moved o o' t c → Told o' (sent d t c)
told_sent d u stays =
    record {
      taken_is = cc (append-nil d.taken, append-nil d.confirmed);
      accepted_is = cc (append-nil d.confirmed);
      printed_is = u.printed_is;
    }
told_sent d u takes_block =
    record { taken_is = cc; accepted_is = cc (append-nil (d.confirmed ++ [])); printed_is = u.printed_is }
told_sent d u (confirms {b = b}) =
    record {
      taken_is = cc (append-nil d.taken, append-nil (d.confirmed ++ b ∷ []));
      accepted_is = cc (append-nil (d.confirmed ++ b ∷ []));
      printed_is = u.printed_is;
    }
told_sent d u (confirms_and_takes {b = b}) =
    record { taken_is = cc; accepted_is = cc (append-nil (d.confirmed ++ b ∷ [])); printed_is = u.printed_is }

one_block : (b : Words) → signals_in (b ∷ []) ≡ traffic (list_of b)
unfolding signals_in
one_block b = append-nil (traffic (list_of b))

told_received : {o o' : Owed} {a : List Words} {q : List ℕ} (d : Direction) → Told o d → Came o o' a q → Told o' (received d a q)
told_received d u nothing_new =
    record {
      taken_is = u.taken_is;
      accepted_is = cc (append-nil d.accepted);
      printed_is = cc (append-nil d.accepted, append-nil d.printed);
    }
told_received d u (came {b = b}) =
    record {
      taken_is = u.taken_is;
      accepted_is = cc (append-nil d.confirmed);
      printed_is = cc (signals_append d.accepted (b ∷ []), one_block b);
    }

-- one step
pub heard_mangled : {p : Place} {w : Words} (c : Circuit) (e : Event) → Harmless e → Says c.sender p c.burst w →
    Mangled w (heard e c.burst)
heard_mangled c e h (aloud q i) = subst (λ (v : Words). Mangled v (heard e c.burst)) i (mangled e c.burst h)
heard_mangled {w = w} c e h (no_more q i) = subst (λ (v : Words). Mangled w (heard e v)) (sym i) (mangled_silence e w h)

pub still_at : {p : Place} {sent w : Words} (s : Station) → Says s p sent w → At s p
still_at s (aloud q i) = here q
still_at s (no_more q i) = gone q

linked_again : (c : Circuit) (o : Offer) (b : Words) (r : Reply) (l : Linked c) →
    After (taking c.hearer.place (first_of b.0)) (to_take c.hearer o) l.owed_hearer l.owed_sender l.sender_at r (confirmed_by c.hearer b) (accepted_by c.hearer b) →
    Lettered r.station → Linked (answered_by c o b r)
linked_again c o b r l a k =
    record {
      hearer_at = l.sender_at;
      sender_at = a.place;
      would_say = a.word;
      owed_hearer = a.op';
      owed_sender = a.ox';
      link = a.link;
      hears = still_at c.sender l.says;
      says = a.says;
      hearer_lettered = l.sender_lettered;
      sender_lettered = k;
      told_hearer = told_received c.from_sender l.told_sender a.hears;
      told_sender = told_sent c.from_hearer l.told_hearer a.sends;
    }

-- at Stand-by no call is placed
pub quiet : (c : Circuit) (e : Event) (r : Reply) → said c e ≡ answered r → places_call c e ≡ false → is_stand_by c.hearer.place ≡ true →
    r.taken ≡ false
quiet c e r i n s = sym (ap is_taken i) ∙ sym (rw s) ∙ n

pub no_call_offered : (c : Circuit) (e : Event) → is_call e.offer ≡ false → places_call c e ≡ false
no_call_offered c e n = go c.hearer.place refl
  where
    silent : (w : Waiting) (a : Answer Reply) → c.hearer.place ≡ StandBy w → said c e ≡ a → is_taken a ≡ false
    silent w (answered r) p i =
        let y = answers c.hearer (heard e c.burst) e.offer r i in
        by_both (both_heard w.heard (call_of c.hearer.own.four (heard e c.burst))) refl (all_heard w.heard3 (call3_of c.hearer.own.seven (heard e c.burst))) refl y
      where
        by_both : (t : Bool) → both_heard w.heard (call_of c.hearer.own.four (heard e c.burst)) ≡ t →
            (u : Bool) → all_heard w.heard3 (call3_of c.hearer.own.seven (heard e c.burst)) ≡ u →
            Answers c.hearer (heard e c.burst) e.offer r → r.taken ≡ false
        by_both true b u d y = ap (λ (r : Reply). r.taken) (standby_answers c.hearer (heard e c.burst) e.offer r y w p b)
        by_both false b true d y = ap (λ (r : Reply). r.taken) (standby_answers3 c.hearer (heard e c.burst) e.offer r y w p b d)
        by_both false b false d y =
            ap (λ (r : Reply). r.taken) (standby_listens c.hearer (heard e c.burst) e.offer r y w p b d)
            ∙ by_listen (λ (r : Reply). r.taken ≡ false) c.hearer _ e.offer (λ x q z. absurd (true≢false (sym (ap is_call q) ∙ n))) (λ x q z. absurd (true≢false (sym (ap is_call q) ∙ n))) refl
    silent w (refused m v) p i = refl

    go : (q : Place) → c.hearer.place ≡ q → is_stand_by q && is_taken (said c e) ≡ false
    go (StandBy w) p = silent w (said c e) p refl
    go (Sending h) p = refl
    go (Turning m) p = refl
    go Opening p = refl
    go (Ending d) p = refl
    go (Receiving m) p = refl
    go Asking p = refl
    go Lost p = refl
    go (Calling d) p = refl
    go (Calling3 d) p = refl
    go (Identifying d) p = refl
    go (Answering d) p = refl

pub linked_next : (c : Circuit) (e : Event) → Harmless e → places_call c e ≡ false → Linked c → Linked (next c e)
linked_next c e h n l = go (said c e) refl
  where
    go : (a : Answer Reply) → said c e ≡ a → Linked (goes_on c e a)
    go (answered r) i =
        let y = answers c.hearer (heard e c.burst) e.offer r i in
        linked_again c e.offer (heard e c.burst) r l (rw y.is_done (acts_at c.hearer (heard e c.burst) e.offer l.hears l.link l.hearer_lettered (heard_mangled c e h l.says) (y.is_passed, y.is_fine) (λ s. ap (λ (r : Reply). r.taken) (sym y.is_done) ∙ quiet c e r i n s))) (lettered_step c.hearer (heard e c.burst) e.offer r i l.hearer_lettered)
    go (refused n v) i = l

-- every run
linked_fresh : (k j : Code) → Linked (fresh_with k j)
unfolding signals_in
linked_fresh k j =
    record {
      hearer_at = _;
      sender_at = _;
      would_say = _;
      owed_hearer = _;
      owed_sender = _;
      link = s5_asks;
      hears = here refl;
      says = aloud refl refl;
      hearer_lettered = tt;
      sender_lettered = tt;
      told_hearer = record { taken_is = refl; accepted_is = refl; printed_is = refl };
      told_sender = record { taken_is = refl; accepted_is = refl; printed_is = refl };
    }

-- a call just placed, and a completed call
none_told : (d : Direction) → d ≡ nothing_yet → Told none d
unfolding signals_in
none_told d e = rw e (record { taken_is = refl; accepted_is = refl; printed_is = refl })

block_told : (b : Words) (d : Direction) → d ≡ record { taken = b ∷ []; accepted = []; printed = []; confirmed = [] } → Told (unheard b) d
unfolding signals_in
block_told b d e = rw e (record { taken_is = refl; accepted_is = refl; printed_is = refl })

lettered_at_lem : {p : Place} (s : Station) → s.place ≡ p → lettered_at s.own p → Lettered s
lettered_at_lem s e l = subst (lettered_at s.own) (sym e) l

linked_placed : (i : Identity) (c : Circuit) → CallPlaced i c → Linked c
linked_placed i c y =
    let w = is_standby c.hearer.place y.hearer_at in
    record {
      hearer_at = _;
      sender_at = _;
      would_say = _;
      owed_hearer = _;
      owed_sender = _;
      link = calls (c1_any {x = w.0});
      hears = here w.1;
      says = aloud (ap (λ (s : Station). s.place) y.sender_is) refl;
      hearer_lettered = lettered_at_lem c.hearer w.1 tt;
      sender_lettered = lettered_at_lem c.sender (ap (λ (s : Station). s.place) y.sender_is) tt;
      told_hearer = none_told c.from_hearer y.none_from_hearer;
      told_sender = none_told c.from_sender y.none_from_sender;
    }

linked_completed : (c : Circuit) → CallCompleted c → Linked c
linked_completed c y = go y.begins
  where
    go : Begins c → Linked c
    go (with_block_lem {b = b} i p q d) =
        record {
          hearer_at = _;
          sender_at = _;
          would_say = _;
          owed_hearer = _;
          owed_sender = _;
          link = s1_block i;
          hears = here y.hearer_place;
          says = aloud p q;
          hearer_lettered = lettered_at_lem c.hearer y.hearer_place tt;
          sender_lettered = lettered_at_lem c.sender p tt;
          told_hearer = none_told c.from_hearer y.none_from_hearer;
          told_sender = block_told b c.from_sender d;
        }
    go (with_end p q d) =
        record {
          hearer_at = _;
          sender_at = _;
          would_say = _;
          owed_hearer = _;
          owed_sender = _;
          link = e1_alphas;
          hears = here y.hearer_place;
          says = aloud p q;
          hearer_lettered = lettered_at_lem c.hearer y.hearer_place tt;
          sender_lettered = lettered_at_lem c.sender p tt;
          told_hearer = none_told c.from_hearer y.none_from_hearer;
          told_sender = none_told c.from_sender d;
        }

linked_placed3 : (i : Seven) (c : Circuit) → Call3Placed i c → Linked c
unfolding next_block3
linked_placed3 i c y =
    record {
      hearer_at = _;
      sender_at = _;
      would_say = _;
      owed_hearer = _;
      owed_sender = _;
      link = calls (i1_call {x = y.waits} {c = record { to = i; sent = 1 }} 0 y.called_letters (ap (λ (m : Mark). marks m Two) y.none_heard));
      hears = here y.hearer_at;
      says = aloud (ap (λ (s : Station). s.place) y.sender_is) y.burst_is;
      hearer_lettered = lettered_at_lem c.hearer y.hearer_at tt;
      sender_lettered = subst Lettered (sym y.sender_is) (y.called_letters, y.caller_letters);
      told_hearer = none_told c.from_hearer y.none_from_hearer;
      told_sender = none_told c.from_sender y.none_from_sender;
    }

linked_turned : (c : Circuit) → CallTurned c → Linked c
linked_turned c y =
    record {
      hearer_at = _;
      sender_at = _;
      would_say = _;
      owed_hearer = _;
      owed_sender = _;
      link = s3_any {n = Two};
      hears = here y.hearer_place;
      says = aloud y.sender_place y.burst_is;
      hearer_lettered = lettered_at_lem c.hearer y.hearer_place tt;
      sender_lettered = lettered_at_lem c.sender y.sender_place tt;
      told_hearer = none_told c.from_hearer y.none_from_hearer;
      told_sender = none_told c.from_sender y.none_from_sender;
    }

linked_start : (c : Circuit) → Starts c → Linked c
linked_start c (both_fresh k j) = linked_fresh k j
linked_start c (placed {i = i} y) = linked_placed i c y
linked_start c (completed y) = linked_completed c y
linked_start c (placed3 {i = i} y) = linked_placed3 i c y
linked_start c (turned y) = linked_turned c y

pub linked : (c : Circuit) → Starts c → (run : Run) → AllHarmless run → NoCallPlaced c run → Linked (after c run)
unfolding after AllHarmless NoCallPlaced
linked c y start a n = linked_start c y
linked c y (run ▷ e) a n = linked_next (after c run) e a.1 n.1 (linked c y run a.0 n.0)

-- what is owed tells what a direction has carried
left : Owed → List Words
left none = []
left (unheard b) = b ∷ []
left (accepted b) = []

ahead_left : (o : Owed) → waiting o ≡ ahead o ++ left o
unfolding left
ahead_left none = refl
ahead_left (unheard b) = refl
ahead_left (accepted b) = refl

one_ahead : (o : Owed) → length (ahead o) ≤ 1
one_ahead none = omega arith
one_ahead (unheard b) = omega arith
one_ahead (accepted b) = omega arith

pub carried : (o : Owed) (d : Direction) → Told o d → Carried d
carried o d u =
    let splits : d.taken ≡ d.accepted ++ left o = cc (ahead_left o, append_assoc d.confirmed (ahead o) (left o)) in
    record {
      accepts_a_beginning = record { rest = left o; splits = splits };
      prints_what_it_accepts = u.printed_is;
      prints_a_beginning = record { rest = signals_in (left o); splits = cc (signals_append d.accepted (left o)) };
      confirmed_is_printed = record { rest = ahead o; splits = u.accepted_is };
      ahead_by_at_most_one = omega (arith, one_ahead o, ap length u.accepted_is, length-append d.confirmed (ahead o));
    }

-- what is told by what is held at Sending is the same at every other place
pub not_at_sending {ℓ} : {A : Type ℓ} (f : Held → A) (a : A) (x : Place) → is_sending x ≡ false → at_sending f a x ≡ a
not_at_sending f a (Sending h) e = absurd (true≢false e)
not_at_sending f a (Turning n) e = refl
not_at_sending f a Opening e = refl
not_at_sending f a (Ending x) e = refl
not_at_sending f a (Receiving n) e = refl
not_at_sending f a Asking e = refl
not_at_sending f a (StandBy w) e = refl
not_at_sending f a Lost e = refl
not_at_sending f a (Calling c) e = refl
not_at_sending f a (Calling3 c) e = refl
not_at_sending f a (Identifying i) e = refl
not_at_sending f a (Answering g) e = refl

-- what is owed is what the station holds
owed_hearer : {x p : Place} {w : Words} {ox op : Owed} → Link x p w ox op → waiting ox ≡ in_hand x
owed_hearer (s1_block i) = refl
owed_hearer (s1_rqs i) = refl
owed_hearer (s1_own i) = refl
owed_hearer s1_rqs' = refl
owed_hearer s1_other = refl
owed_hearer s2_rqs = refl
owed_hearer s2_cs3 = refl
owed_hearer s3_any = refl
owed_hearer s3_cs3 = refl
owed_hearer (s4_rq r) = refl
owed_hearer s4_rqs = refl
owed_hearer s5_asks = refl
owed_hearer (s5_rq r) = refl
owed_hearer e1_alphas = refl
owed_hearer e1_any = refl
owed_hearer e2_any = refl
owed_hearer (e2_any' q) = refl
owed_hearer e3_silence = refl
owed_hearer (e3_any q) = refl
owed_hearer (e4_any q) = refl
owed_hearer (calls {x = x} k) = sym (not_at_sending _ [] x (call_places k).0)

owed_sender : {x p : Place} {w : Words} {ox op : Owed} → Link x p w ox op → waiting op ≡ in_hand p
owed_sender l = owed_hearer (idle l).1

one_waits : (o : Owed) → length (waiting o) ≤ 1
one_waits none = omega arith
one_waits (unheard b) = omega arith
one_waits (accepted b) = omega arith

kept_by : (o : Owed) (x p : Place) (d : Direction) → Told o d → waiting o ≡ in_hand x → (¬ (p ≡ Lost) → p ≡ x) → Kept p d
kept_by o x p d u i at =
    record {
      none_dropped = λ n. u.taken_is ∙ ap (λ (l : List Words). d.confirmed ++ l) (i ∙ ap in_hand (sym (at n)));
      one_at_most = omega (arith, one_waits o, ap length u.taken_is, length-append d.confirmed (waiting o));
    }

pub hearer_keeps : (c : Circuit) → Linked c → Kept c.hearer.place c.from_hearer
hearer_keeps c l = kept_by l.owed_hearer l.hearer_at c.hearer.place c.from_hearer l.told_hearer (owed_hearer l.link) (go l.hears)
  where
    go : At c.hearer l.hearer_at → ¬ (c.hearer.place ≡ Lost) → c.hearer.place ≡ l.hearer_at
    go (here e) n = e
    go (gone e) n = absurd (n e)

pub sender_keeps : (c : Circuit) → Linked c → Kept c.sender.place c.from_sender
sender_keeps c l = kept_by l.owed_sender l.sender_at c.sender.place c.from_sender l.told_sender (owed_sender l.link) (go l.says)
  where
    go : Says c.sender l.sender_at c.burst l.would_say → ¬ (c.sender.place ≡ Lost) → c.sender.place ≡ l.sender_at
    go (aloud e j) n = e
    go (no_more e j) n = absurd (n e)

-- where one has sent from Sending, the other is not there, nor at Stand-by
facing_sender : {x p : Place} {w : Words} {ox op : Owed} → Link x p w ox op → is_sending p && (is_sending x || is_stand_by x) ≡ false
facing_sender (s1_block i) = refl
facing_sender (s1_rqs i) = refl
facing_sender (s1_own i) = refl
facing_sender s1_rqs' = refl
facing_sender s1_other = refl
facing_sender s2_rqs = refl
facing_sender s2_cs3 = refl
facing_sender s3_any = refl
facing_sender s3_cs3 = refl
facing_sender (s4_rq r) = refl
facing_sender s4_rqs = refl
facing_sender s5_asks = refl
facing_sender (s5_rq r) = refl
facing_sender e1_alphas = refl
facing_sender e1_any = refl
facing_sender e2_any = refl
facing_sender (e2_any' q) = refl
facing_sender e3_silence = refl
facing_sender (e3_any q) = refl
facing_sender (e4_any q) = refl
facing_sender (calls k) = rw (call_places k).1

-- a station that is not Lost is where its link says
pub place_here : {x q : Place} (s : Station) → At s x → s.place ≡ q → (q ≡ Lost → ⊥) → x ≡ q
place_here s (here e) p n = sym e ∙ p
place_here s (gone e) p n = absurd (n (sym p ∙ e))

pub never_both : (c : Circuit) → Linked c → (h g : Held) → c.hearer.place ≡ Sending h → c.sender.place ≡ Sending g → ⊥
never_both c l h g p q =
    let i = place_here c.hearer l.hears p (places_apart (Sending h) Lost refl) in
    let j = place_here c.sender (still_at c.sender l.says) q (places_apart (Sending g) Lost refl) in
    absurd (true≢false (rw (i, j) at (facing_sender l.link)))

or_left : (s t : Bool) → s || t ≡ false → t ≡ false
or_left true t e = absurd (true≢false e)
or_left false t e = e

pub sender_sends : (c : Circuit) → Linked c → (h : Held) → c.sender.place ≡ Sending h → (e : Event) → places_call c e ≡ false
sender_sends c l h p e = go l.hears
  where
    go : At c.hearer l.hearer_at → places_call c e ≡ false
    go (here q) =
        let j = place_here c.sender (still_at c.sender l.says) p (places_apart (Sending h) Lost refl) in
        let f : (is_sending c.hearer.place || is_stand_by c.hearer.place) ≡ false = rw q (rw j at (facing_sender l.link)) in
        rw (or_left (is_sending c.hearer.place) (is_stand_by c.hearer.place) f)
    go (gone q) = rw q

-- what Opening hears
abbrev is_cs3 : First → Bool
is_cs3 (Cs n) = false
is_cs3 Cs3 = true
is_cs3 Rq = false
is_cs3 (Else x) = false

pub no_cs3_lem : {x p : Place} {w : Words} {ox op : Owed} → Link x p w ox op → is_opening x && is_cs3 (first_of w.0) ≡ false
unfolding first_of
no_cs3_lem (s1_block i) = refl
no_cs3_lem (s1_rqs i) = refl
no_cs3_lem (s1_own i) = refl
no_cs3_lem s1_rqs' = refl
no_cs3_lem s1_other = refl
no_cs3_lem s2_rqs = refl
no_cs3_lem s2_cs3 = refl
no_cs3_lem s3_any = refl
no_cs3_lem s3_cs3 = refl
no_cs3_lem (s4_rq r) = refl
no_cs3_lem s4_rqs = refl
no_cs3_lem (s5_asks {k = k}) = ap is_cs3 (asks_first k)
no_cs3_lem (s5_rq r) = refl
no_cs3_lem e1_alphas = refl
no_cs3_lem e1_any = refl
no_cs3_lem e2_any = refl
no_cs3_lem (e2_any' q) = refl
no_cs3_lem e3_silence = refl
no_cs3_lem (e3_any q) = refl
no_cs3_lem (e4_any q) = refl
no_cs3_lem (calls k) = rw (call_places k).2

kept_cs3 : (f g : First) → FirstIs f g → g ≡ Cs3 → is_cs3 f ≡ true
kept_cs3 f g FirstIs.said e = rw e
kept_cs3 f g FirstIs.unsaid e = let z : ◌≡◌ {A = ℕ} 0 1 = cc in absurd (omega arith)

pub no_cs3_heard : (c : Circuit) → Linked c → (e : Event) → Harmless e → c.hearer.place ≡ Opening →
    first_of (heard e c.burst).0 ≡ Cs3 → ⊥
no_cs3_heard c l e h p q =
    let i = place_here c.hearer l.hears p (places_apart Opening Lost refl) in
    let m = heard_mangled c e h l.says in
    let k = kept_cs3 (first_of l.would_say.0) (first_of (heard e c.burst).0) (first_heard_lem l.would_say.0 (heard e c.burst).0 m.word0) q in
    absurd (true≢false (rw (i, k) at (no_cs3_lem l.link)))
