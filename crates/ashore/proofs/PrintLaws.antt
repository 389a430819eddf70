-- What is printed of the record's offers, where no D in figures is accepted.
--     without_d         no D is accepted where none is offered: what is accepted was taken, and what is taken was offered, or is βββ or an over
--     offers_printed    a station prints a beginning of the traffic of the offers that the other took
--     texts_printed     and where no over was offered, of the texts that were offered
-- Assumes nothing.
use mathlib.Core.Path.{◌≡◌, refl, ap, sym, subst, ◌∙◌}
use mathlib.Core.Bool.{Bool, true, false, ◌&&◌, ◌||◌, true≢false, false≢true}
use mathlib.Core.List.{List, [], ◌∷◌, ◌++◌, append_assoc, append-nil}
use Prim.Native.Nat.{ℕ}
use lib.Dec.{eqb}
use Rattle.std.specs.Prelude.{if◌then◌else◌}
use Rattle.signals.specs.declared.Case.{Case}
use Rattle.signals.specs.declared.Case.TheVariants.{Letters, Figures}
use Rattle.signals.specs.Meaning.{meaning_of, traffic_of, letters, figures, beta}
use Rattle.signals.specs.Numbers.{Answer, answered, refused}
use Rattle.mode_a.specs.declared.Role.{Role}
use Rattle.mode_a.specs.declared.Role.TheVariants.{Master, Slave}
use Rattle.mode_a.specs.declared.Words.{Words}
use Rattle.mode_a.specs.declared.Offer.{Offer}
use Rattle.mode_a.specs.declared.Listening.{Listening}
use Rattle.mode_a.specs.declared.Reply.{Reply}
use Rattle.mode_a.specs.Station.{list_of}
use Rattle.mode_a.specs.Heard.{heard_of}
use Rattle.mode_a.specs.Over.{query, cross, who, signal_in, listened, keeping, listened_all}
use Rattle.mode_a.specs.Answerback.{βββ}
use Rattle.runs.specs.Runs.{is_answered, accepting}
use Rattle.runs.specs.Circuit.{Event, heard, traffic, signals_in, Circuit, fresh, said}
use Rattle.circuit.specs.Demand.{Beginning}
use Rattle.entries.specs.declared.Entry.{Entry}
use Rattle.entries.specs.declared.Entry.TheVariants.{Burst, Text, Over, End}
use Rattle.entries.specs.Entries.{other_role, same_role}
use Rattle.entries.specs.Passage.{Passage, circuit_of, offer_to, event_of, after_burst, fault_of, signals_of}
use Rattle.ashore.specs.Ashore.{Reached, at_first, one_more, direction_to}
use Rattle.ashore.specs.Offers.{only_to, offers_to, still, Gives, text, over_sent, over_at_receiving, end, TakenFrom, none_yet, of_offer, idle, own_over, asks, NeverAsked, holds_d, NoD, WithoutD, TrafficFrom, no_traffic, then_of, OffersPrinted, texts_in, NoOver, TextsPrinted}
use Rattle.ashore.proofs.ReachLaws.{holds, other_other, next_step, circuit_then, demand_3_ashore}
use Rattle.ashore.proofs.Theorem.{printed_there, carried_there}
use Rattle.ashore.proofs.OfferLaws.{offers_alone}

-- a block without D asks nothing
either : (x y : Listening) (t : Bool) → x.asked ≡ false → y.asked ≡ false → ◌≡◌ {A = Bool} (if◌then◌else◌ {A = Listening} t x y).asked false
either x y true a b = a
either x y false a b = b

listened_unasked : (l : Listening) (w : ℕ) → eqb w who ≡ false → l.asked ≡ false → (listened l w).asked ≡ false
unfolding listened
listened_unasked l w n a =
    either _ _ (eqb w beta) a (either _ _ (eqb w letters) a (either _ _ (eqb w figures) a (signal l.case)))
  where
    signal : (k : Case) → (signal_in k l.plus l.over l.asked w).asked ≡ false
    signal Letters = a
    signal Figures = either _ _ (eqb w cross) a (either _ _ (eqb w query) a (rw (a, n)))

all_false : (a b c : Bool) → a || (b || c) ≡ false → (a ≡ false) × (b ≡ false) × (c ≡ false)
all_false true b c e = absurd (true≢false e)
all_false false true c e = absurd (true≢false e)
all_false false false c e = (refl, refl, e)

unasked : (c : Case) (p : Bool) (b : Words) → holds_d b ≡ false → (listened_all c p b).asked ≡ false
unasked c p b n =
    let x = all_false (eqb b.0 who) (eqb b.1 who) (eqb b.2 who) n in
    listened_unasked (listened (listened (keeping c p) b.0) b.1) b.2 x.2 (listened_unasked (listened (keeping c p) b.0) b.1 x.1 (listened_unasked (keeping c p) b.0 x.0 refl))

-- blocks without D
abbrev Free : List Words → Type 0
Free [] = Unit {0}
Free (b ∷ bs) = (holds_d b ≡ false) × Free bs

free_join : (l m : List Words) → Free l → Free m → Free (l ++ m)
free_join [] m f g = g
free_join (b ∷ l) m f g = (f.0, free_join l m f.1 g)

free_behind : (l m : List Words) → Free (l ++ m) → Free m
free_behind [] m f = f
free_behind (b ∷ l) m f = free_behind l m f.1

-- and offers without it
abbrev FreeOffer : Offer → Type 0
FreeOffer (Offer.Text w) = holds_d w ≡ false
FreeOffer Offer.Over = Unit {0}
FreeOffer Offer.End = Unit {0}
FreeOffer Offer.Nothing = Unit {0}
FreeOffer (Offer.Call i) = Unit {0}
FreeOffer (Offer.Call3 i) = Unit {0}

abbrev FreeOffers : List Offer → Type 0
FreeOffers [] = Unit {0}
FreeOffers (o ∷ os) = FreeOffer o × FreeOffers os

free_first : (l m : List Offer) → FreeOffers (l ++ m) → FreeOffers l
free_first [] m f = tt
free_first (o ∷ l) m f = (f.0, free_first l m f.1)

free_last : (l m : List Offer) → FreeOffers (l ++ m) → FreeOffers m
free_last [] m f = f
free_last (o ∷ l) m f = free_last l m f.1

free_given : {o : Offer} {l : List Words} → Gives o l → FreeOffer o → Free l
free_given (text w) f = (f, tt)
free_given over_sent f = (refl, tt)
free_given over_at_receiving f = tt
free_given end f = tt

free_taken : {t : Bool} {os : List Offer} {bs : List Words} → TakenFrom t os bs → FreeOffers os → Free bs
free_taken none_yet f = tt
free_taken (of_offer {os = os} {bs = bs} {o = o} {l = l} y g) f =
    free_join bs l (free_taken y (free_first os (o ∷ []) f)) (free_given g (free_last os (o ∷ []) f).0)
free_taken (idle {bs = bs} y) f = free_join bs (βββ ∷ []) (free_taken y f) (refl, tt)
free_taken (own_over {bs = bs} e y) f = free_join bs _ (free_taken y f) (refl, tt)

free_more : (r q : Role) (o : Offer) (os : List Offer) → FreeOffer o → FreeOffers os → FreeOffers (only_to r q o ++ os)
free_more r q o os f g = go (same_role r q)
  where
    go : (t : Bool) → FreeOffers ((if t then o ∷ [] else []) ++ os)
    go true = (f, g)
    go false = g

free_offers : (r : Role) (es : List Entry) → NoD es → FreeOffers (offers_to r es)
unfolding offers_to NoD
free_offers r [] n = tt
free_offers r (Burst q d ∷ es) n = free_offers r es n
free_offers r (Text q w ∷ es) n = free_more r q (Offer.Text w) (offers_to r es) n.0 (free_offers r es n.1)
free_offers r (Over q ∷ es) n = free_more r q Offer.Over (offers_to r es) tt (free_offers r es n)
free_offers r (End q ∷ es) n = free_more r q Offer.End (offers_to r es) tt (free_offers r es n)

no_d_before : (es ds : List Entry) → NoD (es ++ ds) → NoD es
unfolding NoD
no_d_before [] ds n = tt
no_d_before (Burst r d ∷ es) ds n = no_d_before es ds n
no_d_before (Text r w ∷ es) ds n = (n.0, no_d_before es ds n.1)
no_d_before (Over r ∷ es) ds n = no_d_before es ds n
no_d_before (End r ∷ es) ds n = no_d_before es ds n

not_own : (t : Role) → same_role (other_role t) t ≡ false
not_own Master = refl
not_own Slave = refl

-- what the other station took so far
taken_free : {es : List Entry} {p : Passage} → Reached es p → NeverAsked fresh p.events → NoD es → Free (circuit_of p).from_sender.taken
taken_free {es} {p} y a n =
    let x = offers_alone es p y a p.standing.turn in
    rw (not_own p.standing.turn) at (free_taken x.blocks (free_first x.taken (still (offer_to p.standing p.standing.turn)) (subst FreeOffers x.in_order (free_offers p.standing.turn es n))))

asks_none : {es : List Entry} {p : Passage} (y : Reached es p) → NeverAsked fresh p.events → NoD es → (r : Role) (d : ℕ) → fault_of p.standing (Burst r d) ≡ 0 → asks (circuit_of p) (event_of p.standing d) ≡ false
asks_none {es} {p} y a n r d f = go (said (circuit_of p) e) refl (next_step p (holds y) d)
  where
    e : Event
    e = event_of p.standing d

    b : Words
    b = heard e (circuit_of p).burst

    by_acceptance : (t : Bool) → Beginning Words ((circuit_of p).from_sender.accepted ++ (if t then b ∷ [] else [])) (circuit_of p).from_sender.taken → t && (listened_all (circuit_of p).hearer.case (circuit_of p).hearer.plus b).asked ≡ false
    by_acceptance true x =
        let g = subst Free (x.splits ∙ append_assoc (circuit_of p).from_sender.accepted (b ∷ []) x.rest) (taken_free y a n) in
        unasked (circuit_of p).hearer.case (circuit_of p).hearer.plus b (free_behind (circuit_of p).from_sender.accepted (b ∷ x.rest) g).0
    by_acceptance false x = refl

    go : (z : Answer Reply) → said (circuit_of p) e ≡ z → is_answered z ≡ true → asks (circuit_of p) e ≡ false
    go (answered rep) i t =
        by_acceptance (accepting (circuit_of p).hearer.place (heard_of (circuit_of p).hearer.own b)) (subst (λ (c : Circuit). Beginning Words c.from_hearer.accepted c.from_hearer.taken) (circuit_then p e rep i) (demand_3_ashore (es ++ Burst r d ∷ []) (after_burst p e) (one_more y (Burst r d) f)).from_hearer.accepts_a_beginning)
    go (refused k v) i t = absurd (false≢true t)

never_asked : {es : List Entry} {p : Passage} → Reached es p → NoD es → NeverAsked fresh p.events
unfolding NeverAsked
never_asked at_first n = tt
never_asked (one_more {es = es} y (Burst r d) f) n =
    let m = no_d_before es (Burst r d ∷ []) n in
    let a = never_asked y m in
    (a, asks_none y a m r d f)
never_asked (one_more {es = es} y (Text r w) f) n = never_asked y (no_d_before es (Text r w ∷ []) n)
never_asked (one_more {es = es} y (Over r) f) n = never_asked y (no_d_before es (Over r ∷ []) n)
never_asked (one_more {es = es} y (End r) f) n = never_asked y (no_d_before es (End r ∷ []) n)

pub without_d : WithoutD
without_d es p y n = never_asked y n

-- the traffic of the blocks taken
signals_append : (l m : List Words) → signals_in (l ++ m) ≡ signals_in l ++ signals_in m
unfolding signals_in
signals_append [] m = refl
signals_append (b ∷ bs) m = rw (signals_append bs m) (sym (append_assoc (traffic (list_of b)) (signals_in bs) (signals_in m)))

pub traffic_from : {os : List Offer} {bs : List Words} → TakenFrom false os bs → TrafficFrom os (signals_in bs)
unfolding signals_in traffic traffic_of meaning_of
traffic_from none_yet = no_traffic
traffic_from (of_offer {bs = bs} {l = l} y g) = rw (signals_append bs l) (then_of (traffic_from y) g)
traffic_from (idle {bs = bs} y) = rw (signals_append bs (βββ ∷ []), append-nil (signals_in bs)) (traffic_from y)
traffic_from (own_over e y) = absurd (false≢true e)

pub offers_printed : OffersPrinted
offers_printed es p y n r =
    let x = offers_alone es p y n (other_role r) in
    let b : TakenFrom false x.taken (direction_to p r).taken = subst (λ (q : Role). TakenFrom false x.taken (direction_to p q).taken) (other_other r) x.blocks in
    record {
      taken = x.taken;
      in_order = x.in_order;
      traffic = signals_in (direction_to p r).taken;
      of_these = traffic_from b;
      prints_a_beginning = subst (λ (ws : List ℕ). Beginning ℕ ws (signals_in (direction_to p r).taken)) (printed_there p r) (carried_there p r (demand_3_ashore es p y)).prints_a_beginning;
    }

-- and of texts
texts_append : (l m : List Offer) → texts_in (l ++ m) ≡ texts_in l ++ texts_in m
unfolding texts_in
texts_append [] m = refl
texts_append (Offer.Text w ∷ l) m = rw (texts_append l m) (sym (append_assoc (traffic (list_of w)) (texts_in l) (texts_in m)))
texts_append (Offer.Over ∷ l) m = texts_append l m
texts_append (Offer.End ∷ l) m = texts_append l m
texts_append (Offer.Nothing ∷ l) m = texts_append l m
texts_append (Offer.Call i ∷ l) m = texts_append l m
texts_append (Offer.Call3 i ∷ l) m = texts_append l m

over_first : (l m : List Offer) → NoOver (l ++ m) → NoOver l × NoOver m
unfolding NoOver
over_first [] m n = (tt, n)
over_first (o ∷ l) m n = let x = over_first l m n.1 in ((n.0, x.0), x.1)

texts_given : {o : Offer} {l : List Words} → Gives o l → NoOver (o ∷ []) → signals_in l ≡ texts_in (o ∷ [])
unfolding signals_in texts_in NoOver
texts_given (text w) n = refl
texts_given over_sent n = absurd (true≢false n.0)
texts_given over_at_receiving n = absurd (true≢false n.0)
texts_given end n = refl

texts_from : {os : List Offer} {ws : List ℕ} → TrafficFrom os ws → NoOver os → ws ≡ texts_in os
unfolding texts_in
texts_from no_traffic n = refl
texts_from (then_of {os = os} {ws = ws} {o = o} {l = l} y g) n =
    let x = over_first os (o ∷ []) n in
    ap (λ (v : List ℕ). v ++ signals_in l) (texts_from y x.0) ∙ ap (λ (v : List ℕ). texts_in os ++ v) (texts_given g x.1) ∙ sym (texts_append os (o ∷ []))

pub texts_printed : TextsPrinted
texts_printed es p y n r m =
    let x = offers_printed es p y n r in
    let s = still (offer_to p.standing (other_role r)) in
    let k = over_first x.taken s (subst NoOver x.in_order m) in
    record {
      rest = x.prints_a_beginning.rest ++ texts_in s;
      splits =
          ap texts_in x.in_order
          ∙ texts_append x.taken s
          ∙ ap (λ (v : List ℕ). v ++ texts_in s) (sym (texts_from x.of_these k.0) ∙ x.prints_a_beginning.splits)
          ∙ append_assoc (signals_of p r) x.prints_a_beginning.rest (texts_in s);
    }
