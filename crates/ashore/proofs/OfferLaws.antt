-- Which offers the stations took, step by step.
--     took_step          what one step takes of an offer that is no call, and what it reports
--     offers_in_order    so over a record
--     offers_alone       and where no D in figures is accepted
-- Assumes nothing.
use mathlib.Core.Path.{◌≡◌, refl, ap, sym, subst, ◌∙◌}
use mathlib.Core.Bool.{Bool, true, false, true≢false, false≢true}
use mathlib.Core.List.{List, [], ◌∷◌, ◌++◌, append_assoc, append-nil}
use Prim.Native.Nat.{ℕ, zero, suc}
use native.Mathlib.Omega.{arith}
use Rattle.std.specs.Prelude.{if◌then◌else◌}
use Rattle.signals.specs.Numbers.{Answer, answered, refused}
use Rattle.mode_a.specs.declared.Role.{Role}
use Rattle.mode_a.specs.declared.Role.TheVariants.{Master, Slave}
use Rattle.mode_a.specs.declared.Number.{Number}
use Rattle.mode_a.specs.declared.Words.{Words}
use Rattle.mode_a.specs.declared.Own.{Own}
use Rattle.mode_a.specs.declared.Owed.{Owed}
use Rattle.mode_a.specs.declared.Peer.TheVariants.{Known}
use Rattle.mode_a.specs.declared.Offer.{Offer}
use Rattle.mode_a.specs.declared.Station.{Station}
use Rattle.mode_a.specs.declared.Listening.{Listening}
use Rattle.mode_a.specs.declared.Doing.{Doing}
use Rattle.mode_a.specs.declared.Doing.TheVariants.{Repeats, Goes, Takes, Receives, Opens, Accepts, Rests, Answers, Listens, Reaches, Answers3, Bars, Ends, Turns, Meets, Again, Yields}
use Rattle.mode_a.specs.declared.Reply.{Reply}
use Rattle.mode_a.specs.Station.{no_code}
use Rattle.mode_a.specs.Heard.{heard_of}
use Rattle.mode_a.specs.Over.{listened_all}
use Rattle.mode_a.specs.Answerback.{βββ, figures+?, code_signals, answer_keeping, answer_of, block_owed}
use Rattle.mode_a.specs.Rows.{row_of}
use Rattle.mode_a.specs.Step.{takes_offer, takes, knowing, is_over, accepts_by, accepts_heard, meets, done, stepping}
use Rattle.runs.specs.Runs.{is_answered, is_call, is_taking}
use Rattle.runs.specs.Taken.{block_from, taken_if, taken_by}
use Rattle.runs.specs.Circuit.{Event, heard, Circuit, fresh, said, goes_on, answered_by, after}
use Rattle.runs.proofs.CodeLaws.{is_owed}
use Rattle.runs.proofs.StepLaws.{answers, by_repeat, by_again, by_owed, by_heard, by_listen}
use Rattle.runs.proofs.TakenLaws.{takes_by_row}
use Rattle.runs.proofs.OwedLaws.{only_asked}
use Rattle.entries.specs.declared.Entry.{Entry}
use Rattle.entries.specs.declared.Entry.TheVariants.{Burst, Text, Over, End}
use Rattle.entries.specs.declared.Standing.{Standing}
use Rattle.entries.specs.Entries.{other_role, same_role}
use Rattle.entries.specs.Passage.{Passage, circuit_of, standing_of, offer_to, offering, hearing, event_of, after_burst, stands}
use Rattle.ashore.specs.Ashore.{Reached, at_first, one_more}
use Rattle.ashore.specs.Offers.{only_to, offer_in, offers_to, still, Gives, text, over_sent, over_at_receiving, end, TakenFrom, none_yet, of_offer, idle, own_over, TookInOrder, OffersInOrder, asks, NeverAsked, OffersAlone}
use Rattle.ashore.proofs.ReachLaws.{Holds, holds, no_call, next_step, left, circuit_then, standing_then}

-- What one step takes of an offer, and whether it reports the offer as taken.
pub data Took (answers : Bool) (o : Offer) : Bool → List Words → Type 0 where
  waits : Took answers o false []
  given : {l : List Words} → Gives o l → Took answers o true l
  is_idle : o ≡ Offer.Nothing → Took answers o true (βββ ∷ [])
  answers_β : Took answers o false (βββ ∷ [])
  answers_over : answers ≡ true → Took answers o false (figures+? ∷ [])

-- the empty code's answers
data OwnBlock : Words → Type 0 where
  is_βββ : OwnBlock βββ
  is_figures+? : OwnBlock figures+?

own_block : (o : Owed) → OwnBlock (block_owed no_code o)
unfolding block_owed answer_of answer_keeping code_signals
own_block Owed.Nothing = is_βββ
own_block (Owed.Back zero) = is_βββ
own_block (Owed.Back (suc zero)) = is_βββ
own_block (Owed.Back (suc (suc zero))) = is_figures+?
own_block (Owed.Back (suc (suc (suc i)))) = is_βββ
own_block (Owed.Keep zero) = is_βββ
own_block (Owed.Keep (suc zero)) = is_βββ
own_block (Owed.Keep (suc (suc i))) = is_βββ

-- where T-06's answers are not among the blocks, nothing is owed
abbrev Unowing : Bool → Station → Type 0
Unowing answers s = answers ≡ false → s.owed ≡ Owed.Nothing

by_answers : (t : Bool) (s : Station) → Unowing t s → is_owed s.owed ≡ true → t ≡ true
by_answers true s n i = refl
by_answers false s n i = absurd (true≢false (sym i ∙ ap is_owed (n refl)))

module _ (t : Bool) (s : Station) (c : s.own.code ≡ no_code) (o : Offer) (n : is_call o ≡ false) (u : Unowing t s) where
  abbrev TookOf : Bool → Reply → Type 0
  TookOf k r = Took t o r.taken (taken_if k s o r)

  took_owed : is_owed s.owed ≡ true → Took t o false (block_from s.own.code s.owed o)
  took_owed i = rw c (go s.owed i (by_answers t s u i))
    where
      own : (b : Words) → OwnBlock b → t ≡ true → Took t o false (b ∷ [])
      own b is_βββ e = answers_β
      own b is_figures+? e = answers_over e

      go : (w : Owed) → is_owed w ≡ true → t ≡ true → Took t o false (block_from no_code w o)
      go Owed.Nothing i e = absurd (false≢true i)
      go (Owed.Back k) i e = own _ (own_block (Owed.Back k)) e
      go (Owed.Keep k) i e = own _ (own_block (Owed.Keep k)) e

  took_takes : (p : Station) → p.owed ≡ s.owed → (m : Number) → TookOf true (takes p m o)
  took_takes p e m =
      by_owed (TookOf true) p m o (λ i. go o refl n (sym e ∙ i)) (λ i. took_owed (ap is_owed (sym e) ∙ i))
    where
      go : (q : Offer) → o ≡ q → is_call q ≡ false → s.owed ≡ Owed.Nothing → TookOf true (takes_offer p m q)
      go (Offer.Text w) j n z = rw (z, j) (given (text w))
      go Offer.Over j n z = rw (z, j) (given over_sent)
      go Offer.End j n z = rw j (given end)
      go Offer.Nothing j n z = rw (z, j) (is_idle refl)
      go (Offer.Call x) j n z = absurd (true≢false n)
      go (Offer.Call3 x) j n z = absurd (true≢false n)

  is_it_over : (q : Offer) → is_over q ≡ true → q ≡ Offer.Over
  is_it_over (Offer.Text w) i = absurd (false≢true i)
  is_it_over Offer.Over i = refl
  is_it_over Offer.End i = absurd (false≢true i)
  is_it_over Offer.Nothing i = absurd (false≢true i)
  is_it_over (Offer.Call x) i = absurd (false≢true i)
  is_it_over (Offer.Call3 x) i = absurd (false≢true i)

  took_accepts : (m : Number) (b : Words) (l : Listening) → TookOf false (accepts_heard s m b o l)
  took_accepts m b l = by_heard (TookOf false) s m b o l (λ i. waits) (λ i. go (is_over o) refl l.over)
    where
      go : (v : Bool) → is_over o ≡ v → (x : Bool) → TookOf false (accepts_by s m b v (record { case = l.case; plus = l.plus; over = x; asked = l.asked }))
      go true i x = rw (is_it_over o i) (given over_at_receiving)
      go false i true = waits
      go false i false = waits

  took_meets : (p : Station) (v : Bool) → is_over o ≡ v → TookOf false (meets p v)
  took_meets p true i = rw (is_it_over o i) (given over_at_receiving)
  took_meets p false i = waits

  took_done : (b : Words) (d : Doing) → TookOf (is_taking d) (done s b o d)
  unfolding done
  took_done b (Repeats w) = by_repeat (TookOf false) s w (λ e. waits) (λ e. waits)
  took_done b (Goes p w) = waits
  took_done b (Takes m) = took_takes s refl m
  took_done b (Receives m) = waits
  took_done b Opens = waits
  took_done b (Accepts m) = took_accepts m b (listened_all s.case s.plus b)
  took_done b (Rests m w) = waits
  took_done b Answers = waits
  took_done b (Listens w) =
      by_listen (TookOf false) s w o (λ i e z. absurd (true≢false (sym (ap is_call e) ∙ n))) (λ i e z. absurd (true≢false (sym (ap is_call e) ∙ n))) waits
  took_done b (Reaches p m) = took_takes (knowing s p) refl m
  took_done b Answers3 = waits
  took_done b (Bars i) = waits
  took_done b (Ends i) = waits
  took_done b (Turns i) = waits
  took_done b (Meets i) = took_meets (knowing s (Known i)) (is_over o) refl
  took_done b (Again p w) = by_again (TookOf false) s p w (λ e. waits) (λ e. waits)
  took_done b (Yields m) = waits

  pub took_step : (b : Words) (r : Reply) → stepping s b o ≡ answered r → Took t o r.taken (taken_by s b o r)
  unfolding heard_of
  took_step b r i =
      rw ((answers s b o r i).is_done, takes_by_row s.own s.role s.place (heard_of s.own b)) (took_done b (row_of s.own s.role s.place (heard_of s.own b)))

given_stood : {o : Offer} {l : List Words} → Gives o l → stands o ≡ true
given_stood (text w) = refl
given_stood over_sent = refl
given_stood over_at_receiving = refl
given_stood end = refl

-- What a station took so far, of all its offers, with the one that stands.
record SoFar (t : Bool) (all : List Offer) (o : Offer) (bs : List Words) : Type 0 where
  taken : List Offer
  in_order : all ≡ taken ++ still o
  blocks : TakenFrom t taken bs

module _ (t : Bool) (all : List Offer) (o : Offer) (bs : List Words) (y : SoFar t all o bs) where
  -- the offer that stood is taken
  was_taken : {l : List Words} → Gives o l → stands o ≡ true → SoFar t all Offer.Nothing (bs ++ l)
  was_taken g i = record { taken = y.taken ++ o ∷ []; in_order = y.in_order ∙ rw i (sym (append-nil (y.taken ++ o ∷ []))); blocks = of_offer y.blocks g }

  -- a step of the station
  so_far_step : {k : Bool} {l : List Words} → Took t o k l → SoFar t all (if k then Offer.Nothing else o) (bs ++ l)
  so_far_step waits = rw (append-nil bs) y
  so_far_step (given g) = was_taken g (given_stood g)
  so_far_step (is_idle e) = record { taken = y.taken; in_order = y.in_order ∙ rw e; blocks = idle y.blocks }
  so_far_step answers_β = record { taken = y.taken; in_order = y.in_order; blocks = idle y.blocks }
  so_far_step (answers_over a) = record { taken = y.taken; in_order = y.in_order; blocks = own_over a y.blocks }

  -- an offer to it
  so_far_offer : stands o ≡ false → (q : Offer) → stands q ≡ true → SoFar t (all ++ q ∷ []) q bs
  so_far_offer n q i =
      let e : all ≡ y.taken = y.in_order ∙ rw n (append-nil y.taken) in
      record { taken = y.taken; in_order = rw i (ap (λ (l : List Offer). l ++ q ∷ []) e); blocks = y.blocks }

-- the blocks taken from the offers of a station, by whose burst is on the way
abbrev from_of : Circuit → Role → Role → List Words
from_of c t r = (if same_role (other_role r) t then c.from_hearer else c.from_sender).taken

abbrev SoFarOf : Bool → List Entry → Standing → Circuit → Role → Type 0
SoFarOf t es x c r = SoFar t (offers_to r es) (offer_to x r) (from_of c x.turn r)

offers_more : (r : Role) (es : List Entry) (e : Entry) → offers_to r (es ++ e ∷ []) ≡ offers_to r es ++ offer_in r e
unfolding offers_to
offers_more r [] e = append-nil (offer_in r e)
offers_more r (x ∷ es) e = ap (λ (l : List Offer). offer_in r x ++ l) (offers_more r es e) ∙ sym (append_assoc (offer_in r x) (offers_to r es) (offer_in r e))

-- a burst: the one that hears takes, and the other's stays
by_role_lem : (t : Bool) (all : List Offer) (x : Standing) (c : Circuit) (b : Words) (rep : Reply) (k : Bool) →
    Took t (offer_to x (hearing x)) k (taken_by c.hearer b (offer_to x (hearing x)) rep) →
    (r : Role) → SoFar t all (offer_to x r) (from_of c x.turn r) →
    SoFar t all (offer_to (left x k) r) (from_of (answered_by c (offer_to x (hearing x)) b rep) (left x k).turn r)
by_role_lem t all x c b rep k = go x.turn x.master x.slave k
  where
    go : (q : Role) (m s : Offer) (k : Bool) → let x = standing_of q m s in
        Took t (offer_to x (hearing x)) k (taken_by c.hearer b (offer_to x (hearing x)) rep) →
        (r : Role) → SoFar t all (offer_to x r) (from_of c x.turn r) →
        SoFar t all (offer_to (left x k) r) (from_of (answered_by c (offer_to x (hearing x)) b rep) (left x k).turn r)
    go Master m s true z Master y = y
    go Master m s true z Slave y = so_far_step t all s c.from_hearer.taken y z
    go Master m s false z Master y = y
    go Master m s false z Slave y = so_far_step t all s c.from_hearer.taken y z
    go Slave m s true z Master y = so_far_step t all m c.from_hearer.taken y z
    go Slave m s true z Slave y = y
    go Slave m s false z Master y = so_far_step t all m c.from_hearer.taken y z
    go Slave m s false z Slave y = y

-- where no D in figures is accepted, nothing is owed
abbrev Clear : Circuit → Type 0
Clear c = (c.hearer.owed ≡ Owed.Nothing) × (c.sender.owed ≡ Owed.Nothing)

clear_burst : (p : Passage) (e : Event) → asks (circuit_of p) e ≡ false → Clear (circuit_of p) → Clear (circuit_of (after_burst p e))
unfolding after
clear_burst p e n y = go (said (circuit_of p) e) refl
  where
    go : (a : Answer Reply) → said (circuit_of p) e ≡ a → Clear (goes_on (circuit_of p) e (said (circuit_of p) e))
    go (answered r) i = rw i (y.1, only_asked (circuit_of p).hearer (heard e (circuit_of p).burst) e.offer r i y.0 n)
    go (refused k v) i = rw i y

clear : {es : List Entry} {p : Passage} → Reached es p → NeverAsked fresh p.events → Clear (circuit_of p)
unfolding after NeverAsked
clear at_first n = (refl, refl)
clear (one_more {p = p} y (Burst r d) f) n = clear_burst p (event_of p.standing d) n.1 (clear y n.0)
clear (one_more y (Text r w) f) n = clear y n
clear (one_more y (Over r) f) n = clear y n
clear (one_more y (End r) f) n = clear y n

-- an entry
none_stood : (a : Bool) (n : ℕ) → ◌≡◌ {A = ℕ} (if a then 13 else n) 0 → a ≡ false
none_stood true n f = absurd (omega arith)
none_stood false n f = refl

module _ (t : Bool) (es : List Entry) (p : Passage) (y : (r : Role) → SoFarOf t es p.standing (circuit_of p) r) where
  so_far_offered : (q : Role) (o : Offer) → stands (offer_to p.standing q) ≡ false → stands o ≡ true → (r : Role) →
      SoFar t (offers_to r es ++ only_to r q o) (offer_to (offering p.standing q o) r) (from_of (circuit_of p) (offering p.standing q o).turn r)
  so_far_offered Master o n i Master = so_far_offer t (offers_to Master es) p.standing.master (from_of (circuit_of p) p.standing.turn Master) (y Master) n o i
  so_far_offered Master o n i Slave = rw (append-nil (offers_to Slave es)) (y Slave)
  so_far_offered Slave o n i Master = rw (append-nil (offers_to Master es)) (y Master)
  so_far_offered Slave o n i Slave = so_far_offer t (offers_to Slave es) p.standing.slave (from_of (circuit_of p) p.standing.turn Slave) (y Slave) n o i

  so_far_burst : Holds p → (t ≡ false → Clear (circuit_of p)) → (d : ℕ) → (r : Role) →
      SoFar t (offers_to r es ++ []) (offer_to (after_burst p (event_of p.standing d)).standing r) (from_of (circuit_of (after_burst p (event_of p.standing d))) (after_burst p (event_of p.standing d)).standing.turn r)
  so_far_burst h u d r = rw (append-nil (offers_to r es)) (go (said (circuit_of p) e) refl (next_step p h d))
    where
      e : Event
      e = event_of p.standing d

      b : Words
      b = heard e (circuit_of p).burst

      o : Offer
      o = offer_to p.standing (hearing p.standing)

      go : (a : Answer Reply) → said (circuit_of p) e ≡ a → is_answered a ≡ true → SoFar t (offers_to r es) (offer_to (after_burst p e).standing r) (from_of (circuit_of (after_burst p e)) (after_burst p e).standing.turn r)
      go (answered rep) i z =
          subst (λ (x : Standing). SoFar t (offers_to r es) (offer_to x r) (from_of (circuit_of (after_burst p e)) x.turn r)) (sym (standing_then p e rep i)) (subst (λ (c : Circuit). SoFar t (offers_to r es) (offer_to (left p.standing rep.taken) r) (from_of c (left p.standing rep.taken).turn r)) (sym (circuit_then p e rep i)) (by_role_lem t (offers_to r es) p.standing (circuit_of p) b rep rep.taken (took_step t (circuit_of p).hearer (ap (λ (w : Own). w.code) h.hearer_own) o (no_call o (h.offers (hearing p.standing))) (λ n. (u n).0) b rep i) r (y r)))
      go (refused n v) i z = absurd (false≢true z)

so_far : (t : Bool) {es : List Entry} {p : Passage} → Reached es p → (t ≡ false → NeverAsked fresh p.events) → (r : Role) → SoFarOf t es p.standing (circuit_of p) r
unfolding after NeverAsked offers_to
so_far t at_first n Master = record { taken = []; in_order = refl; blocks = none_yet }
so_far t at_first n Slave = record { taken = []; in_order = refl; blocks = none_yet }
so_far t (one_more {es = es} {p = p} y (Burst q d) f) n r =
    rw (offers_more r es (Burst q d)) (so_far_burst t es p (λ x. so_far t y (λ z. (n z).0) x) (holds y) (λ z. clear y (n z).0) d r)
so_far t (one_more {es = es} {p = p} y (Text q w) f) n r =
    rw (offers_more r es (Text q w)) (so_far_offered t es p (λ x. so_far t y n x) q (Offer.Text w) (none_stood _ _ f) refl r)
so_far t (one_more {es = es} {p = p} y (Over q) f) n r =
    rw (offers_more r es (Over q)) (so_far_offered t es p (λ x. so_far t y n x) q Offer.Over (none_stood _ _ f) refl r)
so_far t (one_more {es = es} {p = p} y (End q) f) n r =
    rw (offers_more r es (End q)) (so_far_offered t es p (λ x. so_far t y n x) q Offer.End (none_stood _ _ f) refl r)

took_in_order : (t : Bool) (es : List Entry) (p : Passage) (r : Role) → SoFarOf t es p.standing (circuit_of p) r → TookInOrder t es p r
took_in_order t es p r y = record { taken = y.taken; in_order = y.in_order; blocks = y.blocks }

pub offers_in_order : OffersInOrder
offers_in_order es p y r = took_in_order true es p r (so_far true y (λ z. absurd (true≢false z)) r)

pub offers_alone : OffersAlone
offers_alone es p y n r = took_in_order false es p r (so_far false y (λ z. n) r)
