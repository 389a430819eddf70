-- Undamaged exchanges of linked stations: the block that is held gets its confirmation.
--     goes_out     the burst of a station at Sending is heard: the other has then accepted the block, but for one case
--     comes_back   the answer is heard: the block is confirmed if it was accepted, and sent if not, unless a station is Lost
-- So one exchange is enough but for that case, and after it the block is on the way, so that the next is. A station that is Lost
-- confirms nothing, and its silence confirms nothing.
-- Assumes nothing.
use mathlib.Core.Path.{◌≡◌, refl, ap, sym, subst, ◌∙◌}
use mathlib.Core.Bool.{true, false, true≢false}
use mathlib.Core.Logic.{◌⊎◌, inl, inr}
use mathlib.Core.List.{List, [], ◌∷◌, ◌++◌, append-nil}
use Prim.Native.Nat.{ℕ, ◌+◌, ◌<◌}
use native.Mathlib.Omega.{arith}
use lib.ListN.{length, length-append}
use Rattle.signals.specs.Meaning.{meaning_of, traffic_of}
use Rattle.signals.specs.Numbers.{Answer, answered, refused}
use Rattle.mode_a.specs.declared.Number.{Number}
use Rattle.mode_a.specs.declared.Number.TheVariants.{One, Two}
use Rattle.mode_a.specs.declared.Words.{Words}
use Rattle.mode_a.specs.declared.Held.{Held}
use Rattle.mode_a.specs.declared.Place.{Place}
use Rattle.mode_a.specs.declared.Place.TheVariants.{Sending, Receiving, Asking, Lost}
use Rattle.mode_a.specs.declared.Offer.{Offer}
use Rattle.mode_a.specs.declared.Station.{Station}
use Rattle.mode_a.specs.declared.Reply.{Reply}
use Rattle.mode_a.specs.Station.{silence, RQ×3, other}
use Rattle.mode_a.specs.Heard.{First, Cs, Cs3, Else, Other, first_of, may_hold, is_block, heard_of}
use Rattle.mode_a.specs.Step.{repeats, done}
use Rattle.signals.specs.Damage.{arrives}
use Rattle.runs.specs.Places.{Inner, with_block_lem, with_total, with_waiting, with_called, with_called3, neither, inner_of, of_held, at_sending}
use Rattle.runs.specs.Runs.{is_answered}
use Rattle.runs.proofs.PlaceLaws.{places_apart}
use Rattle.runs.proofs.StepLaws.{Answers, answers, by_repeat, lost_stays}
use Rattle.runs.specs.Circuit.{Event, heard, Harmless, Whole, Circuit, said, confirmed_at, confirmed_of, confirmed_by, accepted_by, answered_by, goes_on, next, places_call}
use Rattle.circuit.specs.Demand.{Beginning, Exchanged, Confirms, TimedOutFirst, InTime, AwaitsAtRq}
use Rattle.circuit.proofs.Link.{Owed, unheard, heard as accepted, held, Link, s1_block, s1_rqs, s1_own, s1_rqs', s1_other, s2_rqs, s2_cs3, s3_any, s3_cs3, s4_rq, s4_rqs, s5_asks, s5_rq, e1_alphas, e1_any, e2_any, e2_any', e3_silence, e3_any, e4_any, calls, Told, At, here, gone, Says, aloud, no_more, Linked}
use Rattle.circuit.proofs.ReplyLaws.{asks_first, silence_first}
use Rattle.circuit.proofs.CallStepLaws.{call_places}
use Rattle.circuit.proofs.StepLaws.{same_self, same_other}
use Rattle.circuit.proofs.TimeLaws.{in_time, Follows, took, turns, follows_in_time, goes_on_lem}
use Rattle.circuit.proofs.RunLaws.{still_at, place_here, not_at_sending, linked_next, sender_sends}

-- undamaged, it is heard as it was sent; and that is harmless
heard_whole : (e : Event) (w : Words) → Whole e → heard e w ≡ w
heard_whole e w (p, q, r) = λ i. record { 0 = arrives (p i) w.0; 1 = arrives (q i) w.1; 2 = arrives (r i) w.2 }

pub whole_harmless : (e : Event) → Whole e → Harmless e
whole_harmless e (p, q, r) = rw (p, q, r) (tt, tt, tt)

-- an answered event is a step
replied : (a : Answer Reply) → is_answered a ≡ true → (r : Reply) × (a ≡ answered r)
replied (answered r) e = (r, refl)
replied (refused n v) e = absurd (true≢false (sym e))

-- Lost is silent for good, and silence confirms nothing
lost_silent : (s : Station) (b : Words) (o : Offer) (r : Reply) → Answers s b o r → s.place ≡ Lost →
    (r.station.place ≡ Lost) × (r.sent ≡ silence)
lost_silent s b o r a e = rw (lost_stays s b o r a e) (refl, refl)

by_nothing : (p : Place) → confirmed_of p (Else Other) ≡ []
by_nothing p = go (inner_of p)
  where
    go : (x : Inner) → of_held (λ h. confirmed_at h (Else Other)) [] x ≡ []
    go (with_block_lem h) = refl
    go (with_total e) = refl
    go (with_waiting w) = refl
    go (with_called c) = refl
    go (with_called3 c) = refl
    go neither = refl

by_silence : (s : Station) (e : Event) (w : Words) → Whole e → w ≡ silence → confirmed_by s (heard e w) ≡ []
by_silence s e w v i =
    ap (confirmed_by s) (heard_whole e w v ∙ i) ∙ ap (confirmed_of s.place) silence_first ∙ by_nothing s.place

-- to repeat is to be Lost, or to stay and to say it
repeated : (s : Station) (v : Words) (r : Reply) → r ≡ repeats s v →
    (r.station.place ≡ Lost) ⊎ ((r.station.place ≡ s.place) × (r.sent ≡ v))
repeated s v r e =
    rw e (by_repeat (λ (r : Reply). (r.station.place ≡ Lost) ⊎ ((r.station.place ≡ s.place) × (r.sent ≡ v))) s v (λ t. inl refl) (λ t. inr (refl, refl)))

-- what a station at Sending hears whole, from where, and what is then owed
data Hears (h : Held) : Place → First → Owed → Type 0 where
  own : is_block h.block ≡ true → Hears h (Receiving h.number) (Cs h.number) (unheard h.block)
  other_number : Hears h (Receiving (other h.number)) (Cs (other h.number)) (accepted h.block)
  third : Hears h Asking Cs3 (accepted h.block)

abbrev HearsAt : Place → Place → First → Owed → Type 0
HearsAt x p f o = at_sending (λ h. Hears h p f o) (Unit {0}) x

hears_at : {x p : Place} {w : Words} {ox op : Owed} → Link x p w ox op → HearsAt x p (first_of w.0) ox
unfolding first_of
hears_at (s1_block i) = tt
hears_at (s1_rqs i) = tt
hears_at (s1_own {n = n} {b = b} i) = subst (λ (f : First). Hears (held n b) (Receiving n) f (unheard b)) (sym (asks_first n)) (own i)
hears_at s1_rqs' = tt
hears_at (s1_other {n = n} {b = b}) = subst (λ (f : First). Hears (held n b) (Receiving (other n)) f (accepted b)) (sym (asks_first (other n))) other_number
hears_at s2_rqs = tt
hears_at s2_cs3 = third
hears_at s3_any = tt
hears_at s3_cs3 = tt
hears_at (s4_rq r) = tt
hears_at s4_rqs = tt
hears_at s5_asks = tt
hears_at (s5_rq r) = tt
hears_at e1_alphas = tt
hears_at e1_any = tt
hears_at e2_any = tt
hears_at (e2_any' q) = tt
hears_at e3_silence = tt
hears_at (e3_any q) = tt
hears_at (e4_any q) = tt
hears_at (calls {x = x} k) = subst (λ (A : Type 0). A) (sym (not_at_sending _ (Unit {0}) x (call_places k).0)) tt

-- what a station at Sending has sent, and to whom
data Sent (h : Held) : Place → Words → Owed → Type 0 where
  block_sent : is_block h.block ≡ true → Sent h (Receiving h.number) h.block (unheard h.block)
  rqs_sent : Sent h (Receiving h.number) RQ×3 (unheard h.block)
  sent_again : {x : Place} {w : Words} → (x ≡ Receiving h.number → ⊥) → Sent h x w (accepted h.block)

abbrev SentAt : Place → Place → Words → Owed → Type 0
SentAt p x w o = at_sending (λ h. Sent h x w o) (Unit {0}) p

other_awaited : (n : Number) → Receiving (other n) ≡ Receiving n → ⊥
other_awaited One e = let z : ◌≡◌ {A = ℕ} 0 1 = cc in omega arith
other_awaited Two e = let z : ◌≡◌ {A = ℕ} 0 1 = cc in omega arith

sent_at : {x p : Place} {w : Words} {ox op : Owed} → Link x p w ox op → SentAt p x w op
sent_at (s1_block i) = block_sent i
sent_at (s1_rqs i) = rqs_sent
sent_at (s1_own i) = tt
sent_at (s1_rqs' {n = n}) = sent_again (other_awaited n)
sent_at s1_other = tt
sent_at (s2_rqs {n = n}) = sent_again (places_apart Asking (Receiving n) refl)
sent_at s2_cs3 = tt
sent_at s3_any = tt
sent_at s3_cs3 = tt
sent_at (s4_rq r) = tt
sent_at s4_rqs = tt
sent_at s5_asks = tt
sent_at (s5_rq r) = tt
sent_at e1_alphas = tt
sent_at e1_any = tt
sent_at e2_any = tt
sent_at (e2_any' q) = tt
sent_at e3_silence = tt
sent_at (e3_any q) = tt
sent_at (e4_any q) = tt
sent_at (calls {p = p} k) = subst (λ (A : Type 0). A) (sym (not_at_sending _ (Unit {0}) p (call_places k).1)) tt

-- the burst of a station that is not Lost
burst_is : {p : Place} {w : Words} (c : Circuit) → Says c.sender p c.burst w → (c.sender.place ≡ Lost → ⊥) → c.burst ≡ w
burst_is c (aloud q i) n = i
burst_is c (no_more q i) n = absurd (n q)

-- The answer comes back to a station at Sending: the block is confirmed; or it was not accepted and is sent now; or a station is
-- Lost and the block is not confirmed.
data Back (c : Circuit) (h : Held) (e : Event) (r : Reply) : Type 0 where
  confirmed : confirmed_by c.hearer (heard e c.burst) ≡ h.block ∷ [] →
      c.from_hearer.accepted ≡ c.from_hearer.confirmed ++ h.block ∷ [] → Follows c.hearer c.sender.place r → Back c h e r
  block_now : (c.sender.place ≡ Lost → ⊥) → r.station.place ≡ Sending h → r.sent ≡ h.block → is_block h.block ≡ true →
      confirmed_by c.hearer (heard e c.burst) ≡ [] → c.from_hearer.accepted ≡ c.from_hearer.confirmed ++ [] → Back c h e r
  timed_out_lem : (c.sender.place ≡ Lost) ⊎ (r.station.place ≡ Lost) → confirmed_by c.hearer (heard e c.burst) ≡ [] →
      Back c h e r

module _
    (c : Circuit) (l : Linked c) (h : Held) (e : Event) (r : Reply) (at : c.hearer.place ≡ Sending h) (whole : Whole e)
    (is : said c e ≡ answered r) where
  module _ (sent_is : c.burst ≡ l.would_say) where
    first_word : first_of (heard e c.burst).0 ≡ first_of l.would_say.0
    first_word = ap (λ (v : Words). first_of v.0) (heard_whole e c.burst whole ∙ sent_is)

    confirms_by : (f : First) → first_of (heard e c.burst).0 ≡ f → confirmed_by c.hearer (heard e c.burst) ≡ confirmed_at h f
    confirms_by f i = rw (at, i)

    by : (p : Place) (f : First) (o : Owed) → Hears h p f o → c.sender.place ≡ p → first_of l.would_say.0 ≡ f →
        Told o c.from_hearer → Back c h e r
    unfolding done heard_of
    by p f o (own i) x j u =
        let y = answers c.hearer (heard e c.burst) e.offer r is in
        let q : r ≡ repeats c.hearer h.block = y.is_done ∙ rw (at, first_word, j, same_self h.number) in
        go (repeated c.hearer h.block r q)
      where
        none_now : confirmed_by c.hearer (heard e c.burst) ≡ []
        none_now = confirms_by f (first_word ∙ j) ∙ rw (same_self h.number)

        go : (r.station.place ≡ Lost) ⊎ ((r.station.place ≡ c.hearer.place) × (r.sent ≡ h.block)) → Back c h e r
        go (inl z) = timed_out_lem (inr z) none_now
        go (inr z) = block_now (λ y. in_time (Receiving h.number) refl (sym x ∙ y)) (z.0 ∙ at) z.1 i none_now u.accepted_is
    by p f o other_number x j u =
        let y = answers c.hearer (heard e c.burst) e.offer r is in
        confirmed (confirms_by f (first_word ∙ j) ∙ rw (same_other h.number)) u.accepted_is (took e.offer (y.is_passed, y.is_fine) x (y.is_done ∙ rw (at, first_word, j, same_other h.number)))
    by p f o third x j u =
        let y = answers c.hearer (heard e c.burst) e.offer r is in
        confirmed (confirms_by f (first_word ∙ j)) u.accepted_is (turns {n = h.number} x (y.is_done ∙ rw (at, first_word, j)))

  comes_back : Back c h e r
  comes_back = go l.says
    where
      go : Says c.sender l.sender_at c.burst l.would_say → Back c h e r
      go (aloud q i) =
          by i _ _ _ (subst (λ (x : Place). HearsAt x l.sender_at (first_of l.would_say.0) l.owed_hearer) (place_here c.hearer l.hears at (places_apart (Sending h) Lost refl)) (hears_at l.link)) q refl l.told_hearer
      go (no_more q i) = timed_out_lem (inl q) (by_silence c.hearer e c.burst whole i)

rqs_no_block : is_block RQ×3 ≡ false
unfolding is_block may_hold traffic_of meaning_of
rqs_no_block = refl

not_rqs : (b : Words) → is_block b ≡ true → b ≡ RQ×3 → ⊥
not_rqs b i e = absurd (true≢false (sym i ∙ ap is_block e ∙ rqs_no_block))

-- The burst goes out from a station at Sending: then the other has accepted the block, unless it still awaits it and hears RQ RQ RQ.
module _
    (c : Circuit) (l : Linked c) (h : Held) (e : Event) (r : Reply) (at : c.sender.place ≡ Sending h) (whole : Whole e)
    (is : said c e ≡ answered r) (stays : r.station.place ≡ Lost → ⊥)
    (apart : c.hearer.place ≡ Receiving h.number → c.burst ≡ RQ×3 → ⊥) where
  abbrev Ahead : Type 0
  Ahead = length c.from_sender.confirmed < length (c.from_sender.accepted ++ accepted_by c.hearer (heard e c.burst))

  hearer_here : At c.hearer l.hearer_at → c.hearer.place ≡ l.hearer_at
  hearer_here (here q) = q
  hearer_here (gone q) = absurd (stays (lost_silent c.hearer (heard e c.burst) e.offer r (answers c.hearer (heard e c.burst) e.offer r is) q).0)

  out : (x : Place) (w : Words) (o : Owed) → Sent h x w o → l.hearer_at ≡ x → c.burst ≡ w → Told o c.from_sender → Ahead
  unfolding heard_of
  out x w o (block_sent i) p q u =
      let a : accepted_by c.hearer (heard e c.burst) ≡ h.block ∷ [] = rw (hearer_here l.hears ∙ p, heard_whole e c.burst whole ∙ q, i) in
      omega (arith, ap length u.accepted_is, length-append c.from_sender.confirmed [], ap length a, length-append c.from_sender.accepted (accepted_by c.hearer (heard e c.burst)))
  out x w o rqs_sent p q u = absurd (apart (hearer_here l.hears ∙ p) q)
  out x w o (sent_again n) p q u =
      omega (arith, ap length u.accepted_is, length-append c.from_sender.confirmed (h.block ∷ []), length-append c.from_sender.accepted (accepted_by c.hearer (heard e c.burst)))

  goes_out : Ahead
  goes_out =
      out l.hearer_at l.would_say l.owed_sender (subst (λ (q : Place). SentAt q l.hearer_at l.would_say l.owed_sender) (place_here c.sender (still_at c.sender l.says) at (places_apart (Sending h) Lost refl)) (sent_at l.link)) refl (burst_is c l.says (λ z. places_apart (Sending h) Lost refl (sym at ∙ z))) l.told_sender

-- That one has heard no block, and has accepted none.
module _
    (c : Circuit) (l : Linked c) (h : Held) (e : Event) (at : c.sender.place ≡ Sending h) (whole : Whole e)
    (awaits : c.hearer.place ≡ Receiving h.number) (rqs : c.burst ≡ RQ×3) where
  abbrev Level : Type 0
  Level = c.from_sender.accepted ++ accepted_by c.hearer (heard e c.burst) ≡ c.from_sender.confirmed

  out_level : (x : Place) (w : Words) (o : Owed) → Sent h x w o → l.hearer_at ≡ x → c.burst ≡ w → Told o c.from_sender → Level
  unfolding heard_of
  out_level x w o (block_sent i) p q u = absurd (not_rqs h.block i (sym q ∙ rqs))
  out_level x w o rqs_sent p q u =
      let a : accepted_by c.hearer (heard e c.burst) ≡ [] = rw (awaits, heard_whole e c.burst whole ∙ rqs, rqs_no_block) in
      cc (append-nil c.from_sender.accepted, append-nil c.from_sender.confirmed)
  out_level x w o (sent_again n) p q u =
      absurd (n (sym p ∙ place_here c.hearer l.hears awaits (in_time (Receiving h.number) refl)))

  goes_out_level : Level
  goes_out_level =
      out_level l.hearer_at l.would_say l.owed_sender (subst (λ (q : Place). SentAt q l.hearer_at l.would_say l.owed_sender) (place_here c.sender (still_at c.sender l.says) at (places_apart (Sending h) Lost refl)) (sent_at l.link)) refl (burst_is c l.says (λ z. places_apart (Sending h) Lost refl (sym at ∙ z))) l.told_sender

-- one exchange, by its two replies
abbrev step : Circuit → Event → Reply → Circuit
step c e r = answered_by c e.offer (heard e c.burst) r

linked_step : (c : Circuit) (e : Event) (r : Reply) → Linked c → Whole e → places_call c e ≡ false → said c e ≡ answered r → Linked (step c e r)
linked_step c e r l w n i = subst (λ (a : Answer Reply). Linked (goes_on c e a)) i (linked_next c e (whole_harmless e w) n l)

module _
    (c : Circuit) (l : Linked c) (h : Held) (at : c.sender.place ≡ Sending h) (e₁ e₂ : Event) (whole₁ : Whole e₁)
    (whole₂ : Whole e₂) (r₁ r₂ : Reply) (is₁ : said c e₁ ≡ answered r₁) (is₂ : said (step c e₁ r₁) e₂ ≡ answered r₂) where
  back : Back (step c e₁ r₁) h e₂ r₂
  back = comes_back (step c e₁ r₁) (linked_step c e₁ r₁ l whole₁ (sender_sends c l h at e₁) is₁) h e₂ r₂ at whole₂ is₂

  abbrev exchanged : Circuit
  exchanged = step (step c e₁ r₁) e₂ r₂

  one : (c.hearer.place ≡ Receiving h.number → c.burst ≡ RQ×3 → ⊥) →
      (Confirms h c exchanged × InTime exchanged) ⊎ TimedOutFirst c exchanged
  one apart = go back
    where
      go : Back (step c e₁ r₁) h e₂ r₂ → (Confirms h c exchanged × InTime exchanged) ⊎ TimedOutFirst c exchanged
      go (confirmed q a w) =
          inl (record { rest = []; splits = cc (append-nil (c.from_sender.confirmed ++ h.block ∷ [])) }, follows_in_time c.sender r₁.station.place r₂ w)
      go (block_now alive p s i n a) =
          let g = goes_out c l h e₁ r₁ at whole₁ is₁ alive apart in
          absurd (omega (arith, ap length a, length-append c.from_sender.confirmed []))
      go (timed_out_lem t n) = inr (record { lost = t; unconfirmed = cc (append-nil c.from_sender.confirmed) })

  not_by_one : c.hearer.place ≡ Receiving h.number → c.burst ≡ RQ×3 → exchanged.from_sender.confirmed ≡ c.from_sender.confirmed
  not_by_one awaits rqs = go back
    where
      go : Back (step c e₁ r₁) h e₂ r₂ → exchanged.from_sender.confirmed ≡ c.from_sender.confirmed
      go (confirmed q a w) =
          let g = goes_out_level c l h e₁ at whole₁ awaits rqs in
          absurd (omega (arith, ap length (sym g ∙ a), length-append c.from_sender.confirmed (h.block ∷ [])))
      go (block_now alive p s i n a) = cc (append-nil c.from_sender.confirmed)
      go (timed_out_lem t n) = cc (append-nil c.from_sender.confirmed)

-- two exchanges, by their four replies
nothing_between : (k n m w : List Words) → n ≡ [] → Beginning Words ((k ++ n) ++ m) w → Beginning Words (k ++ m) w
nothing_between k n m w e b = subst (λ (x : List Words). Beginning Words (x ++ m) w) (ap (λ (n : List Words). k ++ n) e ∙ append-nil k) b

module _
    (c : Circuit) (l : Linked c) (h : Held) (at : c.sender.place ≡ Sending h) (e₁ e₂ e₃ e₄ : Event) (whole₁ : Whole e₁)
    (whole₂ : Whole e₂) (whole₃ : Whole e₃) (whole₄ : Whole e₄) (r₁ r₂ r₃ r₄ : Reply) (is₁ : said c e₁ ≡ answered r₁)
    (is₂ : said (step c e₁ r₁) e₂ ≡ answered r₂) (is₃ : said (step (step c e₁ r₁) e₂ r₂) e₃ ≡ answered r₃)
    (is₄ : said (step (step (step c e₁ r₁) e₂ r₂) e₃ r₃) e₄ ≡ answered r₄) where
  abbrev last : Circuit
  last = step (step (step (step c e₁ r₁) e₂ r₂) e₃ r₃) e₄ r₄

  -- Lost after the first exchange: in the second nothing is confirmed
  lost_by_then : (r₁.station.place ≡ Lost) ⊎ (r₂.station.place ≡ Lost) → confirmed_by c.sender (heard e₂ r₁.sent) ≡ [] →
      TimedOutFirst c last
  lost_by_then (inl z) n =
      let y = lost_silent r₁.station (heard e₃ r₂.sent) e₃.offer r₃ (answers r₁.station (heard e₃ r₂.sent) e₃.offer r₃ is₃) z in
      let m = by_silence r₂.station e₄ r₃.sent whole₄ y.1 in
      record { lost = inl y.0; unconfirmed = cc (append-nil c.from_sender.confirmed) }
  lost_by_then (inr z) n =
      let y = lost_silent r₂.station (heard e₄ r₃.sent) e₄.offer r₄ (answers r₂.station (heard e₄ r₃.sent) e₄.offer r₄ is₄) z in
      let m : confirmed_by r₂.station (heard e₄ r₃.sent) ≡ [] = rw z in
      record { lost = inr y.0; unconfirmed = cc (append-nil c.from_sender.confirmed) }

  two : (Confirms h c last × InTime last) ⊎ TimedOutFirst c last
  two = go (back c l h at e₁ e₂ whole₁ whole₂ r₁ r₂ is₁ is₂)
    where
      go : Back (step c e₁ r₁) h e₂ r₂ → (Confirms h c last × InTime last) ⊎ TimedOutFirst c last
      go (confirmed q a w) =
          let y = subst (λ (b : Words). Answers r₁.station b e₃.offer r₃) (heard_whole e₃ r₂.sent whole₃) (answers r₁.station (heard e₃ r₂.sent) e₃.offer r₃ is₃) in
          let z = answers r₂.station (heard e₄ r₃.sent) e₄.offer r₄ is₄ in
          inl (record { rest = confirmed_by r₂.station (heard e₄ r₃.sent); splits = cc }, goes_on_lem c.sender r₁.station.place r₂ r₁.station e₃.offer e₄.offer (heard e₄ r₃.sent) r₃ r₄ w refl y z)
      go (block_now alive p s i n a) =
          let l₂ = linked_step (step c e₁ r₁) e₂ r₂ (linked_step c e₁ r₁ l whole₁ (sender_sends c l h at e₁) is₁) whole₂ (rw at) is₂ in
          second (one (step (step c e₁ r₁) e₂ r₂) l₂ h p e₃ e₄ whole₃ whole₄ r₃ r₄ is₃ is₄ (λ x y. not_rqs h.block i (sym s ∙ y)))
        where
          second : (Confirms h (step (step c e₁ r₁) e₂ r₂) last × InTime last) ⊎ TimedOutFirst (step (step c e₁ r₁) e₂ r₂) last →
              (Confirms h c last × InTime last) ⊎ TimedOutFirst c last
          second (inl y) = inl (nothing_between c.from_sender.confirmed _ _ _ n y.0, y.1)
          second (inr y) = inr (record { lost = y.lost; unconfirmed = cc (y.unconfirmed, append-nil c.from_sender.confirmed) })
      go (timed_out_lem t n) = inr (lost_by_then t n)

-- and as demand 3 says it
record Replies (c d : Circuit) : Type 0 where
  e₁ : Event
  e₂ : Event
  whole₁ : Whole e₁
  whole₂ : Whole e₂
  r₁ : Reply
  r₂ : Reply
  is₁ : said c e₁ ≡ answered r₁
  is₂ : said (step c e₁ r₁) e₂ ≡ answered r₂
  ends_as : d ≡ step (step c e₁ r₁) e₂ r₂

replies : (c d : Circuit) → Exchanged c d → Replies c d
replies c d u = go (replied (said c u.out) u.answered)
  where
    back_too : (r₁ : Reply) → said c u.out ≡ answered r₁ → next c u.out ≡ step c u.out r₁ →
        (r₂ : Reply) × (said (step c u.out r₁) u.back ≡ answered r₂) → Replies c d
    back_too r₁ i₁ s (r₂, i₂) =
        record {
          e₁ = u.out;
          e₂ = u.back;
          whole₁ = u.whole;
          whole₂ = u.whole_back;
          r₁ = r₁;
          r₂ = r₂;
          is₁ = i₁;
          is₂ = i₂;
          ends_as = u.leads ∙ ap (λ (x : Circuit). next x u.back) s ∙ ap (goes_on (step c u.out r₁) u.back) i₂;
        }

    go : (r₁ : Reply) × (said c u.out ≡ answered r₁) → Replies c d
    go (r₁, i₁) =
        let s = ap (goes_on c u.out) i₁ in
        back_too r₁ i₁ s (replied (said (step c u.out r₁) u.back) (subst (λ (x : Circuit). is_answered (said x u.back) ≡ true) s u.answered_back))

module _ (c : Circuit) (l : Linked c) (h : Held) where
  abbrev Either : Circuit → Type 0
  Either d = (Confirms h c d × InTime d) ⊎ TimedOutFirst c d

  confirmed_or : (d : Circuit) → Either d → Confirms h c d ⊎ TimedOutFirst c d
  confirmed_or d (inl y) = inl y.0
  confirmed_or d (inr y) = inr y

  pub one_exchange : (d : Circuit) → c.sender.place ≡ Sending h → Exchanged c d → ¬ AwaitsAtRq h c →
      Confirms h c d ⊎ TimedOutFirst c d
  one_exchange d at u apart = go (replies c d u)
    where
      go : Replies c d → Confirms h c d ⊎ TimedOutFirst c d
      go y =
          confirmed_or d (subst Either (sym y.ends_as) (one c l h at y.e₁ y.e₂ y.whole₁ y.whole₂ y.r₁ y.r₂ y.is₁ y.is₂ (λ a b. apart (a, b))))

  pub two_are_needed : (d : Circuit) → c.sender.place ≡ Sending h → Exchanged c d → AwaitsAtRq h c →
      d.from_sender.confirmed ≡ c.from_sender.confirmed
  two_are_needed d at u (awaits, rqs) = go (replies c d u)
    where
      go : Replies c d → d.from_sender.confirmed ≡ c.from_sender.confirmed
      go y =
          ap (λ (x : Circuit). x.from_sender.confirmed) y.ends_as ∙ not_by_one c l h at y.e₁ y.e₂ y.whole₁ y.whole₂ y.r₁ y.r₂ y.is₁ y.is₂ awaits rqs

  either : (d g : Circuit) → c.sender.place ≡ Sending h → Exchanged c d → Exchanged d g → Either g
  either d g at u v = go (replies c d u)
    where
      both : (y : Replies c d) → Replies (step (step c y.e₁ y.r₁) y.e₂ y.r₂) g → Either g
      both y z =
          subst Either (sym z.ends_as) (two c l h at y.e₁ y.e₂ z.e₁ z.e₂ y.whole₁ y.whole₂ z.whole₁ z.whole₂ y.r₁ y.r₂ z.r₁ z.r₂ y.is₁ y.is₂ z.is₁ z.is₂)

      go : Replies c d → Either g
      go y = both y (replies _ g (subst (λ (x : Circuit). Exchanged x g) y.ends_as v))

  pub two_exchanges : (d g : Circuit) → c.sender.place ≡ Sending h → Exchanged c d → Exchanged d g →
      Confirms h c g ⊎ TimedOutFirst c g
  two_exchanges d g at u v = confirmed_or g (either d g at u v)

  pub confirmed_in_time : (d g : Circuit) → c.sender.place ≡ Sending h → Exchanged c d → Exchanged d g → Confirms h c g → InTime g
  confirmed_in_time d g at u v b = go (either d g at u v)
    where
      go : Either g → InTime g
      go (inl y) = y.1
      go (inr y) =
          absurd (omega (arith, ap length (sym y.unconfirmed ∙ b.splits), length-append (c.from_sender.confirmed ++ h.block ∷ []) b.rest, length-append c.from_sender.confirmed (h.block ∷ [])))
