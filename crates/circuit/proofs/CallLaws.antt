-- A call between two stations: what a station that leaves Calling for Sending or Ending leaves.
--     in_call             from the step that places a call on, while one station is at Calling: it is the master, and the other stands by,
--                         or has answered and awaits block 1, or has taken the call for one of three blocks, or is Lost; nothing is carried
--     none_calling        and where none is, none comes to be without a call placed
--     leaves_completed    so what is left is what a completed call leaves
--     placing_leaves      and it begins with the step that places a call
-- Assumes nothing.
use mathlib.Core.Path.{◌≡◌, refl, ap, sym, subst, ◌∙◌}
use mathlib.Core.Bool.{Bool, true, false, ◌||◌, true≢false}
use mathlib.Core.Logic.{◌⊎◌, inl, inr}
use mathlib.Core.List.{[], ◌∷◌}
use Prim.Native.Nat.{ℕ, ◌+◌}
use native.Mathlib.Omega.{arith}
use lib.Dec.{eqb, leb}
use borrow.Author.Tests.{leb-false, le-leb}
use Rattle.std.specs.Prelude.{if◌then◌else◌}
use Rattle.signals.specs.declared.Case.TheVariants.{Letters}
use Rattle.signals.specs.Meaning.{meaning_of, traffic_of}
use Rattle.signals.specs.Numbers.{Answer, answered, refused}
use Rattle.mode_a.specs.declared.Role.{Role}
use Rattle.mode_a.specs.declared.Role.TheVariants.{Master, Slave}
use Rattle.mode_a.specs.declared.Number.{Number}
use Rattle.mode_a.specs.declared.Own.{Own}
use Rattle.mode_a.specs.declared.Gathered.{Gathered}
use Rattle.mode_a.specs.declared.Number.TheVariants.{One}
use Rattle.mode_a.specs.declared.Mark.{Mark}
use Rattle.mode_a.specs.declared.Words.{Words}
use Rattle.mode_a.specs.declared.Identity.{Identity}
use Rattle.mode_a.specs.declared.Waiting.{Waiting}
use Rattle.mode_a.specs.declared.Called.{Called}
use Rattle.mode_a.specs.declared.Peer.TheVariants.{Four, Known}
use Rattle.mode_a.specs.declared.Place.{Place}
use Rattle.mode_a.specs.declared.Place.TheVariants.{Sending, Turning, Opening, Ending, Receiving, Asking, StandBy, Lost, Calling, Calling3, Identifying, Answering}
use Rattle.mode_a.specs.declared.Offer.{Offer}
use Rattle.mode_a.specs.declared.Owed.{Owed}
use Rattle.mode_a.specs.declared.Station.{Station}
use Rattle.mode_a.specs.declared.Doing.{Doing}
use Rattle.mode_a.specs.declared.Doing.TheVariants.{Repeats, Goes, Takes, Receives, Opens, Accepts, Rests, Answers, Listens, Reaches, Answers3, Bars, Ends, Turns, Meets, Again, Yields}
use Rattle.mode_a.specs.declared.Reply.{Reply}
use Rattle.mode_a.specs.Calls.{next_block}
use Rattle.mode_a.specs.Station.{single, silence, ααα, asks_for, mark_of, marks, resting}
use Rattle.mode_a.specs.Heard.{First, Cs, Cs3, Rq, Else, Other, Heard, first_of, may_hold, is_block, is_words, call_of, call3_of, heard_of}
use Rattle.mode_a.specs.Over.{listened_all}
use Rattle.mode_a.specs.Rows.{row_of, both_heard, all_heard, heard_then, is_last}
use Rattle.mode_a.specs.Step.{sends, holds, takes_offer, takes, called, waits_on, listens, knowing, repeats, is_over, done}
use Rattle.runs.specs.Places.{is_sending, is_ending, is_stand_by, is_calling}
use Rattle.runs.specs.Runs.{start, ◌▷◌, InOrder, taking}
use Rattle.runs.specs.Taken.{block_of, taken_if}
use Rattle.runs.proofs.RowLaws.{by_sending, by_turning, by_opening, by_ending, by_receiving, by_asking, by_standing, by_calling3, by_identifying, by_answering}
use Rattle.runs.proofs.PlaceLaws.{is_standby}
use Rattle.runs.proofs.StepLaws.{Answers as Answered, answers, one_more, by_repeat, by_take, by_accept, by_listen, by_again, by_meet, standby_answers, standby_answers3, standby_listens, lost_stays}
use Rattle.runs.specs.Circuit.{Event, heard, Harmless, Run, nothing_yet, Circuit, said, places_call, confirmed_by, accepted_by, answered_by, goes_on, next, after, AllHarmless, NoCallPlaced}
use Rattle.circuit.specs.Starts.{CallPlaced, Begins, with_block_lem, with_end, CallCompleted, PlacingLeaves, LeavesCompleted}
use Rattle.circuit.proofs.DamageLaws.{Mangled, mangled, no_block, no_words, FirstIs, said as as_said, unsaid, first_heard_lem}
use Rattle.circuit.proofs.Link.{says_on}
use Rattle.circuit.proofs.ReplyLaws.{ααα-signals, asks_first, silence_first, call_no_block}
use Rattle.circuit.proofs.CallStepLaws.{cs4_says_on, heard_says_on, asked_says_on, asks_again, call_told}
use Rattle.circuit.proofs.RunLaws.{quiet}

-- No row but Stand-by's leads to Calling, and that one only by taking a call.
Quits : Bool → Doing → Type 0
Quits t (Repeats w) = Unit {0}
Quits t (Goes p w) = is_calling p ≡ false
Quits t (Takes n) = Unit {0}
Quits t (Receives n) = Unit {0}
Quits t Opens = Unit {0}
Quits t (Accepts n) = Unit {0}
Quits t (Rests n w) = Unit {0}
Quits t Answers = Unit {0}
Quits t (Listens w) = t ≡ true
Quits t (Reaches p n) = Unit {0}
Quits t Answers3 = Unit {0}
Quits t (Bars i) = Unit {0}
Quits t (Ends i) = Unit {0}
Quits t (Turns i) = Unit {0}
Quits t (Meets i) = Unit {0}
Quits t (Again p w) = is_calling p ≡ false
Quits t (Yields n) = Unit {0}

row_quits : (own : Own) (r : Role) (x : Place) (h : Heard) → is_calling x ≡ false → Quits (is_stand_by x) (row_of own r x h)
unfolding Quits
row_quits own r (Sending b) h n = by_sending (Quits false) b h.first (λ c. tt) (λ c. tt) (λ c. tt) (λ c. tt)
row_quits own r (Turning m) h n = by_turning (Quits false) r m h tt tt tt
row_quits own r Opening h n = by_opening (Quits false) r h.first (λ n. tt) tt tt
row_quits own r (Ending e) h n = by_ending (Quits false) e h.first tt (λ i. refl)
row_quits own r (Receiving m) h n = by_receiving (Quits false) m h (λ c. tt) (λ c. tt) (λ c. tt)
row_quits own r Asking h n = by_asking (Quits false) h tt tt
row_quits own r (StandBy w) h n = by_standing (Quits true) w h.call h.call3 (λ c. tt) (λ c d. tt) (λ c d. refl)
row_quits own r Lost h n = refl
row_quits own r (Calling c) h n = absurd (true≢false n)
row_quits own r (Calling3 c) h n = by_calling3 (Quits false) own.seven c h.first (λ e. refl) (λ e. tt) tt (λ e. refl)
row_quits own r (Identifying i) h n =
    by_identifying (Quits false) own.seven i h.first (λ w. refl) (λ w l. refl) (λ v e w l k. refl) (λ v e w l. refl) (λ w l. tt) (λ e l. tt) (λ e l. tt)
row_quits own r (Answering g) h n = by_answering (Quits false) own.seven g h tt (λ l. tt) (λ l g' w. refl) (λ g' w. refl)

abbrev Quit : Reply → Type 0
Quit r = is_calling r.station.place ≡ false

takes_quit : (s : Station) (n : Number) (o : Offer) → Quit (takes s n o)
takes_quit s n o = by_take Quit s n o (λ u w t. refl) refl

done_quits : (s : Station) (b : Words) (o : Offer) (d : Doing) (t : Bool) → is_calling s.place ≡ false → Quits t d → (t ≡ true → (done s b o d).taken ≡ false) → Quit (done s b o d)
unfolding done Quits
done_quits s b o (Repeats w) t n q y = by_repeat Quit s w (λ e. refl) (λ e. n)
done_quits s b o (Goes p w) t n q y = q
done_quits s b o (Takes m) t n q y = takes_quit s m o
done_quits s b o (Receives m) t n q y = refl
done_quits s b o Opens t n q y = refl
done_quits s b o (Accepts m) t n q y = by_accept Quit s m b o (listened_all s.case s.plus b) (λ w u. refl) refl
done_quits s b o (Rests m w) t n q y = refl
done_quits s b o Answers t n q y = refl
done_quits s b o (Listens w) t n q y =
    by_listen (λ (r : Reply). r.taken ≡ false → Quit r) s w o (λ i e z k. absurd (true≢false k)) (λ i e z k. absurd (true≢false k)) (λ k. refl) (y q)
done_quits s b o (Reaches p m) t n q y = takes_quit (knowing s p) m o
done_quits s b o Answers3 t n q y = refl
done_quits s b o (Bars i) t n q y = refl
done_quits s b o (Ends i) t n q y = refl
done_quits s b o (Turns i) t n q y = refl
done_quits s b o (Meets i) t n q y = by_meet Quit (knowing s (Known i)) (is_over o) refl refl
done_quits s b o (Again p w) t n q y = by_again Quit s p w (λ e. refl) (λ e. q)
done_quits s b o (Yields m) t n q y = refl

-- while no call is placed, none comes to be calling
record NoneCalling (c : Circuit) : Type 0 where
  hearer_not : is_calling c.hearer.place ≡ false
  sender_not : is_calling c.sender.place ≡ false

none_calling : (c : Circuit) (e : Event) → places_call c e ≡ false → NoneCalling c → NoneCalling (next c e)
none_calling c e n y = go (said c e) refl
  where
    go : (a : Answer Reply) → said c e ≡ a → NoneCalling (goes_on c e a)
    go (answered r) i =
        let z = answers c.hearer (heard e c.burst) e.offer r i in
        record {
          hearer_not = y.sender_not;
          sender_not = rw z.is_done (done_quits c.hearer (heard e c.burst) e.offer _ (is_stand_by c.hearer.place) y.hearer_not (row_quits c.hearer.own c.hearer.role c.hearer.place _ y.hearer_not) (λ s. ap (λ (r : Reply). r.taken) (sym z.is_done) ∙ quiet c e r i n s));
        }
    go (refused m v) i = y

-- The station that calls i, and the other: what it is, and what it has said.
record Caller (i : Identity) (s : Station) : Type 0 where
  called : Called
  at : s.place ≡ Calling called
  to_is : called.to ≡ i
  role_is : s.role ≡ Master
  case_is : s.case ≡ Letters
  plus_is : s.plus ≡ false
  owed_is : s.owed ≡ Owed.Nothing

record Awaiting (s : Station) : Type 0 where
  at : s.place ≡ Receiving One
  role_is : s.role ≡ Slave
  count_is : leb s.count 31 ≡ true
  case_is : s.case ≡ Letters
  plus_is : s.plus ≡ false
  owed_is : s.owed ≡ Owed.Nothing

data Callee (s : Station) : Words → Type 0 where
  standing : (x : Waiting) → s.place ≡ StandBy x → Callee s silence
  awaiting : Awaiting s → Callee s (asks_for One)
  answering : {v : ℕ} (g : Gathered) → s.place ≡ Answering g → is_last g.stage ≡ false → says_on (first_of v) ≡ true → Callee s (single v)
  lost : s.place ≡ Lost → Callee s silence

callee_calls : {w : Words} (s : Station) → Callee s w → is_calling s.place ≡ false
callee_calls s (standing x p) = ap is_calling p
callee_calls s (awaiting z) = ap is_calling z.at
callee_calls s (answering g p l v) = ap is_calling p
callee_calls s (lost p) = ap is_calling p

record NothingCarried (c : Circuit) : Type 0 where
  from_hearer_is : c.from_hearer ≡ nothing_yet
  from_sender_is : c.from_sender ≡ nothing_yet

data InCall (i : Identity) (c : Circuit) : Type 0 where
  hears_call : {w : Words} (k : ℕ) → Callee c.hearer w → Caller i c.sender → c.burst ≡ next_block i k → NothingCarried c → InCall i c
  hears_answer : Caller i c.hearer → Callee c.sender c.burst → NothingCarried c → InCall i c

-- a step that carries nothing
abbrev Carries : Station → Words → Offer → Reply → Type 0
Carries s b o r =
    (taken_if (taking s.place (first_of b.0)) s o r ≡ []) × (confirmed_by s b ≡ []) × (accepted_by s b ≡ []) × (r.printed ≡ silence)

still_none : (c : Circuit) (o : Offer) (b : Words) (r : Reply) → NothingCarried c → Carries c.hearer b o r → NothingCarried (answered_by c o b r)
still_none c o b r n (t, f, a, p) =
    record { from_hearer_is = rw (n.from_sender_is, a, p); from_sender_is = rw (n.from_hearer_is, t, f) }

module _ (i : Identity) (c : Circuit) (e : Event) (h : Harmless e) (r : Reply) (is : said c e ≡ answered r) (n : NothingCarried c) where
  abbrev b : Words
  b = heard e c.burst

  abbrev d : Circuit
  d = answered_by c e.offer b r

  y : Answered c.hearer b e.offer r
  y = answers c.hearer b e.offer r is

  -- The other station hears a call block.
  module _ (a : Caller i c.sender) (k : ℕ) (sent_is : c.burst ≡ next_block i k) (q : places_call c e ≡ false) where
    says : {w : Words} → Callee r.station w → r.sent ≡ w → Carries c.hearer b e.offer r → InCall i d
    says k j z = hears_answer a (subst (λ (w : Words). Callee r.station w) (sym j) k) (still_none c e.offer b r n z)

    hears : Mangled (next_block i k) b
    hears = subst (λ (w : Words). Mangled w b) sent_is (mangled e c.burst h)

    no_alphas : is_words b ααα ≡ false
    no_alphas = no_words (next_block i k) b ααα hears ααα-signals (call_no_block i k).1

    at_standing : (x : Waiting) → c.hearer.place ≡ StandBy x → InCall i d
    at_standing x p = go (both_heard x.heard (call_of c.hearer.own.four b)) refl (all_heard x.heard3 (call3_of c.hearer.own.seven b)) refl
      where
        go : (t : Bool) → both_heard x.heard (call_of c.hearer.own.four b) ≡ t → (u : Bool) → all_heard x.heard3 (call3_of c.hearer.own.seven b) ≡ u → InCall i d
        go true t u v =
            let z = standby_answers c.hearer b e.offer r y x p t in
            says (awaiting (rw z (record { at = refl; role_is = refl; count_is = refl; case_is = refl; plus_is = refl; owed_is = refl }))) (ap (λ (r : Reply). r.sent) z) (rw (p, z) (refl, refl, refl, refl))
        go false t true v =
            let z = standby_answers3 c.hearer b e.offer r y x p t v in
            says (answering _ (ap (λ (r : Reply). r.station.place) z) refl cs4_says_on) (ap (λ (r : Reply). r.sent) z) (rw (p, z) (refl, refl, refl, refl))
        go false t false v =
            let z = standby_listens c.hearer b e.offer r y x p t v in
            by_listen (λ (g : Reply). r ≡ g → g.taken ≡ false → InCall i d) c.hearer _ e.offer (λ v f g j k. absurd (true≢false k)) (λ v f g j k. absurd (true≢false k)) (λ j k. says (standing _ (ap (λ (r : Reply). r.station.place) j)) (ap (λ (r : Reply). r.sent) j) (rw (p, j) (refl, refl, refl, refl))) z (sym (ap (λ (r : Reply). r.taken) z) ∙ quiet c e r is q (ap is_stand_by p))

    at_awaiting : Awaiting c.hearer → InCall i d
    unfolding done heard_of
    at_awaiting g =
        let nb = no_block (next_block i k) b hears (call_no_block i k).0 in
        let z : r ≡ repeats c.hearer (asks_for One) = y.is_done ∙ rw (g.at, nb, no_alphas) in
        by_repeat (λ (g : Reply). r ≡ g → InCall i d) c.hearer (asks_for One) (λ t j. says (lost (ap (λ (r : Reply). r.station.place) j)) (ap (λ (r : Reply). r.sent) j) (rw (g.at, nb, j) (refl, refl, refl, refl))) (λ t j. says (awaiting (more t j)) (ap (λ (r : Reply). r.sent) j) (rw (g.at, nb, j) (refl, refl, refl, refl))) z
      where
        more : leb 31 c.hearer.count ≡ false → r ≡ sends (one_more c.hearer) (asks_for One) → Awaiting r.station
        more t j =
            let l = leb-false 31 c.hearer.count t in
            record {
              at = ap (λ (r : Reply). r.station.place) j ∙ g.at;
              role_is = ap (λ (r : Reply). r.station.role) j ∙ g.role_is;
              count_is = ap (λ (r : Reply). leb r.station.count 31) j ∙ le-leb (c.hearer.count + 1) 31 (omega arith);
              case_is = ap (λ (r : Reply). r.station.case) j ∙ g.case_is;
              plus_is = ap (λ (r : Reply). r.station.plus) j ∙ g.plus_is;
              owed_is = ap (λ (r : Reply). r.station.owed) j ∙ g.owed_is;
            }

    at_answering : (g : Gathered) → c.hearer.place ≡ Answering g → is_last g.stage ≡ false → InCall i d
    unfolding done
    at_answering g p l =
        let z = y.is_done ∙ ap (λ (x : Place). done c.hearer b e.offer (row_of c.hearer.own c.hearer.role x (heard_of c.hearer.own b))) p ∙ ap (done c.hearer b e.offer) (asks_again c.hearer.own g b l no_alphas (call_told i k b hears)) in
        by_again (λ (g : Reply). r ≡ g → InCall i d) c.hearer _ _ (λ t j. says (standing _ (ap (λ (r : Reply). r.station.place) j)) (ap (λ (r : Reply). r.sent) j) (rw (p, j) (refl, refl, refl, refl))) (λ t j. says (answering _ (ap (λ (r : Reply). r.station.place) j) l (asked_says_on g.stage)) (ap (λ (r : Reply). r.sent) j) (rw (p, j) (refl, refl, refl, refl))) z

    at_lost : c.hearer.place ≡ Lost → InCall i d
    at_lost p =
        let z = lost_stays c.hearer b e.offer r y p in
        says (lost (ap (λ (r : Reply). r.station.place) z)) (ap (λ (r : Reply). r.sent) z) (rw (p, z) (refl, refl, refl, refl))

    callee_hears : {w : Words} → Callee c.hearer w → InCall i d
    callee_hears (standing x p) = at_standing x p
    callee_hears (awaiting g) = at_awaiting g
    callee_hears (answering g p l v) = at_answering g p l
    callee_hears (lost p) = at_lost p

  -- The caller hears the answer: it goes on calling, or the call has failed, or it is completed.
  module _ (a : Caller i c.hearer) where
    data Result : Type 0 where
      calls_on_lem : InCall i d → Result
      failed : (n : ℕ) → d.sender.place ≡ resting n → is_calling d.hearer.place ≡ false → Result
      completes : CallCompleted d → d.sender.other ≡ Four i → Result

    -- no control signal was heard, or one for the first time
    on : {w : Words} → Callee c.sender w → (m : Mark) (t : Bool) →
        r ≡ done c.hearer b e.offer (if t then Rests 128 silence else Goes (Calling (record { to = a.called.to; sent = a.called.sent + 1; last = m })) (next_block a.called.to a.called.sent)) →
        taking c.hearer.place (first_of b.0) ≡ false → Result
    unfolding done
    on k m true j f = failed _ (ap (λ (r : Reply). r.station.place) j) (callee_calls c.sender k)
    on k m false j f =
        calls_on_lem (hears_call a.called.sent k (record { called = _; at = ap (λ (r : Reply). r.station.place) j; to_is = a.to_is; role_is = ap (λ (r : Reply). r.station.role) j ∙ a.role_is; case_is = ap (λ (r : Reply). r.station.case) j ∙ a.case_is; plus_is = ap (λ (r : Reply). r.station.plus) j ∙ a.plus_is; owed_is = ap (λ (r : Reply). r.station.owed) j ∙ a.owed_is }) (ap (λ (r : Reply). r.sent) j ∙ ap (λ (i : Identity). next_block i a.called.sent) a.to_is) (still_none c e.offer b r n (rw f, rw a.at, rw a.at, ap (λ (r : Reply). r.printed) j)))

    -- the same control signal for the second time: the offer is taken under number 1
    module _ (k : Awaiting c.sender) (f : taking c.hearer.place (first_of b.0) ≡ true) where
      abbrev now : Station
      now = knowing c.hearer (Four a.called.to)

      completed : Begins d → r.printed ≡ silence → r.station.role ≡ c.hearer.role → r.station.count ≡ 0 → r.station.case ≡ c.hearer.case → r.station.plus ≡ c.hearer.plus → r.station.other ≡ Four a.called.to → r.station.owed ≡ c.hearer.owed → Result
      completed z p x₁ x₂ x₃ x₄ x₅ x₆ =
          completes (record { sender_role = x₁ ∙ a.role_is; sender_count = x₂; sender_case = x₃ ∙ a.case_is; sender_plus = x₄ ∙ a.plus_is; begins = z; sender_owed = x₆ ∙ a.owed_is; hearer_role = k.role_is; hearer_place = k.at; hearer_count = k.count_is; hearer_case = k.case_is; hearer_plus = k.plus_is; hearer_owed = k.owed_is; none_from_hearer = rw (n.from_sender_is, a.at, p) }) (x₅ ∙ ap Four a.to_is)

      by_block_lem : (w : Words) (t : Bool) → block_of e.offer ≡ w ∷ [] → is_block w ≡ true → r ≡ holds now One w t → Result
      by_block_lem w t o g j =
          completed (with_block_lem g (ap (λ (r : Reply). r.station.place) j) (ap (λ (r : Reply). r.sent) j) (rw (n.from_hearer_is, f, a.at, j, a.owed_is, o))) (ap (λ (r : Reply). r.printed) j) (ap (λ (r : Reply). r.station.role) j) (ap (λ (r : Reply). r.station.count) j) (ap (λ (r : Reply). r.station.case) j) (ap (λ (r : Reply). r.station.plus) j) (ap (λ (r : Reply). r.station.other) j) (ap (λ (r : Reply). r.station.owed) j)

      by_end : r ≡ takes_offer now One Offer.End → Result
      by_end j =
          completed (with_end (ap (λ (r : Reply). r.station.place) j) (ap (λ (r : Reply). r.sent) j) (rw (n.from_hearer_is, f, a.at, j))) (ap (λ (r : Reply). r.printed) j) (ap (λ (r : Reply). r.station.role) j) (ap (λ (r : Reply). r.station.count) j) (ap (λ (r : Reply). r.station.case) j) (ap (λ (r : Reply). r.station.plus) j) (ap (λ (r : Reply). r.station.other) j) (ap (λ (r : Reply). r.station.owed) j)

      by_offer : (o : Offer) → e.offer ≡ o → InOrder c.hearer.own o → r ≡ takes_offer now One o → Result
      unfolding is_block may_hold traffic_of meaning_of
      by_offer (Offer.Text w) p g j = by_block_lem w true (ap block_of p) g j
      by_offer Offer.Over p g j = by_block_lem _ true (ap block_of p) refl j
      by_offer Offer.End p g j = by_end j
      by_offer Offer.Nothing p g j = by_block_lem _ true (ap block_of p) refl j
      by_offer (Offer.Call x) p g j = by_block_lem _ false (ap block_of p) refl j
      by_offer (Offer.Call3 x) p g j = by_block_lem _ false (ap block_of p) refl j

    -- what was heard of silence says nothing, and of Answering no control signal; of CS1 it is CS1, or says nothing
    unanswered : {w : Words} → Callee c.sender w → (f : First) → first_of b.0 ≡ f → says_on f ≡ true → Result
    unfolding heard_of
    unanswered k (Cs m) p s = absurd (true≢false (sym s))
    unanswered k Cs3 p s = absurd (true≢false (sym s))
    unanswered k Rq p s = on k Mark.None (leb 128 a.called.sent) (y.is_done ∙ rw (a.at, p)) (rw (a.at, p))
    unanswered k (Else x) p s = on k Mark.None (leb 128 a.called.sent) (y.is_done ∙ rw (a.at, p)) (rw (a.at, p))

    answered_one : Awaiting c.sender → first_of b.0 ≡ Cs One → Result
    unfolding heard_of done
    answered_one k p = go (marks a.called.last One) refl
      where
        go : (t : Bool) → marks a.called.last One ≡ t → Result
        go true m = by_offer k (rw (a.at, p) m) e.offer refl y.is_fine (y.is_done ∙ rw (a.at, p, m, a.owed_is))
        go false m = on (awaiting k) (mark_of One) (leb 128 a.called.sent) (y.is_done ∙ rw (a.at, p, m)) (rw (a.at, p) m)

    -- the first word heard, of the one that was sent
    first_by : {w : Words} (f : First) → c.burst ≡ w → first_of w.0 ≡ f → FirstIs f (first_of b.0)
    first_by f j p =
        subst (λ (f : First). FirstIs f (first_of b.0)) (ap (λ (v : Words). first_of v.0) j ∙ p) (first_heard_lem c.burst.0 b.0 (mangled e c.burst h).word0)

    silent : {w : Words} → Callee c.sender w → c.burst ≡ silence → Result
    silent k j = unanswered k (first_of b.0) refl (heard_says_on (first_by (Else Other) j silence_first) refl)

    caller_hears : Callee c.sender c.burst → Result
    caller_hears k = go k refl
      where
        by_first : Awaiting c.sender → (g : First) → first_of b.0 ≡ g → FirstIs (Cs One) g → Result
        by_first z g p as_said = answered_one z p
        by_first z g p unsaid = unanswered (awaiting z) (Else Other) p refl

        go : {w : Words} → Callee c.sender w → c.burst ≡ w → Result
        go (standing x p) j = silent (standing x p) j
        go (lost p) j = silent (lost p) j
        go (awaiting z) j = by_first z (first_of b.0) refl (first_by (Cs One) j (asks_first One))
        go (answering {v = v} g p l t) j = unanswered (answering g p l t) (first_of b.0) refl (heard_says_on (first_by (first_of v) j refl) t)

-- Every run from a call that was placed: in the call, or none is calling any more.
in_call : (i : Identity) (c : Circuit) (e : Event) → Harmless e → places_call c e ≡ false → InCall i c ⊎ NoneCalling c → InCall i (next c e) ⊎ NoneCalling (next c e)
in_call i c e h q (inr y) = inr (none_calling c e q y)
in_call i c e h q (inl y) = go (said c e) refl y
  where
    left : {r : Reply} (a : Caller i c.hearer) (k : said c e ≡ answered r) (n : NothingCarried c) → Result i c e h r k n a → InCall i (answered_by c e.offer (heard e c.burst) r) ⊎ NoneCalling (answered_by c e.offer (heard e c.burst) r)
    left a k n (calls_on_lem z) = inl z
    left a k n (failed m p z) = inr (record { hearer_not = z; sender_not = ap is_calling p })
    left a k n (completes z p) = inr (record { hearer_not = ap is_calling z.hearer_place; sender_not = begun_not z.begins })
      where
        begun_not : {d : Circuit} → Begins d → is_calling d.sender.place ≡ false
        begun_not (with_block_lem g p q f) = ap is_calling p
        begun_not (with_end p q f) = ap is_calling p

    go : (a : Answer Reply) → said c e ≡ a → InCall i c → InCall i (goes_on c e a) ⊎ NoneCalling (goes_on c e a)
    go (answered r) k (hears_call j z a u n) = inl (callee_hears i c e h r k n a j u q z)
    go (answered r) k (hears_answer a z n) = left a k n (caller_hears i c e h r k n a z)
    go (refused m v) k z = inl z

calls_of : (i : Identity) (c : Circuit) → CallPlaced i c → InCall i c
unfolding next_block
calls_of i c y = let w = is_standby c.hearer.place y.hearer_at in begins_call w.0 w.1
  where
    begins_call : (x : Waiting) → c.hearer.place ≡ StandBy x → InCall i c
    begins_call x p =
        hears_call 0 (standing x p) (record { called = _; at = ap (λ (s : Station). s.place) y.sender_is; to_is = refl; role_is = ap (λ (s : Station). s.role) y.sender_is; case_is = ap (λ (s : Station). s.case) y.sender_is; plus_is = ap (λ (s : Station). s.plus) y.sender_is; owed_is = ap (λ (s : Station). s.owed) y.sender_is }) y.burst_is (record { from_hearer_is = y.none_from_hearer; from_sender_is = y.none_from_sender })

in_call_run : (i : Identity) (c : Circuit) → CallPlaced i c → (run : Run) → AllHarmless run → NoCallPlaced c run → InCall i (after c run) ⊎ NoneCalling (after c run)
unfolding after AllHarmless NoCallPlaced
in_call_run i c y start a n = inl (calls_of i c y)
in_call_run i c y (run ▷ e) a n = in_call i (after c run) e a.1 n.1 (in_call_run i c y run a.0 n.0)

-- so what is left is what a completed call leaves
abbrev Sends : Place → Bool
Sends p = is_sending p || is_ending p

callee_sends : {w : Words} (s : Station) → Callee s w → Sends s.place ≡ false
callee_sends s (standing x p) = ap Sends p
callee_sends s (awaiting z) = ap Sends z.at
callee_sends s (answering g p l v) = ap Sends p
callee_sends s (lost p) = ap Sends p

leaves_by : (i : Identity) (c : Circuit) (e : Event) → Harmless e → InCall i c ⊎ NoneCalling c → is_calling c.hearer.place ≡ true → Sends (next c e).sender.place ≡ true → CallCompleted (next c e) × ((next c e).sender.other ≡ Four i)
leaves_by i c e h (inr y) p q = absurd (true≢false (sym p ∙ y.hearer_not))
leaves_by i c e h (inl (hears_call j z a u n)) p q = absurd (true≢false (sym p ∙ callee_calls c.hearer z))
leaves_by i c e h (inl (hears_answer a z n)) p q = go (said c e) refl q
  where
    left : {r : Reply} (k : said c e ≡ answered r) → Result i c e h r k n a → Sends r.station.place ≡ true → let d = answered_by c e.offer (heard e c.burst) r in CallCompleted d × (d.sender.other ≡ Four i)
    left k (calls_on_lem (hears_call j x y u f)) q = absurd (true≢false (sym q ∙ ap Sends y.at))
    left k (calls_on_lem (hears_answer y x f)) q = absurd (true≢false (sym (ap is_calling y.at) ∙ callee_calls c.sender z))
    left k (failed m x f) q = absurd (true≢false (sym q ∙ ap Sends x))
    left k (completes x f) q = (x, f)

    go : (g : Answer Reply) → said c e ≡ g → Sends (goes_on c e g).sender.place ≡ true → CallCompleted (goes_on c e g) × ((goes_on c e g).sender.other ≡ Four i)
    go (answered r) k q = left k (caller_hears i c e h r k n a z) q
    go (refused m v) k q = absurd (true≢false (sym q ∙ callee_sends c.sender z))

pub leaves_completed : LeavesCompleted
leaves_completed i c y run a n e h p q = leaves_by i (after c run) e h (in_call_run i c y run a n) p q

-- and the step that places a call leaves what such a run begins with
placed_by : (i : Identity) (c : Circuit) (b : Words) (o : Offer) (r : Reply) (w : Waiting) → c.hearer.place ≡ StandBy w → o ≡ Offer.Call i → Answered c.hearer b o r → r.taken ≡ true → r ≡ called c.hearer i
placed_by i c b o r w p j y t = go (both_heard w.heard (call_of c.hearer.own.four b)) refl (all_heard w.heard3 (call3_of c.hearer.own.seven b)) refl
  where
    go : (u : Bool) → both_heard w.heard (call_of c.hearer.own.four b) ≡ u → (v : Bool) → all_heard w.heard3 (call3_of c.hearer.own.seven b) ≡ v → r ≡ called c.hearer i
    go true e v f = absurd (true≢false (sym t ∙ ap (λ (r : Reply). r.taken) (standby_answers c.hearer b o r y w p e)))
    go false e true f = absurd (true≢false (sym t ∙ ap (λ (r : Reply). r.taken) (standby_answers3 c.hearer b o r y w p e f)))
    go false e false f =
        let z = standby_listens c.hearer b o r y w p e f ∙ ap (listens c.hearer (record { wait = w.wait; heard = call_of c.hearer.own.four b; heard3 = heard_then w.heard3 (call3_of c.hearer.own.seven b) })) j in
        go_on (eqb w.wait 0) z
      where
        go_on : (u : Bool) → r ≡ (if u then called c.hearer i else waits_on c.hearer (record { wait = w.wait; heard = call_of c.hearer.own.four b; heard3 = heard_then w.heard3 (call3_of c.hearer.own.seven b) })) → r ≡ called c.hearer i
        go_on true z = z
        go_on false z = absurd (true≢false (sym t ∙ ap (λ (r : Reply). r.taken) z))

pub placing_leaves : PlacingLeaves
placing_leaves i c e r h s k f g j is t = subst (CallPlaced i) (sym (ap (goes_on c e) is)) (let w = is_standby c.hearer.place h in by_place w.0 w.1)
  where
    by_place : (w : Waiting) → c.hearer.place ≡ StandBy w → CallPlaced i (answered_by c e.offer (heard e c.burst) r)
    by_place w p =
        let z = placed_by i c (heard e c.burst) e.offer r w p j (answers c.hearer (heard e c.burst) e.offer r is) t in
        record {
          caller = c.hearer;
          sender_is = ap (λ (r : Reply). r.station) z;
          burst_is = ap (λ (r : Reply). r.sent) z;
          hearer_at = s;
          hearer_sound = k;
          none_from_hearer = rw (g, p, z);
          none_from_sender = rw (f, p);
        }
