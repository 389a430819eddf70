-- What might be said more strongly than demand 3 says it and does not hold, and wrong readings of the rows that it tells from 01's:
-- each stronger sentence, and the same sentence over each wrong reading, is refuted by a computed run.
--     no-…             what more might be said
--     …-is-caught      a wrong reading, and the sentence that a run over it breaks; over 01's rows the sentences hold
--                      (right_carries, right_keeps, right_exchanges)
-- Assumes nothing.
use mathlib.Core.Path.{◌≡◌, refl, ap, subst, sym, ◌∙◌}
use mathlib.Core.Bool.{true, false, true≢false}
use mathlib.Core.Logic.{◌⊎◌, inl, inr}
use mathlib.Core.List.{List, [], ◌∷◌, ◌++◌}
use Prim.Native.Nat.{ℕ, zero, suc, ◌≤◌}
use native.Mathlib.Omega.{arith}
use lib.ListN.{length, get_or}
use Rattle.std.specs.Prelude.{if◌then◌else◌}
use Rattle.signals.specs.declared.Case.TheVariants.{Letters}
use Rattle.signals.specs.Meaning.{meaning_of, traffic_of, word_no, figures, beta, cs2, cs3}
use Rattle.signals.specs.Numbers.{Answer, answered, refused, first_not}
use Rattle.mode_a.specs.declared.Role.{Role}
use Rattle.mode_a.specs.declared.Role.TheVariants.{Slave}
use Rattle.mode_a.specs.declared.Mark.{Mark}
use Rattle.mode_a.specs.declared.Succession.{Succession}
use Rattle.mode_a.specs.declared.Peer.TheVariants.{Nobody}
use Rattle.mode_a.specs.declared.Number.{Number}
use Rattle.mode_a.specs.declared.Own.{Own}
use Rattle.mode_a.specs.declared.Code.{Code}
use Rattle.mode_a.specs.declared.Owed.{Owed}
use Rattle.mode_a.specs.declared.Number.TheVariants.{One, Two}
use Rattle.mode_a.specs.declared.Words.{Words}
use Rattle.mode_a.specs.declared.Held.{Held}
use Rattle.mode_a.specs.declared.Ended.{Ended}
use Rattle.mode_a.specs.declared.Place.{Place}
use Rattle.mode_a.specs.declared.Place.TheVariants.{Sending, Turning, Opening, Ending, Receiving, Asking, StandBy, Lost, Calling, Calling3, Identifying, Answering}
use Rattle.mode_a.specs.declared.Offer.{Offer}
use Rattle.mode_a.specs.declared.Doing.{Doing}
use Rattle.mode_a.specs.declared.Doing.TheVariants.{Repeats, Goes, Takes, Opens, Rests}
use Rattle.mode_a.specs.declared.Reply.{Reply}
use Rattle.mode_a.specs.Station.{words, single, silence, RQ×3, other, no_code, resting, fresh_at}
use Rattle.mode_a.specs.Heard.{First, Cs, Cs3, Rq, Else, Further, Heard, further_of, first_of, may_hold, is_block, is_words, call_of, call3_of, heard_of}
use Rattle.identity.specs.Table3.{is_identity}
use Rattle.identity.specs.Sums.{is_callable7}
use Rattle.identity.proofs.Examples.{PEARDBY}
use Rattle.mode_a.specs.Calls.{is_callable, next_block3}
use Rattle.mode_a.specs.Identification.{told_in}
use Rattle.mode_a.specs.Over.{query, cross, who, listened}
use Rattle.mode_a.specs.Rows.{row_of, sending, opening, asking, receiving}
use Rattle.mode_a.specs.Answerback.{code_signals, holds_neither, passes, answer_keeping, answer_of, block_owed, owed_then, owed_exists}
use Rattle.mode_a.specs.Step.{called3, is_over, traffic_in, done, sound, stepping}
use Rattle.signals.specs.Damage.{kept, hurt}
use Rattle.runs.specs.Places.{is_opening, is_asking}
use Rattle.runs.specs.Runs.{start, ◌▷◌, is_answered, is_taken}
use Rattle.runs.proofs.StepLaws.{answers}
use Rattle.runs.specs.Circuit.{Event, heard, Whole, Run, Direction, nothing_yet, Circuit, fresh_with, fresh, said, confirmed_by, answered_by, goes_on, next, after, AllHarmless, NoCallPlaced}
use Rattle.circuit.specs.Starts.{both_fresh, Call3Placed}
use Rattle.circuit.specs.Demand.{Carried, Kept, Exchanged, Confirms, TimedOutFirst, InTime, Demand3}
use Rattle.circuit.proofs.TimeLaws.{in_time}
use Rattle.circuit.proofs.Theorem.{demand3}
use Rattle.circuit.proofs.Computed.{run_of, through, computed}
use Rattle.circuit.proofs.Call3Runs.{calling}
use Rattle.circuit.proofs.AnswerRuns.{short_code}
use Rattle.circuit.proofs.Runs.{clear, faded, struck, signals3, text, none, is_ordinary, ordinary, codes_pass}

-- no block where there is one, one where there are two
not_none : (n : ℕ) → 0 ≡ suc n → ⊥
not_none n e = omega arith

not_one : (n : ℕ) → 1 ≡ suc (suc n) → ⊥
not_one n e = omega arith

whole : (o : Offer) → Whole (clear o)
whole o = (refl, refl, refl)

-- an undamaged exchange with nothing offered
abbrev exchange : Circuit → Circuit
exchange c = next (next c (clear none)) (clear none)

exchanged : (c : Circuit) → is_answered (said c (clear none)) ≡ true → is_answered (said (next c (clear none)) (clear none)) ≡ true →
    Exchanged c (exchange c)
exchanged c i j =
    record { out = clear none; back = clear none; whole = whole none; whole_back = whole none; answered = i; answered_back = j; leads = refl }

-- where neither station is Lost the block is confirmed
if_in_time : {A : Type 0} {c d : Circuit} → A ⊎ TimedOutFirst c d → InTime d → A
if_in_time (inl b) t = b
if_in_time {A} {c} {d} (inr z) t = go z.lost
  where
    go : (d.hearer.place ≡ Lost) ⊎ (d.sender.place ≡ Lost) → A
    go (inl e) = absurd (t.0 e)
    go (inr e) = absurd (t.1 e)

-- printing is never ahead
no_lock_step : ((run : Run) → AllHarmless run → NoCallPlaced fresh run → length (after fresh run).from_hearer.accepted ≤ length (after fresh run).from_hearer.confirmed) →
    ⊥
unfolding AllHarmless NoCallPlaced after stepping sound owed_exists passes code_signals holds_neither done first_not is_block may_hold traffic_of meaning_of heard_of first_of is_words listened traffic_in
no_lock_step claim =
    let h : 1 ≤ 0 = claim (start ▷ clear (text 1 2 3) ▷ clear none) ((tt, (tt, tt, tt)), (tt, tt, tt)) ((tt, refl), refl) in omega arith

-- one exchange for two: the block is damaged, and so is the answer, so that RQ RQ RQ is on the way
abbrev twice_damaged : Run
twice_damaged = start ▷ clear (text 1 2 3) ▷ struck none ▷ faded none

no_single_exchange : ((run : Run) → AllHarmless run → NoCallPlaced fresh run → (h : Held) (d : Circuit) → (after fresh run).sender.place ≡ Sending h → Exchanged (after fresh run) d → Confirms h (after fresh run) d ⊎ TimedOutFirst (after fresh run) d) →
    ⊥
unfolding AllHarmless NoCallPlaced after stepping sound owed_exists passes code_signals holds_neither done first_not is_block may_hold traffic_of meaning_of heard_of first_of is_words listened traffic_in
no_single_exchange claim =
    let b = if_in_time (claim twice_damaged (((tt, (tt, tt, tt)), (tt, refl, tt)), (refl, tt, tt)) (((tt, refl), refl), refl) (record { number = One; block = signals3 1 2 3 }) _ refl (exchanged (after fresh twice_damaged) refl refl)) (in_time _ refl, in_time _ refl) in
    not_none (length b.rest) (ap length b.splits)

-- the time-out left out: both have repeated 31 times
abbrev both_fade : ℕ → List Event
both_fade zero = []
both_fade (suc n) = faded none ∷ faded none ∷ both_fade n

abbrev almost_lost : List Event
almost_lost = clear (text 1 2 3) ∷ both_fade 31

abbrev Untimed : Circuit → Type 0
Untimed c = (h : Held) (d g : Circuit) → c.sender.place ≡ Sending h → Exchanged c d → Exchanged d g → Confirms h c g

no_untimed : ((run : Run) → AllHarmless run → NoCallPlaced fresh run → Untimed (after fresh run)) → ⊥
unfolding AllHarmless NoCallPlaced after through stepping sound owed_exists passes code_signals holds_neither done first_not is_block may_hold traffic_of meaning_of heard_of first_of is_words listened traffic_in
no_untimed claim =
    let f = subst Untimed (computed fresh start almost_lost) (let q = ordinary fresh almost_lost refl in claim (run_of start almost_lost) q.harmless q.no_call) in
    let b = f (record { number = One; block = signals3 1 2 3 }) _ _ refl (exchanged (through next fresh almost_lost) refl refl) (exchanged (exchange (through next fresh almost_lost)) refl refl) in
    not_none (length b.rest) (ap length b.splits)

-- damage that looks like a signal: the block is damaged, and CS2 is heard for the CS1 that asks for it again, so that what nobody
-- printed is confirmed
no_disguised_damage : ((run : Run) → NoCallPlaced fresh run → Demand3 (after fresh run)) → ⊥
unfolding NoCallPlaced after stepping sound owed_exists passes code_signals holds_neither done first_not is_block may_hold traffic_of meaning_of heard_of first_of is_words listened traffic_in
no_disguised_damage claim =
    let b = (claim (start ▷ clear (text 1 2 3) ▷ struck none ▷ record { first = hurt cs2; second = kept; third = kept; offer = none }) (((tt, refl), refl), refl)).from_sender.confirmed_is_printed in
    not_none (length b.rest) (ap length b.splits)

-- and D is heard for A
no_disguised_text : ((run : Run) → NoCallPlaced fresh run → Demand3 (after fresh run)) → ⊥
unfolding NoCallPlaced after stepping sound owed_exists passes code_signals holds_neither done first_not is_block may_hold traffic_of meaning_of heard_of first_of is_words listened traffic_in
no_disguised_text claim =
    let b = (claim (start ▷ clear (text 1 2 3) ▷ record { first = hurt (word_no 4); second = kept; third = kept; offer = none }) ((tt, refl), refl)).from_hearer.accepts_a_beginning in
    let n : word_no 1 ≡ word_no 4 = ap (λ (l : List Words). (get_or l 0 silence).0) b.splits in
    omega arith

-- a call of three blocks to a station that has just heard block 2 of its own four signals, V X RQ: the first block, P RQ E, completes that
-- call, so that the third, D B Y, is printed, which nobody took from an offer
abbrev called_at : Mark → Succession → Circuit
called_at m h =
    record {
      hearer = record {
        role = Slave;
        place = StandBy (record { wait = 0; heard = m; heard3 = h });
        count = 0;
        case = Letters;
        plus = false;
        own = record { four = record { 0 = word_no 16; 1 = word_no 05; 2 = word_no 22; 3 = word_no 24 }; seven = PEARDBY; code = no_code };
        other = Nobody;
        owed = Owed.Nothing;
      };
      sender = (called3 (fresh_at calling) PEARDBY).station;
      burst = (called3 (fresh_at calling) PEARDBY).sent;
      from_hearer = nothing_yet;
      from_sender = nothing_yet;
    }

placed_where_none : Call3Placed PEARDBY (called_at Mark.None Succession.None)
unfolding sound owed_exists is_callable7 is_identity
placed_where_none = record {
  caller = fresh_at calling;
  sender_is = refl;
  burst_is = refl;
  called_letters = refl;
  caller_letters = refl;
  waits = _;
  hearer_at = refl;
  none_heard = refl;
  none_heard3 = refl;
  hearer_sound = refl;
  none_from_hearer = refl;
  none_from_sender = refl;
}

abbrev three_blocks : List Event
three_blocks = clear none ∷ clear none ∷ clear none ∷ clear none ∷ clear none ∷ []

no_two_block_first : ((m : Mark) (run : Run) → AllHarmless run → NoCallPlaced (called_at m Succession.None) run → Demand3 (after (called_at m Succession.None) run)) →
    ⊥
unfolding AllHarmless NoCallPlaced after through stepping sound owed_exists passes code_signals holds_neither done first_not is_identity is_callable is_callable7 next_block3 is_block may_hold traffic_of meaning_of heard_of call_of call3_of told_in further_of first_of is_words listened traffic_in
no_two_block_first claim =
    let q = ordinary (called_at Mark.Two Succession.None) three_blocks refl in
    let b = (subst Demand3 (computed (called_at Mark.Two Succession.None) start three_blocks) (claim Mark.Two (run_of start three_blocks) q.harmless q.no_call)).from_hearer.accepts_a_beginning in
    not_none (length b.rest) (ap length b.splits)

-- an over taken at Receiving counted as a block
abbrev over_as_block : Place → List Words
over_as_block p = if is_asking p then words figures cross query ∷ [] else []

abbrev overs_taken : Answer Reply → List Words
overs_taken (answered r) = if r.taken then over_as_block r.station.place else []
overs_taken (refused n v) = []

abbrev with_taken : Direction → List Words → Direction
with_taken d l = record { taken = l; accepted = d.accepted; printed = d.printed; confirmed = d.confirmed }

abbrev counting : (Circuit → Event → List Words) → Circuit → Event → Circuit
counting taken c e =
    record {
      hearer = (next c e).hearer;
      sender = (next c e).sender;
      burst = (next c e).burst;
      from_hearer = (next c e).from_hearer;
      from_sender = with_taken (next c e).from_sender (taken c e);
    }

abbrev counting_overs : Circuit → Event → Circuit
counting_overs = counting (λ c e. (next c e).from_sender.taken ++ overs_taken (said c e))

abbrev over_offered : List Event
over_offered = clear none ∷ clear Offer.Over ∷ clear none ∷ clear none ∷ clear none ∷ clear (text 4 5 6) ∷ clear none ∷ []

no_over_as_a_block : ((es : List Event) → is_ordinary es ≡ true → Carried (through counting_overs fresh es).from_hearer) → ⊥
unfolding through stepping sound owed_exists passes code_signals holds_neither done first_not is_block may_hold traffic_of meaning_of heard_of first_of is_words listened traffic_in
no_over_as_a_block claim =
    let b = (claim over_offered refl).accepts_a_beginning in
    let n : figures ≡ word_no 4 = ap (λ (l : List Words). (get_or l 0 silence).0) b.splits in
    omega arith

-- a code that does not pass, for it asks itself: every step is refused, whatever is offered
no_any_code : ((k j : Code) → Demand3 (fresh_with k j)) → ⊥
unfolding stepping sound owed_exists passes code_signals holds_neither first_not traffic_of meaning_of listened
no_any_code claim = true≢false (sym ((claim (short_code 2 (words figures who 0) silence) no_code).refuses_only_offers (clear none) tt))

-- the blocks of an answer-back not counted, for they are not reported as taken: they are accepted all the same. The empty code's are βββ.
abbrev counting_reported : Circuit → Event → Circuit
counting_reported = counting (λ c e. if is_taken (said c e) then (next c e).from_sender.taken else c.from_hearer.taken)

abbrev asked_who : List Event
asked_who =
    clear (Offer.Text (words figures who beta)) ∷ clear none ∷ clear none ∷ clear none ∷ clear none ∷ clear none ∷ clear none ∷ []

no_reported_only : ((es : List Event) → is_ordinary es ≡ true → Carried (through counting_reported fresh es).from_hearer) → ⊥
unfolding through stepping sound owed_exists passes code_signals holds_neither block_owed owed_then answer_of answer_keeping done first_not is_block may_hold traffic_of meaning_of heard_of first_of is_words listened traffic_in
no_reported_only claim =
    let b = (claim asked_who refl).accepts_a_beginning in
    not_none (length b.rest) (ap length b.splits)

-- the end block not excepted: it gets its confirmation where its sender hears the other number
abbrev HearsOther : Ended → Circuit → Event → Type 0
HearsOther x c e = first_of (next c e).burst.0 ≡ Cs (other x.number)

abbrev end_answer_lost : Run
end_answer_lost = start ▷ clear Offer.End ▷ clear none ▷ faded none

no_end_block : ((run : Run) → AllHarmless run → NoCallPlaced fresh run → (x : Ended) (d g : Circuit) → (after fresh run).sender.place ≡ Ending x → (u : Exchanged (after fresh run) d) (v : Exchanged d g) → InTime g → HearsOther x (after fresh run) u.out ⊎ HearsOther x d v.out) →
    ⊥
unfolding AllHarmless NoCallPlaced after stepping sound owed_exists passes code_signals holds_neither done first_not is_block may_hold traffic_of meaning_of heard_of first_of is_words call_of is_callable call3_of is_callable7 is_identity listened traffic_in exchanged
no_end_block claim =
    go (claim end_answer_lost (((tt, (tt, tt, tt)), (tt, tt, tt)), (refl, tt, tt)) (((tt, refl), refl), refl) (record { number = One; total = 2 }) _ _ refl (exchanged (after fresh end_answer_lost) refl refl) (exchanged (exchange (after fresh end_answer_lost)) refl refl) (in_time _ refl, in_time _ refl))
  where
    go : {x y : Further} → (Else x ≡ Cs Two) ⊎ (Else y ≡ Cs Two) → ⊥
    go (inl e) = let y : ◌≡◌ {A = ℕ} 0 1 = cc in omega arith
    go (inr e) = let y : ◌≡◌ {A = ℕ} 0 1 = cc in omega arith

-- Wrong readings. The rows with those of Sending, Opening, Receiving and Asking read otherwise; 01's where they are not.
abbrev rows_with : (Held → First → Doing) → (Role → First → Doing) → (Number → Heard → Offer → Doing) → (Heard → Doing) → Own →
    Role → Place → Heard → Offer → Doing
rows_with s p v a own r (Sending x) h o = s x h.first
rows_with s p v a own r (Turning n) h o = row_of own r (Turning n) h
rows_with s p v a own r Opening h o = p r h.first
rows_with s p v a own r (Ending e) h o = row_of own r (Ending e) h
rows_with s p v a own r (Receiving n) h o = v n h o
rows_with s p v a own r Asking h o = a h
rows_with s p v a own r (StandBy w) h o = row_of own r (StandBy w) h
rows_with s p v a own r Lost h o = row_of own r Lost h
rows_with s p v a own r (Calling c) h o = row_of own r (Calling c) h
rows_with s p v a own r (Calling3 c) h o = row_of own r (Calling3 c) h
rows_with s p v a own r (Identifying i) h o = row_of own r (Identifying i) h
rows_with s p v a own r (Answering g) h o = row_of own r (Answering g) h

abbrev receives : Number → Heard → Offer → Doing
receives n h o = receiving n h

right_rows : (own : Own) (r : Role) (x : Place) (h : Heard) (o : Offer) → rows_with sending opening receives asking own r x h o ≡ row_of own r x h
right_rows own r (Sending x) h o = refl
right_rows own r (Turning n) h o = refl
right_rows own r Opening h o = refl
right_rows own r (Ending e) h o = refl
right_rows own r (Receiving n) h o = refl
right_rows own r Asking h o = refl
right_rows own r (StandBy w) h o = refl
right_rows own r Lost h o = refl
right_rows own r (Calling c) h o = refl
right_rows own r (Calling3 c) h o = refl
right_rows own r (Identifying i) h o = refl
right_rows own r (Answering g) h o = refl

-- the step of a circuit whose stations follow some rows, and refuse what 01's stations refuse
abbrev step_by : (Own → Role → Place → Heard → Offer → Doing) → Circuit → Event → Circuit
step_by rows c e =
    let b = heard e c.burst in
    if is_answered (said c e) then
    answered_by c e.offer b (done c.hearer b e.offer (rows c.hearer.own c.hearer.role c.hearer.place (heard_of c.hearer.own b) e.offer))
    else c

-- the sentences, over any step
abbrev CarriesBy : (Circuit → Event → Circuit) → Type 0
CarriesBy step = (es : List Event) → is_ordinary es ≡ true → Carried (through step fresh es).from_hearer × Carried (through step fresh es).from_sender

abbrev KeepsBy : (Circuit → Event → Circuit) → Type 0
KeepsBy step =
    (es : List Event) → is_ordinary es ≡ true → let c = through step fresh es in Kept c.hearer.place c.from_hearer × Kept c.sender.place c.from_sender

abbrev Undamaged : (Circuit → Event → Circuit) → Circuit → Event → Event → Type 0
Undamaged step c d e = Whole d × Whole e × (is_answered (said c d) ≡ true) × (is_answered (said (step c d) e) ≡ true)

abbrev TwoFrom : (Circuit → Event → Circuit) → Circuit → Type 0
TwoFrom step c =
    (h : Held) (e₁ e₂ e₃ e₄ : Event) → c.sender.place ≡ Sending h → Undamaged step c e₁ e₂ → Undamaged step (step (step c e₁) e₂) e₃ e₄ → let g = step (step (step (step c e₁) e₂) e₃) e₄ in Confirms h c g ⊎ TimedOutFirst c g

abbrev TwoExchangesBy : (Circuit → Event → Circuit) → Type 0
TwoExchangesBy step = (es : List Event) → is_ordinary es ≡ true → TwoFrom step (through step fresh es)

-- Over 01's rows all three hold.
abbrev right_step : Circuit → Event → Circuit
right_step = step_by (rows_with sending opening receives asking)

right_step_lem : (c : Circuit) (e : Event) → right_step c e ≡ next c e
right_step_lem c e = go (said c e) refl
  where
    go : (a : Answer Reply) → said c e ≡ a → (if is_answered a then answered_by c e.offer (heard e c.burst) (done c.hearer (heard e c.burst) e.offer (rows_with sending opening receives asking c.hearer.own c.hearer.role c.hearer.place (heard_of c.hearer.own (heard e c.burst)) e.offer)) else c) ≡ goes_on c e a
    go (answered r) i =
        let y = answers c.hearer (heard e c.burst) e.offer r i in
        ap (answered_by c e.offer (heard e c.burst)) (ap (done c.hearer (heard e c.burst) e.offer) (right_rows c.hearer.own c.hearer.role c.hearer.place (heard_of c.hearer.own (heard e c.burst)) e.offer) ∙ sym y.is_done)
    go (refused n v) i = refl

right_steps : right_step ≡ next
right_steps i c e = right_step_lem c e i

of_run : (es : List Event) → is_ordinary es ≡ true → Demand3 (through next fresh es)
unfolding after AllHarmless
of_run es h = let q = ordinary fresh es h in subst Demand3 (computed fresh start es) (demand3 fresh (both_fresh no_code no_code) codes_pass (run_of start es) q.harmless q.no_call)

right_carries : CarriesBy right_step
right_carries = subst CarriesBy (sym right_steps) (λ es h. ((of_run es h).from_hearer, (of_run es h).from_sender))

right_keeps : KeepsBy right_step
right_keeps = subst KeepsBy (sym right_steps) (λ es h. ((of_run es h).hearer_keeps, (of_run es h).sender_keeps))

exchanged_by : (c : Circuit) (d e : Event) → Undamaged next c d e → Exchanged c (next (next c d) e)
exchanged_by c d e (w, v, i, j) =
    record { out = d; back = e; whole = w; whole_back = v; answered = i; answered_back = j; leads = refl }

right_exchanges : TwoExchangesBy right_step
right_exchanges =
    subst TwoExchangesBy (sym right_steps) (λ es h k e₁ e₂ e₃ e₄ p u v. (of_run es h).two_exchanges k _ _ p (exchanged_by (through next fresh es) e₁ e₂ u) (exchanged_by (next (next (through next fresh es) e₁) e₂) e₃ e₄ v))

-- "CS3: confirmed" read as all else: the block is never confirmed. What is counted is what this reading counts: nothing at CS3.
abbrev ignores_cs3 : Held → First → Doing
ignores_cs3 h (Cs n) = sending h (Cs n)
ignores_cs3 h Cs3 = Repeats RQ×3
ignores_cs3 h Rq = sending h Rq
ignores_cs3 h (Else x) = sending h (Else x)

abbrev not_at_cs3 : First → List Words → List Words
not_at_cs3 (Cs n) l = l
not_at_cs3 Cs3 l = []
not_at_cs3 Rq l = l
not_at_cs3 (Else x) l = l

abbrev counts_as_confirmed : Direction → Direction → List Words → Direction
counts_as_confirmed before now l =
    record { taken = now.taken; accepted = now.accepted; printed = now.printed; confirmed = before.confirmed ++ l }

abbrev not_counting_cs3 : (Circuit → Event → Circuit) → Circuit → Event → Circuit
not_counting_cs3 step c e =
    let b = heard e c.burst in
    if is_answered (said c e) then
    record {
      hearer = (step c e).hearer;
      sender = (step c e).sender;
      burst = (step c e).burst;
      from_hearer = (step c e).from_hearer;
      from_sender = counts_as_confirmed c.from_hearer (step c e).from_sender (not_at_cs3 (first_of b.0) (confirmed_by c.hearer b));
    }
    else c

cs3_ignored_is_caught : TwoExchangesBy (not_counting_cs3 (step_by (rows_with ignores_cs3 opening receives asking))) → ⊥
unfolding through stepping sound owed_exists passes code_signals holds_neither done first_not is_block may_hold traffic_of meaning_of heard_of first_of is_words listened traffic_in
cs3_ignored_is_caught claim =
    let b = if_in_time (claim (clear (text 1 2 3) ∷ []) refl (record { number = One; block = signals3 1 2 3 }) (clear Offer.Over) (clear none) (clear none) (clear none) refl (whole Offer.Over, whole none, refl, refl) (whole none, whole none, refl, refl)) (in_time _ refl, in_time _ refl) in
    not_none (length b.rest) (ap length b.splits)

-- CS3 taken as no confirmation, and the block sent again after the turn: it is printed twice. At Opening such a station sends, in
-- place of the offer, the first block that it has taken and does not count as confirmed; the offer is then not taken.
abbrev beyond : List Words → List Words → List Words
beyond [] l = l
beyond (b ∷ k) [] = []
beyond (b ∷ k) (a ∷ l) = beyond k l

abbrev unconfirmed : Place → Direction → List Words
unconfirmed p d = if is_opening p then beyond d.confirmed d.taken else []

abbrev offers_again : List Words → Offer → Offer
offers_again [] o = o
offers_again (b ∷ l) o = Offer.Text b

abbrev taken_then : List Words → List Words → List Words → List Words
taken_then [] before now = now
taken_then (b ∷ l) before now = before

abbrev sends_again : Circuit → Event → Circuit
sends_again c e =
    let u = unconfirmed c.hearer.place c.from_hearer in
    let d = not_counting_cs3 next c (record { first = e.first; second = e.second; third = e.third; offer = offers_again u e.offer }) in
    record {
      hearer = d.hearer;
      sender = d.sender;
      burst = d.burst;
      from_hearer = d.from_hearer;
      from_sender = record {
        taken = taken_then u c.from_hearer.taken d.from_sender.taken;
        accepted = d.from_sender.accepted;
        printed = d.from_sender.printed;
        confirmed = d.from_sender.confirmed;
      };
    }

again_after_the_turn_is_caught : CarriesBy sends_again → ⊥
unfolding through stepping sound owed_exists passes code_signals holds_neither done first_not is_block may_hold traffic_of meaning_of heard_of first_of is_words listened traffic_in
again_after_the_turn_is_caught claim =
    let b = (claim (clear (text 1 2 3) ∷ clear Offer.Over ∷ clear none ∷ clear none ∷ clear none ∷ clear (text 4 5 6) ∷ clear Offer.Over ∷ clear none ∷ clear none ∷ clear none ∷ clear none ∷ clear none ∷ []) refl).0.accepts_a_beginning in
    not_one (length b.rest) (ap length b.splits)

-- Sending that always sends RQ RQ RQ: a block that was damaged never goes out again
abbrev always_rq : Held → First → Doing
always_rq h f = Repeats RQ×3

always_rq_is_caught : TwoExchangesBy (step_by (rows_with always_rq opening receives asking)) → ⊥
unfolding through stepping sound owed_exists passes code_signals holds_neither done first_not is_block may_hold traffic_of meaning_of heard_of first_of is_words listened traffic_in
always_rq_is_caught claim =
    let b = if_in_time (claim (clear (text 1 2 3) ∷ struck none ∷ faded none ∷ []) refl (record { number = One; block = signals3 1 2 3 }) (clear none) (clear none) (clear none) (clear none) refl (whole none, whole none, refl, refl) (whole none, whole none, refl, refl)) (in_time _ refl, in_time _ refl) in
    not_none (length b.rest) (ap length b.splits)

-- Sending that gives up at all else: its block is dropped, with nobody Lost
abbrev gives_up : Held → First → Doing
gives_up h (Cs n) = sending h (Cs n)
gives_up h Cs3 = sending h Cs3
gives_up h Rq = Rests 0 silence
gives_up h (Else x) = Rests 0 silence

dropped_block_is_caught : KeepsBy (step_by (rows_with gives_up opening receives asking)) → ⊥
unfolding through stepping sound owed_exists passes code_signals holds_neither done first_not is_block may_hold traffic_of meaning_of heard_of first_of is_words listened traffic_in
dropped_block_is_caught claim =
    let e = (claim (clear (text 1 2 3) ∷ struck none ∷ faded none ∷ []) refl).1.none_dropped (in_time (resting 0) refl) in
    not_none 0 (sym (ap length e))

-- "All else: send RQ RQ RQ" read as the block again: it is printed twice
abbrev sends_block : Held → First → Doing
sends_block h (Cs n) = sending h (Cs n)
sends_block h Cs3 = sending h Cs3
sends_block h Rq = Repeats h.block
sends_block h (Else x) = Repeats h.block

block_for_rq_is_caught : CarriesBy (step_by (rows_with sends_block opening receives asking)) → ⊥
unfolding through stepping sound owed_exists passes code_signals holds_neither done first_not is_block may_hold traffic_of meaning_of heard_of first_of is_words listened traffic_in
block_for_rq_is_caught claim =
    let b = (claim (clear (text 1 2 3) ∷ clear none ∷ faded none ∷ clear none ∷ []) refl).0.accepts_a_beginning in
    not_one (length b.rest) (ap length b.splits)

-- "βαβ: go to Opening" done at RQ RQ RQ too: the block is never confirmed
abbrev opens_at_rq : Heard → Doing
opens_at_rq h = if h.RQs then Opens else asking h

rq_for_βαβ_is_caught : TwoExchangesBy (step_by (rows_with sending opening receives opens_at_rq)) → ⊥
unfolding through stepping sound owed_exists passes code_signals holds_neither done first_not is_block may_hold traffic_of meaning_of heard_of first_of is_words listened traffic_in
rq_for_βαβ_is_caught claim =
    let b = if_in_time (claim (clear (text 1 2 3) ∷ clear Offer.Over ∷ faded none ∷ clear none ∷ clear none ∷ []) refl (record { number = One; block = signals3 1 2 3 }) (clear none) (clear none) (clear none) (clear none) refl (whole none, whole none, refl, refl) (whole none, whole none, refl, refl)) (in_time _ refl, in_time _ refl) in
    not_none (length b.rest) (ap length b.splits)

-- "or the offer is over" applied to a burst that is no block: it is confirmed and not printed
abbrev breaks_in : Number → Heard → Offer → Doing
breaks_in n h o =
    if h.block then receiving n h else if h.alphas then receiving n h else if is_over o then Goes Asking (single cs3) else receiving n h

over_unaccepted_is_caught : CarriesBy (step_by (rows_with sending opening breaks_in asking)) → ⊥
unfolding through stepping sound owed_exists passes code_signals holds_neither done first_not is_block may_hold traffic_of meaning_of heard_of first_of is_words listened traffic_in
over_unaccepted_is_caught claim =
    let b = (claim (clear (text 1 2 3) ∷ struck Offer.Over ∷ clear none ∷ []) refl).1.confirmed_is_printed in
    not_none (length b.rest) (ap length b.splits)

-- "take the offer under that number" read as number 1: a block is printed twice
abbrev takes_one : Role → First → Doing
takes_one r (Cs n) = Takes One
takes_one r Cs3 = opening r Cs3
takes_one r Rq = opening r Rq
takes_one r (Else x) = opening r (Else x)

always_one_is_caught : CarriesBy (step_by (rows_with sending takes_one receives asking)) → ⊥
unfolding through stepping sound owed_exists passes code_signals holds_neither done first_not is_block may_hold traffic_of meaning_of heard_of first_of is_words listened traffic_in
always_one_is_caught claim =
    let b = (claim (clear Offer.Over ∷ clear none ∷ clear none ∷ clear none ∷ clear none ∷ clear (text 4 5 6) ∷ clear none ∷ clear none ∷ clear none ∷ []) refl).0.accepts_a_beginning in
    not_one (length b.rest) (ap length b.splits)
