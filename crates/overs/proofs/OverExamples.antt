-- The over, and who are you, in single runs of a fresh slave, and of a station at Stand-by that is called: what is easily got wrong. Each is
-- told by its splitting; where there is none, by the place that the station computes to, through `asking_exactly`, or by what is owed.
-- Assumes nothing.
use mathlib.Core.Path.{◌≡◌, refl, sym, ◌∙◌}
use mathlib.Core.Bool.{false}
use mathlib.Core.List.{[], ◌∷◌}
use mathlib.Core.Logic.{inl, inr}
use Prim.Native.Nat.{ℕ}
use native.Mathlib.Omega.{arith}
use Rattle.signals.specs.declared.Case.TheVariants.{Letters, Figures}
use Rattle.signals.specs.Meaning.{traffic_of, meaning_of, word_no, letters, figures, alpha, beta, rq, cs1, cs3}
use Rattle.signals.specs.Numbers.{first_not}
use Rattle.mode_a.specs.declared.Role.TheVariants.{Slave}
use Rattle.mode_a.specs.declared.Number.{Number}
use Rattle.mode_a.specs.declared.Number.TheVariants.{One, Two}
use Rattle.mode_a.specs.declared.Words.{Words}
use Rattle.mode_a.specs.declared.Identity.{Identity}
use Rattle.mode_a.specs.declared.Own.{Own}
use Rattle.mode_a.specs.declared.Owed.{Owed}
use Rattle.mode_a.specs.declared.Place.{Place}
use Rattle.mode_a.specs.declared.Place.TheVariants.{Receiving, Asking}
use Rattle.mode_a.specs.declared.Offer.{Offer}
use Rattle.identity.specs.Table3.{is_identity}
use Rattle.identity.specs.Sums.{is_callable7}
use Rattle.mode_a.specs.Calls.{is_callable, call_block1, call_block2, next_block}
use Rattle.mode_a.specs.Station.{words, silence, fresh_slave, fresh_at, no_code, no_seven}
use Rattle.mode_a.specs.Heard.{first_of, may_hold, is_block, is_words, call_of, call3_of, heard_of}
use Rattle.mode_a.specs.Over.{query, cross, who, listened}
use Rattle.mode_a.specs.Answerback.{code_signals, holds_neither, passes, owed_exists}
use Rattle.mode_a.specs.Step.{traffic_in, done, sound, stepping}
use Rattle.runs.specs.Runs.{Event, Run, start, ◌▷◌, said, after, is_taken}
use Rattle.runs.proofs.PlaceLaws.{places_apart}
use Rattle.overs.specs.Overs.{accepted, earlier, since, case_after, HeardOver, OverIn, WhoIn}
use Rattle.overs.proofs.OverLaws.{asking_exactly, back_exactly, keep_exactly, standing_asks_exactly}

-- a burst heard and nothing offered; a block heard and an over offered
abbrev hears : ℕ → ℕ → ℕ → Event
hears x y z = record { burst = words x y z; offer = Offer.Nothing }

abbrev breaks : ℕ → ℕ → ℕ → Event
breaks x y z = record { burst = words x y z; offer = Offer.Over }

elsewhere : (p : Place) (n : Number) → p ≡ Receiving n → p ≡ Asking → ⊥
elsewhere p n r a = places_apart (Receiving n) Asking refl (sym r ∙ a)

-- the +, β, and the ?, each in a block of its own; a letters shift behind the ?
β-between : OverIn Slave (start ▷ hears figures cross beta ▷ hears beta beta beta) (hears beta query letters)
unfolding accepted earlier since case_after stepping sound owed_exists passes code_signals holds_neither done first_not is_block may_hold traffic_of meaning_of heard_of first_of is_words listened traffic_in
β-between = record { beginning = figures ∷ []; betas = 5; rest = letters ∷ []; split = refl; in_block = omega arith; figures_at_cross = refl; figures_at_query = refl }

-- two +: the second is the one
two_crosses : OverIn Slave (start ▷ hears figures cross cross) (hears query beta beta)
unfolding accepted earlier since case_after stepping sound owed_exists passes code_signals holds_neither done first_not is_block may_hold traffic_of meaning_of heard_of first_of is_words listened traffic_in
two_crosses = record { beginning = figures ∷ cross ∷ []; betas = 0; rest = beta ∷ beta ∷ []; split = refl; in_block = omega arith; figures_at_cross = refl; figures_at_query = refl }

-- a figures shift between
shift_between : OverIn Slave (start ▷ hears figures cross figures) (hears query beta beta) → ⊥
unfolding accepted earlier since case_after stepping sound owed_exists passes code_signals holds_neither done first_not is_block may_hold traffic_of meaning_of heard_of first_of is_words listened traffic_in
shift_between h = elsewhere _ One refl ((asking_exactly Slave (start ▷ hears figures cross figures) (hears query beta beta) refl).1 (inr (inl h)))

-- in letters case they are Z and B
in_letters : OverIn Slave start (hears cross query beta) → ⊥
unfolding accepted earlier since case_after stepping sound owed_exists passes code_signals holds_neither done first_not is_block may_hold traffic_of meaning_of heard_of first_of is_words listened traffic_in
in_letters h = elsewhere _ Two refl ((asking_exactly Slave start (hears cross query beta) refl).1 (inr (inl h)))

-- a turn, and the turn back, after a +: the + is cancelled, and figures case is still in force
abbrev turned : Run
turned = start ▷ breaks figures cross beta ▷ hears beta alpha beta ▷ hears cs1 0 0 ▷ hears cs3 0 0 ▷ hears rq 0 0

turn_between : OverIn Slave turned (hears query beta beta) → ⊥
unfolding accepted earlier since case_after stepping sound owed_exists passes code_signals holds_neither done first_not is_block may_hold traffic_of meaning_of heard_of first_of is_words listened traffic_in
turn_between h = elsewhere _ One refl ((asking_exactly Slave turned (hears query beta beta) refl).1 (inr (inl h)))

figures_after_turn : OverIn Slave turned (hears cross query beta)
unfolding accepted earlier since case_after stepping sound owed_exists passes code_signals holds_neither done first_not is_block may_hold traffic_of meaning_of heard_of first_of is_words listened traffic_in
figures_after_turn = record { beginning = []; betas = 0; rest = beta ∷ []; split = refl; in_block = omega arith; figures_at_cross = refl; figures_at_query = refl }

-- V X Q K
abbrev somebody : Identity
somebody = record { 0 = word_no 22; 1 = word_no 24; 2 = word_no 17; 3 = word_no 11 }

abbrev set : Own
set = record { four = somebody; seven = no_seven; code = no_code }

abbrev calls : Event
calls = record { burst = silence; offer = Offer.Call somebody }

-- figures case, and ααα, which leads to Stand-by; then a call is placed, and completed by CS1 twice; then a turn
abbrev ended : Run
ended = start ▷ hears figures cross beta ▷ hears alpha alpha alpha

abbrev called : Run
called = ended ▷ calls ▷ hears cs1 0 0 ▷ hears cs1 0 0

abbrev turned_after_call : Run
turned_after_call = called ▷ hears cs3 0 0 ▷ hears rq rq rq

-- Stand-by keeps the case; a call sets it to letters, and then nothing is accepted yet
pub letters_by_the_call : ((after fresh_slave ended).case ≡ Figures) × ((after fresh_slave (ended ▷ calls)).case ≡ Letters) × ((after fresh_slave called).case ≡ Letters) × (accepted fresh_slave called ≡ [])
unfolding accepted earlier since case_after stepping sound owed_exists passes code_signals holds_neither done first_not is_block may_hold traffic_of meaning_of heard_of first_of is_words listened traffic_in call_of call3_of is_callable is_callable7 is_identity next_block
letters_by_the_call = (refl, refl, refl, refl)

-- so + and ? are letters in the next circuit, where after a turn (`figures_after_turn`) they would be an over
call_between : OverIn Slave turned_after_call (hears cross query beta) → ⊥
unfolding accepted earlier since case_after stepping sound owed_exists passes code_signals holds_neither done first_not is_block may_hold traffic_of meaning_of heard_of first_of is_words listened traffic_in call_of call3_of is_callable is_callable7 is_identity next_block
call_between h = elsewhere _ One refl ((asking_exactly Slave turned_after_call (hears cross query beta) refl).1 (inr (inl h)))

over_after_call : OverIn Slave turned_after_call (hears figures cross query)
unfolding accepted earlier since case_after stepping sound owed_exists passes code_signals holds_neither done first_not is_block may_hold traffic_of meaning_of heard_of first_of is_words listened traffic_in call_of call3_of is_callable is_callable7 is_identity next_block
over_after_call = record { beginning = figures ∷ []; betas = 0; rest = []; split = refl; in_block = omega arith; figures_at_cross = refl; figures_at_query = refl }

-- the same where the call is answered: a station that hears its own call blocks, accepts figures and a +, is left by ααα, and is called
-- again
abbrev hears_all : Words → Event
hears_all b = record { burst = b; offer = Offer.Nothing }

abbrev answered_twice : Run
answered_twice =
    start ▷ hears_all (call_block1 somebody) ▷ hears_all (call_block2 somebody) ▷ hears figures cross beta ▷ hears alpha alpha alpha ▷ hears_all (call_block2 somebody) ▷ hears_all (call_block1 somebody)

answer_between : HeardOver Letters (earlier (fresh_at set) answered_twice) (since (fresh_at set) answered_twice) (cross ∷ query ∷ beta ∷ []) → ⊥
unfolding accepted earlier since case_after stepping sound owed_exists passes code_signals holds_neither done first_not is_block may_hold traffic_of meaning_of heard_of first_of is_words listened traffic_in call_of call3_of is_callable is_callable7 is_identity next_block
answer_between h = elsewhere _ Two refl ((standing_asks_exactly set answered_twice (hears cross query beta) refl).1 (inr (inl h)))

over_after_answer : HeardOver Letters (earlier (fresh_at set) answered_twice) (since (fresh_at set) answered_twice) (figures ∷ cross ∷ query ∷ [])
unfolding accepted earlier since case_after stepping sound owed_exists passes code_signals holds_neither done first_not is_block may_hold traffic_of meaning_of heard_of first_of is_words listened traffic_in call_of call3_of is_callable is_callable7 is_identity next_block
over_after_answer = record { beginning = figures ∷ []; betas = 0; rest = []; split = refl; in_block = omega arith; figures_at_cross = refl; figures_at_query = refl }

-- 02, T-06: who are you, D in figures. A figures shift before it in the same block counts, and the answer is owed with an over behind it
shift_before_who : WhoIn Slave start (hears figures who beta) × ((after fresh_slave (start ▷ hears figures who beta)).owed ≡ Owed.Back 0)
unfolding accepted earlier since case_after stepping sound owed_exists passes code_signals holds_neither done first_not is_block may_hold traffic_of meaning_of heard_of first_of is_words listened traffic_in
shift_before_who = (record { beginning = figures ∷ []; rest = beta ∷ []; split = refl; figures_at_who = refl }, refl)

-- one behind it does not, and without one D is a letter
shift_behind_who : WhoIn Slave start (hears who figures beta) → ⊥
unfolding accepted earlier since case_after stepping sound owed_exists passes code_signals holds_neither done first_not is_block may_hold traffic_of meaning_of heard_of first_of is_words listened traffic_in
shift_behind_who h = elsewhere _ Two refl ((asking_exactly Slave start (hears who figures beta) refl).1 (inl h))

who_in_letters : WhoIn Slave start (hears who beta beta) → ⊥
unfolding accepted earlier since case_after stepping sound owed_exists passes code_signals holds_neither done first_not is_block may_hold traffic_of meaning_of heard_of first_of is_words listened traffic_in
who_in_letters h = elsewhere _ Two refl ((asking_exactly Slave start (hears who beta beta) refl).1 (inl h))

-- figures case of an earlier block; and of one before a turn, through which it lasts
abbrev in_figures : Run
in_figures = start ▷ hears figures beta beta

figures_before_who : WhoIn Slave in_figures (hears beta who beta)
unfolding accepted earlier since case_after stepping sound owed_exists passes code_signals holds_neither done first_not is_block may_hold traffic_of meaning_of heard_of first_of is_words listened traffic_in
figures_before_who = record { beginning = beta ∷ []; rest = beta ∷ []; split = refl; figures_at_who = refl }

who_after_turn : WhoIn Slave turned (hears who beta beta)
unfolding accepted earlier since case_after stepping sound owed_exists passes code_signals holds_neither done first_not is_block may_hold traffic_of meaning_of heard_of first_of is_words listened traffic_in
who_after_turn = record { beginning = []; rest = beta ∷ beta ∷ []; split = refl; figures_at_who = refl }

-- + D ? is no over: D cancels the +. The answer is owed with an over behind it
who_between : (WhoIn Slave in_figures (hears cross who query)) × (OverIn Slave in_figures (hears cross who query) → ⊥)
unfolding accepted earlier since case_after stepping sound owed_exists passes code_signals holds_neither done first_not is_block may_hold traffic_of meaning_of heard_of first_of is_words listened traffic_in
who_between = (back_exactly Slave in_figures (hears cross who query) refl).0 refl

-- D and the over in one block: the direction is kept
who_and_over : (WhoIn Slave in_figures (hears who cross query)) × OverIn Slave in_figures (hears who cross query)
unfolding accepted earlier since case_after stepping sound owed_exists passes code_signals holds_neither done first_not is_block may_hold traffic_of meaning_of heard_of first_of is_words listened traffic_in
who_and_over = (keep_exactly Slave in_figures (hears who cross query) refl).0 refl

-- an over that is offered at the block with D is not taken
over_offered_waits : is_taken (said (after fresh_slave in_figures) (breaks beta who beta)) ≡ false
unfolding accepted earlier since case_after stepping sound owed_exists passes code_signals holds_neither done first_not is_block may_hold traffic_of meaning_of heard_of first_of is_words listened traffic_in
over_offered_waits = refl
