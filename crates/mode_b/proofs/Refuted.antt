-- A wrong sender and wrong receivers, most of another shape than the right ones, so that no edit of one operand makes them. Of each,
-- a call at which what the promise says is not what it would do: computed, not argued.
--     no_refusing_sender     one that refuses every slot
--     no_order_7_6_3         one that tells a slot past the last before a word that may not stand in the text
--     no_printing_at_once    a receiver that prints from the first settled signal, and not from the first return or line feed
-- Wrong ends of reception (02, T-03).
--     no_dx_alone            at the second α the position before the two is settled at once, by its DX alone
--     no_star_for_the_last   where its DX is damaged it is an error, though its RX is intact
--     no_rx_alone            where its RX is damaged it is an error, though its DX is intact
--     no_wait_of_two         two words are heard behind the second α
--     no_wait_of_four        four words are
--     no_third_α_anew        an α behind the two begins the wait anew
--     no_second_printed      the second of the three words is settled and printed
--     no_third_printed       the third is
--     no_wait_searched       the words of the wait count for the search
--     no_wait_of_4_taken     a remaining wait of 4 is taken
--     no_wait_of_3_refused   a remaining wait of 3 is refused
-- Wrong fresh receivers.
--     no_fresh_receiver_with_a_run   one whose search run is not 0, whichever its last signal is
--     no_fresh_receiver_after_rq     one whose last signal is RQ
--     no_fresh_receiver_in_phase     one that is in phase, whatever words it waits with
--     no_fresh_receiver_waiting      one that waits for the end
-- Assumes nothing.
use mathlib.Core.Path.{◌≡◌, ap, sym, ◌∙◌}
use mathlib.Core.Bool.{Bool, true, false}
use mathlib.Core.List.{[], ◌∷◌}
use Prim.Native.Nat.{ℕ, suc}
use Rattle.std.specs.Prelude.{Result, Ok, Err, Option, Some, None}
use native.Mathlib.Omega.{arith}
use Rattle.signals.specs.Units.{intact_of, ones_of}
use Rattle.signals.specs.Meaning.{meaning_of, traffic_of}
use Rattle.signals.specs.Numbers.{Answer, answered, refused, first_not}
use Rattle.mode_b.specs.declared.SlotError.{SlotError}
use Rattle.mode_b.specs.declared.Phasing.{Phasing}
use Rattle.mode_b.specs.declared.Phase.{Phase}
use Rattle.mode_b.specs.declared.Wait.{Wait}
use Rattle.mode_b.specs.declared.Hearing.{Hearing}
use Rattle.mode_b.specs.declared.Hearing.TheVariants.{Searching, InPhase, Waiting}
use Rattle.mode_b.specs.declared.Receiver.{Receiver}
use Rattle.mode_b.specs.declared.Heard.{Heard}
use Rattle.mode_b.specs.Sender.{with_breaks, positions_of, slots_from, slots_of, slotting, said_slot, Slots}
use Rattle.mode_b.specs.Receiver.{fresh_receiver, settled, heard_rx, heard_dx, waits_for, waited, printed_in, Receives}
use Rattle.mode_b.proofs.EndLaws.{doing, refusal}

abbrev number_in : Answer ℕ → ℕ
number_in (answered w) = 0
number_in (refused n v) = n

-- whatever satisfies the promise there is no refusal, of any number
pub no_refusing_sender : (r : Result ℕ SlotError) → Slots (86 ∷ []) 36 r → number_in (said_slot r) ≡ 0
unfolding slotting slots_of slots_from positions_of with_breaks first_not traffic_of meaning_of
no_refusing_sender r p = ap number_in p

-- a bad word told before a slot past the last
pub no_order_7_6_3 : (n : ℕ) → Slots (51 ∷ []) 72 (Err (SlotError.PastLast n)) → ⊥
unfolding slotting first_not traffic_of meaning_of
no_order_7_6_3 n p = let z : ◌≡◌ {A = ℕ} 6 3 = ap number_in p in omega arith

-- in phase, the first of the three DX words E; and behind two α, printing, where a word was heard as the DX of the position that waits
abbrev in_phase_with : Bool → ℕ → ℕ → Bool → Receiver
in_phase_with dx second third printing = record { hearing = InPhase (record { first = 86; second = second; third = third; dx = dx; printing = printing }) }

abbrev waiting_with : ℕ → ℕ → Receiver
waiting_with word left = record { hearing = waits_for word true left }

abbrev word_in : Option ℕ → ℕ
word_in (Some w) = w
word_in None = 0

pub no_printing_at_once : (h : Heard) → h.printed ≡ Some 86 → Receives (in_phase_with false 86 86 false) 86 (Ok h) → ⊥
unfolding heard_rx settled intact_of ones_of
no_printing_at_once h e p = let z : ◌≡◌ {A = ℕ} 86 0 = ap word_in (sym e ∙ ap printed_in p.0) in omega arith

-- the DX before this α is α, and before that one E
pub no_dx_alone : (h : Heard) → h.printed ≡ Some 86 → Receives (in_phase_with true 86 15 true) 15 (Ok h) → ⊥
unfolding heard_dx
no_dx_alone h e p = let z : ◌≡◌ {A = ℕ} 86 0 = ap word_in (sym e ∙ ap printed_in p.0) in omega arith

-- 0 was heard as the DX of the position that waits, and E comes as its RX; and the other way round
pub no_star_for_the_last : (h : Heard) → h.printed ≡ Some 255 → Receives (waiting_with 0 3) 86 (Ok h) → ⊥
unfolding waited settled intact_of ones_of traffic_of meaning_of
no_star_for_the_last h e p = let z : ◌≡◌ {A = ℕ} 255 86 = ap word_in (sym e ∙ ap printed_in p.0) in omega arith

pub no_rx_alone : (h : Heard) → h.printed ≡ Some 255 → Receives (waiting_with 86 3) 0 (Ok h) → ⊥
unfolding waited settled intact_of ones_of traffic_of meaning_of
no_rx_alone h e p = let z : ◌≡◌ {A = ℕ} 255 86 = ap word_in (sym e ∙ ap printed_in p.0) in omega arith

-- what a receiver is doing after the word
abbrev hearing_in : Answer Heard → Hearing
hearing_in (answered h) = h.receiver.hearing
hearing_in (refused n v) = fresh_receiver.hearing

pub no_wait_of_two : (h : Heard) → h.receiver ≡ fresh_receiver → Receives (waiting_with 0 2) 71 (Ok h) → ⊥
unfolding waited
no_wait_of_two h e p = let z : ◌≡◌ {A = ℕ} 0 2 = sym (ap (λ (r : Receiver). doing r.hearing) e) ∙ ap (λ (a : Answer Heard). doing (hearing_in a)) p.0 in omega arith

pub no_wait_of_four : (h : Heard) (v : Wait) → h.receiver.hearing ≡ Waiting v → Receives (waiting_with 0 1) 71 (Ok h) → ⊥
unfolding waited
no_wait_of_four h v e p = let z : ◌≡◌ {A = ℕ} 2 0 = sym (ap doing e) ∙ ap (λ (a : Answer Heard). doing (hearing_in a)) p.0 in omega arith

pub no_third_α_anew : (h : Heard) (v : Wait) → h.receiver.hearing ≡ Waiting v → v.left ≡ 3 → Receives (waiting_with 0 2) 15 (Ok h) → ⊥
unfolding waited
no_third_α_anew h v e f p = let g : Waiting v ≡ waits_for 0 false 1 = sym e ∙ ap hearing_in p.0 in let z : ◌≡◌ {A = ℕ} 3 1 = sym f ∙ ap left_in g in omega arith
  where
    left_in : Hearing → ℕ
    left_in (Searching k last) = 0
    left_in (InPhase p) = 0
    left_in (Waiting v) = v.left

pub no_second_printed : (h : Heard) → h.printed ≡ Some 86 → Receives (waiting_with 0 2) 86 (Ok h) → ⊥
unfolding waited
no_second_printed h e p = let z : ◌≡◌ {A = ℕ} 86 0 = ap word_in (sym e ∙ ap printed_in p.0) in omega arith

pub no_third_printed : (h : Heard) → h.printed ≡ Some 86 → Receives (waiting_with 0 1) 86 (Ok h) → ⊥
unfolding waited
no_third_printed h e p = let z : ◌≡◌ {A = ℕ} 86 0 = ap word_in (sym e ∙ ap printed_in p.0) in omega arith

pub no_wait_searched : (h : Heard) (run : ℕ) (last : Phasing) → h.receiver.hearing ≡ Searching (suc run) last → Receives (waiting_with 0 1) 15 (Ok h) → ⊥
unfolding waited
no_wait_searched h run last e p = let f : Searching (suc run) last ≡ Searching 0 Phasing.One = sym e ∙ ap hearing_in p.0 in let z : ◌≡◌ {A = ℕ} 0 1 = cc in omega arith

pub no_wait_of_4_taken : (h : Heard) (w : ℕ) → Receives (waiting_with 86 4) w (Ok h) → ⊥
no_wait_of_4_taken h w p = let z : ◌≡◌ {A = ℕ} 0 4 = ap refusal p.0 in omega arith

pub no_wait_of_3_refused : (r : Receiver) (w : ℕ) → Receives (waiting_with 86 3) w (Err (record { 0 = r })) → ⊥
no_wait_of_3_refused r w p = let z : ◌≡◌ {A = ℕ} 4 0 = ap refusal p.0 in omega arith

pub no_fresh_receiver_with_a_run : (r : Receiver) (run : ℕ) (last : Phasing) → r.hearing ≡ Searching (suc run) last → r ≡ fresh_receiver → ⊥
no_fresh_receiver_with_a_run r run last e p = let z : ◌≡◌ {A = ℕ} 0 1 = cc in omega arith

pub no_fresh_receiver_after_rq : (r : Receiver) (run : ℕ) → r.hearing ≡ Searching run Phasing.Two → r ≡ fresh_receiver → ⊥
no_fresh_receiver_after_rq r run e p = let z : ◌≡◌ {A = ℕ} 0 1 = cc in omega arith

pub no_fresh_receiver_in_phase : (r : Receiver) (phase : Phase) → r.hearing ≡ InPhase phase → r ≡ fresh_receiver → ⊥
no_fresh_receiver_in_phase r phase e p = let z : ◌≡◌ {A = ℕ} 0 1 = cc in omega arith

pub no_fresh_receiver_waiting : (r : Receiver) (v : Wait) → r.hearing ≡ Waiting v → r ≡ fresh_receiver → ⊥
no_fresh_receiver_waiting r v e p = let z : ◌≡◌ {A = ℕ} 2 0 = sym (ap doing e) ∙ ap (λ (r : Receiver). doing r.hearing) p in omega arith
