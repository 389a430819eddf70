-- Records, computed: what the theorems speak of happens.
--     first_word_alone, unheard      damage to words that the station does not read does nothing; to the one that it reads, nothing is taken
--     asked_again_lem                a block that is hurt on its way is asked for again, its confirmation too, and it is printed once
--     carried_so                     of the same record, what the direction took, accepted, printed and counts as confirmed
--     turned_over_lem                an over is sent through bad reception, and the other station answers
--     over_at_receiving_turns        an over offered to the station that receives turns the direction, and puts no block on the way
--     who_are_you_lem                D in figures has the other station answer, though nothing is offered to it
--     faults, in_one_entry           the refusals: each with its place; two in one entry
--     first_fault, stands_for_good   the first entry with a fault counts; an offer that is never taken
--     rooms                          a room that is too short, the master's first
--     of_that_record                 demand 3 of the call, of the record of asked_again_lem
-- Assumes nothing.
use mathlib.Core.Path.{◌≡◌, refl, ap, sym, subst, ◌∙◌}
use mathlib.Core.List.{List, [], ◌∷◌, ◌++◌}
use Prim.Native.Nat.{ℕ}
use lib.ListN.{length}
use Rattle.signals.specs.Meaning.{meaning_of, traffic_of, word_no, figures, beta}
use Rattle.signals.specs.Numbers.{Answer, answered, refused, first_not}
use Rattle.text.specs.Printing.{printed, bytes_of}
use Rattle.mode_a.specs.declared.Words.{Words}
use Rattle.mode_a.specs.declared.Role.TheVariants.{Master, Slave}
use Rattle.mode_a.specs.Station.{words}
use Rattle.identity.specs.Table3.{is_identity}
use Rattle.identity.specs.Sums.{is_callable7}
use Rattle.mode_a.specs.Calls.{is_callable}
use Rattle.mode_a.specs.Heard.{further_of, first_of, may_hold, is_block, is_words, call_of, call3_of, heard_of}
use Rattle.mode_a.specs.Over.{who, listened}
use Rattle.mode_a.specs.Answerback.{βββ, code_signals, holds_neither, passes, answer_keeping, answer_of, block_owed, owed_then, owed_exists}
use Rattle.mode_a.specs.Step.{traffic_in, done, sound, stepping}
use Rattle.signals.specs.Damage.{kept, hurt}
use Rattle.mode_a.specs.declared.Offer.{Offer}
use Rattle.runs.specs.Runs.{start}
use Rattle.runs.specs.Circuit.{Event, Direction, Circuit, fresh, after}
use Rattle.circuit.proofs.Computed.{run_of, through, computed}
use Rattle.circuit.proofs.Runs.{clear, faded}
use Rattle.entries.specs.declared.Entry.{Entry}
use Rattle.entries.specs.declared.Entry.TheVariants.{Burst, Text, Over}
use Rattle.entries.specs.Entries.{written_all, entry_of, read_past}
use Rattle.entries.specs.Passage.{Passage, begins, circuit_of, Outcome, told, fault, tells_all}
use Rattle.entries.specs.Passing.{Texts, outcome_from, passing_from, passing}
use Rattle.ashore.specs.Ashore.{PrintedAshore}
use Rattle.ashore.proofs.Theorem.{of_the_call}

-- the words of A A E, and their text
abbrev pub AAE : Words
AAE = words (word_no 1) (word_no 1) (word_no 5)

abbrev pub aae : List ℕ
aae = 65 ∷ 65 ∷ 69 ∷ []

abbrev pub texts : List ℕ → List ℕ → Answer Texts
texts m s = answered (record { master = m; slave = s })

abbrev pub none : List ℕ
none = []

-- The first word of the slave's CS1 is the one that counts.
pub first_word_alone : passing (written_all (Text Master AAE ∷ Burst Slave 6 ∷ Burst Master 0 ∷ [])) 3 3 ≡ texts none aae
unfolding written_all passing_from outcome_from read_past entry_of tells_all after stepping sound owed_exists passes code_signals holds_neither done first_not is_block may_hold traffic_of meaning_of heard_of first_of is_words listened traffic_in printed bytes_of
first_word_alone = refl

pub unheard : passing (written_all (Text Master AAE ∷ Burst Slave 1 ∷ Burst Master 0 ∷ [])) 3 3 ≡ texts none none
unfolding written_all passing_from outcome_from read_past entry_of tells_all after stepping sound owed_exists passes code_signals holds_neither done first_not is_block may_hold traffic_of meaning_of heard_of first_of is_words listened traffic_in printed bytes_of
unheard = refl

-- The block's third word is hurt, the slave asks for it again and prints it; its CS2 is hurt, and the master asks for it again.
abbrev pub asked_again : List Entry
asked_again =
    Text Master AAE ∷ Burst Slave 0 ∷ Burst Master 4 ∷ Burst Slave 0 ∷ Burst Master 0 ∷ Burst Slave 1 ∷ Burst Master 0 ∷ Burst Slave 0 ∷
    Burst Master 0 ∷ []

pub asked_again_lem : passing (written_all asked_again) 3 3 ≡ texts none aae
unfolding written_all passing_from outcome_from read_past entry_of tells_all after stepping sound owed_exists passes code_signals holds_neither done first_not is_block may_hold traffic_of meaning_of heard_of first_of is_words listened traffic_in printed bytes_of
asked_again_lem = refl

-- It is told as these events of the circuit; and so it carries.
abbrev pub passage_of : Outcome → Passage
passage_of (told p) = p
passage_of (fault n at) = begins

abbrev that : Passage
that = passage_of (outcome_from (written_all asked_again) 0)

abbrev third_hurt : Offer → Event
third_hurt o = record { first = kept; second = kept; third = hurt 0; offer = o }

abbrev told_as : List Event
told_as =
    clear (Offer.Text AAE) ∷ third_hurt Offer.Nothing ∷ clear Offer.Nothing ∷ clear Offer.Nothing ∷ faded Offer.Nothing ∷ clear Offer.Nothing ∷
    clear Offer.Nothing ∷ clear Offer.Nothing ∷ []

pub told_as_lem : that.events ≡ run_of start told_as
unfolding written_all passing_from outcome_from read_past entry_of tells_all after stepping sound owed_exists passes code_signals holds_neither done first_not is_block may_hold traffic_of meaning_of heard_of first_of is_words listened traffic_in printed bytes_of
told_as_lem = refl

pub record CarriedSo (d : Direction) (taken accepted : List Words) (signals : List ℕ) (confirmed : List Words) : Type 0 where
  pub taken_is : d.taken ≡ taken
  pub accepted_is : d.accepted ≡ accepted
  pub printed_is : d.printed ≡ signals
  pub confirmed_is : d.confirmed ≡ confirmed

pub carried_so : CarriedSo (circuit_of that).from_hearer (AAE ∷ βββ ∷ []) (AAE ∷ βββ ∷ []) (word_no 1 ∷ word_no 1 ∷ word_no 5 ∷ []) (AAE ∷ [])
unfolding through after stepping sound owed_exists passes code_signals holds_neither done first_not is_block may_hold traffic_of meaning_of heard_of first_of is_words listened traffic_in
carried_so =
    subst (λ (c : Circuit). CarriedSo c.from_hearer (AAE ∷ βββ ∷ []) (AAE ∷ βββ ∷ []) (word_no 1 ∷ word_no 1 ∷ word_no 5 ∷ []) (AAE ∷ [])) (sym (ap (after fresh) told_as_lem ∙ computed fresh start told_as)) (record { taken_is = refl; accepted_is = refl; printed_is = refl; confirmed_is = refl })

-- The over's block, CS3, βαβ and RQ RQ RQ are each hurt once; the slave then sends its text.
abbrev pub turned_over : List Entry
turned_over =
    Over Master ∷ Text Slave AAE ∷ Burst Slave 0 ∷ Burst Master 2 ∷ Burst Slave 0 ∷ Burst Master 0 ∷ Burst Slave 1 ∷ Burst Master 0 ∷
    Burst Slave 0 ∷ Burst Master 2 ∷ Burst Slave 0 ∷ Burst Master 0 ∷ Burst Slave 4 ∷ Burst Master 0 ∷ Burst Slave 0 ∷ Burst Master 0 ∷
    Burst Slave 0 ∷ []

pub turned_over_lem : passing (written_all turned_over) 3 2 ≡ texts aae (43 ∷ 63 ∷ [])
unfolding written_all passing_from outcome_from read_past entry_of tells_all after stepping sound owed_exists passes code_signals holds_neither done first_not is_block may_hold traffic_of meaning_of heard_of first_of is_words listened traffic_in printed bytes_of
turned_over_lem = refl

-- The slave is offered an over as it receives a block, and then text: the over is taken with the block, and nothing of it is printed.
pub over_at_receiving_turns : passing (written_all (Text Master AAE ∷ Burst Slave 0 ∷ Over Slave ∷ Burst Master 0 ∷ Text Slave AAE ∷ Burst Slave 0 ∷ Burst Master 0 ∷ Burst Slave 0 ∷ Burst Master 0 ∷ Burst Slave 0 ∷ [])) 3 3 ≡ texts aae aae
unfolding written_all passing_from outcome_from read_past entry_of tells_all after stepping sound owed_exists passes code_signals holds_neither done first_not is_block may_hold traffic_of meaning_of heard_of first_of is_words listened traffic_in printed bytes_of
over_at_receiving_turns = refl

-- Who are you: the slave prints it (byte 5), sends βββ twice and an over of its own, which the master prints.
abbrev pub who_are_you : List Entry
who_are_you =
    Text Master (words figures who beta) ∷ Burst Slave 0 ∷ Burst Master 0 ∷ Burst Slave 0 ∷ Burst Master 0 ∷ Burst Slave 0 ∷ Burst Master 0 ∷
    Burst Slave 0 ∷ Burst Master 0 ∷ Burst Slave 0 ∷ Burst Master 0 ∷ Burst Slave 0 ∷ []

pub who_are_you_lem : passing (written_all who_are_you) 2 1 ≡ texts (43 ∷ 63 ∷ []) (5 ∷ [])
unfolding written_all passing_from outcome_from read_past entry_of tells_all after stepping sound answer_keeping answer_of block_owed owed_then owed_exists passes code_signals holds_neither done first_not is_block may_hold traffic_of meaning_of heard_of first_of is_words listened traffic_in printed bytes_of
who_are_you_lem = refl

-- the refusals
pub record Faults : Type 0 where
  unknown_kind : passing (2 ∷ 0 ∷ 9 ∷ 0 ∷ []) 0 0 ≡ refused 10 2
  kind_0 : passing (0 ∷ []) 0 0 ≡ refused 10 0
  burst_cut : passing (2 ∷ 0 ∷ 1 ∷ []) 0 0 ≡ refused 11 2
  text_cut : passing (2 ∷ 0 ∷ 3 ∷ 71 ∷ 71 ∷ []) 0 0 ≡ refused 11 2
  slaves_again : passing (2 ∷ 0 ∷ 2 ∷ 0 ∷ []) 0 0 ≡ refused 12 2
  masters_first : passing (1 ∷ 0 ∷ []) 0 0 ≡ refused 12 0
  bit_3 : passing (2 ∷ 0 ∷ 1 ∷ 8 ∷ []) 0 0 ≡ refused 12 2
  not_taken_yet : passing (5 ∷ 2 ∷ 1 ∷ 5 ∷ []) 0 0 ≡ refused 13 3
  rq_offered : passing (2 ∷ 0 ∷ 3 ∷ 71 ∷ 71 ∷ word_no 35 ∷ []) 0 0 ≡ refused 3 2

pub faults : Faults
unfolding written_all passing_from outcome_from read_past entry_of tells_all after stepping sound owed_exists passes code_signals holds_neither done first_not is_block may_hold traffic_of meaning_of heard_of first_of is_words listened traffic_in printed bytes_of
faults =
    record {
      unknown_kind = refl;
      kind_0 = refl;
      burst_cut = refl;
      text_cut = refl;
      slaves_again = refl;
      masters_first = refl;
      bit_3 = refl;
      not_taken_yet = refl;
      rq_offered = refl;
    }

-- within one entry 13 comes before 3, and 11 before 12, 13 and 3
pub in_one_entry :
    (passing (5 ∷ 3 ∷ 0 ∷ 0 ∷ 0 ∷ []) 0 0 ≡ refused 13 1) × (passing (1 ∷ []) 0 0 ≡ refused 11 0)
    × (passing (5 ∷ 3 ∷ []) 0 0 ≡ refused 11 1) × (passing (3 ∷ 0 ∷ 0 ∷ []) 0 0 ≡ refused 11 0)
unfolding written_all passing_from outcome_from read_past entry_of tells_all after stepping sound owed_exists passes code_signals holds_neither done first_not is_block may_hold traffic_of meaning_of heard_of first_of is_words listened traffic_in printed bytes_of
in_one_entry = (refl, refl, refl, refl)

-- the first entry with a fault counts, and it comes before a room that is too short
pub first_fault :
    (passing (1 ∷ 0 ∷ 9 ∷ []) 0 0 ≡ refused 12 0)
    × (passing (written_all asked_again ++ 9 ∷ []) 0 0 ≡ refused 10 (length (written_all asked_again)))
unfolding written_all passing_from outcome_from read_past entry_of tells_all after stepping sound owed_exists passes code_signals holds_neither done first_not is_block may_hold traffic_of meaning_of heard_of first_of is_words listened traffic_in printed bytes_of
first_fault = (refl, refl)

-- an offer to a station at Stand-by stands for good: the contact has ended, the slave is offered over twice, and the second is refused 13
pub stands_for_good : passing (7 ∷ 2 ∷ 0 ∷ 1 ∷ 0 ∷ 6 ∷ 2 ∷ 0 ∷ 1 ∷ 0 ∷ 6 ∷ []) 0 0 ≡ refused 13 10
unfolding written_all passing_from outcome_from read_past entry_of tells_all after stepping sound owed_exists passes code_signals holds_neither done first_not is_block may_hold traffic_of meaning_of heard_of first_of is_words listened traffic_in printed bytes_of further_of call_of call3_of is_identity is_callable is_callable7
stands_for_good = refl

pub rooms : (passing (written_all turned_over) 2 1 ≡ refused 2 3) × (passing (written_all turned_over) 3 1 ≡ refused 2 2)
unfolding written_all passing_from outcome_from read_past entry_of tells_all after stepping sound owed_exists passes code_signals holds_neither done first_not is_block may_hold traffic_of meaning_of heard_of first_of is_words listened traffic_in printed bytes_of
rooms = (refl, refl)

-- The call, over two rooms of 255s.
pub of_that_record : PrintedAshore (written_all asked_again) (255 ∷ []) (255 ∷ 255 ∷ 255 ∷ 255 ∷ []) 0 3 (255 ∷ []) (65 ∷ 65 ∷ 69 ∷ 255 ∷ [])
unfolding written_all passing_from outcome_from read_past entry_of tells_all after stepping sound owed_exists passes code_signals holds_neither done first_not is_block may_hold traffic_of meaning_of heard_of first_of is_words listened traffic_in printed bytes_of
of_that_record =
    of_the_call (written_all asked_again) (255 ∷ []) (255 ∷ 255 ∷ 255 ∷ 255 ∷ []) 0 3 (255 ∷ []) (65 ∷ 65 ∷ 69 ∷ 255 ∷ []) (refl, refl, refl)
