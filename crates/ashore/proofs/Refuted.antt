-- Readings of a record that one could take for 02's, each beside ours over one record, and claims that go too far.
--     right                          the walk over our own reading is `outcome_from`; each wrong reading differs from it in one part
--     no_bits_from_the_last_word     bit 0 is the third word
--     no_offer_pressed_once          an offer is pressed at the next burst that its station hears, and dropped where that does not take it
--     no_burst_of_the_master_first   the master's first burst leads
--     no_3_before_13                 a word that may not stand there is told before an offer that still stands
--     no_case_by_block               each block is printed from letters case
--     no_all_that_was_taken          what a station prints is all the traffic in the blocks that the other took
--     no_offers_alone                the blocks taken are always of the record's offers, or βββ: D in figures is answered
-- Assumes nothing.
use mathlib.Core.Path.{◌≡◌, refl, ap}
use mathlib.Core.Bool.{false}
use mathlib.Core.List.{List, [], ◌∷◌, ◌++◌}
use Prim.Native.Nat.{ℕ, ◌+◌}
use native.Mathlib.Omega.{arith}
use lib.Dec.{eqb, ltb}
use lib.ListN.{length, length-append}
use Rattle.std.specs.Prelude.{if◌then◌else◌}
use Rattle.signals.specs.declared.Case.TheVariants.{Letters}
use Rattle.signals.specs.Meaning.{meaning_of, traffic_of, figures, beta}
use Rattle.signals.specs.Numbers.{Answer, answered, refused, first_not}
use Rattle.text.specs.Printing.{printed, bytes_of}
use Rattle.mode_a.specs.declared.Role.{Role}
use Rattle.mode_a.specs.declared.Role.TheVariants.{Master, Slave}
use Rattle.mode_a.specs.declared.Words.{Words}
use Rattle.mode_a.specs.declared.Offer.{Offer}
use Rattle.mode_a.specs.declared.Reply.{Reply}
use Rattle.mode_a.specs.Station.{words, list_of}
use Rattle.mode_a.specs.Heard.{first_of, may_hold, is_block, is_words, heard_of}
use Rattle.mode_a.specs.Over.{listened}
use Rattle.mode_a.specs.Answerback.{code_signals, holds_neither, passes, answer_keeping, answer_of, block_owed, owed_then, owed_exists}
use Rattle.mode_a.specs.Step.{traffic_in, done, sound, stepping}
use Rattle.runs.specs.Runs.{start, ◌▷◌}
use Rattle.runs.specs.Circuit.{traffic, signals_in, said, after}
use Rattle.entries.specs.declared.Entry.{Entry}
use Rattle.entries.specs.declared.Entry.TheVariants.{Burst, Text, Over, End}
use Rattle.entries.specs.declared.Standing.{Standing}
use Rattle.entries.specs.Entries.{written, written_all, entry_of, read_past, record_of, Rest}
use Rattle.entries.specs.Passage.{Passage, standing_of, begins, circuit_of, offer_to, offering, damage_to, hearing, event_of, turned, after_burst, tells, stands, fault_of, Outcome, told, fault, of_rest, tells_all, signals_of, text_of}
use Rattle.entries.specs.Passing.{Texts, outcome_from}
use Rattle.ashore.specs.Ashore.{Reached, direction_to}
use Rattle.ashore.specs.Offers.{offers_to, still, TrafficFrom, no_traffic, then_of, TookInOrder}
use Rattle.ashore.proofs.ReachLaws.{records_reach}
use Rattle.ashore.proofs.PrintLaws.{traffic_from}
use Rattle.ashore.proofs.Runs.{AAE, passage_of, who_are_you}

-- a reading: what it begins with, what an entry does, what is wrong with one, and a station's text
pub record Reading : Type 0 where
  pub from : Passage
  pub reads : Passage → Entry → Passage
  pub faults : Standing → Entry → ℕ
  pub prints : Passage → Role → List ℕ

abbrev pub ours : Reading
ours = record { from = begins; reads = tells; faults = fault_of; prints = text_of }

abbrev pub walk : Reading → List Entry → Rest → ℕ → Passage → Outcome
walk r [] rest at p = of_rest rest at p
walk r (e ∷ es) rest at p =
    if eqb (r.faults p.standing e) 0 then walk r es rest (at + length (written e)) (r.reads p e)
    else fault (r.faults p.standing e) at

abbrev pub outcome_by : Reading → List ℕ → Outcome
outcome_by r bytes = walk r (record_of bytes).entries (record_of bytes).rest 0 r.from

abbrev pub texts_by : Reading → Outcome → Answer Texts
texts_by r (told p) = answered (record { master = r.prints p Master; slave = r.prints p Slave })
texts_by r (fault n at) = refused n at

abbrev pub read_by : Reading → List ℕ → Answer Texts
read_by r bytes = texts_by r (outcome_by r bytes)

walks : (es : List Entry) (rest : Rest) (at : ℕ) (p : Passage) → walk ours es rest at p ≡ tells_all es rest at p
unfolding tells_all
walks [] rest at p = refl
walks (e ∷ es) rest at p = rw (walks es rest (at + length (written e)) (tells p e))

pub right : (bytes : List ℕ) → outcome_by ours bytes ≡ outcome_from bytes 0
unfolding outcome_from
right bytes = walks (record_of bytes).entries (record_of bytes).rest 0 begins

-- two answers are told apart by a number: that of a refusal, or how many bytes the slave printed, or the last of them
abbrev pub Same : Reading → Type 0
Same r = (bytes : List ℕ) → read_by r bytes ≡ read_by ours bytes

abbrev pub length_in : Answer Texts → ℕ
length_in (answered t) = length t.slave
length_in (refused n at) = 100 + n

abbrev pub last_of : ℕ → List ℕ → ℕ
last_of x [] = x
last_of x (y ∷ ys) = last_of y ys

abbrev pub last_in : Answer Texts → ℕ
last_in (answered t) = last_of 0 t.slave
last_in (refused n at) = 0

-- bit 0 is the third word
abbrev pub last_word_first : Passage → Entry → Passage
last_word_first p (Burst r d) =
    after_burst p (record { first = damage_to d 2; second = damage_to d 1; third = damage_to d 0; offer = offer_to p.standing (hearing p.standing) })
last_word_first p (Text r w) = tells p (Text r w)
last_word_first p (Over r) = tells p (Over r)
last_word_first p (End r) = tells p (End r)

pub no_bits_from_the_last_word : Same (record { from = begins; reads = last_word_first; faults = fault_of; prints = text_of }) → ⊥
unfolding written_all read_past entry_of after stepping sound owed_exists passes code_signals holds_neither done first_not is_block may_hold traffic_of meaning_of heard_of first_of is_words listened traffic_in printed bytes_of
no_bits_from_the_last_word claim =
    let z : ◌≡◌ {A = ℕ} 3 0 = ap length_in (claim (written_all (Text Master AAE ∷ Burst Slave 1 ∷ Burst Master 0 ∷ []))) in omega arith

-- the offer is dropped, taken or not
abbrev pub dropped : Standing → Answer Reply → Standing
dropped s (answered r) = turned (offering s (hearing s) Offer.Nothing)
dropped s (refused n v) = s

abbrev pub pressed_once : Passage → Entry → Passage
pressed_once p (Burst r d) =
    record { events = p.events ▷ event_of p.standing d; standing = dropped p.standing (said (circuit_of p) (event_of p.standing d)) }
pressed_once p (Text r w) = tells p (Text r w)
pressed_once p (Over r) = tells p (Over r)
pressed_once p (End r) = tells p (End r)

pub no_offer_pressed_once : Same (record { from = begins; reads = pressed_once; faults = fault_of; prints = text_of }) → ⊥
unfolding written_all read_past entry_of after stepping sound owed_exists passes code_signals holds_neither done first_not is_block may_hold traffic_of meaning_of heard_of first_of is_words listened traffic_in printed bytes_of
no_offer_pressed_once claim =
    let z : ◌≡◌ {A = ℕ} 0 3 = ap length_in (claim (written_all (Text Master AAE ∷ Burst Slave 1 ∷ Burst Master 0 ∷ Burst Slave 0 ∷ Burst Master 0 ∷ []))) in
    omega arith

-- the master's burst is on the way
pub no_burst_of_the_master_first : Same (record { from = record { events = start; standing = standing_of Master Offer.Nothing Offer.Nothing }; reads = tells; faults = fault_of; prints = text_of }) → ⊥
unfolding written_all read_past entry_of after stepping sound owed_exists passes code_signals holds_neither done first_not is_block may_hold traffic_of meaning_of heard_of first_of is_words listened traffic_in printed bytes_of
no_burst_of_the_master_first claim = let z : ◌≡◌ {A = ℕ} 112 0 = ap length_in (claim (2 ∷ 0 ∷ [])) in omega arith

-- 3 before 13
abbrev pub words_first : Standing → Entry → ℕ
words_first s (Burst r d) = fault_of s (Burst r d)
words_first s (Text r w) = if ltb (first_not may_hold (list_of w)) 3 then 3 else if stands (offer_to s r) then 13 else 0
words_first s (Over r) = fault_of s (Over r)
words_first s (End r) = fault_of s (End r)

pub no_3_before_13 : Same (record { from = begins; reads = tells; faults = words_first; prints = text_of }) → ⊥
unfolding written_all read_past entry_of after stepping sound owed_exists passes code_signals holds_neither done first_not is_block may_hold traffic_of meaning_of heard_of first_of is_words listened traffic_in printed bytes_of
no_3_before_13 claim = let z : ◌≡◌ {A = ℕ} 103 113 = ap length_in (claim (5 ∷ 3 ∷ 0 ∷ 0 ∷ 0 ∷ [])) in omega arith

-- each block from letters case
abbrev pub block_by_block : List Words → List ℕ
block_by_block [] = []
block_by_block (b ∷ bs) = printed Letters (traffic (list_of b)) ++ block_by_block bs

abbrev pub by_block : Passage → Role → List ℕ
by_block p r = block_by_block (direction_to p r).accepted

pub no_case_by_block : Same (record { from = begins; reads = tells; faults = fault_of; prints = by_block }) → ⊥
unfolding traffic written_all read_past entry_of after stepping sound owed_exists passes code_signals holds_neither done first_not is_block may_hold traffic_of meaning_of heard_of first_of is_words listened traffic_in printed bytes_of
no_case_by_block claim =
    let z : ◌≡◌ {A = ℕ} 69 51 = ap last_in (claim (written_all (Text Master (words figures beta beta) ∷ Burst Slave 0 ∷ Burst Master 0 ∷ Text Master AAE ∷ Burst Slave 0 ∷ Burst Master 0 ∷ []))) in
    omega arith

-- a block is on the way, and not heard yet
pub no_all_that_was_taken : ((bytes : List ℕ) (p : Passage) → outcome_from bytes 0 ≡ told p → (r : Role) → signals_of p r ≡ signals_in (direction_to p r).taken) → ⊥
unfolding outcome_from tells_all signals_in traffic written_all read_past entry_of after stepping sound owed_exists passes code_signals holds_neither done first_not is_block may_hold traffic_of meaning_of heard_of first_of is_words listened traffic_in
no_all_that_was_taken claim =
    let bytes = written_all (Text Master AAE ∷ Burst Slave 0 ∷ []) in
    let z : ◌≡◌ {A = ℕ} 0 3 = ap length (claim bytes (passage_of (outcome_from bytes 0)) refl Slave) in
    omega arith

-- nothing is offered to the slave, and it has an over of its own on the way
from_nothing : {os : List Offer} {ws : List ℕ} → TrafficFrom os ws → length os ≡ 0 → length ws ≡ 0
from_nothing no_traffic e = refl
from_nothing (then_of {os = os} y g) e = absurd (omega (arith, simp length-append at e))

none_taken : (all taken standing : List Offer) → all ≡ taken ++ standing → length all ≡ 0 → length taken ≡ 0
none_taken all taken standing e n = omega (arith, simp length-append at (ap length e))

pub no_offers_alone : ((es : List Entry) (p : Passage) → Reached es p → (r : Role) → TookInOrder false es p r) → ⊥
unfolding outcome_from tells_all offers_to signals_in traffic written_all read_past entry_of after stepping sound answer_keeping answer_of block_owed owed_then owed_exists passes code_signals holds_neither done first_not is_block may_hold traffic_of meaning_of heard_of first_of is_words listened traffic_in
no_offers_alone claim =
    let bytes = written_all who_are_you in
    let p = passage_of (outcome_from bytes 0) in
    let x = claim who_are_you p (records_reach bytes p refl) Slave in
    let z : ◌≡◌ {A = ℕ} 3 0 = from_nothing (traffic_from x.blocks) (none_taken (offers_to Slave who_are_you) x.taken (still (offer_to p.standing Slave)) x.in_order refl) in
    omega arith
