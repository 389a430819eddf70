-- Wrong programs that have another shape than the right one, so that no edit of one operand makes them. Of each, a record at which what
-- the promise says is not what it would do: computed, not argued.
--     no_refusing_passage         a run that refuses every record
--     no_silent_passage           one that answers and prints nothing
--     no_byte_before_a_fault      one that has printed before it refuses
--     no_byte_before_refusal_2    one that has printed into the room that suffices before it refuses the other
--     no_room_cleared             one that clears the rest of the room
--     no_2_before_10              the rooms looked at before the record
--     no_slaves_room_first        the slave's room looked at before the master's
--     no_place_in_entries         a place counted in entries
--     no_place_of_the_body        the place of the byte that is wrong, and not of its entry
-- Assumes nothing.
use mathlib.Core.Path.{◌≡◌}
use mathlib.Core.List.{List, [], ◌∷◌}
use Prim.Native.Nat.{ℕ}
use native.Mathlib.Omega.{arith}
use Rattle.std.specs.Prelude.{Err}
use Rattle.signals.specs.Meaning.{meaning_of, traffic_of}
use Rattle.signals.specs.Numbers.{refused, first_not}
use Rattle.text.specs.Printing.{printed, bytes_of}
use Rattle.mode_a.specs.Heard.{first_of, may_hold, is_block, is_words, heard_of}
use Rattle.mode_a.specs.Over.{listened}
use Rattle.mode_a.specs.Answerback.{code_signals, holds_neither, passes, owed_exists}
use Rattle.mode_a.specs.Step.{traffic_in, done, sound, stepping}
use Rattle.runs.specs.Circuit.{after}
use Rattle.entries.specs.declared.PassError.{PassError}
use Rattle.entries.specs.Entries.{entry_of, read_past}
use Rattle.entries.specs.Passage.{tells_all}
use Rattle.entries.specs.Passing.{outcome_from, passing_from, Passed, said_passed, Passes}

-- the empty record, by whatever number
pub no_refusing_passage : (r : Passed) (n v : ℕ) → said_passed r ≡ refused n v → Passes [] [] [] r [] [] → ⊥
unfolding passing_from outcome_from read_past tells_all after printed
no_refusing_passage r n v e p = let z : ◌≡◌ {A = ℕ} 0 1 = cc (e, p.0) in omega arith

-- A A E offered to the master, the slave's CS1 heard, and the block; whatever is answered
pub no_silent_passage : (r : Passed) → Passes (3 ∷ 71 ∷ 71 ∷ 86 ∷ 2 ∷ 0 ∷ 1 ∷ 0 ∷ []) [] (0 ∷ 0 ∷ 0 ∷ []) r [] (0 ∷ 0 ∷ 0 ∷ []) → ⊥
unfolding passing_from outcome_from read_past entry_of tells_all after stepping sound owed_exists passes code_signals holds_neither done first_not is_block may_hold traffic_of meaning_of heard_of first_of is_words listened traffic_in printed bytes_of
no_silent_passage r p = let z : ◌≡◌ {A = ℕ} 0 65 = cc p.2 in omega arith

-- the same, and behind it a byte that is no kind
pub no_byte_before_a_fault : (r : Passed) → Passes (3 ∷ 71 ∷ 71 ∷ 86 ∷ 2 ∷ 0 ∷ 1 ∷ 0 ∷ 9 ∷ []) [] (0 ∷ 0 ∷ 0 ∷ []) r [] (65 ∷ 65 ∷ 69 ∷ []) → ⊥
unfolding passing_from outcome_from read_past entry_of tells_all after stepping sound owed_exists passes code_signals holds_neither done first_not is_block may_hold traffic_of meaning_of heard_of first_of is_words listened traffic_in printed bytes_of
no_byte_before_a_fault r p = let z : ◌≡◌ {A = ℕ} 65 0 = cc p.2 in omega arith

pub no_2_before_10 : Passes (3 ∷ 71 ∷ 71 ∷ 86 ∷ 2 ∷ 0 ∷ 1 ∷ 0 ∷ 9 ∷ []) [] [] (Err (PassError.NoRoom 3)) [] [] → ⊥
unfolding passing_from outcome_from read_past entry_of tells_all after stepping sound owed_exists passes code_signals holds_neither done first_not is_block may_hold traffic_of meaning_of heard_of first_of is_words listened traffic_in printed bytes_of
no_2_before_10 p = let z : ◌≡◌ {A = ℕ} 2 10 = cc p.0 in omega arith

-- the fourth byte of the slave's room
pub no_room_cleared : (r : Passed) → Passes (3 ∷ 71 ∷ 71 ∷ 86 ∷ 2 ∷ 0 ∷ 1 ∷ 0 ∷ []) [] (0 ∷ 0 ∷ 0 ∷ 170 ∷ []) r [] (65 ∷ 65 ∷ 69 ∷ 0 ∷ []) → ⊥
unfolding passing_from outcome_from read_past entry_of tells_all after stepping sound owed_exists passes code_signals holds_neither done first_not is_block may_hold traffic_of meaning_of heard_of first_of is_words listened traffic_in printed bytes_of
no_room_cleared r p = let z : ◌≡◌ {A = ℕ} 0 170 = cc p.2 in omega arith

-- the slave prints A A E and has an over, and the master prints A A of the block that it is sent then
pub no_byte_before_refusal_2 : (r : Passed) → Passes (3 ∷ 71 ∷ 71 ∷ 86 ∷ 2 ∷ 0 ∷ 6 ∷ 1 ∷ 0 ∷ 4 ∷ 71 ∷ 71 ∷ 51 ∷ 2 ∷ 0 ∷ 1 ∷ 0 ∷ 2 ∷ 0 ∷ 1 ∷ 0 ∷ 2 ∷ 0 ∷ []) (0 ∷ 0 ∷ []) (0 ∷ 0 ∷ []) r (65 ∷ 65 ∷ []) (0 ∷ 0 ∷ []) → ⊥
unfolding passing_from outcome_from read_past entry_of tells_all after stepping sound owed_exists passes code_signals holds_neither done first_not is_block may_hold traffic_of meaning_of heard_of first_of is_words listened traffic_in printed bytes_of
no_byte_before_refusal_2 r p = let z : ◌≡◌ {A = ℕ} 65 0 = cc p.1 in omega arith

pub no_slaves_room_first : Passes (3 ∷ 71 ∷ 71 ∷ 86 ∷ 2 ∷ 0 ∷ 6 ∷ 1 ∷ 0 ∷ 4 ∷ 71 ∷ 71 ∷ 51 ∷ 2 ∷ 0 ∷ 1 ∷ 0 ∷ 2 ∷ 0 ∷ 1 ∷ 0 ∷ 2 ∷ 0 ∷ []) [] [] (Err (PassError.NoRoom 3)) [] [] → ⊥
unfolding passing_from outcome_from read_past entry_of tells_all after stepping sound owed_exists passes code_signals holds_neither done first_not is_block may_hold traffic_of meaning_of heard_of first_of is_words listened traffic_in printed bytes_of
no_slaves_room_first p = let z : ◌≡◌ {A = ℕ} 3 2 = cc p.0 in omega arith

-- a burst, and a byte that is no kind: it is the second entry, and stands at 2
pub no_place_in_entries : (m s : List ℕ) → Passes (2 ∷ 0 ∷ 9 ∷ []) m s (Err (PassError.UnknownKind 1)) m s → ⊥
unfolding passing_from outcome_from read_past entry_of tells_all after stepping sound owed_exists passes code_signals holds_neither done first_not is_block may_hold traffic_of meaning_of heard_of first_of is_words listened traffic_in printed bytes_of
no_place_in_entries m s p = let z : ◌≡◌ {A = ℕ} 1 2 = cc p.0 in omega arith

-- bit 3 is set in the byte at 1, of the entry at 0
pub no_place_of_the_body : (m s : List ℕ) → Passes (2 ∷ 8 ∷ []) m s (Err (PassError.BadBurst 1)) m s → ⊥
unfolding passing_from outcome_from read_past entry_of tells_all after
no_place_of_the_body m s p = let z : ◌≡◌ {A = ℕ} 1 0 = cc p.0 in omega arith
