-- Wrong operands in inner functions: of each, a station and a burst at which the promise does not say what it would do.
--     no_count_made_up     the count goes up by two with a repetition
--     no_last_repeat_sent  the 32nd repetition makes the station Lost, and its repeat is sent
-- Assumes nothing.
use mathlib.Core.Path.{◌≡◌, ap, sym, ◌∙◌}
use mathlib.Core.Bool.{true≢false}
use Prim.Native.Nat.{ℕ}
use native.Mathlib.Omega.{arith}
use Rattle.std.specs.Prelude.{Ok}
use Rattle.signals.specs.Meaning.{meaning_of, traffic_of}
use Rattle.signals.specs.Numbers.{Answer, answered, refused, first_not}
use Rattle.mode_a.specs.declared.Number.TheVariants.{One}
use Rattle.mode_a.specs.declared.Words.{Words}
use Rattle.mode_a.specs.declared.Offer.{Offer}
use Rattle.mode_a.specs.declared.Station.{Station}
use Rattle.mode_a.specs.declared.Reply.{Reply}
use Rattle.mode_a.specs.Station.{silence, asks_for, fresh_slave}
use Rattle.mode_a.specs.Heard.{first_of, may_hold, is_block, is_words, heard_of}
use Rattle.mode_a.specs.Answerback.{code_signals, holds_neither, passes, owed_exists}
use Rattle.mode_a.specs.Step.{stands_at, done, sound, stepping, station_after, Steps}

-- a fresh slave after so many repetitions
abbrev repeated : ℕ → Station
repeated k = stands_at fresh_slave fresh_slave.place k fresh_slave.case fresh_slave.plus

pub no_count_made_up : (r : Reply) → r.station.count ≡ 2 → Steps (repeated 0) silence Offer.Nothing (Ok r) → ⊥
unfolding stepping sound owed_exists passes code_signals holds_neither done first_not is_block may_hold traffic_of meaning_of heard_of first_of is_words
no_count_made_up r e p =
    let z : ◌≡◌ {A = ℕ} 2 1 = sym e ∙ ap (λ (a : Answer Reply). (station_after fresh_slave a).count) p.0 in omega arith

abbrev sent_in : Answer Reply → Words
sent_in (answered r) = r.sent
sent_in (refused n v) = silence

-- CS1 once more
pub no_last_repeat_sent : (r : Reply) → r.sent ≡ asks_for One → Steps (repeated 31) silence Offer.Nothing (Ok r) → ⊥
unfolding stepping sound owed_exists passes code_signals holds_neither done first_not is_block may_hold traffic_of meaning_of heard_of first_of is_words
no_last_repeat_sent r e p =
    true≢false (sym (ap (λ (w : Words). is_words w (asks_for One)) e) ∙ ap (λ (a : Answer Reply). is_words (sent_in a) (asks_for One)) p.0)
