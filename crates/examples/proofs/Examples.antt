-- 01's examples marked P hold: one statement, which antt computes. Assumes nothing.
use lib.Dec.{T}
use Rattle.signals.specs.Units.{intact_of, ones_of}
use Rattle.signals.specs.Meaning.{meaning_of, traffic_of}
use Rattle.signals.specs.Numbers.{first_not}
use Rattle.text.specs.Encoding.{raised, character_of, encoded, ends_encoded, encoding}
use Rattle.identity.specs.Table3.{is_identity, number_of, signal_of}
use Rattle.identity.specs.Sums.{is_callable7, check_sum}
use Rattle.mode_a.specs.Calls.{is_callable}
use Rattle.mode_a.specs.Identification.{told_in}
use Rattle.mode_a.specs.Heard.{further_of, first_of, may_hold, is_block, is_words, call_of, call3_of, heard_of}
use Rattle.mode_a.specs.Answerback.{code_signals, holds_neither, passes, owed_exists}
use Rattle.mode_a.specs.Over.{listened}
use Rattle.mode_a.specs.Step.{traffic_in, done, sound, stepping}
use Rattle.mode_b.specs.Sender.{with_breaks, positions_of, slots_from, slots_of, slotting}
use Rattle.examples.specs.Code.{code_examples}
use Rattle.examples.specs.Text.{text_examples}
use Rattle.examples.specs.ModeA.{mode_a_examples}
use Rattle.examples.specs.ModeB.{mode_b_examples}
use Rattle.examples.specs.Sums.{sum_examples}
use Rattle.examples.specs.Examples.{examples, holds}

pub examples_hold : T (holds examples)
unfolding holds examples code_examples text_examples mode_a_examples mode_b_examples sum_examples is_identity number_of signal_of is_callable7 check_sum is_callable told_in call_of call3_of further_of traffic_of first_of may_hold is_block is_words heard_of listened traffic_in done owed_exists code_signals holds_neither passes sound stepping with_breaks positions_of slots_from slots_of slotting intact_of ones_of meaning_of first_not character_of raised encoded ends_encoded encoding
examples_hold = tt
