-- No second answer: the promises of `slot`, `receive` and `fresh`, as their contracts cite them, leave one. Assumes nothing.
use mathlib.Core.Path.{◌≡◌, refl, ap, ap₂, sym, ◌∙◌}
use mathlib.Core.List.{List}
use Prim.Native.Nat.{ℕ}
use lib.Dec.{eqb}
use Rattle.std.specs.Prelude.{if◌then◌else◌, Result, Ok, Err}
use Rattle.laws.proofs.Unique.{unique}
use Rattle.signals.specs.Numbers.{Answer, answered, refused}
use Rattle.mode_b.specs.declared.SlotError.{SlotError}
use Rattle.mode_b.specs.declared.Receiver.{Receiver}
use Rattle.mode_b.specs.declared.Heard.{Heard}
use Rattle.mode_b.specs.declared.BadReceiver.{BadReceiver}
use Rattle.mode_b.specs.Sender.{said_slot, Slots}
use Rattle.mode_b.specs.Receiver.{fresh_receiver, said_received, handed_back, Receives}

-- the answer, read back from 01's number and value
abbrev slot_from : Answer ℕ → Result ℕ SlotError
slot_from (answered w) = Ok w
slot_from (refused n v) = Err (if eqb n 7 then SlotError.TooLong else if eqb n 3 then SlotError.BadWord v else SlotError.PastLast v)

slot_back : (r : Result ℕ SlotError) → slot_from (said_slot r) ≡ r
slot_back (Ok w) = refl
slot_back (Err SlotError.TooLong) = refl
slot_back (Err (SlotError.BadWord i)) = refl
slot_back (Err (SlotError.PastLast n)) = refl

pub slot_unique : (text : List ℕ) (number : ℕ) (r r' : Result ℕ SlotError) → Slots text number r → Slots text number r' → r ≡ r'
slot_unique text number r r' p q = sym (slot_back r) ∙ ap slot_from (unique p q) ∙ slot_back r'

-- and with the receiver handed back
abbrev received_from : Answer Heard → Receiver → Result Heard BadReceiver
received_from (answered h) r = Ok h
received_from (refused n v) r = Err (record { 0 = r })

received_back : (a : Result Heard BadReceiver) → received_from (said_received a) (handed_back a) ≡ a
received_back (Ok h) = refl
received_back (Err e) = refl

pub receive_unique : (r : Receiver) (w : ℕ) (a a' : Result Heard BadReceiver) → Receives r w a → Receives r w a' → a ≡ a'
receive_unique r w a a' p q =
    sym (received_back a)
    ∙ ap₂ received_from (unique p.0 q.0) (unique p.1 q.1)
    ∙ received_back a'

pub fresh_receiver_unique : (r r' : Receiver) → r ≡ fresh_receiver → r' ≡ fresh_receiver → r ≡ r'
fresh_receiver_unique r r' p q = unique p q
