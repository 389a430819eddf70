-- 02, T-07: what is wrong with an entry, by its parts; what it says; and what a burst leaves of the offers.
-- Assumes nothing.
use Rattle.std.specs.Prelude.{◌≡◌, Bool, ℕ, if◌then◌else◌, Result, Ok, Err}
use Rattle.signals.specs.Numbers.{answered}
use Rattle.mode_a.specs.declared.Role.{Role}
use Rattle.mode_a.specs.declared.Offer.{Offer}
use Rattle.mode_a.specs.declared.Reply.{Reply}
use Rattle.entries.specs.declared.Entry.{Entry}
use Rattle.entries.specs.declared.Entry.TheVariants.{Burst, Text, Over, End}
use Rattle.entries.specs.declared.Standing.{Standing}
use Rattle.entries.specs.Passage.{answered_to, fault_of}
use Rattle.telling.specs.declared.Fault.{Fault}
use Rattle.telling.specs.declared.Told.{Told}

-- the number, 0 where nothing is wrong
abbrev pub number_of : Result (Unit {0}) Fault → ℕ
number_of (Ok u) = 0
number_of (Err Fault.BadBurst) = 12
number_of (Err Fault.StillOffered) = 13
number_of (Err Fault.BadWord) = 3

-- of a burst, by whose turn it is; of an offer, by whether one stands already, and whether a word of it may not stand there
abbrev pub BurstFault : Role → Role → ℕ → Result (Unit {0}) Fault → Type 0
BurstFault turn r d f = (s : Standing) → s.turn ≡ turn → number_of f ≡ fault_of s (Burst r d)

abbrev pub offer_fault : Bool → Bool → ℕ
offer_fault still bad = if still then 13 else if bad then 3 else 0

abbrev pub told_by : Entry → Told
told_by (Burst r d) = Told.Burst d
told_by (Text r w) = Told.Offer r (Offer.Text w)
told_by (Over r) = Told.Offer r Offer.Over
told_by (End r) = Told.Offer r Offer.End

-- the standing after a burst whose answer took the offer or not, whatever else that was
abbrev pub Leaves : Standing → Bool → Standing → Type 0
Leaves s taken s' = (x : Reply) → x.taken ≡ taken → s' ≡ answered_to s (answered x)
