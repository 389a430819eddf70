-- What a reader sees, in single runs. The text of the first two is 94 times E, a return, a line feed and A: the return and line feed
-- of the broadcast and the 94 are 96 traffic positions, 16 to 111, so a break stands in positions 112 to 115. Assumes nothing.
use mathlib.Core.Path.{◌≡◌, refl}
use mathlib.Core.Bool.{◌&&◌, ◌||◌}
use mathlib.Core.List.{List, [], ◌∷◌, ◌++◌}
use Prim.Native.Nat.{ℕ, ◌+◌, ◌%◌}
use lib.Dec.{eqb, leb, ltb}
use lib.ListN.{replicate, take}
use Rattle.std.specs.Prelude.{if◌then◌else◌}
use Rattle.signals.specs.Units.{intact_of, ones_of}
use Rattle.signals.specs.Meaning.{meaning_of, traffic_of, word_no, error_mark}
use Rattle.mode_b.specs.Sender.{carriage_return, line_feed, with_breaks, positions_of, slots_from, slots_of}
use Rattle.mode_b.specs.Receiver.{fresh_receiver, settled, heard_dx, heard_rx, waited}
use Rattle.signals.specs.Damage.{kept, hurt}
use Rattle.copy.specs.Run.{Damages, heard_from, listen, copy_from}

abbrev Es : List ℕ
Es = replicate 94 (word_no 5)

abbrev A : List ℕ
A = carriage_return ∷ line_feed ∷ word_no 1 ∷ []

-- the slots from one on, n of them, are lost
abbrev lost_from : ℕ → ℕ → Damages
lost_from k n j = if leb k j && ltb j (k + n) then hurt 0 else kept

-- lost phasing: it comes into phase in the break, and prints from the next return on
lost_phasing : copy_from 0 (Es ++ A) (lost_from 0 32) ≡ A
unfolding slots_of positions_of slots_from with_breaks heard_from listen heard_dx heard_rx waited settled intact_of ones_of traffic_of meaning_of
lost_phasing = refl

-- a break: its first position has both copies lost, and is an error mark between the lines
lost_break : copy_from 0 (Es ++ A) (λ k. if eqb k 224 || eqb k 229 then hurt 0 else kept) ≡ carriage_return ∷ line_feed ∷ (Es ++ (error_mark ∷ A))
unfolding slots_of positions_of slots_from with_breaks heard_from listen heard_dx heard_rx waited settled intact_of ones_of traffic_of meaning_of
lost_break = refl

-- The ends are those of the text E, whose DX is in slot 36 and whose RX in slot 41; the α positions have their DX in slots 38, 40 and
-- so on to 70, the last but one slot, and their RX five slots later.
abbrev E : List ℕ
E = word_no 5 ∷ []

abbrev lost_at : List ℕ → Damages
lost_at [] j = kept
lost_at (k ∷ ks) j = if eqb j k then hurt 0 else lost_at ks j

-- the last letter: its DX is lost, and its RX, the word behind the second α, is printed
last_letter : copy_from 0 E (lost_at (36 ∷ [])) ≡ carriage_return ∷ line_feed ∷ E
unfolding slots_of positions_of slots_from with_breaks heard_from listen heard_dx heard_rx waited settled intact_of ones_of traffic_of meaning_of
last_letter = refl

-- with both its copies lost it is an error mark
last_lost : copy_from 0 E (lost_at (36 ∷ 41 ∷ [])) ≡ carriage_return ∷ line_feed ∷ error_mark ∷ []
unfolding slots_of positions_of slots_from with_breaks heard_from listen heard_dx heard_rx waited settled intact_of ones_of traffic_of meaning_of
last_lost = refl

-- a damaged end: the DX of E and of the first two α are lost, and the RX of return and line feed between them. Each position has its
-- other copy, and the end comes two positions later: a perfect copy.
damaged_end : copy_from 0 E (lost_from 36 5) ≡ carriage_return ∷ line_feed ∷ E
unfolding slots_of positions_of slots_from with_breaks heard_from listen heard_dx heard_rx waited settled intact_of ones_of traffic_of meaning_of
damaged_end = refl

-- an α position before the end with both copies lost is an error mark; behind the end such a loss shows nowhere
lost_α : copy_from 0 E (lost_at (38 ∷ 43 ∷ [])) ≡ carriage_return ∷ line_feed ∷ word_no 5 ∷ error_mark ∷ []
unfolding slots_of positions_of slots_from with_breaks heard_from listen heard_dx heard_rx waited settled intact_of ones_of traffic_of meaning_of
lost_α = refl

lost_behind : copy_from 0 E (lost_at (42 ∷ 47 ∷ [])) ≡ carriage_return ∷ line_feed ∷ E
unfolding slots_of positions_of slots_from with_breaks heard_from listen heard_dx heard_rx waited settled intact_of ones_of traffic_of meaning_of
lost_behind = refl

-- nothing is heard from the DX of E on: E is an error mark, and so is each α position of which an RX is due
lost_end : copy_from 0 E (lost_from 36 36) ≡ carriage_return ∷ line_feed ∷ replicate 16 error_mark
unfolding slots_of positions_of slots_from with_breaks heard_from listen heard_dx heard_rx waited settled intact_of ones_of traffic_of meaning_of
lost_end = refl

-- Only the last two α are heard in DX, in slots 68 and 70: the sender stops one word later, within the wait. The copy is perfect; and
-- the next two words, whatever they are, still belong to the wait.
abbrev only_last_two : Damages
only_last_two k = if leb 38 k && ltb k 68 && eqb (k % 2) 0 then hurt 0 else kept

stops_within_the_wait : (v w : ℕ) (ws : List ℕ) → listen fresh_receiver (heard_from only_last_two 0 (slots_of E) ++ v ∷ w ∷ ws) ≡ carriage_return ∷ line_feed ∷ word_no 5 ∷ listen fresh_receiver ws
unfolding slots_of positions_of slots_from with_breaks heard_from listen heard_dx heard_rx waited settled intact_of ones_of traffic_of meaning_of
stops_within_the_wait v w ws = refl

-- in the ordinary end three words belong to the wait, and no fourth
three_words : (v w : ℕ) (ws : List ℕ) → listen fresh_receiver (heard_from (lost_at []) 0 (take 41 (slots_of E)) ++ word_no 5 ∷ v ∷ w ∷ ws) ≡ carriage_return ∷ line_feed ∷ word_no 5 ∷ listen fresh_receiver ws
unfolding slots_of positions_of slots_from with_breaks heard_from listen heard_dx heard_rx waited settled intact_of ones_of traffic_of meaning_of
three_words v w ws = refl
