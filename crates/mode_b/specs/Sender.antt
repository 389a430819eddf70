-- 01, Mode B: the sender.  R-101 to R-110
-- Assumes nothing.
use Rattle.std.specs.Prelude.{◌≡◌, List, [], ◌∷◌, ◌++◌, ℕ, ◌+◌, ◌*◌, ◌<◌, eqb, ltb, length, get_or, replicate, if◌then◌else◌, Result, Ok, Err}
use Rattle.signals.specs.Meaning.{word_no, traffic_of, alpha, rq}
use Rattle.signals.specs.Numbers.{Answer, answered, refused, first_not}
use Rattle.mode_b.specs.declared.SlotError.{SlotError}

-- "Positions are numbered from 0."  R-101: by their place in a list. A position, by what is sent there: a phasing pair, a traffic
-- signal, or α
pub data Position : Type 0 where
  phasing : Position
  signal : (word : ℕ) → Position
  idle : Position

-- "A phasing position is RQ in DX, α in RX."  R-103. Any other position has the same word in both.
abbrev pub dx_of : Position → ℕ
dx_of phasing = rq
dx_of (signal w) = w
dx_of idle = alpha

abbrev pub rx_of : Position → ℕ
rx_of phasing = alpha
rx_of (signal w) = w
rx_of idle = alpha

abbrev pub carriage_return : ℕ
carriage_return = word_no 27

abbrev pub line_feed : ℕ
line_feed = word_no 28

-- "after each 96 traffic positions (return and line feed counted), if more text remains, four phasing positions"  R-107: the
-- traffic positions, of which k have gone out since the last break
unfoldable pub with_breaks : ℕ → List ℕ → List Position
with_breaks k [] = []
with_breaks k (w ∷ ws) =
    if eqb k 96 then replicate 4 phasing ++ signal w ∷ with_breaks 1 ws else signal w ∷ with_breaks (k + 1) ws

-- "Order sent: 16 phasing positions, return, line feed, the text; .. then 17 α positions."  R-105, R-106, R-108
unfoldable pub positions_of : List ℕ → List Position
positions_of text =
    replicate 16 phasing ++ with_breaks 0 (carriage_return ∷ line_feed ∷ text) ++ replicate 17 idle

-- "Position t goes out first (DX) in slot 2t and again (RX) in slot 2t+5, after four other signals. .. Before position 0, RX
-- slots carry α. .. The last slot is number 2t+1, where t is the last position; RX copies due later are not sent."  R-102, R-104,
-- R-109, R-110: slot 2t+1 is 2(t-2)+5, so behind each position's DX comes the RX of the position two before it. `before` is
-- that position and `last` the one between; α stands for the RX of what is before position 0.
unfoldable pub slots_from : Position → Position → List Position → List ℕ
slots_from before last [] = []
slots_from before last (p ∷ ps) = dx_of p ∷ rx_of before ∷ slots_from last p ps

unfoldable pub slots_of : List ℕ → List ℕ
slots_of text = slots_from idle idle (positions_of text)

-- The same sentences one by one, of any list of positions and any list of slots. That they hold of every text is `sent_twice`, and
-- that they leave one list of slots `sent_twice_unique` (proofs/SlotLaws.antt).
--     dx            "Position t goes out first (DX) in slot 2t"                              R-102
--     rx            "and again (RX) in slot 2t+5, after four other signals",                 R-102, R-110
--                   where there is such a slot: "RX copies due later are not sent",
--                   those of the last two positions
--     before_0      "Before position 0, RX slots carry α": slots 1 and 3                     R-104
--     last          "The last slot is number 2t+1, where t is the last position"             R-109
pub record SentTwice (positions : List Position) (slots : List ℕ) : Type 0 where
  pub two_slots_each : length slots ≡ 2 * length positions
  pub dx : (t : ℕ) → t < length positions → get_or slots (2 * t) 0 ≡ dx_of (get_or positions t idle)
  pub rx : (t : ℕ) → 2 * t + 5 < length slots → get_or slots (2 * t + 5) 0 ≡ rx_of (get_or positions t idle)
  pub before_0 : (get_or slots 1 0 ≡ alpha) × (get_or slots 3 0 ≡ alpha)
  pub last : (t : ℕ) → length positions ≡ t + 1 → length slots ≡ (2 * t + 1) + 1

-- 01, Numbers returned, for the sender's call. "mode B slot 7, 3, 6"  R-134, R-135
--     7   "over 8,192 signals for mode B or printing"                        "8,192"                 R-133
--     3   "a word that may not stand there: .. text for mode B (traffic)"    "index of the first"    R-128
--     6   "mode B: slot past the last"                                       "number of slots"       R-132
unfoldable pub slotting : List ℕ → ℕ → Answer ℕ
slotting text number =
    if ltb 8192 (length text) then refused 7 8192
    else if ltb (first_not traffic_of text) (length text) then refused 3 (first_not traffic_of text)
    else if ltb number (length (slots_of text)) then answered (get_or (slots_of text) number 0)
    else refused 6 (length (slots_of text))

-- each case of the answer, by 01's number and the value beside it  R-167
abbrev pub said_slot : Result ℕ SlotError → Answer ℕ
said_slot (Ok w) = answered w
said_slot (Err SlotError.TooLong) = refused 7 8192
said_slot (Err (SlotError.BadWord i)) = refused 3 i
said_slot (Err (SlotError.PastLast n)) = refused 6 n

-- The promise of `slot`.  R-168
abbrev pub Slots : List ℕ → ℕ → Result ℕ SlotError → Type 0
Slots text number r = said_slot r ≡ slotting text number
