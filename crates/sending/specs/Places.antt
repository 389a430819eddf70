-- What stands at a position, by its number alone: after the first 16, each 100 positions are 96 of traffic and a break of four.
-- Assumes nothing.
use Rattle.std.specs.Prelude.{List, ◌∷◌, ℕ, ◌+◌, ◌*◌, ◌-◌, ◌/◌, ◌%◌, ltb, get_or, if◌then◌else◌}
use Rattle.mode_b.specs.Sender.{Position, phasing, signal, idle, carriage_return, line_feed}
use Rattle.sending.specs.declared.At.{At}

-- the traffic signals: return, line feed, the text
abbrev pub sent_text : List ℕ → List ℕ
sent_text text = carriage_return ∷ line_feed ∷ text

-- the number of positions of n traffic signals
abbrev pub count_of : ℕ → ℕ
count_of n = 33 + n + 4 * ((n - 1) / 96)

abbrev pub in_group : ℕ → ℕ → ℕ → At
in_group n group rest =
    if ltb rest 96 then (if ltb (group * 96 + rest) n then At.Traffic (group * 96 + rest) else At.Idle)
    else if ltb (group * 96 + 96) n then At.Phasing
    else At.Idle

unfoldable pub at_of : ℕ → ℕ → At
at_of n t = if ltb t 16 then At.Phasing else in_group n ((t - 16) / 100) ((t - 16) % 100)

abbrev pub by_at : List ℕ → At → Position
by_at text At.Phasing = phasing
by_at text (At.Traffic i) = signal (get_or (sent_text text) i 0)
by_at text At.Idle = idle
