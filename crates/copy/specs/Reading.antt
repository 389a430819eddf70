-- 01, Mode B: what a reader may see, read off the positions sent and the damage that is never one of the 35.  R-115 to R-124
--
-- In words:
--     lost phasing   Nothing is printed until four phasing signals in a row are heard, at the start or in a break (which the receiver
--                    does by R-112, and which is not stated here), and behind them a return or a line feed. What comes before is
--                    missing without a mark.
--     break          A phasing position prints nothing; but one with both copies damaged is an error mark, as any position is.
--     damaged end    The first two successive α positions with an intact DX end reception. The position right before them is the
--                    last that is settled, by both its copies as any other: its RX is the next word. So up to that one each position,
--                    α positions too, is an error mark where both copies are damaged, and behind it nothing is printed. Without
--                    such two, positions are settled to the last slot, and each of them that is lost is an error mark.
-- Assumes nothing.
use Rattle.std.specs.Prelude.{◌≡◌, Bool, true, false, ◌&&◌, List, [], ◌∷◌, ◌++◌, ℕ, suc, if◌then◌else◌}
use Rattle.signals.specs.Meaning.{error_mark}
use Rattle.mode_b.specs.Sender.{Position, phasing, signal, idle}
use Rattle.mode_b.specs.Receiver.{begins}
use Rattle.signals.specs.Damage.{Damage, kept, hurt}
use Rattle.copy.specs.Run.{Damages}

-- A position is known by its DX slot, 2t: its RX slot is five on, and the DX slot of the next position two on.
abbrev pub two_on : ℕ → ℕ
two_on k = suc (suc k)

abbrev pub five_on : ℕ → ℕ
five_on k = suc (suc (suc (suc (suc k))))

abbrev pub damaged : Damage → Bool
damaged kept = false
damaged (hurt v) = true

-- "Two successive intact α in DX": the two positions behind the one in slot k are α, and their DX is intact
abbrev pub intactα : Position → Damage → Bool
intactα phasing h = false
intactα (signal w) h = false
intactα idle kept = true
intactα idle (hurt v) = false

abbrev pub ends_behind : Damages → ℕ → Position → Position → Bool
ends_behind d k q r = intactα q (d (two_on k)) && intactα r (d (two_on (two_on k)))

-- A position is lost where both copies are damaged.
abbrev pub lost : Damages → ℕ → Bool
lost d k = damaged (d k) && damaged (d (five_on k))

-- once printing has begun: a lost position is an error mark, another prints its traffic signal, if it has one
abbrev pub traffic_in : Position → List ℕ
traffic_in phasing = []
traffic_in (signal w) = w ∷ []
traffic_in idle = []

abbrev pub seen : Position → Bool → List ℕ
seen p true = error_mark ∷ []
seen p false = traffic_in p

-- The positions from slot k on, once printing has begun. The RX of the last two is not sent, and they are not settled. Behind the end
-- nothing more is printed.
unfoldable pub seen_from : Damages → ℕ → List Position → List ℕ
seen_from d k [] = []
seen_from d k (p ∷ []) = []
seen_from d k (p ∷ q ∷ []) = []
seen_from d k (p ∷ q ∷ r ∷ ps) =
    seen p (lost d k) ++ (if ends_behind d k q r then [] else seen_from d (two_on k) (q ∷ r ∷ ps))

-- What is printed of the positions from slot k on: nothing, or what is seen from a return or line feed on that is not lost.
-- From which one is not said here, nor whether it prints at all: that depends on where the receiver comes into phase (R-112), and
-- `late_copy` says when it does.
pub data Printed (d : Damages) : ℕ → List Position → List ℕ → Type 0 where
  nothing : {k : ℕ} {ps : List Position} → Printed d k ps []
  here : {k w : ℕ} {q r : Position} {ps : List Position} → begins w ≡ true → lost d k ≡ false → Printed d k (signal w ∷ q ∷ r ∷ ps) (seen_from d k (signal w ∷ q ∷ r ∷ ps))
  behind : {k : ℕ} {p : Position} {ps : List Position} {xs : List ℕ} → Printed d (two_on k) ps xs → Printed d k (p ∷ ps) xs

-- each signal printed is of a position, the one sent there or an error mark; the positions come in order, and none twice
pub data InOrder : List Position → List ℕ → Type 0 where
  done : {ps : List Position} → InOrder ps []
  passed : {p : Position} {ps : List Position} {xs : List ℕ} → InOrder ps xs → InOrder (p ∷ ps) xs
  sent : {w : ℕ} {ps : List Position} {xs : List ℕ} → InOrder ps xs → InOrder (signal w ∷ ps) (w ∷ xs)
  marked : {p : Position} {ps : List Position} {xs : List ℕ} → InOrder ps xs → InOrder (p ∷ ps) (error_mark ∷ xs)
