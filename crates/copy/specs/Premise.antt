-- 01, Mode B: "Premise for a perfect copy (return, line feed and the text printed, nothing else): it listens from slot 0, four
-- successive phasing signals before the text arrive intact, each position has an intact copy, .. and damage is never one of the
-- 35."  02, T-03: "The premise on intact DX copies falls away".  R-125
-- Assumes nothing.
use Rattle.std.specs.Prelude.{◌≡◌, true, ◌⊎◌, List, [], ◌∷◌, ℕ, ◌+◌, ◌*◌, ◌≤◌, ◌<◌, length}
use Rattle.signals.specs.Meaning.{traffic_of}
use Rattle.mode_b.specs.Sender.{carriage_return, line_feed, with_breaks, positions_of, slots_of}
use Rattle.signals.specs.Damage.{kept, NoSignal}
use Rattle.copy.specs.Run.{Damages, copy_from}

-- a text for mode B: every word is traffic
abbrev pub Text : List ℕ → Type 0
Text [] = Unit {0}
Text (w ∷ ws) = (traffic_of w ≡ true) × Text ws

-- "Position t goes out first (DX) in slot 2t and again (RX) in slot 2t+5"
abbrev pub dx_slot : ℕ → ℕ
dx_slot t = 2 * t

abbrev pub rx_slot : ℕ → ℕ
rx_slot t = 2 * t + 5

-- The first 16 positions are phasing, so slots 0 to 31 carry phasing signals and the return is position 16. The last traffic
-- position is the line feed's where the text is empty. Behind it come the α positions.
abbrev pub span_of : List ℕ → ℕ
span_of text = length (with_breaks 0 (carriage_return ∷ line_feed ∷ text))

abbrev pub last_traffic : List ℕ → ℕ
last_traffic text = 15 + span_of text

-- Whether a copy is intact is read off the damage. A copy due after the last slot is not sent.
abbrev pub DxIntact : Damages → ℕ → Type 0
DxIntact d t = d (dx_slot t) ≡ kept

abbrev pub RxIntact : Damages → ℕ → Type 0
RxIntact d t = d (rx_slot t) ≡ kept

abbrev pub RxSent : List ℕ → ℕ → Type 0
RxSent text t = rx_slot t < length (slots_of text)

-- four successive phasing signals before the text, the first of them in slot `start` or a later one
pub record FourIntact (start : ℕ) (d : Damages) : Type 0 where
  pub first : ℕ
  pub heard : start ≤ first
  pub before_text : first + 3 < 32
  pub intact : (j : ℕ) → j < 4 → d (first + j) ≡ kept

-- The clauses of 01's premise, for a receiver that listens from slot `start` on:
--     from_0      "it listens from slot 0"
--     phasing     "four successive phasing signals before the text arrive intact"
--     copies      "each position has an intact copy": one that is sent
--     no_signal_lem   "damage is never one of the 35"
pub data Clause : Type 0 where
  from_0 phasing copies no_signal_lem : Clause

abbrev pub Holds : Clause → ℕ → List ℕ → Damages → Type 0
Holds from_0 start text d = start ≡ 0
Holds phasing start text d = FourIntact 0 d
Holds copies start text d = (t : ℕ) → t < length (positions_of text) → DxIntact d t ⊎ (RxSent text t × RxIntact d t)
Holds no_signal_lem start text d = (k : ℕ) → NoSignal (d k)

-- the premise of 01
abbrev pub Premise : ℕ → List ℕ → Damages → Type 0
Premise start text d = (c : Clause) → Holds c start text d

-- Two successive α are heard in DX right behind position t: it is the last traffic position, or an α position. (Of a t that is followed
-- by two positions.)
pub record EndsAfter (text : List ℕ) (d : Damages) (t : ℕ) : Type 0 where
  pub behind_the_text : last_traffic text ≤ t
  pub first_α : DxIntact d (t + 1)
  pub second_α : DxIntact d (t + 2)

-- A weaker one: the receiver may listen from a later slot, if the four are still to come, and a copy is needed of each position from
-- the return on, breaks included, as long as reception has not ended: up to the one right before the first two successive α that are
-- heard in DX, or, where there are no such two, of every position but the last two, whose RX is not sent.
pub record LatePremise (start : ℕ) (text : List ℕ) (d : Damages) : Type 0 where
  pub phasing : FourIntact start d
  pub copies : (t : ℕ) → 16 ≤ t → t + 2 < length (positions_of text) → ((e : ℕ) → e < t → EndsAfter text d e → ⊥) → DxIntact d t ⊎ RxIntact d t
  pub no_signal_lem : (k : ℕ) → NoSignal (d k)

-- The weaker premise of paper 01 itself, without T-03: copies from the return to the last traffic position, and an intact DX of that one
-- and of the first two α positions. The premise that stands in paper 01 is the present one with these three clauses more.
pub record FormerPremise (start : ℕ) (text : List ℕ) (d : Damages) : Type 0 where
  pub phasing : FourIntact start d
  pub copies : (t : ℕ) → 16 ≤ t → t ≤ last_traffic text → DxIntact d t ⊎ RxIntact d t
  pub last : DxIntact d (last_traffic text)
  pub first_α : DxIntact d (last_traffic text + 1)
  pub second_α : DxIntact d (last_traffic text + 2)
  pub no_signal_lem : (k : ℕ) → NoSignal (d k)

-- "return, line feed and the text printed, nothing else"
abbrev pub PerfectCopy : ℕ → List ℕ → Damages → Type 0
PerfectCopy start text d = copy_from start text d ≡ carriage_return ∷ line_feed ∷ text

-- A clause is needed: there is a broadcast for which every other clause holds, and the copy is not perfect.
pub record Needed (c : Clause) : Type 0 where
  pub start : ℕ
  pub text : List ℕ
  pub damage : Damages
  pub is_text : Text text
  pub others : (o : Clause) → (o ≡ c → ⊥) → Holds o start text damage
  pub fails : PerfectCopy start text damage → ⊥
