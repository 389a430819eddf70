-- 01, Mode B: what is heard of a broadcast, and what is printed of it.  R-125
-- Assumes nothing.
use Rattle.std.specs.Prelude.{◌≡◌, Bool, true, false, List, [], ◌∷◌, ◌++◌, ℕ, suc, ltb, drop, if◌then◌else◌, Option, Some, None}
use Rattle.signals.specs.Damage.{Damage, hurt, arrives}
use Rattle.signals.specs.Numbers.{Answer, answered, refused}
use Rattle.mode_b.specs.declared.Receiver.{Receiver}
use Rattle.mode_b.specs.declared.Heard.{Heard}
use Rattle.mode_b.specs.Sender.{slots_of}
use Rattle.mode_b.specs.Receiver.{fresh_receiver, receiving, receiver_after}

-- the damage to a broadcast, by slots
abbrev pub Damages : Type 0
Damages = ℕ → Damage

-- the words heard, of those sent in slot k and after
unfoldable pub heard_from : Damages → ℕ → List ℕ → List ℕ
heard_from d k [] = []
heard_from d k (w ∷ ws) = arrives (d k) w ∷ heard_from d (suc k) ws

-- the signals that a receiver prints of a list of words. A step prints one signal or none; a refused one prints nothing and leaves
-- the receiver as it was.
abbrev pub one : Option ℕ → List ℕ
one None = []
one (Some n) = n ∷ []

abbrev pub prints_of : Answer Heard → List ℕ
prints_of (answered h) = one h.printed
prints_of (refused n v) = []

unfoldable pub listen : Receiver → List ℕ → List ℕ
listen r [] = []
listen r (w ∷ ws) = prints_of (receiving r w) ++ listen (receiver_after r (receiving r w)) ws

-- no step of these is refused
abbrev pub is_answered : Answer Heard → Bool
is_answered (answered h) = true
is_answered (refused n v) = false

abbrev pub Unrefused : Receiver → List ℕ → Type 0
Unrefused r [] = Unit {0}
Unrefused r (w ∷ ws) = (is_answered (receiving r w) ≡ true) × Unrefused (receiver_after r (receiving r w)) ws

-- what a fresh receiver prints that listens from a slot on
abbrev pub copy_from : ℕ → List ℕ → Damages → List ℕ
copy_from start text d = listen fresh_receiver (heard_from d start (drop start (slots_of text)))

-- A receiver that listens from a later slot hears what one hears to which every slot before is lost.
abbrev pub deaf_before : ℕ → Damages → Damages
deaf_before start d k = if ltb k start then hurt 0 else d k
