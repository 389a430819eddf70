-- What happens to a word on its way. "provided damage, on silence too, never looks like one of the 35" (demand 3); "damage is never
-- one of the 35" (01, Mode B).
-- Assumes nothing.
use Rattle.std.specs.Prelude.{◌≡◌, ℕ}
use Rattle.signals.specs.Meaning.{meaning_of}

-- it is kept, or another byte is heard in its place
pub data Damage : Type 0 where
  kept : Damage
  hurt : (word : ℕ) → Damage

abbrev pub arrives : Damage → ℕ → ℕ
arrives kept w = w
arrives (hurt v) w = v

-- what is heard in place of a word has no meaning
abbrev pub NoSignal : Damage → Type 0
NoSignal kept = Unit {0}
NoSignal (hurt v) = meaning_of v ≡ 0
