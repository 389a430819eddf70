-- Printed signals, block by block: what is put behind what a station has printed so far. Assumes nothing.
use Rattle.std.specs.Prelude.{◌≡◌, Bool, true, List, [], ◌∷◌, ℕ, ◌+◌, length, if◌then◌else◌}
use Rattle.std.proofs.lemmas.List.Edits.{sets}
use Rattle.text.specs.Printing.{may_print, printed, ends_printed}
use Rattle.mode_a.specs.declared.Words.{Words}
use Rattle.mode_a.specs.Station.{list_of}
use Rattle.runs.specs.Circuit.{without_zeros}
use Rattle.typing.specs.declared.Typed.{Typed}

-- "up to three printed signals": 0 is none
abbrev pub signal_in : ℕ → List ℕ
signal_in w = without_zeros (w ∷ [])

abbrev pub signals_in : Words → List ℕ
signals_in w = without_zeros (list_of w)

abbrev pub MayType : ℕ → Type 0
MayType w = (w ≡ 0 → ⊥) → may_print w ≡ true

abbrev pub MayTypeAll : Words → Type 0
MayTypeAll w = MayType w.0 × MayType w.1 × MayType w.2

-- the signals are put: so many bytes more, and the case that they end in; where they are to be written the bytes stand in the room behind those
-- before them, as far as it reaches, and else the room is as it was
abbrev pub typed_on : Typed → List ℕ → Typed
typed_on t ss = record { to = t.to + length (printed t.case ss); case = ends_printed t.case ss }

abbrev pub Types : List ℕ → Typed → Bool → List ℕ → Typed → List ℕ → Type 0
Types ss t write room r after = (r ≡ typed_on t ss) × (after ≡ (if write then sets room t.to (printed t.case ss) else room))
