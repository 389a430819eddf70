-- The signal to which a position is settled is intact, where it is settled to one. Assumes nothing.
use Rattle.std.specs.Prelude.{Bool, true}
use Rattle.signals.specs.Units.{intact_of}
use Rattle.mode_b.specs.declared.Settled.{Settled}

abbrev pub intact_signal : Settled → Bool
intact_signal (Settled.Signal w) = intact_of w
intact_signal Settled.Phasing = true
intact_signal Settled.Error = true
