-- A DX slot and the RX slot behind it: what a receiver prints in them, and what it is after them; the last two words of the wait; and
-- what a position is settled to. Assumes nothing.
use mathlib.Core.Path.{◌≡◌, refl, ap}
use mathlib.Core.Bool.{Bool, true, false, ◌&&◌}
use mathlib.Core.Logic.{◌⊎◌, inl, inr}
use mathlib.Core.List.{List, [], ◌∷◌, ◌++◌}
use Prim.Native.Nat.{ℕ}
use native.Mathlib.Omega.{arith}
use lib.Dec.{eqb}
use Rattle.signals.specs.Units.{intact_of, ones_of}
use Rattle.signals.specs.Meaning.{traffic_of, meaning_of, alpha, rq}
use Rattle.mode_b.specs.declared.Phasing.{Phasing}
use Rattle.mode_b.specs.declared.Hearing.TheVariants.{Searching, InPhase}
use Rattle.mode_b.specs.declared.Receiver.{Receiver}
use Rattle.mode_b.specs.declared.Settled.{Settled}
use Rattle.mode_b.specs.Receiver.{settled, printed_of, printing_after, heard_dx, heard_rx, waits_for, waited, fresh_receiver}
use Rattle.mode_b.proofs.PhaseLaws.{rq_prints_nothing}
use Rattle.signals.specs.Damage.{Damage, kept, hurt, arrives, NoSignal}
use Rattle.copy.specs.Run.{one, listen}
use Rattle.copy.proofs.WordLaws.{Mutilated, mutilated, Traffic, eqb_self}

abbrev pub in_phase : ℕ → ℕ → ℕ → Bool → Bool → Receiver
in_phase a b c dx printing =
    record { hearing = InPhase (record { first = a; second = b; third = c; dx = dx; printing = printing }) }

-- behind the first of the three words of the wait
abbrev pub two_left : Receiver
two_left = record { hearing = waits_for 0 false 2 }

abbrev pub seeking : ℕ → Phasing → Receiver
seeking run s = record { hearing = Searching run s }

-- A DX slot, and the RX slot behind it, in which the position two before is settled. After two successive α two words are left of the
-- wait, and else it goes on in phase.
abbrev pub on_from : Bool → ℕ → ℕ → ℕ → Bool → Receiver
on_from true a b c printing = two_left
on_from false a b c printing = in_phase a b c true printing

pub dx_rx : (a b c : ℕ) (printing : Bool) (v w : ℕ) (ws : List ℕ) (t : Bool) → eqb v alpha && eqb c alpha ≡ t → listen (in_phase a b c true printing) (v ∷ w ∷ ws) ≡ one (printed_of printing (settled b w)) ++ listen (on_from t b c v (printing_after printing (settled b w))) ws
unfolding listen heard_dx heard_rx waited
dx_rx a b c printing v w ws true e = rw e
dx_rx a b c printing v w ws false e = rw e

-- the last two words of the wait
pub wait_ends : (v w : ℕ) (ws : List ℕ) → listen two_left (v ∷ w ∷ ws) ≡ listen fresh_receiver ws
unfolding listen waited
wait_ends v w ws = refl

pub hurt_kept : (v : ℕ) → hurt v ≡ kept → ⊥
hurt_kept v e = let z : ◌≡◌ {A = ℕ} 0 1 = cc in omega arith

-- what a position is settled to, by what happened to its copies
pub settles_signal : (w : ℕ) → Traffic w → (a b : Damage) → NoSignal a → NoSignal b → (a ≡ kept) ⊎ (b ≡ kept) → settled (arrives a w) (arrives b w) ≡ Settled.Signal w
unfolding settled
settles_signal w t kept kept m n c = rw (t.is_intact, eqb_self w)
settles_signal w t kept (hurt v) m n c = rw (t.is_intact, (mutilated v n).not_intact, t.not_rq_lem)
settles_signal w t (hurt u) kept m n c = rw ((mutilated u m).not_intact, t.is_intact, (mutilated u m).not_rq_lem)
settles_signal w t (hurt u) (hurt v) m n (inl e) = absurd (hurt_kept u e)
settles_signal w t (hurt u) (hurt v) m n (inr e) = absurd (hurt_kept v e)

pub settles_error : (u v : ℕ) → Mutilated u → Mutilated v → settled u v ≡ Settled.Error
unfolding settled
settles_error u v m n = rw (m.not_intact, n.not_intact, m.not_rq_lem)

-- what is settled so prints nothing, and printing does not begin
abbrev pub Quiet : Bool → Settled → Type 0
Quiet printing s = (one (printed_of printing s) ≡ []) × (printing_after printing s ≡ printing)

quiet_rq : (printing : Bool) → Quiet printing (Settled.Signal rq)
unfolding traffic_of meaning_of
quiet_rq true = (refl, refl)
quiet_rq false = (refl, refl)

quiet_alpha : (printing : Bool) → Quiet printing (Settled.Signal alpha)
unfolding traffic_of meaning_of
quiet_alpha true = (refl, refl)
quiet_alpha false = (refl, refl)

-- a phasing position with an intact copy, and an α position
pub settles_phasing : (printing : Bool) (a b : Damage) → NoSignal a → NoSignal b → (a ≡ kept) ⊎ (b ≡ kept) → Quiet printing (settled (arrives a rq) (arrives b alpha))
unfolding settled intact_of ones_of
settles_phasing printing kept kept m n c = (refl, refl)
settles_phasing printing kept (hurt v) m n c = rw ((mutilated v n).not_alpha, (mutilated v n).not_intact) (quiet_rq printing)
settles_phasing printing (hurt u) kept m n c = rw ((mutilated u m).not_intact, (mutilated u m).not_rq_lem) (quiet_alpha printing)
settles_phasing printing (hurt u) (hurt v) m n (inl e) = absurd (hurt_kept u e)
settles_phasing printing (hurt u) (hurt v) m n (inr e) = absurd (hurt_kept v e)

pub settles_idle : (printing : Bool) (a b : Damage) → NoSignal a → NoSignal b → (a ≡ kept) ⊎ (b ≡ kept) → Quiet printing (settled (arrives a alpha) (arrives b alpha))
unfolding settled intact_of ones_of
settles_idle printing kept kept m n c = quiet_alpha printing
settles_idle printing kept (hurt v) m n c = rw (mutilated v n).not_intact (quiet_alpha printing)
settles_idle printing (hurt u) kept m n c = rw ((mutilated u m).not_intact, (mutilated u m).not_rq_lem) (quiet_alpha printing)
settles_idle printing (hurt u) (hurt v) m n (inl e) = absurd (hurt_kept u e)
settles_idle printing (hurt u) (hurt v) m n (inr e) = absurd (hurt_kept v e)

-- before printing has begun an error prints nothing either
pub settles_unbegun : (a b : Damage) → NoSignal a → NoSignal b → Quiet false (settled (arrives a rq) (arrives b alpha))
settles_unbegun kept b m n = settles_phasing false kept b m n (inl refl)
settles_unbegun (hurt u) kept m n = settles_phasing false (hurt u) kept m n (inr refl)
settles_unbegun (hurt u) (hurt v) m n = rw (settles_error u v (mutilated u m) (mutilated v n)) (refl, refl)

-- A position taken for phasing when the receiver came into phase: before printing has begun it prints nothing, whatever its RX is.
pub settles_counted : (w : ℕ) → Quiet false (settled rq w)
settles_counted w = (ap one (rq_prints_nothing w).0, (rq_prints_nothing w).1)
