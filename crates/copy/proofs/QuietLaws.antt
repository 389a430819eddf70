-- Behind the end: the words that are left of the wait print nothing, nor does a receiver that searches and hears no RQ. Assumes nothing.
use mathlib.Core.Path.{◌≡◌, refl, ◌∙◌}
use mathlib.Core.Bool.{Bool, true, false}
use mathlib.Core.List.{List, [], ◌∷◌}
use Prim.Native.Nat.{ℕ, suc}
use lib.Dec.{eqb}
use Rattle.signals.specs.Meaning.{alpha, rq}
use Rattle.mode_b.specs.declared.Phasing.{Phasing}
use Rattle.mode_b.specs.declared.Receiver.{Receiver}
use Rattle.mode_b.specs.Sender.{Position, rx_of, slots_from}
use Rattle.mode_b.specs.Receiver.{fresh_receiver, receiving, receiver_after}
use Rattle.signals.specs.Damage.{Damage, kept, hurt, arrives, NoSignal}
use Rattle.copy.specs.Run.{Damages, prints_of, heard_from, listen}
use Rattle.copy.proofs.WordLaws.{mutilated, Traffic}
use Rattle.copy.proofs.StepLaws.{seeking, two_left, wait_ends}

-- After the end no RQ is heard, so the receiver that searches anew stays at the search.
abbrev NoRq : List ℕ → Type 0
NoRq [] = Unit {0}
NoRq (w ∷ ws) = (eqb w rq ≡ false) × NoRq ws

data Idle : Receiver → Type 0 where
  none : (s : Phasing) → Idle (seeking 0 s)
  α-heard : Idle (seeking 1 Phasing.One)

abbrev StaysIdle : Receiver → ℕ → Type 0
StaysIdle r w = (prints_of (receiving r w) ≡ []) × Idle (receiver_after r (receiving r w))

stays_idle : (w : ℕ) → eqb w rq ≡ false → (r : Receiver) → Idle r → StaysIdle r w
stays_idle w n r i = go (eqb w alpha) refl r i
  where
    go : (t : Bool) → eqb w alpha ≡ t → (r : Receiver) → Idle r → StaysIdle r w
    go true e r (none s) = rw e (refl, α-heard)
    go true e r α-heard = rw e (refl, α-heard)
    go false e r (none s) = rw (e, n) (refl, none Phasing.One)
    go false e r α-heard = rw (e, n) (refl, none Phasing.One)

silent : (ws : List ℕ) → NoRq ws → (r : Receiver) → Idle r → listen r ws ≡ []
unfolding listen
silent [] n r i = refl
silent (w ∷ ws) n r i = let m = stays_idle w n.0 r i in rw m.0 (silent ws n.1 _ m.1)

-- a position as it may be sent; and α positions only
abbrev pub Word : Position → Type 0
Word Position.phasing = Unit {0}
Word (Position.signal w) = Traffic w
Word Position.idle = Unit {0}

abbrev pub AllIdle : List Position → Type 0
AllIdle [] = Unit {0}
AllIdle (Position.phasing ∷ ps) = ⊥
AllIdle (Position.signal w ∷ ps) = ⊥
AllIdle (Position.idle ∷ ps) = AllIdle ps

-- RQ is never heard in an RX slot, nor in any slot of α positions
pub rx_not_rq : (p : Position) → Word p → (h : Damage) → NoSignal h → eqb (arrives h (rx_of p)) rq ≡ false
rx_not_rq Position.phasing s kept n = refl
rx_not_rq (Position.signal w) s kept n = s.not_rq_lem
rx_not_rq Position.idle s kept n = refl
rx_not_rq Position.phasing s (hurt v) n = (mutilated v n).not_rq_lem
rx_not_rq (Position.signal w) s (hurt v) n = (mutilated v n).not_rq_lem
rx_not_rq Position.idle s (hurt v) n = (mutilated v n).not_rq_lem

module _ (d : Damages) (good : (k : ℕ) → NoSignal (d k)) where
  no_rq : (ps : List Position) → AllIdle ps → (k : ℕ) (before last : Position) → Word before → Word last → NoRq (heard_from d k (slots_from before last ps))
  unfolding heard_from slots_from
  no_rq [] i k before last b l = tt
  no_rq (Position.phasing ∷ ps) i k before last b l = absurd i
  no_rq (Position.signal w ∷ ps) i k before last b l = absurd i
  no_rq (Position.idle ∷ ps) i k before last b l =
      (rx_not_rq Position.idle tt (d k) (good k), (rx_not_rq before b (d (suc k)) (good (suc k)), no_rq ps i (suc (suc k)) last Position.idle l tt))

  -- where the position before the two α has been settled: the last two words of the wait, if they are sent, and what comes after them
  pub quiet_behind : (ps : List Position) → AllIdle ps → (k : ℕ) (q r : Position) → Word q → Word r → listen two_left (heard_from d k (slots_from q r ps)) ≡ []
  unfolding heard_from slots_from
  quiet_behind [] i k q r s t = unfold listen in refl
  quiet_behind (Position.phasing ∷ ps) i k q r s t = absurd i
  quiet_behind (Position.signal w ∷ ps) i k q r s t = absurd i
  quiet_behind (Position.idle ∷ ps) i k q r s t =
      wait_ends _ _ _ ∙ silent _ (no_rq ps i (suc (suc k)) r Position.idle t tt) fresh_receiver (none Phasing.One)
