-- The end of reception: 02, T-03.  R-122, R-123, R-124; and when a receiver is refused.  R-130
--     reception_ends       two successive α in DX, and the three words behind them, whatever these are
--     waits_exactly        a receiver in phase begins to wait in a DX slot, at α behind α, and nowhere else
--     phase_no_search      it goes from phase to no search, and
--     search_no_wait       from a search to no wait
--     ends_exactly         a receiver that waits searches after the last word and after no other, and is then a fresh one
--     prints_first_alone   within the wait nothing is printed behind the first of the three words
--     refused_exactly      4, and 0 beside it, for a search run over 3 and for a remaining wait over 3; no refusal else
-- Assumes nothing.
use mathlib.Core.Path.{◌≡◌, refl, ap}
use mathlib.Core.Bool.{Bool, true, false, ◌&&◌}
use mathlib.Core.Logic.{◌↔◌}
use Prim.Native.Nat.{ℕ, zero, suc, ◌≤◌, ◌<◌}
use native.Mathlib.Omega.{arith}
use lib.Dec.{eqb, ltb}
use borrow.Author.Tests.{eqb-true, ltb-true, lt-ltb}
use Rattle.std.specs.Prelude.{if◌then◌else◌, None}
use Rattle.signals.specs.Meaning.{alpha, rq}
use Rattle.signals.specs.Numbers.{Answer, answered, refused}
use Rattle.mode_b.specs.declared.Phasing.{Phasing}
use Rattle.mode_b.specs.declared.Phase.{Phase}
use Rattle.mode_b.specs.declared.Wait.{Wait}
use Rattle.mode_b.specs.declared.Hearing.{Hearing}
use Rattle.mode_b.specs.declared.Hearing.TheVariants.{Searching, InPhase, Waiting}
use Rattle.mode_b.specs.declared.Receiver.{Receiver}
use Rattle.mode_b.specs.declared.Heard.{Heard}
use Rattle.mode_b.specs.Receiver.{fresh_receiver, hears, run_of, locked, searched_on, searched, heard_rx, heard_dx, waits_for, waited, receiving, receiver_after, printed_by, after_word, Ends}

abbrev hearing : Hearing → Receiver
hearing h = record { hearing = h }

pub reception_ends : (p : Phase) → p.dx ≡ true → p.third ≡ alpha → (u v w : ℕ) → Ends p u v w
unfolding heard_dx waited
reception_ends p d a u v w =
    record {
      at_the_end = rw (d, a);
      waiting = rw (d, a);
      second = rw (d, a);
      third = rw (d, a);
      anew = rw (d, a);
    }

-- what a receiver is doing, by its number: 0 searching, 1 in phase, 2 waiting
abbrev pub doing : Hearing → ℕ
doing (Searching k last) = 0
doing (InPhase p) = 1
doing (Waiting v) = 2

pub waits_exactly : (p : Phase) (w : ℕ) → (doing (after_word (hearing (InPhase p)) w).hearing ≡ 2) ↔ ((p.dx ≡ true) × (p.third ≡ alpha) × (w ≡ alpha))
unfolding heard_dx heard_rx
waits_exactly p w = ((λ e. go p.dx (eqb w alpha) (eqb p.third alpha) refl refl refl e), (λ e. rw (e.0, e.1, e.2)))
  where
    go : (d a b : Bool) → p.dx ≡ d → eqb w alpha ≡ a → eqb p.third alpha ≡ b → doing (if d then (if a && b then hears (waits_for p.second p.printing 3) else hears (InPhase (record { first = p.second; second = p.third; third = w; dx = false; printing = p.printing }))) else heard_rx p w).receiver.hearing ≡ 2 → (p.dx ≡ true) × (p.third ≡ alpha) × (w ≡ alpha)
    go true true true d a b e = (d, eqb-true p.third alpha b, eqb-true w alpha a)
    go true true false d a b e = absurd (omega arith)
    go true false b d a c e = absurd (omega arith)
    go false a b d f c e = absurd (omega arith)

pub phase_no_search : (p : Phase) (w : ℕ) → doing (after_word (hearing (InPhase p)) w).hearing ≡ 0 → ⊥
unfolding heard_dx heard_rx
phase_no_search p w = go p.dx (eqb w alpha && eqb p.third alpha)
  where
    go : (d a : Bool) → doing (if d then (if a then hears (waits_for p.second p.printing 3) else hears (InPhase (record { first = p.second; second = p.third; third = w; dx = false; printing = p.printing }))) else heard_rx p w).receiver.hearing ≡ 0 → ⊥
    go true true e = omega arith
    go true false e = omega arith
    go false a e = omega arith

pub search_no_wait : (k : ℕ) (last : Phasing) (w : ℕ) → doing (after_word (hearing (Searching k last)) w).hearing ≡ 2 → ⊥
search_no_wait k last w = go (ltb 3 k) (eqb w alpha) (eqb w rq)
  where
    on : (s : Phasing) (n : ℕ) (t : Bool) → doing (if t then hears (locked s) else hears (Searching n s)).receiver.hearing ≡ 2 → ⊥
    on s n true e = omega arith
    on s n false e = omega arith

    go : (t a b : Bool) → doing (receiver_after (hearing (Searching k last)) (if t then refused 4 0 else answered (if a then searched_on (run_of k last Phasing.One) Phasing.One else if b then searched_on (run_of k last Phasing.Two) Phasing.Two else hears (Searching 0 Phasing.One)))).hearing ≡ 2 → ⊥
    go true a b e = omega arith
    go false true b e = on Phasing.One (run_of k last Phasing.One) (ltb 3 (run_of k last Phasing.One)) e
    go false false true e = on Phasing.Two (run_of k last Phasing.Two) (ltb 3 (run_of k last Phasing.Two)) e
    go false false false e = omega arith

pub ends_exactly : (v : Wait) (w : ℕ) → v.left ≤ 3 → ((doing (after_word (hearing (Waiting v)) w).hearing ≡ 0) ↔ (v.left ≤ 1)) × (v.left ≤ 1 → after_word (hearing (Waiting v)) w ≡ fresh_receiver)
unfolding waited
ends_exactly v w h = (((λ e. go v.left refl h e), (λ l. ap (λ (r : Receiver). doing r.hearing) (fresh v.left refl l))), (λ l. fresh v.left refl l))
  where
    fresh : (n : ℕ) → v.left ≡ n → n ≤ 1 → after_word (hearing (Waiting v)) w ≡ fresh_receiver
    fresh zero e l = rw e
    fresh (suc zero) e l = rw e
    fresh (suc (suc n)) e l = absurd (omega arith)

    go : (n : ℕ) → v.left ≡ n → n ≤ 3 → doing (after_word (hearing (Waiting v)) w).hearing ≡ 0 → v.left ≤ 1
    go zero e h d = omega arith
    go (suc zero) e h d = omega arith
    go (suc (suc zero)) e h d = let z : ◌≡◌ {A = ℕ} 2 0 = rw e at d in absurd (omega arith)
    go (suc (suc (suc zero))) e h d = let z : ◌≡◌ {A = ℕ} 2 0 = rw e at d in absurd (omega arith)
    go (suc (suc (suc (suc n)))) e h d = absurd (omega arith)

pub prints_first_alone : (v : Wait) (w : ℕ) → v.left ≤ 2 → printed_by (hearing (Waiting v)) w ≡ None
unfolding waited
prints_first_alone v w h = go v.left refl h
  where
    go : (n : ℕ) → v.left ≡ n → n ≤ 2 → printed_by (hearing (Waiting v)) w ≡ None
    go zero e l = rw e
    go (suc zero) e l = rw e
    go (suc (suc zero)) e l = rw e
    go (suc (suc (suc n))) e l = absurd (omega arith)

-- the number of a refusal, 0 where there is none
abbrev pub refusal : Answer Heard → ℕ
refusal (answered h) = 0
refusal (refused n v) = n

abbrev pub Over3 : Hearing → Type 0
Over3 (Searching k last) = 3 < k
Over3 (InPhase p) = ⊥
Over3 (Waiting v) = 3 < v.left

over : (k : ℕ) (a : Heard) → (3 < k → ◌≡◌ {A = Answer Heard} (if ltb 3 k then refused 4 0 else answered a) (refused 4 0)) × ((3 < k → ⊥) → refusal (if ltb 3 k then refused 4 0 else answered a) ≡ 0)
over k a = ((λ h. rw (lt-ltb 3 k h)), (λ n. go (ltb 3 k) refl n))
  where
    go : (t : Bool) → ltb 3 k ≡ t → (3 < k → ⊥) → refusal (if t then refused 4 0 else answered a) ≡ 0
    go true e n = absurd (n (ltb-true 3 k e))
    go false e n = refl

pub refused_exactly : (h : Hearing) (w : ℕ) → (Over3 h → receiving (hearing h) w ≡ refused 4 0) × ((Over3 h → ⊥) → refusal (receiving (hearing h) w) ≡ 0)
refused_exactly (Searching k last) w = over k (searched k last w)
refused_exactly (InPhase p) w = ((λ e. absurd e), (λ e. refl))
refused_exactly (Waiting v) w = over v.left (waited v w)
