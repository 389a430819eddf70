-- Coming into phase: "Positions whose DX came before those four signals count as phasing."  R-114
--     into_phase            the step that ends the search answers what `locked` says, after α or after RQ, and prints nothing
--     counts_as_phasing     after RQ one such position still waits for its RX, in the next slot. Whatever is heard there, nothing is
--                           printed and printing has not begun: the receiver is the one that came into phase by α, where none waits
--     settles_as_phasing    the positions whose DX is one of the four are RQ, and with α they settle as phasing
--     rq_prints_nothing     with any other RX they print nothing either, as long as printing has not begun
--     no_settled_phasing    "count as" is said of what is printed: with E in RX such a position settles as an error
--     no_mark_unprinted     once printing has begun, such an error is printed
--     four_heard            a fresh receiver comes into phase by four signals,
--     three_heard           and not by three
-- Assumes nothing.
use mathlib.Core.Path.{◌≡◌, refl, ap, sym, ◌∙◌}
use mathlib.Core.Bool.{Bool, true, false, not, ◌&&◌, false≢true}
use mathlib.Core.Logic.{◌⊎◌, inl, inr}
use Prim.Native.Nat.{ℕ}
use native.Mathlib.Omega.{arith}
use lib.Dec.{eqb, ltb}
use borrow.Author.Tests.{eqb-true}
use Rattle.std.specs.Prelude.{if◌then◌else◌, Some, None}
use Rattle.signals.specs.Units.{intact_of, ones_of}
use Rattle.signals.specs.Meaning.{alpha, rq, error_mark}
use Rattle.signals.specs.Numbers.{Answer, answered, refused}
use Rattle.mode_b.specs.declared.Phasing.{Phasing}
use Rattle.mode_b.specs.declared.Phase.{Phase}
use Rattle.mode_b.specs.declared.Hearing.{Hearing}
use Rattle.mode_b.specs.declared.Hearing.TheVariants.{Searching, InPhase, Waiting}
use Rattle.mode_b.specs.declared.Receiver.{Receiver}
use Rattle.mode_b.specs.declared.Heard.{Heard}
use Rattle.mode_b.specs.declared.Settled.{Settled}
use Rattle.mode_b.specs.Receiver.{fresh_receiver, hears, run_of, locked, searched_on, settled, printed_of, printing_after, heard_rx, receiving, after_word}

abbrev hearing : Hearing → Receiver
hearing h = record { hearing = h }

-- a position whose DX is RQ, before printing has begun
pub rq_prints_nothing : (w : ℕ) → (printed_of false (settled rq w) ≡ None) × (printing_after false (settled rq w) ≡ false)
unfolding settled intact_of ones_of
rq_prints_nothing w = go (intact_of w) (eqb rq w) (eqb w alpha)
  where
    go : (i e a : Bool) → let s = (if i && e then Settled.Signal rq else if a then Settled.Phasing else if not i then Settled.Signal rq else if i && false then Settled.Signal w else Settled.Error) in
        (printed_of false s ≡ None) × (printing_after false s ≡ false)
    go true true a = (refl, refl)
    go true false true = (refl, refl)
    go true false false = (refl, refl)
    go false e true = (refl, refl)
    go false e false = (refl, refl)

pub counts_as_phasing : (w : ℕ) → receiving (hearing (locked Phasing.Two)) w ≡ answered (hears (locked Phasing.One))
unfolding heard_rx
counts_as_phasing w = rw ((rq_prints_nothing w).0, (rq_prints_nothing w).1)

pub settles_as_phasing : settled rq alpha ≡ Settled.Phasing
unfolding settled intact_of ones_of
settles_as_phasing = refl

-- the step that ends the search
abbrev is_in_phase : Hearing → Bool
is_in_phase (Searching k last) = false
is_in_phase (InPhase p) = true
is_in_phase (Waiting v) = false

abbrev in_phase : Answer Heard → Bool
in_phase (answered h) = is_in_phase h.receiver.hearing
in_phase (refused n v) = false

pub into_phase : (k : ℕ) (last : Phasing) (v : ℕ) (h : Heard) (p : Phase) → receiving (hearing (Searching k last)) v ≡ answered h →
    h.receiver.hearing ≡ InPhase p →
    ((v ≡ alpha) × (h ≡ hears (locked Phasing.One))) ⊎ ((v ≡ rq) × (h ≡ hears (locked Phasing.Two)))
into_phase k last v h p e q = go (ltb 3 k) (eqb v alpha) (eqb v rq) refl refl e
  where
    never : {A : Type 0} (a : Answer Heard) → a ≡ answered h → in_phase a ≡ false → A
    never a i f = absurd (false≢true (sym f ∙ ap in_phase i ∙ ap is_in_phase q))

    on : (s : Phasing) (n : ℕ) (t : Bool) → ◌≡◌ {A = Answer Heard} (answered (if t then hears (locked s) else hears (Searching n s))) (answered h) → h ≡ hears (locked s)
    on s n true e = cc
    on s n false e = never _ e refl

    go : (t a b : Bool) → eqb v alpha ≡ a → eqb v rq ≡ b →
        ◌≡◌ {A = Answer Heard} (if t then refused 4 0 else answered (if a then searched_on (run_of k last Phasing.One) Phasing.One else if b then searched_on (run_of k last Phasing.Two) Phasing.Two else hears (Searching 0 Phasing.One))) (answered h) →
        ((v ≡ alpha) × (h ≡ hears (locked Phasing.One))) ⊎ ((v ≡ rq) × (h ≡ hears (locked Phasing.Two)))
    go true a b i j e = never _ e refl
    go false true b i j e = inl (eqb-true v alpha i, on Phasing.One (run_of k last Phasing.One) (ltb 3 (run_of k last Phasing.One)) e)
    go false false true i j e = inr (eqb-true v rq j, on Phasing.Two (run_of k last Phasing.Two) (ltb 3 (run_of k last Phasing.Two)) e)
    go false false false i j e = never _ e refl

pub no_settled_phasing : ((w : ℕ) → settled rq w ≡ Settled.Phasing) → ⊥
unfolding settled intact_of ones_of
no_settled_phasing claim = let z : Settled.Error ≡ Settled.Phasing = claim 86 in let y : ◌≡◌ {A = ℕ} 0 1 = cc in omega arith

pub no_mark_unprinted : ((w : ℕ) → printed_of true (settled rq w) ≡ None) → ⊥
unfolding settled intact_of ones_of
no_mark_unprinted claim = let z : Some error_mark ≡ None = claim 86 in let y : ◌≡◌ {A = ℕ} 0 1 = cc in omega arith

pub four_heard : after_word (after_word (after_word (after_word fresh_receiver alpha) rq) alpha) rq ≡ hearing (locked Phasing.Two)
four_heard = refl

pub three_heard : after_word (after_word (after_word fresh_receiver alpha) rq) alpha ≡ hearing (Searching 3 Phasing.One)
three_heard = refl
