-- Hearing: a fresh receiver is never refused; and to listen from a later slot is to lose every slot before it. Assumes nothing.
use mathlib.Core.Path.{◌≡◌, refl}
use mathlib.Core.Bool.{Bool, true, false}
use mathlib.Core.List.{List, [], ◌∷◌}
use Prim.Native.Nat.{ℕ, zero, suc, ◌+◌, ◌≤◌}
use native.Mathlib.Omega.{arith}
use lib.Dec.{eqb, ltb}
use lib.ListN.{drop}
use borrow.Author.Tests.{lt-ltb, le-ltb, ltb-false}
use Rattle.std.specs.Prelude.{if◌then◌else◌}
use Rattle.signals.specs.Meaning.{meaning_of, alpha, rq}
use Rattle.mode_b.specs.declared.Phasing.{Phasing}
use Rattle.mode_b.specs.declared.Phase.{Phase}
use Rattle.mode_b.specs.declared.Wait.{Wait}
use Rattle.mode_b.specs.declared.Hearing.{Hearing}
use Rattle.mode_b.specs.declared.Hearing.TheVariants.{Searching, InPhase, Waiting}
use Rattle.mode_b.specs.declared.Receiver.{Receiver}
use Rattle.mode_b.specs.Receiver.{fresh_receiver, hears, prints_at, settled, printed_of, heard_dx, heard_rx, waits_for, waited, run_of, searched_on, searched, receiving, receiver_after}
use Rattle.signals.specs.Damage.{hurt, NoSignal}
use Rattle.copy.specs.Run.{Damages, heard_from, listen, deaf_before, Unrefused, is_answered}

-- a search run is never over 3, nor is a wait
abbrev Sound : Hearing → Type 0
Sound (Searching k s) = k ≤ 3
Sound (InPhase p) = Unit {0}
Sound (Waiting v) = v.left ≤ 3

search_sound : (run : ℕ) (s : Phasing) → Sound (searched_on run s).receiver.hearing
search_sound run s = go (ltb 3 run) refl
  where
    go : (t : Bool) → ltb 3 run ≡ t → Sound (searched_on run s).receiver.hearing
    go true e = rw e tt
    go false e = let h = ltb-false 3 run e in rw e h

searched_sound : (k : ℕ) (s : Phasing) (w : ℕ) → Sound (searched k s w).receiver.hearing
searched_sound k s w = go (eqb w alpha) (eqb w rq) refl refl
  where
    go : (a b : Bool) → eqb w alpha ≡ a → eqb w rq ≡ b → Sound (searched k s w).receiver.hearing
    go true b e f = rw e (search_sound (run_of k s Phasing.One) Phasing.One)
    go false true e f = rw (e, f) (search_sound (run_of k s Phasing.Two) Phasing.Two)
    go false false e f = rw (e, f) (omega arith)

dx_sound : (p : Phase) (w : ℕ) → Sound (heard_dx p w).receiver.hearing
unfolding heard_dx
dx_sound p w = go (eqb w alpha) (eqb p.third alpha) refl refl
  where
    go : (a b : Bool) → eqb w alpha ≡ a → eqb p.third alpha ≡ b → Sound (heard_dx p w).receiver.hearing
    go true true e f = rw (e, f) (omega arith)
    go true false e f = rw (e, f) tt
    go false b e f = rw e tt

wait_sound : (v : Wait) (w : ℕ) → Sound (waited v w).receiver.hearing
unfolding waited
wait_sound v w = go (eqb v.left 3) (eqb v.left 2)
  where
    go : (a b : Bool) → Sound (if a then prints_at (waits_for 0 false 2) (printed_of v.printing (settled v.word w)) else if b then hears (waits_for 0 false 1) else hears (Searching 0 Phasing.One)).receiver.hearing
    go true b = omega arith
    go false true = omega arith
    go false false = omega arith

next_sound : (h : Hearing) → Sound h → (w : ℕ) → (is_answered (receiving (record { hearing = h }) w) ≡ true) × Sound (receiver_after (record { hearing = h }) (receiving (record { hearing = h }) w)).hearing
next_sound (Searching k s) h w = rw (le-ltb 3 k h) (refl, searched_sound k s w)
next_sound (InPhase p) h w = (refl, go p.dx)
  where
    go : (t : Bool) → Sound (if t then heard_dx p w else heard_rx p w).receiver.hearing
    go true = dx_sound p w
    go false = unfold heard_rx in tt
next_sound (Waiting v) h w = rw (le-ltb 3 v.left h) (refl, wait_sound v w)

sound_unrefused : (ws : List ℕ) (r : Receiver) → Sound r.hearing → Unrefused r ws
sound_unrefused [] r s = tt
sound_unrefused (w ∷ ws) r s = let n = next_sound r.hearing s w in (n.0, sound_unrefused ws _ n.1)

pub never_refused : (ws : List ℕ) → Unrefused fresh_receiver ws
never_refused ws = sound_unrefused ws fresh_receiver (omega arith)

-- to listen from a later slot on
pub deaf_no_signal : (start : ℕ) (d : Damages) → ((k : ℕ) → NoSignal (d k)) → (k : ℕ) → NoSignal (deaf_before start d k)
unfolding meaning_of
deaf_no_signal start d n k = go (ltb k start)
  where
    go : (t : Bool) → NoSignal (if t then hurt 0 else d k)
    go true = refl
    go false = n k

hears_on : (start : ℕ) (d : Damages) (k : ℕ) → start ≤ k → (ws : List ℕ) → heard_from (deaf_before start d) k ws ≡ heard_from d k ws
unfolding heard_from
hears_on start d k h [] = refl
hears_on start d k h (w ∷ ws) = rw (le-ltb k start h, hears_on start d (suc k) (omega arith) ws)

late : (start : ℕ) (d : Damages) (n k : ℕ) → n + k ≡ start → (ws : List ℕ) → listen fresh_receiver (heard_from d start (drop n ws)) ≡ listen fresh_receiver (heard_from (deaf_before start d) k ws)
unfolding listen heard_from
late start d zero k e ws = let h : k ≡ start = omega arith in rw (hears_on start d k (omega arith) ws, h)
late start d (suc n) k e [] = refl
late start d (suc n) k e (w ∷ ws) = rw (lt-ltb k start (omega arith)) (late start d n (suc k) (omega arith) ws)

pub late_is_deaf : (start : ℕ) (d : Damages) (ws : List ℕ) → listen fresh_receiver (heard_from d start (drop start ws)) ≡ listen fresh_receiver (heard_from (deaf_before start d) 0 ws)
late_is_deaf start d ws = late start d start 0 (omega arith) ws
