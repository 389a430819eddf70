-- An identification block, by what it is to the stage. Assumes nothing.
use mathlib.Core.Path.{◌≡◌, refl, ap}
use mathlib.Core.Bool.{Bool, true, false}
use Prim.Native.Nat.{ℕ, ◌+◌}
use native.Mathlib.Omega.{arith}
use Rattle.mode_a.specs.declared.Part.{Part}
use Rattle.mode_a.specs.declared.Stage.{Stage}
use Rattle.mode_a.specs.declared.Words.{Words}
use Rattle.mode_a.specs.declared.Gathered.{Gathered}
use Rattle.mode_a.specs.declared.Place.TheVariants.{Answering}
use Rattle.mode_a.specs.declared.Doing.TheVariants.{Again}
use Rattle.mode_a.specs.Station.{words, no_seven}
use Rattle.answering.specs.declared.Due.{Due}
use Rattle.answering.specs.Blocks.{told_as, IsDue}
use Rattle.reasons.specs.declared.Reason.{Reason}
use Rattle.naming.specs.Places.{due_by, telling_by}

abbrev pub is_told : Part → Bool
is_told Part.None = false
is_told Part.One = true
is_told Part.Two = true
is_told Part.Three = true

abbrev ones : Words
ones = words 1 1 1

abbrev weight : Gathered → ℕ
weight g = g.got.0 + g.got.2 + g.got.4

-- d is what the block p is to the stage s. Another is ruled out by a burst whose signals are not those gathered: the row would go on where
-- it repeats, or gather what it leaves out
repeats_alike : {g h : Gathered} {v w : Words} → Again (Answering g) v ≡ Again (Answering h) w → weight g ≡ weight h
repeats_alike {g} {h} e = let q : g ≡ h = cc in ap weight q

pub due_named : (late : Bool) (b : Words) (r : Reason) (s : Stage) (p : Part) (d : Due) → is_told p ≡ true → IsDue s p d → due_by late d r ≡ telling_by late s (told_as p b) r
due_named late b r Stage.One Part.None d t f = cc
due_named late b r Stage.One Part.One Due.Awaited t f = refl
due_named late b r Stage.One Part.One Due.Before t f = cc (f no_seven no_seven ones)
due_named late b r Stage.One Part.One Due.Neither t f = cc (f no_seven no_seven ones)
due_named late b r Stage.One Part.Two Due.Awaited t f = cc (f no_seven no_seven ones)
due_named late b r Stage.One Part.Two Due.Before t f = absurd (omega (arith, repeats_alike (f no_seven no_seven ones)))
due_named late b r Stage.One Part.Two Due.Neither t f = refl
due_named late b r Stage.One Part.Three Due.Awaited t f = cc (f no_seven no_seven ones)
due_named late b r Stage.One Part.Three Due.Before t f = absurd (omega (arith, repeats_alike (f no_seven no_seven ones)))
due_named late b r Stage.One Part.Three Due.Neither t f = refl
due_named late b r Stage.Two Part.None d t f = cc
due_named late b r Stage.Two Part.One Due.Awaited t f = cc (f no_seven no_seven ones)
due_named late b r Stage.Two Part.One Due.Before t f = refl
due_named late b r Stage.Two Part.One Due.Neither t f = absurd (omega (arith, repeats_alike (f no_seven no_seven ones)))
due_named late b r Stage.Two Part.Two Due.Awaited t f = refl
due_named late b r Stage.Two Part.Two Due.Before t f = cc (f no_seven no_seven ones)
due_named late b r Stage.Two Part.Two Due.Neither t f = cc (f no_seven no_seven ones)
due_named late b r Stage.Two Part.Three Due.Awaited t f = cc (f no_seven no_seven ones)
due_named late b r Stage.Two Part.Three Due.Before t f = absurd (omega (arith, repeats_alike (f no_seven no_seven ones)))
due_named late b r Stage.Two Part.Three Due.Neither t f = refl
due_named late b r Stage.Three Part.None d t f = cc
due_named late b r Stage.Three Part.One Due.Awaited t f = cc (f no_seven no_seven ones)
due_named late b r Stage.Three Part.One Due.Before t f = absurd (omega (arith, repeats_alike (f no_seven no_seven ones)))
due_named late b r Stage.Three Part.One Due.Neither t f = refl
due_named late b r Stage.Three Part.Two Due.Awaited t f = cc (f no_seven no_seven ones)
due_named late b r Stage.Three Part.Two Due.Before t f = refl
due_named late b r Stage.Three Part.Two Due.Neither t f = absurd (omega (arith, repeats_alike (f no_seven no_seven ones)))
due_named late b r Stage.Three Part.Three Due.Awaited t f = refl
due_named late b r Stage.Three Part.Three Due.Before t f = cc (f no_seven no_seven ones)
due_named late b r Stage.Three Part.Three Due.Neither t f = cc (f no_seven no_seven ones)
due_named late b r Stage.Four Part.None d t f = cc
due_named late b r Stage.Four Part.One Due.Awaited t f = cc (f no_seven no_seven ones)
due_named late b r Stage.Four Part.One Due.Before t f = absurd (omega (arith, repeats_alike (f no_seven no_seven ones)))
due_named late b r Stage.Four Part.One Due.Neither t f = refl
due_named late b r Stage.Four Part.Two Due.Awaited t f = cc (f no_seven no_seven ones)
due_named late b r Stage.Four Part.Two Due.Before t f = absurd (omega (arith, repeats_alike (f no_seven no_seven ones)))
due_named late b r Stage.Four Part.Two Due.Neither t f = refl
due_named late b r Stage.Four Part.Three Due.Awaited t f = cc (f no_seven no_seven ones)
due_named late b r Stage.Four Part.Three Due.Before t f = refl
due_named late b r Stage.Four Part.Three Due.Neither t f = absurd (omega (arith, repeats_alike (f no_seven no_seven ones)))
