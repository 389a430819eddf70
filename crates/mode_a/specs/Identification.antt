-- 001, 3.6, and 02, T-05: "Blocks: Y1 α Y2, α Y3 Y4, Y5 Y6 Y7, then RQ RQ RQ", and what the slave gathers of them.  R-208, R-209
-- Assumes nothing.
use Rattle.std.specs.Prelude.{◌&&◌, ℕ, eqb, if◌then◌else◌}
use Rattle.signals.specs.Meaning.{alpha, rq}
use Rattle.identity.specs.declared.Seven.{Seven}
use Rattle.identity.specs.Table3.{is_identity}
use Rattle.mode_a.specs.declared.Words.{Words}
use Rattle.mode_a.specs.declared.Stage.{Stage}

-- the block of each stage, of the own identity
--     1   "its own first identification signal, idle signal α and its second identification signal"      3.6.2
--     2   "idle signal α, its third identification signal and its fourth identification signal"          3.6.4
--     3   "its fifth, sixth and seventh identification signals"                                          3.6.6
--     4   "the end-of-identification block containing three signal repetition signals"                   3.6.8
abbrev pub identity_block : Seven → Stage → Words
identity_block y Stage.One = record { 0 = y.0; 1 = alpha; 2 = y.1 }
identity_block y Stage.Two = record { 0 = alpha; 1 = y.2; 2 = y.3 }
identity_block y Stage.Three = record { 0 = y.4; 1 = y.5; 2 = y.6 }
identity_block y Stage.Four = record { 0 = rq; 1 = rq; 2 = rq }

-- which identification block a burst is, and its signals: X α X, α X X or X X X, each X of table 3a
pub data Told : Type 0 where
  nothing_told : Told
  block_1 : (first second : ℕ) → Told
  block_2 : (third fourth : ℕ) → Told
  block_3 : (fifth sixth seventh : ℕ) → Told

unfoldable pub told_in : Words → Told
told_in b =
    if is_identity b.0 && (eqb b.1 alpha && is_identity b.2) then block_1 b.0 b.2
    else if eqb b.0 alpha && (is_identity b.1 && is_identity b.2) then block_2 b.1 b.2
    else if is_identity b.0 && (is_identity b.1 && is_identity b.2) then block_3 b.0 b.1 b.2
    else nothing_told

-- the signals gathered, with those of a block in their places
abbrev pub with_1 : Seven → ℕ → ℕ → Seven
with_1 g x y = record { 0 = x; 1 = y; 2 = g.2; 3 = g.3; 4 = g.4; 5 = g.5; 6 = g.6 }

abbrev pub with_2 : Seven → ℕ → ℕ → Seven
with_2 g x y = record { 0 = g.0; 1 = g.1; 2 = x; 3 = y; 4 = g.4; 5 = g.5; 6 = g.6 }

abbrev pub with_3 : Seven → ℕ → ℕ → ℕ → Seven
with_3 g x y z = record { 0 = g.0; 1 = g.1; 2 = g.2; 3 = g.3; 4 = x; 5 = y; 6 = z }
