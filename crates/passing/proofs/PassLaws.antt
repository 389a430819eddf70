-- The call's answer and rooms, by what the record leads to: judged by the first walk, and written by the second. Assumes nothing.
use mathlib.Core.Path.{◌≡◌, refl, ap, sym, ◌∙◌}
use mathlib.Core.Bool.{true}
use mathlib.Core.List.{List}
use Prim.Native.Nat.{ℕ, ◌≤◌, ◌<◌}
use lib.ListN.{length}
use native.Mathlib.Omega.{arith}
use borrow.Author.Tests.{lt-ltb, le-ltb}
use Rattle.std.specs.Prelude.{Ok, Err}
use Rattle.laws.proofs.Writes.{sets_over}
use Rattle.signals.specs.Numbers.{Answer, answered, refused}
use Rattle.mode_a.specs.declared.Role.TheVariants.{Master, Slave}
use Rattle.entries.specs.declared.PassError.{PassError}
use Rattle.entries.specs.declared.Printed.{Printed}
use Rattle.entries.specs.Passage.{Passage, Outcome, told, fault, text_of}
use Rattle.entries.specs.Passing.{Counts, Passed, told_in, outcome_from, passing_from, said_passed, counted, master_left, slave_left, PassesFrom}
use Rattle.walking.specs.Walk.{said_of, passage_from, wrote_in, Walks}
use Rattle.walking.proofs.OutcomeLaws.{told_from}

-- the promise, of what the record leads to
abbrev Passes' : Outcome → List ℕ → List ℕ → Passed → List ℕ → List ℕ → Type 0
Passes' o m s r m' s' =
    (said_passed r ≡ counted (told_in (length m) (length s) o))
    × (m' ≡ master_left (told_in (length m) (length s) o) m)
    × (s' ≡ slave_left (told_in (length m) (length s) o) s)

-- a refusal is no answer
no_answer : (x : PassError) (k : Counts) → said_passed (Err x) ≡ answered k → ⊥
no_answer (PassError.UnknownKind at) k e = cc
no_answer (PassError.CutShort at) k e = cc
no_answer (PassError.BadBurst at) k e = cc
no_answer (PassError.StillOffered at) k e = cc
no_answer (PassError.BadWord at) k e = cc
no_answer (PassError.NoRoom n) k e = cc

-- what each station printed, by an answer
abbrev counts_in : Answer Counts → Counts
counts_in (answered k) = k
counts_in (refused n v) = record { master = 0; slave = 0 }

as_counted : (p : Passage) (k : Printed) → said_passed (Ok k) ≡ said_of (told p) → (length (text_of p Master) ≡ k.master) × (length (text_of p Slave) ≡ k.slave)
as_counted p k e = (sym (ap (λ (a : Answer Counts). (counts_in a).master) e), sym (ap (λ (a : Answer Counts). (counts_in a).slave) e))

module _ (m s : List ℕ) where
  refused_by : (o : Outcome) (x : PassError) → said_passed (Err x) ≡ said_of o → Passes' o m s (Err x) m s
  refused_by (told p) x e = absurd (no_answer x _ e)
  refused_by (fault n at) x e = (e, refl, refl)

  short_master : (o : Outcome) (k : Printed) → said_passed (Ok k) ≡ said_of o → length m < k.master → Passes' o m s (Err (PassError.NoRoom k.master)) m s
  short_master (told p) k e h =
      let n : length (text_of p Master) ≡ k.master = (as_counted p k e).0 in
      rw (lt-ltb (length m) (length (text_of p Master)) (omega (arith, n, h)), n) (refl, refl, refl)
  short_master (fault n at) k e h = cc

  short_slave : (o : Outcome) (k : Printed) → said_passed (Ok k) ≡ said_of o → k.master ≤ length m → length s < k.slave → Passes' o m s (Err (PassError.NoRoom k.slave)) m s
  short_slave (told p) k e f h =
      let n : length (text_of p Master) ≡ k.master = (as_counted p k e).0 in
      let l : length (text_of p Slave) ≡ k.slave = (as_counted p k e).1 in
      rw (
        le-ltb (length m) (length (text_of p Master)) (omega (arith, n, f)),
        lt-ltb (length s) (length (text_of p Slave)) (omega (arith, l, h)),
        l,
      ) (refl, refl, refl)
  short_slave (fault n at) k e f h = cc

  written : (o : Outcome) (q : Passage) → ((p : Passage) → o ≡ told p → q ≡ p) → (k : Printed) → said_passed (Ok k) ≡ said_of o →
      k.master ≤ length m → k.slave ≤ length s → (r : Passed) (m' s' : List ℕ) → said_passed r ≡ said_of o →
      m' ≡ wrote_in true (text_of q Master) m → s' ≡ wrote_in true (text_of q Slave) s → Passes' o m s r m' s'
  written (told p) q is k e f h r m' s' says a b =
      let n : length (text_of p Master) ≤ length m = omega (arith, (as_counted p k e).0, f) in
      let l : length (text_of p Slave) ≤ length s = omega (arith, (as_counted p k e).1, h) in
      let same : q ≡ p = is p refl in
      rw (le-ltb (length m) (length (text_of p Master)) n, le-ltb (length s) (length (text_of p Slave)) l) (
        says,
        rw same at a ∙ sets_over m (text_of p Master) n,
        rw same at b ∙ sets_over s (text_of p Slave) l,
      )
  written (fault n at) q is k e f h r m' s' says a b = cc

module _ (bytes : List ℕ) (at : ℕ) (m s : List ℕ) where
  -- a refusal of the first walk is the answer
  pub passes_refused : (x : PassError) → said_passed (Err x) ≡ said_of (outcome_from bytes at) → PassesFrom bytes at m s (Err x) m s
  unfolding passing_from
  passes_refused x e = refused_by m s (outcome_from bytes at) x e

  -- what it counts finds no room, the master's first
  module _ (k : Printed) (e : said_passed (Ok k) ≡ said_of (outcome_from bytes at)) where
    pub no_master_room : length m < k.master → PassesFrom bytes at m s (Err (PassError.NoRoom k.master)) m s
    unfolding passing_from
    no_master_room h = short_master m s (outcome_from bytes at) k e h

    pub no_slave_room : k.master ≤ length m → length s < k.slave → PassesFrom bytes at m s (Err (PassError.NoRoom k.slave)) m s
    unfolding passing_from
    no_slave_room f h = short_slave m s (outcome_from bytes at) k e f h

    -- or does, and the second walk writes it
    pub passes_written : k.master ≤ length m → k.slave ≤ length s → (r : Passed) (m' s' : List ℕ) → Walks true bytes at m s r m' s' → PassesFrom bytes at m s r m' s'
    unfolding passing_from
    passes_written f h r m' s' w =
        written m s (outcome_from bytes at) (passage_from bytes at) (told_from bytes at) k e f h r m' s' w.0 w.1 w.2
