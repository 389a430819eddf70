-- What a place calls for, by what is read there and how it is judged. Assumes nothing.
use mathlib.Core.Path.{◌≡◌, refl, ap, sym}
use mathlib.Core.List.{List}
use native.Mathlib.Omega.{arith}
use Prim.Native.Nat.{ℕ}
use Rattle.std.specs.Prelude.{Some, None, Ok, Err}
use Rattle.signals.specs.Numbers.{refused}
use Rattle.entries.specs.declared.Entry.{Entry}
use Rattle.entries.specs.declared.PassError.{PassError}
use Rattle.entries.specs.declared.ReadError.{ReadError}
use Rattle.entries.specs.declared.Standing.{Standing}
use Rattle.entries.specs.Entries.{Reads, nothing, unknown_kind, cut_short, told_as}
use Rattle.entries.specs.Passage.{Passage, told, fault_of}
use Rattle.entries.specs.Passing.{said_passed}
use Rattle.entries.proofs.WalkLaws.{walked}
use Rattle.walking.specs.Walk.{said_of, Stops, Judges}
use Rattle.walking.proofs.OutcomeLaws.{ends_left, ends_fault}

-- a fault has a number
some_fault : (x : PassError) (n v : ℕ) → said_passed (Err x) ≡ refused n v → n ≡ 0 → ⊥
some_fault (PassError.UnknownKind at) n v e z = let k : 10 ≡ n = cc in omega arith
some_fault (PassError.CutShort at) n v e z = let k : 11 ≡ n = cc in omega arith
some_fault (PassError.BadBurst at) n v e z = let k : 12 ≡ n = cc in omega arith
some_fault (PassError.StillOffered at) n v e z = let k : 13 ≡ n = cc in omega arith
some_fault (PassError.BadWord at) n v e z = let k : 3 ≡ n = cc in omega arith
some_fault (PassError.NoRoom k) n v e z = let k : 2 ≡ n = cc in omega arith

module _ (bytes : List ℕ) (at : ℕ) (p : Passage) where
  -- no byte is left, or no entry can be read
  pub ends_none : Reads bytes at (Ok None) → Stops bytes at p (said_of (told p))
  ends_none reads = ends_left bytes at p nothing _ (walked bytes at (Ok None) reads) refl

  pub ends_unread : (x : ReadError) → Reads bytes at (Err x) → Stops bytes at p (said_passed (Err (told_as x)))
  ends_unread (ReadError.UnknownKind y) reads =
      let w = walked bytes at (Err (ReadError.UnknownKind y)) reads in
      ends_left bytes at p unknown_kind _ w.0 (rw w.1)
  ends_unread (ReadError.CutShort y) reads =
      let w = walked bytes at (Err (ReadError.CutShort y)) reads in
      ends_left bytes at p cut_short _ w.0 (rw w.1)

  -- or an entry with a fault stands there
  pub ends_judged : (e : Entry) (n : ℕ) → Reads bytes at (Ok (Some (e, n))) → (s : Standing) → s ≡ p.standing → (y : PassError) → Judges s e at (Err y) →
      Stops bytes at p (said_passed (Err y))
  ends_judged e n reads s is y says =
      ends_fault bytes at p e n (walked bytes at (Ok (Some (e, n))) reads) (fault_of s e) _ (some_fault y _ _ says) (ap (λ (t : Standing). fault_of t e) is) (sym says)
