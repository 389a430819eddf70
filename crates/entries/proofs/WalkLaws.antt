-- The record from a place on, by what `entry_at` finds there (02, T-07): what a walk from one entry to the next goes by.
-- Assumes nothing.
use mathlib.Core.Path.{◌≡◌, refl, ap, sym, ◌∙◌}
use mathlib.Core.List.{List, [], ◌∷◌, ◌++◌}
use Prim.Native.Nat.{ℕ, ◌+◌, ◌≤◌, ◌<◌}
use native.Mathlib.Omega.{arith}
use lib.ListN.{length, drop, length-append, length-drop}
use lib.Seq.{drop-drop, drop-append_seam}
use Rattle.std.specs.Prelude.{Some, None, Ok, Err}
use Rattle.entries.specs.declared.Entry.{Entry}
use Rattle.entries.specs.declared.ReadError.{ReadError}
use Rattle.entries.specs.Entries.{body_of, written, Begun, Rest, nothing, unknown_kind, cut_short, followed_by, record_of, Read, found_at, found_in, Reads}
use Rattle.entries.specs.ReadBack.{ended}
use Rattle.entries.proofs.ReadBackLaws.{Begins, an_entry, no_kind, no_body, begins, tail_read, record_written}

-- no entry is left from a place on, and why
abbrev pub Left : List ℕ → ℕ → Rest → Type 0
Left bytes at r = record_of (drop at bytes) ≡ record { entries = []; rest = r }

-- an entry stands there, and the place past it is in the record, or its end
pub record Next (bytes : List ℕ) (at : ℕ) (e : Entry) (next : ℕ) : Type 0 where
  pub place : next ≡ at + length (written e)
  pub further : at < next
  pub within : next ≤ length bytes
  pub reads : record_of (drop at bytes) ≡ followed_by e (record_of (drop next bytes))

abbrev pub Walked : List ℕ → ℕ → Read → Type 0
Walked bytes at (Ok (Some x)) = Next bytes at x.0 x.1
Walked bytes at (Ok None) = Left bytes at nothing
Walked bytes at (Err (ReadError.UnknownKind x)) = Left bytes at unknown_kind × (x ≡ at)
Walked bytes at (Err (ReadError.CutShort x)) = Left bytes at cut_short × (x ≡ at)

module _ (bytes : List ℕ) (at : ℕ) where
  walked_past : (e : Entry) (more : List ℕ) → drop at bytes ≡ written e ++ more → Next bytes at e (at + length (written e))
  walked_past e more w =
      let rest : drop (at + length (written e)) bytes ≡ more = sym (drop-drop (length (written e)) at bytes) ∙ rw w (drop-append_seam (written e) more) in
      record {
        place = refl;
        further = omega arith;
        within = omega (arith, simp (length-drop, length-append) at (ap length w));
        reads = rw (w, rest) (record_written e more);
      }

  walked_begun : (k : ℕ) (bs : List ℕ) → drop at bytes ≡ k ∷ bs → {g : Begun} → Begins k bs g → Walked bytes at (found_at g at)
  walked_begun k bs d (an_entry e w) = walked_past e (drop (length (body_of e)) bs) (d ∙ w)
  walked_begun k bs d (no_kind t) = (rw d (tail_read t), refl)
  walked_begun k bs d (no_body t) = (rw d (tail_read t), refl)

  walked_in : (l : List ℕ) → drop at bytes ≡ l → Walked bytes at (found_in l at)
  walked_in [] d = rw d (tail_read ended)
  walked_in (k ∷ bs) d = walked_begun k bs d (begins k bs)

  pub walked : (r : Read) → Reads bytes at r → Walked bytes at r
  walked r q = rw q (walked_in (drop at bytes) refl)
