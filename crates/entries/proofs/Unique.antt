-- No second answer: the promise of `passing::passage`, as its contract cites it, leaves one answer and one content of each lent room.
-- Assumes nothing.
use mathlib.Core.Path.{◌≡◌, refl}
use mathlib.Core.List.{List}
use Prim.Native.Nat.{ℕ}
use lib.Dec.{eqb}
use Rattle.std.specs.Prelude.{if◌then◌else◌, Ok, Err}
use Rattle.laws.proofs.Unique.{unique, unique_by}
use Rattle.signals.specs.Numbers.{Answer, answered, refused}
use Rattle.entries.specs.declared.PassError.{PassError}
use Rattle.entries.specs.Passing.{Counts, Passed, said_passed, Passes}

-- the answer, read back from its number and value
abbrev pub passed_from : Answer Counts → Passed
passed_from (answered k) = Ok (record { master = k.master; slave = k.slave })
passed_from (refused n v) =
    if eqb n 10 then Err (PassError.UnknownKind v)
    else if eqb n 11 then Err (PassError.CutShort v)
    else if eqb n 12 then Err (PassError.BadBurst v)
    else if eqb n 13 then Err (PassError.StillOffered v)
    else if eqb n 3 then Err (PassError.BadWord v)
    else Err (PassError.NoRoom v)

pub passed_back : (r : Passed) → passed_from (said_passed r) ≡ r
passed_back (Ok p) = refl
passed_back (Err (PassError.UnknownKind at)) = refl
passed_back (Err (PassError.CutShort at)) = refl
passed_back (Err (PassError.BadBurst at)) = refl
passed_back (Err (PassError.StillOffered at)) = refl
passed_back (Err (PassError.BadWord at)) = refl
passed_back (Err (PassError.NoRoom n)) = refl

pub passage_unique : (bytes m s : List ℕ) (r r' : Passed) (m' m'' s' s'' : List ℕ) → Passes bytes m s r m' s' → Passes bytes m s r' m'' s'' → (r ≡ r') × (m' ≡ m'') × (s' ≡ s'')
passage_unique bytes m s r r' m' m'' s' s'' p q =
    (unique_by said_passed passed_from passed_back p.0 q.0, unique p.1 q.1, unique p.2 q.2)
