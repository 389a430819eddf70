-- 02, T-07: a record, said by how its entries are written and not by how it is read. Every byte string splits in one such way, and
-- `record_of` is that way (`ReadBackLaws`).  R-248, R-249
-- Assumes nothing.
use Rattle.std.specs.Prelude.{◌⊎◌, ◌≡◌, List, [], ◌∷◌, ◌++◌, ℕ, ◌<◌}
use Rattle.entries.specs.declared.Entry.{Entry}
use Rattle.entries.specs.Entries.{written, written_all, Rest, nothing, unknown_kind, cut_short, Record}

-- What is behind the last entry.
--     ended   no byte
--     10      "unknown kind": a byte that is none of 1 to 8, whatever follows
--     11      "body cut short": at least one byte, and at least one more would make an entry of them
pub data Tail : Rest → List ℕ → Type 0 where
  ended : Tail nothing []
  strange : (k : ℕ) (bs : List ℕ) → (k < 1) ⊎ (8 < k) → Tail unknown_kind (k ∷ bs)
  cut : (k : ℕ) (bs : List ℕ) (e : Entry) (m : ℕ) (more : List ℕ) → (k ∷ bs) ++ (m ∷ more) ≡ written e → Tail cut_short (k ∷ bs)

pub record Splits (bytes : List ℕ) (r : Record) : Type 0 where
  pub tail : List ℕ
  pub whole : bytes ≡ written_all r.entries ++ tail
  pub left : Tail r.rest tail
