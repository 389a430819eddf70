-- A run: words printed in one case, up to a shift to the other; and one run after the other. Assumes nothing.
use Rattle.std.specs.Prelude.{◌≡◌, ◌⊎◌, List, ◌++◌, ℕ, ◌≤◌, ◌<◌, length, get_or, drop}
use Rattle.laws.specs.Room.{Wrote}
use Rattle.signals.specs.declared.Case.{Case}
use Rattle.text.specs.Printing.{printed, ends_printed}
use Rattle.signals.specs.Cases.{shift_to, other}
use Rattle.printing.specs.declared.Reached.{Reached}

-- the words from `at` to where r stands are printed from the case c: `put`, and nothing else, is stored in the room from `to` to r's
-- place, and the rest of the list, from r's case, prints the rest and ends as the whole does
pub record Going (c : Case) (ws : List ℕ) (at : ℕ) (out : List ℕ) (to : ℕ) (r : Reached) (after : List ℕ) : Type 0 where
  pub from : at ≤ r.at
  pub within : r.at ≤ length ws
  pub put : List ℕ
  pub parted : printed c (drop at ws) ≡ put ++ printed r.case (drop r.at ws)
  pub wrote : Wrote out to put r.to after
  pub ends : ends_printed c (drop at ws) ≡ ends_printed r.case (drop r.at ws)

-- the run is over, in its own case: no word is left, or the shift to the other case follows
pub record Ran (c : Case) (ws : List ℕ) (at : ℕ) (out : List ℕ) (to : ℕ) (r : Reached) (after : List ℕ) : Type 0 where
  pub run : Going c ws at out to r after
  pub same : r.case ≡ c
  pub stopped : (r.at ≡ length ws) ⊎ ((r.at < length ws) × (get_or ws r.at 0 ≡ shift_to (other c)))

-- one run or more: where a word was left, at least one is passed
pub record Reaches (c : Case) (ws : List ℕ) (at : ℕ) (out : List ℕ) (to : ℕ) (r : Reached) (after : List ℕ) : Type 0 where
  pub going : Going c ws at out to r after
  pub on : at < length ws → at < r.at

-- no word is left: all that the words print from the case c stands in the room, and the case at the end is told
pub record Typed (c : Case) (ws : List ℕ) (out : List ℕ) (r : Reached) (after : List ℕ) : Type 0 where
  pub all : r.at ≡ length ws
  pub wrote : Wrote out 0 (printed c ws) r.to after
  pub ends : r.case ≡ ends_printed c ws
