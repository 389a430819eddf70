-- "earliest bad place and its word", "earliest RQ" (02, T-08): the search stops at the earliest word that fails, and there is no other.
-- R-280, R-281
-- Assumes nothing.
use mathlib.Core.Path.{◌≡◌, refl, sym, ◌∙◌}
use mathlib.Core.Bool.{Bool, true, false, true≢false}
use mathlib.Core.List.{List, [], ◌∷◌}
use Prim.Native.Nat.{ℕ, zero, suc, ◌<◌}
use native.Mathlib.Omega.{arith}
use lib.ListN.{length, get_or}
use Rattle.std.specs.Prelude.{if◌then◌else◌}
use Rattle.signals.specs.Numbers.{first_not}
use Rattle.reasons.specs.Conditions.{Earliest}

module _ (passes : ℕ → Bool) where
  -- every word before the place where the search stops passes, and the word there fails
  stops_behind : (ws : List ℕ) (j : ℕ) → j < first_not passes ws → passes (get_or ws j 0) ≡ true
  unfolding first_not
  stops_behind [] j h = absurd (omega arith)
  stops_behind (x ∷ xs) zero h = go (passes x) h
    where
      go : (t : Bool) → 0 < (if t then suc (first_not passes xs) else 0) → t ≡ true
      go true h = refl
      go false h = absurd (omega arith)
  stops_behind (x ∷ xs) (suc j) h = stops_behind xs j (go (passes x) h)
    where
      go : (t : Bool) → suc j < (if t then suc (first_not passes xs) else 0) → j < first_not passes xs
      go true h = omega arith
      go false h = absurd (omega arith)

  stops_at : (ws : List ℕ) → first_not passes ws < length ws → passes (get_or ws (first_not passes ws) 0) ≡ false
  unfolding first_not
  stops_at [] h = absurd (omega arith)
  stops_at (x ∷ xs) h = go (passes x) refl h (stops_at xs)
    where
      go : (t : Bool) → passes x ≡ t → (if t then suc (first_not passes xs) else 0) < suc (length xs) → (first_not passes xs < length xs → passes (get_or xs (first_not passes xs) 0) ≡ false) → passes (get_or (x ∷ xs) (if t then suc (first_not passes xs) else 0) 0) ≡ false
      go true e h later = later (omega arith)
      go false e h later = e

  pub found_earliest : (ws : List ℕ) → first_not passes ws < length ws → Earliest passes ws (first_not passes ws) (get_or ws (first_not passes ws) 0)
  found_earliest ws h = record { within = h; word = refl; fails = stops_at ws h; before = stops_behind ws }

  pub earliest_found : (ws : List ℕ) (i w : ℕ) → Earliest passes ws i w → first_not passes ws ≡ i
  earliest_found ws i w e = omega (arith, none_later, none_sooner)
    where
      none_later : ¬ (i < first_not passes ws)
      none_later h = true≢false (sym (stops_behind ws i h) ∙ rw e.word e.fails)

      none_sooner : ¬ (first_not passes ws < i)
      none_sooner h = true≢false (sym (e.before (first_not passes ws) h) ∙ stops_at ws (omega (arith, e.within)))
