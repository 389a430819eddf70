-- The first signal outside table 3a of two identities in a row; the promises of stations at Stand-by.
-- Assumes nothing.
use mathlib.Core.Path.{◌≡◌, refl, sym, ◌∙◌}
use mathlib.Core.Bool.{Bool, true, false}
use mathlib.Core.List.{List, ◌++◌}
use Prim.Native.Nat.{ℕ, suc, ◌+◌, ◌<◌, ◌≤◌}
use native.Mathlib.Omega.{arith}
use lib.Dec.{ltb}
use borrow.Author.Tests.{lt-ltb, le-ltb}
use Rattle.std.specs.Prelude.{if◌then◌else◌, Ok, Err}
use Rattle.signals.specs.Numbers.{first_not}
use Rattle.identity.specs.declared.Seven.{Seven}
use Rattle.identity.specs.Table3.{is_identity}
use Rattle.identity.specs.Sums.{signals_of7}
use Rattle.mode_a.specs.declared.Identity.{Identity}
use Rattle.mode_a.specs.Calls.{signals_of}
use Rattle.mode_a.specs.Station.{no_seven, fresh_at, standing, standing_both, StandsBy, StandsByBoth, no_code}

-- behind four signals that are all of table 3a the count goes on
pub outside_both : (i : Identity) (r : List ℕ) → first_not is_identity (signals_of i ++ r) ≡ (if ltb (first_not is_identity (signals_of i)) 4 then first_not is_identity (signals_of i) else 4 + first_not is_identity r)
unfolding first_not
outside_both i r = go (is_identity i.0) (is_identity i.1) (is_identity i.2) (is_identity i.3) (first_not is_identity r)
  where
    go : (a b c d : Bool) (n : ℕ) → (if a then suc (if b then suc (if c then suc (if d then suc n else 0) else 0) else 0) else 0) ≡ (if ltb (if a then suc (if b then suc (if c then suc (if d then suc 0 else 0) else 0) else 0) else 0) 4 then (if a then suc (if b then suc (if c then suc (if d then suc 0 else 0) else 0) else 0) else 0) else 4 + n)
    go true true true true n = omega arith
    go true true true false n = refl
    go true true false d n = refl
    go true false c d n = refl
    go false b c d n = refl

-- the promise of `standing_by` at each answer: n is the index of the first signal outside, 4 where there is none
module _ (i : Identity) (n : ℕ) (e : n ≡ first_not is_identity (signals_of i)) where
  pub outside : n < 4 → StandsBy i (Err (record { 0 = n }))
  unfolding standing
  outside h = rw (lt-ltb (first_not is_identity (signals_of i)) 4 (rw e at h), e)

  pub stands : 4 ≤ n → StandsBy i (Ok (fresh_at (record { four = i; seven = no_seven; code = no_code })))
  unfolding standing
  stands h = rw (le-ltb (first_not is_identity (signals_of i)) 4 (rw e at h))

-- and of `standing_by_both`: n is that of the four signals, m of the seven
module _ (i : Identity) (j : Seven) (n : ℕ) (e : n ≡ first_not is_identity (signals_of i)) where
  first : n < 4 → first_not is_identity (signals_of i ++ signals_of7 j) ≡ n
  first h = outside_both i (signals_of7 j) ∙ rw (lt-ltb (first_not is_identity (signals_of i)) 4 (rw e at h)) (sym e)

  pub outside_four : n < 4 → StandsByBoth i j (Err (record { 0 = n }))
  unfolding standing_both
  outside_four h = rw (first h, lt-ltb n 11 (omega (arith, h)))

  module _ (h : 4 ≤ n) (m : ℕ) (f : m ≡ first_not is_identity (signals_of7 j)) where
    second : first_not is_identity (signals_of i ++ signals_of7 j) ≡ 4 + m
    second = outside_both i (signals_of7 j) ∙ rw (le-ltb (first_not is_identity (signals_of i)) 4 (rw e at h), f)

    pub outside_seven : m < 7 → StandsByBoth i j (Err (record { 0 = 4 + m }))
    unfolding standing_both
    outside_seven l = rw (second, lt-ltb (4 + m) 11 (omega (arith, l)))

    pub stands_both : 7 ≤ m → StandsByBoth i j (Ok (fresh_at (record { four = i; seven = j; code = no_code })))
    unfolding standing_both
    stands_both l = rw (second, le-ltb (4 + m) 11 (omega (arith, l)))
