-- The promise of a call that writes into lent room, at each refusal and at success: what it says, and what the room then
-- holds. Encoding and printing differ in the limit and in two numbers alone.
-- Assumes nothing.
use mathlib.Core.Path.{◌≡◌, refl}
use mathlib.Core.Bool.{Bool, true, false}
use mathlib.Core.List.{List}
use Prim.Native.Nat.{ℕ, ◌<◌, ◌≤◌}
use lib.Dec.{ltb}
use lib.ListN.{length}
use native.Mathlib.Omega.{arith}
use borrow.Author.Tests.{lt-ltb, le-ltb, ltb-false}
use Rattle.std.specs.Prelude.{if◌then◌else◌}
use Rattle.laws.specs.Room.{over}
use Rattle.signals.specs.declared.Case.{Case}
use Rattle.signals.specs.Numbers.{Answer, answered, refused}
use Rattle.text.specs.Written.{Written, Counted, counted, leaves}

-- the order of the tests: the limit, the first entry that may not stand, the room
abbrev pub judged : (limit long bad size first room : ℕ) → Written → Answer Written
judged limit long bad size first room w =
    if ltb limit size then refused long limit
    else if ltb first size then refused bad first
    else if ltb room (length w.bytes) then refused 2 (length w.bytes)
    else answered w

-- what was said, and the room afterwards, of a call whose answer is x
abbrev pub Promised : Answer Written → List ℕ → Answer Counted → List ℕ → Type 0
Promised x room said after = (said ≡ counted x) × (after ≡ leaves x room)

module _ (limit long bad size first : ℕ) (room : List ℕ) (w : Written) where
  pub too_long : limit < size → Promised (judged limit long bad size first (length room) w) room (refused long limit) room
  too_long a = rw (lt-ltb limit size a) (refl, refl)

  module _ (a : size ≤ limit) where
    pub bad_entry : (i : ℕ) → i ≡ first → first < size → Promised (judged limit long bad size first (length room) w) room (refused bad i) room
    bad_entry i e b = rw (e, le-ltb limit size a, lt-ltb first size b) (refl, refl)

    module _ (b : size ≤ first) (n : ℕ) (e : n ≡ length w.bytes) where
      pub no_room : length room < n → Promised (judged limit long bad size first (length room) w) room (refused 2 n) room
      no_room d =
          rw (e, le-ltb limit size a, le-ltb first size b, lt-ltb (length room) (length w.bytes) (rw e at d)) (refl, refl)

      pub all_written : n ≤ length room → (d : Case) → d ≡ w.ends → (after : List ℕ) → after ≡ over w.bytes room → Promised (judged limit long bad size first (length room) w) room (answered (record { count = n; ends = d })) after
      all_written f d g after o =
          rw (e, g, o, le-ltb limit size a, le-ltb first size b, le-ltb (length room) (length w.bytes) (rw e at f)) (refl, refl)

-- where it answered, no test refused
module _ (limit long bad size first room : ℕ) (w t : Written) where
  pub answered_means : judged limit long bad size first room w ≡ answered t → (size ≤ limit) × (size ≤ first) × (length w.bytes ≤ room) × (w ≡ t)
  answered_means e = go (ltb limit size) (ltb first size) (ltb room (length w.bytes)) refl refl refl e
    where
      go : (a b c : Bool) → ltb limit size ≡ a → ltb first size ≡ b → ltb room (length w.bytes) ≡ c → ◌≡◌ {A = Answer Written} (if a then refused long limit else if b then refused bad first else if c then refused 2 (length w.bytes) else answered w) (answered t) → (size ≤ limit) × (size ≤ first) × (length w.bytes ≤ room) × (w ≡ t)
      go true b c p q r e = let z : ◌≡◌ {A = ℕ} 0 1 = cc in absurd (omega arith)
      go false true c p q r e = let z : ◌≡◌ {A = ℕ} 0 1 = cc in absurd (omega arith)
      go false false true p q r e = let z : ◌≡◌ {A = ℕ} 0 1 = cc in absurd (omega arith)
      go false false false p q r e = (ltb-false limit size p, ltb-false first size q, ltb-false room (length w.bytes) r, cc)

-- and where none refuses, it answers
pub judged_answers : (limit long bad size first room : ℕ) (w : Written) → size ≤ limit → size ≤ first → length w.bytes ≤ room → judged limit long bad size first room w ≡ answered w
judged_answers limit long bad size first room w a b c =
    rw (le-ltb limit size a, le-ltb first size b, le-ltb room (length w.bytes) c)
