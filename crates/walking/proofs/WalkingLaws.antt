-- The walk over a record: at each place it stands where the passage so far does, and what is left of the record leads where the whole does.
-- Assumes nothing.
use mathlib.Core.Path.{◌≡◌, refl, ap, sym, ◌∙◌}
use mathlib.Core.Bool.{Bool, true, false}
use mathlib.Core.List.{List, []}
use Prim.Native.Nat.{ℕ, ◌-◌, ◌<◌, ◌^◌}
use native.Mathlib.Omega.{arith}
use lib.ListN.{length}
use Rattle.std.specs.Prelude.{Some, Ok}
use Rattle.text.specs.Printing.{printed}
use Rattle.runs.specs.Circuit.{after}
use Rattle.entries.specs.declared.Entry.{Entry}
use Rattle.entries.specs.Passage.{Passage, begins, tells, told}
use Rattle.entries.specs.Passing.{Passed, said_passed, outcome_from}
use Rattle.entries.proofs.WalkLaws.{walked, Next}
use Rattle.walking.specs.declared.Walk.{Walk}
use Rattle.walking.specs.Walk.{walk_of, wrote_in, Told, Tells, said_of, outcome_at, passage_at, Leads, Stops, passage_from, Walks}
use Rattle.walking.proofs.RoomLaws.{Within, within_begins, within_tells}
use Rattle.walking.proofs.OutcomeLaws.{outcome_next, passage_next}

pub record Walking (write : Bool) (bytes : List ℕ) (from : ℕ) (m₀ s₀ : List ℕ) (at : ℕ) (w : Walk) (m s : List ℕ) : Type 0 where
  pub here : Passage
  pub so_far : Told here write m₀ s₀ w m s
  pub leads : outcome_from bytes from ≡ outcome_at bytes at here
  pub tells_on : passage_from bytes from ≡ passage_at bytes at here
  pub within : Within at here
  pub in_reach : at < 2 ^ 64

-- before the first entry nothing is written
untouched : (write : Bool) (room : List ℕ) → room ≡ wrote_in write [] room
untouched true room = refl
untouched false room = refl

begun : (write : Bool) (bytes : List ℕ) (from : ℕ) (m s : List ℕ) → from < 2 ^ 64 → Walking write bytes from m s from (walk_of begins) m s
unfolding outcome_from passage_from after printed
begun write bytes from m s h =
    record {
      here = begins;
      so_far = record { stands = refl; master_room = untouched write m; slave_room = untouched write s };
      leads = refl;
      tells_on = refl;
      within = within_begins from;
      in_reach = h;
    }

pub walking_begins : (write : Bool) (bytes : List ℕ) (from : ℕ) (m s : List ℕ) → from < 2 ^ 64 → (w : Walk) → w ≡ walk_of begins → Walking write bytes from m s from w m s
walking_begins write bytes from m s h w e = rw e (begun write bytes from m s h)

module _ (write : Bool) (bytes : List ℕ) (from : ℕ) (m₀ s₀ : List ℕ) (at : ℕ) (w : Walk) (m s : List ℕ) (g : Walking write bytes from m₀ s₀ at w m s) where
  -- where the passage so far stands, so does the walk
  pub standing_here : w.state.standing ≡ g.here.standing
  standing_here = ap (λ (v : Walk). v.state.standing) g.so_far.stands

  -- an entry is told, and a byte at least is passed
  module _ (e : Entry) (next : ℕ) (on : Leads bytes at g.here e next) where
    behind : Next bytes at e next
    behind = walked bytes at (Ok (Some (e, next))) on.found

    pub walking_less : length bytes - next < length bytes - at
    walking_less = omega (arith, behind.further, behind.within)

    pub walking_tells : length bytes < 2 ^ 64 → (v : Walk) (m' s' : List ℕ) → Tells w e write m s v m' s' → Walking write bytes from m₀ s₀ next v m' s'
    walking_tells h v m' s' tell =
        record {
          here = tells g.here e;
          so_far = tell g.here m₀ s₀ g.so_far;
          leads = g.leads ∙ outcome_next bytes at g.here e next behind on.faultless;
          tells_on = g.tells_on ∙ passage_next bytes at g.here e next behind on.faultless;
          within = rw behind.place (within_tells g.here e at g.within);
          in_reach = omega (arith, behind.within);
        }

  -- the record leads no further
  pub walking_ends : Stops bytes at g.here (said_of (told g.here)) → Walks write bytes from m₀ s₀ (Ok (record { master = w.master.to; slave = w.slave.to })) m s
  walking_ends h =
      let p : passage_from bytes from ≡ g.here = g.tells_on ∙ h.stays in
      let answer : Walk → Passed = λ v. Ok (record { master = v.master.to; slave = v.slave.to }) in
      (ap (λ (v : Walk). said_passed (answer v)) g.so_far.stands ∙ sym h.says ∙ sym (ap said_of g.leads), rw p g.so_far.master_room, rw p g.so_far.slave_room)
