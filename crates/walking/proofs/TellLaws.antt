-- An entry is told: what it prints is put behind the text of the station that prints it, and the other's stays. Assumes nothing.
use mathlib.Core.Path.{◌≡◌, ap, ◌∙◌}
use mathlib.Core.Bool.{Bool}
use mathlib.Core.List.{List, [], ◌++◌}
use Prim.Native.Nat.{ℕ, ◌+◌, ◌<◌, ◌^◌}
use Rattle.mode_a.specs.declared.Role.{Role}
use Rattle.mode_a.specs.declared.Role.TheVariants.{Master, Slave}
use Rattle.entries.specs.declared.Entry.{Entry}
use Rattle.entries.specs.Passage.{Passage, tells, signals_of}
use Rattle.typing.specs.declared.Typed.{Typed}
use Rattle.typing.specs.Typing.{MayTypeAll, signals_in, Types}
use Rattle.replay.specs.declared.Gone.{Gone}
use Rattle.replay.specs.declared.State.{State}
use Rattle.replay.specs.Replay.{state_of, GoesTo, Goes}
use Rattle.walking.specs.declared.Walk.{Walk}
use Rattle.walking.specs.Walk.{typed_of, walk_of, MayTell, Tells}
use Rattle.walking.proofs.TypedLaws.{may_put_all, put_on, typed_same, room_same}

-- what a walk has of a station
abbrev typed_in : Walk → Role → Typed
typed_in w Master = w.master
typed_in w Slave = w.slave

typed_at : (w : Walk) (p : Passage) → w ≡ walk_of p → (r : Role) → typed_in w r ≡ typed_of p r
typed_at w p e Master = ap (λ (v : Walk). v.master) e
typed_at w p e Slave = ap (λ (v : Walk). v.slave) e

-- by the one station, and by the other
prints_by_lem : (p q : Passage) (g : Gone) → GoesTo p q g → (r : Role) → g.by ≡ r → signals_of q r ≡ signals_of p r ++ signals_in g.printed
prints_by_lem p q g t Master e = rw e at (t.prints Master)
prints_by_lem p q g t Slave e = rw e at (t.prints Slave)

-- what the call of `put` asks
pub put_asks : (w : Walk) (e : Entry) → MayTell w → (g : Gone) → Goes w.state (λ p. tells p e) g → (r : Role) →
    MayTypeAll g.printed × ((typed_in w r).to + 3 < 2 ^ 64)
put_asks w e may g goes r =
    let t = goes may.from (ap (λ (v : Walk). v.state) may.stands) in
    (may_put_all g.printed t.printable, rw (typed_at w may.from may.stands r) (may.countable r))

-- the walk after it
walk_is : (p : Passage) (x : State) (t u : Typed) → x ≡ state_of p → t ≡ typed_of p Master → u ≡ typed_of p Slave →
    ◌≡◌ {A = Walk} (record { state = x; master = t; slave = u }) (walk_of p)
walk_is p x t u a b c = rw (a, b, c)

module _ (w : Walk) (e : Entry) (write : Bool) (m s : List ℕ) (g : Gone) (goes : Goes w.state (λ p. tells p e) g) where
  pub told_by_master : g.by ≡ Master → (t : Typed) (after : List ℕ) → Types (signals_in g.printed) w.master write m t after →
      Tells w e write m s (record { state = g.state; master = t; slave = w.slave }) after s
  told_by_master by t after typed p m₀ s₀ stood =
      let q = tells p e in
      let go = goes p (ap (λ (v : Walk). v.state) stood.stands) in
      let put = put_on p q Master (signals_in g.printed) (prints_by_lem p q g go Master by) write m₀ m after t stood.master_room (rw (ap (λ (v : Walk). v.master) stood.stands) at typed) in
      let none : signals_of q Slave ≡ signals_of p Slave ++ [] = rw by at (go.prints Slave) in
      record {
        stands = walk_is q g.state t w.slave go.state_is put.0 (ap (λ (v : Walk). v.slave) stood.stands ∙ typed_same p q Slave none);
        master_room = put.1;
        slave_room = room_same p q Slave none write s₀ s stood.slave_room;
      }

  pub told_by_slave : g.by ≡ Slave → (t : Typed) (after : List ℕ) → Types (signals_in g.printed) w.slave write s t after →
      Tells w e write m s (record { state = g.state; master = w.master; slave = t }) m after
  told_by_slave by t after typed p m₀ s₀ stood =
      let q = tells p e in
      let go = goes p (ap (λ (v : Walk). v.state) stood.stands) in
      let put = put_on p q Slave (signals_in g.printed) (prints_by_lem p q g go Slave by) write s₀ s after t stood.slave_room (rw (ap (λ (v : Walk). v.slave) stood.stands) at typed) in
      let none : signals_of q Master ≡ signals_of p Master ++ [] = rw by at (go.prints Master) in
      record {
        stands = walk_is q g.state w.master t go.state_is (ap (λ (v : Walk). v.master) stood.stands ∙ typed_same p q Master none) put.0;
        master_room = room_same p q Master none write m₀ m stood.master_room;
        slave_room = put.1;
      }
