-- 02, T-05: "The other station's identity is kept while the connection lasts .." 001: "Each station should retain the identity
-- of the other station for the duration of the connection" (3.6.19), "until the station reverts to the 'stand-by' condition" (3.7.1).
--
-- What is easily got wrong: the identity called is not yet at the other end while it is called or identified; and Stand-by forgets it, but
-- keeps which identity is barred.
-- Assumes nothing.
use Rattle.std.specs.Prelude.{◌≡◌, Bool, true, false, ◌||◌}
use Rattle.signals.specs.Numbers.{answered}
use Rattle.mode_a.specs.declared.Peer.{Peer}
use Rattle.mode_a.specs.declared.Peer.TheVariants.{Nobody, Four, Known, Barred}
use Rattle.mode_a.specs.declared.Place.{Place}
use Rattle.mode_a.specs.declared.Station.{Station}
use Rattle.mode_a.specs.declared.Reply.{Reply}
use Rattle.runs.specs.Places.{is_ending, is_stand_by, is_calling, is_calling3, is_identifying, is_answering}
use Rattle.runs.specs.Runs.{Event, Run, said, after}

-- somebody is at the other end, by four signals or by seven
abbrev pub is_known : Peer → Bool
is_known Nobody = false
is_known (Four i) = true
is_known (Known i) = true
is_known (Barred i) = false

abbrev pub is_barred : Peer → Bool
is_barred Nobody = false
is_barred (Four i) = false
is_barred (Known i) = false
is_barred (Barred i) = true

-- before traffic: a call is placed or answered, and nobody has been identified yet
abbrev pub before_traffic : Place → Bool
before_traffic p = is_calling p || is_calling3 p || is_identifying p || is_answering p

-- of every run from a station with nobody at the other end, as all fresh ones are
pub record Remembers (from : Station) (run : Run) : Type 0 where
  -- "kept while the connection lasts": whoever is at the other end stays there at every step that does not go to Stand-by
  pub kept : (e : Event) (r : Reply) → said (after from run) e ≡ answered r → is_known (after from run).other ≡ true → is_stand_by r.station.place ≡ false → r.station.other ≡ (after from run).other
  -- Stand-by forgets it
  pub forgotten : is_stand_by (after from run).place ≡ true → is_known (after from run).other ≡ false
  -- and until traffic there is nobody
  pub nobody_yet : before_traffic (after from run).place ≡ true → (after from run).other ≡ Nobody
  -- an identity is barred at Stand-by, and before that at Ending: where the end procedure answers CS5
  pub barred_where : is_barred (after from run).other ≡ true → is_stand_by (after from run).place || is_ending (after from run).place ≡ true
