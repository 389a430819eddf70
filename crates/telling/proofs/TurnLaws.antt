-- Whose burst is on the way after one was heard. Assumes nothing.
use mathlib.Core.Path.{◌≡◌, refl, ap}
use mathlib.Core.Bool.{Bool, true, false}
use Rattle.std.specs.Prelude.{if◌then◌else◌}
use Rattle.signals.specs.Numbers.{answered}
use Rattle.mode_a.specs.declared.Role.{Role}
use Rattle.mode_a.specs.declared.Role.TheVariants.{Master, Slave}
use Rattle.mode_a.specs.declared.Offer.{Offer}
use Rattle.mode_a.specs.declared.Reply.{Reply}
use Rattle.entries.specs.declared.Standing.{Standing}
use Rattle.entries.specs.Entries.{other_role}
use Rattle.entries.specs.Passage.{offering, hearing, turned, answered_to}

-- an offer leaves the turn
pub same_turn : (s : Standing) (r : Role) (o : Offer) → (offering s r o).turn ≡ s.turn
same_turn s Master o = refl
same_turn s Slave o = refl

pub other_turn : (s : Standing) (x : Reply) → (answered_to s (answered x)).turn ≡ hearing s
other_turn s x = go x.taken
  where
    go : (t : Bool) → (turned (if t then offering s (hearing s) Offer.Nothing else s)).turn ≡ hearing s
    go true = ap other_role (same_turn s (hearing s) Offer.Nothing)
    go false = refl
