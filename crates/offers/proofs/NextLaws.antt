-- What goes next, taken under a number, is `takes` of `mode_a`. Assumes nothing.
use mathlib.Core.Path.{◌≡◌, refl, ap, sym}
use mathlib.Core.Bool.{true, false}
use Rattle.mode_a.specs.declared.Number.{Number}
use Rattle.mode_a.specs.declared.Owed.{Owed}
use Rattle.mode_a.specs.declared.Offer.{Offer}
use Rattle.mode_a.specs.declared.Station.{Station}
use Rattle.mode_a.specs.Answerback.{βββ, figures+?}
use Rattle.mode_a.specs.Step.{holds, takes_offer, takes_by, takes, owing}
use Rattle.offers.specs.Goes.{next_offered, next_of, takes_next}

module _ (s : Station) (n : Number) where
  -- a station that owes nothing is the one that is to owe nothing
  takes_offered : s.owed ≡ Owed.Nothing → (o : Offer) → takes_next s n (next_offered o) ≡ takes_offer s n o
  takes_offered e (Offer.Text w) = ap (λ (x : Owed). holds (owing s x) n w true) (sym e)
  takes_offered e Offer.Over = ap (λ (x : Owed). holds (owing s x) n figures+? true) (sym e)
  takes_offered e Offer.End = refl
  takes_offered e Offer.Nothing = ap (λ (x : Owed). holds (owing s x) n βββ true) (sym e)
  takes_offered e (Offer.Call i) = ap (λ (x : Owed). holds (owing s x) n βββ false) (sym e)
  takes_offered e (Offer.Call3 i) = ap (λ (x : Owed). holds (owing s x) n βββ false) (sym e)

  takes_by_lem : (w : Owed) → s.owed ≡ w → (o : Offer) → takes_next s n (next_of s.own.code w o) ≡ takes_by s n o w
  takes_by_lem Owed.Nothing e o = takes_offered e o
  takes_by_lem (Owed.Back i) e o = refl
  takes_by_lem (Owed.Keep i) e o = refl

  pub takes_next_lem : (o : Offer) → takes_next s n (next_of s.own.code s.owed o) ≡ takes s n o
  takes_next_lem o = takes_by_lem s.owed refl o
