-- The first word of an offer that may not stand there, and the first signal of a call that is outside table 3a. Assumes nothing.
use Rattle.std.specs.Prelude.{◌++◌, ℕ, ltb, if◌then◌else◌}
use Rattle.signals.specs.Numbers.{first_not}
use Rattle.identity.specs.Table3.{is_identity}
use Rattle.identity.specs.Sums.{signals_of7}
use Rattle.mode_a.specs.declared.Own.{Own}
use Rattle.mode_a.specs.declared.Offer.{Offer}
use Rattle.mode_a.specs.Calls.{signals_of}
use Rattle.mode_a.specs.Station.{list_of}
use Rattle.mode_a.specs.Heard.{may_hold}

-- 3 where all may stand, or the offer has no words
abbrev pub bad_offer : Offer → ℕ
bad_offer (Offer.Text w) = first_not may_hold (list_of w)
bad_offer Offer.Over = 3
bad_offer Offer.End = 3
bad_offer Offer.Nothing = 3
bad_offer (Offer.Call i) = 3
bad_offer (Offer.Call3 i) = 3

-- 14 where none is outside, or no call is offered. Of a three-block call the own identity is judged behind the one called.
abbrev pub bad_call : Own → Offer → ℕ
bad_call own (Offer.Text w) = 14
bad_call own Offer.Over = 14
bad_call own Offer.End = 14
bad_call own Offer.Nothing = 14
bad_call own (Offer.Call i) = if ltb (first_not is_identity (signals_of i)) 4 then first_not is_identity (signals_of i) else 14
bad_call own (Offer.Call3 i) = first_not is_identity (signals_of7 i ++ signals_of7 own.seven)
