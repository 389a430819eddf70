-- 01, Numbers returned, for a step, and for the question for its reason: 8, 4, 9, 3, in this order, as in `stepping` and `explaining`; else
-- nothing is refused.  R-243, R-288
-- Assumes nothing.
use Rattle.std.specs.Prelude.{◌≡◌, not, ltb, length, if◌then◌else◌, Result, Ok, Err}
use Rattle.signals.specs.Numbers.{Answer, answered, refused, first_not}
use Rattle.identity.specs.Table3.{is_identity}
use Rattle.mode_a.specs.declared.Offer.{Offer}
use Rattle.mode_a.specs.declared.Station.{Station}
use Rattle.mode_a.specs.declared.Refusal.{Refusal}
use Rattle.mode_a.specs.Heard.{may_hold}
use Rattle.mode_a.specs.Answerback.{passes}
use Rattle.mode_a.specs.Step.{sound, offered, called_to, said_refusal}

unfoldable pub judging : Station → Offer → Answer (Unit {0})
judging s o =
    if ltb (first_not is_identity (called_to s.own o)) (length (called_to s.own o)) then refused 8 (first_not is_identity (called_to s.own o))
    else if not (sound s) then refused 4 0
    else if not (passes s.own.code) then refused 9 0
    else if ltb (first_not may_hold (offered o)) (length (offered o)) then refused 3 (first_not may_hold (offered o))
    else answered tt

abbrev pub said_judged : Result (Unit {0}) Refusal → Answer (Unit {0})
said_judged (Ok u) = answered u
said_judged (Err e) = said_refusal e

-- The promise of `judged`.
abbrev pub Judges : Station → Offer → Result (Unit {0}) Refusal → Type 0
Judges s o r = said_judged r ≡ judging s o
