-- No second answer: the promises of `step`, `with_code`, `fresh_master`, `fresh_slave`, `standing_by`, `standing_by_both` and `first_burst`, as their contracts cite them, leave one.
-- Assumes nothing.
use mathlib.Core.Path.{◌≡◌, refl, ap, ap₂, sym, ◌∙◌}
use lib.Dec.{eqb}
use Rattle.std.specs.Prelude.{if◌then◌else◌, Result, Ok, Err}
use Prim.Native.Nat.{ℕ}
use Rattle.laws.proofs.Unique.{unique}
use Rattle.signals.specs.Numbers.{Answer, answered, refused}
use Rattle.mode_a.specs.declared.Words.{Words}
use Rattle.mode_a.specs.declared.Offer.{Offer}
use Rattle.mode_a.specs.declared.Station.{Station}
use Rattle.mode_a.specs.declared.Reply.{Reply}
use Rattle.mode_a.specs.declared.Refused.{Refused}
use Rattle.mode_a.specs.declared.Refusal.{Refusal}
use Rattle.mode_a.specs.declared.Identity.{Identity}
use Rattle.mode_a.specs.declared.BadIdentity.{BadIdentity}
use Rattle.mode_a.specs.declared.Code.{Code}
use Rattle.mode_a.specs.declared.BadCode.{BadCode}
use Rattle.identity.specs.declared.Seven.{Seven}
use Rattle.mode_a.specs.Station.{fresh_master, fresh_slave, first_burst, said_stood, StandsBy, StandsByBoth}
use Rattle.mode_a.specs.Step.{said_refusal, said_stepped, handed_back, Steps, said_coded, coded_back, Codes}

-- a refusal, read back from 01's number and value
abbrev pub refusal_from : ℕ → ℕ → Refusal
refusal_from n v =
    if eqb n 4 then Refusal.BadStation else if eqb n 9 then Refusal.BadCode else if eqb n 3 then Refusal.BadWord v
    else Refusal.BadCall v

-- the answer, read back from 01's number and value and the station handed back
abbrev stepped_from : Answer Reply → Station → Result Reply Refused
stepped_from (answered r) s = Ok r
stepped_from (refused n v) s = Err (record { station = s; why = refusal_from n v })

refused_back : (s : Station) (w : Refusal) → stepped_from (said_refusal w) s ≡ Err (record { station = s; why = w })
refused_back s Refusal.BadStation = refl
refused_back s Refusal.BadCode = refl
refused_back s (Refusal.BadWord i) = refl
refused_back s (Refusal.BadCall i) = refl

stepped_back : (r : Result Reply Refused) → stepped_from (said_stepped r) (handed_back r) ≡ r
stepped_back (Ok r) = refl
stepped_back (Err e) = refused_back e.station e.why

pub step_unique : (s : Station) (b : Words) (o : Offer) (r r' : Result Reply Refused) → Steps s b o r → Steps s b o r' → r ≡ r'
step_unique s b o r r' p q =
    sym (stepped_back r)
    ∙ ap₂ stepped_from (unique p.0 q.0) (unique p.1 q.1)
    ∙ stepped_back r'

abbrev coded_from : Answer Station → Station → Result Station BadCode
coded_from (answered t) s = Ok s
coded_from (refused n v) s = Err (record { 0 = s })

coded_back_lem : (r : Result Station BadCode) → coded_from (said_coded r) (coded_back r) ≡ r
coded_back_lem (Ok s) = refl
coded_back_lem (Err e) = refl

pub with_code_unique : (s : Station) (c : Code) (r r' : Result Station BadCode) → Codes s c r → Codes s c r' → r ≡ r'
with_code_unique s c r r' p q = sym (coded_back_lem r) ∙ ap₂ coded_from (unique p.0 q.0) (unique p.1 q.1) ∙ coded_back_lem r'

pub fresh_master_unique : (r r' : Station) → r ≡ fresh_master → r' ≡ fresh_master → r ≡ r'
fresh_master_unique r r' p q = unique p q

pub fresh_slave_unique : (r r' : Station) → r ≡ fresh_slave → r' ≡ fresh_slave → r ≡ r'
fresh_slave_unique r r' p q = unique p q

pub first_burst_unique : (r r' : Words) → r ≡ first_burst → r' ≡ first_burst → r ≡ r'
first_burst_unique r r' p q = unique p q

abbrev stood_from : Answer Station → Result Station BadIdentity
stood_from (answered s) = Ok s
stood_from (refused n v) = Err (record { 0 = v })

stood_back : (r : Result Station BadIdentity) → stood_from (said_stood r) ≡ r
stood_back (Ok s) = refl
stood_back (Err e) = refl

pub standing_by_unique : (i : Identity) (r r' : Result Station BadIdentity) → StandsBy i r → StandsBy i r' → r ≡ r'
standing_by_unique i r r' p q = sym (stood_back r) ∙ ap stood_from (unique p q) ∙ stood_back r'

pub standing_by_both_unique : (i : Identity) (j : Seven) (r r' : Result Station BadIdentity) → StandsByBoth i j r → StandsByBoth i j r' → r ≡ r'
standing_by_both_unique i j r r' p q = sym (stood_back r) ∙ ap stood_from (unique p q) ∙ stood_back r'
