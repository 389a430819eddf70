-- 01, The station: bursts, numbers, fresh stations; 02, T-02 and T-05: a station at Stand-by; T-06: the empty code.  R-041, R-042, R-043, R-092, R-093, R-094, R-095
--
-- "A station is master or slave, and is at one of these places; the places that send or receive blocks carry their own inner
-- state." "An offer is text (three words), over, end or nothing", or a call (02, T-02 and T-05).  R-044, R-045, R-046: the types Role, Place and Offer of
-- src/lib.rt.
-- Assumes nothing.
use Rattle.std.specs.Prelude.{◌≡◌, Bool, true, false, List, [], ◌∷◌, ◌++◌, ℕ, ltb, if◌then◌else◌, Result, Ok, Err}
use Rattle.signals.specs.declared.Case.TheVariants.{Letters}
use Rattle.signals.specs.Meaning.{alpha, beta, rq, cs1, cs2}
use Rattle.signals.specs.Numbers.{Answer, answered, refused, first_not}
use Rattle.mode_a.specs.declared.Role.TheVariants.{Master, Slave}
use Rattle.mode_a.specs.declared.Number.{Number}
use Rattle.mode_a.specs.declared.Number.TheVariants.{One, Two}
use Rattle.mode_a.specs.declared.Words.{Words}
use Rattle.mode_a.specs.declared.Mark.{Mark}
use Rattle.mode_a.specs.declared.Succession.{Succession}
use Rattle.mode_a.specs.declared.Identity.{Identity}
use Rattle.mode_a.specs.declared.Code.{Code}
use Rattle.mode_a.specs.declared.Own.{Own}
use Rattle.mode_a.specs.declared.Owed.{Owed}
use Rattle.mode_a.specs.declared.Peer.TheVariants.{Nobody}
use Rattle.mode_a.specs.declared.Place.{Place}
use Rattle.mode_a.specs.declared.Place.TheVariants.{Opening, Receiving, StandBy}
use Rattle.mode_a.specs.declared.Station.{Station}
use Rattle.mode_a.specs.declared.BadIdentity.{BadIdentity}
use Rattle.identity.specs.declared.Seven.{Seven}
use Rattle.identity.specs.Table3.{is_identity}
use Rattle.identity.specs.Sums.{signals_of7}
use Rattle.mode_a.specs.Calls.{signals_of}

-- "A burst is three words"  R-041
abbrev pub words : ℕ → ℕ → ℕ → Words
words x y z = record { 0 = x; 1 = y; 2 = z }

abbrev pub list_of : Words → List ℕ
list_of w = w.0 ∷ w.1 ∷ w.2 ∷ []

-- "a single signal is followed by two zero words, silence is three zeros"  R-042, R-043
abbrev pub single : ℕ → Words
single x = words x 0 0

abbrev pub silence : Words
silence = words 0 0 0

abbrev pub βαβ : Words
βαβ = words beta alpha beta

abbrev pub ααα : Words
ααα = words alpha alpha alpha

abbrev pub RQ×3 : Words
RQ×3 = words rq rq rq

-- the other number, and the control signal that asks for a number
abbrev pub other : Number → Number
other One = Two
other Two = One

abbrev pub same : Number → Number → Bool
same One One = true
same One Two = false
same Two One = false
same Two Two = true

abbrev pub asks_for : Number → Words
asks_for One = single cs1
asks_for Two = single cs2

-- which of CS1 and CS2 was heard, and whether it was that of a number
abbrev pub mark_of : Number → Mark
mark_of One = Mark.One
mark_of Two = Mark.Two

abbrev pub marks : Mark → Number → Bool
marks Mark.None n = false
marks Mark.One n = same One n
marks Mark.Two n = same Two n

-- the empty code: "in the absence of an answer-back code" (3.7.13.2)  R-237
abbrev pub no_code : Code
no_code =
    record { length = 0; first = silence; second = silence; third = silence; fourth = silence; fifth = silence; sixth = silence; seventh = silence }

-- a station without an identity, of four signals or of seven, and with the empty code  R-180, R-201, R-095, R-237
abbrev pub no_seven : Seven
no_seven = record { 0 = 0; 1 = 0; 2 = 0; 3 = 0; 4 = 0; 5 = 0; 6 = 0 }

abbrev pub no_identity : Own
no_identity = record { four = record { 0 = 0; 1 = 0; 2 = 0; 3 = 0 }; seven = no_seven; code = no_code }

-- "A fresh master is Opening. A fresh slave is Receiving, awaits 1, and its first burst is CS1. Both start with count 0,
-- letters case and no + heard."  R-092, R-093, R-094, R-095
abbrev pub fresh_master : Station
fresh_master =
    record { role = Master; place = Opening; count = 0; case = Letters; plus = false; own = no_identity; other = Nobody; owed = Owed.Nothing }

abbrev pub fresh_slave : Station
fresh_slave =
    record { role = Slave; place = Receiving One; count = 0; case = Letters; plus = false; own = no_identity; other = Nobody; owed = Owed.Nothing }

abbrev pub first_burst : Words
first_burst = asks_for One

-- 02, T-02: a station at Stand-by with so many steps to wait and none of its own call blocks heard; one that nobody has called yet  R-193
abbrev pub resting : ℕ → Place
resting n = StandBy (record { wait = n; heard = Mark.None; heard3 = Succession.None })

abbrev pub fresh_at : Own → Station
fresh_at i =
    record { role = Slave; place = resting 0; count = 0; case = Letters; plus = false; own = i; other = Nobody; owed = Owed.Nothing }

-- "8, an identity signal outside table 3a": the index of the first beside it  R-193
unfoldable pub standing : Identity → Answer Station
standing i =
    if ltb (first_not is_identity (signals_of i)) 4 then refused 8 (first_not is_identity (signals_of i))
    else answered (fresh_at (record { four = i; seven = no_seven; code = no_code }))

-- "Refusals: 8 also for a self-identity": with both identities, the index over the four signals and then the seven  R-225
unfoldable pub standing_both : Identity → Seven → Answer Station
standing_both i j =
    if ltb (first_not is_identity (signals_of i ++ signals_of7 j)) 11 then refused 8 (first_not is_identity (signals_of i ++ signals_of7 j))
    else answered (fresh_at (record { four = i; seven = j; code = no_code }))

abbrev pub said_stood : Result Station BadIdentity → Answer Station
said_stood (Ok s) = answered s
said_stood (Err e) = refused 8 e.0

-- The promise of `standing_by`: r is the answer for the identity i; and of `standing_by_both`, for i and j.
abbrev pub StandsBy : Identity → Result Station BadIdentity → Type 0
StandsBy i r = said_stood r ≡ standing i

abbrev pub StandsByBoth : Identity → Seven → Result Station BadIdentity → Type 0
StandsByBoth i j r = said_stood r ≡ standing_both i j
