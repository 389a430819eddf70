-- A call of three blocks from one station to another, phase by phase: i is the identity called, y the caller's own.
--     Caller   it calls, or tells its own identity, and has a call block or the block of its stage on the way
--     Callee   it stands by, what it has heard being blocks of i; or it answers, at the caller's stage or one ahead, has gathered of y what
--              was told before, and says so; or it has been told all, and begins traffic; or it is Lost
--     InCall   the one or the other hears; nothing is carried
-- Whoever leaves the call is at Stand-by: LeftLaws.
-- Assumes nothing.
use mathlib.Core.Path.{◌≡◌}
use mathlib.Core.Bool.{Bool, true, false}
use mathlib.Core.List.{[]}
use Prim.Native.Nat.{ℕ}
use lib.Dec.{leb}
use Rattle.signals.specs.declared.Case.TheVariants.{Letters}
use Rattle.signals.specs.Meaning.{rq, cs3, cs4}
use Rattle.identity.specs.declared.Seven.{Seven}
use Rattle.identity.specs.Sums.{check_sum1, check_sum2, check_sum3}
use Rattle.mode_a.specs.declared.Role.TheVariants.{Master, Slave}
use Rattle.mode_a.specs.declared.Number.TheVariants.{One, Two}
use Rattle.mode_a.specs.declared.Succession.{Succession}
use Rattle.mode_a.specs.declared.Stage.{Stage}
use Rattle.mode_a.specs.declared.Waiting.{Waiting}
use Rattle.mode_a.specs.declared.Words.{Words}
use Rattle.mode_a.specs.declared.Peer.TheVariants.{Known}
use Rattle.mode_a.specs.declared.Place.{Place}
use Rattle.mode_a.specs.declared.Place.TheVariants.{Receiving, Asking, StandBy, Lost, Calling3, Identifying, Answering}
use Rattle.mode_a.specs.declared.Offer.{Offer}
use Rattle.mode_a.specs.declared.Owed.{Owed}
use Rattle.mode_a.specs.declared.Station.{Station}
use Rattle.mode_a.specs.declared.Reply.{Reply}
use Rattle.mode_a.specs.Identification.{identity_block, with_1, with_2}
use Rattle.mode_a.specs.Station.{single, silence, asks_for, marks, no_seven}
use Rattle.mode_a.specs.Heard.{first_of}
use Rattle.mode_a.specs.Rows.{is_last}
use Rattle.runs.specs.Runs.{taking, next_stage}
use Rattle.runs.specs.Taken.{taken_if}
use Rattle.runs.specs.Circuit.{nothing_yet, Circuit, confirmed_by, accepted_by, answered_by}
use Rattle.circuit.proofs.CallStepLaws.{asked}
use Rattle.known.proofs.BlockLaws.{CallBlock, SameSo}

-- what the caller does
pub data Telling : Type 0 where
  calls : Telling
  tells : Stage → Telling

pub data CallerAt (i : Seven) (p : Place) : Telling → Type 0 where
  at_calling_lem : (n : ℕ) → p ≡ Calling3 (record { to = i; sent = n }) → CallerAt i p calls
  at_telling : (s : Stage) (k l : ℕ) → p ≡ Identifying (record { to = i; stage = s; wrong = k; last = l }) → CallerAt i p (tells s)

pub record Caller (i y : Seven) (u : Telling) (s : Station) : Type 0 where
  pub at : CallerAt i s.place u
  pub role_is : s.role ≡ Master
  pub case_is : s.case ≡ Letters
  pub plus_is : s.plus ≡ false
  pub owed_is : s.owed ≡ Owed.Nothing
  pub own_is : s.own.seven ≡ y

-- what it has on the way
pub data Bursts (i y : Seven) (w : Words) : Telling → Type 0 where
  call_block : CallBlock i w → Bursts i y w calls
  identity_block_lem : (s : Stage) → w ≡ identity_block y s → Bursts i y w (tells s)

-- the check-sum that answers the block of a stage, and what is gathered before it
abbrev pub sum_of : Stage → Seven → ℕ
sum_of Stage.One i = check_sum1 i
sum_of Stage.Two i = check_sum2 i
sum_of Stage.Three i = check_sum3 i
sum_of Stage.Four i = 0

abbrev pub gathered : Seven → Stage → Seven
gathered y Stage.One = no_seven
gathered y Stage.Two = with_1 no_seven y.0 y.1
gathered y Stage.Three = with_2 (with_1 no_seven y.0 y.1) y.2 y.3
gathered y Stage.Four = y

abbrev pub answering_at : Seven → Stage → Place
answering_at y t = Answering (record { stage = t; got = gathered y t })

-- What Answering says at its stage t, by what the caller does. That one tells the block of t, and it has not been heard; or still the block
-- before, which has been answered by its check-sum, and what was heard since by RQ or by the check-sum once more.
pub data Says (i : Seven) : Telling → Stage → ℕ → Type 0 where
  asks_calling : Says i calls Stage.One cs4
  asks_here : (s : Stage) → Says i (tells s) s (asked s)
  asks_behind : (s : Stage) → is_last s ≡ false → Says i (tells s) (next_stage s) rq
  sums : (s : Stage) → is_last s ≡ false → Says i (tells s) (next_stage s) (sum_of s i)

-- where identification is over at the slave: Asking where over was offered, or Receiving
abbrev pub met_at : Bool → Place
met_at true = Asking
met_at false = Receiving One

abbrev pub met_by : Bool → Words
met_by true = single cs3
met_by false = asks_for One

pub record Slaved (i : Seven) (s : Station) : Type 0 where
  pub role_is : s.role ≡ Slave
  pub case_is : s.case ≡ Letters
  pub plus_is : s.plus ≡ false
  pub owed_is : s.owed ≡ Owed.Nothing
  pub own_is : s.own.seven ≡ i

-- what Stand-by has heard, with the own identity x
abbrev pub Listened : Seven → Telling → Seven → Succession → Type 0
Listened i calls x h = SameSo i x h
Listened i (tells s) x h = h ≡ Succession.None

pub data Callee (i y : Seven) (s : Station) : Telling → Words → Type 0 where
  standing : {u : Telling} (x : Waiting) → s.place ≡ StandBy x → marks x.heard Two ≡ false → Listened i u s.own.seven x.heard3 →
      Callee i y s u silence
  answering : {u : Telling} (t : Stage) (v : ℕ) → Says i u t v → Slaved i s → s.place ≡ answering_at y t → Callee i y s u (single v)
  meeting : (t : Bool) → Slaved i s → s.place ≡ met_at t → s.other ≡ Known y → leb s.count 31 ≡ true →
      Callee i y s (tells Stage.Four) (met_by t)
  lost : {u : Telling} → s.place ≡ Lost → Callee i y s u silence

pub record NothingCarried (c : Circuit) : Type 0 where
  pub from_hearer_is : c.from_hearer ≡ nothing_yet
  pub from_sender_is : c.from_sender ≡ nothing_yet

pub data InCall (i y : Seven) (c : Circuit) : Type 0 where
  hears_caller : {w : Words} (u : Telling) → Callee i y c.hearer u w → Caller i y u c.sender → Bursts i y c.burst u →
      NothingCarried c → InCall i y c
  hears_callee : (u : Telling) → Caller i y u c.hearer → Callee i y c.sender u c.burst → NothingCarried c → InCall i y c

-- a step that carries nothing
abbrev pub Carries : Station → Words → Offer → Reply → Type 0
Carries s b o r =
    (taken_if (taking s.place (first_of b.0)) s o r ≡ []) × (confirmed_by s b ≡ []) × (accepted_by s b ≡ []) × (r.printed ≡ silence)

pub still_none : (c : Circuit) (o : Offer) (b : Words) (r : Reply) → NothingCarried c → Carries c.hearer b o r → NothingCarried (answered_by c o b r)
still_none c o b r n (t, f, a, p) =
    record { from_hearer_is = rw (n.from_sender_is, a, p); from_sender_is = rw (n.from_hearer_is, t, f) }
