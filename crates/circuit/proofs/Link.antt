-- What links the two stations of a circuit. The phases are a ring: from S1 through S5 to S1 with the stations exchanged.
--
--     phase   one station        the other
--     S1      Sending (n, b)     Receiving n: it has not accepted b.  Receiving the other number: it has
--     S2      Sending (n, b)     Asking, and has accepted b
--     S3      Turning            Asking
--     S4      Turning            Opening
--     S5      Receiving k        Opening
--     E1      Ending             Receiving
--     E2      Ending             Stand-by
--     E3      Receiving          Stand-by
--     E4      Stand-by           Stand-by
--
-- A call, and identification behind a call of three blocks (`Calls`):
--     C1      Calling            Stand-by
--     C2      Calling            Receiving k
--     C3      Calling            Answering, before its fourth stage
--     I1      Calling 3          Stand-by
--     I2      Calling 3          Answering
--     I3      Identifying        Answering
--     I4      Identifying 4      Receiving 1
--     I5      Identifying 4      Asking
--     I6      Identifying        Stand-by
--     I7      Stand-by           Answering
--     I8      Stand-by           Asking
--     I9      Ending             Answering
--
-- C1 and C2 lead to S1 or E1 where the call is completed, and to E4 and E3 where it fails. C3 is where the station called has heard the
-- second and the third of its three call blocks, and then takes block 1 of a call of two blocks for the first: it answers CS4, until the
-- one or the other gives up. I1 to I5 lead to S1, E1 or S3 where identification is completed, and by the others to the ends where it is not.
-- A station that is Lost is linked by the place where it was, as if it were still there and all its bursts were damaged.
-- Assumes nothing.
use mathlib.Core.Path.{◌≡◌}
use mathlib.Core.Bool.{Bool, true, false, not, ◌&&◌, ◌||◌}
use mathlib.Core.List.{List, [], ◌∷◌, ◌++◌}
use Prim.Native.Nat.{ℕ}
use lib.Dec.{eqb}
use Rattle.signals.specs.Meaning.{rq, cs3}
use Rattle.identity.specs.declared.Seven.{Seven}
use Rattle.identity.specs.Table3.{is_identity}
use Rattle.identity.specs.Sums.{is_callable7}
use Rattle.mode_a.specs.declared.Role.{Role}
use Rattle.mode_a.specs.declared.Number.{Number}
use Rattle.mode_a.specs.declared.Number.TheVariants.{One, Two}
use Rattle.mode_a.specs.declared.Mark.{Mark}
use Rattle.mode_a.specs.declared.Succession.{Succession}
use Rattle.mode_a.specs.declared.Stage.{Stage}
use Rattle.mode_a.specs.declared.Words.{Words}
use Rattle.mode_a.specs.declared.Held.{Held}
use Rattle.mode_a.specs.declared.Ended.{Ended}
use Rattle.mode_a.specs.declared.Place.{Place}
use Rattle.mode_a.specs.declared.Waiting.{Waiting}
use Rattle.mode_a.specs.declared.Called.{Called}
use Rattle.mode_a.specs.declared.Called3.{Called3}
use Rattle.mode_a.specs.declared.Identified.{Identified}
use Rattle.mode_a.specs.declared.Gathered.{Gathered}
use Rattle.mode_a.specs.declared.Place.TheVariants.{Sending, Turning, Opening, Ending, Receiving, Asking, StandBy, Lost, Calling, Calling3, Identifying, Answering}
use Rattle.mode_a.specs.declared.Station.{Station}
use Rattle.mode_a.specs.declared.Reply.{Reply}
use Rattle.mode_a.specs.Calls.{next_block, next_block3}
use Rattle.mode_a.specs.Identification.{identity_block}
use Rattle.mode_a.specs.Station.{list_of, single, silence, ααα, RQ×3, other, asks_for, marks}
use Rattle.mode_a.specs.Heard.{First, Cs, Cs3, Rq, Else, first_of, is_block, is_words}
use Rattle.mode_a.specs.Rows.{requests, is_last}
use Rattle.std.specs.Prelude.{if◌then◌else◌}
use Rattle.runs.specs.Places.{is_sending}
use Rattle.runs.proofs.LetterLaws.{Lettered}
use Rattle.runs.specs.Circuit.{traffic, signals_in, Direction, Circuit, printed_by}

-- what is owed in a direction: nothing, or the confirmation of a block that the other has not accepted, or has. (What a station owes of an
-- answer-back, the `Owed` of mode A, is another thing, and no part of a phase: where it owes a block, it takes that for the offer's.)
pub data Owed : Type 0 where
  none : Owed
  unheard : Words → Owed
  heard : Words → Owed

abbrev pub held : Number → Words → Held
held n b = record { number = n; block = b }

-- a burst without a letter of table 3a or RQ at its end, one of which every call block has there: no station at Stand-by hears a call in it
abbrev pub no_call : Words → Bool
no_call w = not (is_identity w.2 || eqb w.2 rq)

-- what Answering says first, CS4, RQ or a check-sum: neither CS1, CS2 nor CS3
abbrev pub says_on : First → Bool
says_on (Cs n) = false
says_on Cs3 = false
says_on Rq = true
says_on (Else x) = true

-- The phases of a call and of identification: the station that hears, the station that has sent, and what it sent. In I1 the station at
-- Stand-by has not just heard block 2 of its own four signals, and no block of a call of seven is one: it hears no call of two blocks. In
-- I6 it has heard no call block: three letters begin none.
pub data Calls : Place → Place → Words → Type 0 where
  c1_any : {x : Waiting} {c : Called} {w : Words} → Calls (StandBy x) (Calling c) w
  c1_silence : {x : Waiting} {c : Called} → Calls (Calling c) (StandBy x) silence
  c2_call : {k : Number} {c : Called} {w : Words} → is_block w ≡ false → is_words w ααα ≡ false → Calls (Receiving k) (Calling c) w
  c2_asks : {k : Number} {c : Called} → Calls (Calling c) (Receiving k) (asks_for k)
  c3_call : {g : Gathered} {c : Called} (n : ℕ) → is_last g.stage ≡ false → Calls (Answering g) (Calling c) (next_block c.to n)
  c3_answer : {g : Gathered} {c : Called} {v : ℕ} → is_last g.stage ≡ false → says_on (first_of v) ≡ true →
      Calls (Calling c) (Answering g) (single v)
  i1_call : {x : Waiting} {c : Called3} (n : ℕ) → is_callable7 c.to ≡ true → marks x.heard Two ≡ false →
      Calls (StandBy x) (Calling3 c) (next_block3 c.to n)
  i1_silence : {x : Waiting} {c : Called3} → is_callable7 c.to ≡ true → marks x.heard Two ≡ false →
      Calls (Calling3 c) (StandBy x) silence
  i2_call : {g : Gathered} {c : Called3} (n : ℕ) → is_callable7 c.to ≡ true →
      Calls (Answering g) (Calling3 c) (next_block3 c.to n)
  i2_any : {g : Gathered} {c : Called3} {w : Words} → is_callable7 c.to ≡ true → Calls (Calling3 c) (Answering g) w
  i3_block : {g : Gathered} {i : Identified} (y : Seven) → is_callable7 y ≡ true →
      Calls (Answering g) (Identifying i) (identity_block y i.stage)
  i3_answer : {g : Gathered} {i : Identified} {v : ℕ} → says_on (first_of v) ≡ true → Calls (Identifying i) (Answering g) (single v)
  i4_rqs : {i : Identified} → i.stage ≡ Stage.Four → Calls (Receiving One) (Identifying i) RQ×3
  i4_asks : {i : Identified} → i.stage ≡ Stage.Four → Calls (Identifying i) (Receiving One) (asks_for One)
  i5_rqs : {i : Identified} → i.stage ≡ Stage.Four → Calls Asking (Identifying i) RQ×3
  i5_cs3 : {i : Identified} → i.stage ≡ Stage.Four → Calls (Identifying i) Asking (single cs3)
  i6_block : {x : Waiting} {i : Identified} (y : Seven) → is_callable7 y ≡ true → x.heard ≡ Mark.None → x.heard3 ≡ Succession.None →
      Calls (StandBy x) (Identifying i) (identity_block y i.stage)
  i6_silence : {x : Waiting} {i : Identified} → x.heard ≡ Mark.None → x.heard3 ≡ Succession.None →
      Calls (Identifying i) (StandBy x) silence
  i7_any : {x : Waiting} {g : Gathered} {w : Words} → no_call w ≡ true → Calls (StandBy x) (Answering g) w
  i7_silence : {x : Waiting} {g : Gathered} → Calls (Answering g) (StandBy x) silence
  i8_any : {x : Waiting} {w : Words} → no_call w ≡ true → Calls (StandBy x) Asking w
  i8_silence : {x : Waiting} → Calls Asking (StandBy x) silence
  i9_alphas : {g : Gathered} {e : Ended} → Calls (Answering g) (Ending e) ααα
  i9_any : {g : Gathered} {e : Ended} {w : Words} → Calls (Ending e) (Answering g) w

-- The station that hears, the station that has sent, what it sent, and what is owed to the one and to the other. In S1 with the block
-- accepted, the sender has RQ RQ RQ on the way and not the block: else it would be accepted twice.
pub data Link : Place → Place → Words → Owed → Owed → Type 0 where
  s1_block : {n : Number} {b : Words} → is_block b ≡ true → Link (Receiving n) (Sending (held n b)) b none (unheard b)
  s1_rqs : {n : Number} {b : Words} → is_block b ≡ true → Link (Receiving n) (Sending (held n b)) RQ×3 none (unheard b)
  s1_own : {n : Number} {b : Words} → is_block b ≡ true → Link (Sending (held n b)) (Receiving n) (asks_for n) (unheard b) none
  s1_rqs' : {n : Number} {b : Words} → Link (Receiving (other n)) (Sending (held n b)) RQ×3 none (heard b)
  s1_other : {n : Number} {b : Words} → Link (Sending (held n b)) (Receiving (other n)) (asks_for (other n)) (heard b) none
  s2_rqs : {n : Number} {b : Words} → Link Asking (Sending (held n b)) RQ×3 none (heard b)
  s2_cs3 : {n : Number} {b : Words} → Link (Sending (held n b)) Asking (single cs3) (heard b) none
  s3_any : {n : Number} {w : Words} → Link Asking (Turning n) w none none
  s3_cs3 : {n : Number} → Link (Turning n) Asking (single cs3) none none
  s4_rq : {n : Number} (r : Role) → Link (Turning n) Opening (requests r) none none
  s4_rqs : {n : Number} → Link Opening (Turning n) RQ×3 none none
  s5_asks : {k : Number} → Link Opening (Receiving k) (asks_for k) none none
  s5_rq : {k : Number} (r : Role) → Link (Receiving k) Opening (requests r) none none
  e1_alphas : {k : Number} {e : Ended} → Link (Receiving k) (Ending e) ααα none none
  e1_any : {k : Number} {e : Ended} {w : Words} → Link (Ending e) (Receiving k) w none none
  e2_any : {e : Ended} {x : Waiting} {w : Words} → Link (Ending e) (StandBy x) w none none
  e2_any' : {e : Ended} {x : Waiting} {w : Words} → no_call w ≡ true → Link (StandBy x) (Ending e) w none none
  e3_silence : {k : Number} {x : Waiting} → Link (Receiving k) (StandBy x) silence none none
  e3_any : {k : Number} {x : Waiting} {w : Words} → no_call w ≡ true → Link (StandBy x) (Receiving k) w none none
  e4_any : {x y : Waiting} {w : Words} → no_call w ≡ true → Link (StandBy x) (StandBy y) w none none
  calls : {x p : Place} {w : Words} → Calls x p w → Link x p w none none

-- what is owed, in the lists of the direction
abbrev pub waiting : Owed → List Words
waiting none = []
waiting (unheard b) = b ∷ []
waiting (heard b) = b ∷ []

abbrev pub ahead : Owed → List Words
ahead none = []
ahead (unheard b) = []
ahead (heard b) = b ∷ []

pub record Told (o : Owed) (d : Direction) : Type 0 where
  pub taken_is : d.taken ≡ d.confirmed ++ waiting o
  pub accepted_is : d.accepted ≡ d.confirmed ++ ahead o
  pub printed_is : d.printed ≡ signals_in d.accepted

-- a station at a place, or Lost there; and what it then says
pub data At (s : Station) (x : Place) : Type 0 where
  here : s.place ≡ x → At s x
  gone : s.place ≡ Lost → At s x

pub data Says (s : Station) (x : Place) (sent w : Words) : Type 0 where
  aloud : s.place ≡ x → sent ≡ w → Says s x sent w
  no_more : s.place ≡ Lost → sent ≡ silence → Says s x sent w

pub record Linked (c : Circuit) : Type 0 where
  pub hearer_at : Place
  pub sender_at : Place
  pub would_say : Words
  pub owed_hearer : Owed
  pub owed_sender : Owed
  pub link : Link hearer_at sender_at would_say owed_hearer owed_sender
  pub hears : At c.hearer hearer_at
  pub says : Says c.sender sender_at c.burst would_say
  pub hearer_lettered : Lettered c.hearer
  pub sender_lettered : Lettered c.sender
  pub told_hearer : Told owed_hearer c.from_hearer
  pub told_sender : Told owed_sender c.from_sender

-- What a step does to the two directions: what is taken and confirmed in the one, what is accepted and printed in the other.
pub data Moved : Owed → Owed → List Words → List Words → Type 0 where
  stays : {o : Owed} → Moved o o [] []
  takes_block : {b : Words} → Moved none (unheard b) (b ∷ []) []
  confirms : {b : Words} → Moved (heard b) none [] (b ∷ [])
  confirms_and_takes : {b a : Words} → Moved (heard b) (unheard a) (a ∷ []) (b ∷ [])

pub data Came : Owed → Owed → List Words → List ℕ → Type 0 where
  nothing_new : {o : Owed} → Came o o [] []
  came : {b : Words} → Came (unheard b) (heard b) (b ∷ []) (traffic (list_of b))

-- the circuit after the reply of a station that heard: linked again. t tells whether its row takes, and l is the block that it then takes.
pub record After (t : Bool) (l : List Words) (ox op : Owed) (p : Place) (r : Reply) (confirmed accepted : List Words) : Type 0 where
  pub place : Place
  pub word : Words
  pub ox' : Owed
  pub op' : Owed
  pub link : Link p place word op' ox'
  pub says : Says r.station place r.sent word
  pub sends : Moved ox ox' (if t && is_sending r.station.place then l else []) confirmed
  pub hears : Came op op' accepted (printed_by r)
