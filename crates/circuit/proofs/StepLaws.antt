-- A step leads from link to link: a row of 01 at a time, in the order of the ring. x is the place of the station that hears, p that
-- of the station that has sent, w what that one sent and b what is heard of it; ox and op are owed to the one and to the other.
--     idle       a station that is Lost leaves the link as it was
--     acts       every link; those of a call are `call_acts`
--     acts_at    every station that is linked, Lost or not
-- Role and number come in once each: what a station at Opening sends, and what asks for a number.
-- Assumes nothing.
use mathlib.Core.Path.{◌≡◌, refl, sym, subst}
use mathlib.Core.Bool.{Bool, true, false}
use mathlib.Core.List.{[], ◌∷◌}
use Rattle.std.specs.Prelude.{if◌then◌else◌}
use Rattle.signals.specs.Meaning.{meaning_of, traffic_of, cs3}
use Rattle.mode_a.specs.declared.Role.{Role}
use Rattle.mode_a.specs.declared.Role.TheVariants.{Master, Slave}
use Rattle.mode_a.specs.declared.Number.{Number}
use Rattle.mode_a.specs.declared.Number.TheVariants.{One, Two}
use Rattle.mode_a.specs.declared.Words.{Words}
use Rattle.mode_a.specs.declared.Ended.{Ended}
use Rattle.mode_a.specs.declared.Place.{Place}
use Rattle.mode_a.specs.declared.Place.TheVariants.{Sending, Turning, Opening, Ending, Receiving, Asking, Lost}
use Rattle.mode_a.specs.declared.Offer.{Offer}
use Rattle.mode_a.specs.declared.Station.{Station}
use Rattle.mode_a.specs.declared.Doing.TheVariants.{Repeats, Goes, Receives, Opens, Accepts, Rests}
use Rattle.mode_a.specs.Station.{single, silence, βαβ, ααα, RQ×3, other, same, asks_for}
use Rattle.mode_a.specs.Heard.{First, Cs, Cs3, Rq, first_of, may_hold, is_block, is_words, heard_of}
use Rattle.mode_a.specs.Over.{listened_all}
use Rattle.mode_a.specs.Rows.{sending, turn_completed, turning_else, opening, requests, row_of}
use Rattle.mode_a.specs.Step.{accepts_heard, done}
use Rattle.runs.specs.Places.{is_stand_by}
use Rattle.runs.specs.Runs.{taking}
use Rattle.runs.proofs.LetterLaws.{lettered_at, Lettered}
use Rattle.runs.proofs.StepLaws.{placed, requests_no_ααα, block_no_ααα}
use Rattle.runs.specs.Circuit.{confirmed_by, accepted_by}
use Rattle.circuit.proofs.DamageLaws.{Mangled, whole_block, no_block, no_words, FirstIs, said, unsaid}
use Rattle.circuit.proofs.Link.{Owed, none, unheard, heard, held, Link, s1_block, s1_rqs, s1_own, s1_rqs', s1_other, s2_rqs, s2_cs3, s3_any, s3_cs3, s4_rq, s4_rqs, s5_asks, s5_rq, e1_alphas, e1_any, e2_any, e2_any', e3_silence, e3_any, e4_any, calls, At, here, gone, aloud, no_more, stays, confirms, nothing_new, After}
use Rattle.circuit.proofs.ReplyLaws.{ααα-signals, βαβ-signals, RQ×3_signals, asks_first, goes, again, owed_nothing, confirmed_now, to_take, Fine, taken, accepted, silence_no_call, alphas_no_call, asks_no_call, first_of_lem, Row, Quiet, not_accepted, ended, not_called}
use Rattle.circuit.proofs.CallStepLaws.{call_idle, call_acts}

-- a station that is Lost leaves the link as it was
pub idle : {x p : Place} {w : Words} {ox op : Owed} → Link x p w ox op → (v : Words) × Link p x v op ox
idle (s1_block i) = (_, s1_own i)
idle (s1_rqs i) = (_, s1_own i)
idle (s1_own i) = (_, s1_rqs i)
idle s1_rqs' = (_, s1_other)
idle s1_other = (_, s1_rqs')
idle s2_rqs = (_, s2_cs3)
idle s2_cs3 = (_, s2_rqs)
idle s3_any = (_, s3_cs3)
idle s3_cs3 = (βαβ, s3_any)
idle (s4_rq r) = (_, s4_rqs)
idle s4_rqs = (_, s4_rq Master)
idle s5_asks = (_, s5_rq Master)
idle (s5_rq r) = (_, s5_asks)
idle e1_alphas = (silence, e1_any)
idle e1_any = (_, e1_alphas)
idle e2_any = (silence, e2_any' silence_no_call)
idle (e2_any' q) = (silence, e2_any)
idle e3_silence = (silence, e3_any silence_no_call)
idle (e3_any q) = (_, e3_silence)
idle (e4_any q) = (silence, e4_any silence_no_call)
idle (calls k) = let y = call_idle k in (y.0, calls y.1)

requests_first : (r : Role) → first_of (requests r).0 ≡ Rq
unfolding first_of
requests_first Master = refl
requests_first Slave = refl

requests_no_block : (r : Role) → is_block (requests r) ≡ false
unfolding is_block may_hold traffic_of meaning_of
requests_no_block Master = refl
requests_no_block Slave = refl

pub same_self : (n : Number) → same n n ≡ true
same_self One = refl
same_self Two = refl

pub same_other : (n : Number) → same (other n) n ≡ false
same_other One = refl
same_other Two = refl

-- The row of each place, at a station that hears b: what was sent is w.
module _ (s : Station) (b : Words) (o : Offer) where
  -- S1, Sending: "Control signal of its own number: send the block again. Of the other number: the block is confirmed; take the
  -- offer"; "All else: send RQ RQ RQ"
  own_heard : (n : Number) (a : Words) (f : First) → is_block a ≡ true → FirstIs (Cs n) f →
      Row s b o (Sending (held n a)) (Receiving n) (unheard a) none (sending (held n a) f) f (is_block b)
  unfolding done
  own_heard n a f i said = rw (same_self n) (again (placed s (Sending (held n a))) a refl (s1_block i))
  own_heard n a f i unsaid = again (placed s (Sending (held n a))) RQ×3 refl (s1_rqs i)

  other_heard : (n : Number) (a : Words) (f : First) → Fine s o → FirstIs (Cs (other n)) f →
      Row s b o (Sending (held n a)) (Receiving (other n)) (heard a) none (sending (held n a) f) f (is_block b)
  unfolding done
  other_heard n a f i said = rw (same_other n) (taken (placed s (Sending (held n a))) (other n) o i confirmed_now)
  other_heard n a f i unsaid = again (placed s (Sending (held n a))) RQ×3 refl s1_rqs'

  -- S2, Sending: "CS3: confirmed; send βαβ, go to Turning"
  cs3_heard : (n : Number) (a : Words) (f : First) → FirstIs Cs3 f →
      Row s b o (Sending (held n a)) Asking (heard a) none (sending (held n a) f) f (is_block b)
  unfolding done
  cs3_heard n a f said = record { place = _; word = _; ox' = _; op' = _; link = s3_any; says = aloud refl refl; sends = confirms; hears = nothing_new }
  cs3_heard n a f unsaid = again (placed s (Sending (held n a))) RQ×3 refl s2_rqs

  -- S3, Turning: "CS3 first: send βαβ again. All else: RQ RQ RQ."
  turn_again : (n : Number) (f : First) → FirstIs Cs3 f → Row s b o (Turning n) Asking none none (turning_else f) f (is_block b)
  unfolding done
  turn_again n f said = again (placed s (Turning n)) βαβ refl s3_any
  turn_again n f unsaid = again (placed s (Turning n)) RQ×3 refl s3_any

  turn_not_yet : (q : Role) (f : First) → is_words b RQ×3 ≡ false → FirstIs Cs3 f → first_of b.0 ≡ f →
      turn_completed q (heard_of s.own b) ≡ false
  unfolding heard_of
  turn_not_yet Master f e i p = e
  turn_not_yet Slave f e said p = rw p
  turn_not_yet Slave f e unsaid p = rw p

  -- S4, Turning: "becomes Receiving, awaiting the number that its last block did not have, and asks for it"
  turned : (n : Number) (t : Bool) (f : First) → FirstIs Rq f →
      Row s b o (Turning n) Opening none none (if t then Receives (other n) else turning_else f) f (is_block b)
  unfolding done
  turned n true f i = goes _ _ refl s5_asks
  turned n false f said = again (placed s (Turning n)) RQ×3 refl s4_rqs
  turned n false f unsaid = again (placed s (Turning n)) RQ×3 refl s4_rqs

  -- S2, S3, Asking: "βαβ: go to Opening and send RQ as there. All else: CS3 again."
  asked : (n : Number) (t : Bool) →
      Row s b o Asking (Turning n) none none (if t then Opens else Repeats (single cs3)) (first_of b.0) (is_block b)
  unfolding done
  asked n true = goes _ _ refl (s4_rq s.role)
  asked n false = again (placed s Asking) (single cs3) refl s3_cs3

  -- S4, S5, Opening: "CS1 or CS2: take the offer under that number", "All else: one RQ if master, three if slave."
  opened : (n : Number) (f : First) → FirstIs Rq f → Row s b o Opening (Turning n) none none (opening s.role f) f (is_block b)
  unfolding done
  opened n f said = again (placed s Opening) (requests s.role) refl (s4_rq s.role)
  opened n f unsaid = again (placed s Opening) (requests s.role) refl (s4_rq s.role)

  begun : (n : Number) (f : First) → Fine s o → FirstIs (Cs n) f → Row s b o Opening (Receiving n) none none (opening s.role f) f (is_block b)
  unfolding done
  begun n f i said = taken (placed s Opening) n o i owed_nothing
  begun n f i unsaid = again (placed s Opening) (requests s.role) refl (s5_rq s.role)

  -- S1, Receiving: "Three intact words, each traffic or β: accepted"
  block_heard : (n : Number) (a : Words) → is_block a ≡ true → Mangled a b → (t : Bool) → is_block b ≡ t →
      Row s b o (Receiving n) (Sending (held n a)) none (unheard a) (if t then Accepts n else if is_words b ααα then Rests 0 (asks_for (other n)) else Repeats (asks_for n)) (first_of b.0) t
  unfolding done
  block_heard n a i g true e =
      subst (λ (a : Words). After false (to_take s o) none (unheard a) (Sending (held n a)) (accepts_heard (placed s (Receiving n)) n b o (listened_all s.case s.plus b)) [] (b ∷ [])) (whole_block a b g e) (accepted (placed s (Receiving n)) n b o (listened_all s.case s.plus b) e)
  block_heard n a i g false e =
      rw (no_words a b ααα g ααα-signals (block_no_ααα a i)) (again (placed s (Receiving n)) (asks_for n) refl (s1_own i))

  -- E1, Receiving: "ααα: ask for the other number, go to Stand-by"
  alphas_heard : (n : Number) (e : Ended) (t : Bool) →
      Row s b o (Receiving n) (Ending e) none none (if t then Rests 0 (asks_for (other n)) else Repeats (asks_for n)) (first_of b.0) false
  unfolding done
  alphas_heard n e true = goes _ _ refl e2_any
  alphas_heard n e false = again (placed s (Receiving n)) (asks_for n) refl e1_any

  -- and of every link
  pub acts : {x p : Place} {w : Words} {ox op : Owed} → Link x p w ox op → Mangled w b → Fine s o → lettered_at s.own x →
      (is_stand_by x ≡ true → Quiet (done (placed s x) b o (row_of s.own s.role x (heard_of s.own b)))) →
      Row s b o x p ox op (row_of s.own s.role x (heard_of s.own b)) (first_of b.0) (is_block b)
  unfolding heard_of first_of is_block may_hold traffic_of meaning_of is_words done
  acts (s1_block {n = n} {b = a} i) g y m z = block_heard n a i g (is_block b) refl
  acts (s1_rqs {n = n} i) g y m z = not_accepted s b o n (no_block RQ×3 b g refl) (no_words RQ×3 b ααα g ααα-signals refl) (s1_own i)
  acts (s1_own {n = n} {b = a} i) g y m z = own_heard n a _ i (first_of_lem (Cs n) g (asks_first n))
  acts (s1_rqs' {n = n}) g y m z = not_accepted s b o (other n) (no_block RQ×3 b g refl) (no_words RQ×3 b ααα g ααα-signals refl) s1_other
  acts (s1_other {n = n} {b = a}) g y m z = other_heard n a _ y (first_of_lem (Cs (other n)) g (asks_first (other n)))
  acts s2_rqs g y m z = rw (no_words RQ×3 b βαβ g βαβ-signals refl) (again (placed s Asking) (single cs3) refl s2_cs3)
  acts (s2_cs3 {n = n} {b = a}) g y m z = cs3_heard n a _ (first_of_lem Cs3 g refl)
  acts (s3_any {n = n}) g y m z = asked n (is_words b βαβ)
  acts (s3_cs3 {n = n}) g y m z = rw (turn_not_yet s.role _ (no_words (single cs3) b RQ×3 g RQ×3_signals refl) (first_of_lem Cs3 g refl) refl) (turn_again n _ (first_of_lem Cs3 g refl))
  acts (s4_rq {n = n} q) g y m z = turned n (turn_completed s.role (heard_of s.own b)) _ (first_of_lem Rq g (requests_first q))
  acts (s4_rqs {n = n}) g y m z = opened n _ (first_of_lem Rq g refl)
  acts (s5_asks {k = n}) g y m z = begun n _ y (first_of_lem (Cs n) g (asks_first n))
  acts (s5_rq {k = n} q) g y m z = not_accepted s b o n (no_block (requests q) b g (requests_no_block q)) (no_words (requests q) b ααα g ααα-signals (requests_no_ααα q)) s5_asks
  acts (e1_alphas {k = n} {e = e}) g y m z = rw (no_block ααα b g refl) (alphas_heard n e (is_words b ααα))
  acts (e1_any {e = e}) g y m z = ended s b o e (first_of b.0) e1_alphas (λ k. e3_silence)
  acts (e2_any {e = e}) g y m z = ended s b o e (first_of b.0) (e2_any' alphas_no_call) (λ k. e4_any silence_no_call)
  acts (e2_any' {x = x} {w = w} q) g y m z = not_called s b o x w q g (λ k. e2_any) (z refl)
  acts (e3_silence {k = n}) g y m z = not_accepted s b o n (no_block silence b g refl) (no_words silence b ααα g ααα-signals refl) (e3_any (asks_no_call n))
  acts (e3_any {x = x} {w = w} q) g y m z = not_called s b o x w q g (λ k. e3_silence) (z refl)
  acts (e4_any {x = x} {w = w} q) g y m z = not_called s b o x w q g (λ k. e4_any silence_no_call) (z refl)
  acts (calls k) g y m z = call_acts s b o k g y m z

  -- a station that is Lost
  lost_acts : {x p : Place} {w : Words} {ox op : Owed} → Link x p w ox op →
      Row s b o Lost p ox op (Goes Lost silence) (first_of b.0) (is_block b)
  unfolding done
  lost_acts l = let v = idle l in record { place = _; word = v.0; ox' = _; op' = _; link = v.1; says = no_more refl refl; sends = stays; hears = nothing_new }

-- of every station that is linked
pub acts_at : (s : Station) (b : Words) (o : Offer) {x p : Place} {w : Words} {ox op : Owed} → At s x → Link x p w ox op → Lettered s →
    Mangled w b → Fine s o → (is_stand_by s.place ≡ true → (done s b o (row_of s.own s.role s.place (heard_of s.own b))).taken ≡ false) →
    After (taking s.place (first_of b.0)) (to_take s o) ox op p (done s b o (row_of s.own s.role s.place (heard_of s.own b))) (confirmed_by s b) (accepted_by s b)
unfolding heard_of
acts_at s b o {x} {p} {w} {ox} {op} (here e) l m g y z =
    acts s b o (subst (λ (q : Place). Link q p w ox op) (sym e) l) g y m z
acts_at s b o {x} {p} {w} {ox} {op} (gone e) l m g y z =
    subst (λ (q : Place). Row s b o q p ox op (row_of s.own s.role q (heard_of s.own b)) (first_of b.0) (is_block b)) (sym e) (lost_acts s b o l)
