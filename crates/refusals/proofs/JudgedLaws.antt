-- What is refused, by what the parts judge; and an answer that is given where nothing is refused.  R-243, R-288
-- Assumes nothing.
use mathlib.Core.Path.{◌≡◌, refl}
use mathlib.Core.Bool.{Bool, true, false, not}
use Prim.Native.Nat.{ℕ, ◌<◌, ◌≤◌}
use native.Mathlib.Omega.{arith}
use lib.Dec.{ltb}
use lib.ListN.{length}
use borrow.Author.Tests.{ltb-true, lt-ltb, le-ltb}
use Rattle.std.specs.Prelude.{if◌then◌else◌, Ok, Err}
use Rattle.signals.specs.Numbers.{Answer, answered, refused, first_not}
use Rattle.identity.specs.Table3.{is_identity}
use Rattle.mode_a.specs.declared.Own.{Own}
use Rattle.mode_a.specs.declared.Code.{Code}
use Rattle.mode_a.specs.declared.Offer.{Offer}
use Rattle.mode_a.specs.declared.Station.{Station}
use Rattle.mode_a.specs.declared.Refusal.{Refusal}
use Rattle.mode_a.specs.Calls.{signals_of}
use Rattle.mode_a.specs.Heard.{may_hold}
use Rattle.mode_a.specs.Answerback.{code_signals, holds_neither, passes}
use Rattle.mode_a.specs.Step.{sound, offered, called_to, said_refusal}
use Rattle.refusals.specs.Parts.{bad_offer, bad_call}
use Rattle.refusals.specs.Judging.{judging, said_judged, Judges}

-- a code without a signal passes
pub passes_empty : (c : Code) → c.length ≡ 0 → true ≡ passes c
unfolding passes code_signals holds_neither first_not
passes_empty c e = rw e

-- the first of n entries that fails a test, as a refusal where there is one
abbrev refused_at : ℕ → ℕ → ℕ → Answer (Unit {0}) → Answer (Unit {0})
refused_at number first n rest = if ltb first n then refused number first else rest

call_judged : (own : Own) (o : Offer) (rest : Answer (Unit {0})) → refused_at 8 (first_not is_identity (called_to own o)) (length (called_to own o)) rest ≡ refused_at 8 (bad_call own o) 14 rest
unfolding first_not
call_judged own (Offer.Text w) rest = refl
call_judged own Offer.Over rest = refl
call_judged own Offer.End rest = refl
call_judged own Offer.Nothing rest = refl
call_judged own (Offer.Call i) rest = go (first_not is_identity (signals_of i)) (ltb (first_not is_identity (signals_of i)) 4) refl
  where
    go : (f : ℕ) (t : Bool) → ltb f 4 ≡ t → (if t then refused 8 f else rest) ≡ refused_at 8 (if t then f else 14) 14 rest
    go f true e = let h = ltb-true f 4 e in rw (lt-ltb f 14 (omega arith))
    go f false e = refl
call_judged own (Offer.Call3 i) rest = refl

offer_judged : (o : Offer) (rest : Answer (Unit {0})) → refused_at 3 (first_not may_hold (offered o)) (length (offered o)) rest ≡ refused_at 3 (bad_offer o) 3 rest
unfolding first_not
offer_judged (Offer.Text w) rest = refl
offer_judged Offer.Over rest = refl
offer_judged Offer.End rest = refl
offer_judged Offer.Nothing rest = refl
offer_judged (Offer.Call i) rest = refl
offer_judged (Offer.Call3 i) rest = refl

pub judged_by : (s : Station) (o : Offer) → judging s o ≡ (if ltb (bad_call s.own o) 14 then refused 8 (bad_call s.own o) else if not (sound s) then refused 4 0 else if not (passes s.own.code) then refused 9 0 else if ltb (bad_offer o) 3 then refused 3 (bad_offer o) else answered tt)
unfolding judging
judged_by s o = rw (call_judged s.own o, offer_judged o)

-- the promise at each answer
module _ (s : Station) (o : Offer) (j : ℕ) (ej : j ≡ bad_call s.own o) where
  pub call_refused : j < 14 → Judges s o (Err (Refusal.BadCall j))
  call_refused h = rw (judged_by s o, ← ej, lt-ltb j 14 h)

  module _ (g : 14 ≤ j) where
    pub station_refused : sound s ≡ false → Judges s o (Err Refusal.BadStation)
    station_refused e = rw (judged_by s o, ← ej, le-ltb j 14 g, e)

    module _ (e : sound s ≡ true) where
      pub code_refused : passes s.own.code ≡ false → Judges s o (Err Refusal.BadCode)
      code_refused k = rw (judged_by s o, ← ej, le-ltb j 14 g, e, k)

      module _ (k : passes s.own.code ≡ true) where
        pub word_refused : (i : ℕ) → i ≡ bad_offer o → i < 3 → Judges s o (Err (Refusal.BadWord i))
        word_refused i ei h = rw (judged_by s o, ← ej, le-ltb j 14 g, e, k, ← ei, lt-ltb i 3 h)

        pub nothing_refused : (i : ℕ) → i ≡ bad_offer o → 3 ≤ i → Judges s o (Ok tt)
        nothing_refused i ei h = rw (judged_by s o, ← ej, le-ltb j 14 g, e, k, ← ei, le-ltb i 3 h)

-- what is refused, or else this answer
abbrev pub unless_refused : {A : Type 0} → Answer (Unit {0}) → Answer A → Answer A
unless_refused (answered u) x = x
unless_refused (refused n v) x = refused n v

pub refused_so : {A : Type 0} (e : Refusal) (x : Answer A) → unless_refused (said_judged (Err e)) x ≡ said_refusal e
refused_so Refusal.BadStation x = refl
refused_so Refusal.BadCode x = refl
refused_so (Refusal.BadWord i) x = refl
refused_so (Refusal.BadCall i) x = refl

-- as `stepping` and `explaining` have it
pub judged_first : {A : Type 0} (s : Station) (o : Offer) (x : Answer A) → unless_refused (judging s o) x ≡ (if ltb (first_not is_identity (called_to s.own o)) (length (called_to s.own o)) then refused 8 (first_not is_identity (called_to s.own o)) else if not (sound s) then refused 4 0 else if not (passes s.own.code) then refused 9 0 else if ltb (first_not may_hold (offered o)) (length (offered o)) then refused 3 (first_not may_hold (offered o)) else x)
unfolding judging
judged_first {A} s o x = go (ltb (first_not is_identity (called_to s.own o)) (length (called_to s.own o))) (sound s) (passes s.own.code) (ltb (first_not may_hold (offered o)) (length (offered o))) _ _
  where
    go : (a b c d : Bool) (i j : ℕ) → unless_refused (if a then refused 8 i else if not b then refused 4 0 else if not c then refused 9 0 else if d then refused 3 j else answered tt) x ≡ (if a then refused 8 i else if not b then refused 4 0 else if not c then refused 9 0 else if d then refused 3 j else x)
    go true b c d i j = refl
    go false false c d i j = refl
    go false true false d i j = refl
    go false true true true i j = refl
    go false true true false i j = refl
