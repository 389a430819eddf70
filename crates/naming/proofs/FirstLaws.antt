-- What a first word is, in the order in which the code asks. Assumes nothing.
use mathlib.Core.Path.{◌≡◌, refl, ap, sym, ◌∙◌}
use mathlib.Core.Bool.{Bool, true, false}
use Prim.Native.Nat.{ℕ}
use native.Mathlib.Omega.{arith}
use lib.Dec.{eqb}
use borrow.Author.Tests.{ne_eqb}
use Rattle.std.specs.Prelude.{if◌then◌else◌}
use Rattle.signals.specs.Meaning.{cs1, cs2, cs3, cs4, cs5, rq}
use Rattle.identity.specs.Table3.{is_identity}
use Rattle.mode_a.specs.declared.Number.TheVariants.{One, Two}
use Rattle.mode_a.specs.declared.Identified.{Identified}
use Rattle.mode_a.specs.Heard.{Cs, Cs3, Rq, Else, Cs4, Cs5, Letter, Other, further_of, first_of}
use Rattle.mode_a.proofs.HeardLaws.{first_else, further_letter}
use Rattle.reasons.specs.declared.Reason.{Reason}
use Rattle.naming.specs.Places.{signal_of, timed, judged_one, turning_by, sent_out, calling3_by, comparing_by, finishing_by}

module _ (w : ℕ) where
  pub turning_else_lem : (late : Bool) (rest : Reason) → (w ≡ cs3 → ⊥) → turning_by late rest (signal_of (first_of w)) ≡ timed late rest
  unfolding first_of
  turning_else_lem late rest a = rw (ne_eqb w cs3 a) (go (eqb w cs1) (eqb w cs2) (eqb w rq))
    where
      go : (p q r : Bool) → turning_by late rest (signal_of (if p then Cs One else if q then Cs Two else if r then Rq else Else (further_of w))) ≡ timed late rest
      go true q r = refl
      go false true r = refl
      go false false true = refl
      go false false false = refl

  pub calling_3_else : (sent : ℕ) → (w ≡ cs3 → ⊥) → (w ≡ cs4 → ⊥) → (w ≡ cs5 → ⊥) → calling3_by sent w (first_of w) ≡ sent_out sent (judged_one w)
  unfolding first_of further_of
  calling_3_else sent a b c = rw (ne_eqb w cs3 a, ne_eqb w cs4 b, ne_eqb w cs5 c) (go (eqb w cs1) (eqb w cs2) (eqb w rq) (is_identity w))
    where
      go : (p q r s : Bool) → calling3_by sent w (if p then Cs One else if q then Cs Two else if r then Rq else Else (if s then Letter w else Other)) ≡ sent_out sent (judged_one w)
      go true q r s = refl
      go false true r s = refl
      go false false true s = refl
      go false false false true = refl
      go false false false false = refl

  pub finishing_else : (late : Bool) → (w ≡ cs1 → ⊥) → (w ≡ cs3 → ⊥) → finishing_by late w (first_of w) ≡ timed late (judged_one w)
  unfolding first_of
  finishing_else late a b = rw (ne_eqb w cs1 a, ne_eqb w cs3 b) (go (eqb w cs2) (eqb w rq))
    where
      go : (p q : Bool) → finishing_by late w (if p then Cs Two else if q then Rq else Else (further_of w)) ≡ timed late (judged_one w)
      go true q = refl
      go false true = refl
      go false false = refl

  -- a letter of table 3b is no control signal, and is not RQ
  pub letter_first : is_identity w ≡ true → first_of w ≡ Else (Letter w)
  unfolding is_identity
  letter_first e = first_else w (apart cs1 refl) (apart cs2 refl) (apart cs3 refl) (apart rq refl) ∙ ap Else (further_letter w (apart cs4 refl) (apart cs5 refl) e)
    where
      apart : (k : ℕ) → is_identity k ≡ false → w ≡ k → ⊥
      apart k n q = let z : ◌≡◌ {A = ℕ} 0 1 = ap (λ (t : Bool). if t then 0 else 1) (sym e ∙ ap is_identity q ∙ n) in omega arith

  pub comparing_else : (late : Bool) (i : Identified) (sum : ℕ) → is_identity w ≡ false → comparing_by late i sum w (first_of w) ≡ timed late (judged_one w)
  unfolding first_of further_of
  comparing_else late i sum e = rw e (go (eqb w cs1) (eqb w cs2) (eqb w cs3) (eqb w rq) (eqb w cs4) (eqb w cs5))
    where
      go : (p q r s t u : Bool) → comparing_by late i sum w (if p then Cs One else if q then Cs Two else if r then Cs3 else if s then Rq else Else (if t then Cs4 else if u then Cs5 else Other)) ≡ timed late (judged_one w)
      go true q r s t u = refl
      go false true r s t u = refl
      go false false true s t u = refl
      go false false false true t u = refl
      go false false false false true u = refl
      go false false false false false true = refl
      go false false false false false false = refl
