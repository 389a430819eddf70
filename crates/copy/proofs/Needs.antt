-- Each clause of 01's premise is needed: a broadcast of the text E that fails where that clause alone is dropped. E has 36 positions
-- and 72 slots: 16 is the return, 17 the line feed, 18 E, and 19 the first α. And the premise is met by broadcasts that paper 01's
-- own, without T-03, leaves out. Assumes nothing.
use mathlib.Core.Path.{◌≡◌, refl, ap, sym, ◌∙◌}
use mathlib.Core.Bool.{Bool, true, false, ◌&&◌, ◌||◌}
use mathlib.Core.Logic.{◌⊎◌, inl, inr}
use mathlib.Core.List.{List, [], ◌∷◌}
use Prim.Native.Nat.{ℕ, zero, suc, ◌+◌, ◌*◌, ◌<◌}
use native.Mathlib.Omega.{arith}
use native.Mathlib.Nat.{zero-add}
use lib.Dec.{T, eqb, ltb, ltb→lt, eqb→eq, lit<}
use borrow.Author.Tests.{eqb-true}
use lib.ListN.{length, get_or}
use Rattle.std.specs.Prelude.{if◌then◌else◌}
use Rattle.laws.proofs.Below.{every, at_below, both_left, both_right}
use Rattle.signals.specs.Units.{intact_of, ones_of}
use Rattle.signals.specs.Meaning.{meaning_of, traffic_of, word_no, error_mark}
use Rattle.mode_b.specs.Sender.{carriage_return, line_feed, with_breaks, positions_of, slots_from, slots_of}
use Rattle.mode_b.specs.Receiver.{settled, heard_dx, heard_rx, waited}
use Rattle.signals.specs.Damage.{Damage, kept, hurt, NoSignal}
use Rattle.copy.specs.Run.{Damages, heard_from, listen, copy_from}
use Rattle.copy.specs.Premise.{Text, Clause, Holds, Premise, FormerPremise, Needed}
use Rattle.copy.proofs.StepLaws.{hurt_kept}
use Rattle.copy.specs.Premise.Clause.{from_0, phasing, copies, no_signal_lem}

abbrev E : List ℕ
E = word_no 5 ∷ []

-- in these slots v is heard
abbrev among : List ℕ → ℕ → Bool
among [] k = false
among (x ∷ xs) k = eqb k x || among xs k

abbrev hurt_at : ℕ → List ℕ → Damages
hurt_at v ks k = if among ks k then hurt v else kept

-- Each clause as a test of such a broadcast of E. For the phasing signals the first four slots are tried.
abbrev is_kept : Damage → Bool
is_kept kept = true
is_kept (hurt v) = false

abbrev has_copy : Damages → ℕ → Bool
has_copy d t = is_kept (d (2 * t)) || (ltb (2 * t + 5) 72 && is_kept (d (2 * t + 5)))

abbrev passes : Clause → ℕ → ℕ → List ℕ → Bool
passes from_0 start v ks = eqb start 0
passes phasing start v ks = every (λ k. is_kept (hurt_at v ks k)) 4 0
passes copies start v ks = every (has_copy (hurt_at v ks)) 36 0
passes no_signal_lem start v ks = eqb (meaning_of v) 0

is_kept_lem : (h : Damage) → T (is_kept h) → h ≡ kept
is_kept_lem kept t = refl
is_kept_lem (hurt v) t = absurd t

has_copy_lem : (d : Damages) (t : ℕ) → T (has_copy d t) → (d (2 * t) ≡ kept) ⊎ ((2 * t + 5 < 72) × (d (2 * t + 5) ≡ kept))
has_copy_lem d t h = go (is_kept (d (2 * t))) refl h
  where
    go : (b : Bool) → is_kept (d (2 * t)) ≡ b → T (b || (ltb (2 * t + 5) 72 && is_kept (d (2 * t + 5)))) → (d (2 * t) ≡ kept) ⊎ ((2 * t + 5 < 72) × (d (2 * t + 5) ≡ kept))
    go true k c = inl (is_kept_lem (d (2 * t)) (rw k tt))
    go false k c =
        inr
        (ltb→lt (2 * t + 5) 72 (both_left (ltb (2 * t + 5) 72) (is_kept (d (2 * t + 5))) c), is_kept_lem (d (2 * t + 5)) (both_right (ltb (2 * t + 5) 72) (is_kept (d (2 * t + 5))) c))

no_signal_heard : (v : ℕ) → meaning_of v ≡ 0 → (t : Bool) → NoSignal (if t then hurt v else kept)
no_signal_heard v e true = e
no_signal_heard v e false = tt

holds : (c : Clause) (start v : ℕ) (ks : List ℕ) → T (passes c start v ks) → Holds c start E (hurt_at v ks)
unfolding positions_of slots_of slots_from with_breaks
holds from_0 start v ks t = eqb→eq start 0 t
holds phasing start v ks t =
    record {
      first = 0;
      heard = omega arith;
      before_text = omega arith;
      intact = λ j h. rw zero-add (is_kept_lem (hurt_at v ks j) (at_below (λ k. is_kept (hurt_at v ks k)) 4 t j h));
    }
holds copies start v ks t = λ p h. has_copy_lem (hurt_at v ks) p (at_below (has_copy (hurt_at v ks)) 36 t p h)
holds no_signal_lem start v ks t = λ k. no_signal_heard v (eqb→eq (meaning_of v) 0 t) (among ks k)

-- all clauses but one, by one test
abbrev number_of : Clause → ℕ
number_of from_0 = 0
number_of phasing = 1
number_of copies = 2
number_of no_signal_lem = 3

abbrev clause_no : ℕ → Clause
clause_no zero = from_0
clause_no (suc zero) = phasing
clause_no (suc (suc zero)) = copies
clause_no (suc (suc (suc n))) = no_signal_lem

numbered : (c : Clause) → (clause_no (number_of c) ≡ c) × (number_of c < 4)
numbered from_0 = (refl, lit< tt)
numbered phasing = (refl, lit< tt)
numbered copies = (refl, lit< tt)
numbered no_signal_lem = (refl, lit< tt)

abbrev passes_but : Clause → ℕ → ℕ → List ℕ → ℕ → Bool
passes_but c start v ks i = eqb i (number_of c) || passes (clause_no i) start v ks

holds_but : (c : Clause) (start v : ℕ) (ks : List ℕ) → T (every (passes_but c start v ks) 4 0) → (o : Clause) → (o ≡ c → ⊥) → Holds o start E (hurt_at v ks)
holds_but c start v ks t o n =
    let at = at_below (passes_but c start v ks) 4 t (number_of o) (numbered o).1 in
    go (eqb (number_of o) (number_of c)) refl at
  where
    go : (b : Bool) → eqb (number_of o) (number_of c) ≡ b → T (b || passes (clause_no (number_of o)) start v ks) → Holds o start E (hurt_at v ks)
    go true e u =
        let m = eqb-true (number_of o) (number_of c) e in
        absurd (n (sym (numbered o).0 ∙ ap clause_no m ∙ (numbered c).0))
    go false e u = holds o start v ks (rw (numbered o).0 at u)

E_is_text : Text E
unfolding traffic_of meaning_of
E_is_text = (refl, tt)

-- what is printed in each run
abbrev Prints : ℕ → Damages → List ℕ → Type 0
Prints start d printed = copy_from start E d ≡ printed

-- it listens from slot 29
late_run : Prints 29 (hurt_at 0 []) []
unfolding slots_of positions_of slots_from with_breaks heard_from listen heard_dx heard_rx waited settled intact_of ones_of traffic_of meaning_of
late_run = refl

-- every fourth slot is lost
no_four : List ℕ
no_four = 3 ∷ 7 ∷ 11 ∷ 15 ∷ 19 ∷ 23 ∷ 27 ∷ 31 ∷ []

unphased_run : Prints 0 (hurt_at 0 no_four) []
unfolding no_four slots_of positions_of slots_from with_breaks heard_from listen heard_dx heard_rx waited settled intact_of ones_of traffic_of meaning_of
unphased_run = refl

-- both copies of the line feed are lost
uncopied_run : Prints 0 (hurt_at 0 (34 ∷ 39 ∷ [])) (carriage_return ∷ error_mark ∷ E)
unfolding slots_of positions_of slots_from with_breaks heard_from listen heard_dx heard_rx waited settled intact_of ones_of traffic_of meaning_of
uncopied_run = refl

-- A is heard for the RX of the line feed
signal_run : Prints 0 (hurt_at (word_no 1) (39 ∷ [])) (carriage_return ∷ error_mark ∷ E)
unfolding slots_of positions_of slots_from with_breaks heard_from listen heard_dx heard_rx waited settled intact_of ones_of traffic_of meaning_of
signal_run = refl

-- So the copy is not perfect: the lengths differ, or the second signals.
module _ (c : Clause) (start v : ℕ) (ks printed : List ℕ) (passed : T (every (passes_but c start v ks) 4 0)) (run : Prints start (hurt_at v ks) printed) where
  needed : (f : List ℕ → ℕ) → (f printed ≡ f (carriage_return ∷ line_feed ∷ E) → ⊥) → Needed c
  needed f n =
      record {
        start = start;
        text = E;
        damage = hurt_at v ks;
        is_text = E_is_text;
        others = holds_but c start v ks passed;
        fails = λ p. n (ap f (sym run ∙ p));
      }

abbrev nth : ℕ → List ℕ → ℕ
nth i l = get_or l i 0

-- Each clause of 01's premise is needed.
pub each_clause_needed : (c : Clause) → Needed c
unfolding no_four meaning_of
each_clause_needed from_0 = needed from_0 29 0 [] _ tt late_run (λ l. length l) (λ e. omega arith)
each_clause_needed phasing = needed phasing 0 0 no_four _ tt unphased_run (λ l. length l) (λ e. omega arith)
each_clause_needed copies = needed copies 0 0 (34 ∷ 39 ∷ []) _ tt uncopied_run (nth 1) (λ e. omega arith)
each_clause_needed no_signal_lem = needed no_signal_lem 0 (word_no 1) (39 ∷ []) _ tt signal_run (nth 1) (λ e. omega arith)

-- The premise allows what paper 01's own, without T-03, does not: here the DX of E and of the first two α are lost.
pub allows_more : Premise 0 E (hurt_at 0 (36 ∷ 38 ∷ 40 ∷ [])) × (FormerPremise 0 E (hurt_at 0 (36 ∷ 38 ∷ 40 ∷ [])) → ⊥)
unfolding with_breaks
allows_more = (met, λ f. hurt_kept 0 f.last)
  where
    met : (c : Clause) → Holds c 0 E (hurt_at 0 (36 ∷ 38 ∷ 40 ∷ []))
    met from_0 = holds from_0 0 0 (36 ∷ 38 ∷ 40 ∷ []) tt
    met phasing = holds phasing 0 0 (36 ∷ 38 ∷ 40 ∷ []) tt
    met copies = holds copies 0 0 (36 ∷ 38 ∷ 40 ∷ []) tt
    met no_signal_lem = holds no_signal_lem 0 0 (36 ∷ 38 ∷ 40 ∷ []) (unfold meaning_of in tt)
