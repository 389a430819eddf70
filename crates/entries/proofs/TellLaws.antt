-- What an entry has the two stations print: the station that hears a burst the signals of its step, the other nothing. Assumes nothing.
use mathlib.Core.Path.{◌≡◌, refl, ap, sym, ◌∙◌}
use mathlib.Core.Bool.{Bool, true, false, true≢false}
use mathlib.Core.List.{List, [], ◌∷◌, ◌++◌, append-nil}
use Prim.Native.Nat.{ℕ, ◌+◌}
use lib.Dec.{eqb}
use lib.ListN.{length}
use Rattle.std.specs.Prelude.{if◌then◌else◌}
use Rattle.signals.specs.declared.Case.TheVariants.{Letters}
use Rattle.signals.specs.Numbers.{Answer, answered, refused}
use Rattle.text.specs.Printing.{bytes_of, case_at, printed, ends_printed}
use Rattle.text.proofs.WalkLaws.{all_append}
use Rattle.text.proofs.PrintingLaws.{printed_walk}
use Rattle.mode_a.specs.declared.Role.{Role}
use Rattle.mode_a.specs.declared.Role.TheVariants.{Master, Slave}
use Rattle.mode_a.specs.declared.Offer.{Offer}
use Rattle.mode_a.specs.declared.Reply.{Reply}
use Rattle.runs.specs.Circuit.{Event, Circuit, said, goes_on, after}
use Rattle.entries.specs.declared.Entry.{Entry}
use Rattle.entries.specs.declared.Entry.TheVariants.{Burst, Text, Over, End}
use Rattle.entries.specs.declared.Standing.{Standing}
use Rattle.entries.specs.Entries.{other_role, same_role, written, Rest, nothing, unknown_kind, cut_short}
use Rattle.entries.specs.Passage.{Passage, circuit_of, offering, event_of, answered_to, after_burst, after_offer, tells, fault_of, Outcome, told, fault, tells_all, signals_of, text_of, printed_in}

-- whose burst is on the way after a step, and after none
pub turn_answered : (s : Standing) (r : Reply) → (answered_to s (answered r)).turn ≡ other_role s.turn
turn_answered s r = by r.taken s.turn
  where
    by : (t : Bool) (h : Role) → other_role (if t then offering s (other_role h) Offer.Nothing else s).turn ≡ other_role s.turn
    by true Master = refl
    by true Slave = refl
    by false h = refl

-- what is printed more: by the station that hears, and by the other nothing
abbrev pub prints_more : Role → Role → Answer Reply → List ℕ
prints_more by turn a = if same_role by (other_role turn) then printed_in a else []

abbrev pub printed_by' : Circuit → Role → Role → List ℕ
printed_by' c turn by = if same_role by turn then c.from_hearer.printed else c.from_sender.printed

heard_prints : (c : Circuit) (e : Event) (r : Reply) (turn by : Role) →
    printed_by' (goes_on c e (answered r)) (other_role turn) by ≡ printed_by' c turn by ++ prints_more by turn (answered r)
heard_prints c e r Master Master = sym (append-nil c.from_hearer.printed)
heard_prints c e r Master Slave = refl
heard_prints c e r Slave Master = refl
heard_prints c e r Slave Slave = sym (append-nil c.from_hearer.printed)

by_answer : (c : Circuit) (e : Event) (s : Standing) (a : Answer Reply) (by : Role) →
    printed_by' (goes_on c e a) (answered_to s a).turn by ≡ printed_by' c s.turn by ++ prints_more by s.turn a
by_answer c e s (answered r) by = rw (turn_answered s r) (heard_prints c e r s.turn by)
by_answer c e s (refused n v) by = none (same_role by (other_role s.turn))
  where
    none : (t : Bool) → printed_by' c s.turn by ≡ printed_by' c s.turn by ++ (if t then [] else [])
    none true = sym (append-nil (printed_by' c s.turn by))
    none false = sym (append-nil (printed_by' c s.turn by))

pub burst_prints : (p : Passage) (e : Event) (by : Role) →
    signals_of (after_burst p e) by ≡ signals_of p by ++ prints_more by p.standing.turn (said (circuit_of p) e)
unfolding after
burst_prints p e by = by_answer (circuit_of p) e p.standing (said (circuit_of p) e) by

-- an offer prints nothing, and leaves the turn
pub offer_turn : (s : Standing) (r : Role) (o : Offer) → (offering s r o).turn ≡ s.turn
offer_turn s Master o = refl
offer_turn s Slave o = refl

pub offer_prints : (p : Passage) (r : Role) (o : Offer) (by : Role) → signals_of (after_offer p r o) by ≡ signals_of p by
offer_prints p Master o by = refl
offer_prints p Slave o by = refl

-- what an entry has a station print, if anything
abbrev pub told_more : Passage → Entry → Role → List ℕ
told_more p (Burst r d) by = prints_more by p.standing.turn (said (circuit_of p) (event_of p.standing d))
told_more p (Text r w) by = []
told_more p (Over r) by = []
told_more p (End r) by = []

pub tells_prints : (p : Passage) (e : Entry) (by : Role) → signals_of (tells p e) by ≡ signals_of p by ++ told_more p e by
tells_prints p (Burst r d) by = burst_prints p (event_of p.standing d) by
tells_prints p (Text r w) by = offer_prints p r (Offer.Text w) by ∙ sym (append-nil (signals_of p by))
tells_prints p (Over r) by = offer_prints p r Offer.Over by ∙ sym (append-nil (signals_of p by))
tells_prints p (End r) by = offer_prints p r Offer.End by ∙ sym (append-nil (signals_of p by))

-- a text only grows
pub text_more : (p q : Passage) (by : Role) (ws : List ℕ) → signals_of q by ≡ signals_of p by ++ ws →
    text_of q by ≡ text_of p by ++ printed (ends_printed Letters (signals_of p by)) ws
text_more p q by ws e =
    ap (λ (l : List ℕ). printed Letters l) e ∙ all_append printed ends_printed bytes_of case_at printed_walk Letters (signals_of p by) ws

abbrev is_told : Outcome → Bool
is_told (told q) = true
is_told (fault n at) = false

-- a record that is told to its end has nothing behind its last entry
pub told_whole : (es : List Entry) (rest : Rest) (at : ℕ) (p q : Passage) → tells_all es rest at p ≡ told q → rest ≡ nothing
unfolding tells_all
told_whole [] nothing at p q h = refl
told_whole [] unknown_kind at p q h = absurd (true≢false (sym (ap is_told h)))
told_whole [] cut_short at p q h = absurd (true≢false (sym (ap is_told h)))
told_whole (e ∷ es) rest at p q h =
    by_fault (eqb (fault_of p.standing e) 0) (λ g. told_whole es rest (at + length (written e)) (tells p e) q g) h
  where
    by_fault : (t : Bool) → (tells_all es rest (at + length (written e)) (tells p e) ≡ told q → rest ≡ nothing) →
        (if t then tells_all es rest (at + length (written e)) (tells p e) else fault (fault_of p.standing e) at) ≡ told q → rest ≡ nothing
    by_fault true later g = later g
    by_fault false later g = absurd (true≢false (sym (ap is_told g)))
