-- Demand 3 of what `passing::passage` answers: a record without a fault is reached entry by entry, and its text is that of the signals that
-- the circuit's two directions printed. Assumes nothing.
use mathlib.Core.Path.{◌≡◌, refl, ap, sym, subst, ◌∙◌}
use mathlib.Core.Bool.{Bool, true, false}
use mathlib.Core.List.{List}
use Prim.Native.Nat.{ℕ, ◌≤◌}
use native.Mathlib.Omega.{arith}
use lib.Dec.{ltb}
use lib.ListN.{length, take, drop, length-append, length-drop}
use lib.Seq.{take_at, drop_at}
use borrow.Author.Tests.{ltb-false}
use Rattle.std.specs.Prelude.{if◌then◌else◌, Ok}
use Rattle.laws.specs.Room.{over}
use Rattle.signals.specs.declared.Case.{Case}
use Rattle.signals.specs.declared.Case.TheVariants.{Letters}
use Rattle.signals.specs.Numbers.{Answer, answered, refused}
use Rattle.text.specs.Printing.{bytes_of, case_at, printed, ends_printed}
use Rattle.text.proofs.WalkLaws.{all_append}
use Rattle.text.proofs.PrintingLaws.{printed_walk}
use Rattle.mode_a.specs.declared.Role.{Role}
use Rattle.mode_a.specs.declared.Role.TheVariants.{Master, Slave}
use Rattle.runs.specs.Circuit.{signals_in}
use Rattle.circuit.specs.Demand.{Beginning, Carried, Demand3}
use Rattle.entries.specs.Entries.{same_role, by_role, record_of}
use Rattle.entries.specs.Passage.{Passage, circuit_of, Outcome, told, fault, signals_of, text_of}
use Rattle.entries.specs.Passing.{Texts, Counts, outcome_from, told_in, passing_from, said_passed, counted, master_left, slave_left}
use Rattle.ashore.specs.Ashore.{direction_to, Printed, of_role, PrintedAshore, OfTheCall}
use Rattle.ashore.proofs.ReachLaws.{demand_3_ashore, records_reach}

-- what a station has printed, in its direction
module _ (p : Passage) (r : Role) where
  pub printed_there : (direction_to p r).printed ≡ signals_of p r
  printed_there = go (same_role r p.standing.turn)
    where
      go : (t : Bool) → (if t then (circuit_of p).from_hearer else (circuit_of p).from_sender).printed ≡ (if t then (circuit_of p).from_hearer.printed else (circuit_of p).from_sender.printed)
      go true = refl
      go false = refl

  pub carried_there : Demand3 (circuit_of p) → Carried (direction_to p r)
  carried_there d = go (same_role r p.standing.turn)
    where
      go : (t : Bool) → Carried (if t then (circuit_of p).from_hearer else (circuit_of p).from_sender)
      go true = d.from_hearer
      go false = d.from_sender

-- the text of a beginning begins the text
text_of_beginning : (c : Case) (a b : List ℕ) → Beginning ℕ a b → Beginning ℕ (printed c a) (printed c b)
text_of_beginning c a b x =
    record {
      rest = printed (ends_printed c a) x.rest;
      splits = ap (printed c) x.splits ∙ all_append printed ends_printed bytes_of case_at printed_walk c a x.rest;
    }

-- a room over which a text was written
written_over : (text room : List ℕ) (n : ℕ) → n ≡ length text → length text ≤ length room →
    (take n (over text room) ≡ text) × (drop n (over text room) ≡ drop n room) × (length (over text room) ≡ length room)
written_over text room n e l = (
  take_at text (drop (length text) room) n (sym e),
  drop_at text (drop (length text) room) n (sym e) ∙ ap (λ (i : ℕ). drop i room) (sym e),
  simp (length-append, length-drop) (omega arith),
)

station_printed : (p : Passage) → Demand3 (circuit_of p) → (r : Role) (n : ℕ) (room after : List ℕ) → n ≡ length (text_of p r) → length (text_of p r) ≤ length room → after ≡ over (text_of p r) room → Printed (direction_to p r) n room after
station_printed p d r n room after e l i =
    let w = written_over (text_of p r) room n e l in
    let b = (carried_there p r d).prints_a_beginning in
    let t : take n after ≡ printed Letters (direction_to p r).printed = ap (take n) i ∙ w.0 ∙ ap (printed Letters) (sym (printed_there p r)) in
    record {
      text = t;
      signals_begin = b;
      text_begins = subst (λ (ws : List ℕ). Beginning ℕ ws (printed Letters (signals_in (direction_to p r).taken))) (sym t) (text_of_beginning Letters (direction_to p r).printed (signals_in (direction_to p r).taken) b);
      rest_stays = ap (drop n) i ∙ w.1;
      within = omega arith;
      same_length = ap length i ∙ w.2;
    }

pub of_the_call : OfTheCall
unfolding passing_from
of_the_call bytes m s nm ns m' s' (a, b, c) = by_outcome (outcome_from bytes 0) refl a b c
  where
    by_rooms : (p : Passage) → outcome_from bytes 0 ≡ told p → (t u : Bool) → ltb (length m) (length (text_of p Master)) ≡ t → ltb (length s) (length (text_of p Slave)) ≡ u →
        let x : Answer Texts = if t then refused 2 (length (text_of p Master)) else if u then refused 2 (length (text_of p Slave)) else answered (record { master = text_of p Master; slave = text_of p Slave }) in
        said_passed (Ok (record { master = nm; slave = ns })) ≡ counted x → m' ≡ master_left x m → s' ≡ slave_left x s → PrintedAshore bytes m s nm ns m' s'
    by_rooms p o true u f g a b c = let z : ◌≡◌ {A = ℕ} 0 1 = cc in absurd (omega arith)
    by_rooms p o false true f g a b c = let z : ◌≡◌ {A = ℕ} 0 1 = cc in absurd (omega arith)
    by_rooms p o false false f g a b c =
        let d = demand_3_ashore (record_of bytes).entries p (records_reach bytes p o) in
        let n : ◌≡◌ {A = Counts} (record { master = nm; slave = ns }) (record { master = length (text_of p Master); slave = length (text_of p Slave) }) = cc in
        let i : nm ≡ length (text_of p Master) = ap (λ (n : Counts). n.master) n in
        let j : ns ≡ length (text_of p Slave) = ap (λ (n : Counts). n.slave) n in
        let k = ltb-false _ _ f in
        let l = ltb-false _ _ g in
        record { passage = p; is_the_record = o; demand_3 = d; at = at d i j k l }
      where
        at : Demand3 (circuit_of p) → nm ≡ length (text_of p Master) → ns ≡ length (text_of p Slave) → length (text_of p Master) ≤ length m → length (text_of p Slave) ≤ length s →
            (r : Role) → Printed (direction_to p r) (by_role r nm ns) (of_role r m s) (of_role r m' s')
        at d i j k l Master = station_printed p d Master nm m m' i k b
        at d i j k l Slave = station_printed p d Slave ns s s' j l c

    by_outcome : (o : Outcome) → outcome_from bytes 0 ≡ o → let x = told_in (length m) (length s) o in
        said_passed (Ok (record { master = nm; slave = ns })) ≡ counted x → m' ≡ master_left x m → s' ≡ slave_left x s → PrintedAshore bytes m s nm ns m' s'
    by_outcome (told p) o a b c = by_rooms p o (ltb (length m) (length (text_of p Master))) (ltb (length s) (length (text_of p Slave))) refl refl a b c
    by_outcome (fault n at) o a b c = let z : ◌≡◌ {A = ℕ} 0 1 = cc in absurd (omega arith)
