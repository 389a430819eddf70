-- What a record leads to from a place on, by the entry that stands there. Assumes nothing.
use mathlib.Core.Path.{◌≡◌, ap, sym, ◌∙◌}
use mathlib.Core.Bool.{Bool, true, false}
use mathlib.Core.List.{List, [], ◌∷◌}
use Prim.Native.Nat.{ℕ, ◌+◌}
use lib.Dec.{eqb}
use lib.ListN.{length, drop}
use borrow.Author.Tests.{eq-eqb, ne_eqb}
use Rattle.std.specs.Prelude.{if◌then◌else◌}
use Rattle.signals.specs.Numbers.{Answer, refused}
use Rattle.entries.specs.declared.Entry.{Entry}
use Rattle.entries.specs.Entries.{written, Rest, nothing, unknown_kind, cut_short, Record, record_of}
use Rattle.entries.specs.Passage.{Passage, begins, tells, fault_of, Outcome, told, fault, of_rest, tells_all}
use Rattle.entries.specs.Passing.{Counts, outcome_from}
use Rattle.entries.proofs.WalkLaws.{Next, Left}
use Rattle.walking.specs.Walk.{said_of, outcome_at, tells_some, passage_at, Stops, passage_from}

abbrev outcome_of : Record → ℕ → Passage → Outcome
outcome_of r at p = tells_all r.entries r.rest at p

abbrev passage_of : Record → Passage → Passage
passage_of r p = tells_some r.entries p

module _ (bytes : List ℕ) (at : ℕ) (p : Passage) where
  -- no entry is left
  pub ends_left : (rest : Rest) (a : Answer Counts) → Left bytes at rest → said_of (of_rest rest at p) ≡ a → Stops bytes at p a
  unfolding tells_all tells_some
  ends_left rest a e h =
      record {
        stays = ap (λ (r : Record). passage_of r p) e;
        says = ap (λ (r : Record). said_of (outcome_of r at p)) e ∙ h;
      }

  module _ (e : Entry) (next : ℕ) (n : Next bytes at e next) where
    -- an entry without a fault, and one with a fault
    pub outcome_next : fault_of p.standing e ≡ 0 → outcome_at bytes at p ≡ outcome_at bytes next (tells p e)
    unfolding tells_all
    outcome_next h =
        ap (λ (r : Record). outcome_of r at p) n.reads
        ∙ ap (λ (t : Bool). if t then outcome_of (record_of (drop next bytes)) (at + length (written e)) (tells p e) else fault (fault_of p.standing e) at) (eq-eqb (fault_of p.standing e) 0 h)
        ∙ ap (λ (k : ℕ). outcome_of (record_of (drop next bytes)) k (tells p e)) (sym n.place)

    pub passage_next : fault_of p.standing e ≡ 0 → passage_at bytes at p ≡ passage_at bytes next (tells p e)
    unfolding tells_some
    passage_next h =
        ap (λ (r : Record). passage_of r p) n.reads
        ∙ ap (λ (t : Bool). if t then passage_of (record_of (drop next bytes)) (tells p e) else p) (eq-eqb (fault_of p.standing e) 0 h)

    pub ends_fault : (k : ℕ) (a : Answer Counts) → (k ≡ 0 → ⊥) → k ≡ fault_of p.standing e → refused k at ≡ a → Stops bytes at p a
    unfolding tells_all tells_some
    ends_fault k a f h says =
        let refusal : ℕ → Answer Counts = λ l. refused l at in
        let no : eqb (fault_of p.standing e) 0 ≡ false = ne_eqb (fault_of p.standing e) 0 (λ z. f (h ∙ z)) in
        record {
          stays =
              ap (λ (r : Record). passage_of r p) n.reads
              ∙ ap (λ (t : Bool). if t then passage_of (record_of (drop next bytes)) (tells p e) else p) no;
          says =
              ap (λ (r : Record). said_of (outcome_of r at p)) n.reads
              ∙ ap (λ (t : Bool). said_of (if t then outcome_of (record_of (drop next bytes)) (at + length (written e)) (tells p e) else fault (fault_of p.standing e) at)) no
              ∙ ap refusal (sym h)
              ∙ says;
        }

-- a record that is told to its end is told all of it
pub told_all : (es : List Entry) (rest : Rest) (at : ℕ) (p q : Passage) → tells_all es rest at p ≡ told q → tells_some es p ≡ q
unfolding tells_all tells_some
told_all [] nothing at p q h = cc
told_all [] unknown_kind at p q h = cc
told_all [] cut_short at p q h = cc
told_all (e ∷ es) rest at p q h = by (eqb (fault_of p.standing e) 0) (λ g. told_all es rest (at + length (written e)) (tells p e) q g) h
  where
    by : (t : Bool) → (tells_all es rest (at + length (written e)) (tells p e) ≡ told q → tells_some es (tells p e) ≡ q) →
        (if t then tells_all es rest (at + length (written e)) (tells p e) else fault (fault_of p.standing e) at) ≡ told q →
        (if t then tells_some es (tells p e) else p) ≡ q
    by true later g = later g
    by false later g = cc

pub told_from : (bytes : List ℕ) (at : ℕ) (q : Passage) → outcome_from bytes at ≡ told q → passage_from bytes at ≡ q
unfolding outcome_from passage_from
told_from bytes at q h = told_all (record_of (drop at bytes)).entries (record_of (drop at bytes)).rest at begins q h
