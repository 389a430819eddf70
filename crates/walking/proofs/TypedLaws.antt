-- What a station has printed, and its room, as signals are put behind those before them: one law over the role. Assumes nothing.
use mathlib.Core.Path.{◌≡◌, refl, ap, sym, ◌∙◌}
use mathlib.Core.Bool.{Bool, true, false}
use mathlib.Core.List.{List, [], ◌∷◌, ◌++◌, append-nil}
use Prim.Native.Nat.{ℕ, ◌+◌, ◌≤◌}
use native.Mathlib.Nat.{zero-add}
use lib.Dec.{eqb}
use lib.ListN.{length, length-append}
use lib.Seq.{sets}
use borrow.Author.Tests.{eqb-true}
use Rattle.std.specs.Prelude.{if◌then◌else◌}
use Rattle.laws.proofs.Writes.{sets_append}
use Rattle.signals.specs.declared.Case.TheVariants.{Letters}
use Rattle.signals.specs.Numbers.{first_not}
use Rattle.signals.proofs.NumberLaws.{all_head}
use Rattle.text.specs.Printing.{bytes_of, case_at, may_print, printed, ends_printed}
use Rattle.text.proofs.WalkLaws.{ends_append}
use Rattle.text.proofs.PrintingLaws.{printed_walk}
use Rattle.mode_a.specs.declared.Role.{Role}
use Rattle.mode_a.specs.declared.Words.{Words}
use Rattle.mode_a.specs.Station.{list_of}
use Rattle.runs.specs.Circuit.{without_zeros}
use Rattle.entries.specs.Passage.{Passage, signals_of, text_of}
use Rattle.entries.proofs.TellLaws.{text_more}
use Rattle.typing.specs.declared.Typed.{Typed}
use Rattle.typing.specs.Typing.{MayType, MayTypeAll, typed_on, Types}
use Rattle.walking.specs.Walk.{typed_of, wrote_in}

-- the words that a step has printed may each be put
may_put : (w : ℕ) (ws : List ℕ) → length (without_zeros (w ∷ ws)) ≤ first_not may_print (without_zeros (w ∷ ws)) →
    MayType w × (length (without_zeros ws) ≤ first_not may_print (without_zeros ws))
may_put w ws h = by (eqb w 0) refl h
  where
    by : (t : Bool) → eqb w 0 ≡ t → length (if t then without_zeros ws else w ∷ without_zeros ws) ≤ first_not may_print (if t then without_zeros ws else w ∷ without_zeros ws) →
        MayType w × (length (without_zeros ws) ≤ first_not may_print (without_zeros ws))
    by true e l = (λ f. absurd (f (eqb-true w 0 e)), l)
    by false e l = (λ f. (all_head may_print w (without_zeros ws) l).0, (all_head may_print w (without_zeros ws) l).1)

pub may_put_all : (w : Words) → length (without_zeros (list_of w)) ≤ first_not may_print (without_zeros (list_of w)) → MayTypeAll w
may_put_all w h =
    let one = may_put w.0 (w.1 ∷ w.2 ∷ []) h in
    let two = may_put w.1 (w.2 ∷ []) one.1 in
    (one.0, two.0, (may_put w.2 [] two.1).0)

module _ (p q : Passage) (r : Role) (ws : List ℕ) (e : signals_of q r ≡ signals_of p r ++ ws) where
  more_printed : length (text_of q r) ≡ length (text_of p r) + length (printed (ends_printed Letters (signals_of p r)) ws)
  more_printed =
      ap (λ (l : List ℕ). length l) (text_more p q r ws e) ∙ length-append (text_of p r) (printed (ends_printed Letters (signals_of p r)) ws)

  typed_more : typed_on (typed_of p r) ws ≡ typed_of q r
  typed_more =
      rw (more_printed, ap (λ (l : List ℕ). ends_printed Letters l) e ∙ ends_append printed ends_printed bytes_of case_at printed_walk Letters (signals_of p r) ws)

  -- put behind the text before them, the signals give the text after them
  pub put_on : (write : Bool) (room₀ room after : List ℕ) (t : Typed) → room ≡ wrote_in write (text_of p r) room₀ → Types ws (typed_of p r) write room t after →
      (t ≡ typed_of q r) × (after ≡ wrote_in write (text_of q r) room₀)
  put_on true room₀ room after t a b = (
    b.0 ∙ typed_more,
    rw a at b.1
        ∙ ap (λ (n : ℕ). sets (sets room₀ 0 (text_of p r)) n (printed (ends_printed Letters (signals_of p r)) ws)) (sym (zero-add (length (text_of p r))))
        ∙ sets_append room₀ 0 (text_of p r) (printed (ends_printed Letters (signals_of p r)) ws)
        ∙ ap (λ (l : List ℕ). sets room₀ 0 l) (sym (text_more p q r ws e)),
  )
  put_on false room₀ room after t a b = (b.0 ∙ typed_more, b.1 ∙ a)

-- where nothing is put the text and the room stay
module _ (p q : Passage) (r : Role) (e : signals_of q r ≡ signals_of p r ++ []) where
  same : signals_of q r ≡ signals_of p r
  same = e ∙ append-nil (signals_of p r)

  pub typed_same : typed_of p r ≡ typed_of q r
  typed_same = rw same

  pub room_same : (write : Bool) (room₀ room : List ℕ) → room ≡ wrote_in write (text_of p r) room₀ → room ≡ wrote_in write (text_of q r) room₀
  room_same write room₀ room a = a ∙ rw same
