-- A word, the run, and one run after the other: each law over the case. Assumes nothing.
use mathlib.Core.Path.{◌≡◌, refl, ap, sym, ◌∙◌}
use mathlib.Core.Bool.{Bool, true, false}
use mathlib.Core.Logic.{inl, inr, ⊎_elim}
use mathlib.Core.List.{List, [], ◌∷◌, ◌++◌, append-nil, append_assoc}
use Prim.Native.Nat.{ℕ, ◌+◌, ◌<◌, ◌≤◌}
use native.Mathlib.Nat.{add-zero}
use native.Mathlib.Omega.{arith}
use lib.Dec.{eqb}
use lib.ListN.{length, get_or, set, drop, length-append}
use lib.Seq.{length-sets}
use borrow.Author.Tests.{ne_eqb}
use Rattle.std.specs.Prelude.{if◌then◌else◌}
use Rattle.laws.proofs.Writes.{wrote_then}
use Rattle.signals.specs.declared.Case.{Case}
use Rattle.signals.specs.declared.Case.TheVariants.{Letters, Figures}
use Rattle.signals.specs.Meaning.{letters, figures}
use Rattle.text.specs.Printing.{bytes_of, case_at, printed, ends_printed}
use Rattle.signals.specs.Cases.{shift_to, other}
use Rattle.text.proofs.WalkLaws.{all_next, all_end, ends_next, ends_end}
use Rattle.text.proofs.PrintingLaws.{printed_walk}
use Rattle.printing.specs.declared.Reached.{Reached}
use Rattle.printing.specs.Glyph.{put_of}
use Rattle.printing.specs.Run.{Going, Ran, Reaches, Typed}
use Rattle.printing.proofs.GlyphLaws.{put_none, put_one}

-- the shift that leaves a case
abbrev leaving : Case → ℕ
leaving c = shift_to (other c)

shift_prints : (c : Case) → bytes_of c (leaving c) ≡ []
unfolding bytes_of
shift_prints Letters = refl
shift_prints Figures = refl

shift_hands_on : (c : Case) → case_at c (leaving c) ≡ other c
shift_hands_on Letters = refl
shift_hands_on Figures = refl

stays : (c : Case) (w : ℕ) → (w ≡ leaving c → ⊥) → case_at c w ≡ c
stays Letters w f = rw (ne_eqb w figures f) (same (eqb w letters))
  where
    same : (t : Bool) → (if t then Letters else Letters) ≡ Letters
    same true = refl
    same false = refl
stays Figures w f = rw (ne_eqb w letters f) (same (eqb w figures))
  where
    same : (t : Bool) → (if t then Figures else Figures) ≡ Figures
    same true = refl
    same false = refl

-- what the glyph says of a word
module _ (c : Case) (w : ℕ) {g : ℕ} (is : put_of g ≡ bytes_of c w) where
  silent : g ≡ 0 → bytes_of c w ≡ []
  silent z = sym is ∙ put_none g z

  one : (g ≡ 0 → ⊥) → bytes_of c w ≡ g ∷ []
  one f = sym is ∙ put_one g f

  no_shift : (g ≡ 0 → ⊥) → w ≡ leaving c → ⊥
  no_shift f e =
      let none : bytes_of c w ≡ [] = rw e (shift_prints c) in
      let both = sym (one f) ∙ none in
      let z : ◌≡◌ {A = ℕ} 0 1 = cc in
      omega arith

abbrev pub stands : ℕ → ℕ → Case → Reached
stands at to c = record { at = at; to = to; case = c }

-- one word
module _ {c : Case} {ws : List ℕ} {at : ℕ} (h : at < length ws) {out : List ℕ} {to : ℕ} where
  module _ {d : Case} (e : case_at c (get_or ws at 0) ≡ d) where
    word_silent : bytes_of c (get_or ws at 0) ≡ [] → Going c ws at out to (stands (at + 1) to d) out
    word_silent z =
        record {
          from = omega arith;
          within = omega arith;
          put = [];
          parted = all_next printed ends_printed bytes_of case_at printed_walk ws at h c ∙ rw (z, e);
          wrote = record { ended = sym (add-zero to); holds = refl };
          ends = ends_next printed ends_printed bytes_of case_at printed_walk ws at h c ∙ rw e;
        }

    word_prints : {g : ℕ} → bytes_of c (get_or ws at 0) ≡ g ∷ [] → Going c ws at out to (stands (at + 1) (to + 1) d) (set out to g)
    word_prints {g} z =
        record {
          from = omega arith;
          within = omega arith;
          put = g ∷ [];
          parted = all_next printed ends_printed bytes_of case_at printed_walk ws at h c ∙ rw (z, e);
          wrote = record { ended = refl; holds = refl };
          ends = ends_next printed ends_printed bytes_of case_at printed_walk ws at h c ∙ rw e;
        }

  -- the shift hands on to the other case
  word_shifts : get_or ws at 0 ≡ leaving c → Going c ws at out to (stands (at + 1) to (other c)) out
  word_shifts e = word_silent (rw e (shift_hands_on c)) (rw e (shift_prints c))

module _ {c : Case} {ws : List ℕ} {at : ℕ} {out : List ℕ} {to : ℕ} where
  pub going_starts : at ≤ length ws → Going c ws at out to (stands at to c) out
  going_starts h =
      record {
        from = omega arith;
        within = h;
        put = [];
        parted = refl;
        wrote = record { ended = sym (add-zero to); holds = refl };
        ends = refl;
      }

  module _ {r : Reached} {mid : List ℕ} (g : Going c ws at out to r mid) where
    pub going_length : length mid ≡ length out
    going_length = ap (λ (l : List ℕ). length l) g.wrote.holds ∙ length-sets out to g.put

    -- where there was room for all, there is for the rest
    pub going_room : to + length (printed c (drop at ws)) ≤ length out → r.to + length (printed r.case (drop r.at ws)) ≤ length mid
    going_room l =
        omega (
          arith,
          going_length,
          g.wrote.ended,
          ap (λ (l : List ℕ). length l) g.parted ∙ length-append g.put (printed r.case (drop r.at ws)),
        )

    pub going_then : {s : Reached} {after : List ℕ} → Going r.case ws r.at mid r.to s after → Going c ws at out to s after
    going_then {s} {after} n =
        record {
          from = omega (arith, g.from, n.from);
          within = n.within;
          put = g.put ++ n.put;
          parted = g.parted ∙ ap (λ (l : List ℕ). g.put ++ l) n.parted ∙ sym (append_assoc g.put n.put (printed s.case (drop s.at ws)));
          wrote = wrote_then out to g.put n.put r.to s.to mid after g.wrote n.wrote;
          ends = g.ends ∙ n.ends;
        }

  -- within a run
  module _ {i next : ℕ} {mid : List ℕ} (g : Going c ws at out to (stands i next c) mid) where
    pub run_ends : length ws ≤ i → Ran c ws at out to (stands i next c) mid
    run_ends h = record { run = g; same = refl; stopped = inl (omega (arith, g.within)) }

    module _ (h : i < length ws) where
      pub run_stops : get_or ws i 0 ≡ leaving c → Ran c ws at out to (stands i next c) mid
      run_stops e = record { run = g; same = refl; stopped = inr (h, e) }

      module _ {b : ℕ} (is : put_of b ≡ bytes_of c (get_or ws i 0)) where
        pub run_silent : b ≡ 0 → (get_or ws i 0 ≡ leaving c → ⊥) → Going c ws at out to (stands (i + 1) next c) mid
        run_silent z stay = going_then g (word_silent h (stays c (get_or ws i 0) stay) (silent c (get_or ws i 0) is z))

        module _ (f : b ≡ 0 → ⊥) where
          here : Going c ws i mid next (stands (i + 1) (next + 1) c) (set mid next b)
          here = word_prints h (stays c (get_or ws i 0) (no_shift c (get_or ws i 0) is f)) (one c (get_or ws i 0) is f)

          pub run_prints : Going c ws at out to (stands (i + 1) (next + 1) c) (set mid next b)
          run_prints = going_then g here

          pub run_room : to + length (printed c (drop at ws)) ≤ length out → next < length mid
          run_room l =
              omega (
                arith,
                going_length g,
                going_length run_prints,
                going_room run_prints l,
              )

  -- after the run
  module _ {r : Reached} {mid : List ℕ} (ran : Ran c ws at out to r mid) where
    -- no word is left
    pub ran_all : length ws ≤ r.at → Reaches c ws at out to r mid
    ran_all h = record { going = ran.run; on = λ l. omega arith }

    -- a shift follows, and is passed
    module _ (h : r.at < length ws) where
      shift : get_or ws r.at 0 ≡ leaving c
      shift = ⊎_elim (λ e. absurd (omega arith)) (λ s. s.1) ran.stopped

      pub ran_on : Reaches c ws at out to (stands (r.at + 1) r.to (other c)) mid
      ran_on =
          record {
            going = going_then ran.run (rw ran.same (word_shifts h shift));
            on = λ l. omega (arith, ran.run.from);
          }

  -- one run after the other
  pub reaches_then : {r s : Reached} {mid after : List ℕ} → Reaches c ws at out to r mid → Reaches r.case ws r.at mid r.to s after → Reaches c ws at out to s after
  reaches_then a b =
      record {
        going = going_then a.going b.going;
        on = λ h. omega (arith, a.on h, b.going.from);
      }

-- no word is left
pub going_all : {c : Case} {ws out : List ℕ} {r : Reached} {after : List ℕ} → Going c ws 0 out 0 r after → length ws ≤ r.at → Typed c ws out r after
going_all {c} {ws} {r = r} g h =
    let e : r.at ≡ length ws = omega (arith, g.within) in
    let all : printed c ws ≡ g.put = g.parted ∙ rw (e, all_end printed ends_printed bytes_of case_at printed_walk r.case ws) (append-nil g.put) in
    record {
      all = e;
      wrote = rw all g.wrote;
      ends = sym (g.ends ∙ rw e (ends_end printed ends_printed bytes_of case_at printed_walk r.case ws));
    }
