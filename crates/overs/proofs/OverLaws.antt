-- 01, The station: "The over is heard when ? follows + in figures case with only β between, within a block or across blocks; any
-- other signal between cancels it, and so does the step from Asking to Opening or from Turning to Receiving. Only accepted blocks
-- count here. The case of a direction starts at letters and lasts through turns."  R-086 to R-091. A call that is placed or answered
-- (02, T-02 and T-05) begins another circuit: what is said of the words accepted is said of those since. And 02, T-06: "a receiver that
-- prints D in figures turns the direction, sends its code .. if the over stood in the same block, it keeps the direction."  R-231 to R-235
--     over_heard_exactly      a block of any run of a fresh station, no over being offered and no D in figures in it: it goes to Asking exactly
--                             where the words accepted since the last cancelling step split so (`HeardOver`)
--     asking_exactly          the same whatever is offered: exactly where D stands in figures (`HeardWho`), or they split so, or the offer is over
--     back_exactly, keep_exactly   an answer-back is owed, with an over of its own behind it exactly where D stands in figures and no over is
--                             heard in the block, without exactly where both are
--     over_taken_exactly      an over that is offered is taken exactly where no D stands in figures
--     coded_exactly           all of these of a fresh station that was given a code, whatever the code
--     standing_exactly, standing_asks_exactly   all of these of a station made at Stand-by, which may be called
--     who_heard_exactly       what the step hears of D in a block, accepted or not, is what the lists tell
--     case_of_direction       the case that a station keeps
--     plus_exactly            the + that it keeps
-- Assumes nothing.
use mathlib.Core.Path.{◌≡◌, refl, ap, sym, subst, ◌∙◌}
use mathlib.Core.Bool.{Bool, true, false, not, ◌&&◌, ◌||◌, or-true, and-eq-true_iff, false≢true}
use mathlib.Core.List.{List, [], ◌∷◌, ◌++◌, append_assoc, append-nil}
use mathlib.Core.Logic.{◌↔◌, ◌⊎◌, inl, inr}
use Prim.Native.Nat.{ℕ}
use native.Mathlib.Omega.{arith}
use borrow.Author.Tests.{eqb-true}
use lib.ListN.{length, replicate, length-append}
use Rattle.std.specs.Prelude.{if◌then◌else◌}
use Rattle.signals.specs.declared.Case.{Case}
use Rattle.signals.specs.declared.Case.TheVariants.{Letters, Figures}
use Rattle.signals.specs.Meaning.{beta}
use Rattle.mode_a.specs.declared.Role.{Role}
use Rattle.mode_a.specs.declared.Role.TheVariants.{Master, Slave}
use Rattle.mode_a.specs.declared.Own.{Own}
use Rattle.mode_a.specs.declared.Code.{Code}
use Rattle.mode_a.specs.declared.Owed.{Owed}
use Rattle.mode_a.specs.declared.Place.{Place}
use Rattle.mode_a.specs.declared.Place.TheVariants.{Asking}
use Rattle.mode_a.specs.declared.Station.{Station}
use Rattle.mode_a.specs.declared.Listening.{Listening}
use Rattle.mode_a.specs.Station.{list_of, fresh_at}
use Rattle.mode_a.specs.Over.{query, cross, keeping, listened_all}
use Rattle.mode_a.specs.Step.{is_over, owed_for, coded}
use Rattle.runs.specs.Places.{place_no, is_receiving}
use Rattle.runs.specs.Runs.{Event, Run, start, ◌▷◌, said, next, after, is_answered, is_taken}
use Rattle.runs.proofs.OwedLaws.{owing_at, owes_there_run}
use Rattle.overs.specs.Overs.{fresh, is_accepted, cancels, begins, accepted, earlier, since, case_from, case_after, HeardOver, OverIn, HeardWho, WhoIn}
use Rattle.overs.proofs.ListLaws.{case_append}
use Rattle.overs.proofs.SignalLaws.{Ends, Keeps, OverAt, keep_words, over_found, over_heard, cross_then_betas, who_found, who_heard}
use Rattle.overs.proofs.StepLaws.{Took, Effect, began, cancelled, took, left, effect}

-- nothing heard yet
keeps_none : (c : Case) → Keeps c [] c false
keeps_none c = record {
  case_kept = unfold case_after in refl;
  plus_ends = λ t. absurd (false≢true t);
  ends_plus = λ n. absurd (omega (arith, simp length-append at (ap length n.split)));
}

-- of what was accepted, the part before the last cancelling step and the part since are all
module _ (s : Station) where
  pub accepted_parts : (run : Run) → accepted s run ≡ earlier s run ++ since s run
  unfolding accepted earlier since
  accepted_parts start = refl
  accepted_parts (run ▷ e) = go (begins (after s run) e) (cancels (after s run) e) (is_accepted (after s run) e) (effect (after s run) e) (accepted_parts run)
    where
      go : (b x y : Bool) → Effect (after s run) (next (after s run) e) (is_taken (said (after s run) e)) e b x y → accepted s run ≡ earlier s run ++ since s run → (if b then [] else accepted s run ++ (if y then list_of e.burst else [])) ≡ (if b then [] else if x then accepted s run else earlier s run) ++ (if b then [] else if x then [] else since s run ++ (if y then list_of e.burst else []))
      go b x y (began c p) i = refl
      go b x y (cancelled c p) i = refl
      go b x y (took t) i = ap (λ (l : List ℕ). l ++ list_of e.burst) i ∙ append_assoc (earlier s run) (since s run) (list_of e.burst)
      go b x y (left c p) i = ap (λ (l : List ℕ). l ++ []) i ∙ append_assoc (earlier s run) (since s run) []

  case_parts : (run : Run) → case_after (case_from s run) (accepted s run) ≡ case_after (case_after (case_from s run) (earlier s run)) (since s run)
  case_parts run = rw (accepted_parts run) (case_append (case_from s run) (earlier s run) (since s run))

  -- the case that the direction starts at: letters, where the run starts at letters
  pub from_letters : s.case ≡ Letters → (run : Run) → case_from s run ≡ Letters
  unfolding case_from
  from_letters l start = l
  from_letters l (run ▷ e) = go (begins (after s run) e) (from_letters l run)
    where
      go : (b : Bool) → case_from s run ≡ Letters → (if b then Letters else case_from s run) ≡ Letters
      go true i = refl
      go false i = i

-- the case at the last cancelling step
abbrev case_then : Station → Run → Case
case_then s run = case_after (case_from s run) (earlier s run)

-- what an event after a run does, in which a block is accepted: told by D and by the over, from this case at the circuit's start
pub record Exactly (c : Case) (s : Station) (run : Run) (e : Event) : Type 0 where
  pub asks : ((after s (run ▷ e)).place ≡ Asking) ↔ (HeardWho c (accepted s run) (list_of e.burst) ⊎ HeardOver c (earlier s run) (since s run) (list_of e.burst) ⊎ (is_over e.offer ≡ true))
  pub back : ((after s (run ▷ e)).owed ≡ Owed.Back 0) ↔ (HeardWho c (accepted s run) (list_of e.burst) × (¬ HeardOver c (earlier s run) (since s run) (list_of e.burst)))
  pub keep : ((after s (run ▷ e)).owed ≡ Owed.Keep 0) ↔ (HeardWho c (accepted s run) (list_of e.burst) × HeardOver c (earlier s run) (since s run) (list_of e.burst))
  pub over_taken : (is_taken (said (after s run) e) ≡ true) ↔ ((is_over e.offer ≡ true) × (¬ HeardWho c (accepted s run) (list_of e.burst)))

-- a station that starts with no + heard
module _ (s : Station) (none : s.plus ≡ false) where
  -- what it keeps is told by the words accepted since the last cancelling step, and the case before them
  kept : (run : Run) → Keeps (case_then s run) (since s run) (after s run).case (after s run).plus
  unfolding earlier since case_from
  kept start = rw none (unfold case_after in keeps_none s.case)
  kept (run ▷ e) = go (begins (after s run) e) (cancels (after s run) e) (is_accepted (after s run) e) (effect (after s run) e) (kept run)
    where
      go : (b x y : Bool) → Effect (after s run) (next (after s run) e) (is_taken (said (after s run) e)) e b x y → Keeps (case_then s run) (since s run) (after s run).case (after s run).plus → Keeps (case_after (if b then Letters else case_from s run) (if b then [] else if x then accepted s run else earlier s run)) (if b then [] else if x then [] else since s run ++ (if y then list_of e.burst else [])) (next (after s run) e).case (next (after s run) e).plus
      go b x y (began c p) k = rw (c, p) (unfold case_after in keeps_none Letters)
      go b x y (cancelled c p) k =
          let same : (next (after s run) e).case ≡ case_after (case_from s run) (accepted s run) = c ∙ k.case_kept ∙ sym (case_parts s run) in
          rw (same, p) (keeps_none (case_after (case_from s run) (accepted s run)))
      go b x y (took t) k =
          rw (t.case_heard, t.plus_heard_lem) (keep_words (case_then s run) (list_of e.burst) (since s run) (keeping (after s run).case (after s run).plus) k)
      go b x y (left c p) k = rw (c, p, append-nil (since s run)) k

  -- the case is that after all words accepted in this circuit, whatever turns there were
  pub case_of_direction : (run : Run) → (after s run).case ≡ case_after (case_from s run) (accepted s run)
  case_of_direction run = (kept run).case_kept ∙ sym (case_parts s run)

  -- a + is remembered exactly while the words since end in + and β any number of times, the + in figures case
  pub plus_exactly : (run : Run) → ((after s run).plus ≡ true) ↔ Ends (case_then s run) (since s run)
  plus_exactly run = ((kept run).plus_ends, (kept run).ends_plus)

  module _ (run : Run) (e : Event) where
    -- the over of HeardOver, and as SignalLaws tells it: the + and the β first, then the ?
    abbrev Heard : Type 0
    Heard = HeardOver (case_from s run) (earlier s run) (since s run) (list_of e.burst)

    abbrev At : Type 0
    At = OverAt (case_then s run) (since s run) (list_of e.burst)

    to_at : Heard → At
    to_at h = record {
      before = h.beginning ++ cross ∷ replicate h.betas beta;
      rest = h.rest;
      split = h.split;
      in_words = h.in_block;
      ends = record {
        beginning = h.beginning;
        betas = h.betas;
        split = refl;
        in_figures_lem = sym (case_append (case_from s run) (earlier s run) h.beginning) ∙ h.figures_at_cross;
      };
    }

    from_at : At → Heard
    from_at a =
        let f : case_after (case_from s run) (earlier s run ++ a.ends.beginning) ≡ Figures = case_append (case_from s run) (earlier s run) a.ends.beginning ∙ a.ends.in_figures_lem in
        record {
          beginning = a.ends.beginning;
          betas = a.ends.betas;
          rest = a.rest;
          split = a.split ∙ ap (λ (l : List ℕ). l ++ query ∷ a.rest) a.ends.split;
          in_block = a.in_words;
          figures_at_cross = f;
          figures_at_query = cross_then_betas (case_from s run) (earlier s run ++ a.ends.beginning) a.ends.betas ∙ f;
        }

    -- who are you of HeardWho
    abbrev Who : Type 0
    Who = HeardWho (case_from s run) (accepted s run) (list_of e.burst)

    -- what is heard in the block
    abbrev heard : Listening
    heard = listened_all (after s run).case (after s run).plus e.burst

    over_exactly : (heard.over ≡ true) ↔ Heard
    over_exactly =
        (λ h. found (over_found (case_then s run) (list_of e.burst) (since s run) (keeping (after s run).case (after s run).plus) (kept run) h), λ h. over_heard (case_then s run) (list_of e.burst) (since s run) (keeping (after s run).case (after s run).plus) (kept run) (to_at h))
      where
        found : (false ≡ true) ⊎ At → Heard
        found (inl f) = absurd (false≢true f)
        found (inr a) = from_at a

    who_exactly : (heard.asked ≡ true) ↔ Who
    who_exactly =
        (who_found (case_from s run) (list_of e.burst) (accepted s run) (keeping (after s run).case (after s run).plus) (case_of_direction run) refl, who_heard (case_from s run) (list_of e.burst) (accepted s run) (keeping (after s run).case (after s run).plus) (case_of_direction run))

    -- where a block is accepted, and nothing was owed before it
    module _ (a : is_accepted (after s run) e ≡ true) (n : (after s run).owed ≡ Owed.Nothing) where
      block_taken : Took (after s run) heard (is_over e.offer) (after s (run ▷ e)) (is_taken (said (after s run) e))
      block_taken = go (begins (after s run) e) (cancels (after s run) e) (is_accepted (after s run) e) (effect (after s run) e) a
        where
          go : (b x y : Bool) → Effect (after s run) (next (after s run) e) (is_taken (said (after s run) e)) e b x y → y ≡ true → Took (after s run) heard (is_over e.offer) (next (after s run) e) (is_taken (said (after s run) e))
          go b x y (began c p) f = absurd (false≢true f)
          go b x y (cancelled c p) f = absurd (false≢true f)
          go b x y (took t) f = t
          go b x y (left c p) f = absurd (false≢true f)

      asks : ((after s (run ▷ e)).place ≡ Asking) ↔ (Who ⊎ Heard ⊎ (is_over e.offer ≡ true))
      asks = (λ h. why (is_over e.offer) heard.over heard.asked over_exactly.0 who_exactly.0 (block_taken.from_asking h), λ h. block_taken.to_asking (so h))
        where
          why : (t o a : Bool) → (o ≡ true → Heard) → (a ≡ true → Who) → (t || (o || a)) ≡ true → Who ⊎ Heard ⊎ (t ≡ true)
          why true o a h w f = inr (inr refl)
          why false true a h w f = inr (inl (h refl))
          why false false a h w f = inl (w f)

          so : Who ⊎ Heard ⊎ (is_over e.offer ≡ true) → (is_over e.offer || (heard.over || heard.asked)) ≡ true
          so (inl w) = rw (who_exactly.1 w, or-true heard.over) (or-true (is_over e.offer))
          so (inr (inl h)) = rw (over_exactly.1 h) (or-true (is_over e.offer))
          so (inr (inr t)) = rw t

      -- what is owed then
      owes : (after s (run ▷ e)).owed ≡ (if heard.asked then owed_for heard else Owed.Nothing)
      owes = block_taken.owes ∙ rw n

      back : ((after s (run ▷ e)).owed ≡ Owed.Back 0) ↔ (Who × (¬ Heard))
      back = (λ h. why heard.asked heard.over who_exactly.0 over_exactly.1 (sym owes ∙ h), λ w. owes ∙ rw (who_exactly.1 w.0) (so heard.over over_exactly.0 w.1))
        where
          why : (a o : Bool) → (a ≡ true → Who) → (Heard → o ≡ true) → (if a then (if o then Owed.Keep 0 else Owed.Back 0) else Owed.Nothing) ≡ Owed.Back 0 → Who × (¬ Heard)
          why true true w h e = let z : ◌≡◌ {A = ℕ} 0 1 = cc in absurd (omega arith)
          why true false w h e = (w refl, λ x. false≢true (h x))
          why false o w h e = let z : ◌≡◌ {A = ℕ} 0 1 = cc in absurd (omega arith)

          so : (o : Bool) → (o ≡ true → Heard) → ¬ Heard → (if o then Owed.Keep 0 else Owed.Back 0) ≡ Owed.Back 0
          so true h m = absurd (m (h refl))
          so false h m = refl

      keep : ((after s (run ▷ e)).owed ≡ Owed.Keep 0) ↔ (Who × Heard)
      keep = (λ h. why heard.asked heard.over who_exactly.0 over_exactly.0 (sym owes ∙ h), λ w. owes ∙ rw (who_exactly.1 w.0, over_exactly.1 w.1))
        where
          why : (a o : Bool) → (a ≡ true → Who) → (o ≡ true → Heard) → (if a then (if o then Owed.Keep 0 else Owed.Back 0) else Owed.Nothing) ≡ Owed.Keep 0 → Who × Heard
          why true true w h e = (w refl, h refl)
          why true false w h e = let z : ◌≡◌ {A = ℕ} 0 1 = cc in absurd (omega arith)
          why false o w h e = let z : ◌≡◌ {A = ℕ} 0 1 = cc in absurd (omega arith)

      over_taken : (is_taken (said (after s run) e) ≡ true) ↔ ((is_over e.offer ≡ true) × (¬ Who))
      over_taken = (λ h. why (is_over e.offer) heard.asked who_exactly.1 (sym block_taken.takes_over ∙ h), λ h. block_taken.takes_over ∙ rw h.0 (so heard.asked who_exactly.0 h.1))
        where
          why : (t a : Bool) → (Who → a ≡ true) → (t && not a) ≡ true → (t ≡ true) × (¬ Who)
          why true true w e = absurd (false≢true e)
          why true false w e = (refl, λ x. false≢true (w x))
          why false a w e = absurd (false≢true e)

          so : (a : Bool) → (a ≡ true → Who) → ¬ Who → not a ≡ true
          so true w m = absurd (m (w refl))
          so false w m = refl

      exactly : Exactly (case_from s run) s run e
      exactly = record { asks = asks; back = back; keep = keep; over_taken = over_taken }

-- a station that starts at letters with no + heard and nothing owed: in every circuit of its run the words are told from letters, and where
-- a block is accepted nothing is owed before it
from_fresh : (s : Station) → s.case ≡ Letters → s.plus ≡ false → s.owed ≡ Owed.Nothing → (run : Run) (e : Event) → is_accepted (after s run) e ≡ true → Exactly Letters s run e
from_fresh s l none nothing run e a =
    subst (λ (c : Case). Exactly c s run e) (from_letters s l run) (exactly s none run e a (owes_there_run s (λ i. nothing) run (elsewhere (after s run).place ((and-eq-true_iff (is_receiving (after s run).place) _).0 ((and-eq-true_iff (is_answered (said (after s run) e)) _).0 a).1).0)))
  where
    elsewhere : (p : Place) → is_receiving p ≡ true → owing_at p ≡ false
    elsewhere p i = rw (eqb-true (place_no p) 4 i)

-- what the step hears of D in a block is what the lists tell
who_from : (s : Station) → s.case ≡ Letters → s.plus ≡ false → (run : Run) (e : Event) → ((listened_all (after s run).case (after s run).plus e.burst).asked ≡ true) ↔ HeardWho Letters (accepted s run) (list_of e.burst)
who_from s l none run e =
    subst (λ (c : Case). ((listened_all (after s run).case (after s run).plus e.burst).asked ≡ true) ↔ HeardWho c (accepted s run) (list_of e.burst)) (from_letters s l run) (who_exactly s none run e)

pub who_heard_exactly : (role : Role) (run : Run) (e : Event) → ((listened_all (after (fresh role) run).case (after (fresh role) run).plus e.burst).asked ≡ true) ↔ WhoIn role run e
who_heard_exactly Master = who_from (fresh Master) refl refl
who_heard_exactly Slave = who_from (fresh Slave) refl refl

by_role_lem : (role : Role) (run : Run) (e : Event) → is_accepted (after (fresh role) run) e ≡ true → Exactly Letters (fresh role) run e
by_role_lem Master run e a = from_fresh (fresh Master) refl refl refl run e a
by_role_lem Slave run e a = from_fresh (fresh Slave) refl refl refl run e a

-- Any run of a fresh station, master or slave, and any event after it in which the station accepts a block.
module _ (role : Role) (run : Run) (e : Event) (a : is_accepted (after (fresh role) run) e ≡ true) where
  -- "if the over was heard in this block, or the offer is over, it .. goes to Asking"; and where D in figures is printed (02, T-06)
  pub asking_exactly : ((after (fresh role) (run ▷ e)).place ≡ Asking) ↔ (WhoIn role run e ⊎ OverIn role run e ⊎ (is_over e.offer ≡ true))
  asking_exactly = (by_role_lem role run e a).asks

  pub over_heard_exactly : is_over e.offer ≡ false → ¬ WhoIn role run e → ((after (fresh role) (run ▷ e)).place ≡ Asking) ↔ OverIn role run e
  over_heard_exactly o w = (λ p. only (asking_exactly.0 p), λ h. asking_exactly.1 (inr (inl h)))
    where
      only : WhoIn role run e ⊎ OverIn role run e ⊎ (is_over e.offer ≡ true) → OverIn role run e
      only (inl x) = absurd (w x)
      only (inr (inl h)) = h
      only (inr (inr t)) = absurd (false≢true (sym o ∙ t))

  -- "turns back by an over of its own; if the over stood in the same block, it keeps the direction"
  pub back_exactly : ((after (fresh role) (run ▷ e)).owed ≡ Owed.Back 0) ↔ (WhoIn role run e × (¬ OverIn role run e))
  back_exactly = (by_role_lem role run e a).back

  pub keep_exactly : ((after (fresh role) (run ▷ e)).owed ≡ Owed.Keep 0) ↔ (WhoIn role run e × OverIn role run e)
  keep_exactly = (by_role_lem role run e a).keep

  -- "an over offered then counts as taken"; "an over at the block with D too, waits"
  pub over_taken_exactly : (is_taken (said (after (fresh role) run) e) ≡ true) ↔ ((is_over e.offer ≡ true) × (¬ WhoIn role run e))
  over_taken_exactly = (by_role_lem role run e a).over_taken

-- 02, T-06: the same of a fresh station that was given a code. A code that does not pass makes every step a refusal, so no block is
-- accepted with it
pub coded_exactly : (role : Role) (k : Code) (run : Run) (e : Event) → is_accepted (after (coded (fresh role) k) run) e ≡ true → Exactly Letters (coded (fresh role) k) run e
coded_exactly Master k = from_fresh (coded (fresh Master) k) refl refl refl
coded_exactly Slave k = from_fresh (coded (fresh Slave) k) refl refl refl

-- 02, T-02, T-05 and T-06: the same of a station at Stand-by with its identities and its code, which may be called
pub standing_exactly : (own : Own) (run : Run) (e : Event) → is_accepted (after (fresh_at own) run) e ≡ true → Exactly Letters (fresh_at own) run e
standing_exactly own = from_fresh (fresh_at own) refl refl refl

pub standing_asks_exactly : (own : Own) (run : Run) (e : Event) → is_accepted (after (fresh_at own) run) e ≡ true → ((after (fresh_at own) (run ▷ e)).place ≡ Asking) ↔ (HeardWho Letters (accepted (fresh_at own) run) (list_of e.burst) ⊎ HeardOver Letters (earlier (fresh_at own) run) (since (fresh_at own) run) (list_of e.burst) ⊎ (is_over e.offer ≡ true))
standing_asks_exactly own run e a = (standing_exactly own run e a).asks
