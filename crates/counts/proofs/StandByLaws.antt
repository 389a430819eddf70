-- One step of a station at Stand-by, as 02, T-02 and T-05, amend it: "it hears and places calls".
--     prints_nothing_lem, takes_calls_alone   of every step
--     is_silent, stays_there              of a step that hears none of the own call blocks, of four signals or of seven, and is offered no call
--     uncallable_hears_none, uncallable_hears_none3   a station without an identity that can be called hears none of them, ever
--     fresh_uncallable, fresh_hears_none  and the fresh ones of 01 are such
-- Assumes nothing.
use mathlib.Core.Path.{◌≡◌, refl, ap, sym, subst, ◌∙◌}
use mathlib.Core.Bool.{Bool, true, false, true≢false}
use Rattle.signals.specs.Meaning.{cs4}
use Rattle.signals.specs.Numbers.{answered}
use Rattle.mode_a.specs.declared.Role.TheVariants.{Slave}
use Rattle.mode_a.specs.declared.Number.TheVariants.{One}
use Rattle.mode_a.specs.declared.Mark.{Mark}
use Rattle.mode_a.specs.declared.Part.{Part}
use Rattle.mode_a.specs.declared.Succession.{Succession}
use Rattle.mode_a.specs.declared.Identity.{Identity}
use Rattle.mode_a.specs.declared.Words.{Words}
use Rattle.mode_a.specs.declared.Waiting.{Waiting}
use Rattle.mode_a.specs.declared.Place.TheVariants.{Receiving, StandBy}
use Rattle.mode_a.specs.declared.Offer.{Offer}
use Rattle.mode_a.specs.declared.Station.{Station}
use Rattle.mode_a.specs.declared.Reply.{Reply}
use Rattle.identity.specs.declared.Seven.{Seven}
use Rattle.identity.specs.Table3.{is_identity}
use Rattle.identity.specs.Sums.{is_callable7}
use Rattle.mode_a.specs.Calls.{is_callable}
use Rattle.mode_a.specs.Station.{single, silence, asks_for, no_identity}
use Rattle.mode_a.specs.Heard.{call_of, call3_of}
use Rattle.mode_a.specs.Rows.{both_heard, all_heard}
use Rattle.mode_a.specs.Step.{sends, begun, called, called3, waits_on, unidentified, stepping}
use Rattle.runs.specs.Runs.{is_call}
use Rattle.runs.specs.Places.{is_stand_by}
use Rattle.runs.proofs.PlaceLaws.{is_standby}
use Rattle.runs.proofs.StepLaws.{Answers, answers, by_listen, standby_answers, standby_answers3, standby_listens}

-- a burst that is neither of the own call blocks completes no call
no_block : (m : Mark) → both_heard m Mark.None ≡ false
no_block Mark.None = refl
no_block Mark.One = refl
no_block Mark.Two = refl

no_block3 : (h : Succession) → all_heard h Part.None ≡ false
no_block3 h = refl

module _ (s : Station) (b : Words) (o : Offer) (r : Reply) (e : stepping s b o ≡ answered r) (here : is_stand_by s.place ≡ true) where
  -- it answers a call, or places one, or waits on
  by_standby : (P : Reply → Type 0) → ((m : Mark) → both_heard m (call_of s.own.four b) ≡ true → P (sends (begun s Slave (Receiving One)) (asks_for One))) → ((h : Succession) → all_heard h (call3_of s.own.seven b) ≡ true → P (sends (begun s Slave unidentified) (single cs4))) → ((i : Identity) → o ≡ Offer.Call i → P (called s i)) → ((i : Seven) → o ≡ Offer.Call3 i → P (called3 s i)) → ((w : Waiting) → P (waits_on s w)) → P r
  by_standby P answer answer3 place place3 wait = go (is_standby s.place here)
    where
      go : (w : Waiting) × (s.place ≡ StandBy w) → P r
      go x = tests (both_heard x.0.heard (call_of s.own.four b)) (all_heard x.0.heard3 (call3_of s.own.seven b)) refl refl
        where
          a : Answers s b o r
          a = answers s b o r e

          tests : (t u : Bool) → both_heard x.0.heard (call_of s.own.four b) ≡ t → all_heard x.0.heard3 (call3_of s.own.seven b) ≡ u → P r
          tests true u t v = subst P (sym (standby_answers s b o r a x.0 x.1 t)) (answer x.0.heard t)
          tests false true t v = subst P (sym (standby_answers3 s b o r a x.0 x.1 t v)) (answer3 x.0.heard3 v)
          tests false false t v =
              subst P (sym (standby_listens s b o r a x.0 x.1 t v)) (by_listen P s _ o (λ i c z. place i c) (λ i c z. place3 i c) (wait _))

  pub prints_nothing_lem : r.printed ≡ silence
  prints_nothing_lem =
      by_standby (λ (r : Reply). r.printed ≡ silence) (λ m t. refl) (λ h t. refl) (λ i c. refl) (λ i c. refl) (λ w. refl)

  module _ (none : is_call o ≡ false) where
    not_offered : (c : Offer) → is_call c ≡ true → o ≡ c → ⊥
    not_offered c t e = true≢false (sym t ∙ sym (ap is_call e) ∙ none)

    pub takes_calls_alone : r.taken ≡ false
    takes_calls_alone =
        by_standby (λ (r : Reply). r.taken ≡ false) (λ m t. refl) (λ h t. refl) (λ i c. absurd (not_offered _ refl c)) (λ i c. absurd (not_offered _ refl c)) (λ w. refl)

    module _ (unheard : call_of s.own.four b ≡ Mark.None) (unheard3 : call3_of s.own.seven b ≡ Part.None) where
      -- of no call, and offered none, it waits on
      by_waiting : (P : Reply → Type 0) → ((w : Waiting) → P (waits_on s w)) → P r
      by_waiting P wait =
          by_standby P (λ m t. absurd (true≢false (sym t ∙ ap (both_heard m) unheard ∙ no_block m))) (λ h t. absurd (true≢false (sym t ∙ ap (all_heard h) unheard3 ∙ no_block3 h))) (λ i c. absurd (not_offered _ refl c)) (λ i c. absurd (not_offered _ refl c)) wait

      pub is_silent : r.sent ≡ silence
      is_silent = by_waiting (λ (r : Reply). r.sent ≡ silence) (λ w. refl)

      pub stays_there : is_stand_by r.station.place ≡ true
      stays_there = by_waiting (λ (r : Reply). is_stand_by r.station.place ≡ true) (λ w. refl)

pub uncallable_hears_none : (i : Identity) (b : Words) → is_callable i ≡ false → call_of i b ≡ Mark.None
unfolding call_of
uncallable_hears_none i b e = rw e

pub uncallable_hears_none3 : (i : Seven) (b : Words) → is_callable7 i ≡ false → call3_of i b ≡ Part.None
unfolding call3_of
uncallable_hears_none3 i b e = rw e

pub fresh_uncallable : (is_callable no_identity.four ≡ false) × (is_callable7 no_identity.seven ≡ false)
unfolding is_callable is_callable7 is_identity
fresh_uncallable = (refl, refl)

pub fresh_hears_none : (b : Words) → (call_of no_identity.four b ≡ Mark.None) × (call3_of no_identity.seven b ≡ Part.None)
fresh_hears_none b = (
  uncallable_hears_none no_identity.four b fresh_uncallable.0,
  uncallable_hears_none3 no_identity.seven b fresh_uncallable.1,
)
