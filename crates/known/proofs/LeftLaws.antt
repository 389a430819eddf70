-- Where the call is over.
--     Left            the caller is at Stand-by again, and the other still waits for it: nothing is carried
--     Apart           neither calls, identifies nor answers, and no burst begins a call
--     left_next, apart_next   while no call is placed, the first leads to the second, and the second to itself
-- Assumes nothing.
use mathlib.Core.Path.{◌≡◌, refl, ap, sym, subst, ◌∙◌}
use mathlib.Core.Bool.{Bool, true, false, and-false, true≢false}
use mathlib.Core.Logic.{◌⊎◌, inl, inr}
use Prim.Native.Nat.{ℕ, ◌-◌}
use lib.Dec.{eqb}
use borrow.Author.Tests.{eqb-true}
use Rattle.signals.specs.Meaning.{meaning_of, traffic_of, alpha, rq}
use Rattle.signals.specs.Numbers.{Answer, answered, refused}
use Rattle.identity.specs.Table3.{is_identity}
use Rattle.mode_a.specs.declared.Role.{Role}
use Rattle.mode_a.specs.declared.Role.TheVariants.{Master, Slave}
use Rattle.mode_a.specs.declared.Number.{Number}
use Rattle.mode_a.specs.declared.Number.TheVariants.{One, Two}
use Rattle.mode_a.specs.declared.Mark.{Mark}
use Rattle.mode_a.specs.declared.Part.{Part}
use Rattle.mode_a.specs.declared.Succession.{Succession}
use Rattle.mode_a.specs.declared.Waiting.{Waiting}
use Rattle.mode_a.specs.declared.Gathered.{Gathered}
use Rattle.mode_a.specs.declared.Own.{Own}
use Rattle.mode_a.specs.declared.Words.{Words}
use Rattle.mode_a.specs.declared.Place.{Place}
use Rattle.mode_a.specs.declared.Place.TheVariants.{Sending, Turning, Opening, Ending, Receiving, Asking, StandBy, Lost, Calling, Calling3, Identifying, Answering}
use Rattle.mode_a.specs.declared.Offer.{Offer}
use Rattle.mode_a.specs.declared.Station.{Station}
use Rattle.mode_a.specs.declared.Doing.{Doing}
use Rattle.mode_a.specs.declared.Doing.TheVariants.{Repeats, Goes, Takes, Receives, Opens, Accepts, Rests, Answers, Listens, Reaches, Answers3, Bars, Ends, Turns, Meets, Again, Yields}
use Rattle.mode_a.specs.declared.Reply.{Reply}
use Rattle.mode_a.specs.Identification.{nothing_told, told_in}
use Rattle.mode_a.specs.Station.{single, silence, βαβ, ααα, RQ×3, other, asks_for, resting}
use Rattle.mode_a.specs.Heard.{Heard, may_hold, is_block, is_words, call_of, call3_of, heard_of}
use Rattle.mode_a.specs.Over.{listened_all}
use Rattle.mode_a.specs.Rows.{row_of, requests, all_heard, heard_then}
use Rattle.mode_a.specs.Step.{sound_place, done}
use Rattle.runs.specs.Places.{is_stand_by}
use Rattle.runs.proofs.RowLaws.{by_sending, by_turning, by_opening, by_ending, by_receiving, by_asking, by_standing}
use Rattle.runs.proofs.StepLaws.{Answers as Answered, answers, held_block, by_repeat, by_again, by_take_block, by_accept, by_listen, standby_listens}
use Rattle.runs.specs.Circuit.{Event, heard, Harmless, Circuit, said, places_call, answered_by, goes_on, next}
use Rattle.circuit.proofs.DamageLaws.{all_three, Mangled, mangled, no_words, whole_told}
use Rattle.circuit.proofs.ReplyLaws.{ααα-signals, RQ×3_signals, single_no_call, Fine, both_none, no_call_lem, no_call3}
use Rattle.circuit.proofs.CallStepLaws.{all_none, asked}
use Rattle.circuit.proofs.RunLaws.{quiet}
use Rattle.known.proofs.BlockLaws.{Late, ends_otherwise, all_or_none, late_heard}
use Rattle.known.proofs.Phases.{NothingCarried, still_none}
use Rattle.known.proofs.CalleeLaws.{not_heard}

-- a place at which no call of three blocks goes on, nor has been heard in part
abbrev is_none : Succession → Bool
is_none Succession.None = true
is_none Succession.One = false
is_none Succession.OneTwo = false
is_none Succession.Two = false
is_none Succession.TwoThree = false

abbrev pub is_apart : Place → Bool
is_apart (Sending h) = true
is_apart (Turning n) = true
is_apart Opening = true
is_apart (Ending e) = true
is_apart (Receiving n) = true
is_apart Asking = true
is_apart (StandBy w) = is_none w.heard3
is_apart Lost = true
is_apart (Calling c) = false
is_apart (Calling3 c) = false
is_apart (Identifying i) = false
is_apart (Answering g) = false

pub record Apart (c : Circuit) : Type 0 where
  pub hearer_apart : is_apart c.hearer.place ≡ true
  pub sender_apart : is_apart c.sender.place ≡ true
  pub burst_late : Late c.burst

-- what is sent there begins no call
pub single_late : (v : ℕ) → Late (single v)
single_late v = ends_otherwise (single_no_call v)

pub ααα-late : Late ααα
ααα-late = all_or_none false (record { at0 = refl; at1 = refl; at2 = refl })

pub βαβ-late : Late βαβ
βαβ-late = all_or_none false (record { at0 = refl; at1 = refl; at2 = refl })

RQ×3_late : Late RQ×3
RQ×3_late = all_or_none true (record { at0 = refl; at1 = refl; at2 = refl })

asks_late : (n : Number) → Late (asks_for n)
asks_late One = single_late _
asks_late Two = single_late _

requests_late : (r : Role) → Late (requests r)
requests_late Master = single_late _
requests_late Slave = RQ×3_late

pub block_late : (w : Words) → is_block w ≡ true → Late w
unfolding is_block
block_late w i =
    let m = all_three (may_hold w.0) (may_hold w.1) (may_hold w.2) i in
    all_or_none false (record { at0 = held w.0 m.0; at1 = held w.1 m.1; at2 = held w.2 m.2 })
  where
    held : (x : ℕ) → may_hold x ≡ true → eqb x rq ≡ false
    held x h = go (eqb x rq) refl
      where
        go : (t : Bool) → eqb x rq ≡ t → t ≡ false
        go true e = unfold may_hold traffic_of meaning_of in absurd (true≢false (sym h ∙ ap may_hold (eqb-true x rq e)))
        go false e = refl

-- what a row may do there
Leads : Bool → Doing → Type 0
Leads t (Repeats w) = Late w
Leads t (Goes p w) = (is_apart p ≡ true) × Late w
Leads t (Takes n) = Unit {0}
Leads t (Receives n) = Unit {0}
Leads t Opens = Unit {0}
Leads t (Accepts n) = Unit {0}
Leads t (Rests n w) = Late w
Leads t Answers = Unit {0}
Leads t (Listens x) = (is_none x.heard3 ≡ true) × (t ≡ true)
Leads t (Reaches p n) = ⊥
Leads t Answers3 = ⊥
Leads t (Bars i) = ⊥
Leads t (Ends i) = ⊥
Leads t (Turns i) = ⊥
Leads t (Meets i) = ⊥
Leads t (Again p w) = ⊥
Leads t (Yields n) = Unit {0}

row_leads : (own : Own) (r : Role) (x : Place) (h : Heard) → is_apart x ≡ true → sound_place x ≡ true → heard_then Succession.None h.call3 ≡ Succession.None → Leads (is_stand_by x) (row_of own r x h)
unfolding Leads
row_leads own r (Sending b) h n s k =
    by_sending (Leads false) b h.first (λ c. block_late b.block (sym (held_block b.block) ∙ s)) (λ c. tt) (λ c. tt) (λ c. RQ×3_late)
row_leads own r (Turning m) h n s k = by_turning (Leads false) r m h tt βαβ-late RQ×3_late
row_leads own r Opening h n s k = by_opening (Leads false) r h.first (λ n. tt) (single_late 0) (requests_late r)
row_leads own r (Ending e) h n s k = by_ending (Leads false) e h.first (single_late 0) (λ i. (refl, ααα-late))
row_leads own r (Receiving m) h n s k =
    by_receiving (Leads false) m h (λ c. tt) (λ c. asks_late (other m)) (λ c. asks_late m)
row_leads own r Asking h n s k = by_asking (Leads false) h tt (single_late _)
row_leads own r (StandBy w) h n s k = go w.heard3 refl n
  where
    go : (x : Succession) → w.heard3 ≡ x → is_none x ≡ true → Leads true (row_of own r (StandBy w) h)
    go Succession.None e n =
        by_standing (Leads true) w h.call h.call3 (λ c. tt) (λ c d. true≢false (sym d ∙ ap (λ (x : Succession). all_heard x h.call3) e ∙ all_none h.call3)) (λ c d. (ap (λ (x : Succession). is_none (heard_then x h.call3)) e ∙ ap is_none k, refl))
    go Succession.One e n = absurd (true≢false (sym n))
    go Succession.OneTwo e n = absurd (true≢false (sym n))
    go Succession.Two e n = absurd (true≢false (sym n))
    go Succession.TwoThree e n = absurd (true≢false (sym n))
row_leads own r Lost h n s k = (refl, single_late 0)
row_leads own r (Calling c) h n s k = absurd (true≢false (sym n))
row_leads own r (Calling3 c) h n s k = absurd (true≢false (sym n))
row_leads own r (Identifying i) h n s k = absurd (true≢false (sym n))
row_leads own r (Answering g) h n s k = absurd (true≢false (sym n))

abbrev Led : Reply → Type 0
Led r = (is_apart r.station.place ≡ true) × Late r.sent

done_leads : (s : Station) (b : Words) (o : Offer) (d : Doing) (t : Bool) → is_apart s.place ≡ true → Fine s o → Leads t d → (t ≡ true → (done s b o d).taken ≡ false) → Led (done s b o d)
unfolding done Leads
done_leads s b o (Repeats w) t n i l y = by_repeat Led s w (λ e. (refl, single_late 0)) (λ e. (n, l))
done_leads s b o (Goes p w) t n i l y = l
done_leads s b o (Takes m) t n i l y = by_take_block Led s m s.own o i.0 i.1 (λ u w t g. (refl, block_late w g)) (refl, ααα-late)
done_leads s b o (Receives m) t n i l y = (refl, asks_late m)
done_leads s b o Opens t n i l y = (refl, requests_late s.role)
done_leads s b o (Accepts m) t n i l y =
    by_accept Led s m b o (listened_all s.case s.plus b) (λ w u. (refl, single_late _)) (refl, asks_late (other m))
done_leads s b o (Rests m w) t n i l y = (refl, l)
done_leads s b o Answers t n i l y = (refl, asks_late One)
done_leads s b o (Listens w) t n i l y =
    by_listen (λ (r : Reply). r.taken ≡ false → Led r) s w o (λ i e z k. absurd (true≢false k)) (λ i e z k. absurd (true≢false k)) (λ k. (l.0, single_late 0)) (y l.1)
done_leads s b o (Reaches p m) t n i l y = absurd l
done_leads s b o Answers3 t n i l y = absurd l
done_leads s b o (Bars j) t n i l y = absurd l
done_leads s b o (Ends j) t n i l y = absurd l
done_leads s b o (Turns j) t n i l y = absurd l
done_leads s b o (Meets j) t n i l y = absurd l
done_leads s b o (Again p w) t n i l y = absurd l
done_leads s b o (Yields m) t n i l y = (refl, βαβ-late)

pub apart_next : (c : Circuit) (e : Event) → Harmless e → places_call c e ≡ false → Apart c → Apart (next c e)
unfolding heard_of
apart_next c e h n y = go (said c e) refl
  where
    go : (a : Answer Reply) → said c e ≡ a → Apart (goes_on c e a)
    go (answered r) i =
        let b = heard e c.burst in
        let z = answers c.hearer b e.offer r i in
        let k = late_heard c.hearer.own.seven c.burst b y.burst_late (mangled e c.burst h) in
        let l = done_leads c.hearer b e.offer _ (is_stand_by c.hearer.place) y.hearer_apart (z.is_passed, z.is_fine) (row_leads c.hearer.own c.hearer.role c.hearer.place (heard_of c.hearer.own b) y.hearer_apart z.is_sound k) (λ s. ap (λ (r : Reply). r.taken) (sym z.is_done) ∙ quiet c e r i n s) in
        record { hearer_apart = y.sender_apart; sender_apart = rw z.is_done l.0; burst_late = rw z.is_done l.1 }
    go (refused m v) i = y

-- The caller has left: the other hears silence, the caller what that one still says.
pub data Waits (p : Place) : Type 0 where
  stands : (x : Waiting) → p ≡ StandBy x → Waits p
  answers_on : (g : Gathered) → p ≡ Answering g → Waits p

abbrev pub Rested : Place → Type 0
Rested p = (n : ℕ) × (p ≡ resting n)

pub data Left (c : Circuit) : Type 0 where
  hears_nobody : Waits c.hearer.place → Rested c.sender.place → c.burst ≡ silence → NothingCarried c → Left c
  hears_waiting : (g : Gathered) (v : ℕ) → Rested c.hearer.place → c.sender.place ≡ Answering g → c.burst ≡ single v → NothingCarried c → Left c

-- a single signal is no block
single_tells : (v : ℕ) → told_in (single v) ≡ nothing_told
unfolding told_in is_identity
single_tells v = rw (and-false (is_identity v), and-false (eqb v alpha))

single_no : (v : ℕ) → (is_words (single v) ααα ≡ false) × (is_words (single v) RQ×3 ≡ false)
unfolding is_words
single_no v = (and-false (eqb v alpha), and-false (eqb v rq))

module _ (c : Circuit) (e : Event) (h : Harmless e) (q : places_call c e ≡ false) (r : Reply) (is : said c e ≡ answered r) (n : NothingCarried c) (v : ℕ) (j : c.burst ≡ single v) where
  abbrev b : Words
  b = heard e c.burst

  abbrev d : Circuit
  d = answered_by c e.offer b r

  z : Answered c.hearer b e.offer r
  z = answers c.hearer b e.offer r is

  m : Mangled (single v) b
  m = subst (λ (w : Words). Mangled w b) j (mangled e c.burst h)

  called_none : call_of c.hearer.own.four b ≡ Mark.None
  called_none = no_call_lem (single v) (single_no_call v) b m c.hearer.own.four

  called3_none : call3_of c.hearer.own.seven b ≡ Part.None
  called3_none = no_call3 (single v) (single_no_call v) b m c.hearer.own.seven

  -- Stand-by hears no call in it
  listens_on : (x : Waiting) → c.hearer.place ≡ StandBy x → Rested r.station.place × (r.sent ≡ silence) × NothingCarried d
  listens_on x p =
      let g = standby_listens c.hearer b e.offer r z x p (rw called_none (both_none x.heard)) (ap (all_heard x.heard3) called3_none) in
      by_listen (λ (g : Reply). r ≡ g → g.taken ≡ false → Rested r.station.place × (r.sent ≡ silence) × NothingCarried d) c.hearer _ e.offer (λ v s w j t. absurd (true≢false t)) (λ v s w j t. absurd (true≢false t)) (λ j t. ((x.wait - 1, ap (λ (r : Reply). r.station.place) j ∙ rw (called_none, called3_none)), ap (λ (r : Reply). r.sent) j, still_none c e.offer b r n (rw (p, j) (refl, refl, refl, refl)))) g (sym (ap (λ (r : Reply). r.taken) g) ∙ quiet c e r is q (ap is_stand_by p))

  told_none : (told_in b ≡ nothing_told) ⊎ (b ≡ single v) → told_in b ≡ nothing_told
  told_none (inl x) = x
  told_none (inr x) = ap told_in x ∙ single_tells v

  -- and Answering nothing: it goes on, or is at Stand-by after the 32nd repetition
  answers_still : (g : Gathered) → c.hearer.place ≡ Answering g → Rested c.sender.place → Left d ⊎ Apart d
  unfolding done heard_of
  answers_still g p s =
      by_again (λ (w : Reply). r ≡ w → Left d ⊎ Apart d) c.hearer (Answering g) (single (asked g.stage)) (λ t j. inr (record { hearer_apart = ap is_apart s.1; sender_apart = ap (λ (r : Reply). is_apart r.station.place) j; burst_late = rw j (single_late 0) })) (λ t j. inl (hears_waiting g _ s (ap (λ (r : Reply). r.station.place) j) (ap (λ (r : Reply). r.sent) j) (still_none c e.offer b r n (rw (p, j) (refl, refl, refl, refl))))) (z.is_done ∙ rw (p, no_words (single v) b ααα m ααα-signals (single_no v).0, no_words (single v) b RQ×3 m RQ×3_signals (single_no v).1, told_none (whole_told (single v) b m), not_heard c.hearer.own.seven g.got g.stage))

  hears_none : Waits c.hearer.place → Rested c.sender.place → Left d ⊎ Apart d
  hears_none (stands x p) s =
      let g = listens_on x p in
      inr (record { hearer_apart = ap is_apart s.1; sender_apart = ap is_apart g.0.1; burst_late = subst Late (sym g.1) (single_late 0) })
  hears_none (answers_on g p) s = answers_still g p s

  hears_still : (g : Gathered) → Rested c.hearer.place → c.sender.place ≡ Answering g → Left d ⊎ Apart d
  hears_still g s p =
      let x = listens_on _ s.1 in
      inl (hears_nobody (answers_on g p) x.0 x.1 x.2)

pub left_next : (c : Circuit) (e : Event) → Harmless e → places_call c e ≡ false → Left c → Left (next c e) ⊎ Apart (next c e)
left_next c e h q y = go (said c e) refl y
  where
    go : (a : Answer Reply) → said c e ≡ a → Left c → Left (goes_on c e a) ⊎ Apart (goes_on c e a)
    go (answered r) i (hears_nobody w s j n) = hears_none c e h q r i n 0 j w s
    go (answered r) i (hears_waiting g v s p j n) = hears_still c e h q r i n v j g s p
    go (refused m v) i y = inl y
