-- What links the circuit again after a reply: what more than one row of a link has in common. x is the place of the station that hears, p
-- that of the station that has sent, w what that one sent and b what is heard of it; ox and op are owed to the one and to the other.
--     goes         a row that takes nothing, prints nothing and confirms nothing
--     again        the row repeats: the link is the one with the stations exchanged, also where this repetition is the 32nd
--     or_rests     the same in identification, where the 32nd leads to Stand-by
--     taken        the offer is taken, or the next block of an answer that is owed; with a confirmation, or without
--     accepted     the block is accepted and printed
--     not_accepted, ended, standing, not_called    the rows of Receiving, Ending and Stand-by, whatever the other is at
-- Assumes nothing.
use mathlib.Core.Path.{◌≡◌, refl, ap, sym, subst, ◌∙◌}
use mathlib.Core.Bool.{Bool, true, false, not, ◌&&◌, ◌||◌, and-false, true≢false}
use mathlib.Core.Logic.{◌⊎◌, inl, inr}
use mathlib.Core.List.{List, [], ◌∷◌}
use Prim.Native.Nat.{ℕ, ◌+◌, ◌%◌}
use native.Mathlib.Omega.{arith}
use lib.Dec.{eqb, leb}
use borrow.Author.Tests.{eqb-true, ne_eqb}
use Rattle.std.specs.Prelude.{if◌then◌else◌}
use Rattle.signals.specs.Meaning.{meaning_of, traffic_of, alpha, beta, rq, cs4}
use Rattle.identity.specs.declared.Seven.{Seven}
use Rattle.identity.specs.Table3.{is_identity}
use Rattle.identity.specs.Sums.{is_callable7}
use Rattle.mode_a.specs.declared.Number.{Number}
use Rattle.mode_a.specs.declared.Number.TheVariants.{One, Two}
use Rattle.mode_a.specs.declared.Own.{Own}
use Rattle.mode_a.specs.declared.Code.{Code}
use Rattle.mode_a.specs.declared.Owed.{Owed as Answerback}
use Rattle.mode_a.specs.declared.Owed.TheVariants.{Nothing, Back, Keep}
use Rattle.mode_a.specs.declared.Words.{Words}
use Rattle.mode_a.specs.declared.Ended.{Ended}
use Rattle.mode_a.specs.declared.Mark.{Mark}
use Rattle.mode_a.specs.declared.Part.{Part}
use Rattle.mode_a.specs.declared.Identity.{Identity}
use Rattle.mode_a.specs.declared.Waiting.{Waiting}
use Rattle.mode_a.specs.declared.Place.{Place}
use Rattle.mode_a.specs.declared.Place.TheVariants.{Sending, Ending, Receiving, StandBy}
use Rattle.mode_a.specs.declared.Offer.{Offer}
use Rattle.mode_a.specs.declared.Station.{Station}
use Rattle.mode_a.specs.declared.Listening.{Listening}
use Rattle.mode_a.specs.declared.Doing.{Doing}
use Rattle.mode_a.specs.declared.Doing.TheVariants.{Goes, Rests, Again}
use Rattle.mode_a.specs.declared.Reply.{Reply}
use Rattle.mode_a.specs.Calls.{is_callable, call_block1, call_block2, call3_block1, call3_block2, call3_block3, next_block}
use Rattle.mode_a.specs.Station.{words, list_of, single, silence, βαβ, ααα, RQ×3, same, asks_for, resting}
use Rattle.mode_a.specs.Heard.{First, Cs, Cs3, Rq, Else, Other, further_of, first_of, may_hold, is_block, is_words, call_of, call3_of, heard_of}
use Rattle.mode_a.specs.Answerback.{passes, block_owed}
use Rattle.mode_a.specs.Rows.{ending, ends_again, receiving, both_heard, all_heard, heard_then, stand_by}
use Rattle.mode_a.specs.Step.{stands_at, rested, sends, takes_offer, takes_owed, takes, repeats, accepts_heard, traffic_in, unidentified, done}
use Rattle.runs.specs.Places.{is_receiving}
use Rattle.runs.specs.Runs.{InOrder, taking}
use Rattle.runs.specs.Taken.{block_of, block_from}
use Rattle.runs.proofs.LetterLaws.{letters_of}
use Rattle.runs.proofs.CodeLaws.{is_owed, owed_block}
use Rattle.runs.proofs.RowLaws.{by_standing}
use Rattle.runs.proofs.StepLaws.{placed, one_more, by_repeat, by_owed, by_again, by_accept, by_listen}
use Rattle.runs.specs.Circuit.{traffic, confirmed_of, without_zeros}
use Rattle.circuit.proofs.DamageLaws.{all_three, Mangled, Signals, FirstIs, first_heard_lem, four_letters, whole_call, whole_call3}
use Rattle.circuit.proofs.Link.{Owed, none, unheard, heard, held, no_call, Link, s1_block, s1_other, s2_cs3, e1_alphas, aloud, no_more, Moved, stays, takes_block, confirms, confirms_and_takes, nothing_new, came, After}

-- the bursts of 01, by what they say
pub ααα-signals : Signals ααα
unfolding meaning_of
ααα-signals = (λ e. omega arith, λ e. omega arith, λ e. omega arith)

pub βαβ-signals : Signals βαβ
unfolding meaning_of
βαβ-signals = (λ e. omega arith, λ e. omega arith, λ e. omega arith)

pub RQ×3_signals : Signals RQ×3
unfolding meaning_of
RQ×3_signals = (λ e. omega arith, λ e. omega arith, λ e. omega arith)

pub asks_first : (n : Number) → first_of (asks_for n).0 ≡ Cs n
unfolding first_of
asks_first One = refl
asks_first Two = refl

pub silence_first : first_of silence.0 ≡ Else Other
unfolding first_of further_of is_identity
silence_first = refl

-- a call block is neither a block nor ααα, for the RQ in it
pub call_no_block : (i : Identity) (n : ℕ) → (is_block (next_block i n) ≡ false) × (is_words (next_block i n) ααα ≡ false)
unfolding is_block is_words next_block may_hold traffic_of meaning_of
call_no_block i n = go (eqb (n % 2) 0)
  where
    first_no : (x y : ℕ) → (is_block (words x rq y) ≡ false) × (is_words (words x rq y) ααα ≡ false)
    first_no x y = (and-false (may_hold x), and-false (eqb x alpha))

    second_no : (x y : ℕ) → (is_block (words x y rq) ≡ false) × (is_words (words x y rq) ααα ≡ false)
    second_no x y = (rw (and-false (may_hold y)) (and-false (may_hold x)), rw (and-false (eqb y alpha)) (and-false (eqb x alpha)))

    go : (t : Bool) → (is_block (if t then call_block1 i else call_block2 i) ≡ false) × (is_words (if t then call_block1 i else call_block2 i) ααα ≡ false)
    go true = first_no i.0 i.1
    go false = second_no i.2 i.3

-- what is printed of a block is its traffic
data Holds (x : ℕ) : Type 0 where
  idle_word : eqb x beta ≡ true → traffic_of x ≡ false → Holds x
  signal : eqb x beta ≡ false → traffic_of x ≡ true → eqb x 0 ≡ false → Holds x

holds : (x : ℕ) → may_hold x ≡ true → Holds x
unfolding may_hold
holds x h = go (traffic_of x) (eqb x beta) refl refl h
  where
    go : (t i : Bool) → traffic_of x ≡ t → eqb x beta ≡ i → t || i ≡ true → Holds x
    go true true p q e = unfold traffic_of meaning_of in absurd (true≢false (sym p ∙ ap traffic_of (eqb-true x beta q)))
    go true false p q e = signal q p (ne_eqb x 0 (λ z. unfold traffic_of meaning_of in absurd (true≢false (sym p ∙ ap traffic_of z))))
    go false true p q e = idle_word q p
    go false false p q e = absurd (true≢false (sym e))

pub printed_is : (b : Words) → is_block b ≡ true → without_zeros (list_of (traffic_in b)) ≡ traffic (list_of b)
unfolding is_block traffic_in traffic
printed_is b e =
    let r = all_three (may_hold b.0) (may_hold b.1) (may_hold b.2) e in
    go (holds b.0 r.0) (holds b.1 r.1) (holds b.2 r.2)
  where
    go : Holds b.0 → Holds b.1 → Holds b.2 → without_zeros (list_of (traffic_in b)) ≡ traffic (list_of b)
    go (idle_word p q) (idle_word p' q') (idle_word p'' q'') = rw (p, q, p', q', p'', q'')
    go (idle_word p q) (idle_word p' q') (signal p'' q'' z'') = rw (p, q, p', q', p'', q'', z'')
    go (idle_word p q) (signal p' q' z') (idle_word p'' q'') = rw (p, q, p', q', p'', q'', z')
    go (idle_word p q) (signal p' q' z') (signal p'' q'' z'') = rw (p, q, p', q', p'', q'', z', z'')
    go (signal p q z) (idle_word p' q') (idle_word p'' q'') = rw (p, q, p', q', p'', q'', z)
    go (signal p q z) (idle_word p' q') (signal p'' q'' z'') = rw (p, q, p', q', p'', q'', z, z'')
    go (signal p q z) (signal p' q' z') (idle_word p'' q'') = rw (p, q, p', q', p'', q'', z, z')
    go (signal p q z) (signal p' q' z') (signal p'' q'' z'') = rw (p, q, p', q', p'', q'', z, z', z'')

-- a row that takes nothing, prints nothing and confirms nothing
pub goes : {l : List Words} (s : Station) (v : Words) {x p : Place} {ox op : Owed} → s.place ≡ x → Link p x v op ox → After false l ox op p (sends s v) [] []
goes s v {x} {p} {ox} {op} e k =
    record { place = x; word = v; ox' = ox; op' = op; link = k; says = aloud e refl; sends = stays; hears = nothing_new }

-- the same again, or Lost
pub again : {l : List Words} (s : Station) (v : Words) {x p : Place} {ox op : Owed} → s.place ≡ x → Link p x v op ox → After false l ox op p (repeats s v) [] []
again {l} s v {x} {p} {ox} {op} e k =
    by_repeat (λ (r : Reply). After false l ox op p r [] []) s v (λ t. record { place = x; word = v; ox' = ox; op' = op; link = k; says = no_more refl refl; sends = stays; hears = nothing_new }) (λ t. goes (one_more s) v e k)

-- the same again in identification, standing so, or Stand-by
pub or_rests : {l : List Words} (s : Station) (b : Words) (o : Offer) (x : Place) (v : Words) {p : Place} → Link p x v none none →
    ((n : ℕ) → Link p (resting n) silence none none) → After false l none none p (done s b o (Again x v)) [] []
unfolding done
or_rests {l} s b o x v {p} k q =
    by_again (λ (r : Reply). After false l none none p r [] []) s x v (λ t. goes (rested s 0) silence refl (q _)) (λ t. goes (stands_at s x (s.count + 1) s.case s.plus) v refl k)

-- an offer taken: where nothing was owed, or with the confirmation of the block before
pub data Ready : Owed → List Words → Type 0 where
  owed_nothing : Ready none []
  confirmed_now : {b : Words} → Ready (heard b) (b ∷ [])

takes_now : {o : Owed} {l : List Words} (a : Words) → Ready o l → Moved o (unheard a) (a ∷ []) l
takes_now a owed_nothing = takes_block
takes_now a confirmed_now = confirms_and_takes

ends_now : {o : Owed} {l : List Words} → Ready o l → Moved o none [] l
ends_now owed_nothing = stays
ends_now confirmed_now = confirms

offer_taken : (s : Station) (n : Number) (own : Own) (o : Offer) {ox : Owed} {l : List Words} → InOrder own o → Ready ox l →
    After true (block_of o) ox none (Receiving n) (takes_offer s n o) l []
unfolding is_block may_hold traffic_of meaning_of
offer_taken s n own (Offer.Text a) i y = record { place = _; word = _; ox' = _; op' = _; link = s1_block i; says = aloud refl refl; sends = takes_now a y; hears = nothing_new }
offer_taken s n own Offer.Over i y = record { place = _; word = _; ox' = _; op' = _; link = s1_block refl; says = aloud refl refl; sends = takes_now _ y; hears = nothing_new }
offer_taken s n own Offer.End i y = record { place = _; word = _; ox' = _; op' = _; link = e1_alphas; says = aloud refl refl; sends = ends_now y; hears = nothing_new }
offer_taken s n own Offer.Nothing i y = record { place = _; word = _; ox' = _; op' = _; link = s1_block refl; says = aloud refl refl; sends = takes_now _ y; hears = nothing_new }
offer_taken s n own (Offer.Call x) i y = record { place = _; word = _; ox' = _; op' = _; link = s1_block refl; says = aloud refl refl; sends = takes_now _ y; hears = nothing_new }
offer_taken s n own (Offer.Call3 x) i y = record { place = _; word = _; ox' = _; op' = _; link = s1_block refl; says = aloud refl refl; sends = takes_now _ y; hears = nothing_new }

-- what a station takes where its row takes: the block of its offer, or the next block of an answer that is owed (02, T-06)
abbrev pub to_take : Station → Offer → List Words
to_take s o = block_from s.own.code s.owed o

takes_owed_lem : (k : Code) (w : Answerback) (o : Offer) → is_owed w ≡ true → block_from k w o ≡ block_owed k w ∷ []
takes_owed_lem k Nothing o e = absurd (true≢false (sym e))
takes_owed_lem k (Back i) o e = refl
takes_owed_lem k (Keep i) o e = refl

-- as a step is answered only where the code passes and the offer is in order, either is a block
abbrev pub Fine : Station → Offer → Type 0
Fine s o = (passes s.own.code ≡ true) × InOrder s.own o

pub taken : (s : Station) (n : Number) (o : Offer) {ox : Owed} {l : List Words} → Fine s o → Ready ox l →
    After true (to_take s o) ox none (Receiving n) (takes s n o) l []
taken s n o {ox} {l} (k, i) y =
    by_owed (λ (r : Reply). After true (to_take s o) ox none (Receiving n) r l []) s n o (λ e. subst (λ (w : Answerback). After true (block_from s.own.code w o) ox none (Receiving n) (takes_offer s n o) l []) (sym e) (offer_taken s n s.own o i y)) (λ e. subst (λ (m : List Words). After true m ox none (Receiving n) (takes_owed s n s.owed) l []) (sym (takes_owed_lem s.own.code s.owed o e)) (record { place = _; word = _; ox' = _; op' = _; link = s1_block (owed_block s.own.code s.owed k); says = aloud refl refl; sends = takes_now _ y; hears = nothing_new }))

-- a block accepted; D in figures in it is one more cause of CS3 (02, T-06)
pub accepted : {m : List Words} (s : Station) (n : Number) (b : Words) (o : Offer) (l : Listening) → is_block b ≡ true →
    After false m none (unheard b) (Sending (held n b)) (accepts_heard s n b o l) [] (b ∷ [])
accepted {m} s n b o l i =
    by_accept (λ (r : Reply). After false m none (unheard b) (Sending (held n b)) r [] (b ∷ [])) s n b o l (λ w u. record { place = _; word = _; ox' = _; op' = _; link = s2_cs3; says = aloud refl refl; sends = stays; hears = rw (printed_is b i) came }) (record { place = _; word = _; ox' = _; op' = _; link = s1_other; says = aloud refl refl; sends = stays; hears = rw (printed_is b i) came })

-- No call is heard in a burst that no call block ends like.
pub silence_no_call : no_call silence ≡ true
unfolding is_identity
silence_no_call = refl

pub alphas_no_call : no_call ααα ≡ true
unfolding is_identity
alphas_no_call = refl

pub single_no_call : (v : ℕ) → no_call (single v) ≡ true
unfolding is_identity
single_no_call v = refl

pub asks_no_call : (n : Number) → no_call (asks_for n) ≡ true
unfolding is_identity
asks_no_call One = refl
asks_no_call Two = refl

pub both_none : (m : Mark) → both_heard m Mark.None ≡ false
both_none Mark.None = refl
both_none Mark.One = refl
both_none Mark.Two = refl

-- a burst is another than one with another third word
pub other_third : (w v : Words) → eqb w.2 v.2 ≡ false → is_words w v ≡ false
unfolding is_words
other_third w v e = rw (e, and-false (eqb w.1 v.1), and-false (eqb w.0 v.0))

not_either : (s t : Bool) → not (s || t) ≡ true → (s ≡ false) × (t ≡ false)
not_either true t e = absurd (true≢false (sym e))
not_either false true e = absurd (true≢false (sym e))
not_either false false e = (refl, refl)

-- a word that is no letter is none of an identity's
no_such_letter : (x v : ℕ) → is_identity x ≡ false → is_identity v ≡ true → eqb x v ≡ false
no_such_letter x v n l = ne_eqb x v (λ e. true≢false (sym l ∙ sym (ap is_identity e) ∙ n))

module _ (w : Words) (q : no_call w ≡ true) where
  ends_otherwise : (is_identity w.2 ≡ false) × (eqb w.2 rq ≡ false)
  ends_otherwise = not_either (is_identity w.2) (eqb w.2 rq) q

  none_sent : (i : Identity) → call_of i w ≡ Mark.None
  unfolding call_of
  none_sent i = go (is_callable i) refl
    where
      go : (t : Bool) → is_callable i ≡ t → (if t then (if is_words w (call_block1 i) then Mark.One else if is_words w (call_block2 i) then Mark.Two else Mark.None) else Mark.None) ≡ Mark.None
      go true e =
          let l = four_letters i e in
          rw (other_third w (call_block1 i) (no_such_letter w.2 i.1 ends_otherwise.0 l.1), other_third w (call_block2 i) ends_otherwise.1)
      go false e = refl

  none_sent3 : (i : Seven) → call3_of i w ≡ Part.None
  unfolding call3_of
  none_sent3 i = go (is_callable7 i) refl
    where
      go : (t : Bool) → is_callable7 i ≡ t → (if t then (if is_words w (call3_block1 i) then Part.One else if is_words w (call3_block2 i) then Part.Two else if is_words w (call3_block3 i) then Part.Three else Part.None) else Part.None) ≡ Part.None
      go true e =
          let l = letters_of i e in
          rw (other_third w (call3_block1 i) (no_such_letter w.2 i.1 ends_otherwise.0 l.second), other_third w (call3_block2 i) (no_such_letter w.2 i.3 ends_otherwise.0 l.fourth), other_third w (call3_block3 i) (no_such_letter w.2 i.6 ends_otherwise.0 l.seventh))
      go false e = refl

  pub no_call_lem : (b : Words) → Mangled w b → (i : Identity) → call_of i b ≡ Mark.None
  no_call_lem b m i = go (whole_call w b m i)
    where
      go : (call_of i b ≡ Mark.None) ⊎ (b ≡ w) → call_of i b ≡ Mark.None
      go (inl e) = e
      go (inr e) = ap (call_of i) e ∙ none_sent i

  pub no_call3 : (b : Words) → Mangled w b → (i : Seven) → call3_of i b ≡ Part.None
  no_call3 b m i = go (whole_call3 w b m i)
    where
      go : (call3_of i b ≡ Part.None) ⊎ (b ≡ w) → call3_of i b ≡ Part.None
      go (inl e) = e
      go (inr e) = ap (call3_of i) e ∙ none_sent3 i

-- The row of each place, at a station that hears b: what was sent is w.
pub first_of_lem : {w b : Words} (f : First) → Mangled w b → first_of w.0 ≡ f → FirstIs f (first_of b.0)
first_of_lem {w} {b} f m e = subst (λ (f : First). FirstIs f (first_of b.0)) e (first_heard_lem w.0 b.0 m.word0)

abbrev pub Row : Station → Words → Offer → Place → Place → Owed → Owed → Doing → First → Bool → Type 0
Row s b o x p ox op d f t = After (taking x f) (to_take s o) ox op p (done (placed s x) b o d) (confirmed_of x f) (if is_receiving x && t then b ∷ [] else [])

-- at Stand-by no call is placed
abbrev pub Quiet : Reply → Type 0
Quiet r = r.taken ≡ false

module _ (s : Station) (b : Words) (o : Offer) where
  -- Receiving: "All else, any RQ included: ask for n again."
  pub not_accepted : (n : Number) {p : Place} {ox op : Owed} → is_block b ≡ false → is_words b ααα ≡ false →
      Link p (Receiving n) (asks_for n) op ox → Row s b o (Receiving n) p ox op (receiving n (heard_of s.own b)) (first_of b.0) (is_block b)
  unfolding done heard_of
  not_accepted n i j l = rw (i, j) (again (placed s (Receiving n)) (asks_for n) refl l)

  -- Ending: "ααα again; if it has been sent four times, Stand-by, silent"
  ends_again_lem : {p : Place} (e : Ended) (f : First) →
      Link p (Ending (record { number = e.number; total = e.total + 1 })) ααα none none → ((n : ℕ) → Link p (resting n) silence none none) →
      (t : Bool) →
      Row s b o (Ending e) p none none (if t then Rests 0 silence else Goes (Ending (record { number = e.number; total = e.total + 1 })) ααα) f (is_block b)
  unfolding done
  ends_again_lem e f l q true = goes _ _ refl (q _)
  ends_again_lem e f l q false = goes _ _ refl l

  pub ended : {p : Place} (e : Ended) (f : First) →
      Link p (Ending (record { number = e.number; total = e.total + 1 })) ααα none none → ((n : ℕ) → Link p (resting n) silence none none) →
      Row s b o (Ending e) p none none (ending e f) f (is_block b)
  unfolding done
  ended {p} e (Cs n) l q = go (same n e.number)
    where
      go : (t : Bool) → Row s b o (Ending e) p none none (if t then ends_again e else Rests 0 silence) (Cs n) (is_block b)
      go true = ends_again_lem e (Cs n) l q (leb 4 e.total)
      go false = goes _ _ refl (q _)
  ended e Cs3 l q = ends_again_lem e Cs3 l q (leb 4 e.total)
  ended e Rq l q = ends_again_lem e Rq l q (leb 4 e.total)
  ended e (Else x) l q = ends_again_lem e (Else x) l q (leb 4 e.total)

  -- Stand-by: it hears the last block of a call to it, of two or of three, or it listens on; it places no call
  pub standing : (x : Waiting) {p : Place} →
      (both_heard x.heard (call_of s.own.four b) ≡ true → Link p (Receiving One) (asks_for One) none none) →
      (all_heard x.heard3 (call3_of s.own.seven b) ≡ true → Link p unidentified (single cs4) none none) →
      ((n : ℕ) → Link p (StandBy (record { wait = n; heard = call_of s.own.four b; heard3 = heard_then x.heard3 (call3_of s.own.seven b) })) silence none none) →
      Quiet (done (placed s (StandBy x)) b o (stand_by x (heard_of s.own b).call (heard_of s.own b).call3)) →
      Row s b o (StandBy x) p none none (stand_by x (heard_of s.own b).call (heard_of s.own b).call3) (first_of b.0) (is_block b)
  unfolding done heard_of
  standing x {p} two three on =
      by_standing (λ (d : Doing). Quiet (done (placed s (StandBy x)) b o d) → After false (to_take s o) none none p (done (placed s (StandBy x)) b o d) [] []) x (call_of s.own.four b) (call3_of s.own.seven b) (λ t q. goes _ _ refl (two t)) (λ t u q. goes _ _ refl (three u)) (λ t u. by_listen (λ (r : Reply). Quiet r → After false (to_take s o) none none p r [] []) (placed s (StandBy x)) _ o (λ i e z q. absurd (true≢false q)) (λ i e z q. absurd (true≢false q)) (λ q. goes _ _ refl (on _)))

  pub not_called : (x : Waiting) (w : Words) {p : Place} → no_call w ≡ true → Mangled w b → ((z : Waiting) → Link p (StandBy z) silence none none) →
      Quiet (done (placed s (StandBy x)) b o (stand_by x (heard_of s.own b).call (heard_of s.own b).call3)) →
      Row s b o (StandBy x) p none none (stand_by x (heard_of s.own b).call (heard_of s.own b).call3) (first_of b.0) (is_block b)
  not_called x w q m l =
      standing x (λ t. absurd (true≢false (sym t ∙ ap (both_heard x.heard) (no_call_lem w q b m s.own.four) ∙ both_none x.heard))) (λ t. absurd (true≢false (sym t ∙ ap (all_heard x.heard3) (no_call3 w q b m s.own.seven)))) (λ n. l _)
