-- No second answer: the promises of the inner functions that the questions of 02, T-08, stand on (docs/PROMISES.md), as their contracts cite
-- them, leave one.
-- Assumes nothing.
use mathlib.Core.Path.{◌≡◌, refl, sym}
use mathlib.Core.Bool.{Bool, ◌&&◌}
use Prim.Native.Nat.{ℕ}
use lib.Dec.{leb}
use Rattle.std.specs.Prelude.{if◌then◌else◌}
use Rattle.laws.proofs.Unique.{unique, unique_by}
use Rattle.signals.specs.declared.Case.{Case}
use Rattle.identity.specs.declared.Seven.{Seven}
use Rattle.identity.specs.Sums.{same_seven}
use Rattle.mode_a.specs.declared.Role.{Role}
use Rattle.mode_a.specs.declared.Number.{Number}
use Rattle.mode_a.specs.declared.Mark.{Mark}
use Rattle.mode_a.specs.declared.Part.{Part}
use Rattle.mode_a.specs.declared.Stage.{Stage}
use Rattle.mode_a.specs.declared.Words.{Words}
use Rattle.mode_a.specs.declared.Identity.{Identity}
use Rattle.mode_a.specs.declared.Waiting.{Waiting}
use Rattle.mode_a.specs.declared.Identified.{Identified}
use Rattle.mode_a.specs.declared.Listening.{Listening}
use Rattle.mode_a.specs.declared.Place.{Place}
use Rattle.mode_a.specs.declared.Place.TheVariants.{Sending, Turning, Opening, Ending, Receiving, Asking, StandBy, Lost, Calling, Calling3, Identifying, Answering}
use Rattle.mode_a.specs.declared.Offer.{Offer}
use Rattle.mode_a.specs.declared.Peer.{Peer}
use Rattle.mode_a.specs.declared.Doing.{Doing}
use Rattle.mode_a.specs.declared.Doing.TheVariants.{Repeats, Goes, Takes, Receives, Opens, Accepts, Rests, Answers, Listens, Reaches, Answers3, Bars, Ends, Turns, Meets, Again, Yields}
use Rattle.mode_a.specs.Identification.{Told, nothing_told, block_1, block_2, block_3, told_in}
use Rattle.mode_a.specs.Station.{words, no_seven}
use Rattle.mode_a.specs.Heard.{call_of}
use Rattle.mode_a.specs.Over.{listened_all}
use Rattle.mode_a.specs.Rows.{both_heard}
use Rattle.mode_a.specs.Step.{bars}
use Rattle.answering.specs.declared.Due.{Due}
use Rattle.answering.specs.Blocks.{told_as, answer_to, IsDue}
use Rattle.reasons.specs.declared.Reason.{Reason}
use Rattle.naming.specs.Places.{of_sending, of_turning, of_opening, of_ending, of_receiving, of_asking, of_stand_by, of_calling, of_calling3, of_identifying, of_answering}

-- `naming`: the reason, place by place
pub sending_unique : (number : Number) (late : Bool) (first : ℕ) (r r' : Reason) → r ≡ of_sending number late first → r' ≡ of_sending number late first → r ≡ r'
sending_unique number late first r r' p q = unique p q

pub turning_unique : (role : Role) (late : Bool) (b : Words) (r r' : Reason) → r ≡ of_turning role late b → r' ≡ of_turning role late b → r ≡ r'
turning_unique role late b r r' p q = unique p q

pub opening_unique : (late : Bool) (first : ℕ) (r r' : Reason) → r ≡ of_opening late first → r' ≡ of_opening late first → r ≡ r'
opening_unique late first r r' p q = unique p q

pub ending_unique : (number : Number) (first : ℕ) (r r' : Reason) → r ≡ of_ending number first → r' ≡ of_ending number first → r ≡ r'
ending_unique number first r r' p q = unique p q

pub receiving_unique : (late : Bool) (case : Case) (plus : Bool) (b : Words) (over : Bool) (r r' : Reason) → r ≡ of_receiving late case plus b over → r' ≡ of_receiving late case plus b over → r ≡ r'
receiving_unique late case plus b over r r' p q = unique p q

pub asking_unique : (late : Bool) (b : Words) (r r' : Reason) → r ≡ of_asking late b → r' ≡ of_asking late b → r ≡ r'
asking_unique late b r r' p q = unique p q

pub stand_by_unique : (w : Waiting) (four : Identity) (seven : Seven) (other : Peer) (b : Words) (offer : Offer) (r r' : Reason) → r ≡ of_stand_by w four seven other b offer → r' ≡ of_stand_by w four seven other b offer → r ≡ r'
stand_by_unique w four seven other b offer r r' p q = unique p q

pub calling_unique : (last : Mark) (sent first : ℕ) (r r' : Reason) → r ≡ of_calling last sent first → r' ≡ of_calling last sent first → r ≡ r'
calling_unique last sent first r r' p q = unique p q

pub calling3_unique : (sent first : ℕ) (r r' : Reason) → r ≡ of_calling3 sent first → r' ≡ of_calling3 sent first → r ≡ r'
calling3_unique sent first r r' p q = unique p q

pub identifying_unique : (late : Bool) (i : Identified) (first : ℕ) (r r' : Reason) → r ≡ of_identifying late i first → r' ≡ of_identifying late i first → r ≡ r'
identifying_unique late i first r r' p q = unique p q

pub answering_unique : (late : Bool) (stage : Stage) (b : Words) (r r' : Reason) → r ≡ of_answering late stage b → r' ≡ of_answering late stage b → r ≡ r'
answering_unique late stage b r r' p q = unique p q

-- parts of the step that they share with it: `calling::call_of`, `calling::both_heard`, `acceptance::listened_all`, `offers::has_to_wait`
pub call_of_four_unique : (four : Identity) (b : Words) (r r' : Mark) → r ≡ call_of four b → r' ≡ call_of four b → r ≡ r'
call_of_four_unique four b r r' p q = unique p q

pub both_heard_unique : (before now : Mark) (r r' : Bool) → r ≡ both_heard before now → r' ≡ both_heard before now → r ≡ r'
both_heard_unique before now r r' p q = unique p q

pub listened_all_unique : (case : Case) (plus : Bool) (b : Words) (r r' : Listening) → r ≡ listened_all case plus b → r' ≡ listened_all case plus b → r ≡ r'
listened_all_unique case plus b r r' p q = unique p q

pub has_to_wait_unique : (other : Peer) (wait : ℕ) (to : Seven) (r r' : Bool) → r ≡ (leb 1 wait && bars other to) → r' ≡ (leb 1 wait && bars other to) → r ≡ r'
has_to_wait_unique other wait to r r' p q = unique p q

-- `answering::told_in`: which block a burst is can be read back from what it tells
abbrev part_of : Told → Part
part_of nothing_told = Part.None
part_of (block_1 x y) = Part.One
part_of (block_2 x y) = Part.Two
part_of (block_3 x y z) = Part.Three

part_back : (b : Words) (r : Part) → part_of (told_as r b) ≡ r
part_back b Part.None = refl
part_back b Part.One = refl
part_back b Part.Two = refl
part_back b Part.Three = refl

pub told_in_unique : (b : Words) (r r' : Part) → told_as r b ≡ told_in b → told_as r' b ≡ told_in b → r ≡ r'
told_in_unique b r r' p q = unique_by (λ x. told_as x b) part_of (part_back b) p q

-- `answering::due_at`, of a burst that is an identification block: of one that is none, behind the first stage, it leaves open whether it
-- is the block before or neither, which the row answers alike. With nothing gathered and a block of ones the three answers differ.
abbrev ones : Words
ones = words 1 1 1

abbrev got_in : Place → Seven
got_in (Sending h) = no_seven
got_in (Turning n) = no_seven
got_in Opening = no_seven
got_in (Ending e) = no_seven
got_in (Receiving n) = no_seven
got_in Asking = no_seven
got_in (StandBy w) = no_seven
got_in Lost = no_seven
got_in (Calling c) = no_seven
got_in (Calling3 c) = no_seven
got_in (Identifying i) = no_seven
got_in (Answering g) = g.got

abbrev due_in : Doing → Due
due_in (Repeats w) = Due.Neither
due_in (Goes p w) = Due.Awaited
due_in (Takes n) = Due.Neither
due_in (Receives n) = Due.Neither
due_in Opens = Due.Neither
due_in (Accepts n) = Due.Neither
due_in (Rests n w) = Due.Neither
due_in Answers = Due.Neither
due_in (Listens w) = Due.Neither
due_in (Reaches p n) = Due.Neither
due_in Answers3 = Due.Neither
due_in (Bars i) = Due.Neither
due_in (Ends i) = Due.Neither
due_in (Turns i) = Due.Neither
due_in (Meets i) = Due.Neither
due_in (Again p w) = if same_seven no_seven (got_in p) then Due.Neither else Due.Before
due_in (Yields n) = Due.Neither

due_back : (s : Stage) (p : Part) → ¬ (p ≡ Part.None) → (d : Due) → due_in (answer_to d no_seven no_seven s p ones) ≡ d
unfolding same_seven
due_back s Part.None some d = absurd (some refl)
due_back s Part.One some Due.Awaited = refl
due_back s Part.One some Due.Before = refl
due_back s Part.One some Due.Neither = refl
due_back s Part.Two some Due.Awaited = refl
due_back s Part.Two some Due.Before = refl
due_back s Part.Two some Due.Neither = refl
due_back s Part.Three some Due.Awaited = refl
due_back s Part.Three some Due.Before = refl
due_back s Part.Three some Due.Neither = refl

pub due_at_unique : (stage : Stage) (block : Part) → ¬ (block ≡ Part.None) → (r r' : Due) → IsDue stage block r → IsDue stage block r' → r ≡ r'
due_at_unique stage block some r r' p q =
    unique_by (λ d. answer_to d no_seven no_seven stage block ones) due_in (due_back stage block some) (sym (p no_seven no_seven ones)) (sym (q no_seven no_seven ones))
