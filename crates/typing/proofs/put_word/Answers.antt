-- `typing::put_word` meets its contract: nothing is put for 0; else the byte of the signal, where it has one. Assumes nothing.
use mathlib.Core.Path.{◌≡◌, sym, ◌∙◌}
use mathlib.Core.List.{[], ◌∷◌}
use Prim.Native.Nat.{ℕ}
use lib.Seq.{set_out}
use borrow.Author.Tests.{ltb-false}
use Rattle.signals.specs.declared.Case.{Case}
use Rattle.text.specs.Printing.{bytes_of}
use Rattle.printing.specs.Glyph.{put_of}
use Rattle.printing.proofs.GlyphLaws.{put_none, put_one}
use Rattle.typing.proofs.TypingLaws.{none_in, one_in, types_none, types_silent, stored, dropped, types_byte}
use Rattle.typing.proofs.put_word.Goals as goal
use Rattle.typing.proofs.put_word.Goals.{then-write-fits, else-write-fits}

-- what the glyph says of a word
silent : (c : Case) (w : ℕ) {g : ℕ} → put_of g ≡ bytes_of c w → g ≡ 0 → bytes_of c w ≡ []
silent c w {g} is z = sym is ∙ put_none g z

one : (c : Case) (w : ℕ) {g : ℕ} → put_of g ≡ bytes_of c w → (g ≡ 0 → ⊥) → bytes_of c w ≡ g ∷ []
one c w {g} is f = sym is ∙ put_one g f

pub returns-then-word-eq0 : goal.returns-then-word-eq0
returns-then-word-eq0 c = rw (none_in c.args.word c.if-word-eq0.true) (types_none c.args.typed c.args.write c.args.room.now)

pub glyph-byte-requires : goal.glyph-byte-requires
glyph-byte-requires c = c.requires.0 c.if-word-eq0.false

pub returns-then-byte-eq0 : goal.returns-then-byte-eq0
returns-then-byte-eq0 c =
    let g = c.glyph-byte in
    rw (one_in c.args.word c.if-word-eq0.false, c.case_after-case.ensures)
    (types_silent c.args.typed c.args.word c.args.write c.args.room.now (silent c.args.typed.case c.args.word g.ensures c.if-byte-eq0.true))

pub returns : goal.returns
returns c =
    let g = c.glyph-byte in
    rw (one_in c.args.word c.if-word-eq0.false, c.case_after-case.ensures)
    (types_byte c.args.typed c.args.word c.args.write c.args.room.now (one c.args.typed.case c.args.word g.ensures c.if-byte-eq0.false)
    (elim c.if-write-fits.branch [
      | then-write-fits w ↦ w.room-is ∙ stored c.args.write _ c.args.room.now c.args.typed.to g.result w.if-write-fits.true
      | else-write-fits w ↦
          w.room-is ∙ dropped c.args.write _ c.args.room.now c.args.typed.to g.result w.if-write-fits.false
          (λ h. set_out c.args.room.now c.args.typed.to g.result (ltb-false _ _ h))
    ]))
