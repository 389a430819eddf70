-- `printing::print_run` meets its contract: the words passed are printed, all in the case of the run. Assumes nothing.
use mathlib.Core.Path.{sym, ◌∙◌}
use Rattle.text.specs.Printing.{may_print}
use Rattle.judging.proofs.SizeLaws.{passes}
use Rattle.printing.proofs.RunLaws.{run_silent, run_room, run_prints}
use Rattle.printing.proofs.print_run.Goals as goal
use Rattle.printing.proofs.print_run.Goals.{then-byte-eq0+else-word-leaving, else-byte-eq0}

pub glyph-byte-requires : goal.glyph-byte-requires
glyph-byte-requires c =
    passes may_print c.args.judged.words.now c.loop-i.i c.loop-i-test.true c.args.judged.may

pub bounds-room-next : goal.bounds-room-next
bounds-room-next c =
    run_room c.loop-i.invariant c.loop-i-test.true c.glyph-byte.ensures c.if-byte-eq0.false c.requires.1

pub loop-i-preserved : goal.loop-i-preserved
loop-i-preserved c =
    let l = c.loop-i in
    let h = c.loop-i-test.true in
    let is = c.glyph-byte.ensures in
    elim c.if-byte-eq0.branch [
      | then-byte-eq0+else-word-leaving w ↦ rw (w.room-is, w.next-is) (run_silent l.invariant h is w.if-byte-eq0.true (λ e. w.if-word-leaving.false (e ∙ sym w.leaving.ensures)))
      | else-byte-eq0 w ↦ rw (w.room-is, w.next-is) (run_prints l.invariant h is w.if-byte-eq0.false)
    ]
