-- `sending::word_at` meets its contract. Assumes nothing.
use mathlib.Core.Path.{sym, ◌∙◌}
use Prim.Native.Nat.{◌+◌}
use lib.ListN.{length}
use Rattle.sending.proofs.SlotLaws.{index_lt}
use Rattle.sending.proofs.word_at.Goals as goal

pub traffic-requires : goal.traffic-requires
traffic-requires c =
    index_lt (length c.args.text.now + 2) c.args.t c.in-Traffic.index (sym c.stands_at.ensures ∙ c.in-Traffic.is)
