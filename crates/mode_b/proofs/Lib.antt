-- Laws of mode B that stand beside its calls.
--     SlotLaws    each position goes out twice, in slots 2t and 2t+5
--     PhaseLaws   what counts as phasing when a receiver comes into phase
--     EndLaws     the three words behind two successive α in DX
--     Unique      no second answer satisfies the promise of slot, of receive, or of the fresh receiver
--     Refuted     wrong senders and receivers of another shape, told from the right ones; wrong fresh receivers
pub mod SlotLaws
pub mod PhaseLaws
pub mod EndLaws
pub mod Unique
pub mod Refuted
