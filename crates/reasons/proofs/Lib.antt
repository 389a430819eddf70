-- Laws of the reasons (02, T-08).
--     TestLaws     what a test that passed, or did not, tells
--     JudgedLaws   the earliest word that fails a test: the search finds it, and there is no other
--     RowLaws      the row of Receiving alone accepts a block, that of Stand-by alone answers a call
--     HeldLaws     where a test of the definition passes, its reason holds
--     FirstLaws    where a reason holds, the definition's test passes
--     ReasonLaws   each reason is given exactly when its condition holds and none before it does
--     Unique       no second answer satisfies the promise of `why`, or of `star`
--     Refuted      wrong readings of 02's list, each told from the right one by a station and a burst, or by two copies
pub mod TestLaws
pub mod JudgedLaws
pub mod RowLaws
pub mod HeldLaws
pub mod FirstLaws
pub mod ReasonLaws
pub mod Unique
pub mod Refuted
