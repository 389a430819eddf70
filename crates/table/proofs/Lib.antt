-- Laws of the table that the crates above cite.
--     KindLaws    what the rows ask of a burst is what they ask of its kind
--     ApartLaws   no two of the kinds may be merged
pub mod KindLaws
pub mod ApartLaws
