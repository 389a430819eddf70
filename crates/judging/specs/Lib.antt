-- What the functions answer, beside the rules of `text`.
--     Size   how many bytes a word prints
pub mod Size
