-- What the functions of this crate answer, beside the rules of `mode_a`.
--     Goes   what goes next, and the answer that takes it
pub mod Goes
