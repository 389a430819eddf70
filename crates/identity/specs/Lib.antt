-- Identity signals (001, 2.4 and 2.5; 02, T-02 and T-05).
--     Table3     tables 3a and 3b: the letters of identities and their numbers
--     Sums       the seven signals of an identity, and their three check-sums
--     Strength   what is proved of the tables; what the check-sums tell of a wrong identity, and what they do not
pub mod Table3
pub mod Sums
pub mod Strength
