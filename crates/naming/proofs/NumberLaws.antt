-- `==` of two numbers is the papers' word for it. Assumes nothing.
use mathlib.Core.Path.{◌≡◌, refl}
use denote.Enum.Bare.{sameb}
use Rattle.mode_a.specs.declared.Number.{Number}
use Rattle.mode_a.specs.declared.Number.TheVariants.{One, Two}
use Rattle.mode_a.specs.contracts.Number.{the_type}
use Rattle.mode_a.specs.Station.{same}

pub number_eq : (n m : Number) → sameb the_type n m ≡ same n m
number_eq One One = refl
number_eq One Two = refl
number_eq Two One = refl
number_eq Two Two = refl
