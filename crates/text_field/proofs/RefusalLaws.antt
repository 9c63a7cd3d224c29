-- Laws of the refusals' numbers. Assumes nothing.
use Prim.Native.Nat.{◌<◌}
use native.Mathlib.Omega.{arith}
use Rattle.text_field.specs.declared.refusal.Refusal.{Refusal}
use Rattle.text_field.specs.declared.refusal.Refusal.TheVariants.{TooLong, Malformed, OutOfRange, NotAscending, TooManyRows, NoOrder, NoQuery, NoPathRow, NoRoom, NoPrinting, NoDeclaration, NoExpression, TooManyStates, NoOldForm, NoList, NoDrawing, OtherScopes}
use Rattle.text_field.specs.Refusal.{number_of}

-- the numbers stand from 1 to 19
pub number_positive : (r : Refusal) → 0 < number_of r
unfolding number_of
number_positive TooLong = omega arith
number_positive Malformed = omega arith
number_positive OutOfRange = omega arith
number_positive NotAscending = omega arith
number_positive TooManyRows = omega arith
number_positive NoOrder = omega arith
number_positive NoQuery = omega arith
number_positive NoPathRow = omega arith
number_positive NoRoom = omega arith
number_positive NoPrinting = omega arith
number_positive NoDeclaration = omega arith
number_positive NoExpression = omega arith
number_positive TooManyStates = omega arith
number_positive NoOldForm = omega arith
number_positive NoList = omega arith
number_positive NoDrawing = omega arith
number_positive OtherScopes = omega arith

pub number_below : (r : Refusal) → number_of r < 20
unfolding number_of
number_below TooLong = omega arith
number_below Malformed = omega arith
number_below OutOfRange = omega arith
number_below NotAscending = omega arith
number_below TooManyRows = omega arith
number_below NoOrder = omega arith
number_below NoQuery = omega arith
number_below NoPathRow = omega arith
number_below NoRoom = omega arith
number_below NoPrinting = omega arith
number_below NoDeclaration = omega arith
number_below NoExpression = omega arith
number_below TooManyStates = omega arith
number_below NoOldForm = omega arith
number_below NoList = omega arith
number_below NoDrawing = omega arith
number_below OtherScopes = omega arith
