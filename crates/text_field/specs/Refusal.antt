-- The refusals and their numbers (documents 01 and 02, "Refusals"). Assumes nothing: these are
-- definitions.
use Rattle.std.specs.Prelude.{ℕ}
use Rattle.text_field.specs.declared.refusal.Refusal.{Refusal}
use Rattle.text_field.specs.declared.refusal.Refusal.TheVariants.{TooLong, Malformed, OutOfRange, NotAscending, TooManyRows, NoOrder, NoQuery, NoPathRow, NoRoom, NoPrinting, NoDeclaration, NoExpression, TooManyStates, NoOldForm, NoList, NoDrawing, OtherScopes}

-- a refusal's number
unfoldable pub number_of : Refusal → ℕ
number_of TooLong = 1
number_of Malformed = 2
number_of OutOfRange = 3
number_of NotAscending = 4
number_of TooManyRows = 5
number_of NoOrder = 6
number_of NoQuery = 7
number_of NoPathRow = 8
number_of NoRoom = 9
number_of NoPrinting = 10
number_of NoDeclaration = 11
number_of NoExpression = 12
number_of TooManyStates = 13
number_of NoOldForm = 14
number_of NoList = 17
number_of NoDrawing = 18
number_of OtherScopes = 19
