-- Classes of bytes in ASCII text. Assumes nothing: these are definitions.
use Rattle.std.specs.Prelude.{Bool, ◌&&◌, ◌||◌, ℕ, eqb, leb}

-- x stands from low to high, both included
unfoldable pub within : ℕ → ℕ → ℕ → Bool
within low high x = leb low x && leb x high

-- 0 to 9
unfoldable pub is_digit : ℕ → Bool
is_digit x = within 48 57 x

-- A to Z: a label's letter (document 01, "The gym file")
unfoldable pub is_capital : ℕ → Bool
is_capital x = within 65 90 x

-- a to z: the first byte of a name, and of a names line; a kind (02, K8)
unfoldable pub is_lower : ℕ → Bool
is_lower x = within 97 122 x

-- a to z, 0 to 9 or `_`: each further byte of a name
unfoldable pub is_name_byte : ℕ → Bool
is_name_byte x = is_lower x || (is_digit x || eqb x 95)
