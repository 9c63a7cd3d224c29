-- Definitions of specs/ at work, by computation. Assumes nothing.
use mathlib.Core.Path.{◌≡◌, refl}
use mathlib.Core.List.{[], ◌∷◌}
use mathlib.Core.Bool.{true, false}
use Rattle.text_field.specs.Bytes.{within, is_digit, is_lower, is_name_byte}
use Rattle.text_field.specs.Number.{digits_of, number_text, growing, digits_from, number_here}
use Rattle.text_field.specs.Name.{all_name_bytes, is_name, packed, pack_high, pack_low, bytes_of, before_zero, name_text, is_name_cells, name_run, name_of, name_here}
use Rattle.text_field.specs.Lines.{line_placed, line_here}
use Rattle.std.specs.declared.option.Option.TheVariants.{Some, None}

written : number_text 65535 ≡ 54 ∷ 53 ∷ 53 ∷ 51 ∷ 53 ∷ []
unfolding digits_of number_text
written = refl

nought : number_text 0 ≡ 48 ∷ []
unfolding digits_of number_text
nought = refl

-- `10 3`
ten : number_here (49 ∷ 48 ∷ 32 ∷ 51 ∷ []) ≡ Some (10, 2)
unfolding within is_digit growing digits_from number_here
ten = refl

-- of `05` only the 0 is taken
leading : number_here (48 ∷ 53 ∷ []) ≡ Some (0, 1)
unfolding within is_digit growing digits_from number_here
leading = refl

-- of `100000` five digits are taken
long : number_here (49 ∷ 48 ∷ 48 ∷ 48 ∷ 48 ∷ 48 ∷ []) ≡ Some (10000, 5)
unfolding within is_digit growing digits_from number_here
long = refl

-- `hours` and LF
hours : name_here (104 ∷ 111 ∷ 117 ∷ 114 ∷ 115 ∷ 10 ∷ []) ≡ Some (0x686f757273000000, 0, 5)
unfolding within is_digit is_lower is_name_byte packed pack_high pack_low name_run name_of name_here
hours = refl

hours_text : name_text 0x686f757273000000 0 ≡ 104 ∷ 111 ∷ 117 ∷ 114 ∷ 115 ∷ []
unfolding bytes_of before_zero name_text
hours_text = refl

hours_cells : is_name_cells 0x686f757273000000 0 ≡ true
unfolding within is_digit is_lower is_name_byte all_name_bytes is_name packed pack_high pack_low bytes_of before_zero name_text is_name_cells
hours_cells = refl

-- a byte after the padding
no_cells : is_name_cells 0x686f757273000000 1 ≡ false
unfolding within is_digit is_lower is_name_byte all_name_bytes is_name packed pack_high pack_low bytes_of before_zero name_text is_name_cells
no_cells = refl

-- of 17 bytes `a` 16 are taken
seventeen : name_here (97 ∷ 97 ∷ 97 ∷ 97 ∷ 97 ∷ 97 ∷ 97 ∷ 97 ∷ 97 ∷ 97 ∷ 97 ∷ 97 ∷ 97 ∷ 97 ∷ 97 ∷ 97 ∷ 97 ∷ []) ≡ Some (0x6161616161616161, 0x6161616161616161, 16)
unfolding within is_digit is_lower is_name_byte packed pack_high pack_low name_run name_of name_here
seventeen = refl

-- of the lines `ab`, an empty one and `c`, which has no LF: the first, the second, no third
first_line : line_here (97 ∷ 98 ∷ 10 ∷ 10 ∷ 99 ∷ []) ≡ Some (2, 3)
unfolding line_placed line_here
first_line = refl

empty_line : line_here (10 ∷ 99 ∷ []) ≡ Some (0, 1)
unfolding line_placed line_here
empty_line = refl

no_line : line_here (99 ∷ []) ≡ None
unfolding line_placed line_here
no_line = refl
