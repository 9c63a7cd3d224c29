-- Names as text (document 01, "The gym file"), and as two cells of eight bytes each. Assumes
-- nothing: these are definitions.
use Rattle.std.specs.Prelude.{List, [], ◌∷◌, ◌++◌, Bool, true, false, ◌&&◌, ℕ, zero, suc, ◌+◌, ◌*◌, ◌/◌, ◌%◌, ◌^◌, eqb, leb, ltb, length, drop}
use Rattle.text_field.specs.Bytes.{is_lower, is_name_byte}
use Rattle.text_field.specs.Outcome.{Outcome, refused, done}
use Rattle.std.specs.declared.option.Option.TheVariants.{Some, None}
use Rattle.std.specs.declared.option.Option.{Option}

-- a name in a text: its two cells, and the place after it
pub record NameFound : Type 0 where
  pub high : ℕ
  pub low : ℕ
  pub next : ℕ

-- What the reader of a name answers, by document 01's number for a text that is not of its form.
unfoldable pub name_meaning : ℕ → Option (ℕ × ℕ × ℕ) → Outcome NameFound
name_meaning refusal (Some (high, low, next)) = done (record { high = high; low = low; next = next })
name_meaning refusal None = refused refusal

-- every byte is one that a name may hold after its first
unfoldable pub all_name_bytes : List ℕ → Bool
all_name_bytes [] = true
all_name_bytes (x ∷ rest) = is_name_byte x && all_name_bytes rest

-- a lower-case letter, and at most 15 name bytes after it
unfoldable pub is_name : List ℕ → Bool
is_name [] = false
is_name (x ∷ rest) = is_lower x && (all_name_bytes rest && leb (length rest) 15)

-- the first k bytes as one number, big end first, with zeros where bytes are missing
unfoldable pub packed : ℕ → List ℕ → ℕ
packed zero s = 0
packed (suc k) [] = 0
packed (suc k) (x ∷ rest) = x * 256 ^ k + packed k rest

-- a name's two cells: bytes 0 to 7, and bytes 8 to 15
unfoldable pub pack_high : List ℕ → ℕ
pack_high s = packed 8 s

unfoldable pub pack_low : List ℕ → ℕ
pack_low s = packed 8 (drop 8 s)

-- the k bytes of a number, big end first
unfoldable pub bytes_of : ℕ → ℕ → List ℕ
bytes_of zero x = []
bytes_of (suc k) x = x / 256 ^ k ∷ bytes_of k (x % 256 ^ k)

-- the bytes before the first zero
unfoldable pub before_zero : List ℕ → List ℕ
before_zero [] = []
before_zero (x ∷ rest) = elim (eqb x 0) [ true ↦ [] | false ↦ x ∷ before_zero rest ]

-- the bytes that two cells spell
unfoldable pub name_text : ℕ → ℕ → List ℕ
name_text high low = before_zero (bytes_of 8 high ++ bytes_of 8 low)

-- two cells are a name's packing: what they spell is a name, and it packs to them
unfoldable pub is_name_cells : ℕ → ℕ → Bool
is_name_cells high low =
    is_name (name_text high low)
    && (eqb (pack_high (name_text high low)) high && eqb (pack_low (name_text high low)) low)

-- the name bytes at the start, at most k of them
unfoldable pub name_run : ℕ → List ℕ → List ℕ
name_run zero s = []
name_run (suc k) [] = []
name_run (suc k) (x ∷ rest) = elim (is_name_byte x) [ true ↦ x ∷ name_run k rest | false ↦ [] ]

-- a name as it is read: its cells, and how many bytes it takes
unfoldable pub name_of : List ℕ → Option (ℕ × ℕ × ℕ)
name_of s = Some (pack_high s, pack_low s, length s)

-- the longest name at the start of the bytes, of at most 16
unfoldable pub name_here : List ℕ → Option (ℕ × ℕ × ℕ)
name_here [] = None
name_here (x ∷ rest) = elim (is_lower x) [ true ↦ name_of (x ∷ name_run 15 rest) | false ↦ None ]

-- a name read from place `at` on: the bytes it takes become the place after it
unfoldable pub name_placed : ℕ → Option (ℕ × ℕ × ℕ) → Option (ℕ × ℕ × ℕ)
name_placed at (Some (high, low, width)) = Some (high, low, at + width)
name_placed at None = None

-- bytewise order of names, a prefix first (document 01, rows ascend)
unfoldable pub name_before : List ℕ → List ℕ → Bool
name_before s [] = false
name_before [] (y ∷ t) = true
name_before (x ∷ s) (y ∷ t) = elim (eqb x y) [ true ↦ name_before s t | false ↦ ltb x y ]
