-- Whether a row is admitted after the rows so far: refusals 5, 3 and 4 (document 01, "Who can cause
-- a refusal"). The reader and the writer share this definition. Assumes nothing: these are
-- definitions.
use Rattle.std.specs.Prelude.{ℕ, suc, ◌+◌, List, [], ◌∷◌, ◌++◌, Bool, true, false, not, ◌&&◌, ◌||◌, eqb, ltb, leb, length, get_or}
use Rattle.graph_rows.specs.Format.{Content, state, scope, mark, count, letter, label, end, name, kind, plain, turn, Item, byte, field, every_item, Sequence, ascending, apart, once, free, section_at, shape_at, label_section, pair_section, count_section, state_count, mark_count, turn_count, most_scopes}

-- a row's five values
abbrev pub Row : Type 0
Row = List ℕ

-- the row's value at a place
abbrev pub value : Row → ℕ → ℕ
value row c = get_or row c 0

-- the row of six cells: the five after the first; a missing cell counts as 0
unfoldable pub row_of : List ℕ → Row
row_of cells = get_or cells 1 0 ∷ get_or cells 2 0 ∷ get_or cells 3 0 ∷ get_or cells 4 0 ∷ get_or cells 5 0 ∷ []

-- the row without values, which a line is read into
abbrev pub blank : Row
blank = 0 ∷ 0 ∷ 0 ∷ 0 ∷ 0 ∷ []

-- What is known when the next row comes: the labels' letters in sequence, the rows of the order
-- pairs, the count of scopes (0 before its row), how many rows this section has so far, and these
-- rows themselves, last first.
pub record Sofar : Type 0 where
  pub letters : List ℕ
  pub pairs : List Row
  pub scopes : ℕ
  pub rows : ℕ
  pub own : List Row

-- before any row
unfoldable pub nothing : Sofar
nothing = record { letters = []; pairs = []; scopes = 0; rows = 0; own = [] }

-- a section begins: it has no row yet
unfoldable pub begun : Sofar → Sofar
begun st = record { letters = st.letters; pairs = st.pairs; scopes = st.scopes; rows = 0; own = [] }

-- a list with one more element at its end, if the test holds
unfoldable pub joined : {A : Type 0} → Bool → List A → A → List A
joined true xs x = xs ++ (x ∷ [])
joined false xs x = xs

-- the new number if the test holds, else the old one
unfoldable pub counted : Bool → ℕ → ℕ → ℕ
counted true new old = new
counted false new old = old

-- what is known after a row of section k was admitted
unfoldable pub taken : ℕ → Sofar → Row → Sofar
taken k st row = record {
  letters = joined (eqb k label_section) st.letters (value row 0);
  pairs = joined (eqb k pair_section) st.pairs row;
  scopes = counted (eqb k count_section) (value row 0) st.scopes;
  rows = st.rows + 1;
  own = row ∷ st.own;
}

-- Is the value in its range or list? States are 0 to 15, scopes below their count, marks 0 to
-- 65,535, turns 0 to 99 (02, K12), the count 1 to 64. A label is its number among those listed; an
-- end is 0 for the end mark and one more than the label's number for a label. Names and kinds have
-- no range.
unfoldable pub content_in_range : ℕ → ℕ → Content → ℕ → Bool
content_in_range labels scopes state v = ltb v state_count
content_in_range labels scopes scope v = ltb v scopes
content_in_range labels scopes mark v = ltb v mark_count
content_in_range labels scopes count v = leb 1 v && leb v most_scopes
content_in_range labels scopes letter v = true
content_in_range labels scopes label v = ltb v labels
content_in_range labels scopes end v = leb v labels
content_in_range labels scopes name v = true
content_in_range labels scopes kind v = true
content_in_range labels scopes plain v = true
content_in_range labels scopes turn v = ltb v turn_count

-- Is an item's value, which the row holds, in its range? A fixed byte has none.
unfoldable pub item_in_range : ℕ → ℕ → Row → Item → Bool
item_in_range labels scopes row (byte b) = true
item_in_range labels scopes row (field k c) = content_in_range labels scopes k (value row c)

-- Is every value of the row in its range?
unfoldable pub in_range : ℕ → ℕ → List Item → Row → Bool
in_range labels scopes items row = every_item (item_in_range labels scopes row) items

-- Does the first row stand before the second by the key: is it less where they first differ?
unfoldable pub key_less : List ℕ → Row → Row → Bool
key_less [] a b = false
key_less (c ∷ key) a b = ltb (value a c) (value b c) || (eqb (value a c) (value b c) && key_less key a b)

-- Is the letter listed?
unfoldable pub listed : ℕ → List ℕ → Bool
listed x [] = false
listed x (y ∷ ys) = eqb y x || listed x ys

-- a letter's number in the list; for a letter that is not listed, how many there are, which no
-- label's number is
unfoldable pub place : ℕ → List ℕ → ℕ
place x [] = 0
place x (y ∷ ys) = elim (eqb y x) [ true ↦ 0 | false ↦ suc (place x ys) ]

-- Does the row ascend from the last one before it? The first row always does.
unfoldable pub ascends : List ℕ → List Row → Row → Bool
ascends key [] row = true
ascends key (last ∷ above) row = key_less key last row

-- Do the edge rows leave one scope by one label?
unfoldable pub same_source : Row → Row → Bool
same_source a b = eqb (value a 0) (value b 0) && eqb (value a 1) (value b 1)

-- Are they one edge, whatever their turns: the same from, label and to?
unfoldable pub same_edge : Row → Row → Bool
same_edge a b = same_source a b && eqb (value a 2) (value b 2)

-- Does one of the rows so far have the row's from, label and to, at whatever turn (02, K12)?
unfoldable pub repeats : List Row → Row → Bool
repeats [] row = false
repeats (above ∷ own) row = same_edge above row || repeats own row

-- May the row follow the rows so far in its section, given the section's key, the letters listed so
-- far and the section's own rows?
unfoldable pub follows : Sequence → List ℕ → List ℕ → List Row → Row → Bool
follows ascending key letters own row = ascends key own row
follows apart key letters own row = ascends key own row && not (repeats own row)
follows once key letters own row = not (listed (value row 0) letters)
follows free key letters own row = true

-- the number, unless the test holds
unfoldable pub unless : Bool → ℕ → ℕ → ℕ
unless true n otherwise = otherwise
unless false n otherwise = n

-- Tests a row of section k, in a file of a form, after the rows so far: 5 if the section is full,
-- then 3 if a value is out of range, then 4 if the row may not follow; 0 if it is admitted.
unfoldable pub admission : ℕ → ℕ → Sofar → Row → ℕ
admission form k st row =
    unless (ltb st.rows (section_at k).most) 5
    (unless (in_range (length st.letters) st.scopes (shape_at form k).row row) 3
    (unless (follows (section_at k).sequence (section_at k).key st.letters st.own row) 4 0))
