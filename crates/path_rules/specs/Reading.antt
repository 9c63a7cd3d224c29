-- An expression read byte by byte (02, K6): what is known after the bytes so far. Assumes nothing:
-- these are definitions.
use Rattle.std.specs.Prelude.{ℕ, ◌+◌, ◌-◌, ◌^◌, Bool, true, false, ◌&&◌, List, [], ◌∷◌, eqb, ltb, get_or, set, replicate}
use Rattle.std.specs.Option.{is_some}
use Rattle.std.specs.declared.option.Option.TheVariants.{Some, None}
use Rattle.std.specs.declared.option.Option.{Option}
use Rattle.path_rules.specs.Grammar.{place_of}
use Rattle.path_rules.specs.Parts.{empty_part, no_part, letter_part, seq_part, alt_part, star_part, linked}
use Rattle.path_rules.specs.declared.reading.Part.{Part}
use Rattle.path_rules.specs.declared.reading.Reading.{Reading}

-- nothing read yet
unfoldable pub fresh : Reading
fresh = record {
  alt = no_part;
  seq = empty_part;
  atom = None;
  depth = 0;
  letters = 0;
  after = replicate 10 0;
  labels = replicate 10 8;
  alts = replicate 64 no_part;
  seqs = replicate 64 empty_part;
}

-- the item, if there is one, joined to the sequence before it
unfoldable pub seq_with : Part → Option Part → Part
seq_with a None = a
seq_with a (Some b) = seq_part a b

unfoldable pub linked_with : List ℕ → Part → Option Part → List ℕ
linked_with after a None = after
linked_with after a (Some b) = linked after a.last b.first

abbrev pub merged : Reading → Reading
merged s = record {
  alt = s.alt;
  seq = seq_with s.seq s.atom;
  atom = None;
  depth = s.depth;
  letters = s.letters;
  after = linked_with s.after s.seq s.atom;
  labels = s.labels;
  alts = s.alts;
  seqs = s.seqs;
}

-- and the sequence to the choice before it
abbrev pub chosen : Reading → Reading
chosen s = record {
  alt = alt_part s.alt s.seq;
  seq = empty_part;
  atom = None;
  depth = s.depth;
  letters = s.letters;
  after = s.after;
  labels = s.labels;
  alts = s.alts;
  seqs = s.seqs;
}

-- choice and sequence laid aside while a bracket pair is read
abbrev pub pushed : Reading → Reading
pushed s = record {
  alt = no_part;
  seq = empty_part;
  atom = None;
  depth = s.depth + 1;
  letters = s.letters;
  after = s.after;
  labels = s.labels;
  alts = set s.alts s.depth s.alt;
  seqs = set s.seqs s.depth s.seq;
}

-- what was read between brackets is the next item behind what was laid aside
abbrev pub popped : Reading → Reading
popped s = record {
  alt = get_or s.alts (s.depth - 1) no_part;
  seq = get_or s.seqs (s.depth - 1) no_part;
  atom = Some s.alt;
  depth = s.depth - 1;
  letters = s.letters;
  after = s.after;
  labels = s.labels;
  alts = s.alts;
  seqs = s.seqs;
}

-- the item any number of times
abbrev pub repeated : Reading → Part → Reading
repeated s a = record {
  alt = s.alt;
  seq = s.seq;
  atom = Some (star_part a);
  depth = s.depth;
  letters = s.letters;
  after = linked s.after a.last a.first;
  labels = s.labels;
  alts = s.alts;
  seqs = s.seqs;
}

-- a letter is the next item; its position is the number of letters before it
abbrev pub placed : Reading → ℕ → Reading
placed s label = record {
  alt = s.alt;
  seq = s.seq;
  atom = Some (letter_part (2 ^ s.letters));
  depth = s.depth;
  letters = s.letters + 1;
  after = s.after;
  labels = set s.labels s.letters label;
  alts = s.alts;
  seqs = s.seqs;
}

-- the five kinds of bytes: each says what must stand before it; no expression begins otherwise
unfoldable pub opened : Reading → Option Reading
opened s = elim (ltb s.depth 64) [ true ↦ Some (pushed (merged s)) | false ↦ None ]

unfoldable pub closed : Reading → Option Reading
closed s = elim (is_some s.atom && ltb 0 s.depth) [ true ↦ Some (popped (chosen (merged s))) | false ↦ None ]

unfoldable pub starred : Reading → Option Reading
starred s = elim s.atom [ None ↦ None | Some a ↦ Some (repeated s a) ]

unfoldable pub barred : Reading → Option Reading
barred s = elim (is_some s.atom) [ true ↦ Some (chosen (merged s)) | false ↦ None ]

unfoldable pub lettered : Reading → ℕ → Option Reading
lettered s label = elim (ltb label 8 && ltb s.letters 10) [ true ↦ Some (placed (merged s) label) | false ↦ None ]

-- which of the four signs a byte is, and what it does; any other is a letter
unfoldable pub by_kind : Bool → Bool → Bool → Bool → Reading → ℕ → Option Reading
by_kind true close star bar s label = opened s
by_kind false true star bar s label = closed s
by_kind false false true bar s label = starred s
by_kind false false false true s label = barred s
by_kind false false false false s label = lettered s label

unfoldable pub read_byte : List ℕ → Reading → ℕ → Option Reading
read_byte ls s b = by_kind (eqb b 40) (eqb b 41) (eqb b 42) (eqb b 124) s (place_of 0 b ls)

unfoldable pub read_all : List ℕ → Reading → List ℕ → Option Reading
read_all ls s [] = Some s
read_all ls s (b ∷ bs) = elim (read_byte ls s b) [ None ↦ None | Some t ↦ read_all ls t bs ]
