-- The rows that an expression becomes, or its refusal (02, K6). Assumes nothing: these are
-- definitions.
use Rattle.std.specs.Prelude.{ℕ, ◌+◌, ◌*◌, Bool, true, false, ◌&&◌, List, eqb, ltb, get_or, length}
use Rattle.std.proofs.Math.Option.{some, none}
use Rattle.std.proofs.Math.Option as math
use Rattle.std.specs.Int.Bits.{bit_or}
use Rattle.std.specs.Option.{is_some}
use Rattle.std.specs.declared.option.Option.TheVariants.{Some, None}
use Rattle.std.specs.declared.option.Option.{Option}
use Rattle.std.specs.declared.result.Result.TheVariants.{Ok, Err}
use Rattle.std.specs.declared.result.Result.{Result}
use Rattle.text_field.specs.declared.refusal.Refusal.TheVariants.{NoExpression, TooManyStates}
use Rattle.text_field.specs.declared.refusal.Refusal.{Refusal}
use Rattle.path_rules.specs.Sets.{has, only_if}
use Rattle.path_rules.specs.Parts.{tabulate, linked}
use Rattle.path_rules.specs.Reading.{fresh, merged, chosen, read_all}
use Rattle.path_rules.specs.Vectors.{end_set, vectors_of, vectors}
use Rattle.path_rules.specs.Walk.{walk_to}
use Rattle.path_rules.specs.declared.reading.Part.{Part}
use Rattle.path_rules.specs.declared.reading.Reading.{Reading}
use Rattle.path_rules.specs.declared.walk.Walk.{Walk}
use Rattle.path_rules.specs.declared.Rules.{Rules}

-- what was read is a whole expression: no bracket is open, and there is an item
unfoldable pub is_whole : Reading → Bool
is_whole s = is_some s.atom && eqb s.depth 0

-- where the positions go on to, with the word's end behind the last; where a word begins
unfoldable pub after_end : Reading → List ℕ
after_end s = linked s.after s.alt.last end_set

unfoldable pub start_set : Part → ℕ
start_set e = bit_or e.first (only_if e.nullable end_set)

-- a state accepts if the word's end is in its set
unfoldable pub accept_cell : List ℕ → ℕ → Bool
accept_cell sets q = has (get_or sets q 0) 10

unfoldable pub table_of : Walk → Rules
table_of w = record { states = w.states; next = w.next; accepts = tabulate (accept_cell w.sets) 16 }

-- the walk over the table of the positions
unfoldable pub walk_of : List ℕ → List ℕ → ℕ → Option Walk
walk_of after labels start = walk_to (vectors_of (vectors after labels)) after labels start 128

-- a walk's table; 13 refuses if there is none
unfoldable pub rules_from : Option Walk → Result Rules Refusal
rules_from None = Err TooManyStates
rules_from (Some w) = Ok (table_of w)

unfoldable pub whole_rules : Reading → Result Rules Refusal
whole_rules s = rules_from (walk_of (after_end s) s.labels (start_set s.alt))

-- the text as a whole expression, if it is one
unfoldable pub whole_of : Reading → Option Reading
whole_of s = elim (is_whole s) [ true ↦ Some (chosen (merged s)) | false ↦ None ]

unfoldable pub read_whole : List ℕ → List ℕ → Option Reading
read_whole labels text =
    elim (ltb 64 (length text)) [
      | true ↦ None
      | false ↦ elim (read_all labels fresh text) [ None ↦ None | Some s ↦ whole_of s ]
    ]

-- 12 refuses what is no expression
unfoldable pub rules_of : List ℕ → List ℕ → Result Rules Refusal
rules_of labels text = elim (read_whole labels text) [ None ↦ Err NoExpression | Some s ↦ whole_rules s ]

-- the table as functions: the next state from a state by a label, if any; does a state accept?
unfoldable pub target : ℕ → math.Option ℕ
target r = elim (ltb r 16) [ true ↦ some r | false ↦ none ]

unfoldable pub next_in : Rules → ℕ → ℕ → math.Option ℕ
next_in r q l = elim (ltb l 8) [ true ↦ target (get_or r.next (q * 8 + l) 16) | false ↦ none ]

unfoldable pub accepts_in : Rules → ℕ → Bool
accepts_in r q = get_or r.accepts q false
