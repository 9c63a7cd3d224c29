-- `rules_by` meets its contract: the bytes are the table's letters. Assumes nothing.
use mathlib.Core.Path.{sym, ap, ◌∙◌}
use mathlib.Core.List.{List}
use Prim.Native.Nat.{ℕ}
use lib.Seq.{length-take-le}
use Rattle.path_rules.specs.Rules.{rules_of}
use Rattle.ruled.proofs.Places.{read_some}
use Rattle.ruled.proofs.LetterLaws.{few_labels, few_letters, letters_are}
use Rattle.ruled.proofs.letters.rules_by.Goals as goal

pub label_count-n-requires : goal.label_count-n-requires
label_count-n-requires c = record { some = read_some c.args.table.now c.requires.read }

pub letter_bytes-letters-requires : goal.letter_bytes-letters-requires
letter_bytes-letters-requires c = let told = few_labels c.args.table.now c.requires.read _ c.label_count-n.ensures.answer in record { few = told.0; whole = told.1 }

pub slice_bounds-letters-end : goal.slice_bounds-letters-end
slice_bounds-letters-end c = few_letters c.args.table.now c.requires.read _ c.label_count-n.ensures.answer c.letter_bytes-letters.result c.letter_bytes-letters.ensures.size

pub slice_bounds-path_rules-end : goal.slice_bounds-path_rules-end
slice_bounds-path_rules-end c = sym (length-take-le _ _ (few_letters c.args.table.now c.requires.read _ c.label_count-n.ensures.answer c.letter_bytes-letters.result c.letter_bytes-letters.ensures.size))

pub returns : goal.returns
returns c = record { answer = c.path_rules.ensures.answer ∙ ap (λ (ls : List ℕ). rules_of ls c.args.expression.now) (letters_are c.args.table.now c.requires.read _ c.label_count-n.ensures.answer c.letter_bytes-letters.result c.letter_bytes-letters.ensures.letters) }
