-- `Found::note` meets its contract. Assumes nothing.
use mathlib.Core.Path.{sym, ◌∙◌}
use native.Mathlib.Omega.{arith}
use Rattle.path_rules.specs.Vectors.{vectors_of}
use Rattle.path_rules.proofs.Steps.{known_is, noted_known, noted_new, noted_full}
use Rattle.path_rules.proofs.vectors.Found.note.Goals.{else-self-lt2048-via-then-self-lt2048+else-not-contains, else-self-lt2048-via-else-self-lt2048}
use Rattle.path_rules.proofs.vectors.Found.note.Goals as goal

pub returns-then-not-contains : goal.returns-then-not-contains
unfolding vectors_of
returns-then-not-contains c = record {
  found = noted_new _ _ (sym (known_is _ _) ∙ (rw c.sets.ensures.answer at (sym c.contains.ensures.value ∙ c.if-not-contains.true))) (omega arith);
}

pub returns-else-self-lt2048 : goal.returns-else-self-lt2048
unfolding vectors_of
returns-else-self-lt2048 c =
    elim c.else-self-lt2048.branch [
      | else-self-lt2048-via-then-self-lt2048+else-not-contains w ↦ record {
        found = noted_known _ _ (sym (known_is _ _) ∙ (rw w.sets.ensures.answer at (sym w.contains.ensures.value ∙ w.if-not-contains.false)));
      }
      | else-self-lt2048-via-else-self-lt2048 w ↦ record { found = noted_full _ _ (omega arith) }
    ]
