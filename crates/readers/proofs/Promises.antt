-- The values of specs/Promises. Assumes nothing.
use Prim.Native.Nat.{ℕ, ◌<◌}
use mathlib.Core.Path.{◌≡◌, refl, sym, ap, ◌∙◌}
use mathlib.Core.Bool.{Bool, true, false}
use mathlib.Core.List.{List, [], ◌∷◌}
use native.Mathlib.Omega.{arith}
use lib.ListN.{length}
use borrow.Author.Tests.{leb-true, le-leb}
use Rattle.scope_graph.specs.Path.{Distinct}
use Rattle.scope_graph.specs.Rows.{language}
use Rattle.scope_graph.specs.Listing.{Pairwise}
use Rattle.scope_graph.specs.Readers.{readers}
use Rattle.scope_graph.proofs.Readers.{readers_right}
use Rattle.text_field.specs.Outcome.{Outcome, refused, done, and_then, refuse_if}
use Rattle.text_field.proofs.OutcomeLaws.{not_done}
use Rattle.graph_file.specs.File.{read_cells, WasRead}
use Rattle.graph_rows.specs.Decode.{rules_of, graph_of}
use Rattle.readers.specs.Readers.{declaration_at, readers_of, readers_for}
use Rattle.readers.specs.Promises.{ReadersListed, ReadersRefused, Promises}
use Rattle.readers.proofs.Places.{place_stands}
use Rattle.readers.proofs.Asked.{table_laws, table_range}
use Rattle.readers.proofs.Answers.{lines_fit, place_is}
use Rattle.readers.proofs.Examples.{example_readers}

-- what ascends has nothing twice
once : (l : List ℕ) → Pairwise ◌<◌ l → Distinct l
once [] p = tt
once (x ∷ l) p = ((λ m. let h = p.0 x m in omega arith), once l p.1)

-- what is read is what the table gives
read_as : (text cells : List ℕ) (i : ℕ) → read_cells text ≡ done cells → readers_for text i ≡ readers_of cells i
unfolding readers_for and_then
read_as text cells i e = ap (λ (o : Outcome (List ℕ)). and_then o (λ c. readers_of c i)) e

pub listed : ReadersListed
listed text cells e i h =
    let was : WasRead cells = (text, e) in
    let scopes : List ℕ = readers (language (rules_of cells)) (graph_of cells) (declaration_at cells i) in
    let p = readers_right (language (rules_of cells)) (graph_of cells) (table_laws cells was) (table_range cells was) (declaration_at cells i)
    (place_stands cells i h) in (
      scopes,
      read_as text cells i e ∙ place_is cells i h,
      record { are = p.readers_are; ascend = p.ascend; once = once scopes p.ascend },
      lines_fit cells was (declaration_at cells i),
    )

-- 11 is told exactly if the test is true
eleven : (t : Bool) (lines : List ℕ) → refuse_if t 11 (done lines) ≡ refused 11 → t ≡ true
unfolding refuse_if
eleven true lines e = refl
eleven false lines e = absurd (not_done 11 lines (sym e))

pub refusals : ReadersRefused
unfolding readers_for readers_of and_then refuse_if
refusals text i = (
  λ n e. rw e,
  λ cells e. (
    λ r. leb-true (length (graph_of cells).declarations) i (eleven _ _ (sym (read_as text cells i e) ∙ r)),
    λ h. read_as text cells i e ∙ rw (le-leb (length (graph_of cells).declarations) i h),
  ),
)

pub promises : Promises
promises = record { listed = listed; refusals = refusals; example = example_readers }
