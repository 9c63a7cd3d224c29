-- The text of an export is a drawing of its scopes and edges. Assumes nothing.
use Prim.Native.Nat.{ℕ, ◌≤◌}
use mathlib.Core.Path.{◌≡◌, refl, subst}
use mathlib.Core.Bool.{Bool, true, false}
use mathlib.Core.List.{List, [], ◌∷◌, ◌++◌, flat_map, append_assoc}
use Rattle.scope_graph.specs.Language.{◌∈◌}
use Rattle.scope_graph.proofs.Lists.{here, there}
use Rattle.text_field.specs.Bytes.{is_capital}
use Rattle.text_field.specs.Number.{number_text}
use Rattle.dot_text.specs.Tokens.{is_blank, blanks, spelling, Spelled, nothing, first, scopes_word}
use Rattle.dot_text.specs.Grammar.{DrawnEdge, Drawing, edge_tokens, body_tokens, tokens_of, Graph, Drawn, plain, commented}
use Rattle.dot.specs.Drawing as export

-- numbers of the file's form, and a capital
pub record Fit (e : DrawnEdge) : Type 0 where
  pub from : e.from ≤ 99999
  pub letter : is_capital e.letter ≡ true
  pub to : e.to ≤ 99999

-- the edges' lines, from the LF before them on
edges_spelled : (es : List DrawnEdge) → ((e : DrawnEdge) → e ∈ es → Fit e)
    → Spelled (edge_tokens es) (10 ∷ (flat_map export.edge_line es ++ export.close_line))
unfolding edge_tokens spelling blanks is_blank flat_map export.edge_line export.close_line
edges_spelled [] fit = first (10 ∷ []) (10 ∷ []) refl tt (nothing (10 ∷ []) refl)
edges_spelled (e ∷ es) fit =
    let f = fit e here in
    let rest : List ℕ = 10 ∷ (flat_map export.edge_line es ++ export.close_line) in
    let letter : List ℕ = 34 ∷ e.letter ∷ 34 ∷ 93 ∷ 59 ∷ rest in
    let label : List ℕ = 32 ∷ 91 ∷ 108 ∷ 97 ∷ 98 ∷ 101 ∷ 108 ∷ 61 ∷ letter in
    let to : List ℕ = 32 ∷ (number_text e.to ++ label) in
    subst (Spelled (edge_tokens (e ∷ es))) (lines rest)
    (first (10 ∷ []) (32 ∷ 45 ∷ 62 ∷ to) refl f.from
    (first (32 ∷ []) to refl tt
    (first (32 ∷ []) label refl f.to
    (first (32 ∷ []) (108 ∷ 97 ∷ 98 ∷ 101 ∷ 108 ∷ 61 ∷ letter) refl tt
    (first [] (61 ∷ letter) refl tt
    (first [] letter refl tt
    (first [] (93 ∷ 59 ∷ rest) refl f.letter
    (first [] (59 ∷ rest) refl tt
    (first [] rest refl tt (edges_spelled es (λ x m. fit x (there m))))))))))))
  where
    lines : (rest : List ℕ) → 10 ∷ (number_text e.from ++ (32 ∷ 45 ∷ 62 ∷ 32 ∷ (number_text e.to ++ (32 ∷ 91 ∷ 108 ∷ 97 ∷ 98 ∷ 101 ∷ 108 ∷ 61 ∷ 34 ∷ e.letter ∷ 34 ∷ 93 ∷ 59 ∷ 10 ∷ (flat_map export.edge_line es ++ export.close_line)))))
        ≡ 10 ∷ (flat_map export.edge_line (e ∷ es) ++ export.close_line)
    lines rest = simp append_assoc

-- the scopes' lines before them
scopes_spelled : (ns : List ℕ) (es : List DrawnEdge) → ((n : ℕ) → n ∈ ns → n ≤ 99999) → ((e : DrawnEdge) → e ∈ es → Fit e)
    → Spelled (body_tokens ns es) (10 ∷ (flat_map export.scope_line ns ++ (flat_map export.edge_line es ++ export.close_line)))
unfolding body_tokens spelling blanks is_blank flat_map export.scope_line
scopes_spelled [] es small fit = edges_spelled es fit
scopes_spelled (n ∷ ns) es small fit =
    let rest : List ℕ = 10 ∷ (flat_map export.scope_line ns ++ (flat_map export.edge_line es ++ export.close_line)) in
    subst (Spelled (body_tokens (n ∷ ns) es)) lines
    (first (10 ∷ []) (59 ∷ rest) refl (small n here) (first [] rest refl tt (scopes_spelled ns es (λ x m. small x (there m)) fit)))
  where
    lines : 10 ∷ (number_text n ++ (59 ∷ 10 ∷ (flat_map export.scope_line ns ++ (flat_map export.edge_line es ++ export.close_line))))
        ≡ 10 ∷ (flat_map export.scope_line (n ∷ ns) ++ (flat_map export.edge_line es ++ export.close_line))
    lines = simp append_assoc

-- the whole text
module _ (ns : List ℕ) (es : List DrawnEdge) (small : (n : ℕ) → n ∈ ns → n ≤ 99999) (fit : (e : DrawnEdge) → e ∈ es → Fit e) where
  abbrev shown : Drawing
  shown = record { scopes = ns; edges = es }

  graph : Graph (export.open_line ++ (flat_map export.scope_line ns ++ (flat_map export.edge_line es ++ export.close_line))) shown
  unfolding export.open_line tokens_of spelling blanks is_blank
  graph = record {
    gap = [];
    blank = 32;
    rest = scopes_word ++ (32 ∷ 123 ∷ 10 ∷ (flat_map export.scope_line ns ++ (flat_map export.edge_line es ++ export.close_line)));
    whole = refl;
    before = refl;
    parted = refl;
    spelled = first [] (32 ∷ 123 ∷ 10 ∷ (flat_map export.scope_line ns ++ (flat_map export.edge_line es ++ export.close_line))) refl tt
        (first (32 ∷ []) (10 ∷ (flat_map export.scope_line ns ++ (flat_map export.edge_line es ++ export.close_line))) refl tt (scopes_spelled ns es small fit));
  }

  pub export_drawn : (dropped : Bool) → Drawn (export.drawing_text dropped ns es) shown
  unfolding export.drawing_text export.dropped_if
  export_drawn true = commented graph
  export_drawn false = plain graph
