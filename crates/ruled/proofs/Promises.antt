-- The promises of a file with the rules of an expression. Assumes nothing.
use Prim.Native.Nat.{ℕ, zero, suc, ◌+◌, ◌*◌, ◌/◌, ◌%◌, ◌≤◌, ◌<◌}
use mathlib.Core.Path.{◌≡◌, refl, sym, ap, subst, ◌∙◌}
use mathlib.Core.Bool.{Bool, true, false}
use mathlib.Core.Logic.{⊎_elim}
use mathlib.Core.Option.{some}
use mathlib.Core.List.{List, [], ◌∷◌, ◌++◌, map}
use native.Mathlib.Omega.{arith}
use lib.Dec.{eqb, ltb}
use lib.ListN.{length, get_or, take}
use lib.Seq.{get_or-take, length-take-le, ext_get_or}
use borrow.Author.Tests.{lt-ltb, ltb-true, ltb-false}
use Rattle.std.specs.declared.result.Result.{Result}
use Rattle.std.specs.declared.result.Result.TheVariants.{Ok, Err}
use Rattle.text_field.specs.Refusal.{number_of}
use Rattle.text_field.specs.declared.refusal.Refusal.{Refusal}
use Rattle.text_field.specs.declared.refusal.Refusal.TheVariants.{NoExpression}
use Rattle.scope_graph.specs.Rows.{any_of, next_by, language}
use Rattle.scope_graph.proofs.Lists.{Two, true_false}
use Rattle.text_field.specs.Outcome.{done}
use Rattle.text_field.proofs.OutcomeLaws.{not_done}
use Rattle.graph_rows.specs.Format.{transition_section, accept_section}
use Rattle.graph_rows.specs.Admission.{Row, value}
use Rattle.graph_file.specs.File.{read_cells, write_text, WasRead}
use Rattle.graph_rows.specs.Tested.{form_in}
use Rattle.graph_rows.specs.Decode.{rows_in, letters_of, rules_of, transition_of}
use Rattle.graph_file.proofs.InverseFile.{written_then_read}
use Rattle.path_rules.specs.Expression.{Expr, In}
use Rattle.path_rules.specs.Parts.{tabulate}
use Rattle.path_rules.specs.Grammar.{Expression}
use Rattle.path_rules.specs.Table.{Decides, Met, start, nowhere, again, new}
use Rattle.path_rules.specs.Promises.{AtLeast, RowPromises}
use Rattle.path_rules.specs.Rules as made
use Rattle.path_rules.specs.declared.Rules.{Rules}
use Rattle.path_rules.proofs.Fill.{tabulate_length, tabulate_at}
use Rattle.path_rules.proofs.Promises.{promises}
use Rattle.ruled.specs.Ruled.{transition_rows, accept_rows, ruled_cells, ruled_of}
use Rattle.ruled.specs.Promises.{IsExpression, cell_of, cells_in, HasRules, PutOut}
use Rattle.ruled.proofs.LetterLaws.{letters_most, labels_are}
use Rattle.ruled.proofs.RowsFormed.{form_stays, others_stay, transitions_are, accepts_are}
use Rattle.ruled.proofs.Refusing.{of_refused, of_done}
use Rattle.ruled.proofs.Automaton.{next_is, no_label, no_state, accepts_is, accepts_none, none_some, decides_same, decides_fewer}
use Rattle.ruled.proofs.Cells.{next_size, same_default, leads_nowhere}

-- the cells that a walk met are 16 at most
snoc_small : (rs : List ℕ) (x : ℕ) → x ≤ 16 → ((i : ℕ) → get_or rs i 16 ≤ 16) → (i : ℕ) → get_or (rs ++ x ∷ []) i 16 ≤ 16
snoc_small [] x h all zero = h
snoc_small [] x h all (suc i) = omega arith
snoc_small (r ∷ rs) x h all zero = all zero
snoc_small (r ∷ rs) x h all (suc i) = snoc_small rs x h (λ j. all (suc j)) i

met_small : (rs : List ℕ) (c : ℕ) → Met rs c → c ≤ 16 → (i : ℕ) → get_or rs i 16 ≤ 16
met_small _ _ start h i = omega arith
met_small _ _ (nowhere rs c m b) h i = snoc_small rs 16 (omega arith) (λ j. met_small rs c m h j) i
met_small _ _ (again rs c r m b l) h i = snoc_small rs r (omega arith) (λ j. met_small rs c m h j) i
met_small _ _ (new rs c m b) h i = snoc_small rs c (omega arith) (λ j. met_small rs c m (omega arith) j) i

cell_target : (x : ℕ) → x ≤ 16 → cell_of (made.target x) ≡ x
unfolding cell_of made.target
cell_target x h = by (ltb x 16) refl
  where
    by : (t : Bool) → ltb x 16 ≡ t → cell_of (made.target x) ≡ x
    by true e = rw (e, made.target)
    by false e = let least = ltb-false x 16 e in let z : 16 ≡ x = omega arith in rw (e, made.target) z

module _ (expression cells : List ℕ) (was : WasRead cells) (r : Rules) (is : made.rules_of (letters_of cells) expression ≡ Ok r) where
  abbrev after : List ℕ
  after = ruled_cells r cells

  letters_stay : letters_of after ≡ letters_of cells
  unfolding letters_of
  letters_stay = ap (λ (rows : List Row). map (λ (row : Row). value row 0) rows) (others_stay cells was r 0 (omega arith) (λ e. omega arith) (λ e. omega arith))

  -- a state that is not below the number of states has no row
  goes_on : (q l to : ℕ) → (language (rules_of after)).next q l ≡ some to → q < r.states
  unfolding rules_of transition_rows
  goes_on q l to e =
      ⊎_elim (λ (y : ltb q r.states ≡ true). ltb-true q r.states y)
      (λ (z : ltb q r.states ≡ false).
      absurd
      (none_some to
      (sym (no_state r.next r.states (length (rows_in 0 cells)) q l (ltb-false q r.states z))
      ∙ ap (λ (rows : List Row). next_by (map transition_of rows) q l) (sym (transitions_are cells was r))
      ∙ e)))
      (Two (ltb q r.states))

  accepts_below : (q : ℕ) → (language (rules_of after)).accepts q ≡ true → q < r.states
  unfolding rules_of accept_rows
  accepts_below q e =
      ⊎_elim (λ (y : ltb q r.states ≡ true). ltb-true q r.states y)
      (λ (z : ltb q r.states ≡ false).
      absurd
      (true_false e
      (ap (λ (rows : List Row). any_of (eqb q) (map (λ (row : Row). value row 0) rows)) (accepts_are cells was r)
      ∙ accepts_none r.accepts r.states q (ltb-false q r.states z))))
      (Two (ltb q r.states))

  module _ (few : r.states ≤ 16) where
    next_same : (q l : ℕ) → q < r.states → l < length (letters_of cells) → (language (rules_of after)).next q l ≡ made.next_in r q l
    unfolding rules_of transition_rows made.next_in
    next_same q l h i =
        let n = labels_are cells was in
        let eight = letters_most cells was in
        let size = next_size (letters_of cells) expression r is in
        ap (λ (rows : List Row). next_by (map transition_of rows) q l) (transitions_are cells was r)
        ∙ next_is r.next r.states (length (rows_in 0 cells)) q l h (omega arith) (omega arith) (omega arith)
        ∙ ap made.target (same_default r.next (q * 8 + l) 0 16 (omega arith))
        ∙ sym (rw (lt-ltb l 8 (omega arith), made.next_in))

    accepts_same : (q : ℕ) → q < r.states → (language (rules_of after)).accepts q ≡ made.accepts_in r q
    unfolding rules_of accept_rows made.accepts_in
    accepts_same q h =
        ap (λ (rows : List Row). any_of (eqb q) (map (λ (row : Row). value row 0) rows)) (accepts_are cells was r)
        ∙ accepts_is r.accepts r.states q h (omega arith)

    -- the cells of the file's own automaton are those of the table that its rows are made of
    module _ (met : Met (take (r.states * 8) r.next) r.states) (k : ℕ) (h : k < r.states * 8) where
      listed : k % 8 < length (letters_of cells) → cell_of ((language (rules_of after)).next (k / 8) (k % 8)) ≡ get_or r.next k 16
      unfolding made.next_in
      listed i =
          let whole : k / 8 * 8 + k % 8 ≡ k = omega arith in
          let small : get_or r.next k 16 ≤ 16 = rw (sym (get_or-take (r.states * 8) r.next k 16 h)) (met_small (take (r.states * 8) r.next) r.states met few k) in
          ap cell_of (next_same (k / 8) (k % 8) (omega arith) i ∙ rw (lt-ltb (k % 8) 8 (omega arith), whole, made.next_in))
          ∙ cell_target (get_or r.next k 16) small

      unlisted : length (letters_of cells) ≤ k % 8 → cell_of ((language (rules_of after)).next (k / 8) (k % 8)) ≡ get_or r.next k 16
      unfolding rules_of transition_rows cell_of
      unlisted i =
          let n = labels_are cells was in
          ap (λ (rows : List Row). cell_of (next_by (map transition_of rows) (k / 8) (k % 8))) (transitions_are cells was r)
          ∙ ap cell_of (no_label r.next r.states (length (rows_in 0 cells)) (k / 8) (k % 8) (omega arith))
          ∙ sym (leads_nowhere (k % 8) (omega arith) (letters_of cells) expression i r is k (omega arith) refl)

      pub cell_is : cell_of ((language (rules_of after)).next (k / 8) (k % 8)) ≡ get_or r.next k 16
      cell_is =
          ⊎_elim (λ (y : ltb (k % 8) (length (letters_of cells)) ≡ true). listed (ltb-true (k % 8) (length (letters_of cells)) y))
          (λ (z : ltb (k % 8) (length (letters_of cells)) ≡ false). unlisted (ltb-false (k % 8) (length (letters_of cells)) z))
          (Two (ltb (k % 8) (length (letters_of cells))))

    in_sequence : Met (take (r.states * 8) r.next) r.states → Met (cells_in (language (rules_of after)).next r.states) r.states
    unfolding cells_in
    in_sequence met =
        let f : ℕ → ℕ = λ k. cell_of ((language (rules_of after)).next (k / 8) (k % 8)) in
        let n = next_size (letters_of cells) expression r is in
        let size = tabulate_length f (r.states * 8) in
        let taken = length-take-le (r.states * 8) r.next (omega arith) in
        subst (λ (rs : List ℕ). Met rs r.states)
        (sym
        (ext_get_or 16 (tabulate f (r.states * 8)) (take (r.states * 8) r.next) (omega arith)
        (λ k h.
        tabulate_at f (r.states * 8) k 16 (omega arith)
        ∙ cell_is met k (omega arith)
        ∙ sym (get_or-take (r.states * 8) r.next k 16 (omega arith)))))
        met

  has_rules : (e : Expr) → Expression (letters_of cells) e expression → HasRules after e r.states
  has_rules e x =
      let p : RowPromises (letters_of cells) expression e = promises.rows (letters_of cells) expression e (letters_most cells was) x in
      let d : Decides (length (letters_of cells)) (In e) r.states (made.next_in r) (made.accepts_in r) =
      decides_fewer (length (letters_of cells)) 8 r.states (In e) (made.next_in r) (made.accepts_in r) (letters_most cells was) (p.decides r is) in
      record {
        decides =
            subst (λ (ls : List ℕ). Decides (length ls) (In e) r.states (language (rules_of after)).next (language (rules_of after)).accepts) (sym letters_stay)
            (decides_same (length (letters_of cells)) r.states (In e) (language (rules_of after)).next (made.next_in r) (language (rules_of after)).accepts (made.accepts_in r) (next_same (p.few r is)) (accepts_same (p.few r is)) d);
        fewest = subst (λ (ls : List ℕ). AtLeast (length ls) (In e) r.states) (sym letters_stay) (p.fewest r is);
        few = p.few r is;
        numbered = in_sequence (p.few r is) (p.numbered r is);
        met_goes_on = goes_on;
        met_accepts = accepts_below;
      }

-- what is put out
module _ (expression text cells other : List ℕ) (read : read_cells text ≡ done cells) (put : ruled_of expression text ≡ done other) where
  unrefused : (r : Rules) × (made.rules_of (letters_of cells) expression ≡ Ok r)
  unrefused = by (made.rules_of (letters_of cells) expression) refl
    where
      by : (m : Result Rules Refusal) → made.rules_of (letters_of cells) expression ≡ m → (r : Rules) × (made.rules_of (letters_of cells) expression ≡ Ok r)
      by (Ok r) e = (r, e)
      by (Err f) e = absurd (not_done (number_of f) other (sym (of_refused expression text cells read f e) ∙ put))

  written : write_text (ruled_cells unrefused.0 cells) ≡ done other
  written = sym (of_done expression text cells read unrefused.0 unrefused.1) ∙ put

  is_expression : IsExpression cells expression
  is_expression = (promises.taken (letters_of cells) expression).0 (λ e. apart (sym unrefused.1 ∙ e))
    where
      apart : ◌≡◌ {A = Result Rules Refusal} (Ok unrefused.0) (Err NoExpression) → ⊥
      apart e = cc

  out : (after : List ℕ) × (read_cells other ≡ done after) × (form_in after ≡ form_in cells)
      × ((k : ℕ) → k < 9 → ¬ (k ≡ transition_section) → ¬ (k ≡ accept_section) → rows_in k after ≡ rows_in k cells)
      × ((e : Expr) × Expression (letters_of cells) e expression × ((states : ℕ) × HasRules after e states))
  out =
      let x = is_expression in let r = unrefused.0 in (
        ruled_cells r cells,
        written_then_read (ruled_cells r cells) other written,
        form_stays cells (text, read) r,
        others_stay cells (text, read) r,
        (x.0, x.1, (r.states, has_rules expression cells (text, read) r unrefused.1 x.0 x.1)),
      )

pub put_out : PutOut
put_out expression text cells other read put = out expression text cells other read put
