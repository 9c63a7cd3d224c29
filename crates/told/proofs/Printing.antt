-- A printing is taken apart as what it is the printing of. Assumes nothing.
use Prim.Native.Nat.{ℕ, zero, suc, ◌+◌, ◌/◌, ◌%◌, ◌≤◌}
use mathlib.Core.Path.{◌≡◌, refl, sym, ap, ◌∙◌}
use mathlib.Core.Bool.{Bool, true, false, not, ◌&&◌}
use mathlib.Core.Option.{Option, some, none}
use mathlib.Core.List.{List, [], ◌∷◌, ◌++◌, flat_map, append_assoc}
use native.Mathlib.Omega.{arith}
use lib.Dec.{eqb, leb, ltb}
use lib.ListN.{length, get_or, take, drop}
use lib.Seq.{take_at, drop_at, drop-append-add}
use borrow.Author.Tests.{ne_eqb, leb-true}
use Rattle.std.specs.declared.option.Option.{Option as Maybe}
use Rattle.std.specs.declared.option.Option.TheVariants.{Some}
use Rattle.scope_graph.specs.Rows.{PackedName}
use Rattle.scope_graph.specs.Computed.{Found, found_none, found_one, found_several}
use Rattle.text_field.specs.Bytes.{within, is_digit, is_capital}
use Rattle.text_field.specs.Lines.{line_here, no_lf}
use Rattle.text_field.specs.Number.{digits_of, number_text, number_here}
use Rattle.text_field.specs.Outcome.{refused, done, and_then}
use Rattle.text_field.proofs.ByteLaws.{both, clash, within_bounds, digit_bounds}
use Rattle.text_field.proofs.NumberLaws.{number_back, first_off}
use Rattle.text_field.proofs.LineLaws.{line_whole, bare_cons}
use Rattle.graph_table.specs.declared.sections.Form.{Form}
use Rattle.graph_table.specs.declared.sections.Form.TheVariants.{Old, Kinds}
use Rattle.path_row.specs.declared.form.Step.{Step}
use Rattle.path_row.specs.Form.{PathRow, most_mark, most_scope, most_steps, at_most, number_up_to, front_text, step_text, steps_text, row_text, are_steps, is_row}
use Rattle.path_row.proofs.FormLaws.{most_in, written_then_read}
use Rattle.follow.specs.Text.{head_line, rows_line, found_text}
use Rattle.told.specs.Delivered.{NamedPair, Delivered, named_text, row_line, delivered_text, is_end, is_named, are_rows, is_delivered}
use Rattle.told.specs.Apart.{after, or_else, word_here, found_here, end_by, pair_by, dash_here, awaits_here, row_by, row_of_line, first_row, rows_in, query_columns, listing_here}
use Rattle.told.proofs.FixedBytes.{after_append, after_other}
use Rattle.told.proofs.WordLaws.{else_later}
use Rattle.told.proofs.PairLaws.{end_on, dash_none}
use Rattle.told.proofs.RowLaws.{FirstIs, first_is, rows_none, rows_some}
use Rattle.told.proofs.ListingLaws.{all_parts}
use Rattle.told.proofs.Apart.{parts_are}

-- the three words
pub found_back : (f : Found) (rest : List ℕ) → found_here (found_text f ++ rest) ≡ done (f, rest)
unfolding found_here word_here after or_else and_then found_text
found_back found_none rest = refl
found_back found_one rest = refl
found_back found_several rest = refl

-- an end is no digit
end_bare : (x : ℕ) → is_end x ≡ true → is_digit x ≡ false
unfolding is_end is_capital
end_bare x e = by (is_digit x) refl
  where
    by : (b : Bool) → is_digit x ≡ b → b ≡ false
    by false f = refl
    by true f =
        let d = digit_bounds x f in
        let n : eqb x 36 ≡ false = ne_eqb x 36 (λ z. omega arith) in
        let c = within_bounds 65 90 x (rw n at e) in
        absurd (omega arith)

-- a number begins with a digit
pub record Begins (l : List ℕ) : Type 0 where
  pub first : ℕ
  pub rest : List ℕ
  pub is : l ≡ first ∷ rest
  pub digit : is_digit first ≡ true

begins : (l : List ℕ) (v w : ℕ) → number_here l ≡ Some (v, w) → Begins l
unfolding number_here
begins [] v w e = absurd (let z : ◌≡◌ {A = ℕ} 0 1 = cc in omega arith)
begins (x ∷ l) v w e = by (is_digit x) refl
  where
    by : (b : Bool) → is_digit x ≡ b → Begins (x ∷ l)
    by true f = record { first = x; rest = l; is = refl; digit = f }
    by false f = absurd (let z : ◌≡◌ {A = ℕ} 0 1 = cc (first_off x l f) in omega arith)

pub number_begins : (v : ℕ) (rest : List ℕ) → v ≤ 99999 → is_digit (get_or rest 0 0) ≡ false → Begins (number_text v ++ rest)
number_begins v rest h e = begins (number_text v ++ rest) v (length (number_text v)) (number_back v rest h e)

-- what may stand under `awaits`
pub awaits_back : (a : Option NamedPair) (rest : List ℕ) → is_named a ≡ true → awaits_here (named_text a ++ rest) ≡ done (a, rest)
unfolding awaits_here named_text is_named dash_here after or_else and_then number_up_to pair_by
awaits_back none rest e = refl
awaits_back (some o) rest e = sym (all ∙ ap awaits_here (sym (append_assoc (number_text o.at) (o.end ∷ []) rest)))
  where
    small : o.at ≤ 63
    small = leb-true o.at most_scope (both (leb o.at most_scope) (is_end o.end) e).0

    ends : is_end o.end ≡ true
    ends = (both (leb o.at most_scope) (is_end o.end) e).1

    t : List ℕ
    t = number_text o.at ++ (o.end ∷ rest)

    number : number_here t ≡ Some (o.at, (length (number_text o.at)))
    number = number_back o.at (o.end ∷ rest) (let s = small in omega arith) (end_bare o.end ends)

    up : number_up_to most_scope t ≡ Some (o.at, (length (number_text o.at)))
    up = ap (at_most most_scope) number ∙ most_in most_scope o.at (length (number_text o.at)) small

    no_dash : dash_here t ≡ refused 10
    no_dash =
        let b = begins t o.at (length (number_text o.at)) number in
        let d = digit_bounds b.first b.digit in
        dash_none t (ap (after (45 ∷ [])) b.is ∙ after_other 45 b.first [] b.rest (λ z. omega arith))

    pair : done (some o, rest) ≡ pair_by (number_up_to most_scope t) t
    pair = sym (ap (λ (r : Maybe (ℕ × ℕ)). pair_by r t) up ∙ ap (end_by o.at) (drop_at (number_text o.at) (o.end ∷ rest) (length (number_text o.at)) refl) ∙ end_on o.at o.end rest ends)

    all : done (some o, rest) ≡ awaits_here t
    all = else_later (dash_here t) (pair_by (number_up_to most_scope t) t) 10 no_dash (done (some o, rest)) pair

-- a row holds no LF
bare_append : (a b : List ℕ) → no_lf a ≡ true → no_lf b ≡ true → no_lf (a ++ b) ≡ true
unfolding no_lf
bare_append [] b e f = f
bare_append (x ∷ a) b e f =
    let w = both (not (eqb x 10)) (no_lf a) e in rw w.0 (bare_append a b w.1 f)

bare_digits : (n v : ℕ) → no_lf (digits_of n v) ≡ true
unfolding digits_of no_lf
bare_digits zero v = bare_cons (48 + v % 10) [] (λ e. omega arith) refl
bare_digits (suc n) v = by (ltb v 10) (bare_digits n (v / 10))
  where
    by : (t : Bool) → no_lf (digits_of n (v / 10)) ≡ true
        → no_lf (elim t as (λ _. List ℕ) [ true ↦ (48 + v) ∷ [] | false ↦ digits_of n (v / 10) ++ ((48 + v % 10) ∷ []) ]) ≡ true
    by true h = bare_cons (48 + v) [] (λ e. omega arith) refl
    by false h = bare_append (digits_of n (v / 10)) ((48 + v % 10) ∷ []) h (bare_cons (48 + v % 10) [] (λ e. omega arith) refl)

bare_number : (v : ℕ) → no_lf (number_text v) ≡ true
unfolding number_text
bare_number v = bare_digits v v

bare_steps : (ss : List Step) → are_steps ss ≡ true → no_lf (steps_text ss) ≡ true
unfolding steps_text step_text are_steps is_capital no_lf
bare_steps [] e = refl
bare_steps (s ∷ ss) e =
    let w = both (is_capital s.label) (leb s.scope most_scope && are_steps ss) e in
    let c = within_bounds 65 90 s.label w.0 in
    let r = both (leb s.scope most_scope) (are_steps ss) w.1 in
    bare_cons s.label (number_text s.scope ++ steps_text ss) (λ z. omega arith)
    (bare_append (number_text s.scope) (steps_text ss) (bare_number s.scope) (bare_steps ss r.1))

bare_row : (r : PathRow) → is_row r ≡ true → no_lf (row_text r) ≡ true
unfolding row_text front_text is_row
bare_row r e =
    let a = both (leb r.mark most_mark) _ e in
    let b = both (leb r.start most_scope) _ a.1 in
    let c = both (leb (length r.steps) most_steps) (are_steps r.steps) b.1 in
    bare_append (number_text r.mark ++ (32 ∷ number_text r.start)) (steps_text r.steps)
    (bare_append (number_text r.mark) (32 ∷ number_text r.start) (bare_number r.mark) (bare_cons 32 (number_text r.start) (λ z. omega arith) (bare_number r.start)))
    (bare_steps r.steps c.1)

first_back : (r : PathRow) (rest : List ℕ) → is_row r ≡ true → first_row (row_line r ++ rest) ≡ some (r, rest)
unfolding first_row row_of_line row_by row_line
first_back r rest e =
    let t : List ℕ = row_text r ++ (10 ∷ rest) in
    let n : ℕ = length (row_text r) in
    let l : line_here t ≡ Some (n, (n + 1)) = line_whole (row_text r) rest (bare_row r e) in
    let a : take n t ≡ row_text r = take_at (row_text r) (10 ∷ rest) n refl in
    let b : drop (n + 1) t ≡ rest = drop-append-add (row_text r) (10 ∷ rest) 1 in
    ap first_row (append_assoc (row_text r) (10 ∷ []) rest) ∙ rw (l, row_of_line, a, b, written_then_read r e)

pub rows_back_lem : (rs : List PathRow) (rest : List ℕ) → are_rows rs ≡ true → first_row rest ≡ none → rows_in (flat_map row_line rs ++ rest) ≡ (rs, rest)
unfolding are_rows flat_map
rows_back_lem [] rest e f = rows_none rest f
rows_back_lem (r ∷ rs) rest e f =
    let w = both (is_row r) (are_rows rs) e in
    let t : List ℕ = flat_map row_line rs ++ rest in
    ap rows_in (append_assoc (row_line r) (flat_map row_line rs) rest)
    ∙ rows_some (row_line r ++ t) r t (first_back r t w.0)
    ∙ ap (λ (p : List PathRow × List ℕ). (r ∷ p.0, p.1)) (rows_back_lem rs rest w.1 f)

-- no row stands at the end of the text, nor where a byte stands that is no digit
pub ends_none : first_row [] ≡ none
unfolding first_row row_of_line line_here
ends_none = refl

space_bare : is_digit 32 ≡ false
unfolding is_digit within
space_bare = refl

row_first : (x : ℕ) (l : List ℕ) (r : PathRow) (rest : List ℕ) → is_digit x ≡ false → FirstIs (x ∷ l) r rest → ⊥
unfolding row_line row_text front_text is_row
row_first x l r rest bare f =
    let m = leb-true r.mark most_mark (both (leb r.mark most_mark) _ f.row).0 in
    let t : List ℕ = 32 ∷ ((number_text r.start ++ steps_text r.steps) ++ (10 ∷ rest)) in
    let b = number_begins r.mark t (omega arith) space_bare in
    let e : x ∷ l ≡ number_text r.mark ++ t = f.text ∙ simp append_assoc in
    let k : x ≡ b.first = ap (λ (y : List ℕ). get_or y 0 0) (e ∙ b.is) in
    clash (ap is_digit k ∙ b.digit) bare

pub bare_none : (x : ℕ) (l : List ℕ) → is_digit x ≡ false → first_row (x ∷ l) ≡ none
bare_none x l bare = by (first_row (x ∷ l)) refl
  where
    by : (o : Option (PathRow × List ℕ)) → first_row (x ∷ l) ≡ o → o ≡ none
    by none e = refl
    by (some (r, rest)) e = absurd (row_first x l r rest bare (first_is (x ∷ l) r rest e))

pub listing_none : (form : Form) (l : List ℕ) → first_row (head_line form ++ l) ≡ none
unfolding is_digit within
listing_none Old l = bare_none 115 _ refl
listing_none Kinds l = bare_none 115 _ refl

-- one listing
pub listing_back : (form : Form) (start : ℕ) (name : PackedName) (d : Delivered) (rest : List ℕ) → is_delivered d ≡ true → first_row rest ≡ none
    → listing_here form start name (delivered_text form start name d ++ rest) ≡ done (d, rest)
unfolding is_delivered
listing_back form start name d rest e n =
    let w = both (is_named d.awaits) (are_rows d.rows) e in
    let t6 : List ℕ = flat_map row_line d.rows ++ rest in
    let t5 : List ℕ = (10 ∷ rows_line) ++ t6 in
    let t4 : List ℕ = named_text d.awaits ++ t5 in
    let t3 : List ℕ = (32 ∷ []) ++ t4 in
    let t2 : List ℕ = found_text d.found ++ t3 in
    let t1 : List ℕ = query_columns form start name ++ t2 in
    ap (listing_here form start name) (parts_are form start name d rest)
    ∙ all_parts form start name (head_line form ++ t1) t1 (after_append (head_line form) t1) t2 (after_append (query_columns form start name) t2) d.found t3
    (found_back d.found t3) t4 (after_append (32 ∷ []) t4) d.awaits t5 (awaits_back d.awaits t5 w.0) t6 (after_append (10 ∷ rows_line) t6)
    ∙ ap (λ (p : List PathRow × List ℕ). done (record { found = d.found; awaits = d.awaits; rows = p.0 }, p.1)) (rows_back_lem d.rows rest w.1 n)
