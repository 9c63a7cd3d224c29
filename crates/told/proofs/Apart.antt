-- What was taken apart is the printing of what was taken. Assumes nothing.
use Prim.Native.Nat.{ℕ, zero, suc, ◌≤◌}
use mathlib.Core.Path.{◌≡◌, refl, sym, ap, ◌∙◌}
use mathlib.Core.Bool.{Bool, true, false}
use mathlib.Core.Option.{Option, some, none}
use mathlib.Core.List.{List, [], ◌∷◌, ◌++◌, flat_map, append_assoc}
use lib.Dec.{leb}
use lib.ListN.{length, drop}
use borrow.Author.Tests.{le-leb}
use Rattle.std.specs.declared.option.Option.{Option as Maybe}
use Rattle.std.specs.declared.option.Option.TheVariants.{Some, None as Nothing}
use Rattle.scope_graph.specs.Rows.{PackedName}
use Rattle.scope_graph.specs.Computed.{Found, found_none, found_one, found_several}
use Rattle.scope_graph.proofs.Lists.{and_both}
use Rattle.text_field.specs.Number.{number_text, number_here}
use Rattle.text_field.specs.Outcome.{Outcome, refused, done}
use Rattle.text_field.proofs.NumberLaws.{number_found}
use Rattle.text_field.proofs.OutcomeLaws.{done_same, not_done, went}
use Rattle.graph_table.specs.declared.sections.Form.{Form}
use Rattle.path_row.specs.Form.{PathRow, most_scope, number_up_to, is_row}
use Rattle.path_row.proofs.FormLaws.{up_found}
use Rattle.follow.specs.Text.{head_line, rows_line, found_text}
use Rattle.told.specs.Delivered.{NamedPair, Delivered, named_text, row_line, delivered_text, is_end, is_named, are_rows, is_delivered}
use Rattle.told.specs.Apart.{Read, after, or_else, word_here, found_here, end_by, pair_by, dash_here, awaits_here, first_row, rows_from, rows_in, query_columns, listing_here}
use Rattle.told.proofs.FixedBytes.{after_is}
use Rattle.told.proofs.PairLaws.{end_on, end_off}
use Rattle.told.proofs.RowLaws.{first_is, from_none, from_some}

-- a pair that was gained
pair_same : {A B : Type 0} (a c : A) (b d : B) → ◌≡◌ {A = A × B} (a, b) (c, d) → (a ≡ c) × (b ≡ d)
pair_same {A} {B} a c b d e = (ap (λ (p : A × B). p.0) e, ap (λ (p : A × B). p.1) e)

read_same : {A : Type 0} (a b : A) (s t : List ℕ) → ◌≡◌ {A = Read A} (done (a, s)) (done (b, t)) → (a ≡ b) × (s ≡ t)
read_same {A} a b s t e = pair_same a b s t (done_same (a, s) (b, t) e)

-- the first of two readings that gained something, or the other
else_either : {A : Type 0} (P : Type 0) (o p : Outcome A) (a : A) → or_else o p ≡ done a → (o ≡ done a → P) → (p ≡ done a → P) → P
unfolding or_else
else_either P (refused n) p a e f g = g e
else_either P (done b) p a e f g = f e

module _ (s rest : List ℕ) where
  word_is : (g f : Found) → word_here g s ≡ done (f, rest) → s ≡ found_text f ++ rest
  unfolding word_here
  word_is g f e =
      let w = went (after (found_text g) s) (λ t. done (g, t)) (f, rest) e in
      let p = read_same g f w.gained rest w.after in
      after_is (found_text g) s w.gained w.before ∙ ap (λ (l : List ℕ). found_text g ++ l) p.1 ∙ ap (λ (x : Found). found_text x ++ rest) p.0

  pub found_is : (f : Found) → found_here s ≡ done (f, rest) → s ≡ found_text f ++ rest
  unfolding found_here
  found_is f e =
      else_either (s ≡ found_text f ++ rest) (word_here found_none s) (or_else (word_here found_one s) (word_here found_several s)) (f, rest) e (word_is found_none f)
      (λ k. else_either (s ≡ found_text f ++ rest) (word_here found_one s) (word_here found_several s) (f, rest) k (word_is found_one f) (word_is found_several f))

  -- what may stand under `awaits`
  pub record AwaitsStand (a : Option NamedPair) : Type 0 where
    pub text : s ≡ named_text a ++ rest
    pub named : is_named a ≡ true

  dash_is : (a : Option NamedPair) → dash_here s ≡ done (a, rest) → AwaitsStand a
  unfolding dash_here named_text is_named
  dash_is a e =
      let w = went (after (45 ∷ []) s) (λ t. done (none, t)) (a, rest) e in
      let p = read_same none a w.gained rest w.after in
      let q = after_is (45 ∷ []) s w.gained w.before ∙ ap (λ (l : List ℕ). 45 ∷ l) p.1 in
      rw (← p.0) (record { text = q; named = refl })

  end_is : (v : ℕ) (t : List ℕ) (a : Option NamedPair) → v ≤ 63 → s ≡ number_text v ++ t → end_by v t ≡ done (a, rest) → AwaitsStand a
  unfolding end_by named_text is_named
  end_is v [] a h e f = absurd (not_done 10 (a, rest) f)
  end_is v (x ∷ t) a h e f = by (is_end x) refl
    where
      by : (b : Bool) → is_end x ≡ b → AwaitsStand a
      by false g = absurd (not_done 10 (a, rest) (sym (end_off v x t g) ∙ f))
      by true g =
          let p = read_same (some (record { at = v; end = x })) a t rest (sym (end_on v x t g) ∙ f) in
          rw (← p.0) (record {
            text = e ∙ ap (λ (l : List ℕ). number_text v ++ (x ∷ l)) p.1 ∙ sym (append_assoc (number_text v) (x ∷ []) rest);
            named = and_both (leb v most_scope) (is_end x) (le-leb v most_scope h) g;
          })

  pair_is : (a : Option NamedPair) (r : Maybe (ℕ × ℕ)) → number_up_to most_scope s ≡ r → pair_by r s ≡ done (a, rest) → AwaitsStand a
  unfolding pair_by number_up_to
  pair_is a Nothing e f = absurd (not_done 10 (a, rest) f)
  pair_is a (Some (v, w)) e f =
      let u = up_found most_scope (number_here s) v w e in
      let n = number_found s v w u.found in
      end_is v (drop w s) a u.small n.whole f

  pub awaits_is : (a : Option NamedPair) → awaits_here s ≡ done (a, rest) → AwaitsStand a
  unfolding awaits_here
  awaits_is a e =
      else_either (AwaitsStand a) (dash_here s) (pair_by (number_up_to most_scope s) s) (a, rest) e (dash_is a) (pair_is a (number_up_to most_scope s) refl)

-- the rows
pub record RowsStand (s : List ℕ) (p : List PathRow × List ℕ) : Type 0 where
  pub text : s ≡ flat_map row_line p.0 ++ p.1
  pub rows : are_rows p.0 ≡ true

rows_from_lem : (n : ℕ) (s : List ℕ) → RowsStand s (rows_from n s)
unfolding rows_from are_rows flat_map
rows_from_lem zero s = record { text = refl; rows = refl }
rows_from_lem (suc n) s = by (first_row s) refl (rows_from_lem n)
  where
    by : (o : Option (PathRow × List ℕ)) → first_row s ≡ o → ((t : List ℕ) → RowsStand t (rows_from n t)) → RowsStand s (rows_from (suc n) s)
    by none e so = rw (from_none (suc n) s e) (record { text = refl; rows = refl })
    by (some (r, rest)) e so =
        let f = first_is s r rest e in
        let w = so rest in
        rw (from_some n s r rest e) (record {
          text =
              f.text
              ∙ ap (λ (l : List ℕ). row_line r ++ l) w.text
              ∙ sym (append_assoc (row_line r) (flat_map row_line (rows_from n rest).0) (rows_from n rest).1);
          rows = and_both (is_row r) (are_rows (rows_from n rest).0) f.row w.rows;
        })

pub rows_are : (s : List ℕ) → RowsStand s (rows_in s)
unfolding rows_in
rows_are s = rows_from_lem (length s) s

-- a listing in its parts
pub parts_are : (form : Form) (start : ℕ) (name : PackedName) (d : Delivered) (rest : List ℕ)
    → delivered_text form start name d ++ rest
    ≡ head_line form
    ++ (query_columns form start name
    ++ (found_text d.found ++ ((32 ∷ []) ++ (named_text d.awaits ++ ((10 ∷ rows_line) ++ (flat_map row_line d.rows ++ rest))))))
unfolding delivered_text query_columns
parts_are form start name d rest = simp append_assoc

-- what was read as a listing is its text
pub record ListingStands (form : Form) (start : ℕ) (name : PackedName) (s : List ℕ) (d : Delivered) (rest : List ℕ) : Type 0 where
  pub text : s ≡ delivered_text form start name d ++ rest
  pub formed : is_delivered d ≡ true

pub listing_is : (form : Form) (start : ℕ) (name : PackedName) (s : List ℕ) (d : Delivered) (rest : List ℕ)
    → listing_here form start name s ≡ done (d, rest) → ListingStands form start name s d rest
unfolding listing_here is_delivered
listing_is form start name s d rest e =
    let w1 = went (after (head_line form) s) _ (d, rest) e in
    let w2 = went (after (query_columns form start name) w1.gained) _ (d, rest) w1.after in
    let w3 = went (found_here w2.gained) _ (d, rest) w2.after in
    let f = w3.gained in
    let w4 = went (after (32 ∷ []) f.1) _ (d, rest) w3.after in
    let w5 = went (awaits_here w4.gained) _ (d, rest) w4.after in
    let a = w5.gained in
    let w6 = went (after (10 ∷ rows_line) a.1) _ (d, rest) w5.after in
    let t = w6.gained in
    let is : Delivered = record { found = f.0; awaits = a.0; rows = (rows_in t).0 } in
    let p = read_same is d (rows_in t).1 rest w6.after in
    let r = rows_are t in
    let k = awaits_is w4.gained a.1 a.0 w5.before in
    let e6 : a.1 ≡ (10 ∷ rows_line) ++ (flat_map row_line (rows_in t).0 ++ (rows_in t).1) = after_is (10 ∷ rows_line) a.1 t w6.before ∙ ap (λ (l : List ℕ). (10 ∷ rows_line) ++ l) r.text in
    let e5 : w4.gained ≡ named_text a.0 ++ ((10 ∷ rows_line) ++ (flat_map row_line (rows_in t).0 ++ (rows_in t).1)) = k.text ∙ ap (λ (l : List ℕ). named_text a.0 ++ l) e6 in
    let e4 : f.1 ≡ (32 ∷ []) ++ (named_text a.0 ++ ((10 ∷ rows_line) ++ (flat_map row_line (rows_in t).0 ++ (rows_in t).1))) = after_is (32 ∷ []) f.1 w4.gained w4.before ∙ ap (λ (l : List ℕ). (32 ∷ []) ++ l) e5 in
    let e3 : w2.gained ≡ found_text f.0 ++ ((32 ∷ []) ++ (named_text a.0 ++ ((10 ∷ rows_line) ++ (flat_map row_line (rows_in t).0 ++ (rows_in t).1)))) = found_is w2.gained f.1 f.0 w3.before ∙ ap (λ (l : List ℕ). found_text f.0 ++ l) e4 in
    let e2 : w1.gained ≡ query_columns form start name ++ (found_text f.0 ++ ((32 ∷ []) ++ (named_text a.0 ++ ((10 ∷ rows_line) ++ (flat_map row_line (rows_in t).0 ++ (rows_in t).1))))) =
    after_is (query_columns form start name) w1.gained w2.gained w2.before ∙ ap (λ (l : List ℕ). query_columns form start name ++ l) e3 in
    let e1 : s ≡ delivered_text form start name is ++ (rows_in t).1 =
    after_is (head_line form) s w1.gained w1.before ∙ ap (λ (l : List ℕ). head_line form ++ l) e2 ∙ sym (parts_are form start name is (rows_in t).1) in
    record {
      text = e1 ∙ ap (λ (l : List ℕ). delivered_text form start name is ++ l) p.1 ∙ ap (λ (x : Delivered). delivered_text form start name x ++ rest) p.0;
      formed = rw (← p.0) (and_both (is_named a.0) (are_rows (rows_in t).0) k.named r.rows);
    }
