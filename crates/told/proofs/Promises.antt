-- The values of specs/Promises. Assumes nothing.
use Prim.Native.Nat.{ℕ, suc}
use mathlib.Core.Path.{◌≡◌, refl, sym, ap, ◌∙◌}
use mathlib.Core.Bool.{Bool, true, false, not}
use mathlib.Core.Logic.{◌↔◌, ⊎_elim}
use mathlib.Core.Option.{Option, some, none}
use mathlib.Core.List.Memᴰ
use mathlib.Core.List.{List, [], ◌∷◌, ◌++◌, map, flat_map}
use native.Mathlib.Omega.{arith}
use lib.ListN.{length}
use Rattle.std.specs.declared.option.Option.{Option as Maybe}
use Rattle.std.specs.declared.option.Option.TheVariants.{Some, None as Nothing}
use Rattle.scope_graph.specs.Language.{◌∈◌}
use Rattle.scope_graph.specs.Graph.{Query, OpenPair}
use Rattle.scope_graph.specs.Path.{PathRow}
use Rattle.scope_graph.specs.Rows.{PackedName, language}
use Rattle.scope_graph.specs.Computed.{Found, found_none, found_one, found_several}
use Rattle.scope_graph.proofs.Lists.{here, there}
use Rattle.text_field.specs.Outcome.{Outcome, refused, done, and_then, refuse_if}
use Rattle.text_field.proofs.ByteLaws.{clash}
use Rattle.text_field.proofs.OutcomeLaws.{done_same, not_done, went, passed}
use Rattle.graph_rows.specs.Way.{is_empty}
use Rattle.graph_rows.specs.Decode.{rules_of, letters_of, queries_of}
use Rattle.graph_table.specs.declared.sections.Form.{Form}
use Rattle.graph_table.specs.Sections.{table_form}
use Rattle.path_row.specs.Form.{most_scope, number_up_to}
use Rattle.path_row.proofs.FormLaws.{empty_is}
use Rattle.follow.specs.Text.{head_line, rows_line, found_text, shown_row}
use Rattle.follow.specs.Text.{row_text as listed_text}
use Rattle.resolution.specs.Listing.{awaits_text, entry_text, shown_text}
use Rattle.told.specs.Delivered.{Delivered, named_text, row_line, delivered_text, is_end, is_delivered, delivered_texts, Printed}
use Rattle.told.specs.Apart.{after, or_else, word_here, found_here, end_by, pair_by, dash_here, awaits_here, first_row, rows_in, query_columns, listing_here, told_from, told_of}
use Rattle.told.specs.Promises.{TakenApart, Alone, NoPrinting, shown_named, shown, OwnForm, Promises}
use Rattle.told.proofs.FixedBytes.{after_ten}
use Rattle.told.proofs.PairLaws.{end_on, end_off}
use Rattle.told.proofs.Apart.{parts_are, listing_is}
use Rattle.told.proofs.Printing.{ends_none, listing_none, listing_back}

not_empty : (s : List ℕ) → not (is_empty s) ≡ false → is_empty s ≡ true
unfolding is_empty
not_empty [] e = refl
not_empty (x ∷ s) e = absurd (clash {b = not (is_empty (x ∷ s))} refl e)

module _ (cells : List ℕ) where
  abbrev Q : Type 0
  Q = Query (language (rules_of cells))

  -- these listings are printed for these queries
  record Stand (qs : List Q) (ds : List Delivered) (s : List ℕ) : Type 0 where
    one_each : length ds ≡ length qs
    formed : (d : Delivered) → d ∈ ds → is_delivered d ≡ true
    text : s ≡ delivered_texts cells qs ds

  stand : (qs : List Q) (s : List ℕ) (ds : List Delivered) → told_from cells qs s ≡ done ds → Stand qs ds s
  unfolding told_from delivered_texts
  stand [] s ds e =
      let p = passed (not (is_empty s)) 10 (done []) ds e in
      let d : [] ≡ ds = done_same [] ds p.1 in
      rw (← d) (record { one_each = refl; formed = λ x m. absurd (Memᴰ.not-nil m); text = empty_is s (not_empty s p.0) })
  stand (q ∷ qs) s ds e =
      let w = went (listing_here (table_form cells) q.start q.name s) _ ds e in
      let l = w.gained in
      let v = went (told_from cells qs l.1) _ ds w.after in
      let d : l.0 ∷ v.gained ≡ ds = done_same (l.0 ∷ v.gained) ds v.after in
      let i = listing_is (table_form cells) q.start q.name s l.0 l.1 w.before in
      let r = stand qs l.1 v.gained v.before in
      rw (← d) (record {
        one_each = ap suc r.one_each;
        formed = λ x m. ⊎_elim (λ z. rw z i.formed) (r.formed x) (Memᴰ.cases_cons m);
        text = i.text ∙ ap (λ (t : List ℕ). delivered_text (table_form cells) q.start q.name l.0 ++ t) r.text;
      })

  no_row : (qs : List Q) (ds : List Delivered) → first_row (delivered_texts cells qs ds) ≡ none
  unfolding delivered_texts
  no_row [] ds = ends_none
  no_row (q ∷ qs) [] = ends_none
  no_row (q ∷ qs) (d ∷ ds) = ap first_row (parts_are (table_form cells) q.start q.name d (delivered_texts cells qs ds)) ∙ listing_none (table_form cells) _

  back : (qs : List Q) (ds : List Delivered) → length ds ≡ length qs → ((d : Delivered) → d ∈ ds → is_delivered d ≡ true) → told_from cells qs (delivered_texts cells qs ds) ≡ done ds
  unfolding told_from delivered_texts is_empty refuse_if and_then
  back [] [] e f = refl
  back [] (d ∷ ds) e f = absurd (omega arith)
  back (q ∷ qs) [] e f = absurd (omega arith)
  back (q ∷ qs) (d ∷ ds) e f =
      let t : List ℕ = delivered_texts cells qs ds in
      let l = listing_back (table_form cells) q.start q.name d t (f d here) (no_row qs ds) in
      let r = back qs ds (omega arith) (λ x m. f x (there m)) in
      rw (l, r)

  apart : (lists : List ℕ) (ds : List Delivered) → (told_of cells lists ≡ done ds) ↔ Printed cells ds lists
  unfolding told_of
  apart lists ds = (
    λ e. let s = stand (queries_of cells) lists ds e in record { one_each = s.one_each; formed = s.formed; text = s.text },
    λ p. ap (told_from cells (queries_of cells)) p.text ∙ back (queries_of cells) ds p.one_each p.formed,
  )

-- nothing but 10 refuses
then_ten : {A B : Type 0} (o : Outcome A) (f : A → Outcome B) (n : ℕ) → and_then o f ≡ refused n → ((m : ℕ) → o ≡ refused m → m ≡ 10) → ((a : A) → f a ≡ refused n → n ≡ 10) → n ≡ 10
unfolding and_then
then_ten (refused m) f n e g h = let k : m ≡ n = cc in sym k ∙ g m refl
then_ten (done a) f n e g h = h a e

else_ten : {A : Type 0} (o p : Outcome A) (n : ℕ) → or_else o p ≡ refused n → p ≡ refused n
unfolding or_else
else_ten (refused m) p n e = e
else_ten (done a) p n e = absurd (not_done n a (sym e))

ten_is : {A : Type 0} (n : ℕ) → ◌≡◌ {A = Outcome A} (refused 10) (refused n) → n ≡ 10
ten_is n e = cc

word_ten : (f : Found) (s : List ℕ) (n : ℕ) → word_here f s ≡ refused n → n ≡ 10
unfolding word_here
word_ten f s n e = then_ten (after (found_text f) s) (λ t. done (f, t)) n e (after_ten (found_text f) s) (λ t g. absurd (not_done n (f, t) (sym g)))

found_ten : (s : List ℕ) (n : ℕ) → found_here s ≡ refused n → n ≡ 10
unfolding found_here
found_ten s n e =
    word_ten found_several s n
    (else_ten (word_here found_one s) (word_here found_several s) n (else_ten (word_here found_none s) (or_else (word_here found_one s) (word_here found_several s)) n e))

end_ten : (v : ℕ) (s : List ℕ) (n : ℕ) → end_by v s ≡ refused n → n ≡ 10
unfolding end_by
end_ten v [] n e = ten_is n e
end_ten v (x ∷ s) n e = by (is_end x) refl
  where
    by : (b : Bool) → is_end x ≡ b → n ≡ 10
    by true f = absurd (not_done n (some (record { at = v; end = x }), s) (sym e ∙ end_on v x s f))
    by false f = ten_is n (sym (end_off v x s f) ∙ e)

pair_ten : (r : Maybe (ℕ × ℕ)) (s : List ℕ) (n : ℕ) → pair_by r s ≡ refused n → n ≡ 10
unfolding pair_by
pair_ten Nothing s n e = ten_is n e
pair_ten (Some (v, w)) s n e = end_ten v _ n e

awaits_ten : (s : List ℕ) (n : ℕ) → awaits_here s ≡ refused n → n ≡ 10
unfolding awaits_here
awaits_ten s n e = pair_ten (number_up_to most_scope s) s n (else_ten (dash_here s) (pair_by (number_up_to most_scope s) s) n e)

listing_ten : (form : Form) (start : ℕ) (name : PackedName) (s : List ℕ) (n : ℕ) → listing_here form start name s ≡ refused n → n ≡ 10
unfolding listing_here
listing_ten form start name s n e =
    then_ten (after (head_line form) s) _ n e (after_ten (head_line form) s) (λ t1 e1.
    then_ten (after (query_columns form start name) t1) _ n e1 (after_ten (query_columns form start name) t1) (λ t2 e2.
    then_ten (found_here t2) _ n e2 (found_ten t2) (λ f e3.
    then_ten (after (32 ∷ []) f.1) _ n e3 (after_ten (32 ∷ []) f.1) (λ t4 e4.
    then_ten (awaits_here t4) _ n e4 (awaits_ten t4) (λ a e5.
    then_ten (after (10 ∷ rows_line) a.1) _ n e5 (after_ten (10 ∷ rows_line) a.1) (λ t6 e6.
    absurd (not_done n (record { found = f.0; awaits = a.0; rows = (rows_in t6).0 }, (rows_in t6).1) (sym e6))))))))

module _ (cells : List ℕ) where
  told_ten : (qs : List (Query (language (rules_of cells)))) (s : List ℕ) (n : ℕ) → told_from cells qs s ≡ refused n → n ≡ 10
  unfolding told_from refuse_if
  told_ten [] s n e = by (not (is_empty s)) e
    where
      by : (b : Bool) → refuse_if {A = List Delivered} b 10 (done []) ≡ refused n → n ≡ 10
      by true f = ten_is n f
      by false f = absurd (not_done n [] (sym f))
  told_ten (q ∷ qs) s n e =
      then_ten (listing_here (table_form cells) q.start q.name s) _ n e (listing_ten (table_form cells) q.start q.name s) (λ d f.
      then_ten (told_from cells qs d.1) _ n f (told_ten qs d.1) (λ ds g. absurd (not_done n (d.0 ∷ ds) (sym g))))

  printing_none : (lists : List ℕ) (n : ℕ) → (told_of cells lists ≡ refused n) ↔ ((n ≡ 10) × ((ds : List Delivered) → ¬ Printed cells ds lists))
  unfolding told_of
  printing_none lists n = (
    λ e. (told_ten (queries_of cells) lists n e, λ ds p. not_done n ds (sym e ∙ (apart cells lists ds).1 p)),
    λ h. by (told_of cells lists) refl h.0 h.1,
  )
    where
      by : (o : Outcome (List Delivered)) → told_from cells (queries_of cells) lists ≡ o → n ≡ 10 → ((ds : List Delivered) → ¬ Printed cells ds lists) → o ≡ refused n
      by (refused m) e t never = let k = told_ten (queries_of cells) lists m e in ap refused (k ∙ sym t)
      by (done ds) e t never = absurd (never ds ((apart cells lists ds).0 e))

-- our own listings
lines_are : (cells : List ℕ) (rows : List (PathRow (language (rules_of cells))))
    → flat_map (entry_text cells) rows ≡ flat_map row_line (map (λ (r : PathRow (language (rules_of cells))). shown_row (letters_of cells) r.mark r.path.start r.path.hops) rows)
unfolding flat_map listed_text row_line
lines_are cells [] = refl
lines_are cells (r ∷ rows) = ap (λ (l : List ℕ). entry_text cells r ++ l) (lines_are cells rows)

named_are : (cells : List ℕ) (o : Option (OpenPair (language (rules_of cells)))) → awaits_text cells o ≡ named_text (shown_named cells o)
unfolding awaits_text named_text
named_are cells none = refl
named_are cells (some o) = refl

pub own_form : OwnForm
unfolding shown_text delivered_text shown
own_form cells q f o rows = rw (lines_are cells rows, named_are cells o)

pub taken_apart : TakenApart
taken_apart = apart

pub alone : Alone
alone cells lists ds es p r = done_same ds es (sym ((apart cells lists ds).1 p) ∙ (apart cells lists es).1 r)

pub no_printing : NoPrinting
no_printing = printing_none

pub promises : Promises
promises = record { taken_apart = taken_apart; alone = alone; no_printing = no_printing; own_form = own_form }
