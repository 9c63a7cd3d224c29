-- The loop that reads the list's numbers: what holds between two turns. Assumes nothing.
use Prim.Native.Nat.{ℕ, suc, ◌+◌, ◌-◌, ◌≤◌, ◌<◌}
use mathlib.Core.Path.{◌≡◌, sym, ap, ◌∙◌}
use mathlib.Core.Bool.{Bool, true, false}
use mathlib.Core.List.{List, [], ◌∷◌, ◌++◌}
use native.Mathlib.Omega.{arith}
use native.Mathlib.Nat.{sub-zero}
use native.Mathlib.Numerals.{add-one}
use lib.ListN.{length, set, take, drop, replicate, length-set, length-append}
use lib.Seq.{drop-drop, take-suc-set}
use Rattle.text_field.specs.Number.{number_placed}
use Rattle.text_field.specs.Outcome.{Outcome, refused, done, refuse_if}
use Rattle.std.specs.declared.option.Option.TheVariants.{Some, None}
use Rattle.text_field.proofs.Steps.{drop_end}
use Rattle.graph_rows.specs.Format.{most_scopes}
use Rattle.graph_file.proofs.SoughtStart.{placed_number, unplaced_number}
use Rattle.was.specs.Order.{is_listed}
use Rattle.was.specs.WasText.{was_line, begins_with, line_number, numbers_after, read_was}
use Rattle.was.specs.Cells.{at_front, in_cells, list_read}
use Rattle.was.proofs.CellLaws.{front_front, front_own, front_more}
use Rattle.was.proofs.ReadingLaws.{numbers_none, numbers_high, numbers_twice, numbers_next, numbers_over, numbers_more}

-- k numbers are read, and what is left gives the whole
pub record Reading (text : List ℕ) (at n : ℕ) (first cells : List ℕ) (k p : ℕ) : Type 0 where
  pub size : length cells ≡ most_scopes
  pub within : k ≤ n
  pub is : cells ≡ at_front (take k cells) first
  pub tells : numbers_after n (n - k) (take k cells) (drop p text) ≡ numbers_after n n [] (drop at text)

-- what the answer is
pub told_no : (o : Outcome (List ℕ)) → o ≡ refused 17 → None ≡ list_read o
unfolding list_read
told_no o e = rw e

pub told_yes : (o : Outcome (List ℕ)) (cells l : List ℕ) → o ≡ done l → cells ≡ at_front l (replicate most_scopes 0) → Some cells ≡ list_read o
unfolding list_read in_cells
told_yes o cells l e is = rw (e, is)

pub reading_start : (text : List ℕ) (at n : ℕ) (first : List ℕ) → length first ≡ most_scopes → Reading text at n first first 0 at
reading_start text at n first size = record {
  size = size;
  within = omega arith;
  is = sym (front_own 0 first (omega arith));
  tells = ap (λ (k : ℕ). numbers_after n k [] (drop at text)) (sub-zero n);
}

module _ (text : List ℕ) (at n : ℕ) (first cells : List ℕ) (k p : ℕ) (so : Reading text at n first cells k p) where
  abbrev whole : Outcome (List ℕ)
  whole = numbers_after n n [] (drop at text)

  module _ (h : k < n) where
    left : numbers_after n (suc (n - (k + 1))) (take k cells) (drop p text) ≡ whole
    left = let e : n - k ≡ suc (n - (k + 1)) = omega arith in ap (λ (j : ℕ). numbers_after n j (take k cells) (drop p text)) (sym e) ∙ so.tells

    pub reading_none : None ≡ number_placed p (line_number (drop p text)) → None ≡ list_read whole
    reading_none e = told_no whole (sym left ∙ numbers_none n (take k cells) (drop p text) (n - (k + 1)) (unplaced_number (line_number (drop p text)) p e))

    module _ (v next : ℕ) (e : Some (v, next) ≡ number_placed p (line_number (drop p text))) where
      pub reading_high : n ≤ v → None ≡ list_read whole
      reading_high x =
          let r = placed_number (line_number (drop p text)) p v next e in
          told_no whole (sym left ∙ numbers_high n (take k cells) (drop p text) (n - (k + 1)) v r.0 r.1 x)

      module _ (low : v < n) (t : Bool) (test : t ≡ is_listed v (take k cells)) where
        pub reading_twice : t ≡ true → None ≡ list_read whole
        reading_twice x =
            let r = placed_number (line_number (drop p text)) p v next e in
            told_no whole (sym left ∙ numbers_twice n (take k cells) (drop p text) (n - (k + 1)) v r.0 r.1 low (sym test ∙ x))

        pub reading_next : n ≤ most_scopes → t ≡ false → Reading text at n first (set cells k v) (k + 1) next
        reading_next most x =
            let r = placed_number (line_number (drop p text)) p v next e in
            let s = so.size in
            let fits : k < length cells = omega arith in
            let grown : take (k + 1) (set cells k v) ≡ take k cells ++ (v ∷ []) = ap (λ (j : ℕ). take j (set cells k v)) (add-one k) ∙ take-suc-set cells k v fits in
            let behind : drop r.0 (drop p text) ≡ drop next text = drop-drop r.0 p text ∙ ap (λ (j : ℕ). drop j text) (sym r.2) in
            record {
              size = length-set cells k v ∙ so.size;
              within = omega arith;
              is =
                  let a = length-append (take k cells) (v ∷ []) in
                  front_more cells k v fits ∙ ap (λ (l : List ℕ). at_front (take k cells ++ (v ∷ [])) l) so.is
                  ∙ front_front (take k cells) (take k cells ++ (v ∷ [])) first (omega arith)
                  ∙ ap (λ (l : List ℕ). at_front l first) (sym grown);
              tells =
                  ap (λ (l : List ℕ). numbers_after n (n - (k + 1)) l (drop next text)) grown
                  ∙ ap (numbers_after n (n - (k + 1)) (take k cells ++ (v ∷ []))) (sym behind)
                  ∙ sym (numbers_next n (take k cells) (drop p text) (n - (k + 1)) v r.0 r.1 low (sym test ∙ x))
                  ∙ left;
            }

  -- no number is left: then the text must end
  module _ (h : n ≤ k) where
    last : numbers_after n 0 (take k cells) (drop p text) ≡ whole
    last = let w = so.within in let e : n - k ≡ 0 = omega arith in ap (λ (j : ℕ). numbers_after n j (take k cells) (drop p text)) (sym e) ∙ so.tells

    pub reading_more : p < length text → None ≡ list_read whole
    reading_more g = told_no whole (sym last ∙ numbers_more n (take k cells) text p g)

    pub reading_end : first ≡ replicate most_scopes 0 → length text ≤ p → Some cells ≡ list_read whole
    reading_end zeros g = told_yes whole cells (take k cells) (sym last ∙ numbers_over n (take k cells) (drop p text) (drop_end text p g)) (so.is ∙ ap (at_front (take k cells)) zeros)

module _ (n : ℕ) (text : List ℕ) where
  pub was_none : begins_with was_line text ≡ false → None ≡ list_read (read_was n text)
  unfolding read_was refuse_if list_read
  was_none e = rw e

  pub was_begins : begins_with was_line text ≡ true → numbers_after n n [] (drop 4 text) ≡ read_was n text
  unfolding read_was refuse_if
  was_begins e = rw e
