-- A text is read as a list exactly if it is that list's text. Assumes nothing.
use Prim.Native.Nat.{ℕ, zero, suc, ◌+◌, ◌≤◌, ◌<◌}
use mathlib.Core.Path.{◌≡◌, refl, sym, ap, ◌∙◌, subst}
use mathlib.Core.Bool.{Bool, true, false, not, ◌||◌}
use mathlib.Core.List.Memᴰ
use mathlib.Core.List.{List, [], ◌∷◌, ◌++◌, flat_map, append_assoc, append-nil}
use native.Mathlib.Omega.{arith}
use lib.Dec.{eqb, leb}
use lib.ListN.{length, drop, length-append}
use lib.Seq.{drop-drop, drop-append_seam}
use borrow.Author.Tests.{eqb-true, eq-eqb, leb-false}
use Rattle.text_field.specs.Bytes.{within, is_digit}
use Rattle.text_field.specs.Number.{number_text, number_here, number_meaning}
use Rattle.text_field.specs.Outcome.{Outcome, refused, done, and_then, refuse_if}
use Rattle.std.specs.declared.option.Option.{Option}
use Rattle.std.proofs.lemmas.Option.{some_pair_parts}
use Rattle.std.specs.declared.option.Option.TheVariants.{Some, None}
use Rattle.text_field.proofs.ByteLaws.{both}
use Rattle.text_field.proofs.NumberLaws.{number_back, number_found}
use Rattle.text_field.proofs.OutcomeLaws.{done_same, not_done, passed}
use Rattle.scope_graph.specs.Path.{Distinct}
use Rattle.scope_graph.proofs.Lists.{here}
use Rattle.scope_graph.proofs.Pigeon.{not_in_test}
use Rattle.graph_rows.specs.Way.{starts_with, is_empty}
use Rattle.graph_rows.specs.Format.{most_scopes}
use Rattle.was.specs.Order.{is_listed}
use Rattle.was.specs.WasText.{was_line, number_line, was_text, begins_with, ended_by, line_number, numbers_after, read_was}
use Rattle.was.specs.Promises.{HoldsEach, ReadsRight}
use Rattle.was.specs.Cells.{Scopes}
use Rattle.was.proofs.Growing.{scopes_more, distinct_apart}
use Rattle.was.proofs.ReadingLaws.{numbers_over, numbers_next}
use Rattle.was.proofs.Breadth.{holds_scopes, holds_size, all_held}

or_none_left : (a b : Bool) → (a || b) ≡ false → a ≡ false
or_none_left true b e = e
or_none_left false b e = refl

or_none_right : (a b : Bool) → (a || b) ≡ false → b ≡ false
or_none_right true true e = e
or_none_right true false e = refl
or_none_right false b e = e

not_no : (b : Bool) → not b ≡ false → b ≡ true
not_no true e = refl
not_no false e = sym e

-- a line's number and its text
starts_ten : (s : List ℕ) → starts_with 10 s ≡ true → s ≡ 10 ∷ drop 1 s
unfolding starts_with
starts_ten [] e = absurd (let z : ◌≡◌ {A = ℕ} 0 1 = ap (λ (b : Bool). elim b as (λ _. ℕ) [ true ↦ 1 | false ↦ 0 ]) e in omega arith)
starts_ten (x ∷ s) e = ap (λ (y : ℕ). y ∷ s) (eqb-true x 10 e)

line_whole : (s : List ℕ) (v w : ℕ) → line_number s ≡ Some (v, w) → s ≡ number_line v ++ drop w s
unfolding line_number ended_by number_line
line_whole s v w e = by (number_here s) refl e
  where
    ended : (u k : ℕ) → number_here s ≡ Some (u, k) → (t : Bool) → starts_with 10 (drop k s) ≡ t
        → (elim t as (λ _. Option (ℕ × ℕ)) [ true ↦ Some (u, (k + 1)) | false ↦ None ]) ≡ Some (v, w) → s ≡ (number_text v ++ (10 ∷ [])) ++ drop w s
    ended u k h true t f =
        let parts = some_pair_parts u v (k + 1) w f in
        let same = parts.0 in
        let next = parts.1 in
        (number_found s u k h).whole ∙ ap (λ (l : List ℕ). number_text u ++ l) (starts_ten (drop k s) t ∙ ap (λ (l : List ℕ). 10 ∷ l) (drop-drop 1 k s))
        ∙ sym (append_assoc (number_text u) (10 ∷ []) (drop (k + 1) s))
        ∙ ap (λ (j : ℕ). (number_text u ++ (10 ∷ [])) ++ drop j s) next ∙ ap (λ (x : ℕ). (number_text x ++ (10 ∷ [])) ++ drop w s) same
    ended u k h false t f = absurd (let z : ◌≡◌ {A = ℕ} 0 1 = cc in omega arith)

    by : (r : Option (ℕ × ℕ)) → number_here s ≡ r → ended_by s r ≡ Some (v, w) → s ≡ (number_text v ++ (10 ∷ [])) ++ drop w s
    by (Some (u, k)) h f = ended u k h (starts_with 10 (drop k s)) refl f
    by None h f = absurd (let z : ◌≡◌ {A = ℕ} 0 1 = cc in omega arith)

ten_ends : is_digit 10 ≡ false
unfolding is_digit within
ten_ends = refl

line_back : (v : ℕ) (rest : List ℕ) → v ≤ 99999 → line_number (number_line v ++ rest) ≡ Some (v, (length (number_text v) + 1))
unfolding line_number ended_by number_line starts_with
line_back v rest h =
    let whole : (number_text v ++ (10 ∷ [])) ++ rest ≡ number_text v ++ (10 ∷ rest) = append_assoc (number_text v) (10 ∷ []) rest in
    ap (λ (s : List ℕ). ended_by s (number_here s)) whole
    ∙ ap (ended_by (number_text v ++ (10 ∷ rest))) (number_back v (10 ∷ rest) h ten_ends)
    ∙ rw (drop-append_seam (number_text v) (10 ∷ rest), ended_by)

line_length : (v : ℕ) → length (number_line v) ≡ length (number_text v) + 1
unfolding number_line
line_length v = length-append (number_text v) (10 ∷ [])

-- what the numbers that were read say of the text
record Numbers (n left : ℕ) (listed text list : List ℕ) : Type 0 where
  more : List ℕ
  is : list ≡ listed ++ more
  lines : text ≡ flat_map number_line more
  count : length more ≡ left
  scopes : Scopes n list

module _ (n : ℕ) where
  record Step (left : ℕ) (listed text list : List ℕ) : Type 0 where
    v : ℕ
    width : ℕ
    line : line_number text ≡ Some (v, width)
    low : v < n
    new : is_listed v listed ≡ false
    after : numbers_after n left (listed ++ (v ∷ [])) (drop width text) ≡ done list

  step : (left : ℕ) (listed text list : List ℕ) → numbers_after n (suc left) listed text ≡ done list → Step left listed text list
  unfolding numbers_after number_meaning and_then
  step left listed text list e = by (line_number text) refl e
    where
      by : (r : Option (ℕ × ℕ)) → line_number text ≡ r
          → and_then (number_meaning 17 r) (λ f. refuse_if (leb n f.value || is_listed f.value listed) 17 (numbers_after n left (listed ++ (f.value ∷ [])) (drop f.next text))) ≡ done list
          → Step left listed text list
      by (Some (v, w)) h f =
          let p = passed (leb n v || is_listed v listed) 17 _ list f in record {
            v = v;
            width = w;
            line = h;
            low = leb-false n v (or_none_left (leb n v) (is_listed v listed) p.0);
            new = or_none_right (leb n v) (is_listed v listed) p.0;
            after = p.1;
          }
      by None h f = absurd (not_done 17 list f)

  numbers_forth : (left : ℕ) (listed text list : List ℕ) → Scopes n listed → numbers_after n left listed text ≡ done list → Numbers n left listed text list
  unfolding numbers_after is_empty flat_map refuse_if
  numbers_forth zero listed [] list s e =
      let same : listed ≡ list = done_same listed list (passed false 17 (done listed) list e).1 in
      record { more = []; is = sym same ∙ sym (append-nil listed); lines = refl; count = refl; scopes = subst (λ (l : List ℕ). Scopes n l) same s }
  numbers_forth zero listed (x ∷ text) list s e = absurd (not_done 17 list e)
  numbers_forth (suc left) listed text list s e =
      let t = step left listed text list e in
      let r = numbers_forth left (listed ++ (t.v ∷ [])) (drop t.width text) list (scopes_more n listed t.v s t.low t.new) t.after in
      record {
        more = t.v ∷ r.more;
        is = r.is ∙ append_assoc listed (t.v ∷ []) r.more;
        lines = line_whole text t.v t.width t.line ∙ ap (λ (l : List ℕ). number_line t.v ++ l) r.lines;
        count = ap suc r.count;
        scopes = r.scopes;
      }

  part_new : (listed more : List ℕ) (v : ℕ) → Distinct (listed ++ (v ∷ more)) → is_listed v listed ≡ false
  part_new listed more v d = not_in_test v listed (distinct_apart listed more v d)

  numbers_back : (small : n ≤ most_scopes) (more listed : List ℕ) → Scopes n (listed ++ more)
      → numbers_after n (length more) listed (flat_map number_line more) ≡ done (listed ++ more)
  unfolding flat_map
  numbers_back small [] listed s = numbers_over n listed [] refl ∙ ap done (sym (append-nil listed))
  numbers_back small (v ∷ more) listed s =
      let low = s.below v (Memᴰ.append_right listed here) in
      let same = append_assoc listed (v ∷ []) more in
      let size = line_length v in
      let behind : drop (length (number_text v) + 1) (number_line v ++ flat_map number_line more) ≡ flat_map number_line more =
      ap (λ (k : ℕ). drop k (number_line v ++ flat_map number_line more)) (sym size) ∙ drop-append_seam (number_line v) (flat_map number_line more) in
      numbers_next n listed (number_line v ++ flat_map number_line more) (length more) v (length (number_text v) + 1)
      (line_back v (flat_map number_line more) (omega arith)) low (part_new listed more v s.once)
      ∙ ap (numbers_after n (length more) (listed ++ (v ∷ []))) behind
      ∙ numbers_back small more (listed ++ (v ∷ [])) (subst (λ (l : List ℕ). Scopes n l) (sym same) s)
      ∙ ap done same

  -- nothing but 17
  numbers_refusal : (left : ℕ) (listed text : List ℕ) (k : ℕ) → numbers_after n left listed text ≡ refused k → k ≡ 17
  unfolding numbers_after is_empty refuse_if number_meaning and_then
  numbers_refusal zero listed [] k e = absurd (not_done k listed (sym e))
  numbers_refusal zero listed (x ∷ text) k e = cc
  numbers_refusal (suc left) listed text k e = by (line_number text) e (λ l s. numbers_refusal left l s k)
    where
      tested : (t : Bool) (o : Outcome (List ℕ)) → refuse_if t 17 o ≡ refused k → (o ≡ refused k → k ≡ 17) → k ≡ 17
      tested true o f g = cc
      tested false o f g = g f

      by : (r : Option (ℕ × ℕ))
          → and_then (number_meaning 17 r) (λ f. refuse_if (leb n f.value || is_listed f.value listed) 17 (numbers_after n left (listed ++ (f.value ∷ [])) (drop f.next text))) ≡ refused k
          → ((l s : List ℕ) → numbers_after n left l s ≡ refused k → k ≡ 17) → k ≡ 17
      by (Some (v, w)) f g = tested (leb n v || is_listed v listed) _ f (g _ _)
      by None f g = cc

-- the names line
begins_whole : (names text : List ℕ) → begins_with names text ≡ true → text ≡ names ++ drop (length names) text
unfolding begins_with
begins_whole [] text e = refl
begins_whole (x ∷ names) [] e = absurd (let z : ◌≡◌ {A = ℕ} 0 1 = ap (λ (b : Bool). elim b as (λ _. ℕ) [ true ↦ 1 | false ↦ 0 ]) e in omega arith)
begins_whole (x ∷ names) (y ∷ text) e =
    let p = both (eqb y x) (begins_with names text) e in
    ap (λ (z : ℕ). z ∷ text) (eqb-true y x p.0) ∙ ap (λ (l : List ℕ). x ∷ l) (begins_whole names text p.1)

begins_back : (names rest : List ℕ) → begins_with names (names ++ rest) ≡ true
unfolding begins_with
begins_back [] rest = refl
begins_back (x ∷ names) rest = rw (eq-eqb x x refl) (begins_back names rest)

module _ (n : ℕ) (text : List ℕ) (small : n ≤ most_scopes) where
  forth : (list : List ℕ) → read_was n text ≡ done list → (text ≡ was_text list) × HoldsEach n list
  unfolding read_was was_text
  forth list e =
      let p = passed (not (begins_with was_line text)) 17 (numbers_after n n [] (drop 4 text)) list e in
      let r = numbers_forth n n [] (drop 4 text) list (record { once = tt; below = λ x m. absurd (Memᴰ.not-nil m) }) p.1 in (
        begins_whole was_line text (not_no (begins_with was_line text) p.0) ∙ ap (λ (l : List ℕ). was_line ++ l) (r.lines ∙ ap (flat_map number_line) (sym r.is)),
        all_held n list r.scopes (ap length r.is ∙ r.count),
      )

  back : (list : List ℕ) → text ≡ was_text list → HoldsEach n list → read_was n text ≡ done list
  unfolding read_was was_text refuse_if
  back list e h =
      ap (λ (t : List ℕ). refuse_if (not (begins_with was_line t)) 17 (numbers_after n n [] (drop 4 t))) e
      ∙ rw (begins_back was_line (flat_map number_line list))
      (ap (λ (k : ℕ). numbers_after n k [] (flat_map number_line list)) (sym (holds_size n list h)) ∙ numbers_back n small list [] (holds_scopes n list h))

  refusal : (k : ℕ) → read_was n text ≡ refused k → k ≡ 17
  unfolding read_was refuse_if
  refusal k e = by (not (begins_with was_line text)) e
    where
      by : (t : Bool) → refuse_if t 17 (numbers_after n n [] (drop 4 text)) ≡ refused k → k ≡ 17
      by true f = cc
      by false f = numbers_refusal n n [] (drop 4 text) k f

pub reads_right : ReadsRight
reads_right n text small = record {
  exactly = λ list. (forth n text small list, λ p. back n text small list p.0 p.1);
  refusal = refusal n text small;
}
