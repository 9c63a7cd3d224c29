-- A field and its text tell each other. Assumes nothing.
use Prim.Native.Nat.{ℕ, zero, suc, ◌≤◌, ◌<◌}
use mathlib.Core.Path.{◌≡◌, refl, sym, ap, ◌∙◌}
use mathlib.Core.List.{List, [], ◌∷◌, ◌++◌}
use mathlib.Core.Bool.{Bool, true, false, not}
use native.Mathlib.Nat.{mod-eq_of_lt}
use native.Mathlib.Omega.{arith}
use lib.Dec.{eqb, leb}
use lib.ListN.{length, get_or, take, drop}
use lib.Seq.{drop-append_seam}
use borrow.Author.Tests.{ltb-true, leb-true, le-leb, eqb-true, eq-eqb, ne_eqb, not-true}
use Rattle.std.specs.declared.option.Option.{Option}
use Rattle.std.specs.declared.option.Option.TheVariants.{Some, None}
use Rattle.text_field.specs.Bytes.{within, is_capital, is_lower, is_digit, is_name_byte}
use Rattle.text_field.specs.Number.{number_text, number_here, number_meaning}
use Rattle.text_field.specs.Name.{name_text, name_here, is_name_cells, name_meaning}
use Rattle.text_field.proofs.ByteLaws.{clash, within_bounds}
use Rattle.text_field.proofs.NumberLaws.{number_back, number_found}
use Rattle.text_field.proofs.NameLaws.{name_back, name_found}
use Rattle.graph_rows.specs.Format.{Content, state, scope, mark, count, letter, label, end, name, kind, plain, turn, plain_kind, values_of}
use Rattle.text_field.specs.Outcome.{Outcome, done, and_then}
use Rattle.graph_rows.specs.Admission.{content_in_range, place}
use Rattle.graph_file.specs.Line.{Reading, number_taken, name_taken, byte_taken, end_taken, first, read_field, as_byte, end_byte, field_text}
use Rattle.graph_rows.specs.Values.{field_formed}
use Rattle.text_field.proofs.OutcomeLaws.{done_same, not_done}
use Rattle.graph_file.proofs.InverseLetters.{Letters, letter_there}
use Rattle.graph_file.proofs.InverseTable.{closes}

-- what a reading of a field that holds k tells of the text, for the value v, and w where the field
-- has a second one
pub record FieldFound (letters : List ℕ) (k : Content) (text : List ℕ) (r : Reading) (v w : ℕ) : Type 0 where
  pub whole : text ≡ field_text letters k v w ++ r.rest
  pub formed : field_formed k v w ≡ true

-- a capital is a byte, and not the end mark
pub capital_byte : (x : ℕ) → is_capital x ≡ true → (x < 256) × (as_byte x ≡ x) × (eqb x 36 ≡ false)
unfolding is_capital
capital_byte x h =
    let p = within_bounds 65 90 x h
    in (omega arith, mod-eq_of_lt (omega arith), ne_eqb x 36 (λ e. omega arith))

-- a lower-case letter is a byte
pub lower_byte : (x : ℕ) → is_lower x ≡ true → as_byte x ≡ x
unfolding is_lower
lower_byte x h = let p = within_bounds 97 122 x h in mod-eq_of_lt (omega arith)

capital_not_zero : is_capital 0 ≡ true → ⊥
unfolding is_capital within
capital_not_zero h = clash h refl

-- a byte of its class stands at the front
byte_found : (t : Bool) (x : ℕ) (text : List ℕ) (r : Reading) → byte_taken t x text ≡ done r
    → (t ≡ true) × (r.values ≡ x ∷ []) × (r.rest ≡ drop 1 text)
unfolding byte_taken
byte_found true x text r e = let q = done_same (record { values = x ∷ []; rest = drop 1 text }) r e in (refl, sym (ap (λ (z : Reading). z.values) q), sym (ap (λ (z : Reading). z.rest) q))
byte_found false x text r e = absurd (not_done 2 r e)

number_count : (n : Option (ℕ × ℕ)) (text : List ℕ) (r : Reading) → number_taken n text ≡ done r → length r.values ≡ 1
unfolding number_taken number_meaning and_then
number_count (Some (v, w)) text r e = sym (ap (λ (z : Reading). length z.values) (done_same (record { values = v ∷ []; rest = drop w text }) r e))
number_count None text r e = absurd (not_done 2 r e)

name_count : (n : Option (ℕ × ℕ × ℕ)) (text : List ℕ) (r : Reading) → name_taken n text ≡ done r → length r.values ≡ 2
unfolding name_taken name_meaning and_then
name_count (Some (h, l, w)) text r e = sym (ap (λ (z : Reading). length z.values) (done_same (record { values = h ∷ l ∷ []; rest = drop w text }) r e))
name_count None text r e = absurd (not_done 2 r e)

byte_count : (t : Bool) (x : ℕ) (text : List ℕ) (r : Reading) → byte_taken t x text ≡ done r → length r.values ≡ 1
byte_count t x text r e = ap length (byte_found t x text r e).1

end_mark : (letters : List ℕ) (x : ℕ) (text : List ℕ) → eqb x 36 ≡ true → end_taken letters x text ≡ byte_taken true 0 text
unfolding end_taken
end_mark letters x text h = rw (h, end_taken)

pub end_label : (letters : List ℕ) (x : ℕ) (text : List ℕ) → eqb x 36 ≡ false
    → end_taken letters x text ≡ byte_taken (is_capital x) (suc (place x letters)) text
unfolding end_taken
end_label letters x text h = rw (h, end_taken)

end_count : (letters : List ℕ) (x : ℕ) (text : List ℕ) (r : Reading) → end_taken letters x text ≡ done r → length r.values ≡ 1
end_count letters x text r e = by (eqb x 36) refl
  where
    by : (t : Bool) → eqb x 36 ≡ t → length r.values ≡ 1
    by true h = byte_count true 0 text r (sym (end_mark letters x text h) ∙ e)
    by false h = byte_count (is_capital x) (suc (place x letters)) text r (sym (end_label letters x text h) ∙ e)

-- a field read has as many values as it should
pub field_count : (letters : List ℕ) (k : Content) (text : List ℕ) (r : Reading) → read_field letters k text ≡ done r → length r.values ≡ values_of k
unfolding read_field values_of
field_count letters state text r e = number_count (number_here text) text r e
field_count letters scope text r e = number_count (number_here text) text r e
field_count letters mark text r e = number_count (number_here text) text r e
field_count letters count text r e = number_count (number_here text) text r e
field_count letters letter text r e = byte_count (is_capital (first text)) (first text) text r e
field_count letters label text r e = byte_count (is_capital (first text)) (place (first text) letters) text r e
field_count letters end text r e = end_count letters (first text) text r e
field_count letters name text r e = name_count (name_here text) text r e
field_count letters kind text r e = byte_count (is_lower (first text)) (first text) text r e
field_count letters turn text r e = number_count (number_here text) text r e
field_count letters plain text r e = sym (ap (λ (z : Reading). length z.values) (done_same (record { values = plain_kind ∷ []; rest = text }) r e))

record NumberFound (text : List ℕ) (r : Reading) (v : ℕ) : Type 0 where
  whole : text ≡ number_text v ++ r.rest
  formed : leb v 99999 ≡ true

found_number : (n : Option (ℕ × ℕ)) (text : List ℕ) (r : Reading) (v : ℕ) → number_here text ≡ n → number_taken n text ≡ done r → v ≡ get_or r.values 0 0
    → NumberFound text r v
unfolding number_taken number_meaning and_then
found_number (Some (u, w)) text r v h e p =
    let q = done_same (record { values = u ∷ []; rest = drop w text }) r e
    in let s = number_found text u w h
    in let d : drop w text ≡ r.rest = ap (λ (z : Reading). z.rest) q
    in let x : u ≡ v = ap (λ (z : Reading). get_or z.values 0 0) q ∙ sym p
    in record { whole = s.whole ∙ rw (x, d); formed = le-leb v 99999 (rw x at s.small) }
found_number None text r v h e p = absurd (not_done 2 r e)

record NameFound (text : List ℕ) (r : Reading) (v w : ℕ) : Type 0 where
  whole : text ≡ name_text v w ++ r.rest
  formed : is_name_cells v w ≡ true

found_name : (n : Option (ℕ × ℕ × ℕ)) (text : List ℕ) (r : Reading) (v w : ℕ) → name_here text ≡ n → name_taken n text ≡ done r → v ≡ get_or r.values 0 0
    → w ≡ get_or r.values 1 0 → NameFound text r v w
unfolding name_taken name_meaning and_then
found_name (Some (a, b, n)) text r v w h e p p' =
    let q = done_same (record { values = a ∷ b ∷ []; rest = drop n text }) r e
    in let s = name_found text a b n h
    in let d : drop n text ≡ r.rest = ap (λ (z : Reading). z.rest) q
    in let x : a ≡ v = ap (λ (z : Reading). get_or z.values 0 0) q ∙ sym p
    in let y : b ≡ w = ap (λ (z : Reading). get_or z.values 1 0) q ∙ sym p'
    in record { whole = s.whole ∙ rw (x, y, d); formed = rw (x, y) at s.cells }
found_name None text r v w h e p p' = absurd (not_done 2 r e)

-- a byte that is a capital is the text's first
front : (text : List ℕ) → is_capital (first text) ≡ true → text ≡ first text ∷ drop 1 text
front [] h = absurd (capital_not_zero h)
front (x ∷ text) h = refl

found_letter : (letters text : List ℕ) (r : Reading) (v w : ℕ) → byte_taken (is_capital (first text)) (first text) text ≡ done r
    → v ≡ get_or r.values 0 0 → FieldFound letters letter text r v w
unfolding field_text field_formed
found_letter letters text r v w e p =
    let f = byte_found (is_capital (first text)) (first text) text r e
    in let x : v ≡ first text = p ∙ ap (λ (z : List ℕ). get_or z 0 0) f.1
    in let c : is_capital v ≡ true = rw x f.0
    in record { whole = front text f.0 ∙ rw ((capital_byte v c).1, x, f.2); formed = c }

-- a kind is the text's first byte, and the plain one is no text
lower_front : (text : List ℕ) → is_lower (first text) ≡ true → text ≡ first text ∷ drop 1 text
unfolding is_lower within
lower_front [] h = absurd (clash h refl)
lower_front (x ∷ text) h = refl

found_kind : (letters text : List ℕ) (r : Reading) (v w : ℕ) → byte_taken (is_lower (first text)) (first text) text ≡ done r
    → v ≡ get_or r.values 0 0 → FieldFound letters kind text r v w
unfolding field_text field_formed
found_kind letters text r v w e p =
    let f = byte_found (is_lower (first text)) (first text) text r e
    in let x : v ≡ first text = p ∙ ap (λ (z : List ℕ). get_or z 0 0) f.1
    in let c : is_lower v ≡ true = rw x f.0
    in record { whole = lower_front text f.0 ∙ rw (lower_byte v c, x, f.2); formed = c }

found_plain : (letters text : List ℕ) (r : Reading) (v w : ℕ) → ◌≡◌ {A = Outcome Reading} (done (record { values = plain_kind ∷ []; rest = text })) (done r)
    → v ≡ get_or r.values 0 0 → FieldFound letters plain text r v w
unfolding field_text field_formed
found_plain letters text r v w e p =
    let q = done_same (record { values = plain_kind ∷ []; rest = text }) r e
    in record {
      whole = ap (λ (z : Reading). z.rest) q;
      formed = eq-eqb v plain_kind (p ∙ sym (ap (λ (z : Reading). get_or z.values 0 0) q));
    }

-- a listed letter is written again as it was read
listed_byte : (letters : List ℕ) (x : ℕ) → is_capital x ≡ true → place x letters < length letters → as_byte (get_or letters (place x letters) 0) ≡ x
listed_byte letters x c h = rw (letter_there x letters h) (capital_byte x c).1

found_label : (letters text : List ℕ) (r : Reading) (v w : ℕ) → byte_taken (is_capital (first text)) (place (first text) letters) text ≡ done r
    → v ≡ get_or r.values 0 0 → v < length letters → FieldFound letters label text r v w
unfolding field_text field_formed
found_label letters text r v w e p l =
    let f = byte_found (is_capital (first text)) (place (first text) letters) text r e
    in let x : v ≡ place (first text) letters = p ∙ ap (λ (z : List ℕ). get_or z 0 0) f.1
    in record { whole = front text f.0 ∙ rw (x, listed_byte letters (first text) f.0 (omega arith), f.2); formed = refl }

found_end : (letters text : List ℕ) (r : Reading) (v w : ℕ) → end_taken letters (first text) text ≡ done r → v ≡ get_or r.values 0 0
    → v ≤ length letters → FieldFound letters end text r v w
unfolding field_text field_formed end_byte
found_end letters text r v w e p l = by (eqb (first text) 36) refl
  where
    mark_front : (s : List ℕ) → first s ≡ 36 → s ≡ 36 ∷ drop 1 s
    mark_front [] h = absurd (omega arith)
    mark_front (x ∷ s) h = ap (λ (z : ℕ). z ∷ s) h

    by : (t : Bool) → eqb (first text) 36 ≡ t → FieldFound letters end text r v w
    by true h =
        let f = byte_found true 0 text r (sym (end_mark letters (first text) text h) ∙ e)
        in let x : v ≡ 0 = p ∙ ap (λ (z : List ℕ). get_or z 0 0) f.1
        in record { whole = mark_front text (eqb-true (first text) 36 h) ∙ rw (x, f.2); formed = refl }
    by false h =
        let f = byte_found (is_capital (first text)) (suc (place (first text) letters)) text r (sym (end_label letters (first text) text h) ∙ e)
        in let x : v ≡ suc (place (first text) letters) = p ∙ ap (λ (z : List ℕ). get_or z 0 0) f.1
        in record { whole = front text f.0 ∙ rw (x, listed_byte letters (first text) f.0 (omega arith), f.2); formed = refl }

-- what was read is written again, and is of its form
pub field_found : (letters : List ℕ) (scopes : ℕ) (k : Content) (text : List ℕ) (r : Reading) (v w : ℕ) → read_field letters k text ≡ done r
    → v ≡ get_or r.values 0 0 → (values_of k ≡ 2 → w ≡ get_or r.values 1 0) → content_in_range (length letters) scopes k v ≡ true
    → FieldFound letters k text r v w
unfolding read_field values_of content_in_range field_text field_formed
field_found letters scopes state text r v w e p q g = let f = found_number (number_here text) text r v refl e p in record { whole = f.whole; formed = f.formed }
field_found letters scopes scope text r v w e p q g = let f = found_number (number_here text) text r v refl e p in record { whole = f.whole; formed = f.formed }
field_found letters scopes mark text r v w e p q g = let f = found_number (number_here text) text r v refl e p in record { whole = f.whole; formed = f.formed }
field_found letters scopes count text r v w e p q g = let f = found_number (number_here text) text r v refl e p in record { whole = f.whole; formed = f.formed }
field_found letters scopes turn text r v w e p q g = let f = found_number (number_here text) text r v refl e p in record { whole = f.whole; formed = f.formed }
field_found letters scopes letter text r v w e p q g = found_letter letters text r v w e p
field_found letters scopes label text r v w e p q g = found_label letters text r v w e p (ltb-true v (length letters) g)
field_found letters scopes end text r v w e p q g = found_end letters text r v w e p (leb-true v (length letters) g)
field_found letters scopes kind text r v w e p q g = found_kind letters text r v w e p
field_found letters scopes plain text r v w e p q g = found_plain letters text r v w e p
field_found letters scopes name text r v w e p q g = let f = found_name (name_here text) text r v w refl e p (q refl) in record { whole = f.whole; formed = f.formed }

number_again : (v : ℕ) (rest : List ℕ) → leb v 99999 ≡ true → not (is_digit (first rest)) ≡ true
    → number_taken (number_here (number_text v ++ rest)) (number_text v ++ rest) ≡ done (record { values = v ∷ []; rest = rest })
unfolding number_taken number_meaning and_then
number_again v rest f c = rw (number_back v rest (leb-true v 99999 f) (not-true (is_digit (first rest)) c), drop-append_seam (number_text v) rest)

name_again : (v w : ℕ) (rest : List ℕ) → is_name_cells v w ≡ true → not (is_name_byte (first rest)) ≡ true
    → name_taken (name_here (name_text v w ++ rest)) (name_text v w ++ rest) ≡ done (record { values = v ∷ w ∷ []; rest = rest })
unfolding name_taken name_meaning and_then
name_again v w rest f c = rw (name_back v w rest f (not-true (is_name_byte (first rest)) c), drop-append_seam (name_text v w) rest)

module _ (letters : List ℕ) (L : Letters letters) where
  label_again : (v : ℕ) → v < length letters
      → (is_capital (as_byte (get_or letters v 0)) ≡ true) × (place (as_byte (get_or letters v 0)) letters ≡ v) × (eqb (as_byte (get_or letters v 0)) 36 ≡ false)
  label_again v h =
      let c = L.capital v h
      in let b = capital_byte (get_or letters v 0) c
      in (rw b.1 c, rw b.1 (L.own v h), rw b.1 b.2)

  end_again : (v w : ℕ) (rest : List ℕ) → v ≤ length letters
      → end_taken letters (end_byte letters v) (end_byte letters v ∷ rest) ≡ done (record { values = v ∷ []; rest = rest })
  unfolding end_byte end_taken byte_taken
  end_again zero w rest h = refl
  end_again (suc v) w rest h =
      let a = label_again v h
      in end_label letters (as_byte (get_or letters v 0)) (as_byte (get_or letters v 0) ∷ rest) a.2 ∙ rw (a.0, a.1)

  -- what was written is read again
  pub field_again : (scopes : ℕ) (k : Content) (v w : ℕ) (rest : List ℕ) → field_formed k v w ≡ true → content_in_range (length letters) scopes k v ≡ true
      → closes k (first rest) ≡ true
      → read_field letters k (field_text letters k v w ++ rest) ≡ done (record { values = take (values_of k) (v ∷ w ∷ []); rest = rest })
  unfolding read_field values_of content_in_range field_text field_formed closes byte_taken
  field_again scopes state v w rest f g c = number_again v rest f c
  field_again scopes scope v w rest f g c = number_again v rest f c
  field_again scopes mark v w rest f g c = number_again v rest f c
  field_again scopes count v w rest f g c = number_again v rest f c
  field_again scopes turn v w rest f g c = number_again v rest f c
  field_again scopes letter v w rest f g c = rw ((capital_byte v f).1, f)
  field_again scopes label v w rest f g c = let a = label_again v (ltb-true v (length letters) g) in rw (a.0, a.1)
  field_again scopes end v w rest f g c = end_again v w rest (leb-true v (length letters) g)
  field_again scopes name v w rest f g c = name_again v w rest f c
  field_again scopes kind v w rest f g c = rw (lower_byte v f, f)
  field_again scopes plain v w rest f g c = ap (λ (x : ℕ). done (record { values = x ∷ []; rest = rest })) (sym (eqb-true v plain_kind f))
