-- What was read as a token stands there, and what stands there is read. Assumes nothing.
use Prim.Native.Nat.{ℕ, ◌≤◌, ◌<◌}
use mathlib.Core.Path.{◌≡◌, refl, sym, ap, ◌∙◌}
use mathlib.Core.Bool.{Bool, true, false, ◌&&◌}
use mathlib.Core.List.{List, [], ◌∷◌, ◌++◌}
use native.Mathlib.Omega.{arith}
use lib.Dec.{eqb}
use lib.ListN.{length, get_or, drop, length-append}
use lib.Seq.{drop_at}
use borrow.Author.Tests.{eqb-true, ne_eqb}
use Rattle.text_field.specs.Bytes.{is_digit, is_capital}
use Rattle.text_field.specs.Outcome.{refused, done}
use Rattle.text_field.specs.Number.{number_text, number_here}
use Rattle.std.specs.declared.option.Option.{Option}
use Rattle.std.specs.declared.option.Option.TheVariants.{Some, None}
use Rattle.text_field.proofs.ByteLaws.{both, clash}
use Rattle.text_field.proofs.OutcomeLaws.{done_same, not_done}
use Rattle.text_field.proofs.ByteLaws.{digit_bounds}
use Rattle.text_field.proofs.NumberLaws.{number_back, number_found, first_off}
use Rattle.dot_text.specs.Tokens.{is_blank, blanks, Token, fixed, number, quoted, Proper, spelling, Spelled, nothing, first}
use Rattle.dot_text.specs.Reading.{Taken, past_blanks, past_bytes, number_of, fixed_next, number_next, quoted_here, quoted_next}
use Rattle.dot_text.proofs.Steps.{blank_on, blank_off, byte_same, byte_other}

-- the text begins with blanks and the token, and goes on with r
pub record Stands (t : Token) (s r : List ℕ) : Type 0 where
  pub gap : List ℕ
  pub blank : blanks gap ≡ true
  pub proper : Proper t
  pub whole : s ≡ gap ++ (spelling t ++ r)

-- blanks
pub record Blanked (s : List ℕ) : Type 0 where
  pub gap : List ℕ
  pub blank : blanks gap ≡ true
  pub whole : s ≡ gap ++ past_blanks s

pub blanked : (s : List ℕ) → Blanked s
unfolding past_blanks blanks
blanked [] = record { gap = []; blank = refl; whole = refl }
blanked (x ∷ s) = by (is_blank x) refl (blanked s)
  where
    by : (t : Bool) → is_blank x ≡ t → Blanked s → Blanked (x ∷ s)
    by true e b = record { gap = x ∷ b.gap; blank = rw e b.blank; whole = ap (λ (z : List ℕ). x ∷ z) (b.whole ∙ rw (← blank_on x s e)) }
    by false e b = record { gap = []; blank = refl; whole = sym (blank_off x s e) }

pub blanks_passed : (gap s : List ℕ) → blanks gap ≡ true → past_blanks (gap ++ s) ≡ past_blanks s
unfolding blanks
blanks_passed [] s h = refl
blanks_passed (x ∷ gap) s h = let p = both (is_blank x) (blanks gap) h in blank_on x (gap ++ s) p.0 ∙ blanks_passed gap s p.1

-- fixed bytes
pub bytes_found : (bytes s r : List ℕ) → past_bytes bytes s ≡ done r → s ≡ bytes ++ r
unfolding past_bytes
bytes_found [] s r e = done_same s r e
bytes_found (b ∷ bytes) [] r e = absurd (not_done 18 r e)
bytes_found (b ∷ bytes) (x ∷ s) r e = by (eqb x b) refl (bytes_found bytes s r)
  where
    by : (t : Bool) → eqb x b ≡ t → (past_bytes bytes s ≡ done r → s ≡ bytes ++ r) → x ∷ s ≡ b ∷ (bytes ++ r)
    by true t found = let h = eqb-true x b t in rw h (ap (λ (z : List ℕ). b ∷ z) (found (sym (rw (t, past_bytes)) ∙ e)))
    by false t found = absurd (not_done 18 r (sym (rw (t, past_bytes)) ∙ e))

pub bytes_back : (bytes r : List ℕ) → past_bytes bytes (bytes ++ r) ≡ done r
unfolding past_bytes
bytes_back [] r = refl
bytes_back (b ∷ bytes) r = byte_same b bytes (bytes ++ r) ∙ bytes_back bytes r

pub fixed_found : (bytes s r : List ℕ) → fixed_next bytes s ≡ done r → Stands (fixed bytes) s r
unfolding fixed_next spelling
fixed_found bytes s r e =
    let b = blanked s in
    record { gap = b.gap; blank = b.blank; proper = tt; whole = b.whole ∙ ap (λ (z : List ℕ). b.gap ++ z) (bytes_found bytes (past_blanks s) r e) }

-- Fixed bytes stand after blanks where the first of them is none.
pub fixed_back : (b : ℕ) (bytes s r : List ℕ) → is_blank b ≡ false → Stands (fixed (b ∷ bytes)) s r → fixed_next (b ∷ bytes) s ≡ done r
unfolding fixed_next spelling
fixed_back b bytes s r n h =
    ap (λ (z : List ℕ). past_bytes (b ∷ bytes) z)
    (ap past_blanks h.whole ∙ blanks_passed h.gap (b ∷ (bytes ++ r)) h.blank ∙ blank_off b (bytes ++ r) n)
    ∙ bytes_back (b ∷ bytes) r

-- a number
pub number_stands : (s : List ℕ) (t : Taken ℕ) → number_next s ≡ done t → Stands (number t.value) s t.rest
unfolding number_next number_of spelling
number_stands s t e = by (number_here (past_blanks s)) refl e
  where
    by : (r : Option (ℕ × ℕ)) → number_here (past_blanks s) ≡ r → number_of r (past_blanks s) ≡ done t → Stands (number t.value) s t.rest
    by (Some (v, w)) here f =
        let q = done_same (record { value = v; rest = drop w (past_blanks s) }) t f in
        let b = blanked s in
        let n = number_found (past_blanks s) v w here in
        let p : v ≡ t.value = ap (λ (x : Taken ℕ). x.value) q in
        let d : drop w (past_blanks s) ≡ t.rest = ap (λ (x : Taken ℕ). x.rest) q in
        record {
          gap = b.gap;
          blank = b.blank;
          proper = rw (← p) n.small;
          whole = b.whole ∙ ap (λ (z : List ℕ). b.gap ++ z) (n.whole ∙ rw (d, p));
        }
    by None here f = absurd (not_done 18 t f)

-- what comes after the space is no blank
pub not_blank : (x : ℕ) → 33 ≤ x → is_blank x ≡ false
unfolding is_blank
not_blank x h = rw (ne_eqb x 32 (λ e. omega arith), ne_eqb x 9 (λ e. omega arith), ne_eqb x 10 (λ e. omega arith))

digit_front : (s : List ℕ) (v w : ℕ) → number_here s ≡ Some (v, w) → past_blanks s ≡ s
unfolding past_blanks
digit_front [] v w e = refl
digit_front (x ∷ s) v w e = by (is_digit x) refl
  where
    by : (t : Bool) → is_digit x ≡ t → past_blanks (x ∷ s) ≡ x ∷ s
    by true t = blank_off x s (not_blank x (let b = digit_bounds x t in omega arith))
    by false t = absurd (let z : ◌≡◌ {A = ℕ} 0 1 = cc (first_off x s t) in omega arith)

pub number_reads : (v : ℕ) (s r : List ℕ) → is_digit (get_or r 0 0) ≡ false → Stands (number v) s r → number_next s ≡ done (record { value = v; rest = r })
unfolding number_next number_of spelling
number_reads v s r n h =
    let here = number_back v r h.proper n in
    let p : past_blanks s ≡ number_text v ++ r = ap past_blanks h.whole ∙ blanks_passed h.gap (number_text v ++ r) h.blank ∙ digit_front (number_text v ++ r) v (length (number_text v)) here in
    rw (p, here, number_of) (ap (λ (z : List ℕ). done (record { value = v; rest = z })) (drop_at (number_text v) r (length (number_text v)) refl))

-- a letter in quotes
quoted_found : (s : List ℕ) (t : Taken ℕ) → quoted_here s ≡ done t → (is_capital t.value ≡ true) × (s ≡ 34 ∷ t.value ∷ 34 ∷ t.rest)
unfolding quoted_here
quoted_found [] t e = absurd (not_done 18 t e)
quoted_found (a ∷ []) t e = absurd (not_done 18 t e)
quoted_found (a ∷ x ∷ []) t e = absurd (not_done 18 t e)
quoted_found (a ∷ x ∷ b ∷ s) t e = by (eqb a 34 && (is_capital x && eqb b 34)) refl
  where
    by : (u : Bool) → (eqb a 34 && (is_capital x && eqb b 34)) ≡ u → (is_capital t.value ≡ true) × (a ∷ x ∷ b ∷ s ≡ 34 ∷ t.value ∷ 34 ∷ t.rest)
    by true u =
        let p = both (eqb a 34) (is_capital x && eqb b 34) u in
        let q = both (is_capital x) (eqb b 34) p.1 in
        let f = done_same (record { value = x; rest = s }) t (sym (rw (u, quoted_here)) ∙ e) in
        let v : x ≡ t.value = ap (λ (z : Taken ℕ). z.value) f in
        let r : s ≡ t.rest = ap (λ (z : Taken ℕ). z.rest) f in
        (rw (← v) q.0, rw (eqb-true a 34 p.0, eqb-true b 34 q.1, v, r))
    by false u = absurd (not_done 18 t (sym (rw (u, quoted_here)) ∙ e))

pub quoted_stands : (s : List ℕ) (t : Taken ℕ) → quoted_next s ≡ done t → Stands (quoted t.value) s t.rest
unfolding quoted_next spelling
quoted_stands s t e =
    let b = blanked s in
    let q = quoted_found (past_blanks s) t e in
    record { gap = b.gap; blank = b.blank; proper = q.0; whole = b.whole ∙ ap (λ (z : List ℕ). b.gap ++ z) q.1 }

pub quoted_reads : (x : ℕ) (s r : List ℕ) → Stands (quoted x) s r → quoted_next s ≡ done (record { value = x; rest = r })
unfolding quoted_next spelling quoted_here is_blank
quoted_reads x s r h =
    ap quoted_here (ap past_blanks h.whole ∙ blanks_passed h.gap (34 ∷ x ∷ 34 ∷ r) h.blank ∙ blank_off 34 (x ∷ 34 ∷ r) refl)
    ∙ rw (h.proper, quoted_here)

-- a token that has a byte takes one
pub stands_shorter : (t : Token) (s r : List ℕ) → 1 ≤ length (spelling t) → Stands t s r → length r < length s
stands_shorter t s r some h =
    omega (arith, ap length h.whole, length-append h.gap (spelling t ++ r), length-append (spelling t) r)

-- a token before others
pub stands_first : (t : Token) (ts : List Token) (s r : List ℕ) → Stands t s r → Spelled ts r → Spelled (t ∷ ts) s
stands_first t ts s r h more = rw h.whole (first h.gap r h.blank h.proper more)

pub record First (t : Token) (ts : List Token) (s : List ℕ) : Type 0 where
  pub rest : List ℕ
  pub stands : Stands t s rest
  pub more : Spelled ts rest

pub spelled_first : {t : Token} {ts : List Token} {s : List ℕ} → Spelled (t ∷ ts) s → First t ts s
spelled_first (first gap rest blank proper more) = record {
  rest = rest;
  stands = record { gap = gap; blank = blank; proper = proper; whole = refl };
  more = more;
}

pub spelled_none : {s : List ℕ} → Spelled [] s → blanks s ≡ true
spelled_none (nothing gap blank) = blank

-- What stands there instead: bytes that begin otherwise, and what is no number.
pub fixed_other : (x : ℕ) (xs : List ℕ) (b : ℕ) (bytes s r : List ℕ) → is_blank b ≡ false → (b ≡ x → ⊥) → Stands (fixed (b ∷ bytes)) s r
    → fixed_next (x ∷ xs) s ≡ refused 18
unfolding fixed_next spelling
fixed_other x xs b bytes s r n d h =
    ap (λ (z : List ℕ). past_bytes (x ∷ xs) z)
    (ap past_blanks h.whole ∙ blanks_passed h.gap (b ∷ (bytes ++ r)) h.blank ∙ blank_off b (bytes ++ r) n)
    ∙ byte_other x b xs (bytes ++ r) d

pub number_other : (b : ℕ) (bytes s r : List ℕ) → is_blank b ≡ false → is_digit b ≡ false → Stands (fixed (b ∷ bytes)) s r → number_next s ≡ refused 18
unfolding number_next number_of spelling
number_other b bytes s r n d h =
    let p : past_blanks s ≡ b ∷ (bytes ++ r) = ap past_blanks h.whole ∙ blanks_passed h.gap (b ∷ (bytes ++ r)) h.blank ∙ blank_off b (bytes ++ r) n in
    rw (p, first_off b (bytes ++ r) d, number_of)

blank_no_digit : (x : ℕ) → is_blank x ≡ true → is_digit x ≡ false
blank_no_digit x h = by (is_digit x) refl
  where
    by : (t : Bool) → is_digit x ≡ t → t ≡ false
    by true t = absurd (clash h (not_blank x (let b = digit_bounds x t in omega arith)))
    by false t = refl

-- no digit comes first
pub no_digit_first : (b : ℕ) (bytes s r : List ℕ) → is_digit b ≡ false → Stands (fixed (b ∷ bytes)) s r → is_digit (get_or s 0 0) ≡ false
unfolding spelling blanks
no_digit_first b bytes s r d h = rw h.whole (by h.gap h.blank)
  where
    by : (gap : List ℕ) → blanks gap ≡ true → is_digit (get_or (gap ++ (b ∷ (bytes ++ r))) 0 0) ≡ false
    by [] k = d
    by (x ∷ gap) k = blank_no_digit x (both (is_blank x) (blanks gap) k).0
