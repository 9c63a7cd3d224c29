-- One turn, and the ends, of the loops over bytes, and the tokens read by them, over plain lists.
-- Assumes nothing.
use mathlib.Core.Path.{◌≡◌, refl, sym, ap, ◌∙◌}
use mathlib.Core.Bool.{Bool, true, false, ◌&&◌}
use mathlib.Core.List.{List, [], ◌∷◌, ◌++◌}
use Prim.Native.Nat.{ℕ, ◌+◌, ◌-◌, ◌≤◌, ◌<◌, min}
use native.Mathlib.Omega.{arith}
use lib.Dec.{eqb, leb}
use lib.ListN.{length, get_or, take, drop, length-append, length-drop}
use lib.Seq.{drop-drop, drop-length, drop-append_seam}
use borrow.Author.Tests.{eq-eqb, ne_eqb, eqb-true, leb-true, leb-false}
use Rattle.std.proofs.lemmas.Slice.{between_to_end}
use Rattle.text_field.specs.Bytes.{is_capital}
use Rattle.text_field.specs.Outcome.{refused, done}
use Rattle.text_field.specs.Number.{number_here, number_placed}
use Rattle.std.specs.declared.option.Option.{Option}
use Rattle.std.specs.declared.option.Option.TheVariants.{Some, None}
use Rattle.text_field.proofs.Steps.{drop_next, drop_end}
use Rattle.dot_text.specs.Tokens.{is_blank, comment}
use Rattle.dot_text.specs.Reading.{past_blanks, past_bytes, number_of, number_next, quoted_here, past_blank, is_empty, rest_or, past_comment}

-- blanks at the front of a text are passed, and what is no blank is not
pub blank_on : (x : ℕ) (text : List ℕ) → is_blank x ≡ true → past_blanks (x ∷ text) ≡ past_blanks text
unfolding past_blanks
blank_on x text h = rw (h, past_blanks)

pub blank_off : (x : ℕ) (text : List ℕ) → is_blank x ≡ false → past_blanks (x ∷ text) ≡ x ∷ text
unfolding past_blanks
blank_off x text h = rw (h, past_blanks)

module _ (s : List ℕ) (i : ℕ) where
  pub blanks_end : length s ≤ i → drop (length s) s ≡ past_blanks (drop i s)
  unfolding past_blanks
  blanks_end h = drop-length s ∙ sym (rw (drop_end s i h))

  pub blanks_stop : i < length s → is_blank (get_or s i 0) ≡ false → drop i s ≡ past_blanks (drop i s)
  blanks_stop h t = drop_next s i h ∙ sym (ap past_blanks (drop_next s i h) ∙ blank_off (get_or s i 0) (drop (i + 1) s) t)

  pub blanks_go : i < length s → is_blank (get_or s i 0) ≡ true → past_blanks (drop (i + 1) s) ≡ past_blanks (drop i s)
  blanks_go h t = sym (ap past_blanks (drop_next s i h) ∙ blank_on (get_or s i 0) (drop (i + 1) s) t)

pub ruleset blank_steps = (blanks_end, blanks_stop, blanks_go)

-- bytes at the front of a text
pub byte_same : (b : ℕ) (bytes text : List ℕ) → past_bytes (b ∷ bytes) (b ∷ text) ≡ past_bytes bytes text
unfolding past_bytes
byte_same b bytes text = rw (eq-eqb b b refl, past_bytes)

pub byte_other : (b x : ℕ) (bytes text : List ℕ) → (x ≡ b → ⊥) → past_bytes (b ∷ bytes) (x ∷ text) ≡ refused 18
unfolding past_bytes
byte_other b x bytes text h = rw (ne_eqb x b h, past_bytes)

-- the bytes stand there, and the text goes on after them; or they do not
pub bytes_gone : (bytes rest : List ℕ) → past_bytes bytes (bytes ++ rest) ≡ done rest
unfolding past_bytes
bytes_gone [] rest = refl
bytes_gone (b ∷ bytes) rest = byte_same b bytes (bytes ++ rest) ∙ bytes_gone bytes rest

pub bytes_off : (bytes text : List ℕ) → ((rest : List ℕ) → text ≡ bytes ++ rest → ⊥) → past_bytes bytes text ≡ refused 18
unfolding past_bytes
bytes_off [] text n = absurd (n text refl)
bytes_off (b ∷ bytes) [] n = refl
bytes_off (b ∷ bytes) (x ∷ text) n = by (eqb x b) refl (bytes_off bytes text)
  where
    by : (t : Bool) → eqb x b ≡ t → (((rest : List ℕ) → text ≡ bytes ++ rest → ⊥) → past_bytes bytes text ≡ refused 18)
        → past_bytes (b ∷ bytes) (x ∷ text) ≡ refused 18
    by true t so = rw (t, past_bytes) (so (λ rest h. n rest (rw (eqb-true x b t, h))))
    by false t so = rw (t, past_bytes)

-- the text from a place on, where the place is taken to be at most the text's end
pub cut_whole : (s : List ℕ) (at k : ℕ) → k ≡ min at (length s) → take (length s - k) (drop k s) ≡ drop at s
cut_whole s at k is = by (leb (length s) at) refl
  where
    by : (t : Bool) → leb (length s) at ≡ t → take (length s - k) (drop k s) ≡ drop at s
    by true t =
        let h = leb-true (length s) at t in
        let z : length s - k ≡ 0 = omega arith in
        rw (z, drop_end s at h)
    by false t =
        let h = leb-false (length s) at t in
        let z : k ≡ at = omega arith in
        rw z (between_to_end s at (length s) (omega arith))

none_left : (l : List ℕ) → length l ≡ 0 → [] ≡ l
none_left [] e = refl
none_left (x ∷ l) e = absurd (omega arith)

-- the bytes stand at the front of what is left, and this is left after them; or they do not
module _ (s : List ℕ) (at : ℕ) (r : List ℕ) (is : r ≡ drop at s) (bytes : List ℕ) where
  pub strip_off : ((rest : List ℕ) → r ≡ bytes ++ rest → ⊥) → refused 18 ≡ past_bytes bytes (drop at s)
  strip_off n = sym (bytes_off bytes (drop at s) (λ rest h. n rest (is ∙ h)))

  pub strip_on : (rest : List ℕ) → r ≡ bytes ++ rest → done (drop (length s - length rest) s) ≡ past_bytes bytes (drop at s)
  strip_on rest h =
      let whole : drop at s ≡ bytes ++ rest = sym is ∙ h in
      let long : length s - at ≡ length bytes + length rest = sym (length-drop at s) ∙ ap length whole ∙ length-append bytes rest in
      rw (whole, bytes_gone bytes rest) (ap done (by (leb (length s) at) refl whole long))
    where
      by : (t : Bool) → leb (length s) at ≡ t → drop at s ≡ bytes ++ rest → length s - at ≡ length bytes + length rest → drop (length s - length rest) s ≡ rest
      by true t whole long =
          let g = leb-true (length s) at t in
          let z : length s - length rest ≡ length s = omega arith in
          rw z (drop-length s ∙ none_left rest (omega arith))
      by false t whole long =
          let g = leb-false (length s) at t in
          let z : length s - length rest ≡ at + length bytes = omega arith in
          rw z (sym (drop-drop (length bytes) at s) ∙ ap (drop (length bytes)) whole ∙ drop-append_seam bytes rest)

-- a number read from a place on
pub number_placed_lem : (s : List ℕ) (p : ℕ) (r : Option (ℕ × ℕ)) → number_of (number_placed p r) s ≡ number_of r (drop p s)
unfolding number_of number_placed
number_placed_lem s p (Some (v, w)) = ap (λ (z : List ℕ). done (record { value = v; rest = z })) (sym (drop-drop w p s))
number_placed_lem s p None = refl

pub number_at : (s : List ℕ) (at p : ℕ) (r : Option (ℕ × ℕ)) → drop p s ≡ past_blanks (drop at s) → r ≡ number_placed p (number_here (drop p s))
    → number_of r s ≡ number_next (drop at s)
unfolding number_next
number_at s at p r e n = ap (λ (z : Option (ℕ × ℕ)). number_of z s) n ∙ number_placed_lem s p (number_here (drop p s)) ∙ rw e

-- a quoted letter, by its three bytes
quoted_bytes : (r : List ℕ) → 3 ≤ length r → get_or r 0 0 ≡ 34 → is_capital (get_or r 1 0) ≡ true → get_or r 2 0 ≡ 34
    → quoted_here r ≡ done (record { value = get_or r 1 0; rest = drop 3 r })
unfolding quoted_here
quoted_bytes [] h a x b = absurd (omega arith)
quoted_bytes (y ∷ []) h a x b = absurd (omega arith)
quoted_bytes (y ∷ z ∷ []) h a x b = absurd (omega arith)
quoted_bytes (y ∷ z ∷ w ∷ r) h a x b = rw (eq-eqb y 34 a, x, eq-eqb w 34 b, quoted_here)

pub quoted_on : (s : List ℕ) (i : ℕ) → 3 ≤ length (drop i s) → get_or (drop i s) 0 0 ≡ 34 → is_capital (get_or (drop i s) 1 0) ≡ true → get_or (drop i s) 2 0 ≡ 34
    → quoted_here (drop i s) ≡ done (record { value = get_or (drop i s) 1 0; rest = drop (i + 3) s })
quoted_on s i h a x b = quoted_bytes (drop i s) h a x b ∙ ap (λ (z : List ℕ). done (record { value = get_or (drop i s) 1 0; rest = z })) (drop-drop 3 i s)

-- too few bytes for a quoted letter, or one of the three is another
pub quoted_few : (r : List ℕ) → length r < 3 → quoted_here r ≡ refused 18
unfolding quoted_here
quoted_few [] h = refl
quoted_few (a ∷ []) h = refl
quoted_few (a ∷ b ∷ []) h = refl
quoted_few (a ∷ b ∷ c ∷ s) h = absurd (omega arith)

pub quoted_first : (r : List ℕ) → 3 ≤ length r → (get_or r 0 0 ≡ 34 → ⊥) → quoted_here r ≡ refused 18
unfolding quoted_here
quoted_first [] h n = refl
quoted_first (y ∷ []) h n = refl
quoted_first (y ∷ z ∷ []) h n = refl
quoted_first (y ∷ z ∷ w ∷ r) h n = rw (ne_eqb y 34 n, quoted_here)

pub quoted_letter : (r : List ℕ) → 3 ≤ length r → get_or r 0 0 ≡ 34 → is_capital (get_or r 1 0) ≡ false → quoted_here r ≡ refused 18
unfolding quoted_here
quoted_letter [] h a x = refl
quoted_letter (y ∷ []) h a x = refl
quoted_letter (y ∷ z ∷ []) h a x = refl
quoted_letter (y ∷ z ∷ w ∷ r) h a x = rw (eq-eqb y 34 a, x, quoted_here)

pub quoted_last : (r : List ℕ) → 3 ≤ length r → get_or r 0 0 ≡ 34 → (get_or r 2 0 ≡ 34 → ⊥) → quoted_here r ≡ refused 18
unfolding quoted_here
quoted_last [] h a n = refl
quoted_last (y ∷ []) h a n = refl
quoted_last (y ∷ z ∷ []) h a n = refl
quoted_last (y ∷ z ∷ w ∷ r) h a n = by (is_capital z) refl
  where
    by : (t : Bool) → is_capital z ≡ t → quoted_here (y ∷ z ∷ w ∷ r) ≡ refused 18
    by true t = rw (eq-eqb y 34 a, t, ne_eqb w 34 n, quoted_here)
    by false t = rw (eq-eqb y 34 a, t, quoted_here)

pub ruleset quoted_steps = (quoted_on, quoted_few, quoted_first, quoted_letter, quoted_last)

-- a blank that must stand here
module _ (s : List ℕ) (i : ℕ) where
  pub parted_end : length s ≤ i → refused 18 ≡ past_blank (drop i s)
  unfolding past_blank
  parted_end h = rw (drop_end s i h)

  pub parted_off : i < length s → is_blank (get_or s i 0) ≡ false → refused 18 ≡ past_blank (drop i s)
  unfolding past_blank
  parted_off h t = rw (drop_next s i h, t, past_blank)

  pub parted_on : i < length s → is_blank (get_or s i 0) ≡ true → done (drop (i + 1) s) ≡ past_blank (drop i s)
  unfolding past_blank
  parted_on h t = rw (drop_next s i h, t, past_blank)

pub ruleset parted_steps = (parted_end, parted_off, parted_on)

-- no byte is left at a place exactly if the text ends there or before
pub empty_drop : (s : List ℕ) (p : ℕ) → leb (length s) p ≡ is_empty (drop p s)
unfolding is_empty
empty_drop s p = by (leb (length s) p) refl
  where
    by : (t : Bool) → leb (length s) p ≡ t → t ≡ is_empty (drop p s)
    by true t = let h = leb-true (length s) p t in rw (drop_end s p h)
    by false t = let h = leb-false (length s) p t in rw (drop_next s p h)

-- the comment: it stands first, or not
module _ (s : List ℕ) where
  pub comment_none : past_bytes comment s ≡ refused 18 → s ≡ past_comment s
  unfolding past_comment rest_or
  comment_none e = rw (e, rest_or)

  pub comment_some : (r : List ℕ) → past_bytes comment s ≡ done r → r ≡ past_comment s
  unfolding past_comment rest_or
  comment_some r e = rw (e, rest_or)

pub ruleset comment_steps = (comment_none, comment_some)
