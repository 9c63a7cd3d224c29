-- One turn, and the ends, of each loop of this crate, over plain lists. Assumes nothing.
use mathlib.Core.Path.{◌≡◌, refl, sym, ap, ◌∙◌}
use mathlib.Core.Bool.{true, false, ◌&&◌}
use mathlib.Core.List.{List, [], ◌∷◌}
use Prim.Native.Nat.{ℕ, suc, ◌+◌, ◌-◌, ◌*◌, ◌/◌, ◌%◌, ◌≤◌, ◌<◌}
use native.Mathlib.Numerals.{add-one}
use native.Mathlib.Omega.{arith}
use lib.ListN.{length, get_or, take, drop, drop_of_length-le, length-append, length-drop}
use lib.Seq.{drop-cons, take_at}
use Rattle.std.proofs.lemmas.Slice.{between_to_end}
use Rattle.text_field.specs.Bytes.{is_digit, is_lower}
use Rattle.text_field.specs.Buffer.{Buf, put, puts}
use Rattle.text_field.specs.Number.{number_text, growing, digits_from, number_here, number_placed}
use Rattle.text_field.specs.Name.{pack_high, pack_low, name_of, name_run, name_here, name_placed}
use Rattle.text_field.specs.Lines.{line_placed, line_here}
use Rattle.text_field.proofs.BufferLaws.{puts_one, puts_then}
use Rattle.text_field.proofs.ByteLaws.{both}
use Rattle.text_field.proofs.NumberLaws.{number_short, number_long, more_on, more_off, first_on, first_off, growing_bounds, digits_placed}
use Rattle.text_field.proofs.NameLaws.{run, here_on, here_off}
use Rattle.std.specs.declared.option.Option.TheVariants.{Some, None}

module _ (s : List ℕ) (i : ℕ) where
  pub drop_next : i < length s → drop i s ≡ get_or s i 0 ∷ drop (i + 1) s
  drop_next h = rw (add-one, drop-cons s i 0)

  pub drop_end : length s ≤ i → drop i s ≡ []
  drop_end h = drop_of_length-le s {i = i} h

  module _ (v : ℕ) where
    pub digits_end : length s ≤ i → Some (v, i) ≡ digits_from v i (drop i s)
    unfolding digits_from
    digits_end h = rw (drop_end h)

    module _ (h : i < length s) where
      pub digits_stop : (is_digit (get_or s i 0) && growing v) ≡ false → Some (v, i) ≡ digits_from v i (drop i s)
      digits_stop t = sym (ap (digits_from v i) (drop_next h) ∙ more_off v i (get_or s i 0) (drop (i + 1) s) t)

      pub digits_go : (d : ℕ) → d ≡ get_or s i 0 - 48 → (is_digit (get_or s i 0) && growing v) ≡ true → digits_from (v * 10 + d) (i + 1) (drop (i + 1) s) ≡ digits_from v i (drop i s)
      digits_go d e t = rw e (sym (ap (digits_from v i) (drop_next h) ∙ more_on v i (get_or s i 0) (drop (i + 1) s) t))

  pub no_number : length s ≤ i → None ≡ number_placed i (number_here (drop i s))
  unfolding number_placed number_here
  no_number h = rw (drop_end h)

  module _ (h : i < length s) where
    pub no_digit : is_digit (get_or s i 0) ≡ false → None ≡ number_placed i (number_here (drop i s))
    unfolding number_placed
    no_digit t = sym (ap (λ (z : List ℕ). number_placed i (number_here z)) (drop_next h) ∙ ap (number_placed i) (first_off (get_or s i 0) (drop (i + 1) s) t))

    pub some_number : (d : ℕ) → d ≡ get_or s i 0 - 48 → is_digit (get_or s i 0) ≡ true → digits_from d (i + 1) (drop (i + 1) s) ≡ number_placed i (number_here (drop i s))
    some_number d e t =
        rw e (sym (ap (λ (z : List ℕ). number_placed i (number_here z)) (drop_next h)
        ∙ ap (number_placed i) (first_on (get_or s i 0) (drop (i + 1) s) t)
        ∙ digits_placed (drop (i + 1) s) i (get_or s i 0 - 48) 1))

  pub no_name : length s ≤ i → None ≡ name_placed i (name_here (drop i s))
  unfolding name_placed name_here
  no_name h = rw (drop_end h)

  -- where a name ends whose further bytes are n
  pub name_ends : (k n : ℕ) → n ≡ length (name_run k (take (length s - (i + 1)) (drop (i + 1) s))) → i + 1 + n ≡ i + 1 + length (name_run k (drop (i + 1) s))
  name_ends k n e = ap (λ (z : ℕ). i + 1 + z) (e ∙ ap (λ (z : List ℕ). length (name_run k z)) (between_to_end s (i + 1) (length s) (omega arith)))

  module _ (h : i < length s) where
    pub no_lower : is_lower (get_or s i 0) ≡ false → None ≡ name_placed i (name_here (drop i s))
    unfolding name_placed
    no_lower t = sym (ap (λ (z : List ℕ). name_placed i (name_here z)) (drop_next h) ∙ ap (name_placed i) (here_off (get_or s i 0) (drop (i + 1) s) t))

    -- a run of name bytes ends in the text
    pub name_inside : (k e : ℕ) → e ≡ i + 1 + length (name_run k (drop (i + 1) s)) → e ≤ length s
    name_inside k e n =
        let r = run k (drop (i + 1) s)
        in omega (arith, ap length r.text ∙ length-append (name_run k (drop (i + 1) s)) r.rest, length-drop (i + 1) s)

    module _ (e : ℕ) (n : e ≡ i + 1 + length (name_run 15 (drop (i + 1) s))) where
      -- the part of the text from i to e is the name
      name_part_lem : take (e - i) (drop i s) ≡ get_or s i 0 ∷ name_run 15 (drop (i + 1) s)
      name_part_lem =
          let r = run 15 (drop (i + 1) s)
          in let w : e - i ≡ suc (length (name_run 15 (drop (i + 1) s))) = omega arith
          in rw (w, drop_next h) (ap (λ (z : List ℕ). get_or s i 0 ∷ take (length (name_run 15 (drop (i + 1) s))) z) r.text ∙ ap (λ (z : List ℕ). get_or s i 0 ∷ z) (take_at (name_run 15 (drop (i + 1) s)) r.rest (length (name_run 15 (drop (i + 1) s))) refl))

      pub some_name : is_lower (get_or s i 0) ≡ true → (high low : ℕ) → high ≡ pack_high (take (e - i) (drop i s)) → low ≡ pack_low (take (e - i) (drop i s)) → Some (high, low, e) ≡ name_placed i (name_here (drop i s))
      unfolding name_placed name_of
      some_name t high low p q =
          let m : i + suc (length (name_run 15 (drop (i + 1) s))) ≡ e = omega arith
          in sym (ap (λ (z : List ℕ). name_placed i (name_here z)) (drop_next h) ∙ ap (name_placed i) (here_on (get_or s i 0) (drop (i + 1) s) t) ∙ rw (m, p, q, name_part_lem))

-- the line at a place: none is left
pub line_end_lem : (s : List ℕ) (i : ℕ) → length s ≤ i → None ≡ line_placed i (line_here (drop i s))
unfolding line_placed line_here
line_end_lem s i h = rw (drop_end s i h)

-- a number that goes on has at most four digits
pub grown : (x v : ℕ) → (is_digit x && growing v) ≡ true → v ≤ 9999
grown x v t = (growing_bounds v (both (is_digit x) (growing v) t).1).1

-- writing a number: its last digit, after those before it
module _ (b b' : Buf) (d v : ℕ) (e : d ≡ 48 + v % 10) where
  pub put_short : v < 10 → b' ≡ put b d → b' ≡ puts b (number_text v)
  put_short h f = let m : d ≡ 48 + v = omega arith in f ∙ rw (number_short v h, m) (puts_one b (48 + v))

  pub put_long : 10 ≤ v → (a : Buf) → a ≡ puts b (number_text (v / 10)) → b' ≡ put a d → b' ≡ puts b (number_text v)
  put_long h a g f = rw (number_long v h, ← e) (puts_then b a b' (number_text (v / 10)) (d ∷ []) g (f ∙ puts_one a d))
