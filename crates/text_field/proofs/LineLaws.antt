-- A line is told exactly where one stands. Assumes nothing.
use mathlib.Core.Path.{◌≡◌, refl, sym, ap, ◌∙◌}
use mathlib.Core.List.{List, [], ◌∷◌, ◌++◌}
use mathlib.Core.Bool.{Bool, true, false, not}
use Prim.Native.Nat.{ℕ, suc, ◌+◌, ◌-◌}
use native.Mathlib.Omega.{arith}
use lib.Dec.{eqb}
use lib.ListN.{length, take, drop, length-append, length-drop}
use lib.Seq.{take_at, drop-drop, drop-append-add, length-take-le}
use borrow.Author.Tests.{eqb-true, eqb-false, eq-eqb, ne_eqb}
use Rattle.text_field.specs.Lines.{line_placed, line_here, no_lf, LineAt, LineTold, NoLineTold}
use Rattle.std.specs.List.{position_from}
use Rattle.std.specs.Option.{option_map}
use Rattle.std.proofs.lemmas.Option.{some_pair_parts}
use Rattle.text_field.proofs.ByteLaws.{both, clash}
use Rattle.std.specs.declared.option.Option.TheVariants.{Some, None}
use Rattle.std.specs.declared.option.Option.{Option}

module _ (x : ℕ) (s : List ℕ) where
  pub line_on : x ≡ 10 → line_here (x ∷ s) ≡ Some (0, 1)
  unfolding line_here
  line_on h = rw (eq-eqb x 10 h, line_here)

  pub line_off : (x ≡ 10 → ⊥) → line_here (x ∷ s) ≡ line_placed 1 (line_here s)
  unfolding line_here
  line_off h = rw (ne_eqb x 10 h, line_here)

  pub bare_cons : (x ≡ 10 → ⊥) → no_lf s ≡ true → no_lf (x ∷ s) ≡ true
  unfolding no_lf
  bare_cons h b = rw (ne_eqb x 10 h) b

  pub bare_first : no_lf (x ∷ s) ≡ true → x ≡ 10 → ⊥
  unfolding no_lf
  bare_first b e = clash (both (not (eqb x 10)) (no_lf s) b).0 (rw (eq-eqb x 10 e))

  pub bare_tail : no_lf (x ∷ s) ≡ true → no_lf s ≡ true
  unfolding no_lf
  bare_tail b = (both (not (eqb x 10)) (no_lf s) b).1

-- one byte that is no LF is passed
pub placed_on : (i : ℕ) (r : Option (ℕ × ℕ)) → line_placed (i + 1) r ≡ line_placed i (line_placed 1 r)
unfolding line_placed
placed_on i (Some (end, next)) =
    let p : i + 1 + end ≡ i + (1 + end) = omega arith
    in let q : i + 1 + next ≡ i + (1 + next) = omega arith
    in rw (p, q)
placed_on i None = refl

-- a line, an LF and the rest: the line is found
pub line_whole : (line rest : List ℕ) → no_lf line ≡ true → line_here (line ++ (10 ∷ rest)) ≡ Some (length line, length line + 1)
unfolding line_placed
line_whole [] rest b = line_on 10 rest refl
line_whole (x ∷ line) rest b =
    let p : 1 + length line ≡ suc (length line) = omega arith
    in let q : 1 + (length line + 1) ≡ suc (length line) + 1 = omega arith
    in line_off x (line ++ (10 ∷ rest)) (bare_first x line b)
    ∙ ap (line_placed 1) (line_whole line rest (bare_tail x line b)) ∙ rw (p, q)

-- what was found as a line at the start of the bytes
pub record LineFound (s : List ℕ) (end next : ℕ) : Type 0 where
  pub line : List ℕ
  pub rest : List ℕ
  pub whole : s ≡ line ++ (10 ∷ rest)
  pub bare : no_lf line ≡ true
  pub width : length line ≡ end
  pub after : next ≡ end + 1

pub line_found : (s : List ℕ) (end next : ℕ) → line_here s ≡ Some (end, next) → LineFound s end next
unfolding line_here line_placed no_lf
line_found [] end next e = absurd (let z : ◌≡◌ {A = ℕ} 0 1 = cc in omega arith)
line_found (x ∷ s) end next e = by (eqb x 10) refl (line_found s)
  where
    later : (r : Option (ℕ × ℕ)) → line_placed 1 r ≡ Some (end, next) → ((e' n' : ℕ) → r ≡ Some (e', n') → LineFound s e' n') → (x ≡ 10 → ⊥) → LineFound (x ∷ s) end next
    later (Some (e', n')) q found h =
        let f = found e' n' refl
        in let o = some_pair_parts (1 + e') end (1 + n') next q
        in let p = o.0
        in let n = o.1
        in record { line = x ∷ f.line; rest = f.rest; whole = ap (λ (z : List ℕ). x ∷ z) f.whole; bare = bare_cons x f.line h f.bare; width = omega (arith, f.width); after = omega (arith, f.after) }
    later None q found h = absurd (let z : ◌≡◌ {A = ℕ} 0 1 = cc in omega arith)

    by : (t : Bool) → eqb x 10 ≡ t → ((e' n' : ℕ) → line_here s ≡ Some (e', n') → LineFound s e' n') → LineFound (x ∷ s) end next
    by true t found =
        let h = eqb-true x 10 t
        in let o = some_pair_parts 0 end 1 next (sym (line_on x s h) ∙ e)
        in let p = o.0
        in let n = o.1
        in record { line = []; rest = s; whole = ap (λ (z : ℕ). z ∷ s) h; bare = refl; width = p; after = omega arith }
    by false t found = let h = eqb-false x 10 t in later (line_here s) (sym (line_off x s h) ∙ e) found h

-- the line from place `at` to an LF that stands k bytes on
abbrev pub line_to : ℕ → ℕ → ℕ × ℕ
line_to at k = (at + k, at + k + 1)

-- the search for the first LF tells the line
line_searched : (at i : ℕ) (s : List ℕ) → option_map (line_to at) (position_from (λ x. eqb x 10) i s) ≡ line_placed (at + i) (line_here s)
unfolding line_here line_placed
line_searched at i [] = refl
line_searched at i (x ∷ s) = by (eqb x 10) refl (line_searched at (i + 1) s)
  where
    by : (t : Bool) → eqb x 10 ≡ t → option_map (line_to at) (position_from (λ z. eqb z 10) (i + 1) s) ≡ line_placed (at + (i + 1)) (line_here s) → option_map (line_to at) (position_from (λ z. eqb z 10) i (x ∷ s)) ≡ line_placed (at + i) (line_here (x ∷ s))
    by true t e = let m : at + i + 0 ≡ at + i = omega arith in rw (t, line_on x s (eqb-true x 10 t)) (rw m)
    by false t e =
        let m : at + (i + 1) ≡ at + i + 1 = omega arith
        in rw (t, line_off x s (eqb-false x 10 t)) (e ∙ ap (λ (z : ℕ). line_placed z (line_here s)) m ∙ placed_on (at + i) (line_here s))

pub line_read : (at : ℕ) (s : List ℕ) (r : Option ℕ) → r ≡ position_from (λ x. eqb x 10) 0 s → option_map (line_to at) r ≡ line_placed at (line_here s)
line_read at s r e = let m : at + 0 ≡ at = omega arith in ap (option_map (line_to at)) e ∙ line_searched at 0 s ∙ rw m

-- without an LF no line is found, and only then
pub line_none : (s : List ℕ) → no_lf s ≡ true → line_here s ≡ None
unfolding line_here line_placed
line_none [] b = refl
line_none (x ∷ s) b = line_off x s (bare_first x s b) ∙ ap (line_placed 1) (line_none s (bare_tail x s b))

pub none_bare : (s : List ℕ) → line_here s ≡ None → no_lf s ≡ true
unfolding line_placed no_lf
none_bare [] e = refl
none_bare (x ∷ s) e = by (eqb x 10) refl (none_bare s)
  where
    later : (r : Option (ℕ × ℕ)) → line_placed 1 r ≡ None → r ≡ None
    later (Some (e', n')) q = absurd (let z : ◌≡◌ {A = ℕ} 0 1 = cc in omega arith)
    later None q = refl

    by : (t : Bool) → eqb x 10 ≡ t → (line_here s ≡ None → no_lf s ≡ true) → no_lf (x ∷ s) ≡ true
    by true t so = absurd (let z : ◌≡◌ {A = ℕ} 0 1 = cc (line_on x s (eqb-true x 10 t)) in omega arith)
    by false t so = let h = eqb-false x 10 t in bare_cons x s h (so (later (line_here s) (sym (line_off x s h) ∙ e)))

module _ (text : List ℕ) (at : ℕ) where
  module _ (end next : ℕ) where
    stands : (r : Option (ℕ × ℕ)) → line_here (drop at text) ≡ r → line_placed at r ≡ Some (end, next) → LineAt text at end next
    unfolding line_placed
    stands (Some (e, n)) p q =
        let f = line_found (drop at text) e n p
        in let o = some_pair_parts (at + e) end (at + n) next q
        in let a = o.0
        in let b = o.1
        in let w : end - at ≡ e = omega arith
        in let m : n ≡ length f.line + 1 = omega (arith, f.width, f.after)
        in let t : take (end - at) (drop at text) ≡ f.line = ap (take (end - at)) f.whole ∙ take_at f.line (10 ∷ f.rest) (end - at) (f.width ∙ sym w)
        in let d : drop next text ≡ f.rest = ap (λ (z : ℕ). drop z text) (sym b) ∙ sym (drop-drop n at text) ∙ ap (drop n) f.whole ∙ ap (λ (z : ℕ). drop z (f.line ++ (10 ∷ f.rest))) m ∙ drop-append-add f.line (10 ∷ f.rest) 1
        in let l = ap length f.whole ∙ length-append f.line (10 ∷ f.rest)
        in record {
          whole = f.whole ∙ rw (t, d);
          bare = rw t f.bare;
          from = omega arith;
          grows = omega (arith, f.after);
          inside = omega (arith, length-drop at text, f.width);
        }
    stands None p q = absurd (let z : ◌≡◌ {A = ℕ} 0 1 = cc in omega arith)

    told : LineAt text at end next → line_placed at (line_here (drop at text)) ≡ Some (end, next)
    unfolding line_placed
    told l =
        let m : length (take (end - at) (drop at text)) ≡ end - at = length-take-le (end - at) (drop at text) (rw length-drop (omega (arith, l.inside, l.grows, l.from)))
        in let p : at + (end - at) ≡ end = omega (arith, l.from)
        in let q : at + (end - at + 1) ≡ next = omega (arith, l.from, l.grows)
        in ap (λ (z : List ℕ). line_placed at (line_here z)) l.whole
        ∙ ap (line_placed at) (line_whole (take (end - at) (drop at text)) (drop next text) l.bare)
        ∙ rw (m, p, q)

  absent : (r : Option (ℕ × ℕ)) → line_here (drop at text) ≡ r → line_placed at r ≡ None → no_lf (drop at text) ≡ true
  unfolding line_placed
  absent (Some (e, n)) p q = absurd (let z : ◌≡◌ {A = ℕ} 0 1 = cc in omega arith)
  absent None p q = none_bare (drop at text) p

pub line_told : LineTold
line_told text at end next = (stands text at end next (line_here (drop at text)) refl, told text at end next)

pub no_line_told : NoLineTold
unfolding line_placed
no_line_told text at = (absent text at (line_here (drop at text)) refl, λ b. ap (line_placed at) (line_none (drop at text) b))
