-- What was read as a scope or an edge stands there, and what stands there is read. Assumes nothing.
use Prim.Native.Nat.{ℕ, ◌≤◌, ◌<◌}
use mathlib.Core.Path.{◌≡◌, refl, ap}
use mathlib.Core.List.{List, [], ◌∷◌, ◌++◌}
use native.Mathlib.Omega.{arith}
use lib.ListN.{length, length-append}
use Rattle.text_field.specs.Bytes.{within, is_digit}
use Rattle.text_field.specs.Outcome.{refused, done, and_then}
use Rattle.text_field.proofs.OutcomeLaws.{done_same, went}
use Rattle.text_field.proofs.NumberLaws.{length_some}
use Rattle.dot_text.specs.Tokens.{is_blank, Token, fixed, number, quoted, spelling, Spelled, semicolon, open_bracket, label_word, equals, close_bracket, arrow}
use Rattle.dot_text.specs.Grammar.{DrawnEdge}
use Rattle.dot_text.specs.Reading.{Taken, fixed_next, number_next, quoted_next, scope_next, label_opens, label_closes, label_next, target_next, edge_next, scopes_next, edges_next}
use Rattle.dot_text.proofs.TokenLaws.{Stands, fixed_found, fixed_back, number_stands, number_reads, quoted_stands, quoted_reads, stands_shorter, stands_first, spelled_first, no_digit_first}
use Rattle.dot_text.proofs.ManyLaws.{Shrinks, joined, many_none, many_some}

-- the text begins with the tokens, and goes on with r
abbrev pub Fronts : List Token → List ℕ → List ℕ → Type 0
Fronts [] s r = s ≡ r
Fronts (t ∷ ts) s r = (m : List ℕ) × Stands t s m × Fronts ts m r

pub fronts_spelled : (ts us : List Token) (s r : List ℕ) → Fronts ts s r → Spelled us r → Spelled (ts ++ us) s
fronts_spelled [] us s r h more = rw h more
fronts_spelled (t ∷ ts) us s r h more = stands_first t (ts ++ us) s h.0 h.1 (fronts_spelled ts us h.0 r h.2 more)

pub spelled_fronts : (ts us : List Token) (s : List ℕ) → Spelled (ts ++ us) s → (r : List ℕ) × Fronts ts s r × Spelled us r
spelled_fronts [] us s h = (s, refl, h)
spelled_fronts (t ∷ ts) us s h =
    let f = spelled_first h in
    let g = spelled_fronts ts us f.rest f.more in
    (g.0, (f.rest, f.stands, g.1), g.2)

-- nothing grows
stands_most : (t : Token) (s r : List ℕ) → Stands t s r → length r ≤ length s
stands_most t s r h = omega (arith, ap length h.whole, length-append h.gap (spelling t ++ r), length-append (spelling t) r)

fronts_most : (ts : List Token) (s r : List ℕ) → Fronts ts s r → length r ≤ length s
fronts_most [] s r h = omega (arith, ap length h)
fronts_most (t ∷ ts) s r h = let a = stands_most t s h.0 h.1 in let b = fronts_most ts h.0 r h.2 in omega arith

number_fronts : (n : ℕ) (ts : List Token) (s r : List ℕ) → Fronts (number n ∷ ts) s r → length r < length s
unfolding spelling
number_fronts n ts s r h =
    let a = stands_shorter (number n) s h.0 (length_some n) h.1 in
    let b = fronts_most ts h.0 r h.2 in
    omega arith

-- a scope's tokens, and an edge's
abbrev pub scope_front : ℕ → List Token
scope_front n = number n ∷ fixed semicolon ∷ []

abbrev pub label_front : ℕ → List Token
label_front x = fixed open_bracket ∷ fixed label_word ∷ fixed equals ∷ quoted x ∷ fixed close_bracket ∷ fixed semicolon ∷ []

abbrev pub edge_front : DrawnEdge → List Token
edge_front e = number e.from ∷ fixed arrow ∷ number e.to ∷ label_front e.letter

pub scope_found : (s : List ℕ) (t : Taken ℕ) → scope_next s ≡ done t → Fronts (scope_front t.value) s t.rest
unfolding scope_next
scope_found s t e =
    let a = went (number_next s) _ t e in
    let b = went (fixed_next semicolon a.gained.rest) _ t a.after in
    let q = done_same _ t b.after in
    let v : a.gained.value ≡ t.value = ap (λ (z : Taken ℕ). z.value) q in
    let r : b.gained ≡ t.rest = ap (λ (z : Taken ℕ). z.rest) q in
    let n = number_stands s a.gained a.before in
    let f = fixed_found semicolon a.gained.rest b.gained b.before in
    rw (← v) (a.gained.rest, n, (b.gained, f, r))

pub scope_shrinks : Shrinks scope_next
scope_shrinks s t e = number_fronts t.value (fixed semicolon ∷ []) s t.rest (scope_found s t e)

pub scope_reads : (n : ℕ) (s r : List ℕ) → Fronts (scope_front n) s r → scope_next s ≡ done (record { value = n; rest = r })
unfolding scope_next and_then is_blank is_digit within
scope_reads n s r h =
    let a = number_reads n s h.0 (no_digit_first 59 [] h.0 h.2.0 refl h.2.1) h.1 in
    let b = fixed_back 59 [] h.0 h.2.0 refl h.2.1 in
    rw (a, and_then, b, and_then) (ap (λ (z : List ℕ). done (record { value = n; rest = z })) h.2.2)

-- a label
label_found : (s : List ℕ) (t : Taken ℕ) → label_next s ≡ done t → Fronts (label_front t.value) s t.rest
unfolding label_next label_opens label_closes
label_found s t e =
    let o = went (label_opens s) _ t e in
    let o1 = went (fixed_next open_bracket s) _ o.gained o.before in
    let o2 = went (fixed_next label_word o1.gained) _ o.gained o1.after in
    let x = went (quoted_next o.gained) _ t o.after in
    let k = went (label_closes x.gained.rest) _ t x.after in
    let k1 = went (fixed_next close_bracket x.gained.rest) _ k.gained k.before in
    let q = done_same _ t k.after in
    let v : x.gained.value ≡ t.value = ap (λ (z : Taken ℕ). z.value) q in
    let r : k.gained ≡ t.rest = ap (λ (z : Taken ℕ). z.rest) q in
    rw (← v) (
      o1.gained,
      fixed_found open_bracket s o1.gained o1.before,
      (
        o2.gained,
        fixed_found label_word o1.gained o2.gained o2.before,
        (
          o.gained,
          fixed_found equals o2.gained o.gained o2.after,
          (
            x.gained.rest,
            quoted_stands o.gained x.gained x.before,
            (
              k1.gained,
              fixed_found close_bracket x.gained.rest k1.gained k1.before,
              (k.gained, fixed_found semicolon k1.gained k.gained k1.after, r),
            ),
          ),
        ),
      ),
    )

label_reads : (x : ℕ) (s r : List ℕ) → Fronts (label_front x) s r → label_next s ≡ done (record { value = x; rest = r })
unfolding label_next label_opens label_closes and_then is_blank
label_reads x s r h =
    let a = fixed_back 91 [] s h.0 refl h.1 in
    let b = fixed_back 108 (97 ∷ 98 ∷ 101 ∷ 108 ∷ []) h.0 h.2.0 refl h.2.1 in
    let c = fixed_back 61 [] h.2.0 h.2.2.0 refl h.2.2.1 in
    let d = quoted_reads x h.2.2.0 h.2.2.2.0 h.2.2.2.1 in
    let e = fixed_back 93 [] h.2.2.2.0 h.2.2.2.2.0 refl h.2.2.2.2.1 in
    let f = fixed_back 59 [] h.2.2.2.2.0 h.2.2.2.2.2.0 refl h.2.2.2.2.2.1 in
    rw (a, and_then, b, and_then, c, and_then, d, and_then, e, and_then, f, and_then) (ap (λ (z : List ℕ). done (record { value = x; rest = z })) h.2.2.2.2.2.2)

-- an edge
pub edge_found : (s : List ℕ) (t : Taken DrawnEdge) → edge_next s ≡ done t → Fronts (edge_front t.value) s t.rest
unfolding edge_next target_next
edge_found s t e =
    let a = went (number_next s) _ t e in
    let b = went (target_next a.gained.rest) _ t a.after in
    let b1 = went (fixed_next arrow a.gained.rest) _ b.gained b.before in
    let x = went (label_next b.gained.rest) _ t b.after in
    let q = done_same _ t x.after in
    rw (← q) (
      a.gained.rest,
      number_stands s a.gained a.before,
      (
        b1.gained,
        fixed_found arrow a.gained.rest b1.gained b1.before,
        (
          b.gained.rest,
          number_stands b1.gained b.gained b1.after,
          label_found b.gained.rest x.gained x.before,
        ),
      ),
    )

pub edge_shrinks : Shrinks edge_next
edge_shrinks s t e = number_fronts t.value.from (fixed arrow ∷ number t.value.to ∷ label_front t.value.letter) s t.rest (edge_found s t e)

pub edge_reads : (e : DrawnEdge) (s r : List ℕ) → Fronts (edge_front e) s r → edge_next s ≡ done (record { value = e; rest = r })
unfolding edge_next target_next and_then is_blank is_digit within
edge_reads e s r h =
    let a = number_reads e.from s h.0 (no_digit_first 45 (62 ∷ []) h.0 h.2.0 refl h.2.1) h.1 in
    let b = fixed_back 45 (62 ∷ []) h.0 h.2.0 refl h.2.1 in
    let c = number_reads e.to h.2.0 h.2.2.0 (no_digit_first 91 [] h.2.2.0 h.2.2.2.0 refl h.2.2.2.1) h.2.2.1 in
    let d = label_reads e.letter h.2.2.0 r h.2.2.2 in
    rw (a, and_then, b, and_then, c, and_then, d, and_then)

-- the scopes from here on: none, or one and those after it; so with the edges
module _ (s : List ℕ) where
  pub scopes_none : scope_next s ≡ refused 18 → scopes_next s ≡ record { value = []; rest = s }
  unfolding scopes_next
  scopes_none e = many_none scope_next scope_shrinks s 18 e

  pub scopes_some : (t : Taken ℕ) → scope_next s ≡ done t → scopes_next s ≡ joined t (scopes_next t.rest)
  unfolding scopes_next
  scopes_some t e = many_some scope_next scope_shrinks s t e

  pub edges_none : edge_next s ≡ refused 18 → edges_next s ≡ record { value = []; rest = s }
  unfolding edges_next
  edges_none e = many_none edge_next edge_shrinks s 18 e

  pub edges_some : (t : Taken DrawnEdge) → edge_next s ≡ done t → edges_next s ≡ joined t (edges_next t.rest)
  unfolding edges_next
  edges_some t e = many_some edge_next edge_shrinks s t e
