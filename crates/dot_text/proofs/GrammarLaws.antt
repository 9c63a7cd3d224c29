-- What is read is what the grammar says, both ways. Assumes nothing.
use Prim.Native.Nat.{ℕ, zero, suc}
use mathlib.Core.Path.{◌≡◌, refl, sym, ap, subst, ◌∙◌}
use mathlib.Core.Bool.{Bool, true, false, not}
use mathlib.Core.List.{List, [], ◌∷◌, ◌++◌}
use native.Mathlib.Omega.{arith}
use lib.ListN.{length}
use borrow.Author.Tests.{not-false}
use Rattle.text_field.specs.Bytes.{within, is_digit}
use Rattle.text_field.specs.Outcome.{Outcome, refused, done, and_then, refuse_if}
use Rattle.text_field.proofs.ByteLaws.{both, clash}
use Rattle.text_field.proofs.OutcomeLaws.{done_same, not_done, went, passed}
use Rattle.dot_text.specs.Tokens.{is_blank, blanks, Token, fixed, spelling, Spelled, nothing, digraph, scopes_word, open_brace, close_brace, comment}
use Rattle.dot_text.specs.Grammar.{DrawnEdge, Drawing, edge_tokens, body_tokens, tokens_of, Graph, Drawn, plain, commented}
use Rattle.dot_text.specs.Reading.{Taken, past_blanks, past_bytes, fixed_next, scope_next, edge_next, more_of, many, scopes_next, edges_next, rest_or, past_comment, past_blank, head_next, is_empty, ends_after, ends_next, Places, places_in, parts_of, drawn_at, drawn}
use Rattle.dot_text.proofs.Steps.{blank_on, byte_other, comment_none, comment_some}
use Rattle.dot_text.proofs.TokenLaws.{blanked, fixed_found, fixed_back, fixed_other, number_reads, number_other, no_digit_first, bytes_found, bytes_back, stands_first, spelled_first, spelled_none}
use Rattle.dot_text.proofs.StatementLaws.{fronts_spelled, spelled_fronts, scope_front, edge_front, scope_found, scope_reads, edge_found, edge_reads, scopes_none, scopes_some, edges_none, edges_some}

-- nothing but blanks is left, exactly if nothing is left after them
blanks_empty : (s : List ℕ) → is_empty (past_blanks s) ≡ true → blanks s ≡ true
unfolding is_empty
blanks_empty s h = by (past_blanks s) refl h
  where
    none : (s : List ℕ) → s ≡ s ++ []
    none [] = refl
    none (x ∷ s) = ap (λ (z : List ℕ). x ∷ z) (none s)

    by : (r : List ℕ) → past_blanks s ≡ r → is_empty r ≡ true → blanks s ≡ true
    by [] e k = let b = blanked s in rw (b.whole ∙ ap (λ (z : List ℕ). b.gap ++ z) e ∙ sym (none b.gap)) b.blank
    by (x ∷ r) e k = absurd (clash k refl)

empty_blanks : (s : List ℕ) → blanks s ≡ true → is_empty (past_blanks s) ≡ true
unfolding is_empty blanks past_blanks
empty_blanks [] h = refl
empty_blanks (x ∷ s) h = let p = both (is_blank x) (blanks s) h in rw (blank_on x s p.0) (empty_blanks s p.1)

-- the end
end_spelled : (s : List ℕ) → ends_next s ≡ true → Spelled (fixed close_brace ∷ []) s
unfolding ends_next ends_after
end_spelled s h = by (fixed_next close_brace s) refl h
  where
    by : (o : Outcome (List ℕ)) → fixed_next close_brace s ≡ o → ends_after o ≡ true → Spelled (fixed close_brace ∷ []) s
    by (refused n) e k = absurd (clash k refl)
    by (done r) e k = stands_first (fixed close_brace) [] s r (fixed_found close_brace s r e) (nothing r (blanks_empty r k))

spelled_end : (s : List ℕ) → Spelled (fixed close_brace ∷ []) s → ends_next s ≡ true
unfolding ends_next ends_after is_blank
spelled_end s h =
    let f = spelled_first h in
    rw (fixed_back 125 [] s f.rest refl f.stands, ends_after) (empty_blanks f.rest (spelled_none f.more))

-- scopes and edges that were read are spelled
scopes_spelled : (n : ℕ) (s : List ℕ) (es : List DrawnEdge) → Spelled (edge_tokens es) (many scope_next n s).rest → Spelled (body_tokens (many scope_next n s).value es) s
unfolding many more_of body_tokens
scopes_spelled zero s es h = h
scopes_spelled (suc n) s es h = by (scope_next s) refl (λ r. scopes_spelled n r es) h
  where
    by : (o : Outcome (Taken ℕ)) → scope_next s ≡ o → ((r : List ℕ) → Spelled (edge_tokens es) (many scope_next n r).rest → Spelled (body_tokens (many scope_next n r).value es) r)
        → Spelled (edge_tokens es) (more_of o s (many scope_next n)).rest → Spelled (body_tokens (more_of o s (many scope_next n)).value es) s
    by (refused k) e more h = h
    by (done t) e more h = fronts_spelled (scope_front t.value) (body_tokens (many scope_next n t.rest).value es) s t.rest (scope_found s t e) (more t.rest h)

edges_spelled : (n : ℕ) (s : List ℕ) → Spelled (fixed close_brace ∷ []) (many edge_next n s).rest → Spelled (edge_tokens (many edge_next n s).value) s
unfolding many more_of edge_tokens
edges_spelled zero s h = h
edges_spelled (suc n) s h = by (edge_next s) refl (λ r. edges_spelled n r) h
  where
    by : (o : Outcome (Taken DrawnEdge)) → edge_next s ≡ o → ((r : List ℕ) → Spelled (fixed close_brace ∷ []) (many edge_next n r).rest → Spelled (edge_tokens (many edge_next n r).value) r)
        → Spelled (fixed close_brace ∷ []) (more_of o s (many edge_next n)).rest → Spelled (edge_tokens (more_of o s (many edge_next n)).value) s
    by (refused k) e more h = h
    by (done t) e more h = fronts_spelled (edge_front t.value) (edge_tokens (many edge_next n t.rest).value) s t.rest (edge_found s t e) (more t.rest h)

-- the whole body
body_spelled : (s : List ℕ) (p : Places) → places_in s ≡ done p → Spelled (body_tokens (drawn_at p).scopes (drawn_at p).edges) s
unfolding places_in drawn_at scopes_next edges_next
body_spelled s p e =
    let k = passed (not (ends_next (edges_next (scopes_next s).rest).rest)) 18 (done (record { scopes = s; edges = (scopes_next s).rest })) p e in
    let q = done_same (record { scopes = s; edges = (scopes_next s).rest }) p k.1 in
    rw (← q) (scopes_spelled (length s) s (edges_next (scopes_next s).rest).value
    (edges_spelled (length (scopes_next s).rest) (scopes_next s).rest (end_spelled (edges_next (scopes_next s).rest).rest (not-false (ends_next (edges_next (scopes_next s).rest).rest) k.0))))

-- the head
blank_found : (s r : List ℕ) → past_blank s ≡ done r → (x : ℕ) × (is_blank x ≡ true) × (s ≡ x ∷ r)
unfolding past_blank
blank_found [] r e = absurd (not_done 18 r e)
blank_found (x ∷ s) r e = by (is_blank x) refl
  where
    by : (t : Bool) → is_blank x ≡ t → (y : ℕ) × (is_blank y ≡ true) × (x ∷ s ≡ y ∷ r)
    by true t = (x, t, ap (λ (z : List ℕ). x ∷ z) (done_same s r (sym (rw (t, past_blank)) ∙ e)))
    by false t = absurd (not_done 18 r (sym (rw (t, past_blank)) ∙ e))

graph_found : (s body : List ℕ) (p : Places) → head_next s ≡ done body → places_in body ≡ done p → Graph s (drawn_at p)
unfolding head_next tokens_of spelling
graph_found s body p e f =
    let a = went (fixed_next digraph s) _ body e in
    let b = went (past_blank a.gained) _ body a.after in
    let c = went (fixed_next scopes_word b.gained) _ body b.after in
    let d = fixed_found digraph s a.gained a.before in
    let g = blank_found a.gained b.gained b.before in
    record {
      gap = d.gap;
      blank = g.0;
      rest = b.gained;
      whole = d.whole ∙ ap (λ (z : List ℕ). d.gap ++ (digraph ++ z)) g.2;
      before = d.blank;
      parted = g.1;
      spelled = stands_first (fixed scopes_word) (fixed open_brace ∷ body_tokens (drawn_at p).scopes (drawn_at p).edges) b.gained c.gained
          (fixed_found scopes_word b.gained c.gained c.before)
          (stands_first (fixed open_brace) (body_tokens (drawn_at p).scopes (drawn_at p).edges) c.gained body (fixed_found open_brace c.gained body c.after) (body_spelled body p f));
    }

-- what is read as a drawing is one
pub read_drawn : (text : List ℕ) (d : Drawing) → drawn text ≡ done d → Drawn text d
unfolding drawn parts_of past_comment rest_or
read_drawn text d e =
    let a = went (parts_of text) (λ p. done (drawn_at p)) d e in
    let b = went (head_next (past_comment text)) places_in a.gained a.before in
    let g : Graph (past_comment text) d = subst (Graph (past_comment text)) (done_same (drawn_at a.gained) d a.after) (graph_found (past_comment text) b.gained a.gained b.before b.after) in
    by (past_bytes comment text) refl g
  where
    by : (o : Outcome (List ℕ)) → past_bytes comment text ≡ o → Graph (rest_or o text) d → Drawn text d
    by (refused n) e g = plain g
    by (done r) e g = rw (bytes_found comment text r e) (commented g)

-- what is spelled is read: the scopes up to the first edge, then the edges up to the end
no_scope : (es : List DrawnEdge) (s : List ℕ) → Spelled (edge_tokens es) s → scope_next s ≡ refused 18
unfolding edge_tokens scope_next and_then is_blank is_digit within
no_scope [] s h = let f = spelled_first h in rw (number_other 125 [] s f.rest refl refl f.stands)
no_scope (e ∷ es) s h =
    let f = spelled_first h in
    let g = spelled_first f.more in
    rw (
      number_reads e.from s f.rest (no_digit_first 45 (62 ∷ []) f.rest g.rest refl g.stands) f.stands,
      and_then,
      fixed_other 59 [] 45 (62 ∷ []) f.rest g.rest refl (λ q. omega arith) g.stands,
    )

no_edge : (s : List ℕ) → Spelled (fixed close_brace ∷ []) s → edge_next s ≡ refused 18
unfolding edge_next and_then is_blank is_digit within
no_edge s h = let f = spelled_first h in rw (number_other 125 [] s f.rest refl refl f.stands)

-- these values, and a text after them that spells the tokens
pub record Read (A : Type 0) (t : Taken (List A)) (values : List A) (ts : List Token) : Type 0 where
  pub value : t.value ≡ values
  pub spelled : Spelled ts t.rest

scopes_read : (ns : List ℕ) (es : List DrawnEdge) (s : List ℕ) → Spelled (body_tokens ns es) s → Read ℕ (scopes_next s) ns (edge_tokens es)
unfolding body_tokens
scopes_read [] es s h = rw (scopes_none s (no_scope es s h)) (record { value = refl; spelled = h })
scopes_read (n ∷ ns) es s h =
    let f = spelled_fronts (scope_front n) (body_tokens ns es) s h in
    let r = scopes_read ns es f.0 f.2 in
    rw (scopes_some s (record { value = n; rest = f.0 }) (scope_reads n s f.0 f.1))
    (record { value = ap (λ (z : List ℕ). n ∷ z) r.value; spelled = r.spelled })

edges_read : (es : List DrawnEdge) (s : List ℕ) → Spelled (edge_tokens es) s → Read DrawnEdge (edges_next s) es (fixed close_brace ∷ [])
unfolding edge_tokens
edges_read [] s h = rw (edges_none s (no_edge s h)) (record { value = refl; spelled = h })
edges_read (e ∷ es) s h =
    let f = spelled_fronts (edge_front e) (edge_tokens es) s h in
    let r = edges_read es f.0 f.2 in
    rw (edges_some s (record { value = e; rest = f.0 }) (edge_reads e s f.0 f.1))
    (record { value = ap (λ (z : List DrawnEdge). e ∷ z) r.value; spelled = r.spelled })

-- the body's places, and what is drawn from there
body_read : (d : Drawing) (s : List ℕ) → Spelled (body_tokens d.scopes d.edges) s
    → (places_in s ≡ done (record { scopes = s; edges = (scopes_next s).rest })) × (drawn_at (record { scopes = s; edges = (scopes_next s).rest }) ≡ d)
unfolding places_in drawn_at refuse_if
body_read d s h =
    let a = scopes_read d.scopes d.edges s h in
    let b = edges_read d.edges (scopes_next s).rest a.spelled in
    (rw (spelled_end (edges_next (scopes_next s).rest).rest b.spelled), rw (a.value, b.value))

graph_read : (s : List ℕ) (d : Drawing) → Graph s d → and_then (and_then (head_next s) places_in) (λ p. done (drawn_at p)) ≡ done d
unfolding head_next tokens_of past_blank and_then is_blank spelling
graph_read s d g =
    let a = fixed_back 100 (105 ∷ 103 ∷ 114 ∷ 97 ∷ 112 ∷ 104 ∷ []) s (g.blank ∷ g.rest) refl (record { gap = g.gap; blank = g.before; proper = tt; whole = g.whole }) in
    let f = spelled_first g.spelled in
    let h = spelled_first f.more in
    let b = fixed_back 115 (99 ∷ 111 ∷ 112 ∷ 101 ∷ 115 ∷ []) g.rest f.rest refl f.stands in
    let c = fixed_back 123 [] f.rest h.rest refl h.stands in
    let p = body_read d h.rest h.more in
    rw (a, and_then, g.parted, past_blank, and_then, b, and_then, c, and_then, p.0, and_then) (ap done p.1)

-- a graph does not begin with the comment
blank_other : (x : ℕ) → is_blank x ≡ true → (x ≡ 47 → ⊥)
unfolding is_blank
blank_other x h e = clash h (rw e)

no_comment : (s : List ℕ) (d : Drawing) → Graph s d → past_bytes comment s ≡ refused 18
unfolding blanks
no_comment s d g = rw g.whole (by g.gap g.before)
  where
    by : (gap : List ℕ) → blanks gap ≡ true → past_bytes comment (gap ++ (digraph ++ (g.blank ∷ g.rest))) ≡ refused 18
    by [] h = byte_other 47 100 _ _ (λ e. omega arith)
    by (x ∷ gap) h = byte_other 47 x _ _ (blank_other x (both (is_blank x) (blanks gap) h).0)

pub drawn_read : (text : List ℕ) (d : Drawing) → Drawn text d → drawn text ≡ done d
unfolding drawn parts_of
drawn_read text d (plain g) = rw (← comment_none text (no_comment text d g)) (graph_read text d g)
drawn_read text d (commented {text = s} g) = rw (← comment_some (comment ++ s) s (bytes_back comment s)) (graph_read s d g)
