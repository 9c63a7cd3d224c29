-- Short texts read, by computation (02, K14). Assumes nothing.
use mathlib.Core.Path.{◌≡◌, refl}
use mathlib.Core.List.{[], ◌∷◌}
use Rattle.text_field.specs.Bytes.{within, is_digit, is_capital}
use Rattle.text_field.specs.Outcome.{refused, done, and_then, refuse_if}
use Rattle.text_field.specs.Number.{growing, digits_from, number_here}
use Rattle.dot_text.specs.Tokens.{is_blank}
use Rattle.dot_text.specs.Reading.{past_blanks, past_bytes, number_of, fixed_next, number_next, quoted_here, quoted_next, scope_next, label_opens, label_closes, label_next, target_next, edge_next, more_of, many, scopes_next, edges_next, rest_or, past_comment, past_blank, head_next, is_empty, ends_after, ends_next, places_in, parts_of, drawn_at, drawn}

pub record Read : Type 0 where
  -- `digraph scopes{1;0;1->0[label="P"];}`: no blank but the one that parts the words, no last LF
  pub close : drawn (100 ∷ 105 ∷ 103 ∷ 114 ∷ 97 ∷ 112 ∷ 104 ∷ 32 ∷ 115 ∷ 99 ∷ 111 ∷ 112 ∷ 101 ∷ 115 ∷ 123 ∷ 49 ∷ 59 ∷ 48 ∷ 59
      ∷ 49 ∷ 45 ∷ 62 ∷ 48 ∷ 91 ∷ 108 ∷ 97 ∷ 98 ∷ 101 ∷ 108 ∷ 61 ∷ 34 ∷ 80 ∷ 34 ∷ 93 ∷ 59 ∷ 125 ∷ [])
      ≡ done (record { scopes = 1 ∷ 0 ∷ []; edges = record { from = 1; letter = 80; to = 0 } ∷ [] })
  -- `digraphscopes{}`: the words are not parted
  pub unparted : drawn (100 ∷ 105 ∷ 103 ∷ 114 ∷ 97 ∷ 112 ∷ 104 ∷ 115 ∷ 99 ∷ 111 ∷ 112 ∷ 101 ∷ 115 ∷ 123 ∷ 125 ∷ []) ≡ refused 18
  -- `digraph scopes{04;}`: no number but 0 has a zero first
  pub zero_first : drawn (100 ∷ 105 ∷ 103 ∷ 114 ∷ 97 ∷ 112 ∷ 104 ∷ 32 ∷ 115 ∷ 99 ∷ 111 ∷ 112 ∷ 101 ∷ 115 ∷ 123 ∷ 48 ∷ 52 ∷ 59 ∷ 125 ∷ []) ≡ refused 18
  -- `digraph scopes{0->0[label="P"];0;}`: a scope after an edge
  pub late_scope : drawn (100 ∷ 105 ∷ 103 ∷ 114 ∷ 97 ∷ 112 ∷ 104 ∷ 32 ∷ 115 ∷ 99 ∷ 111 ∷ 112 ∷ 101 ∷ 115 ∷ 123
      ∷ 48 ∷ 45 ∷ 62 ∷ 48 ∷ 91 ∷ 108 ∷ 97 ∷ 98 ∷ 101 ∷ 108 ∷ 61 ∷ 34 ∷ 80 ∷ 34 ∷ 93 ∷ 59 ∷ 48 ∷ 59 ∷ 125 ∷ []) ≡ refused 18

pub examples : Read
unfolding within is_digit is_capital and_then refuse_if growing digits_from number_here is_blank past_blanks past_bytes number_of fixed_next number_next quoted_here quoted_next scope_next label_opens label_closes label_next target_next edge_next more_of many scopes_next edges_next rest_or past_comment past_blank head_next is_empty ends_after ends_next places_in parts_of drawn_at drawn
examples = record { close = refl; unparted = refl; zero_first = refl; late_scope = refl }
