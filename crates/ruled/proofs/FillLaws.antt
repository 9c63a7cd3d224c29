-- The table with other rules, put part by part: what stands there, how much it is, and its text.
-- Assumes nothing.
use Prim.Native.Nat.{ℕ, ◌+◌, ◌-◌, ◌≤◌}
use mathlib.Core.Path.{◌≡◌, sym, ap, ◌∙◌}
use mathlib.Core.List.{List, ◌++◌}
use native.Mathlib.Omega.{arith}
use lib.ListN.{length, take, drop, length-append, length-take, length-drop}
use lib.Seq.{take_at, length-take-le}
use Rattle.std.specs.declared.result.Result.TheVariants.{Ok, Err}
use Rattle.text_field.specs.Buffer.{Buf, puts}
use Rattle.text_field.specs.Outcome.{Outcome, refused, and_then}
use Rattle.text_field.specs.Answer.{answer, leaves, answer_of}
use Rattle.text_field.specs.Refusal.{number_of}
use Rattle.text_field.specs.declared.refusal.Refusal.{Refusal}
use Rattle.text_field.proofs.BufferLaws.{puts_then, puts_fits, puts_length}
use Rattle.text_field.proofs.AnswerLaws.{answer_refused, leaves_refused}
use Rattle.graph_rows.specs.Accepted.{AcceptedTable}
use Rattle.graph_rows.specs.Decode.{letters_of}
use Rattle.graph_file.specs.File.{WasRead, write_text}
use Rattle.graph_rows.specs.Formed.{cells_of}
use Rattle.graph_file.proofs.Promises.{read_accepted}
use Rattle.graph_file.proofs.SectionLaws.{part_is, part_length}
use Rattle.graph_table.specs.Sections.{leading, start_of}
use Rattle.graph_table.proofs.Leading.{start_next, start_within}
use Rattle.path_rules.specs.Rules.{rules_of}
use Rattle.path_rules.specs.declared.Rules.{Rules}
use Rattle.ruled.specs.Ruled.{transitions_to, accepts_to, transition_rows, accept_rows, ruled_cells, ruled_text, text_by}
use Rattle.ruled.specs.Letters.{label_count}
use Rattle.ruled.proofs.Places.{start_at, read_some, cells_size, ruled_parts}
use Rattle.ruled.proofs.RowLaws.{transitions_most, transitions_five, accepts_most, accepts_five}

-- four parts put one after the other
pub four_puts : (b₀ b₁ b₂ b₃ b₄ : Buf) (xs ys zs ws : List ℕ) → b₁ ≡ puts b₀ xs → b₂ ≡ puts b₁ ys → b₃ ≡ puts b₂ zs → b₄ ≡ puts b₃ ws
    → b₄ ≡ puts b₀ (xs ++ (ys ++ (zs ++ ws)))
four_puts b₀ b₁ b₂ b₃ b₄ xs ys zs ws e₁ e₂ e₃ e₄ =
    puts_then b₀ b₁ b₄ xs (ys ++ (zs ++ ws)) e₁ (puts_then b₁ b₂ b₄ ys (zs ++ ws) e₂ (puts_then b₂ b₃ b₄ zs ws e₃ e₄))

-- where the sections that stay stand: before a place, and behind another
pub record Where (cells : List ℕ) (before behind : ℕ) : Type 0 where
  pub at : before ≡ start_of 2 cells
  pub to : behind ≡ start_of 4 cells
  pub in_turn : before ≤ behind
  pub within : behind ≤ length cells
  pub front : length (take before cells) ≡ before
  pub back : length (take (length cells - behind) (drop behind cells)) ≡ length cells - behind

module _ (cells : List ℕ) (was : WasRead cells) where
  pub first_within : (before : ℕ) → before ≡ 1 + leading 0 2 (drop 1 cells) → before ≤ length cells
  first_within before e = let s = start_at 2 cells (read_some cells was) in let w = start_within 2 cells in omega arith

  pub where_at : (before behind : ℕ) → before ≡ 1 + leading 0 2 (drop 1 cells) → behind ≡ before + leading 0 4 (drop before cells) → Where cells before behind
  where_at before behind e f =
      let s : before ≡ start_of 2 cells = e ∙ start_at 2 cells (read_some cells was) in
      let n = start_next 2 4 cells (omega arith) in
      let same : leading 0 4 (drop before cells) ≡ leading 0 4 (drop (start_of 2 cells) cells) = ap (λ (j : ℕ). leading 0 4 (drop j cells)) s in
      let to : behind ≡ start_of 4 cells = omega arith in
      let w = start_within 4 cells in
      let inside = first_within before e in
      record {
        at = s;
        to = to;
        in_turn = omega arith;
        within = omega arith;
        front = length-take-le before cells inside;
        back = part_length cells behind;
      }

module _ (cells : List ℕ) (was : WasRead cells) (r : Rules) where
  abbrev labels : ℕ
  labels = label_count cells

  abbrev middle : List ℕ
  middle = cells_of 2 (transitions_to r.next r.states labels 128)

  abbrev lower : List ℕ
  lower = cells_of 3 (accepts_to r.accepts r.states 16)

  parts : ruled_cells r cells ≡ take (start_of 2 cells) cells ++ (middle ++ (lower ++ drop (start_of 4 cells) cells))
  unfolding transition_rows accept_rows
  parts = ruled_parts cells was r

  middle_most : length middle ≤ 768
  middle_most =
      let n = transitions_most r.next r.states labels 128 in
      let s = cells_size 2 (transitions_to r.next r.states labels 128) (transitions_five r.next r.states labels 128) in
      omega arith

  lower_most : length lower ≤ 96
  lower_most =
      let n = accepts_most r.accepts r.states 16 in
      let s = cells_size 3 (accepts_to r.accepts r.states 16) (accepts_five r.accepts r.states 16) in
      omega arith

  pub size_most : length cells ≤ 12271
  size_most = let a : AcceptedTable cells = read_accepted was.0 cells was.1 in a.size_most

  starts : (start_of 2 cells ≤ start_of 4 cells) × (start_of 4 cells ≤ length cells)
  starts = let e = start_next 2 4 cells (omega arith) in let w = start_within 4 cells in (omega arith, w)

  pub ruled_size : length (ruled_cells r cells) ≤ length cells + 864
  ruled_size =
      let e = ap length parts in
      let front = take (start_of 2 cells) cells in
      let back = drop (start_of 4 cells) cells in
      let a = length-append front (middle ++ (lower ++ back)) in
      let b = length-append middle (lower ++ back) in
      let d = length-append lower back in
      let f = length-take (start_of 2 cells) cells in
      let g = length-drop (start_of 4 cells) cells in
      let m = middle_most in
      let l = lower_most in
      let s = starts.0 in
      let t = starts.1 in
      omega arith

  -- what the four calls put, at places that `Where` tells of
  pub filled : (before behind n : ℕ) (b₀ b₁ b₂ b₃ b₄ : Buf) → before ≡ start_of 2 cells → behind ≡ start_of 4 cells → n ≡ labels
      → b₁ ≡ puts b₀ (take before cells) → b₂ ≡ puts b₁ (cells_of 2 (transition_rows r n)) → b₃ ≡ puts b₂ (cells_of 3 (accept_rows r))
      → b₄ ≡ puts b₃ (take (length cells - behind) (drop behind cells)) → b₄ ≡ puts b₀ (ruled_cells r cells)
  unfolding transition_rows accept_rows
  filled before behind n b₀ b₁ b₂ b₃ b₄ at to is e₁ e₂ e₃ e₄ =
      four_puts b₀ b₁ b₂ b₃ b₄ (take (start_of 2 cells) cells) middle lower (drop (start_of 4 cells) cells)
      (e₁ ∙ ap (λ (j : ℕ). puts b₀ (take j cells)) at)
      (e₂ ∙ ap (λ (j : ℕ). puts b₁ (cells_of 2 (transitions_to r.next r.states j 128))) is)
      e₃
      (e₄ ∙ ap (puts b₃) (part_is cells behind ∙ ap (λ (j : ℕ). drop j cells) to))
      ∙ ap (puts b₀) (sym parts)

  -- the cells that were put are the table
  put_taken : (t u : List ℕ) (n : ℕ) → length cells + 864 ≤ length t → ◌≡◌ {A = Buf} (u, n) (puts (t, 0) (ruled_cells r cells)) → (n ≤ length t) × (take n u ≡ ruled_cells r cells)
  put_taken t u n room e =
      let size = ruled_size in
      let all = e ∙ puts_fits t 0 (ruled_cells r cells) (omega arith) in
      let n-is : n ≡ 0 + length (ruled_cells r cells) = ap (λ (b : Buf). b.1) all in
      let u-is : u ≡ take 0 t ++ ruled_cells r cells ++ drop (0 + length (ruled_cells r cells)) t = ap (λ (b : Buf). b.0) all in
      (omega arith, ap (take n) u-is ∙ take_at (ruled_cells r cells) (drop (0 + length (ruled_cells r cells)) t) n (omega arith))

  pub put_within : (t u : List ℕ) (n : ℕ) → length cells + 864 ≤ length t → ◌≡◌ {A = Buf} (u, n) (puts (t, 0) (ruled_cells r cells)) → n ≤ length u
  put_within t u n room e =
      let p = (put_taken t u n room e).0 in
      let l : length u ≡ length t = ap (λ (b : Buf). length b.0) e ∙ puts_length (ruled_cells r cells) (t, 0) in
      omega arith

  pub written_as : (t u : List ℕ) (n : ℕ) → length cells + 864 ≤ length t → ◌≡◌ {A = Buf} (u, n) (puts (t, 0) (ruled_cells r cells)) → (a : Outcome ℕ) (o out : List ℕ)
      → (a ≡ answer (write_text (take n u)) (length out)) × (o ≡ leaves (write_text (take n u)) out)
      → (a ≡ answer (write_text (ruled_cells r cells)) (length out)) × (o ≡ leaves (write_text (ruled_cells r cells)) out)
  written_as t u n room e a o out f =
      let same = (put_taken t u n room e).1 in
      (f.0 ∙ ap (λ (x : List ℕ). answer (write_text x) (length out)) same, f.1 ∙ ap (λ (x : List ℕ). leaves (write_text x) out) same)

-- a refusal by 12 or 13, and the table's text
module _ (cells expression out : List ℕ) where
  pub text_refused : (f : Refusal) → rules_of (letters_of cells) expression ≡ Err f
      → (refused (number_of f) ≡ answer (text_by expression cells) (length out)) × (out ≡ leaves (text_by expression cells) out)
  unfolding text_by ruled_text answer_of and_then
  text_refused f is =
      let e : text_by expression cells ≡ refused (number_of f) = rw is in
      (answer_refused (text_by expression cells) (number_of f) (length out) e, leaves_refused (text_by expression cells) (number_of f) out e)

  pub text_written : (r : Rules) → rules_of (letters_of cells) expression ≡ Ok r → (a : Outcome ℕ) (o : List ℕ)
      → (a ≡ answer (write_text (ruled_cells r cells)) (length out)) × (o ≡ leaves (write_text (ruled_cells r cells)) out)
      → (a ≡ answer (text_by expression cells) (length out)) × (o ≡ leaves (text_by expression cells) out)
  unfolding text_by ruled_text answer_of and_then
  text_written r is a o e =
      let same : write_text (ruled_cells r cells) ≡ text_by expression cells = rw is in
      (e.0 ∙ ap (λ (x : Outcome (List ℕ)). answer x (length out)) same, e.1 ∙ ap (λ (x : Outcome (List ℕ)). leaves x out) same)
