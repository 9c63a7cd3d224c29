-- That the number of an answer tells it: every refusal is one of document 01's numbers, or one
-- that document 02 gives the call; these are below 64, so no other answer has the same one. The
-- value is in proofs/Listed.antt. Assumes nothing: these are statements.
use Rattle.std.specs.Prelude.{ℕ, ◌≤◌, ◌-◌, ◌/◌, ◌%◌, ◌≡◌, List, [], ◌∷◌, true, false, ltb}
use Rattle.scope_graph.specs.Language.{◌∈◌}
use Rattle.text_field.specs.Outcome.{Outcome, refused, done}
use Rattle.graph_file.specs.File.{read_cells, write_text}
use Rattle.text_field.specs.Answer.{answer}
use Rattle.comparison.specs.Compare.{compare_answer}
use Rattle.resolution.specs.Listing.{listing_for, summary_for}
use Rattle.judge.specs.Judge.{judge_answer}
use Rattle.conversion.specs.Conversion.{old_of, new_of}
use Rattle.ruled.specs.Ruled.{ruled_of}
use Rattle.readers.specs.Readers.{readers_for}
use Rattle.renumbering.specs.Renumbering.{renumber_of, room_for, sizes_of, back_for}
use Rattle.renumbering.specs.Alone.{file_size}
use Rattle.dot.specs.Drawing.{dot_of}
use Rattle.undot.specs.Undrawn.{undot_of}
use Rattle.tewhoranu.specs.Numbers.{written, comparison_case, comparison_steps, compared, standing_case, standing_steps, judged}

-- the greatest number of document 01's list ("Who can cause a refusal")
abbrev pub last_refusal : ℕ
last_refusal = 9

-- the answer is no refusal, or one by a number of the list
pub data Listed {A : Type 0} : Outcome A → Type 0 where
  listed : (n : ℕ) → 1 ≤ n → n ≤ last_refusal → Listed (refused n)
  carried : (a : A) → Listed (done a)

-- the same of a call that has refusals of its own
pub data ListedWith {A : Type 0} (own : List ℕ) : Outcome A → Type 0 where
  its_own : (n : ℕ) → n ∈ own → ListedWith own (refused n)
  as_others : (o : Outcome A) → Listed o → ListedWith own o

-- What a number tells: below 64 a refusal, else what is taken out of it.
unfoldable pub heard : {A : Type 0} → (ℕ → A) → ℕ → Outcome A
heard taken n = elim (ltb n 64) [ true ↦ refused n | false ↦ done (taken n) ]

-- out of an output's number: how much was written
unfoldable pub amount_in : ℕ → ℕ
amount_in n = n - 64

-- out of a case's number: the case, and the steps that come with it
unfoldable pub case_in : ℕ → ℕ × ℕ
case_in n = (n / 64 - 1, n % 64)

-- an answer by its case and steps
unfoldable pub numbered : {A : Type 0} → (A → ℕ) → (A → ℕ) → Outcome A → Outcome (ℕ × ℕ)
numbered case steps (refused n) = refused n
numbered case steps (done a) = done (case a, steps a)

-- an output of the list whose number tells it
abbrev pub Output : Outcome ℕ → Type 0
Output o = Listed o × (heard amount_in (written o) ≡ o)

-- an output of the list, or refused by one of the call's own numbers, whose number tells it
abbrev pub OutputWith : List ℕ → Outcome ℕ → Type 0
OutputWith own o = ListedWith own o × (heard amount_in (written o) ≡ o)

-- an answer by cases, of the list, whose number tells it
abbrev pub Cases : {A : Type 0} → (A → ℕ) → (A → ℕ) → (Outcome A → ℕ) → Outcome A → Type 0
Cases case steps number o = Listed o × (heard case_in (number o) ≡ numbered case steps o)

-- Every call, with any input and any room. 14 is what K9 gives the way to the old form; 12 and 13
-- are K6's, 11 is K5's, 17 is K13's, 18 and 19 are K14's.
pub record Numbers : Type 0 where
  pub read : (text : List ℕ) (room : ℕ) → Output (answer (read_cells text) room)
  pub write : (cells : List ℕ) (room : ℕ) → Output (answer (write_text cells) room)
  pub listing : (text : List ℕ) (query room : ℕ) → Output (answer (listing_for text query) room)
  pub summary : (text : List ℕ) (room : ℕ) → Output (answer (summary_for text) room)
  pub judge : (text : List ℕ) (query : ℕ) (row : List ℕ) (room : ℕ) → Cases standing_case standing_steps judged (judge_answer text query row room)
  pub compare : (text a b : List ℕ) (n m : ℕ) → Cases comparison_case comparison_steps compared (compare_answer text a b n m)
  pub to_old : (text : List ℕ) (room : ℕ) → OutputWith (14 ∷ []) (answer (old_of text) room)
  pub to_new : (text : List ℕ) (room : ℕ) → Output (answer (new_of text) room)
  pub rules : (text expression : List ℕ) (room : ℕ) → OutputWith (12 ∷ 13 ∷ []) (answer (ruled_of expression text) room)
  pub readers : (text : List ℕ) (place room : ℕ) → OutputWith (11 ∷ []) (answer (readers_for text place) room)
  pub renumber : (text : List ℕ) (room lines : ℕ) → Output (file_size (sizes_of (room_for room lines (renumber_of text))))
  pub back : (text was : List ℕ) (room : ℕ) → OutputWith (17 ∷ []) (answer (back_for text was) room)
  pub dot : (text : List ℕ) (room : ℕ) → Output (answer (dot_of text) room)
  pub undot : (text drawn : List ℕ) (room : ℕ) → OutputWith (18 ∷ 19 ∷ []) (answer (undot_of text drawn) room)
