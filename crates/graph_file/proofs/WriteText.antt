-- Laws of the text as the host gets it. Assumes nothing.
use Prim.Native.Nat.{ℕ, ◌+◌, ◌≤◌, ◌<◌}
use mathlib.Core.Path.{◌≡◌, sym, ap, ◌∙◌}
use mathlib.Core.List.{List, ◌++◌}
use native.Mathlib.Omega.{arith}
use native.Mathlib.Nat.{zero-add}
use lib.ListN.{length, take, drop}
use lib.Seq.{take_at}
use Rattle.text_field.specs.Buffer.{Buf, puts}
use Rattle.text_field.specs.Outcome.{refused, done}
use Rattle.text_field.specs.Answer.{answer, leaves}
use Rattle.text_field.proofs.BufferLaws.{puts_fits}
use Rattle.text_field.proofs.AnswerLaws.{answer_refused, leaves_refused, answer_short, leaves_short, answer_fits, leaves_fits}
use Rattle.graph_rows.specs.Tested.{table_refusal}
use Rattle.graph_file.specs.File.{write_text}
use Rattle.graph_file.specs.Writer.{text_in}
use Rattle.graph_rows.proofs.TestLaws.{refused_by_lem}
use Rattle.graph_file.proofs.CopyLaws.{copied}
use Rattle.graph_file.proofs.ForgetLaws.{same_refusal}
use Rattle.graph_file.proofs.InverseFile.{written_short}
use Rattle.graph_file.proofs.WriteStages.{text_written}

-- what the host is told, and what its memory holds: after a refusal of the test
pub told_refused : (t lent : List ℕ) (n : ℕ) → n ≡ table_refusal t → (n ≡ 0 → ⊥) → (refused n ≡ answer (write_text t) (length lent)) × (lent ≡ leaves (write_text t) lent)
told_refused t lent n e z =
    let f = refused_by_lem (write_text t) n (e ∙ sym (same_refusal t)) z in
    (answer_refused (write_text t) n (length lent) f, leaves_refused (write_text t) n lent f)

module _ (t : List ℕ) (graph : table_refusal t ≡ 0) where
  -- no text is longer than a file
  short : length (text_in t) ≤ 32768
  short = written_short t (text_in t) (text_written t graph)

  -- the text in a buffer that has room for every text: its length, and its bytes at the front
  module _ (z u : List ℕ) (n : ℕ) (room : 32768 ≤ length z) (e : ◌≡◌ {A = Buf} (u, n) (puts (z, 0) (text_in t))) where
    whole_text : ◌≡◌ {A = Buf} (u, n) (text_in t ++ drop (0 + length (text_in t)) z, 0 + length (text_in t))
    whole_text = e ∙ puts_fits z 0 (text_in t) (omega (arith, short))

    text_length : n ≡ length (text_in t)
    text_length = ap (λ (x : Buf). x.1) whole_text ∙ zero-add (length (text_in t))

    text_front : take n u ≡ text_in t
    text_front = rw (ap (λ (x : Buf). x.0) whole_text) (take_at (text_in t) (drop (0 + length (text_in t)) z) n (sym text_length))

    pub text_within : length u ≡ length z → n ≤ length u
    text_within h = omega (arith, text_length, short)

    -- a lent buffer that is too short for it, and one that it is copied to
    pub told_small : (lent : List ℕ) → length lent < n → (refused 9 ≡ answer (write_text t) (length lent)) × (lent ≡ leaves (write_text t) lent)
    told_small lent h =
        (answer_short (write_text t) (text_in t) (text_written t graph) (length lent) (omega (arith, text_length)), leaves_short (write_text t) (text_in t) (text_written t graph) lent (omega (arith, text_length)))

    pub told_copied : (lent front : List ℕ) → front ≡ take n u → n ≤ length lent → (done n ≡ answer (write_text t) (length lent)) × (front ++ drop n lent ≡ leaves (write_text t) lent)
    told_copied lent front e h =
        (answer_fits (write_text t) (text_in t) (text_written t graph) (length lent) n (sym text_length) h, copied (write_text t) (text_in t) lent front n (text_written t graph) (e ∙ text_front) (sym text_length) h)

    -- the lent buffer itself has room for every text
    pub told_long : (done n ≡ answer (write_text t) (length z)) × (u ≡ leaves (write_text t) z)
    told_long =
        (answer_fits (write_text t) (text_in t) (text_written t graph) (length z) n (sym text_length) (omega (arith, text_length, short)), leaves_fits (write_text t) (text_in t) (text_written t graph) z u n (omega (arith, short)) e)
