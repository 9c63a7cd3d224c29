-- Rows are taken one by one: each is counted, measured against a limit, and written where it fits
-- whole into what is kept; and its declaration is held against the first row's. One walk so tells
-- how long all rows are, whether they pass the limit (01, refusal 9), their text where it is short,
-- and whether there are none, or of one declaration, or of several (02, K2). Assumes nothing: these
-- are definitions.
use Rattle.std.specs.Prelude.{ℕ, ◌+◌, Bool, true, false, not, ◌&&◌, ◌||◌, List, [], ◌∷◌, eqb, leb, ltb, length}
use Rattle.text_field.specs.Buffer.{puts}
use Rattle.follow.specs.declared.Bounds.{Bounds}
use Rattle.follow.specs.declared.Seen.{Seen}
use Rattle.follow.specs.declared.Seen.TheVariants.{None, One, Several}
use Rattle.follow.specs.declared.Tally.{Tally}

-- A row that is taken: its declaration's scope and mark, and its text. The name is the one sought.
pub record Taken : Type 0 where
  pub at : ℕ
  pub mark : ℕ
  pub text : List ℕ

-- lent memory, and what was counted so far
abbrev pub State : Type 0
State = List ℕ × Tally

-- nothing was taken yet
abbrev pub none : Tally
none = record { bytes = 0; entries = 0; over = false; seen = None }

-- the declarations with one more, by its scope and mark: the first is kept, and each later one is
-- held against it
unfoldable pub noted : Seen → ℕ → ℕ → Seen
noted None at mark = One at mark
noted (One a m) at mark = elim (eqb a at && eqb m mark) [ true ↦ One a m | false ↦ Several ]
noted Several at mark = Several

unfoldable pub is_several : Seen → Bool
is_several None = false
is_several (One a m) = false
is_several Several = true

-- k bytes from place n on end at m or before it
unfoldable pub fits : ℕ → ℕ → ℕ → Bool
fits m n k = leb (n + k) m

-- one entry more, up to the most that are asked for
unfoldable pub more : ℕ → ℕ → ℕ
more most e = elim (ltb e most) [ true ↦ e + 1 | false ↦ e ]

-- the row at place n, if it fits whole into the memory and into what is kept of it
unfoldable pub keep_row : ℕ → List ℕ → ℕ → List ℕ → List ℕ
keep_row kept out n row =
    elim (fits kept n (length row) && fits (length out) n (length row)) [ true ↦ (puts (out, n) row).0 | false ↦ out ]

module _ (b : Bounds) where
  -- a row within the limit
  unfoldable pub within : State → Taken → State
  within st row = (
    keep_row b.kept st.0 st.1.bytes row.text,
    record {
      bytes = st.1.bytes + length row.text;
      entries = more b.most st.1.entries;
      over = false;
      seen = noted st.1.seen row.at row.mark;
    },
  )

  -- a row that passes the limit, or comes after one that did: it is only counted and noted
  unfoldable pub beyond : State → Taken → State
  beyond st row = (
    st.0,
    record {
      bytes = st.1.bytes;
      entries = more b.most st.1.entries;
      over = true;
      seen = noted st.1.seen row.at row.mark;
    },
  )

  -- The walk may stop: the limit is passed, and as many entries as are asked for are counted or
  -- several declarations were seen.
  unfoldable pub is_done : Tally → Bool
  is_done t = t.over && (leb b.most t.entries || is_several t.seen)

  -- it stopped with one declaration seen, though a row that was not taken may be of another
  unfoldable pub is_broken : Tally → Bool
  is_broken t = is_done t && not (is_several t.seen)

  -- once the walk may stop, no further row changes anything
  unfoldable pub take_row : State → Taken → State
  take_row st row =
      elim (is_done st.1) [
        | true ↦ st
        | false ↦ elim (not st.1.over && fits b.limit st.1.bytes (length row.text)) [ true ↦ within st row | false ↦ beyond st row ]
      ]

  unfoldable pub take_rows : State → List Taken → State
  take_rows st [] = st
  take_rows st (row ∷ rows) = take_rows (take_row st row) rows
