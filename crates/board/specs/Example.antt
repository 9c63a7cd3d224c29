-- Document 01's example file, as bytes: its parts, a file of such parts, and the whole. Each line
-- of a text has the comment that it is. Assumes nothing: these are definitions.
use Rattle.std.specs.Prelude.{ℕ, List, [], ◌∷◌, ◌++◌}

-- the example's names
abbrev pub hours : List ℕ
hours = 104 ∷ 111 ∷ 117 ∷ 114 ∷ 115 ∷ []

abbrev pub service : List ℕ
service = 115 ∷ 101 ∷ 114 ∷ 118 ∷ 105 ∷ 99 ∷ 101 ∷ []

-- the example up to its edge rows
abbrev pub rules_lines : List ℕ
rules_lines =
    108 ∷ 97 ∷ 98 ∷ 101 ∷ 108 ∷ 10 ∷
    73 ∷ 10 ∷
    80 ∷ 10 ∷
    108 ∷ 101 ∷ 115 ∷ 115 ∷ 32 ∷ 109 ∷ 111 ∷ 114 ∷ 101 ∷ 10 ∷
    36 ∷ 32 ∷ 73 ∷ 10 ∷
    36 ∷ 32 ∷ 80 ∷ 10 ∷
    73 ∷ 32 ∷ 80 ∷ 10 ∷
    115 ∷ 116 ∷ 97 ∷ 116 ∷ 101 ∷ 32 ∷ 108 ∷ 97 ∷ 98 ∷ 101 ∷ 108 ∷ 32 ∷ 110 ∷ 101 ∷ 120 ∷ 116 ∷ 10 ∷
    48 ∷ 32 ∷ 73 ∷ 32 ∷ 49 ∷ 10 ∷
    48 ∷ 32 ∷ 80 ∷ 32 ∷ 48 ∷ 10 ∷
    49 ∷ 32 ∷ 73 ∷ 32 ∷ 49 ∷ 10 ∷
    97 ∷ 99 ∷ 99 ∷ 101 ∷ 112 ∷ 116 ∷ 10 ∷
    48 ∷ 10 ∷
    49 ∷ 10 ∷
    115 ∷ 99 ∷ 111 ∷ 112 ∷ 101 ∷ 115 ∷ 10 ∷
    53 ∷ 10 ∷
    102 ∷ 114 ∷ 111 ∷ 109 ∷ 32 ∷ 108 ∷ 97 ∷ 98 ∷ 101 ∷ 108 ∷ 32 ∷ 116 ∷ 111 ∷ 10 ∷ []

-- the example's rows: `1 P 0`, `2 I 4`, `2 P 1`, `3 P 1`; `0 hours 5`, `1 service 10`, `2 service
-- 21`, `4 hours 40`; `2 service`, `3 service`, `2 hours`
abbrev pub edge_lines : List ℕ
edge_lines = 49 ∷ 32 ∷ 80 ∷ 32 ∷ 48 ∷ 10 ∷ 50 ∷ 32 ∷ 73 ∷ 32 ∷ 52 ∷ 10 ∷ 50 ∷ 32 ∷ 80 ∷ 32 ∷ 49 ∷ 10 ∷ 51 ∷ 32 ∷ 80 ∷ 32 ∷ 49 ∷ 10 ∷ []

abbrev pub declaration_lines : List ℕ
declaration_lines = 48 ∷ 32 ∷ 104 ∷ 111 ∷ 117 ∷ 114 ∷ 115 ∷ 32 ∷ 53 ∷ 10 ∷ 49 ∷ 32 ∷ 115 ∷ 101 ∷ 114 ∷ 118 ∷ 105 ∷ 99 ∷ 101 ∷ 32 ∷ 49 ∷ 48 ∷ 10 ∷ 50 ∷ 32 ∷ 115 ∷ 101 ∷ 114 ∷ 118 ∷ 105 ∷ 99 ∷ 101 ∷ 32 ∷ 50 ∷ 49 ∷ 10 ∷ 52 ∷ 32 ∷ 104 ∷ 111 ∷ 117 ∷ 114 ∷ 115 ∷ 32 ∷ 52 ∷ 48 ∷ 10 ∷ []

abbrev pub query_lines : List ℕ
query_lines = 50 ∷ 32 ∷ 115 ∷ 101 ∷ 114 ∷ 118 ∷ 105 ∷ 99 ∷ 101 ∷ 10 ∷ 51 ∷ 32 ∷ 115 ∷ 101 ∷ 114 ∷ 118 ∷ 105 ∷ 99 ∷ 101 ∷ 10 ∷ 50 ∷ 32 ∷ 104 ∷ 111 ∷ 117 ∷ 114 ∷ 115 ∷ 10 ∷ []

-- a file with these rows: the sections `from label to`, `at name mark`, `at open`, `start seek`
abbrev pub file_text : List ℕ → List ℕ → List ℕ → List ℕ → List ℕ
file_text edges declarations opens queries =
    rules_lines ++ (edges ++ ((97 ∷ 116 ∷ 32 ∷ 110 ∷ 97 ∷ 109 ∷ 101 ∷ 32 ∷ 109 ∷ 97 ∷ 114 ∷ 107 ∷ 10 ∷ [])
    ++ (declarations ++ ((97 ∷ 116 ∷ 32 ∷ 111 ∷ 112 ∷ 101 ∷ 110 ∷ 10 ∷ [])
    ++ (opens ++ ((115 ∷ 116 ∷ 97 ∷ 114 ∷ 116 ∷ 32 ∷ 115 ∷ 101 ∷ 101 ∷ 107 ∷ 10 ∷ []) ++ queries))))))

-- the example: open `3 $`
abbrev pub example_text : List ℕ
example_text = file_text edge_lines declaration_lines (51 ∷ 32 ∷ 36 ∷ 10 ∷ []) query_lines
