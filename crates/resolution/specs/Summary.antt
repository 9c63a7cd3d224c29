-- The text of the summary (01, "The listing"; the share as 02, K1 has it): for its figures, and for
-- what each query is found. Assumes nothing: these are definitions.
use Rattle.std.specs.Prelude.{ℕ, zero, suc, Bool, true, false, List, [], ◌∷◌, ◌++◌, length}
use Rattle.scope_graph.specs.Computed.{Found, found_none, found_one, found_several}
use Rattle.text_field.specs.Number.{number_text}
use Rattle.share.specs.Share.{share}

-- its names line: `queries one several none share`
abbrev pub summary_line : List ℕ
summary_line = 113 ∷ 117 ∷ 101 ∷ 114 ∷ 105 ∷ 101 ∷ 115 ∷ 32 ∷ 111 ∷ 110 ∷ 101 ∷ 32 ∷ 115 ∷ 101 ∷ 118 ∷ 101 ∷ 114 ∷ 97 ∷ 108 ∷ 32 ∷ 110 ∷ 111 ∷ 110 ∷ 101 ∷ 32 ∷ 115 ∷ 104 ∷ 97 ∷ 114 ∷ 101 ∷ 10 ∷ []

-- the share of queries found one; `-` without queries
unfoldable pub share_text : ℕ → ℕ → List ℕ
share_text zero one = 45 ∷ []
share_text (suc n) one = number_text (share one (suc n))

-- four numbers and the share, with its line's end
unfoldable pub summary_text : ℕ → ℕ → ℕ → ℕ → List ℕ
summary_text n one several none =
    summary_line
    ++ (number_text n
    ++ (32 ∷ (number_text one
    ++ (32 ∷ (number_text several
    ++ (32 ∷ (number_text none
    ++ (32 ∷ (share_text n one ++ (10 ∷ []))))))))))

-- is it the same of the three?
unfoldable pub same_found : Found → Found → Bool
same_found found_none found_none = true
same_found found_none found_one = false
same_found found_none found_several = false
same_found found_one found_none = false
same_found found_one found_one = true
same_found found_one found_several = false
same_found found_several found_none = false
same_found found_several found_one = false
same_found found_several found_several = true

-- how many of the list are f
unfoldable pub count_found : Found → List Found → ℕ
count_found f [] = 0
count_found f (x ∷ xs) = elim (same_found f x) [ true ↦ suc (count_found f xs) | false ↦ count_found f xs ]

-- the summary's text, where the list has one `found` for each query
unfoldable pub summary_by : List Found → List ℕ
summary_by founds =
    summary_text (length founds) (count_found found_one founds) (count_found found_several founds) (count_found found_none founds)
