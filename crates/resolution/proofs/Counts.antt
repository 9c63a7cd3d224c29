-- The summary's figures are the counts of the queries found so, and its text stands in parts.
-- Assumes nothing.
use Prim.Native.Nat.{ℕ, zero, suc, ◌+◌, ◌^◌, ◌≤◌, ◌<◌}
use mathlib.Core.Path.{◌≡◌, refl, sym, ap, ◌∙◌}
use mathlib.Core.List.{List, [], ◌∷◌, ◌++◌, map, append_assoc}
use native.Mathlib.Omega.{arith}
use native.Mathlib.Numerals.{add-one}
use lib.ListN.{length, drop, length-append, length-map, drop_of_length-le}
use lib.Seq.{drop-cons}
use Rattle.share.specs.Share.{share}
use Rattle.share.proofs.Nearest.{share_small}
use Rattle.scope_graph.specs.Graph.{Query}
use Rattle.scope_graph.specs.Rows.{language}
use Rattle.scope_graph.specs.Computed.{Found, found_none, found_one, found_several}
use Rattle.text_field.specs.Number.{number_text}
use Rattle.text_field.proofs.NumberLaws.{length_below}
use Rattle.graph_rows.specs.Format.{query_section, queries, sections, section_at}
use Rattle.graph_rows.specs.Decode.{rows_in, rules_of, query_of, queries_of}
use Rattle.graph_file.specs.File.{WasRead}
use Rattle.board.specs.Queries.{query_at}
use Rattle.resolution.specs.Summary.{summary_line, share_text, summary_text, same_found, count_found, summary_by}
use Rattle.resolution.specs.declared.sums.Figures.{Figures}
use Rattle.resolution.specs.Listing.{found_for, summary_of}
use Rattle.resolution.specs.Figures.{figures_after, no_figures, figures_over, total, Few, field_text, counts_text, figures_text}
use Rattle.board.proofs.Queries.{accepted}

after_sum : (c : Figures) (f : Found) → total (figures_after c f) ≡ total c + 1
unfolding figures_after
after_sum c found_none = omega arith
after_sum c found_one = omega arith
after_sum c found_several = omega arith

module _ (cells : List ℕ) where
  abbrev Q : Type 0
  Q = Query (language (rules_of cells))

  -- one turn over the queries
  figures_turn : (i : ℕ) (c d : Figures) (f : Found) → i < length (queries_of cells) → f ≡ found_for cells (query_at cells i) → d ≡ figures_after c f
      → figures_over cells d (drop (i + 1) (queries_of cells)) ≡ figures_over cells c (drop i (queries_of cells))
  unfolding figures_over query_at
  figures_turn i c d f h g k =
      let qs : List Q = queries_of cells in
      let x : drop i qs ≡ query_at cells i ∷ drop (i + 1) qs = drop-cons qs i _ h ∙ ap (λ (n : ℕ). query_at cells i ∷ drop n qs) (sym (add-one i)) in
      ap (λ (y : Figures). figures_over cells y (drop (i + 1) qs)) (k ∙ ap (figures_after c) g) ∙ sym (ap (figures_over cells c) x)

  over_one : (c : Figures) (qs : List Q) → (figures_over cells c qs).one ≡ c.one + count_found found_one (map (found_for cells) qs)
  unfolding figures_over count_found figures_after same_found
  over_one c [] = omega arith
  over_one c (q ∷ qs) = over_one (figures_after c (found_for cells q)) qs ∙ by (found_for cells q)
    where
      by : (f : Found) → (figures_after c f).one + count_found found_one (map (found_for cells) qs) ≡ c.one + count_found found_one (f ∷ map (found_for cells) qs)
      by found_none = omega arith
      by found_one = omega arith
      by found_several = omega arith

  over_several : (c : Figures) (qs : List Q) → (figures_over cells c qs).several ≡ c.several + count_found found_several (map (found_for cells) qs)
  unfolding figures_over count_found figures_after same_found
  over_several c [] = omega arith
  over_several c (q ∷ qs) = over_several (figures_after c (found_for cells q)) qs ∙ by (found_for cells q)
    where
      by : (f : Found) → (figures_after c f).several + count_found found_several (map (found_for cells) qs) ≡ c.several + count_found found_several (f ∷ map (found_for cells) qs)
      by found_none = omega arith
      by found_one = omega arith
      by found_several = omega arith

  over_none : (c : Figures) (qs : List Q) → (figures_over cells c qs).none ≡ c.none + count_found found_none (map (found_for cells) qs)
  unfolding figures_over count_found figures_after same_found
  over_none c [] = omega arith
  over_none c (q ∷ qs) = over_none (figures_after c (found_for cells q)) qs ∙ by (found_for cells q)
    where
      by : (f : Found) → (figures_after c f).none + count_found found_none (map (found_for cells) qs) ≡ c.none + count_found found_none (f ∷ map (found_for cells) qs)
      by found_none = omega arith
      by found_one = omega arith
      by found_several = omega arith

  over_sum : (c : Figures) (qs : List Q) → total (figures_over cells c qs) ≡ total c + length qs
  unfolding figures_over
  over_sum c [] = omega arith
  over_sum c (q ∷ qs) =
      let a = over_sum (figures_after c (found_for cells q)) qs in
      let b = after_sum c (found_for cells q) in
      omega arith

  pub queries_few : WasRead cells → length (queries_of cells) ≤ 256
  unfolding queries_of section_at sections queries
  queries_few was = rw (length-map (rows_in query_section cells) (query_of (rules_of cells))) ((accepted cells was).limits query_section (omega arith))

  -- after the last query
  figures_end : (c : Figures) (i : ℕ) → length (queries_of cells) ≤ i → c ≡ figures_over cells c (drop i (queries_of cells))
  unfolding figures_over
  figures_end c i h = sym (ap (figures_over cells c) (drop_of_length-le (queries_of cells) {i = i} h))

  -- in a loop over the queries: what is counted so far, with what is left, gives the whole
  abbrev pub Counted : ℕ → Figures → Type 0
  Counted i c = (total c ≡ i) × (figures_over cells c (drop i (queries_of cells)) ≡ figures_over cells no_figures (queries_of cells))

  pub counted_none : (c : Figures) → c ≡ no_figures → Counted 0 c
  unfolding no_figures
  counted_none c e = (ap (λ (x : Figures). total x) e, ap (λ (x : Figures). figures_over cells x (queries_of cells)) e)

  pub counted_turn : (i : ℕ) (c d : Figures) (f : Found) → i < length (queries_of cells) → f ≡ found_for cells (query_at cells i) → d ≡ figures_after c f → Counted i c → Counted (i + 1) d
  counted_turn i c d f h g k e = (ap (λ (x : Figures). total x) k ∙ after_sum c f ∙ ap (λ (n : ℕ). n + 1) e.0, figures_turn i c d f h g k ∙ e.1)

  pub counted_all : (i : ℕ) (c : Figures) → length (queries_of cells) ≤ i → Counted i c → c ≡ figures_over cells no_figures (queries_of cells)
  counted_all i c h e = figures_end c i h ∙ e.1

  -- the figures of all queries
  module _ (r : Figures) (e : r ≡ figures_over cells no_figures (queries_of cells)) where
    total_is : total r ≡ length (queries_of cells)
    unfolding no_figures
    total_is = let s = ap (λ (x : Figures). total x) e ∙ over_sum no_figures (queries_of cells) in omega arith

    pub figures_few : WasRead cells → Few r
    figures_few was = let f = queries_few was in let s = total_is in omega arith

    pub figures_text_lem : figures_text r ≡ summary_of cells
    unfolding summary_of summary_by no_figures figures_text
    figures_text_lem =
        let founds : List Found = map (found_for cells) (queries_of cells) in
        let a : r.one ≡ count_found found_one founds = (let z = ap (λ (x : Figures). x.one) e ∙ over_one no_figures (queries_of cells) in omega arith) in
        let b : r.several ≡ count_found found_several founds = (let z = ap (λ (x : Figures). x.several) e ∙ over_several no_figures (queries_of cells) in omega arith) in
        let c : r.none ≡ count_found found_none founds = (let z = ap (λ (x : Figures). x.none) e ∙ over_none no_figures (queries_of cells) in omega arith) in
        ap (λ (n : ℕ). summary_text n r.one r.several r.none) (total_is ∙ sym (length-map (queries_of cells) (found_for cells))) ∙ rw (a, b, c)

-- the share, as it is written
pub share_none : (n one : ℕ) → n ≡ 0 → 45 ∷ [] ≡ share_text n one
unfolding share_text
share_none n one e = rw e

pub share_some : (n one v : ℕ) → (n ≡ 0 → ⊥) → v ≡ share one n → number_text v ≡ share_text n one
unfolding share_text
share_some zero one v h e = absurd (h refl)
share_some (suc n) one v h e = rw e

parts : (n o s z e : List ℕ) → n ++ (32 ∷ (o ++ (32 ∷ (s ++ (32 ∷ (z ++ (32 ∷ e)))))))
    ≡ ((n ++ (32 ∷ [])) ++ ((o ++ (32 ∷ [])) ++ ((s ++ (32 ∷ [])) ++ (z ++ (32 ∷ []))))) ++ e
parts n o s z e =
    sym (append_assoc (n ++ (32 ∷ [])) ((o ++ (32 ∷ [])) ++ ((s ++ (32 ∷ [])) ++ (z ++ (32 ∷ [])))) e
    ∙ append_assoc n (32 ∷ []) (((o ++ (32 ∷ [])) ++ ((s ++ (32 ∷ [])) ++ (z ++ (32 ∷ [])))) ++ e)
    ∙ ap (λ (l : List ℕ). n ++ (32 ∷ l)) (append_assoc (o ++ (32 ∷ [])) ((s ++ (32 ∷ [])) ++ (z ++ (32 ∷ []))) e
    ∙ append_assoc o (32 ∷ []) (((s ++ (32 ∷ [])) ++ (z ++ (32 ∷ []))) ++ e)
    ∙ ap (λ (l : List ℕ). o ++ (32 ∷ l)) (append_assoc (s ++ (32 ∷ [])) (z ++ (32 ∷ [])) e
    ∙ append_assoc s (32 ∷ []) ((z ++ (32 ∷ [])) ++ e)
    ∙ ap (λ (l : List ℕ). s ++ (32 ∷ l)) (append_assoc z (32 ∷ []) e))))

-- the summary, as it is written
pub summary_parts : (x : Figures) → counts_text x ++ (share_text (total x) x.one ++ (10 ∷ [])) ≡ figures_text x
unfolding counts_text field_text summary_text figures_text
summary_parts x =
    append_assoc summary_line _ (share_text (total x) x.one ++ (10 ∷ []))
    ∙ ap (λ (l : List ℕ). summary_line ++ l) (sym (parts (number_text (total x)) (number_text x.one) (number_text x.several) (number_text x.none) (share_text (total x) x.one ++ (10 ∷ []))))

-- a summary is short
three : (v : ℕ) → v ≤ 256 → length (number_text v) ≤ 3
three v h = length_below 2 v (let z : 10 ^ 3 ≡ 1000 = refl in rw z (omega arith))

share_short : (n one : ℕ) → one ≤ 256 → length (share_text n one) ≤ 5
unfolding share_text
share_short zero one h = omega arith
share_short (suc n) one h = length_below 4 (share one (suc n)) (let z : 10 ^ 5 ≡ 100000 = refl in let d = share_small one (suc n) in rw z (omega arith))

pub summary_short : (c : Figures) → Few c → length (figures_text c) ≤ 64
unfolding summary_text figures_text
summary_short c few =
    let n = total c in
    let one = c.one in
    let several = c.several in
    let none = c.none in
    let e : List ℕ = share_text n one ++ (10 ∷ []) in
    let a = three n few in
    let b = three one (omega arith) in
    let c = three several (omega arith) in
    let d = three none (omega arith) in
    let f = share_short n one (omega arith) in
    let l1 = length-append (number_text n) (32 ∷ (number_text one ++ (32 ∷ (number_text several ++ (32 ∷ (number_text none ++ (32 ∷ e))))))) in
    let l2 = length-append (number_text one) (32 ∷ (number_text several ++ (32 ∷ (number_text none ++ (32 ∷ e))))) in
    let l3 = length-append (number_text several) (32 ∷ (number_text none ++ (32 ∷ e))) in
    let l4 = length-append (number_text none) (32 ∷ e) in
    let l5 = length-append (share_text n one) (10 ∷ []) in
    omega arith

-- it is written first to 64 bytes of one's own
pub summary_room : (c : Figures) → Few c → (o : List ℕ) → length o ≡ 64 → length (figures_text c) ≤ length o
summary_room c few o e = let s = summary_short c few in omega arith
