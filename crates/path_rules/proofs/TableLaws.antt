-- The table of a whole expression decides its language, with the fewest states, numbered as they
-- are met. Assumes nothing.
use Prim.Native.Nat.{ℕ, suc, ◌+◌, ◌*◌, ◌/◌, ◌%◌, ◌<◌, ◌≤◌, min}
use mathlib.Core.Path.{◌≡◌, refl, sym, ap, ◌∙◌, subst}
use mathlib.Core.Bool.{Bool, true, false, ◌&&◌, ◌||◌}
use mathlib.Core.Logic.{◌⊎◌, inl, inr, ⊎_elim}
use mathlib.Core.Option.{Option, some, none}
use mathlib.Core.List.{List, [], ◌∷◌, ◌++◌, append-nil}
use native.Mathlib.Omega.{arith}
use lib.Dec.{eqb, ltb}
use lib.ListN.{length, get_or, take}
use lib.Pow.{high, low}
use borrow.Author.Tests.{lt-ltb, le-ltb, ltb-true, ltb-false}
use Rattle.std.specs.declared.option.Option.TheVariants.{Some, None}
use Rattle.scope_graph.proofs.Lists.{Two, true_false}
use Rattle.path_rules.specs.Expression.{Expr, letter, seq, alt, star, size, joined, Each, In}
use Rattle.path_rules.specs.Grammar.{Reads, item, items, sides, label, starred, bracketed, single, behind, side, barred, Binding, place_of}
use Rattle.path_rules.specs.Table.{leads_to, Accepted, Over, Decides, Met}
use Rattle.path_rules.specs.Sets.{has, only_if, meets}
use Rattle.path_rules.specs.Parts.{tabulate}
use Rattle.path_rules.specs.Vectors.{end_set, onward, same_on}
use Rattle.path_rules.specs.Rules.{after_end, start_set, accept_cell, walk_of, target, next_in, accepts_in}
use Rattle.path_rules.specs.declared.reading.Reading.{Reading}
use Rattle.path_rules.specs.declared.walk.Walk.{Walk}
use Rattle.path_rules.specs.declared.Rules.{Rules}
use Rattle.path_rules.proofs.Fill.{tabulate_at}
use Rattle.path_rules.proofs.SetLaws.{has_or, has_only, has_one}
use Rattle.path_rules.proofs.Positions.{last, follow, Labelled, Placed}
use Rattle.path_rules.proofs.PositionsRight.{leads_more, start_of, leads_sound, leads_complete}
use Rattle.path_rules.proofs.Trees.{tree}
use Rattle.path_rules.proofs.Tracks.{Tracks, sizes, follows, linked_at}
use Rattle.path_rules.proofs.VectorLaws.{vector_of, set_after, meets_after, meets_end, meets_leads, leads_meets, label_at, after_at}
use Rattle.path_rules.proofs.Closed.{vector_list, vector_in, in_vector}
use Rattle.path_rules.proofs.Alike.{same_elim, same_trans, same_self, differ, meets_nothing, same_onward, dead_after, same_sym}
use Rattle.path_rules.proofs.WalkLaws.{set_at, next_at, Reached, Walked, Full, WalkedOrFull, walked_to}
use Rattle.path_rules.proofs.Fewest.{over_both, Apart, as_many}

-- a language is never empty, and its words are over the labels that the expression names
word_of : (e : Expr) → (w : List ℕ) × In e w
word_of (letter l) = (l ∷ [], refl)
word_of (seq a b) = let (u, i) = word_of a in let (v, j) = word_of b in (u ++ v, (u, v, refl, i, j))
word_of (alt a b) = let (u, i) = word_of a in (u, inl i)
word_of (star a) = ([], ([], refl, tt))

abbrev pub Below : ℕ → Expr → Type 0
Below n (letter l) = l < n
Below n (seq a b) = Below n a × Below n b
Below n (alt a b) = Below n a × Below n b
Below n (star a) = Below n a

pub below_up : (m n : ℕ) (e : Expr) → m ≤ n → Below m e → Below n e
below_up m n (letter l) h b = omega arith
below_up m n (seq x y) h b = (below_up m n x h b.0, below_up m n y h b.1)
below_up m n (alt x y) h b = (below_up m n x h b.0, below_up m n y h b.1)
below_up m n (star x) h b = below_up m n x h b

each_over : (n : ℕ) (P : List ℕ → Type 0) → ((w : List ℕ) → P w → Over n w) → (ws : List (List ℕ)) → Each P ws → Over n (joined ws)
each_over n P h [] i = tt
each_over n P h (w ∷ ws) i = over_both n w (joined ws) (h w i.0) (each_over n P h ws i.1)

in_over : (n : ℕ) (e : Expr) (w : List ℕ) → Below n e → In e w → Over n w
in_over n (letter l) w b i = rw i (b, tt)
in_over n (seq x y) w b (u, v, e, i, j) = rw e (over_both n u v (in_over n x u b.0 i) (in_over n y v b.1 j))
in_over n (alt x y) w b (inl i) = in_over n x w b.0 i
in_over n (alt x y) w b (inr i) = in_over n y w b.1 i
in_over n (star x) w b (ws, e, i) = rw e (each_over n (In x) (λ v j. in_over n x v b j) ws i)

place_listed : (i c : ℕ) (ls : List ℕ) → (place_of i c ls < i + length ls) ⊎ (place_of i c ls ≡ 8)
unfolding place_of
place_listed i c [] = inr refl
place_listed i c (l ∷ ls) = by (eqb c l) (place_listed (suc i) c ls)
  where
    by : (t : Bool) → (place_of (suc i) c ls < suc i + length ls) ⊎ (place_of (suc i) c ls ≡ 8)
        → ((elim t as (λ _. ℕ) [ true ↦ i | false ↦ place_of (suc i) c ls ]) < i + suc (length ls)) ⊎ (◌≡◌ {A = ℕ} (elim t as (λ _. ℕ) [ true ↦ i | false ↦ place_of (suc i) c ls ]) 8)
    by true h = inl (omega arith)
    by false (inl h) = inl (omega arith)
    by false (inr h) = inr h

listed : (ls : List ℕ) (c l : ℕ) → place_of 0 c ls ≡ l → l < 8 → l < length ls
listed ls c l e b = ⊎_elim (λ h. omega arith) (λ h. absurd (omega arith)) (place_listed 0 c ls)

pub reads_below : (ls : List ℕ) (g : Binding) (e : Expr) (s : List ℕ) → Reads ls g e s → Below (length ls) e
reads_below ls g e s (label c l k p b) = listed ls c l p b
reads_below ls g e s (starred a r t d q) = reads_below ls item a r d
reads_below ls g e s (bracketed a r t d q) = reads_below ls sides a r d
reads_below ls g e s (single a r d) = reads_below ls item a r d
reads_below ls g e s (behind a b r r' t d d' q) = (reads_below ls items a r d, reads_below ls item b r' d')
reads_below ls g e s (side a r d) = reads_below ls items a r d
reads_below ls g e s (barred a b r r' t d d' q) = (reads_below ls sides a r d, reads_below ls items b r' d')

next_is : (r : Rules) (q l : ℕ) → l < 8 → next_in r q l ≡ target (get_or r.next (q * 8 + l) 16)
unfolding next_in
next_is r q l h = rw (lt-ltb l 8 h, next_in)

target_low : (r : ℕ) → r < 16 → target r ≡ some r
unfolding target
target_low r h = rw (lt-ltb r 16 h, target)

-- what was read to the end, and the table made of it
module _ (e : Expr) (s : Reading) (n : ℕ) (t : Tracks (tree (some e) none none [] n) s) where
  abbrev pub posts : List ℕ
  posts = after_end s

  abbrev pub marks : List ℕ
  marks = s.labels

  abbrev pub begin : ℕ
  begin = start_set s.alt

  few_letters : size e ≤ 10
  unfolding sizes
  few_letters = let z = t.sized in let f = t.few in omega arith

  trim : (f g : Bool) → (((f || false) || false) || g) ≡ (f || g)
  trim true g = refl
  trim false g = refl

  placed : Placed (label_at posts marks) (after_at posts marks) 10 e 0 (λ x. eqb x 10)
  unfolding after_end sizes follows
  placed p lo hi x =
      let f = few_letters in
      let b : p < 10 = omega arith in
      linked_at s.after s.alt.last end_set p x b
      ∙ rw (t.goes_on p x b, t.choice.lasts p, has_one 10 x) (trim (follow e 0 p x) (last e 0 p && eqb x 10))

  marked : Labelled (label_at posts marks) e 0
  unfolding sizes
  marked = t.labelled.1

  begin_has : (x : ℕ) → has begin x ≡ start_of (label_at posts marks) (after_at posts marks) 10 e x
  unfolding start_set sizes
  begin_has x =
      has_or s.alt.first (only_if s.alt.nullable end_set) x
      ∙ rw (has_only s.alt.nullable end_set x, t.choice.firsts x, t.choice.null, has_one 10 x)

  -- a word is of the language exactly if the first positions meet its vector
  in_meets : (w : List ℕ) → In e w → meets begin (vector_of posts marks w) ≡ true
  in_meets w i =
      leads_meets posts marks w begin
      (leads_more (label_at posts marks) (after_at posts marks) 10 _ (has begin) (λ x h. begin_has x ∙ h) w
      (leads_complete (label_at posts marks) (after_at posts marks) 10 e placed marked few_letters w i))

  meets_in : (w : List ℕ) → meets begin (vector_of posts marks w) ≡ true → In e w
  meets_in w h =
      leads_sound (label_at posts marks) (after_at posts marks) 10 e placed marked few_letters w
      (leads_more (label_at posts marks) (after_at posts marks) 10 (has begin) _ (λ x k. sym (begin_has x) ∙ k) w (meets_leads posts marks w begin h))

  module _ (labels : ℕ) (eight : labels ≤ 8) (below : Below labels e) where
    over_eight : (w : List ℕ) → Over labels w → Over 8 w
    over_eight [] o = tt
    over_eight (l ∷ w) o = ((let h = o.0 in omega arith), over_eight w o.1)

    in_labels : (w : List ℕ) → In e w → Over labels w
    in_labels w i = in_over labels e w below i

    abbrev pub vs : List ℕ
    vs = vector_list posts marks

    alive : same_on vs begin 0 ≡ false
    alive = by (Two (same_on vs begin 0))
      where
        by : (same_on vs begin 0 ≡ true) ⊎ (same_on vs begin 0 ≡ false) → same_on vs begin 0 ≡ false
        by (inr h) = h
        by (inl h) =
            let (w, i) = word_of e in
            absurd (true_false (in_meets w i)
            (same_elim vs begin 0 h (vector_of posts marks w) (vector_in posts marks w (over_eight w (in_labels w i))) ∙ meets_nothing (vector_of posts marks w)))

    walked_or_full : WalkedOrFull vs posts marks begin 128 (walk_of posts marks begin)
    unfolding walk_of
    walked_or_full = walked_to vs posts marks begin alive 128 (omega arith)

    -- a set that is reached by a word, and what meets it
    reached_in : (u z : List ℕ) → In e (u ++ z) → meets (set_after posts marks begin u) (vector_of posts marks z) ≡ true
    reached_in u z i = meets_after posts marks begin u z ∙ in_meets (u ++ z) i

    in_reached : (u z : List ℕ) → meets (set_after posts marks begin u) (vector_of posts marks z) ≡ true → In e (u ++ z)
    in_reached u z h = meets_in (u ++ z) (sym (meets_after posts marks begin u z) ∙ h)

    lives : (t : ℕ) (r : Reached vs posts marks begin t) → same_on vs t 0 ≡ false → (z : List ℕ) × In e (r.0 ++ z)
    lives t (u, o, q) h =
        let (v, m, d) = differ vs t 0 h in
        let (z, oz, g) = in_vector posts marks v m in
        let k : meets t v ≡ true = ⊎_elim (λ x. x.0) (λ x. absurd (true_false x.1 (meets_nothing v))) d in
        (z, in_reached u z (rw (q, ← g) k))

    aparts : (t₁ t₂ : ℕ) (r₁ : Reached vs posts marks begin t₁) (r₂ : Reached vs posts marks begin t₂) → same_on vs t₁ t₂ ≡ false → Apart (In e) r₁.0 r₂.0
    aparts t₁ t₂ (u₁, o₁, q₁) (u₂, o₂, q₂) h =
        let (v, m, d) = differ vs t₁ t₂ h in
        let (z, oz, g) = in_vector posts marks v m in (
          z,
          ⊎_elim
              (λ x. inl (in_reached u₁ z (rw (q₁, ← g) x.0), λ i. true_false (rw (q₂, ← g) at (reached_in u₂ z i)) x.1))
              (λ x. inr (in_reached u₂ z (rw (q₂, ← g) x.1), λ i. true_false (rw (q₁, ← g) at (reached_in u₁ z i)) x.0)) d,
        )

    -- sets that are reached, live and told apart, as many as a table needs
    needs : (set : ℕ → ℕ) (count : ℕ) → ((i : ℕ) → i < count → Reached vs posts marks begin (set i)) → ((i : ℕ) → i < count → same_on vs (set i) 0 ≡ false)
        → ((i j : ℕ) → i < j → j < count → same_on vs (set i) (set j) ≡ false)
        → (m : ℕ) (next : ℕ → ℕ → Option ℕ) (accepts : ℕ → Bool) → Decides labels (In e) m next accepts → count ≤ m
    needs set count from live apart m next accepts d =
        as_many labels (In e) in_labels m next accepts d count (λ i b. (from i b).0) (λ i b. lives (set i) (from i b) (live i b))
        (λ i j b c l. aparts (set i) (set j) (from i b) (from j c) (apart i j l c))

    -- the walk to its end, and its cells
    module _ (walk : Walk) (o : walk_of posts marks begin ≡ Some walk) where
      walked : Walked vs posts marks begin 128 walk
      walked = subst (WalkedOrFull vs posts marks begin 128) o walked_or_full

      pub walked_few : walk.states ≤ 16
      walked_few = walked.few

      row_at : (q l : ℕ) → q < walk.states → l < 8
          → ((same_on vs (onward posts marks (set_at walk q) l) 0 ≡ true) × (get_or walk.next (q * 8 + l) 16 ≡ 16))
          ⊎ ((r : ℕ) × (get_or walk.next (q * 8 + l) 16 ≡ r) × (r < walk.states) × (same_on vs (set_at walk r) (onward posts marks (set_at walk q) l) ≡ true))
      row_at q l b h =
          let dq : (q * 8 + l) / 8 ≡ q = high q 3 h in
          let dl : (q * 8 + l) % 8 ≡ l = low q 3 h in
          let f = walked.few in
          ⊎_elim (λ x. inl x) (λ x. inr (next_at walk (q * 8 + l), refl, x.0, x.1))
          (rw (dq, dl) at (walked.rows (q * 8 + l) (omega arith) (rw dq b)))

      abbrev pub made : Rules
      made = record { states = walk.states; next = walk.next; accepts = tabulate (accept_cell walk.sets) 16 }

      -- by a listed label a state leads to the state of the set behind it, or to none if that is
      -- dead
      next_cases : (q l : ℕ) → q < walk.states → l < 8
          → ((next_in made q l ≡ none) × (same_on vs (onward posts marks (set_at walk q) l) 0 ≡ true))
          ⊎ ((r : ℕ) × (next_in made q l ≡ some r) × (r < walk.states) × (same_on vs (set_at walk r) (onward posts marks (set_at walk q) l) ≡ true))
      unfolding target
      next_cases q l b h =
          ⊎_elim (λ x. inl (next_is made q l h ∙ ap target x.1, x.0))
          (λ x. let (r, g, c, k) = x in let f = walked.few in
          let y : r < 16 = omega arith in inr (r, next_is made q l h ∙ ap target g ∙ target_low r y, c, k))
          (row_at q l b h)

      leads_cases : (w : List ℕ) (q s : ℕ) → q < walk.states → Over 8 w → same_on vs (set_at walk q) s ≡ true
          → ((leads_to (next_in made) q w ≡ none) × (same_on vs (set_after posts marks s w) 0 ≡ true))
          ⊎ ((r : ℕ) × (leads_to (next_in made) q w ≡ some r) × (r < walk.states) × (same_on vs (set_at walk r) (set_after posts marks s w) ≡ true))
      unfolding leads_to set_after
      leads_cases [] q s b ov h = inr (q, refl, b, h)
      leads_cases (l ∷ w) q s b ov h =
          let on = same_onward posts marks (set_at walk q) s l ov.0 h in
          ⊎_elim
          (λ x. inl (
            rw (x.0, leads_to),
            dead_after posts marks w (onward posts marks s l) ov.1
                (same_trans vs (onward posts marks s l) (onward posts marks (set_at walk q) l) 0 (same_sym vs (onward posts marks (set_at walk q) l) (onward posts marks s l) on) x.1),
          ))
          (λ x. let (r, g, c, k) = x in rw (g, leads_to)
          (leads_cases w r (onward posts marks s l) c ov.1 (same_trans vs (set_at walk r) (onward posts marks (set_at walk q) l) (onward posts marks s l) k on)))
          (next_cases q l b ov.0)

      accept_is : (q : ℕ) → q < 16 → accepts_in made q ≡ has (set_at walk q) 10
      unfolding accepts_in accept_cell
      accept_is q b = tabulate_at (accept_cell walk.sets) 16 q false b

      -- a state accepts exactly if the word is of the language
      accept_meets : (w : List ℕ) (r : ℕ) → r < walk.states → same_on vs (set_at walk r) (set_after posts marks begin w) ≡ true
          → accepts_in made r ≡ meets begin (vector_of posts marks w)
      unfolding vector_of
      accept_meets w r b h =
          accept_is r (let f = walked.few in omega arith)
          ∙ sym (meets_end posts marks (set_at walk r))
          ∙ same_elim vs (set_at walk r) (set_after posts marks begin w) h end_set (vector_in posts marks [] tt)
          ∙ meets_after posts marks begin w []
          ∙ ap (λ u. meets begin (vector_of posts marks u)) (append-nil w)

      pub table_decides : Decides labels (In e) walk.states (next_in made) (accepts_in made)
      unfolding vector_of
      table_decides = record {
        start = walked.some;
        inside = λ q l r b h g.
            ⊎_elim (λ x. absurd (let z : ◌≡◌ {A = ℕ} 0 1 = cc x.0 in omega arith))
            (λ x. let (r', k, c, y) = x in let z : r' ≡ r = cc in rw (← z) c) (next_cases q l b (omega arith));
        words = λ w ov. (forth w ov, back w ov);
      }
        where
          cases : (w : List ℕ) → Over labels w
              → ((leads_to (next_in made) 0 w ≡ none) × (same_on vs (set_after posts marks begin w) 0 ≡ true))
              ⊎ ((r : ℕ) × (leads_to (next_in made) 0 w ≡ some r) × (r < walk.states) × (same_on vs (set_at walk r) (set_after posts marks begin w) ≡ true))
          cases w ov = leads_cases w 0 begin walked.some (over_eight w ov) (rw walked.head (same_self vs begin))

          dead_out : (w : List ℕ) → same_on vs (set_after posts marks begin w) 0 ≡ true → meets begin (vector_of posts marks w) ≡ false
          dead_out w h =
              ap (λ u. meets begin (vector_of posts marks u)) (sym (append-nil w))
              ∙ sym (meets_after posts marks begin w [])
              ∙ same_elim vs (set_after posts marks begin w) 0 h end_set (vector_in posts marks [] tt)
              ∙ meets_nothing end_set

          forth : (w : List ℕ) → Over labels w → In e w → Accepted (next_in made) (accepts_in made) w
          forth w ov i =
              ⊎_elim (λ x. absurd (true_false (in_meets w i) (dead_out w x.1)))
              (λ x. let (r, g, b, h) = x in (r, g, accept_meets w r b h ∙ in_meets w i)) (cases w ov)

          back : (w : List ℕ) → Over labels w → Accepted (next_in made) (accepts_in made) w → In e w
          back w ov (f, g, a) =
              ⊎_elim (λ x. absurd (let z : ◌≡◌ {A = ℕ} 0 1 = cc x.0 in omega arith))
              (λ x. let (r, k, b, h) = x in let z : r ≡ f = cc in meets_in w (sym (accept_meets w r b h) ∙ (rw z a))) (cases w ov)

      pub table_fewest : (m : ℕ) (next : ℕ → ℕ → Option ℕ) (accepts : ℕ → Bool) → Decides labels (In e) m next accepts → walk.states ≤ m
      table_fewest m next accepts d = needs (set_at walk) walk.states walked.from walked.live walked.apart m next accepts d

      pub table_met : Met (take (walk.states * 8) walk.next) walk.states
      table_met = let f = walked.few in let z : min 128 (walk.states * 8) ≡ walk.states * 8 = omega arith in rw z at walked.met

    -- a seventeenth state was met
    sets : Walk → ℕ → ℕ → ℕ
    sets w t i = elim (ltb i 16) [ true ↦ set_at w i | false ↦ t ]

    pub table_over : walk_of posts marks begin ≡ None → (m : ℕ) (next : ℕ → ℕ → Option ℕ) (accepts : ℕ → Bool) → Decides labels (In e) m next accepts → 16 < m
    unfolding sets
    table_over o m next accepts d =
        let f : Full vs posts marks begin = subst (WalkedOrFull vs posts marks begin 128) o walked_or_full in
        let (way, live, others) = f.more in
        needs (sets f.walk f.set) 17 (from f way) (lively f live) (aparts17 f others) m next accepts d
      where
        sets_low : (w : Walk) (t i : ℕ) → i < 16 → set_at w i ≡ sets w t i
        sets_low w t i b = rw (lt-ltb i 16 b, sets)

        sets_top : (w : Walk) (t i : ℕ) → 16 ≤ i → t ≡ sets w t i
        sets_top w t i b = rw (le-ltb i 16 b, sets)

        low_or_top : (i : ℕ) → (i < 16) ⊎ (16 ≤ i)
        low_or_top i = ⊎_elim (λ h. inl (ltb-true i 16 h)) (λ h. inr (ltb-false i 16 h)) (Two (ltb i 16))

        from : (f : Full vs posts marks begin) → Reached vs posts marks begin f.set → (i : ℕ) → i < 17 → Reached vs posts marks begin (sets f.walk f.set i)
        from f way i b =
            let full = f.full in
            ⊎_elim (λ h. subst (Reached vs posts marks begin) (sets_low f.walk f.set i h) (f.walked.from i (omega arith)))
            (λ h. subst (Reached vs posts marks begin) (sets_top f.walk f.set i h) way) (low_or_top i)

        lively : (f : Full vs posts marks begin) → same_on vs f.set 0 ≡ false → (i : ℕ) → i < 17 → same_on vs (sets f.walk f.set i) 0 ≡ false
        lively f live i b =
            let full = f.full in
            ⊎_elim (λ h. subst (λ y. same_on vs y 0 ≡ false) (sets_low f.walk f.set i h) (f.walked.live i (omega arith)))
            (λ h. subst (λ y. same_on vs y 0 ≡ false) (sets_top f.walk f.set i h) live) (low_or_top i)

        aparts17 : (f : Full vs posts marks begin) → ((i : ℕ) → i < f.walk.states → same_on vs (set_at f.walk i) f.set ≡ false)
            → (i j : ℕ) → i < j → j < 17 → same_on vs (sets f.walk f.set i) (sets f.walk f.set j) ≡ false
        aparts17 f others i j l b =
            let w = f.walk in let t = f.set in let full = f.full in
            let g = sets_low w t i (omega arith) in
            ⊎_elim (λ h. subst (λ y. same_on vs (sets w t i) y ≡ false) (sets_low w t j h) (subst (λ y. same_on vs y (set_at w j) ≡ false) g (f.walked.apart i j l (omega arith))))
            (λ h. subst (λ y. same_on vs (sets w t i) y ≡ false) (sets_top w t j h) (subst (λ y. same_on vs y t ≡ false) g (others i (omega arith)))) (low_or_top j)
