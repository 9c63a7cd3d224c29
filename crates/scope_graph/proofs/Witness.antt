-- A followed place makes a difference: where a row may come there, one completion that adds there,
-- and otherwise only at new scopes, shows the query something new. Assumes nothing; the parameters
-- are those of Changes.
use Prim.Native.Nat.{ℕ, suc, ◌+◌, ◌≤◌, ◌<◌}
use native.Mathlib.Omega.{arith}
use mathlib.Core.Path.{◌≡◌, refl, sym, ap, ◌∙◌}
use mathlib.Core.Logic.{◌↔◌, ◌⊎◌, inl, inr, ⊎_elim}
use mathlib.Core.List.Memᴰ
use mathlib.Core.List.{List, [], ◌∷◌, ◌++◌}
use lib.ListN.{length}
use Rattle.scope_graph.specs.Language.{◌∈◌, End, stop, by, Language, Laws}
use Rattle.scope_graph.specs.Graph.{Edge, Declaration, Graph, InRange, Query}
use Rattle.scope_graph.specs.Path.{Distinct, Hop, PathRow, tos, last_from, Along, Leads, word, Declares, Reached, Entry}
use Rattle.scope_graph.specs.Completion.{Extension, SameEntries}
use Rattle.scope_graph.specs.Followed.{Preferred, Followed}
use Rattle.scope_graph.proofs.Lists.{here, there}
use Rattle.scope_graph.proofs.Order.{preferred_split}
use Rattle.scope_graph.proofs.Extension.{along_join, leads_join, last_join, tos_join, last_in, tos_in, no_new}
use Rattle.scope_graph.proofs.Changes.{route, down, entry_of, Down}

-- a mark above all marks of the list
fresh : {L : Language} → List (Declaration L) → ℕ
fresh [] = 0
fresh (d ∷ ds) = suc (d.mark + fresh ds)

fresh_above : {L : Language} (ds : List (Declaration L)) (d : Declaration L) → d ∈ ds → d.mark < fresh ds
unfolding fresh
fresh_above [] d m = absurd (Memᴰ.not-nil m)
fresh_above (x ∷ ds) d m =
    ⊎_elim (λ e. let k = ap (λ (z : Declaration _). z.mark) e in omega arith) (λ n. let k = fresh_above ds d n in omega arith) (Memᴰ.cases_cons m)

module _ (L : Language) where
  -- an extension by one declaration at a place, and by edges to new scopes, in which a path to that
  -- place is reached, and no path that g reaches is preferred to it
  pub record Shown (Allowed : ℕ → End L.Step → Type 0) (g : Graph L) (q : Query L) : Type 0 where
    pub graph : Graph L
    pub extends : Extension L Allowed g graph
    pub place : ℕ
    pub mark : ℕ
    pub declarations : graph.declarations ≡ record { at = place; name = q.name; mark = mark } ∷ g.declarations
    pub new : ¬ (record { at = place; name = q.name; mark = mark } ∈ g.declarations)
    pub edges : (e : Edge L) → e ∈ graph.edges → (g.scopes ≤ e.to) ⊎ (e ∈ g.edges)
    pub hops : List (Hop L)
    pub reached : Reached L graph q (record { start = q.start; hops = hops })
    pub ends : last_from q.start hops ≡ place
    pub uncut : (r : List (Hop L)) → Reached L g q (record { start = q.start; hops = r }) → ¬ Preferred L r hops stop

  -- a chain of new scopes from n on, one for each label of a word: its edges and its hops
  chain_edges : ℕ → List ℕ → List (Edge L)
  chain_edges n [] = []
  chain_edges n (l ∷ ls) = record { from = n; step = L.strongest [] l; to = suc n } ∷ chain_edges (suc n) ls

  chain_hops : ℕ → List ℕ → List (Hop L)
  chain_hops n [] = []
  chain_hops n (l ∷ ls) = record { step = L.strongest [] l; to = suc n } ∷ chain_hops (suc n) ls

  chain_between : (n : ℕ) (ls : List ℕ) (e : Edge L) → e ∈ chain_edges n ls → (n ≤ e.from) × (e.from < n + length ls) × (n < e.to) × (e.to ≤ n + length ls)
  unfolding chain_edges
  chain_between n [] e m = absurd (Memᴰ.not-nil m)
  chain_between n (l ∷ ls) e m =
      ⊎_elim
      (λ w. let a = ap (λ (z : Edge L). z.from) w in let b = ap (λ (z : Edge L). z.to) w in (omega arith, omega arith, omega arith, omega arith))
      (λ w. let k = chain_between (suc n) ls e w in (omega arith, omega arith, omega arith, omega arith))
      (Memᴰ.cases_cons m)

  -- an edge of the chain is known by where it comes to
  chain_one : (n : ℕ) (ls : List ℕ) (e f : Edge L) → e ∈ chain_edges n ls → f ∈ chain_edges n ls → e.to ≡ f.to → e.step ≡ f.step
  unfolding chain_edges
  chain_one n [] e f m w h = absurd (Memᴰ.not-nil m)
  chain_one n (l ∷ ls) e f m w h =
      ⊎_elim
      (λ a. ⊎_elim (λ b. ap (λ (z : Edge L). z.step) (a ∙ sym b))
      (λ b. let k = chain_between (suc n) ls f b in let j = ap (λ (z : Edge L). z.to) a in absurd (omega arith)) (Memᴰ.cases_cons w))
      (λ a. ⊎_elim
      (λ b. let k = chain_between (suc n) ls e a in let j = ap (λ (z : Edge L). z.to) b in absurd (omega arith))
      (λ b. chain_one (suc n) ls e f a b h) (Memᴰ.cases_cons w))
      (Memᴰ.cases_cons m)

  chain_along : (g : Graph L) (n : ℕ) (ls : List ℕ) → ((e : Edge L) → e ∈ chain_edges n ls → e ∈ g.edges) → Along L g n (chain_hops n ls)
  unfolding chain_edges chain_hops
  chain_along g n [] h = tt
  chain_along g n (l ∷ ls) h = (h _ here, chain_along g (suc n) ls (λ e m. h e (there m)))

  chain_last : (n : ℕ) (ls : List ℕ) → last_from n (chain_hops n ls) ≡ n + length ls
  unfolding chain_hops
  chain_last n [] = omega arith
  chain_last n (l ∷ ls) = chain_last (suc n) ls ∙ omega arith

  chain_above : (n : ℕ) (ls : List ℕ) (t : ℕ) → t ∈ tos L (chain_hops n ls) → n < t
  unfolding chain_hops
  chain_above n [] t m = absurd (Memᴰ.not-nil m)
  chain_above n (l ∷ ls) t m =
      ⊎_elim (λ e. omega arith) (λ k. let w = chain_above (suc n) ls t k in omega arith) (Memᴰ.cases_cons m)

  chain_distinct : (n : ℕ) (ls : List ℕ) → Distinct (n ∷ tos L (chain_hops n ls))
  unfolding chain_hops
  chain_distinct n [] = ((λ m. Memᴰ.not-nil m), tt)
  chain_distinct n (l ∷ ls) = ((λ m. let k = chain_above n (l ∷ ls) n m in omega arith), chain_distinct (suc n) ls)

  -- two lists with no element in common
  distinct_join : (a c : List ℕ) → Distinct a → Distinct c → ((t : ℕ) → t ∈ a → t ∈ c → ⊥) → Distinct (a ++ c)
  distinct_join [] c h k d = k
  distinct_join (x ∷ a) c h k d =
      ((λ m. ⊎_elim (λ w. h.0 w) (λ w. d x here w) (Memᴰ.append_cases a m)), distinct_join a c h.1 k (λ t w z. d t (there w) z))

  module _ (laws : Laws L) where
    chain_leads : (q f n : ℕ) (ls : List ℕ) → Leads L q ls f → Leads L q (word L (chain_hops n ls)) f
    unfolding chain_hops
    chain_leads q f n [] h = h
    chain_leads q f n (l ∷ ls) h = (h.0, rw (laws.strongest_label [] l) h.1, chain_leads h.0 f (suc n) ls h.2)

    chain_listed : (q f n : ℕ) (ls : List ℕ) → Leads L q ls f → (e : Edge L) → e ∈ chain_edges n ls → L.label e.step < L.labels
    unfolding chain_edges
    chain_listed q f n [] h e m = absurd (Memᴰ.not-nil m)
    chain_listed q f n (l ∷ ls) h e m =
        ⊎_elim
        (λ w.
        let k : L.label e.step ≡ l = ap (λ (z : Edge L). L.label z.step) w ∙ laws.strongest_label [] l in
        let b = laws.next_label q l h.0 h.1 in omega arith)
        (λ w. chain_listed h.0 f (suc n) ls h.2 e w)
        (Memᴰ.cases_cons m)

    chain_carried : (n : ℕ) (ls : List ℕ) (e : Edge L) → e ∈ chain_edges n ls → L.Carried e.step
    unfolding chain_edges
    chain_carried n [] e m = absurd (Memᴰ.not-nil m)
    chain_carried n (l ∷ ls) e m = ⊎_elim (λ w. rw w (laws.strongest_carried [] l)) (λ w. chain_carried (suc n) ls e w) (Memᴰ.cases_cons m)

    module _ (q : Query L)
        (decided : (r p : List (Hop L)) → Dec (Preferred L r p stop))
        (reached_list : (g : Graph L) → InRange L g → q.start < g.scopes
        → (rs : List (List (Hop L))) × ((r : List (Hop L)) → (r ∈ rs) ↔ Reached L g q (route L laws q r)))
        (entry_list : (g : Graph L) → InRange L g → q.start < g.scopes
        → (rs : List (PathRow L)) × ((r : PathRow L) → (r ∈ rs) ↔ Entry L g q r))
        (g : Graph L) (range : InRange L g) (starts : q.start < g.scopes) where
      -- a reached path p of an extension h, of which every path that g reaches and that is
      -- preferred to it, and p itself with one of its marks, is a contradiction: then h shows
      -- something else
      changed : (h : Graph L) → InRange L h → q.start < h.scopes → (p : List (Hop L)) (reached : Reached L h q (route L laws q p))
          → ¬ Entry L g q (record { mark = reached.mark; path = route L laws q p })
          → ((r : List (Hop L)) → Reached L g q (route L laws q r) → ¬ Preferred L r p stop)
          → ¬ SameEntries L q g h
      changed h h-range h_starts p reached fresh uncut same = by_cases d.which
        where
          d : Down L laws q decided reached_list entry_list h p
          d = down L laws q decided reached_list entry_list h h-range h_starts p reached

          by_cases : (d.hops ≡ p) ⊎ Preferred L d.hops p stop → ⊥
          by_cases (inl e) = fresh ((same _).1 (record { visible = rw e at d.visible; declared = reached.declared }))
          by_cases (inr w) =
              uncut d.hops
              ((same _).1 (entry_of L laws q decided reached_list entry_list h d.hops d.visible)).visible.reached w

      -- one declaration more, with a mark that none has
      module _ (s : ℕ) (fo : Followed L g q s stop) where
        new : Declaration L
        new = record { at = s; name = q.name; mark = fresh g.declarations }

        declared : Graph L
        declared = record { scopes = g.scopes; edges = g.edges; declarations = new ∷ g.declarations }

        old_scope : s < g.scopes
        old_scope = rw fo.comes at (last_in L g range q.start fo.hops starts fo.path.along)

        declared_range : InRange L declared
        unfolding declared new
        declared_range = record {
          from_scope = range.from_scope;
          to_scope = range.to_scope;
          listed = range.listed;
          carried = range.carried;
          at_scope = λ d m.
              ⊎_elim (λ e. let k : d.at ≡ s = ap (λ (z : Declaration L). z.at) e in rw k old_scope)
              (λ w. range.at_scope d w) (Memᴰ.cases_cons m);
          together = range.together;
        }

        declared_extends : (Allowed : ℕ → End L.Step → Type 0) → Allowed s stop → Extension L Allowed g declared
        unfolding declared new
        declared_extends Allowed a = record {
          scopes_kept = omega arith;
          edges_kept = λ e m. m;
          declarations_kept = λ d m. there m;
          new_edge = λ e m. inl m;
          new_declaration = λ d m.
              ⊎_elim (λ e. let k : d.at ≡ s = ap (λ (z : Declaration L). z.at) e in inr (inr (rw k a)))
              (λ w. inl w) (Memᴰ.cases_cons m);
          in_range = declared_range;
        }

        declared_reached : Reached L declared q (route L laws q fo.hops)
        unfolding declared new
        declared_reached = record {
          from_start = refl;
          path = record { starts = starts; along = same_edges q.start fo.hops fo.path.along; simple = fo.path.simple };
          lawful = record { final = fo.state; leads = fo.leads; accepted = fo.usable };
          mark = fresh g.declarations;
          declared = rw fo.comes here;
        }
          where
            same_edges : (t : ℕ) (p : List (Hop L)) → Along L g t p → Along L declared t p
            same_edges t [] k = tt
            same_edges t (x ∷ p) k = (k.0, same_edges x.to p k.1)

        declared_changes : ¬ SameEntries L q g declared
        unfolding declared_reached declared new
        declared_changes =
            changed declared declared_range starts fo.hops declared_reached
            (λ en. let k = fresh_above g.declarations _ en.declared in omega arith)
            fo.uncut

      -- one edge more at an old scope, then a chain of new scopes along a word to acceptance, the
      -- last of which declares the name
      module _ (s : ℕ) (t : L.Step) (may : L.Carried t) (fo : Followed L g q s (by t)) where
        ls : List ℕ
        ls = fo.usable.2

        hop : Hop L
        hop = record { step = t; to = g.scopes }

        edge : Edge L
        edge = record { from = s; step = t; to = g.scopes }

        rest : List (Hop L)
        rest = hop ∷ chain_hops g.scopes ls

        grown : Graph L
        grown = record {
          scopes = suc (g.scopes + length ls);
          edges = edge ∷ (chain_edges g.scopes ls ++ g.edges);
          declarations = record { at = g.scopes + length ls; name = q.name; mark = 0 } ∷ g.declarations;
        }

        old : s < g.scopes
        old = rw fo.comes at (last_in L g range q.start fo.hops starts fo.path.along)

        -- the edges of grown: the new one, the chain's, and g's
        data Kind (e : Edge L) : Type 0 where
          first : e ≡ edge → Kind e
          chain : e ∈ chain_edges g.scopes ls → Kind e
          kept : e ∈ g.edges → Kind e

        kind : (e : Edge L) → e ∈ grown.edges → Kind e
        unfolding grown
        kind e m =
            ⊎_elim (λ w. first w) (λ w. ⊎_elim (λ z. chain z) (λ z. kept z) (Memᴰ.append_cases (chain_edges g.scopes ls) w))
            (Memᴰ.cases_cons m)

        between : (e : Edge L) → Kind e → (e.from < suc (g.scopes + length ls)) × (e.to < suc (g.scopes + length ls))
        unfolding edge
        between e (first w) =
            let a = ap (λ (z : Edge L). z.from) w in let b = ap (λ (z : Edge L). z.to) w in let o = old in (omega arith, omega arith)
        between e (chain w) = let k = chain_between g.scopes ls e w in (omega arith, omega arith)
        between e (kept w) = let a = range.from_scope e w in let b = range.to_scope e w in (omega arith, omega arith)

        listed : (e : Edge L) → Kind e → L.label e.step < L.labels
        unfolding edge ls
        listed e (first w) =
            let k : L.label e.step ≡ L.label t = ap (λ (z : Edge L). L.label z.step) w in
            let b = laws.next_label fo.state (L.label t) fo.usable.0 fo.usable.1 in omega arith
        listed e (chain w) = chain_listed fo.usable.0 fo.usable.3 g.scopes ls fo.usable.4 e w
        listed e (kept w) = range.listed e w

        borne : (e : Edge L) → Kind e → L.Carried e.step
        unfolding edge
        borne e (first w) = rw w may
        borne e (chain w) = chain_carried g.scopes ls e w
        borne e (kept w) = range.carried e w

        -- new edges come to new scopes, each to another
        to_new_lem : (e : Edge L) → Kind e → (g.scopes ≤ e.to) ⊎ (e ∈ g.edges)
        unfolding edge
        to_new_lem e (first w) = let b = ap (λ (z : Edge L). z.to) w in inl (omega arith)
        to_new_lem e (chain w) = let k = chain_between g.scopes ls e w in inl (omega arith)
        to_new_lem e (kept w) = inr w

        alike : (e f : Edge L) → e.step ≡ f.step → L.Together e.step f.step
        alike e f h = rw h (laws.together_self f.step)

        together : (e f : Edge L) → Kind e → Kind f → e.from ≡ f.from → e.to ≡ f.to → L.Together e.step f.step
        unfolding edge
        together e f (first a) (first b) h k = alike e f (ap (λ (z : Edge L). z.step) (a ∙ sym b))
        together e f (first a) (chain b) h k =
            let x = ap (λ (z : Edge L). z.to) a in let y = chain_between g.scopes ls f b in absurd (omega arith)
        together e f (first a) (kept b) h k =
            let x = ap (λ (z : Edge L). z.to) a in let y = range.to_scope f b in absurd (omega arith)
        together e f (chain a) (first b) h k =
            let x = ap (λ (z : Edge L). z.to) b in let y = chain_between g.scopes ls e a in absurd (omega arith)
        together e f (chain a) (chain b) h k = alike e f (chain_one g.scopes ls e f a b k)
        together e f (chain a) (kept b) h k =
            let x = chain_between g.scopes ls e a in let y = range.to_scope f b in absurd (omega arith)
        together e f (kept a) (first b) h k =
            let x = ap (λ (z : Edge L). z.to) b in let y = range.to_scope e a in absurd (omega arith)
        together e f (kept a) (chain b) h k =
            let x = chain_between g.scopes ls f b in let y = range.to_scope e a in absurd (omega arith)
        together e f (kept a) (kept b) h k = range.together e f a b h k

        grown_range : InRange L grown
        unfolding grown
        grown_range = record {
          from_scope = λ e m. (between e (kind e m)).0;
          to_scope = λ e m. (between e (kind e m)).1;
          listed = λ e m. listed e (kind e m);
          carried = λ e m. borne e (kind e m);
          at_scope = λ d m.
              ⊎_elim (λ w. let k : d.at ≡ g.scopes + length ls = ap (λ (z : Declaration L). z.at) w in omega arith)
              (λ w. let k = range.at_scope d w in omega arith) (Memᴰ.cases_cons m);
          together = λ e f m n. together e f (kind e m) (kind f n);
        }

        grown_extends : (Allowed : ℕ → End L.Step → Type 0) → Allowed s (by t) → Extension L Allowed g grown
        unfolding grown edge
        grown_extends Allowed a = record {
          scopes_kept = omega arith;
          edges_kept = λ e m. there (Memᴰ.append_right (chain_edges g.scopes ls) m);
          declarations_kept = λ d m. there m;
          new_edge = λ e m. by_kind e (kind e m);
          new_declaration = λ d m.
              ⊎_elim (λ w. let k : d.at ≡ g.scopes + length ls = ap (λ (z : Declaration L). z.at) w in inr (inl (omega arith)))
              (λ w. inl w) (Memᴰ.cases_cons m);
          in_range = grown_range;
        }
          where
            by_kind : (e : Edge L) → Kind e → (e ∈ g.edges) ⊎ ((g.scopes ≤ e.from) ⊎ Allowed e.from (by e.step))
            by_kind e (first w) = inr (inr (rw w a))
            by_kind e (chain w) = let k = chain_between g.scopes ls e w in inr (inl (omega arith))
            by_kind e (kept w) = inl w

        path : List (Hop L)
        path = fo.hops ++ rest

        grown_along : Along L grown q.start path
        unfolding grown path rest hop edge
        grown_along =
            along_join L grown q.start fo.hops rest (keeps q.start fo.hops fo.path.along)
            (rw fo.comes here, chain_along grown g.scopes ls (λ e m. there (Memᴰ.append_left g.edges m)))
          where
            keeps : (n : ℕ) (p : List (Hop L)) → Along L g n p → Along L grown n p
            keeps n [] k = tt
            keeps n (x ∷ p) k = (there (Memᴰ.append_right (chain_edges g.scopes ls) k.0), keeps x.to p k.1)

        grown_simple : Distinct (q.start ∷ tos L path)
        unfolding path rest hop
        grown_simple =
            rw (tos_join L fo.hops rest)
            (distinct_join (q.start ∷ tos L fo.hops) (g.scopes ∷ tos L (chain_hops g.scopes ls)) fo.path.simple
            (chain_distinct g.scopes ls) (λ n a b. apart n (low n (Memᴰ.cases_cons a)) (Memᴰ.cases_cons b)))
          where
            low : (n : ℕ) → (n ≡ q.start) ⊎ (n ∈ tos L fo.hops) → n < g.scopes
            low n (inl e) = rw e starts
            low n (inr m) = tos_in L g range q.start fo.hops fo.path.along n m

            apart : (n : ℕ) → n < g.scopes → (n ≡ g.scopes) ⊎ (n ∈ tos L (chain_hops g.scopes ls)) → ⊥
            apart n h (inl e) = omega arith
            apart n h (inr m) = let k = chain_above g.scopes ls n m in omega arith

        grown_starts : q.start < grown.scopes
        unfolding grown
        grown_starts = omega arith

        grown_last : last_from q.start path ≡ g.scopes + length ls
        unfolding path rest hop
        grown_last = last_join L q.start fo.hops rest ∙ chain_last g.scopes ls

        lawfully : Leads L 0 (word L path) fo.usable.3
        unfolding path rest hop ls
        lawfully =
            leads_join L 0 fo.state fo.usable.3 fo.hops rest fo.leads
            (fo.usable.0, fo.usable.1, chain_leads fo.usable.0 fo.usable.3 g.scopes ls fo.usable.4)

        declares : Declares L grown (last_from q.start path) q.name 0
        unfolding grown
        declares = rw grown_last here

        grown_reached : Reached L grown q (route L laws q path)
        grown_reached = record {
          from_start = refl;
          path = record { starts = grown_starts; along = grown_along; simple = grown_simple };
          lawful = record { final = fo.usable.3; leads = lawfully; accepted = fo.usable.5 };
          mark = 0;
          declared = declares;
        }

        -- g has no path by the new scope
        not_in_g : (c : List (Hop L)) → Along L g q.start (fo.hops ++ (hop ∷ c)) → ⊥
        unfolding hop
        not_in_g c k = no_new L g range q.start fo.hops hop c k (omega arith)

        fresh_path : (m : ℕ) → ¬ Entry L g q (record { mark = m; path = route L laws q path })
        unfolding path rest
        fresh_path m en = not_in_g (chain_hops g.scopes ls) en.visible.reached.path.along

        cut_off : (r : List (Hop L)) → Reached L g q (route L laws q r) → ¬ Preferred L r path stop
        unfolding path rest hop
        cut_off r k w =
            ⊎_elim (λ m. fo.uncut r k m) (λ m. not_in_g m.0 (rw m.1 at k.path.along))
            (preferred_split L laws r fo.hops hop (chain_hops g.scopes ls) stop w)

        grown_changes : ¬ SameEntries L q g grown
        grown_changes = changed grown grown_range grown_starts path grown_reached (fresh_path grown_reached.mark) cut_off

      -- where a followed place may get a row, an extension shows the query something else
      abbrev pub MayCome : End L.Step → Type 0
      MayCome stop = Unit {0}
      MayCome (by t) = L.Carried t

      pub followed_changes : (Allowed : ℕ → End L.Step → Type 0) (s : ℕ) (e : End L.Step) → Allowed s e → MayCome e → Followed L g q s e
          → (h : Graph L) × Extension L Allowed g h × (¬ SameEntries L q g h)
      followed_changes Allowed s stop a c fo = (declared s fo, declared_extends s fo Allowed a, declared_changes s fo)
      followed_changes Allowed s (by t) a c fo = (grown s t c fo, grown_extends s t c fo Allowed a, grown_changes s t c fo)

      -- the same two graphs, with all that is known of them
      pub followed_shown : (Allowed : ℕ → End L.Step → Type 0) (s : ℕ) (e : End L.Step) → Allowed s e → MayCome e → Followed L g q s e
          → Shown Allowed g q
      unfolding declared new grown
      followed_shown Allowed s stop a c fo = record {
        graph = declared s fo;
        extends = declared_extends s fo Allowed a;
        place = s;
        mark = fresh g.declarations;
        declarations = refl;
        new = λ m. let k = fresh_above g.declarations _ m in omega arith;
        edges = λ e m. inr m;
        hops = fo.hops;
        reached = declared_reached s fo;
        ends = fo.comes;
        uncut = fo.uncut;
      }
      followed_shown Allowed s (by t) a c fo = record {
        graph = grown s t c fo;
        extends = grown_extends s t c fo Allowed a;
        place = g.scopes + length (ls s t c fo);
        mark = 0;
        declarations = refl;
        new = λ m. let k = range.at_scope _ m in omega arith;
        edges = λ e m. to_new_lem s t c fo e (kind s t c fo e m);
        hops = path s t c fo;
        reached = grown_reached s t c fo;
        ends = grown_last s t c fo;
        uncut = cut_off s t c fo;
      }
