-- The theorem behind `awaits`: an extension changes what a query sees exactly where it may add at a followed place. Assumes nothing; that the reached
-- paths and the entries of a graph are finitely many, and that *preferred* is decided, are parameters here and proved in Nodes and Entries.
use Prim.Native.Nat.{ℕ, ◌≤◌, ◌<◌}
use native.Mathlib.Omega.{arith}
use mathlib.Core.Path.{◌≡◌, refl, ap}
use mathlib.Core.Logic.{◌⊎◌, inl, inr, ⊎_elim}
use mathlib.Core.List.Memᴰ
use mathlib.Core.List.{List, [], ◌∷◌, ◌++◌}
use Rattle.scope_graph.specs.Language.{◌∈◌, End, Language}
use Rattle.scope_graph.specs.Graph.{Graph, InRange, Query}
use Rattle.scope_graph.specs.Path.{Hop, Path, tos, last_from, Along, Leads, word, Reached}
use Rattle.scope_graph.specs.Completion.{Extension}
use Rattle.scope_graph.proofs.Lists.{here, there}

-- every element has one property, or one of them has another
pub all_or : {A : Type 0} {P : A → Type 0} {B : Type 0} (l : List A) → ((a : A) → a ∈ l → P a ⊎ B) → ((a : A) → a ∈ l → P a) ⊎ B
all_or [] f = inl (λ a m. absurd (Memᴰ.not-nil m))
all_or {A} {P} {B} (x ∷ l) f = join (f x here) (all_or l (λ a m. f a (there m)))
  where
    join : P x ⊎ B → (((a : A) → a ∈ l → P a) ⊎ B) → ((a : A) → a ∈ (x ∷ l) → P a) ⊎ B
    join (inr b) r = inr b
    join (inl p) (inr b) = inr b
    join (inl p) (inl r) = inl (λ a m. ⊎_elim (λ e. rw e p) (λ k. r a k) (Memᴰ.cases_cons m))

module _ (L : Language) where
  -- hops one after the other
  pub along_join : (g : Graph L) (s : ℕ) (p c : List (Hop L)) → Along L g s p → Along L g (last_from s p) c → Along L g s (p ++ c)
  along_join g s [] c h k = k
  along_join g s (x ∷ p) c h k = (h.0, along_join g x.to p c h.1 k)

  pub along_second : (g : Graph L) (s : ℕ) (p c : List (Hop L)) → Along L g s (p ++ c) → Along L g (last_from s p) c
  along_second g s [] c h = h
  along_second g s (x ∷ p) c h = along_second g x.to p c h.1

  pub leads_join : (a b r : ℕ) (p c : List (Hop L)) → Leads L a (word L p) b → Leads L b (word L c) r → Leads L a (word L (p ++ c)) r
  leads_join a b r [] c h k = rw h k
  leads_join a b r (x ∷ p) c h k = (h.0, h.1, leads_join h.0 b r p c h.2 k)

  pub last_join : (s : ℕ) (p c : List (Hop L)) → last_from s (p ++ c) ≡ last_from (last_from s p) c
  last_join s [] c = refl
  last_join s (x ∷ p) c = last_join x.to p c

  pub tos_join : (p c : List (Hop L)) → tos L (p ++ c) ≡ tos L p ++ tos L c
  tos_join [] c = refl
  tos_join (x ∷ p) c = ap (λ (z : List ℕ). x.to ∷ z) (tos_join p c)

  -- along the edges of a graph one stays among its scopes
  module _ (g : Graph L) (range : InRange L g) where
    pub last_in : (s : ℕ) (p : List (Hop L)) → s < g.scopes → Along L g s p → last_from s p < g.scopes
    last_in s [] h k = h
    last_in s (x ∷ p) h k = last_in x.to p (range.to_scope _ k.0) k.1

    pub tos_in : (s : ℕ) (p : List (Hop L)) → Along L g s p → (t : ℕ) → t ∈ tos L p → t < g.scopes
    tos_in s [] k t m = absurd (Memᴰ.not-nil m)
    tos_in s (x ∷ p) k t m =
        ⊎_elim (λ e. rw e (range.to_scope _ k.0)) (λ n. tos_in x.to p k.1 t n) (Memᴰ.cases_cons m)

    -- so no path goes by a scope past the last
    pub no_new : (s : ℕ) (p : List (Hop L)) (h : Hop L) (c : List (Hop L)) → Along L g s (p ++ (h ∷ c)) → g.scopes ≤ h.to → ⊥
    no_new s p h c k le = let w = range.to_scope _ (along_second g s p (h ∷ c) k).0 in omega arith

  -- all that a graph has, it still has
  module _ (Allowed : ℕ → End L.Step → Type 0) (g h : Graph L) (ext : Extension L Allowed g h) where
    pub along_kept : (s : ℕ) (p : List (Hop L)) → Along L g s p → Along L h s p
    along_kept s [] k = tt
    along_kept s (x ∷ p) k = (ext.edges_kept _ k.0, along_kept x.to p k.1)

    pub reached_kept : (q : Query L) (p : Path L) → Reached L g q p → Reached L h q p
    reached_kept q p r = record {
      from_start = r.from_start;
      path = record {
        starts = let a = r.path.starts in let b = ext.scopes_kept in omega arith;
        along = along_kept p.start p.hops r.path.along;
        simple = r.path.simple;
      };
      lawful = r.lawful;
      mark = r.mark;
      declared = ext.declarations_kept _ r.declared;
    }
