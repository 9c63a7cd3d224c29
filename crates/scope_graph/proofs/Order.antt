-- *More specific* is a strict order, and its form by recursion on the hops is the plain reading of document 01. Assumes nothing.
use mathlib.Core.Path.{◌≡◌, refl, sym, ap, ◌∙◌}
use mathlib.Core.Bool.{true}
use mathlib.Core.Option.{some-ne-none, none-ne-some, some-injective}
use mathlib.Core.Logic.{◌↔◌, ◌⊎◌, inl, inr, ⊎_elim}
use mathlib.Core.List.{List, [], ◌∷◌, ◌++◌}
use Rattle.scope_graph.specs.Language.{End, stop, by, Language, Laws}
use Rattle.scope_graph.specs.Path.{Hop, Path, MoreSpecific, onward, first}
use Rattle.scope_graph.specs.Followed.{Preferred}
use Rattle.scope_graph.proofs.Lists.{true_false}

module _ (L : Language) (laws : Laws L) where
  -- two hop lists that share a first part and then differ, the first by a preferred end
  pub record Parted (r p : List (Hop L)) : Type 0 where
    pub shared : List (Hop L)
    pub r_rest : List (Hop L)
    pub p_rest : List (Hop L)
    pub r_is : r ≡ shared ++ r_rest
    pub p_is : p ≡ shared ++ p_rest
    pub differ : ¬ (first L r_rest ≡ first L p_rest)
    pub preferred : L.prefers (onward L r_rest) (onward L p_rest) ≡ true

  same_end_lem : {e f : End L.Step} → e ≡ f → L.prefers e f ≡ true → ⊥
  same_end_lem {e} {f} h k = true_false (rw h at k) (laws.irreflexive f)

  -- a hop that is shared
  longer : {h k : Hop L} {r p : List (Hop L)} → h ≡ k → Parted r p → Parted (h ∷ r) (k ∷ p)
  longer {h} {k} {r} {p} e d = record {
    shared = h ∷ d.shared;
    r_rest = d.r_rest;
    p_rest = d.p_rest;
    r_is = ap (λ (z : List (Hop L)). h ∷ z) d.r_is;
    p_is = ap (λ (z : Hop L). z ∷ p) (sym e) ∙ ap (λ (z : List (Hop L)). h ∷ z) d.p_is;
    differ = d.differ;
    preferred = d.preferred;
  }

  -- they differ at once
  apart : (r p : List (Hop L)) → L.prefers (onward L r) (onward L p) ≡ true → Parted r p
  apart r p h = record
      { shared = []; r_rest = r; p_rest = p; r_is = refl; p_is = refl; differ = differ r p h; preferred = h }
    where
      differ : (r p : List (Hop L)) → L.prefers (onward L r) (onward L p) ≡ true → ¬ (first L r ≡ first L p)
      differ [] [] h e = same_end_lem refl h
      differ [] (k ∷ p) h e = none-ne-some k e
      differ (k ∷ r) [] h e = some-ne-none k e
      differ (j ∷ r) (k ∷ p) h e = same_end_lem (ap (λ (z : Hop L). by z.step) (some-injective j k e)) h

  parted : (r p : List (Hop L)) → Preferred L r p stop → Parted r p
  parted [] [] h = apart [] [] h
  parted [] (k ∷ p) h = apart [] (k ∷ p) h
  parted (j ∷ r) [] h = apart (j ∷ r) [] h
  parted (j ∷ r) (k ∷ p) (inl h) = apart (j ∷ r) (k ∷ p) h
  parted (j ∷ r) (k ∷ p) (inr h) = longer h.0 (parted r p h.1)

  at_once : (r p : List (Hop L)) → L.prefers (onward L r) (onward L p) ≡ true → Preferred L r p stop
  at_once [] [] h = h
  at_once [] (k ∷ p) h = h
  at_once (j ∷ r) [] h = h
  at_once (j ∷ r) (k ∷ p) h = inl h

  behind : (s r p : List (Hop L)) → Preferred L r p stop → Preferred L (s ++ r) (s ++ p) stop
  behind [] r p h = h
  behind (k ∷ s) r p h = inr (refl, behind s r p h)

  pub recursive : (r p : Path L) → r.start ≡ p.start → Preferred L r.hops p.hops stop ↔ MoreSpecific L r p
  recursive r p e = (
    λ h. let d = parted r.hops p.hops h in record {
      same_start = e;
      shared = d.shared;
      p_rest = d.r_rest;
      r_rest = d.p_rest;
      p_is = d.r_is;
      r_is = d.p_is;
      differ = d.differ;
      preferred = d.preferred;
    },
    λ m. rw (m.p_is, m.r_is) (behind m.shared m.p_rest m.r_rest (at_once m.p_rest m.r_rest m.preferred)),
  )

  pub preferred_irreflexive : (r : List (Hop L)) → ¬ Preferred L r r stop
  preferred_irreflexive [] h = same_end_lem refl h
  preferred_irreflexive (k ∷ r) (inl h) = same_end_lem refl h
  preferred_irreflexive (k ∷ r) (inr h) = preferred_irreflexive r h.1

  pub preferred_transitive : (r p t : List (Hop L)) → Preferred L r p stop → Preferred L p t stop → Preferred L r t stop
  preferred_transitive [] [] t h k = absurd (same_end_lem refl h)
  preferred_transitive [] (y ∷ p) [] h k = laws.transitive _ _ _ h k
  preferred_transitive [] (y ∷ p) (z ∷ t) h (inl k) = laws.transitive _ _ _ h k
  preferred_transitive [] (y ∷ p) (z ∷ t) h (inr k) = rw k.0 at h
  preferred_transitive (x ∷ r) [] [] h k = absurd (same_end_lem refl k)
  preferred_transitive (x ∷ r) [] (z ∷ t) h k = inl (laws.transitive _ _ _ h k)
  preferred_transitive (x ∷ r) (y ∷ p) [] (inl h) k = laws.transitive _ _ _ h k
  preferred_transitive (x ∷ r) (y ∷ p) [] (inr h) k = rw h.0 k
  preferred_transitive (x ∷ r) (y ∷ p) (z ∷ t) (inl h) (inl k) = inl (laws.transitive _ _ _ h k)
  preferred_transitive (x ∷ r) (y ∷ p) (z ∷ t) (inl h) (inr k) = inl (rw k.0 at h)
  preferred_transitive (x ∷ r) (y ∷ p) (z ∷ t) (inr h) (inl k) = inl (rw h.0 k)
  preferred_transitive (x ∷ r) (y ∷ p) (z ∷ t) (inr h) (inr k) = inr (h.0 ∙ k.0, preferred_transitive r p t h.1 k.1)

  pub irreflexive : (p : Path L) → ¬ MoreSpecific L p p
  irreflexive p m = preferred_irreflexive p.hops ((recursive p p refl).1 m)

  pub transitive : (p r t : Path L) → MoreSpecific L p r → MoreSpecific L r t → MoreSpecific L p t
  transitive p r t m n =
      (recursive p t (m.same_start ∙ n.same_start)).0
      (preferred_transitive p.hops r.hops t.hops ((recursive p r m.same_start).1 m) ((recursive r t n.same_start).1 n))

  -- what is preferred to p and its next step is preferred to all that goes on so
  pub preferred_longer : (r p : List (Hop L)) (h : Hop L) (c : List (Hop L)) (e : End L.Step)
      → Preferred L r p (by h.step) → Preferred L r (p ++ (h ∷ c)) e
  preferred_longer [] [] h c e m = m
  preferred_longer [] (k ∷ p) h c e m = m
  preferred_longer (j ∷ r) [] h c e m = inl m
  preferred_longer (j ∷ r) (k ∷ p) h c e (inl m) = inl m
  preferred_longer (j ∷ r) (k ∷ p) h c e (inr m) = inr (m.0, preferred_longer r p h c e m.1)

  -- and the other way round, unless it goes by that hop itself
  pub preferred_split : (r p : List (Hop L)) (h : Hop L) (c : List (Hop L)) (e : End L.Step)
      → Preferred L r (p ++ (h ∷ c)) e → Preferred L r p (by h.step) ⊎ ((t : List (Hop L)) × (r ≡ p ++ (h ∷ t)))
  preferred_split [] [] h c e m = inl m
  preferred_split [] (k ∷ p) h c e m = inl m
  preferred_split (j ∷ r) [] h c e (inl m) = inl m
  preferred_split (j ∷ r) [] h c e (inr m) = inr (r, ap (λ (z : Hop L). z ∷ r) m.0)
  preferred_split (j ∷ r) (k ∷ p) h c e (inl m) = inl (inl m)
  preferred_split (j ∷ r) (k ∷ p) h c e (inr m) =
      ⊎_elim (λ z. inl (inr (m.0, z)))
      (λ z. inr (z.0, ap (λ (y : Hop L). y ∷ r) m.0 ∙ ap (λ (y : List (Hop L)). k ∷ y) z.1))
      (preferred_split r p h c e m.1)
