-- `found` is what the rules say, and no other value is. Assumes nothing.
use Prim.Native.Nat.{ℕ, ◌<◌}
use mathlib.Core.Path.{◌≡◌, refl, sym, ap, ◌∙◌}
use mathlib.Core.Bool.{Bool, true, false, not}
use mathlib.Core.Logic.{◌↔◌, ⊎_elim}
use mathlib.Core.List.Memᴰ
use mathlib.Core.List.{List, [], ◌∷◌, map}
use lib.Dec.{eqb}
use borrow.Author.Tests.{eqb-true, eq-eqb}
use Rattle.scope_graph.specs.Language.{◌∈◌, Language, Laws}
use Rattle.scope_graph.specs.Graph.{Declaration, Graph, InRange, Query}
use Rattle.scope_graph.specs.Path.{PathRow, row_declaration, Entry}
use Rattle.scope_graph.specs.Rows.{any_of}
use Rattle.scope_graph.specs.Computed.{Found, found_none, found_one, found_several, same_declaration, found_of, entries, found}
use Rattle.scope_graph.specs.Listing.{FoundIs}
use Rattle.scope_graph.proofs.Lists.{here, there, true_false, not_is, and_left, and_right, and_both, any_of_elim, any_of_none, map_intro, map_elim}
use Rattle.scope_graph.proofs.Entries.{entries_are}

not_false : (b : Bool) → not b ≡ false → b ≡ true
not_false true h = refl
not_false false h = sym h

module _ (L : Language) (laws : Laws L) where
  declaration_eq : {s t : ℕ} {x y : L.Name} {m k : ℕ} → s ≡ t → x ≡ y → m ≡ k
      → ◌≡◌ {A = Declaration L} (record { at = s; name = x; mark = m }) (record { at = t; name = y; mark = k })
  declaration_eq e f h = rw (e, f, h)

  -- the test of two declarations is their equality
  pub same_declaration_lem : (d e : Declaration L) → (same_declaration L d e ≡ true) ↔ (d ≡ e)
  unfolding same_declaration
  same_declaration_lem d e = (
    λ t.
        let r = and_right (eqb d.at e.at) _ t in
        declaration_eq (eqb-true d.at e.at (and_left _ _ t)) (laws.name_same d.name e.name (and_left _ _ r))
        (eqb-true d.mark e.mark (and_right (L.same_name d.name e.name) _ r)),
    λ z. rw z (and_both _ _ (eq-eqb e.at e.at refl) (and_both _ _ (laws.name_self e.name) (eq-eqb e.mark e.mark refl))),
  )

  module _ (g : Graph L) (q : Query L) where
    -- at most one value of `found` holds
    pub one_found : (f h : Found) → FoundIs L g q f → FoundIs L g q h → f ≡ h
    one_found found_none found_none a b = refl
    one_found found_none found_one a b = absurd (a b.0 b.1)
    one_found found_none found_several a b = absurd (a b.0 b.2)
    one_found found_one found_none a b = absurd (b a.0 a.1)
    one_found found_one found_one a b = refl
    one_found found_one found_several a b = absurd (b.4 (a.2 b.0 b.2 ∙ sym (a.2 b.1 b.3)))
    one_found found_several found_none a b = absurd (b a.0 a.2)
    one_found found_several found_one a b = absurd (a.4 (b.2 a.0 a.2 ∙ sym (b.2 a.1 a.3)))
    one_found found_several found_several a b = refl

    module _ (range : InRange L g) (starts : q.start < g.scopes) where
      abbrev decl : PathRow L → Declaration L
      decl = row_declaration L q

      -- another declaration than this one
      abbrev other : Declaration L → Declaration L → Bool
      other d e = not (same_declaration L d e)

      -- all entries are held against the first
      held : (x : PathRow L) (es : List (PathRow L)) → ((r : PathRow L) → (r ∈ (x ∷ es)) ↔ Entry L g q r) → (b : Bool)
          → any_of (other (decl x)) (map decl es) ≡ b
          → FoundIs L g q (elim b as (λ _. Found) [ true ↦ found_several | false ↦ found_one ])
      held x es are true t =
          let k = any_of_elim (other (decl x)) (map decl es) t in
          let p = map_elim decl es k.1 in
          let apart = not_is (same_declaration L (decl x) k.0) k.2 in (
            x,
            p.0,
            (are x).0 here,
            (are p.0).0 (there p.1),
            λ h. true_false ((same_declaration_lem (decl x) k.0).1 (h ∙ sym p.2)) apart,
          )
      held x es are false t =
          (x, (are x).0 here, λ p k. ⊎_elim (λ z. ap decl z) (λ m. sym (alike p m)) (Memᴰ.cases_cons ((are p).1 k)))
        where
          alike : (p : PathRow L) → p ∈ es → decl x ≡ decl p
          alike p m =
              (same_declaration_lem (decl x) (decl p)).0
              (not_false _ (any_of_none (other (decl x)) (map decl es) t (decl p) (map_intro decl m)))

      pub found_is : FoundIs L g q (found L g q)
      unfolding found found_of
      found_is = count (entries L g q) (entries_are L laws g q range starts)
        where
          count : (es : List (PathRow L)) → ((r : PathRow L) → (r ∈ es) ↔ Entry L g q r) → FoundIs L g q (found_of L (map decl es))
          count [] are = λ r e. Memᴰ.not-nil ((are r).1 e)
          count (x ∷ es) are = held x es are (any_of (other (decl x)) (map decl es)) refl
