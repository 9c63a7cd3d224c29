-- Lists that grow by numbers that they do not hold yet. Assumes nothing.
use Prim.Native.Nat.{ℕ, ◌+◌, ◌≤◌, ◌<◌}
use mathlib.Core.Path.{◌≡◌, refl, sym, ap, ◌∙◌, subst}
use mathlib.Core.Bool.{Bool, true, false, not}
use mathlib.Core.Logic.{⊎_elim}
use mathlib.Core.List.Memᴰ
use mathlib.Core.List.{List, [], ◌∷◌, ◌++◌, append_assoc, append-nil}
use native.Mathlib.Omega.{arith}
use native.Mathlib.Numerals.{add-one}
use lib.ListN.{length, length-append}
use Rattle.scope_graph.specs.Language.{◌∈◌}
use Rattle.scope_graph.specs.Path.{Distinct}
use Rattle.scope_graph.specs.Computed.{keep}
use Rattle.scope_graph.specs.Readers.{numbers_below}
use Rattle.scope_graph.specs.Listing.{Pairwise}
use Rattle.scope_graph.proofs.Lists.{Two, here, there}
use Rattle.scope_graph.proofs.Pigeon.{in_true, in_test, not_in, not_in_test, distinct_bounded}
use Rattle.scope_graph.proofs.Readers.{numbers_ascend}
use Rattle.search.proofs.RulesLists.{keep_same}
use Rattle.was.specs.Order.{is_listed, with_new, gathered, unmet}
use Rattle.was.specs.Cells.{Scopes}

module _ (listed : List ℕ) (x : ℕ) where
  pub new_there : is_listed x listed ≡ true → with_new listed x ≡ listed
  unfolding with_new
  new_there e = rw (e, with_new)

  pub new_put : is_listed x listed ≡ false → with_new listed x ≡ listed ++ (x ∷ [])
  unfolding with_new
  new_put e = rw (e, with_new)

-- one number more, which is not there yet
pub distinct_more : (l : List ℕ) (x : ℕ) → Distinct l → ¬ (x ∈ l) → Distinct (l ++ (x ∷ []))
distinct_more [] x d h = ((λ m. Memᴰ.not-nil m), tt)
distinct_more (y ∷ l) x d h = (
  λ m. ⊎_elim (λ k. d.0 k) (λ k. h (Memᴰ.head (sym (Memᴰ.eq_of_singleton k)))) (Memᴰ.append_cases l m),
  distinct_more l x d.1 (λ m. h (there m)),
)

-- a number of a list of different numbers does not stand before itself
pub distinct_apart : (l more : List ℕ) (x : ℕ) → Distinct (l ++ (x ∷ more)) → ¬ (x ∈ l)
distinct_apart [] more x d m = Memᴰ.not-nil m
distinct_apart (y ∷ l) more x d m =
    ⊎_elim (λ e. d.0 (Memᴰ.append_right l (Memᴰ.head (sym e)))) (distinct_apart l more x d.1) (Memᴰ.cases_cons m)

module _ (n : ℕ) where
  pub scopes_more : (l : List ℕ) (x : ℕ) → Scopes n l → x < n → is_listed x l ≡ false → Scopes n (l ++ (x ∷ []))
  scopes_more l x s h e = record {
    once = distinct_more l x s.once (not_in x l e);
    below = λ y m. ⊎_elim (λ k. s.below y k) (λ k. let same = Memᴰ.eq_of_singleton k in omega arith) (Memᴰ.append_cases l m);
  }

  pub scopes_size : (l : List ℕ) → Scopes n l → length l ≤ n
  scopes_size l s = distinct_bounded n l s.once s.below

  -- there is room for a number that is not listed yet
  pub scopes_room : (l : List ℕ) (x : ℕ) → Scopes n l → x < n → is_listed x l ≡ false → length l < n
  scopes_room l x s h e = let m = scopes_size (l ++ (x ∷ [])) (scopes_more l x s h e) in let a = length-append l (x ∷ []) in omega arith

  pub scopes_new : (l : List ℕ) (x : ℕ) → Scopes n l → x < n → Scopes n (with_new l x)
  scopes_new l x s h =
      ⊎_elim (λ e. subst (λ (z : List ℕ). Scopes n z) (sym (new_there l x e)) s)
      (λ e. subst (λ (z : List ℕ). Scopes n z) (sym (new_put l x e)) (scopes_more l x s h e)) (Two (is_listed x l))

  pub scopes_gathered : (ts l : List ℕ) → Scopes n l → ((t : ℕ) → t ∈ ts → t < n) → Scopes n (gathered l ts)
  unfolding gathered
  scopes_gathered [] l s h = s
  scopes_gathered (t ∷ ts) l s h = scopes_gathered ts (with_new l t) (scopes_new l t s (h t here)) (λ x m. h x (there m))

pub gathered_append : (xs ys l : List ℕ) → gathered l (xs ++ ys) ≡ gathered (gathered l xs) ys
unfolding gathered
gathered_append [] ys l = refl
gathered_append (x ∷ xs) ys l = gathered_append xs ys (with_new l x)

-- numbers that are all there already
pub gathered_there : (ts l : List ℕ) → ((t : ℕ) → t ∈ ts → t ∈ l) → gathered l ts ≡ l
unfolding gathered
gathered_there [] l h = refl
gathered_there (t ∷ ts) l h =
    ap (λ (z : List ℕ). gathered z ts) (new_there l t (in_test t l (h t here))) ∙ gathered_there ts l (λ x m. h x (there m))

-- what is there stays in front
pub record Longer (l r : List ℕ) : Type 0 where
  pub more : List ℕ
  pub is : r ≡ l ++ more

pub longer_in : (l r : List ℕ) → Longer l r → (x : ℕ) → x ∈ l → x ∈ r
longer_in l r w x m = subst (λ (z : List ℕ). x ∈ z) (sym w.is) (Memᴰ.append_left w.more m)

pub longer_size : (l r : List ℕ) → Longer l r → length l ≤ length r
longer_size l r w = let a = length-append l w.more in let e = ap length w.is in omega arith

pub new_longer : (l : List ℕ) (x : ℕ) → Longer l (with_new l x)
new_longer l x =
    ⊎_elim (λ e. record { more = []; is = new_there l x e ∙ sym (append-nil l) })
    (λ e. record { more = x ∷ []; is = new_put l x e }) (Two (is_listed x l))

new_in : (l : List ℕ) (x : ℕ) → x ∈ with_new l x
new_in l x =
    ⊎_elim (λ e. subst (λ (z : List ℕ). x ∈ z) (sym (new_there l x e)) (in_true x l e))
    (λ e. subst (λ (z : List ℕ). x ∈ z) (sym (new_put l x e)) (Memᴰ.append_right l here)) (Two (is_listed x l))

longer_then : (l r s : List ℕ) → Longer l r → Longer r s → Longer l s
longer_then l r s a b = record {
  more = a.more ++ b.more;
  is = b.is ∙ ap (λ (z : List ℕ). z ++ b.more) a.is ∙ append_assoc l a.more b.more;
}

pub gathered_longer : (ts l : List ℕ) → Longer l (gathered l ts)
unfolding gathered
gathered_longer [] l = record { more = []; is = sym (append-nil l) }
gathered_longer (t ∷ ts) l = longer_then l (with_new l t) (gathered (with_new l t) ts) (new_longer l t) (gathered_longer ts (with_new l t))

pub gathered_in : (ts l : List ℕ) (x : ℕ) → x ∈ ts → x ∈ gathered l ts
unfolding gathered
gathered_in [] l x m = absurd (Memᴰ.not-nil m)
gathered_in (t ∷ ts) l x m =
    ⊎_elim (λ e. longer_in (with_new l t) (gathered (with_new l t) ts) (gathered_longer ts (with_new l t)) x (subst (λ (z : ℕ). z ∈ with_new l t) (sym e) (new_in l t)))
    (λ k. gathered_in ts (with_new l t) x k) (Memᴰ.cases_cons m)

-- numbers that are all different: those that are not listed are put after the listed ones
module _ {A : Type 0} (f : A → Bool) (x : A) (l : List A) where
  keep_yes : f x ≡ true → keep f (x ∷ l) ≡ x ∷ keep f l
  unfolding keep
  keep_yes e = rw (e, keep)

  keep_no : f x ≡ false → keep f (x ∷ l) ≡ keep f l
  unfolding keep
  keep_no e = rw (e, keep)

listed_more : (a x : ℕ) (l : List ℕ) → ¬ (a ≡ x) → is_listed a (l ++ (x ∷ [])) ≡ is_listed a l
listed_more a x l h =
    ⊎_elim (λ e. in_test a (l ++ (x ∷ [])) (Memᴰ.append_left (x ∷ []) (in_true a l e)) ∙ sym e)
    (λ e. not_in_test a (l ++ (x ∷ [])) (λ m. ⊎_elim (λ k. not_in a l e k) (λ k. h (Memᴰ.eq_of_singleton k)) (Memᴰ.append_cases l m)) ∙ sym e)
    (Two (is_listed a l))

abbrev missing : List ℕ → ℕ → Bool
missing l s = not (is_listed s l)

pub gathered_missing : (ns l : List ℕ) → Distinct ns → gathered l ns ≡ l ++ keep (missing l) ns
unfolding gathered keep
gathered_missing [] l d = sym (append-nil l)
gathered_missing (x ∷ ns) l d =
    ⊎_elim
    (λ e.
    ap (λ (z : List ℕ). gathered z ns) (new_there l x e) ∙ gathered_missing ns l d.1
    ∙ ap (λ (z : List ℕ). l ++ z) (sym (keep_no (missing l) x ns (ap not e))))
    (λ e.
    ap (λ (z : List ℕ). gathered z ns) (new_put l x e)
    ∙ gathered_missing ns (l ++ (x ∷ [])) d.1
    ∙ ap (λ (z : List ℕ). (l ++ (x ∷ [])) ++ z)
    (keep_same (missing (l ++ (x ∷ []))) (missing l) ns (λ a m. ap not (listed_more a x l (λ same. d.0 (subst (λ (z : ℕ). z ∈ ns) same m)))))
    ∙ append_assoc l (x ∷ []) (keep (missing l) ns)
    ∙ ap (λ (z : List ℕ). l ++ z) (sym (keep_yes (missing l) x ns (ap not e))))
    (Two (is_listed x l))

ascending_distinct : (l : List ℕ) → Pairwise ◌<◌ l → Distinct l
ascending_distinct [] p = tt
ascending_distinct (x ∷ l) p = ((λ m. let less = p.0 x m in omega arith), ascending_distinct l p.1)

pub below_distinct : (n : ℕ) → Distinct (numbers_below n)
below_distinct n = ascending_distinct (numbers_below n) (numbers_ascend n)

pub gathered_unmet : (n : ℕ) (l : List ℕ) → gathered l (numbers_below n) ≡ l ++ unmet n l
unfolding unmet
gathered_unmet n l = gathered_missing (numbers_below n) l (below_distinct n)

-- one number more in turn
pub gathered_next : (n : ℕ) (l : List ℕ) → gathered l (numbers_below (n + 1)) ≡ with_new (gathered l (numbers_below n)) n
unfolding numbers_below gathered
gathered_next n l = ap (λ (k : ℕ). gathered l (numbers_below k)) (add-one n) ∙ gathered_append (numbers_below n) (n ∷ []) l
