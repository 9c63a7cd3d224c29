-- The value of specs/Promises. Assumes nothing.
use Prim.Native.Nat.{ℕ, ◌*◌, ◌≤◌}
use mathlib.Core.Path.{◌≡◌, refl, sym, ◌∙◌, subst}
use mathlib.Core.Bool.{true, false}
use mathlib.Core.Logic.{◌⊎◌, inl, inr, ⊎_elim, ◌↔◌}
use mathlib.Core.List.{List}
use native.Mathlib.Omega.{arith}
use lib.Dec.{ltb}
use lib.ListN.{length, take}
use borrow.Author.Tests.{ltb-true, ltb-false}
use Rattle.std.specs.declared.option.Option.{Option}
use Rattle.std.specs.declared.option.Option.TheVariants.{Some, None}
use Rattle.std.specs.declared.result.Result.{Result}
use Rattle.std.specs.declared.result.Result.TheVariants.{Ok, Err}
use Rattle.text_field.specs.declared.refusal.Refusal.{Refusal}
use Rattle.text_field.specs.declared.refusal.Refusal.TheVariants.{NoExpression, TooManyStates}
use Rattle.scope_graph.proofs.Lists.{Two}
use Rattle.path_rules.specs.Expression.{Expr, In}
use Rattle.path_rules.specs.Grammar.{Expression, sides}
use Rattle.path_rules.specs.Reading.{fresh, read_all}
use Rattle.path_rules.specs.Rules.{is_whole, after_end, start_set, table_of, walk_of, rules_from, whole_rules, read_whole, rules_of, next_in, accepts_in}
use Rattle.path_rules.specs.Table.{Decides, Met}
use Rattle.path_rules.specs.Promises.{AtLeast, RowPromises, Promises}
use Rattle.path_rules.specs.declared.Rules.{Rules}
use Rattle.path_rules.specs.declared.reading.Reading.{Reading}
use Rattle.path_rules.specs.declared.walk.Walk.{Walk}
use Rattle.path_rules.proofs.Ends.{whole_long, whole_none, whole_not, rules_none, rules_whole}
use Rattle.path_rules.proofs.ReadingLaws.{Ready, ready, taken, one_tree}
use Rattle.path_rules.proofs.TableLaws.{Below, below_up, reads_below, table_decides, table_fewest, table_met, table_over, walked_few}

-- no table is refused by 12
table_taken : (o : Option Walk) → rules_from o ≡ Err NoExpression → ⊥
unfolding rules_from
table_taken None h = cc
table_taken (Some w) h = cc

-- an expression is refused by 12 or 13
pub faults : (labels text : List ℕ) (f : Refusal) → rules_of labels text ≡ Err f → (f ≡ NoExpression) ⊎ (f ≡ TooManyStates)
unfolding rules_of whole_rules rules_from
faults labels text f h = by (read_whole labels text) h
  where
    from : (o : Option Walk) → rules_from o ≡ Err f → (f ≡ NoExpression) ⊎ (f ≡ TooManyStates)
    from None e = inr cc
    from (Some w) e = absurd (cc)

    by : (o : Option Reading) → (elim o as (λ _. Result Rules Refusal) [ None ↦ Err NoExpression | Some s ↦ whole_rules s ]) ≡ Err f
        → (f ≡ NoExpression) ⊎ (f ≡ TooManyStates)
    by None e = inl cc
    by (Some s) e = from (walk_of (after_end s) s.labels (start_set s.alt)) e

module _ (labels text : List ℕ) where
  taken_both : (¬ (rules_of labels text ≡ Err NoExpression)) ↔ ((e : Expr) × Expression labels e text)
  unfolding whole_rules
  taken_both = (forth, back)
    where
      forth : ¬ (rules_of labels text ≡ Err NoExpression) → (e : Expr) × Expression labels e text
      forth h = by (Two (ltb 64 (length text))) (read_all labels fresh text) refl
        where
          no : None ≡ read_whole labels text → ⊥
          no n = h (sym (rules_none labels text n))

          by : (ltb 64 (length text) ≡ true) ⊎ (ltb 64 (length text) ≡ false) → (o : Option Reading) → read_all labels fresh text ≡ o
              → (e : Expr) × Expression labels e text
          by (inl l) o r = absurd (no (whole_long labels text (ltb-true _ _ l)))
          by (inr l) None r = absurd (no (whole_none labels text (ltb-false _ _ l) r))
          by (inr l) (Some s) r =
              ⊎_elim (λ w. taken labels text s (ltb-false _ _ l) r w) (λ w. absurd (no (whole_not labels text s (ltb-false _ _ l) r w))) (Two (is_whole s))

      back : (e : Expr) × Expression labels e text → ¬ (rules_of labels text ≡ Err NoExpression)
      back (e, x) h =
          let r = ready labels e text x in
          table_taken (walk_of (after_end r.whole) r.whole.labels (start_set r.whole.alt)) (rules_whole labels text r.whole (sym r.read) ∙ h)

  module _ (e : Expr) (eight : length labels ≤ 8) (x : Expression labels e text) where
    low : Below (length labels) e
    low = reads_below labels sides e text x.reads

    low_eight : Below 8 e
    low_eight = below_up (length labels) 8 e eight low

    abbrev it : Ready labels e text
    it = ready labels e text x

    abbrev walk : Option Walk
    walk = walk_of (after_end it.whole) it.whole.labels (start_set it.whole.alt)

    made_is : (w : Walk) → walk ≡ Some w → rules_of labels text ≡ Ok (table_of w)
    unfolding whole_rules rules_from
    made_is w o = sym (rules_whole labels text it.whole (sym it.read)) ∙ rw (o, rules_from)

    over_is : walk ≡ None → rules_of labels text ≡ Err TooManyStates
    unfolding whole_rules rules_from
    over_is o = sym (rules_whole labels text it.whole (sym it.read)) ∙ rw (o, rules_from)

    row_promises : RowPromises labels text e
    unfolding table_of
    row_promises = by walk refl
      where
        by : (o : Option Walk) → walk ≡ o → RowPromises labels text e
        by None o =
            let z = over_is o in
            let many = table_over e it.whole it.letters it.tracked (length labels) eight low o in
            let no : (r : Rules) → rules_of labels text ≡ Ok r → ⊥ = λ r h. (let y : ◌≡◌ {A = Result Rules Refusal} (Err TooManyStates) (Ok r) = sym z ∙ h in cc) in
            record {
              too_many = ((λ h. many), λ h. z);
              refused = λ h. absurd (h z);
              decides = λ r h. absurd (no r h);
              fewest = λ r h. absurd (no r h);
              few = λ r h. absurd (no r h);
              numbered = λ r h. absurd (no r h);
            }
        by (Some w) o =
            let z = made_is w o in
            let d = table_decides e it.whole it.letters it.tracked (length labels) eight low w o in
            let all = table_decides e it.whole it.letters it.tracked 8 (omega arith) low_eight w o in
            let b = walked_few e it.whole it.letters it.tracked (length labels) eight low w o in
            let is : (r : Rules) → rules_of labels text ≡ Ok r → table_of w ≡ r = λ r h. (let y : ◌≡◌ {A = Result Rules Refusal} (Ok (table_of w)) (Ok r) = sym z ∙ h in cc) in
            record {
              too_many = (
                (λ h. absurd (let y : ◌≡◌ {A = Result Rules Refusal} (Ok (table_of w)) (Err TooManyStates) = sym z ∙ h in cc)),
                λ h. absurd (let y = h w.states _ _ d in omega arith),
              );
              refused = λ h. (table_of w, z);
              decides = λ r h. subst (λ r. Decides 8 (In e) r.states (next_in r) (accepts_in r)) (is r h) all;
              fewest = λ r h.
                  subst (λ r. AtLeast (length labels) (In e) r.states) (is r h)
                  (table_fewest e it.whole it.letters it.tracked (length labels) eight low w o);
              few = λ r h. subst (λ r. r.states ≤ 16) (is r h) b;
              numbered = λ r h.
                  subst (λ r. Met (take (r.states * 8) r.next) r.states) (is r h)
                  (table_met e it.whole it.letters it.tracked (length labels) eight low w o);
            }

pub promises : Promises
promises = record { taken = taken_both; one = λ labels text e f. one_tree labels e f text; rows = λ labels text e eight x. row_promises labels text e eight x }
