-- What the words ask for, test by test as the code makes them. Assumes nothing.
use Prim.Native.Nat.{ℕ, zero, suc, ◌+◌, ◌-◌}
use mathlib.Core.Path.{◌≡◌, refl, sym, ap, ◌∙◌}
use mathlib.Core.Bool.{Bool, true, false, ◌&&◌}
use mathlib.Core.List.{List, [], ◌∷◌}
use native.Mathlib.Omega.{arith}
use lib.Dec.{eqb}
use lib.ListN.{length, drop}
use borrow.Author.Tests.{eq-eqb, ne_eqb}
use Rattle.std.specs.Option.{MatchOption}
use Rattle.std.specs.Cmp.Lexicographic.{pointwise}
use Rattle.std.specs.declared.option.Option.{Option}
use Rattle.std.specs.declared.option.Option.TheVariants.{Some, None}
use Rattle.text_field.specs.Number.{number_here, number_placed}
use Rattle.gym.specs.declared.words.Reply.{Reply}
use Rattle.gym.specs.declared.words.Reply.TheVariants.{Usage}
use Rattle.gym.specs.declared.words.Command.TheVariants.{One}
use Rattle.gym.specs.Words.{Asked, list, old, new, compare, rules, renumber, was, dot, help, usage, Word, alone, with_one, with_two, query_asked, by_query, count_asked, readers_asked, back_asked, undot_asked, judge_asked, list_word, old_word, new_word, judge_word, compare_word, rules_word, count_word, readers_word, renumber_word, was_word, back_word, dot_word, undot_word, help_word, last_words, later_words, words, same_bytes, asked_of, asked}
use Rattle.gym.specs.Handed.{arguments, handed, queried, with_so_many, reply_meaning, meaning}

-- what `==` says of two texts
same_is : (a b : List ℕ) → pointwise eqb a b ≡ same_bytes a b
unfolding same_bytes
same_is [] [] = refl
same_is [] (y ∷ b) = refl
same_is (x ∷ a) [] = refl
same_is (x ∷ a) (y ∷ b) = ap (λ (t : Bool). eqb x y && t) (same_is a b)

pub same_told : (a b s : List ℕ) (t r : Bool) → s ≡ b → r ≡ t → r ≡ pointwise eqb a s → t ≡ same_bytes a b
same_told a b s t r w e h = sym e ∙ h ∙ same_is a s ∙ ap (same_bytes a) w

-- a word by the number of its arguments
pub so_many : (n wanted : ℕ) (x : Asked) → n ≡ wanted → with_so_many n wanted x ≡ x
unfolding with_so_many
so_many n wanted x e = rw (eq-eqb n wanted e, with_so_many)

pub not_so_many : (n wanted : ℕ) (x : Asked) → (n ≡ wanted → ⊥) → with_so_many n wanted x ≡ usage
unfolding with_so_many
not_so_many n wanted x e = rw (ne_eqb n wanted e, with_so_many)

module _ (a b : List ℕ) where
  pub none_given : (n : ℕ) (x : Asked) → with_so_many n 0 x ≡ alone x (arguments n a b)
  unfolding alone arguments
  none_given zero x = so_many 0 0 x refl
  none_given (suc n) x = not_so_many (suc n) 0 x (λ z. omega arith)

  pub one_given : (n : ℕ) (x : List ℕ → Asked) → with_so_many n 1 (x a) ≡ with_one x (arguments n a b)
  unfolding with_one arguments
  one_given zero x = not_so_many 0 1 (x a) (λ z. omega arith)
  one_given (suc zero) x = so_many 1 1 (x a) refl
  one_given (suc (suc n)) x = not_so_many (suc (suc n)) 1 (x a) (λ z. omega arith)

  pub two_given : (n : ℕ) (x : List ℕ → List ℕ → Asked) → with_so_many n 2 (x a b) ≡ with_two x (arguments n a b)
  unfolding with_two arguments
  two_given zero x = not_so_many 0 2 (x a b) (λ z. omega arith)
  two_given (suc zero) x = not_so_many 1 2 (x a b) (λ z. omega arith)
  two_given (suc (suc zero)) x = so_many 2 2 (x a b) refl
  two_given (suc (suc (suc n))) x = not_so_many (suc (suc (suc n))) 2 (x a b) (λ z. omega arith)

-- of its arguments it is asked what they ask for, and nothing else
pub one_same : (count : ℕ) (a b : List ℕ) (x y : List ℕ → Asked) → x a ≡ y a → with_one x (arguments count a b) ≡ with_one y (arguments count a b)
unfolding with_one arguments
one_same zero a b x y e = refl
one_same (suc zero) a b x y e = e
one_same (suc (suc n)) a b x y e = refl

pub two_same : (count : ℕ) (a b : List ℕ) (x y : List ℕ → List ℕ → Asked) → x a b ≡ y a b → with_two x (arguments count a b) ≡ with_two y (arguments count a b)
unfolding with_two arguments
two_same zero a b x y e = refl
two_same (suc zero) a b x y e = refl
two_same (suc (suc zero)) a b x y e = e
two_same (suc (suc (suc n))) a b x y e = refl

-- the query's number, read from the argument's front
module _ (a : List ℕ) (r : Option (ℕ × ℕ)) (e : r ≡ number_placed 0 (number_here (drop 0 a))) (x : ℕ → Asked) where
  from_front : (x : Option (ℕ × ℕ)) → number_placed 0 x ≡ x
  unfolding number_placed
  from_front (Some (v, w)) = let z : 0 + w ≡ w = omega arith in rw z
  from_front None = refl

  front : r ≡ number_here a
  front = e ∙ from_front (number_here a)

  pub query_none : r ≡ None → usage ≡ by_query x a
  unfolding query_asked by_query
  query_none h = rw (sym front, h)

  module _ (i end : ℕ) (h : r ≡ Some (i, end)) where
    by_width : by_query x a ≡ query_asked x (Some (i, end)) a
    unfolding by_query
    by_width = ap (λ (n : Option (ℕ × ℕ)). query_asked x n a) (sym front ∙ h)

    pub query_long : (end ≡ length a → ⊥) → usage ≡ by_query x a
    unfolding query_asked
    query_long k = sym (by_width ∙ rw (ne_eqb end (length a) k, query_asked))

    pub query_is : end ≡ length a → x i ≡ by_query x a
    unfolding query_asked
    query_is k = sym (by_width ∙ rw (eq-eqb end (length a) k, query_asked))

-- what is asked for, by the query that was found
pub query_asks : (k : ℕ → Reply) (x : ℕ → Asked) (a b : List ℕ) (r : Option ℕ) (q : Reply) → MatchOption r (q ≡ Usage) (λ i. q ≡ k i)
    → ((i : ℕ) → reply_meaning (k i) a b ≡ x i) → meaning (One q) a b ≡ queried x r
unfolding queried meaning reply_meaning
query_asks k x a b None q e f = rw e refl
query_asks k x a b (Some i) q e f = ap (λ (y : Reply). reply_meaning y a b) e ∙ f i

-- a word by its name: found, or looked for in the rest
module _ (w : Word) (ws : List Word) (name : List ℕ) (more : List (List ℕ)) where
  pub named : true ≡ same_bytes name w.name → asked_of (w ∷ ws) name more ≡ w.asks more
  unfolding asked_of
  named e = rw (sym e, asked_of)

  pub passed : false ≡ same_bytes name w.name → asked_of (w ∷ ws) name more ≡ asked_of ws name more
  unfolding asked_of
  passed e = rw (sym e, asked_of)

-- some words: the name, test after test
module _ (count : ℕ) (name a b : List ℕ) where
  abbrev more : List (List ℕ)
  more = arguments (count - 1) a b

  abbrev all : List (List ℕ)
  all = handed count name a b

  pub as_none : count ≡ 0 → asked all ≡ usage
  unfolding asked handed
  as_none e = rw e

  module _ (some : count ≡ 0 → ⊥) where
    begun : asked all ≡ asked_of words name more
    unfolding asked handed
    begun = by count refl
      where
        by : (n : ℕ) → count ≡ n → asked (handed count name a b) ≡ asked_of words name (arguments (count - 1) a b)
        by zero e = absurd (some e)
        by (suc n) e = let z : count - 1 ≡ n = omega arith in rw (z, e)

    pub as_list : true ≡ same_bytes name list_word.name → asked all ≡ alone list more
    unfolding words list_word
    as_list e = begun ∙ named list_word _ name more e

    module _ (f : false ≡ same_bytes name list_word.name) where
      past_list : asked all ≡ asked_of (old_word ∷ new_word ∷ judge_word ∷ compare_word ∷ later_words) name more
      unfolding words
      past_list = begun ∙ passed list_word _ name more f

      pub as_old : true ≡ same_bytes name old_word.name → asked all ≡ alone old more
      unfolding old_word
      as_old e = past_list ∙ named old_word _ name more e

      module _ (g : false ≡ same_bytes name old_word.name) where
        past_old : asked all ≡ asked_of (new_word ∷ judge_word ∷ compare_word ∷ later_words) name more
        past_old = past_list ∙ passed old_word _ name more g

        pub as_new : true ≡ same_bytes name new_word.name → asked all ≡ alone new more
        unfolding new_word
        as_new e = past_old ∙ named new_word _ name more e

        module _ (h : false ≡ same_bytes name new_word.name) where
          past_new : asked all ≡ asked_of (judge_word ∷ compare_word ∷ later_words) name more
          past_new = past_old ∙ passed new_word _ name more h

          pub as_judge : true ≡ same_bytes name judge_word.name → asked all ≡ with_two judge_asked more
          unfolding judge_word
          as_judge e = past_new ∙ named judge_word _ name more e

          module _ (i : false ≡ same_bytes name judge_word.name) where
            past_judge : asked all ≡ asked_of (compare_word ∷ later_words) name more
            past_judge = past_new ∙ passed judge_word _ name more i

            pub as_compare : true ≡ same_bytes name compare_word.name → asked all ≡ with_two compare more
            unfolding compare_word
            as_compare e = past_judge ∙ named compare_word _ name more e

            pub as_later : false ≡ same_bytes name compare_word.name → asked all ≡ asked_of later_words name more
            as_later j = past_judge ∙ passed compare_word later_words name more j

-- the later words
module _ (name : List ℕ) (more : List (List ℕ)) where
  pub as_rules : true ≡ same_bytes name rules_word.name → asked_of later_words name more ≡ with_one rules more
  unfolding later_words rules_word
  as_rules e = named rules_word (count_word ∷ readers_word ∷ last_words) name more e

  module _ (f : false ≡ same_bytes name rules_word.name) where
    past_rules : asked_of later_words name more ≡ asked_of (count_word ∷ readers_word ∷ last_words) name more
    unfolding later_words
    past_rules = passed rules_word (count_word ∷ readers_word ∷ last_words) name more f

    pub as_count : true ≡ same_bytes name count_word.name → asked_of later_words name more ≡ with_one count_asked more
    unfolding count_word
    as_count e = past_rules ∙ named count_word (readers_word ∷ last_words) name more e

    module _ (g : false ≡ same_bytes name count_word.name) where
      past_count : asked_of later_words name more ≡ asked_of (readers_word ∷ last_words) name more
      past_count = past_rules ∙ passed count_word (readers_word ∷ last_words) name more g

      pub as_readers : true ≡ same_bytes name readers_word.name → asked_of later_words name more ≡ with_one readers_asked more
      unfolding readers_word
      as_readers e = past_count ∙ named readers_word last_words name more e

      pub as_last : false ≡ same_bytes name readers_word.name → asked_of later_words name more ≡ asked_of last_words name more
      as_last h = past_count ∙ passed readers_word last_words name more h

-- the last words
module _ (name : List ℕ) (more : List (List ℕ)) where
  pub as_renumber : true ≡ same_bytes name renumber_word.name → asked_of last_words name more ≡ alone renumber more
  unfolding last_words renumber_word
  as_renumber e = named renumber_word (was_word ∷ back_word ∷ dot_word ∷ undot_word ∷ help_word ∷ []) name more e

  module _ (f : false ≡ same_bytes name renumber_word.name) where
    past_renumber : asked_of last_words name more ≡ asked_of (was_word ∷ back_word ∷ dot_word ∷ undot_word ∷ help_word ∷ []) name more
    unfolding last_words
    past_renumber = passed renumber_word (was_word ∷ back_word ∷ dot_word ∷ undot_word ∷ help_word ∷ []) name more f

    pub as_was : true ≡ same_bytes name was_word.name → asked_of last_words name more ≡ alone was more
    unfolding was_word
    as_was e = past_renumber ∙ named was_word (back_word ∷ dot_word ∷ undot_word ∷ help_word ∷ []) name more e

    module _ (g : false ≡ same_bytes name was_word.name) where
      past_was : asked_of last_words name more ≡ asked_of (back_word ∷ dot_word ∷ undot_word ∷ help_word ∷ []) name more
      past_was = past_renumber ∙ passed was_word (back_word ∷ dot_word ∷ undot_word ∷ help_word ∷ []) name more g

      pub as_back : true ≡ same_bytes name back_word.name → asked_of last_words name more ≡ with_one back_asked more
      unfolding back_word
      as_back e = past_was ∙ named back_word (dot_word ∷ undot_word ∷ help_word ∷ []) name more e

      module _ (h : false ≡ same_bytes name back_word.name) where
        past_back : asked_of last_words name more ≡ asked_of (dot_word ∷ undot_word ∷ help_word ∷ []) name more
        past_back = past_was ∙ passed back_word (dot_word ∷ undot_word ∷ help_word ∷ []) name more h

        pub as_dot : true ≡ same_bytes name dot_word.name → asked_of last_words name more ≡ alone dot more
        unfolding dot_word
        as_dot e = past_back ∙ named dot_word (undot_word ∷ help_word ∷ []) name more e

        module _ (i : false ≡ same_bytes name dot_word.name) where
          past_dot : asked_of last_words name more ≡ asked_of (undot_word ∷ help_word ∷ []) name more
          past_dot = past_back ∙ passed dot_word (undot_word ∷ help_word ∷ []) name more i

          pub as_undot : true ≡ same_bytes name undot_word.name → asked_of last_words name more ≡ with_one undot_asked more
          unfolding undot_word
          as_undot e = past_dot ∙ named undot_word (help_word ∷ []) name more e

          module _ (j : false ≡ same_bytes name undot_word.name) where
            past_undot : asked_of last_words name more ≡ asked_of (help_word ∷ []) name more
            past_undot = past_dot ∙ passed undot_word (help_word ∷ []) name more j

            pub as_help : true ≡ same_bytes name help_word.name → asked_of last_words name more ≡ alone help more
            unfolding help_word
            as_help e = past_undot ∙ named help_word [] name more e

            pub as_unknown : false ≡ same_bytes name help_word.name → asked_of last_words name more ≡ usage
            unfolding asked_of
            as_unknown e = past_undot ∙ passed help_word [] name more e
