-- The parts of a text by their places. Assumes nothing.
use Prim.Native.Nat.{ℕ}
use mathlib.Core.Path.{◌≡◌, sym, ap, ◌∙◌}
use mathlib.Core.Bool.{Bool, true, false}
use mathlib.Core.List.{List}
use lib.ListN.{drop}
use Rattle.text_field.specs.Outcome.{refused, done, refuse_if}
use Rattle.dot_text.specs.Reading.{past_comment, head_next, scopes_next, edges_next, ends_next, places_in, parts_of}
use Rattle.dot_text.proofs.Answers.{then_none, then_some}

module _ (s : List ℕ) (start : ℕ) (from : drop start s ≡ past_comment s) where
  pub parts_headless : head_next (drop start s) ≡ refused 18 → refused 18 ≡ parts_of s
  unfolding parts_of
  parts_headless e = then_none 18 (head_next (past_comment s)) places_in (ap head_next (sym from) ∙ e)

  module _ (scopes edges last : ℕ) (head : head_next (drop start s) ≡ done (drop scopes s)) (first : drop edges s ≡ (scopes_next (drop scopes s)).rest)
      (second : drop last s ≡ (edges_next (drop edges s)).rest) (t : Bool) (ends : t ≡ ends_next (drop last s)) where
    places : places_in (drop scopes s) ≡ parts_of s
    unfolding parts_of
    places = then_some (drop scopes s) (head_next (past_comment s)) places_in (ap head_next (sym from) ∙ head)

    ended : ends_next (edges_next (scopes_next (drop scopes s)).rest).rest ≡ t
    ended = ap ends_next (ap (λ (z : List ℕ). (edges_next z).rest) (sym first) ∙ sym second) ∙ sym ends

    pub parts_whole : t ≡ true → done (record { scopes = drop scopes s; edges = drop edges s }) ≡ parts_of s
    unfolding places_in refuse_if
    parts_whole h =
        rw first (sym (rw (ended ∙ h)))
        ∙ places

    pub parts_endless : t ≡ false → refused 18 ≡ parts_of s
    unfolding places_in refuse_if
    parts_endless h = sym (rw (ended ∙ h)) ∙ places

pub ruleset parts_steps = (parts_headless, parts_whole, parts_endless)
