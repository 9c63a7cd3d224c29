-- The count, refusal by refusal as the code meets them, and the number lent for it. Assumes nothing.
use Prim.Native.Nat.{ℕ, ◌≤◌, ◌<◌}
use mathlib.Core.Path.{◌≡◌, refl, sym, ap, ◌∙◌}
use mathlib.Core.Bool.{Bool, true, false}
use mathlib.Core.List.{List}
use borrow.Author.Tests.{lt-leb, le-leb}
use lib.Dec.{leb}
use lib.ListN.{length}
use Rattle.text_field.specs.Outcome.{Outcome, refused, done, and_then, refuse_if}
use Rattle.text_field.specs.Answer.{answer}
use Rattle.text_field.proofs.OutcomeLaws.{not_done}
use Rattle.graph_file.specs.File.{read_cells}
use Rattle.graph_rows.specs.Decode.{queries_of}
use Rattle.block.specs.Block.{scopes_cell}
use Rattle.block.specs.Ask.{ask_start, ask_goal}
use Rattle.search.specs.Conditions.{free_at}
use Rattle.board.specs.Queries.{query_at}
use Rattle.resolution.specs.Asked.{Ready, query_in}
use Rattle.resolution.specs.Listing.{listing_text, listing_of, listing_for}
use Rattle.beginnings.specs.Tables.{places_behind}
use Rattle.beginnings.specs.Beginnings.{capped, followed_count, count_of, count_for}
use Rattle.beginnings.specs.Counted.{followed_leaves}
use Rattle.beginnings.specs.Promises.{FollowedIs}
use Rattle.beginnings.proofs.Places.{count_of_lem}

-- over a table: there is no query i, or the ask is its
module _ (cells : List ℕ) (i : ℕ) where
  pub no_query_lem : length (queries_of cells) ≤ i → refused 7 ≡ count_of cells i
  unfolding count_of refuse_if
  no_query_lem h = rw (le-leb (length (queries_of cells)) i h)

  pub a_query : i < length (queries_of cells) → (block ask : List ℕ) → Ready cells block ask → query_in cells ask ≡ query_at cells i
      → (n : ℕ) → n ≡ capped (length (places_behind block (ask_goal ask) (scopes_cell block) (free_at (ask_start ask)) (ask_start ask) 0)) → done n ≡ count_of cells i
  unfolding count_of refuse_if
  a_query h block ask ready e n told = rw (lt-leb (length (queries_of cells)) i h) (ap done (told ∙ count_of_lem cells block ask ready i e))

-- the number lent for the count stays, or holds it
module _ (lent : ℕ) where
  pub not_listed : (n : ℕ) (listing count : Outcome ℕ) → refused n ≡ listing → lent ≡ followed_leaves listing count lent
  unfolding followed_leaves
  not_listed n listing count e = rw (sym e)

  pub not_counted : (size n : ℕ) (count : Outcome ℕ) → refused n ≡ count → lent ≡ followed_leaves (done size) count lent
  unfolding followed_leaves
  not_counted size n count e = rw (sym e)

  pub is_counted : (size n : ℕ) (count : Outcome ℕ) → done n ≡ count → n ≡ followed_leaves (done size) count lent
  unfolding followed_leaves
  is_counted size n count e = rw (sym e)

-- what is listed is counted
module _ (i room size : ℕ) where
  of_query : (cells : List ℕ) → answer (listing_of cells i) room ≡ done size → count_of cells i ≡ done (followed_count cells i)
  unfolding answer and_then refuse_if listing_of count_of
  of_query cells e = by (leb (length (queries_of cells)) i) e
    where
      by : (t : Bool) → answer (refuse_if t 7 (done (listing_text cells (query_at cells i)))) room ≡ done size
          → refuse_if t 7 (done (followed_count cells i)) ≡ done (followed_count cells i)
      by true f = absurd (not_done 7 size f)
      by false f = refl

  of_text : (lent : ℕ) (o : Outcome (List ℕ)) → answer (and_then o (λ cells. listing_of cells i)) room ≡ done size
      → done (followed_leaves (done size) (and_then o (λ cells. count_of cells i)) lent) ≡ and_then o (λ cells. count_of cells i)
  unfolding answer and_then followed_leaves
  of_text lent (refused n) e = absurd (not_done n size e)
  of_text lent (done cells) e = rw (of_query cells e)

pub followed_is : FollowedIs
unfolding listing_for count_for
followed_is text i room size lent e = rw e (of_text i room size lent (read_cells text) e)
