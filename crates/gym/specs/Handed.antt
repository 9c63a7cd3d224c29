-- How the code has a command's words, by their number and the first three, and how it makes a
-- reply. Assumes nothing: these are definitions.
use Rattle.std.specs.Prelude.{ℕ, zero, suc, ◌≤◌, ◌≡◌, List, [], ◌∷◌, true, false, eqb, length, take, ℤ, pos}
use Rattle.text_field.specs.Buffer.{Buf, puts}
use Rattle.gym.specs.declared.replies.Given.{Given}
use Rattle.gym.specs.declared.replies.Stream.{Stream}
use Rattle.gym.specs.declared.replies.Stream.TheVariants.{Out, Err}
use Rattle.gym.specs.declared.words.Reply.{Reply}
use Rattle.gym.specs.declared.words.Reply.TheVariants.{Old, New, Judge, Compare, Rules, Count, Readers, Renumber, Was, Back, Dot, Undot, Help, Usage}
use Rattle.std.specs.declared.option.Option.{Option}
use Rattle.std.specs.declared.option.Option.TheVariants.{Some, None}
use Rattle.gym.specs.declared.words.Command.{Command}
use Rattle.gym.specs.declared.words.Command.TheVariants.{Listings, One}
use Rattle.gym.specs.Words.{Asked, list, old, new, judge, compare, rules, count, readers, renumber, was, back, dot, undot, help, usage}
use Rattle.gym.specs.Said.{Said, reply_room, answered}

-- so many arguments, the first two given. No word has more, so of three or more only their number
-- counts: an empty third one stands for all that follow.
unfoldable pub arguments : ℕ → List ℕ → List ℕ → List (List ℕ)
arguments n a b = take n (a ∷ b ∷ [] ∷ [])

-- so many words, the first three given; an absent one is not looked at
unfoldable pub handed : ℕ → List ℕ → List ℕ → List ℕ → List (List ℕ)
handed zero name a b = []
handed (suc n) name a b = name ∷ arguments n a b

-- what is asked for with as many arguments as are wanted; with more or fewer, the usage text
unfoldable pub with_so_many : ℕ → ℕ → Asked → Asked
with_so_many n wanted x = elim (eqb n wanted) [ true ↦ x | false ↦ usage ]

-- what is asked for of a query, if an argument names one
unfoldable pub queried : (ℕ → Asked) → Option ℕ → Asked
queried x (Some i) = x i
queried x None = usage

-- what a command asks for, with its arguments
unfoldable pub reply_meaning : Reply → List ℕ → List ℕ → Asked
reply_meaning Old a b = old
reply_meaning New a b = new
reply_meaning (Judge i) a b = judge i b
reply_meaning Compare a b = compare a b
reply_meaning Rules a b = rules a
reply_meaning (Count i) a b = count i
reply_meaning (Readers i) a b = readers i
reply_meaning Renumber a b = renumber
reply_meaning Was a b = was
reply_meaning Back a b = back
reply_meaning Dot a b = dot
reply_meaning Undot a b = undot
reply_meaning Help a b = help
reply_meaning Usage a b = usage

unfoldable pub meaning : Command → List ℕ → List ℕ → Asked
meaning Listings a b = list
meaning (One r) a b = reply_meaning r a b

-- what is said as a reply, made of what is given for it
abbrev pub reply_said : Reply → Given → Said
reply_said q g = answered (reply_meaning q g.first.now g.second.now) g.text.now g.more.now

-- A text was put at the front of what was lent; the room of a reply holds it whole.
pub record Replied (lent left : List ℕ) (size : ℕ) (text : List ℕ) : Type 0 where
  pub written : ◌≡◌ {A = Buf} (left, size) (puts (lent, 0) text)
  pub fits : length text ≤ reply_room

-- the number of a stream
unfoldable pub descriptor : Stream → ℤ
descriptor Out = pos 1
descriptor Err = pos 2
