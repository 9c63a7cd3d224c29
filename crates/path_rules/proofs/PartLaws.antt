-- What is kept of a part is what its positions say. Assumes nothing.
use Prim.Native.Nat.{ℕ, ◌+◌, ◌^◌}
use mathlib.Core.Path.{◌≡◌, refl, sym, ap, ◌∙◌}
use mathlib.Core.Bool.{Bool, true, false, ◌&&◌, ◌||◌}
use mathlib.Core.Option.{Option, some, none}
use native.Mathlib.Omega.{arith}
use native.Mathlib.Nat.{add-zero}
use Rattle.std.specs.Option.{is_some}
use Rattle.std.specs.declared.option.Option as std
use Rattle.std.specs.declared.option.Option.TheVariants.{Some, None}
use Rattle.path_rules.specs.Sets.{has, only_if}
use Rattle.path_rules.specs.Parts.{empty_part, no_part, letter_part, seq_part, alt_part, star_part}
use Rattle.path_rules.specs.Reading.{seq_with}
use Rattle.path_rules.specs.Expression.{Expr, letter, star, size}
use Rattle.path_rules.specs.declared.reading.Part.{Part}
use Rattle.path_rules.proofs.SetLaws.{has_or, has_only, has_none, has_one}
use Rattle.path_rules.proofs.Positions.{nullable, first, last, follow}
use Rattle.path_rules.proofs.Trees.{seq_o, alt_o}

-- of an expression that may be missing; `u` says whether what is missing counts as the empty word
abbrev pub size_o : Option Expr → ℕ
size_o none = 0
size_o (some e) = size e

abbrev pub null_o : Bool → Option Expr → Bool
null_o u none = u
null_o u (some e) = nullable e

abbrev pub first_o : Option Expr → ℕ → ℕ → Bool
first_o none n x = false
first_o (some e) n x = first e n x

abbrev pub last_o : Option Expr → ℕ → ℕ → Bool
last_o none n x = false
last_o (some e) n x = last e n x

abbrev pub follow_o : Option Expr → ℕ → ℕ → ℕ → Bool
follow_o none n p x = false
follow_o (some e) n p x = follow e n p x

-- the part is that of the expression, whose positions are numbered from n on
pub record PartOf (u : Bool) (o : Option Expr) (n : ℕ) (part : Part) : Type 0 where
  pub null : part.nullable ≡ null_o u o
  pub firsts : (x : ℕ) → has part.first x ≡ first_o o n x
  pub lasts : (x : ℕ) → has part.last x ≡ last_o o n x

-- the item being read, and its part: there are both or neither
abbrev pub ItemOf : Option Expr → ℕ → std.Option Part → Type 0
ItemOf none n None = Unit {0}
ItemOf none n (Some p) = ⊥
ItemOf (some e) n None = ⊥
ItemOf (some e) n (Some p) = PartOf true (some e) n p

abbrev pub there : Option Expr → Bool
there none = false
there (some e) = true

pub item_there : (i : Option Expr) (n : ℕ) (q : std.Option Part) → ItemOf i n q → is_some q ≡ there i
item_there none n None h = refl
item_there none n (Some q) h = absurd h
item_there (some e) n None h = absurd h
item_there (some e) n (Some q) h = refl

and_true : (b : Bool) → b ≡ (b && true)
and_true true = refl
and_true false = refl

and_none : (b : Bool) → (b && false) ≡ false
and_none true = refl
and_none false = refl

pub or_none : (b : Bool) → b ≡ (b || false)
or_none true = refl
or_none false = refl

or_nothing : (b c : Bool) → b ≡ (b || (c && false))
or_nothing true c = refl
or_nothing false true = refl
or_nothing false false = refl

null_seq : (a b : Option Expr) → (null_o true a && null_o true b) ≡ null_o true (seq_o a b)
unfolding nullable
null_seq none b = refl
null_seq (some a) none = sym (and_true (nullable a))
null_seq (some a) (some b) = refl

first_seq : (a b : Option Expr) (n x : ℕ) → (first_o a n x || (null_o true a && first_o b (n + size_o a) x)) ≡ first_o (seq_o a b) n x
unfolding first
first_seq none b n x = ap (λ k. first_o b k x) (add-zero n)
first_seq (some a) none n x = sym (or_nothing (first a n x) (nullable a))
first_seq (some a) (some b) n x = refl

last_seq : (a b : Option Expr) (n x : ℕ) → (last_o b (n + size_o a) x || (null_o true b && last_o a n x)) ≡ last_o (seq_o a b) n x
unfolding last
last_seq none b n x = sym (or_nothing (last_o b (n + 0) x) (null_o true b)) ∙ ap (λ k. last_o b k x) (add-zero n)
last_seq (some a) none n x = refl
last_seq (some a) (some b) n x = refl

pub seq_of : (a b : Option Expr) (n : ℕ) (p q : Part) → PartOf true a n p → PartOf true b (n + size_o a) q → PartOf true (seq_o a b) n (seq_part p q)
seq_of a b n p q h k = record {
  null = rw (h.null, k.null) (null_seq a b);
  firsts = λ x.
      has_or p.first (only_if p.nullable q.first) x
      ∙ rw (has_only p.nullable q.first x, h.firsts x, k.firsts x, h.null) (first_seq a b n x);
  lasts = λ x.
      has_or q.last (only_if q.nullable p.last) x
      ∙ rw (has_only q.nullable p.last x, h.lasts x, k.lasts x, k.null) (last_seq a b n x);
}

-- with an item that may be missing
pub seq_with_of : (b i : Option Expr) (n : ℕ) (p : Part) (q : std.Option Part) → PartOf true b n p → ItemOf i (n + size_o b) q
    → PartOf true (seq_o b i) n (seq_with p q)
unfolding seq_with
seq_with_of none none n p None h k = h
seq_with_of (some b) none n p None h k = h
seq_with_of b none n p (Some q) h k = absurd k
seq_with_of b (some e) n p None h k = absurd k
seq_with_of b (some e) n p (Some q) h k = seq_of b (some e) n p q h k

null_alt : (a : Option Expr) (e : Expr) → (null_o false a || nullable e) ≡ null_o false (alt_o a (some e))
unfolding nullable
null_alt none e = refl
null_alt (some a) e = refl

first_alt : (a : Option Expr) (e : Expr) (n x : ℕ) → (first_o a n x || first e (n + size_o a) x) ≡ first_o (alt_o a (some e)) n x
unfolding first
first_alt none e n x = ap (λ k. first e k x) (add-zero n)
first_alt (some a) e n x = refl

last_alt : (a : Option Expr) (e : Expr) (n x : ℕ) → (last_o a n x || last e (n + size_o a) x) ≡ last_o (alt_o a (some e)) n x
unfolding last
last_alt none e n x = ap (λ k. last e k x) (add-zero n)
last_alt (some a) e n x = refl

pub alt_of : (a : Option Expr) (e : Expr) (n : ℕ) (p q : Part) → PartOf false a n p → PartOf true (some e) (n + size_o a) q
    → PartOf false (alt_o a (some e)) n (alt_part p q)
alt_of a e n p q h k = record {
  null = rw (h.null, k.null) (null_alt a e);
  firsts = λ x. has_or p.first q.first x ∙ rw (h.firsts x, k.firsts x) (first_alt a e n x);
  lasts = λ x. has_or p.last q.last x ∙ rw (h.lasts x, k.lasts x) (last_alt a e n x);
}

pub star_of : (a : Expr) (n : ℕ) (p : Part) → PartOf true (some a) n p → PartOf true (some (star a)) n (star_part p)
unfolding nullable first last
star_of a n p h = record { null = refl; firsts = h.firsts; lasts = h.lasts }

pub letter_of_lem : (l n : ℕ) → PartOf true (some (letter l)) n (letter_part (2 ^ n))
unfolding nullable first last
letter_of_lem l n = record { null = refl; firsts = λ x. has_one n x; lasts = λ x. has_one n x }

pub empty_of : (n : ℕ) → PartOf true none n empty_part
empty_of n = record { null = refl; firsts = λ x. has_none x; lasts = λ x. has_none x }

pub none_of : (n : ℕ) → PartOf false none n no_part
none_of n = record { null = refl; firsts = λ x. has_none x; lasts = λ x. has_none x }

-- for one that is there it does not matter what a missing one counts as
pub any_of : (u v : Bool) (e : Expr) (n : ℕ) (p : Part) → PartOf u (some e) n p → PartOf v (some e) n p
any_of u v e n p h = record { null = h.null; firsts = h.firsts; lasts = h.lasts }

-- what may follow what
pub follow_seq : (a b : Option Expr) (n p x : ℕ)
    → ((follow_o a n p x || (last_o a n p && first_o b (n + size_o a) x)) || follow_o b (n + size_o a) p x) ≡ follow_o (seq_o a b) n p x
unfolding follow
follow_seq none b n p x = ap (λ k. follow_o b k p x) (add-zero n)
follow_seq (some a) none n p x = sym (or_none _) ∙ sym (or_nothing (follow a n p x) (last a n p))
follow_seq (some a) (some b) n p x = refl

pub follow_alt : (a : Option Expr) (e : Expr) (n p x : ℕ) → (follow_o a n p x || follow e (n + size_o a) p x) ≡ follow_o (alt_o a (some e)) n p x
unfolding follow
follow_alt none e n p x = ap (λ k. follow e k p x) (add-zero n)
follow_alt (some a) e n p x = refl

pub size_seq : (a b : Option Expr) → size_o a + size_o b ≡ size_o (seq_o a b)
unfolding size
size_seq none b = omega arith
size_seq (some a) none = omega arith
size_seq (some a) (some b) = refl

pub size_alt : (a : Option Expr) (e : Expr) → size_o a + size e ≡ size_o (alt_o a (some e))
unfolding size
size_alt none e = omega arith
size_alt (some a) e = refl
