-- The reader with sets of positions goes along with the reader with trees: what each holds at the
-- same moment. Assumes nothing.
use Prim.Native.Nat.{ℕ, ◌+◌, ◌-◌, ◌^◌, ◌<◌, ◌≤◌}
use mathlib.Core.Path.{◌≡◌, refl, sym, ap, ◌∙◌, subst}
use mathlib.Core.Bool.{Bool, true, false, ◌&&◌, ◌||◌}
use mathlib.Core.Option.{Option, some, none}
use mathlib.Core.List.{List, [], ◌∷◌}
use native.Mathlib.Omega.{arith}
use native.Mathlib.Nat.{add-zero}
use lib.ListN.{length, get_or, set, length-set, get_or-replicate}
use lib.Seq.{get_or-set_same, get_or-set_other}
use Rattle.std.specs.declared.option.Option as std
use Rattle.std.specs.declared.option.Option.TheVariants.{Some, None}
use Rattle.path_rules.specs.Sets.{has, only_if}
use Rattle.path_rules.specs.Parts.{no_part, link_cell, linked}
use Rattle.path_rules.specs.Expression.{Expr, letter, seq, alt, star, size}
use Rattle.path_rules.specs.Reading.{fresh, linked_with, merged, chosen, pushed, popped, repeated, placed}
use Rattle.path_rules.specs.declared.reading.Part.{Part}
use Rattle.path_rules.specs.declared.reading.Reading.{Reading}
use Rattle.path_rules.proofs.Fill.{tabulate_at}
use Rattle.path_rules.proofs.SetLaws.{has_or, has_only, has_none}
use Rattle.path_rules.proofs.Positions.{first, last, follow, Labelled}
use Rattle.path_rules.proofs.Trees.{seq_o, alt_o, Frame, Tree, tree}
use Rattle.path_rules.proofs.PartLaws.{size_o, last_o, follow_o, PartOf, ItemOf, or_none, seq_with_of, alt_of, star_of, letter_of_lem, empty_of, none_of, any_of, follow_seq, follow_alt, size_seq, size_alt}

-- how many letters the frames have; positions are numbered from the lowest frame on
unfoldable pub sizes : List Frame → ℕ
sizes [] = 0
sizes (f ∷ fs) = sizes fs + size_o f.0 + size_o f.1

unfoldable pub follows : List Frame → ℕ → ℕ → Bool
follows [] p x = false
follows (f ∷ fs) p x = (follows fs p x || follow_o f.0 (sizes fs) p x) || follow_o f.1 (sizes fs + size_o f.0) p x

abbrev pub LabelledO : (ℕ → ℕ) → Option Expr → ℕ → Type 0
LabelledO g none n = Unit {0}
LabelledO g (some e) n = Labelled g e n

abbrev pub LabelledS : (ℕ → ℕ) → List Frame → Type 0
LabelledS g [] = Unit {0}
LabelledS g (f ∷ fs) = LabelledS g fs × LabelledO g f.0 (sizes fs) × LabelledO g f.1 (sizes fs + size_o f.0)

abbrev pub FramesOf : List Frame → List Part → List Part → Type 0
FramesOf [] alts seqs = Unit {0}
FramesOf (f ∷ fs) alts seqs =
    FramesOf fs alts seqs × PartOf false f.0 (sizes fs) (get_or alts (length fs) no_part)
    × PartOf true f.1 (sizes fs + size_o f.0) (get_or seqs (length fs) no_part)

abbrev pub top : Tree → List Frame
top t = (t.choice, t.before) ∷ t.stack

abbrev pub label_in : List ℕ → ℕ → ℕ
label_in labels p = get_or labels p 0

pub record Tracks (t : Tree) (s : Reading) : Type 0 where
  pub depth : s.depth ≡ length t.stack
  pub letters : s.letters ≡ t.letters
  pub few : t.letters ≤ 10
  pub sized : sizes (top t) + size_o t.item ≡ t.letters
  pub choice : PartOf false t.choice (sizes t.stack) s.alt
  pub before : PartOf true t.before (sizes t.stack + size_o t.choice) s.seq
  pub item : ItemOf t.item (sizes (top t)) s.atom
  pub frames : FramesOf t.stack s.alts s.seqs
  pub alts_room : length s.alts ≡ 64
  pub seqs_room : length s.seqs ≡ 64
  pub labels_room : length s.labels ≡ 10
  pub goes_on : (p x : ℕ) → p < 10 → has (get_or s.after p 0) x ≡ (follows (top t) p x || follow_o t.item (sizes (top t)) p x)
  pub labelled : LabelledS (label_in s.labels) (top t)
  pub item_labelled : LabelledO (label_in s.labels) t.item (sizes (top t))

-- the table after a link
pub linked_at : (after : List ℕ) (lasts firsts p x : ℕ) → p < 10
    → has (get_or (linked after lasts firsts) p 0) x ≡ (has (get_or after p 0) x || (has lasts p && has firsts x))
unfolding linked link_cell
linked_at after lasts firsts p x h =
    ap (λ (v : ℕ). has v x) (tabulate_at (link_cell after lasts firsts) 10 p 0 h)
    ∙ has_or (get_or after p 0) (only_if (has lasts p) firsts) x
    ∙ ap (λ (b : Bool). has (get_or after p 0) x || b) (has_only (has lasts p) firsts x)

merge_bools : (f b i g : Bool) → (((f || b) || i) || g) ≡ ((f || ((b || g) || i)) || false)
merge_bools true b i g = refl
merge_bools false true i g = refl
merge_bools false false true true = refl
merge_bools false false true false = refl
merge_bools false false false true = refl
merge_bools false false false false = refl

-- the table after an item that may be missing is joined to the sequence before it; `f` is what
-- stands before that
linked_more : (b i : Option Expr) (n : ℕ) (f : Bool) (after : List ℕ) (s : Part) (q : std.Option Part) (p x : ℕ) → p < 10 → PartOf true b n s → ItemOf i (n + size_o b) q
    → has (get_or after p 0) x ≡ ((f || follow_o b n p x) || follow_o i (n + size_o b) p x)
    → has (get_or (linked_with after s q) p 0) x ≡ ((f || follow_o (seq_o b i) n p x) || false)
unfolding linked_with
linked_more none none n f after s None p x lt h k g = g
linked_more (some b) none n f after s None p x lt h k g = g
linked_more b none n f after s (Some q) p x lt h k g = absurd k
linked_more b (some e) n f after s None p x lt h k g = absurd k
linked_more b (some e) n f after s (Some q) p x lt h k g =
    linked_at after s.last q.first p x lt
    ∙ rw (g, h.lasts p, k.firsts x)
    (merge_bools f (follow_o b n p x) (follow e (n + size_o b) p x) (last_o b n p && first e (n + size_o b) x)
    ∙ ap (λ (y : Bool). (f || y) || false) (follow_seq b (some e) n p x))

pub tracks_merged : (t : Tree) (s : Reading) → Tracks t s
    → Tracks (tree t.choice (seq_o t.before t.item) none t.stack t.letters) (merged s)
unfolding sizes follows
tracks_merged t s h =
    let a = t.before in let b = t.item in
    let n = sizes t.stack + size_o t.choice in
    let z = h.sized in let k = size_seq a b in
    record {
      depth = h.depth;
      letters = h.letters;
      few = h.few;
      sized = omega (arith, z, k);
      choice = h.choice;
      before = seq_with_of a b n s.seq s.atom h.before h.item;
      item = tt;
      frames = h.frames;
      alts_room = h.alts_room;
      seqs_room = h.seqs_room;
      labels_room = h.labels_room;
      goes_on = λ p x lt.
          linked_more a b n (follows t.stack p x || follow_o t.choice (sizes t.stack) p x) s.after s.seq s.atom p x lt h.before h.item (h.goes_on p x lt);
      labelled = (h.labelled.0, h.labelled.1, joined_labels a b n h.labelled.2 h.item_labelled);
      item_labelled = tt;
    }
  where
    joined_labels : (a b : Option Expr) (n : ℕ) → LabelledO (label_in s.labels) a n → LabelledO (label_in s.labels) b (n + size_o a)
        → LabelledO (label_in s.labels) (seq_o a b) n
    joined_labels none b n u v = subst (LabelledO (label_in s.labels) b) (add-zero n) v
    joined_labels (some a) none n u v = u
    joined_labels (some a) (some b) n u v = (u, v)

choose_bools : (f c e : Bool) → (((f || c) || e) || false) ≡ (((f || (c || e)) || false) || false)
choose_bools true c e = refl
choose_bools false true e = refl
choose_bools false false true = refl
choose_bools false false false = refl

pub tracks_chosen : (c : Option Expr) (e : Expr) (st : List Frame) (n : ℕ) (s : Reading) → Tracks (tree c (some e) none st n) s
    → Tracks (tree (alt_o c (some e)) none none st n) (chosen s)
unfolding sizes follows
tracks_chosen c e st n s h =
    let z = h.sized in let k = size_alt c e in
    record {
      depth = h.depth;
      letters = h.letters;
      few = h.few;
      sized = omega (arith, z, k);
      choice = alt_of c e (sizes st) s.alt s.seq h.choice h.before;
      before = empty_of _;
      item = tt;
      frames = h.frames;
      alts_room = h.alts_room;
      seqs_room = h.seqs_room;
      labels_room = h.labels_room;
      goes_on = λ p x lt.
          h.goes_on p x lt
          ∙ choose_bools (follows st p x) (follow_o c (sizes st) p x) (follow e (sizes st + size_o c) p x)
          ∙ ap (λ (y : Bool). ((follows st p x || y) || false) || false) (follow_alt c e (sizes st) p x);
      labelled = (h.labelled.0, chosen_labels c h.labelled.1 h.labelled.2, tt);
      item_labelled = tt;
    }
  where
    chosen_labels : (c : Option Expr) → LabelledO (label_in s.labels) c (sizes st) → Labelled (label_in s.labels) e (sizes st + size_o c)
        → LabelledO (label_in s.labels) (alt_o c (some e)) (sizes st)
    chosen_labels none u v = subst (Labelled (label_in s.labels) e) (add-zero (sizes st)) v
    chosen_labels (some a) u v = (u, v)

frames_set : (fs : List Frame) (alts seqs : List Part) (d : ℕ) (a b : Part) → length fs ≤ d → FramesOf fs alts seqs → FramesOf fs (set alts d a) (set seqs d b)
frames_set [] alts seqs d a b h g = tt
frames_set (f ∷ fs) alts seqs d a b h g =
    let other : length fs ≡ d → ⊥ = λ e. omega arith in (
      frames_set fs alts seqs d a b (omega arith) g.0,
      subst (PartOf false f.0 (sizes fs)) (sym (get_or-set_other alts d (length fs) a no_part other)) g.1,
      subst (PartOf true f.1 (sizes fs + size_o f.0)) (sym (get_or-set_other seqs d (length fs) b no_part other)) g.2,
    )

pub tracks_pushed : (c b : Option Expr) (st : List Frame) (n : ℕ) (s : Reading) → length st < 64 → Tracks (tree c b none st n) s
    → Tracks (tree none none none ((c, b) ∷ st) n) (pushed s)
unfolding sizes follows
tracks_pushed c b st n s l h =
    let z = h.sized in let d = h.depth in let ra = h.alts_room in let rs = h.seqs_room in
    let at_a : get_or (set s.alts s.depth s.alt) (length st) no_part ≡ s.alt =
    ap (λ k. get_or (set s.alts s.depth s.alt) k no_part) (sym d) ∙ get_or-set_same s.alts s.depth s.alt no_part (omega arith) in
    let at-s : get_or (set s.seqs s.depth s.seq) (length st) no_part ≡ s.seq =
    ap (λ k. get_or (set s.seqs s.depth s.seq) k no_part) (sym d) ∙ get_or-set_same s.seqs s.depth s.seq no_part (omega arith) in
    record {
      depth = omega arith;
      letters = h.letters;
      few = h.few;
      sized = omega (arith, z);
      choice = none_of _;
      before = empty_of _;
      item = tt;
      frames = (
        frames_set st s.alts s.seqs s.depth s.alt s.seq (omega arith) h.frames,
        subst (PartOf false c (sizes st)) (sym at_a) h.choice,
        subst (PartOf true b (sizes st + size_o c)) (sym at-s) h.before,
      );
      alts_room = length-set s.alts s.depth s.alt ∙ ra;
      seqs_room = length-set s.seqs s.depth s.seq ∙ rs;
      labels_room = h.labels_room;
      goes_on = λ p x lt. h.goes_on p x lt ∙ or_none _ ∙ or_none _;
      labelled = (h.labelled, tt, tt);
      item_labelled = tt;
    }

pub tracks_popped : (v : Expr) (c b : Option Expr) (fs : List Frame) (n : ℕ) (s : Reading) → Tracks (tree (some v) none none ((c, b) ∷ fs) n) s
    → Tracks (tree c b (some v) fs n) (popped s)
unfolding sizes follows
tracks_popped v c b fs n s h =
    let z = h.sized in let d = h.depth in
    let m : s.depth - 1 ≡ length fs = omega arith in
    record {
      depth = m;
      letters = h.letters;
      few = h.few;
      sized = omega (arith, z);
      choice = subst (λ k. PartOf false c (sizes fs) (get_or s.alts k no_part)) (sym m) h.frames.1;
      before = subst (λ k. PartOf true b (sizes fs + size_o c) (get_or s.seqs k no_part)) (sym m) h.frames.2;
      item = any_of false true v _ s.alt h.choice;
      frames = h.frames.0;
      alts_room = h.alts_room;
      seqs_room = h.seqs_room;
      labels_room = h.labels_room;
      goes_on = λ p x lt. h.goes_on p x lt ∙ sym (or_none _) ∙ sym (or_none _);
      labelled = h.labelled.0;
      item_labelled = h.labelled.1;
    }

or_assoc : (a b c : Bool) → ((a || b) || c) ≡ (a || (b || c))
or_assoc true b c = refl
or_assoc false b c = refl

pub tracks_repeated : (c b : Option Expr) (a : Expr) (st : List Frame) (n : ℕ) (s : Reading) (q : Part) → Tracks (tree c b (some a) st n) s
    → PartOf true (some a) (sizes ((c, b) ∷ st)) q → Tracks (tree c b (some (star a)) st n) (repeated s q)
unfolding follow size
tracks_repeated c b a st n s q h k = record {
  depth = h.depth;
  letters = h.letters;
  few = h.few;
  sized = h.sized;
  choice = h.choice;
  before = h.before;
  item = star_of a _ q k;
  frames = h.frames;
  alts_room = h.alts_room;
  seqs_room = h.seqs_room;
  labels_room = h.labels_room;
  goes_on = λ p x lt.
      linked_at s.after q.last q.first p x lt
      ∙ rw (h.goes_on p x lt, k.lasts p, k.firsts x)
      (or_assoc (follows ((c, b) ∷ st) p x) (follow a (sizes ((c, b) ∷ st)) p x) (last a (sizes ((c, b) ∷ st)) p && first a (sizes ((c, b) ∷ st)) x));
  labelled = h.labelled;
  item_labelled = h.item_labelled;
}

-- labels past those that are there do not matter
labels_more : (f g : ℕ → ℕ) (e : Expr) (n m : ℕ) → n + size e ≤ m → ((p : ℕ) → p < m → f p ≡ g p) → Labelled f e n → Labelled g e n
unfolding size
labels_more f g (letter l) n m b h k = sym (h n (omega arith)) ∙ k
labels_more f g (seq x y) n m b h k = (labels_more f g x n m (omega arith) h k.0, labels_more f g y (n + size x) m (omega arith) h k.1)
labels_more f g (alt x y) n m b h k = (labels_more f g x n m (omega arith) h k.0, labels_more f g y (n + size x) m (omega arith) h k.1)
labels_more f g (star x) n m b h k = labels_more f g x n m b h k

labels_o_more : (f g : ℕ → ℕ) (o : Option Expr) (n m : ℕ) → n + size_o o ≤ m → ((p : ℕ) → p < m → f p ≡ g p) → LabelledO f o n → LabelledO g o n
labels_o_more f g none n m b h k = tt
labels_o_more f g (some e) n m b h k = labels_more f g e n m b h k

labels_s_more : (f g : ℕ → ℕ) (fs : List Frame) (m : ℕ) → sizes fs ≤ m → ((p : ℕ) → p < m → f p ≡ g p) → LabelledS f fs → LabelledS g fs
unfolding sizes
labels_s_more f g [] m b h k = tt
labels_s_more f g (x ∷ fs) m b h k = (
  labels_s_more f g fs m (omega arith) h k.0,
  labels_o_more f g x.0 (sizes fs) m (omega arith) h k.1,
  labels_o_more f g x.1 (sizes fs + size_o x.0) m (omega arith) h k.2,
)

pub tracks_placed : (c b : Option Expr) (st : List Frame) (n l : ℕ) (s : Reading) → n < 10 → Tracks (tree c b none st n) s
    → Tracks (tree c b (some (letter l)) st (n + 1)) (placed s l)
unfolding follow size
tracks_placed c b st n l s lt h =
    let m : sizes ((c, b) ∷ st) ≡ n = (let z = h.sized in omega (arith, z)) in
    let e : s.letters ≡ sizes ((c, b) ∷ st) = h.letters ∙ sym m in
    let r = h.labels_room in let k = h.letters in
    record {
      depth = h.depth;
      letters = omega arith;
      few = omega arith;
      sized = omega (arith, m);
      choice = h.choice;
      before = h.before;
      item = subst (λ q. PartOf true (some (letter l)) (sizes ((c, b) ∷ st)) (record { nullable = false; first = 2 ^ q; last = 2 ^ q })) (sym e) (letter_of_lem l (sizes ((c, b) ∷ st)));
      frames = h.frames;
      alts_room = h.alts_room;
      seqs_room = h.seqs_room;
      labels_room = length-set s.labels s.letters l ∙ r;
      goes_on = h.goes_on;
      labelled =
          labels_s_more _ _ ((c, b) ∷ st) n (omega (arith, m))
          (λ p q. sym (get_or-set_other s.labels s.letters p l 0 (λ y. omega arith))) h.labelled;
      item_labelled = ap (λ q. get_or (set s.labels s.letters l) q 0) (sym e) ∙ get_or-set_same s.labels s.letters l 0 (omega arith);
    }

pub tracks_fresh : Tracks (tree none none none [] 0) fresh
unfolding fresh sizes follows
tracks_fresh = record {
  depth = refl;
  letters = refl;
  few = omega arith;
  sized = refl;
  choice = none_of _;
  before = empty_of _;
  item = tt;
  frames = tt;
  alts_room = refl;
  seqs_room = refl;
  labels_room = refl;
  goes_on = λ p x lt. ap (λ (v : ℕ). has v x) (get_or-replicate 10 p 0 0 lt) ∙ has_none x;
  labelled = (tt, tt, tt);
  item_labelled = tt;
}
