-- Reading and writing a path row are inverse to each other. Assumes nothing.
use mathlib.Core.Path.{◌≡◌, refl, sym, ap, ◌∙◌}
use mathlib.Core.Bool.{Bool, true, false, not, ◌&&◌}
use mathlib.Core.List.{List, [], ◌∷◌, ◌++◌, append_assoc, append-nil}
use Prim.Native.Nat.{ℕ, zero, suc, ◌+◌, ◌*◌, ◌≤◌, ◌<◌}
use native.Mathlib.Omega.{arith}
use lib.Dec.{ltb, leb}
use lib.ListN.{length, get_or, drop, length-append}
use lib.Seq.{drop_at, drop-drop}
use borrow.Author.Tests.{lt-ltb, le-ltb, ltb-true, ltb-false, le-leb, lt-leb, leb-true, eqb-true, not-false}
use Rattle.std.specs.declared.option.Option.{Option}
use Rattle.std.specs.declared.option.Option.TheVariants.{Some, None}
use Rattle.std.proofs.lemmas.Option.{some_pair_parts}
use Rattle.text_field.specs.Bytes.{is_digit, is_capital, within}
use Rattle.text_field.specs.Number.{number_text, number_here, number_placed, number_meaning}
use Rattle.text_field.proofs.ByteLaws.{both, clash, within_bounds}
use Rattle.text_field.proofs.NumberLaws.{NumberStands, number_found, number_back, length_below}
use Rattle.text_field.specs.Outcome.{Outcome, refused, done, and_then, refuse_if}
use Rattle.graph_rows.proofs.DecodeWay.{and_then_done, done_is}
use Rattle.graph_rows.specs.Way.{starts_with, is_empty}
use Rattle.path_row.specs.declared.form.Step.{Step}
use Rattle.path_row.specs.Form.{PathRow, most_mark, most_scope, most_steps, most_bytes, at_most, number_up_to, step_by, step_here, steps_of, after_steps, steps_width, Front, front, start_by, space_by, mark_by, head_here, row_by, row_here, front_text, step_text, steps_text, row_text, steps_made, row_made, are_steps, is_row, row_outcome, row_written, letters_in, scopes_in}
use Rattle.path_row.specs.Inverse.{ReadThenWritten, WrittenThenRead, PartsThenRead, ReadThenParts}

-- a number up to a limit
pub most_in : (most v w : ℕ) → v ≤ most → at_most most (Some (v, w)) ≡ Some (v, w)
unfolding at_most
most_in most v w h = rw (le-ltb most v h, at_most)

pub most_past : (most v w : ℕ) → most < v → at_most most (Some (v, w)) ≡ None
unfolding at_most
most_past most v w h = rw (lt-ltb most v h, at_most)

pub record UpTo (most : ℕ) (r : Option (ℕ × ℕ)) (v w : ℕ) : Type 0 where
  pub found : r ≡ Some (v, w)
  pub small : v ≤ most

pub up_found : (most : ℕ) (r : Option (ℕ × ℕ)) (v w : ℕ) → at_most most r ≡ Some (v, w) → UpTo most r v w
unfolding at_most
up_found most None v w e = absurd (let z : ◌≡◌ {A = ℕ} 0 1 = cc in omega arith)
up_found most (Some (u, k)) v w e = by (ltb most u) refl
  where
    by : (t : Bool) → ltb most u ≡ t → UpTo most (Some (u, k)) v w
    by true t = absurd (let z : ◌≡◌ {A = ℕ} 0 1 = cc (most_past most u k (ltb-true most u t)) in omega arith)
    by false t =
        let p = ltb-false most u t
        in let q : Some (u, k) ≡ Some (v, w) = sym (most_in most u k p) ∙ e
        in let n : u ≡ v = (some_pair_parts u v k w q).0
        in record { found = q; small = omega arith }

-- a step at the front
pub step_on : (x : ℕ) (s : List ℕ) → is_capital x ≡ true → step_here (x ∷ s) ≡ step_by x (number_up_to most_scope s)
unfolding step_here
step_on x s h = rw (h, step_here)

pub step_off : (x : ℕ) (s : List ℕ) → is_capital x ≡ false → step_here (x ∷ s) ≡ None
unfolding step_here
step_off x s h = rw (h, step_here)

pub record StepStands (s : List ℕ) (t : Step) (w : ℕ) : Type 0 where
  pub text : s ≡ step_text t.label t.scope ++ drop w s
  pub capital : is_capital t.label ≡ true
  pub small : t.scope ≤ 63
  pub some : 1 ≤ w
  pub inside : w ≤ length s

by_number : (y : ℕ) (s : List ℕ) (r : Option (ℕ × ℕ)) (t : Step) (w : ℕ) → is_capital y ≡ true → number_up_to most_scope s ≡ r → step_by y r ≡ Some (t, w) → StepStands (y ∷ s) t w
unfolding step_by number_up_to step_text
by_number y s None t w c e f = absurd (let z : ◌≡◌ {A = ℕ} 0 1 = cc in omega arith)
by_number y s (Some (u, k)) t w c e f =
    let q = some_pair_parts (record { label = y; scope = u }) t (suc k) w f
    in let g = up_found most_scope (number_here s) u k e
    in let n = number_found s u k g.found
    in rw (← q.0, ← q.1) (record { text = ap (λ (z : List ℕ). y ∷ z) n.whole; capital = c; small = g.small; some = omega arith; inside = omega (arith, n.inside) })

pub step_found : (s : List ℕ) (t : Step) (w : ℕ) → step_here s ≡ Some (t, w) → StepStands s t w
unfolding step_here
step_found [] t w e = absurd (let z : ◌≡◌ {A = ℕ} 0 1 = cc in omega arith)
step_found (y ∷ s) t w e = by (is_capital y) refl
  where
    by : (b : Bool) → is_capital y ≡ b → StepStands (y ∷ s) t w
    by true b = by_number y s (number_up_to most_scope s) t w b refl (sym (step_on y s b) ∙ e)
    by false b = absurd (let z : ◌≡◌ {A = ℕ} 0 1 = cc (step_off y s b) in omega arith)

-- steps at the front, one more
module _ (n : ℕ) (s : List ℕ) where
  pub steps_on : (t : Step) (w : ℕ) → step_here s ≡ Some (t, w) → steps_of (suc n) s ≡ t ∷ steps_of n (drop w s)
  unfolding steps_of
  steps_on t w e = rw (e, steps_of)

  pub steps_off : step_here s ≡ None → steps_of (suc n) s ≡ []
  unfolding steps_of
  steps_off e = rw (e, steps_of)

  pub after_on : (t : Step) (w : ℕ) → step_here s ≡ Some (t, w) → after_steps (suc n) s ≡ after_steps n (drop w s)
  unfolding after_steps
  after_on t w e = rw (e, after_steps)

  pub after_off : step_here s ≡ None → after_steps (suc n) s ≡ s
  unfolding after_steps
  after_off e = rw (e, after_steps)

  pub width_on : (t : Step) (w : ℕ) → step_here s ≡ Some (t, w) → steps_width (suc n) s ≡ w + steps_width n (drop w s)
  unfolding steps_width
  width_on t w e = rw (e, steps_width)

  pub width_off : step_here s ≡ None → steps_width (suc n) s ≡ 0
  unfolding steps_width
  width_off e = rw (e, steps_width)

pub record StepsStand (n : ℕ) (s : List ℕ) : Type 0 where
  pub text : s ≡ steps_text (steps_of n s) ++ after_steps n s
  pub steps : are_steps (steps_of n s) ≡ true
  pub few : length (steps_of n s) ≤ n

pub steps_found : (n : ℕ) (s : List ℕ) → StepsStand n s
unfolding steps_of after_steps steps_text are_steps
steps_found zero s = record { text = refl; steps = refl; few = omega arith }
steps_found (suc n) s = by (step_here s) refl (λ w. steps_found n (drop w s))
  where
    by : (o : Option (Step × ℕ)) → step_here s ≡ o → ((w : ℕ) → StepsStand n (drop w s)) → StepsStand (suc n) s
    by None e onward = record { text = rw (steps_off n s e, after_off n s e); steps = rw (steps_off n s e); few = rw (steps_off n s e) (omega arith) }
    by (Some (t, w)) e onward =
        let p = step_found s t w e
        in let q = onward w
        in record {
          text = rw (steps_on n s t w e, after_on n s t w e) (p.text ∙ ap (λ (z : List ℕ). step_text t.label t.scope ++ z) q.text ∙ sym (append_assoc (step_text t.label t.scope) (steps_text (steps_of n (drop w s))) (after_steps n (drop w s))));
          steps = rw (steps_on n s t w e) (rw (p.capital, le-leb t.scope 63 p.small) q.steps);
          few = rw (steps_on n s t w e) (omega (arith, q.few));
        }

-- a capital is no digit
no_digit : (x : ℕ) → is_capital x ≡ true → is_digit x ≡ false
unfolding is_capital is_digit within
no_digit x h = let p = within_bounds 65 90 x h in simp (le-leb 48 x (omega arith), lt-leb x 57 (omega arith))

no_digit_zero : is_digit 0 ≡ false
unfolding is_digit within
no_digit_zero = refl

starts_plain : (ss : List Step) → are_steps ss ≡ true → is_digit (get_or (steps_text ss) 0 0) ≡ false
unfolding step_text steps_text are_steps
starts_plain [] h = no_digit_zero
starts_plain (s ∷ ss) h = no_digit s.label (both (is_capital s.label) (leb s.scope most_scope && are_steps ss) h).0

-- a number up to a limit is read back, where no digit follows
up_back : (most v : ℕ) (rest : List ℕ) → v ≤ most → most ≤ 99999 → is_digit (get_or rest 0 0) ≡ false → number_up_to most (number_text v ++ rest) ≡ Some (v, (length (number_text v)))
unfolding number_up_to
up_back most v rest h m d = ap (at_most most) (number_back v rest (omega arith) d) ∙ most_in most v (length (number_text v)) h

step_back : (x v : ℕ) (rest : List ℕ) → is_capital x ≡ true → v ≤ 63 → is_digit (get_or rest 0 0) ≡ false → step_here (step_text x v ++ rest) ≡ Some (record { label = x; scope = v }, suc (length (number_text v)))
unfolding step_by step_text
step_back x v rest c h d = step_on x (number_text v ++ rest) c ∙ ap (step_by x) (up_back most_scope v rest h (omega arith) d)

pub record StepsBack (n : ℕ) (ss : List Step) : Type 0 where
  pub steps : steps_of n (steps_text ss) ≡ ss
  pub after : after_steps n (steps_text ss) ≡ []

pub steps_back : (n : ℕ) (ss : List Step) → are_steps ss ≡ true → length ss ≤ n → StepsBack n ss
unfolding steps_of after_steps step_text steps_text are_steps step_here
steps_back zero [] h l = record { steps = refl; after = refl }
steps_back (suc n) [] h l = record { steps = refl; after = refl }
steps_back zero (s ∷ ss) h l = absurd (omega arith)
steps_back (suc n) (s ∷ ss) h l =
    let p = both (is_capital s.label) (leb s.scope most_scope && are_steps ss) h
    in let q = both (leb s.scope most_scope) (are_steps ss) p.1
    in let t = step_back s.label s.scope (steps_text ss) p.0 (leb-true s.scope 63 q.0) (starts_plain ss q.1)
    in let d : drop (suc (length (number_text s.scope))) (steps_text (s ∷ ss)) ≡ steps_text ss = drop_at (number_text s.scope) (steps_text ss) (length (number_text s.scope)) refl
    in let r = steps_back n ss q.1 (omega arith)
    in record {
      steps = steps_on n (steps_text (s ∷ ss)) s (suc (length (number_text s.scope))) t ∙ ap (λ (z : List ℕ). s ∷ steps_of n z) d ∙ ap (λ (z : List Step). s ∷ z) r.steps;
      after = after_on n (steps_text (s ∷ ss)) s (suc (length (number_text s.scope))) t ∙ ap (after_steps n) d ∙ r.after;
    }

-- the front of a row
pub head_on : (m w : ℕ) (s : List ℕ) → starts_with 32 (drop w s) ≡ true → mark_by (Some (m, w)) s ≡ start_by m (w + 1) (number_up_to most_scope (drop (w + 1) s))
unfolding mark_by space_by number_meaning and_then
head_on m w s h = rw (h, space_by)

pub head_off : (m w : ℕ) (s : List ℕ) → starts_with 32 (drop w s) ≡ false → mark_by (Some (m, w)) s ≡ refused 8
unfolding mark_by space_by number_meaning and_then
head_off m w s h = rw (h, space_by)

head_parts : (m v : ℕ) (t : List ℕ) → front_text m v ++ t ≡ number_text m ++ (32 ∷ (number_text v ++ t))
unfolding front_text
head_parts m v t = append_assoc (number_text m) (32 ∷ number_text v) t

pub record HeadStands (s : List ℕ) (m v w : ℕ) : Type 0 where
  pub text : s ≡ front_text m v ++ drop w s
  pub mark : m ≤ 65535
  pub start : v ≤ 63
  pub place : w ≡ length (number_text m) + 1 + length (number_text v)

space_first : (s : List ℕ) → starts_with 32 s ≡ true → s ≡ 32 ∷ drop 1 s
unfolding starts_with
space_first [] h = absurd (clash h refl)
space_first (x ∷ s) h = ap (λ (z : ℕ). z ∷ s) (eqb-true x 32 h)

by_start : (s : List ℕ) (m w v k : ℕ) (r : Option (ℕ × ℕ)) → NumberStands s m w → m ≤ 65535 → starts_with 32 (drop w s) ≡ true
    → number_up_to most_scope (drop (w + 1) s) ≡ r → start_by m (w + 1) r ≡ done (front m v k) → HeadStands s m v k
unfolding start_by number_meaning number_placed and_then number_up_to
by_start s m w v k None n l h e f = absurd (let z : ◌≡◌ {A = ℕ} 0 1 = cc in omega arith)
by_start s m w v k (Some (u, j)) n l h e f =
    let x : front m u (w + 1 + j) ≡ front m v k = done_is f
    in let a : u ≡ v = ap (λ (h : Front). h.start) x
    in let b : w + 1 + j ≡ k = ap (λ (h : Front). h.width) x
    in let g = up_found most_scope (number_here (drop (w + 1) s)) u j e
    in let q = number_found (drop (w + 1) s) u j g.found
    in let d : drop j (drop (w + 1) s) ≡ drop k s = drop-drop j (w + 1) s ∙ ap (λ (z : ℕ). drop z s) b
    in let c : drop w s ≡ 32 ∷ drop (w + 1) s = space_first (drop w s) h ∙ ap (λ (z : List ℕ). 32 ∷ z) (drop-drop 1 w s)
    in record {
      text = n.whole ∙ ap (λ (z : List ℕ). number_text m ++ z) (c ∙ ap (λ (z : List ℕ). 32 ∷ z) (q.whole ∙ ap (λ (z : ℕ). number_text z ++ drop j (drop (w + 1) s)) a ∙ ap (λ (z : List ℕ). number_text v ++ z) d)) ∙ sym (head_parts m v (drop k s));
      mark = l;
      start = omega (arith, g.small);
      place = let c : j ≡ length (number_text v) = q.width ∙ ap (λ (z : ℕ). length (number_text z)) a in omega (arith, n.width);
    }

start_mark : (m n b v k : ℕ) (r : Option (ℕ × ℕ)) → start_by m b r ≡ done (front n v k) → m ≡ n
unfolding start_by number_meaning number_placed and_then
start_mark m n b v k None e = absurd (let z : ◌≡◌ {A = ℕ} 0 1 = cc in omega arith)
start_mark m n b v k (Some (u, j)) e = ap (λ (h : Front). h.mark) (done_is e)

no_mark : (s : List ℕ) (m v k : ℕ) → mark_by None s ≡ done (front m v k) → ⊥
unfolding mark_by number_meaning and_then
no_mark s m v k g = let z : ◌≡◌ {A = ℕ} 0 1 = cc in omega arith

by_mark : (s : List ℕ) (r : Option (ℕ × ℕ)) (m v k : ℕ) → number_up_to most_mark s ≡ r → mark_by r s ≡ done (front m v k) → HeadStands s m v k
unfolding number_up_to
by_mark s None m v k e f = absurd (no_mark s m v k f)
by_mark s (Some (n, w)) m v k e f = by (starts_with 32 (drop w s)) refl
  where
    by : (t : Bool) → starts_with 32 (drop w s) ≡ t → HeadStands s m v k
    by true t =
        let g = up_found most_mark (number_here s) n w e
        in let h : start_by n (w + 1) (number_up_to most_scope (drop (w + 1) s)) ≡ done (front m v k) = sym (head_on n w s t) ∙ f
        in let i = start_mark n m (w + 1) v k (number_up_to most_scope (drop (w + 1) s)) h
        in by_start s m w v k (number_up_to most_scope (drop (w + 1) s)) (rw i at (number_found s n w g.found)) (omega (arith, g.small)) t refl (rw i at h)
    by false t = absurd (let z : ◌≡◌ {A = ℕ} 0 1 = cc (head_off n w s t) in omega arith)

pub head_found : (s : List ℕ) (m v w : ℕ) → head_here s ≡ done (front m v w) → HeadStands s m v w
unfolding head_here
head_found s m v w e = by_mark s (number_up_to most_mark s) m v w refl e

pub refuse_done : {A : Type 0} (t : Bool) (a b : A) → refuse_if t 8 (done a) ≡ done b → (t ≡ false) × (a ≡ b)
unfolding refuse_if
refuse_done true a b e = absurd (let z : ◌≡◌ {A = ℕ} 0 1 = cc in omega arith)
refuse_done false a b e = (refl, cc)

pub refuse_through : {A : Type 0} (t : Bool) (o : Outcome A) (b : A) → refuse_if t 8 o ≡ done b → o ≡ done b
unfolding refuse_if
refuse_through true o b e = absurd (let z : ◌≡◌ {A = ℕ} 0 1 = cc in omega arith)
refuse_through false o b e = e

pub empty_is : (s : List ℕ) → is_empty s ≡ true → s ≡ []
unfolding is_empty
empty_is [] h = refl
empty_is (x ∷ s) h = absurd (clash h refl)

row_of : (s : List ℕ) (m v w : ℕ) → head_here s ≡ done (front m v w) → after_steps most_steps (drop w s) ≡ []
    → (row_text (record { mark = m; start = v; steps = steps_of most_steps (drop w s) }) ≡ s) × (is_row (record { mark = m; start = v; steps = steps_of most_steps (drop w s) }) ≡ true)
unfolding row_text is_row
row_of s m v w e n =
    let h = head_found s m v w e
    in let p = steps_found most_steps (drop w s)
    in let t : drop w s ≡ steps_text (steps_of most_steps (drop w s)) = p.text ∙ ap (λ (z : List ℕ). steps_text (steps_of most_steps (drop w s)) ++ z) n ∙ append-nil (steps_text (steps_of most_steps (drop w s)))
    in (
      sym (h.text ∙ ap (λ (z : List ℕ). front_text m v ++ z) t),
      rw (le-leb m 65535 h.mark, le-leb v 63 h.start, le-leb (length (steps_of most_steps (drop w s))) 63 p.few) p.steps,
    )

row_by_lem : (s : List ℕ) (h : Front) (r : PathRow) → head_here s ≡ done h → row_by h s ≡ done r → (row_text r ≡ s) × (is_row r ≡ true)
unfolding row_by
row_by_lem s h r e f =
    let w = h.width
    in let q = refuse_done (not (is_empty (after_steps most_steps (drop w s)))) (record { mark = h.mark; start = h.start; steps = steps_of most_steps (drop w s) }) r f
    in rw q.1 at (row_of s h.mark h.start w e (empty_is (after_steps most_steps (drop w s)) (not-false (is_empty (after_steps most_steps (drop w s))) q.0)))

-- what was read is written back byte for byte
pub read_then_written : ReadThenWritten
unfolding row_here
read_then_written s r e =
    let c = and_then_done (head_here s) (λ h. row_by h s) (refuse_through (ltb most_bytes (length s)) (and_then (head_here s) (λ h. row_by h s)) r e)
    in row_by_lem s c.0 r c.1 c.2

-- what can be written is read back
steps_short : (ss : List Step) → are_steps ss ≡ true → length (steps_text ss) ≤ 3 * length ss
unfolding step_text steps_text are_steps
steps_short [] h = omega arith
steps_short (s ∷ ss) h =
    let p = both (is_capital s.label) (leb s.scope most_scope && are_steps ss) h
    in let q = both (leb s.scope most_scope) (are_steps ss) p.1
    in let b : s.scope ≤ 63 = leb-true s.scope 63 q.0
    in let r = steps_short ss q.1
    in omega (arith, length-append (number_text s.scope) (steps_text ss), length_below 1 s.scope (omega arith))

space_plain : is_digit 32 ≡ false
unfolding is_digit within
space_plain = refl

record HeadBack (m v : ℕ) (t : List ℕ) : Type 0 where
  width : ℕ
  head : head_here (front_text m v ++ t) ≡ done (front m v width)
  rest : drop width (front_text m v ++ t) ≡ t

head_back : (m v : ℕ) (t : List ℕ) → m ≤ 65535 → v ≤ 63 → is_digit (get_or t 0 0) ≡ false → HeadBack m v t
unfolding head_here starts_with start_by number_meaning number_placed and_then
head_back m v t h g d =
    let s : List ℕ = number_text m ++ (32 ∷ (number_text v ++ t))
    in let w : ℕ = length (number_text m)
    in let a : number_up_to most_mark s ≡ Some (m, w) = up_back most_mark m (32 ∷ (number_text v ++ t)) h (omega arith) space_plain
    in let b : drop w s ≡ 32 ∷ (number_text v ++ t) = drop_at (number_text m) (32 ∷ (number_text v ++ t)) w refl
    in let c : drop (w + 1) s ≡ number_text v ++ t = sym (drop-drop 1 w s) ∙ ap (drop 1) b
    in let e : starts_with 32 (drop w s) ≡ true = ap (starts_with 32) b
    in let f : number_up_to most_scope (drop (w + 1) s) ≡ Some (v, (length (number_text v))) = ap (number_up_to most_scope) c ∙ up_back most_scope v t g (omega arith) d
    in record {
      width = w + 1 + length (number_text v);
      head = ap head_here (head_parts m v t) ∙ ap (λ (r : Option (ℕ × ℕ)). mark_by r s) a ∙ head_on m w s e ∙ ap (start_by m (w + 1)) f;
      rest = ap (drop (w + 1 + length (number_text v))) (head_parts m v t) ∙ sym (drop-drop (length (number_text v)) (w + 1) s) ∙ ap (drop (length (number_text v))) c ∙ drop_at (number_text v) t (length (number_text v)) refl;
    }

-- a row that can be written takes at most 256 bytes
pub row_short : (r : PathRow) → is_row r ≡ true → length (row_text r) ≤ 256
unfolding is_row front_text row_text
row_short r h =
    let p = both (leb r.mark most_mark) (leb r.start most_scope && (leb (length r.steps) most_steps && are_steps r.steps)) h
    in let q = both (leb r.start most_scope) (leb (length r.steps) most_steps && are_steps r.steps) p.1
    in let u = both (leb (length r.steps) most_steps) (are_steps r.steps) q.1
    in let m : r.mark ≤ 65535 = leb-true r.mark 65535 p.0
    in let v : r.start ≤ 63 = leb-true r.start 63 q.0
    in let n : length r.steps ≤ 63 = leb-true (length r.steps) 63 u.0
    in let t : List ℕ = steps_text r.steps
    in omega (arith, length-append (front_text r.mark r.start) t, length-append (number_text r.mark) (32 ∷ number_text r.start), length_below 4 r.mark (omega arith), length_below 1 r.start (omega arith), steps_short r.steps u.1)

pub written_then_read : WrittenThenRead
unfolding row_here row_by and_then is_row row_text refuse_if is_empty
written_then_read r h =
    let p = both (leb r.mark most_mark) (leb r.start most_scope && (leb (length r.steps) most_steps && are_steps r.steps)) h
    in let q = both (leb r.start most_scope) (leb (length r.steps) most_steps && are_steps r.steps) p.1
    in let u = both (leb (length r.steps) most_steps) (are_steps r.steps) q.1
    in let m : r.mark ≤ 65535 = leb-true r.mark 65535 p.0
    in let v : r.start ≤ 63 = leb-true r.start 63 q.0
    in let n : length r.steps ≤ 63 = leb-true (length r.steps) 63 u.0
    in let t : List ℕ = steps_text r.steps
    in let b = head_back r.mark r.start t m v (starts_plain r.steps u.1)
    in let k = steps_back most_steps r.steps u.1 n
    in rw (le-ltb 256 (length (row_text r)) (row_short r h), b.head, b.rest, k.after, k.steps)

-- what is written from parts is read back as the row that they make
pub parts_then_read : PartsThenRead
unfolding row_written row_outcome
parts_then_read mark start count letters scopes text e =
    let r = row_made mark start count letters scopes
    in let q = refuse_done (not (is_row r)) (row_text r) text e
    in ap row_here (sym q.1) ∙ written_then_read r (not-false (is_row r) q.0)

parts_made : (ss : List Step) → steps_made (length ss) (letters_in ss) (scopes_in ss) ≡ ss
unfolding steps_made
parts_made [] = refl
parts_made (s ∷ ss) = ap (λ (z : List Step). s ∷ z) (parts_made ss)

pub read_then_parts : ReadThenParts
unfolding row_written row_outcome row_made refuse_if
read_then_parts s r e =
    let q = read_then_written s r e
    in rw (parts_made r.steps, q.1, q.0)
