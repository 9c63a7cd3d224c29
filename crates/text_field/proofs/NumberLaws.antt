-- Reading and writing numbers are inverse to each other. Assumes nothing.
use mathlib.Core.Path.{◌≡◌, refl, sym, ap, ◌∙◌}
use mathlib.Core.Bool.{Bool, true, false, not, ◌&&◌}
use mathlib.Core.List.{List, [], ◌∷◌, ◌++◌, append_assoc}
use Prim.Native.Nat.{ℕ, zero, suc, ◌+◌, ◌-◌, ◌*◌, ◌/◌, ◌%◌, ◌^◌, ◌≤◌, ◌<◌}
use native.Mathlib.Nat.{mod-eq_of_lt, div-lt_iff_lt-mul, pow-suc}
use native.Mathlib.Omega.{arith}
use lib.Arith.{digits_div, digits_mod}
use lib.Dec.{ltb, leb, eqb}
use lib.ListN.{length, get_or, take, drop, length-append}
use lib.Seq.{take_at, drop_at}
use borrow.Author.Tests.{lt-ltb, le-ltb, ltb-true, ltb-false, le-leb, ne_eqb, leb-true, eqb-false, not-true}
use Rattle.text_field.specs.Bytes.{is_digit}
use Rattle.text_field.specs.Number.{digits_of, number_text, growing, digits_from, number_here, number_placed}
use Rattle.std.proofs.lemmas.Option.{some_pair_parts}
use Rattle.text_field.proofs.ByteLaws.{both, digit_bounds, digit_in}
use Rattle.std.specs.declared.option.Option.TheVariants.{Some, None}

digits_short : (k v : ℕ) → v < 10 → digits_of k v ≡ (48 + v) ∷ []
unfolding digits_of
digits_short zero v h = rw (mod-eq_of_lt h)
digits_short (suc k) v h = rw (lt-ltb v 10 h, digits_of)

digits_long : (k v : ℕ) → 10 ≤ v → digits_of (suc k) v ≡ digits_of k (v / 10) ++ ((48 + v % 10) ∷ [])
unfolding digits_of
digits_long k v h = rw (le-ltb v 10 h, digits_of)

-- any fuel not below v gives the same digits
enough : (k l v : ℕ) → v ≤ k → v ≤ l → digits_of k v ≡ digits_of l v
enough zero l v h g = digits_short zero v (omega arith) ∙ sym (digits_short l v (omega arith))
enough (suc k) zero v h g = digits_short (suc k) v (omega arith) ∙ sym (digits_short zero v (omega arith))
enough (suc k) (suc l) v h g = by (ltb v 10) refl (enough k l (v / 10) (omega arith) (omega arith))
  where
    by : (t : Bool) → ltb v 10 ≡ t → digits_of k (v / 10) ≡ digits_of l (v / 10) → digits_of (suc k) v ≡ digits_of (suc l) v
    by true e tenth = digits_short (suc k) v (ltb-true v 10 e) ∙ sym (digits_short (suc l) v (ltb-true v 10 e))
    by false e tenth =
        digits_long k v (ltb-false v 10 e)
        ∙ ap (λ (s : List ℕ). s ++ ((48 + v % 10) ∷ [])) tenth
        ∙ sym (digits_long l v (ltb-false v 10 e))

pub number_short : (v : ℕ) → v < 10 → number_text v ≡ (48 + v) ∷ []
unfolding number_text
number_short v h = digits_short v v h

-- the digits before the last are those of the tenth part
pub number_long : (v : ℕ) → 10 ≤ v → number_text v ≡ number_text (v / 10) ++ ((48 + v % 10) ∷ [])
unfolding number_text
number_long zero h = absurd (omega arith)
number_long (suc k) h = digits_long k (suc k) h ∙ ap (λ (s : List ℕ). s ++ ((48 + suc k % 10) ∷ [])) (enough k (suc k / 10) (suc k / 10) (omega arith) (omega arith))

-- one digit more
pub number_more : (v d : ℕ) → 1 ≤ v → d < 10 → number_text (v * 10 + d) ≡ number_text v ++ ((48 + d) ∷ [])
number_more v d h k = number_long (v * 10 + d) (omega arith) ∙ rw (digits_div v {m = 10} k, digits_mod v {m = 10} k)

-- a digit that may follow is taken
pub more_on : (v w x : ℕ) (rest : List ℕ) → (is_digit x && growing v) ≡ true → digits_from v w (x ∷ rest) ≡ digits_from (v * 10 + (x - 48)) (w + 1) rest
unfolding digits_from
more_on v w x rest h = rw (h, digits_from)

pub more_off : (v w x : ℕ) (rest : List ℕ) → (is_digit x && growing v) ≡ false → digits_from v w (x ∷ rest) ≡ Some (v, w)
unfolding digits_from
more_off v w x rest h = rw (h, digits_from)

grows : (v : ℕ) → 1 ≤ v → v ≤ 9999 → growing v ≡ true
unfolding growing
grows v h k = simp (ne_eqb v 0 (λ e. omega arith), le-leb v 9999 k)

pub growing_bounds : (v : ℕ) → growing v ≡ true → (1 ≤ v) × (v ≤ 9999)
unfolding growing
growing_bounds v h =
    let p = both (not (eqb v 0)) (leb v 9999) h
    in let n = eqb-false v 0 (not-true (eqb v 0) p.0)
    in let m = leb-true v 9999 p.1
    in (omega arith, m)

pub first_on : (x : ℕ) (rest : List ℕ) → is_digit x ≡ true → number_here (x ∷ rest) ≡ digits_from (x - 48) 1 rest
unfolding number_here
first_on x rest h = rw (h, number_here)

pub first_off : (x : ℕ) (rest : List ℕ) → is_digit x ≡ false → number_here (x ∷ rest) ≡ None
unfolding number_here
first_off x rest h = rw (h, number_here)

pub length_short : (v : ℕ) → v < 10 → length (number_text v) ≡ 1
length_short v h = ap length (number_short v h)

pub length_long : (v : ℕ) → 10 ≤ v → length (number_text v) ≡ length (number_text (v / 10)) + 1
length_long v h = ap length (number_long v h) ∙ length-append (number_text (v / 10)) ((48 + v % 10) ∷ [])

digit_read : (v : ℕ) (rest : List ℕ) → v < 10 → number_here (number_text v ++ rest) ≡ digits_from v (length (number_text v)) rest
digit_read v rest h =
    let d : is_digit (48 + v) ≡ true = digit_in (48 + v) (omega arith) (omega arith)
    in let n : 48 + v - 48 ≡ v = omega arith
    in rw (number_short v h) (first_on (48 + v) rest d ∙ rw n)

-- the digits of v are read as v, whatever follows
read_digits : (k v : ℕ) (rest : List ℕ) → v ≤ k → v ≤ 99999 → number_here (number_text v ++ rest) ≡ digits_from v (length (number_text v)) rest
read_digits zero v rest h m = digit_read v rest (omega arith)
read_digits (suc k) v rest h m = by (ltb v 10) refl (read_digits k (v / 10) ((48 + v % 10) ∷ rest) (omega arith) (omega arith))
  where
    by : (t : Bool) → ltb v 10 ≡ t → number_here (number_text (v / 10) ++ ((48 + v % 10) ∷ rest)) ≡ digits_from (v / 10) (length (number_text (v / 10))) ((48 + v % 10) ∷ rest) → number_here (number_text v ++ rest) ≡ digits_from v (length (number_text v)) rest
    by true e tenth = digit_read v rest (ltb-true v 10 e)
    by false e tenth =
        let g : 10 ≤ v = ltb-false v 10 e
        in let d : is_digit (48 + v % 10) ≡ true = digit_in (48 + v % 10) (omega arith) (omega arith)
        in let q : growing (v / 10) ≡ true = grows (v / 10) (omega arith) (omega arith)
        in let n : v / 10 * 10 + (48 + v % 10 - 48) ≡ v = omega arith
        in ap (λ (s : List ℕ). number_here (s ++ rest)) (number_long v g)
        ∙ ap number_here (append_assoc (number_text (v / 10)) ((48 + v % 10) ∷ []) rest)
        ∙ tenth
        ∙ more_on (v / 10) (length (number_text (v / 10))) (48 + v % 10) rest (rw (d, q))
        ∙ rw (n, ← length_long v g)

-- v is read back, where no digit follows
pub number_back : (v : ℕ) (rest : List ℕ) → v ≤ 99999 → is_digit (get_or rest 0 0) ≡ false → number_here (number_text v ++ rest) ≡ Some (v, length (number_text v))
unfolding digits_from
number_back v rest m h = read_digits v v rest (omega arith) m ∙ stop rest h
  where
    stop : (s : List ℕ) → is_digit (get_or s 0 0) ≡ false → digits_from v (length (number_text v)) s ≡ Some (v, length (number_text v))
    stop [] k = refl
    stop (x ∷ s) k = more_off v (length (number_text v)) x s (rw k)

pub length_some : (v : ℕ) → 1 ≤ length (number_text v)
length_some v = by (ltb v 10) refl
  where
    by : (t : Bool) → ltb v 10 ≡ t → 1 ≤ length (number_text v)
    by true e = omega (arith, length_short v (ltb-true v 10 e))
    by false e = omega (arith, length_long v (ltb-false v 10 e))

pub length_below : (k v : ℕ) → v < 10 ^ suc k → length (number_text v) ≤ suc k
length_below zero v h = omega (arith, length_short v h)
length_below (suc k) v h = by (ltb v 10) refl (length_below k (v / 10) ((div-lt_iff_lt-mul (omega arith)).1 (rw pow-suc at h)))
  where
    by : (t : Bool) → ltb v 10 ≡ t → length (number_text (v / 10)) ≤ suc k → length (number_text v) ≤ suc (suc k)
    by true e tenth = omega (arith, length_short v (ltb-true v 10 e))
    by false e tenth = omega (arith, length_long v (ltb-false v 10 e))

pub length_most : (v : ℕ) → v ≤ 99999 → length (number_text v) ≤ 5
length_most v h = length_below 4 v (omega arith)

record Digits (whole : List ℕ) (v w : ℕ) : Type 0 where
  rest : List ℕ
  text : whole ≡ number_text v ++ rest
  small : v ≤ 99999
  width : w ≡ length (number_text v)

found : (s : List ℕ) (v w v' w' : ℕ) → v ≤ 99999 → w ≡ length (number_text v) → digits_from v w s ≡ Some (v', w') → Digits (number_text v ++ s) v' w'
unfolding digits_from
found [] v w v' w' m l e =
    let o = some_pair_parts v v' w w' e
    in let p = o.0
    in let q = o.1
    in record { rest = []; text = ap (λ (n : ℕ). number_text n ++ []) p; small = rw p at m; width = sym q ∙ l ∙ ap (λ (n : ℕ). length (number_text n)) p }
found (x ∷ s) v w v' w' m l e = by (is_digit x && growing v) refl (found s (v * 10 + (x - 48)) (w + 1) v' w')
  where
    by : (t : Bool) → (is_digit x && growing v) ≡ t → (v * 10 + (x - 48) ≤ 99999 → w + 1 ≡ length (number_text (v * 10 + (x - 48))) → digits_from (v * 10 + (x - 48)) (w + 1) s ≡ Some (v', w') → Digits (number_text (v * 10 + (x - 48)) ++ s) v' w') → Digits (number_text v ++ (x ∷ s)) v' w'
    by true t on =
        let p = both (is_digit x) (growing v) t
        in let b = digit_bounds x p.0
        in let g = growing_bounds v p.1
        in let d : 48 + (x - 48) ≡ x = omega arith
        in let more : number_text (v * 10 + (x - 48)) ≡ number_text v ++ (x ∷ []) = number_more v (x - 48) g.0 (omega arith) ∙ rw d
        in let r = on (omega arith) (ap (λ (n : ℕ). n + 1) l ∙ sym (ap length more ∙ length-append (number_text v) (x ∷ []))) (sym (more_on v w x s t) ∙ e)
        in record { rest = r.rest; text = sym (append_assoc (number_text v) (x ∷ []) s) ∙ ap (λ (z : List ℕ). z ++ s) (sym more) ∙ r.text; small = r.small; width = r.width }
    by false t on =
        let o = some_pair_parts v v' w w' (sym (more_off v w x s t) ∙ e)
        in let p = o.0
        in let q = o.1
        in record { rest = x ∷ s; text = ap (λ (n : ℕ). number_text n ++ (x ∷ s)) p; small = rw p at m; width = sym q ∙ l ∙ ap (λ (n : ℕ). length (number_text n)) p }

-- what was read as v in w bytes
pub record NumberStands (s : List ℕ) (v w : ℕ) : Type 0 where
  pub whole : s ≡ number_text v ++ drop w s
  pub taken : take w s ≡ number_text v
  pub small : v ≤ 99999
  pub width : w ≡ length (number_text v)
  pub inside : w ≤ length s
  pub some : 1 ≤ w
  pub most : w ≤ 5

stands : (s : List ℕ) (v w : ℕ) → Digits s v w → NumberStands s v w
stands s v w r =
    let d : drop w s ≡ r.rest = rw r.text (drop_at (number_text v) r.rest w (sym r.width))
    in record {
      whole = r.text ∙ ap (λ (z : List ℕ). number_text v ++ z) (sym d);
      taken = rw r.text (take_at (number_text v) r.rest w (sym r.width));
      small = r.small;
      width = r.width;
      inside = omega (arith, ap length r.text ∙ length-append (number_text v) r.rest, r.width);
      some = omega (arith, length_some v, r.width);
      most = omega (arith, length_most v r.small, r.width);
    }

pub number_found : (s : List ℕ) (v w : ℕ) → number_here s ≡ Some (v, w) → NumberStands s v w
unfolding number_here
number_found [] v w e = absurd (let z : ◌≡◌ {A = ℕ} 0 1 = cc in omega arith)
number_found (x ∷ s) v w e = by (is_digit x) refl
  where
    by : (t : Bool) → is_digit x ≡ t → NumberStands (x ∷ s) v w
    by true t =
        let b = digit_bounds x t
        in let d : 48 + (x - 48) ≡ x = omega arith
        in let h : number_text (x - 48) ≡ x ∷ [] = number_short (x - 48) (omega arith) ∙ rw d
        in stands (x ∷ s) v w (rw h at (found s (x - 48) 1 v w (omega arith) (sym (ap length h)) (sym (first_on x s t) ∙ e)))
    by false t = absurd (let z : ◌≡◌ {A = ℕ} 0 1 = cc (first_off x s t) in omega arith)

-- counting may start at any place
pub digits_placed : (s : List ℕ) (at v w : ℕ) → number_placed at (digits_from v w s) ≡ digits_from v (at + w) s
unfolding number_placed digits_from
digits_placed [] at v w = refl
digits_placed (x ∷ s) at v w = by (is_digit x && growing v) refl (digits_placed s at (v * 10 + (x - 48)) (w + 1))
  where
    by : (t : Bool) → (is_digit x && growing v) ≡ t → number_placed at (digits_from (v * 10 + (x - 48)) (w + 1) s) ≡ digits_from (v * 10 + (x - 48)) (at + (w + 1)) s → number_placed at (digits_from v w (x ∷ s)) ≡ digits_from v (at + w) (x ∷ s)
    by true t next =
        let p : at + (w + 1) ≡ at + w + 1 = omega arith
        in ap (number_placed at) (more_on v w x s t) ∙ next ∙ rw p (sym (more_on v (at + w) x s t))
    by false t next = ap (number_placed at) (more_off v w x s t) ∙ sym (more_off v (at + w) x s t)
