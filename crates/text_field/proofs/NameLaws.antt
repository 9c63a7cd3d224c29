-- Packing and spelling names, reading and writing them, are inverse to each other. Assumes nothing.
use mathlib.Core.Path.{◌≡◌, refl, sym, ap, ◌∙◌}
use mathlib.Core.Logic.{◌↔◌}
use mathlib.Core.Bool.{Bool, true, false, ◌&&◌}
use mathlib.Core.List.{List, [], ◌∷◌, ◌++◌}
use Prim.Native.Nat.{ℕ, zero, suc, ◌+◌, ◌^◌, ◌≤◌, ◌<◌}
use native.Mathlib.Nat.{one-le-pow, pow-succ', zero-div, zero-mod}
use native.Mathlib.Omega.{arith}
use lib.Arith.{digits_lt, digits_div, digits_mod}
use lib.Dec.{leb, eqb}
use lib.ListN.{length, get_or, take, drop, length-append}
use lib.Seq.{take_at, drop_at}
use borrow.Author.Tests.{le-leb, leb-true, ne_eqb, eq-eqb, eqb-true}
use Rattle.text_field.specs.Bytes.{is_lower, is_name_byte}
use Rattle.text_field.specs.Name.{all_name_bytes, is_name, packed, pack_high, pack_low, bytes_of, before_zero, name_text, is_name_cells, name_run, name_of, name_here}
use Rattle.std.specs.List.{prefix_len}
use Rattle.std.proofs.lemmas.Option.{same_Some}
use Rattle.std.specs.declared.option.Option.{Option}
use Rattle.text_field.proofs.ByteLaws.{both, clash, lower_name_byte, name_byte_bounds}
use Rattle.std.specs.declared.option.Option.TheVariants.{Some, None}

-- the parts of a name that is read
pub record NameParts (h l n h' l' n' : ℕ) : Type 0 where
  pub high : h ≡ h'
  pub low : l ≡ l'
  pub next : n ≡ n'

pub name_parts : (h l n h' l' n' : ℕ) → ◌≡◌ {A = Option (ℕ × ℕ × ℕ)} (Some (h, l, n)) (Some (h', l', n')) → NameParts h l n h' l' n'
name_parts h l n h' l' n' e =
    let p = same_Some (h, l, n) (h', l', n') e
    in record { high = ap (λ (z : ℕ × ℕ × ℕ). z.0) p; low = ap (λ (z : ℕ × ℕ × ℕ). z.1) p; next = ap (λ (z : ℕ × ℕ × ℕ). z.2) p }

pub pow_some : (k : ℕ) → 0 < 256 ^ k
pow_some k = one-le-pow k 256 (omega arith)

pub packed_nil : (k : ℕ) → packed k [] ≡ 0
unfolding packed
packed_nil zero = refl
packed_nil (suc k) = refl

pub all_tail : (x : ℕ) (s : List ℕ) → all_name_bytes (x ∷ s) ≡ true → (is_name_byte x ≡ true) × (all_name_bytes s ≡ true)
unfolding all_name_bytes
all_tail x s h = both (is_name_byte x) (all_name_bytes s) h

pub all_drop : (k : ℕ) (s : List ℕ) → all_name_bytes s ≡ true → all_name_bytes (drop k s) ≡ true
unfolding all_name_bytes
all_drop zero s h = h
all_drop (suc k) [] h = h
all_drop (suc k) (x ∷ s) h = all_drop k s (all_tail x s h).1

pub packed_below : (k : ℕ) (s : List ℕ) → all_name_bytes s ≡ true → packed k s < 256 ^ k
unfolding packed
packed_below zero s h = pow_some 0
packed_below (suc k) [] h = pow_some (suc k)
packed_below (suc k) (x ∷ s) h = rw pow-succ' (digits_lt (name_byte_bounds x (all_tail x s h).0).1 (packed_below k s (all_tail x s h).1))

-- the first k bytes, with zeros where bytes are missing
unfoldable padded : ℕ → List ℕ → List ℕ
padded zero s = []
padded (suc k) [] = 0 ∷ padded k []
padded (suc k) (x ∷ s) = x ∷ padded k s

bytes_packed : (k : ℕ) (s : List ℕ) → all_name_bytes s ≡ true → bytes_of k (packed k s) ≡ padded k s
unfolding packed bytes_of padded all_name_bytes
bytes_packed zero s h = refl
bytes_packed (suc k) [] h = rw (zero-div, zero-mod) (ap (λ (z : List ℕ). 0 ∷ z) (rw (packed_nil k) at (bytes_packed k [] refl)))
bytes_packed (suc k) (x ∷ s) h =
    let b = packed_below k s (all_tail x s h).1
    in rw (digits_div x b, digits_mod x b) (ap (λ (z : List ℕ). x ∷ z) (bytes_packed k s (all_tail x s h).1))

pub before_on : (x : ℕ) (s : List ℕ) → 1 ≤ x → before_zero (x ∷ s) ≡ x ∷ before_zero s
unfolding before_zero
before_on x s h = rw (ne_eqb x 0 (λ e. omega arith), before_zero)

before_padded : (k : ℕ) (s : List ℕ) → all_name_bytes s ≡ true → length s ≤ k → before_zero (padded k s) ≡ s
unfolding padded before_zero
before_padded zero [] h l = refl
before_padded zero (x ∷ s) h l = absurd (omega arith)
before_padded (suc k) [] h l = refl
before_padded (suc k) (x ∷ s) h l = before_on x (padded k s) (name_byte_bounds x (all_tail x s h).0).0 ∙ ap (λ (z : List ℕ). x ∷ z) (before_padded k s (all_tail x s h).1 (omega arith))

before_cells : (j k : ℕ) (s : List ℕ) → all_name_bytes s ≡ true → length s ≤ j + k → before_zero (padded j s ++ padded k (drop j s)) ≡ s
unfolding padded before_zero
before_cells zero k s h l = before_padded k s h (omega arith)
before_cells (suc j) k [] h l = refl
before_cells (suc j) k (x ∷ s) h l =
    before_on x (padded j s ++ padded k (drop j s)) (name_byte_bounds x (all_tail x s h).0).0
    ∙ ap (λ (z : List ℕ). x ∷ z) (before_cells j k s (all_tail x s h).1 (omega arith))

-- a name's bytes are name bytes, 1 to 16 of them
pub record NameForm (s : List ℕ) : Type 0 where
  pub bytes : all_name_bytes s ≡ true
  pub some : 1 ≤ length s
  pub most : length s ≤ 16

pub name_form : (s : List ℕ) → is_name s ≡ true → NameForm s
unfolding is_name all_name_bytes
name_form [] h = absurd (clash h refl)
name_form (x ∷ s) h =
    let p = both (is_lower x) (all_name_bytes s && leb (length s) 15) h
    in let q = both (all_name_bytes s) (leb (length s) 15) p.1
    in record { bytes = rw (lower_name_byte x p.0) q.0; some = omega arith; most = omega (arith, leb-true (length s) 15 q.1) }

-- a name packed is spelled as it was
pub name_spelled : (s : List ℕ) → is_name s ≡ true → name_text (pack_high s) (pack_low s) ≡ s
unfolding name_text pack_high pack_low
name_spelled s h =
    let f = name_form s h
    in rw (bytes_packed 8 s f.bytes, bytes_packed 8 (drop 8 s) (all_drop 8 s f.bytes)) (before_cells 8 8 s f.bytes f.most)

-- packed names are equal exactly where the names are
pub names_equal : (s t : List ℕ) → is_name s ≡ true → is_name t ≡ true → ((pack_high s ≡ pack_high t) × (pack_low s ≡ pack_low t)) ↔ (s ≡ t)
names_equal s t h k = (λ e. sym (name_spelled s h) ∙ rw (e.0, e.1) (name_spelled t k), λ e. (ap pack_high e, ap pack_low e))

-- a name's packing is a name's packing
pub name_cells : (s : List ℕ) → is_name s ≡ true → is_name_cells (pack_high s) (pack_low s) ≡ true
unfolding is_name_cells
name_cells s h =
    let e = name_spelled s h
    in simp (e, h, eq-eqb (pack_high s) (pack_high s) refl, eq-eqb (pack_low s) (pack_low s) refl)

-- what two cells spell, where they are a name's packing
pub record CellsOf (high low : ℕ) : Type 0 where
  pub name : is_name (name_text high low) ≡ true
  pub high_is : pack_high (name_text high low) ≡ high
  pub low_is : pack_low (name_text high low) ≡ low

pub cells_name : (high low : ℕ) → is_name_cells high low ≡ true → CellsOf high low
unfolding is_name_cells
cells_name high low h =
    let p = both (is_name (name_text high low)) (eqb (pack_high (name_text high low)) high && eqb (pack_low (name_text high low)) low) h
    in let q = both (eqb (pack_high (name_text high low)) high) (eqb (pack_low (name_text high low)) low) p.1
    in record { name = p.0; high_is = eqb-true (pack_high (name_text high low)) high q.0; low_is = eqb-true (pack_low (name_text high low)) low q.1 }

pub run_on : (k x : ℕ) (s : List ℕ) → is_name_byte x ≡ true → name_run (suc k) (x ∷ s) ≡ x ∷ name_run k s
unfolding name_run
run_on k x s h = rw (h, name_run)

pub run_off : (k x : ℕ) (s : List ℕ) → is_name_byte x ≡ false → name_run (suc k) (x ∷ s) ≡ []
unfolding name_run
run_off k x s h = rw (h, name_run)

-- a run of name bytes is taken whole where it is not too long and no name byte follows
run_whole : (k : ℕ) (t rest : List ℕ) → all_name_bytes t ≡ true → length t ≤ k → is_name_byte (get_or rest 0 0) ≡ false → name_run k (t ++ rest) ≡ t
unfolding name_run
run_whole zero [] rest h l g = refl
run_whole zero (x ∷ t) rest h l g = absurd (omega arith)
run_whole (suc k) [] [] h l g = refl
run_whole (suc k) [] (y ∷ rest) h l g = run_off k y rest g
run_whole (suc k) (x ∷ t) rest h l g = run_on k x (t ++ rest) (all_tail x t h).0 ∙ ap (λ (z : List ℕ). x ∷ z) (run_whole k t rest (all_tail x t h).1 (omega arith) g)

-- a run is the beginning of the bytes
pub record Run (k : ℕ) (s : List ℕ) : Type 0 where
  pub rest : List ℕ
  pub text : s ≡ name_run k s ++ rest
  pub bytes : all_name_bytes (name_run k s) ≡ true
  pub most : length (name_run k s) ≤ k

pub run : (k : ℕ) (s : List ℕ) → Run k s
unfolding name_run all_name_bytes
run zero s = record { rest = s; text = refl; bytes = refl; most = omega arith }
run (suc k) [] = record { rest = []; text = refl; bytes = refl; most = omega arith }
run (suc k) (x ∷ s) = by (is_name_byte x) refl (run k s)
  where
    by : (t : Bool) → is_name_byte x ≡ t → Run k s → Run (suc k) (x ∷ s)
    by true t r =
        let e = run_on k x s t
        in record { rest = r.rest; text = rw e (ap (λ (z : List ℕ). x ∷ z) r.text); bytes = rw (e, t) r.bytes; most = rw e (omega (arith, r.most)) }
    by false t r =
        let e = run_off k x s t
        in record { rest = x ∷ s; text = rw e; bytes = rw e; most = rw e (omega arith) }

pub here_on : (x : ℕ) (s : List ℕ) → is_lower x ≡ true → name_here (x ∷ s) ≡ name_of (x ∷ name_run 15 s)
unfolding name_here
here_on x s h = rw (h, name_here)

pub here_off : (x : ℕ) (s : List ℕ) → is_lower x ≡ false → name_here (x ∷ s) ≡ None
unfolding name_here
here_off x s h = rw (h, name_here)

-- a name is read whole where no name byte follows
name_whole : (s rest : List ℕ) → is_name s ≡ true → is_name_byte (get_or rest 0 0) ≡ false → name_here (s ++ rest) ≡ name_of s
unfolding is_name
name_whole [] rest h g = absurd (clash h refl)
name_whole (x ∷ s) rest h g =
    let p = both (is_lower x) (all_name_bytes s && leb (length s) 15) h
    in let q = both (all_name_bytes s) (leb (length s) 15) p.1
    in here_on x (s ++ rest) p.0 ∙ ap (λ (z : List ℕ). name_of (x ∷ z)) (run_whole 15 s rest q.0 (leb-true (length s) 15 q.1) g)

-- how far a run goes
pub run_length : (k : ℕ) (s : List ℕ) → prefix_len is_name_byte (take k s) ≡ length (name_run k s)
unfolding name_run
run_length zero s = refl
run_length (suc k) [] = refl
run_length (suc k) (x ∷ s) = by (is_name_byte x) refl (run_length k s)
  where
    by : (t : Bool) → is_name_byte x ≡ t → prefix_len is_name_byte (take k s) ≡ length (name_run k s) → prefix_len is_name_byte (x ∷ take k s) ≡ length (name_run (suc k) (x ∷ s))
    by true t e = rw (t, run_on k x s t) (omega (arith, e))
    by false t e = rw (t, run_off k x s t)

-- the cells of a name are read back from what they spell, where no name byte follows
pub name_back : (high low : ℕ) (rest : List ℕ) → is_name_cells high low ≡ true → is_name_byte (get_or rest 0 0) ≡ false → name_here (name_text high low ++ rest) ≡ Some (high, low, length (name_text high low))
unfolding name_of
name_back high low rest h g =
    let f = cells_name high low h
    in name_whole (name_text high low) rest f.name g ∙ rw (f.high_is, f.low_is)

-- what was read as a name in w bytes
pub record NameStands (s : List ℕ) (high low w : ℕ) : Type 0 where
  pub whole : s ≡ name_text high low ++ drop w s
  pub taken : take w s ≡ name_text high low
  pub cells : is_name_cells high low ≡ true
  pub width : w ≡ length (name_text high low)
  pub inside : w ≤ length s
  pub some : 1 ≤ w
  pub most : w ≤ 16

stands : (s t rest : List ℕ) (high low w : ℕ) → is_name t ≡ true → s ≡ t ++ rest → name_of t ≡ Some (high, low, w) → NameStands s high low w
unfolding name_of
stands s t rest high low w h e o =
    let a = name_parts _ _ _ _ _ _ o
    in let p = a.high
    in let q = a.low
    in let n = a.next
    in let f = name_form t h
    in let u : t ≡ name_text high low = sym (name_spelled t h) ∙ rw (p, q)
    in let d : drop w s ≡ rest = rw e (drop_at t rest w n)
    in record {
      whole = e ∙ rw (d, ← u);
      taken = rw e (take_at t rest w n) ∙ u;
      cells = rw (← p, ← q) (name_cells t h);
      width = sym n ∙ ap length u;
      inside = omega (arith, ap length e ∙ length-append t rest, n);
      some = omega (arith, f.some, n);
      most = omega (arith, f.most, n);
    }

pub name_found : (s : List ℕ) (high low w : ℕ) → name_here s ≡ Some (high, low, w) → NameStands s high low w
unfolding name_here is_name
name_found [] high low w e = absurd (let z : ◌≡◌ {A = ℕ} 0 1 = cc in omega arith)
name_found (x ∷ s) high low w e = by (is_lower x) refl
  where
    by : (t : Bool) → is_lower x ≡ t → NameStands (x ∷ s) high low w
    by true t =
        let r = run 15 s
        in stands (x ∷ s) (x ∷ name_run 15 s) r.rest high low w (simp (t, r.bytes, le-leb (length (name_run 15 s)) 15 r.most)) (ap (λ (z : List ℕ). x ∷ z) r.text) (sym (here_on x s t) ∙ e)
    by false t = absurd (let z : ◌≡◌ {A = ℕ} 0 1 = cc (here_off x s t) in omega arith)

-- cells that are names' packings are equal where they spell one name
pub cells_equal : (high low high' low' : ℕ) → is_name_cells high low ≡ true → is_name_cells high' low' ≡ true → name_text high low ≡ name_text high' low' → (high ≡ high') × (low ≡ low')
cells_equal high low high' low' h k e =
    let f = cells_name high low h
    in let g = cells_name high' low' k
    in (sym f.high_is ∙ ap pack_high e ∙ g.high_is, sym f.low_is ∙ ap pack_low e ∙ g.low_is)

-- each cell of a name is a number of 64 bits
pub cells_below : (high low : ℕ) → is_name_cells high low ≡ true → (high < 18446744073709551616) × (low < 18446744073709551616)
unfolding pack_high pack_low
cells_below high low h =
    let f = cells_name high low h
    in let b = (name_form (name_text high low) f.name).bytes
    in (rw f.high_is at (packed_below 8 (name_text high low) b), rw f.low_is at (packed_below 8 (drop 8 (name_text high low)) (all_drop 8 (name_text high low) b)))
