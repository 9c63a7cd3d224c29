-- Laws of the classes of bytes, and of tests joined. Assumes nothing.
use mathlib.Core.Path.{◌≡◌, refl, sym, ◌∙◌}
use mathlib.Core.Bool.{Bool, true, false, ◌&&◌, ◌||◌}
use mathlib.Core.List.{List, [], ◌∷◌}
use Prim.Native.Nat.{ℕ, zero, suc, ◌≤◌, ◌<◌}
use native.Mathlib.Omega.{arith}
use lib.Dec.{leb, eqb}
use lib.ListN.{length, get_or}
use borrow.Author.Tests.{leb-true, le-leb, lt-leb, eqb-true}
use Rattle.text_field.specs.Bytes.{within, is_digit, is_lower, is_name_byte}

pub both : (a b : Bool) → (a && b) ≡ true → (a ≡ true) × (b ≡ true)
both true b h = (refl, h)
both false b h = absurd (false_true h)
  where
    false_true : false ≡ true → ⊥
    false_true e = let z : ◌≡◌ {A = ℕ} 0 1 = cc in omega arith

pub clash : {b : Bool} → b ≡ true → b ≡ false → ⊥
clash {b} p q = let z : ◌≡◌ {A = ℕ} 0 1 = cc in omega arith

-- a test that is true where another is, and the other way round, is the same test
pub same_test : (a b : Bool) → (a ≡ true → b ≡ true) → (b ≡ true → a ≡ true) → a ≡ b
same_test true b f g = sym (f refl)
same_test false true f g = g refl
same_test false false f g = refl

module _ (low high x : ℕ) where
  pub within_bounds : within low high x ≡ true → (low ≤ x) × (x ≤ high)
  unfolding within
  within_bounds h = let p = both (leb low x) (leb x high) h in (leb-true low x p.0, leb-true x high p.1)

  pub within_in : low ≤ x → x ≤ high → within low high x ≡ true
  unfolding within
  within_in h k = simp (le-leb low x h, le-leb x high k)

  pub within_below : x < low → within low high x ≡ false
  unfolding within
  within_below h = simp (lt-leb low x h)

pub digit_bounds : (x : ℕ) → is_digit x ≡ true → (48 ≤ x) × (x ≤ 57)
unfolding is_digit
digit_bounds x h = within_bounds 48 57 x h

pub digit_in : (d : ℕ) → 48 ≤ d → d ≤ 57 → is_digit d ≡ true
unfolding is_digit
digit_in d h k = within_in 48 57 d h k

pub lower_bounds : (x : ℕ) → is_lower x ≡ true → (97 ≤ x) × (x ≤ 122)
unfolding is_lower
lower_bounds x h = within_bounds 97 122 x h

-- a name's byte is not 0, and is a byte
pub name_byte_bounds : (x : ℕ) → is_name_byte x ≡ true → (1 ≤ x) × (x < 256)
unfolding is_name_byte
name_byte_bounds x h = by (is_lower x) refl (is_digit x) refl (eqb x 95) refl h
  where
    by : (a : Bool) → is_lower x ≡ a → (b : Bool) → is_digit x ≡ b → (d : Bool) → eqb x 95 ≡ d → (a || (b || d)) ≡ true → (1 ≤ x) × (x < 256)
    by true e b f d g k = let p = lower_bounds x e in (omega arith, omega arith)
    by false e true f d g k = let p = digit_bounds x f in (omega arith, omega arith)
    by false e false f true g k = let p = eqb-true x 95 g in (omega arith, omega arith)
    by false e false f false g k = absurd (clash k refl)

pub lower_name_byte : (x : ℕ) → is_lower x ≡ true → is_name_byte x ≡ true
unfolding is_name_byte
lower_name_byte x h = simp h

-- within the list the default is not read
pub get_d_any : (s : List ℕ) (i d e : ℕ) → i < length s → get_or s i d ≡ get_or s i e
get_d_any [] i d e h = absurd (omega arith)
get_d_any (x ∷ s) zero d e h = refl
get_d_any (x ∷ s) (suc i) d e h = get_d_any s i d e (omega arith)

-- a joined test, as code goes through it: r is what the first test gave, x what the second gives
module _ (r a b x : Bool) (e : r ≡ a) where
  pub and_first : r ≡ false → r ≡ (a && b)
  and_first h = h ∙ rw (sym e ∙ h)

  pub and_second : r ≡ true → x ≡ b → x ≡ (a && b)
  and_second h f = f ∙ rw (sym e ∙ h)

  pub or_first : r ≡ true → r ≡ (a || b)
  or_first h = h ∙ rw (sym e ∙ h)

  pub or_second : r ≡ false → x ≡ b → x ≡ (a || b)
  or_second h f = f ∙ rw (sym e ∙ h)
