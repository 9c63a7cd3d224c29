-- Sets of states as the bits of a number: a set of the states below n has n bits, and a state's bit
-- says whether the test holds of it. Assumes nothing.
use Prim.Native.Nat.{ℕ, zero, suc, ◌+◌, ◌-◌, ◌*◌, ◌/◌, ◌%◌, ◌^◌, ◌≤◌, ◌<◌}
use mathlib.Core.Path.{◌≡◌, refl, sym, ap, ◌∙◌}
use mathlib.Core.Bool.{Bool, true, false, false≢true}
use mathlib.Core.Logic.{⊎_elim}
use native.Mathlib.Omega.{arith}
use native.Mathlib.Numerals.{add-one}
use native.Mathlib.Nat.{pow-suc, one-mul, zero-mul, add_comm, mul_assoc, add-mul-div_right, mul-add-mod_self_right, div-eq_of_lt, lt_of_lt_of_le}
use lib.Bits.{bit_and, bit_or, and_comm, and_shifted, or_disjoint}
use lib.Dec.{eqb}
use lib.Pow.{pow_pos, pow-add, pow_mono, high, shl_exact}
use Rattle.block.specs.Sets.{has_bit, has_state}
use Rattle.block.proofs.SetLaws.{one_shifted, state_in}
use Rattle.board.specs.Tables.{bit_if, states_below}
use Rattle.board.proofs.Fill.{below_suc}

-- a bit as a number
unfoldable pub flag : Bool → ℕ
flag true = 1
flag false = 0

pub flag_is : (b : Bool) → eqb (flag b) 1 ≡ b
unfolding flag
flag_is true = refl
flag_is false = refl

-- a bit, if so, is the flag moved to the state's place
bit_flag : (b : Bool) (q : ℕ) → bit_if b q ≡ flag b * 2 ^ q
unfolding bit_if flag
bit_flag true q = sym (one-mul (2 ^ q))
bit_flag false q = sym (zero-mul (2 ^ q))

bit_le : (b : Bool) (q : ℕ) → bit_if b q ≤ 2 ^ q
unfolding bit_if
bit_le true q = omega arith
bit_le false q = omega arith

sum_lt : (x y p w : ℕ) → x < p → y ≤ p → w ≡ p * 2 → x + y < w
sum_lt x y p w h k e = omega arith

pub states_lt : (f : ℕ → Bool) (n : ℕ) → states_below f n < 2 ^ n
unfolding states_below
states_lt f zero = pow_pos 0
states_lt f (suc n) = sum_lt (states_below f n) (bit_if (f n) n) (2 ^ n) (2 ^ suc n) (states_lt f n) (bit_le (f n) n) (pow-suc 2 n)

flag_mod : (b : Bool) → flag b % 2 ≡ flag b
unfolding flag
flag_mod true = refl
flag_mod false = refl

-- the last state's bit, and the bits before it
last_bit : (n b : ℕ) (x : Bool) → b < 2 ^ n → (b + bit_if x n) / 2 ^ n % 2 ≡ flag x
last_bit n b x h =
    ap (λ (v : ℕ). v / 2 ^ n % 2) (add_comm b (bit_if x n) ∙ ap (λ (v : ℕ). v + b) (bit_flag x n))
    ∙ ap (λ (v : ℕ). v % 2) (high (flag x) n h)
    ∙ flag_mod x

bit_above : (q d : ℕ) (x : Bool) → bit_if x (d + 1 + q) ≡ flag x * 2 ^ d * 2 * 2 ^ q
bit_above q d x =
    bit_flag x (d + 1 + q)
    ∙ ap (λ (v : ℕ). flag x * v) (pow-add 2 (d + 1) q ∙ ap (λ (v : ℕ). v * 2 ^ q) (pow-add 2 d 1))
    ∙ sym (mul_assoc (flag x) (2 ^ d * 2) (2 ^ q))
    ∙ ap (λ (v : ℕ). v * 2 ^ q) (sym (mul_assoc (flag x) (2 ^ d) 2))

above_bit : (n q b : ℕ) (x : Bool) → q < n → (b + bit_if x n) / 2 ^ q % 2 ≡ b / 2 ^ q % 2
above_bit n q b x h =
    let e : n ≡ n - suc q + 1 + q = omega arith in
    let k = flag x * 2 ^ (n - suc q) in
    ap (λ (v : ℕ). (b + v) / 2 ^ q % 2) (ap (bit_if x) e ∙ bit_above q (n - suc q) x)
    ∙ ap (λ (v : ℕ). v % 2) (add-mul-div_right b (k * 2) (pow_pos q) ∙ add_comm (b / 2 ^ q) (k * 2))
    ∙ mul-add-mod_self_right k 2 (b / 2 ^ q)

pub states_at : (f : ℕ → Bool) (n q : ℕ) → q < n → states_below f n / 2 ^ q % 2 ≡ flag (f q)
unfolding states_below
states_at f zero q h = absurd (omega arith)
states_at f (suc n) q h =
    ⊎_elim (λ (b : q < n). above_bit n q (states_below f n) (f n) b ∙ states_at f n q b)
    (λ (e : q ≡ n). rw e (last_bit n (states_below f n) (f n) (states_lt f n)))
    (below_suc q n h)

-- past the last state there is no bit
pub states_past : (f : ℕ → Bool) (n q : ℕ) → n ≤ q → states_below f n / 2 ^ q % 2 ≡ 0
states_past f n q h = ap (λ (v : ℕ). v % 2) (div-eq_of_lt (lt_of_lt_of_le (states_lt f n) (pow_mono h)))

-- the bit that the code makes, if the test holds
pub bit_so : (b : Bool) (q : ℕ) → q < 16 → b ≡ true → 1 * 2 ^ q % 18446744073709551616 ≡ bit_if b q
unfolding bit_if
bit_so true q h e = shl_exact {a = 1} 1 q 64 (omega arith) (omega arith) ∙ one-mul (2 ^ q)
bit_so false q h e = absurd (false≢true e)

pub bit_none : (b : Bool) (q : ℕ) → b ≡ false → 0 ≡ bit_if b q
unfolding bit_if
bit_none true q e = absurd (false≢true (sym e))
bit_none false q e = refl

-- a set whose states below q are gathered
pub record Gathered (f : ℕ → Bool) (q out : ℕ) : Type 0 where
  pub within : q ≤ 16
  pub states : out ≡ states_below f q

pub gathered_none : (f : ℕ → Bool) → Gathered f 0 0
unfolding states_below
gathered_none f = record { within = omega arith; states = refl }

pub gathered_next : (f : ℕ → Bool) (q out v : ℕ) → Gathered f q out → q < 16 → v ≡ bit_if (f q) q → Gathered f (q + 1) (out + v)
unfolding states_below
gathered_next f q out v g h e = record { within = omega arith; states = rw (add-one q, g.states, e) }

-- it has 16 bits, so nothing overflows
pub gathered_few : (f : ℕ → Bool) (q out v : ℕ) → Gathered f q out → q < 16 → v ≡ bit_if (f q) q → out + v < 65536
gathered_few f q out v g h e =
    let n = gathered_next f q out v g h e in
    let l = states_lt f (q + 1) in
    let s = n.states in
    let m : 2 ^ (q + 1) ≤ 65536 = pow_mono {i = q + 1} {j = 16} (omega arith) in
    omega arith

-- a state's bit stands above those below it, so that it is added as it is put
or_last : (f : ℕ → Bool) (q : ℕ) → bit_or (states_below f q) (2 ^ q) ≡ states_below f q + 2 ^ q
or_last f q =
    or_disjoint (states_below f q) (2 ^ q)
    (and_comm (states_below f q) (2 ^ q) ∙ ap (λ (v : ℕ). bit_and v (states_below f q)) (sym (one-mul (2 ^ q))) ∙ and_shifted 1 q (states_below f q) (states_lt f q))

module _ (f : ℕ → Bool) (q out : ℕ) (g : Gathered f q out) (h : q < 16) where
  pub gathered_put : f q ≡ true → Gathered f (q + 1) (bit_or out (1 * 2 ^ q % 18446744073709551616))
  unfolding bit_if
  gathered_put e =
      let bit : 2 ^ q ≡ bit_if (f q) q = rw e in
      let put : out + 2 ^ q ≡ bit_or out (1 * 2 ^ q % 18446744073709551616) =
      ap (λ (v : ℕ). v + 2 ^ q) g.states ∙ sym (or_last f q) ∙ sym (ap (λ (v : ℕ). bit_or v (2 ^ q)) g.states)
      ∙ sym (ap (bit_or out) (one_shifted q (omega arith))) in
      rw put at (gathered_next f q out (2 ^ q) g h bit)

  pub gathered_past : f q ≡ false → Gathered f (q + 1) out
  unfolding bit_if
  gathered_past e =
      let none : 0 ≡ bit_if (f q) q = rw e in
      let same : out + 0 ≡ out = omega arith in
      rw same at (gathered_next f q out 0 g h none)

pub gathered_all : (f : ℕ → Bool) (q out : ℕ) → Gathered f q out → 16 ≤ q → out ≡ states_below f 16
gathered_all f q out g h = let w = g.within in let e : q ≡ 16 = omega arith in g.states ∙ ap (states_below f) e

-- a state of the set
pub states_are : (f : ℕ → Bool) (q : ℕ) → q < 16 → has_state (states_below f 16) q ≡ f q
unfolding has_bit
states_are f q h = state_in (states_below f 16) q h ∙ ap (λ v. eqb v 1) (states_at f 16 q h) ∙ flag_is (f q)
