-- The meanings tell the answers apart, whatever the refusal: a contract that names the answer and
-- one that names its meaning say the same. Assumes nothing.
use Prim.Native.Nat.{ℕ}
use mathlib.Core.Path.{◌≡◌, refl, sym, ap}
use Rattle.text_field.specs.Number.{NumberFound, number_meaning}
use Rattle.text_field.specs.Name.{NameFound, name_meaning}
use Rattle.text_field.proofs.OutcomeLaws.{done_same, not_done}
use Rattle.std.specs.declared.option.Option.TheVariants.{Some, None}
use Rattle.std.specs.declared.option.Option.{Option}

pub number_told : (n : ℕ) (x y : Option (ℕ × ℕ)) → number_meaning n x ≡ number_meaning n y → x ≡ y
unfolding number_meaning
number_told n (Some (v, w)) (Some (v', w')) e =
    let q = done_same (record { value = v; next = w }) (record { value = v'; next = w' }) e
    in let a : v ≡ v' = ap (λ (f : NumberFound). f.value) q
    in let b : w ≡ w' = ap (λ (f : NumberFound). f.next) q
    in rw (a, b)
number_told n (Some (v, w)) None e = absurd (not_done n (record { value = v; next = w }) (sym e))
number_told n None (Some (v, w)) e = absurd (not_done n (record { value = v; next = w }) e)
number_told n None None e = refl

pub name_told : (n : ℕ) (x y : Option (ℕ × ℕ × ℕ)) → name_meaning n x ≡ name_meaning n y → x ≡ y
unfolding name_meaning
name_told n (Some (h, l, w)) (Some (h', l', w')) e =
    let q = done_same (record { high = h; low = l; next = w }) (record { high = h'; low = l'; next = w' }) e
    in let a : h ≡ h' = ap (λ (f : NameFound). f.high) q
    in let b : l ≡ l' = ap (λ (f : NameFound). f.low) q
    in let c : w ≡ w' = ap (λ (f : NameFound). f.next) q
    in rw (a, b, c)
name_told n (Some (h, l, w)) None e = absurd (not_done n (record { high = h; low = l; next = w }) (sym e))
name_told n None (Some (h, l, w)) e = absurd (not_done n (record { high = h; low = l; next = w }) e)
name_told n None None e = refl
