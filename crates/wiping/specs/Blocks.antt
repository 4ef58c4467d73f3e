-- What bits say of the entries of a region: of numbers, where z is 0, or of floats, where it is +0.
use Rattle.std.specs.Prelude.{◌≡◌, Bool, true, false, List, ℕ}
use Rattle.rows.specs.Region.{HoldsOf}

-- no bit is set in r where x is z, and nowhere else
pub record Tells {A : Type 0} (z x : A) (r : ℕ) : Type 0 where
  pub clean : r ≡ 0 → x ≡ z
  pub none : x ≡ z → r ≡ 0

-- no bit is set in r where each entry of the region is z, and nowhere else
pub record AnyGives {A : Type 0} (d z : A) (w : List A) (from n r : ℕ) : Type 0 where
  pub clean : r ≡ 0 → HoldsOf d from n (λ i. z) w
  pub none : HoldsOf d from n (λ i. z) w → r ≡ 0

-- b is false where each entry of the region is z, and nowhere else
pub record SomeGives {A : Type 0} (d z : A) (w : List A) (from n : ℕ) (b : Bool) : Type 0 where
  pub clean : b ≡ false → HoldsOf d from n (λ i. z) w
  pub dirty : b ≡ true → HoldsOf d from n (λ i. z) w → ⊥
