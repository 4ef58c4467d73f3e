-- The parts as one room: filled again with the number that they held they are as they were, and filled with 0 the room is cleared. Assumes nothing.
use mathlib.Core.Path.{◌≡◌, sym, ap, ap₂, ◌∙◌}
use mathlib.Core.List.{List, ◌++◌, append_assoc}
use Prim.Native.Nat.{ℕ, ◌+◌, ◌-◌, ◌≤◌}
use native.Mathlib.Omega.{arith}
use lib.ListN.{length, drop, replicate, length-append, take-append-drop, replicate-append-replicate}
use lib.Seq.{take_all, drop-append-add}
use Rattle.rows.specs.Region.{Filled}
use Rattle.rows.proofs.Regions.{only_both}
use Rattle.filling.proofs.Filling.{part_same, drop_kept, cleared_is}
use Rattle.rules.specs.Rooms.{filled, cleared}
use Rattle.list_room.specs.Parts.{joined, Uniform, Changed, FillGives}

-- a row that is all one number
all_one : (xs : List ℕ) (c : ℕ) → Filled 0 (length xs) c xs → xs ≡ replicate (length xs) c
all_one xs c f = sym (take_all (length xs) xs (omega arith)) ∙ part_same {w = xs} {a = 0} (omega arith) f

-- two rows of one length that are all one number
both_one : (xs ys : List ℕ) (c : ℕ) → length xs ≡ length ys → Filled 0 (length xs) c xs → Filled 0 (length ys) c ys → xs ≡ ys
both_one xs ys c e f g = all_one xs c f ∙ ap (λ k. replicate k c) e ∙ sym (all_one ys c g)

-- two changes
pub changed_both : {xs os w xs₁ os₁ w₁ xs₂ os₂ w₂ : List ℕ} {n : ℕ} → Changed xs os w n xs₁ os₁ w₁ → Changed xs₁ os₁ w₁ n xs₂ os₂ w₂ → Changed xs os w n xs₂ os₂ w₂
changed_both p q =
    record {
      long_corners = q.long_corners ∙ p.long_corners;
      long_origins = q.long_origins ∙ p.long_origins;
      only_rest = only_both p.only_rest q.only_rest;
    }

-- filled with the number that they held
pub refilled :
    {xs os w xs₁ os₁ w₁ xs₂ os₂ w₂ : List ℕ} {n c : ℕ} → n ≤ length w → Changed xs os w n xs₁ os₁ w₁ → FillGives xs₁ os₁ w₁ n c xs₂ os₂ w₂ → Uniform xs os w n c
    → joined xs₂ os₂ w₂ ≡ joined xs os w
refilled {xs} {os} {w} {xs₂ = xs₂} {os₂ = os₂} {w₂ = w₂} {n = n} {c = c} fit h g u =
    let d = changed_both h g.changed in
    let l = d.only_rest.long in
    let x = both_one xs₂ xs c d.long_corners g.uniform.corners_are u.corners_are in
    let y = both_one os₂ os c d.long_origins g.uniform.origins_are u.origins_are in
    let z : w₂ ≡ w =
    sym (take-append-drop n w₂)
    ∙ ap₂ (λ s t. s ++ t) (part_same {w = w₂} {a = 0} (omega arith) g.uniform.rest_are ∙ sym (part_same {w = w} {a = 0} (omega arith) u.rest_are)) (drop_kept d.only_rest)
    ∙ take-append-drop n w in
    λ i. x i ++ y i ++ z i

-- zeros in three rows, and what lies behind
zeros : (a b n : ℕ) (l : List ℕ) → replicate a 0 ++ replicate b 0 ++ (replicate n 0 ++ l) ≡ replicate (a + b + n) 0 ++ l
zeros a b n l =
    sym (append_assoc (replicate a 0 ++ replicate b 0) (replicate n 0) l)
    ∙ ap (λ k. k ++ replicate n 0 ++ l) (replicate-append-replicate a b 0)
    ∙ ap (λ k. k ++ l) (replicate-append-replicate (a + b) n 0)

-- a room that is cleared
clear_is : (k : ℕ) (room : List ℕ) → cleared k room ≡ replicate k 0 ++ drop k room
unfolding cleared filled
clear_is k room = let e : k - 0 ≡ k = omega arith in ap (λ j. replicate j 0 ++ drop k room) e

-- behind two parts
drop_parts : (xs os w : List ℕ) (n : ℕ) → drop (length xs + length os + n) (xs ++ os ++ w) ≡ drop n w
drop_parts xs os w n = ap (λ j. drop (j + n) (xs ++ os ++ w)) (sym (length-append xs os)) ∙ drop-append-add (xs ++ os) w n

-- filled with 0
pub wiped :
    {xs os w xs₁ os₁ w₁ xs₂ os₂ w₂ : List ℕ} {n : ℕ} → n ≤ length w → Changed xs os w n xs₁ os₁ w₁ → FillGives xs₁ os₁ w₁ n 0 xs₂ os₂ w₂
    → (k : ℕ) → k ≡ length xs + length os + n → joined xs₂ os₂ w₂ ≡ cleared k (joined xs os w)
wiped {xs} {os} {w} {xs₂ = xs₂} {os₂ = os₂} {w₂ = w₂} {n = n} fit h g k e =
    three xs₂ os₂ w₂
    (all_one xs₂ 0 g.uniform.corners_are ∙ ap (λ j. replicate j 0) d.long_corners)
    (all_one os₂ 0 g.uniform.origins_are ∙ ap (λ j. replicate j 0) d.long_origins)
    (cleared_is fit d.only_rest g.uniform.rest_are ∙ clear_is n w)
    ∙ ap (λ j. cleared j (joined xs os w)) (sym e)
  where
    d : Changed xs os w n xs₂ os₂ w₂
    d = changed_both h g.changed

    three :
        (x y z : List ℕ) → x ≡ replicate (length xs) 0 → y ≡ replicate (length os) 0 → z ≡ replicate n 0 ++ drop n w
        → joined x y z ≡ cleared (length xs + length os + n) (joined xs os w)
    three x y z a b c =
        (λ i. a i ++ b i ++ c i) ∙ zeros (length xs) (length os) n (drop n w)
        ∙ ap (λ l. replicate (length xs + length os + n) 0 ++ l) (sym (drop_parts xs os w n))
        ∙ sym (clear_is (length xs + length os + n) (joined xs os w))
