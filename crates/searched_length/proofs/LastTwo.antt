-- The lines of passes 5 and 6, each on or off, by the words after passes 1 to 4. Assumes nothing.
use mathlib.Core.Path.{◌≡◌, refl, sym, ap, ap₂, ◌∙◌, subst}
use mathlib.Core.Bool.{Bool, true, false, ◌&&◌, cond, true≢false}
use mathlib.Core.List.{List, [], ◌∷◌}
use Prim.Native.Nat.{ℕ, ◌+◌, ◌-◌, ◌*◌, ◌≤◌, ◌<◌}
use native.Mathlib.Nat.{mul-suc}
use native.Mathlib.Omega.{arith}
use lib.ListN.{length}
use lib.Ieee.{Float}
use Rattle.rules.specs.Lists.{below, filter, each}
use Rattle.rules.specs.Mesh.{Face}
use Rattle.rules.specs.State.{State}
use Rattle.rules.specs.Repair.{optional}
use Rattle.rules.specs.Pass5.{pass5}
use Rattle.rules.specs.Mending.{lines6}
use Rattle.rule_laws.proofs.Once.{Inside}
use Rattle.rule_laws.proofs.Flat.{length_points}
use Rattle.rule_laws.proofs.Digits.{decimal_short}
use Rattle.rule_laws.proofs.Counting.{count_below_le}
use Rattle.rule_laws.proofs.Lists.{length_below}
use Rattle.rule_laws.proofs.Rising.{all_imp, below_all}
use Rattle.fan_laws.specs.Sums.{sum_of, field}
use Rattle.fan_laws.specs.Opening.{opens, lost, kept, keeps, rank}
use Rattle.splitting.specs.Corners.{corner_at}
use Rattle.fan_laws.proofs.Sums.{sum_agree}
use Rattle.fan_laws.proofs.Keeping.{kept_rest}
use Rattle.fan_laws.proofs.Isolated.{isolated_length}
use Rattle.face_words.specs.Words.{stands, viewed}
use Rattle.face_words.proofs.Places.{viewed_length}
use Rattle.searched_isolated.specs.Points.{line_of, kept_length, KeptAsks}
use Rattle.searched_lost.specs.Lost.{lost_line, lost_to, LostAsks}
use Rattle.searched_lost.proofs.Losing.{line_most}
use Rattle.searched_marks.proofs.Losing.{viewed_inside}
use Rattle.searched_lines.specs.Lines.{bytes_of, Shown}
use Rattle.searched_unused.specs.Unused.{UnusedAsks, UnusedGives}
use Rattle.searched_unused.proofs.Adding.{unused_told}
use Rattle.searched_splits.specs.Splits.{SplitAsks, SplitGives}
use Rattle.searched_length.specs.Length.{EndAsks, EndGives}

-- ---- sums

sum_filter : (h : ℕ → ℕ) (p : ℕ → Bool) (xs : List ℕ) → sum_of h (filter p xs) ≡ sum_of (λ x. cond (p x) (h x) 0) xs
unfolding sum_of filter
sum_filter h p [] = refl
sum_filter h p (x ∷ xs) = go (p x) (sum_filter h p xs)
  where
    go : (b : Bool) → sum_of h (filter p xs) ≡ sum_of (λ y. cond (p y) (h y) 0) xs → sum_of h (cond b (x ∷ filter p xs) (filter p xs)) ≡ cond b (h x) 0 + sum_of (λ y. cond (p y) (h y) 0) xs
    go true e = ap (λ n. h x + n) e
    go false e = e ∙ omega arith

sum_most : (g : ℕ → ℕ) (k : ℕ) → ((x : ℕ) → g x ≤ k) → (xs : List ℕ) → sum_of g xs ≤ k * length xs
unfolding sum_of
sum_most g k h [] = omega arith
sum_most g k h (x ∷ xs) = omega (arith, h x, sum_most g k h xs, mul-suc k (length xs))

-- both tests at once
both : (a b : Bool) (n : ℕ) → cond a (cond b n 0) 0 ≡ cond (a && b) n 0
both true b n = refl
both false b n = refl

line_short : (v : ℕ) → 2 + field v ≤ 13
unfolding field
line_short v = omega (arith, decimal_short v)

-- what isolated points and lost ones need, by faces and points
abbrev rest : List Face → ℕ → ℕ
rest fs P = sum_of (λ v. cond (kept fs v) 0 (2 + field v)) (below P) + sum_of (λ id. cond (lost fs id) (2 + field (P + rank fs id)) 0) (filter (opens fs) (below (3 * length fs)))

module _ {ps : List Float} {xs w : List ℕ} {P : ℕ} (p : EndAsks ps xs w P) where
  pub unused_ask : UnusedAsks xs w P
  unused_ask = record { worded = p.asks.worded; few = p.few }

  pub split_ask : SplitAsks xs w P
  split_ask = record { worded = p.asks.worded; plain = p.low; points = p.few }

  -- as many points
  many : (m : State) → Shown ps xs w m → length m.points ≡ P
  many m q = ap length q.points ∙ length_points ps ∙ sym p.points

  pub inside : Inside P (viewed xs w)
  inside = subst (λ n. Inside n (viewed xs w)) (length_points ps ∙ sym p.points) (viewed_inside p.asks)

  pub kept_ask : KeptAsks xs w
  kept_ask = record { worded = p.asks.worded }

  -- the lines of pass 6 after pass 5
  module _ {a k : ℕ} (ea : a ≡ sum_of (λ v. 2 + field v) (below P)) (ek : k ≡ kept_length xs w) where
    left : sum_of (λ v. cond (kept (viewed xs w) v) 0 (2 + field v)) (below P) + k ≡ a
    left =
        let u : k ≡ sum_of (λ id. 2 + field (corner_at (viewed xs w) id)) (filter (keeps (viewed xs w)) (below (3 * length (viewed xs w)))) = unfold kept_length line_of in ek in
        ap (λ n. sum_of (λ v. cond (kept (viewed xs w) v) 0 (2 + field v)) (below P) + n) u ∙ kept_rest (viewed xs w) P inside (λ v. 2 + field v) ∙ sym ea

    pub kept_few : k ≤ a
    kept_few = omega (arith, left)

    pub all_few : a ≤ 13 * P
    all_few = omega (arith, ea, sum_most (λ v. 2 + field v) 13 line_short (below P), length_below P)

    module _ {l : ℕ} (el : l ≡ lost_to xs w P (3 * length (viewed xs w))) where
      pub lost_few : l ≤ 40894464
      lost_few = omega (arith, el, sum_most (lost_line xs w P) 13 (line_most xs w P) (below (3 * length (viewed xs w))), length_below (3 * length (viewed xs w)), viewed_length xs w, count_below_le (stands w) (length w), p.asks.worded.few)

      losts : l ≡ sum_of (λ id. cond (lost (viewed xs w) id) (2 + field (P + rank (viewed xs w) id)) 0) (filter (opens (viewed xs w)) (below (3 * length (viewed xs w))))
      losts =
          el
          ∙ sym
          (sum_filter (λ id. cond (lost (viewed xs w) id) (2 + field (P + rank (viewed xs w) id)) 0) (opens (viewed xs w)) (below (3 * length (viewed xs w)))
          ∙ sum_agree (λ id. cond (opens (viewed xs w) id) (cond (lost (viewed xs w) id) (2 + field (P + rank (viewed xs w) id)) 0) 0) (lost_line xs w P) (below (3 * length (viewed xs w)))
          (all_imp (λ id. id < 3 * length (viewed xs w)) (λ id. cond (opens (viewed xs w) id) (cond (lost (viewed xs w) id) (2 + field (P + rank (viewed xs w) id)) 0) 0 ≡ lost_line xs w P id) (λ id h. unfold lost_line in (both (opens (viewed xs w) id) (lost (viewed xs w) id) (2 + field (P + rank (viewed xs w) id)))) (below (3 * length (viewed xs w))) (below_all (3 * length (viewed xs w)))))

      pub six_told : (m : State) → m.faces ≡ viewed xs w → length m.points ≡ P → Inside P (viewed xs w) → a - k + l ≡ bytes_of (lines6 (pass5 m))
      six_told m ef ep i =
          let n : a - k ≡ sum_of (λ v. cond (kept (viewed xs w) v) 0 (2 + field v)) (below P) = omega (arith, left) in
          ap₂ (λ (x y : ℕ). x + y) n losts
          ∙ sym (isolated_length m (subst (λ fs. Inside (length m.points) fs) (sym ef) (subst (λ c. Inside c (viewed xs w)) (sym ep) i)) ∙ ap₂ rest ef ep)

  -- no line
  none : 0 ≡ bytes_of []
  none = unfold each in refl

  pub both_off : (split unused : Bool) → split ≡ false → unused ≡ false → EndGives split unused ps xs w 0 0
  both_off true unused e f = absurd (true≢false e)
  both_off false true e f = absurd (true≢false f)
  both_off false false e f = record { splits = λ m q. none; leaves = λ m q. none }

  pub only_six : (split unused : Bool) → split ≡ false → unused ≡ true → {r : ℕ} → UnusedGives xs w P r → EndGives split unused ps xs w 0 r
  only_six true unused e f g = absurd (true≢false e)
  only_six false false e f g = absurd (true≢false (sym f))
  only_six false true e f g = record { splits = λ m q. none; leaves = λ m q. unfold optional in (unused_told g m q.faces (many m q)) }

  module _ {w' : List ℕ} {k r : ℕ} (g : SplitGives xs w P w' k r) where
    pub only_five : (split unused : Bool) → split ≡ true → unused ≡ false → EndGives split unused ps xs w r 0
    only_five false unused e f = absurd (true≢false (sym e))
    only_five true true e f = absurd (true≢false f)
    only_five true false e f = record { splits = λ m q. g.told m q.faces (many m q) inside; leaves = λ m q. none }

    -- the corners have been gone through
    abbrev pub lost-ask : LostAsks xs w' P
    lost-ask = record { base = w; split = split_ask; stage = g.stage }

    pub both_on :
        (split unused : Bool) → split ≡ true → unused ≡ true → {t : ℕ} → ((m : State) → m.faces ≡ viewed xs w → length m.points ≡ P → Inside P (viewed xs w) → t ≡ bytes_of (lines6 (pass5 m)))
        → EndGives split unused ps xs w r t
    both_on false unused e f h = absurd (true≢false (sym e))
    both_on true false e f h = absurd (true≢false (sym f))
    both_on true true e f h = record { splits = λ m q. g.told m q.faces (many m q) inside; leaves = λ m q. unfold optional in (h m q.faces (many m q) inside) }
