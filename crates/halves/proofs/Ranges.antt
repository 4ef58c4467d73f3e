-- The loop over ranges of keys: its beginning, a buffer that one key fills, a walk, and its end. Assumes nothing.
use mathlib.Core.Path.{◌≡◌, refl, sym, ap, ◌∙◌}
use mathlib.Core.List.{List, ◌∷◌}
use Prim.Native.Nat.{ℕ, zero, suc, ◌+◌, ◌*◌, ◌/◌, ◌%◌, ◌≤◌, ◌<◌}
use native.Mathlib.Nat.{div-add-mod', mod-lt, div-lt_iff_lt-mul, mul-add-div_right, div-eq_of_lt, mul-add-mod_self_right, mod-eq_of_lt, mul-le-mul_right}
use native.Mathlib.Omega.{arith}
use native.Mathlib.Decide.{ℕ_discrete, dec_lt}
use lib.ListN.{length, get_or}
use Rattle.refuse.specs.Accepted.{Faces}
use Rattle.std.specs.Prelude.{None, Ok, Err}
use Rattle.refuse.specs.declared.Refusal.{Refusal}
use Rattle.refuse.specs.declared.Refusal.TheVariants.{CrowdedEdge}
use Rattle.halves.specs.declared.State.{State}
use Rattle.halves.specs.Split.{hit, tally}
use Rattle.halves.specs.Scan.{users_of, users_at, edges_to, beginsTo, endsTo, Calm, Upto, Small, StartGives}
use Rattle.halves.specs.Walk.{WalkAsks, WalkGives}
use Rattle.halves.specs.Gather.{halves, GatherAsks, GatherGives, RoundsAsks, RoundsGives}
use Rattle.halves.proofs.Tallies.{hit_same, hit_other, tally_zero, tally_suc}
use Rattle.halves.proofs.Weights.{users_same, users_other}
use Rattle.halves.proofs.Scanning.{users_at_is}
use Rattle.halves.proofs.Walking.{early_more}
use Rattle.halves.proofs.Halves.{halves_sym}

-- where all have one key, its two values are all there is
tally_two : (a : List ℕ) (s n k : ℕ) → ((i : ℕ) → i < n → get_or a (s + i) 0 / 2 ≡ k) → tally a s n (2 * k) + tally a s n (2 * k + 1) ≡ n
tally_two a s zero k h = omega (arith, tally_zero a s (2 * k), tally_zero a s (2 * k + 1))
tally_two a s (suc n) k h = go (ℕ_discrete (get_or a (s + n) 0) (2 * k)) (tally_two a s n k (λ i l. h i (omega arith)))
  where
    go : Dec (get_or a (s + n) 0 ≡ 2 * k) → tally a s n (2 * k) + tally a s n (2 * k + 1) ≡ n → tally a s (suc n) (2 * k) + tally a s (suc n) (2 * k + 1) ≡ suc n
    go (yes e) r = omega (arith, tally_suc a s n (2 * k), tally_suc a s n (2 * k + 1), ap (λ (z : ℕ). hit z (2 * k)) e, hit_same (2 * k), hit_other (get_or a (s + n) 0) (2 * k + 1) (λ q. omega arith))
    go (no e) r =
        let y = h n (omega arith) in
        let o : get_or a (s + n) 0 ≡ 2 * k + 1 = omega arith in
        omega (arith, tally_suc a s n (2 * k), tally_suc a s n (2 * k + 1), ap (λ (z : ℕ). hit z (2 * k + 1)) o, hit_same (2 * k + 1), hit_other (get_or a (s + n) 0) (2 * k) e)

-- where there is a key there are points
pub points : (P k : ℕ) → k < P * P → 0 < P
points zero k h = omega arith
points (suc P) k h = omega arith

-- a key from a pair
module _ (P v u : ℕ) (h : u < P) where
  -- its vertex
  pub key_div : (v * P + u) / P ≡ v
  key_div =
      let p : 0 < P = omega arith in
      omega (arith, mul-add-div_right p v u, div-eq_of_lt h)

  -- its other end
  pub key_mod : (v * P + u) % P ≡ u
  key_mod = mul-add-mod_self_right v P u ∙ mod-eq_of_lt h

-- a key with more than four half entries is crowded, and so is the same edge seen from its other end
module _ {f : List ℕ} {P k : ℕ} (q : Faces P f) (b : k < P * P) (calm : Calm (halves f P (length f)) P k) (many : 4 < halves f P (length f) (2 * k) + halves f P (length f) (2 * k + 1)) where
  -- both ends of a key are points
  u_in : k % P < P
  u_in = mod-lt k (points P k b)

  -- the vertex too
  v_in : k / P < P
  v_in = (div-lt_iff_lt-mul (points P k b)).1 b

  -- and make up the key
  key : k / P * P + k % P ≡ k
  key = div-add-mod' k P

  -- the steps one way, from both ends
  sym₁ : halves f P (length f) (2 * k) ≡ halves f P (length f) (2 * (k % P * P + k / P) + 1)
  sym₁ = rw key at (halves_sym f P q (length f) (k / P) (k % P) (omega arith) v_in u_in)

  -- the steps the other way
  sym₂ : halves f P (length f) (2 * (k % P * P + k / P)) ≡ halves f P (length f) (2 * k + 1)
  sym₂ = rw key at (halves_sym f P q (length f) (k % P) (k / P) (omega arith) u_in v_in)

  -- from its lower end it has more than two users
  pub lower_many : k / P ≤ k % P → 2 < users_at (halves f P (length f)) P k
  lower_many l = go (ℕ_discrete (k / P) (k % P))
    where
      s : users_at (halves f P (length f)) P k ≡ users_of (k / P) (k % P) (halves f P (length f) (2 * k) + halves f P (length f) (2 * k + 1)) (halves f P (length f) (2 * k))
      s = users_at_is (halves f P (length f)) P k (halves f P (length f) (2 * k) + halves f P (length f) (2 * k + 1)) (halves f P (length f) (2 * k)) refl refl

      go : Dec (k / P ≡ k % P) → 2 < users_at (halves f P (length f)) P k
      go (no n) = omega (arith, s, users_other (k / P) (k % P) (halves f P (length f) (2 * k) + halves f P (length f) (2 * k + 1)) (halves f P (length f) (2 * k)) n)
      go (yes e) =
          let z : k % P * P + k / P ≡ k = ap (λ (x : ℕ). x * P + k / P) (sym e) ∙ ap (λ (x : ℕ). k / P * P + x) e ∙ key in
          let w : halves f P (length f) (2 * k) ≡ halves f P (length f) (2 * k + 1) = sym₁ ∙ ap (λ (x : ℕ). halves f P (length f) (2 * x + 1)) z in
          omega (arith, s, users_same (k / P) (k % P) (halves f P (length f) (2 * k) + halves f P (length f) (2 * k + 1)) (halves f P (length f) (2 * k)) e)

  -- from its higher end it would have been crowded before
  not_upper : k % P < k / P → ⊥
  not_upper l =
      let m : ℕ = k % P * P + k / P in
      let d : (k % P * P + k / P) / P ≡ k % P = key_div P (k % P) (k / P) v_in in
      let r : (k % P * P + k / P) % P ≡ k / P = key_mod P (k % P) (k / P) v_in in
      let g₀ : suc (k % P) ≤ k / P = omega arith in
      let g = mul-le-mul_right P g₀ in
      let vi = v_in in
      let ky = key in
      let few = calm.few (k % P * P + k / P) (omega arith) (omega arith) in
      let s = users_at_is (halves f P (length f)) P (k % P * P + k / P) (halves f P (length f) (2 * (k % P * P + k / P)) + halves f P (length f) (2 * (k % P * P + k / P) + 1)) (halves f P (length f) (2 * (k % P * P + k / P))) refl refl in
      let o = users_other ((k % P * P + k / P) / P) ((k % P * P + k / P) % P) (halves f P (length f) (2 * (k % P * P + k / P)) + halves f P (length f) (2 * (k % P * P + k / P) + 1)) (halves f P (length f) (2 * (k % P * P + k / P))) (λ x. omega arith) in
      omega (arith, sym₁, sym₂)

  -- so this is its lower end
  pub is_lower : k / P ≤ k % P
  is_lower = go (dec_lt (k % P) (k / P))
    where
      go : Dec (k % P < k / P) → k / P ≤ k % P
      go (yes l) = absurd (not_upper l)
      go (no l) = omega arith

-- nothing is known at first
upto_none : (c : ℕ → ℕ) (P : ℕ) → Upto c P 0 (record { unique = 0; at = 0; begins = 0; ends = 0; bad = None })
unfolding edges_to beginsTo endsTo
upto_none c P =
    record {
      calm = record { few = λ j l q. omega arith };
      counted = refl;
      at_most = omega arith;
      near = omega arith;
      begun = refl;
      ended = refl;
      none_begun = λ w h. refl;
      none_ended = λ w h. refl;
      judged = record { fair = λ w h. absurd (omega arith) };
    }

-- the start
pub started : StartGives (record { unique = 0; at = 0; begins = 0; ends = 0; bad = None })
started = record { small = record { unique = omega arith; begins = omega arith; ends = omega arith }; upto = upto_none }

-- the keys before `from` are passed
pub record Going (f : List ℕ) (P top : ℕ) (a₀ : List ℕ) (size : ℕ) (a : List ℕ) (from : ℕ) (t : State) : Type 0 where
  pub size_is : size ≡ length a₀
  pub long : length a ≡ length a₀
  pub within : from ≤ top
  pub small : Small from t
  pub upto : Upto (halves f P (length f)) P from t

-- a buffer that is long enough
pub five : (a b c d e : ℕ) (r : List ℕ) → 4 < length (a ∷ b ∷ c ∷ d ∷ e ∷ r)
five a b c d e r = omega arith

-- all keys are taken in
pub all_asks : {f : List ℕ} {P : ℕ} {t : State} {a : List ℕ} → Faces P f → StartGives t → 4 < length a → RoundsAsks f P 0 (P * P) t a
all_asks q s r = record { faces = q; order = omega arith; within = omega arith; small = s.small; upto = s.upto _ _; room = r }

-- before the first
pub begin : {f : List ℕ} {P from top : ℕ} {t : State} {a : List ℕ} → RoundsAsks f P from top t a → Going f P top a (length a) a from t
begin p = record { size_is = refl; long = refl; within = p.order; small = p.small; upto = p.upto }

module _ {f : List ℕ} {P low top : ℕ} {t₀ : State} {a₀ : List ℕ} {size : ℕ} {a : List ℕ} {from : ℕ} {t : State} (p : RoundsAsks f P low top t₀ a₀) (w : Going f P top a₀ size a from t) where
  -- after the last
  pub done : top ≤ from → RoundsGives f P top (Ok t)
  done h =
      let l = w.within in
      let e : from ≡ top = omega arith in
      record { small = rw e at w.small; told = rw e at w.upto }

  module _ (h : from < top) where
    -- the half entries of the next keys are gathered
    pub gather_asks : GatherAsks f P from top a
    gather_asks = let l = w.long in let r = p.room in record { faces = p.faces; above = h; room = omega arith }

    -- each is a key
    key_in : from < P * P
    key_in = let q = p.within in omega arith

    module _ {a₁ : List ℕ} {n to : ℕ} (g : GatherGives f P from top a a₁ n to) where
      -- one key fills the buffer: its edge is crowded
      pub full : n ≡ size → RoundsGives f P top (Err (CrowdedEdge t.unique))
      full e =
          let l = w.long in
          let s = w.size_is in
          let r = p.room in
          let i = g.holding.inside in
          let u = g.holding.full (omega arith) in
          let two = tally_two a₁ 0 n from (λ j q. let x = i.low j q in let y = i.high j q in omega arith) in
          let m = g.most in
          let many : 4 < halves f P (length f) (2 * from) + halves f P (length f) (2 * from + 1) = omega (arith, m.each (2 * from) (omega arith) (omega arith), m.each (2 * from + 1) (omega arith) (omega arith)) in
          let lower = is_lower p.faces key_in w.upto.calm many in
          record {
            small = record { unique = t.unique; is = refl; most = let s = w.small.unique in omega arith };
            told = record {
              unique = t.unique;
              is = refl;
              crowded = record { key = from; within = key_in; calm = w.upto.calm; lower = lower; many = lower_many p.faces key_in w.upto.calm many lower; counted = w.upto.counted };
            };
          }

      module _ (ne : n ≡ size → ⊥) where
        -- else all of them are there
        less : n < length a
        less = let l = w.long in let s = w.size_is in let f₁ = g.holding.fewer in omega arith

        -- and walked through
        pub walk_asks : WalkAsks a₁ 0 n from to P t
        walk_asks =
            let l = g.holding.long in
            let b = g.holding.above in
            let i = g.holding.within in
            let k = p.within in
            let m = less in
            record { fit = omega arith; points = points P from key_in; top = omega arith; order = omega arith; inside = g.holding.inside; small = w.small }

        -- a crowded edge ends the loop
        pub crowd : {a₂ : List ℕ} {e : Refusal} → WalkGives a₁ 0 n from to P t a₂ (Err e) → RoundsGives f P top (Err e)
        crowd k = record { small = early_more g.holding.within k.small; told = k.told (halves f P (length f)) (g.counts less) w.upto }

        -- else it goes on
        pub again : {a₂ : List ℕ} {r : State} → WalkGives a₁ 0 n from to P t a₂ (Ok r) → Going f P top a₀ size a₂ to r
        again k =
            record {
              size_is = w.size_is;
              long = k.only.long ∙ g.holding.long ∙ w.long;
              within = g.holding.within;
              small = k.small;
              upto = k.told (halves f P (length f)) (g.counts less) w.upto;
            }
