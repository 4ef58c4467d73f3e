-- All lines together: the bits say which points are used when the `u` lines begin. Assumes nothing.
use mathlib.Core.Path.{◌≡◌, refl, sym, ap, ◌∙◌, subst}
use mathlib.Core.Bool.{Bool, true, false, ◌&&◌, ◌||◌}
use mathlib.Core.List.{List, [], ◌∷◌}
use Prim.Native.Nat.{ℕ, zero, suc, ◌+◌, ◌*◌, ◌/◌, ◌≤◌, ◌<◌}
use native.Mathlib.Omega.{arith}
use borrow.Author.Tests.{ltb-true, ltb-false, lt-ltb, eq-eqb, ne_eqb}
use lib.Dec.{T, eqb, ltb}
use lib.Ieee.Fits.{and_i}
use lib.ListN.{length, get_or, replicate, length-replicate, get_or-replicate, get_or-eq_default}
use Rattle.rules.specs.Lists.{below, any, has}
use Rattle.rules.specs.Mesh.{Point, corners}
use Rattle.rules.specs.Pass6.{used}
use Rattle.rules.specs.Applying.{Bench, present_with, precedes}
use Rattle.rule_laws.proofs.Members.{any_intro, any_mem, all_in, mem_below, below_mem}
use Rattle.rule_laws.proofs.Tests.{and_elim, both_ways}
use Rattle.refuse.specs.Accepted as input
use Rattle.std.specs.Prelude.{Result, Ok, Err, ⊤}
use Rattle.refuse.specs.Verdicts.{place_of}
use Rattle.refuse.specs.declared.Refusal.{Refusal}
use Rattle.point_bits.specs.Bits.{bit}
use Rattle.face_marks.specs.Marks.{here, free, keeps, UsedAsks, UsedGives}
use Rattle.list_check.specs.Standing.{last_of, Stands}
use Rattle.list_check.specs.Steps.{Running, Begins, FirstBad, NoneBad, ToUnused, UnusedAsks, Before, Placed, UnusedGives, BadList}

-- ---- the points that are used

-- a face of the bench that has it
with_some : (b : Bench) (v f : ℕ) → T (present_with b v f) → T (used b.faces v)
unfolding present_with used
with_some b v f t =
    let w = any_mem (λ g. eqb f g.origin && has v (corners g)) b.faces t in
    any_intro (λ g. has v (corners g)) w.0 b.faces w.1 (and_elim (eqb f w.0.origin) (has v (corners w.0)) w.2).1

-- by its number
pub record With (b : Bench) (v n : ℕ) : Type 0 where
  pub face : ℕ
  pub low : face < n
  pub has_it : T (present_with b v face)

some_with : {P : ℕ} {xs m u : List ℕ} {b : Bench} → Stands P xs m u b → (v : ℕ) → T (used b.faces v) → With b v (length xs / 3)
unfolding present_with used
some_with {P} {xs} {m} {u} {b} s v t =
    let w = any_mem (λ g. has v (corners g)) b.faces t in
    record {
      face = w.0.origin;
      low = all_in (λ g. g.origin < length xs / 3) w.0 b.faces s.origins w.1;
      has_it = any_intro (λ g. eqb w.0.origin g.origin && has v (corners g)) w.0 b.faces w.1 (and_i (eqb w.0.origin w.0.origin) (has v (corners w.0)) (subst T (sym (eq-eqb w.0.origin w.0.origin refl)) tt) w.2);
    }

-- a point of the input: some face that is there keeps it
used_old : {P : ℕ} {xs m u : List ℕ} {b : Bench} → Stands P xs m u b → (v : ℕ) → v < P → used b.faces v ≡ any (λ f. here m f && keeps xs m f v) (below (length xs / 3))
used_old {P} {xs} {m} {u} {b} s v l = both_ways _ _ there back
  where
    there : T (used b.faces v) → T (any (λ f. here m f && keeps xs m f v) (below (length xs / 3)))
    there t =
        let w = some_with s v t in
        let q : T ((ltb w.face (length xs / 3) && here m w.face) && keeps xs m w.face v) = subst T (s.with_is v w.face l) w.has_it in
        let r = and_elim (ltb w.face (length xs / 3) && here m w.face) (keeps xs m w.face v) q in
        let h = and_elim (ltb w.face (length xs / 3)) (here m w.face) r.0 in
        any_intro (λ f. here m f && keeps xs m f v) w.face (below (length xs / 3)) (mem_below w.face (length xs / 3) w.low) (and_i (here m w.face) (keeps xs m w.face v) h.1 r.1)

    back : T (any (λ f. here m f && keeps xs m f v) (below (length xs / 3))) → T (used b.faces v)
    back t =
        let w = any_mem (λ f. here m f && keeps xs m f v) (below (length xs / 3)) t in
        let f = w.0 in
        let q = below_mem f (length xs / 3) w.1 in
        let h = and_elim (here m f) (keeps xs m f v) w.2 in
        with_some b v f
        (subst T (sym (s.with_is v f l))
        (and_i (ltb f (length xs / 3) && here m f) (keeps xs m f v) (and_i (ltb f (length xs / 3)) (here m f) (subst T (sym (lt-ltb f (length xs / 3) q)) tt) h.0) h.1))

-- a new point is no corner of the input
free_none : (m unit v x : ℕ) → x < v → free m unit v x ≡ false
unfolding free
free_none m unit v x h = rw (ne_eqb v x (λ e. absurd (omega arith))) refl

new_none : {P : ℕ} {xs : List ℕ} → input.Faces P xs → (m : List ℕ) (v : ℕ) → P ≤ v → any (λ f. here m f && keeps xs m f v) (below (length xs / 3)) ≡ false
new_none {P} {xs} p m v l = both_ways _ _ there (λ t. absurd t)
  where
    corner : (j : ℕ) → j < length xs → get_or xs j 0 < v
    corner j h = omega (arith, p.below j h)

    none : (f : ℕ) → f < length xs / 3 → keeps xs m f v ≡ false
    none f h =
        unfold keeps in
        (rw (free_none (get_or m f 0) 2 v (get_or xs (3 * f) 0) (corner (3 * f) (omega arith)), free_none (get_or m f 0) 4 v (get_or xs (3 * f + 1) 0) (corner (3 * f + 1) (omega arith)), free_none (get_or m f 0) 8 v (get_or xs (3 * f + 2) 0) (corner (3 * f + 2) (omega arith))) refl)

    there : T (any (λ f. here m f && keeps xs m f v) (below (length xs / 3))) → T false
    there t =
        let w = any_mem (λ f. here m f && keeps xs m f v) (below (length xs / 3)) t in
        let q = below_mem w.0 (length xs / 3) w.1 in
        subst T (none w.0 q) (and_elim (here m w.0) (keeps xs m w.0 v) w.2).1

-- the bits then tell the used points
used_told : {P : ℕ} {xs m u u' : List ℕ} {b : Bench} → input.Faces P xs → Stands P xs m u b → UsedGives xs m (length xs / 3) u u' → (v : ℕ) → v < length b.points → bit u' v ≡ used b.faces v
used_told {P} {xs} {m} {u} {u'} {b} p s g v l = g.told v ∙ go (ltb v P) refl
  where
    or_false : (x : Bool) → (x || false) ≡ x
    or_false true = refl
    or_false false = refl

    go : (t : Bool) → ltb v P ≡ t → (any (λ f. here m f && keeps xs m f v) (below (length xs / 3)) || bit u v) ≡ used b.faces v
    go true e =
        let h = ltb-true v P e in
        rw (s.old_clear v h) (or_false (any (λ f. here m f && keeps xs m f v) (below (length xs / 3))) ∙ sym (used_old s v h))
    go false e =
        let h = ltb-false v P e in
        rw (new_none p m v h) (s.new_used v h l)

-- ---- order

-- each section before the last is earlier
earlier : (s f g v : ℕ) → s ≤ 6 → precedes (last_of s f g) (7 ∷ v ∷ []) ≡ true
unfolding last_of precedes
earlier zero f g v h = refl
earlier (suc zero) f g v h = refl
earlier (suc (suc zero)) f g v h = refl
earlier (suc (suc (suc zero))) f g v h = refl
earlier (suc (suc (suc (suc zero)))) f g v h = refl
earlier (suc (suc (suc (suc (suc zero))))) f g v h = refl
earlier (suc (suc (suc (suc (suc (suc k)))))) f g v h = refl

-- ---- together

-- a place within a wider bound
wider : (m n : ℕ) → m ≤ n → (r : Result ⊤ Refusal) → Placed m r → Placed n r
wider m n h (Ok _) q = tt
wider m n h (Err r) q = let l : place_of r ≤ m = q in omega arith

module _ {P : ℕ} {xs text m₀ u₀ : List ℕ} (p : Begins P xs m₀ u₀) where
  -- a bad line before the `u` lines
  pub whole_bad : {r : Refusal} → FirstBad P xs text r → BadList P xs text (Err r)
  whole_bad y = record { is = λ ps n. sym (y.is ps n); placed = omega (arith, y.early) }

  -- no bad line, and no `u` line
  pub whole_none : NoneBad P xs text → BadList P xs text (Ok tt)
  whole_none y = record { is = λ ps n. sym (y.is ps n); placed = tt }

  module _ {at line k : ℕ} {m u : List ℕ} (y : ToUnused P xs text m₀ u₀ at line k m u) where
    -- what the bits need
    pub used_asks : UsedAsks xs m (length xs / 3) u
    used_asks =
        record {
          sized = record { corners = omega arith; bytes = omega (arith, p.rows.bytes, y.long_bytes) };
          room = λ j l. omega (arith, p.rows.bits, p.rows.input.below j l, y.long_bits);
        }

    -- numbers that fit
    pub record Sizes : Type 0 where
      pub points : P ≤ 4194304
      pub splits : k ≤ 3145728
      pub lines : line ≤ 8388608

    pub sizes : Sizes
    sizes =
        let a = p.rows.input.points in
        let c = p.rows.input.few in
        record { points = omega arith; splits = omega (arith, y.few); lines = omega (arith, y.early) }

    module _ {u' : List ℕ} (g : UsedGives xs m (length xs / 3) u u') where
      -- what the `u` lines need
      pub unused_asks : UnusedAsks text at line (P + k) u'
      unused_asks =
          let z = sizes in
          record {
            begins = omega (arith, y.left);
            bits = omega (arith, p.rows.bits, y.long_bits, g.long, y.few);
            fits = omega arith;
          }

      -- what stands before them
      before : (ps : List Point) → length ps ≡ P → (r : Running P ps xs text at line m u y.section y.first y.second k) → Before ps xs text at line (P + k) u' r.bench
      before ps n r =
          let st = r.standing in
          let c : length r.bench.points ≡ P + k = st.stands.points ∙ ap (λ (z : ℕ). P + z) st.splits in
          record {
            run = r.run;
            points = c;
            told = λ v l. used_told p.rows.input st.stands g v (omega arith);
            unused = y.unused;
            earlier = λ v. ap (λ (z : List ℕ). precedes z (7 ∷ v ∷ [])) st.last ∙ earlier y.section y.first y.second v st.section;
          }

      -- the whole
      pub whole_unused : {r : Result ⊤ Refusal} → UnusedGives text at line (P + k) u' r → BadList P xs text r
      whole_unused {r} q =
          record {
            is = λ ps n. let w = y.each ps n in q.is ps xs w.bench (before ps n w);
            placed = wider (line + (P + k)) (P + 11 * (length xs / 3)) (omega (arith, y.early, y.few)) r q.placed;
          }

-- ---- rows of zeros

-- n of them
abbrev zeros : ℕ → List ℕ
zeros n = replicate n 0

-- as many as there are
pub long_zeros : (n : ℕ) → n ≡ length (zeros n)
long_zeros n = sym (length-replicate {A = ℕ} n 0)

-- each entry is zero, and so is what is read behind them
each_zero : (n i : ℕ) → get_or (zeros n) i 0 ≡ 0
each_zero n i = go (ltb i n) refl
  where
    go : (t : Bool) → ltb i n ≡ t → get_or (zeros n) i 0 ≡ 0
    go true e = get_or-replicate n i 0 0 (ltb-true i n e)
    go false e = get_or-eq_default (zeros n) 0 (omega (arith, ltb-false i n e, long_zeros n))

-- long enough for the faces and for the points, new ones too
pub zero_rows : {P : ℕ} {xs : List ℕ} (n k : ℕ) → input.Faces P xs → length xs / 3 ≤ n → P + length xs ≤ 32 * k → Begins P xs (zeros n) (zeros k)
zero_rows n k p a b =
    record {
      rows = record { input = p; bytes = omega (arith, long_zeros n); bits = omega (arith, long_zeros k) };
      no_marks = each_zero n;
      no_bits = each_zero k;
    }
