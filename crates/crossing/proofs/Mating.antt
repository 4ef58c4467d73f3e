-- Of each entry whose edge has at most two it is noted which face is across. Assumes nothing.
use mathlib.Core.Path.{◌≡◌, refl, sym, ap, subst, ◌∙◌}
use mathlib.Core.Bool.{not}
use mathlib.Core.List.{List, [], ◌∷◌, map}
use Prim.Native.Nat.{ℕ, ◌+◌, ◌-◌, ◌*◌, ◌/◌, ◌≤◌, ◌<◌}
use native.Mathlib.Omega.{arith}
use native.Mathlib.Decide.{ℕ_discrete}
use borrow.Author.Tests.{eq-eqb}
use lib.Dec.{eqb}
use lib.ListN.{length, get_or, set, length-set}
use lib.Seq.{get_or-set_same, get_or-set_other}
use Rattle.rows.specs.Region.{part, Apart.after, Only, Filled, Out.above}
use Rattle.rows.proofs.Regions.{part_suc, only_none, only_both, only_set}
use Rattle.rules.specs.Lists.{filter}
use Rattle.rules.specs.Mesh.{faces_of}
use Rattle.rules.specs.Steps.{Step, edge, users, edges}
use Rattle.table.specs.Entries.{step_at}
use Rattle.table.proofs.Places.{none, id_in, tabled_kept}
use Rattle.table.proofs.Theorems.{runs_fit, along_row, users_row}
use Rattle.table.proofs.Handing.{at_run}
use Rattle.crossing.specs.Crossing.{Leads, Mated, MateAllAsks, MateAsks, MateGives}

-- ---- the row

module _ {xs : List ℕ} {n : ℕ} where
  -- a row of zeros notes nothing
  pub mated_none : {w : List ℕ} → Filled 0 (3 + 14 * n) 0 w → Mated w xs n
  mated_none {w} z = record { each = λ id h c. let e : 3 + 11 * n + id ≡ 0 + (3 + 11 * n + id) = omega arith in absurd (c (ap (λ k. get_or w k 0) e ∙ z.each (3 + 11 * n + id) (omega arith))) }

  -- what is changed before it changes nothing of it
  pub mated_kept : {w w' : List ℕ} {a m : ℕ} → Only a m w w' → a + m ≤ 3 + 11 * n → Mated w xs n → Mated w' xs n
  mated_kept {w} {w'} o l t =
      record {
        each = λ id h c.
            let e = o.same (3 + 11 * n + id) (above (omega arith)) in
            rw e (t.each id h (λ z. c (e ∙ z)));
      }

  -- one more is noted
  mated_set : {w : List ℕ} → 3 + 14 * n ≤ length w → Mated w xs n → (a q : ℕ) → a < 3 * n → Leads xs n a q → Mated (set w (3 + 11 * n + a) q) xs n
  mated_set {w} f t a q l g = record { each = λ id h c. go id h c (ℕ_discrete id a) }
    where
      go : (id : ℕ) → id < 3 * n → (get_or (set w (3 + 11 * n + a) q) (3 + 11 * n + id) 0 ≡ 0 → ⊥) → Dec (id ≡ a) → Leads xs n id (get_or (set w (3 + 11 * n + a) q) (3 + 11 * n + id) 0)
      go id h c (yes e) =
          let v : get_or (set w (3 + 11 * n + a) q) (3 + 11 * n + id) 0 ≡ q =
          ap (λ k. get_or (set w (3 + 11 * n + a) q) (3 + 11 * n + k) 0) e ∙ get_or-set_same w (3 + 11 * n + a) q 0 (omega arith)
          in
          rw v (subst (λ k. Leads xs n k q) (sym e) g)
      go id h c (no e) =
          let v = get_or-set_other w (3 + 11 * n + a) (3 + 11 * n + id) q 0 (λ z. e (omega arith)) in
          rw v (t.each id h (λ z. c (v ∙ z)))

-- ---- the faces of one or two entries

-- the second besides the first
second_of : (x y : ℕ) → filter (λ k. not (eqb k x)) (x ∷ y ∷ []) ≡ filter (λ k. not (eqb k x)) (y ∷ [])
unfolding filter
second_of x y = rw (eq-eqb x x refl)

-- the first besides the second
first_of : (x y : ℕ) → filter (λ k. not (eqb k y)) (x ∷ y ∷ []) ≡ filter (λ k. not (eqb k y)) (x ∷ [])
unfolding filter
first_of x y = rw (eq-eqb y y refl)

-- the first place of a part, and the first two
part_one : (w : List ℕ) (a : ℕ) → a + 1 ≤ length w → part w a 1 ≡ get_or w a 0 ∷ []
part_one w a h = let e : a + 0 ≡ a = omega arith in part_suc w a 0 (omega arith) ∙ ap (λ k. get_or w k 0 ∷ []) e

part_two : (w : List ℕ) (a : ℕ) → a + 2 ≤ length w → part w a 2 ≡ get_or w a 0 ∷ get_or w (a + 1) 0 ∷ []
part_two w a h = part_suc w a 1 (omega arith) ∙ (rw (part_one w a (omega arith)))

-- ---- one run

-- what the code reads of run r
pub record Bounds (w xs : List ℕ) (n r : ℕ) : Type 0 where
  pub few : n ≤ 4194304
  pub long : length xs ≡ 3 * n
  pub fit : 3 + 14 * n + 5 * length xs + 1 ≤ length w
  pub here : r < 3 * n
  pub rise : get_or w (3 + 14 * n + 4 * length xs + r) 0 < get_or w (3 + 14 * n + 4 * length xs + (r + 1)) 0
  pub last : get_or w (3 + 14 * n + 4 * length xs + (r + 1)) 0 ≤ length xs

-- what it reads of two entries
pub record Entries (n a b : ℕ) : Type 0 where
  pub first : a < 3 * n
  pub second : b < 3 * n

module _ {w xs : List ℕ} {n r : ℕ} (p : MateAsks w xs n r) where
  -- they hold
  pub mate_bounds : Bounds w xs n r
  mate_bounds =
      let q = p.all in
      let f = runs_fit q.tabled r p.here in
      let a = at_run q.tabled r p.here in
      record { few = q.few; long = q.long; fit = a.fit; here = omega (arith, a.here, a.runs, q.long); rise = f.0; last = f.1 }

  -- where the run begins in the order, and where the next one does
  abbrev low : ℕ
  low = get_or w (3 + 14 * n + 4 * length xs + r) 0

  abbrev high : ℕ
  high = get_or w (3 + 14 * n + 4 * length xs + (r + 1)) 0

  -- the run's places
  abbrev from : ℕ
  from = 3 + 14 * n + 3 * length xs + low

  abbrev to : ℕ
  to = 3 + 14 * n + 3 * length xs + high

  -- the edge
  abbrev e : Step
  e = get_or (edges p.all.points (faces_of xs)) r none

  -- an entry of the run is under it
  under_at : (k : ℕ) → low ≤ k → k < high → edge (step_at (faces_of xs) (get_or w (3 + 14 * n + 3 * length xs + k) 0)) ≡ e
  under_at k a b = along_row p.all.tabled r k p.here a b

  -- the first entry and the last
  abbrev a : ℕ
  a = get_or w from 0

  abbrev b : ℕ
  b = get_or w (to - 1) 0

  -- the last by its place in the order
  last_is : get_or w (3 + 14 * n + 3 * length xs + (high - 1)) 0 ≡ b
  last_is = let u = mate_bounds in ap (λ k. get_or w k 0) (omega (arith, u))

  -- both are entries of faces
  pub mate_entries : Entries n a b
  mate_entries =
      let t = p.all.tabled in
      let u = mate_bounds in
      record {
        first = omega (arith, id_in t.asks t.table low (omega (arith, u)), u);
        second = omega (arith, id_in t.asks t.table (high - 1) (omega (arith, u)), last_is, u);
      }

  -- both are under the edge
  first_under : edge (step_at (faces_of xs) a) ≡ e
  first_under = let u = mate_bounds in under_at low (omega arith) (omega (arith, u))

  last_under : edge (step_at (faces_of xs) b) ≡ e
  last_under = let u = mate_bounds in ap (λ i. edge (step_at (faces_of xs) i)) (sym last_is) ∙ under_at (high - 1) (omega (arith, u)) (omega (arith, u))

  -- the users of the edge, by the row
  users_is : map (λ id. id / 3) (part w from (high - low)) ≡ users (faces_of xs) e
  users_is = users_row p.all.tabled r p.here

  -- one entry leads to the face of another, if its face has no other user besides
  leads : {i k : ℕ} → edge (step_at (faces_of xs) i) ≡ e → k < 3 * n → filter (λ f. not (eqb f (i / 3))) (users (faces_of xs) e) ≡ filter (λ f. not (eqb f (i / 3))) (k / 3 ∷ []) → Leads xs n i (k / 3 + 1)
  leads {i} {k} d l h =
      let z : k / 3 + 1 - 1 ≡ k / 3 = omega arith in
      record { few = omega arith; others = rw (d, z) h }

  module _ (s : to - from ≤ 2) where
    -- each leads to the other's face
    both : (Leads xs n a (b / 3 + 1)) × (Leads xs n b (a / 3 + 1))
    both = go (ℕ_discrete (high - low) 1)
      where
        go : Dec (high - low ≡ 1) → (Leads xs n a (b / 3 + 1)) × (Leads xs n b (a / 3 + 1))
        go (yes o) =
            let u = mate_bounds in
            let v = mate_entries in
            let us : users (faces_of xs) e ≡ a / 3 ∷ [] = sym users_is ∙ ap (λ k. map (λ id. id / 3) (part w from k)) o ∙ ap (map (λ id. id / 3)) (part_one w from (omega (arith, u))) in
            let ab : b ≡ a = ap (λ k. get_or w k 0) (omega (arith, u)) in (
              leads first_under v.second (rw (us, ab)),
              leads last_under v.first (rw (us, ab)),
            )
        go (no o) =
            let u = mate_bounds in
            let v = mate_entries in
            let two : high - low ≡ 2 = omega (arith, u) in
            let ab : get_or w (from + 1) 0 ≡ b = ap (λ k. get_or w k 0) (omega (arith, u)) in
            let us : users (faces_of xs) e ≡ a / 3 ∷ b / 3 ∷ [] =
            sym users_is ∙ ap (λ k. map (λ id. id / 3) (part w from k)) two ∙ ap (map (λ id. id / 3)) (part_two w from (omega (arith, u))) ∙ ap (λ k. a / 3 ∷ k / 3 ∷ []) ab
            in
            (leads first_under v.second (rw us (second_of (a / 3) (b / 3))), leads last_under v.first (rw us (first_of (a / 3) (b / 3))))

    -- so both may be noted
    pub mate_gives : MateGives w xs n (set (set w (3 + 11 * n + a) (b / 3 + 1)) (3 + 11 * n + b) (a / 3 + 1))
    mate_gives =
        let u = mate_bounds in
        let v = mate_entries in
        let w₁ = set w (3 + 11 * n + a) (b / 3 + 1) in
        let l = length-set w (3 + 11 * n + a) (b / 3 + 1) in
        record {
          only = only_both (only_set w (3 + 11 * n + a) (b / 3 + 1) (omega arith) (omega (arith, v))) (only_set w₁ (3 + 11 * n + b) (a / 3 + 1) (omega arith) (omega (arith, v)));
          mated = mated_set (omega (arith, u, l)) (mated_set (omega (arith, u)) p.all.mated a (b / 3 + 1) v.first both.0) b (a / 3 + 1) v.second both.1;
        }

  -- of a longer run nothing is noted
  pub mate_none : MateGives w xs n w
  mate_none = record { only = only_none (3 + 11 * n) (3 * n) w; mated = p.all.mated }

-- ---- all runs

-- the runs before r are gone through
pub record MateInv (w₀ xs : List ℕ) (n m : ℕ) (w : List ℕ) (r : ℕ) : Type 0 where
  pub at_most : r ≤ m
  pub gives : MateGives w₀ xs n w

module _ {w₀ xs : List ℕ} {n m : ℕ} (p : MateAllAsks w₀ xs n m) where
  -- at first none is
  pub mates_begin : MateInv w₀ xs n m w₀ 0
  mates_begin = record { at_most = omega arith; gives = record { only = only_none (3 + 11 * n) (3 * n) w₀; mated = p.mated } }

  module _ {w : List ℕ} {r : ℕ} (v : MateInv w₀ xs n m w r) where
    module _ (h : r < m) where
      -- the table still stands
      pub mates_ask : MateAsks w xs n r
      mates_ask =
          record {
            runs = m;
            all = record { few = p.few; long = p.long; points = p.points; tabled = tabled_kept v.gives.only (after (omega arith)) p.tabled; mated = v.gives.mated };
            here = h;
          }

      -- the number of a run stays small
      pub mates_few : r < 3 * 4194304
      mates_few = let a = mate_bounds mates_ask in omega (arith, a)

      -- one more
      pub mates_again : {w' : List ℕ} → MateGives w xs n w' → MateInv w₀ xs n m w' (r + 1)
      mates_again g = record { at_most = omega arith; gives = record { only = only_both v.gives.only g.only; mated = g.mated } }
