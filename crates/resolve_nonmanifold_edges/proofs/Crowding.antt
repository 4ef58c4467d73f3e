-- The marks and the count that the edge of one run adds. Assumes nothing.
use mathlib.Core.Path.{◌≡◌, refl, sym, ap, ◌∙◌}
use mathlib.Core.Bool.{Bool, true, false, not, ◌&&◌, ◌||◌, cond}
use mathlib.Core.List.{List, [], ◌∷◌}
use Prim.Native.Nat.{ℕ, ◌+◌, ◌-◌, ◌/◌, ◌≤◌, ◌<◌}
use native.Mathlib.Omega.{arith}
use mir.Val.{bool_byte}
use borrow.Author.Tests.{lt-ltb, le-ltb}
use lib.Dec.{eqb}
use lib.ListN.{length, take, length-map}
use lib.Seq.{take-length}
use lib.Ieee.{Float}
use Rattle.rows.specs.Region.{Only}
use Rattle.rows.proofs.Regions.{only_none}
use Rattle.rules.specs.Lists.{filter, any, has, count}
use Rattle.rules.specs.Mesh.{face, faces_of, points_of}
use Rattle.rules.specs.Steps.{Step, walks, users, edges}
use Rattle.rules.specs.Pass3.{crowded, second, kept, marked3}
use Rattle.rule_laws.proofs.Counting.{count_append}
use Rattle.rule_laws.proofs.Flat.{length_points}
use Rattle.table.specs.Entries.{keys_of}
use Rattle.table.specs.Table.{TableGives}
use Rattle.table.proofs.Ids.{edges_keys}
use Rattle.rank.specs.Ranks.{faces_in, value_of, others, BestGives, SecondAsks}
use Rattle.marking.specs.Marking.{point_count, face_count, edge_at, MarkAsks, RunAsks, LostGives}
use Rattle.marking.proofs.Reading.{from, next, handed_on, region, handed_region, run_long, rank_ok, run_users}
use Rattle.marking.proofs.Running.{Passed, lost_among, next_keys}
use Rattle.marking.proofs.Running as running
use Rattle.resolve_nonmanifold_edges.specs.Crowds.{crowds, lost_at, lost_of, EdgeGives, EdgesGives}

-- ---- one edge

module _ {ps : List Float} {xs w : List ℕ} {marks r : ℕ} (p : RunAsks false ps xs w marks r) where
  -- as many entries as users
  users_long : length (users (faces_of xs) (edge_at false ps xs r)) ≡ next xs w r - from xs w r
  users_long = ap length (sym (run_users p)) ∙ length-map (handed_on xs w r) (λ id. id / 3) ∙ run_long p

  -- an edge with at most two entries: nothing is lost, and it is not crowded
  pub few : next xs w r - from xs w r ≤ 2 → EdgeGives ps xs w marks r w false
  few h =
      let z : crowds (faces_of xs) (edge_at false ps xs r) ≡ false = le-ltb 2 (length (users (faces_of xs) (edge_at false ps xs r))) (omega (arith, users_long)) in
      record { lost = record { only = only_none _ _ _; added = record { each = λ i q. rw z } }; told = sym z }

  module _ {one : ℕ} (b : BestGives ps xs (handed_on xs w r) one) where
    -- a second choice may be asked for
    pub second_ok : 1 < next xs w r - from xs w r → SecondAsks ps xs (handed_on xs w r) one
    second_ok h = record { rank = rank_ok p; two = omega (arith, run_long p); one_in = b.here }

    module _ {e : Step} (ee : e ≡ edge_at false ps xs r) {two : ℕ} (s : two ≡ second (value_of ps xs) one (faces_in (handed_on xs w r)) (others (faces_of xs) e (walks (face (faces_of xs) one) e) (faces_in (handed_on xs w r)))) where
      -- the two are those that the rules keep
      kept_is : (i : ℕ) → kept (value_of ps xs) (faces_of xs) (edge_at false ps xs r) (users (faces_of xs) (edge_at false ps xs r)) i ≡ (eqb i one || eqb i two)
      unfolding kept others
      kept_is i = rw (s, ee, run_users p, b.first, run_users p)

      -- a crowded edge: all but the two are lost
      pub many : 2 < next xs w r - from xs w r → {w' : List ℕ} → LostGives (lost_of (faces_in (region xs w r)) one two) w marks (face_count xs) w' → EdgeGives ps xs w marks r w' true
      many h g =
          let z : crowds (faces_of xs) (edge_at false ps xs r) ≡ true = lt-ltb 2 (length (users (faces_of xs) (edge_at false ps xs r))) (omega (arith, users_long)) in
          let u : faces_in (region xs w r) ≡ users (faces_of xs) (edge_at false ps xs r) = ap faces_in (sym (handed_region p)) ∙ run_users p in
          record {
            lost = record { only = g.only; added = record { each = λ i q. g.added.each i q ∙ rw (z, u, kept_is i) } };
            told = sym z;
          }

-- ---- all edges

-- one that passes, or none
count_of_one : {A : Type 0} (p : A → Bool) (x : A) → count p (x ∷ []) ≡ cond (p x) 1 0
unfolding count filter
count_of_one p x = go (p x)
  where
    go : (b : Bool) → length (cond b (x ∷ []) []) ≡ cond b 1 0
    go true = refl
    go false = refl

-- whether some element passes both tests, or some of those that pass the first passes the second
any_filter : {A : Type 0} (p c : A → Bool) (xs : List A) → any (λ x. c x && p x) xs ≡ any p (filter c xs)
unfolding any filter
any_filter p c [] = refl
any_filter p c (x ∷ xs) = go (c x) (any_filter p c xs)
  where
    go : (b : Bool) → any (λ y. c y && p y) xs ≡ any p (filter c xs) → ((b && p x) || any (λ y. c y && p y) xs) ≡ any p (cond b (x ∷ filter c xs) (filter c xs))
    go true e = ap (λ z. p x || z) e
    go false e = e

-- what the rules mark is what is lost at one of the edges
pub lost_marked : (ps : List Float) (xs : List ℕ) (i : ℕ) → lost_among (lost_at (value_of ps xs) (faces_of xs)) (keys_of false (point_count ps) (faces_of xs)) i ≡ marked3 (points_of ps) (faces_of xs) i
unfolding marked3 crowded
lost_marked ps xs i =
    rw (edges_keys (point_count ps) (faces_of xs), length_points ps)
    (any_filter (λ e. has i (users (faces_of xs) e) && not (kept (value_of ps xs) (faces_of xs) e (users (faces_of xs) e) i)) (crowds (faces_of xs)) (edges (point_count ps) (faces_of xs)))

-- r runs have passed, and c of their edges are crowded
pub record Counted (ps : List Float) (xs w₁ : List ℕ) (marks m : ℕ) (w : List ℕ) (c r : ℕ) : Type 0 where
  pub passed : Passed (lost_at (value_of ps xs) (faces_of xs)) false ps xs w₁ marks m w r
  pub fewer : c ≤ r
  pub counted : c ≡ count (crowds (faces_of xs)) (take r (keys_of false (point_count ps) (faces_of xs)))

-- no edge of none
pub none_counted : {ps : List Float} {xs w₁ : List ℕ} {marks m : ℕ} {w : List ℕ} → Passed (lost_at (value_of ps xs) (faces_of xs)) false ps xs w₁ marks m w 0 → Counted ps xs w₁ marks m w 0 0
none_counted v = record { passed = v; fewer = omega arith; counted = unfold count filter in refl }

-- one for a crowded edge
counted_as : (b : Bool) → bool_byte b ≡ cond b 1 0
counted_as true = refl
counted_as false = refl

-- at most one
pub at_most_one : (b : Bool) → bool_byte b ≤ 1
at_most_one true = omega arith
at_most_one false = omega arith

module _ {ps : List Float} {xs w₁ : List ℕ} {marks m : ℕ} {w : List ℕ} {c r : ℕ} (v : Counted ps xs w₁ marks m w c r) where
  -- one edge more
  pub again : r < m → {w' : List ℕ} {b : Bool} {k : ℕ} → EdgeGives ps xs w marks r w' b → k ≡ bool_byte b → Counted ps xs w₁ marks m w' (c + k) (r + 1)
  again h {w'} {b} {k} g e =
      let f : k ≡ cond (crowds (faces_of xs) (edge_at false ps xs r)) 1 0 = e ∙ counted_as b ∙ ap (λ t. cond t 1 0) g.told in
      record {
        passed = running.again v.passed h g.lost;
        fewer = omega (arith, v.fewer, e, at_most_one b);
        counted =
            cc (v.counted, f, count_of_one (crowds (faces_of xs)) (edge_at false ps xs r), count_append (crowds (faces_of xs)) (take r (keys_of false (point_count ps) (faces_of xs))) (edge_at false ps xs r ∷ []), next_keys v.passed h);
      }

  -- all of them
  pub done : {w₀ : List ℕ} → MarkAsks ps xs w₀ marks → {w₂ : List ℕ} → TableGives w₀ xs (point_count ps) false 0 w₂ m → Only marks (face_count xs) w₂ w₁ → m ≤ r → EdgesGives ps xs w₀ marks w c
  unfolding crowded
  done p t o h =
      let k : r ≡ length (keys_of false (point_count ps) (faces_of xs)) = omega (arith, v.passed.most, t.tabled.count) in
      let a : take r (keys_of false (point_count ps) (faces_of xs)) ≡ edges (point_count ps) (faces_of xs) = ap (λ j. take j (keys_of false (point_count ps) (faces_of xs))) k ∙ take-length (keys_of false (point_count ps) (faces_of xs)) ∙ edges_keys (point_count ps) (faces_of xs) in
      record {
        marked = running.done (lost_at (value_of ps xs) (faces_of xs)) p t o (marked3 (points_of ps) (faces_of xs)) (lost_marked ps xs) v.passed h;
        counted = v.counted ∙ ap (count (crowds (faces_of xs))) a ∙ unfold count in refl;
      }
