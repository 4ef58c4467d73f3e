-- Few lines can apply one after the other: each ranks higher than the last, or splits. So the first bad line has a number below 2^32. Assumes nothing.
use mathlib.Core.Path.{◌≡◌, refl, sym, ap, ◌∙◌, subst}
use mathlib.Core.Bool.{Bool, true, false, not, ◌&&◌, cond}
use mathlib.Core.Option.{Option, none, some}
use mathlib.Core.List.{List, [], ◌∷◌, ◌++◌, map}
use Prim.Native.Nat.{ℕ, zero, suc, ◌+◌, ◌*◌, ◌≤◌, ◌<◌}
use native.Mathlib.Omega.{arith}
use lib.Dec.{T, eqb, ltb, eqb→eq, ltb→lt}
use lib.ListN.{length, get_or, take, length-append}
use lib.Seq.{length-take-le}
use Rattle.rules.specs.Lists.{below, filter, all, has, through}
use Rattle.rules.specs.Mesh.{Point, Face, point, exchanged, renamed}
use Rattle.rules.specs.Refusal.{no}
use Rattle.rules.specs.Pass6.{used}
use Rattle.rules.specs.Mending.{Line, dropped_face, exchange, split_point, isolated_point}
use Rattle.rules.specs.Applying.{Bench, section, numbers, precedes, present, present_with, applies, change, with_list_line, bench_of, after_lines, is_none, lines_read, no15}
use Rattle.rule_laws.proofs.Tests.{and_elim}
use Rattle.rule_laws.proofs.Lists.{length_below}
use Rattle.rule_laws.proofs.Rising.{All, all_imp, all_filter, all_map, get_or_below}
use Rattle.rule_laws.proofs.Members.{any_elim}
use Rattle.rule_laws.proofs.Firsts.{FirstFault, fault_exactly, fault_number}
use Rattle.list_runs.proofs.Stepping.{Stepped, step, no_step}
use Rattle.list_runs.proofs.Ordered.{foremost, adds, rank, key, Low, rank_low, rises}

module _ (P F : ℕ) where
  -- what holds when k lines have applied
  record Steady (k : ℕ) (b : Bench) : Type 0 where
    points : length b.points ≡ P + b.splits
    splits : b.splits ≤ 3 * F
    low : All (λ g. g.origin < F) b.faces
    before : Option Line
    last : b.last ≡ key (P + 3 * F) before
    first_low : Low (P + 3 * F) before
    many : k ≤ rank (P + 3 * F) before + b.splits

  -- a face that is there is one of the input
  there : {k : ℕ} {b : Bench} → Steady k b → (f : ℕ) → T (present b f) → f < F
  unfolding present
  there {k} {b} s f t = let m = any_elim (λ g. eqb f g.origin) (λ g. g.origin < F) b.faces s.low t in rw (eqb→eq f m.0.origin m.2) m.1

  -- the first number of a line that applies
  foremost_low : {k : ℕ} {b : Bench} (l : Line) → Steady k b → T (applies P F b l) → foremost l < P + 3 * F
  unfolding applies
  foremost_low (dropped_face f why) s t = omega (arith, there s f t)
  foremost_low (exchange f) s t = omega (arith, there s f t)
  foremost_low {k} {b} (split_point old new fs) s t =
      let x = and_elim (ltb b.splits (3 * F) && ltb old P && eqb new (length b.points)) (all (present_with b old) fs) t in
      let y = and_elim (ltb b.splits (3 * F) && ltb old P) (eqb new (length b.points)) x.0 in
      omega (arith, ltb→lt old P (and_elim (ltb b.splits (3 * F)) (ltb old P) y.0).1)
  foremost_low {k} {b} (isolated_point v) s t =
      omega (arith, s.points, s.splits, ltb→lt v (length b.points) (and_elim (ltb v (length b.points)) (not (used b.faces v)) t).0)

  -- how many points were split off then
  splits_are : (b : Bench) (l : Line) (at : List ℕ) → (change b l at).splits ≡ b.splits + adds l
  unfolding change
  splits_are b (dropped_face f why) at = omega arith
  splits_are b (exchange f) at = omega arith
  splits_are b (split_point old new fs) at = omega arith
  splits_are b (isolated_point v) at = omega arith

  -- the last line is this one
  last_is : (b : Bench) (l : Line) (at : List ℕ) → (change b l at).last ≡ at
  unfolding change
  last_is b (dropped_face f why) at = refl
  last_is b (exchange f) at = refl
  last_is b (split_point old new fs) at = refl
  last_is b (isolated_point v) at = refl

  -- how many points there are
  points_are : {k : ℕ} {b : Bench} (l : Line) (at : List ℕ) → Steady k b → length (change b l at).points ≡ P + (change b l at).splits
  unfolding change
  points_are (dropped_face f why) at s = s.points
  points_are (exchange f) at s = s.points
  points_are {k} {b} (split_point old new fs) at s = length-append b.points (point b.points old ∷ []) ∙ omega (arith, s.points)
  points_are (isolated_point v) at s = s.points

  -- not too many were split off
  splits_few : {k : ℕ} {b : Bench} (l : Line) (at : List ℕ) → Steady k b → T (applies P F b l) → (change b l at).splits ≤ 3 * F
  unfolding change applies
  splits_few (dropped_face f why) at s t = s.splits
  splits_few (exchange f) at s t = s.splits
  splits_few {k} {b} (split_point old new fs) at s t =
      let x = and_elim (ltb b.splits (3 * F) && ltb old P && eqb new (length b.points)) (all (present_with b old) fs) t in
      let y = and_elim (ltb b.splits (3 * F) && ltb old P) (eqb new (length b.points)) x.0 in
      ltb→lt b.splits (3 * F) (and_elim (ltb b.splits (3 * F)) (ltb old P) y.0).0
  splits_few (isolated_point v) at s t = s.splits

  -- faces that are changed keep their origins
  kept_low : (h : Face → Face) → ((g : Face) → (h g).origin ≡ g.origin) → (fs : List Face) → All (λ g. g.origin < F) fs → All (λ g. g.origin < F) (map h fs)
  kept_low h own fs a = all_map (λ g. g.origin < F) h fs (all_imp (λ g. g.origin < F) (λ g. (h g).origin < F) (λ g l. rw (own g) l) fs a)

  -- the faces that are left are of the input
  faces_low : {k : ℕ} {b : Bench} (l : Line) (at : List ℕ) → Steady k b → All (λ g. g.origin < F) (change b l at).faces
  unfolding change
  faces_low {k} {b} (dropped_face f why) at s =
      all_imp (λ g. (g.origin < F) × T (not (eqb f g.origin))) (λ g. g.origin < F) (λ g h. h.0) (filter (λ g. not (eqb f g.origin)) b.faces)
      (all_filter (λ g. g.origin < F) (λ g. not (eqb f g.origin)) b.faces s.low)
  faces_low {k} {b} (exchange f) at s = kept_low (λ g. cond (eqb f g.origin) (exchanged g) g) (λ g. one (eqb f g.origin) g) b.faces s.low
    where
      one : (t : Bool) (g : Face) → (cond t (exchanged g) g).origin ≡ g.origin
      one true g = unfold exchanged in refl
      one false g = refl
  faces_low {k} {b} (split_point old new fs) at s =
      kept_low (λ g. cond (has g.origin fs) (renamed (λ x. cond (eqb x old) new x) g) g) (λ g. one (has g.origin fs) g) b.faces s.low
    where
      one : (t : Bool) (g : Face) → (cond t (renamed (λ x. cond (eqb x old) new x) g) g).origin ≡ g.origin
      one true g = unfold renamed in refl
      one false g = refl
  faces_low (isolated_point v) at s = s.low

  -- one line more
  next : {k : ℕ} {b z : Bench} (l : Line) (ls : List (Option Line)) → Steady k b → Stepped P F b l ls z → Steady (suc k) (change b l (section l ∷ numbers l))
  next {k} {b} l ls s t =
      let at : List ℕ = section l ∷ numbers l in
      let f = foremost_low l s t.applies in
      let r = rises (P + 3 * F) s.before l s.first_low f (subst (λ xs. T (precedes xs at)) s.last t.behind) in
      record {
        points = points_are l at s;
        splits = splits_few l at s t.applies;
        low = faces_low l at s;
        before = some l;
        last = last_is b l at;
        first_low = f;
        many = omega (arith, s.many, splits_are b l at);
      }

  -- all of some lines
  all_steady : {k : ℕ} {b z : Bench} (ls : List (Option Line)) → Steady k b → through (with_list_line P F) (some b) ls ≡ some z → k + length ls ≤ 8 * (P + 3 * F) + 3 * F
  all_steady [] s e = omega (arith, s.many, s.splits, rank_low (P + 3 * F) s.before s.first_low)
  all_steady {k} {b} {z} (none ∷ ls) s e = absurd (no_step P F b ls z e)
  all_steady {k} {b} {z} (some l ∷ ls) s e = let t = step P F b l ls z e in omega (arith, all_steady {k = suc k} ls (next l ls s t) t.goes)

module _ (ps : List Point) (fs : List Face) (low : All (λ g. g.origin < length fs) fs) where
  -- so many lines at most apply
  abbrev pub most-lines : ℕ
  most-lines = 8 * (length ps + 3 * length fs) + 3 * length fs

  -- to the input
  pub few_lines : (ls : List (Option Line)) (z : Bench) → after_lines ps fs ls ≡ some z → length ls ≤ most-lines
  unfolding after_lines bench_of
  few_lines ls z e =
      omega (
        arith,
        all_steady (length ps) (length fs) {k = 0} ls
            (record { points = omega arith; splits = omega arith; low = low; before = none; last = refl; first_low = tt; many = omega arith })
            e,
      )

  -- where something stands after them, so many lines they are
  there_is : (ls : List (Option Line)) → is_none (after_lines ps fs ls) ≡ false → length ls ≤ most-lines
  unfolding is_none
  there_is ls h = go (after_lines ps fs ls) refl h
    where
      go : (o : Option Bench) → after_lines ps fs ls ≡ o → is_none o ≡ false → length ls ≤ most-lines
      go none e t = absurd (subst T t tt)
      go (some z) e t = few_lines ls z e

  -- the first bad line has no higher number
  pub bad_line_low : (text : List ℕ) (n p : ℕ) → no15 ps fs text ≡ no n p → p ≤ most-lines
  unfolding no15
  bad_line_low text n p e = go p found.inside found.before
    where
      ls : List (Option Line)
      ls = lines_read text

      bad : ℕ → Bool
      bad = λ k. is_none (after_lines ps fs (take (suc k) ls))

      found : FirstFault bad 0 (below (length ls)) p
      found = (fault_exactly bad 0 15 (below (length ls)) p).0 (e ∙ ap (λ k. no k p) (sym (fault_number bad 0 15 n (below (length ls)) p e)))

      go : (p : ℕ) → p < length (below (length ls)) → ((j : ℕ) → j < p → bad (get_or (below (length ls)) j 0) ≡ false) → p ≤ most-lines
      go zero l h = omega arith
      go (suc k) l h =
          let i : k < length ls = omega (arith, length_below (length ls)) in
          let m = length-take-le (suc k) ls i in
          let n = there_is (take (suc k) ls) (subst (λ j. bad j ≡ false) (get_or_below (length ls) k i) (h k (omega arith))) in
          omega arith
