-- The lines of unused points, and the mesh that a bench leaves: that after pass 6, or the same where none is named. Assumes nothing.
use mathlib.Core.Path.{◌≡◌, refl, sym, ap, ◌∙◌, subst}
use mathlib.Core.Logic.{inr}
use mathlib.Core.Bool.{Bool, true, false, not, cond, not-not}
use mathlib.Core.Option.{some}
use mathlib.Core.List.{List, [], ◌∷◌, ◌++◌, map, append-nil}
use Prim.Native.Nat.{ℕ, zero, suc, ◌≤◌, ◌<◌, zero-le, suc-le-suc}
use native.Mathlib.Omega.{arith}
use borrow.Author.Tests.{lt-ltb}
use lib.Dec.{T, ltb}
use lib.Ieee.Fits.{and_i}
use lib.ListN.{length}
use Rattle.rules.specs.Lists.{below, filter, count, any, each, leave, through, has}
use Rattle.rules.specs.Mesh.{Point, Face, renamed}
use Rattle.rules.specs.State.{State}
use Rattle.rules.specs.Pass6.{used, marked6, number, pass6}
use Rattle.rules.specs.Mending.{Line, isolated_point, lines6}
use Rattle.rules.specs.Applying.{section, numbers, applies, change, with_list_line, finished}
use Rattle.rule_laws.proofs.Tests.{both_ways}
use Rattle.rule_laws.proofs.Lists.{each_append, filter_append, length_below}
use Rattle.rule_laws.proofs.Rising.{all_imp, map_same}
use Rattle.rule_laws.proofs.Members.{has_mem, mem_has, mem_below, mem_filter, mem_left}
use Rattle.rule_laws.proofs.Counting.{count_all, count_below_agree}
use Rattle.rule_laws.proofs.Once.{Inside, CornersBelow}
use Rattle.mending_laws.proofs.Running.{bench, run, run_append, Early, Behind, early_behind, behind_early, behind_later, behind_precedes, stepped, Ran}

-- a marked point is unused
unused : (fs : List Face) (k : ℕ) → marked6 fs k ≡ true → T (not (used fs k))
unfolding marked6
unused fs k e = subst T (sym e) tt

module _ (P F : ℕ) (ps : List Point) (fs : List Face) (n : ℕ) (first : List ℕ) where
  -- the line of an unused point
  abbrev mark : ℕ → List Line
  mark v = cond (marked6 fs v) (isolated_point v ∷ []) []

  -- the lines of the points below k run, and name those that are unused
  record Named (k : ℕ) : Type 0 where
    last : List ℕ
    behind : Behind 7 k last
    goes : run P F (some (bench ps fs n [] first)) (each mark (below k)) ≡ some (bench ps fs n (filter (marked6 fs) (below k)) last)

  -- one point more
  next_named : (k : ℕ) → k < length ps → Named k → Named (suc k)
  unfolding below each filter
  next_named k h r = go (marked6 fs k) refl
    where
      before : (b : Bool) → run P F (some (bench ps fs n [] first)) (each mark (below k) ++ (cond b (isolated_point k ∷ []) [] ++ [])) ≡ run P F (some (bench ps fs n (filter (marked6 fs) (below k)) r.last)) (cond b (isolated_point k ∷ []) [] ++ [])
      before b = run_append P F (some (bench ps fs n [] first)) (each mark (below k)) (cond b (isolated_point k ∷ []) [] ++ []) ∙ ap (λ t. run P F t (cond b (isolated_point k ∷ []) [] ++ [])) r.goes

      one : marked6 fs k ≡ true → with_list_line P F (some (bench ps fs n (filter (marked6 fs) (below k)) r.last)) (some (isolated_point k)) ≡ some (bench ps fs n (filter (marked6 fs) (below k) ++ (k ∷ [])) (7 ∷ k ∷ []))
      one e =
          unfold section numbers applies change in
          (stepped P F (bench ps fs n (filter (marked6 fs) (below k)) r.last) (isolated_point k)
          (behind_precedes 7 k k r.last [] r.behind (omega arith)) (and_i (ltb k (length ps)) (not (used fs k)) (rw (lt-ltb k (length ps) h) tt) (unused fs k e)))

      go : (b : Bool) → marked6 fs k ≡ b → Named (suc k)
      go b e =
          record {
            last = cond b (7 ∷ k ∷ []) r.last;
            behind = late b;
            goes =
                ap (run P F (some (bench ps fs n [] first))) (each_append mark (below k) (k ∷ []) ∙ ap (λ (c : Bool). each mark (below k) ++ (cond c (isolated_point k ∷ []) [] ++ [])) e)
                ∙ before b ∙ runs b e
                ∙ ap (λ us. some (bench ps fs n us (cond b (7 ∷ k ∷ []) r.last))) (ap (λ (c : Bool). filter (marked6 fs) (below k) ++ cond c (k ∷ []) []) (sym e) ∙ sym (filter_append (marked6 fs) (below k) (k ∷ [])));
          }
        where
          late : (b : Bool) → Behind 7 (suc k) (cond b (7 ∷ k ∷ []) r.last)
          late true = inr (refl, omega arith)
          late false = behind_later 7 k (suc k) r.last (omega arith) r.behind

          runs : (b : Bool) → marked6 fs k ≡ b
              → run P F (some (bench ps fs n (filter (marked6 fs) (below k)) r.last)) (cond b (isolated_point k ∷ []) [] ++ []) ≡ some (bench ps fs n (filter (marked6 fs) (below k) ++ cond b (k ∷ []) []) (cond b (7 ∷ k ∷ []) r.last))
          runs true e = unfold through in (one e)
          runs false e = unfold through in (ap (λ us. some (bench ps fs n us r.last)) (sym (append-nil (filter (marked6 fs) (below k)))))

  -- all points below k
  all_named : Early 7 first → (k : ℕ) → k ≤ length ps → Named k
  all_named h zero l = unfold below each filter through in (record { last = first; behind = early_behind 7 0 first h; goes = refl })
  all_named h (suc k) l = next_named k l (all_named h k (omega arith))

-- the lines of pass 6 run, and name the unused points
pub isolated_run :
    (P F : ℕ) (m : State) (n : ℕ) (last : List ℕ) → Early 7 last
    → Ran P F (some (bench m.points m.faces n [] last)) (lines6 m) m.points m.faces n (filter (marked6 m.faces) (below (length m.points))) 8
unfolding lines6
isolated_run P F m n last h =
    let r = all_named P F m.points m.faces n last h (length m.points) (omega arith) in
    record { last = r.last; early = behind_early 7 (length m.points) r.last r.behind; goes = r.goes }

-- ---- the mesh that a bench leaves

-- marks that agree within the list
leave_agree : {A : Type 0} (p q : ℕ → Bool) (xs : List A) → ((i : ℕ) → i < length xs → p i ≡ q i) → leave p xs ≡ leave q xs
unfolding leave
leave_agree p q [] h = refl
leave_agree p q (x ∷ xs) h =
    let r = leave_agree (λ i. p (suc i)) (λ i. q (suc i)) xs (λ i l. h (suc i) (suc-le-suc l)) in
    λ i. cond (h 0 (suc-le-suc zero-le) i) (r i) (x ∷ r i)

-- no marks
leave_none : {A : Type 0} (xs : List A) → leave (λ i. false) xs ≡ xs
unfolding leave
leave_none [] = refl
leave_none (x ∷ xs) = ap (λ l. x ∷ l) (leave_none xs)

-- numbers that agree on the corners
renamed_agree : (N : ℕ) (p q : ℕ → ℕ) → ((v : ℕ) → v < N → p v ≡ q v) → (fs : List Face) → Inside N fs → map (renamed p) fs ≡ map (renamed q) fs
unfolding renamed
renamed_agree N p q h fs inside =
    map_same (renamed p) (renamed q) fs
    (all_imp (CornersBelow N) (λ f. renamed p f ≡ renamed q f) (λ f b i. record { a = h f.a b.0 i; b = h f.b b.1 i; c = h f.c b.2 i; origin = f.origin }) fs inside)

-- each number is itself
renamed_itself : (fs : List Face) → map (renamed (λ v. v)) fs ≡ fs
unfolding renamed
renamed_itself [] = refl
renamed_itself (f ∷ fs) = ap (λ l. f ∷ l) (renamed_itself fs)

-- what is named, by place
has_named : (p : ℕ → Bool) (N v : ℕ) → v < N → has v (filter p (below N)) ≡ p v
has_named p N v h =
    both_ways (has v (filter p (below N))) (p v) (λ t. (mem_left p v (below N) (has_mem v (filter p (below N)) t)).1)
    (λ t. mem_has v (filter p (below N)) (mem_filter p v (below N) (mem_below v N h) t))

-- the points before v that are not named are those that are used
named_number : (fs : List Face) (N v : ℕ) → v < N → count (λ u. not (has u (filter (marked6 fs) (below N)))) (below v) ≡ number fs v
unfolding number marked6
named_number fs N v h =
    count_below_agree (λ u. not (has u (filter (marked6 fs) (below N)))) (used fs) v
    (λ i l. ap not (has_named (marked6 fs) N i (omega arith)) ∙ not-not (used fs i))

module _ (m : State) (n : ℕ) (last : List ℕ) (inside : Inside (length m.points) m.faces) where
  -- with the unused points named it is the mesh after pass 6
  pub finished_six :
      ((finished (bench m.points m.faces n (filter (marked6 m.faces) (below (length m.points))) last)).points ≡ (pass6 m).points)
      × ((finished (bench m.points m.faces n (filter (marked6 m.faces) (below (length m.points))) last)).faces ≡ (pass6 m).faces)
  unfolding finished pass6
  finished_six =
      let N = length m.points in
      let us = filter (marked6 m.faces) (below N) in (
        leave_agree (λ v. has v us) (marked6 m.faces) m.points (λ i h. has_named (marked6 m.faces) N i h),
        renamed_agree N (λ v. count (λ u. not (has u us)) (below v)) (number m.faces)
            (named_number m.faces N)
            m.faces inside,
      )

  -- with none named it is the mesh that stands
  pub finished_none :
      ((finished (bench m.points m.faces n [] last)).points ≡ m.points) × ((finished (bench m.points m.faces n [] last)).faces ≡ m.faces)
  unfolding finished has any
  finished_none =
      (leave_none m.points, ap (λ (f : ℕ → ℕ). map (renamed f) m.faces) (λ k v. (count_all true (below v) ∙ length_below v) k) ∙ renamed_itself m.faces)
