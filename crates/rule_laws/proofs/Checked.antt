-- The edge check: that its yes rules out refusals 7 and 8, and that it says yes to every output that demand 3 covers. Assumes nothing.
use mathlib.Core.Path.{◌≡◌, sym, ap, subst}
use mathlib.Core.Bool.{Bool, true, not, ◌&&◌}
use mathlib.Core.List.{List, [], ◌∷◌, map, Memᴰ}
use Prim.Native.Nat.{ℕ, ◌+◌, ◌*◌, ◌/◌, ◌%◌, ◌≤◌, ◌<◌}
use native.Mathlib.Omega.{arith}
use native.Mathlib.Decide.{dec_lt}
use borrow.Author.Tests.{eq-eqb, ne_eqb, le-leb, le-ltb}
use lib.ListN.{length, get_or, length-map}
use lib.Dec.{T, eqb, leb, ltb, le→leb, eqb→eq, leb→le}
use lib.Ieee.{Float}
use lib.Ieee.Bits.{is_true}
use Rattle.rules.specs.Lists.{below, all, each, count, has}
use Rattle.rules.specs.Mesh.{Point, Face, face, points_of, faces_of, flat_faces, corners}
use Rattle.rules.specs.Float.{repeats}
use Rattle.rules.specs.Steps.{Step, steps, same}
use Rattle.rules.specs.Groups.{groups, leads}
use Rattle.rules.specs.Pass5.{fans, entries_at, share}
use Rattle.rules.specs.Edges.{sound, no7, no8}
use Rattle.rules.specs.State.{State}
use Rattle.rules.specs.Repair.{repaired}
use Rattle.rules.specs.Refusal.{ok, no1, no2, no6, most_points, most_faces}
use Rattle.rules.specs.Rooms.{work_room, Answer, accepted, refused, outcome}
use Rattle.rules.specs.Calls.{RepairRooms, repair_check, check_rooms, check_check, check}
use Rattle.rule_laws.proofs.Tests.{and_elim}
use Rattle.rule_laws.proofs.Members.{in_all, all_in, all_elim, all_intro, mem_each_of, mem_each, mem_at, mem_below, mem_has, has_mem, mem_index}
use Rattle.rule_laws.proofs.Counting.{count_some, some_count}
use Rattle.rule_laws.proofs.Decided.{decided_ok, unless_is}
use Rattle.rule_laws.proofs.Firsts.{at_first_ok}
use Rattle.rule_laws.proofs.Pigeons.{few_points}
use Rattle.rule_laws.proofs.Flat.{length_flat_faces}
use Rattle.rule_laws.proofs.Relabel.{flat_alike, inside_alike, sound_alike}
use Rattle.rule_laws.proofs.Manifold.{opted}
use Rattle.rule_laws.proofs.Groups.{covered}
use Rattle.rule_laws.proofs.Leaders.{groups_length}
use Rattle.rule_laws.proofs.Splitting.{entry_of, share_sym}
use Rattle.rule_laws.proofs.Demand.{Demand3, Beside, Distinct, OneFan, CheckEnough, SaysYes, ClaimChecked}
use Rattle.rule_laws.proofs.Demand3.{accepted_few, demand_opted, demand3, beside_opted, beside3}
use Rattle.rule_laws.proofs.Agreeing.{groups_of_fan, fan_of_groups}
use Rattle.rule_laws.proofs.Once.{Once, CornersBelow, Inside, same_is}
use Rattle.rule_laws.proofs.InOut.{walkers_count}
use Rattle.rule_laws.proofs.Accepts.{no5_ok, no7_ok, no8_ok}

-- no and yes are two answers
pub no_is_not_yes : accepted (0 ∷ []) ≡ accepted (1 ∷ []) → ⊥
no_is_not_yes e = absurd (omega (arith, ap said e))
  where
    said : Answer → ℕ
    said (accepted entries) = get_or entries 0 0
    said (refused n p) = 0

-- a used point has a group
pub some_fan : (fs : List Face) (v : ℕ) → Memᴰ v (each corners fs) → 0 < length (fans fs v)
unfolding fans face
some_fan fs v m =
    let w = mem_each_of corners v fs m in
    let k = mem_index (record { a = 0; b = 0; c = 0; origin = 0 }) w.0 fs w.1 in
    let a = entry_of fs v k.0 k.1 (mem_has v (corners (face fs k.0)) (subst (λ f. Memᴰ v (corners f)) (sym k.2) w.2)) in
    let n = length (entries_at fs v) in
    let j : ℕ → ℕ → Bool = λ k l. share v (face fs (get_or (entries_at fs v) k 0)) (face fs (get_or (entries_at fs v) l 0)) in
    let c = covered j n (λ k l t. share_sym v (face fs (get_or (entries_at fs v) k 0)) (face fs (get_or (entries_at fs v) l 0)) t) a.0 a.1 in
    let s = count_some (leads j n) c.0 (below n) (mem_below c.0 n c.1) c.2 in
    omega (arith, groups_length j n, s, length-map (groups j n) (map (λ k. get_or (entries_at fs v) k 0)))

-- three different corners are no repeat
no_repeat : (f : Face) → Distinct f → T (not (repeats f))
unfolding repeats
no_repeat f d = rw (ne_eqb f.a f.b d.0, ne_eqb f.b f.c d.1, ne_eqb f.c f.a d.2) tt

-- different corners, each directed edge at most once and at most one group at each used point make a yes
pub sound_of : (fs : List Face) → ((f : Face) → Memᴰ f fs → Distinct f) → ((d : Step) → count (same d) (each steps fs) ≤ 1)
    → ((v : ℕ) → Memᴰ v (each corners fs) → length (fans fs v) ≤ 1) → sound fs ≡ true
unfolding sound
sound_of fs distinct once fan =
    let a = is_true (all (λ f. not (repeats f)) fs) (all_intro (λ f. not (repeats f)) fs (in_all (λ f. T (not (repeats f))) fs (λ f m. no_repeat f (distinct f m)))) in
    let b =
    is_true (all (λ s. leb (count (same s) (each steps fs)) 1) (each steps fs))
    (all_intro (λ s. leb (count (same s) (each steps fs)) 1) (each steps fs) (in_all (λ s. T (leb (count (same s) (each steps fs)) 1)) (each steps fs) (λ s m. le→leb (count (same s) (each steps fs)) 1 (once s)))) in
    let c =
    is_true (all (λ v. eqb (length (fans fs v)) 1) (each corners fs))
    (all_intro (λ v. eqb (length (fans fs v)) 1) (each corners fs)
    (in_all (λ v. T (eqb (length (fans fs v)) 1)) (each corners fs)
    (λ v m. subst T (sym (eq-eqb (length (fans fs v)) 1 (omega (arith, fan v m, some_fan fs v m)))) tt))) in
    rw (a, b, c)

-- ---- every output that demand 3 covers

-- a mesh that meets demand 3, no face of which repeats a corner
pub sound_demanded : (m : State) → ((d : Step) → count (same d) (each steps m.faces) ≤ 1) → ((v : ℕ) → v < length m.points → OneFan m.faces v) → Beside m → sound m.faces ≡ true
unfolding face
sound_demanded m once fan beside =
    sound_of m.faces beside.is_distinct once
    (λ v k.
    let w = mem_each_of corners v m.faces k in
    groups_of_fan m.faces v (λ i h. beside.is_distinct (face m.faces i) (mem_at m.faces i (record { a = 0; b = 0; c = 0; origin = 0 }) h)) (fan v (inside w.0 w.1 w.2)))
  where
    inside : {v : ℕ} (f : Face) → Memᴰ f m.faces → Memᴰ v (corners f) → v < length m.points
    inside {v} f k c = let b = beside.corners_inside f k in all_in (λ x. x < length m.points) v (corners f) (b.0, (b.1, (b.2, tt))) c

-- refusal 6 is not given
check6_ok : (P F : ℕ) (work : List ℕ) → CheckEnough P F work → no6 (check_rooms P F) (length work ∷ []) ≡ ok
unfolding no6 check_rooms work_room below
check6_ok P F work enough =
    at_first_ok 6 (λ k. ltb (get_or (length work ∷ []) k 0) (get_or (check_rooms P F) k 0)) (below 1) (le-ltb (length work) (16 * P + 64 * F + 64) enough, tt)

-- the edge check refuses no faces over P points whose corners are points, where there are not too many of either and work room enough
pub check_accepts :
    (P : ℕ) (fs : List Face) → P ≤ most_points → length fs ≤ most_faces → Inside P fs → (work : List ℕ) → CheckEnough P (length (flat_faces fs) / 3) work
    → check_check P (flat_faces fs) work ≡ ok
unfolding check_check no1 no2
check_accepts P fs few few_faces inside work enough =
    rw f_is
    (decided_ok _ (
      unless_is 1 1 (eqb (length (flat_faces fs) % 3) 0) (eq-eqb (length (flat_faces fs) % 3) 0 (omega (arith, length_flat_faces fs))),
      (
        unless_is 2 0 (leb P most_points) (le-leb P most_points few),
        (
          unless_is 2 1 (leb (length fs) most_faces) (le-leb (length fs) most_faces few_faces),
          (
            no5_ok P (faces_of (flat_faces fs)) (inside_alike (faces_of (flat_faces fs)) fs (flat_alike fs) P inside),
            (
              check6_ok P (length fs) work (subst (λ F. CheckEnough P F work) f_is enough),
              tt,
            ),
          ),
        ),
      ),
    ))
  where
    f_is : length (flat_faces fs) / 3 ≡ length fs
    f_is = omega (arith, length_flat_faces fs)

-- a check whose refusals are none says yes where the rule does
yes_of : (P : ℕ) (fs : List Face) (work : List ℕ) → check_check P (flat_faces fs) work ≡ ok → sound fs ≡ true → (check P (flat_faces fs) work).answer ≡ accepted (1 ∷ [])
unfolding check outcome
yes_of P fs work e t = rw (e, sound_alike (faces_of (flat_faces fs)) fs (flat_alike fs), t)

-- the edge check says yes to a mesh that meets demand 3, where no face repeats a corner and there are not too many faces
pub says_yes : (ps : List Point) (fs : List Face) (m : State) → length fs ≤ most_faces → Demand3 ps fs m → Beside m → SaysYes (length m.points) (flat_faces m.faces)
says_yes ps fs m few d beside work enough =
    yes_of (length m.points) m.faces work
    (check_accepts (length m.points) m.faces (omega (arith, fewer, few_points (length m.points) m.faces d.every_used)) fewer (in_all (CornersBelow (length m.points)) m.faces beside.corners_inside) work enough)
    (sound_demanded m d.each_once d.one_fan beside)
  where
    fewer : length m.faces ≤ most_faces
    fewer = omega (arith, d.faces_add_up)

-- so it does with passes 1, 4, 5 and 6, whether or not passes 2 and 3 run
pub checked_opted : (two three : Bool) → ClaimChecked (opted true two three)
checked_opted two three points faces s r e =
    says_yes (points_of points) (faces_of faces) (repaired s (opted true two three) (points_of points) (faces_of faces)) (accepted_few points faces s (opted true two three) r e) (demand_opted true two three points faces s r e) (beside_opted two three points faces s r e)

-- with all six options
pub check_says_yes : ClaimChecked 63
check_says_yes = checked_opted true true

-- the rules' check says yes to what an accepted repair with all six options returns
pub sound_repaired : (points : List Float) (faces : List ℕ) (s : Float) (r : RepairRooms) → repair_check points faces s 63 r ≡ ok → sound (repaired s 63 (points_of points) (faces_of faces)).faces ≡ true
sound_repaired points faces s r e =
    let d = demand3 points faces s r e in
    sound_demanded (repaired s 63 (points_of points) (faces_of faces)) d.each_once d.one_fan (beside3 points faces s r e)

-- ---- what a yes says

module _ (fs : List Face) (said : sound fs ≡ true) where
  -- its three parts
  parts : T (all (λ f. not (repeats f)) fs) × T (all (λ s. leb (count (same s) (each steps fs)) 1) (each steps fs)) × T (all (λ v. eqb (length (fans fs v)) 1) (each corners fs))
  unfolding sound
  parts =
      let a = and_elim (all (λ f. not (repeats f)) fs && all (λ s. leb (count (same s) (each steps fs)) 1) (each steps fs)) (all (λ v. eqb (length (fans fs v)) 1) (each corners fs)) (subst T (sym said) tt) in
      let b = and_elim (all (λ f. not (repeats f)) fs) (all (λ s. leb (count (same s) (each steps fs)) 1) (each steps fs)) a.0 in
      (b.0, b.1, a.1)

  -- each directed edge is walked at most once
  pub yes_once : Once fs
  yes_once d = rw (walkers_count fs d) (go (dec_lt 0 (count (same d) (each steps fs))))
    where
      go : Dec (0 < count (same d) (each steps fs)) → count (same d) (each steps fs) ≤ 1
      go (yes h) =
          let w = some_count (same d) (each steps fs) h in
          let p : Step → Bool = λ s. leb (count (same s) (each steps fs)) 1 in
          leb→le (count (same d) (each steps fs)) 1 (subst (λ s. T (p s)) (sym (same_is d w.0 w.2)) (all_in (λ s. T (p s)) w.0 (each steps fs) (all_elim p (each steps fs) parts.1) w.1))
      go (no h) = omega arith

  -- the faces at each point form one fan
  pub yes_fan : (v : ℕ) → OneFan fs v
  unfolding face
  yes_fan v i j hi hj ti tj =
      let used = mem_each corners (face fs i) v fs (mem_at fs i (record { a = 0; b = 0; c = 0; origin = 0 }) hi) (has_mem v (corners (face fs i)) ti) in
      let one = eqb→eq (length (fans fs v)) 1 (all_in (λ u. T (eqb (length (fans fs u)) 1)) v (each corners fs) (all_elim (λ u. eqb (length (fans fs u)) 1) (each corners fs) parts.2) used) in
      fan_of_groups fs v (omega (arith, one)) i j hi hj ti tj

  -- so neither 7 nor 8 is given
  pub yes_fine : (P : ℕ) → (no7 P fs ≡ ok) × (no8 P fs ≡ ok)
  yes_fine P = (no7_ok P fs yes_once, no8_ok P fs yes_once (λ v h. yes_fan v))
